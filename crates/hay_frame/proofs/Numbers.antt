-- The number in a first line.
use Rattle.std.proofs.Common.{◌≡◌, ℕ, ◌+◌, ◌<◌, ◌≤◌, ◌==◌, ◌&&◌, nat_lt, nat_le, Bool, true}
use Rattle.std.proofs.Common.{false, if◌then◌else◌, List, [], ◌∷◌, ◌++◌, length, Some, None, refl, arith}
use Rattle.std.specs.Prelude.{codes, drop}
use Rattle.std.specs.Char.{is_ascii_digit}
use Rattle.std.specs.List.{list_all, starts_with}
use Rattle.std.specs.Str.Parse.{digits_value}
use Rattle.std.proofs.lemmas.Bool.Decides.{nat_tests, Decides-eqb}
use Rattle.std.proofs.lemmas.Slice.Eq.{starts_is}
use Rattle.hay_script.specs.Script.{below}
use Rattle.hay_script.specs.declared.words.TheConstants.{MAX_SCRIPT}
use Rattle.hay_lines.specs.Lines.{NoFeed}
use Rattle.hay_frame.specs.Frames.{length_in}

-- digits of a number
pub record AreDigits (text : List ℕ) : Type 0 where
  pub few : length text ≤ 20
  pub all : list_all is_ascii_digit text ≡ true

digits_if : (some few all within : Bool) (n m : ℕ) → (if some && few && all && within then Some n else None) ≡ Some m → (few ≡ true) × (all ≡ true)
digits_if true true true true n m h = (refl, refl)
digits_if true true true false n m h = cc
digits_if true true false within n m h = cc
digits_if true false all within n m h = cc
digits_if false few all within n m h = cc

pub below_digits : (limit : ℕ) (text : List ℕ) (n : ℕ) → below limit text ≡ Some n → AreDigits text
below_digits limit text n h =
    let is = digits_if (nat_lt 0 (length text)) (nat_le (length text) 20) (list_all is_ascii_digit text) (nat_lt (digits_value 10 text) limit)
    (digits_value 10 text) n h in
    let short : nat_le (length text) 20 ≡ true = is.0 in
    record { few = grind (arith, nat_tests); all = is.1 }

pub digits_free : (text : List ℕ) → list_all is_ascii_digit text ≡ true → NoFeed text
digits_free [] all = tt
digits_free (b ∷ text) all = (λ same. grind (arith, nat_tests), digits_free text (grind (arith, nat_tests)))

-- the word and its digits are a good line
pub length_in_word : (digits : List ℕ) → length_in (codes "script " ++ digits) ≡ below (MAX_SCRIPT + 1) digits
length_in_word digits = refl

by_word : (line : List ℕ) (n : ℕ) (starts : Bool) → (starts ≡ true → line ≡ codes "script " ++ drop 7 line)
    → (if starts then below (MAX_SCRIPT + 1) (drop 7 line) else None) ≡ Some n
    → (line ≡ codes "script " ++ drop 7 line) × (below (MAX_SCRIPT + 1) (drop 7 line) ≡ Some n)
by_word line n true begins h = (begins refl, h)
by_word line n false begins h = cc

-- a good line is the word and digits
pub word_of_length : (line : List ℕ) (n : ℕ) → length_in line ≡ Some n
    → (line ≡ codes "script " ++ drop 7 line) × (below (MAX_SCRIPT + 1) (drop 7 line) ≡ Some n)
word_of_length line n h =
    let starts = starts_with ◌==◌ line (codes "script ") in
    by_word line n starts (starts_is Decides-eqb line (codes "script ") starts refl).0 h

below_limit : (some few all : Bool) (limit n m : ℕ) → (if some && few && all && nat_lt n limit then Some n else None) ≡ Some m → m < limit
below_limit some few all limit n m h = grind (arith, nat_tests)

pub length_within : (line : List ℕ) (n : ℕ) → length_in line ≡ Some n → n ≤ MAX_SCRIPT
length_within line n h =
    let text = drop 7 line in
    let less : n < MAX_SCRIPT + 1 = below_limit (nat_lt 0 (length text)) (nat_le (length text) 20) (list_all is_ascii_digit text) (MAX_SCRIPT + 1)
    (digits_value 10 text) n (word_of_length line n h).1 in
    omega arith
