-- The words of what is written word by word, and what they are read as.
use Rattle.std.proofs.Common.{◌≡◌, ℕ, ◌<◌, ◌^◌, ◌&&◌, not, nat_lt, Bool, true, false, List, [], ◌∷◌, ◌++◌, length, Option, Some, refl, sym, ◌∙◌, ap, arith, decimal, append-nil}
use Rattle.std.proofs.Common.{map, flat_map, zero, suc}
use Rattle.std.specs.Char.{is_ascii_digit, digit_value}
use Rattle.std.specs.Int.{w64, to_be_bytes, bytes_high_first, byte_at}
use Rattle.std.specs.List.{list_all, AllByRecursion}
use Rattle.std.specs.Result.{result_ok}
use Rattle.std.specs.Str.Parse.{AllDigits, digits_value}
use Rattle.std.proofs.lemmas.Bool.{and_parts, false≢true}
use Rattle.std.proofs.lemmas.Bool.Decides.{nat_tests}
use Rattle.std.proofs.lemmas.Fmt.{decimal_is_IsNumeral}
use Rattle.std.proofs.lemmas.List.Splits.{slice_split-cons_yes, slice_split-cons_no}
use Rattle.std.proofs.lemmas.Nat.{from_be_bytes-to_be_bytes_8}
use Rattle.std.proofs.lemmas.Str.Parse.{digit_from_value}
use Rattle.hex.specs.Hex.{IsBytes}
use Rattle.hex.proofs.HexLemmas.{decode_sized-encode_lower}
use Rattle.hay_needle.specs.declared.needle.Cookie.{Cookie}
use Rattle.hay_url.specs.Url.{cookie_text}
use Rattle.hay_url.specs.Parts.{is_lower_hex}
use Rattle.hay_url.proofs.Digits.{long_digits}
use Rattle.hay_reply.specs.Reading.{is_mark, parts_of, number, small, large, closed_of, closed_by, cookie_of_word, cookie_by, all_of}

-- WORDS

-- none of these is the mark
abbrev pub Plain : ℕ → List ℕ → Type 0
Plain mark word = list_all (λ b. not (is_mark mark b)) word ≡ true

not_true : (b : Bool) → not b ≡ true → b ≡ false
not_true true h = cc
not_true false h = refl

same_mark : (mark : ℕ) → is_mark mark mark ≡ true
same_mark mark = grind (arith, nat_tests)

pub first_word : (mark : ℕ) (word rest : List ℕ) → Plain mark word → parts_of mark (word ++ mark ∷ rest) ≡ word ∷ parts_of mark rest
first_word mark [] rest h = slice_split-cons_yes (is_mark mark) mark rest (same_mark mark)
first_word mark (b ∷ word) rest h =
    let parts = and_parts (not (is_mark mark b)) (list_all (λ c. not (is_mark mark c)) word) h in
    let further = first_word mark word rest parts.1 in
    slice_split-cons_no (is_mark mark) b (word ++ mark ∷ rest) (not_true (is_mark mark b) parts.0) ∙ rw further refl

pub last_word : (mark : ℕ) (word : List ℕ) → Plain mark word → parts_of mark word ≡ word ∷ []
last_word mark [] h = refl
last_word mark (b ∷ word) h =
    let parts = and_parts (not (is_mark mark b)) (list_all (λ c. not (is_mark mark c)) word) h in
    let further = last_word mark word parts.1 in
    slice_split-cons_no (is_mark mark) b word (not_true (is_mark mark b) parts.0) ∙ rw further refl

pub two_words : (mark : ℕ) (a b : List ℕ) → Plain mark a → Plain mark b → parts_of mark (a ++ mark ∷ b) ≡ a ∷ b ∷ []
two_words mark a b h k = first_word mark a b h ∙ ap (λ ps. a ∷ ps) (last_word mark b k)

pub three_words : (mark : ℕ) (a b c : List ℕ) → Plain mark a → Plain mark b → Plain mark c → parts_of mark (a ++ mark ∷ (b ++ mark ∷ c)) ≡ a ∷ b ∷ c ∷ []
three_words mark a b c h k l = first_word mark a (b ++ mark ∷ c) h ∙ ap (λ ps. a ∷ ps) (two_words mark b c k l)

pub four_words : (mark : ℕ) (a b c d : List ℕ) → Plain mark a → Plain mark b → Plain mark c → Plain mark d → parts_of mark (a ++ mark ∷ (b ++ mark ∷ (c ++ mark ∷ d))) ≡ a ∷ b ∷ c ∷ d ∷ []
four_words mark a b c d h k l m = first_word mark a (b ++ mark ∷ (c ++ mark ∷ d)) h ∙ ap (λ ps. a ∷ ps) (three_words mark b c d k l m)

pub five_words : (mark : ℕ) (a b c d e : List ℕ) → Plain mark a → Plain mark b → Plain mark c → Plain mark d → Plain mark e
    → parts_of mark (a ++ mark ∷ (b ++ mark ∷ (c ++ mark ∷ (d ++ mark ∷ e)))) ≡ a ∷ b ∷ c ∷ d ∷ e ∷ []
five_words mark a b c d e h k l m n = first_word mark a (b ++ mark ∷ (c ++ mark ∷ (d ++ mark ∷ e))) h ∙ ap (λ ps. a ∷ ps) (four_words mark b c d e k l m n)

pub six_words : (mark : ℕ) (a b c d e f : List ℕ) → Plain mark a → Plain mark b → Plain mark c → Plain mark d → Plain mark e → Plain mark f
    → parts_of mark (a ++ mark ∷ (b ++ mark ∷ (c ++ mark ∷ (d ++ mark ∷ (e ++ mark ∷ f))))) ≡ a ∷ b ∷ c ∷ d ∷ e ∷ f ∷ []
six_words mark a b c d e f h k l m n o = first_word mark a (b ++ mark ∷ (c ++ mark ∷ (d ++ mark ∷ (e ++ mark ∷ f)))) h ∙ ap (λ ps. a ∷ ps) (five_words mark b c d e f k l m n o)

-- the words of groups, each behind a space
pub group_words : {X : Type 0} (Fit : X → Type 0) (text word : X → List ℕ) (head : List ℕ) (xs : List X) → ((x : X) → text x ≡ 32 ∷ word x) → ((x : X) → Fit x → Plain 32 (word x))
    → Plain 32 head → AllByRecursion Fit xs → parts_of 32 (head ++ flat_map text xs) ≡ head ∷ map word xs
group_words Fit text word head [] spaced plain here all = ap (parts_of 32) (append-nil head) ∙ last_word 32 head here
group_words Fit text word head (x ∷ xs) spaced plain here all =
    ap (λ t. parts_of 32 (head ++ (t ++ flat_map text xs))) (spaced x)
    ∙ first_word 32 head (word x ++ flat_map text xs) here
    ∙ ap (λ ps. head ∷ ps) (group_words Fit text word (word x) xs spaced plain (plain x all.0) all.1)

pub all_back : {X : Type 0} (Fit : X → Type 0) (read : List ℕ → Option X) (word : X → List ℕ) (xs : List X) → ((x : X) → Fit x → read (word x) ≡ Some x) → AllByRecursion Fit xs
    → all_of read (map word xs) ≡ Some xs
all_back Fit read word [] back all = refl
all_back Fit read word (x ∷ xs) back all = rw (back x all.0, all_back Fit read word xs back all.1) refl

-- NUMBERS

unlike_by : (mark b : ℕ) (test : Bool) → is_mark mark b ≡ test → digit_value mark ≡ 36 → digit_value b < 10 → test ≡ false
unlike_by mark b true same other digit =
    let e : b ≡ mark = grind (arith, nat_tests) in
    absurd (omega (arith, ap digit_value e))
unlike_by mark b false same other digit = refl

unlike_lower_by : (mark b : ℕ) (test : Bool) → is_mark mark b ≡ test → is_lower_hex mark ≡ false → is_lower_hex b ≡ true → test ≡ false
unlike_lower_by mark b true same other lower =
    let e : b ≡ mark = grind (arith, nat_tests) in
    absurd (false≢true (sym other ∙ sym (ap is_lower_hex e) ∙ lower))
unlike_lower_by mark b false same other lower = refl

unlike_lower : (mark b : ℕ) → is_lower_hex mark ≡ false → is_lower_hex b ≡ true → is_mark mark b ≡ false
unlike_lower mark b other lower = unlike_lower_by mark b (is_mark mark b) refl other lower

unlike : (mark b : ℕ) → digit_value mark ≡ 36 → digit_value b < 10 → is_mark mark b ≡ false
unlike mark b other digit = unlike_by mark b (is_mark mark b) refl other digit

plain_more : (mark b : ℕ) (word : List ℕ) → is_mark mark b ≡ false → Plain mark word → Plain mark (b ∷ word)
plain_more mark b word here rest = rw (here, rest) refl

plain_digits : (mark : ℕ) (digits : List ℕ) → digit_value mark ≡ 36 → AllDigits 10 digits → Plain mark digits
plain_digits mark [] other all = refl
plain_digits mark (b ∷ digits) other all = plain_more mark b digits (unlike mark b other all.0) (plain_digits mark digits other all.1)

ascii_digits : (digits : List ℕ) → AllDigits 10 digits → list_all is_ascii_digit digits ≡ true
ascii_digits [] all = refl
ascii_digits (b ∷ digits) all =
    let code = digit_from_value b all.0 in
    let rest = ascii_digits digits all.1 in
    grind (arith, nat_tests)

pub plain_decimal : (mark n : ℕ) → digit_value mark ≡ 36 → n < 2 ^ 64 → Plain mark (decimal n)
plain_decimal mark n other fits = plain_digits mark (decimal n) other (decimal_is_IsNumeral n fits).0.1

number_by : (limit n : ℕ) (text : List ℕ) → 0 < length text → list_all is_ascii_digit text ≡ true → digits_value 10 text ≡ n → n < limit → number limit text ≡ Some n
number_by limit n text some all value below =
    let test : (nat_lt 0 (length text) && list_all is_ascii_digit text && nat_lt (digits_value 10 text) limit) ≡ true = grind (arith, nat_tests) in
    rw test (ap Some value)

pub large_back : (n : ℕ) → n < 2 ^ 64 → large (decimal n) ≡ Some n
large_back n fits =
    let numeral = decimal_is_IsNumeral n fits in
    number_by (2 ^ 64) n (decimal n) numeral.0.0 (ascii_digits (decimal n) numeral.0.1) numeral.1 fits

pub small_back : (n : ℕ) → n < 2 ^ 32 → small (decimal n) ≡ Some n
small_back n fits =
    let numeral = decimal_is_IsNumeral n (omega arith) in
    number_by (2 ^ 32) n (decimal n) numeral.0.0 (ascii_digits (decimal n) numeral.0.1) numeral.1 fits

pub place_back : (v m : ℕ) → v < 2 ^ 32 → m < 2 ^ 32 → closed_of (decimal v ++ 58 ∷ decimal m) ≡ Some (record { volume = v; machine = m })
place_back v m hv hm =
    ap closed_by (two_words 58 (decimal v) (decimal m) (plain_decimal 58 v refl (omega arith)) (plain_decimal 58 m refl (omega arith)))
    ∙ rw (small_back v hv, small_back m hm) refl

-- COOKIES

byte_fits : (k n : ℕ) → byte_at k n < 256
byte_fits zero n = omega arith
byte_fits (suc k) n = omega arith

are_bytes : (k n : ℕ) → IsBytes (bytes_high_first k n)
are_bytes zero n i = omega arith
are_bytes (suc k) n zero = byte_fits k n
are_bytes (suc k) n (suc i) = are_bytes k n i

pub cookie_back : (c : Cookie) → c.0 < 2 ^ 64 → cookie_of_word (cookie_text c) ≡ Some c
cookie_back c fits =
    ap (λ r. cookie_by (result_ok r)) (decode_sized-encode_lower (to_be_bytes w64 c.0) 8 refl (are_bytes 8 c.0))
    ∙ ap (λ n. Some (record { 0 = n })) (from_be_bytes-to_be_bytes_8 c.0 fits)

pub plain_lower : (mark : ℕ) (digits : List ℕ) → is_lower_hex mark ≡ false → list_all is_lower_hex digits ≡ true → Plain mark digits
plain_lower mark [] other all = refl
plain_lower mark (b ∷ digits) other all =
    let parts = and_parts (is_lower_hex b) (list_all is_lower_hex digits) all in
    plain_more mark b digits (unlike_lower mark b other parts.0) (plain_lower mark digits other parts.1)

pub plain_cookie : (c : Cookie) → Plain 32 (cookie_text c)
plain_cookie c = plain_lower 32 (cookie_text c) refl (long_digits c.0).1
