-- Where words begin and end.
use Rattle.std.proofs.Common.{◌≡◌, ℕ, ◌+◌, ◌<◌, ◌≤◌, nat_lt, Bool, true, false, not, List, [], ◌∷◌, length, take, drop, get_or}
use Rattle.std.proofs.Common.{Option, Some, None, unwrap_or, position, refl, sym, ◌∙◌, ap, arith, filter, cond, suc, add-one, drop-cons, length-take, if◌then◌else◌, ◌==◌, ◌&&◌}
use Rattle.std.specs.List.{slice_split, position_or_len, list_all, join_with_byte}
use Rattle.std.proofs.lemmas.Grind.{common_steps}
use Rattle.std.proofs.lemmas.Bool.Decides.{nat_tests}
use Rattle.std.proofs.lemmas.List.Splits.{slice_split_first, slice_split-cons_yes, slice_split-cons_no, join_with_byte-slice_split}
use Rattle.std.proofs.lemmas.Bool.{false_from_ne_true}
use Rattle.std.proofs.lemmas.List.Sums.{passes_at_first, position_or_len_is, prefix_len-le-length}
use Rattle.memchr.specs.Find.{IsFirstByte}
use Rattle.std.proofs.lemmas.List.{drop_all, take_all}
use Rattle.hay_script.specs.Script.{is_blank, is_word, words_of, is_colon, equal_bytes, run_of_parts, from_one}
use Rattle.hay_needle.specs.declared.total.TheConstants.{MAX_PHOTO}
use Rattle.hex.specs.Hex.{is_hex_digit}
use Rattle.std.specs.Str.Parse.{digits_value}
use Rattle.std.specs.Prelude.{option_map, replicate}

-- A part that nothing cuts is the one part.
no_cut : (p : ℕ → Bool) (xs : List ℕ) → length xs ≤ position_or_len p xs → slice_split p xs ≡ xs ∷ []
no_cut p [] h = refl
no_cut p (x ∷ xs) h = grind (arith, common_steps, nat_tests, no_cut p xs)

found : (n len i : ℕ) → Some i ≡ cond (nat_lt n len) (Some n) None → (n < len) × (i ≡ n)
found n len i h = grind (arith, nat_tests)

not_found : (n len : ℕ) → cond (nat_lt n len) (Some n) None ≡ None → len ≤ n
not_found n len h = grind (arith, nat_tests)

pub one_part : (p : ℕ → Bool) (xs : List ℕ) → None ≡ position p xs → slice_split p xs ≡ xs ∷ []
one_part p xs h = no_cut p xs (not_found (position_or_len p xs) (length xs) (sym h))

pub first_part : (p : ℕ → Bool) (xs : List ℕ) (i : ℕ) → Some i ≡ position p xs → slice_split p xs ≡ take i xs ∷ slice_split p (drop (i + 1) xs)
first_part p xs i h =
    let at = found (position_or_len p xs) (length xs) i h in
    rw (at.1) (slice_split_first p xs 0 at.0)

place_found : (n len : ℕ) → n < len → Some n ≡ cond (nat_lt n len) (Some n) None
place_found n len h = grind (arith, nat_tests)

nothing_found : (n len : ℕ) → n ≡ len → None ≡ cond (nat_lt n len) (Some n) None
nothing_found n len h = grind (arith, nat_tests)

-- the first place that a search finds
pub searched : (p : ℕ → Bool) (xs : List ℕ) (r : Option ℕ) → IsFirstByte p xs r → r ≡ position p xs
searched p xs None h =
    let at = position_or_len_is p xs (length xs) 0 (omega arith) (λ k l. false_from_ne_true (p (get_or xs k 0)) (h k (omega arith) l)) (λ l. absurd (omega arith)) in
    nothing_found (position_or_len p xs) (length xs) at
searched p xs (Some i) h =
    let at = position_or_len_is p xs i 0 (omega (arith, h.0.high)) (λ k l. false_from_ne_true (p (get_or xs k 0)) (h.0.before k (omega arith) l)) (λ l. h.1) in
    ap Some (sym at) ∙ place_found (position_or_len p xs) (length xs) (rw at (h.0.high))

abbrev pub is_other : ℕ → Bool
is_other b = not (is_blank b)

words_behind_blank : (x : ℕ) (xs : List ℕ) → is_blank x ≡ true → words_of (x ∷ xs) ≡ words_of xs
words_behind_blank x xs h = ap (filter is_word) (slice_split-cons_yes is_blank x xs h)

skip_one : (x : ℕ) (xs : List ℕ) (n : ℕ) (b : Bool) → is_blank x ≡ b → words_of xs ≡ words_of (drop n xs) → words_of (x ∷ xs) ≡ words_of (drop (cond (not (not b)) (1 + n) 0) (x ∷ xs))
skip_one x xs n true h e =
    let one : 1 + n ≡ suc n = omega arith in
    rw one (words_behind_blank x xs h ∙ e)
skip_one x xs n false h e = refl

-- Blanks before a word are no word.
skip : (xs : List ℕ) → words_of xs ≡ words_of (drop (position_or_len is_other xs) xs)
skip [] = refl
skip (x ∷ xs) = skip_one x xs (position_or_len is_other xs) (is_blank x) refl (skip xs)

pub no_word : (xs : List ℕ) → None ≡ position is_other xs → words_of xs ≡ []
no_word xs h =
    let past = not_found (position_or_len is_other xs) (length xs) (sym h) in
    skip xs ∙ ap words_of (drop_all (position_or_len is_other xs) xs past)

keep_word : (word : List ℕ) (parts : List (List ℕ)) → 0 < length word → filter is_word (word ∷ parts) ≡ word ∷ filter is_word parts
keep_word word parts some = grind (arith, nat_tests)

word_before_blank : (xs : List ℕ) (n : ℕ) → 0 < n → n < length xs → n ≡ position_or_len is_blank xs → words_of xs ≡ take n xs ∷ words_of (drop n xs)
word_before_blank xs n some within e =
    let cut : slice_split is_blank xs ≡ take n xs ∷ slice_split is_blank (drop (n + 1) xs) = rw e (slice_split_first is_blank xs 0 (rw (← e) within)) in
    let long : 0 < length (take n xs) = omega (arith, length-take n xs) in
    let blank : is_blank (get_or xs n 0) ≡ true = rw e (passes_at_first is_blank xs 0 (rw (← e) within)) in
    let rest : words_of (drop n xs) ≡ words_of (drop (n + 1) xs) = rw (drop-cons xs n 0 within, add-one) (words_behind_blank (get_or xs n 0) (drop (suc n) xs) blank) in
    rw rest (ap (filter is_word) cut ∙ keep_word (take n xs) (slice_split is_blank (drop (n + 1) xs)) long)

word_at_end : (xs : List ℕ) (n : ℕ) → 0 < n → length xs ≤ n → n ≡ position_or_len is_blank xs → words_of xs ≡ take n xs ∷ words_of (drop n xs)
word_at_end xs n some past e =
    let long : 0 < length xs = omega (arith, prefix_len-le-length (λ x. not (is_blank x)) xs) in
    let whole : take n xs ≡ xs = take_all n xs past in
    let end : drop n xs ≡ [] = drop_all n xs past in
    rw (whole, end) (ap (filter is_word) (no_cut is_blank xs (rw e at past)) ∙ keep_word xs [] long)

-- A word ends at the first blank behind it, or where the line ends.
one_word : (xs : List ℕ) (n : ℕ) (b : Bool) → nat_lt n (length xs) ≡ b → 0 < n → n ≡ position_or_len is_blank xs → words_of xs ≡ take n xs ∷ words_of (drop n xs)
one_word xs n true within some e = word_before_blank xs n some (grind (arith, nat_tests)) e
one_word xs n false past some e = word_at_end xs n some (grind (arith, nat_tests)) e

place_or_end : (n len : ℕ) → n ≤ len → unwrap_or (cond (nat_lt n len) (Some n) None) len ≡ n
place_or_end n len h = grind (arith, nat_tests)

begins_other : (xs : List ℕ) → is_blank (get_or xs 0 32) ≡ false → 0 < position_or_len is_blank xs
begins_other [] h = cc
begins_other (x ∷ xs) h = grind (arith, nat_tests)

not_other : (b : Bool) → not b ≡ true → b ≡ false
not_other true h = cc
not_other false h = refl

pub first_word : (xs : List ℕ) (i n : ℕ) → Some i ≡ position is_other xs → n ≡ unwrap_or (position is_blank (drop i xs)) (length (drop i xs))
    → words_of xs ≡ take n (drop i xs) ∷ words_of (drop n (drop i xs))
first_word xs i n h e =
    let at = found (position_or_len is_other xs) (length xs) i h in
    let other : is_other (get_or xs i 32) ≡ true = rw (at.1) (passes_at_first is_other xs 32 at.0) in
    let head : get_or (drop i xs) 0 32 ≡ get_or xs i 32 = grind (arith, common_steps) in
    let first : is_blank (get_or (drop i xs) 0 32) ≡ false = rw head (not_other (is_blank (get_or xs i 32)) other) in
    let place : n ≡ position_or_len is_blank (drop i xs) = e ∙ place_or_end (position_or_len is_blank (drop i xs)) (length (drop i xs)) (prefix_len-le-length (λ x. not (is_blank x)) (drop i xs)) in
    let some : 0 < n = rw place (begins_other (drop i xs) first) in
    let skipped : words_of xs ≡ words_of (drop i xs) = rw (at.1) (skip xs) in
    skipped ∙ one_word (drop i xs) n (nat_lt n (length (drop i xs))) refl some place

-- Digits have no colon in them.
digits_uncut : (digits : List ℕ) → list_all is_hex_digit digits ≡ true → slice_split is_colon digits ≡ digits ∷ []
digits_uncut [] all = refl
digits_uncut (d ∷ digits) all =
    let here : is_colon d ≡ false = grind (arith, nat_tests) in
    let rest : slice_split is_colon digits ≡ digits ∷ [] = digits_uncut digits (grind (arith, nat_tests)) in
    rw (slice_split-cons_no is_colon d digits here, rest)

uncut_whole : (xs part : List ℕ) → slice_split is_colon xs ≡ part ∷ [] → part ≡ xs
uncut_whole xs part e = ap (join_with_byte 58) (sym e) ∙ join_with_byte-slice_split 58 xs

no_run : (count digits : List ℕ) (parts : List (List ℕ)) → slice_split is_colon digits ≡ parts → equal_bytes count digits ≡ None → run_of_parts (count ∷ parts) ≡ None
no_run count digits [] e h = refl
no_run count digits (part ∷ []) e h = rw (uncut_whole digits part e) h
no_run count digits (part ∷ other ∷ parts) e h = refl

run_by : (count digits : List ℕ) (b : Bool) → list_all is_hex_digit digits ≡ b → run_of_parts (count ∷ slice_split is_colon digits) ≡ equal_bytes count digits
run_by count digits true all = rw (digits_uncut digits all)
run_by count digits false all =
    let none : equal_bytes count digits ≡ None = grind (arith, nat_tests) in
    rw none (no_run count digits (slice_split is_colon digits) refl none)

-- The number and the byte of a run stand before and behind its first colon.
run_split : (count digits : List ℕ) → run_of_parts (count ∷ slice_split is_colon digits) ≡ equal_bytes count digits
run_split count digits = run_by count digits (list_all is_hex_digit digits) refl

abbrev pub byte_of : List ℕ → Option ℕ
byte_of digits = if length digits == 2 && list_all is_hex_digit digits then Some (digits_value 16 digits) else None

by_byte : (b : Bool) (v byte : ℕ) (f : ℕ → Option (List ℕ)) → Some byte ≡ (if b then Some v else None) → (if b then f v else None) ≡ f byte
by_byte true v byte f e = let same : byte ≡ v = cc in ap f (sym same)
by_byte false v byte f e = cc

by_none : (b : Bool) (v : ℕ) (o : Option (List ℕ)) → (if b then Some v else None) ≡ None → (if b then o else None) ≡ None
by_none true v o e = cc
by_none false v o e = refl

pub no_byte : (count digits : List ℕ) → byte_of digits ≡ None → run_of_parts (count ∷ slice_split is_colon digits) ≡ None
no_byte count digits e =
    run_split count digits ∙ by_none (length digits == 2 && list_all is_hex_digit digits) (digits_value 16 digits)
    (option_map (λ n. replicate n (digits_value 16 digits)) (from_one (MAX_PHOTO + 1) count)) e

pub some_run : (count digits : List ℕ) (byte n : ℕ) → Some byte ≡ byte_of digits → Some n ≡ from_one (MAX_PHOTO + 1) count
    → run_of_parts (count ∷ slice_split is_colon digits) ≡ Some (replicate n byte)
some_run count digits byte n e h =
    run_split count digits ∙ by_byte (length digits == 2 && list_all is_hex_digit digits) (digits_value 16 digits) byte
    (λ v. option_map (λ n. replicate n v) (from_one (MAX_PHOTO + 1) count)) e ∙ ap (option_map (λ n. replicate n byte)) (sym h)
