-- Lower-case hexadecimal digits.
use Rattle.std.proofs.Common.{◌≡◌, ℕ, ◌+◌, ◌*◌, ◌/◌, ◌%◌, ◌^◌, ◌<◌, ◌≤◌, ◌==◌, ◌&&◌, ◌||◌, not, zero, suc, Bool, true, false, List, [], ◌∷◌, length, take, get_or, slice_index}
use Rattle.std.proofs.Common.{refl, sym, ◌∙◌, ap, arith, inl, inr}
use Rattle.std.specs.Char.{digit_value}
use Rattle.std.specs.Int.{w32, w64, to_be_bytes, from_be_bytes, bytes_high_first, byte_at}
use Rattle.std.specs.List.{list_all}
use Rattle.std.specs.Str.Parse.{AllDigits, digits_value, digits_value_after}
use Rattle.std.proofs.lemmas.Bool.{and_parts, cases_lt, eqb-true}
use Rattle.std.proofs.Math.Nat.{pow-le-pow_right}
use Rattle.std.proofs.lemmas.Int.Digits.{digits_value-lt, digits_value_more}
use Rattle.std.proofs.lemmas.Str.Parse.{digits_value-take-le}
use Rattle.std.proofs.lemmas.Bool.Decides.{nat_tests}
use Rattle.std.proofs.lemmas.Nat.{be_bytes_4, be_bytes_8, from_be_bytes-to_be_bytes_4, from_be_bytes-to_be_bytes_8}
use Rattle.hex.specs.Hex.{encode_lower, encode_with, lower_digits, IsBytes}
use Rattle.hex.proofs.HexLemmas.{length-encode_with}
use Rattle.hay_url.specs.Url.{long_hex}
use Rattle.hay_url.specs.Parts.{is_lower_hex}

-- ONE DIGIT

abbrev all_below : (ℕ → Bool) → ℕ → Bool
all_below p zero = true
all_below p (suc n) = p n && all_below p n

at_below : (p : ℕ → Bool) (n k : ℕ) → all_below p n ≡ true → k < n → p k ≡ true
at_below p zero k h lt = absurd (omega arith)
at_below p (suc n) k h lt =
    let parts = and_parts (p n) (all_below p n) h in
    elim (cases_lt k n) [
      | inl below ↦ at_below p n k parts.1 below
      | inr top ↦
          let e : k ≡ n = omega arith in
          rw e parts.0
    ]

abbrev writes_back : ℕ → Bool
writes_back c = not (is_lower_hex c) || (slice_index lower_digits (digit_value c) == c)

abbrev reads_back : ℕ → Bool
reads_back d = is_lower_hex (slice_index lower_digits d) && (digit_value (slice_index lower_digits d) == d)

all_write_back : all_below writes_back 103 ≡ true
all_write_back = refl

all_read_back : all_below reads_back 16 ≡ true
all_read_back = refl

low_code : (c : ℕ) → is_lower_hex c ≡ true → c < 103
low_code c h = grind (arith, nat_tests)

or_second : (a b : Bool) → a ≡ true → (not a || b) ≡ true → b ≡ true
or_second true b h e = e
or_second false b h e = cc

-- a digit is the one of its value
glyph : (c : ℕ) → is_lower_hex c ≡ true → slice_index lower_digits (digit_value c) ≡ c
glyph c h =
    eqb-true (slice_index lower_digits (digit_value c)) c (or_second (is_lower_hex c) (slice_index lower_digits (digit_value c) == c) h (at_below writes_back 103 c all_write_back (low_code c h)))

lower_glyph : (d : ℕ) → d < 16 → is_lower_hex (slice_index lower_digits d) ≡ true
lower_glyph d lt = (and_parts (is_lower_hex (slice_index lower_digits d)) (digit_value (slice_index lower_digits d) == d) (at_below reads_back 16 d all_read_back lt)).0

value_glyph : (d : ℕ) → d < 16 → digit_value (slice_index lower_digits d) ≡ d
value_glyph d lt =
    eqb-true (digit_value (slice_index lower_digits d)) d (and_parts (is_lower_hex (slice_index lower_digits d)) (digit_value (slice_index lower_digits d) == d)
    (at_below reads_back 16 d all_read_back lt)).1

pub lower_value : (c : ℕ) → is_lower_hex c ≡ true → digit_value c < 16
lower_value c h = grind (arith, nat_tests)

-- BYTES

-- the digits of bytes
pub lower_encoded : (bytes : List ℕ) → IsBytes bytes → list_all is_lower_hex (encode_lower bytes) ≡ true
unfolding encode_with
lower_encoded [] h = refl
lower_encoded (b ∷ bytes) h =
    let fits : b < 256 = h 0 in
    let high = lower_glyph (b / 16) (omega arith) in
    let low = lower_glyph (b % 16) (omega arith) in
    rw (high, low) (lower_encoded bytes (λ i. h (suc i)))

bytes_more : (b : ℕ) (bytes : List ℕ) → b < 256 → IsBytes bytes → IsBytes (b ∷ bytes)
bytes_more b bytes here rest zero = here
bytes_more b bytes here rest (suc i) = rest i

pair_text : (h l b : ℕ) (bytes digits : List ℕ) → slice_index lower_digits (b / 16) ≡ h → slice_index lower_digits (b % 16) ≡ l → encode_lower bytes ≡ digits
    → encode_lower (b ∷ bytes) ≡ h ∷ l ∷ digits
unfolding encode_with
pair_text h l b bytes digits e f g = ap (λ x. x ∷ slice_index lower_digits (b % 16) ∷ encode_lower bytes) e ∙ ap (λ y. h ∷ y ∷ encode_lower bytes) f ∙ ap (λ t. h ∷ l ∷ t) g

-- digits in pairs are those of bytes
pub pairs : (n : ℕ) (digits : List ℕ) → length digits ≡ 2 * n → list_all is_lower_hex digits ≡ true → (bytes : List ℕ) × (length bytes ≡ n) × IsBytes bytes × (encode_lower bytes ≡ digits)
unfolding encode_with
pairs zero [] len all = ([], refl, λ i. omega arith, refl)
pairs zero (c ∷ digits) len all = absurd (omega arith)
pairs (suc n) [] len all = absurd (omega arith)
pairs (suc n) (c ∷ []) len all = absurd (omega arith)
pairs (suc n) (h ∷ l ∷ digits) len all =
    let first = and_parts (is_lower_hex h) (list_all is_lower_hex (l ∷ digits)) all in
    let second = and_parts (is_lower_hex l) (list_all is_lower_hex digits) first.1 in
    let rest = pairs n digits (omega arith) second.1 in
    let high = lower_value h first.0 in
    let low = lower_value l second.0 in
    let front : (digit_value h * 16 + digit_value l) / 16 ≡ digit_value h = omega arith in
    let back : (digit_value h * 16 + digit_value l) % 16 ≡ digit_value l = omega arith in (
      (digit_value h * 16 + digit_value l) ∷ rest.0,
      omega (arith, rest.1),
      bytes_more (digit_value h * 16 + digit_value l) rest.0 (omega arith) rest.2,
      pair_text h l (digit_value h * 16 + digit_value l) rest.0 digits (ap (slice_index lower_digits) front ∙ glyph h first.0) (ap (slice_index lower_digits) back ∙ glyph l second.0) rest.3,
    )

-- the number of bytes, the highest first
abbrev pub bytes_value : ℕ → List ℕ → ℕ
bytes_value n [] = n
bytes_value n (b ∷ bytes) = bytes_value (n * 256 + b) bytes

two_more : (n x y a b : ℕ) (rest : List ℕ) → digit_value x ≡ a → digit_value y ≡ b → digits_value_after 16 n (x ∷ y ∷ rest) ≡ digits_value_after 16 ((n * 16 + a) * 16 + b) rest
two_more n x y a b rest e f =
    ap (λ v. digits_value_after 16 ((n * 16 + v) * 16 + digit_value y) rest) e ∙ ap (λ v. digits_value_after 16 ((n * 16 + a) * 16 + v) rest) f

value_encoded : (n : ℕ) (bytes : List ℕ) → IsBytes bytes → digits_value_after 16 n (encode_lower bytes) ≡ bytes_value n bytes
unfolding encode_with
value_encoded n [] h = refl
value_encoded n (b ∷ bytes) h =
    let fits : b < 256 = h 0 in
    let high = value_glyph (b / 16) (omega arith) in
    let low = value_glyph (b % 16) (omega arith) in
    let sum : (n * 16 + b / 16) * 16 + b % 16 ≡ n * 256 + b = omega arith in
    two_more n (slice_index lower_digits (b / 16)) (slice_index lower_digits (b % 16)) (b / 16) (b % 16) (encode_lower bytes) high low
    ∙ ap (λ v. digits_value_after 16 v (encode_lower bytes)) sum ∙ value_encoded (n * 256 + b) bytes (λ i. h (suc i))

eight : (bytes : List ℕ) → length bytes ≡ 8 → bytes_value 0 bytes ≡ from_be_bytes w64 bytes
eight (a ∷ b ∷ c ∷ d ∷ e ∷ f ∷ g ∷ h ∷ []) len = omega arith
eight _ len = absurd (omega arith)

four : (bytes : List ℕ) → length bytes ≡ 4 → bytes_value 0 bytes ≡ from_be_bytes w32 bytes
four (a ∷ b ∷ c ∷ d ∷ []) len = omega arith
four _ len = absurd (omega arith)

-- NUMBERS

abbrev pub short_hex : ℕ → List ℕ
short_hex n = encode_lower (to_be_bytes w32 n)

byte_fits : (k n : ℕ) → byte_at k n < 256
byte_fits zero n = omega arith
byte_fits (suc k) n = omega arith

are_bytes : (k n : ℕ) → IsBytes (bytes_high_first k n)
are_bytes zero n i = omega arith
are_bytes (suc k) n zero = byte_fits k n
are_bytes (suc k) n (suc i) = are_bytes k n i

all_digits : (digits : List ℕ) → list_all is_lower_hex digits ≡ true → AllDigits 16 digits
all_digits [] all = tt
all_digits (c ∷ digits) all =
    let parts = and_parts (is_lower_hex c) (list_all is_lower_hex digits) all in
    (lower_value c parts.0, all_digits digits parts.1)

-- so many digits write a number that is not too large
pub hex_below : (most : ℕ) (digits : List ℕ) → length digits ≤ most → list_all is_lower_hex digits ≡ true → digits_value 16 digits < 16 ^ most
hex_below most digits short all =
    let value = digits_value-lt 16 digits (all_digits digits all) in
    let power : 16 ^ length digits ≤ 16 ^ most = pow-le-pow_right (omega arith) short in
    omega arith

pub hex_more_below : (digits : List ℕ) (i : ℕ) → length digits ≤ 16 → i < length digits → list_all is_lower_hex digits ≡ true
    → digits_value 16 (take i digits) * 16 + digit_value (get_or digits i 0) < 2 ^ 64
hex_more_below digits i short lt all =
    omega (arith, hex_below 16 digits short all, digits_value-take-le 16 digits (i + 1) (omega arith), digits_value_more 16 digits i lt)

-- the 16 digits of a number, and the 8 of a smaller one
pub long_digits : (n : ℕ) → (length (long_hex n) ≡ 16) × (list_all is_lower_hex (long_hex n) ≡ true)
long_digits n = (length-encode_with lower_digits (to_be_bytes w64 n), lower_encoded (to_be_bytes w64 n) (are_bytes 8 n))

pub short_digits : (n : ℕ) → (length (short_hex n) ≡ 8) × (list_all is_lower_hex (short_hex n) ≡ true)
short_digits n = (length-encode_with lower_digits (to_be_bytes w32 n), lower_encoded (to_be_bytes w32 n) (are_bytes 4 n))

pub long_value : (n : ℕ) → n < 2 ^ 64 → digits_value 16 (long_hex n) ≡ n
long_value n small = value_encoded 0 (to_be_bytes w64 n) (are_bytes 8 n) ∙ eight (to_be_bytes w64 n) refl ∙ from_be_bytes-to_be_bytes_8 n small

pub short_value : (n : ℕ) → n < 2 ^ 32 → digits_value 16 (short_hex n) ≡ n
short_value n small = value_encoded 0 (to_be_bytes w32 n) (are_bytes 4 n) ∙ four (to_be_bytes w32 n) refl ∙ from_be_bytes-to_be_bytes_4 n small

-- such digits are those of their number
pub long_text : (digits : List ℕ) → length digits ≡ 16 → list_all is_lower_hex digits ≡ true → long_hex (digits_value 16 digits) ≡ digits
long_text digits len all =
    let of = pairs 8 digits (omega arith) all in
    let value : digits_value 16 digits ≡ from_be_bytes w64 of.0 = ap (digits_value 16) (sym of.3) ∙ value_encoded 0 of.0 of.2 ∙ eight of.0 of.1 in
    ap encode_lower (be_bytes_8 of.0 (digits_value 16 digits) of.1 of.2 value) ∙ of.3

pub short_text : (digits : List ℕ) → length digits ≡ 8 → list_all is_lower_hex digits ≡ true → short_hex (digits_value 16 digits) ≡ digits
short_text digits len all =
    let of = pairs 4 digits (omega arith) all in
    let value : digits_value 16 digits ≡ from_be_bytes w32 of.0 = ap (digits_value 16) (sym of.3) ∙ value_encoded 0 of.0 of.2 ∙ four of.0 of.1 in
    ap encode_lower (be_bytes_4 of.0 (digits_value 16 digits) of.1 of.2 value) ∙ of.3
