-- Digits, and the numbers that they write.
use Rattle.std.proofs.Common.{◌≡◌, ℕ, ◌<◌, ◌≤◌, ◌^◌, ◌==◌, ◌&&◌, nat_lt, if◌then◌else◌, true, List, [], ◌∷◌, length, zero, suc, Option, Some, None, arith, ◌∙◌, ap, Result, Ok, Err}
use Rattle.std.specs.Result.{OkIff, result_ok}
use Rattle.std.specs.Char.{is_ascii_digit, digit_value}
use Rattle.std.specs.List.{list_all}
use Rattle.std.specs.Str.{IsAscii, IsUtf8}
use Rattle.std.specs.Str.Parse.{AllDigits, digits_value}
use Rattle.std.proofs.lemmas.Str.{IsUtf8-from_ascii}
use Rattle.std.proofs.lemmas.Int.Digits.{digits_value-lt}
use Rattle.std.proofs.lemmas.Bool.Decides.{nat_tests}
use Rattle.std.proofs.Math.Nat.{pow-le-pow_right}
use Rattle.hex.specs.Hex.{is_hex_digit}

pub all_decimal : (text : List ℕ) → list_all is_ascii_digit text ≡ true → AllDigits 10 text
all_decimal [] h = tt
all_decimal (c ∷ cs) h = (grind (arith, nat_tests), all_decimal cs (grind (arith, nat_tests)))

hex_value : (c : ℕ) → is_hex_digit c ≡ true → digit_value c < 16
hex_value c h = grind (arith, nat_tests)

pub all_hex : (text : List ℕ) → list_all is_hex_digit text ≡ true → AllDigits 16 text
all_hex [] h = tt
all_hex (c ∷ cs) h = (hex_value c (grind (arith, nat_tests)), all_hex cs (grind (arith, nat_tests)))

code_of_digit : (c : ℕ) → digit_value c < 16 → c < 128
code_of_digit c h = grind (arith, nat_tests)

is_ascii : (radix : ℕ) (text : List ℕ) → radix ≤ 16 → AllDigits radix text → IsAscii text
is_ascii radix [] most all i = omega arith
is_ascii radix (c ∷ cs) most all zero = code_of_digit c (omega arith)
is_ascii radix (c ∷ cs) most all (suc i) = is_ascii radix cs most all.1 i

pub is_text : (radix : ℕ) (text : List ℕ) → radix ≤ 16 → AllDigits radix text → IsUtf8 text
is_text radix text most all = IsUtf8-from_ascii text (is_ascii radix text most all)

-- so many digits write a number that is not too large
pub below_sixteenths : (most : ℕ) (text : List ℕ) → length text ≤ most → list_all is_hex_digit text ≡ true → digits_value 16 text < 16 ^ most
below_sixteenths most text short all =
    let value = digits_value-lt 16 text (all_hex text all) in
    let power : 16 ^ length text ≤ 16 ^ most = pow-le-pow_right (omega arith) short in
    omega arith

small_number : (n limit : ℕ) → n < limit → (if nat_lt n limit then Some n else None) ≡ Some n
small_number n limit h = grind (arith, nat_tests)

got_ok : {E : Type 0} (tried : Result ℕ E) (n : ℕ) → n < 256 → OkIff tried (n < 256) n → result_ok tried ≡ Some n
got_ok (Ok x) n small h = ap Some h.1
got_ok (Err e) n small h = absurd (h small)

-- what is read of hexadecimal digits that are not too many is their number
pub hex_number : (most : ℕ) (text : List ℕ) (r : Option ℕ) → length text ≤ most → 16 ^ most ≤ 2 ^ 64 → list_all is_hex_digit text ≡ true
    → r ≡ (if nat_lt (digits_value 16 text) (2 ^ 64) then Some (digits_value 16 text) else None) → r ≡ Some (digits_value 16 text)
hex_number most text r short fits all e =
    let below = below_sixteenths most text short all in
    e ∙ small_number (digits_value 16 text) (2 ^ 64) (omega arith)

-- The byte of two digits, as a number that was read and tried.
pub two_digits : {E : Type 0} (text : List ℕ) (n : ℕ) (tried : Result ℕ E) (r : Option ℕ) → length text ≡ 2 → list_all is_hex_digit text ≡ true
    → Some n ≡ (if nat_lt (digits_value 16 text) (2 ^ 64) then Some (digits_value 16 text) else None) → OkIff tried (n < 256) n → r ≡ result_ok tried
    → r ≡ (if length text == 2 && list_all is_hex_digit text then Some (digits_value 16 text) else None)
two_digits text n tried r two all e fits ok =
    let below = below_sixteenths 2 text (omega arith) all in
    let same : Some n ≡ Some (digits_value 16 text) = hex_number 2 text (Some n) (omega arith) (omega arith) all e in
    let value : n ≡ digits_value 16 text = cc in
    let got : result_ok tried ≡ Some n = got_ok tried n (omega arith) fits in
    let test : (length text == 2 && list_all is_hex_digit text) ≡ true = grind (arith, nat_tests) in
    rw test (ok ∙ got ∙ same)
