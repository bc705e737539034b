-- What `parse` answers on digits is the number that they write.
use Rattle.std.proofs.Common.{◌≡◌, ℕ, ◌<◌, ◌^◌, true, List, length, Result, Ok, Err, arith, rules}
use Rattle.std.specs.Char.{is_ascii_digit}
use Rattle.std.specs.List.{list_all}
use Rattle.std.specs.Result.{OkIff, result_ok}
use Rattle.std.specs.Str.{IsUtf8}
use Rattle.std.specs.Str.Parse.{digits_value, ParsesUnsigned}
use Rattle.std.proofs.lemmas.Str.Parse.{IsNumeralModel, numerals_by_value, parse_digits}
use Rattle.std.proofs.lemmas.Str.{IsUtf8-from_ascii}
use Rattle.std.proofs.lemmas.Fmt.{IsAscii-from_digits}
use Rattle.std.proofs.lemmas.Bool.Decides.{nat_tests}
use Rattle.hay_reply.specs.Reading.{number}

pub own : IsNumeralModel (λ ds. list_all is_ascii_digit ds ≡ true) (digits_value 10)
own = numerals_by_value _ (search rules)

ok_number : {E : Type 0} (k : ℕ) (text : List ℕ) (r : Result ℕ E) → 0 < length text → list_all is_ascii_digit text ≡ true
    → OkIff r ((0 < length text) × (digits_value 10 text < 2 ^ k)) (digits_value 10 text) → result_ok r ≡ number (2 ^ k) text
ok_number k text (Ok x) low all h = grind (arith, nat_tests)
ok_number k text (Err e) low all h = grind (arith, nat_tests)

pub parsed : {E : Type 0} (k : ℕ) (text : List ℕ) (r : Result ℕ E) → 0 < length text → list_all is_ascii_digit text ≡ true → ParsesUnsigned k 10 text r → result_ok r ≡ number (2 ^ k) text
parsed k text r low all h = ok_number k text r low all (parse_digits own k text r h all)

pub is_text : (text : List ℕ) → list_all is_ascii_digit text ≡ true → IsUtf8 text
is_text text all = IsUtf8-from_ascii text (IsAscii-from_digits text (own.to text all))
