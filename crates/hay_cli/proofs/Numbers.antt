-- What `parse` answers on digits is the number that they spell.
use Rattle.std.proofs.Common.{◌≡◌, ℕ, ◌<◌, ◌≤◌, ◌^◌, ◌&&◌, Bool, true, false, List, length, Option, Some, None, Result, Ok, Err, refl, arith, rules}
use Rattle.std.specs.Prelude.{cond, nat_le, nat_lt}
use Rattle.std.proofs.Common.{◌⊎◌, inl, inr, ap, true≢false}
use Rattle.std.proofs.lemmas.Bool.{lt-leb, cases_lt}
use Rattle.std.specs.Char.{is_ascii_digit}
use Rattle.std.specs.List.{list_all}
use Rattle.std.specs.Result.{OkIff, result_ok}
use Rattle.std.specs.Str.{IsUtf8}
use Rattle.std.specs.Str.Parse.{digits_value, ParsesUnsigned}
use Rattle.std.proofs.lemmas.Str.Parse.{IsNumeralModel, numerals_by_value, parse_digits}
use Rattle.std.proofs.lemmas.Str.{IsUtf8-from_ascii}
use Rattle.std.proofs.lemmas.Fmt.{IsAscii-from_digits}
use Rattle.hay_cli.specs.Commands.{number_in}

pub own : IsNumeralModel (λ ds. list_all is_ascii_digit ds ≡ true) (digits_value 10)
own = numerals_by_value _ (search rules)

-- what `parse` answers on digits
pub parsed : {E : Type 0} (k : ℕ) (text : List ℕ) (r : Result ℕ E) → list_all is_ascii_digit text ≡ true → ParsesUnsigned k 10 text r
    → OkIff r ((0 < length text) × (digits_value 10 text < 2 ^ k)) (digits_value 10 text)
parsed k text r all h = parse_digits own k text r h all

pub is_text : (text : List ℕ) → list_all is_ascii_digit text ≡ true → IsUtf8 text
is_text text all = IsUtf8-from_ascii text (IsAscii-from_digits text (own.to text all))

none_at_last : (a b c d e : Bool) (n : ℕ) → e ≡ false → ◌≡◌ {A = Option ℕ} None (cond (a && (b && (c && (d && e)))) (Some n) None)
none_at_last false b c d e n f = refl
none_at_last true false c d e n f = refl
none_at_last true true false d e n f = refl
none_at_last true true true false e n f = refl
none_at_last true true true true e n f = rw f refl

pub too_large : {E : Type 0} (low high : ℕ) (text : List ℕ) (e : E) → high < 2 ^ 64 → 0 < length text → list_all is_ascii_digit text ≡ true
    → ParsesUnsigned 64 10 text (Err e) → None ≡ number_in low high text
too_large low high text e fits some all h =
    let bad = parsed 64 text (Err e) all h in
    none_at_last (nat_lt 0 (length text)) (nat_le (length text) 20) (list_all is_ascii_digit text) (nat_le low (digits_value 10 text)) (nat_le (digits_value 10 text) high) (digits_value 10 text)
    (go (cases_lt (digits_value 10 text) (2 ^ 64)) bad)
  where
    go : ((digits_value 10 text < 2 ^ 64) ⊎ (2 ^ 64 ≤ digits_value 10 text)) → ((0 < length text) × (digits_value 10 text < 2 ^ 64) → ⊥) → nat_le (digits_value 10 text) high ≡ false
    go (inr large) bad = lt-leb (digits_value 10 text) high (omega arith)
    go (inl small) bad = absurd (bad (some, small))

-- the same, of any answer that is no number
pub none_parsed : {E : Type 0} (low high : ℕ) (text : List ℕ) (r : Result ℕ E) → high < 2 ^ 64 → 0 < length text → list_all is_ascii_digit text ≡ true
    → result_ok r ≡ None → ParsesUnsigned 64 10 text r → None ≡ number_in low high text
none_parsed low high text (Ok n) fits some all none h = absurd (ok≢none none)
  where
    ok≢none : {n : ℕ} → Some n ≡ None → ⊥
    ok≢none e = true≢false (ap (λ (o : Option ℕ). elim o as (λ _. Bool) [ None ↦ false | Some y ↦ true ]) e)
none_parsed low high text (Err e) fits some all none h = too_large low high text e fits some all h
