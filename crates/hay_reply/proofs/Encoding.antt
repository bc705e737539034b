-- Bytes as hexadecimal digits.
use Rattle.std.proofs.Common.{◌≡◌, ℕ, ◌+◌, ◌==◌, true, false, nat_lt, min, length, ◌/◌, ◌%◌, ◌<◌, List, [], ◌∷◌, ◌++◌, take, drop, slice_index, refl, ap, arith}
use Rattle.std.proofs.lemmas.List.{append_assoc, append-nil, nil_from_length, take-append-drop}
use Rattle.std.proofs.lemmas.Str.Ascii.{IsAscii-nil, IsAscii-cons}
use Rattle.std.proofs.lemmas.Str.{IsUtf8-from_ascii}
use Rattle.std.proofs.lemmas.Bool.Decides.{nat_tests}
use Rattle.std.specs.List.{list_all}
use Rattle.std.specs.Str.{IsAscii, IsUtf8}
use Rattle.hex.specs.Hex.{encode_lower, encode_with, lower_digits}
use Rattle.hex.proofs.HexLemmas.{IsAscii-encode_with}

ascii_by : (bs : List ℕ) → list_all (λ b. nat_lt b 128) bs ≡ true → IsAscii bs
ascii_by [] h = IsAscii-nil
ascii_by (b ∷ bs) h = IsAscii-cons b bs (grind (arith, nat_tests)) (ascii_by bs (grind (arith, nat_tests)))

digits_ascii : IsAscii lower_digits
digits_ascii = ascii_by lower_digits refl

pub are_text : (bytes : List ℕ) → IsUtf8 (encode_lower bytes)
are_text bytes = IsUtf8-from_ascii (encode_lower bytes) (IsAscii-encode_with lower_digits bytes digits_ascii)

pub encode_append : (xs ys : List ℕ) → encode_lower (xs ++ ys) ≡ encode_lower xs ++ encode_lower ys
unfolding encode_with
encode_append [] ys = refl
encode_append (x ∷ xs) ys = ap (λ l. slice_index lower_digits (x / 16) ∷ slice_index lower_digits (x % 16) ∷ l) (encode_append xs ys)

-- a part more is written
pub part_written : (out rest out' : List ℕ) (n : ℕ) → out' ≡ out ++ encode_lower (take n rest) → out' ++ encode_lower (drop n rest) ≡ out ++ encode_lower rest
part_written out rest out' n e =
    rw (e, append_assoc, ← encode_append, take-append-drop) refl

pub all_written : (out : List ℕ) → out ++ encode_lower [] ≡ out
unfolding encode_with
all_written out = append-nil out

-- a part is some of what is left
pub less_is_left : (left n behind : ℕ) → false ≡ (left == 0) → n ≡ min left 512 → n + behind ≡ left → behind < left
less_is_left left n behind some part all = grind (arith, nat_tests)

pub none_is_left : (rest : List ℕ) → true ≡ (length rest == 0) → rest ≡ []
none_is_left rest h = nil_from_length rest (grind (arith, nat_tests))
