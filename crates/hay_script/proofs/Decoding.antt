-- Bytes, as pairs of hexadecimal digits.
use Rattle.std.proofs.Common.{◌≡◌, ℕ, ◌+◌, ◌*◌, ◌%◌, ◌<◌, ◌≤◌, ◌⊎◌, inl, inr, nat_lt, Bool, true, false, List, length, take, drop, slice_index, slice_set}
use Rattle.std.proofs.Common.{max, Option, Some, None, unwrap_or, Result, Ok, Err, refl, sym, ap, ◌∙◌, arith, if◌then◌else◌}
use Rattle.std.proofs.lemmas.Bool.{cases_lt}
use Rattle.std.proofs.lemmas.Bool.Decides.{nat_tests}
use Rattle.std.proofs.lemmas.List.Elements.{All-get_or}
use Rattle.std.proofs.Math.Nat.{le-max_left, le-max_right, max-le}
use Rattle.std.specs.Result.{result_ok}
use Rattle.hex.specs.Hex.{decode_of, decode_pairs, digit_or_error, hex_digit_value, is_hex_digit, pair_value}
use Rattle.hex.specs.declared.error.FromHexError.{FromHexError}
use Rattle.hex.proofs.HexLemmas.{decode_of-even, decode_of-ok}
use Rattle.hex.proofs.Pairs.{prepend, decode_step, decode_done}

abbrev pub value_of : ℕ → ℕ
value_of c = unwrap_or (hex_digit_value c) 255

some_value : (c i : ℕ) (o : Option ℕ) → unwrap_or o 255 < 16 → digit_or_error c i o ≡ Ok (unwrap_or o 255)
some_value c i (Some v) h = refl
some_value c i None h = absurd (omega arith)

pair_read : (high low i : ℕ) → value_of high < 16 → value_of low < 16 → pair_value high low i ≡ Ok (value_of high * 16 + value_of low)
pair_read high low i h l = rw (some_value high i (hex_digit_value high) h, some_value low (i + 1) (hex_digit_value low) l) refl

no_digit : (c : ℕ) → 16 ≤ value_of c → is_hex_digit c ≡ false
no_digit c h = grind (arith, nat_tests)

-- a byte of a text that is no digit
abbrev pub HasOther : List ℕ → Type 0
HasOther text = (k : ℕ) × (k < length text) × (is_hex_digit (slice_index text k) ≡ false)

-- What was read of a text: the bytes so far, unless the greatest value that was met is none of a digit.
abbrev pub HasRead : ℕ → ℕ → List ℕ → List ℕ → Type 0
HasRead worst i text out =
    (worst < 16 → decode_pairs 0 text ≡ prepend (take i out) (decode_pairs (2 * i) (drop (2 * i) text)))
    × (16 ≤ worst → HasOther text)

abbrev pub high_at : List ℕ → ℕ → ℕ
high_at text i = value_of (slice_index text (2 * i))

abbrev pub low_at : List ℕ → ℕ → ℕ
low_at text i = value_of (slice_index text (2 * i + 1))

all_below : (worst high low : ℕ) → max worst (max high low) < 16 → (worst < 16) × (high < 16) × (low < 16)
all_below worst high low h =
    let a = le-max_left worst (max high low) in
    let b = le-max_right worst (max high low) in
    let c = le-max_left high low in
    let d = le-max_right high low in
    (omega (arith, a), omega (arith, b, c), omega (arith, b, d))

none_above : (worst high low : ℕ) → worst < 16 → high < 16 → low < 16 → max worst (max high low) < 16
none_above worst high low a b c =
    let two : max high low ≤ 15 = max-le (omega arith) (omega arith) in
    let three : max worst (max high low) ≤ 15 = max-le (omega arith) two in
    omega arith

above_by : (worst high low : ℕ) → (worst < 16) ⊎ (16 ≤ worst) → (high < 16) ⊎ (16 ≤ high) → (low < 16) ⊎ (16 ≤ low)
    → 16 ≤ max worst (max high low) → (16 ≤ worst) ⊎ ((16 ≤ high) ⊎ (16 ≤ low))
above_by worst high low (inr a) high_is low_is h = inl a
above_by worst high low (inl a) (inr b) low_is h = inr (inl b)
above_by worst high low (inl a) (inl b) (inr c) h = inr (inr c)
above_by worst high low (inl a) (inl b) (inl c) h = let below = none_above worst high low a b c in absurd (omega arith)

some_above : (worst high low : ℕ) → 16 ≤ max worst (max high low) → (16 ≤ worst) ⊎ ((16 ≤ high) ⊎ (16 ≤ low))
some_above worst high low h = above_by worst high low (cases_lt worst 16) (cases_lt high 16) (cases_lt low 16) h

pub read_pair : (text out : List ℕ) (i worst byte : ℕ) → 2 * i + 1 < length text → i < length out
    → byte ≡ (high_at text i * 16 % 256 + low_at text i) % 256 → HasRead worst i text out
    → HasRead (max worst (max (high_at text i) (low_at text i))) (i + 1) text (slice_set out i byte)
read_pair text out i worst byte fits room e read = (
  λ below.
      let all = all_below worst (high_at text i) (low_at text i) below in
      let sum : byte ≡ high_at text i * 16 + low_at text i = omega arith in
      decode_step text out i byte fits room (pair_read (slice_index text (2 * i)) (slice_index text (2 * i + 1)) (2 * i) all.1 all.2 ∙ ap Ok (sym sum)) (read.0 all.0),
  λ above.
      elim (some_above worst (high_at text i) (low_at text i) above) [
        | inl before ↦ read.1 before
        | inr (inl high) ↦ (2 * i, omega arith, no_digit (slice_index text (2 * i)) high)
        | inr (inr low) ↦ (2 * i + 1, fits, no_digit (slice_index text (2 * i + 1)) low)
      ],
)

not_digits : (text : List ℕ) (r : Result (List ℕ) FromHexError) → HasOther text → decode_of text ≡ r → result_ok r ≡ None
not_digits text (Err e) other is = refl
not_digits text (Ok bytes) other is =
    let ok = decode_of-ok text bytes is in
    cc (sym (All-get_or (λ c. is_hex_digit c ≡ true) text other.0 0 other.1 ok.1) ∙ other.2)

by_worst : (b : Bool) (text out : List ℕ) (worst i : ℕ) → nat_lt worst 16 ≡ b → length text ≡ 2 * length out → length out ≤ i
    → HasRead worst i text out → result_ok (decode_of text) ≡ (if b then Some out else None)
by_worst true text out worst i is long end read =
    let below : worst < 16 = grind (arith, nat_tests) in
    let whole = decode_done text out i end (omega arith) (read.0 below) in
    ap result_ok (decode_of-even text (omega arith) ∙ whole)
by_worst false text out worst i is long end read = not_digits text (decode_of text) (read.1 (grind (arith, nat_tests))) refl

-- what was read of a whole text
pub read_all : (text out : List ℕ) (worst i : ℕ) → length text ≡ 2 * length out → length out ≤ i
    → HasRead worst i text out → result_ok (decode_of text) ≡ (if nat_lt worst 16 then Some out else None)
read_all text out worst i long end read = by_worst (nat_lt worst 16) text out worst i refl long end read
