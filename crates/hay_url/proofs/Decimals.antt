-- Numbers without leading zeros, and the mark behind them.
use Rattle.std.proofs.Common.{◌≡◌, ◌≢◌, ℕ, ◌+◌, ◌-◌, ◌*◌, ◌/◌, ◌%◌, ◌^◌, ◌<◌, ◌≤◌, zero, suc, List, [], ◌∷◌, ◌++◌, length, take, drop, get_or, refl, sym, ◌∙◌, ap, subst, arith}
use Rattle.std.proofs.Common.{append_assoc, length-append, decimal, inl, inr, Bool, true, nat_lt, drop-cons}
use Rattle.std.specs.Char.{digit_value}
use Rattle.std.specs.Str.Parse.{AllDigits, digits_value}
use Rattle.std.proofs.lemmas.Bool.{cases_lt}
use Rattle.std.proofs.lemmas.List.{take_all, length-take-le, take-append-drop, take_more}
use Rattle.std.proofs.lemmas.Bool.Decides.{nat_tests}
use Rattle.std.proofs.lemmas.Fmt.{decimal_is_IsNumeral, decimal_digit, decimal_step, first_decimal, decimal_nonempty}
use Rattle.std.proofs.lemmas.Int.Digits.{digits_value_push}
use Rattle.std.proofs.lemmas.Str.Parse.{digit_from_value, digits_value-take-le}
use Rattle.std.proofs.Math.Seq.{take-append-add, take-append_seam}
use Rattle.hay_url.specs.Parts.{Begins, Fault, After, PartFault, Number, GoesOn}
use Rattle.hay_url.proofs.Languages.{IsCode, behind_part}

pub digits_of : (n : ℕ) → n < 2 ^ 32 → AllDigits 10 (decimal n)
digits_of n small = (decimal_is_IsNumeral n (omega arith)).0.1

pub value_of : (n : ℕ) → n < 2 ^ 32 → digits_value 10 (decimal n) ≡ n
value_of n small = (decimal_is_IsNumeral n (omega arith)).1

-- digits up to a mark
apart : (mark : ℕ) → mark < 48 → (p q x y : List ℕ) → AllDigits 10 p → AllDigits 10 q → p ++ mark ∷ x ≡ q ++ mark ∷ y → (p ≡ q) × (x ≡ y)
apart mark low [] [] x y h k e = (refl, cc)
apart mark low [] (c ∷ q) x y h k e =
    let same : mark ≡ c = cc in
    absurd (omega (arith, digit_from_value c k.0))
apart mark low (c ∷ p) [] x y h k e =
    let same : c ≡ mark = cc in
    absurd (omega (arith, digit_from_value c h.0))
apart mark low (c ∷ p) (d ∷ q) x y h k e =
    let first : c ≡ d = cc in
    let same : p ++ mark ∷ x ≡ q ++ mark ∷ y = cc in
    let rest = apart mark low p q x y h.1 k.1 same in
    let front = rest.0 in
    (cc, rest.1)

behind_mark : (p x : List ℕ) (mark : ℕ) → (p ++ mark ∷ []) ++ x ≡ p ++ mark ∷ x
behind_mark p x mark = append_assoc p (mark ∷ []) x

pub code : (mark : ℕ) → mark < 48 → IsCode (Number mark)
code mark low a b x y h k e =
    let left : a ++ x ≡ decimal h.0 ++ mark ∷ x = rw h.2 (behind_mark (decimal h.0) x mark) in
    let right : b ++ y ≡ decimal k.0 ++ mark ∷ y = rw k.2 (behind_mark (decimal k.0) y mark) in
    let same = apart mark low (decimal h.0) (decimal k.0) x y (digits_of h.0 h.1) (digits_of k.0 k.1) (sym left ∙ e ∙ right) in
    (h.2 ∙ ap (λ p. p ++ mark ∷ []) same.0 ∙ sym k.2, same.1)

-- A byte behind digits that is no mark goes on with the digits.
beyond : (mark b : ℕ) → mark < 48 → b ≢ mark → (p q s x : List ℕ) → AllDigits 10 p → AllDigits 10 q → p ++ b ∷ s ≡ q ++ mark ∷ x → (r : List ℕ) × (q ≡ p ++ b ∷ r)
beyond mark b low other [] [] s x h k e = absurd (other cc)
beyond mark b low other [] (d ∷ q) s x h k e = (q, cc)
beyond mark b low other (c ∷ p) [] s x h k e =
    let same : c ≡ mark = cc in
    absurd (omega (arith, digit_from_value c h.0))
beyond mark b low other (c ∷ p) (d ∷ q) s x h k e =
    let same : p ++ b ∷ s ≡ q ++ mark ∷ x = cc in
    let rest = beyond mark b low other p q s x h.1 k.1 same in
    let front = rest.1 in
    (rest.0, cc)

beyond_first : (mark b : ℕ) (q s x : List ℕ) → 0 < length q → b ∷ s ≡ q ++ mark ∷ x → (r : List ℕ) × (q ≡ b ∷ r)
beyond_first mark b [] s x some e = absurd (omega arith)
beyond_first mark b (d ∷ q) s x some e = (q, cc)

-- a byte that is no digit's mark, or has no digits before it
beyond_digits : (mark b : ℕ) → mark < 48 → (p q s x : List ℕ) → (0 < length p → b ≢ mark) → 0 < length q → AllDigits 10 p → AllDigits 10 q → p ++ b ∷ s ≡ q ++ mark ∷ x
    → (r : List ℕ) × (q ≡ p ++ b ∷ r)
beyond_digits mark b low [] q s x other some h k e = beyond_first mark b q s x some e
beyond_digits mark b low (c ∷ p) q s x other some h k e = beyond mark b low (other (omega arith)) (c ∷ p) q s x h k e

-- no digits have a mark in them
no_mark : (mark : ℕ) → mark < 48 → (p q x : List ℕ) → AllDigits 10 p → p ≡ q ++ mark ∷ x → ⊥
no_mark mark low [] [] x h e = cc
no_mark mark low [] (d ∷ q) x h e = cc
no_mark mark low (c ∷ p) [] x h e =
    let same : c ≡ mark = cc in
    omega (arith, digit_from_value c h.0)
no_mark mark low (c ∷ p) (d ∷ q) x h e = no_mark mark low p q x h.1 cc

-- what was read so far: no digit, or those of a number
pub data Reading (p : List ℕ) (v : ℕ) : Type 0 where
  none_yet : p ≡ [] → v ≡ 0 → Reading p v
  so_far : 0 < length p → p ≡ decimal v → v < 2 ^ 32 → Reading p v

digits_so_far : (p : List ℕ) (v : ℕ) → Reading p v → AllDigits 10 p × (digits_value 10 p ≡ v)
digits_so_far p v (none_yet e z) = rw (e, z) (tt, refl)
digits_so_far p v (so_far l e small) = rw e (digits_of v small, value_of v small)

code_of : (b : ℕ) → digit_value b < 10 → b ≡ 48 + digit_value b
code_of b h = grind (arith, nat_tests, digit_from_value b h)

one_digit : (b : ℕ) → digit_value b < 10 → b ∷ [] ≡ decimal (digit_value b)
one_digit b h = rw (decimal_digit (digit_value b) h) (ap (λ c. c ∷ []) (code_of b h))

more_digits : (v b : ℕ) → digit_value b < 10 → 0 < v → v * 10 + digit_value b < 2 ^ 32 → decimal v ++ b ∷ [] ≡ decimal (v * 10 + digit_value b)
more_digits v b h above small =
    let front : (v * 10 + digit_value b) / 10 ≡ v = omega arith in
    let last : (v * 10 + digit_value b) % 10 ≡ digit_value b = omega arith in
    rw (decimal_step (v * 10 + digit_value b) (omega arith) (omega arith), front, last) (ap (λ c. decimal v ++ c ∷ []) (code_of b h))

pub go_on : (p : List ℕ) (v b : ℕ) (started : Bool) → (0 < length p → started ≡ true) → Reading p v → GoesOn started v b → Reading (p ++ b ∷ []) (v * 10 + digit_value b)
go_on p v b started begun (none_yet e z) goes =
    let value : v * 10 + digit_value b ≡ digit_value b = omega arith in
    so_far (omega (arith, length-append p (b ∷ []))) (rw (e, value) (one_digit b goes.digit)) goes.fits
go_on p v b started begun (so_far l e small) goes =
    so_far (omega (arith, length-append p (b ∷ []))) (rw e (more_digits v b goes.digit (goes.plain (begun l)) goes.fits)) goes.fits

digit_behind : (p s : List ℕ) (b : ℕ) → AllDigits 10 (p ++ b ∷ s) → digit_value b < 10
digit_behind [] s b h = h.0
digit_behind (c ∷ p) s b h = digit_behind p s b h.1

-- no number but zero begins with a zero
begins_zero : (n b : ℕ) (s : List ℕ) → n < 2 ^ 32 → decimal n ≡ 48 ∷ b ∷ s → ⊥
begins_zero zero b s small e = let short : length (decimal 0) ≡ 1 = ap length (decimal_digit 0 (omega arith)) in omega (arith, ap length e)
begins_zero (suc n) b s small e =
    let first = first_decimal (suc n) (omega arith) (omega arith) in
    omega (arith, ap (λ t. get_or t 0 0) e)

not_zero : (p s : List ℕ) (v b n : ℕ) → p ≡ decimal v → n < 2 ^ 32 → decimal n ≡ p ++ b ∷ s → 0 < v
not_zero p s zero b n e small h = absurd (begins_zero n b s small (h ∙ ap (λ t. t ++ b ∷ s) (e ∙ decimal_digit 0 (omega arith))))
not_zero p s (suc v) b n e small h = omega arith

plain_by : (p s : List ℕ) (v b n : ℕ) (started : Bool) → (started ≡ true → 0 < length p) → Reading p v → n < 2 ^ 32 → decimal n ≡ p ++ b ∷ s → started ≡ true → 0 < v
plain_by p s v b n started begun (none_yet e z) small h went = absurd (omega (arith, begun went, ap length e))
plain_by p s v b n started begun (so_far l e less) small h went = not_zero p s v b n e small h

value_before : (p s : List ℕ) (b : ℕ) → digits_value 10 p * 10 + digit_value b ≤ digits_value 10 (p ++ b ∷ s)
value_before p s b =
    let cut : take (length p + 1) (p ++ b ∷ s) ≡ p ++ b ∷ [] = take-append-add p (b ∷ s) 1 in
    let bound = digits_value-take-le 10 (p ++ b ∷ s) (length p + 1) (omega arith) in
    omega (arith, rw cut at bound, digits_value_push 10 p b)

pub goes_on : (p s : List ℕ) (v b n : ℕ) (started : Bool) → (started ≡ true → 0 < length p) → Reading p v → n < 2 ^ 32 → decimal n ≡ p ++ b ∷ s → GoesOn started v b
goes_on p s v b n started begun reading small e =
    let value = value_before p s b in
    let same = ap (digits_value 10) e in
    record {
      digit = digit_behind p s b (subst (AllDigits 10) e (digits_of n small));
      plain = plain_by p s v b n started begun reading small e;
      fits = omega (arith, (digits_so_far p v reading).1, value_of n small);
    }

none_stuck : (mark : ℕ) → mark < 48 → (p s : List ℕ) (v b : ℕ) (started : Bool) → (started ≡ true → 0 < length p) → Reading p v → (0 < length p → b ≢ mark)
    → (GoesOn started v b → ⊥) → (part rest : List ℕ) → Number mark part → part ++ rest ≡ p ++ b ∷ s → ⊥
none_stuck mark low p s v b started begun reading other stop part rest h e =
    let whole : part ++ rest ≡ decimal h.0 ++ mark ∷ rest = rw h.2 (behind_mark (decimal h.0) rest mark) in
    let further = beyond_digits mark b low p (decimal h.0) s rest other (decimal_nonempty h.0 (omega arith)) (digits_so_far p v reading).0 (digits_of h.0 h.1) (sym e ∙ whole) in
    stop (goes_on p further.0 v b h.0 started begun reading h.1 further.1)

cut_behind : (p s more : List ℕ) (b j : ℕ) → take (length p + suc j) (p ++ b ∷ s) ++ more ≡ p ++ b ∷ (take j s ++ more)
cut_behind p s more b j = rw take-append-add (append_assoc p (b ∷ take j s) more)

longest_stuck : (mark : ℕ) → mark < 48 → (p s : List ℕ) (v b : ℕ) (started : Bool) → (started ≡ true → 0 < length p) → Reading p v → (0 < length p → b ≢ mark)
    → (GoesOn started v b → ⊥) → (k : ℕ) (part rest more : List ℕ) → Number mark part → part ++ rest ≡ take k (p ++ b ∷ s) ++ more → k ≤ length p
longest_stuck mark low p s v b started begun reading other stop k part rest more h e =
    elim (cases_lt (length p) k) [
      | inr short ↦ short
      | inl long ↦
          let length_of : k ≡ length p + suc (k - length p - 1) = omega arith in
          let cut : take k (p ++ b ∷ s) ++ more ≡ p ++ b ∷ (take (k - length p - 1) s ++ more) = ap (λ i. take i (p ++ b ∷ s) ++ more) length_of ∙ cut_behind p s more b (k - length p - 1) in
          absurd (none_stuck mark low p (take (k - length p - 1) s ++ more) v b started begun reading other stop part rest h (e ∙ cut))
    ]

number_begins : (mark : ℕ) (p : List ℕ) (v : ℕ) → Reading p v → Begins (Number mark) p
number_begins mark p v (none_yet e z) = rw e (decimal 0 ++ mark ∷ [], (0, omega arith, refl))
number_begins mark p v (so_far l e small) = (mark ∷ [], (v, small, ap (λ t. t ++ mark ∷ []) e))

-- where a number with its mark does not go on
pub stuck : (mark : ℕ) → mark < 48 → (p s : List ℕ) (v b : ℕ) (started : Bool) → (started ≡ true → 0 < length p) → Reading p v → (0 < length p → b ≢ mark)
    → (GoesOn started v b → ⊥) → PartFault (Number mark) (p ++ b ∷ s) (length p)
stuck mark low p s v b started begun reading other stop = record {
  none = λ part rest h e. none_stuck mark low p s v b started begun reading other stop part rest h e;
  within = omega (arith, length-append p (b ∷ s));
  begins = rw (take-append_seam p (b ∷ s)) (number_begins mark p v reading);
  longest = λ k within part rest more h e. longest_stuck mark low p s v b started begun reading other stop k part rest more h e;
}

none_ended : (mark : ℕ) → mark < 48 → (p : List ℕ) (v : ℕ) → Reading p v → (part rest : List ℕ) → Number mark part → part ++ rest ≡ p → ⊥
none_ended mark low p v reading part rest h e =
    let whole : part ++ rest ≡ decimal h.0 ++ mark ∷ rest = rw h.2 (behind_mark (decimal h.0) rest mark) in
    no_mark mark low p (decimal h.0) rest (digits_so_far p v reading).0 (sym e ∙ whole)

-- where the text ends in a number
pub ended : (mark : ℕ) → mark < 48 → (p : List ℕ) (v : ℕ) → Reading p v → PartFault (Number mark) p (length p)
ended mark low p v reading = record {
  none = λ part rest h e. none_ended mark low p v reading part rest h e;
  within = omega arith;
  begins = rw (take_all (length p) p (omega arith)) (number_begins mark p v reading);
  longest = λ k within part rest more h e. within;
}

-- a number with its mark was read
pub number_read : (mark : ℕ) (p : List ℕ) (v : ℕ) → 0 < length p → Reading p v → (p ≡ decimal v) × (v < 2 ^ 32)
number_read mark p v l (none_yet e z) = absurd (omega (arith, ap length e))
number_read mark p v l (so_far k e small) = (e, small)

-- what stands behind a number with its mark
pub behind_number : (mark : ℕ) → mark < 48 → (L : List ℕ → Type 0) (text : List ℕ) (n used at : ℕ) → n < 2 ^ 32 → used ≤ length text → take used text ≡ decimal n ++ mark ∷ []
    → Fault L (drop used text) at → Fault (After (Number mark) L) text (used + at)
behind_number mark low L text n used at small within front fault =
    let size : length (take used text) ≡ used = length-take-le used text within in
    let whole : take used text ++ drop used text ≡ text = take-append-drop used text in
    let here = behind_part (Number mark) L (code mark low) (take used text) (drop used text) at (n, small, front) fault in
    rw (size, whole) at here

pub joined_number : (mark : ℕ) (text rest : List ℕ) (n used : ℕ) → take used text ≡ decimal n ++ mark ∷ [] → drop used text ≡ rest → text ≡ decimal n ++ mark ∷ rest
joined_number mark text rest n used front back =
    sym (take-append-drop used text) ∙ ap (λ t. t ++ drop used text) front ∙ behind_mark (decimal n) (drop used text) mark ∙ ap (λ t. decimal n ++ mark ∷ t) back

parts_at : (text : List ℕ) (at : ℕ) → at < length text → take at text ++ get_or text at 0 ∷ drop (suc at) text ≡ text
parts_at text at within = rw (← drop-cons text at 0 within) (take-append-drop at text)

begun_from : (at : ℕ) (p : List ℕ) → length p ≡ at → nat_lt 0 at ≡ true → 0 < length p
begun_from at p size h = grind (arith, nat_tests)

begun_to : (at : ℕ) (p : List ℕ) → length p ≡ at → 0 < length p → nat_lt 0 at ≡ true
begun_to at p size h = grind (arith, nat_tests)

-- the same of a text and a place in it
pub stuck_at : (mark : ℕ) → mark < 48 → (text : List ℕ) (at n : ℕ) → at < length text → Reading (take at text) n → (0 < at → get_or text at 0 ≢ mark)
    → (GoesOn (nat_lt 0 at) n (get_or text at 0) → ⊥) → PartFault (Number mark) text at
stuck_at mark low text at n within reading other stop =
    let size : length (take at text) ≡ at = length-take-le at text (omega arith) in
    let fault = stuck mark low (take at text) (drop (suc at) text) n (get_or text at 0) (nat_lt 0 at) (begun_from at (take at text) size) reading (λ some. other (omega arith)) stop in
    rw (parts_at text at within, size) at fault

pub go_on_at : (text : List ℕ) (at n : ℕ) → at < length text → Reading (take at text) n → GoesOn (nat_lt 0 at) n (get_or text at 0)
    → Reading (take (at + 1) text) (n * 10 + digit_value (get_or text at 0))
go_on_at text at n within reading goes =
    let size : length (take at text) ≡ at = length-take-le at text (omega arith) in
    rw (take_more text at 0 within) (go_on (take at text) n (get_or text at 0) (nat_lt 0 at) (begun_to at (take at text) size) reading goes)
