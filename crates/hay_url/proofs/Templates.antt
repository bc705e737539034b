-- Texts as a template.
use Rattle.std.proofs.Common.{◌≡◌, ℕ, ◌+◌, ◌==◌, ◌&&◌, ◌<◌, ◌≤◌, zero, suc, Bool, true, false, List, [], ◌∷◌, ◌++◌, length, take, drop, Option, Some, None, refl, sym, ◌∙◌, ap}
use Rattle.std.proofs.Common.{arith, if◌then◌else◌, unwrap_or, not, get_or, drop-cons}
use Rattle.std.specs.List.{list_all}
use Rattle.std.proofs.lemmas.List.{drop_all}
use Rattle.std.specs.Prelude.{option_map}
use Rattle.std.proofs.lemmas.Bool.Decides.{nat_tests}
use Rattle.std.proofs.lemmas.Bool.{false≢true}
use Rattle.hay_url.specs.Parts.{PartFault, is_lower_hex, fits_byte, misfit, fits, Fits}
use Rattle.hay_url.proofs.Languages.{IsCode}

pub and_true : (a b : Bool) → (a && b) ≡ true → (a ≡ true) × (b ≡ true)
and_true true b h = (refl, h)
and_true false b h = cc

pub and_both : (a b : Bool) → a ≡ true → b ≡ true → (a && b) ≡ true
and_both a b p q = rw p q

-- some text fits
fill_by : (want : ℕ) (test : Bool) → (want == 35) ≡ test → (b : ℕ) × (fits_byte want b ≡ true)
fill_by want true e = (48, rw e refl)
fill_by want false e = (want, rw e (grind (arith, nat_tests)))

fill : (want : ℕ) → (b : ℕ) × (fits_byte want b ≡ true)
fill want = fill_by want (want == 35) refl

pub filled : (template : List ℕ) → (text : List ℕ) × Fits template text
filled [] = ([], refl)
filled (want ∷ template) =
    let b = fill want in
    let rest = filled template in
    (b.0 ∷ rest.0, and_both (fits_byte want b.0) (fits template rest.0) b.1 rest.1)

pub code : (template : List ℕ) → IsCode (Fits template)
code [] [] [] x y h k e = (refl, e)
code [] [] (b ∷ v) x y h k e = cc
code [] (a ∷ u) v x y h k e = cc
code (want ∷ template) [] v x y h k e = cc
code (want ∷ template) (a ∷ u) [] x y h k e = cc
code (want ∷ template) (a ∷ u) (b ∷ v) x y h k e =
    let first : a ≡ b = cc in
    let same : u ++ x ≡ v ++ y = cc in
    let rest = code template u v x y (and_true (fits_byte want a) (fits template u) h).1 (and_true (fits_byte want b) (fits template v) k).1 same in
    let front = rest.0 in
    (cc, rest.1)

none_at_end : (want : ℕ) (template part rest : List ℕ) → Fits (want ∷ template) part → part ++ rest ≡ [] → ⊥
none_at_end want template [] rest h e = cc
none_at_end want template (a ∷ part) rest h e = cc

at_end : (want : ℕ) (template : List ℕ) → PartFault (Fits (want ∷ template)) [] 0
at_end want template = record {
  none = λ part rest h e. none_at_end want template part rest h e;
  within = omega arith;
  begins = filled (want ∷ template);
  longest = λ k within part rest more h e. within;
}

none_at_wrong : (want b : ℕ) (template text part rest : List ℕ) → fits_byte want b ≡ false → Fits (want ∷ template) part → part ++ rest ≡ b ∷ text → ⊥
none_at_wrong want b template text [] rest wrong h e = cc
none_at_wrong want b template text (a ∷ part) rest wrong h e =
    let same : a ≡ b = cc in
    let right = (and_true (fits_byte want a) (fits template part) h).0 in
    false≢true (sym wrong ∙ rw same at right)

longest_at_wrong : (want b : ℕ) (template text : List ℕ) (k : ℕ) (part rest more : List ℕ) → fits_byte want b ≡ false → Fits (want ∷ template) part → part ++ rest ≡ take k (b ∷ text) ++ more → k ≤ 0
longest_at_wrong want b template text zero part rest more wrong h e = omega arith
longest_at_wrong want b template text (suc k) part rest more wrong h e = absurd (none_at_wrong want b template (take k text ++ more) part rest wrong h e)

at_wrong : (want b : ℕ) (template text : List ℕ) → fits_byte want b ≡ false → PartFault (Fits (want ∷ template)) (b ∷ text) 0
at_wrong want b template text wrong = record {
  none = λ part rest h e. none_at_wrong want b template text part rest wrong h e;
  within = omega arith;
  begins = filled (want ∷ template);
  longest = λ k within part rest more h e. longest_at_wrong want b template text k part rest more wrong h e;
}

none_more : (want b : ℕ) (template text : List ℕ) (at : ℕ) → PartFault (Fits template) text at → (part rest : List ℕ) → Fits (want ∷ template) part → part ++ rest ≡ b ∷ text → ⊥
none_more want b template text at fault [] rest h e = cc
none_more want b template text at fault (a ∷ part) rest h e =
    let same : part ++ rest ≡ text = cc in
    fault.none part rest (and_true (fits_byte want a) (fits template part) h).1 same

longest_more : (want b : ℕ) (template text : List ℕ) (at : ℕ) → PartFault (Fits template) text at → (k : ℕ) (part rest more : List ℕ) → k ≤ length (b ∷ text)
    → Fits (want ∷ template) part → part ++ rest ≡ take k (b ∷ text) ++ more → k ≤ suc at
longest_more want b template text at fault zero part rest more within h e = omega arith
longest_more want b template text at fault (suc k) [] rest more within h e = cc
longest_more want b template text at fault (suc k) (a ∷ part) rest more within h e =
    let same : part ++ rest ≡ take k text ++ more = cc in
    let bound = fault.longest k (omega arith) part rest more (and_true (fits_byte want a) (fits template part) h).1 same in
    omega arith

one_more : (want b : ℕ) (template text : List ℕ) (at : ℕ) → fits_byte want b ≡ true → PartFault (Fits template) text at → PartFault (Fits (want ∷ template)) (b ∷ text) (suc at)
one_more want b template text at right fault = record {
  none = λ part rest h e. none_more want b template text at fault part rest h e;
  within = omega (arith, fault.within);
  begins = (fault.begins.0, and_both (fits_byte want b) (fits template (take at text ++ fault.begins.0)) right fault.begins.1);
  longest = λ k within part rest more h e. longest_more want b template text at fault k part rest more within h e;
}

misfit_more : (want b : ℕ) (template text : List ℕ) (at : ℕ) (test : Bool) (found : Option ℕ) → fits_byte want b ≡ test
    → ((j : ℕ) → found ≡ Some j → PartFault (Fits template) text j) → (if test then option_map (λ j. j + 1) found else Some 0) ≡ Some at → PartFault (Fits (want ∷ template)) (b ∷ text) at
misfit_more want b template text at true (Some j) right further e =
    let same : at ≡ suc j = omega (arith, ap (λ o. unwrap_or o 0) e) in
    rw same (one_more want b template text j right (further j refl))
misfit_more want b template text at true None right further e = cc
misfit_more want b template text at false found wrong further e =
    let same : at ≡ 0 = omega (arith, ap (λ o. unwrap_or o 0) e) in
    rw same (at_wrong want b template text wrong)

-- where a text leaves a template
pub misfit_fault : (template text : List ℕ) (at : ℕ) → misfit template text ≡ Some at → PartFault (Fits template) text at
misfit_fault [] text at e = cc
misfit_fault (want ∷ template) [] at e =
    let same : at ≡ 0 = omega (arith, ap (λ o. unwrap_or o 0) e) in
    rw same (at_end want template)
misfit_fault (want ∷ template) (b ∷ text) at e =
    misfit_more want b template text at (fits_byte want b) (misfit template text) refl (λ j h. misfit_fault template text j h) e

fit_more : (want b : ℕ) (template text : List ℕ) (test : Bool) (found : Option ℕ) → fits_byte want b ≡ test
    → (found ≡ None → (length template ≤ length text) × Fits template (take (length template) text)) → (if test then option_map (λ j. j + 1) found else Some 0) ≡ None
    → (suc (length template) ≤ suc (length text)) × Fits (want ∷ template) (b ∷ take (length template) text)
fit_more want b template text true (Some j) right further e = cc
fit_more want b template text true None right further e =
    let rest = further refl in
    (omega (arith, rest.0), and_both (fits_byte want b) (fits template (take (length template) text)) right rest.1)
fit_more want b template text false found wrong further e = cc

-- a text that does not leave a template begins with a text of it
pub misfit_none : (template text : List ℕ) → misfit template text ≡ None → (length template ≤ length text) × Fits template (take (length template) text)
misfit_none [] text e = (omega arith, refl)
misfit_none (want ∷ template) [] e = cc
misfit_none (want ∷ template) (b ∷ text) e = fit_more want b template text (fits_byte want b) (misfit template text) refl (λ h. misfit_none template text h) e

same_byte : (want b : ℕ) (test : Bool) → (want == 35) ≡ test → not test ≡ true → (if test then is_lower_hex b else b == want) ≡ true → b ≡ want
same_byte want b true e h k = cc
same_byte want b false e h k = grind (arith, nat_tests)

-- where no number sign stands, a text is the template itself
pub plain : (template text : List ℕ) → list_all (λ want. not (want == 35)) template ≡ true → Fits template text → text ≡ template
plain [] [] h k = refl
plain [] (b ∷ text) h k = cc
plain (want ∷ template) [] h k = cc
plain (want ∷ template) (b ∷ text) h k =
    let here = and_true (not (want == 35)) (list_all (λ want. not (want == 35)) template) h in
    let fitting = and_true (fits_byte want b) (fits template text) k in
    let same : b ≡ want = same_byte want b (want == 35) refl here.0 fitting.0 in
    ap (λ c. c ∷ text) same ∙ ap (λ t. want ∷ t) (plain template text here.1 fitting.1)

-- the place of a misfit
pub misfit_at_end : (template text : List ℕ) (at : ℕ) → at < length template → length text ≤ at → misfit (drop at template) (drop at text) ≡ Some 0
misfit_at_end template text at more past = rw (drop_all at text past, drop-cons template at 0 more)

pub misfit_at_wrong : (template text : List ℕ) (at : ℕ) → at < length template → at < length text → fits_byte (get_or template at 0) (get_or text at 0) ≡ false
    → misfit (drop at template) (drop at text) ≡ Some 0
misfit_at_wrong template text at more within wrong = rw (drop-cons template at 0 more, drop-cons text at 0 within, wrong)
