-- The pass that finds the next needle to copy.
use Rattle.std.proofs.Common.{◌≡◌, ℕ, zero, suc, ◌+◌, ◌-◌, ◌<◌, ◌≤◌, List, [], ◌∷◌, Option, Some, None, true, false, refl, ap, ◌∙◌, arith}
use Rattle.std.specs.Prelude.{option_map}
use Rattle.std.proofs.lemmas.Bool.{cond-true, cond-false}
use Rattle.hay_needle.specs.declared.needle.Needle.{Needle}
use Rattle.hay_needle.specs.Tables.{is_live}
use Rattle.hay_core.specs.declared.calls.Copied.{Copied}
use Rattle.hay_core.specs.Calls.{copy_next, one_more}

-- the needle, behind n that are passed
abbrev pub later : ℕ → Option Copied → Option Copied
later n None = None
later n (Some x) = Some (record { needle = x.needle; passed = x.passed + n })

one_later_by : (x : Copied) (n : ℕ) → later n (Some (one_more x)) ≡ later (n + 1) (Some x)
one_later_by x n =
    let same : x.passed + 1 + n ≡ x.passed + (n + 1) = omega arith in
    ap (λ (k : ℕ). Some (record { needle = x.needle; passed = k })) same

later_more : (n : ℕ) (o : Option Copied) → later n (option_map one_more o) ≡ later (n + 1) o
later_more n None = refl
later_more n (Some x) = one_later_by x n

pub pass_on : (budget i : ℕ) (c : Needle) (cs rest : List Needle) → i < budget → cs ≡ c ∷ rest → is_live c rest ≡ false
    → later i (copy_next (budget - i) cs) ≡ later (i + 1) (copy_next (budget - (i + 1)) rest)
pass_on budget i c cs rest h is dead =
    let left : budget - i ≡ suc (budget - (i + 1)) = omega (arith, h) in
    let b : ℕ = budget - (i + 1) in
    let first : Copied = record { needle = c; passed = 1 } in
    ap (λ (k : ℕ). later i (copy_next k cs)) left
    ∙ ap (λ (xs : List Needle). later i (copy_next (suc b) xs)) is
    ∙ ap (λ (o : Option Copied). later i o) (cond-false (is_live c rest) (Some first) (option_map one_more (copy_next b rest)) dead)
    ∙ later_more i (copy_next b rest)

pub found : (budget i : ℕ) (c : Needle) (cs rest : List Needle) → i < budget → cs ≡ c ∷ rest → is_live c rest ≡ true
    → later i (copy_next (budget - i) cs) ≡ Some (record { needle = c; passed = i + 1 })
found budget i c cs rest h is live =
    let left : budget - i ≡ suc (budget - (i + 1)) = omega (arith, h) in
    let b : ℕ = budget - (i + 1) in
    let first : Copied = record { needle = c; passed = 1 } in
    let same : 1 + i ≡ i + 1 = omega arith in
    ap (λ (k : ℕ). later i (copy_next k cs)) left
    ∙ ap (λ (xs : List Needle). later i (copy_next (suc b) xs)) is
    ∙ ap (λ (o : Option Copied). later i o) (cond-true (is_live c rest) (Some first) (option_map one_more (copy_next b rest)) live)
    ∙ ap (λ (k : ℕ). Some (record { needle = c; passed = k })) same

pub over : (budget i : ℕ) (cs : List Needle) → budget ≤ i → later i (copy_next (budget - i) cs) ≡ None
over budget i cs h =
    let left : budget - i ≡ 0 = omega (arith, h) in
    ap (λ (k : ℕ). later i (copy_next k cs)) left

pub at_end : (n i : ℕ) (cs : List Needle) → cs ≡ [] → later i (copy_next n cs) ≡ None
at_end zero i cs is = refl
at_end (suc n) i cs is = ap (λ (xs : List Needle). later i (copy_next (suc n) xs)) is

pub from_start : (o : Option Copied) → later 0 o ≡ o
from_start None = refl
from_start (Some x) = let same : x.passed + 0 ≡ x.passed = omega arith in ap (λ (k : ℕ). Some (record { needle = x.needle; passed = k })) same
