-- What tests for faults say of bytes.
use Rattle.std.proofs.Common.{◌≡◌, ℕ, List, [], ◌∷◌, ◌++◌, take, refl, sym, ◌∙◌, Bool, true, false, cond, eqb, Option, Some, None, Result, Ok, Err}
use Rattle.std.specs.Prelude.{not, IsOk}
use Rattle.std.specs.Option.{option_or}
use Rattle.std.proofs.lemmas.Bool.{eqb-true}
use Rattle.std.proofs.lemmas.Bool.Decides.{Decides-eqb}
use Rattle.std.proofs.lemmas.Slice.Eq.{slice_eq-Decides}
use Rattle.sha2.specs.Sha256.{sha256}
use Rattle.hay_needle.specs.Fields.{has_sum}
use Rattle.hay_needle.specs.Faults.{fault_of, first_fault}

-- where no test finds a fault, the first one does not, nor do the others
pub passed : {F : Type 0} (fault : F) (differs : Bool) (rest : Option F) → option_or (cond differs (Some fault) None) rest ≡ None → (differs ≡ false) × (rest ≡ None)
passed fault true rest e = absurd cc
passed fault false rest e = (refl, e)

pub has_not : (b : Bool) → not b ≡ false → b ≡ true
has_not true e = refl
has_not false e = absurd cc

-- numbers that do not differ
pub no_difference : (a b : ℕ) → not (eqb a b) ≡ false → a ≡ b
no_difference a b e = eqb-true a b (has_not (eqb a b) e)

pub same_sum : (photo sum : List ℕ) → has_sum photo sum ≡ true → sum ≡ take 8 (sha256 photo)
same_sum photo sum e = (slice_eq-Decides Decides-eqb sum (take 8 (sha256 photo)) (has_sum photo sum) refl).0 e

pub sum_same : (photo sum : List ℕ) → sum ≡ take 8 (sha256 photo) → has_sum photo sum ≡ true
sum_same photo sum e = (slice_eq-Decides Decides-eqb sum (take 8 (sha256 photo)) (has_sum photo sum) refl).1 e

-- without a fault the answer is Ok
pub accepts : {X F : Type 0} (r : Result X F) → fault_of r ≡ None → IsOk r
accepts (Ok x) e = refl
accepts (Err fault) e = absurd cc

-- tests, and tests behind them
pub first_of_both : {F : Type 0} (tests more : List (F × Bool)) → first_fault (tests ++ more) ≡ option_or (first_fault tests) (first_fault more)
first_of_both [] more = refl
first_of_both ((fault, true) ∷ tests) more = refl
first_of_both ((fault, false) ∷ tests) more = first_of_both tests more

option_or_none : {F : Type 0} (a b : Option F) → option_or a b ≡ None → (a ≡ None) × (b ≡ None)
option_or_none None b e = (refl, e)
option_or_none (Some x) b e = absurd cc

pub both_passed : {F : Type 0} (tests more : List (F × Bool)) → first_fault (tests ++ more) ≡ None → (first_fault tests ≡ None) × (first_fault more ≡ None)
both_passed tests more e = option_or_none (first_fault tests) (first_fault more) (sym (first_of_both tests more) ∙ e)

pub both_pass : {F : Type 0} (tests more : List (F × Bool)) → first_fault tests ≡ None → first_fault more ≡ None → first_fault (tests ++ more) ≡ None
both_pass tests more a b = first_of_both tests more ∙ rw (a, b) refl
