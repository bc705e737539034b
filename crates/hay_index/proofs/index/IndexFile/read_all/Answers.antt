use Rattle.std.proofs.Common.{ℕ, ap, sym, subst, ◌∙◌, Err}
use Rattle.std.proofs.lemmas.Result.{err_from_is_err_and}
use Rattle.hay_needle.specs.Super.{super_bytes}
use Rattle.hay_index.specs.Records.{IsDamagedIndex, IsIndex}
use Rattle.hay_index.proofs.ReadLaws.{same_fault}
use Rattle.hay_index.proofs.index.IndexFile.read_all.Goals as goal

pub returns-in_err-records-clause-sound : goal.returns-in_err-records-clause-sound
returns-in_err-records-clause-sound g c = λ tells records end k is damaged.
    let fault = err_from_is_err_and c.from_residual-in_err-records.result c.from_residual-in_err-records.ensures.1 in
    let seen = c.as_slice.ensures.value ∙ c.in_ok-bytes.ensures.read tells in
    c.in_err-records.ensures.sound records end k (subst (λ l. IsIndex (super_bytes c.args.sup.now) l records end) (sym seen) is)
    (ap (λ x. Err x) (same_fault c.from_residual-in_err-records.result fault.0 c.in_err-records.field-0.0 k fault.1 fault.2 damaged))

pub returns-clause-only : goal.returns-clause-only
returns-clause-only g c = λ tells records end is.
    let seen = c.as_slice.ensures.value ∙ c.in_ok-bytes.ensures.read tells in
    c.in_ok-records.ensures.only records end (subst (λ l. IsIndex (super_bytes c.args.sup.now) l records end) (sym seen) is)

pub returns-clause-undamaged : goal.returns-clause-undamaged
returns-clause-undamaged g c = λ tells.
    subst (λ l. (k : ℕ) → IsDamagedIndex c.args.sup.now l k → ⊥) (c.as_slice.ensures.value ∙ c.in_ok-bytes.ensures.read tells) c.in_ok-records.ensures.undamaged
