use Rattle.std.proofs.Common.{Err, ap, inl, inr, ◌∙◌}
use Rattle.std.proofs.lemmas.Result.{err_from_is_err_and}
use Rattle.hay_check.proofs.Reading.{same_refusal, volume_damage}
use Rattle.hay_check.proofs.volume.read_cells.Goals as goal

pub returns-in_err-generation-clause-damaged : goal.returns-in_err-generation-clause-damaged
returns-in_err-generation-clause-damaged g c = λ tells file at is.
    let fault = err_from_is_err_and c.from_residual.result c.from_residual.ensures.1 in
    inl (c.in_err-generation.ensures.damaged tells file at (ap (λ x. Err x) (same_refusal c.from_residual.result fault.0 c.in_err-generation.field-0.0 file at fault.1 fault.2 is)))

pub returns-in_err-heads-clause-damaged : goal.returns-in_err-heads-clause-damaged
returns-in_err-heads-clause-damaged g c = λ tells file at is.
    let fault = err_from_is_err_and c.from_residual-in_err-heads.result c.from_residual-in_err-heads.ensures.1 in
    let damage = c.in_err-heads.ensures.damaged tells file at (ap (λ x. Err x) (same_refusal c.from_residual-in_err-heads.result fault.0 c.in_err-heads.field-0.0 file at fault.1 fault.2 is)) in
    volume_damage c.args.sup.now c.volume_super.result (g.D.Disk.files c.args.disk.now) (g.D.Disk.files c.read_generation.new.disk) c.in_ok-generation.generation file c.volume_file.result at
    (c.in_ok-generation.ensures.head tells) (c.read_generation.ensures.same tells) c.volume_file.ensures c.volume_super.ensures.is damage

pub returns-in_err-generation-clause-file : goal.returns-in_err-generation-clause-file
returns-in_err-generation-clause-file g c = λ file at is.
    let fault = err_from_is_err_and c.from_residual.result c.from_residual.ensures.1 in
    inl (c.in_err-generation.ensures.file file at (ap (λ x. Err x) (same_refusal c.from_residual.result fault.0 c.in_err-generation.field-0.0 file at fault.1 fault.2 is)))

pub returns-in_err-heads-clause-file : goal.returns-in_err-heads-clause-file
returns-in_err-heads-clause-file g c = λ file at is.
    let fault = err_from_is_err_and c.from_residual-in_err-heads.result c.from_residual-in_err-heads.ensures.1 in
    let same = c.in_err-heads.ensures.file file at (ap (λ x. Err x) (same_refusal c.from_residual-in_err-heads.result fault.0 c.in_err-heads.field-0.0 file at fault.1 fault.2 is)) in
    let most = c.in_ok-generation.ensures.most in
    inr (c.in_ok-generation.generation, most, inl (same ∙ c.volume_file.ensures most))
