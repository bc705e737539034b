use Rattle.std.proofs.Common.{ap, Err, inl, inr, ◌∙◌}
use Rattle.std.proofs.lemmas.Result.{err_from_is_err_and}
use Rattle.hay_open.proofs.Reading.{same_refusal, front_fault, front_undamaged, index_fault, sought_front, sought_index}
use Rattle.hay_open.proofs.listing.read_recorded.Goals as goal

pub returns-in_err-head-clause-damaged : goal.returns-in_err-head-clause-damaged
returns-in_err-head-clause-damaged g c = λ tells file at is.
    let fault = err_from_is_err_and c.from_residual.result c.from_residual.ensures.1 in
    inl (c.in_err-head.ensures.damaged tells file at (ap (λ x. Err x) (same_refusal c.from_residual.result fault.0 c.in_err-head.field-0.0 file at fault.1 fault.2 is)))

pub returns-in_err-check_front-clause-damaged : goal.returns-in_err-check_front-clause-damaged
returns-in_err-check_front-clause-damaged g c = λ tells file at is.
    let fault = err_from_is_err_and c.from_residual-in_err-check_front.result c.from_residual-in_err-check_front.ensures.1 in
    let there =
    c.in_err-check_front.ensures.damaged tells file at (ap (λ x. Err x) (same_refusal c.from_residual-in_err-check_front.result fault.0 c.in_err-check_front.field-0.0 file at
    fault.1 fault.2 is)) in
    front_fault c.args.sup.now c.volume_super.result (g.D.Disk.files c.args.disk.now) (g.D.Disk.files c.read_head_file.new.disk) c.in_ok-head.head.generation file
    c.volume_file.result at (c.in_ok-head.ensures.head tells) (c.read_head_file.ensures.same tells) c.volume_file.ensures c.volume_super.ensures.is there

pub returns-in_err-check_front-clause-only : goal.returns-in_err-check_front-clause-only
returns-in_err-check_front-clause-only g c = λ tells generation records end has file at is.
    let fault = err_from_is_err_and c.from_residual-in_err-check_front.result c.from_residual-in_err-check_front.ensures.1 in
    c.in_err-check_front.ensures.only tells
    (sought_front c.args.sup.now c.volume_super.result (g.D.Disk.files c.args.disk.now) (g.D.Disk.files c.read_head_file.new.disk) c.in_ok-head.head.generation generation
    c.volume_file.result end records (c.in_ok-head.ensures.head tells) (c.read_head_file.ensures.same tells) c.volume_file.ensures c.volume_super.ensures.is has)
    file at (ap (λ x. Err x) (same_refusal c.from_residual-in_err-check_front.result fault.0 c.in_err-check_front.field-0.0 file at fault.1 fault.2 is))

pub returns-in_err-index-clause-damaged : goal.returns-in_err-index-clause-damaged
returns-in_err-index-clause-damaged g c = λ tells file at is.
    let fault = err_from_is_err_and c.from_residual-in_err-index.result c.from_residual-in_err-index.ensures.1 in
    let there = c.in_err-index.ensures.damaged tells file at (ap (λ x. Err x) (same_refusal c.from_residual-in_err-index.result fault.0 c.in_err-index.field-0.0 file at fault.1 fault.2 is)) in
    index_fault c.args.sup.now c.volume_super.result c.index_super.result (g.D.Disk.files c.args.disk.now) (g.D.Disk.files c.read_head_file.new.disk)
    (g.D.Disk.files c.check_front.new.disk) c.in_ok-head.head.generation file c.index_file.result at c.volume_file.result
    (c.in_ok-head.ensures.head tells) (c.read_head_file.ensures.same tells) c.volume_file.ensures c.volume_super.ensures.is (c.in_ok-check_front.ensures.begins tells)
    (c.check_front.ensures.same tells ∙ c.read_head_file.ensures.same tells) c.index_file.ensures c.index_super.ensures there

pub returns-in_err-index-clause-only : goal.returns-in_err-index-clause-only
returns-in_err-index-clause-only g c = λ tells generation records end has file at is.
    let fault = err_from_is_err_and c.from_residual-in_err-index.result c.from_residual-in_err-index.ensures.1 in
    c.in_err-index.ensures.only tells records end
    (sought_index c.args.sup.now c.index_super.result (g.D.Disk.files c.args.disk.now) (g.D.Disk.files c.check_front.new.disk) c.in_ok-head.head.generation generation
    c.index_file.result end records (c.in_ok-head.ensures.head tells) (c.check_front.ensures.same tells ∙ c.read_head_file.ensures.same tells) c.index_file.ensures c.index_super.ensures has)
    file at (ap (λ x. Err x) (same_refusal c.from_residual-in_err-index.result fault.0 c.in_err-index.field-0.0 file at fault.1 fault.2 is))

pub returns-clause-undamaged : goal.returns-clause-undamaged
returns-clause-undamaged g c = λ tells file at.
    front_undamaged c.args.sup.now c.volume_super.result c.index_super.result (g.D.Disk.files c.args.disk.now) (g.D.Disk.files c.read_head_file.new.disk)
    (g.D.Disk.files c.check_front.new.disk) c.in_ok-head.head.generation file at c.volume_file.result c.index_file.result
    (c.in_ok-head.ensures.head tells) (c.in_ok-head.ensures.undamaged tells at) (c.read_head_file.ensures.same tells) c.volume_file.ensures c.volume_super.ensures.is
    (c.in_ok-check_front.ensures.undamaged tells at)
    (c.check_front.ensures.same tells ∙ c.read_head_file.ensures.same tells) c.index_file.ensures c.index_super.ensures (c.in_ok-index.ensures.undamaged tells at)

-- WHATEVER THE DISK TELLS

pub returns-in_err-head-clause-file : goal.returns-in_err-head-clause-file
returns-in_err-head-clause-file g c = λ file at is.
    let fault = err_from_is_err_and c.from_residual.result c.from_residual.ensures.1 in
    inl (c.in_err-head.ensures.file file at (ap (λ x. Err x) (same_refusal c.from_residual.result fault.0 c.in_err-head.field-0.0 file at fault.1 fault.2 is)))

pub returns-in_err-check_front-clause-file : goal.returns-in_err-check_front-clause-file
returns-in_err-check_front-clause-file g c = λ file at is.
    let most = c.in_ok-head.ensures.most in
    let fault = err_from_is_err_and c.from_residual-in_err-check_front.result c.from_residual-in_err-check_front.ensures.1 in
    let same = c.in_err-check_front.ensures.file file at (ap (λ x. Err x) (same_refusal c.from_residual-in_err-check_front.result fault.0 c.in_err-check_front.field-0.0 file at fault.1 fault.2 is)) in
    inr (c.in_ok-head.head.generation, most, inl (same ∙ c.volume_file.ensures most))

pub returns-in_err-index-clause-file : goal.returns-in_err-index-clause-file
returns-in_err-index-clause-file g c = λ file at is.
    let most = c.in_ok-head.ensures.most in
    let fault = err_from_is_err_and c.from_residual-in_err-index.result c.from_residual-in_err-index.ensures.1 in
    let same = c.in_err-index.ensures.file file at (ap (λ x. Err x) (same_refusal c.from_residual-in_err-index.result fault.0 c.in_err-index.field-0.0 file at fault.1 fault.2 is)) in
    inr (c.in_ok-head.head.generation, most, inr (same ∙ c.index_file.ensures most))
