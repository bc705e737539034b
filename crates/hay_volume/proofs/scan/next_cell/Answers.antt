use Rattle.std.proofs.Common.{◌≡◌, sym, ap, refl, Err}
use Rattle.std.proofs.lemmas.Result.{err_from_is_err_and}
use Rattle.hay_volume.proofs.ReadLaws.{same_fault}
use Rattle.hay_volume.proofs.ScanLaws.{broken_here, on_true}
use Rattle.hay_volume.proofs.scan.next_cell.Goals as goal

pub returns-in_err-head-clause-damaged : goal.returns-in_err-head-clause-damaged
returns-in_err-head-clause-damaged g c = λ tells k is.
    let fault = err_from_is_err_and c.from_residual-in_err-head.result c.from_residual-in_err-head.ensures.1 in
    let place : k ≡ c.args.at = c.in_err-head.ensures.damage k (ap (λ x. Err x) (same_fault c.from_residual-in_err-head.result fault.0 c.in_err-head.field-0.0 k k fault.1 fault.2 is refl)) in
    let magic = on_true c.in_ok-begins_cell.field-0 _ c.if-not-branch.false (c.in_ok-begins_cell.ensures.magic tells) in (
      place,
      broken_here c.args.at c.begins_cell.new.bytes.items (g.D.Disk.files c.args.disk.now c.args.file).now (g.D.Disk.files c.begins_cell.new.disk c.args.file).now
          (ap (λ files. (files c.args.file).now) (c.begins_cell.ensures.same tells)) (c.in_ok-begins_cell.ensures.read tells) magic
          (λ seen. c.in_err-head.ensures.damaged tells seen (ap (λ x. Err x) (same_fault c.from_residual-in_err-head.result fault.0 c.in_err-head.field-0.0 k c.args.at fault.1
          fault.2 is (sym place)))),
    )
