use Rattle.std.proofs.Common.{Err, refl, sym, ap, subst}
use Rattle.hay_disk.specs.Disk.{Files}
use Rattle.hay_volume.specs.Cells.{StandsCell}
use Rattle.hay_physical.specs.declared.fault.ReplicaFault.{ReplicaFault}
use Rattle.hay_physical.proofs.Looks.{one_fault, seen_head}
use Rattle.hay_physical.proofs.state.OpenFiles.cell.Goals as goal

pub returns-in-Ok-clause-known : goal.returns-in-Ok-clause-known
returns-in-Ok-clause-known g c = λ tells cell here.
    let old = g.D.Disk.files c.args.disk.now in
    let file = (old c.args.self.now.volume.file).now in
    let asked = c.in-Ok.ensures.asked in
    let is = seen_head c.args.at c.look.new.out.items file c.in-Ok.head cell c.in-Ok.ensures.cell (c.in-Ok.ensures.stands tells) here in
    let there = subst (λ k. StandsCell k file cell) (sym asked.0) here in
    c.place_of.ensures.place tells cell (subst (λ (f : Files). StandsCell c.in-Ok.head.at (f c.args.self.now.volume.file).now cell) (sym (c.look.ensures.same tells)) there) is

pub returns-in-Err-clause-damaged : goal.returns-in-Err-clause-damaged
returns-in-Err-clause-damaged g c = λ tells k is.
    c.in-Err.ensures.damaged tells k (ap (λ (f : ReplicaFault). Err f) (one_fault _ c.in-Err.fault (ReplicaFault.Damaged k) refl is))
