use Rattle.hay_physical.proofs.RunLaws.{freeze_keeps}
use Rattle.std.proofs.Common.{ap}
use Rattle.hay_physical.specs.declared.state.OpenFiles.{OpenFiles}
use Rattle.hay_physical.proofs.Standing.{stand_flagged}
use Rattle.hay_physical.proofs.Holding.{finds_flagged}
use Rattle.hay_physical.proofs.state.OpenFiles.delete.Goals as goal

pub returns-in-Ok-clause-deleted : goal.returns-in-Ok-clause-deleted
returns-in-Ok-clause-deleted g c = λ tells sup s stand live.
    let done = c.in-Ok.ensures in
    stand_flagged sup (g.D.Disk.files c.args.disk.now) (g.D.Disk.files c.flag.new.disk) c.args.self.now c.flag.new.self s c.args.at stand live
    (c.requires.flag tells c.if-self.false).within done.stayed
    (record { flagged = done.flagged tells; solid = done.solid tells; gate = done.gate tells; changes = done.changes tells; others = done.others tells })

pub returns-in-Err-clause-refused : goal.returns-in-Err-clause-refused
returns-in-Err-clause-refused g c = λ tells sup s going stand live.
    let refused = c.in-Err.ensures in (
      ap (λ (x : OpenFiles). x.frozen) c.failed.ensures.froze,
      finds_flagged sup (g.D.Disk.files c.args.disk.now) (g.D.Disk.files c.flag.new.disk) c.args.self.now s c.args.at stand
          live (refused.others tells) (refused.left tells),
    )

pub returns-in-Err-clause-copier : goal.returns-in-Err-clause-copier
returns-in-Err-clause-copier g c =
    freeze_keeps c.args.self.now c.failed.new.self _ c.if-self.false (ap (λ (o : OpenFiles). o.head) c.failed.ensures.froze)
    (ap (λ (o : OpenFiles). o.frozen) c.failed.ensures.froze) (ap (λ (o : OpenFiles). o.copier) c.failed.ensures.froze)
