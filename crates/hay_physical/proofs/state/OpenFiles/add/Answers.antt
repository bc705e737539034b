use Rattle.hay_physical.proofs.RunLaws.{freeze_keeps}
use Rattle.std.proofs.Common.{inr, ap, length}
use Rattle.hay_index.specs.declared.record.Record.{Record}
use Rattle.hay_physical.specs.declared.state.OpenFiles.{OpenFiles}
use Rattle.hay_physical.proofs.Standing.{stand_added, unless_err}
use Rattle.hay_physical.proofs.Holding.{finds_added}
use Rattle.hay_physical.proofs.state.OpenFiles.add.Goals as goal

pub returns-in-Ok-clause-added : goal.returns-in-Ok-clause-added
returns-in-Ok-clause-added g c = λ tells sup s stand.
    let done = c.in-Ok.ensures in
    let row : Record = record { pair = c.args.pair; at = c.end.result; size = length c.args.bytes.now } in
    stand_added sup (g.D.Disk.files c.args.disk.now) (g.D.Disk.files c.append.new.disk) c.args.self.now c.append.new.self c.note.new.self row s c.args.pair c.args.cookie c.args.bytes.now
    stand (ap (λ n. let r : Record = record { pair = c.args.pair; at = n; size = length c.args.bytes.now } in r) c.end.ensures) (unless_err _ _ c.if-is_err.ensures.value c.note.ensures.ok)
    (record { moved = done.moved; added = done.added tells; solid = done.solid tells; gate = done.next tells; changes = done.changes tells; others = done.others tells })

pub returns-in-Err-Failed-clause-refused : goal.returns-in-Err-Failed-clause-refused
returns-in-Err-Failed-clause-refused g c = λ tells sup s stand.
    let refused = c.in-Err-Failed.ensures in
    inr (
      ap (λ (x : OpenFiles). x.frozen) c.failed.ensures.froze,
      finds_added sup (g.D.Disk.files c.args.disk.now) (g.D.Disk.files c.append.new.disk) c.args.self.now s c.args.pair c.args.cookie c.args.bytes.now stand (refused.others tells)
          (refused.left tells),
    )

pub returns-in-Err-Failed-clause-copier : goal.returns-in-Err-Failed-clause-copier
returns-in-Err-Failed-clause-copier g c =
    λ going. freeze_keeps c.args.self.now c.failed.new.self _ going (ap (λ (o : OpenFiles). o.head) c.failed.ensures.froze)
    (ap (λ (o : OpenFiles). o.frozen) c.failed.ensures.froze) (ap (λ (o : OpenFiles). o.copier) c.failed.ensures.froze)
