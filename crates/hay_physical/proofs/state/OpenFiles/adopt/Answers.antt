use Rattle.std.proofs.Common.{subst}
use Rattle.hay_physical.specs.CompactionRuns.{RemovedBoth}
use Rattle.hay_physical.proofs.Removing.{both_removed, gone_or_same, is_removed}
use Rattle.hay_physical.proofs.state.OpenFiles.adopt.Goals as goal

pub returns-clause-removed : goal.returns-clause-removed
returns-clause-removed g c = λ tells.
    let old = g.D.Disk.files c.args.disk.now in
    let mid = g.D.Disk.files c.remove.new.self in
    let new = g.D.Disk.files c.remove-2.new.self in
    let before = g.D.Disk.fault_count c.args.disk.now in
    let between = g.D.Disk.fault_count c.remove.new.self in
    let after = g.D.Disk.fault_count c.remove-2.new.self in
    let first = c.file-old_volume.result in
    let second = c.args.self.now.index.file in
    subst (λ k. RemovedBoth new k second before after) c.file-old_volume.ensures
    (both_removed first second mid new before between after
    (is_removed c.remove.result (old first) (mid first) before between (c.remove.ensures.removed tells) c.remove.ensures.counted)
    (is_removed c.remove-2.result (mid second) (new second) between after (c.remove-2.ensures.removed tells) c.remove-2.ensures.counted)
    (gone_or_same c.remove-2.result (mid second) (new second) (c.remove-2.ensures.removed tells) (c.remove-2.ensures.failed tells)) (c.remove-2.ensures.others tells))
