use Rattle.std.specs.Prelude.{IfNone, IfSome}
use Rattle.hay_physical.specs.OpenCopies.{copier_next}
use Rattle.std.proofs.Common.{◌≡◌, ◌≤◌, ◌<◌, ap, subst, sym, Err}
use Rattle.hay_disk.specs.Disk.{Files}
use Rattle.hay_volume.specs.Needles.{LacksNeedleWithin}
use Rattle.hay_compact.specs.Copying.{HeadStands, IsMaking, IsNextWithin}
use Rattle.hay_physical.specs.Replicas.{IsCopierReady}
use Rattle.hay_physical.specs.CompactionRuns.{FilesRun}
use Rattle.hay_physical.specs.declared.fault.ReplicaFault.{ReplicaFault}
use Rattle.hay_physical.specs.declared.state.OpenFiles.{OpenFiles}
use Rattle.hay_physical.proofs.RunLaws.{by_fault, copying_at, gone, none_left, not_ended, peek_next}
use Rattle.hay_physical.proofs.state.OpenFiles.peek.Goals as goal

pub returns-in-Ok-clause-next : goal.returns-in-Ok-clause-next
returns-in-Ok-clause-next g c = λ tells sup s run r.
    peek_next c.in-Ok.next sup (g.D.Disk.files c.args.disk.now) _ c.args.self.now s run c.in-Standing.compactor r c.in-Standing.is (c.peek.ensures.same tells)
    (c.in-Ok.ensures.cell tells sup s.cells r.fresh r.examined (copying_at sup (g.D.Disk.files c.args.disk.now) c.args.self.now s run c.in-Standing.compactor r c.in-Standing.is))

pub returns-in-Ok-clause-all : goal.returns-in-Ok-clause-all
returns-in-Ok-clause-all g c = λ tells sup s run r.
    none_left c.in-Ok.next r.examined run.left _ r.left
    (c.in-Ok.ensures.all tells sup s.cells r.fresh r.examined (copying_at sup (g.D.Disk.files c.args.disk.now) c.args.self.now s run c.in-Standing.compactor r c.in-Standing.is))

pub returns-in-Ok-clause-run : goal.returns-in-Ok-clause-run
returns-in-Ok-clause-run g c = λ tells sup s run r. subst (λ (f : Files). FilesRun sup f c.args.self.now s run) (sym (c.peek.ensures.same tells)) r

pub returns-in-Ok-clause-making : goal.returns-in-Ok-clause-making
returns-in-Ok-clause-making g c = λ tells ready. subst (λ (f : Files). IsCopierReady f c.args.self.now) (sym (c.peek.ensures.same tells)) ready

pub returns-in-Err-clause-whole : goal.returns-in-Err-clause-whole
returns-in-Err-clause-whole g c = λ tells sup s run r at is.
    by_fault c.in-Err.fault _
    (λ memory. let e : ReplicaFault.NoMemory ≡ ReplicaFault.Damaged at = (let known = (c.broken_off.ensures.memory memory).0 in cc) in absurd cc)
    (λ failed. let e : ReplicaFault.Failed (g.D.Disk.fault_count c.peek.new.disk) ≡ ReplicaFault.Damaged at = (let known = (c.broken_off.ensures.failed failed).0 in cc) in absurd cc)
    (λ k damaged. c.in-Err.ensures.whole tells sup s.cells r.fresh r.examined k (copying_at sup (g.D.Disk.files c.args.disk.now) c.args.self.now s run c.in-Standing.compactor r
    c.in-Standing.is) (ap (λ x. Err x) damaged))

pub returns-in-Err-clause-memory : goal.returns-in-Err-clause-memory
returns-in-Err-clause-memory g c = λ wants.
    by_fault c.in-Err.fault _
    (λ memory. c.in-Err.ensures.memory (ap (λ x. Err x) memory))
    (λ failed. absurd (let known = (c.broken_off.ensures.failed failed).0 in cc))
    (λ k damaged. absurd (let known = (c.broken_off.ensures.damaged k damaged).0 in cc))

pub returns-in-Err-clause-making : goal.returns-in-Err-clause-making
returns-in-Err-clause-making g c = λ tells ready stage is.
    by_fault c.in-Err.fault (IsMaking (g.D.Disk.files c.peek.new.disk) stage)
    (λ memory. absurd (c.in-Err.ensures.memory (ap (λ x. Err x) memory)))
    (λ failed. not_ended c.broken_off.new.self.copier _ stage (ap (λ (o : OpenFiles). o.copier) (c.broken_off.ensures.failed failed).1) is)
    (λ k damaged. not_ended c.broken_off.new.self.copier _ stage (ap (λ (o : OpenFiles). o.copier) (c.broken_off.ensures.damaged k damaged).1) is)

pub returns-in-Err-clause-bounded : goal.returns-in-Err-clause-bounded
returns-in-Err-clause-bounded g c = c.broken_off.ensures.bounded

pub returns-in-Err-clause-place : goal.returns-in-Err-clause-place
returns-in-Err-clause-place g c = λ same.
    by_fault c.in-Err.fault (copier_next c.broken_off.new.self.copier ≡ copier_next c.args.self.now.copier)
    (λ memory. absurd (c.in-Err.ensures.memory (ap (λ x. Err x) memory)))
    (λ failed. absurd (gone c.args.self.now.copier c.broken_off.new.self.copier c.in-Standing.compactor _ c.in-Standing.is
    (ap (λ (o : OpenFiles). o.copier) (c.broken_off.ensures.failed failed).1) same))
    (λ k damaged. absurd (gone c.args.self.now.copier c.broken_off.new.self.copier c.in-Standing.compactor _ c.in-Standing.is
    (ap (λ (o : OpenFiles). o.copier) (c.broken_off.ensures.damaged k damaged).1) same))

pub returns-in-Ok-clause-end : goal.returns-in-Ok-clause-end
returns-in-Ok-clause-end g c = subst (λ k. IfNone c.in-Ok.next (c.args.self.now.volume.end ≤ k)) (sym (ap copier_next c.in-Standing.is)) c.in-Ok.ensures.end

pub returns-in-Ok-clause-more : goal.returns-in-Ok-clause-more
returns-in-Ok-clause-more g c = subst (λ k. IfSome c.in-Ok.next (λ head. k < c.args.self.now.volume.end)) (sym (ap copier_next c.in-Standing.is)) c.in-Ok.ensures.more

pub returns-in-Err-clause-damaged : goal.returns-in-Err-clause-damaged
returns-in-Err-clause-damaged g c = λ at is.
    let end = c.args.self.now.volume.end in
    by_fault c.in-Err.fault (IsNextWithin end (copier_next c.args.self.now.copier) at)
    (λ memory. absurd (c.in-Err.ensures.memory (ap (λ x. Err x) memory)))
    (λ failed. let e : ReplicaFault.Failed (g.D.Disk.fault_count c.peek.new.disk) ≡ ReplicaFault.Damaged at = (let known = (c.broken_off.ensures.failed failed).0 in cc) in absurd cc)
    (λ k damaged.
    let same : k ≡ at = (let known = (c.broken_off.ensures.damaged k damaged).0 in cc) in
    subst (λ n. IsNextWithin end n at) (sym (ap copier_next c.in-Standing.is))
    (subst (λ n. IsNextWithin end c.in-Standing.compactor.next n) same (c.in-Err.ensures.place k (ap (λ x. Err x) damaged))))

pub returns-in-Ok-clause-head : goal.returns-in-Ok-clause-head
returns-in-Ok-clause-head g c = λ tells.
    let file = c.args.self.now.volume.file in
    subst (λ (f : Files). IfSome c.in-Ok.next (λ head. HeadStands (copier_next c.args.self.now.copier) head (f file).now)) (sym (c.peek.ensures.same tells))
    (subst (λ n. IfSome c.in-Ok.next (λ head. HeadStands n head (g.D.Disk.files c.args.disk.now file).now)) (sym (ap copier_next c.in-Standing.is)) (c.in-Ok.ensures.head tells))

pub returns-in-Err-clause-lacks : goal.returns-in-Err-clause-lacks
returns-in-Err-clause-lacks g c = λ tells room at is.
    let end = c.args.self.now.volume.end in
    let file = (g.D.Disk.files c.args.disk.now c.args.self.now.volume.file).now in
    by_fault c.in-Err.fault (LacksNeedleWithin end at file)
    (λ memory. absurd (c.in-Err.ensures.memory (ap (λ x. Err x) memory)))
    (λ failed. let e : ReplicaFault.Failed (g.D.Disk.fault_count c.peek.new.disk) ≡ ReplicaFault.Damaged at = (let known = (c.broken_off.ensures.failed failed).0 in cc) in absurd cc)
    (λ k damaged.
    let same : k ≡ at = (let known = (c.broken_off.ensures.damaged k damaged).0 in cc) in
    subst (λ n. LacksNeedleWithin end n file) same (c.in-Err.ensures.lacks tells room k (ap (λ x. Err x) damaged)))
