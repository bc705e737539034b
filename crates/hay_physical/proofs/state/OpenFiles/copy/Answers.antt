use Rattle.hay_compact.specs.Copying.{HeadStands, IsHeadOf, IsNextWithin, IsPassedOrStands, Stage}
use Rattle.hay_volume.specs.Needles.{LacksNeedleWithin}
use Rattle.hay_physical.specs.declared.state.Copier.TheVariants.{Standing}
use Rattle.hay_physical.proofs.RunLaws.{bounded_next, examined_within, gone}
use Rattle.std.proofs.Common.{◌≡◌, ◌∙◌, arith, refl, ap, subst, sym, Err}
use Rattle.hay_physical.specs.OpenCopies.{copier_next}
use Rattle.hay_physical.specs.CompactionRuns.{CopierPeeked}
use Rattle.hay_physical.specs.declared.state.Copier.{Copier}
use Rattle.hay_physical.specs.declared.fault.ReplicaFault.{ReplicaFault}
use Rattle.hay_physical.specs.declared.state.OpenFiles.{OpenFiles}
use Rattle.hay_physical.proofs.RunLaws.{beside_volume, by_fault, copying_at, run_copied, run_stays, stage_at}
use Rattle.hay_physical.proofs.state.OpenFiles.copy.Goals as goal

pub returns-in-Ok-clause-run : goal.returns-in-Ok-clause-run
returns-in-Ok-clause-run g c = λ tells sup s run p last.
    run_copied sup (g.D.Disk.files c.args.disk.now) (g.D.Disk.files c.copy.new.disk) c.args.self.now _ s run c.in-Standing.compactor c.copy.new.self c.args.cell c.args.latest
    c.in-Ok.field-0 p c.in-Standing.is refl refl c.copy.ensures.names last
    (c.in-Ok.ensures.examined tells sup)

pub returns-in-Ok-clause-others : goal.returns-in-Ok-clause-others
returns-in-Ok-clause-others g c = λ tells.
    beside_volume (g.D.Disk.files c.args.disk.now) (g.D.Disk.files c.copy.new.disk) c.args.self.now c.in-Standing.compactor c.requires.settled c.in-Standing.is
    (c.requires.making tells c.if-self.false c.in-Standing.compactor c.in-Standing.is) (c.copy.ensures.others tells)

pub returns-in-Err-clause-others : goal.returns-in-Err-clause-others
returns-in-Err-clause-others g c = λ tells.
    beside_volume (g.D.Disk.files c.args.disk.now) (g.D.Disk.files c.copy.new.disk) c.args.self.now c.in-Standing.compactor c.requires.settled c.in-Standing.is
    (c.requires.making tells c.if-self.false c.in-Standing.compactor c.in-Standing.is) (c.copy.ensures.others tells)

pub returns-in-Err-clause-memory : goal.returns-in-Err-clause-memory
returns-in-Err-clause-memory g c = λ tells wants sup s run r.
    by_fault c.in-Err.fault _
    (λ memory. run_stays sup (g.D.Disk.files c.args.disk.now) (g.D.Disk.files c.copy.new.disk) c.args.self.now c.broken_off.new.self s run c.in-Standing.compactor c.copy.new.self r c.in-Standing.is
    (ap (λ (o : OpenFiles). o.copier) (c.broken_off.ensures.memory memory).1) (ap (λ (o : OpenFiles). o.volume) (c.broken_off.ensures.memory memory).1) c.copy.ensures.names
    (c.in-Err.ensures.stands tells (ap (λ x. Err x) memory) sup))
    (λ failed. absurd (let known = (c.broken_off.ensures.failed failed).0 in cc))
    (λ k damaged. absurd (let known = (c.broken_off.ensures.damaged k damaged).0 in cc))

pub returns-in-Ok-clause-bounded : goal.returns-in-Ok-clause-bounded
returns-in-Ok-clause-bounded g c = λ capacity bounded.
    let peeked = subst (λ (x : Copier). CopierPeeked c.args.self.now.volume.end x c.args.cell) c.in-Standing.is (c.requires.peeked c.if-self.false) in
    let within = peeked.within in
    bounded_next capacity c.args.self.now _ c.in-Standing.compactor c.copy.new.self bounded refl c.in-Standing.is refl c.copy.ensures.capacity (omega (arith, c.in-Ok.ensures.moved))

pub returns-in-Err-clause-bounded : goal.returns-in-Err-clause-bounded
returns-in-Err-clause-bounded g c = λ capacity bounded.
    c.broken_off.ensures.bounded capacity (bounded_next capacity c.args.self.now (record c.args.self.now { copier = Standing c.copy.new.self })
    c.in-Standing.compactor c.copy.new.self bounded refl c.in-Standing.is refl c.copy.ensures.capacity
    (let within = examined_within capacity c.args.self.now c.in-Standing.compactor bounded c.in-Standing.is in omega (arith, c.in-Err.ensures.stayed)))

pub returns-in-Err-clause-place : goal.returns-in-Err-clause-place
returns-in-Err-clause-place g c = λ same.
    by_fault c.in-Err.fault (copier_next c.broken_off.new.self.copier ≡ copier_next c.args.self.now.copier)
    (λ memory. ap (λ (o : OpenFiles). copier_next o.copier) (c.broken_off.ensures.memory memory).1 ∙ c.in-Err.ensures.stayed ∙ sym (ap copier_next c.in-Standing.is))
    (λ failed. absurd (gone c.args.self.now.copier c.broken_off.new.self.copier c.in-Standing.compactor _ c.in-Standing.is
    (ap (λ (o : OpenFiles). o.copier) (c.broken_off.ensures.failed failed).1) same))
    (λ k damaged. absurd (gone c.args.self.now.copier c.broken_off.new.self.copier c.in-Standing.compactor _ c.in-Standing.is
    (ap (λ (o : OpenFiles). o.copier) (c.broken_off.ensures.damaged k damaged).1) same))

pub returns-in-Err-clause-whole : goal.returns-in-Err-clause-whole
returns-in-Err-clause-whole g c = λ tells sup s run p at is.
    by_fault c.in-Err.fault _
    (λ memory. let e : ReplicaFault.NoMemory ≡ ReplicaFault.Damaged at = (let known = (c.broken_off.ensures.memory memory).0 in cc) in absurd cc)
    (λ failed. let e : ReplicaFault.Failed (g.D.Disk.fault_count c.copy.new.disk) ≡ ReplicaFault.Damaged at = (let known = (c.broken_off.ensures.failed failed).0 in cc) in absurd cc)
    (λ k damaged.
    let files = g.D.Disk.files c.args.disk.now in
    let stage = c.in-Standing.compactor in
    c.in-Err.ensures.whole tells sup s.cells p.has.fresh p.has.examined k p.cell (copying_at sup files c.args.self.now s run stage p.has c.in-Standing.is) p.is
    (subst (λ (x : Stage). IsHeadOf x.next c.args.cell p.cell) (stage_at sup files c.args.self.now s run stage p.has c.in-Standing.is) p.copy) (ap (λ x. Err x) damaged))

pub returns-in-Err-clause-damaged : goal.returns-in-Err-clause-damaged
returns-in-Err-clause-damaged g c = λ at is.
    let end = c.args.self.now.volume.end in
    by_fault c.in-Err.fault (IsNextWithin end (copier_next c.args.self.now.copier) at)
    (λ memory. let e : ReplicaFault.NoMemory ≡ ReplicaFault.Damaged at = (let known = (c.broken_off.ensures.memory memory).0 in cc) in absurd cc)
    (λ failed. let e : ReplicaFault.Failed (g.D.Disk.fault_count c.copy.new.disk) ≡ ReplicaFault.Damaged at = (let known = (c.broken_off.ensures.failed failed).0 in cc) in absurd cc)
    (λ k damaged.
    let same : k ≡ at = (let known = (c.broken_off.ensures.damaged k damaged).0 in cc) in
    subst (λ n. IsNextWithin end n at) (sym (ap copier_next c.in-Standing.is))
    (subst (λ n. IsNextWithin end c.in-Standing.compactor.next n) same (c.in-Err.ensures.place k (ap (λ x. Err x) damaged))))

pub returns-in-Err-clause-lacks : goal.returns-in-Err-clause-lacks
returns-in-Err-clause-lacks g c = λ tells head at is.
    let end = c.args.self.now.volume.end in
    let file = (g.D.Disk.files c.args.disk.now c.args.self.now.volume.file).now in
    by_fault c.in-Err.fault (LacksNeedleWithin end at file)
    (λ memory. let e : ReplicaFault.NoMemory ≡ ReplicaFault.Damaged at = (let known = (c.broken_off.ensures.memory memory).0 in cc) in absurd cc)
    (λ failed. let e : ReplicaFault.Failed (g.D.Disk.fault_count c.copy.new.disk) ≡ ReplicaFault.Damaged at = (let known = (c.broken_off.ensures.failed failed).0 in cc) in absurd cc)
    (λ k damaged.
    let same : k ≡ at = (let known = (c.broken_off.ensures.damaged k damaged).0 in cc) in
    let stands = subst (λ n. HeadStands n c.args.cell file) (ap copier_next c.in-Standing.is) head in
    subst (λ n. LacksNeedleWithin end n file) same (c.in-Err.ensures.lacks tells stands k (ap (λ x. Err x) damaged)))

pub returns-in-Ok-clause-met : goal.returns-in-Ok-clause-met
returns-in-Ok-clause-met g c = λ tells.
    let file = (g.D.Disk.files c.args.disk.now c.args.self.now.volume.file).now in
    subst (λ n. IsPassedOrStands n c.args.cell c.args.latest file) (sym (ap copier_next c.in-Standing.is)) (c.in-Ok.ensures.met tells)
