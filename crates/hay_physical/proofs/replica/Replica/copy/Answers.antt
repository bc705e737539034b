use Rattle.hay_physical.proofs.Views.{if_err_so, on_ok_one}
use Rattle.hay_physical.proofs.RunViews.{beside_deletes, beside_stands, ends_run, files_run, files_peek, open_run}
use Rattle.hay_physical.specs.CompactionRuns.{stepped}
use Rattle.hay_physical.specs.Replicas.{Anywhere}
use Rattle.hay_physical.proofs.Seeing.{beside_sight}
use Rattle.hay_open.specs.Stored.{volume_file}
use Rattle.std.proofs.Common.{ℕ, ◌∙◌, ◌+◌, arith, List, ap, subst, sym}
use Rattle.hay_volume.specs.Needles.{LacksNeedleWithin}
use Rattle.hay_needle.specs.Sizes.{needle_total}
use Rattle.hay_physical.specs.OpenCopies.{copier_next, next_of, phase_end, phase_next, volume_bytes}
use Rattle.hay_physical.proofs.Views.{on_err_so}
use Rattle.hay_physical.proofs.RunViews.{bytes_beside, files_bounded, files_bytes, files_goal, files_say, head_beside}
use Rattle.hay_compact.specs.Copying.{HeadStands, IsNextWithin, IsPassedOrStands}
use Rattle.hay_physical.proofs.replica.Replica.copy.Goals as goal

pub returns-clause-run : goal.returns-clause-run
returns-clause-run g c = λ tells s run has last.
    let files = g.D.Disk.files in
    let was = c.self.inside in
    on_ok_one c.copy.result _ _ (λ r. open_run files was.sup c.copy.new.disk c.copy.new.self s (stepped run) r)
    (c.copy.ensures.run tells was.sup s run (files_peek files c.args.self.now was.sup was.disk was.phase c.in-Open.files s run c.args.cell c.self.view_is c.in-Open.is has) last)

pub returns-clause-memory : goal.returns-clause-memory
returns-clause-memory g c = λ tells wants s run has.
    let files = g.D.Disk.files in
    let was = c.self.inside in
    open_run files was.sup c.copy.new.disk c.copy.new.self s run
    (c.copy.ensures.memory tells wants was.sup s run (files_run files c.args.self.now was.sup was.disk was.phase c.in-Open.files s run c.self.view_is c.in-Open.is has))

pub returns-clause-stands : goal.returns-clause-stands
returns-clause-stands g c = λ tells s stands.
    let was = c.self.inside in
    beside_stands g.D.Disk.files c.args.self.now was.sup was.disk c.copy.new.disk was.phase c.in-Open.files c.copy.new.self s c.self.view_is c.in-Open.is c.copy.ensures.keeps
    (c.copy.ensures.others tells) stands

pub returns-clause-deletes : goal.returns-clause-deletes
returns-clause-deletes g c = λ tells at may.
    let was = c.self.inside in
    beside_deletes g.D.Disk.files c.args.self.now was.sup was.disk c.copy.new.disk was.phase c.in-Open.files c.copy.new.self at c.self.view_is c.in-Open.is
    (λ stuck. let same = c.copy.ensures.frozen stuck in (same.1, same.2)) (c.self.invariant.0 tells) c.copy.ensures.keeps
    (c.copy.ensures.others tells) may

pub returns-clause-ends : goal.returns-clause-ends
returns-clause-ends g c =
    let was = c.self.inside in
    if_err_so c.copy.result _ _ (λ why ends. ends_run why (g.D.Disk.fault_count c.copy.new.disk) c.args.self.now was.sup was.disk c.copy.new.disk was.phase c.in-Open.files
    c.copy.new.self c.self.view_is c.in-Open.is ends) c.copy.ensures.err

pub returns-clause-sees : goal.returns-clause-sees
returns-clause-sees g c = λ tells.
    let was = c.self.inside in
    beside_sight g.D.Disk.files Anywhere c.args.self.now was.sup was.disk c.copy.new.disk was.phase c.in-Open.files c.copy.new.self c.self.view_is c.in-Open.is
    (λ stuck. let same = c.copy.ensures.frozen stuck in (same.1, same.2)) (c.self.invariant.0 tells) c.copy.ensures.keeps (c.copy.ensures.others tells)

pub returns-clause-whole : goal.returns-clause-whole
returns-clause-whole g c = λ tells s run has.
    let was = c.self.inside in
    c.copy.ensures.whole tells was.sup s run (files_peek g.D.Disk.files c.args.self.now was.sup was.disk was.phase c.in-Open.files s run c.args.cell c.self.view_is c.in-Open.is has)

pub returns-clause-moved : goal.returns-clause-moved
returns-clause-moved g c =
    let was = c.self.inside in
    let next = files_say phase_next c.args.self.now was.sup was.disk was.phase c.in-Open.files c.self.view_is c.in-Open.is in
    on_ok_one c.copy.result _ _ (λ moved. moved ∙ ap (λ k. k + needle_total c.args.cell.size) next) c.copy.ensures.moved

pub returns-clause-place : goal.returns-clause-place
returns-clause-place g c =
    let was = c.self.inside in
    let goal = files_goal c.args.self.now was.sup was.disk was.phase c.in-Open.files c.self.view_is c.in-Open.is in
    let next = files_say phase_next c.args.self.now was.sup was.disk was.phase c.in-Open.files c.self.view_is c.in-Open.is in
    on_err_so c.copy.result _ _ (λ place same. place (same ∙ sym goal) ∙ next) c.copy.ensures.place

pub returns-clause-damaged : goal.returns-clause-damaged
returns-clause-damaged g c = λ at is.
    let was = c.self.inside in
    let next = files_say phase_next c.args.self.now was.sup was.disk was.phase c.in-Open.files c.self.view_is c.in-Open.is in
    let end = files_say phase_end c.args.self.now was.sup was.disk was.phase c.in-Open.files c.self.view_is c.in-Open.is in
    subst (λ n. IsNextWithin (phase_end c.args.self.now.phase) n at) next (subst (λ n. IsNextWithin n (copier_next c.in-Open.files.copier) at) end (c.copy.ensures.damaged at is))

pub returns-clause-lacks : goal.returns-clause-lacks
returns-clause-lacks g c = λ tells head at is.
    let was = c.self.inside in
    let opened = c.in-Open.files in
    let capacity = was.sup.settings.capacity in
    let files = g.D.Disk.files in
    let bytes = files_bytes files c.args.self.now was.sup was.disk was.phase opened capacity c.self.view_is c.in-Open.is (files_bounded capacity was.phase opened c.in-Open.is c.self.invariant.2) in
    let next = files_say phase_next c.args.self.now was.sup was.disk was.phase opened c.self.view_is c.in-Open.is in
    let end = files_say phase_end c.args.self.now was.sup was.disk was.phase opened c.self.view_is c.in-Open.is in
    let stands =
    subst (λ n. HeadStands n c.args.cell (files was.disk opened.volume.file).now) (sym next) (subst (λ (l : List ℕ). HeadStands (next_of c.args.self.now) c.args.cell l) (sym bytes) head) in
    subst (λ n. LacksNeedleWithin n at (volume_bytes files c.args.self.now)) end
    (subst (λ (l : List ℕ). LacksNeedleWithin opened.volume.end at l) bytes (c.copy.ensures.lacks tells stands at is))

pub returns-clause-bytes : goal.returns-clause-bytes
returns-clause-bytes g c = λ tells.
    let was = c.self.inside in
    bytes_beside g.D.Disk.files c.args.self.now was.sup was.disk c.copy.new.disk was.phase c.in-Open.files c.copy.new.self c.self.view_is c.in-Open.is c.copy.ensures.keeps
    (c.copy.ensures.others tells (volume_file c.in-Open.files.head.generation) (λ e. omega arith) (λ e. omega arith))

pub returns-clause-met : goal.returns-clause-met
returns-clause-met g c = λ tells.
    let was = c.self.inside in
    let opened = c.in-Open.files in
    let capacity = was.sup.settings.capacity in
    let files = g.D.Disk.files in
    let bytes = files_bytes files c.args.self.now was.sup was.disk was.phase opened capacity c.self.view_is c.in-Open.is (files_bounded capacity was.phase opened c.in-Open.is c.self.invariant.2) in
    let next = files_say phase_next c.args.self.now was.sup was.disk was.phase opened c.self.view_is c.in-Open.is in
    let there = (files was.disk opened.volume.file).now in
    on_ok_one c.copy.result (IsPassedOrStands (copier_next opened.copier) c.args.cell c.args.latest there)
    (IsPassedOrStands (next_of c.args.self.now) c.args.cell c.args.latest (volume_bytes files c.args.self.now))
    (λ met. subst (λ n. IsPassedOrStands n c.args.cell c.args.latest (volume_bytes files c.args.self.now)) next
    (subst (λ (l : List ℕ). IsPassedOrStands (copier_next opened.copier) c.args.cell c.args.latest l) bytes met))
    (c.copy.ensures.met tells)

pub returns-clause-head_file : goal.returns-clause-head_file
returns-clause-head_file g c = λ tells.
    let was = c.self.inside in
    head_beside g.D.Disk.files c.args.self.now was.sup was.disk c.copy.new.disk was.phase c.self.view_is (c.copy.ensures.others tells 0 (λ e. omega arith) (λ e. omega arith))
