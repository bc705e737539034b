use Rattle.std.proofs.Common.{inl, inr, ◌∙◌, ◌<◌, ap, arith, length, subst, sym}
use Rattle.std.proofs.lemmas.Bool.{cases_Bool}
use Rattle.hay_volume.specs.declared.volume.VolumeFile.{VolumeFile}
use Rattle.hay_physical.specs.Replicas.{all_recorded}
use Rattle.hay_physical.proofs.RunLaws.{bounded_still, copier_ready_index, next_besides_index, run_kept, settled_still}
use Rattle.hay_physical.proofs.RunViews.{files_bounded, files_ready, files_settled, run_still}
use Rattle.hay_physical.proofs.Views.{files_flag, files_going, files_stand, if_err_so, if_ok_so, if_ok_unit, on_err_so, open_deletes, open_stands}
use Rattle.hay_physical.specs.Replicas.{Anywhere}
use Rattle.hay_physical.proofs.Seeing.{sight_same}
use Rattle.hay_physical.specs.OpenCopies.{copier_next, phase_bare, phase_next}
use Rattle.hay_physical.proofs.Views.{on_ok_one}
use Rattle.hay_physical.proofs.RunViews.{files_say, head_beside}
use Rattle.hay_physical.proofs.SwapLaws.{old_index_apart}
use Rattle.hay_physical.proofs.replica.Replica.flush.Goals as goal

pub returns-clause-flushed : goal.returns-clause-flushed
returns-clause-flushed g c = λ tells s stands.
    let files = g.D.Disk.files in
    let was = c.self.inside in
    let opened = c.in-Open.files in
    let stand = files_stand files c.args.self.now was.sup was.disk was.phase opened s c.self.view_is c.in-Open.is stands in
    let going = files_going files c.args.self.now was.sup was.disk was.phase opened s c.self.view_is c.in-Open.is stands in
    if_ok_so c.flush.result _ _ (λ n done. (done.0, open_stands files was.sup c.flush.new.disk c.flush.new.self _ (c.flush.ensures.open ∙ going) done.1))
    (c.flush.ensures.flushed tells was.sup s stand)

pub returns-clause-refused : goal.returns-clause-refused
returns-clause-refused g c = λ tells s stands.
    let files = g.D.Disk.files in
    let was = c.self.inside in
    let opened = c.in-Open.files in
    let stand = files_stand files c.args.self.now was.sup was.disk was.phase opened s c.self.view_is c.in-Open.is stands in
    let going = files_going files c.args.self.now was.sup was.disk was.phase opened s c.self.view_is c.in-Open.is stands in
    on_err_so c.flush.result _ _ (λ stays. open_stands files was.sup c.flush.new.disk c.flush.new.self _ (c.flush.ensures.open ∙ going) stays) (c.flush.ensures.refused tells was.sup s stand)

pub returns-clause-deletes : goal.returns-clause-deletes
returns-clause-deletes g c = λ tells place may.
    let files = g.D.Disk.files in
    let was = c.self.inside in
    open_deletes files was.sup c.flush.new.disk c.flush.new.self place (c.flush.ensures.flags tells place
    (files_flag files c.args.self.now was.sup was.disk was.phase c.in-Open.files place c.self.view_is c.in-Open.is may))

pub invariant_of-self : goal.invariant_of-self
invariant_of-self g c =
    let files = g.D.Disk.files in
    let was = c.self.inside in
    let opened = c.in-Open.files in
    let settled = files_settled was.phase opened c.in-Open.is c.self.invariant.1 in (
      λ tells thawed.
          let ready = files_ready (files was.disk) was.phase opened c.in-Open.is (c.self.invariant.0 tells) (sym c.flush.ensures.open ∙ thawed) in (
            c.flush.ensures.ready tells thawed,
            copier_ready_index (files was.disk) (files c.flush.new.disk) opened c.flush.new.self settled ready.0 ready.1 c.flush.ensures.copier.0
                (c.flush.ensures.others tells),
          ),
      settled_still opened c.flush.new.self settled c.flush.ensures.copier.1 c.flush.ensures.copier.0 c.flush.ensures.open,
      bounded_still was.sup.settings.capacity opened c.flush.new.self (files_bounded was.sup.settings.capacity was.phase opened c.in-Open.is c.self.invariant.2)
          c.flush.ensures.copier.1 (ap (λ (v : VolumeFile). v.file) c.flush.ensures.copier.2) (ap (λ (v : VolumeFile). v.capacity) c.flush.ensures.copier.2)
          (omega (arith, ap (λ (v : VolumeFile). v.end) c.flush.ensures.copier.2)) c.flush.ensures.copier.0,
    )

pub returns-clause-run : goal.returns-clause-run
returns-clause-run g c = λ tells s run stands has.
    let files = g.D.Disk.files in
    let was = c.self.inside in
    let opened = c.in-Open.files in
    let f = files_stand files c.args.self.now was.sup was.disk was.phase opened s c.self.view_is c.in-Open.is stands in
    if_ok_unit c.flush.result _ _
    (λ n done. run_still run files c.args.self.now was.sup was.disk c.flush.new.disk was.phase opened c.flush.new.self s (all_recorded s) c.self.view_is c.in-Open.is c.flush.ensures.copier.0
    (λ x r. run_kept was.sup (files was.disk) (files c.flush.new.disk) opened c.flush.new.self s (length s.cells) x r c.flush.ensures.copier.0 c.flush.ensures.copier.2 done.1
    (next_besides_index was.sup (files was.disk) (files was.disk) (files c.flush.new.disk) opened s f (c.flush.ensures.others tells))) has)
    (c.flush.ensures.flushed tells was.sup s f)

pub returns-clause-run_stays : goal.returns-clause-run_stays
returns-clause-run_stays g c = λ tells s run stands has.
    let files = g.D.Disk.files in
    let was = c.self.inside in
    let opened = c.in-Open.files in
    let f = files_stand files c.args.self.now was.sup was.disk was.phase opened s c.self.view_is c.in-Open.is stands in
    on_err_so c.flush.result _ _
    (λ stays. run_still run files c.args.self.now was.sup was.disk c.flush.new.disk was.phase opened c.flush.new.self s s c.self.view_is c.in-Open.is c.flush.ensures.copier.0
    (λ x r. run_kept was.sup (files was.disk) (files c.flush.new.disk) opened c.flush.new.self s s.records x r c.flush.ensures.copier.0 c.flush.ensures.copier.2 stays
    (next_besides_index was.sup (files was.disk) (files was.disk) (files c.flush.new.disk) opened s f (c.flush.ensures.others tells))) has)
    (c.flush.ensures.refused tells was.sup s f)

pub returns-clause-sees : goal.returns-clause-sees
returns-clause-sees g c = λ tells.
    let was = c.self.inside in
    sight_same g.D.Disk.files Anywhere c.args.self.now was.sup was.disk c.flush.new.disk was.phase c.in-Open.files c.flush.new.self c.self.view_is c.in-Open.is
    c.flush.ensures.copier.2 (c.flush.ensures.cells tells)

pub returns-clause-number : goal.returns-clause-number
returns-clause-number g c =
    let was = c.self.inside in
    if_ok_so c.flush.result _ _ (λ n is. is ∙ files_say phase_bare c.args.self.now was.sup was.disk was.phase c.in-Open.files c.self.view_is c.in-Open.is) c.flush.ensures.number

pub returns-clause-none_bare : goal.returns-clause-none_bare
returns-clause-none_bare g c = on_ok_one c.flush.result _ _ (λ none. ap length none) c.flush.ensures.none

pub returns-clause-still_bare : goal.returns-clause-still_bare
returns-clause-still_bare g c =
    let was = c.self.inside in
    on_err_so c.flush.result _ _ (λ same. ap length same ∙ files_say phase_bare c.args.self.now was.sup was.disk was.phase c.in-Open.files c.self.view_is c.in-Open.is) c.flush.ensures.still_noted

pub returns-clause-place : goal.returns-clause-place
returns-clause-place g c =
    let was = c.self.inside in
    ap copier_next c.flush.ensures.copier.0 ∙ files_say phase_next c.args.self.now was.sup was.disk was.phase c.in-Open.files c.self.view_is c.in-Open.is

pub returns-clause-tried : goal.returns-clause-tried
returns-clause-tried g c =
    let was = c.self.inside in
    if_err_so c.flush.result _ _ (λ fault tried faults is. subst (λ n. 0 < n) (files_say phase_bare c.args.self.now was.sup was.disk was.phase c.in-Open.files c.self.view_is
    c.in-Open.is) (tried faults is)) c.flush.ensures.tried

pub returns-clause-head_file : goal.returns-clause-head_file
returns-clause-head_file g c = λ tells.
    let files = g.D.Disk.files in
    let was = c.self.inside in
    let opened = c.in-Open.files in
    head_beside files c.args.self.now was.sup was.disk c.flush.new.disk was.phase c.self.view_is
    (elim (cases_Bool opened.frozen) [
      | inl frozen ↦ let same = c.flush.ensures.frozen frozen in ap (λ d. files d 0) same.2
      | inr going ↦ let ready =
          files_ready (files was.disk) was.phase opened c.in-Open.is (c.self.invariant.0 tells) going in c.flush.ensures.others tells 0 (old_index_apart (files was.disk) opened ready.0)
    ])
