use Rattle.std.proofs.Common.{◌≤◌, inl, inr, subst, Bool, ⊎_elim}
use Rattle.hay_physical.specs.OpenCopies.{Copy}
use Rattle.hay_physical.specs.Replicas.{MayFind, with_cell}
use Rattle.hay_physical.proofs.Views.{files_flag, files_going, files_stand, files_stuck, if_ok, if_ok_on, if_ok_so, on_err_so, open_deletes, open_stands}
use Rattle.std.proofs.Common.{◌≡◌, ◌∙◌, true≢false, inl, inr, sym, ap}
use Rattle.hay_volume.specs.declared.volume.VolumeFile.{VolumeFile}
use Rattle.hay_physical.specs.declared.state.OpenFiles.{OpenFiles}
use Rattle.hay_physical.specs.Replicas.{FilesStand}
use Rattle.hay_physical.specs.CompactionRuns.{longer}
use Rattle.hay_physical.proofs.Standing.{on_err}
use Rattle.hay_physical.proofs.RunLaws.{bounded_kept, copier_ready_volume, next_besides_volume, run_kept, run_put, settled_kept}
use Rattle.hay_physical.proofs.RunViews.{files_bounded, files_ready, files_settled, run_still, run_through}
use Rattle.std.proofs.Common.{arith}
use Rattle.hay_needle.specs.Sizes.{needle_total}
use Rattle.hay_physical.specs.Replicas.{Anywhere}
use Rattle.hay_physical.proofs.Apartness.{put_apart}
use Rattle.hay_physical.proofs.Seeing.{sight_kept}
use Rattle.hay_physical.proofs.Sights.{range_before}
use Rattle.std.proofs.Common.{◌+◌}
use Rattle.hay_physical.specs.OpenCopies.{copier_next, phase_bare, phase_end, phase_next}
use Rattle.hay_physical.proofs.Views.{on_ok_one}
use Rattle.hay_physical.proofs.RunViews.{files_say}
use Rattle.hay_physical.proofs.replica.Replica.put.Goals as goal

pub returns-clause-stored : goal.returns-clause-stored
returns-clause-stored g c = λ tells s stands.
    let files = g.D.Disk.files in
    let was = c.self.inside in
    let opened = c.in-Open.files in
    let stand = files_stand files c.args.self.now was.sup was.disk was.phase opened s c.self.view_is c.in-Open.is stands in
    if_ok c.put.result _ _ _ (λ needle done going. (open_stands files was.sup c.put.new.disk c.put.new.self _ going done.0, done.1)) (c.put.ensures.stored tells was.sup s stand) c.put.ensures.open

pub returns-clause-can_delete : goal.returns-clause-can_delete
returns-clause-can_delete g c = λ tells.
    let files = g.D.Disk.files in
    let was = c.self.inside in
    if_ok_so c.put.result _ _ (λ needle flag. open_deletes files was.sup c.put.new.disk c.put.new.self needle.at flag) (c.put.ensures.flag tells)

pub returns-clause-deletes : goal.returns-clause-deletes
returns-clause-deletes g c = λ tells place may.
    let files = g.D.Disk.files in
    let was = c.self.inside in
    open_deletes files was.sup c.put.new.disk c.put.new.self place (c.put.ensures.flags tells place
    (files_flag files c.args.self.now was.sup was.disk was.phase c.in-Open.files place c.self.view_is c.in-Open.is may))

pub returns-clause-refused : goal.returns-clause-refused
returns-clause-refused g c = λ tells s stands.
    let files = g.D.Disk.files in
    let was = c.self.inside in
    let opened = c.in-Open.files in
    let stand = files_stand files c.args.self.now was.sup was.disk was.phase opened s c.self.view_is c.in-Open.is stands in
    let going = files_going files c.args.self.now was.sup was.disk was.phase opened s c.self.view_is c.in-Open.is stands in
    let stuck = files_stuck c.args.self.now was.sup was.disk was.phase opened c.self.view_is c.in-Open.is in
    on_err_so c.put.result _ _
    (λ left. ⊎_elim
    (λ stays. inl (open_stands files was.sup c.put.new.disk c.put.new.self _ stays.0 stays.1))
    (λ unsure. inr (unsure.0, subst (λ (b : Bool). MayFind was.sup (files c.put.new.disk) b s (with_cell s c.args.pair c.args.cookie c.args.bytes.now)) stuck unsure.1)) left)
    (c.put.ensures.refused tells was.sup s going stand)

pub invariant_of-self : goal.invariant_of-self
invariant_of-self g c =
    let files = g.D.Disk.files in
    let was = c.self.inside in
    let opened = c.in-Open.files in
    let settled = files_settled was.phase opened c.in-Open.is c.self.invariant.1 in (
      λ tells thawed.
          let ready = files_ready (files was.disk) was.phase opened c.in-Open.is (c.self.invariant.0 tells) (c.put.ensures.copier.thawed thawed) in (
            c.put.ensures.ready tells thawed,
            copier_ready_volume (files was.disk) (files c.put.new.disk) opened c.put.new.self settled ready.0 ready.1
                (c.put.ensures.copier.same thawed) (c.put.ensures.others tells),
          ),
      settled_kept opened c.put.new.self settled c.put.ensures.copier,
      bounded_kept was.sup.settings.capacity opened c.put.new.self (files_bounded was.sup.settings.capacity was.phase opened c.in-Open.is c.self.invariant.2) c.put.ensures.volume.0
          c.put.ensures.limit c.put.ensures.volume.1 c.put.ensures.copier,
    )

pub returns-clause-run : goal.returns-clause-run
returns-clause-run g c = λ tells s run stands has.
    let files = g.D.Disk.files in
    let was = c.self.inside in
    let opened = c.in-Open.files in
    let f = files_stand files c.args.self.now was.sup was.disk was.phase opened s c.self.view_is c.in-Open.is stands in
    let t = with_cell s c.args.pair c.args.cookie c.args.bytes.now in
    if_ok_on c.put.result _ _ _
    (λ needle stored going.
    let same = c.put.ensures.copier.same going in
    let file : c.put.new.self.volume.file ≡ opened.volume.file = ap (λ (v : VolumeFile). v.file) (stored.0.volume) ∙ sym (ap (λ (v : VolumeFile). v.file) f.volume) in
    run_through run longer files c.args.self.now was.sup was.disk c.put.new.disk was.phase opened c.put.new.self s t c.self.view_is c.in-Open.is same
    (λ x r. run_put was.sup (files was.disk) (files c.put.new.disk) opened c.put.new.self s c.args.pair c.args.cookie c.args.bytes.now x r same file stored.0
    (next_besides_volume was.sup (files was.disk) (files was.disk) (files c.put.new.disk) opened s f (c.put.ensures.others tells))) has)
    (c.put.ensures.stored tells was.sup s f) c.put.ensures.open

pub returns-clause-run_stays : goal.returns-clause-run_stays
returns-clause-run_stays g c = λ tells s run stands has.
    let files = g.D.Disk.files in
    let was = c.self.inside in
    let opened = c.in-Open.files in
    let f = files_stand files c.args.self.now was.sup was.disk was.phase opened s c.self.view_is c.in-Open.is stands in
    let going = files_going files c.args.self.now was.sup was.disk was.phase opened s c.self.view_is c.in-Open.is stands in
    on_err c.put.result _ _ _
    (λ left kept thawed.
    let same = c.put.ensures.copier.same thawed in
    let stand : FilesStand was.sup (files c.put.new.disk) c.put.new.self s = elim left [ inl stays ↦ stays.1 | inr frozen ↦ absurd (true≢false (sym frozen.0 ∙ thawed)) ] in
    run_still run files c.args.self.now was.sup was.disk c.put.new.disk was.phase opened c.put.new.self s s c.self.view_is c.in-Open.is same
    (λ x r. run_kept was.sup (files was.disk) (files c.put.new.disk) opened c.put.new.self s s.records x r same (ap (λ (o : OpenFiles). o.volume) (kept thawed)) stand
    (next_besides_volume was.sup (files was.disk) (files was.disk) (files c.put.new.disk) opened s f (c.put.ensures.others tells))) has)
    (c.put.ensures.refused tells was.sup s going f) c.put.ensures.kept

pub returns-clause-unchanged : goal.returns-clause-unchanged
returns-clause-unchanged g c = λ tells none up.
    let files = g.D.Disk.files in
    subst (λ (x : Copy _). files c.put.new.disk ≡ files x.disk) c.self.view_is (c.put.ensures.unchanged tells none up)

pub returns-clause-added : goal.returns-clause-added
returns-clause-added g c = λ tells s stands none froze.
    let files = g.D.Disk.files in
    let was = c.self.inside in
    let opened = c.in-Open.files in
    let t = with_cell s c.args.pair c.args.cookie c.args.bytes.now in
    let stand = files_stand files c.args.self.now was.sup was.disk was.phase opened s c.self.view_is c.in-Open.is stands in
    let going = files_going files c.args.self.now was.sup was.disk was.phase opened s c.self.view_is c.in-Open.is stands in
    let stuck = files_stuck c.args.self.now was.sup was.disk was.phase opened c.self.view_is c.in-Open.is in
    subst (λ (b : Bool). MayFind was.sup (files c.put.new.disk) b t t) stuck (c.put.ensures.added tells was.sup s going stand none froze)

pub returns-clause-sees : goal.returns-clause-sees
returns-clause-sees g c = λ tells.
    let files = g.D.Disk.files in
    let was = c.self.inside in
    let opened = c.in-Open.files in
    sight_kept files Anywhere c.args.self.now was.sup was.disk c.put.new.disk was.phase opened c.put.new.self c.self.view_is c.in-Open.is c.put.ensures.volume.0 c.put.ensures.volume.1
    (λ at size kept within. range_before at (needle_total size) opened.volume.end (files was.disk opened.volume.file) (files c.put.new.disk opened.volume.file) within (omega arith)
    (c.put.ensures.before tells))

pub returns-clause-apart : goal.returns-clause-apart
returns-clause-apart g c = λ tells.
    let was = c.self.inside in
    if_ok_so c.put.result _ _ (λ needle last at size may. put_apart g.D.Disk.files c.args.self.now was.sup was.disk was.phase c.in-Open.files needle.at at size c.self.view_is
    c.in-Open.is last may) c.put.ensures.place

pub returns-clause-bare : goal.returns-clause-bare
returns-clause-bare g c =
    let was = c.self.inside in
    on_ok_one c.put.result _ _ (λ noted. noted ∙ ap (λ k. k + 1) (files_say phase_bare c.args.self.now was.sup was.disk was.phase c.in-Open.files c.self.view_is c.in-Open.is)) c.put.ensures.noted

pub returns-clause-place : goal.returns-clause-place
returns-clause-place g c = λ up.
    let was = c.self.inside in
    ap copier_next (c.put.ensures.copier.same up) ∙ files_say phase_next c.args.self.now was.sup was.disk was.phase c.in-Open.files c.self.view_is c.in-Open.is

pub returns-clause-there : goal.returns-clause-there
returns-clause-there g c =
    let was = c.self.inside in
    if_ok_so c.put.result _ _ (λ needle at. at ∙ files_say phase_end c.args.self.now was.sup was.disk was.phase c.in-Open.files c.self.view_is c.in-Open.is) c.put.ensures.place

pub returns-clause-grows : goal.returns-clause-grows
returns-clause-grows g c =
    let was = c.self.inside in
    subst (λ n. n ≤ (c.put.new.self).volume.end) (files_say phase_end c.args.self.now was.sup was.disk was.phase c.in-Open.files c.self.view_is c.in-Open.is) (c.put.ensures.volume.1)
