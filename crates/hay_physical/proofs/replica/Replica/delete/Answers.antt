use Rattle.std.proofs.Common.{◌∙◌, ap, subst, Bool}
use Rattle.hay_physical.specs.declared.state.OpenFiles.{OpenFiles}
use Rattle.hay_physical.specs.Replicas.{HasLive, MayFind, without_cell}
use Rattle.hay_physical.proofs.RunLaws.{copier_ready_volume, flag_beside, stand_beside}
use Rattle.hay_physical.proofs.Laws.{last_live}
use Rattle.hay_physical.proofs.RunViews.{delete_run, files_ready, files_settled}
use Rattle.hay_physical.proofs.Views.{files_flag, files_going, files_stand, files_stuck, files_up, open_deletes, open_stands}
use Rattle.std.proofs.Common.{◌≡◌, arith, refl, inl, inr}
use Rattle.std.proofs.lemmas.Bool.{cases_Bool}
use Rattle.hay_needle.specs.Sizes.{needle_total}
use Rattle.hay_volume.specs.declared.volume.VolumeFile.{VolumeFile}
use Rattle.hay_physical.specs.declared.state.Phase.TheVariants.{Open}
use Rattle.hay_physical.specs.Replicas.{ApartFrom}
use Rattle.hay_physical.proofs.Seeing.{sight_kept, sight_same, sight_sight}
use Rattle.hay_physical.proofs.Sights.{range_apart}
use Rattle.std.proofs.Common.{length, sym}
use Rattle.hay_physical.specs.OpenCopies.{copier_goal, copier_next, phase_bare, phase_next}
use Rattle.hay_physical.proofs.RunLaws.{place_kept}
use Rattle.hay_physical.proofs.RunViews.{files_goal, files_say}
use Rattle.hay_physical.proofs.replica.Replica.delete.Goals as goal

pub delete-requires-clause-flag : goal.delete-requires-clause-flag
delete-requires-clause-flag g c = λ tells going.
    let was = c.self.inside in
    let may = c.requires.flag tells (files_up c.args.self.now was.sup was.disk was.phase c.in-Open.files c.self.view_is c.in-Open.is going) in
    files_flag g.D.Disk.files c.args.self.now was.sup was.disk was.phase c.in-Open.files c.args.at c.self.view_is c.in-Open.is may

pub repeat_delete-requires-clause-making : goal.repeat_delete-requires-clause-making
repeat_delete-requires-clause-making g c = λ tells.
    let files = g.D.Disk.files in
    let was = c.self.inside in
    let opened = c.in-Open.files in
    let thawed = c.in-Ok.ensures.open in
    let ready = files_ready (files was.disk) was.phase opened c.in-Open.is (c.self.invariant.0 tells) (c.delete.ensures.copier.thawed thawed) in
    copier_ready_volume (files was.disk) (files c.delete.new.disk) opened c.delete.new.self (files_settled was.phase opened c.in-Open.is c.self.invariant.1) ready.0 ready.1
    (c.delete.ensures.copier.same thawed) (c.delete.ensures.others tells)

pub returns-in-Ok-clause-deleted : goal.returns-in-Ok-clause-deleted
returns-in-Ok-clause-deleted g c = λ tells s stands live.
    let files = g.D.Disk.files in
    let was = c.self.inside in
    let opened = c.in-Open.files in
    let stand = files_stand files c.args.self.now was.sup was.disk was.phase opened s c.self.view_is c.in-Open.is stands in
    open_stands files was.sup c.repeat_delete.new.disk c.repeat_delete.new.self (without_cell s c.args.at) (ap (λ (o : OpenFiles). o.frozen) c.repeat_delete.ensures.keeps ∙ c.in-Ok.ensures.open)
    (stand_beside was.sup (files c.delete.new.disk) (files c.repeat_delete.new.disk) c.delete.new.self c.repeat_delete.new.self (without_cell s c.args.at)
    (c.in-Ok.ensures.deleted tells was.sup s stand live) c.repeat_delete.ensures.keeps (c.repeat_delete.ensures.others tells))

pub returns-in-Ok-clause-deletes : goal.returns-in-Ok-clause-deletes
returns-in-Ok-clause-deletes g c = λ tells place may.
    let files = g.D.Disk.files in
    let was = c.self.inside in
    open_deletes files was.sup c.repeat_delete.new.disk c.repeat_delete.new.self place
    (flag_beside (files c.delete.new.disk) (files c.repeat_delete.new.disk) c.delete.new.self c.repeat_delete.new.self place (c.delete.ensures.ready tells c.in-Ok.ensures.open)
    c.repeat_delete.ensures.keeps (c.repeat_delete.ensures.others tells)
    (c.delete.ensures.flags tells place (files_flag files c.args.self.now was.sup was.disk was.phase c.in-Open.files place c.self.view_is c.in-Open.is may)))

pub returns-in-Ok-clause-run : goal.returns-in-Ok-clause-run
returns-in-Ok-clause-run g c = λ tells s run stands has last.
    let files = g.D.Disk.files in
    let was = c.self.inside in
    let opened = c.in-Open.files in
    let stand = files_stand files c.args.self.now was.sup was.disk was.phase opened s c.self.view_is c.in-Open.is stands in
    delete_run run files c.args.self.now was.sup was.disk c.delete.new.disk c.repeat_delete.new.disk was.phase opened c.delete.new.self c.repeat_delete.new.self s c.args.pair
    c.args.at (g.D.Disk.fault_count c.delete.new.disk) (g.D.Disk.fault_count c.repeat_delete.new.disk)
    c.self.view_is c.in-Open.is stand (c.delete.ensures.copier.same c.in-Ok.ensures.open) c.delete.ensures.volume
    (c.in-Ok.ensures.deleted tells was.sup s stand (subst (λ k. HasLive k s.cells) last.place (last_live s.cells c.args.pair last.cell last.last last.alive))) (c.delete.ensures.others tells) last
    (c.repeat_delete.ensures.repeated tells) c.repeat_delete.ensures.ends c.repeat_delete.ensures.keeps has

pub returns-in-Err-clause-deletes : goal.returns-in-Err-clause-deletes
returns-in-Err-clause-deletes g c = λ tells place may.
    let files = g.D.Disk.files in
    let was = c.self.inside in
    open_deletes files was.sup c.delete.new.disk c.delete.new.self place (c.delete.ensures.flags tells place
    (files_flag files c.args.self.now was.sup was.disk was.phase c.in-Open.files place c.self.view_is c.in-Open.is may))

pub returns-in-Err-clause-refused : goal.returns-in-Err-clause-refused
returns-in-Err-clause-refused g c = λ tells s stands live.
    let files = g.D.Disk.files in
    let was = c.self.inside in
    let opened = c.in-Open.files in
    let stand = files_stand files c.args.self.now was.sup was.disk was.phase opened s c.self.view_is c.in-Open.is stands in
    let going = files_going files c.args.self.now was.sup was.disk was.phase opened s c.self.view_is c.in-Open.is stands in
    let stuck = files_stuck c.args.self.now was.sup was.disk was.phase opened c.self.view_is c.in-Open.is in
    let unsure = c.in-Err.ensures.refused tells was.sup s going stand live in
    (unsure.0, subst (λ (b : Bool). MayFind was.sup (files c.delete.new.disk) b s (without_cell s c.args.at)) stuck unsure.1)

pub returns-in-Ok-clause-sees : goal.returns-in-Ok-clause-sees
returns-in-Ok-clause-sees g c = λ tells.
    let files = g.D.Disk.files in
    let was = c.self.inside in
    let opened = c.in-Open.files in
    let going = c.delete.ensures.copier.thawed c.in-Ok.ensures.open in
    let ready = c.delete.ensures.ready tells c.in-Ok.ensures.open in
    let number = ready.volume_number in
    let volume : c.delete.new.self.volume ≡ opened.volume = c.delete.ensures.volume in
    let apart : files c.repeat_delete.new.disk c.delete.new.self.volume.file ≡ files c.delete.new.disk c.delete.new.self.volume.file =
    c.repeat_delete.ensures.others tells c.delete.new.self.volume.file (λ e. omega arith) (λ e. omega arith) in
    sight_sight files (ApartFrom c.args.at) c.args.self.now (record { sup = was.sup; disk = c.delete.new.disk; phase = Open c.delete.new.self })
    (record { sup = was.sup; disk = c.repeat_delete.new.disk; phase = Open c.repeat_delete.new.self })
    (sight_kept files (ApartFrom c.args.at) c.args.self.now was.sup was.disk c.delete.new.disk was.phase opened c.delete.new.self c.self.view_is c.in-Open.is
    (ap (λ (v : VolumeFile). v.file) volume) (omega (arith, ap (λ (v : VolumeFile). v.end) volume))
    (λ at size kept within. range_apart at (needle_total size) c.args.at (files was.disk opened.volume.file) (files c.delete.new.disk opened.volume.file) kept (c.delete.ensures.changes tells going)))
    (sight_same files (ApartFrom c.args.at) (record { sup = was.sup; disk = c.delete.new.disk; phase = Open c.delete.new.self }) was.sup c.delete.new.disk c.repeat_delete.new.disk
    (Open c.delete.new.self) c.delete.new.self c.repeat_delete.new.self refl refl
    (ap (λ (o : OpenFiles). o.volume) c.repeat_delete.ensures.keeps) apart)

pub returns-in-Err-clause-sees : goal.returns-in-Err-clause-sees
returns-in-Err-clause-sees g c = λ tells.
    let files = g.D.Disk.files in
    let was = c.self.inside in
    let opened = c.in-Open.files in
    let volume : c.delete.new.self.volume ≡ opened.volume = c.delete.ensures.volume in
    elim (cases_Bool opened.frozen) [
      | inl stuck ↦ sight_same files (ApartFrom c.args.at) c.args.self.now was.sup was.disk c.delete.new.disk was.phase opened c.delete.new.self c.self.view_is c.in-Open.is volume
          (ap (λ d. files d opened.volume.file) (c.delete.ensures.frozen stuck).2)
      | inr going ↦
          sight_kept files (ApartFrom c.args.at) c.args.self.now was.sup was.disk c.delete.new.disk was.phase opened c.delete.new.self c.self.view_is c.in-Open.is
          (ap (λ (v : VolumeFile). v.file) volume) (omega (arith, ap (λ (v : VolumeFile). v.end) volume))
          (λ at size kept within. range_apart at (needle_total size) c.args.at (files was.disk opened.volume.file) (files c.delete.new.disk opened.volume.file) kept
          (c.delete.ensures.changes tells going))
    ]

pub returns-in-Ok-clause-place : goal.returns-in-Ok-clause-place
returns-in-Ok-clause-place g c = λ same.
    let was = c.self.inside in
    let copier = c.delete.ensures.copier.same c.in-Ok.ensures.open in
    let goal = files_goal c.args.self.now was.sup was.disk was.phase c.in-Open.files c.self.view_is c.in-Open.is in
    let next = files_say phase_next c.args.self.now was.sup was.disk was.phase c.in-Open.files c.self.view_is c.in-Open.is in
    c.repeat_delete.ensures.place (same ∙ sym goal ∙ sym (ap copier_goal copier)) ∙ ap copier_next copier ∙ next

pub returns-in-Err-clause-place : goal.returns-in-Err-clause-place
returns-in-Err-clause-place g c = λ same.
    let was = c.self.inside in
    let goal = files_goal c.args.self.now was.sup was.disk was.phase c.in-Open.files c.self.view_is c.in-Open.is in
    let next = files_say phase_next c.args.self.now was.sup was.disk was.phase c.in-Open.files c.self.view_is c.in-Open.is in
    place_kept c.in-Open.files c.delete.new.self c.delete.ensures.copier (same ∙ sym goal) ∙ next

pub returns-in-Ok-clause-bare : goal.returns-in-Ok-clause-bare
returns-in-Ok-clause-bare g c =
    let was = c.self.inside in
    let bare = files_say phase_bare c.args.self.now was.sup was.disk was.phase c.in-Open.files c.self.view_is c.in-Open.is in
    ap (λ (o : OpenFiles). length o.index.pending) c.repeat_delete.ensures.keeps ∙ ap length c.delete.ensures.noted ∙ bare

pub returns-in-Err-clause-bare : goal.returns-in-Err-clause-bare
returns-in-Err-clause-bare g c =
    let was = c.self.inside in
    ap length c.delete.ensures.noted ∙ files_say phase_bare c.args.self.now was.sup was.disk was.phase c.in-Open.files c.self.view_is c.in-Open.is
