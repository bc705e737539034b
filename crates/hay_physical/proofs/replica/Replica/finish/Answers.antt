use Rattle.std.proofs.Common.{◌≡◌, inl, inr, Bool, Some, None, refl, sym, ap, subst, ◌∙◌}
use Rattle.std.specs.Prelude.{OnOk}
use Rattle.std.proofs.lemmas.Bool.{cases_Bool}
use Rattle.hay_disk.specs.Disk.{FileState}
use Rattle.hay_volume.specs.declared.volume.VolumeFile.{VolumeFile}
use Rattle.hay_physical.specs.declared.state.OpenFiles.{OpenFiles}
use Rattle.hay_physical.specs.declared.state.Phase.TheVariants.{Open}
use Rattle.hay_physical.specs.Replicas.{MayFind, MayFlag}
use Rattle.hay_open.specs.Stored.{index_file, volume_file}
use Rattle.hay_physical.specs.OpenCopies.{Copy, copied_of, copier_goal, generation_of, phase_copied, phase_generation}
use Rattle.hay_physical.specs.CompactionRuns.{RemovedBoth}
use Rattle.hay_physical.proofs.Openings.{on_any}
use Rattle.hay_physical.proofs.RunLaws.{settled_none}
use Rattle.hay_physical.proofs.Standing.{on_err}
use Rattle.hay_physical.proofs.Views.{files_flag, files_going, files_stand, files_stuck, if_ok, if_ok_so, on_err_so, on_ok_one, open_deletes, open_stands}
use Rattle.hay_physical.proofs.RunViews.{files_bounded, files_ready, files_run, place_deletes}
use Rattle.hay_physical.specs.Replicas.{Anywhere}
use Rattle.hay_physical.proofs.Looks.{always_ok}
use Rattle.hay_physical.proofs.Seeing.{sight_same, stands_shows}
use Rattle.std.proofs.Common.{◌≤◌, length}
use Rattle.hay_physical.specs.OpenCopies.{phase_bare, phase_end}
use Rattle.hay_physical.proofs.RunViews.{files_goal, files_say, head_beside}
use Rattle.hay_physical.proofs.replica.Replica.finish.Goals as goal

pub invariant_of-self : goal.invariant_of-self
invariant_of-self g c =
    let was = c.self.inside in
    let capacity = was.sup.settings.capacity in (
      λ tells thawed. (
        c.finish.ensures.ready tells thawed,
        λ stage is. let e : None ≡ Some stage.generation = sym c.finish.ensures.goal ∙ ap copier_goal is in absurd cc,
      ),
      settled_none c.finish.new.self c.finish.ensures.goal,
      c.finish.ensures.bounded capacity (files_bounded capacity was.phase c.in-Open.files c.in-Open.is c.self.invariant.2),
    )

pub returns-clause-swapped : goal.returns-clause-swapped
returns-clause-swapped g c = λ tells s run stands has none.
    let files = g.D.Disk.files in
    let was = c.self.inside in
    let f = files_stand files c.args.self.now was.sup was.disk was.phase c.in-Open.files s c.self.view_is c.in-Open.is stands in
    let r = files_run files c.args.self.now was.sup was.disk was.phase c.in-Open.files s run c.self.view_is c.in-Open.is has in
    if_ok c.finish.result _ _ _
    (λ places made going. (made.0, made.1, made.2, open_stands files was.sup c.finish.new.disk c.finish.new.self made.0 going.0 made.3, made.4))
    (c.finish.ensures.swapped tells was.sup s run f r none) c.finish.ensures.open

pub returns-clause-can_delete : goal.returns-clause-can_delete
returns-clause-can_delete g c = λ tells.
    if_ok_so c.finish.result _ _ (λ places flags pair. place_deletes g.D.Disk.files c.self.inside.sup c.finish.new.disk c.finish.new.self _ (flags pair)) (c.finish.ensures.flags tells)

pub returns-clause-refused : goal.returns-clause-refused
returns-clause-refused g c = λ tells s run stands has none.
    let files = g.D.Disk.files in
    let was = c.self.inside in
    let f = files_stand files c.args.self.now was.sup was.disk was.phase c.in-Open.files s c.self.view_is c.in-Open.is stands in
    let going = files_going files c.args.self.now was.sup was.disk was.phase c.in-Open.files s c.self.view_is c.in-Open.is stands in
    let r = files_run files c.args.self.now was.sup was.disk was.phase c.in-Open.files s run c.self.view_is c.in-Open.is has in
    let stuck = files_stuck c.args.self.now was.sup was.disk was.phase c.in-Open.files c.self.view_is c.in-Open.is in
    on_err c.finish.result _ _ _
    (λ kept unsure. elim (cases_Bool c.finish.new.self.frozen) [
      | inl frozen ↦ let u = unsure frozen in inr (frozen, (u.0, u.1, u.2, subst (λ (b : Bool). MayFind was.sup (files c.finish.new.disk) b s u.0) stuck u.3))
      | inr thawed ↦ inl (open_stands files was.sup c.finish.new.disk c.finish.new.self s thawed (kept thawed))
    ])
    (c.finish.ensures.kept tells was.sup s going f) (c.finish.ensures.unsure tells was.sup s run going f r none)

pub returns-clause-kept : goal.returns-clause-kept
returns-clause-kept g c = λ tells s stands.
    let files = g.D.Disk.files in
    let was = c.self.inside in
    let f = files_stand files c.args.self.now was.sup was.disk was.phase c.in-Open.files s c.self.view_is c.in-Open.is stands in
    let going = files_going files c.args.self.now was.sup was.disk was.phase c.in-Open.files s c.self.view_is c.in-Open.is stands in
    on_err_so c.finish.result _ _ (λ kept up. open_stands files was.sup c.finish.new.disk c.finish.new.self s up (kept up)) (c.finish.ensures.kept tells was.sup s going f)

pub returns-clause-deletes : goal.returns-clause-deletes
returns-clause-deletes g c = λ tells at may.
    let files = g.D.Disk.files in
    let was = c.self.inside in
    let opened = c.in-Open.files in
    let flag = files_flag files c.args.self.now was.sup was.disk was.phase opened at c.self.view_is c.in-Open.is may in
    elim (cases_Bool opened.frozen) [
      | inl frozen ↦
          let same = c.finish.ensures.frozen frozen in
          on_any c.finish.result _ (open_deletes files was.sup c.finish.new.disk c.finish.new.self at
          (subst (λ (d : _). MayFlag (files d c.finish.new.self.volume.file) c.finish.new.self.volume.end at) (sym same.2)
          (subst (λ (o : OpenFiles). MayFlag (files was.disk o.volume.file) o.volume.end at) (sym same.1) flag)))
      | inr going ↦
          on_err c.finish.result _ _ _
          (λ same file.
          let volume : c.finish.new.self.volume ≡ opened.volume = ap (λ (o : OpenFiles). o.volume) same in
          open_deletes files was.sup c.finish.new.disk c.finish.new.self at
          (subst (λ (v : VolumeFile). MayFlag (files c.finish.new.disk v.file) v.end at) (sym volume) (subst (λ (x : FileState). MayFlag x opened.volume.end at) (sym file) flag)))
          c.finish.ensures.same (c.finish.ensures.volume tells going)
    ]

pub returns-clause-removed : goal.returns-clause-removed
returns-clause-removed g c = λ tells.
    let files = g.D.Disk.files c.finish.new.disk in
    let count = g.D.Disk.fault_count in
    let was = c.self.inside in
    let opened = c.in-Open.files in
    let after = count c.finish.new.disk in
    let generation : phase_generation was.phase ≡ opened.head.generation = ap phase_generation c.in-Open.is in
    subst (λ (x : Copy _). OnOk c.finish.result (RemovedBoth files (volume_file (generation_of x)) (index_file (generation_of x)) (count x.disk) after)) c.self.view_is
    (elim (cases_Bool opened.frozen) [
      | inl frozen ↦ subst (λ r. OnOk r (RemovedBoth files (volume_file (phase_generation was.phase)) (index_file (phase_generation was.phase)) (count was.disk) after))
          (sym (c.finish.ensures.frozen frozen).0) tt
      | inr going ↦
          let ready = (files_ready (g.D.Disk.files was.disk) was.phase opened c.in-Open.is (c.self.invariant.0 tells) going).0 in
          on_ok_one c.finish.result _ _
          (λ both. subst (λ n. RemovedBoth files (volume_file n) (index_file n) (count was.disk) after) (sym generation)
          (subst (λ n. RemovedBoth files n (index_file opened.head.generation) (count was.disk) after) ready.volume_number
          (subst (λ n. RemovedBoth files opened.volume.file n (count was.disk) after) ready.index_number both)))
          (c.finish.ensures.removed tells)
    ])

pub returns-clause-sees : goal.returns-clause-sees
returns-clause-sees g c = λ tells.
    let files = g.D.Disk.files in
    let was = c.self.inside in
    let opened = c.in-Open.files in
    elim (cases_Bool opened.frozen) [
      | inl frozen ↦
          let same = c.finish.ensures.frozen frozen in
          on_any c.finish.result _ (sight_same files Anywhere c.args.self.now was.sup was.disk c.finish.new.disk was.phase opened c.finish.new.self c.self.view_is c.in-Open.is
          (ap (λ (o : OpenFiles). o.volume) same.1) (ap (λ d. files d opened.volume.file) same.2))
      | inr going ↦
          on_err c.finish.result _ _ _
          (λ same file. sight_same files Anywhere c.args.self.now was.sup was.disk c.finish.new.disk was.phase opened c.finish.new.self c.self.view_is c.in-Open.is
          (ap (λ (o : OpenFiles). o.volume) same) file)
          c.finish.ensures.same (c.finish.ensures.volume tells going)
    ]

pub returns-clause-shows : goal.returns-clause-shows
returns-clause-shows g c = λ tells. always_ok c.finish.result _ (λ s stands. stands_shows g.D.Disk.files _ s stands)

pub returns-clause-counted : goal.returns-clause-counted
returns-clause-counted g c = λ tells.
    let was = c.self.inside in
    on_ok_one c.finish.result _ _
    (λ counted t stands.
    let f =
    files_stand g.D.Disk.files (record { sup = was.sup; disk = c.finish.new.disk; phase = Open c.finish.new.self }) was.sup c.finish.new.disk (Open c.finish.new.self)
    c.finish.new.self t refl refl stands in
    counted was.sup t f ∙ sym (ap phase_copied c.in-Open.is) ∙ ap (λ (r : Copy _). copied_of r) c.self.view_is)
    (c.finish.ensures.counted tells)

pub returns-clause-named : goal.returns-clause-named
returns-clause-named g c = λ goal is. let was = c.self.inside in c.finish.ensures.named goal (files_goal c.args.self.now was.sup was.disk was.phase c.in-Open.files c.self.view_is c.in-Open.is ∙ is)

pub returns-clause-small : goal.returns-clause-small
returns-clause-small g c =
    let was = c.self.inside in
    let bounded = c.finish.ensures.bounded was.sup.settings.capacity (files_bounded was.sup.settings.capacity was.phase c.in-Open.files c.in-Open.is c.self.invariant.2) in
    always_ok c.finish.result _ bounded.most

pub returns-clause-from : goal.returns-clause-from
returns-clause-from g c =
    let was = c.self.inside in
    let bounded = c.finish.ensures.bounded was.sup.settings.capacity (files_bounded was.sup.settings.capacity was.phase c.in-Open.files c.in-Open.is c.self.invariant.2) in
    always_ok c.finish.result _ bounded.from

pub returns-clause-shorter : goal.returns-clause-shorter
returns-clause-shorter g c =
    let was = c.self.inside in
    let end = files_say phase_end c.args.self.now was.sup was.disk was.phase c.in-Open.files c.self.view_is c.in-Open.is in
    on_ok_one c.finish.result _ _ (λ short. subst (λ k. c.finish.new.self.volume.end ≤ k) end short)
    (c.finish.ensures.shorter was.sup.settings.capacity (files_bounded was.sup.settings.capacity was.phase c.in-Open.files c.in-Open.is c.self.invariant.2))

pub returns-clause-none_bare : goal.returns-clause-none_bare
returns-clause-none_bare g c = on_ok_one c.finish.result _ _ (λ none. ap length none) c.finish.ensures.flushed

pub returns-clause-still_bare : goal.returns-clause-still_bare
returns-clause-still_bare g c =
    let was = c.self.inside in
    let bare = files_say phase_bare c.args.self.now was.sup was.disk was.phase c.in-Open.files c.self.view_is c.in-Open.is in
    on_err_so c.finish.result _ _ (λ same. ap (λ (o : OpenFiles). length o.index.pending) same ∙ bare) c.finish.ensures.same

pub returns-clause-within : goal.returns-clause-within
returns-clause-within g c = c.finish.ensures.within

pub returns-clause-head_file : goal.returns-clause-head_file
returns-clause-head_file g c = λ tells.
    let files = g.D.Disk.files in
    let was = c.self.inside in
    let opened = c.in-Open.files in
    elim (cases_Bool opened.frozen) [
      | inl frozen ↦
          let same = c.finish.ensures.frozen frozen in
          on_any c.finish.result _ (λ up. head_beside files c.args.self.now was.sup was.disk c.finish.new.disk was.phase c.self.view_is (ap (λ d. files d 0) same.2))
      | inr going ↦
          on_err_so c.finish.result _ _ (λ kept up. head_beside files c.args.self.now was.sup was.disk c.finish.new.disk was.phase c.self.view_is (kept up)) (c.finish.ensures.head_file tells going)
    ]
