use Rattle.std.proofs.Common.{ℕ, ◌≡◌, ap, arith, inl, inr, List}
use Rattle.std.specs.Prelude.{IfOk, IfSome}
use Rattle.std.proofs.lemmas.Bool.{cases_Bool}
use Rattle.hay_volume.specs.Needles.{LacksNeedleWithin}
use Rattle.hay_open.specs.Stored.{volume_file}
use Rattle.hay_physical.specs.declared.state.OpenFiles.{OpenFiles}
use Rattle.hay_disk.specs.Disk.{Files}
use Rattle.hay_physical.proofs.Views.{if_err_so, if_ok_some, on_ok_one}
use Rattle.hay_physical.proofs.RunViews.{beside_deletes, beside_stands, ends_run, files_run, open_next, open_run, peek_pair}
use Rattle.hay_physical.specs.Replicas.{Anywhere}
use Rattle.hay_physical.proofs.Seeing.{beside_sight}
use Rattle.std.proofs.Common.{◌∙◌, subst, sym}
use Rattle.hay_physical.specs.OpenCopies.{copier_next, phase_end, phase_next, volume_bytes}
use Rattle.hay_physical.proofs.RunViews.{bytes_beside, files_bounded, files_bytes, files_goal, files_ready, files_say, head_beside}
use Rattle.hay_compact.specs.Copying.{HeadStands, IsNextWithin}
use Rattle.hay_physical.proofs.replica.Replica.peek.Goals as goal

pub returns-clause-next : goal.returns-clause-next
returns-clause-next g c = λ tells s run has.
    let files = g.D.Disk.files in
    let was = c.self.inside in
    let r = files_run files c.args.self.now was.sup was.disk was.phase c.in-Open.files s run c.self.view_is c.in-Open.is has in
    if_ok_some c.peek.result _ _
    (λ head p. (open_next files was.sup c.peek.new.disk c.peek.new.self s run head p, peek_pair was.sup (files c.peek.new.disk) c.peek.new.self s run head p))
    (c.peek.ensures.next tells was.sup s run r)

pub returns-clause-all : goal.returns-clause-all
returns-clause-all g c = λ tells s run has.
    let was = c.self.inside in
    c.peek.ensures.all tells was.sup s run (files_run g.D.Disk.files c.args.self.now was.sup was.disk was.phase c.in-Open.files s run c.self.view_is c.in-Open.is has)

pub returns-clause-whole : goal.returns-clause-whole
returns-clause-whole g c = λ tells s run has.
    let was = c.self.inside in
    c.peek.ensures.whole tells was.sup s run (files_run g.D.Disk.files c.args.self.now was.sup was.disk was.phase c.in-Open.files s run c.self.view_is c.in-Open.is has)

pub returns-clause-run : goal.returns-clause-run
returns-clause-run g c = λ tells s run has.
    let files = g.D.Disk.files in
    let was = c.self.inside in
    on_ok_one c.peek.result _ _ (λ r. open_run files was.sup c.peek.new.disk c.peek.new.self s run r)
    (c.peek.ensures.run tells was.sup s run (files_run files c.args.self.now was.sup was.disk was.phase c.in-Open.files s run c.self.view_is c.in-Open.is has))

pub returns-clause-stands : goal.returns-clause-stands
returns-clause-stands g c = λ tells s stands.
    let was = c.self.inside in
    beside_stands g.D.Disk.files c.args.self.now was.sup was.disk c.peek.new.disk was.phase c.in-Open.files c.peek.new.self s c.self.view_is c.in-Open.is c.peek.ensures.keeps
    (λ other first second. ap (λ (f : Files). f other) (c.peek.ensures.files tells)) stands

pub returns-clause-deletes : goal.returns-clause-deletes
returns-clause-deletes g c = λ tells at may.
    let was = c.self.inside in
    beside_deletes g.D.Disk.files c.args.self.now was.sup was.disk c.peek.new.disk was.phase c.in-Open.files c.peek.new.self at c.self.view_is c.in-Open.is
    (λ stuck. let same = c.peek.ensures.frozen stuck in (same.1, same.2)) (c.self.invariant.0 tells) c.peek.ensures.keeps
    (λ other first second. ap (λ (f : Files). f other) (c.peek.ensures.files tells)) may

pub returns-clause-ends : goal.returns-clause-ends
returns-clause-ends g c =
    let was = c.self.inside in
    if_err_so c.peek.result _ _ (λ why ends. ends_run why (g.D.Disk.fault_count c.peek.new.disk) c.args.self.now was.sup was.disk c.peek.new.disk was.phase c.in-Open.files
    c.peek.new.self c.self.view_is c.in-Open.is ends) c.peek.ensures.err

pub returns-clause-sees : goal.returns-clause-sees
returns-clause-sees g c = λ tells.
    let was = c.self.inside in
    beside_sight g.D.Disk.files Anywhere c.args.self.now was.sup was.disk c.peek.new.disk was.phase c.in-Open.files c.peek.new.self c.self.view_is c.in-Open.is
    (λ stuck. let same = c.peek.ensures.frozen stuck in (same.1, same.2)) (c.self.invariant.0 tells) c.peek.ensures.keeps
    (λ other first second. ap (λ (f : Files). f other) (c.peek.ensures.files tells))

pub returns-clause-place : goal.returns-clause-place
returns-clause-place g c = λ same.
    let was = c.self.inside in
    let goal = files_goal c.args.self.now was.sup was.disk was.phase c.in-Open.files c.self.view_is c.in-Open.is in
    let next = files_say phase_next c.args.self.now was.sup was.disk was.phase c.in-Open.files c.self.view_is c.in-Open.is in
    c.peek.ensures.place (same ∙ sym goal) ∙ next

pub returns-clause-damaged : goal.returns-clause-damaged
returns-clause-damaged g c = λ at is.
    let was = c.self.inside in
    let next = files_say phase_next c.args.self.now was.sup was.disk was.phase c.in-Open.files c.self.view_is c.in-Open.is in
    let end = files_say phase_end c.args.self.now was.sup was.disk was.phase c.in-Open.files c.self.view_is c.in-Open.is in
    subst (λ n. IsNextWithin (phase_end c.args.self.now.phase) n at) next (subst (λ n. IsNextWithin n (copier_next c.in-Open.files.copier) at) end (c.peek.ensures.damaged at is))

pub returns-clause-head : goal.returns-clause-head
returns-clause-head g c = λ tells.
    let was = c.self.inside in
    let capacity = was.sup.settings.capacity in
    let files = g.D.Disk.files in
    let bounded = c.peek.ensures.bounded capacity (files_bounded capacity was.phase c.in-Open.files c.in-Open.is c.self.invariant.2) in
    let same : c.in-Open.files.volume.file ≡ volume_file c.peek.new.self.head.generation = ap (λ (o : OpenFiles). o.volume.file) (sym c.peek.ensures.keeps) ∙ bounded.file in
    subst (λ n. IfOk c.peek.result (λ next. IfSome next (λ head. HeadStands (copier_next c.peek.new.self.copier) head (files c.peek.new.disk n).now))) same (c.peek.ensures.head tells)

pub returns-clause-lacks : goal.returns-clause-lacks
returns-clause-lacks g c = λ tells at is.
    let was = c.self.inside in
    let opened = c.in-Open.files in
    let capacity = was.sup.settings.capacity in
    let files = g.D.Disk.files in
    elim (cases_Bool opened.frozen) [
      | inl stuck ↦ let wrong = sym (c.peek.ensures.frozen stuck).0 ∙ is in absurd cc
      | inr going ↦
          let ready = files_ready (files was.disk) was.phase opened c.in-Open.is (c.self.invariant.0 tells) going in
          let room = ready.0.volume.closed.room in
          let fits = g.met.D.Disk.fits was.disk opened.volume.file tells in
          let bytes =
          files_bytes files c.args.self.now was.sup was.disk was.phase opened capacity c.self.view_is c.in-Open.is (files_bounded capacity was.phase opened c.in-Open.is c.self.invariant.2) in
          let end = files_say phase_end c.args.self.now was.sup was.disk was.phase opened c.self.view_is c.in-Open.is in
          subst (λ n. LacksNeedleWithin n at (volume_bytes files c.args.self.now)) end
          (subst (λ (l : List ℕ). LacksNeedleWithin opened.volume.end at l) bytes (c.peek.ensures.lacks tells (omega (arith, room, fits)) at is))
    ]

pub returns-clause-bytes : goal.returns-clause-bytes
returns-clause-bytes g c = λ tells.
    let was = c.self.inside in
    bytes_beside g.D.Disk.files c.args.self.now was.sup was.disk c.peek.new.disk was.phase c.in-Open.files c.peek.new.self c.self.view_is c.in-Open.is c.peek.ensures.keeps
    (ap (λ (f : Files). f (volume_file c.in-Open.files.head.generation)) (c.peek.ensures.files tells))

pub returns-clause-head_file : goal.returns-clause-head_file
returns-clause-head_file g c = λ tells.
    let was = c.self.inside in
    head_beside g.D.Disk.files c.args.self.now was.sup was.disk c.peek.new.disk was.phase c.self.view_is (ap (λ (f : Files). f 0) (c.peek.ensures.files tells))
