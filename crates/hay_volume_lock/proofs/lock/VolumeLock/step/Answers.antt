use Rattle.std.proofs.Common.{[], Some, refl, sym, ap, subst, ◌∙◌}
use Rattle.std.specs.Prelude.{IfSome}
use Rattle.hay_turn.specs.Seats.{after_free}
use Rattle.hay_turn.specs.Slots.{acts_in}
use Rattle.hay_volume_lock.specs.Acts.{act_of}
use Rattle.hay_volume_lock.specs.Answers.{IsAlways, IsTold, UnfusedHolding}
use Rattle.hay_volume_lock.specs.Compactions.{FailedHere, StepAnswer, StepHalted}
use Rattle.hay_volume_lock.specs.Seats.{Seated}
use Rattle.hay_volume_lock.proofs.Growing.{of_still}
use Rattle.hay_volume_lock.proofs.Holding.{is_held, made_always, made_free, made_mine, made_seated, made_told, quiet_free, quiet_held, quiet_seated, quiet_told, seat_of, within_it, made_unfused}
use Rattle.hay_volume_lock.proofs.Stepping.{barred_found, step_failed, step_found, step_goes}
use Rattle.hay_volume_lock.specs.Refusing.{OfOpened, RefusesRun}
use Rattle.hay_volume_lock.proofs.Refusing.{refuses_run, of_opened, some_refused}
use Rattle.hay_volume_lock.proofs.Unfused.{IsNoFuse, one_unfused, step_unfused}
use Rattle.hay_volume_lock.proofs.lock.VolumeLock.step.Goals as goal

pub show_all-requires : goal.show_all-requires
show_all-requires g c =
    c.seat.invariant.front ∙ sym (c.hold-kept.ensures.stands_for c.seat.invariant.opened c.seat.invariant.is).front

pub barred-requires-clause-within : goal.barred-requires-clause-within
barred-requires-clause-within g c =
    (within_it g.D.Disk.Tells g.D.Disk.files g.P.Piece.Tells g.D.Disk.fault_count g.D.Disk.fuse_count c.seat.invariant c.hold-kept.ensures c.args.replica
    (c.requires.within c.seat.invariant.opened (sym (ap (λ (s : Seated g.row.D.Denot g.row.P.Denot). s.start) c.seat.view_is) ∙ c.seat.invariant.is)))

pub barred-requires-clause-open : goal.barred-requires-clause-open
barred-requires-clause-open g c =
    (is_held g.D.Disk.Tells g.D.Disk.files g.P.Piece.Tells g.D.Disk.fault_count g.D.Disk.fuse_count c.seat.invariant c.hold-kept.ensures).is_open

pub free-requires-clause-may : goal.free-requires-clause-may
free-requires-clause-may g c =
    record {
      stands_for =
          quiet_free g.D.Disk.Tells g.D.Disk.files g.P.Piece.Tells g.D.Disk.fault_count g.D.Disk.fuse_count c.args.tag c.seat.inside.turn c.hold-kept.new.seat
          (after_free c.hold-kept.new.seat []) c.seat.inside.view c.show_all.new.seat c.hold-kept.result c.seat.invariant c.hold-kept.ensures c.show_all.ensures.seen.0 c.show_all.ensures.seen.1 refl;
      mine = tt;
    }

pub invariant_of-seat : goal.invariant_of-seat
invariant_of-seat g c =
    quiet_seated g.D.Disk.Tells g.D.Disk.files g.P.Piece.Tells g.D.Disk.fault_count g.D.Disk.fuse_count c.args.tag c.seat.inside.turn c.hold-kept.new.seat c.free.new.seat
    c.seat.inside.view c.show_all.new.seat c.hold-kept.result c.seat.invariant c.hold-kept.ensures c.show_all.ensures.seen.0 c.show_all.ensures.seen.1 c.free.ensures

pub returns-in-Some-clause-stepped : goal.returns-in-Some-clause-stepped
returns-in-Some-clause-stepped g c =
    subst (λ (s : Seated g.row.D.Denot g.row.P.Denot). IsTold g.D.Disk.Tells g.D.Disk.files g.P.Piece.Tells g.D.Disk.fault_count g.D.Disk.fuse_count s.start
    (λ volume. StepHalted volume c.args.tag c.args.replica c.args.cells 0 c.in-Some.refusal s.sight (seat_of c.free.new.seat c.show_all.new.seat).sight)) c.seat.view_is
    (quiet_told g.D.Disk.Tells g.D.Disk.files g.P.Piece.Tells g.D.Disk.fault_count g.D.Disk.fuse_count c.args.tag c.seat.inside.turn c.hold-kept.new.seat c.free.new.seat
    c.seat.inside.view c.show_all.new.seat c.hold-kept.result c.seat.invariant c.hold-kept.ensures c.show_all.ensures.seen.0 c.show_all.ensures.seen.1 c.free.ensures
    (λ volume. StepHalted volume c.args.tag c.args.replica c.args.cells 0 c.in-Some.refusal)
    (barred_found g.D.Disk.Tells g.D.Disk.files g.P.Piece.Tells g.D.Disk.fault_count g.D.Disk.fuse_count c.args.tag c.hold-kept.result c.args.replica
    (within_it g.D.Disk.Tells g.D.Disk.files g.P.Piece.Tells g.D.Disk.fault_count g.D.Disk.fuse_count c.seat.invariant c.hold-kept.ensures c.args.replica
    (c.requires.within c.seat.invariant.opened (sym (ap (λ (s : Seated g.row.D.Denot g.row.P.Denot). s.start) c.seat.view_is) ∙ c.seat.invariant.is))) 0 c.args.cells
    c.in-Some.refusal c.in-Some.ensures.barred))

pub returns-in-Some-clause-held : goal.returns-in-Some-clause-held
returns-in-Some-clause-held g c =
    subst (λ (s : Seated g.row.D.Denot g.row.P.Denot). UnfusedHolding c.args.tag s.sight (seat_of c.free.new.seat c.show_all.new.seat).sight) c.seat.view_is
    (quiet_held g.D.Disk.Tells g.D.Disk.files g.P.Piece.Tells g.D.Disk.fault_count g.D.Disk.fuse_count c.args.tag c.seat.inside.turn c.hold-kept.new.seat c.free.new.seat
    c.seat.inside.view c.show_all.new.seat c.hold-kept.result c.seat.invariant c.hold-kept.ensures c.show_all.ensures.seen.0 c.show_all.ensures.seen.1 c.free.ensures)

pub examine-examined-requires-clause-within : goal.examine-examined-requires-clause-within
examine-examined-requires-clause-within g c =
    (within_it g.D.Disk.Tells g.D.Disk.files g.P.Piece.Tells g.D.Disk.fault_count g.D.Disk.fuse_count c.seat.invariant c.hold-kept.ensures c.args.replica
    (c.requires.within c.seat.invariant.opened (sym (ap (λ (s : Seated g.row.D.Denot g.row.P.Denot). s.start) c.seat.view_is) ∙ c.seat.invariant.is)))

pub examine-examined-requires-clause-open : goal.examine-examined-requires-clause-open
examine-examined-requires-clause-open g c =
    (is_held g.D.Disk.Tells g.D.Disk.files g.P.Piece.Tells g.D.Disk.fault_count g.D.Disk.fuse_count c.seat.invariant c.hold-kept.ensures).is_open

pub free-requires-2-clause-may : goal.free-requires-2-clause-may
free-requires-2-clause-may g c =
    let of =
    (of_still g.D.Disk.fault_count g.D.Disk.fuse_count c.hold-kept.result (record c.hold-kept.result { logical = c.examine-examined.new.logical }) refl refl
    c.examine-examined.ensures.same c.examine-examined.ensures.«open» c.examine-examined.ensures.counts c.examine-examined.ensures.still) in
    let goes_on =
    step_goes g.D.Disk.Tells g.D.Disk.files g.P.Piece.Tells g.D.Disk.fault_count g.D.Disk.fuse_count c.args.tag c.hold-kept.result c.args.replica
    (within_it g.D.Disk.Tells g.D.Disk.files g.P.Piece.Tells g.D.Disk.fault_count g.D.Disk.fuse_count c.seat.invariant c.hold-kept.ensures c.args.replica
    (c.requires.within c.seat.invariant.opened (sym (ap (λ (s : Seated g.row.D.Denot g.row.P.Denot). s.start) c.seat.view_is) ∙ c.seat.invariant.is)))
    (record c.hold-kept.result { logical = c.examine-examined.new.logical }) of.0 of.1 refl refl c.in_default.ensures.own c.in_default.ensures.free
    c.examine-examined.ensures.others c.args.cells c.examine-examined.result c.new-act.result c.examine-examined.ensures.tight c.examine-examined.ensures.told
    (c.new-act.ensures ∙ ap (λ m. act_of g.D.Disk.fault_count g.D.Disk.fuse_count c.args.tag m c.examine-examined.new.logical.replicas) c.step_did.ensures) in
    record {
      stands_for =
          made_free g.D.Disk.Tells g.D.Disk.files g.P.Piece.Tells g.D.Disk.fault_count g.D.Disk.fuse_count c.args.tag c.seat.inside.turn c.hold-kept.new.seat
          (after_free c.hold-kept.new.seat (acts_in (Some c.new-act.result))) c.seat.inside.view c.show_all.new.seat c.hold-kept.result
          (record c.hold-kept.result { logical = c.examine-examined.new.logical }) (Some c.new-act.result)
          c.seat.invariant c.hold-kept.ensures c.show_all.ensures.seen.0 c.show_all.ensures.seen.1 goes_on refl;
      mine =
          made_mine g.D.Disk.Tells g.D.Disk.files g.P.Piece.Tells g.D.Disk.fault_count g.D.Disk.fuse_count c.args.tag c.seat.inside.turn c.hold-kept.new.seat
          (after_free c.hold-kept.new.seat (acts_in (Some c.new-act.result))) c.seat.inside.view c.show_all.new.seat c.hold-kept.result
          (record c.hold-kept.result { logical = c.examine-examined.new.logical }) (Some c.new-act.result)
          c.seat.invariant c.hold-kept.ensures c.show_all.ensures.seen.0 c.show_all.ensures.seen.1 goes_on refl
          (ap (λ (s : Seated g.row.D.Denot g.row.P.Denot). s.number) c.seat.view_is ∙ c.requires.may.lane);
    }

pub invariant_of-seat-2 : goal.invariant_of-seat-2
invariant_of-seat-2 g c =
    let of =
    (of_still g.D.Disk.fault_count g.D.Disk.fuse_count c.hold-kept.result (record c.hold-kept.result { logical = c.examine-examined.new.logical }) refl refl
    c.examine-examined.ensures.same c.examine-examined.ensures.«open» c.examine-examined.ensures.counts c.examine-examined.ensures.still) in
    let goes_on =
    step_goes g.D.Disk.Tells g.D.Disk.files g.P.Piece.Tells g.D.Disk.fault_count g.D.Disk.fuse_count c.args.tag c.hold-kept.result c.args.replica
    (within_it g.D.Disk.Tells g.D.Disk.files g.P.Piece.Tells g.D.Disk.fault_count g.D.Disk.fuse_count c.seat.invariant c.hold-kept.ensures c.args.replica
    (c.requires.within c.seat.invariant.opened (sym (ap (λ (s : Seated g.row.D.Denot g.row.P.Denot). s.start) c.seat.view_is) ∙ c.seat.invariant.is)))
    (record c.hold-kept.result { logical = c.examine-examined.new.logical }) of.0 of.1 refl refl c.in_default.ensures.own c.in_default.ensures.free
    c.examine-examined.ensures.others c.args.cells c.examine-examined.result c.new-act.result c.examine-examined.ensures.tight c.examine-examined.ensures.told
    (c.new-act.ensures ∙ ap (λ m. act_of g.D.Disk.fault_count g.D.Disk.fuse_count c.args.tag m c.examine-examined.new.logical.replicas) c.step_did.ensures) in
    made_seated g.D.Disk.Tells g.D.Disk.files g.P.Piece.Tells g.D.Disk.fault_count g.D.Disk.fuse_count c.args.tag c.seat.inside.turn c.hold-kept.new.seat c.free-2.new.seat
    c.seat.inside.view c.show_all.new.seat c.hold-kept.result (record c.hold-kept.result { logical = c.examine-examined.new.logical }) (Some c.new-act.result)
    c.seat.invariant c.hold-kept.ensures c.show_all.ensures.seen.0 c.show_all.ensures.seen.1 goes_on c.free-2.ensures
    (ap (λ (s : Seated g.row.D.Denot g.row.P.Denot). s.number) c.seat.view_is ∙ c.requires.may.lane)

pub returns-clause-stepped : goal.returns-clause-stepped
returns-clause-stepped g c =
    let of =
    (of_still g.D.Disk.fault_count g.D.Disk.fuse_count c.hold-kept.result (record c.hold-kept.result { logical = c.examine-examined.new.logical }) refl refl
    c.examine-examined.ensures.same c.examine-examined.ensures.«open» c.examine-examined.ensures.counts c.examine-examined.ensures.still) in
    let goes_on =
    step_goes g.D.Disk.Tells g.D.Disk.files g.P.Piece.Tells g.D.Disk.fault_count g.D.Disk.fuse_count c.args.tag c.hold-kept.result c.args.replica
    (within_it g.D.Disk.Tells g.D.Disk.files g.P.Piece.Tells g.D.Disk.fault_count g.D.Disk.fuse_count c.seat.invariant c.hold-kept.ensures c.args.replica
    (c.requires.within c.seat.invariant.opened (sym (ap (λ (s : Seated g.row.D.Denot g.row.P.Denot). s.start) c.seat.view_is) ∙ c.seat.invariant.is)))
    (record c.hold-kept.result { logical = c.examine-examined.new.logical }) of.0 of.1 refl refl c.in_default.ensures.own c.in_default.ensures.free
    c.examine-examined.ensures.others c.args.cells c.examine-examined.result c.new-act.result c.examine-examined.ensures.tight c.examine-examined.ensures.told
    (c.new-act.ensures ∙ ap (λ m. act_of g.D.Disk.fault_count g.D.Disk.fuse_count c.args.tag m c.examine-examined.new.logical.replicas) c.step_did.ensures) in
    subst (λ (s : Seated g.row.D.Denot g.row.P.Denot). IsTold g.D.Disk.Tells g.D.Disk.files g.P.Piece.Tells g.D.Disk.fault_count g.D.Disk.fuse_count s.start
    (λ volume. StepAnswer volume c.args.tag c.args.replica c.args.cells c.examine-examined.result s.sight (seat_of c.free-2.new.seat c.show_all.new.seat).sight)) c.seat.view_is
    (made_told g.D.Disk.Tells g.D.Disk.files g.P.Piece.Tells g.D.Disk.fault_count g.D.Disk.fuse_count c.args.tag c.seat.inside.turn c.hold-kept.new.seat c.free-2.new.seat
    c.seat.inside.view c.show_all.new.seat c.hold-kept.result (record c.hold-kept.result { logical = c.examine-examined.new.logical }) (Some c.new-act.result)
    c.seat.invariant c.hold-kept.ensures c.show_all.ensures.seen.0 c.show_all.ensures.seen.1 goes_on c.free-2.ensures
    (λ volume. StepAnswer volume c.args.tag c.args.replica c.args.cells c.examine-examined.result)
    (step_found g.D.Disk.Tells g.D.Disk.files g.P.Piece.Tells g.D.Disk.fault_count g.D.Disk.fuse_count c.args.tag c.hold-kept.result c.args.replica
    (within_it g.D.Disk.Tells g.D.Disk.files g.P.Piece.Tells g.D.Disk.fault_count g.D.Disk.fuse_count c.seat.invariant c.hold-kept.ensures c.args.replica
    (c.requires.within c.seat.invariant.opened (sym (ap (λ (s : Seated g.row.D.Denot g.row.P.Denot). s.start) c.seat.view_is) ∙ c.seat.invariant.is)))
    (record c.hold-kept.result { logical = c.examine-examined.new.logical }) of.0 of.1 refl refl c.in_default.ensures.own c.in_default.ensures.free
    c.examine-examined.ensures.others c.args.cells c.examine-examined.result c.new-act.result c.examine-examined.ensures.tight c.examine-examined.ensures.told
    c.examine-examined.ensures.causes (c.new-act.ensures ∙ ap (λ m. act_of g.D.Disk.fault_count g.D.Disk.fuse_count c.args.tag m c.examine-examined.new.logical.replicas) c.step_did.ensures)))

pub returns-clause-causes : goal.returns-clause-causes
returns-clause-causes g c =
    λ m f failed.
    let of =
    (of_still g.D.Disk.fault_count g.D.Disk.fuse_count c.hold-kept.result (record c.hold-kept.result { logical = c.examine-examined.new.logical }) refl refl
    c.examine-examined.ensures.same c.examine-examined.ensures.«open» c.examine-examined.ensures.counts c.examine-examined.ensures.still) in
    let goes_on =
    step_goes g.D.Disk.Tells g.D.Disk.files g.P.Piece.Tells g.D.Disk.fault_count g.D.Disk.fuse_count c.args.tag c.hold-kept.result c.args.replica
    (within_it g.D.Disk.Tells g.D.Disk.files g.P.Piece.Tells g.D.Disk.fault_count g.D.Disk.fuse_count c.seat.invariant c.hold-kept.ensures c.args.replica
    (c.requires.within c.seat.invariant.opened (sym (ap (λ (s : Seated g.row.D.Denot g.row.P.Denot). s.start) c.seat.view_is) ∙ c.seat.invariant.is)))
    (record c.hold-kept.result { logical = c.examine-examined.new.logical }) of.0 of.1 refl refl c.in_default.ensures.own c.in_default.ensures.free
    c.examine-examined.ensures.others c.args.cells c.examine-examined.result c.new-act.result c.examine-examined.ensures.tight c.examine-examined.ensures.told
    (c.new-act.ensures ∙ ap (λ m. act_of g.D.Disk.fault_count g.D.Disk.fuse_count c.args.tag m c.examine-examined.new.logical.replicas) c.step_did.ensures) in
    subst (λ (s : Seated g.row.D.Denot g.row.P.Denot). IsAlways g.D.Disk.fault_count g.D.Disk.fuse_count s.start
    (λ volume. FailedHere volume c.args.tag c.args.replica m f s.sight (seat_of c.free-2.new.seat c.show_all.new.seat).sight)) c.seat.view_is
    (made_always g.D.Disk.Tells g.D.Disk.files g.P.Piece.Tells g.D.Disk.fault_count g.D.Disk.fuse_count c.args.tag c.seat.inside.turn c.hold-kept.new.seat c.free-2.new.seat
    c.seat.inside.view c.show_all.new.seat c.hold-kept.result (record c.hold-kept.result { logical = c.examine-examined.new.logical }) (Some c.new-act.result)
    c.seat.invariant c.hold-kept.ensures c.show_all.ensures.seen.0 c.show_all.ensures.seen.1 goes_on c.free-2.ensures (λ volume. FailedHere volume c.args.tag c.args.replica m f)
    (step_failed g.D.Disk.Tells g.D.Disk.files g.P.Piece.Tells g.D.Disk.fault_count g.D.Disk.fuse_count c.args.tag c.hold-kept.result c.args.replica
    (within_it g.D.Disk.Tells g.D.Disk.files g.P.Piece.Tells g.D.Disk.fault_count g.D.Disk.fuse_count c.seat.invariant c.hold-kept.ensures c.args.replica
    (c.requires.within c.seat.invariant.opened (sym (ap (λ (s : Seated g.row.D.Denot g.row.P.Denot). s.start) c.seat.view_is) ∙ c.seat.invariant.is)))
    (record c.hold-kept.result { logical = c.examine-examined.new.logical }) of.0 of.1 refl refl c.in_default.ensures.own c.in_default.ensures.free
    c.examine-examined.ensures.others c.args.cells c.examine-examined.result c.new-act.result c.examine-examined.ensures.tight c.examine-examined.ensures.told
    c.examine-examined.ensures.causes (c.new-act.ensures ∙ ap (λ m. act_of g.D.Disk.fault_count g.D.Disk.fuse_count c.args.tag m c.examine-examined.new.logical.replicas)
    c.step_did.ensures) m f failed))

pub returns-clause-held : goal.returns-clause-held
returns-clause-held g c =
    let of =
    (of_still g.D.Disk.fault_count g.D.Disk.fuse_count c.hold-kept.result (record c.hold-kept.result { logical = c.examine-examined.new.logical }) refl refl
    c.examine-examined.ensures.same c.examine-examined.ensures.«open» c.examine-examined.ensures.counts c.examine-examined.ensures.still) in
    let goes_on =
    step_goes g.D.Disk.Tells g.D.Disk.files g.P.Piece.Tells g.D.Disk.fault_count g.D.Disk.fuse_count c.args.tag c.hold-kept.result c.args.replica
    (within_it g.D.Disk.Tells g.D.Disk.files g.P.Piece.Tells g.D.Disk.fault_count g.D.Disk.fuse_count c.seat.invariant c.hold-kept.ensures c.args.replica
    (c.requires.within c.seat.invariant.opened (sym (ap (λ (s : Seated g.row.D.Denot g.row.P.Denot). s.start) c.seat.view_is) ∙ c.seat.invariant.is)))
    (record c.hold-kept.result { logical = c.examine-examined.new.logical }) of.0 of.1 refl refl c.in_default.ensures.own c.in_default.ensures.free
    c.examine-examined.ensures.others c.args.cells c.examine-examined.result c.new-act.result c.examine-examined.ensures.tight c.examine-examined.ensures.told
    (c.new-act.ensures ∙ ap (λ m. act_of g.D.Disk.fault_count g.D.Disk.fuse_count c.args.tag m c.examine-examined.new.logical.replicas) c.step_did.ensures) in
    subst (λ (s : Seated g.row.D.Denot g.row.P.Denot). UnfusedHolding c.args.tag s.sight (seat_of c.free-2.new.seat c.show_all.new.seat).sight) c.seat.view_is
    (made_unfused g.D.Disk.Tells g.D.Disk.files g.P.Piece.Tells g.D.Disk.fault_count g.D.Disk.fuse_count c.args.tag c.seat.inside.turn c.hold-kept.new.seat c.free-2.new.seat
    c.seat.inside.view c.show_all.new.seat c.hold-kept.result (record c.hold-kept.result { logical = c.examine-examined.new.logical }) (Some c.new-act.result)
    c.seat.invariant c.hold-kept.ensures c.show_all.ensures.seen.0 c.show_all.ensures.seen.1 goes_on c.free-2.ensures
    (one_unfused g.D.Disk.fault_count g.D.Disk.fuse_count c.args.tag _ _ c.new-act.result c.new-act.ensures (subst IsNoFuse (sym c.step_did.ensures) (step_unfused _ _))))

pub returns-in-Some-clause-refusals : goal.returns-in-Some-clause-refusals
returns-in-Some-clause-refusals g c =
    subst (λ (s : Seated g.row.D.Denot g.row.P.Denot). OfOpened s.start (λ settings v. RefusesRun settings v c.args.replica c.in-Some.refusal)) c.seat.view_is
    (of_opened g.D.Disk.Tells g.D.Disk.files g.P.Piece.Tells g.D.Disk.fault_count g.D.Disk.fuse_count c.seat.invariant c.hold-kept.ensures
    (λ settings v. RefusesRun settings v c.args.replica c.in-Some.refusal)
    c.in-Some.ensures.refusals)

pub returns-clause-refusals : goal.returns-clause-refusals
returns-clause-refusals g c =
    subst (λ (s : Seated g.row.D.Denot g.row.P.Denot). OfOpened s.start (λ settings v. IfSome c.examine-examined.result.refused (RefusesRun settings v c.args.replica))) c.seat.view_is
    (of_opened g.D.Disk.Tells g.D.Disk.files g.P.Piece.Tells g.D.Disk.fault_count g.D.Disk.fuse_count c.seat.invariant c.hold-kept.ensures
    (λ settings v. IfSome c.examine-examined.result.refused (RefusesRun settings v c.args.replica))
    (some_refused (refuses_run c.hold-kept.result.logical.settings c.hold-kept.result.logical.number g.D.Disk.fault_count c.hold-kept.result.logical.replicas
    c.examine-examined.new.logical.replicas c.args.replica) c.examine-examined.result.refused c.examine-examined.ensures.causes))
