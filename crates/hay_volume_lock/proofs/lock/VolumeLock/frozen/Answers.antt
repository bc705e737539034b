use Rattle.std.proofs.Common.{[], refl, sym, ap, subst, ◌∙◌}
use Rattle.std.specs.Prelude.{IfSome}
use Rattle.hay_meeting.specs.Acts.{nobody}
use Rattle.hay_turn.specs.Seats.{after_free}
use Rattle.hay_volume_lock.specs.Answers.{FrozenAnswer, IsTold, UnfusedHolding}
use Rattle.hay_volume_lock.specs.Seats.{IsSameSeat, Seated}
use Rattle.hay_volume_lock.proofs.Finding.{frozen_found}
use Rattle.hay_volume_lock.proofs.Holding.{quiet_free, quiet_held, quiet_same, quiet_seated, quiet_told, seat_of}
use Rattle.hay_logical.specs.Volumes.{IsMachineOf}
use Rattle.hay_volume_lock.specs.Refusing.{OfOpened}
use Rattle.hay_volume_lock.proofs.Refusing.{of_opened}
use Rattle.hay_volume_lock.proofs.lock.VolumeLock.frozen.Goals as goal

pub show_all-requires : goal.show_all-requires
show_all-requires g c =
    c.seat.invariant.front ∙ sym (c.hold-kept.ensures.stands_for c.seat.invariant.opened c.seat.invariant.is).front

pub free-requires-clause-may : goal.free-requires-clause-may
free-requires-clause-may g c = record {
  stands_for =
      quiet_free g.D.Disk.Tells g.D.Disk.files g.P.Piece.Tells g.D.Disk.fault_count g.D.Disk.fuse_count nobody c.seat.inside.turn c.hold-kept.new.seat
      (after_free c.hold-kept.new.seat []) c.seat.inside.view c.show_all.new.seat c.hold-kept.result
      c.seat.invariant c.hold-kept.ensures c.show_all.ensures.seen.0 c.show_all.ensures.seen.1 refl;
  mine = tt;
}

pub returns-clause-frozen : goal.returns-clause-frozen
returns-clause-frozen g c = λ tag.
    subst (λ (s : Seated g.row.D.Denot g.row.P.Denot). IsTold g.D.Disk.Tells g.D.Disk.files g.P.Piece.Tells g.D.Disk.fault_count g.D.Disk.fuse_count s.start
    (λ volume. FrozenAnswer volume tag c.frozen-machine.result s.sight (seat_of c.free.new.seat c.show_all.new.seat).sight)) c.seat.view_is
    (quiet_told g.D.Disk.Tells g.D.Disk.files g.P.Piece.Tells g.D.Disk.fault_count g.D.Disk.fuse_count tag c.seat.inside.turn c.hold-kept.new.seat c.free.new.seat
    c.seat.inside.view c.show_all.new.seat c.hold-kept.result c.seat.invariant c.hold-kept.ensures c.show_all.ensures.seen.0 c.show_all.ensures.seen.1 c.free.ensures
    (λ volume. FrozenAnswer volume tag c.frozen-machine.result)
    (frozen_found g.D.Disk.Tells g.D.Disk.files g.P.Piece.Tells g.D.Disk.fault_count g.D.Disk.fuse_count tag c.hold-kept.result c.frozen-machine.result c.frozen-machine.ensures.known))

pub returns-clause-held : goal.returns-clause-held
returns-clause-held g c = λ tag.
    subst (λ (s : Seated g.row.D.Denot g.row.P.Denot). UnfusedHolding tag s.sight (seat_of c.free.new.seat c.show_all.new.seat).sight) c.seat.view_is
    (quiet_held g.D.Disk.Tells g.D.Disk.files g.P.Piece.Tells g.D.Disk.fault_count g.D.Disk.fuse_count tag c.seat.inside.turn c.hold-kept.new.seat c.free.new.seat
    c.seat.inside.view c.show_all.new.seat c.hold-kept.result c.seat.invariant c.hold-kept.ensures c.show_all.ensures.seen.0 c.show_all.ensures.seen.1 c.free.ensures)

pub returns-clause-same : goal.returns-clause-same
returns-clause-same g c =
    subst (λ (s : Seated g.row.D.Denot g.row.P.Denot). IsSameSeat s (seat_of c.free.new.seat c.show_all.new.seat)) c.seat.view_is
    (quiet_same g.D.Disk.Tells g.D.Disk.files g.P.Piece.Tells g.D.Disk.fault_count g.D.Disk.fuse_count nobody c.seat.inside.turn c.hold-kept.new.seat c.free.new.seat
    c.seat.inside.view c.show_all.new.seat c.hold-kept.result c.seat.invariant c.hold-kept.ensures c.show_all.ensures.seen.0 c.show_all.ensures.seen.1 c.free.ensures
    (ap (λ (s : Seated g.row.D.Denot g.row.P.Denot). s.holds) c.seat.view_is ∙ c.requires.rests.rests))

pub invariant_of-seat : goal.invariant_of-seat
invariant_of-seat g c =
    quiet_seated g.D.Disk.Tells g.D.Disk.files g.P.Piece.Tells g.D.Disk.fault_count g.D.Disk.fuse_count nobody c.seat.inside.turn c.hold-kept.new.seat c.free.new.seat
    c.seat.inside.view c.show_all.new.seat c.hold-kept.result c.seat.invariant c.hold-kept.ensures c.show_all.ensures.seen.0 c.show_all.ensures.seen.1 c.free.ensures

pub returns-clause-on : goal.returns-clause-on
returns-clause-on g c =
    subst (λ (s : Seated g.row.D.Denot g.row.P.Denot). OfOpened s.start (λ settings v. IfSome c.frozen-machine.result (IsMachineOf settings v))) c.seat.view_is
    (of_opened g.D.Disk.Tells g.D.Disk.files g.P.Piece.Tells g.D.Disk.fault_count g.D.Disk.fuse_count c.seat.invariant c.hold-kept.ensures
    (λ settings v. IfSome c.frozen-machine.result (IsMachineOf settings v))
    c.frozen-machine.ensures.on)
