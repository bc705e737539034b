use Rattle.std.proofs.Common.{[], ◌≡◌, ◌<◌, ℕ, Bool, false, List, length, Option, Some, None, Ok, Err, refl, sym, ap, subst, ◌∙◌, arith}
use Rattle.std.proofs.lemmas.List.{length-map}
use Rattle.hay_core.specs.declared.entry.Entry.{Entry}
use Rattle.hay_core.specs.declared.entry.Entry.TheVariants as change
use Rattle.hay_compact.specs.Finishing.{IsSeen}
use Rattle.hay_front.specs.Fronts.{Holds as HoldsFact, IsBehind}
use Rattle.hay_logical.specs.declared.fault.LogicalFault.TheVariants.{NoMemory, ReadOnly}
use Rattle.hay_map.specs.Places.{place_in}
use Rattle.hay_map.specs.Rows.{row_at}
use Rattle.hay_map.specs.declared.place.Place.{Place}
use Rattle.hay_meeting.specs.declared.act.VolumeAct.{VolumeAct}
use Rattle.hay_meeting.specs.Acts.{nobody}
use Rattle.hay_needle.specs.declared.settings.Settings.{Settings}
use Rattle.hay_physical.specs.OpenCopies.{goal_of}
use Rattle.hay_turn.specs.Seats.{Holds, SeatState, after_free}
use Rattle.hay_volume_lock.specs.Acts.{act_of, counts}
use Rattle.hay_volume_lock.specs.declared.act.Made.TheVariants as made_is
use Rattle.hay_volume_lock.specs.declared.guarded.Guarded.{Guarded}
use Rattle.hay_volume_lock.specs.declared.guarded.Opened.{Opened}
use Rattle.hay_volume_lock.specs.Answers.{IsAlways, IsTold, UnfusedHolding}
use Rattle.hay_volume_lock.specs.Changes.{DiskFailed, freezes_by, pends_by}
use Rattle.hay_volume_lock.specs.Deletes.{DeleteAnswer, delete_made, noted, over_since}
use Rattle.hay_volume_lock.specs.Keeping.{IsKept}
use Rattle.hay_volume_lock.specs.Seats.{IsSeated, Seated}
use Rattle.hay_volume_lock.specs.Tries.{IsTried}
use Rattle.hay_volume_lock.proofs.Deleting.{holds_more, over_long}
use Rattle.hay_volume_lock.proofs.Erasing.{behind_itself, erase_may, erase_refused, erase_shown, erase_unshown, halts_refused, halts_wanted, later_more, made_act, met_frozen}
use Rattle.hay_volume_lock.proofs.Erasing.{seen_next, seen_set, sees_still, serves_now, settings_now, since, thawed_now, unsure_kept}
use Rattle.hay_volume_lock.proofs.Holding.{all_there, few_there, is_held, quiet_free, quiet_held, quiet_seated, quiet_told, seat_of, made_unfused}
use Rattle.hay_volume_lock.proofs.Published.{Fact}
use Rattle.hay_volume_lock.proofs.Publishing.{changed_always, changed_free, changed_held, changed_mine, changed_seated, changed_told, later_deed, later_same}
use Rattle.hay_volume_lock.proofs.Seeing.{Sees, row_long, see_shown, seen_may, sees_more, sees_nothing}
use Rattle.hay_volume_lock.proofs.Unfused.{IsNoFuse, delete_unfused, freezes_unfused, made_unfused_by, one_unfused, pends_unfused, tried_unfused}
use Rattle.hay_volume_lock.specs.declared.act.Made.{Made}
use Rattle.std.specs.Prelude.{IfSome}
use Rattle.hay_volume_lock.proofs.lock.VolumeLock.delete.Goals.{else-not-is_seen, then-not-is_seen+in-Ok+in-Ok-publish+in-Live-1, then-not-is_seen+in-Ok+in-Ok-publish+in-None-1}
use Rattle.hay_volume_lock.specs.Refusing.{OfOpened, RefusesDelete}
use Rattle.hay_volume_lock.proofs.Refusing.{refuses_delete, refuses_look, of_opened, same_so}
use Rattle.hay_volume_lock.proofs.lock.VolumeLock.delete.Goals as goal

pub show_all-requires : goal.show_all-requires
show_all-requires g c =
    c.seat.invariant.front ∙ sym (is_held g.D.Disk.Tells g.D.Disk.files g.P.Piece.Tells g.D.Disk.fault_count g.D.Disk.fuse_count c.seat.invariant c.hold-kept.ensures).front

pub free-requires-clause-may : goal.free-requires-clause-may
free-requires-clause-may g c = record {
  stands_for =
      quiet_free g.D.Disk.Tells g.D.Disk.files g.P.Piece.Tells g.D.Disk.fault_count g.D.Disk.fuse_count nobody c.seat.inside.turn c.hold-kept.new.seat
      (after_free c.hold-kept.new.seat []) c.seat.inside.view c.show_all.new.seat c.hold-kept.result
      c.seat.invariant c.hold-kept.ensures c.show_all.ensures.seen.0 c.show_all.ensures.seen.1 refl;
  mine = tt;
}

pub invariant_of-seat : goal.invariant_of-seat
invariant_of-seat g c =
    quiet_seated g.D.Disk.Tells g.D.Disk.files g.P.Piece.Tells g.D.Disk.fault_count g.D.Disk.fuse_count nobody c.seat.inside.turn c.hold-kept.new.seat c.free.new.seat
    c.seat.inside.view c.show_all.new.seat c.hold-kept.result
    c.seat.invariant c.hold-kept.ensures c.show_all.ensures.seen.0 c.show_all.ensures.seen.1 c.free.ensures

pub returns-in-Some-clause-deleted : goal.returns-in-Some-clause-deleted
returns-in-Some-clause-deleted g c =
    subst (λ (s : Seated g.row.D.Denot g.row.P.Denot). IsTold g.D.Disk.Tells g.D.Disk.files g.P.Piece.Tells g.D.Disk.fault_count g.D.Disk.fuse_count s.start
    (λ volume. DeleteAnswer volume c.args.tag c.args.pair (Err (ReadOnly c.in-Some.machine)) s.sight (seat_of c.free.new.seat c.show_all.new.seat).sight)) c.seat.view_is
    (quiet_told g.D.Disk.Tells g.D.Disk.files g.P.Piece.Tells g.D.Disk.fault_count g.D.Disk.fuse_count c.args.tag c.seat.inside.turn c.hold-kept.new.seat c.free.new.seat
    c.seat.inside.view c.show_all.new.seat c.hold-kept.result c.seat.invariant c.hold-kept.ensures c.show_all.ensures.seen.0 c.show_all.ensures.seen.1 c.free.ensures
    (λ volume. DeleteAnswer volume c.args.tag c.args.pair (Err (ReadOnly c.in-Some.machine)))
    (met_frozen g.D.Disk.Tells g.D.Disk.files g.P.Piece.Tells g.D.Disk.fault_count g.D.Disk.fuse_count c.args.tag c.hold-kept.result c.args.pair c.in-Some.machine
    (λ tells k s. sym (c.frozen.ensures.known tells k s) ∙ c.in-Some.is)))

pub returns-in-Some-clause-held : goal.returns-in-Some-clause-held
returns-in-Some-clause-held g c =
    subst (λ (s : Seated g.row.D.Denot g.row.P.Denot). UnfusedHolding c.args.tag s.sight (seat_of c.free.new.seat c.show_all.new.seat).sight) c.seat.view_is
    (quiet_held g.D.Disk.Tells g.D.Disk.files g.P.Piece.Tells g.D.Disk.fault_count g.D.Disk.fuse_count c.args.tag c.seat.inside.turn c.hold-kept.new.seat c.free.new.seat
    c.seat.inside.view c.show_all.new.seat c.hold-kept.result c.seat.invariant c.hold-kept.ensures c.show_all.ensures.seen.0 c.show_all.ensures.seen.1 c.free.ensures)

pub faults_of-before-requires-clause-all : goal.faults_of-before-requires-clause-all
faults_of-before-requires-clause-all g c = (all_there g.D.Disk.Tells g.D.Disk.files g.P.Piece.Tells g.D.Disk.fault_count g.D.Disk.fuse_count c.seat.invariant c.hold-kept.ensures)

pub faults_of-before-requires-clause-most : goal.faults_of-before-requires-clause-most
faults_of-before-requires-clause-most g c = (few_there g.D.Disk.Tells g.D.Disk.files g.P.Piece.Tells g.D.Disk.fault_count g.D.Disk.fuse_count c.seat.invariant c.hold-kept.ensures)

pub loop-replica-init : goal.loop-replica-init
loop-replica-init g c = record {
  sees =
      sees_nothing g.D.Disk.Tells g.D.Disk.files g.P.Piece.Tells g.D.Disk.fault_count g.D.Disk.fuse_count c.args.tag c.hold-kept.result
      (is_held g.D.Disk.Tells g.D.Disk.files g.P.Piece.Tells g.D.Disk.fault_count g.D.Disk.fuse_count c.seat.invariant c.hold-kept.ensures).is_open
      (is_held g.D.Disk.Tells g.D.Disk.files g.P.Piece.Tells g.D.Disk.fault_count g.D.Disk.fuse_count c.seat.invariant c.hold-kept.ensures).serves;
  turn = refl;
  view = c.show_all.ensures.seen.1;
  stood = refl;
  fact = c.show_all.ensures.fact;
  later = behind_itself c.hold-kept.result.front.shown;
  seen = λ j less. absurd (omega (arith, less));
}

pub is_seen-requires : goal.is_seen-requires
is_seen-requires g c =
    subst (λ (n : ℕ). c.loop-replica.replica < n) (sym c.look-looked.ensures.long) (let same = c.loop-replica.invariant.sees.of.settings in let test = c.loop-replica-test.true in
    subst (λ (s : Settings). c.loop-replica.replica < s.replicas) (sym (settings_now g.D.Disk.Tells g.D.Disk.files g.P.Piece.Tells g.D.Disk.fault_count g.D.Disk.fuse_count
    c.args.tag c.loop-replica.kept (since g.D.Disk.Tells g.D.Disk.files g.P.Piece.Tells g.D.Disk.fault_count g.D.Disk.fuse_count c.args.tag c.hold-kept.result c.loop-replica.kept
    c.seat.invariant.opened c.hold-kept.new.seat.seen (is_held g.D.Disk.Tells g.D.Disk.files g.P.Piece.Tells g.D.Disk.fault_count g.D.Disk.fuse_count c.seat.invariant
    c.hold-kept.ensures) (sym c.in_default.ensures.is) c.loop-replica.invariant.sees) ∙ same)) test)

pub see-requires-clause-within : goal.see-requires-clause-within
see-requires-clause-within g c =
    (let same = c.loop-replica.invariant.sees.of.settings in let test = c.loop-replica-test.true in subst (λ (s : Settings). c.loop-replica.replica < s.replicas)
    (sym (settings_now g.D.Disk.Tells g.D.Disk.files g.P.Piece.Tells g.D.Disk.fault_count g.D.Disk.fuse_count c.args.tag c.loop-replica.kept
    (since g.D.Disk.Tells g.D.Disk.files g.P.Piece.Tells g.D.Disk.fault_count g.D.Disk.fuse_count c.args.tag c.hold-kept.result c.loop-replica.kept c.seat.invariant.opened
    c.hold-kept.new.seat.seen (is_held g.D.Disk.Tells g.D.Disk.files g.P.Piece.Tells g.D.Disk.fault_count g.D.Disk.fuse_count c.seat.invariant c.hold-kept.ensures)
    (sym c.in_default.ensures.is) c.loop-replica.invariant.sees) ∙ same)) test)

pub act_made-made-requires-clause-all : goal.act_made-made-requires-clause-all
act_made-made-requires-clause-all g c =
    c.see.ensures.counts.count ∙ c.loop-replica.invariant.sees.of.count ∙ (all_there g.D.Disk.Tells g.D.Disk.files g.P.Piece.Tells g.D.Disk.fault_count g.D.Disk.fuse_count
    c.seat.invariant c.hold-kept.ensures)

pub act_made-made-requires-clause-most : goal.act_made-made-requires-clause-most
act_made-made-requires-clause-most g c = (few_there g.D.Disk.Tells g.D.Disk.files g.P.Piece.Tells g.D.Disk.fault_count g.D.Disk.fuse_count c.seat.invariant c.hold-kept.ensures)

pub free-requires-in-Err-clause-may : goal.free-requires-in-Err-clause-may
free-requires-in-Err-clause-may g c = record {
  stands_for =
      changed_free g.D.Disk.Tells g.D.Disk.files g.P.Piece.Tells g.D.Disk.fault_count g.D.Disk.fuse_count c.args.tag c.seat.inside.turn c.loop-replica.seat-inside.turn
      c.seat.inside.view c.show_all.new.seat c.loop-replica.seat-inside.view c.hold-kept.result (record c.loop-replica.kept { logical = c.see.new.self }) c.act_made-made.result
      c.seat.invariant (subst (λ (t : SeatState (Opened g.row.D.Denot g.row.P.Denot) VolumeAct).
      Holds (λ act. act.seat) (λ opened acts x. IsKept g.D.Disk.Tells g.D.Disk.files g.P.Piece.Tells g.D.Disk.fault_count g.D.Disk.fuse_count opened acts x) c.seat.inside.turn
      t c.hold-kept.result) (sym c.loop-replica.invariant.turn) c.hold-kept.ensures) c.show_all.ensures.seen.0 c.show_all.ensures.seen.1 c.loop-replica.invariant.view
      (halts_refused g.D.Disk.Tells g.D.Disk.files g.P.Piece.Tells g.D.Disk.fault_count g.D.Disk.fuse_count c.args.tag c.loop-replica.kept
      (record c.loop-replica.kept { logical = c.see.new.self }) c.args.pair (sees_still g.D.Disk.Tells g.D.Disk.files g.P.Piece.Tells g.D.Disk.fault_count g.D.Disk.fuse_count
      c.args.tag c.loop-replica.kept (record c.loop-replica.kept { logical = c.see.new.self }) refl refl refl refl
      (serves_now g.D.Disk.Tells g.D.Disk.files g.P.Piece.Tells g.D.Disk.fault_count g.D.Disk.fuse_count c.args.tag c.loop-replica.kept
      (since g.D.Disk.Tells g.D.Disk.files g.P.Piece.Tells g.D.Disk.fault_count g.D.Disk.fuse_count c.args.tag c.hold-kept.result c.loop-replica.kept c.seat.invariant.opened
      c.hold-kept.new.seat.seen (is_held g.D.Disk.Tells g.D.Disk.files g.P.Piece.Tells g.D.Disk.fault_count g.D.Disk.fuse_count c.seat.invariant c.hold-kept.ensures)
      (sym c.in_default.ensures.is) c.loop-replica.invariant.sees)) c.in-Err.ensures.same c.in-Err.ensures.open c.in-Err.ensures.counts
      (λ tells k s. (c.in-Err.ensures.stands tells k s, λ thawed j run has. c.in-Err.ensures.tight tells k s j)) c.in-Err.ensures.still.0 c.in-Err.ensures.kept) c.in-Err.fault
      (λ tells k s m at e. c.in-Err.ensures.undamaged tells k s m at (ap Err e)) c.in-Err.ensures.causes c.hold-kept.result (sym c.in_default.ensures.is)
      c.loop-replica.invariant.sees c.act_made-made.result (record {
        acts = λ m is. c.act_made-made.ensures.did m (c.sight_did.ensures ∙ is);
        tries = λ none. (subst (λ (l : List ℕ). IsTried g.D.Disk.fault_count g.D.Disk.fuse_count c.args.tag l
            (record c.loop-replica.kept { logical = c.see.new.self }).logical.replicas c.act_made-made.result) c.faults_of-before.ensures
            (c.act_made-made.ensures.tried (c.sight_did.ensures ∙ none)));
      })).leaves;
  mine =
      changed_mine g.D.Disk.Tells g.D.Disk.files g.P.Piece.Tells g.D.Disk.fault_count g.D.Disk.fuse_count c.args.tag c.seat.inside.turn c.loop-replica.seat-inside.turn
      c.seat.inside.view c.show_all.new.seat c.loop-replica.seat-inside.view c.hold-kept.result (record c.loop-replica.kept { logical = c.see.new.self }) c.act_made-made.result
      c.seat.invariant (subst (λ (t : SeatState (Opened g.row.D.Denot g.row.P.Denot) VolumeAct).
      Holds (λ act. act.seat) (λ opened acts x. IsKept g.D.Disk.Tells g.D.Disk.files g.P.Piece.Tells g.D.Disk.fault_count g.D.Disk.fuse_count opened acts x) c.seat.inside.turn
      t c.hold-kept.result) (sym c.loop-replica.invariant.turn) c.hold-kept.ensures) c.show_all.ensures.seen.0 c.show_all.ensures.seen.1 c.loop-replica.invariant.view
      (halts_refused g.D.Disk.Tells g.D.Disk.files g.P.Piece.Tells g.D.Disk.fault_count g.D.Disk.fuse_count c.args.tag c.loop-replica.kept
      (record c.loop-replica.kept { logical = c.see.new.self }) c.args.pair (sees_still g.D.Disk.Tells g.D.Disk.files g.P.Piece.Tells g.D.Disk.fault_count g.D.Disk.fuse_count
      c.args.tag c.loop-replica.kept (record c.loop-replica.kept { logical = c.see.new.self }) refl refl refl refl
      (serves_now g.D.Disk.Tells g.D.Disk.files g.P.Piece.Tells g.D.Disk.fault_count g.D.Disk.fuse_count c.args.tag c.loop-replica.kept
      (since g.D.Disk.Tells g.D.Disk.files g.P.Piece.Tells g.D.Disk.fault_count g.D.Disk.fuse_count c.args.tag c.hold-kept.result c.loop-replica.kept c.seat.invariant.opened
      c.hold-kept.new.seat.seen (is_held g.D.Disk.Tells g.D.Disk.files g.P.Piece.Tells g.D.Disk.fault_count g.D.Disk.fuse_count c.seat.invariant c.hold-kept.ensures)
      (sym c.in_default.ensures.is) c.loop-replica.invariant.sees)) c.in-Err.ensures.same c.in-Err.ensures.open c.in-Err.ensures.counts
      (λ tells k s. (c.in-Err.ensures.stands tells k s, λ thawed j run has. c.in-Err.ensures.tight tells k s j)) c.in-Err.ensures.still.0 c.in-Err.ensures.kept) c.in-Err.fault
      (λ tells k s m at e. c.in-Err.ensures.undamaged tells k s m at (ap Err e)) c.in-Err.ensures.causes c.hold-kept.result (sym c.in_default.ensures.is)
      c.loop-replica.invariant.sees c.act_made-made.result (record {
        acts = λ m is. c.act_made-made.ensures.did m (c.sight_did.ensures ∙ is);
        tries = λ none. (subst (λ (l : List ℕ). IsTried g.D.Disk.fault_count g.D.Disk.fuse_count c.args.tag l
            (record c.loop-replica.kept { logical = c.see.new.self }).logical.replicas c.act_made-made.result) c.faults_of-before.ensures
            (c.act_made-made.ensures.tried (c.sight_did.ensures ∙ none)));
      })).leaves (ap (λ (s : Seated g.row.D.Denot g.row.P.Denot). s.number) c.seat.view_is ∙ c.requires.may.lane);
}

pub invariant_of-seat-in-Err : goal.invariant_of-seat-in-Err
invariant_of-seat-in-Err g c =
    subst (λ (n : ℕ). IsSeated c.free-in-Err.new.seat n c.loop-replica.seat-inside.view) (sym c.loop-replica.invariant.stood)
    (changed_seated g.D.Disk.Tells g.D.Disk.files g.P.Piece.Tells g.D.Disk.fault_count g.D.Disk.fuse_count c.args.tag c.seat.inside.turn c.loop-replica.seat-inside.turn
    c.seat.inside.view c.show_all.new.seat c.loop-replica.seat-inside.view c.hold-kept.result (record c.loop-replica.kept { logical = c.see.new.self }) c.act_made-made.result
    c.seat.invariant (subst (λ (t : SeatState (Opened g.row.D.Denot g.row.P.Denot) VolumeAct).
    Holds (λ act. act.seat) (λ opened acts x. IsKept g.D.Disk.Tells g.D.Disk.files g.P.Piece.Tells g.D.Disk.fault_count g.D.Disk.fuse_count opened acts x) c.seat.inside.turn t
    c.hold-kept.result) (sym c.loop-replica.invariant.turn) c.hold-kept.ensures) c.show_all.ensures.seen.0 c.show_all.ensures.seen.1 c.loop-replica.invariant.view
    (halts_refused g.D.Disk.Tells g.D.Disk.files g.P.Piece.Tells g.D.Disk.fault_count g.D.Disk.fuse_count c.args.tag c.loop-replica.kept
    (record c.loop-replica.kept { logical = c.see.new.self }) c.args.pair (sees_still g.D.Disk.Tells g.D.Disk.files g.P.Piece.Tells g.D.Disk.fault_count g.D.Disk.fuse_count
    c.args.tag c.loop-replica.kept (record c.loop-replica.kept { logical = c.see.new.self }) refl refl refl refl
    (serves_now g.D.Disk.Tells g.D.Disk.files g.P.Piece.Tells g.D.Disk.fault_count g.D.Disk.fuse_count c.args.tag c.loop-replica.kept
    (since g.D.Disk.Tells g.D.Disk.files g.P.Piece.Tells g.D.Disk.fault_count g.D.Disk.fuse_count c.args.tag c.hold-kept.result c.loop-replica.kept c.seat.invariant.opened
    c.hold-kept.new.seat.seen (is_held g.D.Disk.Tells g.D.Disk.files g.P.Piece.Tells g.D.Disk.fault_count g.D.Disk.fuse_count c.seat.invariant c.hold-kept.ensures)
    (sym c.in_default.ensures.is) c.loop-replica.invariant.sees)) c.in-Err.ensures.same c.in-Err.ensures.open c.in-Err.ensures.counts
    (λ tells k s. (c.in-Err.ensures.stands tells k s, λ thawed j run has. c.in-Err.ensures.tight tells k s j)) c.in-Err.ensures.still.0 c.in-Err.ensures.kept) c.in-Err.fault
    (λ tells k s m at e. c.in-Err.ensures.undamaged tells k s m at (ap Err e)) c.in-Err.ensures.causes c.hold-kept.result (sym c.in_default.ensures.is)
    c.loop-replica.invariant.sees c.act_made-made.result (record {
      acts = λ m is. c.act_made-made.ensures.did m (c.sight_did.ensures ∙ is);
      tries = λ none. (subst (λ (l : List ℕ). IsTried g.D.Disk.fault_count g.D.Disk.fuse_count c.args.tag l
          (record c.loop-replica.kept { logical = c.see.new.self }).logical.replicas c.act_made-made.result) c.faults_of-before.ensures
          (c.act_made-made.ensures.tried (c.sight_did.ensures ∙ none)));
    })).leaves c.free-in-Err.new.seat c.free-in-Err.ensures
    (ap (λ (s : Seated g.row.D.Denot g.row.P.Denot). s.number) c.seat.view_is ∙ c.requires.may.lane)
    (later_same c.seat.inside.view c.loop-replica.kept.front.shown c.loop-replica.seat-inside.view
    (later_more c.seat.inside.view c.hold-kept.result.front.shown c.loop-replica.kept.front.shown c.show_all.ensures.seen.0 c.loop-replica.invariant.later) c.loop-replica.invariant.view))

pub returns-in-Err-clause-deleted : goal.returns-in-Err-clause-deleted
returns-in-Err-clause-deleted g c =
    subst (λ (s : Seated g.row.D.Denot g.row.P.Denot). IsTold g.D.Disk.Tells g.D.Disk.files g.P.Piece.Tells g.D.Disk.fault_count g.D.Disk.fuse_count s.start
    (λ volume. DeleteAnswer volume c.args.tag c.args.pair (Err c.in-Err.fault) s.sight (seat_of c.free-in-Err.new.seat c.loop-replica.seat-inside.view).sight)) c.seat.view_is
    (changed_told g.D.Disk.Tells g.D.Disk.files g.P.Piece.Tells g.D.Disk.fault_count g.D.Disk.fuse_count c.args.tag c.seat.inside.turn c.loop-replica.seat-inside.turn
    c.seat.inside.view c.show_all.new.seat c.loop-replica.seat-inside.view c.hold-kept.result (record c.loop-replica.kept { logical = c.see.new.self }) c.act_made-made.result
    c.seat.invariant (subst (λ (t : SeatState (Opened g.row.D.Denot g.row.P.Denot) VolumeAct).
    Holds (λ act. act.seat) (λ opened acts x. IsKept g.D.Disk.Tells g.D.Disk.files g.P.Piece.Tells g.D.Disk.fault_count g.D.Disk.fuse_count opened acts x) c.seat.inside.turn t
    c.hold-kept.result) (sym c.loop-replica.invariant.turn) c.hold-kept.ensures) c.show_all.ensures.seen.0 c.show_all.ensures.seen.1 c.loop-replica.invariant.view
    (halts_refused g.D.Disk.Tells g.D.Disk.files g.P.Piece.Tells g.D.Disk.fault_count g.D.Disk.fuse_count c.args.tag c.loop-replica.kept
    (record c.loop-replica.kept { logical = c.see.new.self }) c.args.pair (sees_still g.D.Disk.Tells g.D.Disk.files g.P.Piece.Tells g.D.Disk.fault_count g.D.Disk.fuse_count
    c.args.tag c.loop-replica.kept (record c.loop-replica.kept { logical = c.see.new.self }) refl refl refl refl
    (serves_now g.D.Disk.Tells g.D.Disk.files g.P.Piece.Tells g.D.Disk.fault_count g.D.Disk.fuse_count c.args.tag c.loop-replica.kept
    (since g.D.Disk.Tells g.D.Disk.files g.P.Piece.Tells g.D.Disk.fault_count g.D.Disk.fuse_count c.args.tag c.hold-kept.result c.loop-replica.kept c.seat.invariant.opened
    c.hold-kept.new.seat.seen (is_held g.D.Disk.Tells g.D.Disk.files g.P.Piece.Tells g.D.Disk.fault_count g.D.Disk.fuse_count c.seat.invariant c.hold-kept.ensures)
    (sym c.in_default.ensures.is) c.loop-replica.invariant.sees)) c.in-Err.ensures.same c.in-Err.ensures.open c.in-Err.ensures.counts
    (λ tells k s. (c.in-Err.ensures.stands tells k s, λ thawed j run has. c.in-Err.ensures.tight tells k s j)) c.in-Err.ensures.still.0 c.in-Err.ensures.kept) c.in-Err.fault
    (λ tells k s m at e. c.in-Err.ensures.undamaged tells k s m at (ap Err e)) c.in-Err.ensures.causes c.hold-kept.result (sym c.in_default.ensures.is)
    c.loop-replica.invariant.sees c.act_made-made.result (record {
      acts = λ m is. c.act_made-made.ensures.did m (c.sight_did.ensures ∙ is);
      tries = λ none. (subst (λ (l : List ℕ). IsTried g.D.Disk.fault_count g.D.Disk.fuse_count c.args.tag l
          (record c.loop-replica.kept { logical = c.see.new.self }).logical.replicas c.act_made-made.result) c.faults_of-before.ensures
          (c.act_made-made.ensures.tried (c.sight_did.ensures ∙ none)));
    })).leaves c.free-in-Err.new.seat c.free-in-Err.ensures
    (λ volume. DeleteAnswer volume c.args.tag c.args.pair (Err c.in-Err.fault)) (halts_refused g.D.Disk.Tells g.D.Disk.files g.P.Piece.Tells g.D.Disk.fault_count
    g.D.Disk.fuse_count c.args.tag c.loop-replica.kept (record c.loop-replica.kept { logical = c.see.new.self }) c.args.pair
    (sees_still g.D.Disk.Tells g.D.Disk.files g.P.Piece.Tells g.D.Disk.fault_count g.D.Disk.fuse_count c.args.tag c.loop-replica.kept
    (record c.loop-replica.kept { logical = c.see.new.self }) refl refl refl refl (serves_now g.D.Disk.Tells g.D.Disk.files g.P.Piece.Tells g.D.Disk.fault_count
    g.D.Disk.fuse_count c.args.tag c.loop-replica.kept (since g.D.Disk.Tells g.D.Disk.files g.P.Piece.Tells g.D.Disk.fault_count g.D.Disk.fuse_count c.args.tag
    c.hold-kept.result c.loop-replica.kept c.seat.invariant.opened c.hold-kept.new.seat.seen
    (is_held g.D.Disk.Tells g.D.Disk.files g.P.Piece.Tells g.D.Disk.fault_count g.D.Disk.fuse_count c.seat.invariant c.hold-kept.ensures) (sym c.in_default.ensures.is)
    c.loop-replica.invariant.sees)) c.in-Err.ensures.same c.in-Err.ensures.open c.in-Err.ensures.counts
    (λ tells k s. (c.in-Err.ensures.stands tells k s, λ thawed j run has. c.in-Err.ensures.tight tells k s j)) c.in-Err.ensures.still.0 c.in-Err.ensures.kept) c.in-Err.fault
    (λ tells k s m at e. c.in-Err.ensures.undamaged tells k s m at (ap Err e)) c.in-Err.ensures.causes c.hold-kept.result (sym c.in_default.ensures.is)
    c.loop-replica.invariant.sees c.act_made-made.result (record {
      acts = λ m is. c.act_made-made.ensures.did m (c.sight_did.ensures ∙ is);
      tries = λ none. (subst (λ (l : List ℕ). IsTried g.D.Disk.fault_count g.D.Disk.fuse_count c.args.tag l
          (record c.loop-replica.kept { logical = c.see.new.self }).logical.replicas c.act_made-made.result) c.faults_of-before.ensures
          (c.act_made-made.ensures.tried (c.sight_did.ensures ∙ none)));
    })).told)

pub returns-in-Err-clause-causes : goal.returns-in-Err-clause-causes
returns-in-Err-clause-causes g c = λ m f is.
    subst (λ (s : Seated g.row.D.Denot g.row.P.Denot). IsAlways g.D.Disk.fault_count g.D.Disk.fuse_count s.start
    (λ volume. DiskFailed volume c.args.tag m f s.sight (seat_of c.free-in-Err.new.seat c.loop-replica.seat-inside.view).sight)) c.seat.view_is
    (changed_always g.D.Disk.Tells g.D.Disk.files g.P.Piece.Tells g.D.Disk.fault_count g.D.Disk.fuse_count c.args.tag c.seat.inside.turn c.loop-replica.seat-inside.turn
    c.seat.inside.view c.show_all.new.seat c.loop-replica.seat-inside.view c.hold-kept.result (record c.loop-replica.kept { logical = c.see.new.self }) c.act_made-made.result
    c.seat.invariant (subst (λ (t : SeatState (Opened g.row.D.Denot g.row.P.Denot) VolumeAct).
    Holds (λ act. act.seat) (λ opened acts x. IsKept g.D.Disk.Tells g.D.Disk.files g.P.Piece.Tells g.D.Disk.fault_count g.D.Disk.fuse_count opened acts x) c.seat.inside.turn t
    c.hold-kept.result) (sym c.loop-replica.invariant.turn) c.hold-kept.ensures) c.show_all.ensures.seen.0 c.show_all.ensures.seen.1 c.loop-replica.invariant.view
    (halts_refused g.D.Disk.Tells g.D.Disk.files g.P.Piece.Tells g.D.Disk.fault_count g.D.Disk.fuse_count c.args.tag c.loop-replica.kept
    (record c.loop-replica.kept { logical = c.see.new.self }) c.args.pair (sees_still g.D.Disk.Tells g.D.Disk.files g.P.Piece.Tells g.D.Disk.fault_count g.D.Disk.fuse_count
    c.args.tag c.loop-replica.kept (record c.loop-replica.kept { logical = c.see.new.self }) refl refl refl refl
    (serves_now g.D.Disk.Tells g.D.Disk.files g.P.Piece.Tells g.D.Disk.fault_count g.D.Disk.fuse_count c.args.tag c.loop-replica.kept
    (since g.D.Disk.Tells g.D.Disk.files g.P.Piece.Tells g.D.Disk.fault_count g.D.Disk.fuse_count c.args.tag c.hold-kept.result c.loop-replica.kept c.seat.invariant.opened
    c.hold-kept.new.seat.seen (is_held g.D.Disk.Tells g.D.Disk.files g.P.Piece.Tells g.D.Disk.fault_count g.D.Disk.fuse_count c.seat.invariant c.hold-kept.ensures)
    (sym c.in_default.ensures.is) c.loop-replica.invariant.sees)) c.in-Err.ensures.same c.in-Err.ensures.open c.in-Err.ensures.counts
    (λ tells k s. (c.in-Err.ensures.stands tells k s, λ thawed j run has. c.in-Err.ensures.tight tells k s j)) c.in-Err.ensures.still.0 c.in-Err.ensures.kept) c.in-Err.fault
    (λ tells k s m at e. c.in-Err.ensures.undamaged tells k s m at (ap Err e)) c.in-Err.ensures.causes c.hold-kept.result (sym c.in_default.ensures.is)
    c.loop-replica.invariant.sees c.act_made-made.result (record {
      acts = λ m is. c.act_made-made.ensures.did m (c.sight_did.ensures ∙ is);
      tries = λ none. (subst (λ (l : List ℕ). IsTried g.D.Disk.fault_count g.D.Disk.fuse_count c.args.tag l
          (record c.loop-replica.kept { logical = c.see.new.self }).logical.replicas c.act_made-made.result) c.faults_of-before.ensures
          (c.act_made-made.ensures.tried (c.sight_did.ensures ∙ none)));
    })).leaves c.free-in-Err.new.seat c.free-in-Err.ensures (λ volume. DiskFailed volume c.args.tag m f)
    ((halts_refused g.D.Disk.Tells g.D.Disk.files g.P.Piece.Tells g.D.Disk.fault_count g.D.Disk.fuse_count c.args.tag c.loop-replica.kept
    (record c.loop-replica.kept { logical = c.see.new.self }) c.args.pair (sees_still g.D.Disk.Tells g.D.Disk.files g.P.Piece.Tells g.D.Disk.fault_count g.D.Disk.fuse_count
    c.args.tag c.loop-replica.kept (record c.loop-replica.kept { logical = c.see.new.self }) refl refl refl refl
    (serves_now g.D.Disk.Tells g.D.Disk.files g.P.Piece.Tells g.D.Disk.fault_count g.D.Disk.fuse_count c.args.tag c.loop-replica.kept
    (since g.D.Disk.Tells g.D.Disk.files g.P.Piece.Tells g.D.Disk.fault_count g.D.Disk.fuse_count c.args.tag c.hold-kept.result c.loop-replica.kept c.seat.invariant.opened
    c.hold-kept.new.seat.seen (is_held g.D.Disk.Tells g.D.Disk.files g.P.Piece.Tells g.D.Disk.fault_count g.D.Disk.fuse_count c.seat.invariant c.hold-kept.ensures)
    (sym c.in_default.ensures.is) c.loop-replica.invariant.sees)) c.in-Err.ensures.same c.in-Err.ensures.open c.in-Err.ensures.counts
    (λ tells k s. (c.in-Err.ensures.stands tells k s, λ thawed j run has. c.in-Err.ensures.tight tells k s j)) c.in-Err.ensures.still.0 c.in-Err.ensures.kept) c.in-Err.fault
    (λ tells k s m at e. c.in-Err.ensures.undamaged tells k s m at (ap Err e)) c.in-Err.ensures.causes c.hold-kept.result (sym c.in_default.ensures.is)
    c.loop-replica.invariant.sees c.act_made-made.result (record {
      acts = λ m is. c.act_made-made.ensures.did m (c.sight_did.ensures ∙ is);
      tries = λ none. (subst (λ (l : List ℕ). IsTried g.D.Disk.fault_count g.D.Disk.fuse_count c.args.tag l
          (record c.loop-replica.kept { logical = c.see.new.self }).logical.replicas c.act_made-made.result) c.faults_of-before.ensures
          (c.act_made-made.ensures.tried (c.sight_did.ensures ∙ none)));
    })).always m f is))

pub returns-in-Err-clause-held : goal.returns-in-Err-clause-held
returns-in-Err-clause-held g c =
    subst (λ (s : Seated g.row.D.Denot g.row.P.Denot). UnfusedHolding c.args.tag s.sight (seat_of c.free-in-Err.new.seat c.loop-replica.seat-inside.view).sight) c.seat.view_is
    (changed_held g.D.Disk.Tells g.D.Disk.files g.P.Piece.Tells g.D.Disk.fault_count g.D.Disk.fuse_count c.args.tag c.seat.inside.turn c.loop-replica.seat-inside.turn
    c.seat.inside.view c.show_all.new.seat c.loop-replica.seat-inside.view c.hold-kept.result (record c.loop-replica.kept { logical = c.see.new.self }) c.act_made-made.result
    c.seat.invariant (subst (λ (t : SeatState (Opened g.row.D.Denot g.row.P.Denot) VolumeAct).
    Holds (λ act. act.seat) (λ opened acts x. IsKept g.D.Disk.Tells g.D.Disk.files g.P.Piece.Tells g.D.Disk.fault_count g.D.Disk.fuse_count opened acts x) c.seat.inside.turn t
    c.hold-kept.result) (sym c.loop-replica.invariant.turn) c.hold-kept.ensures) c.show_all.ensures.seen.0 c.show_all.ensures.seen.1 c.loop-replica.invariant.view
    (halts_refused g.D.Disk.Tells g.D.Disk.files g.P.Piece.Tells g.D.Disk.fault_count g.D.Disk.fuse_count c.args.tag c.loop-replica.kept
    (record c.loop-replica.kept { logical = c.see.new.self }) c.args.pair (sees_still g.D.Disk.Tells g.D.Disk.files g.P.Piece.Tells g.D.Disk.fault_count g.D.Disk.fuse_count
    c.args.tag c.loop-replica.kept (record c.loop-replica.kept { logical = c.see.new.self }) refl refl refl refl
    (serves_now g.D.Disk.Tells g.D.Disk.files g.P.Piece.Tells g.D.Disk.fault_count g.D.Disk.fuse_count c.args.tag c.loop-replica.kept
    (since g.D.Disk.Tells g.D.Disk.files g.P.Piece.Tells g.D.Disk.fault_count g.D.Disk.fuse_count c.args.tag c.hold-kept.result c.loop-replica.kept c.seat.invariant.opened
    c.hold-kept.new.seat.seen (is_held g.D.Disk.Tells g.D.Disk.files g.P.Piece.Tells g.D.Disk.fault_count g.D.Disk.fuse_count c.seat.invariant c.hold-kept.ensures)
    (sym c.in_default.ensures.is) c.loop-replica.invariant.sees)) c.in-Err.ensures.same c.in-Err.ensures.open c.in-Err.ensures.counts
    (λ tells k s. (c.in-Err.ensures.stands tells k s, λ thawed j run has. c.in-Err.ensures.tight tells k s j)) c.in-Err.ensures.still.0 c.in-Err.ensures.kept) c.in-Err.fault
    (λ tells k s m at e. c.in-Err.ensures.undamaged tells k s m at (ap Err e)) c.in-Err.ensures.causes c.hold-kept.result (sym c.in_default.ensures.is)
    c.loop-replica.invariant.sees c.act_made-made.result (record {
      acts = λ m is. c.act_made-made.ensures.did m (c.sight_did.ensures ∙ is);
      tries = λ none. (subst (λ (l : List ℕ). IsTried g.D.Disk.fault_count g.D.Disk.fuse_count c.args.tag l
          (record c.loop-replica.kept { logical = c.see.new.self }).logical.replicas c.act_made-made.result) c.faults_of-before.ensures
          (c.act_made-made.ensures.tried (c.sight_did.ensures ∙ none)));
    })).leaves c.free-in-Err.new.seat c.free-in-Err.ensures
    (made_unfused_by g.D.Disk.fault_count g.D.Disk.fuse_count c.args.tag _ _ c.sight_did.result c.act_made-made.result
    (subst (λ (o : Option Made). IfSome o IsNoFuse) (sym c.sight_did.ensures) (tried_unfused _)) c.act_made-made.ensures.did c.act_made-made.ensures.tried))

pub sight_of-op-requires : goal.sight_of-op-requires
sight_of-op-requires g c =
    subst (λ (n : ℕ). c.loop-replica.replica < n) (sym (ap length c.in-Ok.ensures.answered.1
    ∙ row_long c.args.pair c.loop-replica.replica (place_in c.in-Ok.seen.row c.loop-replica.replica) c.loop-replica.kept.logical.rows c.see.new.self.rows c.in-Ok.ensures.row
    ∙ ap length (sym c.look-looked.ensures.row) ∙ c.look-looked.ensures.long)) (let same = c.loop-replica.invariant.sees.of.settings in let test = c.loop-replica-test.true in subst
    (λ (s : Settings). c.loop-replica.replica < s.replicas) (sym (settings_now g.D.Disk.Tells g.D.Disk.files g.P.Piece.Tells g.D.Disk.fault_count g.D.Disk.fuse_count c.args.tag
    c.loop-replica.kept (since g.D.Disk.Tells g.D.Disk.files g.P.Piece.Tells g.D.Disk.fault_count g.D.Disk.fuse_count c.args.tag c.hold-kept.result c.loop-replica.kept
    c.seat.invariant.opened c.hold-kept.new.seat.seen (is_held g.D.Disk.Tells g.D.Disk.files g.P.Piece.Tells g.D.Disk.fault_count g.D.Disk.fuse_count c.seat.invariant
    c.hold-kept.ensures) (sym c.in_default.ensures.is) c.loop-replica.invariant.sees) ∙ same)) test)

pub publish-requires-clause-open : goal.publish-requires-clause-open
publish-requires-clause-open g c =
    (serves_now g.D.Disk.Tells g.D.Disk.files g.P.Piece.Tells g.D.Disk.fault_count g.D.Disk.fuse_count c.args.tag c.loop-replica.kept
    (since g.D.Disk.Tells g.D.Disk.files g.P.Piece.Tells g.D.Disk.fault_count g.D.Disk.fuse_count c.args.tag c.hold-kept.result c.loop-replica.kept c.seat.invariant.opened
    c.hold-kept.new.seat.seen (is_held g.D.Disk.Tells g.D.Disk.files g.P.Piece.Tells g.D.Disk.fault_count g.D.Disk.fuse_count c.seat.invariant c.hold-kept.ensures)
    (sym c.in_default.ensures.is) c.loop-replica.invariant.sees))

pub publish-requires-clause-fact : goal.publish-requires-clause-fact
publish-requires-clause-fact g c =
    seen_may g.D.Disk.Tells g.D.Disk.files g.P.Piece.Tells g.D.Disk.fault_count g.D.Disk.fuse_count c.args.tag c.sight_of-op.result c.seat.invariant.opened
    c.hold-kept.new.seat.seen c.hold-kept.result c.loop-replica.kept (is_held g.D.Disk.Tells g.D.Disk.files g.P.Piece.Tells g.D.Disk.fault_count g.D.Disk.fuse_count
    c.seat.invariant c.hold-kept.ensures) c.loop-replica.invariant.sees c.loop-replica.invariant.fact c.args.pair c.loop-replica.replica
    (place_in c.in-Ok.seen.row c.loop-replica.replica) c.sight_of-op.ensures
    (subst (λ (s : Settings). c.loop-replica.replica < s.replicas) c.loop-replica.invariant.sees.of.same.settings
    (let same = c.loop-replica.invariant.sees.of.settings in let test = c.loop-replica-test.true in subst (λ (s : Settings). c.loop-replica.replica < s.replicas)
    (sym (settings_now g.D.Disk.Tells g.D.Disk.files g.P.Piece.Tells g.D.Disk.fault_count g.D.Disk.fuse_count c.args.tag c.loop-replica.kept
    (since g.D.Disk.Tells g.D.Disk.files g.P.Piece.Tells g.D.Disk.fault_count g.D.Disk.fuse_count c.args.tag c.hold-kept.result c.loop-replica.kept c.seat.invariant.opened
    c.hold-kept.new.seat.seen (is_held g.D.Disk.Tells g.D.Disk.files g.P.Piece.Tells g.D.Disk.fault_count g.D.Disk.fuse_count c.seat.invariant c.hold-kept.ensures)
    (sym c.in_default.ensures.is) c.loop-replica.invariant.sees) ∙ same)) test)) (λ tells k s. (c.in-Ok.ensures.known tells k s).1)

pub act_made-made-requires-in_default-publish-clause-all : goal.act_made-made-requires-in_default-publish-clause-all
act_made-made-requires-in_default-publish-clause-all g c =
    c.freeze.ensures.counts.count ∙ c.see.ensures.counts.count ∙ c.loop-replica.invariant.sees.of.count
    ∙ (all_there g.D.Disk.Tells g.D.Disk.files g.P.Piece.Tells g.D.Disk.fault_count g.D.Disk.fuse_count c.seat.invariant c.hold-kept.ensures)

pub act_made-made-requires-in_default-publish-clause-most : goal.act_made-made-requires-in_default-publish-clause-most
act_made-made-requires-in_default-publish-clause-most g c = (few_there g.D.Disk.Tells g.D.Disk.files g.P.Piece.Tells g.D.Disk.fault_count g.D.Disk.fuse_count c.seat.invariant c.hold-kept.ensures)

pub free-requires-in_default-publish-clause-may : goal.free-requires-in_default-publish-clause-may
free-requires-in_default-publish-clause-may g c = record {
  stands_for =
      changed_free g.D.Disk.Tells g.D.Disk.files g.P.Piece.Tells g.D.Disk.fault_count g.D.Disk.fuse_count c.args.tag c.seat.inside.turn c.loop-replica.seat-inside.turn
      c.seat.inside.view c.show_all.new.seat c.publish.new.seat c.hold-kept.result (record c.loop-replica.kept { logical = c.freeze.new.self; front = c.publish.new.self })
      c.act_made-made-in_default-publish.result
      c.seat.invariant (subst (λ (t : SeatState (Opened g.row.D.Denot g.row.P.Denot) VolumeAct).
      Holds (λ act. act.seat) (λ opened acts x. IsKept g.D.Disk.Tells g.D.Disk.files g.P.Piece.Tells g.D.Disk.fault_count g.D.Disk.fuse_count opened acts x) c.seat.inside.turn
      t c.hold-kept.result) (sym c.loop-replica.invariant.turn) c.hold-kept.ensures) c.show_all.ensures.seen.0 c.show_all.ensures.seen.1 c.in_default-publish.ensures.seen.1
      (halts_wanted g.D.Disk.Tells g.D.Disk.files g.P.Piece.Tells g.D.Disk.fault_count g.D.Disk.fuse_count c.args.tag c.loop-replica.kept
      (record c.loop-replica.kept { logical = c.freeze.new.self; front = c.publish.new.self }) c.see.new.self c.args.pair refl refl refl
      (ap (λ f. f.shown) c.in_default-publish.ensures.refused) (ap (λ f. f.log) c.in_default-publish.ensures.refused) c.in-Ok.ensures.same c.in-Ok.ensures.open
      c.in-Ok.ensures.counts c.in-Ok.ensures.stands
      c.freeze.ensures.same c.freeze.ensures.open c.freeze.ensures.counts c.freeze.ensures.frozen
      (ap (λ v. v.frozen) (c.freeze.ensures.still (c.in-Ok.ensures.still.0 ∙ (thawed_now g.D.Disk.Tells g.D.Disk.files g.P.Piece.Tells g.D.Disk.fault_count g.D.Disk.fuse_count
      c.args.tag c.loop-replica.kept (since g.D.Disk.Tells g.D.Disk.files g.P.Piece.Tells g.D.Disk.fault_count g.D.Disk.fuse_count c.args.tag c.hold-kept.result
      c.loop-replica.kept c.seat.invariant.opened c.hold-kept.new.seat.seen (is_held g.D.Disk.Tells g.D.Disk.files g.P.Piece.Tells g.D.Disk.fault_count g.D.Disk.fuse_count
      c.seat.invariant c.hold-kept.ensures) (sym c.in_default.ensures.is) c.loop-replica.invariant.sees))))) c.hold-kept.result (sym c.in_default.ensures.is)
      c.loop-replica.invariant.sees c.act_made-made-in_default-publish.result (record {
        acts = λ m is.
            c.act_made-made-in_default-publish.ensures.did m ((c.freeze_did-did.ensures ∙ ap (λ (f : Option ℕ). freezes_by None f) c.frozen-in_default-publish.ensures.is) ∙ is);
        tries = λ none. (subst (λ (l : List ℕ). IsTried g.D.Disk.fault_count g.D.Disk.fuse_count c.args.tag l
            (record c.loop-replica.kept { logical = c.freeze.new.self; front = c.publish.new.self }).logical.replicas c.act_made-made-in_default-publish.result)
            c.faults_of-before.ensures (c.act_made-made-in_default-publish.ensures.tried ((c.freeze_did-did.ensures
            ∙ ap (λ (f : Option ℕ). freezes_by None f) c.frozen-in_default-publish.ensures.is) ∙ none)));
      })).leaves;
  mine =
      changed_mine g.D.Disk.Tells g.D.Disk.files g.P.Piece.Tells g.D.Disk.fault_count g.D.Disk.fuse_count c.args.tag c.seat.inside.turn c.loop-replica.seat-inside.turn
      c.seat.inside.view c.show_all.new.seat c.publish.new.seat c.hold-kept.result (record c.loop-replica.kept { logical = c.freeze.new.self; front = c.publish.new.self })
      c.act_made-made-in_default-publish.result
      c.seat.invariant (subst (λ (t : SeatState (Opened g.row.D.Denot g.row.P.Denot) VolumeAct).
      Holds (λ act. act.seat) (λ opened acts x. IsKept g.D.Disk.Tells g.D.Disk.files g.P.Piece.Tells g.D.Disk.fault_count g.D.Disk.fuse_count opened acts x) c.seat.inside.turn
      t c.hold-kept.result) (sym c.loop-replica.invariant.turn) c.hold-kept.ensures) c.show_all.ensures.seen.0 c.show_all.ensures.seen.1 c.in_default-publish.ensures.seen.1
      (halts_wanted g.D.Disk.Tells g.D.Disk.files g.P.Piece.Tells g.D.Disk.fault_count g.D.Disk.fuse_count c.args.tag c.loop-replica.kept
      (record c.loop-replica.kept { logical = c.freeze.new.self; front = c.publish.new.self }) c.see.new.self c.args.pair refl refl refl
      (ap (λ f. f.shown) c.in_default-publish.ensures.refused) (ap (λ f. f.log) c.in_default-publish.ensures.refused) c.in-Ok.ensures.same c.in-Ok.ensures.open
      c.in-Ok.ensures.counts c.in-Ok.ensures.stands
      c.freeze.ensures.same c.freeze.ensures.open c.freeze.ensures.counts c.freeze.ensures.frozen
      (ap (λ v. v.frozen) (c.freeze.ensures.still (c.in-Ok.ensures.still.0 ∙ (thawed_now g.D.Disk.Tells g.D.Disk.files g.P.Piece.Tells g.D.Disk.fault_count g.D.Disk.fuse_count
      c.args.tag c.loop-replica.kept (since g.D.Disk.Tells g.D.Disk.files g.P.Piece.Tells g.D.Disk.fault_count g.D.Disk.fuse_count c.args.tag c.hold-kept.result
      c.loop-replica.kept c.seat.invariant.opened c.hold-kept.new.seat.seen (is_held g.D.Disk.Tells g.D.Disk.files g.P.Piece.Tells g.D.Disk.fault_count g.D.Disk.fuse_count
      c.seat.invariant c.hold-kept.ensures) (sym c.in_default.ensures.is) c.loop-replica.invariant.sees))))) c.hold-kept.result (sym c.in_default.ensures.is)
      c.loop-replica.invariant.sees c.act_made-made-in_default-publish.result (record {
        acts = λ m is.
            c.act_made-made-in_default-publish.ensures.did m ((c.freeze_did-did.ensures ∙ ap (λ (f : Option ℕ). freezes_by None f) c.frozen-in_default-publish.ensures.is) ∙ is);
        tries = λ none. (subst (λ (l : List ℕ). IsTried g.D.Disk.fault_count g.D.Disk.fuse_count c.args.tag l
            (record c.loop-replica.kept { logical = c.freeze.new.self; front = c.publish.new.self }).logical.replicas c.act_made-made-in_default-publish.result)
            c.faults_of-before.ensures (c.act_made-made-in_default-publish.ensures.tried ((c.freeze_did-did.ensures
            ∙ ap (λ (f : Option ℕ). freezes_by None f) c.frozen-in_default-publish.ensures.is) ∙ none)));
      })).leaves
      (ap (λ (s : Seated g.row.D.Denot g.row.P.Denot). s.number) c.seat.view_is ∙ c.requires.may.lane);
}

pub invariant_of-seat-in_default-publish : goal.invariant_of-seat-in_default-publish
invariant_of-seat-in_default-publish g c =
    subst (λ (n : ℕ). IsSeated c.free-in_default-publish.new.seat n c.publish.new.seat) (sym c.loop-replica.invariant.stood)
    (changed_seated g.D.Disk.Tells g.D.Disk.files g.P.Piece.Tells g.D.Disk.fault_count g.D.Disk.fuse_count c.args.tag c.seat.inside.turn c.loop-replica.seat-inside.turn
    c.seat.inside.view c.show_all.new.seat c.publish.new.seat c.hold-kept.result (record c.loop-replica.kept { logical = c.freeze.new.self; front = c.publish.new.self })
    c.act_made-made-in_default-publish.result
    c.seat.invariant (subst (λ (t : SeatState (Opened g.row.D.Denot g.row.P.Denot) VolumeAct).
    Holds (λ act. act.seat) (λ opened acts x. IsKept g.D.Disk.Tells g.D.Disk.files g.P.Piece.Tells g.D.Disk.fault_count g.D.Disk.fuse_count opened acts x) c.seat.inside.turn t
    c.hold-kept.result) (sym c.loop-replica.invariant.turn) c.hold-kept.ensures) c.show_all.ensures.seen.0 c.show_all.ensures.seen.1 c.in_default-publish.ensures.seen.1
    (halts_wanted g.D.Disk.Tells g.D.Disk.files g.P.Piece.Tells g.D.Disk.fault_count g.D.Disk.fuse_count c.args.tag c.loop-replica.kept
    (record c.loop-replica.kept { logical = c.freeze.new.self; front = c.publish.new.self }) c.see.new.self c.args.pair refl refl refl
    (ap (λ f. f.shown) c.in_default-publish.ensures.refused) (ap (λ f. f.log) c.in_default-publish.ensures.refused) c.in-Ok.ensures.same c.in-Ok.ensures.open
    c.in-Ok.ensures.counts c.in-Ok.ensures.stands
    c.freeze.ensures.same c.freeze.ensures.open c.freeze.ensures.counts c.freeze.ensures.frozen
    (ap (λ v. v.frozen) (c.freeze.ensures.still (c.in-Ok.ensures.still.0 ∙ (thawed_now g.D.Disk.Tells g.D.Disk.files g.P.Piece.Tells g.D.Disk.fault_count g.D.Disk.fuse_count
    c.args.tag c.loop-replica.kept (since g.D.Disk.Tells g.D.Disk.files g.P.Piece.Tells g.D.Disk.fault_count g.D.Disk.fuse_count c.args.tag c.hold-kept.result
    c.loop-replica.kept c.seat.invariant.opened c.hold-kept.new.seat.seen (is_held g.D.Disk.Tells g.D.Disk.files g.P.Piece.Tells g.D.Disk.fault_count g.D.Disk.fuse_count
    c.seat.invariant c.hold-kept.ensures) (sym c.in_default.ensures.is) c.loop-replica.invariant.sees))))) c.hold-kept.result (sym c.in_default.ensures.is)
    c.loop-replica.invariant.sees c.act_made-made-in_default-publish.result (record {
      acts = λ m is.
          c.act_made-made-in_default-publish.ensures.did m ((c.freeze_did-did.ensures ∙ ap (λ (f : Option ℕ). freezes_by None f) c.frozen-in_default-publish.ensures.is) ∙ is);
      tries = λ none. (subst (λ (l : List ℕ). IsTried g.D.Disk.fault_count g.D.Disk.fuse_count c.args.tag l
          (record c.loop-replica.kept { logical = c.freeze.new.self; front = c.publish.new.self }).logical.replicas c.act_made-made-in_default-publish.result)
          c.faults_of-before.ensures (c.act_made-made-in_default-publish.ensures.tried ((c.freeze_did-did.ensures
          ∙ ap (λ (f : Option ℕ). freezes_by None f) c.frozen-in_default-publish.ensures.is) ∙ none)));
    })).leaves c.free-in_default-publish.new.seat c.free-in_default-publish.ensures
    (ap (λ (s : Seated g.row.D.Denot g.row.P.Denot). s.number) c.seat.view_is ∙ c.requires.may.lane)
    (later_same c.seat.inside.view c.loop-replica.kept.front.shown c.publish.new.seat
    (later_more c.seat.inside.view c.hold-kept.result.front.shown c.loop-replica.kept.front.shown c.show_all.ensures.seen.0 c.loop-replica.invariant.later)
    (c.in_default-publish.ensures.seen.1 ∙ ap (λ f. f.shown) c.in_default-publish.ensures.refused)))

pub returns-in_default-publish-clause-deleted : goal.returns-in_default-publish-clause-deleted
returns-in_default-publish-clause-deleted g c =
    subst (λ (s : Seated g.row.D.Denot g.row.P.Denot). IsTold g.D.Disk.Tells g.D.Disk.files g.P.Piece.Tells g.D.Disk.fault_count g.D.Disk.fuse_count s.start
    (λ volume. DeleteAnswer volume c.args.tag c.args.pair (Err NoMemory) s.sight (seat_of c.free-in_default-publish.new.seat c.publish.new.seat).sight)) c.seat.view_is
    (changed_told g.D.Disk.Tells g.D.Disk.files g.P.Piece.Tells g.D.Disk.fault_count g.D.Disk.fuse_count c.args.tag c.seat.inside.turn c.loop-replica.seat-inside.turn
    c.seat.inside.view c.show_all.new.seat c.publish.new.seat c.hold-kept.result (record c.loop-replica.kept { logical = c.freeze.new.self; front = c.publish.new.self })
    c.act_made-made-in_default-publish.result
    c.seat.invariant (subst (λ (t : SeatState (Opened g.row.D.Denot g.row.P.Denot) VolumeAct).
    Holds (λ act. act.seat) (λ opened acts x. IsKept g.D.Disk.Tells g.D.Disk.files g.P.Piece.Tells g.D.Disk.fault_count g.D.Disk.fuse_count opened acts x) c.seat.inside.turn t
    c.hold-kept.result) (sym c.loop-replica.invariant.turn) c.hold-kept.ensures) c.show_all.ensures.seen.0 c.show_all.ensures.seen.1 c.in_default-publish.ensures.seen.1
    (halts_wanted g.D.Disk.Tells g.D.Disk.files g.P.Piece.Tells g.D.Disk.fault_count g.D.Disk.fuse_count c.args.tag c.loop-replica.kept
    (record c.loop-replica.kept { logical = c.freeze.new.self; front = c.publish.new.self }) c.see.new.self c.args.pair refl refl refl
    (ap (λ f. f.shown) c.in_default-publish.ensures.refused) (ap (λ f. f.log) c.in_default-publish.ensures.refused) c.in-Ok.ensures.same c.in-Ok.ensures.open
    c.in-Ok.ensures.counts c.in-Ok.ensures.stands
    c.freeze.ensures.same c.freeze.ensures.open c.freeze.ensures.counts c.freeze.ensures.frozen
    (ap (λ v. v.frozen) (c.freeze.ensures.still (c.in-Ok.ensures.still.0 ∙ (thawed_now g.D.Disk.Tells g.D.Disk.files g.P.Piece.Tells g.D.Disk.fault_count g.D.Disk.fuse_count
    c.args.tag c.loop-replica.kept (since g.D.Disk.Tells g.D.Disk.files g.P.Piece.Tells g.D.Disk.fault_count g.D.Disk.fuse_count c.args.tag c.hold-kept.result
    c.loop-replica.kept c.seat.invariant.opened c.hold-kept.new.seat.seen (is_held g.D.Disk.Tells g.D.Disk.files g.P.Piece.Tells g.D.Disk.fault_count g.D.Disk.fuse_count
    c.seat.invariant c.hold-kept.ensures) (sym c.in_default.ensures.is) c.loop-replica.invariant.sees))))) c.hold-kept.result (sym c.in_default.ensures.is)
    c.loop-replica.invariant.sees c.act_made-made-in_default-publish.result (record {
      acts = λ m is.
          c.act_made-made-in_default-publish.ensures.did m ((c.freeze_did-did.ensures ∙ ap (λ (f : Option ℕ). freezes_by None f) c.frozen-in_default-publish.ensures.is) ∙ is);
      tries = λ none. (subst (λ (l : List ℕ). IsTried g.D.Disk.fault_count g.D.Disk.fuse_count c.args.tag l
          (record c.loop-replica.kept { logical = c.freeze.new.self; front = c.publish.new.self }).logical.replicas c.act_made-made-in_default-publish.result)
          c.faults_of-before.ensures (c.act_made-made-in_default-publish.ensures.tried ((c.freeze_did-did.ensures
          ∙ ap (λ (f : Option ℕ). freezes_by None f) c.frozen-in_default-publish.ensures.is) ∙ none)));
    })).leaves c.free-in_default-publish.new.seat c.free-in_default-publish.ensures
    (λ volume. DeleteAnswer volume c.args.tag c.args.pair (Err NoMemory)) (halts_wanted g.D.Disk.Tells g.D.Disk.files g.P.Piece.Tells g.D.Disk.fault_count g.D.Disk.fuse_count
    c.args.tag c.loop-replica.kept (record c.loop-replica.kept { logical = c.freeze.new.self; front = c.publish.new.self }) c.see.new.self c.args.pair refl refl refl
    (ap (λ f. f.shown) c.in_default-publish.ensures.refused) (ap (λ f. f.log) c.in_default-publish.ensures.refused) c.in-Ok.ensures.same c.in-Ok.ensures.open
    c.in-Ok.ensures.counts c.in-Ok.ensures.stands
    c.freeze.ensures.same c.freeze.ensures.open c.freeze.ensures.counts c.freeze.ensures.frozen
    (ap (λ v. v.frozen) (c.freeze.ensures.still (c.in-Ok.ensures.still.0 ∙ (thawed_now g.D.Disk.Tells g.D.Disk.files g.P.Piece.Tells g.D.Disk.fault_count g.D.Disk.fuse_count
    c.args.tag c.loop-replica.kept (since g.D.Disk.Tells g.D.Disk.files g.P.Piece.Tells g.D.Disk.fault_count g.D.Disk.fuse_count c.args.tag c.hold-kept.result
    c.loop-replica.kept c.seat.invariant.opened c.hold-kept.new.seat.seen (is_held g.D.Disk.Tells g.D.Disk.files g.P.Piece.Tells g.D.Disk.fault_count g.D.Disk.fuse_count
    c.seat.invariant c.hold-kept.ensures) (sym c.in_default.ensures.is) c.loop-replica.invariant.sees))))) c.hold-kept.result (sym c.in_default.ensures.is)
    c.loop-replica.invariant.sees c.act_made-made-in_default-publish.result (record {
      acts = λ m is.
          c.act_made-made-in_default-publish.ensures.did m ((c.freeze_did-did.ensures ∙ ap (λ (f : Option ℕ). freezes_by None f) c.frozen-in_default-publish.ensures.is) ∙ is);
      tries = λ none. (subst (λ (l : List ℕ). IsTried g.D.Disk.fault_count g.D.Disk.fuse_count c.args.tag l
          (record c.loop-replica.kept { logical = c.freeze.new.self; front = c.publish.new.self }).logical.replicas c.act_made-made-in_default-publish.result)
          c.faults_of-before.ensures (c.act_made-made-in_default-publish.ensures.tried ((c.freeze_did-did.ensures
          ∙ ap (λ (f : Option ℕ). freezes_by None f) c.frozen-in_default-publish.ensures.is) ∙ none)));
    })).told)

pub returns-in_default-publish-clause-held : goal.returns-in_default-publish-clause-held
returns-in_default-publish-clause-held g c =
    subst (λ (s : Seated g.row.D.Denot g.row.P.Denot). UnfusedHolding c.args.tag s.sight (seat_of c.free-in_default-publish.new.seat c.publish.new.seat).sight) c.seat.view_is
    (changed_held g.D.Disk.Tells g.D.Disk.files g.P.Piece.Tells g.D.Disk.fault_count g.D.Disk.fuse_count c.args.tag c.seat.inside.turn c.loop-replica.seat-inside.turn
    c.seat.inside.view c.show_all.new.seat c.publish.new.seat c.hold-kept.result (record c.loop-replica.kept { logical = c.freeze.new.self; front = c.publish.new.self })
    c.act_made-made-in_default-publish.result
    c.seat.invariant (subst (λ (t : SeatState (Opened g.row.D.Denot g.row.P.Denot) VolumeAct).
    Holds (λ act. act.seat) (λ opened acts x. IsKept g.D.Disk.Tells g.D.Disk.files g.P.Piece.Tells g.D.Disk.fault_count g.D.Disk.fuse_count opened acts x) c.seat.inside.turn t
    c.hold-kept.result) (sym c.loop-replica.invariant.turn) c.hold-kept.ensures) c.show_all.ensures.seen.0 c.show_all.ensures.seen.1 c.in_default-publish.ensures.seen.1
    (halts_wanted g.D.Disk.Tells g.D.Disk.files g.P.Piece.Tells g.D.Disk.fault_count g.D.Disk.fuse_count c.args.tag c.loop-replica.kept
    (record c.loop-replica.kept { logical = c.freeze.new.self; front = c.publish.new.self }) c.see.new.self c.args.pair refl refl refl
    (ap (λ f. f.shown) c.in_default-publish.ensures.refused) (ap (λ f. f.log) c.in_default-publish.ensures.refused) c.in-Ok.ensures.same c.in-Ok.ensures.open
    c.in-Ok.ensures.counts c.in-Ok.ensures.stands
    c.freeze.ensures.same c.freeze.ensures.open c.freeze.ensures.counts c.freeze.ensures.frozen
    (ap (λ v. v.frozen) (c.freeze.ensures.still (c.in-Ok.ensures.still.0 ∙ (thawed_now g.D.Disk.Tells g.D.Disk.files g.P.Piece.Tells g.D.Disk.fault_count g.D.Disk.fuse_count
    c.args.tag c.loop-replica.kept (since g.D.Disk.Tells g.D.Disk.files g.P.Piece.Tells g.D.Disk.fault_count g.D.Disk.fuse_count c.args.tag c.hold-kept.result
    c.loop-replica.kept c.seat.invariant.opened c.hold-kept.new.seat.seen (is_held g.D.Disk.Tells g.D.Disk.files g.P.Piece.Tells g.D.Disk.fault_count g.D.Disk.fuse_count
    c.seat.invariant c.hold-kept.ensures) (sym c.in_default.ensures.is) c.loop-replica.invariant.sees))))) c.hold-kept.result (sym c.in_default.ensures.is)
    c.loop-replica.invariant.sees c.act_made-made-in_default-publish.result (record {
      acts = λ m is.
          c.act_made-made-in_default-publish.ensures.did m ((c.freeze_did-did.ensures ∙ ap (λ (f : Option ℕ). freezes_by None f) c.frozen-in_default-publish.ensures.is) ∙ is);
      tries = λ none. (subst (λ (l : List ℕ). IsTried g.D.Disk.fault_count g.D.Disk.fuse_count c.args.tag l
          (record c.loop-replica.kept { logical = c.freeze.new.self; front = c.publish.new.self }).logical.replicas c.act_made-made-in_default-publish.result)
          c.faults_of-before.ensures (c.act_made-made-in_default-publish.ensures.tried ((c.freeze_did-did.ensures
          ∙ ap (λ (f : Option ℕ). freezes_by None f) c.frozen-in_default-publish.ensures.is) ∙ none)));
    })).leaves c.free-in_default-publish.new.seat c.free-in_default-publish.ensures
    (made_unfused_by g.D.Disk.fault_count g.D.Disk.fuse_count c.args.tag _ _ c.freeze_did-did.result c.act_made-made-in_default-publish.result
    (subst (λ (o : Option Made). IfSome o IsNoFuse) (sym c.freeze_did-did.ensures) (freezes_unfused None c.frozen-in_default-publish.result))
    c.act_made-made-in_default-publish.ensures.did c.act_made-made-in_default-publish.ensures.tried))

pub loop-replica-preserved : goal.loop-replica-preserved
loop-replica-preserved g c =
    elim c.if-not-is_seen.branch [
      | then-not-is_seen+in-Ok+in-Ok-publish+in-Live-1 w ↦ record {
        sees =
            subst (λ (k : Guarded g.row.D.Denot g.row.P.Denot). Sees g.D.Disk.Tells g.D.Disk.files g.P.Piece.Tells g.D.Disk.fault_count g.D.Disk.fuse_count c.args.tag
            c.hold-kept.result k) (sym w.kept-is) (sees_more g.D.Disk.Tells g.D.Disk.files g.P.Piece.Tells g.D.Disk.fault_count g.D.Disk.fuse_count c.args.tag c.hold-kept.result
            c.loop-replica.kept (record c.loop-replica.kept { logical = w.see.new.self; front = w.publish.new.self }) c.loop-replica.invariant.sees
            (see_shown g.D.Disk.Tells g.D.Disk.files g.P.Piece.Tells g.D.Disk.fault_count g.D.Disk.fuse_count c.args.tag c.loop-replica.kept
            (record c.loop-replica.kept { logical = w.see.new.self; front = w.publish.new.self }) refl refl refl w.in-Ok.ensures.same w.in-Ok.ensures.open
            w.in-Ok.ensures.counts (λ tells k s. (w.in-Ok.ensures.stands tells k s, λ thawed j run has. w.in-Ok.ensures.tight tells k s j)) w.in-Ok.ensures.still.0 c.args.pair
            c.loop-replica.replica (place_in w.in-Ok.seen.row c.loop-replica.replica) w.sight_of-op.result (record { tag = w.front_tag.result; deed = w.sight_of-op.result })
            w.sight_of-op.ensures (let same = c.loop-replica.invariant.sees.of.settings in let test = c.loop-replica-test.true in subst
            (λ (s : Settings). c.loop-replica.replica < s.replicas) (sym (settings_now g.D.Disk.Tells g.D.Disk.files g.P.Piece.Tells g.D.Disk.fault_count g.D.Disk.fuse_count
            c.args.tag c.loop-replica.kept (since g.D.Disk.Tells g.D.Disk.files g.P.Piece.Tells g.D.Disk.fault_count g.D.Disk.fuse_count c.args.tag c.hold-kept.result
            c.loop-replica.kept c.seat.invariant.opened c.hold-kept.new.seat.seen (is_held g.D.Disk.Tells g.D.Disk.files g.P.Piece.Tells g.D.Disk.fault_count
            g.D.Disk.fuse_count c.seat.invariant c.hold-kept.ensures) (sym c.in_default.ensures.is) c.loop-replica.invariant.sees) ∙ same)) test) w.in-Ok.ensures.row
            w.in-Ok-publish.ensures.done.0));
        turn = ap (λ s. s.turn) w.seat-inside-is ∙ c.loop-replica.invariant.turn;
        view = ap (λ s. s.view) w.seat-inside-is ∙ w.in-Ok-publish.ensures.seen.1 ∙ sym (ap (λ (k : Guarded g.row.D.Denot g.row.P.Denot). k.front.shown) w.kept-is);
        stood = ap (λ s. s.stood) w.seat-inside-is ∙ c.loop-replica.invariant.stood;
        fact =
            subst (λ (k : Guarded g.row.D.Denot g.row.P.Denot). HoldsFact (Fact g.D.Disk.Tells g.D.Disk.files g.P.Piece.Tells) k.front.shown) (sym w.kept-is)
            (subst (HoldsFact (Fact g.D.Disk.Tells g.D.Disk.files g.P.Piece.Tells)) (sym (ap (λ f. f.shown) w.in-Ok-publish.ensures.done.0))
            (holds_more g.D.Disk.Tells g.D.Disk.files g.P.Piece.Tells c.loop-replica.kept.front.shown w.sight_of-op.result c.loop-replica.invariant.fact
            (seen_may g.D.Disk.Tells g.D.Disk.files g.P.Piece.Tells g.D.Disk.fault_count g.D.Disk.fuse_count c.args.tag w.sight_of-op.result c.seat.invariant.opened
            c.hold-kept.new.seat.seen c.hold-kept.result c.loop-replica.kept (is_held g.D.Disk.Tells g.D.Disk.files g.P.Piece.Tells g.D.Disk.fault_count g.D.Disk.fuse_count
            c.seat.invariant c.hold-kept.ensures) c.loop-replica.invariant.sees c.loop-replica.invariant.fact c.args.pair c.loop-replica.replica
            (place_in w.in-Ok.seen.row c.loop-replica.replica) w.sight_of-op.ensures (subst (λ (s : Settings). c.loop-replica.replica < s.replicas)
            c.loop-replica.invariant.sees.of.same.settings (let same = c.loop-replica.invariant.sees.of.settings in let test = c.loop-replica-test.true in subst
            (λ (s : Settings). c.loop-replica.replica < s.replicas) (sym (settings_now g.D.Disk.Tells g.D.Disk.files g.P.Piece.Tells g.D.Disk.fault_count g.D.Disk.fuse_count
            c.args.tag c.loop-replica.kept (since g.D.Disk.Tells g.D.Disk.files g.P.Piece.Tells g.D.Disk.fault_count g.D.Disk.fuse_count c.args.tag c.hold-kept.result
            c.loop-replica.kept c.seat.invariant.opened c.hold-kept.new.seat.seen (is_held g.D.Disk.Tells g.D.Disk.files g.P.Piece.Tells g.D.Disk.fault_count g.D.Disk.fuse_count
            c.seat.invariant c.hold-kept.ensures) (sym c.in_default.ensures.is) c.loop-replica.invariant.sees) ∙ same)) test)) (λ tells k s. (w.in-Ok.ensures.known tells k s).1))));
        later = subst (λ (k : Guarded g.row.D.Denot g.row.P.Denot). IsBehind c.hold-kept.result.front.shown k.front.shown) (sym w.kept-is)
            (later_more c.hold-kept.result.front.shown c.loop-replica.kept.front.shown w.publish.new.self.shown c.loop-replica.invariant.later
            (later_deed c.loop-replica.kept.front.shown c.loop-replica.kept.front.shown w.publish.new.self.shown w.sight_of-op.result
            (behind_itself c.loop-replica.kept.front.shown) (ap (λ f. f.shown) w.in-Ok-publish.ensures.done.0)));
        seen = λ j less. subst (λ (k : Guarded g.row.D.Denot g.row.P.Denot). IsSeen (place_in (row_at k.logical.rows c.args.pair) j)) (sym w.kept-is)
            (seen_next (row_at w.see.new.self.rows c.args.pair) c.loop-replica.replica (λ i below.
            seen_set c.args.pair c.loop-replica.replica (place_in w.in-Ok.seen.row c.loop-replica.replica) c.loop-replica.kept.logical.rows w.see.new.self.rows
            w.in-Ok.ensures.row w.in-Ok.ensures.seen i (c.loop-replica.invariant.seen i below))
            (subst (λ (row : List (Place g.row.P.Denot)). IsSeen (place_in row c.loop-replica.replica)) w.in-Ok.ensures.answered.1 w.in-Ok.ensures.seen) j less);
      }
      | then-not-is_seen+in-Ok+in-Ok-publish+in-None-1 w ↦ record {
        sees =
            subst (λ (k : Guarded g.row.D.Denot g.row.P.Denot). Sees g.D.Disk.Tells g.D.Disk.files g.P.Piece.Tells g.D.Disk.fault_count g.D.Disk.fuse_count c.args.tag
            c.hold-kept.result k) (sym w.kept-is) (sees_more g.D.Disk.Tells g.D.Disk.files g.P.Piece.Tells g.D.Disk.fault_count g.D.Disk.fuse_count c.args.tag c.hold-kept.result
            c.loop-replica.kept (record c.loop-replica.kept { logical = w.see.new.self; front = w.publish.new.self }) c.loop-replica.invariant.sees
            (see_shown g.D.Disk.Tells g.D.Disk.files g.P.Piece.Tells g.D.Disk.fault_count g.D.Disk.fuse_count c.args.tag c.loop-replica.kept
            (record c.loop-replica.kept { logical = w.see.new.self; front = w.publish.new.self }) refl refl refl w.in-Ok.ensures.same w.in-Ok.ensures.open
            w.in-Ok.ensures.counts (λ tells k s. (w.in-Ok.ensures.stands tells k s, λ thawed j run has. w.in-Ok.ensures.tight tells k s j)) w.in-Ok.ensures.still.0 c.args.pair
            c.loop-replica.replica (place_in w.in-Ok.seen.row c.loop-replica.replica) w.sight_of-op.result (record { tag = w.front_tag.result; deed = w.sight_of-op.result })
            w.sight_of-op.ensures (let same = c.loop-replica.invariant.sees.of.settings in let test = c.loop-replica-test.true in subst
            (λ (s : Settings). c.loop-replica.replica < s.replicas) (sym (settings_now g.D.Disk.Tells g.D.Disk.files g.P.Piece.Tells g.D.Disk.fault_count g.D.Disk.fuse_count
            c.args.tag c.loop-replica.kept (since g.D.Disk.Tells g.D.Disk.files g.P.Piece.Tells g.D.Disk.fault_count g.D.Disk.fuse_count c.args.tag c.hold-kept.result
            c.loop-replica.kept c.seat.invariant.opened c.hold-kept.new.seat.seen (is_held g.D.Disk.Tells g.D.Disk.files g.P.Piece.Tells g.D.Disk.fault_count
            g.D.Disk.fuse_count c.seat.invariant c.hold-kept.ensures) (sym c.in_default.ensures.is) c.loop-replica.invariant.sees) ∙ same)) test) w.in-Ok.ensures.row
            w.in-Ok-publish.ensures.done.0));
        turn = ap (λ s. s.turn) w.seat-inside-is ∙ c.loop-replica.invariant.turn;
        view = ap (λ s. s.view) w.seat-inside-is ∙ w.in-Ok-publish.ensures.seen.1 ∙ sym (ap (λ (k : Guarded g.row.D.Denot g.row.P.Denot). k.front.shown) w.kept-is);
        stood = ap (λ s. s.stood) w.seat-inside-is ∙ c.loop-replica.invariant.stood;
        fact =
            subst (λ (k : Guarded g.row.D.Denot g.row.P.Denot). HoldsFact (Fact g.D.Disk.Tells g.D.Disk.files g.P.Piece.Tells) k.front.shown) (sym w.kept-is)
            (subst (HoldsFact (Fact g.D.Disk.Tells g.D.Disk.files g.P.Piece.Tells)) (sym (ap (λ f. f.shown) w.in-Ok-publish.ensures.done.0))
            (holds_more g.D.Disk.Tells g.D.Disk.files g.P.Piece.Tells c.loop-replica.kept.front.shown w.sight_of-op.result c.loop-replica.invariant.fact
            (seen_may g.D.Disk.Tells g.D.Disk.files g.P.Piece.Tells g.D.Disk.fault_count g.D.Disk.fuse_count c.args.tag w.sight_of-op.result c.seat.invariant.opened
            c.hold-kept.new.seat.seen c.hold-kept.result c.loop-replica.kept (is_held g.D.Disk.Tells g.D.Disk.files g.P.Piece.Tells g.D.Disk.fault_count g.D.Disk.fuse_count
            c.seat.invariant c.hold-kept.ensures) c.loop-replica.invariant.sees c.loop-replica.invariant.fact c.args.pair c.loop-replica.replica
            (place_in w.in-Ok.seen.row c.loop-replica.replica) w.sight_of-op.ensures (subst (λ (s : Settings). c.loop-replica.replica < s.replicas)
            c.loop-replica.invariant.sees.of.same.settings (let same = c.loop-replica.invariant.sees.of.settings in let test = c.loop-replica-test.true in subst
            (λ (s : Settings). c.loop-replica.replica < s.replicas) (sym (settings_now g.D.Disk.Tells g.D.Disk.files g.P.Piece.Tells g.D.Disk.fault_count g.D.Disk.fuse_count
            c.args.tag c.loop-replica.kept (since g.D.Disk.Tells g.D.Disk.files g.P.Piece.Tells g.D.Disk.fault_count g.D.Disk.fuse_count c.args.tag c.hold-kept.result
            c.loop-replica.kept c.seat.invariant.opened c.hold-kept.new.seat.seen (is_held g.D.Disk.Tells g.D.Disk.files g.P.Piece.Tells g.D.Disk.fault_count g.D.Disk.fuse_count
            c.seat.invariant c.hold-kept.ensures) (sym c.in_default.ensures.is) c.loop-replica.invariant.sees) ∙ same)) test)) (λ tells k s. (w.in-Ok.ensures.known tells k s).1))));
        later = subst (λ (k : Guarded g.row.D.Denot g.row.P.Denot). IsBehind c.hold-kept.result.front.shown k.front.shown) (sym w.kept-is)
            (later_more c.hold-kept.result.front.shown c.loop-replica.kept.front.shown w.publish.new.self.shown c.loop-replica.invariant.later
            (later_deed c.loop-replica.kept.front.shown c.loop-replica.kept.front.shown w.publish.new.self.shown w.sight_of-op.result
            (behind_itself c.loop-replica.kept.front.shown) (ap (λ f. f.shown) w.in-Ok-publish.ensures.done.0)));
        seen = λ j less. subst (λ (k : Guarded g.row.D.Denot g.row.P.Denot). IsSeen (place_in (row_at k.logical.rows c.args.pair) j)) (sym w.kept-is)
            (seen_next (row_at w.see.new.self.rows c.args.pair) c.loop-replica.replica (λ i below.
            seen_set c.args.pair c.loop-replica.replica (place_in w.in-Ok.seen.row c.loop-replica.replica) c.loop-replica.kept.logical.rows w.see.new.self.rows
            w.in-Ok.ensures.row w.in-Ok.ensures.seen i (c.loop-replica.invariant.seen i below))
            (subst (λ (row : List (Place g.row.P.Denot)). IsSeen (place_in row c.loop-replica.replica)) w.in-Ok.ensures.answered.1 w.in-Ok.ensures.seen) j less);
      }
      | else-not-is_seen w ↦ record {
        sees =
            subst (λ (k : Guarded g.row.D.Denot g.row.P.Denot). Sees g.D.Disk.Tells g.D.Disk.files g.P.Piece.Tells g.D.Disk.fault_count g.D.Disk.fuse_count c.args.tag
            c.hold-kept.result k) (sym w.kept-is) c.loop-replica.invariant.sees;
        turn = ap (λ s. s.turn) w.seat-inside-is ∙ c.loop-replica.invariant.turn;
        view = ap (λ s. s.view) w.seat-inside-is ∙ c.loop-replica.invariant.view ∙ sym (ap (λ (k : Guarded g.row.D.Denot g.row.P.Denot). k.front.shown) w.kept-is);
        stood = ap (λ s. s.stood) w.seat-inside-is ∙ c.loop-replica.invariant.stood;
        fact = subst (λ (k : Guarded g.row.D.Denot g.row.P.Denot). HoldsFact (Fact g.D.Disk.Tells g.D.Disk.files g.P.Piece.Tells) k.front.shown) (sym w.kept-is) c.loop-replica.invariant.fact;
        later = subst (λ (k : Guarded g.row.D.Denot g.row.P.Denot). IsBehind c.hold-kept.result.front.shown k.front.shown) (sym w.kept-is) c.loop-replica.invariant.later;
        seen = λ j less. subst (λ (k : Guarded g.row.D.Denot g.row.P.Denot). IsSeen (place_in (row_at k.logical.rows c.args.pair) j)) (sym w.kept-is)
            (seen_next (row_at c.loop-replica.kept.logical.rows c.args.pair) c.loop-replica.replica c.loop-replica.invariant.seen
            (subst (λ (row : List (Place g.row.P.Denot)). IsSeen (place_in row c.loop-replica.replica)) c.look-looked.ensures.row (c.is_seen.ensures.0 w.if-not-is_seen.false)) j less);
      }
    ]

pub runs_of-runs-requires-clause-all : goal.runs_of-runs-requires-clause-all
runs_of-runs-requires-clause-all g c =
    c.loop-replica.invariant.sees.of.count ∙ (all_there g.D.Disk.Tells g.D.Disk.files g.P.Piece.Tells g.D.Disk.fault_count g.D.Disk.fuse_count c.seat.invariant c.hold-kept.ensures)

pub runs_of-runs-requires-clause-most : goal.runs_of-runs-requires-clause-most
runs_of-runs-requires-clause-most g c = (few_there g.D.Disk.Tells g.D.Disk.files g.P.Piece.Tells g.D.Disk.fault_count g.D.Disk.fuse_count c.seat.invariant c.hold-kept.ensures)

pub erase_seen-requires-clause-seen : goal.erase_seen-requires-clause-seen
erase_seen-requires-clause-seen g c = λ j less. c.loop-replica.invariant.seen j
    (subst (λ (n : ℕ). j < n) (ap (λ (s : Settings). s.replicas) (settings_now g.D.Disk.Tells g.D.Disk.files g.P.Piece.Tells g.D.Disk.fault_count g.D.Disk.fuse_count c.args.tag
    c.loop-replica.kept (since g.D.Disk.Tells g.D.Disk.files g.P.Piece.Tells g.D.Disk.fault_count g.D.Disk.fuse_count c.args.tag c.hold-kept.result c.loop-replica.kept
    c.seat.invariant.opened c.hold-kept.new.seat.seen (is_held g.D.Disk.Tells g.D.Disk.files g.P.Piece.Tells g.D.Disk.fault_count g.D.Disk.fuse_count c.seat.invariant
    c.hold-kept.ensures) (sym c.in_default.ensures.is) c.loop-replica.invariant.sees) ∙ c.loop-replica.invariant.sees.of.settings)
    ∙ sym (let most = c.loop-replica.auto.replica-end in let test = c.loop-replica-test.false in let done : c.loop-replica.replica
    ≡ c.hold-kept.result.settings.replicas = omega (arith, test, most) in done)) less)

pub act_made-made-requires-in-Err-erase_seen-clause-all : goal.act_made-made-requires-in-Err-erase_seen-clause-all
act_made-made-requires-in-Err-erase_seen-clause-all g c =
    c.erase_seen.ensures.counts.count ∙ c.loop-replica.invariant.sees.of.count ∙ (all_there g.D.Disk.Tells g.D.Disk.files g.P.Piece.Tells g.D.Disk.fault_count g.D.Disk.fuse_count
    c.seat.invariant c.hold-kept.ensures)

pub act_made-made-requires-in-Err-erase_seen-clause-most : goal.act_made-made-requires-in-Err-erase_seen-clause-most
act_made-made-requires-in-Err-erase_seen-clause-most g c = (few_there g.D.Disk.Tells g.D.Disk.files g.P.Piece.Tells g.D.Disk.fault_count g.D.Disk.fuse_count c.seat.invariant c.hold-kept.ensures)

pub free-requires-in-Err-erase_seen-clause-may : goal.free-requires-in-Err-erase_seen-clause-may
free-requires-in-Err-erase_seen-clause-may g c = record {
  stands_for =
      changed_free g.D.Disk.Tells g.D.Disk.files g.P.Piece.Tells g.D.Disk.fault_count g.D.Disk.fuse_count c.args.tag c.seat.inside.turn c.loop-replica.seat-inside.turn
      c.seat.inside.view c.show_all.new.seat c.loop-replica.seat-inside.view c.hold-kept.result (record c.loop-replica.kept { logical = c.erase_seen.new.self })
      c.act_made-made-in-Err-erase_seen.result
      c.seat.invariant (subst (λ (t : SeatState (Opened g.row.D.Denot g.row.P.Denot) VolumeAct).
      Holds (λ act. act.seat) (λ opened acts x. IsKept g.D.Disk.Tells g.D.Disk.files g.P.Piece.Tells g.D.Disk.fault_count g.D.Disk.fuse_count opened acts x) c.seat.inside.turn
      t c.hold-kept.result) (sym c.loop-replica.invariant.turn) c.hold-kept.ensures) c.show_all.ensures.seen.0 c.show_all.ensures.seen.1 c.loop-replica.invariant.view
      (erase_refused g.D.Disk.Tells g.D.Disk.files g.P.Piece.Tells g.D.Disk.fault_count g.D.Disk.fuse_count c.args.tag c.loop-replica.kept
      (record c.loop-replica.kept { logical = c.erase_seen.new.self }) c.args.pair refl refl refl refl
      (serves_now g.D.Disk.Tells g.D.Disk.files g.P.Piece.Tells g.D.Disk.fault_count g.D.Disk.fuse_count c.args.tag c.loop-replica.kept
      (since g.D.Disk.Tells g.D.Disk.files g.P.Piece.Tells g.D.Disk.fault_count g.D.Disk.fuse_count c.args.tag c.hold-kept.result c.loop-replica.kept c.seat.invariant.opened
      c.hold-kept.new.seat.seen (is_held g.D.Disk.Tells g.D.Disk.files g.P.Piece.Tells g.D.Disk.fault_count g.D.Disk.fuse_count c.seat.invariant c.hold-kept.ensures)
      (sym c.in_default.ensures.is) c.loop-replica.invariant.sees)) (thawed_now g.D.Disk.Tells g.D.Disk.files g.P.Piece.Tells g.D.Disk.fault_count g.D.Disk.fuse_count
      c.args.tag c.loop-replica.kept (since g.D.Disk.Tells g.D.Disk.files g.P.Piece.Tells g.D.Disk.fault_count g.D.Disk.fuse_count c.args.tag c.hold-kept.result
      c.loop-replica.kept c.seat.invariant.opened c.hold-kept.new.seat.seen (is_held g.D.Disk.Tells g.D.Disk.files g.P.Piece.Tells g.D.Disk.fault_count g.D.Disk.fuse_count
      c.seat.invariant c.hold-kept.ensures) (sym c.in_default.ensures.is) c.loop-replica.invariant.sees)) c.in-Err-erase_seen.ensures.same c.in-Err-erase_seen.ensures.open
      c.in-Err-erase_seen.ensures.counts c.in-Err-erase_seen.ensures.kept (λ tells thawed j tight.
      c.in-Err-erase_seen.ensures.tight tells j tight (unsure_kept c.args.tag c.args.pair c.loop-replica.kept.logical c.erase_seen.new.self c.in-Err-erase_seen.fault
      c.in-Err-erase_seen.ensures.refused_seen thawed)) c.in-Err-erase_seen.fault c.in-Err-erase_seen.ensures.refused c.in-Err-erase_seen.ensures.causes
      (λ m at e. c.in-Err-erase_seen.ensures.undamaged m at (ap Err e)) c.hold-kept.result (sym c.in_default.ensures.is) c.loop-replica.invariant.sees
      c.act_made-made-in-Err-erase_seen.result (record {
        acts = λ m is. c.act_made-made-in-Err-erase_seen.ensures.did m
            ((c.delete_did-did.ensures ∙ ap (λ (f : Option ℕ). delete_made f (change.Del c.args.pair) c.in-Err-erase_seen.fault) c.frozen-in-Err-erase_seen.ensures.is) ∙ is);
        tries = λ none. (subst (λ (l : List ℕ). IsTried g.D.Disk.fault_count g.D.Disk.fuse_count c.args.tag l
            (record c.loop-replica.kept { logical = c.erase_seen.new.self }).logical.replicas c.act_made-made-in-Err-erase_seen.result) c.faults_of-before.ensures
            (c.act_made-made-in-Err-erase_seen.ensures.tried ((c.delete_did-did.ensures ∙ ap (λ (f : Option ℕ). delete_made f (change.Del c.args.pair) c.in-Err-erase_seen.fault)
            c.frozen-in-Err-erase_seen.ensures.is) ∙ none)));
      })).leaves;
  mine =
      changed_mine g.D.Disk.Tells g.D.Disk.files g.P.Piece.Tells g.D.Disk.fault_count g.D.Disk.fuse_count c.args.tag c.seat.inside.turn c.loop-replica.seat-inside.turn
      c.seat.inside.view c.show_all.new.seat c.loop-replica.seat-inside.view c.hold-kept.result (record c.loop-replica.kept { logical = c.erase_seen.new.self })
      c.act_made-made-in-Err-erase_seen.result
      c.seat.invariant (subst (λ (t : SeatState (Opened g.row.D.Denot g.row.P.Denot) VolumeAct).
      Holds (λ act. act.seat) (λ opened acts x. IsKept g.D.Disk.Tells g.D.Disk.files g.P.Piece.Tells g.D.Disk.fault_count g.D.Disk.fuse_count opened acts x) c.seat.inside.turn
      t c.hold-kept.result) (sym c.loop-replica.invariant.turn) c.hold-kept.ensures) c.show_all.ensures.seen.0 c.show_all.ensures.seen.1 c.loop-replica.invariant.view
      (erase_refused g.D.Disk.Tells g.D.Disk.files g.P.Piece.Tells g.D.Disk.fault_count g.D.Disk.fuse_count c.args.tag c.loop-replica.kept
      (record c.loop-replica.kept { logical = c.erase_seen.new.self }) c.args.pair refl refl refl refl
      (serves_now g.D.Disk.Tells g.D.Disk.files g.P.Piece.Tells g.D.Disk.fault_count g.D.Disk.fuse_count c.args.tag c.loop-replica.kept
      (since g.D.Disk.Tells g.D.Disk.files g.P.Piece.Tells g.D.Disk.fault_count g.D.Disk.fuse_count c.args.tag c.hold-kept.result c.loop-replica.kept c.seat.invariant.opened
      c.hold-kept.new.seat.seen (is_held g.D.Disk.Tells g.D.Disk.files g.P.Piece.Tells g.D.Disk.fault_count g.D.Disk.fuse_count c.seat.invariant c.hold-kept.ensures)
      (sym c.in_default.ensures.is) c.loop-replica.invariant.sees)) (thawed_now g.D.Disk.Tells g.D.Disk.files g.P.Piece.Tells g.D.Disk.fault_count g.D.Disk.fuse_count
      c.args.tag c.loop-replica.kept (since g.D.Disk.Tells g.D.Disk.files g.P.Piece.Tells g.D.Disk.fault_count g.D.Disk.fuse_count c.args.tag c.hold-kept.result
      c.loop-replica.kept c.seat.invariant.opened c.hold-kept.new.seat.seen (is_held g.D.Disk.Tells g.D.Disk.files g.P.Piece.Tells g.D.Disk.fault_count g.D.Disk.fuse_count
      c.seat.invariant c.hold-kept.ensures) (sym c.in_default.ensures.is) c.loop-replica.invariant.sees)) c.in-Err-erase_seen.ensures.same c.in-Err-erase_seen.ensures.open
      c.in-Err-erase_seen.ensures.counts c.in-Err-erase_seen.ensures.kept (λ tells thawed j tight.
      c.in-Err-erase_seen.ensures.tight tells j tight (unsure_kept c.args.tag c.args.pair c.loop-replica.kept.logical c.erase_seen.new.self c.in-Err-erase_seen.fault
      c.in-Err-erase_seen.ensures.refused_seen thawed)) c.in-Err-erase_seen.fault c.in-Err-erase_seen.ensures.refused c.in-Err-erase_seen.ensures.causes
      (λ m at e. c.in-Err-erase_seen.ensures.undamaged m at (ap Err e)) c.hold-kept.result (sym c.in_default.ensures.is) c.loop-replica.invariant.sees
      c.act_made-made-in-Err-erase_seen.result (record {
        acts = λ m is. c.act_made-made-in-Err-erase_seen.ensures.did m
            ((c.delete_did-did.ensures ∙ ap (λ (f : Option ℕ). delete_made f (change.Del c.args.pair) c.in-Err-erase_seen.fault) c.frozen-in-Err-erase_seen.ensures.is) ∙ is);
        tries = λ none. (subst (λ (l : List ℕ). IsTried g.D.Disk.fault_count g.D.Disk.fuse_count c.args.tag l
            (record c.loop-replica.kept { logical = c.erase_seen.new.self }).logical.replicas c.act_made-made-in-Err-erase_seen.result) c.faults_of-before.ensures
            (c.act_made-made-in-Err-erase_seen.ensures.tried ((c.delete_did-did.ensures ∙ ap (λ (f : Option ℕ). delete_made f (change.Del c.args.pair) c.in-Err-erase_seen.fault)
            c.frozen-in-Err-erase_seen.ensures.is) ∙ none)));
      })).leaves (ap (λ (s : Seated g.row.D.Denot g.row.P.Denot). s.number) c.seat.view_is ∙ c.requires.may.lane);
}

pub invariant_of-seat-in-Err-erase_seen : goal.invariant_of-seat-in-Err-erase_seen
invariant_of-seat-in-Err-erase_seen g c =
    subst (λ (n : ℕ). IsSeated c.free-in-Err-erase_seen.new.seat n c.loop-replica.seat-inside.view) (sym c.loop-replica.invariant.stood)
    (changed_seated g.D.Disk.Tells g.D.Disk.files g.P.Piece.Tells g.D.Disk.fault_count g.D.Disk.fuse_count c.args.tag c.seat.inside.turn c.loop-replica.seat-inside.turn
    c.seat.inside.view c.show_all.new.seat c.loop-replica.seat-inside.view c.hold-kept.result (record c.loop-replica.kept { logical = c.erase_seen.new.self })
    c.act_made-made-in-Err-erase_seen.result
    c.seat.invariant (subst (λ (t : SeatState (Opened g.row.D.Denot g.row.P.Denot) VolumeAct).
    Holds (λ act. act.seat) (λ opened acts x. IsKept g.D.Disk.Tells g.D.Disk.files g.P.Piece.Tells g.D.Disk.fault_count g.D.Disk.fuse_count opened acts x) c.seat.inside.turn t
    c.hold-kept.result) (sym c.loop-replica.invariant.turn) c.hold-kept.ensures) c.show_all.ensures.seen.0 c.show_all.ensures.seen.1 c.loop-replica.invariant.view
    (erase_refused g.D.Disk.Tells g.D.Disk.files g.P.Piece.Tells g.D.Disk.fault_count g.D.Disk.fuse_count c.args.tag c.loop-replica.kept
    (record c.loop-replica.kept { logical = c.erase_seen.new.self }) c.args.pair refl refl refl refl
    (serves_now g.D.Disk.Tells g.D.Disk.files g.P.Piece.Tells g.D.Disk.fault_count g.D.Disk.fuse_count c.args.tag c.loop-replica.kept
    (since g.D.Disk.Tells g.D.Disk.files g.P.Piece.Tells g.D.Disk.fault_count g.D.Disk.fuse_count c.args.tag c.hold-kept.result c.loop-replica.kept c.seat.invariant.opened
    c.hold-kept.new.seat.seen (is_held g.D.Disk.Tells g.D.Disk.files g.P.Piece.Tells g.D.Disk.fault_count g.D.Disk.fuse_count c.seat.invariant c.hold-kept.ensures)
    (sym c.in_default.ensures.is) c.loop-replica.invariant.sees)) (thawed_now g.D.Disk.Tells g.D.Disk.files g.P.Piece.Tells g.D.Disk.fault_count g.D.Disk.fuse_count c.args.tag
    c.loop-replica.kept (since g.D.Disk.Tells g.D.Disk.files g.P.Piece.Tells g.D.Disk.fault_count g.D.Disk.fuse_count c.args.tag c.hold-kept.result c.loop-replica.kept
    c.seat.invariant.opened c.hold-kept.new.seat.seen (is_held g.D.Disk.Tells g.D.Disk.files g.P.Piece.Tells g.D.Disk.fault_count g.D.Disk.fuse_count c.seat.invariant
    c.hold-kept.ensures) (sym c.in_default.ensures.is) c.loop-replica.invariant.sees)) c.in-Err-erase_seen.ensures.same c.in-Err-erase_seen.ensures.open
    c.in-Err-erase_seen.ensures.counts c.in-Err-erase_seen.ensures.kept (λ tells thawed j tight.
    c.in-Err-erase_seen.ensures.tight tells j tight (unsure_kept c.args.tag c.args.pair c.loop-replica.kept.logical c.erase_seen.new.self c.in-Err-erase_seen.fault
    c.in-Err-erase_seen.ensures.refused_seen thawed)) c.in-Err-erase_seen.fault c.in-Err-erase_seen.ensures.refused c.in-Err-erase_seen.ensures.causes
    (λ m at e. c.in-Err-erase_seen.ensures.undamaged m at (ap Err e)) c.hold-kept.result (sym c.in_default.ensures.is) c.loop-replica.invariant.sees
    c.act_made-made-in-Err-erase_seen.result (record {
      acts = λ m is. c.act_made-made-in-Err-erase_seen.ensures.did m
          ((c.delete_did-did.ensures ∙ ap (λ (f : Option ℕ). delete_made f (change.Del c.args.pair) c.in-Err-erase_seen.fault) c.frozen-in-Err-erase_seen.ensures.is) ∙ is);
      tries = λ none. (subst (λ (l : List ℕ). IsTried g.D.Disk.fault_count g.D.Disk.fuse_count c.args.tag l
          (record c.loop-replica.kept { logical = c.erase_seen.new.self }).logical.replicas c.act_made-made-in-Err-erase_seen.result) c.faults_of-before.ensures
          (c.act_made-made-in-Err-erase_seen.ensures.tried ((c.delete_did-did.ensures ∙ ap (λ (f : Option ℕ). delete_made f (change.Del c.args.pair) c.in-Err-erase_seen.fault)
          c.frozen-in-Err-erase_seen.ensures.is) ∙ none)));
    })).leaves c.free-in-Err-erase_seen.new.seat c.free-in-Err-erase_seen.ensures
    (ap (λ (s : Seated g.row.D.Denot g.row.P.Denot). s.number) c.seat.view_is ∙ c.requires.may.lane)
    (later_same c.seat.inside.view c.loop-replica.kept.front.shown c.loop-replica.seat-inside.view
    (later_more c.seat.inside.view c.hold-kept.result.front.shown c.loop-replica.kept.front.shown c.show_all.ensures.seen.0 c.loop-replica.invariant.later) c.loop-replica.invariant.view))

pub returns-in-Err-erase_seen-clause-deleted : goal.returns-in-Err-erase_seen-clause-deleted
returns-in-Err-erase_seen-clause-deleted g c =
    subst (λ (s : Seated g.row.D.Denot g.row.P.Denot). IsTold g.D.Disk.Tells g.D.Disk.files g.P.Piece.Tells g.D.Disk.fault_count g.D.Disk.fuse_count s.start
    (λ volume. DeleteAnswer volume c.args.tag c.args.pair (Err c.in-Err-erase_seen.fault) s.sight (seat_of c.free-in-Err-erase_seen.new.seat c.loop-replica.seat-inside.view).sight)) c.seat.view_is
    (changed_told g.D.Disk.Tells g.D.Disk.files g.P.Piece.Tells g.D.Disk.fault_count g.D.Disk.fuse_count c.args.tag c.seat.inside.turn c.loop-replica.seat-inside.turn
    c.seat.inside.view c.show_all.new.seat c.loop-replica.seat-inside.view c.hold-kept.result (record c.loop-replica.kept { logical = c.erase_seen.new.self })
    c.act_made-made-in-Err-erase_seen.result
    c.seat.invariant (subst (λ (t : SeatState (Opened g.row.D.Denot g.row.P.Denot) VolumeAct).
    Holds (λ act. act.seat) (λ opened acts x. IsKept g.D.Disk.Tells g.D.Disk.files g.P.Piece.Tells g.D.Disk.fault_count g.D.Disk.fuse_count opened acts x) c.seat.inside.turn t
    c.hold-kept.result) (sym c.loop-replica.invariant.turn) c.hold-kept.ensures) c.show_all.ensures.seen.0 c.show_all.ensures.seen.1 c.loop-replica.invariant.view
    (erase_refused g.D.Disk.Tells g.D.Disk.files g.P.Piece.Tells g.D.Disk.fault_count g.D.Disk.fuse_count c.args.tag c.loop-replica.kept
    (record c.loop-replica.kept { logical = c.erase_seen.new.self }) c.args.pair refl refl refl refl
    (serves_now g.D.Disk.Tells g.D.Disk.files g.P.Piece.Tells g.D.Disk.fault_count g.D.Disk.fuse_count c.args.tag c.loop-replica.kept
    (since g.D.Disk.Tells g.D.Disk.files g.P.Piece.Tells g.D.Disk.fault_count g.D.Disk.fuse_count c.args.tag c.hold-kept.result c.loop-replica.kept c.seat.invariant.opened
    c.hold-kept.new.seat.seen (is_held g.D.Disk.Tells g.D.Disk.files g.P.Piece.Tells g.D.Disk.fault_count g.D.Disk.fuse_count c.seat.invariant c.hold-kept.ensures)
    (sym c.in_default.ensures.is) c.loop-replica.invariant.sees)) (thawed_now g.D.Disk.Tells g.D.Disk.files g.P.Piece.Tells g.D.Disk.fault_count g.D.Disk.fuse_count c.args.tag
    c.loop-replica.kept (since g.D.Disk.Tells g.D.Disk.files g.P.Piece.Tells g.D.Disk.fault_count g.D.Disk.fuse_count c.args.tag c.hold-kept.result c.loop-replica.kept
    c.seat.invariant.opened c.hold-kept.new.seat.seen (is_held g.D.Disk.Tells g.D.Disk.files g.P.Piece.Tells g.D.Disk.fault_count g.D.Disk.fuse_count c.seat.invariant
    c.hold-kept.ensures) (sym c.in_default.ensures.is) c.loop-replica.invariant.sees)) c.in-Err-erase_seen.ensures.same c.in-Err-erase_seen.ensures.open
    c.in-Err-erase_seen.ensures.counts c.in-Err-erase_seen.ensures.kept (λ tells thawed j tight.
    c.in-Err-erase_seen.ensures.tight tells j tight (unsure_kept c.args.tag c.args.pair c.loop-replica.kept.logical c.erase_seen.new.self c.in-Err-erase_seen.fault
    c.in-Err-erase_seen.ensures.refused_seen thawed)) c.in-Err-erase_seen.fault c.in-Err-erase_seen.ensures.refused c.in-Err-erase_seen.ensures.causes
    (λ m at e. c.in-Err-erase_seen.ensures.undamaged m at (ap Err e)) c.hold-kept.result (sym c.in_default.ensures.is) c.loop-replica.invariant.sees
    c.act_made-made-in-Err-erase_seen.result (record {
      acts = λ m is. c.act_made-made-in-Err-erase_seen.ensures.did m
          ((c.delete_did-did.ensures ∙ ap (λ (f : Option ℕ). delete_made f (change.Del c.args.pair) c.in-Err-erase_seen.fault) c.frozen-in-Err-erase_seen.ensures.is) ∙ is);
      tries = λ none. (subst (λ (l : List ℕ). IsTried g.D.Disk.fault_count g.D.Disk.fuse_count c.args.tag l
          (record c.loop-replica.kept { logical = c.erase_seen.new.self }).logical.replicas c.act_made-made-in-Err-erase_seen.result) c.faults_of-before.ensures
          (c.act_made-made-in-Err-erase_seen.ensures.tried ((c.delete_did-did.ensures ∙ ap (λ (f : Option ℕ). delete_made f (change.Del c.args.pair) c.in-Err-erase_seen.fault)
          c.frozen-in-Err-erase_seen.ensures.is) ∙ none)));
    })).leaves c.free-in-Err-erase_seen.new.seat c.free-in-Err-erase_seen.ensures
    (λ volume. DeleteAnswer volume c.args.tag c.args.pair (Err c.in-Err-erase_seen.fault))
    (erase_refused g.D.Disk.Tells g.D.Disk.files g.P.Piece.Tells g.D.Disk.fault_count g.D.Disk.fuse_count c.args.tag c.loop-replica.kept
    (record c.loop-replica.kept { logical = c.erase_seen.new.self }) c.args.pair refl refl refl refl
    (serves_now g.D.Disk.Tells g.D.Disk.files g.P.Piece.Tells g.D.Disk.fault_count g.D.Disk.fuse_count c.args.tag c.loop-replica.kept
    (since g.D.Disk.Tells g.D.Disk.files g.P.Piece.Tells g.D.Disk.fault_count g.D.Disk.fuse_count c.args.tag c.hold-kept.result c.loop-replica.kept c.seat.invariant.opened
    c.hold-kept.new.seat.seen (is_held g.D.Disk.Tells g.D.Disk.files g.P.Piece.Tells g.D.Disk.fault_count g.D.Disk.fuse_count c.seat.invariant c.hold-kept.ensures)
    (sym c.in_default.ensures.is) c.loop-replica.invariant.sees)) (thawed_now g.D.Disk.Tells g.D.Disk.files g.P.Piece.Tells g.D.Disk.fault_count g.D.Disk.fuse_count c.args.tag
    c.loop-replica.kept (since g.D.Disk.Tells g.D.Disk.files g.P.Piece.Tells g.D.Disk.fault_count g.D.Disk.fuse_count c.args.tag c.hold-kept.result c.loop-replica.kept
    c.seat.invariant.opened c.hold-kept.new.seat.seen (is_held g.D.Disk.Tells g.D.Disk.files g.P.Piece.Tells g.D.Disk.fault_count g.D.Disk.fuse_count c.seat.invariant
    c.hold-kept.ensures) (sym c.in_default.ensures.is) c.loop-replica.invariant.sees)) c.in-Err-erase_seen.ensures.same c.in-Err-erase_seen.ensures.open
    c.in-Err-erase_seen.ensures.counts c.in-Err-erase_seen.ensures.kept (λ tells thawed j tight.
    c.in-Err-erase_seen.ensures.tight tells j tight (unsure_kept c.args.tag c.args.pair c.loop-replica.kept.logical c.erase_seen.new.self c.in-Err-erase_seen.fault
    c.in-Err-erase_seen.ensures.refused_seen thawed)) c.in-Err-erase_seen.fault c.in-Err-erase_seen.ensures.refused c.in-Err-erase_seen.ensures.causes
    (λ m at e. c.in-Err-erase_seen.ensures.undamaged m at (ap Err e)) c.hold-kept.result (sym c.in_default.ensures.is) c.loop-replica.invariant.sees
    c.act_made-made-in-Err-erase_seen.result (record {
      acts = λ m is. c.act_made-made-in-Err-erase_seen.ensures.did m
          ((c.delete_did-did.ensures ∙ ap (λ (f : Option ℕ). delete_made f (change.Del c.args.pair) c.in-Err-erase_seen.fault) c.frozen-in-Err-erase_seen.ensures.is) ∙ is);
      tries = λ none. (subst (λ (l : List ℕ). IsTried g.D.Disk.fault_count g.D.Disk.fuse_count c.args.tag l
          (record c.loop-replica.kept { logical = c.erase_seen.new.self }).logical.replicas c.act_made-made-in-Err-erase_seen.result) c.faults_of-before.ensures
          (c.act_made-made-in-Err-erase_seen.ensures.tried ((c.delete_did-did.ensures ∙ ap (λ (f : Option ℕ). delete_made f (change.Del c.args.pair) c.in-Err-erase_seen.fault)
          c.frozen-in-Err-erase_seen.ensures.is) ∙ none)));
    })).told)

pub returns-in-Err-erase_seen-clause-causes : goal.returns-in-Err-erase_seen-clause-causes
returns-in-Err-erase_seen-clause-causes g c = λ m f is.
    subst (λ (s : Seated g.row.D.Denot g.row.P.Denot). IsAlways g.D.Disk.fault_count g.D.Disk.fuse_count s.start
    (λ volume. DiskFailed volume c.args.tag m f s.sight (seat_of c.free-in-Err-erase_seen.new.seat c.loop-replica.seat-inside.view).sight)) c.seat.view_is
    (changed_always g.D.Disk.Tells g.D.Disk.files g.P.Piece.Tells g.D.Disk.fault_count g.D.Disk.fuse_count c.args.tag c.seat.inside.turn c.loop-replica.seat-inside.turn
    c.seat.inside.view c.show_all.new.seat c.loop-replica.seat-inside.view c.hold-kept.result (record c.loop-replica.kept { logical = c.erase_seen.new.self })
    c.act_made-made-in-Err-erase_seen.result
    c.seat.invariant (subst (λ (t : SeatState (Opened g.row.D.Denot g.row.P.Denot) VolumeAct).
    Holds (λ act. act.seat) (λ opened acts x. IsKept g.D.Disk.Tells g.D.Disk.files g.P.Piece.Tells g.D.Disk.fault_count g.D.Disk.fuse_count opened acts x) c.seat.inside.turn t
    c.hold-kept.result) (sym c.loop-replica.invariant.turn) c.hold-kept.ensures) c.show_all.ensures.seen.0 c.show_all.ensures.seen.1 c.loop-replica.invariant.view
    (erase_refused g.D.Disk.Tells g.D.Disk.files g.P.Piece.Tells g.D.Disk.fault_count g.D.Disk.fuse_count c.args.tag c.loop-replica.kept
    (record c.loop-replica.kept { logical = c.erase_seen.new.self }) c.args.pair refl refl refl refl
    (serves_now g.D.Disk.Tells g.D.Disk.files g.P.Piece.Tells g.D.Disk.fault_count g.D.Disk.fuse_count c.args.tag c.loop-replica.kept
    (since g.D.Disk.Tells g.D.Disk.files g.P.Piece.Tells g.D.Disk.fault_count g.D.Disk.fuse_count c.args.tag c.hold-kept.result c.loop-replica.kept c.seat.invariant.opened
    c.hold-kept.new.seat.seen (is_held g.D.Disk.Tells g.D.Disk.files g.P.Piece.Tells g.D.Disk.fault_count g.D.Disk.fuse_count c.seat.invariant c.hold-kept.ensures)
    (sym c.in_default.ensures.is) c.loop-replica.invariant.sees)) (thawed_now g.D.Disk.Tells g.D.Disk.files g.P.Piece.Tells g.D.Disk.fault_count g.D.Disk.fuse_count c.args.tag
    c.loop-replica.kept (since g.D.Disk.Tells g.D.Disk.files g.P.Piece.Tells g.D.Disk.fault_count g.D.Disk.fuse_count c.args.tag c.hold-kept.result c.loop-replica.kept
    c.seat.invariant.opened c.hold-kept.new.seat.seen (is_held g.D.Disk.Tells g.D.Disk.files g.P.Piece.Tells g.D.Disk.fault_count g.D.Disk.fuse_count c.seat.invariant
    c.hold-kept.ensures) (sym c.in_default.ensures.is) c.loop-replica.invariant.sees)) c.in-Err-erase_seen.ensures.same c.in-Err-erase_seen.ensures.open
    c.in-Err-erase_seen.ensures.counts c.in-Err-erase_seen.ensures.kept (λ tells thawed j tight.
    c.in-Err-erase_seen.ensures.tight tells j tight (unsure_kept c.args.tag c.args.pair c.loop-replica.kept.logical c.erase_seen.new.self c.in-Err-erase_seen.fault
    c.in-Err-erase_seen.ensures.refused_seen thawed)) c.in-Err-erase_seen.fault c.in-Err-erase_seen.ensures.refused c.in-Err-erase_seen.ensures.causes
    (λ m at e. c.in-Err-erase_seen.ensures.undamaged m at (ap Err e)) c.hold-kept.result (sym c.in_default.ensures.is) c.loop-replica.invariant.sees
    c.act_made-made-in-Err-erase_seen.result (record {
      acts = λ m is. c.act_made-made-in-Err-erase_seen.ensures.did m
          ((c.delete_did-did.ensures ∙ ap (λ (f : Option ℕ). delete_made f (change.Del c.args.pair) c.in-Err-erase_seen.fault) c.frozen-in-Err-erase_seen.ensures.is) ∙ is);
      tries = λ none. (subst (λ (l : List ℕ). IsTried g.D.Disk.fault_count g.D.Disk.fuse_count c.args.tag l
          (record c.loop-replica.kept { logical = c.erase_seen.new.self }).logical.replicas c.act_made-made-in-Err-erase_seen.result) c.faults_of-before.ensures
          (c.act_made-made-in-Err-erase_seen.ensures.tried ((c.delete_did-did.ensures ∙ ap (λ (f : Option ℕ). delete_made f (change.Del c.args.pair) c.in-Err-erase_seen.fault)
          c.frozen-in-Err-erase_seen.ensures.is) ∙ none)));
    })).leaves c.free-in-Err-erase_seen.new.seat c.free-in-Err-erase_seen.ensures (λ volume. DiskFailed volume c.args.tag m f)
    ((erase_refused g.D.Disk.Tells g.D.Disk.files g.P.Piece.Tells g.D.Disk.fault_count g.D.Disk.fuse_count c.args.tag c.loop-replica.kept
    (record c.loop-replica.kept { logical = c.erase_seen.new.self }) c.args.pair refl refl refl refl
    (serves_now g.D.Disk.Tells g.D.Disk.files g.P.Piece.Tells g.D.Disk.fault_count g.D.Disk.fuse_count c.args.tag c.loop-replica.kept
    (since g.D.Disk.Tells g.D.Disk.files g.P.Piece.Tells g.D.Disk.fault_count g.D.Disk.fuse_count c.args.tag c.hold-kept.result c.loop-replica.kept c.seat.invariant.opened
    c.hold-kept.new.seat.seen (is_held g.D.Disk.Tells g.D.Disk.files g.P.Piece.Tells g.D.Disk.fault_count g.D.Disk.fuse_count c.seat.invariant c.hold-kept.ensures)
    (sym c.in_default.ensures.is) c.loop-replica.invariant.sees)) (thawed_now g.D.Disk.Tells g.D.Disk.files g.P.Piece.Tells g.D.Disk.fault_count g.D.Disk.fuse_count c.args.tag
    c.loop-replica.kept (since g.D.Disk.Tells g.D.Disk.files g.P.Piece.Tells g.D.Disk.fault_count g.D.Disk.fuse_count c.args.tag c.hold-kept.result c.loop-replica.kept
    c.seat.invariant.opened c.hold-kept.new.seat.seen (is_held g.D.Disk.Tells g.D.Disk.files g.P.Piece.Tells g.D.Disk.fault_count g.D.Disk.fuse_count c.seat.invariant
    c.hold-kept.ensures) (sym c.in_default.ensures.is) c.loop-replica.invariant.sees)) c.in-Err-erase_seen.ensures.same c.in-Err-erase_seen.ensures.open
    c.in-Err-erase_seen.ensures.counts c.in-Err-erase_seen.ensures.kept (λ tells thawed j tight.
    c.in-Err-erase_seen.ensures.tight tells j tight (unsure_kept c.args.tag c.args.pair c.loop-replica.kept.logical c.erase_seen.new.self c.in-Err-erase_seen.fault
    c.in-Err-erase_seen.ensures.refused_seen thawed)) c.in-Err-erase_seen.fault c.in-Err-erase_seen.ensures.refused c.in-Err-erase_seen.ensures.causes
    (λ m at e. c.in-Err-erase_seen.ensures.undamaged m at (ap Err e)) c.hold-kept.result (sym c.in_default.ensures.is) c.loop-replica.invariant.sees
    c.act_made-made-in-Err-erase_seen.result (record {
      acts = λ m is. c.act_made-made-in-Err-erase_seen.ensures.did m
          ((c.delete_did-did.ensures ∙ ap (λ (f : Option ℕ). delete_made f (change.Del c.args.pair) c.in-Err-erase_seen.fault) c.frozen-in-Err-erase_seen.ensures.is) ∙ is);
      tries = λ none. (subst (λ (l : List ℕ). IsTried g.D.Disk.fault_count g.D.Disk.fuse_count c.args.tag l
          (record c.loop-replica.kept { logical = c.erase_seen.new.self }).logical.replicas c.act_made-made-in-Err-erase_seen.result) c.faults_of-before.ensures
          (c.act_made-made-in-Err-erase_seen.ensures.tried ((c.delete_did-did.ensures ∙ ap (λ (f : Option ℕ). delete_made f (change.Del c.args.pair) c.in-Err-erase_seen.fault)
          c.frozen-in-Err-erase_seen.ensures.is) ∙ none)));
    })).always m f is))

pub returns-in-Err-erase_seen-clause-held : goal.returns-in-Err-erase_seen-clause-held
returns-in-Err-erase_seen-clause-held g c =
    subst (λ (s : Seated g.row.D.Denot g.row.P.Denot). UnfusedHolding c.args.tag s.sight (seat_of c.free-in-Err-erase_seen.new.seat c.loop-replica.seat-inside.view).sight) c.seat.view_is
    (changed_held g.D.Disk.Tells g.D.Disk.files g.P.Piece.Tells g.D.Disk.fault_count g.D.Disk.fuse_count c.args.tag c.seat.inside.turn c.loop-replica.seat-inside.turn
    c.seat.inside.view c.show_all.new.seat c.loop-replica.seat-inside.view c.hold-kept.result (record c.loop-replica.kept { logical = c.erase_seen.new.self })
    c.act_made-made-in-Err-erase_seen.result
    c.seat.invariant (subst (λ (t : SeatState (Opened g.row.D.Denot g.row.P.Denot) VolumeAct).
    Holds (λ act. act.seat) (λ opened acts x. IsKept g.D.Disk.Tells g.D.Disk.files g.P.Piece.Tells g.D.Disk.fault_count g.D.Disk.fuse_count opened acts x) c.seat.inside.turn t
    c.hold-kept.result) (sym c.loop-replica.invariant.turn) c.hold-kept.ensures) c.show_all.ensures.seen.0 c.show_all.ensures.seen.1 c.loop-replica.invariant.view
    (erase_refused g.D.Disk.Tells g.D.Disk.files g.P.Piece.Tells g.D.Disk.fault_count g.D.Disk.fuse_count c.args.tag c.loop-replica.kept
    (record c.loop-replica.kept { logical = c.erase_seen.new.self }) c.args.pair refl refl refl refl
    (serves_now g.D.Disk.Tells g.D.Disk.files g.P.Piece.Tells g.D.Disk.fault_count g.D.Disk.fuse_count c.args.tag c.loop-replica.kept
    (since g.D.Disk.Tells g.D.Disk.files g.P.Piece.Tells g.D.Disk.fault_count g.D.Disk.fuse_count c.args.tag c.hold-kept.result c.loop-replica.kept c.seat.invariant.opened
    c.hold-kept.new.seat.seen (is_held g.D.Disk.Tells g.D.Disk.files g.P.Piece.Tells g.D.Disk.fault_count g.D.Disk.fuse_count c.seat.invariant c.hold-kept.ensures)
    (sym c.in_default.ensures.is) c.loop-replica.invariant.sees)) (thawed_now g.D.Disk.Tells g.D.Disk.files g.P.Piece.Tells g.D.Disk.fault_count g.D.Disk.fuse_count c.args.tag
    c.loop-replica.kept (since g.D.Disk.Tells g.D.Disk.files g.P.Piece.Tells g.D.Disk.fault_count g.D.Disk.fuse_count c.args.tag c.hold-kept.result c.loop-replica.kept
    c.seat.invariant.opened c.hold-kept.new.seat.seen (is_held g.D.Disk.Tells g.D.Disk.files g.P.Piece.Tells g.D.Disk.fault_count g.D.Disk.fuse_count c.seat.invariant
    c.hold-kept.ensures) (sym c.in_default.ensures.is) c.loop-replica.invariant.sees)) c.in-Err-erase_seen.ensures.same c.in-Err-erase_seen.ensures.open
    c.in-Err-erase_seen.ensures.counts c.in-Err-erase_seen.ensures.kept (λ tells thawed j tight.
    c.in-Err-erase_seen.ensures.tight tells j tight (unsure_kept c.args.tag c.args.pair c.loop-replica.kept.logical c.erase_seen.new.self c.in-Err-erase_seen.fault
    c.in-Err-erase_seen.ensures.refused_seen thawed)) c.in-Err-erase_seen.fault c.in-Err-erase_seen.ensures.refused c.in-Err-erase_seen.ensures.causes
    (λ m at e. c.in-Err-erase_seen.ensures.undamaged m at (ap Err e)) c.hold-kept.result (sym c.in_default.ensures.is) c.loop-replica.invariant.sees
    c.act_made-made-in-Err-erase_seen.result (record {
      acts = λ m is. c.act_made-made-in-Err-erase_seen.ensures.did m
          ((c.delete_did-did.ensures ∙ ap (λ (f : Option ℕ). delete_made f (change.Del c.args.pair) c.in-Err-erase_seen.fault) c.frozen-in-Err-erase_seen.ensures.is) ∙ is);
      tries = λ none. (subst (λ (l : List ℕ). IsTried g.D.Disk.fault_count g.D.Disk.fuse_count c.args.tag l
          (record c.loop-replica.kept { logical = c.erase_seen.new.self }).logical.replicas c.act_made-made-in-Err-erase_seen.result) c.faults_of-before.ensures
          (c.act_made-made-in-Err-erase_seen.ensures.tried ((c.delete_did-did.ensures ∙ ap (λ (f : Option ℕ). delete_made f (change.Del c.args.pair) c.in-Err-erase_seen.fault)
          c.frozen-in-Err-erase_seen.ensures.is) ∙ none)));
    })).leaves c.free-in-Err-erase_seen.new.seat c.free-in-Err-erase_seen.ensures
    (made_unfused_by g.D.Disk.fault_count g.D.Disk.fuse_count c.args.tag _ _ c.delete_did-did.result c.act_made-made-in-Err-erase_seen.result
    (subst (λ (o : Option Made). IfSome o IsNoFuse) (sym c.delete_did-did.ensures) (delete_unfused _ _ _)) c.act_made-made-in-Err-erase_seen.ensures.did
    c.act_made-made-in-Err-erase_seen.ensures.tried))

pub publish-requires-2-clause-open : goal.publish-requires-2-clause-open
publish-requires-2-clause-open g c =
    (serves_now g.D.Disk.Tells g.D.Disk.files g.P.Piece.Tells g.D.Disk.fault_count g.D.Disk.fuse_count c.args.tag c.loop-replica.kept
    (since g.D.Disk.Tells g.D.Disk.files g.P.Piece.Tells g.D.Disk.fault_count g.D.Disk.fuse_count c.args.tag c.hold-kept.result c.loop-replica.kept c.seat.invariant.opened
    c.hold-kept.new.seat.seen (is_held g.D.Disk.Tells g.D.Disk.files g.P.Piece.Tells g.D.Disk.fault_count g.D.Disk.fuse_count c.seat.invariant c.hold-kept.ensures)
    (sym c.in_default.ensures.is) c.loop-replica.invariant.sees))

pub publish-requires-2-clause-fact : goal.publish-requires-2-clause-fact
publish-requires-2-clause-fact g c =
    erase_may g.D.Disk.Tells g.D.Disk.files g.P.Piece.Tells g.D.Disk.fault_count g.D.Disk.fuse_count c.args.tag c.loop-replica.kept c.args.pair c.deletion.result
    c.deletion.ensures.change c.deletion.ensures.entered (since g.D.Disk.Tells g.D.Disk.files g.P.Piece.Tells g.D.Disk.fault_count g.D.Disk.fuse_count c.args.tag c.hold-kept.result
    c.loop-replica.kept c.seat.invariant.opened c.hold-kept.new.seat.seen (is_held g.D.Disk.Tells g.D.Disk.files g.P.Piece.Tells g.D.Disk.fault_count g.D.Disk.fuse_count
    c.seat.invariant c.hold-kept.ensures) (sym c.in_default.ensures.is) c.loop-replica.invariant.sees) c.loop-replica.invariant.fact

pub act_made-made-requires-in_default-publish-2-clause-all : goal.act_made-made-requires-in_default-publish-2-clause-all
act_made-made-requires-in_default-publish-2-clause-all g c =
    c.give_up.ensures.counts.count ∙ c.erase_seen.ensures.counts.count ∙ c.loop-replica.invariant.sees.of.count
    ∙ (all_there g.D.Disk.Tells g.D.Disk.files g.P.Piece.Tells g.D.Disk.fault_count g.D.Disk.fuse_count c.seat.invariant c.hold-kept.ensures)

pub act_made-made-requires-in_default-publish-2-clause-most : goal.act_made-made-requires-in_default-publish-2-clause-most
act_made-made-requires-in_default-publish-2-clause-most g c = (few_there g.D.Disk.Tells g.D.Disk.files g.P.Piece.Tells g.D.Disk.fault_count g.D.Disk.fuse_count c.seat.invariant c.hold-kept.ensures)

pub free-requires-in_default-publish-2-clause-may : goal.free-requires-in_default-publish-2-clause-may
free-requires-in_default-publish-2-clause-may g c = record {
  stands_for =
      changed_free g.D.Disk.Tells g.D.Disk.files g.P.Piece.Tells g.D.Disk.fault_count g.D.Disk.fuse_count c.args.tag c.seat.inside.turn c.loop-replica.seat-inside.turn
      c.seat.inside.view c.show_all.new.seat c.publish-2.new.seat c.hold-kept.result (record c.loop-replica.kept { logical = c.give_up.new.self; front = c.publish-2.new.self })
      c.act_made-made-in_default-publish-2.result
      c.seat.invariant (subst (λ (t : SeatState (Opened g.row.D.Denot g.row.P.Denot) VolumeAct).
      Holds (λ act. act.seat) (λ opened acts x. IsKept g.D.Disk.Tells g.D.Disk.files g.P.Piece.Tells g.D.Disk.fault_count g.D.Disk.fuse_count opened acts x) c.seat.inside.turn
      t c.hold-kept.result) (sym c.loop-replica.invariant.turn) c.hold-kept.ensures) c.show_all.ensures.seen.0 c.show_all.ensures.seen.1 c.in_default-publish-2.ensures.seen.1
      (erase_unshown g.D.Disk.Tells g.D.Disk.files g.P.Piece.Tells g.D.Disk.fault_count g.D.Disk.fuse_count c.args.tag c.loop-replica.kept c.args.pair c.deletion.result
      c.deletion.ensures.change c.deletion.ensures.entered (record c.loop-replica.kept { logical = c.give_up.new.self; front = c.publish-2.new.self }) c.erase_seen.new.self
      c.in-Ok-erase_seen.erased refl refl (thawed_now g.D.Disk.Tells g.D.Disk.files g.P.Piece.Tells g.D.Disk.fault_count g.D.Disk.fuse_count c.args.tag c.loop-replica.kept
      (since g.D.Disk.Tells g.D.Disk.files g.P.Piece.Tells g.D.Disk.fault_count g.D.Disk.fuse_count c.args.tag c.hold-kept.result c.loop-replica.kept c.seat.invariant.opened
      c.hold-kept.new.seat.seen (is_held g.D.Disk.Tells g.D.Disk.files g.P.Piece.Tells g.D.Disk.fault_count g.D.Disk.fuse_count c.seat.invariant c.hold-kept.ensures)
      (sym c.in_default.ensures.is) c.loop-replica.invariant.sees)) c.in-Ok-erase_seen.ensures.same c.in-Ok-erase_seen.ensures.open c.in-Ok-erase_seen.ensures.counts
      c.in-Ok-erase_seen.ensures.erased refl (ap (λ f. f.shown) c.in_default-publish-2.ensures.refused) (ap (λ f. f.log) c.in_default-publish-2.ensures.refused)
      c.give_up.ensures.pending c.give_up.ensures.same c.give_up.ensures.open c.give_up.ensures.counts (ap (λ v. v.frozen) c.give_up.ensures.still) c.hold-kept.result
      (sym c.in_default.ensures.is) c.loop-replica.invariant.sees c.act_made-made-in_default-publish-2.result
      (record {
        acts = λ m is. c.act_made-made-in_default-publish-2.ensures.did m ((c.pended-did.ensures
            ∙ ap (λ (f : Option ℕ). pends_by f (change.Del c.args.pair) false) c.frozen-in_default-publish-2.ensures.is) ∙ is);
        tries = λ none. (subst (λ (l : List ℕ). IsTried g.D.Disk.fault_count g.D.Disk.fuse_count c.args.tag l
            (record c.loop-replica.kept { logical = c.give_up.new.self; front = c.publish-2.new.self }).logical.replicas c.act_made-made-in_default-publish-2.result)
            c.faults_of-before.ensures (c.act_made-made-in_default-publish-2.ensures.tried ((c.pended-did.ensures
            ∙ ap (λ (f : Option ℕ). pends_by f (change.Del c.args.pair) false) c.frozen-in_default-publish-2.ensures.is) ∙ none)));
      })).leaves;
  mine =
      changed_mine g.D.Disk.Tells g.D.Disk.files g.P.Piece.Tells g.D.Disk.fault_count g.D.Disk.fuse_count c.args.tag c.seat.inside.turn c.loop-replica.seat-inside.turn
      c.seat.inside.view c.show_all.new.seat c.publish-2.new.seat c.hold-kept.result (record c.loop-replica.kept { logical = c.give_up.new.self; front = c.publish-2.new.self })
      c.act_made-made-in_default-publish-2.result
      c.seat.invariant (subst (λ (t : SeatState (Opened g.row.D.Denot g.row.P.Denot) VolumeAct).
      Holds (λ act. act.seat) (λ opened acts x. IsKept g.D.Disk.Tells g.D.Disk.files g.P.Piece.Tells g.D.Disk.fault_count g.D.Disk.fuse_count opened acts x) c.seat.inside.turn
      t c.hold-kept.result) (sym c.loop-replica.invariant.turn) c.hold-kept.ensures) c.show_all.ensures.seen.0 c.show_all.ensures.seen.1 c.in_default-publish-2.ensures.seen.1
      (erase_unshown g.D.Disk.Tells g.D.Disk.files g.P.Piece.Tells g.D.Disk.fault_count g.D.Disk.fuse_count c.args.tag c.loop-replica.kept c.args.pair c.deletion.result
      c.deletion.ensures.change c.deletion.ensures.entered (record c.loop-replica.kept { logical = c.give_up.new.self; front = c.publish-2.new.self }) c.erase_seen.new.self
      c.in-Ok-erase_seen.erased refl refl (thawed_now g.D.Disk.Tells g.D.Disk.files g.P.Piece.Tells g.D.Disk.fault_count g.D.Disk.fuse_count c.args.tag c.loop-replica.kept
      (since g.D.Disk.Tells g.D.Disk.files g.P.Piece.Tells g.D.Disk.fault_count g.D.Disk.fuse_count c.args.tag c.hold-kept.result c.loop-replica.kept c.seat.invariant.opened
      c.hold-kept.new.seat.seen (is_held g.D.Disk.Tells g.D.Disk.files g.P.Piece.Tells g.D.Disk.fault_count g.D.Disk.fuse_count c.seat.invariant c.hold-kept.ensures)
      (sym c.in_default.ensures.is) c.loop-replica.invariant.sees)) c.in-Ok-erase_seen.ensures.same c.in-Ok-erase_seen.ensures.open c.in-Ok-erase_seen.ensures.counts
      c.in-Ok-erase_seen.ensures.erased refl (ap (λ f. f.shown) c.in_default-publish-2.ensures.refused) (ap (λ f. f.log) c.in_default-publish-2.ensures.refused)
      c.give_up.ensures.pending c.give_up.ensures.same c.give_up.ensures.open c.give_up.ensures.counts (ap (λ v. v.frozen) c.give_up.ensures.still) c.hold-kept.result
      (sym c.in_default.ensures.is) c.loop-replica.invariant.sees c.act_made-made-in_default-publish-2.result
      (record {
        acts = λ m is. c.act_made-made-in_default-publish-2.ensures.did m ((c.pended-did.ensures
            ∙ ap (λ (f : Option ℕ). pends_by f (change.Del c.args.pair) false) c.frozen-in_default-publish-2.ensures.is) ∙ is);
        tries = λ none. (subst (λ (l : List ℕ). IsTried g.D.Disk.fault_count g.D.Disk.fuse_count c.args.tag l
            (record c.loop-replica.kept { logical = c.give_up.new.self; front = c.publish-2.new.self }).logical.replicas c.act_made-made-in_default-publish-2.result)
            c.faults_of-before.ensures (c.act_made-made-in_default-publish-2.ensures.tried ((c.pended-did.ensures
            ∙ ap (λ (f : Option ℕ). pends_by f (change.Del c.args.pair) false) c.frozen-in_default-publish-2.ensures.is) ∙ none)));
      })).leaves
      (ap (λ (s : Seated g.row.D.Denot g.row.P.Denot). s.number) c.seat.view_is ∙ c.requires.may.lane);
}

pub invariant_of-seat-in_default-publish-2 : goal.invariant_of-seat-in_default-publish-2
invariant_of-seat-in_default-publish-2 g c =
    subst (λ (n : ℕ). IsSeated c.free-in_default-publish-2.new.seat n c.publish-2.new.seat) (sym c.loop-replica.invariant.stood)
    (changed_seated g.D.Disk.Tells g.D.Disk.files g.P.Piece.Tells g.D.Disk.fault_count g.D.Disk.fuse_count c.args.tag c.seat.inside.turn c.loop-replica.seat-inside.turn
    c.seat.inside.view c.show_all.new.seat c.publish-2.new.seat c.hold-kept.result (record c.loop-replica.kept { logical = c.give_up.new.self; front = c.publish-2.new.self })
    c.act_made-made-in_default-publish-2.result
    c.seat.invariant (subst (λ (t : SeatState (Opened g.row.D.Denot g.row.P.Denot) VolumeAct).
    Holds (λ act. act.seat) (λ opened acts x. IsKept g.D.Disk.Tells g.D.Disk.files g.P.Piece.Tells g.D.Disk.fault_count g.D.Disk.fuse_count opened acts x) c.seat.inside.turn t
    c.hold-kept.result) (sym c.loop-replica.invariant.turn) c.hold-kept.ensures) c.show_all.ensures.seen.0 c.show_all.ensures.seen.1 c.in_default-publish-2.ensures.seen.1
    (erase_unshown g.D.Disk.Tells g.D.Disk.files g.P.Piece.Tells g.D.Disk.fault_count g.D.Disk.fuse_count c.args.tag c.loop-replica.kept c.args.pair c.deletion.result
    c.deletion.ensures.change c.deletion.ensures.entered (record c.loop-replica.kept { logical = c.give_up.new.self; front = c.publish-2.new.self }) c.erase_seen.new.self
    c.in-Ok-erase_seen.erased refl refl (thawed_now g.D.Disk.Tells g.D.Disk.files g.P.Piece.Tells g.D.Disk.fault_count g.D.Disk.fuse_count c.args.tag c.loop-replica.kept
    (since g.D.Disk.Tells g.D.Disk.files g.P.Piece.Tells g.D.Disk.fault_count g.D.Disk.fuse_count c.args.tag c.hold-kept.result c.loop-replica.kept c.seat.invariant.opened
    c.hold-kept.new.seat.seen (is_held g.D.Disk.Tells g.D.Disk.files g.P.Piece.Tells g.D.Disk.fault_count g.D.Disk.fuse_count c.seat.invariant c.hold-kept.ensures)
    (sym c.in_default.ensures.is) c.loop-replica.invariant.sees)) c.in-Ok-erase_seen.ensures.same c.in-Ok-erase_seen.ensures.open c.in-Ok-erase_seen.ensures.counts
    c.in-Ok-erase_seen.ensures.erased refl (ap (λ f. f.shown) c.in_default-publish-2.ensures.refused) (ap (λ f. f.log) c.in_default-publish-2.ensures.refused)
    c.give_up.ensures.pending c.give_up.ensures.same c.give_up.ensures.open c.give_up.ensures.counts (ap (λ v. v.frozen) c.give_up.ensures.still) c.hold-kept.result
    (sym c.in_default.ensures.is) c.loop-replica.invariant.sees c.act_made-made-in_default-publish-2.result
    (record {
      acts = λ m is. c.act_made-made-in_default-publish-2.ensures.did m ((c.pended-did.ensures
          ∙ ap (λ (f : Option ℕ). pends_by f (change.Del c.args.pair) false) c.frozen-in_default-publish-2.ensures.is) ∙ is);
      tries = λ none. (subst (λ (l : List ℕ). IsTried g.D.Disk.fault_count g.D.Disk.fuse_count c.args.tag l
          (record c.loop-replica.kept { logical = c.give_up.new.self; front = c.publish-2.new.self }).logical.replicas c.act_made-made-in_default-publish-2.result)
          c.faults_of-before.ensures (c.act_made-made-in_default-publish-2.ensures.tried ((c.pended-did.ensures
          ∙ ap (λ (f : Option ℕ). pends_by f (change.Del c.args.pair) false) c.frozen-in_default-publish-2.ensures.is) ∙ none)));
    })).leaves c.free-in_default-publish-2.new.seat
    c.free-in_default-publish-2.ensures (ap (λ (s : Seated g.row.D.Denot g.row.P.Denot). s.number) c.seat.view_is ∙ c.requires.may.lane)
    (later_same c.seat.inside.view c.loop-replica.kept.front.shown c.publish-2.new.seat
    (later_more c.seat.inside.view c.hold-kept.result.front.shown c.loop-replica.kept.front.shown c.show_all.ensures.seen.0 c.loop-replica.invariant.later)
    (c.in_default-publish-2.ensures.seen.1 ∙ ap (λ f. f.shown) c.in_default-publish-2.ensures.refused)))

pub returns-in_default-publish-2-clause-deleted : goal.returns-in_default-publish-2-clause-deleted
returns-in_default-publish-2-clause-deleted g c =
    subst (λ (s : Seated g.row.D.Denot g.row.P.Denot). IsTold g.D.Disk.Tells g.D.Disk.files g.P.Piece.Tells g.D.Disk.fault_count g.D.Disk.fuse_count s.start
    (λ volume. DeleteAnswer volume c.args.tag c.args.pair (Err NoMemory) s.sight (seat_of c.free-in_default-publish-2.new.seat c.publish-2.new.seat).sight)) c.seat.view_is
    (changed_told g.D.Disk.Tells g.D.Disk.files g.P.Piece.Tells g.D.Disk.fault_count g.D.Disk.fuse_count c.args.tag c.seat.inside.turn c.loop-replica.seat-inside.turn
    c.seat.inside.view c.show_all.new.seat c.publish-2.new.seat c.hold-kept.result (record c.loop-replica.kept { logical = c.give_up.new.self; front = c.publish-2.new.self })
    c.act_made-made-in_default-publish-2.result
    c.seat.invariant (subst (λ (t : SeatState (Opened g.row.D.Denot g.row.P.Denot) VolumeAct).
    Holds (λ act. act.seat) (λ opened acts x. IsKept g.D.Disk.Tells g.D.Disk.files g.P.Piece.Tells g.D.Disk.fault_count g.D.Disk.fuse_count opened acts x) c.seat.inside.turn t
    c.hold-kept.result) (sym c.loop-replica.invariant.turn) c.hold-kept.ensures) c.show_all.ensures.seen.0 c.show_all.ensures.seen.1 c.in_default-publish-2.ensures.seen.1
    (erase_unshown g.D.Disk.Tells g.D.Disk.files g.P.Piece.Tells g.D.Disk.fault_count g.D.Disk.fuse_count c.args.tag c.loop-replica.kept c.args.pair c.deletion.result
    c.deletion.ensures.change c.deletion.ensures.entered (record c.loop-replica.kept { logical = c.give_up.new.self; front = c.publish-2.new.self }) c.erase_seen.new.self
    c.in-Ok-erase_seen.erased refl refl (thawed_now g.D.Disk.Tells g.D.Disk.files g.P.Piece.Tells g.D.Disk.fault_count g.D.Disk.fuse_count c.args.tag c.loop-replica.kept
    (since g.D.Disk.Tells g.D.Disk.files g.P.Piece.Tells g.D.Disk.fault_count g.D.Disk.fuse_count c.args.tag c.hold-kept.result c.loop-replica.kept c.seat.invariant.opened
    c.hold-kept.new.seat.seen (is_held g.D.Disk.Tells g.D.Disk.files g.P.Piece.Tells g.D.Disk.fault_count g.D.Disk.fuse_count c.seat.invariant c.hold-kept.ensures)
    (sym c.in_default.ensures.is) c.loop-replica.invariant.sees)) c.in-Ok-erase_seen.ensures.same c.in-Ok-erase_seen.ensures.open c.in-Ok-erase_seen.ensures.counts
    c.in-Ok-erase_seen.ensures.erased refl (ap (λ f. f.shown) c.in_default-publish-2.ensures.refused) (ap (λ f. f.log) c.in_default-publish-2.ensures.refused)
    c.give_up.ensures.pending c.give_up.ensures.same c.give_up.ensures.open c.give_up.ensures.counts (ap (λ v. v.frozen) c.give_up.ensures.still) c.hold-kept.result
    (sym c.in_default.ensures.is) c.loop-replica.invariant.sees c.act_made-made-in_default-publish-2.result
    (record {
      acts = λ m is. c.act_made-made-in_default-publish-2.ensures.did m ((c.pended-did.ensures
          ∙ ap (λ (f : Option ℕ). pends_by f (change.Del c.args.pair) false) c.frozen-in_default-publish-2.ensures.is) ∙ is);
      tries = λ none. (subst (λ (l : List ℕ). IsTried g.D.Disk.fault_count g.D.Disk.fuse_count c.args.tag l
          (record c.loop-replica.kept { logical = c.give_up.new.self; front = c.publish-2.new.self }).logical.replicas c.act_made-made-in_default-publish-2.result)
          c.faults_of-before.ensures (c.act_made-made-in_default-publish-2.ensures.tried ((c.pended-did.ensures
          ∙ ap (λ (f : Option ℕ). pends_by f (change.Del c.args.pair) false) c.frozen-in_default-publish-2.ensures.is) ∙ none)));
    })).leaves c.free-in_default-publish-2.new.seat
    c.free-in_default-publish-2.ensures (λ volume. DeleteAnswer volume c.args.tag c.args.pair (Err NoMemory))
    (erase_unshown g.D.Disk.Tells g.D.Disk.files g.P.Piece.Tells g.D.Disk.fault_count g.D.Disk.fuse_count c.args.tag c.loop-replica.kept c.args.pair c.deletion.result
    c.deletion.ensures.change c.deletion.ensures.entered (record c.loop-replica.kept { logical = c.give_up.new.self; front = c.publish-2.new.self }) c.erase_seen.new.self
    c.in-Ok-erase_seen.erased refl refl (thawed_now g.D.Disk.Tells g.D.Disk.files g.P.Piece.Tells g.D.Disk.fault_count g.D.Disk.fuse_count c.args.tag c.loop-replica.kept
    (since g.D.Disk.Tells g.D.Disk.files g.P.Piece.Tells g.D.Disk.fault_count g.D.Disk.fuse_count c.args.tag c.hold-kept.result c.loop-replica.kept c.seat.invariant.opened
    c.hold-kept.new.seat.seen (is_held g.D.Disk.Tells g.D.Disk.files g.P.Piece.Tells g.D.Disk.fault_count g.D.Disk.fuse_count c.seat.invariant c.hold-kept.ensures)
    (sym c.in_default.ensures.is) c.loop-replica.invariant.sees)) c.in-Ok-erase_seen.ensures.same c.in-Ok-erase_seen.ensures.open c.in-Ok-erase_seen.ensures.counts
    c.in-Ok-erase_seen.ensures.erased refl (ap (λ f. f.shown) c.in_default-publish-2.ensures.refused) (ap (λ f. f.log) c.in_default-publish-2.ensures.refused)
    c.give_up.ensures.pending c.give_up.ensures.same c.give_up.ensures.open c.give_up.ensures.counts (ap (λ v. v.frozen) c.give_up.ensures.still) c.hold-kept.result
    (sym c.in_default.ensures.is) c.loop-replica.invariant.sees c.act_made-made-in_default-publish-2.result
    (record {
      acts = λ m is. c.act_made-made-in_default-publish-2.ensures.did m ((c.pended-did.ensures
          ∙ ap (λ (f : Option ℕ). pends_by f (change.Del c.args.pair) false) c.frozen-in_default-publish-2.ensures.is) ∙ is);
      tries = λ none. (subst (λ (l : List ℕ). IsTried g.D.Disk.fault_count g.D.Disk.fuse_count c.args.tag l
          (record c.loop-replica.kept { logical = c.give_up.new.self; front = c.publish-2.new.self }).logical.replicas c.act_made-made-in_default-publish-2.result)
          c.faults_of-before.ensures (c.act_made-made-in_default-publish-2.ensures.tried ((c.pended-did.ensures
          ∙ ap (λ (f : Option ℕ). pends_by f (change.Del c.args.pair) false) c.frozen-in_default-publish-2.ensures.is) ∙ none)));
    })).told)

pub returns-in_default-publish-2-clause-held : goal.returns-in_default-publish-2-clause-held
returns-in_default-publish-2-clause-held g c =
    subst (λ (s : Seated g.row.D.Denot g.row.P.Denot). UnfusedHolding c.args.tag s.sight (seat_of c.free-in_default-publish-2.new.seat c.publish-2.new.seat).sight) c.seat.view_is
    (changed_held g.D.Disk.Tells g.D.Disk.files g.P.Piece.Tells g.D.Disk.fault_count g.D.Disk.fuse_count c.args.tag c.seat.inside.turn c.loop-replica.seat-inside.turn
    c.seat.inside.view c.show_all.new.seat c.publish-2.new.seat c.hold-kept.result (record c.loop-replica.kept { logical = c.give_up.new.self; front = c.publish-2.new.self })
    c.act_made-made-in_default-publish-2.result
    c.seat.invariant (subst (λ (t : SeatState (Opened g.row.D.Denot g.row.P.Denot) VolumeAct).
    Holds (λ act. act.seat) (λ opened acts x. IsKept g.D.Disk.Tells g.D.Disk.files g.P.Piece.Tells g.D.Disk.fault_count g.D.Disk.fuse_count opened acts x) c.seat.inside.turn t
    c.hold-kept.result) (sym c.loop-replica.invariant.turn) c.hold-kept.ensures) c.show_all.ensures.seen.0 c.show_all.ensures.seen.1 c.in_default-publish-2.ensures.seen.1
    (erase_unshown g.D.Disk.Tells g.D.Disk.files g.P.Piece.Tells g.D.Disk.fault_count g.D.Disk.fuse_count c.args.tag c.loop-replica.kept c.args.pair c.deletion.result
    c.deletion.ensures.change c.deletion.ensures.entered (record c.loop-replica.kept { logical = c.give_up.new.self; front = c.publish-2.new.self }) c.erase_seen.new.self
    c.in-Ok-erase_seen.erased refl refl (thawed_now g.D.Disk.Tells g.D.Disk.files g.P.Piece.Tells g.D.Disk.fault_count g.D.Disk.fuse_count c.args.tag c.loop-replica.kept
    (since g.D.Disk.Tells g.D.Disk.files g.P.Piece.Tells g.D.Disk.fault_count g.D.Disk.fuse_count c.args.tag c.hold-kept.result c.loop-replica.kept c.seat.invariant.opened
    c.hold-kept.new.seat.seen (is_held g.D.Disk.Tells g.D.Disk.files g.P.Piece.Tells g.D.Disk.fault_count g.D.Disk.fuse_count c.seat.invariant c.hold-kept.ensures)
    (sym c.in_default.ensures.is) c.loop-replica.invariant.sees)) c.in-Ok-erase_seen.ensures.same c.in-Ok-erase_seen.ensures.open c.in-Ok-erase_seen.ensures.counts
    c.in-Ok-erase_seen.ensures.erased refl (ap (λ f. f.shown) c.in_default-publish-2.ensures.refused) (ap (λ f. f.log) c.in_default-publish-2.ensures.refused)
    c.give_up.ensures.pending c.give_up.ensures.same c.give_up.ensures.open c.give_up.ensures.counts (ap (λ v. v.frozen) c.give_up.ensures.still) c.hold-kept.result
    (sym c.in_default.ensures.is) c.loop-replica.invariant.sees c.act_made-made-in_default-publish-2.result
    (record {
      acts = λ m is. c.act_made-made-in_default-publish-2.ensures.did m ((c.pended-did.ensures
          ∙ ap (λ (f : Option ℕ). pends_by f (change.Del c.args.pair) false) c.frozen-in_default-publish-2.ensures.is) ∙ is);
      tries = λ none. (subst (λ (l : List ℕ). IsTried g.D.Disk.fault_count g.D.Disk.fuse_count c.args.tag l
          (record c.loop-replica.kept { logical = c.give_up.new.self; front = c.publish-2.new.self }).logical.replicas c.act_made-made-in_default-publish-2.result)
          c.faults_of-before.ensures (c.act_made-made-in_default-publish-2.ensures.tried ((c.pended-did.ensures
          ∙ ap (λ (f : Option ℕ). pends_by f (change.Del c.args.pair) false) c.frozen-in_default-publish-2.ensures.is) ∙ none)));
    })).leaves c.free-in_default-publish-2.new.seat
    c.free-in_default-publish-2.ensures
    (made_unfused_by g.D.Disk.fault_count g.D.Disk.fuse_count c.args.tag _ _ c.pended-did.result c.act_made-made-in_default-publish-2.result
    (subst (λ (o : Option Made). IfSome o IsNoFuse) (sym c.pended-did.ensures) (pends_unfused _ _ _)) c.act_made-made-in_default-publish-2.ensures.did
    c.act_made-made-in_default-publish-2.ensures.tried))

pub over_of-over-requires-clause-all : goal.over_of-over-requires-clause-all
over_of-over-requires-clause-all g c =
    (ap length (ap (λ v. v.replicas) c.hide-position.ensures.still) ∙ c.erase_seen.ensures.counts.count ∙ c.loop-replica.invariant.sees.of.count
    ∙ (all_there g.D.Disk.Tells g.D.Disk.files g.P.Piece.Tells g.D.Disk.fault_count g.D.Disk.fuse_count c.seat.invariant c.hold-kept.ensures))

pub over_of-over-requires-clause-most : goal.over_of-over-requires-clause-most
over_of-over-requires-clause-most g c = (few_there g.D.Disk.Tells g.D.Disk.files g.P.Piece.Tells g.D.Disk.fault_count g.D.Disk.fuse_count c.seat.invariant c.hold-kept.ensures)

pub over_of-over-requires-clause-runs : goal.over_of-over-requires-clause-runs
over_of-over-requires-clause-runs g c =
    (ap length c.runs_of-runs.ensures ∙ length-map c.loop-replica.kept.logical.replicas goal_of ∙ c.loop-replica.invariant.sees.of.count
    ∙ (all_there g.D.Disk.Tells g.D.Disk.files g.P.Piece.Tells g.D.Disk.fault_count g.D.Disk.fuse_count c.seat.invariant c.hold-kept.ensures))

pub note_ended-requires-clause-all : goal.note_ended-requires-clause-all
note_ended-requires-clause-all g c =
    (ap length (ap (λ v. v.replicas) c.hide-position.ensures.still) ∙ c.erase_seen.ensures.counts.count ∙ c.loop-replica.invariant.sees.of.count
    ∙ (all_there g.D.Disk.Tells g.D.Disk.files g.P.Piece.Tells g.D.Disk.fault_count g.D.Disk.fuse_count c.seat.invariant c.hold-kept.ensures))

pub note_ended-requires-clause-most : goal.note_ended-requires-clause-most
note_ended-requires-clause-most g c = (few_there g.D.Disk.Tells g.D.Disk.files g.P.Piece.Tells g.D.Disk.fault_count g.D.Disk.fuse_count c.seat.invariant c.hold-kept.ensures)

pub note_ended-requires-clause-over : goal.note_ended-requires-clause-over
note_ended-requires-clause-over g c =
    ap length (c.as_slice.ensures.value ∙ c.over_of-over.ensures) ∙ over_long c.runs_of-runs.result.items c.hide-position.new.self.replicas c.hold-kept.result.settings.replicas
    (ap length c.runs_of-runs.ensures ∙ length-map c.loop-replica.kept.logical.replicas goal_of ∙ c.loop-replica.invariant.sees.of.count
    ∙ (all_there g.D.Disk.Tells g.D.Disk.files g.P.Piece.Tells g.D.Disk.fault_count g.D.Disk.fuse_count c.seat.invariant c.hold-kept.ensures))
    (ap length (ap (λ v. v.replicas) c.hide-position.ensures.still) ∙ c.erase_seen.ensures.counts.count ∙ c.loop-replica.invariant.sees.of.count
    ∙ (all_there g.D.Disk.Tells g.D.Disk.files g.P.Piece.Tells g.D.Disk.fault_count g.D.Disk.fuse_count c.seat.invariant c.hold-kept.ensures))

pub free-requires-2-clause-may : goal.free-requires-2-clause-may
free-requires-2-clause-may g c = record {
  stands_for =
      changed_free g.D.Disk.Tells g.D.Disk.files g.P.Piece.Tells g.D.Disk.fault_count g.D.Disk.fuse_count c.args.tag c.seat.inside.turn c.loop-replica.seat-inside.turn
      c.seat.inside.view c.show_all.new.seat c.publish-2.new.seat c.hold-kept.result (record c.loop-replica.kept
      { logical = c.hide-position.new.self; front = c.publish-2.new.self; ended = c.note_ended.new.ended }) (Some c.new-act.result)
      c.seat.invariant (subst (λ (t : SeatState (Opened g.row.D.Denot g.row.P.Denot) VolumeAct).
      Holds (λ act. act.seat) (λ opened acts x. IsKept g.D.Disk.Tells g.D.Disk.files g.P.Piece.Tells g.D.Disk.fault_count g.D.Disk.fuse_count opened acts x) c.seat.inside.turn
      t c.hold-kept.result) (sym c.loop-replica.invariant.turn) c.hold-kept.ensures) c.show_all.ensures.seen.0 c.show_all.ensures.seen.1 c.in-Ok-publish-2.ensures.seen.1
      (erase_shown g.D.Disk.Tells g.D.Disk.files g.P.Piece.Tells g.D.Disk.fault_count g.D.Disk.fuse_count c.args.tag c.loop-replica.kept c.args.pair c.deletion.result
      c.deletion.ensures.change c.deletion.ensures.entered (record c.loop-replica.kept {
        logical = c.hide-position.new.self;
        front = c.publish-2.new.self;
        ended = c.note_ended.new.ended;
      }) c.erase_seen.new.self c.in-Ok-erase_seen.erased refl refl
      (thawed_now g.D.Disk.Tells g.D.Disk.files g.P.Piece.Tells g.D.Disk.fault_count g.D.Disk.fuse_count c.args.tag c.loop-replica.kept
      (since g.D.Disk.Tells g.D.Disk.files g.P.Piece.Tells g.D.Disk.fault_count g.D.Disk.fuse_count c.args.tag c.hold-kept.result c.loop-replica.kept c.seat.invariant.opened
      c.hold-kept.new.seat.seen (is_held g.D.Disk.Tells g.D.Disk.files g.P.Piece.Tells g.D.Disk.fault_count g.D.Disk.fuse_count c.seat.invariant c.hold-kept.ensures)
      (sym c.in_default.ensures.is) c.loop-replica.invariant.sees)) c.in-Ok-erase_seen.ensures.same c.in-Ok-erase_seen.ensures.open c.in-Ok-erase_seen.ensures.counts
      c.in-Ok-erase_seen.ensures.erased c.hide-position.result c.past_of.result (record { tag = c.front_tag-2.result; deed = c.deletion.result }) c.front_tag-2.ensures
      c.in-Ok-publish-2.ensures.done.0
      c.in-Ok-erase_seen.ensures.of.0 c.in-Ok-erase_seen.ensures.still c.hide-position.ensures.rows c.hide-position.ensures.still c.hide-position.ensures.deleted
      (c.past_of.ensures ∙ c.as_slice-2.ensures.value ∙ (c.over_of-over.ensures ∙ ap (λ (l : List (Option ℕ)). over_since l c.hide-position.new.self.replicas)
      c.runs_of-runs.ensures)) (λ j lane less few. c.note_ended.ensures j lane (subst (λ (s : Settings). j < s.replicas) c.loop-replica.invariant.sees.of.settings less) few
      ∙ ap (λ (l : List Bool). noted l c.loop-replica.kept.begun (counts g.D.Disk.fault_count c.hide-position.new.self.replicas) c.loop-replica.kept.ended j lane)
      (c.as_slice.ensures.value ∙ sym (c.past_of.ensures ∙ c.as_slice-2.ensures.value))) c.hold-kept.result (sym c.in_default.ensures.is) c.loop-replica.invariant.sees (Some c.new-act.result)
      (made_act g.D.Disk.Tells g.D.Disk.files g.P.Piece.Tells g.D.Disk.fault_count g.D.Disk.fuse_count c.args.tag c.hold-kept.result
      (record c.loop-replica.kept { logical = c.hide-position.new.self; front = c.publish-2.new.self; ended = c.note_ended.new.ended })
      (made_is.Enters (change.Del c.args.pair) c.past_of.result) c.new-act.result (c.new-act.ensures
      ∙ ap (λ (e : Entry). act_of g.D.Disk.fault_count g.D.Disk.fuse_count c.args.tag (made_is.Enters e c.past_of.result) c.hide-position.new.self.replicas) c.of.ensures))).leaves;
  mine =
      changed_mine g.D.Disk.Tells g.D.Disk.files g.P.Piece.Tells g.D.Disk.fault_count g.D.Disk.fuse_count c.args.tag c.seat.inside.turn c.loop-replica.seat-inside.turn
      c.seat.inside.view c.show_all.new.seat c.publish-2.new.seat c.hold-kept.result (record c.loop-replica.kept
      { logical = c.hide-position.new.self; front = c.publish-2.new.self; ended = c.note_ended.new.ended }) (Some c.new-act.result)
      c.seat.invariant (subst (λ (t : SeatState (Opened g.row.D.Denot g.row.P.Denot) VolumeAct).
      Holds (λ act. act.seat) (λ opened acts x. IsKept g.D.Disk.Tells g.D.Disk.files g.P.Piece.Tells g.D.Disk.fault_count g.D.Disk.fuse_count opened acts x) c.seat.inside.turn
      t c.hold-kept.result) (sym c.loop-replica.invariant.turn) c.hold-kept.ensures) c.show_all.ensures.seen.0 c.show_all.ensures.seen.1 c.in-Ok-publish-2.ensures.seen.1
      (erase_shown g.D.Disk.Tells g.D.Disk.files g.P.Piece.Tells g.D.Disk.fault_count g.D.Disk.fuse_count c.args.tag c.loop-replica.kept c.args.pair c.deletion.result
      c.deletion.ensures.change c.deletion.ensures.entered (record c.loop-replica.kept {
        logical = c.hide-position.new.self;
        front = c.publish-2.new.self;
        ended = c.note_ended.new.ended;
      }) c.erase_seen.new.self c.in-Ok-erase_seen.erased refl refl
      (thawed_now g.D.Disk.Tells g.D.Disk.files g.P.Piece.Tells g.D.Disk.fault_count g.D.Disk.fuse_count c.args.tag c.loop-replica.kept
      (since g.D.Disk.Tells g.D.Disk.files g.P.Piece.Tells g.D.Disk.fault_count g.D.Disk.fuse_count c.args.tag c.hold-kept.result c.loop-replica.kept c.seat.invariant.opened
      c.hold-kept.new.seat.seen (is_held g.D.Disk.Tells g.D.Disk.files g.P.Piece.Tells g.D.Disk.fault_count g.D.Disk.fuse_count c.seat.invariant c.hold-kept.ensures)
      (sym c.in_default.ensures.is) c.loop-replica.invariant.sees)) c.in-Ok-erase_seen.ensures.same c.in-Ok-erase_seen.ensures.open c.in-Ok-erase_seen.ensures.counts
      c.in-Ok-erase_seen.ensures.erased c.hide-position.result c.past_of.result (record { tag = c.front_tag-2.result; deed = c.deletion.result }) c.front_tag-2.ensures
      c.in-Ok-publish-2.ensures.done.0
      c.in-Ok-erase_seen.ensures.of.0 c.in-Ok-erase_seen.ensures.still c.hide-position.ensures.rows c.hide-position.ensures.still c.hide-position.ensures.deleted
      (c.past_of.ensures ∙ c.as_slice-2.ensures.value ∙ (c.over_of-over.ensures ∙ ap (λ (l : List (Option ℕ)). over_since l c.hide-position.new.self.replicas)
      c.runs_of-runs.ensures)) (λ j lane less few. c.note_ended.ensures j lane (subst (λ (s : Settings). j < s.replicas) c.loop-replica.invariant.sees.of.settings less) few
      ∙ ap (λ (l : List Bool). noted l c.loop-replica.kept.begun (counts g.D.Disk.fault_count c.hide-position.new.self.replicas) c.loop-replica.kept.ended j lane)
      (c.as_slice.ensures.value ∙ sym (c.past_of.ensures ∙ c.as_slice-2.ensures.value))) c.hold-kept.result (sym c.in_default.ensures.is) c.loop-replica.invariant.sees (Some c.new-act.result)
      (made_act g.D.Disk.Tells g.D.Disk.files g.P.Piece.Tells g.D.Disk.fault_count g.D.Disk.fuse_count c.args.tag c.hold-kept.result
      (record c.loop-replica.kept { logical = c.hide-position.new.self; front = c.publish-2.new.self; ended = c.note_ended.new.ended })
      (made_is.Enters (change.Del c.args.pair) c.past_of.result) c.new-act.result (c.new-act.ensures
      ∙ ap (λ (e : Entry). act_of g.D.Disk.fault_count g.D.Disk.fuse_count c.args.tag (made_is.Enters e c.past_of.result) c.hide-position.new.self.replicas)
      c.of.ensures))).leaves (ap (λ (s : Seated g.row.D.Denot g.row.P.Denot). s.number) c.seat.view_is ∙ c.requires.may.lane);
}

pub invariant_of-seat-2 : goal.invariant_of-seat-2
invariant_of-seat-2 g c =
    subst (λ (n : ℕ). IsSeated c.free-2.new.seat n c.publish-2.new.seat) (sym c.loop-replica.invariant.stood)
    (changed_seated g.D.Disk.Tells g.D.Disk.files g.P.Piece.Tells g.D.Disk.fault_count g.D.Disk.fuse_count c.args.tag c.seat.inside.turn c.loop-replica.seat-inside.turn
    c.seat.inside.view c.show_all.new.seat c.publish-2.new.seat c.hold-kept.result (record c.loop-replica.kept
    { logical = c.hide-position.new.self; front = c.publish-2.new.self; ended = c.note_ended.new.ended }) (Some c.new-act.result)
    c.seat.invariant (subst (λ (t : SeatState (Opened g.row.D.Denot g.row.P.Denot) VolumeAct).
    Holds (λ act. act.seat) (λ opened acts x. IsKept g.D.Disk.Tells g.D.Disk.files g.P.Piece.Tells g.D.Disk.fault_count g.D.Disk.fuse_count opened acts x) c.seat.inside.turn t
    c.hold-kept.result) (sym c.loop-replica.invariant.turn) c.hold-kept.ensures) c.show_all.ensures.seen.0 c.show_all.ensures.seen.1 c.in-Ok-publish-2.ensures.seen.1
    (erase_shown g.D.Disk.Tells g.D.Disk.files g.P.Piece.Tells g.D.Disk.fault_count g.D.Disk.fuse_count c.args.tag c.loop-replica.kept c.args.pair c.deletion.result
    c.deletion.ensures.change c.deletion.ensures.entered (record c.loop-replica.kept {
      logical = c.hide-position.new.self;
      front = c.publish-2.new.self;
      ended = c.note_ended.new.ended;
    }) c.erase_seen.new.self c.in-Ok-erase_seen.erased refl refl
    (thawed_now g.D.Disk.Tells g.D.Disk.files g.P.Piece.Tells g.D.Disk.fault_count g.D.Disk.fuse_count c.args.tag c.loop-replica.kept
    (since g.D.Disk.Tells g.D.Disk.files g.P.Piece.Tells g.D.Disk.fault_count g.D.Disk.fuse_count c.args.tag c.hold-kept.result c.loop-replica.kept c.seat.invariant.opened
    c.hold-kept.new.seat.seen (is_held g.D.Disk.Tells g.D.Disk.files g.P.Piece.Tells g.D.Disk.fault_count g.D.Disk.fuse_count c.seat.invariant c.hold-kept.ensures)
    (sym c.in_default.ensures.is) c.loop-replica.invariant.sees)) c.in-Ok-erase_seen.ensures.same c.in-Ok-erase_seen.ensures.open c.in-Ok-erase_seen.ensures.counts
    c.in-Ok-erase_seen.ensures.erased c.hide-position.result c.past_of.result (record { tag = c.front_tag-2.result; deed = c.deletion.result }) c.front_tag-2.ensures
    c.in-Ok-publish-2.ensures.done.0
    c.in-Ok-erase_seen.ensures.of.0 c.in-Ok-erase_seen.ensures.still c.hide-position.ensures.rows c.hide-position.ensures.still c.hide-position.ensures.deleted
    (c.past_of.ensures ∙ c.as_slice-2.ensures.value ∙ (c.over_of-over.ensures ∙ ap (λ (l : List (Option ℕ)). over_since l c.hide-position.new.self.replicas)
    c.runs_of-runs.ensures)) (λ j lane less few. c.note_ended.ensures j lane (subst (λ (s : Settings). j < s.replicas) c.loop-replica.invariant.sees.of.settings less) few
    ∙ ap (λ (l : List Bool). noted l c.loop-replica.kept.begun (counts g.D.Disk.fault_count c.hide-position.new.self.replicas) c.loop-replica.kept.ended j lane)
    (c.as_slice.ensures.value ∙ sym (c.past_of.ensures ∙ c.as_slice-2.ensures.value))) c.hold-kept.result (sym c.in_default.ensures.is) c.loop-replica.invariant.sees (Some c.new-act.result)
    (made_act g.D.Disk.Tells g.D.Disk.files g.P.Piece.Tells g.D.Disk.fault_count g.D.Disk.fuse_count c.args.tag c.hold-kept.result
    (record c.loop-replica.kept { logical = c.hide-position.new.self; front = c.publish-2.new.self; ended = c.note_ended.new.ended })
    (made_is.Enters (change.Del c.args.pair) c.past_of.result) c.new-act.result (c.new-act.ensures
    ∙ ap (λ (e : Entry). act_of g.D.Disk.fault_count g.D.Disk.fuse_count c.args.tag (made_is.Enters e c.past_of.result) c.hide-position.new.self.replicas)
    c.of.ensures))).leaves c.free-2.new.seat c.free-2.ensures (ap (λ (s : Seated g.row.D.Denot g.row.P.Denot). s.number) c.seat.view_is ∙ c.requires.may.lane)
    (later_deed c.seat.inside.view c.loop-replica.kept.front.shown c.publish-2.new.seat c.deletion.result
    (later_more c.seat.inside.view c.hold-kept.result.front.shown c.loop-replica.kept.front.shown c.show_all.ensures.seen.0 c.loop-replica.invariant.later)
    (c.in-Ok-publish-2.ensures.seen.1 ∙ ap (λ f. f.shown) c.in-Ok-publish-2.ensures.done.0)))

pub returns-clause-deleted : goal.returns-clause-deleted
returns-clause-deleted g c =
    subst (λ (s : Seated g.row.D.Denot g.row.P.Denot). IsTold g.D.Disk.Tells g.D.Disk.files g.P.Piece.Tells g.D.Disk.fault_count g.D.Disk.fuse_count s.start
    (λ volume. DeleteAnswer volume c.args.tag c.args.pair (Ok c.hide-position.result) s.sight (seat_of c.free-2.new.seat c.publish-2.new.seat).sight)) c.seat.view_is
    (changed_told g.D.Disk.Tells g.D.Disk.files g.P.Piece.Tells g.D.Disk.fault_count g.D.Disk.fuse_count c.args.tag c.seat.inside.turn c.loop-replica.seat-inside.turn
    c.seat.inside.view c.show_all.new.seat c.publish-2.new.seat c.hold-kept.result (record c.loop-replica.kept
    { logical = c.hide-position.new.self; front = c.publish-2.new.self; ended = c.note_ended.new.ended }) (Some c.new-act.result)
    c.seat.invariant (subst (λ (t : SeatState (Opened g.row.D.Denot g.row.P.Denot) VolumeAct).
    Holds (λ act. act.seat) (λ opened acts x. IsKept g.D.Disk.Tells g.D.Disk.files g.P.Piece.Tells g.D.Disk.fault_count g.D.Disk.fuse_count opened acts x) c.seat.inside.turn t
    c.hold-kept.result) (sym c.loop-replica.invariant.turn) c.hold-kept.ensures) c.show_all.ensures.seen.0 c.show_all.ensures.seen.1 c.in-Ok-publish-2.ensures.seen.1
    (erase_shown g.D.Disk.Tells g.D.Disk.files g.P.Piece.Tells g.D.Disk.fault_count g.D.Disk.fuse_count c.args.tag c.loop-replica.kept c.args.pair c.deletion.result
    c.deletion.ensures.change c.deletion.ensures.entered (record c.loop-replica.kept {
      logical = c.hide-position.new.self;
      front = c.publish-2.new.self;
      ended = c.note_ended.new.ended;
    }) c.erase_seen.new.self c.in-Ok-erase_seen.erased refl refl
    (thawed_now g.D.Disk.Tells g.D.Disk.files g.P.Piece.Tells g.D.Disk.fault_count g.D.Disk.fuse_count c.args.tag c.loop-replica.kept
    (since g.D.Disk.Tells g.D.Disk.files g.P.Piece.Tells g.D.Disk.fault_count g.D.Disk.fuse_count c.args.tag c.hold-kept.result c.loop-replica.kept c.seat.invariant.opened
    c.hold-kept.new.seat.seen (is_held g.D.Disk.Tells g.D.Disk.files g.P.Piece.Tells g.D.Disk.fault_count g.D.Disk.fuse_count c.seat.invariant c.hold-kept.ensures)
    (sym c.in_default.ensures.is) c.loop-replica.invariant.sees)) c.in-Ok-erase_seen.ensures.same c.in-Ok-erase_seen.ensures.open c.in-Ok-erase_seen.ensures.counts
    c.in-Ok-erase_seen.ensures.erased c.hide-position.result c.past_of.result (record { tag = c.front_tag-2.result; deed = c.deletion.result }) c.front_tag-2.ensures
    c.in-Ok-publish-2.ensures.done.0
    c.in-Ok-erase_seen.ensures.of.0 c.in-Ok-erase_seen.ensures.still c.hide-position.ensures.rows c.hide-position.ensures.still c.hide-position.ensures.deleted
    (c.past_of.ensures ∙ c.as_slice-2.ensures.value ∙ (c.over_of-over.ensures ∙ ap (λ (l : List (Option ℕ)). over_since l c.hide-position.new.self.replicas)
    c.runs_of-runs.ensures)) (λ j lane less few. c.note_ended.ensures j lane (subst (λ (s : Settings). j < s.replicas) c.loop-replica.invariant.sees.of.settings less) few
    ∙ ap (λ (l : List Bool). noted l c.loop-replica.kept.begun (counts g.D.Disk.fault_count c.hide-position.new.self.replicas) c.loop-replica.kept.ended j lane)
    (c.as_slice.ensures.value ∙ sym (c.past_of.ensures ∙ c.as_slice-2.ensures.value))) c.hold-kept.result (sym c.in_default.ensures.is) c.loop-replica.invariant.sees (Some c.new-act.result)
    (made_act g.D.Disk.Tells g.D.Disk.files g.P.Piece.Tells g.D.Disk.fault_count g.D.Disk.fuse_count c.args.tag c.hold-kept.result
    (record c.loop-replica.kept { logical = c.hide-position.new.self; front = c.publish-2.new.self; ended = c.note_ended.new.ended })
    (made_is.Enters (change.Del c.args.pair) c.past_of.result) c.new-act.result (c.new-act.ensures
    ∙ ap (λ (e : Entry). act_of g.D.Disk.fault_count g.D.Disk.fuse_count c.args.tag (made_is.Enters e c.past_of.result) c.hide-position.new.self.replicas)
    c.of.ensures))).leaves c.free-2.new.seat c.free-2.ensures (λ volume. DeleteAnswer volume c.args.tag c.args.pair (Ok c.hide-position.result))
    (erase_shown g.D.Disk.Tells g.D.Disk.files g.P.Piece.Tells g.D.Disk.fault_count g.D.Disk.fuse_count c.args.tag c.loop-replica.kept c.args.pair c.deletion.result
    c.deletion.ensures.change c.deletion.ensures.entered (record c.loop-replica.kept {
      logical = c.hide-position.new.self;
      front = c.publish-2.new.self;
      ended = c.note_ended.new.ended;
    }) c.erase_seen.new.self c.in-Ok-erase_seen.erased refl refl
    (thawed_now g.D.Disk.Tells g.D.Disk.files g.P.Piece.Tells g.D.Disk.fault_count g.D.Disk.fuse_count c.args.tag c.loop-replica.kept
    (since g.D.Disk.Tells g.D.Disk.files g.P.Piece.Tells g.D.Disk.fault_count g.D.Disk.fuse_count c.args.tag c.hold-kept.result c.loop-replica.kept c.seat.invariant.opened
    c.hold-kept.new.seat.seen (is_held g.D.Disk.Tells g.D.Disk.files g.P.Piece.Tells g.D.Disk.fault_count g.D.Disk.fuse_count c.seat.invariant c.hold-kept.ensures)
    (sym c.in_default.ensures.is) c.loop-replica.invariant.sees)) c.in-Ok-erase_seen.ensures.same c.in-Ok-erase_seen.ensures.open c.in-Ok-erase_seen.ensures.counts
    c.in-Ok-erase_seen.ensures.erased c.hide-position.result c.past_of.result (record { tag = c.front_tag-2.result; deed = c.deletion.result }) c.front_tag-2.ensures
    c.in-Ok-publish-2.ensures.done.0
    c.in-Ok-erase_seen.ensures.of.0 c.in-Ok-erase_seen.ensures.still c.hide-position.ensures.rows c.hide-position.ensures.still c.hide-position.ensures.deleted
    (c.past_of.ensures ∙ c.as_slice-2.ensures.value ∙ (c.over_of-over.ensures ∙ ap (λ (l : List (Option ℕ)). over_since l c.hide-position.new.self.replicas)
    c.runs_of-runs.ensures)) (λ j lane less few. c.note_ended.ensures j lane (subst (λ (s : Settings). j < s.replicas) c.loop-replica.invariant.sees.of.settings less) few
    ∙ ap (λ (l : List Bool). noted l c.loop-replica.kept.begun (counts g.D.Disk.fault_count c.hide-position.new.self.replicas) c.loop-replica.kept.ended j lane)
    (c.as_slice.ensures.value ∙ sym (c.past_of.ensures ∙ c.as_slice-2.ensures.value))) c.hold-kept.result (sym c.in_default.ensures.is) c.loop-replica.invariant.sees (Some c.new-act.result)
    (made_act g.D.Disk.Tells g.D.Disk.files g.P.Piece.Tells g.D.Disk.fault_count g.D.Disk.fuse_count c.args.tag c.hold-kept.result
    (record c.loop-replica.kept { logical = c.hide-position.new.self; front = c.publish-2.new.self; ended = c.note_ended.new.ended })
    (made_is.Enters (change.Del c.args.pair) c.past_of.result) c.new-act.result (c.new-act.ensures
    ∙ ap (λ (e : Entry). act_of g.D.Disk.fault_count g.D.Disk.fuse_count c.args.tag (made_is.Enters e c.past_of.result) c.hide-position.new.self.replicas) c.of.ensures))).told)

pub returns-clause-held : goal.returns-clause-held
returns-clause-held g c =
    subst (λ (s : Seated g.row.D.Denot g.row.P.Denot). UnfusedHolding c.args.tag s.sight (seat_of c.free-2.new.seat c.publish-2.new.seat).sight) c.seat.view_is
    (changed_held g.D.Disk.Tells g.D.Disk.files g.P.Piece.Tells g.D.Disk.fault_count g.D.Disk.fuse_count c.args.tag c.seat.inside.turn c.loop-replica.seat-inside.turn
    c.seat.inside.view c.show_all.new.seat c.publish-2.new.seat c.hold-kept.result (record c.loop-replica.kept
    { logical = c.hide-position.new.self; front = c.publish-2.new.self; ended = c.note_ended.new.ended }) (Some c.new-act.result)
    c.seat.invariant (subst (λ (t : SeatState (Opened g.row.D.Denot g.row.P.Denot) VolumeAct).
    Holds (λ act. act.seat) (λ opened acts x. IsKept g.D.Disk.Tells g.D.Disk.files g.P.Piece.Tells g.D.Disk.fault_count g.D.Disk.fuse_count opened acts x) c.seat.inside.turn t
    c.hold-kept.result) (sym c.loop-replica.invariant.turn) c.hold-kept.ensures) c.show_all.ensures.seen.0 c.show_all.ensures.seen.1 c.in-Ok-publish-2.ensures.seen.1
    (erase_shown g.D.Disk.Tells g.D.Disk.files g.P.Piece.Tells g.D.Disk.fault_count g.D.Disk.fuse_count c.args.tag c.loop-replica.kept c.args.pair c.deletion.result
    c.deletion.ensures.change c.deletion.ensures.entered (record c.loop-replica.kept {
      logical = c.hide-position.new.self;
      front = c.publish-2.new.self;
      ended = c.note_ended.new.ended;
    }) c.erase_seen.new.self c.in-Ok-erase_seen.erased refl refl
    (thawed_now g.D.Disk.Tells g.D.Disk.files g.P.Piece.Tells g.D.Disk.fault_count g.D.Disk.fuse_count c.args.tag c.loop-replica.kept
    (since g.D.Disk.Tells g.D.Disk.files g.P.Piece.Tells g.D.Disk.fault_count g.D.Disk.fuse_count c.args.tag c.hold-kept.result c.loop-replica.kept c.seat.invariant.opened
    c.hold-kept.new.seat.seen (is_held g.D.Disk.Tells g.D.Disk.files g.P.Piece.Tells g.D.Disk.fault_count g.D.Disk.fuse_count c.seat.invariant c.hold-kept.ensures)
    (sym c.in_default.ensures.is) c.loop-replica.invariant.sees)) c.in-Ok-erase_seen.ensures.same c.in-Ok-erase_seen.ensures.open c.in-Ok-erase_seen.ensures.counts
    c.in-Ok-erase_seen.ensures.erased c.hide-position.result c.past_of.result (record { tag = c.front_tag-2.result; deed = c.deletion.result }) c.front_tag-2.ensures
    c.in-Ok-publish-2.ensures.done.0
    c.in-Ok-erase_seen.ensures.of.0 c.in-Ok-erase_seen.ensures.still c.hide-position.ensures.rows c.hide-position.ensures.still c.hide-position.ensures.deleted
    (c.past_of.ensures ∙ c.as_slice-2.ensures.value ∙ (c.over_of-over.ensures ∙ ap (λ (l : List (Option ℕ)). over_since l c.hide-position.new.self.replicas)
    c.runs_of-runs.ensures)) (λ j lane less few. c.note_ended.ensures j lane (subst (λ (s : Settings). j < s.replicas) c.loop-replica.invariant.sees.of.settings less) few
    ∙ ap (λ (l : List Bool). noted l c.loop-replica.kept.begun (counts g.D.Disk.fault_count c.hide-position.new.self.replicas) c.loop-replica.kept.ended j lane)
    (c.as_slice.ensures.value ∙ sym (c.past_of.ensures ∙ c.as_slice-2.ensures.value))) c.hold-kept.result (sym c.in_default.ensures.is) c.loop-replica.invariant.sees (Some c.new-act.result)
    (made_act g.D.Disk.Tells g.D.Disk.files g.P.Piece.Tells g.D.Disk.fault_count g.D.Disk.fuse_count c.args.tag c.hold-kept.result
    (record c.loop-replica.kept { logical = c.hide-position.new.self; front = c.publish-2.new.self; ended = c.note_ended.new.ended })
    (made_is.Enters (change.Del c.args.pair) c.past_of.result) c.new-act.result (c.new-act.ensures
    ∙ ap (λ (e : Entry). act_of g.D.Disk.fault_count g.D.Disk.fuse_count c.args.tag (made_is.Enters e c.past_of.result) c.hide-position.new.self.replicas)
    c.of.ensures))).leaves c.free-2.new.seat c.free-2.ensures
    (one_unfused g.D.Disk.fault_count g.D.Disk.fuse_count c.args.tag c.hide-position.new.self.replicas (made_is.Enters c.of.result c.past_of.result) c.new-act.result c.new-act.ensures
    (λ j e. cc e)))

pub returns-in-Some-clause-refusals : goal.returns-in-Some-clause-refusals
returns-in-Some-clause-refusals g c =
    subst (λ (s : Seated g.row.D.Denot g.row.P.Denot). OfOpened s.start (λ settings v. RefusesDelete settings v (ReadOnly c.in-Some.machine))) c.seat.view_is
    (of_opened g.D.Disk.Tells g.D.Disk.files g.P.Piece.Tells g.D.Disk.fault_count g.D.Disk.fuse_count c.seat.invariant c.hold-kept.ensures
    (λ settings v. RefusesDelete settings v (ReadOnly c.in-Some.machine))
    c.in-Some.ensures.on)

pub returns-in-Err-clause-refusals : goal.returns-in-Err-clause-refusals
returns-in-Err-clause-refusals g c =
    subst (λ (s : Seated g.row.D.Denot g.row.P.Denot). OfOpened s.start (λ settings v. RefusesDelete settings v c.in-Err.fault)) c.seat.view_is
    (of_opened g.D.Disk.Tells g.D.Disk.files g.P.Piece.Tells g.D.Disk.fault_count g.D.Disk.fuse_count c.seat.invariant c.hold-kept.ensures (λ settings v. RefusesDelete settings v c.in-Err.fault)
    (same_so c.hold-kept.result.logical c.loop-replica.kept.logical (λ settings v. RefusesDelete settings v c.in-Err.fault) c.loop-replica.invariant.sees.of.same
    (refuses_look c.loop-replica.kept.logical.settings c.loop-replica.kept.logical.number g.D.Disk.fault_count c.loop-replica.kept.logical.replicas c.see.new.self.replicas
    c.in-Err.fault c.in-Err.ensures.causes)))

pub returns-in-Err-erase_seen-clause-refusals : goal.returns-in-Err-erase_seen-clause-refusals
returns-in-Err-erase_seen-clause-refusals g c =
    subst (λ (s : Seated g.row.D.Denot g.row.P.Denot). OfOpened s.start (λ settings v. RefusesDelete settings v c.in-Err-erase_seen.fault)) c.seat.view_is
    (of_opened g.D.Disk.Tells g.D.Disk.files g.P.Piece.Tells g.D.Disk.fault_count g.D.Disk.fuse_count c.seat.invariant c.hold-kept.ensures
    (λ settings v. RefusesDelete settings v c.in-Err-erase_seen.fault)
    (same_so c.hold-kept.result.logical c.loop-replica.kept.logical (λ settings v. RefusesDelete settings v c.in-Err-erase_seen.fault) c.loop-replica.invariant.sees.of.same
    (refuses_delete c.loop-replica.kept.logical.settings c.loop-replica.kept.logical.number g.D.Disk.fault_count c.loop-replica.kept.logical.replicas c.erase_seen.new.self.replicas
    c.in-Err-erase_seen.fault c.in-Err-erase_seen.ensures.causes)))
