use Rattle.std.proofs.Common.{[], ◌<◌, inl, inr, ℕ, List, length, Option, None, Ok, Err, refl, sym, ap, subst, ◌∙◌}
use Rattle.hay_logical.specs.declared.fault.LogicalFault.TheVariants.{NoMemory}
use Rattle.hay_map.specs.Places.{place_in}
use Rattle.hay_map.specs.Rows.{row_at}
use Rattle.hay_meeting.specs.Acts.{nobody}
use Rattle.hay_turn.specs.Seats.{after_free}
use Rattle.hay_turn.specs.Slots.{acts_in}
use Rattle.hay_volume_lock.specs.Acts.{counts}
use Rattle.hay_volume_lock.specs.Answers.{FailedLook, IsAlways, IsTold, UnfusedHolding}
use Rattle.hay_volume_lock.specs.Changes.{SeeAnswer, freezes_by}
use Rattle.hay_volume_lock.specs.Seats.{Seated}
use Rattle.hay_volume_lock.specs.Tries.{IsTried}
use Rattle.hay_volume_lock.proofs.Holding.{all_there, few_there, is_held, made_always, made_free, made_mine, made_seated, made_told, quiet_free, quiet_held, made_unfused}
use Rattle.hay_volume_lock.proofs.Holding.{quiet_seated, quiet_told, seat_of, within_it}
use Rattle.hay_volume_lock.proofs.Publishing.{changed_free, changed_held, changed_mine, changed_seated, changed_told, later_deed, later_same, shows_nothing}
use Rattle.hay_volume_lock.proofs.Putting.{both_again, err_same, nothing_made}
use Rattle.hay_volume_lock.proofs.Seeing.{long_at, look_known, of_refused, row_long, see_closed, see_known, see_refused, see_shown, see_wanted, seen_found, seen_may, sees_changes}
use Rattle.hay_volume_lock.proofs.Seeing.{sees_nothing, tried_quiet, unseen}
use Rattle.hay_volume_lock.specs.Refusing.{OfOpened, RefusesSight}
use Rattle.hay_volume_lock.proofs.Refusing.{refuses_sight, of_opened}
use Rattle.hay_volume_lock.proofs.Unfused.{IsNoFuse, freezes_unfused, made_unfused_by, tried_unfused, tries_unfused}
use Rattle.hay_volume_lock.specs.declared.act.Made.{Made}
use Rattle.std.specs.Prelude.{IfSome}
use Rattle.hay_volume_lock.proofs.lock.VolumeLock.see.Goals as goal

pub show_all-requires : goal.show_all-requires
show_all-requires g c =
    c.seat.invariant.front ∙ sym (is_held g.D.Disk.Tells g.D.Disk.files g.P.Piece.Tells g.D.Disk.fault_count g.D.Disk.fuse_count c.seat.invariant c.hold-kept.ensures).front

pub is_seen-requires : goal.is_seen-requires
is_seen-requires g c =
    subst (λ (n : ℕ). c.args.replica < n) (sym c.look-looked.ensures.long) (within_it g.D.Disk.Tells g.D.Disk.files g.P.Piece.Tells g.D.Disk.fault_count g.D.Disk.fuse_count
    c.seat.invariant c.hold-kept.ensures c.args.replica (c.requires.within c.seat.invariant.opened
    (sym (ap (λ (s : Seated g.row.D.Denot g.row.P.Denot). s.start) c.seat.view_is) ∙ c.seat.invariant.is)))

pub free-requires-clause-may : goal.free-requires-clause-may
free-requires-clause-may g c = record {
  stands_for =
      quiet_free g.D.Disk.Tells g.D.Disk.files g.P.Piece.Tells g.D.Disk.fault_count g.D.Disk.fuse_count nobody c.seat.inside.turn c.hold-kept.new.seat
      (after_free c.hold-kept.new.seat []) c.seat.inside.view c.show_all.new.seat c.hold-kept.result
      c.seat.invariant c.hold-kept.ensures c.show_all.ensures.seen.0 c.show_all.ensures.seen.1 refl;
  mine = tt;
}

pub invariant_of-seat : goal.invariant_of-seat
invariant_of-seat g c =
    quiet_seated g.D.Disk.Tells g.D.Disk.files g.P.Piece.Tells g.D.Disk.fault_count g.D.Disk.fuse_count nobody c.seat.inside.turn c.hold-kept.new.seat c.free.new.seat
    c.seat.inside.view c.show_all.new.seat c.hold-kept.result
    c.seat.invariant c.hold-kept.ensures c.show_all.ensures.seen.0 c.show_all.ensures.seen.1 c.free.ensures

pub returns-then-is_seen-clause-seen : goal.returns-then-is_seen-clause-seen
returns-then-is_seen-clause-seen g c =
    subst (λ (s : Seated g.row.D.Denot g.row.P.Denot). IsTold g.D.Disk.Tells g.D.Disk.files g.P.Piece.Tells g.D.Disk.fault_count g.D.Disk.fuse_count s.start
    (λ volume. SeeAnswer volume c.args.tag {P = g.row.P.Denot} g.P.Piece.Tells c.args.pair c.args.replica (Ok c.look-looked.result) s.sight
    (seat_of c.free.new.seat c.show_all.new.seat).sight)) c.seat.view_is
    (quiet_told g.D.Disk.Tells g.D.Disk.files g.P.Piece.Tells g.D.Disk.fault_count g.D.Disk.fuse_count c.args.tag c.seat.inside.turn c.hold-kept.new.seat c.free.new.seat
    c.seat.inside.view c.show_all.new.seat c.hold-kept.result c.seat.invariant c.hold-kept.ensures c.show_all.ensures.seen.0 c.show_all.ensures.seen.1 c.free.ensures
    (λ volume. SeeAnswer volume c.args.tag {P = g.row.P.Denot} g.P.Piece.Tells c.args.pair c.args.replica (Ok c.look-looked.result))
    (seen_found g.D.Disk.Tells g.D.Disk.files g.P.Piece.Tells g.D.Disk.fault_count g.D.Disk.fuse_count c.args.tag c.args.pair c.args.replica c.hold-kept.result None refl tt c.look-looked.result
    (see_known g.D.Disk.Tells g.D.Disk.files g.P.Piece.Tells g.D.Disk.fault_count g.D.Disk.fuse_count c.hold-kept.result.logical c.hold-kept.result.logical c.args.pair
    c.args.replica c.look-looked.result refl c.look-looked.ensures.row (λ tells k s. s)
    (look_known g.D.Disk.Tells g.D.Disk.files g.P.Piece.Tells c.hold-kept.result.logical c.args.pair c.args.replica c.look-looked.result
    (subst (λ (n : ℕ). c.args.replica < n) (sym (is_held g.D.Disk.Tells g.D.Disk.files g.P.Piece.Tells g.D.Disk.fault_count g.D.Disk.fuse_count c.seat.invariant
    c.hold-kept.ensures).is_open.all) (within_it g.D.Disk.Tells g.D.Disk.files g.P.Piece.Tells g.D.Disk.fault_count g.D.Disk.fuse_count c.seat.invariant c.hold-kept.ensures
    c.args.replica (c.requires.within c.seat.invariant.opened (sym (ap (λ (s : Seated g.row.D.Denot g.row.P.Denot). s.start) c.seat.view_is) ∙ c.seat.invariant.is))))
    (c.is_seen.ensures.0 c.if-is_seen.true) c.look-looked.ensures.known))))

pub returns-then-is_seen-clause-held : goal.returns-then-is_seen-clause-held
returns-then-is_seen-clause-held g c =
    subst (λ (s : Seated g.row.D.Denot g.row.P.Denot). UnfusedHolding c.args.tag s.sight (seat_of c.free.new.seat c.show_all.new.seat).sight) c.seat.view_is
    (quiet_held g.D.Disk.Tells g.D.Disk.files g.P.Piece.Tells g.D.Disk.fault_count g.D.Disk.fuse_count c.args.tag c.seat.inside.turn c.hold-kept.new.seat c.free.new.seat
    c.seat.inside.view c.show_all.new.seat c.hold-kept.result c.seat.invariant c.hold-kept.ensures c.show_all.ensures.seen.0 c.show_all.ensures.seen.1 c.free.ensures)

pub faults_of-before-requires-clause-all : goal.faults_of-before-requires-clause-all
faults_of-before-requires-clause-all g c = (all_there g.D.Disk.Tells g.D.Disk.files g.P.Piece.Tells g.D.Disk.fault_count g.D.Disk.fuse_count c.seat.invariant c.hold-kept.ensures)

pub faults_of-before-requires-clause-most : goal.faults_of-before-requires-clause-most
faults_of-before-requires-clause-most g c = few_there g.D.Disk.Tells g.D.Disk.files g.P.Piece.Tells g.D.Disk.fault_count g.D.Disk.fuse_count c.seat.invariant c.hold-kept.ensures

pub see-requires-clause-open : goal.see-requires-clause-open
see-requires-clause-open g c = (is_held g.D.Disk.Tells g.D.Disk.files g.P.Piece.Tells g.D.Disk.fault_count g.D.Disk.fuse_count c.seat.invariant c.hold-kept.ensures).is_open

pub act_made-made-requires-clause-all : goal.act_made-made-requires-clause-all
act_made-made-requires-clause-all g c =
    c.see.ensures.counts.count ∙ (all_there g.D.Disk.Tells g.D.Disk.files g.P.Piece.Tells g.D.Disk.fault_count g.D.Disk.fuse_count c.seat.invariant c.hold-kept.ensures)

pub act_made-made-requires-clause-most : goal.act_made-made-requires-clause-most
act_made-made-requires-clause-most g c = few_there g.D.Disk.Tells g.D.Disk.files g.P.Piece.Tells g.D.Disk.fault_count g.D.Disk.fuse_count c.seat.invariant c.hold-kept.ensures

pub free-requires-in-Err-clause-may : goal.free-requires-in-Err-clause-may
free-requires-in-Err-clause-may g c = record {
  stands_for =
      made_free g.D.Disk.Tells g.D.Disk.files g.P.Piece.Tells g.D.Disk.fault_count g.D.Disk.fuse_count c.args.tag c.seat.inside.turn c.hold-kept.new.seat
      (after_free c.hold-kept.new.seat (acts_in c.act_made-made.result)) c.seat.inside.view c.show_all.new.seat c.hold-kept.result (record c.hold-kept.result { logical = c.see.new.self })
      c.act_made-made.result c.seat.invariant c.hold-kept.ensures c.show_all.ensures.seen.0 c.show_all.ensures.seen.1
      (see_refused g.D.Disk.Tells g.D.Disk.files g.P.Piece.Tells g.D.Disk.fault_count g.D.Disk.fuse_count c.args.tag c.args.pair c.args.replica c.hold-kept.result
      (record c.hold-kept.result { logical = c.see.new.self })
      (of_refused g.D.Disk.Tells g.D.Disk.files g.P.Piece.Tells g.D.Disk.fault_count g.D.Disk.fuse_count c.args.tag c.hold-kept.result
      (record c.hold-kept.result { logical = c.see.new.self }) refl refl refl c.in-Err.ensures.same c.in-Err.ensures.open c.in-Err.ensures.counts
      (λ tells k s. (c.in-Err.ensures.stands tells k s, λ thawed j run has. c.in-Err.ensures.tight tells k s j)) c.in-Err.ensures.still.0 refl c.in-Err.ensures.kept)
      c.in-Err.ensures.counts.stay refl refl (within_it g.D.Disk.Tells g.D.Disk.files g.P.Piece.Tells g.D.Disk.fault_count g.D.Disk.fuse_count c.seat.invariant
      c.hold-kept.ensures c.args.replica (c.requires.within c.seat.invariant.opened (sym (ap (λ (s : Seated g.row.D.Denot g.row.P.Denot). s.start) c.seat.view_is)
      ∙ c.seat.invariant.is))) (λ tells k s. (c.in-Err.ensures.stands tells k s, λ thawed j run has. c.in-Err.ensures.tight tells k s j))
      c.in-Err.fault (λ tells k s m at e. c.in-Err.ensures.undamaged tells k s m at (ap Err e)) c.in-Err.ensures.causes (λ m f e. c.in-Err.ensures.machine m f (ap Err e))
      c.act_made-made.result (record {
        acts = λ m is. c.act_made-made.ensures.did m (c.sight_did.ensures ∙ is);
        tries = λ none. (subst (λ (l : List ℕ). IsTried g.D.Disk.fault_count g.D.Disk.fuse_count c.args.tag l c.see.new.self.replicas c.act_made-made.result)
            c.faults_of-before.ensures (c.act_made-made.ensures.tried (c.sight_did.ensures ∙ none)));
      })).goes refl;
  mine =
      made_mine g.D.Disk.Tells g.D.Disk.files g.P.Piece.Tells g.D.Disk.fault_count g.D.Disk.fuse_count c.args.tag c.seat.inside.turn c.hold-kept.new.seat
      (after_free c.hold-kept.new.seat (acts_in c.act_made-made.result)) c.seat.inside.view c.show_all.new.seat c.hold-kept.result (record c.hold-kept.result { logical = c.see.new.self })
      c.act_made-made.result c.seat.invariant c.hold-kept.ensures c.show_all.ensures.seen.0 c.show_all.ensures.seen.1
      (see_refused g.D.Disk.Tells g.D.Disk.files g.P.Piece.Tells g.D.Disk.fault_count g.D.Disk.fuse_count c.args.tag c.args.pair c.args.replica c.hold-kept.result
      (record c.hold-kept.result { logical = c.see.new.self })
      (of_refused g.D.Disk.Tells g.D.Disk.files g.P.Piece.Tells g.D.Disk.fault_count g.D.Disk.fuse_count c.args.tag c.hold-kept.result
      (record c.hold-kept.result { logical = c.see.new.self }) refl refl refl c.in-Err.ensures.same c.in-Err.ensures.open c.in-Err.ensures.counts
      (λ tells k s. (c.in-Err.ensures.stands tells k s, λ thawed j run has. c.in-Err.ensures.tight tells k s j)) c.in-Err.ensures.still.0 refl c.in-Err.ensures.kept)
      c.in-Err.ensures.counts.stay refl refl (within_it g.D.Disk.Tells g.D.Disk.files g.P.Piece.Tells g.D.Disk.fault_count g.D.Disk.fuse_count c.seat.invariant
      c.hold-kept.ensures c.args.replica (c.requires.within c.seat.invariant.opened (sym (ap (λ (s : Seated g.row.D.Denot g.row.P.Denot). s.start) c.seat.view_is)
      ∙ c.seat.invariant.is))) (λ tells k s. (c.in-Err.ensures.stands tells k s, λ thawed j run has. c.in-Err.ensures.tight tells k s j))
      c.in-Err.fault (λ tells k s m at e. c.in-Err.ensures.undamaged tells k s m at (ap Err e)) c.in-Err.ensures.causes (λ m f e. c.in-Err.ensures.machine m f (ap Err e))
      c.act_made-made.result (record {
        acts = λ m is. c.act_made-made.ensures.did m (c.sight_did.ensures ∙ is);
        tries = λ none. (subst (λ (l : List ℕ). IsTried g.D.Disk.fault_count g.D.Disk.fuse_count c.args.tag l c.see.new.self.replicas c.act_made-made.result)
            c.faults_of-before.ensures (c.act_made-made.ensures.tried (c.sight_did.ensures ∙ none)));
      })).goes refl
      (ap (λ (s : Seated g.row.D.Denot g.row.P.Denot). s.number) c.seat.view_is ∙ c.requires.may.lane);
}

pub invariant_of-seat-in-Err : goal.invariant_of-seat-in-Err
invariant_of-seat-in-Err g c =
    made_seated g.D.Disk.Tells g.D.Disk.files g.P.Piece.Tells g.D.Disk.fault_count g.D.Disk.fuse_count c.args.tag c.seat.inside.turn c.hold-kept.new.seat c.free-in-Err.new.seat
    c.seat.inside.view c.show_all.new.seat c.hold-kept.result (record c.hold-kept.result { logical = c.see.new.self })
    c.act_made-made.result c.seat.invariant c.hold-kept.ensures c.show_all.ensures.seen.0 c.show_all.ensures.seen.1
    (see_refused g.D.Disk.Tells g.D.Disk.files g.P.Piece.Tells g.D.Disk.fault_count g.D.Disk.fuse_count c.args.tag c.args.pair c.args.replica c.hold-kept.result
    (record c.hold-kept.result { logical = c.see.new.self })
    (of_refused g.D.Disk.Tells g.D.Disk.files g.P.Piece.Tells g.D.Disk.fault_count g.D.Disk.fuse_count c.args.tag c.hold-kept.result
    (record c.hold-kept.result { logical = c.see.new.self }) refl refl refl c.in-Err.ensures.same c.in-Err.ensures.open c.in-Err.ensures.counts
    (λ tells k s. (c.in-Err.ensures.stands tells k s, λ thawed j run has. c.in-Err.ensures.tight tells k s j)) c.in-Err.ensures.still.0 refl c.in-Err.ensures.kept)
    c.in-Err.ensures.counts.stay refl refl (within_it g.D.Disk.Tells g.D.Disk.files g.P.Piece.Tells g.D.Disk.fault_count g.D.Disk.fuse_count c.seat.invariant
    c.hold-kept.ensures c.args.replica (c.requires.within c.seat.invariant.opened (sym (ap (λ (s : Seated g.row.D.Denot g.row.P.Denot). s.start) c.seat.view_is)
    ∙ c.seat.invariant.is))) (λ tells k s. (c.in-Err.ensures.stands tells k s, λ thawed j run has. c.in-Err.ensures.tight tells k s j))
    c.in-Err.fault (λ tells k s m at e. c.in-Err.ensures.undamaged tells k s m at (ap Err e)) c.in-Err.ensures.causes (λ m f e. c.in-Err.ensures.machine m f (ap Err e))
    c.act_made-made.result (record {
      acts = λ m is. c.act_made-made.ensures.did m (c.sight_did.ensures ∙ is);
      tries = λ none. (subst (λ (l : List ℕ). IsTried g.D.Disk.fault_count g.D.Disk.fuse_count c.args.tag l c.see.new.self.replicas c.act_made-made.result)
          c.faults_of-before.ensures (c.act_made-made.ensures.tried (c.sight_did.ensures ∙ none)));
    })).goes c.free-in-Err.ensures
    (ap (λ (s : Seated g.row.D.Denot g.row.P.Denot). s.number) c.seat.view_is ∙ c.requires.may.lane)

pub returns-in-Err-clause-seen : goal.returns-in-Err-clause-seen
returns-in-Err-clause-seen g c =
    subst (λ (s : Seated g.row.D.Denot g.row.P.Denot). IsTold g.D.Disk.Tells g.D.Disk.files g.P.Piece.Tells g.D.Disk.fault_count g.D.Disk.fuse_count s.start
    (λ volume. SeeAnswer volume c.args.tag {P = g.row.P.Denot} g.P.Piece.Tells c.args.pair c.args.replica (Err c.in-Err.fault) s.sight
    (seat_of c.free-in-Err.new.seat c.show_all.new.seat).sight)) c.seat.view_is
    (made_told g.D.Disk.Tells g.D.Disk.files g.P.Piece.Tells g.D.Disk.fault_count g.D.Disk.fuse_count c.args.tag c.seat.inside.turn c.hold-kept.new.seat c.free-in-Err.new.seat
    c.seat.inside.view c.show_all.new.seat c.hold-kept.result (record c.hold-kept.result { logical = c.see.new.self })
    c.act_made-made.result c.seat.invariant c.hold-kept.ensures c.show_all.ensures.seen.0 c.show_all.ensures.seen.1
    (see_refused g.D.Disk.Tells g.D.Disk.files g.P.Piece.Tells g.D.Disk.fault_count g.D.Disk.fuse_count c.args.tag c.args.pair c.args.replica c.hold-kept.result
    (record c.hold-kept.result { logical = c.see.new.self })
    (of_refused g.D.Disk.Tells g.D.Disk.files g.P.Piece.Tells g.D.Disk.fault_count g.D.Disk.fuse_count c.args.tag c.hold-kept.result
    (record c.hold-kept.result { logical = c.see.new.self }) refl refl refl c.in-Err.ensures.same c.in-Err.ensures.open c.in-Err.ensures.counts
    (λ tells k s. (c.in-Err.ensures.stands tells k s, λ thawed j run has. c.in-Err.ensures.tight tells k s j)) c.in-Err.ensures.still.0 refl c.in-Err.ensures.kept)
    c.in-Err.ensures.counts.stay refl refl (within_it g.D.Disk.Tells g.D.Disk.files g.P.Piece.Tells g.D.Disk.fault_count g.D.Disk.fuse_count c.seat.invariant
    c.hold-kept.ensures c.args.replica (c.requires.within c.seat.invariant.opened (sym (ap (λ (s : Seated g.row.D.Denot g.row.P.Denot). s.start) c.seat.view_is)
    ∙ c.seat.invariant.is))) (λ tells k s. (c.in-Err.ensures.stands tells k s, λ thawed j run has. c.in-Err.ensures.tight tells k s j))
    c.in-Err.fault (λ tells k s m at e. c.in-Err.ensures.undamaged tells k s m at (ap Err e)) c.in-Err.ensures.causes (λ m f e. c.in-Err.ensures.machine m f (ap Err e))
    c.act_made-made.result (record {
      acts = λ m is. c.act_made-made.ensures.did m (c.sight_did.ensures ∙ is);
      tries = λ none. (subst (λ (l : List ℕ). IsTried g.D.Disk.fault_count g.D.Disk.fuse_count c.args.tag l c.see.new.self.replicas c.act_made-made.result)
          c.faults_of-before.ensures (c.act_made-made.ensures.tried (c.sight_did.ensures ∙ none)));
    })).goes c.free-in-Err.ensures
    (λ volume. SeeAnswer volume c.args.tag {P = g.row.P.Denot} g.P.Piece.Tells c.args.pair c.args.replica (Err c.in-Err.fault))
    (see_refused g.D.Disk.Tells g.D.Disk.files g.P.Piece.Tells g.D.Disk.fault_count g.D.Disk.fuse_count c.args.tag c.args.pair c.args.replica c.hold-kept.result
    (record c.hold-kept.result { logical = c.see.new.self })
    (of_refused g.D.Disk.Tells g.D.Disk.files g.P.Piece.Tells g.D.Disk.fault_count g.D.Disk.fuse_count c.args.tag c.hold-kept.result
    (record c.hold-kept.result { logical = c.see.new.self }) refl refl refl c.in-Err.ensures.same c.in-Err.ensures.open c.in-Err.ensures.counts
    (λ tells k s. (c.in-Err.ensures.stands tells k s, λ thawed j run has. c.in-Err.ensures.tight tells k s j)) c.in-Err.ensures.still.0 refl c.in-Err.ensures.kept)
    c.in-Err.ensures.counts.stay refl refl (within_it g.D.Disk.Tells g.D.Disk.files g.P.Piece.Tells g.D.Disk.fault_count g.D.Disk.fuse_count c.seat.invariant
    c.hold-kept.ensures c.args.replica (c.requires.within c.seat.invariant.opened (sym (ap (λ (s : Seated g.row.D.Denot g.row.P.Denot). s.start) c.seat.view_is)
    ∙ c.seat.invariant.is))) (λ tells k s. (c.in-Err.ensures.stands tells k s, λ thawed j run has. c.in-Err.ensures.tight tells k s j))
    c.in-Err.fault (λ tells k s m at e. c.in-Err.ensures.undamaged tells k s m at (ap Err e)) c.in-Err.ensures.causes (λ m f e. c.in-Err.ensures.machine m f (ap Err e))
    c.act_made-made.result (record {
      acts = λ m is. c.act_made-made.ensures.did m (c.sight_did.ensures ∙ is);
      tries = λ none. (subst (λ (l : List ℕ). IsTried g.D.Disk.fault_count g.D.Disk.fuse_count c.args.tag l c.see.new.self.replicas c.act_made-made.result)
          c.faults_of-before.ensures (c.act_made-made.ensures.tried (c.sight_did.ensures ∙ none)));
    })).told)

pub returns-in-Err-clause-causes : goal.returns-in-Err-clause-causes
returns-in-Err-clause-causes g c = λ m f is.
    subst (λ (s : Seated g.row.D.Denot g.row.P.Denot). IsAlways g.D.Disk.fault_count g.D.Disk.fuse_count s.start
    (λ volume. FailedLook volume c.args.tag c.args.replica m f s.sight (seat_of c.free-in-Err.new.seat c.show_all.new.seat).sight)) c.seat.view_is
    (made_always g.D.Disk.Tells g.D.Disk.files g.P.Piece.Tells g.D.Disk.fault_count g.D.Disk.fuse_count c.args.tag c.seat.inside.turn c.hold-kept.new.seat c.free-in-Err.new.seat
    c.seat.inside.view c.show_all.new.seat c.hold-kept.result (record c.hold-kept.result { logical = c.see.new.self })
    c.act_made-made.result c.seat.invariant c.hold-kept.ensures c.show_all.ensures.seen.0 c.show_all.ensures.seen.1
    (see_refused g.D.Disk.Tells g.D.Disk.files g.P.Piece.Tells g.D.Disk.fault_count g.D.Disk.fuse_count c.args.tag c.args.pair c.args.replica c.hold-kept.result
    (record c.hold-kept.result { logical = c.see.new.self })
    (of_refused g.D.Disk.Tells g.D.Disk.files g.P.Piece.Tells g.D.Disk.fault_count g.D.Disk.fuse_count c.args.tag c.hold-kept.result
    (record c.hold-kept.result { logical = c.see.new.self }) refl refl refl c.in-Err.ensures.same c.in-Err.ensures.open c.in-Err.ensures.counts
    (λ tells k s. (c.in-Err.ensures.stands tells k s, λ thawed j run has. c.in-Err.ensures.tight tells k s j)) c.in-Err.ensures.still.0 refl c.in-Err.ensures.kept)
    c.in-Err.ensures.counts.stay refl refl (within_it g.D.Disk.Tells g.D.Disk.files g.P.Piece.Tells g.D.Disk.fault_count g.D.Disk.fuse_count c.seat.invariant
    c.hold-kept.ensures c.args.replica (c.requires.within c.seat.invariant.opened (sym (ap (λ (s : Seated g.row.D.Denot g.row.P.Denot). s.start) c.seat.view_is)
    ∙ c.seat.invariant.is))) (λ tells k s. (c.in-Err.ensures.stands tells k s, λ thawed j run has. c.in-Err.ensures.tight tells k s j))
    c.in-Err.fault (λ tells k s m at e. c.in-Err.ensures.undamaged tells k s m at (ap Err e)) c.in-Err.ensures.causes (λ m f e. c.in-Err.ensures.machine m f (ap Err e))
    c.act_made-made.result (record {
      acts = λ m is. c.act_made-made.ensures.did m (c.sight_did.ensures ∙ is);
      tries = λ none. (subst (λ (l : List ℕ). IsTried g.D.Disk.fault_count g.D.Disk.fuse_count c.args.tag l c.see.new.self.replicas c.act_made-made.result)
          c.faults_of-before.ensures (c.act_made-made.ensures.tried (c.sight_did.ensures ∙ none)));
    })).goes c.free-in-Err.ensures
    (λ volume. FailedLook volume c.args.tag c.args.replica m f) ((see_refused g.D.Disk.Tells g.D.Disk.files g.P.Piece.Tells g.D.Disk.fault_count g.D.Disk.fuse_count c.args.tag
    c.args.pair c.args.replica c.hold-kept.result (record c.hold-kept.result { logical = c.see.new.self })
    (of_refused g.D.Disk.Tells g.D.Disk.files g.P.Piece.Tells g.D.Disk.fault_count g.D.Disk.fuse_count c.args.tag c.hold-kept.result
    (record c.hold-kept.result { logical = c.see.new.self }) refl refl refl c.in-Err.ensures.same c.in-Err.ensures.open c.in-Err.ensures.counts
    (λ tells k s. (c.in-Err.ensures.stands tells k s, λ thawed j run has. c.in-Err.ensures.tight tells k s j)) c.in-Err.ensures.still.0 refl c.in-Err.ensures.kept)
    c.in-Err.ensures.counts.stay refl refl (within_it g.D.Disk.Tells g.D.Disk.files g.P.Piece.Tells g.D.Disk.fault_count g.D.Disk.fuse_count c.seat.invariant
    c.hold-kept.ensures c.args.replica (c.requires.within c.seat.invariant.opened (sym (ap (λ (s : Seated g.row.D.Denot g.row.P.Denot). s.start) c.seat.view_is)
    ∙ c.seat.invariant.is))) (λ tells k s. (c.in-Err.ensures.stands tells k s, λ thawed j run has. c.in-Err.ensures.tight tells k s j))
    c.in-Err.fault (λ tells k s m at e. c.in-Err.ensures.undamaged tells k s m at (ap Err e)) c.in-Err.ensures.causes (λ m f e. c.in-Err.ensures.machine m f (ap Err e))
    c.act_made-made.result (record {
      acts = λ m is. c.act_made-made.ensures.did m (c.sight_did.ensures ∙ is);
      tries = λ none. (subst (λ (l : List ℕ). IsTried g.D.Disk.fault_count g.D.Disk.fuse_count c.args.tag l c.see.new.self.replicas c.act_made-made.result)
          c.faults_of-before.ensures (c.act_made-made.ensures.tried (c.sight_did.ensures ∙ none)));
    })).always m f (err_same is)))

pub returns-in-Err-clause-held : goal.returns-in-Err-clause-held
returns-in-Err-clause-held g c =
    subst (λ (s : Seated g.row.D.Denot g.row.P.Denot). UnfusedHolding c.args.tag s.sight (seat_of c.free-in-Err.new.seat c.show_all.new.seat).sight) c.seat.view_is
    (made_unfused g.D.Disk.Tells g.D.Disk.files g.P.Piece.Tells g.D.Disk.fault_count g.D.Disk.fuse_count c.args.tag c.seat.inside.turn c.hold-kept.new.seat c.free-in-Err.new.seat
    c.seat.inside.view c.show_all.new.seat c.hold-kept.result (record c.hold-kept.result { logical = c.see.new.self })
    c.act_made-made.result c.seat.invariant c.hold-kept.ensures c.show_all.ensures.seen.0 c.show_all.ensures.seen.1
    (see_refused g.D.Disk.Tells g.D.Disk.files g.P.Piece.Tells g.D.Disk.fault_count g.D.Disk.fuse_count c.args.tag c.args.pair c.args.replica c.hold-kept.result
    (record c.hold-kept.result { logical = c.see.new.self })
    (of_refused g.D.Disk.Tells g.D.Disk.files g.P.Piece.Tells g.D.Disk.fault_count g.D.Disk.fuse_count c.args.tag c.hold-kept.result
    (record c.hold-kept.result { logical = c.see.new.self }) refl refl refl c.in-Err.ensures.same c.in-Err.ensures.open c.in-Err.ensures.counts
    (λ tells k s. (c.in-Err.ensures.stands tells k s, λ thawed j run has. c.in-Err.ensures.tight tells k s j)) c.in-Err.ensures.still.0 refl c.in-Err.ensures.kept)
    c.in-Err.ensures.counts.stay refl refl (within_it g.D.Disk.Tells g.D.Disk.files g.P.Piece.Tells g.D.Disk.fault_count g.D.Disk.fuse_count c.seat.invariant
    c.hold-kept.ensures c.args.replica (c.requires.within c.seat.invariant.opened (sym (ap (λ (s : Seated g.row.D.Denot g.row.P.Denot). s.start) c.seat.view_is)
    ∙ c.seat.invariant.is))) (λ tells k s. (c.in-Err.ensures.stands tells k s, λ thawed j run has. c.in-Err.ensures.tight tells k s j))
    c.in-Err.fault (λ tells k s m at e. c.in-Err.ensures.undamaged tells k s m at (ap Err e)) c.in-Err.ensures.causes (λ m f e. c.in-Err.ensures.machine m f (ap Err e))
    c.act_made-made.result (record {
      acts = λ m is. c.act_made-made.ensures.did m (c.sight_did.ensures ∙ is);
      tries = λ none. (subst (λ (l : List ℕ). IsTried g.D.Disk.fault_count g.D.Disk.fuse_count c.args.tag l c.see.new.self.replicas c.act_made-made.result)
          c.faults_of-before.ensures (c.act_made-made.ensures.tried (c.sight_did.ensures ∙ none)));
    })).goes c.free-in-Err.ensures
    (made_unfused_by g.D.Disk.fault_count g.D.Disk.fuse_count c.args.tag _ _ c.sight_did.result c.act_made-made.result
    (subst (λ (o : Option Made). IfSome o IsNoFuse) (sym c.sight_did.ensures) (tried_unfused _)) c.act_made-made.ensures.did c.act_made-made.ensures.tried))

pub act_made-made-requires-then-is_closed-clause-all : goal.act_made-made-requires-then-is_closed-clause-all
act_made-made-requires-then-is_closed-clause-all g c =
    c.see.ensures.counts.count ∙ (all_there g.D.Disk.Tells g.D.Disk.files g.P.Piece.Tells g.D.Disk.fault_count g.D.Disk.fuse_count c.seat.invariant c.hold-kept.ensures)

pub act_made-made-requires-then-is_closed-clause-most : goal.act_made-made-requires-then-is_closed-clause-most
act_made-made-requires-then-is_closed-clause-most g c = few_there g.D.Disk.Tells g.D.Disk.files g.P.Piece.Tells g.D.Disk.fault_count g.D.Disk.fuse_count c.seat.invariant c.hold-kept.ensures

pub act_made-made-requires-in_default-clause-all : goal.act_made-made-requires-in_default-clause-all
act_made-made-requires-in_default-clause-all g c =
    c.freeze.ensures.counts.count ∙ c.see.ensures.counts.count ∙ (all_there g.D.Disk.Tells g.D.Disk.files g.P.Piece.Tells g.D.Disk.fault_count g.D.Disk.fuse_count c.seat.invariant c.hold-kept.ensures)

pub act_made-made-requires-in_default-clause-most : goal.act_made-made-requires-in_default-clause-most
act_made-made-requires-in_default-clause-most g c = few_there g.D.Disk.Tells g.D.Disk.files g.P.Piece.Tells g.D.Disk.fault_count g.D.Disk.fuse_count c.seat.invariant c.hold-kept.ensures

pub act_made-made-requires-2-clause-all : goal.act_made-made-requires-2-clause-all
act_made-made-requires-2-clause-all g c =
    c.see.ensures.counts.count ∙ (all_there g.D.Disk.Tells g.D.Disk.files g.P.Piece.Tells g.D.Disk.fault_count g.D.Disk.fuse_count c.seat.invariant c.hold-kept.ensures)

pub act_made-made-requires-2-clause-most : goal.act_made-made-requires-2-clause-most
act_made-made-requires-2-clause-most g c = few_there g.D.Disk.Tells g.D.Disk.files g.P.Piece.Tells g.D.Disk.fault_count g.D.Disk.fuse_count c.seat.invariant c.hold-kept.ensures

pub sight_of-op-requires : goal.sight_of-op-requires
sight_of-op-requires g c = subst (λ (n : ℕ). c.args.replica < n)
    (sym (ap length c.in-Ok.ensures.answered.1 ∙ row_long c.args.pair c.args.replica (place_in c.in-Ok.seen.row c.args.replica) c.hold-kept.result.logical.rows c.see.new.self.rows
    c.in-Ok.ensures.row ∙ ap length (sym c.look-looked.ensures.row) ∙ c.look-looked.ensures.long))
    (within_it g.D.Disk.Tells g.D.Disk.files g.P.Piece.Tells g.D.Disk.fault_count g.D.Disk.fuse_count c.seat.invariant c.hold-kept.ensures c.args.replica
    (c.requires.within c.seat.invariant.opened (sym (ap (λ (s : Seated g.row.D.Denot g.row.P.Denot). s.start) c.seat.view_is) ∙ c.seat.invariant.is)))

pub publish-requires-clause-fact : goal.publish-requires-clause-fact
publish-requires-clause-fact g c =
    seen_may g.D.Disk.Tells g.D.Disk.files g.P.Piece.Tells g.D.Disk.fault_count g.D.Disk.fuse_count c.args.tag c.sight_of-op.result c.seat.invariant.opened
    c.hold-kept.new.seat.seen c.hold-kept.result c.hold-kept.result (is_held g.D.Disk.Tells g.D.Disk.files g.P.Piece.Tells g.D.Disk.fault_count g.D.Disk.fuse_count
    c.seat.invariant c.hold-kept.ensures) (sees_nothing g.D.Disk.Tells g.D.Disk.files g.P.Piece.Tells g.D.Disk.fault_count g.D.Disk.fuse_count c.args.tag c.hold-kept.result
    (is_held g.D.Disk.Tells g.D.Disk.files g.P.Piece.Tells g.D.Disk.fault_count g.D.Disk.fuse_count c.seat.invariant c.hold-kept.ensures).is_open
    (is_held g.D.Disk.Tells g.D.Disk.files g.P.Piece.Tells g.D.Disk.fault_count g.D.Disk.fuse_count c.seat.invariant c.hold-kept.ensures).serves)
    c.show_all.ensures.fact c.args.pair c.args.replica (place_in c.in-Ok.seen.row c.args.replica) c.sight_of-op.ensures
    (within_it g.D.Disk.Tells g.D.Disk.files g.P.Piece.Tells g.D.Disk.fault_count g.D.Disk.fuse_count c.seat.invariant c.hold-kept.ensures c.args.replica
    (c.requires.within c.seat.invariant.opened (sym (ap (λ (s : Seated g.row.D.Denot g.row.P.Denot). s.start) c.seat.view_is) ∙ c.seat.invariant.is)))
    (λ tells k s. (c.in-Ok.ensures.known tells k s).1)

pub free-requires-then-is_closed-clause-may : goal.free-requires-then-is_closed-clause-may
free-requires-then-is_closed-clause-may g c = record {
  stands_for =
      changed_free g.D.Disk.Tells g.D.Disk.files g.P.Piece.Tells g.D.Disk.fault_count g.D.Disk.fuse_count c.args.tag c.seat.inside.turn c.hold-kept.new.seat c.seat.inside.view
      c.show_all.new.seat c.show_all.new.seat c.hold-kept.result (record c.hold-kept.result { logical = c.see.new.self }) c.act_made-made-then-is_closed.result
      c.seat.invariant c.hold-kept.ensures c.show_all.ensures.seen.0 c.show_all.ensures.seen.1 c.show_all.ensures.seen.1
      (sees_changes g.D.Disk.Tells g.D.Disk.files g.P.Piece.Tells g.D.Disk.fault_count g.D.Disk.fuse_count c.args.tag c.hold-kept.result
      (record c.hold-kept.result { logical = c.see.new.self }) (see_closed g.D.Disk.Tells g.D.Disk.files g.P.Piece.Tells g.D.Disk.fault_count g.D.Disk.fuse_count c.args.tag
      c.hold-kept.result (record c.hold-kept.result { logical = c.see.new.self }) refl refl refl c.in-Ok.ensures.same c.in-Ok.ensures.open c.in-Ok.ensures.counts
      (λ tells k s. (c.in-Ok.ensures.stands tells k s, λ thawed j run has. c.in-Ok.ensures.tight tells k s j)) c.in-Ok.ensures.still.0 refl
      (sym c.is_closed.ensures ∙ c.if-is_closed.true) (is_held g.D.Disk.Tells g.D.Disk.files g.P.Piece.Tells g.D.Disk.fault_count g.D.Disk.fuse_count c.seat.invariant
      c.hold-kept.ensures).serves) c.act_made-made-then-is_closed.result (subst (λ (l : List ℕ).
      IsTried g.D.Disk.fault_count g.D.Disk.fuse_count c.args.tag l c.see.new.self.replicas c.act_made-made-then-is_closed.result) c.faults_of-before.ensures
      (c.act_made-made-then-is_closed.ensures.tried refl)));
  mine =
      changed_mine g.D.Disk.Tells g.D.Disk.files g.P.Piece.Tells g.D.Disk.fault_count g.D.Disk.fuse_count c.args.tag c.seat.inside.turn c.hold-kept.new.seat c.seat.inside.view
      c.show_all.new.seat c.show_all.new.seat c.hold-kept.result (record c.hold-kept.result { logical = c.see.new.self }) c.act_made-made-then-is_closed.result
      c.seat.invariant c.hold-kept.ensures c.show_all.ensures.seen.0 c.show_all.ensures.seen.1 c.show_all.ensures.seen.1
      (sees_changes g.D.Disk.Tells g.D.Disk.files g.P.Piece.Tells g.D.Disk.fault_count g.D.Disk.fuse_count c.args.tag c.hold-kept.result
      (record c.hold-kept.result { logical = c.see.new.self }) (see_closed g.D.Disk.Tells g.D.Disk.files g.P.Piece.Tells g.D.Disk.fault_count g.D.Disk.fuse_count c.args.tag
      c.hold-kept.result (record c.hold-kept.result { logical = c.see.new.self }) refl refl refl c.in-Ok.ensures.same c.in-Ok.ensures.open c.in-Ok.ensures.counts
      (λ tells k s. (c.in-Ok.ensures.stands tells k s, λ thawed j run has. c.in-Ok.ensures.tight tells k s j)) c.in-Ok.ensures.still.0 refl
      (sym c.is_closed.ensures ∙ c.if-is_closed.true) (is_held g.D.Disk.Tells g.D.Disk.files g.P.Piece.Tells g.D.Disk.fault_count g.D.Disk.fuse_count c.seat.invariant
      c.hold-kept.ensures).serves) c.act_made-made-then-is_closed.result (subst (λ (l : List ℕ).
      IsTried g.D.Disk.fault_count g.D.Disk.fuse_count c.args.tag l c.see.new.self.replicas c.act_made-made-then-is_closed.result) c.faults_of-before.ensures
      (c.act_made-made-then-is_closed.ensures.tried refl))) (ap (λ (s : Seated g.row.D.Denot g.row.P.Denot). s.number) c.seat.view_is ∙ c.requires.may.lane);
}

pub invariant_of-seat-then-is_closed : goal.invariant_of-seat-then-is_closed
invariant_of-seat-then-is_closed g c =
    changed_seated g.D.Disk.Tells g.D.Disk.files g.P.Piece.Tells g.D.Disk.fault_count g.D.Disk.fuse_count c.args.tag c.seat.inside.turn c.hold-kept.new.seat c.seat.inside.view
    c.show_all.new.seat c.show_all.new.seat c.hold-kept.result (record c.hold-kept.result { logical = c.see.new.self }) c.act_made-made-then-is_closed.result
    c.seat.invariant c.hold-kept.ensures c.show_all.ensures.seen.0 c.show_all.ensures.seen.1 c.show_all.ensures.seen.1
    (sees_changes g.D.Disk.Tells g.D.Disk.files g.P.Piece.Tells g.D.Disk.fault_count g.D.Disk.fuse_count c.args.tag c.hold-kept.result
    (record c.hold-kept.result { logical = c.see.new.self }) (see_closed g.D.Disk.Tells g.D.Disk.files g.P.Piece.Tells g.D.Disk.fault_count g.D.Disk.fuse_count c.args.tag
    c.hold-kept.result (record c.hold-kept.result { logical = c.see.new.self }) refl refl refl c.in-Ok.ensures.same c.in-Ok.ensures.open c.in-Ok.ensures.counts
    (λ tells k s. (c.in-Ok.ensures.stands tells k s, λ thawed j run has. c.in-Ok.ensures.tight tells k s j)) c.in-Ok.ensures.still.0 refl
    (sym c.is_closed.ensures ∙ c.if-is_closed.true) (is_held g.D.Disk.Tells g.D.Disk.files g.P.Piece.Tells g.D.Disk.fault_count g.D.Disk.fuse_count c.seat.invariant
    c.hold-kept.ensures).serves) c.act_made-made-then-is_closed.result (subst (λ (l : List ℕ).
    IsTried g.D.Disk.fault_count g.D.Disk.fuse_count c.args.tag l c.see.new.self.replicas c.act_made-made-then-is_closed.result) c.faults_of-before.ensures
    (c.act_made-made-then-is_closed.ensures.tried refl))) c.free-then-is_closed.new.seat c.free-then-is_closed.ensures
    (ap (λ (s : Seated g.row.D.Denot g.row.P.Denot). s.number) c.seat.view_is ∙ c.requires.may.lane)
    (later_same c.seat.inside.view c.hold-kept.result.front.shown c.show_all.new.seat c.show_all.ensures.seen.0 c.show_all.ensures.seen.1)

pub returns-then-is_closed-clause-seen : goal.returns-then-is_closed-clause-seen
returns-then-is_closed-clause-seen g c =
    subst (λ (s : Seated g.row.D.Denot g.row.P.Denot). IsTold g.D.Disk.Tells g.D.Disk.files g.P.Piece.Tells g.D.Disk.fault_count g.D.Disk.fuse_count s.start
    (λ volume. SeeAnswer volume c.args.tag {P = g.row.P.Denot} g.P.Piece.Tells c.args.pair c.args.replica (Ok c.in-Ok.seen) s.sight
    (seat_of c.free-then-is_closed.new.seat c.show_all.new.seat).sight)) c.seat.view_is
    (changed_told g.D.Disk.Tells g.D.Disk.files g.P.Piece.Tells g.D.Disk.fault_count g.D.Disk.fuse_count c.args.tag c.seat.inside.turn c.hold-kept.new.seat c.seat.inside.view
    c.show_all.new.seat c.show_all.new.seat c.hold-kept.result (record c.hold-kept.result { logical = c.see.new.self }) c.act_made-made-then-is_closed.result
    c.seat.invariant c.hold-kept.ensures c.show_all.ensures.seen.0 c.show_all.ensures.seen.1 c.show_all.ensures.seen.1
    (sees_changes g.D.Disk.Tells g.D.Disk.files g.P.Piece.Tells g.D.Disk.fault_count g.D.Disk.fuse_count c.args.tag c.hold-kept.result
    (record c.hold-kept.result { logical = c.see.new.self }) (see_closed g.D.Disk.Tells g.D.Disk.files g.P.Piece.Tells g.D.Disk.fault_count g.D.Disk.fuse_count c.args.tag
    c.hold-kept.result (record c.hold-kept.result { logical = c.see.new.self }) refl refl refl c.in-Ok.ensures.same c.in-Ok.ensures.open c.in-Ok.ensures.counts
    (λ tells k s. (c.in-Ok.ensures.stands tells k s, λ thawed j run has. c.in-Ok.ensures.tight tells k s j)) c.in-Ok.ensures.still.0 refl
    (sym c.is_closed.ensures ∙ c.if-is_closed.true) (is_held g.D.Disk.Tells g.D.Disk.files g.P.Piece.Tells g.D.Disk.fault_count g.D.Disk.fuse_count c.seat.invariant
    c.hold-kept.ensures).serves) c.act_made-made-then-is_closed.result (subst (λ (l : List ℕ).
    IsTried g.D.Disk.fault_count g.D.Disk.fuse_count c.args.tag l c.see.new.self.replicas c.act_made-made-then-is_closed.result) c.faults_of-before.ensures
    (c.act_made-made-then-is_closed.ensures.tried refl))) c.free-then-is_closed.new.seat c.free-then-is_closed.ensures
    (λ volume. SeeAnswer volume c.args.tag {P = g.row.P.Denot} g.P.Piece.Tells c.args.pair c.args.replica (Ok c.in-Ok.seen))
    (seen_found g.D.Disk.Tells g.D.Disk.files g.P.Piece.Tells g.D.Disk.fault_count g.D.Disk.fuse_count c.args.tag c.args.pair c.args.replica c.hold-kept.result
    c.act_made-made-then-is_closed.result (tried_quiet g.D.Disk.fault_count g.D.Disk.fuse_count c.args.tag (counts g.D.Disk.fault_count c.hold-kept.result.logical.replicas)
    c.see.new.self.replicas c.act_made-made-then-is_closed.result (subst (λ (l : List ℕ).
    IsTried g.D.Disk.fault_count g.D.Disk.fuse_count c.args.tag l c.see.new.self.replicas c.act_made-made-then-is_closed.result) c.faults_of-before.ensures
    (c.act_made-made-then-is_closed.ensures.tried refl)))
    (nothing_made g.D.Disk.Tells g.D.Disk.files g.P.Piece.Tells g.D.Disk.fault_count g.D.Disk.fuse_count c.args.tag c.hold-kept.result
    (record c.hold-kept.result { logical = c.see.new.self }) c.act_made-made-then-is_closed.result
    (subst (λ (l : List ℕ). IsTried g.D.Disk.fault_count g.D.Disk.fuse_count c.args.tag l c.see.new.self.replicas c.act_made-made-then-is_closed.result)
    c.faults_of-before.ensures (c.act_made-made-then-is_closed.ensures.tried refl))) c.in-Ok.seen
    (see_known g.D.Disk.Tells g.D.Disk.files g.P.Piece.Tells g.D.Disk.fault_count g.D.Disk.fuse_count c.hold-kept.result.logical c.see.new.self c.args.pair c.args.replica
    c.in-Ok.seen c.in-Ok.ensures.same.settings c.in-Ok.ensures.answered.1 c.in-Ok.ensures.stands c.in-Ok.ensures.known)))

pub returns-then-is_closed-clause-held : goal.returns-then-is_closed-clause-held
returns-then-is_closed-clause-held g c =
    subst (λ (s : Seated g.row.D.Denot g.row.P.Denot). UnfusedHolding c.args.tag s.sight (seat_of c.free-then-is_closed.new.seat c.show_all.new.seat).sight) c.seat.view_is
    (changed_held g.D.Disk.Tells g.D.Disk.files g.P.Piece.Tells g.D.Disk.fault_count g.D.Disk.fuse_count c.args.tag c.seat.inside.turn c.hold-kept.new.seat c.seat.inside.view
    c.show_all.new.seat c.show_all.new.seat c.hold-kept.result (record c.hold-kept.result { logical = c.see.new.self }) c.act_made-made-then-is_closed.result
    c.seat.invariant c.hold-kept.ensures c.show_all.ensures.seen.0 c.show_all.ensures.seen.1 c.show_all.ensures.seen.1
    (sees_changes g.D.Disk.Tells g.D.Disk.files g.P.Piece.Tells g.D.Disk.fault_count g.D.Disk.fuse_count c.args.tag c.hold-kept.result
    (record c.hold-kept.result { logical = c.see.new.self }) (see_closed g.D.Disk.Tells g.D.Disk.files g.P.Piece.Tells g.D.Disk.fault_count g.D.Disk.fuse_count c.args.tag
    c.hold-kept.result (record c.hold-kept.result { logical = c.see.new.self }) refl refl refl c.in-Ok.ensures.same c.in-Ok.ensures.open c.in-Ok.ensures.counts
    (λ tells k s. (c.in-Ok.ensures.stands tells k s, λ thawed j run has. c.in-Ok.ensures.tight tells k s j)) c.in-Ok.ensures.still.0 refl
    (sym c.is_closed.ensures ∙ c.if-is_closed.true) (is_held g.D.Disk.Tells g.D.Disk.files g.P.Piece.Tells g.D.Disk.fault_count g.D.Disk.fuse_count c.seat.invariant
    c.hold-kept.ensures).serves) c.act_made-made-then-is_closed.result (subst (λ (l : List ℕ).
    IsTried g.D.Disk.fault_count g.D.Disk.fuse_count c.args.tag l c.see.new.self.replicas c.act_made-made-then-is_closed.result) c.faults_of-before.ensures
    (c.act_made-made-then-is_closed.ensures.tried refl))) c.free-then-is_closed.new.seat c.free-then-is_closed.ensures
    (tries_unfused g.D.Disk.fault_count g.D.Disk.fuse_count c.args.tag _ _ c.act_made-made-then-is_closed.result (c.act_made-made-then-is_closed.ensures.tried refl)))

pub free-requires-2-clause-may : goal.free-requires-2-clause-may
free-requires-2-clause-may g c = record {
  stands_for =
      changed_free g.D.Disk.Tells g.D.Disk.files g.P.Piece.Tells g.D.Disk.fault_count g.D.Disk.fuse_count c.args.tag c.seat.inside.turn c.hold-kept.new.seat c.seat.inside.view
      c.show_all.new.seat c.publish.new.seat c.hold-kept.result (record c.hold-kept.result { logical = c.see.new.self; front = c.publish.new.self }) c.act_made-made-2.result
      c.seat.invariant c.hold-kept.ensures c.show_all.ensures.seen.0 c.show_all.ensures.seen.1 c.in-Ok-publish.ensures.seen.1
      (sees_changes g.D.Disk.Tells g.D.Disk.files g.P.Piece.Tells g.D.Disk.fault_count g.D.Disk.fuse_count c.args.tag c.hold-kept.result
      (record c.hold-kept.result { logical = c.see.new.self; front = c.publish.new.self })
      (see_shown g.D.Disk.Tells g.D.Disk.files g.P.Piece.Tells g.D.Disk.fault_count g.D.Disk.fuse_count c.args.tag c.hold-kept.result
      (record c.hold-kept.result { logical = c.see.new.self; front = c.publish.new.self }) refl refl refl c.in-Ok.ensures.same c.in-Ok.ensures.open c.in-Ok.ensures.counts
      (λ tells k s. (c.in-Ok.ensures.stands tells k s, λ thawed j run has. c.in-Ok.ensures.tight tells k s j)) c.in-Ok.ensures.still.0 c.args.pair c.args.replica
      (place_in c.in-Ok.seen.row c.args.replica) c.sight_of-op.result (record { tag = c.front_tag.result; deed = c.sight_of-op.result })
      c.sight_of-op.ensures (within_it g.D.Disk.Tells g.D.Disk.files g.P.Piece.Tells g.D.Disk.fault_count g.D.Disk.fuse_count c.seat.invariant c.hold-kept.ensures c.args.replica
      (c.requires.within c.seat.invariant.opened (sym (ap (λ (s : Seated g.row.D.Denot g.row.P.Denot). s.start) c.seat.view_is) ∙ c.seat.invariant.is))) c.in-Ok.ensures.row
      c.in-Ok-publish.ensures.done.0) c.act_made-made-2.result (subst (λ (l : List ℕ). IsTried g.D.Disk.fault_count g.D.Disk.fuse_count c.args.tag l c.see.new.self.replicas
      c.act_made-made-2.result) c.faults_of-before.ensures (c.act_made-made-2.ensures.tried refl)));
  mine =
      changed_mine g.D.Disk.Tells g.D.Disk.files g.P.Piece.Tells g.D.Disk.fault_count g.D.Disk.fuse_count c.args.tag c.seat.inside.turn c.hold-kept.new.seat c.seat.inside.view
      c.show_all.new.seat c.publish.new.seat c.hold-kept.result (record c.hold-kept.result { logical = c.see.new.self; front = c.publish.new.self }) c.act_made-made-2.result
      c.seat.invariant c.hold-kept.ensures c.show_all.ensures.seen.0 c.show_all.ensures.seen.1 c.in-Ok-publish.ensures.seen.1
      (sees_changes g.D.Disk.Tells g.D.Disk.files g.P.Piece.Tells g.D.Disk.fault_count g.D.Disk.fuse_count c.args.tag c.hold-kept.result
      (record c.hold-kept.result { logical = c.see.new.self; front = c.publish.new.self })
      (see_shown g.D.Disk.Tells g.D.Disk.files g.P.Piece.Tells g.D.Disk.fault_count g.D.Disk.fuse_count c.args.tag c.hold-kept.result
      (record c.hold-kept.result { logical = c.see.new.self; front = c.publish.new.self }) refl refl refl c.in-Ok.ensures.same c.in-Ok.ensures.open c.in-Ok.ensures.counts
      (λ tells k s. (c.in-Ok.ensures.stands tells k s, λ thawed j run has. c.in-Ok.ensures.tight tells k s j)) c.in-Ok.ensures.still.0 c.args.pair c.args.replica
      (place_in c.in-Ok.seen.row c.args.replica) c.sight_of-op.result (record { tag = c.front_tag.result; deed = c.sight_of-op.result })
      c.sight_of-op.ensures (within_it g.D.Disk.Tells g.D.Disk.files g.P.Piece.Tells g.D.Disk.fault_count g.D.Disk.fuse_count c.seat.invariant c.hold-kept.ensures c.args.replica
      (c.requires.within c.seat.invariant.opened (sym (ap (λ (s : Seated g.row.D.Denot g.row.P.Denot). s.start) c.seat.view_is) ∙ c.seat.invariant.is))) c.in-Ok.ensures.row
      c.in-Ok-publish.ensures.done.0) c.act_made-made-2.result (subst (λ (l : List ℕ). IsTried g.D.Disk.fault_count g.D.Disk.fuse_count c.args.tag l c.see.new.self.replicas
      c.act_made-made-2.result) c.faults_of-before.ensures (c.act_made-made-2.ensures.tried refl)))
      (ap (λ (s : Seated g.row.D.Denot g.row.P.Denot). s.number) c.seat.view_is ∙ c.requires.may.lane);
}

pub invariant_of-seat-2 : goal.invariant_of-seat-2
invariant_of-seat-2 g c =
    changed_seated g.D.Disk.Tells g.D.Disk.files g.P.Piece.Tells g.D.Disk.fault_count g.D.Disk.fuse_count c.args.tag c.seat.inside.turn c.hold-kept.new.seat c.seat.inside.view
    c.show_all.new.seat c.publish.new.seat c.hold-kept.result (record c.hold-kept.result { logical = c.see.new.self; front = c.publish.new.self }) c.act_made-made-2.result
    c.seat.invariant c.hold-kept.ensures c.show_all.ensures.seen.0 c.show_all.ensures.seen.1 c.in-Ok-publish.ensures.seen.1
    (sees_changes g.D.Disk.Tells g.D.Disk.files g.P.Piece.Tells g.D.Disk.fault_count g.D.Disk.fuse_count c.args.tag c.hold-kept.result
    (record c.hold-kept.result { logical = c.see.new.self; front = c.publish.new.self })
    (see_shown g.D.Disk.Tells g.D.Disk.files g.P.Piece.Tells g.D.Disk.fault_count g.D.Disk.fuse_count c.args.tag c.hold-kept.result
    (record c.hold-kept.result { logical = c.see.new.self; front = c.publish.new.self }) refl refl refl c.in-Ok.ensures.same c.in-Ok.ensures.open c.in-Ok.ensures.counts
    (λ tells k s. (c.in-Ok.ensures.stands tells k s, λ thawed j run has. c.in-Ok.ensures.tight tells k s j)) c.in-Ok.ensures.still.0 c.args.pair c.args.replica
    (place_in c.in-Ok.seen.row c.args.replica) c.sight_of-op.result (record { tag = c.front_tag.result; deed = c.sight_of-op.result })
    c.sight_of-op.ensures (within_it g.D.Disk.Tells g.D.Disk.files g.P.Piece.Tells g.D.Disk.fault_count g.D.Disk.fuse_count c.seat.invariant c.hold-kept.ensures c.args.replica
    (c.requires.within c.seat.invariant.opened (sym (ap (λ (s : Seated g.row.D.Denot g.row.P.Denot). s.start) c.seat.view_is) ∙ c.seat.invariant.is))) c.in-Ok.ensures.row
    c.in-Ok-publish.ensures.done.0) c.act_made-made-2.result (subst (λ (l : List ℕ). IsTried g.D.Disk.fault_count g.D.Disk.fuse_count c.args.tag l c.see.new.self.replicas
    c.act_made-made-2.result) c.faults_of-before.ensures (c.act_made-made-2.ensures.tried refl))) c.free-2.new.seat c.free-2.ensures
    (ap (λ (s : Seated g.row.D.Denot g.row.P.Denot). s.number) c.seat.view_is ∙ c.requires.may.lane)
    (later_deed c.seat.inside.view c.hold-kept.result.front.shown c.publish.new.seat c.sight_of-op.result c.show_all.ensures.seen.0
    (c.in-Ok-publish.ensures.seen.1 ∙ ap (λ f. f.shown) c.in-Ok-publish.ensures.done.0))

pub returns-clause-seen : goal.returns-clause-seen
returns-clause-seen g c =
    subst (λ (s : Seated g.row.D.Denot g.row.P.Denot). IsTold g.D.Disk.Tells g.D.Disk.files g.P.Piece.Tells g.D.Disk.fault_count g.D.Disk.fuse_count s.start
    (λ volume. SeeAnswer volume c.args.tag {P = g.row.P.Denot} g.P.Piece.Tells c.args.pair c.args.replica (Ok c.in-Ok.seen) s.sight
    (seat_of c.free-2.new.seat c.publish.new.seat).sight)) c.seat.view_is
    (changed_told g.D.Disk.Tells g.D.Disk.files g.P.Piece.Tells g.D.Disk.fault_count g.D.Disk.fuse_count c.args.tag c.seat.inside.turn c.hold-kept.new.seat c.seat.inside.view
    c.show_all.new.seat c.publish.new.seat c.hold-kept.result (record c.hold-kept.result { logical = c.see.new.self; front = c.publish.new.self }) c.act_made-made-2.result
    c.seat.invariant c.hold-kept.ensures c.show_all.ensures.seen.0 c.show_all.ensures.seen.1 c.in-Ok-publish.ensures.seen.1
    (sees_changes g.D.Disk.Tells g.D.Disk.files g.P.Piece.Tells g.D.Disk.fault_count g.D.Disk.fuse_count c.args.tag c.hold-kept.result
    (record c.hold-kept.result { logical = c.see.new.self; front = c.publish.new.self })
    (see_shown g.D.Disk.Tells g.D.Disk.files g.P.Piece.Tells g.D.Disk.fault_count g.D.Disk.fuse_count c.args.tag c.hold-kept.result
    (record c.hold-kept.result { logical = c.see.new.self; front = c.publish.new.self }) refl refl refl c.in-Ok.ensures.same c.in-Ok.ensures.open c.in-Ok.ensures.counts
    (λ tells k s. (c.in-Ok.ensures.stands tells k s, λ thawed j run has. c.in-Ok.ensures.tight tells k s j)) c.in-Ok.ensures.still.0 c.args.pair c.args.replica
    (place_in c.in-Ok.seen.row c.args.replica) c.sight_of-op.result (record { tag = c.front_tag.result; deed = c.sight_of-op.result })
    c.sight_of-op.ensures (within_it g.D.Disk.Tells g.D.Disk.files g.P.Piece.Tells g.D.Disk.fault_count g.D.Disk.fuse_count c.seat.invariant c.hold-kept.ensures c.args.replica
    (c.requires.within c.seat.invariant.opened (sym (ap (λ (s : Seated g.row.D.Denot g.row.P.Denot). s.start) c.seat.view_is) ∙ c.seat.invariant.is))) c.in-Ok.ensures.row
    c.in-Ok-publish.ensures.done.0) c.act_made-made-2.result (subst (λ (l : List ℕ). IsTried g.D.Disk.fault_count g.D.Disk.fuse_count c.args.tag l c.see.new.self.replicas
    c.act_made-made-2.result) c.faults_of-before.ensures (c.act_made-made-2.ensures.tried refl))) c.free-2.new.seat c.free-2.ensures
    (λ volume. SeeAnswer volume c.args.tag {P = g.row.P.Denot} g.P.Piece.Tells c.args.pair c.args.replica (Ok c.in-Ok.seen))
    (seen_found g.D.Disk.Tells g.D.Disk.files g.P.Piece.Tells g.D.Disk.fault_count g.D.Disk.fuse_count c.args.tag c.args.pair c.args.replica c.hold-kept.result
    c.act_made-made-2.result (tried_quiet g.D.Disk.fault_count g.D.Disk.fuse_count c.args.tag (counts g.D.Disk.fault_count c.hold-kept.result.logical.replicas)
    c.see.new.self.replicas c.act_made-made-2.result (subst (λ (l : List ℕ). IsTried g.D.Disk.fault_count g.D.Disk.fuse_count c.args.tag l c.see.new.self.replicas
    c.act_made-made-2.result) c.faults_of-before.ensures (c.act_made-made-2.ensures.tried refl)))
    (nothing_made g.D.Disk.Tells g.D.Disk.files g.P.Piece.Tells g.D.Disk.fault_count g.D.Disk.fuse_count c.args.tag c.hold-kept.result
    (record c.hold-kept.result { logical = c.see.new.self; front = c.publish.new.self }) c.act_made-made-2.result
    (subst (λ (l : List ℕ). IsTried g.D.Disk.fault_count g.D.Disk.fuse_count c.args.tag l c.see.new.self.replicas c.act_made-made-2.result) c.faults_of-before.ensures
    (c.act_made-made-2.ensures.tried refl))) c.in-Ok.seen
    (see_known g.D.Disk.Tells g.D.Disk.files g.P.Piece.Tells g.D.Disk.fault_count g.D.Disk.fuse_count c.hold-kept.result.logical c.see.new.self c.args.pair c.args.replica
    c.in-Ok.seen c.in-Ok.ensures.same.settings c.in-Ok.ensures.answered.1 c.in-Ok.ensures.stands c.in-Ok.ensures.known)))

pub returns-clause-held : goal.returns-clause-held
returns-clause-held g c =
    subst (λ (s : Seated g.row.D.Denot g.row.P.Denot). UnfusedHolding c.args.tag s.sight (seat_of c.free-2.new.seat c.publish.new.seat).sight) c.seat.view_is
    (changed_held g.D.Disk.Tells g.D.Disk.files g.P.Piece.Tells g.D.Disk.fault_count g.D.Disk.fuse_count c.args.tag c.seat.inside.turn c.hold-kept.new.seat c.seat.inside.view
    c.show_all.new.seat c.publish.new.seat c.hold-kept.result (record c.hold-kept.result { logical = c.see.new.self; front = c.publish.new.self }) c.act_made-made-2.result
    c.seat.invariant c.hold-kept.ensures c.show_all.ensures.seen.0 c.show_all.ensures.seen.1 c.in-Ok-publish.ensures.seen.1
    (sees_changes g.D.Disk.Tells g.D.Disk.files g.P.Piece.Tells g.D.Disk.fault_count g.D.Disk.fuse_count c.args.tag c.hold-kept.result
    (record c.hold-kept.result { logical = c.see.new.self; front = c.publish.new.self })
    (see_shown g.D.Disk.Tells g.D.Disk.files g.P.Piece.Tells g.D.Disk.fault_count g.D.Disk.fuse_count c.args.tag c.hold-kept.result
    (record c.hold-kept.result { logical = c.see.new.self; front = c.publish.new.self }) refl refl refl c.in-Ok.ensures.same c.in-Ok.ensures.open c.in-Ok.ensures.counts
    (λ tells k s. (c.in-Ok.ensures.stands tells k s, λ thawed j run has. c.in-Ok.ensures.tight tells k s j)) c.in-Ok.ensures.still.0 c.args.pair c.args.replica
    (place_in c.in-Ok.seen.row c.args.replica) c.sight_of-op.result (record { tag = c.front_tag.result; deed = c.sight_of-op.result })
    c.sight_of-op.ensures (within_it g.D.Disk.Tells g.D.Disk.files g.P.Piece.Tells g.D.Disk.fault_count g.D.Disk.fuse_count c.seat.invariant c.hold-kept.ensures c.args.replica
    (c.requires.within c.seat.invariant.opened (sym (ap (λ (s : Seated g.row.D.Denot g.row.P.Denot). s.start) c.seat.view_is) ∙ c.seat.invariant.is))) c.in-Ok.ensures.row
    c.in-Ok-publish.ensures.done.0) c.act_made-made-2.result (subst (λ (l : List ℕ). IsTried g.D.Disk.fault_count g.D.Disk.fuse_count c.args.tag l c.see.new.self.replicas
    c.act_made-made-2.result) c.faults_of-before.ensures (c.act_made-made-2.ensures.tried refl))) c.free-2.new.seat c.free-2.ensures
    (tries_unfused g.D.Disk.fault_count g.D.Disk.fuse_count c.args.tag _ _ c.act_made-made-2.result (c.act_made-made-2.ensures.tried refl)))

pub free-requires-in_default-clause-may : goal.free-requires-in_default-clause-may
free-requires-in_default-clause-may g c = record {
  stands_for =
      changed_free g.D.Disk.Tells g.D.Disk.files g.P.Piece.Tells g.D.Disk.fault_count g.D.Disk.fuse_count c.args.tag c.seat.inside.turn c.hold-kept.new.seat c.seat.inside.view
      c.show_all.new.seat c.publish.new.seat c.hold-kept.result (record c.hold-kept.result { logical = c.freeze.new.self; front = c.publish.new.self }) c.act_made-made-in_default.result
      c.seat.invariant c.hold-kept.ensures c.show_all.ensures.seen.0 c.show_all.ensures.seen.1 c.in_default.ensures.seen.1
      (see_wanted g.D.Disk.Tells g.D.Disk.files g.P.Piece.Tells g.D.Disk.fault_count g.D.Disk.fuse_count c.args.tag c.hold-kept.result
      (record c.hold-kept.result { logical = c.freeze.new.self; front = c.publish.new.self }) c.see.new.self c.args.replica c.frozen-frozen.result
      (sym c.in-Ok.ensures.still.0 ∙ sym c.frozen-frozen.ensures.is)
      (both_again g.D.Disk.Tells g.D.Disk.files g.P.Piece.Tells g.D.Disk.fault_count g.D.Disk.fuse_count c.args.tag c.hold-kept.result
      (record c.hold-kept.result { logical = c.freeze.new.self; front = c.publish.new.self }) c.see.new.self refl c.in-Ok.ensures.same c.in-Ok.ensures.open
      c.in-Ok.ensures.counts c.freeze.ensures.same c.freeze.ensures.open c.freeze.ensures.counts).0
      (both_again g.D.Disk.Tells g.D.Disk.files g.P.Piece.Tells g.D.Disk.fault_count g.D.Disk.fuse_count c.args.tag c.hold-kept.result
      (record c.hold-kept.result { logical = c.freeze.new.self; front = c.publish.new.self }) c.see.new.self refl c.in-Ok.ensures.same c.in-Ok.ensures.open
      c.in-Ok.ensures.counts c.freeze.ensures.same c.freeze.ensures.open c.freeze.ensures.counts).1
      (shows_nothing c.args.tag c.hold-kept.result (record c.hold-kept.result { logical = c.freeze.new.self; front = c.publish.new.self })
      (ap (λ f. f.shown) c.in_default.ensures.refused) (ap (λ f. f.log) c.in_default.ensures.refused)) refl refl c.in-Ok.ensures.same c.in-Ok.ensures.still.0 c.in-Ok.ensures.stands
      c.freeze.ensures.frozen c.freeze.ensures.again (λ thawed. ap (λ v. v.frozen) (c.freeze.ensures.still thawed)) c.act_made-made-in_default.result
      (record {
        acts = λ m is. c.act_made-made-in_default.ensures.did m ((c.freeze_did-did.ensures
            ∙ ap (λ (f : Option ℕ). freezes_by c.frozen-frozen.result f) c.frozen.ensures.is) ∙ is);
        tries = λ none. (subst (λ (l : List ℕ). IsTried g.D.Disk.fault_count g.D.Disk.fuse_count c.args.tag l c.freeze.new.self.replicas c.act_made-made-in_default.result)
            c.faults_of-before.ensures (c.act_made-made-in_default.ensures.tried ((c.freeze_did-did.ensures
            ∙ ap (λ (f : Option ℕ). freezes_by c.frozen-frozen.result f) c.frozen.ensures.is) ∙ none)));
      })).0;
  mine =
      changed_mine g.D.Disk.Tells g.D.Disk.files g.P.Piece.Tells g.D.Disk.fault_count g.D.Disk.fuse_count c.args.tag c.seat.inside.turn c.hold-kept.new.seat c.seat.inside.view
      c.show_all.new.seat c.publish.new.seat c.hold-kept.result (record c.hold-kept.result { logical = c.freeze.new.self; front = c.publish.new.self }) c.act_made-made-in_default.result
      c.seat.invariant c.hold-kept.ensures c.show_all.ensures.seen.0 c.show_all.ensures.seen.1 c.in_default.ensures.seen.1
      (see_wanted g.D.Disk.Tells g.D.Disk.files g.P.Piece.Tells g.D.Disk.fault_count g.D.Disk.fuse_count c.args.tag c.hold-kept.result
      (record c.hold-kept.result { logical = c.freeze.new.self; front = c.publish.new.self }) c.see.new.self c.args.replica c.frozen-frozen.result
      (sym c.in-Ok.ensures.still.0 ∙ sym c.frozen-frozen.ensures.is)
      (both_again g.D.Disk.Tells g.D.Disk.files g.P.Piece.Tells g.D.Disk.fault_count g.D.Disk.fuse_count c.args.tag c.hold-kept.result
      (record c.hold-kept.result { logical = c.freeze.new.self; front = c.publish.new.self }) c.see.new.self refl c.in-Ok.ensures.same c.in-Ok.ensures.open
      c.in-Ok.ensures.counts c.freeze.ensures.same c.freeze.ensures.open c.freeze.ensures.counts).0
      (both_again g.D.Disk.Tells g.D.Disk.files g.P.Piece.Tells g.D.Disk.fault_count g.D.Disk.fuse_count c.args.tag c.hold-kept.result
      (record c.hold-kept.result { logical = c.freeze.new.self; front = c.publish.new.self }) c.see.new.self refl c.in-Ok.ensures.same c.in-Ok.ensures.open
      c.in-Ok.ensures.counts c.freeze.ensures.same c.freeze.ensures.open c.freeze.ensures.counts).1
      (shows_nothing c.args.tag c.hold-kept.result (record c.hold-kept.result { logical = c.freeze.new.self; front = c.publish.new.self })
      (ap (λ f. f.shown) c.in_default.ensures.refused) (ap (λ f. f.log) c.in_default.ensures.refused)) refl refl c.in-Ok.ensures.same c.in-Ok.ensures.still.0 c.in-Ok.ensures.stands
      c.freeze.ensures.frozen c.freeze.ensures.again (λ thawed. ap (λ v. v.frozen) (c.freeze.ensures.still thawed)) c.act_made-made-in_default.result
      (record {
        acts = λ m is. c.act_made-made-in_default.ensures.did m ((c.freeze_did-did.ensures
            ∙ ap (λ (f : Option ℕ). freezes_by c.frozen-frozen.result f) c.frozen.ensures.is) ∙ is);
        tries = λ none. (subst (λ (l : List ℕ). IsTried g.D.Disk.fault_count g.D.Disk.fuse_count c.args.tag l c.freeze.new.self.replicas c.act_made-made-in_default.result)
            c.faults_of-before.ensures (c.act_made-made-in_default.ensures.tried ((c.freeze_did-did.ensures
            ∙ ap (λ (f : Option ℕ). freezes_by c.frozen-frozen.result f) c.frozen.ensures.is) ∙ none)));
      })).0
      (ap (λ (s : Seated g.row.D.Denot g.row.P.Denot). s.number) c.seat.view_is ∙ c.requires.may.lane);
}

pub invariant_of-seat-in_default : goal.invariant_of-seat-in_default
invariant_of-seat-in_default g c =
    changed_seated g.D.Disk.Tells g.D.Disk.files g.P.Piece.Tells g.D.Disk.fault_count g.D.Disk.fuse_count c.args.tag c.seat.inside.turn c.hold-kept.new.seat c.seat.inside.view
    c.show_all.new.seat c.publish.new.seat c.hold-kept.result (record c.hold-kept.result { logical = c.freeze.new.self; front = c.publish.new.self }) c.act_made-made-in_default.result
    c.seat.invariant c.hold-kept.ensures c.show_all.ensures.seen.0 c.show_all.ensures.seen.1 c.in_default.ensures.seen.1
    (see_wanted g.D.Disk.Tells g.D.Disk.files g.P.Piece.Tells g.D.Disk.fault_count g.D.Disk.fuse_count c.args.tag c.hold-kept.result
    (record c.hold-kept.result { logical = c.freeze.new.self; front = c.publish.new.self }) c.see.new.self c.args.replica c.frozen-frozen.result
    (sym c.in-Ok.ensures.still.0 ∙ sym c.frozen-frozen.ensures.is)
    (both_again g.D.Disk.Tells g.D.Disk.files g.P.Piece.Tells g.D.Disk.fault_count g.D.Disk.fuse_count c.args.tag c.hold-kept.result
    (record c.hold-kept.result { logical = c.freeze.new.self; front = c.publish.new.self }) c.see.new.self refl c.in-Ok.ensures.same c.in-Ok.ensures.open c.in-Ok.ensures.counts
    c.freeze.ensures.same c.freeze.ensures.open c.freeze.ensures.counts).0 (both_again g.D.Disk.Tells g.D.Disk.files g.P.Piece.Tells g.D.Disk.fault_count g.D.Disk.fuse_count
    c.args.tag c.hold-kept.result (record c.hold-kept.result { logical = c.freeze.new.self; front = c.publish.new.self }) c.see.new.self refl c.in-Ok.ensures.same
    c.in-Ok.ensures.open c.in-Ok.ensures.counts c.freeze.ensures.same c.freeze.ensures.open c.freeze.ensures.counts).1
    (shows_nothing c.args.tag c.hold-kept.result (record c.hold-kept.result { logical = c.freeze.new.self; front = c.publish.new.self })
    (ap (λ f. f.shown) c.in_default.ensures.refused) (ap (λ f. f.log) c.in_default.ensures.refused)) refl refl c.in-Ok.ensures.same c.in-Ok.ensures.still.0 c.in-Ok.ensures.stands
    c.freeze.ensures.frozen c.freeze.ensures.again (λ thawed. ap (λ v. v.frozen) (c.freeze.ensures.still thawed)) c.act_made-made-in_default.result
    (record {
      acts = λ m is. c.act_made-made-in_default.ensures.did m ((c.freeze_did-did.ensures
          ∙ ap (λ (f : Option ℕ). freezes_by c.frozen-frozen.result f) c.frozen.ensures.is) ∙ is);
      tries = λ none. (subst (λ (l : List ℕ). IsTried g.D.Disk.fault_count g.D.Disk.fuse_count c.args.tag l c.freeze.new.self.replicas c.act_made-made-in_default.result)
          c.faults_of-before.ensures (c.act_made-made-in_default.ensures.tried ((c.freeze_did-did.ensures
          ∙ ap (λ (f : Option ℕ). freezes_by c.frozen-frozen.result f) c.frozen.ensures.is) ∙ none)));
    })).0 c.free-in_default.new.seat c.free-in_default.ensures
    (ap (λ (s : Seated g.row.D.Denot g.row.P.Denot). s.number) c.seat.view_is ∙ c.requires.may.lane)
    (later_same c.seat.inside.view c.hold-kept.result.front.shown c.publish.new.seat c.show_all.ensures.seen.0 (c.in_default.ensures.seen.1 ∙ ap (λ f. f.shown) c.in_default.ensures.refused))

pub returns-in_default-clause-seen : goal.returns-in_default-clause-seen
returns-in_default-clause-seen g c =
    subst (λ (s : Seated g.row.D.Denot g.row.P.Denot). IsTold g.D.Disk.Tells g.D.Disk.files g.P.Piece.Tells g.D.Disk.fault_count g.D.Disk.fuse_count s.start
    (λ volume. SeeAnswer volume c.args.tag {P = g.row.P.Denot} g.P.Piece.Tells c.args.pair c.args.replica (Err NoMemory) s.sight
    (seat_of c.free-in_default.new.seat c.publish.new.seat).sight)) c.seat.view_is
    (changed_told g.D.Disk.Tells g.D.Disk.files g.P.Piece.Tells g.D.Disk.fault_count g.D.Disk.fuse_count c.args.tag c.seat.inside.turn c.hold-kept.new.seat c.seat.inside.view
    c.show_all.new.seat c.publish.new.seat c.hold-kept.result (record c.hold-kept.result { logical = c.freeze.new.self; front = c.publish.new.self }) c.act_made-made-in_default.result
    c.seat.invariant c.hold-kept.ensures c.show_all.ensures.seen.0 c.show_all.ensures.seen.1 c.in_default.ensures.seen.1
    (see_wanted g.D.Disk.Tells g.D.Disk.files g.P.Piece.Tells g.D.Disk.fault_count g.D.Disk.fuse_count c.args.tag c.hold-kept.result
    (record c.hold-kept.result { logical = c.freeze.new.self; front = c.publish.new.self }) c.see.new.self c.args.replica c.frozen-frozen.result
    (sym c.in-Ok.ensures.still.0 ∙ sym c.frozen-frozen.ensures.is)
    (both_again g.D.Disk.Tells g.D.Disk.files g.P.Piece.Tells g.D.Disk.fault_count g.D.Disk.fuse_count c.args.tag c.hold-kept.result
    (record c.hold-kept.result { logical = c.freeze.new.self; front = c.publish.new.self }) c.see.new.self refl c.in-Ok.ensures.same c.in-Ok.ensures.open c.in-Ok.ensures.counts
    c.freeze.ensures.same c.freeze.ensures.open c.freeze.ensures.counts).0 (both_again g.D.Disk.Tells g.D.Disk.files g.P.Piece.Tells g.D.Disk.fault_count g.D.Disk.fuse_count
    c.args.tag c.hold-kept.result (record c.hold-kept.result { logical = c.freeze.new.self; front = c.publish.new.self }) c.see.new.self refl c.in-Ok.ensures.same
    c.in-Ok.ensures.open c.in-Ok.ensures.counts c.freeze.ensures.same c.freeze.ensures.open c.freeze.ensures.counts).1
    (shows_nothing c.args.tag c.hold-kept.result (record c.hold-kept.result { logical = c.freeze.new.self; front = c.publish.new.self })
    (ap (λ f. f.shown) c.in_default.ensures.refused) (ap (λ f. f.log) c.in_default.ensures.refused)) refl refl c.in-Ok.ensures.same c.in-Ok.ensures.still.0 c.in-Ok.ensures.stands
    c.freeze.ensures.frozen c.freeze.ensures.again (λ thawed. ap (λ v. v.frozen) (c.freeze.ensures.still thawed)) c.act_made-made-in_default.result
    (record {
      acts = λ m is. c.act_made-made-in_default.ensures.did m ((c.freeze_did-did.ensures
          ∙ ap (λ (f : Option ℕ). freezes_by c.frozen-frozen.result f) c.frozen.ensures.is) ∙ is);
      tries = λ none. (subst (λ (l : List ℕ). IsTried g.D.Disk.fault_count g.D.Disk.fuse_count c.args.tag l c.freeze.new.self.replicas c.act_made-made-in_default.result)
          c.faults_of-before.ensures (c.act_made-made-in_default.ensures.tried ((c.freeze_did-did.ensures
          ∙ ap (λ (f : Option ℕ). freezes_by c.frozen-frozen.result f) c.frozen.ensures.is) ∙ none)));
    })).0 c.free-in_default.new.seat c.free-in_default.ensures
    (λ volume. SeeAnswer volume c.args.tag {P = g.row.P.Denot} g.P.Piece.Tells c.args.pair c.args.replica (Err NoMemory))
    (see_wanted g.D.Disk.Tells g.D.Disk.files g.P.Piece.Tells g.D.Disk.fault_count g.D.Disk.fuse_count c.args.tag c.hold-kept.result
    (record c.hold-kept.result { logical = c.freeze.new.self; front = c.publish.new.self }) c.see.new.self c.args.replica c.frozen-frozen.result
    (sym c.in-Ok.ensures.still.0 ∙ sym c.frozen-frozen.ensures.is)
    (both_again g.D.Disk.Tells g.D.Disk.files g.P.Piece.Tells g.D.Disk.fault_count g.D.Disk.fuse_count c.args.tag c.hold-kept.result
    (record c.hold-kept.result { logical = c.freeze.new.self; front = c.publish.new.self }) c.see.new.self refl c.in-Ok.ensures.same c.in-Ok.ensures.open c.in-Ok.ensures.counts
    c.freeze.ensures.same c.freeze.ensures.open c.freeze.ensures.counts).0 (both_again g.D.Disk.Tells g.D.Disk.files g.P.Piece.Tells g.D.Disk.fault_count g.D.Disk.fuse_count
    c.args.tag c.hold-kept.result (record c.hold-kept.result { logical = c.freeze.new.self; front = c.publish.new.self }) c.see.new.self refl c.in-Ok.ensures.same
    c.in-Ok.ensures.open c.in-Ok.ensures.counts c.freeze.ensures.same c.freeze.ensures.open c.freeze.ensures.counts).1
    (shows_nothing c.args.tag c.hold-kept.result (record c.hold-kept.result { logical = c.freeze.new.self; front = c.publish.new.self })
    (ap (λ f. f.shown) c.in_default.ensures.refused) (ap (λ f. f.log) c.in_default.ensures.refused)) refl refl c.in-Ok.ensures.same c.in-Ok.ensures.still.0 c.in-Ok.ensures.stands
    c.freeze.ensures.frozen c.freeze.ensures.again (λ thawed. ap (λ v. v.frozen) (c.freeze.ensures.still thawed)) c.act_made-made-in_default.result
    (record {
      acts = λ m is. c.act_made-made-in_default.ensures.did m ((c.freeze_did-did.ensures
          ∙ ap (λ (f : Option ℕ). freezes_by c.frozen-frozen.result f) c.frozen.ensures.is) ∙ is);
      tries = λ none. (subst (λ (l : List ℕ). IsTried g.D.Disk.fault_count g.D.Disk.fuse_count c.args.tag l c.freeze.new.self.replicas c.act_made-made-in_default.result)
          c.faults_of-before.ensures (c.act_made-made-in_default.ensures.tried ((c.freeze_did-did.ensures
          ∙ ap (λ (f : Option ℕ). freezes_by c.frozen-frozen.result f) c.frozen.ensures.is) ∙ none)));
    })).1)

pub returns-in_default-clause-held : goal.returns-in_default-clause-held
returns-in_default-clause-held g c =
    subst (λ (s : Seated g.row.D.Denot g.row.P.Denot). UnfusedHolding c.args.tag s.sight (seat_of c.free-in_default.new.seat c.publish.new.seat).sight) c.seat.view_is
    (changed_held g.D.Disk.Tells g.D.Disk.files g.P.Piece.Tells g.D.Disk.fault_count g.D.Disk.fuse_count c.args.tag c.seat.inside.turn c.hold-kept.new.seat c.seat.inside.view
    c.show_all.new.seat c.publish.new.seat c.hold-kept.result (record c.hold-kept.result { logical = c.freeze.new.self; front = c.publish.new.self }) c.act_made-made-in_default.result
    c.seat.invariant c.hold-kept.ensures c.show_all.ensures.seen.0 c.show_all.ensures.seen.1 c.in_default.ensures.seen.1
    (see_wanted g.D.Disk.Tells g.D.Disk.files g.P.Piece.Tells g.D.Disk.fault_count g.D.Disk.fuse_count c.args.tag c.hold-kept.result
    (record c.hold-kept.result { logical = c.freeze.new.self; front = c.publish.new.self }) c.see.new.self c.args.replica c.frozen-frozen.result
    (sym c.in-Ok.ensures.still.0 ∙ sym c.frozen-frozen.ensures.is)
    (both_again g.D.Disk.Tells g.D.Disk.files g.P.Piece.Tells g.D.Disk.fault_count g.D.Disk.fuse_count c.args.tag c.hold-kept.result
    (record c.hold-kept.result { logical = c.freeze.new.self; front = c.publish.new.self }) c.see.new.self refl c.in-Ok.ensures.same c.in-Ok.ensures.open c.in-Ok.ensures.counts
    c.freeze.ensures.same c.freeze.ensures.open c.freeze.ensures.counts).0 (both_again g.D.Disk.Tells g.D.Disk.files g.P.Piece.Tells g.D.Disk.fault_count g.D.Disk.fuse_count
    c.args.tag c.hold-kept.result (record c.hold-kept.result { logical = c.freeze.new.self; front = c.publish.new.self }) c.see.new.self refl c.in-Ok.ensures.same
    c.in-Ok.ensures.open c.in-Ok.ensures.counts c.freeze.ensures.same c.freeze.ensures.open c.freeze.ensures.counts).1
    (shows_nothing c.args.tag c.hold-kept.result (record c.hold-kept.result { logical = c.freeze.new.self; front = c.publish.new.self })
    (ap (λ f. f.shown) c.in_default.ensures.refused) (ap (λ f. f.log) c.in_default.ensures.refused)) refl refl c.in-Ok.ensures.same c.in-Ok.ensures.still.0 c.in-Ok.ensures.stands
    c.freeze.ensures.frozen c.freeze.ensures.again (λ thawed. ap (λ v. v.frozen) (c.freeze.ensures.still thawed)) c.act_made-made-in_default.result
    (record {
      acts = λ m is. c.act_made-made-in_default.ensures.did m ((c.freeze_did-did.ensures
          ∙ ap (λ (f : Option ℕ). freezes_by c.frozen-frozen.result f) c.frozen.ensures.is) ∙ is);
      tries = λ none. (subst (λ (l : List ℕ). IsTried g.D.Disk.fault_count g.D.Disk.fuse_count c.args.tag l c.freeze.new.self.replicas c.act_made-made-in_default.result)
          c.faults_of-before.ensures (c.act_made-made-in_default.ensures.tried ((c.freeze_did-did.ensures
          ∙ ap (λ (f : Option ℕ). freezes_by c.frozen-frozen.result f) c.frozen.ensures.is) ∙ none)));
    })).0 c.free-in_default.new.seat c.free-in_default.ensures
    (made_unfused_by g.D.Disk.fault_count g.D.Disk.fuse_count c.args.tag _ _ c.freeze_did-did.result c.act_made-made-in_default.result
    (subst (λ (o : Option Made). IfSome o IsNoFuse) (sym c.freeze_did-did.ensures) (freezes_unfused _ _)) c.act_made-made-in_default.ensures.did c.act_made-made-in_default.ensures.tried))

pub returns-then-is_seen-clause-long : goal.returns-then-is_seen-clause-long
returns-then-is_seen-clause-long g c = λ opened is.
    long_at c.seat.invariant.opened opened c.hold-kept.result (length c.look-looked.result.row) c.look-looked.ensures.long
    (is_held g.D.Disk.Tells g.D.Disk.files g.P.Piece.Tells g.D.Disk.fault_count g.D.Disk.fuse_count c.seat.invariant c.hold-kept.ensures).same_settings
    (sym c.seat.invariant.is ∙ ap (λ (s : Seated g.row.D.Denot g.row.P.Denot). s.start) c.seat.view_is ∙ is)

pub returns-then-is_seen-clause-sighted : goal.returns-then-is_seen-clause-sighted
returns-then-is_seen-clause-sighted g c = c.is_seen.ensures.0 c.if-is_seen.true

pub returns-then-is_seen-clause-needle : goal.returns-then-is_seen-clause-needle
returns-then-is_seen-clause-needle g c = inl refl

pub returns-then-is_closed-clause-long : goal.returns-then-is_closed-clause-long
returns-then-is_closed-clause-long g c = λ opened is.
    long_at c.seat.invariant.opened opened c.hold-kept.result (length c.in-Ok.seen.row) (ap length c.in-Ok.ensures.answered.1
    ∙ row_long c.args.pair c.args.replica (place_in c.in-Ok.seen.row c.args.replica) c.hold-kept.result.logical.rows c.see.new.self.rows c.in-Ok.ensures.row
    ∙ ap length (sym c.look-looked.ensures.row) ∙ c.look-looked.ensures.long)
    (is_held g.D.Disk.Tells g.D.Disk.files g.P.Piece.Tells g.D.Disk.fault_count g.D.Disk.fuse_count c.seat.invariant c.hold-kept.ensures).same_settings
    (sym c.seat.invariant.is ∙ ap (λ (s : Seated g.row.D.Denot g.row.P.Denot). s.start) c.seat.view_is ∙ is)

pub returns-then-is_closed-clause-sighted : goal.returns-then-is_closed-clause-sighted
returns-then-is_closed-clause-sighted g c = c.in-Ok.ensures.seen

pub returns-then-is_closed-clause-needle : goal.returns-then-is_closed-clause-needle
returns-then-is_closed-clause-needle g c = inr (c.in-Ok.ensures.needle
    (unseen c.look-looked.result.row (row_at c.hold-kept.result.logical.rows c.args.pair) c.args.replica c.is_seen.result c.is_seen.ensures.1 c.if-is_seen.false c.look-looked.ensures.row))

pub returns-clause-long : goal.returns-clause-long
returns-clause-long g c = λ opened is.
    long_at c.seat.invariant.opened opened c.hold-kept.result (length c.in-Ok.seen.row) (ap length c.in-Ok.ensures.answered.1
    ∙ row_long c.args.pair c.args.replica (place_in c.in-Ok.seen.row c.args.replica) c.hold-kept.result.logical.rows c.see.new.self.rows c.in-Ok.ensures.row
    ∙ ap length (sym c.look-looked.ensures.row) ∙ c.look-looked.ensures.long)
    (is_held g.D.Disk.Tells g.D.Disk.files g.P.Piece.Tells g.D.Disk.fault_count g.D.Disk.fuse_count c.seat.invariant c.hold-kept.ensures).same_settings
    (sym c.seat.invariant.is ∙ ap (λ (s : Seated g.row.D.Denot g.row.P.Denot). s.start) c.seat.view_is ∙ is)

pub returns-clause-sighted : goal.returns-clause-sighted
returns-clause-sighted g c = c.in-Ok.ensures.seen

pub returns-clause-needle : goal.returns-clause-needle
returns-clause-needle g c = inr (c.in-Ok.ensures.needle
    (unseen c.look-looked.result.row (row_at c.hold-kept.result.logical.rows c.args.pair) c.args.replica c.is_seen.result c.is_seen.ensures.1 c.if-is_seen.false c.look-looked.ensures.row))

pub returns-in-Err-clause-refusals : goal.returns-in-Err-clause-refusals
returns-in-Err-clause-refusals g c =
    subst (λ (s : Seated g.row.D.Denot g.row.P.Denot). OfOpened s.start (λ settings v. RefusesSight settings v c.in-Err.fault)) c.seat.view_is
    (of_opened g.D.Disk.Tells g.D.Disk.files g.P.Piece.Tells g.D.Disk.fault_count g.D.Disk.fuse_count c.seat.invariant c.hold-kept.ensures (λ settings v. RefusesSight settings v c.in-Err.fault)
    (refuses_sight c.hold-kept.result.logical.settings c.hold-kept.result.logical.number g.D.Disk.fault_count c.hold-kept.result.logical.replicas c.see.new.self.replicas
    c.in-Err.fault c.in-Err.ensures.causes))
