use Rattle.std.proofs.Common.{[], ◌<◌, true, false, Some, None, refl, sym, ap, subst, ◌∙◌}
use Rattle.std.specs.Prelude.{Ok, Err}
use Rattle.hay_needle.specs.declared.settings.Settings.{Settings}
use Rattle.hay_turn.specs.Seats.{after_free}
use Rattle.hay_turn.specs.Slots.{acts_in}
use Rattle.hay_volume_lock.specs.Acts.{act_of}
use Rattle.hay_volume_lock.specs.Answers.{IsAlways, IsTold, UnfusedHolding}
use Rattle.hay_volume_lock.specs.Compactions.{FailedHere}
use Rattle.hay_volume_lock.specs.Finishes.{FinishAnswer}
use Rattle.hay_volume_lock.specs.Seats.{Seated}
use Rattle.hay_volume_lock.proofs.Ending.{finish_barred, finish_of, finish_refused, finish_shown, finish_unshown, none_frozen, unfinished_same}
use Rattle.hay_volume_lock.proofs.Finishing.{refused_failed, refused_found, refused_goes}
use Rattle.hay_volume_lock.proofs.Holding.{is_held, made_always, made_free, made_mine, made_seated, made_told, quiet_free, quiet_held, quiet_seated, quiet_told, seat_of, within_it, made_unfused}
use Rattle.hay_volume_lock.proofs.Moving.{swap_may}
use Rattle.hay_volume_lock.proofs.Publishing.{changed_free, changed_held, changed_mine, changed_seated, changed_told, later_deed, later_same}
use Rattle.hay_volume_lock.proofs.Swapping.{is_swap}
use Rattle.hay_volume_lock.specs.Refusing.{OfOpened, RefusesRun}
use Rattle.hay_volume_lock.proofs.Refusing.{refuses_run, of_opened}
use Rattle.hay_volume_lock.proofs.Unfused.{IsNoFuse, one_unfused, unswapped_unfused}
use Rattle.hay_volume_lock.specs.declared.act.Made.TheVariants as made_is
use Rattle.hay_volume_lock.proofs.lock.VolumeLock.finish.Goals as goal

pub show_all-requires : goal.show_all-requires
show_all-requires g c =
    c.seat.invariant.front ∙ sym (is_held g.D.Disk.Tells g.D.Disk.files g.P.Piece.Tells g.D.Disk.fault_count g.D.Disk.fuse_count c.seat.invariant c.hold-kept.ensures).front

pub barred-requires-clause-within : goal.barred-requires-clause-within
barred-requires-clause-within g c =
    (within_it g.D.Disk.Tells g.D.Disk.files g.P.Piece.Tells g.D.Disk.fault_count g.D.Disk.fuse_count c.seat.invariant c.hold-kept.ensures c.args.replica
    (c.requires.within c.seat.invariant.opened (sym (ap (λ (s : Seated g.row.D.Denot g.row.P.Denot). s.start) c.seat.view_is) ∙ c.seat.invariant.is)))

pub barred-requires-clause-open : goal.barred-requires-clause-open
barred-requires-clause-open g c = (is_held g.D.Disk.Tells g.D.Disk.files g.P.Piece.Tells g.D.Disk.fault_count g.D.Disk.fuse_count c.seat.invariant c.hold-kept.ensures).is_open

pub free-requires-clause-may : goal.free-requires-clause-may
free-requires-clause-may g c = record {
  stands_for =
      quiet_free g.D.Disk.Tells g.D.Disk.files g.P.Piece.Tells g.D.Disk.fault_count g.D.Disk.fuse_count c.args.tag c.seat.inside.turn c.hold-kept.new.seat
      (after_free c.hold-kept.new.seat []) c.seat.inside.view c.show_all.new.seat c.hold-kept.result
      c.seat.invariant c.hold-kept.ensures c.show_all.ensures.seen.0 c.show_all.ensures.seen.1 refl;
  mine = tt;
}

pub invariant_of-seat : goal.invariant_of-seat
invariant_of-seat g c =
    quiet_seated g.D.Disk.Tells g.D.Disk.files g.P.Piece.Tells g.D.Disk.fault_count g.D.Disk.fuse_count c.args.tag c.seat.inside.turn c.hold-kept.new.seat c.free.new.seat
    c.seat.inside.view c.show_all.new.seat c.hold-kept.result
    c.seat.invariant c.hold-kept.ensures c.show_all.ensures.seen.0 c.show_all.ensures.seen.1 c.free.ensures

pub returns-in-Some-clause-finished : goal.returns-in-Some-clause-finished
returns-in-Some-clause-finished g c =
    subst (λ (s : Seated g.row.D.Denot g.row.P.Denot). IsTold g.D.Disk.Tells g.D.Disk.files g.P.Piece.Tells g.D.Disk.fault_count g.D.Disk.fuse_count s.start
    (λ volume. FinishAnswer volume c.args.tag c.args.replica (Err (record { fault = c.in-Some.fault; frozen = None })) s.sight (seat_of c.free.new.seat c.show_all.new.seat).sight)) c.seat.view_is
    (quiet_told g.D.Disk.Tells g.D.Disk.files g.P.Piece.Tells g.D.Disk.fault_count g.D.Disk.fuse_count c.args.tag c.seat.inside.turn c.hold-kept.new.seat c.free.new.seat
    c.seat.inside.view c.show_all.new.seat c.hold-kept.result c.seat.invariant c.hold-kept.ensures c.show_all.ensures.seen.0 c.show_all.ensures.seen.1 c.free.ensures
    (λ volume. FinishAnswer volume c.args.tag c.args.replica (Err (record { fault = c.in-Some.fault; frozen = None })))
    (finish_barred g.D.Disk.Tells g.D.Disk.files g.P.Piece.Tells g.D.Disk.fault_count g.D.Disk.fuse_count c.args.tag c.hold-kept.result c.args.replica
    (within_it g.D.Disk.Tells g.D.Disk.files g.P.Piece.Tells g.D.Disk.fault_count g.D.Disk.fuse_count c.seat.invariant c.hold-kept.ensures c.args.replica
    (c.requires.within c.seat.invariant.opened (sym (ap (λ (s : Seated g.row.D.Denot g.row.P.Denot). s.start) c.seat.view_is) ∙ c.seat.invariant.is))) c.in-Some.fault None
    c.in-Some.ensures.barred))

pub returns-in-Some-clause-causes : goal.returns-in-Some-clause-causes
returns-in-Some-clause-causes g c = λ m f frozen is. absurd (c.in-Some.ensures.quiet m f (ap Some (unfinished_same is)))

pub returns-in-Some-clause-held : goal.returns-in-Some-clause-held
returns-in-Some-clause-held g c =
    subst (λ (s : Seated g.row.D.Denot g.row.P.Denot). UnfusedHolding c.args.tag s.sight (seat_of c.free.new.seat c.show_all.new.seat).sight) c.seat.view_is
    (quiet_held g.D.Disk.Tells g.D.Disk.files g.P.Piece.Tells g.D.Disk.fault_count g.D.Disk.fuse_count c.args.tag c.seat.inside.turn c.hold-kept.new.seat c.free.new.seat
    c.seat.inside.view c.show_all.new.seat c.hold-kept.result c.seat.invariant c.hold-kept.ensures c.show_all.ensures.seen.0 c.show_all.ensures.seen.1 c.free.ensures)

pub finish_files-requires-clause-within : goal.finish_files-requires-clause-within
finish_files-requires-clause-within g c =
    (within_it g.D.Disk.Tells g.D.Disk.files g.P.Piece.Tells g.D.Disk.fault_count g.D.Disk.fuse_count c.seat.invariant c.hold-kept.ensures c.args.replica
    (c.requires.within c.seat.invariant.opened (sym (ap (λ (s : Seated g.row.D.Denot g.row.P.Denot). s.start) c.seat.view_is) ∙ c.seat.invariant.is)))

pub finish_files-requires-clause-open : goal.finish_files-requires-clause-open
finish_files-requires-clause-open g c = (is_held g.D.Disk.Tells g.D.Disk.files g.P.Piece.Tells g.D.Disk.fault_count g.D.Disk.fuse_count c.seat.invariant c.hold-kept.ensures).is_open

pub free-requires-in-Err-clause-may : goal.free-requires-in-Err-clause-may
free-requires-in-Err-clause-may g c = record {
  stands_for =
      made_free g.D.Disk.Tells g.D.Disk.files g.P.Piece.Tells g.D.Disk.fault_count g.D.Disk.fuse_count c.args.tag c.seat.inside.turn c.hold-kept.new.seat
      (after_free c.hold-kept.new.seat (acts_in (Some c.new-act.result))) c.seat.inside.view c.show_all.new.seat c.hold-kept.result (record c.hold-kept.result { logical = c.finish_files.new.self })
      (Some c.new-act.result) c.seat.invariant c.hold-kept.ensures c.show_all.ensures.seen.0 c.show_all.ensures.seen.1
      (refused_goes g.D.Disk.Tells g.D.Disk.files g.P.Piece.Tells g.D.Disk.fault_count g.D.Disk.fuse_count c.args.tag c.hold-kept.result
      (record c.hold-kept.result { logical = c.finish_files.new.self }) c.args.replica (within_it g.D.Disk.Tells g.D.Disk.files g.P.Piece.Tells g.D.Disk.fault_count
      g.D.Disk.fuse_count c.seat.invariant c.hold-kept.ensures c.args.replica (c.requires.within c.seat.invariant.opened
      (sym (ap (λ (s : Seated g.row.D.Denot g.row.P.Denot). s.start) c.seat.view_is) ∙ c.seat.invariant.is)))
      (finish_of g.D.Disk.fault_count g.D.Disk.fuse_count c.hold-kept.result (record c.hold-kept.result { logical = c.finish_files.new.self }) refl refl c.in-Err.ensures.same
      c.in-Err.ensures.open c.in-Err.ensures.counts (λ m is. (c.in-Err.ensures.frozen m is).1) c.in-Err.ensures.kept) c.in-Err.ensures.counts.stay refl refl
      c.in-Err.ensures.others c.in_default.ensures.own c.in_default.ensures.free c.frozen-frozen.result (sym c.frozen-frozen.ensures.is) c.in-Err.fault c.new-act.result
      c.in-Err.ensures.refused c.in-Err.ensures.causes (c.new-act.ensures ∙ ap (λ m. act_of g.D.Disk.fault_count g.D.Disk.fuse_count c.args.tag m
      c.finish_files.new.self.replicas) c.unfinished_did-did.ensures)) refl;
  mine =
      made_mine g.D.Disk.Tells g.D.Disk.files g.P.Piece.Tells g.D.Disk.fault_count g.D.Disk.fuse_count c.args.tag c.seat.inside.turn c.hold-kept.new.seat
      (after_free c.hold-kept.new.seat (acts_in (Some c.new-act.result))) c.seat.inside.view c.show_all.new.seat c.hold-kept.result (record c.hold-kept.result { logical = c.finish_files.new.self })
      (Some c.new-act.result) c.seat.invariant c.hold-kept.ensures c.show_all.ensures.seen.0 c.show_all.ensures.seen.1
      (refused_goes g.D.Disk.Tells g.D.Disk.files g.P.Piece.Tells g.D.Disk.fault_count g.D.Disk.fuse_count c.args.tag c.hold-kept.result
      (record c.hold-kept.result { logical = c.finish_files.new.self }) c.args.replica (within_it g.D.Disk.Tells g.D.Disk.files g.P.Piece.Tells g.D.Disk.fault_count
      g.D.Disk.fuse_count c.seat.invariant c.hold-kept.ensures c.args.replica (c.requires.within c.seat.invariant.opened
      (sym (ap (λ (s : Seated g.row.D.Denot g.row.P.Denot). s.start) c.seat.view_is) ∙ c.seat.invariant.is)))
      (finish_of g.D.Disk.fault_count g.D.Disk.fuse_count c.hold-kept.result (record c.hold-kept.result { logical = c.finish_files.new.self }) refl refl c.in-Err.ensures.same
      c.in-Err.ensures.open c.in-Err.ensures.counts (λ m is. (c.in-Err.ensures.frozen m is).1) c.in-Err.ensures.kept) c.in-Err.ensures.counts.stay refl refl
      c.in-Err.ensures.others c.in_default.ensures.own c.in_default.ensures.free c.frozen-frozen.result (sym c.frozen-frozen.ensures.is) c.in-Err.fault c.new-act.result
      c.in-Err.ensures.refused c.in-Err.ensures.causes (c.new-act.ensures ∙ ap (λ m. act_of g.D.Disk.fault_count g.D.Disk.fuse_count c.args.tag m
      c.finish_files.new.self.replicas) c.unfinished_did-did.ensures)) refl (ap (λ (s : Seated g.row.D.Denot g.row.P.Denot). s.number) c.seat.view_is ∙ c.requires.may.lane);
}

pub invariant_of-seat-in-Err : goal.invariant_of-seat-in-Err
invariant_of-seat-in-Err g c =
    made_seated g.D.Disk.Tells g.D.Disk.files g.P.Piece.Tells g.D.Disk.fault_count g.D.Disk.fuse_count c.args.tag c.seat.inside.turn c.hold-kept.new.seat c.free-in-Err.new.seat
    c.seat.inside.view c.show_all.new.seat c.hold-kept.result (record c.hold-kept.result { logical = c.finish_files.new.self })
    (Some c.new-act.result) c.seat.invariant c.hold-kept.ensures c.show_all.ensures.seen.0 c.show_all.ensures.seen.1
    (refused_goes g.D.Disk.Tells g.D.Disk.files g.P.Piece.Tells g.D.Disk.fault_count g.D.Disk.fuse_count c.args.tag c.hold-kept.result
    (record c.hold-kept.result { logical = c.finish_files.new.self }) c.args.replica (within_it g.D.Disk.Tells g.D.Disk.files g.P.Piece.Tells g.D.Disk.fault_count
    g.D.Disk.fuse_count c.seat.invariant c.hold-kept.ensures c.args.replica (c.requires.within c.seat.invariant.opened
    (sym (ap (λ (s : Seated g.row.D.Denot g.row.P.Denot). s.start) c.seat.view_is) ∙ c.seat.invariant.is)))
    (finish_of g.D.Disk.fault_count g.D.Disk.fuse_count c.hold-kept.result (record c.hold-kept.result { logical = c.finish_files.new.self }) refl refl c.in-Err.ensures.same
    c.in-Err.ensures.open c.in-Err.ensures.counts (λ m is. (c.in-Err.ensures.frozen m is).1) c.in-Err.ensures.kept) c.in-Err.ensures.counts.stay refl refl
    c.in-Err.ensures.others c.in_default.ensures.own c.in_default.ensures.free c.frozen-frozen.result (sym c.frozen-frozen.ensures.is) c.in-Err.fault c.new-act.result
    c.in-Err.ensures.refused c.in-Err.ensures.causes (c.new-act.ensures ∙ ap (λ m. act_of g.D.Disk.fault_count g.D.Disk.fuse_count c.args.tag m
    c.finish_files.new.self.replicas) c.unfinished_did-did.ensures)) c.free-in-Err.ensures (ap (λ (s : Seated g.row.D.Denot g.row.P.Denot). s.number) c.seat.view_is ∙ c.requires.may.lane)

pub returns-in-Err-clause-finished : goal.returns-in-Err-clause-finished
returns-in-Err-clause-finished g c =
    subst (λ (s : Seated g.row.D.Denot g.row.P.Denot). IsTold g.D.Disk.Tells g.D.Disk.files g.P.Piece.Tells g.D.Disk.fault_count g.D.Disk.fuse_count s.start
    (λ volume. FinishAnswer volume c.args.tag c.args.replica (Err (record { fault = c.in-Err.fault; frozen = c.frozen-frozen.result })) s.sight
    (seat_of c.free-in-Err.new.seat c.show_all.new.seat).sight)) c.seat.view_is
    (made_told g.D.Disk.Tells g.D.Disk.files g.P.Piece.Tells g.D.Disk.fault_count g.D.Disk.fuse_count c.args.tag c.seat.inside.turn c.hold-kept.new.seat c.free-in-Err.new.seat
    c.seat.inside.view c.show_all.new.seat c.hold-kept.result (record c.hold-kept.result { logical = c.finish_files.new.self })
    (Some c.new-act.result) c.seat.invariant c.hold-kept.ensures c.show_all.ensures.seen.0 c.show_all.ensures.seen.1
    (refused_goes g.D.Disk.Tells g.D.Disk.files g.P.Piece.Tells g.D.Disk.fault_count g.D.Disk.fuse_count c.args.tag c.hold-kept.result
    (record c.hold-kept.result { logical = c.finish_files.new.self }) c.args.replica (within_it g.D.Disk.Tells g.D.Disk.files g.P.Piece.Tells g.D.Disk.fault_count
    g.D.Disk.fuse_count c.seat.invariant c.hold-kept.ensures c.args.replica (c.requires.within c.seat.invariant.opened
    (sym (ap (λ (s : Seated g.row.D.Denot g.row.P.Denot). s.start) c.seat.view_is) ∙ c.seat.invariant.is)))
    (finish_of g.D.Disk.fault_count g.D.Disk.fuse_count c.hold-kept.result (record c.hold-kept.result { logical = c.finish_files.new.self }) refl refl c.in-Err.ensures.same
    c.in-Err.ensures.open c.in-Err.ensures.counts (λ m is. (c.in-Err.ensures.frozen m is).1) c.in-Err.ensures.kept) c.in-Err.ensures.counts.stay refl refl
    c.in-Err.ensures.others c.in_default.ensures.own c.in_default.ensures.free c.frozen-frozen.result (sym c.frozen-frozen.ensures.is) c.in-Err.fault c.new-act.result
    c.in-Err.ensures.refused c.in-Err.ensures.causes (c.new-act.ensures ∙ ap (λ m. act_of g.D.Disk.fault_count g.D.Disk.fuse_count c.args.tag m
    c.finish_files.new.self.replicas) c.unfinished_did-did.ensures)) c.free-in-Err.ensures
    (λ volume. FinishAnswer volume c.args.tag c.args.replica (Err (record { fault = c.in-Err.fault; frozen = c.frozen-frozen.result })))
    (finish_refused g.D.Disk.Tells g.D.Disk.files g.P.Piece.Tells g.D.Disk.fault_count g.D.Disk.fuse_count c.args.tag c.hold-kept.result c.args.replica
    (within_it g.D.Disk.Tells g.D.Disk.files g.P.Piece.Tells g.D.Disk.fault_count g.D.Disk.fuse_count c.seat.invariant c.hold-kept.ensures c.args.replica
    (c.requires.within c.seat.invariant.opened (sym (ap (λ (s : Seated g.row.D.Denot g.row.P.Denot). s.start) c.seat.view_is) ∙ c.seat.invariant.is))) c.in_default.ensures.own
    c.new-act.result c.in-Err.fault c.frozen-frozen.result (refused_found g.D.Disk.Tells g.D.Disk.files g.P.Piece.Tells g.D.Disk.fault_count g.D.Disk.fuse_count c.args.tag
    c.hold-kept.result (record c.hold-kept.result { logical = c.finish_files.new.self }) c.args.replica
    (within_it g.D.Disk.Tells g.D.Disk.files g.P.Piece.Tells g.D.Disk.fault_count g.D.Disk.fuse_count c.seat.invariant c.hold-kept.ensures c.args.replica
    (c.requires.within c.seat.invariant.opened (sym (ap (λ (s : Seated g.row.D.Denot g.row.P.Denot). s.start) c.seat.view_is) ∙ c.seat.invariant.is)))
    (finish_of g.D.Disk.fault_count g.D.Disk.fuse_count c.hold-kept.result (record c.hold-kept.result { logical = c.finish_files.new.self }) refl refl c.in-Err.ensures.same
    c.in-Err.ensures.open c.in-Err.ensures.counts (λ m is. (c.in-Err.ensures.frozen m is).1) c.in-Err.ensures.kept) c.in-Err.ensures.counts.stay refl refl
    c.in-Err.ensures.others c.in_default.ensures.own c.in_default.ensures.free c.frozen-frozen.result (sym c.frozen-frozen.ensures.is) c.in-Err.fault c.new-act.result
    c.in-Err.ensures.refused c.in-Err.ensures.causes (c.new-act.ensures ∙ ap (λ m. act_of g.D.Disk.fault_count g.D.Disk.fuse_count c.args.tag m
    c.finish_files.new.self.replicas) c.unfinished_did-did.ensures))))

pub returns-in-Err-clause-causes : goal.returns-in-Err-clause-causes
returns-in-Err-clause-causes g c = λ m f frozen is.
    subst (λ (s : Seated g.row.D.Denot g.row.P.Denot). IsAlways g.D.Disk.fault_count g.D.Disk.fuse_count s.start
    (λ volume. FailedHere volume c.args.tag c.args.replica m f s.sight (seat_of c.free-in-Err.new.seat c.show_all.new.seat).sight)) c.seat.view_is
    (made_always g.D.Disk.Tells g.D.Disk.files g.P.Piece.Tells g.D.Disk.fault_count g.D.Disk.fuse_count c.args.tag c.seat.inside.turn c.hold-kept.new.seat c.free-in-Err.new.seat
    c.seat.inside.view c.show_all.new.seat c.hold-kept.result (record c.hold-kept.result { logical = c.finish_files.new.self })
    (Some c.new-act.result) c.seat.invariant c.hold-kept.ensures c.show_all.ensures.seen.0 c.show_all.ensures.seen.1
    (refused_goes g.D.Disk.Tells g.D.Disk.files g.P.Piece.Tells g.D.Disk.fault_count g.D.Disk.fuse_count c.args.tag c.hold-kept.result
    (record c.hold-kept.result { logical = c.finish_files.new.self }) c.args.replica (within_it g.D.Disk.Tells g.D.Disk.files g.P.Piece.Tells g.D.Disk.fault_count
    g.D.Disk.fuse_count c.seat.invariant c.hold-kept.ensures c.args.replica (c.requires.within c.seat.invariant.opened
    (sym (ap (λ (s : Seated g.row.D.Denot g.row.P.Denot). s.start) c.seat.view_is) ∙ c.seat.invariant.is)))
    (finish_of g.D.Disk.fault_count g.D.Disk.fuse_count c.hold-kept.result (record c.hold-kept.result { logical = c.finish_files.new.self }) refl refl c.in-Err.ensures.same
    c.in-Err.ensures.open c.in-Err.ensures.counts (λ m is. (c.in-Err.ensures.frozen m is).1) c.in-Err.ensures.kept) c.in-Err.ensures.counts.stay refl refl
    c.in-Err.ensures.others c.in_default.ensures.own c.in_default.ensures.free c.frozen-frozen.result (sym c.frozen-frozen.ensures.is) c.in-Err.fault c.new-act.result
    c.in-Err.ensures.refused c.in-Err.ensures.causes (c.new-act.ensures ∙ ap (λ m. act_of g.D.Disk.fault_count g.D.Disk.fuse_count c.args.tag m
    c.finish_files.new.self.replicas) c.unfinished_did-did.ensures)) c.free-in-Err.ensures (λ volume. FailedHere volume c.args.tag c.args.replica m f)
    (refused_failed g.D.Disk.Tells g.D.Disk.files g.P.Piece.Tells g.D.Disk.fault_count g.D.Disk.fuse_count c.args.tag c.hold-kept.result
    (record c.hold-kept.result { logical = c.finish_files.new.self }) c.args.replica (within_it g.D.Disk.Tells g.D.Disk.files g.P.Piece.Tells g.D.Disk.fault_count
    g.D.Disk.fuse_count c.seat.invariant c.hold-kept.ensures c.args.replica (c.requires.within c.seat.invariant.opened
    (sym (ap (λ (s : Seated g.row.D.Denot g.row.P.Denot). s.start) c.seat.view_is) ∙ c.seat.invariant.is)))
    (finish_of g.D.Disk.fault_count g.D.Disk.fuse_count c.hold-kept.result (record c.hold-kept.result { logical = c.finish_files.new.self }) refl refl c.in-Err.ensures.same
    c.in-Err.ensures.open c.in-Err.ensures.counts (λ m is. (c.in-Err.ensures.frozen m is).1) c.in-Err.ensures.kept) c.in-Err.ensures.counts.stay refl refl
    c.in-Err.ensures.others c.in_default.ensures.own c.in_default.ensures.free c.frozen-frozen.result (sym c.frozen-frozen.ensures.is) c.in-Err.fault c.new-act.result
    c.in-Err.ensures.refused c.in-Err.ensures.causes (c.new-act.ensures ∙ ap (λ m. act_of g.D.Disk.fault_count g.D.Disk.fuse_count c.args.tag m
    c.finish_files.new.self.replicas) c.unfinished_did-did.ensures) m f (unfinished_same is)))

pub returns-in-Err-clause-held : goal.returns-in-Err-clause-held
returns-in-Err-clause-held g c =
    subst (λ (s : Seated g.row.D.Denot g.row.P.Denot). UnfusedHolding c.args.tag s.sight (seat_of c.free-in-Err.new.seat c.show_all.new.seat).sight) c.seat.view_is
    (made_unfused g.D.Disk.Tells g.D.Disk.files g.P.Piece.Tells g.D.Disk.fault_count g.D.Disk.fuse_count c.args.tag c.seat.inside.turn c.hold-kept.new.seat c.free-in-Err.new.seat
    c.seat.inside.view c.show_all.new.seat c.hold-kept.result (record c.hold-kept.result { logical = c.finish_files.new.self })
    (Some c.new-act.result) c.seat.invariant c.hold-kept.ensures c.show_all.ensures.seen.0 c.show_all.ensures.seen.1
    (refused_goes g.D.Disk.Tells g.D.Disk.files g.P.Piece.Tells g.D.Disk.fault_count g.D.Disk.fuse_count c.args.tag c.hold-kept.result
    (record c.hold-kept.result { logical = c.finish_files.new.self }) c.args.replica (within_it g.D.Disk.Tells g.D.Disk.files g.P.Piece.Tells g.D.Disk.fault_count
    g.D.Disk.fuse_count c.seat.invariant c.hold-kept.ensures c.args.replica (c.requires.within c.seat.invariant.opened
    (sym (ap (λ (s : Seated g.row.D.Denot g.row.P.Denot). s.start) c.seat.view_is) ∙ c.seat.invariant.is)))
    (finish_of g.D.Disk.fault_count g.D.Disk.fuse_count c.hold-kept.result (record c.hold-kept.result { logical = c.finish_files.new.self }) refl refl c.in-Err.ensures.same
    c.in-Err.ensures.open c.in-Err.ensures.counts (λ m is. (c.in-Err.ensures.frozen m is).1) c.in-Err.ensures.kept) c.in-Err.ensures.counts.stay refl refl
    c.in-Err.ensures.others c.in_default.ensures.own c.in_default.ensures.free c.frozen-frozen.result (sym c.frozen-frozen.ensures.is) c.in-Err.fault c.new-act.result
    c.in-Err.ensures.refused c.in-Err.ensures.causes (c.new-act.ensures ∙ ap (λ m. act_of g.D.Disk.fault_count g.D.Disk.fuse_count c.args.tag m
    c.finish_files.new.self.replicas) c.unfinished_did-did.ensures)) c.free-in-Err.ensures
    (one_unfused g.D.Disk.fault_count g.D.Disk.fuse_count c.args.tag _ _ c.new-act.result c.new-act.ensures (subst IsNoFuse (sym c.unfinished_did-did.ensures) (unswapped_unfused _ _ _))))

pub publish-requires-clause-open : goal.publish-requires-clause-open
publish-requires-clause-open g c =
    (is_held g.D.Disk.Tells g.D.Disk.files g.P.Piece.Tells g.D.Disk.fault_count g.D.Disk.fuse_count c.seat.invariant c.hold-kept.ensures).serves
    (none_frozen c.hold-kept.result.logical.frozen (λ m is. let wrong = (c.in-Ok.ensures.frozen m is).0 in cc wrong))

pub publish-requires-clause-fact : goal.publish-requires-clause-fact
publish-requires-clause-fact g c =
    swap_may g.D.Disk.Tells g.D.Disk.files g.P.Piece.Tells g.D.Disk.fault_count g.D.Disk.fuse_count c.args.tag c.hold-kept.result c.args.replica c.in-Ok.files.generation
    c.in-Ok.files.end c.in-Ok.files.count (within_it g.D.Disk.Tells g.D.Disk.files g.P.Piece.Tells g.D.Disk.fault_count g.D.Disk.fuse_count c.seat.invariant c.hold-kept.ensures
    c.args.replica (c.requires.within c.seat.invariant.opened (sym (ap (λ (s : Seated g.row.D.Denot g.row.P.Denot). s.start) c.seat.view_is) ∙ c.seat.invariant.is)))
    (none_frozen c.hold-kept.result.logical.frozen (λ m is. let wrong = (c.in-Ok.ensures.frozen m is).0 in cc wrong)) c.finish_files.new.self c.in-Ok.files.cells
    c.moved-op.result c.moved-op.ensures c.in-Ok.ensures.rows (λ tells k s. is_swap g.D.Disk.files g.P.Piece.Tells k c.args.replica c.in-Ok.files.generation c.in-Ok.files.end
    c.in-Ok.files.count c.hold-kept.result.logical c.finish_files.new.self s (within_it g.D.Disk.Tells g.D.Disk.files g.P.Piece.Tells g.D.Disk.fault_count g.D.Disk.fuse_count
    c.seat.invariant c.hold-kept.ensures c.args.replica (c.requires.within c.seat.invariant.opened
    (sym (ap (λ (s : Seated g.row.D.Denot g.row.P.Denot). s.start) c.seat.view_is) ∙ c.seat.invariant.is)))
    (subst (λ (s : Settings). c.args.replica < s.replicas) (sym c.in-Ok.ensures.same.settings)
    (within_it g.D.Disk.Tells g.D.Disk.files g.P.Piece.Tells g.D.Disk.fault_count g.D.Disk.fuse_count c.seat.invariant c.hold-kept.ensures c.args.replica
    (c.requires.within c.seat.invariant.opened (sym (ap (λ (s : Seated g.row.D.Denot g.row.P.Denot). s.start) c.seat.view_is) ∙ c.seat.invariant.is))))
    (c.in-Ok.ensures.finished tells k s) (c.in-Ok.ensures.sizes tells)) c.in-Ok.ensures.same c.in-Ok.ensures.open c.in-Ok.ensures.counts c.seat.invariant.opened
    c.hold-kept.new.seat.seen (is_held g.D.Disk.Tells g.D.Disk.files g.P.Piece.Tells g.D.Disk.fault_count g.D.Disk.fuse_count c.seat.invariant c.hold-kept.ensures) c.show_all.ensures.fact

pub free-requires-in_default-publish-clause-may : goal.free-requires-in_default-publish-clause-may
free-requires-in_default-publish-clause-may g c = record {
  stands_for =
      changed_free g.D.Disk.Tells g.D.Disk.files g.P.Piece.Tells g.D.Disk.fault_count g.D.Disk.fuse_count c.args.tag c.seat.inside.turn c.hold-kept.new.seat c.seat.inside.view
      c.show_all.new.seat c.publish.new.seat c.hold-kept.result (record c.hold-kept.result { logical = c.freeze.new.self; front = c.publish.new.self }) (Some c.new-act-in_default-publish.result)
      c.seat.invariant c.hold-kept.ensures c.show_all.ensures.seen.0 c.show_all.ensures.seen.1 c.in_default-publish.ensures.seen.1
      (finish_unshown g.D.Disk.Tells g.D.Disk.files g.P.Piece.Tells g.D.Disk.fault_count g.D.Disk.fuse_count c.args.tag c.hold-kept.result c.args.replica
      (within_it g.D.Disk.Tells g.D.Disk.files g.P.Piece.Tells g.D.Disk.fault_count g.D.Disk.fuse_count c.seat.invariant c.hold-kept.ensures c.args.replica
      (c.requires.within c.seat.invariant.opened (sym (ap (λ (s : Seated g.row.D.Denot g.row.P.Denot). s.start) c.seat.view_is) ∙ c.seat.invariant.is)))
      c.in_default.ensures.own c.in_default.ensures.free (none_frozen c.hold-kept.result.logical.frozen (λ m is. let wrong = (c.in-Ok.ensures.frozen m is).0 in cc wrong))
      c.in-Ok.files.generation c.in-Ok.files.end c.in-Ok.files.count c.finish_files.new.self c.in-Ok.files.cells c.moved-op.result c.moved-op.ensures c.in-Ok.ensures.rows
      (λ tells k s. is_swap g.D.Disk.files g.P.Piece.Tells k c.args.replica c.in-Ok.files.generation c.in-Ok.files.end c.in-Ok.files.count c.hold-kept.result.logical
      c.finish_files.new.self s (within_it g.D.Disk.Tells g.D.Disk.files g.P.Piece.Tells g.D.Disk.fault_count g.D.Disk.fuse_count c.seat.invariant c.hold-kept.ensures
      c.args.replica (c.requires.within c.seat.invariant.opened (sym (ap (λ (s : Seated g.row.D.Denot g.row.P.Denot). s.start) c.seat.view_is) ∙ c.seat.invariant.is)))
      (subst (λ (s : Settings). c.args.replica < s.replicas) (sym c.in-Ok.ensures.same.settings)
      (within_it g.D.Disk.Tells g.D.Disk.files g.P.Piece.Tells g.D.Disk.fault_count g.D.Disk.fuse_count c.seat.invariant c.hold-kept.ensures c.args.replica
      (c.requires.within c.seat.invariant.opened (sym (ap (λ (s : Seated g.row.D.Denot g.row.P.Denot). s.start) c.seat.view_is) ∙ c.seat.invariant.is))))
      (c.in-Ok.ensures.finished tells k s) (c.in-Ok.ensures.sizes tells)) c.in-Ok.ensures.same c.in-Ok.ensures.open c.in-Ok.ensures.counts
      (record c.hold-kept.result { logical = c.freeze.new.self; front = c.publish.new.self }) refl refl refl c.freeze.ensures.same c.freeze.ensures.open c.freeze.ensures.counts
      (ap (λ v. v.frozen) (c.freeze.ensures.still (c.in-Ok.ensures.still.1 ∙ (none_frozen c.hold-kept.result.logical.frozen
      (λ m is. let wrong = (c.in-Ok.ensures.frozen m is).0 in cc wrong))))) c.freeze.ensures.frozen (ap (λ f. f.shown) c.in_default-publish.ensures.refused)
      (ap (λ f. f.log) c.in_default-publish.ensures.refused)
      c.frozen.result c.frozen.ensures.is c.new-act-in_default-publish.result c.new-act-in_default-publish.ensures).0;
  mine =
      changed_mine g.D.Disk.Tells g.D.Disk.files g.P.Piece.Tells g.D.Disk.fault_count g.D.Disk.fuse_count c.args.tag c.seat.inside.turn c.hold-kept.new.seat c.seat.inside.view
      c.show_all.new.seat c.publish.new.seat c.hold-kept.result (record c.hold-kept.result { logical = c.freeze.new.self; front = c.publish.new.self }) (Some c.new-act-in_default-publish.result)
      c.seat.invariant c.hold-kept.ensures c.show_all.ensures.seen.0 c.show_all.ensures.seen.1 c.in_default-publish.ensures.seen.1
      (finish_unshown g.D.Disk.Tells g.D.Disk.files g.P.Piece.Tells g.D.Disk.fault_count g.D.Disk.fuse_count c.args.tag c.hold-kept.result c.args.replica
      (within_it g.D.Disk.Tells g.D.Disk.files g.P.Piece.Tells g.D.Disk.fault_count g.D.Disk.fuse_count c.seat.invariant c.hold-kept.ensures c.args.replica
      (c.requires.within c.seat.invariant.opened (sym (ap (λ (s : Seated g.row.D.Denot g.row.P.Denot). s.start) c.seat.view_is) ∙ c.seat.invariant.is)))
      c.in_default.ensures.own c.in_default.ensures.free (none_frozen c.hold-kept.result.logical.frozen (λ m is. let wrong = (c.in-Ok.ensures.frozen m is).0 in cc wrong))
      c.in-Ok.files.generation c.in-Ok.files.end c.in-Ok.files.count c.finish_files.new.self c.in-Ok.files.cells c.moved-op.result c.moved-op.ensures c.in-Ok.ensures.rows
      (λ tells k s. is_swap g.D.Disk.files g.P.Piece.Tells k c.args.replica c.in-Ok.files.generation c.in-Ok.files.end c.in-Ok.files.count c.hold-kept.result.logical
      c.finish_files.new.self s (within_it g.D.Disk.Tells g.D.Disk.files g.P.Piece.Tells g.D.Disk.fault_count g.D.Disk.fuse_count c.seat.invariant c.hold-kept.ensures
      c.args.replica (c.requires.within c.seat.invariant.opened (sym (ap (λ (s : Seated g.row.D.Denot g.row.P.Denot). s.start) c.seat.view_is) ∙ c.seat.invariant.is)))
      (subst (λ (s : Settings). c.args.replica < s.replicas) (sym c.in-Ok.ensures.same.settings)
      (within_it g.D.Disk.Tells g.D.Disk.files g.P.Piece.Tells g.D.Disk.fault_count g.D.Disk.fuse_count c.seat.invariant c.hold-kept.ensures c.args.replica
      (c.requires.within c.seat.invariant.opened (sym (ap (λ (s : Seated g.row.D.Denot g.row.P.Denot). s.start) c.seat.view_is) ∙ c.seat.invariant.is))))
      (c.in-Ok.ensures.finished tells k s) (c.in-Ok.ensures.sizes tells)) c.in-Ok.ensures.same c.in-Ok.ensures.open c.in-Ok.ensures.counts
      (record c.hold-kept.result { logical = c.freeze.new.self; front = c.publish.new.self }) refl refl refl c.freeze.ensures.same c.freeze.ensures.open c.freeze.ensures.counts
      (ap (λ v. v.frozen) (c.freeze.ensures.still (c.in-Ok.ensures.still.1 ∙ (none_frozen c.hold-kept.result.logical.frozen
      (λ m is. let wrong = (c.in-Ok.ensures.frozen m is).0 in cc wrong))))) c.freeze.ensures.frozen (ap (λ f. f.shown) c.in_default-publish.ensures.refused)
      (ap (λ f. f.log) c.in_default-publish.ensures.refused)
      c.frozen.result c.frozen.ensures.is c.new-act-in_default-publish.result c.new-act-in_default-publish.ensures).0
      (ap (λ (s : Seated g.row.D.Denot g.row.P.Denot). s.number) c.seat.view_is ∙ c.requires.may.lane);
}

pub invariant_of-seat-in_default-publish : goal.invariant_of-seat-in_default-publish
invariant_of-seat-in_default-publish g c =
    changed_seated g.D.Disk.Tells g.D.Disk.files g.P.Piece.Tells g.D.Disk.fault_count g.D.Disk.fuse_count c.args.tag c.seat.inside.turn c.hold-kept.new.seat c.seat.inside.view
    c.show_all.new.seat c.publish.new.seat c.hold-kept.result (record c.hold-kept.result { logical = c.freeze.new.self; front = c.publish.new.self }) (Some c.new-act-in_default-publish.result)
    c.seat.invariant c.hold-kept.ensures c.show_all.ensures.seen.0 c.show_all.ensures.seen.1 c.in_default-publish.ensures.seen.1
    (finish_unshown g.D.Disk.Tells g.D.Disk.files g.P.Piece.Tells g.D.Disk.fault_count g.D.Disk.fuse_count c.args.tag c.hold-kept.result c.args.replica
    (within_it g.D.Disk.Tells g.D.Disk.files g.P.Piece.Tells g.D.Disk.fault_count g.D.Disk.fuse_count c.seat.invariant c.hold-kept.ensures c.args.replica
    (c.requires.within c.seat.invariant.opened (sym (ap (λ (s : Seated g.row.D.Denot g.row.P.Denot). s.start) c.seat.view_is) ∙ c.seat.invariant.is))) c.in_default.ensures.own
    c.in_default.ensures.free (none_frozen c.hold-kept.result.logical.frozen (λ m is. let wrong = (c.in-Ok.ensures.frozen m is).0 in cc wrong)) c.in-Ok.files.generation
    c.in-Ok.files.end c.in-Ok.files.count c.finish_files.new.self c.in-Ok.files.cells c.moved-op.result c.moved-op.ensures c.in-Ok.ensures.rows
    (λ tells k s. is_swap g.D.Disk.files g.P.Piece.Tells k c.args.replica c.in-Ok.files.generation c.in-Ok.files.end c.in-Ok.files.count c.hold-kept.result.logical
    c.finish_files.new.self s (within_it g.D.Disk.Tells g.D.Disk.files g.P.Piece.Tells g.D.Disk.fault_count g.D.Disk.fuse_count c.seat.invariant c.hold-kept.ensures
    c.args.replica (c.requires.within c.seat.invariant.opened (sym (ap (λ (s : Seated g.row.D.Denot g.row.P.Denot). s.start) c.seat.view_is) ∙ c.seat.invariant.is)))
    (subst (λ (s : Settings). c.args.replica < s.replicas) (sym c.in-Ok.ensures.same.settings)
    (within_it g.D.Disk.Tells g.D.Disk.files g.P.Piece.Tells g.D.Disk.fault_count g.D.Disk.fuse_count c.seat.invariant c.hold-kept.ensures c.args.replica
    (c.requires.within c.seat.invariant.opened (sym (ap (λ (s : Seated g.row.D.Denot g.row.P.Denot). s.start) c.seat.view_is) ∙ c.seat.invariant.is))))
    (c.in-Ok.ensures.finished tells k s) (c.in-Ok.ensures.sizes tells)) c.in-Ok.ensures.same c.in-Ok.ensures.open c.in-Ok.ensures.counts
    (record c.hold-kept.result { logical = c.freeze.new.self; front = c.publish.new.self }) refl refl refl c.freeze.ensures.same c.freeze.ensures.open c.freeze.ensures.counts
    (ap (λ v. v.frozen) (c.freeze.ensures.still (c.in-Ok.ensures.still.1 ∙ (none_frozen c.hold-kept.result.logical.frozen
    (λ m is. let wrong = (c.in-Ok.ensures.frozen m is).0 in cc wrong))))) c.freeze.ensures.frozen (ap (λ f. f.shown) c.in_default-publish.ensures.refused)
    (ap (λ f. f.log) c.in_default-publish.ensures.refused)
    c.frozen.result c.frozen.ensures.is c.new-act-in_default-publish.result c.new-act-in_default-publish.ensures).0 c.free-in_default-publish.new.seat
    c.free-in_default-publish.ensures (ap (λ (s : Seated g.row.D.Denot g.row.P.Denot). s.number) c.seat.view_is ∙ c.requires.may.lane)
    (later_same c.seat.inside.view c.hold-kept.result.front.shown c.publish.new.seat c.show_all.ensures.seen.0
    (c.in_default-publish.ensures.seen.1 ∙ ap (λ f. f.shown) c.in_default-publish.ensures.refused))

pub returns-in_default-publish-clause-finished : goal.returns-in_default-publish-clause-finished
returns-in_default-publish-clause-finished g c =
    subst (λ (s : Seated g.row.D.Denot g.row.P.Denot). IsTold g.D.Disk.Tells g.D.Disk.files g.P.Piece.Tells g.D.Disk.fault_count g.D.Disk.fuse_count s.start
    (λ volume. FinishAnswer volume c.args.tag c.args.replica (Ok (record { generation = c.in-Ok.files.generation; frozen = true })) s.sight
    (seat_of c.free-in_default-publish.new.seat c.publish.new.seat).sight)) c.seat.view_is
    (changed_told g.D.Disk.Tells g.D.Disk.files g.P.Piece.Tells g.D.Disk.fault_count g.D.Disk.fuse_count c.args.tag c.seat.inside.turn c.hold-kept.new.seat c.seat.inside.view
    c.show_all.new.seat c.publish.new.seat c.hold-kept.result (record c.hold-kept.result { logical = c.freeze.new.self; front = c.publish.new.self }) (Some c.new-act-in_default-publish.result)
    c.seat.invariant c.hold-kept.ensures c.show_all.ensures.seen.0 c.show_all.ensures.seen.1 c.in_default-publish.ensures.seen.1
    (finish_unshown g.D.Disk.Tells g.D.Disk.files g.P.Piece.Tells g.D.Disk.fault_count g.D.Disk.fuse_count c.args.tag c.hold-kept.result c.args.replica
    (within_it g.D.Disk.Tells g.D.Disk.files g.P.Piece.Tells g.D.Disk.fault_count g.D.Disk.fuse_count c.seat.invariant c.hold-kept.ensures c.args.replica
    (c.requires.within c.seat.invariant.opened (sym (ap (λ (s : Seated g.row.D.Denot g.row.P.Denot). s.start) c.seat.view_is) ∙ c.seat.invariant.is))) c.in_default.ensures.own
    c.in_default.ensures.free (none_frozen c.hold-kept.result.logical.frozen (λ m is. let wrong = (c.in-Ok.ensures.frozen m is).0 in cc wrong)) c.in-Ok.files.generation
    c.in-Ok.files.end c.in-Ok.files.count c.finish_files.new.self c.in-Ok.files.cells c.moved-op.result c.moved-op.ensures c.in-Ok.ensures.rows
    (λ tells k s. is_swap g.D.Disk.files g.P.Piece.Tells k c.args.replica c.in-Ok.files.generation c.in-Ok.files.end c.in-Ok.files.count c.hold-kept.result.logical
    c.finish_files.new.self s (within_it g.D.Disk.Tells g.D.Disk.files g.P.Piece.Tells g.D.Disk.fault_count g.D.Disk.fuse_count c.seat.invariant c.hold-kept.ensures
    c.args.replica (c.requires.within c.seat.invariant.opened (sym (ap (λ (s : Seated g.row.D.Denot g.row.P.Denot). s.start) c.seat.view_is) ∙ c.seat.invariant.is)))
    (subst (λ (s : Settings). c.args.replica < s.replicas) (sym c.in-Ok.ensures.same.settings)
    (within_it g.D.Disk.Tells g.D.Disk.files g.P.Piece.Tells g.D.Disk.fault_count g.D.Disk.fuse_count c.seat.invariant c.hold-kept.ensures c.args.replica
    (c.requires.within c.seat.invariant.opened (sym (ap (λ (s : Seated g.row.D.Denot g.row.P.Denot). s.start) c.seat.view_is) ∙ c.seat.invariant.is))))
    (c.in-Ok.ensures.finished tells k s) (c.in-Ok.ensures.sizes tells)) c.in-Ok.ensures.same c.in-Ok.ensures.open c.in-Ok.ensures.counts
    (record c.hold-kept.result { logical = c.freeze.new.self; front = c.publish.new.self }) refl refl refl c.freeze.ensures.same c.freeze.ensures.open c.freeze.ensures.counts
    (ap (λ v. v.frozen) (c.freeze.ensures.still (c.in-Ok.ensures.still.1 ∙ (none_frozen c.hold-kept.result.logical.frozen
    (λ m is. let wrong = (c.in-Ok.ensures.frozen m is).0 in cc wrong))))) c.freeze.ensures.frozen (ap (λ f. f.shown) c.in_default-publish.ensures.refused)
    (ap (λ f. f.log) c.in_default-publish.ensures.refused)
    c.frozen.result c.frozen.ensures.is c.new-act-in_default-publish.result c.new-act-in_default-publish.ensures).0 c.free-in_default-publish.new.seat
    c.free-in_default-publish.ensures (λ volume. FinishAnswer volume c.args.tag c.args.replica (Ok (record { generation = c.in-Ok.files.generation; frozen = true })))
    (finish_unshown g.D.Disk.Tells g.D.Disk.files g.P.Piece.Tells g.D.Disk.fault_count g.D.Disk.fuse_count c.args.tag c.hold-kept.result c.args.replica
    (within_it g.D.Disk.Tells g.D.Disk.files g.P.Piece.Tells g.D.Disk.fault_count g.D.Disk.fuse_count c.seat.invariant c.hold-kept.ensures c.args.replica
    (c.requires.within c.seat.invariant.opened (sym (ap (λ (s : Seated g.row.D.Denot g.row.P.Denot). s.start) c.seat.view_is) ∙ c.seat.invariant.is))) c.in_default.ensures.own
    c.in_default.ensures.free (none_frozen c.hold-kept.result.logical.frozen (λ m is. let wrong = (c.in-Ok.ensures.frozen m is).0 in cc wrong)) c.in-Ok.files.generation
    c.in-Ok.files.end c.in-Ok.files.count c.finish_files.new.self c.in-Ok.files.cells c.moved-op.result c.moved-op.ensures c.in-Ok.ensures.rows
    (λ tells k s. is_swap g.D.Disk.files g.P.Piece.Tells k c.args.replica c.in-Ok.files.generation c.in-Ok.files.end c.in-Ok.files.count c.hold-kept.result.logical
    c.finish_files.new.self s (within_it g.D.Disk.Tells g.D.Disk.files g.P.Piece.Tells g.D.Disk.fault_count g.D.Disk.fuse_count c.seat.invariant c.hold-kept.ensures
    c.args.replica (c.requires.within c.seat.invariant.opened (sym (ap (λ (s : Seated g.row.D.Denot g.row.P.Denot). s.start) c.seat.view_is) ∙ c.seat.invariant.is)))
    (subst (λ (s : Settings). c.args.replica < s.replicas) (sym c.in-Ok.ensures.same.settings)
    (within_it g.D.Disk.Tells g.D.Disk.files g.P.Piece.Tells g.D.Disk.fault_count g.D.Disk.fuse_count c.seat.invariant c.hold-kept.ensures c.args.replica
    (c.requires.within c.seat.invariant.opened (sym (ap (λ (s : Seated g.row.D.Denot g.row.P.Denot). s.start) c.seat.view_is) ∙ c.seat.invariant.is))))
    (c.in-Ok.ensures.finished tells k s) (c.in-Ok.ensures.sizes tells)) c.in-Ok.ensures.same c.in-Ok.ensures.open c.in-Ok.ensures.counts
    (record c.hold-kept.result { logical = c.freeze.new.self; front = c.publish.new.self }) refl refl refl c.freeze.ensures.same c.freeze.ensures.open c.freeze.ensures.counts
    (ap (λ v. v.frozen) (c.freeze.ensures.still (c.in-Ok.ensures.still.1 ∙ (none_frozen c.hold-kept.result.logical.frozen
    (λ m is. let wrong = (c.in-Ok.ensures.frozen m is).0 in cc wrong))))) c.freeze.ensures.frozen (ap (λ f. f.shown) c.in_default-publish.ensures.refused)
    (ap (λ f. f.log) c.in_default-publish.ensures.refused)
    c.frozen.result c.frozen.ensures.is c.new-act-in_default-publish.result c.new-act-in_default-publish.ensures).1)

pub returns-in_default-publish-clause-held : goal.returns-in_default-publish-clause-held
returns-in_default-publish-clause-held g c =
    subst (λ (s : Seated g.row.D.Denot g.row.P.Denot). UnfusedHolding c.args.tag s.sight (seat_of c.free-in_default-publish.new.seat c.publish.new.seat).sight) c.seat.view_is
    (changed_held g.D.Disk.Tells g.D.Disk.files g.P.Piece.Tells g.D.Disk.fault_count g.D.Disk.fuse_count c.args.tag c.seat.inside.turn c.hold-kept.new.seat c.seat.inside.view
    c.show_all.new.seat c.publish.new.seat c.hold-kept.result (record c.hold-kept.result { logical = c.freeze.new.self; front = c.publish.new.self }) (Some c.new-act-in_default-publish.result)
    c.seat.invariant c.hold-kept.ensures c.show_all.ensures.seen.0 c.show_all.ensures.seen.1 c.in_default-publish.ensures.seen.1
    (finish_unshown g.D.Disk.Tells g.D.Disk.files g.P.Piece.Tells g.D.Disk.fault_count g.D.Disk.fuse_count c.args.tag c.hold-kept.result c.args.replica
    (within_it g.D.Disk.Tells g.D.Disk.files g.P.Piece.Tells g.D.Disk.fault_count g.D.Disk.fuse_count c.seat.invariant c.hold-kept.ensures c.args.replica
    (c.requires.within c.seat.invariant.opened (sym (ap (λ (s : Seated g.row.D.Denot g.row.P.Denot). s.start) c.seat.view_is) ∙ c.seat.invariant.is))) c.in_default.ensures.own
    c.in_default.ensures.free (none_frozen c.hold-kept.result.logical.frozen (λ m is. let wrong = (c.in-Ok.ensures.frozen m is).0 in cc wrong)) c.in-Ok.files.generation
    c.in-Ok.files.end c.in-Ok.files.count c.finish_files.new.self c.in-Ok.files.cells c.moved-op.result c.moved-op.ensures c.in-Ok.ensures.rows
    (λ tells k s. is_swap g.D.Disk.files g.P.Piece.Tells k c.args.replica c.in-Ok.files.generation c.in-Ok.files.end c.in-Ok.files.count c.hold-kept.result.logical
    c.finish_files.new.self s (within_it g.D.Disk.Tells g.D.Disk.files g.P.Piece.Tells g.D.Disk.fault_count g.D.Disk.fuse_count c.seat.invariant c.hold-kept.ensures
    c.args.replica (c.requires.within c.seat.invariant.opened (sym (ap (λ (s : Seated g.row.D.Denot g.row.P.Denot). s.start) c.seat.view_is) ∙ c.seat.invariant.is)))
    (subst (λ (s : Settings). c.args.replica < s.replicas) (sym c.in-Ok.ensures.same.settings)
    (within_it g.D.Disk.Tells g.D.Disk.files g.P.Piece.Tells g.D.Disk.fault_count g.D.Disk.fuse_count c.seat.invariant c.hold-kept.ensures c.args.replica
    (c.requires.within c.seat.invariant.opened (sym (ap (λ (s : Seated g.row.D.Denot g.row.P.Denot). s.start) c.seat.view_is) ∙ c.seat.invariant.is))))
    (c.in-Ok.ensures.finished tells k s) (c.in-Ok.ensures.sizes tells)) c.in-Ok.ensures.same c.in-Ok.ensures.open c.in-Ok.ensures.counts
    (record c.hold-kept.result { logical = c.freeze.new.self; front = c.publish.new.self }) refl refl refl c.freeze.ensures.same c.freeze.ensures.open c.freeze.ensures.counts
    (ap (λ v. v.frozen) (c.freeze.ensures.still (c.in-Ok.ensures.still.1 ∙ (none_frozen c.hold-kept.result.logical.frozen
    (λ m is. let wrong = (c.in-Ok.ensures.frozen m is).0 in cc wrong))))) c.freeze.ensures.frozen (ap (λ f. f.shown) c.in_default-publish.ensures.refused)
    (ap (λ f. f.log) c.in_default-publish.ensures.refused)
    c.frozen.result c.frozen.ensures.is c.new-act-in_default-publish.result c.new-act-in_default-publish.ensures).0 c.free-in_default-publish.new.seat c.free-in_default-publish.ensures
    (one_unfused g.D.Disk.fault_count g.D.Disk.fuse_count c.args.tag c.freeze.new.self.replicas
    (made_is.Swaps c.args.replica c.in-Ok.files.end c.in-Ok.files.count c.frozen.result) c.new-act-in_default-publish.result c.new-act-in_default-publish.ensures (λ j e. cc e)))

pub free-requires-2-clause-may : goal.free-requires-2-clause-may
free-requires-2-clause-may g c = record {
  stands_for =
      changed_free g.D.Disk.Tells g.D.Disk.files g.P.Piece.Tells g.D.Disk.fault_count g.D.Disk.fuse_count c.args.tag c.seat.inside.turn c.hold-kept.new.seat c.seat.inside.view
      c.show_all.new.seat c.publish.new.seat c.hold-kept.result (record c.hold-kept.result { logical = c.finish_files.new.self; front = c.publish.new.self }) (Some c.new-act-2.result)
      c.seat.invariant c.hold-kept.ensures c.show_all.ensures.seen.0 c.show_all.ensures.seen.1 c.in-Ok-publish.ensures.seen.1
      (finish_shown g.D.Disk.Tells g.D.Disk.files g.P.Piece.Tells g.D.Disk.fault_count g.D.Disk.fuse_count c.args.tag c.hold-kept.result c.args.replica
      (within_it g.D.Disk.Tells g.D.Disk.files g.P.Piece.Tells g.D.Disk.fault_count g.D.Disk.fuse_count c.seat.invariant c.hold-kept.ensures c.args.replica
      (c.requires.within c.seat.invariant.opened (sym (ap (λ (s : Seated g.row.D.Denot g.row.P.Denot). s.start) c.seat.view_is) ∙ c.seat.invariant.is)))
      c.in_default.ensures.own c.in_default.ensures.free (none_frozen c.hold-kept.result.logical.frozen (λ m is. let wrong = (c.in-Ok.ensures.frozen m is).0 in cc wrong))
      c.in-Ok.files.generation c.in-Ok.files.end c.in-Ok.files.count c.finish_files.new.self c.in-Ok.files.cells c.moved-op.result c.moved-op.ensures c.in-Ok.ensures.rows
      (λ tells k s. is_swap g.D.Disk.files g.P.Piece.Tells k c.args.replica c.in-Ok.files.generation c.in-Ok.files.end c.in-Ok.files.count c.hold-kept.result.logical
      c.finish_files.new.self s (within_it g.D.Disk.Tells g.D.Disk.files g.P.Piece.Tells g.D.Disk.fault_count g.D.Disk.fuse_count c.seat.invariant c.hold-kept.ensures
      c.args.replica (c.requires.within c.seat.invariant.opened (sym (ap (λ (s : Seated g.row.D.Denot g.row.P.Denot). s.start) c.seat.view_is) ∙ c.seat.invariant.is)))
      (subst (λ (s : Settings). c.args.replica < s.replicas) (sym c.in-Ok.ensures.same.settings)
      (within_it g.D.Disk.Tells g.D.Disk.files g.P.Piece.Tells g.D.Disk.fault_count g.D.Disk.fuse_count c.seat.invariant c.hold-kept.ensures c.args.replica
      (c.requires.within c.seat.invariant.opened (sym (ap (λ (s : Seated g.row.D.Denot g.row.P.Denot). s.start) c.seat.view_is) ∙ c.seat.invariant.is))))
      (c.in-Ok.ensures.finished tells k s) (c.in-Ok.ensures.sizes tells)) c.in-Ok.ensures.same c.in-Ok.ensures.open c.in-Ok.ensures.counts
      (record c.hold-kept.result { logical = c.finish_files.new.self; front = c.publish.new.self }) refl refl refl c.in-Ok.ensures.others
      (record { tag = c.front_tag.result; deed = c.moved-op.result }) c.in-Ok-publish.ensures.done.0 refl c.new-act-2.result c.new-act-2.ensures).0;
  mine =
      changed_mine g.D.Disk.Tells g.D.Disk.files g.P.Piece.Tells g.D.Disk.fault_count g.D.Disk.fuse_count c.args.tag c.seat.inside.turn c.hold-kept.new.seat c.seat.inside.view
      c.show_all.new.seat c.publish.new.seat c.hold-kept.result (record c.hold-kept.result { logical = c.finish_files.new.self; front = c.publish.new.self }) (Some c.new-act-2.result)
      c.seat.invariant c.hold-kept.ensures c.show_all.ensures.seen.0 c.show_all.ensures.seen.1 c.in-Ok-publish.ensures.seen.1
      (finish_shown g.D.Disk.Tells g.D.Disk.files g.P.Piece.Tells g.D.Disk.fault_count g.D.Disk.fuse_count c.args.tag c.hold-kept.result c.args.replica
      (within_it g.D.Disk.Tells g.D.Disk.files g.P.Piece.Tells g.D.Disk.fault_count g.D.Disk.fuse_count c.seat.invariant c.hold-kept.ensures c.args.replica
      (c.requires.within c.seat.invariant.opened (sym (ap (λ (s : Seated g.row.D.Denot g.row.P.Denot). s.start) c.seat.view_is) ∙ c.seat.invariant.is)))
      c.in_default.ensures.own c.in_default.ensures.free (none_frozen c.hold-kept.result.logical.frozen (λ m is. let wrong = (c.in-Ok.ensures.frozen m is).0 in cc wrong))
      c.in-Ok.files.generation c.in-Ok.files.end c.in-Ok.files.count c.finish_files.new.self c.in-Ok.files.cells c.moved-op.result c.moved-op.ensures c.in-Ok.ensures.rows
      (λ tells k s. is_swap g.D.Disk.files g.P.Piece.Tells k c.args.replica c.in-Ok.files.generation c.in-Ok.files.end c.in-Ok.files.count c.hold-kept.result.logical
      c.finish_files.new.self s (within_it g.D.Disk.Tells g.D.Disk.files g.P.Piece.Tells g.D.Disk.fault_count g.D.Disk.fuse_count c.seat.invariant c.hold-kept.ensures
      c.args.replica (c.requires.within c.seat.invariant.opened (sym (ap (λ (s : Seated g.row.D.Denot g.row.P.Denot). s.start) c.seat.view_is) ∙ c.seat.invariant.is)))
      (subst (λ (s : Settings). c.args.replica < s.replicas) (sym c.in-Ok.ensures.same.settings)
      (within_it g.D.Disk.Tells g.D.Disk.files g.P.Piece.Tells g.D.Disk.fault_count g.D.Disk.fuse_count c.seat.invariant c.hold-kept.ensures c.args.replica
      (c.requires.within c.seat.invariant.opened (sym (ap (λ (s : Seated g.row.D.Denot g.row.P.Denot). s.start) c.seat.view_is) ∙ c.seat.invariant.is))))
      (c.in-Ok.ensures.finished tells k s) (c.in-Ok.ensures.sizes tells)) c.in-Ok.ensures.same c.in-Ok.ensures.open c.in-Ok.ensures.counts
      (record c.hold-kept.result { logical = c.finish_files.new.self; front = c.publish.new.self }) refl refl refl c.in-Ok.ensures.others
      (record { tag = c.front_tag.result; deed = c.moved-op.result }) c.in-Ok-publish.ensures.done.0 refl c.new-act-2.result c.new-act-2.ensures).0
      (ap (λ (s : Seated g.row.D.Denot g.row.P.Denot). s.number) c.seat.view_is ∙ c.requires.may.lane);
}

pub invariant_of-seat-2 : goal.invariant_of-seat-2
invariant_of-seat-2 g c =
    changed_seated g.D.Disk.Tells g.D.Disk.files g.P.Piece.Tells g.D.Disk.fault_count g.D.Disk.fuse_count c.args.tag c.seat.inside.turn c.hold-kept.new.seat c.seat.inside.view
    c.show_all.new.seat c.publish.new.seat c.hold-kept.result (record c.hold-kept.result { logical = c.finish_files.new.self; front = c.publish.new.self }) (Some c.new-act-2.result)
    c.seat.invariant c.hold-kept.ensures c.show_all.ensures.seen.0 c.show_all.ensures.seen.1 c.in-Ok-publish.ensures.seen.1
    (finish_shown g.D.Disk.Tells g.D.Disk.files g.P.Piece.Tells g.D.Disk.fault_count g.D.Disk.fuse_count c.args.tag c.hold-kept.result c.args.replica
    (within_it g.D.Disk.Tells g.D.Disk.files g.P.Piece.Tells g.D.Disk.fault_count g.D.Disk.fuse_count c.seat.invariant c.hold-kept.ensures c.args.replica
    (c.requires.within c.seat.invariant.opened (sym (ap (λ (s : Seated g.row.D.Denot g.row.P.Denot). s.start) c.seat.view_is) ∙ c.seat.invariant.is))) c.in_default.ensures.own
    c.in_default.ensures.free (none_frozen c.hold-kept.result.logical.frozen (λ m is. let wrong = (c.in-Ok.ensures.frozen m is).0 in cc wrong)) c.in-Ok.files.generation
    c.in-Ok.files.end c.in-Ok.files.count c.finish_files.new.self c.in-Ok.files.cells c.moved-op.result c.moved-op.ensures c.in-Ok.ensures.rows
    (λ tells k s. is_swap g.D.Disk.files g.P.Piece.Tells k c.args.replica c.in-Ok.files.generation c.in-Ok.files.end c.in-Ok.files.count c.hold-kept.result.logical
    c.finish_files.new.self s (within_it g.D.Disk.Tells g.D.Disk.files g.P.Piece.Tells g.D.Disk.fault_count g.D.Disk.fuse_count c.seat.invariant c.hold-kept.ensures
    c.args.replica (c.requires.within c.seat.invariant.opened (sym (ap (λ (s : Seated g.row.D.Denot g.row.P.Denot). s.start) c.seat.view_is) ∙ c.seat.invariant.is)))
    (subst (λ (s : Settings). c.args.replica < s.replicas) (sym c.in-Ok.ensures.same.settings)
    (within_it g.D.Disk.Tells g.D.Disk.files g.P.Piece.Tells g.D.Disk.fault_count g.D.Disk.fuse_count c.seat.invariant c.hold-kept.ensures c.args.replica
    (c.requires.within c.seat.invariant.opened (sym (ap (λ (s : Seated g.row.D.Denot g.row.P.Denot). s.start) c.seat.view_is) ∙ c.seat.invariant.is))))
    (c.in-Ok.ensures.finished tells k s) (c.in-Ok.ensures.sizes tells)) c.in-Ok.ensures.same c.in-Ok.ensures.open c.in-Ok.ensures.counts
    (record c.hold-kept.result { logical = c.finish_files.new.self; front = c.publish.new.self }) refl refl refl c.in-Ok.ensures.others
    (record { tag = c.front_tag.result; deed = c.moved-op.result }) c.in-Ok-publish.ensures.done.0 refl c.new-act-2.result c.new-act-2.ensures).0 c.free-2.new.seat
    c.free-2.ensures (ap (λ (s : Seated g.row.D.Denot g.row.P.Denot). s.number) c.seat.view_is ∙ c.requires.may.lane)
    (later_deed c.seat.inside.view c.hold-kept.result.front.shown c.publish.new.seat c.moved-op.result c.show_all.ensures.seen.0
    (c.in-Ok-publish.ensures.seen.1 ∙ ap (λ f. f.shown) c.in-Ok-publish.ensures.done.0))

pub returns-clause-finished : goal.returns-clause-finished
returns-clause-finished g c =
    subst (λ (s : Seated g.row.D.Denot g.row.P.Denot). IsTold g.D.Disk.Tells g.D.Disk.files g.P.Piece.Tells g.D.Disk.fault_count g.D.Disk.fuse_count s.start
    (λ volume. FinishAnswer volume c.args.tag c.args.replica (Ok (record { generation = c.in-Ok.files.generation; frozen = false })) s.sight
    (seat_of c.free-2.new.seat c.publish.new.seat).sight)) c.seat.view_is
    (changed_told g.D.Disk.Tells g.D.Disk.files g.P.Piece.Tells g.D.Disk.fault_count g.D.Disk.fuse_count c.args.tag c.seat.inside.turn c.hold-kept.new.seat c.seat.inside.view
    c.show_all.new.seat c.publish.new.seat c.hold-kept.result (record c.hold-kept.result { logical = c.finish_files.new.self; front = c.publish.new.self }) (Some c.new-act-2.result)
    c.seat.invariant c.hold-kept.ensures c.show_all.ensures.seen.0 c.show_all.ensures.seen.1 c.in-Ok-publish.ensures.seen.1
    (finish_shown g.D.Disk.Tells g.D.Disk.files g.P.Piece.Tells g.D.Disk.fault_count g.D.Disk.fuse_count c.args.tag c.hold-kept.result c.args.replica
    (within_it g.D.Disk.Tells g.D.Disk.files g.P.Piece.Tells g.D.Disk.fault_count g.D.Disk.fuse_count c.seat.invariant c.hold-kept.ensures c.args.replica
    (c.requires.within c.seat.invariant.opened (sym (ap (λ (s : Seated g.row.D.Denot g.row.P.Denot). s.start) c.seat.view_is) ∙ c.seat.invariant.is))) c.in_default.ensures.own
    c.in_default.ensures.free (none_frozen c.hold-kept.result.logical.frozen (λ m is. let wrong = (c.in-Ok.ensures.frozen m is).0 in cc wrong)) c.in-Ok.files.generation
    c.in-Ok.files.end c.in-Ok.files.count c.finish_files.new.self c.in-Ok.files.cells c.moved-op.result c.moved-op.ensures c.in-Ok.ensures.rows
    (λ tells k s. is_swap g.D.Disk.files g.P.Piece.Tells k c.args.replica c.in-Ok.files.generation c.in-Ok.files.end c.in-Ok.files.count c.hold-kept.result.logical
    c.finish_files.new.self s (within_it g.D.Disk.Tells g.D.Disk.files g.P.Piece.Tells g.D.Disk.fault_count g.D.Disk.fuse_count c.seat.invariant c.hold-kept.ensures
    c.args.replica (c.requires.within c.seat.invariant.opened (sym (ap (λ (s : Seated g.row.D.Denot g.row.P.Denot). s.start) c.seat.view_is) ∙ c.seat.invariant.is)))
    (subst (λ (s : Settings). c.args.replica < s.replicas) (sym c.in-Ok.ensures.same.settings)
    (within_it g.D.Disk.Tells g.D.Disk.files g.P.Piece.Tells g.D.Disk.fault_count g.D.Disk.fuse_count c.seat.invariant c.hold-kept.ensures c.args.replica
    (c.requires.within c.seat.invariant.opened (sym (ap (λ (s : Seated g.row.D.Denot g.row.P.Denot). s.start) c.seat.view_is) ∙ c.seat.invariant.is))))
    (c.in-Ok.ensures.finished tells k s) (c.in-Ok.ensures.sizes tells)) c.in-Ok.ensures.same c.in-Ok.ensures.open c.in-Ok.ensures.counts
    (record c.hold-kept.result { logical = c.finish_files.new.self; front = c.publish.new.self }) refl refl refl c.in-Ok.ensures.others
    (record { tag = c.front_tag.result; deed = c.moved-op.result }) c.in-Ok-publish.ensures.done.0 refl c.new-act-2.result c.new-act-2.ensures).0 c.free-2.new.seat
    c.free-2.ensures (λ volume. FinishAnswer volume c.args.tag c.args.replica (Ok (record { generation = c.in-Ok.files.generation; frozen = false })))
    (finish_shown g.D.Disk.Tells g.D.Disk.files g.P.Piece.Tells g.D.Disk.fault_count g.D.Disk.fuse_count c.args.tag c.hold-kept.result c.args.replica
    (within_it g.D.Disk.Tells g.D.Disk.files g.P.Piece.Tells g.D.Disk.fault_count g.D.Disk.fuse_count c.seat.invariant c.hold-kept.ensures c.args.replica
    (c.requires.within c.seat.invariant.opened (sym (ap (λ (s : Seated g.row.D.Denot g.row.P.Denot). s.start) c.seat.view_is) ∙ c.seat.invariant.is))) c.in_default.ensures.own
    c.in_default.ensures.free (none_frozen c.hold-kept.result.logical.frozen (λ m is. let wrong = (c.in-Ok.ensures.frozen m is).0 in cc wrong)) c.in-Ok.files.generation
    c.in-Ok.files.end c.in-Ok.files.count c.finish_files.new.self c.in-Ok.files.cells c.moved-op.result c.moved-op.ensures c.in-Ok.ensures.rows
    (λ tells k s. is_swap g.D.Disk.files g.P.Piece.Tells k c.args.replica c.in-Ok.files.generation c.in-Ok.files.end c.in-Ok.files.count c.hold-kept.result.logical
    c.finish_files.new.self s (within_it g.D.Disk.Tells g.D.Disk.files g.P.Piece.Tells g.D.Disk.fault_count g.D.Disk.fuse_count c.seat.invariant c.hold-kept.ensures
    c.args.replica (c.requires.within c.seat.invariant.opened (sym (ap (λ (s : Seated g.row.D.Denot g.row.P.Denot). s.start) c.seat.view_is) ∙ c.seat.invariant.is)))
    (subst (λ (s : Settings). c.args.replica < s.replicas) (sym c.in-Ok.ensures.same.settings)
    (within_it g.D.Disk.Tells g.D.Disk.files g.P.Piece.Tells g.D.Disk.fault_count g.D.Disk.fuse_count c.seat.invariant c.hold-kept.ensures c.args.replica
    (c.requires.within c.seat.invariant.opened (sym (ap (λ (s : Seated g.row.D.Denot g.row.P.Denot). s.start) c.seat.view_is) ∙ c.seat.invariant.is))))
    (c.in-Ok.ensures.finished tells k s) (c.in-Ok.ensures.sizes tells)) c.in-Ok.ensures.same c.in-Ok.ensures.open c.in-Ok.ensures.counts
    (record c.hold-kept.result { logical = c.finish_files.new.self; front = c.publish.new.self }) refl refl refl c.in-Ok.ensures.others
    (record { tag = c.front_tag.result; deed = c.moved-op.result }) c.in-Ok-publish.ensures.done.0 refl c.new-act-2.result c.new-act-2.ensures).1)

pub returns-clause-held : goal.returns-clause-held
returns-clause-held g c =
    subst (λ (s : Seated g.row.D.Denot g.row.P.Denot). UnfusedHolding c.args.tag s.sight (seat_of c.free-2.new.seat c.publish.new.seat).sight) c.seat.view_is
    (changed_held g.D.Disk.Tells g.D.Disk.files g.P.Piece.Tells g.D.Disk.fault_count g.D.Disk.fuse_count c.args.tag c.seat.inside.turn c.hold-kept.new.seat c.seat.inside.view
    c.show_all.new.seat c.publish.new.seat c.hold-kept.result (record c.hold-kept.result { logical = c.finish_files.new.self; front = c.publish.new.self }) (Some c.new-act-2.result)
    c.seat.invariant c.hold-kept.ensures c.show_all.ensures.seen.0 c.show_all.ensures.seen.1 c.in-Ok-publish.ensures.seen.1
    (finish_shown g.D.Disk.Tells g.D.Disk.files g.P.Piece.Tells g.D.Disk.fault_count g.D.Disk.fuse_count c.args.tag c.hold-kept.result c.args.replica
    (within_it g.D.Disk.Tells g.D.Disk.files g.P.Piece.Tells g.D.Disk.fault_count g.D.Disk.fuse_count c.seat.invariant c.hold-kept.ensures c.args.replica
    (c.requires.within c.seat.invariant.opened (sym (ap (λ (s : Seated g.row.D.Denot g.row.P.Denot). s.start) c.seat.view_is) ∙ c.seat.invariant.is))) c.in_default.ensures.own
    c.in_default.ensures.free (none_frozen c.hold-kept.result.logical.frozen (λ m is. let wrong = (c.in-Ok.ensures.frozen m is).0 in cc wrong)) c.in-Ok.files.generation
    c.in-Ok.files.end c.in-Ok.files.count c.finish_files.new.self c.in-Ok.files.cells c.moved-op.result c.moved-op.ensures c.in-Ok.ensures.rows
    (λ tells k s. is_swap g.D.Disk.files g.P.Piece.Tells k c.args.replica c.in-Ok.files.generation c.in-Ok.files.end c.in-Ok.files.count c.hold-kept.result.logical
    c.finish_files.new.self s (within_it g.D.Disk.Tells g.D.Disk.files g.P.Piece.Tells g.D.Disk.fault_count g.D.Disk.fuse_count c.seat.invariant c.hold-kept.ensures
    c.args.replica (c.requires.within c.seat.invariant.opened (sym (ap (λ (s : Seated g.row.D.Denot g.row.P.Denot). s.start) c.seat.view_is) ∙ c.seat.invariant.is)))
    (subst (λ (s : Settings). c.args.replica < s.replicas) (sym c.in-Ok.ensures.same.settings)
    (within_it g.D.Disk.Tells g.D.Disk.files g.P.Piece.Tells g.D.Disk.fault_count g.D.Disk.fuse_count c.seat.invariant c.hold-kept.ensures c.args.replica
    (c.requires.within c.seat.invariant.opened (sym (ap (λ (s : Seated g.row.D.Denot g.row.P.Denot). s.start) c.seat.view_is) ∙ c.seat.invariant.is))))
    (c.in-Ok.ensures.finished tells k s) (c.in-Ok.ensures.sizes tells)) c.in-Ok.ensures.same c.in-Ok.ensures.open c.in-Ok.ensures.counts
    (record c.hold-kept.result { logical = c.finish_files.new.self; front = c.publish.new.self }) refl refl refl c.in-Ok.ensures.others
    (record { tag = c.front_tag.result; deed = c.moved-op.result }) c.in-Ok-publish.ensures.done.0 refl c.new-act-2.result c.new-act-2.ensures).0 c.free-2.new.seat c.free-2.ensures
    (one_unfused g.D.Disk.fault_count g.D.Disk.fuse_count c.args.tag c.finish_files.new.self.replicas
    (made_is.Swaps c.args.replica c.in-Ok.files.end c.in-Ok.files.count None) c.new-act-2.result c.new-act-2.ensures (λ j e. cc e)))

pub returns-in-Some-clause-refusals : goal.returns-in-Some-clause-refusals
returns-in-Some-clause-refusals g c =
    subst (λ (s : Seated g.row.D.Denot g.row.P.Denot). OfOpened s.start (λ settings v. RefusesRun settings v c.args.replica c.in-Some.fault)) c.seat.view_is
    (of_opened g.D.Disk.Tells g.D.Disk.files g.P.Piece.Tells g.D.Disk.fault_count g.D.Disk.fuse_count c.seat.invariant c.hold-kept.ensures
    (λ settings v. RefusesRun settings v c.args.replica c.in-Some.fault)
    c.in-Some.ensures.refusals)

pub returns-in-Err-clause-refusals : goal.returns-in-Err-clause-refusals
returns-in-Err-clause-refusals g c =
    subst (λ (s : Seated g.row.D.Denot g.row.P.Denot). OfOpened s.start (λ settings v. RefusesRun settings v c.args.replica c.in-Err.fault)) c.seat.view_is
    (of_opened g.D.Disk.Tells g.D.Disk.files g.P.Piece.Tells g.D.Disk.fault_count g.D.Disk.fuse_count c.seat.invariant c.hold-kept.ensures
    (λ settings v. RefusesRun settings v c.args.replica c.in-Err.fault)
    (refuses_run c.hold-kept.result.logical.settings c.hold-kept.result.logical.number g.D.Disk.fault_count c.hold-kept.result.logical.replicas c.finish_files.new.self.replicas
    c.args.replica c.in-Err.fault c.in-Err.ensures.causes))
