use Rattle.std.proofs.Common.{[], ◌∷◌, ℕ, Bool, false, List, length, Option, Some, Ok, Err, refl, sym, ap, subst, ◌∙◌}
use Rattle.hay_core.specs.declared.entry.Entry.{Entry}
use Rattle.hay_core.specs.declared.entry.Entry.TheVariants as change
use Rattle.hay_logical.specs.declared.fault.LogicalFault.TheVariants.{NoMemory, ReadOnly}
use Rattle.hay_logical.specs.Seen.{volume_seen}
use Rattle.hay_meeting.specs.Acts.{nobody}
use Rattle.hay_turn.specs.Seats.{after_free}
use Rattle.hay_turn.specs.Slots.{acts_in}
use Rattle.hay_volume_lock.specs.Acts.{act_of}
use Rattle.hay_volume_lock.specs.declared.act.Made.TheVariants as made_is
use Rattle.hay_volume_lock.specs.Answers.{IsAlways, IsTold, UnfusedHolding}
use Rattle.hay_volume_lock.specs.Changes.{DiskFailed, PutAnswer, pends_by, put_made}
use Rattle.hay_volume_lock.specs.Tries.{IsTried}
use Rattle.hay_volume_lock.specs.Seats.{Seated}
use Rattle.hay_volume_lock.proofs.Holding.{all_there, few_there, is_held, made_always, made_free, made_mine, made_seated, made_told, quiet_free, quiet_held, made_unfused}
use Rattle.hay_volume_lock.proofs.Holding.{quiet_seated, quiet_told, seat_of}
use Rattle.hay_volume_lock.proofs.Publishing.{changed_free, changed_held, changed_mine, changed_seated, changed_told, later_deed, later_same}
use Rattle.hay_volume_lock.proofs.Putting.{err_same, met_frozen, put_may, put_refused, put_shown, put_unshown, settled, wanted_nothing}
use Rattle.hay_volume_lock.specs.Refusing.{OfOpened, RefusesPut}
use Rattle.hay_volume_lock.proofs.Refusing.{refuses_put, of_opened}
use Rattle.hay_volume_lock.proofs.Unfused.{IsNoFuse, made_unfused_by, one_unfused, pends_unfused, put_unfused}
use Rattle.hay_volume_lock.specs.declared.act.Made.{Made}
use Rattle.std.specs.Prelude.{IfSome}
use Rattle.hay_volume_lock.proofs.lock.VolumeLock.put.Goals as goal

pub show_all-requires : goal.show_all-requires
show_all-requires g c =
    c.seat.invariant.front ∙ sym (is_held g.D.Disk.Tells g.D.Disk.files g.P.Piece.Tells g.D.Disk.fault_count g.D.Disk.fuse_count c.seat.invariant c.hold-kept.ensures).front

pub free-requires-clause-may : goal.free-requires-clause-may
free-requires-clause-may g c = record {
  stands_for =
      quiet_free g.D.Disk.Tells g.D.Disk.files g.P.Piece.Tells g.D.Disk.fault_count g.D.Disk.fuse_count nobody c.seat.inside.turn c.hold-kept.new.seat
      (after_free c.hold-kept.new.seat []) c.seat.inside.view c.show_all.new.seat c.hold-kept.result
      c.seat.invariant c.hold-kept.ensures c.show_all.ensures.seen.0 c.show_all.ensures.seen.1 refl;
  mine = tt;
}

pub invariant_of-seat : goal.invariant_of-seat
invariant_of-seat g c =
    quiet_seated g.D.Disk.Tells g.D.Disk.files g.P.Piece.Tells g.D.Disk.fault_count g.D.Disk.fuse_count nobody c.seat.inside.turn c.hold-kept.new.seat c.free.new.seat
    c.seat.inside.view c.show_all.new.seat c.hold-kept.result
    c.seat.invariant c.hold-kept.ensures c.show_all.ensures.seen.0 c.show_all.ensures.seen.1 c.free.ensures

pub returns-in-Some-clause-put : goal.returns-in-Some-clause-put
returns-in-Some-clause-put g c =
    subst (λ (s : Seated g.row.D.Denot g.row.P.Denot). IsTold g.D.Disk.Tells g.D.Disk.files g.P.Piece.Tells g.D.Disk.fault_count g.D.Disk.fuse_count s.start
    (λ volume. PutAnswer volume c.args.tag c.args.pair c.args.cookie c.args.bytes.now (Err (ReadOnly c.in-Some.machine)) s.sight
    (seat_of c.free.new.seat c.show_all.new.seat).sight)) c.seat.view_is
    (quiet_told g.D.Disk.Tells g.D.Disk.files g.P.Piece.Tells g.D.Disk.fault_count g.D.Disk.fuse_count c.args.tag c.seat.inside.turn c.hold-kept.new.seat c.free.new.seat
    c.seat.inside.view c.show_all.new.seat c.hold-kept.result c.seat.invariant c.hold-kept.ensures c.show_all.ensures.seen.0 c.show_all.ensures.seen.1 c.free.ensures
    (λ volume. PutAnswer volume c.args.tag c.args.pair c.args.cookie c.args.bytes.now (Err (ReadOnly c.in-Some.machine)))
    (met_frozen g.D.Disk.Tells g.D.Disk.files g.P.Piece.Tells g.D.Disk.fault_count g.D.Disk.fuse_count c.args.tag c.hold-kept.result c.args.pair c.args.cookie c.args.bytes.now
    c.in-Some.machine (λ tells k s. sym (c.frozen.ensures.known tells k s) ∙ c.in-Some.is)))

pub returns-in-Some-clause-held : goal.returns-in-Some-clause-held
returns-in-Some-clause-held g c =
    subst (λ (s : Seated g.row.D.Denot g.row.P.Denot). UnfusedHolding c.args.tag s.sight (seat_of c.free.new.seat c.show_all.new.seat).sight) c.seat.view_is
    (quiet_held g.D.Disk.Tells g.D.Disk.files g.P.Piece.Tells g.D.Disk.fault_count g.D.Disk.fuse_count c.args.tag c.seat.inside.turn c.hold-kept.new.seat c.free.new.seat
    c.seat.inside.view c.show_all.new.seat c.hold-kept.result c.seat.invariant c.hold-kept.ensures c.show_all.ensures.seen.0 c.show_all.ensures.seen.1 c.free.ensures)

pub free-requires-in_default-put_entry-clause-may : goal.free-requires-in_default-put_entry-clause-may
free-requires-in_default-put_entry-clause-may g c = record {
  stands_for =
      quiet_free g.D.Disk.Tells g.D.Disk.files g.P.Piece.Tells g.D.Disk.fault_count g.D.Disk.fuse_count nobody c.seat.inside.turn c.hold-kept.new.seat
      (after_free c.hold-kept.new.seat []) c.seat.inside.view c.show_all.new.seat c.hold-kept.result
      c.seat.invariant c.hold-kept.ensures c.show_all.ensures.seen.0 c.show_all.ensures.seen.1 refl;
  mine = tt;
}

pub invariant_of-seat-in_default-put_entry : goal.invariant_of-seat-in_default-put_entry
invariant_of-seat-in_default-put_entry g c =
    quiet_seated g.D.Disk.Tells g.D.Disk.files g.P.Piece.Tells g.D.Disk.fault_count g.D.Disk.fuse_count nobody c.seat.inside.turn c.hold-kept.new.seat
    c.free-in_default-put_entry.new.seat c.seat.inside.view c.show_all.new.seat c.hold-kept.result
    c.seat.invariant c.hold-kept.ensures c.show_all.ensures.seen.0 c.show_all.ensures.seen.1 c.free-in_default-put_entry.ensures

pub returns-in_default-put_entry-clause-put : goal.returns-in_default-put_entry-clause-put
returns-in_default-put_entry-clause-put g c =
    subst (λ (s : Seated g.row.D.Denot g.row.P.Denot). IsTold g.D.Disk.Tells g.D.Disk.files g.P.Piece.Tells g.D.Disk.fault_count g.D.Disk.fuse_count s.start
    (λ volume. PutAnswer volume c.args.tag c.args.pair c.args.cookie c.args.bytes.now (Err NoMemory) s.sight
    (seat_of c.free-in_default-put_entry.new.seat c.show_all.new.seat).sight)) c.seat.view_is
    (quiet_told g.D.Disk.Tells g.D.Disk.files g.P.Piece.Tells g.D.Disk.fault_count g.D.Disk.fuse_count c.args.tag c.seat.inside.turn c.hold-kept.new.seat
    c.free-in_default-put_entry.new.seat c.seat.inside.view c.show_all.new.seat c.hold-kept.result c.seat.invariant c.hold-kept.ensures c.show_all.ensures.seen.0
    c.show_all.ensures.seen.1 c.free-in_default-put_entry.ensures (λ volume. PutAnswer volume c.args.tag c.args.pair c.args.cookie c.args.bytes.now (Err NoMemory))
    (wanted_nothing g.D.Disk.Tells g.D.Disk.files g.P.Piece.Tells g.D.Disk.fault_count g.D.Disk.fuse_count c.args.tag c.hold-kept.result c.args.pair c.args.cookie c.args.bytes.now))

pub returns-in_default-put_entry-clause-held : goal.returns-in_default-put_entry-clause-held
returns-in_default-put_entry-clause-held g c =
    subst (λ (s : Seated g.row.D.Denot g.row.P.Denot). UnfusedHolding c.args.tag s.sight (seat_of c.free-in_default-put_entry.new.seat c.show_all.new.seat).sight) c.seat.view_is
    (quiet_held g.D.Disk.Tells g.D.Disk.files g.P.Piece.Tells g.D.Disk.fault_count g.D.Disk.fuse_count c.args.tag c.seat.inside.turn c.hold-kept.new.seat
    c.free-in_default-put_entry.new.seat c.seat.inside.view c.show_all.new.seat c.hold-kept.result c.seat.invariant c.hold-kept.ensures c.show_all.ensures.seen.0
    c.show_all.ensures.seen.1 c.free-in_default-put_entry.ensures)

pub faults_of-before-requires-clause-all : goal.faults_of-before-requires-clause-all
faults_of-before-requires-clause-all g c = all_there g.D.Disk.Tells g.D.Disk.files g.P.Piece.Tells g.D.Disk.fault_count g.D.Disk.fuse_count c.seat.invariant c.hold-kept.ensures

pub faults_of-before-requires-clause-most : goal.faults_of-before-requires-clause-most
faults_of-before-requires-clause-most g c = few_there g.D.Disk.Tells g.D.Disk.files g.P.Piece.Tells g.D.Disk.fault_count g.D.Disk.fuse_count c.seat.invariant c.hold-kept.ensures

pub write-requires-clause-open : goal.write-requires-clause-open
write-requires-clause-open g c = (is_held g.D.Disk.Tells g.D.Disk.files g.P.Piece.Tells g.D.Disk.fault_count g.D.Disk.fuse_count c.seat.invariant c.hold-kept.ensures).is_open

pub act_made-made-requires-clause-all : goal.act_made-made-requires-clause-all
act_made-made-requires-clause-all g c =
    c.write.ensures.counts.count ∙ all_there g.D.Disk.Tells g.D.Disk.files g.P.Piece.Tells g.D.Disk.fault_count g.D.Disk.fuse_count c.seat.invariant c.hold-kept.ensures

pub act_made-made-requires-clause-most : goal.act_made-made-requires-clause-most
act_made-made-requires-clause-most g c = few_there g.D.Disk.Tells g.D.Disk.files g.P.Piece.Tells g.D.Disk.fault_count g.D.Disk.fuse_count c.seat.invariant c.hold-kept.ensures

pub free-requires-in-Err-clause-may : goal.free-requires-in-Err-clause-may
free-requires-in-Err-clause-may g c = record {
  stands_for =
      made_free g.D.Disk.Tells g.D.Disk.files g.P.Piece.Tells g.D.Disk.fault_count g.D.Disk.fuse_count c.args.tag c.seat.inside.turn c.hold-kept.new.seat
      (after_free c.hold-kept.new.seat (acts_in c.act_made-made.result)) c.seat.inside.view c.show_all.new.seat c.hold-kept.result (record c.hold-kept.result { logical = c.write.new.self })
      c.act_made-made.result c.seat.invariant c.hold-kept.ensures c.show_all.ensures.seen.0 c.show_all.ensures.seen.1
      (put_refused g.D.Disk.Tells g.D.Disk.files g.P.Piece.Tells g.D.Disk.fault_count g.D.Disk.fuse_count c.args.tag c.hold-kept.result
      (record c.hold-kept.result { logical = c.write.new.self }) c.args.pair c.args.cookie c.args.bytes.now
      (record {
        settings = refl;
        front = refl;
        same = c.in-Err.ensures.same;
        is_open = c.in-Err.ensures.open;
        count = c.in-Err.ensures.counts.count;
        rises = c.in-Err.ensures.counts.rises;
        thawed = λ thawed. (sym c.in_default.ensures.is);
        rows = λ thawed pair. c.in-Err.ensures.kept pair;
      })
      c.in-Err.ensures.counts.stay refl refl (sym c.in_default.ensures.is) (λ tells thawed j tight.
      c.in-Err.ensures.tight tells j tight (settled c.frozen-in-Err.result (c.frozen-in-Err.ensures.is ∙ thawed) c.frozen-in-Err.ensures.settled
      ∙ sym c.in_default.ensures.settled)) c.in-Err.fault c.in-Err.ensures.refused c.in-Err.ensures.causes c.act_made-made.result
      (record {
        acts = λ m is. c.act_made-made.ensures.did m ((c.put_did-did.ensures ∙ ap (λ (e : Entry). put_made c.frozen-in-Err.result e c.in-Err.fault) c.in-Ok.ensures
            ∙ ap (λ (f : Option ℕ). put_made f (change.Put c.args.pair c.args.cookie c.args.bytes.now) c.in-Err.fault) c.frozen-in-Err.ensures.is) ∙ is);
        tries = λ none. subst (λ (l : List ℕ). IsTried g.D.Disk.fault_count g.D.Disk.fuse_count c.args.tag l c.write.new.self.replicas c.act_made-made.result)
            c.faults_of-before.ensures (c.act_made-made.ensures.tried ((c.put_did-did.ensures ∙ ap (λ (e : Entry). put_made c.frozen-in-Err.result e c.in-Err.fault) c.in-Ok.ensures
            ∙ ap (λ (f : Option ℕ). put_made f (change.Put c.args.pair c.args.cookie c.args.bytes.now) c.in-Err.fault) c.frozen-in-Err.ensures.is) ∙ none));
      })).goes refl;
  mine =
      made_mine g.D.Disk.Tells g.D.Disk.files g.P.Piece.Tells g.D.Disk.fault_count g.D.Disk.fuse_count c.args.tag c.seat.inside.turn c.hold-kept.new.seat
      (after_free c.hold-kept.new.seat (acts_in c.act_made-made.result)) c.seat.inside.view c.show_all.new.seat c.hold-kept.result (record c.hold-kept.result { logical = c.write.new.self })
      c.act_made-made.result c.seat.invariant c.hold-kept.ensures c.show_all.ensures.seen.0 c.show_all.ensures.seen.1
      (put_refused g.D.Disk.Tells g.D.Disk.files g.P.Piece.Tells g.D.Disk.fault_count g.D.Disk.fuse_count c.args.tag c.hold-kept.result
      (record c.hold-kept.result { logical = c.write.new.self }) c.args.pair c.args.cookie c.args.bytes.now
      (record {
        settings = refl;
        front = refl;
        same = c.in-Err.ensures.same;
        is_open = c.in-Err.ensures.open;
        count = c.in-Err.ensures.counts.count;
        rises = c.in-Err.ensures.counts.rises;
        thawed = λ thawed. (sym c.in_default.ensures.is);
        rows = λ thawed pair. c.in-Err.ensures.kept pair;
      })
      c.in-Err.ensures.counts.stay refl refl (sym c.in_default.ensures.is) (λ tells thawed j tight.
      c.in-Err.ensures.tight tells j tight (settled c.frozen-in-Err.result (c.frozen-in-Err.ensures.is ∙ thawed) c.frozen-in-Err.ensures.settled
      ∙ sym c.in_default.ensures.settled)) c.in-Err.fault c.in-Err.ensures.refused c.in-Err.ensures.causes c.act_made-made.result
      (record {
        acts = λ m is. c.act_made-made.ensures.did m ((c.put_did-did.ensures ∙ ap (λ (e : Entry). put_made c.frozen-in-Err.result e c.in-Err.fault) c.in-Ok.ensures
            ∙ ap (λ (f : Option ℕ). put_made f (change.Put c.args.pair c.args.cookie c.args.bytes.now) c.in-Err.fault) c.frozen-in-Err.ensures.is) ∙ is);
        tries = λ none. subst (λ (l : List ℕ). IsTried g.D.Disk.fault_count g.D.Disk.fuse_count c.args.tag l c.write.new.self.replicas c.act_made-made.result)
            c.faults_of-before.ensures (c.act_made-made.ensures.tried ((c.put_did-did.ensures ∙ ap (λ (e : Entry). put_made c.frozen-in-Err.result e c.in-Err.fault) c.in-Ok.ensures
            ∙ ap (λ (f : Option ℕ). put_made f (change.Put c.args.pair c.args.cookie c.args.bytes.now) c.in-Err.fault) c.frozen-in-Err.ensures.is) ∙ none));
      })).goes refl
      (ap (λ (s : Seated g.row.D.Denot g.row.P.Denot). s.number) c.seat.view_is ∙ c.requires.may.lane);
}

pub invariant_of-seat-in-Err : goal.invariant_of-seat-in-Err
invariant_of-seat-in-Err g c =
    made_seated g.D.Disk.Tells g.D.Disk.files g.P.Piece.Tells g.D.Disk.fault_count g.D.Disk.fuse_count c.args.tag c.seat.inside.turn c.hold-kept.new.seat c.free-in-Err.new.seat
    c.seat.inside.view c.show_all.new.seat c.hold-kept.result (record c.hold-kept.result { logical = c.write.new.self })
    c.act_made-made.result c.seat.invariant c.hold-kept.ensures c.show_all.ensures.seen.0 c.show_all.ensures.seen.1
    (put_refused g.D.Disk.Tells g.D.Disk.files g.P.Piece.Tells g.D.Disk.fault_count g.D.Disk.fuse_count c.args.tag c.hold-kept.result
    (record c.hold-kept.result { logical = c.write.new.self }) c.args.pair c.args.cookie c.args.bytes.now
    (record {
      settings = refl;
      front = refl;
      same = c.in-Err.ensures.same;
      is_open = c.in-Err.ensures.open;
      count = c.in-Err.ensures.counts.count;
      rises = c.in-Err.ensures.counts.rises;
      thawed = λ thawed. (sym c.in_default.ensures.is);
      rows = λ thawed pair. c.in-Err.ensures.kept pair;
    })
    c.in-Err.ensures.counts.stay refl refl (sym c.in_default.ensures.is) (λ tells thawed j tight.
    c.in-Err.ensures.tight tells j tight (settled c.frozen-in-Err.result (c.frozen-in-Err.ensures.is ∙ thawed) c.frozen-in-Err.ensures.settled
    ∙ sym c.in_default.ensures.settled)) c.in-Err.fault c.in-Err.ensures.refused c.in-Err.ensures.causes c.act_made-made.result
    (record {
      acts = λ m is. c.act_made-made.ensures.did m ((c.put_did-did.ensures ∙ ap (λ (e : Entry). put_made c.frozen-in-Err.result e c.in-Err.fault) c.in-Ok.ensures
          ∙ ap (λ (f : Option ℕ). put_made f (change.Put c.args.pair c.args.cookie c.args.bytes.now) c.in-Err.fault) c.frozen-in-Err.ensures.is) ∙ is);
      tries = λ none. subst (λ (l : List ℕ). IsTried g.D.Disk.fault_count g.D.Disk.fuse_count c.args.tag l c.write.new.self.replicas c.act_made-made.result)
          c.faults_of-before.ensures (c.act_made-made.ensures.tried ((c.put_did-did.ensures ∙ ap (λ (e : Entry). put_made c.frozen-in-Err.result e c.in-Err.fault) c.in-Ok.ensures
          ∙ ap (λ (f : Option ℕ). put_made f (change.Put c.args.pair c.args.cookie c.args.bytes.now) c.in-Err.fault) c.frozen-in-Err.ensures.is) ∙ none));
    })).goes
    c.free-in-Err.ensures (ap (λ (s : Seated g.row.D.Denot g.row.P.Denot). s.number) c.seat.view_is ∙ c.requires.may.lane)

pub returns-in-Err-clause-put : goal.returns-in-Err-clause-put
returns-in-Err-clause-put g c =
    subst (λ (s : Seated g.row.D.Denot g.row.P.Denot). IsTold g.D.Disk.Tells g.D.Disk.files g.P.Piece.Tells g.D.Disk.fault_count g.D.Disk.fuse_count s.start
    (λ volume. PutAnswer volume c.args.tag c.args.pair c.args.cookie c.args.bytes.now (Err c.in-Err.fault) s.sight (seat_of c.free-in-Err.new.seat c.show_all.new.seat).sight)) c.seat.view_is
    (made_told g.D.Disk.Tells g.D.Disk.files g.P.Piece.Tells g.D.Disk.fault_count g.D.Disk.fuse_count c.args.tag c.seat.inside.turn c.hold-kept.new.seat c.free-in-Err.new.seat
    c.seat.inside.view c.show_all.new.seat c.hold-kept.result (record c.hold-kept.result { logical = c.write.new.self })
    c.act_made-made.result c.seat.invariant c.hold-kept.ensures c.show_all.ensures.seen.0 c.show_all.ensures.seen.1
    (put_refused g.D.Disk.Tells g.D.Disk.files g.P.Piece.Tells g.D.Disk.fault_count g.D.Disk.fuse_count c.args.tag c.hold-kept.result
    (record c.hold-kept.result { logical = c.write.new.self }) c.args.pair c.args.cookie c.args.bytes.now
    (record {
      settings = refl;
      front = refl;
      same = c.in-Err.ensures.same;
      is_open = c.in-Err.ensures.open;
      count = c.in-Err.ensures.counts.count;
      rises = c.in-Err.ensures.counts.rises;
      thawed = λ thawed. (sym c.in_default.ensures.is);
      rows = λ thawed pair. c.in-Err.ensures.kept pair;
    })
    c.in-Err.ensures.counts.stay refl refl (sym c.in_default.ensures.is) (λ tells thawed j tight.
    c.in-Err.ensures.tight tells j tight (settled c.frozen-in-Err.result (c.frozen-in-Err.ensures.is ∙ thawed) c.frozen-in-Err.ensures.settled
    ∙ sym c.in_default.ensures.settled)) c.in-Err.fault c.in-Err.ensures.refused c.in-Err.ensures.causes c.act_made-made.result
    (record {
      acts = λ m is. c.act_made-made.ensures.did m ((c.put_did-did.ensures ∙ ap (λ (e : Entry). put_made c.frozen-in-Err.result e c.in-Err.fault) c.in-Ok.ensures
          ∙ ap (λ (f : Option ℕ). put_made f (change.Put c.args.pair c.args.cookie c.args.bytes.now) c.in-Err.fault) c.frozen-in-Err.ensures.is) ∙ is);
      tries = λ none. subst (λ (l : List ℕ). IsTried g.D.Disk.fault_count g.D.Disk.fuse_count c.args.tag l c.write.new.self.replicas c.act_made-made.result)
          c.faults_of-before.ensures (c.act_made-made.ensures.tried ((c.put_did-did.ensures ∙ ap (λ (e : Entry). put_made c.frozen-in-Err.result e c.in-Err.fault) c.in-Ok.ensures
          ∙ ap (λ (f : Option ℕ). put_made f (change.Put c.args.pair c.args.cookie c.args.bytes.now) c.in-Err.fault) c.frozen-in-Err.ensures.is) ∙ none));
    })).goes
    c.free-in-Err.ensures (λ volume. PutAnswer volume c.args.tag c.args.pair c.args.cookie c.args.bytes.now (Err c.in-Err.fault))
    (put_refused g.D.Disk.Tells g.D.Disk.files g.P.Piece.Tells g.D.Disk.fault_count g.D.Disk.fuse_count c.args.tag c.hold-kept.result
    (record c.hold-kept.result { logical = c.write.new.self }) c.args.pair c.args.cookie c.args.bytes.now
    (record {
      settings = refl;
      front = refl;
      same = c.in-Err.ensures.same;
      is_open = c.in-Err.ensures.open;
      count = c.in-Err.ensures.counts.count;
      rises = c.in-Err.ensures.counts.rises;
      thawed = λ thawed. (sym c.in_default.ensures.is);
      rows = λ thawed pair. c.in-Err.ensures.kept pair;
    })
    c.in-Err.ensures.counts.stay refl refl (sym c.in_default.ensures.is) (λ tells thawed j tight.
    c.in-Err.ensures.tight tells j tight (settled c.frozen-in-Err.result (c.frozen-in-Err.ensures.is ∙ thawed) c.frozen-in-Err.ensures.settled
    ∙ sym c.in_default.ensures.settled)) c.in-Err.fault c.in-Err.ensures.refused c.in-Err.ensures.causes c.act_made-made.result
    (record {
      acts = λ m is. c.act_made-made.ensures.did m ((c.put_did-did.ensures ∙ ap (λ (e : Entry). put_made c.frozen-in-Err.result e c.in-Err.fault) c.in-Ok.ensures
          ∙ ap (λ (f : Option ℕ). put_made f (change.Put c.args.pair c.args.cookie c.args.bytes.now) c.in-Err.fault) c.frozen-in-Err.ensures.is) ∙ is);
      tries = λ none. subst (λ (l : List ℕ). IsTried g.D.Disk.fault_count g.D.Disk.fuse_count c.args.tag l c.write.new.self.replicas c.act_made-made.result)
          c.faults_of-before.ensures (c.act_made-made.ensures.tried ((c.put_did-did.ensures ∙ ap (λ (e : Entry). put_made c.frozen-in-Err.result e c.in-Err.fault) c.in-Ok.ensures
          ∙ ap (λ (f : Option ℕ). put_made f (change.Put c.args.pair c.args.cookie c.args.bytes.now) c.in-Err.fault) c.frozen-in-Err.ensures.is) ∙ none));
    })).told)

pub returns-in-Err-clause-causes : goal.returns-in-Err-clause-causes
returns-in-Err-clause-causes g c = λ m f is.
    subst (λ (s : Seated g.row.D.Denot g.row.P.Denot). IsAlways g.D.Disk.fault_count g.D.Disk.fuse_count s.start
    (λ volume. DiskFailed volume c.args.tag m f s.sight (seat_of c.free-in-Err.new.seat c.show_all.new.seat).sight)) c.seat.view_is
    (made_always g.D.Disk.Tells g.D.Disk.files g.P.Piece.Tells g.D.Disk.fault_count g.D.Disk.fuse_count c.args.tag c.seat.inside.turn c.hold-kept.new.seat c.free-in-Err.new.seat
    c.seat.inside.view c.show_all.new.seat c.hold-kept.result (record c.hold-kept.result { logical = c.write.new.self })
    c.act_made-made.result c.seat.invariant c.hold-kept.ensures c.show_all.ensures.seen.0 c.show_all.ensures.seen.1
    (put_refused g.D.Disk.Tells g.D.Disk.files g.P.Piece.Tells g.D.Disk.fault_count g.D.Disk.fuse_count c.args.tag c.hold-kept.result
    (record c.hold-kept.result { logical = c.write.new.self }) c.args.pair c.args.cookie c.args.bytes.now
    (record {
      settings = refl;
      front = refl;
      same = c.in-Err.ensures.same;
      is_open = c.in-Err.ensures.open;
      count = c.in-Err.ensures.counts.count;
      rises = c.in-Err.ensures.counts.rises;
      thawed = λ thawed. (sym c.in_default.ensures.is);
      rows = λ thawed pair. c.in-Err.ensures.kept pair;
    })
    c.in-Err.ensures.counts.stay refl refl (sym c.in_default.ensures.is) (λ tells thawed j tight.
    c.in-Err.ensures.tight tells j tight (settled c.frozen-in-Err.result (c.frozen-in-Err.ensures.is ∙ thawed) c.frozen-in-Err.ensures.settled
    ∙ sym c.in_default.ensures.settled)) c.in-Err.fault c.in-Err.ensures.refused c.in-Err.ensures.causes c.act_made-made.result
    (record {
      acts = λ m is. c.act_made-made.ensures.did m ((c.put_did-did.ensures ∙ ap (λ (e : Entry). put_made c.frozen-in-Err.result e c.in-Err.fault) c.in-Ok.ensures
          ∙ ap (λ (f : Option ℕ). put_made f (change.Put c.args.pair c.args.cookie c.args.bytes.now) c.in-Err.fault) c.frozen-in-Err.ensures.is) ∙ is);
      tries = λ none. subst (λ (l : List ℕ). IsTried g.D.Disk.fault_count g.D.Disk.fuse_count c.args.tag l c.write.new.self.replicas c.act_made-made.result)
          c.faults_of-before.ensures (c.act_made-made.ensures.tried ((c.put_did-did.ensures ∙ ap (λ (e : Entry). put_made c.frozen-in-Err.result e c.in-Err.fault) c.in-Ok.ensures
          ∙ ap (λ (f : Option ℕ). put_made f (change.Put c.args.pair c.args.cookie c.args.bytes.now) c.in-Err.fault) c.frozen-in-Err.ensures.is) ∙ none));
    })).goes
    c.free-in-Err.ensures (λ volume. DiskFailed volume c.args.tag m f) ((put_refused g.D.Disk.Tells g.D.Disk.files g.P.Piece.Tells g.D.Disk.fault_count g.D.Disk.fuse_count
    c.args.tag c.hold-kept.result (record c.hold-kept.result { logical = c.write.new.self }) c.args.pair c.args.cookie c.args.bytes.now
    (record {
      settings = refl;
      front = refl;
      same = c.in-Err.ensures.same;
      is_open = c.in-Err.ensures.open;
      count = c.in-Err.ensures.counts.count;
      rises = c.in-Err.ensures.counts.rises;
      thawed = λ thawed. (sym c.in_default.ensures.is);
      rows = λ thawed pair. c.in-Err.ensures.kept pair;
    })
    c.in-Err.ensures.counts.stay refl refl (sym c.in_default.ensures.is) (λ tells thawed j tight.
    c.in-Err.ensures.tight tells j tight (settled c.frozen-in-Err.result (c.frozen-in-Err.ensures.is ∙ thawed) c.frozen-in-Err.ensures.settled
    ∙ sym c.in_default.ensures.settled)) c.in-Err.fault c.in-Err.ensures.refused c.in-Err.ensures.causes c.act_made-made.result
    (record {
      acts = λ m is. c.act_made-made.ensures.did m ((c.put_did-did.ensures ∙ ap (λ (e : Entry). put_made c.frozen-in-Err.result e c.in-Err.fault) c.in-Ok.ensures
          ∙ ap (λ (f : Option ℕ). put_made f (change.Put c.args.pair c.args.cookie c.args.bytes.now) c.in-Err.fault) c.frozen-in-Err.ensures.is) ∙ is);
      tries = λ none. subst (λ (l : List ℕ). IsTried g.D.Disk.fault_count g.D.Disk.fuse_count c.args.tag l c.write.new.self.replicas c.act_made-made.result)
          c.faults_of-before.ensures (c.act_made-made.ensures.tried ((c.put_did-did.ensures ∙ ap (λ (e : Entry). put_made c.frozen-in-Err.result e c.in-Err.fault) c.in-Ok.ensures
          ∙ ap (λ (f : Option ℕ). put_made f (change.Put c.args.pair c.args.cookie c.args.bytes.now) c.in-Err.fault) c.frozen-in-Err.ensures.is) ∙ none));
    })).always m f (err_same is)))

pub returns-in-Err-clause-held : goal.returns-in-Err-clause-held
returns-in-Err-clause-held g c =
    subst (λ (s : Seated g.row.D.Denot g.row.P.Denot). UnfusedHolding c.args.tag s.sight (seat_of c.free-in-Err.new.seat c.show_all.new.seat).sight) c.seat.view_is
    (made_unfused g.D.Disk.Tells g.D.Disk.files g.P.Piece.Tells g.D.Disk.fault_count g.D.Disk.fuse_count c.args.tag c.seat.inside.turn c.hold-kept.new.seat c.free-in-Err.new.seat
    c.seat.inside.view c.show_all.new.seat c.hold-kept.result (record c.hold-kept.result { logical = c.write.new.self })
    c.act_made-made.result c.seat.invariant c.hold-kept.ensures c.show_all.ensures.seen.0 c.show_all.ensures.seen.1
    (put_refused g.D.Disk.Tells g.D.Disk.files g.P.Piece.Tells g.D.Disk.fault_count g.D.Disk.fuse_count c.args.tag c.hold-kept.result
    (record c.hold-kept.result { logical = c.write.new.self }) c.args.pair c.args.cookie c.args.bytes.now
    (record {
      settings = refl;
      front = refl;
      same = c.in-Err.ensures.same;
      is_open = c.in-Err.ensures.open;
      count = c.in-Err.ensures.counts.count;
      rises = c.in-Err.ensures.counts.rises;
      thawed = λ thawed. (sym c.in_default.ensures.is);
      rows = λ thawed pair. c.in-Err.ensures.kept pair;
    })
    c.in-Err.ensures.counts.stay refl refl (sym c.in_default.ensures.is) (λ tells thawed j tight.
    c.in-Err.ensures.tight tells j tight (settled c.frozen-in-Err.result (c.frozen-in-Err.ensures.is ∙ thawed) c.frozen-in-Err.ensures.settled
    ∙ sym c.in_default.ensures.settled)) c.in-Err.fault c.in-Err.ensures.refused c.in-Err.ensures.causes c.act_made-made.result
    (record {
      acts = λ m is. c.act_made-made.ensures.did m ((c.put_did-did.ensures ∙ ap (λ (e : Entry). put_made c.frozen-in-Err.result e c.in-Err.fault) c.in-Ok.ensures
          ∙ ap (λ (f : Option ℕ). put_made f (change.Put c.args.pair c.args.cookie c.args.bytes.now) c.in-Err.fault) c.frozen-in-Err.ensures.is) ∙ is);
      tries = λ none. subst (λ (l : List ℕ). IsTried g.D.Disk.fault_count g.D.Disk.fuse_count c.args.tag l c.write.new.self.replicas c.act_made-made.result)
          c.faults_of-before.ensures (c.act_made-made.ensures.tried ((c.put_did-did.ensures ∙ ap (λ (e : Entry). put_made c.frozen-in-Err.result e c.in-Err.fault) c.in-Ok.ensures
          ∙ ap (λ (f : Option ℕ). put_made f (change.Put c.args.pair c.args.cookie c.args.bytes.now) c.in-Err.fault) c.frozen-in-Err.ensures.is) ∙ none));
    })).goes c.free-in-Err.ensures
    (made_unfused_by g.D.Disk.fault_count g.D.Disk.fuse_count c.args.tag _ _ c.put_did-did.result c.act_made-made.result
    (subst (λ (o : Option Made). IfSome o IsNoFuse) (sym c.put_did-did.ensures) (put_unfused _ _ _)) c.act_made-made.ensures.did c.act_made-made.ensures.tried))

pub publish-requires-clause-open : goal.publish-requires-clause-open
publish-requires-clause-open g c =
    (is_held g.D.Disk.Tells g.D.Disk.files g.P.Piece.Tells g.D.Disk.fault_count g.D.Disk.fuse_count c.seat.invariant c.hold-kept.ensures).serves (sym c.in_default.ensures.is)

pub publish-requires-clause-fact : goal.publish-requires-clause-fact
publish-requires-clause-fact g c =
    put_may g.D.Disk.Tells g.D.Disk.files g.P.Piece.Tells g.D.Disk.fault_count g.D.Disk.fuse_count c.args.tag c.hold-kept.result c.args.pair c.args.cookie c.args.bytes.now
    c.write.new.self c.in-Ok-write.written c.published-op.result c.in-Ok-write.ensures.of.0 c.in-Ok-write.ensures.of.2 c.in-Ok-write.ensures.written
    c.published-op.ensures.change (c.published-op.ensures.entered ∙ ap (λ (e : Entry). e ∷ []) c.in-Ok.ensures) c.in-Ok-write.ensures.same c.seat.invariant.opened
    c.hold-kept.new.seat.seen (is_held g.D.Disk.Tells g.D.Disk.files g.P.Piece.Tells g.D.Disk.fault_count g.D.Disk.fuse_count c.seat.invariant c.hold-kept.ensures) c.show_all.ensures.fact

pub act_made-made-requires-in_default-publish-clause-all : goal.act_made-made-requires-in_default-publish-clause-all
act_made-made-requires-in_default-publish-clause-all g c =
    c.give_up.ensures.counts.count ∙ c.write.ensures.counts.count ∙ all_there g.D.Disk.Tells g.D.Disk.files g.P.Piece.Tells g.D.Disk.fault_count g.D.Disk.fuse_count
    c.seat.invariant c.hold-kept.ensures

pub act_made-made-requires-in_default-publish-clause-most : goal.act_made-made-requires-in_default-publish-clause-most
act_made-made-requires-in_default-publish-clause-most g c = few_there g.D.Disk.Tells g.D.Disk.files g.P.Piece.Tells g.D.Disk.fault_count g.D.Disk.fuse_count c.seat.invariant c.hold-kept.ensures

pub free-requires-in_default-publish-clause-may : goal.free-requires-in_default-publish-clause-may
free-requires-in_default-publish-clause-may g c = record {
  stands_for =
      changed_free g.D.Disk.Tells g.D.Disk.files g.P.Piece.Tells g.D.Disk.fault_count g.D.Disk.fuse_count c.args.tag c.seat.inside.turn c.hold-kept.new.seat c.seat.inside.view
      c.show_all.new.seat c.publish.new.seat c.hold-kept.result (record c.hold-kept.result { logical = c.give_up.new.self; front = c.publish.new.self }) c.act_made-made-in_default-publish.result
      c.seat.invariant c.hold-kept.ensures c.show_all.ensures.seen.0 c.show_all.ensures.seen.1 c.in_default-publish.ensures.seen.1
      (put_unshown g.D.Disk.Tells g.D.Disk.files g.P.Piece.Tells g.D.Disk.fault_count g.D.Disk.fuse_count c.args.tag c.hold-kept.result c.args.pair c.args.cookie c.args.bytes.now
      c.write.new.self c.in-Ok-write.written c.published-op.result c.in-Ok-write.ensures.of.0 c.in-Ok-write.ensures.of.2 c.in-Ok-write.ensures.written
      c.published-op.ensures.change (c.published-op.ensures.entered ∙ ap (λ (e : Entry). e ∷ []) c.in-Ok.ensures) c.in-Ok-write.ensures.same
      (record c.hold-kept.result { logical = c.give_up.new.self; front = c.publish.new.self }) refl refl refl (sym c.in_default.ensures.is) c.in-Ok-write.ensures.open c.in-Ok-write.ensures.counts
      (ap (λ f. f.shown) c.in_default-publish.ensures.refused) (ap (λ f. f.log) c.in_default-publish.ensures.refused) c.in-Ok-write.ensures.still c.in-Ok-write.written.ends refl
      c.give_up.ensures.pending
      c.give_up.ensures.same c.give_up.ensures.open c.give_up.ensures.counts (ap (λ v. v.frozen) c.give_up.ensures.still) c.act_made-made-in_default-publish.result
      (record {
        acts = λ m is. c.act_made-made-in_default-publish.ensures.did m ((c.pended-did.ensures
            ∙ ap (λ (e : Entry). pends_by c.frozen-in_default-publish.result e false) c.in-Ok.ensures
            ∙ ap (λ (f : Option ℕ). pends_by f (change.Put c.args.pair c.args.cookie c.args.bytes.now) false) c.frozen-in_default-publish.ensures.is) ∙ is);
        tries = λ none. subst (λ (l : List ℕ). IsTried g.D.Disk.fault_count g.D.Disk.fuse_count c.args.tag l c.give_up.new.self.replicas
            c.act_made-made-in_default-publish.result) c.faults_of-before.ensures (c.act_made-made-in_default-publish.ensures.tried
            ((c.pended-did.ensures ∙ ap (λ (e : Entry). pends_by c.frozen-in_default-publish.result e false) c.in-Ok.ensures
            ∙ ap (λ (f : Option ℕ). pends_by f (change.Put c.args.pair c.args.cookie c.args.bytes.now) false) c.frozen-in_default-publish.ensures.is) ∙ none));
      })).0;
  mine =
      changed_mine g.D.Disk.Tells g.D.Disk.files g.P.Piece.Tells g.D.Disk.fault_count g.D.Disk.fuse_count c.args.tag c.seat.inside.turn c.hold-kept.new.seat c.seat.inside.view
      c.show_all.new.seat c.publish.new.seat c.hold-kept.result (record c.hold-kept.result { logical = c.give_up.new.self; front = c.publish.new.self }) c.act_made-made-in_default-publish.result
      c.seat.invariant c.hold-kept.ensures c.show_all.ensures.seen.0 c.show_all.ensures.seen.1 c.in_default-publish.ensures.seen.1
      (put_unshown g.D.Disk.Tells g.D.Disk.files g.P.Piece.Tells g.D.Disk.fault_count g.D.Disk.fuse_count c.args.tag c.hold-kept.result c.args.pair c.args.cookie c.args.bytes.now
      c.write.new.self c.in-Ok-write.written c.published-op.result c.in-Ok-write.ensures.of.0 c.in-Ok-write.ensures.of.2 c.in-Ok-write.ensures.written
      c.published-op.ensures.change (c.published-op.ensures.entered ∙ ap (λ (e : Entry). e ∷ []) c.in-Ok.ensures) c.in-Ok-write.ensures.same
      (record c.hold-kept.result { logical = c.give_up.new.self; front = c.publish.new.self }) refl refl refl (sym c.in_default.ensures.is) c.in-Ok-write.ensures.open c.in-Ok-write.ensures.counts
      (ap (λ f. f.shown) c.in_default-publish.ensures.refused) (ap (λ f. f.log) c.in_default-publish.ensures.refused) c.in-Ok-write.ensures.still c.in-Ok-write.written.ends refl
      c.give_up.ensures.pending
      c.give_up.ensures.same c.give_up.ensures.open c.give_up.ensures.counts (ap (λ v. v.frozen) c.give_up.ensures.still) c.act_made-made-in_default-publish.result
      (record {
        acts = λ m is. c.act_made-made-in_default-publish.ensures.did m ((c.pended-did.ensures
            ∙ ap (λ (e : Entry). pends_by c.frozen-in_default-publish.result e false) c.in-Ok.ensures
            ∙ ap (λ (f : Option ℕ). pends_by f (change.Put c.args.pair c.args.cookie c.args.bytes.now) false) c.frozen-in_default-publish.ensures.is) ∙ is);
        tries = λ none. subst (λ (l : List ℕ). IsTried g.D.Disk.fault_count g.D.Disk.fuse_count c.args.tag l c.give_up.new.self.replicas
            c.act_made-made-in_default-publish.result) c.faults_of-before.ensures (c.act_made-made-in_default-publish.ensures.tried
            ((c.pended-did.ensures ∙ ap (λ (e : Entry). pends_by c.frozen-in_default-publish.result e false) c.in-Ok.ensures
            ∙ ap (λ (f : Option ℕ). pends_by f (change.Put c.args.pair c.args.cookie c.args.bytes.now) false) c.frozen-in_default-publish.ensures.is) ∙ none));
      })).0
      (ap (λ (s : Seated g.row.D.Denot g.row.P.Denot). s.number) c.seat.view_is ∙ c.requires.may.lane);
}

pub invariant_of-seat-in_default-publish : goal.invariant_of-seat-in_default-publish
invariant_of-seat-in_default-publish g c =
    changed_seated g.D.Disk.Tells g.D.Disk.files g.P.Piece.Tells g.D.Disk.fault_count g.D.Disk.fuse_count c.args.tag c.seat.inside.turn c.hold-kept.new.seat c.seat.inside.view
    c.show_all.new.seat c.publish.new.seat c.hold-kept.result (record c.hold-kept.result { logical = c.give_up.new.self; front = c.publish.new.self }) c.act_made-made-in_default-publish.result
    c.seat.invariant c.hold-kept.ensures c.show_all.ensures.seen.0 c.show_all.ensures.seen.1 c.in_default-publish.ensures.seen.1
    (put_unshown g.D.Disk.Tells g.D.Disk.files g.P.Piece.Tells g.D.Disk.fault_count g.D.Disk.fuse_count c.args.tag c.hold-kept.result c.args.pair c.args.cookie c.args.bytes.now
    c.write.new.self c.in-Ok-write.written c.published-op.result c.in-Ok-write.ensures.of.0 c.in-Ok-write.ensures.of.2 c.in-Ok-write.ensures.written
    c.published-op.ensures.change (c.published-op.ensures.entered ∙ ap (λ (e : Entry). e ∷ []) c.in-Ok.ensures) c.in-Ok-write.ensures.same
    (record c.hold-kept.result { logical = c.give_up.new.self; front = c.publish.new.self }) refl refl refl (sym c.in_default.ensures.is) c.in-Ok-write.ensures.open c.in-Ok-write.ensures.counts
    (ap (λ f. f.shown) c.in_default-publish.ensures.refused) (ap (λ f. f.log) c.in_default-publish.ensures.refused) c.in-Ok-write.ensures.still c.in-Ok-write.written.ends refl
    c.give_up.ensures.pending
    c.give_up.ensures.same c.give_up.ensures.open c.give_up.ensures.counts (ap (λ v. v.frozen) c.give_up.ensures.still) c.act_made-made-in_default-publish.result
    (record {
      acts = λ m is. c.act_made-made-in_default-publish.ensures.did m ((c.pended-did.ensures
          ∙ ap (λ (e : Entry). pends_by c.frozen-in_default-publish.result e false) c.in-Ok.ensures
          ∙ ap (λ (f : Option ℕ). pends_by f (change.Put c.args.pair c.args.cookie c.args.bytes.now) false) c.frozen-in_default-publish.ensures.is) ∙ is);
      tries = λ none. subst (λ (l : List ℕ). IsTried g.D.Disk.fault_count g.D.Disk.fuse_count c.args.tag l c.give_up.new.self.replicas c.act_made-made-in_default-publish.result)
          c.faults_of-before.ensures (c.act_made-made-in_default-publish.ensures.tried ((c.pended-did.ensures
          ∙ ap (λ (e : Entry). pends_by c.frozen-in_default-publish.result e false) c.in-Ok.ensures
          ∙ ap (λ (f : Option ℕ). pends_by f (change.Put c.args.pair c.args.cookie c.args.bytes.now) false) c.frozen-in_default-publish.ensures.is) ∙ none));
    })).0
    c.free-in_default-publish.new.seat c.free-in_default-publish.ensures (ap (λ (s : Seated g.row.D.Denot g.row.P.Denot). s.number) c.seat.view_is ∙ c.requires.may.lane)
    (later_same c.seat.inside.view c.hold-kept.result.front.shown c.publish.new.seat c.show_all.ensures.seen.0
    (c.in_default-publish.ensures.seen.1 ∙ ap (λ f. f.shown) c.in_default-publish.ensures.refused))

pub returns-in_default-publish-clause-put : goal.returns-in_default-publish-clause-put
returns-in_default-publish-clause-put g c =
    subst (λ (s : Seated g.row.D.Denot g.row.P.Denot). IsTold g.D.Disk.Tells g.D.Disk.files g.P.Piece.Tells g.D.Disk.fault_count g.D.Disk.fuse_count s.start
    (λ volume. PutAnswer volume c.args.tag c.args.pair c.args.cookie c.args.bytes.now (Err NoMemory) s.sight (seat_of c.free-in_default-publish.new.seat c.publish.new.seat).sight)) c.seat.view_is
    (changed_told g.D.Disk.Tells g.D.Disk.files g.P.Piece.Tells g.D.Disk.fault_count g.D.Disk.fuse_count c.args.tag c.seat.inside.turn c.hold-kept.new.seat c.seat.inside.view
    c.show_all.new.seat c.publish.new.seat c.hold-kept.result (record c.hold-kept.result { logical = c.give_up.new.self; front = c.publish.new.self }) c.act_made-made-in_default-publish.result
    c.seat.invariant c.hold-kept.ensures c.show_all.ensures.seen.0 c.show_all.ensures.seen.1 c.in_default-publish.ensures.seen.1
    (put_unshown g.D.Disk.Tells g.D.Disk.files g.P.Piece.Tells g.D.Disk.fault_count g.D.Disk.fuse_count c.args.tag c.hold-kept.result c.args.pair c.args.cookie c.args.bytes.now
    c.write.new.self c.in-Ok-write.written c.published-op.result c.in-Ok-write.ensures.of.0 c.in-Ok-write.ensures.of.2 c.in-Ok-write.ensures.written
    c.published-op.ensures.change (c.published-op.ensures.entered ∙ ap (λ (e : Entry). e ∷ []) c.in-Ok.ensures) c.in-Ok-write.ensures.same
    (record c.hold-kept.result { logical = c.give_up.new.self; front = c.publish.new.self }) refl refl refl (sym c.in_default.ensures.is) c.in-Ok-write.ensures.open c.in-Ok-write.ensures.counts
    (ap (λ f. f.shown) c.in_default-publish.ensures.refused) (ap (λ f. f.log) c.in_default-publish.ensures.refused) c.in-Ok-write.ensures.still c.in-Ok-write.written.ends refl
    c.give_up.ensures.pending
    c.give_up.ensures.same c.give_up.ensures.open c.give_up.ensures.counts (ap (λ v. v.frozen) c.give_up.ensures.still) c.act_made-made-in_default-publish.result
    (record {
      acts = λ m is. c.act_made-made-in_default-publish.ensures.did m ((c.pended-did.ensures
          ∙ ap (λ (e : Entry). pends_by c.frozen-in_default-publish.result e false) c.in-Ok.ensures
          ∙ ap (λ (f : Option ℕ). pends_by f (change.Put c.args.pair c.args.cookie c.args.bytes.now) false) c.frozen-in_default-publish.ensures.is) ∙ is);
      tries = λ none. subst (λ (l : List ℕ). IsTried g.D.Disk.fault_count g.D.Disk.fuse_count c.args.tag l c.give_up.new.self.replicas c.act_made-made-in_default-publish.result)
          c.faults_of-before.ensures (c.act_made-made-in_default-publish.ensures.tried ((c.pended-did.ensures
          ∙ ap (λ (e : Entry). pends_by c.frozen-in_default-publish.result e false) c.in-Ok.ensures
          ∙ ap (λ (f : Option ℕ). pends_by f (change.Put c.args.pair c.args.cookie c.args.bytes.now) false) c.frozen-in_default-publish.ensures.is) ∙ none));
    })).0
    c.free-in_default-publish.new.seat c.free-in_default-publish.ensures (λ volume. PutAnswer volume c.args.tag c.args.pair c.args.cookie c.args.bytes.now (Err NoMemory))
    (put_unshown g.D.Disk.Tells g.D.Disk.files g.P.Piece.Tells g.D.Disk.fault_count g.D.Disk.fuse_count c.args.tag c.hold-kept.result c.args.pair c.args.cookie c.args.bytes.now
    c.write.new.self c.in-Ok-write.written c.published-op.result c.in-Ok-write.ensures.of.0 c.in-Ok-write.ensures.of.2 c.in-Ok-write.ensures.written
    c.published-op.ensures.change (c.published-op.ensures.entered ∙ ap (λ (e : Entry). e ∷ []) c.in-Ok.ensures) c.in-Ok-write.ensures.same
    (record c.hold-kept.result { logical = c.give_up.new.self; front = c.publish.new.self }) refl refl refl (sym c.in_default.ensures.is) c.in-Ok-write.ensures.open c.in-Ok-write.ensures.counts
    (ap (λ f. f.shown) c.in_default-publish.ensures.refused) (ap (λ f. f.log) c.in_default-publish.ensures.refused) c.in-Ok-write.ensures.still c.in-Ok-write.written.ends refl
    c.give_up.ensures.pending
    c.give_up.ensures.same c.give_up.ensures.open c.give_up.ensures.counts (ap (λ v. v.frozen) c.give_up.ensures.still) c.act_made-made-in_default-publish.result
    (record {
      acts = λ m is. c.act_made-made-in_default-publish.ensures.did m ((c.pended-did.ensures
          ∙ ap (λ (e : Entry). pends_by c.frozen-in_default-publish.result e false) c.in-Ok.ensures
          ∙ ap (λ (f : Option ℕ). pends_by f (change.Put c.args.pair c.args.cookie c.args.bytes.now) false) c.frozen-in_default-publish.ensures.is) ∙ is);
      tries = λ none. subst (λ (l : List ℕ). IsTried g.D.Disk.fault_count g.D.Disk.fuse_count c.args.tag l c.give_up.new.self.replicas c.act_made-made-in_default-publish.result)
          c.faults_of-before.ensures (c.act_made-made-in_default-publish.ensures.tried ((c.pended-did.ensures
          ∙ ap (λ (e : Entry). pends_by c.frozen-in_default-publish.result e false) c.in-Ok.ensures
          ∙ ap (λ (f : Option ℕ). pends_by f (change.Put c.args.pair c.args.cookie c.args.bytes.now) false) c.frozen-in_default-publish.ensures.is) ∙ none));
    })).1)

pub returns-in_default-publish-clause-held : goal.returns-in_default-publish-clause-held
returns-in_default-publish-clause-held g c =
    subst (λ (s : Seated g.row.D.Denot g.row.P.Denot). UnfusedHolding c.args.tag s.sight (seat_of c.free-in_default-publish.new.seat c.publish.new.seat).sight) c.seat.view_is
    (changed_held g.D.Disk.Tells g.D.Disk.files g.P.Piece.Tells g.D.Disk.fault_count g.D.Disk.fuse_count c.args.tag c.seat.inside.turn c.hold-kept.new.seat c.seat.inside.view
    c.show_all.new.seat c.publish.new.seat c.hold-kept.result (record c.hold-kept.result { logical = c.give_up.new.self; front = c.publish.new.self }) c.act_made-made-in_default-publish.result
    c.seat.invariant c.hold-kept.ensures c.show_all.ensures.seen.0 c.show_all.ensures.seen.1 c.in_default-publish.ensures.seen.1
    (put_unshown g.D.Disk.Tells g.D.Disk.files g.P.Piece.Tells g.D.Disk.fault_count g.D.Disk.fuse_count c.args.tag c.hold-kept.result c.args.pair c.args.cookie c.args.bytes.now
    c.write.new.self c.in-Ok-write.written c.published-op.result c.in-Ok-write.ensures.of.0 c.in-Ok-write.ensures.of.2 c.in-Ok-write.ensures.written
    c.published-op.ensures.change (c.published-op.ensures.entered ∙ ap (λ (e : Entry). e ∷ []) c.in-Ok.ensures) c.in-Ok-write.ensures.same
    (record c.hold-kept.result { logical = c.give_up.new.self; front = c.publish.new.self }) refl refl refl (sym c.in_default.ensures.is) c.in-Ok-write.ensures.open c.in-Ok-write.ensures.counts
    (ap (λ f. f.shown) c.in_default-publish.ensures.refused) (ap (λ f. f.log) c.in_default-publish.ensures.refused) c.in-Ok-write.ensures.still c.in-Ok-write.written.ends refl
    c.give_up.ensures.pending
    c.give_up.ensures.same c.give_up.ensures.open c.give_up.ensures.counts (ap (λ v. v.frozen) c.give_up.ensures.still) c.act_made-made-in_default-publish.result
    (record {
      acts = λ m is. c.act_made-made-in_default-publish.ensures.did m ((c.pended-did.ensures
          ∙ ap (λ (e : Entry). pends_by c.frozen-in_default-publish.result e false) c.in-Ok.ensures
          ∙ ap (λ (f : Option ℕ). pends_by f (change.Put c.args.pair c.args.cookie c.args.bytes.now) false) c.frozen-in_default-publish.ensures.is) ∙ is);
      tries = λ none. subst (λ (l : List ℕ). IsTried g.D.Disk.fault_count g.D.Disk.fuse_count c.args.tag l c.give_up.new.self.replicas c.act_made-made-in_default-publish.result)
          c.faults_of-before.ensures (c.act_made-made-in_default-publish.ensures.tried ((c.pended-did.ensures
          ∙ ap (λ (e : Entry). pends_by c.frozen-in_default-publish.result e false) c.in-Ok.ensures
          ∙ ap (λ (f : Option ℕ). pends_by f (change.Put c.args.pair c.args.cookie c.args.bytes.now) false) c.frozen-in_default-publish.ensures.is) ∙ none));
    })).0
    c.free-in_default-publish.new.seat c.free-in_default-publish.ensures
    (made_unfused_by g.D.Disk.fault_count g.D.Disk.fuse_count c.args.tag _ _ c.pended-did.result c.act_made-made-in_default-publish.result
    (subst (λ (o : Option Made). IfSome o IsNoFuse) (sym c.pended-did.ensures) (pends_unfused _ _ _)) c.act_made-made-in_default-publish.ensures.did c.act_made-made-in_default-publish.ensures.tried))

pub free-requires-2-clause-may : goal.free-requires-2-clause-may
free-requires-2-clause-may g c = record {
  stands_for =
      changed_free g.D.Disk.Tells g.D.Disk.files g.P.Piece.Tells g.D.Disk.fault_count g.D.Disk.fuse_count c.args.tag c.seat.inside.turn c.hold-kept.new.seat c.seat.inside.view
      c.show_all.new.seat c.publish.new.seat c.hold-kept.result (record c.hold-kept.result { logical = c.show-position.new.self; front = c.publish.new.self }) (Some c.new-act.result)
      c.seat.invariant c.hold-kept.ensures c.show_all.ensures.seen.0 c.show_all.ensures.seen.1 c.in-Ok-publish.ensures.seen.1
      (put_shown g.D.Disk.Tells g.D.Disk.files g.P.Piece.Tells g.D.Disk.fault_count g.D.Disk.fuse_count c.args.tag c.hold-kept.result c.args.pair c.args.cookie c.args.bytes.now
      c.write.new.self c.in-Ok-write.written c.published-op.result c.in-Ok-write.ensures.of.0 c.in-Ok-write.ensures.of.2 c.in-Ok-write.ensures.written
      c.published-op.ensures.change (c.published-op.ensures.entered ∙ ap (λ (e : Entry). e ∷ []) c.in-Ok.ensures) c.in-Ok-write.ensures.same
      (record c.hold-kept.result { logical = c.show-position.new.self; front = c.publish.new.self }) refl refl refl (sym c.in_default.ensures.is) c.in-Ok-write.ensures.open
      c.in-Ok-write.ensures.counts
      c.show-position.result (record { tag = c.front_tag.result; deed = c.published-op.result }) c.front_tag.ensures c.in-Ok-publish.ensures.done.0 c.in-Ok-write.ensures.still
      c.show-position.ensures.rows c.show-position.ensures.still c.show-position.ensures.put c.new-act.result
      (c.new-act.ensures ∙ ap (λ (e : Entry). act_of g.D.Disk.fault_count g.D.Disk.fuse_count c.args.tag (made_is.Enters e c.new.result) c.show-position.new.self.replicas)
      (c.of.ensures ∙ c.in-Ok.ensures) ∙ ap (λ (l : List Bool). act_of g.D.Disk.fault_count g.D.Disk.fuse_count c.args.tag
      (made_is.Enters (change.Put c.args.pair c.args.cookie c.args.bytes.now) l) c.show-position.new.self.replicas) c.new.ensures)).0;
  mine =
      changed_mine g.D.Disk.Tells g.D.Disk.files g.P.Piece.Tells g.D.Disk.fault_count g.D.Disk.fuse_count c.args.tag c.seat.inside.turn c.hold-kept.new.seat c.seat.inside.view
      c.show_all.new.seat c.publish.new.seat c.hold-kept.result (record c.hold-kept.result { logical = c.show-position.new.self; front = c.publish.new.self }) (Some c.new-act.result)
      c.seat.invariant c.hold-kept.ensures c.show_all.ensures.seen.0 c.show_all.ensures.seen.1 c.in-Ok-publish.ensures.seen.1
      (put_shown g.D.Disk.Tells g.D.Disk.files g.P.Piece.Tells g.D.Disk.fault_count g.D.Disk.fuse_count c.args.tag c.hold-kept.result c.args.pair c.args.cookie c.args.bytes.now
      c.write.new.self c.in-Ok-write.written c.published-op.result c.in-Ok-write.ensures.of.0 c.in-Ok-write.ensures.of.2 c.in-Ok-write.ensures.written
      c.published-op.ensures.change (c.published-op.ensures.entered ∙ ap (λ (e : Entry). e ∷ []) c.in-Ok.ensures) c.in-Ok-write.ensures.same
      (record c.hold-kept.result { logical = c.show-position.new.self; front = c.publish.new.self }) refl refl refl (sym c.in_default.ensures.is) c.in-Ok-write.ensures.open
      c.in-Ok-write.ensures.counts
      c.show-position.result (record { tag = c.front_tag.result; deed = c.published-op.result }) c.front_tag.ensures c.in-Ok-publish.ensures.done.0 c.in-Ok-write.ensures.still
      c.show-position.ensures.rows c.show-position.ensures.still c.show-position.ensures.put c.new-act.result
      (c.new-act.ensures ∙ ap (λ (e : Entry). act_of g.D.Disk.fault_count g.D.Disk.fuse_count c.args.tag (made_is.Enters e c.new.result) c.show-position.new.self.replicas)
      (c.of.ensures ∙ c.in-Ok.ensures) ∙ ap (λ (l : List Bool). act_of g.D.Disk.fault_count g.D.Disk.fuse_count c.args.tag
      (made_is.Enters (change.Put c.args.pair c.args.cookie c.args.bytes.now) l) c.show-position.new.self.replicas) c.new.ensures)).0
      (ap (λ (s : Seated g.row.D.Denot g.row.P.Denot). s.number) c.seat.view_is ∙ c.requires.may.lane);
}

pub invariant_of-seat-2 : goal.invariant_of-seat-2
invariant_of-seat-2 g c =
    changed_seated g.D.Disk.Tells g.D.Disk.files g.P.Piece.Tells g.D.Disk.fault_count g.D.Disk.fuse_count c.args.tag c.seat.inside.turn c.hold-kept.new.seat c.seat.inside.view
    c.show_all.new.seat c.publish.new.seat c.hold-kept.result (record c.hold-kept.result { logical = c.show-position.new.self; front = c.publish.new.self }) (Some c.new-act.result)
    c.seat.invariant c.hold-kept.ensures c.show_all.ensures.seen.0 c.show_all.ensures.seen.1 c.in-Ok-publish.ensures.seen.1
    (put_shown g.D.Disk.Tells g.D.Disk.files g.P.Piece.Tells g.D.Disk.fault_count g.D.Disk.fuse_count c.args.tag c.hold-kept.result c.args.pair c.args.cookie c.args.bytes.now
    c.write.new.self c.in-Ok-write.written c.published-op.result c.in-Ok-write.ensures.of.0 c.in-Ok-write.ensures.of.2 c.in-Ok-write.ensures.written
    c.published-op.ensures.change (c.published-op.ensures.entered ∙ ap (λ (e : Entry). e ∷ []) c.in-Ok.ensures) c.in-Ok-write.ensures.same
    (record c.hold-kept.result { logical = c.show-position.new.self; front = c.publish.new.self }) refl refl refl (sym c.in_default.ensures.is) c.in-Ok-write.ensures.open
    c.in-Ok-write.ensures.counts
    c.show-position.result (record { tag = c.front_tag.result; deed = c.published-op.result }) c.front_tag.ensures c.in-Ok-publish.ensures.done.0 c.in-Ok-write.ensures.still
    c.show-position.ensures.rows c.show-position.ensures.still c.show-position.ensures.put c.new-act.result
    (c.new-act.ensures ∙ ap (λ (e : Entry). act_of g.D.Disk.fault_count g.D.Disk.fuse_count c.args.tag (made_is.Enters e c.new.result) c.show-position.new.self.replicas)
    (c.of.ensures ∙ c.in-Ok.ensures) ∙ ap (λ (l : List Bool). act_of g.D.Disk.fault_count g.D.Disk.fuse_count c.args.tag
    (made_is.Enters (change.Put c.args.pair c.args.cookie c.args.bytes.now) l) c.show-position.new.self.replicas) c.new.ensures)).0 c.free-2.new.seat c.free-2.ensures
    (ap (λ (s : Seated g.row.D.Denot g.row.P.Denot). s.number) c.seat.view_is ∙ c.requires.may.lane)
    (later_deed c.seat.inside.view c.hold-kept.result.front.shown c.publish.new.seat c.published-op.result c.show_all.ensures.seen.0
    (c.in-Ok-publish.ensures.seen.1 ∙ ap (λ f. f.shown) c.in-Ok-publish.ensures.done.0))

pub returns-clause-put : goal.returns-clause-put
returns-clause-put g c =
    subst (λ (s : Seated g.row.D.Denot g.row.P.Denot). IsTold g.D.Disk.Tells g.D.Disk.files g.P.Piece.Tells g.D.Disk.fault_count g.D.Disk.fuse_count s.start
    (λ volume. PutAnswer volume c.args.tag c.args.pair c.args.cookie c.args.bytes.now (Ok c.show-position.result) s.sight (seat_of c.free-2.new.seat c.publish.new.seat).sight)) c.seat.view_is
    (changed_told g.D.Disk.Tells g.D.Disk.files g.P.Piece.Tells g.D.Disk.fault_count g.D.Disk.fuse_count c.args.tag c.seat.inside.turn c.hold-kept.new.seat c.seat.inside.view
    c.show_all.new.seat c.publish.new.seat c.hold-kept.result (record c.hold-kept.result { logical = c.show-position.new.self; front = c.publish.new.self }) (Some c.new-act.result)
    c.seat.invariant c.hold-kept.ensures c.show_all.ensures.seen.0 c.show_all.ensures.seen.1 c.in-Ok-publish.ensures.seen.1
    (put_shown g.D.Disk.Tells g.D.Disk.files g.P.Piece.Tells g.D.Disk.fault_count g.D.Disk.fuse_count c.args.tag c.hold-kept.result c.args.pair c.args.cookie c.args.bytes.now
    c.write.new.self c.in-Ok-write.written c.published-op.result c.in-Ok-write.ensures.of.0 c.in-Ok-write.ensures.of.2 c.in-Ok-write.ensures.written
    c.published-op.ensures.change (c.published-op.ensures.entered ∙ ap (λ (e : Entry). e ∷ []) c.in-Ok.ensures) c.in-Ok-write.ensures.same
    (record c.hold-kept.result { logical = c.show-position.new.self; front = c.publish.new.self }) refl refl refl (sym c.in_default.ensures.is) c.in-Ok-write.ensures.open
    c.in-Ok-write.ensures.counts
    c.show-position.result (record { tag = c.front_tag.result; deed = c.published-op.result }) c.front_tag.ensures c.in-Ok-publish.ensures.done.0 c.in-Ok-write.ensures.still
    c.show-position.ensures.rows c.show-position.ensures.still c.show-position.ensures.put c.new-act.result
    (c.new-act.ensures ∙ ap (λ (e : Entry). act_of g.D.Disk.fault_count g.D.Disk.fuse_count c.args.tag (made_is.Enters e c.new.result) c.show-position.new.self.replicas)
    (c.of.ensures ∙ c.in-Ok.ensures) ∙ ap (λ (l : List Bool). act_of g.D.Disk.fault_count g.D.Disk.fuse_count c.args.tag
    (made_is.Enters (change.Put c.args.pair c.args.cookie c.args.bytes.now) l) c.show-position.new.self.replicas) c.new.ensures)).0 c.free-2.new.seat c.free-2.ensures
    (λ volume. PutAnswer volume c.args.tag c.args.pair c.args.cookie c.args.bytes.now (Ok c.show-position.result))
    (put_shown g.D.Disk.Tells g.D.Disk.files g.P.Piece.Tells g.D.Disk.fault_count g.D.Disk.fuse_count c.args.tag c.hold-kept.result c.args.pair c.args.cookie c.args.bytes.now
    c.write.new.self c.in-Ok-write.written c.published-op.result c.in-Ok-write.ensures.of.0 c.in-Ok-write.ensures.of.2 c.in-Ok-write.ensures.written
    c.published-op.ensures.change (c.published-op.ensures.entered ∙ ap (λ (e : Entry). e ∷ []) c.in-Ok.ensures) c.in-Ok-write.ensures.same
    (record c.hold-kept.result { logical = c.show-position.new.self; front = c.publish.new.self }) refl refl refl (sym c.in_default.ensures.is) c.in-Ok-write.ensures.open
    c.in-Ok-write.ensures.counts
    c.show-position.result (record { tag = c.front_tag.result; deed = c.published-op.result }) c.front_tag.ensures c.in-Ok-publish.ensures.done.0 c.in-Ok-write.ensures.still
    c.show-position.ensures.rows c.show-position.ensures.still c.show-position.ensures.put c.new-act.result
    (c.new-act.ensures ∙ ap (λ (e : Entry). act_of g.D.Disk.fault_count g.D.Disk.fuse_count c.args.tag (made_is.Enters e c.new.result) c.show-position.new.self.replicas)
    (c.of.ensures ∙ c.in-Ok.ensures) ∙ ap (λ (l : List Bool). act_of g.D.Disk.fault_count g.D.Disk.fuse_count c.args.tag
    (made_is.Enters (change.Put c.args.pair c.args.cookie c.args.bytes.now) l) c.show-position.new.self.replicas) c.new.ensures)).1)

pub returns-clause-held : goal.returns-clause-held
returns-clause-held g c =
    subst (λ (s : Seated g.row.D.Denot g.row.P.Denot). UnfusedHolding c.args.tag s.sight (seat_of c.free-2.new.seat c.publish.new.seat).sight) c.seat.view_is
    (changed_held g.D.Disk.Tells g.D.Disk.files g.P.Piece.Tells g.D.Disk.fault_count g.D.Disk.fuse_count c.args.tag c.seat.inside.turn c.hold-kept.new.seat c.seat.inside.view
    c.show_all.new.seat c.publish.new.seat c.hold-kept.result (record c.hold-kept.result { logical = c.show-position.new.self; front = c.publish.new.self }) (Some c.new-act.result)
    c.seat.invariant c.hold-kept.ensures c.show_all.ensures.seen.0 c.show_all.ensures.seen.1 c.in-Ok-publish.ensures.seen.1
    (put_shown g.D.Disk.Tells g.D.Disk.files g.P.Piece.Tells g.D.Disk.fault_count g.D.Disk.fuse_count c.args.tag c.hold-kept.result c.args.pair c.args.cookie c.args.bytes.now
    c.write.new.self c.in-Ok-write.written c.published-op.result c.in-Ok-write.ensures.of.0 c.in-Ok-write.ensures.of.2 c.in-Ok-write.ensures.written
    c.published-op.ensures.change (c.published-op.ensures.entered ∙ ap (λ (e : Entry). e ∷ []) c.in-Ok.ensures) c.in-Ok-write.ensures.same
    (record c.hold-kept.result { logical = c.show-position.new.self; front = c.publish.new.self }) refl refl refl (sym c.in_default.ensures.is) c.in-Ok-write.ensures.open
    c.in-Ok-write.ensures.counts
    c.show-position.result (record { tag = c.front_tag.result; deed = c.published-op.result }) c.front_tag.ensures c.in-Ok-publish.ensures.done.0 c.in-Ok-write.ensures.still
    c.show-position.ensures.rows c.show-position.ensures.still c.show-position.ensures.put c.new-act.result
    (c.new-act.ensures ∙ ap (λ (e : Entry). act_of g.D.Disk.fault_count g.D.Disk.fuse_count c.args.tag (made_is.Enters e c.new.result) c.show-position.new.self.replicas)
    (c.of.ensures ∙ c.in-Ok.ensures) ∙ ap (λ (l : List Bool). act_of g.D.Disk.fault_count g.D.Disk.fuse_count c.args.tag
    (made_is.Enters (change.Put c.args.pair c.args.cookie c.args.bytes.now) l) c.show-position.new.self.replicas) c.new.ensures)).0 c.free-2.new.seat c.free-2.ensures
    (one_unfused g.D.Disk.fault_count g.D.Disk.fuse_count c.args.tag c.show-position.new.self.replicas (made_is.Enters c.of.result c.new.result) c.new-act.result c.new-act.ensures
    (λ j e. cc e)))

pub returns-in-Some-clause-refusals : goal.returns-in-Some-clause-refusals
returns-in-Some-clause-refusals g c =
    subst (λ (s : Seated g.row.D.Denot g.row.P.Denot). OfOpened s.start (λ settings v. RefusesPut settings v (length c.args.bytes.now) (ReadOnly c.in-Some.machine))) c.seat.view_is
    (of_opened g.D.Disk.Tells g.D.Disk.files g.P.Piece.Tells g.D.Disk.fault_count g.D.Disk.fuse_count c.seat.invariant c.hold-kept.ensures
    (λ settings v. RefusesPut settings v (length c.args.bytes.now) (ReadOnly c.in-Some.machine))
    c.in-Some.ensures.on)

pub returns-in-Err-clause-refusals : goal.returns-in-Err-clause-refusals
returns-in-Err-clause-refusals g c =
    subst (λ (s : Seated g.row.D.Denot g.row.P.Denot). OfOpened s.start (λ settings v. RefusesPut settings v (length c.args.bytes.now) c.in-Err.fault)) c.seat.view_is
    (of_opened g.D.Disk.Tells g.D.Disk.files g.P.Piece.Tells g.D.Disk.fault_count g.D.Disk.fuse_count c.seat.invariant c.hold-kept.ensures
    (λ settings v. RefusesPut settings v (length c.args.bytes.now) c.in-Err.fault)
    (refuses_put c.hold-kept.result.logical.settings c.hold-kept.result.logical.number (length c.args.bytes.now) g.D.Disk.fault_count c.hold-kept.result.logical.replicas
    c.write.new.self.replicas c.args.tag (volume_seen c.hold-kept.result.logical) (volume_seen c.write.new.self) c.in-Err.fault c.in-Err.ensures.causes c.in-Err.ensures.refused_seen))
