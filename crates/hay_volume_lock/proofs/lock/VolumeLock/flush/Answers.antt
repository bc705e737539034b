use Rattle.std.proofs.Common.{ℕ, Option, refl, sym, ap, subst, ◌∙◌}
use Rattle.std.specs.Prelude.{IfErr, Result, IfSome}
use Rattle.hay_logical.specs.declared.fault.LogicalFault.TheVariants.{Failed}
use Rattle.hay_turn.specs.Seats.{after_free}
use Rattle.hay_turn.specs.Slots.{acts_in}
use Rattle.hay_volume_lock.specs.Answers.{FlushAnswer, FlushRefused, Found, FoundAlways, IsAlways, IsTold, UnfusedHolding}
use Rattle.hay_volume_lock.specs.Seats.{IsSameSeat, Seated}
use Rattle.hay_volume_lock.specs.declared.guarded.Guarded.{Guarded}
use Rattle.hay_volume_lock.specs.declared.refusals.Unflushed.{Unflushed}
use Rattle.hay_volume_lock.proofs.Finding.{flush_call, flush_failed_by}
use Rattle.hay_volume_lock.proofs.Holding.{all_there, few_there, is_held, made_always, made_free, made_mine, made_same, made_seated, made_told, seat_of, within_it, made_unfused}
use Rattle.hay_volume_lock.specs.Refusing.{OfOpened, RefusesFlush}
use Rattle.hay_volume_lock.proofs.Refusing.{err_refused, flush_refused, refuses_flush, of_opened}
use Rattle.hay_volume_lock.proofs.Unfused.{IsNoFuse, flush_unfused, made_unfused_by}
use Rattle.hay_volume_lock.specs.declared.act.Made.{Made}
use Rattle.hay_volume_lock.proofs.lock.VolumeLock.flush.Goals as goal

pub show_all-requires : goal.show_all-requires
show_all-requires g c = c.seat.invariant.front ∙ sym (is_held g.D.Disk.Tells g.D.Disk.files g.P.Piece.Tells g.D.Disk.fault_count g.D.Disk.fuse_count c.seat.invariant c.hold-kept.ensures).front

pub faults_of-before-requires-clause-all : goal.faults_of-before-requires-clause-all
faults_of-before-requires-clause-all g c = all_there g.D.Disk.Tells g.D.Disk.files g.P.Piece.Tells g.D.Disk.fault_count g.D.Disk.fuse_count c.seat.invariant c.hold-kept.ensures

pub faults_of-before-requires-clause-most : goal.faults_of-before-requires-clause-most
faults_of-before-requires-clause-most g c = few_there g.D.Disk.Tells g.D.Disk.files g.P.Piece.Tells g.D.Disk.fault_count g.D.Disk.fuse_count c.seat.invariant c.hold-kept.ensures

pub flush-answer-requires-clause-within : goal.flush-answer-requires-clause-within
flush-answer-requires-clause-within g c = within_it g.D.Disk.Tells g.D.Disk.files g.P.Piece.Tells g.D.Disk.fault_count g.D.Disk.fuse_count c.seat.invariant c.hold-kept.ensures c.args.replica
    (c.requires.within c.seat.invariant.opened (sym (ap (λ (s : Seated g.row.D.Denot g.row.P.Denot). s.start) c.seat.view_is) ∙ c.seat.invariant.is))

pub flush-answer-requires-clause-open : goal.flush-answer-requires-clause-open
flush-answer-requires-clause-open g c = (is_held g.D.Disk.Tells g.D.Disk.files g.P.Piece.Tells g.D.Disk.fault_count g.D.Disk.fuse_count c.seat.invariant c.hold-kept.ensures).is_open

pub act_made-made-requires-clause-all : goal.act_made-made-requires-clause-all
act_made-made-requires-clause-all g c =
    c.flush-answer.ensures.counts.count ∙ all_there g.D.Disk.Tells g.D.Disk.files g.P.Piece.Tells g.D.Disk.fault_count g.D.Disk.fuse_count c.seat.invariant c.hold-kept.ensures

pub act_made-made-requires-clause-most : goal.act_made-made-requires-clause-most
act_made-made-requires-clause-most g c = few_there g.D.Disk.Tells g.D.Disk.files g.P.Piece.Tells g.D.Disk.fault_count g.D.Disk.fuse_count c.seat.invariant c.hold-kept.ensures

pub free-requires-clause-may : goal.free-requires-clause-may
free-requires-clause-may g c =
    let within = within_it g.D.Disk.Tells g.D.Disk.files g.P.Piece.Tells g.D.Disk.fault_count g.D.Disk.fuse_count c.seat.invariant c.hold-kept.ensures c.args.replica
    (c.requires.within c.seat.invariant.opened (sym (ap (λ (s : Seated g.row.D.Denot g.row.P.Denot). s.start) c.seat.view_is) ∙ c.seat.invariant.is)) in
    let after : Guarded g.row.D.Denot g.row.P.Denot = record c.hold-kept.result { logical = c.flush-answer.new.self } in
    let found = flush_call g.D.Disk.Tells g.D.Disk.files g.P.Piece.Tells g.D.Disk.fault_count g.D.Disk.fuse_count c.args.tag c.hold-kept.result after
    (record {
      settings = refl;
      front = refl;
      ended = refl;
      same = c.flush-answer.ensures.same;
      is_open = c.flush-answer.ensures.open;
      counts = c.flush-answer.ensures.counts;
      still = c.flush-answer.ensures.still;
    })
    c.args.replica within c.flush-answer.result c.faults_of-before.result.items c.faults_of-before.ensures c.flush_did-did.result c.act_made-made.result
    c.act_made-made.ensures.did c.act_made-made.ensures.tried refl (λ tells thawed. c.flush-answer.ensures.tight tells) c.flush-answer.ensures.flushed
    c.flush-answer.ensures.refused c.flush-answer.ensures.causes c.flush_did-did.ensures c.frozen-frozen.result (sym c.frozen-frozen.ensures.is) in
    record {
      stands_for =
          made_free g.D.Disk.Tells g.D.Disk.files g.P.Piece.Tells g.D.Disk.fault_count g.D.Disk.fuse_count c.args.tag c.seat.inside.turn c.hold-kept.new.seat
          (after_free c.hold-kept.new.seat (acts_in c.act_made-made.result))
          c.seat.inside.view c.show_all.new.seat c.hold-kept.result after c.act_made-made.result c.seat.invariant c.hold-kept.ensures c.show_all.ensures.seen.0 c.show_all.ensures.seen.1 found.0 refl;
      mine =
          made_mine g.D.Disk.Tells g.D.Disk.files g.P.Piece.Tells g.D.Disk.fault_count g.D.Disk.fuse_count c.args.tag c.seat.inside.turn c.hold-kept.new.seat
          (after_free c.hold-kept.new.seat (acts_in c.act_made-made.result))
          c.seat.inside.view c.show_all.new.seat c.hold-kept.result after c.act_made-made.result c.seat.invariant c.hold-kept.ensures c.show_all.ensures.seen.0
          c.show_all.ensures.seen.1 found.0 refl (ap (λ (s : Seated g.row.D.Denot g.row.P.Denot). s.number) c.seat.view_is ∙ c.requires.may.lane);
    }

pub invariant_of-seat : goal.invariant_of-seat
invariant_of-seat g c =
    let within = within_it g.D.Disk.Tells g.D.Disk.files g.P.Piece.Tells g.D.Disk.fault_count g.D.Disk.fuse_count c.seat.invariant c.hold-kept.ensures c.args.replica
    (c.requires.within c.seat.invariant.opened (sym (ap (λ (s : Seated g.row.D.Denot g.row.P.Denot). s.start) c.seat.view_is) ∙ c.seat.invariant.is)) in
    let after : Guarded g.row.D.Denot g.row.P.Denot = record c.hold-kept.result { logical = c.flush-answer.new.self } in
    let found = flush_call g.D.Disk.Tells g.D.Disk.files g.P.Piece.Tells g.D.Disk.fault_count g.D.Disk.fuse_count c.args.tag c.hold-kept.result after
    (record {
      settings = refl;
      front = refl;
      ended = refl;
      same = c.flush-answer.ensures.same;
      is_open = c.flush-answer.ensures.open;
      counts = c.flush-answer.ensures.counts;
      still = c.flush-answer.ensures.still;
    })
    c.args.replica within c.flush-answer.result c.faults_of-before.result.items c.faults_of-before.ensures c.flush_did-did.result c.act_made-made.result
    c.act_made-made.ensures.did c.act_made-made.ensures.tried refl (λ tells thawed. c.flush-answer.ensures.tight tells) c.flush-answer.ensures.flushed
    c.flush-answer.ensures.refused c.flush-answer.ensures.causes c.flush_did-did.ensures c.frozen-frozen.result (sym c.frozen-frozen.ensures.is) in
    made_seated g.D.Disk.Tells g.D.Disk.files g.P.Piece.Tells g.D.Disk.fault_count g.D.Disk.fuse_count c.args.tag c.seat.inside.turn c.hold-kept.new.seat c.free.new.seat
    c.seat.inside.view c.show_all.new.seat c.hold-kept.result after c.act_made-made.result c.seat.invariant c.hold-kept.ensures c.show_all.ensures.seen.0 c.show_all.ensures.seen.1
    found.0 c.free.ensures (ap (λ (s : Seated g.row.D.Denot g.row.P.Denot). s.number) c.seat.view_is ∙ c.requires.may.lane)

pub returns-clause-flushed : goal.returns-clause-flushed
returns-clause-flushed g c =
    let within = within_it g.D.Disk.Tells g.D.Disk.files g.P.Piece.Tells g.D.Disk.fault_count g.D.Disk.fuse_count c.seat.invariant c.hold-kept.ensures c.args.replica
    (c.requires.within c.seat.invariant.opened (sym (ap (λ (s : Seated g.row.D.Denot g.row.P.Denot). s.start) c.seat.view_is) ∙ c.seat.invariant.is)) in
    let after : Guarded g.row.D.Denot g.row.P.Denot = record c.hold-kept.result { logical = c.flush-answer.new.self } in
    let found = flush_call g.D.Disk.Tells g.D.Disk.files g.P.Piece.Tells g.D.Disk.fault_count g.D.Disk.fuse_count c.args.tag c.hold-kept.result after
    (record {
      settings = refl;
      front = refl;
      ended = refl;
      same = c.flush-answer.ensures.same;
      is_open = c.flush-answer.ensures.open;
      counts = c.flush-answer.ensures.counts;
      still = c.flush-answer.ensures.still;
    })
    c.args.replica within c.flush-answer.result c.faults_of-before.result.items c.faults_of-before.ensures c.flush_did-did.result c.act_made-made.result
    c.act_made-made.ensures.did c.act_made-made.ensures.tried refl (λ tells thawed. c.flush-answer.ensures.tight tells) c.flush-answer.ensures.flushed
    c.flush-answer.ensures.refused c.flush-answer.ensures.causes c.flush_did-did.ensures c.frozen-frozen.result (sym c.frozen-frozen.ensures.is) in
    subst (λ (s : Seated g.row.D.Denot g.row.P.Denot). IsTold g.D.Disk.Tells g.D.Disk.files g.P.Piece.Tells g.D.Disk.fault_count g.D.Disk.fuse_count s.start
    (λ volume. FlushAnswer volume c.args.tag c.args.replica c.flush_answer.result s.sight (seat_of c.free.new.seat c.show_all.new.seat).sight)) c.seat.view_is
    (made_told g.D.Disk.Tells g.D.Disk.files g.P.Piece.Tells g.D.Disk.fault_count g.D.Disk.fuse_count c.args.tag c.seat.inside.turn c.hold-kept.new.seat c.free.new.seat
    c.seat.inside.view c.show_all.new.seat c.hold-kept.result after c.act_made-made.result c.seat.invariant c.hold-kept.ensures c.show_all.ensures.seen.0 c.show_all.ensures.seen.1
    found.0 c.free.ensures
    (λ volume. FlushAnswer volume c.args.tag c.args.replica c.flush_answer.result)
    (subst (λ (r : Result ℕ Unflushed). Found g.D.Disk.Tells g.D.Disk.files g.P.Piece.Tells g.D.Disk.fault_count g.D.Disk.fuse_count c.args.tag c.hold-kept.result
    c.act_made-made.result (λ volume. FlushAnswer volume c.args.tag c.args.replica r)) (sym c.flush_answer.ensures) found.1))

pub returns-clause-causes : goal.returns-clause-causes
returns-clause-causes g c = λ m f o is.
    let within = within_it g.D.Disk.Tells g.D.Disk.files g.P.Piece.Tells g.D.Disk.fault_count g.D.Disk.fuse_count c.seat.invariant c.hold-kept.ensures c.args.replica
    (c.requires.within c.seat.invariant.opened (sym (ap (λ (s : Seated g.row.D.Denot g.row.P.Denot). s.start) c.seat.view_is) ∙ c.seat.invariant.is)) in
    let after : Guarded g.row.D.Denot g.row.P.Denot = record c.hold-kept.result { logical = c.flush-answer.new.self } in
    let found = flush_call g.D.Disk.Tells g.D.Disk.files g.P.Piece.Tells g.D.Disk.fault_count g.D.Disk.fuse_count c.args.tag c.hold-kept.result after
    (record {
      settings = refl;
      front = refl;
      ended = refl;
      same = c.flush-answer.ensures.same;
      is_open = c.flush-answer.ensures.open;
      counts = c.flush-answer.ensures.counts;
      still = c.flush-answer.ensures.still;
    })
    c.args.replica within c.flush-answer.result c.faults_of-before.result.items c.faults_of-before.ensures c.flush_did-did.result c.act_made-made.result
    c.act_made-made.ensures.did c.act_made-made.ensures.tried refl (λ tells thawed. c.flush-answer.ensures.tight tells) c.flush-answer.ensures.flushed
    c.flush-answer.ensures.refused c.flush-answer.ensures.causes c.flush_did-did.ensures c.frozen-frozen.result (sym c.frozen-frozen.ensures.is) in
    subst (λ (s : Seated g.row.D.Denot g.row.P.Denot). IsAlways g.D.Disk.fault_count g.D.Disk.fuse_count s.start
    (λ volume. FlushRefused volume c.args.tag c.args.replica (Failed m f) o s.sight (seat_of c.free.new.seat c.show_all.new.seat).sight)) c.seat.view_is
    (made_always g.D.Disk.Tells g.D.Disk.files g.P.Piece.Tells g.D.Disk.fault_count g.D.Disk.fuse_count c.args.tag c.seat.inside.turn c.hold-kept.new.seat c.free.new.seat
    c.seat.inside.view c.show_all.new.seat c.hold-kept.result after c.act_made-made.result c.seat.invariant c.hold-kept.ensures c.show_all.ensures.seen.0 c.show_all.ensures.seen.1
    found.0 c.free.ensures
    (λ volume. FlushRefused volume c.args.tag c.args.replica (Failed m f) o)
    (subst (λ (z : Option ℕ). FoundAlways g.D.Disk.Tells g.D.Disk.files g.P.Piece.Tells g.D.Disk.fault_count g.D.Disk.fuse_count c.args.tag c.hold-kept.result c.act_made-made.result
    (λ volume. FlushRefused volume c.args.tag c.args.replica (Failed m f) z)) (flush_failed_by c.frozen-frozen.result c.flush-answer.result m f o (sym c.flush_answer.ensures ∙ is)).1
    (found.2 m f (flush_failed_by c.frozen-frozen.result c.flush-answer.result m f o (sym c.flush_answer.ensures ∙ is)).0)))

pub returns-clause-held : goal.returns-clause-held
returns-clause-held g c =
    let within = within_it g.D.Disk.Tells g.D.Disk.files g.P.Piece.Tells g.D.Disk.fault_count g.D.Disk.fuse_count c.seat.invariant c.hold-kept.ensures c.args.replica
    (c.requires.within c.seat.invariant.opened (sym (ap (λ (s : Seated g.row.D.Denot g.row.P.Denot). s.start) c.seat.view_is) ∙ c.seat.invariant.is)) in
    let after : Guarded g.row.D.Denot g.row.P.Denot = record c.hold-kept.result { logical = c.flush-answer.new.self } in
    let found = flush_call g.D.Disk.Tells g.D.Disk.files g.P.Piece.Tells g.D.Disk.fault_count g.D.Disk.fuse_count c.args.tag c.hold-kept.result after
    (record {
      settings = refl;
      front = refl;
      ended = refl;
      same = c.flush-answer.ensures.same;
      is_open = c.flush-answer.ensures.open;
      counts = c.flush-answer.ensures.counts;
      still = c.flush-answer.ensures.still;
    })
    c.args.replica within c.flush-answer.result c.faults_of-before.result.items c.faults_of-before.ensures c.flush_did-did.result c.act_made-made.result
    c.act_made-made.ensures.did c.act_made-made.ensures.tried refl (λ tells thawed. c.flush-answer.ensures.tight tells) c.flush-answer.ensures.flushed
    c.flush-answer.ensures.refused c.flush-answer.ensures.causes c.flush_did-did.ensures c.frozen-frozen.result (sym c.frozen-frozen.ensures.is) in
    subst (λ (s : Seated g.row.D.Denot g.row.P.Denot). UnfusedHolding c.args.tag s.sight (seat_of c.free.new.seat c.show_all.new.seat).sight) c.seat.view_is
    (made_unfused g.D.Disk.Tells g.D.Disk.files g.P.Piece.Tells g.D.Disk.fault_count g.D.Disk.fuse_count c.args.tag c.seat.inside.turn c.hold-kept.new.seat c.free.new.seat
    c.seat.inside.view c.show_all.new.seat c.hold-kept.result after c.act_made-made.result c.seat.invariant c.hold-kept.ensures c.show_all.ensures.seen.0 c.show_all.ensures.seen.1
    found.0 c.free.ensures
    (made_unfused_by g.D.Disk.fault_count g.D.Disk.fuse_count c.args.tag _ _ c.flush_did-did.result c.act_made-made.result
    (subst (λ (o : Option Made). IfSome o IsNoFuse) (sym c.flush_did-did.ensures) (flush_unfused _ _)) c.act_made-made.ensures.did c.act_made-made.ensures.tried))

pub returns-clause-same : goal.returns-clause-same
returns-clause-same g c =
    let within = within_it g.D.Disk.Tells g.D.Disk.files g.P.Piece.Tells g.D.Disk.fault_count g.D.Disk.fuse_count c.seat.invariant c.hold-kept.ensures c.args.replica
    (c.requires.within c.seat.invariant.opened (sym (ap (λ (s : Seated g.row.D.Denot g.row.P.Denot). s.start) c.seat.view_is) ∙ c.seat.invariant.is)) in
    let after : Guarded g.row.D.Denot g.row.P.Denot = record c.hold-kept.result { logical = c.flush-answer.new.self } in
    let found = flush_call g.D.Disk.Tells g.D.Disk.files g.P.Piece.Tells g.D.Disk.fault_count g.D.Disk.fuse_count c.args.tag c.hold-kept.result after
    (record {
      settings = refl;
      front = refl;
      ended = refl;
      same = c.flush-answer.ensures.same;
      is_open = c.flush-answer.ensures.open;
      counts = c.flush-answer.ensures.counts;
      still = c.flush-answer.ensures.still;
    })
    c.args.replica within c.flush-answer.result c.faults_of-before.result.items c.faults_of-before.ensures c.flush_did-did.result c.act_made-made.result
    c.act_made-made.ensures.did c.act_made-made.ensures.tried refl (λ tells thawed. c.flush-answer.ensures.tight tells) c.flush-answer.ensures.flushed
    c.flush-answer.ensures.refused c.flush-answer.ensures.causes c.flush_did-did.ensures c.frozen-frozen.result (sym c.frozen-frozen.ensures.is) in
    subst (λ (s : Seated g.row.D.Denot g.row.P.Denot). IsSameSeat s (seat_of c.free.new.seat c.show_all.new.seat)) c.seat.view_is
    (made_same g.D.Disk.Tells g.D.Disk.files g.P.Piece.Tells g.D.Disk.fault_count g.D.Disk.fuse_count c.args.tag c.seat.inside.turn c.hold-kept.new.seat c.free.new.seat
    c.seat.inside.view c.show_all.new.seat c.hold-kept.result after c.act_made-made.result c.seat.invariant c.hold-kept.ensures c.show_all.ensures.seen.0 c.show_all.ensures.seen.1
    found.0 c.free.ensures
    (ap (λ (s : Seated g.row.D.Denot g.row.P.Denot). s.holds) c.seat.view_is ∙ c.requires.may.rests.rests))

pub returns-clause-refusals : goal.returns-clause-refusals
returns-clause-refusals g c =
    subst (λ (s : Seated g.row.D.Denot g.row.P.Denot). OfOpened s.start (λ settings v.
    IfErr c.flush_answer.result (λ unflushed. RefusesFlush settings v c.args.replica unflushed.fault))) c.seat.view_is
    (of_opened g.D.Disk.Tells g.D.Disk.files g.P.Piece.Tells g.D.Disk.fault_count g.D.Disk.fuse_count c.seat.invariant c.hold-kept.ensures
    (λ settings v. IfErr c.flush_answer.result (λ unflushed. RefusesFlush settings v c.args.replica unflushed.fault))
    (subst (λ (r : Result ℕ Unflushed). IfErr r (λ unflushed. RefusesFlush c.hold-kept.result.logical.settings c.hold-kept.result.logical.number c.args.replica unflushed.fault))
    (sym c.flush_answer.ensures)
    (flush_refused (RefusesFlush c.hold-kept.result.logical.settings c.hold-kept.result.logical.number c.args.replica) c.frozen-frozen.result c.flush-answer.result
    (err_refused (refuses_flush c.hold-kept.result.logical.settings c.hold-kept.result.logical.number g.D.Disk.fault_count c.hold-kept.result.logical.replicas
    c.flush-answer.new.self.replicas c.args.replica) c.flush-answer.result c.flush-answer.ensures.causes))))
