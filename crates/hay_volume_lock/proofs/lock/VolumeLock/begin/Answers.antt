use Rattle.std.proofs.Common.{refl, sym, ap, subst, ◌∙◌, Option}
use Rattle.std.specs.Prelude.{IfErr, IfSome}
use Rattle.hay_turn.specs.Seats.{after_free}
use Rattle.hay_turn.specs.Slots.{acts_in}
use Rattle.hay_volume_lock.specs.Answers.{BeginAnswer, FailedLook, IsAlways, IsTold, UnfusedHolding}
use Rattle.hay_volume_lock.specs.Seats.{IsSameSeat, Seated}
use Rattle.hay_volume_lock.specs.declared.guarded.Guarded.{Guarded}
use Rattle.hay_volume_lock.proofs.Finding.{begin_call}
use Rattle.hay_volume_lock.proofs.Holding.{all_there, few_there, is_held, made_always, made_free, made_mine, made_same, made_seated, made_told, seat_of, within_it, made_unfused}
use Rattle.hay_volume_lock.specs.Refusing.{OfOpened, RefusesBegin}
use Rattle.hay_volume_lock.proofs.Refusing.{err_refused, refuses_begin, of_opened}
use Rattle.hay_volume_lock.proofs.Unfused.{IsNoFuse, begin_unfused, made_unfused_by}
use Rattle.hay_volume_lock.specs.declared.act.Made.{Made}
use Rattle.hay_volume_lock.proofs.lock.VolumeLock.begin.Goals as goal

pub show_all-requires : goal.show_all-requires
show_all-requires g c = c.seat.invariant.front ∙ sym (is_held g.D.Disk.Tells g.D.Disk.files g.P.Piece.Tells g.D.Disk.fault_count g.D.Disk.fuse_count c.seat.invariant c.hold-kept.ensures).front

pub faults_of-before-requires-clause-all : goal.faults_of-before-requires-clause-all
faults_of-before-requires-clause-all g c = all_there g.D.Disk.Tells g.D.Disk.files g.P.Piece.Tells g.D.Disk.fault_count g.D.Disk.fuse_count c.seat.invariant c.hold-kept.ensures

pub faults_of-before-requires-clause-most : goal.faults_of-before-requires-clause-most
faults_of-before-requires-clause-most g c = few_there g.D.Disk.Tells g.D.Disk.files g.P.Piece.Tells g.D.Disk.fault_count g.D.Disk.fuse_count c.seat.invariant c.hold-kept.ensures

pub begin-answer-requires-clause-within : goal.begin-answer-requires-clause-within
begin-answer-requires-clause-within g c = within_it g.D.Disk.Tells g.D.Disk.files g.P.Piece.Tells g.D.Disk.fault_count g.D.Disk.fuse_count c.seat.invariant c.hold-kept.ensures c.args.replica
    (c.requires.within c.seat.invariant.opened (sym (ap (λ (s : Seated g.row.D.Denot g.row.P.Denot). s.start) c.seat.view_is) ∙ c.seat.invariant.is))

pub begin-answer-requires-clause-open : goal.begin-answer-requires-clause-open
begin-answer-requires-clause-open g c = (is_held g.D.Disk.Tells g.D.Disk.files g.P.Piece.Tells g.D.Disk.fault_count g.D.Disk.fuse_count c.seat.invariant c.hold-kept.ensures).is_open

pub act_made-made-requires-clause-all : goal.act_made-made-requires-clause-all
act_made-made-requires-clause-all g c =
    c.begin-answer.ensures.counts.count ∙ all_there g.D.Disk.Tells g.D.Disk.files g.P.Piece.Tells g.D.Disk.fault_count g.D.Disk.fuse_count c.seat.invariant c.hold-kept.ensures

pub act_made-made-requires-clause-most : goal.act_made-made-requires-clause-most
act_made-made-requires-clause-most g c = few_there g.D.Disk.Tells g.D.Disk.files g.P.Piece.Tells g.D.Disk.fault_count g.D.Disk.fuse_count c.seat.invariant c.hold-kept.ensures

pub free-requires-clause-may : goal.free-requires-clause-may
free-requires-clause-may g c =
    let within = within_it g.D.Disk.Tells g.D.Disk.files g.P.Piece.Tells g.D.Disk.fault_count g.D.Disk.fuse_count c.seat.invariant c.hold-kept.ensures c.args.replica
    (c.requires.within c.seat.invariant.opened (sym (ap (λ (s : Seated g.row.D.Denot g.row.P.Denot). s.start) c.seat.view_is) ∙ c.seat.invariant.is)) in
    let after : Guarded g.row.D.Denot g.row.P.Denot = record c.hold-kept.result { logical = c.begin-answer.new.self; begun = c.note_begun.new.begun } in
    let found = begin_call g.D.Disk.Tells g.D.Disk.files g.P.Piece.Tells g.D.Disk.fault_count g.D.Disk.fuse_count c.args.tag c.hold-kept.result after
    (record {
      settings = refl;
      front = refl;
      ended = refl;
      same = c.begin-answer.ensures.same;
      is_open = c.begin-answer.ensures.open;
      counts = c.begin-answer.ensures.counts;
      still = c.begin-answer.ensures.still;
    })
    c.args.replica within c.begin-answer.result c.faults_of-before.result.items c.faults_of-before.ensures c.begin_did-did.result c.act_made-made.result
    c.act_made-made.ensures.did c.act_made-made.ensures.tried c.note_begun.ensures c.begin-answer.ensures.others c.begin-answer.ensures.tight c.begin-answer.ensures.begun
    c.begin-answer.ensures.refused c.begin-answer.ensures.causes c.begin_did-did.ensures in
    record {
      stands_for =
          made_free g.D.Disk.Tells g.D.Disk.files g.P.Piece.Tells g.D.Disk.fault_count g.D.Disk.fuse_count c.args.tag c.seat.inside.turn c.hold-kept.new.seat
          (after_free c.hold-kept.new.seat (acts_in c.act_made-made.result))
          c.seat.inside.view c.show_all.new.seat c.hold-kept.result after c.act_made-made.result c.seat.invariant c.hold-kept.ensures c.show_all.ensures.seen.0 c.show_all.ensures.seen.1 found.0 refl;
      mine =
          made_mine g.D.Disk.Tells g.D.Disk.files g.P.Piece.Tells g.D.Disk.fault_count g.D.Disk.fuse_count c.args.tag c.seat.inside.turn c.hold-kept.new.seat
          (after_free c.hold-kept.new.seat (acts_in c.act_made-made.result))
          c.seat.inside.view c.show_all.new.seat c.hold-kept.result after c.act_made-made.result c.seat.invariant c.hold-kept.ensures c.show_all.ensures.seen.0
          c.show_all.ensures.seen.1 found.0 refl (ap (λ (s : Seated g.row.D.Denot g.row.P.Denot). s.number) c.seat.view_is ∙ c.requires.may.lane);
    }

pub invariant_of-seat : goal.invariant_of-seat
invariant_of-seat g c =
    let within = within_it g.D.Disk.Tells g.D.Disk.files g.P.Piece.Tells g.D.Disk.fault_count g.D.Disk.fuse_count c.seat.invariant c.hold-kept.ensures c.args.replica
    (c.requires.within c.seat.invariant.opened (sym (ap (λ (s : Seated g.row.D.Denot g.row.P.Denot). s.start) c.seat.view_is) ∙ c.seat.invariant.is)) in
    let after : Guarded g.row.D.Denot g.row.P.Denot = record c.hold-kept.result { logical = c.begin-answer.new.self; begun = c.note_begun.new.begun } in
    let found = begin_call g.D.Disk.Tells g.D.Disk.files g.P.Piece.Tells g.D.Disk.fault_count g.D.Disk.fuse_count c.args.tag c.hold-kept.result after
    (record {
      settings = refl;
      front = refl;
      ended = refl;
      same = c.begin-answer.ensures.same;
      is_open = c.begin-answer.ensures.open;
      counts = c.begin-answer.ensures.counts;
      still = c.begin-answer.ensures.still;
    })
    c.args.replica within c.begin-answer.result c.faults_of-before.result.items c.faults_of-before.ensures c.begin_did-did.result c.act_made-made.result
    c.act_made-made.ensures.did c.act_made-made.ensures.tried c.note_begun.ensures c.begin-answer.ensures.others c.begin-answer.ensures.tight c.begin-answer.ensures.begun
    c.begin-answer.ensures.refused c.begin-answer.ensures.causes c.begin_did-did.ensures in
    made_seated g.D.Disk.Tells g.D.Disk.files g.P.Piece.Tells g.D.Disk.fault_count g.D.Disk.fuse_count c.args.tag c.seat.inside.turn c.hold-kept.new.seat c.free.new.seat
    c.seat.inside.view c.show_all.new.seat c.hold-kept.result after c.act_made-made.result c.seat.invariant c.hold-kept.ensures c.show_all.ensures.seen.0 c.show_all.ensures.seen.1
    found.0 c.free.ensures (ap (λ (s : Seated g.row.D.Denot g.row.P.Denot). s.number) c.seat.view_is ∙ c.requires.may.lane)

pub returns-clause-begun : goal.returns-clause-begun
returns-clause-begun g c =
    let within = within_it g.D.Disk.Tells g.D.Disk.files g.P.Piece.Tells g.D.Disk.fault_count g.D.Disk.fuse_count c.seat.invariant c.hold-kept.ensures c.args.replica
    (c.requires.within c.seat.invariant.opened (sym (ap (λ (s : Seated g.row.D.Denot g.row.P.Denot). s.start) c.seat.view_is) ∙ c.seat.invariant.is)) in
    let after : Guarded g.row.D.Denot g.row.P.Denot = record c.hold-kept.result { logical = c.begin-answer.new.self; begun = c.note_begun.new.begun } in
    let found = begin_call g.D.Disk.Tells g.D.Disk.files g.P.Piece.Tells g.D.Disk.fault_count g.D.Disk.fuse_count c.args.tag c.hold-kept.result after
    (record {
      settings = refl;
      front = refl;
      ended = refl;
      same = c.begin-answer.ensures.same;
      is_open = c.begin-answer.ensures.open;
      counts = c.begin-answer.ensures.counts;
      still = c.begin-answer.ensures.still;
    })
    c.args.replica within c.begin-answer.result c.faults_of-before.result.items c.faults_of-before.ensures c.begin_did-did.result c.act_made-made.result
    c.act_made-made.ensures.did c.act_made-made.ensures.tried c.note_begun.ensures c.begin-answer.ensures.others c.begin-answer.ensures.tight c.begin-answer.ensures.begun
    c.begin-answer.ensures.refused c.begin-answer.ensures.causes c.begin_did-did.ensures in
    subst (λ (s : Seated g.row.D.Denot g.row.P.Denot). IsTold g.D.Disk.Tells g.D.Disk.files g.P.Piece.Tells g.D.Disk.fault_count g.D.Disk.fuse_count s.start
    (λ volume. BeginAnswer volume c.args.tag c.args.replica c.begin-answer.result s.sight (seat_of c.free.new.seat c.show_all.new.seat).sight)) c.seat.view_is
    (made_told g.D.Disk.Tells g.D.Disk.files g.P.Piece.Tells g.D.Disk.fault_count g.D.Disk.fuse_count c.args.tag c.seat.inside.turn c.hold-kept.new.seat c.free.new.seat
    c.seat.inside.view c.show_all.new.seat c.hold-kept.result after c.act_made-made.result c.seat.invariant c.hold-kept.ensures c.show_all.ensures.seen.0 c.show_all.ensures.seen.1
    found.0 c.free.ensures
    (λ volume. BeginAnswer volume c.args.tag c.args.replica c.begin-answer.result) found.1)

pub returns-clause-causes : goal.returns-clause-causes
returns-clause-causes g c = λ m f is.
    let within = within_it g.D.Disk.Tells g.D.Disk.files g.P.Piece.Tells g.D.Disk.fault_count g.D.Disk.fuse_count c.seat.invariant c.hold-kept.ensures c.args.replica
    (c.requires.within c.seat.invariant.opened (sym (ap (λ (s : Seated g.row.D.Denot g.row.P.Denot). s.start) c.seat.view_is) ∙ c.seat.invariant.is)) in
    let after : Guarded g.row.D.Denot g.row.P.Denot = record c.hold-kept.result { logical = c.begin-answer.new.self; begun = c.note_begun.new.begun } in
    let found = begin_call g.D.Disk.Tells g.D.Disk.files g.P.Piece.Tells g.D.Disk.fault_count g.D.Disk.fuse_count c.args.tag c.hold-kept.result after
    (record {
      settings = refl;
      front = refl;
      ended = refl;
      same = c.begin-answer.ensures.same;
      is_open = c.begin-answer.ensures.open;
      counts = c.begin-answer.ensures.counts;
      still = c.begin-answer.ensures.still;
    })
    c.args.replica within c.begin-answer.result c.faults_of-before.result.items c.faults_of-before.ensures c.begin_did-did.result c.act_made-made.result
    c.act_made-made.ensures.did c.act_made-made.ensures.tried c.note_begun.ensures c.begin-answer.ensures.others c.begin-answer.ensures.tight c.begin-answer.ensures.begun
    c.begin-answer.ensures.refused c.begin-answer.ensures.causes c.begin_did-did.ensures in
    subst (λ (s : Seated g.row.D.Denot g.row.P.Denot). IsAlways g.D.Disk.fault_count g.D.Disk.fuse_count s.start
    (λ volume. FailedLook volume c.args.tag c.args.replica m f s.sight (seat_of c.free.new.seat c.show_all.new.seat).sight)) c.seat.view_is
    (made_always g.D.Disk.Tells g.D.Disk.files g.P.Piece.Tells g.D.Disk.fault_count g.D.Disk.fuse_count c.args.tag c.seat.inside.turn c.hold-kept.new.seat c.free.new.seat
    c.seat.inside.view c.show_all.new.seat c.hold-kept.result after c.act_made-made.result c.seat.invariant c.hold-kept.ensures c.show_all.ensures.seen.0 c.show_all.ensures.seen.1
    found.0 c.free.ensures
    (λ volume. FailedLook volume c.args.tag c.args.replica m f) (found.2 m f is))

pub returns-clause-held : goal.returns-clause-held
returns-clause-held g c =
    let within = within_it g.D.Disk.Tells g.D.Disk.files g.P.Piece.Tells g.D.Disk.fault_count g.D.Disk.fuse_count c.seat.invariant c.hold-kept.ensures c.args.replica
    (c.requires.within c.seat.invariant.opened (sym (ap (λ (s : Seated g.row.D.Denot g.row.P.Denot). s.start) c.seat.view_is) ∙ c.seat.invariant.is)) in
    let after : Guarded g.row.D.Denot g.row.P.Denot = record c.hold-kept.result { logical = c.begin-answer.new.self; begun = c.note_begun.new.begun } in
    let found = begin_call g.D.Disk.Tells g.D.Disk.files g.P.Piece.Tells g.D.Disk.fault_count g.D.Disk.fuse_count c.args.tag c.hold-kept.result after
    (record {
      settings = refl;
      front = refl;
      ended = refl;
      same = c.begin-answer.ensures.same;
      is_open = c.begin-answer.ensures.open;
      counts = c.begin-answer.ensures.counts;
      still = c.begin-answer.ensures.still;
    })
    c.args.replica within c.begin-answer.result c.faults_of-before.result.items c.faults_of-before.ensures c.begin_did-did.result c.act_made-made.result
    c.act_made-made.ensures.did c.act_made-made.ensures.tried c.note_begun.ensures c.begin-answer.ensures.others c.begin-answer.ensures.tight c.begin-answer.ensures.begun
    c.begin-answer.ensures.refused c.begin-answer.ensures.causes c.begin_did-did.ensures in
    subst (λ (s : Seated g.row.D.Denot g.row.P.Denot). UnfusedHolding c.args.tag s.sight (seat_of c.free.new.seat c.show_all.new.seat).sight) c.seat.view_is
    (made_unfused g.D.Disk.Tells g.D.Disk.files g.P.Piece.Tells g.D.Disk.fault_count g.D.Disk.fuse_count c.args.tag c.seat.inside.turn c.hold-kept.new.seat c.free.new.seat
    c.seat.inside.view c.show_all.new.seat c.hold-kept.result after c.act_made-made.result c.seat.invariant c.hold-kept.ensures c.show_all.ensures.seen.0 c.show_all.ensures.seen.1
    found.0 c.free.ensures
    (made_unfused_by g.D.Disk.fault_count g.D.Disk.fuse_count c.args.tag _ _ c.begin_did-did.result c.act_made-made.result
    (subst (λ (o : Option Made). IfSome o IsNoFuse) (sym c.begin_did-did.ensures) (begin_unfused _ _)) c.act_made-made.ensures.did c.act_made-made.ensures.tried))

pub returns-clause-same : goal.returns-clause-same
returns-clause-same g c =
    let within = within_it g.D.Disk.Tells g.D.Disk.files g.P.Piece.Tells g.D.Disk.fault_count g.D.Disk.fuse_count c.seat.invariant c.hold-kept.ensures c.args.replica
    (c.requires.within c.seat.invariant.opened (sym (ap (λ (s : Seated g.row.D.Denot g.row.P.Denot). s.start) c.seat.view_is) ∙ c.seat.invariant.is)) in
    let after : Guarded g.row.D.Denot g.row.P.Denot = record c.hold-kept.result { logical = c.begin-answer.new.self; begun = c.note_begun.new.begun } in
    let found = begin_call g.D.Disk.Tells g.D.Disk.files g.P.Piece.Tells g.D.Disk.fault_count g.D.Disk.fuse_count c.args.tag c.hold-kept.result after
    (record {
      settings = refl;
      front = refl;
      ended = refl;
      same = c.begin-answer.ensures.same;
      is_open = c.begin-answer.ensures.open;
      counts = c.begin-answer.ensures.counts;
      still = c.begin-answer.ensures.still;
    })
    c.args.replica within c.begin-answer.result c.faults_of-before.result.items c.faults_of-before.ensures c.begin_did-did.result c.act_made-made.result
    c.act_made-made.ensures.did c.act_made-made.ensures.tried c.note_begun.ensures c.begin-answer.ensures.others c.begin-answer.ensures.tight c.begin-answer.ensures.begun
    c.begin-answer.ensures.refused c.begin-answer.ensures.causes c.begin_did-did.ensures in
    subst (λ (s : Seated g.row.D.Denot g.row.P.Denot). IsSameSeat s (seat_of c.free.new.seat c.show_all.new.seat)) c.seat.view_is
    (made_same g.D.Disk.Tells g.D.Disk.files g.P.Piece.Tells g.D.Disk.fault_count g.D.Disk.fuse_count c.args.tag c.seat.inside.turn c.hold-kept.new.seat c.free.new.seat
    c.seat.inside.view c.show_all.new.seat c.hold-kept.result after c.act_made-made.result c.seat.invariant c.hold-kept.ensures c.show_all.ensures.seen.0 c.show_all.ensures.seen.1
    found.0 c.free.ensures
    (ap (λ (s : Seated g.row.D.Denot g.row.P.Denot). s.holds) c.seat.view_is ∙ c.requires.may.rests.rests))

pub returns-clause-refusals : goal.returns-clause-refusals
returns-clause-refusals g c =
    subst (λ (s : Seated g.row.D.Denot g.row.P.Denot). OfOpened s.start (λ settings v. IfErr c.begin-answer.result (RefusesBegin settings v c.args.replica))) c.seat.view_is
    (of_opened g.D.Disk.Tells g.D.Disk.files g.P.Piece.Tells g.D.Disk.fault_count g.D.Disk.fuse_count c.seat.invariant c.hold-kept.ensures
    (λ settings v. IfErr c.begin-answer.result (RefusesBegin settings v c.args.replica))
    (err_refused (refuses_begin c.hold-kept.result.logical.settings c.hold-kept.result.logical.number g.D.Disk.fault_count c.hold-kept.result.logical.replicas
    c.begin-answer.new.self.replicas c.args.replica) c.begin-answer.result c.begin-answer.ensures.causes))
