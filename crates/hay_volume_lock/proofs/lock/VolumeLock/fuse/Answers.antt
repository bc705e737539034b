use Rattle.std.proofs.Common.{ℕ, ◌<◌, Some, refl, sym, ap, subst, ◌∙◌}
use Rattle.hay_holdings.specs.Volumes.{Fused}
use Rattle.hay_turn.specs.Seats.{after_free}
use Rattle.hay_turn.specs.Slots.{acts_in}
use Rattle.hay_volume_lock.specs.Answers.{IsAlways, OneHolding}
use Rattle.hay_volume_lock.specs.Seats.{IsSameSeat, Seated}
use Rattle.hay_volume_lock.specs.declared.guarded.Guarded.{Guarded}
use Rattle.hay_volume_lock.proofs.Finding.{fuse_goes}
use Rattle.hay_volume_lock.proofs.Holding.{is_held, made_always, made_free, made_held, made_mine, made_same, made_seated, seat_of, within_it}
use Rattle.hay_volume_lock.proofs.lock.VolumeLock.fuse.Goals as goal

pub show_all-requires : goal.show_all-requires
show_all-requires g c = c.seat.invariant.front ∙ sym (is_held g.D.Disk.Tells g.D.Disk.files g.P.Piece.Tells g.D.Disk.fault_count g.D.Disk.fuse_count c.seat.invariant c.hold-kept.ensures).front

pub fuse-requires : goal.fuse-requires
fuse-requires g c =
    let within = within_it g.D.Disk.Tells g.D.Disk.files g.P.Piece.Tells g.D.Disk.fault_count g.D.Disk.fuse_count c.seat.invariant c.hold-kept.ensures c.args.replica
    (c.requires.within c.seat.invariant.opened (sym (ap (λ (s : Seated g.row.D.Denot g.row.P.Denot). s.start) c.seat.view_is) ∙ c.seat.invariant.is)) in
    subst (λ (n : ℕ). c.args.replica < n) (sym ((is_held g.D.Disk.Tells g.D.Disk.files g.P.Piece.Tells g.D.Disk.fault_count g.D.Disk.fuse_count c.seat.invariant
    c.hold-kept.ensures).is_open).all) within

pub free-requires-clause-may : goal.free-requires-clause-may
free-requires-clause-may g c =
    let is_open = (is_held g.D.Disk.Tells g.D.Disk.files g.P.Piece.Tells g.D.Disk.fault_count g.D.Disk.fuse_count c.seat.invariant c.hold-kept.ensures).is_open in
    let within = within_it g.D.Disk.Tells g.D.Disk.files g.P.Piece.Tells g.D.Disk.fault_count g.D.Disk.fuse_count c.seat.invariant c.hold-kept.ensures c.args.replica
    (c.requires.within c.seat.invariant.opened (sym (ap (λ (s : Seated g.row.D.Denot g.row.P.Denot). s.start) c.seat.view_is) ∙ c.seat.invariant.is)) in
    let after : Guarded g.row.D.Denot g.row.P.Denot = record c.hold-kept.result { logical = c.fuse.new.self } in
    let found =
    fuse_goes g.D.Disk.Tells g.D.Disk.files g.P.Piece.Tells g.D.Disk.fault_count g.D.Disk.fuse_count c.args.tag c.hold-kept.result after is_open (c.fuse.ensures.open is_open)
    c.fuse.ensures.same c.fuse.ensures.count
    c.fuse.ensures.still refl refl refl refl c.args.replica within c.fuse.ensures.fused c.fuse.ensures.others c.fuse.ensures.stands (λ tells thawed. c.fuse.ensures.tight tells)
    c.new-act.result c.new-act.ensures in
    record {
      stands_for =
          made_free g.D.Disk.Tells g.D.Disk.files g.P.Piece.Tells g.D.Disk.fault_count g.D.Disk.fuse_count c.args.tag c.seat.inside.turn c.hold-kept.new.seat
          (after_free c.hold-kept.new.seat (acts_in (Some c.new-act.result)))
          c.seat.inside.view c.show_all.new.seat c.hold-kept.result after (Some c.new-act.result) c.seat.invariant c.hold-kept.ensures c.show_all.ensures.seen.0 c.show_all.ensures.seen.1 found.0 refl;
      mine =
          made_mine g.D.Disk.Tells g.D.Disk.files g.P.Piece.Tells g.D.Disk.fault_count g.D.Disk.fuse_count c.args.tag c.seat.inside.turn c.hold-kept.new.seat
          (after_free c.hold-kept.new.seat (acts_in (Some c.new-act.result)))
          c.seat.inside.view c.show_all.new.seat c.hold-kept.result after (Some c.new-act.result) c.seat.invariant c.hold-kept.ensures c.show_all.ensures.seen.0
          c.show_all.ensures.seen.1 found.0 refl (ap (λ (s : Seated g.row.D.Denot g.row.P.Denot). s.number) c.seat.view_is ∙ c.requires.may.lane);
    }

pub invariant_of-seat : goal.invariant_of-seat
invariant_of-seat g c =
    let is_open = (is_held g.D.Disk.Tells g.D.Disk.files g.P.Piece.Tells g.D.Disk.fault_count g.D.Disk.fuse_count c.seat.invariant c.hold-kept.ensures).is_open in
    let within = within_it g.D.Disk.Tells g.D.Disk.files g.P.Piece.Tells g.D.Disk.fault_count g.D.Disk.fuse_count c.seat.invariant c.hold-kept.ensures c.args.replica
    (c.requires.within c.seat.invariant.opened (sym (ap (λ (s : Seated g.row.D.Denot g.row.P.Denot). s.start) c.seat.view_is) ∙ c.seat.invariant.is)) in
    let after : Guarded g.row.D.Denot g.row.P.Denot = record c.hold-kept.result { logical = c.fuse.new.self } in
    let found =
    fuse_goes g.D.Disk.Tells g.D.Disk.files g.P.Piece.Tells g.D.Disk.fault_count g.D.Disk.fuse_count c.args.tag c.hold-kept.result after is_open (c.fuse.ensures.open is_open)
    c.fuse.ensures.same c.fuse.ensures.count
    c.fuse.ensures.still refl refl refl refl c.args.replica within c.fuse.ensures.fused c.fuse.ensures.others c.fuse.ensures.stands (λ tells thawed. c.fuse.ensures.tight tells)
    c.new-act.result c.new-act.ensures in
    made_seated g.D.Disk.Tells g.D.Disk.files g.P.Piece.Tells g.D.Disk.fault_count g.D.Disk.fuse_count c.args.tag c.seat.inside.turn c.hold-kept.new.seat c.free.new.seat
    c.seat.inside.view c.show_all.new.seat c.hold-kept.result after (Some c.new-act.result) c.seat.invariant c.hold-kept.ensures c.show_all.ensures.seen.0 c.show_all.ensures.seen.1
    found.0 c.free.ensures (ap (λ (s : Seated g.row.D.Denot g.row.P.Denot). s.number) c.seat.view_is ∙ c.requires.may.lane)

pub returns-clause-fused : goal.returns-clause-fused
returns-clause-fused g c =
    let is_open = (is_held g.D.Disk.Tells g.D.Disk.files g.P.Piece.Tells g.D.Disk.fault_count g.D.Disk.fuse_count c.seat.invariant c.hold-kept.ensures).is_open in
    let within = within_it g.D.Disk.Tells g.D.Disk.files g.P.Piece.Tells g.D.Disk.fault_count g.D.Disk.fuse_count c.seat.invariant c.hold-kept.ensures c.args.replica
    (c.requires.within c.seat.invariant.opened (sym (ap (λ (s : Seated g.row.D.Denot g.row.P.Denot). s.start) c.seat.view_is) ∙ c.seat.invariant.is)) in
    let after : Guarded g.row.D.Denot g.row.P.Denot = record c.hold-kept.result { logical = c.fuse.new.self } in
    let found =
    fuse_goes g.D.Disk.Tells g.D.Disk.files g.P.Piece.Tells g.D.Disk.fault_count g.D.Disk.fuse_count c.args.tag c.hold-kept.result after is_open (c.fuse.ensures.open is_open)
    c.fuse.ensures.same c.fuse.ensures.count
    c.fuse.ensures.still refl refl refl refl c.args.replica within c.fuse.ensures.fused c.fuse.ensures.others c.fuse.ensures.stands (λ tells thawed. c.fuse.ensures.tight tells)
    c.new-act.result c.new-act.ensures in
    subst (λ (s : Seated g.row.D.Denot g.row.P.Denot). IsAlways g.D.Disk.fault_count g.D.Disk.fuse_count s.start
    (λ volume. Fused volume.settings volume.start volume.number c.args.tag c.args.replica s.sight (seat_of c.free.new.seat c.show_all.new.seat).sight)) c.seat.view_is
    (made_always g.D.Disk.Tells g.D.Disk.files g.P.Piece.Tells g.D.Disk.fault_count g.D.Disk.fuse_count c.args.tag c.seat.inside.turn c.hold-kept.new.seat c.free.new.seat
    c.seat.inside.view c.show_all.new.seat c.hold-kept.result after (Some c.new-act.result) c.seat.invariant c.hold-kept.ensures c.show_all.ensures.seen.0 c.show_all.ensures.seen.1
    found.0 c.free.ensures
    (λ volume. Fused volume.settings volume.start volume.number c.args.tag c.args.replica) found.1)

pub returns-clause-held : goal.returns-clause-held
returns-clause-held g c =
    let is_open = (is_held g.D.Disk.Tells g.D.Disk.files g.P.Piece.Tells g.D.Disk.fault_count g.D.Disk.fuse_count c.seat.invariant c.hold-kept.ensures).is_open in
    let within = within_it g.D.Disk.Tells g.D.Disk.files g.P.Piece.Tells g.D.Disk.fault_count g.D.Disk.fuse_count c.seat.invariant c.hold-kept.ensures c.args.replica
    (c.requires.within c.seat.invariant.opened (sym (ap (λ (s : Seated g.row.D.Denot g.row.P.Denot). s.start) c.seat.view_is) ∙ c.seat.invariant.is)) in
    let after : Guarded g.row.D.Denot g.row.P.Denot = record c.hold-kept.result { logical = c.fuse.new.self } in
    let found =
    fuse_goes g.D.Disk.Tells g.D.Disk.files g.P.Piece.Tells g.D.Disk.fault_count g.D.Disk.fuse_count c.args.tag c.hold-kept.result after is_open (c.fuse.ensures.open is_open)
    c.fuse.ensures.same c.fuse.ensures.count
    c.fuse.ensures.still refl refl refl refl c.args.replica within c.fuse.ensures.fused c.fuse.ensures.others c.fuse.ensures.stands (λ tells thawed. c.fuse.ensures.tight tells)
    c.new-act.result c.new-act.ensures in
    subst (λ (s : Seated g.row.D.Denot g.row.P.Denot). OneHolding c.args.tag s.sight (seat_of c.free.new.seat c.show_all.new.seat).sight) c.seat.view_is
    (made_held g.D.Disk.Tells g.D.Disk.files g.P.Piece.Tells g.D.Disk.fault_count g.D.Disk.fuse_count c.args.tag c.seat.inside.turn c.hold-kept.new.seat c.free.new.seat
    c.seat.inside.view c.show_all.new.seat c.hold-kept.result after (Some c.new-act.result) c.seat.invariant c.hold-kept.ensures c.show_all.ensures.seen.0 c.show_all.ensures.seen.1
    found.0 c.free.ensures)

pub returns-clause-same : goal.returns-clause-same
returns-clause-same g c =
    let is_open = (is_held g.D.Disk.Tells g.D.Disk.files g.P.Piece.Tells g.D.Disk.fault_count g.D.Disk.fuse_count c.seat.invariant c.hold-kept.ensures).is_open in
    let within = within_it g.D.Disk.Tells g.D.Disk.files g.P.Piece.Tells g.D.Disk.fault_count g.D.Disk.fuse_count c.seat.invariant c.hold-kept.ensures c.args.replica
    (c.requires.within c.seat.invariant.opened (sym (ap (λ (s : Seated g.row.D.Denot g.row.P.Denot). s.start) c.seat.view_is) ∙ c.seat.invariant.is)) in
    let after : Guarded g.row.D.Denot g.row.P.Denot = record c.hold-kept.result { logical = c.fuse.new.self } in
    let found =
    fuse_goes g.D.Disk.Tells g.D.Disk.files g.P.Piece.Tells g.D.Disk.fault_count g.D.Disk.fuse_count c.args.tag c.hold-kept.result after is_open (c.fuse.ensures.open is_open)
    c.fuse.ensures.same c.fuse.ensures.count
    c.fuse.ensures.still refl refl refl refl c.args.replica within c.fuse.ensures.fused c.fuse.ensures.others c.fuse.ensures.stands (λ tells thawed. c.fuse.ensures.tight tells)
    c.new-act.result c.new-act.ensures in
    subst (λ (s : Seated g.row.D.Denot g.row.P.Denot). IsSameSeat s (seat_of c.free.new.seat c.show_all.new.seat)) c.seat.view_is
    (made_same g.D.Disk.Tells g.D.Disk.files g.P.Piece.Tells g.D.Disk.fault_count g.D.Disk.fuse_count c.args.tag c.seat.inside.turn c.hold-kept.new.seat c.free.new.seat
    c.seat.inside.view c.show_all.new.seat c.hold-kept.result after (Some c.new-act.result) c.seat.invariant c.hold-kept.ensures c.show_all.ensures.seen.0 c.show_all.ensures.seen.1
    found.0 c.free.ensures
    (ap (λ (s : Seated g.row.D.Denot g.row.P.Denot). s.holds) c.seat.view_is ∙ c.requires.may.rests.rests))
