use Rattle.std.proofs.Common.{◌≡◌, sym, subst, ◌∙◌, List, ap, arith}
use Rattle.std.specs.List.{AllByRecursion as Each}
use Rattle.std.specs.Vec.Iter.{into_iter_items}
use Rattle.std.proofs.lemmas.Grind.{common_steps}
use Rattle.hay_turn.specs.Seats.{TurnId}
use Rattle.hay_volume_lock.specs.Opening.{AreSeated}
use Rattle.hay_volume_lock.specs.Seats.{Seated}
use Rattle.hay_volume_lock.proofs.Opening.{AreViews, View, Viewing, all_seats, all_turned, closes, kept_front, turn_of, viewing_ends, viewing_next}
use Rattle.hay_volume_lock.proofs.lock.VolumeLock.close.Goals as goal

pub loop-seat-preserved : goal.loop-seat-preserved
loop-seat-preserved g c = record {
  turns = grind (arith, common_steps);
  viewing = subst (λ (l : List (View g.row.D.Denot g.row.P.Denot)). Viewing l (into_iter_items c.next.new.self) c.args.seats.items) (sym c.push_reserved-in-loop-seat.ensures.items)
      (viewing_next c.loop-seat.views.items (into_iter_items c.next.new.self) c.args.seats.items c.seat.inside.view c.in-Some.seat
      (subst (λ (l : List (Seated g.row.D.Denot g.row.P.Denot)). Viewing c.loop-seat.views.items l c.args.seats.items) c.in-Some.ensures.steps.0 c.loop-seat.invariant.viewing)
      (record {
        turn = c.seat.inside.turn;
        stood = c.seat.inside.stood;
        seated = c.seat.invariant;
        start = ap (λ (s : Seated g.row.D.Denot g.row.P.Denot). s.start) c.seat.view_is;
        shown = ap (λ (s : Seated g.row.D.Denot g.row.P.Denot). (s.sight).shown) c.seat.view_is;
      }));
  turn_room = grind (arith, common_steps);
  view_room = grind (arith, common_steps);
}

pub close-logical-requires : goal.close-logical-requires
close-logical-requires g c =
    all_seats (subst (λ (l : TurnId). AreSeated l c.requires.seats.0 c.args.seats.items) (sym c.self.view_is) c.requires.seats.1)
    (all_turned turn_of c.loop-seat.turns.items (into_iter_items c.loop-seat.seat-iterator) c.args.seats.items c.loop-seat.invariant.turns
    (sym c.loop-seat.seat-iterator.rest.ok.0 ∙ c.in-None.ensures.steps.0))

pub show_each-requires : goal.show_each-requires
show_each-requires g c =
    subst (λ (l : List (View g.row.D.Denot g.row.P.Denot)). Each (λ v. v.front ≡ c.close-logical.result.front.shown.front) l) (sym c.as_mut_slice.ensures.value)
    (kept_front (subst (λ (l : TurnId). AreSeated l c.requires.seats.0 c.args.seats.items) (sym c.self.view_is) c.requires.seats.1)
    (all_turned turn_of c.loop-seat.turns.items (into_iter_items c.loop-seat.seat-iterator) c.args.seats.items c.loop-seat.invariant.turns
    (sym c.loop-seat.seat-iterator.rest.ok.0 ∙ c.in-None.ensures.steps.0))
    g.D.Disk.Tells g.D.Disk.files g.P.Piece.Tells g.D.Disk.fault_count g.D.Disk.fuse_count c.close-logical.result c.close-logical.ensures
    c.loop-seat.views.items
    (viewing_ends c.loop-seat.views.items (into_iter_items c.loop-seat.seat-iterator) c.args.seats.items c.loop-seat.invariant.viewing
    (sym c.loop-seat.seat-iterator.rest.ok.0 ∙ c.in-None.ensures.steps.0)))

pub returns : goal.returns
returns g c = λ opened are.
    closes (subst (λ (l : TurnId). AreSeated l opened c.args.seats.items) (sym c.self.view_is) are)
    (all_turned turn_of c.loop-seat.turns.items (into_iter_items c.loop-seat.seat-iterator) c.args.seats.items c.loop-seat.invariant.turns
    (sym c.loop-seat.seat-iterator.rest.ok.0 ∙ c.in-None.ensures.steps.0))
    g.D.Disk.Tells g.D.Disk.files g.P.Piece.Tells g.D.Disk.fault_count g.D.Disk.fuse_count c.close-logical.result c.close-tags.result.items c.close-logical.ensures c.close-tags.ensures.tags
    c.as_mut_slice.result.now
    (subst (λ (l : List (View g.row.D.Denot g.row.P.Denot)). AreViews l c.args.seats.items) (sym c.as_mut_slice.ensures.value)
    (viewing_ends c.loop-seat.views.items (into_iter_items c.loop-seat.seat-iterator) c.args.seats.items c.loop-seat.invariant.viewing
    (sym c.loop-seat.seat-iterator.rest.ok.0 ∙ c.in-None.ensures.steps.0)))
    c.show_each.ensures
