use Rattle.std.proofs.Common.{◌≡◌, ◌≤◌, [], length, vec_capacity}
use Rattle.hay_turn.specs.Ruled.{fresh}
use Rattle.hay_turn.specs.Seats.{AreNew}
use Rattle.hay_turn.proofs.turn.Turn.make_seats.Given as goal

abbrev pub invariant-loop-i : goal.invariant-loop-i
invariant-loop-i g l =
    (l.maker.table_id ≡ l.initial.maker.table_id) × (l.maker.me ≡ (fresh l.initial.maker.me.0.origin l.initial.maker.me.0.start l.seats l.i, []))
    × (length l.made_seats.items ≡ l.i) × (l.seats ≤ vec_capacity l.made_seats) × AreNew l.initial.maker.table_id l.initial.maker.me.0.start l.seats l.made_seats.items
