use Rattle.std.proofs.Common.{◌≡◌, ◌-◌, find}
use Rattle.std.specs.Prelude.{map, is_none}
use Rattle.std.specs.List.{range_with_len}
use Rattle.hay_legal.specs.Known as known
use Rattle.hay_audit_steps.specs.Rooms as rooms
use Rattle.hay_audit.proofs.closed.first_taker.Given as goal

abbrev pub invariant-loop-turn : goal.invariant-loop-turn
invariant-loop-turn l =
    find (λ v. is_none (known.refusal_of l.settings (rooms.lowest l.state) l.size v)) (known.all_tries l.settings l.pair)
    ≡ find (λ v. is_none (known.refusal_of l.settings (rooms.lowest l.state) l.size v)) (map (known.try_at l.settings l.pair) (range_with_len l.turn (l.settings.volumes - l.turn)))
