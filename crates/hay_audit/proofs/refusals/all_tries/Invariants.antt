use Rattle.std.proofs.Common.{◌≡◌, ◌-◌, ◌++◌}
use Rattle.std.specs.Prelude.{map}
use Rattle.std.specs.List.{range_with_len}
use Rattle.hay_legal.specs.Known as known
use Rattle.hay_audit.proofs.refusals.all_tries.Given as goal

abbrev pub invariant-loop-turn : goal.invariant-loop-turn
invariant-loop-turn l = l.tries ++ map (known.try_at l.settings l.pair) (range_with_len l.turn (l.settings.volumes - l.turn)) ≡ known.all_tries l.settings l.pair
