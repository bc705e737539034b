use Rattle.std.proofs.Common.{◌≡◌, ◌++◌, drop}
use Rattle.std.specs.Prelude.{map}
use Rattle.hay_audit_steps.specs.Next as next
use Rattle.hay_audit.proofs.del.all_deleted.Given as goal

abbrev pub invariant-loop-ended : goal.invariant-loop-ended
invariant-loop-ended l =
    l.states ++ map (next.deleted l.settings l.state l.tag l.pair l.volume) (drop l.ended-index l.choices)
    ≡ map (next.deleted l.settings l.state l.tag l.pair l.volume) l.choices
