use Rattle.std.proofs.Common.{◌≡◌, drop}
use Rattle.hay_audit_steps.specs.BoxReopen as box_reopen
use Rattle.hay_audit_steps.specs.Parts as parts
use Rattle.hay_audit.proofs.Choosing.{chosen}
use Rattle.hay_audit.proofs.parts.reopened_choices.Given as goal

abbrev pub invariant-loop-j : goal.invariant-loop-j
invariant-loop-j l =
    chosen l.made (parts.reopened_choices l.volume l.kept l.j (box_reopen.parts_of (drop l.j (l.volume).replicas) (drop l.j l.lows) (drop l.j l.highs)))
    ≡ parts.reopened_choices l.volume l.kept 0 (box_reopen.parts_of (l.volume).replicas l.lows l.highs)
