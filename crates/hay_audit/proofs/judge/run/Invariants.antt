use Rattle.std.proofs.Common.{◌+◌, ◌-◌, ◌<◌, ◌≤◌, drop, length}
use Rattle.hay_audit.specs.Behind.{IsBehind}
use Rattle.hay_audit.specs.Candidates.{AreKept, all_standing, standing}
use Rattle.hay_audit.specs.Wants.{AreWanting}
use Rattle.hay_audit.proofs.judge.run.Given as goal

abbrev pub invariant-loop-at : goal.invariant-loop-at
invariant-loop-at l =
    IsBehind l.settings l.script l.transcript (standing l.transcript l.fn.first) (all_standing l.transcript l.candidates) l.number l.turns (drop l.at l.script)
    × AreKept l.settings l.transcript l.candidates × (l.at ≤ length l.script) × (l.number ≤ l.at + 1) × (l.turns < l.number)

abbrev pub decreases-loop-at : goal.decreases-loop-at
decreases-loop-at l = length l.script - l.at
