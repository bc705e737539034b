use Rattle.std.proofs.Common.{◌≡◌, ◌++◌, drop}
use Rattle.std.specs.Prelude.{map}
use Rattle.hay_audit_steps.specs.BoxPlain as box_plain
use Rattle.hay_audit.proofs.boxes.no_slacks.Given as goal

abbrev pub invariant-loop-volume : goal.invariant-loop-volume
invariant-loop-volume l = l.ranges ++ map box_plain.no_slacks (drop l.volume-index l.volumes) ≡ map box_plain.no_slacks l.volumes
