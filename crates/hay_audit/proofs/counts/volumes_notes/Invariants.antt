use Rattle.std.proofs.Common.{◌≡◌, ◌≤◌, ◌+◌, ◌*◌, drop}
use Rattle.std.specs.Prelude.{◌^◌}
use Rattle.hay_audit_steps.specs.Reached as reached
use Rattle.hay_audit.proofs.counts.volumes_notes.Given as goal

abbrev pub invariant-loop-volume : goal.invariant-loop-volume
invariant-loop-volume l = record {
  value : l.count + reached.volumes_note_count (drop l.volume-index l.volumes) ≡ reached.volumes_note_count l.volumes;
  small : l.count ≤ l.volume-index * 2 ^ 64;
}
