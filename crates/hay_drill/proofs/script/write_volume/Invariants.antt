use Rattle.std.proofs.Common.{◌≡◌, ◌++◌, string_bytes}
use Rattle.hay_drill.specs.Script.{replica_line, volume_lines}
use Rattle.hay_drill.proofs.Texts.{texts_from}
use Rattle.hay_drill.proofs.script.write_volume.Given as goal

abbrev pub invariant-loop-replica : goal.invariant-loop-replica
invariant-loop-replica l =
    string_bytes l.out ++ texts_from (replica_line l.verb l.volume) l.replica 2 ≡ string_bytes l.initial.out ++ volume_lines l.verb l.volume
