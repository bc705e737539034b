use Rattle.std.proofs.Common.{◌≡◌, ◌++◌, string_bytes}
use Rattle.hay_drill.specs.Script.{volume_lines, each_replica}
use Rattle.hay_drill.proofs.Texts.{texts_from}
use Rattle.hay_drill.proofs.script.write_replicas.Given as goal

abbrev pub invariant-loop-volume : goal.invariant-loop-volume
invariant-loop-volume l = string_bytes l.out ++ texts_from (volume_lines l.verb) l.volume 8 ≡ string_bytes l.initial.out ++ each_replica l.verb
