use Rattle.std.proofs.Common.{◌≡◌, ◌++◌, string_bytes, flat_map}
use Rattle.hay_drill.specs.Script.{alts, read_line}
use Rattle.hay_drill.proofs.Texts.{texts_from}
use Rattle.hay_drill.proofs.script.write_reads.Given as goal

abbrev pub invariant-loop-alt : goal.invariant-loop-alt
invariant-loop-alt l =
    string_bytes l.out ++ texts_from (read_line l.lane l.key) l.alt 5 ≡ string_bytes l.initial.out ++ flat_map (read_line l.lane l.key) alts
