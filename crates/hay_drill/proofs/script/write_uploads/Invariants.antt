use Rattle.std.proofs.Common.{◌≡◌, ◌++◌, string_bytes, flat_map}
use Rattle.hay_drill.specs.Script.{alts, put_line}
use Rattle.hay_drill.proofs.Texts.{texts_from}
use Rattle.hay_drill.proofs.script.write_uploads.Given as goal

abbrev pub invariant-loop-alt : goal.invariant-loop-alt
invariant-loop-alt l =
    string_bytes l.out ++ texts_from (λ alt. put_line l.key alt l.byte) l.alt 5 ≡ string_bytes l.initial.out ++ flat_map (λ alt. put_line l.key alt l.byte) alts
