use Rattle.std.proofs.Common.{◌≡◌, take}
use Rattle.std.specs.List.{list_all}
use Rattle.hay_script.specs.Script as grammar
use Rattle.hay_script.proofs.words.are_written.Given as goal

abbrev pub invariant-loop-byte : goal.invariant-loop-byte
invariant-loop-byte l = l.all ≡ list_all grammar.is_written (take l.byte-index l.line)
