use Rattle.std.proofs.Common.{◌≡◌, ◌++◌, drop}
use Rattle.std.specs.Prelude.{if◌then◌else◌}
use Rattle.hay_core.specs.Transitions.{with_reader}
use Rattle.hay_core.proofs.readers.with_reader.Given as goal

abbrev pub invariant-loop-other : goal.invariant-loop-other
invariant-loop-other l = l.next ++ (if l.found then drop l.other-index l.readers else with_reader l.reader (drop l.other-index l.readers)) ≡ with_reader l.reader l.readers
