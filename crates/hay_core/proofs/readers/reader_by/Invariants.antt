use Rattle.std.proofs.Common.{◌≡◌, drop}
use Rattle.hay_core.specs.Transitions.{reader_by}
use Rattle.hay_core.proofs.readers.reader_by.Given as goal

abbrev pub invariant-loop-reader : goal.invariant-loop-reader
invariant-loop-reader l = reader_by l.number l.readers ≡ reader_by l.number (drop l.reader-index l.readers)
