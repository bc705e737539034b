use Rattle.std.proofs.Common.{take}
use Rattle.hay_url.proofs.Decimals.{Reading}
use Rattle.hay_url.proofs.read.read_number.Given as goal

abbrev pub invariant-loop-at : goal.invariant-loop-at
invariant-loop-at l = Reading (take l.at l.text) l.number
