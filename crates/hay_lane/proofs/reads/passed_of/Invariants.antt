use Rattle.std.proofs.Common.{◌≡◌, map, take}
use Rattle.std.specs.List.{AllByRecursion}
use Rattle.hay_reply.specs.Fits.{FitsPassed}
use Rattle.hay_lane.specs.Reads.{passed_at}
use Rattle.hay_lane.proofs.reads.passed_of.Given as goal

abbrev pub invariant-loop-over : goal.invariant-loop-over
invariant-loop-over l = record {
  is : l.passed ≡ map (passed_at l.settings l.volume) (take l.over-index l.causes);
  fits : AllByRecursion FitsPassed l.passed;
}
