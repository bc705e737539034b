use Rattle.std.proofs.Common.{◌≡◌, map, take}
use Rattle.std.specs.List.{AllByRecursion}
use Rattle.hay_legal.specs.Plain.{as_closed}
use Rattle.hay_reply.specs.Fits.{FitsClosed}
use Rattle.hay_lane.proofs.put.closed_of.Given as goal

abbrev pub invariant-loop-refusal : goal.invariant-loop-refusal
invariant-loop-refusal l = record {
  is : map as_closed l.closed ≡ take l.refusal-index l.refused;
  fits : AllByRecursion FitsClosed l.closed;
}
