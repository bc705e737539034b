use Rattle.std.proofs.Common.{drop}
use Rattle.std.specs.List.{AllByRecursion as Each}
use Rattle.hay_reply.specs.Fits.{FitsPassed}
use Rattle.hay_audit.proofs.fits.fit_all_passed.Given as goal

abbrev pub invariant-loop-passed : goal.invariant-loop-passed
invariant-loop-passed l = Each FitsPassed (drop l.passed-index l.causes) → Each FitsPassed l.causes
