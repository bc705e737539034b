use Rattle.std.proofs.Common.{drop}
use Rattle.std.specs.List.{AllByRecursion as Each}
use Rattle.hay_reply.specs.Fits.{FitsClosed}
use Rattle.hay_audit.proofs.fits.fit_all_closed.Given as goal

abbrev pub invariant-loop-by : goal.invariant-loop-by
invariant-loop-by l = Each FitsClosed (drop l.by-index l.tries) → Each FitsClosed l.tries
