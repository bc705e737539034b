use Rattle.std.proofs.Common.{drop}
use Rattle.std.specs.List.{AllByRecursion as Each}
use Rattle.hay_reply.specs.Fits.{FitsRefused}
use Rattle.hay_audit.proofs.fits.fit_all_refused.Given as goal

abbrev pub invariant-loop-refused : goal.invariant-loop-refused
invariant-loop-refused l = Each FitsRefused (drop l.refused-index l.tries) → Each FitsRefused l.tries
