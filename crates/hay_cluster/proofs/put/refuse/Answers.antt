use Rattle.std.proofs.Common.{List, sym, subst, ◌∙◌}
use Rattle.std.specs.List.{AllByRecursion}
use Rattle.hay_reply.specs.declared.Refused.{Refused}
use Rattle.hay_reply.specs.Fits.{FitsRefused}
use Rattle.hay_cluster.proofs.Fitting.{closed_fit}
use Rattle.hay_cluster.proofs.put.refuse.Goals as goal

pub returns-in-Ok-clause-fits : goal.returns-in-Ok-clause-fits
returns-in-Ok-clause-fits c = closed_fit c.in-Ok.tries (subst (λ (rs : List Refused). AllByRecursion FitsRefused rs) (sym (c.in-Ok.ensures ∙ c.as_slice-2.ensures)) c.requires.fits)
