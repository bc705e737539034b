use Rattle.std.proofs.Common.{sym, ap, ◌∙◌}
use Rattle.hay_directory.specs.State.{Stands, is_frozen}
use Rattle.hay_directory.proofs.SeenLaws.{pending_frozen}
use Rattle.hay_directory.proofs.Standing.{stands_frozen}
use Rattle.hay_directory.proofs.directory.Directory.is_frozen.Goals as goal

pub returns-in-Frozen-clause-known : goal.returns-in-Frozen-clause-known
unfolding Stands
returns-in-Frozen-clause-known g c = rw (← c.self.view_is) (λ known drained s. ap is_frozen (sym c.in-Frozen.is) ∙ stands_frozen g.D.Disk.files _ known drained s)

pub returns-in-Closed-clause-known : goal.returns-in-Closed-clause-known
unfolding Stands
returns-in-Closed-clause-known g c = rw (← c.self.view_is) (λ known drained s. ap is_frozen (sym c.in-Closed.is) ∙ stands_frozen g.D.Disk.files _ known drained s)

pub returns-in-Open-clause-known : goal.returns-in-Open-clause-known
unfolding Stands
returns-in-Open-clause-known g c = rw (← c.self.view_is) (λ known drained s. ap is_frozen (sym c.in-Open.is) ∙ stands_frozen g.D.Disk.files _ known drained s)

pub returns-in-Frozen-clause-pending : goal.returns-in-Frozen-clause-pending
returns-in-Frozen-clause-pending g c = rw (← c.self.view_is) (λ up. ap is_frozen (sym c.in-Frozen.is) ∙ pending_frozen c.self.inside.mode up)

pub returns-in-Closed-clause-pending : goal.returns-in-Closed-clause-pending
returns-in-Closed-clause-pending g c = rw (← c.self.view_is) (λ up. ap is_frozen (sym c.in-Closed.is) ∙ pending_frozen c.self.inside.mode up)

pub returns-in-Open-clause-pending : goal.returns-in-Open-clause-pending
returns-in-Open-clause-pending g c = rw (← c.self.view_is) (λ up. ap is_frozen (sym c.in-Open.is) ∙ pending_frozen c.self.inside.mode up)
