use Rattle.std.proofs.Common.{sym, ◌∙◌}
use Rattle.hay_volume_lock.proofs.Ending.{idle_frozen}
use Rattle.hay_volume_lock.proofs.compacts.lost.Goals as goal

pub returns-in-Some-clause-lost : goal.returns-in-Some-clause-lost
returns-in-Some-clause-lost g c = λ tells k s. (
  sym (c.frozen.ensures.known tells k s) ∙ c.in-Some.is,
  λ own. idle_frozen g.D.Disk.files g.D.Piece.Piece.Tells c.args.logical.now k s c.in-Some.machine (sym c.frozen.ensures.is ∙ c.in-Some.is) c.args.replica c.requires.within,
)
