use Rattle.std.proofs.Common.{inr, sym, ◌∙◌}
use Rattle.hay_logical.proofs.Putting.{never_err, ok_of}
use Rattle.hay_logical.proofs.logical.give_row.Goals as goal

pub unreachable-unreachable : goal.unreachable-unreachable
unreachable-unreachable g c = never_err c.put.result (c.put.ensures.memory (inr c.requires.room)) (sym c.is_err.ensures.value ∙ c.if-is_err.true)

pub returns : goal.returns
returns g c = ok_of c.put.result _ c.put.ensures.ok (sym c.is_err.ensures.value ∙ c.if-is_err.false)
