use Rattle.hay_map.proofs.RowLaws.{row_none, kept_none}
use Rattle.hay_map.proofs.view.MapView.new.Goals as goal

pub returns-clause-rows : goal.returns-clause-rows
returns-clause-rows g c = row_none _ c.new.ensures.empty

pub invariant_of-result : goal.invariant_of-result
invariant_of-result g c = kept_none _ c.requires.some c.requires.most c.none.ensures c.new.ensures.empty c.new-2.ensures.items
