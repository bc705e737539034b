use Rattle.std.proofs.Common.{rules, sym, ◌∙◌}
use Rattle.hay_map.proofs.Moving.{moves_nothing, moves_set, stood_known}
use Rattle.hay_map.proofs.view.MapView.move_place.Goals as goal

pub set_place-requires : goal.set_place-requires
set_place-requires g c =
    record { known = stood_known c.args.self.now c.args.pair c.args.replica c.requires (sym c.has_place.ensures ∙ c.if-has_place.true); replica = c.requires }

pub returns-then-has_place : goal.returns-then-has_place
returns-then-has_place g c = moves_set _ _ _ _ _ c.set_place.ensures.set (sym c.has_place.ensures ∙ c.if-has_place.true)

pub returns-else-has_place : goal.returns-else-has_place
returns-else-has_place g c = moves_nothing _ _ _ _ (sym c.has_place.ensures ∙ c.if-has_place.false)
