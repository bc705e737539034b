use Rattle.std.proofs.Common.{◌≡◌, List, [], ◌∷◌, map, take, ap, ◌∙◌}
use Rattle.hay_map.specs.Places.{gone_place}
use Rattle.hay_map.specs.declared.place.Place.{Place}
use Rattle.hay_map.proofs.FourPlaces.{take_map}
use Rattle.hay_map.proofs.row.Row.gone.Goals as goal

pub returns : goal.returns
returns g c =
    ap (λ (p : Place _). take c.self.inside.count (p ∷ c.gone_from-2.result ∷ c.gone_from-3.result ∷ c.gone_from-4.result ∷ [])) c.gone_from.ensures
    ∙ ap (λ (p : Place _). take c.self.inside.count (gone_place c.self.inside.first ∷ p ∷ c.gone_from-3.result ∷ c.gone_from-4.result ∷ [])) c.gone_from-2.ensures
    ∙ ap (λ (p : Place _). take c.self.inside.count (gone_place c.self.inside.first ∷ gone_place c.self.inside.second ∷ p ∷ c.gone_from-4.result ∷ [])) c.gone_from-3.ensures
    ∙ ap (λ (p : Place _). take c.self.inside.count (gone_place c.self.inside.first ∷ gone_place c.self.inside.second ∷ gone_place c.self.inside.third ∷ p ∷ [])) c.gone_from-4.ensures
    ∙ take_map gone_place c.self.inside.count c.self.inside.first c.self.inside.second c.self.inside.third c.self.inside.fourth c.self.invariant
    ∙ ap (map gone_place) c.self.view_is
