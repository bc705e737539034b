use Rattle.std.proofs.Common.{length, refl, ap}
use Rattle.hay_map.proofs.RowLaws.{keeps_same, kept_same}
use Rattle.hay_map.proofs.view.MapView.expect.Goals as goal

pub invariant_of-self : goal.invariant_of-self
invariant_of-self g c =
    kept_same _ _ (record { replicas = refl; blank = refl; offsets = λ pair. c.reserve.ensures.entries.2 (pair.key, pair.alt) }) (ap length c.reserve-2.ensures.items) c.self.invariant

pub returns : goal.returns
returns g c =
    rw (← c.self.view_is)
    (keeps_same _ _ (record { replicas = refl; blank = refl; offsets = λ pair. c.reserve.ensures.entries.2 (pair.key, pair.alt) }) c.reserve-2.ensures.items)
