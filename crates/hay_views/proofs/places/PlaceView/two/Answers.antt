use Rattle.std.proofs.Common.{refl}
use Rattle.hay_views.proofs.places.PlaceView.two.Goals as goal

pub invariant_of-view : goal.invariant_of-view
invariant_of-view g c = rw (c.of-first.ensures, c.new.ensures) (c.requires, record { replicas = refl; rows = λ pair. refl })
