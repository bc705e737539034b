-- What a chain of snapshots has.
use Rattle.std.specs.Prelude.{List, [], ◌∷◌, ◌++◌}
use Rattle.hay_views.specs.declared.past.Link.{Link}
use Rattle.hay_views.specs.declared.past.Link.TheVariants.{Start, Behind}

abbrev pub items : {T : Type 0} → Link T → List T
items Start = []
items (Behind before item) = before.value ++ item.value ∷ []
