use Rattle.std.proofs.Common.{◌≡◌, ◌++◌, replicate}
use Rattle.std.specs.Vec.{vec_capacity}
use Rattle.hay_map.specs.declared.place.Place.TheVariants as place
use Rattle.hay_map.proofs.places.push_none.Given as goal

abbrev pub invariant-loop : goal.invariant-loop
invariant-loop g l = record {
  items : l.places.items ≡ l.initial.places.items ++ replicate l.counter place.None;
  capacity : vec_capacity l.places ≡ vec_capacity l.initial.places;
}
