use Rattle.hay_map.proofs.FourPlaces.{take_same}
use Rattle.hay_map.proofs.row.Row.none.Goals as goal

pub returns : goal.returns
returns g c = take_same c.args.replicas _ c.requires
