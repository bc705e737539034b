use Rattle.std.proofs.Common.{◌∙◌, map, sym}
use Rattle.std.specs.Vec.Iter.{into_iter_items}
use Rattle.hay_volume_lock.proofs.Opening.{all_turned}
use Rattle.hay_block.specs.Workers.{at_locks, parts_of}
use Rattle.hay_block.proofs.run.workers_of.Goals as goal

pub returns : goal.returns
returns g c =
    all_turned (at_locks c.args.shared.now) (map parts_of c.loop-lane.workers.items) (into_iter_items c.loop-lane.lane-iterator) c.args.lanes.items
    c.loop-lane.invariant.lanes (sym c.loop-lane.lane-iterator.rest.ok.0 ∙ c.in-None.ensures.steps.0)
