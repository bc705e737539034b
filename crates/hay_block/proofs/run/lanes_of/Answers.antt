use Rattle.std.proofs.Common.{◌∙◌, sym}
use Rattle.std.specs.Vec.Iter.{into_iter_items}
use Rattle.hay_volume_lock.proofs.Opening.{all_turned}
use Rattle.hay_block.specs.declared.worker.LaneWorker.{LaneWorker}
use Rattle.hay_block.proofs.run.lanes_of.Goals as goal

pub returns : goal.returns
returns g c =
    all_turned (λ (w : LaneWorker g.row.D.Denot g.row.P.Denot g.row.L.Denot g.row.T.Denot g.row.A.Denot). w.lane) c.loop-worker.lanes.items
    (into_iter_items c.loop-worker.worker-iterator) c.args.workers.items
    c.loop-worker.invariant.lanes (sym c.loop-worker.worker-iterator.rest.ok.0 ∙ c.in-None.ensures.steps.0)
