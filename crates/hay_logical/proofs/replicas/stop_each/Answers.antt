use Rattle.std.proofs.Common.{◌≤◌, ◌<◌, length, arith}
use Rattle.std.specs.Prelude.{slice_index_or}
use Rattle.hay_physical.specs.OpenCopies.{Copy}
use Rattle.hay_logical.specs.Fits.{At}
use Rattle.hay_logical.proofs.Lists.{at_read, went_all, went_step}
use Rattle.hay_logical.proofs.replicas.stop_each.Goals as goal

pub loop-replica-preserved : goal.loop-replica-preserved
loop-replica-preserved g c =
    let within : c.loop-replica.replica-index < length c.loop-replica.replicas = omega arith in
    let here : Copy g.row.D.Denot = slice_index_or c.loop-replica.replicas c.loop-replica.replica-index c.replica-item.result in
    let there : At c.loop-replica.replicas c.loop-replica.replica-index here = at_read c.loop-replica.replicas c.loop-replica.replica-index c.replica-item.result within in
    went_step _ _ c.loop-replica.replica-index c.args.replicas.now c.loop-replica.replicas here c.stop.new.self c.loop-replica.invariant there (λ i r r' h p. p) (
      record {
        closed = c.stop.ensures.closed;
        sup = c.stop.ensures.sup;
        idle = c.stop.ensures.idle;
        left = c.stop.ensures.left;
        stood = c.stop.ensures.stood;
        holds = c.stop.ensures.holds;
        same_faults = c.stop.ensures.faults;
        same_fuses = c.stop.ensures.fuses;
      },
      c.stop.ensures.drawn,
    )

pub returns-clause-stopped : goal.returns-clause-stopped
returns-clause-stopped g c =
    λ j r r' e f. (went_all _ _ c.args.replicas.now _ c.loop-replica.invariant (let all : length c.args.replicas.now ≤ c.loop-replica.replica-index = omega arith in all) j r r' e f).0

pub returns-clause-drawn : goal.returns-clause-drawn
returns-clause-drawn g c =
    λ tells j r r' e f. (went_all _ _ c.args.replicas.now _ c.loop-replica.invariant (let all : length c.args.replicas.now ≤ c.loop-replica.replica-index = omega arith in all) j r r' e f).1 tells
