use Rattle.std.proofs.Common.{◌≤◌, ◌<◌, ◌∙◌, length, arith}
use Rattle.std.specs.Prelude.{slice_index_or}
use Rattle.hay_physical.specs.OpenCopies.{Copy}
use Rattle.hay_logical.specs.Fits.{At}
use Rattle.hay_logical.proofs.Calls.{frozen_open, frozen_is, open_frozen}
use Rattle.hay_logical.proofs.Lists.{at_below, at_read, at_there, went_all, went_step}
use Rattle.hay_logical.proofs.runs.drop_runs.Goals as goal

pub loop-replica-preserved : goal.loop-replica-preserved
loop-replica-preserved g c =
    let within : c.loop-replica.replica-index < length c.loop-replica.replicas = omega arith in
    let here : Copy g.row.D.Denot = slice_index_or c.loop-replica.replicas c.loop-replica.replica-index c.replica-item.result in
    let there : At c.loop-replica.replicas c.loop-replica.replica-index here = at_read c.loop-replica.replicas c.loop-replica.replica-index c.replica-item.result within in
    let e = c.drop_run.ensures in
    went_step _ _ c.loop-replica.replica-index c.args.replicas.now c.loop-replica.replicas here c.drop_run.new.self c.loop-replica.invariant there (λ i r r' h p. p) (
      record {
        idle = e.idle;
        «open» = e.«open»;
        up = e.up;
        froze = λ h. open_frozen c.drop_run.new.self (e.«open» (frozen_open here h)) (e.same ∙ frozen_is here h);
        sup = e.sup;
        disk = e.disk;
        frozen = e.same;
        stuck = e.stuck;
        stands = e.stands;
        holds = e.holds;
        reach = λ tells. record { deletes = e.deletes tells; sees = e.sees tells };
        end = e.stays.1;
      },
      e.goal,
    )

pub returns-clause-each : goal.returns-clause-each
returns-clause-each g c =
    λ j r r' e f. (went_all _ _ c.args.replicas.now _ c.loop-replica.invariant (let all : length c.args.replicas.now ≤ c.loop-replica.replica-index = omega arith in all) j r r' e f).0

pub returns-clause-idle : goal.returns-clause-idle
returns-clause-idle g c = λ j r' f.
    let count = c.loop-replica.invariant.count in
    let old = at_there c.args.replicas.now j (let h = at_below c.loop-replica.replicas j r' f in let less : j < length c.args.replicas.now = omega (arith, h, count) in less) in
    (went_all _ _ c.args.replicas.now _ c.loop-replica.invariant (let all : length c.args.replicas.now ≤ c.loop-replica.replica-index = omega arith in all) j old.0 r' old.1 f).1
