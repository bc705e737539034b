use Rattle.std.proofs.Common.{◌<◌, ◌+◌, [], ◌∷◌, length, ap, ◌∙◌, arith, length-append}
use Rattle.std.specs.Prelude.{map}
use Rattle.std.proofs.lemmas.List.{length-map}
use Rattle.hay_logical.proofs.Lists.{at_there}
use Rattle.hay_physical.specs.OpenCopies.{Copy, goal_of}
use Rattle.hay_volume_lock.proofs.Counting.{take_whole}
use Rattle.hay_volume_lock.proofs.Deleting.{map_next, next_taken}
use Rattle.hay_volume_lock.proofs.deletes.runs_of.Goals as goal

pub loop-replica-preserved : goal.loop-replica-preserved
loop-replica-preserved g c =
    let less : c.loop-replica.replica < length c.args.logical.now.replicas = omega (arith, c.loop-replica-test.true, c.requires.all) in
    let there = at_there c.args.logical.now.replicas c.loop-replica.replica less in record {
      taken = next_taken (map goal_of c.args.logical.now.replicas) c.loop-replica.runs.items c.push.new.self.items c.loop-replica.replica c.standing.result (goal_of there.0)
          (map_next goal_of c.args.logical.now.replicas c.loop-replica.replica there.0 there.1) (c.standing.ensures.is there.0 there.1) c.loop-replica.invariant.taken c.push.ensures.items;
      count = ap length c.push.ensures.items ∙ length-append c.loop-replica.runs.items (c.standing.result ∷ []) ∙ ap (λ n. n + 1) c.loop-replica.invariant.count;
    }

pub returns : goal.returns
returns g c =
    c.loop-replica.invariant.taken
    ∙ take_whole (map goal_of c.args.logical.now.replicas) c.loop-replica.replica (omega
    (arith, length-map c.args.logical.now.replicas (λ (r : Copy g.row.D.Denot). goal_of r), c.requires.all, c.loop-replica-test.false))
