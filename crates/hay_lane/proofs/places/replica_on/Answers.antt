use Rattle.std.proofs.Common.{sym, ◌∙◌, arith}
use Rattle.std.specs.Prelude.{◌==◌}
use Rattle.std.proofs.lemmas.Bool.{ne_eqb}
use Rattle.hay_legal.specs.Known.{machine_of}
use Rattle.hay_legal.proofs.Machines.{below_next, replica_hit, replica_none}
use Rattle.hay_lane.proofs.places.replica_on.Goals as goal

pub returns-then-machine_of-machine-clause-is : goal.returns-then-machine_of-machine-clause-is
returns-then-machine_of-machine-clause-is c =
    replica_hit c.args.settings.now c.args.volume c.args.machine c.loop-replica.replica c.if-volume-settings.false c.loop-replica-test.true
    (sym c.machine_of.ensures.is ∙ c.if-machine_of-machine.true) c.loop-replica.invariant

pub loop-replica-preserved : goal.loop-replica-preserved
loop-replica-preserved c =
    below_next (λ i. machine_of c.args.settings.now c.args.volume i == c.args.machine) c.loop-replica.replica c.loop-replica.invariant
    (ne_eqb (machine_of c.args.settings.now c.args.volume c.loop-replica.replica) c.args.machine (λ same. c.if-machine_of-machine.false (c.machine_of.ensures.is ∙ same)))

pub returns-clause-is : goal.returns-clause-is
returns-clause-is c =
    replica_none c.args.settings.now c.args.volume c.args.machine c.if-volume-settings.false (λ i below. c.loop-replica.invariant i (omega (arith, below, c.loop-replica-test.false)))
