use Rattle.std.proofs.Common.{ℕ, Bool, false, Some, sym, ap, ◌∙◌, arith}
use Rattle.std.specs.Prelude.{slice_index_or}
use Rattle.hay_legal.specs.Known.{machine_of}
use Rattle.hay_legal.proofs.Finds.{map_hit, map_none}
use Rattle.hay_lane.proofs.places.drained_by.Goals as goal

pub returns-then-drained-machine : goal.returns-then-drained-machine
returns-then-drained-machine c =
    let test : ℕ → Bool = λ m. slice_index_or c.args.drained.now m false in
    let machine = machine_of c.args.settings.now c.args.volume in
    let hit = map_hit test machine (c.args.settings.now).replicas c.loop-replica.replica c.loop-replica-test.true
    (ap test (sym c.machine_of-machine.ensures.is) ∙ c.if-drained-machine.true) c.loop-replica.invariant in
    record { is = ap (λ m. Some m) c.machine_of-machine.ensures.is ∙ sym hit }

pub returns : goal.returns
returns c =
    let test : ℕ → Bool = λ m. slice_index_or c.args.drained.now m false in
    record {
      is = sym (map_none test (machine_of c.args.settings.now c.args.volume) (c.args.settings.now).replicas
          (λ i below. c.loop-replica.invariant i (omega (arith, below, c.loop-replica-test.false))));
    }
