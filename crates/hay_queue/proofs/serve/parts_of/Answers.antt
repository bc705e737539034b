use Rattle.std.proofs.Common.{Some, IsSome, rules, ap, sym}
use Rattle.std.specs.Vec.Iter.{into_iter_items}
use Rattle.hay_queue.specs.Benches.{worker_in, kit_in}
use Rattle.hay_queue.proofs.Steps.{all_rest, moved_as}
use Rattle.hay_queue.proofs.serve.parts_of.Goals as goal

pub loop-slot-preserved : goal.loop-slot-preserved
loop-slot-preserved g c =
    let i = c.loop-slot.invariant in let step = c.in-Some.ensures.steps in let slot = c.in-Some.slot in let bench = c.in-Some-slot.bench in
    let rest = into_iter_items c.next.new.self in let left = into_iter_items c.loop-slot.slot-iterator in record {
      all = all_rest (λ s. IsSome s) slot rest left step.0 i.all;
      workers =
          moved_as (λ w. Some w) worker_in c.loop-slot.workers.items c.push_reserved.new.self.items rest left c.args.benches.items slot bench.worker c.push_reserved.ensures.items
          step.0 (sym (ap worker_in c.in-Some-slot.is)) i.workers;
      kits =
          moved_as (λ k. Some k) kit_in c.loop-slot.kits.items c.push_reserved-in-loop-slot.new.self.items rest left c.args.benches.items slot bench.kit
          c.push_reserved-in-loop-slot.ensures.items step.0 (sym (ap kit_in c.in-Some-slot.is)) i.kits;
      room_for_workers = search rules;
      room_for_kits = search rules;
    }
