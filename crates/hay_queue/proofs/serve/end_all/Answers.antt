use Rattle.std.proofs.Common.{◌≡◌, rules}
use Rattle.std.specs.Vec.Iter.{into_iter_items}
use Rattle.hay_queue.proofs.Steps.{all_rest, moved}
use Rattle.hay_queue.proofs.serve.end_all.Goals as goal

pub loop-client-preserved : goal.loop-client-preserved
loop-client-preserved g c = let i = c.loop-client.invariant in let step = c.in-Some.ensures.steps in record {
  ended =
      moved c.loop-client.ended.items c.push_reserved.new.self.items (into_iter_items c.next.new.self) (into_iter_items c.loop-client.client-iterator) c.args.clients.items
      c.in-Some.client c.end.result
      c.push_reserved.ensures.items c.end.ensures step.0 i.ended;
  own = all_rest (λ x. x.desk ≡ c.args.desk.now) c.in-Some.client (into_iter_items c.next.new.self) (into_iter_items c.loop-client.client-iterator) step.0 i.own;
  room = search rules;
}
