use Rattle.std.proofs.Common.{◌≡◌, ◌<◌, ◌%◌, ◌/◌, Some, length, slice_get, rules, ap, sym, subst, ◌∙◌, arith}
use Rattle.std.proofs.lemmas.List.{length-set}
use Rattle.std.proofs.lemmas.Option.{get_or_from_slice_get, slice_get_within}
use Rattle.hay_queue.specs.Benches.{OutsAt}
use Rattle.hay_queue.proofs.Gathering.{kept_on, given_on}
use Rattle.hay_queue.proofs.serve.gather.Goals as goal

pub take_outs-outs-requires : goal.take_outs-outs-requires
take_outs-outs-requires g c = let i = c.loop-lane.invariant in
    let first = c.requires.all c.loop-lane.lane c.loop-lane-test.true in
    let there = i.kept c.loop-lane.lane first.0 (omega arith) (subst (λ n. OutsAt c.args.kits.items n c.loop-lane.lane first.0) (sym c.len-seats.ensures) first.1) in
    let kit : c.index_mut.result.now ≡ there.0 =
    c.index_mut.ensures.value ∙ get_or_from_slice_get c.loop-lane.kits.items (c.loop-lane.lane % c.len-seats.result) there.0 c.index_mut.result.now there.1 in
    subst (λ k. c.loop-lane.lane / c.len-seats.result < length k.outs.items) (sym kit) (slice_get_within there.0.outs.items (c.loop-lane.lane / c.len-seats.result) first.0 there.2)

pub loop-lane-preserved : goal.loop-lane-preserved
loop-lane-preserved g c = let i = c.loop-lane.invariant in let n = c.len-seats.result in let lane = c.loop-lane.lane in let kits = c.loop-lane.kits.items in
    let first = c.requires.all lane c.loop-lane-test.true in
    let there = i.kept lane first.0 (omega arith) (subst (λ k. OutsAt c.args.kits.items k lane first.0) (sym c.len-seats.ensures) first.1) in
    let kit : c.index_mut.result.now ≡ there.0 = c.index_mut.ensures.value ∙ get_or_from_slice_get kits (lane % n) there.0 c.index_mut.result.now there.1 in
    let at : slice_get kits (lane % n) ≡ Some c.index_mut.result.now = there.1 ∙ ap (λ k. Some k) (sym kit) in
    let as_many : length c.loop-lane.answers.items ≡ lane = search rules in record {
      seats = (length-set kits (lane % n) c.take_outs-outs.new.kit ∙ i.seats.0, i.seats.1);
      many = search rules;
      room = search rules;
      kept =
          λ other os le at_first. kept_on kits n lane c.index_mut.result.now c.take_outs-outs.new.kit at c.take_outs-outs.ensures.others other os (omega arith)
          (i.kept other os (omega arith) at_first);
      given =
          λ other os lt at_first. given_on kits n lane c.index_mut.result.now at c.loop-lane.answers.items c.push_reserved.new.self.items c.take_outs-outs.result as_many
          c.push_reserved.ensures.items c.take_outs-outs.ensures.taken
          other os (i.kept other os) (i.given other os) lt at_first;
    }

pub returns-clause-each : goal.returns-clause-each
returns-clause-each g c lane os lt there = let i = c.loop-lane.invariant in let past = c.loop-lane-test.false in let low = c.loop-lane.auto.lane-end in
    i.given lane os (omega arith) (subst (λ n. OutsAt c.args.kits.items n lane os) (sym c.len-seats.ensures) there)
