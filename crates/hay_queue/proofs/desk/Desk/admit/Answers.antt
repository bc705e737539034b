use Rattle.std.proofs.Common.{◌≡◌, ◌+◌, rules, sym, ap, subst, ◌∙◌}
use Rattle.std.proofs.lemmas.List.{length-replicate}
use Rattle.crossbeam_channel.specs.Claims.{view}
use Rattle.crossbeam_channel.specs.Ends.{sends_on}
use Rattle.hay_queue.specs.Desks.{AreNew, sent_of, sent_by, unended_streams}
use Rattle.hay_queue.specs.Rule.{worker_pass, one_client_more, new_client}
use Rattle.hay_queue.specs.Streams.{empty}
use Rattle.hay_queue.proofs.Counts.{replicate_more, one_new, unended_replicate}
use Rattle.hay_queue.proofs.Rules.{forks}
use Rattle.hay_queue.proofs.Seats.{seated, seat_of}
use Rattle.hay_queue.proofs.desk.Desk.admit.Goals as goal

pub another-client-requires-clause-channel : goal.another-client-requires-clause-channel
another-client-requires-clause-channel g c =
    let i = c.loop-number.invariant in seated (sends_on c.self.inside.sender) c.args.self.now c.loop-number.pass c.self.view_is c.self.invariant.1 i.own i.rests

pub another-client-requires-clause-rule : goal.another-client-requires-clause-rule
another-client-requires-clause-rule g c = forks _ _ _ (ap (λ v. v.takes) c.loop-number.invariant.knows)

pub loop-number-preserved : goal.loop-number-preserved
loop-number-preserved g c = let i = c.loop-number.invariant in let split = c.another-client.ensures in let n = c.loop-number.number in
    let queue = sends_on c.self.inside.sender in
    let client = seat_of queue c.args.self.now c.another-client.result c.self.view_is split.channel.2 in
    let knows = split.rule.1 ∙ ap new_client i.knows in
    let number : (view c.another-client.result).number ≡ n = ap (λ v. v.number) knows ∙ length-replicate n empty in record {
      own = seat_of queue c.args.self.now c.another-client.new.pass c.self.view_is split.channel.0;
      rests = split.channel.0.2;
      knows = split.rule.0 ∙ (ap one_client_more i.knows ∙ ap worker_pass (replicate_more n empty));
      clients = subst (AreNew c.args.self.now (n + 1)) (sym c.push_reserved.ensures.items)
          (one_new c.args.self.now n _ (sent_of c.another-client.result) i.clients (λ k. sent_by (client k) (number k) (ap (λ v. v.sent.names) knows k)));
      room = search rules;
    }

pub invariant_of-worker : goal.invariant_of-worker
invariant_of-worker g c = let i = c.loop-number.invariant in let all : c.loop-number.number ≡ c.args.clients = search rules in (
  record { rests = i.rests; takes = ap (λ v. v.takes) i.knows },
  sym (ap (λ v. unended_streams v.heard) i.knows ∙ (unended_replicate c.loop-number.number ∙ all)),
)
