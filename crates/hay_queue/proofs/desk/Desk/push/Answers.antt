use Rattle.std.proofs.Common.{sym, ap, ◌∙◌, length}
use Rattle.crossbeam_channel.specs.Ends.{sends_on}
use Rattle.hay_queue.proofs.Rules.{sends}
use Rattle.hay_queue.proofs.Seats.{seated}
use Rattle.hay_queue.proofs.desk.Desk.push.Goals as goal

pub send_as-requires-clause-channel : goal.send_as-requires-clause-channel
send_as-requires-clause-channel g c = let i = c.loop.invariant in seated (sends_on c.self.inside.sender) c.args.self.now c.loop.pass c.self.view_is c.self.invariant.1 i.own i.rests

pub send_as-requires-clause-rule : goal.send_as-requires-clause-rule
send_as-requires-clause-rule g c = let i = c.loop.invariant in let client = c.requires.client.1 in let next = c.requires.next in (
  sends _ _ _ _ _ (ap (λ v. v.sends) i.same ∙ client.sends) (ap (λ v. v.sent.ended) i.same ∙ client.ends)
      (ap (λ m. m.from) i.message ∙ (next.0 ∙ sym (ap (λ v. v.number) i.same))) (ap (λ m. m.place) i.message ∙ (next.1 ∙ sym (ap (λ v. length v.sent.names) i.same))),
  λ items views h at. tt,
)
