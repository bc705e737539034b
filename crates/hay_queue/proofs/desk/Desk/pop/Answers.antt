use Rattle.std.proofs.Common.{sym, ap, subst, ◌∙◌}
use Rattle.crossbeam_channel.specs.Claims.{IsSeatAt}
use Rattle.crossbeam_channel.specs.Ends.{sends_on}
use Rattle.hay_queue.proofs.Rules.{takes}
use Rattle.hay_queue.proofs.Seats.{seated}
use Rattle.hay_queue.proofs.desk.Desk.pop.Goals as goal

pub recv_as-requires-clause-channel : goal.recv_as-requires-clause-channel
recv_as-requires-clause-channel g c = let i = c.loop.invariant in
    subst (λ queue. IsSeatAt queue c.loop.pass) (sym c.self.invariant.0) (seated (sends_on c.self.inside.sender) c.args.self.now c.loop.pass c.self.view_is c.self.invariant.1 i.own i.rests)

pub recv_as-requires-clause-rule : goal.recv_as-requires-clause-rule
recv_as-requires-clause-rule g c = let i = c.loop.invariant in (takes _ _ _ (ap (λ v. v.takes) i.same ∙ c.requires.worker.1.takes), λ items views h at. tt)
