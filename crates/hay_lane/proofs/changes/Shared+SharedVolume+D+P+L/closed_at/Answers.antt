use Rattle.std.proofs.Common.{subst}
use Rattle.hay_lane.proofs.Changed.{drained_closed, frozen_closed}
use Rattle.std.specs.Prelude.{IfSome}
use Rattle.hay_logical.specs.Volumes.{IsMachineOf}
use Rattle.hay_lane.proofs.Suiting.{drained_on, on_machine}
use Rattle.hay_lane.proofs.changes.Shared+SharedVolume+D+P+L.closed_at.Goals as goal

pub returns-in-Some-clause-tells : goal.returns-in-Some-clause-tells
returns-in-Some-clause-tells g c start of =
    frozen_closed c.args.self.now.settings start c.args.self.now.drained.items c.args.volume c.args.tag c.in-Some.is (c.frozen_at.ensures.tells start of)

pub returns-in-None-clause-tells : goal.returns-in-None-clause-tells
returns-in-None-clause-tells g c start of =
    drained_closed c.args.self.now.settings start c.args.self.now.drained.items c.args.volume c.args.tag c.requires.drained c.in-None.is (c.frozen_at.ensures.tells start of)

pub returns-in-Some-clause-on : goal.returns-in-Some-clause-on
returns-in-Some-clause-on g c =
    on_machine c.args.self.now.settings c.args.volume c.requires.seated.fewer c.requires.volume c.in-Some.frozen
    (subst (λ o. IfSome o (IsMachineOf c.args.self.now.settings c.args.volume)) c.in-Some.is c.frozen_at.ensures.names)

pub returns-in-None-clause-on : goal.returns-in-None-clause-on
returns-in-None-clause-on g c = drained_on c.args.self.now.settings c.args.volume c.requires.seated.fewer c.requires.volume c.args.self.now.drained.items c.args.machine c.requires.drained
