use Rattle.std.proofs.Common.{inl, inr, refl}
use Rattle.hay_holdings.proofs.Going.{idle_same}
use Rattle.hay_holdings.proofs.Unchanged.{undrain_nowhere, idle_unchanged}
use Rattle.hay_holdings.proofs.WorkAnswers.{undrains}
use Rattle.hay_lane.specs.Lanes.{sight}
use Rattle.hay_shared_volume.specs.Seats.{sight_of}
use Rattle.hay_lane.proofs.upkeep.Shared+SharedVolume+D+P+L.undrain.Goals as goal

pub returns-then-machine-self-clause-answered : goal.returns-then-machine-self-clause-answered
returns-then-machine-self-clause-answered g c start of =
    undrain_nowhere c.args.self.now.settings start c.args.self.now.drained.items
    (idle_unchanged (idle_same c.args.tag (sight sight_of g.L.DirectoryCalls.sight g.A.Arm.fault_count c.args.lane.now))) c.if-machine-self.true

pub returns-clause-answered : goal.returns-clause-answered
returns-clause-answered g c start of =
    undrains c.args.self.now.settings start c.args.self.now.drained.items c.args.tag
    (sight sight_of g.L.DirectoryCalls.sight g.A.Arm.fault_count c.args.lane.now) (sight sight_of g.L.DirectoryCalls.sight g.A.Arm.fault_count c.undrain_machine.new.lane)
    c.if-machine-self.false (c.undrain_machine.ensures.tells start of)

pub returns-then-machine-self-clause-suits : goal.returns-then-machine-self-clause-suits
returns-then-machine-self-clause-suits g c = inr (c.if-machine-self.true, refl)

pub returns-clause-suits : goal.returns-clause-suits
returns-clause-suits g c = inl (c.if-machine-self.false, refl)
