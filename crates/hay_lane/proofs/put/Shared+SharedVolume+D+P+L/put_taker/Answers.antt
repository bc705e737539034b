use Rattle.std.proofs.Common.{length, subst, sym}
use Rattle.hay_holdings.specs.Sights.{AtDirectory}
use Rattle.hay_lane.specs.Lanes.{sight}
use Rattle.hay_lane.specs.Tellings.{SettleTells}
use Rattle.hay_lane.proofs.Putting.{row_refused, settled_by}
use Rattle.hay_shared_volume.specs.Seats.{sight_of}
use Rattle.hay_legal.specs.Suiting.{SuitsPut}
use Rattle.hay_lane.proofs.Suiting.{settle_suits}
use Rattle.hay_lane.proofs.put.Shared+SharedVolume+D+P+L.put_taker.Goals as goal

pub returns-in-Ok-clause-answered : goal.returns-in-Ok-clause-answered
returns-in-Ok-clause-answered g c start a of has =
    c.put_home.ensures.answered start a (c.settle_home.ensures.same start of)
    (settled_by c.args.self.now.settings start c.args.self.now.drained.items c.args.tag c.args.pair c.args.bytes.now a has c.in-Ok.home c.in-Ok.rows
    (subst (λ r. AtDirectory (SettleTells start c.args.tag (record { pair = c.args.pair; volume = c.args.volume }) r)
    (sight sight_of g.L.DirectoryCalls.sight g.A.Arm.fault_count c.args.lane.now) (sight sight_of g.L.DirectoryCalls.sight g.A.Arm.fault_count c.settle_home.new.lane))
    c.in-Ok.is (c.settle_home.ensures.tells start of)))

pub returns-in-Err-clause-answered : goal.returns-in-Err-clause-answered
returns-in-Err-clause-answered g c start a of has =
    row_refused c.args.self.now.settings start c.args.self.now.drained.items c.args.tag c.args.pair c.args.bytes.now a has c.in-Err.fault
    (subst (λ r. AtDirectory (SettleTells start c.args.tag (record { pair = c.args.pair; volume = c.args.volume }) r)
    (sight sight_of g.L.DirectoryCalls.sight g.A.Arm.fault_count c.args.lane.now) (sight sight_of g.L.DirectoryCalls.sight g.A.Arm.fault_count c.settle_home.new.lane))
    c.in-Err.is (c.settle_home.ensures.tells start of)) c.settle_refusal.ensures.is

pub returns-in-Err-clause-suits : goal.returns-in-Err-clause-suits
returns-in-Err-clause-suits g c =
    subst (SuitsPut c.args.self.now.settings c.args.pair (length c.args.bytes.now)) (sym c.settle_refusal.ensures.is)
    (settle_suits c.args.self.now.settings c.args.pair (length c.args.bytes.now) c.in-Err.fault)
