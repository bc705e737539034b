use Rattle.std.proofs.Common.{length, subst, inr, refl}
use Rattle.hay_lane.specs.Lanes.{sight}
use Rattle.hay_lane.specs.Puts.{TriesTell}
use Rattle.hay_lane.proofs.Putting.{idle_wanted, nobody_answered}
use Rattle.hay_shared_volume.specs.Seats.{sight_of}
use Rattle.hay_lane.proofs.Suiting.{refusal_suits}
use Rattle.hay_lane.proofs.put.Shared+SharedVolume+D+P+L.put_first.Goals as goal

pub put_taker-requires-clause-volume : goal.put_taker-requires-clause-volume
put_taker-requires-clause-volume g c = c.find_taker.ensures.within c.in-Taker.volume c.in-Taker.is

pub returns-in-Taker-clause-answered : goal.returns-in-Taker-clause-answered
returns-in-Taker-clause-answered g c start d a of sees =
    c.put_taker.ensures.answered start a (c.find_taker.ensures.same start of)
    (subst (λ t. TriesTell c.args.self.now.settings start c.args.self.now.drained.items c.args.tag c.args.pair (length c.args.bytes.now) t a
    (sight sight_of g.L.DirectoryCalls.sight g.A.Arm.fault_count c.find_taker.new.lane))
    c.in-Taker.is (c.find_taker.ensures.tried start d a of sees))

pub returns-in-Nobody-clause-answered : goal.returns-in-Nobody-clause-answered
returns-in-Nobody-clause-answered g c start d a of sees =
    nobody_answered c.args.self.now.settings start c.args.self.now.drained.items c.args.tag c.args.pair c.args.bytes.now a
    (subst (λ t. TriesTell c.args.self.now.settings start c.args.self.now.drained.items c.args.tag c.args.pair (length c.args.bytes.now) t a
    (sight sight_of g.L.DirectoryCalls.sight g.A.Arm.fault_count c.find_taker.new.lane))
    c.in-Nobody.is (c.find_taker.ensures.tried start d a of sees)) c.refuse.ensures.is

pub returns-in-NoMemory-clause-answered : goal.returns-in-NoMemory-clause-answered
returns-in-NoMemory-clause-answered g c start d a of sees =
    idle_wanted c.args.self.now.settings start c.args.self.now.drained.items c.args.tag c.args.pair c.args.bytes.now a
    (subst (λ t. TriesTell c.args.self.now.settings start c.args.self.now.drained.items c.args.tag c.args.pair (length c.args.bytes.now) t a
    (sight sight_of g.L.DirectoryCalls.sight g.A.Arm.fault_count c.find_taker.new.lane))
    c.in-NoMemory.is (c.find_taker.ensures.tried start d a of sees))

pub returns-in-Nobody-clause-suits : goal.returns-in-Nobody-clause-suits
returns-in-Nobody-clause-suits g c =
    refusal_suits c.args.self.now.settings c.args.pair (length c.args.bytes.now) c.in-Nobody.refused c.refuse.result
    (c.find_taker.ensures.refuse c.in-Nobody.refused c.in-Nobody.is) c.refuse.ensures.is

pub returns-in-NoMemory-clause-suits : goal.returns-in-NoMemory-clause-suits
returns-in-NoMemory-clause-suits g c = inr (inr (inr (inr (inr (inr refl)))))
