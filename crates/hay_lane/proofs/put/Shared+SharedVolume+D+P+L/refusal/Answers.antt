use Rattle.std.proofs.Common.{sym, ap, subst, ◌∙◌, refl}
use Rattle.hay_meeting.specs.Facts.{drained_in}
use Rattle.hay_lane.specs.Lanes.{sight}
use Rattle.hay_lane.specs.Puts.{TryTells}
use Rattle.hay_lane.proofs.Changed.{closes_refuses}
use Rattle.hay_lane.proofs.Putting.{room_tells}
use Rattle.hay_shared_volume.specs.Seats.{sight_of}
use Rattle.std.specs.Prelude.{IfSome}
use Rattle.hay_legal.specs.Suiting.{Refuses}
use Rattle.hay_lane.proofs.Suiting.{room_refuses}
use Rattle.hay_lane.proofs.put.Shared+SharedVolume+D+P+L.refusal.Goals as goal

pub returns-in_default-clause-tells : goal.returns-in_default-clause-tells
returns-in_default-clause-tells g c start of =
    subst (λ r. TryTells c.args.self.now.settings start c.args.self.now.drained.items c.args.tag c.args.volume c.args.size r
    (sight sight_of g.L.DirectoryCalls.sight g.A.Arm.fault_count c.args.lane.now) (sight sight_of g.L.DirectoryCalls.sight g.A.Arm.fault_count c.room_at-room.new.lane))
    (sym c.refusal_for.ensures.is)
    (room_tells c.args.self.now.settings start c.args.self.now.drained.items c.args.tag c.args.volume c.args.size c.room_at-room.result
    (ap (λ drained. drained_in c.args.self.now.settings drained c.args.volume) (sym c.as_slice.ensures.value) ∙ sym c.in_default.ensures.is) (c.room_at-room.ensures.tells start of))

pub returns-clause-tells : goal.returns-clause-tells
returns-clause-tells g c start of =
    closes_refuses c.args.self.now.settings start c.args.self.now.drained.items c.args.volume c.args.tag c.args.size (c.closed_at-machine.ensures.tells start of)

pub returns-in_default-clause-refuses : goal.returns-in_default-clause-refuses
returns-in_default-clause-refuses g c =
    subst (λ o. IfSome o (Refuses c.args.self.now.settings c.args.size c.args.volume)) (sym c.refusal_for.ensures.is)
    (room_refuses c.args.self.now.settings c.args.volume c.requires.seated.fewer c.requires.volume c.args.size c.room_at-room.result c.room_at-room.ensures.names)

pub returns-clause-refuses : goal.returns-clause-refuses
returns-clause-refuses g c = (refl, c.closed_at-machine.ensures.on)
