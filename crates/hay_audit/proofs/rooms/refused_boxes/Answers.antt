use Rattle.std.proofs.Common.{◌∙◌}
use Rattle.hay_audit_steps.specs.Rooms as rooms
use Rattle.hay_audit.proofs.Lists.{flat_next}
use Rattle.hay_audit.proofs.rooms.refused_boxes.Goals as goal

pub loop-state-preserved : goal.loop-state-preserved
loop-state-preserved c =
    flat_next (rooms.refuse_box c.args.settings.now c.args.pair c.args.size c.args.refused.now c.args.rest) c.loop-state.made c.refuse_box.new.out c.in-Some.state
    c.next.new.self.rest.items c.loop-state.state-iterator.rest.items (c.in-Some.ensures.steps).0
    (c.in_ok-refuse_box.ensures)
    ∙ c.loop-state.invariant
