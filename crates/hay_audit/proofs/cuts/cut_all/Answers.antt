use Rattle.std.proofs.Common.{◌∙◌}
use Rattle.hay_audit_steps.specs.Rooms as rooms
use Rattle.hay_audit.proofs.Lists.{flat_next}
use Rattle.hay_audit.proofs.cuts.cut_all.Goals as goal

pub loop-state-preserved : goal.loop-state-preserved
loop-state-preserved c =
    flat_next (rooms.room_cut c.args.settings.now c.args.size c.args.volume c.args.replica) c.loop-state.parts c.room_cut.new.out c.in-Some.state c.next.new.self.rest.items
    c.loop-state.state-iterator.rest.items (c.in-Some.ensures.steps).0
    (c.in_ok-room_cut.ensures)
    ∙ c.loop-state.invariant
