use Rattle.std.proofs.Common.{◌∙◌}
use Rattle.hay_legal.specs.Known as known
use Rattle.hay_audit_steps.specs.Rooms as rooms
use Rattle.hay_audit_steps.specs.Boxes.{Box}
use Rattle.hay_audit.proofs.Lists.{flat_next}
use Rattle.hay_audit.proofs.rooms.refuse_at.Goals as goal

pub loop-state-preserved : goal.loop-state-preserved
loop-state-preserved c =
    flat_next (λ (d : Box). rooms.refused_at c.args.settings.now c.args.size d c.args.volume (known.closed c.args.settings.now d.base c.args.volume) c.args.refused.now)
    c.loop-state.parts c.refused_at.new.out c.in-Some.state c.next.new.self.rest.items c.loop-state.state-iterator.rest.items (c.in-Some.ensures.steps).0
    (c.in_ok-refused_at.ensures)
    ∙ c.loop-state.invariant
