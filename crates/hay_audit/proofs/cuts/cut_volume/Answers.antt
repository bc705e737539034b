use Rattle.std.proofs.Common.{List, ◌++◌, ap, ◌∙◌}
use Rattle.hay_audit_steps.specs.Rooms as rooms
use Rattle.hay_audit_steps.specs.Boxes.{Box}
use Rattle.hay_audit.proofs.Lists.{flat_next}
use Rattle.hay_audit.proofs.cuts.cut_volume.Goals as goal

pub loop-state-preserved : goal.loop-state-preserved
loop-state-preserved c =
    flat_next (λ (d : Box). rooms.volume_cuts c.args.settings.now c.args.size c.args.volume (rooms.replicas_at d c.args.volume) d) c.loop-state.parts c.push_boxes.new.out
    c.in-Some.state c.next.new.self.rest.items c.loop-state.state-iterator.rest.items (c.in-Some.ensures.steps).0
    (c.in_ok-push_boxes.ensures ∙ ap (λ (xs : List Box). c.loop-state.parts ++ xs) c.in_ok-volume_cuts.ensures)
    ∙ c.loop-state.invariant
