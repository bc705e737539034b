use Rattle.std.proofs.Common.{refl, ap, ◌∙◌}
use Rattle.hay_audit_steps.specs.BoxNext.{least_cells, least_end}
use Rattle.hay_audit_steps.specs.Boxes.{Box}
use Rattle.hay_audit.specs.Ranging.{is_finish}
use Rattle.hay_audit.proofs.Swapped.{finish_made}
use Rattle.hay_audit.proofs.places.finished_boxes.Goals as goal

pub returns : goal.returns
returns c =
    finish_made c.args.state c.args.spot.volume c.args.spot.machine c.args.spot.replica c.args.volume c.args.machine c.args.generation c.in-Ok.sizes.end
    c.as_number-end.result c.in-Ok.sizes.cells c.most_end-most.result c.most_cells-many.result
    _ _ _ _
    (c.if-not-is_finish.ensures ∙ ap (λ (b : Box). is_finish b.base c.args.spot.volume c.args.spot.machine c.args.spot.replica c.args.volume c.args.machine c.args.generation) c.state.view_is) refl
    (c.in-Ok.ensures.end ∙ ap (λ (b : Box). least_end b.base c.args.spot.volume c.args.spot.replica) c.state.view_is)
    (c.in-Ok.ensures.cells ∙ ap (λ (b : Box). least_cells b.base c.args.spot.volume c.args.spot.replica) c.state.view_is)
    c.most_end-most.ensures c.most_cells-many.ensures c.if-not-fits_file.ensures.same refl c.as_number-end.ensures c.no_slack.ensures c.in_ok-made.ensures
