use Rattle.std.proofs.Common.{◌≡◌, Some, ap, sym, ◌∙◌}
use Rattle.hay_legal.specs.Known.{empty_volume, volume_at}
use Rattle.hay_audit_steps.specs.Boxes.{Box}
use Rattle.hay_audit.proofs.Lowest.{lacking_nowhere}
use Rattle.hay_audit.proofs.closed.lacking_of.Goals as goal

pub returns-in_default : goal.returns-in_default
returns-in_default c =
    let told : Some empty_volume ≡ Some (volume_at c.state.inside.base c.args.volume) = c.in_default.ensures in
    let none : volume_at c.state.inside.base c.args.volume ≡ empty_volume = cc in
    lacking_nowhere c.args.settings.now c.args.size c.args.volume c.args.state.now
    (ap (λ (b : Box). volume_at b.base c.args.volume) (sym c.state.view_is) ∙ none)
