use Rattle.std.proofs.Common.{ℕ, Option, ap, sym, ◌∙◌}
use Rattle.hay_reply.specs.declared.Refused.{Refused}
use Rattle.hay_legal.specs.Known.{closed, refusal_by}
use Rattle.hay_audit_steps.specs.Boxes.{Box}
use Rattle.hay_audit.specs.Ranging.{room_refused}
use Rattle.hay_audit.specs.Refusing.{refuses}
use Rattle.hay_audit.proofs.Lowest.{closed_low, refusal_low}
use Rattle.hay_audit.proofs.closed.refuses.Goals as goal

pub returns-in-Some : goal.returns-in-Some
returns-in-Some c =
    c.is_closed_so.ensures
    ∙ ap (λ (o : Option Refused). refuses o c.args.refused.now)
    (sym (closed_low c.args.settings.now c.args.size c.args.volume c.in-Some.machine c.args.state.now
    (ap (λ (b : Box). closed c.args.settings.now b.base c.args.volume) (sym c.state.view_is) ∙ sym c.closed.ensures ∙ c.in-Some.is)))

pub returns-in-None : goal.returns-in-None
returns-in-None c =
    c.has_no_room_so.ensures
    ∙ ap (λ (o : Option Refused). refuses o c.args.refused.now)
    (sym (refusal_low c.args.settings.now c.args.size c.args.volume c.args.state.now c.lacking_of-least.result c.lacking_of-least.ensures
    ∙ ap (λ (by : Option ℕ). refusal_by c.args.volume by (room_refused c.args.settings.now c.args.volume c.args.size c.lacking_of-least.result))
    (ap (λ (b : Box). closed c.args.settings.now b.base c.args.volume) (sym c.state.view_is) ∙ sym c.closed.ensures ∙ c.in-None.is)))
