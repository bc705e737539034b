use Rattle.std.proofs.Common.{List, ◌∷◌, ap, option_copied, ◌∙◌}
use Rattle.hay_audit_steps.specs.Boxes.{part_of}
use Rattle.hay_audit_steps.specs.Parts.{Part, as_it_was}
use Rattle.hay_audit.specs.Choosing.{part_list}
use Rattle.hay_audit.specs.Restarting.{change_list}
use Rattle.hay_audit.proofs.parts.reopened_parts.Goals as goal

pub returns : goal.returns
returns c =
    c.in_ok-made.ensures
    ∙ ap (λ (first : Part). first ∷ part_list c.in_ok-swapped.swapped) c.in_ok-first.ensures
    ∙ ap (λ (others : List Part). as_it_was c.args.volume.now (part_of c.args.old.now c.args.low c.args.high) (change_list (option_copied c.args.change)) (c.args.old.now).stuck
    ∷ others) (c.in_ok-swapped.ensures c.args.low)
