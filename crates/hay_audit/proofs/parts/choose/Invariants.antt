use Rattle.std.proofs.Common.{◌≡◌, ◌++◌, flat_map}
use Rattle.std.specs.Prelude.{map}
use Rattle.std.specs.Option.{option_copied}
use Rattle.hay_audit_steps.specs.Boxes as boxes
use Rattle.hay_audit_steps.specs.Parts as parts
use Rattle.hay_audit.specs.Choosing as choosing
use Rattle.hay_audit.specs.Restarting as restarting
use Rattle.hay_audit.proofs.parts.choose.Given as goal

abbrev pub invariant-loop-front : goal.invariant-loop-front
invariant-loop-front l =
    l.made ++ flat_map (λ front. map (choosing.behind front) (parts.reopened_parts l.volume (boxes.part_of l.old l.low l.high) (restarting.change_list (option_copied l.change))))
    l.front-iterator.rest.items
    ≡ flat_map (λ front. map (choosing.behind front) (parts.reopened_parts l.volume (boxes.part_of l.old l.low l.high) (restarting.change_list (option_copied l.change)))) l.fn.fronts
