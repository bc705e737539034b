use Rattle.std.proofs.Common.{◌≡◌, ◌++◌, length}
use Rattle.std.specs.Prelude.{option_map}
use Rattle.hay_reply.specs.Reading.{all_of, left_parts}
use Rattle.hay_reply.proofs.lists.read_groups.Given as goal

abbrev pub invariant-loop-word : goal.invariant-loop-word
invariant-loop-word g l =
    all_of g.G.Written.of_word (left_parts 32 l.initial.left) ≡ option_map (λ more. l.groups ++ more) (all_of g.G.Written.of_word (left_parts 32 l.left))

abbrev pub decreases-loop-word : goal.decreases-loop-word
decreases-loop-word g l = length (left_parts 32 l.left)
