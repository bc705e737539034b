use Rattle.std.proofs.Common.{◌≡◌, ◌≤◌, ◌+◌, length, drop}
use Rattle.std.specs.Prelude.{option_map}
use Rattle.hay_url.specs.Parts.{misfit}
use Rattle.hay_url.proofs.read.first_misfit.Given as goal

abbrev pub invariant-loop-at : goal.invariant-loop-at
invariant-loop-at l =
    (l.at ≤ length l.text) × (misfit l.template l.text ≡ option_map (λ further. l.at + further) (misfit (drop l.at l.template) (drop l.at l.text)))
