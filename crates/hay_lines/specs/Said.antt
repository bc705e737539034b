-- What a line says next.
use Rattle.std.specs.Prelude.{◌≡◌, ℕ, Bool, true, List, [], Option, Some, None}
use Rattle.hay_script.specs.declared.Line.{Line}
use Rattle.hay_script.specs.Script.{line_of}
use Rattle.hay_lines.specs.Stream.{TookAll}
use Rattle.hay_lines.specs.Lines.{TookLine}

-- what came next says this, outside of a block or in one of so many lanes
abbrev pub SaysNext : Option ℕ → Option Line → Option (List ℕ) → Option (List ℕ) → Bool → Type 0
SaysNext lanes None before after ended = TookAll before [] after × (ended ≡ true)
SaysNext lanes (Some said) before after ended =
    (text : List ℕ) × TookLine before text after ended × (said ≡ line_of lanes text)
