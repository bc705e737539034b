-- What a turn reads.
use Rattle.std.specs.Prelude.{ℕ, List, [], ◌∷◌}
use Rattle.hay_script.specs.Script.{IsWithinLine}
use Rattle.hay_legal.specs.Items.{Asked, outside}
use Rattle.hay_legal.specs.Items.Asked.{Block}
use Rattle.hay_run.specs.declared.turns.TurnRead.{TurnRead}
use Rattle.hay_run.specs.declared.turns.TurnRead.TheVariants as read
use Rattle.hay_run.specs.Blocks.{IsBlockOf}

-- what it asks for, where its first line has this number
abbrev pub items_asked : ℕ → TurnRead → List Asked
items_asked number read.Nothing = []
items_asked number (read.Line said) = (outside number said).0
items_asked number (read.Block block) = Block block.lines ∷ []

-- its photos are no larger than one may be, and a block's lines are those of a block
abbrev pub FitsRead : TurnRead → Type 0
FitsRead read.Nothing = Unit {0}
FitsRead (read.Line said) = IsWithinLine said
FitsRead (read.Block block) = IsBlockOf block.lanes block.lines
