-- The items of a script: what stands alone, and what stands in a block of lanes.
use Rattle.std.specs.Prelude.{ℕ, ◌+◌, ◌==◌, Bool, nat_lt, List, [], ◌∷◌, ◌++◌, map, Option, Some, None, option_map, if◌then◌else◌}
use Rattle.std.specs.List.{list_any}
use Rattle.hay_script.specs.declared.Command.{Command}
use Rattle.hay_script.specs.declared.Command.TheVariants as command
use Rattle.hay_script.specs.declared.Line.{Line}
use Rattle.hay_script.specs.declared.Line.TheVariants as line
use Rattle.hay_script.specs.Script.{line_of, lines_of}
use Rattle.hay_script.specs.declared.words.TheConstants.{MAX_COMMANDS}
use Rattle.hay_legal.specs.declared.turn.Item.{Item}
use Rattle.hay_legal.specs.declared.turn.Item.TheVariants as item
use Rattle.hay_legal.specs.declared.turn.LaneItem.{LaneItem}
use Rattle.hay_legal.specs.declared.turn.Turn.{Turn}
use Rattle.hay_legal.specs.declared.turn.Turn.TheVariants.{Plain, Lanes, Restart}

-- A line of a block. A bad line has lane 0.
pub record InBlock : Type 0 where
  pub line : ℕ
  pub lane : ℕ
  pub item : Item

pub data Asked : Type 0 where
  Alone : ℕ → Item → Asked
  Block : List InBlock → Asked

-- A block that is not ended yet: its lanes, how many commands it has, and its lines.
pub record OpenBlock : Type 0 where
  pub lanes : ℕ
  pub commands : ℕ
  pub lines : List InBlock

abbrev pub empty_block : ℕ → OpenBlock
empty_block lanes = record { lanes = lanes; commands = 0; lines = [] }

abbrev pub with_bad : ℕ → OpenBlock → OpenBlock
with_bad number block = record block { lines = block.lines ++ record { line = number; lane = 0; item = item.Bad } ∷ [] }

-- a command behind the last one that a block may have is a bad line
abbrev pub with_command : ℕ → ℕ → Command → OpenBlock → OpenBlock
with_command number lane command block =
    if nat_lt block.commands MAX_COMMANDS
    then record block { commands = block.commands + 1; lines = block.lines ++ record { line = number; lane = lane; item = item.Command command } ∷ [] }
    else with_bad number block

-- what a line adds: whole items, and the block that is open behind it
abbrev pub outside : ℕ → Line → List Asked × Option OpenBlock
outside number line.Skip = ([], None)
outside number (line.Plain command) = (Alone number (item.Command command) ∷ [], None)
outside number (line.Lanes lanes) = ([], Some (empty_block lanes))
outside number line.Bad = (Alone number item.Bad ∷ [], None)
outside number (line.InLane lane command) = (Alone number item.Bad ∷ [], None)
outside number line.End = (Alone number item.Bad ∷ [], None)

abbrev pub inside : ℕ → OpenBlock → Line → List Asked × Option OpenBlock
inside number block line.Skip = ([], Some block)
inside number block line.End = (Block block.lines ∷ [], None)
inside number block (line.InLane lane command) = ([], Some (with_command number lane command block))
inside number block line.Bad = ([], Some (with_bad number block))
inside number block (line.Plain command) = ([], Some (with_bad number block))
inside number block (line.Lanes lanes) = ([], Some (with_bad number block))

abbrev pub added : ℕ → Option OpenBlock → Line → List Asked × Option OpenBlock
added number None line = outside number line
added number (Some block) line = inside number block line

abbrev pub lanes_open : Option OpenBlock → Option ℕ
lanes_open held = option_map (λ block. block.lanes) held

-- the end of the script closes a block
abbrev pub at_end : Option OpenBlock → List Asked
at_end None = []
at_end (Some block) = Block block.lines ∷ []

-- the items of lines, whose first has this number
abbrev pub items_from : ℕ → Option OpenBlock → List (List ℕ) → List Asked
items_from number held [] = at_end held
items_from number held (text ∷ texts) =
    let next = added number held (line_of (lanes_open held) text) in next.0 ++ items_from (number + 1) next.1 texts

-- the items of a script, whose lines are numbered from 1
abbrev pub items_of : List ℕ → List Asked
items_of script = items_from 1 None (lines_of script)

abbrev pub line_asked : LaneItem → InBlock
line_asked answered = record { line = answered.line; lane = answered.lane; item = answered.item }

-- what a turn answers
abbrev pub item_of_turn : Turn → Asked
item_of_turn (Plain number item reply after) = Alone number item
item_of_turn (Lanes items logs rows after) = Block (map line_asked items)
item_of_turn (Restart number pick reply notes after) = Alone number (item.Command (command.Restart pick))

-- the lines that a line feed ends
abbrev pub has_feed : List ℕ → Bool
has_feed bytes = list_any (λ b. b == 10) bytes

abbrev pub fed_part : List ℕ → List ℕ
fed_part [] = []
fed_part (b ∷ bytes) = if has_feed (b ∷ bytes) then b ∷ fed_part bytes else []

-- the whole items of lines, without a block that is open behind them
abbrev pub whole_items_from : ℕ → Option OpenBlock → List (List ℕ) → List Asked
whole_items_from number held [] = []
whole_items_from number held (text ∷ texts) =
    let next = added number held (line_of (lanes_open held) text) in next.0 ++ whole_items_from (number + 1) next.1 texts

-- the items of a script that breaks off
abbrev pub items_before : List ℕ → List Asked
items_before taken = whole_items_from 1 None (lines_of (fed_part taken))
