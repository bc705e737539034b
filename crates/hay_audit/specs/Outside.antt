-- What a line asks for.
use Rattle.std.specs.Prelude.{◌≤◌, length}
use Rattle.hay_needle.specs.declared.total.TheConstants.{MAX_PHOTO}
use Rattle.hay_script.specs.declared.Command.{Command}
use Rattle.hay_script.specs.declared.Command.TheVariants as command
use Rattle.hay_legal.specs.declared.turn.Item.{Item}
use Rattle.hay_legal.specs.declared.turn.Item.TheVariants as item
use Rattle.hay_legal.specs.Items.{Asked}
use Rattle.hay_legal.specs.Items.Asked.{Alone, Block}

abbrev pub IsRestart : Item → Type 0
IsRestart (item.Command (command.Restart pick)) = Unit {0}
IsRestart asked = ⊥

-- a photo that is no larger than a photo may be
abbrev pub IsWithinItem : Item → Type 0
IsWithinItem (item.Command (command.Put pair bytes)) = length bytes ≤ MAX_PHOTO
IsWithinItem asked = Unit {0}

-- an item that is no block, with no larger photo
abbrev pub IsWithinAsked : Asked → Type 0
IsWithinAsked (Alone line asked) = IsWithinItem asked
IsWithinAsked (Block lines) = ⊥

-- a command that names one replica
abbrev pub IsNamed : Command → Type 0
IsNamed (command.Flush v m) = Unit {0}
IsNamed (command.Compact v m) = Unit {0}
IsNamed (command.Begin v m) = Unit {0}
IsNamed (command.Step v m n) = Unit {0}
IsNamed (command.Finish v m) = Unit {0}
IsNamed (command.Fuse v m n) = Unit {0}
IsNamed asked = ⊥

-- a command that names none, and neither stores nor restarts
abbrev pub IsUnnamed : Command → Type 0
IsUnnamed (command.Read pair cookie) = Unit {0}
IsUnnamed (command.Get url) = Unit {0}
IsUnnamed (command.Del pair) = Unit {0}
IsUnnamed (command.Url pair) = Unit {0}
IsUnnamed (command.Drain m) = Unit {0}
IsUnnamed (command.Undrain m) = Unit {0}
IsUnnamed (command.FuseDir n) = Unit {0}
IsUnnamed asked = ⊥
