-- What a run leaves of the numbers of fuses that were set on disks.
use Rattle.std.specs.Prelude.{◌≡◌, ◌≢◌, ℕ, ◌-◌, ◌^◌, ◌≤◌, min, List, Option, Some}
use Rattle.std.specs.List.{AllByRecursion as Each}
use Rattle.hay_script.specs.declared.Command.TheVariants as asks
use Rattle.hay_legal.specs.declared.turn.Item.TheVariants as item
use Rattle.hay_legal.specs.Items.{Asked, items_of}
use Rattle.hay_legal.specs.Items.Asked.{Alone}

-- The number of a disk, counted up to 2 ^ 64 - 1, does not fall.
abbrev pub KeepsFuses : ℕ → ℕ → Type 0
KeepsFuses before after = min before (2 ^ 64 - 1) ≤ after

-- no fuse is asked for, outside of blocks, in which no line sets one
abbrev pub IsNoFuse : Asked → Type 0
IsNoFuse asked = (number : ℕ) → ((v m calls : ℕ) → asked ≢ Alone number (item.Command (asks.Fuse v m calls))) × ((calls : ℕ) → asked ≢ Alone number (item.Command (asks.FuseDir calls)))

-- A source that tells has a script that asks for none.
abbrev pub AsksNoFuse : Option (List ℕ) → Type 0
AsksNoFuse left = (script : List ℕ) × (left ≡ Some script) × Each IsNoFuse (items_of script)
