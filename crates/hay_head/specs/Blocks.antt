-- Blocks of a file.
use Rattle.std.specs.Prelude.{◌≡◌, ◌≤◌, ◌+◌, ◌-◌, ℕ, List, length, take, drop}
use Rattle.hay_head.specs.declared.blocks.BlockReader.{BlockReader}

-- The first `len` bytes of the room are those of the file from `start` on.
pub record IsBlock (start len : ℕ) (room file : List ℕ) : Type 0 where
  pub bytes : take len room ≡ take len (drop start file)
  pub within : len ≤ length file - start

-- a reader's block is of this file
abbrev pub HasBlockOf : List ℕ → BlockReader → Type 0
HasBlockOf file reader = IsBlock reader.start reader.len reader.room file

-- where a reader's block ends
abbrev pub block_end : BlockReader → ℕ
block_end reader = reader.start + reader.len

-- a reader's block has this place, or ends there
pub record Reaches (reader : BlockReader) (at : ℕ) : Type 0 where
  pub begun : reader.start ≤ at
  pub not_passed : at ≤ block_end reader
