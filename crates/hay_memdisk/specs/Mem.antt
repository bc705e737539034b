-- What a file in memory stands for.
use Rattle.std.specs.Prelude.{◌≡◌, ◌≤◌, ◌<◌, ◌+◌, ℕ, true, List, Option, Some, None, length, min, max, get_or, ◌&&◌, ◌||◌, nat_lt, nat_le}
use Rattle.hay_disk.specs.Disk.{FileState, IsImage, IsSolid, IsFree, empty_file}
use Rattle.hay_memdisk.specs.declared.place.Place.{Place}
use Rattle.hay_memdisk.specs.declared.file.Seal.{Seal}
use Rattle.hay_memdisk.specs.declared.file.MemFile.{MemFile}
use Rattle.hay_memdisk.specs.Places.{no_place, is_sealed}

-- A place is loose where its flag says so, and past the length of the last sync, up to the greatest length since.
abbrev pub contents : List ℕ → List Place → List Seal → ℕ → ℕ → FileState
contents bytes places seals solid_len longest = record {
  now = bytes;
  loose = λ k. nat_lt k (max longest (length bytes)) && (nat_le solid_len k || (get_or places k no_place).loose);
  sealed = is_sealed seals;
  shortest = min solid_len (length bytes);
  longest = max longest (length bytes);
}

abbrev pub state_of : MemFile → FileState
state_of file = contents file.bytes.items file.places.items file.seals.items file.solid_len file.longest

-- how many bytes reads of a file gave
abbrev pub drawn_of : MemFile → ℕ
drawn_of file = file.drawn

-- a file that there is not is empty
abbrev pub file_at : Option MemFile → FileState
file_at None = empty_file
file_at (Some file) = state_of file

abbrev pub drawn_at : Option MemFile → ℕ
drawn_at None = 0
drawn_at (Some file) = file.drawn

-- a stop left this file of that one
pub record Cycles (old new : FileState) (after : ℕ) : Type 0 where
  pub left : IsImage old new.now
  pub solid : IsSolid new
  pub free : IsFree new
  pub drawn : after ≡ 0

-- all that reads give of the old file is on the disk, and no piece of the new one was given out
pub record Settles (old new : FileState) (before after : ℕ) : Type 0 where
  pub now : new.now ≡ old.now
  pub solid : IsSolid new
  pub free : IsFree new
  pub drawn : after ≡ before

-- those of the n places from `at` on that the file has, or had since its last sync, are loose
abbrev pub IsLooseIn : ℕ → ℕ → FileState → Type 0
IsLooseIn at n file = (k : ℕ) → at ≤ k → k < at + n → k < file.longest → file.loose k ≡ true

-- the file has its last solid length, and each loose byte its last solid value
pub record IsAsSynced (old : MemFile) (new : List ℕ) : Type 0 where
  pub long : length new ≡ old.solid_len
  pub bytes : (k : ℕ) → k < old.solid_len → (get_or old.places.items k no_place).loose ≡ true → get_or new k 0 ≡ (get_or old.places.items k no_place).solid
