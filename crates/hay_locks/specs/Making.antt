-- The Directory's lock, as it is made for a block of lines, and what is told of it.
use Rattle.std.specs.Prelude.{◌≡◌, ℕ, ◌<◌, Bool, List, Some}
use Rattle.hay_needle.specs.declared.settings.Settings.{Settings}
use Rattle.hay_disk.specs.Disk.{Files}
use Rattle.hay_legal.specs.declared.known.DirKnown.{DirKnown}
use Rattle.hay_directory.specs.State.{IsUp, State, Stands as StandsRows}
use Rattle.hay_directory_lock.specs.Begun.{BegunAt}
use Rattle.hay_locks.specs.declared.directory.SharedDirectory.{SharedDirectory}

-- its disk tells what it has, and it stands for this, with these machines drained
pub record DirectoryStands {D : Type 0} (Tells : Type 0) (files : D → Files) (directory : State D) (known : DirKnown) (drained : List Bool) : Type 0 where
  pub tells : Tells
  pub stands : StandsRows files directory known drained

-- the count of its disk
abbrev pub rows_count_of : {D : Type 0} → (D → ℕ) → State D → ℕ
rows_count_of count directory = count directory.disk

-- it is an open Directory of a store of these settings
pub record IsDirectoryOf {D : Type 0} (directory : State D) (settings : Settings) : Type 0 where
  pub settings_are : directory.settings ≡ settings
  pub up : IsUp directory

-- The lock was made of this Directory, for so many lanes, and the room for their seats.
pub record IsMadeOfRows {D P : Type 0} (shared : SharedDirectory D P) (room : ℕ) (directory : State D) (settings : Settings) (lanes : ℕ) : Type 0 where
  pub of : IsDirectoryOf directory settings
  pub some : 0 < lanes
  pub room_is : room ≡ lanes
  pub seats : (shared.lock).seats ≡ lanes
  pub begun : BegunAt D
  pub is : ((shared.first).value.turn).start ≡ Some begun
  pub directory_is : begun.directory ≡ directory
