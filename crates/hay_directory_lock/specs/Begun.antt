-- What stood where the lock was made.
use Rattle.std.specs.Prelude.{◌≡◌, Some}
use Rattle.hay_needle.specs.declared.needle.Pair.{Pair}
use Rattle.hay_legal.specs.Known.{home_in}
use Rattle.hay_directory.specs.State.{IsUp, State, home_of}
use Rattle.hay_views.specs.HomeLooks.{HomesAt, HomesShown}

-- the Directory, and what was published of its homes
pub record BegunAt (D : Type 0) : Type 0 where
  pub directory : State D
  pub view : HomesShown

-- a Directory that is up; its homes were published first
pub record IsBegun {D : Type 0} (begun : BegunAt D) : Type 0 where
  pub up : IsUp begun.directory
  pub homes : HomesAt
  pub base : (begun.view).base ≡ Some (homes, tt)
  pub volumes : homes.volumes ≡ ((begun.directory).settings).volumes
  pub same : (pair : Pair) → home_in homes.rows pair ≡ home_of begun.directory pair
