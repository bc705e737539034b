-- What stands where the locks of a block are made, and what they tell where they end.
use Rattle.std.specs.Prelude.{◌≡◌, ℕ, ◌<◌, ◌≤◌, List, [], length, map}
use Rattle.std.specs.List.{AllByRecursion as Each}
use Rattle.hay_needle.specs.declared.settings.Settings.{Settings}
use Rattle.hay_core.specs.declared.entry.Entry.{Entry}
use Rattle.hay_legal.specs.declared.known.HomeRow.{HomeRow}
use Rattle.hay_legal.specs.declared.known.Known.{Known}
use Rattle.hay_legal.specs.Known.{disk_count}
use Rattle.hay_legal.specs.Subject.{IsOf}
use Rattle.hay_history.specs.Commands.{IsRegular}
use Rattle.hay_history.specs.Histories.{first_of, first_rows}
use Rattle.hay_history.specs.LaneSteps.{Follows, FollowsRows}
use Rattle.hay_meeting.specs.declared.act.DirAct.{DirAct}
use Rattle.hay_meeting.specs.declared.act.VolumeAct.{VolumeAct}
use Rattle.hay_meeting.specs.Acts.{Happened, IsSized, Start, row_lock, volume_lock}
use Rattle.hay_meeting.specs.Locks.{LockSight, replayed}
use Rattle.hay_meeting.specs.Sights.{Agrees, Sight}
use Rattle.hay_shared_volume.specs.Ends.{Ended, unseen}

-- BEFORE THE LINES

-- a store that is such as lines need it
pub record IsSettled (settings : Settings) (k : Known) : Type 0 where
  pub store : IsOf settings k
  pub regular : IsRegular settings k
  pub disks : length k.faults ≡ disk_count settings

-- The locks were made round a store that stood at k.
pub record OpensAt (settings : Settings) (start : Start) (k : Known) : Type 0 where
  pub settled : IsSettled settings k
  pub volumes : (v : ℕ) → v < settings.volumes → Agrees settings.replicas (first_of settings k v) (start.volumes v)
  pub rows : first_rows k ≡ start.directory

-- what a lane knows whose seats are new
pub record IsNew (sight : Sight) : Type 0 where
  pub volumes : (v : ℕ) → sight.volumes v ≡ unseen
  pub directory : sight.directory ≡ unseen

-- WHERE THE LOCKS END

-- of volume v
pub record VolumeEnded (settings : Settings) (start : Start) (v : ℕ) (seats : List (LockSight VolumeAct Entry)) (history : List VolumeAct) : Type 0 where
  pub ended : Ended volume_lock seats history
  pub follows : Follows settings v (start.volumes v) (replayed volume_lock (start.volumes v) history)
  pub sized : Each (IsSized settings.replicas) history

-- of the Directory
pub record RowsEnded (start : Start) (seats : List (LockSight DirAct HomeRow)) (history : List DirAct) : Type 0 where
  pub ended : Ended row_lock seats history
  pub follows : FollowsRows start.directory (replayed row_lock start.directory history)

-- of all locks, by what the lanes know of them. There is none for other volumes, and nothing is known of one.
pub record LocksEnded (settings : Settings) (start : Start) (sights : List Sight) (h : Happened) : Type 0 where
  pub volumes : (v : ℕ) → v < settings.volumes → VolumeEnded settings start v (map (λ s. s.volumes v) sights) (h.volumes v)
  pub no_others : (v : ℕ) → settings.volumes ≤ v → h.volumes v ≡ []
  pub unknown : Each (λ s. (v : ℕ) → settings.volumes ≤ v → s.volumes v ≡ unseen) sights
  pub directory : RowsEnded start (map (λ s. s.directory) sights) h.directory
