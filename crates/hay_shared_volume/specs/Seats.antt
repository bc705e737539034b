-- A volume's lock that lanes share, and their seats.
use Rattle.std.specs.Prelude.{◌≡◌, ℕ, ◌<◌, Some}
use Rattle.hay_needle.specs.declared.settings.Settings.{Settings}
use Rattle.hay_disk.specs.Disk.{Files}
use Rattle.hay_core.specs.declared.entry.Entry.{Entry}
use Rattle.hay_legal.specs.declared.known.VolumeKnown.{VolumeKnown}
use Rattle.hay_logical.specs.Stands.{Stands}
use Rattle.hay_shared_volume.specs.Tellings.{StoreVolume}
use Rattle.hay_meeting.specs.declared.act.VolumeAct.{VolumeAct}
use Rattle.hay_meeting.specs.Locks.{LockSight}
use Rattle.hay_volume_lock.specs.Answers as locks
use Rattle.hay_volume_lock.specs.Answers.{IsAt}
use Rattle.hay_volume_lock.specs.Seats.{Rests, Seated}
use Rattle.hay_volume_lock.specs.declared.guarded.Opened.{Opened}
use Rattle.hay_shared_volume.specs.declared.volume.SharedVolume.{SharedVolume}

-- The seat is of this lock, which was made round volume v of a store of these settings, and of this lane. It is a seat like the first
-- one, but what it knows.
pub record IsSeatOf {D P : Type 0} (v : ℕ) (shared : SharedVolume D P) (settings : Settings) (lane : ℕ) (seat : Seated D P) : Type 0 where
  pub rests : Rests shared.lock seat
  pub number : seat.number ≡ lane
  pub few : lane < 8
  pub seats : seat.seats ≡ (shared.first).value.seats
  pub start : seat.start ≡ (shared.first).value.start
  pub opened : Opened D P
  pub is : (shared.first).value.start ≡ Some opened
  pub settings_are : (opened.volume).settings ≡ settings
  pub volume_is : (opened.volume).number ≡ v

-- what the seat's lane knows of the volume
abbrev pub sight_of : {D P : Type 0} → Seated D P → LockSight VolumeAct Entry
sight_of seat = seat.sight

-- a volume of a store, as the lock tells of it
abbrev pub at_lock : StoreVolume → locks.StoreVolume
at_lock volume = record { settings = volume.settings; start = volume.start; number = volume.number }

-- The disks tell what they have, and the seat's lock was made round this volume of a store.
pub record WasAt {D P : Type 0} (Tells : Type 0) (files : D → Files) (PieceTells : Type 0) (faults fuses : D → ℕ) (seat : Seated D P) (volume : StoreVolume) : Type 0 where
  pub opened : Opened D P
  pub is : seat.start ≡ Some opened
  pub tells : Tells
  pub known : VolumeKnown
  pub stands : Stands files PieceTells opened.volume known
  pub at : IsAt faults fuses opened known (at_lock volume)
