-- The lock of a volume, as it is made for a block of lines and ends, and what is told of it.
use Rattle.std.specs.Prelude.{◌≡◌, ℕ, ◌+◌, ◌-◌, ◌^◌, ◌<◌, ◌≤◌, List, length, map, slice_get, Some}
use Rattle.std.specs.List.{AllByRecursion as Each}
use Rattle.hay_needle.specs.declared.settings.Settings.{Settings}
use Rattle.hay_needle.specs.declared.settings.TheConstants.{LAST_GENERATION}
use Rattle.hay_disk.specs.Disk.{Files}
use Rattle.hay_core.specs.declared.entry.Entry.{Entry}
use Rattle.hay_front.specs.declared.front.Tag.{Tag}
use Rattle.hay_legal.specs.declared.known.Run.{Run}
use Rattle.hay_legal.specs.declared.known.VolumeKnown.{VolumeKnown}
use Rattle.hay_legal.specs.Known.{replica_at}
use Rattle.hay_logical.specs.Stands.{Stands}
use Rattle.hay_logical.specs.Volumes.{HasSupers, IsOfSettings, IsOpenVolume, Volume}
use Rattle.hay_history.specs.LaneSteps.{Follows, Standing}
use Rattle.hay_meeting.specs.declared.act.VolumeAct.{VolumeAct}
use Rattle.hay_meeting.specs.Acts.{IsSized, Start, volume_lock}
use Rattle.hay_meeting.specs.Locks.{LockSight, left, replayed}
use Rattle.hay_volume_lock.specs.Acts.{SetNoFuse}
use Rattle.hay_volume_lock.specs.Keeping.{IsOpened, count_at}
use Rattle.hay_volume_lock.specs.declared.guarded.Opened.{Opened}
use Rattle.hay_shared_volume.specs.Ends.{Ended, entered_lines, unseen}
use Rattle.hay_shared_volume.specs.Tellings.{StoreVolume}
use Rattle.hay_shared_volume.specs.declared.volume.SharedVolume.{SharedVolume}

-- A VOLUME

-- its disks tell what they have, and it stands for this
pub record VolumeStands {D P : Type 0} (Tells : Type 0) (files : D → Files) (PieceTells : Type 0) (volume : Volume D P) (known : VolumeKnown) : Type 0 where
  pub tells : Tells
  pub stands : Stands files PieceTells volume known

-- the count of the disk of a replica
abbrev pub count_of : {D P : Type 0} → (D → ℕ) → Volume D P → ℕ → ℕ
count_of count volume j = count_at count volume.replicas j

-- it is the open volume of this number of a store of these settings, and each replica has the superblock of its place
pub record IsVolumeOf {D P : Type 0} (volume : Volume D P) (settings : Settings) (number : ℕ) : Type 0 where
  pub settings_are : volume.settings ≡ settings
  pub number_is : volume.number ≡ number
  pub of : IsOfSettings settings number
  pub is_open : IsOpenVolume volume
  pub sups : HasSupers volume

-- The lock was made of this volume, for so many lanes, and the room for their seats.
pub record IsMadeOf {D P : Type 0} (shared : SharedVolume D P) (room : ℕ) (volume : Volume D P) (settings : Settings) (number lanes : ℕ) : Type 0 where
  pub of : IsVolumeOf volume settings number
  pub settings_are : shared.settings ≡ settings
  pub some : 0 < lanes
  pub room_is : room ≡ lanes
  pub seats : (shared.first).value.seats ≡ lanes
  pub opened : Opened D P
  pub is : (shared.first).value.start ≡ Some opened
  pub from : IsOpened opened
  pub volume_is : opened.volume ≡ volume

-- WHAT A BLOCK BEGINS WITH

-- a volume with all its replicas, none of which ends within its superblock, and whose compactions make the next generation
pub record IsRegularVolume (settings : Settings) (volume : VolumeKnown) : Type 0 where
  pub replicas : length volume.replicas ≡ settings.replicas
  pub ends : (j : ℕ) → j < settings.replicas → 64 ≤ (replica_at volume j).end
  pub numbers : (j : ℕ) → j < settings.replicas → (run : Run) → (replica_at volume j).run ≡ Some run → (replica_at volume j).generation < LAST_GENERATION
  pub runs : (j : ℕ) → j < settings.replicas → (run : Run) → (replica_at volume j).run ≡ Some run → run.goal ≡ (replica_at volume j).generation + 1

-- SEATS

-- each lane has its seat of the lock, in the lanes' order
pub record AreSeated {V S : Type 0} (fits : V → Settings → ℕ → S → Type 0) (lock : V) (settings : Settings) (lanes : ℕ) (seats : List S) : Type 0 where
  pub many : length seats ≡ lanes
  pub each : (lane : ℕ) (seat : S) → slice_get seats lane ≡ Some seat → fits lock settings lane seat

-- and none of them has seen, made or been shown anything
pub record AreUnseen {S E X : Type 0} (of : S → LockSight E X) (seats : List S) : Type 0 where
  pub each : (lane : ℕ) (seat : S) → slice_get seats lane ≡ Some seat → of seat ≡ unseen

-- WHERE THE LOCK IS MADE, AND WHERE IT ENDS

-- what stands of a volume where this is known of it, with the counts of its disks by replica
abbrev pub standing : {W : Type 0} → (W → ℕ → ℕ) → (W → ℕ → ℕ) → W → VolumeKnown → Standing
standing faults fuses volume known = record { volume = known; faults = faults volume; fuses = fuses volume }

-- where that stands, the seats are of a lock that was made round this volume of a store
abbrev pub AreAt : {S W : Type 0} → (S → StoreVolume → Type 0) → (W → VolumeKnown → Type 0) → (W → ℕ → ℕ) → (W → ℕ → ℕ) → Settings → ℕ → W → List S → Type 0
AreAt {S} is_at stands faults fuses settings number volume seats =
    (lane : ℕ) (seat : S) → slice_get seats lane ≡ Some seat → (known : VolumeKnown) → stands volume known → (start : Start) → start.volumes number ≡ standing faults fuses volume known
    → is_at seat (record { settings = settings; start = start; number = number })

module _ {S W : Type 0} (of : S → LockSight VolumeAct Entry) (stands : W → VolumeKnown → Type 0) (faults fuses : W → ℕ → ℕ) where
  abbrev stood_by : W → VolumeKnown → List VolumeAct → Standing
  stood_by volume known acts = left volume_lock (standing faults fuses volume known) acts

  -- Its lock ended with these seats, and left what one history of acts left of it, with the lines of the changes that were entered.
  pub record LeavesVolume (settings : Settings) (number : ℕ) (volume : W) (seats : List S) (after : W) (tags : List Tag) : Type 0 where
    pub history : List VolumeAct
    pub ended : Ended volume_lock (map of seats) history
    pub sized : Each (IsSized settings.replicas) history
    pub lines : map (λ tag. tag.line) tags ≡ entered_lines history
    pub follows : (known : VolumeKnown) → stands volume known → Follows settings number (standing faults fuses volume known) (replayed volume_lock (standing faults fuses volume known) history)
    pub stands_for : (known : VolumeKnown) → stands volume known → stands after (stood_by volume known history).volume
    -- whatever its disks tell
    pub faults_are : (known : VolumeKnown) (j : ℕ) → j < settings.replicas → (stood_by volume known history).faults j ≡ faults after j
    pub fuses_are : (known : VolumeKnown) (j : ℕ) → j < settings.replicas → (stood_by volume known history).fuses j ≡ fuses after j
    pub rises : (j : ℕ) → j < settings.replicas → faults volume j ≤ faults after j
    pub fuses_stay : SetNoFuse history → (j : ℕ) → j < settings.replicas → fuses after j ≡ fuses volume j
    pub small : (j : ℕ) → j < settings.replicas → faults after j ≤ 2 ^ 64 - 1
