-- What the calls at a volume answer, as steps of a lane.
use Rattle.std.specs.Prelude.{◌≡◌, ℕ, List, Option, Some, None, Result, Ok, Err}
use Rattle.hay_core.specs.declared.entry.CoreTag.{CoreTag}
use Rattle.hay_disk.specs.Disk.{Files}
use Rattle.hay_legal.specs.declared.known.VolumeKnown.{VolumeKnown}
use Rattle.hay_legal.specs.Known.{machine_of}
use Rattle.hay_logical.specs.declared.fault.LogicalFault.{LogicalFault}
use Rattle.hay_logical.specs.declared.fault.LogicalFault.TheVariants.{Busy, Damaged, Failed, Full, Gone, Idle, NoMemory, ReadOnly, Worn}
use Rattle.hay_logical.specs.Stands.{Stands}
use Rattle.hay_meeting.specs.declared.act.VolumeAct.{VolumeAct}
use Rattle.hay_meeting.specs.Acts.{Start, volume_lock}
use Rattle.hay_needle.specs.declared.settings.Settings.{Settings}
use Rattle.hay_reply.specs.declared.Refused.TheVariants.{NoRoom}
use Rattle.hay_meeting.specs.Locks.{LockSight}
use Rattle.hay_core.specs.declared.entry.Entry.{Entry}
use Rattle.hay_holdings.specs.Holdings.{Called, Holding, Looked}
use Rattle.hay_holdings.specs.Volumes.{BeginFailed, Begun, ChangedNothing, FlushFailed, Flushed, MetBusy, MetFrozen, MetStuck, MetThawed, MetWorn, RoomFits, RoomLacks, SightFailed, VolumeCall}
use Rattle.hay_turn.specs.Slots.{acts_in}
use Rattle.hay_volume_lock.specs.Acts.{SetNoFuse}
use Rattle.hay_volume_lock.specs.Keeping.{IsKept, standing_of}
use Rattle.hay_volume_lock.specs.declared.guarded.Guarded.{Guarded}
use Rattle.hay_volume_lock.specs.declared.guarded.Opened.{Opened}
use Rattle.hay_volume_lock.specs.declared.refusals.Unflushed.{Unflushed}

-- WHAT STOOD

-- a volume of a store, with what stands of all volumes where it is opened
pub record StoreVolume : Type 0 where
  pub settings : Settings
  pub start : Start
  pub number : ℕ

-- the volume that was opened, if this is known of it
pub record IsAt {D P : Type 0} (faults fuses : D → ℕ) (opened : Opened D P) (k : VolumeKnown) (volume : StoreVolume) : Type 0 where
  pub settings : volume.settings ≡ (opened.volume).settings
  pub number : volume.number ≡ (opened.volume).number
  pub start : ((volume.start).volumes) volume.number ≡ standing_of faults fuses opened k

-- so it is whatever the disk tells
abbrev pub IsAlways : {D P : Type 0} → (D → ℕ) → (D → ℕ) → Option (Opened D P) → (StoreVolume → Type 0) → Type 0
IsAlways {D} {P} faults fuses opened IsSo = (o : Opened D P) → opened ≡ Some o → (k : VolumeKnown) (volume : StoreVolume) → IsAt faults fuses o k volume → IsSo volume

module _ {D P : Type 0} (Tells : Type 0) (files : D → Files) (PieceTells : Type 0) (faults fuses : D → ℕ) where
  -- so it is where the disk tells, for all that the volume stood for when it was opened
  abbrev pub IsTold : Option (Opened D P) → (StoreVolume → Type 0) → Type 0
  IsTold opened IsSo =
      (o : Opened D P) → opened ≡ Some o → Tells → (k : VolumeKnown) → Stands files PieceTells o.volume k → (volume : StoreVolume) → IsAt faults fuses o k volume → IsSo volume

  -- A holding for the line that found the volume so and made this act is such a call: where the disk tells, and whatever it tells.
  abbrev pub Found : CoreTag → Guarded D P → Option VolumeAct → (StoreVolume → VolumeCall) → Type 0
  Found tag old made Is =
      (opened : Opened D P) (held : List VolumeAct) → IsKept Tells files PieceTells faults fuses opened held old
      → Tells → (k : VolumeKnown) → Stands files PieceTells opened.volume k → (volume : StoreVolume) → IsAt faults fuses opened k volume
      → (a b : LockSight VolumeAct Entry) → Holding volume_lock tag held made a b → Is volume a b

  abbrev pub FoundAlways : CoreTag → Guarded D P → Option VolumeAct → (StoreVolume → VolumeCall) → Type 0
  FoundAlways tag old made Is =
      (opened : Opened D P) (held : List VolumeAct) → IsKept Tells files PieceTells faults fuses opened held old
      → (k : VolumeKnown) (volume : StoreVolume) → IsAt faults fuses opened k volume
      → (a b : LockSight VolumeAct Entry) → Holding volume_lock tag held made a b → Is volume a b

-- one holding, whatever it found
abbrev pub OneHolding : CoreTag → VolumeCall
OneHolding tag = Called volume_lock tag (λ held made. Unit {0})

-- and it set no fuse
abbrev pub UnfusedHolding : CoreTag → VolumeCall
UnfusedHolding tag = Called volume_lock tag (λ held made. SetNoFuse (acts_in made))

-- a look without the lock
abbrev pub OneLook : VolumeCall
OneLook a b = Looked a b

abbrev pub Never : VolumeCall
Never a b = ⊥

-- both are so
abbrev pub Where : Type 0 → VolumeCall → VolumeCall
Where IsSo Is a b = IsSo × Is a b

module _ (volume : StoreVolume) (tag : CoreTag) where
  -- WHETHER IT TAKES A CHANGE

  abbrev pub FrozenAnswer : Option ℕ → VolumeCall
  FrozenAnswer None = MetThawed volume.settings volume.start volume.number tag
  FrozenAnswer (Some m) = MetFrozen volume.settings volume.start volume.number tag m

  abbrev pub RoomRefused : ℕ → LogicalFault → VolumeCall
  RoomRefused size (ReadOnly m) = MetFrozen volume.settings volume.start volume.number tag m
  RoomRefused size (Full m end need capacity) =
      Where (capacity ≡ (volume.settings).capacity) (RoomLacks volume.settings volume.start volume.number tag size (NoRoom volume.number m end need))
  RoomRefused size (Failed m f) = Never
  RoomRefused size (Gone front) = Never
  RoomRefused size (Busy m g) = Never
  RoomRefused size (Worn m) = Never
  RoomRefused size Idle = Never
  RoomRefused size (Damaged m at) = Never
  RoomRefused size NoMemory = Never

  abbrev pub RoomAnswer : ℕ → Result Unit LogicalFault → VolumeCall
  RoomAnswer size (Ok done) = RoomFits volume.settings volume.start volume.number tag size
  RoomAnswer size (Err fault) = RoomRefused size fault

  -- a call of the disk of replica j failed, and nothing was changed
  abbrev pub FailedLook : ℕ → ℕ → ℕ → VolumeCall
  FailedLook j m f = Where (m ≡ machine_of volume.settings volume.number j) (SightFailed volume.settings volume.start volume.number tag j f)

  -- FLUSHES

  -- The volume is frozen, by the machine that is told; or it is not, and an earlier flush of the replica had failed.
  abbrev pub FlushBarred : ℕ → ℕ → Option ℕ → VolumeCall
  FlushBarred j m (Some by) = MetFrozen volume.settings volume.start volume.number tag m
  FlushBarred j m None = Where (m ≡ machine_of volume.settings volume.number j) (MetStuck volume.settings volume.start volume.number tag j)

  abbrev pub FlushRefused : ℕ → LogicalFault → Option ℕ → VolumeCall
  FlushRefused j (ReadOnly m) frozen = FlushBarred j m frozen
  FlushRefused j (Failed m f) frozen = Where (m ≡ machine_of volume.settings volume.number j) (FlushFailed volume.settings volume.start volume.number tag j f)
  FlushRefused j NoMemory frozen = ChangedNothing volume.settings volume.start volume.number tag
  FlushRefused j (Full m end need capacity) frozen = Never
  FlushRefused j (Gone front) frozen = Never
  FlushRefused j (Busy m g) frozen = Never
  FlushRefused j (Worn m) frozen = Never
  FlushRefused j Idle frozen = Never
  FlushRefused j (Damaged m at) frozen = Never

  abbrev pub FlushAnswer : ℕ → Result ℕ Unflushed → VolumeCall
  FlushAnswer j (Ok n) = Flushed volume.settings volume.start volume.number tag j n
  FlushAnswer j (Err unflushed) = FlushRefused j unflushed.fault unflushed.frozen

  -- COMPACTIONS THAT BEGIN

  abbrev pub BeginRefused : ℕ → LogicalFault → VolumeCall
  BeginRefused j (ReadOnly m) = MetFrozen volume.settings volume.start volume.number tag m
  BeginRefused j (Busy m g) = Where (m ≡ machine_of volume.settings volume.number j) (MetBusy volume.settings volume.start volume.number tag j g)
  BeginRefused j (Worn m) = Where (m ≡ machine_of volume.settings volume.number j) (MetWorn volume.settings volume.start volume.number tag j)
  BeginRefused j (Failed m f) = Where (m ≡ machine_of volume.settings volume.number j) (BeginFailed volume.settings volume.start volume.number tag j f)
  BeginRefused j NoMemory = ChangedNothing volume.settings volume.start volume.number tag
  BeginRefused j (Full m end need capacity) = Never
  BeginRefused j (Gone front) = Never
  BeginRefused j Idle = Never
  BeginRefused j (Damaged m at) = Never

  abbrev pub BeginAnswer : ℕ → Result ℕ LogicalFault → VolumeCall
  BeginAnswer j (Ok g) = Begun volume.settings volume.start volume.number tag j g
  BeginAnswer j (Err fault) = BeginRefused j fault
