-- What calls that change a volume answer, or see its places, as steps of a lane.
use Rattle.std.specs.Prelude.{◌≡◌, ℕ, ◌<◌, List, length, Option, Some, None, option_map, Bool, true, false, Result, Ok, Err}
use Rattle.hay_core.specs.declared.entry.CoreTag.{CoreTag}
use Rattle.hay_core.specs.declared.entry.Entry.{Entry}
use Rattle.hay_holdings.specs.Holdings.{Called}
use Rattle.hay_holdings.specs.Volumes.{ChangedNothing, FailedOn, MetFrozen, PutFailed, PutStored, PutWanted, RoomLacks, SightWanted, VolumeCall}
use Rattle.hay_logical.specs.declared.logical.Looked.{Looked}
use Rattle.hay_map.specs.Places.{PlaceMeans, place_in}
use Rattle.hay_meeting.specs.declared.act.VolumeAct.{VolumeAct}
use Rattle.hay_meeting.specs.Facts.{front_shown, table_shown}
use Rattle.hay_meeting.specs.Locks.{LockSight}
use Rattle.hay_needle.specs.Tables.{outcome_at}
use Rattle.hay_logical.specs.declared.fault.LogicalFault.{LogicalFault}
use Rattle.hay_logical.specs.declared.fault.LogicalFault.TheVariants.{Busy, Damaged, Failed, Full, Gone, Idle, NoMemory, ReadOnly, Worn}
use Rattle.hay_meeting.specs.Acts.{volume_lock}
use Rattle.hay_needle.specs.declared.needle.Cookie.{Cookie}
use Rattle.hay_needle.specs.declared.needle.Pair.{Pair}
use Rattle.hay_reply.specs.declared.Refused.TheVariants.{NoRoom}
use Rattle.hay_volume_lock.specs.Answers.{FailedLook, Never, StoreVolume, Where}
use Rattle.hay_volume_lock.specs.Rows.{PlaceTells}
use Rattle.hay_volume_lock.specs.declared.act.Made.{Made}
use Rattle.hay_volume_lock.specs.declared.act.Made.TheVariants as made

-- WHAT WAS DONE

-- a volume that is frozen by this machine has the change pending; else nothing was changed
abbrev pub pends_by : Option ℕ → Entry → Bool → Option Made
pends_by frozen change failed = option_map (λ m. made.Pends m change failed) frozen

-- a put that was refused
abbrev pub put_made : Option ℕ → Entry → LogicalFault → Option Made
put_made frozen change (Failed m f) = Some (made.Pends m change true)
put_made frozen change NoMemory = pends_by frozen change false
put_made frozen change (ReadOnly m) = None
put_made frozen change (Full m end need capacity) = None
put_made frozen change (Gone front) = None
put_made frozen change (Busy m g) = None
put_made frozen change (Worn m) = None
put_made frozen change Idle = None
put_made frozen change (Damaged m at) = None

-- a volume that was frozen for want of memory, unless it was frozen before
abbrev pub freezes_by : Option ℕ → Option ℕ → Option Made
freezes_by None frozen = option_map (λ m. made.Freezes m) frozen
freezes_by (Some by) frozen = None

-- WHAT IT ANSWERS

module _ (volume : StoreVolume) (tag : CoreTag) where
  -- the disk on this machine failed in the act, and its count rose to this
  abbrev pub DiskFailed : ℕ → ℕ → VolumeCall
  DiskFailed m f = Called volume_lock tag (FailedOn volume.settings volume.start volume.number m f)

  -- PLACES THAT ARE SEEN

  -- The place is the one of the photo that the replica had at the front that is shown. So is each other place that was looked at.
  pub record PlaceSeen {P : Type 0} (PieceTells : Type 0) (pair : Pair) (j : ℕ) (looked : Looked P) (a b : LockSight VolumeAct Entry) : Type 0 where
    pub call : ChangedNothing volume.settings volume.start volume.number tag a b
    pub front : looked.front ≡ front_shown volume.start volume.number b.shown
    pub means : PlaceMeans PieceTells pair (place_in looked.row j) (outcome_at (table_shown volume.start volume.number j b.shown) pair)
    pub places : (i : ℕ) → i < (volume.settings).replicas → PlaceTells PieceTells pair (place_in looked.row i) (outcome_at (table_shown volume.start volume.number i b.shown) pair)

  abbrev pub SeeRefused : ℕ → LogicalFault → VolumeCall
  SeeRefused j (Failed m f) = FailedLook volume tag j m f
  SeeRefused j NoMemory = SightWanted volume.settings volume.start volume.number tag
  SeeRefused j (ReadOnly m) = Never
  SeeRefused j (Full m end need capacity) = Never
  SeeRefused j (Gone front) = Never
  SeeRefused j (Busy m g) = Never
  SeeRefused j (Worn m) = Never
  SeeRefused j Idle = Never
  SeeRefused j (Damaged m at) = Never

  abbrev pub SeeAnswer : {P : Type 0} → Type 0 → Pair → ℕ → Result (Looked P) LogicalFault → VolumeCall
  SeeAnswer PieceTells pair j (Ok looked) = PlaceSeen PieceTells pair j looked
  SeeAnswer PieceTells pair j (Err fault) = SeeRefused j fault

  -- PUTS

  abbrev pub PutRefused : Pair → Cookie → List ℕ → LogicalFault → VolumeCall
  PutRefused pair cookie bytes (ReadOnly m) = MetFrozen volume.settings volume.start volume.number tag m
  PutRefused pair cookie bytes (Full m end need capacity) =
      Where (capacity ≡ (volume.settings).capacity) (RoomLacks volume.settings volume.start volume.number tag (length bytes) (NoRoom volume.number m end need))
  PutRefused pair cookie bytes (Failed m f) = PutFailed volume.settings volume.start volume.number tag pair cookie bytes m f
  PutRefused pair cookie bytes NoMemory = PutWanted volume.settings volume.start volume.number tag pair cookie bytes
  PutRefused pair cookie bytes (Gone front) = Never
  PutRefused pair cookie bytes (Busy m g) = Never
  PutRefused pair cookie bytes (Worn m) = Never
  PutRefused pair cookie bytes Idle = Never
  PutRefused pair cookie bytes (Damaged m at) = Never

  abbrev pub PutAnswer : Pair → Cookie → List ℕ → Result ℕ LogicalFault → VolumeCall
  PutAnswer pair cookie bytes (Ok p) = PutStored volume.settings volume.start volume.number tag pair cookie bytes p
  PutAnswer pair cookie bytes (Err fault) = PutRefused pair cookie bytes fault
