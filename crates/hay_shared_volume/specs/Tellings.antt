-- What calls at locks tell by their answers, as steps of a lane.
use Rattle.std.specs.Prelude.{◌≡◌, ◌⊎◌, ℕ, ◌≤◌, min, true, false, List, length, Option, Some, None}
use Rattle.hay_needle.specs.declared.needle.Pair.{Pair}
use Rattle.hay_needle.specs.declared.needle.Cookie.{Cookie}
use Rattle.hay_needle.specs.declared.settings.Settings.{Settings}
use Rattle.hay_reply.specs.declared.Refused.TheVariants.{NoRoom}
use Rattle.hay_core.specs.declared.entry.CoreTag.{CoreTag}
use Rattle.hay_legal.specs.Known.{machine_of}
use Rattle.hay_core.specs.declared.entry.Entry.{Entry}
use Rattle.hay_meeting.specs.declared.act.VolumeAct.{VolumeAct}
use Rattle.hay_meeting.specs.Acts.{Start}
use Rattle.hay_meeting.specs.Locks.{LockSight}
use Rattle.hay_holdings.specs.Volumes as calls
use Rattle.hay_holdings.specs.Volumes.{VolumeCall}
use Rattle.hay_shared_volume.specs.declared.answers.Room.{Room}
use Rattle.hay_shared_volume.specs.declared.answers.Room.TheVariants as room
use Rattle.hay_shared_volume.specs.declared.answers.Put.{Put}
use Rattle.hay_shared_volume.specs.declared.answers.Put.TheVariants as put
use Rattle.hay_shared_volume.specs.declared.answers.Delete.{Delete}
use Rattle.hay_shared_volume.specs.declared.answers.Delete.TheVariants as delete
use Rattle.hay_shared_volume.specs.declared.answers.Flush.{Flush}
use Rattle.hay_shared_volume.specs.declared.answers.Flush.TheVariants as flush
use Rattle.hay_shared_volume.specs.declared.answers.Begin.{Begin}
use Rattle.hay_shared_volume.specs.declared.answers.Begin.TheVariants as begin
use Rattle.hay_shared_volume.specs.declared.answers.Step.{Step}
use Rattle.hay_shared_volume.specs.declared.answers.Step.TheVariants as step
use Rattle.hay_shared_volume.specs.declared.answers.Finish.{Finish}
use Rattle.hay_shared_volume.specs.declared.answers.Finish.TheVariants as finish
use Rattle.hay_shared_volume.specs.declared.answers.Compaction.{Compaction}
use Rattle.hay_shared_volume.specs.declared.answers.Compaction.TheVariants as compaction

-- a volume of a store, with what stands of all locks where it is opened
pub record StoreVolume : Type 0 where
  pub settings : Settings
  pub start : Start
  pub number : ℕ

-- a call leaves the seat where it is
pub record Stays {L S P : Type 0} (fits : L → Settings → ℕ → S → Type 0) (is_at : S → P → Type 0) (lock : L) (old new : S) : Type 0 where
  pub fits_still : (settings : Settings) (lane : ℕ) → fits lock settings lane old → fits lock settings lane new
  pub at_still : (place : P) → is_at old place → is_at new place

-- of a compaction that a line of this lane began
pub record Own (tag : CoreTag) (Is : CoreTag → VolumeCall) (a b : LockSight VolumeAct Entry) : Type 0 where
  pub who : CoreTag
  pub own : who.lane ≡ tag.lane
  pub is : Is who a b

module _ (volume : StoreVolume) (tag : CoreTag) where
  abbrev pub FrozenTells : Option ℕ → VolumeCall
  FrozenTells None = calls.MetThawed volume.settings volume.start volume.number tag
  FrozenTells (Some m) = calls.MetFrozen volume.settings volume.start volume.number tag m

  abbrev pub RoomTells : ℕ → Room → VolumeCall
  RoomTells size room.Fits = calls.RoomFits volume.settings volume.start volume.number tag size
  RoomTells size (room.Frozen m) = calls.MetFrozen volume.settings volume.start volume.number tag m
  RoomTells size (room.Lacks m end need) = calls.RoomLacks volume.settings volume.start volume.number tag size (NoRoom volume.number m end need)

  abbrev pub PutTells : Pair → Cookie → List ℕ → Put → VolumeCall
  PutTells pair cookie bytes (put.Stored p) = calls.PutStored volume.settings volume.start volume.number tag pair cookie bytes p
  PutTells pair cookie bytes (put.Frozen m) = calls.MetFrozen volume.settings volume.start volume.number tag m
  PutTells pair cookie bytes (put.Lacks m end need) =
      calls.RoomLacks volume.settings volume.start volume.number tag (length bytes) (NoRoom volume.number m end need)
  PutTells pair cookie bytes (put.Failed m f) = calls.PutFailed volume.settings volume.start volume.number tag pair cookie bytes m f
  PutTells pair cookie bytes put.NoMemory = calls.PutWanted volume.settings volume.start volume.number tag pair cookie bytes

  abbrev pub DeleteTells : Pair → Delete → VolumeCall
  DeleteTells pair (delete.Deleted p) a b = calls.Deleted volume.settings volume.start volume.number tag pair p a b
  DeleteTells pair (delete.Absent p) a b = calls.MetAbsent volume.settings volume.start volume.number tag pair p a b
  DeleteTells pair (delete.Frozen m) a b = calls.MetFrozen volume.settings volume.start volume.number tag m a b
  DeleteTells pair (delete.Failed m f) a b = calls.DeleteFailed volume.settings volume.start volume.number tag pair m f a b
  DeleteTells pair (delete.Damaged m at) a b = ⊥
  DeleteTells pair delete.NoMemory a b = calls.DeleteWanted volume.settings volume.start volume.number tag pair a b

  abbrev pub FlushTells : ℕ → Flush → VolumeCall
  FlushTells j (flush.Flushed n) = calls.Flushed volume.settings volume.start volume.number tag j n
  FlushTells j (flush.Frozen m) = calls.MetFrozen volume.settings volume.start volume.number tag m
  FlushTells j flush.Stuck = calls.MetStuck volume.settings volume.start volume.number tag j
  FlushTells j (flush.Failed f) = calls.FlushFailed volume.settings volume.start volume.number tag j f
  FlushTells j flush.NoMemory = calls.ChangedNothing volume.settings volume.start volume.number tag

  abbrev pub FuseTells : ℕ → VolumeCall
  FuseTells j = calls.Fused volume.settings volume.start volume.number tag j

  abbrev pub BeginTells : ℕ → Begin → VolumeCall
  BeginTells j (begin.Begun g) = calls.Begun volume.settings volume.start volume.number tag j g
  BeginTells j (begin.Frozen m) = calls.MetFrozen volume.settings volume.start volume.number tag m
  BeginTells j (begin.Busy g) = calls.MetBusy volume.settings volume.start volume.number tag j g
  BeginTells j begin.Worn = calls.MetWorn volume.settings volume.start volume.number tag j
  BeginTells j (begin.Failed f) = calls.BeginFailed volume.settings volume.start volume.number tag j f
  BeginTells j begin.NoMemory = calls.ChangedNothing volume.settings volume.start volume.number tag

  abbrev pub StepTells : ℕ → ℕ → Step → VolumeCall
  StepTells j cells (step.Stepped n) = Own tag (λ who. calls.Stepped volume.settings volume.start volume.number tag j who n (λ left. n ≡ min cells left))
  StepTells j cells (step.Frozen m) = calls.MetFrozen volume.settings volume.start volume.number tag m
  StepTells j cells step.Idle = calls.MetIdle volume.settings volume.start volume.number tag j
  StepTells j cells (step.Failed f) = Own tag (λ who. calls.RunFailed volume.settings volume.start volume.number tag j who f)
  StepTells j cells (step.Damaged at) = λ a b. ⊥
  StepTells j cells (step.NoMemory None) = calls.ChangedNothing volume.settings volume.start volume.number tag
  StepTells j cells (step.NoMemory (Some n)) = Own tag (λ who. calls.Stepped volume.settings volume.start volume.number tag j who n (λ left. n ≤ min cells left))

  -- for want of memory nothing was changed, or the compaction ended, or its swap stands and the volume is frozen
  abbrev pub FinishWanted : ℕ → VolumeCall
  FinishWanted j a b =
      calls.ChangedNothing volume.settings volume.start volume.number tag a b
      ⊎ Own tag (λ who. calls.RunWanted volume.settings volume.start volume.number tag j who) a b
      ⊎ ((g : ℕ) × (end : ℕ) × (cells : ℕ) × Own tag (λ who. calls.Switched volume.settings volume.start volume.number tag j who g end cells true) a b)

  abbrev pub FinishTells : ℕ → Finish → VolumeCall
  FinishTells j (finish.Compacted g) a b =
      (end : ℕ) × (cells : ℕ) × Own tag (λ who. calls.Switched volume.settings volume.start volume.number tag j who g end cells false) a b
  FinishTells j (finish.Frozen m) a b = calls.MetFrozen volume.settings volume.start volume.number tag m a b
  FinishTells j finish.Idle a b = calls.MetIdle volume.settings volume.start volume.number tag j a b
  FinishTells j (finish.Failed f) a b = Own tag (λ who. calls.RunFailed volume.settings volume.start volume.number tag j who f) a b
  FinishTells j (finish.Poised f) a b =
      Own tag (λ who. calls.SwapFailed volume.settings volume.start volume.number tag j who (machine_of volume.settings volume.number j) f) a b
  FinishTells j (finish.Damaged at) a b = ⊥
  FinishTells j finish.NoMemory a b = FinishWanted j a b

  -- the line's own compaction came to its end
  abbrev pub EndTells : ℕ → Compaction → VolumeCall
  EndTells j (compaction.Compacted g) a b =
      (end : ℕ) × (cells : ℕ) × calls.Swapped volume.settings volume.start volume.number tag j tag g end cells false a b
  EndTells j (compaction.Frozen m) a b = calls.RunFrozen volume.settings volume.start volume.number tag j tag m a b
  EndTells j (compaction.Deleted f) a b = calls.RunDeleted volume.settings volume.start volume.number tag j tag f a b
  EndTells j (compaction.Failed f) a b = calls.RunFailed volume.settings volume.start volume.number tag j tag f a b
  EndTells j (compaction.Poised f) a b =
      calls.SwapFailed volume.settings volume.start volume.number tag j tag (machine_of volume.settings volume.number j) f a b
  EndTells j (compaction.Damaged at) a b = ⊥
  EndTells j compaction.Idle a b = ⊥
  EndTells j compaction.NoMemory a b =
      calls.RunWanted volume.settings volume.start volume.number tag j tag a b
      ⊎ ((g : ℕ) × (end : ℕ) × (cells : ℕ) × calls.Swapped volume.settings volume.start volume.number tag j tag g end cells true a b)

  -- so it is told where it stood behind all that its lane had seen
  abbrev pub CompactionTells : ℕ → Compaction → VolumeCall
  CompactionTells j answer a b = calls.HasRunOf volume.settings volume.start volume.number j tag a.seen → EndTells j answer a b
