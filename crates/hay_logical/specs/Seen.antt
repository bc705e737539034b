-- What is seen of a volume in memory, whatever its disks tell, and how each call changes that.
use Rattle.std.specs.Prelude.{◌≡◌, ◌⊎◌, ◌≤◌, ◌<◌, ◌+◌, ◌-◌, ◌*◌, ℕ, Bool, true, false, List, length, map, slice_index, slice_set, Option, Some, None}
use Rattle.hay_needle.specs.declared.settings.Settings.{Settings}
use Rattle.hay_needle.specs.declared.needle.Pair.{Pair}
use Rattle.hay_needle.specs.declared.needle.Version.TheVariants.{Two}
use Rattle.hay_needle.specs.Sizes.{max_photo, needle_total}
use Rattle.hay_needle.specs.declared.settings.TheConstants.{LAST_GENERATION}
use Rattle.hay_core.specs.declared.entry.CoreTag.{CoreTag}
use Rattle.hay_legal.specs.Known.{machine_of}
use Rattle.hay_open.specs.Stored.{Stored}
use Rattle.hay_physical.specs.OpenCopies.{Copy, bare_of, end_of, generation_of, goal_of, is_stuck, next_of}
use Rattle.hay_logical.specs.declared.fault.LogicalFault.{LogicalFault}
use Rattle.hay_logical.specs.declared.fault.LogicalFault.TheVariants.{Busy, Damaged, Failed, Full, Gone, Idle, NoMemory, ReadOnly, Worn}
use Rattle.hay_logical.specs.declared.unsure.Change.TheVariants.{Delete, Put}
use Rattle.hay_logical.specs.declared.unsure.Unsure.{Unsure}
use Rattle.hay_logical.specs.Fits.{At}
use Rattle.hay_logical.specs.Volumes.{Volume}

-- Of a replica: the generation of its files, the one that a compaction makes, whether a flush failed, where its cells end, how
-- many of them have no record, and where the next one stands that the compaction examines, or 0.
pub record ReplicaSeen : Type 0 where
  pub generation : ℕ
  pub goal : Option ℕ
  pub stuck : Bool
  pub end : ℕ
  pub bare : ℕ
  pub next : ℕ

abbrev pub replica_seen : {D : Type 0} → Copy D → ReplicaSeen
replica_seen r = record { generation = generation_of r; goal = goal_of r; stuck = is_stuck r; end = end_of r; bare = bare_of r; next = next_of r }

-- how many changes were made since the opening, the machine by which it is frozen, and the change that was broken off
pub record VolumeSeen : Type 0 where
  pub front : ℕ
  pub frozen : Option ℕ
  pub unsure : Option Unsure
  pub replicas : List ReplicaSeen

abbrev pub volume_seen : {D P : Type 0} → Volume D P → VolumeSeen
volume_seen volume = record { front = volume.front; frozen = volume.frozen; unsure = volume.unsure; replicas = map replica_seen volume.replicas }

-- a replica that is seen so
abbrev pub SeesAt : ℕ → (ReplicaSeen → Type 0) → VolumeSeen → Type 0
SeesAt at Is seen = (r : ReplicaSeen) × At seen.replicas at r × Is r

-- One replica is seen otherwise, and all else is as it was.
pub record ChangesAt (at : ℕ) (Becomes : ReplicaSeen → ReplicaSeen → Type 0) (old new : VolumeSeen) : Type 0 where
  pub before : ReplicaSeen
  pub after : ReplicaSeen
  pub was : At old.replicas at before
  pub is : new ≡ record old { replicas = slice_set old.replicas at after }
  pub becomes : Becomes before after

-- nothing is seen otherwise, and it is not frozen
abbrev pub StaysThawed : VolumeSeen → VolumeSeen → Type 0
StaysThawed old new = (old.frozen ≡ None) × (new ≡ old)

-- nor is it frozen then, and it was this machine that refused
abbrev pub RefusedBy : ℕ → ℕ → VolumeSeen → VolumeSeen → Type 0
RefusedBy machine m old new = StaysThawed old new × (m ≡ machine)

-- nothing is seen otherwise, since it is frozen by this machine
abbrev pub RefusedFrozen : ℕ → VolumeSeen → VolumeSeen → Type 0
RefusedFrozen m old new = (new ≡ old) × (old.frozen ≡ Some m)

-- COMPACTIONS

-- nothing of it is seen otherwise than its compaction
abbrev pub ChangesRun : ReplicaSeen → ReplicaSeen → Type 0
ChangesRun r r' = r' ≡ record r { goal = r'.goal; next = r'.next }

-- a compaction stands
abbrev pub HasGoal : ReplicaSeen → Type 0
HasGoal r = r.goal ≡ None → ⊥

-- none stands, and one can begin
abbrev pub CanBegin : ReplicaSeen → Type 0
CanBegin r = (r.goal ≡ None) × (r.generation < LAST_GENERATION)

-- none stands, and none can begin any more
abbrev pub IsWorn : ReplicaSeen → Type 0
IsWorn r = (r.goal ≡ None) × (r.generation ≡ LAST_GENERATION)

abbrev pub BeginsTo : ℕ → ReplicaSeen → ReplicaSeen → Type 0
BeginsTo goal r r' = CanBegin r × (goal ≡ r.generation + 1) × (r' ≡ record r { goal = Some goal; next = 64 })

-- behind the end of a compaction, if one stood
abbrev pub ended : ReplicaSeen → ReplicaSeen
ended r = record r { goal = None; next = 0 }

abbrev pub IsEnded : ReplicaSeen → ReplicaSeen → Type 0
IsEnded r r' = r' ≡ ended r

-- a compaction that stood has ended, and nothing but that
abbrev pub EndsAlone : ReplicaSeen → ReplicaSeen → Type 0
EndsAlone r r' = HasGoal r × IsEnded r r'

-- so it was where this machine refused
abbrev pub EndedBy : ℕ → ℕ → ℕ → VolumeSeen → VolumeSeen → Type 0
EndedBy machine at m old new = (old.frozen ≡ None) × (m ≡ machine) × ChangesAt at EndsAlone old new

abbrev pub BeginSeen : ℕ → ℕ → VolumeSeen → VolumeSeen → Type 0
BeginSeen at goal old new = (old.frozen ≡ None) × ChangesAt at (BeginsTo goal) old new

abbrev pub BeginRefusedSeen : Settings → ℕ → ℕ → VolumeSeen → VolumeSeen → LogicalFault → Type 0
BeginRefusedSeen settings v at old new (ReadOnly m) = RefusedFrozen m old new
BeginRefusedSeen settings v at old new (Busy m goal) = RefusedBy (machine_of settings v at) m old new × SeesAt at (λ r. r.goal ≡ Some goal) old
BeginRefusedSeen settings v at old new (Worn m) = RefusedBy (machine_of settings v at) m old new × SeesAt at IsWorn old
BeginRefusedSeen settings v at old new (Failed m faults) = RefusedBy (machine_of settings v at) m old new × SeesAt at CanBegin old
BeginRefusedSeen settings v at old new NoMemory = StaysThawed old new × SeesAt at CanBegin old
BeginRefusedSeen settings v at old new (Full m end need capacity) = ⊥
BeginRefusedSeen settings v at old new (Gone front) = ⊥
BeginRefusedSeen settings v at old new Idle = ⊥
BeginRefusedSeen settings v at old new (Damaged m place) = ⊥

-- So many cells were examined of those that were asked for, or all that were left, and the next one stands behind them.
pub record StepsTo (cells number : ℕ) (r r' : ReplicaSeen) : Type 0 where
  pub stands : HasGoal r
  pub only : r' ≡ record r { next = r'.next }
  pub few : number ≤ cells
  pub all : (number ≡ cells) ⊎ (r.end ≤ r'.next)
  pub behind : r.next + number * needle_total 0 ≤ r'.next
  pub most : r'.next ≤ r.next + number * needle_total (max_photo Two)
  pub within : (number ≡ 0) ⊎ (r'.next ≤ r.end)
  pub none : number ≡ 0 → r'.next ≡ r.next

abbrev pub StepSeen : ℕ → ℕ → ℕ → VolumeSeen → VolumeSeen → Type 0
StepSeen at cells number old new = (old.frozen ≡ None) × ChangesAt at (StepsTo cells number) old new

-- what a step that was refused has left: a compaction that stands on went on, if at all, and not behind the end
abbrev pub BreaksStep : ReplicaSeen → ReplicaSeen → Type 0
BreaksStep r r' = ChangesRun r r' × (r'.goal ≡ r.goal → (r.next ≤ r'.next) × (r'.next ≤ r.end))

-- some cells of a compaction that stands were examined
abbrev pub StepsPartly : ReplicaSeen → ReplicaSeen → Type 0
StepsPartly r r' = HasGoal r × (r' ≡ record r { next = r'.next }) × (r.next ≤ r'.next) × (r'.next ≤ r.end)

-- A compaction that was to examine so many cells met damage here: at its next one, or behind whole cells, of which it examined fewer.
pub record MeetsDamage (cells place : ℕ) (r : ReplicaSeen) : Type 0 where
  pub examined : ℕ
  pub few : examined < cells
  pub behind : r.next + examined * needle_total 0 ≤ place
  pub most : place ≤ r.next + examined * needle_total (max_photo Two)
  pub from : 64 ≤ place
  pub within : place < r.end

-- So did one that was to examine all that are left: there are fewer cells than bytes.
abbrev pub MeetsDamageLeft : ℕ → ReplicaSeen → Type 0
MeetsDamageLeft place r = MeetsDamage r.end place r

-- a compaction has begun, whose first cell stands behind the superblock
abbrev pub begun : ReplicaSeen → ReplicaSeen
begun r = record r { next = 64 }

abbrev pub StepRefusedSeen : Settings → ℕ → ℕ → ℕ → VolumeSeen → VolumeSeen → LogicalFault → Type 0
StepRefusedSeen settings v at cells old new (ReadOnly m) = RefusedFrozen m old new
StepRefusedSeen settings v at cells old new Idle = StaysThawed old new × SeesAt at (λ r. r.goal ≡ None) old
StepRefusedSeen settings v at cells old new (Failed m faults) = EndedBy (machine_of settings v at) at m old new
StepRefusedSeen settings v at cells old new (Damaged m place) = EndedBy (machine_of settings v at) at m old new × SeesAt at (MeetsDamage cells place) old
StepRefusedSeen settings v at cells old new NoMemory = (old.frozen ≡ None) × ChangesAt at StepsPartly old new
StepRefusedSeen settings v at cells old new (Full m end need capacity) = ⊥
StepRefusedSeen settings v at cells old new (Gone front) = ⊥
StepRefusedSeen settings v at cells old new (Busy m goal) = ⊥
StepRefusedSeen settings v at cells old new (Worn m) = ⊥

-- Its files are those that the compaction made.
pub record SwapSeen (generation end : ℕ) (r r' : ReplicaSeen) : Type 0 where
  pub next : generation ≡ r.generation + 1
  pub most : generation ≤ LAST_GENERATION
  pub from : 64 ≤ end
  pub shorter : end ≤ r.end
  pub is : r' ≡ record { generation = generation; goal = None; stuck = false; end = end; bare = 0; next = 0 }

-- no compaction stands
abbrev pub SeesIdle : VolumeSeen → Type 0
SeesIdle seen = (j : ℕ) (r : ReplicaSeen) → At seen.replicas j r → r.goal ≡ None

-- the cells of none end earlier
abbrev pub AreLonger : List ReplicaSeen → List ReplicaSeen → Type 0
AreLonger olds news = (j : ℕ) (r r' : ReplicaSeen) → At olds j r → At news j r' → r.end ≤ r'.end

-- It was frozen by this machine, which ended each compaction. No change was pending before.
pub record FreezesSeen (m : ℕ) (pending : Option Unsure) (old new : VolumeSeen) : Type 0 where
  pub thawed : old.frozen ≡ None
  pub settled : old.unsure ≡ None
  pub many : length new.replicas ≡ length old.replicas
  pub front : new.front ≡ old.front
  pub frozen : new.frozen ≡ Some m
  pub unsure : new.unsure ≡ pending
  pub idle : SeesIdle new
  pub longer : AreLonger old.replicas new.replicas

abbrev pub FinishesTo : ℕ → ℕ → ReplicaSeen → ReplicaSeen → Type 0
FinishesTo generation end r r' = (r.goal ≡ Some generation) × SwapSeen generation end r r'

abbrev pub FinishSeen : ℕ → ℕ → ℕ → VolumeSeen → VolumeSeen → Type 0
FinishSeen at generation end old new = (old.frozen ≡ None) × ChangesAt at (FinishesTo generation end) old new

abbrev pub FinishRefusedSeen : Settings → ℕ → ℕ → VolumeSeen → VolumeSeen → LogicalFault → Type 0
FinishRefusedSeen settings v at old new (ReadOnly m) = RefusedFrozen m old new
FinishRefusedSeen settings v at old new Idle = StaysThawed old new × SeesAt at (λ r. r.goal ≡ None) old
FinishRefusedSeen settings v at old new (Failed m faults) =
    EndedBy (machine_of settings v at) at m old new ⊎ ((m ≡ machine_of settings v at) × SeesAt at HasGoal old × FreezesSeen m old.unsure old new)
FinishRefusedSeen settings v at old new (Damaged m place) = EndedBy (machine_of settings v at) at m old new × SeesAt at (MeetsDamageLeft place) old
FinishRefusedSeen settings v at old new NoMemory = (old.frozen ≡ None) × ChangesAt at EndsAlone old new
FinishRefusedSeen settings v at old new (Full m end need capacity) = ⊥
FinishRefusedSeen settings v at old new (Gone front) = ⊥
FinishRefusedSeen settings v at old new (Busy m goal) = ⊥
FinishRefusedSeen settings v at old new (Worn m) = ⊥

-- begun and finished in one call
abbrev pub CompactsTo : ℕ → ℕ → ReplicaSeen → ReplicaSeen → Type 0
CompactsTo generation end r r' = (r.goal ≡ None) × SwapSeen generation end r r'

abbrev pub CompactSeen : ℕ → ℕ → ℕ → VolumeSeen → VolumeSeen → Type 0
CompactSeen at generation end old new = (old.frozen ≡ None) × ChangesAt at (CompactsTo generation end) old new

abbrev pub CompactRefusedSeen : Settings → ℕ → ℕ → VolumeSeen → VolumeSeen → LogicalFault → Type 0
CompactRefusedSeen settings v at old new (ReadOnly m) = RefusedFrozen m old new
CompactRefusedSeen settings v at old new (Busy m goal) = RefusedBy (machine_of settings v at) m old new × SeesAt at (λ r. r.goal ≡ Some goal) old
CompactRefusedSeen settings v at old new (Worn m) = RefusedBy (machine_of settings v at) m old new × SeesAt at IsWorn old
CompactRefusedSeen settings v at old new (Failed m faults) =
    (m ≡ machine_of settings v at) × SeesAt at CanBegin old × (StaysThawed old new ⊎ FreezesSeen m old.unsure old new)
CompactRefusedSeen settings v at old new (Damaged m place) =
    RefusedBy (machine_of settings v at) m old new × SeesAt at (λ r. CanBegin r × MeetsDamageLeft place (begun r)) old
CompactRefusedSeen settings v at old new NoMemory = StaysThawed old new × SeesAt at CanBegin old
CompactRefusedSeen settings v at old new (Full m end need capacity) = ⊥
CompactRefusedSeen settings v at old new (Gone front) = ⊥
CompactRefusedSeen settings v at old new Idle = ⊥

-- FLUSHES

-- each cell has its record, and so many had none
abbrev pub FlushesTo : ℕ → ReplicaSeen → ReplicaSeen → Type 0
FlushesTo number r r' = (r.stuck ≡ false) × (number ≡ r.bare) × (r' ≡ record r { bare = 0 })

abbrev pub FlushSeen : ℕ → ℕ → VolumeSeen → VolumeSeen → Type 0
FlushSeen at number old new = (old.frozen ≡ None) × ChangesAt at (FlushesTo number) old new

-- cells without a record were to get theirs, and none is written to the index any more
abbrev pub Sticks : ReplicaSeen → ReplicaSeen → Type 0
Sticks r r' = (r.stuck ≡ false) × (r' ≡ record r { stuck = true }) × (0 < r.bare)

abbrev pub FlushRefusedSeen : Settings → ℕ → ℕ → VolumeSeen → VolumeSeen → LogicalFault → Type 0
FlushRefusedSeen settings v at old new (ReadOnly m) =
    RefusedFrozen m old new ⊎ (RefusedBy (machine_of settings v at) m old new × SeesAt at (λ r. r.stuck ≡ true) old)
FlushRefusedSeen settings v at old new (Failed m faults) = (old.frozen ≡ None) × (m ≡ machine_of settings v at) × ChangesAt at Sticks old new
FlushRefusedSeen settings v at old new NoMemory = StaysThawed old new
FlushRefusedSeen settings v at old new (Full m end need capacity) = ⊥
FlushRefusedSeen settings v at old new (Gone front) = ⊥
FlushRefusedSeen settings v at old new (Busy m goal) = ⊥
FlushRefusedSeen settings v at old new (Worn m) = ⊥
FlushRefusedSeen settings v at old new Idle = ⊥
FlushRefusedSeen settings v at old new (Damaged m place) = ⊥

-- ROOM

abbrev pub SeesRoom : ℕ → ℕ → ReplicaSeen → Type 0
SeesRoom capacity size r = r.end + needle_total size + 8 ≤ capacity

abbrev pub RoomSeen : Settings → ℕ → VolumeSeen → Type 0
RoomSeen settings size seen = (seen.frozen ≡ None) × ((j : ℕ) (r : ReplicaSeen) → At seen.replicas j r → SeesRoom settings.capacity size r)

-- the lowest replica that lacks room
pub record FullSeen (settings : Settings) (v size : ℕ) (seen : VolumeSeen) (m end need capacity : ℕ) : Type 0 where
  pub at : ℕ
  pub replica : ReplicaSeen
  pub there : At seen.replicas at replica
  pub thawed : seen.frozen ≡ None
  pub below : (j : ℕ) (r : ReplicaSeen) → j < at → At seen.replicas j r → SeesRoom settings.capacity size r
  pub lacks : settings.capacity < replica.end + needle_total size + 8
  pub machine : m ≡ machine_of settings v at
  pub end_is : end ≡ replica.end
  pub need_is : need ≡ needle_total size
  pub capacity_is : capacity ≡ settings.capacity

abbrev pub RoomRefusedSeen : Settings → ℕ → ℕ → VolumeSeen → LogicalFault → Type 0
RoomRefusedSeen settings v size seen (ReadOnly m) = seen.frozen ≡ Some m
RoomRefusedSeen settings v size seen (Full m end need capacity) = FullSeen settings v size seen m end need capacity
RoomRefusedSeen settings v size seen (Failed m faults) = ⊥
RoomRefusedSeen settings v size seen (Gone front) = ⊥
RoomRefusedSeen settings v size seen (Busy m goal) = ⊥
RoomRefusedSeen settings v size seen (Worn m) = ⊥
RoomRefusedSeen settings v size seen Idle = ⊥
RoomRefusedSeen settings v size seen (Damaged m place) = ⊥
RoomRefusedSeen settings v size seen NoMemory = ⊥

-- CHANGES

-- a compaction that could not follow ended
abbrev pub DeleteSeen : ReplicaSeen → ReplicaSeen → Type 0
DeleteSeen r r' = (r' ≡ r) ⊎ EndsAlone r r'

-- a photo of this size stands behind the cells of each replica
abbrev pub grown : ℕ → ReplicaSeen → ReplicaSeen
grown size r = record r { end = r.end + needle_total size; bare = r.bare + 1 }

-- written, and not shown yet
abbrev pub WriteSeen : ℕ → VolumeSeen → VolumeSeen → Type 0
WriteSeen size old new = (old.frozen ≡ None) × (new ≡ record old { replicas = map (grown size) old.replicas })

abbrev pub PutSeen : ℕ → ℕ → VolumeSeen → VolumeSeen → Type 0
PutSeen size position old new =
    (position ≡ old.front + 1) × (old.frozen ≡ None) × (new ≡ record old { front = position; replicas = map (grown size) old.replicas })

-- where the cells of each replica end
abbrev pub AreEnds : List ℕ → List ReplicaSeen → Type 0
AreEnds ends replicas = (j : ℕ) (r : ReplicaSeen) → At replicas j r → slice_index ends j ≡ r.end

-- The put of this line is pending, with where the cells of each replica ended before it.
pub record BreaksPutSeen (tag : CoreTag) (m : ℕ) (old new : VolumeSeen) : Type 0 where
  pub ends : List ℕ
  pub each : AreEnds ends old.replicas
  pub freezes : FreezesSeen m (Some (record { tag = tag; change = Put ends })) old new

abbrev pub PutRefusedSeen : Settings → ℕ → CoreTag → ℕ → VolumeSeen → VolumeSeen → LogicalFault → Type 0
PutRefusedSeen settings v tag size old new (ReadOnly m) = RefusedFrozen m old new
PutRefusedSeen settings v tag size old new (Full m end need capacity) = (new ≡ old) × FullSeen settings v size old m end need capacity
PutRefusedSeen settings v tag size old new (Failed m faults) = BreaksPutSeen tag m old new
PutRefusedSeen settings v tag size old new NoMemory = StaysThawed old new ⊎ BreaksPutSeen tag (machine_of settings v 0) old new
PutRefusedSeen settings v tag size old new (Gone front) = ⊥
PutRefusedSeen settings v tag size old new (Busy m goal) = ⊥
PutRefusedSeen settings v tag size old new (Worn m) = ⊥
PutRefusedSeen settings v tag size old new Idle = ⊥
PutRefusedSeen settings v tag size old new (Damaged m place) = ⊥

-- Each replica keeps what was seen of it, but for a compaction that could not follow.
pub record DeletesSeen (old new : VolumeSeen) : Type 0 where
  pub thawed : old.frozen ≡ None
  pub frozen : new.frozen ≡ None
  pub unsure : new.unsure ≡ old.unsure
  pub count : length new.replicas ≡ length old.replicas
  pub each : (j : ℕ) (r r' : ReplicaSeen) → At old.replicas j r → At new.replicas j r' → DeleteSeen r r'

-- deleted, and not hidden yet
abbrev pub EraseSeen : VolumeSeen → VolumeSeen → Type 0
EraseSeen old new = (new.front ≡ old.front) × DeletesSeen old new

abbrev pub HideSeen : ℕ → VolumeSeen → VolumeSeen → Type 0
HideSeen position old new = (position ≡ old.front + 1) × (new.front ≡ position) × DeletesSeen old new

-- A failure came before any change, or the delete of this line is pending.
abbrev pub DeleteRefusedSeen : CoreTag → Pair → VolumeSeen → VolumeSeen → LogicalFault → Type 0
DeleteRefusedSeen tag pair old new (ReadOnly m) = RefusedFrozen m old new
DeleteRefusedSeen tag pair old new (Gone front) = StaysThawed old new × (front ≡ old.front)
DeleteRefusedSeen tag pair old new (Damaged m place) = StaysThawed old new
DeleteRefusedSeen tag pair old new NoMemory = StaysThawed old new
DeleteRefusedSeen tag pair old new (Failed m faults) = StaysThawed old new ⊎ FreezesSeen m (Some (record { tag = tag; change = Delete pair })) old new
DeleteRefusedSeen tag pair old new (Full m end need capacity) = ⊥
DeleteRefusedSeen tag pair old new (Busy m goal) = ⊥
DeleteRefusedSeen tag pair old new (Worn m) = ⊥
DeleteRefusedSeen tag pair old new Idle = ⊥

-- OPENINGS

-- A replica whose files were opened. The cells that have no record stand before its end.
pub record IsFresh (r : ReplicaSeen) : Type 0 where
  pub goal : r.goal ≡ None
  pub next : r.next ≡ 0
  pub loose : r.stuck ≡ false
  pub most : r.generation ≤ LAST_GENERATION
  pub from : 64 + r.bare * needle_total 0 ≤ r.end

-- what stood on its disk was found: the generation, where the cells end, and how many of them have no record
abbrev pub IsFoundAs : Stored → ReplicaSeen → Type 0
IsFoundAs s r = (r.end ≡ s.end) × (r.generation ≡ s.generation) × (r.bare ≡ length s.cells - s.records)

pub record OpenSeen (seen : VolumeSeen) : Type 0 where
  pub front : seen.front ≡ 0
  pub thawed : seen.frozen ≡ None
  pub settled : seen.unsure ≡ None
  pub fresh : (j : ℕ) (r : ReplicaSeen) → At seen.replicas j r → IsFresh r
