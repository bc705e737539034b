-- What the calls of a logical volume answer.
use Rattle.std.specs.Prelude.{◌≡◌, ◌⊎◌, ℕ, ◌<◌, ◌≤◌, ◌+◌, ◌-◌, min, Bool, true, false, List, [], ◌∷◌, length, slice_get, Option, Some, None, Result, Ok, Err}
use Rattle.std.specs.List.{list_any}
use Rattle.hay_needle.specs.declared.needle.Cookie.{Cookie}
use Rattle.hay_needle.specs.declared.needle.Pair.{Pair}
use Rattle.hay_needle.specs.declared.settings.Settings.{Settings}
use Rattle.hay_needle.specs.Tables.{live_end}
use Rattle.hay_needle.specs.declared.settings.TheConstants.{LAST_GENERATION}
use Rattle.hay_reply.specs.declared.Note.{Note}
use Rattle.hay_reply.specs.declared.Refused.{Refused}
use Rattle.hay_reply.specs.declared.Refused.TheVariants.{NoRoom, Closed}
use Rattle.hay_core.specs.declared.entry.CoreTag.{CoreTag}
use Rattle.hay_core.specs.declared.entry.Entry.TheVariants as entry
use Rattle.hay_disk.specs.Counts.{Rose}
use Rattle.hay_disk.specs.Disk.{Files}
use Rattle.hay_legal.specs.declared.known.ReplicaKnown.{ReplicaKnown}
use Rattle.hay_legal.specs.declared.known.Run.{Run}
use Rattle.hay_legal.specs.declared.known.VolumeKnown.{VolumeKnown}
use Rattle.hay_legal.specs.Known.{machine_of, now, replica_at, room_refusal_of, with_replica}
use Rattle.hay_legal.specs.Plain.{as_it_is, frozen_by, frozen_with, has_pair, poised, stepped, swapped, with_bare, with_del, with_put, with_run, with_stuck, without_run}
use Rattle.hay_legal.specs.Restarts.{ReopenedVolume, pending_notes}
use Rattle.hay_open.specs.Stored.{Stored, index_file, volume_file}
use Rattle.hay_physical.specs.OpenCopies.{Copy, goal_of}
use Rattle.hay_physical.specs.Replicas as physical
use Rattle.hay_physical.specs.CompactionRuns.{RemovedBoth}
use Rattle.hay_logical.specs.declared.fault.LogicalFault.{LogicalFault}
use Rattle.hay_logical.specs.declared.fault.LogicalFault.TheVariants.{Busy, Damaged, Failed, Full, Gone, Idle, NoMemory, ReadOnly, Worn}
use Rattle.hay_logical.specs.Fits.{At}
use Rattle.hay_logical.specs.Volumes.{IsMachineOf, Volume}
use Rattle.hay_logical.specs.Stands.{Stands}

-- CAUSES

-- the machine is that of a replica whose count of faults rose in the call, to this
pub record HasFailed {D : Type 0} (faults : D → ℕ) (settings : Settings) (v : ℕ) (old new : List (Copy D)) (m count : ℕ) : Type 0 where
  pub replica : ℕ
  pub within : replica < settings.replicas
  pub before : Copy D
  pub after : Copy D
  pub was : At old replica before
  pub is : At new replica after
  pub machine : m ≡ machine_of settings v replica
  pub rose : Rose (faults before.disk) (faults after.disk)
  pub printed : count ≡ faults after.disk

-- Each call has refusals of its own, a failure has its cause, what one replica refuses names its machine, and what the volume refuses
-- a machine of one.
abbrev pub IsRoomFault : Settings → ℕ → LogicalFault → Type 0
IsRoomFault settings v (ReadOnly m) = IsMachineOf settings v m
IsRoomFault settings v (Full machine end need capacity) = IsMachineOf settings v machine
IsRoomFault settings v (Failed m faults) = ⊥
IsRoomFault settings v (Gone front) = ⊥
IsRoomFault settings v (Busy m generation) = ⊥
IsRoomFault settings v (Worn m) = ⊥
IsRoomFault settings v Idle = ⊥
IsRoomFault settings v (Damaged m at) = ⊥
IsRoomFault settings v NoMemory = ⊥

abbrev pub IsPutFault : {D : Type 0} → (D → ℕ) → Settings → ℕ → List (Copy D) → List (Copy D) → LogicalFault → Type 0
IsPutFault faults settings v old new (Failed machine printed) = HasFailed faults settings v old new machine printed
IsPutFault faults settings v old new (ReadOnly m) = IsMachineOf settings v m
IsPutFault faults settings v old new (Full machine end need capacity) = IsMachineOf settings v machine
IsPutFault faults settings v old new NoMemory = Unit {0}
IsPutFault faults settings v old new (Gone front) = ⊥
IsPutFault faults settings v old new (Busy m generation) = ⊥
IsPutFault faults settings v old new (Worn m) = ⊥
IsPutFault faults settings v old new Idle = ⊥
IsPutFault faults settings v old new (Damaged m at) = ⊥

-- a put that has room is refused only so
abbrev pub BreaksPutOff : LogicalFault → Type 0
BreaksPutOff (Failed machine printed) = Unit {0}
BreaksPutOff NoMemory = Unit {0}
BreaksPutOff (ReadOnly m) = ⊥
BreaksPutOff (Full machine end need capacity) = ⊥
BreaksPutOff (Gone front) = ⊥
BreaksPutOff (Busy m generation) = ⊥
BreaksPutOff (Worn m) = ⊥
BreaksPutOff Idle = ⊥
BreaksPutOff (Damaged m at) = ⊥

abbrev pub IsDeleteFault : {D : Type 0} → (D → ℕ) → Settings → ℕ → List (Copy D) → List (Copy D) → LogicalFault → Type 0
IsDeleteFault faults settings v old new (Failed machine printed) = HasFailed faults settings v old new machine printed
IsDeleteFault faults settings v old new (ReadOnly m) = IsMachineOf settings v m
IsDeleteFault faults settings v old new (Gone front) = Unit {0}
IsDeleteFault faults settings v old new NoMemory = Unit {0}
IsDeleteFault faults settings v old new (Full m end need capacity) = ⊥
IsDeleteFault faults settings v old new (Busy m generation) = ⊥
IsDeleteFault faults settings v old new (Worn m) = ⊥
IsDeleteFault faults settings v old new Idle = ⊥
IsDeleteFault faults settings v old new (Damaged m at) = (j : ℕ) × (j < settings.replicas) × (m ≡ machine_of settings v j)

abbrev pub IsSightFault : {D : Type 0} → (D → ℕ) → Settings → ℕ → List (Copy D) → List (Copy D) → LogicalFault → Type 0
IsSightFault faults settings v old new (Failed machine printed) = HasFailed faults settings v old new machine printed
IsSightFault faults settings v old new (Damaged m at) = (j : ℕ) × (j < settings.replicas) × (m ≡ machine_of settings v j)
IsSightFault faults settings v old new NoMemory = Unit {0}
IsSightFault faults settings v old new (ReadOnly m) = ⊥
IsSightFault faults settings v old new (Gone front) = ⊥
IsSightFault faults settings v old new (Full m end need capacity) = ⊥
IsSightFault faults settings v old new (Busy m generation) = ⊥
IsSightFault faults settings v old new (Worn m) = ⊥
IsSightFault faults settings v old new Idle = ⊥

abbrev pub IsFlushFault : {D : Type 0} → (D → ℕ) → Settings → ℕ → ℕ → List (Copy D) → List (Copy D) → LogicalFault → Type 0
IsFlushFault faults settings v replica old new (Failed machine printed) =
    (machine ≡ machine_of settings v replica) × HasFailed faults settings v old new machine printed
IsFlushFault faults settings v replica old new (ReadOnly m) = IsMachineOf settings v m
IsFlushFault faults settings v replica old new NoMemory = Unit {0}
IsFlushFault faults settings v replica old new (Full m end need capacity) = ⊥
IsFlushFault faults settings v replica old new (Gone front) = ⊥
IsFlushFault faults settings v replica old new (Busy m generation) = ⊥
IsFlushFault faults settings v replica old new (Worn m) = ⊥
IsFlushFault faults settings v replica old new Idle = ⊥
IsFlushFault faults settings v replica old new (Damaged m at) = ⊥

abbrev pub IsBeginFault : {D : Type 0} → (D → ℕ) → Settings → ℕ → ℕ → List (Copy D) → List (Copy D) → LogicalFault → Type 0
IsBeginFault faults settings v replica old new (Failed machine printed) =
    (machine ≡ machine_of settings v replica) × HasFailed faults settings v old new machine printed
IsBeginFault faults settings v replica old new (ReadOnly m) = IsMachineOf settings v m
IsBeginFault faults settings v replica old new (Busy m generation) = m ≡ machine_of settings v replica
IsBeginFault faults settings v replica old new (Worn m) = m ≡ machine_of settings v replica
IsBeginFault faults settings v replica old new NoMemory = Unit {0}
IsBeginFault faults settings v replica old new (Full m end need capacity) = ⊥
IsBeginFault faults settings v replica old new (Gone front) = ⊥
IsBeginFault faults settings v replica old new Idle = ⊥
IsBeginFault faults settings v replica old new (Damaged m at) = ⊥

abbrev pub IsRunFault : {D : Type 0} → (D → ℕ) → Settings → ℕ → ℕ → List (Copy D) → List (Copy D) → LogicalFault → Type 0
IsRunFault faults settings v replica old new (Failed machine printed) =
    (machine ≡ machine_of settings v replica) × HasFailed faults settings v old new machine printed
IsRunFault faults settings v replica old new (ReadOnly m) = IsMachineOf settings v m
IsRunFault faults settings v replica old new Idle = Unit {0}
IsRunFault faults settings v replica old new (Damaged m at) = m ≡ machine_of settings v replica
IsRunFault faults settings v replica old new NoMemory = Unit {0}
IsRunFault faults settings v replica old new (Full m end need capacity) = ⊥
IsRunFault faults settings v replica old new (Gone front) = ⊥
IsRunFault faults settings v replica old new (Busy m generation) = ⊥
IsRunFault faults settings v replica old new (Worn m) = ⊥

abbrev pub IsCompactFault : {D : Type 0} → (D → ℕ) → Settings → ℕ → ℕ → List (Copy D) → List (Copy D) → LogicalFault → Type 0
IsCompactFault faults settings v replica old new (Failed machine printed) =
    (machine ≡ machine_of settings v replica) × HasFailed faults settings v old new machine printed
IsCompactFault faults settings v replica old new (ReadOnly m) = IsMachineOf settings v m
IsCompactFault faults settings v replica old new (Busy m generation) = m ≡ machine_of settings v replica
IsCompactFault faults settings v replica old new (Worn m) = m ≡ machine_of settings v replica
IsCompactFault faults settings v replica old new (Damaged m at) = m ≡ machine_of settings v replica
IsCompactFault faults settings v replica old new NoMemory = Unit {0}
IsCompactFault faults settings v replica old new (Full m end need capacity) = ⊥
IsCompactFault faults settings v replica old new (Gone front) = ⊥
IsCompactFault faults settings v replica old new Idle = ⊥

-- WHETHER A VOLUME TAKES A PHOTO

abbrev pub room_answer : Settings → Option ℕ → Option Refused → Result Unit LogicalFault
room_answer settings (Some m) refused = Err (ReadOnly m)
room_answer settings None None = Ok tt
room_answer settings None (Some (NoRoom v m end need)) = Err (Full m end need settings.capacity)
room_answer settings None (Some (Closed v m)) = Err (ReadOnly m)

-- it is not frozen, and each replica has room
abbrev pub HasRoom : Settings → ℕ → VolumeKnown → ℕ → Type 0
HasRoom settings v k size = (k.frozen ≡ None) × (room_refusal_of settings v k size ≡ None)

-- PUTS

pub record IsPut {D P : Type 0} (files : D → Files) (Tells : Type 0) (k : VolumeKnown) (tag : CoreTag) (pair : Pair) (cookie : Cookie) (bytes : List ℕ) (p : ℕ) (new : Volume D P) : Type 0 where
  pub room : HasRoom new.settings new.number k (length bytes)
  pub position : p ≡ length k.log + 1
  pub stands : Stands files Tells new (with_put k tag pair cookie bytes)

-- what a refusal leaves
abbrev pub PutRefused : {D P : Type 0} → (D → Files) → Type 0 → VolumeKnown → CoreTag → Pair → Cookie → List ℕ → Volume D P → Volume D P → LogicalFault → Type 0
PutRefused files Tells k tag pair cookie bytes old new (ReadOnly m) = (k.frozen ≡ Some m) × (new ≡ old)
PutRefused files Tells k tag pair cookie bytes old new (Full m end need capacity) =
    (k.frozen ≡ None) × (room_refusal_of old.settings old.number k (length bytes) ≡ Some (NoRoom old.number m end need))
    × (capacity ≡ old.settings.capacity) × (new ≡ old)
PutRefused files Tells k tag pair cookie bytes old new (Failed m faults) =
    HasRoom old.settings old.number k (length bytes) × Stands files Tells new (frozen_with m tag (entry.Put pair cookie bytes) true k)
PutRefused files Tells k tag pair cookie bytes old new NoMemory =
    HasRoom old.settings old.number k (length bytes)
    × (Stands files Tells new k ⊎ Stands files Tells new (frozen_with (machine_of old.settings old.number 0) tag (entry.Put pair cookie bytes) false k))
PutRefused files Tells k tag pair cookie bytes old new (Gone front) = ⊥
PutRefused files Tells k tag pair cookie bytes old new (Busy m generation) = ⊥
PutRefused files Tells k tag pair cookie bytes old new (Worn m) = ⊥
PutRefused files Tells k tag pair cookie bytes old new Idle = ⊥
PutRefused files Tells k tag pair cookie bytes old new (Damaged m at) = ⊥

-- DELETES

-- whether some replica has a photo of the pair
abbrev pub is_held : VolumeKnown → Pair → Bool
is_held k pair = list_any (has_pair k pair) k.replicas

-- of each replica, whether a compaction stood before and stands no more
abbrev pub has_ended : Option ℕ → Option ℕ → Bool
has_ended (Some goal) None = true
has_ended (Some goal) (Some next) = false
has_ended None now = false

abbrev pub ended_runs : {D : Type 0} → List (Copy D) → List (Copy D) → List Bool
ended_runs (before ∷ old) (after ∷ new) = has_ended (goal_of before) (goal_of after) ∷ ended_runs old new
ended_runs [] new = []
ended_runs (before ∷ old) [] = []

-- A compaction ended only where its disk's count of faults rose.
pub record IsDeleted {D P : Type 0} (files : D → Files) (faults : D → ℕ) (Tells : Type 0) (k : VolumeKnown) (tag : CoreTag) (pair : Pair) (p : ℕ) (old new : Volume D P) : Type 0 where
  pub thawed : k.frozen ≡ None
  pub stood : is_held k pair ≡ true
  pub position : p ≡ length k.log + 1
  pub ended : List Bool
  pub runs : ended ≡ ended_runs old.replicas new.replicas
  pub count : length ended ≡ old.settings.replicas
  pub cause : (j : ℕ) (r r' : Copy D) → slice_get ended j ≡ Some true → At old.replicas j r → At new.replicas j r' → Rose (faults r.disk) (faults r'.disk)
  pub stands : Stands files Tells new (with_del ended tag pair k)

-- A failed look changes nothing, and a failed change freezes the volume.
abbrev pub DeleteRefused : {D P : Type 0} → (D → Files) → Type 0 → VolumeKnown → CoreTag → Pair → Volume D P → LogicalFault → Type 0
DeleteRefused files Tells k tag pair new (ReadOnly m) = (k.frozen ≡ Some m) × Stands files Tells new k
DeleteRefused files Tells k tag pair new (Gone front) = (k.frozen ≡ None) × (is_held k pair ≡ false) × (front ≡ length k.log) × Stands files Tells new k
DeleteRefused files Tells k tag pair new (Failed m faults) =
    (k.frozen ≡ None) × (Stands files Tells new k ⊎ ((is_held k pair ≡ true) × Stands files Tells new (frozen_with m tag (entry.Del pair) true k)))
DeleteRefused files Tells k tag pair new NoMemory = (k.frozen ≡ None) × Stands files Tells new k
DeleteRefused files Tells k tag pair new (Full m end need capacity) = ⊥
DeleteRefused files Tells k tag pair new (Busy m generation) = ⊥
DeleteRefused files Tells k tag pair new (Worn m) = ⊥
DeleteRefused files Tells k tag pair new Idle = ⊥
DeleteRefused files Tells k tag pair new (Damaged m at) = ⊥

-- FLUSHES

abbrev pub change_at : VolumeKnown → ℕ → (ReplicaKnown → ReplicaKnown) → VolumeKnown
change_at k j change = with_replica k j (change (replica_at k j))

pub record IsFlushed {D P : Type 0} (files : D → Files) (Tells : Type 0) (k : VolumeKnown) (replica n : ℕ) (new : Volume D P) : Type 0 where
  pub thawed : k.frozen ≡ None
  pub loose : (replica_at k replica).stuck ≡ false
  pub number : n ≡ (replica_at k replica).bare
  pub stands : Stands files Tells new (change_at k replica (with_bare 0))

abbrev pub FlushRefused : {D P : Type 0} → (D → Files) → Type 0 → VolumeKnown → ℕ → Volume D P → Volume D P → LogicalFault → Type 0
FlushRefused files Tells k replica old new (ReadOnly m) =
    ((k.frozen ≡ Some m) ⊎ ((k.frozen ≡ None) × ((replica_at k replica).stuck ≡ true) × (m ≡ machine_of old.settings old.number replica))) × (new ≡ old)
FlushRefused files Tells k replica old new (Failed m faults) =
    (k.frozen ≡ None) × ((replica_at k replica).stuck ≡ false) × (m ≡ machine_of old.settings old.number replica)
    × Stands files Tells new (change_at k replica with_stuck)
FlushRefused files Tells k replica old new NoMemory = (k.frozen ≡ None) × ((replica_at k replica).stuck ≡ false) × Stands files Tells new k
FlushRefused files Tells k replica old new (Full m end need capacity) = ⊥
FlushRefused files Tells k replica old new (Gone front) = ⊥
FlushRefused files Tells k replica old new (Busy m generation) = ⊥
FlushRefused files Tells k replica old new (Worn m) = ⊥
FlushRefused files Tells k replica old new Idle = ⊥
FlushRefused files Tells k replica old new (Damaged m at) = ⊥

-- COMPACTIONS

-- none stands at a replica, and its generation is not the last one
abbrev pub IsAtRest : VolumeKnown → ℕ → Type 0
IsAtRest k j = ((replica_at k j).run ≡ None) × ((replica_at k j).generation < LAST_GENERATION)

-- one stands there
abbrev pub IsRunning : VolumeKnown → ℕ → Type 0
IsRunning k j = (run : Run) × ((replica_at k j).run ≡ Some run)

-- one stands, and there is a number for the generation that it makes
abbrev pub MayFinish : VolumeKnown → ℕ → Type 0
MayFinish k j = IsRunning k j × ((replica_at k j).generation < LAST_GENERATION)

pub record IsBegun {D P : Type 0} (files : D → Files) (Tells : Type 0) (k : VolumeKnown) (replica generation : ℕ) (new : Volume D P) : Type 0 where
  pub thawed : k.frozen ≡ None
  pub rest : IsAtRest k replica
  pub next : generation ≡ (replica_at k replica).generation + 1
  pub stands : Stands files Tells new (change_at k replica (with_run (record { goal = generation; left = (replica_at k replica).cells })))

abbrev pub BeginRefused : {D P : Type 0} → (D → Files) → Type 0 → VolumeKnown → ℕ → Volume D P → Volume D P → LogicalFault → Type 0
BeginRefused files Tells k replica old new (ReadOnly m) = (k.frozen ≡ Some m) × (new ≡ old)
BeginRefused files Tells k replica old new (Busy m generation) =
    (k.frozen ≡ None) × (m ≡ machine_of old.settings old.number replica)
    × ((run : Run) × ((replica_at k replica).run ≡ Some run) × (run.goal ≡ generation)) × (new ≡ old)
BeginRefused files Tells k replica old new (Worn m) =
    (k.frozen ≡ None) × (m ≡ machine_of old.settings old.number replica)
    × ((replica_at k replica).run ≡ None) × ((replica_at k replica).generation ≡ LAST_GENERATION) × (new ≡ old)
BeginRefused files Tells k replica old new (Failed m faults) =
    (k.frozen ≡ None) × (m ≡ machine_of old.settings old.number replica) × IsAtRest k replica × Stands files Tells new k
BeginRefused files Tells k replica old new NoMemory = (k.frozen ≡ None) × IsAtRest k replica × Stands files Tells new k
BeginRefused files Tells k replica old new (Full m end need capacity) = ⊥
BeginRefused files Tells k replica old new (Gone front) = ⊥
BeginRefused files Tells k replica old new Idle = ⊥
BeginRefused files Tells k replica old new (Damaged m at) = ⊥

-- so many cells of a compaction were examined
abbrev pub StandsStepped : {D P : Type 0} → (D → Files) → Type 0 → VolumeKnown → ℕ → Run → ℕ → Volume D P → Type 0
StandsStepped files Tells k replica run n new = Stands files Tells new (change_at k replica (with_run (stepped n run)))

pub record IsStepped {D P : Type 0} (files : D → Files) (Tells : Type 0) (k : VolumeKnown) (replica cells n : ℕ) (new : Volume D P) : Type 0 where
  pub thawed : k.frozen ≡ None
  pub run : Run
  pub stood : (replica_at k replica).run ≡ Some run
  pub number : n ≡ min cells run.left
  pub stands : StandsStepped files Tells k replica run n new

-- A failure ends the compaction, and want of memory comes behind some cells.
abbrev pub StepRefused : {D P : Type 0} → (D → Files) → Type 0 → VolumeKnown → ℕ → ℕ → Volume D P → Volume D P → LogicalFault → Type 0
StepRefused files Tells k replica cells old new (ReadOnly m) = (k.frozen ≡ Some m) × (new ≡ old)
StepRefused files Tells k replica cells old new Idle = (k.frozen ≡ None) × ((replica_at k replica).run ≡ None) × (new ≡ old)
StepRefused files Tells k replica cells old new (Failed m faults) =
    (k.frozen ≡ None) × (m ≡ machine_of old.settings old.number replica) × IsRunning k replica × Stands files Tells new (change_at k replica without_run)
StepRefused files Tells k replica cells old new NoMemory =
    (k.frozen ≡ None) × ((run : Run) × (n : ℕ) × ((replica_at k replica).run ≡ Some run) × (n ≤ min (cells - 1) run.left) × StandsStepped files Tells k replica run n new)
StepRefused files Tells k replica cells old new (Full m end need capacity) = ⊥
StepRefused files Tells k replica cells old new (Gone front) = ⊥
StepRefused files Tells k replica cells old new (Busy m generation) = ⊥
StepRefused files Tells k replica cells old new (Worn m) = ⊥
StepRefused files Tells k replica cells old new (Damaged m at) = ⊥

-- The sizes behind a swap: the standing photos alone, or those and what came while the compaction stood.
abbrev pub IsTight : VolumeKnown → ℕ → ℕ → ℕ → Type 0
IsTight k j end cells = (end ≡ live_end (now k (replica_at k j))) × (cells ≡ length (now k (replica_at k j)))

abbrev pub IsLoose : VolumeKnown → ℕ → ℕ → ℕ → Type 0
IsLoose k j end cells =
    (live_end (now k (replica_at k j)) ≤ end) × (end ≤ (replica_at k j).end)
    × (length (now k (replica_at k j)) ≤ cells) × (cells ≤ (replica_at k j).cells)

-- The cells of a replica end here, and are so many, whatever it is said to stand for.
abbrev pub HasSizes : {D : Type 0} → (D → Files) → Copy D → ℕ → ℕ → Type 0
HasSizes files r end cells = (s : Stored) → physical.Stands files r s → (end ≡ s.end) × (cells ≡ length s.cells)

-- The files of a replica were swapped, with sizes of this kind, and the volume changed besides.
abbrev pub StandsSwapped : {D P : Type 0} → (D → Files) → Type 0 → (VolumeKnown → ℕ → ℕ → ℕ → Type 0) → (VolumeKnown → VolumeKnown) → VolumeKnown → ℕ → Volume D P → Type 0
StandsSwapped files Tells sizes besides k replica new =
    (end : ℕ) × (cells : ℕ) × sizes k replica end cells × Stands files Tells new (besides (change_at k replica (swapped end cells)))

-- A failed head switch freezes the volume by the replica's machine, and the replica stands before it or behind it.
abbrev pub poised_at : ℕ → VolumeKnown → ℕ → VolumeKnown
poised_at m k replica = change_at (frozen_by m k) replica poised

abbrev pub StandsFailed : {D P : Type 0} → (D → Files) → Type 0 → ℕ → VolumeKnown → ℕ → Volume D P → Type 0
StandsFailed files Tells m k replica new =
    Stands files Tells new (change_at k replica without_run) ⊎ Stands files Tells new (poised_at m k replica)

-- The files of a replica's old generation are gone, but for one whose removal failed.
abbrev pub RemovesOld : {D P : Type 0} → (D → Files) → (D → ℕ) → VolumeKnown → ℕ → Volume D P → Volume D P → Type 0
RemovesOld {D} files faults k j old new = (r r' : Copy D) → At old.replicas j r → At new.replicas j r' →
    RemovedBoth (files r'.disk) (volume_file (replica_at k j).generation) (index_file (replica_at k j).generation) (faults r.disk) (faults r'.disk)

pub record IsFinished {D P : Type 0} (files : D → Files) (Tells : Type 0) (k : VolumeKnown) (replica generation : ℕ) (new : Volume D P) : Type 0 where
  pub thawed : k.frozen ≡ None
  pub stood : MayFinish k replica
  pub next : generation ≡ (replica_at k replica).generation + 1
  pub swaps : StandsSwapped files Tells IsLoose as_it_is k replica new
  pub sizes : (r : Copy D) → At new.replicas replica r → HasSizes files r swaps.0 swaps.1

abbrev pub FinishRefused : {D P : Type 0} → (D → Files) → Type 0 → VolumeKnown → ℕ → Volume D P → Volume D P → LogicalFault → Type 0
FinishRefused files Tells k replica old new (ReadOnly m) = (k.frozen ≡ Some m) × (new ≡ old)
FinishRefused files Tells k replica old new Idle = (k.frozen ≡ None) × ((replica_at k replica).run ≡ None) × (new ≡ old)
FinishRefused files Tells k replica old new (Failed m faults) =
    (k.frozen ≡ None) × (m ≡ machine_of old.settings old.number replica) × IsRunning k replica × StandsFailed files Tells m k replica new
FinishRefused files Tells k replica old new NoMemory =
    (k.frozen ≡ None) × MayFinish k replica × Stands files Tells new (change_at k replica without_run)
FinishRefused files Tells k replica old new (Full m end need capacity) = ⊥
FinishRefused files Tells k replica old new (Gone front) = ⊥
FinishRefused files Tells k replica old new (Busy m generation) = ⊥
FinishRefused files Tells k replica old new (Worn m) = ⊥
FinishRefused files Tells k replica old new (Damaged m at) = ⊥

-- The files of a replica were swapped, and have just the photos that stood.
pub record IsTightened {D P : Type 0} (files : D → Files) (Tells : Type 0) (k : VolumeKnown) (replica : ℕ) (new : Volume D P) : Type 0 where
  pub swaps : StandsSwapped files Tells IsTight as_it_is k replica new
  pub sizes : (r : Copy D) → At new.replicas replica r → HasSizes files r swaps.0 swaps.1

pub record IsCompacted {D P : Type 0} (files : D → Files) (Tells : Type 0) (k : VolumeKnown) (replica generation : ℕ) (new : Volume D P) : Type 0 where
  pub thawed : k.frozen ≡ None
  pub rest : IsAtRest k replica
  pub next : generation ≡ (replica_at k replica).generation + 1
  pub swaps : StandsSwapped files Tells IsTight as_it_is k replica new
  pub sizes : (r : Copy D) → At new.replicas replica r → HasSizes files r swaps.0 swaps.1

abbrev pub CompactRefused : {D P : Type 0} → (D → Files) → Type 0 → VolumeKnown → ℕ → Volume D P → Volume D P → LogicalFault → Type 0
CompactRefused files Tells k replica old new (ReadOnly m) = (k.frozen ≡ Some m) × (new ≡ old)
CompactRefused files Tells k replica old new (Busy m generation) =
    (k.frozen ≡ None) × (m ≡ machine_of old.settings old.number replica)
    × ((run : Run) × ((replica_at k replica).run ≡ Some run) × (run.goal ≡ generation)) × Stands files Tells new k
CompactRefused files Tells k replica old new (Worn m) =
    (k.frozen ≡ None) × (m ≡ machine_of old.settings old.number replica)
    × ((replica_at k replica).run ≡ None) × ((replica_at k replica).generation ≡ LAST_GENERATION) × Stands files Tells new k
CompactRefused files Tells k replica old new (Failed m faults) =
    (k.frozen ≡ None) × (m ≡ machine_of old.settings old.number replica) × IsAtRest k replica × StandsFailed files Tells m k replica new
CompactRefused files Tells k replica old new NoMemory =
    (k.frozen ≡ None) × IsAtRest k replica × Stands files Tells new (change_at k replica without_run)
CompactRefused files Tells k replica old new (Full m end need capacity) = ⊥
CompactRefused files Tells k replica old new (Gone front) = ⊥
CompactRefused files Tells k replica old new Idle = ⊥
CompactRefused files Tells k replica old new (Damaged m at) = ⊥

-- OPENINGS

-- Behind a stop an opening finds one of the outcomes of a restart, and its notes tell which.
pub record IsReopened {D P : Type 0} (files : D → Files) (Tells : Type 0) (k : VolumeKnown) (notes : List Note) (new : Volume D P) : Type 0 where
  pub kept : List Bool
  pub opened : VolumeKnown
  pub reopened : ReopenedVolume new.settings new.number k kept opened
  pub stands : Stands files Tells new opened
  pub told : notes ≡ pending_notes new.settings new.number k.pending kept
