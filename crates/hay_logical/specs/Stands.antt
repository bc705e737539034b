-- When a logical volume stands for what is known of it.
use Rattle.std.specs.Prelude.{◌≡◌, ℕ, ◌<◌, ◌≤◌, Bool, true, false, length, Option, Some, None, slice_index}
use Rattle.hay_needle.specs.declared.needle.Pair.{Pair}
use Rattle.hay_needle.specs.declared.settings.Settings.{Settings}
use Rattle.hay_needle.specs.Tables.{outcome_at}
use Rattle.hay_disk.specs.Disk.{Files}
use Rattle.hay_core.specs.declared.entry.Entry.{Entry}
use Rattle.hay_core.specs.declared.entry.Entry.TheVariants.{Put, Del}
use Rattle.hay_legal.specs.declared.known.Pending.{Pending}
use Rattle.hay_legal.specs.declared.known.VolumeKnown.{VolumeKnown}
use Rattle.hay_legal.specs.Known.{now, replica_at, machine_of}
use Rattle.hay_legal.specs.Statuses.{IsNewVolume}
use Rattle.hay_legal.specs.Stands.{found_of}
use Rattle.hay_map.specs.Places.{place_in}
use Rattle.hay_map.specs.Rows.{row_at}
use Rattle.hay_open.specs.Stored.{Stored, last_cell}
use Rattle.hay_physical.specs.OpenCopies.{Copy, contents_of, goal_of, is_stuck}
use Rattle.hay_physical.specs.Replicas as physical
use Rattle.hay_physical.specs.CompactionRuns as runs
use Rattle.hay_logical.specs.declared.unsure.Change.{Change}
use Rattle.hay_logical.specs.declared.unsure.Change.TheVariants as change
use Rattle.hay_logical.specs.declared.unsure.Unsure.{Unsure}
use Rattle.hay_logical.specs.Fits.{At, Fits, HoldsPart, HoldsSwap, IsReplica, PhotoAt, PlaceStands, RunsAs, part_of}
use Rattle.hay_logical.specs.Volumes.{HasAll, Volume}

-- A CHANGE THAT WAS BROKEN OFF

-- it is kept in memory: a put with where each replica's cells ended
abbrev pub IsChange : Change → VolumeKnown → Entry → Type 0
IsChange (change.Put ends) k (Put pair cookie bytes) = (j : ℕ) → j < length k.replicas → slice_index ends j ≡ (replica_at k j).end
IsChange (change.Delete other) k (Del pair) = other ≡ pair
IsChange (change.Put ends) k (Del pair) = ⊥
IsChange (change.Delete other) k (Put pair cookie bytes) = ⊥

abbrev pub IsPending : Option Unsure → VolumeKnown → Option Pending → Type 0
IsPending None k None = Unit {0}
IsPending (Some unsure) k (Some pending) = (unsure.tag ≡ pending.tag) × IsChange unsure.change k pending.entry
IsPending None k (Some pending) = ⊥
IsPending (Some unsure) k None = ⊥

-- Where it failed, its volume is frozen by the machine of the replica that broke it off. Where memory was wanting, a delete
-- stands on all of them, and a put perhaps on some.
abbrev pub BreaksOffAt : Settings → ℕ → Option ℕ → ℕ → Bool → Entry → Type 0
BreaksOffAt settings v frozen broken_at true entry = (broken_at < settings.replicas) × (frozen ≡ Some (machine_of settings v broken_at))
BreaksOffAt settings v frozen broken_at false (Put pair cookie bytes) = Unit {0}
BreaksOffAt settings v frozen broken_at false (Del pair) = settings.replicas ≤ broken_at

abbrev pub IsBroken : Settings → ℕ → Option ℕ → ℕ → Option Pending → Type 0
IsBroken settings v frozen broken_at None = Unit {0}
IsBroken settings v frozen broken_at (Some pending) = BreaksOffAt settings v frozen broken_at pending.failed pending.entry

-- WHAT THE DISKS HOLD

abbrev pub HoldsPending : {D : Type 0} → (D → Files) → Copy D → Bool → Bool → Stored → Option Pending → ℕ → ℕ → Type 0
HoldsPending files r stuck poised s None broken_at j = HoldsSwap files r stuck s poised
HoldsPending files r stuck poised s (Some pending) broken_at j = (poised ≡ false) × HoldsPart files r stuck pending.entry s (part_of broken_at j)

-- A replica's disk has what is known, and of a change or a head switch that was broken off what it may have.
pub record ReplicaHolds {D : Type 0} (files : D → Files) (k : VolumeKnown) (broken_at j : ℕ) (r : Copy D) : Type 0 where
  pub stored : Stored
  pub fits : Fits k (replica_at k j) stored
  pub holds : HoldsPending files r (replica_at k j).stuck (replica_at k j).poised stored k.pending broken_at j

pub record HoldsFor {D P : Type 0} (files : D → Files) (volume : Volume D P) (k : VolumeKnown) : Type 0 where
  pub all : HasAll volume
  pub many : length k.replicas ≡ volume.settings.replicas
  pub broken_at : ℕ
  pub broken : IsBroken volume.settings volume.number k.frozen broken_at k.pending
  pub each : (j : ℕ) (r : Copy D) → At volume.replicas j r → ReplicaHolds files k broken_at j r

-- In every image of its disks an opening finds one of the outcomes of a restart from what is known.
unfoldable pub Holds : {D P : Type 0} → (D → Files) → Volume D P → VolumeKnown → Type 0
Holds files volume k = HoldsFor files volume k

-- OPEN VOLUMES

-- A replica takes changes, the compaction that is known stands at it, and its places are those of its photos.
pub record ReplicaStands {D P : Type 0} (files : D → Files) (Tells : Type 0) (volume : Volume D P) (k : VolumeKnown) (j : ℕ) (r : Copy D) : Type 0 where
  pub stored : Stored
  pub fits : Fits k (replica_at k j) stored
  pub stands : physical.Stands files r stored
  pub stuck : (replica_at k j).stuck ≡ is_stuck r
  pub run : RunsAs files r stored (replica_at k j).run
  pub settled : (replica_at k j).poised ≡ false
  pub places : (pair : Pair) → PhotoAt Tells (last_cell stored.cells pair) (place_in (row_at volume.rows pair) j)

pub record TakesChanges {D P : Type 0} (files : D → Files) (Tells : Type 0) (volume : Volume D P) (k : VolumeKnown) : Type 0 where
  pub pending : k.pending ≡ None
  pub each : (j : ℕ) (r : Copy D) → At volume.replicas j r → ReplicaStands files Tells volume k j r

-- Of a frozen volume the places stand for what stood before the change that was broken off. No compaction stands.
pub record IsFrozen {D P : Type 0} (files : D → Files) (Tells : Type 0) (volume : Volume D P) (k : VolumeKnown) : Type 0 where
  pub places : (pair : Pair) (j : ℕ) (r : Copy D) → At volume.replicas j r →
      PlaceStands files Tells r pair (place_in (row_at volume.rows pair) j) (outcome_at (now k (replica_at k j)) pair)
  pub idle : (j : ℕ) (r : Copy D) → At volume.replicas j r → ((replica_at k j).run ≡ None) × (goal_of r ≡ None)
  pub holds : HoldsFor files volume k

abbrev pub StandsBy : {D P : Type 0} → (D → Files) → Type 0 → Volume D P → VolumeKnown → Option ℕ → Type 0
StandsBy files Tells volume k None = TakesChanges files Tells volume k
StandsBy files Tells volume k (Some m) = IsFrozen files Tells volume k

pub record StandsFor {D P : Type 0} (files : D → Files) (Tells : Type 0) (volume : Volume D P) (k : VolumeKnown) : Type 0 where
  pub all : HasAll volume
  pub many : length k.replicas ≡ volume.settings.replicas
  pub front : volume.front ≡ length k.log
  pub frozen : k.frozen ≡ volume.frozen
  pub unsure : IsPending volume.unsure k k.pending
  pub by : StandsBy files Tells volume k volume.frozen

-- An open volume stands for what is known of it.
unfoldable pub Stands : {D P : Type 0} → (D → Files) → Type 0 → Volume D P → VolumeKnown → Type 0
Stands files Tells volume k = StandsFor files Tells volume k

-- A compaction stands at a replica that has copied just what stands: nothing but it has changed the replica.
pub record RunsTight {D : Type 0} (files : D → Files) (r : Copy D) : Type 0 where
  pub stored : Stored
  pub stands : physical.Stands files r stored
  pub run : runs.Run
  pub has : runs.HasRun files r stored (Some run)
  pub tight : run.tight ≡ true

abbrev pub IsTightAt : {D P : Type 0} → (D → Files) → Volume D P → ℕ → Type 0
IsTightAt {D} files volume j = (r : Copy D) → At volume.replicas j r → RunsTight files r

-- CLOSED VOLUMES

abbrev pub IsIdleVolume : {D P : Type 0} → (D → Files) → Volume D P → Type 0
IsIdleVolume {D} files volume = (j : ℕ) (r : Copy D) → At volume.replicas j r → physical.IsIdleCopy files r

-- A volume that was stopped: its disks hold what is known, and what was broken off is kept in memory.
pub record StoppedFor {D P : Type 0} (files : D → Files) (volume : Volume D P) (k : VolumeKnown) : Type 0 where
  pub holds : HoldsFor files volume k
  pub unsure : IsPending volume.unsure k k.pending

unfoldable pub Stopped : {D P : Type 0} → (D → Files) → Volume D P → VolumeKnown → Type 0
Stopped files volume k = StoppedFor files volume k

-- A volume at which nothing has happened yet, as its disks have it.
pub record IsFirst {D P : Type 0} (files : D → Files) (volume : Volume D P) (k : VolumeKnown) : Type 0 where
  pub new : IsNewVolume volume.settings k
  pub unsure : volume.unsure ≡ None
  pub found : (j : ℕ) (r : Copy D) → At volume.replicas j r →
      IsReplica volume.settings volume.number j (contents_of files r.disk) (found_of (replica_at k j))
