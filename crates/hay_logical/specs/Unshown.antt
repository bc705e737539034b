-- Changes that stand on each replica, and not yet in the rows.
use Rattle.std.specs.Prelude.{◌≡◌, ℕ, ◌<◌, ◌+◌, true, false, List, length, map, slice_get, slice_index, slice_index_or, Some, None}
use Rattle.hay_needle.specs.declared.needle.Cookie.{Cookie}
use Rattle.hay_needle.specs.declared.needle.Outcome.TheVariants as outcome
use Rattle.hay_needle.specs.declared.needle.Pair.{Pair}
use Rattle.hay_needle.specs.Tables.{outcome_at}
use Rattle.hay_disk.specs.Counts.{Rose}
use Rattle.hay_disk.specs.Disk.{Files}
use Rattle.hay_core.specs.declared.entry.CoreTag.{CoreTag}
use Rattle.hay_core.specs.declared.entry.Entry.{Entry}
use Rattle.hay_core.specs.declared.entry.Entry.TheVariants.{Put, Del}
use Rattle.hay_legal.specs.declared.known.ReplicaKnown.{ReplicaKnown}
use Rattle.hay_legal.specs.declared.known.VolumeKnown.{VolumeKnown}
use Rattle.hay_legal.specs.Known.{empty_replica, machine_of, now, replica_at}
use Rattle.hay_legal.specs.Plain.{ended_where, frozen_with, grown}
use Rattle.hay_map.specs.MapRows.{MapRows}
use Rattle.hay_map.specs.Places.{PlaceMeans, place_in}
use Rattle.hay_map.specs.Rows.{ChangesRows, HasRoom as HasRowRoom, KeepsRows, changed_row, row_at}
use Rattle.hay_map.specs.declared.view.MapOp.{MapOp}
use Rattle.hay_map.specs.declared.view.MapOp.TheVariants as op
use Rattle.hay_open.specs.Stored.{Stored, last_cell}
use Rattle.hay_physical.specs.OpenCopies.{Copy, is_stuck}
use Rattle.hay_physical.specs.Replicas as physical
use Rattle.hay_logical.specs.declared.unsure.Change.{Change}
use Rattle.hay_logical.specs.declared.unsure.Change.TheVariants as change
use Rattle.hay_logical.specs.declared.written.Erased.{Erased}
use Rattle.hay_logical.specs.declared.written.Written.{Written}
use Rattle.hay_logical.specs.Answers.{HasRoom, ended_runs, is_held}
use Rattle.hay_logical.specs.Fits.{At, Fits, Makes, PhotoAt, PlaceStands, RunsAs}
use Rattle.hay_logical.specs.Sights.{sight}
use Rattle.hay_logical.specs.Sights.Sight.{Live}
use Rattle.hay_logical.specs.Stands.{IsChange, Stands}
use Rattle.hay_logical.specs.Volumes.{CanReach, HasAll, Volume}

-- The replica has what the change makes of what is known. Once the rows are changed too, its places are those of its photos, and
-- `behind` is what is known of the replicas.
pub record ReplicaUnshown {D P : Type 0} (files : D → Files) (Tells : Type 0) (k : VolumeKnown) (entry : Entry) (change : MapOp P) (behind : List ReplicaKnown) (rows : MapRows P)
    (j : ℕ) (r : Copy D) : Type 0 where
  pub before : Stored
  pub stored : Stored
  pub fits : Fits k (replica_at k j) before
  pub makes : Makes entry before stored
  pub stands : physical.Stands files r stored
  pub stuck : (replica_at k j).stuck ≡ is_stuck r
  pub settled : (replica_at k j).poised ≡ false
  pub run : RunsAs files r stored (slice_index_or behind j empty_replica).run
  pub places : (pair : Pair) → PhotoAt Tells (last_cell stored.cells pair) (place_in (changed_row change pair (row_at rows pair)) j)

-- The rows show what stood before the change.
pub record IsUnshown {D P : Type 0} (files : D → Files) (Tells : Type 0) (k : VolumeKnown) (entry : Entry) (change : MapOp P) (behind : List ReplicaKnown) (volume : Volume D P) : Type 0 where
  pub all : HasAll volume
  pub many : length k.replicas ≡ volume.settings.replicas
  pub front : volume.front ≡ length k.log
  pub frozen : k.frozen ≡ volume.frozen
  pub thawed : volume.frozen ≡ None
  pub pending : k.pending ≡ None
  pub unsure : volume.unsure ≡ None
  pub shows : (pair : Pair) (j : ℕ) (r : Copy D) → At volume.replicas j r →
      PlaceStands files Tells r pair (place_in (row_at volume.rows pair) j) (outcome_at (now k (replica_at k j)) pair)
  pub each : (j : ℕ) (r : Copy D) → At volume.replicas j r → ReplicaUnshown files Tells k entry change behind volume.rows j r

-- a change that was not shown is given up, and pending then
abbrev pub GivesUp : {D P : Type 0} → (D → Files) → Type 0 → VolumeKnown → CoreTag → Change → Volume D P → Volume D P → Type 0
GivesUp {P = P} files Tells k tag asked old new = (entry : Entry) (change : MapOp P) (behind : List ReplicaKnown) →
    IsUnshown files Tells k entry change behind old → IsChange asked k entry →
    Stands files Tells new (frozen_with (machine_of old.settings old.number 0) tag entry false k)

-- the rows are as before, and all else but the replicas
pub record ShowsSame {D P : Type 0} (old new : Volume D P) : Type 0 where
  pub rows : KeepsRows old.rows new.rows
  pub front : new.front ≡ old.front
  pub frozen : new.frozen ≡ old.frozen
  pub unsure : new.unsure ≡ old.unsure

-- PUTS

-- The photo stands on each replica, and each place of the row means it.
pub record IsWritten {D P : Type 0} (files : D → Files) (Tells : Type 0) (k : VolumeKnown) (pair : Pair) (cookie : Cookie) (bytes : List ℕ) (written : Written P) (volume : Volume D P) : Type 0 where
  pub room : HasRoom volume.settings volume.number k (length bytes)
  pub own : written.pair ≡ pair
  pub position : written.position ≡ length k.log + 1
  pub long : length written.row ≡ volume.settings.replicas
  pub means : (j : ℕ) → j < volume.settings.replicas → PlaceMeans Tells pair (place_in written.row j) (outcome.Photo (record { cookie = cookie; bytes = bytes }))
  pub ends : IsChange (change.Put written.ends) k (Put pair cookie bytes)
  pub unshown : IsUnshown files Tells k (Put pair cookie bytes) (op.Put pair written.row) (map (grown (length bytes)) k.replicas) volume

-- It can be shown without memory, each place is that of the photo, behind the cells before it, and each photo is in reach then.
pub record IsWrittenFor {D P : Type 0} (DiskTells : Type 0) (files : D → Files) (Tells : Type 0) (written : Written P) (volume : Volume D P) : Type 0 where
  pub room : HasRowRoom volume.rows
  pub long : length written.row ≡ volume.rows.replicas
  pub live : (j : ℕ) → j < length written.row → sight (place_in written.row j) ≡ Live (slice_index written.ends j)
  pub reach : (rows : MapRows P) → ChangesRows (op.Put written.pair written.row) volume.rows rows → CanReach DiskTells files Tells volume.replicas rows

-- DELETES

-- The photo is deleted from each replica that had it. A compaction ended only where its disk's count of faults rose.
pub record IsErased {D P : Type 0} (files : D → Files) (faults : D → ℕ) (Tells : Type 0) (k : VolumeKnown) (pair : Pair) (erased : Erased) (old new : Volume D P) : Type 0 where
  pub stood : is_held k pair ≡ true
  pub own : erased.pair ≡ pair
  pub position : erased.position ≡ length k.log + 1
  pub count : length (ended_runs old.replicas new.replicas) ≡ old.settings.replicas
  pub cause : (j : ℕ) (r r' : Copy D) → slice_get (ended_runs old.replicas new.replicas) j ≡ Some true → At old.replicas j r → At new.replicas j r' → Rose (faults r.disk) (faults r'.disk)
  pub unshown : IsUnshown files Tells k (Del pair) (op.Del pair) (ended_where (ended_runs old.replicas new.replicas) k.replicas) new
