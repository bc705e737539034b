-- What is known of a replica against what its disk has, and what a change that was broken off has left of itself.
use Rattle.std.specs.Prelude.{◌≡◌, ℕ, ◌+◌, ◌-◌, nat_lt, Bool, false, true, List, [], ◌∷◌, length, Option, Some, None, option_map, slice_get, if◌then◌else◌}
use Rattle.hay_needle.specs.declared.settings.Settings.{Settings}
use Rattle.hay_needle.specs.declared.settings.Super.{Super}
use Rattle.hay_needle.specs.declared.settings.FileKind.TheVariants as kind
use Rattle.hay_needle.specs.declared.needle.Outcome.{Outcome}
use Rattle.hay_needle.specs.declared.needle.Pair.{Pair}
use Rattle.hay_needle.specs.Needle.{needle_of_cell}
use Rattle.hay_needle.specs.Tables.{needle_outcome, table_of}
use Rattle.hay_disk.specs.Disk.{Files}
use Rattle.hay_volume.specs.Cells.{needles_of}
use Rattle.hay_core.specs.declared.entry.Entry.{Entry}
use Rattle.hay_core.specs.Entries.{apply_entry}
use Rattle.hay_legal.specs.declared.known.ReplicaKnown.{ReplicaKnown}
use Rattle.hay_legal.specs.declared.known.Run.{Run}
use Rattle.hay_legal.specs.declared.known.VolumeKnown.{VolumeKnown}
use Rattle.hay_legal.specs.Known.{now}
use Rattle.hay_legal.specs.Restarts.{added_cells, added_end}
use Rattle.hay_legal.specs.Stands.{Contents, Found}
use Rattle.hay_needle.specs.declared.needle.Cell.{Cell}
use Rattle.hay_map.specs.Places.{PlaceMeans}
use Rattle.hay_map.specs.declared.place.Place.{Place}
use Rattle.hay_map.specs.declared.place.Place.TheVariants as place
use Rattle.hay_open.specs.Stored.{IsSealedCell, Stored, OpensAs}
use Rattle.hay_physical.specs.OpenCopies.{Copy}
use Rattle.hay_physical.specs.Replicas as physical
use Rattle.hay_physical.specs.CompactionRuns as runs

-- the item at this place of a list
abbrev pub At : {X : Type 0} → List X → ℕ → X → Type 0
At xs j x = slice_get xs j ≡ Some x

-- what an opening finds on the disk of replica j of volume v
abbrev pub super_of : Settings → ℕ → ℕ → Super
super_of settings v j = record { settings = settings; kind = kind.Volume; volume = v; replica = j; generation = 0 }

abbrev pub found_as : Stored → Found
found_as s = record {
  table = table_of (needles_of s.cells);
  end = s.end;
  cells = length s.cells;
  bare = length s.cells - s.records;
  generation = s.generation;
}

pub record FoundReplica (settings : Settings) (v j : ℕ) (contents : Contents) (found : Found) : Type 0 where
  pub stored : Stored
  pub opens : OpensAs (super_of settings v j) contents stored
  pub is : found ≡ found_as stored

unfoldable pub IsReplica : Settings → ℕ → ℕ → Contents → Found → Type 0
IsReplica settings v j contents found = FoundReplica settings v j contents found

-- what is known of a replica of a volume is what its disk has
pub record Fits (k : VolumeKnown) (replica : ReplicaKnown) (s : Stored) : Type 0 where
  pub table : table_of (needles_of s.cells) ≡ now k replica
  pub end : replica.end ≡ s.end
  pub cells : replica.cells ≡ length s.cells
  pub bare : replica.bare + s.records ≡ length s.cells
  pub generation : replica.generation ≡ s.generation

-- a compaction that is known, as a replica has it
abbrev pub copier_run : Run → runs.Run
copier_run run = record { goal = run.goal; left = run.left; tight = false }

-- The compaction that is known stands at a replica, or none.
abbrev pub RunsAs : {D : Type 0} → (D → Files) → Copy D → Stored → Option Run → Type 0
RunsAs files r s run = runs.HasRun files r s (option_map copier_run run)

-- The place of a pair whose last cell this is. Behind a swap a pair that never had a row may have a deleted cell.
abbrev pub PhotoAt : {P : Type 0} → Type 0 → Option Cell → Place P → Type 0
PhotoAt Tells (Some cell) (place.Live needle) = IsSealedCell Tells cell needle
PhotoAt Tells (Some cell) place.None = cell.deleted ≡ true
PhotoAt Tells (Some cell) place.Gone = cell.deleted ≡ true
PhotoAt Tells (Some cell) (place.Unseen at size) = (at ≡ cell.at) × (size ≡ length cell.bytes)
PhotoAt Tells None (place.Live needle) = ⊥
PhotoAt Tells None place.None = Unit {0}
PhotoAt Tells None place.Gone = Unit {0}
PhotoAt Tells None (place.Unseen at size) = ⊥

-- A cell of the pair stands on the replica, where the place has it, and is seen as this.
pub record IsUnseen {D : Type 0} (files : D → Files) (r : Copy D) (pair : Pair) (at size : ℕ) (what : Outcome) : Type 0 where
  pub cell : Cell
  pub shows : physical.ShowsCell files r cell
  pub place : at ≡ cell.at
  pub long : size ≡ length cell.bytes
  pub own : cell.pair ≡ pair
  pub is : needle_outcome (needle_of_cell cell) ≡ what

-- What the place of a pair on a replica stands for. One that was not looked at yet stands for what its cell is seen as.
abbrev pub PlaceStands : {D P : Type 0} → (D → Files) → Type 0 → Copy D → Pair → Place P → Outcome → Type 0
PlaceStands {P = P} files Tells r pair (place.Live needle) what = PlaceMeans {P = P} Tells pair (place.Live needle) what
PlaceStands {P = P} files Tells r pair place.None what = PlaceMeans {P = P} Tells pair place.None what
PlaceStands {P = P} files Tells r pair place.Gone what = PlaceMeans {P = P} Tells pair place.Gone what
PlaceStands files Tells r pair (place.Unseen at size) what = IsUnseen files r pair at size what

-- a change makes t of s
pub record Makes (entry : Entry) (s t : Stored) : Type 0 where
  pub table : table_of (needles_of t.cells) ≡ apply_entry (table_of (needles_of s.cells)) entry
  pub end : t.end ≡ s.end + added_end (entry ∷ [])
  pub cells : length t.cells ≡ length s.cells + added_cells (entry ∷ [])
  pub records : t.records ≡ s.records
  pub generation : t.generation ≡ s.generation

-- A change that was broken off at one replica is kept by those below it, lost by those above it, and by that one perhaps
-- kept.
pub data Part : Type 0 where
  Kept Unsure Lost : Part

abbrev pub part_of : ℕ → ℕ → Part
part_of broken_at j = if nat_lt j broken_at then Kept else if nat_lt broken_at j then Lost else Unsure

abbrev pub HoldsPart : {D : Type 0} → (D → Files) → Copy D → Bool → Entry → Stored → Part → Type 0
HoldsPart files r stuck entry s Kept = (t : Stored) × Makes entry s t × physical.Holds files r stuck t t
HoldsPart files r stuck entry s Unsure = (t : Stored) × Makes entry s t × physical.Holds files r stuck s t
HoldsPart files r stuck entry s Lost = physical.Holds files r stuck s s

-- Where a head switch failed, a replica holds what stood, or what its compaction made of that.
abbrev pub HoldsSwap : {D : Type 0} → (D → Files) → Copy D → Bool → Stored → Bool → Type 0
HoldsSwap files r stuck s false = physical.Holds files r stuck s s
HoldsSwap files r stuck s true = (t : Stored) × runs.Swaps s t × physical.Holds files r stuck s t
