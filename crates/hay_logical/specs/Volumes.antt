-- A logical volume as contracts see it.
use Rattle.std.specs.Prelude.{◌≡◌, ℕ, ◌<◌, ◌≤◌, false, List, length, Option, None, Some}
use Rattle.hay_needle.specs.declared.settings.Settings.{Settings}
use Rattle.hay_needle.specs.declared.needle.Pair.{Pair}
use Rattle.hay_needle.specs.Tables.{pair_eq}
use Rattle.hay_needle.specs.declared.settings.TheConstants.{MAX_REPLICAS, MAX_VOLUMES}
use Rattle.hay_disk.specs.Disk.{Files}
use Rattle.hay_legal.specs.Known.{machine_of}
use Rattle.hay_map.specs.MapRows.{MapRows}
use Rattle.hay_map.specs.Places.{place_in}
use Rattle.hay_map.specs.Rows.{row_at}
use Rattle.hay_physical.specs.declared.state.Phase.TheVariants.{Closed}
use Rattle.hay_physical.specs.OpenCopies.{Copy, is_frozen}
use Rattle.hay_physical.specs.OpenCopies as copies
use Rattle.hay_physical.specs.Replicas as physical
use Rattle.hay_logical.specs.declared.unsure.Unsure.{Unsure}
use Rattle.hay_logical.specs.Fits.{At, super_of}

-- its replicas in order, the rows of places, how many changes were made since the opening, the machine by which it is
-- frozen, and the change that was broken off
pub record Volume (D P : Type 0) : Type 0 where
  pub settings : Settings
  pub number : ℕ
  pub replicas : List (Copy D)
  pub rows : MapRows P
  pub front : ℕ
  pub frozen : Option ℕ
  pub unsure : Option Unsure

-- settings and a volume's number that a store may have
pub record IsOfSettings (settings : Settings) (v : ℕ) : Type 0 where
  pub some : 1 ≤ settings.replicas
  pub most : settings.replicas ≤ MAX_REPLICAS
  pub fits : settings.replicas ≤ settings.machines
  pub volumes : settings.volumes ≤ MAX_VOLUMES
  pub within : v < settings.volumes

-- a machine that has a replica of volume v
abbrev pub IsMachineOf : Settings → ℕ → ℕ → Type 0
IsMachineOf settings v m = (replica : ℕ) × (replica < settings.replicas) × (m ≡ machine_of settings v replica)

-- where a volume is frozen, it is so by such a machine
abbrev pub IsFrozenBy : Settings → ℕ → Option ℕ → Type 0
IsFrozenBy settings v frozen = (m : ℕ) → frozen ≡ Some m → IsMachineOf settings v m

-- each replica has the superblock of its place
abbrev pub HasSupers : {D P : Type 0} → Volume D P → Type 0
HasSupers {D} volume = (j : ℕ) (r : Copy D) → At volume.replicas j r → r.sup ≡ super_of volume.settings volume.number j

-- What holds of every volume: among others, no change is pending unless it is frozen.
pub record IsShaped {D P : Type 0} (volume : Volume D P) : Type 0 where
  pub settings : IsOfSettings volume.settings volume.number
  pub count : length volume.replicas ≤ volume.settings.replicas
  pub sups : HasSupers volume
  pub width : volume.rows.replicas ≡ volume.settings.replicas
  pub thawed : volume.frozen ≡ None → (j : ℕ) (r : Copy D) → At volume.replicas j r → is_frozen r ≡ false
  pub frozen_by : IsFrozenBy volume.settings volume.number volume.frozen
  pub settled : volume.frozen ≡ None → volume.unsure ≡ None

-- Each photo that the rows have of a replica can be deleted there.
abbrev pub DeletesPlaces : {D P : Type 0} → (D → Files) → MapRows P → ℕ → Copy D → Type 0
DeletesPlaces files rows j r = (pair : Pair) → physical.MayDeletePlace files r (place_in (row_at rows pair) j)

-- Each place that was not looked at yet can be seen, and its needle does not have the flags of another pair's cell. The piece that a
-- place has tells, and is a whole needle.
pub record SeesPlaces {D P : Type 0} (files : D → Files) (Tells : Type 0) (rows : MapRows P) (j : ℕ) (r : Copy D) : Type 0 where
  pub may : (pair : Pair) → physical.MaySeePlace files r (place_in (row_at rows pair) j)
  pub apart : (pair other : Pair) → pair_eq pair other ≡ false →
      physical.ArePlacesApart (place_in (row_at rows pair) j) (place_in (row_at rows other) j)
  pub whole : (pair : Pair) → physical.HasWholeNeedle Tells (place_in (row_at rows pair) j)

-- What the rows have of a replica which takes changes can be deleted, and what they have of one that is open can be seen.
pub record ReachesPlaces {D P : Type 0} (files : D → Files) (Tells : Type 0) (rows : MapRows P) (j : ℕ) (r : Copy D) : Type 0 where
  pub deletes : copies.IsUp r → DeletesPlaces files rows j r
  pub sees : copies.IsOpenCopy r → SeesPlaces files Tells rows j r

abbrev pub CanReach : {D P : Type 0} → Type 0 → (D → Files) → Type 0 → List (Copy D) → MapRows P → Type 0
CanReach {D} DiskTells files Tells replicas rows = DiskTells → (j : ℕ) (r : Copy D) → At replicas j r → ReachesPlaces files Tells rows j r

-- all replicas are there
abbrev pub HasAll : {D P : Type 0} → Volume D P → Type 0
HasAll volume = length volume.replicas ≡ volume.settings.replicas

-- each replica is closed, and each is open
abbrev pub IsClosed : {D P : Type 0} → Volume D P → Type 0
IsClosed {D} volume = (j : ℕ) (r : Copy D) → At volume.replicas j r → r.phase ≡ Closed

pub record IsOpenVolume {D P : Type 0} (volume : Volume D P) : Type 0 where
  pub all : HasAll volume
  pub each : (j : ℕ) (r : Copy D) → At volume.replicas j r → copies.IsOpenCopy r

-- no count of faults fell, and the fuses stayed
pub record KeepsCounts {D : Type 0} (faults fuses : D → ℕ) (old new : List (Copy D)) : Type 0 where
  pub count : length new ≡ length old
  pub rises : (j : ℕ) (r r' : Copy D) → At old j r → At new j r' → faults r.disk ≤ faults r'.disk
  pub stay : (j : ℕ) (r r' : Copy D) → At old j r → At new j r' → fuses r'.disk ≡ fuses r.disk

-- the same volume, of which each replica keeps its superblock
pub record IsSame {D P : Type 0} (old new : Volume D P) : Type 0 where
  pub settings : new.settings ≡ old.settings
  pub number : new.number ≡ old.number
  pub sups : (j : ℕ) (r r' : Copy D) → At old.replicas j r → At new.replicas j r' → r'.sup ≡ r.sup
