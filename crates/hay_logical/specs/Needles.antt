-- What looks and compactions tell of the needles of a volume file, where the disk tells what it holds.
use Rattle.std.specs.Prelude.{◌≡◌, ◌≤◌, ◌<◌, ℕ, true, false, List, length, Result, Err}
use Rattle.std.specs.List.{AllByRecursion}
use Rattle.hay_needle.specs.declared.needle.CellHead.{CellHead}
use Rattle.hay_needle.specs.declared.settings.Settings.{Settings}
use Rattle.hay_needle.specs.declared.needle.Pair.{Pair}
use Rattle.hay_disk.specs.Disk.{Files}
use Rattle.hay_legal.specs.Known.{machine_of}
use Rattle.hay_volume.specs.Needles.{AreHeadsFrom, HasNeedleOf, LacksNeedleOf, LacksNeedleWithin}
use Rattle.hay_compact.specs.Copying.{HeadStands, IsPassedOrStands}
use Rattle.hay_physical.specs.declared.fault.ReplicaFault.{ReplicaFault}
use Rattle.hay_physical.specs.declared.fault.ReplicaFault.TheVariants as fault
use Rattle.hay_physical.specs.OpenCopies.{Copy, volume_bytes}
use Rattle.hay_physical.specs.Replicas.{HasLiveNeedleAt}
use Rattle.hay_map.specs.MapRows.{MapRows}
use Rattle.hay_logical.specs.Fits.{At}
use Rattle.hay_logical.specs.Seen.{ReplicaSeen, begun, replica_seen}
use Rattle.hay_logical.specs.Sights.{DeletesSights, Sight, Sights, latest_sight, sights_of}
use Rattle.hay_logical.specs.Sights.Sight.{Gone, Live, Never, Unseen}

-- LOOKS

-- What a look made of a place is so by the needle of the recorded size that stands there.
abbrev pub IsToldBy : List ℕ → Sight → Sight → Type 0
IsToldBy file (Unseen at size) (Live there) = HasNeedleOf size false at file
IsToldBy file (Unseen at size) Gone = HasNeedleOf size true at file
IsToldBy file (Unseen at size) Never = Unit {0}
IsToldBy file (Unseen at size) (Unseen there long) = Unit {0}
IsToldBy file Never after = Unit {0}
IsToldBy file (Live at) after = Unit {0}
IsToldBy file Gone after = Unit {0}

-- So it is of a pair on each replica.
abbrev pub AreToldBy : {D : Type 0} → (D → Files) → List (Copy D) → Pair → Sights → Sights → Type 0
AreToldBy {D} files replicas pair old new = (j : ℕ) (r : Copy D) → At replicas j r → IsToldBy (volume_bytes files r) (old pair j) (new pair j)

-- The photo of a pair was found by looks that are so, and is gone.
pub record DeletesTold {D : Type 0} (files : D → Files) (replicas : List (Copy D)) (pair : Pair) (number : ℕ) (old new : Sights) : Type 0 where
  pub deletes : DeletesSights pair number old new
  pub told : AreToldBy files replicas pair old deletes.found

-- the needle of a photo that was seen stands there, and is not deleted
abbrev pub HasLiveNeedle : List ℕ → Sight → Type 0
HasLiveNeedle file (Live at) = HasLiveNeedleAt file at
HasLiveNeedle file Never = Unit {0}
HasLiveNeedle file Gone = Unit {0}
HasLiveNeedle file (Unseen at size) = Unit {0}

-- so it is of each pair on one replica
abbrev pub HasLiveNeedles : Sights → ℕ → List ℕ → Type 0
HasLiveNeedles sights replica file = (pair : Pair) → HasLiveNeedle file (sights pair replica)

-- No needle of the recorded size begins at the place of one that was not looked at yet.
abbrev pub LacksSeen : List ℕ → ℕ → Sight → Type 0
LacksSeen file place (Unseen at size) = (place ≡ at) × LacksNeedleOf size at file
LacksSeen file place Never = ⊥
LacksSeen file place (Live at) = ⊥
LacksSeen file place Gone = ⊥

-- What a look at the place of a pair on one replica tells of its volume file.
pub record TellsNeedle {P : Type 0} (file : List ℕ) (pair : Pair) (at : ℕ) (rows rows' : MapRows P) (result : Result Unit ReplicaFault) : Type 0 where
  pub told : IsToldBy file (sights_of rows pair at) (sights_of rows' pair at)
  pub lacks : (place : ℕ) → result ≡ Err (fault.Damaged place) → LacksSeen file place (sights_of rows pair at)

-- So it is of a pair on a replica on this machine, where its look found damage.
pub record IsDamagedLook {D : Type 0} (files : D → Files) (settings : Settings) (v : ℕ) (replicas : List (Copy D)) (pair : Pair)
    (m place : ℕ) (sights : Sights) : Type 0 where
  pub replica : ℕ
  pub within : replica < settings.replicas
  pub machine : m ≡ machine_of settings v replica
  pub there : Copy D
  pub is : At replicas replica there
  pub lacks : LacksSeen (volume_bytes files there) place (sights pair replica)

-- So it is of a pair on this replica, whose look did.
abbrev pub LacksSeenOn : {D : Type 0} → (D → Files) → List (Copy D) → Pair → ℕ → ℕ → Sights → Type 0
LacksSeenOn {D} files replicas pair replica place sights = (r : Copy D) → At replicas replica r → LacksSeen (volume_bytes files r) place (sights pair replica)

-- COMPACTIONS

-- From `next` on so many heads of needles stand, each where the needle of the one before it ends, up to `place`. Each cell is deleted,
-- or is not the last of its pair on the replica that is seen so, or its whole needle stands there.
pub record HeadsLead (sights : Sights) (replica number next place : ℕ) (file : List ℕ) : Type 0 where
  pub heads : List CellHead
  pub row : AreHeadsFrom next heads place
  pub stand : AllByRecursion (λ (head : CellHead). HeadStands head.at head file) heads
  pub met : AllByRecursion (λ (head : CellHead). IsPassedOrStands head.at head (latest_sight (sights head.pair replica)) file) heads
  pub many : length heads ≡ number

-- So they do from the next cell of a compaction on, as far as the end of the cells.
abbrev pub HeadsLeadOn : Sights → ℕ → ReplicaSeen → List ℕ → Type 0
HeadsLeadOn sights replica r file = (number : ℕ) × (place : ℕ) × (r.end ≤ place) × HeadsLead sights replica number r.next place file

-- and so do fewer than so many, where memory was wanting before they were examined
abbrev pub HeadsLeadPart : Sights → ℕ → ℕ → ℕ → ℕ → List ℕ → Type 0
HeadsLeadPart sights replica cells next place file = (number : ℕ) × (number < cells) × HeadsLead sights replica number next place file

-- A compaction that was to examine so many cells met damage here: the heads of fewer lead from its next one to this place, and no needle
-- that ends before the cells do begins there.
pub record LacksCell (sights : Sights) (replica cells place : ℕ) (r : ReplicaSeen) (file : List ℕ) : Type 0 where
  pub examined : ℕ
  pub few : examined < cells
  pub lead : HeadsLead sights replica examined r.next place file
  pub lacks : LacksNeedleWithin r.end place file

-- So did one that was to examine all that are left: there are fewer cells than bytes.
abbrev pub LacksCellLeft : Sights → ℕ → ℕ → ReplicaSeen → List ℕ → Type 0
LacksCellLeft sights replica place r file = LacksCell sights replica r.end place r file

-- and one that began with the first cell
abbrev pub LacksCellAnew : Sights → ℕ → ℕ → ReplicaSeen → List ℕ → Type 0
LacksCellAnew sights replica place r file = LacksCellLeft sights replica place (begun r) file

-- It is so of this replica, and of what reads of its volume file give.
abbrev pub IsDamagedCell : {D : Type 0} → (D → Files) → List (Copy D) → ℕ → (ReplicaSeen → List ℕ → Type 0) → Type 0
IsDamagedCell {D} files replicas replica Is = (r : Copy D) → At replicas replica r → Is (replica_seen r) (volume_bytes files r)
