-- When a replica stands for what its disk has, and what a change that failed may have left.
use Rattle.std.specs.Prelude.{◌≡◌, ◌⊎◌, ◌≤◌, ◌<◌, ℕ, ◌+◌, Bool, true, false, List, [], ◌∷◌, ◌++◌, length, map, take, Some, None, ⊤}
use Rattle.hay_needle.specs.declared.needle.Cell.{Cell}
use Rattle.hay_needle.specs.declared.needle.Cookie.{Cookie}
use Rattle.hay_needle.specs.declared.needle.Pair.{Pair}
use Rattle.hay_needle.specs.declared.settings.Super.{Super}
use Rattle.hay_needle.specs.Sizes.{needle_total}
use Rattle.hay_needle.specs.Super.{super_bytes}
use Rattle.hay_disk.specs.Disk.{Files, FileState, IsFree, IsImage, IsOutside, IsSolid, IsSolidIn, MayLeave}
use Rattle.hay_volume.specs.Cells.{StandsCell, live_cell, with_flag}
use Rattle.hay_volume.specs.Needles.{HasNeedleOf}
use Rattle.hay_index.specs.Records.{IsIndex, index_magic}
use Rattle.hay_needle.specs.declared.needle.Needle.{Needle}
use Rattle.hay_needle.specs.Needle.{NeedleBytes, needle_magic}
use Rattle.hay_needle.specs.declared.settings.TheConstants.{LAST_GENERATION}
use Rattle.hay_disk.specs.Gate.{IsGate}
use Rattle.hay_head.specs.Head.{head_magic, row_place}
use Rattle.hay_map.specs.Sealed.{SealedNeedle}
use Rattle.hay_map.specs.declared.place.Place.{Place}
use Rattle.hay_map.specs.declared.place.Place.TheVariants as place
use Rattle.hay_open.specs.Stored.{HeadRests, IndexRests, IsStored, Stored, VolumeRests, cell_record, index_file, index_super, unrecorded, volume_file}
use Rattle.hay_physical.specs.declared.state.OpenFiles.{OpenFiles}
use Rattle.hay_physical.specs.declared.state.Phase.{Phase}
use Rattle.hay_physical.specs.declared.state.Phase.TheVariants.{Closed, Open}
use Rattle.hay_physical.specs.declared.state.Copier.TheVariants.{Standing}
use Rattle.hay_compact.specs.Copying.{IsMaking, Stage}
use Rattle.hay_physical.specs.OpenCopies.{Copy, copier_capacity, copier_goal, copier_next}

-- A closed replica, all of whose disk is solid, with no pieces given out.
pub record IsIdleCopy {D : Type 0} (files : D → Files) (r : Copy D) : Type 0 where
  pub closed : r.phase ≡ Closed
  pub solid : (n : ℕ) → IsSolid (files r.disk n)
  pub free : (n : ℕ) → IsFree (files r.disk n)

-- WHAT STANDS

-- The file is an index with records of the first of these cells, of as many as before or more.
pub record HasIndex (sup : Super) (file : List ℕ) (s : Stored) : Type 0 where
  pub records : ℕ
  pub end : ℕ
  pub fewer : s.records ≤ records
  pub lags : records ≤ length s.cells
  pub is : IsIndex (super_bytes (index_super sup s.generation)) file (take records (map cell_record s.cells)) end

-- Where a flush failed, a stop leaves the records from before or more of them.
abbrev pub IndexStands : Super → FileState → Stored → ℕ → Bool → Type 0
IndexStands sup file s end false = IndexRests sup file s end
IndexStands sup file s end true = (image : List ℕ) → IsImage file image → HasIndex sup image s

-- Changes can be made to the files, whatever they hold.
pub record FilesReady (files : Files) (opened : OpenFiles) : Type 0 where
  pub volume_number : opened.volume.file ≡ volume_file opened.head.generation
  pub index_number : opened.index.file ≡ index_file opened.head.generation
  pub head : IsGate head_magic (row_place (opened.head.generation + 1)) (files 0)
  pub volume : IsGate needle_magic opened.volume.end (files opened.volume.file)
  pub index : opened.index.frozen ≡ false → IsGate index_magic opened.index.end (files opened.index.file)

-- The files stand for what the disk has.
pub record FilesStand (sup : Super) (files : Files) (opened : OpenFiles) (s : Stored) : Type 0 where
  pub generation : opened.head.generation ≡ s.generation
  pub lags : s.records ≤ length s.cells
  pub volume : opened.volume ≡ record { file = volume_file s.generation; end = s.end; capacity = sup.settings.capacity }
  pub index_number : opened.index.file ≡ index_file s.generation
  pub noted : opened.index.pending ≡ unrecorded s
  pub head : HeadRests sup (files 0) s.generation
  pub cells : VolumeRests sup (files (volume_file s.generation)) s
  pub index : IndexStands sup (files (index_file s.generation)) s opened.index.end opened.index.frozen

-- A replica that is open and takes changes stands for what its disk has.
pub record StandsFor {D : Type 0} (files : D → Files) (r : Copy D) (s : Stored) : Type 0 where
  pub opened : OpenFiles
  pub phase : r.phase ≡ Open opened
  pub up : opened.frozen ≡ false
  pub stand : FilesStand r.sup (files r.disk) opened s

unfoldable pub Stands : {D : Type 0} → (D → Files) → Copy D → Stored → Type 0
Stands files r s = StandsFor files r s

-- Where a compaction stands, its copier has made something of the files of the next generation.
abbrev pub IsCopierReady : Files → OpenFiles → Type 0
IsCopierReady files opened = (stage : Stage) → opened.copier ≡ Standing stage → IsMaking files stage

-- What holds of every replica that takes changes.
abbrev pub PhaseReady : Files → Phase → Type 0
PhaseReady files Closed = ⊤
PhaseReady files (Open opened) = opened.frozen ≡ false → FilesReady files opened × IsCopierReady files opened

abbrev pub IsReady : {D : Type 0} → Type 0 → (D → Files) → Copy D → Type 0
IsReady Tells files r = Tells → PhaseReady (files r.disk) r.phase

-- On any disk a copier makes the next generation, and a replica that takes no changes has none.
pub record IsSettled (opened : OpenFiles) : Type 0 where
  pub next : (goal : ℕ) → copier_goal opened.copier ≡ Some goal → goal ≡ opened.head.generation + 1
  pub most : (goal : ℕ) → copier_goal opened.copier ≡ Some goal → goal ≤ LAST_GENERATION
  pub dropped : opened.frozen ≡ true → copier_goal opened.copier ≡ None

abbrev pub IsSettledPhase : Phase → Type 0
IsSettledPhase Closed = ⊤
IsSettledPhase (Open opened) = IsSettled opened

-- On any disk the volume file is that of the generation and has this capacity, and so has the one that a copier makes. The generation is
-- the last at most, and the copier has examined nothing behind the cells.
pub record IsBounded (capacity : ℕ) (opened : OpenFiles) : Type 0 where
  pub file : opened.volume.file ≡ volume_file opened.head.generation
  pub volume : opened.volume.capacity ≡ capacity
  pub next : (most : ℕ) → copier_capacity opened.copier ≡ Some most → most ≡ capacity
  pub most : opened.head.generation ≤ LAST_GENERATION
  pub from : 64 ≤ opened.volume.end
  pub within : copier_next opened.copier ≤ opened.volume.end

abbrev pub IsBoundedPhase : ℕ → Phase → Type 0
IsBoundedPhase capacity Closed = ⊤
IsBoundedPhase capacity (Open opened) = IsBounded capacity opened

-- WHAT A STOP MAY LEAVE

-- the same but for records that a stuck index may have beside
pub record IsLike (stuck : Bool) (s found : Stored) : Type 0 where
  pub cells : found.cells ≡ s.cells
  pub end : found.end ≡ s.end
  pub generation : found.generation ≡ s.generation
  pub fewer : s.records ≤ found.records
  pub same : stuck ≡ false → found.records ≡ s.records

-- The disk has been formatted, and an opening finds this or that.
pub record Finds (sup : Super) (contents : ℕ → List ℕ) (stuck : Bool) (s t : Stored) : Type 0 where
  pub found : Stored
  pub is : IsStored sup contents found
  pub like : IsLike stuck s found ⊎ IsLike stuck t found

unfoldable pub MayFind : Super → Files → Bool → Stored → Stored → Type 0
MayFind sup files stuck s t = (image : ℕ → List ℕ) → MayLeave files image → Finds sup image stuck s t

-- In every image of its disk an opening finds this or that.
abbrev pub Holds : {D : Type 0} → (D → Files) → Copy D → Bool → Stored → Stored → Type 0
Holds files r stuck s t = MayFind r.sup (files r.disk) stuck s t

-- WHAT CHANGES DO

-- one of the cells stands at `at`, and is not deleted
abbrev pub HasLive : ℕ → List Cell → Type 0
HasLive at [] = ⊥
HasLive at (cell ∷ cells) = ((cell.at ≡ at) × (cell.deleted ≡ false)) ⊎ HasLive at cells

-- The flags of a cell at this place can be written.
pub record MayFlag (file : FileState) (end at : ℕ) : Type 0 where
  pub within : at + 29 ≤ end
  pub free : file.sealed (at + 28) ≡ false

-- the flags of the cell of a place, if it has one, can be written
abbrev pub MayFlagPlace : {P : Type 0} → Files → OpenFiles → Place P → Type 0
MayFlagPlace files opened (place.Live needle) = MayFlag (files opened.volume.file) opened.volume.end needle.at
MayFlagPlace files opened place.None = Unit {0}
MayFlagPlace files opened place.Gone = Unit {0}
MayFlagPlace files opened (place.Unseen at size) = MayFlag (files opened.volume.file) opened.volume.end at

-- A cell of so many bytes ends at `end`, and nothing of it is loose or sealed.
pub record IsLastCell (file : FileState) (end at total : ℕ) : Type 0 where
  pub ends : at + total ≡ end
  pub solid : IsSolid file
  pub free : (k : ℕ) → at ≤ k → file.sealed k ≡ false

abbrev pub PhaseMayDelete : Files → Phase → ℕ → Type 0
PhaseMayDelete files Closed at = ⊥
PhaseMayDelete files (Open opened) at = MayFlag (files opened.volume.file) opened.volume.end at

-- A photo whose cell stands at this place can be deleted.
unfoldable pub MayDelete : {D : Type 0} → (D → Files) → Copy D → ℕ → Type 0
MayDelete files r at = PhaseMayDelete (files r.disk) r.phase at

-- the photo of a place, if it has one, can be deleted
abbrev pub MayDeletePlace : {D P : Type 0} → (D → Files) → Copy D → Place P → Type 0
MayDeletePlace files r (place.Live needle) = MayDelete files r needle.at
MayDeletePlace files r place.None = Unit {0}
MayDeletePlace files r place.Gone = Unit {0}
MayDeletePlace files r (place.Unseen at size) = MayDelete files r at

abbrev pub with_cell : Stored → Pair → Cookie → List ℕ → Stored
with_cell s pair cookie bytes = record s { cells = s.cells ++ live_cell s.end pair cookie bytes ∷ []; end = s.end + needle_total (length bytes) }

abbrev pub without_cell : Stored → ℕ → Stored
without_cell s at = record s { cells = with_flag at true s.cells }

abbrev pub all_recorded : Stored → Stored
all_recorded s = record s { records = length s.cells }

-- WHAT CAN BE SEEN

-- The needle of a photo of this size ends before `end`, is on the disk, and its flags can be written.
pub record MayLook (file : FileState) (end at size : ℕ) : Type 0 where
  pub within : at + needle_total size ≤ end
  pub inside : at + needle_total size ≤ length file.now
  pub solid : IsSolidIn at (needle_total size) file
  pub free : file.sealed (at + 28) ≡ false

abbrev pub PhaseMaySee : Files → Phase → ℕ → ℕ → Type 0
PhaseMaySee files Closed at size = ⊥
PhaseMaySee files (Open opened) at size = MayLook (files opened.volume.file) opened.volume.end at size

-- What a place of this size means can be seen by its needle.
unfoldable pub MaySee : {D : Type 0} → (D → Files) → Copy D → ℕ → ℕ → Type 0
MaySee files r at size = PhaseMaySee (files r.disk) r.phase at size

-- the same of a place that was not seen yet
abbrev pub MaySeePlace : {D P : Type 0} → (D → Files) → Copy D → Place P → Type 0
MaySeePlace files r (place.Unseen at size) = MaySee files r at size
MaySeePlace files r (place.Live needle) = Unit {0}
MaySeePlace files r place.None = Unit {0}
MaySeePlace files r place.Gone = Unit {0}

abbrev pub PhaseHasCell : Files → Phase → Cell → Type 0
PhaseHasCell files Closed cell = ⊥
PhaseHasCell files (Open opened) cell = StandsCell cell.at (files opened.volume.file).now cell

-- the cell stands in the current volume file
unfoldable pub StandsIn : {D : Type 0} → (D → Files) → Copy D → Cell → Type 0
StandsIn files r cell = PhaseHasCell (files r.disk) r.phase cell

-- The cell stands there, and can be seen.
pub record ShowsCell {D : Type 0} (files : D → Files) (r : Copy D) (cell : Cell) : Type 0 where
  pub may : MaySee files r cell.at (length cell.bytes)
  pub stands : StandsIn files r cell

-- the needle of this size at `at` does not have the flags of a cell at `place`
abbrev pub IsApart : ℕ → ℕ → ℕ → Type 0
IsApart at size place = IsOutside at (needle_total size) (place + 28)

-- the flags of a cell at `place` are none of the sealed bytes of that needle
abbrev pub IsUnsealed : ℕ → ℕ → ℕ → Type 0
IsUnsealed at size place = IsApart at size place ⊎ (place ≡ at)

-- The flags of the cell that a place has, if it has one, are none of the bytes of that needle.
abbrev pub IsApartPlace : {P : Type 0} → ℕ → ℕ → Place P → Type 0
IsApartPlace at size (place.Live needle) = IsApart at size needle.at
IsApartPlace at size place.None = Unit {0}
IsApartPlace at size place.Gone = Unit {0}
IsApartPlace at size (place.Unseen other long) = IsApart at size other

-- Where the first place was not looked at yet, its needle does not have the flags of the other's cell.
abbrev pub ArePlacesApart : {P : Type 0} → Place P → Place P → Type 0
ArePlacesApart (place.Live needle) other = Unit {0}
ArePlacesApart place.None other = Unit {0}
ArePlacesApart place.Gone other = Unit {0}
ArePlacesApart (place.Unseen at size) other = IsApartPlace at size other

-- The places of these sizes that could be seen still can be, and their cells stand as they stood.
pub record KeepsSight {D : Type 0} (files : D → Files) (IsKept : ℕ → ℕ → Type 0) (r r' : Copy D) : Type 0 where
  pub may : (at size : ℕ) → IsKept at size → MaySee files r at size → MaySee files r' at size
  pub shows : (cell : Cell) → IsKept cell.at (length cell.bytes) → ShowsCell files r cell → ShowsCell files r' cell

-- all places, and those whose needles do not have the flags of a cell at `place`
abbrev pub Anywhere : ℕ → ℕ → Type 0
Anywhere at size = Unit {0}

abbrev pub ApartFrom : ℕ → ℕ → ℕ → Type 0
ApartFrom place at size = IsApart at size place

-- those whose flags are none of the sealed bytes of a needle of this size at `at`
abbrev pub UnsealedBy : ℕ → ℕ → ℕ → ℕ → Type 0
UnsealedBy at size place long = IsUnsealed at size place

-- Before `end` the bytes stay, what was solid is solid, and what was not sealed is not.
pub record KeepsBefore (end : ℕ) (old new : FileState) : Type 0 where
  pub now : take end new.now ≡ take end old.now
  pub grows : length old.now ≤ length new.now
  pub solid : (k : ℕ) → k < end → old.loose k ≡ false → new.loose k ≡ false
  pub free : (k : ℕ) → k < end → old.sealed k ≡ false → new.sealed k ≡ false

-- the piece that was given out tells, and is a whole needle, of whatever photo
abbrev pub IsWholeNeedle : Type 0 → SealedNeedle → Type 0
IsWholeNeedle Tells needle = Tells × (n : Needle) × NeedleBytes needle.bytes n

-- so is that of a place, if it has one
abbrev pub HasWholeNeedle : {P : Type 0} → Type 0 → Place P → Type 0
HasWholeNeedle Tells (place.Live needle) = IsWholeNeedle Tells needle
HasWholeNeedle Tells place.None = Unit {0}
HasWholeNeedle Tells place.Gone = Unit {0}
HasWholeNeedle Tells (place.Unseen at size) = Unit {0}

-- the needle of a photo stands here in the volume file, and is not deleted
abbrev pub HasLiveNeedleAt : List ℕ → ℕ → Type 0
HasLiveNeedleAt file at = (size : ℕ) × HasNeedleOf size false at file

-- so it is of a place that is a photo's
abbrev pub HasLiveNeedle : {P : Type 0} → List ℕ → Place P → Type 0
HasLiveNeedle file (place.Live needle) = HasLiveNeedleAt file needle.at
HasLiveNeedle file place.None = Unit {0}
HasLiveNeedle file place.Gone = Unit {0}
HasLiveNeedle file (place.Unseen at size) = Unit {0}

-- On any disk: a place was seen by the needle of this cell.
abbrev pub IsSightOf : {P : Type 0} → Cell → Place P → Type 0
IsSightOf cell (place.Live needle) = (cell.deleted ≡ false) × (needle.at ≡ cell.at) × (needle.size ≡ length cell.bytes)
IsSightOf cell place.Gone = cell.deleted ≡ true
IsSightOf cell place.None = ⊥
IsSightOf cell (place.Unseen at size) = ⊥

-- The place is that of the needle of a photo of this size which stands at `at` in the volume file.
abbrev pub IsToldBy : {P : Type 0} → ℕ → ℕ → List ℕ → Place P → Type 0
IsToldBy size at file (place.Live needle) = HasNeedleOf size false at file × (needle.at ≡ at)
IsToldBy size at file place.Gone = HasNeedleOf size true at file
IsToldBy size at file place.None = ⊥
IsToldBy size at file (place.Unseen there long) = ⊥
