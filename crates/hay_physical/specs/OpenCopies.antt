-- A replica as contracts see it.
use Rattle.std.specs.Prelude.{◌≡◌, ◌<◌, ℕ, Bool, true, false, List, length, Option, Some, None, ⊤}
use Rattle.hay_needle.specs.declared.settings.Super.{Super}
use Rattle.hay_needle.specs.declared.settings.TheConstants.{LAST_GENERATION}
use Rattle.hay_disk.specs.Disk.{Files}
use Rattle.hay_open.specs.Stored.{volume_file}
use Rattle.hay_physical.specs.declared.state.Copier.{Copier}
use Rattle.hay_physical.specs.declared.state.Copier.TheVariants.{Ended, Standing}
use Rattle.hay_physical.specs.declared.state.Phase.{Phase}
use Rattle.hay_physical.specs.declared.state.Phase.TheVariants.{Closed, Open}

-- what its superblocks say, its disk, and what is kept of its files
pub record Copy (D : Type 0) : Type 0 where
  pub sup : Super
  pub disk : D
  pub phase : Phase

abbrev pub IsOpenPhase : Phase → Type 0
IsOpenPhase Closed = ⊥
IsOpenPhase (Open opened) = ⊤

abbrev pub HasFrozen : Bool → Phase → Type 0
HasFrozen frozen Closed = ⊥
HasFrozen frozen (Open opened) = opened.frozen ≡ frozen

-- it is open
abbrev pub IsOpenCopy : {D : Type 0} → Copy D → Type 0
IsOpenCopy r = IsOpenPhase r.phase

-- it is open, and takes changes
abbrev pub IsUp : {D : Type 0} → Copy D → Type 0
IsUp r = HasFrozen false r.phase

-- it is open, and a change failed
abbrev pub IsFrozen : {D : Type 0} → Copy D → Type 0
IsFrozen r = HasFrozen true r.phase

abbrev pub phase_frozen : Phase → Bool
phase_frozen Closed = false
phase_frozen (Open opened) = opened.frozen

abbrev pub phase_stuck : Phase → Bool
phase_stuck Closed = false
phase_stuck (Open opened) = opened.index.frozen

abbrev pub phase_end : Phase → ℕ
phase_end Closed = 0
phase_end (Open opened) = opened.volume.end

abbrev pub phase_capacity : Phase → ℕ
phase_capacity Closed = 0
phase_capacity (Open opened) = opened.volume.capacity

abbrev pub phase_generation : Phase → ℕ
phase_generation Closed = 0
phase_generation (Open opened) = opened.head.generation

abbrev pub phase_bare : Phase → ℕ
phase_bare Closed = 0
phase_bare (Open opened) = length opened.index.pending

abbrev pub copier_goal : Copier → Option ℕ
copier_goal (Ended faults) = None
copier_goal (Standing stage) = Some stage.generation

abbrev pub copier_faults : Copier → ℕ
copier_faults (Ended faults) = faults
copier_faults (Standing stage) = 0

abbrev pub copier_copied : Copier → ℕ
copier_copied (Ended faults) = 0
copier_copied (Standing stage) = length stage.index.pending

-- the capacity that a copier gives the volume file that it makes
abbrev pub copier_capacity : Copier → Option ℕ
copier_capacity (Ended faults) = None
copier_capacity (Standing stage) = Some stage.capacity

abbrev pub copier_next : Copier → ℕ
copier_next (Ended faults) = 0
copier_next (Standing stage) = stage.next

abbrev pub phase_copied : Phase → ℕ
phase_copied Closed = 0
phase_copied (Open opened) = copier_copied opened.copier

abbrev pub phase_goal : Phase → Option ℕ
phase_goal Closed = None
phase_goal (Open opened) = copier_goal opened.copier

abbrev pub phase_next : Phase → ℕ
phase_next Closed = 0
phase_next (Open opened) = copier_next opened.copier

abbrev pub phase_faults : Phase → ℕ
phase_faults Closed = 0
phase_faults (Open opened) = copier_faults opened.copier

-- the generation that a compaction makes, if one stands
abbrev pub goal_of : {D : Type 0} → Copy D → Option ℕ
goal_of r = phase_goal r.phase

-- where the cell stands that the compaction which stands examines next
abbrev pub next_of : {D : Type 0} → Copy D → ℕ
next_of r = phase_next r.phase

-- how many cells the compaction that stands has copied
abbrev pub copied_of : {D : Type 0} → Copy D → ℕ
copied_of r = phase_copied r.phase

-- how many calls of the disk had failed when the last compaction ended
abbrev pub faults_at_end : {D : Type 0} → Copy D → ℕ
faults_at_end r = phase_faults r.phase

-- no compaction stands, and the last one ended where so many calls of the disk had failed
abbrev pub EndedAt : {D : Type 0} → ℕ → Copy D → Type 0
EndedAt faults r = (goal_of r ≡ None) × (faults_at_end r ≡ faults)

-- whether a change failed
abbrev pub is_frozen : {D : Type 0} → Copy D → Bool
is_frozen r = phase_frozen r.phase

-- whether a flush failed
abbrev pub is_stuck : {D : Type 0} → Copy D → Bool
is_stuck r = phase_stuck r.phase

-- where the cells end
abbrev pub end_of : {D : Type 0} → Copy D → ℕ
end_of r = phase_end r.phase

-- how many cells have no record
abbrev pub bare_of : {D : Type 0} → Copy D → ℕ
bare_of r = phase_bare r.phase

-- how many bytes the volume file may have
abbrev pub capacity_of : {D : Type 0} → Copy D → ℕ
capacity_of r = phase_capacity r.phase

-- that many as the settings say
abbrev pub HasCapacity : {D : Type 0} → Copy D → Type 0
HasCapacity r = capacity_of r ≡ r.sup.settings.capacity

abbrev pub generation_of : {D : Type 0} → Copy D → ℕ
generation_of r = phase_generation r.phase

-- no compaction stands, and there is a next generation
abbrev pub CanBegin : {D : Type 0} → Copy D → Type 0
CanBegin r = (goal_of r ≡ None) × (generation_of r < LAST_GENERATION)

-- the files of the same generation, whose cells end where they ended
abbrev pub KeepsEnd : {D : Type 0} → Copy D → Copy D → Type 0
KeepsEnd r r' = (generation_of r' ≡ generation_of r) × (end_of r' ≡ end_of r)

-- what reads of its disk give
abbrev pub contents_of : {D : Type 0} → (D → Files) → D → ℕ → List ℕ
contents_of files disk n = (files disk n).now

-- what reads of its head give is what they gave
abbrev pub KeepsHead : {D : Type 0} → (D → Files) → Copy D → Copy D → Type 0
KeepsHead files r r' = contents_of files r'.disk 0 ≡ contents_of files r.disk 0

-- what reads of its current volume file give
abbrev pub volume_bytes : {D : Type 0} → (D → Files) → Copy D → List ℕ
volume_bytes files r = contents_of files r.disk (volume_file (generation_of r))
