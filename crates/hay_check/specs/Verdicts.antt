-- What a check answers of the contents of a disk.
use Rattle.std.specs.Prelude.{◌≡◌, ◌⊎◌, ◌≤◌, ◌<◌, ℕ, ◌+◌, ◌*◌, ◌^◌, Bool, true, false, List, length, count_by}
use Rattle.hay_needle.specs.declared.needle.Cell.{Cell}
use Rattle.hay_needle.specs.declared.needle.Version.{Version}
use Rattle.hay_needle.specs.declared.needle.Version.TheVariants as version
use Rattle.hay_needle.specs.declared.settings.Super.{Super}
use Rattle.hay_needle.specs.Sizes.{needle_total}
use Rattle.hay_needle.specs.Super.{super_bytes}
use Rattle.hay_needle.specs.Tables.{table_of}
use Rattle.hay_needle.specs.declared.settings.TheConstants.{LAST_GENERATION}
use Rattle.hay_dirfile.specs.declared.row.DirRow.{DirRow}
use Rattle.hay_dirfile.specs.Journal.{IsDamagedJournal, IsJournal}
use Rattle.hay_volume.specs.Cells.{needles_of}
use Rattle.hay_open.specs.Damage.{IsOpeningDamage}
use Rattle.hay_open.specs.Stored.{IsReplicaFile, IsStored, IsVoid, OpensAs, Stored}
use Rattle.hay_check.specs.declared.verdict.Verdict.{Verdict}
use Rattle.hay_check.specs.declared.verdict.Verdict.TheVariants as verdict
use Rattle.hay_check.specs.Damage.{IsFirstDamage}

-- whether a needle is of the first version
abbrev pub is_old : Version → Bool
is_old version.One = true
is_old version.Two = false

-- how many pairs have a photo
abbrev pub live_count : List Cell → ℕ
live_count cells = length (table_of (needles_of cells))

-- how many cells are of the first version
abbrev pub old_count : List Cell → ℕ
old_count cells = count_by (λ (cell : Cell). is_old cell.version) cells

-- the numbers of a replica's disk
abbrev pub whole_of : Stored → Verdict
whole_of s = verdict.Whole s.generation (length s.cells) (live_count s.cells) s.records s.end (old_count s.cells)

-- A replica's disk is void where its head is empty; else it has cells and the records of the first of them, and is whole; or
-- it has neither, and is damaged, at the first place that is not of the format.
unfoldable pub CheckOf : Super → (ℕ → List ℕ) → Verdict → Type 0
CheckOf sup contents v =
    (IsVoid contents × (v ≡ verdict.Void))
    ⊎ ((s : Stored) × IsStored sup contents s × (v ≡ whole_of s))
    ⊎ ((file : ℕ) × (at : ℕ) × (IsVoid contents → ⊥) × IsFirstDamage sup contents file at × (v ≡ verdict.Damaged file at))

-- The Directory's disk is void where its journal is empty; else it has a journal's rows, or its journal is damaged.
unfoldable pub JournalCheckOf : Super → (ℕ → List ℕ) → Verdict → Type 0
JournalCheckOf sup contents v =
    (IsVoid contents × (v ≡ verdict.Void))
    ⊎ ((rows : List DirRow) × IsJournal (super_bytes sup) sup.settings.volumes (contents 0) rows × (v ≡ verdict.Rows (length rows)))
    ⊎ ((at : ℕ) × (IsVoid contents → ⊥) × IsDamagedJournal sup (contents 0) at × (v ≡ verdict.Damaged 0 at))

-- WHATEVER THE DISK TELLS

-- the verdicts that there are on a replica's disk: of a whole one the numbers fit each other, and all fit their types
abbrev pub IsReplicaVerdict : Verdict → Type 0
IsReplicaVerdict verdict.Void = Unit {0}
IsReplicaVerdict (verdict.Rows rows) = ⊥
IsReplicaVerdict (verdict.Whole generation cells live records end old) =
    (generation ≤ LAST_GENERATION) × (live ≤ cells) × (records ≤ cells) × (old ≤ cells) × (64 + cells * needle_total 0 ≤ end) × (end < 2 ^ 64)
IsReplicaVerdict (verdict.Damaged file at) = IsReplicaFile file × (at < 2 ^ 64)

-- and those on the Directory's
abbrev pub IsJournalVerdict : Verdict → Type 0
IsJournalVerdict verdict.Void = Unit {0}
IsJournalVerdict (verdict.Rows rows) = rows < 2 ^ 64
IsJournalVerdict (verdict.Whole generation cells live records end old) = ⊥
IsJournalVerdict (verdict.Damaged file at) = (file ≡ 0) × (at < 2 ^ 64)

-- WHAT AN OPENING FINDS

-- What an opening finds on a whole disk has the numbers of the verdict, and nothing that it reads is damaged.
pub record OpensWhole (sup : Super) (contents : ℕ → List ℕ) (v : Verdict) : Type 0 where
  pub stored : Stored
  pub opens : OpensAs sup contents stored
  pub numbers : v ≡ whole_of stored
  pub undamaged : (file at : ℕ) → IsOpeningDamage sup contents file at → ⊥
