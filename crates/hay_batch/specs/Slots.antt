-- The disks of a store in a list, by slot, and what opening them in order does to them.
use Rattle.std.specs.Prelude.{◌≡◌, ◌⊎◌, ◌<◌, ◌+◌, ℕ, List, length}
use Rattle.hay_needle.specs.declared.settings.Settings.{Settings}
use Rattle.hay_needle.specs.declared.settings.Super.{Super}
use Rattle.hay_needle.specs.Super.{super_bytes}
use Rattle.hay_disk.specs.Counts.{Rose}
use Rattle.hay_disk.specs.Disk.{Files, IsFree, IsSolid}
use Rattle.hay_dirfile.specs.declared.fault.OpenFault.{OpenFault as JournalFault}
use Rattle.hay_dirfile.specs.declared.fault.OpenFault.TheVariants as journal
use Rattle.hay_dirfile.specs.declared.row.DirRow.{DirRow}
use Rattle.hay_dirfile.specs.Journal.{IsDamagedJournal}
use Rattle.hay_volume.specs.declared.volume.VolumeFile.{VolumeFile}
use Rattle.hay_open.specs.declared.fault.OpenFault.{OpenFault}
use Rattle.hay_open.specs.declared.fault.OpenFault.TheVariants.{Damaged, Failed}
use Rattle.hay_open.specs.Damage.{IsOpeningDamage}
use Rattle.hay_open.specs.Stored.{IsReplicaFile, IsVoid, OpensAs, Stored}
use Rattle.hay_batch.specs.declared.fault.LoadOpenFault.{LoadOpenFault}
use Rattle.hay_batch.specs.declared.fault.LoadOpenFault.TheVariants.{NoMemory}
use Rattle.hay_batch.specs.declared.opening.OpenJournal.{OpenJournal}
use Rattle.hay_batch.specs.declared.replica.LoadReplica.{LoadReplica}
use Rattle.hay_batch.specs.Directories.{HoldsRows}
use Rattle.hay_batch.specs.Directories as directories
use Rattle.hay_batch.specs.Faults.{not_opened, of_journal}
use Rattle.hay_batch.specs.Openings.{OpensDirectory, OpensReplica, directory_of, journal_super}
use Rattle.hay_batch.specs.Replicas.{At, IsReady}
use Rattle.hay_batch.specs.Shelves.{IsOpenAs, OpensRows, RecallsEnd, RecallsRows, place_super}

-- THE DISK OF THE DIRECTORY

-- nothing that an opening reads of a journal is damaged, before it or behind it, and it is formatted then
pub record IsSoundJournal {D : Type 0} (files : D → Files) (settings : Settings) (old new : D) : Type 0 where
  pub before : 0 < length (files old 0).now → (at : ℕ) → IsDamagedJournal (journal_super settings) (files old 0).now at → ⊥
  pub behind : (at : ℕ) → IsDamagedJournal (journal_super settings) (files new 0).now at → ⊥
  pub formatted : IsVoid (λ n. (files new n).now) → ⊥

-- The Directory's disk was opened, and this is kept of it.
pub record OpensJournal {D : Type 0} (Tells : Type 0) (files : D → Files) (fault_count fuse_count : D → ℕ) (settings : Settings) (old new : D) (kept : OpenJournal) : Type 0 where
  pub opened : Tells → (rows : List DirRow) → OpensRows settings (files old 0).now rows → HoldsRows files (super_bytes (journal_super settings)) settings.volumes rows (directory_of new kept)
  pub ready : Tells → directories.IsReady files (directory_of new kept)
  pub recalls : RecallsRows Tells settings (files old 0).now kept.homes kept.rows
  pub sound : Tells → IsSoundJournal files settings old new
  pub disk : OpensDirectory Tells files fault_count fuse_count old new

-- The Directory's disk was not opened.
pub record RefusesJournal {D : Type 0} (Tells : Type 0) (files : D → Files) (fault_count fuse_count : D → ℕ) (settings : Settings) (old new : D) (fault : JournalFault) : Type 0 where
  pub disk : OpensDirectory Tells files fault_count fuse_count old new
  pub failed : (faults : ℕ) → fault ≡ journal.Failed faults → Rose (fault_count old) (fault_count new) × (faults ≡ fault_count new)
  pub file : (file at : ℕ) → fault ≡ journal.Damaged file at → file ≡ 0
  pub damaged : Tells → (file at : ℕ) → fault ≡ journal.Damaged file at → (0 < length (files old 0).now) × IsDamagedJournal (journal_super settings) (files old 0).now at
  pub only : Tells → (file at : ℕ) → fault ≡ journal.Damaged file at → (rows : List DirRow) → OpensRows settings (files old 0).now rows → ⊥

-- THE DISK OF A REPLICA

-- all of the disk is on it, and no piece was given out
pub record IsAtRest {D : Type 0} (Tells : Type 0) (files : D → Files) (disk : D) : Type 0 where
  pub solid : Tells → (n : ℕ) → IsSolid (files disk n)
  pub free : Tells → (n : ℕ) → IsFree (files disk n)

-- nothing that an opening reads of the disk is damaged, before it or behind it, and it is formatted then
pub record IsSound {D : Type 0} (files : D → Files) (sup : Super) (old new : D) : Type 0 where
  pub before : (file at : ℕ) → IsOpeningDamage sup (λ n. (files old n).now) file at → ⊥
  pub behind : (file at : ℕ) → IsOpeningDamage sup (λ n. (files new n).now) file at → ⊥
  pub formatted : IsVoid (λ n. (files new n).now) → ⊥

-- a replica of this disk and volume file
abbrev pub replica_of : {D : Type 0} → D → VolumeFile → LoadReplica D
replica_of disk volume = record { disk = disk; volume = volume }

-- The disk of a replica was opened, and this is its volume file.
pub record OpensFile {D : Type 0} (Tells : Type 0) (files : D → Files) (fault_count fuse_count : D → ℕ) (sup : Super) (old new : D) (volume : VolumeFile) : Type 0 where
  pub opened : Tells → (s : Stored) → OpensAs sup (λ n. (files old n).now) s → IsOpenAs files sup s (replica_of new volume)
  pub ready : Tells → IsReady files (replica_of new volume)
  pub recalls : RecallsEnd Tells sup (λ n. (files old n).now) volume
  pub sound : Tells → IsSound files sup old new
  pub disk : OpensReplica Tells files fault_count fuse_count old new

-- The disk of a replica was not opened.
pub record RefusesFile {D : Type 0} (Tells : Type 0) (files : D → Files) (fault_count fuse_count : D → ℕ) (sup : Super) (old new : D) (fault : OpenFault) : Type 0 where
  pub disk : OpensReplica Tells files fault_count fuse_count old new
  pub failed : (faults : ℕ) → fault ≡ Failed faults → Rose (fault_count old) (fault_count new) × (faults ≡ fault_count new)
  pub file : (file at : ℕ) → fault ≡ Damaged file at → IsReplicaFile file
  pub damaged : Tells → (file at : ℕ) → fault ≡ Damaged file at → IsOpeningDamage sup (λ n. (files old n).now) file at
  pub only : Tells → (file at : ℕ) → fault ≡ Damaged file at → (s : Stored) → OpensAs sup (λ n. (files old n).now) s → ⊥

-- THE DISKS BEHIND THE FIRST

-- each of them was opened, and these are their volume files
pub record OpensFiles {D : Type 0} (Tells : Type 0) (files : D → Files) (fault_count fuse_count : D → ℕ) (settings : Settings) (old new : List D) (volumes : List VolumeFile) : Type 0 where
  pub count : length volumes + 1 ≡ length old
  pub each : (place : ℕ) (d d' : D) (volume : VolumeFile) → At old (place + 1) d → At new (place + 1) d' → At volumes place volume →
      OpensFile Tells files fault_count fuse_count (place_super settings place) d d' volume

-- one of them was not, and those before it were
pub record RefusesOne {D : Type 0} (Tells : Type 0) (files : D → Files) (fault_count fuse_count : D → ℕ) (settings : Settings) (old new : List D) (told : LoadOpenFault) : Type 0 where
  pub place : ℕ
  pub before : D
  pub after : D
  pub was : At old (place + 1) before
  pub is : At new (place + 1) after
  pub fault : OpenFault
  pub tells : told ≡ not_opened (place + 1) fault
  pub refused : RefusesFile Tells files fault_count fuse_count (place_super settings place) before after fault
  pub earlier : Tells → (i : ℕ) (d d' : D) → i < place → At old (i + 1) d → At new (i + 1) d' → IsSound files (place_super settings i) d d'

abbrev pub RefusesFiles : {D : Type 0} → Type 0 → (D → Files) → (D → ℕ) → (D → ℕ) → Settings → List D → List D → LoadOpenFault → Type 0
RefusesFiles Tells files fault_count fuse_count settings old new told = (told ≡ NoMemory) ⊎ RefusesOne Tells files fault_count fuse_count settings old new told

-- the first is as it was, and each other was opened, or is as it was
pub record MovesFiles {D : Type 0} (Tells : Type 0) (files : D → Files) (fault_count fuse_count : D → ℕ) (old new : List D) : Type 0 where
  pub count : length new ≡ length old
  pub first : (d d' : D) → At old 0 d → At new 0 d' → d' ≡ d
  pub others : (place : ℕ) (d d' : D) → At old (place + 1) d → At new (place + 1) d' → (d' ≡ d) ⊎ OpensReplica Tells files fault_count fuse_count d d'

-- ALL DISKS

-- the first was opened as that of the Directory, and each other as that of a replica
pub record OpensDisks {D : Type 0} (Tells : Type 0) (files : D → Files) (faults fuses : D → ℕ) (settings : Settings) (old new : List D) (kept : OpenJournal) (volumes : List VolumeFile) : Type 0 where
  pub count : length new ≡ length old
  pub first : (d d' : D) → At old 0 d → At new 0 d' → OpensJournal Tells files faults fuses settings d d' kept
  pub others : OpensFiles Tells files faults fuses settings old new volumes

-- the first was not
pub record RefusesFirst {D : Type 0} (Tells : Type 0) (files : D → Files) (fault_count fuse_count : D → ℕ) (settings : Settings) (old new : List D) (told : LoadOpenFault) : Type 0 where
  pub before : D
  pub after : D
  pub was : At old 0 before
  pub is : At new 0 after
  pub fault : JournalFault
  pub tells : told ≡ not_opened 0 (of_journal fault)
  pub refused : RefusesJournal Tells files fault_count fuse_count settings before after fault

-- the first was, and then another was not
pub record RefusesBehind {D : Type 0} (Tells : Type 0) (files : D → Files) (fault_count fuse_count : D → ℕ) (settings : Settings) (old new : List D) (told : LoadOpenFault) : Type 0 where
  pub first : Tells → (d d' : D) → At old 0 d → At new 0 d' → IsSoundJournal files settings d d'
  pub one : RefusesOne Tells files fault_count fuse_count settings old new told

abbrev pub RefusesDisks : {D : Type 0} → Type 0 → (D → Files) → (D → ℕ) → (D → ℕ) → Settings → List D → List D → LoadOpenFault → Type 0
RefusesDisks Tells files fault_count fuse_count settings old new told =
    (told ≡ NoMemory) ⊎ RefusesFirst Tells files fault_count fuse_count settings old new told ⊎ RefusesBehind Tells files fault_count fuse_count settings old new told

-- the first was opened, or was refused, and each other was too, or is as it was
pub record MovesDisks {D : Type 0} (Tells : Type 0) (files : D → Files) (fault_count fuse_count : D → ℕ) (old new : List D) : Type 0 where
  pub count : length new ≡ length old
  pub first : (d d' : D) → At old 0 d → At new 0 d' → OpensDirectory Tells files fault_count fuse_count d d'
  pub others : (place : ℕ) (d d' : D) → At old (place + 1) d → At new (place + 1) d' → (d' ≡ d) ⊎ OpensReplica Tells files fault_count fuse_count d d'
