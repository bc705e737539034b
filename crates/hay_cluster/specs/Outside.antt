-- What of a shelf a store stands on.
use Rattle.std.specs.Prelude.{◌≡◌, ◌⊎◌, ◌≤◌, ◌<◌, ℕ, List, []}
use Rattle.hay_needle.specs.declared.settings.Settings.{Settings}
use Rattle.hay_disk.specs.Disk.{MayLeave}
use Rattle.hay_disk.specs.Shelf.{HeldDisk, HeldArm}
use Rattle.hay_mount.specs.Mounts.{LeavesAsRead}
use Rattle.hay_legal.specs.declared.known.HomeRow.{HomeRow}
use Rattle.hay_legal.specs.Known.{disk_count, slot_of}
use Rattle.hay_legal.specs.Stands.{Contents, Found, Outside}
use Rattle.hay_legal.specs.Statuses.{FindsNothing}
use Rattle.hay_open.specs.Damage.{IsOpeningDamage}
use Rattle.hay_dirfile.specs.Journal.{IsDamagedJournal}
use Rattle.hay_directory.specs.Rows.{OpensRows, journal_super}
use Rattle.hay_logical.specs.Fits.{IsReplica, super_of}

-- the disks by slot, with their counts, the arms' counts by lane, and that of the shelf
abbrev pub outside_of : ℕ → (ℕ → HeldDisk) → (ℕ → HeldArm) → Outside
outside_of shelf disks arms = record {
  files = λ slot. (disks slot).files;
  faults = λ slot. (disks slot).fault_count;
  fuses = λ slot. (disks slot).fuse_count;
  arms = λ lane. (arms lane).fault_count;
  shelf = shelf;
}

-- what reads of a slot's disk give
abbrev pub read_of : HeldDisk → Contents
read_of held file = (held.files file).now

-- A disk whose file 0 is empty was never formatted.
abbrev pub IsVoid : Contents → Type 0
IsVoid contents = contents 0 ≡ []

-- The disk was void, and whatever a stop leaves of it, an opening by whatever settings finds nothing in this slot.
pub record WasVoid (slot : ℕ) (old new : HeldDisk) : Type 0 where
  pub void : IsVoid (read_of old)
  pub nothing : (image : Contents) → MayLeave new.files image → (other : Settings) → FindsNothing (IsReplica other) (OpensRows other) other slot image

-- What a refused opening leaves of a slot's disk: it was void; it is as it was; or a stop leaves what reads gave of it.
abbrev pub IsKept : ℕ → HeldDisk → HeldDisk → Type 0
IsKept slot old new = WasVoid slot old new ⊎ (new.files ≡ old.files) ⊎ LeavesAsRead old.files new.files

-- Of each disk that was not void reads give what they gave, file by file.
abbrev pub KeepsContents : Settings → (ℕ → Contents) → (ℕ → Contents) → Type 0
KeepsContents settings old new = (slot file : ℕ) → slot < disk_count settings → (IsVoid (old slot) → ⊥) → new slot file ≡ old slot file

-- Each disk that was void is so no longer, and an opening finds nothing in its slot.
abbrev pub FormatsVoid : Settings → (ℕ → Contents) → (ℕ → Contents) → Type 0
FormatsVoid settings old new =
    (slot : ℕ) → slot < disk_count settings → IsVoid (old slot) →
    (IsVoid (new slot) → ⊥) × FindsNothing (IsReplica settings) (OpensRows settings) settings slot (new slot)

-- The counts of a slot's disk behind an opening: its fuses are those from before.
pub record CountsOn (old : HeldDisk) (faults fuses : ℕ) : Type 0 where
  pub faults_rise : old.fault_count ≤ faults
  pub fuses_are : fuses ≡ old.fuse_count

-- What an opening names of the disk in this slot: the first place, of all that it reads, that is not of the format.
pub record IsFirstDamage (settings : Settings) (slot file at : ℕ) (contents : Contents) : Type 0 where
  pub journal : slot ≡ 0 → (file ≡ 0) × IsDamagedJournal (journal_super settings) (contents 0) at
  pub replica : (v j : ℕ) → v < settings.volumes → j < settings.replicas → slot ≡ slot_of settings v j → IsOpeningDamage (super_of settings v j) contents file at

-- The disk in this slot has neither rows nor a replica of these settings, and is not void.
pub record IsNotWhole (settings : Settings) (slot : ℕ) (contents : Contents) : Type 0 where
  pub directory : slot ≡ 0 → (rows : List HomeRow) → OpensRows settings contents rows → ⊥
  pub replica : (v j : ℕ) → v < settings.volumes → j < settings.replicas → slot ≡ slot_of settings v j → (found : Found) → IsReplica settings v j contents found → ⊥

-- Nothing that an opening reads of the disks in lower slots is damaged, but for void ones.
abbrev pub IsUndamagedBelow : Settings → ℕ → (ℕ → Contents) → Type 0
IsUndamagedBelow settings end contents =
    (slot file at : ℕ) → slot < end → (IsVoid (contents slot) → ⊥) → IsFirstDamage settings slot file at (contents slot) → ⊥

-- The disks in lower slots are formatted, and nothing that an opening reads of them is damaged.
pub record AreSoundBelow (settings : Settings) (end : ℕ) (contents : ℕ → Contents) : Type 0 where
  pub formatted : (slot : ℕ) → slot < end → IsVoid (contents slot) → ⊥
  pub undamaged : IsUndamagedBelow settings end contents

-- Of the disk in this slot, which is neither void nor of these settings, this is the first place that is not of the format.
-- It is the lowest such slot.
pub record IsDamagedDisk (settings : Settings) (contents : ℕ → Contents) (slot file at : ℕ) : Type 0 where
  pub within : slot < disk_count settings
  pub not_whole : IsNotWhole settings slot (contents slot)
  pub place : IsFirstDamage settings slot file at (contents slot)
  pub lowest : IsUndamagedBelow settings slot contents

-- nothing that an opening reads of a disk that is not void is damaged
abbrev pub IsUndamaged : Settings → (ℕ → Contents) → Type 0
IsUndamaged settings contents = IsUndamagedBelow settings (disk_count settings) contents
