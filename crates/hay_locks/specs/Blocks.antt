-- What a block leaves of the parts of a store.
use Rattle.std.specs.Prelude.{ℕ, List}
use Rattle.hay_needle.specs.declared.settings.Settings.{Settings}
use Rattle.hay_disk.specs.Disk.{Files}
use Rattle.hay_legal.specs.declared.known.Known.{Known}
use Rattle.hay_legal.specs.declared.turn.LaneItem.{LaneItem}
use Rattle.hay_legal.specs.declared.turn.LogNote.{LogNote}
use Rattle.hay_legal.specs.declared.turn.RowNote.{RowNote}
use Rattle.hay_logical.specs.Volumes.{Volume}
use Rattle.hay_directory.specs.State.{State}
use Rattle.hay_block.specs.declared.store.StoreParts.{StoreParts}
use Rattle.hay_block.specs.Parts.{IsSameParts}
use Rattle.hay_block.specs.Stores.{RanLegally, StoreStands}
use Rattle.hay_locks.specs.Making.{DirectoryStands, rows_count_of}
use Rattle.hay_shared_volume.specs.Making.{VolumeStands, count_of}

module _ {D P A : Type 0} (Tells : Type 0) (files : D → Files) (PieceTells : Type 0) (faults fuses : D → ℕ) (arm_faults : A → ℕ) (settings : Settings) where
  -- The disks tell what they have, and this is known of the parts, with the counts of these arms and of the others.
  abbrev pub PartsStand : StoreParts (Volume D P) (State D) A → List ℕ → Known → Type 0
  PartsStand parts others k =
      StoreStands (VolumeStands Tells files PieceTells) (count_of faults) (count_of fuses) (DirectoryStands Tells files) (rows_count_of faults) (rows_count_of fuses) arm_faults settings
      (parts.volumes).items parts.directory (parts.arms).items others k

  -- these lines are a legal block of what was known, and the parts stand for what is known behind it
  abbrev pub RanOnParts : Known → List LaneItem → List LogNote → RowNote → StoreParts (Volume D P) (State D) A → List ℕ → Type 0
  RanOnParts k items logs rows parts others =
      RanLegally (VolumeStands Tells files PieceTells) (count_of faults) (count_of fuses) (DirectoryStands Tells files) (rows_count_of faults) (rows_count_of fuses) arm_faults settings
      k items logs rows (parts.volumes).items parts.directory (parts.arms).items others

module _ {D P A : Type 0} (Tells : Type 0) (files : D → Files) (PieceTells : Type 0) (faults fuses : D → ℕ) (settings : Settings) where
  -- the Directory and the arms are as before, and the volumes stand for what they stood for
  abbrev pub AreSameParts : StoreParts (Volume D P) (State D) A → StoreParts (Volume D P) (State D) A → Type 0
  AreSameParts old new = IsSameParts (VolumeStands Tells files PieceTells) (count_of faults) (count_of fuses) settings old new
