-- When an open store stands for a known state.
use Rattle.std.specs.Prelude.{◌≡◌, ℕ, Bool, ◌++◌, map}
use Rattle.std.specs.List.{AllZip}
use Rattle.hay_needle.specs.declared.settings.Settings.{Settings}
use Rattle.hay_script.specs.declared.Command.{Command}
use Rattle.hay_reply.specs.declared.Reply.{Reply}
use Rattle.hay_core.specs.declared.entry.CoreTag.{CoreTag}
use Rattle.hay_disk.specs.Disk.{Files, IsImage, MayLeave}
use Rattle.hay_physical.specs.OpenCopies.{Copy}
use Rattle.hay_legal.specs.declared.known.DirKnown.{DirKnown}
use Rattle.hay_legal.specs.declared.known.Known.{Known}
use Rattle.hay_legal.specs.declared.known.VolumeKnown.{VolumeKnown}
use Rattle.hay_legal.specs.Known.{FaultsRose}
use Rattle.hay_legal.specs.Plain.{LegalCommand}
use Rattle.hay_legal.specs.Restarts.{kept_row}
use Rattle.hay_legal.specs.Stands.{Contents, VolumeOutcome}
use Rattle.hay_directory.specs.Rows.{OpensRows}
use Rattle.hay_directory.specs.State as directory
use Rattle.hay_logical.specs.Fits.{At, IsReplica}
use Rattle.hay_logical.specs.Stands as logical
use Rattle.hay_logical.specs.Volumes.{Volume}
use Rattle.hay_cluster.specs.Store.{Open, IsShaped, disks_of}

-- The Directory and each volume stand for what is known of them, and the counts are those of the disks and arms.
pub record StandsFor {D P A : Type 0} (files : D → Files) (Tells : Type 0) (faults fuses : D → ℕ) (arm_faults : A → ℕ) (store : Open D P A) (k : Known) : Type 0 where
  pub shape : IsShaped store
  pub directory : directory.Stands files store.directory k.directory k.drained
  pub volumes : AllZip (logical.Stands files Tells) store.volumes k.volumes
  pub fault_counts : k.faults ≡ map faults (disks_of store)
  pub fuse_counts : k.fuses ≡ map fuses (disks_of store)
  pub arm_counts : k.arms ≡ map arm_faults store.arms

unfoldable pub Stands : {D P A : Type 0} → (D → Files) → Type 0 → (D → ℕ) → (D → ℕ) → (A → ℕ) → Open D P A → Known → Type 0
Stands files Tells faults fuses arm_faults store k = StandsFor files Tells faults fuses arm_faults store k

-- What an answer leaves: a state to which it is legal.
pub record Answered {D P A : Type 0} (files : D → Files) (Tells : Type 0) (faults fuses : D → ℕ) (arm_faults : A → ℕ) (k : Known) (tag : CoreTag) (command : Command)
    (reply : Reply) (store : Open D P A) : Type 0 where
  pub known : Known
  pub legal : LegalCommand store.settings k tag command reply known
  pub stands : Stands files Tells faults fuses arm_faults store known

-- WHAT IS ON THE DISKS OF ANY STORE, up or down: in every image an opening finds one of the outcomes of a restart.

abbrev pub DirectoryHolds : {D : Type 0} → (D → Files) → Settings → D → DirKnown → Type 0
DirectoryHolds files settings disk known =
    (image : Contents) → IsImage (files disk 0) (image 0) → (kept : Bool) × OpensRows settings image (known.rows ++ kept_row known.pending kept)

abbrev pub VolumeHolds : {D P : Type 0} → (D → Files) → Volume D P → VolumeKnown → Type 0
VolumeHolds {D} files volume known =
    (image : ℕ → Contents) → ((j : ℕ) (r : Copy D) → At volume.replicas j r → MayLeave (files r.disk) (image j)) →
    VolumeOutcome (IsReplica volume.settings) volume.settings volume.number known image

pub record HoldsFor {D P A : Type 0} (files : D → Files) (faults fuses : D → ℕ) (arm_faults : A → ℕ) (store : Open D P A) (k : Known) : Type 0 where
  pub shape : IsShaped store
  pub directory : DirectoryHolds files store.settings (store.directory).disk k.directory
  pub volumes : AllZip (VolumeHolds files) store.volumes k.volumes
  pub fault_counts : k.faults ≡ map faults (disks_of store)
  pub fuse_counts : k.fuses ≡ map fuses (disks_of store)
  pub arm_counts : k.arms ≡ map arm_faults store.arms

unfoldable pub Holds : {D P A : Type 0} → (D → Files) → (D → ℕ) → (D → ℕ) → (A → ℕ) → Open D P A → Known → Type 0
Holds files faults fuses arm_faults store k = HoldsFor files faults fuses arm_faults store k

-- A restart that was refused leaves what was known, but for disks' counts that may have risen.
pub record LeftAt {D P A : Type 0} (files : D → Files) (faults fuses : D → ℕ) (arm_faults : A → ℕ) (k : Known) (store : Open D P A) : Type 0 where
  pub known : Known
  pub leaves : FaultsRose k known
  pub holds : Holds files faults fuses arm_faults store known
