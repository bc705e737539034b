-- Volumes that get their replicas.
use Rattle.std.specs.Prelude.{◌≡◌, ◌≤◌, ◌+◌, ◌*◌, ℕ, List, [], length}
use Rattle.std.specs.Vec.{vec_capacity}
use Rattle.hay_volume.specs.declared.volume.VolumeFile.{VolumeFile}
use Rattle.hay_batch.specs.declared.replica.LoadReplica.{LoadReplica}
use Rattle.hay_batch.specs.declared.store.LoadVolume.{LoadVolume}
use Rattle.hay_batch.specs.Replicas.{At}

-- it has no replicas, and room for so many
pub record IsEmpty {D : Type 0} (replicas : ℕ) (volume : LoadVolume D) : Type 0 where
  pub none : volume.replicas.items ≡ []
  pub room : replicas ≤ vec_capacity volume.replicas

abbrev pub AreEmpty : {D : Type 0} → ℕ → List (LoadVolume D) → Type 0
AreEmpty {D} replicas volumes = (v : ℕ) (w : LoadVolume D) → At volumes v w → IsEmpty replicas w

-- It has so many replicas, whose disks and volume files stand in these lists from a place on.
pub record Fills {D : Type 0} (replicas : ℕ) (disks : List D) (files : List VolumeFile) (place : ℕ) (volume : LoadVolume D) : Type 0 where
  pub many : length volume.replicas.items ≡ replicas
  pub disk : (j : ℕ) (r : LoadReplica D) → At volume.replicas.items j r → At disks (place + j) r.disk
  pub file : (j : ℕ) (r : LoadReplica D) → At volume.replicas.items j r → At files (place + j) r.volume

abbrev pub FillsAll : {D : Type 0} → ℕ → List D → List VolumeFile → List (LoadVolume D) → Type 0
FillsAll {D} replicas disks files volumes = (v : ℕ) (w : LoadVolume D) → At volumes v w → Fills replicas disks files (v * replicas) w
