-- How little the openings of a store read of its volume files.
use Rattle.std.specs.Prelude.{◌≡◌, ◌<◌, ◌≤◌, ◌+◌, ℕ, Option, None, slice_get}
use Rattle.std.specs.Option.{option_map_or}
use Rattle.hay_needle.specs.declared.needle.Pair.{Pair}
use Rattle.hay_needle.specs.declared.settings.Settings.{Settings}
use Rattle.hay_disk.specs.Disk.{Files}
use Rattle.hay_open.specs.Stored.{volume_file}
use Rattle.hay_legal.specs.declared.known.Known.{Known}
use Rattle.hay_legal.specs.Known.{replica_at, slot_of, volume_at}
use Rattle.hay_legal.specs.Stands.{Contents}
use Rattle.hay_physical.specs.OpenCopies.{Copy}
use Rattle.hay_physical.specs.Draws.{DrewLittle}
use Rattle.hay_logical.specs.Draws.{DrewAt, HasDrawnNothing, looked_pair}
use Rattle.hay_logical.specs.Fits.{At, super_of}
use Rattle.hay_logical.specs.Volumes.{Volume}
use Rattle.hay_cluster.specs.Store.{Open, disks_of}

-- how many bytes were read of a file of the disk in a slot, or none where the store has no such slot
abbrev pub drawn_in : {D P A : Type 0} → (D → ℕ → ℕ) → Open D P A → ℕ → ℕ → ℕ
drawn_in drawn store slot file = option_map_or (λ disk. drawn disk file) (slice_get (disks_of store) slot) 0

-- the pair of each volume whose delete was broken off
abbrev pub looked_in : {D P A : Type 0} → Open D P A → ℕ → Option Pair
looked_in store v = option_map_or (λ volume. looked_pair volume.unsure) (slice_get store.volumes v) None

abbrev pub no_look : ℕ → Option Pair
no_look v = None

abbrev pub none_drawn : ℕ → ℕ → ℕ
none_drawn slot file = 0

-- Of the volume file of each replica an opening read little.
abbrev pub EachDrewLittle : Settings → (ℕ → Contents) → (ℕ → Option Pair) → (ℕ → ℕ → ℕ) → (ℕ → ℕ → ℕ) → Type 0
EachDrewLittle settings contents looked before after =
    (v j : ℕ) → v < settings.volumes → j < settings.replicas → let slot = slot_of settings v j in DrewLittle (super_of settings v j) (contents slot) (looked v) (before slot) (after slot)

-- Where each needle of a replica has a record, that is at most the superblock, the head of the last needle and an end mark.
abbrev pub FlushedDrewLittle : Settings → Known → (ℕ → ℕ → ℕ) → (ℕ → ℕ → ℕ) → Type 0
FlushedDrewLittle settings k before after =
    (v j : ℕ) → v < settings.volumes → j < settings.replicas → (replica_at (volume_at k v) j).bare ≡ 0 →
    let slot = slot_of settings v j in let file = volume_file (replica_at (volume_at k v) j).generation in after slot file ≤ before slot file + (64 + 36 + 8)

-- of the volume files of a volume's replicas
abbrev pub DrawsVolume : {D P : Type 0} → (D → Files) → (D → ℕ → ℕ) → Volume D P → Volume D P → Type 0
DrawsVolume {D} files drawn old new = (j : ℕ) (r r' : Copy D) → At old.replicas j r → At new.replicas j r' → DrewAt files drawn (looked_pair old.unsure) r r'

-- Nothing was read of the disks of a volume since they were stopped, and the change that was broken off is kept.
pub record StopsDrawing {D P : Type 0} (drawn : D → ℕ → ℕ) (old new : Volume D P) : Type 0 where
  pub unsure : new.unsure ≡ old.unsure
  pub nothing : (j : ℕ) (r : Copy D) → At new.replicas j r → HasDrawnNothing drawn r
