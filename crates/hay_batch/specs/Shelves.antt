-- Where the disks of a store are on a shelf, what an opening of the store finds on them, and what it does to them.
use Rattle.std.specs.Prelude.{◌≡◌, ◌≢◌, ◌⊎◌, ◌≤◌, ◌<◌, ℕ, ◌+◌, ◌*◌, ◌/◌, ◌%◌, List, [], ◌++◌, length, map, nat_eq, if◌then◌else◌, All}
use Rattle.hay_needle.specs.declared.settings.FileKind.TheVariants.{Volume}
use Rattle.hay_needle.specs.declared.settings.Settings.{Settings}
use Rattle.hay_needle.specs.declared.settings.Super.{Super}
use Rattle.hay_needle.specs.Super.{super_bytes}
use Rattle.hay_needle.specs.declared.settings.TheConstants.{MAX_REPLICAS, MAX_VOLUMES}
use Rattle.hay_disk.specs.Disk.{Files, IsSolid, MayLeave}
use Rattle.hay_disk.specs.Shelf.{HeldDisk}
use Rattle.hay_mount.specs.Mounts.{IsPutBack, LeavesAsRead}
use Rattle.hay_open.specs.Damage.{IsOpeningDamage}
use Rattle.hay_open.specs.Stored.{IsStored, IsVoid, OpensAs, Stored, fresh_stored, index_file, volume_file, volume_super}
use Rattle.hay_dirfile.specs.Journal.{IsDamagedJournal, IsJournal}
use Rattle.hay_dirfile.specs.declared.row.DirRow.{DirRow}
use Rattle.hay_batch.specs.declared.photo.NewPhoto.{NewPhoto}
use Rattle.hay_batch.specs.declared.replica.LoadReplica.{LoadReplica}
use Rattle.hay_batch.specs.declared.store.LoadStore.{LoadStore}
use Rattle.hay_volume.specs.declared.volume.VolumeFile.{VolumeFile}
use Rattle.hay_batch.specs.Batches.{batch_total, new_cells, new_row}
use Rattle.hay_batch.specs.Homes.{AreHomes}
use Rattle.hay_batch.specs.Openings.{journal_super}
use Rattle.hay_batch.specs.Stores.{Contents, ReplicaAt, Stands}

-- WHERE DISKS ARE

-- the limits of settings that a store needs
pub record IsLimited (settings : Settings) : Type 0 where
  pub some_machines : 0 < settings.machines
  pub some_volumes : 0 < settings.volumes
  pub few_volumes : settings.volumes ≤ MAX_VOLUMES
  pub some_replicas : 0 < settings.replicas
  pub few_replicas : settings.replicas ≤ MAX_REPLICAS

-- the slot of replica j of volume v, and how many slots there are; slot 0 is that of the Directory
abbrev pub slot_of : Settings → ℕ → ℕ → ℕ
slot_of settings v j = 1 + v * settings.replicas + j

abbrev pub disk_count : Settings → ℕ
disk_count settings = 1 + settings.volumes * settings.replicas

-- what an opening of replica j of volume v is given
abbrev pub replica_super : Settings → ℕ → ℕ → Super
replica_super settings v j = record { settings = settings; kind = Volume; volume = v; replica = j; generation = 0 }

-- the same by the number of the replica among all replicas of all volumes
abbrev pub place_super : Settings → ℕ → Super
place_super settings place = replica_super settings (place / settings.replicas) (place % settings.replicas)

-- P holds of the Directory's disk and of that of each replica, by its slot
pub record EachDisk {D : Type 0} (P : ℕ → D → Type 0) (store : LoadStore D) : Type 0 where
  pub directory : P 0 store.directory.disk
  pub replicas : (v j : ℕ) (r : LoadReplica D) → ReplicaAt store v j r → P (slot_of store.settings v j) r.disk

-- what reads of the disk in a slot give
abbrev pub reads_of : (ℕ → HeldDisk) → ℕ → ℕ → List ℕ
reads_of disks slot file = ((disks slot).files file).now

-- WHAT IS FOUND

-- The rows of the journal, and what stands on the disk of each replica.
pub record StoredStore : Type 0 where
  pub rows : List DirRow
  pub replicas : ℕ → ℕ → Stored

-- a journal has its rows, and one of size 0 has none
abbrev pub OpensRows : Settings → List ℕ → List DirRow → Type 0
OpensRows settings file rows = ((file ≡ []) × (rows ≡ [])) ⊎ IsJournal (super_bytes (journal_super settings)) settings.volumes file rows

-- An opening of these contents, by slot and file, finds this.
pub record OpensStore (settings : Settings) (contents : ℕ → ℕ → List ℕ) (s : StoredStore) : Type 0 where
  pub rows : OpensRows settings (contents 0 0) s.rows
  pub replicas : (v j : ℕ) → v < settings.volumes → j < settings.replicas → OpensAs (replica_super settings v j) (contents (slot_of settings v j)) (s.replicas v j)

-- the same as what the disks of a store hold
abbrev pub contents_of : Settings → StoredStore → Contents
contents_of settings s = record {
  superblock = super_bytes (journal_super settings);
  rows = s.rows;
  superblocks = λ v j. super_bytes (volume_super (replica_super settings v j) (s.replicas v j).generation);
  cells = λ v j. (s.replicas v j).cells;
  ends = λ v j. (s.replicas v j).end;
}

-- This is stored, and all of it is on the disk.
pub record RestsAs (sup : Super) (files : Files) (s : Stored) : Type 0 where
  pub is : IsStored sup (λ n. (files n).now) s
  pub head : IsSolid (files 0)
  pub volume : IsSolid (files (volume_file s.generation))
  pub index : IsSolid (files (index_file s.generation))

-- The replica is open as what is stored on its disk.
pub record IsOpenAs {D : Type 0} (files : D → Files) (sup : Super) (s : Stored) (r : LoadReplica D) : Type 0 where
  pub rests : RestsAs sup (files r.disk) s
  pub volume : r.volume ≡ record { file = volume_file s.generation; end = s.end; capacity = sup.settings.capacity }

-- The store holds this, and each replica is open as what is stored on its disk.
pub record StandsAs {D : Type 0} (files : D → Files) (store : LoadStore D) (s : StoredStore) : Type 0 where
  pub contents : Stands files store (contents_of store.settings s)
  pub replicas : (v j : ℕ) (r : LoadReplica D) → ReplicaAt store v j r → IsOpenAs files (replica_super store.settings v j) (s.replicas v j) r

-- WHAT IS KEPT IN MEMORY

-- What is kept in memory of a journal with these contents is right of these rows, whatever its disk tells, and each row names a volume that
-- there is. Where the disk tells, they are the rows that an opening finds.
pub record RecallsRows (Tells : Type 0) (settings : Settings) (file : List ℕ) (homes : List ((ℕ × ℕ) × ℕ)) (count : ℕ) : Type 0 where
  pub rows : List DirRow
  pub are : AreHomes homes rows
  pub many : count ≡ length rows
  pub within : All (λ (row : DirRow). row.volume < settings.volumes) rows
  pub reads : Tells → OpensRows settings file rows

-- What is kept in memory of a replica with these contents: whatever its disk tells, its cells end behind the superblock, and it has the room
-- of the settings. Where the disk tells, and is void or whole, they end where an opening finds that they do.
pub record RecallsEnd (Tells : Type 0) (sup : Super) (contents : ℕ → List ℕ) (volume : VolumeFile) : Type 0 where
  pub from : 64 ≤ volume.end
  pub room : volume.capacity ≡ sup.settings.capacity
  pub found : Tells → (s : Stored) → OpensAs sup contents s → volume.end ≡ s.end

-- WITH A BATCH

-- with the needles of these photos behind its cells, which get no records
abbrev pub with_needles : List NewPhoto → Stored → Stored
with_needles photos s = record s { cells = s.cells ++ new_cells s.end photos; end = s.end + batch_total photos }

-- with a batch in a volume: its rows behind the others, and on each replica of the volume its needles
abbrev pub with_stored : ℕ → List NewPhoto → StoredStore → StoredStore
with_stored v photos s = record {
  rows = s.rows ++ map (new_row v) photos;
  replicas = λ u j. if nat_eq u v then with_needles photos (s.replicas u j) else s.replicas u j;
}

-- what a stop may leave of each disk, by slot and file
abbrev pub MayLeaveDisks : {D : Type 0} → (D → Files) → LoadStore D → (ℕ → ℕ → List ℕ) → Type 0
MayLeaveDisks files store image = EachDisk (λ slot disk. MayLeave (files disk) (image slot)) store

-- An opening finds no row of the batch. On the replicas of this volume its needles may stand behind the others, and on no other replica.
pub record OpensWithout (settings : Settings) (volume : ℕ) (photos : List NewPhoto) (contents : ℕ → ℕ → List ℕ) (s : StoredStore) : Type 0 where
  pub rows : OpensRows settings (contents 0 0) s.rows
  pub replicas : (v j : ℕ) → v < settings.volumes → j < settings.replicas →
      OpensAs (replica_super settings v j) (contents (slot_of settings v j)) (s.replicas v j)
      ⊎ OpensAs (replica_super settings v j) (contents (slot_of settings v j)) (with_needles photos (s.replicas v j))
  pub others : (v j : ℕ) → v ≢ volume → v < settings.volumes → j < settings.replicas → OpensAs (replica_super settings v j) (contents (slot_of settings v j)) (s.replicas v j)

-- An opening finds no row of the batch, or the whole batch in this volume.
abbrev pub LeavesBatch : Settings → ℕ → List NewPhoto → (ℕ → ℕ → List ℕ) → StoredStore → Type 0
LeavesBatch settings volume photos contents s = OpensWithout settings volume photos contents s ⊎ OpensStore settings contents (with_stored volume photos s)

-- WHAT BECOMES OF A DISK

-- an opening of these contents finds nothing in this slot
pub record FindsNothing (slot : ℕ) (image : ℕ → List ℕ) : Type 0 where
  pub rows : slot ≡ 0 → (superblock : List ℕ) (volumes : ℕ) (rows : List DirRow) → IsJournal superblock volumes (image 0) rows → rows ≡ []
  pub stored : 0 < slot → (sup : Super) (s : Stored) → OpensAs sup image s → s ≡ fresh_stored

-- The disk of a slot keeps its bytes, all of it on the disk, but where it was void: whatever a stop leaves of such a one, an
-- opening finds nothing.
pub record OpensSlot (Tells : Type 0) (slot : ℕ) (old : HeldDisk) (files : Files) (faults fuses : ℕ) : Type 0 where
  pub kept : Tells → (IsVoid (λ n. (old.files n).now) → ⊥) → LeavesAsRead old.files files
  pub now : Tells → (IsVoid (λ n. (old.files n).now) → ⊥) → (n : ℕ) → (files n).now ≡ (old.files n).now
  pub nothing : Tells → IsVoid (λ n. (old.files n).now) → (image : ℕ → List ℕ) → MayLeave files image → FindsNothing slot image
  pub later : old.fault_count ≤ faults
  pub fuses_are : fuses ≡ old.fuse_count

-- What a refused opening leaves of the disk of a slot: it was not opened, or it was.
abbrev pub IsLeft : Type 0 → ℕ → HeldDisk → HeldDisk → Type 0
IsLeft Tells slot old new = IsPutBack Tells old new ⊎ OpensSlot Tells slot old new.files new.fault_count new.fuse_count

-- DAMAGE

-- What an opening names of the disk in this slot: the first place, of all that it reads, that is not of the format.
pub record IsFirstDamage (settings : Settings) (slot file at : ℕ) (contents : ℕ → List ℕ) : Type 0 where
  pub journal : slot ≡ 0 → (file ≡ 0) × IsDamagedJournal (journal_super settings) (contents 0) at
  pub replica : (v j : ℕ) → v < settings.volumes → j < settings.replicas → slot ≡ slot_of settings v j → IsOpeningDamage (replica_super settings v j) contents file at

-- The disk in this slot has neither rows nor a replica of these settings, and is not void.
pub record IsNotWhole (settings : Settings) (slot : ℕ) (contents : ℕ → List ℕ) : Type 0 where
  pub journal : slot ≡ 0 → (rows : List DirRow) → OpensRows settings (contents 0) rows → ⊥
  pub replica : (v j : ℕ) → v < settings.volumes → j < settings.replicas → slot ≡ slot_of settings v j → (s : Stored) → OpensAs (replica_super settings v j) contents s → ⊥

-- Nothing that an opening reads of the disks in lower slots is damaged, but for void ones.
abbrev pub IsUndamagedBelow : Settings → ℕ → (ℕ → ℕ → List ℕ) → Type 0
IsUndamagedBelow settings end contents =
    (slot file at : ℕ) → slot < end → (IsVoid (contents slot) → ⊥) → IsFirstDamage settings slot file at (contents slot) → ⊥

-- The disks in lower slots are formatted, and nothing that an opening reads of them is damaged.
pub record AreSoundBelow (settings : Settings) (end : ℕ) (contents : ℕ → ℕ → List ℕ) : Type 0 where
  pub formatted : (slot : ℕ) → slot < end → IsVoid (contents slot) → ⊥
  pub undamaged : IsUndamagedBelow settings end contents

-- Of the disk in this slot, which is neither void nor of these settings, this is the first place that is not of the format.
-- It is the lowest such slot.
pub record IsDamagedDisk (settings : Settings) (contents : ℕ → ℕ → List ℕ) (slot file at : ℕ) : Type 0 where
  pub within : slot < disk_count settings
  pub not_whole : IsNotWhole settings slot (contents slot)
  pub place : IsFirstDamage settings slot file at (contents slot)
  pub lowest : IsUndamagedBelow settings slot contents
