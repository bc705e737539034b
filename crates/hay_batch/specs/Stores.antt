-- What a store holds to which batches are loaded, and what loading one does to it.
use Rattle.std.specs.Prelude.{◌≡◌, ◌≢◌, ◌⊎◌, ◌<◌, ◌≤◌, ◌+◌, ◌*◌, ◌%◌, ℕ, List, ◌++◌, length, map, nat_eq, if◌then◌else◌, All}
use Rattle.hay_needle.specs.declared.needle.Cell.{Cell}
use Rattle.hay_needle.specs.declared.settings.Settings.{Settings}
use Rattle.hay_needle.specs.declared.settings.TheConstants.{MAX_REPLICAS, MAX_VOLUMES}
use Rattle.hay_disk.specs.Counts.{Rose}
use Rattle.hay_disk.specs.Disk.{Files, IsImage, KeepsOthers}
use Rattle.hay_volume.specs.Cells.{IsVolume}
use Rattle.hay_dirfile.specs.Journal.{IsJournal}
use Rattle.hay_dirfile.specs.declared.row.DirRow.{DirRow}
use Rattle.hay_batch.specs.declared.fault.FullTry.{FullTry}
use Rattle.hay_batch.specs.declared.fault.LoadFault.{LoadFault}
use Rattle.hay_batch.specs.declared.photo.NewPhoto.{NewPhoto}
use Rattle.hay_batch.specs.declared.replica.LoadReplica.{LoadReplica}
use Rattle.hay_batch.specs.declared.store.LoadStore.{LoadStore}
use Rattle.hay_batch.specs.declared.store.LoadVolume.{LoadVolume}
use Rattle.hay_batch.specs.Batches.{batch_total, new_cells, new_row}
use Rattle.hay_batch.specs.Directories.{HoldsRows}
use Rattle.hay_batch.specs.Directories as directories
use Rattle.hay_batch.specs.Replicas.{At, HasRoom, HasWithOrWithout, Holds, IsFirstFull, IsReady, file_of}

-- as many volumes, and of each as many replicas, as the settings say
pub record IsShaped {D : Type 0} (store : LoadStore D) : Type 0 where
  pub some : 0 < store.settings.volumes
  pub most : store.settings.volumes ≤ MAX_VOLUMES
  pub machines : 0 < store.settings.machines
  pub few : store.settings.replicas ≤ MAX_REPLICAS
  pub volumes : length store.volumes.items ≡ store.settings.volumes
  pub replicas : (v : ℕ) (w : LoadVolume D) → At store.volumes.items v w → length w.replicas.items ≡ store.settings.replicas

-- replica j of volume v
abbrev pub ReplicaAt : {D : Type 0} → LoadStore D → ℕ → ℕ → LoadReplica D → Type 0
ReplicaAt {D} store v j r = (w : LoadVolume D) × At store.volumes.items v w × At w.replicas.items j r

-- TRIES

-- the volume that a batch of this key tries at this turn
abbrev pub try_at : Settings → ℕ → ℕ → ℕ
try_at settings key turn = (key + turn) % settings.volumes

-- The volume of this turn has no room, and this names its lowest replica that lacks it.
pub record IsTry {D : Type 0} (store : LoadStore D) (key need turn : ℕ) (full : FullTry) : Type 0 where
  pub volume : full.volume ≡ try_at store.settings key turn
  pub needs : full.need ≡ need
  pub w : LoadVolume D
  pub there : At store.volumes.items full.volume w
  pub j : ℕ
  pub r : LoadReplica D
  pub lacks : IsFirstFull need w.replicas.items j r
  pub machine : full.machine ≡ (full.volume + j) % store.settings.machines
  pub end : full.end ≡ r.volume.end

-- those of the first turns, so many, in order
pub record AreTries {D : Type 0} (store : LoadStore D) (key need turns : ℕ) (tries : List FullTry) : Type 0 where
  pub count : length tries ≡ turns
  pub are : (turn : ℕ) (full : FullTry) → At tries turn full → IsTry store key need turn full

-- The volume is the first try in which each replica has room: those before it are these.
pub record IsFirstRoom {D : Type 0} (store : LoadStore D) (key need volume : ℕ) : Type 0 where
  pub turn : ℕ
  pub is : volume ≡ try_at store.settings key turn
  pub tries : List FullTry
  pub before : AreTries store key need turn tries
  pub room : (j : ℕ) (r : LoadReplica D) → ReplicaAt store volume j r → HasRoom need r

-- The same of a batch, by the key of its photos.
abbrev pub IsTargetOf : {D : Type 0} → LoadStore D → List NewPhoto → ℕ → Type 0
IsTargetOf store photos volume = (key : ℕ) → All (λ (photo : NewPhoto). photo.pair.key ≡ key) photos → IsFirstRoom store key (batch_total photos) volume

-- WHAT THE DISKS HOLD

-- The rows of the journal behind its superblock, and of each replica of each volume the cells behind its superblock, and where they end.
pub record Contents : Type 0 where
  pub superblock : List ℕ
  pub rows : List DirRow
  pub superblocks : ℕ → ℕ → List ℕ
  pub cells : ℕ → ℕ → List Cell
  pub ends : ℕ → ℕ → ℕ

-- The disks of the store hold these, all of it is on the disks, and a batch may be loaded.
pub record Stands {D : Type 0} (files : D → Files) (store : LoadStore D) (k : Contents) : Type 0 where
  pub directory : HoldsRows files k.superblock store.settings.volumes k.rows store.directory
  pub replicas : (v j : ℕ) (r : LoadReplica D) → ReplicaAt store v j r → Holds files (k.superblocks v j) (k.cells v j) r
  pub ends : (v j : ℕ) (r : LoadReplica D) → ReplicaAt store v j r → r.volume.end ≡ k.ends v j

-- a batch may be loaded
pub record IsReadyStore {D : Type 0} (files : D → Files) (store : LoadStore D) : Type 0 where
  pub directory : directories.IsReady files store.directory
  pub replicas : (v j : ℕ) (r : LoadReplica D) → ReplicaAt store v j r → IsReady files r

-- with a batch in a volume: its rows behind the others, and on each replica of the volume its cells
abbrev pub with_batch : ℕ → List NewPhoto → Contents → Contents
with_batch v photos k = record {
  superblock = k.superblock;
  rows = k.rows ++ map (new_row v) photos;
  superblocks = k.superblocks;
  cells = λ u j. if nat_eq u v then k.cells u j ++ new_cells (k.ends u j) photos else k.cells u j;
  ends = λ u j. if nat_eq u v then k.ends u j + batch_total photos else k.ends u j;
}

-- The cells of each replica of this volume end behind a batch now, and those of each other where they did.
pub record MovesEnds {D : Type 0} (volume : ℕ) (photos : List NewPhoto) (old new : LoadStore D) : Type 0 where
  pub here : (j : ℕ) (r r' : LoadReplica D) → ReplicaAt old volume j r → ReplicaAt new volume j r' → r'.volume ≡ record r.volume { end = r.volume.end + batch_total photos }
  pub others : (v j : ℕ) (r r' : LoadReplica D) → v ≢ volume → ReplicaAt old v j r → ReplicaAt new v j r' → r'.volume ≡ r.volume

-- WHAT A STOP LEAVES

-- the bytes of the journal, and of the volume file of each replica
pub record Images : Type 0 where
  pub journal : List ℕ
  pub volumes : ℕ → ℕ → List ℕ

pub record MayLeaveStore {D : Type 0} (files : D → Files) (store : LoadStore D) (left : Images) : Type 0 where
  pub journal : IsImage (files store.directory.disk 0) left.journal
  pub volumes : (v j : ℕ) (r : LoadReplica D) → ReplicaAt store v j r → IsImage (file_of files r) (left.volumes v j)

-- the bytes are these contents
pub record AreContents (settings : Settings) (k : Contents) (left : Images) : Type 0 where
  pub rows : IsJournal k.superblock settings.volumes left.journal k.rows
  pub cells : (v j : ℕ) → v < settings.volumes → j < settings.replicas → IsVolume (k.superblocks v j) (left.volumes v j) (k.cells v j) (k.ends v j)

-- The bytes have no row of the batch. On the replicas of this volume its cells may stand behind the others, and on no other replica.
pub record AreWithoutRows (settings : Settings) (volume : ℕ) (photos : List NewPhoto) (k : Contents) (left : Images) : Type 0 where
  pub rows : IsJournal k.superblock settings.volumes left.journal k.rows
  pub cells : (v j : ℕ) → v < settings.volumes → j < settings.replicas → HasWithOrWithout (k.superblocks v j) (k.cells v j) (k.ends v j) photos (left.volumes v j)
  pub others : (v j : ℕ) → v ≢ volume → v < settings.volumes → j < settings.replicas → IsVolume (k.superblocks v j) (left.volumes v j) (k.cells v j) (k.ends v j)

-- They are the contents without a row of the batch, or with the whole of it in this volume.
abbrev pub LeavesWithOrWithout : Settings → ℕ → List NewPhoto → Contents → Images → Type 0
LeavesWithOrWithout settings volume photos k left = AreWithoutRows settings volume photos k left ⊎ AreContents settings (with_batch volume photos k) left

-- OTHER FILES

-- The journal's disk has no other file that changed, and that of a replica none but the volume file, which has the room that it had.
pub record KeepsFiles {D : Type 0} (files : D → Files) (old new : LoadStore D) : Type 0 where
  pub directory : KeepsOthers 0 (files old.directory.disk) (files new.directory.disk)
  pub numbers : (v j : ℕ) (r r' : LoadReplica D) → ReplicaAt old v j r → ReplicaAt new v j r' → r'.volume.file ≡ r.volume.file
  pub rooms : (v j : ℕ) (r r' : LoadReplica D) → ReplicaAt old v j r → ReplicaAt new v j r' → r'.volume.capacity ≡ r.volume.capacity
  pub replicas : (v j : ℕ) (r r' : LoadReplica D) → ReplicaAt old v j r → ReplicaAt new v j r' → KeepsOthers r.volume.file (files r.disk) (files r'.disk)

-- REFUSALS

-- a disk failed, or memory was wanting
abbrev pub IsDiskFault : LoadFault → Type 0
IsDiskFault fault = ((slot : ℕ) × (faults : ℕ) × (fault ≡ LoadFault.Failed slot faults)) ⊎ (fault ≡ LoadFault.NoMemory)

-- COUNTS

-- no count of faults falls, and no fuse was set
pub record KeepsCounts {D : Type 0} (fault_count fuse_count : D → ℕ) (old new : LoadStore D) : Type 0 where
  pub directory : fault_count old.directory.disk ≤ fault_count new.directory.disk
  pub directory_fuses : fuse_count new.directory.disk ≡ fuse_count old.directory.disk
  pub replicas : (v j : ℕ) (r r' : LoadReplica D) → ReplicaAt old v j r → ReplicaAt new v j r' → fault_count r.disk ≤ fault_count r'.disk
  pub fuses : (v j : ℕ) (r r' : LoadReplica D) → ReplicaAt old v j r → ReplicaAt new v j r' → fuse_count r'.disk ≡ fuse_count r.disk

-- The count of the disk of this replica, which is one of this volume, rose to this.
pub record FailsReplica {D : Type 0} (fault_count : D → ℕ) (volume : ℕ) (old new : LoadStore D) (slot faults : ℕ) : Type 0 where
  pub j : ℕ
  pub before : LoadReplica D
  pub after : LoadReplica D
  pub was : ReplicaAt old volume j before
  pub is : ReplicaAt new volume j after
  pub place : slot ≡ 1 + volume * old.settings.replicas + j
  pub rose : Rose (fault_count before.disk) (fault_count after.disk)
  pub count : faults ≡ fault_count after.disk

-- The count of the disk of this slot rose to this: that of the Directory, or that of a replica of this volume.
abbrev pub FailsAt : {D : Type 0} → (D → ℕ) → ℕ → LoadStore D → LoadStore D → ℕ → ℕ → Type 0
FailsAt fault_count volume old new slot faults =
    ((slot ≡ 0) × Rose (fault_count old.directory.disk) (fault_count new.directory.disk) × (faults ≡ fault_count new.directory.disk))
    ⊎ FailsReplica fault_count volume old new slot faults
