-- What a store holds when a batch was added to the replicas of one volume, and what a stop leaves of it.
use Rattle.std.proofs.Common.{◌≡◌, ◌≢◌, ◌⊎◌, inl, inr, ◌<◌, ◌+◌, ◌*◌, ℕ, List, ◌++◌, length, map, refl, sym, ap, subst, ◌∙◌, arith}
use Rattle.std.proofs.lemmas.Bool.{cond-true, cond-false}
use Rattle.std.proofs.lemmas.Bool.Decides.{eqb_tells}
use Rattle.hay_needle.specs.declared.needle.Cell.{Cell}
use Rattle.hay_needle.specs.declared.settings.Settings.{Settings}
use Rattle.hay_disk.specs.Counts.{Rose}
use Rattle.hay_disk.specs.Disk.{Files, IsImage, KeepsOthers}
use Rattle.hay_volume.specs.Cells.{IsVolume}
use Rattle.hay_volume.specs.declared.volume.VolumeFile.{VolumeFile}
use Rattle.hay_volume.proofs.Volumes.{volume_kept}
use Rattle.hay_dirfile.specs.Journal.{IsJournal}
use Rattle.hay_dirfile.specs.declared.row.DirRow.{DirRow}
use Rattle.hay_batch.specs.declared.directory.LoadDirectory.{LoadDirectory}
use Rattle.hay_batch.specs.declared.fault.LoadFault.{LoadFault}
use Rattle.hay_batch.specs.declared.replicas.AppendFault.{AppendFault}
use Rattle.hay_batch.specs.declared.photo.NewPhoto.{NewPhoto}
use Rattle.hay_batch.specs.declared.replica.LoadReplica.{LoadReplica}
use Rattle.hay_batch.specs.declared.store.LoadStore.{LoadStore}
use Rattle.hay_batch.specs.declared.store.LoadVolume.{LoadVolume}
use Rattle.hay_batch.specs.Batches.{batch_total, new_cells, new_row}
use Rattle.hay_batch.specs.Directories as directories
use Rattle.hay_batch.specs.Directories.{HoldsRows}
use Rattle.hay_batch.specs.Replicas.{Adds, At, HasWithOrWithout, Holds, MayAdd, file_of, IsReady}
use Rattle.hay_batch.specs.Stores.{AreContents, AreWithoutRows, Contents, FailsReplica, Images, IsReadyStore, IsShaped, KeepsFiles, LeavesWithOrWithout, MayLeaveStore, ReplicaAt, Stands, with_batch}
use Rattle.hay_batch.proofs.Lists.{at_below, at_same, at_there}
use Rattle.hay_batch.proofs.RowRuns.{journal_kept}

-- an image of a replica has its cells
pub held_image : {D : Type 0} (files : D → Files) (superblock : List ℕ) (cells : List Cell) (r : LoadReplica D) (image : List ℕ) → Holds files superblock cells r
    → IsImage (file_of files r) image → IsVolume superblock image cells r.volume.end
held_image files superblock cells r image has leaves = volume_kept superblock (file_of files r) image cells r.volume.end has.ready has.is (λ k from to. has.solid.places k) leaves

-- each replica that the settings say is there
pub replica_there : {D : Type 0} (store : LoadStore D) (v j : ℕ) → IsShaped store → v < store.settings.volumes → j < store.settings.replicas → (r : LoadReplica D) × ReplicaAt store v j r
replica_there store v j shape below within =
    let w = at_there store.volumes.items v (let less : v < length store.volumes.items = omega (arith, shape.volumes) in less) in
    let r = at_there w.0.replicas.items j (let less : j < length w.0.replicas.items = omega (arith, shape.replicas v w.0 w.1) in less) in
    (r.0, (w.0, w.1, r.1))

-- and the settings say of each that is there
pub within_settings : {D : Type 0} (store : LoadStore D) (v j : ℕ) (r : LoadReplica D) → IsShaped store → ReplicaAt store v j r → (v < store.settings.volumes) × (j < store.settings.replicas)
within_settings store v j r shape there =
    let first = at_below store.volumes.items v there.0 there.1 in
    let second = at_below there.0.replicas.items j r there.2 in
    (omega (arith, first, shape.volumes), omega (arith, second, shape.replicas v there.0 there.1))

-- what a batch makes of its volume, and of another one
module _ (v u j : ℕ) (photos : List NewPhoto) (k : Contents) where
  cells_here : u ≡ v → (with_batch v photos k).cells u j ≡ k.cells u j ++ new_cells (k.ends u j) photos
  cells_here same = elim (eqb_tells u v) [
    | inl is ↦ cond-true _ _ _ is.0
    | inr other ↦ absurd (other.1 same)
  ]

  cells_there : u ≢ v → (with_batch v photos k).cells u j ≡ k.cells u j
  cells_there apart = elim (eqb_tells u v) [
    | inl is ↦ absurd (apart is.1)
    | inr other ↦ cond-false _ _ _ other.0
  ]

  ends_here : u ≡ v → (with_batch v photos k).ends u j ≡ k.ends u j + batch_total photos
  ends_here same = elim (eqb_tells u v) [
    | inl is ↦ cond-true _ _ _ is.0
    | inr other ↦ absurd (other.1 same)
  ]

  ends_there : u ≢ v → (with_batch v photos k).ends u j ≡ k.ends u j
  ends_there apart = elim (eqb_tells u v) [
    | inl is ↦ absurd (apart is.1)
    | inr other ↦ cond-false _ _ _ other.0
  ]

-- The replicas of volume v were touched, and those of no other.
pub record Touches {D : Type 0} (v : ℕ) (old new : LoadStore D) : Type 0 where
  pub settings : new.settings ≡ old.settings
  pub was : IsShaped old
  pub is : IsShaped new
  pub others : (u j : ℕ) (r r' : LoadReplica D) → u ≢ v → ReplicaAt old u j r → ReplicaAt new u j r' → r' ≡ r

-- with another Directory
abbrev pub with_directory : {D : Type 0} → LoadStore D → LoadDirectory D → LoadStore D
with_directory store d = record { settings = store.settings; directory = d; volumes = store.volumes }

module _ {D : Type 0} (files : D → Files) (v : ℕ) (photos : List NewPhoto) (k : Contents) (old new : LoadStore D) (touched : Touches v old new) (stands : Stands files old k) where
  -- what a replica was
  before : (u j : ℕ) (r' : LoadReplica D) → ReplicaAt new u j r' → (r : LoadReplica D) × ReplicaAt old u j r
  before u j r' there =
      let within = within_settings new u j r' touched.is there in
      replica_there old u j touched.was (subst (λ (s : Settings). u < s.volumes) touched.settings within.0) (subst (λ (s : Settings). j < s.replicas) touched.settings within.1)

  -- and what it is
  after : (u j : ℕ) → u < old.settings.volumes → j < old.settings.replicas → (r' : LoadReplica D) × ReplicaAt new u j r'
  after u j below within =
      replica_there new u j touched.is (subst (λ (s : Settings). u < s.volumes) (sym touched.settings) below) (subst (λ (s : Settings). j < s.replicas) (sym touched.settings) within)

  has_other : (u j : ℕ) (r r' : LoadReplica D) → u ≢ v → ReplicaAt old u j r → ReplicaAt new u j r' → Holds files (k.superblocks u j) (k.cells u j) r' × (r'.volume.end ≡ k.ends u j)
  has_other u j r r' apart was is =
      let same : r ≡ r' = sym (touched.others u j r r' apart was is) in (
        subst (λ x. Holds files (k.superblocks u j) (k.cells u j) x) same (stands.replicas u j r was),
        subst (λ (x : LoadReplica D). x.volume.end ≡ k.ends u j) same (stands.ends u j r was),
      )

  module _ (left : Images) (leaves : (u j : ℕ) (r' : LoadReplica D) → ReplicaAt new u j r' → IsImage (file_of files r') (left.volumes u j)) where
    image_other : (u j : ℕ) → u ≢ v → u < old.settings.volumes → j < old.settings.replicas → IsVolume (k.superblocks u j) (left.volumes u j) (k.cells u j) (k.ends u j)
    unfolding before after has_other
    image_other u j apart below within =
        let is = after u j below within in
        let was = before u j is.0 is.1 in
        let has = has_other u j was.0 is.0 apart was.1 is.1 in
        subst (λ n. IsVolume (k.superblocks u j) (left.volumes u j) (k.cells u j) n) has.1 (held_image files (k.superblocks u j) (k.cells u j) is.0 (left.volumes u j) has.0 (leaves u j is.0 is.1))

    -- where the batch may have been added to some
    pub left_without_rows : ((j : ℕ) (r r' : LoadReplica D) → ReplicaAt old v j r → ReplicaAt new v j r' → MayAdd files photos r r')
        → IsJournal k.superblock old.settings.volumes left.journal k.rows → AreWithoutRows old.settings v photos k left
    unfolding before after image_other
    left_without_rows may rows = record {
      rows = rows;
      others = λ u j apart below within. image_other u j apart below within;
      cells = λ u j below within. elim (eqb_tells u v) [
        | inl same ↦
            let is = after u j below within in
            let was = before u j is.0 is.1 in
            let step = may j was.0 is.0 (subst (λ n. ReplicaAt old n j was.0) same.1 was.1) (subst (λ n. ReplicaAt new n j is.0) same.1 is.1) in
            subst (λ n. HasWithOrWithout (k.superblocks u j) (k.cells u j) n photos (left.volumes u j)) (stands.ends u j was.0 was.1)
            (step.left (k.superblocks u j) (k.cells u j) (left.volumes u j) (stands.replicas u j was.0 was.1) (leaves u j is.0 is.1))
        | inr apart ↦ inl (image_other u j apart.1 below within)
      ];
    }

  -- each replica of the volume has the batch
  module _ (Tells : Type 0) (tells : Tells) (added : (j : ℕ) (r r' : LoadReplica D) → ReplicaAt old v j r → ReplicaAt new v j r' → Adds Tells files photos r r') where
    has_added : (u j : ℕ) (r r' : LoadReplica D) → u ≡ v → ReplicaAt old u j r → ReplicaAt new u j r'
        → Holds files (k.superblocks u j) (k.cells u j ++ new_cells (k.ends u j) photos) r' × (r'.volume.end ≡ k.ends u j + batch_total photos)
    has_added u j r r' same was is =
        let step = added j r r' (subst (λ n. ReplicaAt old n j r) same was) (subst (λ n. ReplicaAt new n j r') same is) in
        let end : r.volume.end ≡ k.ends u j = stands.ends u j r was in (
          subst (λ n. Holds files (k.superblocks u j) (k.cells u j ++ new_cells n photos) r') end (step.holds tells (k.superblocks u j) (k.cells u j) (stands.replicas u j r was)),
          ap (λ (x : VolumeFile). x.end) step.volume ∙ ap (λ (n : ℕ). n + batch_total photos) end,
        )

    -- with its rows the store has it
    pub stands_loaded : (d : LoadDirectory D) → HoldsRows files k.superblock old.settings.volumes (k.rows ++ map (new_row v) photos) d → Stands files (with_directory new d) (with_batch v photos k)
    unfolding before has_other has_added cells_here cells_there ends_here ends_there
    stands_loaded d rows = record {
      directory = subst (λ (s : Settings). HoldsRows files k.superblock s.volumes (k.rows ++ map (new_row v) photos) d) (sym touched.settings) rows;
      replicas = λ u j r' is.
          let was = before u j r' is in
          elim (eqb_tells u v) [
            | inl same ↦ subst (λ (cs : List Cell). Holds files (k.superblocks u j) cs r') (sym (cells_here v u j photos k same.1)) (has_added u j was.0 r' same.1 was.1 is).0
            | inr apart ↦ subst (λ (cs : List Cell). Holds files (k.superblocks u j) cs r') (sym (cells_there v u j photos k apart.1)) (has_other u j was.0 r' apart.1 was.1 is).0
          ];
      ends = λ u j r' is.
          let was = before u j r' is in
          elim (eqb_tells u v) [
            | inl same ↦ (has_added u j was.0 r' same.1 was.1 is).1 ∙ sym (ends_here v u j photos k same.1)
            | inr apart ↦ (has_other u j was.0 r' apart.1 was.1 is).1 ∙ sym (ends_there v u j photos k apart.1)
          ];
    }

    module _ (left : Images) (leaves : (u j : ℕ) (r' : LoadReplica D) → ReplicaAt new u j r' → IsImage (file_of files r') (left.volumes u j)) where
      image_added : (u j : ℕ) → u ≡ v → u < old.settings.volumes → j < old.settings.replicas
          → IsVolume (k.superblocks u j) (left.volumes u j) (k.cells u j ++ new_cells (k.ends u j) photos) (k.ends u j + batch_total photos)
      unfolding before after has_added
      image_added u j same below within =
          let is = after u j below within in
          let was = before u j is.0 is.1 in
          let has = has_added u j was.0 is.0 same was.1 is.1 in
          subst (λ n. IsVolume (k.superblocks u j) (left.volumes u j) (k.cells u j ++ new_cells (k.ends u j) photos) n) has.1
          (held_image files (k.superblocks u j) (k.cells u j ++ new_cells (k.ends u j) photos) is.0 (left.volumes u j) has.0 (leaves u j is.0 is.1))

      -- whatever a stop leaves has all of it, or no row of it
      pub left_all_or_no_rows : (IsJournal k.superblock old.settings.volumes left.journal k.rows ⊎ IsJournal k.superblock old.settings.volumes left.journal (k.rows ++ map (new_row v) photos))
          → LeavesWithOrWithout old.settings v photos k left
      unfolding image_other image_added cells_here cells_there ends_here ends_there
      left_all_or_no_rows (inl rows) = inl (record {
        rows = rows;
        others = λ u j apart below within. image_other left leaves u j apart below within;
        cells = λ u j below within. elim (eqb_tells u v) [
          | inl same ↦ inr (image_added u j same.1 below within)
          | inr apart ↦ inl (image_other left leaves u j apart.1 below within)
        ];
      })
      left_all_or_no_rows (inr rows) = inr (record {
        rows = rows;
        cells = λ u j below within. elim (eqb_tells u v) [
          | inl same ↦
              subst (λ (cs : List Cell). IsVolume (k.superblocks u j) (left.volumes u j) cs ((with_batch v photos k).ends u j)) (sym (cells_here v u j photos k same.1))
              (subst (λ n. IsVolume (k.superblocks u j) (left.volumes u j) (k.cells u j ++ new_cells (k.ends u j) photos) n) (sym (ends_here v u j photos k same.1))
              (image_added u j same.1 below within))
          | inr apart ↦
              subst (λ (cs : List Cell). IsVolume (k.superblocks u j) (left.volumes u j) cs ((with_batch v photos k).ends u j)) (sym (cells_there v u j photos k apart.1))
              (subst (λ n. IsVolume (k.superblocks u j) (left.volumes u j) (k.cells u j) n) (sym (ends_there v u j photos k apart.1)) (image_other left leaves u j apart.1 below within))
        ];
      })

-- the next batch may be loaded
pub ready_loaded : {D : Type 0} (Tells : Type 0) (tells : Tells) (files : D → Files) (v : ℕ) (photos : List NewPhoto) (old new : LoadStore D) (d : LoadDirectory D)
    → Touches v old new → IsReadyStore files old
    → ((j : ℕ) (r r' : LoadReplica D) → ReplicaAt old v j r → ReplicaAt new v j r' → Adds Tells files photos r r') → directories.IsReady files d → IsReadyStore files (with_directory new d)
ready_loaded Tells tells files v photos old new d touched ready added settled = record {
  directory = settled;
  replicas = λ u j r' is.
      let within = within_settings new u j r' touched.is is in
      let was = replica_there old u j touched.was (subst (λ (s : Settings). u < s.volumes) touched.settings within.0) (subst (λ (s : Settings). j < s.replicas) touched.settings within.1) in
      elim (eqb_tells u v) [
        | inl same ↦ (added j was.0 r' (subst (λ n. ReplicaAt old n j was.0) same.1 was.1) (subst (λ n. ReplicaAt new n j r') same.1 is)).ready tells
        | inr apart ↦ subst (λ x. IsReady files x) (sym (touched.others u j was.0 r' apart.1 was.1 is)) (ready.replicas u j was.0 was.1)
      ];
}

-- where the Directory was not called, a stop leaves its rows
pub rows_kept : {D : Type 0} (files : D → Files) (superblock : List ℕ) (volumes : ℕ) (rows : List DirRow) (d : LoadDirectory D) (image : List ℕ)
    → HoldsRows files superblock volumes rows d → IsImage (files d.disk 0) image → IsJournal superblock volumes image rows
rows_kept files superblock volumes rows d image has leaves = journal_kept superblock volumes (files d.disk 0) image rows d.journal.end has.end has.ready has.is (λ k from to. has.solid.places k) leaves

-- where nothing was changed, a stop leaves what there was
pub left_same : {D : Type 0} (files : D → Files) (k : Contents) (store : LoadStore D) (left : Images) → IsShaped store → Stands files store k → MayLeaveStore files store left
    → AreContents store.settings k left
left_same files k store left shape stands leaves = record {
  rows = rows_kept files k.superblock store.settings.volumes k.rows store.directory left.journal stands.directory leaves.journal;
  cells = λ u j below within.
      let is = replica_there store u j shape below within in
      subst (λ n. IsVolume (k.superblocks u j) (left.volumes u j) (k.cells u j) n) (stands.ends u j is.0 is.1)
      (held_image files (k.superblocks u j) (k.cells u j) is.0 (left.volumes u j) (stands.replicas u j is.0 is.1) (leaves.volumes u j is.0 is.1));
}

-- OTHER FILES

one_replica : {D : Type 0} (store : LoadStore D) (v j : ℕ) (r r' : LoadReplica D) → ReplicaAt store v j r → ReplicaAt store v j r' → r ≡ r'
one_replica {D} store v j r r' first second =
    let same : first.0 ≡ second.0 = at_same store.volumes.items v first.0 second.0 first.1 second.1 in
    at_same second.0.replicas.items j r r' (subst (λ (w : LoadVolume D). At w.replicas.items j r) same first.2) second.2

pub files_same : {D : Type 0} (files : D → Files) (store : LoadStore D) → KeepsFiles files store store
files_same {D} files store = record {
  directory = λ other apart. refl;
  numbers = λ v j r r' was is. ap (λ (x : LoadReplica D). x.volume.file) (sym (one_replica store v j r r' was is));
  rooms = λ v j r r' was is. ap (λ (x : LoadReplica D). x.volume.capacity) (sym (one_replica store v j r r' was is));
  replicas = λ v j r r' was is other apart. ap (λ (x : LoadReplica D). files x.disk other) (sym (one_replica store v j r r' was is));
}

-- what a batch changed
pub files_kept : {D : Type 0} (files : D → Files) (v : ℕ) (photos : List NewPhoto) (old new : LoadStore D) (d : LoadDirectory D) → Touches v old new
    → ((j : ℕ) (r r' : LoadReplica D) → ReplicaAt old v j r → ReplicaAt new v j r' → MayAdd files photos r r')
    → KeepsOthers 0 (files old.directory.disk) (files d.disk) → KeepsFiles files old (with_directory new d)
files_kept {D} files v photos old new d touched may directory = record {
  directory = directory;
  numbers = λ u j r r' was is. elim (eqb_tells u v) [
    | inl same ↦ (may j r r' (subst (λ n. ReplicaAt old n j r) same.1 was) (subst (λ n. ReplicaAt new n j r') same.1 is)).file
    | inr apart ↦ ap (λ (x : LoadReplica D). x.volume.file) (touched.others u j r r' apart.1 was is)
  ];
  rooms = λ u j r r' was is. elim (eqb_tells u v) [
    | inl same ↦ (may j r r' (subst (λ n. ReplicaAt old n j r) same.1 was) (subst (λ n. ReplicaAt new n j r') same.1 is)).room
    | inr apart ↦ ap (λ (x : LoadReplica D). x.volume.capacity) (touched.others u j r r' apart.1 was is)
  ];
  replicas = λ u j r r' was is. elim (eqb_tells u v) [
    | inl same ↦ (may j r r' (subst (λ n. ReplicaAt old n j r) same.1 was) (subst (λ n. ReplicaAt new n j r') same.1 is)).others
    | inr apart ↦ λ other far. ap (λ (x : LoadReplica D). files x.disk other) (touched.others u j r r' apart.1 was is)
  ];
}

-- WHICH DISK FAILED

pub refused_is : (fault : AppendFault) (answer : LoadFault) (slot faults base : ℕ) → ((j n : ℕ) → fault ≡ AppendFault.Failed j n → answer ≡ LoadFault.Failed (base + j) n)
    → (fault ≡ AppendFault.NoMemory → answer ≡ LoadFault.NoMemory)
    → answer ≡ LoadFault.Failed slot faults → (j : ℕ) × (fault ≡ AppendFault.Failed j faults) × (slot ≡ base + j)
refused_is (AppendFault.Failed j n) answer slot faults base failed wanting is =
    let told : answer ≡ LoadFault.Failed (base + j) n = failed j n refl in
    let count : n ≡ faults = cc in
    let place : slot ≡ base + j = cc in
    (j, ap (λ m. AppendFault.Failed j m) count, place)
refused_is AppendFault.NoMemory answer slot faults base failed wanting is = let told : answer ≡ LoadFault.NoMemory = wanting refl in absurd cc

pub fails_replica : {D : Type 0} (fault_count : D → ℕ) (v j slot faults : ℕ) (old new : LoadStore D) → Touches v old new → v < old.settings.volumes → slot ≡ 1 + v * old.settings.replicas + j
    → (j < old.settings.replicas) × ((r r' : LoadReplica D) → ReplicaAt old v j r → ReplicaAt new v j r' → Rose (fault_count r.disk) (fault_count r'.disk) × (faults ≡ fault_count r'.disk))
    → FailsReplica fault_count v old new slot faults
fails_replica fault_count v j slot faults old new touched below place failed =
    let was = replica_there old v j touched.was below failed.0 in
    let is = replica_there new v j touched.is (subst (λ (s : Settings). v < s.volumes) (sym touched.settings) below) (subst (λ (s : Settings). j < s.replicas) (sym touched.settings) failed.0) in
    let rose = failed.1 was.0 is.0 was.1 is.1 in
    record { j = j; before = was.0; after = is.0; was = was.1; is = is.1; place = place; rose = rose.0; count = rose.1 }
