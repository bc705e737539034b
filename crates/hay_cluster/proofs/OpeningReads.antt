-- What is seen of a store by the disks that its opening read, void, whole or neither.
use Rattle.std.proofs.Common.{◌≡◌, ◌⊎◌, inl, inr, ℕ, zero, suc, ◌<◌, Bool, List, [], ◌∷◌, length, None, Some, refl, sym, ap, subst, ◌∙◌, arith}
use Rattle.std.proofs.Math.Path.{fun_ext}
use Rattle.std.specs.Prelude.{slice_get}
use Rattle.hay_needle.specs.declared.needle.Cell.{Cell}
use Rattle.hay_needle.specs.declared.needle.Pair.{Pair}
use Rattle.hay_needle.specs.declared.settings.Settings.{Settings}
use Rattle.hay_needle.specs.declared.settings.Super.{Super}
use Rattle.hay_disk.specs.Disk.{Files, MayLeave}
use Rattle.hay_disk.specs.Shelf.{HeldArm, HeldDisk}
use Rattle.hay_reply.specs.declared.Note.{Note}
use Rattle.hay_volume.specs.Needles.{HasNeedleOf}
use Rattle.hay_compact.proofs.CellLists.{last_stands}
use Rattle.hay_open.specs.Stored.{OpensAs, Stored, last_cell, volume_file}
use Rattle.hay_legal.specs.declared.known.HomeRow.{HomeRow}
use Rattle.hay_legal.specs.Known.{disk_count, slot_of}
use Rattle.hay_legal.specs.Stands.{Contents}
use Rattle.hay_directory.specs.Rows.{OpensRows}
use Rattle.hay_directory.specs.Seen.{directory_seen}
use Rattle.hay_directory.specs.Seen as homes
use Rattle.hay_physical.specs.OpenCopies.{Copy, contents_of, volume_bytes}
use Rattle.hay_logical.specs.Fits.{At, super_of}
use Rattle.hay_logical.specs.Needles.{HasLiveNeedles}
use Rattle.hay_logical.specs.Readings.{IsReadAs}
use Rattle.hay_logical.specs.ReplicaCalls.{KeepsDisk}
use Rattle.hay_logical.specs.Seen.{IsFoundAs, SeesAt, replica_seen, volume_seen}
use Rattle.hay_logical.specs.Sights.{AreSightsOf, Sights, sights_of}
use Rattle.hay_logical.specs.Volumes.{Volume}
use Rattle.hay_cluster.specs.Needles.{PhotosStand}
use Rattle.hay_cluster.specs.Opening.{Gathers, LeavesVolume, OpensParts, OpensVolume}
use Rattle.hay_cluster.specs.Outside.{read_of}
use Rattle.hay_cluster.specs.Seen.{ReadsEach, ReadsSeen, VolumeAt, store_seen}
use Rattle.hay_cluster.specs.Store.{IsShaped, Open, contents_in, disks_of}
use Rattle.hay_cluster.proofs.ClosingStore.{contents_at, order_item, order_self}
use Rattle.hay_cluster.proofs.Lists.{map-at}
use Rattle.hay_cluster.proofs.Moves.{volume_of}
use Rattle.hay_cluster.proofs.Needling.{file_on}
use Rattle.hay_cluster.proofs.OpeningDamage.{gathers_at, slot_within, superblock, zip_get}
use Rattle.hay_cluster.proofs.OpeningStore.{MovedParts, StoppedParts, shape_moved}
use Rattle.hay_cluster.proofs.OpeningTaken.{IsTaken, in_volume, taken_contents}
use Rattle.hay_cluster.proofs.Sighting.{photos_at}

-- a file that is empty, or is not
empty_or : {X : Type 0} (xs : List X) → (xs ≡ []) ⊎ (xs ≡ [] → ⊥)
empty_or [] = inl refl
empty_or (x ∷ xs) = inr (λ none. absurd cc)

-- what a disk has behind an opening, it had before it, or it was void
finds_before : {D : Type 0} (files : D → Files) (sup : Super) (r r' : Copy D) (s : Stored) → MayLeave (files r'.disk) (contents_of files r'.disk) → KeepsDisk files r r'
    → OpensAs sup (contents_of files r'.disk) s → OpensAs sup (contents_of files r.disk) s
unfolding OpensAs
finds_before files sup r r' s leaves keeps opens = elim (empty_or (contents_of files r.disk 0)) [
  | inl void ↦ inl (void, keeps.nothing void (contents_of files r'.disk) leaves sup s opens)
  | inr some ↦ subst (λ (contents : ℕ → List ℕ). OpensAs sup contents s) (fun_ext (λ n. (keeps.kept some n).0)) opens
]

-- the last cell of a pair on a whole disk stands in the volume file
pub whole_stands : (sup : Super) (contents : ℕ → List ℕ) (s : Stored) (pair : Pair) (cell : Cell) → OpensAs sup contents s → last_cell s.cells pair ≡ Some cell
    → HasNeedleOf (length cell.bytes) cell.deleted cell.at (contents (volume_file s.generation))
unfolding OpensAs
whole_stands sup contents s pair cell (inl void) last =
    let none : None ≡ Some cell = subst (λ (t : Stored). last_cell t.cells pair ≡ Some cell) void.1 last in absurd cc
whole_stands sup contents s pair cell (inr stored) last =
    record { cell = cell; stands = (last_stands 64 s.end (contents (volume_file s.generation)) s.cells pair cell stored.volume.has last).0; size_is = refl; deleted_is = refl }

module _ {D P A : Type 0} (DiskTells : Type 0) (files : D → Files) (Tells : Type 0) (faults fuses : D → ℕ) (arm_faults : A → ℕ) where
  -- of a replica whose disk the opening found as this
  found_at : DiskTells → (old new : Open D P A) (notes : List Note) → IsShaped old → MovedParts DiskTells files Tells faults fuses arm_faults old new
      → OpensParts DiskTells files Tells faults fuses old.directory new.directory old.volumes new.volumes notes
      → (v j : ℕ) (s : Stored) → v < (old.settings).volumes → j < (old.settings).replicas
      → ((r r' : Copy D) → slice_get (disks_of old) (slot_of old.settings v j) ≡ Some r.disk → slice_get (disks_of new) (slot_of new.settings v j) ≡ Some r'.disk → KeepsDisk files r r'
      → OpensAs (super_of old.settings v j) (contents_of files r.disk) s)
      → VolumeAt v (SeesAt j (IsFoundAs s)) (store_seen new) × AreSightsOf s ((store_seen new).places v) j
  found_at tells old new notes shape m opened v j s volume within opens =
      let many = shape.many in
      let x = order_item old.volumes v (let less : v < length old.volumes = omega (arith, volume, many) in less) in
      let is = volume_of old v x.0 shape x.1 in
      let long : length (x.0).replicas ≡ (old.settings).replicas = is.all ∙ ap (λ (s : Settings). s.replicas) is.settings_are in
      let r = order_item (x.0).replicas j (let less : j < length (x.0).replicas = omega (arith, within, long) in less) in
      let y = zip_get (LeavesVolume DiskTells files Tells faults fuses) old.volumes new.volumes v x.0 x.1 m.volumes in
      let count : length (y.0).replicas ≡ length (x.0).replicas = (y.2).counts.count in
      let r' = order_item (y.0).replicas j (let less : j < length (y.0).replicas = omega (arith, within, long, count) in less) in
      let shape' = shape_moved DiskTells files Tells faults fuses arm_faults old new shape m in
      let here = in_volume (λ n disk. slice_get (disks_of old) n ≡ Some disk) old v j x.0 r.0 shape x.1 r.1 (order_self (disks_of old)) in
      let there = in_volume (λ n disk. slice_get (disks_of new) n ≡ Some disk) new v j y.0 r'.0 shape' y.1 r'.1 (order_self (disks_of new)) in
      let found : OpensAs (r.0).sup (contents_of files (r.0).disk) s =
      subst (λ (u : Super). OpensAs u (contents_of files (r.0).disk) s) (sym (superblock old.settings v j x.0 r.0 is r.1))
      (opens r.0 r'.0 here there ((y.2).kept tells j r.0 r'.0 r.1 r'.1)) in
      let g = gathers_at (OpensVolume DiskTells files Tells faults fuses) old.volumes new.volumes opened.of_volumes v x.0 y.0 opened.volumes x.1 y.1 in
      let finds = (g.1).finds tells j r.0 r'.0 s r.1 r'.1 found in (
        (volume_seen y.0, map-at volume_seen new.volumes v y.0 y.1, (replica_seen r'.0, map-at replica_seen (y.0).replicas j r'.0 r'.1, finds.0)),
        subst (λ (seen : Sights). AreSightsOf s seen j) (sym (photos_at new new refl v y.0 y.1)) finds.1,
      )

  -- a first opening
  pub opened_reads : DiskTells → (drawn : D → ℕ → ℕ) (sure : A → Bool) (disks : ℕ → HeldDisk) (arms : ℕ → HeldArm) (settings : Settings) (old new : Open D P A) (notes : List Note)
      → old.settings ≡ settings
      → IsTaken DiskTells files Tells faults fuses arm_faults drawn sure disks arms old → MovedParts DiskTells files Tells faults fuses arm_faults old new
      → OpensParts DiskTells files Tells faults fuses old.directory new.directory old.volumes new.volumes notes → ReadsSeen settings (λ slot. read_of (disks slot)) (store_seen new)
  opened_reads tells drawn sure disks arms settings old new notes mine t m opened =
      let shape = t.shape in
      let rows : List HomeRow = (opened.directory).seen.0 in
      let journal : ◌≡◌ {A = Contents} (contents_of files (old.directory).disk) (read_of (disks 0)) =
      sym (contents_at files old 0 (old.directory).disk refl) ∙ taken_contents DiskTells files Tells faults fuses arm_faults drawn sure disks arms tells old t 0
      (let low : 0 < disk_count old.settings = omega arith in low) in
      subst (λ (s : Settings). ReadsSeen s (λ slot. read_of (disks slot)) (store_seen new)) mine
      (record {
        rows = rows;
        reads = subst (λ (s : Settings). OpensRows s (read_of (disks 0)) rows) shape.directory
            (subst (λ (contents : Contents). OpensRows (old.directory).settings contents rows) journal ((opened.directory).reads tells t.fresh));
        directory = subst (λ (s : Settings). homes.OpenSeen s.machines rows (directory_seen new.directory)) shape.directory (opened.directory).seen.2;
        finds = λ v j s volume within opens.
            found_at tells old new notes shape m opened v j s volume within (λ r r' here there keeps.
            let bytes : ◌≡◌ {A = Contents} (contents_of files r.disk) (read_of (disks (slot_of old.settings v j))) =
            sym (contents_at files old (slot_of old.settings v j) r.disk here)
            ∙ taken_contents DiskTells files Tells faults fuses arm_faults drawn sure disks arms tells old t (slot_of old.settings v j) (slot_within old.settings v j volume within) in
            subst (λ (contents : Contents). OpensAs (super_of old.settings v j) contents s) (sym bytes) opens);
      })

  -- a restart
  pub restart_reads : DiskTells → ((disk : D) → MayLeave (files disk) (contents_of files disk)) → (old mid new : Open D P A) (notes : List Note) → IsShaped mid
      → StoppedParts DiskTells files Tells faults fuses arm_faults old mid → MovedParts DiskTells files Tells faults fuses arm_faults mid new
      → OpensParts DiskTells files Tells faults fuses mid.directory new.directory mid.volumes new.volumes notes → ReadsSeen old.settings (contents_in files new) (store_seen new)
  restart_reads tells leaves old mid new notes shape stopped m opened =
      let rows : List HomeRow = (opened.directory).seen.0 in
      subst (λ (s : Settings). ReadsSeen s (contents_in files new) (store_seen new)) stopped.settings
      (record {
        rows = rows;
        reads = subst (λ (s : Settings). OpensRows s (contents_in files new 0) rows) shape.directory
            (subst (λ (contents : Contents). OpensRows (mid.directory).settings contents rows) (sym (contents_at files new 0 (new.directory).disk refl)) ((opened.directory).reads_now tells));
        directory = subst (λ (s : Settings). homes.OpenSeen s.machines rows (directory_seen new.directory)) shape.directory (opened.directory).seen.2;
        finds = λ v j s volume within opens.
            found_at tells mid new notes shape m opened v j s volume within (λ r r' here there keeps.
            let slot : slice_get (disks_of new) (slot_of mid.settings v j) ≡ Some r'.disk = subst (λ (t : Settings). slice_get (disks_of new) (slot_of t v j) ≡ Some r'.disk) m.settings there in
            finds_before files (super_of mid.settings v j) r r' s (leaves r'.disk) keeps
            (subst (λ (contents : Contents). OpensAs (super_of mid.settings v j) contents s) (contents_at files new (slot_of mid.settings v j) r'.disk slot) opens));
      })

-- PHOTOS THAT STAND

module _ {D P : Type 0} (DiskTells : Type 0) (files : D → Files) (Tells : Type 0) (faults fuses : D → ℕ) where
  live_each : DiskTells → (ys zs : List (Volume D P)) (notes : List Note) → Gathers (OpensVolume DiskTells files Tells faults fuses) ys zs notes
      → (v : ℕ) (z : Volume D P) → At zs v z → (j : ℕ) (r : Copy D) → At z.replicas j r → HasLiveNeedles (sights_of z.rows) j (volume_bytes files r)
  live_each tells [] [] notes opens v z at = absurd cc
  live_each tells [] (x ∷ zs) notes opens v z at = absurd opens
  live_each tells (y ∷ ys) [] notes opens v z at = absurd opens
  live_each tells (y ∷ ys) (x ∷ zs) notes opens zero z at =
      let same : x ≡ z = cc in
      subst (λ (w : Volume D P). (j : ℕ) (r : Copy D) → At w.replicas j r → HasLiveNeedles (sights_of w.rows) j (volume_bytes files r)) same (opens.first.live tells)
  live_each tells (y ∷ ys) (x ∷ zs) notes opens (suc v) z at = live_each tells ys zs opens.behind opens.rest v z at

module _ {D P A : Type 0} (DiskTells : Type 0) (files : D → Files) (Tells : Type 0) (faults fuses : D → ℕ) where
  pub opened_live : DiskTells → (settings : Settings) (old new : Open D P A) (notes : List Note) → new.settings ≡ settings → IsShaped new
      → OpensParts DiskTells files Tells faults fuses old.directory new.directory old.volumes new.volumes notes → PhotosStand settings (contents_in files new) (store_seen new)
  opened_live tells settings old new notes same shape opens =
      subst (λ (s : Settings). PhotosStand s (contents_in files new) (store_seen new)) same
      (λ v j volume within.
      let many = shape.many in
      let z = order_item new.volumes v (let less : v < length new.volumes = omega (arith, volume, many) in less) in
      file_on files new new refl shape v z.0 z.1 (λ r file. HasLiveNeedles ((store_seen new).places v) j file) j within
      (λ r there. subst (λ (seen : Sights). HasLiveNeedles seen j (volume_bytes files r)) (sym (photos_at new new refl v z.0 z.1))
      (live_each DiskTells files Tells faults fuses tells old.volumes new.volumes opens.of_volumes opens.volumes v z.0 z.1 j r there)))

-- WHAT WAS READ OF EACH DISK

module _ {D P : Type 0} (DiskTells : Type 0) (files : D → Files) (Tells : Type 0) (faults fuses : D → ℕ) where
  read_each : DiskTells → (ys zs : List (Volume D P)) (notes : List Note) → Gathers (OpensVolume DiskTells files Tells faults fuses) ys zs notes
      → (v : ℕ) (z : Volume D P) → At zs v z → (j : ℕ) (r : Copy D) → At z.replicas j r
      → IsReadAs r.sup (contents_of files r.disk) (replica_seen r) (λ pair. sights_of z.rows pair j)
  read_each tells [] [] notes opens v z at = absurd cc
  read_each tells [] (x ∷ zs) notes opens v z at = absurd opens
  read_each tells (y ∷ ys) [] notes opens v z at = absurd opens
  read_each tells (y ∷ ys) (x ∷ zs) notes opens zero z at =
      let same : x ≡ z = cc in
      subst (λ (w : Volume D P). (j : ℕ) (r : Copy D) → At w.replicas j r → IsReadAs r.sup (contents_of files r.disk) (replica_seen r) (λ pair. sights_of w.rows pair j)) same
      (opens.first.read tells)
  read_each tells (y ∷ ys) (x ∷ zs) notes opens (suc v) z at = read_each tells ys zs opens.behind opens.rest v z at

module _ {D P A : Type 0} (DiskTells : Type 0) (files : D → Files) (Tells : Type 0) (faults fuses : D → ℕ) where
  pub opened_read : DiskTells → (settings : Settings) (old new : Open D P A) (notes : List Note) → new.settings ≡ settings → IsShaped new
      → OpensParts DiskTells files Tells faults fuses old.directory new.directory old.volumes new.volumes notes → ReadsEach settings (contents_in files new) (store_seen new)
  opened_read tells settings old new notes same shape opens =
      subst (λ (s : Settings). ReadsEach s (contents_in files new) (store_seen new)) same
      (λ v j volume within.
      let many = shape.many in
      let z = order_item new.volumes v (let less : v < length new.volumes = omega (arith, volume, many) in less) in
      let is = volume_of new v z.0 shape z.1 in
      let long : length (z.0).replicas ≡ (new.settings).replicas = is.all ∙ ap (λ (s : Settings). s.replicas) is.settings_are in
      let r = order_item (z.0).replicas j (let less : j < length (z.0).replicas = omega (arith, within, long) in less) in
      let slot = slot_of new.settings v j in
      let here = in_volume (λ n disk. slice_get (disks_of new) n ≡ Some disk) new v j z.0 r.0 shape z.1 r.1 (order_self (disks_of new)) in
      let bytes : ◌≡◌ {A = Contents} (contents_of files (r.0).disk) (contents_in files new slot) = sym (contents_at files new slot (r.0).disk here) in
      let read = read_each DiskTells files Tells faults fuses tells old.volumes new.volumes opens.of_volumes opens.volumes v z.0 z.1 j r.0 r.1 in
      let now : IsReadAs (r.0).sup (contents_in files new slot) (replica_seen r.0) (λ pair. sights_of (z.0).rows pair j) =
      subst (λ (contents : Contents). IsReadAs (r.0).sup contents (replica_seen r.0) (λ pair. sights_of (z.0).rows pair j)) bytes read in
      let seen : IsReadAs (r.0).sup (contents_in files new slot) (replica_seen r.0) (λ pair. (store_seen new).places v pair j) =
      subst (λ (places : Sights). IsReadAs (r.0).sup (contents_in files new slot) (replica_seen r.0) (λ pair. places pair j)) (sym (photos_at new new refl v z.0 z.1)) now in (
        volume_seen z.0,
        map-at volume_seen new.volumes v z.0 z.1,
        (
          replica_seen r.0,
          map-at replica_seen (z.0).replicas j r.0 r.1,
          subst (λ (u : Super). IsReadAs u (contents_in files new slot) (replica_seen r.0) (λ pair. (store_seen new).places v pair j)) (superblock new.settings v j z.0 r.0 is r.1) seen,
        ),
      ))
