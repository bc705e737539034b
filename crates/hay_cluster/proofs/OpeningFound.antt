-- What an opening finds on the disks of a shelf.
use Rattle.std.proofs.Common.{◌≡◌, ℕ, zero, suc, ◌^◌, ◌<◌, ◌≤◌, Bool, false, List, [], ◌∷◌, length, map, replicate, None, refl, sym, ap, subst, ◌∙◌, arith}
use Rattle.std.proofs.Math.Path.{fun_ext}
use Rattle.std.proofs.lemmas.List.{length-map}
use Rattle.std.proofs.lemmas.Option.{slice_get_within}
use Rattle.std.specs.Prelude.{slice_index, slice_index_or}
use Rattle.std.specs.List.{AllZip}
use Rattle.hay_needle.specs.declared.settings.Settings.{Settings}
use Rattle.hay_reply.specs.declared.Note.{Note}
use Rattle.hay_disk.specs.Disk.{Files}
use Rattle.hay_disk.specs.Shelf.{HeldArm, HeldDisk}
use Rattle.hay_mount.specs.Mounts.{IsMountedDisk}
use Rattle.hay_legal.specs.declared.known.DirKnown.{DirKnown}
use Rattle.hay_legal.specs.declared.known.HomeRow.{HomeRow}
use Rattle.hay_legal.specs.declared.known.Known.{Known}
use Rattle.hay_legal.specs.declared.known.VolumeKnown.{VolumeKnown}
use Rattle.hay_legal.specs.Known.{NoneFalls, FaultsRose, disk_count, empty_volume, replica_at, slot_of, volume_at}
use Rattle.hay_legal.specs.Restarts.{directory_with}
use Rattle.hay_legal.specs.Stands.{Contents, found_of}
use Rattle.hay_legal.specs.Statuses.{HoldsNew, IsNewVolume}
use Rattle.hay_directory.specs.Rows.{OpensRows}
use Rattle.hay_directory.specs.State as directory
use Rattle.hay_directory.proofs.RowLaws.{opens_once}
use Rattle.hay_physical.specs.OpenCopies.{contents_of}
use Rattle.hay_logical.specs.Fits.{At, IsReplica}
use Rattle.hay_logical.specs.Stands.{IsFirst}
use Rattle.hay_logical.specs.Volumes.{Volume}
use Rattle.hay_cluster.specs.Opening.{OpensParts}
use Rattle.hay_cluster.specs.Outside.{outside_of, read_of}
use Rattle.hay_cluster.specs.State.{Stands}
use Rattle.hay_cluster.specs.Store.{Open, disks_of}
use Rattle.hay_cluster.proofs.ClosingStore.{disks_many}
use Rattle.hay_cluster.proofs.Lists.{AllByRecursion-at}
use Rattle.hay_cluster.proofs.Moves.{volume_of}
use Rattle.hay_cluster.proofs.OpeningStore.{MovedParts, shape_moved}
use Rattle.hay_cluster.proofs.OpeningTaken.{IsTaken, in_volume, moved_arms, moved_counts}
use Rattle.hay_cluster.proofs.OpeningVolumes.{first_each}

-- two lists of which a fact holds place by place
zip_of : {A B : Type 0} (R : A → B → Type 0) (xs : List A) (ys : List B) → length xs ≡ length ys → ((i : ℕ) (x : A) (y : B) → At xs i x → At ys i y → R x y) → AllZip R xs ys
zip_of R [] [] long f = tt
zip_of R [] (y ∷ ys) long f = absurd (omega (arith, long))
zip_of R (x ∷ xs) [] long f = absurd (omega (arith, long))
zip_of R (x ∷ xs) (y ∷ ys) long f =
    (f 0 x y refl refl, zip_of R xs ys (let less : length xs ≡ length ys = omega (arith, long) in less) (λ i a b at at'. f (suc i) a b at at'))

at_or : {X : Type 0} (xs : List X) (i : ℕ) (x d : X) → At xs i x → slice_index_or xs i d ≡ x
at_or [] i x d at = absurd cc
at_or (y ∷ xs) zero x d at = cc
at_or (y ∷ xs) (suc i) x d at = at_or xs i x d at

same_reads : {D : Type 0} (DiskTells : Type 0) (files : D → Files) (drawn : D → ℕ → ℕ) (faults fuses : D → ℕ) → DiskTells → (held : HeldDisk) (disk : D)
    → IsMountedDisk DiskTells files drawn faults fuses held disk → ◌≡◌ {A = Contents} (λ n. (files disk n).now) (read_of held)
same_reads DiskTells files drawn faults fuses tells held disk taken = fun_ext (λ n. taken.now tells n)

-- two lists of numbers, place by place
no_less : (ms ns : List ℕ) → length ms ≡ length ns → ((i : ℕ) → i < length ms → slice_index ms i ≤ slice_index ns i) → NoneFalls ms ns
no_less [] [] long each = tt
no_less [] (n ∷ ns) long each = absurd (omega (arith, long))
no_less (m ∷ ms) [] long each = absurd (omega (arith, long))
no_less (m ∷ ms) (n ∷ ns) long each =
    (each 0 (omega arith), no_less ms ns (let less : length ms ≡ length ns = omega (arith, long) in less) (λ i below. each (suc i) (omega (arith, below))))

same_numbers : (ms ns : List ℕ) → length ms ≡ length ns → ((i : ℕ) → i < length ms → slice_index ms i ≡ slice_index ns i) → ms ≡ ns
same_numbers [] [] long each = refl
same_numbers [] (n ∷ ns) long each = absurd (omega (arith, long))
same_numbers (m ∷ ms) [] long each = absurd (omega (arith, long))
same_numbers (m ∷ ms) (n ∷ ns) long each =
    let first : m ≡ n = each 0 (omega arith) in
    let rest : ms ≡ ns = same_numbers ms ns (let less : length ms ≡ length ns = omega (arith, long) in less) (λ i below. each (suc i) (omega (arith, below))) in cc

module _ {D P A : Type 0} (DiskTells : Type 0) (files : D → Files) (Tells : Type 0) (faults fuses : D → ℕ) (arm_faults : A → ℕ) (drawn : D → ℕ → ℕ) (sure : A → Bool)
    (disks : ℕ → HeldDisk) (arms : ℕ → HeldArm) (shelf : ℕ) where
  -- WHAT AN OPENING FINDS

  first_at : DiskTells → (store : Open D P A) (k : Known) → IsTaken DiskTells files Tells faults fuses arm_faults drawn sure disks arms store
      → HoldsNew (IsReplica store.settings) (OpensRows store.settings) store.settings (outside_of shelf disks arms) k
      → (v : ℕ) (x : Volume D P) (y : VolumeKnown) → At store.volumes v x → At k.volumes v y → IsFirst files x y
  first_at tells store k t opened v x y at at' =
      let is = volume_of store v x t.shape at in
      let volume : v < (store.settings).volumes = subst (λ n. v < n) (t.shape).many (slice_get_within store.volumes v x at) in
      let many : length x.replicas ≡ (store.settings).replicas = is.all ∙ ap (λ (s : Settings). s.replicas) is.settings_are in
      record {
        new = subst (λ (s : Settings). IsNewVolume s y) (sym is.settings_are) (AllByRecursion-at (IsNewVolume store.settings) k.volumes v y at' (opened.new).volumes);
        unsure = AllByRecursion-at (λ (w : Volume D P). w.unsure ≡ None) store.volumes v x at t.unsure;
        found = λ j r there.
            let replica : j < (store.settings).replicas = subst (λ n. j < n) many (slice_get_within x.replicas j r there) in
            let slot = slot_of store.settings v j in
            let taken = in_volume (λ n disk. IsMountedDisk DiskTells files drawn faults fuses (disks n) disk) store v j x r t.shape at there t.disks_are in
            let here : IsReplica store.settings v j (read_of (disks slot)) (found_of (replica_at (volume_at k v) j)) = (opened.found).replicas v j volume replica in
            let same : volume_at k v ≡ y = at_or k.volumes v y empty_volume at' in
            let mine : IsReplica store.settings v j (contents_of files r.disk) (found_of (replica_at y j)) =
            subst (λ (w : VolumeKnown). IsReplica store.settings v j (contents_of files r.disk) (found_of (replica_at w j))) same
            (subst (λ (contents : Contents). IsReplica store.settings v j contents (found_of (replica_at (volume_at k v) j)))
            (sym (same_reads DiskTells files drawn faults fuses tells (disks slot) r.disk taken)) here) in
            subst (λ (s : Settings). IsReplica s x.number j (contents_of files r.disk) (found_of (replica_at y j))) (sym is.settings_are)
            (subst (λ n. IsReplica store.settings n j (contents_of files r.disk) (found_of (replica_at y j))) (sym is.number) mine);
      }

  firsts : DiskTells → (store : Open D P A) (k : Known) → IsTaken DiskTells files Tells faults fuses arm_faults drawn sure disks arms store
      → HoldsNew (IsReplica store.settings) (OpensRows store.settings) store.settings (outside_of shelf disks arms) k → AllZip (IsFirst files) store.volumes k.volumes
  firsts tells store k t opened = zip_of (IsFirst files) store.volumes k.volumes ((t.shape).many ∙ sym (opened.new).count) (first_at tells store k t opened)

  -- the store stands for what is found, but for disks' counts that rose
  abbrev FindsNew : Known → Open D P A → Type 0
  FindsNew k store = (t : Known) × FaultsRose k t × Stands files Tells faults fuses arm_faults store t

  counted : (old new : Open D P A) → IsTaken DiskTells files Tells faults fuses arm_faults drawn sure disks arms old
      → MovedParts DiskTells files Tells faults fuses arm_faults old new → length (disks_of new) ≡ disk_count old.settings
  counted old new t m = disks_many new (shape_moved DiskTells files Tells faults fuses arm_faults old new t.shape m) ∙ ap (λ (s : Settings). disk_count s) m.settings

  leaves_new : (old new : Open D P A) (k : Known) → IsTaken DiskTells files Tells faults fuses arm_faults drawn sure disks arms old → MovedParts DiskTells files Tells faults fuses arm_faults old new
      → HoldsNew (IsReplica old.settings) (OpensRows old.settings) old.settings (outside_of shelf disks arms) k
      → FaultsRose k (record k { faults = map faults (disks_of new); arms = map arm_faults new.arms })
  leaves_new old new k t m opened =
      let many = length-map (disks_of new) faults ∙ counted old new t m in
      let lanes = length-map new.arms arm_faults ∙ ap (λ (l : List A). length l) m.arms ∙ (t.shape).lanes in
      record {
        volumes = refl;
        directory = refl;
        drained = refl;
        fuses = refl;
        faults = no_less k.faults (map faults (disks_of new)) ((opened.new).disks ∙ sym many) (λ slot below.
            let low : slot < disk_count old.settings = subst (λ n. slot < n) (opened.new).disks below in
            let rise = (moved_counts DiskTells files Tells faults fuses arm_faults drawn sure disks arms old new t m slot low).faults_rise in
            subst (λ n. n ≤ slice_index (map faults (disks_of new)) slot) (sym (opened.faults slot low)) rise);
        arms = sym (same_numbers k.arms (map arm_faults new.arms) ((opened.new).lanes ∙ sym lanes) (λ lane below.
            let low : lane < 8 = subst (λ n. lane < n) (opened.new).lanes below in
            opened.arms lane low ∙ sym (moved_arms DiskTells files Tells faults fuses arm_faults drawn sure disks arms old new t m.arms lane low)));
      }

  same_fuses : (old new : Open D P A) (k : Known) → IsTaken DiskTells files Tells faults fuses arm_faults drawn sure disks arms old → MovedParts DiskTells files Tells faults fuses arm_faults old new
      → HoldsNew (IsReplica old.settings) (OpensRows old.settings) old.settings (outside_of shelf disks arms) k → k.fuses ≡ map fuses (disks_of new)
  same_fuses old new k t m opened =
      let many = length-map (disks_of new) fuses ∙ counted old new t m in
      same_numbers k.fuses (map fuses (disks_of new)) ((opened.new).fused ∙ sym many) (λ slot below.
      let low : slot < disk_count old.settings = subst (λ n. slot < n) (opened.new).fused below in
      opened.fuses slot low ∙ sym (moved_counts DiskTells files Tells faults fuses arm_faults drawn sure disks arms old new t m slot low).fuses_are)

  -- the rows that were found are those that the disk has
  same_directory : DiskTells → (old new : Open D P A) (k : Known) → IsTaken DiskTells files Tells faults fuses arm_faults drawn sure disks arms old
      → HoldsNew (IsReplica old.settings) (OpensRows old.settings) old.settings (outside_of shelf disks arms) k → (rows : List HomeRow)
      → OpensRows (old.directory).settings (λ n. (files (old.directory).disk n).now) rows
      → directory.Stands files new.directory (directory_with rows) (replicate ((old.directory).settings).machines false) → directory.Stands files new.directory k.directory k.drained
  same_directory tells old new k t opened rows found stands =
      let few : (old.settings).volumes ≤ 2 ^ 32 = let most = ((t.shape).built).few_volumes in omega (arith, most) in
      let here : OpensRows old.settings (read_of (disks 0)) rows =
      subst (λ (contents : Contents). OpensRows old.settings contents rows) (same_reads DiskTells files drawn faults fuses tells (disks 0) (old.directory).disk (t.disks_are).0)
      (subst (λ (s : Settings). OpensRows s (λ n. (files (old.directory).disk n).now) rows) (t.shape).directory found) in
      let same : rows ≡ k.directory.rows = opens_once old.settings (read_of (disks 0)) rows k.directory.rows few here (opened.found).directory in
      let is : directory_with rows ≡ k.directory = ap directory_with same ∙ sym (opened.new).directory in
      let drains : replicate ((old.directory).settings).machines false ≡ k.drained = ap (λ (s : Settings). replicate s.machines false) (t.shape).directory ∙ sym (opened.new).drained in
      subst (λ (dir : DirKnown). directory.Stands files new.directory dir k.drained) is (subst (λ (ds : List Bool). directory.Stands files new.directory (directory_with rows) ds) drains stands)

  finds_new : DiskTells → (old new : Open D P A) (k : Known) (notes : List Note) → IsTaken DiskTells files Tells faults fuses arm_faults drawn sure disks arms old
      → MovedParts DiskTells files Tells faults fuses arm_faults old new
      → OpensParts DiskTells files Tells faults fuses old.directory new.directory old.volumes new.volumes notes
      → HoldsNew (IsReplica old.settings) (OpensRows old.settings) old.settings (outside_of shelf disks arms) k → FindsNew k new
  unfolding Stands
  finds_new tells old new k notes t m o opened =
      let each = first_each DiskTells files Tells faults fuses tells old.volumes new.volumes o.of_volumes k.volumes o.volumes (firsts tells old k t opened) in
      let d = (o.directory).first tells t.fresh in (
        record k { faults = map faults (disks_of new); arms = map arm_faults new.arms },
        leaves_new old new k t m opened,
        record {
          shape = shape_moved DiskTells files Tells faults fuses arm_faults old new t.shape m;
          directory = same_directory tells old new k t opened d.1.0 d.1.1 d.1.2;
          volumes = each.1;
          fault_counts = refl;
          fuse_counts = same_fuses old new k t m opened;
          arm_counts = refl;
        },
      )

  pub found_new : DiskTells → (settings : Settings) (old new : Open D P A) (k : Known) (notes : List Note) → old.settings ≡ settings
      → IsTaken DiskTells files Tells faults fuses arm_faults drawn sure disks arms old
      → MovedParts DiskTells files Tells faults fuses arm_faults old new → OpensParts DiskTells files Tells faults fuses old.directory new.directory old.volumes new.volumes notes
      → HoldsNew (IsReplica settings) (OpensRows settings) settings (outside_of shelf disks arms) k
      → (t : Known) × FaultsRose k t × Stands files Tells faults fuses arm_faults new t
  found_new tells settings old new k notes is t m o =
      subst (λ (s : Settings). HoldsNew (IsReplica s) (OpensRows s) s (outside_of shelf disks arms) k → FindsNew k new) is (finds_new tells old new k notes t m o)
