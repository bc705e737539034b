-- What the store stands for when one of its parts has changed.
use Rattle.std.proofs.Common.{◌≡◌, ℕ, zero, suc, ◌+◌, ◌*◌, ◌<◌, ◌≤◌, Bool, List, [], ◌∷◌, length, map, Some, refl, sym, ap, subst, ◌∙◌, inl, inr, arith}
use Rattle.std.specs.Prelude.{slice_get, slice_index, slice_set}
use Rattle.std.specs.List.{AllByRecursion, flat_map}
use Rattle.std.proofs.lemmas.Option.{same_Some, slice_get_within}
use Rattle.std.proofs.lemmas.Bool.{cases_order}
use Rattle.hay_needle.specs.declared.settings.Settings.{Settings}
use Rattle.hay_disk.specs.Counts.{IsNext, Rose}
use Rattle.hay_disk.specs.Disk.{Files}
use Rattle.hay_mount.specs.Mounts.{InOrder}
use Rattle.hay_physical.specs.OpenCopies.{Copy}
use Rattle.hay_legal.specs.declared.known.DirKnown.{DirKnown}
use Rattle.hay_legal.specs.declared.known.Known.{Known}
use Rattle.hay_legal.specs.declared.known.VolumeKnown.{VolumeKnown}
use Rattle.hay_legal.specs.Known.{NoneFalls, empty_volume, fuse_count, machine_of, replica_on, slot_of, volume_at, with_volume}
use Rattle.hay_legal.specs.Plain.{with_fuses}
use Rattle.hay_directory.specs.State as directory
use Rattle.hay_logical.specs.Fits.{At}
use Rattle.hay_logical.specs.Stands as logical
use Rattle.hay_logical.specs.Volumes.{Volume, IsSame, KeepsCounts}
use Rattle.hay_logical.specs.Volumes as volumes
use Rattle.hay_logical.specs.Answers.{HasFailed}
use Rattle.hay_logical.proofs.Methods.{sups_on}
use Rattle.hay_cluster.specs.Causes.{RoseAt, SetsFuse}
use Rattle.hay_cluster.specs.Parts.{Comes, InVolume}
use Rattle.hay_cluster.specs.State.{Stands, StandsFor}
use Rattle.hay_cluster.specs.Store.{Open, IsShaped, IsUp, IsVolumeOf, disk_of, disks_of, volume_disks}
use Rattle.hay_cluster.proofs.Lists.{AllByRecursion-set, AllZip-at, AllZip-long, AllZip-set, InOrder-get, InOrder-set, length-set, numbers-at, numbers-later, numbers-same}
use Rattle.hay_cluster.proofs.Lists.{numbers-set, set-same, slice_get-set}
use Rattle.hay_legal.proofs.Machines.{replica_found}

-- COUNTS OF A VOLUME'S DISKS

pub none_falls : (ns : List ℕ) → NoneFalls ns ns
none_falls [] = tt
none_falls (n ∷ ns) = (omega arith, none_falls ns)

pub falls_trans : (as' bs cs : List ℕ) → NoneFalls as' bs → NoneFalls bs cs → NoneFalls as' cs
falls_trans [] [] [] first second = tt
falls_trans [] [] (c ∷ cs) first second = absurd second
falls_trans [] (b ∷ bs) cs first second = absurd first
falls_trans (a ∷ as') [] cs first second = absurd first
falls_trans (a ∷ as') (b ∷ bs) [] first second = absurd second
falls_trans (a ∷ as') (b ∷ bs) (c ∷ cs) first second = (omega (arith, first.0, second.0), falls_trans as' bs cs first.1 second.1)

pub falls_at : (as' bs : List ℕ) (i : ℕ) → NoneFalls as' bs → slice_index as' i ≤ slice_index bs i
falls_at [] [] i all = omega arith
falls_at [] (b ∷ bs) i all = absurd all
falls_at (a ∷ as') [] i all = absurd all
falls_at (a ∷ as') (b ∷ bs) zero all = all.0
falls_at (a ∷ as') (b ∷ bs) (suc i) all = falls_at as' bs i all.1

module _ {D : Type 0} where
  pub copies_later : (faults : D → ℕ) (old new : List (Copy D)) → length new ≡ length old → ((j : ℕ) (r r' : Copy D) → At old j r → At new j r' → faults r.disk ≤ faults r'.disk)
      → NoneFalls (map faults (map disk_of old)) (map faults (map disk_of new))
  copies_later faults [] [] many later = tt
  copies_later faults [] (r' ∷ new) many later = absurd (omega arith)
  copies_later faults (r ∷ old) [] many later = absurd (omega arith)
  copies_later faults (r ∷ old) (r' ∷ new) many later = (later 0 r r' refl refl, copies_later faults old new (omega arith) (λ j s s' at at'. later (suc j) s s' at at'))

  pub copies_same : (count : D → ℕ) (old new : List (Copy D)) → length new ≡ length old → ((j : ℕ) (r r' : Copy D) → At old j r → At new j r' → count r'.disk ≡ count r.disk)
      → map count (map disk_of new) ≡ map count (map disk_of old)
  copies_same count [] [] many same = refl
  copies_same count [] (r' ∷ new) many same = absurd (omega arith)
  copies_same count (r ∷ old) [] many same = absurd (omega arith)
  copies_same count (r ∷ old) (r' ∷ new) many same =
      ap (λ n. n ∷ map count (map disk_of new)) (same 0 r r' refl refl)
      ∙ ap (λ ns. count r.disk ∷ ns) (copies_same count old new (omega arith) (λ j s s' at at'. same (suc j) s s' at at'))

  pub disk_at : (rs : List (Copy D)) (j : ℕ) (r : Copy D) → At rs j r → slice_get (map disk_of rs) j ≡ Some r.disk
  disk_at [] j r at = absurd cc
  disk_at (r' ∷ rs) zero r at = let same : r' ≡ r = cc in ap (λ (s : Copy D). Some s.disk) same
  disk_at (r' ∷ rs) (suc j) r at = disk_at rs j r at

  pub length-disks : (rs : List (Copy D)) → length (map disk_of rs) ≡ length rs
  length-disks [] = refl
  length-disks (r ∷ rs) = let rest = length-disks rs in omega (arith, rest)

-- THE SHAPE

abbrev pub with_directory : {D P A : Type 0} → Open D P A → directory.State D → Open D P A
with_directory store after = record store { directory = after }

abbrev pub with_one : {D P A : Type 0} → Open D P A → ℕ → Volume D P → Open D P A
with_one store v volume = record store { volumes = slice_set store.volumes v volume }

all_long : {D P : Type 0} (settings : Settings) (n : ℕ) (vs : List (Volume D P)) → InOrder (IsVolumeOf settings) n vs → AllByRecursion (λ volume. length (volume_disks volume) ≡ settings.replicas) vs
all_long settings n [] all = tt
all_long settings n (volume ∷ vs) all =
    (length-disks volume.replicas ∙ (all.0).all ∙ ap (λ (s : Settings). s.replicas) (all.0).settings_are, all_long settings (n + 1) vs all.1)

module _ {D P A : Type 0} where
  pub volume_of : (store : Open D P A) (v : ℕ) (volume : Volume D P) → IsShaped store → At store.volumes v volume → IsVolumeOf store.settings v volume
  volume_of store v volume shape at = InOrder-get (IsVolumeOf store.settings) store.volumes v volume at shape.volumes

  pub shape_kept : (store : Open D P A) (v : ℕ) (before after : Volume D P) → IsShaped store → At store.volumes v before → IsSame before after → length after.replicas ≡ length before.replicas
      → IsShaped (with_one store v after)
  shape_kept store v before after shape at same many =
      let was = volume_of store v before shape at in
      record {
        built = shape.built;
        directory = shape.directory;
        many = length-set store.volumes v after ∙ shape.many;
        volumes = InOrder-set (IsVolumeOf store.settings) 0 store.volumes v v after (omega arith)
            (record {
              settings_are = same.settings ∙ was.settings_are;
              number = same.number ∙ was.number;
              all = many ∙ was.all ∙ ap (λ (s : Settings). s.replicas) (sym same.settings);
              sups = sups_on before after same many was.sups;
            }) shape.volumes;
        lanes = shape.lanes;
      }

  -- the count of a replica's disk is found by its slot
  pub count_at : (count : D → ℕ) (store : Open D P A) (v j : ℕ) (volume : Volume D P) (r : Copy D) → IsShaped store → At store.volumes v volume → At volume.replicas j r
      → slice_index (map count (disks_of store)) (slot_of store.settings v j) ≡ count r.disk
  count_at count store v j volume r shape at there =
      let place : slot_of store.settings v j ≡ suc (v * (store.settings).replicas + j) = omega arith in
      ap (λ k. slice_index (map count (disks_of store)) k) place
      ∙ numbers-at count volume_disks (store.settings).replicas store.volumes v j volume r.disk (all_long store.settings 0 store.volumes shape.volumes) at (disk_at volume.replicas j r there)

  pub counts_later : (faults fuses : D → ℕ) (store : Open D P A) (v : ℕ) (before after : Volume D P) → At store.volumes v before → KeepsCounts faults fuses before.replicas after.replicas
      → NoneFalls (map faults (disks_of store)) (map faults (disks_of (with_one store v after)))
  counts_later faults fuses store v before after at kept =
      (omega arith, numbers-later faults volume_disks store.volumes v before after at (copies_later faults before.replicas after.replicas kept.count kept.rises))

  pub fuses_same : (faults fuses : D → ℕ) (store : Open D P A) (v : ℕ) (before after : Volume D P) → At store.volumes v before → KeepsCounts faults fuses before.replicas after.replicas
      → map fuses (disks_of (with_one store v after)) ≡ map fuses (disks_of store)
  fuses_same faults fuses store v before after at kept =
      ap (λ ns. fuses (store.directory).disk ∷ ns) (numbers-same fuses volume_disks store.volumes v before after at (copies_same fuses before.replicas after.replicas kept.count kept.stay))

  pub up_kept : (store : Open D P A) (v : ℕ) (after : Volume D P) → IsUp store → volumes.IsOpenVolume after → IsUp (with_one store v after)
  up_kept store v after up opened = record { directory = up.directory; volumes = AllByRecursion-set volumes.IsOpenVolume store.volumes v after opened up.volumes }

-- A VOLUME MOVED

module _ {D P A : Type 0} (files : D → Files) (Tells : Type 0) (faults fuses : D → ℕ) (arm_faults : A → ℕ) where
  pub volume_stood : (store : Open D P A) (k : Known) (v : ℕ) (before : Volume D P) → Stands files Tells faults fuses arm_faults store k → At store.volumes v before
      → logical.Stands files Tells before (volume_at k v)
  unfolding Stands
  volume_stood store k v before s at = AllZip-at (logical.Stands files Tells) store.volumes k.volumes v before empty_volume at s.volumes

  pub volume_comes : (store : Open D P A) (k : Known) (v : ℕ) (before after : Volume D P) (known : VolumeKnown) → Stands files Tells faults fuses arm_faults store k → At store.volumes v before
      → IsSame before after → KeepsCounts faults fuses before.replicas after.replicas → logical.Stands files Tells after known
      → Comes files Tells faults fuses arm_faults k (with_volume k v known) (with_one store v after)
  unfolding Stands
  volume_comes store k v before after known s at same kept stands =
      let store' = with_one store v after in
      record {
        known = record k { volumes = slice_set k.volumes v known; faults = map faults (disks_of store') };
        leaves = record {
          volumes = refl;
          directory = refl;
          drained = refl;
          fuses = refl;
          faults = subst (λ ns. NoneFalls ns (map faults (disks_of store'))) (sym s.fault_counts) (counts_later faults fuses store v before after at kept);
          arms = none_falls k.arms;
        };
        stands = record {
          shape = shape_kept store v before after s.shape at same kept.count;
          directory = s.directory;
          volumes = AllZip-set (logical.Stands files Tells) store.volumes k.volumes v after known stands s.volumes;
          fault_counts = refl;
          fuse_counts = s.fuse_counts ∙ sym (fuses_same faults fuses store v before after at kept);
          arm_counts = s.arm_counts;
        };
      }

  -- nothing is known anew where nothing changed
  pub comes-same : (store : Open D P A) (k : Known) → Stands files Tells faults fuses arm_faults store k → Comes files Tells faults fuses arm_faults k k store
  comes-same store k s = record {
    known = k;
    leaves = record { volumes = refl; directory = refl; drained = refl; fuses = refl; faults = none_falls k.faults; arms = none_falls k.arms };
    stands = s;
  }

  -- THE DIRECTORY MOVED

  pub directory_comes : (store : Open D P A) (k : Known) (after : directory.State D) (known : DirKnown) (drained : List Bool) → Stands files Tells faults fuses arm_faults store k
      → after.settings ≡ (store.directory).settings → faults (store.directory).disk ≤ faults after.disk → fuses after.disk ≡ fuses (store.directory).disk
      → directory.Stands files after known drained
      → Comes files Tells faults fuses arm_faults k (record k { directory = known; drained = drained }) (record store { directory = after })
  unfolding Stands
  directory_comes store k after known drained s same later kept stands =
      let store' : Open D P A = record store { directory = after } in
      record {
        known = record k { directory = known; drained = drained; faults = map faults (disks_of store') };
        leaves = record {
          volumes = refl;
          directory = refl;
          drained = refl;
          fuses = refl;
          faults = subst (λ ns. NoneFalls ns (map faults (disks_of store'))) (sym s.fault_counts) (later, none_falls (map faults (flat_map volume_disks store.volumes)));
          arms = none_falls k.arms;
        };
        stands = record {
          shape = record { built = (s.shape).built; directory = same ∙ (s.shape).directory; many = (s.shape).many; volumes = (s.shape).volumes; lanes = (s.shape).lanes };
          directory = stands;
          volumes = s.volumes;
          fault_counts = refl;
          fuse_counts = s.fuse_counts ∙ ap (λ n. n ∷ map fuses (flat_map volume_disks store.volumes)) (sym kept);
          arm_counts = s.arm_counts;
        };
      }

-- A VOLUME OF A STORE WAS CALLED

pub record Called {D P A : Type 0} (faults fuses : D → ℕ) (store : Open D P A) (v : ℕ) (before after : Volume D P) : Type 0 where
  pub at : At store.volumes v before
  pub same : IsSame before after
  pub counts : KeepsCounts faults fuses before.replicas after.replicas

module _ {D P A : Type 0} (faults fuses : D → ℕ) where
  pub called_shape : (store : Open D P A) (v : ℕ) (before after : Volume D P) → IsShaped store → Called faults fuses store v before after → IsShaped (with_one store v after)
  called_shape store v before after shape called = shape_kept store v before after shape called.at called.same (called.counts).count

  pub called_later : (old store : Open D P A) (v : ℕ) (before after : Volume D P) → store ≡ old → Called faults fuses store v before after
      → NoneFalls (map faults (disks_of old)) (map faults (disks_of (with_one store v after)))
  called_later old store v before after is called =
      subst (λ (st : Open D P A). NoneFalls (map faults (disks_of st)) (map faults (disks_of (with_one store v after)))) is
      (counts_later faults fuses store v before after called.at called.counts)

  pub called_fuses : (old store : Open D P A) (v : ℕ) (before after : Volume D P) → store ≡ old → Called faults fuses store v before after
      → map fuses (disks_of (with_one store v after)) ≡ map fuses (disks_of old)
  called_fuses old store v before after is called =
      fuses_same faults fuses store v before after called.at called.counts ∙ ap (λ (st : Open D P A). map fuses (disks_of st)) is

  -- a failure that a volume told of is one of the disk in the replica's slot
  pub called_failed : (old store : Open D P A) (v : ℕ) (before after : Volume D P) (m count : ℕ) → store ≡ old → IsShaped store → Called faults fuses store v before after
      → HasFailed faults before.settings before.number before.replicas after.replicas m count
      → RoseAt old.settings v m (map faults (disks_of old)) (map faults (disks_of (with_one store v after))) count
  called_failed old store v before after m count is shape called failed =
      let was = volume_of store v before shape called.at in
      let shape' = called_shape store v before after shape called in
      let within : failed.replica < (store.settings).replicas = subst (λ (s : Settings). failed.replica < s.replicas) was.settings_are failed.within in
      let volume : v < (store.settings).volumes = subst (λ n. v < n) shape.many (slice_get_within store.volumes v before called.at) in
      let old_count = count_at faults store v failed.replica before failed.before shape called.at failed.was in
      let new_count = count_at faults (with_one store v after) v failed.replica after failed.after shape' (slice_get-set store.volumes v before after called.at) failed.is in
      let machine : m ≡ machine_of store.settings v failed.replica =
      failed.machine ∙ ap (λ (s : Settings). machine_of s before.number failed.replica) was.settings_are ∙ ap (λ n. machine_of store.settings n failed.replica) was.number in
      subst (λ (st : Open D P A). RoseAt st.settings v m (map faults (disks_of st)) (map faults (disks_of (with_one store v after))) count) is
      (record {
        replica = failed.replica;
        there = ap (λ n. replica_on store.settings v n) machine ∙ replica_found store.settings v failed.replica volume within (shape.built).no_more_replicas;
        rose = subst (λ n. Rose n (slice_index (map faults (disks_of (with_one store v after))) (slot_of store.settings v failed.replica))) (sym old_count)
            (subst (λ n. Rose (faults (failed.before).disk) n) (sym new_count) failed.rose);
        told = failed.printed ∙ sym new_count;
      })

module _ {D P A : Type 0} (files : D → Files) (Tells : Type 0) (faults fuses : D → ℕ) (arm_faults : A → ℕ) where
  pub in_volume : (old store : Open D P A) (k : Known) (v : ℕ) (before after : Volume D P) (Does : Volume D P → Volume D P → Type 0) → store ≡ old → IsShaped store
      → Called faults fuses store v before after
      → Stands files Tells faults fuses arm_faults old k → (logical.Stands files Tells before (volume_at k v) → Does before after)
      → InVolume files Tells faults fuses arm_faults k v old (with_one store v after) Does
  in_volume old store k v before after Does is shape called stands does =
      let s : Stands files Tells faults fuses arm_faults store k = subst (λ (st : Open D P A). Stands files Tells faults fuses arm_faults st k) (sym is) stands in
      let stood = volume_stood files Tells faults fuses arm_faults store k v before s called.at in
      record {
        before = before;
        after = after;
        at = subst (λ (st : Open D P A). At st.volumes v before) is called.at;
        now = slice_get-set store.volumes v before after called.at;
        was = subst (λ (st : Open D P A). IsVolumeOf st.settings v before) is (volume_of store v before shape called.at);
        stood = stood;
        does = does stood;
        comes = λ known more. volume_comes files Tells faults fuses arm_faults store k v before after known s called.at called.same called.counts more;
      }

-- THE DIRECTORY OF A STORE WAS CALLED

module _ {D P A : Type 0} (files : D → Files) (Tells : Type 0) (faults fuses : D → ℕ) (arm_faults : A → ℕ) where
  pub directory_stood : (store : Open D P A) (k : Known) → Stands files Tells faults fuses arm_faults store k → directory.Stands files store.directory k.directory k.drained
  unfolding Stands
  directory_stood store k s = s.directory

  pub in_directory : (old store : Open D P A) (k : Known) (after : directory.State D) (known : DirKnown) (drained : List Bool) → store ≡ old → Stands files Tells faults fuses arm_faults old k
      → after.settings ≡ (store.directory).settings → faults (store.directory).disk ≤ faults after.disk → fuses after.disk ≡ fuses (store.directory).disk
      → (directory.Stands files store.directory k.directory k.drained → directory.Stands files after known drained)
      → Comes files Tells faults fuses arm_faults k (record k { directory = known; drained = drained }) (record store { directory = after })
  in_directory old store k after known drained is stands same later kept moves =
      let s : Stands files Tells faults fuses arm_faults store k = subst (λ (st : Open D P A). Stands files Tells faults fuses arm_faults st k) (sym is) stands in
      directory_comes files Tells faults fuses arm_faults store k after known drained s same later kept (moves (directory_stood store k s))

  pub directory_fused : (old store : Open D P A) (k : Known) (after : directory.State D) → store ≡ old → Stands files Tells faults fuses arm_faults old k
      → after.settings ≡ (store.directory).settings → faults after.disk ≡ faults (store.directory).disk → IsNext (fuses (store.directory).disk) (fuses after.disk)
      → (directory.Stands files store.directory k.directory k.drained → directory.Stands files after k.directory k.drained)
      → (n : ℕ) × IsNext (fuse_count k 0) n × Comes files Tells faults fuses arm_faults k (with_fuses k 0 n) (record store { directory = after })
  unfolding Stands
  directory_fused old store k after is stands same kept next moves =
      let s : StandsFor files Tells faults fuses arm_faults store k = subst (λ (st : Open D P A). StandsFor files Tells faults fuses arm_faults st k) (sym is) stands in
      let store' : Open D P A = record store { directory = after } in
      let n = fuses after.disk in (
        n,
        subst (λ m. IsNext m n) (ap (λ ns. slice_index ns 0) (sym s.fuse_counts)) next,
        record {
          known = record k { fuses = slice_set k.fuses 0 n; faults = map faults (disks_of store') };
          leaves = record {
            volumes = refl;
            directory = refl;
            drained = refl;
            fuses = refl;
            faults = subst (λ ns. NoneFalls ns (map faults (disks_of store'))) (sym s.fault_counts)
                (let later : faults (store.directory).disk ≤ faults after.disk = omega (arith, kept) in (later, none_falls (map faults (flat_map volume_disks store.volumes))));
            arms = none_falls k.arms;
          };
          stands = record {
            shape = record { built = (s.shape).built; directory = same ∙ (s.shape).directory; many = (s.shape).many; volumes = (s.shape).volumes; lanes = (s.shape).lanes };
            directory = moves s.directory;
            volumes = s.volumes;
            fault_counts = refl;
            fuse_counts = ap (λ ns. slice_set ns 0 n) s.fuse_counts;
            arm_counts = s.arm_counts;
          };
        },
      )

module _ {D P A : Type 0} (fuses : D → ℕ) where
  -- as many fuses were set as before, or one more
  pub directory_fuses : (old store : Open D P A) (after : directory.State D) → store ≡ old → fuses after.disk ≡ fuses (store.directory).disk
      → map fuses (disks_of (with_directory store after)) ≡ map fuses (disks_of old)
  directory_fuses old store after is kept =
      ap (λ n. n ∷ map fuses (flat_map volume_disks store.volumes)) kept ∙ ap (λ (st : Open D P A). map fuses (disks_of st)) is

  pub directory_sets : (old store : Open D P A) (after : directory.State D) → store ≡ old → IsNext (fuses (store.directory).disk) (fuses after.disk)
      → SetsFuse 0 (map fuses (disks_of old)) (map fuses (disks_of (with_directory store after)))
  directory_sets old store after is next =
      subst (λ (st : Open D P A). SetsFuse 0 (map fuses (disks_of st)) (map fuses (disks_of (with_directory store after)))) is (fuses after.disk, next, refl)

-- A FUSE ON A REPLICA'S DISK

pub has_item : {X : Type 0} (xs : List X) (i : ℕ) → i < length xs → (x : X) × (slice_get xs i ≡ Some x)
has_item [] i within = absurd (omega arith)
has_item (x ∷ xs) zero within = (x, refl)
has_item (x ∷ xs) (suc i) within = has_item xs i (omega arith)

pub copies_set : {D : Type 0} (count : D → ℕ) (old new : List (Copy D)) (j n : ℕ) → length new ≡ length old
    → ((i : ℕ) → (i ≡ j → ⊥) → (r r' : Copy D) → At old i r → At new i r' → r' ≡ r) → ((r' : Copy D) → At new j r' → count r'.disk ≡ n)
    → map count (map disk_of new) ≡ slice_set (map count (map disk_of old)) j n
copies_set count [] [] j n many others here = refl
copies_set count [] (r' ∷ new) j n many others here = absurd (omega arith)
copies_set count (r ∷ old) [] j n many others here = absurd (omega arith)
copies_set {D} count (r ∷ old) (r' ∷ new) zero n many others here =
    ap (λ m. m ∷ map count (map disk_of new)) (here r' refl)
    ∙ ap (λ ns. n ∷ ns) (copies_same count old new (omega arith) (λ i s s' at at'. ap (λ (q : Copy D). count q.disk) (others (suc i) (λ same. absurd (omega arith)) s s' at at')))
copies_set {D} count (r ∷ old) (r' ∷ new) (suc j) n many others here =
    ap (λ (q : Copy D). count q.disk ∷ map count (map disk_of new)) (others 0 (λ same. absurd (omega arith)) r r' refl refl)
    ∙ ap (λ ns. count r.disk ∷ ns) (copies_set count old new j n (omega arith) (λ i ne s s' at at'. others (suc i) (λ same. ne (omega arith)) s s' at at') here)

-- A replica's disk was given a fuse.
pub record Fused {D P : Type 0} (faults fuses : D → ℕ) (j : ℕ) (before after : Volume D P) : Type 0 where
  pub same : IsSame before after
  pub count : length after.replicas ≡ length before.replicas
  pub fused : (r r' : Copy D) → At before.replicas j r → At after.replicas j r' → IsNext (fuses r.disk) (fuses r'.disk) × (faults r'.disk ≡ faults r.disk)
  pub others : (i : ℕ) → (i ≡ j → ⊥) → (r r' : Copy D) → At before.replicas i r → At after.replicas i r' → r' ≡ r

fused_later : {D P : Type 0} (faults fuses : D → ℕ) (j : ℕ) (before after : Volume D P) → Fused faults fuses j before after
    → NoneFalls (map faults (volume_disks before)) (map faults (volume_disks after))
fused_later {D} faults fuses j before after f = copies_later faults before.replicas after.replicas f.count (λ i r r' at at'.
    elim (cases_order i j) [
      | inl here ↦
          let old : At before.replicas j r = subst (λ n. At before.replicas n r) here at in
          let new : At after.replicas j r' = subst (λ n. At after.replicas n r') here at' in
          let same = (f.fused r r' old new).1 in
          omega (arith, same)
      | inr (inl less) ↦ let same = ap (λ (q : Copy D). faults q.disk) (f.others i (λ eq. absurd (omega (arith, eq, less))) r r' at at') in omega (arith, same)
      | inr (inr more) ↦ let same = ap (λ (q : Copy D). faults q.disk) (f.others i (λ eq. absurd (omega (arith, eq, more))) r r' at at') in omega (arith, same)
    ])

module _ {D P A : Type 0} (faults fuses : D → ℕ) where
  pub fused_counts : (old store : Open D P A) (v j : ℕ) (before after : Volume D P) → store ≡ old → At store.volumes v before → Fused faults fuses j before after
      → NoneFalls (map faults (disks_of old)) (map faults (disks_of (with_one store v after)))
  fused_counts old store v j before after is at f =
      subst (λ (st : Open D P A). NoneFalls (map faults (disks_of st)) (map faults (disks_of (with_one store v after)))) is
      (let later : faults (store.directory).disk ≤ faults (store.directory).disk = omega arith in
      (later, numbers-later faults volume_disks store.volumes v before after at (fused_later faults fuses j before after f)))

  pub fused_fuses : (old store : Open D P A) (v j : ℕ) (before after : Volume D P) → store ≡ old → IsShaped store → At store.volumes v before → j < (store.settings).replicas
      → Fused faults fuses j before after
      → SetsFuse (slot_of old.settings v j) (map fuses (disks_of old)) (map fuses (disks_of (with_one store v after)))
  fused_fuses old store v j before after is shape at within f =
      let was = volume_of store v before shape at in
      let many : length before.replicas ≡ (store.settings).replicas = was.all ∙ ap (λ (t : Settings). t.replicas) was.settings_are in
      let old_one = has_item before.replicas j (omega (arith, many, within)) in
      let new_one = has_item after.replicas j (omega (arith, many, within, f.count)) in
      let n = fuses (new_one.0).disk in
      let slot : slot_of store.settings v j ≡ suc (v * (store.settings).replicas + j) = omega arith in
      let next : IsNext (slice_index (map fuses (disks_of store)) (slot_of store.settings v j)) n =
      subst (λ m. IsNext m n) (sym (count_at fuses store v j before old_one.0 shape at old_one.1)) (f.fused old_one.0 new_one.0 old_one.1 new_one.1).0 in
      let fuses_are : map fuses (disks_of (with_one store v after)) ≡ slice_set (map fuses (disks_of store)) (slot_of store.settings v j) n =
      sym (ap (λ i. slice_set (map fuses (disks_of store)) i n) slot
      ∙ ap (λ ns. fuses (store.directory).disk ∷ ns) (sym (numbers-set fuses volume_disks (store.settings).replicas store.volumes v j n before after
      (all_long store.settings 0 store.volumes shape.volumes) at within
      (copies_set fuses before.replicas after.replicas j n f.count f.others
      (λ r' at'. ap (λ (q : Copy D). fuses q.disk) (same_Some r' new_one.0 (sym at' ∙ new_one.1))))))) in
      subst (λ (st : Open D P A). SetsFuse (slot_of st.settings v j) (map fuses (disks_of st)) (map fuses (disks_of (with_one store v after)))) is (n, next, fuses_are)

module _ {D P A : Type 0} (files : D → Files) (Tells : Type 0) (faults fuses : D → ℕ) (arm_faults : A → ℕ) where
  pub volume_fused : (old store : Open D P A) (k : Known) (v j : ℕ) (before after : Volume D P) → store ≡ old → At store.volumes v before → j < (store.settings).replicas
      → Stands files Tells faults fuses arm_faults old k → Fused faults fuses j before after
      → ((known : VolumeKnown) → logical.Stands files Tells before known → logical.Stands files Tells after known)
      → (n : ℕ) × IsNext (fuse_count k (slot_of old.settings v j)) n × Comes files Tells faults fuses arm_faults k (with_fuses k (slot_of old.settings v j) n) (with_one store v after)
  unfolding Stands
  volume_fused old store k v j before after is at within stands f moves =
      let s : StandsFor files Tells faults fuses arm_faults store k = subst (λ (st : Open D P A). StandsFor files Tells faults fuses arm_faults st k) (sym is) stands in
      let store' = with_one store v after in
      let set = fused_fuses faults fuses store store v j before after refl s.shape at within f in
      let n = set.0 in
      let next : IsNext (fuse_count k (slot_of store.settings v j)) n = subst (λ m. IsNext m n) (sym (ap (λ ns. slice_index ns (slot_of store.settings v j)) s.fuse_counts)) set.1 in
      let found : (m : ℕ) × IsNext (fuse_count k (slot_of store.settings v j)) m × Comes files Tells faults fuses arm_faults k (with_fuses k (slot_of store.settings v j) m) store' = (
        n,
        next,
        record {
          known = record k { volumes = slice_set k.volumes v (volume_at k v); fuses = slice_set k.fuses (slot_of store.settings v j) n; faults = map faults (disks_of store') };
          leaves = record {
            volumes = set-same k.volumes v empty_volume (subst (λ l. v < l) (AllZip-long (logical.Stands files Tells) store.volumes k.volumes s.volumes) (slice_get_within store.volumes v before at));
            directory = refl;
            drained = refl;
            fuses = refl;
            faults = subst (λ ns. NoneFalls ns (map faults (disks_of store'))) (sym s.fault_counts) (fused_counts faults fuses store store v j before after refl at f);
            arms = none_falls k.arms;
          };
          stands = record {
            shape = shape_kept store v before after s.shape at f.same f.count;
            directory = s.directory;
            volumes = AllZip-set (logical.Stands files Tells) store.volumes k.volumes v after (volume_at k v)
                (moves (volume_at k v) (AllZip-at (logical.Stands files Tells) store.volumes k.volumes v before empty_volume at s.volumes)) s.volumes;
            fault_counts = refl;
            fuse_counts = ap (λ ns. slice_set ns (slot_of store.settings v j) n) s.fuse_counts ∙ sym set.2;
            arm_counts = s.arm_counts;
          };
        },
      ) in
      subst (λ (t : Settings). (m : ℕ) × IsNext (fuse_count k (slot_of t v j)) m × Comes files Tells faults fuses arm_faults k (with_fuses k (slot_of t v j) m) store')
      (ap (λ (st : Open D P A). st.settings) is) found
