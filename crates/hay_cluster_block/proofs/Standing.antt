-- A store stands for what its parts stand for.
use Rattle.std.proofs.Common.{◌≡◌, ◌<◌, ◌≤◌, ◌+◌, ℕ, zero, suc, List, [], ◌∷◌, ◌++◌, map, length, refl, sym, ap, subst, ◌∙◌, arith, Some, flat_map}
use Rattle.std.specs.Prelude.{slice_get, slice_index_or}
use Rattle.std.specs.List.{AllByRecursion as Each, AllZip}
use Rattle.std.proofs.lemmas.List.{map-append}
use Rattle.hay_needle.specs.declared.settings.Settings.{Settings}
use Rattle.hay_disk.specs.Disk.{Files}
use Rattle.hay_mount.specs.Mounts.{InOrder}
use Rattle.hay_legal.specs.declared.known.Known.{Known}
use Rattle.hay_legal.specs.declared.known.VolumeKnown.{VolumeKnown}
use Rattle.hay_legal.specs.Known.{NoneFalls, empty_volume}
use Rattle.hay_directory.specs.State as directory
use Rattle.hay_directory.specs.State.{State}
use Rattle.hay_logical.specs.Stands as logical
use Rattle.hay_logical.specs.Volumes.{IsOpenVolume, Volume}
use Rattle.hay_meeting.proofs.Closing.{there}
use Rattle.hay_block.proofs.Lists.{each_at, each_by, zip_long}
use Rattle.hay_block.specs.Frames.{AreFit}
use Rattle.hay_block.specs.Stores.{AreStill, AreVolumes, CountsRise, FusesStay, StoreStands, by_slot}
use Rattle.hay_locks.specs.Making.{DirectoryStands, IsDirectoryOf, rows_count_of}
use Rattle.hay_shared_volume.specs.Making.{VolumeStands, count_of}
use Rattle.hay_shared_volume.specs.Making as locks
use Rattle.hay_cluster.specs.State.{Stands}
use Rattle.hay_cluster.specs.Store.{IsBuilt, IsShaped, IsUp, IsVolumeOf, Open, volume_disks}
use Rattle.hay_cluster_block.proofs.Slots.{slots, slots_same, slots_zip}
use Rattle.hay_cluster_block.specs.Blocks.{StaysAs}

-- LISTS

-- each item of a list in order, by its place
in_order_at : {X : Type 0} (P : ℕ → X → Type 0) (first : ℕ) (xs : List X) → InOrder P first xs → (v n : ℕ) (x : X) → slice_get xs v ≡ Some x → n ≡ first + v → P n x
in_order_at P first [] all v n x at e = absurd cc
in_order_at P first (y ∷ xs) all zero n x at e =
    let same : y ≡ x = cc at in
    let here : first ≡ n = omega (arith, e) in
    subst (λ m. P m x) here (subst (P first) same all.0)
in_order_at P first (y ∷ xs) all (suc v) n x at e = in_order_at P (first + 1) xs all.1 v n x at (omega (arith, e))

in_order_by : {X : Type 0} (P : ℕ → X → Type 0) (first : ℕ) (xs : List X) → ((v n : ℕ) (x : X) → slice_get xs v ≡ Some x → n ≡ first + v → P n x) → InOrder P first xs
in_order_by P first [] by = tt
in_order_by P first (x ∷ xs) by = (by 0 first x refl (omega arith), in_order_by P (first + 1) xs (λ v n y at e. by (suc v) n y at (omega (arith, e))))

within : {X : Type 0} (xs : List X) (v : ℕ) (x : X) → slice_get xs v ≡ Some x → v < length xs
within [] v x at = absurd cc
within (y ∷ xs) zero x at = omega arith
within (y ∷ xs) (suc v) x at = let rest = within xs v x at in omega (arith, rest)

-- what holds of the items at each place of two lists, of which one is read by index
zip_index : {X Y : Type 0} (R : X → Y → Type 0) (xs : List X) (ys : List Y) (d : Y) → AllZip R xs ys → (v : ℕ) (x : X) → slice_get xs v ≡ Some x → R x (slice_index_or ys v d)
zip_index R [] ys d all v x at = absurd cc
zip_index R (a ∷ xs) [] d all v x at = absurd all
zip_index R (a ∷ xs) (b ∷ ys) d all zero x at = let same : a ≡ x = cc at in subst (λ z. R z b) same all.0
zip_index R (a ∷ xs) (b ∷ ys) d all (suc v) x at = zip_index R xs ys d all.1 v x at

by_index : {X Y : Type 0} (R : X → Y → Type 0) (xs : List X) (ys : List Y) (d : Y) → length ys ≡ length xs → ((v : ℕ) (x : X) → slice_get xs v ≡ Some x → R x (slice_index_or ys v d)) → AllZip R xs ys
by_index R [] [] d many by = tt
by_index R [] (y ∷ ys) d many by = absurd (omega (arith, many))
by_index R (x ∷ xs) [] d many by = absurd (omega (arith, many))
by_index R (x ∷ xs) (y ∷ ys) d many by = let less : length ys ≡ length xs = omega (arith, many) in (by 0 x refl, by_index R xs ys d less (λ v z at. by (suc v) z at))

-- THE PARTS OF A STORE

-- the store of these parts
abbrev pub made : {D P A : Type 0} → Settings → State D → List (Volume D P) → List A → Open D P A
made settings directory volumes arms = record { settings = settings; directory = directory; volumes = volumes; arms = arms }

pub made_of : {D P A : Type 0} (store : Open D P A) (settings : Settings) (directory : State D) (volumes : List (Volume D P)) (arms : List A)
    → store.settings ≡ settings → store.directory ≡ directory → store.volumes ≡ volumes → store.arms ≡ arms → store ≡ made settings directory volumes arms
made_of store settings directory volumes arms settings_are directory_is volumes_are arms_are =
    ap (λ z. made z store.directory store.volumes store.arms) settings_are
    ∙ (ap (λ z. made settings z store.volumes store.arms) directory_is
    ∙ (ap (λ z. made settings directory z store.arms) volumes_are ∙ ap (λ z. made settings directory volumes z) arms_are))

pub are_fit : {settings : Settings} → IsBuilt settings → AreFit settings
are_fit built = record {
  machines = omega (arith, built.some_machines);
  some = omega (arith, built.some_volumes);
  replicas = omega (arith, built.some_replicas);
  fewer = built.no_more_replicas;
  few = built.few_replicas;
}

module _ {D P A : Type 0} (settings : Settings) where
  -- before the block
  module _ (directory : State D) (volumes : List (Volume D P)) (arms : List A) (shape : IsShaped (made settings directory volumes arms)) (up : IsUp (made settings directory volumes arms)) where
    pub given_volumes : AreVolumes locks.IsVolumeOf settings volumes
    given_volumes = record {
      many = shape.many;
      each = λ v volume at.
          let is = in_order_at (IsVolumeOf settings) 0 volumes shape.volumes v v volume at (omega arith) in
          let inside : v < length volumes = within volumes v volume at in
          let many = shape.many in
          record {
            settings_are = is.settings_are;
            number_is = is.number;
            of = record {
              some = shape.built.some_replicas;
              most = shape.built.few_replicas;
              fits = shape.built.no_more_replicas;
              volumes = shape.built.few_volumes;
              within = omega (arith, inside, many);
            };
            is_open = each_at IsOpenVolume volumes v volume up.volumes at;
            sups = is.sups;
          };
    }

    pub given_directory : IsDirectoryOf directory settings
    given_directory = record { settings_are = shape.directory; up = up.directory }

  -- behind it
  module _ (directory : State D) (volumes : List (Volume D P)) (arms : List A) (are : AreVolumes locks.IsVolumeOf settings volumes) (of : IsDirectoryOf directory settings) where
    pub up_behind : IsUp (made settings directory volumes arms)
    up_behind = record { directory = of.up; volumes = each_by IsOpenVolume volumes (λ v volume at. (are.each v volume at).is_open) }

    pub shape_behind : IsBuilt settings → length arms ≡ 8 → IsShaped (made settings directory volumes arms)
    shape_behind built many = record {
      built = built;
      directory = of.settings_are;
      many = are.many;
      volumes = in_order_by (IsVolumeOf settings) 0 volumes (λ v n volume at e.
          let same : n ≡ v = omega (arith, e) in
          let is = are.each v volume at in
          subst (λ m. IsVolumeOf settings m volume) (sym same) (record { settings_are = is.settings_are; number = is.number_is; all = is.is_open.all; sups = is.sups }));
      lanes = many;
    }

module _ {D P : Type 0} (settings : Settings) where
  -- each volume has all its replicas
  all_there : (volumes : List (Volume D P)) → AreVolumes locks.IsVolumeOf settings volumes → Each (λ (volume : Volume D P). length volume.replicas ≡ settings.replicas) volumes
  all_there volumes are = each_by (λ (volume : Volume D P). length volume.replicas ≡ settings.replicas) volumes
      (λ v volume at. let is = are.each v volume at in is.is_open.all ∙ ap (λ (s : Settings). s.replicas) is.settings_are)

  -- COUNTS, WHATEVER THE DISKS TELL

  module _ (old new : State D) (before after : List (Volume D P)) (were : AreVolumes locks.IsVolumeOf settings before) (are : AreVolumes locks.IsVolumeOf settings after) where
    as_many : length after ≡ length before
    as_many = are.many ∙ sym were.many

    slots_before : (count : D → ℕ) → by_slot settings (rows_count_of count old) (count_of count) before ≡ map count (old.disk ∷ flat_map volume_disks before)
    slots_before count = slots count settings old before (all_there before were)

    slots_after : (count : D → ℕ) → by_slot settings (rows_count_of count new) (count_of count) after ≡ map count (new.disk ∷ flat_map volume_disks after)
    slots_after count = slots count settings new after (all_there after are)

    pub none_falls : (faults : D → ℕ) → CountsRise settings (count_of faults) (rows_count_of faults) before old after new
        → NoneFalls (map faults (old.disk ∷ flat_map volume_disks before)) (map faults (new.disk ∷ flat_map volume_disks after))
    none_falls faults rise =
        subst (λ z. NoneFalls z (map faults (new.disk ∷ flat_map volume_disks after))) (slots_before faults)
        (subst (λ z. NoneFalls (by_slot settings (rows_count_of faults old) (count_of faults) before) z) (slots_after faults)
        (slots_zip ◌≤◌ (count_of faults) settings (rows_count_of faults old) (rows_count_of faults new) before after as_many rise.rows rise.volumes))

    pub none_set : (fuses : D → ℕ) → FusesStay settings (count_of fuses) (rows_count_of fuses) before old after new
        → map fuses (new.disk ∷ flat_map volume_disks after) ≡ map fuses (old.disk ∷ flat_map volume_disks before)
    none_set fuses stay =
        sym (slots_after fuses)
        ∙ (slots_same (count_of fuses) settings (rows_count_of fuses old) (rows_count_of fuses new) before after as_many stay.rows stay.volumes ∙ slots_before fuses)

    pub same_counts : (count : D → ℕ) → new ≡ old
        → ((v j : ℕ) (a b : Volume D P) → slice_get before v ≡ Some a → slice_get after v ≡ Some b → j < settings.replicas → count_of count b j ≡ count_of count a j)
        → map count (new.disk ∷ flat_map volume_disks after) ≡ map count (old.disk ∷ flat_map volume_disks before)
    same_counts count same by =
        sym (slots_after count)
        ∙ (slots_same (count_of count) settings (rows_count_of count old) (rows_count_of count new) before after as_many (ap (λ (z : State D). count z.disk) same) by ∙ slots_before count)

-- WHERE THE DISKS TELL

module _ {D P A : Type 0} (DiskTells : Type 0) (files : D → Files) (Tells : Type 0) (faults fuses : D → ℕ) (arm_faults : A → ℕ) (settings : Settings) where
  abbrev pub AllStand : List (Volume D P) → State D → List A → List ℕ → Known → Type 0
  AllStand volumes directory arms others k =
      StoreStands (VolumeStands DiskTells files Tells) (count_of faults) (count_of fuses) (DirectoryStands DiskTells files) (rows_count_of faults) (rows_count_of fuses) arm_faults
      settings volumes directory arms others k

  -- the parts of a store stand for what the store stands for
  pub parts_stand : DiskTells → (directory : State D) (volumes : List (Volume D P)) (arms first others : List A) → AreVolumes locks.IsVolumeOf settings volumes → arms ≡ first ++ others → (k : Known)
      → Stands files Tells faults fuses arm_faults (made settings directory volumes arms) k → AllStand volumes directory first (map arm_faults others) k
  unfolding Stands
  parts_stand tells directory volumes arms first others are split k stands = record {
    many = zip_long (logical.Stands files Tells) volumes k.volumes stands.volumes;
    each = λ v volume at. record { tells = tells; stands = zip_index (logical.Stands files Tells) volumes k.volumes empty_volume stands.volumes v volume at };
    rows = record { tells = tells; stands = stands.directory };
    faults_are = stands.fault_counts ∙ sym (slots faults settings directory volumes (all_there settings volumes are));
    fuses_are = stands.fuse_counts ∙ sym (slots fuses settings directory volumes (all_there settings volumes are));
    arms_are = stands.arm_counts ∙ (ap (λ z. map arm_faults z) split ∙ map-append arm_faults first others);
  }

  -- and the store for what they stand for
  pub store_stands : (directory : State D) (volumes : List (Volume D P)) (arms first others : List A) → IsShaped (made settings directory volumes arms) → AreVolumes locks.IsVolumeOf settings volumes
      → arms ≡ first ++ others → (k : Known) → AllStand volumes directory first (map arm_faults others) k → Stands files Tells faults fuses arm_faults (made settings directory volumes arms) k
  unfolding Stands
  store_stands directory volumes arms first others shape are split k stand = record {
    shape = shape;
    directory = stand.rows.stands;
    volumes = by_index (logical.Stands files Tells) volumes k.volumes empty_volume stand.many (λ v volume at. (stand.each v volume at).stands);
    fault_counts = stand.faults_are ∙ slots faults settings directory volumes (all_there settings volumes are);
    fuse_counts = stand.fuses_are ∙ slots fuses settings directory volumes (all_there settings volumes are);
    arm_counts = stand.arms_are ∙ (sym (map-append arm_faults first others) ∙ sym (ap (λ z. map arm_faults z) split));
  }

  -- WHERE NO LINE WAS ANSWERED

  still_stands : (before after : List (Volume D P)) → AreStill (VolumeStands DiskTells files Tells) (count_of faults) (count_of fuses) settings before after → DiskTells → (known : List VolumeKnown)
      → AllZip (logical.Stands files Tells) before known → AllZip (logical.Stands files Tells) after known
  still_stands before after still tells known stand =
      by_index (logical.Stands files Tells) after known empty_volume (zip_long (logical.Stands files Tells) before known stand ∙ sym still.many)
      (λ v b at.
      let inside : v < length after = within after v b at in
      let many = still.many in
      let a = there before v (omega (arith, inside, many)) in
      ((still.each v a.0 b a.1 at).stands_for (slice_index_or known v empty_volume) (record
      { tells = tells; stands = zip_index (logical.Stands files Tells) before known empty_volume stand v a.0 a.1 })).stands)

  pub stays_as : (old new : State D) (before after : List (Volume D P)) (arms last : List A) → IsShaped (made settings new after last) → AreVolumes locks.IsVolumeOf settings before
      → AreVolumes locks.IsVolumeOf settings after
      → new ≡ old → last ≡ arms → AreStill (VolumeStands DiskTells files Tells) (count_of faults) (count_of fuses) settings before after
      → StaysAs DiskTells files Tells faults fuses arm_faults (made settings old before arms) (made settings new after last)
  unfolding Stands
  stays_as old new before after arms last shape were are same arms_same still =
      let faults_are = same_counts settings old new before after were are faults same (λ v j a b at_a at_b below. (still.each v a b at_a at_b).faults_are j below) in
      let fuses_are = same_counts settings old new before after were are fuses same (λ v j a b at_a at_b below. (still.each v a b at_a at_b).fuses_are j below) in
      record {
        stands = λ tells k stood. record {
          shape = shape;
          directory = subst (λ (z : State D). directory.Stands files z k.directory k.drained) (sym same) stood.directory;
          volumes = still_stands before after still tells k.volumes stood.volumes;
          fault_counts = stood.fault_counts ∙ sym faults_are;
          fuse_counts = stood.fuse_counts ∙ sym fuses_are;
          arm_counts = stood.arm_counts ∙ sym (ap (λ z. map arm_faults z) arms_same);
        };
        directory_is = same;
        faults_are = faults_are;
        fuses_are = fuses_are;
        arms_are = arms_same;
      }
