-- What a store is that was put together of the disks and arms of a shelf, and what is given back of it.
use Rattle.std.proofs.Common.{◌≡◌, ℕ, suc, ◌+◌, ◌*◌, ◌<◌, ◌≤◌, ◌⊎◌, inl, inr, Bool, false, List, [], ◌∷◌, length, map, Some, None, refl, sym, ap, subst, ◌∙◌, arith}
use Rattle.std.proofs.Math.Path.{fun_ext}
use Rattle.std.specs.Prelude.{slice_get, slice_index, Result, Err, OnErr}
use Rattle.std.specs.List.{AllByRecursion, AllZip, flat_map}
use Rattle.hay_disk.specs.Counts.{Rose}
use Rattle.hay_disk.specs.Disk.{Files, IsSolid}
use Rattle.hay_disk.specs.Shelf.{HeldArm, HeldDisk}
use Rattle.hay_mount.specs.Mounts.{InOrder, IsArmBack, IsMountedArm, IsMountedDisk}
use Rattle.hay_mount.proofs.Orders.{InOrder-front, InOrder-rest}
use Rattle.hay_legal.specs.Known.{NoneFalls, disk_count, slot_of}
use Rattle.hay_directory.specs.State as directory
use Rattle.hay_physical.specs.OpenCopies.{Copy}
use Rattle.hay_logical.specs.Fits.{At}
use Rattle.hay_logical.specs.Stands.{IsIdleVolume}
use Rattle.hay_logical.specs.Volumes.{IsClosed, Volume}
use Rattle.hay_cluster.specs.declared.fault.ClusterFault.{ClusterFault}
use Rattle.hay_cluster.specs.declared.fault.ClusterFault.TheVariants.{Shelf, Failed, Damaged, NoMemory}
use Rattle.hay_cluster.specs.Causes.{HasFaultCause, HasFile}
use Rattle.hay_cluster.specs.Opening.{IsResting, LeavesDirectory, LeavesVolume, RefusesParts}
use Rattle.hay_cluster.specs.Outside.{CountsOn, read_of}
use Rattle.hay_cluster.specs.Store.{IsShaped, Open, contents_in, disk_of, disks_of, volume_disks}
use Rattle.hay_cluster.proofs.ClosingStore.{contents_at, disks_many, index_of, order_flat, order_get, order_item, volumes_long}
use Rattle.hay_cluster.proofs.Lists.{AllZip-append}
use Rattle.hay_cluster.proofs.Moves.{disk_at, falls_at}
use Rattle.hay_cluster.proofs.OpeningStore.{MovedParts, faults_moved, fuses_moved, opening_cause}

-- WHY DISKS WERE NOT TAKEN

-- the shelf failed, or memory was wanting
abbrev pub IsTakingFault : ℕ → ℕ → ClusterFault → Type 0
IsTakingFault before after fault = (fault ≡ NoMemory) ⊎ ((count : ℕ) × (fault ≡ Shelf count) × Rose before after × (count ≡ after))

not_memory_shelf : (fault : ClusterFault) (count : ℕ) → fault ≡ NoMemory → fault ≡ Shelf count → ⊥
not_memory_shelf fault count memory is = let both : NoMemory ≡ Shelf count = sym memory ∙ is in absurd cc

pub not_memory_failed : (fault : ClusterFault) (slot count : ℕ) → fault ≡ NoMemory → fault ≡ Failed slot count → ⊥
not_memory_failed fault slot count memory is = let both : NoMemory ≡ Failed slot count = sym memory ∙ is in absurd cc

pub not_memory_damaged : (fault : ClusterFault) (slot file at : ℕ) → fault ≡ NoMemory → fault ≡ Damaged slot file at → ⊥
not_memory_damaged fault slot file at memory is = let both : NoMemory ≡ Damaged slot file at = sym memory ∙ is in absurd cc

pub taking_shelf : (before after : ℕ) (fault : ClusterFault) (count : ℕ) → IsTakingFault before after fault → fault ≡ Shelf count → Rose before after × (count ≡ after)
taking_shelf before after fault count (inl memory) is = absurd (not_memory_shelf fault count memory is)
taking_shelf before after fault count (inr (n, told, rose, same)) is = let both : Shelf n ≡ Shelf count = sym told ∙ is in let e : n ≡ count = cc in (rose, sym e ∙ same)

pub taking_failed : (before after : ℕ) (fault : ClusterFault) (slot count : ℕ) → IsTakingFault before after fault → fault ≡ Failed slot count → ⊥
taking_failed before after fault slot count (inl memory) is = not_memory_failed fault slot count memory is
taking_failed before after fault slot count (inr (n, told, rose, same)) is = let both : Shelf n ≡ Failed slot count = sym told ∙ is in absurd cc

pub taking_damaged : (before after : ℕ) (fault : ClusterFault) (slot file at : ℕ) → IsTakingFault before after fault → fault ≡ Damaged slot file at → ⊥
taking_damaged before after fault slot file at (inl memory) is = not_memory_damaged fault slot file at memory is
taking_damaged before after fault slot file at (inr (n, told, rose, same)) is = let both : Shelf n ≡ Damaged slot file at = sym told ∙ is in absurd cc

-- the exit of a `?`
pub passed_back : {T E : Type 0} (r : Result T E) (Q : Type 0) (y : E) → r ≡ Err y → Q → OnErr r Q
passed_back r Q y e q = subst (λ s. OnErr s Q) (sym e) q

pub one_fault : {T E : Type 0} (r : Result T E) (y z : E) → r ≡ Err y → r ≡ Err z → y ≡ z
one_fault r y z first second = cc

-- THE DISKS

some_of : (l : List ℕ) → (l ≡ [] → ⊥) → 0 < length l
some_of [] none = absurd (none refl)
some_of (byte ∷ bytes) none = omega arith

-- an item of a store by its volume and replica
pub in_volume : {D P A : Type 0} (Q : ℕ → D → Type 0) (store : Open D P A) (v j : ℕ) (x : Volume D P) (r : Copy D) → IsShaped store → At store.volumes v x → At x.replicas j r
    → InOrder Q 0 (disks_of store)
    → Q (slot_of store.settings v j) r.disk
in_volume Q store v j x r shape at there all =
    let place : slot_of store.settings v j ≡ 1 + (v * (store.settings).replicas + j) = omega arith in
    order_flat Q volume_disks (store.settings).replicas 1 store.volumes v j (slot_of store.settings v j) x r.disk (volumes_long store.settings 0 store.volumes shape.volumes) place
    at (disk_at x.replicas j r there) all.1

-- what an opening does to a disk that is not void: it keeps its bytes, and a file that was solid is
abbrev pub KeepsBytes : {D : Type 0} → (D → Files) → D → D → Type 0
KeepsBytes files d d' = ((files d 0).now ≡ [] → ⊥) → (n : ℕ) → ((files d' n).now ≡ (files d n).now) × (IsSolid (files d n) → IsSolid (files d' n))

module _ {D : Type 0} (DiskTells : Type 0) (files : D → Files) (faults fuses : D → ℕ) where
  copies_keep : (old new : List (Copy D)) → length new ≡ length old → ((j : ℕ) (r r' : Copy D) → At old j r → At new j r' → KeepsBytes files r.disk r'.disk)
      → AllZip (KeepsBytes files) (map disk_of old) (map disk_of new)
  copies_keep [] [] many keeps = tt
  copies_keep [] (r' ∷ new) many keeps = absurd (omega (arith, many))
  copies_keep (r ∷ old) [] many keeps = absurd (omega (arith, many))
  copies_keep (r ∷ old) (r' ∷ new) many keeps =
      (keeps 0 r r' refl refl, copies_keep old new (let less : length new ≡ length old = omega (arith, many) in less) (λ j s s' at at'. keeps (suc j) s s' at at'))

  directory_keeps : DiskTells → (d d' : directory.State D) → LeavesDirectory DiskTells files faults fuses d d' → KeepsBytes files d.disk d'.disk
  directory_keeps tells d d' moves some n =
      let same : files d'.disk ≡ files d.disk = moves.same tells (some_of (files d.disk 0).now some) in
      (ap (λ (f : Files). (f n).now) same, λ solid. subst (λ (f : Files). IsSolid (f n)) (sym same) solid)

module _ {D P A : Type 0} (DiskTells : Type 0) (files : D → Files) (Tells : Type 0) (faults fuses : D → ℕ) (arm_faults : A → ℕ) where
  volumes_keep : DiskTells → (xs ys : List (Volume D P)) → AllZip (LeavesVolume DiskTells files Tells faults fuses) xs ys
      → AllZip (KeepsBytes files) (flat_map volume_disks xs) (flat_map volume_disks ys)
  volumes_keep tells [] [] all = tt
  volumes_keep tells [] (y ∷ ys) all = absurd all
  volumes_keep tells (x ∷ xs) [] all = absurd all
  volumes_keep tells (x ∷ xs) (y ∷ ys) all =
      AllZip-append (KeepsBytes files) (volume_disks x) (flat_map volume_disks xs) (volume_disks y) (flat_map volume_disks ys)
      (copies_keep DiskTells files faults fuses x.replicas y.replicas (all.0).counts.count (λ j r r' at at' some n. let k = ((all.0).kept tells j r r' at at').kept some n in (k.0, λ solid. k.1)))
      (volumes_keep tells xs ys all.1)

  pub disks_keep : DiskTells → (old new : Open D P A) → MovedParts DiskTells files Tells faults fuses arm_faults old new → AllZip (KeepsBytes files) (disks_of old) (disks_of new)
  disks_keep tells old new m = (directory_keeps DiskTells files faults fuses tells old.directory new.directory m.directory, volumes_keep tells old.volumes new.volumes m.volumes)

  module _ (drawn : D → ℕ → ℕ) (sure : A → Bool) (disks : ℕ → HeldDisk) (arms : ℕ → HeldArm) where
    -- A closed store of these disks and arms.
    pub record IsTaken (store : Open D P A) : Type 0 where
      pub shape : IsShaped store
      pub fresh : directory.IsFresh store.directory
      pub closed : AllByRecursion IsClosed store.volumes
      pub unsure : AllByRecursion (λ volume. volume.unsure ≡ None) store.volumes
      pub disks_are : InOrder (λ slot disk. IsMountedDisk DiskTells files drawn faults fuses (disks slot) disk) 0 (disks_of store)
      pub arms_are : InOrder (λ lane arm. IsMountedArm arm_faults sure (arms lane) arm) 0 store.arms

    pub is_taken : (store : Open D P A) (ds : List D) (as' : List A) → IsShaped store → directory.IsFresh store.directory → AllByRecursion IsClosed store.volumes
        → AllByRecursion (λ volume. volume.unsure ≡ None) store.volumes
        → disks_of store ≡ ds → store.arms ≡ as' → InOrder (λ slot disk. IsMountedDisk DiskTells files drawn faults fuses (disks slot) disk) 0 ds
        → InOrder (λ lane arm. IsMountedArm arm_faults sure (arms lane) arm) 0 as' → IsTaken store
    is_taken store ds as' shape fresh closed unsure same_disks same_arms mounted mounted_arms = record {
      shape = shape;
      fresh = fresh;
      closed = closed;
      unsure = unsure;
      disks_are = subst (λ (l : List D). InOrder (λ slot disk. IsMountedDisk DiskTells files drawn faults fuses (disks slot) disk) 0 l) (sym same_disks) mounted;
      arms_are = subst (λ (l : List A). InOrder (λ lane arm. IsMountedArm arm_faults sure (arms lane) arm) 0 l) (sym same_arms) mounted_arms;
    }

    pub taken_rests : (store : Open D P A) → IsTaken store → IsResting DiskTells files store.directory
    taken_rests store t = record {
      closed = ap directory.is_closed t.fresh;
      solid = λ tells. (t.disks_are).0.solid tells 0;
      free = λ tells. (t.disks_are).0.free tells 0;
    }

    idle_each : DiskTells → (n : ℕ) (vs : List (Volume D P)) → AllByRecursion IsClosed vs
        → InOrder (λ slot disk. IsMountedDisk DiskTells files drawn faults fuses (disks slot) disk) n (flat_map volume_disks vs)
        → AllByRecursion (IsIdleVolume files) vs
    idle_each tells n [] closed all = tt
    idle_each tells n (x ∷ vs) closed all =
        let front = InOrder-front (λ slot disk. IsMountedDisk DiskTells files drawn faults fuses (disks slot) disk) n (volume_disks x) (flat_map volume_disks vs) all in
        let rest = InOrder-rest (λ slot disk. IsMountedDisk DiskTells files drawn faults fuses (disks slot) disk) n (volume_disks x) (flat_map volume_disks vs) all in (
          λ j r at.
              let taken = order_get (λ slot disk. IsMountedDisk DiskTells files drawn faults fuses (disks slot) disk) n (volume_disks x) j (n + j) r.disk refl (disk_at x.replicas j r at) front in
              record { closed = closed.0 j r at; solid = taken.solid tells; free = taken.free tells },
          idle_each tells (n + length (volume_disks x)) vs closed.1 rest,
        )

    pub taken_idle : DiskTells → (store : Open D P A) → IsTaken store → AllByRecursion (IsIdleVolume files) store.volumes
    taken_idle tells store t = idle_each tells 1 store.volumes t.closed (t.disks_are).1

    pub taken_disk : (store : Open D P A) → IsTaken store → (slot : ℕ) → slot < disk_count store.settings
        → (disk : D) × (slice_get (disks_of store) slot ≡ Some disk) × IsMountedDisk DiskTells files drawn faults fuses (disks slot) disk
    taken_disk store t slot below =
        let many = disks_many store t.shape in
        let there = order_item (disks_of store) slot (let less : slot < length (disks_of store) = omega (arith, below, many) in less) in
        let place : slot ≡ 0 + slot = omega arith in
        (there.0, there.1, order_get (λ n disk. IsMountedDisk DiskTells files drawn faults fuses (disks n) disk) 0 (disks_of store) slot slot there.0 place there.1 t.disks_are)

    taken_faults : (store : Open D P A) → IsTaken store → (slot : ℕ) → slot < disk_count store.settings → slice_index (map faults (disks_of store)) slot ≡ (disks slot).fault_count
    taken_faults store t slot below = let i = taken_disk store t slot below in index_of faults (disks_of store) slot i.0 i.1 ∙ (i.2).fault_count

    taken_fuses : (store : Open D P A) → IsTaken store → (slot : ℕ) → slot < disk_count store.settings → slice_index (map fuses (disks_of store)) slot ≡ (disks slot).fuse_count
    taken_fuses store t slot below = let i = taken_disk store t slot below in index_of fuses (disks_of store) slot i.0 i.1 ∙ (i.2).fuse_count

    -- the counts of a store that was opened, or was not
    pub moved_counts : (old new : Open D P A) → IsTaken old → MovedParts DiskTells files Tells faults fuses arm_faults old new → (slot : ℕ) → slot < disk_count old.settings
        → CountsOn (disks slot) (slice_index (map faults (disks_of new)) slot) (slice_index (map fuses (disks_of new)) slot)
    moved_counts old new t m slot below =
        let falls : NoneFalls (map faults (disks_of old)) (map faults (disks_of new)) = faults_moved DiskTells files Tells faults fuses arm_faults old new m in
        let rises : slice_index (map faults (disks_of old)) slot ≤ slice_index (map faults (disks_of new)) slot = falls_at (map faults (disks_of old)) (map faults (disks_of new)) slot falls in
        record {
          faults_rise = subst (λ n. n ≤ slice_index (map faults (disks_of new)) slot) (taken_faults old t slot below) rises;
          fuses_are = ap (λ (ns : List ℕ). slice_index ns slot) (fuses_moved DiskTells files Tells faults fuses arm_faults old new m) ∙ taken_fuses old t slot below;
        }

    taken_arm : (store : Open D P A) → IsTaken store → (lane : ℕ) → lane < 8 → (arm : A) × (slice_get store.arms lane ≡ Some arm) × IsMountedArm arm_faults sure (arms lane) arm
    taken_arm store t lane below =
        let many = (t.shape).lanes in
        let there = order_item store.arms lane (let less : lane < length store.arms = omega (arith, below, many) in less) in
        let place : lane ≡ 0 + lane = omega arith in
        (there.0, there.1, order_get (λ n arm. IsMountedArm arm_faults sure (arms n) arm) 0 store.arms lane lane there.0 place there.1 t.arms_are)

    pub moved_arms : (old new : Open D P A) → IsTaken old → new.arms ≡ old.arms → (lane : ℕ) → lane < 8 → slice_index (map arm_faults new.arms) lane ≡ (arms lane).fault_count
    moved_arms old new t same lane below =
        let i = taken_arm old t lane below in
        ap (λ (l : List A). slice_index (map arm_faults l) lane) same ∙ index_of arm_faults old.arms lane i.0 i.1 ∙ (i.2).fault_count

    pub moved_sure : (old new : Open D P A) → IsTaken old → new.arms ≡ old.arms → (lane : ℕ) (arm : A) → slice_get new.arms lane ≡ Some arm → sure arm ≡ (arms lane).is_sure
    moved_sure old new t same lane arm at =
        let place : lane ≡ 0 + lane = omega arith in
        (order_get (λ n a. IsMountedArm arm_faults sure (arms n) a) 0 old.arms lane lane arm place (ap (λ (l : List A). slice_get l lane) (sym same) ∙ at) t.arms_are).is_sure

    -- an arm that is given back as it was taken
    pub back_arm : (old new : Open D P A) (after : ℕ → HeldArm) → IsTaken old → new.arms ≡ old.arms → ((lane : ℕ) → lane < 8 → (after lane).fault_count ≡ slice_index (map arm_faults new.arms) lane)
        → ((lane : ℕ) (arm : A) → slice_get new.arms lane ≡ Some arm → (after lane).is_sure ≡ sure arm) → ((lane : ℕ) → lane < 8 → (after lane).is_out ≡ false)
        → (lane : ℕ) → lane < 8 → IsArmBack (arms lane) (after lane)
    back_arm old new after t same given_faults given_sure back lane below =
        let i = taken_arm old t lane below in
        record {
          fault_count = given_faults lane below ∙ moved_arms old new t same lane below;
          is_sure = given_sure lane i.0 (ap (λ (l : List A). slice_get l lane) same ∙ i.1) ∙ (i.2).is_sure;
          back = back lane below;
        }

    -- what reads of a slot's disk gave when it was taken
    pub taken_contents : DiskTells → (store : Open D P A) → IsTaken store → (slot : ℕ) → slot < disk_count store.settings → contents_in files store slot ≡ read_of (disks slot)
    taken_contents tells store t slot below =
        let i = taken_disk store t slot below in
        contents_at files store slot i.0 i.1 ∙ fun_ext (λ n. (i.2).now tells n)

    -- WHAT IS GIVEN BACK OF A STORE THAT WAS NOT OPENED

    pub back_counts : (old new : Open D P A) (after : ℕ → HeldDisk) → IsTaken old → MovedParts DiskTells files Tells faults fuses arm_faults old new
        → ((slot : ℕ) → slot < disk_count old.settings → (after slot).fault_count ≡ slice_index (map faults (disks_of new)) slot)
        → ((slot : ℕ) → slot < disk_count old.settings → (after slot).fuse_count ≡ slice_index (map fuses (disks_of new)) slot)
        → (slot : ℕ) → slot < disk_count old.settings → CountsOn (disks slot) (after slot).fault_count (after slot).fuse_count
    back_counts old new after t m given_faults given_fuses slot below =
        let counts = moved_counts old new t m slot below in
        let same = given_faults slot below in
        record { faults_rise = subst (λ n. (disks slot).fault_count ≤ n) (sym same) counts.faults_rise; fuses_are = given_fuses slot below ∙ counts.fuses_are }

    -- a disk's failure is told where its count rose
    pub back_failed : (old new : Open D P A) (after : ℕ → HeldDisk) (fault : ClusterFault) → IsTaken old → MovedParts DiskTells files Tells faults fuses arm_faults old new
        → RefusesParts DiskTells files faults old.settings old.directory new.directory old.volumes new.volumes fault
        → ((slot : ℕ) → slot < disk_count old.settings → (after slot).fault_count ≡ slice_index (map faults (disks_of new)) slot)
        → (slot count : ℕ) → fault ≡ Failed slot count → (slot < disk_count old.settings) × Rose (disks slot).fault_count (after slot).fault_count × (count ≡ (after slot).fault_count)
    back_failed old new after fault t m refused given slot count is =
        let cause : HasFaultCause old.settings (map faults (disks_of old)) (map faults (disks_of new)) (Failed slot count) =
        subst (λ f. HasFaultCause old.settings (map faults (disks_of old)) (map faults (disks_of new)) f) is
        (opening_cause DiskTells files Tells faults fuses arm_faults old new fault t.shape m refused) in (
          cause.0,
          subst (λ n. Rose n (after slot).fault_count) (taken_faults old t slot cause.0) (subst (λ n. Rose (slice_index (map faults (disks_of old)) slot) n) (sym (given slot cause.0)) cause.1),
          cause.2 ∙ sym (given slot cause.0),
        )

    pub back_damaged : (old new : Open D P A) (fault : ClusterFault) → IsTaken old → MovedParts DiskTells files Tells faults fuses arm_faults old new
        → RefusesParts DiskTells files faults old.settings old.directory new.directory old.volumes new.volumes fault → (slot file at : ℕ) → fault ≡ Damaged slot file at
        → HasFile old.settings slot file
    back_damaged old new fault t m refused slot file at is =
        subst (λ f. HasFaultCause old.settings (map faults (disks_of old)) (map faults (disks_of new)) f) is
        (opening_cause DiskTells files Tells faults fuses arm_faults old new fault t.shape m refused)

    -- the shelf has no part in it
    pub back_shelf : (old new : Open D P A) (fault : ClusterFault) → IsTaken old → MovedParts DiskTells files Tells faults fuses arm_faults old new
        → RefusesParts DiskTells files faults old.settings old.directory new.directory old.volumes new.volumes fault → (count : ℕ) → fault ≡ Shelf count → ⊥
    back_shelf old new fault t m refused count is =
        subst (λ f. HasFaultCause old.settings (map faults (disks_of old)) (map faults (disks_of new)) f) is
        (opening_cause DiskTells files Tells faults fuses arm_faults old new fault t.shape m refused)
