-- The counts of the disks that are given back.
use Rattle.std.proofs.Common.{◌≡◌, inl, inr, ℕ, suc, zero, ◌+◌, ◌*◌, ◌/◌, ◌%◌, ◌≤◌, ◌<◌, sym, ap, subst, ◌∙◌, arith}
use Rattle.std.proofs.lemmas.Bool.{cases_lt}
use Rattle.hay_needle.specs.declared.settings.Settings.{Settings}
use Rattle.hay_disk.specs.Disk.{Files}
use Rattle.hay_disk.specs.Shelf.{HeldDisk}
use Rattle.hay_mount.specs.Mounts.{IsGivenDisk}
use Rattle.hay_batch.specs.declared.replica.LoadReplica.{LoadReplica}
use Rattle.hay_batch.specs.declared.store.LoadStore.{LoadStore}
use Rattle.hay_batch.specs.Shelves.{EachDisk, IsLeft, OpensSlot, disk_count, slot_of}
use Rattle.hay_batch.specs.Stores.{IsShaped, KeepsCounts, ReplicaAt}
use Rattle.std.proofs.lemmas.Nat.{div_below}
use Rattle.hay_batch.proofs.Lists.{at_below, at_there}
use Rattle.hay_batch.proofs.Loading.{replica_there}
use Rattle.hay_loading.specs.Endings.{CountsOn}

-- what holds of each slot that has a disk holds of all
each_slot : {D : Type 0} (P : ℕ → Type 0) (store : LoadStore D) → IsShaped store → P 0 → ((v j : ℕ) (r : LoadReplica D) → ReplicaAt store v j r → P (slot_of store.settings v j))
    → (slot : ℕ) → slot < disk_count store.settings → P slot
each_slot {D} P store shape first others zero below = first
each_slot {D} P store shape first others (suc n) below =
    let width = store.settings.replicas in
    let volumes = store.settings.volumes in
    let inside : n < volumes * width = omega (arith, below) in
    let some : 0 < width = elim (cases_lt 0 width) [
      | inl more ↦ more
      | inr less ↦ absurd (let none : width ≡ 0 = omega (arith, less) in let product = ap (λ k. volumes * k) none in omega (arith, product, inside))
    ] in
    let split : width * (n / width) + n % width ≡ n = omega (arith, some) in
    let low : n % width < width = omega (arith, some) in
    let volume = div_below n width volumes some inside in
    let w = at_there store.volumes.items (n / width) (let all = shape.volumes in omega (arith, volume, all)) in
    let r = at_there w.0.replicas.items (n % width) (let each = shape.replicas (n / width) w.0 w.1 in omega (arith, low, each)) in
    let slot : slot_of store.settings (n / width) (n % width) ≡ suc n = omega (arith, split) in
    subst P slot (others (n / width) (n % width) r.0 (w.0, w.1, r.1))

module _ {D : Type 0} (Tells : Type 0) (files : D → Files) (drawn : D → ℕ → ℕ) (faults fuses : D → ℕ) (old new : ℕ → HeldDisk) (store store' : LoadStore D)
    (shape : IsShaped store) (shape' : IsShaped store') (same : store'.settings ≡ store.settings)
    (disks : EachDisk (λ slot disk. OpensSlot Tells slot (old slot) (files disk) (faults disk) (fuses disk)) store) (counts : KeepsCounts faults fuses store store')
    (given : EachDisk (λ slot disk. IsGivenDisk Tells files drawn faults fuses (new slot) disk) store') where
  counts_first : CountsOn (old 0) (new 0)
  counts_first = record {
    faults_rise = (let a = disks.directory.later in let b = counts.directory in let c = given.directory.fault_count in omega (arith, a, b, c));
    fuses_are = given.directory.fuse_count ∙ counts.directory_fuses ∙ disks.directory.fuses_are;
  }

  counts_replica : (v j : ℕ) (r' : LoadReplica D) → ReplicaAt store' v j r' → CountsOn (old (slot_of store'.settings v j)) (new (slot_of store'.settings v j))
  counts_replica v j r' there =
      let volumes : store'.settings.volumes ≡ store.settings.volumes = ap (λ (x : Settings). x.volumes) same in
      let replicas : store'.settings.replicas ≡ store.settings.replicas = ap (λ (x : Settings). x.replicas) same in
      let volume : v < store.settings.volumes = (let below = at_below store'.volumes.items v there.0 there.1 in let many = shape'.volumes in omega (arith, below, many, volumes)) in
      let replica : j < store.settings.replicas = (let below = at_below there.0.replicas.items j r' there.2 in let many = shape'.replicas v there.0 there.1 in omega (arith, below, many, replicas)) in
      let r = replica_there store v j shape volume replica in
      let opened = disks.replicas v j r.0 r.1 in
      let back = given.replicas v j r' there in
      let here : slot_of store.settings v j ≡ slot_of store'.settings v j = ap (λ (x : Settings). slot_of x v j) (sym same) in
      let opening : (old (slot_of store'.settings v j)).fault_count ≤ faults r.0.disk = subst (λ n. (old n).fault_count ≤ faults r.0.disk) here opened.later in
      let fused : fuses r.0.disk ≡ (old (slot_of store'.settings v j)).fuse_count = subst (λ n. fuses r.0.disk ≡ (old n).fuse_count) here opened.fuses_are in
      record {
        faults_rise = (let b = counts.replicas v j r.0 r' r.1 there in let c = back.fault_count in omega (arith, opening, b, c));
        fuses_are = back.fuse_count ∙ counts.fuses v j r.0 r' r.1 there ∙ fused;
      }

  pub counts_on : (slot : ℕ) → slot < disk_count store'.settings → CountsOn (old slot) (new slot)
  counts_on slot below = each_slot (λ n. CountsOn (old n) (new n)) store' shape' counts_first counts_replica slot below

-- of a disk that was not opened, or was
pub counts_left : (Tells : Type 0) (slot : ℕ) (old new : HeldDisk) → IsLeft Tells slot old new → CountsOn old new
counts_left Tells slot old new (inl back) = record { faults_rise = (let same = back.fault_count in omega (arith, same)); fuses_are = back.fuse_count }
counts_left Tells slot old new (inr opened) = record { faults_rise = opened.later; fuses_are = opened.fuses_are }
