-- The disks of a store that are given back from the last slot down.
use Rattle.std.proofs.Common.{◌≡◌, inl, inr, ◌<◌, ◌≤◌, ◌+◌, ◌*◌, ◌/◌, ◌%◌, ℕ, zero, suc, false, List, [], ◌∷◌, ◌++◌, length, refl, sym, ap, subst, ◌∙◌, arith, length-append}
use Rattle.std.proofs.Math.Nat.{mul-le-mul_left}
use Rattle.std.proofs.lemmas.Bool.{cases_lt}
use Rattle.std.proofs.lemmas.Nat.{div_below}
use Rattle.hay_disk.specs.Disk.{Files}
use Rattle.hay_disk.specs.Shelf.{HeldDisk}
use Rattle.hay_mount.specs.Mounts.{AreIn, IsGivenDisk, SameFrom}
use Rattle.hay_batch.specs.declared.replica.LoadReplica.{LoadReplica}
use Rattle.hay_batch.specs.declared.store.LoadVolume.{LoadVolume}
use Rattle.hay_batch.specs.declared.store.LoadStore.{LoadStore}
use Rattle.hay_batch.specs.Replicas.{At}
use Rattle.hay_batch.specs.Shelves.{EachDisk, disk_count, slot_of}
use Rattle.hay_batch.specs.Stores.{IsShaped}
use Rattle.hay_batch.proofs.Lists.{at_below, at_same, at_there}

pub at_front : {X : Type 0} (xs ys : List X) (i : ℕ) (x : X) → At xs i x → At (xs ++ ys) i x
at_front [] ys i x at = absurd (let below = at_below [] i x at in omega (arith, below))
at_front (y ∷ xs) ys zero x at = at
at_front (y ∷ xs) ys (suc i) x at = at_front xs ys i x at

pub at_last : {X : Type 0} (xs : List X) (x : X) → At (xs ++ x ∷ []) (length xs) x
at_last [] x = refl
at_last (y ∷ xs) x = at_last xs x

-- Of all items these are left, and each of the others was given back to its place: `given` holds of it.
pub record GivesSome {X H : Type 0} (Given : (ℕ → H) → ℕ → X → Type 0) (first width : ℕ) (all rest : List X) (old new : ℕ → H) : Type 0 where
  pub fewer : length rest ≤ length all
  pub left : (i : ℕ) (x : X) → At rest i x → At all i x
  pub done : (i : ℕ) (x : X) → length rest ≤ i → At all i x → Given new i x
  pub below : (slot : ℕ) → slot < first + length rest * width → new slot ≡ old slot
  pub above : SameFrom (first + length all * width) old new

-- What is given of an item stays where no slot of its own is changed.
abbrev pub Stays : {X H : Type 0} → ((ℕ → H) → ℕ → X → Type 0) → ℕ → ℕ → Type 0
Stays {X} {H} Given first width = (old new : ℕ → H) (i : ℕ) (x : X) → ((slot : ℕ) → first + i * width ≤ slot → new slot ≡ old slot) → Given old i x → Given new i x

module _ {X H : Type 0} (Given : (ℕ → H) → ℕ → X → Type 0) (first width : ℕ) where
  pub gives_none : (all : List X) (old : ℕ → H) → GivesSome Given first width all all old old
  gives_none all old = record {
    fewer = omega arith;
    left = λ i x at. at;
    done = λ i x from at. absurd (let below = at_below all i x at in omega (arith, below, from));
    below = λ slot low. refl;
    above = λ slot high. refl;
  }

  pub gives_more : (all rest rest' : List X) (x : X) (old mid new : ℕ → H) → Stays Given first width → rest ≡ rest' ++ x ∷ [] → GivesSome Given first width all rest old mid
      → Given new (length rest') x
      → ((slot : ℕ) → slot < first + length rest' * width → new slot ≡ mid slot) → ((slot : ℕ) → first + length rest' * width + width ≤ slot → new slot ≡ mid slot)
      → GivesSome Given first width all rest' old new
  gives_more all rest rest' x old mid new stays is g given below above =
      let long : length rest ≡ length rest' + 1 = ap length is ∙ length-append rest' (x ∷ []) in
      let fewer = g.fewer in
      let up : length rest' + 1 ≤ length all = omega (arith, long, fewer) in
      let most = mul-le-mul_left width up in
      let next : length rest * width ≡ length rest' * width + width = (let e = ap (λ n. n * width) long in omega (arith, e)) in
      let last : At all (length rest') x = g.left (length rest') x (subst (λ (l : List X). At l (length rest') x) (sym is) (at_last rest' x)) in
      record {
        fewer = omega (arith, long, fewer);
        left = λ i y at. g.left i y (subst (λ (l : List X). At l i y) (sym is) (at_front rest' (x ∷ []) i y at));
        done = λ i y from at. elim (cases_lt (length rest') i) [
          | inl later ↦
              let after : length rest' + 1 ≤ i = omega (arith, later) in
              let product = mul-le-mul_left width after in
              stays mid new i y (λ slot low. above slot (omega (arith, low, product))) (g.done i y (omega (arith, later, long)) at)
          | inr here ↦
              let same : length rest' ≡ i = omega (arith, here, from) in
              subst (λ n. Given new n y) same (subst (λ z. Given new (length rest') z) (sym (at_same all (length rest') y x (subst (λ n. At all n y) (sym same) at) last)) given)
        ];
        below = λ slot low. below slot low ∙ g.below slot (omega (arith, low, next));
        above = λ slot high. above slot (omega (arith, high, most)) ∙ g.above slot high;
      }

-- REPLICAS AND VOLUMES

-- the replica of this number is in its slot, where the first is in this one
abbrev pub ReplicaGiven : {D : Type 0} → Type 0 → (D → Files) → (D → ℕ → ℕ) → (D → ℕ) → (D → ℕ) → ℕ → (ℕ → HeldDisk) → ℕ → LoadReplica D → Type 0
ReplicaGiven Tells files drawn faults fuses first held i r = IsGivenDisk Tells files drawn faults fuses (held (first + i)) r.disk

-- the replicas of the volume of this number are in their slots
abbrev pub VolumeGiven : {D : Type 0} → Type 0 → (D → Files) → (D → ℕ → ℕ) → (D → ℕ) → (D → ℕ) → ℕ → (ℕ → HeldDisk) → ℕ → LoadVolume D → Type 0
VolumeGiven {D} Tells files drawn faults fuses replicas held v w =
    (j : ℕ) (r : LoadReplica D) → At w.replicas.items j r → IsGivenDisk Tells files drawn faults fuses (held (1 + v * replicas + j)) r.disk

module _ {D : Type 0} (Tells : Type 0) (files : D → Files) (drawn : D → ℕ → ℕ) (faults fuses : D → ℕ) where
  pub replica_stays : (first : ℕ) → Stays (ReplicaGiven Tells files drawn faults fuses first) first 1
  replica_stays first old new i r same given = subst (λ (held : HeldDisk). IsGivenDisk Tells files drawn faults fuses held r.disk) (sym (same (first + i) (omega arith))) given

  pub volume_stays_given : (replicas : ℕ) → Stays (VolumeGiven Tells files drawn faults fuses replicas) 1 replicas
  volume_stays_given replicas old new v w same given j r at =
      subst (λ (held : HeldDisk). IsGivenDisk Tells files drawn faults fuses held r.disk) (sym (same (1 + v * replicas + j) (omega arith))) (given j r at)

-- each slot has its disk again
pub each_back : {D : Type 0} (Tells : Type 0) (files : D → Files) (drawn : D → ℕ → ℕ) (faults fuses : D → ℕ) (store : LoadStore D) (after : ℕ → HeldDisk) → IsShaped store
    → EachDisk (λ slot disk. IsGivenDisk Tells files drawn faults fuses (after slot) disk) store → AreIn (disk_count store.settings) after
each_back {D} Tells files drawn faults fuses store after shape given zero below = given.directory.back
each_back {D} Tells files drawn faults fuses store after shape given (suc n) below =
    let width = store.settings.replicas in
    let volumes = store.settings.volumes in
    let inside : n < volumes * width = omega (arith, below) in
    let some : 0 < width = elim (cases_lt 0 width) [
      | inl more ↦ more
      | inr less ↦ absurd (let none : width ≡ 0 = omega (arith, less) in let product = ap (λ k. volumes * k) none in omega (arith, product, inside))
    ] in
    let split : width * (n / width) + n % width ≡ n = omega (arith, some) in
    let low : n % width < width = omega (arith, some) in
    let volume = div_below n width volumes some inside in
    let w = at_there store.volumes.items (n / width) (let all = shape.volumes in omega (arith, volume, all)) in
    let r = at_there w.0.replicas.items (n % width) (let each = shape.replicas (n / width) w.0 w.1 in omega (arith, low, each)) in
    let slot : slot_of store.settings (n / width) (n % width) ≡ suc n = omega (arith, split) in
    subst (λ k. (after k).is_out ≡ false) slot (given.replicas (n / width) (n % width) r.0 (w.0, w.1, r.1)).back
