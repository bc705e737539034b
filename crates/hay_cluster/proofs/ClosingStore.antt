-- What the disks and arms that a store gives back hold.
use Rattle.std.proofs.Common.{◌≡◌, ℕ, zero, suc, ◌+◌, ◌*◌, ◌<◌, ◌≤◌, Bool, false, List, [], ◌∷◌, length, map, Option, Some, refl, sym, ap, subst, ◌∙◌, arith}
use Rattle.std.proofs.Math.Nat.{mul-le-mul_left}
use Rattle.std.proofs.Math.Path.{fun_ext}
use Rattle.std.proofs.lemmas.Option.{slice_get_within}
use Rattle.std.specs.Prelude.{slice_get, slice_index}
use Rattle.std.specs.List.{AllByRecursion, AllZip, flat_map}
use Rattle.std.specs.Option.{option_map_or}
use Rattle.hay_needle.specs.declared.settings.Settings.{Settings}
use Rattle.hay_disk.specs.Disk.{Files, IsImage, KeepsOthers, MayLeave}
use Rattle.hay_disk.specs.Shelf.{HeldArm, HeldDisk}
use Rattle.hay_mount.specs.Mounts.{InOrder, IsGivenArm, IsGivenDisk}
use Rattle.hay_mount.proofs.Orders.{InOrder-front, InOrder-map, InOrder-rest}
use Rattle.hay_legal.specs.declared.known.Known.{Known}
use Rattle.hay_legal.specs.Known.{disk_count, empty_volume, slot_of, volume_at}
use Rattle.hay_legal.specs.Stands.{Contents, StandsOn, VolumeOutcome}
use Rattle.hay_legal.proofs.Joining.{joined}
use Rattle.hay_directory.specs.Rows.{OpensRows}
use Rattle.hay_logical.specs.Fits.{IsReplica}
use Rattle.hay_logical.specs.Volumes.{Volume}
use Rattle.hay_cluster.specs.Draws.{drawn_in}
use Rattle.hay_cluster.specs.Outside.{outside_of, read_of}
use Rattle.hay_cluster.specs.State.{Holds, VolumeHolds}
use Rattle.hay_cluster.specs.Store.{IsShaped, IsVolumeOf, Open, contents_in, disks_of, volume_disks}
use Rattle.hay_cluster.proofs.ClosingSlots.{disks-long, flat-long}
use Rattle.hay_cluster.proofs.Lists.{AllZip-at, AllZip-long}
use Rattle.hay_cluster.proofs.Moves.{disk_at, volume_of}

-- ITEMS BY THEIR NUMBERS

pub order_get : {X : Type 0} (P : ℕ → X → Type 0) (n : ℕ) (xs : List X) (i m : ℕ) (x : X) → m ≡ n + i → slice_get xs i ≡ Some x → InOrder P n xs → P m x
order_get P n [] i m x is at all = absurd cc
order_get P n (y ∷ xs) zero m x is at all = let here : n ≡ m = omega arith in let same : y ≡ x = cc in subst (λ z. P m z) same (subst (λ k. P k y) here all.0)
order_get P n (y ∷ xs) (suc i) m x is at all = order_get P (n + 1) xs i m x (omega arith) at all.1

pub order_item : {X : Type 0} (xs : List X) (i : ℕ) → i < length xs → (x : X) × (slice_get xs i ≡ Some x)
order_item [] i within = absurd (omega (arith, within))
order_item (x ∷ xs) zero within = (x, refl)
order_item (x ∷ xs) (suc i) within = order_item xs i (let less : i < length xs = omega (arith, within) in less)

pub index_of : {X : Type 0} (f : X → ℕ) (xs : List X) (i : ℕ) (x : X) → slice_get xs i ≡ Some x → slice_index (map f xs) i ≡ f x
index_of f [] i x at = absurd cc
index_of f (y ∷ xs) zero x at = let same : y ≡ x = cc in ap f same
index_of f (y ∷ xs) (suc i) x at = index_of f xs i x at

order_from : {X : Type 0} (all : List X) (n : ℕ) (xs : List X) → ((i : ℕ) (x : X) → slice_get xs i ≡ Some x → slice_get all (n + i) ≡ Some x) → InOrder (λ k x. slice_get all k ≡ Some x) n xs
order_from all n [] f = tt
order_from all n (x ∷ xs) f = (
  (let e : n + 0 ≡ n = omega arith in subst (λ k. slice_get all k ≡ Some x) e (f 0 x refl)),
  order_from all (n + 1) xs (λ i y at. let e : n + suc i ≡ n + 1 + i = omega arith in subst (λ k. slice_get all k ≡ Some y) e (f (suc i) y at)),
)

-- each item stands at its number
pub order_self : {X : Type 0} (xs : List X) → InOrder (λ k x. slice_get xs k ≡ Some x) 0 xs
order_self xs = order_from xs 0 xs (λ i x at. let e : i ≡ 0 + i = omega arith in subst (λ k. slice_get xs k ≡ Some x) e at)

-- the item in a list of lists that are equally long
pub order_flat : {X D : Type 0} (P : ℕ → D → Type 0) (g : X → List D) (r n : ℕ) (xs : List X) (i j m : ℕ) (x : X) (d : D) → AllByRecursion (λ y. length (g y) ≡ r) xs
    → m ≡ n + (i * r + j) → slice_get xs i ≡ Some x → slice_get (g x) j ≡ Some d
    → InOrder P n (flat_map g xs) → P m d
order_flat P g r n [] i j m x d long is at there all = absurd cc
order_flat {X} P g r n (y ∷ xs) zero j m x d long is at there all =
    let same : y ≡ x = cc in
    let here : m ≡ n + j = omega (arith, is) in
    order_get P n (g x) j m d here there (subst (λ (z : X). InOrder P n (g z)) same (InOrder-front P n (g y) (flat_map g xs) all))
order_flat P g r n (y ∷ xs) (suc i) j m x d long is at there all =
    let behind : m ≡ n + length (g y) + (i * r + j) = omega (arith, is, long.0) in
    order_flat P g r (n + length (g y)) xs i j m x d long.1 behind at there (InOrder-rest P n (g y) (flat_map g xs) all)

-- THE DISKS OF A STORE

pub volumes_long : {D P : Type 0} (settings : Settings) (n : ℕ) (vs : List (Volume D P)) → InOrder (IsVolumeOf settings) n vs
    → AllByRecursion (λ volume. length (volume_disks volume) ≡ settings.replicas) vs
volumes_long settings n [] all = tt
volumes_long settings n (volume ∷ vs) all =
    (disks-long volume.replicas ∙ (all.0).all ∙ ap (λ (s : Settings). s.replicas) (all.0).settings_are, volumes_long settings (n + 1) vs all.1)

pub disks_many : {D P A : Type 0} (store : Open D P A) → IsShaped store → length (disks_of store) ≡ disk_count store.settings
disks_many store shape =
    let flat = flat-long volume_disks (store.settings).replicas store.volumes (volumes_long store.settings 0 store.volumes shape.volumes) in
    let product = ap (λ n. n * (store.settings).replicas) shape.many in
    omega (arith, flat, product)

-- what reads of a disk in its slot give
pub contents_at : {D P A : Type 0} (files : D → Files) (store : Open D P A) (slot : ℕ) (disk : D) → slice_get (disks_of store) slot ≡ Some disk
    → ◌≡◌ {A = Contents} (contents_in files store slot) (λ n. (files disk n).now)
contents_at {D} files store slot disk at = let reads : Option D → Contents = λ o n. option_map_or (λ d. (files d n).now) o [] in ap reads at

module _ {D P A : Type 0} (Tells : Type 0) (files : D → Files) (drawn : D → ℕ → ℕ) (faults fuses : D → ℕ) (arm_faults : A → ℕ) (sure : A → Bool) (disks : ℕ → HeldDisk) (arms : ℕ → HeldArm) where
  -- all of a store was given back
  pub record GivesBack (store : Open D P A) : Type 0 where
    pub shape : IsShaped store
    pub disks_are : InOrder (λ slot disk. IsGivenDisk Tells files drawn faults fuses (disks slot) disk) 0 (disks_of store)
    pub arms_are : InOrder (λ lane arm. IsGivenArm arm_faults sure (arms lane) arm) 0 store.arms

  -- the disks behind the first were given back, and then that one and the arms
  pub gives_back : (low mid : ℕ → HeldDisk) (inside store : Open D P A) → inside ≡ store → IsShaped inside
      → InOrder (λ slot disk. IsGivenDisk Tells files drawn faults fuses (low slot) disk) 1 (flat_map volume_disks inside.volumes) → KeepsOthers 0 low mid
      → IsGivenDisk Tells files drawn faults fuses (mid 0) (inside.directory).disk → disks ≡ mid → InOrder (λ lane arm. IsGivenArm arm_faults sure (arms lane) arm) 0 inside.arms → GivesBack store
  gives_back low mid inside store is shape behind others first same given_arms =
      let behind' : InOrder (λ slot disk. IsGivenDisk Tells files drawn faults fuses (mid slot) disk) 1 (flat_map volume_disks inside.volumes) =
      InOrder-map (λ slot disk. IsGivenDisk Tells files drawn faults fuses (low slot) disk) (λ slot disk. IsGivenDisk Tells files drawn faults fuses (mid slot) disk) 1
      (flat_map volume_disks inside.volumes)
      (λ n disk from to given. subst (λ (held : HeldDisk). IsGivenDisk Tells files drawn faults fuses held disk) (sym (others n (λ zeroth. absurd (omega (arith, from, zeroth))))) given) behind in
      let all : InOrder (λ slot disk. IsGivenDisk Tells files drawn faults fuses (disks slot) disk) 0 (disks_of inside) =
      subst (λ (held : ℕ → HeldDisk). InOrder (λ slot disk. IsGivenDisk Tells files drawn faults fuses (held slot) disk) 0 (disks_of inside)) (sym same) (first, behind') in
      subst (λ (st : Open D P A). GivesBack st) is (record { shape = shape; disks_are = all; arms_are = given_arms })

  in_slot : (store : Open D P A) → GivesBack store → (slot : ℕ) → slot < disk_count store.settings
      → (disk : D) × (slice_get (disks_of store) slot ≡ Some disk) × IsGivenDisk Tells files drawn faults fuses (disks slot) disk
  in_slot store g slot below =
      let many = disks_many store g.shape in
      let there = order_item (disks_of store) slot (let less : slot < length (disks_of store) = omega (arith, below, many) in less) in
      let place : slot ≡ 0 + slot = omega arith in
      (there.0, there.1, order_get (λ n disk. IsGivenDisk Tells files drawn faults fuses (disks n) disk) 0 (disks_of store) slot slot there.0 place there.1 g.disks_are)

  in_lane : (store : Open D P A) → GivesBack store → (lane : ℕ) → lane < 8 → (arm : A) × (slice_get store.arms lane ≡ Some arm) × IsGivenArm arm_faults sure (arms lane) arm
  in_lane store g lane below =
      let many = (g.shape).lanes in
      let there = order_item store.arms lane (let less : lane < length store.arms = omega (arith, below, many) in less) in
      let place : lane ≡ 0 + lane = omega arith in
      (there.0, there.1, order_get (λ n arm. IsGivenArm arm_faults sure (arms n) arm) 0 store.arms lane lane there.0 place there.1 g.arms_are)

  pub given_faults : (store : Open D P A) → GivesBack store → (slot : ℕ) → slot < disk_count store.settings → (disks slot).fault_count ≡ slice_index (map faults (disks_of store)) slot
  given_faults store g slot below = let i = in_slot store g slot below in (i.2).fault_count ∙ sym (index_of faults (disks_of store) slot i.0 i.1)

  pub given_fuses : (store : Open D P A) → GivesBack store → (slot : ℕ) → slot < disk_count store.settings → (disks slot).fuse_count ≡ slice_index (map fuses (disks_of store)) slot
  given_fuses store g slot below = let i = in_slot store g slot below in (i.2).fuse_count ∙ sym (index_of fuses (disks_of store) slot i.0 i.1)

  pub given_arms : (store : Open D P A) → GivesBack store → (lane : ℕ) → lane < 8 → (arms lane).fault_count ≡ slice_index (map arm_faults store.arms) lane
  given_arms store g lane below = let i = in_lane store g lane below in (i.2).fault_count ∙ sym (index_of arm_faults store.arms lane i.0 i.1)

  pub given_in : (store : Open D P A) → GivesBack store → (slot : ℕ) → slot < disk_count store.settings → (disks slot).is_out ≡ false
  given_in store g slot below = ((in_slot store g slot below).2).back

  pub given_arms_in : (store : Open D P A) → GivesBack store → (lane : ℕ) → lane < 8 → (arms lane).is_out ≡ false
  given_arms_in store g lane below = ((in_lane store g lane below).2).back

  pub given_sure : (store : Open D P A) → GivesBack store → (lane : ℕ) (arm : A) → slice_get store.arms lane ≡ Some arm → (arms lane).is_sure ≡ sure arm
  given_sure store g lane arm at = let place : lane ≡ 0 + lane = omega arith in (order_get (λ n a. IsGivenArm arm_faults sure (arms n) a) 0 store.arms lane lane arm place at g.arms_are).is_sure

  pub given_contents : Tells → (store : Open D P A) → GivesBack store → (slot : ℕ) → slot < disk_count store.settings → read_of (disks slot) ≡ contents_in files store slot
  given_contents tells store g slot below =
      let i = in_slot store g slot below in
      let reads : Files → Contents = λ f n. (f n).now in
      ap reads ((i.2).files_are tells) ∙ sym (contents_at files store slot i.0 i.1)

  pub given_drawn : Tells → (store : Open D P A) → GivesBack store → (slot : ℕ) → slot < disk_count store.settings → (disks slot).drawn ≡ drawn_in drawn store slot
  given_drawn tells store g slot below =
      let i = in_slot store g slot below in
      let reads : Option D → ℕ → ℕ = λ o n. option_map_or (λ d. drawn d n) o 0 in
      fun_ext (λ n. (i.2).drawn_is tells n) ∙ sym (ap reads i.1)

  volume_found : Tells → (store : Open D P A) → GivesBack store → (k : Known) → AllZip (VolumeHolds files) store.volumes k.volumes → (image : ℕ → Contents)
      → ((slot : ℕ) → slot < disk_count store.settings → MayLeave (disks slot).files (image slot))
      → (v : ℕ) → v < (store.settings).volumes → VolumeOutcome (IsReplica store.settings) store.settings v (volume_at k v) (λ j. image (slot_of store.settings v j))
  volume_found tells store g k holds image may v below =
      let settings = store.settings in
      let many = (g.shape).many in
      let there = order_item store.volumes v (let less : v < length store.volumes = omega (arith, below, many) in less) in
      let x = there.0 in
      let is = volume_of store v x g.shape there.1 in
      let each = volumes_long settings 0 store.volumes (g.shape).volumes in
      let found = AllZip-at (VolumeHolds files) store.volumes k.volumes v x empty_volume there.1 holds (λ j. image (slot_of settings v j)) (λ j r at n.
      let replica : j < settings.replicas =
      (let long : length x.replicas ≡ settings.replicas = is.all ∙ ap (λ (s : Settings). s.replicas) is.settings_are in let low = slice_get_within x.replicas j r at in omega (arith, long, low)) in
      let up : v + 1 ≤ settings.volumes = omega (arith, below) in
      let slot : slot_of settings v j < disk_count settings = (let product = mul-le-mul_left settings.replicas up in omega (arith, product, replica)) in
      let place : slot_of settings v j ≡ 1 + (v * settings.replicas + j) = omega arith in
      let given =
      order_flat (λ n disk. IsGivenDisk Tells files drawn faults fuses (disks n) disk) volume_disks settings.replicas 1 store.volumes v j (slot_of settings v j) x r.disk each
      place there.1 (disk_at x.replicas j r at) (g.disks_are).1 in
      subst (λ (f : Files). IsImage (f n) (image (slot_of settings v j) n)) (given.files_are tells) (may (slot_of settings v j) slot n)) in
      subst (λ n. VolumeOutcome (IsReplica settings) settings n (volume_at k v) (λ j. image (slot_of settings v j))) is.number
      (subst (λ (s : Settings). VolumeOutcome (IsReplica s) s x.number (volume_at k v) (λ j. image (slot_of settings v j))) is.settings_are found)

  pub stands_on : (shelf : ℕ) → Tells → (store : Open D P A) → GivesBack store → (k : Known) → Holds files faults fuses arm_faults store k
      → StandsOn (IsReplica store.settings) (OpensRows store.settings) store.settings k (outside_of shelf disks arms)
  unfolding Holds
  stands_on shelf tells store g k holds = record {
    images = λ image may.
        let first : 0 < disk_count store.settings = omega arith in
        let on_disk : IsImage (files (store.directory).disk 0) (image 0 0) = subst (λ (f : Files). IsImage (f 0) (image 0 0)) ((g.disks_are).0.files_are tells) (may 0 first 0) in
        let row = holds.directory (image 0) on_disk in
        let many : length k.volumes ≡ (store.settings).volumes = sym (AllZip-long (VolumeHolds files) store.volumes k.volumes holds.volumes) ∙ (g.shape).many in
        joined (IsReplica store.settings) store.settings image (OpensRows store.settings) k row.0 many (volume_found tells store g k holds.volumes image may) row.1;
    faults = λ slot below. ap (λ (ns : List ℕ). slice_index ns slot) holds.fault_counts ∙ sym (given_faults store g slot below);
    fuses = λ slot below. ap (λ (ns : List ℕ). slice_index ns slot) holds.fuse_counts ∙ sym (given_fuses store g slot below);
    arms = λ lane below. ap (λ (ns : List ℕ). slice_index ns lane) holds.arm_counts ∙ sym (given_arms store g lane below);
  }
