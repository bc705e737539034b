-- The counts of a store's disks, which its volumes and its Directory have by slot.
use Rattle.std.proofs.Common.{◌≡◌, ◌<◌, ◌+◌, ℕ, zero, suc, List, [], ◌∷◌, ◌++◌, map, length, refl, sym, ap, subst, ◌∙◌, arith, Some, flat_map}
use Rattle.std.specs.Prelude.{slice_get, slice_index_or}
use Rattle.std.specs.List.{AllByRecursion as Each, AllZip, range_with_len}
use Rattle.std.proofs.lemmas.List.{length-map, map-append}
use Rattle.hay_needle.specs.declared.settings.Settings.{Settings}
use Rattle.hay_physical.specs.OpenCopies.{Copy}
use Rattle.hay_logical.specs.Volumes.{Volume}
use Rattle.hay_directory.specs.State.{State}
use Rattle.hay_block.specs.Stores.{by_slot}
use Rattle.hay_shared_volume.specs.Making.{count_of}
use Rattle.hay_locks.specs.Making.{rows_count_of}
use Rattle.hay_cluster.specs.Store.{disk_of, volume_disks}

-- LISTS

pub zip_append : {X Y : Type 0} (R : X → Y → Type 0) (xs : List X) (ys : List Y) (us : List X) (vs : List Y) → AllZip R xs ys → AllZip R us vs → AllZip R (xs ++ us) (ys ++ vs)
zip_append R [] [] us vs first rest = rest
zip_append R [] (y ∷ ys) us vs first rest = absurd first
zip_append R (x ∷ xs) [] us vs first rest = absurd first
zip_append R (x ∷ xs) (y ∷ ys) us vs first rest = (first.0, zip_append R xs ys us vs first.1 rest)

pub each_last : {X : Type 0} (P : X → Type 0) (xs : List X) (x : X) → Each P xs → P x → Each P (xs ++ x ∷ [])
each_last P [] x each one = (one, tt)
each_last P (y ∷ xs) x each one = (each.0, each_last P xs x each.1 one)

zip_same : {X : Type 0} (xs ys : List X) → AllZip ◌≡◌ xs ys → xs ≡ ys
zip_same [] [] all = refl
zip_same [] (y ∷ ys) all = absurd all
zip_same (x ∷ xs) [] all = absurd all
zip_same (x ∷ xs) (y ∷ ys) all = ap (λ z. z ∷ xs) all.0 ∙ ap (λ z. y ∷ z) (zip_same xs ys all.1)

-- a list is what stands at its places
listed : (f : ℕ → ℕ) (a : ℕ) (xs : List ℕ) → ((i j : ℕ) → i < length xs → j ≡ a + i → f j ≡ slice_index_or xs i 0) → map f (range_with_len a (length xs)) ≡ xs
listed f a [] by = refl
listed f a (x ∷ xs) by =
    ap (λ z. z ∷ map f (range_with_len (a + 1) (length xs))) (by 0 a (omega arith) (omega arith))
    ∙ ap (λ z. x ∷ z) (listed f (a + 1) xs (λ i j below e. by (suc i) j (omega (arith, below)) (omega (arith, e))))

-- two lists of the same places
zip_range : (R : ℕ → ℕ → Type 0) (f g : ℕ → ℕ) (a n : ℕ) → ((j : ℕ) → j < a + n → R (f j) (g j)) → AllZip R (map f (range_with_len a n)) (map g (range_with_len a n))
zip_range R f g a zero by = tt
zip_range R f g a (suc n) by = (by a (omega arith), zip_range R f g (a + 1) n (λ j below. by j (omega (arith, below))))

-- BY SLOT

disks_counted : {D : Type 0} (count : D → ℕ) (replicas : List (Copy D)) → map (λ r. count r.disk) replicas ≡ map count (map disk_of replicas)
disks_counted count [] = refl
disks_counted count (r ∷ replicas) = ap (λ z. count r.disk ∷ z) (disks_counted count replicas)

module _ {D P : Type 0} (count : D → ℕ) where
  one_row : (volume : Volume D P) (n : ℕ) → length volume.replicas ≡ n → map (count_of count volume) (range_with_len 0 n) ≡ map count (volume_disks volume)
  one_row volume n long =
      let xs : List ℕ = map (λ (r : Copy D). count r.disk) volume.replicas in
      let wide : length xs ≡ n = length-map volume.replicas (λ (r : Copy D). count r.disk) ∙ long in
      subst (λ m. map (count_of count volume) (range_with_len 0 m) ≡ xs) wide
      (listed (count_of count volume) 0 xs (λ i j below e. ap (λ m. slice_index_or xs m 0) (let same : j ≡ i = omega (arith, e) in same)))
      ∙ disks_counted count volume.replicas

  rows_of : (n : ℕ) (volumes : List (Volume D P)) → Each (λ volume. length volume.replicas ≡ n) volumes
      → flat_map (λ volume. map (count_of count volume) (range_with_len 0 n)) volumes ≡ map count (flat_map volume_disks volumes)
  rows_of n [] all = refl
  rows_of n (volume ∷ volumes) all =
      ap (λ z. z ++ flat_map (λ (v : Volume D P). map (count_of count v) (range_with_len 0 n)) volumes) (one_row volume n all.0)
      ∙ (ap (λ z. map count (volume_disks volume) ++ z) (rows_of n volumes all.1) ∙ sym (map-append count (volume_disks volume) (flat_map volume_disks volumes)))

  -- the counts by slot are those of the disks
  pub slots : (settings : Settings) (directory : State D) (volumes : List (Volume D P)) → Each (λ volume. length volume.replicas ≡ settings.replicas) volumes
      → by_slot settings (rows_count_of count directory) (count_of count) volumes ≡ map count (directory.disk ∷ flat_map volume_disks volumes)
  slots settings directory volumes all = ap (λ z. count directory.disk ∷ z) (rows_of settings.replicas volumes all)

module _ {W : Type 0} (R : ℕ → ℕ → Type 0) (counts : W → ℕ → ℕ) (n : ℕ) where
  rows_zip : (old new : List W) → length new ≡ length old
      → ((v j : ℕ) (a b : W) → slice_get old v ≡ Some a → slice_get new v ≡ Some b → j < n → R (counts a j) (counts b j))
      → AllZip R (flat_map (λ w. map (counts w) (range_with_len 0 n)) old) (flat_map (λ w. map (counts w) (range_with_len 0 n)) new)
  rows_zip [] [] many by = tt
  rows_zip [] (b ∷ new) many by = absurd (omega (arith, many))
  rows_zip (a ∷ old) [] many by = absurd (omega (arith, many))
  rows_zip (a ∷ old) (b ∷ new) many by =
      let less : length new ≡ length old = omega (arith, many) in
      zip_append R (map (counts a) (range_with_len 0 n)) (map (counts b) (range_with_len 0 n)) (flat_map (λ w. map (counts w) (range_with_len 0 n)) old)
      (flat_map (λ w. map (counts w) (range_with_len 0 n)) new)
      (zip_range R (counts a) (counts b) 0 n (λ j below. by 0 j a b refl refl (omega (arith, below))))
      (rows_zip old new less (λ v j x y at_x at_y below. by (suc v) j x y at_x at_y below))

-- so are two stores' counts by slot, where they are so at each place
pub slots_zip : {W : Type 0} (R : ℕ → ℕ → Type 0) (counts : W → ℕ → ℕ) (settings : Settings) (rows after : ℕ) (old new : List W) → length new ≡ length old → R rows after
    → ((v j : ℕ) (a b : W) → slice_get old v ≡ Some a → slice_get new v ≡ Some b → j < settings.replicas → R (counts a j) (counts b j))
    → AllZip R (by_slot settings rows counts old) (by_slot settings after counts new)
slots_zip R counts settings rows after old new many first by = (first, rows_zip R counts settings.replicas old new many by)

pub slots_same : {W : Type 0} (counts : W → ℕ → ℕ) (settings : Settings) (rows after : ℕ) (old new : List W) → length new ≡ length old → after ≡ rows
    → ((v j : ℕ) (a b : W) → slice_get old v ≡ Some a → slice_get new v ≡ Some b → j < settings.replicas → counts b j ≡ counts a j)
    → by_slot settings after counts new ≡ by_slot settings rows counts old
slots_same counts settings rows after old new many first by =
    sym (zip_same (by_slot settings rows counts old) (by_slot settings after counts new)
    (slots_zip ◌≡◌ counts settings rows after old new many (sym first) (λ v j a b at_a at_b below. sym (by v j a b at_a at_b below))))
