-- Counts of disks by slot.
use Rattle.std.proofs.Common.{◌≡◌, ◌<◌, ◌+◌, ◌*◌, ◌++◌, ℕ, zero, suc, List, [], ◌∷◌, map, length, refl, ap, ◌∙◌, arith, Some, slice_get, length-append}
use Rattle.std.specs.Prelude.{slice_index}
use Rattle.std.specs.List.{AllByRecursion as Each, flat_map, range_with_len}
use Rattle.std.proofs.lemmas.List.{length-map}
use Rattle.std.proofs.lemmas.List.FromFn.{get_or-map-range_with_len, length-range_with_len}
use Rattle.hay_needle.specs.declared.settings.Settings.{Settings}
use Rattle.hay_legal.specs.Known.{replicas_of, slot_of}
use Rattle.hay_block.specs.Behind.{AreBySlot}
use Rattle.hay_block.specs.Stores.{by_slot}

-- an item of two lists, one behind the other
pub index_front : (xs ys : List ℕ) (i : ℕ) → i < length xs → slice_index (xs ++ ys) i ≡ slice_index xs i
index_front [] ys i below = absurd (omega (arith, below))
index_front (x ∷ xs) ys zero below = refl
index_front (x ∷ xs) ys (suc i) below = index_front xs ys i (let less : i < length xs = omega (arith, below) in less)

pub index_back : (xs ys : List ℕ) (i n : ℕ) → n ≡ length xs + i → slice_index (xs ++ ys) n ≡ slice_index ys i
index_back [] ys i n e = ap (slice_index ys) (let same : n ≡ i = omega (arith, e) in same)
index_back (x ∷ xs) ys i zero e = absurd (omega (arith, e))
index_back (x ∷ xs) ys i (suc n) e = index_back xs ys i n (let less : n ≡ length xs + i = omega (arith, e) in less)

module _ {W : Type 0} (counts : W → ℕ → ℕ) (r : ℕ) where
  abbrev row : W → List ℕ
  row w = map (counts w) (range_with_len 0 r)

  long : (w : W) → length (row w) ≡ r
  long w = length-map (range_with_len 0 r) (counts w) ∙ length-range_with_len 0 r

  rows_long : (ws : List W) → length (flat_map row ws) ≡ length ws * r
  rows_long [] = omega arith
  rows_long (w ∷ ws) = let rest = rows_long ws in let l = length-append (row w) (flat_map row ws) in let k = long w in omega (arith, rest, l, k)

  row_at : (ws : List W) (v j n : ℕ) (w : W) → slice_get ws v ≡ Some w → j < r → n ≡ v * r + j → slice_index (flat_map row ws) n ≡ counts w j
  row_at [] v j n w at below e = absurd cc
  row_at (x ∷ ws) zero j n w at below e =
      let same : x ≡ w = cc at in
      let here : n ≡ j = omega (arith, e) in
      let k = long x in
      ap (slice_index (row x ++ flat_map row ws)) here
      ∙ (index_front (row x) (flat_map row ws) j (omega (arith, below, k))
      ∙ (get_or-map-range_with_len (counts x) 0 r j j 0 below (omega arith) ∙ ap (λ z. counts z j) same))
  row_at (x ∷ ws) (suc v) j n w at below e =
      let k = long x in
      index_back (row x) (flat_map row ws) (v * r + j) n (omega (arith, e, k)) ∙ row_at ws v j (v * r + j) w at below refl

-- the counts of a store are by slot
pub slots_are : {W : Type 0} (settings : Settings) (rows : ℕ) (counts : W → ℕ → ℕ) (of : ℕ → ℕ → ℕ) (volumes : List W) → length volumes ≡ settings.volumes
    → ((v j : ℕ) (w : W) → slice_get volumes v ≡ Some w → j < settings.replicas → counts w j ≡ of v j)
    → ((v : ℕ) → v < settings.volumes → (w : W) × (slice_get volumes v ≡ Some w))
    → AreBySlot settings rows of (by_slot settings rows counts volumes)
slots_are settings rows counts of volumes many each there = record {
  many = let l = rows_long counts settings.replicas volumes in
      let m : length volumes * settings.replicas ≡ settings.volumes * settings.replicas = ap (λ n. n * settings.replicas) many in omega (arith, l, m);
  first = refl;
  replicas = λ v j below within.
      let w = there v below in
      index_back (rows ∷ []) (flat_map (row counts settings.replicas) volumes) (v * settings.replicas + j) (slot_of settings v j) (omega arith)
      ∙ (row_at counts settings.replicas volumes v j (v * settings.replicas + j) w.0 w.1 within refl ∙ each v j w.0 w.1 within);
}

-- what holds of each count holds of all by slot
pub each_slot : {W : Type 0} (P : ℕ → Type 0) (settings : Settings) (rows : ℕ) (counts : W → ℕ → ℕ) (volumes : List W) → P rows
    → ((v j : ℕ) (w : W) → slice_get volumes v ≡ Some w → j < settings.replicas → P (counts w j)) → Each P (by_slot settings rows counts volumes)
each_slot {W} P settings rows counts volumes first each = (first, all volumes each)
  where
    appended : (xs ys : List ℕ) → Each P xs → Each P ys → Each P (xs ++ ys)
    appended [] ys a b = b
    appended (x ∷ xs) ys a b = (a.0, appended xs ys a.1 b)

    in_row : (w : W) (a n : ℕ) → ((j : ℕ) → j < a + n → P (counts w j)) → Each P (map (counts w) (range_with_len a n))
    in_row w a zero by = tt
    in_row w a (suc n) by = (by a (omega arith), in_row w (a + 1) n (λ j less. by j (omega (arith, less))))

    all : (ws : List W) → ((v j : ℕ) (w : W) → slice_get ws v ≡ Some w → j < settings.replicas → P (counts w j)) → Each P (flat_map (λ w. map (counts w) (replicas_of settings)) ws)
    all [] by = tt
    all (w ∷ ws) by = appended (map (counts w) (replicas_of settings)) (flat_map (λ z. map (counts z) (replicas_of settings)) ws)
        (in_row w 0 settings.replicas (λ j less. by 0 j w refl (omega (arith, less)))) (all ws (λ v j z at less. by (suc v) j z at less))
