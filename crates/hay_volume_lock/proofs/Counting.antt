-- The counts of disks by replica.
use Rattle.std.proofs.Common.{◌≡◌, ℕ, zero, suc, ◌+◌, ◌<◌, ◌≤◌, inl, inr, List, [], ◌∷◌, ◌++◌, length, take, drop, refl, sym, ap, subst, ◌∙◌, arith}
use Rattle.std.specs.Prelude.{slice_index_or, slice_set}
use Rattle.std.specs.List.{AllByRecursion as Each}
use Rattle.std.proofs.lemmas.Bool.{cases_lt}
use Rattle.std.proofs.lemmas.List.{get_or_past, length-map}
use Rattle.hay_physical.specs.OpenCopies.{Copy}
use Rattle.hay_logical.specs.Fits.{At}
use Rattle.hay_logical.proofs.Lists.{at_map, at_or, at_there}
use Rattle.hay_volume_lock.specs.Acts.{counts}
use Rattle.hay_volume_lock.specs.Keeping.{count_at}

module _ {D : Type 0} (count : D → ℕ) where
  or_there : (replicas : List (Copy D)) (j d : ℕ) (r : Copy D) → At replicas j r → slice_index_or (counts count replicas) j d ≡ count r.disk
  or_there replicas j d r there = at_or (counts count replicas) j (count r.disk) d (at_map (λ (r : Copy D). count r.disk) replicas j r there)

  or_past : (replicas : List (Copy D)) (j d : ℕ) → length replicas ≤ j → slice_index_or (counts count replicas) j d ≡ d
  or_past replicas j d past = get_or_past (counts count replicas) j d (let e = length-map replicas (λ (r : Copy D). count r.disk) in omega (arith, e))

  pub count_there : (replicas : List (Copy D)) (j : ℕ) (r : Copy D) → At replicas j r → count_at count replicas j ≡ count r.disk
  count_there replicas j r there = or_there replicas j 0 r there

  -- what an act tells of a replica is the count behind it
  pub count_behind : (old new : List (Copy D)) (j before : ℕ) → length new ≡ length old → before ≡ count_at count old j → slice_index_or (counts count new) j before ≡ count_at count new j
  count_behind old new j before same is = elim (cases_lt j (length new)) [
    | inl less ↦ let there = at_there new j less in or_there new j before there.0 there.1 ∙ sym (or_there new j 0 there.0 there.1)
    | inr past ↦ or_past new j before past ∙ is ∙ or_past old j 0 (let h : length old ≤ j = omega arith in h) ∙ sym (or_past new j 0 past)
  ]

  -- what holds of the counts of a replica, and of none, holds at its place
  pub count_one : (old new : List (Copy D)) → length new ≡ length old → (R : ℕ → ℕ → Type 0) → R 0 0 → (j : ℕ)
      → ((r r' : Copy D) → At old j r → At new j r' → R (count r.disk) (count r'.disk)) → R (count_at count old j) (count_at count new j)
  count_one old new same R none j one = elim (cases_lt j (length new)) [
    | inl less ↦
        let was = at_there old j (let h : j < length old = omega arith in h) in
        let is = at_there new j less in
        subst (λ (n : ℕ). R n (count_at count new j)) (sym (count_there old j was.0 was.1))
        (subst (λ (n : ℕ). R (count ((was.0).disk)) n) (sym (count_there new j is.0 is.1)) (one was.0 is.0 was.1 is.1))
    | inr past ↦
        subst (λ (n : ℕ). R n (count_at count new j)) (sym (or_past old j 0 (let h : length old ≤ j = omega arith in h)))
        (subst (λ (n : ℕ). R 0 n) (sym (or_past new j 0 past)) none)
  ]

  pub count_each : (old new : List (Copy D)) → length new ≡ length old → (R : ℕ → ℕ → Type 0) → R 0 0
      → ((j : ℕ) (r r' : Copy D) → At old j r → At new j r' → R (count r.disk) (count r'.disk))
      → (j : ℕ) → R (count_at count old j) (count_at count new j)
  count_each old new same R none each j = count_one old new same R none j (each j)

  -- THE COUNTS, ONE AFTER ANOTHER

  pub take_next : (replicas : List (Copy D)) (j : ℕ) (r : Copy D) → At replicas j r → take (suc j) (counts count replicas) ≡ take j (counts count replicas) ++ count r.disk ∷ []
  take_next [] j r there = absurd cc
  take_next (x ∷ xs) zero r there = let same : x ≡ r = cc in ap (λ (y : Copy D). count y.disk ∷ []) same
  take_next (x ∷ xs) (suc j) r there = ap (λ l. count x.disk ∷ l) (take_next xs j r there)

  -- one more is counted
  pub taken_next : (replicas : List (Copy D)) (j fault : ℕ) (before now : List ℕ) → j < length replicas → ((r : Copy D) → At replicas j r → fault ≡ count r.disk)
      → before ≡ take j (counts count replicas) → now ≡ before ++ fault ∷ [] → now ≡ take (j + 1) (counts count replicas)
  taken_next replicas j fault before now less is taken more =
      let there = at_there replicas j less in
      let next : suc j ≡ j + 1 = omega arith in
      let all : before ++ fault ∷ [] ≡ take j (counts count replicas) ++ count ((there.0).disk) ∷ [] =
      ap (λ l. l ++ fault ∷ []) taken ∙ ap (λ n. take j (counts count replicas) ++ n ∷ []) (is there.0 there.1) in
      let whole : take j (counts count replicas) ++ count ((there.0).disk) ∷ [] ≡ take (j + 1) (counts count replicas) =
      sym (take_next replicas j there.0 there.1) ∙ ap (λ n. take n (counts count replicas)) next in
      more ∙ all ∙ whole

pub take_whole : {A : Type 0} (xs : List A) (n : ℕ) → length xs ≤ n → take n xs ≡ xs
take_whole [] zero all = refl
take_whole [] (suc n) all = refl
take_whole (x ∷ xs) zero all = absurd (omega (arith, all))
take_whole (x ∷ xs) (suc n) all = ap (λ l. x ∷ l) (take_whole xs n (omega (arith, all)))

-- ROWS OF COUNTS

-- what holds of each of a list holds of the one at a place, and with another there
pub each_at : {A : Type 0} (P : A → Type 0) (xs : List A) (j : ℕ) (d : A) → Each P xs → j < length xs → P (slice_index_or xs j d)
each_at P [] j d each less = absurd (omega (arith, less))
each_at P (x ∷ xs) zero d each less = each.0
each_at P (x ∷ xs) (suc j) d each less = each_at P xs j d each.1 (omega (arith, less))

pub each_set : {A : Type 0} (P : A → Type 0) (xs : List A) (j : ℕ) (x : A) → Each P xs → P x → Each P (slice_set xs j x)
each_set P [] j x each is = tt
each_set P (y ∷ xs) zero x each is = (is, each.1)
each_set P (y ∷ xs) (suc j) x each is = (each.0, each_set P xs j x each.1 is)

-- ONE AFTER ANOTHER

-- where two lists have the same rest, the next ones are the same, and the rest behind them with another there
pub next_same : {A : Type 0} (xs ys : List A) (i : ℕ) (d : A) → length xs ≡ length ys → i < length ys → drop i xs ≡ drop i ys → slice_index_or xs i d ≡ slice_index_or ys i d
next_same xs [] i d long less same = absurd (omega (arith, less))
next_same [] (y ∷ ys) i d long less same = absurd (omega (arith, long))
next_same (x ∷ xs) (y ∷ ys) zero d long less same = cc same
next_same (x ∷ xs) (y ∷ ys) (suc i) d long less same = next_same xs ys i d (omega (arith, long)) (omega (arith, less)) same

pub rest_same : {A : Type 0} (xs ys : List A) (i : ℕ) (x : A) → length xs ≡ length ys → i < length ys → drop i xs ≡ drop i ys → drop (suc i) (slice_set xs i x) ≡ drop (suc i) ys
rest_same xs [] i x long less same = absurd (omega (arith, less))
rest_same [] (y ∷ ys) i x long less same = absurd (omega (arith, long))
rest_same (z ∷ zs) (y ∷ ys) zero x long less same = cc same
rest_same (z ∷ zs) (y ∷ ys) (suc i) x long less same = rest_same zs ys i x (omega (arith, long)) (omega (arith, less)) same

pub each_next : {A : Type 0} (P : A → Type 0) (xs : List A) (i : ℕ) (d : A) → i < length xs → Each P (take i xs) → P (slice_index_or xs i d) → Each P (take (suc i) xs)
each_next P [] i d less each is = absurd (omega (arith, less))
each_next P (x ∷ xs) zero d less each is = (is, tt)
each_next P (x ∷ xs) (suc i) d less each is = (each.0, each_next P xs i d (omega (arith, less)) each.1 is)
