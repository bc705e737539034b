-- Volumes that get their replicas, of disks and files in lists that are turned round.
use Rattle.std.proofs.Common.{◌≡◌, ◌≢◌, inl, inr, ◌<◌, ◌≤◌, ◌+◌, ◌-◌, ◌*◌, ℕ, zero, suc, List, [], ◌∷◌, ◌++◌, length, drop, refl, sym, ap, subst, ◌∙◌, arith, length-append, length-drop}
use Rattle.std.proofs.Math.Nat.{mul-le-mul_left}
use Rattle.std.specs.Prelude.{slice_set, reverse}
use Rattle.std.proofs.lemmas.Bool.{cases_lt}
use Rattle.std.proofs.lemmas.List.{drop_all, reverse-append, reverse-reverse, length-reverse}
use Rattle.hay_volume.specs.declared.volume.VolumeFile.{VolumeFile}
use Rattle.hay_batch.specs.declared.replica.LoadReplica.{LoadReplica}
use Rattle.hay_batch.specs.declared.store.LoadVolume.{LoadVolume}
use Rattle.hay_batch.specs.Filling.{Fills, FillsAll, IsEmpty}
use Rattle.hay_batch.specs.Replicas.{At}
use Rattle.hay_batch.proofs.Lists.{at_below, at_either, at_same, at_set_other, at_set_same, length-slice_set}

-- PLACES BEHIND OTHERS

-- a last item is the first when all are turned round
pub turned_last : {X : Type 0} (all rest : List X) (x : X) → all ≡ rest ++ x ∷ [] → reverse all ≡ x ∷ reverse rest
turned_last {X} all rest x is = ap (λ (l : List X). reverse l) is ∙ reverse-append rest (x ∷ [])

pub drop_here : {X : Type 0} (n : ℕ) (xs ys : List X) (x : X) → x ∷ ys ≡ drop n xs → At xs n x
drop_here zero [] ys x is = absurd cc
drop_here zero (z ∷ xs) ys x is = cc
drop_here (suc n) [] ys x is = absurd cc
drop_here (suc n) (z ∷ xs) ys x is = drop_here n xs ys x is

pub drop_next : {X : Type 0} (n : ℕ) (xs ys : List X) (x : X) → x ∷ ys ≡ drop n xs → ys ≡ drop (n + 1) xs
drop_next zero [] ys x is = absurd cc
drop_next zero (z ∷ xs) ys x is = cc
drop_next (suc n) [] ys x is = absurd cc
drop_next (suc n) (z ∷ xs) ys x is = drop_next n xs ys x is ∙ ap (λ k. drop k (z ∷ xs)) (let e : suc (n + 1) ≡ suc n + 1 = omega arith in e)

pub at_behind : {X : Type 0} (k : ℕ) (xs : List X) (j : ℕ) (x : X) → At (drop k xs) j x → At xs (k + j) x
at_behind zero xs j x at = subst (λ i. At xs i x) (let e : j ≡ 0 + j = omega arith in e) at
at_behind (suc k) [] j x at = absurd (let nothing = at_below [] j x at in omega (arith, nothing))
at_behind (suc k) (y ∷ xs) j x at = subst (λ i. At (y ∷ xs) i x) (let e : suc (k + j) ≡ suc k + j = omega arith in e) (at_behind k xs j x at)

pub drop_drop : {X : Type 0} (n m : ℕ) (xs : List X) → drop n (drop m xs) ≡ drop (m + n) xs
drop_drop n zero xs = ap (λ k. drop k xs) (let e : n ≡ 0 + n = omega arith in e)
drop_drop n (suc m) [] = drop_all n [] (omega arith) ∙ sym (drop_all (suc m + n) [] (omega arith))
drop_drop n (suc m) (x ∷ xs) = drop_drop n m xs ∙ ap (λ k. drop k (x ∷ xs)) (let e : suc (m + n) ≡ suc m + n = omega arith in e)

-- A VOLUME

-- it got the first n, and the others are left
pub record Filling {D : Type 0} (n : ℕ) (disks rest : List D) (files behind : List VolumeFile) (volume : LoadVolume D) : Type 0 where
  pub filled : Fills n disks files 0 volume
  pub left : reverse rest ≡ drop n disks
  pub unread : reverse behind ≡ drop n files

pub filling_none : {D : Type 0} (replicas : ℕ) (rest : List D) (behind : List VolumeFile) (volume : LoadVolume D) → IsEmpty replicas volume
    → Filling 0 (reverse rest) rest (reverse behind) behind volume
filling_none {D} replicas rest behind volume empty =
    let no : (j : ℕ) (r : LoadReplica D) → At volume.replicas.items j r → ⊥ =
    λ j r at. let below = at_below volume.replicas.items j r at in let e = ap (λ (l : List (LoadReplica D)). length l) empty.none in omega (arith, below, e) in
    record {
      filled = record { many = ap (λ (l : List (LoadReplica D)). length l) empty.none; disk = λ j r at. absurd (no j r at); file = λ j r at. absurd (no j r at) };
      left = refl;
      unread = refl;
    }

pub filling_more : {D : Type 0} (n : ℕ) (disks rest rest' : List D) (files behind behind' : List VolumeFile) (volume volume' : LoadVolume D) (r : LoadReplica D)
    → Filling n disks rest files behind volume
    → rest ≡ rest' ++ r.disk ∷ [] → behind ≡ behind' ++ r.volume ∷ [] → volume'.replicas.items ≡ volume.replicas.items ++ r ∷ [] → Filling (n + 1) disks rest' files behind' volume'
filling_more {D} n disks rest rest' files behind behind' volume volume' r f disk file longer =
    let first : r.disk ∷ reverse rest' ≡ drop n disks = sym (turned_last rest rest' r.disk disk) ∙ f.left in
    let second : r.volume ∷ reverse behind' ≡ drop n files = sym (turned_last behind behind' r.volume file) ∙ f.unread in
    let many = f.filled.many in
    let either = λ (j : ℕ) (x : LoadReplica D) (at : At volume'.replicas.items j x). at_either volume.replicas.items r j x (subst (λ (l : List (LoadReplica D)). At l j x) longer at) in
    record {
      filled = record {
        many = (let e = ap (λ (l : List (LoadReplica D)). length l) longer ∙ length-append volume.replicas.items (r ∷ []) in omega (arith, e, many));
        disk = λ j x at. elim (either j x at) [
          | inl h ↦ f.filled.disk j x h
          | inr h ↦ let here : n ≡ 0 + j =
              (let e = h.0 in omega (arith, e, many)) in subst (λ i. At disks i x.disk) here (subst (λ (y : LoadReplica D). At disks n y.disk) (sym h.1)
              (drop_here n disks (reverse rest') r.disk first))
        ];
        file = λ j x at. elim (either j x at) [
          | inl h ↦ f.filled.file j x h
          | inr h ↦ let here : n ≡ 0 + j =
              (let e = h.0 in omega (arith, e, many)) in subst (λ i. At files i x.volume) here (subst (λ (y : LoadReplica D). At files n y.volume) (sym h.1)
              (drop_here n files (reverse behind') r.volume second))
        ];
      };
      left = drop_next n disks (reverse rest') r.disk first;
      unread = drop_next n files (reverse behind') r.volume second;
    }

-- in lists of which these are the rest
pub fills_behind : {D : Type 0} (replicas place : ℕ) (disks : List D) (files : List VolumeFile) (front : List D) (before : List VolumeFile) (volume : LoadVolume D)
    → front ≡ drop place disks → before ≡ drop place files
    → Fills replicas front before 0 volume → Fills replicas disks files place volume
fills_behind {D} replicas place disks files front before volume disk file f = record {
  many = f.many;
  disk = λ j r at. at_behind place disks j r.disk (subst (λ (l : List D). At l j r.disk) disk (let e : 0 + j ≡ j = omega arith in subst (λ i. At front i r.disk) e (f.disk j r at)));
  file = λ j r at. at_behind place files j r.volume (subst (λ (l : List VolumeFile). At l j r.volume) file (let e : 0 + j ≡ j = omega arith in subst (λ i. At before i r.volume) e (f.file j r at)));
}

-- ALL VOLUMES

-- the first n volumes got theirs, and the others are as they were
pub record FillsFirst {D : Type 0} (replicas n : ℕ) (disks rest : List D) (files behind : List VolumeFile) (old new : List (LoadVolume D)) : Type 0 where
  pub count : length new ≡ length old
  pub done : (v : ℕ) (w : LoadVolume D) → v < n → At new v w → Fills replicas disks files (v * replicas) w
  pub later : (v : ℕ) (w : LoadVolume D) → n ≤ v → At new v w → At old v w
  pub left : reverse rest ≡ drop (n * replicas) disks
  pub unread : reverse behind ≡ drop (n * replicas) files

pub fills_none : {D : Type 0} (replicas : ℕ) (rest : List D) (behind : List VolumeFile) (volumes : List (LoadVolume D))
    → FillsFirst replicas 0 (reverse rest) rest (reverse behind) behind volumes volumes
fills_none {D} replicas rest behind volumes = record {
  count = refl;
  done = λ v w below at. absurd (omega (arith, below));
  later = λ v w from at. at;
  left = (let e : 0 ≡ 0 * replicas = omega arith in ap (λ k. drop k (reverse rest)) e);
  unread = (let e : 0 ≡ 0 * replicas = omega arith in ap (λ k. drop k (reverse behind)) e);
}

pub fills_more : {D : Type 0} (replicas n : ℕ) (disks rest rest' : List D) (files behind behind' : List VolumeFile) (old new : List (LoadVolume D)) (w w' : LoadVolume D)
    → FillsFirst replicas n disks rest files behind old new → At new n w
    → Fills replicas (reverse rest) (reverse behind) 0 w' → reverse rest' ≡ drop replicas (reverse rest) → reverse behind' ≡ drop replicas (reverse behind)
    → FillsFirst replicas (n + 1) disks rest' files behind' old (slice_set new n w')
fills_more {D} replicas n disks rest rest' files behind behind' old new w w' f at filled less fewer =
    let below = at_below new n w at in
    let next : n * replicas + replicas ≡ (n + 1) * replicas = omega arith in
    record {
      count = length-slice_set new n w' ∙ f.count;
      done = λ v x low there. elim (cases_lt v n) [
        | inl under ↦ f.done v x under (let apart : v ≢ n = omega (arith, under) in sym (at_set_other new v n w' apart) ∙ there)
        | inr most ↦
            let same : v ≡ n = omega (arith, low, most) in
            let is : x ≡ w' = at_same (slice_set new n w') n x w' (subst (λ i. At (slice_set new n w') i x) same there) (at_set_same new n w' below) in
            subst (λ k. Fills replicas disks files (k * replicas) x) (sym same)
            (subst (λ (y : LoadVolume D). Fills replicas disks files (n * replicas) y) (sym is)
            (fills_behind replicas (n * replicas) disks files (reverse rest) (reverse behind) w' f.left f.unread filled))
      ];
      later = λ v x from there.
          let apart : v ≢ n = omega (arith, from) in
          let after : n ≤ v = omega (arith, from) in
          f.later v x after (sym (at_set_other new v n w' apart) ∙ there);
      left = less ∙ ap (λ (l : List D). drop replicas l) f.left ∙ drop_drop replicas (n * replicas) disks ∙ ap (λ k. drop k disks) next;
      unread = fewer ∙ ap (λ (l : List VolumeFile). drop replicas l) f.unread ∙ drop_drop replicas (n * replicas) files ∙ ap (λ k. drop k files) next;
    }

pub fills_all : {D : Type 0} (replicas n : ℕ) (disks rest : List D) (files behind : List VolumeFile) (old new : List (LoadVolume D))
    → FillsFirst replicas n disks rest files behind old new → length old ≤ n → FillsAll replicas disks files new
fills_all {D} replicas n disks rest files behind old new f all v w at = f.done v w (let below = at_below new v w at in omega (arith, below, f.count, all)) at

-- LISTS THAT ARE TURNED ROUND

-- the list whose last item, when it is turned round, was the first
pub first_turned : {X : Type 0} (all back rest : List X) (x : X) → back ≡ reverse all → back ≡ rest ++ x ∷ [] → all ≡ x ∷ reverse rest
first_turned {X} all back rest x turned split = sym (ap (λ (l : List X). reverse l) turned ∙ reverse-reverse all) ∙ turned_last back rest x split

-- how many are left
pub enough_left : {X : Type 0} (replicas n volumes : ℕ) (all rest : List X) → reverse rest ≡ drop (n * replicas) (reverse all) → n < volumes → volumes * replicas ≤ length all → replicas ≤ length rest
enough_left {X} replicas n volumes all rest is next most =
    let long : length rest ≡ length all - n * replicas =
    sym (length-reverse rest) ∙ ap (λ (l : List X). length l) is ∙ length-drop (n * replicas) (reverse all) ∙ ap (λ k. k - n * replicas) (length-reverse all) in
    let up : n + 1 ≤ volumes = omega (arith, next) in
    let product = mul-le-mul_left replicas up in
    omega (arith, long, product, most)

pub at_next : {X : Type 0} (x : X) (xs : List X) (place : ℕ) (y : X) → At xs place y → At (x ∷ xs) (place + 1) y
at_next x xs place y at = let e : suc place ≡ place + 1 = omega arith in subst (λ i. At (x ∷ xs) i y) e at
