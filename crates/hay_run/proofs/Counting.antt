-- Counts that never fall.
use Rattle.std.proofs.Common.{◌≡◌, inl, inr, ℕ, zero, suc, ◌<◌, ◌≤◌, Bool, true, List, [], ◌∷◌, length, map, Some, refl, sym, ap, subst, ◌∙◌, arith}
use Rattle.std.specs.Prelude.{slice_get, slice_index}
use Rattle.hay_disk.specs.Counts.{Rose, StaysSure}
use Rattle.hay_legal.specs.Known.{NoneFalls}
use Rattle.hay_cluster.specs.Causes.{StaySure}

pub NoneFalls-same : (counts : List ℕ) → NoneFalls counts counts
NoneFalls-same [] = tt
NoneFalls-same (count ∷ counts) = (omega arith, NoneFalls-same counts)

-- the same counts
pub NoneFalls-kept : (a b : List ℕ) → b ≡ a → NoneFalls a b
NoneFalls-kept a b same = subst (λ (counts : List ℕ). NoneFalls a counts) (sym same) (NoneFalls-same a)

pub NoneFalls-more : (a b c : List ℕ) → NoneFalls a b → NoneFalls b c → NoneFalls a c
NoneFalls-more [] [] [] h k = tt
NoneFalls-more (x ∷ a) (y ∷ b) (z ∷ c) h k = (omega (arith, h.0, k.0), NoneFalls-more a b c h.1 k.1)
NoneFalls-more [] [] (z ∷ c) h k = absurd k
NoneFalls-more [] (y ∷ b) c h k = absurd h
NoneFalls-more (x ∷ a) [] c h k = absurd h
NoneFalls-more (x ∷ a) (y ∷ b) [] h k = absurd k

pub NoneFalls-at : (a b : List ℕ) (i : ℕ) → NoneFalls a b → slice_index a i ≤ slice_index b i
NoneFalls-at [] [] i h = omega arith
NoneFalls-at (x ∷ a) (y ∷ b) zero h = h.0
NoneFalls-at (x ∷ a) (y ∷ b) (suc i) h = NoneFalls-at a b i h.1
NoneFalls-at [] (y ∷ b) i h = absurd h
NoneFalls-at (x ∷ a) [] i h = absurd h

pub rose_more : (a b c : ℕ) → a ≤ b → Rose b c → Rose a c
rose_more a b c h (inl less) = inl (omega arith)
rose_more a b c h (inr most) = inr most

-- arms that stay sure

pub sure_more : {A : Type 0} (is_sure : A → Bool) (faults : A → ℕ) (a b c : List A) → StaySure is_sure faults a b → StaySure is_sure faults b c → StaySure is_sure faults a c
sure_more is_sure faults [] [] [] h k = tt
sure_more is_sure faults (x ∷ a) (y ∷ b) (z ∷ c) h k = (λ is. let first = h.0 is in let next = k.0 first.0 in (next.0, next.1 ∙ first.1), sure_more is_sure faults a b c h.1 k.1)
sure_more is_sure faults [] [] (z ∷ c) h k = absurd k
sure_more is_sure faults [] (y ∷ b) c h k = absurd h
sure_more is_sure faults (x ∷ a) [] c h k = absurd h
sure_more is_sure faults (x ∷ a) (y ∷ b) [] h k = absurd k

-- which arms are sure
pub StaySure-lanes : {A : Type 0} (is_sure : A → Bool) (faults : A → ℕ) (a b : List A) → StaySure is_sure faults a b
    → (lane : ℕ) → slice_get (map is_sure a) lane ≡ Some true → slice_get (map is_sure b) lane ≡ Some true
StaySure-lanes is_sure faults [] [] h lane is = absurd cc
StaySure-lanes is_sure faults (x ∷ a) (y ∷ b) h zero is = let sure : is_sure x ≡ true = cc in ap (λ s. Some s) (h.0 sure).0
StaySure-lanes is_sure faults (x ∷ a) (y ∷ b) h (suc lane) is = StaySure-lanes is_sure faults a b h.1 lane is
StaySure-lanes is_sure faults [] (y ∷ b) h lane is = absurd h
StaySure-lanes is_sure faults (x ∷ a) [] h lane is = absurd h

pub lane_of : {A : Type 0} (is_sure : A → Bool) (arms : List A) (lane : ℕ) (arm : A) → slice_get arms lane ≡ Some arm → is_sure arm ≡ true → slice_get (map is_sure arms) lane ≡ Some true
lane_of is_sure [] lane arm there is = absurd cc
lane_of is_sure (x ∷ arms) zero arm there is = let same : x ≡ arm = cc in ap (λ s. Some s) (ap is_sure same ∙ is)
lane_of is_sure (x ∷ arms) (suc lane) arm there is = lane_of is_sure arms lane arm there is

-- the arm of a lane
pub sure_at : {A : Type 0} (is_sure : A → Bool) (faults : A → ℕ) (a b : List A) (lane : ℕ) (old : A) → StaySure is_sure faults a b → slice_get a lane ≡ Some old
    → (new : A) × (slice_get b lane ≡ Some new) × StaysSure (is_sure old) (is_sure new) (faults old) (faults new)
sure_at is_sure faults [] [] lane old h there = absurd cc
sure_at {A} is_sure faults (x ∷ a) (y ∷ b) zero old h there =
    let same : x ≡ old = cc in (y, refl, subst (λ (z : A). StaysSure (is_sure z) (is_sure y) (faults z) (faults y)) same h.0)
sure_at is_sure faults (x ∷ a) (y ∷ b) (suc lane) old h there = sure_at is_sure faults a b lane old h.1 there
sure_at is_sure faults [] (y ∷ b) lane old h there = absurd h
sure_at is_sure faults (x ∷ a) [] lane old h there = absurd h

pub count_at : {A : Type 0} (faults : A → ℕ) (arms : List A) (lane : ℕ) (arm : A) → slice_get arms lane ≡ Some arm → slice_index (map faults arms) lane ≡ faults arm
count_at faults [] lane arm there = absurd cc
count_at faults (x ∷ arms) zero arm there = let same : x ≡ arm = cc in ap faults same
count_at faults (x ∷ arms) (suc lane) arm there = count_at faults arms lane arm there

pub arm_there : {A : Type 0} (arms : List A) (lane : ℕ) → lane < length arms → (arm : A) × (slice_get arms lane ≡ Some arm)
arm_there [] lane below = absurd (omega (arith, below))
arm_there (arm ∷ arms) zero below = (arm, refl)
arm_there (arm ∷ arms) (suc lane) below = arm_there arms lane (omega (arith, below))
