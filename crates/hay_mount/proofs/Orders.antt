-- Laws of items in order.
use Rattle.std.proofs.Common.{◌≡◌, ℕ, zero, suc, ◌+◌, ◌-◌, ◌<◌, ◌≤◌, List, [], ◌∷◌, ◌++◌, length, subst, arith}
use Rattle.hay_mount.specs.Mounts.{InOrder}

-- another fact that follows of each item
pub InOrder-map : {X : Type 0} (P Q : ℕ → X → Type 0) (n : ℕ) (xs : List X) → ((k : ℕ) (x : X) → n ≤ k → k < n + length xs → P k x → Q k x) → InOrder P n xs → InOrder Q n xs
InOrder-map P Q n [] f all = tt
InOrder-map P Q n (x ∷ xs) f all =
    (f n x (omega arith) (omega arith) all.0, InOrder-map P Q (n + 1) xs (λ k y low high. f k y (omega arith) (omega arith)) all.1)

pub InOrder-zip : {X : Type 0} (P Q : ℕ → X → Type 0) (n : ℕ) (xs : List X) → InOrder P n xs → InOrder Q n xs → InOrder (λ k x. P k x × Q k x) n xs
InOrder-zip P Q n [] ps qs = tt
InOrder-zip P Q n (x ∷ xs) ps qs = ((ps.0, qs.0), InOrder-zip P Q (n + 1) xs ps.1 qs.1)

nth : {X : Type 0} (P : ℕ → X → Type 0) (C : ℕ → Type 0) (n : ℕ) (xs : List X) → ((k : ℕ) (x : X) → P k x → C k) → InOrder P n xs → (i k : ℕ) → k ≡ n + i → i < length xs → C k
nth P C n [] f all i k is high = absurd (omega arith)
nth P C n (x ∷ xs) f all zero k is high = subst (λ m. C m) (omega arith) (f n x all.0)
nth P C n (x ∷ xs) f all (suc i) k is high = nth P C (n + 1) xs f all.1 i k (omega arith) (omega arith)

-- what follows of an item at its number
pub InOrder-at : {X : Type 0} (P : ℕ → X → Type 0) (C : ℕ → Type 0) (n : ℕ) (xs : List X) → ((k : ℕ) (x : X) → P k x → C k) → InOrder P n xs → (k : ℕ) → n ≤ k → k < n + length xs → C k
InOrder-at P C n xs f all k low high = nth P C n xs f all (k - n) k (omega arith) (omega arith)

-- one item more
pub InOrder-snoc : {X : Type 0} (P : ℕ → X → Type 0) (n : ℕ) (xs : List X) (x : X) → InOrder P n xs → P (n + length xs) x → InOrder P n (xs ++ x ∷ [])
InOrder-snoc P n [] x all last = (subst (λ k. P k x) (omega arith) last, tt)
InOrder-snoc P n (y ∷ xs) x all last =
    (all.0, InOrder-snoc P (n + 1) xs x all.1 (subst (λ k. P k x) (omega arith) last))

-- the items of two lists
pub InOrder-append : {X : Type 0} (P : ℕ → X → Type 0) (n : ℕ) (xs ys : List X) → InOrder P n xs → InOrder P (n + length xs) ys → InOrder P n (xs ++ ys)
InOrder-append P n [] ys first second = subst (λ k. InOrder P k ys) (omega arith) second
InOrder-append P n (x ∷ xs) ys first second = (first.0, InOrder-append P (n + 1) xs ys first.1 (subst (λ k. InOrder P k ys) (omega arith) second))

pub InOrder-front : {X : Type 0} (P : ℕ → X → Type 0) (n : ℕ) (xs ys : List X) → InOrder P n (xs ++ ys) → InOrder P n xs
InOrder-front P n [] ys all = tt
InOrder-front P n (x ∷ xs) ys all = (all.0, InOrder-front P (n + 1) xs ys all.1)

pub InOrder-rest : {X : Type 0} (P : ℕ → X → Type 0) (n : ℕ) (xs ys : List X) → InOrder P n (xs ++ ys) → InOrder P (n + length xs) ys
InOrder-rest P n [] ys all = subst (λ k. InOrder P k ys) (omega arith) all
InOrder-rest P n (x ∷ xs) ys all = subst (λ k. InOrder P k ys) (omega arith) (InOrder-rest P (n + 1) xs ys all.1)
