-- How the disks of volumes are given back, from the last slot down.
use Rattle.std.proofs.Common.{◌≡◌, ℕ, ◌+◌, ◌*◌, ◌<◌, ◌≤◌, List, [], ◌∷◌, ◌++◌, length, map, refl, sym, ap, subst, ◌∙◌, arith, append_assoc}
use Rattle.std.proofs.lemmas.List.{append-nil, length-append}
use Rattle.std.specs.List.{AllByRecursion, flat_map}
use Rattle.hay_mount.specs.Mounts.{InOrder, SameFrom}
use Rattle.hay_mount.proofs.Orders.{InOrder-append, InOrder-map}
use Rattle.hay_physical.specs.OpenCopies.{Copy}
use Rattle.hay_cluster.specs.Store.{disk_of}
use Rattle.hay_cluster.proofs.Lists.{map-append}

-- Of all items these are left, of which the first is at number `from`, and the others were given back.
pub record GivesFrom {X H : Type 0} (P : H → X → Type 0) (from : ℕ) (all rest : List X) (old new : ℕ → H) : Type 0 where
  pub given : List X
  pub split : all ≡ rest ++ given
  pub placed : InOrder (λ n x. P (new n) x) (from + length rest) given
  pub below : (n : ℕ) → n < from + length rest → new n ≡ old n
  pub above : SameFrom (from + length all) old new

module _ {X H : Type 0} (P : H → X → Type 0) (from : ℕ) where
  pub from-none : (all : List X) (old : ℕ → H) → GivesFrom P from all all old old
  from-none all old = record { given = []; split = sym (append-nil all); placed = tt; below = λ n low. refl; above = λ n low. refl }

  -- these were given back, from their first number on
  pub from-more : (all rest rest' xs : List X) (old mid new : ℕ → H) → rest ≡ rest' ++ xs → GivesFrom P from all rest old mid
      → InOrder (λ n x. P (new n) x) (from + length rest') xs → ((n : ℕ) → n < from + length rest' → new n ≡ mid n) → SameFrom (from + length rest' + length xs) mid new
      → GivesFrom P from all rest' old new
  from-more all rest rest' xs old mid new is gives put below above =
      let long : length rest ≡ length rest' + length xs = ap (λ (l : List X). length l) is ∙ length-append rest' xs in
      let whole : length all ≡ length rest + length gives.given = ap (λ (l : List X). length l) gives.split ∙ length-append rest gives.given in
      let next : from + length rest ≡ from + length rest' + length xs = omega (arith, long) in
      record {
        given = xs ++ gives.given;
        split = gives.split ∙ ap (λ (l : List X). l ++ gives.given) is ∙ append_assoc rest' xs gives.given;
        placed = InOrder-append (λ n x. P (new n) x) (from + length rest') xs gives.given put
            (InOrder-map (λ n y. P (mid n) y) (λ n y. P (new n) y) (from + length rest' + length xs) gives.given
            (λ k y low high here. subst (λ h. P h y) (sym (above k low)) here)
            (subst (λ k. InOrder (λ n y. P (mid n) y) k gives.given) next gives.placed));
        below = λ n low. below n low ∙ gives.below n (let more : n < from + length rest = omega (arith, low, long) in more);
        above = λ n low. above n (let more : from + length rest' + length xs ≤ n = omega (arith, low, long, whole) in more) ∙ gives.above n low;
      }

  pub from-all : (all rest : List X) (old new : ℕ → H) → rest ≡ [] → GivesFrom P from all rest old new → InOrder (λ n x. P (new n) x) from all
  from-all all rest old new none gives =
      let start : from + 0 ≡ from = omega arith in
      subst (λ (xs : List X). InOrder (λ n x. P (new n) x) from xs) (sym (gives.split ∙ ap (λ (l : List X). l ++ gives.given) none))
      (subst (λ k. InOrder (λ n x. P (new n) x) k gives.given) (ap (λ (l : List X). from + length l) none ∙ start) gives.placed)

pub flat-append : {X D : Type 0} (g : X → List D) (xs ys : List X) → flat_map g (xs ++ ys) ≡ flat_map g xs ++ flat_map g ys
flat-append g [] ys = refl
flat-append g (x ∷ xs) ys = ap (λ l. g x ++ l) (flat-append g xs ys) ∙ sym (append_assoc (g x) (flat_map g xs) (flat_map g ys))

pub flat-one : {X D : Type 0} (g : X → List D) (xs : List X) (x : X) → flat_map g (xs ++ x ∷ []) ≡ flat_map g xs ++ g x
flat-one g xs x = flat-append g xs (x ∷ []) ∙ ap (λ l. flat_map g xs ++ l) (append-nil (g x))

pub flat-long : {X D : Type 0} (g : X → List D) (n : ℕ) (xs : List X) → AllByRecursion (λ x. length (g x) ≡ n) xs → length (flat_map g xs) ≡ length xs * n
flat-long g n [] all = let e : 0 ≡ 0 * n = omega arith in e
flat-long g n (x ∷ xs) all = let rest = flat-long g n xs all.1 in let l = length-append (g x) (flat_map g xs) in omega (arith, rest, l, all.0)

pub all-front : {X : Type 0} (P : X → Type 0) (xs ys : List X) → AllByRecursion P (xs ++ ys) → AllByRecursion P xs
all-front P [] ys all = tt
all-front P (x ∷ xs) ys all = (all.0, all-front P xs ys all.1)

pub all-last : {X : Type 0} (P : X → Type 0) (xs : List X) (x : X) → AllByRecursion P (xs ++ x ∷ []) → P x
all-last P [] x all = all.0
all-last P (y ∷ xs) x all = all-last P xs x all.1

pub disks-long : {D : Type 0} (rs : List (Copy D)) → length (map disk_of rs) ≡ length rs
disks-long [] = refl
disks-long (r ∷ rs) = let rest = disks-long rs in omega (arith, rest)

pub take_split : {D : Type 0} (old new : List (Copy D)) (r : Copy D) (disk : D) → old ≡ new ++ r ∷ [] → disk ≡ r.disk → map disk_of old ≡ map disk_of new ++ disk ∷ []
take_split {D} old new r disk is same = ap (λ (l : List (Copy D)). map disk_of l) is ∙ map-append disk_of new (r ∷ []) ∙ ap (λ (d : D). map disk_of new ++ d ∷ []) (sym same)

pub one_longer : {X : Type 0} (rest rest' : List X) (x : X) → rest ≡ rest' ++ x ∷ [] → length rest ≡ length rest' + 1
one_longer {X} rest rest' x is = ap (λ (l : List X). length l) is ∙ length-append rest' (x ∷ [])

pub rest_shorter : {X H : Type 0} (P : H → X → Type 0) (from : ℕ) (all rest : List X) (old new : ℕ → H) → GivesFrom P from all rest old new → length rest ≤ length all
rest_shorter {X} P from all rest old new gives = let e = ap (λ (l : List X). length l) gives.split ∙ length-append rest gives.given in omega (arith, e)
