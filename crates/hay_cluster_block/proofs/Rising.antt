-- The arms of all lanes, of which the first ones were in a block.
use Rattle.std.proofs.Common.{◌≡◌, ◌≤◌, ◌+◌, ◌-◌, ℕ, zero, suc, Bool, List, [], ◌∷◌, ◌++◌, map, refl, sym, ap, subst, ◌∙◌, arith, take, drop, reverse, length, length-append, length-drop}
use Rattle.std.specs.Prelude.{Some, slice_get}
use Rattle.std.specs.List.{AllByRecursion as Each, AllZip}
use Rattle.std.proofs.Math.Seq.{drop-append_seam}
use Rattle.std.proofs.lemmas.List.{length-reverse, length-take-le, reverse-append, reverse-reverse, take-append-drop}
use Rattle.hay_reply.specs.declared.Reply.{Reply}
use Rattle.hay_legal.specs.Known.{NoneFalls}
use Rattle.hay_lane.specs.Lanes.{IsLaterArm}
use Rattle.hay_cluster.specs.Causes.{StaySure}
use Rattle.hay_block.specs.Lines.{BlameArms}
use Rattle.hay_block.proofs.Lists.{each_mapped}
use Rattle.hay_cluster_block.proofs.Slots.{each_last, zip_append}

-- ARMS APART

split_at : {A : Type 0} (k : ℕ) (xs ys : List A) (x : A) → drop k xs ≡ x ∷ ys → (take (suc k) xs ≡ take k xs ++ x ∷ []) × (drop (suc k) xs ≡ ys)
split_at zero [] ys x e = absurd cc
split_at (suc k) [] ys x e = absurd cc
split_at zero (z ∷ xs) ys x e = let one : z ≡ x = cc e in let rest : xs ≡ ys = cc e in (ap (λ w. w ∷ []) one, rest)
split_at (suc k) (z ∷ xs) ys x e = let more = split_at k xs ys x e in (ap (λ w. z ∷ w) more.0, more.1)

-- the arm that is taken next is that of the next lane
pub taken_next : {A : Type 0} (k : ℕ) (arms rest : List A) (arm : A) → reverse (drop k arms) ≡ rest ++ arm ∷ []
    → (take (k + 1) arms ≡ take k arms ++ arm ∷ []) × (rest ≡ reverse (drop (k + 1) arms))
taken_next k arms rest arm e =
    let next : suc k ≡ k + 1 = omega arith in
    let turned : drop k arms ≡ arm ∷ reverse rest =
    sym (reverse-reverse (drop k arms)) ∙ (ap (λ z. reverse z) e ∙ reverse-append rest (arm ∷ [])) in
    let split = split_at k arms (reverse rest) arm turned in
    subst (λ n. (take n arms ≡ take k arms ++ arm ∷ []) × (rest ≡ reverse (drop n arms))) next
    (split.0, sym (ap (λ z. reverse z) split.1 ∙ reverse-reverse rest))

-- ALL ARMS

module _ {A : Type 0} (is_sure : A → Bool) (faults : A → ℕ) where
  pub same_arms : (arms : List A) → AllZip (IsLaterArm is_sure faults) arms arms
  same_arms [] = tt
  same_arms (arm ∷ arms) = (record { rises = omega arith; sure = λ e. (e, refl) }, same_arms arms)

  -- the other arms wait beside the block
  pub all_arms : (n : ℕ) (arms first last others : List A) → first ≡ take n arms → others ≡ reverse (drop n arms) → AllZip (IsLaterArm is_sure faults) first last
      → AllZip (IsLaterArm is_sure faults) arms (last ++ reverse others)
  all_arms n arms first last others first_are others_are later =
      let back : reverse others ≡ drop n arms = ap (λ (z : List A). reverse z) others_are ∙ reverse-reverse (drop n arms) in
      let whole : first ++ drop n arms ≡ arms = ap (λ z. z ++ drop n arms) first_are ∙ take-append-drop n arms in
      subst (λ z. AllZip (IsLaterArm is_sure faults) z (last ++ reverse others)) whole
      (subst (λ z. AllZip (IsLaterArm is_sure faults) (first ++ drop n arms) (last ++ z)) (sym back)
      (zip_append (IsLaterArm is_sure faults) first last (drop n arms) (drop n arms) later (same_arms (drop n arms))))

  pub arms_rise : (old new : List A) → AllZip (IsLaterArm is_sure faults) old new → NoneFalls (map faults old) (map faults new)
  arms_rise [] [] all = tt
  arms_rise [] (b ∷ new) all = absurd all
  arms_rise (a ∷ old) [] all = absurd all
  arms_rise (a ∷ old) (b ∷ new) all = (all.0.rises, arms_rise old new all.1)

  pub arms_sure : (old new : List A) → AllZip (IsLaterArm is_sure faults) old new → StaySure is_sure faults old new
  arms_sure [] [] all = tt
  arms_sure [] (b ∷ new) all = absurd all
  arms_sure (a ∷ old) [] all = absurd all
  arms_sure (a ∷ old) (b ∷ new) all = (all.0.sure, arms_sure old new all.1)

-- what holds of each of the other arms, in their order
pub each_turned : {X : Type 0} (P : X → Type 0) (xs : List X) → Each P xs → Each P (reverse xs)
each_turned P [] each = tt
each_turned P (x ∷ xs) each = subst (Each P) (sym (reverse-append (x ∷ []) xs)) (each_last P (reverse xs) x (each_turned P xs each.1) each.0)

pub others_small : {A : Type 0} (faults : A → ℕ) (most : ℕ) (others : List A) → Each (λ arm. faults arm ≤ most) others → Each (λ n. n ≤ most) (map faults (reverse others))
others_small faults most others small = each_mapped faults (λ n. n ≤ most) (reverse others) (each_turned (λ arm. faults arm ≤ most) others small)

-- all of them together
pub all_split : {A : Type 0} (n : ℕ) (arms first others : List A) → first ≡ take n arms → others ≡ reverse (drop n arms) → arms ≡ first ++ reverse others
all_split n arms first others first_are others_are =
    sym (take-append-drop n arms) ∙ (ap (λ z. z ++ drop n arms) (sym first_are)
    ∙ ap (λ z. first ++ z) (sym (ap (λ z. reverse z) others_are ∙ reverse-reverse (drop n arms))))

pub all_many : {A : Type 0} (n : ℕ) (arms first others last : List A) → first ≡ take n arms → others ≡ reverse (drop n arms) → n ≤ length arms → length last ≡ n
    → (length (last ++ reverse others) ≡ length arms) × (length last + length others ≡ length arms) × (length first ≡ n)
all_many n arms first others last first_are others_are within many =
    let a = length-append last (reverse others) in
    let b = length-reverse others in
    let c : length others ≡ length arms - n = ap length others_are ∙ (length-reverse (drop n arms) ∙ length-drop n arms) in
    let d : length first ≡ n = ap length first_are ∙ length-take-le n arms within in
    (omega (arith, a, b, c, within, many), omega (arith, c, within, many), d)

-- the other arms are as they were
pub others_back : {A : Type 0} (n : ℕ) (arms others last : List A) → others ≡ reverse (drop n arms) → length last ≡ n → drop n (last ++ reverse others) ≡ drop n arms
others_back n arms others last others_are many =
    subst (λ m. drop m (last ++ reverse others) ≡ drop n arms) many
    (drop-append_seam last (reverse others) ∙ (ap (λ z. reverse z) others_are ∙ reverse-reverse (drop n arms)))

taken_at : {A : Type 0} (n : ℕ) (xs : List A) (i : ℕ) (x : A) → slice_get (take n xs) i ≡ Some x → slice_get xs i ≡ Some x
taken_at zero xs i x at = absurd cc
taken_at (suc n) [] i x at = absurd cc
taken_at (suc n) (y ∷ xs) zero x at = at
taken_at (suc n) (y ∷ xs) (suc i) x at = taken_at n xs i x at

before_at : {A : Type 0} (xs ys : List A) (i : ℕ) (x : A) → slice_get xs i ≡ Some x → slice_get (xs ++ ys) i ≡ Some x
before_at [] ys i x at = absurd cc
before_at (y ∷ xs) ys zero x at = at
before_at (y ∷ xs) ys (suc i) x at = before_at xs ys i x at

-- the lanes of a block have the first arms
pub blame_all : {A : Type 0} (is_sure : A → Bool) (faults : A → ℕ) (n : ℕ) (arms first last others : List A) (replies : List (List Reply)) → first ≡ take n arms
    → BlameArms is_sure faults first last replies → BlameArms is_sure faults arms (last ++ others) replies
blame_all is_sure faults n arms first last others replies first_are blames = record {
  each = λ lane rs at_rs.
      let b = blames.each lane rs at_rs in
      (b.0, b.1, taken_at n arms lane b.0 (ap (λ z. slice_get z lane) (sym first_are) ∙ b.2), before_at last others lane b.1 b.3, b.4);
}
