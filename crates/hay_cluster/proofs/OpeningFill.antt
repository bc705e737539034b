-- How volumes get their disks, and lanes their seats.
use Rattle.std.proofs.Common.{◌≡◌, ℕ, ◌+◌, ◌*◌, inl, inr, List, [], ◌∷◌, ◌++◌, length, map, None, refl, sym, ap, subst, ◌∙◌, arith, append_assoc}
use mathlib.Core.List.{reverse-reverse}
use Rattle.std.proofs.lemmas.List.{reverse-append, length-append}
use Rattle.std.specs.Prelude.{slice_set, reverse}
use Rattle.std.specs.List.{AllByRecursion, flat_map}
use Rattle.hay_mount.specs.Mounts.{InOrder}
use Rattle.hay_physical.specs.declared.state.Phase.TheVariants.{Closed}
use Rattle.hay_physical.specs.OpenCopies.{Copy}
use Rattle.hay_needle.specs.declared.settings.Settings.{Settings}
use Rattle.hay_logical.specs.Fits.{At, super_of}
use Rattle.hay_logical.specs.Volumes.{Volume, HasSupers, IsClosed}
use Rattle.hay_logical.proofs.Lists.{at_either}
use Rattle.hay_cluster.specs.Opening.{FillsVolume, Gathers, IsEmptyVolume}
use Rattle.hay_cluster.specs.Store.{IsVolumeOf, disk_of, volume_disks}
use Rattle.hay_cluster.proofs.Lists.{map-append}
use Rattle.hay_cluster.proofs.OpeningLists.{Gathered, gathered_more, gathered_none}

pub reverse-snoc : {X : Type 0} (xs : List X) (x : X) → reverse (xs ++ x ∷ []) ≡ x ∷ reverse xs
reverse-snoc xs x = reverse-append xs (x ∷ [])

-- one more is turned round
pub turned : {X : Type 0} (front rest rest' : List X) (x : X) → rest ≡ rest' ++ x ∷ [] → front ++ reverse rest ≡ (front ++ x ∷ []) ++ reverse rest'
turned {X} front rest rest' x is = ap (λ (l : List X). front ++ reverse l) is ∙ ap (λ (l : List X). front ++ l) (reverse-snoc rest' x) ∙ sym (append_assoc front (x ∷ []) (reverse rest'))

-- the first n replicas of a volume got their disks
pub record Filling {D P : Type 0} (n : ℕ) (old new : Volume D P) (before after : List D) : Type 0 where
  pub only : new ≡ record old { replicas = new.replicas }
  pub count : length new.replicas ≡ n
  pub sups : HasSupers new
  pub closed : IsClosed new
  pub parts : reverse before ≡ volume_disks new ++ reverse after
  pub fewer : length after + n ≡ length before

module _ {D P : Type 0} where
  pub filling_none : (old : Volume D P) (disks : List D) → old.replicas ≡ [] → Filling 0 old old disks disks
  filling_none old disks none = record {
    only = refl;
    count = ap (λ (l : List (Copy D)). length l) none;
    sups = λ j r at. absurd (nowhere j r (subst (λ (l : List (Copy D)). At l j r) none at));
    closed = λ j r at. absurd (nowhere j r (subst (λ (l : List (Copy D)). At l j r) none at));
    parts = ap (λ (l : List (Copy D)). map disk_of l ++ reverse disks) (sym none);
    fewer = omega arith;
  }
    where
      nowhere : (j : ℕ) (r : Copy D) → At [] j r → ⊥
      nowhere j r at = cc

  pub filling_more : (n : ℕ) (old new new' : Volume D P) (before after after' : List D) (disk : D) → Filling n old new before after → after ≡ after' ++ disk ∷ []
      → new' ≡ record new { replicas = new.replicas ++ record { sup = super_of new.settings new.number (length new.replicas); disk = disk; phase = Closed } ∷ [] }
      → Filling (n + 1) old new' before after'
  filling_more n old new new' before after after' disk f is e =
      let r0 : Copy D = record { sup = super_of new.settings new.number (length new.replicas); disk = disk; phase = Closed } in
      let all : List (Copy D) = new.replicas ++ r0 ∷ [] in
      let same : new'.replicas ≡ all = ap (λ (v : Volume D P). v.replicas) e in
      let put : List (Copy D) → Volume D P → Volume D P = λ l v. record v { replicas = l } in
      let disks : volume_disks new' ≡ volume_disks new ++ disk ∷ [] = ap (λ (l : List (Copy D)). map disk_of l) same ∙ map-append disk_of new.replicas (r0 ∷ []) in
      record {
        only = e ∙ ap (put all) f.only ∙ ap (λ (l : List (Copy D)). put l old) (sym same);
        count = ap (λ (l : List (Copy D)). length l) same ∙ length-append new.replicas (r0 ∷ []) ∙ ap (λ k. k + 1) f.count;
        sups = λ j r at.
            let kept : super_of new.settings new.number j ≡ super_of new'.settings new'.number j = sym (ap (λ (v : Volume D P). super_of v.settings v.number j) e) in
            elim (at_either new.replicas r0 j r (subst (λ (l : List (Copy D)). At l j r) same at)) [
              | inl before' ↦ f.sups j r before' ∙ kept
              | inr here ↦ ap (λ (c : Copy D). c.sup) here.1 ∙ ap (λ n. super_of new.settings new.number n) (sym here.0) ∙ kept
            ];
        closed = λ j r at. elim (at_either new.replicas r0 j r (subst (λ (l : List (Copy D)). At l j r) same at)) [
          | inl before' ↦ f.closed j r before'
          | inr here ↦ ap (λ (c : Copy D). c.phase) here.1
        ];
        parts = f.parts ∙ turned (volume_disks new) after after' disk is ∙ ap (λ (l : List D). l ++ reverse after') (sym disks);
        fewer = let long : length after ≡ length after' + 1 = ap (λ (l : List D). length l) is ∙ length-append after' (disk ∷ []) in omega (arith, f.fewer, long);
      }

  pub filled : (n : ℕ) (old new : Volume D P) (before after : List D) → n ≡ (old.settings).replicas → Filling n old new before after
      → (taken : List D) × (reverse before ≡ taken ++ reverse after) × FillsVolume old new taken
  filled n old new before after is f = (volume_disks new, f.parts, record { only = f.only; many = f.count ∙ is; sups = f.sups; closed = f.closed; disks_are = refl })

-- the first n volumes got their disks
pub record FillsFirst {D P : Type 0} (replicas n : ℕ) (olds news : List (Volume D P)) (before after : List D) : Type 0 where
  pub taken : List D
  pub gathered : Gathered FillsVolume n olds news taken
  pub parts : reverse before ≡ taken ++ reverse after
  pub fewer : length after + n * replicas ≡ length before

module _ {D P : Type 0} (replicas : ℕ) where
  pub fills_none : (volumes : List (Volume D P)) (disks : List D) → FillsFirst replicas 0 volumes volumes disks disks
  fills_none volumes disks = record { taken = []; gathered = gathered_none FillsVolume volumes; parts = refl; fewer = omega arith }

  pub fills_more : (n : ℕ) (olds news : List (Volume D P)) (before after after' taken : List D) (y z : Volume D P) → FillsFirst replicas n olds news before after → At news n y
      → reverse after ≡ taken ++ reverse after' → FillsVolume y z taken → length after' + replicas ≡ length after → FillsFirst replicas (n + 1) olds (slice_set news n z) before after'
  fills_more n olds news before after after' taken y z f at parts fills fewer = record {
    taken = f.taken ++ taken;
    gathered = gathered_more FillsVolume n olds news f.taken y z taken f.gathered at fills;
    parts = f.parts ∙ ap (λ (l : List D). f.taken ++ l) parts ∙ sym (append_assoc f.taken taken (reverse after'));
    fewer = omega (arith, f.fewer, fewer);
  }

-- what the volumes are that got their disks
pub record AreFilled {D P : Type 0} (settings : Settings) (v : ℕ) (news : List (Volume D P)) (taken : List D) : Type 0 where
  pub shape : InOrder (IsVolumeOf settings) v news
  pub closed : AllByRecursion IsClosed news
  pub sure : AllByRecursion (λ volume. volume.unsure ≡ None) news
  pub disks : taken ≡ flat_map volume_disks news

pub are_filled : {D P : Type 0} (settings : Settings) (v : ℕ) (xs ys : List (Volume D P)) (taken : List D) → InOrder (IsEmptyVolume settings) v xs → Gathers FillsVolume xs ys taken
    → AreFilled settings v ys taken
are_filled settings v [] [] taken empty g = record { shape = tt; closed = tt; sure = tt; disks = g }
are_filled settings v [] (y ∷ ys) taken empty g = absurd g
are_filled settings v (x ∷ xs) [] taken empty g = absurd g
are_filled {D} {P} settings v (x ∷ xs) (y ∷ ys) taken empty g =
    let f = g.first in
    let was = empty.0 in
    let rest = are_filled settings (v + 1) xs ys g.behind empty.1 g.rest in
    let set : y.settings ≡ x.settings = ap (λ (w : Volume D P). w.settings) f.only in
    record {
      shape = (
        record {
          settings_are = set ∙ was.settings_are;
          number = ap (λ (w : Volume D P). w.number) f.only ∙ was.number;
          all = f.many ∙ ap (λ (s : Settings). s.replicas) (sym set);
          sups = f.sups;
        },
        rest.shape,
      );
      closed = (f.closed, rest.closed);
      sure = (ap (λ (w : Volume D P). w.unsure) f.only ∙ was.sure, rest.sure);
      disks = g.parts ∙ ap (λ (l : List D). l ++ g.behind) f.disks_are ∙ ap (λ (l : List D). volume_disks y ++ l) rest.disks;
    }

-- the list whose last item was the first of this one
pub first_turned : {X : Type 0} (all back rest : List X) (x : X) → back ≡ reverse all → back ≡ rest ++ x ∷ [] → x ∷ reverse rest ≡ all
first_turned {X} all back rest x turned_is split = sym (reverse-snoc rest x) ∙ ap (λ (l : List X). reverse l) (sym split ∙ turned_is) ∙ reverse-reverse all
