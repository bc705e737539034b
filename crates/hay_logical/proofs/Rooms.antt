-- Which replica lacks room for a photo.
use Rattle.std.proofs.Common.{◌≡◌, ℕ, zero, suc, ◌+◌, ◌<◌, ◌≤◌, Bool, true, false, List, [], ◌∷◌, length, Option, Some, None, option_map, refl, sym, ap, ◌∙◌, arith}
use Rattle.std.specs.Prelude.{find, nat_lt}
use Rattle.std.specs.List.{enumerate_from}
use Rattle.std.proofs.lemmas.Bool.{cond-true, cond-false}
use Rattle.std.proofs.lemmas.Bool.Decides.{nat_tests}
use Rattle.hay_needle.specs.declared.settings.Settings.{Settings}
use Rattle.hay_needle.specs.Sizes.{needle_total}
use Rattle.hay_reply.specs.declared.Refused.{Refused}
use Rattle.hay_reply.specs.declared.Refused.TheVariants.{NoRoom}
use Rattle.hay_disk.specs.Disk.{Files}
use Rattle.hay_legal.specs.declared.known.ReplicaKnown.{ReplicaKnown}
use Rattle.hay_legal.specs.declared.known.VolumeKnown.{VolumeKnown}
use Rattle.hay_legal.specs.Known.{empty_replica, lacks_room, machine_of, replica_at, room_refusal_of}
use Rattle.hay_map.specs.MapRows.{MapRows}
use Rattle.hay_physical.specs.OpenCopies.{Copy, HasCapacity, capacity_of, end_of}
use Rattle.hay_physical.proofs.Laws.{stands_capacity, stands_end}
use Rattle.hay_logical.specs.declared.replicas.Broken.{Broken}
use Rattle.hay_logical.specs.declared.unsure.Unsure.{Unsure}
use Rattle.hay_logical.specs.Answers.{room_answer}
use Rattle.hay_logical.specs.Fits.{At, super_of}
use Rattle.hay_logical.specs.Stands.{StandsFor}
use Rattle.hay_logical.specs.ReplicaCalls.{LacksRoom, RoomFor}
use Rattle.hay_logical.proofs.Lists.{at_below, at_or, at_there}
use Rattle.hay_logical.proofs.Standing.{volume_with}

-- THE FIRST ITEM THAT PASSES A TEST

found_none : {X : Type 0} (f : X → Bool) (n : ℕ) (xs : List X) → ((j : ℕ) (x : X) → At xs j x → f x ≡ false) → find (λ (at : ℕ × X). f at.1) (enumerate_from n xs) ≡ None
found_none f n [] each = refl
found_none {X} f n (x ∷ xs) each =
    cond-false (f x) (Some (n, x)) (find (λ (at : ℕ × X). f at.1) (enumerate_from (n + 1) xs)) (each 0 x refl)
    ∙ found_none f (n + 1) xs (λ j y e. each (suc j) y e)

found_some : {X : Type 0} (f : X → Bool) (n : ℕ) (xs : List X) (j : ℕ) (x : X) → At xs j x → f x ≡ true → ((i : ℕ) (y : X) → i < j → At xs i y → f y ≡ false)
    → find (λ (at : ℕ × X). f at.1) (enumerate_from n xs) ≡ Some (n + j, x)
found_some f n [] j x e t below = absurd cc
found_some {X} f n (y ∷ xs) zero x e t below =
    let same : y ≡ x = cc in
    let plus : n ≡ n + 0 = omega arith in
    cond-true (f y) (Some (n, y)) (find (λ (at : ℕ × X). f at.1) (enumerate_from (n + 1) xs)) (ap f same ∙ t)
    ∙ ap (λ (z : X). Some (n, z)) same ∙ ap (λ m. Some (m, x)) plus
found_some {X} f n (y ∷ xs) (suc j) x e t below =
    let first : 0 < suc j = omega arith in
    let plus : n + 1 + j ≡ n + suc j = omega arith in
    cond-false (f y) (Some (n, y)) (find (λ (at : ℕ × X). f at.1) (enumerate_from (n + 1) xs)) (below 0 y first refl)
    ∙ found_some f (n + 1) xs j x e t (λ i z h at. below (suc i) z (let less : suc i < suc j = omega (arith, h) in less) at)
    ∙ ap (λ m. Some (m, x)) plus

-- ROOM

fits_in : (t known end most capacity : ℕ) → known ≡ end → capacity ≡ most → end + t + 8 ≤ capacity → nat_lt most (known + t + 8) ≡ false
fits_in t known end most capacity same cap fits =
    let h : known + t + 8 ≤ most = omega (arith, same, cap, fits) in
    let f : nat_lt most (known + t + 8) ≡ false = grind (arith, nat_tests, h) in
    f

lacks_in : (t known end most capacity : ℕ) → known ≡ end → capacity ≡ most → capacity < end + t + 8 → nat_lt most (known + t + 8) ≡ true
lacks_in t known end most capacity same cap lacks =
    let h : most < known + t + 8 = omega (arith, same, cap, lacks) in
    let f : nat_lt most (known + t + 8) ≡ true = grind (arith, nat_tests, h) in
    f

module _ {D P : Type 0} (files : D → Files) (Tells : Type 0) (settings : Settings) (number : ℕ) (items : List (Copy D)) (rows : MapRows P) (front : ℕ) (unsure : Option Unsure) (k : VolumeKnown)
    (stands : StandsFor files Tells (volume_with settings number items rows front None unsure) k) (sups : (j : ℕ) (r : Copy D) → At items j r → r.sup ≡ super_of settings number j) (size : ℕ) where
  known_end : (j : ℕ) (r : Copy D) → At items j r → (replica_at k j).end ≡ end_of r
  known_end j r e = let was = stands.by.each j r e in was.fits.end ∙ sym (stands_end files r was.stored was.stands)

  pub known_capacity : (j : ℕ) (r : Copy D) → At items j r → capacity_of r ≡ settings.capacity
  known_capacity j r e = let was = stands.by.each j r e in stands_capacity files r was.stored was.stands ∙ ap (λ sup. sup.settings.capacity) (sups j r e)

  same_at : (j : ℕ) (x : ReplicaKnown) → At k.replicas j x → x ≡ replica_at k j
  same_at j x e = sym (at_or k.replicas j x empty_replica e)

  copy_at : (j : ℕ) (x : ReplicaKnown) → At k.replicas j x → (r : Copy D) × At items j r
  copy_at j x e = let h = at_below k.replicas j x e in let m = stands.many in let a = stands.all in at_there items j (let less : j < length items = omega (arith, h, m, a) in less)

  has_room : (j : ℕ) (x : ReplicaKnown) (r : Copy D) → At k.replicas j x → At items j r → RoomFor size r → lacks_room settings size x ≡ false
  has_room j x r e f fits =
      fits_in (needle_total size) x.end (end_of r) settings.capacity (capacity_of r) (ap (λ (y : ReplicaKnown). y.end) (same_at j x e) ∙ known_end j r f) (known_capacity j r f) fits

  pub room_none : ((j : ℕ) (r : Copy D) → At items j r → RoomFor size r) → room_refusal_of settings number k size ≡ None
  room_none fits =
      ap (option_map (λ (at : ℕ × ReplicaKnown). NoRoom number (machine_of settings number at.0) (at.1).end (needle_total size)))
      (found_none (lacks_room settings size) 0 k.replicas (λ j x e. let r = copy_at j x e in has_room j x r.0 e r.1 (fits j r.0 r.1)))

  pub room_some : (broken : Broken) (lacks : LacksRoom size items broken)
      → room_refusal_of settings number k size ≡ Some (NoRoom number (machine_of settings number broken.at) (end_of lacks.replica) (needle_total size))
  room_some broken lacks =
      let h = at_below items broken.at lacks.replica lacks.there in
      let known = at_there k.replicas broken.at (let m = stands.many in let a = stands.all in let less : broken.at < length k.replicas = omega (arith, h, m, a) in less) in
      let end : (known.0).end ≡ end_of lacks.replica = ap (λ (y : ReplicaKnown). y.end) (same_at broken.at known.0 known.1) ∙ known_end broken.at lacks.replica lacks.there in
      let plus : 0 + broken.at ≡ broken.at = omega arith in
      ap (option_map (λ (at : ℕ × ReplicaKnown). NoRoom number (machine_of settings number at.0) (at.1).end (needle_total size)))
      (found_some (lacks_room settings size) 0 k.replicas broken.at known.0 known.1
      (lacks_in (needle_total size) (known.0).end (end_of lacks.replica) settings.capacity (capacity_of lacks.replica) end (known_capacity broken.at lacks.replica lacks.there) lacks.full)
      (λ i y low e. let r = copy_at i y e in has_room i y r.0 e r.1 (lacks.below i r.0 low r.1)))
      ∙ ap (λ m. Some (NoRoom number (machine_of settings number m) (known.0).end (needle_total size))) plus
      ∙ ap (λ n. Some (NoRoom number (machine_of settings number broken.at) n (needle_total size))) end

pub room_by : (settings : Settings) (frozen known : Option ℕ) (refused refusal : Option Refused) → known ≡ frozen → refusal ≡ refused
    → room_answer settings frozen refused ≡ room_answer settings known refusal
room_by settings frozen known refused refusal e f = ap (λ (o : Option ℕ). room_answer settings o refused) (sym e) ∙ ap (room_answer settings known) (sym f)

-- what a replica that has its capacity may have, by the settings of the volume
pub capacity_by : {D : Type 0} (inside settings : Settings) (number j : ℕ) (r : Copy D) → HasCapacity r → r.sup ≡ super_of inside number j → inside ≡ settings → capacity_of r ≡ settings.capacity
capacity_by inside settings number j r has sup same = has ∙ ap (λ s. s.settings.capacity) sup ∙ ap (λ (s : Settings). s.capacity) same
