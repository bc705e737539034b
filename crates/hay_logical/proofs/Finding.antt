-- What an opening sees of the cells of a disk, and looks behind it.
use Rattle.std.proofs.Common.{◌≡◌, inl, inr, ℕ, Bool, true, false, List, [], ◌∷◌, ◌++◌, map, Option, None, Some, refl, sym, ap, subst, ◌∙◌}
use Rattle.std.specs.Prelude.{if◌then◌else◌}
use Rattle.std.specs.List.{AllZip}
use Rattle.std.specs.Option.{option_or}
use Rattle.hay_needle.specs.declared.needle.Cell.{Cell}
use Rattle.hay_needle.specs.declared.needle.Pair.{Pair}
use Rattle.hay_needle.specs.Tables.{pair_eq}
use Rattle.hay_index.specs.declared.record.Record.{Record}
use Rattle.hay_map.specs.declared.place.Place.{Place}
use Rattle.hay_map.specs.declared.place.Place.TheVariants as place
use Rattle.hay_map.specs.declared.view.OpenCell.{OpenCell}
use Rattle.hay_map.specs.Rows.{last_place}
use Rattle.hay_open.specs.Finds.{AreCellsOf, IsOrphanOf, StandsAt, unseen_cell}
use Rattle.hay_open.specs.Stored.{PlaceOf, last_cell}
use Rattle.hay_volume.specs.Needles.{HasNeedleOf}
use Rattle.hay_logical.specs.Fits.{PhotoAt}
use Rattle.hay_logical.specs.Needles.{IsToldBy}
use Rattle.hay_logical.specs.Readings.{IsSightOfPair, last_record}
use Rattle.hay_logical.specs.Sights.{IsSightOfLast, Looks, Sight, sight}
use Rattle.hay_logical.specs.Sights.Sight.{Gone, Live, Never, Unseen}

-- what was found of a place
pub found_sight : {P : Type 0} (Tells : Type 0) (o : Option Cell) (p : Place P) → PlaceOf Tells o p → IsSightOfLast o (sight p)
found_sight Tells (Some cell) (place.Live needle) of = (of.at, of.alive)
found_sight Tells (Some cell) place.Gone of = of
found_sight Tells (Some cell) place.None of = of
found_sight Tells (Some cell) (place.Unseen at size) of = of
found_sight Tells None (place.Live needle) of = of
found_sight Tells None place.Gone of = tt
found_sight Tells None place.None of = tt
found_sight Tells None (place.Unseen at size) of = of

-- what was looked at there was never none
never_looked : (s : Sight) → Looks s Never → s ≡ Never
never_looked s (inl same) = sym same
never_looked Never (inr becomes) = absurd becomes
never_looked (Live at) (inr becomes) = absurd becomes
never_looked Gone (inr becomes) = absurd becomes
never_looked (Unseen at size) (inr (inl is)) = absurd cc
never_looked (Unseen at size) (inr (inr is)) = absurd cc

-- so it is behind a look, which the place stands for still
pub looked_sight : {P : Type 0} (Tells : Type 0) (o : Option Cell) (s : Sight) (p : Place P) → Looks s (sight p) → IsSightOfLast o s → PhotoAt Tells o p → IsSightOfLast o (sight p)
looked_sight Tells (Some cell) s (place.Live needle) looks was of = (of.at, of.alive)
looked_sight Tells (Some cell) s place.Gone looks was of = of
looked_sight Tells (Some cell) s place.None looks was of = subst (λ (x : Sight). IsSightOfLast (Some cell) x) (never_looked s looks) was
looked_sight Tells (Some cell) s (place.Unseen at size) looks was of = of
looked_sight Tells None s (place.Live needle) looks was of = of
looked_sight Tells None s place.Gone looks was of = tt
looked_sight Tells None s place.None looks was of = tt
looked_sight Tells None s (place.Unseen at size) looks was of = of

-- WHAT WAS READ

-- what comes first is taken
or_again : {X : Type 0} (a b : Option X) (test : Bool) (x : X) → option_or (option_or a (if test then Some x else None)) b ≡ option_or a (if test then Some x else b)
or_again (Some y) b test x = refl
or_again None b true x = refl
or_again None b false x = refl

or_none : {X : Type 0} (o : Option X) → option_or o None ≡ o
or_none (Some x) = refl
or_none None = refl

module _ {P : Type 0} (Tells : Type 0) (pair : Pair) where
  -- a place of a pair with this record, and with that cell which has none
  abbrev IsRecordPlace : Option Record → Place P → Type 0
  IsRecordPlace None p = p ≡ place.None
  IsRecordPlace (Some r) p = p ≡ place.Unseen r.at r.size

  abbrev IsPairPlace : Option Cell → Option Record → Place P → Type 0
  IsPairPlace None recorded p = IsRecordPlace recorded p
  IsPairPlace (Some cell) recorded p = PlaceOf Tells (Some cell) p × StandsAt cell.at p

  record_place : (records : List Record) (o : Option Record) (p : Place P) → IsRecordPlace o p
      → IsRecordPlace (option_or (last_record records pair) o) (last_place (map unseen_cell records) pair p)
  record_place [] o p is = is
  record_place (r ∷ records) o p is =
      subst (λ (x : Option Record). IsRecordPlace x (last_place (map unseen_cell records) pair (if pair_eq r.pair pair then place.Unseen r.at r.size else p)))
      (sym (or_again (last_record records pair) o (pair_eq r.pair pair) r))
      (record_place records (if pair_eq r.pair pair then Some r else o) (if pair_eq r.pair pair then place.Unseen r.at r.size else p) (by_pair (pair_eq r.pair pair)))
    where
      by_pair : (test : Bool) → IsRecordPlace (if test then Some r else o) (if test then place.Unseen r.at r.size else p)
      by_pair true = refl
      by_pair false = is

  orphan_place : (orphans : List Cell) (seen : List (OpenCell P)) (found : Option Cell) (recorded : Option Record) (p : Place P) → AllZip (IsOrphanOf Tells) orphans seen
      → IsPairPlace found recorded p → IsPairPlace (option_or (last_cell orphans pair) found) recorded (last_place seen pair p)
  orphan_place [] [] found recorded p all is = is
  orphan_place [] (one ∷ seen) found recorded p all is = absurd all
  orphan_place (cell ∷ orphans) [] found recorded p all is = absurd all
  orphan_place (cell ∷ orphans) (one ∷ seen) found recorded p all is =
      subst (λ (x : Option Cell). IsPairPlace x recorded (last_place seen pair (if pair_eq one.pair pair then one.place else p)))
      (sym (or_again (last_cell orphans pair) found (pair_eq cell.pair pair) cell))
      (orphan_place orphans seen (if pair_eq cell.pair pair then Some cell else found) recorded (if pair_eq one.pair pair then one.place else p) all.1
      (subst (λ (q : Pair). IsPairPlace (if pair_eq cell.pair pair then Some cell else found) recorded (if pair_eq q pair then one.place else p)) (sym all.0.pair)
      (by_pair (pair_eq cell.pair pair))))
    where
      by_pair : (test : Bool) → IsPairPlace (if test then Some cell else found) recorded (if test then one.place else p)
      by_pair true = (all.0.place, all.0.stands)
      by_pair false = is

  pair_sight : (file : List ℕ) (found : Option Cell) (recorded : Option Record) (p : Place P) → IsPairPlace found recorded p → IsSightOfPair file found recorded (sight p)
  pair_sight file (Some cell) recorded (place.Live needle) is = (is.0.at, is.0.alive)
  pair_sight file (Some cell) recorded place.Gone is = is.0
  pair_sight file (Some cell) recorded place.None is = is.0
  pair_sight file (Some cell) recorded (place.Unseen at size) is = is.1
  pair_sight file None None p is = ap (λ (x : Place P). sight x) is
  pair_sight file None (Some r) p is = subst (λ (x : Place P). IsSightOfPair file None (Some r) (sight x)) (sym is) (refl, refl)

  last_both : (xs ys : List (OpenCell P)) (p : Place P) → last_place (xs ++ ys) pair p ≡ last_place ys pair (last_place xs pair p)
  last_both [] ys p = refl
  last_both (x ∷ xs) ys p = last_both xs ys (if pair_eq x.pair pair then x.place else p)

  -- the place of a pair that an opening found
  pub read_sight : (file : List ℕ) (records : List Record) (orphans : List Cell) (cells : List (OpenCell P)) → AreCellsOf Tells records orphans cells
      → IsSightOfPair file (last_cell orphans pair) (last_record records pair) (sight (last_place cells pair place.None))
  read_sight file records orphans cells are =
      let front : IsRecordPlace (option_or (last_record records pair) None) (last_place (map unseen_cell records) pair place.None) = record_place records None place.None refl in
      let recorded : IsRecordPlace (last_record records pair) (last_place (map unseen_cell records) pair place.None) =
      subst (λ (o : Option Record). IsRecordPlace o (last_place (map unseen_cell records) pair place.None)) (or_none (last_record records pair)) front in
      let both : IsPairPlace (option_or (last_cell orphans pair) None) (last_record records pair) (last_place are.0 pair (last_place (map unseen_cell records) pair place.None)) =
      orphan_place orphans are.0 None (last_record records pair) (last_place (map unseen_cell records) pair place.None) are.2 recorded in
      let all : IsPairPlace (last_cell orphans pair) (last_record records pair) (last_place are.0 pair (last_place (map unseen_cell records) pair place.None)) =
      subst (λ (o : Option Cell). IsPairPlace o (last_record records pair) (last_place are.0 pair (last_place (map unseen_cell records) pair place.None))) (or_none (last_cell orphans pair)) both in
      let here : last_place cells pair place.None ≡ last_place are.0 pair (last_place (map unseen_cell records) pair place.None) =
      ap (λ (l : List (OpenCell P)). last_place l pair place.None) are.1 ∙ last_both (map unseen_cell records) are.0 place.None in
      pair_sight file (last_cell orphans pair) (last_record records pair) (last_place cells pair place.None)
      (subst (λ (p : Place P). IsPairPlace (last_cell orphans pair) (last_record records pair) p) (sym here) all)

-- so it is behind a look
pub looked_pair : (file : List ℕ) (found : Option Cell) (recorded : Option Record) (s t : Sight) → Looks s t → IsToldBy file s t → IsSightOfPair file found recorded s
    → IsSightOfPair file found recorded t
looked_pair file found recorded s t (inl same) told is = subst (λ (x : Sight). IsSightOfPair file found recorded x) (sym same) is
looked_pair file found recorded Never t (inr becomes) told is = absurd becomes
looked_pair file found recorded (Live at) t (inr becomes) told is = absurd becomes
looked_pair file found recorded Gone t (inr becomes) told is = absurd becomes
looked_pair file (Some cell) recorded (Unseen at size) t (inr becomes) told is = absurd is
looked_pair file None None (Unseen at size) t (inr becomes) told is = absurd cc
looked_pair file None (Some r) (Unseen at size) t (inr (inl live)) told is =
    let has : IsToldBy file (Unseen at size) (Live at) = subst (λ (x : Sight). IsToldBy file (Unseen at size) x) live told in
    subst (λ (x : Sight). IsSightOfPair file None (Some r) x) (sym live)
    (is.0, subst (λ n. HasNeedleOf r.size false n file) is.0 (subst (λ n. HasNeedleOf n false at file) is.1 has))
looked_pair file None (Some r) (Unseen at size) t (inr (inr gone)) told is =
    let has : IsToldBy file (Unseen at size) Gone = subst (λ (x : Sight). IsToldBy file (Unseen at size) x) gone told in
    subst (λ (x : Sight). IsSightOfPair file None (Some r) x) (sym gone)
    (subst (λ n. HasNeedleOf r.size true n file) is.0 (subst (λ n. HasNeedleOf n true at file) is.1 has))
