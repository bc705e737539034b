-- Places in reach, behind each call of a volume.
use Rattle.std.proofs.Common.{◌≡◌, inl, inr, ℕ, ◌<◌, true, false, cond, List, [], ◌∷◌, ◌++◌, length, map, refl, sym, ap, subst, ◌∙◌, arith}
use Rattle.std.proofs.lemmas.Bool.{cases_Bool, cond-true, cond-false}
use Rattle.hay_needle.specs.declared.needle.Pair.{Pair}
use Rattle.hay_needle.specs.Tables.{pair_eq}
use Rattle.hay_needle.proofs.TableLaws.{pair_apart, pair_same}
use Rattle.hay_disk.specs.Disk.{Files}
use Rattle.hay_map.specs.MapRows.{MapRows}
use Rattle.hay_map.specs.Places.{gone_place, place_in}
use Rattle.hay_map.specs.Rows.{row_at}
use Rattle.hay_map.specs.declared.place.Place.{Place}
use Rattle.hay_map.specs.declared.place.Place.TheVariants as place
use Rattle.hay_compact.specs.Finishing.{IsSeen}
use Rattle.hay_physical.specs.declared.state.Phase.TheVariants as phase
use Rattle.hay_physical.specs.OpenCopies.{Copy, IsOpenCopy, IsUp}
use Rattle.hay_physical.specs.Replicas as physical
use Rattle.hay_logical.specs.Fits.{At}
use Rattle.hay_logical.specs.ReplicaCalls.{KeepsReach, StaysInReach}
use Rattle.hay_logical.specs.Volumes.{CanReach, ReachesPlaces, SeesPlaces}
use Rattle.hay_logical.proofs.Calls.{reaches_closed}
use Rattle.hay_logical.proofs.Holding.{gone_in}
use Rattle.hay_logical.proofs.Lists.{at_below, at_first, at_there}

module _ {D P : Type 0} (files : D → Files) where
  pub place_kept : {IsKept : ℕ → ℕ → Type 0} (r r' : Copy D) → KeepsReach files IsKept r r' → (p : Place P) → physical.MayDeletePlace files r p → physical.MayDeletePlace files r' p
  place_kept r r' keeps (place.Live needle) may = keeps.deletes needle.at may
  place_kept r r' keeps place.Gone may = tt
  place_kept r r' keeps place.None may = tt
  place_kept r r' keeps (place.Unseen at size) may = keeps.deletes at may

  pub sight_kept : {IsKept : ℕ → ℕ → Type 0} (r r' : Copy D) → KeepsReach files IsKept r r' → (p : Place P) → ((at size : ℕ) → p ≡ place.Unseen at size → IsKept at size)
      → physical.MaySeePlace files r p → physical.MaySeePlace files r' p
  sight_kept r r' keeps (place.Live needle) kept may = tt
  sight_kept r r' keeps place.Gone kept may = tt
  sight_kept r r' keeps place.None kept may = tt
  sight_kept r r' keeps (place.Unseen at size) kept may = keeps.sees.may at size (kept at size refl) may

  -- the same places of a replica
  pub reaches_on : {Tells : Type 0} (rows rows' : MapRows P) (j : ℕ) (r r' : Copy D) → (IsUp r' → IsUp r) → (IsOpenCopy r' → IsOpenCopy r) → KeepsReach files physical.Anywhere r r'
      → ((pair : Pair) → place_in (row_at rows' pair) j ≡ place_in (row_at rows pair) j) → ReachesPlaces files Tells rows j r → ReachesPlaces files Tells rows' j r'
  reaches_on {Tells = Tells} rows rows' j r r' up is keeps same reach = record {
    deletes = λ going pair. subst (physical.MayDeletePlace files r') (sym (same pair)) (place_kept r r' keeps (place_in (row_at rows pair) j) (reach.deletes (up going) pair));
    sees = λ here. record {
      may = λ pair. subst (physical.MaySeePlace files r') (sym (same pair)) (sight_kept r r' keeps (place_in (row_at rows pair) j) (λ at size e. tt) ((reach.sees (is here)).may pair));
      apart = λ pair other differ.
          subst (λ p. physical.ArePlacesApart p (place_in (row_at rows' other) j)) (sym (same pair))
          (subst (λ p. physical.ArePlacesApart (place_in (row_at rows pair) j) p) (sym (same other)) ((reach.sees (is here)).apart pair other differ));
      whole = λ pair. subst (physical.HasWholeNeedle Tells) (sym (same pair)) ((reach.sees (is here)).whole pair);
    };
  }

  gone_deletable : (r : Copy D) (p : Place P) → physical.MayDeletePlace files r (gone_place p)
  gone_deletable r (place.Live needle) = tt
  gone_deletable r place.Gone = tt
  gone_deletable r place.None = tt
  gone_deletable r (place.Unseen at size) = tt

  gone_sees : (r : Copy D) (p : Place P) → physical.MaySeePlace files r (gone_place p)
  gone_sees r (place.Live needle) = tt
  gone_sees r place.Gone = tt
  gone_sees r place.None = tt
  gone_sees r (place.Unseen at size) = tt

gone_whole : {P : Type 0} (Tells : Type 0) (p : Place P) → physical.HasWholeNeedle Tells (gone_place p)
gone_whole Tells (place.Live needle) = tt
gone_whole Tells place.Gone = tt
gone_whole Tells place.None = tt
gone_whole Tells (place.Unseen at size) = tt

gone_apart : {P : Type 0} (p other : Place P) → physical.ArePlacesApart (gone_place p) other
gone_apart (place.Live needle) other = tt
gone_apart place.Gone other = tt
gone_apart place.None other = tt
gone_apart (place.Unseen at size) other = tt

apart_gone : {P : Type 0} (p other : Place P) → physical.ArePlacesApart p (gone_place other)
apart_gone (place.Live needle) other = tt
apart_gone place.Gone other = tt
apart_gone place.None other = tt
apart_gone (place.Unseen at size) (place.Live needle) = tt
apart_gone (place.Unseen at size) place.Gone = tt
apart_gone (place.Unseen at size) place.None = tt
apart_gone (place.Unseen at size) (place.Unseen there long) = tt

-- a place that was seen
pub seen_sees : {D P : Type 0} (files : D → Files) (r : Copy D) (p : Place P) → IsSeen p → physical.MaySeePlace files r p
seen_sees files r (place.Live needle) seen = tt
seen_sees files r place.Gone seen = tt
seen_sees files r place.None seen = tt
seen_sees files r (place.Unseen at size) seen = absurd seen

pub seen_apart : {P : Type 0} (p : Place P) → IsSeen p → (other : Place P) → physical.ArePlacesApart p other
seen_apart (place.Live needle) seen other = tt
seen_apart place.Gone seen other = tt
seen_apart place.None seen other = tt
seen_apart (place.Unseen at size) seen other = absurd seen

-- The place of one pair on a replica was changed.
module _ {D P : Type 0} (files : D → Files) (rows rows' : MapRows P) (j : ℕ) (r r' : Copy D) (pair : Pair) (p : Place P) (IsKept : ℕ → ℕ → Type 0)
    (changed : (q : Pair) → place_in (row_at rows' q) j ≡ cond (pair_eq pair q) p (place_in (row_at rows q) j)) (keeps : KeepsReach files IsKept r r') where
  own : (q : Pair) → pair_eq pair q ≡ true → place_in (row_at rows' q) j ≡ p
  own q same = changed q ∙ cond-true (pair_eq pair q) p (place_in (row_at rows q) j) same

  beyond : (q : Pair) → pair_eq pair q ≡ false → place_in (row_at rows' q) j ≡ place_in (row_at rows q) j
  beyond q apart = changed q ∙ cond-false (pair_eq pair q) p (place_in (row_at rows q) j) apart

  pub reaches_changed : {Tells : Type 0} → (IsUp r' → IsUp r) → (IsOpenCopy r' → IsOpenCopy r) → (IsUp r' → physical.MayDeletePlace files r' p) → physical.MaySeePlace files r' p
      → physical.HasWholeNeedle Tells p → ((other : Place P) → physical.ArePlacesApart p other)
      → (SeesPlaces files Tells rows j r → (q : Pair) → pair_eq q pair ≡ false → physical.ArePlacesApart (place_in (row_at rows q) j) p)
      → (SeesPlaces files Tells rows j r → (q : Pair) → pair_eq q pair ≡ false → (at size : ℕ) → place_in (row_at rows q) j ≡ place.Unseen at size → IsKept at size)
      → ReachesPlaces files Tells rows j r → ReachesPlaces files Tells rows' j r'
  reaches_changed {Tells = Tells} up is deletes sees whole to from kept reach = record {
    deletes = λ going q. elim (cases_Bool (pair_eq pair q)) [
      | inl same ↦ subst (physical.MayDeletePlace files r') (sym (own q same)) (deletes going)
      | inr apart ↦ subst (physical.MayDeletePlace files r') (sym (beyond q apart)) (place_kept files r r' keeps (place_in (row_at rows q) j) (reach.deletes (up going) q))
    ];
    sees = λ here. let was = reach.sees (is here) in record {
      may = λ q. elim (cases_Bool (pair_eq pair q)) [
        | inl same ↦ subst (physical.MaySeePlace files r') (sym (own q same)) sees
        | inr apart ↦
            subst (physical.MaySeePlace files r') (sym (beyond q apart))
            (sight_kept files r r' keeps (place_in (row_at rows q) j) (kept was q (pair_apart q pair ∙ apart)) (was.may q))
      ];
      apart = λ q o differ. elim (cases_Bool (pair_eq pair q)) [
        | inl same ↦ subst (λ x. physical.ArePlacesApart x (place_in (row_at rows' o) j)) (sym (own q same)) (to (place_in (row_at rows' o) j))
        | inr apart ↦
            subst (λ x. physical.ArePlacesApart x (place_in (row_at rows' o) j)) (sym (beyond q apart)) (elim (cases_Bool (pair_eq pair o)) [
              | inl other ↦ subst (λ x. physical.ArePlacesApart (place_in (row_at rows q) j) x) (sym (own o other)) (from was q (pair_apart q pair ∙ apart))
              | inr more ↦ subst (λ x. physical.ArePlacesApart (place_in (row_at rows q) j) x) (sym (beyond o more)) (was.apart q o differ)
            ])
      ];
      whole = λ q. elim (cases_Bool (pair_eq pair q)) [
        | inl same ↦ subst (physical.HasWholeNeedle Tells) (sym (own q same)) whole
        | inr apart ↦ subst (physical.HasWholeNeedle Tells) (sym (beyond q apart)) (was.whole q)
      ];
    };
  }

module _ {D P Tells : Type 0} (DiskTells : Type 0) (files : D → Files) where
  -- each replica is closed
  pub none_open : (replicas : List (Copy D)) (rows : MapRows P) → ((j : ℕ) (r : Copy D) → At replicas j r → r.phase ≡ phase.Closed) → CanReach DiskTells files Tells replicas rows
  none_open replicas rows closed = λ tells j r e. reaches_closed files rows j r (closed j r e)

  -- the last replica was taken
  pub shorter : (replicas rest : List (Copy D)) (r : Copy D) (rows : MapRows P) → replicas ≡ rest ++ r ∷ [] → CanReach DiskTells files Tells replicas rows → CanReach DiskTells files Tells rest rows
  shorter replicas rest r rows is can = λ tells j x e. can tells j x (subst (λ rs. At rs j x) (sym is) (at_first rest (r ∷ []) j x e))

  module _ (replicas replicas' : List (Copy D)) (rows rows' : MapRows P) (can : CanReach DiskTells files Tells replicas rows) (count : length replicas' ≡ length replicas)
      (was : (j : ℕ) (r r' : Copy D) → At replicas j r → At replicas' j r' → (IsUp r' → IsUp r) × (IsOpenCopy r' → IsOpenCopy r)) where
    old_at : (j : ℕ) (r' : Copy D) → At replicas' j r' → (r : Copy D) × At replicas j r
    old_at j r' f = at_there replicas j (let h = at_below replicas' j r' f in let less : j < length replicas = omega (arith, h, count) in less)

    pub same_rows : ((j : ℕ) (r r' : Copy D) → At replicas j r → At replicas' j r' → StaysInReach DiskTells files r r') → ((pair : Pair) → row_at rows' pair ≡ row_at rows pair)
        → CanReach DiskTells files Tells replicas' rows'
    same_rows keeps same = λ tells j r' f.
        let old = old_at j r' f in
        let w = was j old.0 r' old.1 f in
        reaches_on files rows rows' j old.0 r' w.0 w.1 (keeps j old.0 r' old.1 f tells) (λ pair. ap (λ row. place_in row j) (same pair)) (can tells j old.0 old.1)

    by_row : (pair : Pair) (row : List (Place P)) (j : ℕ) → ((other : Pair) → row_at rows' other ≡ cond (pair_eq pair other) row (row_at rows other))
        → (q : Pair) → place_in (row_at rows' q) j ≡ cond (pair_eq pair q) (place_in row j) (place_in (row_at rows q) j)
    by_row pair row j changed q = elim (cases_Bool (pair_eq pair q)) [
      | inl same ↦ ap (λ l. place_in l j) (changed q ∙ cond-true (pair_eq pair q) row (row_at rows q) same) ∙ sym (cond-true (pair_eq pair q) (place_in row j) (place_in (row_at rows q) j) same)
      | inr apart ↦ ap (λ l. place_in l j) (changed q ∙ cond-false (pair_eq pair q) row (row_at rows q) apart) ∙ sym (cond-false (pair_eq pair q) (place_in row j) (place_in (row_at rows q) j) apart)
    ]

    -- a photo was put, each place of which is live
    pub put_row : (pair : Pair) (row : List (Place P)) → ((other : Pair) → row_at rows' other ≡ cond (pair_eq pair other) row (row_at rows other))
        → ((j : ℕ) (r r' : Copy D) → At replicas j r → At replicas' j r' → StaysInReach DiskTells files r r')
        → ((j : ℕ) (r r' : Copy D) → At replicas j r → At replicas' j r' → DiskTells → physical.MayDeletePlace files r' (place_in row j) × physical.MaySeePlace files r' (place_in row j)
        × physical.HasWholeNeedle Tells (place_in row j) × ((other : Place P) → physical.ArePlacesApart (place_in row j) other)
        × ((at size : ℕ) → physical.MaySee files r at size → physical.IsApartPlace at size (place_in row j)))
        → CanReach DiskTells files Tells replicas' rows'
    put_row pair row changed keeps puts = λ tells j r' f.
        let old = old_at j r' f in
        let w = was j old.0 r' old.1 f in
        let put = puts j old.0 r' old.1 f tells in
        reaches_changed files rows rows' j old.0 r' pair (place_in row j) physical.Anywhere (by_row pair row j changed) (keeps j old.0 r' old.1 f tells) w.0 w.1 (λ up. put.0) put.1 put.2 put.3
        (λ sees q differ. from old.0 (place_in row j) put.4 (place_in (row_at rows q) j) (sees.may q)) (λ sees q differ at size e. tt) (can tells j old.0 old.1)
      where
        from : (r : Copy D) (p : Place P) → ((at size : ℕ) → physical.MaySee files r at size → physical.IsApartPlace at size p) → (q : Place P) → physical.MaySeePlace files r q
            → physical.ArePlacesApart q p
        from r p apart (place.Live needle) may = tt
        from r p apart place.Gone may = tt
        from r p apart place.None may = tt
        from r p apart (place.Unseen at size) may = apart at size may

    -- a photo was deleted
    pub delete_row : (pair : Pair) → ((other : Pair) → row_at rows' other ≡ cond (pair_eq pair other) (map gone_place (row_at rows other)) (row_at rows other))
        → ((j : ℕ) (r r' : Copy D) → At replicas j r → At replicas' j r' → DiskTells → KeepsReach files (λ at size. physical.IsApartPlace at size (place_in (row_at rows pair) j)) r r')
        → CanReach DiskTells files Tells replicas' rows'
    delete_row pair changed keeps = λ tells j r' f.
        let old = old_at j r' f in
        let w = was j old.0 r' old.1 f in
        let p : Place P = gone_place (place_in (row_at rows pair) j) in
        reaches_changed files rows rows' j old.0 r' pair p (λ at size. physical.IsApartPlace at size (place_in (row_at rows pair) j)) (gone_by j) (keeps j old.0 r' old.1 f tells) w.0 w.1
        (λ up. gone_deletable files r' (place_in (row_at rows pair) j)) (gone_sees files r' (place_in (row_at rows pair) j)) (gone_whole Tells (place_in (row_at rows pair) j))
        (gone_apart (place_in (row_at rows pair) j))
        (λ sees q differ. apart_gone (place_in (row_at rows q) j) (place_in (row_at rows pair) j))
        (λ sees q differ at size e. subst (λ x. physical.ArePlacesApart x (place_in (row_at rows pair) j)) e (sees.apart q pair differ)) (can tells j old.0 old.1)
      where
        gone_by : (j : ℕ) (q : Pair) → place_in (row_at rows' q) j ≡ cond (pair_eq pair q) (gone_place (place_in (row_at rows pair) j)) (place_in (row_at rows q) j)
        gone_by j q = elim (cases_Bool (pair_eq pair q)) [
          | inl same ↦
              ap (λ l. place_in l j) (changed q ∙ cond-true (pair_eq pair q) (map gone_place (row_at rows q)) (row_at rows q) same) ∙ gone_in (row_at rows q) j
              ∙ ap (λ (x : Pair). gone_place (place_in (row_at rows x) j)) (sym (pair_same pair q same))
              ∙ sym (cond-true (pair_eq pair q) (gone_place (place_in (row_at rows pair) j)) (place_in (row_at rows q) j) same)
          | inr apart ↦
              ap (λ l. place_in l j) (changed q ∙ cond-false (pair_eq pair q) (map gone_place (row_at rows q)) (row_at rows q) apart)
              ∙ sym (cond-false (pair_eq pair q) (gone_place (place_in (row_at rows pair) j)) (place_in (row_at rows q) j) apart)
        ]

    -- it failed, and the places stay: those of other pairs can still be seen, and those of the pair were seen
    pub failed_row : (pair : Pair) → ((q : Pair) → row_at rows' q ≡ row_at rows q)
        → ((j : ℕ) (r r' : Copy D) → At replicas j r → At replicas' j r' → DiskTells → KeepsReach files (λ at size. physical.IsApartPlace at size (place_in (row_at rows pair) j)) r r')
        → ((j : ℕ) (r : Copy D) → At replicas j r → (at size : ℕ) → place_in (row_at rows pair) j ≡ place.Unseen at size → ⊥) → CanReach DiskTells files Tells replicas' rows'
    failed_row pair same keeps seen = λ tells j r' f.
        let old = old_at j r' f in
        let w = was j old.0 r' old.1 f in
        let there : (q : Pair) → place_in (row_at rows' q) j ≡ place_in (row_at rows q) j = λ q. ap (λ l. place_in l j) (same q) in
        let reach = can tells j old.0 old.1 in
        let kept = keeps j old.0 r' old.1 f tells in
        record {
          deletes = λ going q. subst (physical.MayDeletePlace files r') (sym (there q)) (place_kept files old.0 r' kept (place_in (row_at rows q) j) (reach.deletes (w.0 going) q));
          sees = λ here. let s = reach.sees (w.1 here) in record {
            may = λ q. subst (physical.MaySeePlace files r') (sym (there q))
                (sight_kept files old.0 r' kept (place_in (row_at rows q) j) (λ at size e. elim (cases_Bool (pair_eq q pair)) [
                  | inl own ↦ absurd (seen j old.0 old.1 at size (ap (λ (x : Pair). place_in (row_at rows x) j) (sym (pair_same q pair own)) ∙ e))
                  | inr differ ↦ subst (λ x. physical.ArePlacesApart x (place_in (row_at rows pair) j)) e (s.apart q pair differ)
                ]) (s.may q));
            apart = λ q o differ.
                subst (λ x. physical.ArePlacesApart x (place_in (row_at rows' o) j)) (sym (there q))
                (subst (λ x. physical.ArePlacesApart (place_in (row_at rows q) j) x) (sym (there o)) (s.apart q o differ));
            whole = λ q. subst (physical.HasWholeNeedle Tells) (sym (there q)) (s.whole q);
          };
        }
