-- The rows that are published behind one change more, and what they tell.
use Rattle.std.proofs.Common.{◌≡◌, ◌⊎◌, inl, inr, ℕ, zero, suc, ◌<◌, Bool, true, false, cond, List, [], ◌∷◌, ◌++◌, append_assoc, append-nil, Option, Some, None, refl, sym, ap, subst, ◌∙◌}
use Rattle.std.specs.Prelude.{fold, map, slice_set}
use Rattle.std.specs.List.{AllByRecursion as Each}
use Rattle.std.proofs.lemmas.Bool.{cond-true}
use Rattle.std.proofs.lemmas.List.Sums.{fold-append}
use Rattle.hay_core.specs.declared.entry.Entry.{Entry}
use Rattle.hay_core.specs.declared.entry.Entry.TheVariants as entry
use Rattle.hay_core.specs.Entries.{apply_entry}
use Rattle.hay_core.proofs.EntryLaws.{at-apply_entry}
use Rattle.hay_disk.specs.Disk.{Files}
use Rattle.hay_front.specs.Fronts.{Holds, MayPublish, Witness}
use Rattle.hay_legal.specs.declared.known.VolumeKnown.{VolumeKnown}
use Rattle.hay_legal.specs.Known.{now, replica_at}
use Rattle.hay_logical.specs.Stands.{Stands}
use Rattle.hay_logical.specs.Volumes.{Volume}
use Rattle.hay_map.specs.MapRows.{MapRows}
use Rattle.hay_map.specs.Places.{PlaceMeans, gone_place, place_in}
use Rattle.hay_map.specs.Rows.{FitsRows, changed_row, row_at}
use Rattle.hay_map.specs.declared.place.Place.{Place}
use Rattle.hay_map.specs.declared.place.Place.TheVariants as place
use Rattle.hay_map.specs.declared.view.MapOp.TheVariants as op
use Rattle.hay_needle.specs.declared.needle.Cookie.{Cookie}
use Rattle.hay_needle.specs.declared.needle.Outcome.{Outcome}
use Rattle.hay_needle.specs.declared.needle.Outcome.TheVariants as outcome
use Rattle.hay_needle.specs.declared.needle.Pair.{Pair}
use Rattle.hay_needle.specs.Tables.{Table, outcome_at, pair_eq}
use Rattle.hay_needle.proofs.TableLaws.{pair_same}
use Rattle.hay_views.specs.declared.places.Published.{Published}
use Rattle.hay_views.specs.MapPasts.{AllFit, IsFit, MapPast, begun_at, entered_by, fits, row_after, row_of, with_published}
use Rattle.hay_views.proofs.Changing.{fits_from}
use Rattle.hay_volume_lock.specs.Rows.{PlaceTells, RowsTell}

fold_more : {X A : Type 0} (f : A → X → A) (a : A) (xs : List X) (x : X) → fold f a (xs ++ x ∷ []) ≡ f (fold f a xs) x
fold_more f a [] x = refl
fold_more f a (y ∷ xs) x = fold_more f (f a y) xs x

each_more : {A : Type 0} (P : A → Type 0) (xs : List A) (x : A) → Each P xs → P x → Each P (xs ++ x ∷ [])
each_more P [] x each here = (here, tt)
each_more P (y ∷ ys) x each here = (each.0, each_more P ys x each.1 here)

first_stays : {P S : Type 0} (past : MapPast P S) (deeds : List (Published P)) → (fold with_published past deeds).first ≡ past.first
first_stays past [] = refl
first_stays past (deed ∷ deeds) = first_stays (with_published past deed) deeds

-- the row of a pair is changed
pub row_more : {P S : Type 0} (past : MapPast P S) (deeds : List (Published P)) (deed : Published P) (pair : Pair) → FitsRows (past.first).replicas deed.change
    → row_of (fold with_published past (deeds ++ deed ∷ [])) pair ≡ changed_row deed.change pair (row_of (fold with_published past deeds) pair)
row_more {P} {S} past deeds deed pair fit =
    let last : MapPast P S = fold with_published past deeds in
    ap (λ (m : MapPast P S). row_of m pair) (fold_more with_published past deeds deed)
    ∙ fold_more (row_after (last.first).replicas pair) (row_at last.first pair) last.made deed.change
    ∙ cond-true (fits (last.first).replicas deed.change) (changed_row deed.change pair (row_of last pair)) (row_of last pair)
    (fits_from (last.first).replicas deed.change (subst (λ (rows : MapRows P). FitsRows rows.replicas deed.change) (sym (first_stays past deeds)) fit))

entered_both : {P : Type 0} (xs ys : List (Published P)) → entered_by (xs ++ ys) ≡ entered_by xs ++ entered_by ys
entered_both [] ys = refl
entered_both (x ∷ xs) ys = ap (λ (l : List Entry). x.entered ++ l) (entered_both xs ys) ∙ sym (append_assoc x.entered (entered_by xs) (entered_by ys))

pub entered_more : {P : Type 0} (deeds : List (Published P)) (deed : Published P) → entered_by (deeds ++ deed ∷ []) ≡ entered_by deeds ++ deed.entered
entered_more deeds deed = entered_both deeds (deed ∷ []) ∙ ap (λ (l : List Entry). entered_by deeds ++ l) (append-nil deed.entered)

table_more : {P : Type 0} (table : Table) (deeds : List (Published P)) (deed : Published P)
    → fold apply_entry table (entered_by (deeds ++ deed ∷ [])) ≡ fold apply_entry (fold apply_entry table (entered_by deeds)) deed.entered
table_more table deeds deed = ap (fold apply_entry table) (entered_more deeds deed) ∙ fold-append apply_entry table (entered_by deeds) deed.entered

-- WHAT A PLACE TELLS

pub means_tells : {P : Type 0} (Tells : Type 0) (pair : Pair) (p : Place P) (what : Outcome) → PlaceMeans Tells pair p what → PlaceTells Tells pair p what
means_tells Tells pair (place.Live needle) what means = means
means_tells Tells pair place.None what means = means
means_tells Tells pair place.Gone what means = means
means_tells Tells pair (place.Unseen at size) what means = tt

gone_tells : {P : Type 0} (Tells : Type 0) (pair : Pair) (p : Place P) → PlaceTells Tells pair (gone_place p) outcome.Nothing
gone_tells Tells pair (place.Live needle) = tt
gone_tells Tells pair place.None = tt
gone_tells Tells pair place.Gone = tt
gone_tells Tells pair (place.Unseen at size) = tt

gone_in : {P : Type 0} (row : List (Place P)) (j : ℕ) → place_in (map gone_place row) j ≡ gone_place (place_in row j)
gone_in [] j = refl
gone_in (p ∷ row) zero = refl
gone_in (p ∷ row) (suc j) = gone_in row j

-- a place of a row of which one was set
pub set_in : {P : Type 0} (row : List (Place P)) (i : ℕ) (there : Place P) (j : ℕ)
    → (place_in (slice_set row i there) j ≡ place_in row j) ⊎ ((j ≡ i) × (place_in (slice_set row i there) j ≡ there))
set_in [] i there j = inl refl
set_in (p ∷ row) zero there zero = inr (refl, refl)
set_in (p ∷ row) zero there (suc j) = inl refl
set_in (p ∷ row) (suc i) there zero = inl refl
set_in (p ∷ row) (suc i) there (suc j) = elim (set_in row i there j) [ inl same ↦ inl same | inr here ↦ inr (ap suc here.0, here.1) ]

module _ {D P : Type 0} (Tells : Type 0) (files : D → Files) (PieceTells : Type 0) (past : MapPast P (Volume D P)) (deeds : List (Published P)) (deed : Published P)
    (fit : FitsRows (past.first).replicas deed.change)
    (rows_tell : RowsTell Tells files PieceTells past deeds) where
  abbrev row_then : Pair → List (Place P)
  row_then pair = row_of (fold with_published past deeds) pair

  abbrev table_then : VolumeKnown → ℕ → Table
  table_then k j = fold apply_entry (now k (replica_at k j)) (entered_by deeds)

  -- what a place tells behind the change, by what the change made of its row, and of the table
  behind : (k : VolumeKnown) (pair : Pair) (j : ℕ) → PlaceTells PieceTells pair (place_in (changed_row deed.change pair (row_then pair)) j)
      (outcome_at (fold apply_entry (table_then k j) deed.entered) pair)
      → PlaceTells PieceTells pair (place_in (row_of (fold with_published past (deeds ++ deed ∷ [])) pair) j)
      (outcome_at (fold apply_entry (now k (replica_at k j)) (entered_by (deeds ++ deed ∷ []))) pair)
  behind k pair j tells =
      subst (λ (row : List (Place P)). PlaceTells PieceTells pair (place_in row j) (outcome_at (fold apply_entry (now k (replica_at k j)) (entered_by (deeds ++ deed ∷ []))) pair))
      (sym (row_more past deeds deed pair fit))
      (subst (λ (table : Table). PlaceTells PieceTells pair (place_in (changed_row deed.change pair (row_then pair)) j) (outcome_at table pair))
      (sym (table_more (now k (replica_at k j)) deeds deed)) tells)

  pub put_tells : (pair : Pair) (cookie : Cookie) (bytes : List ℕ) (row : List (Place P)) → deed ≡ record { change = op.Put pair row; entered = entry.Put pair cookie bytes ∷ [] }
      → (Tells → (k : VolumeKnown) → Stands files PieceTells past.start k → (j : ℕ) → j < ((past.start).settings).replicas
      → PlaceMeans PieceTells pair (place_in row j) (outcome.Photo (record { cookie = cookie; bytes = bytes })))
      → RowsTell Tells files PieceTells past (deeds ++ deed ∷ [])
  put_tells pair cookie bytes row is means tells k s other j less = behind k other j
      (subst (λ (d : Published P). PlaceTells PieceTells other (place_in (changed_row d.change other (row_then other)) j) (outcome_at (fold apply_entry (table_then k j) d.entered) other)) (sym is)
      (subst (λ (what : Outcome). PlaceTells PieceTells other (place_in (cond (pair_eq pair other) row (row_then other)) j) what)
      (sym (at-apply_entry (table_then k j) (entry.Put pair cookie bytes) other))
      (one (pair_eq pair other) refl)))
    where
      photo : Outcome
      photo = outcome.Photo (record { cookie = cookie; bytes = bytes })

      one : (b : Bool) → pair_eq pair other ≡ b → PlaceTells PieceTells other (place_in (cond b row (row_then other)) j) (cond b photo (outcome_at (table_then k j) other))
      one true same = subst (λ (q : Pair). PlaceTells PieceTells q (place_in row j) photo) (pair_same pair other same) (means_tells PieceTells pair (place_in row j) photo (means tells k s j less))
      one false other_pair = rows_tell tells k s other j less

  pub del_tells : (pair : Pair) → deed ≡ record { change = op.Del pair; entered = entry.Del pair ∷ [] } → RowsTell Tells files PieceTells past (deeds ++ deed ∷ [])
  del_tells pair is tells k s other j less = behind k other j
      (subst (λ (d : Published P). PlaceTells PieceTells other (place_in (changed_row d.change other (row_then other)) j) (outcome_at (fold apply_entry (table_then k j) d.entered) other)) (sym is)
      (subst (λ (what : Outcome). PlaceTells PieceTells other (place_in (cond (pair_eq pair other) (map gone_place (row_then other)) (row_then other)) j) what)
      (sym (at-apply_entry (table_then k j) (entry.Del pair) other))
      (one (pair_eq pair other))))
    where
      one : (b : Bool) → PlaceTells PieceTells other (place_in (cond b (map gone_place (row_then other)) (row_then other)) j) (cond b outcome.Nothing (outcome_at (table_then k j) other))
      one true = subst (λ (p : Place P). PlaceTells PieceTells other p outcome.Nothing) (sym (gone_in (row_then other) j)) (gone_tells PieceTells other (place_in (row_then other) j))
      one false = rows_tell tells k s other j less

  pub seen_tells : (pair : Pair) (replica : ℕ) (there : Place P) → deed ≡ record { change = op.Seen pair replica there; entered = [] }
      → (Tells → (k : VolumeKnown) → Stands files PieceTells past.start k → PlaceMeans PieceTells pair there (outcome_at (table_then k replica) pair))
      → RowsTell Tells files PieceTells past (deeds ++ deed ∷ [])
  seen_tells pair replica there is means tells k s other j less = behind k other j
      (subst (λ (d : Published P). PlaceTells PieceTells other (place_in (changed_row d.change other (row_then other)) j) (outcome_at (fold apply_entry (table_then k j) d.entered) other)) (sym is)
      (one (pair_eq pair other) refl))
    where
      what : Outcome
      what = outcome_at (table_then k j) other

      one : (b : Bool) → pair_eq pair other ≡ b → PlaceTells PieceTells other (place_in (cond b (slice_set (row_then other) replica there) (row_then other)) j) what
      one false other_pair = rows_tell tells k s other j less
      one true same = elim (set_in (row_then other) replica there j) [
        | inl old ↦ subst (λ (p : Place P). PlaceTells PieceTells other p what) (sym old) (rows_tell tells k s other j less)
        | inr here ↦
            subst (λ (p : Place P). PlaceTells PieceTells other p what) (sym here.1)
            (subst (λ (i : ℕ). PlaceTells PieceTells other there (outcome_at (table_then k i) other)) (sym here.0)
            (subst (λ (q : Pair). PlaceTells PieceTells q there (outcome_at (table_then k replica) q)) (pair_same pair other same)
            (means_tells PieceTells pair there (outcome_at (table_then k replica) pair) (means tells k s))))
      ]

-- WHAT MAY BE PUBLISHED

abbrev View : Type 0 → Type 0 → Type 0
View D P = Witness (MapPast P (Volume D P)) (Volume D P) (Published P)

both_in : {M B : Type 0} → M × B → Option (M × B) → M × B
both_in d None = d
both_in d (Some both) = both

module _ {D P : Type 0} (Tells : Type 0) (files : D → Files) (PieceTells : Type 0) where
  abbrev pub Fact : Volume D P → MapPast P (Volume D P) → List (Published P) → Type 0
  Fact start past published = (start ≡ past.start) × AllFit past published × RowsTell Tells files PieceTells past published

  module _ (volume : Volume D P) (rows : MapRows P) (w : View D P) (base : w.base ≡ Some (begun_at volume rows, volume)) (fact : Holds Fact w) where
    abbrev first : MapPast P (Volume D P)
    first = begun_at volume rows

    base_is : (m : MapPast P (Volume D P)) (b : Volume D P) → w.base ≡ Some (m, b) → ◌≡◌ {A = MapPast P (Volume D P) × Volume D P} (first, volume) (m, b)
    unfolding both_in
    base_is m b is = ap (both_in (first, volume)) (sym base ∙ is)

    -- the fact of the first rows
    pub fact_first : AllFit first w.deeds × RowsTell Tells files PieceTells first w.deeds
    fact_first = subst (λ (m : MapPast P (Volume D P)). AllFit m w.deeds × RowsTell Tells files PieceTells m w.deeds)
        (sym (ap (λ (both : MapPast P (Volume D P) × Volume D P). both.0) (base_is fact.0 fact.1 fact.2))) (fact.3.1, fact.3.2)

    pub may_publish : (deed : Published P) → IsFit rows.replicas deed → RowsTell Tells files PieceTells first (w.deeds ++ deed ∷ []) → MayPublish Fact w deed
    may_publish deed fit tells m b is = subst (λ (both : MapPast P (Volume D P) × Volume D P). Fact both.1 both.0 (w.deeds ++ deed ∷ [])) (base_is m b is)
        (refl, each_more (IsFit rows.replicas) w.deeds deed fact_first.0 fit, tells)
