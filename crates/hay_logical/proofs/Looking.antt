-- What a look at a place makes of a replica and of the rows.
use Rattle.std.proofs.Common.{◌≡◌, ◌≢◌, inl, inr, ℕ, ◌<◌, Bool, true, false, cond, length, Option, Some, None, Ok, Err, refl, sym, ap, subst, ◌∙◌}
use Rattle.std.specs.Prelude.{slice_set, Result, IfErr, OnOk}
use Rattle.std.proofs.lemmas.List.{get_or-set_other, get_or-set_same, set-get_or}
use Rattle.std.proofs.lemmas.Bool.{cases_Bool, cond-true, cond-false}
use Rattle.hay_needle.specs.declared.needle.Cell.{Cell}
use Rattle.hay_needle.specs.declared.needle.Outcome.{Outcome}
use Rattle.hay_needle.specs.declared.needle.Pair.{Pair}
use Rattle.hay_needle.specs.Needle.{needle_of_cell}
use Rattle.hay_needle.specs.declared.needle.Outcome.TheVariants as outcome
use Rattle.hay_needle.specs.Tables.{needle_outcome, outcome_at, pair_eq, table_of}
use Rattle.hay_needle.proofs.TableLaws.{pair_apart, pair_refl, pair_same}
use Rattle.hay_disk.specs.Disk.{Files}
use Rattle.hay_volume.specs.Cells.{HasPlace, needles_of}
use Rattle.hay_map.specs.MapRows.{MapRows}
use Rattle.hay_map.specs.Places.{PlaceMeans, place_in}
use Rattle.hay_map.specs.Rows.{row_at}
use Rattle.hay_map.specs.declared.place.Place.{Place}
use Rattle.hay_map.specs.declared.place.Place.TheVariants as place
use Rattle.hay_open.specs.Stored.{PlaceOf, Stored, last_cell}
use Rattle.hay_compact.specs.Finishing.{IsSeen}
use Rattle.hay_physical.specs.declared.fault.ReplicaFault.{ReplicaFault}
use Rattle.hay_physical.specs.declared.fault.ReplicaFault.TheVariants as fault
use Rattle.hay_physical.specs.declared.state.Phase.{Phase}
use Rattle.hay_physical.specs.Faults.{IsSightFault}
use Rattle.hay_physical.specs.OpenCopies.{Copy, HasFrozen, IsOpenCopy, IsOpenPhase, IsUp}
use Rattle.hay_physical.specs.Replicas as physical
use Rattle.hay_physical.specs.CompactionRuns.{HasRun, Run}
use Rattle.hay_physical.proofs.Seeing.{last_shows}
use Rattle.hay_logical.specs.Fits.{IsUnseen, PhotoAt, PlaceStands}
use Rattle.hay_logical.specs.ReplicaCalls.{KeepsBytes, PlacesAre, SetsPlaceAt, SightsAt}
use Rattle.hay_logical.specs.Volumes.{ReachesPlaces}
use Rattle.hay_logical.proofs.Tables.{at_cells, cell_outcome, last_pair, last_placed, place_means, seen_means}

module _ {D : Type 0} (DiskTells : Type 0) (files : D → Files) where
  -- A needle of this size at `at` was seen, and nothing else of the replica changed.
  pub record Looked (at size : ℕ) (r r' : Copy D) : Type 0 where
    pub same : r' ≡ record r { disk = r'.disk }
    pub stands : DiskTells → (s : Stored) → physical.Stands files r s → HasPlace at s.cells → physical.Stands files r' s
    pub run : DiskTells → (s : Stored) (run : Option Run) → physical.Stands files r s → HasPlace at s.cells → HasRun files r s run → HasRun files r' s run
    pub deletes : DiskTells → (place : ℕ) → physical.IsUnsealed at size place → physical.MayDelete files r place → physical.MayDelete files r' place
    pub sees : DiskTells → physical.KeepsSight files (physical.UnsealedBy at size) r r'

module _ {D P : Type 0} (DiskTells : Type 0) (files : D → Files) (Tells : Type 0) where
  -- a place that was seen stands for what it means
  pub seen_stands : (r : Copy D) (pair : Pair) (p : Place P) (what : Outcome) → IsSeen p → PlaceMeans Tells pair p what → PlaceStands files Tells r pair p what
  seen_stands r pair (place.Live needle) what seen means = means
  seen_stands r pair place.None what seen means = means
  seen_stands r pair place.Gone what seen means = means
  seen_stands r pair (place.Unseen at size) what seen means = absurd seen

  pub stands_seen : (r : Copy D) (pair : Pair) (p : Place P) (what : Outcome) → IsSeen p → PlaceStands files Tells r pair p what → PlaceMeans Tells pair p what
  stands_seen r pair (place.Live needle) what seen stands = stands
  stands_seen r pair place.None what seen stands = stands
  stands_seen r pair place.Gone what seen stands = stands
  stands_seen r pair (place.Unseen at size) what seen stands = absurd seen

  -- what a place stands for where all that it names can still be seen
  pub stands_on : (IsKept : ℕ → ℕ → Type 0) (r r' : Copy D) (pair : Pair) (p : Place P) (what : Outcome) → physical.KeepsSight files IsKept r r'
      → ((at size : ℕ) → p ≡ place.Unseen at size → IsKept at size) → PlaceStands files Tells r pair p what → PlaceStands files Tells r' pair p what
  stands_on IsKept r r' pair (place.Live needle) what keeps kept is = is
  stands_on IsKept r r' pair place.None what keeps kept is = is
  stands_on IsKept r r' pair place.Gone what keeps kept is = is
  stands_on IsKept r r' pair (place.Unseen at size) what keeps kept is = record {
    cell = is.cell;
    shows = keeps.shows is.cell (subst (λ n. IsKept is.cell.at n) is.long (subst (λ n. IsKept n size) is.place (kept at size refl))) is.shows;
    place = is.place;
    long = is.long;
    own = is.own;
    is = is.is;
  }

  -- the place of a cell that stands
  pub photo_stands : (r : Copy D) (s : Stored) (pair : Pair) (p : Place P) (what : Outcome) → physical.Stands files r s → PhotoAt Tells (last_cell s.cells pair) p
      → (IsSeen p → PlaceMeans Tells pair p what) → ((cell : Cell) → last_cell s.cells pair ≡ Some cell → needle_outcome (needle_of_cell cell) ≡ what) → PlaceStands files Tells r pair p what
  photo_stands r s pair (place.Live needle) what stands at means told = means tt
  photo_stands r s pair place.None what stands at means told = means tt
  photo_stands r s pair place.Gone what stands at means told = means tt
  photo_stands r s pair (place.Unseen at size) what stands photo means told = by_last (last_cell s.cells pair) refl photo
    where
      by_last : (o : Option Cell) → last_cell s.cells pair ≡ o → PhotoAt {P = P} Tells o (place.Unseen at size) → IsUnseen files r pair at size what
      by_last None e of = absurd of
      by_last (Some cell) e of = record {
        cell = cell;
        shows = last_shows files r s pair cell stands e;
        place = of.0;
        long = of.1;
        own = last_pair s.cells pair cell e;
        is = told cell e;
      }

  -- the places of a replica that stands
  pub stored_stands : (r : Copy D) (s : Stored) (pair : Pair) (p : Place P) → physical.Stands files r s → PhotoAt Tells (last_cell s.cells pair) p
      → PlaceStands files Tells r pair p (outcome_at (table_of (needles_of s.cells)) pair)
  stored_stands r s pair p stands at =
      photo_stands r s pair p (outcome_at (table_of (needles_of s.cells)) pair) stands at (λ seen. place_means Tells s.cells pair p seen at)
      (λ cell last. sym (at_cells s.cells pair ∙ ap (λ (o : Option Cell). cell_outcome o outcome.Nothing) last))

  -- The place has become this one, which may be as it was.
  pub record Becomes (at size : ℕ) (pair : Pair) (p : Place P) (r r' : Copy D) : Type 0 where
    pub photo : (cell : Cell) → physical.StandsIn files r cell → at ≡ cell.at → size ≡ length cell.bytes → PhotoAt Tells (Some cell) p
    pub means : (what : Outcome) → IsUnseen files r pair at size what → PlaceStands files Tells r' pair p what
    pub deletes : physical.MayDelete files r at → physical.MayDeletePlace files r' p
    pub sees : physical.MaySee files r at size → physical.MaySeePlace files r' p
    pub from : (there long : ℕ) → physical.IsApart there long at → physical.IsApartPlace there long p
    pub to : (other : Place P) → physical.IsApartPlace at size other → physical.ArePlacesApart p other
    pub whole : physical.HasWholeNeedle Tells p

  -- it was not seen, though its needle was
  pub becomes_same : DiskTells → (at size : ℕ) (pair : Pair) (r r' : Copy D) → Looked DiskTells files at size r r' → Becomes at size pair (place.Unseen at size) r r'
  becomes_same tells at size pair r r' looked = record {
    photo = λ cell stands here long. (here, long);
    means = λ what is. record {
      cell = is.cell;
      shows = (looked.sees tells).shows is.cell (inr (sym is.place)) is.shows;
      place = is.place;
      long = is.long;
      own = is.own;
      is = is.is;
    };
    deletes = λ may. looked.deletes tells at (inr refl) may;
    sees = λ may. (looked.sees tells).may at size (inr refl) may;
    from = λ there long apart. apart;
    to = λ other apart. apart;
    whole = tt;
  }

  photo_of : (cell : Cell) (p : Place P) → PlaceOf Tells (Some cell) p → PhotoAt Tells (Some cell) p
  photo_of cell (place.Live needle) of = of
  photo_of cell place.Gone of = of
  photo_of cell place.None of = absurd of
  photo_of cell (place.Unseen at size) of = of

  sees_seen : (r' : Copy D) (p : Place P) → IsSeen p → physical.MaySeePlace files r' p
  sees_seen r' (place.Live needle) seen = tt
  sees_seen r' place.None seen = tt
  sees_seen r' place.Gone seen = tt
  sees_seen r' (place.Unseen at size) seen = absurd seen

  pub sight_seen : (cell : Cell) (p : Place P) → physical.IsSightOf cell p → IsSeen p
  sight_seen cell (place.Live needle) is = tt
  sight_seen cell place.None is = absurd is
  sight_seen cell place.Gone is = tt
  sight_seen cell (place.Unseen at size) is = absurd is

  sight_apart : (cell : Cell) (at : ℕ) (p : Place P) → physical.IsSightOf cell p → cell.at ≡ at → (there long : ℕ) → physical.IsApart there long at → physical.IsApartPlace there long p
  sight_apart cell at (place.Live needle) is here there long apart = subst (λ n. physical.IsApart there long n) (sym (is.1 ∙ here)) apart
  sight_apart cell at place.None is here there long apart = tt
  sight_apart cell at place.Gone is here there long apart = tt
  sight_apart cell at (place.Unseen other size) is here there long apart = absurd is

  apart_seen : (p other : Place P) → IsSeen p → physical.ArePlacesApart p other
  apart_seen (place.Live needle) other seen = tt
  apart_seen place.None other seen = tt
  apart_seen place.Gone other seen = tt
  apart_seen (place.Unseen at size) other seen = absurd seen

  -- it was seen by its needle
  pub becomes_seen : (at size : ℕ) (pair : Pair) (p : Place P) (r r' : Copy D) (cell : Cell) → physical.IsSightOf cell p → cell.at ≡ at
      → ((c : Cell) → physical.StandsIn files r c → c.at ≡ at → PlaceOf Tells (Some c) p) → physical.MayDeletePlace files r' p → physical.HasWholeNeedle Tells p → Becomes at size pair p r r'
  becomes_seen at size pair p r r' cell sight here known may whole =
      let seen = sight_seen cell p sight in
      record {
        photo = λ c stands there long. photo_of c p (known c stands (sym there));
        means = λ what is. seen_stands r' pair p what seen
            (subst (λ (o : Outcome). PlaceMeans Tells pair p o) is.is (seen_means Tells pair is.cell p is.own seen (photo_of is.cell p (known is.cell is.shows.stands (sym is.place)))));
        deletes = λ was. may;
        sees = λ was. sees_seen r' p seen;
        from = sight_apart cell at p sight here;
        to = λ other apart. apart_seen p other seen;
        whole = whole;
      }

  module _ (at size j : ℕ) (pair : Pair) (p : Place P) (rows rows' : MapRows P) (r r' : Copy D) (looked : Looked DiskTells files at size r r')
      (was : place_in (row_at rows pair) j ≡ place.Unseen at size)
      (changed : (q : Pair) → place_in (row_at rows' q) j ≡ cond (pair_eq pair q) p (place_in (row_at rows q) j)) where
    own_place : (q : Pair) → pair_eq pair q ≡ true → place_in (row_at rows' q) j ≡ p
    own_place q same = changed q ∙ cond-true (pair_eq pair q) p (place_in (row_at rows q) j) same

    other_place : (q : Pair) → pair_eq pair q ≡ false → place_in (row_at rows' q) j ≡ place_in (row_at rows q) j
    other_place q apart = changed q ∙ cond-false (pair_eq pair q) p (place_in (row_at rows q) j) apart

    -- a cell of this place
    here_placed : (s : Stored) (o : Option Cell) → last_cell s.cells pair ≡ o → PhotoAt {P = P} Tells o (place.Unseen at size) → HasPlace at s.cells
    here_placed s None e of = absurd of
    here_placed s (Some cell) e of = subst (λ n. HasPlace n s.cells) (sym of.0) (last_placed s.cells pair cell e)

    pub has_place : (s : Stored) → PlacesAre Tells rows j s → HasPlace at s.cells
    has_place s places = here_placed s (last_cell s.cells pair) refl (subst (λ x. PhotoAt Tells (last_cell s.cells pair) x) was (places pair))

    pub places_on : DiskTells → Becomes at size pair p r r' → (s : Stored) → physical.Stands files r s → PlacesAre Tells rows j s → PlacesAre Tells rows' j s
    places_on tells becomes s stands places q = elim (cases_Bool (pair_eq pair q)) [
      | inl same ↦
          let own : PhotoAt Tells (last_cell s.cells pair) p = by_last (last_cell s.cells pair) refl (subst (λ x. PhotoAt Tells (last_cell s.cells pair) x) was (places pair)) in
          subst (λ x. PhotoAt Tells (last_cell s.cells q) x) (sym (own_place q same)) (subst (λ (x : Pair). PhotoAt Tells (last_cell s.cells x) p) (pair_same pair q same) own)
      | inr apart ↦ subst (λ x. PhotoAt Tells (last_cell s.cells q) x) (sym (other_place q apart)) (places q)
    ]
      where
        by_last : (o : Option Cell) → last_cell s.cells pair ≡ o → PhotoAt {P = P} Tells o (place.Unseen at size) → PhotoAt Tells o p
        by_last None e of = absurd of
        by_last (Some cell) e of = becomes.photo cell (last_shows files r s pair cell stands e).stands of.0 of.1

    apart_kept : (other : Place P) → physical.IsApartPlace at size other → (there long : ℕ) → other ≡ place.Unseen there long → physical.IsUnsealed at size there
    apart_kept other apart there long is = inl (subst (λ x. physical.IsApartPlace at size x) is apart)

    beside : ReachesPlaces files Tells rows j r → IsOpenCopy r → (q : Pair) → pair_eq pair q ≡ false → physical.IsApartPlace at size (place_in (row_at rows q) j)
    beside reach up q apart = subst (λ x. physical.ArePlacesApart x (place_in (row_at rows q) j)) was ((reach.sees up).apart pair q apart)

    pub means_on : DiskTells → IsOpenCopy r → Becomes at size pair p r r' → ReachesPlaces files Tells rows j r → (what : Pair → Outcome)
        → ((q : Pair) → PlaceStands files Tells r q (place_in (row_at rows q) j) (what q)) → (q : Pair) → PlaceStands files Tells r' q (place_in (row_at rows' q) j) (what q)
    means_on tells up becomes reach what were q = elim (cases_Bool (pair_eq pair q)) [
      | inl same ↦
          let own = becomes.means (what pair) (subst (λ x. PlaceStands files Tells r pair x (what pair)) was (were pair)) in
          subst (λ x. PlaceStands files Tells r' q x (what q)) (sym (own_place q same)) (subst (λ (x : Pair). PlaceStands files Tells r' x p (what x)) (pair_same pair q same) own)
      | inr apart ↦
          subst (λ x. PlaceStands files Tells r' q x (what q)) (sym (other_place q apart))
          (stands_on (physical.UnsealedBy at size) r r' q (place_in (row_at rows q) j) (what q) (looked.sees tells) (apart_kept (place_in (row_at rows q) j) (beside reach up q apart)) (were q))
    ]

    still_open : IsOpenCopy r' → IsOpenCopy r
    still_open up = subst (λ (x : Phase). IsOpenPhase x) (ap (λ (x : Copy D). x.phase) looked.same) up

    still_up : IsUp r' → IsUp r
    still_up up = subst (λ (x : Phase). HasFrozen false x) (ap (λ (x : Copy D). x.phase) looked.same) up

    deletes_place : DiskTells → (other : Place P) → physical.IsApartPlace at size other → physical.MayDeletePlace files r other → physical.MayDeletePlace files r' other
    deletes_place tells (place.Live needle) apart may = looked.deletes tells needle.at (inl apart) may
    deletes_place tells place.None apart may = tt
    deletes_place tells place.Gone apart may = tt
    deletes_place tells (place.Unseen there long) apart may = looked.deletes tells there (inl apart) may

    sees_place : DiskTells → (other : Place P) → physical.IsApartPlace at size other → physical.MaySeePlace files r other → physical.MaySeePlace files r' other
    sees_place tells (place.Live needle) apart may = tt
    sees_place tells place.None apart may = tt
    sees_place tells place.Gone apart may = tt
    sees_place tells (place.Unseen there long) apart may = (looked.sees tells).may there long (inl apart) may

    apart_to : Becomes at size pair p r r' → (q : Place P) → physical.ArePlacesApart q (place.Unseen at size) → physical.ArePlacesApart q p
    apart_to becomes (place.Live needle) apart = tt
    apart_to becomes place.None apart = tt
    apart_to becomes place.Gone apart = tt
    apart_to becomes (place.Unseen there long) apart = becomes.from there long apart

    pub reach_on : DiskTells → IsOpenCopy r → Becomes at size pair p r r' → ReachesPlaces files Tells rows j r → ReachesPlaces files Tells rows' j r'
    reach_on tells up becomes reach = record {
      deletes = λ going q. elim (cases_Bool (pair_eq pair q)) [
        | inl same ↦
            let may = subst (λ x. physical.MayDeletePlace files r x) was (reach.deletes (still_up going) pair) in
            subst (λ x. physical.MayDeletePlace files r' x) (sym (own_place q same)) (becomes.deletes may)
        | inr apart ↦
            subst (λ x. physical.MayDeletePlace files r' x) (sym (other_place q apart))
            (deletes_place tells (place_in (row_at rows q) j) (beside reach up q apart) (reach.deletes (still_up going) q))
      ];
      sees = λ here. record {
        may = λ q. elim (cases_Bool (pair_eq pair q)) [
          | inl same ↦
              let may = subst (λ x. physical.MaySeePlace files r x) was ((reach.sees up).may pair) in
              subst (λ x. physical.MaySeePlace files r' x) (sym (own_place q same)) (becomes.sees may)
          | inr apart ↦
              subst (λ x. physical.MaySeePlace files r' x) (sym (other_place q apart)) (sees_place tells (place_in (row_at rows q) j) (beside reach up q apart) ((reach.sees up).may q))
        ];
        apart = λ q o differ. elim (cases_Bool (pair_eq pair q)) [
          | inl same ↦ elim (cases_Bool (pair_eq pair o)) [
            | inl other ↦ let never : ⊥ = both q o same other differ in absurd never
            | inr beyond ↦
                subst (λ x. physical.ArePlacesApart x (place_in (row_at rows' o) j)) (sym (own_place q same))
                (subst (λ x. physical.ArePlacesApart p x) (sym (other_place o beyond)) (becomes.to (place_in (row_at rows o) j) (beside reach up o beyond)))
          ]
          | inr apart ↦ elim (cases_Bool (pair_eq pair o)) [
            | inl other ↦
                let before = subst (λ x. physical.ArePlacesApart (place_in (row_at rows q) j) x) was ((reach.sees up).apart q pair (turned q apart)) in
                subst (λ x. physical.ArePlacesApart x (place_in (row_at rows' o) j)) (sym (other_place q apart))
                (subst (λ x. physical.ArePlacesApart (place_in (row_at rows q) j) x) (sym (own_place o other)) (apart_to becomes (place_in (row_at rows q) j) before))
            | inr beyond ↦
                subst (λ x. physical.ArePlacesApart x (place_in (row_at rows' o) j)) (sym (other_place q apart))
                (subst (λ x. physical.ArePlacesApart (place_in (row_at rows q) j) x) (sym (other_place o beyond)) ((reach.sees up).apart q o differ))
          ]
        ];
        whole = λ q. elim (cases_Bool (pair_eq pair q)) [
          | inl same ↦ subst (physical.HasWholeNeedle Tells) (sym (own_place q same)) becomes.whole
          | inr apart ↦ subst (physical.HasWholeNeedle Tells) (sym (other_place q apart)) ((reach.sees up).whole q)
        ];
      };
    }
      where
        both : (q o : Pair) → pair_eq pair q ≡ true → pair_eq pair o ≡ true → pair_eq q o ≡ false → ⊥
        both q o same other differ = let yes : pair_eq q o ≡ true = subst (λ (x : Pair). pair_eq q x ≡ true) (sym (pair_same pair q same) ∙ pair_same pair o other) (pair_refl q) in cc

        turned : (q : Pair) → pair_eq pair q ≡ false → pair_eq q pair ≡ false
        turned q apart = pair_apart q pair ∙ apart

-- THE ROWS

module _ {P : Type 0} (pair : Pair) (j : ℕ) (rows rows' : MapRows P) where
  pub set_places : (p : Place P) → SetsPlaceAt pair j p rows rows' → j < length (row_at rows pair) → (q : Pair) → place_in (row_at rows' q) j ≡ cond (pair_eq pair q) p (place_in (row_at rows q) j)
  set_places p sets within q = ap (λ l. place_in l j) (sets q) ∙ by_test (pair_eq pair q) refl
    where
      by_test : (b : Bool) → pair_eq pair q ≡ b → place_in (cond b (slice_set (row_at rows q) j p) (row_at rows q)) j ≡ cond b p (place_in (row_at rows q) j)
      by_test true same = get_or-set_same (row_at rows q) j p place.None (subst (λ (x : Pair). j < length (row_at rows x)) (pair_same pair q same) within)
      by_test false apart = refl

  pub set_here : (p : Place P) → SetsPlaceAt pair j p rows rows' → j < length (row_at rows pair) → place_in (row_at rows' pair) j ≡ p
  set_here p sets within = set_places p sets within pair ∙ cond-true (pair_eq pair pair) p (place_in (row_at rows pair) j) (pair_refl pair)

  pub set_others : (p : Place P) → SetsPlaceAt pair j p rows rows' → (i : ℕ) → i ≢ j → (q : Pair) → place_in (row_at rows' q) i ≡ place_in (row_at rows q) i
  set_others p sets i apart q = ap (λ l. place_in l i) (sets q) ∙ by_test (pair_eq pair q)
    where
      by_test : (b : Bool) → place_in (cond b (slice_set (row_at rows q) j p) (row_at rows q)) i ≡ place_in (row_at rows q) i
      by_test true = get_or-set_other (row_at rows q) j i p place.None apart
      by_test false = refl

  pub same_places : (p : Place P) → place_in (row_at rows pair) j ≡ p → ((q : Pair) → row_at rows' q ≡ row_at rows q) → (q : Pair)
      → place_in (row_at rows' q) j ≡ cond (pair_eq pair q) p (place_in (row_at rows q) j)
  same_places p was same q = ap (λ l. place_in l j) (same q) ∙ by_test (pair_eq pair q) refl
    where
      by_test : (b : Bool) → pair_eq pair q ≡ b → place_in (row_at rows q) j ≡ cond b p (place_in (row_at rows q) j)
      by_test true own = ap (λ (x : Pair). place_in (row_at rows x) j) (sym (pair_same pair q own)) ∙ was
      by_test false apart = refl

  pub same_sets : ((q : Pair) → row_at rows' q ≡ row_at rows q) → SetsPlaceAt pair j (place_in (row_at rows' pair) j) rows rows'
  same_sets same q = same q ∙ by_test (pair_eq pair q) refl
    where
      by_test : (b : Bool) → pair_eq pair q ≡ b → row_at rows q ≡ cond b (slice_set (row_at rows q) j (place_in (row_at rows' pair) j)) (row_at rows q)
      by_test true own =
          sym (ap (λ p. slice_set (row_at rows q) j p) (ap (λ l. place_in l j) (same pair) ∙ ap (λ (x : Pair). place_in (row_at rows x) j) (pair_same pair q own))
          ∙ set-get_or (row_at rows q) j place.None)
      by_test false apart = refl

  -- the place that was set
  pub sets_this : (p : Place P) → SetsPlaceAt pair j p rows rows' → j < length (row_at rows pair) → SetsPlaceAt pair j (place_in (row_at rows' pair) j) rows rows'
  sets_this p sets within = subst (λ x. SetsPlaceAt pair j x rows rows') (sym (set_here p sets within)) sets

-- A CALL

pub bytes_same : (old : Files) → KeepsBytes old old
bytes_same old = record { now = λ n. refl; solid = λ n solid. solid; leaves = λ image leaves. leaves }

module _ {D P : Type 0} (DiskTells : Type 0) (files : D → Files) (faults : D → ℕ) (Tells : Type 0) (pair : Pair) (rows rows' : MapRows P) (j : ℕ) (r r' : Copy D) where
  -- a place that was seen is not looked at
  pub sights_none : rows' ≡ rows → r' ≡ r → IsSeen (place_in (row_at rows pair) j) → SightsAt DiskTells files faults Tells pair rows rows' j r r' (Ok tt)
  sights_none same still seen =
      subst (λ x. SightsAt DiskTells files faults Tells pair rows x j r r' (Ok tt)) (sym same)
      (subst (λ x. SightsAt DiskTells files faults Tells pair rows rows j r x (Ok tt)) (sym still) (record {
        copy = refl;
        seen = seen;
        stands = λ tells s stands places. (stands, places);
        run = λ tells s run stands places has. has;
        holds = λ tells stuck s t holds. holds;
        keeps = λ tells. bytes_same (files r.disk);
        means = λ tells reach what were q. were q;
        undamaged = λ tells what stands k e. cc;
        reach = λ tells reach. reach;
        cause = tt;
      }))

  -- a needle was looked at
  pub sights_looked : (at size : ℕ) (p : Place P) (result : Result Unit ReplicaFault) → Looked DiskTells files at size r r' → place_in (row_at rows pair) j ≡ place.Unseen at size
      → ((q : Pair) → place_in (row_at rows' q) j ≡ cond (pair_eq pair q) p (place_in (row_at rows q) j)) → (DiskTells → Becomes DiskTells files Tells at size pair p r r')
      → IsOpenCopy r → (DiskTells → (stuck : Bool) (s t : Stored) → physical.Holds files r stuck s t → physical.Holds files r' stuck s t)
      → (DiskTells → KeepsBytes (files r.disk) (files r'.disk)) → OnOk result (IsSeen p)
      → (DiskTells → (k : ℕ) → result ≡ Err (fault.Damaged k) → (cell : Cell) → physical.StandsIn files r cell → cell.at ≡ at → length cell.bytes ≡ size → ⊥)
      → IfErr result (IsSightFault (faults r.disk) (faults r'.disk)) → SightsAt DiskTells files faults Tells pair rows rows' j r r' result
  sights_looked at size p result looked was changed becomes up holds keeps seen undamaged cause = record {
    copy = looked.same;
    seen = seen_on result seen;
    stands = λ tells s stands places. (
      looked.stands tells s stands (has_place DiskTells files Tells at size j pair p rows rows' r r' looked was changed s places),
      places_on DiskTells files Tells at size j pair p rows rows' r r' looked was changed tells (becomes tells) s stands places,
    );
    run = λ tells s run stands places has. looked.run tells s run stands (has_place DiskTells files Tells at size j pair p rows rows' r r' looked was changed s places) has;
    holds = holds;
    keeps = keeps;
    means = λ tells reach what were. means_on DiskTells files Tells at size j pair p rows rows' r r' looked was changed tells up (becomes tells) reach what were;
    undamaged = λ tells what stands k e.
        let is = subst (λ x. PlaceStands files Tells r pair x what) was stands in
        undamaged tells k e is.cell is.shows.stands (sym is.place) (sym is.long);
    reach = λ tells reach. reach_on DiskTells files Tells at size j pair p rows rows' r r' looked was changed tells up (becomes tells) reach;
    cause = cause;
  }
    where
      seen_on : (result : Result Unit ReplicaFault) → OnOk result (IsSeen p) → OnOk result (IsSeen (place_in (row_at rows' pair) j))
      seen_on (Ok value) is = subst IsSeen (sym (changed pair ∙ cond-true (pair_eq pair pair) p (place_in (row_at rows pair) j) (pair_refl pair))) is
      seen_on (Err f) is = tt
