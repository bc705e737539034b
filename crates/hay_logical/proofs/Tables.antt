-- The last cell of each pair, the table, and the places of photos.
use Rattle.std.proofs.Common.{◌≡◌, ◌≢◌, inl, inr, ℕ, ◌+◌, ◌<◌, Bool, true, false, cond, List, [], ◌∷◌, ◌++◌, length, Option, Some, None, option_map, refl, sym, ap, subst, ◌∙◌}
use Rattle.std.proofs.Common.{arith, length-append, nat_eq}
use Rattle.std.specs.Option.{option_or}
use Rattle.std.proofs.lemmas.Bool.{cases_Bool, cond-true, cond-false, eq-eqb, ne_eqb, true≢false}
use Rattle.std.proofs.lemmas.List.{length-map, map-append}
use Rattle.hay_needle.specs.declared.needle.Cell.{Cell}
use Rattle.hay_needle.specs.declared.needle.Cookie.{Cookie}
use Rattle.hay_needle.specs.declared.needle.Outcome.{Outcome}
use Rattle.hay_needle.specs.declared.needle.Outcome.TheVariants as outcome
use Rattle.hay_needle.specs.declared.needle.Pair.{Pair}
use Rattle.hay_needle.specs.Needle.{needle_of_cell}
use Rattle.hay_needle.specs.Tables.{Table, look_after, needle_outcome, outcome_at, pair_eq, rows_of, table_of, without_pair}
use Rattle.hay_needle.proofs.Spelling.{length-needle}
use Rattle.hay_needle.proofs.TableLaws.{at-table_of, at-without_pair, IsOrdered, ordered-table_of, ordered-without_pair, pair_same, pair_refl, same_tables, table_of-append}
use Rattle.hay_core.specs.declared.entry.Entry.TheVariants.{Put, Del}
use Rattle.hay_volume.specs.Cells.{AreCellsAt, HasPlace, live_cell, needles_of, with_flag}
use Rattle.hay_volume.proofs.FlagLaws.{placed}
use Rattle.hay_map.specs.Places.{IsSealed, PlaceMeans}
use Rattle.hay_map.specs.Sealed.{SealedNeedle}
use Rattle.hay_map.specs.declared.place.Place.{Place}
use Rattle.hay_map.specs.declared.place.Place.TheVariants as place
use Rattle.hay_open.specs.Stored.{IsSealedCell, Stored, last_cell}
use Rattle.hay_physical.specs.Replicas.{with_cell, without_cell}
use Rattle.hay_compact.specs.Finishing.{IsSeen}
use Rattle.hay_logical.specs.Fits.{Makes, PhotoAt}

-- THE LAST CELL AND THE TABLE

abbrev pub cell_outcome : Option Cell → Outcome → Outcome
cell_outcome None before = before
cell_outcome (Some cell) before = needle_outcome (needle_of_cell cell)

last_joins : (o : Option Cell) (b : Bool) (cell : Cell) (before : Outcome)
    → cell_outcome o (cond b (needle_outcome (needle_of_cell cell)) before) ≡ cell_outcome (option_or o (cond b (Some cell) None)) before
last_joins None true cell before = refl
last_joins None false cell before = refl
last_joins (Some c) true cell before = refl
last_joins (Some c) false cell before = refl

look_last : (cells : List Cell) (pair : Pair) (before : Outcome) → look_after (rows_of (needles_of cells)) pair before ≡ cell_outcome (last_cell cells pair) before
look_last [] pair before = refl
look_last (cell ∷ cells) pair before =
    look_last cells pair (cond (pair_eq cell.pair pair) (needle_outcome (needle_of_cell cell)) before)
    ∙ last_joins (last_cell cells pair) (pair_eq cell.pair pair) cell before

pub at_cells : (cells : List Cell) (pair : Pair) → outcome_at (table_of (needles_of cells)) pair ≡ cell_outcome (last_cell cells pair) outcome.Nothing
at_cells cells pair = at-table_of (needles_of cells) pair ∙ look_last cells pair outcome.Nothing

pair_by : (o : Option Cell) (b : Bool) (cell c : Cell) (pair : Pair) → ((d : Cell) → o ≡ Some d → d.pair ≡ pair) → (b ≡ true → cell.pair ≡ pair)
    → option_or o (cond b (Some cell) None) ≡ Some c → c.pair ≡ pair
pair_by None true cell c pair before here e = let same : cell ≡ c = cc in subst (λ (x : Cell). x.pair ≡ pair) same (here refl)
pair_by None false cell c pair before here e = absurd cc
pair_by (Some d) true cell c pair before here e = before c e
pair_by (Some d) false cell c pair before here e = before c e

pub last_pair : (cells : List Cell) (pair : Pair) (c : Cell) → last_cell cells pair ≡ Some c → c.pair ≡ pair
last_pair [] pair c e = absurd cc
last_pair (cell ∷ cells) pair c e =
    pair_by (last_cell cells pair) (pair_eq cell.pair pair) cell c pair (λ d h. last_pair cells pair d h) (λ t. pair_same cell.pair pair t) e

place_by : (o : Option Cell) (b : Bool) (cell c : Cell) (cells : List Cell) → ((d : Cell) → o ≡ Some d → HasPlace d.at cells)
    → option_or o (cond b (Some cell) None) ≡ Some c → HasPlace c.at (cell ∷ cells)
place_by None true cell c cells before e = let same : cell ≡ c = cc in inl (ap (λ (x : Cell). x.at) same)
place_by None false cell c cells before e = absurd cc
place_by (Some d) true cell c cells before e = inr (before c e)
place_by (Some d) false cell c cells before e = inr (before c e)

pub last_placed : (cells : List Cell) (pair : Pair) (c : Cell) → last_cell cells pair ≡ Some c → HasPlace c.at cells
last_placed [] pair c e = absurd cc
last_placed (cell ∷ cells) pair c e = place_by (last_cell cells pair) (pair_eq cell.pair pair) cell c cells (λ d h. last_placed cells pair d h) e

-- WHAT A PLACE MEANS

sealed_means : (P : Type 0) (Tells : Type 0) (pair : Pair) (cell : Cell) (needle : SealedNeedle) → cell.pair ≡ pair → IsSealedCell Tells cell needle
    → PlaceMeans {P = P} Tells pair (place.Live needle) (needle_outcome (needle_of_cell cell))
sealed_means P Tells pair cell needle same is =
    subst (λ (b : Bool). PlaceMeans {P = P} Tells pair (place.Live needle) (cond b outcome.Nothing (outcome.Photo (record { cookie = cell.cookie; bytes = cell.bytes })))) (sym is.alive)
    (subst (λ (p : Pair). IsSealed Tells p (record { cookie = cell.cookie; bytes = cell.bytes }) needle) same is.sealed)

gone_means : (P : Type 0) (Tells : Type 0) (pair : Pair) (cell : Cell) → cell.deleted ≡ true → PlaceMeans {P = P} Tells pair place.Gone (needle_outcome (needle_of_cell cell))
gone_means P Tells pair cell deleted =
    subst (λ (b : Bool). PlaceMeans {P = P} Tells pair place.Gone (cond b outcome.Nothing (outcome.Photo (record { cookie = cell.cookie; bytes = cell.bytes })))) (sym deleted) tt

none_means : (P : Type 0) (Tells : Type 0) (pair : Pair) (cell : Cell) → cell.deleted ≡ true → PlaceMeans {P = P} Tells pair place.None (needle_outcome (needle_of_cell cell))
none_means P Tells pair cell deleted =
    subst (λ (b : Bool). PlaceMeans {P = P} Tells pair place.None (cond b outcome.Nothing (outcome.Photo (record { cookie = cell.cookie; bytes = cell.bytes })))) (sym deleted) tt

-- a place that was seen
pub seen_means : {P : Type 0} (Tells : Type 0) (pair : Pair) (cell : Cell) (p : Place P) → cell.pair ≡ pair → IsSeen p → PhotoAt Tells (Some cell) p
    → PlaceMeans Tells pair p (needle_outcome (needle_of_cell cell))
seen_means {P} Tells pair cell (place.Live needle) same seen is = sealed_means P Tells pair cell needle same is
seen_means {P} Tells pair cell place.Gone same seen is = gone_means P Tells pair cell is
seen_means {P} Tells pair cell place.None same seen is = none_means P Tells pair cell is
seen_means Tells pair cell (place.Unseen at size) same seen is = absurd seen

means_by : {P : Type 0} (Tells : Type 0) (pair : Pair) (o : Option Cell) (p : Place P) → ((c : Cell) → o ≡ Some c → c.pair ≡ pair) → IsSeen p → PhotoAt Tells o p
    → PlaceMeans Tells pair p (cell_outcome o outcome.Nothing)
means_by Tells pair (Some cell) p same seen is = seen_means Tells pair cell p (same cell refl) seen is
means_by Tells pair None place.None same seen is = tt
means_by Tells pair None place.Gone same seen is = tt
means_by Tells pair None (place.Live needle) same seen is = absurd is
means_by Tells pair None (place.Unseen at size) same seen is = absurd is

pub place_means : {P : Type 0} (Tells : Type 0) (cells : List Cell) (pair : Pair) (p : Place P) → IsSeen p → PhotoAt Tells (last_cell cells pair) p
    → PlaceMeans Tells pair p (outcome_at (table_of (needles_of cells)) pair)
place_means Tells cells pair p seen is =
    subst (PlaceMeans Tells pair p) (sym (at_cells cells pair)) (means_by Tells pair (last_cell cells pair) p (λ c e. last_pair cells pair c e) seen is)

-- PUTS

or_or : (a b : Option Cell) (c : Option Cell) → option_or (option_or a b) c ≡ option_or a (option_or b c)
or_or None b c = refl
or_or (Some x) b c = refl

pub last_more : (cells : List Cell) (c : Cell) (p : Pair) → last_cell (cells ++ c ∷ []) p ≡ option_or (cond (pair_eq c.pair p) (Some c) None) (last_cell cells p)
last_more [] c p = by_test (pair_eq c.pair p)
  where
    by_test : (b : Bool) → option_or None (cond b (Some c) None) ≡ option_or (cond b (Some c) None) None
    by_test true = refl
    by_test false = refl
last_more (cell ∷ cells) c p =
    ap (λ (o : Option Cell). option_or o (cond (pair_eq cell.pair p) (Some cell) None)) (last_more cells c p)
    ∙ or_or (cond (pair_eq c.pair p) (Some c) None) (last_cell cells p) (cond (pair_eq cell.pair p) (Some cell) None)

pub makes_put : (s : Stored) (pair : Pair) (cookie : Cookie) (bytes : List ℕ) → Makes (Put pair cookie bytes) s (with_cell s pair cookie bytes)
makes_put s pair cookie bytes = record {
  table = ap table_of (map-append needle_of_cell s.cells (live_cell s.end pair cookie bytes ∷ [])) ∙ table_of-append (needles_of s.cells) (needle_of_cell (live_cell s.end pair cookie bytes));
  end = refl;
  cells = length-append s.cells (live_cell s.end pair cookie bytes ∷ []);
  records = refl;
  generation = refl;
}

-- DELETES

abbrev pub flagged : ℕ → Cell → Cell
flagged at cell = cond (nat_eq cell.at at) (record cell { deleted = true }) cell

flagged_pair : (b : Bool) (cell : Cell) → (cond b (record cell { deleted = true }) cell).pair ≡ cell.pair
flagged_pair true cell = refl
flagged_pair false cell = refl

map_or : (f : Cell → Cell) (o : Option Cell) (b : Bool) (cell : Cell) → option_or (option_map f o) (cond b (Some (f cell)) None) ≡ option_map f (option_or o (cond b (Some cell) None))
map_or f None true cell = refl
map_or f None false cell = refl
map_or f (Some c) true cell = refl
map_or f (Some c) false cell = refl

pub last_flagged : (at : ℕ) (cells : List Cell) (p : Pair) → last_cell (with_flag at true cells) p ≡ option_map (flagged at) (last_cell cells p)
last_flagged at [] p = refl
last_flagged at (cell ∷ cells) p =
    ap (λ (o : Option Cell). option_or o (cond (pair_eq (flagged at cell).pair p) (Some (flagged at cell)) None)) (last_flagged at cells p)
    ∙ ap (λ (q : Pair). option_or (option_map (flagged at) (last_cell cells p)) (cond (pair_eq q p) (Some (flagged at cell)) None)) (flagged_pair (nat_eq cell.at at) cell)
    ∙ map_or (flagged at) (last_cell cells p) (pair_eq cell.pair p) cell

pub flag_here : (at : ℕ) (c : Cell) → c.at ≡ at → flagged at c ≡ record c { deleted = true }
flag_here at c e = ap (λ (b : Bool). cond b (record c { deleted = true }) c) (eq-eqb c.at at e)

pub flag_elsewhere : (at : ℕ) (c : Cell) → c.at ≢ at → flagged at c ≡ c
flag_elsewhere at c e = ap (λ (b : Bool). cond b (record c { deleted = true }) c) (ne_eqb c.at at e)

-- two last cells at one place are one cell
apart_by : (cell c d : Cell) (cells : List Cell) (o q : Option Cell) (b t : Bool) → ((x : Cell) → o ≡ Some x → HasPlace x.at cells) → ((x : Cell) → q ≡ Some x → HasPlace x.at cells)
    → ((n : ℕ) → HasPlace n cells → cell.at < n) → ((x y : Cell) → o ≡ Some x → q ≡ Some y → x.at ≡ y.at → x ≡ y)
    → option_or o (cond b (Some cell) None) ≡ Some c → option_or q (cond t (Some cell) None) ≡ Some d → c.at ≡ d.at → c ≡ d
apart_by cell c d cells None None true true oh qh later rest e f at = cc
apart_by cell c d cells None None true false oh qh later rest e f at = absurd cc
apart_by cell c d cells None None false t oh qh later rest e f at = absurd cc
apart_by cell c d cells None (Some y) true t oh qh later rest e f at =
    let same : cell ≡ c = cc in
    let y_is : y ≡ d = cc in
    let h = later y.at (qh y refl) in
    let at_c : cell.at ≡ c.at = ap (λ (x : Cell). x.at) same in
    let at_d : y.at ≡ d.at = ap (λ (x : Cell). x.at) y_is in
    absurd (omega (arith, h, at_c, at_d, at))
apart_by cell c d cells None (Some y) false t oh qh later rest e f at = absurd cc
apart_by cell c d cells (Some x) None b true oh qh later rest e f at =
    let same : cell ≡ d = cc in
    let x_is : x ≡ c = cc in
    let h = later x.at (oh x refl) in
    let at_d : cell.at ≡ d.at = ap (λ (z : Cell). z.at) same in
    let at_c : x.at ≡ c.at = ap (λ (z : Cell). z.at) x_is in
    absurd (omega (arith, h, at_c, at_d, at))
apart_by cell c d cells (Some x) None b false oh qh later rest e f at = absurd cc
apart_by cell c d cells (Some x) (Some y) b t oh qh later rest e f at = rest c d e f at

pub last_apart : (from : ℕ) (bytes : List ℕ) (cells : List Cell) (p q : Pair) (c d : Cell) → AreCellsAt from bytes cells
    → last_cell cells p ≡ Some c → last_cell cells q ≡ Some d → c.at ≡ d.at → c ≡ d
last_apart from bytes [] p q c d are e f at = absurd cc
last_apart from bytes (cell ∷ cells) p q c d are e f at =
    let long = length-needle are.0 (needle_of_cell cell) are.3.is in
    let here = are.3.place in
    apart_by cell c d cells (last_cell cells p) (last_cell cells q) (pair_eq cell.pair p) (pair_eq cell.pair q)
    (λ x h. last_placed cells p x h) (λ x h. last_placed cells q x h)
    (λ n h. let range = placed (from + length are.0) n are.1 cells are.4 h in omega (arith, range.0, long, here))
    (λ x y h k same. last_apart (from + length are.0) are.1 cells p q x y are.4 h k same)
    e f at

-- behind a delete of the last cell of a pair, the last cell of another pair is as it was
other_by : (at : ℕ) (o : Option Cell) → ((c : Cell) → o ≡ Some c → c.at ≢ at) → option_map (flagged at) o ≡ o
other_by at None apart = refl
other_by at (Some c) apart = ap Some (flag_elsewhere at c (apart c refl))

pub last_other : (from : ℕ) (bytes : List ℕ) (cells : List Cell) (p q : Pair) (d : Cell) → AreCellsAt from bytes cells → last_cell cells q ≡ Some d → pair_eq q p ≡ false
    → last_cell (with_flag d.at true cells) p ≡ last_cell cells p
last_other from bytes cells p q d are e other =
    last_flagged d.at cells p
    ∙ other_by d.at (last_cell cells p) (λ c f at.
    let same : c ≡ d = last_apart from bytes cells p q c d are f e at in
    let pairs : q ≡ p = sym (last_pair cells q d e) ∙ ap (λ (x : Cell). x.pair) (sym same) ∙ last_pair cells p c f in
    true≢false (sym (subst (λ (x : Pair). pair_eq q x ≡ true) pairs (pair_refl q)) ∙ other))

pub last_own : (cells : List Cell) (q : Pair) (d : Cell) → last_cell cells q ≡ Some d → last_cell (with_flag d.at true cells) q ≡ Some (record d { deleted = true })
last_own cells q d e = last_flagged d.at cells q ∙ ap (option_map (flagged d.at)) e ∙ ap Some (flag_here d.at d refl)

pub makes_delete : (from : ℕ) (bytes : List ℕ) (s : Stored) (q : Pair) (d : Cell) → AreCellsAt from bytes s.cells → last_cell s.cells q ≡ Some d → Makes (Del q) s (without_cell s d.at)
makes_delete from bytes s q d are e = record {
  table = same_tables (table_of (needles_of (with_flag d.at true s.cells))) (without_pair (table_of (needles_of s.cells)) q)
      (ordered-table_of (needles_of (with_flag d.at true s.cells))) (ordered-without_pair (table_of (needles_of s.cells)) q (ordered-table_of (needles_of s.cells)))
      (λ p. at_cells (with_flag d.at true s.cells) p
      ∙ elim (cases_Bool (pair_eq q p)) [
        | inl t ↦
            let same : q ≡ p = pair_same q p t in
            subst (λ (x : Pair). cell_outcome (last_cell (with_flag d.at true s.cells) x) outcome.Nothing ≡ outcome.Nothing) same
            (ap (λ (o : Option Cell). cell_outcome o outcome.Nothing) (last_own s.cells q d e))
            ∙ sym (cond-true (pair_eq q p) outcome.Nothing (outcome_at (table_of (needles_of s.cells)) p) t)
        | inr f ↦
            ap (λ (o : Option Cell). cell_outcome o outcome.Nothing) (last_other from bytes s.cells p q d are e f)
            ∙ sym (at_cells s.cells p)
            ∙ sym (cond-false (pair_eq q p) outcome.Nothing (outcome_at (table_of (needles_of s.cells)) p) f)
      ]
      ∙ sym (at-without_pair (table_of (needles_of s.cells)) q p));
  end = let e : s.end ≡ s.end + 0 = omega arith in e;
  cells = length-map s.cells (flagged d.at) ∙ (let e : length s.cells ≡ length s.cells + 0 = omega arith in e);
  records = refl;
  generation = refl;
}

-- a delete of what is not there
pub without_nothing : (table : Table) (q : Pair) → IsOrdered table → outcome_at table q ≡ outcome.Nothing → without_pair table q ≡ table
without_nothing table q ordered none =
    same_tables (without_pair table q) table (ordered-without_pair table q ordered) ordered (λ p.
    at-without_pair table q p
    ∙ elim (cases_Bool (pair_eq q p)) [
      | inl t ↦
          let same : q ≡ p = pair_same q p t in
          cond-true (pair_eq q p) outcome.Nothing (outcome_at table p) t ∙ sym (subst (λ (x : Pair). outcome_at table x ≡ outcome.Nothing) same none)
      | inr f ↦ cond-false (pair_eq q p) outcome.Nothing (outcome_at table p) f
    ])

pub makes_nothing : (s : Stored) (q : Pair) → outcome_at (table_of (needles_of s.cells)) q ≡ outcome.Nothing → Makes (Del q) s s
makes_nothing s q none = record {
  table = sym (without_nothing (table_of (needles_of s.cells)) q (ordered-table_of (needles_of s.cells)) none);
  end = let e : s.end ≡ s.end + 0 = omega arith in e;
  cells = let e : length s.cells ≡ length s.cells + 0 = omega arith in e;
  records = refl;
  generation = refl;
}
