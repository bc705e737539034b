-- Counting the cells of a volume file.
use Rattle.std.proofs.Common.{◌≡◌, ℕ, ◌+◌, ◌*◌, ◌<◌, ◌≤◌, Bool, true, false, not, cond, List, [], ◌∷◌, length, get_or, take, BTreeSet, btree_set_len, refl, sym, ap, subst, ◌∙◌}
use Rattle.std.proofs.Common.{arith, Option, Some, None}
use Rattle.std.specs.Prelude.{map, is_some, count_by}
use Rattle.std.specs.List.{slice_get}
use Rattle.std.specs.BTreeSet.{IsEmpty, Updates, contains}
use Rattle.std.specs.Ordering.{eq_by_cmp}
use Rattle.std.specs.FinMap.Entries.{find, find-put, find-where_key, length-put, length_without}
use Rattle.std.proofs.lemmas.Bool.{cond-true, cond-false}
use Rattle.std.proofs.lemmas.List.{map-append}
use Rattle.std.proofs.lemmas.List.Sums.{sum_by-cons}
use Rattle.std.proofs.lemmas.Option.{slice_get-get_or}
use Rattle.hay_needle.specs.declared.needle.Cell.{Cell}
use Rattle.hay_needle.specs.declared.needle.CellHead.{CellHead}
use Rattle.hay_needle.specs.declared.needle.Outcome.{Outcome}
use Rattle.hay_needle.specs.declared.needle.Outcome.TheVariants as outcome
use Rattle.hay_needle.specs.declared.needle.Pair.{Pair}
use Rattle.hay_needle.specs.declared.needle.Photo.{Photo}
use Rattle.hay_needle.specs.Needle.{needle_of_cell}
use Rattle.hay_needle.specs.Tables.{Table, needle_outcome, pair_cmp, table_of, with_outcome, with_photo, without_pair}
use Rattle.hay_needle.proofs.TableLaws.{IsOrdered, ordered-table_of, pair_apart, pair_exact, pair_tied, pair_total, table_of-append}
use Rattle.hay_needle.specs.Sizes.{needle_total}
use Rattle.hay_volume.specs.Cells.{cell_head, needles_of}
use Rattle.hay_volume.specs.Needles.{AreHeadsFrom}
use Rattle.hay_open.proofs.CellRows.{head_there, take_here}
use Rattle.hay_check.specs.Verdicts.{is_old, old_count}

-- THE PAIRS THAT HAVE A PHOTO

-- the pairs of a table
pub record KeepsPairs (pairs : BTreeSet Pair) (table : Table) : Type 0 where
  pub has : (q : Pair) → contains pair_cmp pairs q ≡ is_some (find pair_cmp q table)
  pub long : btree_set_len pairs ≡ length table

tied_apart : (a b : Pair) → eq_by_cmp pair_cmp a b ≡ eq_by_cmp pair_cmp b a
tied_apart a b = pair_tied a b ∙ pair_apart a b ∙ sym (pair_tied b a)

some_cond : {X : Type 0} (b : Bool) (x : X) (o : Option X) → is_some (cond b (Some x) o) ≡ cond b true (is_some o)
some_cond true x o = refl
some_cond false x o = refl

none_cond : {X : Type 0} (b : Bool) (o : Option X) → is_some (cond (not b) o None) ≡ cond b false (is_some o)
none_cond true o = refl
none_cond false o = refl

one_longer : (b : Bool) (n : ℕ) → cond b n (n + 1) ≡ n + cond (not b) 1 0
one_longer true n = omega arith
one_longer false n = refl

pub pairs_added : (old new : BTreeSet Pair) (table : Table) (pair : Pair) (photo : Photo) (added : Bool) → KeepsPairs old table → IsOrdered table
    → Updates pair_cmp old new pair true → added ≡ not (contains pair_cmp old pair)
    → btree_set_len new ≡ btree_set_len old + cond added 1 0 → KeepsPairs new (with_photo table pair photo)
pairs_added old new table pair photo added keeps ordered updates is long = record {
  has = λ q.
      updates.0 q
      ∙ ap (λ (b : Bool). cond b true (contains pair_cmp old q)) (tied_apart pair q)
      ∙ ap (λ (b : Bool). cond (eq_by_cmp pair_cmp q pair) true b) (keeps.has q)
      ∙ sym (some_cond (eq_by_cmp pair_cmp q pair) photo (find pair_cmp q table))
      ∙ ap (λ (o : Option Photo). is_some o) (sym (find-put pair_cmp pair_total q pair photo table));
  long =
      long ∙ ap (λ (b : Bool). btree_set_len old + cond b 1 0) (is ∙ ap not (keeps.has pair)) ∙ ap (λ n. n + cond (not (is_some (find pair_cmp pair table))) 1 0) keeps.long
      ∙ sym (one_longer (is_some (find pair_cmp pair table)) (length table)) ∙ sym (length-put pair_cmp pair_total pair photo table ordered);
}

one_fewer : (b : Bool) (n m table left : ℕ) → m + cond b 1 0 ≡ n → n ≡ table → cond b 1 0 + left ≡ table → m ≡ left
one_fewer b n m table left is same rest = omega (arith, is, same, rest)

pub pairs_removed : (old new : BTreeSet Pair) (table : Table) (pair : Pair) (removed : Bool) → KeepsPairs old table → IsOrdered table → Updates pair_cmp old new pair false
    → removed ≡ contains pair_cmp old pair
    → btree_set_len new + cond removed 1 0 ≡ btree_set_len old → KeepsPairs new (without_pair table pair)
pairs_removed old new table pair removed keeps ordered updates is long = record {
  has = λ q.
      updates.0 q
      ∙ ap (λ (b : Bool). cond (eq_by_cmp pair_cmp pair q) false b) (keeps.has q)
      ∙ sym (none_cond (eq_by_cmp pair_cmp pair q) (find pair_cmp q table))
      ∙ ap (λ (o : Option Photo). is_some o)
      (sym (find-where_key pair_cmp (λ other. not (eq_by_cmp pair_cmp pair other)) q (λ x tied. ap (λ (y : Pair). not (eq_by_cmp pair_cmp pair y)) (sym (pair_exact q x tied))) table));
  long =
      one_fewer removed (btree_set_len old) (btree_set_len new) (length table) (length (without_pair table pair)) long keeps.long
      (ap (λ (b : Bool). cond b 1 0 + length (without_pair table pair)) (is ∙ keeps.has pair) ∙ length_without pair_cmp pair_total pair table ordered);
}

-- a pair that is added is one more at most
pub one_most : (b : Bool) → cond b 1 0 ≤ 1
one_most true = omega arith
one_most false = omega arith

-- the pairs of the first cells
abbrev pub KeepsFirst : BTreeSet Pair → List CellHead → ℕ → Type 0
KeepsFirst pairs heads k = (cells : List Cell) → heads ≡ map cell_head cells → KeepsPairs pairs (table_of (needles_of (take k cells)))

pub no_pairs : (pairs : BTreeSet Pair) (heads : List CellHead) → IsEmpty pairs → KeepsFirst pairs heads 0
no_pairs pairs heads none cells are = record {
  has = λ q. ap (λ (keys : List Pair). contains pair_cmp (record { keys = keys }) q) none;
  long = ap (λ (keys : List Pair). length keys) none;
}

-- the table with one cell more
table_more : (k : ℕ) (cells : List Cell) (cell : Cell) → slice_get cells k ≡ Some cell
    → table_of (needles_of (take (k + 1) cells)) ≡ with_outcome (table_of (needles_of (take k cells))) cell.pair (needle_outcome (needle_of_cell cell))
table_more k cells cell there =
    ap (λ (l : List Cell). table_of (needles_of l)) (take_here k cells cell there) ∙ ap table_of (map-append needle_of_cell (take k cells) (cell ∷ []))
    ∙ table_of-append (needles_of (take k cells)) (needle_of_cell cell)

-- the cell of a number
cell_of : (k : ℕ) (heads : List CellHead) (cells : List Cell) (d : CellHead) → heads ≡ map cell_head cells → k < length heads
    → (cell : Cell) × (slice_get cells k ≡ Some cell) × (get_or heads k d ≡ cell_head cell)
cell_of k heads cells d are within = head_there k cells (get_or heads k d) (ap (λ (l : List CellHead). slice_get l k) (sym are) ∙ slice_get-get_or heads k d within)

pub one_added : (old new : BTreeSet Pair) (heads : List CellHead) (k : ℕ) (d : CellHead) (pair : Pair) (added : Bool) → KeepsFirst old heads k → k < length heads
    → (get_or heads k d).deleted ≡ false → pair ≡ (get_or heads k d).pair
    → Updates pair_cmp old new pair true → added ≡ not (contains pair_cmp old pair) → btree_set_len new ≡ btree_set_len old + cond added 1 0 → KeepsFirst new heads (k + 1)
one_added old new heads k d pair added keeps within alive pair_is updates is long cells are =
    let cell = cell_of k heads cells d are within in
    let table = table_of (needles_of (take k cells)) in
    let photo : Photo = record { cookie = cell.0.cookie; bytes = cell.0.bytes } in
    let put : with_outcome table cell.0.pair (needle_outcome (needle_of_cell cell.0)) ≡ with_photo table cell.0.pair photo =
    ap (λ (o : Outcome). with_outcome table cell.0.pair o) (cond-false cell.0.deleted outcome.Nothing (outcome.Photo photo) (sym (ap (λ (h : CellHead). h.deleted) cell.2) ∙ alive)) in
    let same : pair ≡ cell.0.pair = pair_is ∙ ap (λ (h : CellHead). h.pair) cell.2 in
    subst (λ (t : Table). KeepsPairs new t) (ap (λ (q : Pair). with_photo table q photo) same ∙ sym put ∙ sym (table_more k cells cell.0 cell.1))
    (pairs_added old new table pair photo added (keeps cells are) (ordered-table_of (needles_of (take k cells))) updates is long)

pub one_removed : (old new : BTreeSet Pair) (heads : List CellHead) (k : ℕ) (d : CellHead) (pair : Pair) (removed : Bool) → KeepsFirst old heads k → k < length heads
    → (get_or heads k d).deleted ≡ true → pair ≡ (get_or heads k d).pair
    → Updates pair_cmp old new pair false → removed ≡ contains pair_cmp old pair → btree_set_len new + cond removed 1 0 ≡ btree_set_len old → KeepsFirst new heads (k + 1)
one_removed old new heads k d pair removed keeps within dead pair_is updates is long cells are =
    let cell = cell_of k heads cells d are within in
    let table = table_of (needles_of (take k cells)) in
    let photo : Photo = record { cookie = cell.0.cookie; bytes = cell.0.bytes } in
    let gone : with_outcome table cell.0.pair (needle_outcome (needle_of_cell cell.0)) ≡ without_pair table cell.0.pair =
    ap (λ (o : Outcome). with_outcome table cell.0.pair o) (cond-true cell.0.deleted outcome.Nothing (outcome.Photo photo) (sym (ap (λ (h : CellHead). h.deleted) cell.2) ∙ dead)) in
    let same : pair ≡ cell.0.pair = pair_is ∙ ap (λ (h : CellHead). h.pair) cell.2 in
    subst (λ (t : Table). KeepsPairs new t) (ap (λ (q : Pair). without_pair table q) same ∙ sym gone ∙ sym (table_more k cells cell.0 cell.1))
    (pairs_removed old new table pair removed (keeps cells are) (ordered-table_of (needles_of (take k cells))) updates is long)

-- WHERE THEY END

-- cells that stand one behind another reach so far
pub heads_reach : (at end : ℕ) (heads : List CellHead) → AreHeadsFrom at heads end → at + length heads * needle_total 0 ≤ end
heads_reach at end [] is = omega (arith, is)
heads_reach at end (head ∷ heads) row = let rest = heads_reach (at + needle_total head.size) end heads row.1 in omega (arith, rest)

-- OLD CELLS

pub old_heads : (cells : List Cell) → count_by (λ (head : CellHead). is_old head.version) (map cell_head cells) ≡ old_count cells
old_heads [] = refl
old_heads (cell ∷ cells) =
    let rest = old_heads cells in
    let heads = sum_by-cons (λ (head : CellHead). cond (is_old head.version) 1 0) (cell_head cell) (map cell_head cells) in
    let all = sum_by-cons (λ (c : Cell). cond (is_old c.version) 1 0) cell cells in
    omega (arith, heads, all, rest)
