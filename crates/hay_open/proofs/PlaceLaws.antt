-- The places of the last cells of pairs, one cell after another.
use Rattle.std.proofs.Common.{◌≡◌, ℕ, ◌+◌, ◌≤◌, Bool, true, false, cond, List, [], ◌∷◌, ◌++◌, length, map, take, drop, Option, Some, None, refl, sym, ap, subst, ◌∙◌, append_assoc}
use Rattle.std.specs.Option.{option_or}
use Rattle.std.specs.List.{AllZip, slice_get}
use Rattle.std.proofs.lemmas.List.{append-nil, take_all}
use Rattle.hay_needle.specs.declared.needle.Cell.{Cell}
use Rattle.hay_needle.specs.declared.needle.CellHead.{CellHead}
use Rattle.hay_needle.specs.declared.needle.Pair.{Pair}
use Rattle.hay_needle.specs.Needle.{NeedleBytes, needle_of_cell}
use Rattle.hay_needle.specs.Sizes.{needle_total}
use Rattle.hay_needle.specs.Tables.{pair_eq}
use Rattle.hay_needle.proofs.Needles.{length-needle}
use Rattle.hay_volume.specs.Cells.{StandsCell, cell_head}
use Rattle.hay_index.specs.declared.record.Record.{Record}
use Rattle.hay_map.specs.declared.place.Place.{Place}
use Rattle.hay_map.specs.declared.place.Place.TheVariants as place
use Rattle.hay_map.specs.declared.view.OpenCell.{OpenCell}
use Rattle.hay_map.specs.Rows.{last_place}
use Rattle.hay_map.specs.Sealed.{SealedNeedle}
use Rattle.hay_open.specs.Listing.{ArePlaced}
use Rattle.hay_open.specs.Finds.{IsOrphanOf, StandsAt, unseen_cell}
use Rattle.hay_open.specs.Stored.{IsSealedCell, PlaceOf, cell_record, last_cell}
use Rattle.hay_open.proofs.CellRows.{map_take, take_here}

-- THE PIECE OF A CELL

pub sealed_cell : (Tells : Type 0) (head : CellHead) (cell : Cell) (file bytes : List ℕ) (len : ℕ) (needle : SealedNeedle) → Tells → StandsCell head.at file cell
    → head ≡ cell_head cell → head.deleted ≡ false → len ≡ needle_total head.size
    → bytes ≡ take len (drop head.at file) → needle ≡ record { at = head.at; size = head.size; bytes = bytes } → IsSealedCell Tells cell needle
sealed_cell Tells head cell file bytes len needle tells here is live long seen made =
    let alive : cell.deleted ≡ false = ap (λ (h : CellHead). h.deleted) (sym is) ∙ live in
    let size : len ≡ length here.needle = long ∙ ap (λ (h : CellHead). needle_total h.size) is ∙ sym (length-needle here.needle (needle_of_cell cell) here.is.is) in
    let same : here.needle ≡ needle.bytes = sym here.stand ∙ ap (λ n. take n (drop head.at file)) (sym size) ∙ sym seen ∙ ap (λ (s : SealedNeedle). s.bytes) (sym made) in
    record {
      alive = alive;
      at = ap (λ (s : SealedNeedle). s.at) made ∙ sym here.is.place;
      sealed = record {
        tells = tells;
        size = ap (λ (s : SealedNeedle). s.size) made ∙ ap (λ (h : CellHead). h.size) is;
        version = cell.version;
        is = subst (λ (l : List ℕ). NeedleBytes l (record { version = cell.version; pair = cell.pair; photo = record { cookie = cell.cookie; bytes = cell.bytes }; deleted = false })) same
            (subst (λ (b : Bool). NeedleBytes here.needle (record {
              version = cell.version;
              pair = cell.pair;
              photo = record { cookie = cell.cookie; bytes = cell.bytes };
              deleted = b;
            })) alive here.is.is);
      };
    }

-- ONE CELL MORE

or_cond : (b : Bool) (s : Cell) (x y : Option Cell) → option_or (cond b (Some s) x) y ≡ cond b (Some s) (option_or x y)
or_cond true s x y = refl
or_cond false s x y = refl

pub last_cell-more : (cells : List Cell) (cell : Cell) (pair : Pair) → last_cell (cells ++ cell ∷ []) pair ≡ cond (pair_eq cell.pair pair) (Some cell) (last_cell cells pair)
last_cell-more [] cell pair = refl
last_cell-more (first ∷ cells) cell pair =
    ap (λ (o : Option Cell). option_or o (cond (pair_eq first.pair pair) (Some first) None)) (last_cell-more cells cell pair)
    ∙ or_cond (pair_eq cell.pair pair) cell (last_cell cells pair) (cond (pair_eq first.pair pair) (Some first) None)

pub last_place-more : {P : Type 0} (cells : List (OpenCell P)) (cell : OpenCell P) (pair : Pair) (before : Place P)
    → last_place (cells ++ cell ∷ []) pair before ≡ cond (pair_eq cell.pair pair) cell.place (last_place cells pair before)
last_place-more [] cell pair before = refl
last_place-more (first ∷ cells) cell pair before = last_place-more cells cell pair (cond (pair_eq first.pair pair) first.place before)

pub place_step : {P : Type 0} (Tells : Type 0) (whole : List Cell) (k : ℕ) (cell : Cell) (own : Pair) (done next : List (OpenCell P)) (at : Place P) → slice_get whole k ≡ Some cell
    → own ≡ cell.pair → ArePlaced Tells whole k done
    → next ≡ done ++ record { pair = own; place = at } ∷ [] → PlaceOf Tells (Some cell) at → ArePlaced Tells whole (k + 1) next
place_step {P} Tells whole k cell own done next at there pair_is before is holds pair =
    let same : last_cell (take (k + 1) whole) pair ≡ cond (pair_eq cell.pair pair) (Some cell) (last_cell (take k whole) pair) =
    ap (λ (l : List Cell). last_cell l pair) (take_here k whole cell there) ∙ last_cell-more (take k whole) cell pair in
    let places : last_place next pair place.None ≡ cond (pair_eq cell.pair pair) at (last_place done pair place.None) =
    ap (λ (l : List (OpenCell P)). last_place l pair place.None) is ∙ last_place-more done (record { pair = own; place = at }) pair place.None
    ∙ ap (λ (p : Pair). cond (pair_eq p pair) at (last_place done pair place.None)) pair_is in
    subst (λ (o : Option Cell). PlaceOf Tells o (last_place next pair place.None)) (sym same)
    (subst (λ (p : Place P). PlaceOf Tells (cond (pair_eq cell.pair pair) (Some cell) (last_cell (take k whole) pair)) p) (sym places) (chosen (pair_eq cell.pair pair)))
  where
    chosen : (b : Bool) → PlaceOf Tells (cond b (Some cell) (last_cell (take k whole) pair)) (cond b at (last_place done pair place.None))
    chosen true = holds
    chosen false = before pair

-- behind the last cell all places are right
pub all_placed : {P : Type 0} (Tells : Type 0) (whole : List Cell) (k : ℕ) (done : List (OpenCell P)) → length whole ≤ k → ArePlaced Tells whole k done → (pair : Pair)
    → PlaceOf Tells (last_cell whole pair) (last_place done pair place.None)
all_placed Tells whole k done cells placed pair = subst (λ (l : List Cell). PlaceOf Tells (last_cell l pair) (last_place done pair place.None)) (take_all k whole cells) (placed pair)

-- CELLS THAT ARE NOT LOOKED AT

or_or : (x y z : Option Cell) → option_or (option_or x y) z ≡ option_or x (option_or y z)
or_or None y z = refl
or_or (Some cell) y z = refl

or_none : (x : Option Cell) → option_or x None ≡ x
or_none None = refl
or_none (Some cell) = refl

unseen_more : {P : Type 0} (Tells : Type 0) (cells : List Cell) (pair : Pair) (o : Option Cell) (before : Place P) → PlaceOf Tells o before
    → PlaceOf Tells (option_or (last_cell cells pair) o) (last_place (map unseen_cell (map cell_record cells)) pair before)
unseen_more Tells [] pair o before is = is
unseen_more {P} Tells (cell ∷ cells) pair o before is =
    let b : Bool = pair_eq cell.pair pair in
    subst (λ (x : Option Cell). PlaceOf Tells x (last_place (map unseen_cell (map cell_record cells)) pair (cond b (place.Unseen cell.at (length cell.bytes)) before)))
    (sym (or_or (last_cell cells pair) (cond b (Some cell) None) o))
    (unseen_more Tells cells pair (option_or (cond b (Some cell) None) o) (cond b (place.Unseen cell.at (length cell.bytes)) before) (chosen b))
  where
    chosen : (b : Bool) → PlaceOf Tells (option_or (cond b (Some cell) None) o) (cond b (place.Unseen cell.at (length cell.bytes)) before)
    chosen true = (refl, refl)
    chosen false = is

-- the places of the first k cells by their records
pub recorded_placed : {P : Type 0} (Tells : Type 0) (whole : List Cell) (k : ℕ) (rows : List Record) (done : List (OpenCell P)) → rows ≡ map cell_record whole
    → done ≡ map unseen_cell (take k rows) → ArePlaced Tells whole k done
recorded_placed {P} Tells whole k rows done of is pair =
    let first : List Cell = take k whole in
    let same : done ≡ map unseen_cell (map cell_record first) = is ∙ ap (λ (l : List Record). map unseen_cell (take k l)) of ∙ ap (λ (l : List Record). map unseen_cell l) (map_take k whole) in
    subst (λ (l : List (OpenCell P)). PlaceOf {P = P} Tells (last_cell first pair) (last_place l pair place.None)) (sym same)
    (subst (λ (o : Option Cell). PlaceOf {P = P} Tells o (last_place (map unseen_cell (map cell_record first)) pair place.None)) (or_none (last_cell first pair))
    (unseen_more {P = P} Tells first pair None place.None tt))

-- CELLS THAT HAVE NO RECORD

zip_push : {A B : Type 0} (R : A → B → Type 0) (xs : List A) (ys : List B) (x : A) (y : B) → AllZip R xs ys → R x y → AllZip R (xs ++ x ∷ []) (ys ++ y ∷ [])
zip_push R [] [] x y all one = (one, tt)
zip_push R [] (b ∷ ys) x y all one = absurd all
zip_push R (a ∷ xs) [] x y all one = absurd all
zip_push R (a ∷ xs) (b ∷ ys) x y all one = (all.0, zip_push R xs ys x y all.1 one)

-- the places of the first k of them were added
pub AddsOrphans : {P : Type 0} → Type 0 → List Cell → ℕ → List (OpenCell P) → List (OpenCell P) → Type 0
AddsOrphans {P} Tells orphans k old new = (seen : List (OpenCell P)) × (new ≡ old ++ seen) × AllZip (IsOrphanOf Tells) (take k orphans) seen

pub orphans_none : {P : Type 0} (Tells : Type 0) (orphans : List Cell) (cells : List (OpenCell P)) → AddsOrphans Tells orphans 0 cells cells
unfolding AddsOrphans
orphans_none Tells orphans cells = ([], sym (append-nil cells), tt)

pub orphans_more : {P : Type 0} (Tells : Type 0) (orphans : List Cell) (k : ℕ) (cell : Cell) (own : Pair) (at : Place P) (old mid new : List (OpenCell P))
    → slice_get orphans k ≡ Some cell → own ≡ cell.pair → StandsAt cell.at at → PlaceOf Tells (Some cell) at
    → AddsOrphans Tells orphans k old mid → new ≡ mid ++ record { pair = own; place = at } ∷ [] → AddsOrphans Tells orphans (k + 1) old new
unfolding AddsOrphans
orphans_more {P} Tells orphans k cell own at old mid new there pair_is looked of (seen, is, all) grown =
    let one : OpenCell P = record { pair = own; place = at } in (
      seen ++ one ∷ [],
      grown ∙ ap (λ (l : List (OpenCell P)). l ++ one ∷ []) is ∙ append_assoc old seen (one ∷ []),
      subst (λ (l : List Cell). AllZip (IsOrphanOf Tells) l (seen ++ one ∷ [])) (sym (take_here k orphans cell there))
          (zip_push (IsOrphanOf Tells) (take k orphans) seen cell one all (record { pair = pair_is; place = of; stands = looked })),
    )

pub orphans_all : {P : Type 0} (Tells : Type 0) (orphans : List Cell) (k : ℕ) (old new : List (OpenCell P)) → length orphans ≤ k → AddsOrphans Tells orphans k old new
    → (seen : List (OpenCell P)) × (new ≡ old ++ seen) × AllZip (IsOrphanOf Tells) orphans seen
unfolding AddsOrphans
orphans_all Tells orphans k old new many (seen, is, all) = (seen, is, subst (λ (l : List Cell). AllZip (IsOrphanOf Tells) l seen) (take_all k orphans many) all)

-- a disk without cells has no places
pub void_places : {P : Type 0} (Tells : Type 0) (cells : List Cell) (done : List (OpenCell P)) → cells ≡ [] → done ≡ [] → (pair : Pair)
    → PlaceOf Tells (last_cell cells pair) (last_place done pair place.None)
void_places {P} Tells cells done none void pair =
    subst (λ (l : List Cell). PlaceOf Tells (last_cell l pair) (last_place done pair place.None)) (sym none)
    (subst (λ (l : List (OpenCell P)). PlaceOf Tells (last_cell [] pair) (last_place l pair place.None)) (sym void) tt)
