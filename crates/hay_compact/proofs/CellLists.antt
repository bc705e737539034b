-- Cells of a volume file: parts of them, the last one of a pair, and its flag.
use Rattle.std.proofs.Common.{◌≡◌, ◌≢◌, ◌⊎◌, inl, inr, ◌≤◌, ◌<◌, ◌+◌, ℕ, Bool, true, false, not, ◌&&◌, cond, eqb, List, [], ◌∷◌, ◌++◌, length, Option, Some, None, refl, sym, ap}
use Rattle.std.proofs.Common.{◌∙◌, subst, arith, append_assoc}
use Rattle.std.specs.Prelude.{sum_by, map}
use Rattle.std.specs.Option.{option_or}
use Rattle.std.proofs.lemmas.Bool.{cases_Bool, cond-true, cond-false, and_parts, and_from, not-true, true≢false, eq-eqb, ne_eqb}
use Rattle.std.proofs.lemmas.List.{map-append}
use Rattle.std.proofs.lemmas.List.Sums.{sum_by-cons}
use Rattle.hay_needle.specs.declared.needle.Cell.{Cell}
use Rattle.hay_needle.specs.declared.needle.Needle.{Needle}
use Rattle.hay_needle.specs.declared.needle.Pair.{Pair}
use Rattle.hay_needle.specs.Needle.{needle_of_cell}
use Rattle.hay_needle.specs.Tables.{pair_eq, lacks, flag_last}
use Rattle.hay_needle.proofs.TableLaws.{lacks_append, pair_same, pair_refl}
use Rattle.hay_volume.specs.Cells.{HasCells, HasPlace, StandsCell, needles_of, with_flag}
use Rattle.hay_volume.proofs.Readings.{cells_first}
use Rattle.hay_index.specs.declared.record.Record.{Record}
use Rattle.hay_index.specs.Records.{AreInRow}
use Rattle.hay_open.specs.Stored.{cell_record, last_cell}
use Rattle.hay_compact.specs.Copying.{IsLatest, IsPlaceOf, cell_total}

-- PLACES

-- behind the first cells the others stand
pub after_front : (at end : ℕ) (file : List ℕ) (front behind : List Cell) → HasCells at file (front ++ behind) end → HasCells (at + sum_by cell_total front) file behind end
after_front at end file [] behind has = subst (λ k. HasCells k file behind end) (let e : at ≡ at + 0 = omega arith in e) has
after_front at end file (cell ∷ front) behind has =
    let others = (cells_first at end file cell (front ++ behind) has).1 in
    let here : at + cell_total cell + sum_by cell_total front ≡ at + sum_by cell_total (cell ∷ front) = omega (arith, sum_by-cons cell_total cell front) in
    subst (λ k. HasCells k file behind end) here (after_front (at + cell_total cell) end file front behind others)

-- all cells end where their bytes do
pub cells_end : (at end : ℕ) (file : List ℕ) (cells : List Cell) → HasCells at file cells end → at + sum_by cell_total cells ≡ end
cells_end at end file [] has = omega (arith, has.ends, ap length has.are)
cells_end at end file (cell ∷ cells) has =
    let others = (cells_first at end file cell cells has).1 in
    omega (arith, cells_end (at + cell_total cell) end file cells others, sum_by-cons cell_total cell cells)

pub long_total : (cell : Cell) → 48 ≤ cell_total cell
long_total cell = omega arith

-- THE LAST CELL OF A PAIR

-- the last cell of a pair among more cells
last_of : (later : Option Cell) (cell : Cell) (here : Bool) (last : Cell) → option_or later (cond here (Some cell) None) ≡ Some last
    → (later ≡ Some last) ⊎ ((later ≡ None) × (here ≡ true) × (cell ≡ last))
last_of (Some other) cell here last is = inl is
last_of None cell true last is = inr (refl, refl, (let e : cell ≡ last = cc in e))
last_of None cell false last is = absurd cc

pub last_cell-append : (front behind : List Cell) (pair : Pair) → last_cell (front ++ behind) pair ≡ option_or (last_cell behind pair) (last_cell front pair)
last_cell-append [] behind pair = or_none (last_cell behind pair)
  where
    or_none : (o : Option Cell) → o ≡ option_or o None
    or_none None = refl
    or_none (Some cell) = refl
last_cell-append (cell ∷ front) behind pair =
    ap (λ (o : Option Cell). option_or o (cond (pair_eq cell.pair pair) (Some cell) None)) (last_cell-append front behind pair)
    ∙ or_or (last_cell behind pair) (last_cell front pair) (cond (pair_eq cell.pair pair) (Some cell) None)
  where
    or_or : (a b c : Option Cell) → option_or (option_or a b) c ≡ option_or a (option_or b c)
    or_or None b c = refl
    or_or (Some x) b c = refl

-- a pair without a cell
pub lacks_none : (cells : List Cell) (pair : Pair) → last_cell cells pair ≡ None → lacks pair (needles_of cells) ≡ true
lacks_none [] pair is = refl
lacks_none (cell ∷ cells) pair is =
    let parts = none_of (last_cell cells pair) cell (pair_eq cell.pair pair) is in
    and_from (not (pair_eq cell.pair pair)) (lacks pair (needles_of cells)) (ap not parts.1) (lacks_none cells pair parts.0)
  where
    none_of : (later : Option Cell) (cell : Cell) (here : Bool) → option_or later (cond here (Some cell) None) ≡ None → (later ≡ None) × (here ≡ false)
    none_of (Some other) cell here is = absurd cc
    none_of None cell true is = absurd cc
    none_of None cell false is = (refl, refl)

pub none_lacks : (cells : List Cell) (pair : Pair) → lacks pair (needles_of cells) ≡ true → last_cell cells pair ≡ None
none_lacks [] pair is = refl
none_lacks (cell ∷ cells) pair is =
    let parts = and_parts (not (pair_eq cell.pair pair)) (lacks pair (needles_of cells)) is in
    ap (λ (o : Option Cell). option_or o (cond (pair_eq cell.pair pair) (Some cell) None)) (none_lacks cells pair parts.1)
    ∙ cond-false (pair_eq cell.pair pair) (Some cell) None (not-true (pair_eq cell.pair pair) parts.0)

-- the last cell of a pair, the cells before it, and those behind it, none of which has the pair
pub record HasLast (cells : List Cell) (pair : Pair) (cell : Cell) : Type 0 where
  pub front : List Cell
  pub behind : List Cell
  pub parts : cells ≡ front ++ cell ∷ behind
  pub has : pair_eq cell.pair pair ≡ true
  pub none : lacks pair (needles_of behind) ≡ true

pub last_parts : (cells : List Cell) (pair : Pair) (last : Cell) → last_cell cells pair ≡ Some last → HasLast cells pair last
last_parts [] pair last is = absurd cc
last_parts (cell ∷ cells) pair last is =
    elim (last_of (last_cell cells pair) cell (pair_eq cell.pair pair) last is) [
      | inl later ↦
          let h = last_parts cells pair last later in
          record { front = cell ∷ h.front; behind = h.behind; parts = ap (λ (l : List Cell). cell ∷ l) h.parts; has = h.has; none = h.none }
      | inr here ↦ record {
        front = [];
        behind = cells;
        parts = ap (λ (c : Cell). c ∷ cells) here.2;
        has = ap (λ (c : Cell). pair_eq c.pair pair) (sym here.2) ∙ here.1;
        none = lacks_none cells pair here.0;
      }
    ]

-- the other way round
pub parts_last : (front behind : List Cell) (cell : Cell) (pair : Pair) → pair_eq cell.pair pair ≡ true → lacks pair (needles_of behind) ≡ true → last_cell (front ++ cell ∷ behind) pair ≡ Some cell
parts_last front behind cell pair has none =
    last_cell-append front (cell ∷ behind) pair
    ∙ ap (λ (o : Option Cell). option_or (option_or o (cond (pair_eq cell.pair pair) (Some cell) None)) (last_cell front pair)) (none_lacks behind pair none)
    ∙ ap (λ (o : Option Cell). option_or o (last_cell front pair)) (cond-true (pair_eq cell.pair pair) (Some cell) None has)

-- where a pair has a later cell, that is the last one
pub later_last : (front behind : List Cell) (pair : Pair) (last : Cell) → last_cell behind pair ≡ Some last → last_cell (front ++ behind) pair ≡ Some last
later_last front behind pair last is = last_cell-append front behind pair ∙ ap (λ (o : Option Cell). option_or o (last_cell front pair)) is

-- it stands in the file
pub last_stands : (at end : ℕ) (file : List ℕ) (cells : List Cell) (pair : Pair) (last : Cell) → HasCells at file cells end → last_cell cells pair ≡ Some last
    → StandsCell last.at file last × ((at ≤ last.at) × (last.at + cell_total last ≤ end))
last_stands at end file cells pair last has is =
    let h = last_parts cells pair last is in
    let there : HasCells (at + sum_by cell_total h.front) file (last ∷ h.behind) end =
    after_front at end file h.front (last ∷ h.behind) (subst (λ (l : List Cell). HasCells at file l end) h.parts has) in
    let first = cells_first (at + sum_by cell_total h.front) end file last h.behind there in
    let place : last.at ≡ at + sum_by cell_total h.front = first.0.is.place in
    let rest = cells_end (at + sum_by cell_total h.front + cell_total last) end file h.behind first.1 in
    (subst (λ k. StandsCell k file last) (sym place) first.0, (omega arith, omega arith))

pub last_place_of : (cells : List Cell) (pair : Pair) (last : Cell) → last_cell cells pair ≡ Some last → HasPlace last.at cells
last_place_of [] pair last is = absurd cc
last_place_of (cell ∷ cells) pair last is =
    elim (last_of (last_cell cells pair) cell (pair_eq cell.pair pair) last is) [
      | inl later ↦ inr (last_place_of cells pair last later)
      | inr here ↦ inl (ap (λ (c : Cell). c.at) here.2)
    ]

-- WHICH CELLS ARE LIVE

-- the cell at this place is the last of its pair
pub latest_live : (end : ℕ) (file : List ℕ) (front behind : List Cell) (cell : Cell) (latest : Option ℕ) → HasCells 64 file (front ++ cell ∷ behind) end
    → IsLatest (front ++ cell ∷ behind) cell.pair latest → latest ≡ Some cell.at → lacks cell.pair (needles_of behind) ≡ true
latest_live end file front behind cell latest has is same =
    let there : HasCells (64 + sum_by cell_total front) file (cell ∷ behind) end = after_front 64 end file front (cell ∷ behind) has in
    let first = cells_first (64 + sum_by cell_total front) end file cell behind there in
    let place : cell.at ≡ 64 + sum_by cell_total front = first.0.is.place in
    let at_last : is.cell.at ≡ cell.at = subst (λ (o : Option ℕ). IsPlaceOf o is.cell) same is.place in
    elim (cases_Bool (lacks cell.pair (needles_of behind))) [
      | inl none ↦ none
      | inr has_one ↦
          elim (none_or (last_cell behind cell.pair)) [
            | inl absent ↦ absurd (true≢false (sym (lacks_none behind cell.pair absent) ∙ has_one))
            | inr later ↦
                let whole = later_last (front ++ cell ∷ []) behind cell.pair later.0 later.1 in
                let again : last_cell (front ++ cell ∷ behind) cell.pair ≡ Some later.0 = ap (λ (l : List Cell). last_cell l cell.pair) (sym (append_assoc front (cell ∷ []) behind)) ∙ whole in
                let one : later.0 ≡ is.cell = (let both : Some later.0 ≡ Some is.cell = sym again ∙ is.last in cc) in
                let stands = last_stands (64 + sum_by cell_total front + cell_total cell) end file behind cell.pair later.0 first.1 later.1 in
                let at_later : later.0.at ≡ is.cell.at = ap (λ (c : Cell). c.at) one in
                absurd (omega (arith, stands.1.0))
          ]
    ]
  where
    none_or : (o : Option Cell) → (o ≡ None) ⊎ ((c : Cell) × (o ≡ Some c))
    none_or None = inl refl
    none_or (Some c) = inr (c, refl)

-- another place than this one, or none, is not that of a last cell that is not deleted
pub other_dead : (front behind : List Cell) (cell : Cell) (latest : Option ℕ) → IsLatest (front ++ cell ∷ behind) cell.pair latest → latest ≢ Some cell.at → cell.deleted ≡ false
    → lacks cell.pair (needles_of behind) ≡ false
other_dead front behind cell latest is other alive =
    elim (cases_Bool (lacks cell.pair (needles_of behind))) [
      | inr has ↦ has
      | inl none ↦
          let last = parts_last front behind cell cell.pair (pair_refl cell.pair) none in
          let one : is.cell ≡ cell = (let both : Some is.cell ≡ Some cell = sym is.last ∙ last in cc) in
          absurd (not_so latest (subst (λ (c : Cell). IsPlaceOf latest c) one is.place) other)
    ]
  where
    not_so : (o : Option ℕ) → IsPlaceOf o cell → o ≢ Some cell.at → ⊥
    not_so (Some at) place different = different (ap (λ k. Some k) (sym place))
    not_so None gone different = absurd (true≢false (sym gone ∙ alive))

-- THE FLAG OF A PAIR'S LAST CELL

-- the cells before and behind a place are not at it
pub flags_apart : (at end place : ℕ) (file : List ℕ) (cells : List Cell) (deleted : Bool) → HasCells at file cells end → (place < at) ⊎ (end ≤ place) → with_flag place deleted cells ≡ cells
flags_apart at end place file [] deleted has apart = refl
flags_apart at end place file (cell ∷ cells) deleted has apart =
    let first = cells_first at end file cell cells has in
    let here : cell.at ≡ at = first.0.is.place in
    let rest = cells_end (at + cell_total cell) end file cells first.1 in
    let other : cell.at ≢ place = (λ e. elim apart [ inl low ↦ omega arith | inr high ↦ omega arith ]) in
    let still : (place < at + cell_total cell) ⊎ (end ≤ place) = elim apart [ inl low ↦ inl (omega arith) | inr high ↦ inr high ] in
    rw (ne_eqb cell.at place other) (ap (λ (l : List Cell). cell ∷ l) (flags_apart (at + cell_total cell) end place file cells deleted first.1 still))

-- one cell's flag
pub one_flag : (at end : ℕ) (file : List ℕ) (front behind : List Cell) (cell : Cell) (deleted : Bool) → HasCells at file (front ++ cell ∷ behind) end
    → with_flag cell.at deleted (front ++ cell ∷ behind) ≡ front ++ record cell { deleted = deleted } ∷ behind
one_flag at end file [] behind cell deleted has =
    let first = cells_first at end file cell behind has in
    let flagged : Cell = record cell { deleted = deleted } in
    let place : cell.at ≡ at = first.0.is.place in
    rw (eq-eqb cell.at cell.at refl) (ap (λ (l : List Cell). flagged ∷ l) (flags_apart (at + cell_total cell) end cell.at file behind deleted first.1 (inl (omega arith))))
one_flag at end file (x ∷ front) behind cell deleted has =
    let first = cells_first at end file x (front ++ cell ∷ behind) has in
    let here : x.at ≡ at = first.0.is.place in
    let there = cells_first (at + cell_total x + sum_by cell_total front) end file cell behind (after_front (at + cell_total x) end file front (cell ∷ behind) first.1) in
    let place : cell.at ≡ at + cell_total x + sum_by cell_total front = there.0.is.place in
    let other : x.at ≢ cell.at = (λ e. omega arith) in
    rw (ne_eqb x.at cell.at other) (ap (λ (l : List Cell). x ∷ l) (one_flag (at + cell_total x) end file front behind cell deleted first.1))

-- flagging the last cell of a pair
pub flag_parts : (front behind : List Needle) (needle : Needle) (pair : Pair) → pair_eq needle.pair pair ≡ true → lacks pair behind ≡ true
    → flag_last pair (front ++ needle ∷ behind) ≡ front ++ record needle { deleted = true } ∷ behind
flag_parts [] behind needle pair has none =
    cond-true (pair_eq needle.pair pair && lacks pair behind) (record needle { deleted = true } ∷ behind) (needle ∷ flag_last pair behind)
    (and_from (pair_eq needle.pair pair) (lacks pair behind) has none)
flag_parts (x ∷ front) behind needle pair has none =
    cond-false (pair_eq x.pair pair && lacks pair (front ++ needle ∷ behind)) (record x { deleted = true } ∷ (front ++ needle ∷ behind))
    (x ∷ flag_last pair (front ++ needle ∷ behind)) (not_last (pair_eq x.pair pair))
    ∙ ap (λ (l : List Needle). x ∷ l) (flag_parts front behind needle pair has none)
  where
    still : (cs : List Needle) → lacks pair (cs ++ needle ∷ behind) ≡ false
    still [] = ap (λ (b : Bool). not b && lacks pair behind) has
    still (c ∷ cs) = elim (not (pair_eq c.pair pair)) as (λ b. (b && lacks pair (cs ++ needle ∷ behind)) ≡ false) [ true ↦ still cs | false ↦ refl ]

    not_last : (b : Bool) → (b && lacks pair (front ++ needle ∷ behind)) ≡ false
    not_last true = still front
    not_last false = refl

-- the cells with that flag
pub flagged_cells : (end : ℕ) (file : List ℕ) (cells : List Cell) (pair : Pair) (last : Cell) → HasCells 64 file cells end → (h : HasLast cells pair last)
    → with_flag last.at true cells ≡ h.front ++ record last { deleted = true } ∷ h.behind
flagged_cells end file cells pair last has h =
    ap (λ (l : List Cell). with_flag last.at true l) h.parts ∙ one_flag 64 end file h.front h.behind last true (subst (λ (l : List Cell). HasCells 64 file l end) h.parts has)

-- the cells with the flag of a pair's last cell have the needles with that flag
pub flagged_needles : (end : ℕ) (file : List ℕ) (cells : List Cell) (pair : Pair) (last : Cell) → HasCells 64 file cells end → last_cell cells pair ≡ Some last
    → needles_of (with_flag last.at true cells) ≡ flag_last pair (needles_of cells)
flagged_needles end file cells pair last has is =
    let h = last_parts cells pair last is in
    let flagged : Cell = record last { deleted = true } in
    let needles : needles_of cells ≡ needles_of h.front ++ needle_of_cell last ∷ needles_of h.behind = ap needles_of h.parts ∙ map-append needle_of_cell h.front (last ∷ h.behind) in
    ap needles_of (flagged_cells end file cells pair last has h)
    ∙ map-append needle_of_cell h.front (flagged ∷ h.behind)
    ∙ sym (flag_parts (needles_of h.front) (needles_of h.behind) (needle_of_cell last) pair h.has h.none)
    ∙ sym (ap (λ (l : List Needle). flag_last pair l) needles)

-- the last cell of the pair is deleted then, and that of each other pair is as it was
pub flagged_last : (end : ℕ) (file : List ℕ) (cells : List Cell) (pair other : Pair) (last : Cell) → HasCells 64 file cells end → last_cell cells pair ≡ Some last
    → last_cell (with_flag last.at true cells) other ≡ cond (pair_eq pair other) (Some (record last { deleted = true })) (last_cell cells other)
flagged_last end file cells pair other last has is =
    let h = last_parts cells pair last is in
    let flagged : Cell = record last { deleted = true } in
    let same : last.pair ≡ pair = pair_same last.pair pair h.has in
    let list : with_flag last.at true cells ≡ h.front ++ flagged ∷ h.behind = flagged_cells end file cells pair last has h in
    elim (cases_Bool (pair_eq pair other)) [
      | inl here ↦
          let one : pair ≡ other = pair_same pair other here in
          let gone = parts_last h.front h.behind flagged other (ap (λ (p : Pair). pair_eq p other) same ∙ here) (ap (λ (p : Pair). lacks p (needles_of h.behind)) (sym one) ∙ h.none) in
          ap (λ (l : List Cell). last_cell l other) list ∙ gone ∙ sym (cond-true (pair_eq pair other) (Some flagged) (last_cell cells other) here)
      | inr apart ↦
          let differ : pair_eq last.pair other ≡ false = ap (λ (p : Pair). pair_eq p other) same ∙ apart in
          let same_last : (c : Cell) → pair_eq c.pair other ≡ false → last_cell (h.front ++ c ∷ h.behind) other ≡ option_or (option_or (last_cell h.behind other) None) (last_cell h.front other) =
          (λ c ne. last_cell-append h.front (c ∷ h.behind) other ∙ ap (λ (o : Option Cell). option_or (option_or (last_cell h.behind other) o) (last_cell h.front other))
          (cond-false (pair_eq c.pair other) (Some c) None ne)) in
          ap (λ (l : List Cell). last_cell l other) list
          ∙ same_last flagged differ ∙ sym (same_last last differ) ∙ sym (ap (λ (l : List Cell). last_cell l other) h.parts)
          ∙ sym (cond-false (pair_eq pair other) (Some flagged) (last_cell cells other) apart)
    ]

-- RECORDS

-- the records of cells do not say whether they are deleted
pub flagged_records : (place : ℕ) (deleted : Bool) (cells : List Cell) → map cell_record (with_flag place deleted cells) ≡ map cell_record cells
flagged_records place deleted [] = refl
flagged_records place deleted (cell ∷ cells) =
    elim (eqb cell.at place) as (λ b. cell_record (cond b (record cell { deleted = deleted }) cell) ∷ map cell_record (with_flag place deleted cells) ≡ cell_record cell ∷ map cell_record cells) [
      | true ↦ ap (λ (l : List Record). cell_record cell ∷ l) (flagged_records place deleted cells)
      | false ↦ ap (λ (l : List Record). cell_record cell ∷ l) (flagged_records place deleted cells)
    ]

-- they are in the row of places
pub records_row : (at end : ℕ) (file : List ℕ) (cells : List Cell) → HasCells at file cells end → AreInRow at (map cell_record cells)
records_row at end file [] has = tt
records_row at end file (cell ∷ cells) has =
    let first = cells_first at end file cell cells has in
    (first.0.is.place, records_row (at + cell_total cell) end file cells first.1)

-- a flag leaves the pairs
pub flag_lacks : (pair : Pair) (place : ℕ) (deleted : Bool) (cells : List Cell) → lacks pair (needles_of (with_flag place deleted cells)) ≡ lacks pair (needles_of cells)
flag_lacks pair place deleted [] = refl
flag_lacks pair place deleted (cell ∷ cells) =
    elim (eqb cell.at place) as (λ b. lacks pair (needles_of (cond b (record cell { deleted = deleted }) cell ∷ with_flag place deleted cells)) ≡ lacks pair (needles_of (cell ∷ cells))) [
      | true ↦ ap (λ (b : Bool). not (pair_eq cell.pair pair) && b) (flag_lacks pair place deleted cells)
      | false ↦ ap (λ (b : Bool). not (pair_eq cell.pair pair) && b) (flag_lacks pair place deleted cells)
    ]

-- what more cells lack, the first of them lack, and one of them has not
pub lacks_parts : (pair : Pair) (front behind : List Cell) → lacks pair (needles_of (front ++ behind)) ≡ true → (lacks pair (needles_of front) ≡ true) × (lacks pair (needles_of behind) ≡ true)
lacks_parts pair front behind none =
    and_parts (lacks pair (needles_of front)) (lacks pair (needles_of behind))
    (sym (ap (λ (l : List Needle). lacks pair l) (map-append needle_of_cell front behind) ∙ lacks_append pair (needles_of front) (needles_of behind)) ∙ none)

pub lacks_more : (pair : Pair) (front : List Cell) (cell : Cell) → lacks pair (needles_of front) ≡ true → pair_eq cell.pair pair ≡ false → lacks pair (needles_of (front ++ cell ∷ [])) ≡ true
lacks_more pair front cell none apart =
    ap (λ (l : List Needle). lacks pair l) (map-append needle_of_cell front (cell ∷ [])) ∙ lacks_append pair (needles_of front) (needles_of (cell ∷ []))
    ∙ and_from (lacks pair (needles_of front)) (lacks pair (needles_of (cell ∷ []))) none (ap (λ (b : Bool). not b && true) apart)
