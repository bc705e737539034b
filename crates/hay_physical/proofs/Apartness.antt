-- Places that an opening found: no needle that was not looked at has the flags of another's cell.
use Rattle.std.proofs.Common.{◌≡◌, ◌⊎◌, inl, inr, ℕ, ◌+◌, ◌≤◌, Bool, true, false, true≢false, List, [], ◌∷◌, ◌++◌, length, map, if◌then◌else◌, refl, sym, ◌∙◌, ap, subst, arith}
use Rattle.std.specs.Prelude.{None}
use Rattle.std.specs.List.{AllZip}
use Rattle.hay_needle.specs.declared.needle.Cell.{Cell}
use Rattle.hay_needle.specs.declared.needle.Pair.{Pair}
use Rattle.hay_needle.specs.declared.settings.Super.{Super}
use Rattle.hay_needle.specs.Sizes.{needle_total}
use Rattle.hay_needle.specs.Tables.{pair_eq}
use Rattle.hay_needle.proofs.TableLaws.{pair_refl, pair_same}
use Rattle.hay_disk.specs.Disk.{Files}
use Rattle.hay_volume.specs.Cells.{HasCells}
use Rattle.hay_volume.proofs.Readings.{cells_first}
use Rattle.hay_index.specs.declared.record.Record.{Record}
use Rattle.hay_index.specs.Records.{AreInRow, place_behind}
use Rattle.hay_map.specs.declared.place.Place.{Place}
use Rattle.hay_map.specs.declared.place.Place.TheVariants as place
use Rattle.hay_map.specs.declared.view.OpenCell.{OpenCell}
use Rattle.hay_map.specs.Rows.{last_place}
use Rattle.hay_open.specs.declared.opened.Opened.{Opened}
use Rattle.hay_open.specs.Finds.{IsOrphanOf, ReadsWhole, StandsAt, unseen_cell}
use Rattle.hay_open.specs.Stored.{IsVoid, OpensAs, PlaceOf, fresh_stored}
use Rattle.hay_physical.specs.declared.state.Phase.{Phase}
use Rattle.hay_physical.specs.declared.state.OpenFiles.{OpenFiles}
use Rattle.hay_physical.specs.declared.state.Phase.TheVariants.{Open}
use Rattle.hay_physical.specs.OpenCopies.{Copy}
use Rattle.hay_physical.specs.Replicas.{ArePlacesApart, IsApart, MaySee}
use Rattle.hay_physical.proofs.Seeing.{files_look}

module _ {P : Type 0} where
  -- the needle of a place ends at `from` or before it
  abbrev IsBelow : ℕ → Place P → Type 0
  IsBelow from (place.Live needle) = needle.at + 29 ≤ from
  IsBelow from place.None = Unit {0}
  IsBelow from place.Gone = Unit {0}
  IsBelow from (place.Unseen at size) = at + needle_total size ≤ from

  -- and begins at `from` or behind it
  abbrev IsAbove : ℕ → Place P → Type 0
  IsAbove from (place.Live needle) = from ≤ needle.at
  IsAbove from place.None = Unit {0}
  IsAbove from place.Gone = Unit {0}
  IsAbove from (place.Unseen at size) = from ≤ at

  -- each begins where those before it end, or behind that
  abbrev InOrder : ℕ → List (OpenCell P) → Type 0
  InOrder from [] = Unit {0}
  InOrder from (cell ∷ cells) = (next : ℕ) × (from ≤ next) × IsAbove from cell.place × IsBelow next cell.place × InOrder next cells

  below_more : (from next : ℕ) (p : Place P) → from ≤ next → IsBelow from p → IsBelow next p
  below_more from next (place.Live needle) grows below = omega (arith, below)
  below_more from next place.None grows below = tt
  below_more from next place.Gone grows below = tt
  below_more from next (place.Unseen at size) grows below = omega (arith, below)

  before_apart : (from : ℕ) (p q : Place P) → IsBelow from p → IsAbove from q → ArePlacesApart p q
  before_apart from (place.Live needle) q below above = tt
  before_apart from place.None q below above = tt
  before_apart from place.Gone q below above = tt
  before_apart from (place.Unseen at size) (place.Live needle) below above = inr (omega (arith, below, above))
  before_apart from (place.Unseen at size) place.None below above = tt
  before_apart from (place.Unseen at size) place.Gone below above = tt
  before_apart from (place.Unseen at size) (place.Unseen other long) below above = inr (omega (arith, below, above))

  behind_apart : (from : ℕ) (p q : Place P) → IsAbove from p → IsBelow from q → ArePlacesApart p q
  behind_apart from (place.Live needle) q above below = tt
  behind_apart from place.None q above below = tt
  behind_apart from place.Gone q above below = tt
  behind_apart from (place.Unseen at size) (place.Live needle) above below = inl (omega (arith, below, above))
  behind_apart from (place.Unseen at size) place.None above below = tt
  behind_apart from (place.Unseen at size) place.Gone above below = tt
  behind_apart from (place.Unseen at size) (place.Unseen other long) above below = inl (omega (arith, below, above))

  either_below : (next : ℕ) (b : Bool) (p q : Place P) → IsBelow next p → IsBelow next q → IsBelow next (if b then p else q)
  either_below next true p q own other = own
  either_below next false p q own other = other

  order_apart : (from : ℕ) (cells : List (OpenCell P)) (pair other : Pair) (p q : Place P) → pair_eq pair other ≡ false → InOrder from cells → IsBelow from p → IsBelow from q → ArePlacesApart p q
      → ArePlacesApart (last_place cells pair p) (last_place cells other q)
  order_apart from [] pair other p q differ order first second apart = apart
  order_apart from (cell ∷ cells) pair other p q differ (next, grows, above, below, rest) first second apart =
      order_apart next cells pair other (if pair_eq cell.pair pair then cell.place else p) (if pair_eq cell.pair other then cell.place else q) differ rest
      (either_below next (pair_eq cell.pair pair) cell.place p below (below_more from next p grows first))
      (either_below next (pair_eq cell.pair other) cell.place q below (below_more from next q grows second))
      (chosen (pair_eq cell.pair pair) (pair_eq cell.pair other) refl refl)
    where
      chosen : (b d : Bool) → pair_eq cell.pair pair ≡ b → pair_eq cell.pair other ≡ d → ArePlacesApart (if b then cell.place else p) (if d then cell.place else q)
      chosen true true is was =
          absurd (true≢false (sym (pair_refl other) ∙ ap (λ (x : Pair). pair_eq x other) (sym (pair_same cell.pair other was) ∙ pair_same cell.pair pair is) ∙ differ))
      chosen true false is was = behind_apart from cell.place q above second
      chosen false true is was = before_apart from p cell.place first above
      chosen false false is was = apart

  order_rows : (from : ℕ) (rows : List Record) (seen : List (OpenCell P)) → AreInRow from rows → InOrder (place_behind from rows) seen → InOrder from (map unseen_cell rows ++ seen)
  order_rows from [] seen row rest = rest
  order_rows from (r ∷ rows) seen row rest = (from + needle_total r.size, omega arith, omega (arith, row.0), omega (arith, row.0), order_rows (from + needle_total r.size) rows seen row.1 rest)

  stands_above : (from at : ℕ) (p : Place P) → at ≡ from → StandsAt at p → IsAbove from p
  stands_above from at (place.Live needle) here stands = omega (arith, here, stands)
  stands_above from at place.None here stands = tt
  stands_above from at place.Gone here stands = tt
  stands_above from at (place.Unseen there size) here stands = absurd stands

  stands_below : (from at next : ℕ) (p : Place P) → at ≡ from → from + 29 ≤ next → StandsAt at p → IsBelow next p
  stands_below from at next (place.Live needle) here long stands = omega (arith, here, long, stands)
  stands_below from at next place.None here long stands = tt
  stands_below from at next place.Gone here long stands = tt
  stands_below from at next (place.Unseen there size) here long stands = absurd stands

  order_orphans : (Tells : Type 0) (from end : ℕ) (file : List ℕ) (orphans : List Cell) (seen : List (OpenCell P)) → HasCells from file orphans end
      → AllZip (IsOrphanOf Tells) orphans seen → InOrder from seen
  order_orphans Tells from end file [] [] has all = tt
  order_orphans Tells from end file [] (one ∷ seen) has all = absurd all
  order_orphans Tells from end file (cell ∷ orphans) [] has all = absurd all
  order_orphans Tells from end file (cell ∷ orphans) (one ∷ seen) has all =
      let first = cells_first from end file cell orphans has in
      let next : ℕ = from + needle_total (length cell.bytes) in (
        next,
        omega arith,
        stands_above from cell.at one.place first.0.is.place all.0.stands,
        stands_below from cell.at next one.place first.0.is.place (omega arith) all.0.stands,
        order_orphans Tells next end file orphans seen first.1 all.1,
      )

  -- a disk without cells
  nothing_apart : (Tells : Type 0) (p q : Place P) → PlaceOf Tells None p → ArePlacesApart p q
  nothing_apart Tells (place.Live needle) q of = absurd of
  nothing_apart Tells place.None q of = tt
  nothing_apart Tells place.Gone q of = tt
  nothing_apart Tells (place.Unseen at size) q of = absurd of

  pub found_apart : (Tells : Type 0) (sup : Super) (contents : ℕ → List ℕ) (opened : Opened P) → IsVoid contents ⊎ ReadsWhole Tells sup contents opened
      → (OpensAs sup contents fresh_stored → (pair : Pair) → PlaceOf Tells None (last_place opened.cells.items pair place.None))
      → (pair other : Pair) → pair_eq pair other ≡ false → ArePlacesApart (last_place opened.cells.items pair place.None) (last_place opened.cells.items other place.None)
  unfolding OpensAs
  found_apart Tells sup contents opened (inl void) places pair other differ =
      nothing_apart Tells (last_place opened.cells.items pair place.None) (last_place opened.cells.items other place.None) (places (inl (void, refl)) pair)
  found_apart Tells sup contents opened (inr whole) places pair other differ =
      let order : InOrder 64 (map unseen_cell whole.records ++ whole.cells.0) =
      order_rows 64 whole.records whole.cells.0 whole.recorded.index.row (order_orphans Tells (place_behind 64 whole.records) opened.volume.end _ whole.orphans whole.cells.0
      whole.behind.has whole.cells.2) in
      order_apart 64 opened.cells.items pair other place.None place.None differ (subst (λ (l : List (OpenCell P)). InOrder 64 l) (sym whole.cells.1) order) tt tt tt

-- A PUT

-- a cell behind all others is apart from each needle that can be seen
pub put_apart : {D : Type 0} (files : D → Files) (r : Copy D) (sup : Super) (disk : D) (phase : Phase) (opened : OpenFiles) (place at size : ℕ)
    → record { sup = sup; disk = disk; phase = phase } ≡ r → phase ≡ Open opened
    → place ≡ opened.volume.end → MaySee files r at size → IsApart at size place
put_apart files r sup disk phase opened place at size view is last may =
    let look = files_look files r sup disk phase opened at size view is may in
    inr (omega (arith, look.within, last))
