-- Needles that places have.
use Rattle.std.proofs.Common.{◌≡◌, ◌⊎◌, inl, inr, ℕ, ◌+◌, Bool, true, false, List, [], ◌∷◌, ◌++◌, length, map, Option, Some, None, refl, sym, subst}
use Rattle.std.specs.Prelude.{if◌then◌else◌}
use Rattle.std.specs.List.{AllByRecursion, AllZip}
use Rattle.hay_needle.specs.declared.needle.Cell.{Cell}
use Rattle.hay_needle.specs.declared.needle.Pair.{Pair}
use Rattle.hay_needle.specs.declared.settings.Super.{Super}
use Rattle.hay_needle.specs.Sizes.{needle_total}
use Rattle.hay_needle.specs.Super.{super_bytes}
use Rattle.hay_needle.specs.Tables.{pair_eq}
use Rattle.hay_volume.specs.Cells.{HasCells, StandsCell}
use Rattle.hay_volume.proofs.Readings.{cells_first}
use Rattle.hay_index.specs.Records.{place_behind}
use Rattle.hay_index.specs.declared.record.Record.{Record}
use Rattle.hay_map.specs.declared.place.Place.{Place}
use Rattle.hay_map.specs.declared.place.Place.TheVariants as place
use Rattle.hay_map.specs.declared.view.OpenCell.{OpenCell}
use Rattle.hay_map.specs.Rows.{last_place}
use Rattle.hay_open.specs.declared.opened.Opened.{Opened}
use Rattle.hay_open.specs.Finds.{IsOrphanOf, ReadsWhole, unseen_cell}
use Rattle.hay_open.specs.Stored.{IsVoid, OpensAs, PlaceOf, fresh_stored, head_super, volume_file}
use Rattle.hay_physical.specs.Replicas.{HasLiveNeedle, HasWholeNeedle}
use Rattle.hay_physical.proofs.Drawing.{some_head}

-- that of a cell
pub whole_of : {P : Type 0} (Tells : Type 0) (cell : Option Cell) (p : Place P) → PlaceOf Tells cell p → HasWholeNeedle Tells p
whole_of Tells (Some cell) (place.Live needle) is = (is.sealed.tells, _, is.sealed.is)
whole_of Tells None (place.Live needle) is = absurd is
whole_of Tells (Some cell) place.None is = tt
whole_of Tells None place.None is = tt
whole_of Tells (Some cell) place.Gone is = tt
whole_of Tells None place.Gone is = tt
whole_of Tells (Some cell) (place.Unseen at size) is = tt
whole_of Tells None (place.Unseen at size) is = tt

module _ {P : Type 0} (Tells : Type 0) where
  abbrev AreWhole : List (OpenCell P) → Type 0
  AreWhole cells = AllByRecursion (λ (cell : OpenCell P). HasWholeNeedle Tells cell.place) cells

  -- the last place that some have
  last_whole : (cells : List (OpenCell P)) (pair : Pair) (p : Place P) → AreWhole cells → HasWholeNeedle Tells p → HasWholeNeedle Tells (last_place cells pair p)
  last_whole [] pair p all is = is
  last_whole (cell ∷ cells) pair p all is = last_whole cells pair _ all.1 (by_pair (pair_eq cell.pair pair))
    where
      by_pair : (b : Bool) → HasWholeNeedle Tells (if b then cell.place else p)
      by_pair true = all.0
      by_pair false = is

  unseen_whole : (records : List Record) (seen : List (OpenCell P)) → AreWhole seen → AreWhole (map unseen_cell records ++ seen)
  unseen_whole [] seen all = all
  unseen_whole (r ∷ records) seen all = (tt, unseen_whole records seen all)

  orphans_whole : (orphans : List Cell) (seen : List (OpenCell P)) → AllZip (IsOrphanOf Tells) orphans seen → AreWhole seen
  orphans_whole [] [] all = tt
  orphans_whole [] (one ∷ seen) all = absurd all
  orphans_whole (cell ∷ orphans) [] all = absurd all
  orphans_whole (cell ∷ orphans) (one ∷ seen) all = (whole_of Tells (Some cell) one.place all.0.place, orphans_whole orphans seen all.1)

  -- those that an opening found
  pub found_whole : (sup : Super) (contents : ℕ → List ℕ) (opened : Opened P) → IsVoid contents ⊎ ReadsWhole Tells sup contents opened
      → (OpensAs sup contents fresh_stored → (pair : Pair) → PlaceOf Tells None (last_place opened.cells.items pair place.None))
      → (pair : Pair) → HasWholeNeedle Tells (last_place opened.cells.items pair place.None)
  unfolding OpensAs
  found_whole sup contents opened (inl void) places pair = whole_of Tells None (last_place opened.cells.items pair place.None) (places (inl (void, refl)) pair)
  found_whole sup contents opened (inr whole) places pair =
      last_whole opened.cells.items pair place.None
      (subst (λ (l : List (OpenCell P)). AreWhole l) (sym whole.cells.1) (unseen_whole whole.records whole.cells.0 (orphans_whole whole.orphans whole.cells.0 whole.cells.2))) tt

-- NEEDLES THAT STAND

-- a place without a cell is no photo's
live_none : {P : Type 0} (Tells : Type 0) (file : List ℕ) (p : Place P) → PlaceOf Tells None p → HasLiveNeedle file p
live_none Tells file (place.Live needle) is = absurd is
live_none Tells file place.None is = tt
live_none Tells file place.Gone is = tt
live_none Tells file (place.Unseen at size) is = tt

-- that of a cell that stands
live_of : {P : Type 0} (Tells : Type 0) (file : List ℕ) (cell : Cell) (p : Place P) → StandsCell cell.at file cell → PlaceOf Tells (Some cell) p → HasLiveNeedle file p
live_of Tells file cell (place.Live needle) stands is = (
  length cell.bytes,
  record { cell = cell; stands = subst (λ n. StandsCell n file cell) (sym is.at) stands; size_is = refl; deleted_is = is.alive },
)
live_of Tells file cell place.None stands is = tt
live_of Tells file cell place.Gone stands is = tt
live_of Tells file cell (place.Unseen at size) stands is = tt

module _ {P : Type 0} (Tells : Type 0) (file : List ℕ) where
  abbrev AreLive : List (OpenCell P) → Type 0
  AreLive cells = AllByRecursion (λ (cell : OpenCell P). HasLiveNeedle file cell.place) cells

  -- the last place that some have
  last_live : (cells : List (OpenCell P)) (pair : Pair) (p : Place P) → AreLive cells → HasLiveNeedle file p → HasLiveNeedle file (last_place cells pair p)
  last_live [] pair p all is = is
  last_live (cell ∷ cells) pair p all is = last_live cells pair _ all.1 (by_pair (pair_eq cell.pair pair))
    where
      by_pair : (b : Bool) → HasLiveNeedle file (if b then cell.place else p)
      by_pair true = all.0
      by_pair false = is

  unseen_live : (records : List Record) (seen : List (OpenCell P)) → AreLive seen → AreLive (map unseen_cell records ++ seen)
  unseen_live [] seen all = all
  unseen_live (r ∷ records) seen all = (tt, unseen_live records seen all)

  orphans_live : (from end : ℕ) (orphans : List Cell) (seen : List (OpenCell P)) → HasCells from file orphans end → AllZip (IsOrphanOf Tells) orphans seen → AreLive seen
  orphans_live from end [] [] has all = tt
  orphans_live from end [] (one ∷ seen) has all = absurd all
  orphans_live from end (cell ∷ orphans) [] has all = absurd all
  orphans_live from end (cell ∷ orphans) (one ∷ seen) has all =
      let first = cells_first from end file cell orphans has in (
        live_of Tells file cell one.place (subst (λ n. StandsCell n file cell) (sym first.0.is.place) first.0) all.0.place,
        orphans_live (from + needle_total (length cell.bytes)) end orphans seen first.1 all.1,
      )

-- those that an opening found, where it leaves the bytes
pub found_live : {P : Type 0} (Tells : Type 0) (sup : Super) (contents : ℕ → List ℕ) (file : List ℕ) (opened : Opened P) → IsVoid contents ⊎ ReadsWhole Tells sup contents opened
    → (OpensAs sup contents fresh_stored → (pair : Pair) → PlaceOf Tells None (last_place opened.cells.items pair place.None))
    → ((IsVoid contents → ⊥) → file ≡ contents (volume_file opened.head.generation)) → (pair : Pair) → HasLiveNeedle file (last_place opened.cells.items pair place.None)
unfolding OpensAs
found_live Tells sup contents file opened (inl void) places kept pair = live_none Tells file (last_place opened.cells.items pair place.None) (places (inl (void, refl)) pair)
found_live Tells sup contents file opened (inr whole) places kept pair =
    let stood : List ℕ = contents (volume_file opened.head.generation) in
    let same : file ≡ stood = kept (λ void. some_head (super_bytes (head_super sup)) (contents 0) opened.head.generation whole.recorded.head void) in
    let all : AreLive Tells stood (map unseen_cell whole.records ++ whole.cells.0) =
    unseen_live Tells stood whole.records whole.cells.0 (orphans_live Tells stood (place_behind 64 whole.records) opened.volume.end whole.orphans whole.cells.0 whole.behind.has whole.cells.2) in
    subst (λ (l : List ℕ). HasLiveNeedle l (last_place opened.cells.items pair place.None)) (sym same)
    (last_live Tells stood opened.cells.items pair place.None (subst (λ (l : List (OpenCell _)). AreLive Tells stood l) (sym whole.cells.1) all) tt)
