-- What follows from the words on replicas.
use Rattle.std.proofs.Common.{◌≡◌, inl, inr, ℕ, suc, ◌+◌, ◌-◌, ◌≤◌, Bool, true, false, cond, List, [], ◌∷◌, length, map, drop, refl, sym, ◌∙◌, ap, subst, arith}
use Rattle.std.proofs.lemmas.List.{length-drop, length-map}
use Rattle.hay_needle.specs.declared.needle.CellHead.{CellHead}
use Rattle.hay_compact.specs.Copying.{end_of as cells_end_of}
use Rattle.hay_compact.proofs.CellLists.{cells_end}
use Rattle.hay_physical.specs.CompactionRuns.{HasNext, HasRun, Run}
use Rattle.std.specs.Prelude.{Option, Some, None}
use Rattle.std.specs.Option.{option_or}
use Rattle.hay_needle.specs.declared.needle.Cell.{Cell}
use Rattle.hay_needle.specs.declared.needle.Pair.{Pair}
use Rattle.hay_needle.specs.Tables.{pair_eq}
use Rattle.hay_disk.specs.Disk.{Files, MayLeave}
use Rattle.hay_volume.specs.declared.volume.VolumeFile.{VolumeFile}
use Rattle.hay_map.specs.Sealed.{SealedNeedle}
use Rattle.hay_map.specs.declared.place.Place.TheVariants as place
use Rattle.hay_open.specs.Stored.{IsSealedCell, PlaceOf, Stored, cell_record, last_cell, volume_file}
use Rattle.hay_physical.specs.declared.state.Phase.{Phase}
use Rattle.hay_physical.specs.declared.state.Phase.TheVariants.{Closed, Open}
use Rattle.hay_physical.specs.OpenCopies.{Copy, HasFrozen, IsUp, bare_of, capacity_of, copier_goal, end_of, generation_of, goal_of, is_stuck, next_of, phase_bare, phase_capacity}
use Rattle.hay_physical.specs.OpenCopies.{phase_goal, phase_end, phase_generation, phase_next, phase_stuck}
use Rattle.hay_physical.specs.Replicas.{Finds, HasLive, Holds, MayDelete, MayFind, PhaseMayDelete, Stands}
use Rattle.hay_physical.proofs.Holding.{stand_finds}
use Rattle.hay_physical.proofs.RunLaws.{none_next}
use Rattle.hay_physical.proofs.Standing.{stand_flag}

-- WHERE NO COMPACTION STANDS

-- no cell is next
no_next_in : (p : Phase) → phase_goal p ≡ None → phase_next p ≡ 0
no_next_in Closed none = refl
no_next_in (Open opened) none = none_next opened.copier none

pub no_next : {D : Type 0} (r : Copy D) → goal_of r ≡ None → next_of r ≡ 0
no_next r none = no_next_in r.phase none

-- A REPLICA THAT STANDS

-- takes changes
pub stands_up : {D : Type 0} (files : D → Files) (r : Copy D) (s : Stored) → Stands files r s → IsUp r
unfolding Stands
stands_up files r s stands = subst (λ (p : Phase). HasFrozen false p) (sym stands.phase) stands.up

-- and each image of its disk has what it stands for
pub stands_hold : {D : Type 0} (files : D → Files) (r : Copy D) (s : Stored) → Stands files r s → Holds files r (is_stuck r) s s
unfolding Stands
stands_hold files r s stands =
    subst (λ (b : Bool). MayFind r.sup (files r.disk) b s s) (sym (ap phase_stuck stands.phase)) (stand_finds r.sup (files r.disk) stands.opened s stands.stand)

pub stands_end : {D : Type 0} (files : D → Files) (r : Copy D) (s : Stored) → Stands files r s → end_of r ≡ s.end
unfolding Stands
stands_end files r s stands = ap phase_end stands.phase ∙ ap (λ (v : VolumeFile). v.end) stands.stand.volume

pub stands_capacity : {D : Type 0} (files : D → Files) (r : Copy D) (s : Stored) → Stands files r s → capacity_of r ≡ r.sup.settings.capacity
unfolding Stands
stands_capacity files r s stands = ap phase_capacity stands.phase ∙ ap (λ (v : VolumeFile). v.capacity) stands.stand.volume

pub stands_generation : {D : Type 0} (files : D → Files) (r : Copy D) (s : Stored) → Stands files r s → generation_of r ≡ s.generation
unfolding Stands
stands_generation files r s stands = ap phase_generation stands.phase ∙ stands.stand.generation

-- the index has no record of so many of its cells
pub stands_bare : {D : Type 0} (files : D → Files) (r : Copy D) (s : Stored) → Stands files r s → bare_of r ≡ length s.cells - s.records
unfolding Stands
stands_bare files r s stands =
    ap phase_bare stands.phase ∙ ap length stands.stand.noted ∙ length-drop s.records (map cell_record s.cells) ∙ ap (λ n. n - s.records) (length-map s.cells cell_record)

-- its cells stand without gaps
pub stands_cells_end : {D : Type 0} (files : D → Files) (r : Copy D) (s : Stored) → Stands files r s → s.end ≡ cells_end_of s.cells
unfolding Stands
stands_cells_end files r s stands =
    let f = stands.stand in
    sym (cells_end 64 s.end (files r.disk (volume_file s.generation)).now s.cells f.cells.is.has)

-- its live cells can be deleted
pub stands_delete : {D : Type 0} (files : D → Files) (r : Copy D) (s : Stored) (at : ℕ) → Stands files r s → HasLive at s.cells → MayDelete files r at
unfolding Stands MayDelete
stands_delete files r s at stands live =
    subst (λ (p : Phase). PhaseMayDelete (files r.disk) p at) (sym stands.phase) (stand_flag r.sup (files r.disk) stands.opened s at stands.stand live)

-- WHAT AN IMAGE HAS

pub holds_image : {D : Type 0} (files : D → Files) (r : Copy D) (stuck : Bool) (s t : Stored) (image : ℕ → List ℕ) → Holds files r stuck s t → MayLeave (files r.disk) image
    → Finds r.sup image stuck s t
unfolding MayFind
holds_image files r stuck s t image holds leaves = holds image leaves

-- LIVE CELLS

-- the last cell of a pair, if it is live, is a live cell
pub last_live : (cells : List Cell) (pair : Pair) (cell : Cell) → last_cell cells pair ≡ Some cell → cell.deleted ≡ false → HasLive cell.at cells
last_live [] pair cell last alive = absurd cc
last_live (first ∷ cells) pair cell last alive = by_rest (λ e. last_live cells pair cell e alive) (last_cell cells pair) refl last
  where
    here : (b : Bool) → cond b (Some first) None ≡ Some cell → (first.at ≡ cell.at) × (first.deleted ≡ false)
    here true is = let same : first ≡ cell = cc in (ap (λ (c : Cell). c.at) same, ap (λ (c : Cell). c.deleted) same ∙ alive)
    here false is = absurd cc

    by_rest : (last_cell cells pair ≡ Some cell → HasLive cell.at cells) → (rest : Option Cell) → last_cell cells pair ≡ rest
        → option_or rest (cond (pair_eq first.pair pair) (Some first) None) ≡ Some cell → HasLive cell.at (first ∷ cells)
    by_rest again (Some other) was is = inr (again (was ∙ is))
    by_rest again None was is = inl (here (pair_eq first.pair pair) is)

-- where its needle was given out, its place is that of a live cell
pub sealed_live : (Tells : Type 0) (cells : List Cell) (pair : Pair) (cell : Cell) (needle : SealedNeedle) → last_cell cells pair ≡ Some cell → IsSealedCell Tells cell needle → HasLive needle.at cells
sealed_live Tells cells pair cell needle last is = subst (λ n. HasLive n cells) (sym is.at) (last_live cells pair cell last is.alive)

-- and so is the place of a pair that an opening has found live
pub place_live : (P Tells : Type 0) (cells : List Cell) (pair : Pair) (needle : SealedNeedle) → PlaceOf {P = P} Tells (last_cell cells pair) (place.Live needle) → HasLive needle.at cells
place_live P Tells cells pair needle of = by_last (last_cell cells pair) refl of
  where
    by_last : (last : Option Cell) → last_cell cells pair ≡ last → PlaceOf {P = P} Tells last (place.Live needle) → HasLive needle.at cells
    by_last (Some cell) was is = sealed_live Tells cells pair cell needle was is
    by_last None was is = absurd is

-- A COMPACTION

-- no compaction stands, or this one
pub run_goal : {D : Type 0} (files : D → Files) (r : Copy D) (s : Stored) (run : Run) → HasRun files r s (Some run) → goal_of r ≡ Some run.goal
unfolding HasRun
run_goal files r s run has = ap phase_goal has.phase ∙ ap copier_goal has.has.stands ∙ ap (λ k. Some k) has.has.goal

pub run_next : {D : Type 0} (files : D → Files) (r : Copy D) (s : Stored) (run : Run) → HasRun files r s (Some run) → run.goal ≡ s.generation + 1
unfolding HasRun
run_next files r s run has = has.has.next

pub run_within : {D : Type 0} (files : D → Files) (r : Copy D) (s : Stored) (run : Run) → HasRun files r s (Some run) → run.left ≤ length s.cells
unfolding HasRun
run_within files r s run has = let left = has.has.left in omega arith

pub none_goal : {D : Type 0} (files : D → Files) (r : Copy D) (s : Stored) → HasRun files r s None → goal_of r ≡ None
unfolding HasRun
none_goal files r s none = none

pub goal_none : {D : Type 0} (files : D → Files) (r : Copy D) (s : Stored) → goal_of r ≡ None → HasRun files r s None
unfolding HasRun
goal_none files r s none = none

-- where a next cell was read, one is left
pub next_left : {D : Type 0} (files : D → Files) (r : Copy D) (s : Stored) (run : Run) (head : CellHead) → HasNext files r s run head → 1 ≤ run.left
unfolding HasNext
next_left files r s run head next =
    let p = next.has in
    let left = p.has.left in
    let some : length (drop p.has.examined s.cells) ≡ suc (length (drop (p.has.examined + 1) s.cells)) = ap length p.is in
    omega (arith, length-drop p.has.examined s.cells)

pub next_run : {D : Type 0} (files : D → Files) (r : Copy D) (s : Stored) (run : Run) (head : CellHead) → HasNext files r s run head → HasRun files r s (Some run)
unfolding HasNext HasRun
next_run files r s run head next = record { opened = next.opened; phase = next.phase; has = next.has.has }
