-- What can be seen of a replica, behind each change.
use Rattle.std.proofs.Common.{◌≡◌, inl, inr, ℕ, ◌+◌, ◌≤◌, Bool, true, false, List, [], ◌∷◌, length, refl, sym, ◌∙◌, ap, subst, arith, cond}
use Rattle.std.specs.Prelude.{Option, Some, None}
use Rattle.std.specs.Option.{option_or}
use Rattle.std.specs.List.{AllByRecursion}
use Rattle.std.proofs.lemmas.Bool.{cases_Bool, cases_eq}
use Rattle.hay_needle.specs.declared.needle.Cell.{Cell}
use Rattle.hay_needle.specs.declared.needle.Pair.{Pair}
use Rattle.hay_needle.specs.declared.settings.Super.{Super}
use Rattle.hay_needle.specs.Needle.{needle_magic}
use Rattle.hay_needle.specs.Sizes.{needle_total}
use Rattle.hay_needle.specs.Super.{super_bytes}
use Rattle.hay_needle.specs.Tables.{pair_eq}
use Rattle.hay_disk.specs.Disk.{Files, FileState, IsImage, IsSolid, KeepsOthers, MayLeave, Seals}
use Rattle.hay_disk.specs.Gate.{IsGate}
use Rattle.hay_disk.proofs.Images.{image_seals}
use Rattle.hay_disk.proofs.Logs.{gate_seals}
use Rattle.hay_disk.proofs.Steps.{solid_seals}
use Rattle.hay_volume.specs.declared.volume.VolumeFile.{VolumeFile}
use Rattle.hay_volume.specs.Cells.{HasPlace, IsVolume, StandsCell}
use Rattle.hay_volume.proofs.Readings.{same_cell}
use Rattle.hay_head.specs.Head.{head_magic, row_place}
use Rattle.hay_index.specs.Records.{index_magic}
use Rattle.hay_map.specs.declared.place.Place.{Place}
use Rattle.hay_map.specs.declared.place.Place.TheVariants as place
use Rattle.hay_map.specs.declared.view.OpenCell.{OpenCell}
use Rattle.hay_map.specs.Rows.{last_place}
use Rattle.hay_open.specs.Finds as found
use Rattle.hay_open.specs.Stored.{HeadRests, Stored, index_file, last_cell, volume_file, volume_super}
use Rattle.hay_compact.specs.Copying.{KeepsOtherFiles}
use Rattle.hay_physical.specs.declared.state.OpenFiles.{OpenFiles}
use Rattle.hay_physical.specs.declared.state.Phase.{Phase}
use Rattle.hay_physical.specs.declared.state.Phase.TheVariants.{Open}
use Rattle.hay_physical.specs.OpenCopies.{Copy}
use Rattle.hay_physical.specs.Replicas.{FilesReady, FilesStand, IndexStands, KeepsSight, MayFind, MayLook, MaySee, MaySeePlace, PhaseHasCell, PhaseMaySee, PhaseReady, ShowsCell, Stands, StandsIn}
use Rattle.hay_physical.specs.CompactionRuns.{KeepsFiles}
use Rattle.hay_physical.proofs.Deleting.{last_may}
use Rattle.hay_physical.proofs.RunViews.{files_ready}
use Rattle.hay_physical.proofs.Sights.{KeepsRange, LooksAt, all_look, all_so, cell_kept, flags_beside, look_kept, range_same}
use Rattle.hay_physical.proofs.Standing.{index_not_volume, volume_not_head}

-- WHAT IS KNOWN OF THE FILES

pub files_look : {D : Type 0} (files : D → Files) (r : Copy D) (sup : Super) (disk : D) (phase : Phase) (opened : OpenFiles) (at size : ℕ)
    → record { sup = sup; disk = disk; phase = phase } ≡ r → phase ≡ Open opened → MaySee files r at size
    → MayLook (files disk opened.volume.file) opened.volume.end at size
unfolding MaySee
files_look files r sup disk phase opened at size view is may =
    subst (λ (p : Phase). PhaseMaySee (files disk) p at size) is (subst (λ (x : Copy _). MaySee files x at size) (sym view) may)

pub files_cell : {D : Type 0} (files : D → Files) (r : Copy D) (sup : Super) (disk : D) (phase : Phase) (opened : OpenFiles) (cell : Cell)
    → record { sup = sup; disk = disk; phase = phase } ≡ r → phase ≡ Open opened → StandsIn files r cell
    → StandsCell cell.at (files disk opened.volume.file).now cell
unfolding StandsIn
files_cell files r sup disk phase opened cell view is stands =
    subst (λ (p : Phase). PhaseHasCell (files disk) p cell) is (subst (λ (x : Copy _). StandsIn files x cell) (sym view) stands)

-- WHAT THE FILES MAKE OF THE REPLICA

pub open_look : {D : Type 0} (files : D → Files) (sup : Super) (disk : D) (opened : OpenFiles) (at size : ℕ) → MayLook (files disk opened.volume.file) opened.volume.end at size
    → MaySee files (record { sup = sup; disk = disk; phase = Open opened }) at size
unfolding MaySee
open_look files sup disk opened at size may = may

pub open_cell : {D : Type 0} (files : D → Files) (sup : Super) (disk : D) (opened : OpenFiles) (cell : Cell) → StandsCell cell.at (files disk opened.volume.file).now cell
    → StandsIn files (record { sup = sup; disk = disk; phase = Open opened }) cell
unfolding StandsIn
open_cell files sup disk opened cell stands = stands

-- a cell that stands in an open replica
pub known_cell : {D : Type 0} (files : D → Files) (r : Copy D) (sup : Super) (disk : D) (phase : Phase) (opened : OpenFiles) (cell : Cell)
    → record { sup = sup; disk = disk; phase = phase } ≡ r → phase ≡ Open opened
    → StandsCell cell.at (files disk opened.volume.file).now cell → StandsIn files r cell
known_cell files r sup disk phase opened cell view is stands =
    subst (λ (x : Copy _). StandsIn files x cell) view (subst (λ (p : Phase). StandsIn files (record { sup = sup; disk = disk; phase = p }) cell) (sym is)
    (open_cell files sup disk opened cell stands))

-- A CHANGE

pub sight_kept : {D : Type 0} (files : D → Files) (IsKept : ℕ → ℕ → Type 0) (r : Copy D) (sup : Super) (disk new : D) (phase : Phase) (opened next : OpenFiles)
    → record { sup = sup; disk = disk; phase = phase } ≡ r → phase ≡ Open opened
    → next.volume.file ≡ opened.volume.file → opened.volume.end ≤ next.volume.end
    → ((at size : ℕ) → IsKept at size → at + needle_total size ≤ opened.volume.end → KeepsRange at (needle_total size) (files disk opened.volume.file) (files new opened.volume.file))
    → KeepsSight files IsKept r (record { sup = sup; disk = new; phase = Open next })
sight_kept files IsKept r sup disk new phase opened next view is file grows keeps =
    let may : (at size : ℕ) → IsKept at size → MaySee files r at size → MaySee files (record { sup = sup; disk = new; phase = Open next }) at size = λ at size kept may.
    let look = files_look files r sup disk phase opened at size view is may in
    let there = look_kept at size opened.volume.end next.volume.end (files disk opened.volume.file) (files new opened.volume.file) grows (keeps at size kept look.within) look in
    open_look files sup new next at size (subst (λ k. MayLook (files new k) next.volume.end at size) (sym file) there) in
    record {
      may = may;
      shows = λ cell kept shows.
          let look = files_look files r sup disk phase opened cell.at (length cell.bytes) view is shows.may in
          let stands = files_cell files r sup disk phase opened cell view is shows.stands in
          let there = cell_kept cell.at (files disk opened.volume.file) (files new opened.volume.file) cell (keeps cell.at (length cell.bytes) kept look.within) stands in
          record { may = may cell.at (length cell.bytes) kept shows.may; stands = open_cell files sup new next cell (subst (λ k. StandsCell cell.at (files new k).now cell) (sym file) there) };
    }

-- the volume file stays
pub sight_same : {D : Type 0} (files : D → Files) (IsKept : ℕ → ℕ → Type 0) (r : Copy D) (sup : Super) (disk new : D) (phase : Phase) (opened next : OpenFiles)
    → record { sup = sup; disk = disk; phase = phase } ≡ r → phase ≡ Open opened
    → next.volume ≡ opened.volume → files new opened.volume.file ≡ files disk opened.volume.file → KeepsSight files IsKept r (record { sup = sup; disk = new; phase = Open next })
sight_same files IsKept r sup disk new phase opened next view is volume same =
    sight_kept files IsKept r sup disk new phase opened next view is (ap (λ (v : VolumeFile). v.file) volume) (omega (arith, ap (λ (v : VolumeFile). v.end) volume))
    (λ at size kept within. range_same at (needle_total size) (files disk opened.volume.file) (files new opened.volume.file) same)

-- and all files
pub sight_moved : {D : Type 0} (files : D → Files) (IsKept : ℕ → ℕ → Type 0) (r : Copy D) (sup : Super) (disk new : D) (phase : Phase)
    → record { sup = sup; disk = disk; phase = phase } ≡ r → files new ≡ files disk
    → KeepsSight files IsKept r (record { sup = sup; disk = new; phase = phase })
unfolding MaySee StandsIn
sight_moved files IsKept r sup disk new phase view same =
    let may : (at size : ℕ) → IsKept at size → MaySee files r at size → PhaseMaySee (files new) phase at size = λ at size kept may.
    subst (λ (f : Files). PhaseMaySee f phase at size) (sym same) (subst (λ (x : Copy _). MaySee files x at size) (sym view) may) in
    record {
      may = may;
      shows = λ cell kept shows. record {
        may = may cell.at (length cell.bytes) kept shows.may;
        stands = subst (λ (f : Files). PhaseHasCell f phase cell) (sym same) (subst (λ (x : Copy _). StandsIn files x cell) (sym view) shows.stands);
      };
    }

-- files beside those of the replica change
pub beside_sight : {D : Type 0} (files : D → Files) (IsKept : ℕ → ℕ → Type 0) (r : Copy D) (sup : Super) (disk new : D) (phase : Phase) (opened next : OpenFiles)
    → record { sup = sup; disk = disk; phase = phase } ≡ r → phase ≡ Open opened
    → (opened.frozen ≡ true → (next ≡ opened) × (new ≡ disk)) → PhaseReady (files disk) phase → KeepsFiles opened next → KeepsOtherFiles (opened.head.generation + 1) (files disk) (files new)
    → KeepsSight files IsKept r (record { sup = sup; disk = new; phase = Open next })
beside_sight files IsKept r sup disk new phase opened next view is frozen ready keeps others =
    sight_same files IsKept r sup disk new phase opened next view is (ap (λ (o : OpenFiles). o.volume) keeps)
    (elim (cases_Bool opened.frozen) [
      | inl stuck ↦ ap (λ d. files d opened.volume.file) (frozen stuck).1
      | inr going ↦
          let v = (files_ready (files disk) phase opened is ready going).0.volume_number in
          others opened.volume.file (λ e. omega arith) (λ e. omega arith)
    ])

-- what is kept behind two changes
pub sight_sight : {D : Type 0} (files : D → Files) (IsKept : ℕ → ℕ → Type 0) (a b c : Copy D) → KeepsSight files IsKept a b → KeepsSight files IsKept b c → KeepsSight files IsKept a c
sight_sight files IsKept a b c first second = record {
  may = λ at size kept may. second.may at size kept (first.may at size kept may);
  shows = λ cell kept shows. second.shows cell kept (first.shows cell kept shows);
}

-- A REPLICA THAT STANDS

stand_look : (sup : Super) (files : Files) (opened : OpenFiles) (s : Stored) → FilesStand sup files opened s → AllByRecursion (LooksAt (files opened.volume.file) opened.volume.end) s.cells
stand_look sup files opened s f =
    let room = f.cells.gate.closed.room in
    let here : AllByRecursion (LooksAt (files (volume_file s.generation)) s.end) s.cells =
    all_look 64 s.end (files (volume_file s.generation)) s.cells f.cells.is.has (omega arith) f.cells.solid f.cells.flags in
    subst (λ (v : VolumeFile). AllByRecursion (LooksAt (files v.file) v.end) s.cells) (sym f.volume) here

-- shows each of its cells
pub stands_shows : {D : Type 0} (files : D → Files) (r : Copy D) (s : Stored) → Stands files r s → AllByRecursion (ShowsCell files r) s.cells
unfolding Stands MaySee StandsIn
stands_shows files r s stands =
    all_so (LooksAt (files r.disk stands.opened.volume.file) stands.opened.volume.end) (ShowsCell files r) s.cells
    (λ cell look. record {
      may = subst (λ (p : Phase). PhaseMaySee (files r.disk) p cell.at (length cell.bytes)) (sym stands.phase) look.may;
      stands = subst (λ (p : Phase). PhaseHasCell (files r.disk) p cell) (sym stands.phase) look.stands;
    })
    (stand_look r.sup (files r.disk) stands.opened s stands.stand)

-- the last cell of a pair is one of the cells
last_one : (P : Cell → Type 0) (cells : List Cell) (pair : Pair) (cell : Cell) → AllByRecursion P cells → last_cell cells pair ≡ Some cell → P cell
last_one P [] pair cell all last = absurd cc
last_one P (first ∷ cells) pair cell all last = by_rest (λ e. last_one P cells pair cell all.1 e) (last_cell cells pair) refl last
  where
    here : (b : Bool) → cond b (Some first) None ≡ Some cell → P cell
    here true is = let same : first ≡ cell = cc in subst P same all.0
    here false is = absurd cc

    by_rest : (last_cell cells pair ≡ Some cell → P cell) → (rest : Option Cell) → last_cell cells pair ≡ rest → option_or rest (cond (pair_eq first.pair pair) (Some first) None) ≡ Some cell → P cell
    by_rest again (Some other) was is = again (was ∙ is)
    by_rest again None was is = here (pair_eq first.pair pair) is

pub last_shows : {D : Type 0} (files : D → Files) (r : Copy D) (s : Stored) (pair : Pair) (cell : Cell) → Stands files r s → last_cell s.cells pair ≡ Some cell → ShowsCell files r cell
last_shows files r s pair cell stands last = last_one (ShowsCell files r) s.cells pair cell (stands_shows files r s stands) last

-- AN OPENING

module _ {P : Type 0} where
  place_sees : {D : Type 0} (files : D → Files) (sup : Super) (disk : D) (opened : OpenFiles) (p : Place P) → IsSolid (files disk opened.volume.file)
      → IsGate needle_magic opened.volume.end (files disk opened.volume.file)
      → found.MayFlagPlace (files disk opened.volume.file) opened.volume.end p → MaySeePlace files (record { sup = sup; disk = disk; phase = Open opened }) p
  place_sees files sup disk opened (place.Live needle) solid gate may = tt
  place_sees files sup disk opened place.None solid gate may = tt
  place_sees files sup disk opened place.Gone solid gate may = tt
  place_sees files sup disk opened (place.Unseen at size) solid gate may =
      let room = gate.closed.room in
      open_look files sup disk opened at size (record { within = may.0; inside = omega (arith, may.0); solid = λ k low high. solid.places k; free = may.1 })

  -- each place that was not looked at can be seen
  pub found_sees : {D : Type 0} (files : D → Files) (sup : Super) (disk : D) (opened : OpenFiles) (cells : List (OpenCell P)) → IsSolid (files disk opened.volume.file)
      → IsGate needle_magic opened.volume.end (files disk opened.volume.file)
      → AllByRecursion (λ cell. found.MayFlagPlace (files disk opened.volume.file) opened.volume.end cell.place) cells
      → (pair : Pair) → MaySeePlace files (record { sup = sup; disk = disk; phase = Open opened }) (last_place cells pair place.None)
  found_sees files sup disk opened cells solid gate all pair =
      place_sees files sup disk opened (last_place cells pair place.None) solid gate (last_may (files disk opened.volume.file) opened.volume.end cells pair place.None all tt)

-- A LOOK

-- one cell stands at a place
pub one_total : (at size : ℕ) (file : List ℕ) (seen cell : Cell) → StandsCell at file seen → length seen.bytes ≡ size → StandsCell at file cell → needle_total (length cell.bytes) ≡ needle_total size
one_total at size file seen cell here long there = ap (λ (c : Cell). needle_total (length c.bytes)) (same_cell at file cell seen there here) ∙ ap needle_total long

-- the files stand as they stood
pub stand_looked : (sup : Super) (old new : Files) (opened : OpenFiles) (s : Stored) (at n : ℕ) → FilesStand sup old opened s → HasPlace at s.cells → at + n ≤ opened.volume.end
    → ((cell : Cell) → StandsCell at (old opened.volume.file).now cell → needle_total (length cell.bytes) ≡ n)
    → Seals at n 28 (old opened.volume.file) (new opened.volume.file) → KeepsOthers opened.volume.file old new → FilesStand sup new opened s
stand_looked sup old new opened s at n f has within_was total_was seals_was others_was =
    let file : ℕ = volume_file s.generation in
    let within : at + n ≤ s.end = omega (arith, within_was, ap (λ (v : VolumeFile). v.end) f.volume) in
    let total : (cell : Cell) → StandsCell at (old file).now cell → needle_total (length cell.bytes) ≡ n =
    subst (λ (v : VolumeFile). (cell : Cell) → StandsCell at (old v.file).now cell → needle_total (length cell.bytes) ≡ n) f.volume total_was in
    let seals : Seals at n 28 (old file) (new file) = subst (λ (v : VolumeFile). Seals at n 28 (old v.file) (new v.file)) f.volume seals_was in
    let others : KeepsOthers file old new = subst (λ (v : VolumeFile). KeepsOthers v.file old new) f.volume others_was in
    record {
      generation = f.generation;
      lags = f.lags;
      volume = f.volume;
      index_number = f.index_number;
      noted = f.noted;
      head = subst (λ (state : FileState). HeadRests sup state s.generation) (sym (others 0 (volume_not_head s.generation))) f.head;
      cells = record {
        is = subst (λ (l : List ℕ). IsVolume (super_bytes (volume_super sup s.generation)) l s.cells s.end) (sym seals.now) f.cells.is;
        solid = solid_seals at n 28 (old file) (new file) f.cells.solid seals;
        gate = gate_seals needle_magic s.end at n 28 (old file) (new file) within f.cells.gate seals;
        flags = flags_beside 64 s.end at n s.cells (old file) (new file) f.cells.is.has has total seals f.cells.flags;
      };
      index = subst (λ (state : FileState). IndexStands sup state s opened.index.end opened.index.frozen) (sym (others (index_file s.generation) (index_not_volume s.generation))) f.index;
    }

-- changes can be made to them
pub ready_looked : (old new : Files) (opened : OpenFiles) (at n : ℕ) → FilesReady old opened → at + n ≤ opened.volume.end
    → Seals at n 28 (old opened.volume.file) (new opened.volume.file) → KeepsOthers opened.volume.file old new → FilesReady new opened
ready_looked old new opened at n r within seals others =
    let v = r.volume_number in
    let i = r.index_number in
    let head : new 0 ≡ old 0 = others 0 (λ e. omega arith) in
    let index : new opened.index.file ≡ old opened.index.file = others opened.index.file (λ e. omega arith) in
    record {
      volume_number = v;
      index_number = i;
      head = subst (λ (x : FileState). IsGate head_magic (row_place (opened.head.generation + 1)) x) (sym head) r.head;
      volume = gate_seals needle_magic opened.volume.end at n 28 (old opened.volume.file) (new opened.volume.file) within r.volume seals;
      index = λ live. subst (λ (x : FileState). IsGate index_magic opened.index.end x) (sym index) (r.index live);
    }

-- what a stop may leave then, it might have left before
pub leaves_looked : (old new : Files) (file at n : ℕ) → Seals at n 28 (old file) (new file) → KeepsOthers file old new → (image : ℕ → List ℕ) → MayLeave new image → MayLeave old image
leaves_looked old new file at n seals others image leaves k = elim (cases_eq k file) [
  | inl same ↦ subst (λ j. IsImage (old j) (image j)) (sym same) (image_seals at n 28 (old file) (new file) (image file) seals (leaves file))
  | inr apart ↦ subst (λ (x : FileState). IsImage x (image k)) (others k apart) (leaves k)
]

-- and an opening finds what it would have found
pub finds_looked : (sup : Super) (old new : Files) (file : ℕ) (stuck : Bool) (s t : Stored) (at n : ℕ) → Seals at n 28 (old file) (new file) → KeepsOthers file old new
    → MayFind sup old stuck s t → MayFind sup new stuck s t
unfolding MayFind
finds_looked sup old new file stuck s t at n seals others finds = λ image leaves. finds image (leaves_looked old new file at n seals others image leaves)

-- a file that was solid is solid
pub solid_looked : (old new : Files) (file at n : ℕ) → Seals at n 28 (old file) (new file) → KeepsOthers file old new → (k : ℕ) → IsSolid (old k) → IsSolid (new k)
solid_looked old new file at n seals others k solid = elim (cases_eq k file) [
  | inl same ↦ subst (λ j. IsSolid (new j)) (sym same) (solid_seals at n 28 (old file) (new file) (subst (λ j. IsSolid (old j)) same solid) seals)
  | inr apart ↦ subst IsSolid (sym (others k apart)) solid
]
