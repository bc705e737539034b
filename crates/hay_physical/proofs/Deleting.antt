-- Which of the photos that an opening found can be deleted.
use Rattle.std.proofs.Common.{arith, ℕ, Bool, true, false, List, [], ◌∷◌, if◌then◌else◌}
use Rattle.std.specs.List.{AllByRecursion}
use Rattle.hay_needle.specs.declared.needle.Pair.{Pair}
use Rattle.hay_needle.specs.declared.settings.Super.{Super}
use Rattle.hay_needle.specs.Tables.{pair_eq}
use Rattle.hay_disk.specs.Disk.{Files, FileState}
use Rattle.hay_map.specs.declared.place.Place.{Place}
use Rattle.hay_map.specs.declared.place.Place.TheVariants as place
use Rattle.hay_map.specs.declared.view.OpenCell.{OpenCell}
use Rattle.hay_map.specs.Rows.{last_place}
use Rattle.hay_open.specs.Finds.{MayFlagPlace}
use Rattle.hay_physical.specs.declared.state.OpenFiles.{OpenFiles}
use Rattle.hay_physical.specs.declared.state.Phase.TheVariants.{Open}
use Rattle.hay_physical.specs.Replicas.{MayDelete, MayDeletePlace}

module _ {P : Type 0} where
  place_either : (file : FileState) (end : ℕ) (b : Bool) (p q : Place P) → MayFlagPlace file end p → MayFlagPlace file end q → MayFlagPlace file end (if b then p else q)
  place_either file end true p q own other = own
  place_either file end false p q own other = other

  -- the place of a pair is one of those that were found
  pub last_may : (file : FileState) (end : ℕ) (cells : List (OpenCell P)) (pair : Pair) (before : Place P) → AllByRecursion (λ cell. MayFlagPlace file end cell.place) cells
      → MayFlagPlace file end before
      → MayFlagPlace file end (last_place cells pair before)
  last_may file end [] pair before all may = may
  last_may file end (cell ∷ cells) pair before all may =
      last_may file end cells pair (if pair_eq cell.pair pair then cell.place else before) all.1 (place_either file end (pair_eq cell.pair pair) cell.place before all.0 may)

  pub place_deletes : {D : Type 0} (files : D → Files) (sup : Super) (disk : D) (opened : OpenFiles) (p : Place P) → MayFlagPlace (files disk opened.volume.file) opened.volume.end p
      → MayDeletePlace files (record { sup = sup; disk = disk; phase = Open opened }) p
  unfolding MayDelete
  place_deletes files sup disk opened (place.Live needle) may = record { within = may.0; free = may.1 }
  place_deletes files sup disk opened place.None may = tt
  place_deletes files sup disk opened place.Gone may = tt
  place_deletes files sup disk opened (place.Unseen at size) may = record { within = omega (arith, may.0); free = may.1 }

  pub found_deletes : {D : Type 0} (files : D → Files) (sup : Super) (disk : D) (opened : OpenFiles) (cells : List (OpenCell P))
      → AllByRecursion (λ cell. MayFlagPlace (files disk opened.volume.file) opened.volume.end cell.place) cells
      → (pair : Pair) → MayDeletePlace files (record { sup = sup; disk = disk; phase = Open opened }) (last_place cells pair place.None)
  found_deletes files sup disk opened cells all pair =
      place_deletes files sup disk opened (last_place cells pair place.None) (last_may (files disk opened.volume.file) opened.volume.end cells pair place.None all tt)
