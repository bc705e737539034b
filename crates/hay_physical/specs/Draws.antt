-- How little an opening reads of a volume file.
use Rattle.std.specs.Prelude.{◌≡◌, ◌⊎◌, ◌≤◌, ℕ, ◌+◌, List, map, Option, Some, None}
use Rattle.std.specs.List.{slice_get}
use Rattle.hay_needle.specs.declared.needle.Cell.{Cell}
use Rattle.hay_needle.specs.declared.needle.Pair.{Pair}
use Rattle.hay_needle.specs.declared.settings.Super.{Super}
use Rattle.hay_needle.specs.Sizes.{needle_total}
use Rattle.hay_index.specs.declared.record.Record.{Record}
use Rattle.hay_map.specs.declared.place.Place.TheVariants as place
use Rattle.hay_map.specs.declared.view.OpenCell.{OpenCell}
use Rattle.hay_map.specs.Rows.{last_place}
use Rattle.hay_open.specs.Damage.{HasOrphans, IsRecorded}
use Rattle.hay_open.specs.Finds.{drawn_most}
use Rattle.hay_open.specs.Stored.{cell_record, volume_file}

-- one of the records is of a needle of this pair, of a photo of this size
pub record HasRecordOf (records : List Record) (pair : Pair) (size : ℕ) : Type 0 where
  pub number : ℕ
  pub one : Record
  pub there : slice_get records number ≡ Some one
  pub pair_is : one.pair ≡ pair
  pub size_is : one.size ≡ size

-- What a look at the needle of this pair reads at most: nothing where it needs none, and else a needle of the pair, as long as
-- one of the records says.
abbrev pub LooksAtMost : Option Pair → List Record → ℕ → Type 0
LooksAtMost None records more = more ≡ 0
LooksAtMost (Some pair) records more = (more ≡ 0) ⊎ ((size : ℕ) × HasRecordOf records pair size × (more ≡ needle_total size))

-- The head names the generation, the index has the records, and behind the needle of the last one these cells stand, which have no
-- record. Of the volume file no more was read than its superblock, the head of one needle, the needles of these cells and an end
-- mark, and what a look takes.
pub record DrewLittle (sup : Super) (contents : ℕ → List ℕ) (looked : Option Pair) (before after : ℕ → ℕ) : Type 0 where
  pub generation : ℕ
  pub records : List Record
  pub index_end : ℕ
  pub orphans : List Cell
  pub end : ℕ
  pub recorded : IsRecorded sup contents generation records index_end
  pub behind : HasOrphans (contents (volume_file generation)) records orphans end
  pub more : ℕ
  pub looks : LooksAtMost looked records more
  pub most : after (volume_file generation) ≤ before (volume_file generation) + (drawn_most (map cell_record orphans) + more)

-- No look was taken, and each place that was not looked at is of one of the records.
pub record DrewRecorded {P : Type 0} (sup : Super) (contents : ℕ → List ℕ) (before after : ℕ → ℕ) (cells : List (OpenCell P)) : Type 0 where
  pub drew : DrewLittle sup contents None before after
  pub unseen : (pair : Pair) (at size : ℕ) → last_place cells pair place.None ≡ place.Unseen at size → HasRecordOf (drew.records) pair size
