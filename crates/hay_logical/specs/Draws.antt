-- How little the openings of a volume's replicas read.
use Rattle.std.specs.Prelude.{◌≡◌, ◌≤◌, ℕ, ◌+◌, Option, Some, None}
use Rattle.hay_needle.specs.declared.needle.Pair.{Pair}
use Rattle.hay_needle.specs.Sizes.{needle_total}
use Rattle.hay_disk.specs.Disk.{Files}
use Rattle.hay_map.specs.MapRows.{MapRows}
use Rattle.hay_map.specs.Places.{place_in}
use Rattle.hay_map.specs.Rows.{row_at}
use Rattle.hay_map.specs.declared.place.Place.{Place}
use Rattle.hay_map.specs.declared.place.Place.TheVariants as place
use Rattle.hay_physical.specs.OpenCopies.{Copy, contents_of}
use Rattle.hay_physical.specs.Draws.{DrewLittle, HasRecordOf}
use Rattle.hay_logical.specs.declared.unsure.Change.{Change}
use Rattle.hay_logical.specs.declared.unsure.Change.TheVariants as change
use Rattle.hay_logical.specs.declared.unsure.Unsure.{Unsure}

-- the pair of a delete that was broken off, at whose needle an opening looks
abbrev pub change_pair : Change → Option Pair
change_pair (change.Put ends) = None
change_pair (change.Delete pair) = Some pair

abbrev pub looked_pair : Option Unsure → Option Pair
looked_pair None = None
looked_pair (Some unsure) = change_pair unsure.change

-- Of the volume file of this replica an opening read little.
abbrev pub DrewAt : {D : Type 0} → (D → Files) → (D → ℕ → ℕ) → Option Pair → Copy D → Copy D → Type 0
DrewAt files drawn looked r r' = DrewLittle r.sup (contents_of files r'.disk) looked (drawn r.disk) (drawn r'.disk)

-- So it did before any look, and each place of the rows that was not looked at is of a record.
pub record DrewRecordedAt {D P : Type 0} (files : D → Files) (drawn : D → ℕ → ℕ) (rows : MapRows P) (j : ℕ) (r r' : Copy D) : Type 0 where
  pub drew : DrewAt files drawn None r r'
  pub unseen : (pair : Pair) (at size : ℕ) → place_in (row_at rows pair) j ≡ place.Unseen at size → HasRecordOf (drew.records) pair size

-- how many bytes a look at this place reads at most
abbrev pub look_total : {P : Type 0} → Place P → ℕ
look_total (place.Unseen at size) = needle_total size
look_total (place.Live needle) = 0
look_total place.None = 0
look_total place.Gone = 0

abbrev pub looked_total : {P : Type 0} → Option Pair → MapRows P → ℕ → ℕ
looked_total None rows j = 0
looked_total (Some pair) rows j = look_total (place_in (row_at rows pair) j)

-- of no file more than so many bytes were read
abbrev pub DrawsAtMost : {D : Type 0} → (D → ℕ → ℕ) → ℕ → Copy D → Copy D → Type 0
DrawsAtMost drawn most r r' = (n : ℕ) → drawn r'.disk n ≤ drawn r.disk n + most

-- nothing was read of its disk since it was stopped
abbrev pub HasDrawnNothing : {D : Type 0} → (D → ℕ → ℕ) → Copy D → Type 0
HasDrawnNothing drawn r = (n : ℕ) → drawn r.disk n ≡ 0
