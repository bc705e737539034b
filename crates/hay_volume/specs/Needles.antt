-- Whether a needle stands at a place of a volume file, and where the heads of some stand.
use Rattle.std.specs.Prelude.{◌≡◌, ◌≤◌, ◌+◌, ℕ, Bool, List, [], ◌∷◌, length, drop}
use Rattle.hay_needle.specs.declared.needle.Cell.{Cell}
use Rattle.hay_needle.specs.declared.needle.CellHead.{CellHead}
use Rattle.hay_needle.specs.declared.needle.Needle.{Needle}
use Rattle.hay_needle.specs.Needle.{BeginsWithNeedle}
use Rattle.hay_needle.specs.Sizes.{needle_total}
use Rattle.hay_volume.specs.Cells.{StandsCell}

-- no needle of a photo of this size begins at `at`
abbrev pub LacksNeedleOf : ℕ → ℕ → List ℕ → Type 0
LacksNeedleOf size at file = (n : Needle) → BeginsWithNeedle (drop at file) n → length n.photo.bytes ≡ size → ⊥

-- none that ends at `end` or before begins there
abbrev pub LacksNeedleWithin : ℕ → ℕ → List ℕ → Type 0
LacksNeedleWithin end at file = (n : Needle) → BeginsWithNeedle (drop at file) n → at + needle_total (length n.photo.bytes) ≤ end → ⊥

-- one of a photo of this size stands there, deleted or not
pub record HasNeedleOf (size : ℕ) (deleted : Bool) (at : ℕ) (file : List ℕ) : Type 0 where
  pub cell : Cell
  pub stands : StandsCell at file cell
  pub size_is : length cell.bytes ≡ size
  pub deleted_is : cell.deleted ≡ deleted

-- each of these heads stands where the needle of the one before it ends, from `at` to `end`
abbrev pub AreHeadsFrom : ℕ → List CellHead → ℕ → Type 0
AreHeadsFrom at [] end = at ≡ end
AreHeadsFrom at (head ∷ heads) end = (head.at ≡ at) × AreHeadsFrom (at + needle_total head.size) heads end
