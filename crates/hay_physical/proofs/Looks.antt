-- What a look at a cell has seen.
use Rattle.std.proofs.Common.{◌≡◌, ℕ, List, length, sym, ◌∙◌, ap, refl, subst, ◌+◌, inl, inr, arith}
use Rattle.std.specs.Prelude.{Result, Ok, Err, OnOk}
use Rattle.hay_needle.specs.declared.needle.Cell.{Cell}
use Rattle.hay_needle.specs.declared.needle.CellHead.{CellHead}
use Rattle.hay_needle.specs.Sizes.{needle_total}
use Rattle.hay_disk.specs.Disk.{Files, FileState, Seals}
use Rattle.hay_disk.specs.Gate.{HasBytesAt}
use Rattle.hay_volume.specs.Cells.{IsCellAt, StandsCell, cell_head}
use Rattle.hay_volume.proofs.Readings.{same_cell}
use Rattle.hay_map.specs.declared.place.Place.{Place}
use Rattle.hay_map.specs.declared.place.Place.TheVariants as place
use Rattle.hay_physical.specs.declared.fault.ReplicaFault.{ReplicaFault}
use Rattle.hay_physical.specs.OpenCopies.{Copy}
use Rattle.hay_physical.specs.Replicas.{IsSightOf, IsToldBy, IsUnsealed, MayDelete, MayDeletePlace, MayFlag, MayLook}

-- the bytes that were read are a cell, which stands where they stand
pub stands_there : (at : ℕ) (out file : List ℕ) (cell : Cell) → IsCellAt at out cell → HasBytesAt at out file → StandsCell at file cell
stands_there at out file cell is stand = record { needle = out; is = is; stand = stand }

-- one refusal
pub one_fault : {T : Type 0} (r : Result T ReplicaFault) (a b : ReplicaFault) → r ≡ Err a → r ≡ Err b → a ≡ b
one_fault r a b was is = cc

-- a cell that stands there is the one that was seen
pub seen_head : (at : ℕ) (out file : List ℕ) (head : CellHead) (cell : Cell) → (seen : Cell) × IsCellAt at out seen × (head ≡ cell_head seen) → HasBytesAt at out file
    → StandsCell at file cell → head ≡ cell_head cell
seen_head at out file head cell seen stand here = seen.2 ∙ ap cell_head (same_cell at file seen.0 cell (stands_there at out file seen.0 seen.1 stand) here)

-- what follows of a result where the disk tells
pub told : {T E : Type 0} (r : Result T E) (Tells P : Type 0) → (Tells → OnOk r P) → OnOk r (Tells → P)
told (Ok value) Tells P makes = makes
told (Err fault) Tells P makes = tt

pub always_ok : {T E : Type 0} (r : Result T E) (P : Type 0) → P → OnOk r P
always_ok (Ok value) P p = p
always_ok (Err fault) P p = tt

-- FLAGS BESIDE THE PIECE

pub own_flag : (old new : FileState) (end at size : ℕ) → MayLook old end at size → Seals at (needle_total size) 28 old new → MayFlag new end at
own_flag old new end at size look seals = let within = look.within in record { within = omega arith; free = seals.free (at + 28) look.free (inr refl) }

pub other_flag : (old new : FileState) (end at size other : ℕ) → IsUnsealed at size other → Seals at (needle_total size) 28 old new → MayFlag old end other → MayFlag new end other
other_flag old new end at size other (inl apart) seals flag = record { within = flag.within; free = seals.free (other + 28) flag.free (inl apart) }
other_flag old new end at size other (inr own) seals flag = record { within = flag.within; free = seals.free (other + 28) flag.free (inr (ap (λ k. k + 28) own)) }

-- the photo of a place that was seen can be deleted
pub sight_deletes : {D P : Type 0} (files : D → Files) (r : Copy D) (at : ℕ) (cell : Cell) (p : Place P) → cell.at ≡ at → MayDelete files r at → IsSightOf cell p → MayDeletePlace files r p
sight_deletes files r at cell (place.Live needle) there may is = subst (λ k. MayDelete files r k) (sym (is.1 ∙ there)) may
sight_deletes files r at cell place.Gone there may is = tt
sight_deletes files r at cell place.None there may is = tt
sight_deletes files r at cell (place.Unseen other size) there may is = absurd is

-- what is seen is told by the needle that stands there
pub told_by : {P : Type 0} (size at : ℕ) (file : List ℕ) (cell : Cell) (p : Place P) → StandsCell at file cell → length cell.bytes ≡ size → IsSightOf cell p → IsToldBy size at file p
told_by size at file cell (place.Live needle) stands long is = (record { cell = cell; stands = stands; size_is = long; deleted_is = is.0 }, is.1 ∙ stands.is.place)
told_by size at file cell place.Gone stands long is = record { cell = cell; stands = stands; size_is = long; deleted_is = is }
told_by size at file cell place.None stands long is = absurd is
told_by size at file cell (place.Unseen there more) stands long is = absurd is
