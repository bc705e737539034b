-- What an opening sees of a replica's disk that tells, by what it reads of it, whatever else the disk has.
use Rattle.std.specs.Prelude.{◌≡◌, ℕ, true, false, List, [], ◌∷◌, length, Option, None, Some, if◌then◌else◌}
use Rattle.std.specs.Option.{option_or}
use Rattle.hay_needle.specs.declared.needle.Cell.{Cell}
use Rattle.hay_needle.specs.declared.needle.Pair.{Pair}
use Rattle.hay_needle.specs.declared.settings.Super.{Super}
use Rattle.hay_needle.specs.Tables.{pair_eq}
use Rattle.hay_index.specs.declared.record.Record.{Record}
use Rattle.hay_volume.specs.Needles.{HasNeedleOf}
use Rattle.hay_open.specs.Damage.{ReadsAs}
use Rattle.hay_open.specs.Stored.{last_cell, volume_file}
use Rattle.hay_logical.specs.Seen.{ReplicaSeen}
use Rattle.hay_logical.specs.Sights.{Sight}
use Rattle.hay_logical.specs.Sights.Sight.{Gone, Live, Never, Unseen}

-- the last record of a pair
abbrev pub last_record : List Record → Pair → Option Record
last_record [] pair = None
last_record (r ∷ records) pair = option_or (last_record records pair) (if pair_eq r.pair pair then Some r else None)

-- The place of a pair of which this cell has no record: its needle was read.
abbrev pub IsSightOfCell : Cell → Sight → Type 0
IsSightOfCell cell (Live at) = (at ≡ cell.at) × (cell.deleted ≡ false)
IsSightOfCell cell Gone = cell.deleted ≡ true
IsSightOfCell cell Never = ⊥
IsSightOfCell cell (Unseen at size) = ⊥

-- That of a pair with this record: it was not looked at, or it was seen by the needle of its size that stands there.
abbrev pub IsSightOfRecord : List ℕ → Record → Sight → Type 0
IsSightOfRecord file r (Unseen at size) = (at ≡ r.at) × (size ≡ r.size)
IsSightOfRecord file r (Live at) = (at ≡ r.at) × HasNeedleOf r.size false r.at file
IsSightOfRecord file r Gone = HasNeedleOf r.size true r.at file
IsSightOfRecord file r Never = ⊥

-- That of a pair whose last cell without a record this is, and whose last record that.
abbrev pub IsSightOfPair : List ℕ → Option Cell → Option Record → Sight → Type 0
IsSightOfPair file (Some cell) recorded sight = IsSightOfCell cell sight
IsSightOfPair file None (Some r) sight = IsSightOfRecord file r sight
IsSightOfPair file None None sight = sight ≡ Never

-- A replica, and its place of each pair, are seen so by what was read of the disk's files.
pub record IsReadAs (sup : Super) (contents : ℕ → List ℕ) (seen : ReplicaSeen) (sights : Pair → Sight) : Type 0 where
  pub records : List Record
  pub orphans : List Cell
  pub reads : ReadsAs sup contents seen.generation records orphans seen.end
  pub bare : seen.bare ≡ length orphans
  pub places : (pair : Pair) → IsSightOfPair (contents (volume_file seen.generation)) (last_cell orphans pair) (last_record records pair) (sights pair)
