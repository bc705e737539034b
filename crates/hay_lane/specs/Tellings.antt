-- What a call at the Directory's lock tells by its answer, as a step of a lane.
use Rattle.std.specs.Prelude.{◌≡◌, ◌⊎◌, ℕ, Result, Ok, Err}
use Rattle.hay_core.specs.declared.entry.CoreTag.{CoreTag}
use Rattle.hay_legal.specs.declared.known.HomeRow.{HomeRow}
use Rattle.hay_meeting.specs.Acts.{Start}
use Rattle.hay_holdings.specs.Rows.{DirectoryCall, MetFrozenDir, MetHome, RowAdded, RowFailed, RowWanted}
use Rattle.hay_directory.specs.declared.fault.DirFault.{DirFault}
use Rattle.hay_directory.specs.declared.fault.DirFault.TheVariants as refusal

-- the home of the row's pair, and how many rows there are
abbrev pub SettleTells : Start → CoreTag → HomeRow → Result (ℕ × ℕ) DirFault → DirectoryCall
SettleTells start tag row (Ok answer) a b =
    MetHome start tag row.pair answer.0 answer.1 a b ⊎ ((answer.0 ≡ row.volume) × RowAdded start tag row.pair row.volume answer.1 a b)
SettleTells start tag row (Err refusal.Frozen) a b = MetFrozenDir start tag a b
SettleTells start tag row (Err refusal.NoMemory) a b = RowWanted start tag row.pair row.volume a b
SettleTells start tag row (Err (refusal.Failed faults)) a b = RowFailed start tag row.pair row.volume faults a b
