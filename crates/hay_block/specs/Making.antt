-- What is told where the lock of the Directory is made for a block, and where it ends.
use Rattle.std.specs.Prelude.{◌≡◌, ℕ, ◌-◌, ◌^◌, ◌<◌, ◌≤◌, Bool, List, [], map, filter_map, slice_get, Some}
use Rattle.std.specs.List.{AllByRecursion as Each}
use Rattle.hay_needle.specs.declared.settings.Settings.{Settings}
use Rattle.hay_front.specs.declared.front.Tag.{Tag}
use Rattle.hay_legal.specs.declared.known.DirKnown.{DirKnown}
use Rattle.hay_legal.specs.declared.known.HomeRow.{HomeRow}
use Rattle.hay_legal.specs.declared.known.PendingRow.{PendingRow}
use Rattle.hay_history.specs.LaneSteps.{FollowsRows, RowsStanding}
use Rattle.hay_meeting.specs.declared.act.DirAct.{DirAct}
use Rattle.hay_meeting.specs.Acts.{Start, row_lock}
use Rattle.hay_meeting.specs.Locks.{LockSight, left, replayed}
use Rattle.hay_lane.specs.Fuses.{SetNoRowFuse}
use Rattle.hay_block.specs.Behind.{added_row}
use Rattle.hay_shared_volume.specs.Ends.{Ended}

-- a Directory whose rows, and the one that is pending, are of volumes of the store
pub record IsRegularDirectory (settings : Settings) (directory : DirKnown) : Type 0 where
  pub homes : Each (λ row. row.volume < settings.volumes) directory.rows
  pub pending : (pending : PendingRow) → directory.pending ≡ Some pending → (pending.row).volume < settings.volumes

abbrev pub rows_standing : {F : Type 0} → (F → ℕ) → (F → ℕ) → F → DirKnown → List Bool → RowsStanding
rows_standing faults fuses directory known drained = record { directory = known; drained = drained; faults = faults directory; fuses = fuses directory }

abbrev pub AreAtRows : {T F : Type 0} → (T → Start → Type 0) → (F → DirKnown → List Bool → Type 0) → (F → ℕ) → (F → ℕ) → F → List T → Type 0
AreAtRows {T} is_at stands faults fuses directory seats =
    (lane : ℕ) (seat : T) → slice_get seats lane ≡ Some seat → (known : DirKnown) (drained : List Bool) → stands directory known drained
    → (start : Start) → start.directory ≡ rows_standing faults fuses directory known drained → is_at seat start

module _ {T F : Type 0} (of : T → LockSight DirAct HomeRow) (stands : F → DirKnown → List Bool → Type 0) (faults fuses : F → ℕ) where
  abbrev rows_stood_by : F → DirKnown → List Bool → List DirAct → RowsStanding
  rows_stood_by directory known drained acts = left row_lock (rows_standing faults fuses directory known drained) acts

  pub record LeavesDirectory (directory : F) (seats : List T) (after : F) (tags : List Tag) : Type 0 where
    pub history : List DirAct
    pub ended : Ended row_lock (map of seats) history
    pub lines : map (λ tag. tag.line) tags ≡ map (λ row. row.line) (filter_map added_row history)
    pub untouched : history ≡ [] → after ≡ directory
    pub follows : (known : DirKnown) (drained : List Bool) → stands directory known drained
        → FollowsRows (rows_standing faults fuses directory known drained) (replayed row_lock (rows_standing faults fuses directory known drained) history)
    pub stands_for : (known : DirKnown) (drained : List Bool) → stands directory known drained
        → stands after (rows_stood_by directory known drained history).directory (rows_stood_by directory known drained history).drained
    pub faults_are : (known : DirKnown) (drained : List Bool) → stands directory known drained → (rows_stood_by directory known drained history).faults ≡ faults after
    pub fuses_are : (known : DirKnown) (drained : List Bool) → stands directory known drained → (rows_stood_by directory known drained history).fuses ≡ fuses after
    -- whatever its disk tells
    pub rises : faults directory ≤ faults after
    pub fuses_stay : SetNoRowFuse history → fuses after ≡ fuses directory
    pub small : faults after ≤ 2 ^ 64 - 1
