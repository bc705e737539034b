-- What stands behind the lock.
use Rattle.std.specs.Prelude.{◌≡◌, ◌≤◌, ℕ, Bool, false, List, [], length, map}
use Rattle.hay_needle.specs.declared.needle.Pair.{Pair}
use Rattle.hay_disk.specs.Disk.{Files}
use Rattle.hay_front.specs.Entries.{LogEntry}
use Rattle.hay_front.specs.Fronts.{FrontState}
use Rattle.hay_legal.specs.declared.known.DirKnown.{DirKnown}
use Rattle.hay_legal.specs.declared.known.HomeRow.{HomeRow}
use Rattle.hay_legal.specs.Known.{home_in}
use Rattle.hay_history.specs.LaneSteps.{FollowsRows, RowsStanding}
use Rattle.hay_meeting.specs.declared.act.DirAct.{DirAct}
use Rattle.hay_meeting.specs.Acts.{row_lock}
use Rattle.hay_meeting.specs.Locks.{entries, left, replayed}
use Rattle.hay_directory.specs.State.{IsUp, State, Stands, home_of, is_frozen, mode_of}
use Rattle.hay_views.specs.HomeLooks.{HomesAt}
use Rattle.hay_directory_lock.specs.Acts.{SetNoFuse, mode_behind, tags_of}
use Rattle.hay_directory_lock.specs.Begun.{BegunAt, IsBegun}

abbrev pub HomeFront : Type 0
HomeFront = FrontState HomesAt (Unit {0}) HomeRow (LogEntry HomeRow)

-- WHAT STANDS OF A DIRECTORY, whatever its disk tells

-- its homes are by these rows, and this row is pending
pub record MayBeKnown {D : Type 0} (directory : State D) (known : DirKnown) : Type 0 where
  pub mode : directory.mode ≡ mode_of known.pending
  pub frozen : is_frozen directory.mode ≡ known.frozen
  pub homes : (pair : Pair) → home_of directory pair ≡ home_in known.rows pair

module _ {D : Type 0} (faults fuses : D → ℕ) where
  -- these machines are drained, so many calls of its disk have failed, and so many fuses were set on it
  pub record IsCounted (directory : State D) (s : RowsStanding) : Type 0 where
    pub drained : directory.drained ≡ s.drained
    pub faults_are : faults directory.disk ≡ s.faults
    pub fuses_are : fuses directory.disk ≡ s.fuses

  pub record StandsAt (directory : State D) (s : RowsStanding) : Type 0 where
    pub known : MayBeKnown directory s.directory
    pub count : directory.count ≡ length (s.directory).rows
    pub counted : IsCounted directory s

-- what stands of it where this is known
abbrev pub standing_of : {D : Type 0} → (D → ℕ) → (D → ℕ) → State D → DirKnown → List Bool → RowsStanding
standing_of faults fuses directory known drained = record { directory = known; drained = drained; faults = faults directory.disk; fuses = fuses directory.disk }

module _ {D : Type 0} (Tells : Type 0) (files : D → Files) (faults fuses : D → ℕ) where
  -- The Directory is what these acts left of the one that stood where the lock was made, whatever stood of it.
  pub record DirectoryFor (begun : BegunAt D) (acts : List DirAct) (directory : State D) : Type 0 where
    pub settings : directory.settings ≡ (begun.directory).settings
    pub up : IsUp directory
    pub untouched : acts ≡ [] → directory ≡ begun.directory
    pub mode : directory.mode ≡ mode_behind (begun.directory).mode acts
    -- where its disk tells, the disk has all of that
    pub told : Tells → (s : RowsStanding) → Stands files begun.directory s.directory s.drained
        → Stands files directory (left row_lock s acts).directory (left row_lock s acts).drained
    pub known : (s : RowsStanding) → MayBeKnown begun.directory s.directory → MayBeKnown directory (left row_lock s acts).directory
    pub counted : (s : RowsStanding) → IsCounted faults fuses begun.directory s → IsCounted faults fuses directory (left row_lock s acts)
    pub follows : (s : RowsStanding) → StandsAt faults fuses begun.directory s → FollowsRows s (replayed row_lock s acts)
    -- the count of its disk never fell, whatever it tells
    pub rises : faults (begun.directory).disk ≤ faults directory.disk
    pub fuses_stay : SetNoFuse acts → fuses directory.disk ≡ fuses (begun.directory).disk

  -- and its front has published the rows that they added
  pub record KeptFor (begun : BegunAt D) (acts : List DirAct) (directory : State D) (front : HomeFront) : Type 0 where
    pub from : IsBegun begun
    pub of : DirectoryFor begun acts directory
    pub front_is : (front.shown).front ≡ (begun.view).front
    pub base : (front.shown).base ≡ (begun.view).base
    pub shown : (front.shown).deeds ≡ entries row_lock acts
    pub tags : map (λ e. e.tag) front.log ≡ tags_of acts
    -- a frozen Directory adds no row
    pub serves : is_frozen directory.mode ≡ false → front.closed ≡ false
