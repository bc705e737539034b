-- The history of a block, and what a lane sees of it.
use Rattle.std.specs.Prelude.{◌≡◌, ◌≢◌, ℕ, zero, suc, ◌≤◌, ◌==◌, not, Bool, true, false, cond, List, [], ◌∷◌, length, filter, filter_map, take_while, Contains, Option, Some, None}
use Rattle.std.specs.List.{AllByRecursion as Each, enumerate_from}
use Rattle.hay_needle.specs.declared.settings.Settings.{Settings}
use Rattle.hay_core.specs.declared.entry.CoreTag.{CoreTag}
use Rattle.hay_reply.specs.declared.LineVolume.{LineVolume}
use Rattle.hay_reply.specs.declared.Refused.{Refused}
use Rattle.hay_needle.specs.declared.needle.Pair.{Pair}
use Rattle.hay_legal.specs.declared.known.Known.{Known}
use Rattle.hay_legal.specs.declared.known.Run.{Run}
use Rattle.hay_legal.specs.declared.known.VolumeKnown.{VolumeKnown}
use Rattle.hay_legal.specs.declared.turn.RowNote.{RowNote}
use Rattle.hay_legal.specs.Known.{all_tries, closed_by, drained_of, fault_count, fuse_count, home_in, refusal_by, replica_at, room_refusal_of, slot_of, volume_at}
use Rattle.hay_history.specs.LaneSteps.{Did, RowDid, RowsStanding, RowStep, Standing, Step}
use Rattle.hay_history.specs.LaneSteps.Did.{Begins, Tries}
use Rattle.hay_history.specs.LaneSteps.RowDid.{AddsRow, TriesRow}

-- THE HISTORY

-- the steps of a block on each volume, and on the Directory, in the order in which they were held, and which line had begun the compaction
-- that stood before them, by volume and replica
pub record History : Type 0 where
  pub volumes : ℕ → List Step
  pub directory : List RowStep
  pub begun : ℕ → ℕ → CoreTag

abbrev pub first_of : Settings → Known → ℕ → Standing
first_of settings k v = record { volume = volume_at k v; faults = λ j. fault_count k (slot_of settings v j); fuses = λ j. fuse_count k (slot_of settings v j) }

abbrev pub first_rows : Known → RowsStanding
first_rows k = record { directory = k.directory; drained = k.drained; faults = fault_count k 0; fuses = fuse_count k 0 }

-- what stands behind so many steps
abbrev pub behind : Standing → List Step → ℕ → Standing
behind before steps zero = before
behind before [] (suc n) = before
behind before (step ∷ steps) (suc n) = behind step.after steps n

abbrev pub rows_behind : RowsStanding → List RowStep → ℕ → RowsStanding
rows_behind before steps zero = before
rows_behind before [] (suc n) = before
rows_behind before (step ∷ steps) (suc n) = rows_behind step.after steps n

-- the line that began a compaction of a replica last, behind a step and behind so many, where this one had before
abbrev pub begun_in : ℕ → CoreTag → Did → CoreTag → CoreTag
begun_in j tag (Begins i) before = cond (i == j) tag before
begun_in j tag _ before = before

abbrev pub begun_by : ℕ → CoreTag → List Step → ℕ → CoreTag
begun_by j before steps zero = before
begun_by j before [] (suc n) = before
begun_by j before (step ∷ steps) (suc n) = begun_by j (begun_in j step.tag step.did before) steps n

-- the steps of a line, each with how many stand before it
abbrev pub steps_of : List Step → ℕ → List (ℕ × Step)
steps_of steps line = filter (λ at. ((at.1).tag).line == line) (enumerate_from 0 steps)

abbrev pub row_steps_of : List RowStep → ℕ → List (ℕ × RowStep)
row_steps_of steps line = filter (λ at. ((at.1).tag).line == line) (enumerate_from 0 steps)

-- the lines of the new rows
abbrev pub row_line : RowStep → Option LineVolume
row_line step = line_by step.did
  where
    line_by : RowDid → Option LineVolume
    line_by (AddsRow row) = Some (record { line = (step.tag).line; volume = row.volume })
    line_by _ = None

abbrev pub row_note : Known → History → RowNote
row_note k history = record { from = length k.directory.rows; rows = filter_map row_line history.directory }

-- WHAT A LANE SEES

-- how many steps of each volume and of the Directory a lane has seen, and how many fetches at its arm have failed
pub record Seen : Type 0 where
  pub volumes : ℕ → ℕ
  pub rows : ℕ
  pub arm : ℕ

pub record IsLater (from to : Seen) : Type 0 where
  pub volumes : (v : ℕ) → from.volumes v ≤ to.volumes v
  pub rows : from.rows ≤ to.rows
  pub arm : from.arm ≤ to.arm

-- A line of a block, and what its lane had seen before it was answered and behind that.
pub record Course : Type 0 where
  pub settings : Settings
  pub k : Known
  pub history : History
  pub tag : CoreTag
  pub from : Seen
  pub to : Seen

-- what stood of a volume, and of the Directory, behind so many steps
abbrev pub standing : Course → ℕ → ℕ → Standing
standing c v n = behind (first_of c.settings c.k v) ((c.history).volumes v) n

abbrev pub rows_standing : Course → ℕ → RowsStanding
rows_standing c n = rows_behind (first_rows c.k) (c.history).directory n

abbrev pub volume_then : Course → ℕ → ℕ → VolumeKnown
volume_then c v n = (standing c v n).volume

-- a compaction of the replica stands then, which this line began
pub record HasRunOf (c : Course) (v j n : ℕ) (tag : CoreTag) : Type 0 where
  pub run : Run
  pub stands : (replica_at (volume_then c v n) j).run ≡ Some run
  pub begun : begun_by j ((c.history).begun v j) ((c.history).volumes v) n ≡ tag

-- the line might see this of a volume, and of the Directory
abbrev pub IsMoment : Course → ℕ → ℕ → Type 0
IsMoment c v n = ((c.from).volumes v ≤ n) × (n ≤ (c.to).volumes v)

abbrev pub IsRowMoment : Course → ℕ → Type 0
IsRowMoment c n = ((c.from).rows ≤ n) × (n ≤ (c.to).rows)

-- the line's own steps
abbrev pub own : Course → ℕ → List (ℕ × Step)
own c v = steps_of ((c.history).volumes v) (c.tag).line

abbrev pub own_rows : Course → List (ℕ × RowStep)
own_rows c = row_steps_of (c.history).directory (c.tag).line

-- those of them that changed something
abbrev pub changes_it : Did → Bool
changes_it Tries = false
changes_it _ = true

abbrev pub changes : Course → ℕ → List (ℕ × Step)
changes c v = filter (λ at. changes_it (at.1).did) (own c v)

abbrev pub changes_rows : RowDid → Bool
changes_rows TriesRow = false
changes_rows _ = true

abbrev pub row_changes : Course → List (ℕ × RowStep)
row_changes c = filter (λ at. changes_rows (at.1).did) (own_rows c)

abbrev pub NoSteps : Course → Type 0
NoSteps c = (v : ℕ) → changes c v ≡ []

abbrev pub NoRows : Course → Type 0
NoRows c = row_changes c ≡ []

abbrev pub OnlyOn : Course → ℕ → Type 0
OnlyOn c v = (u : ℕ) → u ≢ v → changes c u ≡ []

-- the line has one step on a volume, which did this
pub record OneStep (c : Course) (v : ℕ) (did : Did) : Type 0 where
  pub place : ℕ
  pub step : Step
  pub only : changes c v ≡ (place, step) ∷ []
  pub is : step.did ≡ did

-- the line changed nothing on a volume, and this is one of its steps there
pub record OneTry (c : Course) (v : ℕ) : Type 0 where
  pub place : ℕ
  pub step : Step
  pub among : Contains (own c v) (place, step)
  pub none : changes c v ≡ []
  pub is : step.did ≡ Tries

pub record OneRowStep (c : Course) (did : RowDid) : Type 0 where
  pub place : ℕ
  pub step : RowStep
  pub only : row_changes c ≡ (place, step) ∷ []
  pub is : step.did ≡ did

-- A pair's home as the line saw it, at a front of the Directory.
pub record SeesHome (c : Course) (pair : Pair) (d : ℕ) (home : Option ℕ) : Type 0 where
  pub moment : ℕ
  pub seen : IsRowMoment c moment
  pub front : d ≡ length ((rows_standing c moment).directory).rows
  pub is : home_in ((rows_standing c moment).directory).rows pair ≡ home

-- the machine by which a volume was closed to changes then, if it was
abbrev pub closing_then : Course → ℕ → ℕ → Option ℕ
closing_then c v n = closed_by (volume_then c v n).frozen (drained_of c.settings c.k v)

-- why a volume did not take a photo of this size then, if it did not
abbrev pub refusal_then : Course → ℕ → ℕ → ℕ → Option Refused
refusal_then c v n size = refusal_by v (closing_then c v n) (room_refusal_of c.settings v (volume_then c v n) size)

-- the line saw the volume refuse a photo so
pub record SeesRefusal (c : Course) (size v : ℕ) (refused : Refused) : Type 0 where
  pub moment : ℕ
  pub seen : IsMoment c v moment
  pub is : refusal_then c v moment size ≡ Some refused

-- The line saw that a volume takes a photo of this size of a pair without a home, and that each try before it refuses it.
pub record SeesTaker (c : Course) (pair : Pair) (size v : ℕ) : Type 0 where
  pub tried : Contains (all_tries c.settings pair) v
  pub moment : ℕ
  pub seen : IsMoment c v moment
  pub takes : refusal_then c v moment size ≡ None
  pub before : Each (λ u. (refused : Refused) × SeesRefusal c size u refused) (take_while (λ u. not (u == v)) (all_tries c.settings pair))

-- the line saw a volume open to changes
pub record SeesOpen (c : Course) (v : ℕ) : Type 0 where
  pub moment : ℕ
  pub seen : IsMoment c v moment
  pub is : closing_then c v moment ≡ None

-- the machine by which the line saw a volume closed to changes
pub record SeesClosed (c : Course) (v m : ℕ) : Type 0 where
  pub moment : ℕ
  pub seen : IsMoment c v moment
  pub is : closing_then c v moment ≡ Some m

-- and by which it was frozen
pub record SeesFrozen (c : Course) (v m : ℕ) : Type 0 where
  pub moment : ℕ
  pub seen : IsMoment c v moment
  pub is : (volume_then c v moment).frozen ≡ Some m
