-- What a lane has seen of all locks, and what a line is between two such sights.
use Rattle.std.specs.Prelude.{◌≡◌, ℕ, ◌-◌, ◌<◌, ◌≤◌, Bool, List, take, drop}
use Rattle.hay_needle.specs.declared.settings.Settings.{Settings}
use Rattle.hay_core.specs.declared.entry.CoreTag.{CoreTag}
use Rattle.hay_core.specs.declared.entry.Entry.{Entry}
use Rattle.hay_legal.specs.declared.known.HomeRow.{HomeRow}
use Rattle.hay_legal.specs.declared.known.Known.{Known}
use Rattle.hay_legal.specs.declared.turn.LaneItem.{LaneItem}
use Rattle.hay_legal.specs.Blocks.{tag_of}
use Rattle.hay_history.specs.LaneSteps.{RowsStanding, Standing}
use Rattle.hay_history.specs.Histories.{Course, History, Seen, first_of, first_rows}
use Rattle.hay_history.specs.Commands.{Answered}
use Rattle.hay_meeting.specs.declared.act.DirAct.{DirAct}
use Rattle.hay_meeting.specs.declared.act.VolumeAct.{VolumeAct}
use Rattle.hay_meeting.specs.Acts.{AreSound, Happened, Start, begun_of, nobody, row_lock, volume_lock}
use Rattle.hay_meeting.specs.Locks.{BearsAt, Doing, IsLaterAt, LockSight, Worked, left, moment_of, replayed}

-- of each volume, of the Directory, and how many fetches at the lane's arm have failed
pub record Sight : Type 0 where
  pub volumes : ℕ → LockSight VolumeAct Entry
  pub directory : LockSight DirAct HomeRow
  pub arm : ℕ

pub record IsLaterSight (a b : Sight) : Type 0 where
  pub volumes : (v : ℕ) → IsLaterAt (a.volumes v) (b.volumes v)
  pub directory : IsLaterAt a.directory b.directory
  pub arm : a.arm ≤ b.arm

-- how many acts stand before lines, on each volume and on the Directory
pub record Cut : Type 0 where
  pub volumes : ℕ → ℕ
  pub rows : ℕ

-- what stands of a volume, and of the Directory, behind acts
abbrev pub stood : Start → ℕ → List VolumeAct → Standing
stood start v acts = left volume_lock (start.volumes v) acts

abbrev pub rows_stood : Start → List DirAct → RowsStanding
rows_stood start acts = left row_lock start.directory acts

-- the history behind the cut, at which the store stands at k
abbrev pub history_of : Settings → Known → Cut → Happened → History
history_of settings k cut h = record {
  volumes = λ v. replayed volume_lock (first_of settings k v) (drop (cut.volumes v) (h.volumes v));
  directory = replayed row_lock (first_rows k) (drop cut.rows h.directory);
  begun = λ v j. begun_of j nobody (take (cut.volumes v) (h.volumes v));
}

abbrev pub seen_of : Cut → Happened → Sight → Seen
seen_of cut h s = record {
  volumes = λ v. moment_of volume_lock (h.volumes v) (s.volumes v) - cut.volumes v;
  rows = moment_of row_lock h.directory s.directory - cut.rows;
  arm = s.arm;
}

abbrev pub course_of : Settings → Known → Cut → Happened → CoreTag → Sight → Sight → Course
course_of settings k cut h tag a b =
    record { settings = settings; k = k; history = history_of settings k cut h; tag = tag; from = seen_of cut h a; to = seen_of cut h b }

-- the same of a volume of so many replicas
pub record Agrees (replicas : ℕ) (a b : Standing) : Type 0 where
  pub volume : a.volume ≡ b.volume
  pub faults : (j : ℕ) → j < replicas → a.faults j ≡ b.faults j
  pub fuses : (j : ℕ) → j < replicas → a.fuses j ≡ b.fuses j

-- the store stands at k behind these acts
pub record StandsAt (settings : Settings) (start : Start) (k : Known) (acts : Happened) : Type 0 where
  pub volumes : (v : ℕ) → v < settings.volumes → Agrees settings.replicas (first_of settings k v) (stood start v (acts.volumes v))
  pub rows : first_rows k ≡ rows_stood start acts.directory

abbrev pub taken : Cut → Happened → Happened
taken cut h = record { volumes = λ v. take (cut.volumes v) (h.volumes v); directory = take cut.rows h.directory }

-- h may be all that happens, and k stands at the cut, where these machines are drained
pub record Bears (settings : Settings) (start : Start) (drained : List Bool) (k : Known) (cut : Cut) (h : Happened) (item : LaneItem) (a b : Sight) : Type 0 where
  pub sound : AreSound settings start h
  pub drains : k.drained ≡ drained
  pub stands : StandsAt settings start k (taken cut h)
  pub volumes : (v : ℕ) → BearsAt volume_lock (cut.volumes v) (h.volumes v) item.line (a.volumes v) (b.volumes v)
  pub directory : BearsAt row_lock cut.rows h.directory item.line a.directory b.directory

-- The line was answered as it may be, whatever else happens in all.
abbrev pub IsLegalLine : Settings → Start → List Bool → Sight → Sight → LaneItem → Type 0
IsLegalLine settings start drained a b item =
    (k : Known) (cut : Cut) (h : Happened) → Bears settings start drained k cut h item a b
    → Answered (course_of settings k cut h (tag_of item) a b) item

-- a line's doings on each volume, and on the Directory
pub record Doings : Type 0 where
  pub volumes : ℕ → List (Doing VolumeAct)
  pub rows : List (Doing DirAct)

-- This is what the line did on each lock between two sights of its lane.
pub record Work (item : LaneItem) (a b : Sight) (doings : Doings) : Type 0 where
  pub volumes : (v : ℕ) → Worked volume_lock (tag_of item) (a.volumes v) (b.volumes v) (doings.volumes v)
  pub directory : Worked row_lock (tag_of item) a.directory b.directory doings.rows
  pub arm : a.arm ≤ b.arm
