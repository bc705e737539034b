-- Acts on a volume and on the Directory, and the steps that they are.
use Rattle.std.specs.Prelude.{◌≡◌, ℕ, ◌+◌, ◌<◌, Bool, true, false, List, [], ◌∷◌, ◌++◌, length, slice_index_or, slice_set, Option, Some, None}
use Rattle.std.specs.List.{AllByRecursion as Each}
use Rattle.hay_needle.specs.declared.settings.Settings.{Settings}
use Rattle.hay_core.specs.declared.entry.CoreTag.{CoreTag}
use Rattle.hay_core.specs.declared.entry.Entry.{Entry}
use Rattle.hay_core.specs.declared.entry.Entry.TheVariants as entry
use Rattle.hay_legal.specs.declared.known.DirKnown.{DirKnown}
use Rattle.hay_legal.specs.declared.known.HomeRow.{HomeRow}
use Rattle.hay_legal.specs.declared.known.ReplicaKnown.{ReplicaKnown}
use Rattle.hay_legal.specs.declared.known.Run.{Run}
use Rattle.hay_legal.specs.declared.known.VolumeKnown.{VolumeKnown}
use Rattle.hay_legal.specs.Plain.{frozen_by, frozen_with, poised, stepped, swapped, with_bare, with_del, with_put, with_run, with_stuck, without_run}
use Rattle.hay_history.specs.LaneSteps.{Did, Follows, FollowsRows, RowDid, RowsStanding, RowStep, Standing, Step, change_at}
use Rattle.hay_history.specs.LaneSteps.Did.{Begins, Ends, Entered, Examines, Flushes, Freezes, Fuses, Pends, Poises, Sticks, Swaps, Tries}
use Rattle.hay_history.specs.LaneSteps.RowDid.{AddsRow, Drains, FusesRow, PendsRow, TriesRow}
use Rattle.hay_history.specs.Histories.{begun_in}
use Rattle.hay_meeting.specs.declared.act.DirAct.{DirAct}
use Rattle.hay_meeting.specs.declared.act.DirDid.{DirDid}
use Rattle.hay_meeting.specs.declared.act.DirDid.TheVariants as act_row
use Rattle.hay_meeting.specs.declared.act.VolumeAct.{VolumeAct}
use Rattle.hay_meeting.specs.declared.act.VolumeDid.{VolumeDid}
use Rattle.hay_meeting.specs.declared.act.VolumeDid.TheVariants as act
use Rattle.hay_meeting.specs.Locks.{Lock, replayed}

-- VOLUMES

abbrev pub is_frozen_then : Option ℕ → Bool
is_frozen_then (Some m) = true
is_frozen_then None = false

abbrev pub did_of : VolumeDid → Did
did_of act.Tries = Tries
did_of (act.Entered change ended) = Entered change
did_of (act.Pends m change failed) = Pends m change failed
did_of (act.Freezes m) = Freezes m
did_of (act.Flushes j) = Flushes j
did_of (act.Sticks j) = Sticks j
did_of (act.Begins j) = Begins j
did_of (act.Examines j n) = Examines j n
did_of (act.Ends j) = Ends j
did_of (act.Swaps j end cells frozen) = Swaps j end cells (is_frozen_then frozen)
did_of (act.Poises m j) = Poises m j
did_of (act.Fuses j) = Fuses j

-- a compaction that begins has all cells of its replica before it
abbrev pub begun_at : ReplicaKnown → ReplicaKnown
begun_at replica = with_run (record { goal = replica.generation + 1; left = replica.cells }) replica

-- and one that stands, so many cells fewer
abbrev pub examined_by : ℕ → Option Run → ReplicaKnown → ReplicaKnown
examined_by n None replica = replica
examined_by n (Some run) replica = with_run (stepped n run) replica

abbrev pub examined : ℕ → ReplicaKnown → ReplicaKnown
examined n replica = examined_by n replica.run replica

abbrev pub frozen_then : Option ℕ → VolumeKnown → VolumeKnown
frozen_then (Some m) volume = frozen_by m volume
frozen_then None volume = volume

-- what an act leaves of a volume
abbrev pub known_by : CoreTag → VolumeDid → VolumeKnown → VolumeKnown
known_by tag act.Tries volume = volume
known_by tag (act.Entered (entry.Put pair cookie bytes) ended) volume = with_put volume tag pair cookie bytes
known_by tag (act.Entered (entry.Del pair) ended) volume = with_del ended tag pair volume
known_by tag (act.Pends m change failed) volume = frozen_with m tag change failed volume
known_by tag (act.Freezes m) volume = frozen_by m volume
known_by tag (act.Flushes j) volume = change_at volume j (with_bare 0)
known_by tag (act.Sticks j) volume = change_at volume j with_stuck
known_by tag (act.Begins j) volume = change_at volume j begun_at
known_by tag (act.Examines j n) volume = change_at volume j (examined n)
known_by tag (act.Ends j) volume = change_at volume j without_run
known_by tag (act.Swaps j end cells frozen) volume = frozen_then frozen (change_at volume j (swapped end cells))
known_by tag (act.Poises m j) volume = change_at (frozen_by m volume) j poised
known_by tag (act.Fuses j) volume = volume

abbrev pub left_by : VolumeAct → Standing → Standing
left_by act before = record {
  volume = known_by act.tag act.did before.volume;
  faults = λ j. slice_index_or act.faults j (before.faults j);
  fuses = λ j. slice_index_or act.fuses j (before.fuses j);
}

-- what a view of a volume shows of an act: the change that it entered
abbrev pub entry_of : VolumeDid → Option Entry
entry_of act.Tries = None
entry_of (act.Entered change ended) = Some change
entry_of (act.Pends m change failed) = None
entry_of (act.Freezes m) = None
entry_of (act.Flushes j) = None
entry_of (act.Sticks j) = None
entry_of (act.Begins j) = None
entry_of (act.Examines j n) = None
entry_of (act.Ends j) = None
entry_of (act.Swaps j end cells frozen) = None
entry_of (act.Poises m j) = None
entry_of (act.Fuses j) = None

abbrev pub volume_lock : Lock Standing VolumeAct Entry Step
volume_lock = record {
  seat = λ act. act.seat;
  tag = λ act. act.tag;
  shows = λ act. entry_of act.did;
  next = left_by;
  step = λ before act. record { tag = act.tag; did = did_of act.did; after = left_by act before };
}

-- it has a count for each replica
pub record IsSized (replicas : ℕ) (act : VolumeAct) : Type 0 where
  pub faults : length act.faults ≡ replicas
  pub fuses : length act.fuses ≡ replicas

-- the line that began a replica's compaction last
abbrev pub begun_of : ℕ → CoreTag → List VolumeAct → CoreTag
begun_of j before [] = before
begun_of j before (act ∷ acts) = begun_of j (begun_in j act.tag (did_of act.did) before) acts

-- none has begun any where a store is opened
abbrev pub nobody : CoreTag
nobody = record { lane = 0; line = 0 }

-- THE DIRECTORY

abbrev pub row_did_of : DirDid → RowDid
row_did_of act_row.TriesRow = TriesRow
row_did_of (act_row.AddsRow row) = AddsRow row
row_did_of (act_row.PendsRow row) = PendsRow row
row_did_of (act_row.Drains m is) = Drains m is
row_did_of act_row.FusesRow = FusesRow

abbrev pub directory_by : CoreTag → DirDid → DirKnown → DirKnown
directory_by tag act_row.TriesRow directory = directory
directory_by tag (act_row.AddsRow row) directory = record directory { rows = directory.rows ++ row ∷ [] }
directory_by tag (act_row.PendsRow row) directory = record directory { frozen = true; pending = Some (record { tag = tag; row = row }) }
directory_by tag (act_row.Drains m is) directory = directory
directory_by tag act_row.FusesRow directory = directory

abbrev pub drained_by : DirDid → List Bool → List Bool
drained_by act_row.TriesRow drained = drained
drained_by (act_row.AddsRow row) drained = drained
drained_by (act_row.PendsRow row) drained = drained
drained_by (act_row.Drains m is) drained = slice_set drained m is
drained_by act_row.FusesRow drained = drained

abbrev pub rows_left_by : DirAct → RowsStanding → RowsStanding
rows_left_by act before = record {
  directory = directory_by act.tag act.did before.directory;
  drained = drained_by act.did before.drained;
  faults = act.faults;
  fuses = act.fuses;
}

-- what the Directory's view shows of an act: the row that it added
abbrev pub row_of : DirDid → Option HomeRow
row_of act_row.TriesRow = None
row_of (act_row.AddsRow row) = Some row
row_of (act_row.PendsRow row) = None
row_of (act_row.Drains m is) = None
row_of act_row.FusesRow = None

abbrev pub row_lock : Lock RowsStanding DirAct HomeRow RowStep
row_lock = record {
  seat = λ act. act.seat;
  tag = λ act. act.tag;
  shows = λ act. row_of act.did;
  next = rows_left_by;
  step = λ before act. record { tag = act.tag; did = row_did_of act.did; after = rows_left_by act before };
}

-- ALL ACTS

-- what stands where a store is opened: of each volume, and of the Directory
pub record Start : Type 0 where
  pub volumes : ℕ → Standing
  pub directory : RowsStanding

-- the acts on each volume, and on the Directory, in their order
pub record Happened : Type 0 where
  pub volumes : ℕ → List VolumeAct
  pub directory : List DirAct

-- The acts are such as may follow one another.
pub record AreSound (settings : Settings) (start : Start) (h : Happened) : Type 0 where
  pub follows : (v : ℕ) → v < settings.volumes → Follows settings v (start.volumes v) (replayed volume_lock (start.volumes v) (h.volumes v))
  pub sized : (v : ℕ) → v < settings.volumes → Each (IsSized settings.replicas) (h.volumes v)
  pub follows_rows : FollowsRows start.directory (replayed row_lock start.directory h.directory)
