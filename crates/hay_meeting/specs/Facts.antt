-- What a line's lane saw and did between two sights, in the terms of its own sights and acts.
use Rattle.std.specs.Prelude.{◌≡◌, ◌≢◌, ℕ, ◌+◌, ◌<◌, ◌≤◌, ◌==◌, not, Bool, false, List, [], ◌∷◌, ◌++◌, length, map, filter, find, fold, take_while, Contains, slice_index_or, Option, Some, None}
use Rattle.std.specs.List.{AllByRecursion as Each, list_any}
use Rattle.hay_needle.specs.declared.needle.Pair.{Pair}
use Rattle.hay_needle.specs.declared.settings.Settings.{Settings}
use Rattle.hay_needle.specs.Tables.{Table, outcome_at}
use Rattle.hay_disk.specs.Counts.{Rose}
use Rattle.hay_reply.specs.declared.Refused.{Refused}
use Rattle.hay_core.specs.declared.entry.CoreTag.{CoreTag}
use Rattle.hay_core.specs.declared.entry.Entry.{Entry}
use Rattle.hay_core.specs.Entries.{apply_entry}
use Rattle.hay_legal.specs.declared.known.HomeRow.{HomeRow}
use Rattle.hay_legal.specs.declared.known.Run.{Run}
use Rattle.hay_legal.specs.declared.known.VolumeKnown.{VolumeKnown}
use Rattle.hay_legal.specs.Known.{all_tries, closed_by, home_in, machine_of, now, refusal_by, replica_at, replica_on, replicas_of, room_refusal_of, stands}
use Rattle.hay_history.specs.LaneSteps.{Did, RowDid, RowsStanding}
use Rattle.hay_history.specs.LaneSteps.Did.{Tries}
use Rattle.hay_history.specs.Histories.{changes_it, changes_rows}
use Rattle.hay_meeting.specs.declared.act.DirAct.{DirAct}
use Rattle.hay_meeting.specs.declared.act.VolumeAct.{VolumeAct}
use Rattle.hay_meeting.specs.Acts.{Start, begun_of, did_of, nobody, row_did_of, row_lock, volume_lock}
use Rattle.hay_meeting.specs.Locks.{Doing, Held, IsDoing, IsLaterAt, LockSight, past}
use Rattle.hay_meeting.specs.Sights.{Doings, Sight, rows_stood, stood}

-- DOINGS

-- those that changed something
abbrev pub changed : List (Doing VolumeAct) → List (Doing VolumeAct)
changed doings = filter (λ doing. changes_it (did_of (doing.act).did)) doings

abbrev pub changed_rows : List (Doing DirAct) → List (Doing DirAct)
changed_rows doings = filter (λ doing. changes_rows (row_did_of (doing.act).did)) doings

-- one changed something, and did this
pub record OneDoing (doings : List (Doing VolumeAct)) (did : Did) : Type 0 where
  pub one : Doing VolumeAct
  pub only : changed doings ≡ one ∷ []
  pub is : did_of (one.act).did ≡ did

pub record OneRowDoing (doings : List (Doing DirAct)) (did : RowDid) : Type 0 where
  pub one : Doing DirAct
  pub only : changed_rows doings ≡ one ∷ []
  pub is : row_did_of (one.act).did ≡ did

-- none lies behind it
abbrev pub IsLastDoing : {E : Type 0} → List (Doing E) → Doing E → Type 0
IsLastDoing doings last = Each (λ doing. length doing.held ≤ length last.held) doings

-- WHAT STOOD

-- the rows that a view of the Directory shows, and the table of a replica at what a view of its volume shows
abbrev pub rows_shown : Start → List HomeRow → List HomeRow
rows_shown start shown = ((start.directory).directory).rows ++ shown

abbrev pub table_shown : Start → ℕ → ℕ → List Entry → Table
table_shown start v j shown = fold apply_entry (now (start.volumes v).volume (replica_at (start.volumes v).volume j)) shown

abbrev pub front_shown : Start → ℕ → List Entry → ℕ
front_shown start v shown = length ((start.volumes v).volume).log + length shown

abbrev pub volume_stood : Start → ℕ → List VolumeAct → VolumeKnown
volume_stood start v acts = (stood start v acts).volume

-- the lowest of a volume's machines that are drained
abbrev pub drained_in : Settings → List Bool → ℕ → Option ℕ
drained_in settings drained v = find (λ m. slice_index_or drained m false) (map (machine_of settings v) (replicas_of settings))

module _ (settings : Settings) (start : Start) (drained : List Bool) (a b : Sight) where
  -- WHAT IT SAW of the Directory's view, and of a volume's

  pub record SawHome (pair : Pair) (d : ℕ) (home : Option ℕ) : Type 0 where
    pub sight : LockSight DirAct HomeRow
    pub from : IsLaterAt a.directory sight
    pub to : IsLaterAt sight b.directory
    pub front : d ≡ length (rows_shown start sight.shown)
    pub is : home_in (rows_shown start sight.shown) pair ≡ home

  pub record SawFront (v p : ℕ) : Type 0 where
    pub sight : LockSight VolumeAct Entry
    pub from : IsLaterAt (a.volumes v) sight
    pub to : IsLaterAt sight (b.volumes v)
    pub front : p ≡ front_shown start v sight.shown

  -- WHAT IT FOUND under the lock

  -- a holding of the volume found acts behind which it stood so
  pub record Found (v : ℕ) (IsSo : List VolumeAct → Type 0) : Type 0 where
    pub below : v < settings.volumes
    pub held : List VolumeAct
    pub between : Held volume_lock (a.volumes v) (b.volumes v) held
    pub is : IsSo held

  pub record FoundRows (IsSo : RowsStanding → Type 0) : Type 0 where
    pub held : List DirAct
    pub between : Held row_lock a.directory b.directory held
    pub is : IsSo (rows_stood start held)

  -- the machine by which the volume was closed to changes behind these acts, and why it did not take a photo of this size, if so
  abbrev pub closing_at : ℕ → List VolumeAct → Option ℕ
  closing_at v acts = closed_by (volume_stood start v acts).frozen (drained_in settings drained v)

  abbrev pub refusal_at : ℕ → List VolumeAct → ℕ → Option Refused
  refusal_at v acts size = refusal_by v (closing_at v acts) (room_refusal_of settings v (volume_stood start v acts) size)

  abbrev pub FoundRefusal : ℕ → ℕ → Refused → Type 0
  FoundRefusal size v refused = Found v (λ acts. refusal_at v acts size ≡ Some refused)

  -- it found that a volume takes a photo of this size, and that each try before it refuses it
  pub record FoundTaker (pair : Pair) (size v : ℕ) : Type 0 where
    pub tried : Contains (all_tries settings pair) v
    pub takes : Found v (λ acts. refusal_at v acts size ≡ None)
    pub before : Each (λ u. (refused : Refused) × FoundRefusal size u refused) (take_while (λ u. not (u == v)) (all_tries settings pair))

  abbrev pub stood_at : ℕ → List VolumeAct → Pair → Bool
  stood_at v acts pair =
      list_any (λ j. stands (outcome_at (now (volume_stood start v acts) (replica_at (volume_stood start v acts) j)) pair)) (replicas_of settings)

  -- COUNTS

  -- a call of the disk of replica j failed in the act, and its count rose to f
  pub record RoseAt (v : ℕ) (doing : Doing VolumeAct) (j f : ℕ) : Type 0 where
    pub within : j < settings.replicas
    pub rose : Rose ((stood start v doing.held).faults j) ((stood start v (past doing)).faults j)
    pub printed : f ≡ (stood start v (past doing)).faults j

  pub record FailedAt (doings : List (Doing VolumeAct)) (v m : ℕ) (doing : Doing VolumeAct) (f : ℕ) : Type 0 where
    pub replica : ℕ
    pub there : replica_on settings v m ≡ Some replica
    pub rose : RoseAt v doing replica f
    pub last : IsLastDoing doings doing

  -- RUNS

  -- a compaction of the replica stands behind these acts, which this line began
  pub record HasRunAt (v j : ℕ) (acts : List VolumeAct) (tag : CoreTag) : Type 0 where
    pub run : Run
    pub stands : (replica_at (volume_stood start v acts) j).run ≡ Some run
    pub begun : begun_of j nobody acts ≡ tag

  -- A compaction of the replica that a line began stood until this act, which may be another lane's, and none stood behind it.
  pub record RanUntilAt (v j : ℕ) (until : Doing VolumeAct) (tag : CoreTag) : Type 0 where
    pub between : IsDoing volume_lock (a.volumes v) (b.volumes v) until
    pub own : HasRunAt v j until.held tag
    pub none : (replica_at (volume_stood start v (past until)) j).run ≡ None

  -- WHAT IT DID

  module _ (doings : Doings) where
    abbrev pub NothingOn : Type 0
    NothingOn = (v : ℕ) → changed (doings.volumes v) ≡ []

    abbrev pub NoNewRows : Type 0
    NoNewRows = changed_rows doings.rows ≡ []

    abbrev pub NothingDone : Type 0
    NothingDone = NothingOn × NoNewRows

    abbrev pub OnlyAt : ℕ → Type 0
    OnlyAt v = (u : ℕ) → u ≢ v → changed (doings.volumes u) ≡ []

    -- it changed nothing on the volume, and acted there, which may have failed
    pub record OneTryAt (v : ℕ) : Type 0 where
      pub one : Doing VolumeAct
      pub among : Contains (doings.volumes v) one
      pub none : changed (doings.volumes v) ≡ []
      pub is : did_of (one.act).did ≡ Tries
