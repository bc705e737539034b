-- A block that lanes ran, from new seats at each lock to the end of all locks.
use Rattle.std.specs.Prelude.{◌≡◌, ◌≢◌, ℕ, ◌<◌, ◌≤◌, List, [], length, map, slice_get, slice_index, Some, Bool}
use Rattle.std.specs.List.{AllByRecursion as Each}
use Rattle.hay_needle.specs.declared.settings.Settings.{Settings}
use Rattle.hay_script.specs.declared.words.TheConstants.{MAX_LANES}
use Rattle.hay_core.specs.declared.entry.Entry.{Entry}
use Rattle.hay_reply.specs.declared.Reply.{Reply}
use Rattle.hay_legal.specs.declared.known.HomeRow.{HomeRow}
use Rattle.hay_legal.specs.declared.known.Known.{Known}
use Rattle.hay_legal.specs.declared.turn.LaneItem.{LaneItem}
use Rattle.hay_legal.specs.Blocks.{LegalBlock}
use Rattle.hay_legal.specs.Known.{EachPair, arm_count}
use Rattle.hay_lanes.specs.Lanes.{AnswersLanes}
use Rattle.hay_meeting.specs.declared.act.DirAct.{DirAct}
use Rattle.hay_meeting.specs.declared.act.VolumeAct.{VolumeAct}
use Rattle.hay_meeting.specs.Acts.{Happened, Start}
use Rattle.hay_meeting.specs.Locks.{LockSight}
use Rattle.hay_lane.specs.declared.lane.Lane.{Lane}
use Rattle.hay_lane.specs.declared.lane.Shared.{Shared}
use Rattle.hay_shared_volume.specs.Tellings.{StoreVolume}
use Rattle.hay_block.specs.declared.worker.Job.{Job}
use Rattle.hay_block.specs.Behind.{CountsBehind, known_behind, log_notes_of, row_note_of}
use Rattle.hay_block.specs.Ends.{IsSettled, OpensAt, RowsEnded, VolumeEnded}
use Rattle.hay_block.specs.Lines.{Answers, AreItems, IsServed, SitsAt}
use Rattle.hay_block.specs.Seats.{AreSeatsAt, HasNewSeats}

module _ {V D S T A : Type 0} (fits : ℕ → V → Settings → ℕ → S → Type 0) (fits_rows : D → Settings → ℕ → T → Type 0) (is_at : S → StoreVolume → Type 0) (is_at_rows : T → Start → Type 0)
    (of : S → LockSight VolumeAct Entry) (of_rows : T → LockSight DirAct HomeRow) (arm_sure : A → Bool) (arm_faults : A → ℕ) where
  -- the lock of volume v ended with the seats of these lanes, and these are its acts
  pub record EndsAt (settings : Settings) (start : Start) (lanes : List (Lane S T A)) (v : ℕ) (history : List VolumeAct) : Type 0 where
    pub seats : List S
    pub of_lanes : AreSeatsAt v lanes seats
    pub ended : VolumeEnded settings start v (map of seats) history

  -- the lanes answered these jobs, and the acts of all are h
  pub record LanesRan (shared : Shared V D) (start : Start) (k : Known) (lanes after : List (Lane S T A)) (jobs : List (List Job)) (replies : List (List Reply))
      (h : Happened) (faults fuses arms : List ℕ) : Type 0 where
    pub opens : OpensAt shared.settings start k
    pub drained : (shared.drained).items ≡ k.drained
    pub some : 0 < length lanes
    pub few : length lanes ≤ MAX_LANES
    pub given : length jobs ≡ length lanes
    pub sits : (lane : ℕ) (l : Lane S T A) → slice_get lanes lane ≡ Some l → SitsAt fits fits_rows is_at is_at_rows of of_rows arm_sure arm_faults shared start lane l
    pub new : Each (HasNewSeats of of_rows) lanes
    pub arms_before : (lane : ℕ) (l : Lane S T A) → slice_get lanes lane ≡ Some l → arm_faults l.arm ≡ arm_count k lane
    pub served : Each (λ js. Each (λ job. IsServed job.item) js) jobs
    pub answers : AnswersLanes (λ old lane job new reply. Answers fits fits_rows is_at is_at_rows of of_rows arm_sure arm_faults shared lane job old new reply) lanes jobs after replies
    pub ends : (v : ℕ) → v < (shared.settings).volumes → EndsAt shared.settings start after v (h.volumes v)
    pub no_others : (v : ℕ) → (shared.settings).volumes ≤ v → h.volumes v ≡ []
    pub directory : RowsEnded start (map of_rows (map (λ l. l.directory) after)) h.directory
    pub counts : CountsBehind shared.settings start (length lanes) h k faults fuses arms
    pub arms_behind : (lane : ℕ) (l : Lane S T A) → slice_get after lane ≡ Some l → arm_faults l.arm ≡ slice_index arms lane

-- Then their lines are a legal block, in any order that keeps each lane's own.
abbrev pub LanesAreLegal : Type 1
LanesAreLegal =
    (V D S T A : Type 0) (fits : ℕ → V → Settings → ℕ → S → Type 0) (fits_rows : D → Settings → ℕ → T → Type 0) (is_at : S → StoreVolume → Type 0) (is_at_rows : T → Start → Type 0)
    (of : S → LockSight VolumeAct Entry) (of_rows : T → LockSight DirAct HomeRow) (arm_sure : A → Bool) (arm_faults : A → ℕ)
    (shared : Shared V D) (start : Start) (k : Known) (lanes after : List (Lane S T A)) (jobs : List (List Job)) (replies : List (List Reply))
    (h : Happened) (faults fuses arms : List ℕ)
    → LanesRan fits fits_rows is_at is_at_rows of of_rows arm_sure arm_faults shared start k lanes after jobs replies h faults fuses arms
    → (items : List LaneItem) → AreItems jobs replies items → EachPair (λ a b. a.line ≢ b.line) items
    → LegalBlock shared.settings k items (log_notes_of shared.settings k h) (row_note_of k h) (known_behind shared.settings start h faults fuses arms)
    × IsSettled shared.settings (known_behind shared.settings start h faults fuses arms)
