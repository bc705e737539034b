-- The lines of a lane, and what it answers.
use Rattle.std.specs.Prelude.{◌≡◌, ℕ, ◌<◌, ◌==◌, List, [], ◌∷◌, length, filter, slice_get, Some, Bool}
use Rattle.std.specs.List.{AllByRecursion as Each, flat_map}
use Rattle.hay_needle.specs.declared.settings.Settings.{Settings}
use Rattle.hay_core.specs.declared.entry.Entry.{Entry}
use Rattle.hay_script.specs.Script.{IsWithin}
use Rattle.hay_reply.specs.declared.Reply.{Reply}
use Rattle.hay_reply.specs.declared.Reply.TheVariants.{BadLine}
use Rattle.hay_reply.specs.Fits.{FitsReply}
use Rattle.hay_legal.specs.declared.known.HomeRow.{HomeRow}
use Rattle.hay_legal.specs.declared.turn.Item.{Item}
use Rattle.hay_legal.specs.declared.turn.Item.TheVariants as asks
use Rattle.hay_legal.specs.declared.turn.LaneItem.{LaneItem}
use Rattle.hay_legal.specs.Suiting.{SuitsItem}
use Rattle.hay_history.specs.Commands.{MayStandInLane}
use Rattle.hay_meeting.specs.declared.act.DirAct.{DirAct}
use Rattle.hay_meeting.specs.declared.act.VolumeAct.{VolumeAct}
use Rattle.hay_meeting.specs.Acts.{Start}
use Rattle.hay_meeting.specs.Locks.{LockSight}
use Rattle.hay_meeting.specs.Replies.{AnsweredHere}
use Rattle.hay_lane.specs.declared.lane.Lane.{Lane}
use Rattle.hay_lane.specs.declared.lane.Shared.{Shared}
use Rattle.hay_lane.specs.Blames.{Blames, causes_told}
use Rattle.hay_lane.specs.Fuses.{IsUnfused}
use Rattle.hay_lane.specs.Lanes.{IsLaterArm, IsOf, IsSeated, sight}
use Rattle.hay_shared_volume.specs.Tellings.{StoreVolume}
use Rattle.hay_block.specs.declared.worker.Job.{Job}

-- a line that a block may have
abbrev pub IsServed : Item → Type 0
IsServed (asks.Command command) = IsWithin command × MayStandInLane (asks.Command command)
IsServed asks.Bad = Unit {0}

-- a command is answered as suits it
abbrev pub AnswersSuited : Settings → Job → Reply → Type 0
AnswersSuited settings job reply = SuitsItem settings job.line job.item reply

-- a line that is no command is answered so
abbrev pub AnswersBad : Job → Reply → Type 0
AnswersBad job reply = job.item ≡ asks.Bad → reply ≡ BadLine

-- a line of the lane with its reply
abbrev pub answered_line : ℕ → Job → Reply → LaneItem
answered_line lane job reply = record { line = job.line; lane = lane; item = job.item; reply = reply }

module _ {V D S T A : Type 0} (fits : ℕ → V → Settings → ℕ → S → Type 0) (fits_rows : D → Settings → ℕ → T → Type 0) (is_at : S → StoreVolume → Type 0) (is_at_rows : T → Start → Type 0)
    (of : S → LockSight VolumeAct Entry) (of_rows : T → LockSight DirAct HomeRow) (arm_sure : A → Bool) (arm_faults : A → ℕ) (shared : Shared V D) where
  -- The lane of this number sits at these locks, which were made round this store.
  pub record SitsAt (start : Start) (number : ℕ) (lane : Lane S T A) : Type 0 where
    pub seated : IsSeated fits fits_rows shared number lane
    pub store : IsOf is_at is_at_rows shared.settings start lane

  -- It answered a line so: it sits where it sat, and what it knows grew by this answer.
  pub record Answers (number : ℕ) (job : Job) (old new : Lane S T A) (reply : Reply) : Type 0 where
    pub seated : IsSeated fits fits_rows shared number new
    pub same : (start : Start) → IsOf is_at is_at_rows shared.settings start old → IsOf is_at is_at_rows shared.settings start new
    pub answered : (start : Start) → IsOf is_at is_at_rows shared.settings start old
        → AnsweredHere shared.settings start (shared.drained).items (answered_line number job reply) (sight of of_rows arm_faults old) (sight of of_rows arm_faults new)
    pub fits_reply : FitsReply reply
    -- whatever the disks tell
    pub suits : AnswersSuited shared.settings job reply
    pub bad : AnswersBad job reply
    pub unfused : IsUnfused of of_rows old → IsUnfused of of_rows new
    pub blames : Blames arm_sure arm_faults old.arm new.arm (causes_told reply)
    pub arm : IsLaterArm arm_sure arm_faults old.arm new.arm

-- a lane's lines with their replies
abbrev pub answered_lines : ℕ → List Job → List Reply → List LaneItem
answered_lines lane [] replies = []
answered_lines lane (job ∷ jobs) [] = []
answered_lines lane (job ∷ jobs) (reply ∷ replies) = answered_line lane job reply ∷ answered_lines lane jobs replies

-- the lines of all lanes with their replies, each lane's in its order
pub record AreItems (jobs : List (List Job)) (replies : List (List Reply)) (items : List LaneItem) : Type 0 where
  pub low : Each (λ item. item.lane < length jobs) items
  pub each : (lane : ℕ) (js : List Job) (rs : List Reply) → slice_get jobs lane ≡ Some js → slice_get replies lane ≡ Some rs
      → filter (λ item. item.lane == lane) items ≡ answered_lines lane js rs

-- Of the causes that the replies of each lane tell, in their order, those that are an arm are of the lane's own, in this block.
pub record BlameArms {A : Type 0} (is_sure : A → Bool) (faults : A → ℕ) (old new : List A) (replies : List (List Reply)) : Type 0 where
  pub each : (lane : ℕ) (rs : List Reply) → slice_get replies lane ≡ Some rs
      → (a : A) × (b : A) × (slice_get old lane ≡ Some a) × (slice_get new lane ≡ Some b) × Blames is_sure faults a b (flat_map causes_told rs)
