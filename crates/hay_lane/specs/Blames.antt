-- What the causes that are told say of a lane's arm, whatever the disks tell.
use Rattle.std.specs.Prelude.{◌≡◌, ℕ, Bool, true, List, [], map}
use Rattle.std.specs.List.{AllByRecursion as Each}
use Rattle.hay_reply.specs.declared.Cause.{Cause}
use Rattle.hay_reply.specs.declared.Cause.TheVariants.{Arm, Damage, Disk}
use Rattle.hay_reply.specs.declared.Reply.{Reply}
use Rattle.hay_reply.specs.declared.Reply.TheVariants as reply
use Rattle.hay_legal.specs.Known.{CameUp, EachPair}
use Rattle.hay_legal.specs.Plain.{ArmRises}
use Rattle.hay_lane.specs.Lanes.{IsLaterArm}

-- the lane's arm, which is not sure then, came up to the count that is told of it
abbrev pub MayBlame : Type 0 → ℕ → ℕ → Cause → Type 0
MayBlame Sure before after (Arm count) = (Sure → ⊥) × CameUp before count after
MayBlame Sure before after (Disk count) = Unit {0}
MayBlame Sure before after (Damage at) = Unit {0}

-- Of these causes, in the order in which they are told, each failure of an arm is one of the arm that had these counts before and behind
-- them, and of two the later one has the greater count. `Sure` says that the arm is sure.
pub record BlamesArm (Sure : Type 0) (before after : ℕ) (causes : List Cause) : Type 0 where
  pub each : Each (MayBlame Sure before after) causes
  pub rises : EachPair ArmRises causes

-- so it is with an arm that was so before them, and so behind them
abbrev pub Blames : {A : Type 0} → (A → Bool) → (A → ℕ) → A → A → List Cause → Type 0
Blames is_sure faults old new causes = BlamesArm (is_sure old ≡ true) (faults old) (faults new) causes

-- It is so with these causes behind this use of the arm, wherever it was so with those before it.
abbrev pub BlamesOn : {A : Type 0} → (A → Bool) → (A → ℕ) → A → A → List Cause → List Cause → Type 0
BlamesOn {A} is_sure faults old new before after =
    (first : A) → IsLaterArm is_sure faults first old → Blames is_sure faults first old before → Blames is_sure faults first new after

-- the causes that a reply tells, in its order
abbrev pub causes_told : Reply → List Cause
causes_told (reply.Unreadable v p d causes) = map (λ passed. passed.cause) causes
causes_told (reply.Stored v p d cookie) = []
causes_told (reply.Deleted v p d) = []
causes_told (reply.Photo v m p d photo) = []
causes_told (reply.Gone v m p d) = []
causes_told (reply.Absent v p d) = []
causes_told (reply.WrongCookie v m p d) = []
causes_told (reply.Unknown d) = []
causes_told (reply.Moved v d) = []
causes_told (reply.Url d url) = []
causes_told (reply.Full tries) = []
causes_told (reply.ReadOnly closed) = []
causes_told reply.ReadOnlyDir = []
causes_told (reply.Failed v m count) = []
causes_told (reply.FailedDir count) = []
causes_told (reply.Damaged v m at) = []
causes_told (reply.Flushed v m n) = []
causes_told (reply.Begun v m n) = []
causes_told (reply.Stepped v m n) = []
causes_told (reply.Compacted v m n) = []
causes_told (reply.Busy v m n) = []
causes_told (reply.Idle v m) = []
causes_told (reply.Worn v m) = []
causes_told (reply.Drained m) = []
causes_told (reply.Undrained m) = []
causes_told (reply.Fused v m n) = []
causes_told (reply.FusedDir n) = []
causes_told reply.Nowhere = []
causes_told (reply.Restarted d) = []
causes_told reply.BadLine = []
causes_told reply.NoMem = []
