-- The act of a holding, by what its call answered.
use Rattle.std.specs.Prelude.{◌≡◌, ◌↔◌, ℕ, List, Option, Some, None, Result, Ok, Err, IsNone, IfSome, slice_index_or}
use Rattle.hay_core.specs.declared.entry.CoreTag.{CoreTag}
use Rattle.hay_history.specs.Histories.{begun_in}
use Rattle.hay_history.specs.LaneSteps.Did.{Begins}
use Rattle.hay_logical.specs.declared.fault.LogicalFault.{LogicalFault}
use Rattle.hay_logical.specs.declared.fault.LogicalFault.TheVariants.{Busy, Damaged, Failed, Full, Gone, Idle, NoMemory, ReadOnly, Worn}
use Rattle.hay_meeting.specs.declared.act.VolumeAct.{VolumeAct}
use Rattle.hay_meeting.specs.Acts.{nobody}
use Rattle.hay_physical.specs.OpenCopies.{Copy}
use Rattle.hay_volume_lock.specs.Acts.{act_of, counts}
use Rattle.hay_volume_lock.specs.declared.act.Made.{Made}
use Rattle.hay_volume_lock.specs.declared.act.Made.TheVariants as made
use Rattle.hay_volume_lock.specs.declared.refusals.Unflushed.{Unflushed}

-- an act that changed nothing is made where a count has changed since it was so
pub record IsTried {D : Type 0} (faults fuses : D → ℕ) (tag : CoreTag) (before : List ℕ) (replicas : List (Copy D)) (act : Option VolumeAct) : Type 0 where
  pub quiet : IsNone act ↔ (before ≡ counts faults replicas)
  pub is : IfSome act (λ act. act ≡ act_of faults fuses tag made.Tries replicas)

-- what a refused flush did, and a flush
abbrev pub stuck_made : ℕ → LogicalFault → Option Made
stuck_made j (Failed m f) = Some (made.Sticks j)
stuck_made j (ReadOnly m) = None
stuck_made j NoMemory = None
stuck_made j (Full m end need capacity) = None
stuck_made j (Gone front) = None
stuck_made j (Busy m g) = None
stuck_made j (Worn m) = None
stuck_made j Idle = None
stuck_made j (Damaged m at) = None

abbrev pub flush_made : ℕ → Result ℕ LogicalFault → Option Made
flush_made j (Ok n) = Some (made.Flushes j)
flush_made j (Err fault) = stuck_made j fault

-- what a flush answers, where the volume is frozen by this machine
abbrev pub flush_answer : Option ℕ → Result ℕ LogicalFault → Result ℕ Unflushed
flush_answer frozen (Ok n) = Ok n
flush_answer frozen (Err fault) = Err (record { fault = fault; frozen = frozen })

-- what a refused call that begins a compaction did, and such a call
abbrev pub tried_made : LogicalFault → Option Made
tried_made (Failed m f) = Some made.Tries
tried_made (ReadOnly m) = None
tried_made NoMemory = None
tried_made (Full m end need capacity) = None
tried_made (Gone front) = None
tried_made (Busy m g) = None
tried_made (Worn m) = None
tried_made Idle = None
tried_made (Damaged m at) = None

abbrev pub begin_made : ℕ → Result ℕ LogicalFault → Option Made
begin_made j (Ok g) = Some (made.Begins j)
begin_made j (Err fault) = tried_made fault

-- who began the compaction of each replica last, behind such a call
abbrev pub IsBegunBy : CoreTag → ℕ → Result ℕ LogicalFault → List CoreTag → List CoreTag → Type 0
IsBegunBy tag j (Ok g) old new = (i : ℕ) → slice_index_or new i nobody ≡ begun_in i tag (Begins j) (slice_index_or old i nobody)
IsBegunBy tag j (Err fault) old new = new ≡ old
