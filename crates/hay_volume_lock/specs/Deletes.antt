-- What deletes leave, and what they answer, as steps of a lane.
use Rattle.std.specs.Prelude.{◌==◌, ℕ, List, [], ◌∷◌, slice_index_or, if◌then◌else◌, Option, Some, None, Bool, true, false, Result, Ok, Err}
use Rattle.hay_core.specs.declared.entry.CoreTag.{CoreTag}
use Rattle.hay_core.specs.declared.entry.Entry.{Entry}
use Rattle.hay_holdings.specs.Volumes.{DeleteFailed, DeleteWanted, Deleted, MetAbsent, MetFrozen, VolumeCall}
use Rattle.hay_logical.specs.Answers.{has_ended}
use Rattle.hay_logical.specs.declared.fault.LogicalFault.{LogicalFault}
use Rattle.hay_logical.specs.declared.fault.LogicalFault.TheVariants.{Busy, Damaged, Failed, Full, Gone, Idle, NoMemory, ReadOnly, Worn}
use Rattle.hay_meeting.specs.Acts.{nobody}
use Rattle.hay_needle.specs.declared.needle.Pair.{Pair}
use Rattle.hay_physical.specs.OpenCopies.{Copy, goal_of}
use Rattle.hay_volume_lock.specs.Answers.{Never, StoreVolume}
use Rattle.hay_volume_lock.specs.Ended.{ended_at}
use Rattle.hay_volume_lock.specs.declared.act.Made.{Made}
use Rattle.hay_volume_lock.specs.declared.act.Made.TheVariants as made

-- WHAT WAS DONE

-- a delete that was refused; where its disk failed nothing was changed, or the delete is pending
abbrev pub failed_made : Option ℕ → Entry → Option Made
failed_made (Some m) change = Some (made.Pends m change true)
failed_made None change = Some made.Tries

abbrev pub delete_made : Option ℕ → Entry → LogicalFault → Option Made
delete_made frozen change (Failed m f) = failed_made frozen change
delete_made frozen change NoMemory = None
delete_made frozen change (ReadOnly m) = None
delete_made frozen change (Full m end need capacity) = None
delete_made frozen change (Gone front) = None
delete_made frozen change (Busy m g) = None
delete_made frozen change (Worn m) = None
delete_made frozen change Idle = None
delete_made frozen change (Damaged m at) = None

-- of each replica, whether a compaction stood before and stands no more, by the generations that they were to make
abbrev pub over_since : {D : Type 0} → List (Option ℕ) → List (Copy D) → List Bool
over_since (run ∷ runs) (after ∷ replicas) = has_ended run (goal_of after) ∷ over_since runs replicas
over_since [] replicas = []
over_since (run ∷ runs) [] = []

-- the counts that are kept then, by replica and lane
abbrev pub noted : List Bool → List CoreTag → List ℕ → List (List (Option ℕ)) → ℕ → ℕ → Option ℕ
noted over begun faults ended j lane =
    if slice_index_or over j false then (if (slice_index_or begun j nobody).lane == lane then Some (slice_index_or faults j 0) else ended_at ended j lane) else ended_at ended j lane

-- WHAT IT ANSWERS

module _ (volume : StoreVolume) (tag : CoreTag) where
  abbrev pub DeleteRefused : Pair → LogicalFault → VolumeCall
  DeleteRefused pair (ReadOnly m) = MetFrozen volume.settings volume.start volume.number tag m
  DeleteRefused pair (Gone p) = MetAbsent volume.settings volume.start volume.number tag pair p
  DeleteRefused pair (Failed m f) = DeleteFailed volume.settings volume.start volume.number tag pair m f
  DeleteRefused pair NoMemory = DeleteWanted volume.settings volume.start volume.number tag pair
  DeleteRefused pair (Full m end need capacity) = Never
  DeleteRefused pair (Busy m g) = Never
  DeleteRefused pair (Worn m) = Never
  DeleteRefused pair Idle = Never
  DeleteRefused pair (Damaged m at) = Never

  abbrev pub DeleteAnswer : Pair → Result ℕ LogicalFault → VolumeCall
  DeleteAnswer pair (Ok p) = Deleted volume.settings volume.start volume.number tag pair p
  DeleteAnswer pair (Err fault) = DeleteRefused pair fault
