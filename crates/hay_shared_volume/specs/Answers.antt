-- What the calls at a volume's lock answer, in a lane's words. A refusal that the lock does not give has no answer.
use Rattle.std.specs.Prelude.{◌≡◌, ℕ, Bool, true, false, Option, Some, None, Result, Ok, Err}
use Rattle.hay_logical.specs.declared.logical.Looked.{Looked as LogicalLooked}
use Rattle.hay_logical.specs.declared.fault.LogicalFault.{LogicalFault}
use Rattle.hay_logical.specs.declared.fault.LogicalFault.TheVariants.{Busy, Damaged, Failed, Full, Gone, Idle, NoMemory, ReadOnly, Worn}
use Rattle.hay_shared_volume.specs.declared.answers.Looked.{Looked}
use Rattle.hay_shared_volume.specs.declared.answers.SightFault.{SightFault}
use Rattle.hay_shared_volume.specs.declared.answers.SightFault.TheVariants as sight
use Rattle.hay_shared_volume.specs.declared.answers.Room.{Room}
use Rattle.hay_shared_volume.specs.declared.answers.Room.TheVariants as room
use Rattle.hay_shared_volume.specs.declared.answers.Put.{Put}
use Rattle.hay_shared_volume.specs.declared.answers.Put.TheVariants as put
use Rattle.hay_shared_volume.specs.declared.answers.Delete.{Delete}
use Rattle.hay_shared_volume.specs.declared.answers.Delete.TheVariants as delete
use Rattle.hay_shared_volume.specs.declared.answers.Flush.{Flush}
use Rattle.hay_shared_volume.specs.declared.answers.Flush.TheVariants as flush
use Rattle.hay_shared_volume.specs.declared.answers.Begin.{Begin}
use Rattle.hay_shared_volume.specs.declared.answers.Begin.TheVariants as begin
use Rattle.hay_shared_volume.specs.declared.answers.Step.{Step}
use Rattle.hay_shared_volume.specs.declared.answers.Step.TheVariants as step
use Rattle.hay_shared_volume.specs.declared.answers.Finish.{Finish}
use Rattle.hay_shared_volume.specs.declared.answers.Finish.TheVariants as finish
use Rattle.hay_shared_volume.specs.declared.answers.Compaction.{Compaction}
use Rattle.hay_shared_volume.specs.declared.answers.Compaction.TheVariants as compaction
use Rattle.hay_volume_lock.specs.declared.compactions.Examined.{Examined}
use Rattle.hay_volume_lock.specs.declared.refusals.Finished.{Finished}
use Rattle.hay_volume_lock.specs.declared.refusals.Uncompacted.{Uncompacted}
use Rattle.hay_volume_lock.specs.declared.refusals.Uncompacted.TheVariants as lost
use Rattle.hay_volume_lock.specs.declared.refusals.Unfinished.{Unfinished}
use Rattle.hay_volume_lock.specs.declared.refusals.Unflushed.{Unflushed}

abbrev pub looked_as : {P : Type 0} → LogicalLooked P → Looked P
looked_as looked = record { front = looked.front; row = looked.row }

abbrev pub IsSightFault : LogicalFault → SightFault → Type 0
IsSightFault (Failed m f) r = r ≡ sight.Failed f
IsSightFault (Damaged m at) r = r ≡ sight.Damaged at
IsSightFault NoMemory r = r ≡ sight.NoMemory
IsSightFault (ReadOnly m) r = ⊥
IsSightFault (Full m end need capacity) r = ⊥
IsSightFault (Gone front) r = ⊥
IsSightFault (Busy m g) r = ⊥
IsSightFault (Worn m) r = ⊥
IsSightFault Idle r = ⊥

abbrev pub IsRoomRefused : LogicalFault → Room → Type 0
IsRoomRefused (ReadOnly m) r = r ≡ room.Frozen m
IsRoomRefused (Full m end need capacity) r = r ≡ room.Lacks m end need
IsRoomRefused (Failed m f) r = ⊥
IsRoomRefused (Gone front) r = ⊥
IsRoomRefused (Busy m g) r = ⊥
IsRoomRefused (Worn m) r = ⊥
IsRoomRefused Idle r = ⊥
IsRoomRefused (Damaged m at) r = ⊥
IsRoomRefused NoMemory r = ⊥

abbrev pub IsRoom : Result Unit LogicalFault → Room → Type 0
IsRoom (Ok done) r = r ≡ room.Fits
IsRoom (Err fault) r = IsRoomRefused fault r

abbrev pub IsPutRefused : LogicalFault → Put → Type 0
IsPutRefused (ReadOnly m) r = r ≡ put.Frozen m
IsPutRefused (Full m end need capacity) r = r ≡ put.Lacks m end need
IsPutRefused (Failed m f) r = r ≡ put.Failed m f
IsPutRefused NoMemory r = r ≡ put.NoMemory
IsPutRefused (Gone front) r = ⊥
IsPutRefused (Busy m g) r = ⊥
IsPutRefused (Worn m) r = ⊥
IsPutRefused Idle r = ⊥
IsPutRefused (Damaged m at) r = ⊥

abbrev pub IsPut : Result ℕ LogicalFault → Put → Type 0
IsPut (Ok p) r = r ≡ put.Stored p
IsPut (Err fault) r = IsPutRefused fault r

abbrev pub IsDeleteRefused : LogicalFault → Delete → Type 0
IsDeleteRefused (ReadOnly m) r = r ≡ delete.Frozen m
IsDeleteRefused (Gone front) r = r ≡ delete.Absent front
IsDeleteRefused (Failed m f) r = r ≡ delete.Failed m f
IsDeleteRefused (Damaged m at) r = r ≡ delete.Damaged m at
IsDeleteRefused NoMemory r = r ≡ delete.NoMemory
IsDeleteRefused (Full m end need capacity) r = ⊥
IsDeleteRefused (Busy m g) r = ⊥
IsDeleteRefused (Worn m) r = ⊥
IsDeleteRefused Idle r = ⊥

abbrev pub IsDelete : Result ℕ LogicalFault → Delete → Type 0
IsDelete (Ok p) r = r ≡ delete.Deleted p
IsDelete (Err fault) r = IsDeleteRefused fault r

-- the volume is frozen by the machine, or it is not, and an earlier flush of the replica had failed
abbrev pub IsFlushBarred : ℕ → Option ℕ → Flush → Type 0
IsFlushBarred m (Some by) r = r ≡ flush.Frozen m
IsFlushBarred m None r = r ≡ flush.Stuck

abbrev pub IsFlushRefused : LogicalFault → Option ℕ → Flush → Type 0
IsFlushRefused (ReadOnly m) frozen r = IsFlushBarred m frozen r
IsFlushRefused (Failed m f) frozen r = r ≡ flush.Failed f
IsFlushRefused NoMemory frozen r = r ≡ flush.NoMemory
IsFlushRefused (Full m end need capacity) frozen r = ⊥
IsFlushRefused (Gone front) frozen r = ⊥
IsFlushRefused (Busy m g) frozen r = ⊥
IsFlushRefused (Worn m) frozen r = ⊥
IsFlushRefused Idle frozen r = ⊥
IsFlushRefused (Damaged m at) frozen r = ⊥

abbrev pub IsFlush : Result ℕ Unflushed → Flush → Type 0
IsFlush (Ok n) r = r ≡ flush.Flushed n
IsFlush (Err unflushed) r = IsFlushRefused unflushed.fault unflushed.frozen r

abbrev pub IsBeginRefused : LogicalFault → Begin → Type 0
IsBeginRefused (ReadOnly m) r = r ≡ begin.Frozen m
IsBeginRefused (Busy m g) r = r ≡ begin.Busy g
IsBeginRefused (Worn m) r = r ≡ begin.Worn
IsBeginRefused (Failed m f) r = r ≡ begin.Failed f
IsBeginRefused NoMemory r = r ≡ begin.NoMemory
IsBeginRefused (Full m end need capacity) r = ⊥
IsBeginRefused (Gone front) r = ⊥
IsBeginRefused Idle r = ⊥
IsBeginRefused (Damaged m at) r = ⊥

abbrev pub IsBegin : Result ℕ LogicalFault → Begin → Type 0
IsBegin (Ok g) r = r ≡ begin.Begun g
IsBegin (Err fault) r = IsBeginRefused fault r

-- behind so many cells
abbrev pub IsStepHalted : ℕ → LogicalFault → Step → Type 0
IsStepHalted n (ReadOnly m) r = r ≡ step.Frozen m
IsStepHalted n Idle r = r ≡ step.Idle
IsStepHalted n (Failed m f) r = r ≡ step.Failed f
IsStepHalted n NoMemory r = r ≡ step.NoMemory (Some n)
IsStepHalted n (Damaged m at) r = r ≡ step.Damaged at
IsStepHalted n (Full m end need capacity) r = ⊥
IsStepHalted n (Gone front) r = ⊥
IsStepHalted n (Busy m g) r = ⊥
IsStepHalted n (Worn m) r = ⊥

abbrev pub IsStepStopped : ℕ → Option LogicalFault → Step → Type 0
IsStepStopped n None r = r ≡ step.Stepped n
IsStepStopped n (Some fault) r = IsStepHalted n fault r

abbrev pub IsStep : Examined → Step → Type 0
IsStep examined r = IsStepStopped examined.cells examined.refused r

-- a switch that failed leaves the volume frozen by a machine
abbrev pub IsFinishFailed : ℕ → Option ℕ → Finish → Type 0
IsFinishFailed f None r = r ≡ finish.Failed f
IsFinishFailed f (Some machine) r = r ≡ finish.Poised f

abbrev pub IsFinishRefused : LogicalFault → Option ℕ → Finish → Type 0
IsFinishRefused (ReadOnly m) frozen r = r ≡ finish.Frozen m
IsFinishRefused Idle frozen r = r ≡ finish.Idle
IsFinishRefused (Failed m f) frozen r = IsFinishFailed f frozen r
IsFinishRefused NoMemory frozen r = r ≡ finish.NoMemory
IsFinishRefused (Damaged m at) frozen r = r ≡ finish.Damaged at
IsFinishRefused (Full m end need capacity) frozen r = ⊥
IsFinishRefused (Gone front) frozen r = ⊥
IsFinishRefused (Busy m g) frozen r = ⊥
IsFinishRefused (Worn m) frozen r = ⊥

-- for want of memory the volume is frozen behind the switch
abbrev pub IsFinishDone : ℕ → Bool → Finish → Type 0
IsFinishDone g true r = r ≡ finish.NoMemory
IsFinishDone g false r = r ≡ finish.Compacted g

abbrev pub IsFinish : Result Finished Unfinished → Finish → Type 0
IsFinish (Ok finished) r = IsFinishDone finished.generation finished.frozen r
IsFinish (Err unfinished) r = IsFinishRefused unfinished.fault unfinished.frozen r

abbrev pub IsEndFailed : ℕ → Option ℕ → Compaction → Type 0
IsEndFailed f None r = r ≡ compaction.Failed f
IsEndFailed f (Some machine) r = r ≡ compaction.Poised f

abbrev pub IsEndRefused : LogicalFault → Option ℕ → Compaction → Type 0
IsEndRefused (Failed m f) frozen r = IsEndFailed f frozen r
IsEndRefused NoMemory frozen r = r ≡ compaction.NoMemory
IsEndRefused (Damaged m at) frozen r = r ≡ compaction.Damaged at
IsEndRefused (ReadOnly m) frozen r = r ≡ compaction.Frozen m
IsEndRefused Idle frozen r = r ≡ compaction.Idle
IsEndRefused (Full m end need capacity) frozen r = ⊥
IsEndRefused (Gone front) frozen r = ⊥
IsEndRefused (Busy m g) frozen r = ⊥
IsEndRefused (Worn m) frozen r = ⊥

abbrev pub IsLost : Uncompacted → Compaction → Type 0
IsLost (lost.Unfinished unfinished) r = IsEndRefused unfinished.fault unfinished.frozen r
IsLost (lost.Frozen m) r = r ≡ compaction.Frozen m
IsLost (lost.Deleted f) r = r ≡ compaction.Deleted f
IsLost lost.Idle r = r ≡ compaction.Idle

abbrev pub IsEndDone : ℕ → Bool → Compaction → Type 0
IsEndDone g true r = r ≡ compaction.NoMemory
IsEndDone g false r = r ≡ compaction.Compacted g

abbrev pub IsCompaction : Result Finished Uncompacted → Compaction → Type 0
IsCompaction (Ok finished) r = IsEndDone finished.generation finished.frozen r
IsCompaction (Err refusal) r = IsLost refusal r
