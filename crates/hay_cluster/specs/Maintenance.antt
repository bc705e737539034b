-- Flushes and compactions: how they are asked for, what they do to a replica, and how they are answered.
use Rattle.std.specs.Prelude.{◌≡◌, ℕ, List, Result, Ok, Err}
use Rattle.hay_needle.specs.declared.settings.Settings.{Settings}
use Rattle.hay_disk.specs.Disk.{Files}
use Rattle.hay_script.specs.declared.Command.{Command}
use Rattle.hay_script.specs.declared.Command.TheVariants as command
use Rattle.hay_reply.specs.declared.Reply.{Reply}
use Rattle.hay_reply.specs.declared.Reply.TheVariants as reply
use Rattle.hay_legal.specs.declared.known.VolumeKnown.{VolumeKnown}
use Rattle.hay_physical.specs.OpenCopies.{Copy}
use Rattle.hay_logical.specs.Answers.{BeginRefused, CompactRefused, FinishRefused, FlushRefused, IsBeginFault, IsBegun, IsCompactFault, IsCompacted, IsFinished, IsFlushFault}
use Rattle.hay_logical.specs.Answers.{IsFlushed, IsRunFault, IsStepped, StepRefused}
use Rattle.hay_logical.specs.declared.fault.LogicalFault.{LogicalFault}
use Rattle.hay_logical.specs.declared.fault.LogicalFault.TheVariants.{Busy, Damaged, Failed, Full, Gone, Idle, NoMemory, ReadOnly, Worn}
use Rattle.hay_logical.specs.Volumes.{Volume}
use Rattle.hay_cluster.specs.declared.maintenance.Maintenance.{Maintenance}
use Rattle.hay_cluster.specs.declared.maintenance.Maintenance.TheVariants.{Flush, Begin, Step, Finish, Compact}
use Rattle.hay_cluster.specs.Changes.{IsReadOnly}

-- the command that asks for it
abbrev pub command_of : Maintenance → ℕ → ℕ → Command
command_of Flush v m = command.Flush v m
command_of Begin v m = command.Begin v m
command_of (Step cells) v m = command.Step v m cells
command_of Finish v m = command.Finish v m
command_of Compact v m = command.Compact v m

-- what it did to replica j of a volume, and with which number
abbrev pub IsDone : {D P : Type 0} → (D → Files) → Type 0 → Maintenance → VolumeKnown → ℕ → ℕ → Volume D P → Type 0
IsDone files Tells Flush k j n new = IsFlushed files Tells k j n new
IsDone files Tells Begin k j n new = IsBegun files Tells k j n new
IsDone files Tells (Step cells) k j n new = IsStepped files Tells k j cells n new
IsDone files Tells Finish k j n new = IsFinished files Tells k j n new
IsDone files Tells Compact k j n new = IsCompacted files Tells k j n new

-- why it was not done, and what that leaves
abbrev pub IsRefused : {D P : Type 0} → (D → Files) → Type 0 → Maintenance → VolumeKnown → ℕ → Volume D P → Volume D P → LogicalFault → Type 0
IsRefused files Tells Flush k j old new fault = FlushRefused files Tells k j old new fault
IsRefused files Tells Begin k j old new fault = BeginRefused files Tells k j old new fault
IsRefused files Tells (Step cells) k j old new fault = StepRefused files Tells k j cells old new fault
IsRefused files Tells Finish k j old new fault = FinishRefused files Tells k j old new fault
IsRefused files Tells Compact k j old new fault = CompactRefused files Tells k j old new fault

-- which refusals each has, and of which replica's machine they tell; a failure has its cause
abbrev pub IsReplicaFault : {D : Type 0} → (D → ℕ) → Settings → Maintenance → ℕ → ℕ → List (Copy D) → List (Copy D) → LogicalFault → Type 0
IsReplicaFault faults settings Flush v j old new fault = IsFlushFault faults settings v j old new fault
IsReplicaFault faults settings Begin v j old new fault = IsBeginFault faults settings v j old new fault
IsReplicaFault faults settings (Step cells) v j old new fault = IsRunFault faults settings v j old new fault
IsReplicaFault faults settings Finish v j old new fault = IsRunFault faults settings v j old new fault
IsReplicaFault faults settings Compact v j old new fault = IsCompactFault faults settings v j old new fault

-- it was done, and swapped the files
abbrev pub HasSwapped : Maintenance → Result ℕ LogicalFault → Type 0
HasSwapped Finish (Ok n) = Unit {0}
HasSwapped Compact (Ok n) = Unit {0}
HasSwapped Flush (Ok n) = ⊥
HasSwapped Begin (Ok n) = ⊥
HasSwapped (Step cells) (Ok n) = ⊥
HasSwapped work (Err fault) = ⊥

-- how it is answered on volume v and machine m, done with this number
abbrev pub done_as : ℕ → ℕ → Maintenance → ℕ → Reply
done_as v m Flush n = reply.Flushed v m n
done_as v m Begin n = reply.Begun v m n
done_as v m (Step cells) n = reply.Stepped v m n
done_as v m Finish n = reply.Compacted v m n
done_as v m Compact n = reply.Compacted v m n

-- a refusal that may be answered that memory was wanting
abbrev pub MayWantMemory : LogicalFault → Type 0
MayWantMemory (ReadOnly m) = Unit {0}
MayWantMemory (Failed m f) = ⊥
MayWantMemory (Busy m generation) = ⊥
MayWantMemory (Worn m) = ⊥
MayWantMemory Idle = ⊥
MayWantMemory (Damaged m at) = ⊥
MayWantMemory NoMemory = Unit {0}
MayWantMemory (Full m end need capacity) = ⊥
MayWantMemory (Gone front) = ⊥

-- and how, refused
abbrev pub IsRefusedAs : ℕ → ℕ → LogicalFault → Reply → Type 0
IsRefusedAs v m (ReadOnly m') answer = IsReadOnly v m' answer
IsRefusedAs v m (Failed m' f) answer = answer ≡ reply.Failed v m' f
IsRefusedAs v m (Busy m' generation) answer = answer ≡ reply.Busy v m' generation
IsRefusedAs v m (Worn m') answer = answer ≡ reply.Worn v m'
IsRefusedAs v m Idle answer = answer ≡ reply.Idle v m
IsRefusedAs v m (Damaged m' at) answer = answer ≡ reply.Damaged v m' at
IsRefusedAs v m NoMemory answer = answer ≡ reply.NoMem
IsRefusedAs v m (Full m' end need capacity) answer = ⊥
IsRefusedAs v m (Gone front) answer = ⊥
