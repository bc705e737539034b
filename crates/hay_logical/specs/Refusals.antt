-- What puts, flushes and compactions that were broken off are answered.
use Rattle.std.specs.Prelude.{◌≡◌, ℕ, false, List, Some, None}
use Rattle.hay_needle.specs.declared.settings.Settings.{Settings}
use Rattle.hay_legal.specs.Known.{machine_of}
use Rattle.hay_physical.specs.declared.fault.ReplicaFault.{ReplicaFault}
use Rattle.hay_physical.specs.declared.fault.ReplicaFault.TheVariants as fault
use Rattle.hay_physical.specs.OpenCopies.{Copy, is_frozen}
use Rattle.hay_logical.specs.declared.fault.LogicalFault.{LogicalFault}
use Rattle.hay_logical.specs.declared.fault.LogicalFault.TheVariants.{Busy, Damaged, Failed, Full, Gone, Idle, NoMemory, ReadOnly, Worn}
use Rattle.hay_logical.specs.declared.refusals.Refusal.{Refusal}
use Rattle.hay_logical.specs.declared.refusals.Unfinished.{Unfinished}
use Rattle.hay_logical.specs.declared.replicas.Broken.{Broken}
use Rattle.hay_logical.specs.declared.runs.Unswapped.{Unswapped}
use Rattle.hay_logical.specs.declared.runs.Unswapped.TheVariants.{Refused, Unsure as Perhaps}
use Rattle.hay_logical.specs.Fits.{At}

-- memory was wanting on the first replica, which takes changes still
pub record IsUntouched {D : Type 0} (replicas : List (Copy D)) (broken : Broken) : Type 0 where
  pub first : broken.at ≡ 0
  pub fault : broken.fault ≡ fault.NoMemory
  pub replica : Copy D
  pub there : At replicas 0 replica
  pub thawed : is_frozen replica ≡ false

-- A replica that takes changes refuses a put that has room only so.
abbrev pub RefusesPut : ReplicaFault → Type 0
RefusesPut (fault.Failed printed) = Unit {0}
RefusesPut fault.Frozen = ⊥
RefusesPut (fault.Full end need capacity) = ⊥
RefusesPut (fault.Busy generation) = ⊥
RefusesPut (fault.Ended printed) = ⊥
RefusesPut fault.Worn = ⊥
RefusesPut (fault.Damaged at) = ⊥
RefusesPut fault.NoMemory = Unit {0}

-- a failure freezes by its own machine, and want of memory by that of the first replica
abbrev pub RefusalBy : Settings → ℕ → ℕ → ReplicaFault → Refusal → Type 0
RefusalBy settings v at (fault.Failed printed) refusal =
    (refusal.machine ≡ machine_of settings v at) × (refusal.fault ≡ Failed (machine_of settings v at) printed)
RefusalBy settings v at fault.Frozen refusal = ⊥
RefusalBy settings v at (fault.Full end need capacity) refusal = ⊥
RefusalBy settings v at (fault.Busy generation) refusal = ⊥
RefusalBy settings v at (fault.Ended printed) refusal = ⊥
RefusalBy settings v at fault.Worn refusal = ⊥
RefusalBy settings v at (fault.Damaged place) refusal = ⊥
RefusalBy settings v at fault.NoMemory refusal = (refusal.machine ≡ machine_of settings v 0) × (refusal.fault ≡ NoMemory)

abbrev pub IsRefusal : Settings → ℕ → Broken → Refusal → Type 0
IsRefusal settings v broken refusal = RefusalBy settings v broken.at broken.fault refusal

-- What is answered where the replica on this machine refused. A compaction that had ended did so by a failure.
abbrev pub answer_at : ℕ → ReplicaFault → LogicalFault
answer_at machine (fault.Failed printed) = Failed machine printed
answer_at machine fault.Frozen = ReadOnly machine
answer_at machine (fault.Full end need capacity) = Full machine end need capacity
answer_at machine (fault.Busy generation) = Busy machine generation
answer_at machine (fault.Ended printed) = Failed machine printed
answer_at machine fault.Worn = Worn machine
answer_at machine (fault.Damaged at) = Damaged machine at
answer_at machine fault.NoMemory = NoMemory

-- A compaction that no swap ended: the machine that freezes the volume then, if one does, and what is answered.
abbrev pub unfinished_by : Settings → ℕ → ℕ → Unswapped → Unfinished
unfinished_by settings v replica (Refused fault) = record { frozen = None; fault = answer_at (machine_of settings v replica) fault }
unfinished_by settings v replica (Perhaps printed) =
    record { frozen = Some (machine_of settings v replica); fault = Failed (machine_of settings v replica) printed }

-- a refusal that comes before anything was done
abbrev pub IsUntouchedBy : LogicalFault → Type 0
IsUntouchedBy (ReadOnly machine) = Unit {0}
IsUntouchedBy (Busy machine generation) = Unit {0}
IsUntouchedBy (Worn machine) = Unit {0}
IsUntouchedBy Idle = Unit {0}
IsUntouchedBy (Full machine end need capacity) = ⊥
IsUntouchedBy (Gone front) = ⊥
IsUntouchedBy (Failed machine faults) = ⊥
IsUntouchedBy (Damaged machine at) = ⊥
IsUntouchedBy NoMemory = ⊥
