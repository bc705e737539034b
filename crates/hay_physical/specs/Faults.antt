-- What a refusal of a replica tells.
use Rattle.std.specs.Prelude.{◌≡◌, ℕ, ⊤}
use Rattle.hay_disk.specs.Counts.{Rose}
use Rattle.hay_physical.specs.declared.fault.ReplicaFault.{ReplicaFault}
use Rattle.hay_physical.specs.declared.fault.ReplicaFault.TheVariants.{Busy, Damaged, Ended, Failed, Frozen, Full, NoMemory, Worn}

-- A failure has its cause: the count of the disk's faults rose, to what the refusal tells.
abbrev pub IsPutFault : ℕ → ℕ → ReplicaFault → Type 0
IsPutFault before after (Failed faults) = Rose before after × (faults ≡ after)
IsPutFault before after Frozen = ⊤
IsPutFault before after (Full end need capacity) = ⊤
IsPutFault before after (Busy generation) = ⊥
IsPutFault before after (Ended faults) = ⊥
IsPutFault before after Worn = ⊥
IsPutFault before after (Damaged at) = ⊥
IsPutFault before after NoMemory = ⊤

-- a flush takes no room of the volume file
abbrev pub IsFlushFault : ℕ → ℕ → ReplicaFault → Type 0
IsFlushFault before after (Failed faults) = Rose before after × (faults ≡ after)
IsFlushFault before after Frozen = ⊤
IsFlushFault before after (Full end need capacity) = ⊥
IsFlushFault before after (Busy generation) = ⊥
IsFlushFault before after (Ended faults) = ⊥
IsFlushFault before after Worn = ⊥
IsFlushFault before after (Damaged at) = ⊥
IsFlushFault before after NoMemory = ⊤

-- and a delete takes no memory either
abbrev pub IsDeleteFault : ℕ → ℕ → ReplicaFault → Type 0
IsDeleteFault before after (Failed faults) = Rose before after × (faults ≡ after)
IsDeleteFault before after Frozen = ⊤
IsDeleteFault before after (Full end need capacity) = ⊥
IsDeleteFault before after (Busy generation) = ⊥
IsDeleteFault before after (Ended faults) = ⊥
IsDeleteFault before after Worn = ⊥
IsDeleteFault before after (Damaged at) = ⊥
IsDeleteFault before after NoMemory = ⊥

-- a look at a cell changes nothing
abbrev pub IsSightFault : ℕ → ℕ → ReplicaFault → Type 0
IsSightFault before after (Failed faults) = Rose before after × (faults ≡ after)
IsSightFault before after Frozen = ⊥
IsSightFault before after (Full end need capacity) = ⊥
IsSightFault before after (Busy generation) = ⊥
IsSightFault before after (Ended faults) = ⊥
IsSightFault before after Worn = ⊥
IsSightFault before after (Damaged at) = ⊤
IsSightFault before after NoMemory = ⊤

-- what begins a compaction
abbrev pub IsBeginFault : ℕ → ℕ → ReplicaFault → Type 0
IsBeginFault before after (Failed faults) = Rose before after × (faults ≡ after)
IsBeginFault before after Frozen = ⊤
IsBeginFault before after (Full end need capacity) = ⊥
IsBeginFault before after (Busy generation) = ⊤
IsBeginFault before after (Ended faults) = ⊥
IsBeginFault before after Worn = ⊤
IsBeginFault before after (Damaged at) = ⊥
IsBeginFault before after NoMemory = ⊤

-- what reads the next cell of one
abbrev pub IsPeekFault : ℕ → ℕ → ReplicaFault → Type 0
IsPeekFault before after (Failed faults) = Rose before after × (faults ≡ after)
IsPeekFault before after Frozen = ⊤
IsPeekFault before after (Full end need capacity) = ⊥
IsPeekFault before after (Busy generation) = ⊥
IsPeekFault before after (Ended faults) = ⊤
IsPeekFault before after Worn = ⊥
IsPeekFault before after (Damaged at) = ⊤
IsPeekFault before after NoMemory = ⊤

-- what goes on with one, or ends it
abbrev pub IsRunFault : ℕ → ℕ → ReplicaFault → Type 0
IsRunFault before after (Failed faults) = Rose before after × (faults ≡ after)
IsRunFault before after Frozen = ⊤
IsRunFault before after (Full end need capacity) = ⊥
IsRunFault before after (Busy generation) = ⊥
IsRunFault before after (Ended faults) = ⊤
IsRunFault before after Worn = ⊥
IsRunFault before after (Damaged at) = ⊥
IsRunFault before after NoMemory = ⊤
