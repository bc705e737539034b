-- For what a volume without room is refused.
use Rattle.std.specs.Prelude.{ℕ, Option, Some, None}
use Rattle.hay_reply.specs.declared.Refused.{Refused}
use Rattle.hay_reply.specs.declared.Refused.TheVariants.{Closed, NoRoom}
use Rattle.hay_logical.specs.declared.fault.LogicalFault.{LogicalFault}
use Rattle.hay_logical.specs.declared.fault.LogicalFault.TheVariants.{Busy, Damaged, Failed, Full, Gone, Idle, NoMemory, ReadOnly, Worn}

abbrev pub lack_of : ℕ → LogicalFault → Option Refused
lack_of v (Full m end need capacity) = Some (NoRoom v m end need)
lack_of v (ReadOnly m) = Some (Closed v m)
lack_of v (Gone front) = None
lack_of v (Failed m faults) = None
lack_of v (Busy m generation) = None
lack_of v (Worn m) = None
lack_of v Idle = None
lack_of v (Damaged m at) = None
lack_of v NoMemory = None

-- it is frozen, or a replica lacks room
abbrev pub LacksRoom : LogicalFault → Type 0
LacksRoom (Full m end need capacity) = Unit {0}
LacksRoom (ReadOnly m) = Unit {0}
LacksRoom (Gone front) = ⊥
LacksRoom (Failed m faults) = ⊥
LacksRoom (Busy m generation) = ⊥
LacksRoom (Worn m) = ⊥
LacksRoom Idle = ⊥
LacksRoom (Damaged m at) = ⊥
LacksRoom NoMemory = ⊥
