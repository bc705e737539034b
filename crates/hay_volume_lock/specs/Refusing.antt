-- What refuses each call, whatever the disks tell, and which machine it names.
use Rattle.std.specs.Prelude.{◌≡◌, ℕ, Option, Some}
use Rattle.hay_legal.specs.Known.{machine_of}
use Rattle.hay_legal.specs.Suiting.{HasNoRoom}
use Rattle.hay_logical.specs.declared.fault.LogicalFault.{LogicalFault}
use Rattle.hay_logical.specs.declared.fault.LogicalFault.TheVariants.{Busy, Damaged, Failed, Full, Gone, Idle, NoMemory, ReadOnly, Worn}
use Rattle.hay_logical.specs.Volumes.{IsMachineOf}
use Rattle.hay_needle.specs.declared.settings.Settings.{Settings}
use Rattle.hay_volume_lock.specs.declared.guarded.Opened.{Opened}
use Rattle.hay_volume_lock.specs.declared.refusals.Uncompacted.{Uncompacted}
use Rattle.hay_volume_lock.specs.declared.refusals.Uncompacted.TheVariants as lost

-- so it is of the volume that was opened
abbrev pub OfOpened : {D P : Type 0} → Option (Opened D P) → (Settings → ℕ → Type 0) → Type 0
OfOpened {D} {P} start IsSo = (opened : Opened D P) → start ≡ Some opened → IsSo (opened.volume).settings (opened.volume).number

-- whether a photo of this size has room
abbrev pub RefusesRoom : Settings → ℕ → ℕ → LogicalFault → Type 0
RefusesRoom settings v size (ReadOnly m) = IsMachineOf settings v m
RefusesRoom settings v size (Full m end need capacity) = IsMachineOf settings v m × HasNoRoom settings size end need
RefusesRoom settings v size (Failed m f) = ⊥
RefusesRoom settings v size (Gone front) = ⊥
RefusesRoom settings v size (Busy m g) = ⊥
RefusesRoom settings v size (Worn m) = ⊥
RefusesRoom settings v size Idle = ⊥
RefusesRoom settings v size (Damaged m at) = ⊥
RefusesRoom settings v size NoMemory = ⊥

-- a put of a photo of this size
abbrev pub RefusesPut : Settings → ℕ → ℕ → LogicalFault → Type 0
RefusesPut settings v size (Failed m f) = IsMachineOf settings v m
RefusesPut settings v size (ReadOnly m) = IsMachineOf settings v m
RefusesPut settings v size (Full m end need capacity) = IsMachineOf settings v m × HasNoRoom settings size end need
RefusesPut settings v size NoMemory = Unit {0}
RefusesPut settings v size (Gone front) = ⊥
RefusesPut settings v size (Busy m g) = ⊥
RefusesPut settings v size (Worn m) = ⊥
RefusesPut settings v size Idle = ⊥
RefusesPut settings v size (Damaged m at) = ⊥

abbrev pub RefusesDelete : Settings → ℕ → LogicalFault → Type 0
RefusesDelete settings v (Failed m f) = IsMachineOf settings v m
RefusesDelete settings v (ReadOnly m) = IsMachineOf settings v m
RefusesDelete settings v (Damaged m at) = IsMachineOf settings v m
RefusesDelete settings v (Gone front) = Unit {0}
RefusesDelete settings v NoMemory = Unit {0}
RefusesDelete settings v (Full m end need capacity) = ⊥
RefusesDelete settings v (Busy m g) = ⊥
RefusesDelete settings v (Worn m) = ⊥
RefusesDelete settings v Idle = ⊥

abbrev pub RefusesSight : Settings → ℕ → LogicalFault → Type 0
RefusesSight settings v (Failed m f) = IsMachineOf settings v m
RefusesSight settings v (Damaged m at) = IsMachineOf settings v m
RefusesSight settings v NoMemory = Unit {0}
RefusesSight settings v (ReadOnly m) = ⊥
RefusesSight settings v (Gone front) = ⊥
RefusesSight settings v (Full m end need capacity) = ⊥
RefusesSight settings v (Busy m g) = ⊥
RefusesSight settings v (Worn m) = ⊥
RefusesSight settings v Idle = ⊥

-- OF A REPLICA

abbrev pub RefusesFlush : Settings → ℕ → ℕ → LogicalFault → Type 0
RefusesFlush settings v j (Failed m f) = m ≡ machine_of settings v j
RefusesFlush settings v j (ReadOnly m) = IsMachineOf settings v m
RefusesFlush settings v j NoMemory = Unit {0}
RefusesFlush settings v j (Full m end need capacity) = ⊥
RefusesFlush settings v j (Gone front) = ⊥
RefusesFlush settings v j (Busy m g) = ⊥
RefusesFlush settings v j (Worn m) = ⊥
RefusesFlush settings v j Idle = ⊥
RefusesFlush settings v j (Damaged m at) = ⊥

abbrev pub RefusesBegin : Settings → ℕ → ℕ → LogicalFault → Type 0
RefusesBegin settings v j (Failed m f) = m ≡ machine_of settings v j
RefusesBegin settings v j (ReadOnly m) = IsMachineOf settings v m
RefusesBegin settings v j (Busy m g) = m ≡ machine_of settings v j
RefusesBegin settings v j (Worn m) = m ≡ machine_of settings v j
RefusesBegin settings v j NoMemory = Unit {0}
RefusesBegin settings v j (Full m end need capacity) = ⊥
RefusesBegin settings v j (Gone front) = ⊥
RefusesBegin settings v j Idle = ⊥
RefusesBegin settings v j (Damaged m at) = ⊥

-- a step, or the end of a compaction
abbrev pub RefusesRun : Settings → ℕ → ℕ → LogicalFault → Type 0
RefusesRun settings v j (Failed m f) = m ≡ machine_of settings v j
RefusesRun settings v j (ReadOnly m) = IsMachineOf settings v m
RefusesRun settings v j (Damaged m at) = m ≡ machine_of settings v j
RefusesRun settings v j Idle = Unit {0}
RefusesRun settings v j NoMemory = Unit {0}
RefusesRun settings v j (Full m end need capacity) = ⊥
RefusesRun settings v j (Gone front) = ⊥
RefusesRun settings v j (Busy m g) = ⊥
RefusesRun settings v j (Worn m) = ⊥

abbrev pub RefusesEnd : Settings → ℕ → ℕ → Uncompacted → Type 0
RefusesEnd settings v j (lost.Unfinished unfinished) = RefusesRun settings v j unfinished.fault
RefusesEnd settings v j (lost.Frozen m) = IsMachineOf settings v m
RefusesEnd settings v j (lost.Deleted f) = Unit {0}
RefusesEnd settings v j lost.Idle = Unit {0}
