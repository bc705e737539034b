-- What a refusal says.
use Rattle.std.specs.Prelude.{ℕ}
use Rattle.hay_disk.specs.declared.disk.DiskFault.{DiskFault}
use Rattle.hay_disk.specs.declared.disk.DiskFault.TheVariants as disk
use Rattle.hay_open.specs.declared.fault.OpenFault.{OpenFault}
use Rattle.hay_open.specs.declared.fault.OpenFault.TheVariants as open_fault
use Rattle.hay_open.specs.declared.fault.Refusal.{Refusal}
use Rattle.hay_open.specs.declared.fault.Refusal.TheVariants as refusal

-- a refusal of the disk
abbrev pub disk_refusal : DiskFault → Refusal
disk_refusal disk.Failed = refusal.Failed
disk_refusal disk.NoMemory = refusal.NoMemory

-- what an opening answers, where the disk has failed so often
abbrev pub told_fault : Refusal → ℕ → OpenFault
told_fault refusal.Failed faults = open_fault.Failed faults
told_fault (refusal.Damaged file at) faults = open_fault.Damaged file at
told_fault refusal.NoMemory faults = open_fault.NoMemory
