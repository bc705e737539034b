-- What a refusal says.
use Rattle.std.specs.Prelude.{ℕ, Result, Ok, Err}
use Rattle.hay_disk.specs.declared.disk.DiskFault.{DiskFault}
use Rattle.hay_disk.specs.declared.disk.DiskFault.TheVariants as disk
use Rattle.hay_check.specs.declared.fault.Refusal.{Refusal}
use Rattle.hay_check.specs.declared.fault.Refusal.TheVariants as refusal
use Rattle.hay_check.specs.declared.verdict.CheckFault.{CheckFault}
use Rattle.hay_check.specs.declared.verdict.CheckFault.TheVariants as check_fault
use Rattle.hay_check.specs.declared.verdict.Verdict.{Verdict}
use Rattle.hay_check.specs.declared.verdict.Verdict.TheVariants as verdict

-- a refusal of the disk
abbrev pub disk_refusal : DiskFault → Refusal
disk_refusal disk.Failed = refusal.Failed
disk_refusal disk.NoMemory = refusal.NoMemory

-- what a check answers to what ended it, where the disk has failed so often
abbrev pub answer : Refusal → ℕ → Result Verdict CheckFault
answer refusal.Failed faults = Err (check_fault.Failed faults)
answer (refusal.Damaged file at) faults = Ok (verdict.Damaged file at)
answer refusal.NoMemory faults = Err check_fault.NoMemory
