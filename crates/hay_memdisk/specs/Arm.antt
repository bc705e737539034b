-- What an arm in memory tells.
use Rattle.std.specs.Prelude.{ℕ, Bool}
use Rattle.hay_memdisk.specs.declared.arm.MemArm.{MemArm}
use Rattle.hay_memdisk.specs.Failures.{fault_count, is_over}

-- how many fetches have failed
abbrev pub arm_faults : MemArm → ℕ
arm_faults arm = fault_count arm.failures

-- how many fetches were made
abbrev pub fetch_count : MemArm → ℕ
fetch_count arm = arm.failures.calls

-- no fetch still to come is to fail
abbrev pub arm_is_sure : MemArm → Bool
arm_is_sure arm = is_over arm.failures
