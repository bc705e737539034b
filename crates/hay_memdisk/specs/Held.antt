-- What a shelf in memory tells of its slots and lanes.
use Rattle.std.specs.Prelude.{true, false, Option, Some, None}
use Rattle.hay_disk.specs.Disk.{empty_file}
use Rattle.hay_disk.specs.Shelf.{HeldDisk, HeldArm}
use Rattle.hay_memdisk.specs.declared.arm.MemArm.{MemArm}
use Rattle.hay_memdisk.specs.Arm.{arm_faults, arm_is_sure}

-- a slot without a disk holds an empty one
abbrev pub no_disk : HeldDisk
no_disk = record { files = λ _. empty_file; drawn = λ _. 0; fault_count = 0; fuse_count = 0; is_out = false }

-- a lane without an arm has one that never fails
abbrev pub no_arm : HeldArm
no_arm = record { fault_count = 0; is_sure = true; is_out = false }

-- an arm on a shelf
abbrev pub held_arm : MemArm → HeldArm
held_arm arm = record { fault_count = arm_faults arm; is_sure = arm_is_sure arm; is_out = false }

abbrev pub arm_in : Option (Option MemArm) → HeldArm
arm_in None = no_arm
arm_in (Some None) = record no_arm { is_out = true }
arm_in (Some (Some arm)) = held_arm arm
