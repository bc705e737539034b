-- What a shelf of disks that never fail tells.
use Rattle.std.specs.Prelude.{ℕ, true, false, Option, Some, None}
use Rattle.hay_disk.specs.Shelf.{HeldDisk, HeldArm}
use Rattle.hay_memdisk.specs.declared.sure.SureDisk.{SureDisk}
use Rattle.hay_memdisk.specs.declared.sure_shelf.SureShelf.{SureShelf}
use Rattle.hay_memdisk.specs.Slots.{slot_at}
use Rattle.hay_memdisk.specs.Sure.{sure_files, sure_drawn, sure_fuses}
use Rattle.hay_memdisk.specs.Held.{no_disk, arm_in}

-- a disk on a shelf
abbrev pub held_sure_disk : SureDisk → HeldDisk
held_sure_disk disk = record {
  files = sure_files disk;
  drawn = sure_drawn disk;
  fault_count = 0;
  fuse_count = sure_fuses disk;
  is_out = false;
}

abbrev pub sure_disk_in : Option (Option SureDisk) → HeldDisk
sure_disk_in None = no_disk
sure_disk_in (Some None) = record no_disk { is_out = true }
sure_disk_in (Some (Some disk)) = held_sure_disk disk

-- the disk of each slot
unfoldable pub sure_disks : SureShelf → ℕ → HeldDisk
sure_disks shelf n = sure_disk_in (slot_at shelf.disks n)

-- the arm of each lane
unfoldable pub sure_arms : SureShelf → ℕ → HeldArm
sure_arms shelf n = arm_in (slot_at shelf.arms n)
