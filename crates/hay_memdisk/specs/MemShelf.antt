-- What a shelf of disks tells that can be made to fail.
use Rattle.std.specs.Prelude.{ℕ, true, false, Option, Some, None}
use Rattle.hay_disk.specs.Shelf.{HeldDisk, HeldArm}
use Rattle.hay_memdisk.specs.declared.disk.MemDisk.{MemDisk}
use Rattle.hay_memdisk.specs.declared.shelf.MemShelf.{MemShelf}
use Rattle.hay_memdisk.specs.Slots.{slot_at}
use Rattle.hay_memdisk.specs.MemDisk.{mem_files, mem_drawn, mem_faults, mem_fuses}
use Rattle.hay_memdisk.specs.Held.{no_disk, arm_in}

-- a disk on a shelf
abbrev pub held_mem_disk : MemDisk → HeldDisk
held_mem_disk disk = record {
  files = mem_files disk;
  drawn = mem_drawn disk;
  fault_count = mem_faults disk;
  fuse_count = mem_fuses disk;
  is_out = false;
}

abbrev pub mem_disk_in : Option (Option MemDisk) → HeldDisk
mem_disk_in None = no_disk
mem_disk_in (Some None) = record no_disk { is_out = true }
mem_disk_in (Some (Some disk)) = held_mem_disk disk

-- the disk of each slot
unfoldable pub mem_disks : MemShelf → ℕ → HeldDisk
mem_disks shelf n = mem_disk_in (slot_at shelf.disks n)

-- the arm of each lane
unfoldable pub mem_arms : MemShelf → ℕ → HeldArm
mem_arms shelf n = arm_in (slot_at shelf.arms n)
