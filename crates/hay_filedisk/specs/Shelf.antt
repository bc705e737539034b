-- What a shelf of files tells of its slots and lanes: counts, and what is out.
use Rattle.std.specs.Prelude.{ℕ, false}
use Rattle.hay_disk.specs.Disk.{empty_file}
use Rattle.hay_disk.specs.Shelf.{HeldDisk, HeldArm}
use Rattle.hay_filedisk.specs.declared.ledger.Held.{Held}
use Rattle.hay_filedisk.specs.declared.shelf.FileShelf.{FileShelf}
use Rattle.hay_filedisk.specs.Ledger.{held_at}

-- A disk on the shelf. Of its files nothing is told.
abbrev pub disk_of : Held → HeldDisk
disk_of held = record {
  files = λ _. empty_file;
  drawn = λ _. 0;
  fault_count = held.faults.count;
  fuse_count = held.fuses;
  is_out = held.is_out;
}

-- an arm on the shelf
abbrev pub arm_of : Held → HeldArm
arm_of held = record { fault_count = held.faults.count; is_sure = false; is_out = held.is_out }

-- the disk of each slot
unfoldable pub file_disks : {R : Type 0} → FileShelf R → ℕ → HeldDisk
file_disks shelf n = disk_of (held_at shelf.disks n)

-- the arm of each lane
unfoldable pub file_arms : {R : Type 0} → FileShelf R → ℕ → HeldArm
file_arms shelf n = arm_of (held_at shelf.arms n)
