-- What a disk in memory tells whose calls can be made to fail.
use Rattle.std.specs.Prelude.{ℕ, List}
use Rattle.hay_disk.specs.Disk.{FileState}
use Rattle.hay_memdisk.specs.declared.disk.MemDisk.{MemDisk}
use Rattle.hay_memdisk.specs.Failures.{fault_count, listed_in}
use Rattle.hay_memdisk.specs.Sure.{sure_files, sure_drawn, sure_fuses}

-- the files of a disk
unfoldable pub mem_files : MemDisk → ℕ → FileState
mem_files disk n = sure_files disk.disk n

-- how many bytes reads of a file gave
unfoldable pub mem_drawn : MemDisk → ℕ → ℕ
mem_drawn disk n = sure_drawn disk.disk n

-- how many calls have failed
abbrev pub mem_faults : MemDisk → ℕ
mem_faults disk = fault_count disk.failures

-- how many fuses were set
abbrev pub mem_fuses : MemDisk → ℕ
mem_fuses disk = sure_fuses disk.disk

-- the calls that are to fail
abbrev pub mem_listed : MemDisk → List ℕ
mem_listed disk = listed_in disk.failures
