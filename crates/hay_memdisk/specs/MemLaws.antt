-- What is true of every disk in memory whose calls can be made to fail.
use Rattle.std.specs.Prelude.{ℕ, ◌<◌, ◌^◌, length}
use Rattle.hay_disk.specs.Disk.{IsImage}
use Rattle.hay_memdisk.specs.declared.disk.MemDisk.{MemDisk}
use Rattle.hay_memdisk.specs.MemDisk.{mem_files}
use Rattle.hay_memdisk.specs.SureLaws as sure

-- what a file holds now is one of its images
pub may_leave_now : (disk : MemDisk) (n : ℕ) → IsImage (mem_files disk n) (mem_files disk n).now
unfolding mem_files
may_leave_now disk n = sure.may_leave_now disk.disk n

-- and its length is a number of 64 bits
pub fits : (disk : MemDisk) (n : ℕ) → length (mem_files disk n).now < 2 ^ 64
unfolding mem_files
fits disk n = sure.fits disk.disk n
