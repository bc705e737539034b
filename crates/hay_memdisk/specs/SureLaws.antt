-- What is true of every disk in memory.
use Rattle.std.specs.Prelude.{ℕ, ◌<◌, ◌^◌, Option, Some, None, length, refl}
use Rattle.std.proofs.Common.{arith}
use Rattle.std.proofs.Math.Nat.{min-le_right, le-max_right}
use Rattle.std.specs.BTreeMap as tree
use Rattle.std.specs.Ordering.{nat_cmp}
use Rattle.hay_disk.specs.Disk.{IsImage}
use Rattle.hay_memdisk.specs.declared.file.MemFile.{MemFile}
use Rattle.hay_memdisk.specs.declared.sure.SureDisk.{SureDisk}
use Rattle.hay_memdisk.specs.Mem.{file_at}
use Rattle.hay_memdisk.specs.Sure.{sure_files}

image_at : (file : Option MemFile) → IsImage (file_at file) (file_at file).now
image_at None = record { no_shorter = omega arith; no_longer = omega arith; same = λ k _. refl }
image_at (Some file) = record {
  no_shorter = min-le_right file.solid_len (length file.bytes.items);
  no_longer = le-max_right file.longest (length file.bytes.items);
  same = λ k _. refl;
}

fits_at : (file : Option MemFile) → length (file_at file).now < 2 ^ 64
fits_at None = omega arith
fits_at (Some file) = file.fits

-- what a file holds now is one of its images
pub may_leave_now : (disk : SureDisk) (n : ℕ) → IsImage (sure_files disk n) (sure_files disk n).now
unfolding sure_files
may_leave_now disk n = image_at (tree.get nat_cmp disk.files n)

-- and its length is a number of 64 bits
pub fits : (disk : SureDisk) (n : ℕ) → length (sure_files disk n).now < 2 ^ 64
unfolding sure_files
fits disk n = fits_at (tree.get nat_cmp disk.files n)
