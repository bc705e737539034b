-- What a disk in memory tells.
use Rattle.std.specs.Prelude.{ℕ, Bool, is_some}
use Rattle.std.specs.BTreeMap as tree
use Rattle.std.specs.Ordering.{nat_cmp}
use Rattle.hay_disk.specs.Disk.{FileState}
use Rattle.hay_memdisk.specs.declared.sure.SureDisk.{SureDisk}
use Rattle.hay_memdisk.specs.Mem.{file_at, drawn_at}

-- the files of a disk
unfoldable pub sure_files : SureDisk → ℕ → FileState
sure_files disk n = file_at (tree.get nat_cmp disk.files n)

-- how many bytes reads of a file gave
unfoldable pub sure_drawn : SureDisk → ℕ → ℕ
sure_drawn disk n = drawn_at (tree.get nat_cmp disk.files n)

-- how many fuses were set
abbrev pub sure_fuses : SureDisk → ℕ
sure_fuses disk = disk.fuses

-- there is room for this file
abbrev pub sure_has : SureDisk → ℕ → Bool
sure_has disk n = is_some (tree.get nat_cmp disk.files n)
