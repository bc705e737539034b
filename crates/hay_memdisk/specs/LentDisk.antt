-- What becomes of a shelf whose disk is lent.
use Rattle.std.specs.Prelude.{◌≡◌, ℕ, Option, OnSome}
use Rattle.std.specs.Borrow.{LendsSo, MutBor, Fml}
use Rattle.hay_disk.specs.Disk.{KeepsOthers}
use Rattle.hay_memdisk.specs.declared.disk.MemDisk.{MemDisk}
use Rattle.hay_memdisk.specs.declared.shelf.MemShelf.{MemShelf}
use Rattle.hay_memdisk.specs.contracts.disk.MemDisk as disk
use Rattle.hay_memdisk.specs.contracts.shelf.MemShelf as shelf
use Rattle.hay_memdisk.specs.MemShelf.{mem_disks, mem_arms, held_mem_disk}

-- the slot holds this disk, and the other slots and the lanes are as they were
pub record HasDisk (slot : ℕ) (held : MemDisk) (old new : MemShelf) : Type 0 where
  pub disk : mem_disks new slot ≡ held_mem_disk held
  pub others : KeepsOthers slot (mem_disks old) (mem_disks new)
  pub arms : mem_arms new ≡ mem_arms old

-- the slots and the lanes are as they were
pub record IsSameShelf (old new : MemShelf) : Type 0 where
  pub disks : mem_disks new ≡ mem_disks old
  pub arms : mem_arms new ≡ mem_arms old

-- the shelf ends with the disk that was left in the slot, and with no disk lent it stays
abbrev pub lends_disk : MutBor MemShelf → ℕ → Option (MutBor MemDisk) → Fml
lends_disk s slot r = LendsSo shelf.the_row disk.the_row s r (λ new held. OnSome r (HasDisk slot held s.now new)) (λ new. IsSameShelf s.now new)
