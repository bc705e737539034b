use Rattle.std.proofs.Common.{rules, refl, ap}
use Rattle.hay_disk.specs.Shelf.{HeldDisk}
use Rattle.hay_memdisk.specs.Held.{no_disk}
use Rattle.hay_memdisk.specs.MemShelf.{mem_disks, mem_arms, mem_disk_in}
use Rattle.hay_memdisk.proofs.SlotLemmas.{same_slots, on_some, none_seen}
use Rattle.hay_memdisk.proofs.shelf.MemShelf.disk_mut.Goals as goal

pub returns : goal.returns
unfolding mem_disks mem_arms
returns c = (
  (
    refl,
    λ w. on_some c.get_mut.result (λ has. record {
      disk = ap mem_disk_in has.value_is;
      others = λ other apart. ap mem_disk_in (has.others other apart);
      arms = refl;
    }) (c.get_mut.follows.holds w),
    record { disks = same_slots mem_disk_in _ _ c.get_mut.follows.holds-at-none; arms = refl },
  ),
  record { writes_back = tt; disk = search rules; none = none_seen mem_disk_in (λ (held : HeldDisk). held.is_out) no_disk _ _ refl refl c.get_mut.ensures.none },
)
