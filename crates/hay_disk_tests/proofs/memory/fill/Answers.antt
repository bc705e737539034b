use Rattle.std.proofs.Common.{ap}
use Rattle.hay_disk.specs.Shelf.{HeldDisk}
use Rattle.hay_memdisk.proofs.Lending.{lent}
use Rattle.hay_disk_tests.proofs.memory.fill.Goals as goal

pub returns-in_ok-set_bytes-in-Some : goal.returns-in_ok-set_bytes-in-Some
returns-in_ok-set_bytes-in-Some c = ap (λ (held : HeldDisk). held.is_out) (lent _ _ c.in-Some.is (c.disk_mut.follows.holds c.set_bytes.new.self)).disk
