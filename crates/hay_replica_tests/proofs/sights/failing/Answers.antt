use Rattle.std.proofs.Common.{◌∙◌, ap, refl}
use Rattle.hay_disk.specs.Disk.{FileState, Files}
use Rattle.hay_memdisk.specs.MemDisk.{mem_files}
use Rattle.hay_open.specs.Stored.{fresh_stored}
use Rattle.hay_physical.specs.OpenCopies.{Copy}
use Rattle.hay_replica_tests.proofs.Opens.{first_seen, void_opens}
use Rattle.hay_replica_tests.proofs.sights.failing.Goals as goal

pub returns-clause-sees : goal.returns-clause-sees
returns-clause-sees c =
    let void = ap (λ (r : Copy _). (mem_files r.disk 0).now) c.new-replica.ensures ∙ ap (λ (f : Files). (f 0).now) c.fail.ensures.files ∙ ap (λ (x : FileState). x.now) (c.new-disk.ensures.files 0) in
    let opened = c.in_ok-open.ensures.opened tt fresh_stored (void_opens _ _ void) in
    let stored = c.in_ok-needle.ensures.stored tt fresh_stored opened.0 in
    first_seen mem_files c.put.new.self _ _ c.at.result 1 stored.0 refl (c.at.ensures ∙ stored.1.at) refl
