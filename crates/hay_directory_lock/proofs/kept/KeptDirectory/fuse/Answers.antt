use Rattle.hay_directory_lock.proofs.Acting.{fuse_set}
use Rattle.hay_directory_lock.proofs.kept.KeptDirectory.fuse.Goals as goal

pub returns-clause-kept : goal.returns-clause-kept
returns-clause-kept g c = λ begun acts k.
    let fuse = c.fuse.ensures in
    fuse_set g.D.Disk.Tells g.D.Disk.files g.D.Disk.fault_count g.D.Disk.fuse_count k c.args.tag c.of.result c.fuse.new.self c.of.ensures fuse.only fuse.stands fuse.faults fuse.fuses
