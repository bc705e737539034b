use Rattle.hay_directory_lock.proofs.Acting.{drains_set}
use Rattle.hay_directory_lock.proofs.kept.KeptDirectory.set_drained.Goals as goal

pub returns-clause-kept : goal.returns-clause-kept
returns-clause-kept g c = λ begun acts k.
    drains_set g.D.Disk.Tells g.D.Disk.files g.D.Disk.fault_count g.D.Disk.fuse_count k c.args.tag c.of.result c.mark.new.directory c.args.machine c.args.is_drained c.of.ensures
    c.mark.ensures.only c.mark.ensures.stands
