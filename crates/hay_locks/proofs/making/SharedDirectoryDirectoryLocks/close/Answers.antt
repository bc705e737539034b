use Rattle.std.proofs.Common.{◌≤◌, ◌-◌, ◌^◌, arith}
use Rattle.hay_locks.proofs.Ending.{all_seated_rows, is_directory_of, leaves_directory}
use Rattle.hay_locks.proofs.making.SharedDirectoryDirectoryLocks.close.Goals as goal

pub close-directory-requires-clause-seats : goal.close-directory-requires-clause-seats
close-directory-requires-clause-seats g c =
    let made = c.requires.made.2 in
    (made.begun, all_seated_rows made c.requires.made.3)

pub returns-clause-left : goal.returns-clause-left
returns-clause-left g c directory settings made sits =
    let is = c.faults-faults.ensures in
    let small : c.faults-faults.result ≤ 2 ^ 64 - 1 = omega arith in
    leaves_directory made g.D.Disk.Tells g.D.Disk.files g.D.Disk.fault_count g.D.Disk.fuse_count (c.close-directory.ensures made.begun (all_seated_rows made sits)) (omega (arith, is, small))

pub returns-clause-of : goal.returns-clause-of
returns-clause-of g c directory settings made =
    is_directory_of made g.D.Disk.Tells g.D.Disk.files g.D.Disk.fault_count g.D.Disk.fuse_count (c.close-directory.ensures made.begun (all_seated_rows made c.requires.made.3))
