use Rattle.hay_locks.proofs.Directories.{rows_stay, rows_told}
use Rattle.hay_locks.proofs.directory.SharedDirectoryDirectoryCalls.fuse.Goals as goal

pub fuse-requires : goal.fuse-requires
fuse-requires g c = record { seated = ((c.requires.fits.1).begun, (c.requires.fits.1).seated) }

pub returns-clause-stays : goal.returns-clause-stays
returns-clause-stays g c = rows_stay (c.requires.fits.1) g.D.Disk.fault_count g.D.Disk.fuse_count c.fuse.ensures.seated

pub returns-clause-tells : goal.returns-clause-tells
returns-clause-tells g c start at = rows_told (c.requires.fits.1) c.fuse.ensures.fused at
