use Rattle.std.proofs.Common.{◌<◌, sym, subst}
use Rattle.hay_needle.specs.declared.settings.Settings.{Settings}
use Rattle.hay_locks.proofs.Directories.{rows_stay, rows_told}
use Rattle.hay_locks.proofs.directory.SharedDirectoryDirectoryCalls.drain.Goals as goal

pub drain-requires : goal.drain-requires
drain-requires g c = record {
  seated = ((c.requires.fits.1).begun, (c.requires.fits.1).seated);
  machine = subst (λ (s : Settings). c.args.machine < s.machines) (sym (c.requires.fits.1).settings_are) c.requires.fits.2;
}

pub returns-clause-stays : goal.returns-clause-stays
returns-clause-stays g c = rows_stay (c.requires.fits.1) g.D.Disk.fault_count g.D.Disk.fuse_count c.drain.ensures.seated

pub returns-clause-tells : goal.returns-clause-tells
returns-clause-tells g c start at = rows_told (c.requires.fits.1) c.drain.ensures.drained at
