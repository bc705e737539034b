use Rattle.std.proofs.Common.{◌<◌, subst}
use Rattle.std.specs.Prelude.{IfSome}
use Rattle.hay_needle.specs.declared.settings.Settings.{Settings}
use Rattle.hay_locks.proofs.Directories.{rows_looked, rows_stay, rows_told}
use Rattle.hay_locks.proofs.directory.SharedDirectoryDirectoryCalls.home.Goals as goal

pub home-requires : goal.home-requires
home-requires g c = record { seated = ((c.requires.fits.2).begun, c.requires.fits.1, (c.requires.fits.2).seated) }

pub returns-clause-stays : goal.returns-clause-stays
returns-clause-stays g c = rows_stay (c.requires.fits.2) g.D.Disk.fault_count g.D.Disk.fuse_count c.home.ensures.seated

pub returns-clause-tells : goal.returns-clause-tells
returns-clause-tells g c start at = rows_told (c.requires.fits.2) c.home.ensures.shown at

pub returns-clause-below : goal.returns-clause-below
returns-clause-below g c settings lane fits = subst (λ (s : Settings). IfSome c.home.result.1 (λ home. home < s.volumes)) fits.settings_are c.home.ensures.below

pub returns-clause-unfused : goal.returns-clause-unfused
returns-clause-unfused g c = rows_looked c.home.ensures.looked
