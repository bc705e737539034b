use Rattle.std.proofs.Common.{◌<◌, sym, subst}
use Rattle.std.specs.Prelude.{IfOk}
use Rattle.hay_needle.specs.declared.settings.Settings.{Settings}
use Rattle.hay_directory_lock.specs.Seats.{sight}
use Rattle.hay_locks.proofs.Directories.{rows_stay, rows_told, rows_unfused, settle_tells}
use Rattle.hay_locks.proofs.directory.SharedDirectoryDirectoryCalls.settle.Goals as goal

pub settle-requires : goal.settle-requires
settle-requires g c = record {
  seated = ((c.requires.fits.1).begun, (c.requires.fits.1).seated);
  volume = subst (λ (s : Settings). c.args.volume < s.volumes) (sym (c.requires.fits.1).settings_are) c.requires.fits.2;
}

pub returns-clause-stays : goal.returns-clause-stays
returns-clause-stays g c = rows_stay (c.requires.fits.1) g.D.Disk.fault_count g.D.Disk.fuse_count c.settle.ensures.seated

pub returns-clause-tells : goal.returns-clause-tells
returns-clause-tells g c start at =
    settle_tells start c.args.tag (record { pair = c.args.pair; volume = c.args.volume }) c.settle.result (sight c.args.seat.now) (sight c.settle.new.seat)
    (rows_told (c.requires.fits.1) c.settle.ensures.settles at)

pub returns-clause-below : goal.returns-clause-below
returns-clause-below g c settings lane fits = subst (λ (s : Settings). IfOk c.settle.result (λ answer. answer.0 < s.volumes)) fits.settings_are c.settle.ensures.below

pub returns-clause-unfused : goal.returns-clause-unfused
returns-clause-unfused g c = rows_unfused c.settle.ensures.held
