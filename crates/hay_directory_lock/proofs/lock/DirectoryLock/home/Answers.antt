use Rattle.std.proofs.Common.{◌<◌, refl, sym, subst, ◌∙◌}
use Rattle.std.specs.Prelude.{IfSome}
use Rattle.hay_needle.specs.declared.settings.Settings.{Settings}
use Rattle.hay_views.proofs.HomeLaw.{looks_show_volumes}
use Rattle.hay_directory_lock.proofs.Calling.{home_shown, seated_in}
use Rattle.hay_directory_lock.proofs.lock.DirectoryLock.home.Goals as goal

pub returns-clause-shown : goal.returns-clause-shown
returns-clause-shown g c = rw (← c.seat.view_is) (λ begun lane seated start at.
    let look = c.look-published.ensures in
    home_shown g.D.Disk.fault_count g.D.Disk.fuse_count start (seated_in c.self.view_is refl seated) at c.args.pair c.look-published.new.self c.look-published.result.0 c.all_rows.result
    c.look-published.result.1 look.seen look.front c.all_rows.ensures look.row)

pub returns-clause-below : goal.returns-clause-below
returns-clause-below g c =
    let look = c.look-published.ensures in
    let seated = seated_in c.self.view_is c.seat.view_is c.requires.seated.2 in
    let homes = (seated.from).homes in
    let below = looks_show_volumes c.look-published.new.self homes c.args.pair c.look-published.result.1 (sym look.seen.1 ∙ seated.base ∙ (seated.from).base) look.fact look.row in
    subst (λ (s : Settings). IfSome c.look-published.result.1 (λ v. v < s.volumes)) (c.requires.seated.2).settings
    (subst (λ n. IfSome c.look-published.result.1 (λ v. v < n)) (seated.from).volumes below)

pub returns-clause-looked : goal.returns-clause-looked
returns-clause-looked g c = rw (← c.seat.view_is) (record { seen = refl; own = refl; shown = c.look-published.ensures.seen.2 })
