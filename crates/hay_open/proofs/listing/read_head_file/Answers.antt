use Rattle.std.proofs.Common.{sym, subst}
use Rattle.hay_needle.specs.declared.settings.Super.{Super}
use Rattle.hay_head.specs.Head.{IsDamagedHead}
use Rattle.hay_open.proofs.listing.read_head_file.Goals as goal

pub returns-in-Ok-clause-undamaged : goal.returns-in-Ok-clause-undamaged
returns-in-Ok-clause-undamaged g c = λ tells at damage.
    c.in-Ok.ensures.undamaged tells at (subst (λ (s : Super). IsDamagedHead s (g.D.Disk.files c.args.disk.now 0).now at) (sym c.head_super.ensures) damage)
