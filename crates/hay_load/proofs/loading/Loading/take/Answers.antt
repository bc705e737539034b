use Rattle.std.proofs.Common.{refl, sym, subst}
use Rattle.hay_script.specs.declared.Line.{Line}
use Rattle.hay_batch.proofs.StoredLaws.{stands_left}
use Rattle.hay_load.specs.Gathering.{line_step}
use Rattle.hay_load.specs.Loads.{Loads, held_of}
use Rattle.hay_load.proofs.Taking.{left_first, loads_none}
use Rattle.hay_load.proofs.loading.Loading.take.Goals as goal

pub returns-in-Skip-clause-loads : goal.returns-in-Skip-clause-loads
returns-in-Skip-clause-loads g c =
    subst (λ (said : Line). Loads g.D.Disk.Tells g.D.Disk.files (line_step c.args.self.now.store.settings c.args.number (held_of c.args.self.now.held) said).groups
    c.args.self.now.store c.args.self.now.store c.args.out.now.items c.args.out.now.items) (sym c.in-Skip.is)
    (loads_none g.D.Disk.Tells g.D.Disk.files c.args.self.now.store c.args.self.now.store c.args.out.now.items c.args.out.now.items refl refl)

pub returns-in-Skip-clause-left : goal.returns-in-Skip-clause-left
returns-in-Skip-clause-left g c = λ tells s image stands leaves.
    left_first c.args.self.now.store.settings (line_step c.args.self.now.store.settings c.args.number (held_of c.args.self.now.held) c.args.line).groups image s
    (stands_left g.D.Disk.files s c.args.self.now.store image c.requires.loading.shape stands leaves)
