use Rattle.std.proofs.Common.{Option, refl, subst}
use Rattle.hay_batch.proofs.StoredLaws.{stands_left}
use Rattle.hay_load.specs.declared.batch.Gathered.{Gathered}
use Rattle.hay_load.specs.Gathering.{closed}
use Rattle.hay_load.specs.Loads.{Loads, held_of}
use Rattle.hay_load.proofs.Taking.{left_first, loads_none}
use Rattle.hay_load.proofs.loading.Loading.end.Goals as goal

pub returns-in-None-clause-loads : goal.returns-in-None-clause-loads
returns-in-None-clause-loads g c =
    subst (λ (held : Option Gathered). Loads g.D.Disk.Tells g.D.Disk.files (closed (held_of held)) c.args.self.now.store c.args.self.now.store c.args.out.now.items
    c.args.out.now.items) c.in-None.ensures.value
    (loads_none g.D.Disk.Tells g.D.Disk.files c.args.self.now.store c.args.self.now.store c.args.out.now.items c.args.out.now.items refl refl)

pub returns-in-None-clause-left : goal.returns-in-None-clause-left
returns-in-None-clause-left g c = λ tells s image stands leaves.
    left_first c.args.self.now.store.settings (closed (held_of c.args.self.now.held)) image s (stands_left g.D.Disk.files s c.args.self.now.store image c.requires.shape stands leaves)
