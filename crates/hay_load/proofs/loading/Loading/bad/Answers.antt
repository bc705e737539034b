use Rattle.std.proofs.Common.{[], ◌∷◌, refl}
use Rattle.hay_load.specs.Gathering.{Bad, closed}
use Rattle.hay_load.specs.Loads.{held_of}
use Rattle.hay_load.proofs.Taking.{left_more, loads_bad, loads_more}
use Rattle.hay_load.proofs.loading.Loading.bad.Goals as goal

pub returns-clause-loads : goal.returns-clause-loads
returns-clause-loads g c =
    loads_more g.D.Disk.Tells g.D.Disk.files (closed (held_of c.args.self.now.held)) (Bad c.args.number ∷ []) c.args.self.now.store c.end.new.self.store c.end.new.self.store
    c.args.out.now.items c.end.new.out.items c.load_line.new.out.items
    c.end.ensures.shape.0 c.in_ok-end.ensures.loads
    (loads_bad g.D.Disk.Tells g.D.Disk.files c.args.number c.end.new.self.store c.end.new.self.store c.end.new.out.items c.load_line.new.out.items refl c.in_ok-load_line.ensures.ok)

pub returns-in_err-end-clause-left : goal.returns-in_err-end-clause-left
returns-in_err-end-clause-left g c = λ tells s image stands leaves.
    left_more c.args.self.now.store.settings (closed (held_of c.args.self.now.held)) (Bad c.args.number ∷ []) image s (c.end.ensures.left tells s image stands leaves)

pub returns-in_err-load_line-clause-left : goal.returns-in_err-load_line-clause-left
returns-in_err-load_line-clause-left g c = λ tells s image stands leaves.
    left_more c.args.self.now.store.settings (closed (held_of c.args.self.now.held)) (Bad c.args.number ∷ []) image s (c.end.ensures.left tells s image stands leaves)

pub returns-clause-left : goal.returns-clause-left
returns-clause-left g c = λ tells s image stands leaves.
    left_more c.args.self.now.store.settings (closed (held_of c.args.self.now.held)) (Bad c.args.number ∷ []) image s (c.end.ensures.left tells s image stands leaves)
