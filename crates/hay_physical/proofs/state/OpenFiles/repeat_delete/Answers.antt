use Rattle.std.proofs.Common.{arith, refl}
use Rattle.hay_physical.proofs.RunLaws.{bounded_dropped, bounded_next, examined_within}
use Rattle.hay_physical.proofs.RunLaws.{beside_volume}
use Rattle.hay_physical.proofs.state.OpenFiles.repeat_delete.Goals as goal

pub returns-then-is_err-clause-others : goal.returns-then-is_err-clause-others
returns-then-is_err-clause-others g c = λ tells.
    beside_volume (g.D.Disk.files c.args.disk.now) (g.D.Disk.files c.repeat_delete.new.disk) c.args.self.now c.in-Standing.compactor c.requires.settled c.in-Standing.is
    (c.requires.making tells c.in-Standing.compactor c.in-Standing.is) (c.repeat_delete.ensures.others tells)

pub returns-else-is_err-clause-others : goal.returns-else-is_err-clause-others
returns-else-is_err-clause-others g c = λ tells.
    beside_volume (g.D.Disk.files c.args.disk.now) (g.D.Disk.files c.repeat_delete.new.disk) c.args.self.now c.in-Standing.compactor c.requires.settled c.in-Standing.is
    (c.requires.making tells c.in-Standing.compactor c.in-Standing.is) (c.repeat_delete.ensures.others tells)

pub returns-then-is_err-clause-bounded : goal.returns-then-is_err-clause-bounded
returns-then-is_err-clause-bounded g c = λ capacity bounded. bounded_dropped capacity c.args.self.now _ _ bounded refl refl

pub returns-else-is_err-clause-bounded : goal.returns-else-is_err-clause-bounded
returns-else-is_err-clause-bounded g c = λ capacity bounded.
    bounded_next capacity c.args.self.now _ c.in-Standing.compactor c.repeat_delete.new.self bounded refl c.in-Standing.is refl c.repeat_delete.ensures.capacity
    (let within = examined_within capacity c.args.self.now c.in-Standing.compactor bounded c.in-Standing.is in omega (arith, c.repeat_delete.ensures.next))
