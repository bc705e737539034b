use Rattle.hay_physical.proofs.Laws.{stands_capacity, stands_end}
use Rattle.hay_physical.proofs.replica.Replica.room.Goals as goal

pub returns-clause-known : goal.returns-clause-known
returns-clause-known g c = λ tells s stands.
    (stands_end g.D.Disk.files c.args.self.now s stands, stands_capacity g.D.Disk.files c.args.self.now s stands)
