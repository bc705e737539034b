use Rattle.hay_physical.specs.OpenCopies.{is_stuck}
use Rattle.hay_physical.proofs.Holding.{finds_left}
use Rattle.hay_physical.proofs.Laws.{stands_hold}
use Rattle.hay_physical.proofs.Openings.{disk_finds}
use Rattle.hay_physical.proofs.replica.Replica.stop.Goals as goal

pub returns-clause-stood : goal.returns-clause-stood
returns-clause-stood g c = λ tells s stands.
    let files = g.D.Disk.files in
    let was = c.self.inside in
    let stuck = is_stuck c.args.self.now in
    finds_left was.sup (files was.disk) (files c.power_cycle.new.self) stuck s s (c.power_cycle.ensures.left tells) (c.power_cycle.ensures.solid tells)
    (disk_finds files c.args.self.now (record { sup = was.sup; disk = was.disk; phase = was.phase }) stuck s s c.self.view_is (stands_hold files c.args.self.now s stands))

pub returns-clause-holds : goal.returns-clause-holds
returns-clause-holds g c = λ tells stuck s t holds.
    let files = g.D.Disk.files in
    let was = c.self.inside in
    finds_left was.sup (files was.disk) (files c.power_cycle.new.self) stuck s t (c.power_cycle.ensures.left tells) (c.power_cycle.ensures.solid tells)
    (disk_finds files c.args.self.now (record { sup = was.sup; disk = was.disk; phase = was.phase }) stuck s t c.self.view_is holds)
