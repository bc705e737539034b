use Rattle.hay_head.proofs.HeadLaws.{none_is}
use Rattle.hay_check.proofs.Reading.{cell_damage}
use Rattle.hay_check.proofs.volume.read_volume.Goals as goal

pub returns-in-None-clause-damaged : goal.returns-in-None-clause-damaged
returns-in-None-clause-damaged g c = λ tells number at is.
    cell_damage c.args.sup.now (g.D.Disk.files c.args.disk.now) (g.D.Disk.files c.read_front.new.disk) c.args.file number at (c.read_front.ensures.same tells)
    (none_is c.in_ok-read_front.field-0 _ c.in-None.is (c.in_ok-read_front.ensures.stands tells)) (c.scan.ensures.damaged tells number at is)
