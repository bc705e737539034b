use Rattle.hay_volume.proofs.ReadLaws.{piece_behind}
use Rattle.hay_volume.proofs.reading.read_behind.Goals as goal

pub returns-clause-read : goal.returns-clause-read
returns-clause-read g c = λ tells front.
    let fits = g.met.D.Disk.fits c.args.disk.now c.args.file tells in
    piece_behind c.args.at c.args.have c.in_ok-got.got c.saturating_add-place.result c.args.out.now c.read_into.new.out _ (g.D.Disk.files c.args.disk.now c.args.file).now
    c.requires c.saturating_add-place.ensures fits (c.in_ok-got.ensures.count tells) (c.in_ok-got.ensures.bytes tells) front
