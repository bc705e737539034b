use Rattle.hay_open.proofs.CellRows.{head_inside}
use Rattle.hay_open.proofs.places.open_orphan.Goals as goal

pub place_of-requires-clause-inside : goal.place_of-requires-clause-inside
place_of-requires-clause-inside g c = λ tells.
    let here = c.requires.stands tells in
    head_inside (g.D.Disk.files c.args.disk.now c.args.file).now c.args.head here.0 here.1 here.2
