use Rattle.hay_open.proofs.PlaceLaws.{sealed_cell}
use Rattle.hay_open.proofs.places.place_of.Goals as goal

pub returns-clause-place : goal.returns-clause-place
returns-clause-place g c = λ tells cell here is.
    let bytes = c.in_ok-piece.ensures.bytes tells in
    sealed_cell g.D.Piece.Piece.Tells c.args.head cell (g.D.Disk.files c.args.disk.now c.args.file).now (g.D.Piece.Piece.piece_bytes c.in_ok-piece.piece) c.total_of.result
    c.new.result bytes.0 here is c.if-head.false c.total_of.ensures bytes.1 c.new.ensures
