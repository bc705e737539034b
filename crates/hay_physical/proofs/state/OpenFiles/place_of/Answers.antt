use Rattle.std.proofs.Common.{◌∙◌, ap, take, drop}
use Rattle.hay_open.proofs.PlaceLaws.{sealed_cell}
use Rattle.hay_physical.proofs.state.OpenFiles.place_of.Goals as goal

pub returns-in-Ok-clause-place : goal.returns-in-Ok-clause-place
returns-in-Ok-clause-place g c = λ tells cell here is.
    let old = g.D.Disk.files c.args.disk.now in
    let bytes = c.in-Ok.ensures.bytes tells in
    let read = bytes.1 ∙ ap (λ k. take c.total_of-total.result (drop c.args.head.at (old k).now)) c.file.ensures in (
      tt,
      sealed_cell g.D.Piece.Piece.Tells c.args.head cell (old c.args.self.now.volume.file).now (g.D.Piece.Piece.piece_bytes c.in-Ok.piece) c.total_of-total.result c.new.result
          bytes.0 here is c.if-head.false c.total_of-total.ensures read c.new.ensures,
    )
