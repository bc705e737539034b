use Rattle.std.proofs.Common.{◌≡◌, ◌∙◌, List, ℕ, ap, drop, subst, length, sym, take}
use Rattle.hay_needle.specs.Needle.{NeedleBytes, needle_of_cell}
use Rattle.hay_needle.specs.Sizes.{needle_total}
use Rattle.hay_disk.specs.Disk.{KeepsOthers, Seals}
use Rattle.hay_map.specs.Sealed.{SealedNeedle}
use Rattle.hay_physical.proofs.CellRows.{needle_from}
use Rattle.hay_physical.proofs.Standing.{last_sealed, stand_sealed}
use Rattle.hay_physical.proofs.state.OpenFiles.give.Goals as goal

pub returns-in-Ok-clause-given : goal.returns-in-Ok-clause-given
returns-in-Ok-clause-given g c = λ tells sup s pair cookie photo stand there size.
    let old = g.D.Disk.files c.args.disk.now in
    let new = g.D.Disk.files c.seal.new.self in
    let opened = c.args.self.now in
    let done = c.in-Ok.ensures in
    let total : c.total_of.result ≡ needle_total (length photo) = c.total_of.ensures ∙ ap needle_total size in
    let seals = subst (λ k. Seals c.args.at c.total_of.result 28 (old k) (new k)) c.file.ensures (done.seals tells) in
    let others = subst (λ k. KeepsOthers k old new) c.file.ensures (done.others tells) in
    let read = (done.bytes tells).1 ∙ ap (λ k. Rattle.std.proofs.Common.take c.total_of.result (Rattle.std.proofs.Common.drop c.args.at (old k).now)) c.file.ensures in (
      stand_sealed sup old new opened s pair cookie photo c.args.at c.total_of.result stand there total seals others,
      last_sealed g.D.Piece.Piece.Tells sup old opened s pair cookie photo (g.D.Piece.Piece.piece_bytes c.in-Ok.piece) c.args.at c.args.size c.total_of.result c.new.result stand
          there size total c.new.ensures (done.bytes tells).0 read,
    )

pub returns-in-Ok-clause-whole : goal.returns-in-Ok-clause-whole
returns-in-Ok-clause-whole g c = λ tells cell stands size.
    let old = g.D.Disk.files c.args.disk.now in
    let total : c.total_of.result ≡ needle_total (length cell.bytes) = c.total_of.ensures ∙ ap needle_total (sym size) in
    let read = (c.in-Ok.ensures.bytes tells).1 ∙ ap (λ k. take c.total_of.result (drop c.args.at (old k).now)) c.file.ensures in
    let whole = needle_from c.args.at c.total_of.result (old c.args.self.now.volume.file).now (g.D.Piece.Piece.piece_bytes c.in-Ok.piece) cell stands total read in
    ((c.in-Ok.ensures.bytes tells).0, needle_of_cell cell, subst (λ (x : SealedNeedle). NeedleBytes x.bytes (needle_of_cell cell)) (sym c.new.ensures) whole)
