use Rattle.std.proofs.Common.{◌≡◌, ◌≤◌, ◌<◌, ◌+◌, ◌^◌, ◌∙◌, ap, subst, sym, refl, arith, Err}
use Rattle.std.proofs.lemmas.Result.{err_from_is_err_and}
use Rattle.hay_needle.specs.Sizes.{needle_total}
use Rattle.hay_needle.specs.declared.needle.Cell.{Cell}
use Rattle.hay_volume.specs.Cells.{StandsCell, cell_head}
use Rattle.hay_volume.proofs.ReadLaws.{same_fault}
use Rattle.hay_volume.specs.Needles.{AreHeadsFrom}
use Rattle.hay_volume.proofs.ScanLaws.{IsScanned, damaged_here, found, heads_push, same_cell, one_scanned, cell_within}
use Rattle.hay_volume.proofs.volume.VolumeFile.scan_from.Goals as goal

pub returns-in_err-head-clause-damaged : goal.returns-in_err-head-clause-damaged
returns-in_err-head-clause-damaged g c = λ tells k is.
    let fault = err_from_is_err_and c.from_residual.result c.from_residual.ensures.1 in
    let broken = c.in_err-head.ensures.damaged tells k (ap (λ x. Err x) (same_fault c.from_residual.result fault.0 c.in_err-head.field-0.0 k k fault.1 fault.2 is refl)) in
    damaged_here c.args.at c.cells.end k (g.D.Disk.files c.args.disk.now c.args.self.now.file).now (g.D.Disk.files c.cells.disk c.args.self.now.file).now c.cells.heads.items
    (c.cells.invariant.scanned tells) (ap (λ files. (files c.args.self.now.file).now) (c.cells.invariant.same tells)) broken.0 broken.1

pub returns-in_default-checked_add-clause-damaged : goal.returns-in_default-checked_add-clause-damaged
returns-in_default-checked_add-clause-damaged g c = λ tells k is.
    let fits = g.met.D.Disk.fits c.cells.disk c.args.self.now.file tells in
    let cell =
    found c.in_ok-head.field-0 c.in-Some.head (λ head. (cell : Cell) × StandsCell c.cells.end (g.D.Disk.files c.cells.disk c.args.self.now.file).now cell
    × (head ≡ cell_head cell)) c.in-Some.is (c.in_ok-head.ensures.cell tells) in
    let within : c.cells.end + needle_total c.in-Some.head.size < 2 ^ 64 = cell_within c.cells.end (g.D.Disk.files c.cells.disk c.args.self.now.file).now cell.0 c.in-Some.head cell.1 cell.2 fits in
    let beyond = c.in_default-checked_add.ensures in
    let total = c.total_of.ensures in
    absurd (omega arith)

pub cells-preserved : goal.cells-preserved
cells-preserved g c = record {
  same = λ tells. c.next_cell.ensures.same tells ∙ c.cells.invariant.same tells;
  scanned = λ tells.
      let cell =
      found c.in_ok-head.field-0 c.in-Some.head (λ head. (cell : Cell) × StandsCell c.cells.end (g.D.Disk.files c.cells.disk c.args.self.now.file).now cell
      × (head ≡ cell_head cell)) c.in-Some.is (c.in_ok-head.ensures.cell tells) in
      let next =
      one_scanned c.args.at c.cells.end c.in-Some-checked_add.next (g.D.Disk.files c.args.disk.now c.args.self.now.file).now c.cells.heads.items c.in-Some.head cell.0
      (c.cells.invariant.scanned tells)
      (same_cell c.cells.end (g.D.Disk.files c.args.disk.now c.args.self.now.file).now (g.D.Disk.files c.cells.disk c.args.self.now.file).now cell.0
      (ap (λ files. (files c.args.self.now.file).now) (c.cells.invariant.same tells)) cell.1) cell.2 (omega (arith, c.in-Some-checked_add.ensures, c.total_of.ensures)) in
      subst (λ l. IsScanned c.args.at (g.D.Disk.files c.args.disk.now c.args.self.now.file).now l c.in-Some-checked_add.next) (sym c.in_ok-push.ensures.items) next;
  row =
      let place = found c.in_ok-head.field-0 c.in-Some.head (λ head. head.at ≡ c.cells.end) c.in-Some.is c.in_ok-head.ensures.place in
      subst (λ l. AreHeadsFrom c.args.at l c.in-Some-checked_add.next) (sym c.in_ok-push.ensures.items)
      (heads_push c.args.at c.cells.end c.in-Some-checked_add.next c.cells.heads.items c.in-Some.head c.cells.invariant.row place (omega (arith, c.in-Some-checked_add.ensures, c.total_of.ensures)));
  drawn = λ tells.
      let read =
      found c.in_ok-head.field-0 c.in-Some.head (λ head. g.D.Disk.drawn c.next_cell.new.disk c.args.self.now.file
      ≤ g.D.Disk.drawn c.cells.disk c.args.self.now.file + needle_total head.size) c.in-Some.is (c.in_ok-head.ensures.drawn_cell tells) in
      omega (arith, read, c.cells.invariant.drawn tells, c.in-Some-checked_add.ensures, c.total_of.ensures);
  drawn_others = λ tells other ne. c.next_cell.ensures.drawn_others tells other ne ∙ c.cells.invariant.drawn_others tells other ne;
  faults = omega (arith, c.next_cell.ensures.counted.later);
  fuses = c.next_cell.ensures.fuses ∙ c.cells.invariant.fuses;
}
