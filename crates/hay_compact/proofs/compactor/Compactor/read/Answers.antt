use Rattle.std.proofs.Common.{◌≡◌, rules, ap, refl, sym, subst, ◌∙◌, Err}
use Rattle.std.proofs.lemmas.Result.{err_from_is_err_and}
use Rattle.hay_volume.proofs.ReadLaws.{same_fault}
use Rattle.hay_volume.proofs.Readings.{cell_begins}
use Rattle.hay_volume.specs.Cells.{StandsCell, cell_head}
use Rattle.hay_volume.specs.Needles.{HasNeedleOf}
use Rattle.hay_needle.specs.Needle.{needle_of_cell}
use Rattle.hay_needle.specs.declared.needle.Cell.{Cell}
use Rattle.hay_needle.specs.declared.needle.CellHead.{CellHead}
use Rattle.hay_compact.specs.Copying.{HasPeeked, IsCopy, Stage}
use Rattle.hay_compact.proofs.Copyings.{read_cell}
use Rattle.hay_compact.proofs.Copied.{read_of}
use Rattle.hay_compact.proofs.compactor.Compactor.read.Goals as goal

same_head : (g : _) (c : goal.Else-ne g) → c.in_ok-read.read ≡ c.args.head
same_head g c = search rules

pub returns-clause-read : goal.returns-clause-read
returns-clause-read g c =
    let cell = c.in_ok-read.ensures.cell in
    read_of c.args.old.now.end c.self.inside.next c.cell_within.new.out.items c.args.head cell.0
    (subst (λ (s : Stage). HasPeeked c.args.old.now.end s.next c.args.head) (sym c.self.view_is) c.requires) cell.1 (sym (same_head g c) ∙ cell.2)

pub returns-clause-copy : goal.returns-clause-copy
returns-clause-copy g c = λ tells there stands.
    let cell = c.in_ok-read.ensures.cell in
    let file = (g.D.Disk.files c.args.disk.now c.args.old.now.file).now in
    let here = subst (λ (s : Stage). StandsCell s.next file there) (sym c.self.view_is) stands in
    let same = read_cell c.self.inside.next file c.cell_within.new.out.items cell.0 there cell.1 (c.in_ok-read.ensures.stands tells) here in
    subst (λ (x : Cell). IsCopy c.self.inside.next c.cell_within.new.out.items c.args.head x) same (record { is = cell.1; head_is = sym (same_head g c) ∙ cell.2 })

pub returns-in_err-read-clause-whole : goal.returns-in_err-read-clause-whole
returns-in_err-read-clause-whole g c = λ tells k there stands heads wrong.
    let fault = err_from_is_err_and c.from_residual.result c.from_residual.ensures.1 in
    let place = c.in_err-read.ensures.place k (ap (λ x. Err x) (same_fault c.from_residual.result fault.0 c.in_err-read.field-0.0 k k fault.1 fault.2 wrong refl)) in
    let file = (g.D.Disk.files c.args.disk.now c.args.old.now.file).now in
    let here = subst (λ (s : Stage). StandsCell s.next file there) (sym c.self.view_is) stands in
    c.in_err-read.ensures.damaged tells (ap (λ x. Err x) (same_fault c.from_residual.result fault.0 c.in_err-read.field-0.0 k c.self.inside.next fault.1 fault.2 wrong (sym place)))
    (needle_of_cell there) (cell_begins c.self.inside.next file there here) (ap (λ (x : CellHead). x.size) (sym heads))

pub returns-then-ne-clause-whole : goal.returns-then-ne-clause-whole
returns-then-ne-clause-whole g c = λ tells k there stands heads wrong.
    let cell = c.in_ok-read.ensures.cell in
    let file = (g.D.Disk.files c.args.disk.now c.args.old.now.file).now in
    let here = subst (λ (s : Stage). StandsCell s.next file there) (sym c.self.view_is) stands in
    let same = read_cell c.self.inside.next file c.cell_within.new.out.items cell.0 there cell.1 (c.in_ok-read.ensures.stands tells) here in
    let read : c.in_ok-read.read ≡ c.args.head = cell.2 ∙ ap cell_head same ∙ sym heads in
    search rules

pub returns-clause-there : goal.returns-clause-there
returns-clause-there g c = λ tells.
    let cell = c.in_ok-read.ensures.cell in
    let head : c.args.head ≡ cell_head cell.0 = sym (same_head g c) ∙ cell.2 in
    let file = (g.D.Disk.files c.args.disk.now c.args.old.now.file).now in
    let there : HasNeedleOf c.args.head.size c.args.head.deleted c.self.inside.next file = record {
      cell = cell.0;
      stands = record { needle = c.cell_within.new.out.items; is = cell.1; stand = c.in_ok-read.ensures.stands tells };
      size_is = sym (ap (λ (x : CellHead). x.size) head);
      deleted_is = sym (ap (λ (x : CellHead). x.deleted) head);
    } in
    subst (λ (s : Stage). HasNeedleOf c.args.head.size c.args.head.deleted s.next file) c.self.view_is there
