use Rattle.std.proofs.Common.{◌≡◌, ◌∙◌, List, length, refl, ap, arith}
use Rattle.std.specs.Option.{option_or}
use Rattle.std.proofs.lemmas.List.{length-map}
use Rattle.hay_dirfile.specs.declared.row.DirRow.{DirRow}
use Rattle.hay_batch.specs.Batches.{new_row}
use Rattle.hay_batch.specs.Homes.{home_among, home_in}
use Rattle.hay_batch.proofs.DirectoryLaws.{may_settle, may_settle_same, settled}
use Rattle.hay_batch.proofs.directory.LoadDirectory.settle.Goals as goal

-- nothing was written
pub returns-in_err-rows-clause-left : goal.returns-in_err-rows-clause-left
returns-in_err-rows-clause-left g c = λ tells. may_settle_same g.D.Disk.files c.args.volume c.args.photos.now c.args.self.now _ refl

pub returns-in_default-clause-left : goal.returns-in_default-clause-left
returns-in_default-clause-left g c = λ tells. may_settle_same g.D.Disk.files c.args.volume c.args.photos.now c.args.self.now _ refl

-- the append was begun
pub returns-in_err-settle_many-clause-left : goal.returns-in_err-settle_many-clause-left
returns-in_err-settle_many-clause-left g c = λ tells.
    may_settle g.D.Disk.files c.args.volume c.args.photos.now c.as_slice-2.result.now c.args.self.now _ (c.as_slice-2.ensures.value ∙ c.in_ok-rows.ensures)
    (c.settle_many.ensures.left tells) (c.settle_many.ensures.others tells)

pub returns-clause-left : goal.returns-clause-left
returns-clause-left g c = λ tells.
    may_settle g.D.Disk.files c.args.volume c.args.photos.now c.as_slice-2.result.now c.args.self.now _ (c.as_slice-2.ensures.value ∙ c.in_ok-rows.ensures)
    (c.settle_many.ensures.left tells) (c.settle_many.ensures.others tells)

-- the rows were added
pub returns-clause-settled : goal.returns-clause-settled
returns-clause-settled g c = λ tells superblock volumes rows below has.
    let many : c.len.result ≡ length c.as_slice-2.result.now = omega (arith, c.len.ensures, c.as_slice-2.ensures.len) in
    settled g.D.Disk.files c.args.volume c.len.result c.args.photos.now c.as_slice.result.now c.as_slice-2.result.now c.args.self.now _
    (c.as_slice.ensures.value ∙ c.in_ok-rows.ensures) (c.as_slice-2.ensures.value ∙ c.in_ok-rows.ensures) many (λ disk. g.met.D.Disk.fits disk 0 tells)
    (c.in_ok-settle_many.ensures.moved tells) c.saturating_add-self.ensures (c.in_ok-settle_many.ensures.added tells) (c.in_ok-settle_many.ensures.solid tells)
    (c.in_ok-settle_many.ensures.next tells) c.in-Ok.ensures superblock volumes rows below has

pub returns-clause-homes : goal.returns-clause-homes
returns-clause-homes g c = record {
  at = λ pair. c.in-Ok.ensures pair ∙ ap (λ (l : List DirRow). option_or (home_among c.args.self.now.homes pair) (home_in l pair)) (c.as_slice.ensures.value ∙ c.in_ok-rows.ensures);
}

pub returns-clause-rows : goal.returns-clause-rows
returns-clause-rows g c =
    let many : c.len.result ≡ length c.args.photos.now = omega (arith, c.len.ensures, c.in_ok-rows.rows.ok.0, ap length c.in_ok-rows.ensures, length-map c.args.photos.now (new_row c.args.volume)) in
    omega (arith, c.saturating_add-self.ensures)
