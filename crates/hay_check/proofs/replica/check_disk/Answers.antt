use Rattle.std.proofs.Common.{Err, List, length, ap, refl, inr, ◌∙◌, arith}
use Rattle.std.specs.Prelude.{count_by}
use Rattle.std.proofs.lemmas.Result.{err_from_is_err_and}
use Rattle.hay_needle.specs.declared.needle.CellHead.{CellHead}
use Rattle.hay_check.specs.Verdicts.{is_old}
use Rattle.hay_check.proofs.Counting.{heads_reach, old_heads}
use Rattle.hay_check.proofs.Deciding.{cells_held, front_first, rest_first, whole_numbers, whole_stored}
use Rattle.hay_check.proofs.Reading.{same_refusal}
use Rattle.hay_check.proofs.replica.check_disk.Goals as goal

pub returns-in_err-generation-clause-damaged : goal.returns-in_err-generation-clause-damaged
returns-in_err-generation-clause-damaged g c = λ tells file at is.
    let fault = err_from_is_err_and c.from_residual.result c.from_residual.ensures.1 in
    front_first c.args.sup.now (λ n. (g.D.Disk.files c.args.disk.now n).now) file at
    (c.in_err-generation.ensures.damaged tells file at (ap (λ x. Err x) (same_refusal c.from_residual.result fault.0 c.in_err-generation.field-0.0 file at fault.1 fault.2 is)))

pub returns-in_err-records-clause-damaged : goal.returns-in_err-records-clause-damaged
returns-in_err-records-clause-damaged g c = λ tells file at is.
    let read = c.in_ok-generation.field-0 in
    let fault = err_from_is_err_and c.from_residual-in_err-records.result c.from_residual-in_err-records.ensures.1 in
    let held =
    cells_held c.args.sup.now (λ n. (g.D.Disk.files c.args.disk.now n).now) read.generation read.end c.as_slice-heads.result.now read.heads.items c.as_slice-heads.ensures.value
    (c.in_ok-generation.ensures.cells tells) in
    let damage = c.in_err-records.ensures.damaged tells file at (ap (λ x. Err x) (same_refusal c.from_residual-in_err-records.result fault.0 c.in_err-records.field-0.0 file at fault.1 fault.2 is)) in
    rest_first c.args.sup.now c.index_super.result (g.D.Disk.files c.args.disk.now) (g.D.Disk.files c.read_cells.new.disk) read.generation read.end c.index_file.result file at
    c.as_slice-heads.result.now held
    (c.read_cells.ensures.same tells) c.index_file.ensures c.index_super.ensures damage

pub returns-clause-whole : goal.returns-clause-whole
returns-clause-whole g c = λ tells.
    let read = c.in_ok-generation.field-0 in
    let heads = c.as_slice-heads.result.now in
    let held =
    cells_held c.args.sup.now (λ n. (g.D.Disk.files c.args.disk.now n).now) read.generation read.end heads read.heads.items c.as_slice-heads.ensures.value
    (c.in_ok-generation.ensures.cells tells) in (
      record { cells = held.cells; end = read.end; records = c.in_ok-records.records; generation = read.generation },
      whole_stored c.args.sup.now c.index_super.result (g.D.Disk.files c.args.disk.now) (g.D.Disk.files c.read_cells.new.disk) read.generation read.end c.index_file.result
          c.in_ok-records.records heads held
          (c.read_cells.ensures.same tells) c.index_file.ensures c.index_super.ensures (c.in_ok-records.ensures.lists tells),
      whole_numbers read.generation _ c.in_ok-live.live c.in_ok-records.records read.end c.old_count.result heads held.cells held.are refl (c.in_ok-live.ensures.is held.cells held.are)
          (c.old_count.ensures.is ∙ ap (λ (l : List CellHead). count_by (λ (head : CellHead). is_old head.version) l) held.are ∙ old_heads held.cells),
    )

-- WHATEVER THE DISK TELLS

pub returns-in_err-generation-clause-file : goal.returns-in_err-generation-clause-file
returns-in_err-generation-clause-file g c = λ file at is.
    let fault = err_from_is_err_and c.from_residual.result c.from_residual.ensures.1 in
    c.in_err-generation.ensures.file file at (ap (λ x. Err x) (same_refusal c.from_residual.result fault.0 c.in_err-generation.field-0.0 file at fault.1 fault.2 is))

pub returns-in_err-records-clause-file : goal.returns-in_err-records-clause-file
returns-in_err-records-clause-file g c = λ file at is.
    let read = c.in_ok-generation.field-0 in
    let fault = err_from_is_err_and c.from_residual-in_err-records.result c.from_residual-in_err-records.ensures.1 in
    let same = c.in_err-records.ensures.file file at (ap (λ x. Err x) (same_refusal c.from_residual-in_err-records.result fault.0 c.in_err-records.field-0.0 file at fault.1 fault.2 is)) in
    let most = c.in_ok-generation.ensures.most in
    inr (read.generation, most, inr (same ∙ c.index_file.ensures most))

pub returns-clause-kind : goal.returns-clause-kind
returns-clause-kind g c =
    let read = c.in_ok-generation.field-0 in
    let same = ap (λ (l : List CellHead). length l) c.as_slice-heads.ensures.value in
    let reach = heads_reach 64 read.end read.heads.items c.in_ok-generation.ensures.row in
    let live = c.in_ok-live.ensures.most in
    let records = c.in_ok-records.ensures.most in
    let old = c.old_count.ensures.most in (
      c.in_ok-generation.ensures.most,
      omega (arith, live),
      omega (arith, records),
      omega (arith, old),
      omega (arith, reach, same),
      omega arith,
    )
