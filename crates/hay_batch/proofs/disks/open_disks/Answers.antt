use Rattle.std.proofs.Common.{◌≢◌, ◌+◌, ◌∙◌, sym, arith}
use Rattle.std.specs.Prelude.{slice_index_or}
use Rattle.std.proofs.lemmas.Result.{err_from_is_err_and}
use Rattle.hay_batch.specs.Slots.{RefusesDisks}
use Rattle.hay_batch.proofs.Lists.{at_read, at_set_other, passed_on}
use Rattle.hay_batch.proofs.SlotLaws.{all_moved, all_opened, all_refused}
use Rattle.hay_batch.proofs.disks.open_disks.Goals as goal

pub open_journal-requires-clause-solid : goal.open_journal-requires-clause-solid
open_journal-requires-clause-solid g c = λ tells.
    (c.requires.rests 0 (slice_index_or c.args.disks.now 0 c.index-disks-0.result) (at_read c.args.disks.now 0 c.index-disks-0.result (omega (arith, c.requires.count)))).solid tells 0

pub open_journal-requires-clause-free : goal.open_journal-requires-clause-free
open_journal-requires-clause-free g c = λ tells.
    (c.requires.rests 0 (slice_index_or c.args.disks.now 0 c.index-disks-0.result) (at_read c.args.disks.now 0 c.index-disks-0.result (omega (arith, c.requires.count)))).free tells 0

pub open_files-requires-clause-rests : goal.open_files-requires-clause-rests
open_files-requires-clause-rests g c = λ place d at.
    let apart : place + 1 ≢ 0 = omega arith in
    c.requires.rests (place + 1) d (sym (at_set_other c.args.disks.now (place + 1) 0 c.open_journal.new.disk apart) ∙ at)

pub returns-in_err-files-clause-refused : goal.returns-in_err-files-clause-refused
returns-in_err-files-clause-refused g c =
    let p = err_from_is_err_and c.from_residual.result c.from_residual.ensures.1 in
    passed_on c.from_residual.result (RefusesDisks g.D.Disk.Tells g.D.Disk.files g.D.Disk.fault_count g.D.Disk.fuse_count c.args.settings.now c.args.disks.now
    c.open_files.new.disks) c.in_err-files.field-0.0 p.0 p.1 p.2
    (all_refused g.D.Disk.Tells g.D.Disk.files g.D.Disk.fault_count g.D.Disk.fuse_count c.args.settings.now c.args.disks.now c.open_files.new.disks c.open_journal.new.disk
    (slice_index_or c.args.disks.now 0 c.index-disks-0.result) c.in_err-files.field-0.0
    (at_read c.args.disks.now 0 c.index-disks-0.result (omega (arith, c.requires.count))) (c.in-Ok.ensures.opened).sound c.open_files.ensures.moves c.in_err-files.ensures.refused)

pub returns-in_err-files-clause-moves : goal.returns-in_err-files-clause-moves
returns-in_err-files-clause-moves g c =
    all_moved g.D.Disk.Tells g.D.Disk.files g.D.Disk.fault_count g.D.Disk.fuse_count c.args.settings.now c.args.disks.now c.open_files.new.disks c.open_journal.new.disk
    (slice_index_or c.args.disks.now 0 c.index-disks-0.result)
    (at_read c.args.disks.now 0 c.index-disks-0.result (omega (arith, c.requires.count))) (c.in-Ok.ensures.opened).disk c.open_files.ensures.moves

pub returns-clause-opened : goal.returns-clause-opened
returns-clause-opened g c =
    all_opened g.D.Disk.Tells g.D.Disk.files g.D.Disk.fault_count g.D.Disk.fuse_count c.args.settings.now c.args.disks.now c.open_files.new.disks c.open_journal.new.disk
    (slice_index_or c.args.disks.now 0 c.index-disks-0.result) c.in-Ok.kept c.in_ok-files.files.items
    (at_read c.args.disks.now 0 c.index-disks-0.result (omega (arith, c.requires.count))) c.in-Ok.ensures.opened c.open_files.ensures.moves c.in_ok-files.ensures.opened

pub returns-clause-moves : goal.returns-clause-moves
returns-clause-moves g c =
    all_moved g.D.Disk.Tells g.D.Disk.files g.D.Disk.fault_count g.D.Disk.fuse_count c.args.settings.now c.args.disks.now c.open_files.new.disks c.open_journal.new.disk
    (slice_index_or c.args.disks.now 0 c.index-disks-0.result)
    (at_read c.args.disks.now 0 c.index-disks-0.result (omega (arith, c.requires.count))) (c.in-Ok.ensures.opened).disk c.open_files.ensures.moves
