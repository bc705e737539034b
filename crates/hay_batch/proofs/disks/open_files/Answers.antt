use Rattle.std.proofs.Common.{◌≡◌, ◌+◌, ◌-◌, length, inr, subst, arith}
use Rattle.std.specs.Prelude.{slice_index_or}
use Rattle.hay_needle.specs.declared.settings.Super.{Super}
use Rattle.hay_batch.specs.Slots.{IsAtRest, OpensFile, RefusesFile}
use Rattle.hay_batch.proofs.Lists.{at_read}
use Rattle.hay_batch.proofs.SlotLaws.{behind_first, files_all, files_more, files_moved, files_refused, files_stopped, files_was}
use Rattle.hay_batch.proofs.disks.open_files.Goals as goal

pub open_file-requires : goal.open_file-requires
open_file-requires g c =
    let n = c.loop-slot.slot in
    let d = slice_index_or c.loop-slot.disks n c.index-disks-slot.result in
    let f = c.loop-slot.invariant.files in
    behind_first (IsAtRest g.D.Disk.Tells g.D.Disk.files) c.args.disks.now n d (omega arith) c.requires.rests
    (files_was g.D.Disk.Tells g.D.Disk.files g.D.Disk.fault_count g.D.Disk.fuse_count c.args.settings.now n c.args.disks.now c.loop-slot.disks c.loop-slot.files.items d f
    (at_read c.loop-slot.disks n c.index-disks-slot.result (omega arith)))

pub returns-in-Err-clause-refused : goal.returns-in-Err-clause-refused
returns-in-Err-clause-refused g c =
    let n = c.loop-slot.slot in
    let d = slice_index_or c.loop-slot.disks n c.index-disks-slot.result in
    let next : n ≡ n - 1 + 1 = omega arith in
    inr (files_refused g.D.Disk.Tells g.D.Disk.files g.D.Disk.fault_count g.D.Disk.fuse_count c.args.settings.now n (n - 1) c.args.disks.now c.loop-slot.disks
    c.loop-slot.files.items d c.open_file.new.disk c.in-Err.fault c.not_opened.result next
    c.loop-slot.invariant.files (at_read c.loop-slot.disks n c.index-disks-slot.result (omega arith))
    (subst (λ (sup : Super). RefusesFile g.D.Disk.Tells g.D.Disk.files g.D.Disk.fault_count g.D.Disk.fuse_count sup d c.open_file.new.disk c.in-Err.fault) c.super_at-sup.ensures
    c.in-Err.ensures.refused) c.not_opened.ensures)

pub returns-in-Err-clause-moves : goal.returns-in-Err-clause-moves
returns-in-Err-clause-moves g c =
    let n = c.loop-slot.slot in
    let d = slice_index_or c.loop-slot.disks n c.index-disks-slot.result in
    files_stopped g.D.Disk.Tells g.D.Disk.files g.D.Disk.fault_count g.D.Disk.fuse_count c.args.settings.now n c.args.disks.now c.loop-slot.disks c.loop-slot.files.items d
    c.open_file.new.disk (omega arith)
    c.loop-slot.invariant.files (at_read c.loop-slot.disks n c.index-disks-slot.result (omega arith)) (c.in-Err.ensures.refused).disk

pub loop-slot-preserved : goal.loop-slot-preserved
loop-slot-preserved g c =
    let n = c.loop-slot.slot in
    let d = slice_index_or c.loop-slot.disks n c.index-disks-slot.result in
    let next : n ≡ n - 1 + 1 = omega arith in
    record {
      files =
          files_more g.D.Disk.Tells g.D.Disk.files g.D.Disk.fault_count g.D.Disk.fuse_count c.args.settings.now n (n - 1) c.args.disks.now c.loop-slot.disks c.loop-slot.files.items
          c.push_reserved.new.self.items d c.open_file.new.disk c.in-Ok.file next
          c.loop-slot.invariant.files (at_read c.loop-slot.disks n c.index-disks-slot.result (omega arith))
          (subst (λ (sup : Super). OpensFile g.D.Disk.Tells g.D.Disk.files g.D.Disk.fault_count g.D.Disk.fuse_count sup d c.open_file.new.disk c.in-Ok.file) c.super_at-sup.ensures
          c.in-Ok.ensures.opened) c.push_reserved.ensures.items;
      room = omega (arith, c.loop-slot.invariant.room, c.push_reserved.ensures.capacity);
    }

pub returns-clause-opened : goal.returns-clause-opened
returns-clause-opened g c =
    let all : c.loop-slot.slot ≡ length c.args.disks.now = omega arith in
    files_all g.D.Disk.Tells g.D.Disk.files g.D.Disk.fault_count g.D.Disk.fuse_count c.args.settings.now c.loop-slot.slot c.args.disks.now c.loop-slot.disks c.loop-slot.files.items
    c.loop-slot.invariant.files all

pub returns-clause-moves : goal.returns-clause-moves
returns-clause-moves g c =
    files_moved g.D.Disk.Tells g.D.Disk.files g.D.Disk.fault_count g.D.Disk.fuse_count c.args.settings.now c.loop-slot.slot c.args.disks.now c.loop-slot.disks
    c.loop-slot.files.items c.loop-slot.invariant.files
