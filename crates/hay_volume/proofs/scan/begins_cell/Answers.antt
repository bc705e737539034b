use Rattle.std.proofs.Common.{arith, ◌∙◌, sym, vec_len}
use Rattle.hay_volume.proofs.ScanLaws.{nothing_yet, are_bytes, closed_here, magic_here}
use Rattle.hay_volume.proofs.scan.begins_cell.Goals as goal

pub returns-then-u64_at-ne-NEEDLE_MAGIC-clause-mark : goal.returns-then-u64_at-ne-NEEDLE_MAGIC-clause-mark
returns-then-u64_at-ne-NEEDLE_MAGIC-clause-mark g c = λ tells.
    closed_here c.args.at c.as_slice.result.now c.read_up_to.new.bytes.items (g.D.Disk.files c.args.disk.now c.args.file).now c.as_slice.ensures.value
    (c.in_ok-read_up_to.ensures.read tells (nothing_yet (vec_len c.clear.new.self) c.clear.new.self.items _ c.clear.ensures.items c.clear.ensures.len))
    (omega (arith, c.read_up_to.new.bytes.ok.0, c.len.ensures)) (λ is. c.if-u64_at-ne-NEEDLE_MAGIC.true (c.u64_at.ensures ∙ is))

pub returns-clause-magic : goal.returns-clause-magic
returns-clause-magic g c = λ tells.
    magic_here c.args.at c.as_slice.result.now c.read_up_to.new.bytes.items (g.D.Disk.files c.args.disk.now c.args.file).now
    (are_bytes c.read_up_to.new.bytes.items c.type_inv.bytes) c.as_slice.ensures.value
    (c.in_ok-read_up_to.ensures.read tells (nothing_yet (vec_len c.clear.new.self) c.clear.new.self.items _ c.clear.ensures.items c.clear.ensures.len))
    (omega (arith, c.read_up_to.new.bytes.ok.0, c.len.ensures, c.in_ok-read_up_to.ensures.within)) (sym c.u64_at.ensures ∙ c.if-u64_at-ne-NEEDLE_MAGIC.false)
