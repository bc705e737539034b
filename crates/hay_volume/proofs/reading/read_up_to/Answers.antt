use Rattle.std.proofs.Common.{arith, vec_len}
use Rattle.hay_volume.proofs.ReadLaws.{read_behind_all}
use Rattle.hay_volume.proofs.reading.read_up_to.Goals as goal

pub returns-clause-read : goal.returns-clause-read
returns-clause-read g c = λ tells front.
    read_behind_all c.args.at (vec_len c.args.bytes.now) c.len-have.result c.in_ok-got.got c.args.len c.resize.new.self.len c.args.bytes.now.items _ c.resize.new.self.items
    c.as_mut_slice.result.now c.read_behind.new.out
    c.truncate.new.self.items (g.D.Disk.files c.args.disk.now c.args.file).now
    c.len-have.ensures (omega (arith, c.args.bytes.now.ok.0)) c.requires c.in_ok-resize.ensures.items c.as_mut_slice.ensures.value (omega (arith, c.resize.new.self.ok.0))
    c.read_behind.auto.out (omega (arith, c.in_ok-resize.ensures.len, c.resize.new.self.ok.0)) c.truncate.ensures.items (c.in_ok-got.ensures.read tells) front
