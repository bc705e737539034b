use Rattle.std.proofs.Common.{lit<}
use Rattle.hay_head.specs.Head.{head_magic}
use Rattle.hay_disk.specs.Gate.{LogGrows, LogStays}
use Rattle.std.proofs.Common.{subst}
use Rattle.hay_head.proofs.HeadLaws.{head_grows, head_stays}
use Rattle.hay_head.proofs.head.Head.switch.Goals as goal

pub returns-in_err-gate_append-clause-left : goal.returns-in_err-gate_append-clause-left
returns-in_err-gate_append-clause-left g c = λ tells superblock image is solid leaves.
    head_stays superblock c.row_body-row.result image (g.D.Disk.files c.args.disk.now 0) (g.D.Disk.files c.gate_append.new.disk 0) c.args.self.now.generation c.args.generation
    c.requires.follows c.requires.most c.row_body-row.ensures
    (subst (λ k. LogStays head_magic k c.row_body-row.result (g.D.Disk.files c.args.disk.now 0) (g.D.Disk.files c.gate_append.new.disk 0)) c.place_of.ensures
    (c.gate_append.ensures.stays tells (lit< tt))) is solid leaves

pub returns-clause-switched : goal.returns-clause-switched
returns-clause-switched g c = λ tells superblock is.
    head_grows superblock (g.D.Disk.files c.args.disk.now 0).now (g.D.Disk.files c.gate_append.new.disk 0).now c.row_body-row.result c.args.self.now.generation c.args.generation
    c.requires.follows c.requires.most c.row_body-row.ensures
    (subst (λ k. LogGrows head_magic k c.row_body-row.result (g.D.Disk.files c.args.disk.now 0).now (g.D.Disk.files c.gate_append.new.disk 0).now) c.place_of.ensures
    (c.in_ok-gate_append.ensures.grows tells (lit< tt))) is

pub returns-clause-left : goal.returns-clause-left
returns-clause-left g c = λ tells superblock image is solid leaves.
    head_stays superblock c.row_body-row.result image (g.D.Disk.files c.args.disk.now 0) (g.D.Disk.files c.gate_append.new.disk 0) c.args.self.now.generation c.args.generation
    c.requires.follows c.requires.most c.row_body-row.ensures
    (subst (λ k. LogStays head_magic k c.row_body-row.result (g.D.Disk.files c.args.disk.now 0) (g.D.Disk.files c.gate_append.new.disk 0)) c.place_of.ensures
    (c.gate_append.ensures.stays tells (lit< tt))) is solid leaves
