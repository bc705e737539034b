use Rattle.std.proofs.Common.{refl, replicate}
use Rattle.hay_needle.specs.Needle.{head_of_cell}
use Rattle.hay_open.proofs.HeadReads.{head_stands, head_given}
use Rattle.hay_open.proofs.record.head_at.Goals as goal

pub returns-in-Ok-clause-stands : goal.returns-in-Ok-clause-stands
returns-in-Ok-clause-stands g c = λ tells.
    head_stands c.args.at c.in_ok-got.got (replicate 36 0) c.read_into.new.out (g.D.Disk.files c.args.disk.now c.args.file).now (head_of_cell c.in-Ok.head) refl
    (c.in_ok-got.ensures.count tells) (c.in_ok-got.ensures.bytes tells) c.in-Ok.ensures.found

pub returns-in-Err-clause-none : goal.returns-in-Err-clause-none
returns-in-Err-clause-none g c = λ tells head is.
    c.in-Err.ensures.only head (head_given c.args.at c.in_ok-got.got (replicate 36 0) c.read_into.new.out (g.D.Disk.files c.args.disk.now c.args.file).now head refl
    (c.in_ok-got.ensures.count tells) (c.in_ok-got.ensures.bytes tells) is)
