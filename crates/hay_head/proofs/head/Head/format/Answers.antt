use Rattle.std.proofs.Common.{◌∙◌, refl}
use Rattle.hay_needle.specs.Super.{super_bytes}
use Rattle.hay_needle.proofs.Supers.{length-super}
use Rattle.hay_head.proofs.HeadLaws.{formatted, head_gate}
use Rattle.hay_head.proofs.head.Head.format.Goals as goal

pub returns-clause-fresh : goal.returns-clause-fresh
returns-clause-fresh g c = λ tells.
    formatted (super_bytes c.args.sup.now) c.fresh_file.result (g.D.Disk.files c.args.disk.now 0).now (g.D.Disk.files c.sync.new.self 0).now (length-super c.args.sup.now) c.fresh_file.ensures
    ((c.sync.ensures.keeps tells).now ∙ c.in_ok-write.ensures.written tells)

pub returns-clause-next : goal.returns-clause-next
returns-clause-next g c = λ tells free.
    head_gate (super_bytes c.args.sup.now) 0 1 (g.D.Disk.files c.sync.new.self 0) refl (returns-clause-fresh g c tells) (c.in_ok-sync.ensures.solid tells)
    (λ k from. (c.sync.ensures.keeps tells).free k ((c.write.ensures.changes tells).free k (free k)))
