use Rattle.std.proofs.Common.{[], ◌∙◌}
use Rattle.hay_needle.specs.Super.{super_bytes}
use Rattle.hay_needle.proofs.Supers.{length-super}
use Rattle.hay_dirfile.proofs.JournalLaws.{formatted, sound}
use Rattle.hay_dirfile.proofs.journal.format.Goals as goal

pub returns-clause-empty : goal.returns-clause-empty
returns-clause-empty g c = λ tells.
    formatted (super_bytes c.args.sup.now) c.args.sup.now.settings.volumes c.empty_file.result (g.D.Disk.files c.args.disk.now 0).now (g.D.Disk.files c.sync.new.self 0).now
    (length-super c.args.sup.now) c.empty_file.ensures
    ((c.sync.ensures.keeps tells).now ∙ c.in_ok-write.ensures.written tells)

pub returns-clause-undamaged_now : goal.returns-clause-undamaged_now
returns-clause-undamaged_now g c = λ tells at.
    let file = (g.D.Disk.files c.sync.new.self 0).now in
    sound c.args.sup.now file [] at c.read_numbers.ensures
    (formatted (super_bytes c.args.sup.now) c.args.sup.now.settings.volumes c.empty_file.result (g.D.Disk.files c.args.disk.now 0).now file (length-super c.args.sup.now) c.empty_file.ensures
    ((c.sync.ensures.keeps tells).now ∙ c.in_ok-write.ensures.written tells))
