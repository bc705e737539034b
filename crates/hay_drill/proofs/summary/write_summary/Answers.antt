use Rattle.std.proofs.Common.{◌++◌, ◌∙◌, ℕ, List, ap, codes, decimal, string_bytes}
use Rattle.hay_drill.specs.Summary.{one_number, two_numbers}
use Rattle.hay_drill.proofs.Texts.{join_nine, join_line}
use Rattle.hay_drill.proofs.summary.write_summary.Goals as goal

pub returns : goal.returns
returns c =
    let s = c.args.summary.now in
    join_nine (string_bytes c.args.out.now) (two_numbers (codes "drill") c.args.count c.args.first)
    (one_number (codes "stored") s.stored) (one_number (codes "deleted") s.deleted) (two_numbers (codes "photo") s.photos s.photo_bytes)
    (one_number (codes "gone") s.gone) (one_number (codes "flushed") s.flushed) (one_number (codes "compacted") s.compacted)
    (one_number (codes "rows") s.rows) (one_number (codes "other") s.other)
    (string_bytes c.writeln.new.self) (string_bytes c.writeln-2.new.self) (string_bytes c.writeln-3.new.self) (string_bytes c.writeln-4.new.self)
    (string_bytes c.writeln-5.new.self) (string_bytes c.writeln-6.new.self) (string_bytes c.writeln-7.new.self) (string_bytes c.writeln-8.new.self)
    (string_bytes c.writeln-9.new.self)
    (c.in_ok-writeln.ensures.bytes ∙ ap (λ (t : List ℕ). string_bytes c.args.out.now ++ t)
    (join_line (codes "drill ") (decimal c.args.count) (codes " ") (decimal c.args.first) (codes "\n")))
    c.in_ok-writeln-2.ensures.bytes c.in_ok-writeln-3.ensures.bytes
    (c.in_ok-writeln-4.ensures.bytes ∙ ap (λ (t : List ℕ). string_bytes c.writeln-3.new.self ++ t)
    (join_line (codes "photo ") (decimal s.photos) (codes " ") (decimal s.photo_bytes) (codes "\n")))
    c.in_ok-writeln-5.ensures.bytes c.in_ok-writeln-6.ensures.bytes c.in_ok-writeln-7.ensures.bytes c.in_ok-writeln-8.ensures.bytes
    c.in_ok-writeln-9.ensures.bytes
