use Rattle.std.proofs.Common.{◌+◌, ap, sym, ◌∙◌}
use Rattle.hay_index.proofs.RowLaws.{behind_last}
use Rattle.hay_index.proofs.reading.next_place.Goals as goal

pub returns-in-Some : goal.returns-in-Some
returns-in-Some c = ap (λ n. c.in-Some.last.now.at + n) c.total_of.ensures ∙ sym (behind_last 64 c.args.records.now c.in-Some.last.now c.requires (sym c.in-Some.ensures.value))
