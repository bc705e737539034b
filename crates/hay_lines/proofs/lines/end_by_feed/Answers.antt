use Rattle.std.proofs.Common.{◌∙◌, ◌-◌, sym, arith}
use Rattle.std.proofs.lemmas.List.{get_or_read}
use Rattle.hay_lines.proofs.Taking.{fed_text-return, fed_text-other}
use Rattle.hay_lines.proofs.lines.end_by_feed.Goals as goal

pub returns-then-index-eq13 : goal.returns-then-index-eq13
returns-then-index-eq13 c =
    let line = c.args.line.now in
    let read = get_or_read line.items (c.len-length.result - 1) c.index.result.now (omega (arith, line.ok.0)) c.index.ensures 0 in
    fed_text-return line.items (c.len-length.result - 1) c.requires (omega (arith, line.ok.0)) (sym read ∙ c.if-index-eq13.true)

pub returns-else-index-eq13 : goal.returns-else-index-eq13
returns-else-index-eq13 c =
    let line = c.args.line.now in
    let read = get_or_read line.items (c.len-length.result - 1) c.index.result.now (omega (arith, line.ok.0)) c.index.ensures 0 in
    fed_text-other line.items (c.len-length.result - 1) c.requires (omega (arith, line.ok.0)) (λ same. c.if-index-eq13.false (read ∙ same))
