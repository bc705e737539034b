use Rattle.std.proofs.Common.{List, ℕ, [], ◌∷◌, length, ap, ◌∙◌, arith}
use Rattle.std.proofs.lemmas.List.{length-append}
use Rattle.hay_audit.proofs.Lines.{line_more}
use Rattle.hay_audit.proofs.items.next_line.Goals as goal

pub loop-i-preserved : goal.loop-i-preserved
loop-i-preserved c = (
  (c.loop-i.invariant).0
      ∙ line_more c.args.script.now c.loop-i.line.items c.push.new.self.items c.loop-i.i c.byte_at.result c.loop-i-test.true c.if-script-i-eq10.false c.byte_at.ensures c.in_ok-push.ensures.items,
  omega (arith, (c.loop-i.invariant).1, ap (λ (xs : List ℕ). length xs) c.in_ok-push.ensures.items, length-append c.loop-i.line.items (c.byte_at.result ∷ [])),
)
