use Rattle.std.proofs.Common.{◌≡◌, ◌<◌, ◌^◌, ℕ, Option, subst}
use Rattle.std.specs.Prelude.{IfSome}
use Rattle.hay_audit.specs.Wants.{wanting_text}
use Rattle.hay_audit.proofs.Wanting.{one_wants}
use Rattle.hay_audit.proofs.wants.add.Goals as goal

pub returns : goal.returns
returns c =
    let is : c.args.text.now ≡ wanting_text c.in-Some.line = subst (λ (o : Option ℕ). IfSome o (λ n. c.args.text.now ≡ wanting_text n)) c.in-Some.is c.in_ok-line.ensures.some in
    let below : c.in-Some.line < 2 ^ 64 = subst (λ (o : Option ℕ). IfSome o (λ n. n < 2 ^ 64)) c.in-Some.is c.in_ok-line.ensures.below in
    one_wants c.args.text.now c.in-Some.line c.args.lines.now c.insert.new.self below is (c.in_ok-insert.ensures.updates).0
