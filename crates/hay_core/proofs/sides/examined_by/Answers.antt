use Rattle.std.proofs.Common.{◌≡◌, ℕ, ◌+◌, ◌≤◌, length, Option, Some, ap, sym, ◌∙◌, arith}
use Rattle.hay_core.specs.Sides.{examined_more}
use Rattle.hay_core.proofs.RoomLaws.{examined_fits}
use Rattle.hay_core.proofs.sides.examined_by.Goals as goal

pub returns-in-Some : goal.returns-in-Some
returns-in-Some c =
    let s = c.args.side.now in
    let x = c.args.copied.now in
    let n = c.in-Some.examined in
    let fits : n + x.passed ≤ length s.current = examined_fits c.args.work.now s s.progress c.args.call.now n x c.requires.next c.in-Some.is c.requires.copies in
    let sum : c.min.result ≡ n + x.passed = omega (arith, fits, c.min.ensures, c.saturating_add.ensures, c.len.ensures, c.len.type_inv) in
    ap (λ (k : ℕ). Some k) sum ∙ sym (ap (λ (o : Option ℕ). examined_more o x.passed) c.in-Some.is)
