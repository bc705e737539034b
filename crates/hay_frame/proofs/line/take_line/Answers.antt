use Rattle.std.proofs.Common.{◌≡◌, [], ◌∷◌, ◌++◌, List, ℕ, Option, subst, sym, arith}
use Rattle.hay_disk.specs.Streams.{Took}
use Rattle.hay_lines.specs.Lines.{NoFeed}
use Rattle.hay_lines.proofs.Taking.{NoFeed-append, took_more}
use Rattle.hay_frame.proofs.Taking.{one_more}
use Rattle.hay_frame.proofs.line.take_line.Goals as goal

pub returns-then-byte-eq-FEED-clause-line : goal.returns-then-byte-eq-FEED-clause-line
returns-then-byte-eq-FEED-clause-line g c =
    let mid : Option (List ℕ) = g.S.Source.left c.taking.source in
    let after : Option (List ℕ) = g.S.Source.left c.take_byte.new.source in
    let fed : Took mid (10 ∷ []) after = subst (λ (byte : ℕ). Took mid (byte ∷ []) after) c.if-byte-eq-FEED.true
    (c.in_ok-byte.ensures.some c.in-Some.byte c.in-Some.is) in
    (c.taking.invariant.free, took_more (g.S.Source.left c.args.source.now) mid after c.taking.line.items (10 ∷ []) c.taking.invariant.took fed)

pub returns-then-byte-eq-FEED-clause-taken : goal.returns-then-byte-eq-FEED-clause-taken
returns-then-byte-eq-FEED-clause-taken g c =
    one_more 28 (g.S.Source.left c.args.source.now) (g.S.Source.left c.taking.source) (g.S.Source.left c.take_byte.new.source) c.taking.line.items
    c.in-Some.byte
    c.taking.invariant.took (c.in_ok-byte.ensures.some c.in-Some.byte c.in-Some.is) (omega (arith, c.taking-test.true))

pub returns-in_err-push-clause-taken : goal.returns-in_err-push-clause-taken
returns-in_err-push-clause-taken g c =
    one_more 28 (g.S.Source.left c.args.source.now) (g.S.Source.left c.taking.source) (g.S.Source.left c.take_byte.new.source) c.taking.line.items
    c.in-Some.byte
    c.taking.invariant.took (c.in_ok-byte.ensures.some c.in-Some.byte c.in-Some.is) (omega (arith, c.taking-test.true))

pub taking-preserved : goal.taking-preserved
taking-preserved g c =
    let inv = c.taking.invariant in
    let before : Option (List ℕ) = g.S.Source.left c.args.source.now in
    let after : Option (List ℕ) = g.S.Source.left c.take_byte.new.source in
    let last : List ℕ = c.in-Some.byte ∷ [] in
    let kept : c.push.new.self.items ≡ c.taking.line.items ++ last = c.in_ok-push.ensures.items in
    record {
      took = subst (λ (bytes : List ℕ). Took before bytes after) (sym kept)
          (took_more before (g.S.Source.left c.taking.source) after c.taking.line.items last inv.took
          (c.in_ok-byte.ensures.some c.in-Some.byte c.in-Some.is));
      free = subst NoFeed (sym kept) (NoFeed-append c.taking.line.items last inv.free (c.if-byte-eq-FEED.false, tt));
      within = omega (arith, c.in_ok-push.ensures.len, c.taking-test.true);
      count = omega (arith, inv.count, c.take_byte.ensures.count);
    }
