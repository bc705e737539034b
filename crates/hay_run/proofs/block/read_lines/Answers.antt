use Rattle.std.proofs.Common.{◌++◌, ℕ, Some, [], ◌∷◌, refl, sym, subst, ◌∙◌, arith}
use Rattle.std.proofs.lemmas.Result.{err_from_is_err_and}
use Rattle.hay_lines.specs.Stream.{rest_of}
use Rattle.hay_lines.specs.Said.{SaysNext}
use Rattle.hay_lines.proofs.Taking.{took_nothing, took_fed_more, accounts_same, accounts_more}
use Rattle.hay_run.specs.Blocks.{IsBlockOf}
use Rattle.hay_run.proofs.Serving.{either_stop}
use Rattle.hay_run.proofs.Asking.{asked_more, some_more, some_feeds, some_line, block_ended, block_closed, block_over, fed_line, length-push}
use Rattle.hay_run.proofs.block.read_lines.Goals as goal

pub lines-init : goal.lines-init
lines-init g c = record {
  texts = [];
  feeds = took_nothing (rest_of (g.S.Source.left c.args.source.now) c.args.script.now);
  nothing = refl;
  behind = refl;
  next_is = omega arith;
  below = c.requires.below;
  lanes = refl;
  unmet = c.requires.open;
  accounts = accounts_same (g.S.Source.left c.args.source.now) c.args.script.now;
  few = omega arith;
  less = omega arith;
  count = omega arith;
}

pub returns-in_err-said-clause-memory : goal.returns-in_err-said-clause-memory
returns-in_err-said-clause-memory g c = λ is.
    let left = g.S.Source.left in
    let before = rest_of (left c.args.source.now) c.args.script.now in
    let mid = rest_of (left c.lines.source) c.lines.script in
    some_more before mid (rest_of (left c.next_said.new.source) c.next_said.new.script)
    (some_feeds c.lines.invariant.texts before mid c.lines.invariant.feeds)
    (c.in_err-said.ensures.memory (let p = err_from_is_err_and c.from_residual.result c.from_residual.ensures.1 in cc (p.1, p.2)))

pub returns-in_default-clause-read : goal.returns-in_default-clause-read
returns-in_default-clause-read g c =
    let inv = c.lines.invariant in
    let left = g.S.Source.left in
    block_ended inv.texts c.args.number c.lines.next c.args.block c.lines.block
    (rest_of (left c.args.source.now) c.args.script.now) (rest_of (left c.lines.source) c.lines.script) (rest_of (left c.next_said.new.source) c.next_said.new.script) c.next_said.new.script.ended
    inv.feeds inv.nothing inv.behind inv.next_is (rw c.in_default.is at c.in_ok-said.ensures.said)

pub returns-in_err-closed-clause-memory : goal.returns-in_err-closed-clause-memory
returns-in_err-closed-clause-memory g c = λ _.
    let left = g.S.Source.left in
    let before = rest_of (left c.args.source.now) c.args.script.now in
    let mid = rest_of (left c.lines.source) c.lines.script in
    let after = rest_of (left c.next_said.new.source) c.next_said.new.script in
    let says = rw c.in-Some.is at c.in_ok-said.ensures.said in
    some_more before mid after (some_feeds c.lines.invariant.texts before mid c.lines.invariant.feeds)
    (some_line mid after says.0 c.next_said.new.script.ended says.1)

pub returns-then-closed-clause-read : goal.returns-then-closed-clause-read
returns-then-closed-clause-read g c =
    let inv = c.lines.invariant in
    let left = g.S.Source.left in
    let mid = rest_of (left c.lines.source) c.lines.script in
    let after = rest_of (left c.next_said.new.source) c.next_said.new.script in
    let says : SaysNext (Some c.lines.block.lanes) (Some c.in-Some.said) mid after c.next_said.new.script.ended = rw c.lanes.ensures at (rw c.in-Some.is at c.in_ok-said.ensures.said) in
    block_closed inv.texts c.args.number c.lines.next c.args.block c.lines.block c.take.new.self c.in-Some.said
    (rest_of (left c.args.source.now) c.args.script.now) mid after c.next_said.new.script.ended
    inv.feeds inv.nothing inv.behind inv.next_is says (c.in_ok-closed.ensures.closed (rw c.if-closed.true refl))

pub returns-then-is_ended-clause-read : goal.returns-then-is_ended-clause-read
returns-then-is_ended-clause-read g c =
    let inv = c.lines.invariant in
    let left = g.S.Source.left in
    let mid = rest_of (left c.lines.source) c.lines.script in
    let after = rest_of (left c.next_said.new.source) c.next_said.new.script in
    let says : SaysNext (Some c.lines.block.lanes) (Some c.in-Some.said) mid after c.next_said.new.script.ended = rw c.lanes.ensures at (rw c.in-Some.is at c.in_ok-said.ensures.said) in
    block_over inv.texts c.args.number c.lines.next c.args.block c.lines.block c.take.new.self c.in-Some.said
    (rest_of (left c.args.source.now) c.args.script.now) mid after c.next_said.new.script.ended
    inv.feeds inv.nothing inv.behind inv.next_is says (c.in_ok-closed.ensures.«open» (rw c.if-closed.false refl)) (sym c.is_ended.ensures ∙ c.if-is_ended.true)

pub lines-preserved : goal.lines-preserved
lines-preserved g c =
    let inv = c.lines.invariant in
    let left = g.S.Source.left in
    let before = rest_of (left c.args.source.now) c.args.script.now in
    let mid = rest_of (left c.lines.source) c.lines.script in
    let after = rest_of (left c.next_said.new.source) c.next_said.new.script in
    let says : SaysNext (Some c.lines.block.lanes) (Some c.in-Some.said) mid after c.next_said.new.script.ended = rw c.lanes.ensures at (rw c.in-Some.is at c.in_ok-said.ensures.said) in
    let adds = c.in_ok-closed.ensures.«open» (rw c.if-closed.false refl) in
    let unmet = sym c.is_ended.ensures ∙ c.if-is_ended.false in
    let more =
    asked_more inv.texts says.0 c.args.number c.lines.next (Some c.args.block) (Some c.lines.block) c.in-Some.said [] [] (Some c.take.new.self) inv.nothing inv.behind inv.next_is says.2 adds in
    record {
      texts = inv.texts ++ says.0 ∷ [];
      feeds = took_fed_more inv.texts before mid after says.0 inv.feeds (fed_line mid after says.0 c.next_said.new.script.ended says.1 unmet);
      nothing = more.0;
      behind = more.1;
      next_is = length-push inv.texts says.0 c.args.number c.lines.next inv.next_is;
      below = c.in_ok-closed.ensures.below;
      lanes = c.in_ok-closed.ensures.lanes ∙ inv.lanes;
      unmet = unmet;
      accounts =
          accounts_more (left c.args.source.now) (left c.lines.source) (left c.next_said.new.source) c.args.script.now c.lines.script c.next_said.new.script inv.accounts c.in_ok-said.ensures.accounts;
      few = omega (arith, inv.few, c.in_ok-said.ensures.left);
      less = omega (arith, inv.less, c.in_ok-said.ensures.left);
      count = omega (arith, inv.count, c.in_ok-said.ensures.count);
    }

pub returns-in_err-said-clause-stopped_accounts : goal.returns-in_err-said-clause-stopped_accounts
returns-in_err-said-clause-stopped_accounts g c = λ is.
    let left = g.S.Source.left in
    accounts_more (left c.args.source.now) (left c.lines.source) (left c.next_said.new.source) c.args.script.now c.lines.script c.next_said.new.script c.lines.invariant.accounts
    (let p = err_from_is_err_and c.from_residual.result c.from_residual.ensures.1 in
    c.next_said.ensures.stopped_accounts (either_stop c.next_said.result c.from_residual.result c.in_err-said.field-0.0 c.in_err-said.was (cc (p.1, p.2)) is))

pub returns-in_err-closed-clause-stopped_accounts : goal.returns-in_err-closed-clause-stopped_accounts
returns-in_err-closed-clause-stopped_accounts g c = λ is.
    let left = g.S.Source.left in
    accounts_more (left c.args.source.now) (left c.lines.source) (left c.next_said.new.source) c.args.script.now c.lines.script c.next_said.new.script c.lines.invariant.accounts
    c.in_ok-said.ensures.accounts

-- what the lines are

pub take-requires-clause-below : goal.take-requires-clause-below
take-requires-clause-below g c = c.lines.invariant.below

pub take-requires-clause-within : goal.take-requires-clause-within
take-requires-clause-within g c = rw c.in-Some.is at c.in_ok-said.ensures.within

pub take-requires-clause-says : goal.take-requires-clause-says
take-requires-clause-says g c =
    let left = g.S.Source.left in
    let mid = rest_of (left c.lines.source) c.lines.script in
    let after = rest_of (left c.next_said.new.source) c.next_said.new.script in
    let says : SaysNext (Some c.lines.block.lanes) (Some c.in-Some.said) mid after c.next_said.new.script.ended = rw c.lanes.ensures at (rw c.in-Some.is at c.in_ok-said.ensures.said) in
    (says.0, says.2)

pub returns-in_default-clause-lines : goal.returns-in_default-clause-lines
returns-in_default-clause-lines g c =
    let inv = c.lines.invariant in (subst (λ (n : ℕ). IsBlockOf n c.lines.block.lines) inv.lanes inv.below.lines, inv.lanes)

pub returns-then-closed-clause-lines : goal.returns-then-closed-clause-lines
returns-then-closed-clause-lines g c =
    let same = c.in_ok-closed.ensures.lanes ∙ c.lines.invariant.lanes in (subst (λ (n : ℕ). IsBlockOf n c.take.new.self.lines) same c.in_ok-closed.ensures.below.lines, same)

pub returns-then-is_ended-clause-lines : goal.returns-then-is_ended-clause-lines
returns-then-is_ended-clause-lines g c =
    let same = c.in_ok-closed.ensures.lanes ∙ c.lines.invariant.lanes in (subst (λ (n : ℕ). IsBlockOf n c.take.new.self.lines) same c.in_ok-closed.ensures.below.lines, same)
