use Rattle.std.proofs.Common.{◌≡◌, ◌+◌, ◌++◌, [], ◌∷◌, List, ℕ, length, drop, sym, ◌∙◌, ap, subst, arith}
use Rattle.std.proofs.lemmas.List.{nil_from_length}
use Rattle.hay_script.specs.declared.words.TheConstants.{MAX_SCRIPT}
use Rattle.hay_lines.specs.Stream.{rest_of}
use Rattle.hay_lines.specs.Lines.{Keeps}
use Rattle.hay_lines.proofs.Taking.{took_feed, took_whole, took_nothing_more, some_fed, NoFeed-append, kept_free, start_of-append, accounts_more, accounts_passed, budget_passed, reads_fed, reads_last}
use Rattle.hay_lines.proofs.lines.next_line.Goals as goal

pub read_fed-requires : goal.read_fed-requires
read_fed-requires g c = λ short.
    let inv = c.taking.invariant in
    let span = c.split_feed-fed.result.0.now in
    let all = inv.given ++ span in
    let keeps = c.in_ok-long.ensures inv.given inv.keeps in
    kept_free c.keep.new.line.items all (subst (λ long. Keeps long c.keep.new.line.items all) short keeps) (NoFeed-append inv.given span inv.free c.split_feed-fed.ensures.free)

pub returns-then-fed-clause-line : goal.returns-then-fed-clause-line
returns-then-fed-clause-line g c =
    let inv = c.taking.invariant in
    let left = g.S.Source.left in
    let before = rest_of (left c.args.source.now) c.args.bytes.now in
    let mid = rest_of (left c.taking.source) c.taking.bytes in
    let after = rest_of (left c.hold.new.source) c.pass.new.self in
    let span = c.split_feed-fed.result.0.now in
    let fed : c.hold.new.self.bytes ≡ span ++ 10 ∷ c.pass.new.self.bytes =
    sym c.held.ensures ∙ c.split_feed-fed.ensures.fed c.if-fed.true ∙ ap (λ (l : List ℕ). span ++ 10 ∷ l) (ap (λ (l : List ℕ). drop (length span + 1) l) c.held.ensures ∙ sym c.pass.ensures.bytes) in
    let took = took_feed (left c.hold.new.source) before mid c.hold.new.self c.pass.new.self inv.given span inv.took c.in_ok-hold.ensures.ok fed in
    rw c.read_fed.ensures.kind
    (reads_fed c.in_ok-long.long c.behind-start.result c.keep.new.line.items c.read_fed.new.line.items (inv.given ++ span) before took.0 after c.pass.new.self.ended
    (c.in_ok-long.ensures inv.given inv.keeps) (NoFeed-append inv.given span inv.free c.split_feed-fed.ensures.free)
    (c.behind-start.ensures ∙ start_of-append inv.given span c.taking.start inv.starts) c.read_fed.ensures.text took.1 took.2
    (c.pass.ensures.ended ∙ c.in_ok-hold.ensures.«open» (some_fed c.hold.new.self.bytes span c.pass.new.self.bytes fed)))

pub returns-then-count-eq0-clause-line : goal.returns-then-count-eq0-clause-line
returns-then-count-eq0-clause-line g c =
    let inv = c.taking.invariant in
    let left = g.S.Source.left in
    let before = rest_of (left c.args.source.now) c.args.bytes.now in
    let mid = rest_of (left c.taking.source) c.taking.bytes in
    let after = rest_of (left c.hold.new.source) c.hold.new.self in
    let span = c.split_feed-fed.result.0.now in
    let none : span ≡ [] = nil_from_length span c.if-count-eq0.true in
    let whole : span ≡ c.hold.new.self.bytes = c.split_feed-fed.ensures.whole c.if-fed.false ∙ c.held.ensures in
    let empty : c.hold.new.self.bytes ≡ [] = sym whole ∙ none in
    reads_last c.in_ok-long.long c.behind-start.result c.keep.new.line.items (inv.given ++ span) before mid after c.hold.new.self.ended c.read_last.result
    (c.in_ok-long.ensures inv.given inv.keeps) (NoFeed-append inv.given span inv.free c.split_feed-fed.ensures.free)
    (c.behind-start.ensures ∙ start_of-append inv.given span c.taking.start inv.starts)
    (took_nothing_more before mid inv.given span inv.took none) (c.in_ok-hold.ensures.end empty) (c.in_ok-hold.ensures.ended empty)
    c.read_last.ensures.long
    (λ short nothing. c.read_last.ensures.end short (c.as_slice.ensures.value ∙ nothing))
    (λ short some. c.read_last.ensures.kind short (λ nothing. some (sym c.as_slice.ensures.value ∙ nothing)))

pub taking-preserved : goal.taking-preserved
taking-preserved g c =
    let inv = c.taking.invariant in
    let left = g.S.Source.left in
    let before = rest_of (left c.args.source.now) c.args.bytes.now in
    let mid = rest_of (left c.taking.source) c.taking.bytes in
    let span = c.split_feed-fed.result.0.now in
    let held = c.hold.new.self in
    let passed = c.pass-in-taking.new.self in
    let whole : span ≡ held.bytes = c.split_feed-fed.ensures.whole c.if-fed.false ∙ c.held.ensures in
    record {
      given = inv.given ++ span;
      took = took_whole (left c.hold.new.source) before mid held passed inv.given span inv.took c.in_ok-hold.ensures.ok whole c.pass-in-taking.ensures.bytes;
      free = NoFeed-append inv.given span inv.free c.split_feed-fed.ensures.free;
      keeps = c.in_ok-long.ensures inv.given inv.keeps;
      starts = c.behind-start.ensures ∙ start_of-append inv.given span c.taking.start inv.starts;
      unmet = c.pass-in-taking.ensures.ended ∙ c.in_ok-hold.ensures.«open» (λ none. c.if-count-eq0.false (ap length (whole ∙ none)));
      accounts = accounts_passed (left c.args.source.now) (left c.hold.new.source) c.args.bytes.now held passed
          (accounts_more (left c.args.source.now) (left c.taking.source) (left c.hold.new.source) c.args.bytes.now c.taking.bytes held inv.accounts c.in_ok-hold.ensures.accounts)
          c.pass-in-taking.ensures.taken;
      less = omega (
        arith,
        inv.less,
        c.in_ok-hold.ensures.left,
        budget_passed MAX_SCRIPT (length span) held passed c.pass-in-taking.ensures.bytes c.pass-in-taking.ensures.taken c.pass-in-taking.ensures.ended,
      );
      count = omega (arith, inv.count, c.in_ok-hold.ensures.count);
    }
