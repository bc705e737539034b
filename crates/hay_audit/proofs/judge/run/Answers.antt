use Rattle.std.proofs.Common.{◌≡◌, ℕ, ◌<◌, ◌≤◌, List, [], length, drop, None, refl, ap, sym, subst, ◌∙◌, arith}
use Rattle.std.proofs.Math.ListN.{drop_of_length-le}
use Rattle.hay_script.specs.declared.Line.{Line}
use Rattle.hay_script.specs.Script.{line_of}
use Rattle.hay_audit_steps.specs.Judged.{IsUsed}
use Rattle.hay_audit_steps.specs.Boxes.{Has}
use Rattle.hay_audit.specs.declared.judge.Candidate.{Candidate}
use Rattle.hay_audit.specs.Behind.{IsBehind}
use Rattle.hay_audit.specs.Candidates.{AreKept, SaidBy, all_standing, standing}
use Rattle.hay_audit.proofs.Bounding.{behind_small}
use Rattle.hay_audit.proofs.Judging.{begin, is_lawful, is_unlawful_behind}
use Rattle.hay_audit.proofs.Walking.{ends_so, goes_so}
use Rattle.hay_audit.proofs.judge.run.Goals as goal

pub loop-at-init : goal.loop-at-init
loop-at-init c =
    subst (λ (cs : List Candidate). IsBehind c.args.settings.now c.args.script.now c.args.transcript.now (standing c.args.transcript.now c.args.first)
    (all_standing c.args.transcript.now cs) 1 0 c.args.script.now × AreKept c.args.settings.now c.args.transcript.now cs × (0 ≤ length c.args.script.now) × (1 ≤ 1) × (0 < 1))
    (sym c.in_ok-candidates.ensures) (
      begin c.args.settings.now c.args.script.now c.args.transcript.now (standing c.args.transcript.now c.args.first) c.requires.begins (c.requires.kept).of,
      (c.requires.kept, tt),
      omega arith,
      omega arith,
      omega arith,
    )

pub walk_line-requires-clause-small : goal.walk_line-requires-clause-small
walk_line-requires-clause-small c =
    behind_small c.args.settings.now c.args.script.now c.args.transcript.now (standing c.args.transcript.now c.args.first) c.loop-at.candidates c.loop-at.number c.loop-at.turns
    (drop c.loop-at.at c.args.script.now)
    (c.loop-at.invariant).0 (c.loop-at.invariant).1 (omega (arith, c.requires.long, c.loop-at-test.true, (c.loop-at.invariant).3, (c.loop-at.invariant).4))

pub returns-in-Ends : goal.returns-in-Ends
returns-in-Ends c =
    let said : c.in_ok-read_line.field-0 ≡ line_of None c.in_ok-text.text.items = c.in_ok-read_line.ensures.said ∙ ap (λ (t : List ℕ). line_of None t) c.as_slice.ensures.value in
    ends_so c.args.settings.now c.args.script.now c.args.transcript.now (standing c.args.transcript.now c.args.first) c.loop-at.candidates c.loop-at.number c.loop-at.turns
    c.said_by-said.result (drop c.loop-at.at c.args.script.now) c.in_ok-text.text.items (drop c.in_ok-text.behind c.args.script.now) c.in_ok-judgement.field-0
    c.in-Ends.judgement c.in_ok-judgement.ensures c.in-Ends.is (c.loop-at.invariant).0 c.in_ok-text.ensures.line (subst (λ (l : Line). SaidBy l c.said_by-said.result) said c.said_by-said.ensures)

pub loop-at-preserved : goal.loop-at-preserved
loop-at-preserved c =
    let said : c.in_ok-read_line.field-0 ≡ line_of None c.in_ok-text.text.items = c.in_ok-read_line.ensures.said ∙ ap (λ (t : List ℕ). line_of None t) c.as_slice.ensures.value in
    let on =
    goes_so c.args.settings.now c.args.script.now c.args.transcript.now (standing c.args.transcript.now c.args.first) c.loop-at.candidates c.loop-at.number c.loop-at.turns
    c.said_by-said.result (drop c.loop-at.at c.args.script.now) c.in_ok-text.text.items (drop c.in_ok-text.behind c.args.script.now) c.in_ok-judgement.field-0 c.in-On.next
    c.in-On.more c.in_ok-judgement.ensures c.in-On.is (c.loop-at.invariant).0 c.in_ok-text.ensures.line (subst (λ (l : Line). SaidBy l c.said_by-said.result) said c.said_by-said.ensures) in (
      on.0,
      on.1,
      c.in_ok-text.ensures.behind.1,
      omega (arith, (c.loop-at.invariant).3, c.in_ok-text.ensures.behind.0),
      omega (arith, (c.loop-at.invariant).4, on.2),
    )

pub returns-then-is_used : goal.returns-then-is_used
returns-then-is_used c =
    let none : drop c.loop-at.at c.args.script.now ≡ [] = drop_of_length-le c.args.script.now (omega (arith, c.loop-at-test.false, (c.loop-at.invariant).2)) in
    let behind : IsBehind c.args.settings.now c.args.script.now c.args.transcript.now (standing c.args.transcript.now c.args.first)
    (all_standing c.args.transcript.now c.loop-at.candidates) c.loop-at.number c.loop-at.turns [] =
    subst (λ (xs : List ℕ). IsBehind c.args.settings.now c.args.script.now c.args.transcript.now (standing c.args.transcript.now c.args.first)
    (all_standing c.args.transcript.now c.loop-at.candidates) c.loop-at.number c.loop-at.turns xs) none (c.loop-at.invariant).0 in
    is_lawful c.args.settings.now c.args.script.now c.args.transcript.now (standing c.args.transcript.now c.args.first) (all_standing c.args.transcript.now c.loop-at.candidates)
    c.loop-at.number c.loop-at.turns behind
    (subst (λ (xs : List Candidate). IsUsed Has (all_standing c.args.transcript.now xs)) c.as_slice-2.ensures (c.if-is_used.ensures.yes refl))

pub returns : goal.returns
returns c =
    let none : drop c.loop-at.at c.args.script.now ≡ [] = drop_of_length-le c.args.script.now (omega (arith, c.loop-at-test.false, (c.loop-at.invariant).2)) in
    let behind : IsBehind c.args.settings.now c.args.script.now c.args.transcript.now (standing c.args.transcript.now c.args.first)
    (all_standing c.args.transcript.now c.loop-at.candidates) c.loop-at.number c.loop-at.turns [] =
    subst (λ (xs : List ℕ). IsBehind c.args.settings.now c.args.script.now c.args.transcript.now (standing c.args.transcript.now c.args.first)
    (all_standing c.args.transcript.now c.loop-at.candidates) c.loop-at.number c.loop-at.turns xs) none (c.loop-at.invariant).0 in
    is_unlawful_behind c.args.settings.now c.args.script.now c.args.transcript.now (standing c.args.transcript.now c.args.first)
    (all_standing c.args.transcript.now c.loop-at.candidates) c.loop-at.number c.loop-at.turns behind
    (λ used. c.if-is_used.ensures.no refl (subst (λ (xs : List Candidate). IsUsed Has (all_standing c.args.transcript.now xs)) (sym c.as_slice-2.ensures) used))
