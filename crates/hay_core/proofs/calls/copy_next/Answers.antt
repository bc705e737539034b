use Rattle.std.proofs.Common.{◌≡◌, ◌+◌, ◌-◌, ◌<◌, ◌≤◌, ◌∷◌, List, length, drop, ap, sym, ◌∙◌, Some, true, false, arith}
use Rattle.hay_needle.specs.declared.needle.Needle.{Needle}
use Rattle.hay_needle.specs.Tables.{is_live}
use Rattle.hay_core.proofs.Lists.{next_left, none_left, rest_of}
use Rattle.hay_core.proofs.CopyCode.{pass_on, found, at_end}
use Rattle.hay_core.proofs.calls.copy_next.Goals as goal

pub returns-then-is_live : goal.returns-then-is_live
returns-then-is_live c =
    let ns = c.args.needles.now in
    let i = c.loop-i.i in
    let n = c.index-needles-i.result in
    let h : i < length ns = c.loop-i-test.true in
    let left : drop i ns ≡ n ∷ drop (i + 1) ns = next_left ns i n h c.index-needles-i.is in
    let live : is_live n (drop (i + 1) ns) ≡ true = ap (λ (xs : List Needle). is_live n xs) (sym (rest_of ns (i + 1))) ∙ sym c.is_live.ensures ∙ c.if-is_live.true in
    ap (λ (x : Needle). Some (record { needle = x; passed = i + 1 })) c.in_ok-needle.ensures.same
    ∙ sym (found c.args.budget i n (drop i ns) (drop (i + 1) ns) c.if-i-budget.false left live) ∙ c.loop-i.invariant

pub loop-i-preserved : goal.loop-i-preserved
loop-i-preserved c =
    let ns = c.args.needles.now in
    let i = c.loop-i.i in
    let n = c.index-needles-i.result in
    let h : i < length ns = c.loop-i-test.true in
    let left : drop i ns ≡ n ∷ drop (i + 1) ns = next_left ns i n h c.index-needles-i.is in
    let dead : is_live n (drop (i + 1) ns) ≡ false = ap (λ (xs : List Needle). is_live n xs) (sym (rest_of ns (i + 1))) ∙ sym c.is_live.ensures ∙ c.if-is_live.false in
    sym (pass_on c.args.budget i n (drop i ns) (drop (i + 1) ns) c.if-i-budget.false left dead) ∙ c.loop-i.invariant

pub returns : goal.returns
returns c =
    let h : length c.args.needles.now ≤ c.loop-i.i = omega (arith, c.loop-i-test.false) in
    sym (at_end (c.args.budget - c.loop-i.i) c.loop-i.i (drop c.loop-i.i c.args.needles.now) (none_left c.args.needles.now c.loop-i.i h)) ∙ c.loop-i.invariant
