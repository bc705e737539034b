use Rattle.std.proofs.Common.{◌≤◌, ◌++◌, List, length, ap, sym, ◌∙◌, arith}
use Rattle.std.proofs.lemmas.List.{append-nil}
use Rattle.hay_core.specs.declared.machine.Side.{Side}
use Rattle.hay_core.proofs.Lists.{none_left}
use Rattle.hay_core.proofs.OpenCode.{from_here, from_first}
use Rattle.hay_core.proofs.readers.with_opened.Goals as goal

pub returns : goal.returns
returns c =
    let list = c.args.list.now in
    let j = c.args.replica in
    let i = c.loop-i.i in
    let over : length list ≤ i = omega (arith, c.loop-i-test.false) in
    sym (append-nil c.loop-i.next)
    ∙ ap (λ (sides : List Side). c.loop-i.next ++ from_here j i sides) (sym (none_left list i over))
    ∙ c.loop-i.invariant ∙ from_first j list
