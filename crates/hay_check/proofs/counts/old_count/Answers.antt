use Rattle.std.proofs.Common.{◌≤◌, length, take, arith}
use Rattle.std.proofs.lemmas.List.{length-take-le}
use Rattle.std.proofs.lemmas.List.Sums.{count_by-le-length}
use Rattle.hay_needle.specs.declared.needle.CellHead.{CellHead}
use Rattle.hay_check.specs.Verdicts.{is_old}
use Rattle.hay_check.proofs.counts.old_count.Goals as goal

pub returns-clause-most : goal.returns-clause-most
returns-clause-most c =
    let first = take c.loop-head.head-index c.args.heads.now in
    let counts = c.loop-head.invariant in
    let few = count_by-le-length (λ (head : CellHead). is_old head.version) first in
    let within = length-take-le c.loop-head.head-index c.args.heads.now in
    omega (arith, counts, few, within)
