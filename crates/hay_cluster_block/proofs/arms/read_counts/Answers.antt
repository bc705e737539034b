use Rattle.std.proofs.Common.{rules, ◌≡◌, ◌+◌, ◌-◌, ◌≤◌, ◌^◌, ℕ, suc, take, sym, ap, subst, ◌∙◌, arith, Some}
use Rattle.std.specs.List.{AllByRecursion}
use Rattle.std.proofs.lemmas.Option.{slice_get-get_or}
use Rattle.hay_block.proofs.Lists.{each_more}
use Rattle.hay_cluster_block.proofs.arms.read_counts.Goals as goal

pub loop-arm-preserved : goal.loop-arm-preserved
loop-arm-preserved g c =
    let i : ℕ = c.loop-arm.arm-index in
    let next : suc i ≡ i + 1 = omega arith in
    let Small : g.row.A.Denot → Type 0 = λ arm. g.A.Arm.fault_count arm ≤ 2 ^ 64 - 1 in
    let small : g.A.Arm.fault_count c.arm-item.result ≤ 2 ^ 64 - 1 = search rules in
    subst (λ n. AllByRecursion Small (take n c.args.arms.now)) next
    (each_more Small c.args.arms.now i c.arm-item.result (slice_get-get_or c.args.arms.now i c.arm-item.result c.loop-arm-test.true ∙ ap Some (sym c.arm-item.is)) c.loop-arm.invariant small)
