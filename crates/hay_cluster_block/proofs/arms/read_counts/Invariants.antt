use Rattle.std.proofs.Common.{◌-◌, ◌≤◌, ◌^◌, take}
use Rattle.std.specs.List.{AllByRecursion}
use Rattle.hay_cluster_block.proofs.arms.read_counts.Given as goal

abbrev pub invariant-loop-arm : goal.invariant-loop-arm
invariant-loop-arm g l = AllByRecursion (λ arm. g.A.Arm.fault_count arm ≤ 2 ^ 64 - 1) (take l.arm-index l.arms)
