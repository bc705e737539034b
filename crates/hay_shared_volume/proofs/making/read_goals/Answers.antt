use Rattle.std.proofs.Common.{◌≡◌, ◌≤◌, ◌∙◌, ℕ, Option, Some, option_map, ap, subst, arith}
use Rattle.std.specs.Prelude.{IfSome}
use borrow.Author.Count.{below_more}
use Rattle.hay_needle.specs.declared.settings.TheConstants.{LAST_GENERATION}
use Rattle.hay_legal.specs.declared.known.Run.{Run}
use Rattle.hay_legal.specs.Known.{replica_at}
use Rattle.hay_shared_volume.proofs.making.read_goals.Goals as goal

-- a compaction that stands makes a generation that there may be
goal_most : (answer : Option ℕ) (known : Option Run) → answer ≡ option_map (λ run. run.goal) known → IfSome answer (λ goal. goal ≤ LAST_GENERATION) → (run : Run) → known ≡ Some run
    → run.goal ≤ LAST_GENERATION
goal_most answer known is most run stands =
    let same : answer ≡ Some run.goal = is ∙ ap (option_map (λ (r : Run). r.goal)) stands in
    subst (λ (o : Option ℕ). IfSome o (λ goal. goal ≤ LAST_GENERATION)) same most

pub loop-replica-init : goal.loop-replica-init
loop-replica-init g c tells k stands j less = absurd (omega (arith, less))

pub loop-replica-preserved : goal.loop-replica-preserved
loop-replica-preserved g c tells k stands =
    let i : ℕ = c.loop-replica.replica in
    below_more (λ j. (run : Run) → (replica_at k j).run ≡ Some run → run.goal ≤ LAST_GENERATION) i (c.loop-replica.invariant tells k stands)
    (goal_most c.standing-goal.result (replica_at k i).run (c.standing-goal.ensures.known tells k stands) c.standing-goal.ensures.most)

pub returns : goal.returns
returns g c tells k stands j less = c.loop-replica.invariant tells k stands j (omega (arith, less, c.loop-replica-test.false))
