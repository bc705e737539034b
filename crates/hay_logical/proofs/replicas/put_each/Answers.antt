use Rattle.hay_physical.specs.Replicas as physical
use Rattle.std.proofs.Common.{inl, inr, sym, subst}
use Rattle.hay_logical.specs.ReplicaCalls.{EndsRuns, KeepsFiles, PutLeaves}
use Rattle.hay_logical.specs.Refusals.{IsUntouched}
use Rattle.hay_logical.specs.Volumes.{KeepsCounts}
use Rattle.hay_logical.specs.Fits.{At}
use Rattle.hay_logical.proofs.Dropping.{counts_on, ends_on, reach_on, not_untouched, put_leaves_on, untouched_back}
use Rattle.hay_logical.proofs.Lists.{at_below}
use Rattle.std.proofs.Common.{◌≡◌, ℕ}
use Rattle.hay_physical.specs.OpenCopies.{Copy}
use Rattle.hay_logical.specs.Seen.{replica_seen}
use Rattle.hay_logical.proofs.replicas.put_each.Goals as goal
use Rattle.hay_logical.proofs.replicas.put_each.Goals.{then-not-is_untouched, else-not-is_untouched}

pub is_untouched-requires : goal.is_untouched-requires
is_untouched-requires g c =
    let left = c.in-Err.ensures.broken in
    at_below c.put_in_order.new.replicas c.in-Err.broken.at left.after left.is

pub returns-after-not-is_untouched-clause-counts : goal.returns-after-not-is_untouched-clause-counts
returns-after-not-is_untouched-clause-counts g c = elim c.if-not-is_untouched.branch [
  | then-not-is_untouched w ↦
      subst (λ rs. KeepsCounts g.D.Disk.fault_count g.D.Disk.fuse_count c.args.replicas.now rs) (sym w.replicas-is)
      (counts_on g.D.Disk.Tells g.D.Disk.files g.D.Disk.fault_count c.args.replicas.now c.put_in_order.new.replicas w.drop_runs.new.replicas w.drop_runs.ensures.count w.drop_runs.ensures.each
      g.D.Disk.fuse_count c.put_in_order.ensures.counts)
  | else-not-is_untouched w ↦ subst (λ rs. KeepsCounts g.D.Disk.fault_count g.D.Disk.fuse_count c.args.replicas.now rs) (sym w.replicas-is) c.put_in_order.ensures.counts
]

pub returns-after-not-is_untouched-clause-reach : goal.returns-after-not-is_untouched-clause-reach
returns-after-not-is_untouched-clause-reach g c = λ j r r' e f. elim c.if-not-is_untouched.branch [
  | then-not-is_untouched w ↦
      reach_on g.D.Disk.Tells g.D.Disk.files g.D.Disk.fault_count c.args.replicas.now c.put_in_order.new.replicas w.drop_runs.new.replicas w.drop_runs.ensures.count w.drop_runs.ensures.each
      (λ i. physical.Anywhere) c.put_in_order.ensures.reach j r r' e (subst (λ rs. At rs j r') w.replicas-is f)
  | else-not-is_untouched w ↦ c.put_in_order.ensures.reach j r r' e (subst (λ rs. At rs j r') w.replicas-is f)
]

pub returns-after-not-is_untouched-clause-ends : goal.returns-after-not-is_untouched-clause-ends
returns-after-not-is_untouched-clause-ends g c = λ j r r' e f. elim c.if-not-is_untouched.branch [
  | then-not-is_untouched w ↦
      ends_on g.D.Disk.Tells g.D.Disk.files g.D.Disk.fault_count c.args.replicas.now c.put_in_order.new.replicas w.drop_runs.new.replicas w.drop_runs.ensures.count w.drop_runs.ensures.each
      c.put_in_order.ensures.ends j r r' e (subst (λ rs. At rs j r') w.replicas-is f)
  | else-not-is_untouched w ↦ c.put_in_order.ensures.ends j r r' e (subst (λ rs. At rs j r') w.replicas-is f)
]

pub returns-after-not-is_untouched-clause-broken : goal.returns-after-not-is_untouched-clause-broken
returns-after-not-is_untouched-clause-broken g c = elim c.if-not-is_untouched.branch [
  | then-not-is_untouched w ↦
      subst (λ rs. PutLeaves g.D.Disk.Tells g.D.Disk.files g.D.Disk.fault_count c.args.pair c.args.cookie c.args.bytes.now c.args.replicas.now rs c.in-Err.broken) (sym w.replicas-is)
      (put_leaves_on g.D.Disk.Tells g.D.Disk.files g.D.Disk.fault_count c.args.replicas.now c.put_in_order.new.replicas w.drop_runs.new.replicas w.drop_runs.ensures.count w.drop_runs.ensures.each
      c.args.pair c.args.cookie c.args.bytes.now c.in-Err.broken c.in-Err.ensures.broken)
  | else-not-is_untouched w ↦
      subst (λ rs. PutLeaves g.D.Disk.Tells g.D.Disk.files g.D.Disk.fault_count c.args.pair c.args.cookie c.args.bytes.now c.args.replicas.now rs c.in-Err.broken)
      (sym w.replicas-is) c.in-Err.ensures.broken
]

pub returns-after-not-is_untouched-clause-runs : goal.returns-after-not-is_untouched-clause-runs
returns-after-not-is_untouched-clause-runs g c = elim c.if-not-is_untouched.branch [
  | then-not-is_untouched w ↦ subst (λ rs. EndsRuns g.D.Disk.Tells g.D.Disk.files c.args.replicas.now rs c.in-Err.broken) (sym w.replicas-is) (inr (
    w.drop_runs.ensures.idle,
    λ un. not_untouched c.put_in_order.new.replicas c.in-Err.broken (λ e f r there. c.is_untouched.ensures.touched w.if-not-is_untouched.true e f r there)
        (untouched_back g.D.Disk.Tells g.D.Disk.files g.D.Disk.fault_count c.args.replicas.now c.put_in_order.new.replicas w.drop_runs.new.replicas w.drop_runs.ensures.count
        w.drop_runs.ensures.each c.in-Err.broken un),
  ))
  | else-not-is_untouched w ↦
      subst (λ rs. EndsRuns g.D.Disk.Tells g.D.Disk.files c.args.replicas.now rs c.in-Err.broken) (sym w.replicas-is)
      (inl (record { is = c.is_untouched.ensures.untouched w.if-not-is_untouched.false; above = c.in-Err.ensures.others; there = c.in-Err.ensures.run }))
]

pub returns-after-not-is_untouched-clause-untouched : goal.returns-after-not-is_untouched-clause-untouched
returns-after-not-is_untouched-clause-untouched g c = elim c.if-not-is_untouched.branch [
  | then-not-is_untouched w ↦ λ un. absurd (
      not_untouched c.put_in_order.new.replicas c.in-Err.broken (λ e f r there. c.is_untouched.ensures.touched w.if-not-is_untouched.true e f r there)
      (untouched_back g.D.Disk.Tells g.D.Disk.files g.D.Disk.fault_count c.args.replicas.now c.put_in_order.new.replicas w.drop_runs.new.replicas w.drop_runs.ensures.count
      w.drop_runs.ensures.each c.in-Err.broken
      (subst (λ rs. IsUntouched rs c.in-Err.broken) w.replicas-is un))
      )
  | else-not-is_untouched w ↦
      subst (λ rs. IsUntouched rs c.in-Err.broken → KeepsFiles g.D.Disk.Tells g.D.Disk.files c.args.replicas.now rs) (sym w.replicas-is) c.in-Err.ensures.untouched
]

pub returns-after-not-is_untouched-clause-refused_seen : goal.returns-after-not-is_untouched-clause-refused_seen
returns-after-not-is_untouched-clause-refused_seen g c = elim c.if-not-is_untouched.branch [
  | then-not-is_untouched w ↦ λ un. absurd (
      not_untouched c.put_in_order.new.replicas c.in-Err.broken (λ e f r there. c.is_untouched.ensures.touched w.if-not-is_untouched.true e f r there)
      (untouched_back g.D.Disk.Tells g.D.Disk.files g.D.Disk.fault_count c.args.replicas.now c.put_in_order.new.replicas w.drop_runs.new.replicas w.drop_runs.ensures.count
      w.drop_runs.ensures.each c.in-Err.broken
      (subst (λ rs. IsUntouched rs c.in-Err.broken) w.replicas-is un))
      )
  | else-not-is_untouched w ↦
      subst (λ rs. IsUntouched rs c.in-Err.broken → (j : ℕ) (r r' : Copy g.row.D.Denot) → At c.args.replicas.now j r → At rs j r' → replica_seen r' ≡ replica_seen r)
      (sym w.replicas-is) c.in-Err.ensures.refused_seen
]
