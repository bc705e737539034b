use Rattle.std.proofs.Common.{◌≡◌, [], List, Vec, Global, sym, subst, arith}
use Rattle.std.specs.List.{AllByRecursion}
use Rattle.hay_block.specs.declared.worker.Job.{Job}
use Rattle.hay_run.proofs.Dealing.{each_pushed}
use Rattle.hay_run.proofs.deal.empty_lanes.Goals as goal

pub loop-preserved : goal.loop-preserved
loop-preserved c = record {
  many = omega (arith, c.loop.invariant.many, c.in_ok-push.ensures.len);
  none = subst (λ (l : List (Vec Job Global)). AllByRecursion (λ own. own.items ≡ []) l) (sym c.in_ok-push.ensures.items)
      (each_pushed (λ (own : Vec Job Global). own.items ≡ []) c.loop.jobs.items c.new.result c.loop.invariant.none c.new.ensures.items);
}
