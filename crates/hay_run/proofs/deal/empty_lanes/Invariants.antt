use Rattle.std.proofs.Common.{◌≡◌, [], vec_len}
use Rattle.std.specs.List.{AllByRecursion}
use Rattle.hay_run.proofs.deal.empty_lanes.Given as goal

abbrev pub invariant-loop : goal.invariant-loop
invariant-loop l = record {
  many : vec_len l.jobs ≡ l.counter;
  none : AllByRecursion (λ own. own.items ≡ []) l.jobs.items;
}
