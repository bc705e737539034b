use Rattle.std.proofs.Common.{◌≡◌, ◌++◌, List, map}
use Rattle.std.specs.Vec.Iter.{into_iter_items}
use Rattle.hay_legal.specs.Items.{InBlock}
use Rattle.hay_run.specs.Blocks.{AreJobs, ArePlaces}
use Rattle.hay_run.proofs.deal.deal_lines.Given as goal

abbrev pub invariant-loop-line : goal.invariant-loop-line
invariant-loop-line l = record {
  done : List InBlock;
  all : done ++ into_iter_items l.line-iterator ≡ l.fn.lines.items;
  jobs : AreJobs l.fn.lanes done (map (λ own. own.items) l.jobs.items);
  places : ArePlaces done l.places.items;
}
