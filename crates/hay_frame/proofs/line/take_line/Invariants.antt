use Rattle.std.proofs.Common.{◌-◌, ◌≤◌, vec_len}
use Rattle.hay_disk.specs.Streams.{Took}
use Rattle.hay_lines.specs.Lines.{NoFeed}
use Rattle.hay_frame.proofs.line.take_line.Given as goal

abbrev pub invariant-taking : goal.invariant-taking
invariant-taking g l = record {
  took : Took (g.S.Source.left l.fn.source) l.line.items (g.S.Source.left l.source);
  free : NoFeed l.line.items;
  within : vec_len l.line ≤ 28;
  count : g.S.Source.fault_count l.fn.source ≤ g.S.Source.fault_count l.source;
}

abbrev pub decreases-taking : goal.decreases-taking
decreases-taking g l = 28 - vec_len l.line
