use Rattle.std.proofs.Common.{◌-◌, ◌≤◌, vec_len}
use Rattle.hay_disk.specs.Streams.{Took}
use Rattle.hay_frame.proofs.bytes.take_bytes.Given as goal

abbrev pub invariant-taking : goal.invariant-taking
invariant-taking g l = record {
  took : Took (g.S.Source.left l.fn.source) l.bytes.items (g.S.Source.left l.source);
  within : vec_len l.bytes ≤ l.most;
  count : g.S.Source.fault_count l.fn.source ≤ g.S.Source.fault_count l.source;
}

abbrev pub decreases-taking : goal.decreases-taking
decreases-taking g l = l.most - vec_len l.bytes
