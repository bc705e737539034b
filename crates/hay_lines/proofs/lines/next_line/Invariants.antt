use Rattle.std.proofs.Common.{◌≡◌, ℕ, ◌≤◌, false, List}
use Rattle.hay_disk.specs.Streams.{Took}
use Rattle.hay_script.specs.declared.words.TheConstants.{MAX_SCRIPT}
use Rattle.hay_lines.specs.Stream.{rest_of, budget, Accounts}
use Rattle.hay_lines.specs.Lines.{Keeps, NoFeed}
use Rattle.hay_lines.proofs.Taking.{start_of}
use Rattle.hay_lines.proofs.lines.next_line.Given as goal

abbrev pub invariant-taking : goal.invariant-taking
invariant-taking g l = record {
  given : List ℕ;
  took : Took (rest_of (g.S.Source.left l.fn.source) l.fn.bytes) given (rest_of (g.S.Source.left l.source) l.bytes);
  free : NoFeed given;
  keeps : Keeps l.long l.line.items given;
  starts : l.start ≡ start_of given;
  unmet : l.bytes.ended ≡ false;
  accounts : Accounts (g.S.Source.left l.fn.source) l.fn.bytes (g.S.Source.left l.source) l.bytes;
  less : budget MAX_SCRIPT l.bytes ≤ budget MAX_SCRIPT l.fn.bytes;
  count : g.S.Source.fault_count l.fn.source ≤ g.S.Source.fault_count l.source;
}

abbrev pub decreases-taking : goal.decreases-taking
decreases-taking g l = budget MAX_SCRIPT l.bytes
