use Rattle.std.proofs.Common.{◌≡◌, ℕ, ◌+◌, ◌≤◌, false, List, [], length, Some}
use Rattle.hay_script.specs.declared.words.TheConstants.{MAX_SCRIPT}
use Rattle.hay_legal.specs.Items.{whole_items_from}
use Rattle.hay_run.specs.Blocks.{IsBlockBelow}
use Rattle.hay_run.specs.Items.{block_behind}
use Rattle.hay_lines.specs.Lines.{TookFeds}
use Rattle.hay_lines.specs.Stream.{rest_of, budget, Accounts}
use Rattle.hay_run.proofs.block.read_lines.Given as goal

abbrev pub invariant-lines : goal.invariant-lines
invariant-lines g l = record {
  texts : List (List ℕ);
  feeds : TookFeds (rest_of (g.S.Source.left l.fn.source) l.fn.script) texts (rest_of (g.S.Source.left l.source) l.script);
  nothing : whole_items_from l.fn.number (Some l.fn.block) texts ≡ [];
  behind : block_behind l.fn.number (Some l.fn.block) texts ≡ Some l.block;
  next_is : l.next ≡ l.fn.number + length texts;
  below : IsBlockBelow l.next l.block;
  lanes : l.block.lanes ≡ l.fn.block.lanes;
  unmet : l.script.ended ≡ false;
  accounts : Accounts (g.S.Source.left l.fn.source) l.fn.script (g.S.Source.left l.source) l.script;
  few : l.next + budget MAX_SCRIPT l.script ≤ l.fn.number + budget MAX_SCRIPT l.fn.script;
  less : budget MAX_SCRIPT l.script ≤ budget MAX_SCRIPT l.fn.script;
  count : g.S.Source.fault_count l.fn.source ≤ g.S.Source.fault_count l.source;
}

abbrev pub decreases-lines : goal.decreases-lines
decreases-lines g l = budget MAX_SCRIPT l.script
