use Rattle.std.proofs.Common.{◌≡◌, drop, length}
use Rattle.std.specs.Prelude.{fold}
use Rattle.hay_core.specs.Entries.{after, apply_entry, entries_of}
use Rattle.hay_audit.proofs.table.behind_log.Given as goal

abbrev pub invariant-loop-logged : goal.invariant-loop-logged
invariant-loop-logged l = fold apply_entry l.table (entries_of (drop l.logged-index l.logged-items)) ≡ fold apply_entry l.base (entries_of l.log)
