use Rattle.std.proofs.Common.{◌≡◌, ◌≤◌, drop, length}
use Rattle.hay_audit_steps.specs.Reopen as reopen
use Rattle.hay_audit.proofs.Reopened.{behind_kept}
use Rattle.hay_audit.proofs.keeps.read_kept.Given as goal

abbrev pub invariant-loop-j : goal.invariant-loop-j
invariant-loop-j l = record {
  read : reopen.read_kept l.settings l.volume l.line 0 l.replicas l.notes ≡ behind_kept l.all (reopen.read_kept l.settings l.volume l.line l.j (drop l.j l.replicas) (drop l.j l.notes));
  within : l.j ≤ length l.notes;
}
