use Rattle.std.proofs.Common.{◌≡◌, ◌≤◌, drop, length}
use Rattle.hay_audit_steps.specs.BoxReopen as box_reopen
use Rattle.hay_audit.proofs.Choosing.{before_stores}
use Rattle.hay_audit.proofs.reopens.reopened_stores.Given as goal

abbrev pub invariant-loop-v : goal.invariant-loop-v
invariant-loop-v l = record {
  read : box_reopen.reopened_stores l.settings 0 l.state.base.volumes l.state.low l.state.high l.notes
      ≡ before_stores l.stores (box_reopen.reopened_stores l.settings l.v (drop l.v l.state.base.volumes) (drop l.v l.state.low) (drop l.v l.state.high) (drop l.used l.notes));
  within : l.used ≤ length l.notes;
}
