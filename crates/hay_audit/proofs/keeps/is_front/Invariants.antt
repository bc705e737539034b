use Rattle.std.proofs.Common.{◌≡◌, drop}
use Rattle.hay_audit_steps.specs.BoxReopen as box_reopen
use Rattle.hay_audit.proofs.Reopened.{front_from}
use Rattle.hay_audit.proofs.keeps.is_front.Given as goal

abbrev pub invariant-loop-flag : goal.invariant-loop-flag
invariant-loop-flag l = box_reopen.is_front l.kept ≡ front_from l.kept_all (drop l.flag-index l.kept)
