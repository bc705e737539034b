use Rattle.std.proofs.Common.{◌≡◌, length, true, false}
use Rattle.std.specs.Prelude.{◌||◌, not, nat_lt, slice_get}
use Rattle.hay_legal.specs.Restarts as restarts
use Rattle.hay_audit_steps.specs.Reopen as reopen
use Rattle.hay_audit.proofs.keeps.nothing_kept.Given as goal

abbrev pub invariant-loop-left : goal.invariant-loop-left
invariant-loop-left l =
    reopen.all_below (λ j. not (restarts.nothing_at l.volume l.change j) || reopen.says true (slice_get l.kept j)) (length l.kept)
    ≡ reopen.all_below (λ j. not (restarts.nothing_at l.volume l.change j) || reopen.says true (slice_get l.kept j)) l.left

abbrev pub decreases-loop-left : goal.decreases-loop-left
decreases-loop-left l = l.left
