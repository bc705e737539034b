use Rattle.std.proofs.Common.{◌≡◌, ◌≤◌, ◌<◌, ℕ, Some, slice_get, length, vec_len, vec_capacity}
use Rattle.hay_queue.specs.Benches.{OutsAt}
use Rattle.hay_queue.proofs.serve.gather.Given as goal

abbrev pub invariant-loop-lane : goal.invariant-loop-lane
invariant-loop-lane g l = record {
  seats : (length l.kits.items ≡ l.seats) × (l.seats ≡ length l.fn.kits.items);
  many : vec_len l.answers ≡ l.lane;
  room : l.lanes ≤ vec_capacity l.answers;
  kept : (lane : ℕ) (os : _) → l.lane ≤ lane → OutsAt l.fn.kits.items l.seats lane os → OutsAt l.kits.items l.seats lane os;
  given : (lane : ℕ) (os : _) → lane < l.lane → OutsAt l.fn.kits.items l.seats lane os → slice_get l.answers.items lane ≡ Some os;
}
