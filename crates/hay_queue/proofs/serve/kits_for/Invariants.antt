use Rattle.std.proofs.Common.{◌≡◌, ◌≤◌, ℕ, Some, slice_get, vec_len, vec_capacity}
use Rattle.hay_queue.specs.Benches.{IsKit}
use Rattle.hay_queue.proofs.serve.kits_for.Given as goal

abbrev pub invariant-loop-seat : goal.invariant-loop-seat
invariant-loop-seat g l = record {
  many : vec_len l.kits ≡ l.seat;
  each : (seat : ℕ) (kit : _) → slice_get l.kits.items seat ≡ Some kit → IsKit seat l.seats l.jobs kit;
  room : l.seats ≤ vec_capacity l.kits;
}
