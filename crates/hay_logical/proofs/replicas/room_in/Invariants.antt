use Rattle.std.proofs.Common.{ℕ, ◌<◌}
use Rattle.hay_physical.specs.OpenCopies.{Copy, HasCapacity}
use Rattle.hay_logical.specs.Fits.{At}
use Rattle.hay_logical.specs.ReplicaCalls.{RoomFor}
use Rattle.hay_logical.proofs.replicas.room_in.Given as goal

abbrev pub invariant-loop-j : goal.invariant-loop-j
invariant-loop-j g l = (i : ℕ) (r : Copy g.row.D.Denot) → i < l.j → At l.replicas i r → RoomFor l.size r × HasCapacity r
