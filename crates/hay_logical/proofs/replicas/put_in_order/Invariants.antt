use Rattle.std.proofs.Common.{◌≡◌, ◌≤◌, length}
use Rattle.hay_map.specs.Places.{place_in}
use Rattle.hay_logical.specs.Seen.{grown, replica_seen}
use Rattle.hay_logical.specs.ReplicaCalls.{StaysInReach, PutsAt}
use Rattle.hay_logical.proofs.Lists.{Went}
use Rattle.hay_logical.proofs.replicas.put_in_order.Given as goal

abbrev pub invariant-loop-j : goal.invariant-loop-j
invariant-loop-j g l = record {
  went : Went (λ i r r'. PutsAt g.D.Disk.Tells g.D.Disk.files g.D.Piece.Piece.Tells l.pair l.cookie l.bytes r r' (place_in l.row i)
      × (g.D.Disk.fault_count r.disk ≤ g.D.Disk.fault_count r'.disk) × (g.D.Disk.fuse_count r'.disk ≡ g.D.Disk.fuse_count r.disk)
      × StaysInReach g.D.Disk.Tells g.D.Disk.files r r') l.j l.fn.replicas l.replicas;
  seen : Went (λ i r r'. replica_seen r' ≡ grown (length l.bytes) (replica_seen r)) l.j l.fn.replicas l.replicas;
  places : length l.row ≡ l.j;
}
