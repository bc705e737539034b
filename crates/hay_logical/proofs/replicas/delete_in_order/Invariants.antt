use Rattle.hay_map.specs.Places.{place_in}
use Rattle.hay_logical.specs.Seen.{DeleteSeen, replica_seen}
use Rattle.hay_logical.specs.ReplicaCalls.{DeletesAt, FollowsAt, StaysBeside}
use Rattle.hay_logical.proofs.Calls.{Counted}
use Rattle.hay_logical.proofs.Lists.{Went}
use Rattle.hay_logical.proofs.replicas.delete_in_order.Given as goal

abbrev pub invariant-loop-j : goal.invariant-loop-j
invariant-loop-j g l = record {
  went : Went (λ i r r'. DeletesAt g.D.Disk.Tells g.D.Disk.files (place_in l.row i) r r' × Counted g.D.Disk.fault_count g.D.Disk.fuse_count r r'
      × StaysBeside g.D.Disk.Tells g.D.Disk.files (place_in l.row i) r r'
      × FollowsAt g.D.Disk.Tells g.D.Disk.files g.D.Disk.fault_count l.pair (place_in l.row i) r r') l.j l.fn.replicas l.replicas;
  seen : Went (λ i r r'. DeleteSeen (replica_seen r) (replica_seen r')) l.j l.fn.replicas l.replicas;
}
