use Rattle.hay_map.specs.Places.{place_in}
use Rattle.hay_physical.specs.Replicas as physical
use Rattle.hay_logical.proofs.Dropping.{counts_on, delete_leaves_on, ends_on, reach_on}
use Rattle.hay_logical.proofs.replicas.delete_each.Goals as goal

pub returns-in-Err-clause-counts : goal.returns-in-Err-clause-counts
returns-in-Err-clause-counts g c =
    counts_on g.D.Disk.Tells g.D.Disk.files g.D.Disk.fault_count c.args.replicas.now c.delete_in_order.new.replicas c.drop_runs.new.replicas c.drop_runs.ensures.count c.drop_runs.ensures.each
    g.D.Disk.fuse_count c.delete_in_order.ensures.counts

pub returns-in-Err-clause-reach : goal.returns-in-Err-clause-reach
returns-in-Err-clause-reach g c =
    reach_on g.D.Disk.Tells g.D.Disk.files g.D.Disk.fault_count c.args.replicas.now c.delete_in_order.new.replicas c.drop_runs.new.replicas c.drop_runs.ensures.count c.drop_runs.ensures.each
    (λ i at size. physical.IsApartPlace at size (place_in c.args.row.now i)) c.delete_in_order.ensures.reach

pub returns-in-Err-clause-broken : goal.returns-in-Err-clause-broken
returns-in-Err-clause-broken g c =
    delete_leaves_on g.D.Disk.Tells g.D.Disk.files g.D.Disk.fault_count c.args.replicas.now c.delete_in_order.new.replicas c.drop_runs.new.replicas c.drop_runs.ensures.count c.drop_runs.ensures.each
    c.args.row.now c.in-Err.failed c.in-Err.ensures.broken

pub returns-in-Err-clause-ends : goal.returns-in-Err-clause-ends
returns-in-Err-clause-ends g c =
    ends_on g.D.Disk.Tells g.D.Disk.files g.D.Disk.fault_count c.args.replicas.now c.delete_in_order.new.replicas c.drop_runs.new.replicas c.drop_runs.ensures.count c.drop_runs.ensures.each
    c.delete_in_order.ensures.ends
