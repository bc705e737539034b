use Rattle.std.proofs.Common.{rules, arith, ◌<◌}
use Rattle.hay_map.proofs.Moving.{left_long, swap_changes}
use Rattle.hay_map.proofs.view.MapView.swap.Goals as goal

pub move_all-requires : goal.move_all-requires
move_all-requires g c =
    let replica : c.args.replica < c.leave_replica.new.self.replicas = omega (arith, c.requires, c.leave_replica.ensures.replicas) in
    record { replica = replica; long = left_long _ _ _ c.leave_replica.ensures }

pub returns : goal.returns
returns g c = swap_changes _ _ _ _ _ c.leave_replica.ensures c.move_all.ensures c.requires
