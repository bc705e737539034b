use Rattle.hay_volume_lock.proofs.Opening.{first_fact, shows_first}
use Rattle.hay_volume_lock.proofs.making.publish.Goals as goal

pub new-requires-clause-same : goal.new-requires-clause-same
new-requires-clause-same g c = c.in_ok-first.ensures.1

pub new-requires-clause-fact : goal.new-requires-clause-fact
new-requires-clause-fact g c =
    first_fact g.D.Disk.Tells g.D.Disk.files g.P.Piece.Tells c.args.logical.now c.in_ok-first.first c.in_ok-first.ensures.0 g.D.Disk.fault_count g.D.Disk.fuse_count c.requires.all

pub returns : goal.returns
returns g c = shows_first g.D.Disk.Tells g.D.Disk.files g.P.Piece.Tells c.args.logical.now c.in_ok-first.first c.in_ok-first.ensures.0 c.args.seats (λ v. v.items) c.new.result c.new.ensures
