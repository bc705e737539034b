use Rattle.std.proofs.Common.{ap, arith}
use Rattle.hay_map.specs.MapRows.{MapRows}
use Rattle.hay_map.proofs.RowLaws.{row_long}
use Rattle.hay_map.proofs.Changes.{first_none, first_more, first_all}
use Rattle.hay_map.proofs.view.MapView.set_row.Goals as goal

pub loop-replica-init : goal.loop-replica-init
loop-replica-init g c = first_none _ _ _ (λ other. rw (← c.self.view_is) (row_long _ c.self.invariant other))

pub loop-replica-preserved : goal.loop-replica-preserved
loop-replica-preserved g c =
    let few = ap (λ (rows : MapRows _). rows.replicas) c.self.view_is in
    first_more c.args.pair c.args.row.now c.loop-replica.replica _ _ _ c.loop-replica.invariant (omega (arith, c.requires.long)) c.requires.long
    (rw (c.dup.ensures, c.place.ensures) at c.set_place.ensures.set)

pub returns : goal.returns
returns g c =
    let few = ap (λ (rows : MapRows _). rows.replicas) c.self.view_is in
    first_all c.args.pair c.args.row.now c.loop-replica.replica _ _ c.loop-replica.invariant c.requires.long (omega arith)
