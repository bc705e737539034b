use Rattle.std.proofs.Common.{sym, ◌∙◌}
use Rattle.hay_volume_lock.proofs.Opening.{first_two}
use Rattle.hay_volume_lock.proofs.making.views_of.Goals as goal

pub two-requires : goal.two-requires
two-requires g c = c.requires ∙ sym c.in_ok-rows.ensures.replicas

pub returns : goal.returns
returns g c = first_two c.args.logical.now c.in_ok-rows.rows c.two.result c.in_ok-rows.ensures.replicas c.in_ok-rows.ensures.rows c.two.ensures
