use Rattle.std.proofs.Common.{◌<◌, length, ap, ◌∙◌, arith}
use Rattle.std.proofs.lemmas.Bool.{eq-eqb, ne_eqb}
use Rattle.std.proofs.lemmas.List.{get_or_default, set-get_or}
use Rattle.hay_map.specs.Places.{gone_place}
use Rattle.hay_map.specs.declared.place.Place.TheVariants as place
use Rattle.hay_map.proofs.Leaving.{left_none, left_here, left_over, left_all}
use Rattle.hay_map.proofs.places.leave_each.Goals as goal
use Rattle.hay_map.proofs.places.leave_each.Goals.{then-k-replicas, else-k-replicas}

pub loop-k-init : goal.loop-k-init
loop-k-init g c = left_none _ _ _

pub loop-k-preserved : goal.loop-k-preserved
loop-k-preserved g c =
    let inside : c.loop-k.k < length c.loop-k.places = omega arith in
    elim c.if-k-replicas.branch [
      | then-k-replicas w ↦
          rw w.places-is
          (left_here _ _ _ _ _ _ c.loop-k.invariant inside (eq-eqb _ _ w.if-k-replicas.true)
          (w.leave.ensures ∙ ap gone_place (get_or_default c.loop-k.places c.loop-k.k c.index-places-k.result place.None inside)))
      | else-k-replicas w ↦ rw (w.places-is, set-get_or c.loop-k.places c.loop-k.k c.index-places-k.result) (left_over _ _ _ _ _ c.loop-k.invariant (ne_eqb _ _ w.if-k-replicas.false))
    ]

pub returns : goal.returns
returns g c = left_all _ _ _ _ _ c.loop-k.invariant (omega arith)
