use Rattle.std.proofs.Common.{length, refl, ap, ◌∙◌, arith}
use Rattle.std.proofs.lemmas.List.{with_items_is}
use Rattle.hay_map.specs.MapRows.{MapRows}
use Rattle.hay_map.proofs.RowLaws.{left_rows, kept_same}
use Rattle.hay_map.proofs.view.MapView.leave_replica.Goals as goal

pub returns : goal.returns
returns g c =
    let few = ap (λ (rows : MapRows _). rows.replicas) c.self.view_is in
    let kept = with_items_is c.self.inside.places c.leave_each.new.places (c.leave_each.auto.places ∙ c.as_mut_slice.ensures.len) in
    rw (← c.self.view_is)
    (left_rows c.args.replica _ _ (record { replicas = refl; blank = refl; offsets = λ pair. refl })
    (ap length kept ∙ c.leave_each.auto.places ∙ ap length c.as_mut_slice.ensures.value)
    (rw (kept, ← c.as_mut_slice.ensures.value) c.leave_each.ensures)
    (omega (arith, c.requires)) c.self.invariant)

pub invariant_of-self : goal.invariant_of-self
invariant_of-self g c =
    let kept = with_items_is c.self.inside.places c.leave_each.new.places (c.leave_each.auto.places ∙ c.as_mut_slice.ensures.len) in
    kept_same _ _ (record { replicas = refl; blank = refl; offsets = λ pair. refl }) (ap length kept ∙ c.leave_each.auto.places ∙ ap length c.as_mut_slice.ensures.value) c.self.invariant
