use Rattle.std.proofs.Common.{◌≡◌, ◌+◌, List, length, set, refl, sym, ap, ◌∙◌, arith}
use Rattle.std.proofs.lemmas.List.{with_items_is, length-set}
use Rattle.hay_map.specs.MapRows.{MapRows, offset_of}
use Rattle.hay_map.proofs.RowLaws.{set_rows, row_long, unknown, kept_same}
use Rattle.hay_map.proofs.view.MapView.set_place.Goals as goal

pub overflow_add-at : goal.overflow_add-at
overflow_add-at g c =
    let inside = c.self.invariant.inside c.args.pair c.in-Some.at (ap (λ (rows : MapRows _). offset_of rows c.args.pair) c.self.view_is ∙ sym c.in-Some.ensures) in
    let few = ap (λ (rows : MapRows _). rows.replicas) c.self.view_is in
    omega arith

pub set_at-requires : goal.set_at-requires
set_at-requires g c =
    let inside = c.self.invariant.inside c.args.pair c.in-Some.at (ap (λ (rows : MapRows _). offset_of rows c.args.pair) c.self.view_is ∙ sym c.in-Some.ensures) in
    let few = ap (λ (rows : MapRows _). rows.replicas) c.self.view_is in
    let long : length c.as_mut_slice.result.now ≡ length c.self.inside.places.items = ap length c.as_mut_slice.ensures.value in
    omega arith

pub invariant_of-self : goal.invariant_of-self
invariant_of-self g c =
    let same : length c.set_at.new.places ≡ length c.as_mut_slice.result.now = ap length c.set_at.ensures ∙ length-set c.as_mut_slice.result.now (c.in-Some.at + c.args.replica) c.args.place in
    kept_same _ _ (record { replicas = refl; blank = refl; offsets = λ pair. refl })
    (ap length (with_items_is c.self.inside.places c.set_at.new.places (same ∙ c.as_mut_slice.ensures.len)) ∙ same ∙ ap length c.as_mut_slice.ensures.value)
    c.self.invariant

pub returns-in-Some-clause-set : goal.returns-in-Some-clause-set
returns-in-Some-clause-set g c =
    let is = ap (λ (rows : MapRows _). offset_of rows c.args.pair) c.self.view_is ∙ sym c.in-Some.ensures in
    let few = ap (λ (rows : MapRows _). rows.replicas) c.self.view_is in
    let same : length c.set_at.new.places ≡ length c.as_mut_slice.result.now = ap length c.set_at.ensures ∙ length-set c.as_mut_slice.result.now (c.in-Some.at + c.args.replica) c.args.place in
    rw (← c.self.view_is)
    (set_rows c.args.pair c.in-Some.at c.args.replica c.args.place _ _ (record { replicas = refl; blank = refl; offsets = λ pair. refl }) is
    (with_items_is c.self.inside.places c.set_at.new.places (same ∙ c.as_mut_slice.ensures.len)
    ∙ c.set_at.ensures
    ∙ ap (λ (xs : List _). set xs (c.in-Some.at + c.args.replica) c.args.place) c.as_mut_slice.ensures.value)
    (omega arith) c.self.invariant)

pub returns-in-Some-clause-long : goal.returns-in-Some-clause-long
returns-in-Some-clause-long g c = λ other. rw (← c.self.view_is) (row_long _ c.self.invariant other)

pub returns-in_default-clause-set : goal.returns-in_default-clause-set
returns-in_default-clause-set g c = absurd (unknown c.args.self.now c.args.pair c.requires.known (sym c.in_default.ensures))

pub returns-in_default-clause-long : goal.returns-in_default-clause-long
returns-in_default-clause-long g c = λ other. rw (← c.self.view_is) (row_long _ c.self.invariant other)
