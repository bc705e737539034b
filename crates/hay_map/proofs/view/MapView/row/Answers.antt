use Rattle.std.proofs.Common.{arith, rules, ◌≡◌, ◌+◌, ◌≤◌, List, take, drop, length, sym, ap, ◌∙◌}
use Rattle.hay_map.specs.MapRows.{MapRows, offset_of}
use Rattle.hay_map.specs.Rows.{row_at}
use Rattle.hay_map.proofs.RowLaws.{row_some, row_blank, row_long}
use Rattle.hay_map.proofs.view.MapView.row.Goals as goal

pub part-requires : goal.part-requires
part-requires g c =
    let inside = c.self.invariant.inside c.args.pair c.in-Some.at (ap (λ (rows : MapRows _). offset_of rows c.args.pair) c.self.view_is ∙ sym c.in-Some.ensures) in
    let long : length c.as_slice.result.now ≡ length c.self.inside.places.items = ap length c.as_slice.ensures.value in
    let few : c.self.inside.replicas ≤ 4 = c.self.invariant.most in
    let within : c.in-Some.at + c.self.inside.replicas ≤ length c.as_slice.result.now = omega arith in
    (within, few)

pub returns-in-Some-clause-row : goal.returns-in-Some-clause-row
returns-in-Some-clause-row g c =
    rw (← c.self.view_is)
    (c.part.ensures
    ∙ ap (λ (xs : List _). take c.self.inside.replicas (drop c.in-Some.at xs)) c.as_slice.ensures.value
    ∙ sym (row_some _ c.args.pair c.in-Some.at (ap (λ (rows : MapRows _). offset_of rows c.args.pair) c.self.view_is ∙ sym c.in-Some.ensures)))

pub returns-in-Some-clause-long : goal.returns-in-Some-clause-long
returns-in-Some-clause-long g c =
    let long = row_long _ c.self.invariant c.args.pair in
    let few = ap (λ (rows : MapRows _). rows.replicas) c.self.view_is in
    ap length (returns-in-Some-clause-row g c) ∙ ap length (ap (λ (rows : MapRows _). row_at rows c.args.pair) (sym c.self.view_is)) ∙ long ∙ few

pub returns-in-None-clause-row : goal.returns-in-None-clause-row
returns-in-None-clause-row g c =
    rw (← c.self.view_is)
    (c.dup.ensures ∙ c.self.invariant.blank ∙ sym (row_blank _ c.args.pair (ap (λ (rows : MapRows _). offset_of rows c.args.pair) c.self.view_is ∙ sym c.in-None.ensures)))
