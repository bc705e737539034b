use Rattle.std.proofs.Common.{rules, ◌≡◌, true, false, length, sym, ap, ◌∙◌}
use Rattle.std.specs.Prelude.{is_some}
use Rattle.std.proofs.lemmas.List.{length-map}
use Rattle.hay_map.specs.Places.{gone_place}
use Rattle.hay_map.specs.Rows.{has_row}
use Rattle.hay_map.proofs.RowLaws.{has_row_is, unknown_none, row_blank}
use Rattle.hay_map.proofs.Changes.{del_changes, del_nothing}
use Rattle.hay_map.proofs.view.MapView.del.Goals as goal

pub set_row-requires : goal.set_row-requires
set_row-requires g c =
    let known : has_row c.args.self.now c.args.pair ≡ true = has_row_is c.args.self.now c.args.pair ∙ sym (ap is_some c.offset.ensures) ∙ sym c.is_some.ensures ∙ c.if-is_some.true in
    let long : length c.gone-row.result ≡ c.args.self.now.replicas = ap length c.gone-row.ensures ∙ length-map c.row.result gone_place ∙ c.row.ensures.long in
    record { known = known; long = long }

pub returns-then-is_some : goal.returns-then-is_some
returns-then-is_some g c = del_changes _ _ _ (rw (← c.row.ensures.row, ← c.gone-row.ensures) c.set_row.ensures)

pub returns-else-is_some : goal.returns-else-is_some
returns-else-is_some g c =
    let none : has_row c.args.self.now c.args.pair ≡ false = has_row_is c.args.self.now c.args.pair ∙ sym (ap is_some c.offset.ensures) ∙ sym c.is_some.ensures ∙ c.if-is_some.false in
    del_nothing _ _ (row_blank c.args.self.now c.args.pair (unknown_none c.args.self.now c.args.pair none))
