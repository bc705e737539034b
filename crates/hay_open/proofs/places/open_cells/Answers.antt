use Rattle.std.proofs.Common.{◌≡◌, ◌++◌, ℕ, List, [], map, take, ap, ◌∙◌}
use Rattle.hay_index.specs.declared.record.Record.{Record}
use Rattle.hay_map.specs.declared.view.OpenCell.{OpenCell}
use Rattle.hay_open.specs.Finds.{unseen_cell}
use Rattle.hay_open.proofs.Flagging.{rows_first}
use Rattle.hay_open.proofs.PlaceLaws.{recorded_placed}
use Rattle.hay_open.proofs.places.open_cells.Goals as goal

-- the recorded cells, behind none
recorded_only : {P : Type 0} (k : ℕ) (cells before : List (OpenCell P)) (slice rows : List Record) → cells ≡ before ++ map unseen_cell (take k slice) → before ≡ [] → slice ≡ rows
    → cells ≡ map unseen_cell (take k rows)
recorded_only {P} k cells before slice rows is none same =
    is ∙ ap (λ (l : List (OpenCell P)). l ++ map unseen_cell (take k slice)) none ∙ ap (λ (l : List Record). map unseen_cell (take k l)) same

pub returns-clause-places : goal.returns-clause-places
returns-clause-places g c = λ tells whole lists.
    let rows = c.args.listing.now.rows.items in
    c.in_ok-open_orphans.ensures.places tells whole lists (recorded_placed g.D.Piece.Piece.Tells whole c.args.listing.now.recorded rows c.add_recorded.new.cells.items lists.rows
    (recorded_only c.args.listing.now.recorded c.add_recorded.new.cells.items c.in_ok-cells.cells.items c.as_slice.result.now rows c.add_recorded.ensures
    c.in_ok-cells.ensures.items c.as_slice.ensures.value))

pub returns-clause-rows : goal.returns-clause-rows
returns-clause-rows g c =
    let rows = c.args.listing.now.rows.items in
    c.in_ok-open_orphans.ensures.rows (rows_first rows c.args.listing.now.recorded c.add_recorded.new.cells.items
    (recorded_only c.args.listing.now.recorded c.add_recorded.new.cells.items c.in_ok-cells.cells.items c.as_slice.result.now rows c.add_recorded.ensures
    c.in_ok-cells.ensures.items c.as_slice.ensures.value))

pub returns-clause-seen : goal.returns-clause-seen
returns-clause-seen g c = λ tells orphans from end has heads.
    let rows = c.args.listing.now.rows.items in
    let more = c.in_ok-open_orphans.ensures.seen tells orphans from end has heads in
    let only = recorded_only c.args.listing.now.recorded c.add_recorded.new.cells.items c.in_ok-cells.cells.items c.as_slice.result.now rows c.add_recorded.ensures
    c.in_ok-cells.ensures.items c.as_slice.ensures.value in
    (more.0, more.1 ∙ ap (λ (l : List (OpenCell _)). l ++ more.0) only, more.2)
