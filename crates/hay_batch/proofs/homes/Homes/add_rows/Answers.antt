use Rattle.std.proofs.Common.{◌≡◌, ◌+◌, ◌∷◌, [], ◌++◌, take, get_or}
use Rattle.std.proofs.lemmas.List.{take_more}
use Rattle.hay_dirfile.specs.declared.row.DirRow.{DirRow}
use Rattle.hay_batch.specs.Homes.{home_among}
use Rattle.hay_batch.proofs.HomeLaws.{row_behind}
use Rattle.hay_batch.proofs.homes.Homes.add_rows.Goals as goal

none : DirRow
none = record { pair = record { key = 0; alt = 0 }; volume = 0 }

pub loop-row-preserved : goal.loop-row-preserved
unfolding none
loop-row-preserved c = λ pair.
    let rows = c.args.rows.now in
    let i = c.loop-row.row-index in
    let row = get_or rows i none in
    let step : take (i + 1) rows ≡ take i rows ++ row ∷ [] = take_more rows i none c.loop-row-test.true in
    row_behind (home_among c.args.self.now pair) (home_among c.loop-row.self pair) (home_among c.add_row.new.self pair) (take i rows) (take (i + 1) rows) row pair step
    (c.loop-row.invariant pair) (c.in_ok-add_row.ensures pair)
