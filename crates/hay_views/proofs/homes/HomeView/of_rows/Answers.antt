use Rattle.std.proofs.Common.{◌≡◌, ◌+◌, List, [], ◌∷◌, ◌++◌, map, get_or, take, ap, sym, ◌∙◌}
use Rattle.std.proofs.lemmas.List.{take_more, map-append}
use Rattle.hay_dirfile.specs.declared.row.DirRow.{DirRow}
use Rattle.hay_legal.specs.declared.known.HomeRow.{HomeRow}
use Rattle.hay_directory.specs.Rows.{home_row}
use Rattle.hay_views.specs.HomeLooks.{HomesAt, with_row}
use Rattle.hay_views.proofs.homes.HomeView.of_rows.Goals as goal

none : DirRow
none = record { pair = record { key = 0; alt = 0 }; volume = 0 }

pub loop-row-preserved : goal.loop-row-preserved
unfolding none
loop-row-preserved c =
    let rows = c.args.rows.now in
    let i = c.loop-row.row-index in
    let row = get_or rows i none in
    let step : take (i + 1) rows ≡ take i rows ++ row ∷ [] = take_more rows i none c.loop-row-test.true in
    let more : map home_row (take (i + 1) rows) ≡ map home_row (take i rows) ++ home_row row ∷ [] = ap (λ (l : List DirRow). map home_row l) step ∙ map-append home_row (take i rows) (row ∷ []) in
    c.in_ok-add.ensures.ok ∙ ap (λ (homes : HomesAt). with_row homes (home_row row)) c.loop-row.invariant ∙ ap (λ (l : List HomeRow). record { volumes = c.args.volumes; rows = l }) (sym more)
