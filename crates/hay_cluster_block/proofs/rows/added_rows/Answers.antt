use Rattle.std.proofs.Common.{◌≡◌, List, Vec, Global, filter_map, map, sym, subst}
use Rattle.std.proofs.lemmas.Result.{IfOk-weaker}
use Rattle.hay_reply.specs.declared.LineVolume.{LineVolume}
use Rattle.hay_block.specs.Stores.{line_of_tag}
use Rattle.hay_cluster_block.specs.Notes.{AreWithin}
use Rattle.hay_cluster_block.specs.Rows.{home_kept, row_by}
use Rattle.hay_cluster_block.proofs.RowsTold.{kept_rows}
use Rattle.hay_cluster_block.proofs.rows.added_rows.Goals as goal

pub returns-clause-within : goal.returns-clause-within
returns-clause-within g c =
    let volumes = c.args.directory.now.settings.volumes in
    let homes = c.in_ok-homes.homes in
    IfOk-weaker c.rows_by.result
    (λ (rows : Vec LineVolume Global). rows.items ≡ filter_map (λ line. row_by line (home_kept homes line)) (map line_of_tag c.args.added.now))
    (λ (rows : Vec LineVolume Global). AreWithin volumes rows.items)
    (λ rows is. subst (AreWithin volumes) (sym is) (kept_rows volumes homes c.in_ok-homes.ensures.within (map line_of_tag c.args.added.now))) c.rows_by.ensures.rows
