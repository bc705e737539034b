use Rattle.std.proofs.Common.{ap, map, subst, ◌∙◌}
use Rattle.hay_directory.specs.State.{home_of}
use Rattle.hay_block.specs.Stores.{line_of_tag}
use Rattle.hay_cluster_block.specs.Notes.{AreWithin}
use Rattle.hay_cluster_block.specs.Rows.{all_jobs, rows_at}
use Rattle.hay_cluster_block.proofs.notes.notes_of.Goals as goal

pub returns-clause-within : goal.returns-clause-within
returns-clause-within g c =
    subst (AreWithin c.args.directory.now.settings.volumes)
    (c.in_ok-added.ensures.rows ∙ ap (λ tags. rows_at (home_of c.args.directory.now) (all_jobs c.args.jobs.now) (map line_of_tag tags)) c.as_slice.ensures.value) c.in_ok-added.ensures.within
