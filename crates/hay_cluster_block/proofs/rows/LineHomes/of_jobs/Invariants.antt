use Rattle.std.proofs.Common.{◌≡◌, ℕ, take}
use Rattle.hay_directory.specs.State.{home_of}
use Rattle.hay_cluster_block.specs.Rows.{KeptWithin, all_jobs, home_at, home_kept}
use Rattle.hay_cluster_block.proofs.rows.LineHomes.of_jobs.Given as goal

abbrev pub invariant-loop-own : goal.invariant-loop-own
invariant-loop-own g l = record {
  homes : (line : ℕ) → home_kept l.homes line ≡ home_at (home_of l.directory) (all_jobs (take l.own-index l.jobs)) line;
  within : KeptWithin l.directory.settings.volumes l.homes;
}
