use Rattle.std.proofs.Common.{◌≡◌, ℕ, take}
use Rattle.std.specs.Option.{option_or}
use Rattle.hay_directory.specs.State.{home_of}
use Rattle.hay_cluster_block.specs.Rows.{KeptWithin, home_at, home_kept}
use Rattle.hay_cluster_block.proofs.rows.LineHomes.add_lane.Given as goal

abbrev pub invariant-loop-job : goal.invariant-loop-job
invariant-loop-job g l = record {
  homes : (line : ℕ) → home_kept l.self line ≡ option_or (home_kept l.fn.self line) (home_at (home_of l.directory) (take l.job-index l.jobs) line);
  within : KeptWithin l.directory.settings.volumes l.fn.self → KeptWithin l.directory.settings.volumes l.self;
}
