-- A replica of which some sizes are not known: how much above the lowest they may lie.
use Rattle.std.specs.Prelude.{ℕ, ◌+◌, ◌≤◌, option_map}
use Rattle.hay_legal.specs.declared.known.Run.{Run}
use Rattle.hay_legal.specs.declared.known.ReplicaKnown.{ReplicaKnown}

-- how much above the lowest: a run's cells that are left go with the replica's cells
pub record Slack : Type 0 where
  pub end : ℕ
  pub cells : ℕ
  pub bare : ℕ

abbrev pub fill_run : ℕ → Run → Run
fill_run n run = record run { left = run.left + n }

abbrev pub fill_replica : Slack → ReplicaKnown → ReplicaKnown
fill_replica x replica =
    record replica { end = replica.end + x.end; cells = replica.cells + x.cells; bare = replica.bare + x.bare; run = option_map (fill_run x.cells) replica.run }

abbrev pub no_slack : Slack
no_slack = record { end = 0; cells = 0; bare = 0 }

pub record Lies (x most : Slack) : Type 0 where
  pub end : x.end ≤ most.end
  pub cells : x.cells ≤ most.cells
  pub bare : x.bare ≤ most.bare
