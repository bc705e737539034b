-- The new rows of a block by their lines: each is of the pair that its line put, and the pair's home is the row's volume.
use Rattle.std.specs.Prelude.{ℕ, ◌<◌, ◌==◌, nat_eq, List, [], ◌∷◌, filter_map, flat_map, Option, Some, None, IfSome, if◌then◌else◌, Vec}
use Rattle.std.specs.Global.{Global}
use Rattle.std.specs.Map.{lookup}
use Rattle.std.specs.Option.{option_and_then, option_map, option_or}
use Rattle.hay_needle.specs.declared.needle.Pair.{Pair}
use Rattle.hay_script.specs.declared.Command.{Command}
use Rattle.hay_script.specs.declared.Command.TheVariants as command
use Rattle.hay_reply.specs.declared.LineVolume.{LineVolume}
use Rattle.hay_legal.specs.declared.turn.Item.{Item}
use Rattle.hay_legal.specs.declared.turn.Item.TheVariants as asks
use Rattle.hay_block.specs.declared.worker.Job.{Job}

-- the pair of a put
abbrev pub pair_put : Command → Option Pair
pair_put (command.Put pair photo) = Some pair
pair_put (command.Read pair cookie) = None
pair_put (command.Get url) = None
pair_put (command.Del pair) = None
pair_put (command.Url pair) = None
pair_put (command.Flush v m) = None
pair_put (command.Compact v m) = None
pair_put (command.Begin v m) = None
pair_put (command.Step v m cells) = None
pair_put (command.Finish v m) = None
pair_put (command.Drain m) = None
pair_put (command.Undrain m) = None
pair_put (command.Fuse v m calls) = None
pair_put (command.FuseDir calls) = None
pair_put (command.Restart pick) = None

abbrev pub pair_of : Item → Option Pair
pair_of (asks.Command command) = pair_put command
pair_of asks.Bad = None

-- the lines of all lanes, lane by lane
abbrev pub all_jobs : List (Vec Job Global) → List Job
all_jobs jobs = flat_map (λ own. own.items) jobs

-- the row of a line whose pair has this home, if it has one
abbrev pub row_by : ℕ → Option ℕ → Option LineVolume
row_by line home = option_map (λ volume. record { line = line; volume = volume }) home

-- the home that is kept of a line
abbrev pub home_kept : List (ℕ × ℕ) → ℕ → Option ℕ
home_kept homes line = lookup (nat_eq line) homes

-- each home that is kept is one of so many volumes
abbrev pub KeptWithin : ℕ → List (ℕ × ℕ) → Type 0
KeptWithin volumes homes = (line : ℕ) → IfSome (home_kept homes line) (λ volume. volume < volumes)

module _ (home : Pair → Option ℕ) where
  -- the home of the pair that a line puts
  abbrev pub home_by : Item → Option ℕ
  home_by item = option_and_then home (pair_of item)

  -- if it is this line
  abbrev pub home_if : Job → ℕ → Option ℕ
  home_if job line = if job.line == line then home_by job.item else None

  -- the home by the first line of this number that has one
  abbrev pub home_at : List Job → ℕ → Option ℕ
  home_at [] line = None
  home_at (job ∷ jobs) line = option_or (home_if job line) (home_at jobs line)

  -- the row of a line
  abbrev pub row_at : List Job → ℕ → Option LineVolume
  row_at jobs line = row_by line (home_at jobs line)

  -- the rows of these lines
  abbrev pub rows_at : List Job → List ℕ → List LineVolume
  rows_at jobs lines = filter_map (row_at jobs) lines
