use Rattle.std.proofs.Common.{map, string_bytes}
use Rattle.hay_run.proofs.Commanding.{mode_built}
use Rattle.hay_run.proofs.words.read_mode.Goals as goal

pub returns-in-Ok-clause-built : goal.returns-in-Ok-clause-built
returns-in-Ok-clause-built c = mode_built (map string_bytes c.args.words.now) c.in-Ok.mode c.in-Ok.ensures.said
