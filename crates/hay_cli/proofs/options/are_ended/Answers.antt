use Rattle.std.proofs.Common.{◌∙◌}
use Rattle.hay_cli.proofs.Parses.{dashes_behind}
use Rattle.hay_cli.proofs.options.are_ended.Goals as goal

pub returns-in-len1-up : goal.returns-in-len1-up
returns-in-len1-up c = c.has_dashes.ensures ∙ dashes_behind c.args.words.now
