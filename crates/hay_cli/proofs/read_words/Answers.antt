use Rattle.std.proofs.Common.{map}
use Rattle.std.specs.Prelude.{string_bytes}
use Rattle.hay_cli.proofs.Spelled.{said, none_says}
use Rattle.hay_cli.proofs.read_words.Goals as goal

pub returns-clause-said : goal.returns-clause-said
returns-clause-said c = said (map string_bytes c.args.words.now) c.mode_of_words.result c.mode_of_words.ensures.mode

pub returns-clause-usage : goal.returns-clause-usage
returns-clause-usage c = λ usage. none_says (map string_bytes c.args.words.now) (c.mode_of_words.ensures.no_mode usage)
