use Rattle.std.proofs.Common.{◌≡◌, map, take}
use Rattle.clap.specs.Words.{app_of}
use Rattle.hay_cli.specs.Parsed.{options_app}
use Rattle.hay_cli.proofs.options.options_command.Given as goal

abbrev pub invariant-loop-name : goal.invariant-loop-name
invariant-loop-name l = app_of l.command ≡ options_app l.mode (map (λ s. s.now) (take l.name-index l.names))
