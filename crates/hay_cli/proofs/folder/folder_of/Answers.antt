use Rattle.std.proofs.Common.{◌∙◌, map, drop, [], refl}
use Rattle.std.specs.Prelude.{codes, string_bytes}
use Rattle.hay_cli.specs.Commands.{audit_names, run_names}
use Rattle.hay_cli.proofs.Folders.{absent, folder_is, none_mapped}
use Rattle.hay_cli.proofs.Spelled.{audit_plain, run_plain, options_read}
use Rattle.hay_cli.proofs.folder.folder_of.Goals as goal

pub returns-clause-same : goal.returns-clause-same
returns-clause-same c = λ given are.
    let words = drop 1 (map string_bytes c.args.words.now) in
    c.find_folder.ensures ∙ folder_is run_names words given (options_read run_names run_plain given [] words are)

pub returns-clause-audit : goal.returns-clause-audit
returns-clause-audit c = λ given are.
    let words = drop 1 (map string_bytes c.args.words.now) in
    none_mapped c.find_folder.result (λ s. s.now)
    (c.find_folder.ensures ∙ folder_is audit_names words given (options_read audit_names audit_plain given [] words are) ∙ absent audit_names (codes "folder") refl given [] words are)
