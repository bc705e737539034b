use Rattle.std.proofs.Common.{rules, ◌≡◌, ◌∙◌, ◌+◌, ap, ap₂, sym, map, drop, arith, Option, Some, None}
use Rattle.std.specs.Prelude.{string_bytes, option_map, slice_get, unwrap_or}
use Rattle.clap.specs.Lexer.{long_of}
use Rattle.hay_cli.specs.Commands.{Text}
use Rattle.hay_cli.specs.Reading.{folder_in, folder_step}
use Rattle.hay_cli.proofs.Folders.{folder_at}
use Rattle.hay_cli.proofs.folder.find_folder.Goals as goal

pub returns-in-Some : goal.returns-in-Some
returns-in-Some c =
    let texts = map string_bytes c.args.words.now in
    let w = c.index-words-i.result in
    let rest = folder_in (drop (c.loop-i.i + 1) texts) in
    let step : folder_step (long_of (string_bytes w)) (slice_get texts (c.loop-i.i + 1)) ≡ Some (option_map (λ s. s.now) c.in-Some.found) =
    sym (ap₂ (λ (t : Text) (o : Option Text). folder_step (long_of t) o) c.as_str.ensures.value c.next_word-next.ensures)
    ∙ (sym c.folder_word.ensures ∙ ap (option_map (option_map (λ s. s.now))) c.in-Some.is) in
    sym (ap (λ (o : Option (Option Text)). unwrap_or o rest) step) ∙ (sym (folder_at c.args.words.now c.loop-i.i w (omega arith) (search rules)) ∙ c.loop-i.invariant)

pub loop-i-preserved : goal.loop-i-preserved
loop-i-preserved c =
    let texts = map string_bytes c.args.words.now in
    let w = c.index-words-i.result in
    let rest = folder_in (drop (c.loop-i.i + 1) texts) in
    let step : folder_step (long_of (string_bytes w)) (slice_get texts (c.loop-i.i + 1)) ≡ None =
    sym (ap₂ (λ (t : Text) (o : Option Text). folder_step (long_of t) o) c.as_str.ensures.value c.next_word-next.ensures)
    ∙ (sym c.folder_word.ensures ∙ ap (option_map (option_map (λ s. s.now))) c.in_default.is) in
    sym (ap (λ (o : Option (Option Text)). unwrap_or o rest) step) ∙ (sym (folder_at c.args.words.now c.loop-i.i w (omega arith) (search rules)) ∙ c.loop-i.invariant)
