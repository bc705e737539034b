use Rattle.std.proofs.Common.{◌≡◌, ◌∙◌, sym, ap, Some, rules, replicate}
use Rattle.hay_script.proofs.Cuts.{no_byte, some_run}
use Rattle.hay_script.proofs.photo.read_run.Goals as goal

pub returns-in_default-read_byte-clause-photo : goal.returns-in_default-read_byte-clause-photo
returns-in_default-read_byte-clause-photo c =
    rw (c.in-Some.ensures) (sym (no_byte c.in-Some.count.now c.in-Some.digits.now (sym c.read_byte.ensures ∙ c.in_default-read_byte.is)))

pub returns-clause-photo : goal.returns-clause-photo
returns-clause-photo c =
    let count = c.in-Some-read_count.count in
    let byte = c.in-Some-read_byte.byte in
    let filled : c.in_ok-bytes.bytes.items ≡ replicate count byte = search rules in
    rw (c.in-Some.ensures) (ap Some (c.from_vec.ensures ∙ filled) ∙ sym (some_run c.in-Some.count.now c.in-Some.digits.now byte count
    (sym c.in-Some-read_byte.is ∙ c.read_byte.ensures) (sym c.in-Some-read_count.is ∙ c.read_count.ensures)))
