use Rattle.std.proofs.Common.{◌≡◌, Err, arith}
use Rattle.std.proofs.lemmas.List.{take_rest}
use Rattle.std.proofs.lemmas.Result.{err_from_is_err_and}
use Rattle.hay_url.specs.Parts.{Number, FromKey, key_text}
use Rattle.hay_url.proofs.Languages.{in_part}
use Rattle.hay_url.proofs.Decimals.{behind_number, joined_number}
use Rattle.hay_url.proofs.Urls.{some_key}
use Rattle.hay_url.proofs.read.read_from_volume.Goals as goal

pub returns-in_err-volume-clause-fault : goal.returns-in_err-volume-clause-fault
returns-in_err-volume-clause-fault c =
    let at = c.in_err-volume.field-0.0 in
    let back = err_from_is_err_and c.from_residual.result c.from_residual.ensures.1 in
    let same : c.from_residual.result ≡ Err at = cc (back.1, back.2) in
    rw same (in_part (Number 44) FromKey c.args.text.now at c.in_err-volume.ensures.fault some_key.0 some_key.1)

pub returns-in-Ok-clause-url : goal.returns-in-Ok-clause-url
returns-in-Ok-clause-url c =
    joined_number 44 c.args.text.now (key_text c.in-Ok.pair c.in-Ok.cookie) c.in_ok-volume.volume c.in_ok-volume.used c.in_ok-volume.ensures.number (simp take_rest at c.in-Ok.ensures.url)

pub returns-in-Err-clause-fault : goal.returns-in-Err-clause-fault
returns-in-Err-clause-fault c =
    behind_number 44 (omega arith) FromKey c.args.text.now c.in_ok-volume.volume c.in_ok-volume.used c.in-Err.at (omega arith) c.in_ok-volume.ensures.within
    c.in_ok-volume.ensures.number (simp take_rest at c.in-Err.ensures.fault)
