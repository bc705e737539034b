use Rattle.std.proofs.Common.{◌≡◌, ◌∙◌, List, ℕ, Some, None, Err, length, sym, ap, arith}
use Rattle.std.proofs.lemmas.Result.{err_from_is_err_and}
use Rattle.hay_frame.specs.declared.fault.FrameFault.TheVariants as fault
use Rattle.hay_frame.specs.Frames.{length_in}
use Rattle.hay_frame.proofs.Framing.{bad_line, bad_script, frame_taken, no_line, overlong}
use Rattle.hay_frame.proofs.frame.read_frame.Goals as goal

-- no good first line came

pub returns-in_err-line-clause-bad : goal.returns-in_err-line-clause-bad
returns-in_err-line-clause-bad g c = λ bad.
    let p = err_from_is_err_and c.from_residual.result c.from_residual.ensures.1 in
    let same : c.in_err-line.field-0.0 ≡ fault.Bad = cc (p.1, p.2) in
    no_line (g.S.Source.left c.args.source.now) (g.S.Source.left c.take_line.new.source) (c.in_err-line.ensures.none (ap (λ e. Err e) same))

pub returns-in_default-clause-bad : goal.returns-in_default-clause-bad
returns-in_default-clause-bad g c = λ bad.
    let says : length_in c.in_ok-line.line.items ≡ None = ap length_in (sym c.as_slice.ensures.value) ∙ sym c.script_length.ensures
    ∙ c.in_default.is in
    bad_line (g.S.Source.left c.args.source.now) (g.S.Source.left c.take_line.new.source) c.in_ok-line.line.items c.in_ok-line.ensures.line.0
    c.in_ok-line.ensures.line.1 says

-- the script ends too soon

pub returns-in_err-script-clause-bad : goal.returns-in_err-script-clause-bad
returns-in_err-script-clause-bad g c = λ bad.
    let p = err_from_is_err_and c.from_residual-in_err-script.result c.from_residual-in_err-script.ensures.1 in
    let same : c.in_err-script.field-0.0 ≡ fault.Bad = cc (p.1, p.2) in
    let says : length_in c.in_ok-line.line.items ≡ Some c.in-Some.length = ap length_in (sym c.as_slice.ensures.value) ∙ sym c.script_length.ensures
    ∙ c.in-Some.is in
    bad_script (g.S.Source.left c.args.source.now) (g.S.Source.left c.take_line.new.source) (g.S.Source.left c.take_script.new.source)
    c.in_ok-line.line.items c.in-Some.length
    c.in_ok-line.ensures.line.0 c.in_ok-line.ensures.line.1 says (c.in_err-script.ensures.short (ap (λ e. Err e) same))

-- the transcript is too long

pub returns-in_err-transcript-clause-long : goal.returns-in_err-transcript-clause-long
returns-in_err-transcript-clause-long g c = λ long.
    let p = err_from_is_err_and c.from_residual-in_err-transcript.result c.from_residual-in_err-transcript.ensures.1 in
    let same : c.in_err-transcript.field-0.0 ≡ fault.TooLong = cc (p.1, p.2) in
    let script : List ℕ = c.in_ok-script.script.items in
    let long_as : length script ≡ c.in-Some.length = omega (arith, c.in_ok-script.ensures.took.0) in
    let says : length_in c.in_ok-line.line.items ≡ Some (length script) =
    ap length_in (sym c.as_slice.ensures.value) ∙ sym c.script_length.ensures ∙ c.in-Some.is ∙ ap Some (sym long_as) in
    overlong (g.S.Source.left c.args.source.now) (g.S.Source.left c.take_line.new.source) (g.S.Source.left c.take_script.new.source)
    (g.S.Source.left c.take_transcript.new.source)
    c.in_ok-line.line.items script c.in_ok-line.ensures.line.1 says c.in_ok-script.ensures.took.1
    (c.in_err-transcript.ensures.long (ap (λ e. Err e) same))

-- a frame

pub returns-clause-framed : goal.returns-clause-framed
returns-clause-framed g c =
    let script : List ℕ = c.in_ok-script.script.items in
    let long_as : length script ≡ c.in-Some.length = omega (arith, c.in_ok-script.ensures.took.0) in
    let says : length_in c.in_ok-line.line.items ≡ Some (length script) =
    ap length_in (sym c.as_slice.ensures.value) ∙ sym c.script_length.ensures ∙ c.in-Some.is ∙ ap Some (sym long_as) in
    frame_taken (g.S.Source.left c.args.source.now) (g.S.Source.left c.take_line.new.source) (g.S.Source.left c.take_script.new.source)
    (g.S.Source.left c.take_transcript.new.source)
    c.in_ok-line.line.items script c.in_ok-transcript.transcript.items c.in_ok-line.ensures.line.1 says c.in_ok-script.ensures.took.1
    c.in_ok-transcript.ensures.took
