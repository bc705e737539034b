use Rattle.std.proofs.Common.{◌++◌, ◌∙◌, ℕ, ap, string_bytes, flat_map}
use Rattle.hay_drill.specs.Script.{alts, put_line, key_of}
use Rattle.hay_drill.proofs.Texts.{texts_on, texts_end}
use Rattle.hay_drill.proofs.script.write_uploads.Goals as goal

pub loop-alt-preserved : goal.loop-alt-preserved
loop-alt-preserved c =
    let key = c.key_of-key.result in
    let byte = c.byte_of-byte.result in
    texts_on (λ alt. put_line key alt byte) (string_bytes c.loop-alt.out) (string_bytes c.write_put.new.out) (string_bytes c.args.out.now ++ flat_map (λ alt. put_line key alt byte) alts)
    c.loop-alt.alt 5 c.loop-alt-test.true c.in_ok-write_put.ensures c.loop-alt.invariant

pub returns : goal.returns
returns c =
    let out = string_bytes c.args.out.now in
    let key = c.key_of-key.result in
    let byte = c.byte_of-byte.result in
    texts_end (λ alt. put_line key alt byte) (string_bytes c.loop-alt.out) (out ++ flat_map (λ alt. put_line key alt byte) alts)
    c.loop-alt.alt 5 c.loop-alt-test.false c.loop-alt.invariant
    ∙ ap (λ (k : ℕ). out ++ flat_map (λ alt. put_line k alt byte) alts) c.key_of-key.ensures
    ∙ ap (λ (b : ℕ). out ++ flat_map (λ alt. put_line (key_of c.args.first c.args.photo) alt b) alts) c.byte_of-byte.ensures
