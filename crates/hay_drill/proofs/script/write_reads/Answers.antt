use Rattle.std.proofs.Common.{◌++◌, ◌∙◌, ℕ, ap, string_bytes, flat_map}
use Rattle.hay_drill.specs.Script.{alts, read_line}
use Rattle.hay_drill.proofs.Texts.{texts_on, texts_end}
use Rattle.hay_drill.proofs.script.write_reads.Goals as goal

pub loop-alt-preserved : goal.loop-alt-preserved
loop-alt-preserved c =
    let line = read_line c.args.lane c.key_of-key.result in
    texts_on line (string_bytes c.loop-alt.out) (string_bytes c.write_read.new.out) (string_bytes c.args.out.now ++ flat_map line alts)
    c.loop-alt.alt 5 c.loop-alt-test.true c.in_ok-write_read.ensures c.loop-alt.invariant

pub returns : goal.returns
returns c =
    let out = string_bytes c.args.out.now in
    let line = read_line c.args.lane c.key_of-key.result in
    texts_end line (string_bytes c.loop-alt.out) (out ++ flat_map line alts) c.loop-alt.alt 5 c.loop-alt-test.false c.loop-alt.invariant
    ∙ ap (λ (k : ℕ). out ++ flat_map (read_line c.args.lane k) alts) c.key_of-key.ensures
