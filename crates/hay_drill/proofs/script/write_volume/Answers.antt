use Rattle.std.proofs.Common.{◌+◌, ◌%◌, ◌++◌, ◌∙◌, ℕ, List, ap, codes, decimal, string_bytes}
use Rattle.hay_drill.specs.Script.{replica_line, volume_lines}
use Rattle.hay_drill.proofs.Texts.{texts_on, texts_end, join_place}
use Rattle.hay_drill.proofs.script.write_volume.Goals as goal

pub loop-replica-preserved : goal.loop-replica-preserved
loop-replica-preserved c =
    let verb = c.args.verb.now in
    let out = string_bytes c.loop-replica.out in
    let machine = (c.args.volume + c.loop-replica.replica) % 4 in
    texts_on (replica_line verb c.args.volume) (string_bytes c.loop-replica.out) (string_bytes c.writeln.new.self) (string_bytes c.args.out.now ++ volume_lines verb c.args.volume)
    c.loop-replica.replica 2 c.loop-replica-test.true
    (c.in_ok-writeln.ensures.bytes ∙ ap (λ (t : List ℕ). out ++ t) (join_place verb (codes " ") (decimal c.args.volume) (codes " ") (decimal machine) (codes "\n")))
    c.loop-replica.invariant

pub returns : goal.returns
returns c =
    let verb = c.args.verb.now in
    texts_end (replica_line verb c.args.volume) (string_bytes c.loop-replica.out) (string_bytes c.args.out.now ++ volume_lines verb c.args.volume)
    c.loop-replica.replica 2 c.loop-replica-test.false c.loop-replica.invariant
