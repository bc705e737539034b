use Rattle.std.proofs.Common.{◌++◌, string_bytes}
use Rattle.hay_drill.specs.Script.{volume_lines, each_replica}
use Rattle.hay_drill.proofs.Texts.{texts_on, texts_end}
use Rattle.hay_drill.proofs.script.write_replicas.Goals as goal

pub loop-volume-preserved : goal.loop-volume-preserved
loop-volume-preserved c =
    texts_on (volume_lines c.args.verb.now) (string_bytes c.loop-volume.out) (string_bytes c.write_volume.new.out) (string_bytes c.args.out.now ++ each_replica c.args.verb.now)
    c.loop-volume.volume 8 c.loop-volume-test.true c.in_ok-write_volume.ensures c.loop-volume.invariant

pub returns : goal.returns
returns c =
    texts_end (volume_lines c.args.verb.now) (string_bytes c.loop-volume.out) (string_bytes c.args.out.now ++ each_replica c.args.verb.now)
    c.loop-volume.volume 8 c.loop-volume-test.false c.loop-volume.invariant
