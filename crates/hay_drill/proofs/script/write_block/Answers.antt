use Rattle.std.proofs.Common.{codes, string_bytes}
use Rattle.hay_drill.specs.Script.{each_photo, lane_reads, each_replica}
use Rattle.hay_drill.proofs.Texts.{join_four}
use Rattle.hay_drill.proofs.script.write_block.Goals as goal

pub returns : goal.returns
returns c =
    join_four (string_bytes c.args.out.now) (codes "lanes 5\n") (each_photo (lane_reads c.args.first) c.args.count) (each_replica (codes "4 compact")) (codes "end\n")
    (string_bytes c.writeln.new.self) (string_bytes c.write_photos.new.out) (string_bytes c.write_replicas.new.out) (string_bytes c.writeln-2.new.self)
    c.in_ok-writeln.ensures.bytes c.in_ok-write_photos.ensures c.in_ok-write_replicas.ensures c.in_ok-writeln-2.ensures.bytes
