use Rattle.std.proofs.Common.{codes, string_bytes}
use Rattle.std.specs.Prelude.{None}
use Rattle.hay_drill.specs.Script.{each_photo, uploads, replacement, deletion, reads, each_replica, block}
use Rattle.hay_drill.proofs.Texts.{join_seven}
use Rattle.hay_drill.proofs.script.write_script.Goals as goal

pub returns : goal.returns
returns c =
    let count = c.args.count in
    let first = c.args.first in
    join_seven (string_bytes c.args.out.now) (each_photo (uploads first) count) (each_photo (replacement first) count) (each_photo (deletion first) count)
    (each_replica (codes "flush")) (block count first) (codes "restart 0\n") (each_photo (reads None first) count)
    (string_bytes c.write_photos.new.out) (string_bytes c.write_photos-2.new.out) (string_bytes c.write_photos-3.new.out) (string_bytes c.write_replicas.new.out)
    (string_bytes c.write_block.new.out) (string_bytes c.writeln.new.self) (string_bytes c.write_photos-4.new.out)
    c.in_ok-write_photos.ensures c.in_ok-write_photos-2.ensures c.in_ok-write_photos-3.ensures c.in_ok-write_replicas.ensures
    c.in_ok-write_block.ensures c.in_ok-writeln.ensures.bytes c.in_ok-write_photos-4.ensures
