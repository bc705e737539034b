use Rattle.std.proofs.Common.{◌≡◌, ◌++◌, flat_map}
use Rattle.std.specs.List.{AllByRecursion as Each}
use Rattle.hay_audit_steps.specs.Rooms as rooms
use Rattle.hay_audit.specs.Sizes.{VolumeMayGrow}
use Rattle.hay_audit.proofs.puts.put_boxes.Given as goal

abbrev pub invariant-loop-part : goal.invariant-loop-part
invariant-loop-part l =
    (l.made ++ flat_map (rooms.put_box l.settings l.tag l.pair l.photo l.reply) l.part-iterator.rest.items ≡ rooms.put_boxes l.settings l.tag l.pair l.photo l.reply l.fn.state)
    × Each (λ part. Each VolumeMayGrow part.base.volumes) l.part-iterator.rest.items
