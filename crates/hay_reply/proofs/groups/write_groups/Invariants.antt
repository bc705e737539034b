use Rattle.std.proofs.Common.{◌≡◌, ◌++◌, take, string_bytes, flat_map}
use Rattle.hay_reply.proofs.groups.write_groups.Given as goal

abbrev pub invariant-loop-group : goal.invariant-loop-group
invariant-loop-group g l =
    string_bytes l.out ≡ string_bytes l.initial.out ++ flat_map g.G.Group.text (take l.group-index l.group-items)
