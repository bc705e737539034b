use Rattle.std.proofs.Common.{ap, arith, length, length-take}
use Rattle.hay_needle.proofs.Supers.{length-super}
use Rattle.hay_check.proofs.listing.compare_bytes.Goals as goal

pub compare_blocks-requires : goal.compare_blocks-requires
compare_blocks-requires c = omega (arith, ap length c.in_default.ensures.found, length-take 64 c.args.bytes.now, length-super c.args.sup.now)
