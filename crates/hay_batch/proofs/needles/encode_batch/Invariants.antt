use Rattle.std.proofs.Common.{take}
use Rattle.hay_batch.specs.Batches.{AreNeedles}
use Rattle.hay_batch.proofs.needles.encode_batch.Given as goal

abbrev pub invariant-loop-photo : goal.invariant-loop-photo
invariant-loop-photo l = AreNeedles l.bytes.items (take l.photo-index l.photos)
