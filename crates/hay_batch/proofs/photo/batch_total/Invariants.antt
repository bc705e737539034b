use Rattle.std.proofs.Common.{◌≡◌, take}
use Rattle.hay_batch.specs.Batches.{batch_total}
use Rattle.hay_batch.proofs.photo.batch_total.Given as goal

abbrev pub invariant-loop-photo : goal.invariant-loop-photo
invariant-loop-photo l = l.total ≡ batch_total (take l.photo-index l.photos)
