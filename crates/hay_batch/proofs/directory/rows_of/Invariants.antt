use Rattle.std.proofs.Common.{◌≡◌, map, take}
use Rattle.hay_batch.specs.Batches.{new_row}
use Rattle.hay_batch.proofs.directory.rows_of.Given as goal

abbrev pub invariant-loop-photo : goal.invariant-loop-photo
invariant-loop-photo l = l.rows.items ≡ map (new_row l.volume) (take l.photo-index l.photos)
