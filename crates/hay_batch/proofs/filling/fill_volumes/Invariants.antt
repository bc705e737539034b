use Rattle.std.specs.Prelude.{reverse}
use Rattle.hay_batch.proofs.FillingLaws.{FillsFirst}
use Rattle.hay_batch.proofs.filling.fill_volumes.Given as goal

abbrev pub invariant-loop-volume : goal.invariant-loop-volume
invariant-loop-volume g l = FillsFirst l.replicas l.volume-index (reverse l.fn.disks.items) l.disks.items (reverse l.fn.files.items) l.files.items l.fn.volumes l.volumes
