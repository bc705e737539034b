-- Which machines the answers of calls at a volume's lock name, whatever the disks tell: each has a replica of the volume. One that lacks
-- room for a photo has an end behind which there is none.
use Rattle.std.specs.Prelude.{ℕ}
use Rattle.hay_needle.specs.declared.settings.Settings.{Settings}
use Rattle.hay_legal.specs.Suiting.{HasNoRoom}
use Rattle.hay_logical.specs.Volumes.{IsMachineOf}
use Rattle.hay_shared_volume.specs.declared.answers.Room.{Room}
use Rattle.hay_shared_volume.specs.declared.answers.Room.TheVariants as room
use Rattle.hay_shared_volume.specs.declared.answers.Put.{Put}
use Rattle.hay_shared_volume.specs.declared.answers.Put.TheVariants as put
use Rattle.hay_shared_volume.specs.declared.answers.Delete.{Delete}
use Rattle.hay_shared_volume.specs.declared.answers.Delete.TheVariants as delete
use Rattle.hay_shared_volume.specs.declared.answers.Flush.{Flush}
use Rattle.hay_shared_volume.specs.declared.answers.Flush.TheVariants as flush
use Rattle.hay_shared_volume.specs.declared.answers.Begin.{Begin}
use Rattle.hay_shared_volume.specs.declared.answers.Begin.TheVariants as begin
use Rattle.hay_shared_volume.specs.declared.answers.Step.{Step}
use Rattle.hay_shared_volume.specs.declared.answers.Step.TheVariants as step
use Rattle.hay_shared_volume.specs.declared.answers.Finish.{Finish}
use Rattle.hay_shared_volume.specs.declared.answers.Finish.TheVariants as finish
use Rattle.hay_shared_volume.specs.declared.answers.Compaction.{Compaction}
use Rattle.hay_shared_volume.specs.declared.answers.Compaction.TheVariants as compaction

module _ (settings : Settings) (v : ℕ) where
  abbrev pub NamesRoom : ℕ → Room → Type 0
  NamesRoom size room.Fits = Unit {0}
  NamesRoom size (room.Frozen m) = IsMachineOf settings v m
  NamesRoom size (room.Lacks m end need) = IsMachineOf settings v m × HasNoRoom settings size end need

  abbrev pub NamesPut : ℕ → Put → Type 0
  NamesPut size (put.Stored p) = Unit {0}
  NamesPut size (put.Frozen m) = IsMachineOf settings v m
  NamesPut size (put.Lacks m end need) = IsMachineOf settings v m × HasNoRoom settings size end need
  NamesPut size (put.Failed m f) = IsMachineOf settings v m
  NamesPut size put.NoMemory = Unit {0}

  abbrev pub NamesDelete : Delete → Type 0
  NamesDelete (delete.Deleted p) = Unit {0}
  NamesDelete (delete.Absent p) = Unit {0}
  NamesDelete (delete.Frozen m) = IsMachineOf settings v m
  NamesDelete (delete.Failed m f) = IsMachineOf settings v m
  NamesDelete (delete.Damaged m at) = IsMachineOf settings v m
  NamesDelete delete.NoMemory = Unit {0}

  abbrev pub NamesFlush : Flush → Type 0
  NamesFlush (flush.Flushed n) = Unit {0}
  NamesFlush (flush.Frozen m) = IsMachineOf settings v m
  NamesFlush flush.Stuck = Unit {0}
  NamesFlush (flush.Failed f) = Unit {0}
  NamesFlush flush.NoMemory = Unit {0}

  abbrev pub NamesBegin : Begin → Type 0
  NamesBegin (begin.Begun g) = Unit {0}
  NamesBegin (begin.Frozen m) = IsMachineOf settings v m
  NamesBegin (begin.Busy g) = Unit {0}
  NamesBegin begin.Worn = Unit {0}
  NamesBegin (begin.Failed f) = Unit {0}
  NamesBegin begin.NoMemory = Unit {0}

  abbrev pub NamesStep : Step → Type 0
  NamesStep (step.Stepped n) = Unit {0}
  NamesStep (step.Frozen m) = IsMachineOf settings v m
  NamesStep step.Idle = Unit {0}
  NamesStep (step.Failed f) = Unit {0}
  NamesStep (step.Damaged at) = Unit {0}
  NamesStep (step.NoMemory some) = Unit {0}

  abbrev pub NamesFinish : Finish → Type 0
  NamesFinish (finish.Compacted g) = Unit {0}
  NamesFinish (finish.Frozen m) = IsMachineOf settings v m
  NamesFinish finish.Idle = Unit {0}
  NamesFinish (finish.Failed f) = Unit {0}
  NamesFinish (finish.Poised f) = Unit {0}
  NamesFinish (finish.Damaged at) = Unit {0}
  NamesFinish finish.NoMemory = Unit {0}

  abbrev pub NamesCompaction : Compaction → Type 0
  NamesCompaction (compaction.Compacted g) = Unit {0}
  NamesCompaction (compaction.Frozen m) = IsMachineOf settings v m
  NamesCompaction (compaction.Deleted f) = Unit {0}
  NamesCompaction (compaction.Failed f) = Unit {0}
  NamesCompaction (compaction.Poised f) = Unit {0}
  NamesCompaction (compaction.Damaged at) = Unit {0}
  NamesCompaction compaction.NoMemory = Unit {0}
  NamesCompaction compaction.Idle = Unit {0}
