-- A volume that a machine froze.
use Rattle.std.specs.Prelude.{ℕ, Option, Some, None}
use Rattle.hay_legal.specs.declared.known.Pending.{Pending}
use Rattle.hay_legal.specs.declared.known.VolumeKnown.{VolumeKnown}
use Rattle.hay_legal.specs.Plain as plain

-- the later change, if there is one
abbrev pub later_of : Option Pending → Option Pending → Option Pending
later_of before None = before
later_of before (Some pending) = Some pending

-- with the change that is pending now, if there is one
abbrev pub frozen_by : ℕ → Option Pending → VolumeKnown → VolumeKnown
frozen_by machine pending volume = record (plain.frozen_by machine volume) { pending = later_of volume.pending pending }
