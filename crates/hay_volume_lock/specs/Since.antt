-- What holds of a compaction since it began.
use Rattle.std.specs.Prelude.{◌≡◌, ℕ, List}
use mathlib.Core.List.{IsPrefix}
use Rattle.hay_legal.specs.declared.known.Run.{Run}
use Rattle.hay_history.specs.LaneSteps.{HasRun, Standing}
use Rattle.hay_history.specs.LaneSteps.Did.{Begins}
use Rattle.hay_meeting.specs.declared.act.VolumeAct.{VolumeAct}
use Rattle.hay_meeting.specs.Acts.{did_of, volume_lock}
use Rattle.hay_meeting.specs.Locks.{Doing, left, past}

-- so it is where a compaction of the replica stands, and no entry came since one began
abbrev pub SinceBegun : Standing → ℕ → List VolumeAct → Type 0 → Type 0
SinceBegun first j acts IsSo =
    (begins : Doing VolumeAct) → IsPrefix (past begins) acts → did_of (begins.act).did ≡ Begins j
    → ((left volume_lock first acts).volume).log ≡ ((left volume_lock first begins.held).volume).log → (run : Run) → HasRun (left volume_lock first acts) j run → IsSo
