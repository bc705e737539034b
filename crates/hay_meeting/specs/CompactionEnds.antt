-- How a compaction that stood came to its end.
use Rattle.std.specs.Prelude.{◌≡◌, ℕ, Bool, false, List, ◌∷◌, ◌++◌, Some, None}
use mathlib.Core.List.{IsPrefix}
use Rattle.hay_disk.specs.Counts.{Rose}
use Rattle.hay_needle.specs.declared.settings.Settings.{Settings}
use Rattle.hay_core.specs.declared.entry.CoreTag.{CoreTag}
use Rattle.hay_core.specs.declared.entry.Entry.TheVariants as entry
use Rattle.hay_needle.specs.declared.needle.Pair.{Pair}
use Rattle.hay_legal.specs.declared.known.Run.{Run}
use Rattle.hay_legal.specs.Known.{replica_at}
use Rattle.hay_history.specs.LaneSteps.{HasRun, Standing}
use Rattle.hay_history.specs.LaneSteps.Did.{Ends, Entered, Swaps}
use Rattle.hay_meeting.specs.declared.act.VolumeAct.{VolumeAct}
use Rattle.hay_meeting.specs.Acts.{Start, begun_of, did_of, left_by, volume_lock}
use Rattle.hay_meeting.specs.Facts.{RanUntilAt}
use Rattle.hay_meeting.specs.Locks.{Doing, left, past}
use Rattle.hay_meeting.specs.Sights.{Sight, stood}

-- A run of replica j stood before an act, and none stands behind it.
pub data HowEnded (j : ℕ) (act : VolumeAct) (before after : Standing) : Type 0 where
  -- a delete whose call at the replica's disk failed
  ByDelete : (pair : Pair) → did_of act.did ≡ Entered (entry.Del pair) → Rose (before.faults j) (after.faults j) → (after.volume).frozen ≡ None → HowEnded j act before after
  -- the volume was frozen
  ByFreeze : (m : ℕ) → (after.volume).frozen ≡ Some m → HowEnded j act before after
  -- it was ended, or its files were made the current ones
  ByEnd : did_of act.did ≡ Ends j → HowEnded j act before after
  BySwap : (end cells : ℕ) → did_of act.did ≡ Swaps j end cells false → HowEnded j act before after

-- the act among these that ended it, which stood until then, and which no other line had begun anew
pub record RunEnded (before : Standing) (j : ℕ) (tag : CoreTag) (acts : List VolumeAct) : Type 0 where
  pub held : List VolumeAct
  pub act : VolumeAct
  pub later : List VolumeAct
  pub parts : acts ≡ held ++ act ∷ later
  pub run : Run
  pub stood : HasRun (left volume_lock before held) j run
  pub begun : begun_of j tag held ≡ tag
  pub none : (replica_at (left_by act (left volume_lock before held)).volume j).run ≡ None
  pub how : HowEnded j act (left volume_lock before held) (left_by act (left volume_lock before held))

-- As a lane found it: the act that ended its line's compaction lies behind what the one holding had found, and is among what the other found.
pub record FoundEnded (settings : Settings) (start : Start) (drained : List Bool) (a b : Sight) (v j : ℕ) (tag : CoreTag) (held : List VolumeAct) : Type 0 where
  pub until : Doing VolumeAct
  pub ran : RanUntilAt settings start drained a b v j until tag
  pub behind : IsPrefix held until.held
  pub how : HowEnded j until.act (stood start v until.held) (stood start v (past until))
