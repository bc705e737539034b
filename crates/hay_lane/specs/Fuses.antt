-- Lanes that set no fuse.
use Rattle.std.specs.Prelude.{◌≡◌, ◌≢◌, ℕ, List, slice_get, Some}
use Rattle.std.specs.List.{AllByRecursion as Each}
use Rattle.hay_core.specs.declared.entry.Entry.{Entry}
use Rattle.hay_legal.specs.declared.known.HomeRow.{HomeRow}
use Rattle.hay_meeting.specs.declared.act.DirAct.{DirAct}
use Rattle.hay_meeting.specs.declared.act.DirDid.TheVariants as row_did
use Rattle.hay_meeting.specs.declared.act.VolumeAct.{VolumeAct}
use Rattle.hay_meeting.specs.Locks.{LockSight}
use Rattle.hay_volume_lock.specs.Acts.{SetNoFuse}
use Rattle.hay_lane.specs.declared.lane.Lane.{Lane}

-- none of these acts set a fuse on the Directory's disk
abbrev pub SetNoRowFuse : List DirAct → Type 0
SetNoRowFuse acts = Each (λ act. act.did ≢ row_did.FusesRow) acts

-- none of the lane's own acts at any lock set one
pub record IsUnfused {S T A : Type 0} (of : S → LockSight VolumeAct Entry) (of_rows : T → LockSight DirAct HomeRow) (lane : Lane S T A) : Type 0 where
  pub volumes : (v : ℕ) (seat : S) → slice_get (lane.volumes).items v ≡ Some seat → SetNoFuse (of seat).own
  pub rows : SetNoRowFuse (of_rows lane.directory).own
