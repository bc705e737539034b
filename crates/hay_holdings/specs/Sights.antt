-- One call of a line, as a step from what its lane knew of all locks to what it knows then, and what a line made of several.
use Rattle.std.specs.Prelude.{◌≡◌, ◌≢◌, ◌⊎◌, ℕ, ◌^◌, ◌<◌, ◌≤◌, ◌==◌, cond, List, []}
use Rattle.hay_core.specs.declared.entry.CoreTag.{CoreTag}
use Rattle.hay_meeting.specs.declared.act.DirAct.{DirAct}
use Rattle.hay_meeting.specs.declared.act.VolumeAct.{VolumeAct}
use Rattle.hay_meeting.specs.Acts.{row_lock, volume_lock}
use Rattle.hay_meeting.specs.Locks.{Doing, Worked}
use Rattle.hay_meeting.specs.Sights.{Doings, Sight}
use Rattle.hay_holdings.specs.Volumes.{VolumeCall}
use Rattle.hay_holdings.specs.Rows.{DirectoryCall}

-- a call at this volume
pub record AtVolume (v : ℕ) (Is : VolumeCall) (s t : Sight) : Type 0 where
  pub is : Is (s.volumes v) (t.volumes v)
  pub others : (u : ℕ) → u ≢ v → t.volumes u ≡ s.volumes u
  pub directory : t.directory ≡ s.directory
  pub arm : t.arm ≡ s.arm

-- a call at the Directory
pub record AtDirectory (Is : DirectoryCall) (s t : Sight) : Type 0 where
  pub is : Is s.directory t.directory
  pub volumes : (v : ℕ) → t.volumes v ≡ s.volumes v
  pub arm : t.arm ≡ s.arm

-- fetches at the lane's arm
pub record AtArm (s t : Sight) : Type 0 where
  pub volumes : (v : ℕ) → t.volumes v ≡ s.volumes v
  pub directory : t.directory ≡ s.directory
  pub arm : s.arm ≤ t.arm
  pub most : (t.arm ≡ s.arm) ⊎ (t.arm < 2 ^ 64)

-- doings of a line on one volume, and on the Directory
abbrev pub on_volume : ℕ → List (Doing VolumeAct) → ℕ → List (Doing VolumeAct)
on_volume v doings u = cond (u == v) doings []

abbrev pub doings_at : ℕ → List (Doing VolumeAct) → List (Doing DirAct) → Doings
doings_at v doings rows = record { volumes = on_volume v doings; rows = rows }

abbrev pub only_rows : List (Doing DirAct) → Doings
only_rows rows = record { volumes = λ v. []; rows = rows }

abbrev pub no_doings : Doings
no_doings = only_rows []

-- This is what a line did on each lock between two sights of its lane.
pub record Went (tag : CoreTag) (a b : Sight) (doings : Doings) : Type 0 where
  pub volumes : (v : ℕ) → Worked volume_lock tag (a.volumes v) (b.volumes v) (doings.volumes v)
  pub directory : Worked row_lock tag a.directory b.directory doings.rows
  pub arm : a.arm ≤ b.arm

-- it made no act
abbrev pub Idle : CoreTag → Sight → Sight → Type 0
Idle tag a b = Went tag a b no_doings
