-- The seats of all lanes at one lock.
use Rattle.std.specs.Prelude.{◌≡◌, ℕ, List, [], ◌∷◌, ◌++◌, length, Some, slice_get, vec_capacity}
use Rattle.std.specs.List.{AllZip}
use Rattle.hay_core.specs.declared.entry.Entry.{Entry}
use Rattle.hay_legal.specs.declared.known.HomeRow.{HomeRow}
use Rattle.hay_meeting.specs.declared.act.DirAct.{DirAct}
use Rattle.hay_meeting.specs.declared.act.VolumeAct.{VolumeAct}
use Rattle.hay_meeting.specs.Locks.{LockSight}
use Rattle.hay_lane.specs.declared.lane.Lane.{Lane}
use Rattle.hay_shared_volume.specs.Ends.{unseen}

-- the lanes have these seats at the volume, in the lanes' order
abbrev pub AreSeatsAt : {S T A : Type 0} → ℕ → List (Lane S T A) → List S → Type 0
AreSeatsAt v lanes seats = AllZip (λ lane seat. slice_get (lane.volumes).items v ≡ Some seat) lanes seats

-- a lane all of whose seats are new
pub record HasNewSeats {S T A : Type 0} (of : S → LockSight VolumeAct Entry) (of_rows : T → LockSight DirAct HomeRow) (lane : Lane S T A) : Type 0 where
  pub volumes : (v : ℕ) (seat : S) → slice_get (lane.volumes).items v ≡ Some seat → of seat ≡ unseen
  pub directory : of_rows lane.directory ≡ unseen

-- A lane has one seat more than before, which is at the next volume.
pub record HasMore {S T A : Type 0} (seat : S) (old new : Lane S T A) : Type 0 where
  pub seats : (new.volumes).items ≡ (old.volumes).items ++ seat ∷ []
  pub room : vec_capacity new.volumes ≡ vec_capacity old.volumes
  pub directory : new.directory ≡ old.directory
  pub arm : new.arm ≡ old.arm

-- So it is of each lane with its seat, in the lanes' order.
pub record HaveMore {S T A : Type 0} (old : List (Lane S T A)) (seats : List S) (new : List (Lane S T A)) : Type 0 where
  pub many : length new ≡ length old
  pub each : (i : ℕ) (l m : Lane S T A) (seat : S) → slice_get old i ≡ Some l → slice_get new i ≡ Some m → slice_get seats i ≡ Some seat → HasMore seat l m
