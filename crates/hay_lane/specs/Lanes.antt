-- A lane at the locks that are shared, and what it knows of them.
use Rattle.std.specs.Prelude.{◌≡◌, ℕ, ◌<◌, ◌≤◌, Bool, [], length, slice_get, Option, Some, None}
use Rattle.hay_disk.specs.Counts.{StaysSure}
use Rattle.hay_needle.specs.declared.settings.Settings.{Settings}
use Rattle.hay_needle.specs.declared.settings.TheConstants.{MAX_REPLICAS}
use Rattle.hay_core.specs.declared.entry.Entry.{Entry}
use Rattle.hay_legal.specs.declared.known.HomeRow.{HomeRow}
use Rattle.hay_meeting.specs.declared.act.DirAct.{DirAct}
use Rattle.hay_meeting.specs.declared.act.VolumeAct.{VolumeAct}
use Rattle.hay_meeting.specs.Acts.{Start}
use Rattle.hay_meeting.specs.Locks.{LockSight}
use Rattle.hay_meeting.specs.Sights.{Sight}
use Rattle.hay_lane.specs.declared.lane.Lane.{Lane}
use Rattle.hay_lane.specs.declared.lane.Shared.{Shared}
use Rattle.hay_shared_volume.specs.Tellings.{StoreVolume}

-- WHAT IT KNOWS

-- of a volume at which it has this seat, if it has one
abbrev pub known_by : {S : Type 0} → (S → LockSight VolumeAct Entry) → Option S → LockSight VolumeAct Entry
known_by of None = record { seen = []; own = []; shown = [] }
known_by of (Some seat) = of seat

abbrev pub sight : {S T A : Type 0} → (S → LockSight VolumeAct Entry) → (T → LockSight DirAct HomeRow) → (A → ℕ) → Lane S T A → Sight
sight of of_rows faults lane = record {
  volumes = λ v. known_by of (slice_get (lane.volumes).items v);
  directory = of_rows lane.directory;
  arm = faults lane.arm;
}

-- HOW ITS ARM STANDS

-- the count of an arm did not fall, and where the arm was sure it stayed so, with the same count
pub record IsLaterArm {A : Type 0} (is_sure : A → Bool) (faults : A → ℕ) (old new : A) : Type 0 where
  pub rises : faults old ≤ faults new
  pub sure : StaysSure (is_sure old) (is_sure new) (faults old) (faults new)

-- WHERE IT HAS ITS SEATS

-- a lock and a seat of it for each volume, and the Directory's
pub record IsSeated {V D S T A : Type 0} (fits : ℕ → V → Settings → ℕ → S → Type 0) (fits_rows : D → Settings → ℕ → T → Type 0)
    (shared : Shared V D) (number : ℕ) (lane : Lane S T A) : Type 0 where
  pub machines : 0 < (shared.settings).machines
  pub some : 0 < (shared.settings).volumes
  pub replicas : 0 < (shared.settings).replicas
  pub fewer : (shared.settings).replicas ≤ (shared.settings).machines
  pub few : (shared.settings).replicas ≤ MAX_REPLICAS
  pub drains : length (shared.drained).items ≡ (shared.settings).machines
  pub locks : length (shared.volumes).items ≡ (shared.settings).volumes
  pub seats : length (lane.volumes).items ≡ (shared.settings).volumes
  pub each : (v : ℕ) (volume : V) (seat : S) → slice_get (shared.volumes).items v ≡ Some volume → slice_get (lane.volumes).items v ≡ Some seat → fits v volume shared.settings number seat
  pub rows : fits_rows shared.directory shared.settings number lane.directory

-- these locks were made round a store that stood so
pub record IsOf {S T A : Type 0} (is_at : S → StoreVolume → Type 0) (is_at_rows : T → Start → Type 0) (settings : Settings) (start : Start) (lane : Lane S T A) : Type 0 where
  pub each : (v : ℕ) (seat : S) → slice_get (lane.volumes).items v ≡ Some seat → is_at seat (record { settings = settings; start = start; number = v })
  pub rows : is_at_rows lane.directory start
