-- The locks of a block while they are made one behind the other, and ended in the opposite order.
use Rattle.std.specs.Prelude.{◌≡◌, ℕ, ◌+◌, ◌-◌, ◌<◌, ◌≤◌, Bool, List, [], ◌∷◌, ◌++◌, length, map, slice_get, vec_capacity, Vec, Some}
use Rattle.std.specs.Global.{Global}
use Rattle.std.specs.List.{AllByRecursion as Each}
use Rattle.hay_needle.specs.declared.settings.Settings.{Settings}
use Rattle.hay_needle.specs.declared.settings.TheConstants.{MAX_REPLICAS}
use Rattle.hay_core.specs.declared.entry.Entry.{Entry}
use Rattle.hay_front.specs.declared.front.Tag.{Tag}
use Rattle.hay_reply.specs.declared.Reply.{Reply}
use Rattle.hay_legal.specs.declared.known.HomeRow.{HomeRow}
use Rattle.hay_legal.specs.declared.known.VolumeKnown.{VolumeKnown}
use Rattle.hay_lanes.specs.Lanes.{AnswersLanes}
use Rattle.hay_meeting.specs.declared.act.DirAct.{DirAct}
use Rattle.hay_meeting.specs.declared.act.VolumeAct.{VolumeAct}
use Rattle.hay_meeting.specs.Acts.{Start}
use Rattle.hay_meeting.specs.Locks.{LockSight}
use Rattle.hay_lane.specs.declared.lane.Lane.{Lane}
use Rattle.hay_lane.specs.declared.lane.Shared.{Shared}
use Rattle.hay_lane.specs.Lanes.{IsSeated}
use Rattle.hay_shared_volume.specs.Tellings.{StoreVolume}
use Rattle.hay_block.specs.declared.block.Locked.{Locked}
use Rattle.hay_block.specs.declared.block.Rooms.{Rooms}
use Rattle.hay_block.specs.declared.frame.Frame.{Frame}
use Rattle.hay_block.specs.declared.worker.Job.{Job}
use Rattle.hay_block.specs.Lines.{Answers}
use Rattle.hay_shared_volume.specs.Making.{AreAt, AreUnseen, IsRegularVolume, LeavesVolume}
use Rattle.hay_block.specs.Seats.{AreSeatsAt, HaveMore}
use Rattle.hay_block.specs.Stores.{AreStill}

-- limits of settings that lanes need
pub record AreFit (settings : Settings) : Type 0 where
  pub machines : 0 < settings.machines
  pub some : 0 < settings.volumes
  pub replicas : 0 < settings.replicas
  pub fewer : settings.replicas ≤ settings.machines
  pub few : settings.replicas ≤ MAX_REPLICAS

-- LANES THAT HAVE THE FIRST SEATS

-- a lane has the seats that another one has at the first i volumes, its seat at the Directory, and its arm
pub record HasFirst {S T A : Type 0} (i : ℕ) (all lane : Lane S T A) : Type 0 where
  pub seats : (v : ℕ) → v < i → slice_get (lane.volumes).items v ≡ slice_get (all.volumes).items v
  pub directory : lane.directory ≡ all.directory
  pub arm : lane.arm ≡ all.arm

-- so does each, in the lanes' order
pub record HaveFirst {S T A : Type 0} (i : ℕ) (all lanes : List (Lane S T A)) : Type 0 where
  pub many : length lanes ≡ length all
  pub each : (n : ℕ) (l m : Lane S T A) → slice_get all n ≡ Some l → slice_get lanes n ≡ Some m → HasFirst i l m

-- the locks are the same, and what lanes share beside them
pub record AreSameLocks {V D : Type 0} (old new : Shared V D) : Type 0 where
  pub settings : new.settings ≡ old.settings
  pub volumes : (new.volumes).items ≡ (old.volumes).items
  pub directory : new.directory ≡ old.directory
  pub drained : new.drained ≡ old.drained

-- a lane has its seats at the volumes that have locks, and at the Directory
pub record SitsFirst {V D S T A : Type 0} (fits : ℕ → V → Settings → ℕ → S → Type 0) (fits_rows : D → Settings → ℕ → T → Type 0) (shared : Shared V D) (number : ℕ) (lane : Lane S T A) : Type 0 where
  pub long : length (lane.volumes).items ≡ length (shared.volumes).items
  pub each : (v : ℕ) (lock : V) (seat : S) → slice_get (shared.volumes).items v ≡ Some lock → slice_get (lane.volumes).items v ≡ Some seat → fits v lock shared.settings number seat
  pub rows : fits_rows shared.directory shared.settings number lane.directory

module _ {V D S T A W : Type 0} (fits : ℕ → V → Settings → ℕ → S → Type 0) (fits_rows : D → Settings → ℕ → T → Type 0) (is_of : W → Settings → ℕ → Type 0) where
  -- The first volumes have locks, at which the lanes sit, and the others wait for one, the next of them last.
  pub record IsFrame (frame : Frame V D S T A W) : Type 0 where
    pub fit : AreFit (frame.shared).settings
    pub drains : length ((frame.shared).drained).items ≡ ((frame.shared).settings).machines
    pub all : length ((frame.shared).volumes).items + length (frame.waiting).items ≡ ((frame.shared).settings).volumes
    pub sits : (lane : ℕ) (l : Lane S T A) → slice_get (frame.lanes).items lane ≡ Some l → SitsFirst fits fits_rows frame.shared lane l
    pub waits : (i : ℕ) (w : W) → slice_get (frame.waiting).items i ≡ Some w → is_of w (frame.shared).settings (((frame.shared).settings).volumes - 1 - i)
    pub told : length (frame.tags).items ≤ length (frame.waiting).items
    pub lock_room : ((frame.shared).settings).volumes ≤ vec_capacity (frame.shared).volumes
    pub wait_room : ((frame.shared).settings).volumes ≤ vec_capacity frame.waiting
    pub tag_room : ((frame.shared).settings).volumes ≤ vec_capacity frame.tags

-- lanes have room for their seats at so many volumes
abbrev pub HaveRoom : {S T A : Type 0} → ℕ → List (Lane S T A) → Type 0
HaveRoom volumes lanes = Each (λ l. volumes ≤ vec_capacity l.volumes) lanes

-- what lanes share
abbrev pub shared_by : {V D : Type 0} → Settings → Vec V Global → D → Vec Bool Global → Shared V D
shared_by settings locks lock drained = record { settings = settings; volumes = locks; directory = lock; drained = drained }

-- and with these locks
abbrev pub with_locks : {V D : Type 0} → Shared V D → Vec V Global → Shared V D
with_locks shared locks = record shared { volumes = locks }

-- the frame with these locks and lanes, and with these volumes that wait
abbrev pub framed : {V D S T A W : Type 0} → Frame V D S T A W → Vec V Global → Vec (Lane S T A) Global → Vec W Global → Frame V D S T A W
framed frame locks lanes waiting = record frame { shared = with_locks frame.shared locks; lanes = lanes; waiting = waiting }

-- WHERE NO LINE WAS ANSWERED

-- lanes have their seats as before, and the volumes that wait stand for what they stood for
pub record IsBack {V D S T A W : Type 0} (stands : W → VolumeKnown → Type 0) (faults fuses : W → ℕ → ℕ) (old new : Frame V D S T A W) : Type 0 where
  pub lanes : HaveFirst (length ((old.shared).volumes).items) (old.lanes).items (new.lanes).items
  pub waiting : AreStill stands faults fuses (old.shared).settings (old.waiting).items (new.waiting).items

-- WHERE THE LINES WERE ANSWERED

module _ {V D S T A W : Type 0} (fits : ℕ → V → Settings → ℕ → S → Type 0) (fits_rows : D → Settings → ℕ → T → Type 0) (is_at : S → StoreVolume → Type 0) (is_at_rows : T → Start → Type 0)
    (of : S → LockSight VolumeAct Entry) (of_rows : T → LockSight DirAct HomeRow) (arm_sure : A → Bool) (arm_faults : A → ℕ) (stands : W → VolumeKnown → Type 0) (faults fuses : W → ℕ → ℕ) where
  -- Volume v, which waits at place i, got a lock and new seats, at which the lanes answered, and is back behind it.
  pub record VolumeTook (settings : Settings) (lanes after : List (Lane S T A)) (v i : ℕ) (old new : List W) (told : List (Vec Tag Global)) : Type 0 where
    pub before : W
    pub was : slice_get old i ≡ Some before
    pub behind : W
    pub is : slice_get new i ≡ Some behind
    pub tags : Vec Tag Global
    pub tags_are : slice_get told i ≡ Some tags
    pub regular : (known : VolumeKnown) → stands before known → IsRegularVolume settings known
    pub seats : List S
    pub of_lanes : AreSeatsAt v lanes seats
    pub unseen : AreUnseen of seats
    pub at : AreAt is_at stands faults fuses settings v before seats
    pub ended : List S
    pub of_after : AreSeatsAt v after ended
    pub left : LeavesVolume of stands faults fuses settings v before ended behind tags.items

  -- The lock of volume v, which had been made of this one and was the last, has ended with its seats, and its volume waits again.
  pub record EndsLast (v : ℕ) (before : W) (old new : Frame V D S T A W) : Type 0 where
    pub lock : V
    pub locks : ((old.shared).volumes).items ≡ ((new.shared).volumes).items ++ lock ∷ []
    pub settings : (new.shared).settings ≡ (old.shared).settings
    pub directory : (new.shared).directory ≡ (old.shared).directory
    pub drained : (new.shared).drained ≡ (old.shared).drained
    pub seats : List S
    pub lanes : HaveMore (new.lanes).items seats (old.lanes).items
    pub as_many : length seats ≡ length (new.lanes).items
    pub behind : W
    pub waiting : (new.waiting).items ≡ (old.waiting).items ++ behind ∷ []
    pub tags : Vec Tag Global
    pub told : (new.tags).items ≡ (old.tags).items ++ tags ∷ []
    pub left : LeavesVolume of stands faults fuses (old.shared).settings v before seats behind tags.items

  -- The other volumes got their locks too, lanes that sit at all of them answered these jobs, and those locks have ended.
  pub record RanFrom (old new : Frame V D S T A W) (jobs : List (List Job)) (replies : List (List Reply)) : Type 0 where
    pub locks : Vec V Global
    pub first : (v : ℕ) → v < length ((old.shared).volumes).items → slice_get locks.items v ≡ slice_get ((old.shared).volumes).items v
    pub lanes : List (Lane S T A)
    pub before : HaveFirst (length ((old.shared).volumes).items) lanes (old.lanes).items
    pub seated : (lane : ℕ) (l : Lane S T A) → slice_get lanes lane ≡ Some l → IsSeated fits fits_rows (with_locks old.shared locks) lane l
    pub after : List (Lane S T A)
    pub answers : AnswersLanes (λ before lane job behind reply. Answers fits fits_rows is_at is_at_rows of of_rows arm_sure arm_faults (with_locks old.shared locks) lane job before
        behind reply) lanes jobs after replies
    pub behind : HaveFirst (length ((old.shared).volumes).items) after (new.lanes).items
    pub volumes : (v : ℕ) → length ((old.shared).volumes).items ≤ v → v < ((old.shared).settings).volumes
        → VolumeTook (old.shared).settings lanes after v (((old.shared).settings).volumes - 1 - v) (old.waiting).items (new.waiting).items (new.tags).items
    pub all_told : length (new.tags).items ≡ length (new.waiting).items

  -- ALL VOLUMES, from the first lock to the end of the last

  -- Lanes with these seats at the Directory's lock and these arms answered, by locks that were made of these volumes; that is what they
  -- have and what is left of the volumes then, with the tags of their changes.
  pub record RanAll (settings : Settings) (lock : D) (drained : Vec Bool Global) (volumes : List W) (seats : List T) (arms : List A)
      (behind : List W) (tags : List (Vec Tag Global)) (seats_behind : List T) (arms_behind : List A) (jobs : List (List Job)) (replies : List (List Reply)) : Type 0 where
    pub locks : Vec V Global
    pub lanes : List (Lane S T A)
    pub seats_are : map (λ l. l.directory) lanes ≡ seats
    pub arms_are : map (λ l. l.arm) lanes ≡ arms
    pub seated : (lane : ℕ) (l : Lane S T A) → slice_get lanes lane ≡ Some l → IsSeated fits fits_rows (shared_by settings locks lock drained) lane l
    pub after : List (Lane S T A)
    pub seats_behind_are : map (λ l. l.directory) after ≡ seats_behind
    pub arms_behind_are : map (λ l. l.arm) after ≡ arms_behind
    pub answers : AnswersLanes (λ before lane job behind reply. Answers fits fits_rows is_at is_at_rows of of_rows arm_sure arm_faults (shared_by settings locks lock drained) lane
        job before behind reply)
        lanes jobs after replies
    pub took : (v : ℕ) → v < settings.volumes → VolumeTook settings lanes after v v volumes behind tags
    pub many_told : length tags ≡ settings.volumes

-- ROOM FOR A BLOCK

-- for so many lanes and volumes
pub record HasRoom {V S T A : Type 0} (lanes volumes : ℕ) (rooms : Rooms V S T A) : Type 0 where
  pub locks : ((rooms.locks).items ≡ []) × (volumes ≤ vec_capacity rooms.locks)
  pub many_seats : length (rooms.seats).items ≡ lanes
  pub seats : Each (λ room. (room.items ≡ []) × (volumes ≤ vec_capacity room)) (rooms.seats).items
  pub lanes_room : ((rooms.lanes).items ≡ []) × (lanes ≤ vec_capacity rooms.lanes)
  pub tags : ((rooms.tags).items ≡ []) × (volumes ≤ vec_capacity rooms.tags)
  pub directory : ((rooms.directory).items ≡ []) × (lanes ≤ vec_capacity rooms.directory)
  pub arms : ((rooms.arms).items ≡ []) × (lanes ≤ vec_capacity rooms.arms)

-- the seats and the arms are as before, and the volumes stand for what they stood for
pub record IsSameStore {D T A W : Type 0} (stands : W → VolumeKnown → Type 0) (faults fuses : W → ℕ → ℕ) (settings : Settings) (old new : Locked D T A W) : Type 0 where
  pub seats : (new.seats).items ≡ (old.seats).items
  pub volumes : AreStill stands faults fuses settings (old.volumes).items (new.volumes).items
  pub arms : (new.arms).items ≡ (old.arms).items
