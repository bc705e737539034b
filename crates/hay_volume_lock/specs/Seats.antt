-- A lane's seat at a volume, and what a holding gives it.
use Rattle.std.specs.Prelude.{◌≡◌, ℕ, ◌<◌, Bool, true, false, List, [], ◌++◌, length, slice_get, Option, Some}
use mathlib.Core.List.{IsPrefix}
use Rattle.hay_core.specs.declared.entry.CoreTag.{CoreTag}
use Rattle.hay_core.specs.declared.entry.Entry.{Entry}
use Rattle.hay_disk.specs.Disk.{Files}
use Rattle.hay_front.specs.Fronts.{Witness}
use Rattle.hay_logical.specs.Volumes.{Volume}
use Rattle.hay_meeting.specs.declared.act.VolumeAct.{VolumeAct}
use Rattle.hay_meeting.specs.Acts.{volume_lock}
use Rattle.hay_meeting.specs.Locks.{LockSight, entries}
use Rattle.hay_turn.specs.Acts.{acts_of}
use Rattle.hay_turn.specs.Seats.{SeatState, TurnId}
use Rattle.hay_views.specs.declared.places.Published.{Published}
use Rattle.hay_views.specs.MapPasts.{MapPast}
use Rattle.hay_volume_lock.specs.Keeping.{IsKept, IsOpened}
use Rattle.hay_volume_lock.specs.declared.guarded.Guarded.{Guarded}
use Rattle.hay_volume_lock.specs.declared.guarded.Opened.{Opened}

-- which lock it is of, its number and how many seats there are, what stood where the lock was made, whether it holds the volume, and
-- what its lane knows of it
pub record Seated (D P : Type 0) : Type 0 where
  pub lock : TurnId
  pub number : ℕ
  pub seats : ℕ
  pub start : Option (Opened D P)
  pub holds : Bool
  pub sight : LockSight VolumeAct Entry

-- The start is there, and the view is the one of its rows; so many changes were made before it. All that was seen of acts of its number
-- is its own.
pub record IsSeated {D P : Type 0} (turn : SeatState (Opened D P) VolumeAct) (stood : ℕ) (view : Witness (MapPast P (Volume D P)) (Volume D P) (Published P)) : Type 0 where
  pub opened : Opened D P
  pub is : turn.start ≡ Some opened
  pub from : IsOpened opened
  pub stood_is : stood ≡ (opened.volume).front
  pub front : view.front ≡ (opened.view).front
  pub base : view.base ≡ (opened.view).base
  pub own : acts_of volume_lock.seat turn.number turn.seen ≡ turn.own

-- a seat of this lock, which does not hold the volume
pub record Rests {D P : Type 0} (lock : TurnId) (seat : Seated D P) : Type 0 where
  pub own : seat.lock ≡ lock
  pub rests : seat.holds ≡ false

-- and has the number of the line's lane
pub record MayAct {D P : Type 0} (lock : TurnId) (tag : CoreTag) (seat : Seated D P) : Type 0 where
  pub rests : Rests lock seat
  pub lane : seat.number ≡ tag.lane

-- the replica is one of the volume's
abbrev pub HasReplica : {D P : Type 0} → Seated D P → ℕ → Type 0
HasReplica {D} {P} seat j = (opened : Opened D P) → seat.start ≡ Some opened → j < ((opened.volume).settings).replicas

-- nothing changed but what its lane knows of the volume
abbrev pub IsSameSeat : {D P : Type 0} → Seated D P → Seated D P → Type 0
IsSameSeat old new = new ≡ record old { sight = new.sight }

-- the seat once these acts were found
abbrev pub holding : {D P : Type 0} → Seated D P → List VolumeAct → Seated D P
holding seat held = record seat { holds = true; sight = record { seen = held; own = (seat.sight).own; shown = entries volume_lock held } }

-- and once it made some more
abbrev pub freed : {D P : Type 0} → Seated D P → List VolumeAct → Seated D P
freed seat made = record seat { holds = false; sight = record seat.sight { seen = (seat.sight).seen ++ made; own = (seat.sight).own ++ made } }

-- it holds what stands behind all that it had seen and more
pub record Takes {D P : Type 0} (Tells : Type 0) (files : D → Files) (PieceTells : Type 0) (faults fuses : D → ℕ) (old new : Seated D P) (kept : Guarded D P) : Type 0 where
  pub opened : Opened D P
  pub start : old.start ≡ Some opened
  pub is_kept : IsKept Tells files PieceTells faults fuses opened (new.sight).seen kept
  pub same : new ≡ holding old (new.sight).seen
  pub seen : IsPrefix (old.sight).seen (new.sight).seen
  pub shown : IsPrefix (old.sight).shown (entries volume_lock (new.sight).seen)

-- the seat of this number, of so many, which has seen nothing and done nothing
abbrev pub new_seat : {D P : Type 0} → TurnId → Opened D P → ℕ → ℕ → Seated D P
new_seat lock opened n i = record { lock = lock; number = i; seats = n; start = Some opened; holds = false; sight = record { seen = []; own = []; shown = [] } }

-- these are all seats of a lock that was made round this volume
pub record AreNew {D P : Type 0} (lock : TurnId) (volume : Volume D P) (n : ℕ) (seats : List (Seated D P)) : Type 0 where
  pub opened : Opened D P
  pub from : IsOpened opened
  pub own : opened.volume ≡ volume
  pub count : length seats ≡ n
  pub each : (i : ℕ) (s : Seated D P) → slice_get seats i ≡ Some s → s ≡ new_seat lock opened n i
