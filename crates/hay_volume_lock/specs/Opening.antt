-- What a lock is made of, and what is left when it ends.
use Rattle.std.specs.Prelude.{◌≡◌, ℕ, ◌<◌, false, List, [], length, slice_get, Some}
use mathlib.Core.List.{IsPrefix}
use Rattle.hay_disk.specs.Disk.{Files}
use Rattle.hay_front.specs.Entries.{LogEntry}
use Rattle.hay_front.specs.Fronts.{FrontState}
use Rattle.hay_front.specs.declared.front.Tag.{Tag}
use Rattle.hay_logical.specs.Volumes.{Volume}
use Rattle.hay_map.specs.MapRows.{MapRows}
use Rattle.hay_map.specs.Rows.{row_at}
use Rattle.hay_meeting.specs.declared.act.VolumeAct.{VolumeAct}
use Rattle.hay_meeting.specs.Acts.{volume_lock}
use Rattle.hay_meeting.specs.Locks.{entries}
use Rattle.hay_needle.specs.declared.needle.Pair.{Pair}
use Rattle.hay_turn.specs.Acts.{AllBelow, acts_of}
use Rattle.hay_turn.specs.Seats.{TurnId}
use Rattle.hay_views.specs.declared.places.Published.{Published}
use Rattle.hay_views.specs.MapPasts.{MapPast, begun_at}
use Rattle.hay_volume_lock.specs.Keeping.{IsKept, tags_of}
use Rattle.hay_volume_lock.specs.Seats.{Rests, Seated}
use Rattle.hay_volume_lock.specs.declared.guarded.Guarded.{Guarded}
use Rattle.hay_volume_lock.specs.declared.guarded.Opened.{Opened}

abbrev pub PlaceFront : Type 0 → Type 0 → Type 0
PlaceFront D P = FrontState (MapPast P (Volume D P)) (Volume D P) (Published P) (LogEntry (Published P))

-- the volume's rows as they stand, with no change
pub record IsFirst {D P : Type 0} (volume : Volume D P) (past : MapPast P (Volume D P)) : Type 0 where
  pub rows : MapRows P
  pub width : rows.replicas ≡ (volume.settings).replicas
  pub same : (pair : Pair) → row_at rows pair ≡ row_at volume.rows pair
  pub is : past ≡ begun_at volume rows

-- a front of them, at which nothing was published
pub record ShowsFirst {D P : Type 0} (volume : Volume D P) (front : PlaceFront D P) : Type 0 where
  pub past : MapPast P (Volume D P)
  pub first : IsFirst volume past
  pub base : (front.shown).base ≡ Some (past, volume)
  pub blank : (front.shown).deeds ≡ []
  pub log : front.log ≡ []
  pub serves : front.closed ≡ false

-- a seat of this number, of so many, that rests
pub record IsOne {D P : Type 0} (lock : TurnId) (opened : Opened D P) (n i : ℕ) (seat : Seated D P) : Type 0 where
  pub rests : Rests lock seat
  pub number : seat.number ≡ i
  pub seats : seat.seats ≡ n
  pub start : seat.start ≡ Some opened

-- these are all seats of the lock, in the order of their numbers
pub record AreSeated {D P : Type 0} (lock : TurnId) (opened : Opened D P) (seats : List (Seated D P)) : Type 0 where
  pub some : 0 < length seats
  pub each : (i : ℕ) (s : Seated D P) → slice_get seats i ≡ Some s → IsOne lock opened (length seats) i s

-- The volume is what one history left, with the tags of the changes that it entered: it begins with what each seat has seen, and
-- shows what each was shown; each act in it is an own act of one of them, and each own act stands in it once.
pub record Closes {D P : Type 0} (Tells : Type 0) (files : D → Files) (PieceTells : Type 0) (faults fuses : D → ℕ) (opened : Opened D P) (seats : List (Seated D P))
    (volume : Volume D P) (tags : List Tag) : Type 0 where
  pub history : List VolumeAct
  pub own : (i : ℕ) (s : Seated D P) → slice_get seats i ≡ Some s → acts_of volume_lock.seat i history ≡ (s.sight).own
  pub below : AllBelow volume_lock.seat (length seats) history
  pub seen : (i : ℕ) (s : Seated D P) → slice_get seats i ≡ Some s → IsPrefix (s.sight).seen history
  pub shown : (i : ℕ) (s : Seated D P) → slice_get seats i ≡ Some s → IsPrefix (s.sight).shown (entries volume_lock history)
  pub kept : Guarded D P
  pub stands : IsKept Tells files PieceTells faults fuses opened history kept
  pub is : kept.logical ≡ volume
  pub tags_are : tags ≡ tags_of history
