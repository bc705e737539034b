-- What a seat knows where its lock is made, and what all seats know where it ends.
use Rattle.std.specs.Prelude.{◌≡◌, ℕ, List, [], length, filter_map, slice_get, Option, Some, None}
use mathlib.Core.List.{IsPrefix}
use Rattle.hay_core.specs.declared.entry.Entry.{Entry}
use Rattle.hay_turn.specs.Acts.{acts_of, AllBelow}
use Rattle.hay_meeting.specs.declared.act.VolumeAct.{VolumeAct}
use Rattle.hay_meeting.specs.Acts.{entry_of}
use Rattle.hay_meeting.specs.Locks.{Lock, LockSight, entries}

-- what a seat knows of a lock that was just made
abbrev pub unseen : {E X : Type 0} → LockSight E X
unseen = record { seen = []; own = []; shown = [] }

-- All acts at a lock that ends with these seats, in the order of their lanes: it begins with what each has seen, and shows what each was
-- shown; each act is an own one of a seat, and each own one stands in it once.
pub record Ended {S E X T : Type 0} (lock : Lock S E X T) (seats : List (LockSight E X)) (history : List E) : Type 0 where
  pub own : (lane : ℕ) (s : LockSight E X) → slice_get seats lane ≡ Some s → acts_of lock.seat lane history ≡ s.own
  pub below : AllBelow lock.seat (length seats) history
  pub seen : (lane : ℕ) (s : LockSight E X) → slice_get seats lane ≡ Some s → IsPrefix s.seen history
  pub shown : (lane : ℕ) (s : LockSight E X) → slice_get seats lane ≡ Some s → IsPrefix s.shown (entries lock history)

-- the lines whose changes were entered, in their order
abbrev pub entered_line : VolumeAct → Option ℕ
entered_line act = line_if (entry_of act.did)
  where
    line_if : Option Entry → Option ℕ
    line_if (Some change) = Some ((act.tag).line)
    line_if None = None

abbrev pub entered_lines : List VolumeAct → List ℕ
entered_lines acts = filter_map entered_line acts
