-- When a volume is good: what its lists of needles, its maps and its readers have to do with its log.
use Rattle.std.specs.Prelude.{◌≡◌, ℕ, ◌≤◌, List, [], ◌∷◌, ◌++◌, length, take, Bool, true, false, if◌then◌else◌, Option, Some, None, is_some, not, ◌&&◌, nat_le}
use Rattle.std.specs.List.{AllByRecursion}
use Rattle.hay_needle.specs.declared.needle.Pair.{Pair}
use Rattle.hay_needle.specs.declared.needle.Outcome.{Outcome}
use Rattle.hay_needle.specs.declared.needle.Outcome.TheVariants as outcome
use Rattle.hay_needle.specs.declared.needle.Needle.{Needle}
use Rattle.hay_needle.specs.declared.needle.Row.{Row}
use Rattle.hay_needle.specs.Tables.{pair_eq, look, rows_of}
use Rattle.hay_needle.specs.Copies.{CopiesAt}
use Rattle.hay_core.specs.declared.entry.CoreTag.{CoreTag}
use Rattle.hay_core.specs.declared.entry.Entry.TheVariants as entry
use Rattle.hay_core.specs.declared.entry.Logged.{Logged}
use Rattle.hay_core.specs.declared.machine.Side.{Side}
use Rattle.hay_core.specs.declared.machine.Spot.{Spot}
use Rattle.hay_core.specs.declared.machine.Spot.TheVariants.{Absent, Live, Gone}
use Rattle.hay_core.specs.declared.machine.Doubt.{Doubt}
use Rattle.hay_core.specs.declared.machine.Doubt.TheVariants as doubt
use Rattle.hay_core.specs.declared.machine.Work.{Work}
use Rattle.hay_core.specs.declared.machine.Work.TheVariants as work
use Rattle.hay_core.specs.declared.machine.Hold.{Hold}
use Rattle.hay_core.specs.declared.machine.Reader.{Reader}
use Rattle.hay_core.specs.declared.machine.Core.{Core}
use Rattle.hay_core.specs.declared.calls.Effect.{Effect}
use Rattle.hay_core.specs.declared.calls.Effect.TheVariants.{Quiet, Doubts, Settles, MarksRows, SettlesRows, Repeats, Makes, Copies}
use Rattle.hay_core.specs.declared.calls.DeviceCall.{DeviceCall}
use Rattle.hay_core.specs.Entries.{rows_after, logged_row}
use Rattle.hay_core.specs.Spots.{spot_in, needle_at}
use Rattle.hay_core.specs.Calls.{call_of}
use Rattle.hay_core.specs.Sides.{files_of}
use Rattle.hay_core.specs.Transitions.{entry_list, change, change_in, change_of}

-- ONE SIDE, AT ONE PAIR

-- the spot has a needle whose photo is the outcome, or the outcome is nothing
abbrev pub ShowsIn : List (List Needle) → Spot → Outcome → Type 0
ShowsIn files Absent o = o ≡ outcome.Nothing
ShowsIn files Gone o = o ≡ outcome.Nothing
ShowsIn files (Live generation number) o = (n : Needle) × (needle_at files generation number ≡ Some n) × (o ≡ outcome.Photo n.photo)

abbrev pub Shows : Side → Spot → Outcome → Type 0
Shows s spot o = ShowsIn (files_of s) spot o

-- the rows with one change more
abbrev pub with_change : Option Logged → List Row → List Row
with_change None rows = rows
with_change (Some l) rows = rows ++ logged_row l ∷ []

-- the change under way, where it is settled
abbrev pub settled_change : Bool → Option Logged → Option Logged
settled_change true l = l
settled_change false l = None

-- A doubt is about the change under way, or about a next generation with the same table.
abbrev pub DoubtGood : Pair → Option Logged → List Needle → List Needle → Doubt → Type 0
DoubtGood p l fresh current doubt.Sure = Unit {0}
DoubtGood p l fresh current (doubt.Cell n) = (tag : CoreTag) × (l ≡ Some (record { tag = tag; entry = entry.Put n.pair n.photo.cookie n.photo.bytes })) × (n.deleted ≡ false)
DoubtGood p l fresh current (doubt.Flag pair) = (tag : CoreTag) × (l ≡ Some (record { tag = tag; entry = entry.Del pair }))
DoubtGood p l fresh current doubt.Head = look (rows_of fresh) p ≡ look (rows_of current) p

abbrev pub CopyGood : Pair → List Needle → List Needle → Option ℕ → Type 0
CopyGood p fresh current None = Unit {0}
CopyGood p fresh current (Some examined) = CopiesAt p fresh current examined

-- whether the side is in the midst of a delete of the pair
abbrev pub is_deleting : Work → Pair → Side → Bool
is_deleting (work.Put pair photo) p s = false
is_deleting (work.Del pair) p s = pair_eq pair p && is_some (call_of (work.Del pair) s)
is_deleting (work.Flush side) p s = false
is_deleting (work.Start side) p s = false
is_deleting (work.Step side cells) p s = false
is_deleting (work.Finish side) p s = false

abbrev pub is_deleted : Option Hold → Pair → Side → Bool
is_deleted None p s = false
is_deleted (Some h) p s = not h.failed && is_deleting h.work p s

-- `l` is the change under way.
pub record SideGood (p : Pair) (up : Bool) (log : List Logged) (l : Option Logged) (hold : Option Hold) (s : Side) : Type 0 where
  -- the needles make what the log makes of the table at the opening, with the change under way where it is settled
  pub tabled : look (rows_of s.current) p ≡ look (with_change (settled_change s.settled l) (rows_after log s.base)) p
  -- the map shows what the log makes of it; until all sides are open, what it was at the opening
  pub mapped : s.is_open ≡ true → Shows s (spot_in s.spots p) (look (rows_after (if up then log else []) s.base) p)
  pub opened : up ≡ false → s.is_open ≡ true → look (rows_of s.current) p ≡ look s.base p
  pub doubted : DoubtGood p l s.fresh s.current s.doubt
  -- a compaction keeps the table, but that of a pair whose delete has a call left here
  pub copied : is_deleted hold p s ≡ false → CopyGood p s.fresh s.current s.copy

-- ONE SIDE, WHATEVER THE PAIR

abbrev pub CopyFits : ℕ → Option ℕ → Type 0
CopyFits all None = Unit {0}
CopyFits all (Some examined) = examined ≤ all

-- whether a side has made the sync behind its part of a change, or has no part in it
abbrev pub is_behind : Work → Option ℕ → Bool
is_behind (work.Put pair photo) None = true
is_behind (work.Put pair photo) (Some progress) = nat_le 4 progress
is_behind (work.Del pair) None = true
is_behind (work.Del pair) (Some progress) = nat_le 2 progress
is_behind (work.Flush side) progress = false
is_behind (work.Start side) progress = false
is_behind (work.Step side cells) progress = false
is_behind (work.Finish side) progress = false

-- in a holding that has not failed
pub record SideHeld (h : Hold) (s : Side) : Type 0 where
  pub settled : is_behind h.work s.progress ≡ true → s.settled ≡ true
  pub all_made : h.published ≡ true → call_of h.work s ≡ None

abbrev pub HeldGood : Option Hold → Side → Type 0
HeldGood None s = Unit {0}
HeldGood (Some h) s = h.failed ≡ false → SideHeld h s

pub record SideFits (up : Bool) (hold : Option Hold) (s : Side) : Type 0 where
  pub is_open : up ≡ true → s.is_open ≡ true
  pub rows : s.rows ≤ s.most
  pub most : s.most ≤ length s.current
  pub copy : CopyFits (length s.current) s.copy
  pub held : HeldGood hold s

-- DOUBTS: only a held or frozen volume has one

abbrev pub IsSure : Side → Type 0
IsSure s = s.doubt ≡ doubt.Sure

abbrev pub settles : Effect → Bool
settles Quiet = false
settles (Doubts d) = false
settles (Settles d) = true
settles MarksRows = false
settles SettlesRows = false
settles (Repeats q) = false
settles Makes = false
settles (Copies x) = false

-- In a holding that has not failed, only the first side that has a call left may be in doubt, and only where that call settles it.
abbrev pub CalmAt : Option DeviceCall → Side → List Side → Type 0 → Type 0
CalmAt None s sides others = IsSure s × others
CalmAt (Some c) s sides others = (settles c.effect ≡ false → IsSure s) × AllByRecursion IsSure sides

abbrev pub Calm : Work → List Side → Type 0
Calm w [] = Unit {0}
Calm w (s ∷ sides) = CalmAt (call_of w s) s sides (Calm w sides)

abbrev pub CalmIn : Bool → Work → List Side → Type 0
CalmIn true w sides = AllByRecursion IsSure sides
CalmIn false w sides = Calm w sides

abbrev pub CalmHold : Option Hold → List Side → Type 0
CalmHold None sides = AllByRecursion IsSure sides
CalmHold (Some h) sides = CalmIn h.failed h.work sides

-- READERS: each spot of a row shows what its side had at the pair at the reader's front

abbrev pub RowGood : Pair → List Logged → List Side → List Spot → Type 0
RowGood p log [] [] = Unit {0}
RowGood p log (s ∷ sides) (x ∷ row) = Shows s x (look (rows_after log s.base) p) × RowGood p log sides row
RowGood p log [] (x ∷ row) = ⊥
RowGood p log (s ∷ sides) [] = ⊥

pub record ReaderGood (log : List Logged) (sides : List Side) (r : Reader) : Type 0 where
  pub front : r.front ≤ length log
  pub row : RowGood r.pair (take r.front log) sides r.row

-- THE HOLDER

abbrev pub HoldFlags : Option Hold → Bool → Bool → Option Logged → Type 0
HoldFlags None up frozen pending = up ≡ true → frozen ≡ false → pending ≡ None
HoldFlags (Some h) up frozen pending = (up ≡ true) × (pending ≡ None) × (frozen ≡ true → h.failed ≡ true) × (h.failed ≡ true → frozen ≡ false → change_in (Some h) pending ≡ None)

-- a change that is published is the last entry of the log, as long as its holding lasts
abbrev pub HoldLogged : Option Hold → List Logged → Type 0
HoldLogged None log = Unit {0}
HoldLogged (Some h) log = h.published ≡ true → (front : List Logged) × (log ≡ front ++ entry_list (change_of h.tag h.work))

-- THE VOLUME

pub record CoreGood (c : Core) : Type 0 where
  pub flags : HoldFlags c.hold c.up c.frozen c.pending
  pub readers_up : c.up ≡ false → c.readers ≡ []
  pub sides : (p : Pair) → AllByRecursion (SideGood p c.up c.log (change c) c.hold) c.sides
  pub fits : AllByRecursion (SideFits c.up c.hold) c.sides
  pub sure : c.up ≡ false → AllByRecursion IsSure c.sides
  pub calm : c.frozen ≡ false → CalmHold c.hold c.sides
  pub readers : AllByRecursion (ReaderGood c.log c.sides) c.readers
  pub logged : HoldLogged c.hold c.log
