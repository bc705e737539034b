-- What every list of events keeps, whatever it is. Each is said of the events from a good volume on.
use Rattle.std.specs.Prelude.{◌≡◌, ℕ, ◌+◌, ◌<◌, ◌≤◌, List, ◌∷◌, ◌++◌, take, slice_get, Some, true, false}
use Rattle.std.specs.List.{AllByRecursion}
use Rattle.hay_needle.specs.declared.needle.Pair.{Pair}
use Rattle.hay_needle.specs.declared.needle.Outcome.{Outcome}
use Rattle.hay_needle.specs.Tables.{look}
use Rattle.hay_core.specs.declared.entry.Logged.{Logged}
use Rattle.hay_core.specs.declared.machine.Side.{Side}
use Rattle.hay_core.specs.declared.machine.Hold.{Hold}
use Rattle.hay_core.specs.declared.machine.Reader.{Reader}
use Rattle.hay_core.specs.declared.machine.Core.{Core}
use Rattle.hay_core.specs.declared.machine.CoreReply.TheVariants.{Done, Shown}
use Rattle.hay_core.specs.declared.machine.Event.{Event}
use Rattle.hay_core.specs.declared.machine.Event.TheVariants.{EndHold, Fetch, OpenCall}
use Rattle.hay_core.specs.Entries.{rows_after}
use Rattle.hay_core.specs.Transitions.{after_events, replies_to, reader_by, change, change_of}
use Rattle.hay_core.specs.Goodness.{CoreGood, with_change, settled_change}

-- the volume after the first n events
abbrev pub core_at : Core → List Event → ℕ → Core
core_at c events n = after_events c (take n events)

abbrev pub KeepsGood : Core → List Event → Type 0
KeepsGood c events = (n : ℕ) → CoreGood (core_at c events n)

-- SHOWN: what the log up to the reader's front makes of what its side had at the opening

pub record ShowsFront (c : Core) (number replica : ℕ) (o : Outcome) : Type 0 where
  pub reader : Reader
  pub side : Side
  pub by_number : reader_by number c.readers ≡ Some reader
  pub of_side : slice_get c.sides replica ≡ Some side
  pub shown : o ≡ look (rows_after (take reader.front c.log) side.base) reader.pair

-- each reply Shown is to a fetch, and shows that
abbrev pub ShowsFronts : Core → List Event → Type 0
ShowsFronts c events =
    (n : ℕ) (o : Outcome) → slice_get (replies_to c events) n ≡ Some (Shown o)
    → (number : ℕ) × (replica : ℕ) × (slice_get events n ≡ Some (Fetch number replica)) × ShowsFront (core_at c events n) number replica o

-- OPENED: the table of an opened side is what the whole log makes of the one at its last opening, with the change under way where
-- the side had settled it

pub record OpensTable (before after : Core) (replica : ℕ) (p : Pair) : Type 0 where
  pub old : Side
  pub new : Side
  pub is_old : slice_get before.sides replica ≡ Some old
  pub is_new : slice_get after.sides replica ≡ Some new
  pub table : look new.base p ≡ look (with_change (settled_change old.settled (change before)) (rows_after before.log old.base)) p

abbrev pub OpensTables : Core → List Event → Type 0
OpensTables c events =
    (n replica : ℕ) (p : Pair) → slice_get events n ≡ Some (OpenCall replica) → slice_get (replies_to c events) n ≡ Some Done
    → OpensTable (core_at c events n) (core_at c events (n + 1)) replica p

-- THE LOG: nothing but the opening by which the volume rises takes an entry away

abbrev pub Rises : Core → List Event → ℕ → Type 0
Rises c events n = ((core_at c events n).up ≡ false) × ((core_at c events (n + 1)).up ≡ true)

-- the volume rises by the opening of the last side that was closed
abbrev pub RisesByOpening : Core → List Event → Type 0
RisesByOpening c events =
    (n : ℕ) → Rises c events n
    → (replica : ℕ) × (slice_get events n ≡ Some (OpenCall replica)) × AllByRecursion (λ s. s.is_open ≡ true) (core_at c events (n + 1)).sides

abbrev pub LogGrows : Core → List Event → Type 0
LogGrows c events =
    (m n : ℕ) → m ≤ n → ((k : ℕ) → m ≤ k → k < n → ¬ Rises c events k)
    → (more : List Logged) × ((core_at c events n).log ≡ (core_at c events m).log ++ more)

-- the entry of a holding that ended unfailed is in the log until the volume next rises
abbrev pub KeepsEntries : Core → List Event → Type 0
KeepsEntries c events =
    (m n : ℕ) (h : Hold) (l : Logged) → m < n → slice_get events m ≡ Some EndHold → slice_get (replies_to c events) m ≡ Some Done
    → (core_at c events m).hold ≡ Some h → h.failed ≡ false → change_of h.tag h.work ≡ Some l
    → ((k : ℕ) → m < k → k < n → ¬ Rises c events k)
    → (front : List Logged) × (behind : List Logged) × ((core_at c events n).log ≡ front ++ l ∷ behind)
