-- One replica: what each device call makes of it, and a stop, and an opening.
use Rattle.std.specs.Prelude.{ℕ, ◌+◌, ◌-◌, min, List, [], ◌∷◌, ◌++◌, length, Bool, true, false, if◌then◌else◌, Option, Some, None, is_some}
use Rattle.hay_needle.specs.declared.needle.Pair.{Pair}
use Rattle.hay_needle.specs.declared.needle.Needle.{Needle}
use Rattle.hay_needle.specs.declared.needle.Outcome.{Outcome}
use Rattle.hay_needle.specs.declared.needle.Outcome.TheVariants as outcome
use Rattle.hay_needle.specs.Tables.{look, rows_of, flag_last}
use Rattle.hay_core.specs.declared.machine.Side.{Side}
use Rattle.hay_core.specs.declared.machine.Spot.{Spot}
use Rattle.hay_core.specs.declared.machine.Spot.TheVariants.{Absent, Live, Gone}
use Rattle.hay_core.specs.declared.machine.Doubt.{Doubt}
use Rattle.hay_core.specs.declared.machine.Doubt.TheVariants as doubt
use Rattle.hay_core.specs.declared.machine.Work.{Work}
use Rattle.hay_core.specs.declared.machine.Work.TheVariants as work
use Rattle.hay_core.specs.declared.calls.Effect.{Effect}
use Rattle.hay_core.specs.declared.calls.Effect.TheVariants.{Quiet, Doubts, Settles, MarksRows, SettlesRows, Repeats, Makes, Copies}
use Rattle.hay_core.specs.declared.calls.Harm.{Harm}
use Rattle.hay_core.specs.declared.calls.Harm.TheVariants.{Freezes, Fails, Ends, GoesOn}
use Rattle.hay_core.specs.declared.calls.DeviceCall.{DeviceCall}
use Rattle.hay_core.specs.Spots.{needle_at, spots_of}

-- WHAT IT HAS

abbrev pub is_photo : Outcome → Bool
is_photo outcome.Nothing = false
is_photo (outcome.Photo photo) = true

-- whether it has a photo of the pair
abbrev pub stands : Pair → Side → Bool
stands pair s = is_photo (look (rows_of s.current) pair)

-- the needles of its files, by generation
abbrev pub files_of : Side → List (List Needle)
files_of s = s.past ++ s.current ∷ []

abbrev pub photo_of : Option Needle → Outcome
photo_of None = outcome.Nothing
photo_of (Some n) = outcome.Photo n.photo

-- what a reader sees at a spot, whatever the flag of the needle is now
abbrev pub shown : Side → Spot → Outcome
shown s Absent = outcome.Nothing
shown s Gone = outcome.Nothing
shown s (Live generation number) = photo_of (needle_at (files_of s) generation number)

-- whether it has a part in the present holding
abbrev pub has_part : Side → Bool
has_part s = is_some s.progress

-- A CALL THAT IS MADE

abbrev pub no_copy : Side → Side
no_copy s = record s { copy = None }

-- a sync makes sure what was in doubt
abbrev pub settle : Doubt → Side → Side
settle doubt.Sure s = record s { doubt = doubt.Sure }
settle (doubt.Cell n) s = record s { current = s.current ++ n ∷ []; doubt = doubt.Sure; settled = true }
settle (doubt.Flag pair) s = record s { current = flag_last pair s.current; doubt = doubt.Sure; settled = true }
settle doubt.Head s = record s {
  past = s.past ++ s.current ∷ [];
  current = s.fresh;
  fresh = [];
  rows = length s.fresh;
  most = length s.fresh;
  doubt = doubt.Sure;
  copy = None;
}

abbrev pub examined_more : Option ℕ → ℕ → Option ℕ
examined_more None n = None
examined_more (Some examined) n = Some (examined + n)

abbrev pub made : Effect → Side → Side
made Quiet s = s
made (Doubts d) s = record s { doubt = d }
made (Settles d) s = settle d s
made MarksRows s = record s { most = length s.current }
made SettlesRows s = record s { rows = s.most }
made (Repeats pair) s = record s { fresh = flag_last pair s.fresh }
made Makes s = record s { copy = Some 0; fresh = [] }
made (Copies x) s = record s { fresh = s.fresh ++ x.needle ∷ []; copy = examined_more s.copy x.passed }

-- how far the replica is behind a call
abbrev pub progress_after : Work → Effect → ℕ → ℕ
progress_after (work.Step side cells) (Copies x) progress = progress + x.passed
progress_after (work.Finish side) (Copies x) progress = progress
progress_after (work.Finish side) (Settles d) progress = 0
progress_after w effect progress = progress + 1

abbrev pub next_progress : Work → Effect → Option ℕ → Option ℕ
next_progress w effect None = None
next_progress w effect (Some progress) = Some (progress_after w effect progress)

abbrev pub with_progress : Option ℕ → Side → Side
with_progress progress s = record s { progress = progress }

abbrev pub after_ok : Work → DeviceCall → Side → Side
after_ok w c s = with_progress (next_progress w c.effect s.progress) (made c.effect s)

-- A CALL THAT FAILS: what a write was to do is in doubt, and what a sync was to settle stays so

abbrev pub broken : Effect → Side → Side
broken Quiet s = s
broken (Doubts d) s = record s { doubt = d }
broken (Settles d) s = s
broken MarksRows s = record s { most = length s.current }
broken SettlesRows s = s
broken (Repeats pair) s = record s { copy = None }
broken Makes s = s
broken (Copies x) s = s

abbrev pub after_harm : Work → Harm → Effect → Side → Side
after_harm w Freezes effect s = broken effect s
after_harm w Fails effect s = broken effect s
after_harm w Ends effect s = no_copy (broken effect s)
after_harm w GoesOn effect s = with_progress (next_progress w effect s.progress) (broken effect s)

abbrev pub after_failed : Work → DeviceCall → Side → Side
after_failed w c s = after_harm w c.harm c.effect s

-- THE END OF A HOLDING

-- a step passes the needles that it has left
abbrev pub passed_by : Option ℕ → Option ℕ → ℕ → ℕ → Option ℕ
passed_by None copy cells all = copy
passed_by (Some progress) None cells all = None
passed_by (Some progress) (Some examined) cells all = Some (min (examined + (cells - progress)) all)

abbrev pub passed_at_end : Work → Side → Option ℕ
passed_at_end (work.Step side cells) s = passed_by s.progress s.copy cells (length s.current)
passed_at_end (work.Put pair photo) s = s.copy
passed_at_end (work.Del pair) s = s.copy
passed_at_end (work.Flush side) s = s.copy
passed_at_end (work.Start side) s = s.copy
passed_at_end (work.Finish side) s = s.copy

abbrev pub ended : Work → Bool → Side → Side
ended w failed s = record s { copy = if failed then s.copy else passed_at_end w s; progress = None }

-- A STOP AND AN OPENING

-- a stop keeps what is in doubt, or drops it
abbrev pub stopped : Bool → Bool → Side → Side
stopped keep rows s =
    let kept : Side = if keep then settle s.doubt s else s in
    let records : ℕ = if rows then kept.most else kept.rows in
    record kept { doubt = doubt.Sure; rows = records; most = records; copy = None; progress = None; is_open = false }

-- the map of the current file
abbrev pub map_now : Side → Side
map_now s = record s { spots = spots_of (length s.past) 0 s.current }

abbrev pub opened : Side → Side
opened s = record (map_now s) { base = rows_of s.current; is_open = true }
