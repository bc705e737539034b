-- One logical volume: what each event makes of it, and its reply.
use Rattle.std.specs.Prelude.{ℕ, zero, suc, ◌+◌, List, [], ◌∷◌, ◌++◌, length, map, replicate, not, Bool, true, false, nat_eq, nat_lt, nat_le, ◌&&◌, ◌||◌, if◌then◌else◌, Option}
use Rattle.std.specs.Prelude.{Some, None, slice_get, is_some}
use Rattle.std.specs.List.{list_any, list_all}
use Rattle.hay_needle.specs.declared.needle.Pair.{Pair}
use Rattle.hay_core.specs.declared.entry.CoreTag.{CoreTag}
use Rattle.hay_core.specs.declared.entry.Entry.TheVariants as entry
use Rattle.hay_core.specs.declared.entry.Logged.{Logged}
use Rattle.hay_core.specs.declared.machine.Side.{Side}
use Rattle.hay_core.specs.declared.machine.Spot.{Spot}
use Rattle.hay_core.specs.declared.machine.Spot.TheVariants.{Gone}
use Rattle.hay_core.specs.declared.machine.Doubt.TheVariants.{Sure}
use Rattle.hay_core.specs.declared.machine.Work.{Work}
use Rattle.hay_core.specs.declared.machine.Work.TheVariants as work
use Rattle.hay_core.specs.declared.machine.Hold.{Hold}
use Rattle.hay_core.specs.declared.machine.Reader.{Reader}
use Rattle.hay_core.specs.declared.machine.Core.{Core}
use Rattle.hay_core.specs.declared.machine.CoreReply.{CoreReply}
use Rattle.hay_core.specs.declared.machine.CoreReply.TheVariants.{Done, Shown, NotEnabled}
use Rattle.hay_core.specs.declared.machine.Event.{Event}
use Rattle.hay_core.specs.declared.machine.Event.TheVariants as event
use Rattle.hay_core.specs.declared.calls.Harm.{Harm}
use Rattle.hay_core.specs.declared.calls.Harm.TheVariants.{Freezes, Fails, Ends, GoesOn}
use Rattle.hay_core.specs.declared.calls.DeviceCall.{DeviceCall}
use Rattle.hay_core.specs.Spots.{spot_in, spots_of}
use Rattle.hay_core.specs.Calls.{call_of, closing_calls}
use Rattle.hay_core.specs.Sides.{stands, shown, has_part, map_now, no_copy, after_ok, after_failed, ended, stopped, opened}

-- A NEW VOLUME: it is up, and all of it is empty

abbrev pub new_side : Side
new_side = record {
  base = [];
  past = [];
  current = [];
  fresh = [];
  rows = 0;
  most = 0;
  doubt = Sure;
  copy = None;
  spots = [];
  is_open = true;
  progress = None;
  settled = false;
}

abbrev pub new_core : ℕ → Core
new_core replicas = record { log = []; sides = replicate replicas new_side; hold = None; readers = []; frozen = false; pending = None; up = true }

-- A STEP: the volume after it, and the reply

pub record Stepped : Type 0 where
  pub core : Core
  pub reply : CoreReply

abbrev pub done : Core → Stepped
done c = record { core = c; reply = Done }

abbrev pub refused : Core → Stepped
refused c = record { core = c; reply = NotEnabled }

-- the step to another volume, where there is one
abbrev pub stepped : Option Core → Core → Stepped
stepped None c = refused c
stepped (Some next) c = done next

-- the step to the first volume, where the test is true
abbrev pub allowed : Bool → Core → Core → Stepped
allowed true next c = done next
allowed false next c = refused c

-- THE CHANGE UNDER WAY

-- the entry that a work makes
abbrev pub change_of : CoreTag → Work → Option Logged
change_of tag (work.Put pair photo) = Some (record { tag = tag; entry = entry.Put pair photo.cookie photo.bytes })
change_of tag (work.Del pair) = Some (record { tag = tag; entry = entry.Del pair })
change_of tag (work.Flush side) = None
change_of tag (work.Start side) = None
change_of tag (work.Step side cells) = None
change_of tag (work.Finish side) = None

-- the holder's change until it is published; while there is no holder the pending one
abbrev pub change_in : Option Hold → Option Logged → Option Logged
change_in None pending = pending
change_in (Some h) pending = if h.published then None else change_of h.tag h.work

abbrev pub change : Core → Option Logged
change c = change_in c.hold c.pending

-- BEGIN

abbrev pub side_tests : (Side → Bool) → Option Side → Bool
side_tests test None = false
side_tests test (Some s) = test s

-- whether there is a side of this number, and it passes the test
abbrev pub side_passes : ℕ → (Side → Bool) → List Side → Bool
side_passes j test sides = side_tests test (slice_get sides j)

-- whether the work can begin on these sides
abbrev pub can_begin : Work → List Side → Bool
can_begin (work.Put pair photo) sides = true
can_begin (work.Del pair) sides = list_any (stands pair) sides
can_begin (work.Flush side) sides = nat_lt side (length sides)
can_begin (work.Start side) sides = side_passes side (λ s. not (is_some s.copy)) sides
can_begin (work.Step side cells) sides = side_passes side (λ s. is_some s.copy) sides
can_begin (work.Finish side) sides = side_passes side (λ s. is_some s.copy) sides

-- whether the side of this number has a part in the work
abbrev pub takes_part : Work → ℕ → Side → Bool
takes_part (work.Put pair photo) j s = true
takes_part (work.Del pair) j s = stands pair s
takes_part (work.Flush side) j s = nat_eq side j
takes_part (work.Start side) j s = nat_eq side j
takes_part (work.Step side cells) j s = nat_eq side j
takes_part (work.Finish side) j s = nat_eq side j

abbrev pub begun_side : Bool → Side → Side
begun_side part s = record s { progress = if part then Some 0 else None; settled = not part }

-- the sides, the first of which has this number
abbrev pub begun_sides : Work → ℕ → List Side → List Side
begun_sides w j [] = []
begun_sides w j (s ∷ sides) = begun_side (takes_part w j s) s ∷ begun_sides w (j + 1) sides

abbrev pub begin : CoreTag → Work → Core → Stepped
begin tag w c =
    allowed (c.up && (not (is_some c.hold) && (not c.frozen && can_begin w c.sides)))
    (record c { hold = Some (record { tag = tag; work = w; failed = false; published = false }); sides = begun_sides w 0 c.sides })
    c

-- DEVICE CALLS: the next one of a holding is that of the first side that has one left

abbrev pub first_of_two : Option DeviceCall → Option DeviceCall → Option DeviceCall
first_of_two None other = other
first_of_two (Some call) other = Some call

abbrev pub first_call : Work → List Side → Option DeviceCall
first_call w [] = None
first_call w (s ∷ sides) = first_of_two (call_of w s) (first_call w sides)

-- what becomes of the sides where that side becomes f of its call and itself
abbrev pub put_first : Option DeviceCall → (DeviceCall → Side → Side) → Side → List Side → List Side → List Side
put_first None f s sides others = s ∷ others
put_first (Some call) f s sides others = f call s ∷ sides

abbrev pub at_first : Work → (DeviceCall → Side → Side) → List Side → List Side
at_first w f [] = []
at_first w f (s ∷ sides) = put_first (call_of w s) f s sides (at_first w f sides)

abbrev pub device_ok_by : Hold → Option DeviceCall → Core → Stepped
device_ok_by h None c = refused c
device_ok_by h (Some call) c = allowed (not h.failed) (record c { sides = at_first h.work (after_ok h.work) c.sides; hold = Some h }) c

abbrev pub device_ok : Option Hold → Core → Stepped
device_ok None c = refused c
device_ok (Some h) c = device_ok_by h (first_call h.work c.sides) c

abbrev pub failed_hold : Hold → Option Hold
failed_hold h = Some (record h { failed = true })

-- the volume with these sides, behind a harm; a freeze ends all compactions
abbrev pub harmed : Hold → Harm → List Side → Core → Core
harmed h Freezes sides c = record c { sides = map no_copy sides; hold = failed_hold h; frozen = true }
harmed h Fails sides c = record c { sides = sides; hold = failed_hold h }
harmed h Ends sides c = record c { sides = sides; hold = failed_hold h }
harmed h GoesOn sides c = record c { sides = sides; hold = Some h }

abbrev pub device_failed_by : Hold → Option DeviceCall → Core → Stepped
device_failed_by h None c = refused c
device_failed_by h (Some call) c = allowed (not h.failed) (harmed h call.harm (at_first h.work (after_failed h.work) c.sides) c) c

abbrev pub device_failed : Option Hold → Core → Stepped
device_failed None c = refused c
device_failed (Some h) c = device_failed_by h (first_call h.work c.sides) c

-- READS of a holding: a put reads its settled needle back, and a compaction reads the old file

-- whether a finish on this side has made no call for its head row
abbrev pub is_before_head : Option ℕ → Side → Bool
is_before_head None s = false
is_before_head (Some progress) s = is_some s.copy && nat_le progress (length (closing_calls s.fresh))

abbrev pub before_head : Side → Bool
before_head s = is_before_head s.progress s

-- whether the first side that has a call left passes the test
abbrev pub first_side_passes : Option DeviceCall → Bool → Bool → Bool
first_side_passes None test others = others
first_side_passes (Some call) test others = test

abbrev pub first_passes : Work → (Side → Bool) → List Side → Bool
first_passes w test [] = false
first_passes w test (s ∷ sides) = first_side_passes (call_of w s) (test s) (first_passes w test sides)

-- whether a read of the work may fail
abbrev pub may_read : Work → List Side → Bool
may_read (work.Put pair photo) sides = list_any (λ s. s.settled) sides
may_read (work.Del pair) sides = false
may_read (work.Flush side) sides = false
may_read (work.Start side) sides = false
may_read (work.Step side cells) sides = true
may_read (work.Finish side) sides = first_passes (work.Finish side) before_head sides

abbrev pub ended_copy : Side → Side
ended_copy s = if has_part s then no_copy s else s

abbrev pub read_harmed : Hold → Work → Core → Core
read_harmed h (work.Put pair photo) c = harmed h Freezes c.sides c
read_harmed h w c = harmed h Ends (map ended_copy c.sides) c

abbrev pub read_failed : Option Hold → Core → Stepped
read_failed None c = refused c
read_failed (Some h) c = allowed (not h.failed && (not h.published && may_read h.work c.sides)) (read_harmed h h.work c) c

-- PUBLISH

abbrev pub publishes : Work → Bool
publishes (work.Put pair photo) = true
publishes (work.Del pair) = true
publishes (work.Flush side) = false
publishes (work.Start side) = false
publishes (work.Step side cells) = false
publishes (work.Finish side) = true

-- the map gives a put pair the place of its last needle, a deleted one gone, and of a finished compaction the new file
abbrev pub publish_pair : Work → Side → Side
publish_pair (work.Put pair photo) s = record s { spots = s.spots ++ record { pair = pair; spot = spot_in (spots_of (length s.past) 0 s.current) pair } ∷ [] }
publish_pair (work.Del pair) s = record s { spots = s.spots ++ record { pair = pair; spot = Gone } ∷ [] }
publish_pair (work.Flush side) s = s
publish_pair (work.Start side) s = s
publish_pair (work.Step side cells) s = s
publish_pair (work.Finish side) s = if has_part s then map_now s else s

abbrev pub entry_list : Option Logged → List Logged
entry_list None = []
entry_list (Some l) = l ∷ []

-- no side has a call left, and the change is added to the log
abbrev pub publish : Option Hold → Core → Stepped
publish None c = refused c
publish (Some h) c =
    allowed (not h.failed && (not h.published && (publishes h.work && not (is_some (first_call h.work c.sides)))))
    (record c { log = c.log ++ entry_list (change_of h.tag h.work); sides = map (publish_pair h.work) c.sides; hold = Some (record h { published = true }) })
    c

-- THE END OF A HOLDING

-- it failed, or all calls are made, and what publishes was published
abbrev pub end_hold : Option Hold → Core → Stepped
end_hold None c = refused c
end_hold (Some h) c =
    allowed (h.failed || (not (is_some (first_call h.work c.sides)) && (h.published || not (publishes h.work))))
    (record c { sides = map (ended h.work h.failed) c.sides; hold = None; pending = change_in (Some h) c.pending })
    c

-- READERS

abbrev pub with_reader : Reader → List Reader → List Reader
with_reader reader [] = reader ∷ []
with_reader reader (r ∷ readers) = if nat_eq r.number reader.number then reader ∷ readers else r ∷ with_reader reader readers

abbrev pub reader_by : ℕ → List Reader → Option Reader
reader_by number [] = None
reader_by number (r ∷ readers) = if nat_eq r.number number then Some r else reader_by number readers

abbrev pub look_up : ℕ → Pair → Core → Stepped
look_up number pair c =
    allowed c.up
    (record c { readers = with_reader (record { number = number; pair = pair; front = length c.log; row = map (λ s. spot_in s.spots pair) c.sides }) c.readers })
    c

abbrev pub fetch_at : Option Side → Option Spot → Core → Stepped
fetch_at None spot c = refused c
fetch_at (Some s) None c = refused c
fetch_at (Some s) (Some spot) c = record { core = c; reply = Shown (shown s spot) }

abbrev pub fetch_by : ℕ → Option Reader → Core → Stepped
fetch_by replica None c = refused c
fetch_by replica (Some reader) c = fetch_at (slice_get c.sides replica) (slice_get reader.row replica) c

-- A STOP AND OPENINGS

abbrev pub stopped_sides : List Bool → List Bool → List Side → List Side
stopped_sides (k ∷ keep) (r ∷ rows) (s ∷ sides) = stopped k r s ∷ stopped_sides keep rows sides
stopped_sides [] rows sides = []
stopped_sides (k ∷ keep) [] sides = []
stopped_sides (k ∷ keep) (r ∷ rows) [] = []

abbrev pub stop : List Bool → List Bool → Core → Stepped
stop keep rows c =
    allowed (nat_eq (length keep) (length c.sides) && nat_eq (length rows) (length c.sides))
    (record c { sides = stopped_sides keep rows c.sides; hold = None; readers = []; pending = change c; up = false })
    c

abbrev pub at_side : ℕ → (Side → Side) → List Side → List Side
at_side j f [] = []
at_side zero f (s ∷ sides) = f s ∷ sides
at_side (suc j) f (s ∷ sides) = s ∷ at_side j f sides

-- the volume rises where all of these sides are open
abbrev pub risen : Bool → List Side → Core → Core
risen true sides c = record c { sides = sides; log = []; pending = None; frozen = false; up = true }
risen false sides c = record c { sides = sides }

abbrev pub open_call : ℕ → Core → Stepped
open_call j c =
    let sides : List Side = at_side j opened c.sides in
    allowed (side_passes j (λ s. not s.is_open) c.sides) (risen (list_all (λ s. s.is_open) sides) sides c) c

-- ALL EVENTS

abbrev pub after_event : Core → Event → Stepped
after_event c (event.Begin tag w) = begin tag w c
after_event c event.DeviceOk = device_ok c.hold c
after_event c event.DeviceFailed = device_failed c.hold c
after_event c event.ReadFailed = read_failed c.hold c
after_event c event.Publish = publish c.hold c
after_event c event.EndHold = end_hold c.hold c
after_event c (event.Look reader pair) = look_up reader pair c
after_event c (event.Fetch reader replica) = fetch_by replica (reader_by reader c.readers) c
after_event c (event.Stop keep rows) = stop keep rows c
after_event c (event.OpenCall replica) = open_call replica c

-- the volume after the events of a list, and their replies
abbrev pub after_events : Core → List Event → Core
after_events c [] = c
after_events c (e ∷ events) = after_events (after_event c e).core events

abbrev pub replies_to : Core → List Event → List CoreReply
replies_to c [] = []
replies_to c (e ∷ events) = (after_event c e).reply ∷ replies_to (after_event c e).core events
