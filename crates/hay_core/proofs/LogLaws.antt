-- The log under one event: it grows, or the volume rises by an opening.
use Rattle.std.proofs.Common.{◌≡◌, ℕ, Bool, true, false, not, ◌&&◌, ◌||◌, List, [], ◌++◌, length, map, Option, Some, None, refl, sym, ap, ◌∙◌, append_assoc, ◌⊎◌, inl, inr}
use Rattle.std.specs.Prelude.{slice_get, is_some, nat_eq}
use Rattle.std.specs.List.{AllByRecursion, list_all}
use Rattle.std.proofs.lemmas.List.{append-nil}
use Rattle.std.proofs.lemmas.Bool.{false≢true}
use Rattle.hay_needle.specs.declared.needle.Outcome.{Outcome}
use Rattle.hay_core.specs.declared.entry.Logged.{Logged}
use Rattle.hay_core.specs.declared.machine.Side.{Side}
use Rattle.hay_core.specs.declared.machine.Spot.{Spot}
use Rattle.hay_core.specs.declared.machine.Work.{Work}
use Rattle.hay_core.specs.declared.machine.Work.TheVariants as work
use Rattle.hay_core.specs.declared.machine.Hold.{Hold}
use Rattle.hay_core.specs.declared.machine.Reader.{Reader}
use Rattle.hay_core.specs.declared.machine.Core.{Core}
use Rattle.hay_core.specs.declared.machine.CoreReply.TheVariants.{Shown}
use Rattle.hay_core.specs.declared.machine.Event.{Event}
use Rattle.hay_core.specs.declared.machine.Event.TheVariants as event
use Rattle.hay_core.specs.declared.calls.Harm.{Harm}
use Rattle.hay_core.specs.declared.calls.Harm.TheVariants.{Freezes, Fails, Ends, GoesOn}
use Rattle.hay_core.specs.declared.calls.DeviceCall.{DeviceCall}
use Rattle.hay_core.specs.Sides
use Rattle.hay_core.specs.Transitions
use Rattle.hay_core.specs.Transitions.{Stepped, after_event, allowed, harmed, device_ok, device_ok_by, device_failed, device_failed_by, read_failed, publish, end_hold, open_call, risen}
use Rattle.hay_core.specs.Goodness.{CoreGood}
use Rattle.hay_core.proofs.EventLaws.{closed_down, all_open}

abbrev pub Grown : List Logged → List Logged → Type 0
Grown log longer = (more : List Logged) × (longer ≡ log ++ more)

pub grown_same : (log : List Logged) → Grown log log
grown_same log = ([], sym (append-nil log))

pub grown_on : (a b c : List Logged) → Grown a b → Grown b c → Grown a c
grown_on a b c h k = (h.0 ++ k.0, k.1 ∙ ap (λ (xs : List Logged). xs ++ k.0) h.1 ∙ append_assoc a h.0 k.0)

-- the log grows, and the volume does not rise
pub record GoesOnFrom (c d : Core) : Type 0 where
  pub grows : Grown c.log d.log
  pub stays : d.up ≡ true → c.up ≡ true

-- a side is opened, and with it all are
pub record RisesBy (c d : Core) (e : Event) : Type 0 where
  pub replica : ℕ
  pub is : e ≡ event.OpenCall replica
  pub down : c.up ≡ false
  pub up : d.up ≡ true
  pub all_open : AllByRecursion (λ s. s.is_open ≡ true) d.sides

pub still : (c : Core) → GoesOnFrom c c
still c = record { grows = grown_same c.log; stays = λ up. up }

by_allowed : (P : Core → Type 0) (b : Bool) (next c : Core) → P next → P c → P (allowed b next c).core
by_allowed P true next c h k = h
by_allowed P false next c h k = k

same_log : (c d : Core) → d.log ≡ c.log → d.up ≡ c.up → GoesOnFrom c d
same_log c d log up = record { grows = ([], log ∙ sym (append-nil c.log)); stays = λ is. sym up ∙ is }

harmed_on : (h : Hold) (x : Harm) (sides : List Side) (c : Core) → GoesOnFrom c (harmed h x sides c)
harmed_on h Freezes sides c = same_log c (harmed h Freezes sides c) refl refl
harmed_on h Fails sides c = same_log c (harmed h Fails sides c) refl refl
harmed_on h Ends sides c = same_log c (harmed h Ends sides c) refl refl
harmed_on h GoesOn sides c = same_log c (harmed h GoesOn sides c) refl refl

ok_on : (c : Core) (o : Option Hold) → GoesOnFrom c (device_ok o c).core
ok_on c None = still c
ok_on c (Some h) = go (Transitions.first_call h.work c.sides)
  where
    go : (x : Option DeviceCall) → GoesOnFrom c (device_ok_by h x c).core
    go None = still c
    go (Some x) =
        let next : Core = record c { sides = Transitions.at_first h.work (Sides.after_ok h.work) c.sides; hold = Some h } in
        by_allowed (λ d. GoesOnFrom c d) (not h.failed) next c (same_log c next refl refl) (still c)

failed_on : (c : Core) (o : Option Hold) → GoesOnFrom c (device_failed o c).core
failed_on c None = still c
failed_on c (Some h) = go (Transitions.first_call h.work c.sides)
  where
    go : (x : Option DeviceCall) → GoesOnFrom c (device_failed_by h x c).core
    go None = still c
    go (Some x) =
        let sides : List Side = Transitions.at_first h.work (Sides.after_failed h.work) c.sides in
        by_allowed (λ d. GoesOnFrom c d) (not h.failed) (harmed h x.harm sides c) c (harmed_on h x.harm sides c) (still c)

read_on : (c : Core) (o : Option Hold) → GoesOnFrom c (read_failed o c).core
read_on c None = still c
read_on c (Some h) = by_allowed (λ d. GoesOnFrom c d) (not h.failed && (not h.published && Transitions.may_read h.work c.sides)) (Transitions.read_harmed h h.work c) c (go h.work) (still c)
  where
    go : (w : Work) → GoesOnFrom c (Transitions.read_harmed h w c)
    go (work.Put pair photo) = harmed_on h Freezes c.sides c
    go (work.Del pair) = harmed_on h Ends (map Transitions.ended_copy c.sides) c
    go (work.Flush side) = harmed_on h Ends (map Transitions.ended_copy c.sides) c
    go (work.Start side) = harmed_on h Ends (map Transitions.ended_copy c.sides) c
    go (work.Step side cells) = harmed_on h Ends (map Transitions.ended_copy c.sides) c
    go (work.Finish side) = harmed_on h Ends (map Transitions.ended_copy c.sides) c

publish_on : (c : Core) (o : Option Hold) → GoesOnFrom c (publish o c).core
publish_on c None = still c
publish_on c (Some h) =
    let more : List Logged = Transitions.entry_list (Transitions.change_of h.tag h.work) in
    let next : Core = record c { log = c.log ++ more; sides = map (Transitions.publish_pair h.work) c.sides; hold = Some (record h { published = true }) } in
    by_allowed (λ d. GoesOnFrom c d) (not h.failed && (not h.published && (Transitions.publishes h.work && not (is_some (Transitions.first_call h.work c.sides))))) next c
    (record { grows = (more, refl); stays = λ up. up }) (still c)

end_on : (c : Core) (o : Option Hold) → GoesOnFrom c (end_hold o c).core
end_on c None = still c
end_on c (Some h) =
    let next : Core = record c { sides = map (Sides.ended h.work h.failed) c.sides; hold = None; pending = Transitions.change_in (Some h) c.pending } in
    by_allowed (λ d. GoesOnFrom c d) (h.failed || (not (is_some (Transitions.first_call h.work c.sides)) && (h.published || not (Transitions.publishes h.work)))) next c
    (same_log c next refl refl) (still c)

abbrev Either : Core → Core → Event → Type 0
Either c d e = GoesOnFrom c d ⊎ RisesBy c d e

open_on : (c : Core) (j : ℕ) → CoreGood c → Either c (open_call j c).core (event.OpenCall j)
open_on c j g = go (Transitions.side_passes j (λ s. not s.is_open) c.sides) refl (list_all (λ s. s.is_open) opened) refl
  where
    opened : List Side
    opened = Transitions.at_side j Sides.opened c.sides

    go : (b : Bool) → Transitions.side_passes j (λ s. not s.is_open) c.sides ≡ b → (a : Bool) → list_all (λ s. s.is_open) (Transitions.at_side j Sides.opened c.sides) ≡ a
        → Either c (allowed b (risen a (Transitions.at_side j Sides.opened c.sides) c) c).core (event.OpenCall j)
    go false closed a all = inl (still c)
    go true closed false all = inl (same_log c (risen false (Transitions.at_side j Sides.opened c.sides) c) refl refl)
    go true closed true all = inr (record { replica = j; is = refl; down = closed_down j c.up c.hold c.sides g.fits closed; up = refl; all_open = all_open (Transitions.at_side j Sides.opened c.sides) all })

pub goes_on : (e : Event) (c : Core) → CoreGood c → GoesOnFrom c (after_event c e).core ⊎ RisesBy c (after_event c e).core e
goes_on (event.Begin tag w) c g =
    let next : Core = record c { hold = Some (record { tag = tag; work = w; failed = false; published = false }); sides = Transitions.begun_sides w 0 c.sides } in
    inl (by_allowed (λ d. GoesOnFrom c d) (c.up && (not (is_some c.hold) && (not c.frozen && Transitions.can_begin w c.sides))) next c (same_log c next refl refl) (still c))
goes_on event.DeviceOk c g = inl (ok_on c c.hold)
goes_on event.DeviceFailed c g = inl (failed_on c c.hold)
goes_on event.ReadFailed c g = inl (read_on c c.hold)
goes_on event.Publish c g = inl (publish_on c c.hold)
goes_on event.EndHold c g = inl (end_on c c.hold)
goes_on (event.Look number pair) c g =
    let next : Core = record c {
      readers = Transitions.with_reader (record {
        number = number;
        pair = pair;
        front = length c.log;
        row = map (λ s. Rattle.hay_core.specs.Spots.spot_in s.spots pair) c.sides;
      }) c.readers;
    } in
    inl (by_allowed (λ d. GoesOnFrom c d) c.up next c (same_log c next refl refl) (still c))
goes_on (event.Fetch number replica) c g = inl (by (Transitions.reader_by number c.readers))
  where
    at : (s : Option Side) (x : Option Spot) → GoesOnFrom c (Transitions.fetch_at s x c).core
    at None x = still c
    at (Some s) None = still c
    at (Some s) (Some x) = still c

    by : (r : Option Reader) → GoesOnFrom c (Transitions.fetch_by replica r c).core
    by None = still c
    by (Some r) = at (slice_get c.sides replica) (slice_get r.row replica)
goes_on (event.Stop keep rows) c g =
    let next : Core = record c { sides = Transitions.stopped_sides keep rows c.sides; hold = None; readers = []; pending = Transitions.change c; up = false } in
    inl (by_allowed (λ d. GoesOnFrom c d) (nat_eq (length keep) (length c.sides) && nat_eq (length rows) (length c.sides)) next c
    (record { grows = grown_same c.log; stays = λ up. absurd (false≢true up) }) (still c))
goes_on (event.OpenCall j) c g = open_on c j g

-- ONLY A FETCH SHOWS

shown_by : (b : Bool) (next c : Core) (o : Outcome) → (allowed b next c).reply ≡ Shown o → ⊥
shown_by true next c o e = absurd cc
shown_by false next c o e = absurd cc

pub shows_by_fetch : (e : Event) (c : Core) (o : Outcome) → (after_event c e).reply ≡ Shown o → (number : ℕ) × (replica : ℕ) × (e ≡ event.Fetch number replica)
shows_by_fetch (event.Begin tag w) c o e =
    absurd (shown_by (c.up && (not (is_some c.hold) && (not c.frozen && Transitions.can_begin w c.sides)))
    (record c { hold = Some (record { tag = tag; work = w; failed = false; published = false }); sides = Transitions.begun_sides w 0 c.sides }) c o e)
shows_by_fetch event.DeviceOk c o e = absurd (by c.hold e)
  where
    go : (h : Hold) (x : Option DeviceCall) → (device_ok_by h x c).reply ≡ Shown o → ⊥
    go h None e = absurd cc
    go h (Some x) e = shown_by (not h.failed) (record c { sides = Transitions.at_first h.work (Sides.after_ok h.work) c.sides; hold = Some h }) c o e

    by : (h : Option Hold) → (device_ok h c).reply ≡ Shown o → ⊥
    by None e = absurd cc
    by (Some h) e = go h (Transitions.first_call h.work c.sides) e
shows_by_fetch event.DeviceFailed c o e = absurd (by c.hold e)
  where
    go : (h : Hold) (x : Option DeviceCall) → (device_failed_by h x c).reply ≡ Shown o → ⊥
    go h None e = absurd cc
    go h (Some x) e = shown_by (not h.failed) (harmed h x.harm (Transitions.at_first h.work (Sides.after_failed h.work) c.sides) c) c o e

    by : (h : Option Hold) → (device_failed h c).reply ≡ Shown o → ⊥
    by None e = absurd cc
    by (Some h) e = go h (Transitions.first_call h.work c.sides) e
shows_by_fetch event.ReadFailed c o e = absurd (by c.hold e)
  where
    by : (h : Option Hold) → (read_failed h c).reply ≡ Shown o → ⊥
    by None e = absurd cc
    by (Some h) e = shown_by (not h.failed && (not h.published && Transitions.may_read h.work c.sides)) (Transitions.read_harmed h h.work c) c o e
shows_by_fetch event.Publish c o e = absurd (by c.hold e)
  where
    by : (h : Option Hold) → (publish h c).reply ≡ Shown o → ⊥
    by None e = absurd cc
    by (Some h) e = shown_by (not h.failed && (not h.published && (Transitions.publishes h.work && not (is_some (Transitions.first_call h.work c.sides)))))
        (record c { log = c.log ++ Transitions.entry_list (Transitions.change_of h.tag h.work); sides = map (Transitions.publish_pair h.work) c.sides; hold = Some (record h { published = true }) }) c o e
shows_by_fetch event.EndHold c o e = absurd (by c.hold e)
  where
    by : (h : Option Hold) → (end_hold h c).reply ≡ Shown o → ⊥
    by None e = absurd cc
    by (Some h) e = shown_by (h.failed || (not (is_some (Transitions.first_call h.work c.sides)) && (h.published || not (Transitions.publishes h.work))))
        (record c { sides = map (Sides.ended h.work h.failed) c.sides; hold = None; pending = Transitions.change_in (Some h) c.pending }) c o e
shows_by_fetch (event.Look number pair) c o e =
    absurd (shown_by c.up (record c {
      readers = Transitions.with_reader (record {
        number = number;
        pair = pair;
        front = length c.log;
        row = map (λ s. Rattle.hay_core.specs.Spots.spot_in s.spots pair) c.sides;
      }) c.readers;
    }) c o e)
shows_by_fetch (event.Fetch number replica) c o e = (number, replica, refl)
shows_by_fetch (event.Stop keep rows) c o e =
    absurd (shown_by (nat_eq (length keep) (length c.sides) && nat_eq (length rows) (length c.sides))
    (record c { sides = Transitions.stopped_sides keep rows c.sides; hold = None; readers = []; pending = Transitions.change c; up = false }) c o e)
shows_by_fetch (event.OpenCall j) c o e =
    let sides : List Side = Transitions.at_side j Sides.opened c.sides in
    absurd (shown_by (Transitions.side_passes j (λ s. not s.is_open) c.sides) (risen (list_all (λ s. s.is_open) sides) sides c) c o e)
