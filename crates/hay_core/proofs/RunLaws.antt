-- What a list of events keeps, from one event to the next.
use Rattle.std.proofs.Common.{◌≡◌, ℕ, zero, suc, ◌+◌, ◌<◌, ◌≤◌, ◌∷◌, ◌++◌, [], List, take, drop, length, get_or, Option, Some, None, ap, sym, ◌∙◌, refl, subst, add-one, append_assoc, inl, inr, arith}
use Rattle.std.specs.Prelude.{Result, Ok, Err, IfOk, OnErr, slice_get, Bool, true, false, not, ◌-◌}
use Rattle.std.proofs.Math.Seq.{drop-cons}
use Rattle.std.proofs.lemmas.List.{take_more}
use Rattle.std.proofs.lemmas.Bool.{true≢false}
use Rattle.std.specs.List.{AllByRecursion, list_all}
use Rattle.hay_core.specs.declared.entry.Logged.{Logged}
use Rattle.hay_core.specs.declared.machine.Side.{Side}
use Rattle.hay_core.specs.declared.machine.Work.{Work}
use Rattle.hay_core.specs.declared.machine.Work.TheVariants as work
use Rattle.hay_core.specs.declared.machine.Hold.{Hold}
use Rattle.hay_core.specs.declared.machine.Core.{Core}
use Rattle.hay_core.specs.declared.machine.Event.{Event}
use Rattle.hay_core.specs.declared.machine.Event.TheVariants as event
use Rattle.hay_core.specs.declared.machine.CoreReply.{CoreReply}
use Rattle.hay_core.specs.declared.machine.CoreReply.TheVariants.{Done, Shown}
use Rattle.hay_core.specs.Sides
use Rattle.hay_core.specs.Transitions
use Rattle.hay_core.specs.Transitions.{after_event, after_events, replies_to}
use Rattle.hay_core.specs.Goodness.{CoreGood}
use Rattle.hay_core.specs.Invariants.{core_at, KeepsGood, ShowsFronts, OpensTables, Rises, RisesByOpening, LogGrows, KeepsEntries}
use Rattle.hay_core.proofs.EventLaws.{event_good, events_good}
use Rattle.hay_core.proofs.ShownLaws.{fetch_shows, opens, ended_logged}
use Rattle.hay_core.proofs.LogLaws.{Grown, grown_same, grown_on, goes_on, shows_by_fetch}

-- THE LOOP OVER THE EVENTS

pub next_left : (es : List Event) (i : ℕ) (e : Event) → i < length es → e ≡ get_or es i e → drop i es ≡ e ∷ drop (i + 1) es
next_left es i e h is = drop-cons es i e h ∙ ap (λ (x : Event). x ∷ drop (suc i) es) (sym is) ∙ ap (λ (k : ℕ). e ∷ drop k es) (sym (add-one i))

pub next_done : (es : List Event) (i : ℕ) (e : Event) → i < length es → e ≡ get_or es i e → take (i + 1) es ≡ take i es ++ e ∷ []
next_done es i e h is = take_more es i e h ∙ ap (λ (x : Event). take i es ++ x ∷ []) (sym is)

pub events_push : (c : Core) (es : List Event) (e : Event) → after_events c (es ++ e ∷ []) ≡ (after_event (after_events c es) e).core
events_push c [] e = refl
events_push c (x ∷ es) e = events_push (after_event c x).core es e

pub going_on : (start now next : Core) (es : List Event) (i : ℕ) (e : Event) → i < length es → e ≡ get_or es i e → next ≡ (after_event now e).core
    → after_events now (drop i es) ≡ after_events start es → after_events next (drop (i + 1) es) ≡ after_events start es
going_on start now next es i e h is step left =
    ap (λ (c : Core). after_events c (drop (i + 1) es)) step ∙ ap (λ (xs : List Event). after_events now xs) (sym (next_left es i e h is)) ∙ left

pub replied : (start now next : Core) (es : List Event) (i : ℕ) (e : Event) (before : List CoreReply) (r : CoreReply) → i < length es → e ≡ get_or es i e
    → next ≡ (after_event now e).core → r ≡ (after_event now e).reply
    → before ++ replies_to now (drop i es) ≡ replies_to start es → (before ++ r ∷ []) ++ replies_to next (drop (i + 1) es) ≡ replies_to start es
replied start now next es i e before r h is step reply left =
    append_assoc before (r ∷ []) (replies_to next (drop (i + 1) es))
    ∙ ap (λ (c : Core). before ++ r ∷ replies_to c (drop (i + 1) es)) step
    ∙ ap (λ (x : CoreReply). before ++ x ∷ replies_to (after_event now e).core (drop (i + 1) es)) reply
    ∙ ap (λ (xs : List Event). before ++ replies_to now xs) (sym (next_left es i e h is)) ∙ left

pub so_far : (start now next : Core) (es : List Event) (i : ℕ) (e : Event) → i < length es → e ≡ get_or es i e → next ≡ (after_event now e).core
    → now ≡ after_events start (take i es) → next ≡ after_events start (take (i + 1) es)
so_far start now next es i e h is step so =
    step ∙ ap (λ (c : Core). (after_event c e).core) so ∙ sym (events_push start (take i es) e) ∙ ap (λ (xs : List Event). after_events start xs) (sym (next_done es i e h is))

pub on_err : {T E P : Type 0} (r : Result T E) → P → OnErr r P
on_err (Ok x) p = tt
on_err (Err e) p = p

-- ONE EVENT OF A RUN

next_suc : (c : Core) (es : List Event) (n : ℕ) (e : Event) → slice_get es n ≡ Some e → core_at c es (suc n) ≡ (after_event (core_at c es n) e).core
next_suc c [] n e is = absurd cc
next_suc c (x ∷ es) zero e is = let same : x ≡ e = cc in ap (λ (y : Event). (after_event c y).core) same
next_suc c (x ∷ es) (suc n) e is = next_suc (after_event c x).core es n e is

over_suc : (c : Core) (es : List Event) (n : ℕ) → slice_get es n ≡ None → core_at c es (suc n) ≡ core_at c es n
over_suc c [] zero is = refl
over_suc c [] (suc n) is = refl
over_suc c (x ∷ es) zero is = absurd cc
over_suc c (x ∷ es) (suc n) is = over_suc (after_event c x).core es n is

pub next_core : (c : Core) (es : List Event) (n : ℕ) (e : Event) → slice_get es n ≡ Some e → core_at c es (n + 1) ≡ (after_event (core_at c es n) e).core
next_core c es n e is = ap (λ (k : ℕ). core_at c es k) (add-one n) ∙ next_suc c es n e is

pub next_reply : (c : Core) (es : List Event) (n : ℕ) (e : Event) (r : CoreReply) → slice_get es n ≡ Some e → slice_get (replies_to c es) n ≡ Some r → (after_event (core_at c es n) e).reply ≡ r
next_reply c [] n e r is reply = absurd cc
next_reply c (x ∷ es) zero e r is reply =
    let same : x ≡ e = cc in
    let told : (after_event c x).reply ≡ r = cc in
    ap (λ (y : Event). (after_event c y).reply) (sym same) ∙ told
next_reply c (x ∷ es) (suc n) e r is reply = next_reply (after_event c x).core es n e r is reply

-- a reply has its event
asked : (c : Core) (es : List Event) (n : ℕ) (r : CoreReply) → slice_get (replies_to c es) n ≡ Some r → (e : Event) × (slice_get es n ≡ Some e)
asked c [] n r reply = absurd cc
asked c (x ∷ es) zero r reply = (x, refl)
asked c (x ∷ es) (suc n) r reply = asked (after_event c x).core es n r reply

-- two lists of events, one behind the other
pub after_events_append : (c : Core) (es fs : List Event) → after_events c (es ++ fs) ≡ after_events (after_events c es) fs
after_events_append c [] fs = refl
after_events_append c (e ∷ es) fs = after_events_append (after_event c e).core es fs

-- THE LAWS

pub keeps_good : (c : Core) (es : List Event) → CoreGood c → KeepsGood c es
keeps_good c es g n = events_good (take n es) c g

pub shows_fronts : (c : Core) (es : List Event) → CoreGood c → ShowsFronts c es
shows_fronts c es g n o reply =
    let at = asked c es n (Shown o) reply in
    let now = core_at c es n in
    let told = next_reply c es n at.0 (Shown o) at.1 reply in
    let fetch = shows_by_fetch at.0 now o told in
    let P : Event → Type 0 = λ e. (after_event now e).reply ≡ Shown o in
    (fetch.0, fetch.1, at.1 ∙ ap (λ (e : Event). Some e) fetch.2, fetch_shows fetch.0 fetch.1 now o (keeps_good c es g n) (subst P fetch.2 told))

opened_at : (c : Core) (j : ℕ) → (Transitions.open_call j c).reply ≡ Done → (s : Side) × (slice_get c.sides j ≡ Some s) × (slice_get (Transitions.open_call j c).core.sides j ≡ Some (Sides.opened s))
opened_at c j done = go (Transitions.side_passes j (λ s. not s.is_open) c.sides) refl done
  where
    sides : List Side
    sides = Transitions.at_side j Sides.opened c.sides

    found : (j : ℕ) (sides : List Side) → Transitions.side_passes j (λ s. not s.is_open) sides ≡ true
        → (s : Side) × (slice_get sides j ≡ Some s) × (slice_get (Transitions.at_side j Sides.opened sides) j ≡ Some (Sides.opened s))
    found j [] e = absurd (true≢false (sym e))
    found zero (s ∷ sides) e = (s, refl, refl)
    found (suc j) (s ∷ sides) e = found j sides e

    risen_sides : (b : Bool) (sides : List Side) → (Transitions.risen b sides c).sides ≡ sides
    risen_sides true sides = refl
    risen_sides false sides = refl

    go : (b : Bool) → Transitions.side_passes j (λ s. not s.is_open) c.sides ≡ b → (Transitions.allowed b
        (Transitions.risen (list_all (λ s. s.is_open) (Transitions.at_side j Sides.opened c.sides)) (Transitions.at_side j Sides.opened c.sides) c) c).reply ≡ Done
        → (s : Side) × (slice_get c.sides j ≡ Some s) × (slice_get (Transitions.allowed b (Transitions.risen (list_all (λ s. s.is_open) (Transitions.at_side j Sides.opened c.sides))
        (Transitions.at_side j Sides.opened c.sides) c) c).core.sides j ≡ Some (Sides.opened s))
    go false e done = absurd cc
    go true e done =
        let at = found j c.sides e in
        (at.0, at.1, ap (λ (ss : List Side). slice_get ss j) (risen_sides (list_all (λ s. s.is_open) (Transitions.at_side j Sides.opened c.sides)) (Transitions.at_side j Sides.opened c.sides)) ∙ at.2)

pub opens_tables : (c : Core) (es : List Event) → CoreGood c → OpensTables c es
opens_tables c es g n j p is reply =
    let now = core_at c es n in
    let at = opened_at now j (next_reply c es n (event.OpenCall j) Done is reply) in
    record {
      old = at.0;
      new = Sides.opened at.0;
      is_old = at.1;
      is_new = ap (λ (d : Core). slice_get d.sides j) (next_core c es n (event.OpenCall j) is) ∙ at.2;
      table = opens now j at.0 p (keeps_good c es g n) at.1;
    }

pub rises_by_opening : (c : Core) (es : List Event) → CoreGood c → RisesByOpening c es
rises_by_opening c es g n rise = go (slice_get es n) refl
  where
    go : (o : Option Event) → slice_get es n ≡ o → (replica : ℕ) × (slice_get es n ≡ Some (event.OpenCall replica)) × AllByRecursion (λ s. s.is_open ≡ true) (core_at c es (n + 1)).sides
    go None is =
        let same : core_at c es (n + 1) ≡ core_at c es n = ap (λ (k : ℕ). core_at c es k) (add-one n) ∙ over_suc c es n is in
        absurd (true≢false (sym rise.1 ∙ ap (λ (d : Core). d.up) same ∙ rise.0))
    go (Some e) is =
        let now = core_at c es n in
        let next = next_core c es n e is in
        elim (goes_on e now (keeps_good c es g n)) [
          | inl on ↦ absurd (true≢false (sym (on.stays (sym (ap (λ (d : Core). d.up) next) ∙ rise.1)) ∙ rise.0))
          | inr by ↦
              let P : Core → Type 0 = λ d. AllByRecursion (λ s. s.is_open ≡ true) d.sides in
              (by.replica, is ∙ ap (λ (e : Event). Some e) by.is, subst P (sym next) by.all_open)
        ]

-- one event more, where the volume does not rise
grows_next : (c : Core) (es : List Event) (n : ℕ) → CoreGood c → ¬ Rises c es n → Grown (core_at c es n).log (core_at c es (suc n)).log
grows_next c es n g never = go (slice_get es n) refl
  where
    go : (o : Option Event) → slice_get es n ≡ o → Grown (core_at c es n).log (core_at c es (suc n)).log
    go None is =
        let G : Core → Type 0 = λ d. Grown (core_at c es n).log d.log in
        subst G (sym (over_suc c es n is)) (grown_same (core_at c es n).log)
    go (Some e) is =
        let now = core_at c es n in
        let G : Core → Type 0 = λ d. Grown now.log d.log in
        elim (goes_on e now (keeps_good c es g n)) [
          | inl on ↦ subst G (sym (next_suc c es n e is)) on.grows
          | inr by ↦ absurd (never (by.down, ap (λ (d : Core). d.up) (next_core c es n e is) ∙ by.up))
        ]

grows_by : (c : Core) (es : List Event) (m d n : ℕ) → CoreGood c → n ≡ m + d → ((k : ℕ) → m ≤ k → k < n → ¬ Rises c es k) → Grown (core_at c es m).log (core_at c es n).log
grows_by c es m zero n g e never =
    let same : m ≡ n = omega (arith, e) in
    let G : ℕ → Type 0 = λ k. Grown (core_at c es m).log (core_at c es k).log in
    subst G same (grown_same (core_at c es m).log)
grows_by c es m (suc d) n g e never =
    let k : ℕ = m + d in
    let next : suc k ≡ n = omega (arith, e) in
    let G : ℕ → Type 0 = λ k. Grown (core_at c es m).log (core_at c es k).log in
    let so_far = grows_by c es m d k g refl (λ i a b. never i a (omega (arith, e, b))) in
    subst G next (grown_on (core_at c es m).log (core_at c es k).log (core_at c es (suc k)).log so_far (grows_next c es k g (never k (omega arith) (omega (arith, e)))))

pub log_grows : (c : Core) (es : List Event) → CoreGood c → LogGrows c es
log_grows c es g m n le never =
    let d : ℕ = n - m in
    let is : n ≡ m + d = omega (arith, le) in
    grows_by c es m d n g is never

publishes_change : (h : Hold) (l : Logged) → Transitions.change_of h.tag h.work ≡ Some l → Transitions.publishes h.work ≡ true
publishes_change h l e = by h.work e
  where
    by : (w : Work) → Transitions.change_of h.tag w ≡ Some l → Transitions.publishes w ≡ true
    by (work.Put pair photo) e = refl
    by (work.Del pair) e = refl
    by (work.Flush side) e = absurd cc
    by (work.Start side) e = absurd cc
    by (work.Step side cells) e = absurd cc
    by (work.Finish side) e = absurd cc

pub keeps_entries : (c : Core) (es : List Event) → CoreGood c → KeepsEntries c es
keeps_entries c es g m n h l lt is reply held ok change never =
    let now = core_at c es m in
    let ended = ended_logged now h (keeps_good c es g m) held ok (publishes_change h l change) (next_reply c es m event.EndHold Done is reply) in
    let next = next_core c es m event.EndHold is in
    let there : (core_at c es (m + 1)).log ≡ ended.0 ++ l ∷ [] = ap (λ (d : Core). d.log) next ∙ ended.1 ∙ ap (λ (o : Option Logged). ended.0 ++ Transitions.entry_list o) change in
    let later = log_grows c es g (m + 1) n (omega arith) (λ k a b. never k (omega arith) b) in
    (ended.0, later.0, later.1 ∙ ap (λ (xs : List Logged). xs ++ later.0) there ∙ append_assoc ended.0 (l ∷ []) later.0)

-- a step, made or refused for memory
pub step_keeps : {E : Type 0} (r : Result CoreReply E) (old new : Core) (e : Event) → IfOk r (λ reply. new ≡ (after_event old e).core) → OnErr r (new ≡ old) → CoreGood old → CoreGood new
step_keeps (Ok reply) old new e made h g = subst CoreGood (sym made) (event_good e old g)
step_keeps (Err x) old new e made h g = subst CoreGood (sym h) g
