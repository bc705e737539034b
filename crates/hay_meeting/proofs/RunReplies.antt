-- A flush, or a compaction, whole or step by step, did what its reply says.
use Rattle.std.proofs.Common.{◌≡◌, inl, inr, ℕ, ◌+◌, ◌<◌, ◌≤◌, Bool, List, [], ◌∷◌, ◌++◌, length, map, sym, ap, subst, ◌∙◌, arith, length-append, Option, None, Some}
use mathlib.Core.List.{map-append}
use Rattle.hay_needle.specs.declared.settings.Settings.{Settings}
use Rattle.hay_needle.specs.Tables.{live_end}
use Rattle.hay_needle.specs.declared.settings.TheConstants.{LAST_GENERATION}
use Rattle.hay_reply.specs.declared.ClosedBy.{ClosedBy}
use Rattle.hay_reply.specs.declared.Reply.{Reply}
use Rattle.hay_reply.specs.declared.Reply.TheVariants.{Begun, Busy, Compacted, Failed, Flushed, Idle, NoMem, Nowhere, ReadOnly, Stepped, Worn}
use Rattle.hay_legal.specs.declared.known.Known.{Known}
use Rattle.hay_legal.specs.declared.known.VolumeKnown.{VolumeKnown}
use Rattle.hay_legal.specs.declared.turn.LaneItem.{LaneItem}
use Rattle.hay_legal.specs.Known.{now, replica_at}
use Rattle.hay_history.specs.LaneSteps.{Did}
use Rattle.hay_history.specs.LaneSteps.Did.{Examines}
use Rattle.hay_history.specs.Histories.{Course, IsMoment, volume_then}
use Rattle.hay_history.specs.Commands.{BeginDid, BeginFailed, CompactDid, CompactFailed, CompactRefused, CompactWanting, FinishDid, FinishFailed, FlushDid, FlushDone, FlushFailed}
use Rattle.hay_history.specs.Commands.{IsFrozen, IsLast, IsStuck, IsTightAlone, MetBusy, MetIdle, MetWorn, OnlyDid, Ran, RanAs, RanFrozen, RanUntil, RoseIn, StepDid, WentOn}
use Rattle.hay_history.proofs.Lists.{each_weaker}
use Rattle.hay_meeting.specs.declared.act.VolumeAct.{VolumeAct}
use Rattle.hay_meeting.specs.Acts.{Happened, Start, volume_lock}
use Rattle.hay_meeting.specs.Facts.{volume_stood}
use Rattle.hay_meeting.specs.Locks.{Doing, Held, IsDoing, past}
use Rattle.hay_meeting.specs.Replies.{BeginDidHere, BeginFailedHere, CompactDidHere, CompactFailedHere, CompactRefusedHere, CompactWantingHere, FailedLast, FinishDidHere}
use Rattle.hay_meeting.specs.Replies.{FinishFailedHere, FlushDidHere, FlushDoneHere, FlushFailedHere, IsFrozenHere, IsStuckHere, IsTightHere, MetBusyHere, MetIdleHere}
use Rattle.hay_meeting.specs.Replies.{MetWornHere, OnlyDidHere, RanAsHere, RanFrozenHere, RanHere, RanUntilHere, StepDidHere, WentOnHere}
use Rattle.hay_meeting.specs.Sights.{Bears, Cut, Doings, Sight, Work}
use Rattle.hay_meeting.proofs.Courses.{at_doing, c, changes_are, doing_held, doing_past, held_low, past_at}
use Rattle.hay_meeting.proofs.Picking.{each_map}
use Rattle.hay_meeting.proofs.Replays.{prefix_length}
use Rattle.hay_meeting.proofs.Seeing.{among_own, doing_among, doing_of, did_nothing, had_run, has_run, is_last, moment_held, no_rows, nothing_on, one_held, one_is, one_step}
use Rattle.hay_meeting.proofs.Seeing.{only_on, place_at, rose_in, volume_held}

module _ {settings : Settings} {start : Start} {drained : List Bool} {k : Known} {cut : Cut} {h : Happened} {item : LaneItem} {a b : Sight} {doings : Doings}
    (bears : Bears settings start drained k cut h item a b) (work : Work item a b doings) where
  abbrev line : Course
  line = c bears work

  abbrev Lies : ℕ → Doing VolumeAct → Type 0
  Lies v d = IsDoing volume_lock (a.volumes v) (b.volumes v) d

  held_of : (v : ℕ) (d : Doing VolumeAct) → Lies v d → Held volume_lock (a.volumes v) (b.volumes v) d.held
  held_of v d is = doing_held volume_lock (bears.volumes v) (work.volumes v).later d is

  past_of : (v : ℕ) (d : Doing VolumeAct) → Lies v d → Held volume_lock (a.volumes v) (b.volumes v) (past d)
  past_of v d is = doing_past volume_lock (bears.volumes v) (work.volumes v).later d is

  -- what stood before a doing, and behind it
  before_is : (v : ℕ) (d : Doing VolumeAct) → v < settings.volumes → Lies v d → volume_then line v (place_at bears work v d.held) ≡ volume_stood start v d.held
  before_is v d below is = volume_held bears work v d.held below (held_of v d is)

  after_is : (v : ℕ) (d : Doing VolumeAct) → v < settings.volumes → Lies v d → volume_then line v (place_at bears work v d.held + 1) ≡ volume_stood start v (past d)
  after_is v d below is =
      ap (volume_then line v) (sym (past_at volume_lock (bears.volumes v) (work.volumes v).later d is)) ∙ volume_held bears work v (past d) below (past_of v d is)

  is_frozen : (v : ℕ) (by : List ClosedBy) → IsFrozenHere settings start drained item a b doings v by → IsFrozen line v by
  is_frozen v [] x = absurd x
  is_frozen v (by ∷ []) (at, found) =
      let held : List VolumeAct = found.held in (
        at,
        record {
          moment = place_at bears work v held;
          seen = moment_held bears work v held found.between;
          is = ap (λ (z : VolumeKnown). z.frozen) (volume_held bears work v held found.below found.between) ∙ found.is;
        },
      )
  is_frozen v (by ∷ other ∷ more) x = absurd x

  -- FLUSHES

  is_stuck : (v m j : ℕ) (by : List ClosedBy) → IsStuckHere settings start drained item a b doings v m j by → IsStuck line v m j by
  is_stuck v m j [] x = absurd x
  is_stuck v m j (by ∷ []) (on, found) =
      let stood = volume_held bears work v found.held found.below found.between in (
        on,
        (
          place_at bears work v found.held,
          moment_held bears work v found.held found.between,
          ap (λ (z : VolumeKnown). z.frozen) stood ∙ (found.is).0,
          ap (λ (z : VolumeKnown). (replica_at z j).stuck) stood ∙ (found.is).1,
        ),
      )
  is_stuck v m j (by ∷ other ∷ more) x = absurd x

  flush_done : {v j n : ℕ} → FlushDoneHere settings start drained item a b doings v j n → FlushDone line v j n
  flush_done {v} {j} x = record {
    rows = no_rows bears work x.rows;
    elsewhere = only_on bears work x.elsewhere;
    step = one_step bears work x.doing;
    number = x.number ∙ ap (λ (z : VolumeKnown). (replica_at z j).bare) (sym (before_is v (x.doing).one x.below (one_is bears work x.doing)));
  }

  flush_failed : {v j f : ℕ} → FlushFailedHere settings start drained item a b doings v j f → FlushFailed line v j f
  flush_failed {v} x = record {
    rows = no_rows bears work x.rows;
    elsewhere = only_on bears work x.elsewhere;
    step = one_step bears work x.doing;
    failed = rose_in bears work (x.doing).one x.below (one_is bears work x.doing) x.failed;
    last = is_last bears work v (x.doing).one x.last;
  }

  pub flush_did : (v m : ℕ) (there : Option ℕ) (reply : Reply) → FlushDidHere settings start drained item a b doings v m there reply → FlushDid line v m there reply
  flush_did v m None Nowhere none = did_nothing bears work none
  flush_did v m None NoMem none = did_nothing bears work none
  flush_did v m None _ x = absurd x
  flush_did v m (Some j) (Flushed v' m' n) (on, x) = (on, flush_done x)
  flush_did v m (Some j) (ReadOnly by) (inl frozen, none) = (inl (is_frozen v by frozen), did_nothing bears work none)
  flush_did v m (Some j) (ReadOnly by) (inr stuck, none) = (inr (is_stuck v m j by stuck), did_nothing bears work none)
  flush_did v m (Some j) (Failed v' m' f) (on, x) = (on, flush_failed x)
  flush_did v m (Some j) NoMem none = did_nothing bears work none
  flush_did v m (Some j) _ x = absurd x

  -- COMPACTIONS

  abbrev ran : {v j : ℕ} {last : List (Doing VolumeAct)} → RanHere settings start drained item a b doings v j last → Ran line v j (map (at_doing bears work v) last)
  ran {v} {j} {last} x =
      let until : Doing VolumeAct = x.until in
      let is : Lies v until = (x.ran).between in
      let first_is : Lies v x.first = doing_of bears work v x.first (x.middle ++ last) x.steps in
      let low : cut.volumes v ≤ length (x.first).held = held_low volume_lock (bears.volumes v) (work.volumes v).later (x.first).held first_is.from in
      let behind = x.behind_it in record {
        rows = no_rows bears work x.rows;
        elsewhere = only_on bears work x.elsewhere;
        place = place_at bears work v (x.first).held;
        first = (at_doing bears work v x.first).1;
        begins = x.begins;
        middle = map (at_doing bears work v) x.middle;
        examines = each_map (at_doing bears work v) (λ at. (n : ℕ) × ((at.1).did ≡ Examines j n)) x.middle x.examines;
        steps = changes_are bears work v ∙ (ap (map (at_doing bears work v)) x.steps ∙ ap (λ z. at_doing bears work v x.first ∷ z) (map-append (at_doing bears work v) x.middle last));
        until = place_at bears work v until.held;
        behind_it = omega (arith, low, behind);
        inside = each_map (at_doing bears work v) (λ at. at.0 < place_at bears work v until.held) x.middle
            (each_weaker (λ d. length d.held < length until.held) (λ d. place_at bears work v d.held < place_at bears work v until.held)
            (λ d less. omega (arith, low, behind, less)) x.middle x.inside);
        seen = subst (IsMoment line v) (past_at volume_lock (bears.volumes v) (work.volumes v).later until is) (moment_held bears work v (past until) (past_of v until is));
        own = has_run bears work until.held x.below (held_of v until is) (x.ran).own;
        none = ap (λ (z : VolumeKnown). (replica_at z j).run) (after_is v until x.below is) ∙ (x.ran).none;
      }

  abbrev ran_as : {v j : ℕ} {did : Did} → RanAsHere settings start drained item a b doings v j did → RanAs line v j did
  ran_as {v} x = record {
    place = place_at bears work v (x.doing).held;
    step = (at_doing bears work v x.doing).1;
    is = x.is;
    ran = ran x.ran;
    last = ap (λ (d : Doing VolumeAct). place_at bears work v d.held) x.last;
  }

  -- its last doing lies between
  last_lies : {v j : ℕ} {did : Did} (x : RanAsHere settings start drained item a b doings v j did) → Lies v x.doing
  last_lies {v} x = subst (Lies v) x.last ((x.ran).ran).between

  ran_until : {v j f : ℕ} → RanUntilHere settings start drained item a b doings v j f → RanUntil line v j f
  ran_until {v} {j} {f} x =
      let until : Doing VolumeAct = (x.ran).until in
      let is : Lies v until = ((x.ran).ran).between in record {
        ran = ran x.ran;
        thawed = ap (λ (z : VolumeKnown). z.frozen) (after_is v until (x.ran).below is) ∙ x.thawed;
        rose = rose_in bears work until (x.ran).below is x.rose;
      }

  begin_failed : {v j f : ℕ} → BeginFailedHere settings start drained item a b doings v j f → BeginFailed line v j f
  begin_failed {v} {j} x =
      let try = x.try in
      let is : Lies v try.one = doing_among bears work v try.one try.among in
      let stood = before_is v try.one x.below is in record {
        rows = no_rows bears work x.rows;
        elsewhere = only_on bears work x.elsewhere;
        step = record {
          place = place_at bears work v (try.one).held;
          step = (at_doing bears work v try.one).1;
          among = among_own bears work v try.one try.among;
          none = nothing_on bears work v try.none;
          is = try.is;
        };
        thawed = ap (λ (z : VolumeKnown). z.frozen) stood ∙ x.thawed;
        at_rest = ap (λ (z : VolumeKnown). (replica_at z j).run) stood ∙ x.at_rest;
        number = subst (λ (z : VolumeKnown). (replica_at z j).generation < LAST_GENERATION) (sym stood) x.number;
        failed = rose_in bears work try.one x.below is x.failed;
        last = is_last bears work v try.one x.last;
      }

  failed_last : (v j f : ℕ) (d : Doing VolumeAct) → v < settings.volumes → Lies v d → FailedLast settings start drained item a b doings v j f d
      → RoseIn line v (place_at bears work v d.held) j f × IsLast line v (place_at bears work v d.held)
  failed_last v j f d below is (rose, last) = (rose_in bears work d below is rose, is_last bears work v d last)

  compact_failed : (v m j f : ℕ) → CompactFailedHere settings start drained item a b doings v m j f → CompactFailed line v m j f
  compact_failed v m j f (inl begin) = inl (begin_failed begin)
  compact_failed v m j f (inr (inl (ends, failed))) =
      let r = failed_last v j f ends.doing (ends.ran).below (last_lies ends) failed in inr (inl (ran_as ends, r.0, r.1))
  compact_failed v m j f (inr (inr (inl (poises, failed)))) =
      let r = failed_last v j f poises.doing (poises.ran).below (last_lies poises) failed in inr (inr (inl (ran_as poises, r.0, r.1)))
  compact_failed v m j f (inr (inr (inr until))) = inr (inr (inr (ran_until until)))

  ran_frozen : (v j m : ℕ) → RanFrozenHere settings start drained item a b doings v j m → RanFrozen line v j m
  ran_frozen v j m x =
      let held = (x.found).held in
      let between = (x.found).between in
      let until : Doing VolumeAct = (x.ran).until in
      let low : cut.volumes v ≤ length until.held = held_low volume_lock (bears.volumes v) (work.volumes v).later until.held (((x.ran).ran).between).from in
      let longer = prefix_length (past until) held ((x.found).is).0 in
      let one = length-append until.held (until.act ∷ []) in record {
        ran = ran x.ran;
        moment = place_at bears work v held;
        behind_it = omega (arith, low, longer, one);
        seen = moment_held bears work v held between;
        frozen = ap (λ (z : VolumeKnown). z.frozen) (volume_held bears work v held (x.found).below between) ∙ ((x.found).is).1;
      }

  is_tight : (v j end cells : ℕ) (from to : Doing VolumeAct) → v < settings.volumes → Lies v from → Lies v to → IsTightHere settings start drained item a b doings v j from.held to.held end cells
      → IsTightAlone line v j (place_at bears work v from.held) (place_at bears work v to.held) end cells
  is_tight v j end cells from to below first last tight same =
      let at_first = before_is v from below first in
      let at_last = before_is v to below last in
      let t = tight (ap (λ (z : VolumeKnown). z.log) (sym at_last) ∙ (same ∙ ap (λ (z : VolumeKnown). z.log) at_first)) in
      (t.0 ∙ ap (λ (z : VolumeKnown). live_end (now z (replica_at z j))) (sym at_last), t.1 ∙ ap (λ (z : VolumeKnown). length (now z (replica_at z j))) (sym at_last))

  first_lies : {v j : ℕ} {last : List (Doing VolumeAct)} (x : RanHere settings start drained item a b doings v j last) → Lies v x.first
  first_lies {v} {j} {last} x = doing_of bears work v x.first (x.middle ++ last) x.steps

  compact_wanting : (v j : ℕ) → CompactWantingHere settings start drained item a b doings v j → CompactWanting line v j
  compact_wanting v j (inl none) = inl (did_nothing bears work none)
  compact_wanting v j (inr (inl ends)) = inr (inl (ran_as ends))
  compact_wanting v j (inr (inr (inl (end, cells, swaps, tight)))) =
      inr (inr (inl (end, cells, ran_as swaps, is_tight v j end cells (swaps.ran).first swaps.doing (swaps.ran).below (first_lies swaps.ran) (last_lies swaps) tight)))
  compact_wanting v j (inr (inr (inr (inl (f, until))))) = inr (inr (inr (inl (f, ran_until until))))
  compact_wanting v j (inr (inr (inr (inr (m, frozen))))) = inr (inr (inr (inr (m, ran_frozen v j m frozen))))

  compact_refused : (v j : ℕ) (by : List ClosedBy) → CompactRefusedHere settings start drained item a b doings v j by → CompactRefused line v j by
  compact_refused v j by (inl (frozen, none)) = inl (is_frozen v by frozen, did_nothing bears work none)
  compact_refused v j [] (inr x) = absurd x
  compact_refused v j (by ∷ []) (inr (at, frozen)) = inr (at, ran_frozen v j by.machine frozen)
  compact_refused v j (by ∷ other ∷ more) (inr x) = absurd x

  met_busy : (v j g : ℕ) → MetBusyHere settings start drained item a b doings v j g → MetBusy line v j g
  met_busy v j g found =
      let stood = volume_held bears work v found.held found.below found.between in
      let run = (found.is).1 in (
        place_at bears work v found.held,
        moment_held bears work v found.held found.between,
        ap (λ (z : VolumeKnown). z.frozen) stood ∙ (found.is).0,
        (run.0, ap (λ (z : VolumeKnown). (replica_at z j).run) stood ∙ run.1, run.2),
      )

  met_worn : (v j : ℕ) → MetWornHere settings start drained item a b doings v j → MetWorn line v j
  met_worn v j found =
      let stood = volume_held bears work v found.held found.below found.between in (
        place_at bears work v found.held,
        moment_held bears work v found.held found.between,
        ap (λ (z : VolumeKnown). z.frozen) stood ∙ (found.is).0,
        ap (λ (z : VolumeKnown). (replica_at z j).run) stood ∙ (found.is).1,
        ap (λ (z : VolumeKnown). (replica_at z j).generation) stood ∙ (found.is).2,
      )

  pub compact_did : (v m : ℕ) (there : Option ℕ) (reply : Reply) → CompactDidHere settings start drained item a b doings v m there reply → CompactDid line v m there reply
  compact_did v m None Nowhere none = did_nothing bears work none
  compact_did v m None NoMem none = did_nothing bears work none
  compact_did v m None _ x = absurd x
  compact_did v m (Some j) (Compacted v' m' g) (on, (end, cells, swaps, number, tight)) = (
    on,
    (
      end,
      cells,
      ran_as swaps,
      number ∙ ap (λ (z : VolumeKnown). (replica_at z j).generation + 1) (sym (before_is v swaps.doing (swaps.ran).below (last_lies swaps))),
      is_tight v j end cells (swaps.ran).first swaps.doing (swaps.ran).below (first_lies swaps.ran) (last_lies swaps) tight,
    ),
  )
  compact_did v m (Some j) (ReadOnly by) x = compact_refused v j by x
  compact_did v m (Some j) (Busy v' m' g) (on, none, busy) = (on, did_nothing bears work none, met_busy v j g busy)
  compact_did v m (Some j) (Worn v' m') (on, none, worn) = (on, did_nothing bears work none, met_worn v j worn)
  compact_did v m (Some j) (Failed v' m' f) (on, failed) = (on, compact_failed v m j f failed)
  compact_did v m (Some j) NoMem x = compact_wanting v j x
  compact_did v m (Some j) _ x = absurd x

  -- STEP BY STEP

  abbrev pub only_did : {v : ℕ} {did : Did} → OnlyDidHere settings start drained item a b doings v did → OnlyDid line v did
  only_did x = record { rows = no_rows bears work x.rows; elsewhere = only_on bears work x.elsewhere; step = one_step bears work x.doing }

  abbrev went_on : {v j : ℕ} {did : Did} → WentOnHere settings start drained item a b doings v j did → WentOn line v j did
  went_on {v} {j} x = record {
    only = only_did x.only;
    own = ((x.own).0, (x.own).1, has_run bears work (((x.only).doing).one).held (x.only).below (one_held bears work (x.only).doing) (x.own).2);
  }

  met_idle : (v j : ℕ) → MetIdleHere settings start drained item a b doings v j → MetIdle line v j
  met_idle v j found = (
    place_at bears work v found.held,
    moment_held bears work v found.held found.between,
    ap (λ (z : VolumeKnown). z.frozen) (volume_held bears work v found.held found.below found.between) ∙ (found.is).0,
    (λ has. (found.is).1 (has.0, has.1, had_run bears work found.held found.below found.between has.2)),
  )

  pub begin_did : (v m : ℕ) (there : Option ℕ) (reply : Reply) → BeginDidHere settings start drained item a b doings v m there reply → BeginDid line v m there reply
  begin_did v m None Nowhere none = did_nothing bears work none
  begin_did v m None NoMem none = did_nothing bears work none
  begin_did v m None _ x = absurd x
  begin_did v m (Some j) (Begun v' m' g) (on, (begins, number)) =
      (on, (only_did begins, number ∙ ap (λ (z : VolumeKnown). (replica_at z j).generation + 1) (sym (before_is v (begins.doing).one begins.below (one_is bears work begins.doing)))))
  begin_did v m (Some j) (ReadOnly by) (frozen, none) = (is_frozen v by frozen, did_nothing bears work none)
  begin_did v m (Some j) (Busy v' m' g) (on, none, busy) = (on, did_nothing bears work none, met_busy v j g busy)
  begin_did v m (Some j) (Worn v' m') (on, none, worn) = (on, did_nothing bears work none, met_worn v j worn)
  begin_did v m (Some j) (Failed v' m' f) (on, failed) = (on, begin_failed failed)
  begin_did v m (Some j) NoMem none = did_nothing bears work none
  begin_did v m (Some j) _ x = absurd x

  pub step_did : (v m cells : ℕ) (there : Option ℕ) (reply : Reply) → StepDidHere settings start drained item a b doings v m cells there reply → StepDid line v m cells there reply
  step_did v m cells None Nowhere none = did_nothing bears work none
  step_did v m cells None NoMem none = did_nothing bears work none
  step_did v m cells None _ x = absurd x
  step_did v m cells (Some j) (Stepped v' m' n) (on, (went, many)) = (on, (went_on went, many))
  step_did v m cells (Some j) (ReadOnly by) (frozen, none) = (is_frozen v by frozen, did_nothing bears work none)
  step_did v m cells (Some j) (Idle v' m') (on, idle, none) = (on, met_idle v j idle, did_nothing bears work none)
  step_did v m cells (Some j) (Failed v' m' f) (on, (ends, failed)) =
      let r = failed_last v j f ((ends.only).doing).one (ends.only).below (one_is bears work (ends.only).doing) failed in (on, (went_on ends, r.0, r.1))
  step_did v m cells (Some j) NoMem (inl none) = inl (did_nothing bears work none)
  step_did v m cells (Some j) NoMem (inr (n, (went, many))) = inr (n, (went_on went, many))
  step_did v m cells (Some j) _ x = absurd x

  finish_failed : (v m j f : ℕ) → FinishFailedHere settings start drained item a b doings v m j f → FinishFailed line v m j f
  finish_failed v m j f (inl (ends, failed)) =
      let r = failed_last v j f ((ends.only).doing).one (ends.only).below (one_is bears work (ends.only).doing) failed in inl (went_on ends, r.0, r.1)
  finish_failed v m j f (inr (poises, failed)) =
      let r = failed_last v j f ((poises.only).doing).one (poises.only).below (one_is bears work (poises.only).doing) failed in inr (went_on poises, r.0, r.1)

  pub finish_did : (v m : ℕ) (there : Option ℕ) (reply : Reply) → FinishDidHere settings start drained item a b doings v m there reply → FinishDid line v m there reply
  finish_did v m None Nowhere none = did_nothing bears work none
  finish_did v m None NoMem none = did_nothing bears work none
  finish_did v m None _ x = absurd x
  finish_did v m (Some j) (Compacted v' m' g) (on, (end, cells, swaps, number)) =
      let doing = (swaps.only).doing in
      (on, (end, cells, went_on swaps, number ∙ ap (λ (z : VolumeKnown). (replica_at z j).generation + 1) (sym (before_is v doing.one (swaps.only).below (one_is bears work doing)))))
  finish_did v m (Some j) (ReadOnly by) (frozen, none) = (is_frozen v by frozen, did_nothing bears work none)
  finish_did v m (Some j) (Idle v' m') (on, idle, none) = (on, met_idle v j idle, did_nothing bears work none)
  finish_did v m (Some j) (Failed v' m' f) (on, failed) = (on, finish_failed v m j f failed)
  finish_did v m (Some j) NoMem (inl none) = inl (did_nothing bears work none)
  finish_did v m (Some j) NoMem (inr (inl ends)) = inr (inl (went_on ends))
  finish_did v m (Some j) NoMem (inr (inr (end, cells, swaps))) = inr (inr (end, cells, went_on swaps))
  finish_did v m (Some j) _ x = absurd x
