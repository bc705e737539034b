-- A line alone that goes on with a compaction step by step is legal as a plain turn.
use Rattle.std.proofs.Common.{◌≡◌, inl, inr, ℕ, ◌+◌, ◌<◌, ◌≤◌, min, Bool, true, false, List, [], ◌∷◌, length, slice_get, Option, Some, None, refl, sym, ap, subst, ◌∙◌, arith}
use Rattle.std.specs.Prelude.{◌≢◌, slice_set}
use Rattle.std.proofs.lemmas.Bool.{cases_eq}
use Rattle.std.proofs.lemmas.List.{get_or-set_same, set-set}
use Rattle.std.proofs.lemmas.Option.{same_Some}
use Rattle.hay_needle.specs.declared.settings.Settings.{Settings}
use Rattle.hay_needle.specs.declared.settings.TheConstants.{LAST_GENERATION}
use Rattle.hay_core.specs.declared.entry.CoreTag.{CoreTag}
use Rattle.hay_reply.specs.declared.Reply.{Reply}
use Rattle.hay_reply.specs.declared.Reply.TheVariants as reply
use Rattle.hay_legal.specs.declared.known.Known.{Known}
use Rattle.hay_legal.specs.declared.known.Run.{Run}
use Rattle.hay_legal.specs.declared.known.VolumeKnown.{VolumeKnown}
use Rattle.hay_legal.specs.declared.turn.Item.{Item}
use Rattle.hay_legal.specs.declared.turn.LaneItem.{LaneItem}
use Rattle.hay_legal.specs.Known.{Leaves, empty_volume, replica_at, replica_on, volume_at}
use Rattle.hay_legal.specs.Plain.{HasRun as LegalRun, IsAtRest, IsIdle, IsLoose, IsOpen, LegalBegin, LegalFinish, LegalStep, MayFinish, OnReplica, RoseTo, Swaps as LegalSwaps}
use Rattle.hay_legal.specs.Plain.{as_it_is, change_volume, first_machine, frozen_by, poised, poised_by, stepped, swapped, with_run, without_run}
use Rattle.hay_history.specs.LaneSteps.{Did, MayHaveSizes, RowStep, change_at, swap_at}
use Rattle.hay_history.specs.LaneSteps.Did.{Begins, Ends, Examines, Fuses, Poises, Swaps, Tries}
use Rattle.hay_history.specs.LaneSteps.RowDid.{Drains, FusesRow, TriesRow}
use Rattle.hay_history.specs.Histories.{Course, HasRunOf, History, NoRows, NoSteps, begun_by, volume_then}
use Rattle.hay_history.specs.Commands.{BeginDid, BeginFailed, CameBy, DidNothing, FinishDid, MetIdle, OnlyDid, StepDid, Stepping, WentOn}
use Rattle.hay_history.specs.Law.{RunsOfPlain}
use Rattle.hay_history.proofs.Alone.{busy_known, frozen_known, leaves_as, left_one, left_still, many_changed, one_led, rose_to, rows_left_still, rows_try_all, still, still_before}
use Rattle.hay_history.proofs.Alone.{tries_all, tries_but, try_none, volumes_changed, worn_known}
use Rattle.hay_history.proofs.Beside.{drains_same, fuses_same}
use Rattle.hay_history.proofs.Lines.{course_of}
use Rattle.hay_history.proofs.OwnRuns.{last_begins, run_cases}
use Rattle.hay_history.proofs.Placing.{on_machine}

-- two changes of one volume
pub changed_twice : (k : Known) (v : ℕ) (f g : VolumeKnown → VolumeKnown) → v < length k.volumes
    → change_volume (change_volume k v f) v g ≡ change_volume k v (λ x. g (f x))
changed_twice k v f g below =
    let here : volume_at (change_volume k v f) v ≡ f (volume_at k v) = get_or-set_same k.volumes v (f (volume_at k v)) empty_volume below in
    ap (λ (x : VolumeKnown). record k { volumes = slice_set (slice_set k.volumes v (f (volume_at k v))) v (g x) }) here
    ∙ ap (λ (xs : List VolumeKnown). record k { volumes = xs }) (set-set k.volumes v (f (volume_at k v)) (g (f (volume_at k v))))

module _ {settings : Settings} {k : Known} {history : History} {t : Known} {Does : Course → Item → Reply → Type 0} (item : LaneItem)
    (h : CameBy Does settings k (item ∷ []) history t) where
  -- WHAT THE LINE LEAVES

  rows_quiet : NoRows (course_of h item)
      → ((i : ℕ) (s : RowStep) → slice_get history.directory i ≡ Some s → s.did ≢ FusesRow) × (t.drained ≡ k.drained)
  rows_quiet none = (
    λ i s at is. let clash : TriesRow ≡ FusesRow = sym (rows_try_all item h none i s at) ∙ is in absurd cc,
    drains_same h (λ i s at m flag is. let clash : TriesRow ≡ Drains m flag = sym (rows_try_all item h none i s at) ∙ is in absurd cc),
  )

  pub nothing_leaves : DidNothing (course_of h item) → Leaves k k t
  nothing_leaves nothing =
      leaves_as item h k refl (λ u below. left_still item h u below (nothing.0 u)) (rows_left_still item h nothing.1) (rows_quiet nothing.1).1
      (fuses_same h (λ v below i s at j is. let clash : Tries ≡ Fuses j = sym (tries_all item h v below (nothing.0 v) i s at) ∙ is in absurd cc) (rows_quiet nothing.1).0)

  only_calm : (v : ℕ) (did : Did) → ((j : ℕ) → did ≢ Fuses j) → v < settings.volumes → OnlyDid (course_of h item) v did → t.fuses ≡ k.fuses
  only_calm v did other_did below only =
      fuses_same h (λ u within i s at j is. elim (cases_eq u v) [
        | inl same ↦ elim (tries_but item h v below did only.step i s (subst (λ (w : ℕ). slice_get (history.volumes w) i ≡ Some s) same at)) [
          | inl tried ↦ let clash : Tries ≡ Fuses j = sym tried ∙ is in absurd cc
          | inr here ↦ other_did j (sym here.1 ∙ is)
        ]
        | inr other ↦ let clash : Tries ≡ Fuses j = sym (tries_all item h u within (only.elsewhere u other) i s at) ∙ is in absurd cc
      ]) (rows_quiet only.rows).0

  -- the one change of the line, of the volume as it stood before
  pub only_leaves : (v : ℕ) (did : Did) (change : VolumeKnown → VolumeKnown) → ((j : ℕ) → did ≢ Fuses j) → v < settings.volumes
      → (only : OnlyDid (course_of h item) v did)
      → volume_then (course_of h item) v ((only.step).place + 1) ≡ change (volume_then (course_of h item) v (only.step).place)
      → Leaves k (change_volume k v change) t
  only_leaves v did change other_did below only changed =
      leaves_as item h (change_volume k v change) (many_changed item h v change)
      (volumes_changed item h v change below
      (left_one item h v did below only.step ∙ changed ∙ ap change (still_before item h v (only.step).place did below only.step (omega arith)))
      (λ u within other. left_still item h u within (only.elsewhere u other)))
      (rows_left_still item h only.rows) (rows_quiet only.rows).1 (only_calm v did other_did below only)

  only_before : (v : ℕ) (did : Did) → v < settings.volumes → (only : OnlyDid (course_of h item) v did)
      → volume_then (course_of h item) v (only.step).place ≡ volume_at k v
  only_before v did below only = still_before item h v (only.step).place did below only.step (omega arith)

  -- BEGINNING

  pub begin_failed : (v j f : ℕ) → v < settings.volumes → j < settings.replicas → BeginFailed (course_of h item) v j f
      → IsOpen k v × IsAtRest k v j × RoseTo settings k v j f t × Leaves k k t
  begin_failed v j f below within did =
      let place : ℕ = (did.step).place in
      let same : volume_then (course_of h item) v place ≡ volume_at k v = still item h v place below (did.step).none in (
        sym (ap (λ (x : VolumeKnown). x.frozen) same) ∙ did.thawed,
        (
          sym (ap (λ (x : VolumeKnown). (replica_at x j).run) same) ∙ did.at_rest,
          subst (λ (x : VolumeKnown). (replica_at x j).generation < LAST_GENERATION) same did.number,
        ),
        rose_to item h v j place f below within did.failed did.last,
        nothing_leaves (try_none item h v did.elsewhere did.step, did.rows),
      )

  begun : (v j g : ℕ) → v < settings.volumes → (begins : OnlyDid (course_of h item) v (Begins j))
      → g ≡ (replica_at (volume_then (course_of h item) v (begins.step).place) j).generation + 1
      → IsOpen k v × IsAtRest k v j × (g ≡ (replica_at (volume_at k v) j).generation + 1)
      × Leaves k (change_volume k v (λ x. change_at x j (with_run (record { goal = g; left = (replica_at (volume_at k v) j).cells })))) t
  begun v j g below begins is =
      let led = one_led item h v (Begins j) below begins.step in
      let same = only_before v (Begins j) below begins in
      let g_is : g ≡ (replica_at (volume_at k v) j).generation + 1 = is ∙ ap (λ (x : VolumeKnown). (replica_at x j).generation + 1) same in (
        sym (ap (λ (x : VolumeKnown). x.frozen) same) ∙ led.0,
        (
          sym (ap (λ (x : VolumeKnown). (replica_at x j).run) same) ∙ led.2,
          subst (λ (x : VolumeKnown). (replica_at x j).generation < LAST_GENERATION) same led.3,
        ),
        g_is,
        only_leaves v (Begins j) (λ x. change_at x j (with_run (record { goal = g; left = (replica_at (volume_at k v) j).cells }))) (λ i e. cc) below begins
            (led.4
            ∙ ap (λ (n : ℕ). change_at (volume_then (course_of h item) v (begins.step).place) j
            (with_run (record { goal = n; left = (replica_at (volume_then (course_of h item) v (begins.step).place) j).cells }))) (sym is)
            ∙ ap (λ (x : VolumeKnown). change_at (volume_then (course_of h item) v (begins.step).place) j
            (with_run (record { goal = g; left = (replica_at x j).cells }))) same),
      )

  begin_at : (v m j : ℕ) (r : Reply) → replica_on settings v m ≡ Some j → BeginDid (course_of h item) v m (Some j) r → LegalBegin settings k v m j r t
  begin_at v m j (reply.Begun v' m' g) there did =
      let is = begun v j g (on_machine settings v m j there).0 (did.1).0 (did.1).1 in (did.0, is.0, is.1, is.2, is.3)
  begin_at v m j (reply.ReadOnly by) there did = (frozen_known item h v by (on_machine settings v m j there).0 (did.1).0 did.0, nothing_leaves did.1)
  begin_at v m j (reply.Busy v' m' g) there did =
      let met = busy_known item h v j g (on_machine settings v m j there).0 (did.1).0 did.2 in (did.0, met.0, met.1, nothing_leaves did.1)
  begin_at v m j (reply.Worn v' m') there did =
      let met = worn_known item h v j (on_machine settings v m j there).0 (did.1).0 did.2 in (did.0, met.0, met.1, nothing_leaves did.1)
  begin_at v m j (reply.Failed v' m' f) there did =
      let on = on_machine settings v m j there in
      let is = begin_failed v j f on.0 on.1 did.1 in (did.0, is.0, is.1, is.2, is.3)
  begin_at v m j reply.NoMem there did = nothing_leaves did
  begin_at v m j r there did = search

  pub begin_plain : (v m : ℕ) (o : Option ℕ) (r : Reply) → replica_on settings v m ≡ o → BeginDid (course_of h item) v m o r
      → OnReplica k o (LegalBegin settings k v m) r t
  begin_plain v m None reply.Nowhere there did = nothing_leaves did
  begin_plain v m None reply.NoMem there did = nothing_leaves did
  begin_plain v m None r there did = search
  begin_plain v m (Some j) r there did = begin_at v m j r there did

  -- IDLE REPLICAS

  -- where no compaction of the line's lane stood, none stood
  idle_known : item.lane ≡ 0 → RunsOfPlain settings k history → (v j : ℕ) → v < settings.volumes → j < settings.replicas → NoSteps (course_of h item)
      → MetIdle (course_of h item) v j → IsOpen k v × IsIdle k v j
  idle_known lane plain v j below within none met =
      let same = still item h v met.0 below (none v) in (
        sym (ap (λ (x : VolumeKnown). x.frozen) same) ∙ met.2,
        elim (run_cases (replica_at (volume_at k v) j).run) [
          | inr at_rest ↦ at_rest
          | inl stands ↦ absurd (met.3 (
            begun_by j (history.begun v j) (history.volumes v) met.0,
            ap (λ (tag : CoreTag). tag.lane) (by_before met.0) ∙ plain v j stands.0 below within stands.1 ∙ sym lane,
            record { run = stands.0; stands = ap (λ (x : VolumeKnown). (replica_at x j).run) same ∙ stands.1; begun = refl },
          ))
        ],
      )
    where
      by_before : (n : ℕ) → begun_by j (history.begun v j) (history.volumes v) n ≡ history.begun v j
      by_before n = elim (last_begins j (history.begun v j) (history.volumes v) n) [
        | inl found ↦
            let clash : Tries ≡ Begins j = sym (tries_all item h v below (none v) found.place found.step found.at) ∙ found.begins in absurd cc
        | inr nothing ↦ nothing.1 (history.begun v j)
      ]

  -- STEPPING

  stepped_on : (v j n : ℕ) (AsMany : ℕ → ℕ → Type 0) → v < settings.volumes → Stepping (course_of h item) v j n AsMany
      → IsOpen k v × ((run : Run) × ((replica_at (volume_at k v) j).run ≡ Some run) × AsMany n run.left
      × Leaves k (change_volume k v (λ x. change_at x j (with_run (stepped n run)))) t)
  stepped_on v j n AsMany below (went, many) =
      let led = one_led item h v (Examines j n) below (went.only).step in
      let same = only_before v (Examines j n) below went.only in
      let own : HasRunOf (course_of h item) v j ((went.only).step).place (went.own).0 = (went.own).2 in
      let one : own.run ≡ (led.2).0 = same_Some own.run (led.2).0 (sym own.stands ∙ (led.2).1) in (
        sym (ap (λ (x : VolumeKnown). x.frozen) same) ∙ led.0,
        (
          (led.2).0,
          sym (ap (λ (x : VolumeKnown). (replica_at x j).run) same) ∙ (led.2).1,
          subst (λ (run : Run). AsMany n run.left) one many,
          only_leaves v (Examines j n) (λ x. change_at x j (with_run (stepped n (led.2).0))) (λ i e. cc) below went.only (led.2).3,
        ),
      )

  ended_on : (v j : ℕ) → v < settings.volumes → WentOn (course_of h item) v j (Ends j)
      → IsOpen k v × LegalRun k v j × Leaves k (change_volume k v (λ x. change_at x j without_run)) t
  ended_on v j below went =
      let led = one_led item h v (Ends j) below (went.only).step in
      let same = only_before v (Ends j) below went.only in (
        sym (ap (λ (x : VolumeKnown). x.frozen) same) ∙ led.0,
        ((led.2).0, sym (ap (λ (x : VolumeKnown). (replica_at x j).run) same) ∙ (led.2).1),
        only_leaves v (Ends j) (λ x. change_at x j without_run) (λ i e. cc) below went.only led.3,
      )

  step_at : item.lane ≡ 0 → RunsOfPlain settings k history → (v m j cells : ℕ) (r : Reply) → replica_on settings v m ≡ Some j
      → StepDid (course_of h item) v m cells (Some j) r → LegalStep settings k v m j cells r t
  step_at lane plain v m j cells (reply.Stepped v' m' n) there did =
      let is = stepped_on v j n (λ n left. n ≡ min cells left) (on_machine settings v m j there).0 did.1 in (did.0, is.0, is.1)
  step_at lane plain v m j cells (reply.ReadOnly by) there did =
      (frozen_known item h v by (on_machine settings v m j there).0 (did.1).0 did.0, nothing_leaves did.1)
  step_at lane plain v m j cells (reply.Idle v' m') there did =
      let on = on_machine settings v m j there in
      let idle = idle_known lane plain v j on.0 on.1 (did.2).0 did.1 in (did.0, idle.0, idle.1, nothing_leaves did.2)
  step_at lane plain v m j cells (reply.Failed v' m' f) there did =
      let on = on_machine settings v m j there in
      let ends = (did.1).0 in
      let is = ended_on v j on.0 ends in
      (did.0, is.0, is.1, rose_to item h v j ((ends.only).step).place f on.0 on.1 (did.1).1 (did.1).2, is.2)
  step_at lane plain v m j cells reply.NoMem there did = elim did [
    | inl nothing ↦ inl (nothing_leaves nothing)
    | inr went ↦
        let is = stepped_on v j went.0 (λ n left. n ≤ min cells left) (on_machine settings v m j there).0 went.1 in
        inr (is.0, (is.1).0, went.0, (is.1).1, (is.1).2, (is.1).3)
  ]
  step_at lane plain v m j cells r there did = search

  pub step_plain : item.lane ≡ 0 → RunsOfPlain settings k history → (v m cells : ℕ) (o : Option ℕ) (r : Reply) → replica_on settings v m ≡ o
      → StepDid (course_of h item) v m cells o r → OnReplica k o (λ j. LegalStep settings k v m j cells) r t
  step_plain lane plain v m cells None reply.Nowhere there did = nothing_leaves did
  step_plain lane plain v m cells None reply.NoMem there did = nothing_leaves did
  step_plain lane plain v m cells None r there did = search
  step_plain lane plain v m cells (Some j) r there did = step_at lane plain v m j cells r there did

  -- FINISHING

  may_finish : (v j : ℕ) → v < settings.volumes → j < settings.replicas → LegalRun k v j → MayFinish k v j
  may_finish v j below within stands = (stands, (h.regular).numbers v j below within stands.0 stands.1)

  loose : (v j end cells : ℕ) (x : VolumeKnown) → x ≡ volume_at k v → MayHaveSizes x j end cells → IsLoose k v j end cells
  loose v j end cells x same sizes =
      let here = subst (λ (y : VolumeKnown). MayHaveSizes y j end cells) same sizes in (here.photos_fit, here.no_longer, here.photos, here.no_more)

  swapped_on : (v j end cells : ℕ) (freezes : Bool) (besides : VolumeKnown → VolumeKnown) → v < settings.volumes
      → ((x : VolumeKnown) → swap_at settings v x j end cells freezes ≡ besides (change_at x j (swapped end cells)))
      → WentOn (course_of h item) v j (Swaps j end cells freezes)
      → IsOpen k v × LegalRun k v j × LegalSwaps IsLoose besides k v j t
  swapped_on v j end cells freezes besides below split went =
      let e : Did = Swaps j end cells freezes in
      let led = one_led item h v e below (went.only).step in
      let same = only_before v e below went.only in
      let left = only_leaves v e (λ x. besides (change_at x j (swapped end cells))) (λ i e. cc) below went.only
      (led.4 ∙ split (volume_then (course_of h item) v ((went.only).step).place)) in (
        sym (ap (λ (x : VolumeKnown). x.frozen) same) ∙ led.0,
        ((led.2).0, sym (ap (λ (x : VolumeKnown). (replica_at x j).run) same) ∙ (led.2).1),
        (
          end,
          cells,
          loose v j end cells (volume_then (course_of h item) v ((went.only).step).place) same led.3,
          subst (λ (expected : Known). Leaves k expected t)
              (sym (changed_twice k v (λ x. change_at x j (swapped end cells)) besides (omega (arith, below, (h.store).volumes)))) left,
        ),
      )

  poised_on : (v m j : ℕ) → v < settings.volumes → WentOn (course_of h item) v j (Poises m j) → IsOpen k v × LegalRun k v j × Leaves k (poised_by m k v j) t
  poised_on v m j below went =
      let led = one_led item h v (Poises m j) below (went.only).step in
      let same = only_before v (Poises m j) below went.only in (
        sym (ap (λ (x : VolumeKnown). x.frozen) same) ∙ led.0,
        ((led.2).0, sym (ap (λ (x : VolumeKnown). (replica_at x j).run) same) ∙ (led.2).1),
        subst (λ (expected : Known). Leaves k expected t)
            (sym (changed_twice k v (frozen_by m) (λ x. change_at x j poised) (omega (arith, below, (h.store).volumes))))
            (only_leaves v (Poises m j) (λ x. change_at (frozen_by m x) j poised) (λ i e. cc) below went.only led.3),
      )

  finish_at : item.lane ≡ 0 → RunsOfPlain settings k history → (v m j : ℕ) (r : Reply) → replica_on settings v m ≡ Some j
      → FinishDid (course_of h item) v m (Some j) r → LegalFinish settings k v m j r t
  finish_at lane plain v m j (reply.Compacted v' m' g) there did =
      let on = on_machine settings v m j there in
      let done = did.1 in
      let is = swapped_on v j done.0 done.1 false as_it_is on.0 (λ x. refl) done.2 in
      let same = only_before v (Swaps j done.0 done.1 false) on.0 (done.2).only in
      (did.0, is.0, may_finish v j on.0 on.1 is.1, done.3 ∙ ap (λ (x : VolumeKnown). (replica_at x j).generation + 1) same, is.2)
  finish_at lane plain v m j (reply.ReadOnly by) there did =
      (frozen_known item h v by (on_machine settings v m j there).0 (did.1).0 did.0, nothing_leaves did.1)
  finish_at lane plain v m j (reply.Idle v' m') there did =
      let on = on_machine settings v m j there in
      let idle = idle_known lane plain v j on.0 on.1 (did.2).0 did.1 in (did.0, idle.0, idle.1, nothing_leaves did.2)
  finish_at lane plain v m j (reply.Failed v' m' f) there did =
      let on = on_machine settings v m j there in
      elim did.1 [
        | inl ends ↦
            let is = ended_on v j on.0 ends.0 in
            (did.0, is.0, is.1, rose_to item h v j (((ends.0).only).step).place f on.0 on.1 ends.1 ends.2, inl is.2)
        | inr poises ↦
            let is = poised_on v m j on.0 poises.0 in
            (did.0, is.0, is.1, rose_to item h v j (((poises.0).only).step).place f on.0 on.1 poises.1 poises.2, inr is.2)
      ]
  finish_at lane plain v m j reply.NoMem there did =
      let on = on_machine settings v m j there in
      elim did [
        | inl nothing ↦ inl (nothing_leaves nothing)
        | inr some ↦ elim some [
          | inl ends ↦ let is = ended_on v j on.0 ends in inr (is.0, may_finish v j on.0 on.1 is.1, inl is.2)
          | inr swaps ↦
              let is = swapped_on v j swaps.0 swaps.1 true (frozen_by (first_machine settings v)) on.0 (λ x. refl) swaps.2 in
              inr (is.0, may_finish v j on.0 on.1 is.1, inr is.2)
        ]
      ]
  finish_at lane plain v m j r there did = search

  pub finish_plain : item.lane ≡ 0 → RunsOfPlain settings k history → (v m : ℕ) (o : Option ℕ) (r : Reply) → replica_on settings v m ≡ o
      → FinishDid (course_of h item) v m o r → OnReplica k o (LegalFinish settings k v m) r t
  finish_plain lane plain v m None reply.Nowhere there did = nothing_leaves did
  finish_plain lane plain v m None reply.NoMem there did = nothing_leaves did
  finish_plain lane plain v m None r there did = search
  finish_plain lane plain v m (Some j) r there did = finish_at lane plain v m j r there did
