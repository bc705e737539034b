-- A line alone that deletes a photo, or flushes an index, is legal as a plain turn.
use Rattle.std.proofs.Common.{◌≡◌, ◌⊎◌, inl, inr, ℕ, zero, suc, ◌+◌, ◌<◌, Bool, true, false, List, [], ◌∷◌, length, take, get_or, slice_get, Option, Some, None, refl, sym, ap, subst, ◌∙◌, arith}
use Rattle.std.specs.List.{list_any, range_with_len}
use Rattle.std.proofs.lemmas.Bool.{cases_eq}
use Rattle.std.proofs.lemmas.Option.{none-some}
use Rattle.hay_needle.specs.declared.needle.Pair.{Pair}
use Rattle.hay_needle.specs.declared.settings.Settings.{Settings}
use Rattle.hay_needle.specs.Tables.{outcome_at}
use Rattle.hay_disk.specs.Counts.{Rose}
use Rattle.hay_core.specs.declared.entry.Entry.TheVariants as entry
use Rattle.hay_reply.specs.declared.ClosedBy.{ClosedBy}
use Rattle.hay_reply.specs.declared.Reply.{Reply}
use Rattle.hay_reply.specs.declared.Reply.TheVariants as reply
use Rattle.hay_legal.specs.declared.known.Known.{Known}
use Rattle.hay_legal.specs.declared.known.ReplicaKnown.{ReplicaKnown}
use Rattle.hay_legal.specs.declared.known.VolumeKnown.{VolumeKnown}
use Rattle.hay_legal.specs.declared.turn.LaneItem.{LaneItem}
use Rattle.hay_legal.specs.Known.{CameUp, Leaves, closed, closed_by, drained_of, empty_replica, fault_count, now, replica_at, replica_on, slot_of, stands, volume_at}
use Rattle.hay_legal.specs.Plain.{DelFailed as LegalFailed, DelNoMem, HasPair, IsAbsent, IsClosedHome, IsDeleted, IsStuckOn, LegalDel, LegalFlush, OnReplica, change_volume}
use Rattle.hay_legal.specs.Plain.{ended_where, first_machine, frozen_with, has_pair, with_bare, with_del, with_stuck, without_run}
use Rattle.hay_legal.specs.Blocks.{tag_of}
use Rattle.hay_history.specs.LaneSteps.{Did, change_at}
use Rattle.hay_history.specs.LaneSteps.Did.{Entered, Flushes, Pends, Sticks}
use Rattle.hay_history.specs.Histories.{History, NoSteps, closing_then, standing, volume_then}
use Rattle.hay_history.specs.Commands.{CameInLanes, DelAbsent, DelDid, DelDone, DelFailed, DelWanting, DidNothing, FailedOpen, FlushDid, HomeIsClosed, IsStuck, LookFroze, stood_then}
use Rattle.hay_history.proofs.Alone.{count_at, count_to_last, counts_rise, frozen_known, left_one, left_still, one_led, rose_to, still, still_before}
use Rattle.hay_history.proofs.AloneReads.{Froze, as_before, came_up_rose, froze_between, froze_left, home_seen, nothing_left, volume_left}
use Rattle.hay_history.proofs.Lines.{course_of}
use Rattle.hay_history.proofs.Placing.{on_machine}
use Rattle.hay_history.proofs.Rows.{home_below}

-- LISTS

-- whether a replica passes a test, by number
any_from : {X : Type 0} (f : X → Bool) (d : X) (all xs : List X) (a : ℕ) → ((i : ℕ) → i < length xs → get_or all (a + i) d ≡ get_or xs i d)
    → list_any (λ j. f (get_or all j d)) (range_with_len a (length xs)) ≡ list_any f xs
any_from f d all [] a same = refl
any_from f d all (x ∷ xs) a same =
    let plus : a + 0 ≡ a = omega arith in
    let first : get_or all a d ≡ x = subst (λ (n : ℕ). get_or all n d ≡ x) plus (same 0 (omega arith)) in
    let rest = any_from f d all xs (a + 1) (λ i below.
    let next : a + suc i ≡ a + 1 + i = omega arith in
    subst (λ (n : ℕ). get_or all n d ≡ get_or xs i d) next (same (suc i) (omega (arith, below)))) in
    rw (first, rest) refl

any_by_number : {X : Type 0} (f : X → Bool) (d : X) (xs : List X) → list_any (λ j. f (get_or xs j d)) (range_with_len 0 (length xs)) ≡ list_any f xs
any_by_number f d xs = any_from f d xs xs 0 (λ i below. let plus : 0 + i ≡ i = omega arith in ap (λ (n : ℕ). get_or xs n d) plus)

-- what is ended of a list is told by a flag for each of it
ended_taken : (ended : List Bool) (rs : List ReplicaKnown) → ended_where (take (length rs) ended) rs ≡ ended_where ended rs
ended_taken [] [] = refl
ended_taken [] (r ∷ rs) = refl
ended_taken (e ∷ ended) [] = refl
ended_taken (true ∷ ended) (r ∷ rs) = ap (◌∷◌ (without_run r)) (ended_taken ended rs)
ended_taken (false ∷ ended) (r ∷ rs) = ap (◌∷◌ r) (ended_taken ended rs)

taken_at : (n : ℕ) (flags : List Bool) (j : ℕ) → slice_get (take n flags) j ≡ Some true → (j < n) × (slice_get flags j ≡ Some true)
taken_at zero flags j at = absurd (none-some true at)
taken_at (suc n) [] j at = absurd (none-some true at)
taken_at (suc n) (flag ∷ flags) zero at = (omega arith, at)
taken_at (suc n) (flag ∷ flags) (suc j) at = let rest = taken_at n flags j at in (omega (arith, rest.0), rest.1)

module _ {settings : Settings} {k : Known} {history : History} {t : Known} (item : LaneItem) (h : CameInLanes settings k (item ∷ []) history t) where
  -- WHAT STANDS

  stood_known : (v n : ℕ) (pair : Pair) → v < settings.volumes → volume_then (course_of h item) v n ≡ volume_at k v
      → stood_then (course_of h item) v n pair ≡ list_any (has_pair (volume_at k v) pair) (volume_at k v).replicas
  stood_known v n pair below same =
      ap (λ (x : VolumeKnown). list_any (λ j. stands (outcome_at (now x (replica_at x j)) pair)) (range_with_len 0 settings.replicas)) same
      ∙ ap (λ (m : ℕ). list_any (λ j. stands (outcome_at (now (volume_at k v) (replica_at (volume_at k v) j)) pair)) (range_with_len 0 m)) (sym ((h.store).replicas v below))
      ∙ any_by_number (has_pair (volume_at k v) pair) empty_replica (volume_at k v).replicas

  closing_known : (v n : ℕ) → volume_then (course_of h item) v n ≡ volume_at k v → closing_then (course_of h item) v n ≡ closed settings k v
  closing_known v n same = ap (λ (x : VolumeKnown). closed_by x.frozen (drained_of settings k v)) same

  rose_came_up : (v j n : ℕ) → v < settings.volumes → j < settings.replicas → Rose (count_at item h v j n) (count_at item h v j (n + 1))
      → CameUp (fault_count k (slot_of settings v j)) (count_at item h v j (n + 1)) (fault_count t (slot_of settings v j))
  rose_came_up v j n below within rose =
      let first = counts_rise item h v j 0 n below (omega arith) in (
        elim rose [ inl less ↦ inl (omega (arith, first, less)) | inr top ↦ inr top ],
        count_to_last item h v j (n + 1) below within,
      )

  -- DELETES

  deleted : (pair : Pair) (v p d : ℕ) → DelDone (course_of h item) pair v p d → IsDeleted settings k (tag_of item) pair v p d t
  deleted pair v p d did =
      let e : Did = Entered (entry.Del pair) in
      let place : ℕ = (did.step).place in
      let before : volume_then (course_of h item) v place ≡ volume_at k v = still_before item h v place e did.below did.step (omega arith) in
      let home = home_seen item h pair d (Some v) did.rows did.home in
      let led = (one_led item h v e did.below did.step).1 in
      let many : length (volume_at k v).replicas ≡ settings.replicas = (h.store).replicas v did.below in
      let ended : List Bool = take (length (volume_at k v).replicas) led.0 in
      record {
        home = record { home = home.0; «open» = sym (closing_known v place before) ∙ did.«open»; rows = home.1 };
        stood = sym (stood_known v place pair did.below before) ∙ did.stood;
        position = did.position ∙ ap (λ (x : VolumeKnown). length x.log + 1) before;
        ended = ended;
        cause = λ j at.
            let is = taken_at (length (volume_at k v).replicas) led.0 j at in
            let within : j < settings.replicas = omega (arith, is.0, many) in
            came_up_rose item h v j (count_at item h v j (place + 1)) (rose_came_up v j place did.below within (led.1 j is.1));
        leaves = volume_left item h v (with_del ended (tag_of item) pair) did.rows did.elsewhere did.below
            (left_one item h v e did.below did.step ∙ led.2 ∙ ap (with_del led.0 (tag_of item) pair) before
            ∙ sym (ap (λ (rs : List ReplicaKnown). record (with_del led.0 (tag_of item) pair (volume_at k v)) { replicas = rs }) (ended_taken led.0 (volume_at k v).replicas)));
      }

  absent : (pair : Pair) (v p d : ℕ) → DelAbsent (course_of h item) pair v p d → IsAbsent settings k pair v p d t
  absent pair v p d did =
      let below = home_below h item pair d v did.home in
      let home = home_seen item h pair d (Some v) (did.none).1 did.home in
      let same : volume_then (course_of h item) v did.moment ≡ volume_at k v = still item h v did.moment below ((did.none).0 v) in
      record {
        home = record { home = home.0; «open» = sym (closing_known v did.moment same) ∙ did.«open»; rows = home.1 };
        nothing = sym (stood_known v did.moment pair below same) ∙ did.nothing;
        front = did.front ∙ ap (λ (x : VolumeKnown). length x.log) same;
        leaves = nothing_left item h did.none;
      }

  closed_home : (pair : Pair) (by : List ClosedBy) → DidNothing (course_of h item) → HomeIsClosed (course_of h item) pair by → IsClosedHome settings k pair by
  closed_home pair [] none did = absurd did
  closed_home pair (by ∷ []) none did =
      let sees = (did.0).1 in
      let below = home_below h item pair (did.0).0 by.volume sees in (
        (home_seen item h pair (did.0).0 (Some by.volume) none.1 sees).0,
        sym (closing_known by.volume (did.1).moment (still item h by.volume (did.1).moment below (none.0 by.volume))) ∙ (did.1).is,
      )
  closed_home pair (by ∷ more ∷ rest) none did = absurd did

  del_failed : (pair : Pair) (v m f : ℕ) → DelFailed (course_of h item) pair v m f → LegalFailed settings k (tag_of item) pair v m f t
  del_failed pair v m f did = elim did.which [
    | inl try ↦
        let place : ℕ = (try.0).place in
        let same : volume_then (course_of h item) v place ≡ volume_at k v = still item h v place did.below (try.0).none in
        failed_at place same try.1 (inl (as_before item h did.rows (λ u within. elim (cases_eq u v) [
          | inl is ↦ subst (λ (w : ℕ). volume_at t w ≡ volume_at k w) (sym is) (left_still item h v did.below (try.0).none)
          | inr other ↦ left_still item h u within (did.elsewhere u other)
        ])))
    | inr one ↦
        let e : Did = Pends m (entry.Del pair) true in
        let place : ℕ = (one.0).place in
        let same : volume_then (course_of h item) v place ≡ volume_at k v = still_before item h v place e did.below one.0 (omega arith) in
        failed_at place same one.1 (inr (
          sym (stood_known v place pair did.below same) ∙ one.2,
          volume_left item h v (frozen_with m (tag_of item) (entry.Del pair) true) did.rows did.elsewhere did.below
              (left_one item h v e did.below one.0 ∙ (one_led item h v e did.below one.0).1 ∙ ap (frozen_with m (tag_of item) (entry.Del pair) true) same),
        ))
  ]
    where
      failed_at : (place : ℕ) → volume_then (course_of h item) v place ≡ volume_at k v → FailedOpen (course_of h item) v m place f
          → Leaves k k t ⊎ (HasPair k v pair × Leaves k (change_volume k v (frozen_with m (tag_of item) (entry.Del pair) true)) t)
          → LegalFailed settings k (tag_of item) pair v m f t
      failed_at place same failed left =
          let replica : ℕ = (failed.1).0 in
          record {
            home = (home_seen item h pair did.d (Some v) did.rows did.home).0;
            «open» = sym (closing_known v place same) ∙ failed.0;
            replica = replica;
            there = (failed.1).1;
            rose = rose_to item h v replica place f did.below (on_machine settings v m replica (failed.1).1).1 (failed.1).2 (failed.1).3;
            leaves = left;
          }

  -- a line that froze a volume saw it open before
  open_froze : (pair : Pair) (froze : LookFroze (course_of h item) pair) → froze.v < settings.volumes → (n : ℕ)
      → closing_then (course_of h item) froze.v n ≡ None → closed settings k froze.v ≡ None
  open_froze pair froze below n opened =
      let plus : 0 + n ≡ n = omega arith in
      elim (subst (λ (i : ℕ). Froze item h (first_machine settings froze.v) (standing (course_of h item) froze.v 0) (standing (course_of h item) froze.v i)) plus
      (froze_between item h pair froze below 0 n)) [
        | inl same ↦ sym (closing_known froze.v n same) ∙ opened
        | inr is ↦ absurd (none-some (first_machine settings froze.v) (sym opened ∙ ap (λ (x : VolumeKnown). closed_by x.frozen (drained_of settings k froze.v)) is.1))
      ]

  del_wanting : (pair : Pair) → DelWanting (course_of h item) pair → DelNoMem settings k (tag_of item) pair t
  del_wanting pair (rows, inl none) = inl (nothing_left item h (none, rows))
  del_wanting pair (rows, inr (inl (froze, sees))) =
      let left = froze_left item h pair rows froze in
      elim left.2 [
        | inl same ↦ inl same
        | inr is ↦ inr (froze.v, left.1, open_froze pair froze left.0 sees.moment sees.is, inr is.1)
      ]
  del_wanting pair (rows, inr (inr left)) =
      let v = left.v in
      let m : ℕ = first_machine settings v in
      let e : Did = Pends m (entry.Del pair) false in
      let below = home_below h item pair left.d v left.home in
      let same : volume_then (course_of h item) v (left.step).place ≡ volume_at k v = still_before item h v (left.step).place e below left.step (omega arith) in
      inr (
        v,
        (home_seen item h pair left.d (Some v) rows left.home).0,
        sym (closing_known v (left.step).place same) ∙ (left.takes).0,
        inl (
          sym (stood_known v (left.step).place pair below same) ∙ (left.takes).1,
          volume_left item h v (frozen_with m (tag_of item) (entry.Del pair) false) rows left.elsewhere below
              (left_one item h v e below left.step ∙ (one_led item h v e below left.step).1 ∙ ap (frozen_with m (tag_of item) (entry.Del pair) false) same),
        ),
      )

  pub del_plain : (pair : Pair) (r : Reply) → DelDid (course_of h item) pair r → LegalDel settings k (tag_of item) pair r t
  del_plain pair (reply.Deleted v p d) did = deleted pair v p d did
  del_plain pair (reply.Absent v p d) did = absent pair v p d did
  del_plain pair (reply.Unknown d) did = (home_seen item h pair d None (did.1).1 did.0, nothing_left item h did.1)
  del_plain pair (reply.ReadOnly by) did = (closed_home pair by did.1 did.0, nothing_left item h did.1)
  del_plain pair (reply.Failed v m f) did = del_failed pair v m f did
  del_plain pair reply.NoMem did = del_wanting pair did
  del_plain pair r did = search

  -- FLUSHES

  stuck_known : (v m j : ℕ) (by : List ClosedBy) → v < settings.volumes → NoSteps (course_of h item) → IsStuck (course_of h item) v m j by → IsStuckOn k v m j by
  stuck_known v m j [] below none did = absurd did
  stuck_known v m j (by ∷ []) below none did =
      let same = still item h v (did.1).0 below (none v) in (
        did.0,
        sym (ap (λ (x : VolumeKnown). x.frozen) same) ∙ (did.1).2,
        sym (ap (λ (x : VolumeKnown). (replica_at x j).stuck) same) ∙ (did.1).3,
      )
  stuck_known v m j (by ∷ more ∷ rest) below none did = absurd did

  flush_plain_at : (v m j : ℕ) (r : Reply) → replica_on settings v m ≡ Some j → FlushDid (course_of h item) v m (Some j) r → LegalFlush settings k v m j r t
  flush_plain_at v m j (reply.Flushed v' m' n) there did =
      let below = (on_machine settings v m j there).0 in
      let one = (did.1).step in
      let led = one_led item h v (Flushes j) below one in
      let same = still_before item h v one.place (Flushes j) below one (omega arith) in (
        did.0,
        sym (ap (λ (x : VolumeKnown). x.frozen) same) ∙ led.0,
        sym (ap (λ (x : VolumeKnown). (replica_at x j).stuck) same) ∙ led.2,
        (did.1).number ∙ ap (λ (x : VolumeKnown). (replica_at x j).bare) same,
        volume_left item h v (λ volume. change_at volume j (with_bare 0)) (did.1).rows (did.1).elsewhere below
            (left_one item h v (Flushes j) below one ∙ led.3 ∙ ap (λ (x : VolumeKnown). change_at x j (with_bare 0)) same),
      )
  flush_plain_at v m j (reply.ReadOnly by) there did =
      let below = (on_machine settings v m j there).0 in (
        elim did.0 [ inl frozen ↦ inl (frozen_known item h v by below (did.1).0 frozen) | inr stuck ↦ inr (stuck_known v m j by below (did.1).0 stuck) ],
        nothing_left item h did.1,
      )
  flush_plain_at v m j (reply.Failed v' m' f) there did =
      let on = on_machine settings v m j there in
      let one = (did.1).step in
      let led = one_led item h v (Sticks j) on.0 one in
      let same = still_before item h v one.place (Sticks j) on.0 one (omega arith) in (
        did.0,
        sym (ap (λ (x : VolumeKnown). x.frozen) same) ∙ led.0,
        sym (ap (λ (x : VolumeKnown). (replica_at x j).stuck) same) ∙ led.2,
        rose_to item h v j one.place f on.0 on.1 (did.1).failed (did.1).last,
        volume_left item h v (λ volume. change_at volume j with_stuck) (did.1).rows (did.1).elsewhere on.0
            (left_one item h v (Sticks j) on.0 one ∙ led.3 ∙ ap (λ (x : VolumeKnown). change_at x j with_stuck) same),
      )
  flush_plain_at v m j reply.NoMem there did = nothing_left item h did
  flush_plain_at v m j r there did = search

  pub flush_plain : (v m : ℕ) (o : Option ℕ) (r : Reply) → replica_on settings v m ≡ o → FlushDid (course_of h item) v m o r
      → OnReplica k o (LegalFlush settings k v m) r t
  flush_plain v m None reply.Nowhere there did = nothing_left item h did
  flush_plain v m None reply.NoMem there did = nothing_left item h did
  flush_plain v m None r there did = search
  flush_plain v m (Some j) r there did = flush_plain_at v m j r there did
