-- A line alone that compacts a replica is legal as a plain turn.
use Rattle.std.proofs.Common.{◌≡◌, ◌⊎◌, inl, inr, ℕ, ◌+◌, ◌-◌, ◌<◌, ◌≤◌, Bool, true, false, List, [], ◌∷◌, ◌++◌, length, slice_get, Contains, Option, Some, None, refl, sym, ap, subst, ◌∙◌, arith}
use Rattle.std.specs.Prelude.{slice_set}
use Rattle.std.proofs.Math.Seq.{map-set_same}
use Rattle.std.proofs.lemmas.List.{get_or-set_same, set-get_or, set-set}
use Rattle.std.proofs.lemmas.Option.{none-some, slice_get_cases}
use Rattle.hay_needle.specs.declared.settings.Settings.{Settings}
use Rattle.hay_needle.specs.Tables.{live_end}
use Rattle.hay_needle.specs.declared.settings.TheConstants.{LAST_GENERATION}
use Rattle.hay_reply.specs.declared.ClosedBy.{ClosedBy}
use Rattle.hay_reply.specs.declared.Reply.{Reply}
use Rattle.hay_reply.specs.declared.Reply.TheVariants as reply
use Rattle.hay_legal.specs.declared.known.Known.{Known}
use Rattle.hay_legal.specs.declared.known.ReplicaKnown.{ReplicaKnown}
use Rattle.hay_legal.specs.declared.known.Run.{Run}
use Rattle.hay_legal.specs.declared.known.VolumeKnown.{VolumeKnown}
use Rattle.hay_legal.specs.declared.turn.LaneItem.{LaneItem}
use Rattle.hay_legal.specs.Known.{EachPair, Leaves, empty_replica, empty_volume, now, replica_at, replica_on, volume_at, with_volume}
use Rattle.hay_legal.specs.Plain.{IsAtRest, IsFrozenBy, IsOpen, IsTight, LegalCompact, OnReplica, RoseTo, SwapFailed, SwapNoMem, Swaps as LegalSwaps, as_it_is, change_volume}
use Rattle.hay_legal.specs.Plain.{first_machine, frozen_by, poised, poised_by, stepped, swapped, with_run, without_run}
use Rattle.hay_legal.specs.Blocks.{tag_of}
use Rattle.hay_history.specs.LaneSteps.{Did, Leads, Standing, Step, change_at, swap_at}
use Rattle.hay_history.specs.LaneSteps.Did.{Begins, Ends, Examines, Poises, Swaps, Tries}
use Rattle.hay_history.specs.Histories.{History, changes_it, first_of, own, standing, volume_then}
use Rattle.hay_history.specs.Commands.{CameInLanes, CompactDid, CompactFailed, CompactRefused, CompactWanting, IsTightAlone, Ran, RanAs}
use Rattle.hay_history.proofs.Alone.{all_own, among, between, busy_known, frozen_known, place_within, rose_to, same_between, worn_known}
use Rattle.hay_history.proofs.AloneReads.{nothing_left, volume_left}
use Rattle.hay_history.proofs.AloneRuns.{begin_failed, changed_twice}
use Rattle.hay_history.proofs.Histories.{behind_past}
use Rattle.hay_history.proofs.Laying.{last_step}
use Rattle.hay_history.proofs.Lines.{course_of, own_in_order, own_leads}
use Rattle.hay_history.proofs.Lists.{each_in, first_or_rest, in_rest, is_first, none_in, one_in, pair_kept}
use Rattle.hay_history.proofs.Placing.{on_machine}
use Rattle.hay_history.proofs.Trying.{changed, tried_or_changed}

-- LISTS

in_append : {X : Type 0} (xs ys : List X) (x : X) → Contains (xs ++ ys) x → Contains xs x ⊎ Contains ys x
in_append [] ys x at = inr at
in_append (y ∷ xs) ys x at = elim (first_or_rest y (xs ++ ys) x at) [
  | inl same ↦ inl (subst (λ z. Contains (y ∷ xs) z) same (is_first y xs))
  | inr rest ↦ elim (in_append xs ys x rest) [ inl left ↦ inl (in_rest y xs x left) | inr right ↦ inr right ]
]

-- CHANGES OF ONE REPLICA

change_twice : (volume : VolumeKnown) (j : ℕ) (f g : ReplicaKnown → ReplicaKnown) → j < length volume.replicas
    → change_at (change_at volume j f) j g ≡ change_at volume j (λ r. g (f r))
change_twice volume j f g within =
    let here : replica_at (change_at volume j f) j ≡ f (replica_at volume j) = get_or-set_same volume.replicas j (f (replica_at volume j)) empty_replica within in
    ap (λ (r : ReplicaKnown). record volume { replicas = slice_set (slice_set volume.replicas j (f (replica_at volume j))) j (g r) }) here
    ∙ ap (λ (rs : List ReplicaKnown). record volume { replicas = rs }) (set-set volume.replicas j (f (replica_at volume j)) (g (f (replica_at volume j))))

-- a freeze ends a run, as if none had stood
frozen_runs : (volume : VolumeKnown) (m j : ℕ) (run : Run) → frozen_by m (change_at volume j (with_run run)) ≡ frozen_by m volume
frozen_runs volume m j run =
    ap (λ (rs : List ReplicaKnown). record volume { frozen = Some m; replicas = rs })
    (map-set_same without_run volume.replicas j (with_run run (replica_at volume j)) empty_replica refl)

-- a replica at rest stays where its run ends
rested_same : (volume : VolumeKnown) (j : ℕ) → (replica_at volume j).run ≡ None → change_at volume j without_run ≡ volume
rested_same volume j none =
    ap (λ (r : ReplicaKnown). record volume { replicas = slice_set volume.replicas j r }) (no_run (replica_at volume j) none)
    ∙ ap (λ (rs : List ReplicaKnown). record volume { replicas = rs }) (set-get_or volume.replicas j empty_replica)
  where
    no_run : (r : ReplicaKnown) → r.run ≡ None → without_run r ≡ r
    no_run r none = ap (λ (o : Option Run). record r { run = o }) (sym none)

module _ {settings : Settings} {k : Known} {history : History} {t : Known} (item : LaneItem) (h : CameInLanes settings k (item ∷ []) history t)
    (v j : ℕ) (below : v < settings.volumes) (within : j < settings.replicas) where
  abbrev then : ℕ → VolumeKnown
  then n = volume_then (course_of h item) v n

  abbrev before : VolumeKnown
  before = volume_at k v

  many : j < length before.replicas
  many = let is : length before.replicas ≡ settings.replicas = (h.store).replicas v below in omega (arith, within, is)

  -- THE STEPS OF THE COMPACTION

  module _ (last : List (ℕ × Step)) (ran : Ran (course_of h item) v j last) where
    rising : EachPair (λ (a b : ℕ × Step). a.0 < b.0) ((ran.place, ran.first) ∷ (ran.middle ++ last))
    rising =
        subst (EachPair (λ (a b : ℕ × Step). a.0 < b.0)) ran.steps
        (pair_kept (λ (a b : ℕ × Step). a.0 < b.0) (λ at. changes_it (at.1).did) (own (course_of h item) v) (own_in_order (history.volumes v) item.line))

    -- which of its steps stands at a place
    step_is : (i : ℕ) (s : Step) → slice_get (history.volumes v) i ≡ Some s
        → (s.did ≡ Tries) ⊎ ((ran.place ≡ i) × (s.did ≡ Begins j)) ⊎ ((ran.place < i) × ((n : ℕ) × (s.did ≡ Examines j n)) × Contains ran.middle (i, s))
        ⊎ Contains last (i, s)
    step_is i s at = elim (tried_or_changed (course_of h item) v (i, s) (all_own item h v below i s at)) [
      | inl tried ↦ inl tried
      | inr change ↦ elim (first_or_rest (ran.place, ran.first) (ran.middle ++ last) (i, s) (subst (λ (l : List (ℕ × Step)). Contains l (i, s)) ran.steps change)) [
        | inl first ↦ inr (inl (ap (λ (x : ℕ × Step). x.0) first, ap (λ (x : ℕ × Step). (x.1).did) (sym first) ∙ ran.begins))
        | inr rest ↦
            let low : ran.place < i = each_in (λ (b : ℕ × Step). ran.place < b.0) (ran.middle ++ last) (i, s) rising.0 rest in
            elim (in_append ran.middle last (i, s) rest) [
              | inl middle ↦ inr (inr (inl (low, each_in (λ (at : ℕ × Step). (n : ℕ) × ((at.1).did ≡ Examines j n)) ran.middle (i, s) ran.examines middle, middle)))
              | inr is ↦ inr (inr (inr is))
            ]
      ]
    ]

    abbrev LedAt : ℕ → Did → Type 0
    LedAt i did = Leads settings v (tag_of item) did (standing (course_of h item) v i) (standing (course_of h item) v (i + 1))

    led_at : (i : ℕ) (s : Step) → slice_get (history.volumes v) i ≡ Some s → LedAt i s.did
    led_at i s at = (own_leads h item v below (among item h) (i, s) (all_own item h v below i s at)).0

    first_at : Contains (own (course_of h item) v) (ran.place, ran.first)
    first_at =
        changed (course_of h item) v (ran.place, ran.first)
        (subst (λ (l : List (ℕ × Step)). Contains l (ran.place, ran.first)) (sym ran.steps) (is_first (ran.place, ran.first) (ran.middle ++ last)))

    first_led : LedAt ran.place (Begins j)
    first_led = subst (LedAt ran.place) ran.begins (own_leads h item v below (among item h) (ran.place, ran.first) first_at).0

    -- none of its steps stands before this place
    abbrev NoneLast : ℕ → Type 0
    NoneLast n = (i : ℕ) (s : Step) → i < n → Contains last (i, s) → ⊥

    pub before_first : NoneLast (ran.place + 1) → then ran.place ≡ before
    before_first none =
        let plus : 0 + ran.place ≡ ran.place = omega arith in
        subst (λ (n : ℕ). then n ≡ before) plus (same_between item h v ran.place 0 below (λ i s low high at. elim (step_is i s at) [
          | inl tried ↦ tried
          | inr some ↦ elim some [
            | inl first ↦ let same : ran.place ≡ i = first.0 in absurd (omega (arith, same, high))
            | inr some ↦ elim some [
              | inl middle ↦ let low : ran.place < i = middle.0 in absurd (omega (arith, low, high))
              | inr is ↦ absurd (none i s (omega (arith, high)) is)
            ]
          ]
        ]))

    abbrev Runs : VolumeKnown → Type 0
    Runs volume = (run : Run) × (volume ≡ change_at before j (with_run run))

    -- while it stood the replica had a run, and else nothing changed
    pub ran_with : NoneLast ran.until → (n : ℕ) → ran.place < n → n ≤ ran.until → Runs (then n)
    ran_with none n low high =
        let d : ℕ = n - (ran.place + 1) in
        let plus : ran.place + 1 + d ≡ n = omega (arith, low) in
        let start : Runs (then (ran.place + 1)) = (
          _,
          first_led.4 ∙ ap (λ (x : VolumeKnown). change_at x j (with_run (record { goal = (replica_at x j).generation + 1; left = (replica_at x j).cells })))
              (before_first (λ i s less. none i s (omega (arith, less, low, high)))),
        ) in
        subst (λ (m : ℕ). Runs (then m)) plus
        (between (λ a b. Runs a.volume → Runs b.volume) (first_of settings k v) (history.volumes v) (λ a x. x) (λ a b c f g x. g (f x)) d (ran.place + 1)
        (λ i s from to at had. elim (step_is i s at) [
          | inl tried ↦ (had.0, subst (LedAt i) tried (led_at i s at) ∙ had.1)
          | inr some ↦ elim some [
            | inl first ↦ let same : ran.place ≡ i = first.0 in absurd (omega (arith, same, from))
            | inr some ↦ elim some [
              | inl middle ↦
                  let examines = (middle.1).0 in
                  let led = subst (LedAt i) (middle.1).1 (led_at i s at) in (
                    stepped examines (led.2).0,
                    (led.2).3 ∙ ap (λ (x : VolumeKnown). change_at x j (with_run (stepped examines (led.2).0))) had.1
                        ∙ change_twice before j (with_run had.0) (with_run (stepped examines (led.2).0)) many,
                  )
              | inr is ↦ absurd (none i s (omega (arith, to, plus, high)) is)
            ]
          ]
        ]) start)

    pub rested : NoneLast (ran.place + 1) → IsOpen k v × IsAtRest k v j
    rested none =
        let same = before_first none in (
          sym (ap (λ (x : VolumeKnown). x.frozen) same) ∙ first_led.0,
          (
            sym (ap (λ (x : VolumeKnown). (replica_at x j).run) same) ∙ first_led.2,
            subst (λ (x : VolumeKnown). (replica_at x j).generation < LAST_GENERATION) same first_led.3,
          ),
        )

  -- no other line ends its compaction
  pub never_ended : (ran : Ran (course_of h item) v j []) → ⊥
  never_ended ran = elim (slice_get_cases (history.volumes v) ran.until).1 [
    | inr past ↦
        let same = behind_past (first_of settings k v) (history.volumes v) ran.until past.0 ∙ sym (behind_past (first_of settings k v) (history.volumes v) (ran.until + 1) (omega (arith, past.0))) in
        stood_still (ap (λ (a : Standing). a.volume) (sym same))
    | inl some ↦
        let s = some.0 in
        elim (step_is [] ran ran.until s some.2) [
          | inl tried ↦ stood_still (subst (LedAt [] ran ran.until) tried (led_at [] ran ran.until s some.2))
          | inr some_is ↦ elim some_is [
            | inl first ↦ let same : ran.place ≡ ran.until = first.0 in omega (arith, same, ran.behind_it)
            | inr some_is ↦ elim some_is [
              | inl middle ↦
                  let led = subst (LedAt [] ran ran.until) (middle.1).1 (led_at [] ran ran.until s some.2) in
                  let runs = ran_with [] ran (λ i s less at. none_in (i, s) at) ran.until ran.behind_it (omega arith) in
                  let volume : then (ran.until + 1) ≡ change_at before j (λ r. with_run (stepped (middle.1).0 (led.2).0) (with_run runs.0 r)) =
                  (led.2).3 ∙ ap (λ (x : VolumeKnown). change_at x j (with_run (stepped (middle.1).0 (led.2).0))) runs.1
                  ∙ change_twice before j (with_run runs.0) (with_run (stepped (middle.1).0 (led.2).0)) many in
                  none-some (stepped (middle.1).0 (led.2).0) (sym ran.none ∙ ap (λ (x : VolumeKnown). (replica_at x j).run) volume
                  ∙ ap (λ (r : ReplicaKnown). r.run) (get_or-set_same before.replicas j (with_run (stepped (middle.1).0 (led.2).0) (with_run runs.0 (replica_at before j))) empty_replica many))
              | inr is ↦ none_in (ran.until, s) is
            ]
          ]
        ]
  ]
    where
      stood_still : then (ran.until + 1) ≡ then ran.until → ⊥
      stood_still same = none-some (ran.own).run (sym ran.none ∙ ap (λ (x : VolumeKnown). (replica_at x j).run) same ∙ (ran.own).stands)

  module _ (did : Did) (to : RanAs (course_of h item) v j did) where
    abbrev ending : List (ℕ × Step)
    ending = (to.place, to.step) ∷ []

    none_before : (n : ℕ) → n ≤ to.place → (i : ℕ) (s : Step) → i < n → Contains ending (i, s) → ⊥
    none_before n high i s less at =
        let same : to.place ≡ i = ap (λ (x : ℕ × Step). x.0) (one_in (to.place, to.step) (i, s) at) in omega (arith, same, less, high)

    until_is : (to.ran).until ≡ to.place
    until_is = to.last

    starts_low : (to.ran).place < to.place
    starts_low = omega (arith, (to.ran).behind_it, until_is)

    pub to_rested : IsOpen k v × IsAtRest k v j
    to_rested = rested ending to.ran (none_before ((to.ran).place + 1) (omega (arith, starts_low)))

    pub to_runs : Runs ending to.ran (then to.place)
    to_runs = ran_with ending to.ran (none_before (to.ran).until (omega (arith, until_is))) to.place starts_low (omega (arith, until_is))

    pub from_runs : Runs ending to.ran (then ((to.ran).place + 1))
    from_runs = ran_with ending to.ran (none_before (to.ran).until (omega (arith, until_is))) ((to.ran).place + 1) (omega arith) (omega (arith, (to.ran).behind_it))

    pub to_first : then (to.ran).place ≡ before
    to_first = before_first ending to.ran (none_before ((to.ran).place + 1) (omega (arith, starts_low)))

    pub to_led : LedAt ending to.ran to.place did
    to_led = subst (LedAt ending to.ran to.place) to.is (own_leads h item v below (among item h) (to.place, to.step) (last_step (course_of h item) v j did to)).0

    -- behind it nothing changed
    pub to_last : volume_at t v ≡ then (to.place + 1)
    to_last =
        let inside : to.place < length (history.volumes v) = place_within item h v (to.place, to.step) (last_step (course_of h item) v j did to) in
        let d : ℕ = length (history.volumes v) - (to.place + 1) in
        let plus : to.place + 1 + d ≡ length (history.volumes v) = omega (arith, inside) in
        (h.volumes v below).volume ∙ subst (λ (n : ℕ). then n ≡ then (to.place + 1)) plus (same_between item h v d (to.place + 1) below (λ i s low high at.
        elim (step_is ending to.ran i s at) [
          | inl tried ↦ tried
          | inr some ↦ elim some [
            | inl first ↦ let same : (to.ran).place ≡ i = first.0 in absurd (omega (arith, same, low, starts_low))
            | inr some ↦ elim some [
              | inl middle ↦
                  let less : i < (to.ran).until = each_in (λ (x : ℕ × Step). x.0 < (to.ran).until) (to.ran).middle (i, s) (to.ran).inside middle.2 in
                  absurd (omega (arith, less, low, until_is))
              | inr is ↦
                  let same : to.place ≡ i = ap (λ (x : ℕ × Step). x.0) (one_in (to.place, to.step) (i, s) is) in absurd (omega (arith, same, low))
            ]
          ]
        ]))

    to_leaves : (change : VolumeKnown → VolumeKnown) → then (to.place + 1) ≡ change before → Leaves k (change_volume k v change) t
    to_leaves change is = volume_left item h v change (to.ran).rows (to.ran).elsewhere below (to_last ∙ is)

  -- HOW IT ENDED

  ends_left : (to : RanAs (course_of h item) v j (Ends j)) → Leaves k (change_volume k v (λ x. change_at x j without_run)) t
  ends_left to =
      let runs = to_runs (Ends j) to in
      to_leaves (Ends j) to (λ x. change_at x j without_run)
      ((to_led (Ends j) to).3 ∙ ap (λ (x : VolumeKnown). change_at x j without_run) runs.1 ∙ change_twice before j (with_run runs.0) without_run many)

  poises_left : (m : ℕ) (to : RanAs (course_of h item) v j (Poises m j)) → Leaves k (poised_by m k v j) t
  poises_left m to =
      let runs = to_runs (Poises m j) to in
      subst (λ (expected : Known). Leaves k expected t) (sym (changed_twice k v (frozen_by m) (λ x. change_at x j poised) (omega (arith, below, (h.store).volumes))))
      (to_leaves (Poises m j) to (λ x. change_at (frozen_by m x) j poised)
      ((to_led (Poises m j) to).3 ∙ ap (λ (x : VolumeKnown). change_at (frozen_by m x) j poised) runs.1
      ∙ ap (λ (x : VolumeKnown). change_at x j poised) (frozen_runs before m j runs.0)))

  same_now : (run : Run) → now (change_at before j (with_run run)) (replica_at (change_at before j (with_run run)) j) ≡ now before (replica_at before j)
  same_now run = ap (now before) (get_or-set_same before.replicas j (with_run run (replica_at before j)) empty_replica many)

  swaps_left : (end cells : ℕ) (freezes : Bool) (besides : VolumeKnown → VolumeKnown)
      → ((x : VolumeKnown) → swap_at settings v x j end cells freezes ≡ besides (change_at x j (swapped end cells)))
      → (to : RanAs (course_of h item) v j (Swaps j end cells freezes)) → IsTightAlone (course_of h item) v j (to.ran).place to.place end cells
      → LegalSwaps IsTight besides k v j t
  swaps_left end cells freezes besides split to tight =
      let e : Did = Swaps j end cells freezes in
      let runs = to_runs e to in
      let logs : (then to.place).log ≡ (then (to.ran).place).log = ap (λ (x : VolumeKnown). x.log) (runs.1 ∙ refl) ∙ sym (ap (λ (x : VolumeKnown). x.log) (to_first e to)) in
      let sizes = tight logs in
      let table : now (then to.place) (replica_at (then to.place) j) ≡ now before (replica_at before j) =
      ap (λ (x : VolumeKnown). now x (replica_at x j)) runs.1 ∙ same_now runs.0 in (
        end,
        cells,
        (sizes.0 ∙ ap live_end table, sizes.1 ∙ ap length table),
        subst (λ (expected : Known). Leaves k expected t) (sym (changed_twice k v (λ x. change_at x j (swapped end cells)) besides (omega (arith, below, (h.store).volumes))))
            (to_leaves e to (λ x. besides (change_at x j (swapped end cells)))
            ((to_led e to).4 ∙ split (then to.place) ∙ ap (λ (x : VolumeKnown). besides (change_at x j (swapped end cells))) runs.1
            ∙ ap besides (change_twice before j (with_run runs.0) (swapped end cells) many))),
      )

  compact_failed : (m f : ℕ) → CompactFailed (course_of h item) v m j f
      → IsOpen k v × IsAtRest k v j × RoseTo settings k v j f t × SwapFailed m k v j t
  compact_failed m f (inl began) =
      let is = begin_failed item h v j f below within began in (
        is.0,
        is.1,
        is.2,
        inl (subst (λ (x : VolumeKnown). Leaves k (with_volume k v x) t) (sym (rested_same before j (is.1).0))
            (subst (λ (vs : List VolumeKnown). Leaves k (record k { volumes = vs }) t) (sym (set-get_or k.volumes v empty_volume)) is.3)),
      )
  compact_failed m f (inr (inl ends)) =
      let rest = to_rested (Ends j) ends.0 in (rest.0, rest.1, rose_to item h v j (ends.0).place f below within ends.1 ends.2, inl (ends_left ends.0))
  compact_failed m f (inr (inr (inl poises))) =
      let rest = to_rested (Poises m j) poises.0 in
      (rest.0, rest.1, rose_to item h v j (poises.0).place f below within poises.1 poises.2, inr (poises_left m poises.0))
  compact_failed m f (inr (inr (inr until))) = absurd (never_ended until.ran)

  compact_wanting : CompactWanting (course_of h item) v j → SwapNoMem settings IsAtRest IsTight k v j t
  compact_wanting (inl nothing) = inl (nothing_left item h nothing)
  compact_wanting (inr (inl ends)) = let rest = to_rested (Ends j) ends in inr (rest.0, rest.1, inl (ends_left ends))
  compact_wanting (inr (inr (inl swaps))) =
      let rest = to_rested (Swaps j swaps.0 swaps.1 true) swaps.2 in
      inr (rest.0, rest.1, inr (swaps_left swaps.0 swaps.1 true (frozen_by (first_machine settings v)) (λ x. refl) swaps.2 swaps.3))
  compact_wanting (inr (inr (inr (inl until)))) = absurd (never_ended (until.1).ran)
  compact_wanting (inr (inr (inr (inr frozen)))) = absurd (never_ended (frozen.1).ran)

  compact_refused : (by : List ClosedBy) → CompactRefused (course_of h item) v j by → IsFrozenBy k v by × Leaves k k t
  compact_refused by (inl met) = (frozen_known item h v by below (met.1).0 met.0, nothing_left item h met.1)
  compact_refused [] (inr ran) = absurd ran
  compact_refused (by ∷ []) (inr ran) = absurd (never_ended (ran.1).ran)
  compact_refused (by ∷ more ∷ rest) (inr ran) = absurd ran

  compact_at : (m : ℕ) (r : Reply) → CompactDid (course_of h item) v m (Some j) r → LegalCompact settings k v m j r t
  compact_at m (reply.Compacted v' m' g) did =
      let done = did.1 in
      let e : Did = Swaps j done.0 done.1 false in
      let rest = to_rested e done.2 in
      let runs = to_runs e done.2 in
      let number : (replica_at (then (done.2).place) j).generation ≡ (replica_at before j).generation =
      ap (λ (x : VolumeKnown). (replica_at x j).generation) runs.1
      ∙ ap (λ (r : ReplicaKnown). r.generation) (get_or-set_same before.replicas j (with_run runs.0 (replica_at before j)) empty_replica many) in
      (did.0, rest.0, rest.1, done.3 ∙ ap (λ (n : ℕ). n + 1) number, swaps_left done.0 done.1 false as_it_is (λ x. refl) done.2 done.4)
  compact_at m (reply.ReadOnly by) did = compact_refused by did
  compact_at m (reply.Busy v' m' g) did = let met = busy_known item h v j g below (did.1).0 did.2 in (did.0, met.0, met.1, nothing_left item h did.1)
  compact_at m (reply.Worn v' m') did = let met = worn_known item h v j below (did.1).0 did.2 in (did.0, met.0, met.1, nothing_left item h did.1)
  compact_at m (reply.Failed v' m' f) did = let is = compact_failed m f did.1 in (did.0, is.0, is.1, is.2, is.3)
  compact_at m reply.NoMem did = compact_wanting did
  compact_at m r did = search

pub compact_plain : {settings : Settings} {k : Known} {history : History} {t : Known} (item : LaneItem) (h : CameInLanes settings k (item ∷ []) history t)
    (v m : ℕ) (o : Option ℕ) (r : Reply) → replica_on settings v m ≡ o → CompactDid (course_of h item) v m o r → OnReplica k o (LegalCompact settings k v m) r t
compact_plain item h v m None reply.Nowhere there did = nothing_left item h did
compact_plain item h v m None reply.NoMem there did = nothing_left item h did
compact_plain item h v m None r there did = search
compact_plain {settings} item h v m (Some j) r there did =
    let on = on_machine settings v m j there in compact_at item h v j on.0 on.1 m r did
