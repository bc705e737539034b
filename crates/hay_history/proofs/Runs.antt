-- What a block leaves of a replica's compaction.
use Rattle.std.proofs.Common.{◌≡◌, ◌≢◌, ◌⊎◌, inl, inr, ℕ, zero, suc, ◌<◌, ◌≤◌, ◌+◌, Bool, true, false, cond, List, [], ◌∷◌, ◌++◌, length, map, drop, slice_get, Contains, count_by}
use Rattle.std.proofs.Common.{Option, Some, None, option_map, refl, sym, ap, subst, ◌∙◌, arith, append-nil}
use Rattle.std.specs.Prelude.{slice_index_or}
use Rattle.std.proofs.lemmas.Bool.{cases_eq}
use Rattle.std.proofs.lemmas.Option.{none-some, slice_get_cases}
use Rattle.std.proofs.lemmas.List.{get_or-map}
use Rattle.std.proofs.lemmas.List.Sums.{sum_by-append}
use Rattle.hay_needle.specs.declared.settings.Settings.{Settings}
use Rattle.hay_disk.specs.Counts.{Rose}
use Rattle.hay_core.specs.declared.entry.Entry.TheVariants as entry
use Rattle.hay_core.specs.declared.entry.CoreTag.{CoreTag}
use Rattle.hay_core.specs.declared.entry.Logged.{Logged}
use Rattle.hay_legal.specs.declared.known.Run.{Run}
use Rattle.hay_legal.specs.declared.known.Known.{Known}
use Rattle.hay_legal.specs.declared.known.ReplicaKnown.{ReplicaKnown}
use Rattle.hay_legal.specs.declared.known.VolumeKnown.{VolumeKnown}
use Rattle.hay_legal.specs.declared.turn.LaneItem.{LaneItem}
use Rattle.hay_legal.specs.Known.{empty_replica, fault_count, replica_at, slot_of, volume_at}
use Rattle.hay_legal.specs.Plain.{ended_where, first_machine, frozen_by, grown, poised, run_grown, stepped, swapped, with_bare, with_run, with_stuck, without_run}
use Rattle.hay_legal.specs.Blocks.{DeletesOn, MayEndInDelete, RunIsLegal, is_put, new_entries, run_longer, tag_of}
use Rattle.hay_history.specs.LaneSteps.{Did, IsThawed, Leads, NoneFall, Standing, Step, change_at}
use Rattle.hay_history.proofs.Trying.{changed}
use Rattle.hay_history.specs.Histories.{Course, History, behind, first_of, own}
use Rattle.hay_history.specs.Commands.{CameInLanes}
use Rattle.hay_history.proofs.Changes.{ended_at, rested_at}
use Rattle.hay_history.proofs.Lists.{is_first}
use Rattle.hay_history.proofs.Histories.{along, behind_past, behind_step, leads_at}
use Rattle.hay_history.proofs.Lines.{course_of, own_leads}
use Rattle.hay_history.proofs.Volumes.{frozen_keeps, frozen_stays, thawed_before}
use Rattle.hay_history.proofs.Own.{RanBefore, RanFrom}
use Rattle.hay_history.proofs.Doings.{StepBy}
use Rattle.hay_history.proofs.Freezing.{OfLine, frozen_is, of_line}
use Rattle.hay_history.proofs.ReplicaSteps.{change_other, ended_keeps, set_keeps}
use Rattle.hay_history.proofs.Sizes.{logs_joined, new_is}
use Rattle.hay_history.proofs.Generations.{last_of, within_then}
use Rattle.hay_history.proofs.Flags.{replica_is}

abbrev run_of : ReplicaKnown → Option Run
run_of r = r.run

abbrev run_at : Standing → ℕ → Option Run
run_at a j = (replica_at a.volume j).run

longer_none : (o : Option Run) → option_map (run_longer 0) o ≡ o
longer_none None = refl
longer_none (Some run) = ap (λ (n : ℕ). Some (record run { left = n })) (omega arith)

longer_twice : (n m : ℕ) (o : Option Run) → option_map (run_longer m) (option_map (run_longer n) o) ≡ option_map (run_longer (n + m)) o
longer_twice n m None = refl
longer_twice n m (Some run) = ap (λ (x : ℕ). Some (record run { left = x })) (omega arith)

longer_by : (n : ℕ) (o : Option Run) → n ≡ 0 → option_map (run_longer n) o ≡ o
longer_by n o none = ap (λ (m : ℕ). option_map (run_longer m) o) none ∙ longer_none o

grown_by : (n : ℕ) (o : Option Run) → n ≡ 1 → option_map (run_longer n) o ≡ option_map run_grown o
grown_by n o one = ap (λ (m : ℕ). option_map (run_longer m) o) one ∙ grown_one o
  where
    grown_one : (o : Option Run) → option_map (run_longer 1) o ≡ option_map run_grown o
    grown_one None = refl
    grown_one (Some run) = refl

-- ONE STEP

-- the run grew by what was put, and the volume was not frozen
record RunStays (j : ℕ) (a b : Standing) : Type 0 where
  new : List Logged
  log : (b.volume).log ≡ (a.volume).log ++ new
  run : run_at b j ≡ option_map (run_longer (count_by is_put new)) (run_at a j)
  number : (replica_at b.volume j).generation ≡ (replica_at a.volume j).generation
  frozen : (b.volume).frozen ≡ (a.volume).frozen

abbrev SameNumber : ReplicaKnown → ReplicaKnown → Type 0
SameNumber old new = new.generation ≡ old.generation

-- the run ended in a delete in which a call of its disk failed, or as the volume froze
record RunEnded (settings : Settings) (v j : ℕ) (item : LaneItem) (a b : Standing) : Type 0 where
  none : run_at b j ≡ None
  cause : (Rose (a.faults j) (b.faults j) × DeletesOn settings v item) ⊎ (IsThawed a × ((m : ℕ) × ((b.volume).frozen ≡ Some m)) × SameNumber (replica_at a.volume j) (replica_at b.volume j))

abbrev RunStep : Course → ℕ → ℕ → ℕ → LaneItem → Standing → Standing → Type 0
RunStep c v j n item a b =
    RunStays j a b
    ⊎ RunEnded c.settings v j item a b
    ⊎ (RanFrom c v j n × (run_at a j ≡ None))
    ⊎ (RanBefore c v j n × (run : Run) × (run_at a j ≡ Some run))

-- a replica's run and its generation
abbrev SameRun : ReplicaKnown → ReplicaKnown → Type 0
SameRun old new = (new.run ≡ old.run) × (new.generation ≡ old.generation)

stays_with : (j : ℕ) (a b : Standing) (new : VolumeKnown) → b.volume ≡ new → new.log ≡ (a.volume).log → SameRun (replica_at a.volume j) (replica_at new j)
    → new.frozen ≡ (a.volume).frozen → RunStays j a b
stays_with j a b new e log run frozen = record {
  new = [];
  log = ap (λ (volume : VolumeKnown). volume.log) e ∙ log ∙ sym (append-nil (a.volume).log);
  run = ap run_of (replica_is j e) ∙ run.0 ∙ sym (longer_none (run_at a j));
  number = ap (λ (r : ReplicaKnown). r.generation) (replica_is j e) ∙ run.1;
  frozen = frozen_is e ∙ frozen;
}

-- a delete leaves the run, or ends it
deleted : (ended : List Bool) (rs : List ReplicaKnown) (j : ℕ)
    → ((slice_index_or (ended_where ended rs) j empty_replica).run ≡ (slice_index_or rs j empty_replica).run)
    ⊎ (((slice_index_or (ended_where ended rs) j empty_replica).run ≡ None) × (slice_get ended j ≡ Some true))
deleted ended rs j = elim (ended_at ended rs j) [ inl e ↦ inl (ap run_of e) | inr e ↦ inr (ap run_of e.1, e.0) ]

run_step : (c : Course) (v j n : ℕ) (item : LaneItem) (tag : CoreTag) (did : Did) (a b : Standing) → Leads c.settings v tag did a b → j < length (a.volume).replicas
    → StepBy c v item n did → RunStep c v j n item a b
run_step c v j n item tag did a b h within own = by did h own
  where
    keeps : (new : VolumeKnown) → b.volume ≡ new → new.log ≡ (a.volume).log → SameRun (replica_at a.volume j) (replica_at new j) → new.frozen ≡ (a.volume).frozen
        → RunStep c v j n item a b
    keeps new e log run frozen = inl (stays_with j a b new e log run frozen)

    freezes : IsThawed a → (m : ℕ) (new : VolumeKnown) → b.volume ≡ new → replica_at new j ≡ without_run (replica_at a.volume j) → new.frozen ≡ Some m → RunStep c v j n item a b
    freezes thawed m new e rests frozen = inr (inl (record {
      none = ap run_of (replica_is j e ∙ rests);
      cause = inr (thawed, (m, frozen_is e ∙ frozen), ap (λ (r : ReplicaKnown). r.generation) (replica_is j e ∙ rests));
    }))

    -- a volume that is frozen as replica i is changed
    froze_at : IsThawed a → (m : ℕ) (new : VolumeKnown) → b.volume ≡ new → (replica_at new j).run ≡ None → SameNumber (replica_at a.volume j) (replica_at new j) → new.frozen ≡ Some m
        → RunStep c v j n item a b
    froze_at thawed m new e none number frozen = inr (inl (record {
      none = ap run_of (replica_is j e) ∙ none;
      cause = inr (thawed, (m, frozen_is e ∙ frozen), ap (λ (r : ReplicaKnown). r.generation) (replica_is j e) ∙ number);
    }))

    -- a change of another replica
    other_run : (i : ℕ) (change : ReplicaKnown → ReplicaKnown) → b.volume ≡ change_at a.volume i change → i ≢ j → RunStep c v j n item a b
    other_run i change e other =
        let same = change_other a.volume i j change other in
        keeps _ e refl (ap run_of same, ap (λ (r : ReplicaKnown). r.generation) same) refl

    begins : (i : ℕ) (change : ReplicaKnown → ReplicaKnown) → b.volume ≡ change_at a.volume i change → run_at a i ≡ None → RanFrom c v i n → (i ≡ j) ⊎ (i ≢ j) → RunStep c v j n item a b
    begins i change e none ran (inl same) = inr (inr (inl (subst (λ (x : ℕ). RanFrom c v x n × (run_at a x ≡ None)) same (ran, none))))
    begins i change e none ran (inr other) = other_run i change e other

    runs : (i : ℕ) (change : ReplicaKnown → ReplicaKnown) → b.volume ≡ change_at a.volume i change → (run : Run) → run_at a i ≡ Some run → RanBefore c v i n → (i ≡ j) ⊎ (i ≢ j)
        → RunStep c v j n item a b
    runs i change e run some ran (inl same) = inr (inr (inr (subst (λ (x : ℕ). RanBefore c v x n × (run : Run) × (run_at a x ≡ Some run)) same (ran, run, some))))
    runs i change e run some ran (inr other) = other_run i change e other

    puts : (size : ℕ) (new : Logged) → is_put new ≡ true → (b.volume).log ≡ (a.volume).log ++ new ∷ []
        → replica_at b.volume j ≡ slice_index_or (map (grown size) (a.volume).replicas) j empty_replica → (b.volume).frozen ≡ (a.volume).frozen → RunStep c v j n item a b
    puts size new is log same frozen = inl (record {
      new = new ∷ [];
      log = log;
      number = ap (λ (r : ReplicaKnown). r.generation) (same ∙ get_or-map (grown size) (a.volume).replicas j empty_replica empty_replica within);
      run = ap run_of (same ∙ get_or-map (grown size) (a.volume).replicas j empty_replica empty_replica within)
          ∙ sym (grown_by (count_by is_put (new ∷ [])) (run_at a j) (ap (λ (x : Bool). 0 + cond x 1 0) is));
      frozen = frozen;
    })

    deletes : (ended : List Bool) (new : Logged) → is_put new ≡ false → ((j : ℕ) → slice_get ended j ≡ Some true → Rose (a.faults j) (b.faults j))
        → DeletesOn c.settings v item → (b.volume).log ≡ (a.volume).log ++ new ∷ []
        → replica_at b.volume j ≡ slice_index_or (ended_where ended (a.volume).replicas) j empty_replica → (b.volume).frozen ≡ (a.volume).frozen
        → ((slice_index_or (ended_where ended (a.volume).replicas) j empty_replica).run ≡ run_at a j)
        ⊎ (((slice_index_or (ended_where ended (a.volume).replicas) j empty_replica).run ≡ None) × (slice_get ended j ≡ Some true))
        → RunStep c v j n item a b
    deletes ended new is rose line log same frozen (inl stays) = inl (record {
      new = new ∷ [];
      log = log;
      run = ap run_of same ∙ stays ∙ sym (longer_by (count_by is_put (new ∷ [])) (run_at a j) (ap (λ (x : Bool). 0 + cond x 1 0) is));
      number = ap (λ (r : ReplicaKnown). r.generation) same ∙ ended_keeps SameNumber (λ r. refl) (λ r. refl) ended (a.volume).replicas j;
      frozen = frozen;
    })
    deletes ended new is rose line log same frozen (inr none) =
        inr (inl (record { none = ap run_of same ∙ none.0; cause = inl (rose j none.1, line) }))

    by : (did : Did) → Leads c.settings v tag did a b → StepBy c v item n did → RunStep c v j n item a b
    by Did.Tries h own = keeps _ h refl (refl, refl) refl
    by (Did.Fuses i) h own = keeps _ h.1 refl (refl, refl) refl
    by (Did.Entered (entry.Put pair cookie bytes)) h own =
        puts (length bytes) (record { tag = tag; entry = entry.Put pair cookie bytes }) refl (ap (λ (volume : VolumeKnown). volume.log) h.1) (replica_is j h.1) (frozen_is h.1)
    by (Did.Entered (entry.Del pair)) h own =
        let e = (h.1).2 in
        deletes (h.1).0 (record { tag = tag; entry = entry.Del pair }) refl (h.1).1 (pair, (own.0).1, (own.0).0, (own.0).2)
        (ap (λ (volume : VolumeKnown). volume.log) e) (replica_is j e) (frozen_is e)
        (deleted (h.1).0 (a.volume).replicas j)
    by (Did.Pends m change failed) h own = freezes h.0 m _ h.1 (rested_at (a.volume).replicas j) refl
    by (Did.Freezes m) h own = freezes h.0 m _ h.1 (rested_at (a.volume).replicas j) refl
    by (Did.Flushes i) h own = keeps _ h.3 refl (set_keeps SameRun (λ r. (refl, refl)) a.volume i j (with_bare 0) (refl, refl)) refl
    by (Did.Sticks i) h own = keeps _ h.3 refl (set_keeps SameRun (λ r. (refl, refl)) a.volume i j with_stuck (refl, refl)) refl
    by (Did.Begins i) h own = begins i (with_run (record { goal = (replica_at a.volume i).generation + 1; left = (replica_at a.volume i).cells })) h.4 h.2 own.1 (cases_eq i j)
    by (Did.Examines i x) h own = runs i (with_run (stepped x (h.2).0)) (h.2).3 (h.2).0 (h.2).1 own.1 (cases_eq i j)
    by (Did.Ends i) h own = runs i without_run h.3 (h.2).0 (h.2).1 own.1 (cases_eq i j)
    by (Did.Swaps i end cells false) h own = runs i (swapped end cells) h.4 (h.2).0 (h.2).1 own.1 (cases_eq i j)
    by (Did.Swaps i end cells true) h own = swaps_frozen (cases_eq i j)
      where
        swaps_frozen : (i ≡ j) ⊎ (i ≢ j) → RunStep c v j n item a b
        swaps_frozen (inl same) =
            inr (inr (inr (subst (λ (x : ℕ). RanBefore c v x n × (run : Run) × (run_at a x ≡ Some run)) same (own.1, (h.2).0, (h.2).1))))
        swaps_frozen (inr other) =
            freezes h.0 (first_machine c.settings v) _ h.4
            (rested_at (change_at a.volume i (swapped end cells)).replicas j ∙ ap without_run (change_other a.volume i j (swapped end cells) other)) refl
    by (Did.Poises m i) h own =
        let same = set_keeps SameRun (λ r. (refl, refl)) (frozen_by m a.volume) i j poised (refl, refl) in
        froze_at h.0 m _ h.3 (same.0 ∙ ap run_of (rested_at (a.volume).replicas j))
        (same.1 ∙ ap (λ (r : ReplicaKnown). r.generation) (rested_at (a.volume).replicas j)) refl

-- ALONG THE BLOCK

module _ {settings : Settings} {k : Known} {items : List LaneItem} {history : History} {t : Known} (h : CameInLanes settings k items history t)
    (v j : ℕ) (below : v < settings.volumes) (within : j < settings.replicas) where
  abbrev then : ℕ → Standing
  then n = behind (first_of settings k v) (history.volumes v) n

  -- the step at a moment, if there is one
  step_at : (n : ℕ) → ((s : Step) × (n < length (history.volumes v)) × (slice_get (history.volumes v) n ≡ Some s)) ⊎ (length (history.volumes v) ≤ n)
  step_at n = elim (slice_get_cases (history.volumes v) n).1 [
    | inl some ↦ inl (some.0, some.1, some.2)
    | inr past ↦ inr past.0
  ]

  -- what a step does to the run
  does : (n : ℕ) (s : Step) → slice_get (history.volumes v) n ≡ Some s → (line : OfLine h v n s) × RunStep (course_of h line.item) v j n line.item (then n) (then (n + 1))
  does n s at =
      let line = of_line h v n s below at in
      let leads = leads_at settings v (first_of settings k v) (history.volumes v) n s (h.follows v below) at in (
        line,
        subst (λ (b : Standing). RunStep (course_of h line.item) v j n line.item (then n) b) (sym (behind_step (first_of settings k v) (history.volumes v) n s at))
            (run_step (course_of h line.item) v j n line.item s.tag s.did (then n) s.after leads.0 (within_then h v n j below within) line.by),
      )

  -- no run stands where one begins
  none_where_begun : (item : LaneItem) → Contains items item → (n : ℕ) → (ran : RanBefore (course_of h item) v j n) → run_at (then (ran.ran).place) j ≡ None
  none_where_begun item among n before =
      let ran = before.ran in
      let at : ℕ × Step = (ran.place, ran.first) in
      let mine : Contains (own (course_of h item) v) at =
      changed (course_of h item) v at (subst (λ (xs : List (ℕ × Step)). Contains xs at) (sym ran.steps) (is_first at (ran.middle ++ before.last))) in
      let leads = (own_leads h item v below among at mine).0 in
      (subst (λ (d : Did). Leads settings v (tag_of item) d (then ran.place) (then (ran.place + 1))) ran.begins leads).2

  -- where none stands, none stands at last
  none_to_last : (fuel n : ℕ) → length (history.volumes v) ≤ n + fuel → run_at (then n) j ≡ None → run_at (last_of settings k history v) j ≡ None
  none_to_last zero n enough none =
      ap (λ (a : Standing). run_at a j) (sym (behind_past (first_of settings k v) (history.volumes v) n (omega (arith, enough)))) ∙ none
  none_to_last (suc fuel) n enough none = elim (step_at n) [
    | inr past ↦ ap (λ (a : Standing). run_at a j) (sym (behind_past (first_of settings k v) (history.volumes v) n past)) ∙ none
    | inl some ↦
        let next : length (history.volumes v) ≤ n + 1 + fuel = omega (arith, enough) in
        elim (does n some.0 some.2).1 [
          | inl stays ↦ none_to_last fuel (n + 1) next (stays.run ∙ ap (option_map (run_longer (count_by is_put stays.new))) none)
          | inr rest ↦ elim rest [
            | inl ended ↦ none_to_last fuel (n + 1) next ended.none
            | inr rest ↦ elim rest [
              | inl begun ↦
                  let from = begun.0 in
                  let ran = from.ran in
                  none_to_last fuel (ran.until + 1) (omega (arith, enough, ran.behind_it, from.here)) ran.none
              | inr own ↦ let some : None ≡ Some own.1 = sym none ∙ own.2 in absurd cc
            ]
          ]
        ]
  ]

  pub none_stays : (n : ℕ) → run_at (then n) j ≡ None → run_at (last_of settings k history v) j ≡ None
  none_stays n none = none_to_last (length (history.volumes v)) n (omega arith) none

  faults_grow : (n m : ℕ) → n ≤ m → (then n).faults j ≤ (then m).faults j
  faults_grow n m le =
      along settings v (λ a b. NoneFall a.faults b.faults) (first_of settings k v) (history.volumes v)
      (λ a i. omega arith) (λ a b c x y i. omega (arith, x i, y i)) (λ tag did a b leads falls. falls) (h.follows v below) n m le j

  abbrev Alive : ℕ → Type 0
  Alive n = ((i : ℕ) → i ≤ n → run_at (then i) j ≢ None) × RunStays j (then 0) (then n)

  stays_on : (a b c : Standing) → RunStays j a b → RunStays j b c → RunStays j a c
  stays_on a b c x y = record {
    new = x.new ++ y.new;
    log = logs_joined a.volume b.volume c.volume x.new y.new x.log y.log;
    run = y.run ∙ ap (option_map (run_longer (count_by is_put y.new))) x.run
        ∙ longer_twice (count_by is_put x.new) (count_by is_put y.new) (run_at a j)
        ∙ ap (λ (n : ℕ). option_map (run_longer n) (run_at a j)) (sym (sum_by-append (λ (l : Logged). cond (is_put l) 1 0) x.new y.new));
    number = y.number ∙ x.number;
    frozen = y.frozen ∙ x.frozen;
  }

  still_some : (n : ℕ) (o p : Option Run) → o ≢ None → p ≡ option_map (run_longer n) o → p ≢ None
  still_some n None p some e none = some refl
  still_some n (Some run) p some e none = let no : Some (run_longer n run) ≡ None = sym e ∙ none in absurd cc

  alive_next : (n : ℕ) → Alive n → RunStays j (then n) (then (n + 1)) → Alive (n + 1)
  alive_next n alive stays = (each, stays_on (then 0) (then n) (then (n + 1)) alive.1 stays)
    where
      each : (i : ℕ) → i ≤ n + 1 → run_at (then i) j ≢ None
      each i le = elim (cases_eq i (n + 1)) [
        | inl last ↦ subst (λ (m : ℕ). run_at (then m) j ≢ None) (sym last)
            (still_some (count_by is_put stays.new) (run_at (then n) j) (run_at (then (n + 1)) j) (alive.0 n (omega arith)) stays.run)
        | inr other ↦ alive.0 i (grind (arith, le, other))
      ]

  risen : (x y z w : ℕ) → x ≤ y → y ≤ z → z ≤ w → Rose y z → Rose x w
  risen x y z w a b d (inl more) = inl (omega (arith, a, b, d, more))
  risen x y z w a b d (inr top) = elim (cases_eq z w) [
    | inl same ↦ inr (sym same ∙ top)
    | inr other ↦ inl (grind (arith, a, b, d, other))
  ]

  -- it ended before this moment
  abbrev Ended : ℕ → Type 0
  Ended n =
      (run_at (last_of settings k history v) j ≡ None)
      × ((Rose ((then 0).faults j) ((last_of settings k history v).faults j) × (item : LaneItem) × Contains items item × DeletesOn settings v item)
      ⊎ (((volume_at k v).frozen ≡ None) × ((m : ℕ) × (((then n).volume).frozen ≡ Some m)) × SameNumber (replica_at (volume_at k v) j) (replica_at (volume_at t v) j)))

  ended_by : (n : ℕ) (item : LaneItem) → Contains items item → n < length (history.volumes v) → RunStays j (then 0) (then n) → RunEnded settings v j item (then n) (then (n + 1)) → Ended (n + 1)
  ended_by n item among less stays ended = (
    none_stays (n + 1) ended.none,
    elim ended.cause [
      | inl rose ↦ inl (
        risen ((then 0).faults j) ((then n).faults j) ((then (n + 1)).faults j) ((last_of settings k history v).faults j)
            (faults_grow 0 n (omega arith)) (faults_grow n (n + 1) (omega arith)) (faults_grow (n + 1) (length (history.volumes v)) (omega (arith, less))) rose.0,
        item,
        among,
        rose.1,
      )
      | inr froze ↦ inr (
        thawed_before h v n below froze.0,
        froze.1,
        ap (λ (volume : VolumeKnown). (replica_at volume j).generation) (frozen_keeps h v (n + 1) (froze.1).0 below (froze.1).1) ∙ froze.2 ∙ stays.number,
      )
    ],
  )

  ended_on : (n : ℕ) → Ended n → Ended (n + 1)
  ended_on n (none, inl rose) = (none, inl rose)
  ended_on n (none, inr (thawed, (m, frozen), number)) = (none, inr (thawed, (m, frozen_stays h v n (n + 1) m below (omega arith) frozen), number))

  -- while a run of before the block stands, each step leaves it or ends it
  goes_on : (n : ℕ) → n < length (history.volumes v) → Alive n → Alive (n + 1) ⊎ Ended (n + 1)
  goes_on n less alive = elim (step_at n) [
    | inr past ↦ absurd (omega (arith, past, less))
    | inl some ↦
        let step = does n some.0 some.2 in
        elim step.1 [
          | inl stays ↦ inl (alive_next n alive stays)
          | inr rest ↦ elim rest [
            | inl ended ↦ inr (ended_by n (step.0).item (step.0).among less alive.1 ended)
            | inr rest ↦ elim rest [
              | inl begun ↦ absurd (alive.0 n (omega arith) begun.1)
              | inr own ↦
                  let before = own.0 in
                  absurd (alive.0 (before.ran).place (omega (arith, before.before)) (none_where_begun (step.0).item (step.0).among n before))
            ]
          ]
        ]
  ]

  walk : (n : ℕ) → n ≤ length (history.volumes v) → (run : Run) → run_at (then 0) j ≡ Some run → Alive n ⊎ Ended n
  walk zero le run some = inl (
    (λ i low none.
        let first : run_at (then i) j ≡ run_at (then 0) j = ap (λ (m : ℕ). run_at (then m) j) (zero_is i low) in
        let unlikely : None ≡ Some run = sym none ∙ first ∙ some in
        absurd cc),
    record { new = []; log = sym (append-nil ((then 0).volume).log); run = sym (longer_none (run_at (then 0) j)); number = refl; frozen = refl },
  )
    where
      zero_is : (i : ℕ) → i ≤ 0 → i ≡ 0
      zero_is i low = omega (arith, low)
  walk (suc n) le run some = elim (walk n (omega (arith, le)) run some) [
    | inl alive ↦ subst (λ (m : ℕ). Alive m ⊎ Ended m) (omega arith) (goes_on n (omega (arith, le)) alive)
    | inr ended ↦ let next : n + 1 ≡ suc n = omega arith in inr (subst Ended next (ended_on n ended))
  ]

  is_last : volume_at t v ≡ (last_of settings k history v).volume
  is_last = (h.volumes v below).volume

  fault_is : (last_of settings k history v).faults j ≡ fault_count t (slot_of settings v j)
  fault_is = sym ((h.volumes v below).faults j within)

  -- a replica at rest on an open volume was so before the block, or a delete ended its compaction
  pub rested_then : (n : ℕ) → n ≤ length (history.volumes v) → ((then n).volume).frozen ≡ None → run_at (then n) j ≡ None
      → ((replica_at (volume_at k v) j).run ≡ None) ⊎ MayEndInDelete settings k items t v j
  rested_then n le thawed none = by (run_at (then 0) j) refl
    where
      by : (o : Option Run) → run_at (then 0) j ≡ o → ((replica_at (volume_at k v) j).run ≡ None) ⊎ MayEndInDelete settings k items t v j
      by None is = inl is
      by (Some run) is = elim (walk n le run is) [
        | inl alive ↦ absurd (alive.0 n (omega arith) none)
        | inr ended ↦ elim ended.1 [
          | inl rose ↦ inr (subst (λ (f : ℕ). Rose ((then 0).faults j) f) fault_is rose.0, rose.1, rose.2, rose.3)
          | inr froze ↦ absurd (none-some (froze.1).0 (sym thawed ∙ (froze.1).1))
        ]
      ]

  pub run_legal : RunIsLegal settings k items t v j (new_entries k t v) (replica_at (volume_at k v) j) (replica_at (volume_at t v) j)
  run_legal = by (run_at (then 0) j) refl
    where
      stayed : RunStays j (then 0) (last_of settings k history v)
          → RunIsLegal settings k items t v j (new_entries k t v) (replica_at (volume_at k v) j) (replica_at (volume_at t v) j)
      stayed stays =
          let entries : new_entries k t v ≡ stays.new =
          ap (λ (volume : VolumeKnown). drop (length (volume_at k v).log) volume.log) is_last
          ∙ new_is (volume_at k v) (last_of settings k history v).volume stays.new stays.log in
          inr (inl (
            ap run_of (replica_is j is_last) ∙ stays.run
                ∙ ap (λ (new : List Logged). option_map (run_longer (count_by is_put new)) (run_at (then 0) j)) (sym entries),
            ap (λ (r : ReplicaKnown). r.generation) (replica_is j is_last) ∙ stays.number,
            frozen_is is_last ∙ stays.frozen,
          ))

      ended : Ended (length (history.volumes v)) → RunIsLegal settings k items t v j (new_entries k t v) (replica_at (volume_at k v) j) (replica_at (volume_at t v) j)
      ended end = inr (inr (
        ap run_of (replica_is j is_last) ∙ end.0,
        elim end.1 [
          | inl rose ↦ inl (subst (λ (n : ℕ). Rose ((then 0).faults j) n) fault_is rose.0, rose.1, rose.2, rose.3)
          | inr froze ↦ inr (froze.0, ((froze.1).0, frozen_is is_last ∙ (froze.1).1), froze.2)
        ],
      ))

      by : (o : Option Run) → run_at (then 0) j ≡ o
          → RunIsLegal settings k items t v j (new_entries k t v) (replica_at (volume_at k v) j) (replica_at (volume_at t v) j)
      by None is = inl (is, ap run_of (replica_is j is_last) ∙ none_stays 0 is)
      by (Some run) is = elim (walk (length (history.volumes v)) (omega arith) run is) [
        | inl alive ↦ stayed alive.1
        | inr end ↦ ended end
      ]
