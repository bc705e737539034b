-- The lines that flush or compact a replica are legal.
use Rattle.std.proofs.Common.{◌≡◌, ◌≢◌, ◌⊎◌, ℕ, zero, suc, ◌+◌, ◌-◌, ◌<◌, ◌≤◌, true, false, List, [], ◌∷◌, ◌++◌, length, slice_get, Contains, Option, Some, None, option_map, refl}
use Rattle.std.proofs.Common.{sym, ap, subst, ◌∙◌, inl, inr, arith}
use Rattle.std.proofs.lemmas.Bool.{cases_eq}
use Rattle.hay_needle.specs.declared.settings.Settings.{Settings}
use Rattle.hay_needle.specs.declared.settings.TheConstants.{LAST_GENERATION}
use Rattle.hay_core.specs.declared.entry.CoreTag.{CoreTag}
use Rattle.hay_script.specs.declared.Command.TheVariants as command
use Rattle.hay_reply.specs.declared.ClosedBy.{ClosedBy}
use Rattle.hay_reply.specs.declared.Reply.{Reply}
use Rattle.hay_reply.specs.declared.Reply.TheVariants as reply
use Rattle.hay_legal.specs.declared.known.Run.{Run}
use Rattle.hay_legal.specs.declared.known.ReplicaKnown.{ReplicaKnown}
use Rattle.hay_legal.specs.declared.known.VolumeKnown.{VolumeKnown}
use Rattle.hay_legal.specs.declared.known.Known.{Known}
use Rattle.hay_legal.specs.declared.turn.Item.{Item}
use Rattle.hay_legal.specs.declared.turn.Item.TheVariants as asks
use Rattle.hay_legal.specs.declared.turn.LaneItem.{LaneItem}
use Rattle.hay_legal.specs.Known.{machine_of, replica_at, replica_on, volume_at}
use Rattle.hay_legal.specs.Plain.{IsFrozenBy, IsOpen, run_grown, with_stuck}
use Rattle.hay_legal.specs.Blocks.{CompactIsLegal, FlushIsLegal, IsLeftStuck, MayBeAtRest, MayBeBusy, MayFlush, MetOpen, RunsBeside, tag_of}
use Rattle.std.proofs.lemmas.Option.{slice_get_cases, slice_get_within}
use Rattle.hay_history.specs.LaneSteps.{Did, Leads, Standing, Step}
use Rattle.hay_history.specs.LaneSteps.Did.{Begins, Flushes, Sticks, Tries}
use Rattle.hay_history.proofs.Trying.{changed, tried_or_changed}
use Rattle.hay_history.specs.Histories.{Course, History, IsMoment, OneStep, behind, changes, first_of, own, standing, volume_then}
use Rattle.hay_history.specs.Commands.{CameInLanes, CompactDid, CompactFailed, CompactRefused, FlushDid, IsFrozen, Ran}
use Rattle.hay_history.proofs.Histories.{along, behind_past, behind_step, leads_at}
use Rattle.hay_history.proofs.Lines.{answered, course_of, one_leads, own_at, own_leads, owner, stops}
use Rattle.hay_history.proofs.OwnRuns.{ran_stood}
use Rattle.hay_history.proofs.Own.{EndsBy, InRun, IsCompact, MayDo, in_run, item_may}
use Rattle.hay_history.proofs.Placing.{machine_there, on_machine}
use Rattle.hay_history.proofs.Changes.{Becomes, leads_becomes}
use Rattle.hay_history.proofs.Lists.{each_in, is_first, none_in, pair_in}
use Rattle.hay_history.proofs.Volumes.{frozen_on, generation_grows, left_stuck, loose_then, option_map_some, replicas_many, run_goal, thawed_before, volume_at_moment}
use Rattle.hay_history.proofs.ReplicaSteps.{change_same}
use Rattle.hay_history.proofs.Meeting.{compact_open, is_stuck}
use Rattle.hay_history.proofs.Runs.{rested_then}

-- WHAT A STEP DOES TO A RUN

-- the generation that a replica's compaction makes, if one stands
abbrev pub goal_of : ReplicaKnown → Option ℕ
goal_of replica = option_map (λ run. run.goal) replica.run

abbrev generation_of : ReplicaKnown → ℕ
generation_of replica = replica.generation

-- the generation stays, and a run goes on or ends
abbrev pub GoesOn : ReplicaKnown → ReplicaKnown → Type 0
GoesOn old new = (new.generation ≡ old.generation) × ((goal_of new ≡ None) ⊎ (goal_of new ≡ goal_of old))

abbrev pub Swapped : ReplicaKnown → ReplicaKnown → Type 0
Swapped old new = ((g : ℕ) × (goal_of old ≡ Some g)) × (goal_of new ≡ None)

abbrev pub IsBegun : Did → ℕ → ReplicaKnown → ReplicaKnown → Type 0
IsBegun did j old new =
    (did ≡ Begins j) × (goal_of old ≡ None) × (old.generation < LAST_GENERATION) × (goal_of new ≡ Some (old.generation + 1))

abbrev pub Turns : Did → ℕ → ReplicaKnown → ReplicaKnown → Type 0
Turns did j old new = GoesOn old new ⊎ Swapped old new ⊎ IsBegun did j old new

goal_of_grown : (run : Option Run) → option_map (λ (r : Run). r.goal) (option_map run_grown run) ≡ option_map (λ (r : Run). r.goal) run
goal_of_grown None = refl
goal_of_grown (Some run) = refl

goal_run : (replica : ReplicaKnown) (run : Run) → replica.run ≡ Some run → goal_of replica ≡ Some run.goal
goal_run replica run e = ap (λ (o : Option Run). option_map (λ (r : Run). r.goal) o) e

goal_none : (replica : ReplicaKnown) → replica.run ≡ None → goal_of replica ≡ None
goal_none replica e = ap (λ (o : Option Run). option_map (λ (r : Run). r.goal) o) e

turns : (settings : Settings) (v j : ℕ) (tag : CoreTag) (did : Did) (a b : Standing) → Leads settings v tag did a b
    → Turns did j (replica_at a.volume j) (replica_at b.volume j)
turns settings v j tag did a b h = elim (leads_becomes settings v tag did a b h j) [
  | Becomes.Stays e ↦ inl (ap generation_of e, inr (ap goal_of e))
  | Becomes.Grows pair cookie bytes is e ↦ inl (ap generation_of e, inr (ap goal_of e ∙ goal_of_grown (replica_at a.volume j).run))
  | Becomes.Rests e ↦ inl (ap generation_of e, inl (ap goal_of e))
  | Becomes.IsFlushed is e ↦ inl (ap generation_of e, inr (ap goal_of e))
  | Becomes.IsStuck is e ↦ inl (ap generation_of e, inr (ap goal_of e))
  | Becomes.Starts is none below e ↦ inr (inr (is, goal_none (replica_at a.volume j) none, below, ap goal_of e))
  | Becomes.Goes n run is stands within e ↦ inl (ap generation_of e, inr (ap goal_of e ∙ sym (goal_run (replica_at a.volume j) run stands)))
  | Becomes.IsSwapped end cells freezes is stands sizes e ↦ inr (inl (((stands.0).goal, goal_run (replica_at a.volume j) stands.0 stands.1), ap goal_of e))
  | Becomes.IsPoised m is e ↦ inl (ap generation_of e, inl (ap goal_of e))
]

-- WHAT STANDS AT EACH MOMENT

pub at_or_past : {X : Type 0} (xs : List X) (n : ℕ) → ((x : X) × (slice_get xs n ≡ Some x)) ⊎ (length xs ≤ n)
at_or_past xs n = elim (slice_get_cases xs n).1 [ inl there ↦ inl (there.0, there.2) | inr past ↦ inr past.0 ]

module _ {settings : Settings} {k : Known} {items : List LaneItem} {history : History} {t : Known} (h : CameInLanes settings k items history t)
    (v j : ℕ) (below : v < settings.volumes) where
  abbrev replica_then : ℕ → ReplicaKnown
  replica_then n = replica_at (volume_at_moment settings k history v n) j

  abbrev goal_then : ℕ → Option ℕ
  goal_then n = goal_of (replica_then n)

  moment_step : (n : ℕ)
      → ((s : Step) × (slice_get (history.volumes v) n ≡ Some s) × Turns s.did j (replica_then n) (replica_then (n + 1)))
      ⊎ (replica_then (n + 1) ≡ replica_then n)
  moment_step n =
      let first : Standing = first_of settings k v in
      let steps : List Step = history.volumes v in
      elim (at_or_past steps n) [
        | inl there ↦ inl (
          there.0,
          there.1,
          subst (λ (st : Standing). Turns (there.0).did j (replica_then n) (replica_at st.volume j)) (sym (behind_step first steps n there.0 there.1))
              (turns settings v j (there.0).tag (there.0).did (behind first steps n) (there.0).after (leads_at settings v first steps n there.0 (h.follows v below) there.1).0),
        )
        | inr past ↦ inr (ap (λ (st : Standing). replica_at st.volume j) (behind_past first steps (n + 1) (omega (arith, past)) ∙ sym (behind_past first steps n past)))
      ]

  -- a run that stands behind a step stood before it, or the step began it
  goal_next : (n g : ℕ) → goal_then (n + 1) ≡ Some g
      → (goal_then n ≡ Some g)
      ⊎ ((s : Step) × (slice_get (history.volumes v) n ≡ Some s) × IsBegun s.did j (replica_then n) (replica_then (n + 1)))
  goal_next n g is =
      elim (moment_step n) [
        | inl there ↦ elim there.2 [
          | inl goes ↦ elim goes.1 [
            | inl none ↦ let clash : None ≡ Some g = sym none ∙ is in absurd cc
            | inr same ↦ inl (sym same ∙ is)
          ]
          | inr others ↦ elim others [
            | inl swapped ↦ let clash : None ≡ Some g = sym swapped.1 ∙ is in absurd cc
            | inr begun ↦ inr (there.0, there.1, begun)
          ]
        ]
        | inr same ↦ inl (sym (ap goal_of same) ∙ is)
      ]

  -- a run that stands on makes the same generation
  goal_stays : (n d g : ℕ) → goal_then n ≡ Some g → ((i : ℕ) → n ≤ i → i ≤ n + d → (g' : ℕ) × (goal_then i ≡ Some g')) → goal_then (n + d) ≡ Some g
  goal_stays n zero g is all =
      let plus : n ≡ n + 0 = omega arith in
      subst (λ (i : ℕ). goal_then i ≡ Some g) plus is
  goal_stays n (suc d) g is all =
      let before : goal_then (n + d) ≡ Some g = goal_stays n d g is (λ i from to. all i from (omega (arith, to))) in
      let plus : n + d + 1 ≡ n + suc d = omega arith in
      let there = all (n + d + 1) (omega arith) (omega arith) in
      subst (λ (i : ℕ). goal_then i ≡ Some g) plus
      (elim (goal_next (n + d) there.0 there.1) [
        | inl same ↦ there.1 ∙ sym same ∙ before
        | inr begun ↦ let clash : None ≡ Some g = sym begun.2.1 ∙ before in absurd cc
      ])

  -- A step of the block began the run that stands at this moment.
  pub record BegunAt (n g : ℕ) : Type 0 where
    pub place : ℕ
    pub step : Step
    pub at : slice_get (history.volumes v) place ≡ Some step
    pub is : step.did ≡ Begins j
    pub before : place < n
    pub generation : (replica_then place).generation + 1 ≡ g
    pub stands : (i : ℕ) → place < i → i ≤ n → goal_then i ≡ Some g

  stands_on : (n g : ℕ) → goal_then (n + 1) ≡ Some g → BegunAt n g → BegunAt (n + 1) g
  stands_on n g is begun = record {
    place = begun.place;
    step = begun.step;
    at = begun.at;
    is = begun.is;
    before = let less = begun.before in omega (arith, less);
    generation = begun.generation;
    stands = λ i from to. elim (cases_eq i (n + 1)) [
      | inl same ↦ subst (λ (m : ℕ). goal_then m ≡ Some g) (sym same) is
      | inr other ↦ begun.stands i from (omega (arith, to, other))
    ];
  }

  begun_here : (n g : ℕ) (s : Step) → goal_then (n + 1) ≡ Some g → slice_get (history.volumes v) n ≡ Some s
      → IsBegun s.did j (replica_then n) (replica_then (n + 1)) → BegunAt (n + 1) g
  begun_here n g s is at begun = record {
    place = n;
    step = s;
    at = at;
    is = begun.0;
    before = omega arith;
    generation = let same : Some ((replica_then n).generation + 1) ≡ Some g = sym begun.3 ∙ is in cc;
    stands = λ i from to.
        let same : i ≡ n + 1 = omega (arith, from, to) in
        subst (λ (m : ℕ). goal_then m ≡ Some g) (sym same) is;
  }

  began_next : (n g : ℕ) → (goal_then n ≡ Some g → (goal_then 0 ≡ Some g) ⊎ BegunAt n g) → goal_then (n + 1) ≡ Some g
      → (goal_then 0 ≡ Some g) ⊎ BegunAt (n + 1) g
  began_next n g earlier is =
      elim (goal_next n g is) [
        | inl same ↦ elim (earlier same) [ inl old ↦ inl old | inr begun ↦ inr (stands_on n g is begun) ]
        | inr begun ↦ inr (begun_here n g begun.0 is begun.1 begun.2)
      ]

  -- a run that stands was begun in the block, or stood before it
  began : (n g : ℕ) → goal_then n ≡ Some g → (goal_then 0 ≡ Some g) ⊎ BegunAt n g
  began zero g is = inl is
  began (suc n) g is =
      let plus : n + 1 ≡ suc n = omega arith in
      subst (λ (m : ℕ). goal_then m ≡ Some g → (goal_then 0 ≡ Some g) ⊎ BegunAt m g) plus (began_next n g (began n g)) is

-- WORN REPLICAS

abbrev IsWorn : ReplicaKnown → Type 0
IsWorn replica = (goal_of replica ≡ None) × (replica.generation ≡ LAST_GENERATION)

worn_turns : (did : Did) (j : ℕ) (old new : ReplicaKnown) → Turns did j old new → IsWorn old → IsWorn new
worn_turns did j old new (inl (same, inl none)) worn = (none, same ∙ worn.1)
worn_turns did j old new (inl (same, inr goal)) worn = (goal ∙ worn.0, same ∙ worn.1)
worn_turns did j old new (inr (inl swapped)) worn = let clash : Some swapped.0.0 ≡ None = sym swapped.0.1 ∙ worn.0 in absurd cc
worn_turns did j old new (inr (inr begun)) worn = let less = begun.2 in let most = worn.1 in absurd (omega (arith, less, most))

-- WHICH LINES BEGIN A COMPACTION

-- a compaction that began at this place stood until its end, which the line saw
pub record Ending (c : Course) (v j place : ℕ) (r : Reply) : Type 0 where
  pub until : ℕ
  pub behind_it : place < until
  pub seen : IsMoment c v (until + 1)
  pub stood : (n : ℕ) → place < n → n ≤ until → (run : Run) × ((replica_at (volume_then c v n) j).run ≡ Some run)
  pub none : (replica_at (volume_then c v (until + 1)) j).run ≡ None
  pub by : EndsBy c v j until r

-- a step of a line that begins a compaction is of a compact of its replica
pub item_is_compact : {settings : Settings} {k : Known} {items : List LaneItem} {history : History} {t : Known} (h : CameInLanes settings k items history t)
    (b : LaneItem) → Contains items b → (v j : ℕ) → v < settings.volumes → (at : ℕ × Step) → Contains (own (course_of h b) v) at → (at.1).did ≡ Begins j
    → (m : ℕ) × IsCompact settings b.item v m j × Ending (course_of h b) v j at.0 b.reply
item_is_compact {settings} h b in_items v j below at among begins =
    let c = course_of h b in
    let did = (answered h b in_items).did in
    let may : MayDo settings b.item b.reply v (Begins j) =
    subst (λ (d : Did). MayDo settings b.item b.reply v d) begins (item_may c b.item b.reply did v at among) in
    let there : InRun c v j b.reply at.0 (Begins j) = subst (λ (d : Did). InRun c v j b.reply at.0 d) begins (in_run c b.item b.reply v may.0 j did may.1 at among) in
    let from = there.0 in
    let ran = from.ran in (
      may.0,
      may.1,
      subst (λ (n : ℕ). Ending c v j n b.reply) from.here (record {
        until = ran.until;
        behind_it = ran.behind_it;
        seen = ran.seen;
        stood = ran_stood h b v j below from.last from.none ran;
        none = ran.none;
        by = there.1;
      }),
    )

-- A RUN THAT ANOTHER LINE MEETS

runs_beside : (c : Course) (v m j g lane until own_lane line : ℕ) (item : Item) (r : Reply) → own_lane ≢ lane → item ≡ asks.Command (command.Compact v m)
    → EndsBy c v j until r → (replica_at (volume_then c v until) j).generation + 1 ≡ g
    → RunsBeside lane v m g (record { lane = own_lane; line = line; item = item; reply = r })
runs_beside c v m j g lane until own_lane line item (reply.Compacted v' m' g') other is by fits = (other, is, by ∙ fits)
runs_beside c v m j g lane until own_lane line item (reply.Failed v' m' f) other is by fits = (other, is, tt)
runs_beside c v m j g lane until own_lane line item (reply.ReadOnly closed) other is by fits = (other, is, tt)
runs_beside c v m j g lane until own_lane line item reply.NoMem other is by fits = (other, is, tt)
runs_beside c v m j g lane until own_lane line item _ other is by fits = absurd by

module _ {settings : Settings} {k : Known} {items : List LaneItem} {history : History} {t : Known} (h : CameInLanes settings k items history t)
    (v j : ℕ) (below : v < settings.volumes) (within : j < settings.replicas) where
  -- the run of a line of the same lane does not stand when the lane sees the replica
  other_lane : (item b : LaneItem) → Contains items item → Contains items b → changes (course_of h item) v ≡ []
      → (n g : ℕ) → IsMoment (course_of h item) v n → (begun : BegunAt h v j below n g)
      → Contains (own (course_of h b) v) (begun.place, begun.step) → Ending (course_of h b) v j begun.place b.reply
      → b.lane ≢ item.lane
  other_lane item b among among_b nothing n g seen begun at ending same =
      elim (pair_in _ items b item h.«order» among_b among) [
        | inl e ↦ elim (tried_or_changed (course_of h item) v (begun.place, begun.step)
            (subst (λ (x : LaneItem). Contains (own (course_of h x) v) (begun.place, begun.step)) e at)) [
              | inl tried ↦ let clash : Begins j ≡ Tries = sym begun.is ∙ tried in absurd cc
              | inr changed_it ↦ none_in (begun.place, begun.step)
                  (subst (λ (ats : List (ℕ × Step)). Contains ats (begun.place, begun.step)) nothing changed_it)
            ]
        | inr others ↦ elim others [
          | inl before ↦
              let later = (before same).volumes v in
              let start = seen.0 in
              let until = (ending.seen).1 in
              let stands = begun.stands (ending.until + 1) (omega (arith, ending.behind_it)) (omega (arith, later, start, until)) in
              let clash : None ≡ Some g = sym (goal_none (replica_then h v j below (ending.until + 1)) ending.none) ∙ stands in absurd cc
          | inr after ↦
              let later = (after (sym same)).volumes v in
              let until = seen.1 in
              let less = begun.before in
              let from = (each_in _ (own (course_of h b) v) (begun.place, begun.step) ((answered h b among_b).steps v) at).0 in
              omega (arith, later, until, less, from)
        ]
      ]

  -- where the run of the moment ended by a swap, it made this generation
  made : (n g : ℕ) (begun : BegunAt h v j below n g) (last : ℕ) → begun.place ≤ last
      → ((i : ℕ) → begun.place < i → i ≤ last → (run : Run) × ((replica_then h v j below i).run ≡ Some run))
      → (replica_then h v j below last).generation + 1 ≡ g
  made n g begun last from stood =
      elim (cases_eq begun.place last) [
        | inl same ↦ subst (λ (i : ℕ). (replica_then h v j below i).generation + 1 ≡ g) same begun.generation
        | inr other ↦
            let less : begun.place < last = omega (arith, from, other) in
            let before = begun.before in
            let d : ℕ = last - (begun.place + 1) in
            let plus : begun.place + 1 + d ≡ last = omega (arith, less) in
            let goal : goal_then h v j below (begun.place + 1 + d) ≡ Some g =
            goal_stays h v j below (begun.place + 1) d g (begun.stands (begun.place + 1) (omega arith) (omega (arith, before)))
            (λ i from to.
            let run = stood i (omega (arith, from)) (omega (arith, to, plus)) in
            ((run.0).goal, goal_run (replica_then h v j below i) run.0 run.1)) in
            let run = stood last less (omega arith) in
            let same : Some (run.0).goal ≡ Some g =
            sym (goal_run (replica_then h v j below last) run.0 run.1) ∙ subst (λ (i : ℕ). goal_then h v j below i ≡ Some g) plus goal in
            let is : (run.0).goal ≡ g = cc in
            sym (run_goal h v last j below within run.0 run.1) ∙ is
      ]

  -- a run that was begun in the block is of a compact of another lane
  begun_beside : (item : LaneItem) (m : ℕ) → Contains items item → changes (course_of h item) v ≡ [] → machine_of settings v j ≡ m
      → (n g : ℕ) → IsMoment (course_of h item) v n → BegunAt h v j below n g
      → (b : LaneItem) × Contains items b × RunsBeside item.lane v m g b
  begun_beside item m among nothing on n g seen begun =
      let owns = owner h v begun.place begun.step below begun.at in
      let b : LaneItem = owns.0 in
      let compact = item_is_compact h b owns.1 v j below (begun.place, begun.step) owns.3 begun.is in
      let ending = compact.2 in
      let machine : compact.0 ≡ m = sym (machine_there settings v compact.0 j (compact.1).1) ∙ on in
      let is : b.item ≡ asks.Command (command.Compact v m) = (compact.1).0 ∙ ap (λ (w : ℕ). asks.Command (command.Compact v w)) machine in (
        b,
        owns.1,
        runs_beside (course_of h b) v m j g item.lane ending.until b.lane b.line b.item b.reply
            (other_lane item b among owns.1 nothing n g seen begun owns.3 ending) is ending.by
            (made n g begun ending.until (omega (arith, ending.behind_it)) ending.stood),
      )

  -- the moments of a block
  within_block : (item : LaneItem) (n : ℕ) → Contains items item → IsMoment (course_of h item) v n → n ≤ length (history.volumes v)
  within_block item n among seen =
      let to = seen.1 in
      let last = (stops h item among).volumes v in
      omega (arith, to, last)

  -- what a replica ends at
  at_last_is : replica_at (volume_at t v) j ≡ replica_then h v j below (length (history.volumes v))
  at_last_is = ap (λ (volume : VolumeKnown). replica_at volume j) (h.volumes v below).volume

  busy_legal : (item : LaneItem) (m g : ℕ) → Contains items item → changes (course_of h item) v ≡ [] → machine_of settings v j ≡ m
      → (n : ℕ) → IsMoment (course_of h item) v n → (run : Run) → (replica_then h v j below n).run ≡ Some run → run.goal ≡ g
      → MayBeBusy k items t item.lane v m j g
  busy_legal item m g among nothing on n seen run stands goal =
      let is : goal_then h v j below n ≡ Some g = goal_run (replica_then h v j below n) run stands ∙ ap Some goal in
      let next : run.goal ≡ (replica_then h v j below n).generation + 1 = run_goal h v n j below within run stands in
      let before = generation_grows h v 0 n j below (omega arith) in
      let after = generation_grows h v n (length (history.volumes v)) j below (within_block item n among seen) in
      let last : (replica_at (volume_at t v) j).generation ≡ (replica_then h v j below (length (history.volumes v))).generation =
      ap (λ (r : ReplicaKnown). r.generation) at_last_is in (
        omega (arith, goal, next, before),
        omega (arith, goal, next, after, last),
        elim (began h v j below n g is) [
          | inl old ↦ inl (option_map_some (λ (r : Run). r.goal) (replica_at (volume_at k v) j).run g old)
          | inr begun ↦ inr (begun_beside item m among nothing on n g seen begun)
        ],
      )

  worn_legal : (item : LaneItem) → Contains items item → (n : ℕ) → IsMoment (course_of h item) v n → (replica_then h v j below n).run ≡ None
      → (replica_then h v j below n).generation ≡ LAST_GENERATION → (replica_at (volume_at t v) j).generation ≡ LAST_GENERATION
  worn_legal item among n seen none worn =
      let stays = along settings v (λ a b. IsWorn (replica_at a.volume j) → IsWorn (replica_at b.volume j)) (first_of settings k v) (history.volumes v)
      (λ a same. same) (λ a b c first second before. second (first before))
      (λ tag did a b leads falls before. worn_turns did j (replica_at a.volume j) (replica_at b.volume j) (turns settings v j tag did a b leads) before)
      (h.follows v below) n (length (history.volumes v)) (within_block item n among seen)
      (goal_none (replica_then h v j below n) none, worn) in
      ap (λ (r : ReplicaKnown). r.generation) at_last_is ∙ stays.1

-- FLUSHES AND COMPACTS

module _ {settings : Settings} {k : Known} {items : List LaneItem} {history : History} {t : Known} (h : CameInLanes settings k items history t) (item : LaneItem) where
  is_frozen : (v : ℕ) (by : List ClosedBy) → v < settings.volumes → IsFrozen (course_of h item) v by → IsFrozenBy t v by
  is_frozen v [] below did = absurd did
  is_frozen v (by ∷ []) below did = (did.0, frozen_on h v (did.1).moment by.machine below (did.1).is)
  is_frozen v (by ∷ more ∷ rest) below did = absurd did

  may_flush : (v n j : ℕ) → v < settings.volumes → (volume_at_moment settings k history v n).frozen ≡ None
      → (replica_at (volume_at_moment settings k history v n) j).stuck ≡ false → MayFlush k t v j
  may_flush v n j below thawed loose = (thawed_before h v n below thawed, loose_then h v n j below loose)

  -- behind a flush that failed the index is stuck
  pub stuck_behind : (v j : ℕ) → v < settings.volumes → j < settings.replicas → Contains items item → (step : OneStep (course_of h item) v (Sticks j))
      → (replica_at (volume_at_moment settings k history v (step.place + 1)) j).stuck ≡ true
  stuck_behind v j below within among step =
      ap (λ (volume : VolumeKnown). (replica_at volume j).stuck) (one_leads h item v (Sticks j) below among step).3
      ∙ ap (λ (r : ReplicaKnown). r.stuck) (change_same (volume_at_moment settings k history v step.place) j j with_stuck refl
      (subst (λ (many : ℕ). j < many) (sym (replicas_many h v step.place below)) within))

  flush_failed : (v j : ℕ) → v < settings.volumes → j < settings.replicas → Contains items item → OneStep (course_of h item) v (Sticks j)
      → MayFlush k t v j × IsLeftStuck k t v j
  flush_failed v j below within among step =
      let did = one_leads h item v (Sticks j) below among step in
      (may_flush v step.place j below did.0 did.2, left_stuck h v (step.place + 1) j below (stuck_behind v j below within among step))

  flush_on : (v m : ℕ) (on : Option ℕ) (r : Reply) → Contains items item → replica_on settings v m ≡ on → FlushDid (course_of h item) v m on r
      → FlushIsLegal settings k items t v m on r
  flush_on v m None reply.NoMem among e did = tt
  flush_on v m None r among e did = search
  flush_on v m (Some j) (reply.ReadOnly by) among e did =
      let there = on_machine settings v m j e in
      elim did.0 [
        | inl frozen ↦ inl (is_frozen v by there.0 frozen)
        | inr stuck ↦ inr (is_stuck h item v m j by there.0 there.2 stuck)
      ]
  flush_on v m (Some j) (reply.Flushed v' m' n) among e did =
      let there = on_machine settings v m j e in
      let flushed = one_leads h item v (Flushes j) there.0 among (did.1).step in
      (did.0, may_flush v ((did.1).step).place j there.0 flushed.0 flushed.2)
  flush_on v m (Some j) (reply.Failed v' m' f) among e did =
      let there = on_machine settings v m j e in
      let failed = flush_failed v j there.0 there.1 among (did.1).step in
      (did.0, failed.0, failed.1)
  flush_on v m (Some j) r among e did = search

  pub flush_legal : (v m : ℕ) (r : Reply) → Contains items item → FlushDid (course_of h item) v m (replica_on settings v m) r
      → FlushIsLegal settings k items t v m (replica_on settings v m) r
  flush_legal v m r among did = flush_on v m (replica_on settings v m) r among refl did

  compact_refused : (v j : ℕ) (by : List ClosedBy) → v < settings.volumes → CompactRefused (course_of h item) v j by → IsFrozenBy t v by
  compact_refused v j by below (inl frozen) = is_frozen v by below frozen.0
  compact_refused v j [] below (inr ran) = absurd ran
  compact_refused v j (by ∷ []) below (inr ran) = (ran.0, frozen_on h v (ran.1).moment by.machine below (ran.1).frozen)
  compact_refused v j (by ∷ more ∷ rest) below (inr ran) = absurd ran

  -- a compact that met its volume open
  was_open : (v m j : ℕ) (r : Reply) → Contains items item → replica_on settings v m ≡ Some j → CompactDid (course_of h item) v m (Some j) r → MetOpen v r → IsOpen k v
  was_open v m j r among e did met =
      let saw = compact_open h item among v m (Some j) r v e did met in
      thawed_before h v saw.0 (on_machine settings v m j e).0 saw.2

  -- a replica that was met at rest on an open volume, with a generation that is not the last
  met_at_rest : (v n j : ℕ) → v < settings.volumes → j < settings.replicas → n ≤ length (history.volumes v) → (volume_at_moment settings k history v n).frozen ≡ None
      → (replica_at (volume_at_moment settings k history v n) j).run ≡ None → (replica_at (volume_at_moment settings k history v n) j).generation < LAST_GENERATION
      → MayBeAtRest settings k items t v j
  met_at_rest v n j below within le thawed none number =
      let least = generation_grows h v 0 n j below (omega arith) in
      (omega (arith, least, number), rested_then h v j below within n le thawed none)

  place_within : (v : ℕ) (at : ℕ × Step) → Contains (own (course_of h item) v) at → at.0 ≤ length (history.volumes v)
  place_within v at mine = omega (arith, slice_get_within (history.volumes v) at.0 at.1 (own_at (history.volumes v) item.line at mine).0)

  began_at_rest : (v j : ℕ) (last : List (ℕ × Step)) → v < settings.volumes → j < settings.replicas → Contains items item → Ran (course_of h item) v j last
      → MayBeAtRest settings k items t v j
  began_at_rest v j last below within among ran =
      let at : ℕ × Step = (ran.place, ran.first) in
      let mine : Contains (own (course_of h item) v) at =
      changed (course_of h item) v at (subst (λ (xs : List (ℕ × Step)). Contains xs at) (sym ran.steps) (is_first at (ran.middle ++ last))) in
      let leads = subst (λ (d : Did). Leads settings v (tag_of item) d (standing (course_of h item) v ran.place) (standing (course_of h item) v (ran.place + 1))) ran.begins
      (own_leads h item v below among at mine).0 in
      met_at_rest v ran.place j below within (place_within v at mine) leads.0 leads.2 leads.3

  failed_at_rest : (v m j f : ℕ) → v < settings.volumes → j < settings.replicas → Contains items item → CompactFailed (course_of h item) v m j f
      → MayBeAtRest settings k items t v j
  failed_at_rest v m j f below within among (inl began) =
      let try = began.step in
      met_at_rest v try.place j below within (place_within v (try.place, try.step) try.among) began.thawed began.at_rest began.number
  failed_at_rest v m j f below within among (inr (inl ends)) = began_at_rest v j _ below within among (ends.0).ran
  failed_at_rest v m j f below within among (inr (inr (inl poises))) = began_at_rest v j _ below within among (poises.0).ran
  failed_at_rest v m j f below within among (inr (inr (inr until))) = began_at_rest v j _ below within among until.ran

  compact_on : (v m : ℕ) (on : Option ℕ) (r : Reply) → Contains items item → replica_on settings v m ≡ on → CompactDid (course_of h item) v m on r
      → CompactIsLegal settings k items t item.lane v m on r
  compact_on v m None reply.NoMem among e did = tt
  compact_on v m None r among e did = search
  compact_on v m (Some j) (reply.ReadOnly by) among e did = compact_refused v j by (on_machine settings v m j e).0 did
  compact_on v m (Some j) (reply.Compacted v' m' g) among e did = (did.0, was_open v m j (reply.Compacted v' m' g) among e did (did.0).0)
  compact_on v m (Some j) (reply.Busy v' m' g) among e did =
      let there = on_machine settings v m j e in
      let seen = did.2 in (
        did.0,
        was_open v m j (reply.Busy v' m' g) among e did (did.0).0,
        busy_legal h v j there.0 there.1 item m g among (did.1.0 v) there.2 seen.0 seen.1 seen.3.0 seen.3.1 seen.3.2,
      )
  compact_on v m (Some j) (reply.Worn v' m') among e did =
      let there = on_machine settings v m j e in
      let seen = did.2 in
      (did.0, was_open v m j (reply.Worn v' m') among e did (did.0).0, worn_legal h v j there.0 there.1 item among seen.0 seen.1 seen.3 seen.4)
  compact_on v m (Some j) (reply.Failed v' m' f) among e did =
      let there = on_machine settings v m j e in
      (did.0, was_open v m j (reply.Failed v' m' f) among e did (did.0).0, failed_at_rest v m j f there.0 there.1 among did.1)
  compact_on v m (Some j) r among e did = search

  pub compact_legal : (v m : ℕ) (r : Reply) → Contains items item → CompactDid (course_of h item) v m (replica_on settings v m) r
      → CompactIsLegal settings k items t item.lane v m (replica_on settings v m) r
  compact_legal v m r among did = compact_on v m (replica_on settings v m) r among refl did
