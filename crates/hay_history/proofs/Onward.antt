-- What is left behind lines is what the next ones begin with: a regular store, whose runs were begun by lines of lane 0.
use Rattle.std.proofs.Common.{◌≡◌, inl, inr, ℕ, ◌+◌, ◌-◌, ◌<◌, ◌≤◌, List, length, slice_get, Option, Some, None, option_map, sym, ap, subst, ◌∙◌, arith}
use Rattle.std.specs.List.{AllByRecursion as Each}
use Rattle.std.proofs.lemmas.Option.{none-some}
use Rattle.hay_needle.specs.declared.settings.Settings.{Settings}
use Rattle.hay_needle.specs.declared.settings.TheConstants.{LAST_GENERATION}
use Rattle.hay_core.specs.declared.entry.CoreTag.{CoreTag}
use Rattle.hay_reply.specs.declared.Reply.{Reply}
use Rattle.hay_legal.specs.declared.known.Known.{Known}
use Rattle.hay_legal.specs.declared.known.ReplicaKnown.{ReplicaKnown}
use Rattle.hay_legal.specs.declared.known.Run.{Run}
use Rattle.hay_legal.specs.declared.known.VolumeKnown.{VolumeKnown}
use Rattle.hay_legal.specs.declared.turn.Item.{Item}
use Rattle.hay_legal.specs.declared.turn.LaneItem.{LaneItem}
use Rattle.hay_legal.specs.Known.{replica_at, volume_at}
use Rattle.hay_legal.specs.Plain.{run_grown}
use Rattle.hay_history.specs.LaneSteps.{Did, Step}
use Rattle.hay_history.specs.LaneSteps.Did.{Begins}
use Rattle.hay_history.specs.Histories.{Course, History, begun_by, behind, first_of}
use Rattle.hay_history.specs.Commands.{Came, CameBy, CameInLanes, MayStandInLane}
use Rattle.hay_history.specs.Law.{RunsOfPlain, RunsStayPlain, StoresStayRegular}
use Rattle.hay_history.proofs.Changes.{Becomes, leads_becomes}
use Rattle.hay_history.proofs.Changes.Becomes.{Goes, Grows, IsFlushed, IsPoised, IsStuck, IsSwapped, Rests, Starts, Stays}
use Rattle.hay_history.proofs.CompactLines.{item_is_compact}
use Rattle.hay_history.proofs.Histories.{along}
use Rattle.hay_history.proofs.InLanes.{in_lanes}
use Rattle.hay_history.proofs.Lines.{owner, stops}
use Rattle.hay_history.proofs.Lists.{each_in}
use Rattle.hay_history.proofs.OwnRuns.{last_begins, rests_on, run_cases}
use Rattle.hay_history.proofs.Volumes.{Persists, above_persists, goal_persists}

-- WHAT PERSISTS

pub persisted : {settings : Settings} {k : Known} {items : List LaneItem} {history : History} {t : Known} {Does : Course → Item → Reply → Type 0}
    (h : CameBy Does settings k items history t) (R : VolumeKnown → VolumeKnown → Type 0) → Persists R → (v : ℕ) → v < settings.volumes
    → R (volume_at k v) (volume_at t v)
persisted {settings} {k} {items} {history} {t} h R p v below =
    subst (R (volume_at k v)) (sym (h.volumes v below).volume)
    (along settings v (λ a b. R a.volume b.volume) (first_of settings k v) (history.volumes v) (λ a. p.same a.volume) (λ a b c. p.trans a.volume b.volume c.volume)
    (λ tag did a b leads falls. p.each settings v tag did a b leads) (h.follows v below) 0 (length (history.volumes v)) (omega arith))

-- a compaction that stands makes no generation past the last one
abbrev IsBelowLast : ReplicaKnown → Type 0
IsBelowLast r = (run : Run) → r.run ≡ Some run → r.generation < LAST_GENERATION

abbrev StaysBelowLast : ℕ → VolumeKnown → VolumeKnown → Type 0
StaysBelowLast j a b = IsBelowLast (replica_at a j) → IsBelowLast (replica_at b j)

below_moved : (old new : ReplicaKnown) → new.generation ≡ old.generation → ((run : Run) → new.run ≡ Some run → (first : Run) × (old.run ≡ Some first))
    → IsBelowLast old → IsBelowLast new
below_moved old new number had low run stands = let first = had run stands in let is = low first.0 first.1 in omega (arith, number, is)

below_rested : (new : ReplicaKnown) → new.run ≡ None → IsBelowLast new
below_rested new none run stands = absurd (none-some run (sym none ∙ stands))

below_by : (j : ℕ) (volume : VolumeKnown) (did : Did) (old new : ReplicaKnown) → Becomes volume did j old new → IsBelowLast old → IsBelowLast new
below_by j volume did old new (Stays is) low = subst IsBelowLast (sym is) low
below_by j volume did old new (Grows pair cookie bytes entered is) low =
    below_moved old new (ap (λ (r : ReplicaKnown). r.generation) is)
    (λ run stands. elim (run_cases old.run) [
      | inl some ↦ some
      | inr none ↦ absurd (none-some run (sym (ap (λ (r : ReplicaKnown). r.run) is ∙ ap (option_map run_grown) none) ∙ stands))
    ]) low
below_by j volume did old new (Rests is) low = below_rested new (ap (λ (r : ReplicaKnown). r.run) is)
below_by j volume did old new (IsFlushed flushed is) low =
    below_moved old new (ap (λ (r : ReplicaKnown). r.generation) is) (λ run stands. (run, sym (ap (λ (r : ReplicaKnown). r.run) is) ∙ stands)) low
below_by j volume did old new (IsStuck sticks is) low =
    below_moved old new (ap (λ (r : ReplicaKnown). r.generation) is) (λ run stands. (run, sym (ap (λ (r : ReplicaKnown). r.run) is) ∙ stands)) low
below_by j volume did old new (Starts begins rest less is) low = λ run stands. subst (λ (n : ℕ). n < LAST_GENERATION) (sym (ap (λ (r : ReplicaKnown). r.generation) is)) less
below_by j volume did old new (Goes n first examines had most is) low =
    below_moved old new (ap (λ (r : ReplicaKnown). r.generation) is) (λ run stands. (first, had)) low
below_by j volume did old new (IsSwapped end cells freezes swaps run sizes is) low = below_rested new (ap (λ (r : ReplicaKnown). r.run) is)
below_by j volume did old new (IsPoised m poises is) low = below_rested new (ap (λ (r : ReplicaKnown). r.run) is)

below_persists : (j : ℕ) → Persists (StaysBelowLast j)
below_persists j = record {
  same = λ a low. low;
  trans = λ a b c h g low. g (h low);
  each = λ settings v tag did a b leads. below_by j a.volume did (replica_at a.volume j) (replica_at b.volume j) (leads_becomes settings v tag did a b leads j);
}

pub stores_stay_regular : StoresStayRegular
stores_stay_regular settings k t items history h = record {
  machines = (h.regular).machines;
  slots = h.slots ∙ (h.regular).slots;
  ends = λ v j below within. persisted h (λ a b. 64 ≤ (replica_at a j).end → 64 ≤ (replica_at b j).end) (above_persists j) v below ((h.regular).ends v j below within);
  numbers = λ v j below within. persisted h (StaysBelowLast j) (below_persists j) v below ((h.regular).numbers v j below within);
  runs = λ v j below within. persisted h _ (goal_persists j) v below ((h.regular).runs v j below within);
}

-- WHO BEGAN THE RUNS

module _ {settings : Settings} {k : Known} {items : List LaneItem} {history : History} {t : Known} (h : Came settings k items history t)
    (plain : RunsOfPlain settings k history) (v j : ℕ) (below : v < settings.volumes) (within : j < settings.replicas) (run : Run)
    (stands : (replica_at (volume_at t v) j).run ≡ Some run) where
  abbrev many : ℕ
  many = length (history.volumes v)

  abbrev run_then : ℕ → Option Run
  run_then n = (replica_at (behind (first_of settings k v) (history.volumes v) n).volume j).run

  stands_last : run_then many ≡ Some run
  stands_last = sym (ap (λ (x : VolumeKnown). (replica_at x j).run) (h.volumes v below).volume) ∙ stands

  -- none begins from here on, so one stands here
  stands_from : (n : ℕ) → n ≤ many → ((i : ℕ) (s : Step) → n ≤ i → i < many → slice_get (history.volumes v) i ≡ Some s → s.did ≡ Begins j → ⊥)
      → run_then n ≡ None → ⊥
  stands_from n low none at_rest =
      let d : ℕ = many - n in
      let plus : n + d ≡ many = omega (arith, low) in
      none-some run (sym (subst (λ (m : ℕ). run_then m ≡ None) plus
      (rests_on settings v j (first_of settings k v) (history.volumes v) (h.follows v below) d n (λ i s from to. none i s from (omega (arith, to, plus))) at_rest)) ∙ stands_last)

  -- where none began, it stood before
  began_before : ((i : ℕ) (s : Step) → i < many → slice_get (history.volumes v) i ≡ Some s → s.did ≡ Begins j → ⊥)
      → (begun_by j (history.begun v j) (history.volumes v) many ≡ history.begun v j) → (begun_by j (history.begun v j) (history.volumes v) many).lane ≡ 0
  began_before none same = elim (run_cases (replica_at (volume_at k v) j).run) [
    | inl old ↦ ap (λ (tag : CoreTag). tag.lane) same ∙ plain v j old.0 below within old.1
    | inr at_rest ↦ absurd (stands_from 0 (omega arith) (λ i s low high. none i s high) at_rest)
  ]

  in_lane_zero : Each (λ item. item.lane ≡ 0) items → (begun_by j (history.begun v j) (history.volumes v) many).lane ≡ 0
  in_lane_zero zero = elim (last_begins j (history.begun v j) (history.volumes v) many) [
    | inl found ↦
        let line = owner h v found.place found.step below found.at in
        ap (λ (tag : CoreTag). tag.lane) (sym found.tag ∙ sym line.2) ∙ each_in (λ (item : LaneItem). item.lane ≡ 0) items line.0 zero line.1
    | inr nothing ↦ began_before nothing.0 (nothing.1 (history.begun v j))
  ]

  -- the compaction of a line of a block has ended behind it
  in_block : Each (λ item. MayStandInLane item.item) items → (begun_by j (history.begun v j) (history.volumes v) many).lane ≡ 0
  in_block may = elim (last_begins j (history.begun v j) (history.volumes v) many) [
    | inl found ↦
        let lanes : CameInLanes settings k items history t = in_lanes settings k items history t may h in
        let line = owner lanes v found.place found.step below found.at in
        let ending = (item_is_compact lanes line.0 line.1 v j below (found.place, found.step) line.3 found.begins).2 in
        let high = (ending.seen).1 in
        let last = (stops lanes line.0 line.1).volumes v in
        absurd (stands_from (ending.until + 1) (omega (arith, high, last))
        (λ i s from to. found.later i s (omega (arith, from, ending.behind_it)) to) ending.none)
    | inr nothing ↦ began_before nothing.0 (nothing.1 (history.begun v j))
  ]

pub runs_stay_plain : RunsStayPlain
runs_stay_plain settings k t items history (inl may) plain h v j run below within stands = in_block h plain v j below within run stands may
runs_stay_plain settings k t items history (inr zero) plain h v j run below within stands = in_lane_zero h plain v j below within run stands zero
