-- Counts that different lines print of one disk are charged to different steps.
use Rattle.std.proofs.Common.{◌≡◌, ◌≢◌, ◌⊎◌, ℕ, ◌<◌, ◌≤◌, ◌+◌, true, List, [], ◌∷◌, length, Contains, Some, None, refl, sym, ap, subst, ◌∙◌, inl, inr, arith}
use Rattle.std.proofs.lemmas.Bool.{cases_lt}
use Rattle.std.proofs.lemmas.Option.{none-some, same_Some, slice_get_within}
use Rattle.hay_needle.specs.declared.settings.Settings.{Settings}
use Rattle.hay_core.specs.declared.entry.CoreTag.{CoreTag}
use Rattle.hay_legal.specs.declared.known.Run.{Run}
use Rattle.hay_legal.specs.declared.known.ReplicaKnown.{ReplicaKnown}
use Rattle.hay_legal.specs.declared.known.VolumeKnown.{VolumeKnown}
use Rattle.hay_legal.specs.declared.known.Known.{Known}
use Rattle.hay_legal.specs.declared.turn.LaneItem.{LaneItem}
use Rattle.hay_legal.specs.Known.{replica_at}
use Rattle.hay_legal.specs.Plain.{with_run, with_stuck}
use Rattle.hay_legal.specs.Blocks.{tag_of}
use Rattle.hay_history.specs.LaneSteps.{Did, Leads, Standing, Step}
use Rattle.hay_history.specs.LaneSteps.Did.{Begins, Ends, Pends, Poises, Sticks, Tries}
use Rattle.hay_history.proofs.Own.{NoBegins}
use Rattle.hay_history.proofs.OwnRuns.{ran_stood}
use Rattle.hay_history.proofs.Trying.{changed}
use Rattle.hay_history.specs.Histories.{Course, History, first_of, own}
use Rattle.hay_history.specs.Commands.{CameInLanes, Ran, RanAs, RanUntil}
use Rattle.hay_history.proofs.Histories.{along}
use Rattle.hay_history.proofs.Lines.{answered, course_of, own_at, own_leads, stops}
use Rattle.hay_history.proofs.Lists.{each_in}
use Rattle.hay_history.proofs.Volumes.{moment, replicas_many, volume_at_moment}
use Rattle.hay_history.proofs.ReplicaSteps.{change_same, set_keeps}
use Rattle.hay_history.proofs.Laying.{EndedRun, QuietStep, is_quiet, last_step}

-- STEPS

begins_run : (settings : Settings) (v : ℕ) (tag : CoreTag) (did : Did) (j : ℕ) (a b : Standing) → Leads settings v tag did a b → did ≡ Begins j → j < length (a.volume).replicas
    → ((replica_at a.volume j).run ≡ None) × ((run : Run) × ((replica_at b.volume j).run ≡ Some run))
begins_run settings v tag did j a b leads is less = of (subst (λ (d : Did). Leads settings v tag d a b) is leads)
  where
    of : Leads settings v tag (Begins j) a b → ((replica_at a.volume j).run ≡ None) × ((run : Run) × ((replica_at b.volume j).run ≡ Some run))
    of h =
        let run : Run = record { goal = (replica_at a.volume j).generation + 1; left = (replica_at a.volume j).cells } in
        (h.2, (run, ap (λ (x : VolumeKnown). (replica_at x j).run) h.4 ∙ ap (λ (r : ReplicaKnown). r.run) (change_same a.volume j j (with_run run) refl less)))

ends_thawed : (settings : Settings) (v : ℕ) (tag : CoreTag) (did : Did) (j : ℕ) (a b : Standing) → Leads settings v tag did a b → did ≡ Ends j → (b.volume).frozen ≡ None
ends_thawed settings v tag did j a b leads is = of (subst (λ (d : Did). Leads settings v tag d a b) is leads)
  where
    of : Leads settings v tag (Ends j) a b → (b.volume).frozen ≡ None
    of h = ap (λ (x : VolumeKnown). x.frozen) h.3 ∙ h.0

-- a quiet step ends no run where it does not freeze the volume
quiet_keeps : (settings : Settings) (v : ℕ) (tag : CoreTag) (did : Did) (j : ℕ) (run : Run) (a b : Standing) → Leads settings v tag did a b → is_quiet did ≡ true
    → (replica_at a.volume j).run ≡ Some run → (replica_at b.volume j).run ≡ None → (b.volume).frozen ≡ None → ⊥
quiet_keeps settings v tag Tries j run a b h quiet stood none thawed =
    none-some run (sym none ∙ ap (λ (x : VolumeKnown). (replica_at x j).run) h ∙ stood)
quiet_keeps settings v tag (Pends m change failed) j run a b h quiet stood none thawed =
    none-some m (sym thawed ∙ ap (λ (x : VolumeKnown). x.frozen) h.1)
quiet_keeps settings v tag (Sticks i) j run a b h quiet stood none thawed =
    none-some run (sym none ∙ ap (λ (x : VolumeKnown). (replica_at x j).run) h.3 ∙ set_keeps (λ r new. new.run ≡ r.run) (λ r. refl) a.volume i j with_stuck refl ∙ stood)
quiet_keeps settings v tag (Poises m i) j run a b h quiet stood none thawed =
    none-some m (sym thawed ∙ ap (λ (x : VolumeKnown). x.frozen) h.3)
quiet_keeps settings v tag _ j run a b h quiet stood none thawed = absurd cc

-- MOMENTS OF A VOLUME

-- a count of a disk never falls
pub count_grows : {settings : Settings} {k : Known} {items : List LaneItem} {history : History} {t : Known} (h : CameInLanes settings k items history t)
    (v j n : ℕ) → v < settings.volumes → (moment settings k history v n).faults j ≤ (moment settings k history v (n + 1)).faults j
count_grows {settings} {k} {items} {history} {t} h v j n below =
    along settings v (λ a b. a.faults j ≤ b.faults j) (first_of settings k v) (history.volumes v)
    (λ a. omega arith) (λ a b c e f. omega (arith, e, f)) (λ tag did a b leads none. none j) (h.follows v below) n (n + 1) (omega arith)

-- RUNS

-- A run of the line stood until this step, and ended there though the volume was not frozen.
pub record Ended (settings : Settings) (k : Known) (history : History) (c : Course) (v j place : ℕ) : Type 0 where
  pub from : ℕ
  pub first : Step
  pub among : Contains (own c v) (from, first)
  pub begins : first.did ≡ Begins j
  pub before : from < place
  pub stood : (n : ℕ) → from < n → n ≤ place → (run : Run) × ((replica_at (volume_at_moment settings k history v n) j).run ≡ Some run)
  pub none : (replica_at (volume_at_moment settings k history v (place + 1)) j).run ≡ None
  pub thawed : (volume_at_moment settings k history v (place + 1)).frozen ≡ None

first_step : (c : Course) (v j : ℕ) (last : List (ℕ × Step)) (ran : Ran c v j last) → Contains (own c v) (ran.place, ran.first)
first_step c v j last ran = changed c v (ran.place, ran.first) (subst (λ (l : List (ℕ × Step)). Contains l (ran.place, ran.first)) (sym ran.steps) (0, omega arith, refl))

ran_ended : {settings : Settings} {k : Known} {items : List LaneItem} {history : History} {t : Known} (h : CameInLanes settings k items history t)
    (item : LaneItem) (v j : ℕ) → v < settings.volumes
    → (last : List (ℕ × Step)) → NoBegins j last → (ran : Ran (course_of h item) v j last)
    → (volume_at_moment settings k history v (ran.until + 1)).frozen ≡ None → Ended settings k history (course_of h item) v j ran.until
ran_ended {settings} {k} {items} {history} {t} h item v j below last none ran thawed = record {
  from = ran.place;
  first = ran.first;
  among = first_step (course_of h item) v j last ran;
  begins = ran.begins;
  before = ran.behind_it;
  stood = ran_stood h item v j below last none ran;
  none = ran.none;
  thawed = thawed;
}

ended_run : {settings : Settings} {k : Known} {items : List LaneItem} {history : History} {t : Known} (h : CameInLanes settings k items history t)
    (item : LaneItem) → Contains items item → (v j place : ℕ) → v < settings.volumes → j < settings.replicas
    → EndedRun (course_of h item) v j place → Ended settings k history (course_of h item) v j place
ended_run {settings} {k} {items} {history} {t} h item among v j place below within (inl ends) =
    let ran : RanAs (course_of h item) v j (Ends j) = ends.0 in
    subst (λ (n : ℕ). Ended settings k history (course_of h item) v j n) (ran.last ∙ ends.1)
    (ran_ended h item v j below ((ran.place, ran.step) ∷ []) ((λ is. let clash : Begins j ≡ Ends j = sym is ∙ ran.is in absurd cc), tt) ran.ran
    (ap (λ (n : ℕ). (volume_at_moment settings k history v (n + 1)).frozen) ran.last
    ∙ ends_thawed settings v (tag_of item) (ran.step).did j (moment settings k history v ran.place) (moment settings k history v (ran.place + 1))
    (own_leads h item v below among (ran.place, ran.step) (last_step (course_of h item) v j (Ends j) ran)).0 ran.is))
ended_run {settings} {k} {items} {history} {t} h item among v j place below within (inr until) =
    let cut : RanUntil (course_of h item) v j until.0 = until.1 in
    subst (λ (n : ℕ). Ended settings k history (course_of h item) v j n) until.2
    (ran_ended h item v j below [] tt cut.ran cut.thawed)

-- a step is one line's
pub one_line : {settings : Settings} {k : Known} {items : List LaneItem} {history : History} {t : Known} (h : CameInLanes settings k items history t)
    (a b : LaneItem) (v place : ℕ) (s r : Step) → Contains (own (course_of h a) v) (place, s) → Contains (own (course_of h b) v) (place, r) → a.line ≡ b.line
one_line {settings} {k} {items} {history} {t} h a b v place s r in_a in_b =
    let at_a = own_at (history.volumes v) a.line (place, s) in_a in
    let at_b = own_at (history.volumes v) b.line (place, r) in_b in
    let same : s ≡ r = same_Some s r (sym at_a.0 ∙ at_b.0) in
    sym at_a.1 ∙ ap (λ (x : Step). (x.tag).line) same ∙ at_b.1

-- no run begins where another stands
no_two : {settings : Settings} {k : Known} {items : List LaneItem} {history : History} {t : Known} (h : CameInLanes settings k items history t)
    (a b : LaneItem) → Contains items a → Contains items b → (v j place : ℕ) → v < settings.volumes → j < settings.replicas
    → (first : Ended settings k history (course_of h a) v j place) (other : Ended settings k history (course_of h b) v j place) → first.from < other.from → ⊥
no_two {settings} {k} {items} {history} {t} h a b in_a in_b v j place below within first other less =
    let stood = first.stood other.from less (omega (arith, other.before)) in
    let many : j < length (volume_at_moment settings k history v other.from).replicas = subst (λ (m : ℕ). j < m) (sym (replicas_many h v other.from below)) within in
    let at_rest = (begins_run settings v (tag_of b) (other.first).did j (moment settings k history v other.from) (moment settings k history v (other.from + 1))
    (own_leads h b v below in_b (other.from, other.first) other.among).0 other.begins many).0 in
    none-some stood.0 (sym at_rest ∙ stood.1)

ended_apart : {settings : Settings} {k : Known} {items : List LaneItem} {history : History} {t : Known} (h : CameInLanes settings k items history t)
    (a b : LaneItem) → Contains items a → Contains items b → a.line ≢ b.line → (v j place : ℕ) → v < settings.volumes → j < settings.replicas
    → Ended settings k history (course_of h a) v j place → Ended settings k history (course_of h b) v j place → ⊥
ended_apart h a b in_a in_b apart v j place below within first other =
    elim (cases_lt first.from other.from) [
      | inl less ↦ no_two h a b in_a in_b v j place below within first other less
      | inr le ↦ elim (cases_lt other.from first.from) [
        | inl less ↦ no_two h b a in_b in_a v j place below within other first less
        | inr ge ↦
            let same : other.from ≡ first.from = omega (arith, le, ge) in
            apart (one_line h a b v first.from first.first other.first first.among
            (subst (λ (n : ℕ). Contains (own (course_of h b) v) (n, other.first)) same other.among))
      ]
    ]

quiet_apart : {settings : Settings} {k : Known} {items : List LaneItem} {history : History} {t : Known} (h : CameInLanes settings k items history t)
    (a b : LaneItem) → Contains items a → (v j place : ℕ) → v < settings.volumes
    → QuietStep (course_of h a) v place → Ended settings k history (course_of h b) v j place → ⊥
quiet_apart {settings} {k} {items} {history} {t} h a b in_a v j place below step other =
    let stood = other.stood place other.before (omega arith) in
    quiet_keeps settings v (tag_of a) (step.step).did j stood.0 (moment settings k history v place) (moment settings k history v (place + 1))
    (own_leads h a v below in_a (place, step.step) step.among).0 step.quiet stood.1 other.none other.thawed

-- CHARGES

abbrev pub ChargedTo : Course → ℕ → ℕ → ℕ → Type 0
ChargedTo c v j place = QuietStep c v place ⊎ EndedRun c v j place

-- lines with different numbers are charged to different steps
pub charges_apart : {settings : Settings} {k : Known} {items : List LaneItem} {history : History} {t : Known} (h : CameInLanes settings k items history t)
    (a b : LaneItem) → Contains items a → Contains items b → a.line ≢ b.line → (v j place : ℕ) → v < settings.volumes → j < settings.replicas
    → ChargedTo (course_of h a) v j place → ChargedTo (course_of h b) v j place → ⊥
charges_apart h a b in_a in_b apart v j place below within (inl quiet_a) (inl quiet_b) =
    apart (one_line h a b v place quiet_a.step quiet_b.step quiet_a.among quiet_b.among)
charges_apart h a b in_a in_b apart v j place below within (inl quiet_a) (inr ended_b) =
    quiet_apart h a b in_a v j place below quiet_a (ended_run h b in_b v j place below within ended_b)
charges_apart h a b in_a in_b apart v j place below within (inr ended_a) (inl quiet_b) =
    quiet_apart h b a in_b v j place below quiet_b (ended_run h a in_a v j place below within ended_a)
charges_apart h a b in_a in_b apart v j place below within (inr ended_a) (inr ended_b) =
    ended_apart h a b in_a in_b apart v j place below within (ended_run h a in_a v j place below within ended_a) (ended_run h b in_b v j place below within ended_b)

-- a charged step is one of the block's
pub charge_within : {settings : Settings} {k : Known} {items : List LaneItem} {history : History} {t : Known} (h : CameInLanes settings k items history t)
    (item : LaneItem) → Contains items item → (v j place : ℕ) → ChargedTo (course_of h item) v j place → place < length (history.volumes v)
charge_within {settings} {k} {items} {history} {t} h item among v j place (inl quiet) =
    slice_get_within (history.volumes v) place quiet.step (own_at (history.volumes v) item.line (place, quiet.step) quiet.among).0
charge_within {settings} {k} {items} {history} {t} h item among v j place (inr (inl ends)) =
    let ran : RanAs (course_of h item) v j (Ends j) = ends.0 in
    subst (λ (n : ℕ). n < length (history.volumes v)) ends.1
    (slice_get_within (history.volumes v) ran.place ran.step
    (own_at (history.volumes v) item.line (ran.place, ran.step) (last_step (course_of h item) v j (Ends j) ran)).0)
charge_within {settings} {k} {items} {history} {t} h item among v j place (inr (inr until)) =
    let cut : RanUntil (course_of h item) v j until.0 = until.1 in
    let last : (cut.ran).until + 1 ≤ (h.to item.line).volumes v = ((cut.ran).seen).1 in
    let all : (h.to item.line).volumes v ≤ length (history.volumes v) = (stops h item among).volumes v in
    let is : (cut.ran).until ≡ place = until.2 in
    omega (arith, last, all, is)

-- and stands between what the line's lane had seen before it and behind it
pub charge_stands : {settings : Settings} {k : Known} {items : List LaneItem} {history : History} {t : Known} (h : CameInLanes settings k items history t)
    (item : LaneItem) → Contains items item → (v j place : ℕ) → ChargedTo (course_of h item) v j place
    → ((h.from item.line).volumes v ≤ place) × (place < (h.to item.line).volumes v)
charge_stands {settings} {k} {items} {history} {t} h item among v j place charged = by charged
  where
    stands : (at : ℕ × Step) → Contains (own (course_of h item) v) at → ((h.from item.line).volumes v ≤ at.0) × (at.0 < (h.to item.line).volumes v)
    stands at mine =
        each_in (λ (x : ℕ × Step). ((h.from item.line).volumes v ≤ x.0) × (x.0 < (h.to item.line).volumes v)) (own (course_of h item) v) at ((answered h item among).steps v) mine

    by : ChargedTo (course_of h item) v j place → ((h.from item.line).volumes v ≤ place) × (place < (h.to item.line).volumes v)
    by (inl quiet) = stands (place, quiet.step) quiet.among
    by (inr (inl (ran, is))) =
        subst (λ (n : ℕ). ((h.from item.line).volumes v ≤ n) × (n < (h.to item.line).volumes v)) is (stands (ran.place, ran.step) (last_step (course_of h item) v j (Ends j) ran))
    by (inr (inr (f, until, is))) =
        let ran = until.ran in
        let since = (stands (ran.place, ran.first) (first_step (course_of h item) v j [] ran)).0 in
        let last = (ran.seen).1 in
        (omega (arith, since, ran.behind_it, is), omega (arith, last, is))
