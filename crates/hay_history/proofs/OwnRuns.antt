-- A compaction of a line that stands when it ends has stood since the line began it.
use Rattle.std.proofs.Common.{◌≡◌, ◌⊎◌, inl, inr, ℕ, zero, suc, ◌+◌, ◌-◌, ◌<◌, ◌≤◌, List, [], ◌∷◌, ◌++◌, length, option_map, slice_get, Contains, Option, Some, None, refl, sym, ap, subst, ◌∙◌, arith}
use Rattle.std.specs.Prelude.{◌≢◌, ◌==◌}
use Rattle.std.specs.List.{AllByRecursion as Each}
use Rattle.std.proofs.lemmas.Bool.{cases_eq, cond-false, cond-true, eq-eqb, ne_eqb}
use Rattle.std.proofs.lemmas.Option.{none-some, slice_get_cases}
use Rattle.hay_needle.specs.declared.settings.Settings.{Settings}
use Rattle.hay_core.specs.declared.entry.CoreTag.{CoreTag}
use Rattle.hay_legal.specs.declared.known.Known.{Known}
use Rattle.hay_legal.specs.declared.known.ReplicaKnown.{ReplicaKnown}
use Rattle.hay_legal.specs.declared.known.Run.{Run}
use Rattle.hay_legal.specs.declared.turn.LaneItem.{LaneItem}
use Rattle.hay_legal.specs.Known.{replica_at}
use Rattle.hay_legal.specs.Plain.{grown, run_grown}
use Rattle.hay_legal.specs.Blocks.{tag_of}
use Rattle.hay_legal.proofs.Subject.Effects.{each_append}
use Rattle.hay_history.specs.LaneSteps.{Did, Follows, Standing, Step}
use Rattle.hay_history.specs.LaneSteps.Did.{Begins, Ends, Entered, Examines, Flushes, Freezes, Fuses, Pends, Poises, Sticks, Swaps, Tries}
use Rattle.hay_history.specs.Histories.{History, begun_by, begun_in, behind, first_of, own, steps_of, volume_then}
use Rattle.hay_history.specs.Commands.{CameInLanes, Ran}
use Rattle.hay_history.proofs.Changes.{Becomes, leads_becomes}
use Rattle.hay_history.proofs.Changes.Becomes.{Goes, Grows, IsFlushed, IsPoised, IsStuck, IsSwapped, Rests, Starts, Stays}
use Rattle.hay_history.proofs.Histories.{behind_past, behind_step, leads_at}
use Rattle.hay_history.proofs.Lines.{at_own, course_of}
use Rattle.hay_history.proofs.Lists.{each_in, first_or_rest}
use Rattle.hay_history.proofs.Own.{NoBegins, is_begin}
use Rattle.hay_history.proofs.Trying.{tried_or_changed}

-- THE LAST STEP THAT BEGAN A COMPACTION

pub record LastBegins (j : ℕ) (before : CoreTag) (steps : List Step) (n : ℕ) : Type 0 where
  pub place : ℕ
  pub step : Step
  pub below : place < n
  pub at : slice_get steps place ≡ Some step
  pub begins : (step.did) ≡ Begins j
  pub tag : step.tag ≡ begun_by j before steps n
  pub later : (i : ℕ) (s : Step) → place < i → i < n → slice_get steps i ≡ Some s → s.did ≡ Begins j → ⊥

abbrev pub NoneBegins : ℕ → List Step → ℕ → Type 0
NoneBegins j steps n = (i : ℕ) (s : Step) → i < n → slice_get steps i ≡ Some s → s.did ≡ Begins j → ⊥

begun_here : (j : ℕ) (tag before : CoreTag) (did : Did) → did ≡ Begins j → begun_in j tag did before ≡ tag
begun_here j tag before did is =
    subst (λ (d : Did). begun_in j tag d before ≡ tag) (sym is) (cond-true (j == j) tag before (eq-eqb j j refl))

pub last_begins : (j : ℕ) (before : CoreTag) (steps : List Step) (n : ℕ)
    → LastBegins j before steps n ⊎ (NoneBegins j steps n × ((tag : CoreTag) → begun_by j tag steps n ≡ tag))
last_begins j before steps zero = inr ((λ i s below at is. absurd (omega (arith, below))), (λ tag. refl))
last_begins j before [] (suc n) = inr ((λ i s below at is. none-some s at), (λ tag. refl))
last_begins j before (x ∷ xs) (suc n) = elim (last_begins j (begun_in j x.tag x.did before) xs n) [
  | inl found ↦ inl (record {
    place = suc found.place;
    step = found.step;
    below = omega (arith, found.below);
    at = found.at;
    begins = found.begins;
    tag = found.tag;
    later = later_than found.place found.later;
  })
  | inr none ↦ elim (is_begin j x.did) [
    | inl is ↦ inl (record {
      place = 0;
      step = x;
      below = omega arith;
      at = refl;
      begins = is;
      tag = sym (none.1 (begun_in j x.tag x.did before) ∙ begun_here j x.tag before x.did is);
      later = later_first none.0;
    })
    | inr other ↦ inr (none_more other none.0, λ tag. none.1 (begun_in j x.tag x.did tag) ∙ begun_other x.tag x.did tag other)
  ]
]
  where
    later_than : (p : ℕ) → ((i : ℕ) (s : Step) → p < i → i < n → slice_get xs i ≡ Some s → s.did ≡ Begins j → ⊥)
        → (i : ℕ) (s : Step) → suc p < i → i < suc n → slice_get (x ∷ xs) i ≡ Some s → s.did ≡ Begins j → ⊥
    later_than p later zero s low high at is = absurd (omega (arith, low))
    later_than p later (suc i) s low high at is = later i s (omega (arith, low)) (omega (arith, high)) at is

    later_first : NoneBegins j xs n → (i : ℕ) (s : Step) → 0 < i → i < suc n → slice_get (x ∷ xs) i ≡ Some s → s.did ≡ Begins j → ⊥
    later_first none zero s low high at is = absurd (omega (arith, low))
    later_first none (suc i) s low high at is = none i s (omega (arith, high)) at is

    none_more : x.did ≢ Begins j → NoneBegins j xs n → NoneBegins j (x ∷ xs) (suc n)
    none_more other none zero s below at is = let same : x ≡ s = cc in other (ap (λ (step : Step). step.did) same ∙ is)
    none_more other none (suc i) s below at is = none i s (omega (arith, below)) at is

    begun_other : (tag : CoreTag) (did : Did) (owner : CoreTag) → did ≢ Begins j → begun_in j tag did owner ≡ owner
    begun_other tag (Begins i) owner other = elim (cases_eq i j) [
      | inl same ↦ absurd (other (ap Begins same))
      | inr apart ↦ cond-false (i == j) tag owner (ne_eqb i j apart)
    ]
    begun_other tag Tries owner other = refl
    begun_other tag (Entered change) owner other = refl
    begun_other tag (Pends m change failed) owner other = refl
    begun_other tag (Freezes m) owner other = refl
    begun_other tag (Flushes i) owner other = refl
    begun_other tag (Sticks i) owner other = refl
    begun_other tag (Examines i k) owner other = refl
    begun_other tag (Ends i) owner other = refl
    begun_other tag (Swaps i end cells freezes) owner other = refl
    begun_other tag (Poises m i) owner other = refl
    begun_other tag (Fuses i) owner other = refl

-- WHERE NONE BEGINS NONE STANDS

abbrev run_of : Standing → ℕ → Option Run
run_of a j = (replica_at a.volume j).run

rests : (j : ℕ) (did : Did) (a b : Standing) → did ≢ Begins j → Becomes a.volume did j (replica_at a.volume j) (replica_at b.volume j)
    → run_of a j ≡ None → run_of b j ≡ None
rests j did a b other (Stays is) none = ap (λ (r : ReplicaKnown). r.run) is ∙ none
rests j did a b other (Grows pair cookie bytes entered is) none =
    ap (λ (r : ReplicaKnown). r.run) is ∙ grown_none (replica_at a.volume j) none
  where
    grown_none : (r : ReplicaKnown) → r.run ≡ None → (grown (length bytes) r).run ≡ None
    grown_none r none = ap (option_map run_grown) none
rests j did a b other (Rests is) none = ap (λ (r : ReplicaKnown). r.run) is
rests j did a b other (IsFlushed flushed is) none = ap (λ (r : ReplicaKnown). r.run) is ∙ none
rests j did a b other (IsStuck sticks is) none = ap (λ (r : ReplicaKnown). r.run) is ∙ none
rests j did a b other (Starts begins rest low is) none = absurd (other begins)
rests j did a b other (Goes n run examines stands low is) none = absurd (none-some run (sym none ∙ stands))
rests j did a b other (IsSwapped end cells freezes swaps run sizes is) none = ap (λ (r : ReplicaKnown). r.run) is
rests j did a b other (IsPoised m poises is) none = ap (λ (r : ReplicaKnown). r.run) is

-- where none stands and none begins, none stands later
pub rests_on : (settings : Settings) (v j : ℕ) (before : Standing) (steps : List Step) → Follows settings v before steps → (d n : ℕ)
    → ((i : ℕ) (s : Step) → n ≤ i → i < n + d → slice_get steps i ≡ Some s → s.did ≡ Begins j → ⊥)
    → run_of (behind before steps n) j ≡ None → run_of (behind before steps (n + d)) j ≡ None
rests_on settings v j before steps f zero n none at_rest =
    let same : n + 0 ≡ n = omega arith in subst (λ (m : ℕ). run_of (behind before steps m) j ≡ None) (sym same) at_rest
rests_on settings v j before steps f (suc d) n none at_rest = elim (slice_get_cases steps n).1 [
  | inl some ↦
      let s = some.0 in
      let at : slice_get steps n ≡ Some s = some.2 in
      let leads = (leads_at settings v before steps n s f at).0 in
      let next : run_of s.after j ≡ None =
      rests j s.did (behind before steps n) s.after (none n s (omega arith) (omega arith) at) (leads_becomes settings v s.tag s.did (behind before steps n) s.after leads j) at_rest in
      let more : n + 1 + d ≡ n + suc d = omega arith in
      subst (λ (m : ℕ). run_of (behind before steps m) j ≡ None) more
      (rests_on settings v j before steps f d (n + 1) (λ i s low high. none i s (omega (arith, low)) (omega (arith, high)))
      (ap (λ (a : Standing). run_of a j) (behind_step before steps n s at) ∙ next))
  | inr past ↦
      ap (λ (a : Standing). run_of a j) (behind_past before steps (n + suc d) (omega (arith, past.0)) ∙ sym (behind_past before steps n past.0)) ∙ at_rest
]

-- THE RUN OF A LINE

pub run_cases : (o : Option Run) → ((run : Run) × (o ≡ Some run)) ⊎ (o ≡ None)
run_cases None = inr refl
run_cases (Some run) = inl (run, refl)

module _ {settings : Settings} {k : Known} {items : List LaneItem} {history : History} {t : Known} (h : CameInLanes settings k items history t) (item : LaneItem)
    (v j : ℕ) (below : v < settings.volumes) (last : List (ℕ × Step)) (none : NoBegins j last) (ran : Ran (course_of h item) v j last) where
  examines_none : (middle : List (ℕ × Step)) → Each (λ at. (n : ℕ) × ((at.1).did ≡ Examines j n)) middle → NoBegins j middle
  examines_none [] each = tt
  examines_none (x ∷ middle) each =
      ((λ begins. let clash : Begins j ≡ Examines j (each.0).0 = sym begins ∙ (each.0).1 in absurd cc), examines_none middle each.1)

  -- a step of the line that begins a compaction is the first of it
  first_begins : (at : ℕ × Step) → Contains (own (course_of h item) v) at → (at.1).did ≡ Begins j → at.0 ≡ ran.place
  first_begins at among is = elim (tried_or_changed (course_of h item) v at among) [
    | inl tried ↦ let clash : Begins j ≡ Tries = sym is ∙ tried in absurd cc
    | inr change ↦ elim (first_or_rest (ran.place, ran.first) (ran.middle ++ last) at (subst (λ (l : List (ℕ × Step)). Contains l at) ran.steps change)) [
      | inl first ↦ sym (ap (λ (x : ℕ × Step). x.0) first)
      | inr rest ↦ absurd (each_in (λ (x : ℕ × Step). (x.1).did ≢ Begins j) (ran.middle ++ last) at
          (each_append (λ (x : ℕ × Step). (x.1).did ≢ Begins j) ran.middle last (examines_none ran.middle ran.examines) none) rest is)
    ]
  ]

  none_begins_later : (i : ℕ) (s : Step) → ran.place < i → i < ran.until → slice_get (history.volumes v) i ≡ Some s → s.did ≡ Begins j → ⊥
  none_begins_later i s low high at is = elim (last_begins j (history.begun v j) (history.volumes v) ran.until) [
    | inr nothing ↦ nothing.0 i s high at is
    | inl found ↦
        let own_tag : (found.step).tag ≡ tag_of item = found.tag ∙ (ran.own).begun in
        let mine : Contains (own (course_of h item) v) (found.place, found.step) =
        subst (λ (line : ℕ). Contains (steps_of (history.volumes v) line) (found.place, found.step)) (ap (λ (tag : CoreTag). tag.line) own_tag)
        (at_own (history.volumes v) found.place found.step found.at) in
        let first : found.place ≡ ran.place = first_begins (found.place, found.step) mine found.begins in
        found.later i s (omega (arith, first, low)) high at is
  ]

  -- it stood from the step behind the one that began it to the one in which it ended
  pub ran_stood : (n : ℕ) → ran.place < n → n ≤ ran.until → (run : Run) × ((replica_at (volume_then (course_of h item) v n) j).run ≡ Some run)
  ran_stood n low high = elim (run_cases (replica_at (volume_then (course_of h item) v n) j).run) [
    | inl stands ↦ stands
    | inr at_rest ↦
        let d : ℕ = ran.until - n in
        let plus : n + d ≡ ran.until = omega (arith, high) in
        let later = rests_on settings v j (first_of settings k v) (history.volumes v) (h.follows v below) d n
        (λ i s from to. none_begins_later i s (omega (arith, from, low)) (omega (arith, to, plus))) at_rest in
        absurd (none-some (ran.own).run
        (sym (subst (λ (m : ℕ). (replica_at (volume_then (course_of h item) v m) j).run ≡ None) plus later) ∙ (ran.own).stands))
  ]
