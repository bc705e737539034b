-- What the steps of a volume count of a replica is the sum of what the lines print.
use Rattle.std.proofs.Common.{◌≡◌, ◌⊎◌, inl, inr, ℕ, ◌<◌, ◌≤◌, ◌+◌, ◌==◌, ◌&&◌, Bool, true, false, cond, List, [], ◌∷◌, ◌++◌, length, Contains, sum_by, Some, refl, sym, ap, subst}
use Rattle.std.proofs.Common.{◌∙◌, arith, eq-eqb, ne_eqb}
use Rattle.std.specs.List.{AllByRecursion as Each, enumerate_from}
use Rattle.std.proofs.lemmas.Bool.{cases_eq, cond-false}
use Rattle.std.proofs.lemmas.List.Sums.{sum_by-cons, sum_by-append}
use Rattle.hay_needle.specs.declared.settings.Settings.{Settings}
use Rattle.hay_reply.specs.declared.Reply.{Reply}
use Rattle.hay_core.specs.declared.entry.CoreTag.{CoreTag}
use Rattle.hay_legal.specs.declared.known.Known.{Known}
use Rattle.hay_legal.specs.declared.turn.LaneItem.{LaneItem}
use Rattle.hay_legal.specs.Known.{machine_of, replica_at, replica_on}
use Rattle.hay_legal.specs.Blocks.{flushed_on, made_on}
use Rattle.hay_history.specs.LaneSteps.{Did, Standing, Step}
use Rattle.hay_history.proofs.Trying.{sum_changed}
use Rattle.hay_history.specs.Histories.{Course, History, changes, first_of, own, standing, steps_of}
use Rattle.hay_history.specs.Commands.{CameInLanes, IsOfLine}
use Rattle.hay_history.proofs.Placing.{on_machine, same_machine}
use Rattle.hay_history.proofs.Lists.{each_from, each_in, sum_none, sum_same}
use Rattle.hay_history.proofs.Lines.{answered, course_of}
use Rattle.hay_history.proofs.Weights.{sum_of_own, weigh, weigh_sum, weight_at}
use Rattle.hay_history.proofs.Doings.{CompactedOne, FlushedOne, IsQuiet, LineDid, PrintsNothing, line_did}
use Rattle.hay_history.proofs.ReplicaSteps.{flushed_at, flushes_at, made_at}

-- MACHINES

-- a replica is the one on a machine where that is its machine
pub told_machine : (settings : Settings) (v m i j : ℕ) → settings.replicas ≤ settings.machines → replica_on settings v m ≡ Some i → j < settings.replicas
    → (m == machine_of settings v j) ≡ (i == j)
told_machine settings v m i j narrow there within = let on = on_machine settings v m i there in elim (cases_eq i j) [
  | inl same ↦
      let is : m ≡ machine_of settings v j = sym on.2 ∙ ap (machine_of settings v) same in
      eq-eqb m (machine_of settings v j) is ∙ sym (eq-eqb i j same)
  | inr other ↦
      ne_eqb m (machine_of settings v j) (λ is. other (same_machine settings narrow v i j on.1 within (on.2 ∙ is)))
      ∙ sym (ne_eqb i j other)
]

-- WHAT EACH LINE'S STEPS WEIGH

one_weight : {X : Type 0} (f : X → ℕ) (x : X) (xs : List X) → xs ≡ x ∷ [] → sum_by f xs ≡ f x
one_weight f x xs one = ap (sum_by f) one ∙ sum_by-cons f x [] ∙ omega arith

-- a weight that quiet steps lack
abbrev IgnoresQuiet : (Standing → Did → ℕ) → Type 0
IgnoresQuiet w = (a : Standing) (did : Did) → IsQuiet did → w a did ≡ 0

abbrev own_weight : (Standing → Did → ℕ) → Course → ℕ → ℕ
own_weight w c v = sum_by (weight_at w (first_of c.settings c.k v) ((c.history).volumes v)) (own c v)

abbrev weight_then : (Standing → Did → ℕ) → Course → ℕ → ℕ × Step → ℕ
weight_then w c v at = w (standing c v at.0) (at.1).did

changed_weighs : (w : Standing → Did → ℕ) → IgnoresQuiet w → (c : Course) (v : ℕ) → own_weight w c v ≡ sum_by (weight_then w c v) (changes c v)
changed_weighs w ignores c v = sum_changed (weight_then w c v) (own c v) (λ x try. ignores (standing c v x.0) (x.1).did (subst IsQuiet (sym try) tt))

compacted_weighs : (w : Standing → Did → ℕ) → IgnoresQuiet w → (c : Course) (v : ℕ) (item : LaneItem) (one : CompactedOne c v item)
    → own_weight w c v ≡ w (standing c v (one.swaps).place) (Did.Swaps one.j one.end one.cells false)
compacted_weighs w ignores c v item one =
    let to = one.swaps in
    let ran = to.ran in
    let weight : ℕ × Step → ℕ = weight_then w c v in
    let last : weight (to.place, to.step) ≡ w (standing c v to.place) (Did.Swaps one.j one.end one.cells false) = ap (λ (d : Did). w (standing c v to.place) d) to.is in
    let first : weight (ran.place, ran.first) ≡ 0 = ignores (standing c v ran.place) (ran.first).did (subst IsQuiet (sym ran.begins) tt) in
    let middle : sum_by weight ran.middle ≡ 0 = sum_none weight ran.middle (each_from _ ran.middle (λ at among.
    let is = each_in (λ at. (n : ℕ) × ((at.1).did ≡ Did.Examines one.j n)) ran.middle at ran.examines among in
    ignores (standing c v at.0) (at.1).did (subst IsQuiet (sym is.1) tt))) in
    let all : own_weight w c v ≡ sum_by weight ((ran.place, ran.first) ∷ (ran.middle ++ (to.place, to.step) ∷ [])) = changed_weighs w ignores c v ∙ ap (sum_by weight) ran.steps in
    omega (
      arith,
      all,
      first,
      middle,
      last,
      sum_by-cons weight (ran.place, ran.first) (ran.middle ++ (to.place, to.step) ∷ []),
      sum_by-append weight ran.middle ((to.place, to.step) ∷ []),
      sum_by-cons weight (to.place, to.step) [],
    )

-- what a line's own steps weigh
line_weighs : (w : Standing → Did → ℕ) → IgnoresQuiet w → (c : Course) (v : ℕ) (item : LaneItem) → LineDid c v item
    → ((own_weight w c v ≡ 0) × PrintsNothing v item)
    ⊎ ((one : FlushedOne c v item) × (own_weight w c v ≡ w (standing c v (one.step).place) (Did.Flushes one.j)))
    ⊎ ((one : CompactedOne c v item) × (own_weight w c v ≡ w (standing c v (one.swaps).place) (Did.Swaps one.j one.end one.cells false)))
line_weighs w ignores c v item h = elim h [
  | inl quiet ↦ inl (
    sum_none (weight_then w c v) (own c v)
        (each_from _ (own c v) (λ at among. ignores (standing c v at.0) (at.1).did (each_in (λ at. IsQuiet (at.1).did) (own c v) at quiet.0 among))),
    quiet.1,
  )
  | inr some ↦ elim some [
    | inl one ↦ inr (inl (
      one,
      changed_weighs w ignores c v ∙ one_weight (weight_then w c v) ((one.step).place, (one.step).step) (changes c v) (one.step).only
          ∙ ap (λ (d : Did). w (standing c v (one.step).place) d) (one.step).is,
    ))
    | inr one ↦ inr (inr (one, compacted_weighs w ignores c v item one))
  ]
]

-- the sum over the lines is what all steps weigh
pub weigh_of_lines : {settings : Settings} {k : Known} {items : List LaneItem} {history : History} {t : Known} (h : CameInLanes settings k items history t)
    (w : Standing → Did → ℕ) (v : ℕ) → v < settings.volumes
    → sum_by (λ item. sum_by (weight_at w (first_of settings k v) (history.volumes v)) (steps_of (history.volumes v) item.line)) items
    ≡ weigh w (first_of settings k v) (history.volumes v)
weigh_of_lines {settings} {k} {items} {history} {t} h w v below =
    sum_of_own {X = ℕ × Step} {Y = LaneItem} (λ at. ((at.1).tag).line) (λ item. item.line) (weight_at w (first_of settings k v) (history.volumes v))
    (enumerate_from 0 (history.volumes v)) items h.distinct (owners 0 (history.volumes v) (h.lines v below))
    ∙ weigh_sum w (first_of settings k v) (history.volumes v)
  where
    owners : (i : ℕ) (steps : List Step) → Each (λ step. IsOfLine items step.tag) steps
        → Each (λ at. (item : LaneItem) × Contains items item × (item.line ≡ ((at.1).tag).line)) (enumerate_from i steps)
    owners i [] h = tt
    owners i (step ∷ steps) h = (((h.0).0, (h.0).1, ap (λ (tag : CoreTag). tag.line) (h.0).2), owners (i + 1) steps h.1)

-- A weight that for each line is what its reply prints is the sum of what is printed.
pub printed_weight : {settings : Settings} {k : Known} {items : List LaneItem} {history : History} {t : Known} (h : CameInLanes settings k items history t)
    (w : Standing → Did → ℕ) (v : ℕ) (print : LaneItem → ℕ) → v < settings.volumes
    → ((item : LaneItem) → Contains items item → LineDid (course_of h item) v item → own_weight w (course_of h item) v ≡ print item)
    → sum_by print items ≡ weigh w (first_of settings k v) (history.volumes v)
printed_weight {settings} {k} {items} {history} {t} h w v print below each =
    sum_same print (λ item. own_weight w (course_of h item) v) items
    (λ item among. sym (each item among (line_did (course_of h item) v item (answered h item among).did)))
    ∙ weigh_of_lines h w v below

-- WHAT REPLIES PRINT

no_made : (j : ℕ) → IgnoresQuiet (made_at j)
no_made j a (Did.Swaps i end cells false) quiet = absurd quiet
no_made j a _ quiet = refl

no_flushes : (j : ℕ) → IgnoresQuiet (flushes_at j)
no_flushes j a (Did.Flushes i) quiet = absurd quiet
no_flushes j a _ quiet = refl

no_flushed : (j : ℕ) → IgnoresQuiet (flushed_at j)
no_flushed j a (Did.Flushes i) quiet = absurd quiet
no_flushed j a _ quiet = refl

pub made_as : (v m : ℕ) (item : LaneItem) (r : Reply) → item.reply ≡ r → made_on v m item ≡ made_on v m (record item { reply = r })
made_as v m item r e = ap (λ (s : Reply). made_on v m (record item { reply = s })) e

pub flushed_as : (v m : ℕ) (item : LaneItem) (r : Reply) → item.reply ≡ r → flushed_on v m item ≡ flushed_on v m (record item { reply = r })
flushed_as v m item r e = ap (λ (s : Reply). flushed_on v m (record item { reply = s })) e

here : (v m n i j : ℕ) (xs : List ℕ) → (m == n) ≡ (i == j) → cond ((v == v) && (m == n)) xs [] ≡ cond (i == j) xs []
here v m n i j xs same = ap (λ (b : Bool). cond (b && (m == n)) xs []) (eq-eqb v v refl) ∙ ap (λ (b : Bool). cond b xs []) same

length_one : (b : Bool) (g : ℕ) → length (cond b (g ∷ []) []) ≡ cond b 1 0
length_one true g = refl
length_one false g = refl

sum_one : (b : Bool) (g : ℕ) → sum_by (λ n. n) (cond b (g ∷ []) []) ≡ cond b g 0
sum_one true g = omega (arith, sum_by-cons (λ (n : ℕ). n) g [])
sum_one false g = refl

module _ (c : Course) (v j : ℕ) (item : LaneItem) (narrow : (c.settings).replicas ≤ (c.settings).machines) (within : j < (c.settings).replicas) where
  pub made_is : (one : CompactedOne c v item)
      → made_on v (machine_of c.settings v j) item ≡ cond (one.j == j) (((replica_at (standing c v (one.swaps).place).volume one.j).generation + 1) ∷ []) []
  made_is one =
      made_as v (machine_of c.settings v j) item _ one.said
      ∙ here v one.m (machine_of c.settings v j) one.j j _ (told_machine c.settings v one.m one.j j narrow one.there within)

  pub flushed_is : (one : FlushedOne c v item)
      → flushed_on v (machine_of c.settings v j) item ≡ cond (one.j == j) ((replica_at (standing c v (one.step).place).volume one.j).bare ∷ []) []
  flushed_is one =
      flushed_as v (machine_of c.settings v j) item _ one.said
      ∙ here v one.m (machine_of c.settings v j) one.j j _ (told_machine c.settings v one.m one.j j narrow one.there within)

  pub made_printed : LineDid c v item → own_weight (made_at j) c v ≡ length (made_on v (machine_of c.settings v j) item)
  made_printed h = elim (line_weighs (made_at j) (no_made j) c v item h) [
    | inl quiet ↦ quiet.0 ∙ sym (ap (λ (xs : List ℕ). length xs) (quiet.1 (machine_of c.settings v j)).0)
    | inr some ↦ elim some [
      | inl one ↦ one.1 ∙ sym (ap (λ (xs : List ℕ). length xs) (made_as v (machine_of c.settings v j) item _ (one.0).said))
      | inr one ↦ one.1 ∙ sym (length_one ((one.0).j == j) _) ∙ sym (ap (λ (xs : List ℕ). length xs) (made_is one.0))
    ]
  ]

  pub flushes_printed : LineDid c v item → own_weight (flushes_at j) c v ≡ length (flushed_on v (machine_of c.settings v j) item)
  flushes_printed h = elim (line_weighs (flushes_at j) (no_flushes j) c v item h) [
    | inl quiet ↦ quiet.0 ∙ sym (ap (λ (xs : List ℕ). length xs) (quiet.1 (machine_of c.settings v j)).1)
    | inr some ↦ elim some [
      | inl one ↦ one.1 ∙ sym (length_one ((one.0).j == j) _) ∙ sym (ap (λ (xs : List ℕ). length xs) (flushed_is one.0))
      | inr one ↦ one.1 ∙ sym (ap (λ (xs : List ℕ). length xs) (flushed_as v (machine_of c.settings v j) item _ (one.0).said))
    ]
  ]

  bare_same : (i place : ℕ) → cond (i == j) (replica_at (standing c v place).volume j).bare 0 ≡ cond (i == j) (replica_at (standing c v place).volume i).bare 0
  bare_same i place = elim (cases_eq i j) [
    | inl same ↦ ap (λ (n : ℕ). cond (i == j) (replica_at (standing c v place).volume n).bare 0) (sym same)
    | inr other ↦ cond-false (i == j) _ 0 (ne_eqb i j other) ∙ sym (cond-false (i == j) _ 0 (ne_eqb i j other))
  ]

  pub flushed_printed : LineDid c v item → own_weight (flushed_at j) c v ≡ sum_by (λ n. n) (flushed_on v (machine_of c.settings v j) item)
  flushed_printed h = elim (line_weighs (flushed_at j) (no_flushed j) c v item h) [
    | inl quiet ↦ quiet.0 ∙ sym (ap (sum_by (λ n. n)) (quiet.1 (machine_of c.settings v j)).1)
    | inr some ↦ elim some [
      | inl one ↦ one.1 ∙ bare_same (one.0).j ((one.0).step).place ∙ sym (sum_one ((one.0).j == j) _) ∙ sym (ap (sum_by (λ n. n)) (flushed_is one.0))
      | inr one ↦ one.1 ∙ sym (ap (sum_by (λ n. n)) (flushed_as v (machine_of c.settings v j) item _ (one.0).said))
    ]
  ]
