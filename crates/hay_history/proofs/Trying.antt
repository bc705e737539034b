-- Steps that changed something, among all steps of a line.
use Rattle.std.proofs.Common.{◌≡◌, ◌⊎◌, inl, inr, ℕ, Bool, true, false, cond, filter, List, [], ◌∷◌, Contains, sum_by, refl, sym, ap, subst, ◌∙◌, arith}
use Rattle.std.proofs.lemmas.Bool.{cases_Bool}
use Rattle.std.proofs.lemmas.List.Sums.{sum_by-cons}
use Rattle.hay_history.specs.LaneSteps.{Did, RowDid, RowStep, Step}
use Rattle.hay_history.specs.LaneSteps.RowDid.{AddsRow, Drains, FusesRow, PendsRow, TriesRow}
use Rattle.hay_history.specs.LaneSteps.Did.{Begins, Ends, Entered, Examines, Flushes, Freezes, Fuses, Pends, Poises, Sticks, Swaps, Tries}
use Rattle.hay_history.specs.Histories.{Course, OneRowStep, OneStep, changes, changes_it, changes_rows, own, own_rows, row_changes}
use Rattle.hay_history.proofs.Lists.{first_or_rest, in_rest, is_first, none_in}

-- what a test keeps
kept : {X : Type 0} (test : X → Bool) (xs : List X) (x : X) → Contains xs x → test x ≡ true → Contains (filter test xs) x
kept test [] x among passes = absurd (none_in x among)
kept test (y ∷ ys) x among passes = elim (first_or_rest y ys x among) [
  | inl e ↦ rw (ap test e ∙ passes) (subst (λ z. Contains (y ∷ filter test ys) z) e (is_first y (filter test ys)))
  | inr later ↦ elim (test y) as (λ (b : Bool). Contains (cond b (y ∷ filter test ys) (filter test ys)) x) [
    | true ↦ in_rest y (filter test ys) x (kept test ys x later passes)
    | false ↦ kept test ys x later passes
  ]
]

unkept : {X : Type 0} (test : X → Bool) (xs : List X) (x : X) → Contains (filter test xs) x → Contains xs x
unkept test [] x among = absurd (none_in x among)
unkept test (y ∷ ys) x among = elim (test y) as (λ (b : Bool). Contains (cond b (y ∷ filter test ys) (filter test ys)) x → Contains (y ∷ ys) x) [
  | true ↦ λ among. elim (first_or_rest y (filter test ys) x among) [ inl e ↦ subst (Contains (y ∷ ys)) e (is_first y ys) | inr later ↦ in_rest y ys x (unkept test ys x later) ]
  | false ↦ λ among. in_rest y ys x (unkept test ys x among)
] among

is_try : (did : Did) → changes_it did ≡ false → did ≡ Tries
is_try Tries e = refl
is_try (Entered change) e = absurd (cc e)
is_try (Pends m change failed) e = absurd (cc e)
is_try (Freezes m) e = absurd (cc e)
is_try (Flushes j) e = absurd (cc e)
is_try (Sticks j) e = absurd (cc e)
is_try (Begins j) e = absurd (cc e)
is_try (Examines j n) e = absurd (cc e)
is_try (Ends j) e = absurd (cc e)
is_try (Swaps j end cells freezes) e = absurd (cc e)
is_try (Poises m j) e = absurd (cc e)
is_try (Fuses j) e = absurd (cc e)

-- a step tried, or it is one of those that changed something
pub tried_or_changed : (c : Course) (v : ℕ) (at : ℕ × Step) → Contains (own c v) at → ((at.1).did ≡ Tries) ⊎ Contains (changes c v) at
tried_or_changed c v at among = elim (cases_Bool (changes_it (at.1).did)) [
  | inl yes_it ↦ inr (kept (λ (x : ℕ × Step). changes_it (x.1).did) (own c v) at among yes_it)
  | inr no_it ↦ inl (is_try (at.1).did no_it)
]

-- what is changed stands among the steps
pub changed : (c : Course) (v : ℕ) (at : ℕ × Step) → Contains (changes c v) at → Contains (own c v) at
changed c v at among = unkept (λ (x : ℕ × Step). changes_it (x.1).did) (own c v) at among

-- the one change of a line is a step of it
pub one_own : (c : Course) (v : ℕ) (did : Did) (one : OneStep c v did) → Contains (own c v) (one.place, one.step)
one_own c v did one =
    changed c v (one.place, one.step) (subst (λ (l : List (ℕ × Step)). Contains l (one.place, one.step)) (sym one.only) (is_first (one.place, one.step) []))

-- what weighs nothing where it changed nothing
pub sum_changed : (f : ℕ × Step → ℕ) (xs : List (ℕ × Step)) → ((x : ℕ × Step) → (x.1).did ≡ Tries → f x ≡ 0) → sum_by f xs ≡ sum_by f (filter (λ at. changes_it (at.1).did) xs)
sum_changed f [] none = refl
sum_changed f (x ∷ xs) none =
    let rest = sum_changed f xs none in
    elim (cases_Bool (changes_it (x.1).did)) [
      | inl t ↦ rw t (omega (arith, rest, sum_by-cons f x xs, sum_by-cons f x (filter (λ at. changes_it (at.1).did) xs)))
      | inr n ↦ rw n (let zero_weight : f x ≡ 0 = none x (is_try (x.1).did n) in omega (arith, rest, zero_weight, sum_by-cons f x xs))
    ]

-- THE SAME OF THE DIRECTORY

is_row_try : (did : RowDid) → changes_rows did ≡ false → did ≡ TriesRow
is_row_try TriesRow e = refl
is_row_try (AddsRow row) e = absurd (cc e)
is_row_try (PendsRow row) e = absurd (cc e)
is_row_try (Drains m is) e = absurd (cc e)
is_row_try FusesRow e = absurd (cc e)

pub tried_or_changed_row : (c : Course) (at : ℕ × RowStep) → Contains (own_rows c) at → ((at.1).did ≡ TriesRow) ⊎ Contains (row_changes c) at
tried_or_changed_row c at among = elim (cases_Bool (changes_rows (at.1).did)) [
  | inl yes_it ↦ inr (kept (λ (x : ℕ × RowStep). changes_rows (x.1).did) (own_rows c) at among yes_it)
  | inr no_it ↦ inl (is_row_try (at.1).did no_it)
]

pub changed_row : (c : Course) (at : ℕ × RowStep) → Contains (row_changes c) at → Contains (own_rows c) at
changed_row c at among = unkept (λ (x : ℕ × RowStep). changes_rows (x.1).did) (own_rows c) at among

pub one_own_row : (c : Course) (did : RowDid) (one : OneRowStep c did) → Contains (own_rows c) (one.place, one.step)
one_own_row c did one =
    changed_row c (one.place, one.step) (subst (λ (l : List (ℕ × RowStep)). Contains l (one.place, one.step)) (sym one.only) (is_first (one.place, one.step) []))
