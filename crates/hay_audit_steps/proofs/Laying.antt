-- Laying what was passed over to disks and to the arm gives legal turns, and the lowest of all.
use Rattle.std.proofs.Common.{◌≡◌, ℕ, zero, suc, ◌+◌, ◌-◌, ◌^◌, ◌<◌, ◌≤◌, Bool, true, false, List, [], ◌∷◌, ◌++◌, length, refl, ap, ◌∙◌, ◌⊎◌, inl, inr, arith}
use Rattle.std.proofs.lemmas.Bool.{cases_Bool}
use Rattle.std.proofs.lemmas.List.Sums.{sum_by-cons}
use Rattle.std.specs.Prelude.{cond, not, nat_lt, max, slice_index, slice_set, count_by, ◌==◌}
use Rattle.std.specs.List.{AllByRecursion as Each}
use Rattle.std.proofs.lemmas.Bool.Decides.{nat_tests}
use Rattle.hay_legal.specs.declared.known.Known.{Known}
use Rattle.hay_legal.specs.Known.{NoneFalls, fault_count, arm_count, has_risen}
use Rattle.hay_audit_steps.specs.CheckerSteps.{Below, AnyOf}
use Rattle.hay_audit_steps.specs.Laid.{next_count, raise_disk, raise_arm, on_disk, on_arm, laid_once, laid}
use Rattle.hay_audit_steps.proofs.Counts.{falls_refl, falls_trans, falls_set, falls_at, falls_length, falls_raised, index_set, index_there}

pub any_left : {X : Type 0} (P : X → Type 0) (xs ys : List X) → AnyOf P xs → AnyOf P (xs ++ ys)
any_left P [] ys h = absurd h
any_left P (x ∷ xs) ys h = elim h [ inl here ↦ inl here | inr there ↦ inr (any_left P xs ys there) ]

pub any_right : {X : Type 0} (P : X → Type 0) (xs ys : List X) → AnyOf P ys → AnyOf P (xs ++ ys)
any_right P [] ys h = h
any_right P (x ∷ xs) ys h = inr (any_right P xs ys h)

pub each_both : {X : Type 0} (P : X → Type 0) (xs ys : List X) → Each P xs → Each P ys → Each P (xs ++ ys)
each_both P [] ys h g = g
each_both P (x ∷ xs) ys h g = (h.0, each_both P xs ys h.1 g)

-- COUNTS THAT ROSE

abbrev pub rose_at : Known → Known → ℕ → Bool
rose_at k t slot = has_risen (fault_count k slot) (fault_count t slot)

-- so many of these disks did not rise
abbrev pub unrisen : Known → Known → List ℕ → ℕ
unrisen k t slots = count_by (λ slot. not (rose_at k t slot)) slots

unrisen_cons : (k t : Known) (slot : ℕ) (slots : List ℕ) → unrisen k t (slot ∷ slots) ≡ cond (not (rose_at k t slot)) 1 0 + unrisen k t slots
unrisen_cons k t slot slots = sum_by-cons (λ s. cond (not (rose_at k t s)) 1 0) slot slots

unrisen_yes : (k t : Known) (slot : ℕ) (slots : List ℕ) → rose_at k t slot ≡ true → unrisen k t (slot ∷ slots) ≡ unrisen k t slots
unrisen_yes k t slot slots rose =
    let zero_one : cond (not (rose_at k t slot)) 1 0 ≡ 0 = ap {B = ℕ} (λ (r : Bool). cond (not r) 1 0) rose in
    omega (arith, zero_one, unrisen_cons k t slot slots)

unrisen_no : (k t : Known) (slot : ℕ) (slots : List ℕ) → rose_at k t slot ≡ false → unrisen k t (slot ∷ slots) ≡ 1 + unrisen k t slots
unrisen_no k t slot slots rose =
    let one : cond (not (rose_at k t slot)) 1 0 ≡ 1 = ap {B = ℕ} (λ (r : Bool). cond (not r) 1 0) rose in
    omega (arith, one, unrisen_cons k t slot slots)

unrisen_most : (k t : Known) (slot : ℕ) (slots : List ℕ) → (unrisen k t slots ≤ unrisen k t (slot ∷ slots)) × (unrisen k t (slot ∷ slots) ≤ 1 + unrisen k t slots)
unrisen_most k t slot slots = elim (cases_Bool (rose_at k t slot)) [
  | inl rose ↦ (omega (arith, unrisen_yes k t slot slots rose), omega (arith, unrisen_yes k t slot slots rose))
  | inr low ↦ (omega (arith, unrisen_no k t slot slots low), omega (arith, unrisen_no k t slot slots low))
]

pub rise_least : (b k t : ℕ) → b ≤ k → k ≤ t → has_risen k t ≡ true → next_count b ≤ t
rise_least b k t h g r = grind (arith, nat_tests)

pub rise_there : (k t : ℕ) → has_risen k t ≡ true → 0 < t
rise_there k t r = grind (arith, nat_tests)

pub rise_stays : (b x y : ℕ) → b ≤ x → x ≤ y → has_risen b x ≡ true → has_risen b y ≡ true
rise_stays b x y h g r = grind (arith, nat_tests)

pub rise_made : (b y : ℕ) → next_count b ≤ y → has_risen b y ≡ true
rise_made b y h = grind (arith, nat_tests)

next_most : (n : ℕ) → next_count n ≤ n + 1
next_most n = grind (arith, nat_tests)

next_least : (n : ℕ) → n ≤ next_count n
next_least n = grind (arith, nat_tests)

next_below : (n t : ℕ) → n ≤ t → t ≡ 2 ^ 64 - 1 → next_count n ≤ t
next_below n t h e = grind (arith, nat_tests)

next_moves : (n : ℕ) → (next_count n ≡ n + 1) ⊎ ((n ≡ 2 ^ 64 - 1) × (next_count n ≡ 2 ^ 64 - 1))
next_moves n = elim (cases_Bool (n == 2 ^ 64 - 1)) [
  | inl top ↦ inr (grind (arith, nat_tests), grind (arith, nat_tests))
  | inr low ↦ inl (grind (arith, nat_tests))
]

-- THE LOWEST

-- the arm rose by so many, or stands at its end
abbrev pub RoseAtLeast : ℕ → ℕ → ℕ → Type 0
RoseAtLeast n before after = (before + n ≤ after) ⊎ (after ≡ 2 ^ 64 - 1)

-- c is below t, and its arm rose by no more than was laid to it
pub record Good (k t : Known) (lane : ℕ) (slots : List ℕ) (c : Known) : Type 0 where
  pub below : Below c t
  pub arm : arm_count c lane ≤ arm_count k lane + unrisen k t slots

set_most : (xs : List ℕ) (i n : ℕ) → slice_index (slice_set xs i n) i ≤ n
set_most [] i n = omega arith
set_most (x ∷ xs) zero n = omega arith
set_most (x ∷ xs) (suc i) n = set_most xs i n

any_if : (P : Known → Type 0) (test : Bool) (c : Known) → test ≡ true → P c → AnyOf P (cond test (c ∷ []) [])
any_if P true c e h = inl h
any_if P false c e h = absurd (let both : false ≡ true = e in cc)

pub less_true : (a b : ℕ) → a < b → nat_lt a b ≡ true
less_true a b h = grind (arith, nat_tests)

lay_disk : (b k t : Known) (lane slot : ℕ) (slots : List ℕ) (c : Known)
    → NoneFalls b.faults k.faults → NoneFalls k.faults t.faults
    → Good k t lane slots c → rose_at k t slot ≡ true
    → AnyOf (Good k t lane (slot ∷ slots)) (on_disk b slot c)
lay_disk b k t lane slot slots c first then good rose =
    let there : slot < length t.faults = index_there t.faults slot (rise_there (fault_count k slot) (fault_count t slot) rose) in
    let long : length c.faults ≡ length t.faults = falls_length c.faults t.faults ((good.below).faults) in
    let now : fault_count c slot ≤ fault_count t slot = falls_at c.faults t.faults slot ((good.below).faults) in
    let least : next_count (fault_count b slot) ≤ fault_count t slot =
    rise_least (fault_count b slot) (fault_count k slot) (fault_count t slot) (falls_at b.faults k.faults slot first) (falls_at k.faults t.faults slot then) rose in
    any_if (Good k t lane (slot ∷ slots)) (nat_lt slot (length c.faults)) (raise_disk b slot c) (less_true slot (length c.faults) (omega (arith, there, long)))
    (record {
      below = record {
        volumes = (good.below).volumes;
        directory = (good.below).directory;
        drained = (good.below).drained;
        faults = falls_set c.faults t.faults slot (max (fault_count c slot) (next_count (fault_count b slot))) ((good.below).faults) (omega (arith, now, least));
        arms = (good.below).arms;
      };
      arm = omega (arith, good.arm, unrisen_yes k t slot slots rose);
    })

lay_arm : (k t : Known) (lane slot : ℕ) (slots : List ℕ) (c : Known)
    → Good k t lane slots c → RoseAtLeast (unrisen k t (slot ∷ slots)) (arm_count k lane) (arm_count t lane) → rose_at k t slot ≡ false
    → AnyOf (Good k t lane (slot ∷ slots)) (on_arm lane c)
lay_arm k t lane slot slots c good many rose =
    let now : arm_count c lane ≤ arm_count t lane = falls_at c.arms t.arms lane ((good.below).arms) in
    let long : length c.arms ≡ length t.arms = falls_length c.arms t.arms ((good.below).arms) in
    let one : unrisen k t (slot ∷ slots) ≡ 1 + unrisen k t slots = unrisen_no k t slot slots rose in
    let most : next_count (arm_count c lane) ≤ arm_count c lane + 1 = next_most (arm_count c lane) in
    let least : next_count (arm_count c lane) ≤ arm_count t lane =
    elim many [
      | inl sum ↦ omega (arith, sum, one, most, good.arm)
      | inr top ↦ next_below (arm_count c lane) (arm_count t lane) now top
    ] in
    let some : 0 < arm_count t lane =
    elim many [
      | inl sum ↦ omega (arith, sum, one)
      | inr top ↦ omega (arith, top)
    ] in
    let there : lane < length t.arms = index_there t.arms lane some in
    any_if (Good k t lane (slot ∷ slots)) (nat_lt lane (length c.arms)) (raise_arm lane c) (less_true lane (length c.arms) (omega (arith, there, long)))
    (record {
      below = record {
        volumes = (good.below).volumes;
        directory = (good.below).directory;
        drained = (good.below).drained;
        faults = (good.below).faults;
        arms = falls_set c.arms t.arms lane (next_count (arm_count c lane)) ((good.below).arms) least;
      };
      arm = omega (arith, set_most c.arms lane (next_count (arm_count c lane)), most, one, good.arm);
    })

any_map : (P Q : Known → Type 0) (b : Known) (lane slot : ℕ) (cs : List Known) → ((c : Known) → P c → AnyOf Q (on_disk b slot c ++ on_arm lane c))
    → AnyOf P cs → AnyOf Q (laid_once b lane slot cs)
any_map P Q b lane slot [] step h = absurd h
any_map P Q b lane slot (c ∷ cs) step h = elim h [
  | inl here ↦ any_left Q (on_disk b slot c ++ on_arm lane c) (laid_once b lane slot cs) (step c here)
  | inr there ↦ any_right Q (on_disk b slot c ++ on_arm lane c) (laid_once b lane slot cs) (any_map P Q b lane slot cs step there)
]

lay_one : (b k t : Known) (lane slot : ℕ) (slots : List ℕ) (c : Known) (rose : Bool)
    → NoneFalls b.faults k.faults → NoneFalls k.faults t.faults
    → RoseAtLeast (unrisen k t (slot ∷ slots)) (arm_count k lane) (arm_count t lane) → rose_at k t slot ≡ rose
    → Good k t lane slots c → AnyOf (Good k t lane (slot ∷ slots)) (on_disk b slot c ++ on_arm lane c)
lay_one b k t lane slot slots c true first then many e good =
    any_left (Good k t lane (slot ∷ slots)) (on_disk b slot c) (on_arm lane c) (lay_disk b k t lane slot slots c first then good e)
lay_one b k t lane slot slots c false first then many e good =
    any_right (Good k t lane (slot ∷ slots)) (on_disk b slot c) (on_arm lane c) (lay_arm k t lane slot slots c good many e)

-- of all that legal turns leave, the lowest are among those laid
pub laid_complete : (b k t : Known) (lane : ℕ) (slots : List ℕ)
    → NoneFalls b.faults k.faults → NoneFalls b.arms k.arms → NoneFalls k.faults t.faults → Below b t
    → RoseAtLeast (unrisen k t slots) (arm_count k lane) (arm_count t lane)
    → AnyOf (Good k t lane slots) (laid b lane slots)
laid_complete b k t lane [] first arms then below many = inl (record { below = below; arm = omega (arith, falls_at b.arms k.arms lane arms) })
laid_complete b k t lane (slot ∷ slots) first arms then below many =
    any_map (Good k t lane slots) (Good k t lane (slot ∷ slots)) b lane slot (laid b lane slots)
    (λ c good. lay_one b k t lane slot slots c (rose_at k t slot) first then many refl good)
    (laid_complete b k t lane slots first arms then below
    (elim many [
      | inl sum ↦ inl (omega (arith, sum, unrisen_most k t slot slots))
      | inr top ↦ inr top
    ]))

-- WHAT IS LAID IS LEGAL

pub record Laid (b : Known) (lane : ℕ) (slots : List ℕ) (x : Known) : Type 0 where
  pub volumes : x.volumes ≡ b.volumes
  pub directory : x.directory ≡ b.directory
  pub drained : x.drained ≡ b.drained
  pub fuses : x.fuses ≡ b.fuses
  pub faults : NoneFalls b.faults x.faults
  pub arms : NoneFalls b.arms x.arms
  pub passed : RoseAtLeast (unrisen b x slots) (arm_count b lane) (arm_count x lane)

unrisen_less : (b x y : Known) (slots : List ℕ) → NoneFalls b.faults x.faults → NoneFalls x.faults y.faults → unrisen b y slots ≤ unrisen b x slots
unrisen_less b x y [] h g = omega arith
unrisen_less b x y (slot ∷ slots) h g =
    let rest = unrisen_less b x y slots h g in
    elim (cases_Bool (rose_at b x slot)) [
      | inl rose ↦
          let still : rose_at b y slot ≡ true = rise_stays (fault_count b slot) (fault_count x slot) (fault_count y slot)
          (falls_at b.faults x.faults slot h) (falls_at x.faults y.faults slot g) rose in
          omega (arith, rest, unrisen_yes b x slot slots rose, unrisen_yes b y slot slots still)
      | inr low ↦ omega (arith, rest, unrisen_no b x slot slots low, (unrisen_most b y slot slots).1)
    ]

each_if : (P : Known → Type 0) (test : Bool) (c : Known) → (test ≡ true → P c) → Each P (cond test (c ∷ []) [])
each_if P true c h = (h refl, tt)
each_if P false c h = tt

pub less_is : (a b : ℕ) → nat_lt a b ≡ true → a < b
less_is a b h = grind (arith, nat_tests)

sound_disk : (b : Known) (lane slot : ℕ) (slots : List ℕ) (x : Known) → Laid b lane slots x → slot < length x.faults → Laid b lane (slot ∷ slots) (raise_disk b slot x)
sound_disk b lane slot slots x h there =
    let n : ℕ = max (fault_count x slot) (next_count (fault_count b slot)) in
    let grown : NoneFalls x.faults (slice_set x.faults slot n) = falls_raised x.faults slot n (omega arith) in
    let is : fault_count (raise_disk b slot x) slot ≡ n = index_set x.faults slot n there in
    let rose : rose_at b (raise_disk b slot x) slot ≡ true = rise_made (fault_count b slot) (fault_count (raise_disk b slot x) slot) (omega (arith, is)) in
    let same = unrisen_yes b (raise_disk b slot x) slot slots rose in
    let less = unrisen_less b x (raise_disk b slot x) slots h.faults grown in
    record {
      volumes = h.volumes;
      directory = h.directory;
      drained = h.drained;
      fuses = h.fuses;
      faults = falls_trans b.faults x.faults (slice_set x.faults slot n) h.faults grown;
      arms = h.arms;
      passed = elim h.passed [
        | inl sum ↦ inl (omega (arith, sum, same, less))
        | inr top ↦ inr top
      ];
    }

sound_arm : (b : Known) (lane slot : ℕ) (slots : List ℕ) (x : Known) → Laid b lane slots x → lane < length x.arms → Laid b lane (slot ∷ slots) (raise_arm lane x)
sound_arm b lane slot slots x h there =
    let n : ℕ = next_count (arm_count x lane) in
    let grown : NoneFalls x.arms (slice_set x.arms lane n) = falls_raised x.arms lane n (next_least (arm_count x lane)) in
    let is : arm_count (raise_arm lane x) lane ≡ n = index_set x.arms lane n there in
    let most : unrisen b (raise_arm lane x) (slot ∷ slots) ≤ 1 + unrisen b x slots = (unrisen_most b x slot slots).1 in
    record {
      volumes = h.volumes;
      directory = h.directory;
      drained = h.drained;
      fuses = h.fuses;
      faults = h.faults;
      arms = falls_trans b.arms x.arms (slice_set x.arms lane n) h.arms grown;
      passed = elim (next_moves (arm_count x lane)) [
        | inl more ↦ elim h.passed [
          | inl sum ↦ inl (omega (arith, sum, most, more, is))
          | inr top ↦ inr (is ∙ ap next_count top)
        ]
        | inr top ↦ inr (is ∙ top.1)
      ];
    }

each_map : (P Q : Known → Type 0) (b : Known) (lane slot : ℕ) (cs : List Known) → ((c : Known) → P c → Each Q (on_disk b slot c ++ on_arm lane c))
    → Each P cs → Each Q (laid_once b lane slot cs)
each_map P Q b lane slot [] step h = tt
each_map P Q b lane slot (c ∷ cs) step h =
    each_both Q (on_disk b slot c ++ on_arm lane c) (laid_once b lane slot cs) (step c h.0) (each_map P Q b lane slot cs step h.1)

pub laid_sound : (b : Known) (lane : ℕ) (slots : List ℕ) → Each (Laid b lane slots) (laid b lane slots)
laid_sound b lane [] = (
  record {
    volumes = refl;
    directory = refl;
    drained = refl;
    fuses = refl;
    faults = falls_refl b.faults;
    arms = falls_refl b.arms;
    passed = inl (omega arith);
  },
  tt,
)
laid_sound b lane (slot ∷ slots) =
    each_map (Laid b lane slots) (Laid b lane (slot ∷ slots)) b lane slot (laid b lane slots)
    (λ x h. each_both (Laid b lane (slot ∷ slots)) (on_disk b slot x) (on_arm lane x)
    (each_if (Laid b lane (slot ∷ slots)) (nat_lt slot (length x.faults)) (raise_disk b slot x) (λ there. sound_disk b lane slot slots x h (less_is slot (length x.faults) there)))
    (each_if (Laid b lane (slot ∷ slots)) (nat_lt lane (length x.arms)) (raise_arm lane x) (λ there. sound_arm b lane slot slots x h (less_is lane (length x.arms) there))))
    (laid_sound b lane slots)
