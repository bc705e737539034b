-- Which of a volume's machines are drained, and whether one closes it.
use Rattle.std.proofs.Common.{◌≡◌, true, false, ℕ, zero, suc, ◌+◌, ◌<◌, ◌≤◌, Bool, map, Option, Some, None, inl, inr, refl, sym, subst, arith}
use Rattle.std.specs.Prelude.{IfNone, IfSome, find}
use Rattle.std.specs.List.{range_with_len}
use Rattle.std.proofs.lemmas.Option.{IfSome_then}
use Rattle.std.proofs.lemmas.Bool.{cases_Bool, cond-true, cond-false}
use Rattle.hay_needle.specs.declared.settings.Settings.{Settings}
use Rattle.hay_legal.specs.Known.{machine_of, replicas_of}
use Rattle.hay_cluster.specs.Seen.{Closes, IsOpenTo, IsThawed, StoreSeen, is_drained}
use Rattle.hay_legal.proofs.Machines.{below_next}

none_then : {X : Type 0} {Q R : Type 0} (o : Option X) → IfNone o Q → (Q → R) → IfNone o R
none_then None q onwards = onwards q
none_then (Some x) q onwards = tt

-- the first of some values, of so many, that passes a test
abbrev IsFirst : (ℕ → Bool) → (ℕ → ℕ) → ℕ → ℕ → Type 0
IsFirst test g top x = (j : ℕ) × (j < top) × (x ≡ g j) × (test x ≡ true) × ((i : ℕ) → i < j → test (g i) ≡ false)

first_found : (test : ℕ → Bool) (g : ℕ → ℕ) (top at n : ℕ) → at + n ≤ top → ((i : ℕ) → i < at → test (g i) ≡ false)
    → IfSome (find test (map g (range_with_len at n))) (IsFirst test g top)
first_found test g top at zero low below = tt
first_found test g top at (suc n) low below =
    let rest = find test (map g (range_with_len (at + 1) n)) in
    elim (cases_Bool (test (g at))) [
      | inl passes ↦ let within : at < top = omega (arith, low) in
          subst (λ (o : Option ℕ). IfSome o (IsFirst test g top)) (sym (cond-true (test (g at)) (Some (g at)) rest passes)) (at, within, refl, passes, below)
      | inr fails ↦ subst (λ (o : Option ℕ). IfSome o (IsFirst test g top)) (sym (cond-false (test (g at)) (Some (g at)) rest fails))
          (first_found test g top (at + 1) n (omega (arith, low)) (below_next (λ i. test (g i)) at below fails))
    ]

none_found : (test : ℕ → Bool) (g : ℕ → ℕ) (top at n : ℕ) → at + n ≡ top → ((i : ℕ) → i < at → test (g i) ≡ false)
    → IfNone (find test (map g (range_with_len at n))) ((i : ℕ) → i < top → test (g i) ≡ false)
none_found test g top at zero all below = λ i low. below i (omega (arith, low, all))
none_found test g top at (suc n) all below =
    let rest = find test (map g (range_with_len (at + 1) n)) in
    let None_fails : Type 0 = (i : ℕ) → i < top → test (g i) ≡ false in
    elim (cases_Bool (test (g at))) [
      | inl passes ↦ subst (λ (o : Option ℕ). IfNone o None_fails) (sym (cond-true (test (g at)) (Some (g at)) rest passes)) tt
      | inr fails ↦ subst (λ (o : Option ℕ). IfNone o None_fails) (sym (cond-false (test (g at)) (Some (g at)) rest fails))
          (none_found test g top (at + 1) n (omega (arith, all)) (below_next (λ i. test (g i)) at below fails))
    ]

module _ (settings : Settings) (seen : StoreSeen) (v : ℕ) (thawed : IsThawed seen v) where
  pub drained_closes : IfSome (find (is_drained seen) (map (machine_of settings v) (replicas_of settings))) (Closes settings seen v)
  drained_closes = IfSome_then (find (is_drained seen) (map (machine_of settings v) (replicas_of settings)))
      (first_found (is_drained seen) (machine_of settings v) settings.replicas 0 settings.replicas (omega arith) (λ i low. absurd (omega (arith, low))))
      (λ m is. inr (thawed, record { replica = is.0; within = is.1; machine = is.2; drained = is.3; lowest = is.4 }))

  pub undrained_opens : IfNone (find (is_drained seen) (map (machine_of settings v) (replicas_of settings))) (IsOpenTo settings seen v)
  undrained_opens = none_then (find (is_drained seen) (map (machine_of settings v) (replicas_of settings)))
      (none_found (is_drained seen) (machine_of settings v) settings.replicas 0 settings.replicas (omega arith) (λ i low. absurd (omega (arith, low))))
      (λ none. (thawed, none))
