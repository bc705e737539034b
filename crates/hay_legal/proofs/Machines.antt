-- The replicas of a volume are on machines of their own, and which of them a machine has.
use Rattle.std.proofs.Common.{◌≡◌, ℕ, ◌+◌, ◌*◌, ◌/◌, ◌%◌, ◌<◌, ◌≤◌, inl, inr, Bool, false, Some, None, refl, sym, ap, ◌∙◌, arith}
use Rattle.std.specs.Prelude.{◌==◌, find, nat_lt}
use Rattle.std.specs.List.{range_with_len}
use Rattle.std.proofs.Math.Nat.{mul-le-mul_left}
use Rattle.std.proofs.lemmas.Bool.{cases_order, cond-true, cond-false, eq-eqb, le-ltb, lt-ltb, ne_eqb}
use Rattle.hay_needle.specs.declared.settings.Settings.{Settings}
use Rattle.hay_legal.specs.Known.{machine_of, replica_on}
use Rattle.hay_legal.proofs.Finds.{find-hit, find-none}

lesser : (m q p : ℕ) → q < p → m * q + m ≤ m * p
lesser m q p less = let up : q + 1 ≤ p = omega arith in omega (arith, mul-le-mul_left m up)

pub same_machine : (m v i j : ℕ) → i < m → j < m → (v + i) % m ≡ (v + j) % m → i ≡ j
same_machine m v i j low high same =
    elim (cases_order ((v + i) / m) ((v + j) / m)) [
      | inl eq ↦ let e : m * ((v + i) / m) ≡ m * ((v + j) / m) = ap (λ q. m * q) eq in omega (arith, e, same)
      | inr (inl less) ↦ let e = lesser m ((v + i) / m) ((v + j) / m) less in absurd (omega (arith, e, same))
      | inr (inr more) ↦ let e = lesser m ((v + j) / m) ((v + i) / m) more in absurd (omega (arith, e, same))
    ]

-- a replica is found by its machine
pub replica_found : (settings : Settings) (v j : ℕ) → v < settings.volumes → j < settings.replicas → settings.replicas ≤ settings.machines → replica_on settings v (machine_of settings v j) ≡ Some j
replica_found settings v j volume within few =
    cond-true (nat_lt v settings.volumes) (find (λ i. machine_of settings v i == machine_of settings v j) (range_with_len 0 settings.replicas)) None (lt-ltb v settings.volumes volume)
    ∙ find-hit (λ i. machine_of settings v i == machine_of settings v j) settings.replicas 0 j (omega arith) (omega arith) (eq-eqb (machine_of settings v j) (machine_of settings v j) refl)
    (λ i from below. ne_eqb (machine_of settings v i) (machine_of settings v j)
    (λ same. let e = same_machine settings.machines v i j (omega arith) (omega arith) same in absurd (omega (arith, e, below))))

-- one number more for which a test fails
pub below_next : (test : ℕ → Bool) (j : ℕ) → ((i : ℕ) → i < j → test i ≡ false) → test j ≡ false → (i : ℕ) → i < j + 1 → test i ≡ false
below_next test j below here i low =
    elim (cases_order i j) [
      | inl same ↦ ap test same ∙ here
      | inr (inl less) ↦ below i less
      | inr (inr more) ↦ absurd (omega arith)
    ]

pub replica_hit : (settings : Settings) (v m j : ℕ) → v < settings.volumes → j < settings.replicas → machine_of settings v j ≡ m → ((i : ℕ) → i < j → (machine_of settings v i == m) ≡ false)
    → Some j ≡ replica_on settings v m
replica_hit settings v m j volume within is others =
    let test : ℕ → Bool = λ i. machine_of settings v i == m in
    sym (cond-true (nat_lt v settings.volumes) (find test (range_with_len 0 settings.replicas)) None (lt-ltb v settings.volumes volume)
    ∙ find-hit test settings.replicas 0 j (omega arith) (omega arith) (eq-eqb (machine_of settings v j) m is) (λ i from below. others i below))

pub replica_none : (settings : Settings) (v m : ℕ) → v < settings.volumes → ((i : ℕ) → i < settings.replicas → (machine_of settings v i == m) ≡ false) → None ≡ replica_on settings v m
replica_none settings v m volume others =
    let test : ℕ → Bool = λ i. machine_of settings v i == m in
    sym (cond-true (nat_lt v settings.volumes) (find test (range_with_len 0 settings.replicas)) None (lt-ltb v settings.volumes volume)
    ∙ find-none test settings.replicas 0 (λ i from below. others i (omega arith)))

pub no_volume : (settings : Settings) (v m : ℕ) → settings.volumes ≤ v → None ≡ replica_on settings v m
no_volume settings v m beyond = sym (cond-false (nat_lt v settings.volumes) (find (λ i. machine_of settings v i == m) (range_with_len 0 settings.replicas)) None (le-ltb v settings.volumes beyond))
