-- How a compaction of a replica begins.
use Rattle.std.proofs.Common.{◌≡◌, inl, inr, ℕ, ◌+◌, ◌<◌, ◌≤◌, true, length, Option, Some, None, refl, sym, ap, ◌∙◌, arith}
use Rattle.std.specs.Prelude.{Result, Ok, Err, IfOk, IfErr, OnErr, OnOk}
use Rattle.std.proofs.lemmas.Bool.{cases_lt}
use Rattle.hay_needle.specs.declared.settings.TheConstants.{LAST_GENERATION}
use Rattle.hay_disk.specs.Disk.{Files}
use Rattle.hay_open.specs.Stored.{Stored}
use Rattle.hay_physical.specs.declared.fault.ReplicaFault.{ReplicaFault}
use Rattle.hay_physical.specs.declared.fault.ReplicaFault.TheVariants as fault
use Rattle.hay_physical.specs.OpenCopies.{Copy, IsFrozen, IsOpenCopy, IsUp, KeepsHead, generation_of, goal_of, is_frozen, is_stuck, next_of, phase_goal}
use Rattle.hay_physical.specs.Faults as physical_faults
use Rattle.hay_physical.specs.Replicas as physical
use Rattle.hay_physical.specs.CompactionRuns.{HasRun, Run}
use Rattle.hay_logical.specs.declared.runs.Unswapped.TheVariants.{Refused}
use Rattle.hay_logical.specs.ReplicaCalls.{BeginsAt, HoldsUnswapped, IsBeginFault, IsLeftBy, StaysInReach}
use Rattle.hay_logical.specs.ReplicaCalls.Start.{Fresh}
use Rattle.hay_logical.specs.Seen.{BeginsTo, ChangesRun, replica_seen}
use Rattle.hay_logical.proofs.Calls.{not_both, still_up}
use Rattle.hay_logical.proofs.Seen.{run_begun}

module _ {D : Type 0} (DiskTells : Type 0) (files : D → Files) (faults : D → ℕ) (r x : Copy D) (result : Result ℕ ReplicaFault) (up : IsUp r) where
  abbrev Busies : Type 0
  Busies = (goal : ℕ) → IsUp r → goal_of r ≡ Some goal → (result ≡ Err (fault.Busy goal)) × (x ≡ r)

  abbrev Wears : Type 0
  Wears = IsUp r → goal_of r ≡ None → LAST_GENERATION ≤ generation_of r → (result ≡ Err fault.Worn) × (x ≡ r)

  -- none stood, and the generation was not the last one
  rests : Busies → Wears → ((goal : ℕ) → result ≡ Err (fault.Busy goal) → ⊥) → (result ≡ Err fault.Worn → ⊥) → (goal_of r ≡ None) × (generation_of r < LAST_GENERATION)
  rests busy worn not_busy not_worn = (
    none (goal_of r) refl,
    elim (cases_lt (generation_of r) LAST_GENERATION) [
      | inl less ↦ less
      | inr most ↦ absurd (not_worn (worn up (none (goal_of r) refl) most).0)
    ],
  )
    where
      none : (o : Option ℕ) → goal_of r ≡ o → goal_of r ≡ None
      none None e = e
      none (Some goal) e = absurd (not_busy goal (busy goal up e).0)

  cause_of : (f : ReplicaFault) → result ≡ Err f → Busies → Wears → (f ≡ fault.Frozen → IsFrozen r) → ((goal : ℕ) → f ≡ fault.Busy goal → goal_of r ≡ Some goal)
      → (f ≡ fault.Worn → (goal_of r ≡ None) × (generation_of r ≡ LAST_GENERATION))
      → physical_faults.IsBeginFault (faults r.disk) (faults x.disk) f → IsBeginFault faults r x f
  cause_of (fault.Failed n) is busy worn thawed idle most cause =
      let rest = rests busy worn (λ goal e. let wrong : Err (fault.Failed n) ≡ Err (fault.Busy goal) = sym is ∙ e in cc) (λ e. let wrong : Err (fault.Failed n) ≡ Err fault.Worn = sym is ∙ e in cc) in
      (cause.0, cause.1, rest.0, rest.1)
  cause_of fault.Frozen is busy worn thawed idle most cause = absurd (not_both r up (thawed refl))
  cause_of (fault.Full end need capacity) is busy worn thawed idle most cause = absurd cause
  cause_of (fault.Busy goal) is busy worn thawed idle most cause = (idle goal refl, (busy goal up (idle goal refl)).1)
  cause_of (fault.Ended n) is busy worn thawed idle most cause = absurd cause
  cause_of fault.Worn is busy worn thawed idle most cause = let m = most refl in let last = m.1 in (m.0, m.1, (worn up m.0 (omega (arith, last))).1)
  cause_of (fault.Damaged at) is busy worn thawed idle most cause = absurd cause
  cause_of fault.NoMemory is busy worn thawed idle most cause =
      rests busy worn (λ goal e. let wrong : Err fault.NoMemory ≡ Err (fault.Busy goal) = sym is ∙ e in cc) (λ e. let wrong : Err fault.NoMemory ≡ Err fault.Worn = sym is ∙ e in cc)

module _ {D : Type 0} (DiskTells : Type 0) (files : D → Files) (faults : D → ℕ) (r x : Copy D) where
  pub begins : (result : Result ℕ ReplicaFault) (up : IsUp r) → IsOpenCopy x → is_frozen x ≡ is_frozen r → x.sup ≡ r.sup → is_stuck x ≡ is_stuck r
      → (DiskTells → (s : Stored) → physical.Stands files r s → physical.Stands files x s) → StaysInReach DiskTells files r x → (DiskTells → KeepsHead files r x)
      → ((goal : ℕ) → IsUp r → goal_of r ≡ Some goal → (result ≡ Err (fault.Busy goal)) × (x ≡ r))
      → (IsUp r → goal_of r ≡ None → LAST_GENERATION ≤ generation_of r → (result ≡ Err fault.Worn) × (x ≡ r))
      → (result ≡ Err fault.Frozen → IsFrozen r) → ((goal : ℕ) → result ≡ Err (fault.Busy goal) → goal_of r ≡ Some goal)
      → (result ≡ Err fault.Worn → (goal_of r ≡ None) × (generation_of r ≡ LAST_GENERATION))
      → (DiskTells → (s : Stored) → physical.Stands files r s → result ≡ Err fault.Worn → s.generation ≡ LAST_GENERATION)
      → (DiskTells → (s : Stored) → physical.Stands files r s → IfOk result (λ goal. (goal ≡ s.generation + 1) × HasRun files x s (Some (record { goal = goal; left = length s.cells; tight = true }))))
      → IfOk result (λ goal. (goal ≡ generation_of r + 1) × (goal_of r ≡ None) × (goal_of x ≡ Some goal)) → OnErr result (x.phase ≡ r.phase)
      → IfErr result (physical_faults.IsBeginFault (faults r.disk) (faults x.disk)) → BeginsAt DiskTells files faults r x result
  begins (Ok goal) up is same sup stuck stands deletes head busy worn thawed idle most last begun goals kept causes = record {
    on = record { up = still_up r x is same up; sup = sup; stuck = stuck; stands = stands; reach = deletes; head = head };
    rest = rests DiskTells files faults r x (Ok goal) up busy worn (λ k e. cc) (λ e. cc);
    goal = goals.2;
    begun = begun;
    last = last;
    kept = tt;
    cause = tt;
  }
  begins (Err f) up is same sup stuck stands deletes head busy worn thawed idle most last begun goals kept causes = record {
    on = record { up = still_up r x is same up; sup = sup; stuck = stuck; stands = stands; reach = deletes; head = head };
    rest = tt;
    goal = tt;
    begun = begun;
    last = last;
    kept = ap phase_goal kept;
    cause = cause_of DiskTells files faults r x (Err f) up f refl busy worn (λ e. thawed (ap Err e)) (λ goal e. idle goal (ap Err e)) (λ e. most (ap Err e)) causes;
  }

  pub begin_seen : (result : Result ℕ ReplicaFault) → BeginsAt DiskTells files faults r x result
      → IfOk result (λ goal. (goal ≡ generation_of r + 1) × (goal_of r ≡ None) × (goal_of x ≡ Some goal)) → OnOk result (next_of x ≡ 64)
      → ChangesRun (replica_seen r) (replica_seen x) → IfOk result (λ goal. BeginsTo goal (replica_seen r) (replica_seen x))
  begin_seen (Ok goal) begins goals first changes = (begins.rest, goals.0, run_begun r x goal 64 changes goals.2 first)
  begin_seen (Err f) begins goals first changes = tt

  -- what a refusal leaves
  pub begin_left : (f : ReplicaFault) → IsUp x → goal_of x ≡ goal_of r → IsBeginFault faults r x f → IsLeftBy faults Fresh r x (Refused f)
  begin_left (fault.Failed n) up kept cause = (up, kept ∙ cause.2, (cause.2, cause.3), cause.0, cause.1)
  begin_left fault.Frozen up kept cause = absurd cause
  begin_left (fault.Full end need capacity) up kept cause = absurd cause
  begin_left (fault.Busy goal) up kept cause = (refl, cause.0, cause.1)
  begin_left (fault.Ended n) up kept cause = absurd cause
  begin_left fault.Worn up kept cause = (refl, cause.0, cause.1, cause.2)
  begin_left (fault.Damaged at) up kept cause = absurd cause
  begin_left fault.NoMemory up kept cause = (up, kept ∙ cause.0, cause)

  pub begin_holds : (s : Stored) (run : Run) (f : ReplicaFault) → physical.Stands files x s → is_stuck x ≡ is_stuck r → (f ≡ fault.Worn → s.generation ≡ LAST_GENERATION)
      → IsBeginFault faults r x f → HoldsUnswapped files r x s run (Refused f)
  begin_holds s run (fault.Failed n) stands stuck last cause = (stands, stuck)
  begin_holds s run fault.Frozen stands stuck last cause = absurd cause
  begin_holds s run (fault.Full end need capacity) stands stuck last cause = absurd cause
  begin_holds s run (fault.Busy goal) stands stuck last cause = (stands, stuck)
  begin_holds s run (fault.Ended n) stands stuck last cause = absurd cause
  begin_holds s run fault.Worn stands stuck last cause = last refl
  begin_holds s run (fault.Damaged at) stands stuck last cause = absurd cause
  begin_holds s run fault.NoMemory stands stuck last cause = (stands, stuck)
