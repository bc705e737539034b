-- What examining cells, one after another, makes of what is known.
use Rattle.std.proofs.Common.{◌≡◌, ℕ, zero, suc, ◌+◌, ◌-◌, ◌<◌, ◌≤◌, List, [], ◌∷◌, length, Option, Some, None, refl, sym, ap, subst, ◌∙◌, arith}
use Rattle.std.specs.Prelude.{min, slice_set}
use Rattle.std.proofs.lemmas.Option.{none-some}
use Rattle.hay_disk.specs.Disk.{Files}
use Rattle.hay_needle.specs.declared.settings.Settings.{Settings}
use Rattle.hay_legal.specs.declared.known.ReplicaKnown.{ReplicaKnown}
use Rattle.hay_legal.specs.declared.known.Run.{Run}
use Rattle.hay_legal.specs.declared.known.VolumeKnown.{VolumeKnown}
use Rattle.hay_legal.specs.Known.{empty_replica, machine_of, replica_at}
use Rattle.hay_legal.specs.Plain.{stepped, with_run, without_run}
use Rattle.hay_logical.specs.Answers.{HasFailed, IsRunFault, IsStepped, StandsStepped, StepRefused, change_at}
use Rattle.hay_logical.specs.declared.fault.LogicalFault.{LogicalFault}
use Rattle.hay_logical.specs.declared.fault.LogicalFault.TheVariants.{Busy, Damaged, Failed, Full, Gone, Idle, NoMemory, ReadOnly, Worn}
use Rattle.hay_logical.specs.Fits.{At}
use Rattle.hay_logical.specs.Stands.{Stands}
use Rattle.hay_logical.specs.Volumes.{IsMachineOf, IsSame, KeepsCounts, Volume}
use Rattle.hay_logical.proofs.Changing.{set_back}
use Rattle.hay_logical.proofs.Examining.{rose_later}
use Rattle.hay_logical.proofs.Knowing.{changed_here}
use Rattle.hay_logical.proofs.Lists.{at_below, at_read, at_same, at_there}
use Rattle.hay_physical.specs.OpenCopies.{Copy}
use Rattle.hay_volume_lock.specs.Compactions.{Examines, StillGoes}

some_is : {A : Type 0} {a b : A} → Some a ≡ Some b → a ≡ b
some_is same = cc same

set_again : {X : Type 0} (xs : List X) (j : ℕ) (x y : X) → slice_set (slice_set xs j x) j y ≡ slice_set xs j y
set_again [] j x y = refl
set_again (z ∷ xs) zero x y = refl
set_again (z ∷ xs) (suc j) x y = ap (λ l. z ∷ l) (set_again xs j x y)

-- each replica is known
pub all_known : {D P : Type 0} (files : D → Files) (Tells : Type 0) (volume : Volume D P) (k : VolumeKnown) → Stands files Tells volume k → length k.replicas ≡ (volume.settings).replicas
unfolding Stands
all_known files Tells volume k stands = stands.many

module _ (k : VolumeKnown) (j : ℕ) (run : Run) (there : j < length k.replicas) where
  -- behind so many cells
  abbrev pub behind : ℕ → VolumeKnown
  behind n = change_at k j (with_run (stepped n run))

  changed_twice : (n : ℕ) (change : ReplicaKnown → ReplicaKnown)
      → change_at (behind n) j change ≡ record k { replicas = slice_set k.replicas j (change (with_run (stepped n run) (replica_at k j))) }
  changed_twice n change =
      ap (λ (r : ReplicaKnown). record k { replicas = slice_set (slice_set k.replicas j (with_run (stepped n run) (replica_at k j))) j (change r) }) (changed_here k j (with_run (stepped n run)) there)
      ∙ ap (λ (l : List ReplicaKnown). record k { replicas = l }) (set_again k.replicas j (with_run (stepped n run) (replica_at k j)) (change (with_run (stepped n run) (replica_at k j))))

  pub behind_none : (replica_at k j).run ≡ Some run → behind 0 ≡ k
  behind_none stood =
      let none : run.left - 0 ≡ run.left = omega arith in
      let same : with_run (stepped 0 run) (replica_at k j) ≡ replica_at k j =
      ap (λ (l : ℕ). record (replica_at k j) { run = Some (record run { left = l }) }) none ∙ ap (λ (o : Option Run). record (replica_at k j) { run = o }) (sym stood) in
      ap (λ (r : ReplicaKnown). record k { replicas = slice_set k.replicas j r }) same
      ∙ ap (λ (l : List ReplicaKnown). record k { replicas = l }) (set_back k.replicas j (replica_at k j) (at_read k.replicas j empty_replica there))

  pub run_behind : (n : ℕ) → (replica_at (behind n) j).run ≡ Some (stepped n run)
  run_behind n = ap (λ (r : ReplicaKnown). r.run) (changed_here k j (with_run (stepped n run)) there)

  pub behind_more : (n m : ℕ) → change_at (behind n) j (with_run (stepped m (stepped n run))) ≡ behind (n + m)
  behind_more n m =
      let both : run.left - n - m ≡ run.left - (n + m) = omega arith in
      changed_twice n (with_run (stepped m (stepped n run)))
      ∙ ap (λ (l : ℕ). record k { replicas = slice_set k.replicas j (with_run (record run { left = l }) (replica_at k j)) }) both

  pub ended_behind : (n : ℕ) → change_at (behind n) j without_run ≡ change_at k j without_run
  ended_behind n = changed_twice n without_run

-- a refusal behind which a step goes on
pub wanted : (fault : LogicalFault) → StillGoes (Some fault) → fault ≡ NoMemory
wanted NoMemory still = refl
wanted (Failed m f) still = absurd still
wanted (ReadOnly m) still = absurd still
wanted Idle still = absurd still
wanted (Damaged m at) still = absurd still
wanted (Full m end need capacity) still = absurd still
wanted (Gone front) still = absurd still
wanted (Busy m g) still = absurd still
wanted (Worn m) still = absurd still

-- TWO CALLS, ONE BEHIND THE OTHER

pub counts_none : {D : Type 0} (faults fuses : D → ℕ) (replicas : List (Copy D)) → KeepsCounts faults fuses replicas replicas
counts_none faults fuses replicas = record {
  count = refl;
  rises = λ j r r' e f. let same = at_same replicas j r r' e f in (let le : faults r.disk ≤ faults r'.disk = subst (λ (x : Copy _). faults r.disk ≤ faults x.disk) same (omega arith) in le);
  stay = λ j r r' e f. ap (λ (x : Copy _). fuses x.disk) (sym (at_same replicas j r r' e f));
}

module _ {D P : Type 0} (faults fuses : D → ℕ) (old mid new : Volume D P) where
  pub counts_after : KeepsCounts faults fuses old.replicas mid.replicas → KeepsCounts faults fuses mid.replicas new.replicas → KeepsCounts faults fuses old.replicas new.replicas
  counts_after first then_kept = record {
    count = then_kept.count ∙ first.count;
    rises = λ j r r' e f.
        let x = between j r e in
        let low = first.rises j r x.0 e x.1 in
        let high = then_kept.rises j x.0 r' x.1 f in
        (let le : faults r.disk ≤ faults r'.disk = omega (arith, low, high) in le);
    stay = λ j r r' e f. let x = between j r e in then_kept.stay j x.0 r' x.1 f ∙ first.stay j r x.0 e x.1;
  }
    where
      between : (j : ℕ) (r : Copy D) → At old.replicas j r → (x : Copy D) × At mid.replicas j x
      between j r e = at_there mid.replicas j (subst (λ (n : ℕ). j < n) (sym first.count) (at_below old.replicas j r e))

  pub same_after : length mid.replicas ≡ length old.replicas → IsSame old mid → IsSame mid new → IsSame old new
  same_after count first then_same = record {
    settings = then_same.settings ∙ first.settings;
    number = then_same.number ∙ first.number;
    sups = λ j r r' e f.
        let x = at_there mid.replicas j (subst (λ (n : ℕ). j < n) (sym count) (at_below old.replicas j r e)) in
        then_same.sups j x.0 r' x.1 f ∙ first.sups j r x.0 e x.1;
  }

  pub others_after : KeepsCounts faults fuses old.replicas mid.replicas → (n : ℕ)
      → ((j : ℕ) → (j ≡ n → ⊥) → (r r' : Copy D) → At old.replicas j r → At mid.replicas j r' → r' ≡ r)
      → ((j : ℕ) → (j ≡ n → ⊥) → (r r' : Copy D) → At mid.replicas j r → At new.replicas j r' → r' ≡ r)
      → (j : ℕ) → (j ≡ n → ⊥) → (r r' : Copy D) → At old.replicas j r → At new.replicas j r' → r' ≡ r
  others_after kept n first then_others j other r r' e f =
      let x = at_there mid.replicas j (subst (λ (i : ℕ). j < i) (sym kept.count) (at_below old.replicas j r e)) in
      then_others j other x.0 r' x.1 f ∙ first j other r x.0 e x.1

  -- what failed in the second one failed in both
  failed_after : KeepsCounts faults fuses old.replicas mid.replicas → IsSame old mid → (m count : ℕ)
      → HasFailed faults mid.settings mid.number mid.replicas new.replicas m count → HasFailed faults old.settings old.number old.replicas new.replicas m count
  failed_after kept same m count failed =
      let was = at_there old.replicas failed.replica (subst (λ (n : ℕ). failed.replica < n) kept.count (at_below mid.replicas failed.replica failed.before failed.was)) in
      record {
        replica = failed.replica;
        within = subst (λ (s : Settings). failed.replica < s.replicas) same.settings failed.within;
        before = was.0;
        after = failed.after;
        was = was.1;
        is = failed.is;
        machine = failed.machine ∙ ap (λ (s : Settings). machine_of s mid.number failed.replica) same.settings ∙ ap (λ (v : ℕ). machine_of old.settings v failed.replica) same.number;
        rose = rose_later (faults (was.0).disk) (faults (failed.before).disk) (faults (failed.after).disk) (kept.rises failed.replica was.0 failed.before was.1 failed.was) failed.rose;
        printed = failed.printed;
      }

  pub fault_after : KeepsCounts faults fuses old.replicas mid.replicas → IsSame old mid → (j : ℕ) (fault : LogicalFault)
      → IsRunFault faults mid.settings mid.number j mid.replicas new.replicas fault → IsRunFault faults old.settings old.number j old.replicas new.replicas fault
  fault_after kept same j (Failed m f) cause = (
    cause.0 ∙ ap (λ (s : Settings). machine_of s mid.number j) same.settings ∙ ap (λ (v : ℕ). machine_of old.settings v j) same.number,
    failed_after kept same m f cause.1,
  )
  fault_after kept same j (ReadOnly m) cause =
      subst (λ (s : Settings). IsMachineOf s old.number m) same.settings (subst (λ (v : ℕ). IsMachineOf mid.settings v m) same.number cause)
  fault_after kept same j Idle cause = tt
  fault_after kept same j (Damaged m at) cause = cause ∙ ap (λ (s : Settings). machine_of s mid.number j) same.settings ∙ ap (λ (v : ℕ). machine_of old.settings v j) same.number
  fault_after kept same j NoMemory cause = tt
  fault_after kept same j (Full m end need capacity) cause = cause
  fault_after kept same j (Gone front) cause = cause
  fault_after kept same j (Busy m g) cause = cause
  fault_after kept same j (Worn m) cause = cause

-- CELLS, ONE AFTER ANOTHER

module _ {D P : Type 0} (files : D → Files) (Tells : Type 0) (k : VolumeKnown) (j : ℕ) (run : Run) (there : j < length k.replicas) where
  -- one more, if one is left
  pub one_more : (n more : ℕ) (new : Volume D P) → IsStepped files Tells (behind k j run there n) j 1 more new
      → (more ≡ min 1 (run.left - n)) × StandsStepped files Tells k j run (n + more) new
  one_more n more new step =
      let same : stepped n run ≡ step.run = some_is (sym (run_behind k j run there n) ∙ step.stood) in (
        step.number ∙ ap (λ (r : Run). min 1 r.left) (sym same),
        subst (λ (z : VolumeKnown). Stands files Tells new z)
            (ap (λ (r : Run). change_at (behind k j run there n) j (with_run (stepped more r))) (sym same) ∙ behind_more k j run there n more) step.stands,
      )

  -- or why it was not
  pub none_more : (n cells : ℕ) (old mid new : Volume D P) (fault : LogicalFault) → IsSame old mid → k.frozen ≡ None → n ≤ run.left → n < cells → StandsStepped files Tells k j run n mid
      → StepRefused files Tells (behind k j run there n) j 1 mid new fault → Examines files Tells k j run cells old new n (Some fault)
  none_more n cells old mid new (Failed m f) same thawed few less stands refused = (
    refused.1 ∙ ap (λ (s : Settings). machine_of s mid.number j) same.settings ∙ ap (λ (v : ℕ). machine_of old.settings v j) same.number,
    subst (λ (z : VolumeKnown). Stands files Tells new z) (ended_behind k j run there n) refused.3,
  )
  none_more n cells old mid new NoMemory same thawed few less stands refused =
      let at = refused.1 in
      let is : stepped n run ≡ at.0 = some_is (sym (run_behind k j run there n) ∙ at.2) in
      let none : at.1 ≡ 0 = (let most = at.3 in omega (arith, most)) in (
        (let le : n ≤ min cells run.left = omega (arith, few, less) in le),
        subst (λ (z : VolumeKnown). Stands files Tells new z)
            (ap (λ (r : Run). change_at (behind k j run there n) j (with_run (stepped at.1 r))) (sym is)
            ∙ ap (λ (i : ℕ). change_at (behind k j run there n) j (with_run (stepped i (stepped n run)))) none
            ∙ behind_more k j run there n 0 ∙ ap (behind k j run there) (let e : n + 0 ≡ n = omega arith in e)) at.4,
      )
  none_more n cells old mid new (ReadOnly m) same thawed few less stands refused = none-some m (sym thawed ∙ refused.0)
  none_more n cells old mid new Idle same thawed few less stands refused = none-some (stepped n run) (sym refused.1 ∙ run_behind k j run there n)
  none_more n cells old mid new (Damaged m at) same thawed few less stands refused = refused
  none_more n cells old mid new (Full m end need capacity) same thawed few less stands refused = refused
  none_more n cells old mid new (Gone front) same thawed few less stands refused = refused
  none_more n cells old mid new (Busy m g) same thawed few less stands refused = refused
  none_more n cells old mid new (Worn m) same thawed few less stands refused = refused
