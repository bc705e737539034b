-- A replica whose compaction ended among the others.
use Rattle.std.proofs.Common.{◌≡◌, inl, inr, ℕ, ◌<◌, true, false, List, length, None, sym, subst, ◌∙◌, arith}
use Rattle.std.specs.Prelude.{slice_set, Result, Ok, Err, OnErr}
use Rattle.std.proofs.lemmas.Bool.{cases_Bool}
use Rattle.hay_disk.specs.Disk.{Files}
use Rattle.hay_map.specs.MapRows.{MapRows}
use Rattle.hay_physical.specs.declared.fault.ReplicaFault.TheVariants as fault
use Rattle.hay_physical.specs.OpenCopies.{Copy, IsFrozen, IsUp, goal_of, is_frozen}
use Rattle.hay_logical.specs.declared.runs.NewFiles.{NewFiles}
use Rattle.hay_logical.specs.declared.runs.Unswapped.{Unswapped}
use Rattle.hay_logical.specs.declared.runs.Unswapped.TheVariants.{Refused, Unsure}
use Rattle.hay_logical.specs.Fits.{At}
use Rattle.hay_logical.specs.ReplicaCalls.{AllIdle, LosesRun, Start, StaysInReach, SwapsAt, SwapsOne}
use Rattle.hay_logical.proofs.Calls.{frozen_is, not_both, open_frozen, up_thawed}
use Rattle.hay_logical.proofs.Lists.{at_below, at_same, at_set_other, at_set_same, at_there, length-slice_set}

module _ {D P : Type 0} (DiskTells : Type 0) (files : D → Files) (faults : D → ℕ) (Tells : Type 0) (start : Start) (rows rows' : MapRows P) (at : ℕ) where
  -- where it takes no changes no compaction stands
  idle_frozen : (r y : Copy D) (result : Result (NewFiles P) Unswapped) → IsUp r → IsFrozen y → SwapsAt DiskTells files faults Tells start rows rows' at r y result → goal_of y ≡ None
  idle_frozen r y (Ok n) up frozen swaps = (swaps.up).2
  idle_frozen r y (Err (Refused (fault.Failed n))) up frozen swaps = (swaps.left).1
  idle_frozen r y (Err (Refused (fault.Damaged n))) up frozen swaps = (swaps.left).1
  idle_frozen r y (Err (Refused fault.NoMemory)) up frozen swaps = (swaps.left).1
  idle_frozen r y (Err (Refused (fault.Busy goal))) up frozen swaps = absurd (not_both y (subst (λ (x : Copy D). IsUp x) (sym (swaps.left).2) up) frozen)
  idle_frozen r y (Err (Refused fault.Worn)) up frozen swaps = absurd (not_both y (subst (λ (x : Copy D). IsUp x) (sym (swaps.left).3) up) frozen)
  idle_frozen r y (Err (Refused fault.Frozen)) up frozen swaps = absurd swaps.left
  idle_frozen r y (Err (Refused (fault.Full end need capacity))) up frozen swaps = absurd swaps.left
  idle_frozen r y (Err (Refused (fault.Ended n))) up frozen swaps = absurd swaps.left
  idle_frozen r y (Err (Unsure n)) up frozen swaps = (swaps.left).1

  module _ (old new : List (Copy D)) (r y : Copy D) (result : Result (NewFiles P) Unswapped) (was : At old at r) (up : IsUp r)
      (swaps : SwapsAt DiskTells files faults Tells start rows rows' at r y result)
      (count : length new ≡ length (slice_set old at y))
      (each : (j : ℕ) (a b : Copy D) → At (slice_set old at y) j a → At new j b → LosesRun DiskTells files a b)
      (still : (a : Copy D) → At (slice_set old at y) at a → is_frozen a ≡ false → new ≡ slice_set old at y)
      (idle : (a : Copy D) → At (slice_set old at y) at a → is_frozen a ≡ true → AllIdle new) where
    here : At (slice_set old at y) at y
    here = at_set_same old at y (at_below old at r was)

    stays : (b : Copy D) → At new at b → b ≡ y
    stays b f = elim (cases_Bool (is_frozen y)) [
      | inl froze ↦ (each at y b here f).idle (idle_frozen r y result up (open_frozen y swaps.«open» froze) swaps)
      | inr thawed ↦ at_same (slice_set old at y) at b y (subst (λ xs. At xs at b) (still y here thawed) f) here
    ]

    there : At new at y
    there =
        let low = at_below old at r was in
        let long = length-slice_set old at y in
        let is = at_there new at (let less : at < length new = omega (arith, low, long, count) in less) in
        subst (λ (x : Copy D). At new at x) (stays is.0 is.1) is.1

    pub swaps_one : SwapsOne DiskTells files at old new
    swaps_one = record {
      before = r;
      after = y;
      was = was;
      is = there;
      count = count ∙ length-slice_set old at y;
      others = λ j a b apart e f.
          let e' : At (slice_set old at y) j a = at_set_other old j at y apart ∙ e in (
            each j a b e' f,
            λ u. at_same (slice_set old at y) j b a (subst (λ xs. At xs j b) (still y here (up_thawed y u)) f) e',
          );
      idle = λ frozen. idle y here (frozen_is y frozen);
    }

    pub called_there : (Q : Copy D → Copy D → Type 0) → Q r y → (a b : Copy D) → At old at a → At new at b → Q a b
    called_there Q is a b e f = subst (λ (x : Copy D). Q x b) (at_same old at r a was e) (subst (λ (x : Copy D). Q r x) (sym (stays b f)) is)

    pub swaps_there : (a b : Copy D) → At old at a → At new at b → SwapsAt DiskTells files faults Tells start rows rows' at a b result
    swaps_there = called_there (λ a b. SwapsAt DiskTells files faults Tells start rows rows' at a b result) swaps

    pub stays_there : OnErr result (StaysInReach DiskTells files r y) → (a b : Copy D) → At old at a → At new at b → OnErr result (StaysInReach DiskTells files a b)
    stays_there = called_there (λ a b. OnErr result (StaysInReach DiskTells files a b))
