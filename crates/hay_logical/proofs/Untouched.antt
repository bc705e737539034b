-- Refusals that come before anything was done leave all as it was.
use Rattle.std.proofs.Common.{◌≡◌, inl, inr, ℕ, suc, ◌<◌, true, List, [], ◌∷◌, length, Option, None, refl, sym, ap, subst, ◌∙◌, arith}
use Rattle.std.specs.Prelude.{slice_set, Err}
use Rattle.std.proofs.lemmas.Bool.{cases_eq}
use Rattle.hay_needle.specs.declared.settings.Settings.{Settings}
use Rattle.hay_disk.specs.Disk.{Files}
use Rattle.hay_map.specs.MapRows.{MapRows}
use Rattle.hay_physical.specs.declared.fault.ReplicaFault.{ReplicaFault}
use Rattle.hay_physical.specs.declared.fault.ReplicaFault.TheVariants as fault
use Rattle.hay_physical.specs.OpenCopies.{Copy, is_stuck}
use Rattle.hay_logical.specs.declared.fault.LogicalFault.TheVariants as logical
use Rattle.hay_logical.specs.declared.runs.Unswapped.{Unswapped}
use Rattle.hay_logical.specs.declared.runs.Unswapped.TheVariants.{Refused, Unsure as Perhaps}
use Rattle.hay_logical.specs.declared.unsure.Unsure.{Unsure}
use Rattle.hay_logical.specs.Fits.{At}
use Rattle.hay_logical.specs.Refusals.{IsUntouchedBy, answer_at, unfinished_by}
use Rattle.hay_logical.specs.ReplicaCalls.{CallsOne, IsBeginFault, IsFlushFault, IsLeftBy, IsStepFault, KeepsStuck, Start}
use Rattle.hay_logical.proofs.Changing.{set_back}
use Rattle.hay_logical.proofs.Lists.{at_below, at_same, at_there}
use Rattle.hay_logical.proofs.Standing.{volume_with}
use Rattle.hay_logical.proofs.SwapShapes.{SwapCall, called_up}

-- ONE REPLICA

module _ {D : Type 0} (faults : D → ℕ) (r r' : Copy D) (m : ℕ) where
  pub flush_untouched : (f : ReplicaFault) → IsFlushFault faults r r' f → IsUntouchedBy (answer_at m f) → r' ≡ r
  flush_untouched (fault.Failed printed) cause by = absurd by
  flush_untouched fault.Frozen cause by = cause.1
  flush_untouched (fault.Full end need capacity) cause by = absurd cause
  flush_untouched (fault.Busy generation) cause by = absurd cause
  flush_untouched (fault.Ended printed) cause by = absurd cause
  flush_untouched fault.Worn cause by = absurd cause
  flush_untouched (fault.Damaged at) cause by = absurd cause
  flush_untouched fault.NoMemory cause by = absurd by

  -- its index is stuck where it takes no flush
  pub flush_stuck : (f : ReplicaFault) (n : ℕ) → IsFlushFault faults r r' f → answer_at m f ≡ logical.ReadOnly n → (n ≡ m) × (is_stuck r ≡ true)
  flush_stuck fault.Frozen n cause is = (cc, cause.0)
  flush_stuck (fault.Failed printed) n cause is = absurd cc
  flush_stuck (fault.Full end need capacity) n cause is = absurd cause
  flush_stuck (fault.Busy generation) n cause is = absurd cause
  flush_stuck (fault.Ended printed) n cause is = absurd cause
  flush_stuck fault.Worn n cause is = absurd cause
  flush_stuck (fault.Damaged at) n cause is = absurd cause
  flush_stuck fault.NoMemory n cause is = absurd cc

  pub begin_untouched : (f : ReplicaFault) → IsBeginFault faults r r' f → IsUntouchedBy (answer_at m f) → r' ≡ r
  begin_untouched (fault.Failed printed) cause by = absurd by
  begin_untouched fault.Frozen cause by = absurd cause
  begin_untouched (fault.Full end need capacity) cause by = absurd cause
  begin_untouched (fault.Busy generation) cause by = cause.1
  begin_untouched (fault.Ended printed) cause by = absurd cause
  begin_untouched fault.Worn cause by = cause.2
  begin_untouched (fault.Damaged at) cause by = absurd cause
  begin_untouched fault.NoMemory cause by = absurd by

  pub step_untouched : (cells : ℕ) (f : ReplicaFault) → IsStepFault faults cells r r' f → IsUntouchedBy (answer_at m f) → r' ≡ r
  step_untouched cells (fault.Failed printed) cause by = absurd by
  step_untouched cells fault.Frozen cause by = absurd cause
  step_untouched cells (fault.Full end need capacity) cause by = absurd cause
  step_untouched cells (fault.Busy generation) cause by = absurd cause
  step_untouched cells (fault.Ended printed) cause by = absurd cause
  step_untouched cells fault.Worn cause by = absurd cause
  step_untouched cells (fault.Damaged at) cause by = absurd by
  step_untouched cells fault.NoMemory cause by = absurd by

  -- a replica that takes changes is not refused as frozen
  pub begin_thawed : (f : ReplicaFault) (n : ℕ) → IsBeginFault faults r r' f → answer_at m f ≡ logical.ReadOnly n → ⊥
  begin_thawed (fault.Failed printed) n cause is = absurd cc
  begin_thawed fault.Frozen n cause is = absurd cause
  begin_thawed (fault.Full end need capacity) n cause is = absurd cc
  begin_thawed (fault.Busy generation) n cause is = absurd cc
  begin_thawed (fault.Ended printed) n cause is = absurd cc
  begin_thawed fault.Worn n cause is = absurd cc
  begin_thawed (fault.Damaged at) n cause is = absurd cc
  begin_thawed fault.NoMemory n cause is = absurd cc

  pub step_thawed : (cells : ℕ) (f : ReplicaFault) (n : ℕ) → IsStepFault faults cells r r' f → answer_at m f ≡ logical.ReadOnly n → ⊥
  step_thawed cells (fault.Failed printed) n cause is = absurd cc
  step_thawed cells fault.Frozen n cause is = absurd cause
  step_thawed cells (fault.Full end need capacity) n cause is = absurd cc
  step_thawed cells (fault.Busy generation) n cause is = absurd cc
  step_thawed cells (fault.Ended printed) n cause is = absurd cc
  step_thawed cells fault.Worn n cause is = absurd cc
  step_thawed cells (fault.Damaged at) n cause is = absurd cc
  step_thawed cells fault.NoMemory n cause is = absurd cc

-- want of memory is answered as such
pub answered_memory : (m : ℕ) (f : ReplicaFault) → answer_at m f ≡ logical.NoMemory → f ≡ fault.NoMemory
answered_memory m fault.NoMemory is = refl
answered_memory m (fault.Failed printed) is = absurd cc
answered_memory m fault.Frozen is = absurd cc
answered_memory m (fault.Full end need capacity) is = absurd cc
answered_memory m (fault.Busy generation) is = absurd cc
answered_memory m (fault.Ended printed) is = absurd cc
answered_memory m fault.Worn is = absurd cc
answered_memory m (fault.Damaged at) is = absurd cc

pub one_untouched : {D : Type 0} (at : ℕ) (old new : List (Copy D)) (one : CallsOne at old new) → one.after ≡ one.before → new ≡ old
one_untouched at old new one same = one.is ∙ ap (λ x. slice_set old at x) same ∙ set_back old at one.before one.was

-- THE END OF A COMPACTION

pub lists_same : {X : Type 0} (xs ys : List X) → length ys ≡ length xs → ((j : ℕ) (x y : X) → At xs j x → At ys j y → y ≡ x) → ys ≡ xs
lists_same [] [] long same = refl
lists_same [] (y ∷ ys) long same = absurd (omega (arith, long))
lists_same (x ∷ xs) [] long same = absurd (omega (arith, long))
lists_same (x ∷ xs) (y ∷ ys) long same =
    let head : y ≡ x = same 0 x y refl refl in
    let tail : ys ≡ xs = lists_same xs ys (omega (arith, long)) (λ j a b e f. same (suc j) a b e f) in
    cc

module _ {D : Type 0} (settings : Settings) (number at : ℕ) (faults : D → ℕ) (start : Start) (r r' : Copy D) where
  left_untouched : (u : Unswapped) → IsLeftBy faults start r r' u → IsUntouchedBy (unfinished_by settings number at u).fault → (r' ≡ r) × ((unfinished_by settings number at u).frozen ≡ None)
  left_untouched (Refused (fault.Failed printed)) left by = absurd by
  left_untouched (Refused fault.Frozen) left by = absurd left
  left_untouched (Refused (fault.Full end need capacity)) left by = absurd left
  left_untouched (Refused (fault.Busy goal)) left by = (left.2, refl)
  left_untouched (Refused (fault.Ended printed)) left by = absurd left
  left_untouched (Refused fault.Worn) left by = (left.3, refl)
  left_untouched (Refused (fault.Damaged place)) left by = absurd by
  left_untouched (Refused fault.NoMemory) left by = absurd by
  left_untouched (Perhaps printed) left by = absurd by

  left_thawed : (u : Unswapped) (n : ℕ) → IsLeftBy faults start r r' u → (unfinished_by settings number at u).fault ≡ logical.ReadOnly n → ⊥
  left_thawed (Refused (fault.Failed printed)) n left is = absurd cc
  left_thawed (Refused fault.Frozen) n left is = absurd left
  left_thawed (Refused (fault.Full end need capacity)) n left is = absurd cc
  left_thawed (Refused (fault.Busy goal)) n left is = absurd cc
  left_thawed (Refused (fault.Ended printed)) n left is = absurd cc
  left_thawed (Refused fault.Worn) n left is = absurd cc
  left_thawed (Refused (fault.Damaged place)) n left is = absurd cc
  left_thawed (Refused fault.NoMemory) n left is = absurd cc
  left_thawed (Perhaps printed) n left is = absurd cc

module _ {D P : Type 0} {DiskTells : Type 0} {files : D → Files} {Tells : Type 0} {faults : D → ℕ} {start : Start} {items new : List (Copy D)} {rows rows' : MapRows P} {at : ℕ}
    (settings : Settings) (number : ℕ) (u : Unswapped) (call : SwapCall DiskTells files Tells faults start items new rows rows' at (Err u)) where
  pub called_thawed : (n : ℕ) → (unfinished_by settings number at u).fault ≡ logical.ReadOnly n → ⊥
  called_thawed n is = left_thawed settings number at faults start call.one.before call.one.after u n call.swaps.left is

module _ {D P : Type 0} {DiskTells : Type 0} {files : D → Files} {Tells : Type 0} {faults : D → ℕ} {start : Start} {items new : List (Copy D)} {rows rows' : MapRows P} {at : ℕ}
    (settings : Settings) (number : ℕ) (u : Unswapped)
    (call : SwapCall DiskTells files Tells faults start items new rows rows' at (Err u)) (by : IsUntouchedBy (unfinished_by settings number at u).fault) where
  called_same : new ≡ items
  called_same =
      let left = left_untouched settings number at faults start call.one.before call.one.after u call.swaps.left by in
      lists_same items new call.one.count (λ j r r' e f. elim (cases_eq j at) [
        | inl here ↦
            at_same new at r' call.one.after (subst (λ n. At new n r') here f) call.one.is ∙ left.0 ∙ at_same items at call.one.before r call.one.was (subst (λ n. At items n r) here e)
        | inr apart ↦ (call.one.others j r r' apart e f).1 (called_up settings number u call left.1)
      ])

  pub called_untouched : (replicas : List (Copy D)) (front : ℕ) (frozen frozen' : Option ℕ) (unsure : Option Unsure) → replicas ≡ new → frozen ≡ None
      → frozen' ≡ (unfinished_by settings number at u).frozen
      → volume_with settings number replicas rows' front frozen' unsure ≡ volume_with settings number items rows front frozen unsure
  called_untouched replicas front frozen frozen' unsure is thawed said =
      let left = left_untouched settings number at faults start call.one.before call.one.after u call.swaps.left by in
      let same : replicas ≡ items = is ∙ called_same in
      let none : frozen' ≡ frozen = said ∙ left.1 ∙ sym thawed in
      ap (λ rs. volume_with settings number rs rows' front frozen' unsure) same
      ∙ ap (λ x. volume_with settings number items x front frozen' unsure) call.places.same
      ∙ ap (λ o. volume_with settings number items rows front o unsure) none

-- OF EACH REPLICA, WHETHER A FLUSH HAS FAILED

pub stuck_same : {D : Type 0} (xs : List (Copy D)) → KeepsStuck xs xs
stuck_same xs j r r' e f = ap is_stuck (at_same xs j r' r f e)

pub stuck_more : {D : Type 0} (a b c : List (Copy D)) → length b ≡ length a → KeepsStuck a b → KeepsStuck b c → KeepsStuck a c
stuck_more a b c count first second j r r' e f =
    let x = at_there b j (let h = at_below a j r e in let less : j < length b = omega (arith, h, count) in less) in
    second j x.0 r' x.1 f ∙ first j r x.0 e x.1
