-- Cells that a compaction examines.
use Rattle.std.proofs.Common.{◌≡◌, inl, inr, ℕ, ◌+◌, ◌-◌, ◌≤◌, ◌<◌, List, Option, Some, None, refl, sym, ap, subst, ◌∙◌, arith}
use Rattle.hay_needle.specs.declared.needle.Cell.{Cell}
use Rattle.hay_needle.specs.declared.needle.Pair.{Pair}
use Rattle.hay_disk.specs.Counts.{Rose}
use Rattle.hay_disk.specs.Disk.{Files}
use Rattle.hay_map.specs.declared.place.Place.{Place}
use Rattle.hay_map.specs.declared.place.Place.TheVariants as place
use Rattle.hay_open.specs.Stored.{Stored, last_cell}
use Rattle.hay_compact.specs.Copying.{IsLatest, IsNextWithin}
use Rattle.hay_physical.specs.declared.fault.ReplicaFault.{ReplicaFault}
use Rattle.hay_physical.specs.declared.fault.ReplicaFault.TheVariants as fault
use Rattle.hay_physical.specs.OpenCopies.{Copy, IsFrozen, IsUp, copier_goal, copier_next, end_of, goal_of, next_of, phase_end, phase_goal, phase_next}
use Rattle.hay_physical.specs.declared.state.Copier.{Copier}
use Rattle.hay_physical.specs.declared.state.Copier.TheVariants.{Ended, Standing}
use Rattle.hay_physical.specs.declared.state.Phase.{Phase}
use Rattle.hay_physical.specs.declared.state.Phase.TheVariants.{Closed, Open}
use Rattle.hay_needle.specs.Sizes.{max_photo, needle_total}
use Rattle.hay_needle.specs.declared.needle.Version.TheVariants.{Two}
use Rattle.hay_needle.specs.declared.needle.CellHead.{CellHead}
use Rattle.hay_needle.specs.declared.total.TheConstants.{MAX_PHOTO}
use Rattle.hay_physical.specs.Faults as physical_faults
use Rattle.hay_physical.specs.CompactionRuns.{CopierPeeked, EndsRun, HasRun, IsPeeked, PhasePeeked, Run}
use Rattle.hay_logical.specs.Fits.{PhotoAt}
use Rattle.hay_logical.specs.Seen.{MeetsDamage, replica_seen}
use Rattle.hay_logical.specs.ReplicaCalls.{GoesOn, IsStepFault, StepLeaves, latest_of, stepped_by}
use Rattle.hay_logical.proofs.Calls.{not_both, reach_still, reach_through}

-- COUNTS

pub rose_later : (a b c : ℕ) → a ≤ b → Rose b c → Rose a c
rose_later a b c low (inl less) = inl (omega (arith, low, less))
rose_later a b c low (inr most) = inr most

-- STEPS

pub step_none : (run : Run) → stepped_by 0 run ≡ run
step_none run = let e : run.left - 0 ≡ run.left = omega arith in ap (λ n. record run { left = n }) e

pub step_more : (n m : ℕ) (run : Run) → stepped_by m (stepped_by n run) ≡ stepped_by (n + m) run
step_more n m run = let e : run.left - n - m ≡ run.left - (n + m) = omega arith in ap (λ k. record run { left = k }) e

module _ {D : Type 0} (DiskTells : Type 0) (files : D → Files) where
  pub goes_none : (r : Copy D) → IsUp r → GoesOn DiskTells files r r
  goes_none r up = record { up = up; sup = refl; stuck = refl; stands = λ tells s h. h; reach = λ tells. reach_still files r; head = λ tells. refl }

  pub goes_after : (r x y : Copy D) → GoesOn DiskTells files r x → GoesOn DiskTells files x y → GoesOn DiskTells files r y
  goes_after r x y a b = record {
    up = b.up;
    sup = b.sup ∙ a.sup;
    stuck = b.stuck ∙ a.stuck;
    stands = λ tells s h. b.stands tells s (a.stands tells s h);
    reach = λ tells. reach_through files r x y (a.reach tells) (b.reach tells);
    head = λ tells. b.head tells ∙ a.head tells;
  }

module _ {D : Type 0} (faults : D → ℕ) where
  -- a cell was not examined
  pub examine_cause : (r r' : Copy D) (f : ReplicaFault) → IsUp r → (goal_of r ≡ None → ⊥) → (f ≡ fault.Frozen → IsFrozen r) → ((n : ℕ) → f ≡ fault.Ended n → goal_of r ≡ None)
      → ((at : ℕ) → f ≡ fault.Damaged at → IsNextWithin (end_of r) (next_of r) at)
      → physical_faults.IsPeekFault (faults r.disk) (faults r'.disk) f → EndsRun (faults r'.disk) r r' f → IsStepFault faults 1 r r' f
  examine_cause r r' (fault.Failed n) up standing thawed none damaged cause ends = (cause.0, cause.1, ends.0)
  examine_cause r r' fault.Frozen up standing thawed none damaged cause ends = absurd (not_both r up (thawed refl))
  examine_cause r r' (fault.Full end need capacity) up standing thawed none damaged cause ends = absurd cause
  examine_cause r r' (fault.Busy generation) up standing thawed none damaged cause ends = absurd cause
  examine_cause r r' (fault.Ended n) up standing thawed none damaged cause ends = absurd (standing (none n refl))
  examine_cause r r' fault.Worn up standing thawed none damaged cause ends = absurd cause
  examine_cause r r' (fault.Damaged at) up standing thawed none damaged cause ends = let here = damaged at refl in let next = here.0 in (
    ends.0,
    record { examined = 0; few = omega arith; behind = omega (arith, next); most = omega (arith, next); from = here.1; within = here.2 },
  )
  examine_cause r r' fault.NoMemory up standing thawed none damaged cause ends = ends

  -- behind what went before
  pub step_later : (cells n : ℕ) (r x y : Copy D) (f : ReplicaFault) → faults r.disk ≤ faults x.disk → goal_of x ≡ goal_of r
      → ((at : ℕ) → MeetsDamage n at (replica_seen x) → MeetsDamage cells at (replica_seen r)) → IsStepFault faults n x y f → IsStepFault faults cells r y f
  step_later cells n r x y (fault.Failed printed) low goal meets cause = (rose_later (faults r.disk) (faults x.disk) (faults y.disk) low cause.0, cause.1, cause.2)
  step_later cells n r x y fault.Frozen low goal meets cause = cause
  step_later cells n r x y (fault.Full end need capacity) low goal meets cause = cause
  step_later cells n r x y (fault.Busy generation) low goal meets cause = cause
  step_later cells n r x y (fault.Ended printed) low goal meets cause = cause
  step_later cells n r x y fault.Worn low goal meets cause = cause
  step_later cells n r x y (fault.Damaged at) low goal meets cause = (cause.0, meets at cause.1)
  step_later cells n r x y fault.NoMemory low goal meets cause = cause ∙ goal

  -- nothing but want of memory leaves a compaction
  pub step_ends : (cells : ℕ) (r r' : Copy D) (f : ReplicaFault) → (f ≡ fault.NoMemory → ⊥) → IsStepFault faults cells r r' f → goal_of r' ≡ None
  step_ends cells r r' (fault.Failed n) some cause = cause.2
  step_ends cells r r' fault.Frozen some cause = absurd cause
  step_ends cells r r' (fault.Full end need capacity) some cause = absurd cause
  step_ends cells r r' (fault.Busy generation) some cause = absurd cause
  step_ends cells r r' (fault.Ended n) some cause = absurd cause
  step_ends cells r r' fault.Worn some cause = absurd cause
  step_ends cells r r' (fault.Damaged at) some cause = cause.0
  step_ends cells r r' fault.NoMemory some cause = absurd (some refl)

module _ {D : Type 0} (files : D → Files) where
  -- nothing was examined
  pub leaves_none : (r' : Copy D) (s : Stored) (run : Run) (cells : ℕ) (f : ReplicaFault) → (f ≡ fault.NoMemory → HasRun files r' s (Some run))
      → ((at : ℕ) → f ≡ fault.Damaged at → ⊥) → StepLeaves files r' s run cells f
  leaves_none r' s run cells (fault.Failed n) memory whole = tt
  leaves_none r' s run cells fault.Frozen memory whole = tt
  leaves_none r' s run cells (fault.Full end need capacity) memory whole = tt
  leaves_none r' s run cells (fault.Busy generation) memory whole = tt
  leaves_none r' s run cells (fault.Ended n) memory whole = tt
  leaves_none r' s run cells fault.Worn memory whole = tt
  leaves_none r' s run cells (fault.Damaged at) memory whole = whole at refl
  leaves_none r' s run cells fault.NoMemory memory whole =
      record { number = 0; within = omega arith; has = subst (λ (x : Run). HasRun files r' s (Some x)) (sym (step_none run)) (memory refl) }

  -- nothing more was examined
  pub leaves_some : (r' : Copy D) (s : Stored) (run : Run) (cells n : ℕ) (f : ReplicaFault) → n < cells → n ≤ run.left → StepLeaves files r' s (stepped_by n run) 0 f
      → StepLeaves files r' s run cells f
  leaves_some r' s run cells n (fault.Failed count) low few leaves = tt
  leaves_some r' s run cells n fault.Frozen low few leaves = tt
  leaves_some r' s run cells n (fault.Full end need capacity) low few leaves = tt
  leaves_some r' s run cells n (fault.Busy generation) low few leaves = tt
  leaves_some r' s run cells n (fault.Ended count) low few leaves = tt
  leaves_some r' s run cells n fault.Worn low few leaves = tt
  leaves_some r' s run cells n (fault.Damaged at) low few leaves = leaves
  leaves_some r' s run cells n fault.NoMemory low few leaves =
      let none : leaves.number ≡ 0 = (let w = leaves.within in omega (arith, w)) in
      record {
        number = n;
        within = omega (arith, low, few);
        has = subst (λ (x : Run). HasRun files r' s (Some x)) (ap (λ k. stepped_by k (stepped_by n run)) none ∙ step_none (stepped_by n run)) leaves.has;
      }

-- A CELL THAT WAS PEEKED AT

fits_copier : (end : ℕ) (copier : Copier) (head : CellHead) → CopierPeeked end copier head → (copier_goal copier ≡ None → ⊥) → copier_next copier + needle_total head.size ≤ end
fits_copier end (Ended printed) head peeked some = absurd (some refl)
fits_copier end (Standing stage) head peeked some = peeked.within

fits_phase : (p : Phase) (head : CellHead) → PhasePeeked p head → (phase_goal p ≡ None → ⊥) → phase_next p + needle_total head.size ≤ phase_end p
fits_phase Closed head peeked some = absurd peeked
fits_phase (Open opened) head peeked some = fits_copier opened.volume.end opened.copier head peeked some

-- its needle ends where the cells end, or before
pub peeked_fits : {D : Type 0} (r : Copy D) (head : CellHead) → IsPeeked r head → (goal_of r ≡ None → ⊥) → next_of r + needle_total head.size ≤ end_of r
peeked_fits r head peeked some = fits_phase r.phase head peeked some

small_copier : (end : ℕ) (copier : Copier) (head : CellHead) → CopierPeeked end copier head → (copier_goal copier ≡ None → ⊥) → head.size ≤ max_photo Two
small_copier end (Ended printed) head peeked some = absurd (some refl)
small_copier end (Standing stage) head peeked some = peeked.small

small_phase : (p : Phase) (head : CellHead) → PhasePeeked p head → (phase_goal p ≡ None → ⊥) → head.size ≤ max_photo Two
small_phase Closed head peeked some = absurd peeked
small_phase (Open opened) head peeked some = small_copier opened.volume.end opened.copier head peeked some

-- and takes no more bytes than that of the largest photo
pub peeked_small : {D : Type 0} (r : Copy D) (head : CellHead) → IsPeeked r head → (goal_of r ≡ None → ⊥) → needle_total head.size ≤ needle_total (max_photo Two)
peeked_small r head peeked some = let small : head.size ≤ MAX_PHOTO = small_phase r.phase head peeked some in omega (arith, small)

-- THE LATEST PLACE

pub latest_is : {P : Type 0} (Tells : Type 0) (cells : List Cell) (pair : Pair) (p : Place P) (cell : Cell) → last_cell cells pair ≡ Some cell
    → PhotoAt Tells (last_cell cells pair) p → IsLatest cells pair (latest_of p)
latest_is {P = P} Tells cells pair p cell last at = by_place p (subst (λ (o : Option Cell). PhotoAt Tells o p) last at)
  where
    by_place : (q : Place P) → PhotoAt Tells (Some cell) q → IsLatest cells pair (latest_of q)
    by_place (place.Live needle) is = record { cell = cell; last = last; place = sym is.at }
    by_place place.Gone is = record { cell = cell; last = last; place = is }
    by_place place.None is = record { cell = cell; last = last; place = is }
    by_place (place.Unseen there size) is = record { cell = cell; last = last; place = sym is.0 }
