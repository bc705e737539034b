-- What beginnings and steps of a volume's compactions answer.
use Rattle.std.proofs.Common.{Bool, ◌≡◌, ℕ, ◌<◌, true, false, List, length, Option, Some, None, option_map, refl, sym, ap, subst, ◌∙◌, arith}
use Rattle.std.proofs.lemmas.Bool.{true≢false}
use Rattle.std.specs.Prelude.{is_some, not, Err, Ok, slice_set}
use Rattle.hay_disk.specs.Disk.{Files}
use Rattle.hay_needle.specs.declared.settings.Settings.{Settings}
use Rattle.hay_needle.specs.declared.settings.TheConstants.{LAST_GENERATION}
use Rattle.hay_legal.specs.declared.known.ReplicaKnown.{ReplicaKnown}
use Rattle.hay_legal.specs.declared.known.Run.{Run}
use Rattle.hay_legal.specs.declared.known.VolumeKnown.{VolumeKnown}
use Rattle.hay_legal.specs.Known.{machine_of, replica_at}
use Rattle.hay_legal.specs.Plain.{stepped, with_run, without_run}
use Rattle.hay_map.specs.MapRows.{MapRows}
use Rattle.hay_open.specs.Stored.{Stored}
use Rattle.hay_physical.specs.declared.fault.ReplicaFault.{ReplicaFault}
use Rattle.hay_physical.specs.declared.fault.ReplicaFault.TheVariants as fault
use Rattle.hay_physical.specs.OpenCopies.{Copy, generation_of, goal_of}
use Rattle.hay_physical.specs.CompactionRuns as runs
use Rattle.hay_physical.proofs.Laws.{stands_generation}
use Rattle.hay_logical.specs.declared.unsure.Unsure.{Unsure}
use Rattle.hay_logical.specs.Answers.{BeginRefused, IsAtRest, IsBegun, IsRunning, IsStepped, StepRefused, change_at}
use Rattle.hay_logical.specs.Answers as answers
use Rattle.hay_logical.specs.Fits.{At, Fits, RunsAs, copier_run}
use Rattle.hay_logical.specs.Refusals.{answer_at}
use Rattle.hay_logical.specs.Stands.{ReplicaStands, Stands, StandsFor}
use Rattle.hay_logical.specs.ReplicaCalls.{BeginsAt, CallsOne, GoesOn, StepsAt}
use Rattle.hay_logical.proofs.Changing.{one_failed, other_changed, set_back, stands_one}
use Rattle.hay_logical.proofs.Compacting.{known_goal, known_none, loosely, no_run}
use Rattle.hay_logical.proofs.Knowing.{changed_here, fits_same}
use Rattle.hay_logical.proofs.Lists.{at_below, length-slice_set}
use Rattle.hay_logical.proofs.Standing.{takes, volume_with}

-- which compaction is known
pub some_run : (o : Option Run) (g : ℕ) → option_map (λ (run : Run). run.goal) o ≡ Some g → (run : Run) × (o ≡ Some run) × (run.goal ≡ g)
some_run None g e = absurd cc
some_run (Some run) g e = let same : run.goal ≡ g = cc in (run, refl, same)

pub is_run : (o : Option Run) → (option_map (λ (run : Run). run.goal) o ≡ None → ⊥) → (run : Run) × (o ≡ Some run)
is_run None standing = absurd (standing refl)
is_run (Some run) standing = (run, refl)

-- a replica of which only the compaction changed
pub fits_run : (k : VolumeKnown) (j : ℕ) (s : Stored) (run : Run) → j < length k.replicas → Fits k (replica_at k j) s
    → Fits (change_at k j (with_run run)) (replica_at (change_at k j (with_run run)) j) s
fits_run k j s run h fits =
    subst (λ (r : ReplicaKnown). Fits (change_at k j (with_run run)) r s) (sym (changed_here k j (with_run run) h))
    (fits_same k (change_at k j (with_run run)) (replica_at k j) (with_run run (replica_at k j)) s refl refl refl refl refl refl fits)

pub fits_no_run : (k : VolumeKnown) (j : ℕ) (s : Stored) → j < length k.replicas → Fits k (replica_at k j) s → Fits (change_at k j without_run) (replica_at (change_at k j without_run) j) s
fits_no_run k j s h fits =
    subst (λ (r : ReplicaKnown). Fits (change_at k j without_run) r s) (sym (changed_here k j without_run h))
    (fits_same k (change_at k j without_run) (replica_at k j) (without_run (replica_at k j)) s refl refl refl refl refl refl fits)

module _ {D P : Type 0} (settings : Settings) (number : ℕ) (DiskTells : Type 0) (files : D → Files) (Tells : Type 0) (faults : D → ℕ) where
  -- the generation that a compaction makes is known
  pub standing_known : (items : List (Copy D)) (rows : MapRows P) (front : ℕ) (frozen : Option ℕ) (unsure : Option Unsure) (k : VolumeKnown)
      → StandsFor files Tells (volume_with settings number items rows front frozen unsure) k → (j : ℕ) (r : Copy D) → At items j r
      → goal_of r ≡ option_map (λ (run : Run). run.goal) (replica_at k j).run
  standing_known items rows front None unsure k stands j r e = let was = stands.by.each j r e in known_goal files r was.stored (replica_at k j).run was.run
  standing_known items rows front (Some m) unsure k stands j r e =
      let idle = stands.by.idle j r e in
      idle.1 ∙ sym (ap (option_map (λ (run : Run). run.goal)) idle.0)

  module _ (items new : List (Copy D)) (rows : MapRows P) (front : ℕ) (unsure : Option Unsure) (k : VolumeKnown) (at : ℕ) (one : CallsOne at items new)
      (stands : StandsFor files Tells (volume_with settings number items rows front None unsure) k) where
    known_at : at < length k.replicas
    known_at =
        let below = at_below items at one.before one.was in
        let all : length items ≡ settings.replicas = stands.all in
        let many : length k.replicas ≡ settings.replicas = stands.many in
        omega (arith, below, all, many)

    was_at : ReplicaStands files Tells (volume_with settings number items rows front None unsure) k at one.before
    was_at = (takes DiskTells files Tells settings number items rows front None unsure k stands refl).each at one.before one.was

    -- nothing that is known has changed
    pub stands_still : DiskTells → GoesOn DiskTells files one.before one.after → ((s : Stored) (o : Option Run) → RunsAs files one.before s o → RunsAs files one.after s o)
        → StandsFor files Tells (volume_with settings number new rows front None unsure) k
    stands_still tells on run = stands_one settings number DiskTells files Tells faults items new rows front unsure k k at one stands refl refl refl refl
        (λ w. record {
          stored = w.stored;
          fits = w.fits;
          stands = on.stands tells w.stored w.stands;
          stuck = w.stuck ∙ sym on.stuck;
          run = run w.stored (replica_at k at).run w.run;
          settled = w.settled;
          places = w.places;
        })
        (λ j apart r w. record { stored = w.stored; fits = w.fits; stands = w.stands; stuck = w.stuck; run = w.run; settled = w.settled; places = w.places })

    -- it has this compaction now
    pub stands_running_by : DiskTells → GoesOn DiskTells files one.before one.after → (run : Run)
        → (w : ReplicaStands files Tells (volume_with settings number items rows front None unsure) k at one.before)
        → runs.HasRun files one.after w.stored (Some (copier_run run)) → StandsFor files Tells (volume_with settings number new rows front None unsure) (change_at k at (with_run run))
    stands_running_by tells on run w has =
        stands_one settings number DiskTells files Tells faults items new rows front unsure k (change_at k at (with_run run)) at one stands refl refl refl (length-slice_set k.replicas at _)
        (λ v. record {
          stored = w.stored;
          fits = fits_run k at w.stored run known_at w.fits;
          stands = on.stands tells w.stored w.stands;
          stuck = ap (λ x. x.stuck) (changed_here k at (with_run run) known_at) ∙ w.stuck ∙ sym on.stuck;
          run = subst (λ (x : ReplicaKnown). RunsAs files one.after w.stored x.run) (sym (changed_here k at (with_run run) known_at)) has;
          settled = ap (λ x. x.poised) (changed_here k at (with_run run) known_at) ∙ w.settled;
          places = w.places;
        })
        (other_changed settings number DiskTells files Tells faults items new rows front unsure k at (with_run run))

    pub stands_running : DiskTells → GoesOn DiskTells files one.before one.after → (run : Run)
        → ((w : ReplicaStands files Tells (volume_with settings number items rows front None unsure) k at one.before) → runs.HasRun files one.after w.stored (Some (copier_run run)))
        → StandsFor files Tells (volume_with settings number new rows front None unsure) (change_at k at (with_run run))
    stands_running tells on run has = stands_running_by tells on run was_at (has was_at)

    -- or none any more
    pub stands_ended : DiskTells → GoesOn DiskTells files one.before one.after → goal_of one.after ≡ None
        → StandsFor files Tells (volume_with settings number new rows front None unsure) (change_at k at without_run)
    stands_ended tells on none =
        stands_one settings number DiskTells files Tells faults items new rows front unsure k (change_at k at without_run) at one stands refl refl refl (length-slice_set k.replicas at _)
        (λ w. record {
          stored = w.stored;
          fits = fits_no_run k at w.stored known_at w.fits;
          stands = on.stands tells w.stored w.stands;
          stuck = ap (λ x. x.stuck) (changed_here k at without_run known_at) ∙ w.stuck ∙ sym on.stuck;
          run = no_run files one.after w.stored (replica_at (change_at k at without_run) at).run (ap (λ x. x.run) (changed_here k at without_run known_at)) none;
          settled = ap (λ x. x.poised) (changed_here k at without_run known_at) ∙ w.settled;
          places = w.places;
        })
        (other_changed settings number DiskTells files Tells faults items new rows front unsure k at without_run)

    rest_known : goal_of one.before ≡ None → generation_of one.before < LAST_GENERATION → IsAtRest k at
    rest_known none less =
        let w = was_at in
        let same = stands_generation files one.before w.stored w.stands in
        let fits = w.fits.generation in
        (known_none files one.before w.stored (replica_at k at).run w.run none, (let e : (replica_at k at).generation < LAST_GENERATION = omega (arith, less, same, fits) in e))

    pub begun : DiskTells → (goal : ℕ) → BeginsAt DiskTells files faults one.before one.after (Ok goal) → IsBegun files Tells k at goal (volume_with settings number new rows front None unsure)
    unfolding Stands
    begun tells goal step =
        let w = was_at in
        let fits = w.fits.generation in
        let next = (step.begun tells w.stored w.stands).0 in
        record {
          thawed = stands.frozen;
          rest = rest_known step.rest.0 step.rest.1;
          next = omega (arith, next, fits);
          stands = stands_running tells step.on (record { goal = goal; left = (replica_at k at).cells }) (λ v.
              subst (λ n. runs.HasRun files one.after v.stored (Some (record { goal = goal; left = n; tight = false }))) (sym v.fits.cells)
              (loosely files one.after v.stored (record { goal = goal; left = length v.stored.cells; tight = true }) (step.begun tells v.stored v.stands).1));
        }

    pub begin_refused : DiskTells → (m : ℕ) (f : ReplicaFault) → m ≡ machine_of settings number at → BeginsAt DiskTells files faults one.before one.after (Err f)
        → BeginRefused files Tells k at (volume_with settings number items rows front None unsure) (volume_with settings number new rows front None unsure) (answer_at m f)
    unfolding Stands
    begin_refused tells m (fault.Failed printed) machine step = (
      stands.frozen,
      machine,
      rest_known step.cause.2 step.cause.3,
      stands_still tells step.on (λ s o has. no_run files one.after s o (known_none files one.before s o has step.cause.2) (step.kept ∙ step.cause.2)),
    )
    begin_refused tells m fault.Frozen machine step = absurd step.cause
    begin_refused tells m (fault.Full end need capacity) machine step = absurd step.cause
    begin_refused tells m (fault.Busy goal) machine step =
        let w = was_at in (
          stands.frozen,
          machine,
          some_run (replica_at k at).run goal (sym (known_goal files one.before w.stored (replica_at k at).run w.run) ∙ step.cause.0),
          ap (λ rs. volume_with settings number rs rows front None unsure) (one.is ∙ ap (λ x. slice_set items at x) step.cause.1 ∙ set_back items at one.before one.was),
        )
    begin_refused tells m (fault.Ended n) machine step = absurd step.cause
    begin_refused tells m fault.Worn machine step =
        let w = was_at in (
          stands.frozen,
          machine,
          known_none files one.before w.stored (replica_at k at).run w.run step.cause.0,
          w.fits.generation ∙ step.last tells w.stored w.stands refl,
          ap (λ rs. volume_with settings number rs rows front None unsure) (one.is ∙ ap (λ x. slice_set items at x) step.cause.2 ∙ set_back items at one.before one.was),
        )
    begin_refused tells m (fault.Damaged place) machine step = absurd step.cause
    begin_refused tells m fault.NoMemory machine step = (
      stands.frozen,
      rest_known step.cause.0 step.cause.1,
      stands_still tells step.on (λ s o has. no_run files one.after s o (known_none files one.before s o has step.cause.0) (step.kept ∙ step.cause.0)),
    )

    running : (goal_of one.before ≡ None → ⊥) → IsRunning k at
    running standing = let w = was_at in is_run (replica_at k at).run (λ e. standing (known_goal files one.before w.stored (replica_at k at).run w.run ∙ e))

    pub stepped_on : DiskTells → (cells n : ℕ) → (goal_of one.before ≡ None → ⊥) → StepsAt DiskTells files faults Tells rows at cells one.before one.after (Ok n)
        → IsStepped files Tells k at cells n (volume_with settings number new rows front None unsure)
    unfolding Stands
    stepped_on tells cells n standing step =
        let w = was_at in
        let run = running standing in
        let has : (v : ReplicaStands files Tells (volume_with settings number items rows front None unsure) k at one.before) → runs.HasRun files one.before v.stored (Some (copier_run run.0)) =
        λ v. subst (λ (o : Option Run). RunsAs files one.before v.stored o) run.1 v.run in
        record {
          thawed = stands.frozen;
          run = run.0;
          stood = run.1;
          number = (step.stepped tells w.stored (copier_run run.0) w.stands (has w) w.places).0;
          stands = stands_running tells step.on (stepped n run.0) (λ v. (step.stepped tells v.stored (copier_run run.0) v.stands (has v) v.places).1);
        }

    pub step_refused : DiskTells → (cells m : ℕ) (f : ReplicaFault) → (goal_of one.before ≡ None → ⊥) → m ≡ machine_of settings number at
        → StepsAt DiskTells files faults Tells rows at cells one.before one.after (Err f)
        → StepRefused files Tells k at cells (volume_with settings number items rows front None unsure) (volume_with settings number new rows front None unsure) (answer_at m f)
    unfolding Stands
    step_refused tells cells m (fault.Failed printed) standing machine step = (stands.frozen, machine, running standing, stands_ended tells step.on step.cause.2)
    step_refused tells cells m fault.Frozen standing machine step = absurd step.cause
    step_refused tells cells m (fault.Full end need capacity) standing machine step = absurd step.cause
    step_refused tells cells m (fault.Busy goal) standing machine step = absurd step.cause
    step_refused tells cells m (fault.Ended n) standing machine step = absurd step.cause
    step_refused tells cells m fault.Worn standing machine step = absurd step.cause
    step_refused tells cells m (fault.Damaged place) standing machine step =
        let w = was_at in
        let run = running standing in
        absurd (step.refused tells w.stored (copier_run run.0) w.stands (subst (λ (o : Option Run). RunsAs files one.before w.stored o) run.1 w.run) w.places)
    step_refused tells cells m fault.NoMemory standing machine step =
        let w = was_at in
        let run = running standing in
        let part = step.refused tells w.stored (copier_run run.0) w.stands (subst (λ (o : Option Run). RunsAs files one.before w.stored o) run.1 w.run) w.places in (
          stands.frozen,
          (run.0, part.number, run.1, part.within, stands_running_by tells step.on (stepped part.number run.0) w part.has),
        )

-- causes
module _ {D : Type 0} (settings : Settings) (number : ℕ) (DiskTells : Type 0) (files : D → Files) (faults : D → ℕ) where
  pub begin_fault : (items new : List (Copy D)) (at m : ℕ) (f : ReplicaFault) (one : CallsOne at items new) → length items ≡ settings.replicas → m ≡ machine_of settings number at
      → BeginsAt DiskTells files faults one.before one.after (Err f) → answers.IsBeginFault faults settings number at items new (answer_at m f)
  begin_fault items new at m (fault.Failed printed) one all machine step = (machine, one_failed faults settings number items new at m printed one all machine step.cause.0 step.cause.1)
  begin_fault items new at m fault.Frozen one all machine step = (let below = at_below items at one.before one.was in (at, omega (arith, below, all), machine))
  begin_fault items new at m (fault.Full end need capacity) one all machine step = absurd step.cause
  begin_fault items new at m (fault.Busy goal) one all machine step = machine
  begin_fault items new at m (fault.Ended n) one all machine step = absurd step.cause
  begin_fault items new at m fault.Worn one all machine step = machine
  begin_fault items new at m (fault.Damaged place) one all machine step = absurd step.cause
  begin_fault items new at m fault.NoMemory one all machine step = tt

  pub step_fault : {P : Type 0} (Tells : Type 0) (rows : MapRows P) (cells : ℕ) (items new : List (Copy D)) (at m : ℕ) (f : ReplicaFault) (one : CallsOne at items new)
      → length items ≡ settings.replicas → m ≡ machine_of settings number at
      → StepsAt DiskTells files faults Tells rows at cells one.before one.after (Err f) → answers.IsRunFault faults settings number at items new (answer_at m f)
  step_fault Tells rows cells items new at m (fault.Failed printed) one all machine step = (machine, one_failed faults settings number items new at m printed one all machine step.cause.0 step.cause.1)
  step_fault Tells rows cells items new at m fault.Frozen one all machine step = (let below = at_below items at one.before one.was in (at, omega (arith, below, all), machine))
  step_fault Tells rows cells items new at m (fault.Full end need capacity) one all machine step = absurd step.cause
  step_fault Tells rows cells items new at m (fault.Busy goal) one all machine step = absurd step.cause
  step_fault Tells rows cells items new at m (fault.Ended n) one all machine step = absurd step.cause
  step_fault Tells rows cells items new at m fault.Worn one all machine step = absurd step.cause
  step_fault Tells rows cells items new at m (fault.Damaged place) one all machine step = machine
  step_fault Tells rows cells items new at m fault.NoMemory one all machine step = tt

-- whether a compaction stands
pub stands_there : (o : Option ℕ) (b : Bool) → is_some o ≡ not b → b ≡ false → o ≡ None → ⊥
stands_there None b is e f = true≢false (sym (is ∙ ap not e))
stands_there (Some n) b is e f = let wrong : Some n ≡ None = f in cc

pub none_there : (o : Option Run) (r : Option ℕ) (b : Bool) → r ≡ option_map (λ (run : Run). run.goal) o → is_some r ≡ not b → b ≡ true → o ≡ None
none_there None r b known is e = refl
none_there (Some run) r b known is e = absurd (true≢false (sym (ap is_some known) ∙ is ∙ ap not e))
