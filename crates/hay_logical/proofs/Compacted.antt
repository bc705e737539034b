-- What ends of a volume's compactions answer, by what is known.
use Rattle.std.proofs.Common.{◌≡◌, inl, inr, ℕ, ◌+◌, ◌<◌, ◌≤◌, true, List, length, Option, Some, None, refl, sym, ap, subst, ◌∙◌, arith}
use Rattle.std.specs.Prelude.{Err, Ok, option_map}
use Rattle.std.proofs.lemmas.Bool.{cases_eq}
use Rattle.hay_needle.specs.declared.needle.Cell.{Cell}
use Rattle.hay_needle.specs.declared.settings.Settings.{Settings}
use Rattle.hay_needle.specs.declared.settings.TheConstants.{LAST_GENERATION}
use Rattle.hay_disk.specs.Counts.{Rose}
use Rattle.hay_disk.specs.Disk.{Files}
use Rattle.hay_legal.specs.declared.known.Run.{Run}
use Rattle.hay_legal.specs.declared.known.VolumeKnown.{VolumeKnown}
use Rattle.hay_legal.specs.Known.{machine_of, replica_at}
use Rattle.hay_map.specs.MapRows.{MapRows}
use Rattle.hay_physical.specs.declared.fault.ReplicaFault.TheVariants as fault
use Rattle.hay_open.specs.Stored.{Stored, index_file, volume_file}
use Rattle.hay_physical.specs.OpenCopies.{Copy, IsUp, generation_of, goal_of}
use Rattle.hay_physical.specs.Replicas as physical
use Rattle.hay_physical.specs.CompactionRuns as runs
use Rattle.hay_physical.specs.CompactionRuns.{HasRun, RemovedBoth}
use Rattle.hay_physical.proofs.Laws.{goal_none, stands_generation}
use Rattle.hay_logical.specs.declared.runs.NewFiles.{NewFiles}
use Rattle.hay_logical.specs.declared.runs.Unswapped.{Unswapped}
use Rattle.hay_logical.specs.declared.runs.Unswapped.TheVariants.{Refused, Unsure as Perhaps}
use Rattle.hay_logical.specs.declared.unsure.Unsure.{Unsure}
use Rattle.hay_logical.specs.Answers.{CompactRefused, FinishRefused, HasFailed, IsAtRest, IsCompacted, IsFinished, IsRunning, MayFinish, RemovesOld}
use Rattle.hay_logical.specs.Answers as answers
use Rattle.hay_logical.specs.Fits.{At, RunsAs, copier_run}
use Rattle.hay_logical.specs.Refusals.{unfinished_by}
use Rattle.hay_logical.specs.Stands.{ReplicaStands, Stands, StandsFor}
use Rattle.hay_logical.specs.ReplicaCalls.{KeepsPlaces, Start, StaysInReach, SwapsAt, SwapsOne}
use Rattle.hay_logical.specs.ReplicaCalls.Start.{Fresh, Going}
use Rattle.hay_logical.proofs.Alike.{one_standing}
use Rattle.hay_logical.proofs.Compacting.{known_goal, known_none}
use Rattle.hay_logical.proofs.Finishing.{loose_sizes, stands_dropped, stands_poised, stands_same, stands_swap, tight_sizes, was_there}
use Rattle.hay_logical.proofs.Lists.{at_below, at_same}
use Rattle.hay_logical.proofs.Standing.{volume_with}
use Rattle.hay_logical.proofs.Stepping.{is_run, some_run}
use Rattle.hay_logical.proofs.Swapping.{rows_stay}

-- a compaction makes the next generation
run_next : {D : Type 0} (files : D → Files) (r : Copy D) (s : Stored) (run : runs.Run) → runs.HasRun files r s (Some run) → run.goal ≡ s.generation + 1
unfolding HasRun
run_next files r s run h = h.has.next

module _ {D P : Type 0} (settings : Settings) (number : ℕ) (DiskTells : Type 0) (files : D → Files) (Tells : Type 0) (faults : D → ℕ) (items new : List (Copy D))
    (rows rows' : MapRows P) (front : ℕ) (unsure : Option Unsure) (k : VolumeKnown)
    (stands : StandsFor files Tells (volume_with settings number items rows front None unsure) k) (tells : DiskTells) (at : ℕ) (one : SwapsOne DiskTells files at items new) where
  was : ReplicaStands files Tells (volume_with settings number items rows front None unsure) k at one.before
  was = was_there settings number DiskTells files Tells items new rows rows' front unsure k stands one.count tells at one

  running : (goal_of one.before ≡ None → ⊥) → IsRunning k at
  running standing = is_run (replica_at k at).run (λ e. standing (known_goal files one.before was.stored (replica_at k at).run was.run ∙ e))

  has_run : (run : IsRunning k at) → runs.HasRun files one.before was.stored (Some (copier_run run.0))
  has_run run = subst (λ (o : Option Run). RunsAs files one.before was.stored o) run.1 was.run

  may_finish : (goal_of one.before ≡ None → ⊥) → ((goal : ℕ) → goal_of one.before ≡ Some goal → goal ≤ LAST_GENERATION) → MayFinish k at
  unfolding has_run
  may_finish standing few =
      let run = running standing in
      let next = run_next files one.before was.stored (copier_run run.0) (has_run run) in
      let goal = known_goal files one.before was.stored (replica_at k at).run was.run ∙ ap (λ (o : Option Run). option_map (λ (r : Run). r.goal) o) run.1 in
      let most = few (run.0).goal goal in
      let fits = was.fits.generation in
      (run, (let e : (replica_at k at).generation < LAST_GENERATION = omega (arith, most, next, fits) in e))

  pub finished : (files_now : NewFiles P) → (goal_of one.before ≡ None → ⊥) → ((goal : ℕ) → goal_of one.before ≡ Some goal → goal ≤ LAST_GENERATION)
      → SwapsAt DiskTells files faults Tells Going rows rows' at one.before one.after (Ok files_now) → KeepsPlaces rows rows' at (Ok files_now)
      → IsFinished files Tells k at files_now.generation (volume_with settings number new rows' front None unsure)
  unfolding Stands was has_run
  finished files_now standing few swaps places =
      let run = running standing in
      let made = swaps.swapped tells was.stored (copier_run run.0) was.stands (has_run run) was.places in
      record {
        thawed = stands.frozen;
        stood = may_finish standing few;
        next = made.generation_is ∙ made.to.swaps.generation ∙ ap (λ n. n + 1) (sym was.fits.generation);
        swaps = (
          made.stored.end,
          length made.stored.cells,
          loose_sizes k at was.stored made.stored (copier_run run.0) was.fits made.to,
          stands_swap settings number DiskTells files Tells items new rows rows' front unsure k stands one.count tells at one (copier_run run.0) files_now.generation swaps.up.0
              swaps.up.1 swaps.up.2 made places.others,
        );
        sizes = λ r f s is.
            let same = one_standing files r made.stored s (subst (λ (x : Copy D). physical.Stands files x made.stored) (at_same new at one.after r one.is f) made.stands) is in
            (same.0, ap (λ (l : List Cell). length l) same.1);
      }

  pub finish_refused : (u : Unswapped) → (goal_of one.before ≡ None → ⊥) → ((goal : ℕ) → goal_of one.before ≡ Some goal → goal ≤ LAST_GENERATION)
      → SwapsAt DiskTells files faults Tells Going rows rows' at one.before one.after (Err u) → StaysInReach DiskTells files one.before one.after
      → KeepsPlaces rows rows' at (Err u)
      → FinishRefused files Tells k at (volume_with settings number items rows front None unsure)
      (volume_with settings number new rows' front (unfinished_by settings number at u).frozen unsure) (unfinished_by settings number at u).fault
  unfolding Stands was has_run
  finish_refused (Refused (fault.Failed n)) standing few swaps stays places =
      let run = running standing in
      let h = swaps.refused tells was.stored (copier_run run.0) was.stands (has_run run) was.places in (
        stands.frozen,
        refl,
        run,
        inl (stands_dropped settings number DiskTells files Tells items new rows rows' front unsure k stands one.count tells at one swaps.left.0
            swaps.left.1 h.0 h.1 (rows_stay places)),
      )
  finish_refused (Refused fault.Frozen) standing few swaps stays places = absurd swaps.left
  finish_refused (Refused (fault.Full end need capacity)) standing few swaps stays places = absurd swaps.left
  finish_refused (Refused (fault.Busy goal)) standing few swaps stays places = let wrong : Going ≡ Fresh = swaps.left.0 in absurd cc
  finish_refused (Refused (fault.Ended n)) standing few swaps stays places = absurd swaps.left
  finish_refused (Refused fault.Worn) standing few swaps stays places = let wrong : Going ≡ Fresh = swaps.left.0 in absurd cc
  finish_refused (Refused (fault.Damaged place)) standing few swaps stays places =
      let run = running standing in
      absurd (swaps.refused tells was.stored (copier_run run.0) was.stands (has_run run) was.places)
  finish_refused (Refused fault.NoMemory) standing few swaps stays places =
      let run = running standing in
      let h = swaps.refused tells was.stored (copier_run run.0) was.stands (has_run run) was.places in (
        stands.frozen,
        may_finish standing few,
        stands_dropped settings number DiskTells files Tells items new rows rows' front unsure k stands one.count tells at one swaps.left.0
            swaps.left.1 h.0 h.1 (rows_stay places),
      )
  finish_refused (Perhaps n) standing few swaps stays places =
      let run = running standing in
      let h = swaps.refused tells was.stored (copier_run run.0) was.stands (has_run run) was.places in (
        stands.frozen,
        refl,
        run,
        inr (stands_poised settings number DiskTells files Tells items new rows rows' front unsure k stands one.count tells at one
            (machine_of settings number at) h.0 swaps.left.0 stays h.1 h.2 (rows_stay places)),
      )

  -- the files of the old generation
  pub removes_old : (start : Start) (files_now : NewFiles P) → SwapsAt DiskTells files faults Tells start rows rows' at one.before one.after (Ok files_now)
      → RemovesOld files faults k at (volume_with settings number items rows front None unsure) (volume_with settings number new rows' front None unsure)
  unfolding Stands was
  removes_old start files_now swaps = λ r r' e f.
      subst (λ n. RemovedBoth (files r'.disk) (volume_file n) (index_file n) (faults r.disk) (faults r'.disk)) (sym was.fits.generation)
      (subst (λ (x : Copy D). RemovedBoth (files x.disk) (volume_file was.stored.generation) (index_file was.stored.generation) (faults r.disk) (faults x.disk)) (at_same new at one.after r' one.is f)
      (subst (λ (x : Copy D). RemovedBoth (files (one.after).disk) (volume_file was.stored.generation) (index_file was.stored.generation) (faults x.disk) (faults (one.after).disk))
      (at_same items at one.before r one.was e)
      (swaps.removed tells was.stored was.stands)))

  -- ALL AT ONCE

  fresh : runs.Run
  fresh = record { goal = was.stored.generation + 1; left = length was.stored.cells; tight = true }

  rest : (goal_of one.before ≡ None) × (generation_of one.before < LAST_GENERATION) → IsAtRest k at
  rest idle =
      let same = stands_generation files one.before was.stored was.stands in
      let fits = was.fits.generation in
      let less = idle.1 in
      (known_none files one.before was.stored (replica_at k at).run was.run idle.0, (let e : (replica_at k at).generation < LAST_GENERATION = omega (arith, less, same, fits) in e))

  pub compacted : (files_now : NewFiles P) → SwapsAt DiskTells files faults Tells Fresh rows rows' at one.before one.after (Ok files_now) → KeepsPlaces rows rows' at (Ok files_now)
      → IsCompacted files Tells k at files_now.generation (volume_with settings number new rows' front None unsure)
  unfolding Stands was fresh
  compacted files_now swaps places =
      let idle = swaps.up.3 in
      let made = swaps.swapped tells was.stored fresh was.stands (goal_none files one.before was.stored idle.0, refl) was.places in
      record {
        thawed = stands.frozen;
        rest = rest idle;
        next = made.generation_is ∙ made.to.swaps.generation ∙ ap (λ n. n + 1) (sym was.fits.generation);
        swaps = (
          made.stored.end,
          length made.stored.cells,
          tight_sizes k at was.stored made.stored fresh refl was.fits made.to,
          stands_swap settings number DiskTells files Tells items new rows rows' front unsure k stands one.count tells at one fresh files_now.generation swaps.up.0 swaps.up.1
              swaps.up.2 made places.others,
        );
        sizes = λ r f s is.
            let same = one_standing files r made.stored s (subst (λ (x : Copy D). physical.Stands files x made.stored) (at_same new at one.after r one.is f) made.stands) is in
            (same.0, ap (λ (l : List Cell). length l) same.1);
      }

  all_same : one.after ≡ one.before → (j : ℕ) (r r' : Copy D) → At items j r → At new j r' → IsUp one.after → r' ≡ r
  all_same is j r r' e f up = elim (cases_eq j at) [
    | inl here ↦ at_same new at r' one.after (subst (λ n. At new n r') here f) one.is ∙ is ∙ at_same items at one.before r one.was (subst (λ n. At items n r) here e)
    | inr apart ↦ (one.others j r r' apart e f).1 up
  ]

  pub compact_refused : (u : Unswapped) → IsUp one.before → SwapsAt DiskTells files faults Tells Fresh rows rows' at one.before one.after (Err u) → StaysInReach DiskTells files one.before one.after
      → KeepsPlaces rows rows' at (Err u)
      → CompactRefused files Tells k at (volume_with settings number items rows front None unsure)
      (volume_with settings number new rows' front (unfinished_by settings number at u).frozen unsure) (unfinished_by settings number at u).fault
  unfolding Stands was fresh
  compact_refused (Refused (fault.Failed n)) up swaps stays places =
      let idle = swaps.left.2 in
      let h = swaps.refused tells was.stored fresh was.stands (goal_none files one.before was.stored idle.0, refl) was.places in (
        stands.frozen,
        refl,
        rest idle,
        inl (stands_dropped settings number DiskTells files Tells items new rows rows' front unsure k stands one.count tells at one swaps.left.0
            swaps.left.1 h.0 h.1 (rows_stay places)),
      )
  compact_refused (Refused fault.Frozen) up swaps stays places = absurd swaps.left
  compact_refused (Refused (fault.Full end need capacity)) up swaps stays places = absurd swaps.left
  compact_refused (Refused (fault.Busy goal)) up swaps stays places = (
    stands.frozen,
    refl,
    some_run (replica_at k at).run goal (sym (known_goal files one.before was.stored (replica_at k at).run was.run) ∙ swaps.left.1),
    stands_same settings number DiskTells files Tells items new rows rows' front unsure k stands one.count tells at one
        (λ j r r' e f. all_same swaps.left.2 j r r' e f (subst (λ (x : Copy D). IsUp x) (sym swaps.left.2) up)) (rows_stay places),
  )
  compact_refused (Refused (fault.Ended n)) up swaps stays places = absurd swaps.left
  compact_refused (Refused fault.Worn) up swaps stays places =
      let h = swaps.refused tells was.stored fresh was.stands (goal_none files one.before was.stored swaps.left.1, refl) was.places in (
        stands.frozen,
        refl,
        known_none files one.before was.stored (replica_at k at).run was.run swaps.left.1,
        was.fits.generation ∙ h,
        stands_same settings number DiskTells files Tells items new rows rows' front unsure k stands one.count tells at one
            (λ j r r' e f. all_same swaps.left.3 j r r' e f (subst (λ (x : Copy D). IsUp x) (sym swaps.left.3) up)) (rows_stay places),
      )
  compact_refused (Refused (fault.Damaged place)) up swaps stays places =
      absurd (swaps.refused tells was.stored fresh was.stands (goal_none files one.before was.stored swaps.left.2.0, refl) was.places)
  compact_refused (Refused fault.NoMemory) up swaps stays places =
      let idle = swaps.left.2 in
      let h = swaps.refused tells was.stored fresh was.stands (goal_none files one.before was.stored idle.0, refl) was.places in (
        stands.frozen,
        rest idle,
        stands_dropped settings number DiskTells files Tells items new rows rows' front unsure k stands one.count tells at one swaps.left.0 swaps.left.1
            h.0 h.1 (rows_stay places),
      )
  compact_refused (Perhaps n) up swaps stays places =
      let idle = swaps.left.2 in
      let h = swaps.refused tells was.stored fresh was.stands (goal_none files one.before was.stored idle.0, refl) was.places in (
        stands.frozen,
        refl,
        rest idle,
        inr (stands_poised settings number DiskTells files Tells items new rows rows' front unsure k stands one.count tells at one
            (machine_of settings number at) h.0 swaps.left.0 stays h.1 h.2 (rows_stay places)),
      )

-- CAUSES

module _ {D P : Type 0} (settings : Settings) (number : ℕ) (DiskTells : Type 0) (files : D → Files) (Tells : Type 0) (faults : D → ℕ) (items new : List (Copy D))
    (rows rows' : MapRows P) (at : ℕ) (one : SwapsOne DiskTells files at items new)
    (all : length items ≡ settings.replicas) where
  failed_at : (printed : ℕ) → Rose (faults (one.before).disk) (faults (one.after).disk) → printed ≡ faults (one.after).disk
      → HasFailed faults settings number items new (machine_of settings number at) printed
  failed_at printed rose is =
      let below = at_below items at one.before one.was in
      record {
        replica = at;
        within = omega (arith, below, all);
        before = one.before;
        after = one.after;
        was = one.was;
        is = one.is;
        machine = refl;
        rose = rose;
        printed = is;
      }

  pub finish_fault : (u : Unswapped) → SwapsAt DiskTells files faults Tells Going rows rows' at one.before one.after (Err u)
      → answers.IsRunFault faults settings number at items new (unfinished_by settings number at u).fault
  finish_fault (Refused (fault.Failed n)) swaps = (refl, failed_at n swaps.left.3 swaps.left.4)
  finish_fault (Refused fault.Frozen) swaps = absurd swaps.left
  finish_fault (Refused (fault.Full end need capacity)) swaps = absurd swaps.left
  finish_fault (Refused (fault.Busy goal)) swaps = let wrong : Going ≡ Fresh = swaps.left.0 in absurd cc
  finish_fault (Refused (fault.Ended n)) swaps = absurd swaps.left
  finish_fault (Refused fault.Worn) swaps = let wrong : Going ≡ Fresh = swaps.left.0 in absurd cc
  finish_fault (Refused (fault.Damaged place)) swaps = refl
  finish_fault (Refused fault.NoMemory) swaps = tt
  finish_fault (Perhaps n) swaps = (refl, failed_at n swaps.left.3 swaps.left.4)

  pub compact_fault : (u : Unswapped) → SwapsAt DiskTells files faults Tells Fresh rows rows' at one.before one.after (Err u)
      → answers.IsCompactFault faults settings number at items new (unfinished_by settings number at u).fault
  compact_fault (Refused (fault.Failed n)) swaps = (refl, failed_at n swaps.left.3 swaps.left.4)
  compact_fault (Refused fault.Frozen) swaps = absurd swaps.left
  compact_fault (Refused (fault.Full end need capacity)) swaps = absurd swaps.left
  compact_fault (Refused (fault.Busy goal)) swaps = refl
  compact_fault (Refused (fault.Ended n)) swaps = absurd swaps.left
  compact_fault (Refused fault.Worn) swaps = refl
  compact_fault (Refused (fault.Damaged place)) swaps = refl
  compact_fault (Refused fault.NoMemory) swaps = tt
  compact_fault (Perhaps n) swaps = (refl, failed_at n swaps.left.3 swaps.left.4)
