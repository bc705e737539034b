-- Compactions as they are known, and as replicas have them.
use Rattle.std.proofs.Common.{◌≡◌, ℕ, zero, suc, ◌<◌, Bool, true, false, List, [], ◌∷◌, length, Option, Some, None, option_map, refl, sym, ap, subst, ◌∙◌, arith}
use Rattle.std.specs.Prelude.{slice_index_or}
use Rattle.hay_needle.specs.declared.needle.Cell.{Cell}
use Rattle.hay_disk.specs.Disk.{Files}
use Rattle.hay_legal.specs.declared.known.ReplicaKnown.{ReplicaKnown}
use Rattle.hay_legal.specs.declared.known.Run.{Run}
use Rattle.hay_legal.specs.Known.{empty_replica}
use Rattle.hay_legal.specs.Plain.{ended_where, run_grown, without_run}
use Rattle.hay_map.specs.declared.place.Place.{Place}
use Rattle.hay_map.specs.declared.place.Place.TheVariants as place
use Rattle.hay_open.specs.Stored.{PlaceOf, Stored}
use Rattle.hay_physical.specs.OpenCopies.{Copy, goal_of}
use Rattle.hay_physical.specs.CompactionRuns as runs
use Rattle.hay_physical.proofs.Laws.{goal_none, none_goal, run_goal}
use Rattle.hay_logical.specs.Fits.{At, PhotoAt, RunsAs, copier_run}

-- PLACES

pub photo_at : {P : Type 0} (Tells : Type 0) (o : Option Cell) (p : Place P) → PlaceOf Tells o p → PhotoAt Tells o p
photo_at Tells (Some cell) (place.Live needle) of = of
photo_at Tells (Some cell) place.Gone of = of
photo_at Tells (Some cell) place.None of = absurd of
photo_at Tells None (place.Live needle) of = absurd of
photo_at Tells None place.Gone of = tt
photo_at Tells None place.None of = tt
photo_at Tells (Some cell) (place.Unseen at size) of = of
photo_at Tells None (place.Unseen at size) of = absurd of

-- RUNS

pub longer_run : (o : Option Run) → option_map runs.longer (option_map copier_run o) ≡ option_map copier_run (option_map run_grown o)
longer_run None = refl
longer_run (Some run) = refl

pub loose_run : (o : Option Run) → option_map runs.loosened (option_map copier_run o) ≡ option_map copier_run o
loose_run None = refl
loose_run (Some run) = refl

pub known_goal : {D : Type 0} (files : D → Files) (r : Copy D) (s : Stored) (o : Option Run) → RunsAs files r s o → goal_of r ≡ option_map (λ run. run.goal) o
known_goal files r s None has = none_goal files r s has
known_goal files r s (Some run) has = run_goal files r s (copier_run run) has

pub known_none : {D : Type 0} (files : D → Files) (r : Copy D) (s : Stored) (o : Option Run) → RunsAs files r s o → goal_of r ≡ None → o ≡ None
known_none files r s None has none = refl
known_none files r s (Some run) has none = let wrong : Some run.goal ≡ None = sym (run_goal files r s (copier_run run) has) ∙ none in absurd cc

pub no_run : {D : Type 0} (files : D → Files) (r : Copy D) (s : Stored) (o : Option Run) → o ≡ None → goal_of r ≡ None → RunsAs files r s o
no_run files r s o e none = subst (λ (x : Option Run). RunsAs files r s x) (sym e) (goal_none files r s none)

-- one that goes on loosely
pub loosely : {D : Type 0} (files : D → Files) (r : Copy D) (s : Stored) (run : runs.Run) → runs.HasRun files r s (Some run) → runs.HasRun files r s (Some (runs.loosened run))
unfolding runs.HasRun
loosely files r s run has =
    let f = has.has in
    record {
      opened = has.opened;
      phase = has.phase;
      has = record {
        stage = f.stage;
        stands = f.stands;
        goal = f.goal;
        next = f.next;
        fresh = f.fresh;
        examined = f.examined;
        copying = f.copying;
        copies = f.copies;
        fewer = f.fewer;
        left = f.left;
        tight = λ e. let wrong : false ≡ true = e in absurd cc;
      };
    }

-- RUNS THAT ENDED

abbrev pub ended_by : Bool → ReplicaKnown → ReplicaKnown
ended_by true r = without_run r
ended_by false r = r

pub ended_stuck : (b : Bool) (r : ReplicaKnown) → (ended_by b r).stuck ≡ r.stuck
ended_stuck true r = refl
ended_stuck false r = refl

pub ended_poised : (b : Bool) (r : ReplicaKnown) → (ended_by b r).poised ≡ r.poised
ended_poised true r = refl
ended_poised false r = refl

pub ended_at : (ended : List Bool) (replicas : List ReplicaKnown) (j : ℕ) (b : Bool) → At ended j b → j < length replicas
    → slice_index_or (ended_where ended replicas) j empty_replica ≡ ended_by b (slice_index_or replicas j empty_replica)
ended_at [] replicas j b e h = absurd cc
ended_at (x ∷ ended) [] j b e h = absurd (omega (arith, h))
ended_at (true ∷ ended) (r ∷ replicas) zero b e h = let same : true ≡ b = cc in ap (λ c. ended_by c r) same
ended_at (false ∷ ended) (r ∷ replicas) zero b e h = let same : false ≡ b = cc in ap (λ c. ended_by c r) same
ended_at (true ∷ ended) (r ∷ replicas) (suc j) b e h = ended_at ended replicas j b e (let less : j < length replicas = omega (arith, h) in less)
ended_at (false ∷ ended) (r ∷ replicas) (suc j) b e h = ended_at ended replicas j b e (let less : j < length replicas = omega (arith, h) in less)

pub length-ended : (ended : List Bool) (replicas : List ReplicaKnown) → length (ended_where ended replicas) ≡ length replicas
length-ended [] replicas = refl
length-ended (x ∷ ended) [] = refl
length-ended (true ∷ ended) (r ∷ replicas) = ap suc (length-ended ended replicas)
length-ended (false ∷ ended) (r ∷ replicas) = ap suc (length-ended ended replicas)
