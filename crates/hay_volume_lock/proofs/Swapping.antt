-- What the swap of a compaction's files is found to be, as a step of a lane.
use Rattle.std.proofs.Common.{◌≡◌, ℕ, ◌+◌, ◌<◌, ◌≤◌, length, Option, Some, None, refl, sym, ap, subst, ◌∙◌, arith}
use Rattle.hay_needle.specs.declared.settings.TheConstants.{LAST_GENERATION}
use Rattle.hay_core.specs.declared.entry.CoreTag.{CoreTag}
use Rattle.hay_disk.specs.Disk.{Files}
use Rattle.hay_legal.specs.declared.known.Run.{Run}
use Rattle.hay_legal.specs.declared.known.VolumeKnown.{VolumeKnown}
use Rattle.hay_legal.specs.Known.{replica_at}
use Rattle.hay_legal.specs.Plain.{first_machine, frozen_by, swapped}
use Rattle.hay_history.specs.LaneSteps.{MayHaveSizes, Standing}
use Rattle.hay_logical.specs.Answers.{HasSizes, IsFinished, IsLoose, IsTight, IsTightened, change_at}
use Rattle.hay_logical.specs.Fits.{At, RunsAs, copier_run}
use Rattle.hay_logical.specs.Stands.{ReplicaStands, Stands, StandsBy, TakesChanges}
use Rattle.hay_logical.specs.Volumes.{Volume}
use Rattle.hay_logical.proofs.Lists.{at_there}
use Rattle.hay_physical.specs.OpenCopies.{Copy}
use Rattle.hay_physical.specs.CompactionRuns as runs
use Rattle.hay_physical.proofs.Laws.{run_next}
use Rattle.hay_volume_lock.specs.declared.act.Made.TheVariants as made_is
use Rattle.hay_volume_lock.specs.declared.guarded.Guarded.{Guarded}
use Rattle.hay_volume_lock.proofs.Finishing.{frozen_known}
use Rattle.hay_volume_lock.proofs.Growing.{LeadsTo, ended_there, tight_ended, tight_frozen}

-- WHAT IS KNOWN

module _ {D P : Type 0} (files : D → Files) (Tells : Type 0) (volume : Volume D P) (k : VolumeKnown) where
  -- a volume that is not frozen takes changes
  takes : Stands files Tells volume k → k.frozen ≡ None → TakesChanges files Tells volume k
  unfolding Stands
  takes stands thawed = subst (λ (o : Option ℕ). StandsBy files Tells volume k o) (sym stands.frozen ∙ thawed) stands.by

  replica_there : Stands files Tells volume k → (j : ℕ) → j < (volume.settings).replicas → (r : Copy D) × At volume.replicas j r
  unfolding Stands
  replica_there stands j less = at_there volume.replicas j (let all = stands.all in (let h : j < length volume.replicas = omega (arith, all, less) in h))

  -- a compaction makes the next generation
  pub next_goal : Stands files Tells volume k → k.frozen ≡ None → (j : ℕ) → j < (volume.settings).replicas → (run : Run) → (replica_at k j).run ≡ Some run → run.goal ≡ (replica_at k j).generation + 1
  next_goal stands thawed j less run stood =
      let r = replica_there stands j less in
      let is : ReplicaStands files Tells volume k j r.0 = (takes stands thawed).each j r.0 r.1 in
      let has : runs.HasRun files r.0 is.stored (Some (copier_run run)) = subst (λ (o : Option Run). RunsAs files r.0 is.stored o) stood is.run in
      run_next files r.0 is.stored (copier_run run) has ∙ ap (λ (n : ℕ). n + 1) (sym (is.fits).generation)

  -- the sizes of a replica are the only ones
  pub same_sizes : Stands files Tells volume k → k.frozen ≡ None → (j : ℕ) → j < (volume.settings).replicas → (end cells end' cells' : ℕ)
      → ((r : Copy D) → At volume.replicas j r → HasSizes files r end cells) → ((r : Copy D) → At volume.replicas j r → HasSizes files r end' cells') → (end ≡ end') × (cells ≡ cells')
  same_sizes stands thawed j less end cells end' cells' one other =
      let r = replica_there stands j less in
      let is : ReplicaStands files Tells volume k j r.0 = (takes stands thawed).each j r.0 r.1 in
      let a = one r.0 r.1 is.stored is.stands in
      let b = other r.0 r.1 is.stored is.stands in
      (a.0 ∙ sym b.0, a.1 ∙ sym b.1)

-- what a compaction that was tight gave a replica is just what stood
pub tight_swap : {D P : Type 0} (files : D → Files) (Tells : Type 0) (k : VolumeKnown) (j end cells : ℕ) (new : Volume D P) → k.frozen ≡ None → j < (new.settings).replicas
    → IsTightened files Tells k j new → ((r : Copy D) → At new.replicas j r → HasSizes files r end cells) → IsTight k j end cells
tight_swap files Tells k j end cells new thawed less tightened sizes =
    let swaps = tightened.swaps in
    let same = same_sizes files Tells new (change_at k j (swapped swaps.0 swaps.1)) swaps.3 thawed j less swaps.0 swaps.1 end cells tightened.sizes sizes in
    subst (λ (n : ℕ). IsTight k j end n) same.1 (subst (λ (n : ℕ). IsTight k j n swaps.1) same.0 swaps.2)

-- A swap of replica j gave it this end and so many cells.
pub record IsSwap {D P : Type 0} (files : D → Files) (Tells : Type 0) (k : VolumeKnown) (j g end cells : ℕ) (new : Volume D P) : Type 0 where
  pub thawed : k.frozen ≡ None
  pub run : Run
  pub stood : (replica_at k j).run ≡ Some run
  pub goal : run.goal ≡ (replica_at k j).generation + 1
  pub most : run.goal ≤ LAST_GENERATION
  pub sizes : MayHaveSizes k j end cells
  pub next : g ≡ (replica_at k j).generation + 1
  pub stands : Stands files Tells new (change_at k j (swapped end cells))

pub is_swap : {D P : Type 0} (files : D → Files) (Tells : Type 0) (k : VolumeKnown) (j g end cells : ℕ) (old new : Volume D P) → Stands files Tells old k
    → j < (old.settings).replicas → j < (new.settings).replicas
    → IsFinished files Tells k j g new → ((r : Copy D) → At new.replicas j r → HasSizes files r end cells) → IsSwap files Tells k j g end cells new
is_swap files Tells k j g end cells old new stands less less' finished sizes =
    let swaps = finished.swaps in
    let run = (finished.stood).0 in
    let low = (finished.stood).1 in
    let goal = next_goal files Tells old k stands finished.thawed j less run.0 run.1 in
    let same = same_sizes files Tells new (change_at k j (swapped swaps.0 swaps.1)) swaps.3 finished.thawed j less' swaps.0 swaps.1 end cells finished.sizes sizes in
    let loose : IsLoose k j end cells = subst (λ (n : ℕ). IsLoose k j end n) same.1 (subst (λ (n : ℕ). IsLoose k j n swaps.1) same.0 swaps.2) in
    record {
      thawed = finished.thawed;
      run = run.0;
      stood = run.1;
      goal = goal;
      most = (let h : (run.0).goal ≤ LAST_GENERATION = omega (arith, goal, low) in h);
      sizes = record { photos_fit = loose.0; no_longer = loose.1; photos = loose.2; no_more = loose.3 };
      next = finished.next;
      stands = subst (λ (n : ℕ). Stands files Tells new (change_at k j (swapped end n))) same.1 (subst (λ (n : ℕ). Stands files Tells new (change_at k j (swapped n swaps.1))) same.0 swaps.3);
    }

-- AS A STEP

module _ {D P : Type 0} (Tells : Type 0) (files : D → Files) (PieceTells : Type 0) (faults fuses : D → ℕ) (tag : CoreTag) (old : Guarded D P) (j g end cells : ℕ)
    (within : j < ((old.logical).settings).replicas) where
  abbrev Stood : VolumeKnown → Type 0
  Stood k = Stands files PieceTells old.logical k

  pub swap_leads : (new : Guarded D P) (before : Standing) → Stood before.volume → length (new.logical).replicas ≡ length (old.logical).replicas
      → ((new.logical).frozen ≡ None → (i : ℕ) → (i ≡ j → ⊥) → (r r' : Copy D) → At (old.logical).replicas i r → At (new.logical).replicas i r' → r' ≡ r)
      → IsSwap files PieceTells before.volume j g end cells new.logical
      → LeadsTo Tells files PieceTells faults fuses tag old new (made_is.Swaps j end cells None) before
  swap_leads new before s count others swap = record {
    leads = (swap.thawed, within, (swap.run, swap.stood, swap.goal, swap.most), swap.sizes, refl);
    stands = swap.stands;
    tight = tight_ended files tag (made_is.Swaps j end cells None) old new before j count others (λ i begins. absurd (cc begins))
        (ended_there files PieceTells old.logical before.volume s j within (swapped end cells) (λ r. refl));
  }

  -- the volume was frozen besides
  pub froze_leads : (mid : Volume D P) (new : Guarded D P) (before : Standing) → IsSwap files PieceTells before.volume j g end cells mid
      → Stands files PieceTells new.logical (frozen_by (first_machine (old.logical).settings (old.logical).number) (change_at before.volume j (swapped end cells)))
      → LeadsTo Tells files PieceTells faults fuses tag old new (made_is.Swaps j end cells (Some (first_machine (old.logical).settings (old.logical).number))) before
  froze_leads mid new before swap stands =
      let m : ℕ = first_machine (old.logical).settings (old.logical).number in record {
        leads = (swap.thawed, within, (swap.run, swap.stood, swap.goal, swap.most), swap.sizes, refl);
        stands = stands;
        tight =
            tight_frozen files tag (made_is.Swaps j end cells (Some m)) old new before m (sym
            (frozen_known files PieceTells new.logical (frozen_by m (change_at before.volume j (swapped end cells))) stands));
      }
