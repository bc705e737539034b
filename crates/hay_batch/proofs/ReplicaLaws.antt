-- A replica that a batch is added to.
use Rattle.std.proofs.Common.{◌≡◌, inl, ◌≤◌, ◌+◌, ℕ, List, ◌++◌, refl, sym, ap, subst, ◌∙◌, arith}
use Rattle.std.specs.Prelude.{slice_set}
use Rattle.hay_disk.specs.Counts.{Rose}
use Rattle.hay_needle.specs.declared.needle.Cell.{Cell}
use Rattle.hay_needle.specs.Needle.{needle_magic}
use Rattle.hay_disk.specs.Disk.{Files, IsImage, IsSolid, IsSolidIn, KeepsOthers}
use Rattle.hay_disk.specs.Gate.{IsGate}
use Rattle.hay_volume.specs.Cells.{IsVolume}
use Rattle.hay_volume.specs.declared.volume.VolumeFile.{VolumeFile}
use Rattle.hay_volume.proofs.Volumes.{volume_kept}
use Rattle.hay_batch.specs.declared.photo.NewPhoto.{NewPhoto}
use Rattle.hay_batch.specs.declared.replica.LoadReplica.{LoadReplica}
use Rattle.hay_batch.specs.Batches.{batch_total, new_cells}
use Rattle.hay_batch.specs.Replicas.{Adds, At, HasWithOrWithout, MayAdd, file_of}
use Rattle.hay_batch.proofs.Lists.{Went, at_below, at_same, at_set_same, went_every, went_next, went_step}

-- what an append says of one that was added
pub added : {D : Type 0} (Tells : Type 0) (files : D → Files) (photos : List NewPhoto) (old new : LoadReplica D) → new.volume ≡ record old.volume { end = old.volume.end + batch_total photos }
    → (Tells → (superblock : List ℕ) (cells : List Cell) → IsVolume superblock (file_of files old).now cells old.volume.end
    → IsVolume superblock (files new.disk old.volume.file).now (cells ++ new_cells old.volume.end photos) new.volume.end)
    → (Tells → IsSolid (files new.disk old.volume.file)) → (Tells → IsGate needle_magic new.volume.end (files new.disk old.volume.file)) → Adds Tells files photos old new
added Tells files photos old new moved grown solid next =
    let same : new.volume.file ≡ old.volume.file = ap (λ (v : VolumeFile). v.file) moved in
    record {
      volume = moved;
      ready = λ tells. subst (λ n. IsGate needle_magic new.volume.end (files new.disk n)) (sym same) (next tells);
      holds = λ tells superblock cells has. record {
        is = subst (λ n. IsVolume superblock (files new.disk n).now (cells ++ new_cells old.volume.end photos) new.volume.end) (sym same) (grown tells superblock cells has.is);
        solid = subst (λ n. IsSolid (files new.disk n)) (sym same) (solid tells);
        ready = subst (λ n. IsGate needle_magic new.volume.end (files new.disk n)) (sym same) (next tells);
      };
    }

-- what it says of one that was added or not
pub may_add : {D : Type 0} (files : D → Files) (photos : List NewPhoto) (old new : LoadReplica D) → new.volume.file ≡ old.volume.file → new.volume.capacity ≡ old.volume.capacity
    → ((superblock : List ℕ) (cells : List Cell) (image : List ℕ) → IsVolume superblock (file_of files old).now cells old.volume.end
    → IsSolidIn 0 old.volume.end (file_of files old) → IsImage (files new.disk old.volume.file) image
    → HasWithOrWithout superblock cells old.volume.end photos image)
    → KeepsOthers old.volume.file (files old.disk) (files new.disk) → MayAdd files photos old new
may_add files photos old new same room left others = record {
  file = same;
  room = room;
  left = λ superblock cells image has leaves. left superblock cells image has.is (λ k from to. has.solid.places k) (subst (λ n. IsImage (files new.disk n) image) same leaves);
  others = others;
}

-- where nothing was changed, a stop leaves what there was
pub may_add_same : {D : Type 0} (files : D → Files) (photos : List NewPhoto) (r : LoadReplica D) → MayAdd files photos r r
may_add_same files photos r = record {
  file = refl;
  room = refl;
  left = λ superblock cells image has leaves. inl (volume_kept superblock (file_of files r) image cells r.volume.end has.ready has.is (λ k from to. has.solid.places k) leaves);
  others = λ other apart. refl;
}

-- All that a call says of a replica.
pub record Appended {D : Type 0} (Tells : Type 0) (files : D → Files) (fault_count fuse_count : D → ℕ) (photos : List NewPhoto) (old new : LoadReplica D) : Type 0 where
  pub adds : Adds Tells files photos old new
  pub left : Tells → MayAdd files photos old new
  pub later : fault_count old.disk ≤ fault_count new.disk
  pub fuses : fuse_count new.disk ≡ fuse_count old.disk

-- What a call says of a replica whether or not the batch was added, and what is so of one that was not called.
pub record Touched {D : Type 0} (Tells : Type 0) (files : D → Files) (fault_count fuse_count : D → ℕ) (photos : List NewPhoto) (old new : LoadReplica D) : Type 0 where
  pub left : Tells → MayAdd files photos old new
  pub later : fault_count old.disk ≤ fault_count new.disk
  pub fuses : fuse_count new.disk ≡ fuse_count old.disk

touched_same : {D : Type 0} (Tells : Type 0) (files : D → Files) (fault_count fuse_count : D → ℕ) (photos : List NewPhoto) (r : LoadReplica D) → Touched Tells files fault_count fuse_count photos r r
touched_same Tells files fault_count fuse_count photos r = record { left = λ tells. may_add_same files photos r; later = omega arith; fuses = refl }

-- each replica, where all or some were called
pub touched_each : {D : Type 0} (Tells : Type 0) (files : D → Files) (fault_count fuse_count : D → ℕ) (photos : List NewPhoto) (n : ℕ) (old new : List (LoadReplica D))
    → Went (Appended Tells files fault_count fuse_count photos) n old new → (j : ℕ) (r r' : LoadReplica D) → At old j r → At new j r' → Touched Tells files fault_count fuse_count photos r r'
touched_each {D} Tells files fault_count fuse_count photos n old new went j r r' e f =
    went_every (Appended Tells files fault_count fuse_count photos) (Touched Tells files fault_count fuse_count photos) n old new went
    (λ x y p. record { left = p.left; later = p.later; fuses = p.fuses }) (λ i x at. touched_same Tells files fault_count fuse_count photos x) j r r' e f

-- and where the next one refused
pub touched_broken : {D : Type 0} (Tells : Type 0) (files : D → Files) (fault_count fuse_count : D → ℕ) (photos : List NewPhoto) (n : ℕ) (old new : List (LoadReplica D)) (here after : LoadReplica D)
    → Went (Appended Tells files fault_count fuse_count photos) n old new → At new n here → (Tells → MayAdd files photos here after)
    → fault_count here.disk ≤ fault_count after.disk → fuse_count after.disk ≡ fuse_count here.disk
    → (j : ℕ) (r r' : LoadReplica D) → At old j r → At (slice_set new n after) j r' → Touched Tells files fault_count fuse_count photos r r'
touched_broken {D} Tells files fault_count fuse_count photos n old new here after went there left later fuses j r r' e f =
    let R = Touched Tells files fault_count fuse_count photos in
    went_every R R (n + 1) old (slice_set new n after)
    (went_step (Appended Tells files fault_count fuse_count photos) R n old new here after went there (λ x y p. record { left = p.left; later = p.later; fuses = p.fuses })
    (record { left = left; later = later; fuses = fuses }))
    (λ x y p. p) (λ i x at. touched_same Tells files fault_count fuse_count photos x) j r r' e f

-- the count of the replica whose disk failed
pub failed_there : {D : Type 0} (R : LoadReplica D → LoadReplica D → Type 0) (fault_count : D → ℕ) (n found : ℕ) (old new : List (LoadReplica D)) (here after : LoadReplica D)
    → Went R n old new → At new n here
    → Rose (fault_count here.disk) (fault_count after.disk) → found ≡ fault_count after.disk
    → (j faults : ℕ) (r r' : LoadReplica D) → n ≡ j → found ≡ faults → At old j r → At (slice_set new n after) j r' → Rose (fault_count r.disk) (fault_count r'.disk) × (faults ≡ fault_count r'.disk)
failed_there {D} R fault_count n found old new here after went there rose counts j faults r r' place same e f =
    let was : At old n here = went_next R n old new here went there in
    let r_is : here ≡ r = at_same old n here r was (subst (λ k. At old k r) (sym place) e) in
    let after_is : after ≡ r' = at_same (slice_set new n after) n after r' (at_set_same new n after (at_below new n here there)) (subst (λ k. At (slice_set new n after) k r') (sym place) f) in (
      subst (λ x. Rose (fault_count x.disk) (fault_count r'.disk)) r_is (subst (λ x. Rose (fault_count here.disk) (fault_count x.disk)) after_is rose),
      sym same ∙ counts ∙ ap (λ (x : LoadReplica D). fault_count x.disk) after_is,
    )
