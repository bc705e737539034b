-- A disk that was formatted.
use Rattle.std.proofs.Common.{◌≡◌, ℕ, zero, suc, ◌<◌, false, List, [], length, inl, inr, sym, ap, subst, ◌∙◌, arith}
use Rattle.hay_needle.specs.declared.settings.Super.{Super}
use Rattle.hay_needle.specs.Super.{super_bytes}
use Rattle.hay_needle.specs.declared.needle.Cell.{Cell}
use Rattle.hay_disk.specs.Disk.{Files, FileState, Changes, IsFree, IsImage, IsSolid, Keeps, KeepsOthers, MayLeave}
use Rattle.hay_disk.proofs.Images.{solid_whole}
use Rattle.hay_disk.specs.Gate.{IsGate}
use Rattle.hay_head.specs.Head.{IsHead, head_magic, row_place}
use Rattle.hay_index.specs.Records.{IsIndex}
use Rattle.hay_index.proofs.IndexLaws.{index_gate}
use Rattle.hay_volume.specs.Cells.{IsVolume}
use Rattle.hay_volume.proofs.Readings.{one_reading as one_volume}
use Rattle.hay_volume.proofs.Volumes.{volume_gate}
use Rattle.hay_open.specs.Stored.{HeadRests, IndexRests, IsStored, OpensAs, Stored, VolumeRests, fresh_stored, head_super, index_super, volume_file, volume_super}
use Rattle.hay_open.proofs.Standing.{opens_void}

-- where each call changes one file alone
pub record Frames (f0 f1 f2 f3 f4 f5 f6 f7 : Files) : Type 0 where
  pub head : f6 0 ≡ f0 0
  pub volume_gone : f2 1 ≡ f1 1
  pub volume_stays : f7 1 ≡ f4 1
  pub index_gone : f4 2 ≡ f2 2
  pub index_stays : f7 2 ≡ f6 2
  pub others : (n : ℕ) → 2 < n → f7 n ≡ f0 n

pub frames : (f0 f1 f2 f3 f4 f5 f6 f7 : Files) → KeepsOthers 1 f0 f1 → KeepsOthers 2 f1 f2 → KeepsOthers 1 f2 f3 → KeepsOthers 1 f3 f4 → KeepsOthers 2 f4 f5 → KeepsOthers 2 f5 f6 → KeepsOthers 0 f6 f7
    → Frames f0 f1 f2 f3 f4 f5 f6 f7
frames f0 f1 f2 f3 f4 f5 f6 f7 a b c d e f g = record {
  head = f 0 (λ is. omega arith) ∙ e 0 (λ is. omega arith) ∙ d 0 (λ is. omega arith) ∙ c 0 (λ is. omega arith) ∙ b 0 (λ is. omega arith) ∙ a 0 (λ is. omega arith);
  volume_gone = b 1 (λ is. omega arith);
  volume_stays = g 1 (λ is. omega arith) ∙ f 1 (λ is. omega arith) ∙ e 1 (λ is. omega arith);
  index_gone = d 2 (λ is. omega arith) ∙ c 2 (λ is. omega arith);
  index_stays = g 2 (λ is. omega arith);
  others = λ n far. g n (λ is. omega arith) ∙ f n (λ is. omega arith) ∙ e n (λ is. omega arith) ∙ d n (λ is. omega arith) ∙ c n (λ is. omega arith) ∙ b n (λ is. omega arith) ∙ a n (λ is. omega arith);
}

pub fresh_head : (sup one : Super) (file : FileState) → one ≡ head_super sup → IsHead (super_bytes one) file.now 0 → IsSolid file → IsGate head_magic (row_place 1) file → HeadRests sup file 0
fresh_head sup one file same is solid gate = record {
  is = subst (λ (s : Super). IsHead (super_bytes s) file.now 0) same is;
  solid = solid;
  gate = gate;
}

-- nothing of a file that was taken away is sealed, nor of what was written then
pub still_free : (gone before made kept : FileState) → IsFree gone → before ≡ gone → Changes 0 72 before made → Keeps made kept → IsFree kept
still_free gone before made kept free same changes keeps k = keeps.free k (changes.free k (subst (λ (f : FileState). f.sealed k ≡ false) (sym same) (free k)))

pub fresh_volume : (sup one : Super) (made kept file : FileState) → one ≡ volume_super sup 0 → IsVolume (super_bytes one) made.now [] 64 → Keeps made kept → IsSolid kept
    → IsFree kept → file ≡ kept → VolumeRests sup file fresh_stored
fresh_volume sup one made kept file same is keeps solid free stays =
    let there : IsVolume (super_bytes (volume_super sup 0)) kept.now [] 64 =
    subst (λ (l : List ℕ). IsVolume (super_bytes (volume_super sup 0)) l [] 64) (sym keeps.now) (subst (λ (s : Super). IsVolume (super_bytes s) made.now [] 64) same is) in
    subst (λ (f : FileState). VolumeRests sup f fresh_stored) (sym stays)
    (record { is = there; solid = solid; gate = volume_gate (super_bytes (volume_super sup 0)) [] 64 kept there solid (λ k from. free k); flags = tt })

pub fresh_index : (sup one : Super) (made kept file : FileState) (end : ℕ) → one ≡ index_super sup 0 → IsIndex (super_bytes one) made.now [] 64 → Keeps made kept → IsSolid kept
    → IsFree kept → file ≡ kept → end ≡ 64 → IndexRests sup file fresh_stored end
fresh_index sup one made kept file end same is keeps solid free stays ends =
    let there : IsIndex (super_bytes (index_super sup 0)) kept.now [] 64 =
    subst (λ (l : List ℕ). IsIndex (super_bytes (index_super sup 0)) l [] 64) (sym keeps.now) (subst (λ (s : Super). IsIndex (super_bytes s) made.now [] 64) same is) in
    subst (λ (f : FileState). IndexRests sup f fresh_stored end) (sym stays)
    (subst (λ n. IndexRests sup kept fresh_stored n) (sym ends)
    (record { is = there; solid = solid; gate = index_gate (super_bytes (index_super sup 0)) [] 64 kept there solid (λ k from. free k) }))

-- all of the disk is solid then
pub all_solid : (f0 f1 f2 f3 f4 f5 f6 f7 : Files) → Frames f0 f1 f2 f3 f4 f5 f6 f7 → ((n : ℕ) → IsSolid (f0 n)) → IsSolid (f7 0) → IsSolid (f4 1) → IsSolid (f6 2) → (n : ℕ) → IsSolid (f7 n)
all_solid f0 f1 f2 f3 f4 f5 f6 f7 by old head volume index zero = head
all_solid f0 f1 f2 f3 f4 f5 f6 f7 by old head volume index (suc zero) = subst (λ (f : FileState). IsSolid f) (sym by.volume_stays) volume
all_solid f0 f1 f2 f3 f4 f5 f6 f7 by old head volume index (suc (suc zero)) = subst (λ (f : FileState). IsSolid f) (sym by.index_stays) index
all_solid f0 f1 f2 f3 f4 f5 f6 f7 by old head volume index (suc (suc (suc n))) = subst (λ (f : FileState). IsSolid f) (sym (by.others (suc (suc (suc n))) (omega arith))) (old (suc (suc (suc n))))

-- WHAT A STOP LEAVES

-- while the head file is void, and on the disk, nothing is found
pub void_left : (sup : Super) (old new : Files) (image : ℕ → List ℕ) (s : Stored) → new 0 ≡ old 0 → (old 0).now ≡ [] → IsSolid (old 0) → MayLeave new image → OpensAs sup image s → s ≡ fresh_stored
void_left sup old new image s same void solid leaves opens =
    opens_void sup image s (solid_whole (old 0) (image 0) solid (subst (λ (f : FileState). IsImage f (image 0)) same (leaves 0)) ∙ void) opens

-- a head file that is no longer than a new one is of generation 0
first_generation : (generation : ℕ) (superblock image : List ℕ) (old new : FileState) → old.now ≡ [] → IsSolid old → Changes 0 88 old new → IsImage new image
    → IsHead superblock image generation → generation ≡ 0
first_generation generation superblock image old new void solid changes leaves head =
    omega (arith, head.closed.room, leaves.no_longer, changes.longest, solid.longest, ap length void)

none_stored : (sup other : Super) (image : ℕ → List ℕ) (s : Stored) (file : FileState) → s.generation ≡ 0 → IsVolume (super_bytes (volume_super sup 0)) file.now [] 64
    → IsSolid file → IsImage file (image 1) → IsStored other image s → s ≡ fresh_stored
none_stored sup other image s file first volume solid leaves stored =
    let whole : image 1 ≡ file.now = solid_whole file (image 1) solid leaves in
    let there : IsVolume (super_bytes (volume_super other 0)) (image 1) s.cells s.end =
    subst (λ n. IsVolume (super_bytes (volume_super other n)) (image (volume_file n)) s.cells s.end) first stored.volume in
    let here : IsVolume (super_bytes (volume_super sup 0)) (image 1) [] 64 = subst (λ (l : List ℕ). IsVolume (super_bytes (volume_super sup 0)) l [] 64) (sym whole) volume in
    let same = one_volume 64 s.end 64 (image 1) s.cells [] there.has there.closed here.has here.closed in
    let records : s.records ≡ 0 = omega (arith, stored.lags, ap length same.0) in
    let with : List Cell → ℕ → ℕ → ℕ → Stored = λ c e r n. record { cells = c; end = e; records = r; generation = n } in
    ap (λ (c : List Cell). with c s.end s.records s.generation) same.0 ∙ ap (λ e. with [] e s.records s.generation) same.1
    ∙ ap (λ r. with [] 64 r s.generation) records ∙ ap (λ n. with [] 64 0 n) first

-- once it is written, the volume file beside it has no cells, by whatever superblock it is read
pub fresh_left : (sup other : Super) (files : Files) (image : ℕ → List ℕ) (s : Stored) (old : FileState) → old.now ≡ [] → IsSolid old → Changes 0 88 old (files 0)
    → IsVolume (super_bytes (volume_super sup 0)) (files 1).now [] 64 → IsSolid (files 1)
    → MayLeave files image → OpensAs other image s → s ≡ fresh_stored
unfolding OpensAs
fresh_left sup other files image s old void solid changes volume rests leaves (inl none) = none.1
fresh_left sup other files image s old void solid changes volume rests leaves (inr stored) =
    none_stored sup other image s (files 1) (first_generation s.generation (super_bytes (head_super other)) (image 0) old (files 0) void solid changes (leaves 0) stored.head)
    volume rests (leaves 1) stored

pub new_left : (sup one other : Super) (f0 f3 f4 f6 f7 : Files) (image : ℕ → List ℕ) (s : Stored) → f6 0 ≡ f0 0 → (f0 0).now ≡ [] → IsSolid (f0 0) → one ≡ volume_super sup 0
    → IsVolume (super_bytes one) (f3 1).now [] 64 → Keeps (f3 1) (f4 1) → IsSolid (f4 1)
    → f7 1 ≡ f4 1 → Changes 0 88 (f6 0) (f7 0) → MayLeave f7 image → OpensAs other image s → s ≡ fresh_stored
new_left sup one other f0 f3 f4 f6 f7 image s head void solid same is keeps rests stays changes leaves opens =
    let there : IsVolume (super_bytes (volume_super sup 0)) (f7 1).now [] 64 =
    subst (λ (l : List ℕ). IsVolume (super_bytes (volume_super sup 0)) l [] 64) (sym keeps.now ∙ ap (λ (f : FileState). f.now) (sym stays))
    (subst (λ (s : Super). IsVolume (super_bytes s) (f3 1).now [] 64) same is) in
    fresh_left sup other f7 image s (f6 0) (ap (λ (f : FileState). f.now) head ∙ void) (subst (λ (f : FileState). IsSolid f) (sym head) solid) changes there
    (subst (λ (f : FileState). IsSolid f) (sym stays) rests) leaves opens
