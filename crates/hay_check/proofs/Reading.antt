-- What was read of the files of a disk.
use Rattle.std.proofs.Common.{◌≡◌, inr, ℕ, ◌≤◌, take, subst, ◌∙◌, Err, Result}
use Rattle.hay_needle.specs.declared.settings.Super.{Super}
use Rattle.hay_needle.specs.Super.{super_bytes}
use Rattle.hay_needle.specs.declared.settings.TheConstants.{LAST_GENERATION}
use Rattle.hay_disk.specs.Disk.{Files}
use Rattle.hay_head.specs.Head.{IsHead}
use Rattle.hay_volume.specs.Cells.{IsDamagedCell}
use Rattle.hay_open.specs.Stored.{head_super, volume_file, volume_super}
use Rattle.hay_open.proofs.Reading.{there}
use Rattle.hay_check.specs.declared.fault.Refusal.{Refusal}
use Rattle.hay_check.specs.declared.fault.Refusal.TheVariants.{Damaged}
use Rattle.hay_check.specs.Damage.{IsDamagedFront, IsDamagedVolume}

-- a refusal that was passed on
pub same_refusal : {T : Type 0} (r : Result T Refusal) (passed fault : Refusal) (file at : ℕ) → r ≡ Err passed → passed ≡ fault → r ≡ Err (Damaged file at) → fault ≡ Damaged file at
same_refusal r passed fault file at is from damaged = cc

-- damage behind the superblock
pub cell_damage : (sup : Super) (f g : Files) (file number at : ℕ) → g ≡ f → take 64 (f file).now ≡ super_bytes sup → (number ≡ file) × IsDamagedCell 64 (g file).now at
    → (number ≡ file) × IsDamagedVolume sup (f file).now at
cell_damage sup f g file number at same begins damage = (damage.0, inr (begins, subst (λ (fs : Files). IsDamagedCell 64 (fs file).now at) same damage.1))

-- damage of the volume file that the head names
pub volume_damage : (sup vsup : Super) (f g : Files) (generation file number at : ℕ) → IsHead (super_bytes (head_super sup)) (f 0).now generation → g ≡ f
    → (generation ≤ LAST_GENERATION → number ≡ volume_file generation)
    → vsup ≡ volume_super sup generation → (file ≡ number) × IsDamagedVolume vsup (g number).now at → IsDamagedFront sup (λ n. (f n).now) file at
volume_damage sup vsup f g generation file number at head same numbered vsup_is damage =
    let is = numbered head.most in
    inr (
      generation,
      head,
      damage.0 ∙ is,
      there (λ l. IsDamagedVolume (volume_super sup generation) l at) f g number (volume_file generation) same is (subst (λ (s : Super). IsDamagedVolume s (g number).now at) vsup_is damage.1),
    )
