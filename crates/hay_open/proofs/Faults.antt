-- What a refusal was, from what was told.
use Rattle.std.proofs.Common.{◌≡◌, ◌<◌, ℕ, List, [], ◌∷◌, length, inl, inr, refl, arith}
use Rattle.hay_open.specs.declared.fault.OpenFault.{OpenFault}
use Rattle.hay_open.specs.declared.fault.OpenFault.TheVariants as open_fault
use Rattle.hay_open.specs.declared.fault.Refusal.{Refusal}
use Rattle.hay_open.specs.declared.fault.Refusal.TheVariants as refusal
use Rattle.hay_open.specs.Faults.{told_fault}
use Rattle.hay_open.specs.Stored.{IsReplicaFile}

pub told_damaged : (r : Refusal) (faults file at : ℕ) (told : OpenFault) → told ≡ told_fault r faults → told ≡ open_fault.Damaged file at → r ≡ refusal.Damaged file at
told_damaged refusal.Failed faults file at told is damaged = absurd cc
told_damaged (refusal.Damaged n k) faults file at told is damaged = cc
told_damaged refusal.NoMemory faults file at told is damaged = absurd cc

-- a file without bytes
pub void_is : (bytes : List ℕ) → length bytes ≡ 0 → bytes ≡ []
void_is [] is = refl
void_is (b ∷ bytes) is = absurd (omega arith)

-- a replica's disk has no file behind those of the last generation
pub past_the_last : (file : ℕ) → 131072 < file → IsReplicaFile file → ⊥
past_the_last file far (inl head) = omega (arith, far, head)
past_the_last file far (inr (generation, most, inl volume)) = omega (arith, far, most, volume)
past_the_last file far (inr (generation, most, inr index)) = omega (arith, far, most, index)
