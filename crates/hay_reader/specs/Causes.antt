-- Why replicas were passed over.
use Rattle.std.specs.Prelude.{◌≡◌, ◌⊎◌, ℕ, ◌+◌, ◌-◌, ◌%◌, ◌^◌, ◌<◌, ◌≤◌, ◌==◌, not, Bool, Err, List, [], ◌∷◌, length, map, take, drop, take_while}
use Rattle.std.specs.List.{AllByRecursion, range_with_len}
use Rattle.hay_needle.specs.declared.needle.Cookie.{Cookie}
use Rattle.hay_reply.specs.declared.Cause.{Cause}
use Rattle.hay_reply.specs.declared.Cause.TheVariants as cause
use Rattle.hay_map.specs.Places.{place_in}
use Rattle.hay_map.specs.declared.place.Place.{Place}
use Rattle.hay_reader.specs.Tried.{PlaceGives}
use Rattle.hay_reader.specs.declared.causes.PassedReplica.{PassedReplica}

-- the replicas of the first so many tries, from this one on
abbrev pub tried_from : ℕ → ℕ → ℕ → List ℕ
tried_from start replicas tries = map (λ i. (start + i) % replicas) (range_with_len 0 tries)

abbrev pub EachPair : {X : Type 0} → (X → X → Type 0) → List X → Type 0
EachPair R [] = Unit {0}
EachPair R (x ∷ xs) = AllByRecursion (R x) xs × EachPair R xs

-- a count that the arm came up to between two counts of it; its greatest value may come again
abbrev pub CameUp : ℕ → ℕ → ℕ → Type 0
CameUp before count after = ((before < count) ⊎ (count ≡ 2 ^ 64 - 1)) × (count ≤ after)

-- an arm's failure is a count that it came up to, of 64 bits
abbrev pub HasArmCause : ℕ → ℕ → Cause → Type 0
HasArmCause before after (cause.Arm f) = CameUp before f after × (after < 2 ^ 64)
HasArmCause before after (cause.Disk f) = ⊥
HasArmCause before after (cause.Damage at) = Unit {0}

-- of two counts of the arm the later one is greater, or the greatest
abbrev pub ArmRises : Cause → Cause → Type 0
ArmRises (cause.Arm f) (cause.Arm g) = (f < g) ⊎ (g ≡ 2 ^ 64 - 1)
ArmRises (cause.Arm f) (cause.Disk g) = Unit {0}
ArmRises (cause.Arm f) (cause.Damage at) = Unit {0}
ArmRises (cause.Disk f) later = Unit {0}
ArmRises (cause.Damage at) later = Unit {0}

abbrev pub IsArm : Cause → Type 0
IsArm (cause.Arm f) = Unit {0}
IsArm (cause.Disk f) = ⊥
IsArm (cause.Damage at) = ⊥

abbrev pub IsDamage : Cause → Type 0
IsDamage (cause.Damage at) = Unit {0}
IsDamage (cause.Arm f) = ⊥
IsDamage (cause.Disk f) = ⊥

-- These are the replicas that come first, from `start` on.
abbrev pub ComeFirst : ℕ → ℕ → List PassedReplica → Type 0
ComeFirst start replicas passed = map (λ over. over.replica) passed ≡ tried_from start replicas (length passed)

-- of all causes those of this call, where these replicas were passed over before it
abbrev pub passed_now : List PassedReplica → List PassedReplica → List PassedReplica
passed_now passed causes = drop (length passed) causes

-- The replicas that come first were passed over, some of them before this call, and each of the others with its cause in this call.
pub record Passes (start replicas before after : ℕ) (passed causes : List PassedReplica) : Type 0 where
  pub begins : take (length passed) causes ≡ passed
  pub order : ComeFirst start replicas causes
  pub each : AllByRecursion (λ over. HasArmCause before after over.cause) (passed_now passed causes)
  pub rises : EachPair (λ a b. ArmRises a.cause b.cause) (passed_now passed causes)

-- An arm before and after a call.
pub record ArmUse : Type 0 where
  pub sure : Bool
  pub before : ℕ
  pub after : ℕ

-- The replicas that come first in a row were passed over, and each cause of this call is what the try of the place gives.
pub record PassesRow {P : Type 0} (Tells : Type 0) (arm : ArmUse) (start : ℕ) (row : List (Place P)) (cookie : Cookie) (passed causes : List PassedReplica) : Type 0 where
  pub passes : Passes start (length row) arm.before arm.after passed causes
  pub places : AllByRecursion (λ over. PlaceGives Tells arm.sure cookie [] (place_in row over.replica) (Err over.cause)) (passed_now passed causes)

-- the replicas that this call may try, in its order
abbrev pub left_from : ℕ → ℕ → List PassedReplica → List ℕ
left_from start replicas passed = drop (length passed) (tried_from start replicas replicas)

-- The arm's count rose for each replica that this call tried before this one.
abbrev pub PassedBefore : ℕ → ℕ → List PassedReplica → ℕ → ℕ → ℕ → Type 0
PassedBefore start replicas passed j before after =
    (before + length (take_while (λ i. not (i == j)) (left_from start replicas passed)) ≤ after) ⊎ (after ≡ 2 ^ 64 - 1)
