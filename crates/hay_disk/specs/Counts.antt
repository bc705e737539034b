-- Counts of faults and of fuses.
use Rattle.std.specs.Prelude.{◌≡◌, ◌⊎◌, ◌≤◌, ◌<◌, ◌+◌, ◌-◌, ◌^◌, ℕ, Bool, true}

-- a count is greater than before, or stands at its greatest value
abbrev pub Rose : ℕ → ℕ → Type 0
Rose before after = (before < after) ⊎ (after ≡ 2 ^ 64 - 1)

-- A count of faults never falls, and the call failed only where it rose.
pub record IsCounted (before after : ℕ) (failed : Type 0) : Type 0 where
  pub later : before ≤ after
  pub cause : failed → Rose before after

-- Where an arm is sure it stays so, and its count stays.
abbrev pub StaysSure : Bool → Bool → ℕ → ℕ → Type 0
StaysSure sure still before after = sure ≡ true → (still ≡ true) × (after ≡ before)

-- a count goes up by one, or stands at its greatest value
abbrev pub IsNext : ℕ → ℕ → Type 0
IsNext before after = (after ≡ before + 1) ⊎ (after ≡ 2 ^ 64 - 1)
