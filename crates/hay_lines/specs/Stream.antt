-- A script as it comes in.
use Rattle.std.specs.Prelude.{◌≡◌, ℕ, ◌+◌, ◌-◌, ◌≤◌, Bool, List, [], ◌++◌, length, Option, Some, None, option_map, if◌then◌else◌}
use Rattle.hay_disk.specs.Streams.{Took}

-- Bytes that were taken and not given out yet, how many were taken in all, and whether the end was met.
pub record Held : Type 0 where
  pub bytes : List ℕ
  pub taken : ℕ
  pub ended : Bool

-- the bytes that are still to come, where the source tells
abbrev pub rest_of : Option (List ℕ) → Held → Option (List ℕ)
rest_of left held = option_map (λ all. held.bytes ++ all) left

-- the most that may still come of a script of at most so many bytes: its bytes, and its end
abbrev pub budget : ℕ → Held → ℕ
budget limit held = length held.bytes + (limit - held.taken) + (if held.ended then 0 else 1)

-- What was taken and what is left make up the same.
abbrev pub Accounts : Option (List ℕ) → Held → Option (List ℕ) → Held → Type 0
Accounts None held after held' = Unit {0}
Accounts (Some all) held after held' = (rest : List ℕ) × (after ≡ Some rest) × (held.taken + length all ≡ held'.taken + length rest)

-- one byte more was taken than a script may have
abbrev pub IsTooLong : ℕ → Option (List ℕ) → Held → Option (List ℕ) → Type 0
IsTooLong limit None held after = Unit {0}
IsTooLong limit (Some all) held after = (rest : List ℕ) × (after ≡ Some rest) × (held.taken + length all ≡ limit + 1 + length rest)

-- all that was left was taken
abbrev pub TookAll : Option (List ℕ) → List ℕ → Option (List ℕ) → Type 0
TookAll None bytes after = Unit {0}
TookAll (Some all) bytes after = (all ≡ bytes) × (after ≡ Some [])

-- one byte was taken
abbrev pub TookOne : Option (List ℕ) → Option (List ℕ) → Type 0
TookOne before after = (piece : List ℕ) × (length piece ≡ 1) × Took before piece after

-- where it told before, nothing is left
abbrev pub IsReadToEnd : Option (List ℕ) → Option (List ℕ) → Type 0
IsReadToEnd None after = Unit {0}
IsReadToEnd (Some all) after = after ≡ Some []

-- at most so many bytes were taken, where it told before
abbrev pub TookAtMost : ℕ → Option (List ℕ) → Option (List ℕ) → Type 0
TookAtMost limit before after =
    (script : List ℕ) → before ≡ Some script → (rest : List ℕ) × (after ≡ Some rest) × (length script ≤ limit + length rest)
