-- What of a file may not be on the disk.
use Rattle.std.specs.Prelude.{◌≤◌, ◌<◌, ℕ, Bool}
use Rattle.hay_filedisk.specs.declared.unsynced.Unsynced.{Unsynced}

-- whether the byte at a place is in the range that was written since the last good sync
abbrev pub IsUnsynced : Unsynced → ℕ → Type 0
IsUnsynced unsynced k = (unsynced.from ≤ k) × (k < unsynced.to)

-- whether what is in that range is between two places
abbrev pub AreWithin : Unsynced → ℕ → ℕ → Type 0
AreWithin unsynced low high = (k : ℕ) → IsUnsynced unsynced k → (low ≤ k) × (k < high)

-- whether a sync has failed since the last good one
abbrev pub has_failed : Unsynced → Bool
has_failed unsynced = unsynced.has_failed
