-- What is read from a source and written to a sink, where they tell it.
use Rattle.std.specs.Prelude.{◌≡◌, ℕ, List, [], ◌++◌, take, Option, Some, None}

-- A source that had these bytes left gave the piece, and has the rest left. One that doesn't tell claims nothing.
abbrev pub Took : Option (List ℕ) → List ℕ → Option (List ℕ) → Type 0
Took None piece after = Unit {0}
Took (Some all) piece after = (rest : List ℕ) × (after ≡ Some rest) × (all ≡ piece ++ rest)

-- A source that tells has nothing left.
abbrev pub IsSpent : Option (List ℕ) → Type 0
IsSpent None = Unit {0}
IsSpent (Some all) = all ≡ []

-- A sink holds these bytes behind what it held. One that doesn't tell claims nothing.
abbrev pub Wrote : Option (List ℕ) → List ℕ → Option (List ℕ) → Type 0
Wrote None bytes after = Unit {0}
Wrote (Some old) bytes after = after ≡ Some (old ++ bytes)

-- Some front of the bytes was written.
abbrev pub WrotePart : Option (List ℕ) → List ℕ → Option (List ℕ) → Type 0
WrotePart before bytes after = (n : ℕ) × Wrote before (take n bytes) after
