-- A needle that a volume file gave out.
use Rattle.std.specs.Prelude.{ℕ, List}

-- its place in the file, the number of its photo's bytes, and its own bytes, of which the flags byte may have changed since
pub record SealedNeedle : Type 0 where
  pub at : ℕ
  pub size : ℕ
  pub bytes : List ℕ
