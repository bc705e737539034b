-- What clauses see of the writer of two copies.
use Rattle.std.specs.Prelude.{List, Option}

-- the copy that readers take, the operations that they do not see yet, and what the writer knows
pub record PairState (S O Q : Type 0) : Type 0 where
  pub shown : S
  pub pending : List O
  pub known : Option Q
