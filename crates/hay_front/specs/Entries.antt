-- Entries of the log.
use Rattle.std.specs.Prelude.{List, [], ◌∷◌}
use Rattle.hay_front.specs.declared.front.Tag.{Tag}

-- an operation that counts, with its tag
pub record LogEntry (D : Type 0) : Type 0 where
  pub tag : Tag
  pub deed : D

-- each tag with what it is of
abbrev pub entries : {D : Type 0} → List Tag → List D → List (LogEntry D)
entries [] ds = []
entries (t ∷ ts) [] = []
entries (t ∷ ts) (d ∷ ds) = record { tag = t; deed = d } ∷ entries ts ds
