-- A line that is read byte by byte.
use Rattle.std.specs.Prelude.{ℕ, List, [], ◌∷◌, ◌++◌}

-- these bytes, before the first of the lines
abbrev pub onto_line : List ℕ → List (List ℕ) → List (List ℕ)
onto_line [] lines = lines
onto_line (b ∷ bytes) [] = (b ∷ bytes) ∷ []
onto_line (b ∷ bytes) (line ∷ lines) = ((b ∷ bytes) ++ line) ∷ lines
