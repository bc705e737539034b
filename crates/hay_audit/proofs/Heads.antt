-- A text that begins with another.
use Rattle.std.proofs.Common.{◌≡◌, ◌≢◌, ℕ, true, false, List, ◌++◌, length, drop, refl, sym, ◌∙◌}
use Rattle.std.specs.Prelude.{◌==◌}
use Rattle.std.specs.List.{starts_with}
use Rattle.std.proofs.lemmas.Bool.Decides.{Decides-eqb}
use Rattle.std.proofs.lemmas.Slice.Eq.{starts_is}

pub head_is : (text head : List ℕ) → starts_with ◌==◌ text head ≡ true → text ≡ head ++ drop (length head) text
head_is text head e = (starts_is Decides-eqb text head (starts_with ◌==◌ text head) refl).0 e

pub head_is_not : (text head : List ℕ) → starts_with ◌==◌ text head ≡ false → (rest : List ℕ) → text ≢ head ++ rest
head_is_not text head e rest is = absurd (let lie : false ≡ true = sym e ∙ (starts_is Decides-eqb text head (starts_with ◌==◌ text head) refl).1 rest is in cc)
