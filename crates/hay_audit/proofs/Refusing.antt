-- Tries that refuse, and what is told of them.
use Rattle.std.proofs.Common.{◌≡◌, ℕ, suc, Bool, true, false, List, [], ◌∷◌, length, map, Option, Some, None, refl, ap, ◌∙◌}
use Rattle.std.specs.Prelude.{◌&&◌}
use Rattle.hay_reply.specs.declared.Refused.{Refused}
use Rattle.hay_audit_steps.specs.Next.{refuse_so}
use Rattle.hay_audit.specs.Refusing.{refuses}

pub refused_next : (a : Option Refused) (tries : List (Option Refused)) (b : Refused) (refused : List Refused) → refuse_so (a ∷ tries) (b ∷ refused) ≡ refuses a b && refuse_so tries refused
refused_next None tries b refused = refl
refused_next (Some a) tries b refused = refl

and_false : (a : Bool) → a && false ≡ false
and_false true = refl
and_false false = refl

-- one refusal is told of each try
pub other_length : (refusal : ℕ → Option Refused) (tries : List ℕ) (refused : List Refused) → (length tries ≡ length refused → ⊥) → refuse_so (map refusal tries) refused ≡ false
other_length refusal [] [] h = absurd (h refl)
other_length refusal [] (b ∷ refused) h = refl
other_length refusal (v ∷ tries) [] h = none (refusal v) (map refusal tries)
  where
    none : (a : Option Refused) (rest : List (Option Refused)) → refuse_so (a ∷ rest) [] ≡ false
    none None rest = refl
    none (Some a) rest = refl
other_length refusal (v ∷ tries) (b ∷ refused) h =
    refused_next (refusal v) (map refusal tries) b refused
    ∙ ap (λ (rest : Bool). refuses (refusal v) b && rest) (other_length refusal tries refused (λ e. h (ap (λ (n : ℕ). suc n) e)))
    ∙ and_false (refuses (refusal v) b)
