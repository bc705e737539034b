-- Replicas that were passed over, and their causes.
use Rattle.std.proofs.Common.{◌≡◌, ℕ, suc, ◌≤◌, Bool, true, false, List, [], ◌∷◌, length, drop, refl, ap, ◌∙◌}
use Rattle.std.proofs.Math.ListN.{drop_of_length-le}
use Rattle.std.specs.Prelude.{◌==◌, ◌&&◌}
use Rattle.hay_needle.specs.declared.settings.Settings.{Settings}
use Rattle.hay_reply.specs.declared.Passed.{Passed}
use Rattle.hay_legal.specs.declared.known.Known.{Known}
use Rattle.hay_legal.specs.Known.{machine_of}
use Rattle.hay_audit_steps.specs.Next.{all_caused, may_cause, may_pass}

and_false : (a b : Bool) → a && (b && false) ≡ false
and_false true true = refl
and_false true false = refl
and_false false b = refl

-- there is one cause for each replica
pub other_length : (settings : Settings) (b : Known) (lane v : ℕ) (order : List ℕ) (causes : List Passed) → (length order ≡ length causes → ⊥) → may_pass settings b lane v order causes ≡ false
other_length settings b lane v [] [] h = absurd (h refl)
other_length settings b lane v [] (passed ∷ causes) h = refl
other_length settings b lane v (j ∷ order) [] h = refl
other_length settings b lane v (j ∷ order) (passed ∷ causes) h =
    ap (λ (rest : Bool). (passed.machine == machine_of settings v j) && (may_cause settings b lane v j passed.cause && rest))
    (other_length settings b lane v order causes (λ e. h (ap (λ (n : ℕ). suc n) e)))
    ∙ and_false (passed.machine == machine_of settings v j) (may_cause settings b lane v j passed.cause)

-- behind the last replica
pub none_caused : (settings : Settings) (lane v : ℕ) (order : List ℕ) (causes : List Passed) (n : ℕ) (c : Known) → length order ≤ n → all_caused settings lane v (drop n order) (drop n causes) c ≡ c
none_caused settings lane v order causes n c h = ap (λ (js : List ℕ). all_caused settings lane v js (drop n causes) c) (drop_of_length-le order h)
