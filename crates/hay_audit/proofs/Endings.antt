-- Runs that may have ended in a deletion.
use Rattle.std.proofs.Common.{◌≡◌, ℕ, suc, ◌+◌, ◌≤◌, Bool, true, false, List, [], ◌∷◌, ◌++◌, length, refl, ap, ◌∙◌, append-nil, arith}
use Rattle.std.proofs.lemmas.List.{set_past}
use Rattle.std.specs.Prelude.{max}
use Rattle.hay_needle.specs.declared.settings.Settings.{Settings}
use Rattle.hay_legal.specs.declared.known.ReplicaKnown.{ReplicaKnown}
use Rattle.hay_legal.specs.declared.known.Known.{Known}
use Rattle.hay_legal.specs.Known.{fault_count}
use Rattle.hay_legal.specs.Plain.{ended_where}
use Rattle.hay_audit_steps.specs.Laid.{next_count, raise_disk}
use Rattle.hay_audit_steps.specs.Next.{raise_ended}
use Rattle.hay_audit.specs.Deleting.{raise_if}

-- there is no such disk
pub raise_beyond : (before c : Known) (slot : ℕ) → length c.faults ≤ slot → raise_disk before slot c ≡ c
raise_beyond before c slot h =
    ap (λ (faults : List ℕ). record c { faults = faults }) (set_past c.faults slot (max (fault_count c slot) (next_count (fault_count before slot))) h)

pub raise_next : (settings : Settings) (b : Known) (v j : ℕ) (ended : Bool) (rest : List Bool) (c : Known)
    → raise_ended settings b v j (ended ∷ rest) c ≡ raise_if settings b v j ended (raise_ended settings b v (j + 1) rest c)
raise_next settings b v j true rest c = refl
raise_next settings b v j false rest c = refl

pub none_ended : (replicas : List ReplicaKnown) → ended_where [] replicas ≡ replicas
none_ended replicas = refl

pub none_left : (ended : List Bool) → ended_where ended [] ≡ []
none_left [] = refl
none_left (true ∷ ended) = refl
none_left (false ∷ ended) = refl

pub left_none : (made : List ReplicaKnown) (ended : List Bool) (replicas : List ReplicaKnown) → length replicas ≡ 0 → made ++ ended_where ended replicas ≡ made
left_none made ended [] h = ap (λ (xs : List ReplicaKnown). made ++ xs) (none_left ended) ∙ append-nil made
left_none made ended (replica ∷ replicas) h = absurd (let lie : suc (length replicas) ≡ 0 = h in omega (arith, lie))
