-- Slots that hold the same.
use Rattle.std.proofs.Common.{◌≡◌, ◌⊎◌, inl, inr, ℕ, Bool, true, Option, Some, None, OnSome, IfNone, refl, ◌∙◌, ap}
use Rattle.hay_memdisk.specs.Slots.{value_in}

-- what is seen of the same slots is the same
pub same_slots : {T A : Type 0} (view : Option (Option T) → A) (old new : ℕ → Option (Option T)) → new ≡ old → (let seen : ℕ → A = λ n. view (new n) in seen) ≡ (λ n. view (old n))
same_slots {T} {A} view old new same = ap {B = ℕ → A} (λ (at : ℕ → Option (Option T)) (n : ℕ). view (at n)) same

-- a fact for the case that there is a value gives what follows from it
pub on_some : {X P Q : Type 0} (o : Option X) → (P → Q) → OnSome o P → OnSome o Q
on_some None follows is = tt
on_some (Some x) follows is = follows is

-- a slot without a value has never had one, or its value is out
pub no_value : {T : Type 0} (o : Option (Option T)) → value_in o ≡ None → (o ≡ None) ⊎ (o ≡ Some None)
no_value None none = inl refl
no_value (Some None) none = inr refl
no_value (Some (Some x)) none = let e : Some x ≡ None = none in cc

-- what is seen of a slot without a value
pub none_seen : {T A X : Type 0} (view : Option (Option T) → A) (is_out : A → Bool) (empty : A) (o : Option (Option T)) (r : Option X) → view None ≡ empty
    → is_out (view (Some None)) ≡ true → IfNone r (value_in o ≡ None) → IfNone r ((view o ≡ empty) ⊎ (is_out (view o) ≡ true))
none_seen view is_out empty o (Some x) nothing out is = tt
none_seen view is_out empty o None nothing out is =
    elim (no_value o is) [
      | inl never ↦ inl (ap view never ∙ nothing)
      | inr taken ↦ inr (ap (λ s. is_out (view s)) taken ∙ out)
    ]
