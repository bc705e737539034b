-- What is seen of two ledgers that keep the same.
use Rattle.std.proofs.Common.{◌≡◌, ℕ, ap}
use Rattle.hay_filedisk.specs.declared.ledger.Held.{Held}

pub same_held : {A : Type 0} (view : Held → A) (old new : ℕ → Held) → new ≡ old → (let seen : ℕ → A = λ n. view (new n) in seen) ≡ (λ n. view (old n))
same_held {A} view old new same = ap {B = ℕ → A} (λ (at : ℕ → Held) (n : ℕ). view (at n)) same
