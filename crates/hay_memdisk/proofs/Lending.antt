-- What is known of a shelf once a disk that it lent is no longer used.
use Rattle.std.proofs.Common.{◌≡◌, Option, Some, OnSome, subst}

-- where something was lent, the fact for that case holds
pub lent : {X P : Type 0} (o : Option X) (x : X) → o ≡ Some x → OnSome o P → P
lent {X} {P} o x is holds = subst (λ (r : Option X). OnSome r P) is holds
