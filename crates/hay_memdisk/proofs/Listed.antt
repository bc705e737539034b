-- Lists of calls that are to fail.
use Rattle.std.proofs.Common.{◌≡◌, ◌≤◌, ◌+◌, ℕ, Bool, true, false, List, [], ◌∷◌, refl, ◌∙◌, ap, leb, eqb, arith}
use Rattle.std.specs.List.{list_all, list_any}
use Rattle.std.proofs.lemmas.Bool.{and_parts, and_from}
use Rattle.std.proofs.lemmas.Bool.Decides.{nat_tests}

-- what lies behind a number of calls lies behind a greater one
pub over_later : (listed : List ℕ) (calls later : ℕ) → calls ≤ later → list_all (λ n. leb n calls) listed ≡ true → list_all (λ n. leb n later) listed ≡ true
over_later [] calls later low over = refl
over_later (n ∷ ns) calls later low over =
    let parts = and_parts (leb n calls) (list_all (λ m. leb m calls) ns) over in
    and_from (leb n later) (list_all (λ m. leb m later) ns) (grind (arith, nat_tests, parts.0)) (over_later ns calls later low parts.1)

-- the next call is not listed
pub over_next : (listed : List ℕ) (calls : ℕ) → list_all (λ n. leb n calls) listed ≡ true → list_any (λ n. eqb n (calls + 1)) listed ≡ false
over_next [] calls over = refl
over_next (n ∷ ns) calls over =
    let parts = and_parts (leb n calls) (list_all (λ m. leb m calls) ns) over in
    let rest = over_next ns calls parts.1 in
    let apart : eqb n (calls + 1) ≡ false = grind (arith, nat_tests, parts.0) in
    grind (arith, nat_tests, apart, rest)

-- so the next call doesn't fail
pub over_found : (listed held : List ℕ) (calls number : ℕ) (found : Bool) → number ≡ calls + 1 → held ≡ listed → found ≡ list_any (λ n. eqb n number) held
    → list_all (λ n. leb n calls) listed ≡ true → found ≡ false
over_found listed held calls number found next same is over =
    is ∙ ap (λ (m : ℕ). list_any (λ n. eqb n m) held) next ∙ ap (λ (l : List ℕ). list_any (λ n. eqb n (calls + 1)) l) same ∙ over_next listed calls over
