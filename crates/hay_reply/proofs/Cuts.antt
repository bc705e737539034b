-- Where a text is cut at a mark.
use Rattle.std.proofs.Common.{◌≡◌, ℕ, ◌+◌, ◌<◌, ◌≤◌, nat_lt, Bool, List, [], ◌∷◌, length, take, drop, Some, None, position, refl, sym, arith, cond}
use Rattle.std.specs.List.{slice_split, position_or_len}
use Rattle.std.proofs.lemmas.Grind.{common_steps}
use Rattle.std.proofs.lemmas.Bool.Decides.{nat_tests}
use Rattle.std.proofs.lemmas.List.Splits.{slice_split_first}

no_cut : (p : ℕ → Bool) (xs : List ℕ) → length xs ≤ position_or_len p xs → slice_split p xs ≡ xs ∷ []
no_cut p [] h = refl
no_cut p (x ∷ xs) h = grind (arith, common_steps, nat_tests, no_cut p xs)

found : (n len i : ℕ) → Some i ≡ cond (nat_lt n len) (Some n) None → (n < len) × (i ≡ n)
found n len i h = grind (arith, nat_tests)

not_found : (n len : ℕ) → cond (nat_lt n len) (Some n) None ≡ None → len ≤ n
not_found n len h = grind (arith, nat_tests)

pub one_part : (p : ℕ → Bool) (xs : List ℕ) → None ≡ position p xs → slice_split p xs ≡ xs ∷ []
one_part p xs h = no_cut p xs (not_found (position_or_len p xs) (length xs) (sym h))

pub first_part : (p : ℕ → Bool) (xs : List ℕ) (i : ℕ) → Some i ≡ position p xs → slice_split p xs ≡ take i xs ∷ slice_split p (drop (i + 1) xs)
first_part p xs i h =
    let at = found (position_or_len p xs) (length xs) i h in
    rw (at.1) (slice_split_first p xs 0 at.0)
