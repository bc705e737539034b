-- The homes of a table.
use Rattle.std.proofs.Common.{◌≡◌, ℕ, Bool, cond, List, [], ◌∷◌, Some, Option, refl, ap, ◌∙◌}
use Rattle.std.specs.Cmp.{IsEquivalence}
use Rattle.std.proofs.lemmas.Cmp.{and_equiv, nat_eq_equiv, on_equiv}
use Rattle.hay_needle.specs.declared.needle.Pair.{Pair}
use Rattle.hay_legal.specs.Known.{home_in}
use Rattle.hay_directory.specs.Homes.{home_among, key_eq}
use Rattle.hay_views.specs.HomeLooks.{rows_among}

pub keys_equal : IsEquivalence key_eq
keys_equal = and_equiv (on_equiv (λ (k : ℕ × ℕ). k.0) nat_eq_equiv) (on_equiv (λ (k : ℕ × ℕ). k.1) nat_eq_equiv)

-- the rows give the homes of the table
pub homes_listed : (homes : List ((ℕ × ℕ) × ℕ)) (pair : Pair) → home_in (rows_among homes) pair ≡ home_among homes pair
homes_listed [] pair = refl
homes_listed (e ∷ es) pair =
    ap (λ (b : Bool). cond b (Some e.1) (home_in (rows_among es) pair)) (keys_equal.symm e.0 (pair.key, pair.alt))
    ∙ ap (λ (home : Option ℕ). cond (key_eq (pair.key, pair.alt) e.0) (Some e.1) home) (homes_listed es pair)
