-- The row of places.
use Rattle.std.proofs.Common.{◌≡◌, ℕ, ◌+◌, ◌-◌, List, [], ◌∷◌, ◌++◌, length, sym, ap, ◌∙◌, subst, suc, arith}
use Rattle.std.specs.Prelude.{Some, slice_get}
use Rattle.hay_needle.specs.Sizes.{needle_total}
use Rattle.hay_index.specs.declared.record.Record.{Record}
use Rattle.hay_index.specs.Records.{AreInRow, place_behind}

-- one record more
pub row_more : (at : ℕ) (records : List Record) (r : Record) → AreInRow at records → r.at ≡ place_behind at records → AreInRow at (records ++ r ∷ [])
row_more at [] r row is = (is, tt)
row_more at (first ∷ records) r row is = (row.0, row_more (at + needle_total first.size) records r row.1 is)

-- behind the last record
pub behind_last : (at : ℕ) (records : List Record) (r : Record) → AreInRow at records → slice_get records (length records - 1) ≡ Some r → place_behind at records ≡ r.at + needle_total r.size
behind_last at [] r row is = absurd cc
behind_last at (first ∷ []) r row is = let same : first ≡ r = cc in ap (λ n. n + needle_total first.size) (sym row.0) ∙ ap (λ (x : Record). x.at + needle_total x.size) same
behind_last at (first ∷ second ∷ records) r row is =
    let there : length (first ∷ second ∷ records) - 1 ≡ suc (length (second ∷ records) - 1) = omega arith in
    behind_last (at + needle_total first.size) (second ∷ records) r row.1 (subst (λ n. slice_get (first ∷ second ∷ records) n ≡ Some r) there is)
