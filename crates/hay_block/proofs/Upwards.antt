-- The notes on volumes are upwards.
use Rattle.std.proofs.Common.{◌≡◌, ◌<◌, ◌≤◌, ◌+◌, ℕ, List, [], ◌∷◌, length, arith}
use Rattle.std.specs.List.{AllByRecursion as Each}
use Rattle.hay_legal.specs.declared.turn.LogNote.{LogNote}
use Rattle.hay_legal.specs.Known.{EachPair}
use Rattle.hay_block.specs.Stores.{AreUpwards, notes_from}

later : (u v : ℕ) (fronts : List ℕ) (lines : List (List ℕ)) → u < v → Each (λ (log : LogNote). u < log.volume) (notes_from v fronts lines)
later u v [] lines below = tt
later u v (front ∷ fronts) [] below = tt
later u v (front ∷ fronts) ([] ∷ lines) below = later u (v + 1) fronts lines (omega (arith, below))
later u v (front ∷ fronts) ((line ∷ own) ∷ lines) below = (below, later u (v + 1) fronts lines (omega (arith, below)))

upwards : (v : ℕ) (fronts : List ℕ) (lines : List (List ℕ)) → EachPair (λ (a b : LogNote). a.volume < b.volume) (notes_from v fronts lines)
upwards v [] lines = tt
upwards v (front ∷ fronts) [] = tt
upwards v (front ∷ fronts) ([] ∷ lines) = upwards (v + 1) fronts lines
upwards v (front ∷ fronts) ((line ∷ own) ∷ lines) = (later v (v + 1) fronts lines (omega arith), upwards (v + 1) fronts lines)

within : (n v : ℕ) (fronts : List ℕ) (lines : List (List ℕ)) → v + length fronts ≤ n → Each (λ (log : LogNote). log.volume < n) (notes_from v fronts lines)
within n v [] lines fits = tt
within n v (front ∷ fronts) [] fits = tt
within n v (front ∷ fronts) ([] ∷ lines) fits = within n (v + 1) fronts lines (omega (arith, fits))
within n v (front ∷ fronts) ((line ∷ own) ∷ lines) fits = (omega (arith, fits), within n (v + 1) fronts lines (omega (arith, fits)))

some : (v : ℕ) (fronts : List ℕ) (lines : List (List ℕ)) → Each (λ (log : LogNote). log.lines ≡ [] → ⊥) (notes_from v fronts lines)
some v [] lines = tt
some v (front ∷ fronts) [] = tt
some v (front ∷ fronts) ([] ∷ lines) = some (v + 1) fronts lines
some v (front ∷ fronts) ((line ∷ own) ∷ lines) = ((λ (none : line ∷ own ≡ []). cc), some (v + 1) fronts lines)

pub notes_upwards : (n : ℕ) (fronts : List ℕ) (lines : List (List ℕ)) → length fronts ≡ n → AreUpwards n (notes_from 0 fronts lines)
notes_upwards n fronts lines many = record {
  upwards = upwards 0 fronts lines;
  within = within n 0 fronts lines (omega (arith, many));
  some = some 0 fronts lines;
}
