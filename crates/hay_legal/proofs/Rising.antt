-- An opening leaves what is known, but for counts.
use Rattle.std.proofs.Common.{◌≡◌, ℕ, List, sym, subst}
use Rattle.hay_legal.specs.declared.known.Known.{Known}
use Rattle.hay_legal.specs.Known.{Leaves, NoneFalls, FaultsRose}
use Rattle.hay_legal.proofs.Steps.{none_falls}

pub same_falls : (xs ys : List ℕ) → ys ≡ xs → NoneFalls xs ys
same_falls xs ys same = subst (λ (zs : List ℕ). NoneFalls xs zs) (sym same) (none_falls xs)

pub rises_leaves : (k t : Known) → FaultsRose k t → Leaves k k t
rises_leaves k t h = record {
  volumes = h.volumes;
  directory = h.directory;
  drained = h.drained;
  fuses = h.fuses;
  faults = h.faults;
  arms = same_falls k.arms t.arms h.arms;
}
