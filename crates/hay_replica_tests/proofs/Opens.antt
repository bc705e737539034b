-- What the tests know of an open replica.
use Rattle.std.proofs.Common.{◌≡◌, ℕ, inl, false, List, [], ◌∷◌, length, refl, sym, subst}
use Rattle.std.specs.List.{AllByRecursion}
use Rattle.hay_needle.specs.declared.needle.Cell.{Cell}
use Rattle.hay_needle.specs.declared.settings.Super.{Super}
use Rattle.hay_disk.specs.Disk.{Files}
use Rattle.hay_open.specs.Stored.{OpensAs, Stored, fresh_stored}
use Rattle.hay_physical.specs.Replicas.{MaySee, ShowsCell, Stands}
use Rattle.hay_physical.proofs.Seeing.{stands_shows}
use Rattle.hay_physical.specs.declared.state.Phase.{Phase}
use Rattle.hay_physical.specs.declared.state.Phase.TheVariants.{Closed, Open}
use Rattle.hay_physical.specs.OpenCopies.{Copy, HasFrozen, IsOpenCopy, IsOpenPhase, IsUp}

phase_open : (p : Phase) → HasFrozen false p → IsOpenPhase p
phase_open Closed up = absurd up
phase_open (Open opened) up = tt

pub up_open : {D : Type 0} (r : Copy D) → IsUp r → IsOpenCopy r
up_open r up = phase_open r.phase up

-- a void disk is opened as one without cells
pub void_opens : (sup : Super) (contents : ℕ → List ℕ) → contents 0 ≡ [] → OpensAs sup contents fresh_stored
unfolding OpensAs
void_opens sup contents void = inl (void, refl)

-- the first cell of a replica can be seen
pub first_seen : {D : Type 0} (files : D → Files) (r : Copy D) (s : Stored) (cell : Cell) (at size : ℕ) → Stands files r s → s.cells ≡ cell ∷ [] → at ≡ cell.at
    → length cell.bytes ≡ size → MaySee files r at size
first_seen files r s cell at size stands one place long =
    let all = subst (λ (cells : List Cell). AllByRecursion (ShowsCell files r) cells) one (stands_shows files r s stands) in
    subst (λ k. MaySee files r k size) (sym place) (subst (λ k. MaySee files r cell.at k) long all.0.may)
