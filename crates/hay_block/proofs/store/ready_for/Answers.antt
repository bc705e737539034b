use Rattle.std.proofs.Common.{◌≡◌, ℕ, List, length, subst}
use Rattle.std.specs.List.{AllZip}
use Rattle.hay_legal.specs.declared.known.VolumeKnown.{VolumeKnown}
use Rattle.hay_logical.specs.Volumes.{Volume}
use Rattle.hay_shared_volume.specs.Making.{VolumeStands}
use Rattle.hay_block.proofs.store.ready_for.Goals as goal

pub returns-clause-fronts : goal.returns-clause-fronts
returns-clause-fronts g c =
    let Is : Volume g.row.D.Denot g.row.D-Piece.Denot → ℕ → Type 0 =
    λ volume front. (known : VolumeKnown) → VolumeStands g.D.Disk.Tells g.D.Disk.files g.D.Piece.Piece.Tells volume known → front ≡ length known.log in
    subst (λ (l : List (Volume g.row.D.Denot g.row.D-Piece.Denot)). AllZip Is l c.in_ok-fronts.fronts.items) c.as_slice.ensures.value c.in_ok-fronts.ensures
