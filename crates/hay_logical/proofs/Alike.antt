-- What stands on a replica is one, as far as its cells go.
use Rattle.std.proofs.Common.{◌≡◌, sym, ap, subst, ◌∙◌}
use Rattle.hay_needle.specs.Needle.{needle_magic}
use Rattle.hay_disk.specs.Disk.{Files}
use Rattle.hay_disk.specs.Gate.{IsClosed}
use Rattle.hay_volume.specs.Cells.{HasCells}
use Rattle.hay_volume.proofs.Readings.{one_reading}
use Rattle.hay_open.specs.Stored.{Stored, volume_file}
use Rattle.hay_physical.specs.declared.state.OpenFiles.{OpenFiles}
use Rattle.hay_physical.specs.declared.state.Phase.TheVariants.{Open}
use Rattle.hay_physical.specs.OpenCopies.{Copy}
use Rattle.hay_physical.specs.Replicas as physical

pub one_standing : {D : Type 0} (files : D → Files) (r : Copy D) (s t : Stored) → physical.Stands files r s → physical.Stands files r t → (s.end ≡ t.end) × (s.cells ≡ t.cells)
unfolding physical.Stands
one_standing files r s t a b =
    let both : Open a.opened ≡ Open b.opened = sym a.phase ∙ b.phase in
    let opened : a.opened ≡ b.opened = cc in
    let generation : t.generation ≡ s.generation = sym b.stand.generation ∙ ap (λ (o : OpenFiles). o.head.generation) (sym opened) ∙ a.stand.generation in
    let there = subst (λ n. HasCells 64 (files r.disk (volume_file n)).now t.cells t.end) generation b.stand.cells.is.has in
    let shut = subst (λ n. IsClosed needle_magic t.end (files r.disk (volume_file n)).now) generation b.stand.cells.is.closed in
    let same = one_reading 64 s.end t.end (files r.disk (volume_file s.generation)).now s.cells t.cells a.stand.cells.is.has a.stand.cells.is.closed there shut in
    (same.1, same.0)
