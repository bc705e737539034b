use Rattle.std.proofs.Common.{◌≡◌, sym, ◌∙◌, arith}
use Rattle.hay_audit.proofs.Reopened.{notes_on}
use Rattle.hay_audit.proofs.counts.volumes_notes.Goals as goal

pub loop-volume-preserved : goal.loop-volume-preserved
loop-volume-preserved c = record {
  value =
      sym (notes_on c.args.volumes.now c.loop-volume.volume-index c.loop-volume.count c.volume_notes-count.result c.volume-item.result c.loop-volume-test.true c.volume-item.is
      c.volume_notes-count.ensures.value)
      ∙ (c.loop-volume.invariant).value;
  small = omega (arith, (c.loop-volume.invariant).small, c.volume_notes-count.ensures.small);
}
