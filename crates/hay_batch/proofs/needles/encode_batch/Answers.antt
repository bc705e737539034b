use Rattle.hay_batch.proofs.NeedleRuns.{needles_more}
use Rattle.hay_batch.proofs.needles.encode_batch.Goals as goal

pub loop-photo-preserved : goal.loop-photo-preserved
loop-photo-preserved c =
    needles_more c.args.photos.now c.loop-photo.photo-index c.photo-item.result c.loop-photo.bytes.items c.push_needle.new.bytes.items c.in_ok-push_needle.ensures.0
    c.loop-photo-test.true c.photo-item.is c.in_ok-push_needle.ensures.1 c.in_ok-push_needle.ensures.2 c.loop-photo.invariant
