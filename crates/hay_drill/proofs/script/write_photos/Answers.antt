use Rattle.std.proofs.Common.{◌++◌, string_bytes}
use Rattle.hay_drill.specs.Script.{each_photo}
use Rattle.hay_drill.specs.Parts.{photo_text}
use Rattle.hay_drill.proofs.Texts.{texts_on, texts_end}
use Rattle.hay_drill.proofs.script.write_photos.Goals as goal

pub loop-photo-preserved : goal.loop-photo-preserved
loop-photo-preserved c =
    let text = photo_text c.args.part c.args.first in
    texts_on text (string_bytes c.loop-photo.out) (string_bytes c.write_photo.new.out) (string_bytes c.args.out.now ++ each_photo text c.args.count)
    c.loop-photo.photo c.args.count c.loop-photo-test.true c.in_ok-write_photo.ensures c.loop-photo.invariant

pub returns : goal.returns
returns c =
    let text = photo_text c.args.part c.args.first in
    texts_end text (string_bytes c.loop-photo.out) (string_bytes c.args.out.now ++ each_photo text c.args.count)
    c.loop-photo.photo c.args.count c.loop-photo-test.false c.loop-photo.invariant
