use Rattle.std.proofs.Common.{◌≡◌, ◌++◌, string_bytes}
use Rattle.hay_drill.specs.Script.{each_photo}
use Rattle.hay_drill.specs.Parts.{photo_text}
use Rattle.hay_drill.proofs.Texts.{texts_from}
use Rattle.hay_drill.proofs.script.write_photos.Given as goal

abbrev pub invariant-loop-photo : goal.invariant-loop-photo
invariant-loop-photo l =
    string_bytes l.out ++ texts_from (photo_text l.part l.first) l.photo l.count
    ≡ string_bytes l.initial.out ++ each_photo (photo_text l.part l.first) l.count
