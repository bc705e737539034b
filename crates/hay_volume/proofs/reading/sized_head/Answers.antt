use Rattle.std.proofs.Common.{◌∙◌, ap, length}
use Rattle.hay_needle.specs.declared.needle.Needle.{Needle}
use Rattle.hay_volume.proofs.reading.sized_head.Goals as goal

pub returns-in_default-clause-none : goal.returns-in_default-clause-none
returns-in_default-clause-none c = λ n begins sized. c.in_default.ensures.only n begins

pub returns-then-view-size-clause-none : goal.returns-then-view-size-clause-none
returns-then-view-size-clause-none c = λ n begins sized.
    c.if-view-size.true (ap (λ (m : Needle). length m.photo.bytes) (c.in-Ok.ensures.only n begins) ∙ sized)
