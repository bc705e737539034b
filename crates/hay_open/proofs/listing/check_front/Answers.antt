use Rattle.hay_head.proofs.HeadLaws.{none_is}
use Rattle.hay_open.proofs.listing.check_front.Goals as goal

pub returns-in-None-clause-undamaged : goal.returns-in-None-clause-undamaged
returns-in-None-clause-undamaged g c = λ tells. none_is c.in_ok-read_front.field-0 _ c.in-None.is (c.in_ok-read_front.ensures.none tells)
