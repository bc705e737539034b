use Rattle.std.proofs.Common.{refl}
use Rattle.hay_reader.proofs.Seen.{photo_read, other_cookie}
use Rattle.hay_needle.specs.Needle.{needle_of_view}
use Rattle.hay_reader.proofs.trial.read_photo.Goals as goal

pub returns-then-needle-cookie-clause-reads : goal.returns-then-needle-cookie-clause-reads
returns-then-needle-cookie-clause-reads c = photo_read c.args.bytes.now _ c.in-Ok.needle c.args.cookie c.in-Ok.ensures.found c.if-needle-cookie.true c.put_out.ensures.bytes

pub returns-else-needle-cookie-clause-reads : goal.returns-else-needle-cookie-clause-reads
returns-else-needle-cookie-clause-reads c =
    let needle = needle_of_view c.in-Ok.needle in
    (needle.photo, other_cookie c.in-Ok.needle c.args.cookie c.if-needle-cookie.false, (needle, c.in-Ok.ensures.found, refl))

pub returns-in-Err-clause-reads : goal.returns-in-Err-clause-reads
returns-in-Err-clause-reads c = λ needle begins. c.in-Err.ensures.only needle begins
