use Rattle.std.proofs.Common.{arith}
use Rattle.hay_reader.proofs.Seen.{needle_gives, reads_whole}
use Rattle.hay_reader.proofs.trial.try_needle.Goals as goal

pub returns-in-Ok-clause-gives : goal.returns-in-Ok-clause-gives
returns-in-Ok-clause-gives g c =
    let long = c.fetch-fetched.auto.out in
    needle_gives _ _ c.args.cookie _ _ c.args.needle.now _ c.read_photo.result c.at.ensures c.read_photo.ensures.damage c.read_photo.ensures.reads
    (λ tells. reads_whole _ _ c.in-Ok.count c.args.cookie _ c.read_photo.result (c.in-Ok.ensures.bytes tells) (let whole = c.in-Ok.ensures.count tells in omega arith) c.read_photo.ensures.reads)
