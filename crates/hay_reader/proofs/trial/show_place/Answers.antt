use Rattle.std.proofs.Common.{subst, sym}
use Rattle.hay_reader.specs.Tried.{CanShow, HasPhoto, ShowsSeen}
use Rattle.hay_reader.proofs.Seen.{place_shown}
use Rattle.hay_reader.proofs.trial.show_place.Goals as goal

pub unreachable-requires : goal.unreachable-requires
unreachable-requires g c =
    let can = subst (λ p. CanShow c.args.needle.now p) c.in-Live.is c.requires.needle in
    let has : HasPhoto c.args.needle.now can.0 = can.1 in
    c.in-Err.ensures.reads has.0 has.1

pub returns-in-Ok-clause-gives : goal.returns-in-Ok-clause-gives
returns-in-Ok-clause-gives g c = λ sure its. place_shown _ sure c.args.cookie _ c.args.needle.now c.args.place.now c.in-Live.sealed c.in-Ok.shown c.in-Live.is its c.in-Ok.ensures.reads

pub returns-in-Ok-clause-shows : goal.returns-in-Ok-clause-shows
returns-in-Ok-clause-shows g c = subst (λ p. ShowsSeen c.args.cookie c.read_photo.new.out.items c.args.needle.now p c.in-Ok.shown) (sym c.in-Live.is) c.in-Ok.ensures.reads
