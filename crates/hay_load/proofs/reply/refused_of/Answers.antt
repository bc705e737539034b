use Rattle.std.proofs.Common.{[], ◌∷◌, List, sym, subst}
use Rattle.std.specs.List.{AllByRecursion}
use Rattle.hay_reply.specs.Fits.{FitsRefused}
use Rattle.hay_reply.specs.declared.Refused.{Refused}
use Rattle.hay_load.proofs.Taking.{fit_more, refused_more}
use Rattle.hay_load.proofs.reply.refused_of.Goals as goal

pub loop-full-preserved : goal.loop-full-preserved
loop-full-preserved c = record {
  are = refused_more c.args.tries.now c.loop-full.full-index _ c.loop-full.refused c.push.new.self c.no_room.result c.loop-full-test.true c.loop-full.invariant.are c.no_room.ensures.is
      c.in_ok-push.ensures.ok;
  fit = subst (λ (l : List Refused). AllByRecursion FitsRefused l) (sym c.in_ok-push.ensures.ok)
      (fit_more FitsRefused c.loop-full.refused (c.no_room.result ∷ []) c.loop-full.invariant.fit (c.no_room.ensures.fits, tt));
}
