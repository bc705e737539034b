use Rattle.std.proofs.Common.{◌≡◌, map, take}
use Rattle.std.specs.List.{AllByRecursion}
use Rattle.hay_reply.specs.Fits.{FitsRefused}
use Rattle.hay_load.specs.Replies.{refused_of}
use Rattle.hay_load.proofs.reply.refused_of.Given as goal

abbrev pub invariant-loop-full : goal.invariant-loop-full
invariant-loop-full l = record {
  are : l.refused ≡ map refused_of (take l.full-index l.tries);
  fit : AllByRecursion FitsRefused l.refused;
}
