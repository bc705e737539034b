-- What a reply says that a reader saw.
use Rattle.std.specs.Prelude.{Bool}
use Rattle.hay_needle.specs.declared.needle.Outcome.{Outcome}
use Rattle.hay_legal.specs.Known.{stands}
use Rattle.hay_audit_steps.specs.Next.{shows_nothing, shows_other, shows_photo}
use Rattle.hay_audit.specs.declared.photos.Wanted.{Wanted}
use Rattle.hay_audit.specs.declared.photos.Wanted.TheVariants.{Any, Nothing, Other, Photo}

abbrev pub fits : Wanted → Outcome → Bool
fits (Photo cookie bytes) outcome = shows_photo cookie bytes.now outcome
fits Nothing outcome = shows_nothing outcome
fits (Other cookie) outcome = shows_other cookie outcome
fits Any outcome = stands outcome
