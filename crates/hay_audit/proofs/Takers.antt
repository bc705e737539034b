-- A volume that takes a photo is one of the store's.
use Rattle.std.proofs.Common.{◌≡◌, ℕ, ◌<◌, Some, refl}
use Rattle.std.specs.Prelude.{is_none}
use Rattle.hay_needle.specs.declared.needle.Pair.{Pair}
use Rattle.hay_needle.specs.declared.settings.Settings.{Settings}
use Rattle.hay_legal.specs.declared.known.Known.{Known}
use Rattle.hay_legal.specs.Known.{home_of, refusal_of, taker_of}
use Rattle.hay_legal.specs.Subject.{IsOf}
use Rattle.hay_legal.proofs.Subject.Entries.{taken_bounded}

pub taker_within : (settings : Settings) (k : Known) (pair : Pair) (size v : ℕ) → IsOf settings k → taker_of settings k pair size ≡ Some v → v < settings.volumes
taker_within settings k pair size v is taker = taken_bounded settings k pair v (λ u. is_none (refusal_of settings k size u)) (home_of k pair) is refl taker
