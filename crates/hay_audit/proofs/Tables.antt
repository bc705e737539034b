-- What stands at a pair, by the log.
use Rattle.std.proofs.Common.{◌≡◌}
use Rattle.std.specs.Prelude.{map}
use Rattle.hay_needle.specs.declared.needle.Pair.{Pair}
use Rattle.hay_needle.specs.Tables.{look_after, outcome_at}
use Rattle.hay_core.specs.Entries.{logged_row}
use Rattle.hay_legal.specs.declared.known.ReplicaKnown.{ReplicaKnown}
use Rattle.hay_legal.specs.declared.known.VolumeKnown.{VolumeKnown}
use Rattle.hay_legal.specs.Known.{now}
use Rattle.hay_legal.proofs.Subject.Shown.{at-now}

pub stands_now : (volume : VolumeKnown) (replica : ReplicaKnown) (pair : Pair)
    → outcome_at (now volume replica) pair ≡ look_after (map logged_row volume.log) pair (outcome_at replica.base pair)
stands_now volume replica pair = at-now volume replica pair
