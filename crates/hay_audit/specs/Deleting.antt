-- What a deletion leaves, replica by replica.
use Rattle.std.specs.Prelude.{ℕ, ◌+◌, ◌==◌, ◌&&◌, nat_lt, is_some, Bool, List, [], length, map, if◌then◌else◌}
use Rattle.hay_needle.specs.declared.needle.Pair.{Pair}
use Rattle.hay_needle.specs.declared.settings.Settings.{Settings}
use Rattle.hay_core.specs.declared.entry.CoreTag.{CoreTag}
use Rattle.hay_legal.specs.declared.known.ReplicaKnown.{ReplicaKnown}
use Rattle.hay_legal.specs.declared.known.Known.{Known}
use Rattle.hay_legal.specs.Known.{slot_of, volume_at}
use Rattle.hay_legal.specs.Plain.{without_run}
use Rattle.hay_audit_steps.specs.Laid.{raise_disk}
use Rattle.hay_audit_steps.specs.Next as next

-- its run may have ended
abbrev pub may_end : Settings → Known → ℕ → ℕ → ReplicaKnown → Bool
may_end settings b v j replica = is_some replica.run && nat_lt (slot_of settings v j) (length b.faults)

abbrev pub ended_if : Bool → ReplicaKnown → ReplicaKnown
ended_if ended replica = if ended then without_run replica else replica

abbrev pub raise_if : Settings → Known → ℕ → ℕ → Bool → Known → Known
raise_if settings b v j ended c = if ended then raise_disk b (slot_of settings v j) c else c

abbrev pub next_deleted : Settings → Known → CoreTag → Pair → ℕ → ℕ → ℕ → List Known
next_deleted settings b tag pair v p d =
    if next.is_home settings b pair v d && (next.stands_there b pair v && (p == length (volume_at b v).log + 1))
    then map (next.deleted settings b tag pair v) (next.endings settings b v 0 (volume_at b v).replicas)
    else []
