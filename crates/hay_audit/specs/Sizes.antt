-- Numbers that a put can still raise.
use Rattle.std.specs.Prelude.{ℕ, ◌^◌, ◌<◌, List, length, Option, Some, None}
use Rattle.std.specs.List.{AllByRecursion as Each}
use Rattle.hay_core.specs.declared.entry.Entry.{Entry}
use Rattle.hay_core.specs.declared.entry.Entry.TheVariants.{Del, Put}
use Rattle.hay_legal.specs.declared.known.Pending.{Pending}
use Rattle.hay_legal.specs.declared.known.Run.{Run}
use Rattle.hay_legal.specs.declared.known.ReplicaKnown.{ReplicaKnown}
use Rattle.hay_legal.specs.declared.known.VolumeKnown.{VolumeKnown}
use Rattle.hay_legal.specs.Plain.{replica_of}
use Rattle.hay_audit_steps.specs.BoxNext.{least_end}
use Rattle.hay_audit_steps.specs.Boxes.{Box, slack_at}
use Rattle.hay_audit_steps.specs.Slacks.{Slack}

abbrev pub RunMayGrow : Option Run → Type 0
RunMayGrow None = Unit {0}
RunMayGrow (Some run) = run.left < 2 ^ 63

abbrev pub MayGrow : ReplicaKnown → Type 0
MayGrow r = (r.end < 2 ^ 63) × (r.cells < 2 ^ 63) × (r.bare < 2 ^ 63) × (r.generation < 2 ^ 63) × RunMayGrow r.run

-- a change whose photo's length has 32 bits
abbrev pub ChangeMayGrow : Entry → Type 0
ChangeMayGrow (Put pair cookie bytes) = length bytes < 2 ^ 32
ChangeMayGrow (Del pair) = Unit {0}

abbrev pub PendingMayGrow : Option Pending → Type 0
PendingMayGrow None = Unit {0}
PendingMayGrow (Some pending) = ChangeMayGrow pending.entry

abbrev pub VolumeMayGrow : VolumeKnown → Type 0
VolumeMayGrow volume = PendingMayGrow volume.pending × Each MayGrow volume.replicas

-- sizes that may be added to such numbers
pub record IsSlight (slack : Slack) : Type 0 where
  pub end : slack.end < 2 ^ 62
  pub cells : slack.cells < 2 ^ 62
  pub bare : slack.bare < 2 ^ 62

-- the sizes of a replica, and what they may lie above the lowest
pub record IsSmallAt (box : Box) (v j : ℕ) : Type 0 where
  pub replica : MayGrow (replica_of box.base v j)
  pub most : IsSlight (slack_at box.high v j)

-- the same of all replicas, and of the changes that are pending, and of what stands
pub record IsSmall (box : Box) : Type 0 where
  pub volumes : Each VolumeMayGrow box.base.volumes
  pub most : Each (λ row. Each IsSlight row) box.high
  pub photos : (v j : ℕ) → least_end box.base v j < 2 ^ 64
