-- Work on replicas: laws of what a frozen volume refuses.
use Rattle.std.proofs.Common.{◌≡◌, ℕ, List, Some, inl, refl}
use Rattle.hay_needle.specs.declared.settings.Settings.{Settings}
use Rattle.hay_logical.specs.declared.fault.LogicalFault.TheVariants as refusal
use Rattle.hay_logical.specs.Seen.{VolumeSeen}
use Rattle.hay_logical.specs.Volumes.{IsMachineOf, Volume}
use Rattle.hay_physical.specs.OpenCopies.{Copy}
use Rattle.hay_legal.specs.declared.known.VolumeKnown.{VolumeKnown}
use Rattle.hay_disk.specs.Disk.{Files}
use Rattle.hay_cluster.specs.declared.maintenance.Maintenance.{Maintenance}
use Rattle.hay_cluster.specs.declared.maintenance.Maintenance.TheVariants.{Flush, Begin, Step, Finish, Compact}
use Rattle.hay_cluster.specs.Maintenance.{IsRefused, IsReplicaFault}
use Rattle.hay_cluster.specs.Seen.{WorkRefusedSeen}

-- WORK

pub frozen_refused_seen : (settings : Settings) (work : Maintenance) (v at m : ℕ) (seen : VolumeSeen) → seen.frozen ≡ Some m → WorkRefusedSeen settings work v at (refusal.ReadOnly m) seen seen
frozen_refused_seen settings Flush v at m seen frozen = inl (refl, frozen)
frozen_refused_seen settings Begin v at m seen frozen = (refl, frozen)
frozen_refused_seen settings (Step cells) v at m seen frozen = (refl, frozen)
frozen_refused_seen settings Finish v at m seen frozen = (refl, frozen)
frozen_refused_seen settings Compact v at m seen frozen = (refl, frozen)

pub frozen_refused : {D P : Type 0} (files : D → Files) (Tells : Type 0) (work : Maintenance) (k : VolumeKnown) (j : ℕ) (volume : Volume D P) (m : ℕ) → k.frozen ≡ Some m
    → IsRefused files Tells work k j volume volume (refusal.ReadOnly m)
frozen_refused files Tells Flush k j volume m frozen = (inl frozen, refl)
frozen_refused files Tells Begin k j volume m frozen = (frozen, refl)
frozen_refused files Tells (Step cells) k j volume m frozen = (frozen, refl)
frozen_refused files Tells Finish k j volume m frozen = (frozen, refl)
frozen_refused files Tells Compact k j volume m frozen = (frozen, refl)

pub frozen_cause : {D : Type 0} (faults : D → ℕ) (settings : Settings) (work : Maintenance) (v j : ℕ) (old new : List (Copy D)) (m : ℕ) → IsMachineOf settings v m
    → IsReplicaFault faults settings work v j old new (refusal.ReadOnly m)
frozen_cause faults settings Flush v j old new m on = on
frozen_cause faults settings Begin v j old new m on = on
frozen_cause faults settings (Step cells) v j old new m on = on
frozen_cause faults settings Finish v j old new m on = on
frozen_cause faults settings Compact v j old new m on = on
