-- What follows of volumes that stand, or that hold what is known.
use Rattle.hay_disk.specs.Disk.{Files}
use Rattle.hay_legal.specs.declared.known.VolumeKnown.{VolumeKnown}
use Rattle.hay_logical.specs.Stands.{Holds, Stands}
use Rattle.hay_logical.specs.Volumes.{HasSupers, IsOfSettings, Volume}
use Rattle.hay_logical.proofs.Holding.{held}
use Rattle.hay_logical.proofs.Reopening as reopening
use Rattle.hay_cluster.specs.State.{VolumeHolds}

module _ {D P : Type 0} (files : D → Files) where
  pub volume_stands : (Tells : Type 0) (volume : Volume D P) (k : VolumeKnown) → Stands files Tells volume k → Holds files volume k
  unfolding Holds Stands
  volume_stands Tells volume k stands = held (Unit {0}) files Tells volume.settings volume.number tt volume.replicas volume.rows volume.front volume.frozen volume.unsure k stands

  pub volume_outcome : (volume : Volume D P) (k : VolumeKnown) → IsOfSettings volume.settings volume.number → HasSupers volume → Holds files volume k → VolumeHolds files volume k
  unfolding Holds
  volume_outcome volume k fits sups holds = reopening.volume_outcome files volume k fits holds sups
