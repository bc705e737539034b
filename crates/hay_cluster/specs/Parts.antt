-- What a call of one of the store's parts makes of the known state.
use Rattle.std.specs.Prelude.{ℕ}
use Rattle.hay_disk.specs.Disk.{Files}
use Rattle.hay_legal.specs.declared.known.Known.{Known}
use Rattle.hay_legal.specs.declared.known.VolumeKnown.{VolumeKnown}
use Rattle.hay_legal.specs.Known.{Leaves, volume_at, with_volume}
use Rattle.hay_logical.specs.Fits.{At}
use Rattle.hay_logical.specs.Stands as logical
use Rattle.hay_logical.specs.Volumes.{Volume}
use Rattle.hay_cluster.specs.State.{Stands}
use Rattle.hay_cluster.specs.Store.{Open, IsVolumeOf}

-- From k the store now stands at what is expected, but that counts of faults may have risen.
pub record Comes {D P A : Type 0} (files : D → Files) (Tells : Type 0) (faults fuses : D → ℕ) (arm_faults : A → ℕ) (k expected : Known) (store : Open D P A) : Type 0 where
  pub known : Known
  pub leaves : Leaves k expected known
  pub stands : Stands files Tells faults fuses arm_faults store known

-- Volume v was called, which did this: whatever it now stands for, the store stands for besides what was known.
pub record InVolume {D P A : Type 0} (files : D → Files) (Tells : Type 0) (faults fuses : D → ℕ) (arm_faults : A → ℕ) (k : Known) (v : ℕ) (old new : Open D P A)
    (Does : Volume D P → Volume D P → Type 0) : Type 0 where
  pub before : Volume D P
  pub after : Volume D P
  pub at : At old.volumes v before
  pub now : At new.volumes v after
  pub was : IsVolumeOf old.settings v before
  pub stood : logical.Stands files Tells before (volume_at k v)
  pub does : Does before after
  pub comes : (known : VolumeKnown) → logical.Stands files Tells after known → Comes files Tells faults fuses arm_faults k (with_volume k v known) new
