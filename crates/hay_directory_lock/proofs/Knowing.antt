-- What stands of a Directory of which something is known.
use Rattle.std.proofs.Common.{ℕ, Bool, List, refl, sym}
use Rattle.hay_disk.specs.Disk.{Files}
use Rattle.hay_legal.specs.declared.known.DirKnown.{DirKnown}
use Rattle.hay_directory.specs.State.{State, Stands}
use Rattle.hay_directory.proofs.Standing.{stands_frozen}
use Rattle.hay_directory_lock.specs.Standing.{StandsAt, standing_of}

pub stands_at : {D : Type 0} (files : D → Files) (faults fuses : D → ℕ) (d : State D) (known : DirKnown) (drained : List Bool) → Stands files d known drained
    → StandsAt faults fuses d (standing_of faults fuses d known drained)
unfolding Stands
stands_at files faults fuses d known drained s = record {
  known = record { mode = s.mode; frozen = stands_frozen files d known drained s; homes = s.homes };
  count = s.count;
  counted = record { drained = sym s.drained_is; faults_are = refl; fuses_are = refl };
}
