-- The disks of a store hold what it stands for.
use Rattle.std.proofs.Common.{ℕ, ◌+◌, ◌<◌, ◌≤◌, List, [], ◌∷◌, length, subst, arith}
use Rattle.std.specs.List.{AllZip}
use Rattle.hay_needle.specs.declared.settings.Settings.{Settings}
use Rattle.hay_disk.specs.Disk.{Files}
use Rattle.hay_mount.specs.Mounts.{InOrder}
use Rattle.hay_legal.specs.declared.known.Known.{Known}
use Rattle.hay_legal.specs.declared.known.VolumeKnown.{VolumeKnown}
use Rattle.hay_directory.proofs.Standing as standing
use Rattle.hay_logical.specs.Stands as logical
use Rattle.hay_logical.specs.Volumes.{Volume}
use Rattle.hay_cluster.specs.State.{DirectoryHolds, Holds, Stands, VolumeHolds}
use Rattle.hay_cluster.specs.Store.{IsBuilt, IsVolumeOf, Open}
use Rattle.hay_cluster.proofs.OpeningDirectory.{holds_images}
use Rattle.hay_cluster.proofs.OpeningStore.{of_settings, stands_outcome}

stands_each : {D P : Type 0} (files : D → Files) (Tells : Type 0) (settings : Settings) (v : ℕ) (xs : List (Volume D P)) (ks : List VolumeKnown) → IsBuilt settings → v + length xs ≤ settings.volumes
    → InOrder (IsVolumeOf settings) v xs → AllZip (logical.Stands files Tells) xs ks → AllZip (VolumeHolds files) xs ks
stands_each files Tells settings v [] [] built few order all = tt
stands_each files Tells settings v [] (k ∷ ks) built few order all = absurd all
stands_each files Tells settings v (x ∷ xs) [] built few order all = absurd all
stands_each files Tells settings v (x ∷ xs) (k ∷ ks) built few order all =
    let within : v < settings.volumes = omega (arith, few) in
    let less : v + 1 + length xs ≤ settings.volumes = omega (arith, few) in (
      stands_outcome files Tells x k (of_settings settings v x built within order.0) order.0.sups all.0,
      stands_each files Tells settings (v + 1) xs ks built less order.1 all.1,
    )

pub stands_holds : {D P A : Type 0} (files : D → Files) (Tells : Type 0) (faults fuses : D → ℕ) (arm_faults : A → ℕ) (store : Open D P A) (k : Known)
    → Stands files Tells faults fuses arm_faults store k → Holds files faults fuses arm_faults store k
unfolding Stands Holds
stands_holds files Tells faults fuses arm_faults store k stands =
    let shape = stands.shape in
    let few : 0 + length store.volumes ≤ (store.settings).volumes = (let many = shape.many in omega (arith, many)) in
    record {
      shape = shape;
      directory = subst (λ (t : Settings). DirectoryHolds files t (store.directory).disk k.directory) shape.directory
          (holds_images files store.directory k.directory (standing.stands_holds files store.directory k.directory k.drained stands.directory));
      volumes = stands_each files Tells store.settings 0 store.volumes k.volumes shape.built few shape.volumes stands.volumes;
      fault_counts = stands.fault_counts;
      fuse_counts = stands.fuse_counts;
      arm_counts = stands.arm_counts;
    }
