-- An open store as contracts see it.
use Rattle.std.specs.Prelude.{◌≡◌, ◌≤◌, ℕ, List, [], ◌∷◌, length, map, slice_get}
use Rattle.std.specs.List.{AllByRecursion, flat_map}
use Rattle.std.specs.Option.{option_map_or}
use Rattle.hay_needle.specs.declared.settings.Settings.{Settings}
use Rattle.hay_needle.specs.declared.settings.TheConstants.{MAX_CAPACITY, MAX_MACHINES, MAX_REPLICAS, MAX_VOLUMES, MIN_CAPACITY}
use Rattle.hay_disk.specs.Disk.{Files}
use Rattle.hay_mount.specs.Mounts.{InOrder}
use Rattle.hay_physical.specs.OpenCopies.{Copy}
use Rattle.hay_directory.specs.State as directory
use Rattle.hay_logical.specs.Volumes as logical

-- the limits of settings
pub record IsBuilt (settings : Settings) : Type 0 where
  pub some_machines : 1 ≤ settings.machines
  pub few_machines : settings.machines ≤ MAX_MACHINES
  pub some_volumes : 1 ≤ settings.volumes
  pub few_volumes : settings.volumes ≤ MAX_VOLUMES
  pub some_replicas : 1 ≤ settings.replicas
  pub few_replicas : settings.replicas ≤ MAX_REPLICAS
  pub no_more_replicas : settings.replicas ≤ settings.machines
  pub low : MIN_CAPACITY ≤ settings.capacity
  pub high : settings.capacity ≤ MAX_CAPACITY

-- A store with its disks and the arms of its lanes.
pub record Open (D P A : Type 0) : Type 0 where
  pub settings : Settings
  pub directory : directory.State D
  pub volumes : List (logical.Volume D P)
  pub arms : List A

abbrev pub disk_of : {D : Type 0} → Copy D → D
disk_of replica = replica.disk

abbrev pub volume_disks : {D P : Type 0} → logical.Volume D P → List D
volume_disks volume = map disk_of volume.replicas

-- the disks by slot
abbrev pub disks_of : {D P A : Type 0} → Open D P A → List D
disks_of store = (store.directory).disk ∷ flat_map volume_disks store.volumes

-- Volume v of a store with these settings, with all its replicas.
pub record IsVolumeOf {D P : Type 0} (settings : Settings) (v : ℕ) (volume : logical.Volume D P) : Type 0 where
  pub settings_are : volume.settings ≡ settings
  pub number : volume.number ≡ v
  pub all : logical.HasAll volume
  pub sups : logical.HasSupers volume

-- What holds of every store, up or down.
pub record IsShaped {D P A : Type 0} (store : Open D P A) : Type 0 where
  pub built : IsBuilt store.settings
  pub directory : (store.directory).settings ≡ store.settings
  pub many : length store.volumes ≡ (store.settings).volumes
  pub volumes : InOrder (IsVolumeOf store.settings) 0 store.volumes
  pub lanes : length store.arms ≡ 8

-- A store whose restart was refused is down.
pub record IsUp {D P A : Type 0} (store : Open D P A) : Type 0 where
  pub directory : directory.IsUp store.directory
  pub volumes : AllByRecursion logical.IsOpenVolume store.volumes

-- what reads of the disk in a slot give, or nothing where the store has no such slot
abbrev pub contents_in : {D P A : Type 0} → (D → Files) → Open D P A → ℕ → ℕ → List ℕ
contents_in files store slot file = option_map_or (λ disk. (files disk file).now) (slice_get (disks_of store) slot) []
