-- Why a store is not opened, by why its parts are not.
use Rattle.std.specs.Prelude.{ℕ}
use Rattle.hay_dirfile.specs.declared.fault.OpenFault.{OpenFault as DirectoryFault}
use Rattle.hay_dirfile.specs.declared.fault.OpenFault.TheVariants as directory
use Rattle.hay_mount.specs.declared.fault.MountFault.{MountFault}
use Rattle.hay_mount.specs.declared.fault.MountFault.TheVariants as mounting
use Rattle.hay_open.specs.declared.fault.OpenFault.{OpenFault}
use Rattle.hay_open.specs.declared.fault.OpenFault.TheVariants as opening
use Rattle.hay_cluster.specs.declared.fault.ClusterFault.{ClusterFault}
use Rattle.hay_cluster.specs.declared.fault.ClusterFault.TheVariants.{Shelf, Failed, Damaged, NoMemory}

abbrev pub not_mounted : MountFault → ClusterFault
not_mounted (mounting.Shelf faults) = Shelf faults
not_mounted mounting.NoMemory = NoMemory

-- the disk in this slot was not opened
abbrev pub not_opened : ℕ → OpenFault → ClusterFault
not_opened slot (opening.Failed faults) = Failed slot faults
not_opened slot (opening.Damaged file at) = Damaged slot file at
not_opened slot opening.NoMemory = NoMemory

abbrev pub no_directory : DirectoryFault → ClusterFault
no_directory (directory.Failed faults) = Failed 0 faults
no_directory (directory.Damaged file at) = Damaged 0 file at
no_directory directory.NoMemory = NoMemory
