-- What a refused call of a volume file says.
use Rattle.hay_disk.specs.declared.disk.DiskFault.{DiskFault}
use Rattle.hay_volume.specs.declared.fault.CellFault.{CellFault}
use Rattle.hay_volume.specs.declared.fault.VolumeFault.{VolumeFault}

-- a refusal of the disk
abbrev pub volume_fault : DiskFault → VolumeFault
volume_fault DiskFault.Failed = VolumeFault.Failed
volume_fault DiskFault.NoMemory = VolumeFault.NoMemory

abbrev pub cell_fault : DiskFault → CellFault
cell_fault DiskFault.Failed = CellFault.Failed
cell_fault DiskFault.NoMemory = CellFault.NoMemory
