-- What a refused opening says.
use Rattle.std.specs.Prelude.{ℕ}
use Rattle.hay_disk.specs.declared.disk.DiskFault.{DiskFault}
use Rattle.hay_dirfile.specs.declared.fault.OpenFault.{OpenFault}
use Rattle.hay_dirfile.specs.declared.fault.RowsFault.{RowsFault}

-- a refusal of the disk
abbrev pub rows_fault : DiskFault → RowsFault
rows_fault DiskFault.Failed = RowsFault.Failed
rows_fault DiskFault.NoMemory = RowsFault.NoMemory

-- with the count of faults of the disk, and the number of the journal's file
abbrev pub open_fault : ℕ → RowsFault → OpenFault
open_fault faults RowsFault.Failed = OpenFault.Failed faults
open_fault faults (RowsFault.Damaged at) = OpenFault.Damaged 0 at
open_fault faults RowsFault.NoMemory = OpenFault.NoMemory
