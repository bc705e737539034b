-- What a refused call of a disk says of an index file.
use Rattle.hay_disk.specs.declared.disk.DiskFault.{DiskFault}
use Rattle.hay_index.specs.declared.fault.IndexFault.{IndexFault}

abbrev pub index_fault : DiskFault → IndexFault
index_fault DiskFault.Failed = IndexFault.Failed
index_fault DiskFault.NoMemory = IndexFault.NoMemory
