-- Why a store is not opened, by why its disks are not.
use Rattle.std.specs.Prelude.{ℕ}
use Rattle.hay_dirfile.specs.declared.fault.OpenFault.{OpenFault as JournalFault}
use Rattle.hay_dirfile.specs.declared.fault.OpenFault.TheVariants as journal
use Rattle.hay_mount.specs.declared.fault.MountFault.{MountFault}
use Rattle.hay_mount.specs.declared.fault.MountFault.TheVariants as mounting
use Rattle.hay_open.specs.declared.fault.OpenFault.{OpenFault}
use Rattle.hay_open.specs.declared.fault.OpenFault.TheVariants as opening
use Rattle.hay_batch.specs.declared.fault.LoadOpenFault.{LoadOpenFault}
use Rattle.hay_batch.specs.declared.fault.LoadOpenFault.TheVariants.{Shelf, Open, NoMemory}

abbrev pub not_mounted : MountFault → LoadOpenFault
not_mounted (mounting.Shelf faults) = Shelf faults
not_mounted mounting.NoMemory = NoMemory

-- the disk in this slot was not opened
abbrev pub not_opened : ℕ → OpenFault → LoadOpenFault
not_opened slot (opening.Failed faults) = Open slot (opening.Failed faults)
not_opened slot (opening.Damaged file at) = Open slot (opening.Damaged file at)
not_opened slot opening.NoMemory = NoMemory

-- the same fault of a journal's disk
abbrev pub of_journal : JournalFault → OpenFault
of_journal (journal.Failed faults) = opening.Failed faults
of_journal (journal.Damaged file at) = opening.Damaged file at
of_journal journal.NoMemory = opening.NoMemory
