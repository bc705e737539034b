-- Which stop a fault of the reader is, the status of a load with this stop, and what the refusal of an opening is told as.
use Rattle.std.specs.Prelude.{ℕ, Option, Some, None}
use Rattle.hay_reply.specs.declared.Note.{Note}
use Rattle.hay_reply.specs.declared.Note.TheVariants.{OpenShelf, OpenFailed, OpenDamaged}
use Rattle.hay_open.specs.declared.fault.OpenFault.TheVariants as opening
use Rattle.hay_batch.specs.declared.fault.LoadOpenFault.{LoadOpenFault}
use Rattle.hay_batch.specs.declared.fault.LoadOpenFault.TheVariants as refusal
use Rattle.hay_lines.specs.declared.fault.LineFault.{LineFault}
use Rattle.hay_lines.specs.declared.fault.LineFault.TheVariants as fault
use Rattle.hay_loading.specs.declared.stops.Stop.{Stop}
use Rattle.hay_loading.specs.declared.stops.Stop.TheVariants as stop

abbrev pub stop_of : LineFault → Stop
stop_of fault.Input = stop.Input
stop_of fault.TooLong = stop.TooLong
stop_of fault.NoMemory = stop.NoMemory

abbrev pub status_of : Stop → ℕ
status_of stop.Output = 3
status_of stop.Input = 4
status_of stop.NoMemory = 5
status_of stop.Store = 6
status_of stop.TooLong = 7

-- how a refused opening is told, unless memory was wanting
abbrev pub note_of : LoadOpenFault → Option Note
note_of (refusal.Shelf faults) = Some (OpenShelf faults)
note_of (refusal.Open slot (opening.Failed faults)) = Some (OpenFailed slot faults)
note_of (refusal.Open slot (opening.Damaged file at)) = Some (OpenDamaged slot file at)
note_of (refusal.Open slot opening.NoMemory) = None
note_of refusal.NoMemory = None
