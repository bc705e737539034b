-- Which stop a fault of the reader is, how a run with this stop ends, and what the refusal of an opening is told as.
use Rattle.std.specs.Prelude.{Option, Some, None}
use Rattle.hay_reply.specs.declared.Note.{Note}
use Rattle.hay_reply.specs.declared.Note.TheVariants.{OpenShelf, OpenFailed, OpenDamaged}
use Rattle.hay_legal.specs.Statuses.{Ending}
use Rattle.hay_legal.specs.Statuses.Ending.{OutputFault, InputFault, NoMemory, NotOpened, TooLong}
use Rattle.hay_cluster.specs.declared.fault.ClusterFault.{ClusterFault}
use Rattle.hay_cluster.specs.declared.fault.ClusterFault.TheVariants as refusal
use Rattle.hay_lines.specs.declared.fault.LineFault.{LineFault}
use Rattle.hay_lines.specs.declared.fault.LineFault.TheVariants as fault
use Rattle.hay_run.specs.declared.stops.Stop.{Stop}
use Rattle.hay_run.specs.declared.stops.Stop.TheVariants as stop

abbrev pub stop_of : LineFault → Stop
stop_of fault.Input = stop.Input
stop_of fault.TooLong = stop.TooLong
stop_of fault.NoMemory = stop.NoMemory

abbrev pub ending_of : Stop → Ending
ending_of stop.Output = OutputFault
ending_of stop.Input = InputFault
ending_of stop.NoMemory = NoMemory
ending_of stop.Store = NotOpened
ending_of stop.TooLong = TooLong

-- how a refused opening is told, unless memory was wanting
abbrev pub note_of : ClusterFault → Option Note
note_of (refusal.Shelf faults) = Some (OpenShelf faults)
note_of (refusal.Failed slot faults) = Some (OpenFailed slot faults)
note_of (refusal.Damaged slot file at) = Some (OpenDamaged slot file at)
note_of refusal.NoMemory = None
