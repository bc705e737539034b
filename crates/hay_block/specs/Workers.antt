-- The workers of lanes.
use Rattle.hay_volume_lock.specs.Seats.{Seated}
use Rattle.hay_shared_volume.specs.declared.volume.SharedVolume.{SharedVolume}
use Rattle.hay_lane.specs.declared.lane.Lane.{Lane}
use Rattle.hay_lane.specs.declared.lane.Shared.{Shared}
use Rattle.hay_block.specs.declared.worker.LaneWorker.{LaneWorker}

-- a worker's locks and its lane
abbrev pub parts_of : {D P L T A : Type 0} → LaneWorker D P L T A → Shared (SharedVolume D P) L × Lane (Seated D P) T A
parts_of worker = ((worker.shared).now, worker.lane)

-- a lane with the locks that all share
abbrev pub at_locks : {D P L T A : Type 0} → Shared (SharedVolume D P) L → Lane (Seated D P) T A → Shared (SharedVolume D P) L × Lane (Seated D P) T A
at_locks shared lane = (shared, lane)
