-- A lane's worker may go to another thread, where its disks and their pieces may, with the seat at the Directory and the arm, and the Directory's lock may be shared.
use denote.RattleType.{RattleType}
use denote.Ref.{NamedLft}
use denote.Param.Send.{IsSend, IsSync, sendable, shr_send}
use denote.Param.SendFields.{declared_send}
use Rattle.std.proofs.Crossing.{crosses}
use Rattle.hay_disk.specs.declared.disk.Disk as disk
use Rattle.hay_disk.specs.declared.piece.Piece as piece
use Rattle.hay_volume_lock.specs.contracts.seat.VolumeSeat as VolumeSeat
use Rattle.hay_shared_volume.specs.contracts.volume.SharedVolume as SharedVolume
use Rattle.hay_shared_volume.proofs.Sending.{shared_volume_sync, volume_seat_send}
use Rattle.hay_lane.specs.contracts.lane.Lane as Lane
use Rattle.hay_lane.specs.contracts.lane.Shared as Shared
use Rattle.hay_block.specs.contracts.worker.LaneWorker as LaneWorker

shared_sync : (V L : RattleType) → IsSync V → IsSync L → IsSync (Shared.the_row V L)
shared_sync V L v l = search (crosses, sendable) depth 60 fits 20000

lane_send : (S T A : RattleType) → IsSend S → IsSend T → IsSend A → IsSend (Lane.the_row S T A)
lane_send S T A s t a = search (crosses, sendable) depth 60 fits 20000

pub worker_send : (D P L T A : RattleType) (d : disk.Ghosts D.Denot P.Denot) (p : piece.Ghosts P.Denot) (life : NamedLft)
    → IsSend D → IsSend P → IsSync P → IsSync L → IsSend T → IsSend A → IsSend (LaneWorker.the_row life D P L T A d p)
worker_send D P L T A d p life s t y l u a =
    declared_send (LaneWorker.the_type life D P L T A d p) (
      shr_send _ _ _ (shared_sync (SharedVolume.the_row D P d p) L (shared_volume_sync D P d p s t y) l),
      (lane_send (VolumeSeat.the_row D P d p) T A (volume_seat_send D P d p s t y) u a, tt),
    )
