use denote.Param.{param}
use denote.Param.Send.{arg_send, arg_sync, param_send, param_sync}
use Rattle.hay_locks.proofs.Sending.{directory_seat_send, shared_directory_send, shared_directory_sync}
use Rattle.hay_locks.proofs.run.run_on_locks.Goals as goal

pub run_block-requires-send-T : goal.run_block-requires-send-T
run_block-requires-send-T g c κs within = search (directory_seat_send (param 0 g.row.D) (param 1 g.row.P) g.D.Disk g.P.Piece, param_send, arg_send) depth 10

pub run_block-requires-send-L : goal.run_block-requires-send-L
run_block-requires-send-L g c κs within = search (shared_directory_send (param 0 g.row.D) (param 1 g.row.P) g.D.Disk g.P.Piece, param_send, arg_send) depth 10

pub run_block-requires-sync-L : goal.run_block-requires-sync-L
run_block-requires-sync-L g c κs within = search (shared_directory_sync (param 0 g.row.D) (param 1 g.row.P) g.D.Disk g.P.Piece, param_send, arg_send, param_sync, arg_sync) depth 10
