-- The Directory's lock may be shared by threads, and a seat at it may go to another thread, where its disk may.
use denote.RattleType.{RattleType}
use denote.Builtin.{u32, unit}
use denote.Param.Send.{IsSend, IsSync, sendable}
use denote.Param.SendFields.{declared_send, declared_sync}
use Rattle.std.specs.contracts.option.Option as Option
use Rattle.std.proofs.Crossing.{crosses}
use Rattle.std.proofs.MapsCrossing as maps
use Rattle.hay_disk.specs.declared.disk.Disk as disk
use Rattle.hay_disk.specs.declared.piece.Piece as piece
use Rattle.hay_needle.specs.contracts.needle.Pair as Pair
use Rattle.hay_legal.specs.contracts.known.HomeRow as HomeRow
use Rattle.hay_dirfile.specs.contracts.row.DirRow as DirRow
use Rattle.hay_turn.specs.declared.kept.Kept as kept
use Rattle.hay_turn.specs.contracts.turn.Turn as Turn
use Rattle.hay_turn.specs.contracts.turn.TurnSeat as TurnSeat
use Rattle.hay_front.specs.contracts.front.Front as Front
use Rattle.hay_front.specs.contracts.seat.Seat as Seat
use Rattle.hay_views.specs.contracts.homes.HomeView as HomeView
use Rattle.hay_views.specs.contracts.homes.HomeViewView.TheImpl as homes
use Rattle.hay_views.proofs.past.Chain.TheLaws.TheKnot as past
use Rattle.hay_directory.specs.contracts.directory.Directory as Directory
use Rattle.hay_directory_lock.specs.contracts.act.RowAct as RowAct
use Rattle.hay_directory_lock.specs.contracts.kept.Begun as Begun
use Rattle.hay_directory_lock.specs.contracts.kept.KeptDirectory as KeptDirectory
use Rattle.hay_directory_lock.specs.contracts.kept.KeptDirectoryKept.TheImpl as directory
use Rattle.hay_directory_lock.specs.contracts.kept.KeptDirectoryKept.TheImpl.{no_dict}
use Rattle.hay_directory_lock.specs.contracts.lock.DirectoryLock as DirectoryLock
use Rattle.hay_directory_lock.specs.contracts.lock.DirectorySeat as DirectorySeat
use Rattle.hay_shared_volume.proofs.Sending.{turn_send, turn_sync, turn_seat_send, front_send, front_seat_send}
use Rattle.hay_locks.specs.contracts.directory.SharedDirectory as SharedDirectory

homes_send : IsSend HomeView.the_row
homes_send = search (crosses, maps.crosses, past.crosses, sendable) depth 60 fits 20000

homes_sync : IsSync HomeView.the_row
homes_sync = search (crosses, maps.crosses, past.crosses, sendable) depth 60 fits 20000

row_send : IsSend DirRow.the_row
row_send = search sendable depth 60

homes_front_send : IsSend (Front.the_row HomeView.the_row Pair.the_row (Option.the_row u32) DirRow.the_row HomeRow.the_row HomeView.the_row unit homes.ghosts)
homes_front_send = front_send HomeView.the_row Pair.the_row (Option.the_row u32) DirRow.the_row HomeRow.the_row HomeView.the_row unit homes.ghosts homes_send homes_sync row_send

homes_seat_send : IsSend (Seat.the_row HomeView.the_row Pair.the_row (Option.the_row u32) DirRow.the_row HomeRow.the_row HomeView.the_row unit homes.ghosts)
homes_seat_send = front_seat_send HomeView.the_row Pair.the_row (Option.the_row u32) DirRow.the_row HomeRow.the_row HomeView.the_row unit homes.ghosts homes_send homes_sync row_send

module _ (D P : RattleType) (d : disk.Ghosts D.Denot P.Denot) (p : piece.Ghosts P.Denot) where
  directory_send : IsSend D → IsSend (Directory.the_row D P d p)
  directory_send s = search (crosses, maps.crosses, sendable) depth 60 fits 20000

  kept_send : IsSend D → IsSend (KeptDirectory.the_row D P d p)
  kept_send s = declared_send (KeptDirectory.the_type D P d p) (directory_send s, (homes_front_send, tt))

  act_send : IsSend (RowAct.the_row D P d p)
  act_send = search (crosses, sendable) depth 60

  abbrev holds : kept.Ghosts (KeptDirectory.the_row D P d p).Denot (Begun.the_row D P d p).Denot (RowAct.the_row D P d p).Denot
  holds = directory.ghosts D P d no_dict p no_dict no_dict no_dict

  directory_turn_send : IsSend D → IsSend (Turn.the_row (KeptDirectory.the_row D P d p) (Begun.the_row D P d p) (RowAct.the_row D P d p) holds)
  directory_turn_send s = turn_send (KeptDirectory.the_row D P d p) (Begun.the_row D P d p) (RowAct.the_row D P d p) holds (kept_send s) act_send

  directory_turn_sync : IsSend D → IsSync (Turn.the_row (KeptDirectory.the_row D P d p) (Begun.the_row D P d p) (RowAct.the_row D P d p) holds)
  directory_turn_sync s = turn_sync (KeptDirectory.the_row D P d p) (Begun.the_row D P d p) (RowAct.the_row D P d p) holds (kept_send s) act_send

  directory_turn_seat_send : IsSend D → IsSend (TurnSeat.the_row (KeptDirectory.the_row D P d p) (Begun.the_row D P d p) (RowAct.the_row D P d p) holds)
  directory_turn_seat_send s = turn_seat_send (KeptDirectory.the_row D P d p) (Begun.the_row D P d p) (RowAct.the_row D P d p) holds (kept_send s) act_send

  pub directory_lock_send : IsSend D → IsSend (DirectoryLock.the_row D P d p)
  directory_lock_send s = search (directory_turn_send, crosses, sendable) depth 60 fits 20000

  pub directory_lock_sync : IsSend D → IsSync (DirectoryLock.the_row D P d p)
  directory_lock_sync s = search (directory_turn_sync, crosses, sendable) depth 60 fits 20000

  pub directory_seat_send : IsSend D → IsSend (DirectorySeat.the_row D P d p)
  directory_seat_send s = search (directory_turn_seat_send, homes_seat_send, crosses, sendable) depth 60 fits 20000

  pub shared_directory_send : IsSend D → IsSend (SharedDirectory.the_row D P d p)
  shared_directory_send s = declared_send (SharedDirectory.the_type D P d p) (directory_lock_send s, (search (crosses, sendable) depth 60, tt))

  pub shared_directory_sync : IsSend D → IsSync (SharedDirectory.the_row D P d p)
  shared_directory_sync s = declared_sync (SharedDirectory.the_type D P d p) (directory_lock_sync s, (search (crosses, sendable) depth 60, tt))
