-- The lock of a volume may be shared by threads, and a seat at it may go to another thread, where its disks and their pieces may. So may any turn and front.
use denote.RattleType.{RattleType}
use denote.Param.Send.{IsSend, IsSync, sendable}
use denote.Param.SendFields.{declared_send, declared_sync}
use Rattle.std.proofs.Crossing.{crosses}
use Rattle.std.proofs.MapsCrossing as maps
use Rattle.hay_disk.specs.declared.disk.Disk as disk
use Rattle.hay_disk.specs.declared.piece.Piece as piece
use Rattle.hay_needle.specs.contracts.needle.Pair as Pair
use Rattle.hay_map.specs.contracts.row.Row as Row
use Rattle.hay_map.specs.contracts.view.MapView as MapView
use Rattle.hay_turn.specs.declared.kept.Kept as kept
use Rattle.hay_turn.specs.contracts.turn.Turn as Turn
use Rattle.hay_turn.specs.contracts.turn.TurnSeat as TurnSeat
use Rattle.hay_front.specs.declared.view.View as view
use Rattle.hay_front.specs.contracts.front.Front as Front
use Rattle.hay_front.specs.contracts.seat.Seat as Seat
use Rattle.hay_views.specs.contracts.places.Published as Published
use Rattle.hay_views.proofs.past.Chain.TheLaws.TheKnot as past
use Rattle.hay_physical.specs.contracts.replica.Replica as Replica
use Rattle.hay_logical.specs.contracts.logical.Logical as Logical
use Rattle.hay_volume_lock.specs.contracts.act.Act as Act
use Rattle.hay_volume_lock.specs.contracts.guarded.Guarded as Guarded
use Rattle.hay_volume_lock.specs.contracts.guarded.GuardedKept.TheImpl as guarded
use Rattle.hay_volume_lock.specs.contracts.guarded.Opened as Opened
use Rattle.hay_volume_lock.specs.contracts.lock.VolumeLock as VolumeLock
use Rattle.hay_volume_lock.specs.contracts.seat.VolumeSeat as VolumeSeat
use Rattle.hay_volume_lock.specs.contracts.told.Places as Places
use Rattle.hay_volume_lock.specs.contracts.told.PlacesView.TheImpl as places
use Rattle.hay_volume_lock.specs.contracts.told.PlacesView.TheImpl.{no_dict}
use Rattle.hay_shared_volume.specs.contracts.volume.SharedVolume as SharedVolume
use Rattle.atomic_table.proofs.send_lease.SendLease.TheSendSync as lease
use Rattle.atomic_table.proofs.shared.Seat.TheSendSync as seat
use Rattle.atomic_table.proofs.shared.Shared.TheSendSync as table
use Rattle.left_right.proofs.part.Deed.TheSendSync as deed
use Rattle.left_right.proofs.part.Part.TheSendSync as part
use Rattle.logbook.proofs.tokens.Seen.TheSendSync as seen
use Rattle.logbook.proofs.word.Word.TheSendSync as word

ruleset tables = (crosses, table.the_send, table.the_sync, seat.the_send, lease.the_send, lease.the_sync, sendable)

module _ (T S A : RattleType) (k : kept.Ghosts T.Denot S.Denot A.Denot) where
  pub turn_send : IsSend T → IsSend A → IsSend (Turn.the_row T S A k)
  turn_send s a = search tables depth 60 fits 20000

  pub turn_sync : IsSend T → IsSend A → IsSync (Turn.the_row T S A k)
  turn_sync s a = search tables depth 60 fits 20000

  pub turn_seat_send : IsSend T → IsSend A → IsSend (TurnSeat.the_row T S A k)
  turn_seat_send s a = search tables depth 60 fits 20000

module _ (T K R O E M S : RattleType) (v : view.Ghosts T.Denot K.Denot R.Denot O.Denot E.Denot M.Denot S.Denot) where
  pub front_send : IsSend T → IsSync T → IsSend O → IsSend (Front.the_row T K R O E M S v)
  front_send s y o = search (tables, part.the_send, deed.the_send, seen.the_send, seen.the_sync, word.the_send) depth 60 fits 20000

  pub front_seat_send : IsSend T → IsSync T → IsSend O → IsSend (Seat.the_row T K R O E M S v)
  front_seat_send s y o = search (tables, part.the_send, seen.the_send, seen.the_sync) depth 60 fits 20000

module _ (P : RattleType) (p : piece.Ghosts P.Denot) where
  map_send : IsSend P → IsSend (MapView.the_row P p)
  map_send s = search (crosses, maps.crosses, sendable) depth 60 fits 20000

  map_sync : IsSync P → IsSync (MapView.the_row P p)
  map_sync y = search (crosses, maps.crosses, sendable) depth 60 fits 20000

  published_send : IsSend P → IsSend (Published.the_row P p)
  published_send s = search (crosses, past.crosses, sendable) depth 60 fits 20000

module _ (D P : RattleType) (d : disk.Ghosts D.Denot P.Denot) (p : piece.Ghosts P.Denot) where
  replica_send : IsSend D → IsSend (Replica.the_row D P d p)
  replica_send s = search (crosses, maps.crosses, sendable) depth 60 fits 20000

  logical_send : IsSend D → IsSend P → IsSend (Logical.the_row D P d p)
  logical_send s t = search (replica_send, map_send P p, crosses, maps.crosses, sendable) depth 60 fits 20000

  places_send : IsSend P → IsSend (Places.the_row D P d p)
  places_send t = search (map_send P p, crosses, past.crosses, sendable) depth 60 fits 20000

  places_sync : IsSync P → IsSync (Places.the_row D P d p)
  places_sync y = search (map_sync P p, crosses, past.crosses, sendable) depth 60 fits 20000

  act_send : IsSend (Act.the_row D P d p)
  act_send = search (crosses, past.crosses, sendable) depth 60 fits 20000

  abbrev rows : view.Ghosts (Places.the_row D P d p).Denot (Pair.the_row).Denot (Row.the_row P p).Denot (Published.the_row P p).Denot (Published.the_row P p).Denot
      (Places.the_row D P d p).Denot (Logical.the_row D P d p).Denot
  rows = places.ghosts D P d no_dict p no_dict no_dict no_dict

  rows_front_send : IsSend P → IsSync P
      → IsSend (Front.the_row (Places.the_row D P d p) Pair.the_row (Row.the_row P p) (Published.the_row P p) (Published.the_row P p) (Places.the_row D P d p) (Logical.the_row D P d p) rows)
  rows_front_send t y =
      front_send (Places.the_row D P d p) Pair.the_row (Row.the_row P p) (Published.the_row P p) (Published.the_row P p) (Places.the_row D P d p) (Logical.the_row D P d p) rows
      (places_send t) (places_sync y) (published_send P p t)

  rows_seat_send : IsSend P → IsSync P
      → IsSend (Seat.the_row (Places.the_row D P d p) Pair.the_row (Row.the_row P p) (Published.the_row P p) (Published.the_row P p) (Places.the_row D P d p) (Logical.the_row D P d p) rows)
  rows_seat_send t y =
      front_seat_send (Places.the_row D P d p) Pair.the_row (Row.the_row P p) (Published.the_row P p) (Published.the_row P p) (Places.the_row D P d p) (Logical.the_row D P d p) rows
      (places_send t) (places_sync y) (published_send P p t)

  guarded_send : IsSend D → IsSend P → IsSync P → IsSend (Guarded.the_row D P d p)
  guarded_send s t y =
      declared_send (Guarded.the_type D P d p)
      (search sendable depth 60, (logical_send s t, (rows_front_send t y, (search sendable depth 60, (search sendable depth 60, tt)))))

  abbrev holds : kept.Ghosts (Guarded.the_row D P d p).Denot (Opened.the_row D P d p).Denot (Act.the_row D P d p).Denot
  holds = guarded.ghosts D P d no_dict p no_dict no_dict no_dict

  guarded_turn_send : IsSend D → IsSend P → IsSync P → IsSend (Turn.the_row (Guarded.the_row D P d p) (Opened.the_row D P d p) (Act.the_row D P d p) holds)
  guarded_turn_send s t y = turn_send (Guarded.the_row D P d p) (Opened.the_row D P d p) (Act.the_row D P d p) holds (guarded_send s t y) act_send

  guarded_turn_sync : IsSend D → IsSend P → IsSync P → IsSync (Turn.the_row (Guarded.the_row D P d p) (Opened.the_row D P d p) (Act.the_row D P d p) holds)
  guarded_turn_sync s t y = turn_sync (Guarded.the_row D P d p) (Opened.the_row D P d p) (Act.the_row D P d p) holds (guarded_send s t y) act_send

  guarded_seat_send : IsSend D → IsSend P → IsSync P → IsSend (TurnSeat.the_row (Guarded.the_row D P d p) (Opened.the_row D P d p) (Act.the_row D P d p) holds)
  guarded_seat_send s t y = turn_seat_send (Guarded.the_row D P d p) (Opened.the_row D P d p) (Act.the_row D P d p) holds (guarded_send s t y) act_send

  pub volume_lock_send : IsSend D → IsSend P → IsSync P → IsSend (VolumeLock.the_row D P d p)
  volume_lock_send s t y = search (guarded_turn_send, crosses, sendable) depth 60 fits 20000

  pub volume_lock_sync : IsSend D → IsSend P → IsSync P → IsSync (VolumeLock.the_row D P d p)
  volume_lock_sync s t y = search (guarded_turn_sync, crosses, sendable) depth 60 fits 20000

  pub volume_seat_send : IsSend D → IsSend P → IsSync P → IsSend (VolumeSeat.the_row D P d p)
  volume_seat_send s t y = search (guarded_seat_send, rows_seat_send, crosses, sendable) depth 60 fits 20000

  pub shared_volume_send : IsSend D → IsSend P → IsSync P → IsSend (SharedVolume.the_row D P d p)
  shared_volume_send s t y = declared_send (SharedVolume.the_type D P d p) (search sendable depth 60, (volume_lock_send s t y, (search (crosses, sendable) depth 60, tt)))

  pub shared_volume_sync : IsSend D → IsSend P → IsSync P → IsSync (SharedVolume.the_row D P d p)
  shared_volume_sync s t y = declared_sync (SharedVolume.the_type D P d p) (search sendable depth 60, (volume_lock_sync s t y, (search (crosses, sendable) depth 60, tt)))
