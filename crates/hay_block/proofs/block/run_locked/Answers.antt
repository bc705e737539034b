use Rattle.std.proofs.Common.{◌≡◌, Vec, Global, length, map, reverse, sym, ap, subst, ◌∙◌, arith}
use Rattle.std.proofs.lemmas.List.{length-map}
use Rattle.hay_needle.specs.declared.settings.Settings.{Settings}
use Rattle.hay_reply.specs.declared.Reply.{Reply}
use Rattle.hay_lane.specs.declared.lane.Lane.{Lane}
use Rattle.hay_lane.specs.declared.lane.Shared.{Shared}
use Rattle.hay_block.specs.declared.worker.Job.{Job}
use Rattle.hay_block.specs.Frames.{HaveRoom, IsBack, IsSameStore}
use Rattle.hay_shared_volume.specs.Making.{AreSeated, IsVolumeOf, VolumeStands, count_of}
use Rattle.hay_block.specs.Stores.{AreVolumes}
use Rattle.hay_block.proofs.Beginning.{blank_lanes, ran_whole, roomy_lanes, still_at_rows, store_same, volumes_again}
use Rattle.hay_block.proofs.Lists.{err_weaker}
use Rattle.hay_shared_volume.specs.Seats.{IsSeatOf, WasAt, sight_of}
use Rattle.hay_volume_lock.specs.Seats.{Seated}
use Rattle.hay_shared_volume.specs.declared.volume.SharedVolume.{SharedVolume}
use Rattle.hay_block.proofs.block.run_locked.Goals as goal

pub frame_of-frame-requires-clause-blank : goal.frame_of-frame-requires-clause-blank
frame_of-frame-requires-clause-blank g c = blank_lanes c.args.settings.volumes c.joined-lanes.result.items c.args.rooms.seats.items c.joined-lanes.ensures.volumes c.requires.room.seats

pub run_from-frame-requires-clause-rooms : goal.run_from-frame-requires-clause-rooms
run_from-frame-requires-clause-rooms g c κs within =
    subst (λ (z : Shared (SharedVolume g.row.D.Denot g.row.P.Denot) g.row.L.Denot). HaveRoom z.settings.volumes c.frame_of-frame.result.lanes.items) (sym c.frame_of-frame.ensures.shared)
    (subst (λ (z : Vec (Lane (Seated g.row.D.Denot g.row.P.Denot) g.row.T.Denot g.row.A.Denot) Global). HaveRoom c.args.settings.volumes z.items) (sym c.frame_of-frame.ensures.lanes)
    (roomy_lanes c.args.settings.volumes c.joined-lanes.result.items c.args.rooms.seats.items c.joined-lanes.ensures.volumes c.requires.room.seats))

pub run_from-frame-requires-clause-lanes : goal.run_from-frame-requires-clause-lanes
run_from-frame-requires-clause-lanes g c κs within =
    let joined = ap length c.joined-lanes.ensures.directory in
    let long = length-map c.joined-lanes.result.items (λ (l : Lane (Seated g.row.D.Denot g.row.P.Denot) g.row.T.Denot g.row.A.Denot). l.directory) in
    let same = ap (λ (z : Vec (Lane (Seated g.row.D.Denot g.row.P.Denot) g.row.T.Denot g.row.A.Denot) Global). length z.items) c.frame_of-frame.ensures.lanes in
    omega (arith, joined, long, same, c.requires.seats.many, c.frame_of-frame.result.lanes.ok.0)

pub locked_of-locked-requires-clause-seats : goal.locked_of-locked-requires-clause-seats
locked_of-locked-requires-clause-seats g c =
    let joined = ap length c.joined-lanes.ensures.directory in
    let long = length-map c.joined-lanes.result.items (λ (l : Lane (Seated g.row.D.Denot g.row.P.Denot) g.row.T.Denot g.row.A.Denot). l.directory) in
    let same = ap (λ (z : Vec (Lane (Seated g.row.D.Denot g.row.P.Denot) g.row.T.Denot g.row.A.Denot) Global). length z.items) c.frame_of-frame.ensures.lanes in
    let room = c.requires.room.directory.1 in
    (c.requires.room.directory.0, omega (arith, joined, long, same, room, c.requires.seats.many, c.run_from-frame.ensures.lanes, c.frame_of-frame.result.lanes.ok.0))

pub locked_of-locked-requires-clause-arms : goal.locked_of-locked-requires-clause-arms
locked_of-locked-requires-clause-arms g c =
    let joined = ap length c.joined-lanes.ensures.directory in
    let long = length-map c.joined-lanes.result.items (λ (l : Lane (Seated g.row.D.Denot g.row.P.Denot) g.row.T.Denot g.row.A.Denot). l.directory) in
    let same = ap (λ (z : Vec (Lane (Seated g.row.D.Denot g.row.P.Denot) g.row.T.Denot g.row.A.Denot) Global). length z.items) c.frame_of-frame.ensures.lanes in
    let room = c.requires.room.arms.1 in
    (c.requires.room.arms.0, omega (arith, joined, long, same, room, c.requires.seats.many, c.run_from-frame.ensures.lanes, c.frame_of-frame.result.lanes.ok.0))

pub returns-clause-volumes : goal.returns-clause-volumes
returns-clause-volumes g c =
    subst (AreVolumes IsVolumeOf c.args.settings) (sym c.locked_of-locked.ensures.volumes)
    (subst (λ (z : Settings). AreVolumes IsVolumeOf z (reverse c.run_from-frame.result.0.waiting.items))
    (ap (λ (z : Shared (SharedVolume g.row.D.Denot g.row.P.Denot) g.row.L.Denot). z.settings) c.frame_of-frame.ensures.shared)
    (volumes_again IsSeatOf g.L.DirectoryCalls.fits IsVolumeOf c.frame_of-frame.result c.run_from-frame.result.0 c.run_from-frame.ensures.frame c.run_from-frame.ensures.shared
    (ap (λ (z : Shared (SharedVolume g.row.D.Denot g.row.P.Denot) g.row.L.Denot). z.volumes.items) c.frame_of-frame.ensures.shared ∙ c.requires.room.locks.0)))

pub returns-clause-seats : goal.returns-clause-seats
returns-clause-seats g c =
    let is = still_at_rows IsSeatOf g.L.DirectoryCalls.fits IsVolumeOf c.frame_of-frame.result c.run_from-frame.result.0 c.run_from-frame.ensures.frame c.run_from-frame.ensures.shared in
    let shared = c.frame_of-frame.ensures.shared in
    let at : AreSeated g.L.DirectoryCalls.fits c.args.locked.lock c.args.settings (length c.run_from-frame.result.0.lanes.items)
    (map (λ (l : Lane (Seated g.row.D.Denot g.row.P.Denot) g.row.T.Denot g.row.A.Denot). l.directory) c.run_from-frame.result.0.lanes.items) =
    subst (λ (z : Shared (SharedVolume g.row.D.Denot g.row.P.Denot) g.row.L.Denot). AreSeated g.L.DirectoryCalls.fits z.directory z.settings (length c.run_from-frame.result.0.lanes.items)
    (map (λ (l : Lane (Seated g.row.D.Denot g.row.P.Denot) g.row.T.Denot g.row.A.Denot). l.directory) c.run_from-frame.result.0.lanes.items)) shared is in
    let lanes : length c.run_from-frame.result.0.lanes.items ≡ length c.args.jobs.now =
    let joined = ap length c.joined-lanes.ensures.directory in
    let long = length-map c.joined-lanes.result.items (λ (l : Lane (Seated g.row.D.Denot g.row.P.Denot) g.row.T.Denot g.row.A.Denot). l.directory) in
    let same = ap (λ (z : Vec (Lane (Seated g.row.D.Denot g.row.P.Denot) g.row.T.Denot g.row.A.Denot) Global). length z.items) c.frame_of-frame.ensures.lanes in
    omega (arith, joined, long, same, c.requires.seats.many, c.run_from-frame.ensures.lanes, c.run_from-frame.result.0.lanes.ok.0, c.frame_of-frame.result.lanes.ok.0) in
    subst (AreSeated g.L.DirectoryCalls.fits c.args.locked.lock c.args.settings (length c.args.jobs.now)) (sym c.locked_of-locked.ensures.seats)
    (subst (λ n. AreSeated g.L.DirectoryCalls.fits c.args.locked.lock c.args.settings n
    (map (λ (l : Lane (Seated g.row.D.Denot g.row.P.Denot) g.row.T.Denot g.row.A.Denot). l.directory) c.run_from-frame.result.0.lanes.items)) lanes at)

pub returns-clause-answered : goal.returns-clause-answered
returns-clause-answered g c =
    let lanes_are = c.frame_of-frame.ensures.lanes in
    ran_whole IsSeatOf g.L.DirectoryCalls.fits IsVolumeOf (WasAt g.D.Disk.Tells g.D.Disk.files g.P.Piece.Tells g.D.Disk.fault_count g.D.Disk.fuse_count) g.L.DirectoryCalls.is_at
    sight_of g.L.DirectoryCalls.sight g.A.Arm.is_sure g.A.Arm.fault_count
    (VolumeStands g.D.Disk.Tells g.D.Disk.files g.P.Piece.Tells) (count_of g.D.Disk.fault_count) (count_of g.D.Disk.fuse_count) c.frame_of-frame.result c.run_from-frame.result.0
    c.args.locked.volumes.items
    (record { settings = c.args.settings; volumes = c.args.rooms.locks; directory = c.args.locked.lock; drained = c.args.drained })
    c.args.locked.seats.items c.args.locked.arms.items c.locked_of-locked.result.0.volumes.items c.locked_of-locked.result.1.items c.locked_of-locked.result.0.seats.items
    c.locked_of-locked.result.0.arms.items
    c.frame_of-frame.ensures.frame c.run_from-frame.ensures.frame c.run_from-frame.ensures.shared
    (ap (λ (z : Shared (SharedVolume g.row.D.Denot g.row.P.Denot) g.row.L.Denot). z.volumes.items) c.frame_of-frame.ensures.shared ∙ c.requires.room.locks.0) c.frame_of-frame.ensures.waiting
    c.frame_of-frame.ensures.shared
    (ap (λ (z : Vec (Lane (Seated g.row.D.Denot g.row.P.Denot) g.row.T.Denot g.row.A.Denot) Global).
    map (λ (l : Lane (Seated g.row.D.Denot g.row.P.Denot) g.row.T.Denot g.row.A.Denot). l.directory) z.items) lanes_are ∙ c.joined-lanes.ensures.directory)
    (ap (λ (z : Vec (Lane (Seated g.row.D.Denot g.row.P.Denot) g.row.T.Denot g.row.A.Denot) Global).
    map (λ (l : Lane (Seated g.row.D.Denot g.row.P.Denot) g.row.T.Denot g.row.A.Denot). l.arm) z.items) lanes_are ∙ c.joined-lanes.ensures.arms)
    c.locked_of-locked.ensures.volumes c.locked_of-locked.ensures.tags c.locked_of-locked.ensures.seats c.locked_of-locked.ensures.arms
    (map (λ (js : Vec Job Global). js.items) c.args.jobs.now) c.run_from-frame.result.1 (λ (replies : Vec (Vec Reply Global) Global). map (λ (rs : Vec Reply Global). rs.items) replies.items)
    c.run_from-frame.ensures.answered

pub returns-clause-refused : goal.returns-clause-refused
returns-clause-refused g c =
    let lanes_are = c.frame_of-frame.ensures.lanes in
    err_weaker (IsBack (VolumeStands g.D.Disk.Tells g.D.Disk.files g.P.Piece.Tells) (count_of g.D.Disk.fault_count) (count_of g.D.Disk.fuse_count) c.frame_of-frame.result c.run_from-frame.result.0)
    (IsSameStore (VolumeStands g.D.Disk.Tells g.D.Disk.files g.P.Piece.Tells) (count_of g.D.Disk.fault_count) (count_of g.D.Disk.fuse_count) c.args.settings c.args.locked c.locked_of-locked.result.0)
    (λ back. store_same c.frame_of-frame.result c.run_from-frame.result.0 back c.args.settings c.args.rooms.locks c.args.locked.lock c.args.drained c.frame_of-frame.ensures.shared
    c.args.locked c.locked_of-locked.result.0
    (ap (λ (z : Vec (Lane (Seated g.row.D.Denot g.row.P.Denot) g.row.T.Denot g.row.A.Denot) Global).
    map (λ (l : Lane (Seated g.row.D.Denot g.row.P.Denot) g.row.T.Denot g.row.A.Denot). l.directory) z.items) lanes_are ∙ c.joined-lanes.ensures.directory)
    (ap (λ (z : Vec (Lane (Seated g.row.D.Denot g.row.P.Denot) g.row.T.Denot g.row.A.Denot) Global).
    map (λ (l : Lane (Seated g.row.D.Denot g.row.P.Denot) g.row.T.Denot g.row.A.Denot). l.arm) z.items) lanes_are ∙ c.joined-lanes.ensures.arms)
    c.frame_of-frame.ensures.waiting c.locked_of-locked.ensures.seats c.locked_of-locked.ensures.arms c.locked_of-locked.ensures.volumes)
    c.run_from-frame.result.1 c.run_from-frame.ensures.refused
