use denote.Param.{param}
use denote.Param.Send.{arg_send, param_send}
use Rattle.std.proofs.Common.{rules, ◌≡◌, List, Vec, Global, length, map, sym, ap, subst, ◌∙◌, arith}
use Rattle.std.proofs.lemmas.List.{length-map}
use Rattle.hay_reply.specs.declared.Reply.{Reply}
use Rattle.hay_lanes.specs.Lanes.{AnswersLanes}
use Rattle.hay_lane.specs.declared.lane.Lane.{Lane}
use Rattle.hay_block.specs.declared.worker.Job.{Job}
use Rattle.hay_block.specs.declared.worker.LaneWorker.{LaneWorker}
use Rattle.hay_block.proofs.Running.{as_many, by_lane, lane_of, lanes_answer, lanes_are, may_answer}
use Rattle.hay_shared_volume.specs.Seats.{IsSeatOf, WasAt, sight_of}
use Rattle.hay_volume_lock.specs.Seats.{Seated}
use Rattle.hay_block.proofs.Sending.{worker_send}
use Rattle.hay_block.proofs.run.run_lines.Goals as goal

pub run_lanes-requires-clause-workers : goal.run_lanes-requires-clause-workers
run_lanes-requires-clause-workers g c κs within =
    let many = as_many c.args.shared.now c.workers_of-workers.result.items c.args.lanes.items c.workers_of-workers.ensures in
    omega (arith, many, c.requires.lanes, c.args.lanes.ok.0, c.workers_of-workers.result.ok.0)

pub run_lanes-requires-clause-may : goal.run_lanes-requires-clause-may
run_lanes-requires-clause-may g c κs within =
    may_answer c.args.shared.now IsSeatOf g.L.DirectoryCalls.fits c.workers_of-workers.result.items c.args.lanes.items c.args.jobs.now
    c.workers_of-workers.ensures c.requires.seated c.requires.served

pub lanes_of-requires : goal.lanes_of-requires
lanes_of-requires g c =
    let stay = c.in-Ok-run_lanes.ensures.answered.workers_stay in
    let many = as_many c.args.shared.now c.workers_of-workers.result.items c.args.lanes.items c.workers_of-workers.ensures in
    (search rules, omega (arith, stay, many, c.in-Ok-run_lanes.workers.ok.0, c.args.lanes.ok.0, c.in-Ok-with_capacity.ensures.capacity, c.len-2.ensures))

pub lanes_of-requires-in-Err : goal.lanes_of-requires-in-Err
lanes_of-requires-in-Err g c =
    let many = as_many c.args.shared.now c.workers_of-workers.result.items c.args.lanes.items c.workers_of-workers.ensures in
    let same = ap length c.in-Err.ensures.refused in
    (search rules, omega (arith, same, many, c.in-Err.workers.ok.0, c.args.lanes.ok.0, c.in-Ok-with_capacity.ensures.capacity, c.len-2.ensures))

pub returns-in-Ok-run_lanes-clause-answered : goal.returns-in-Ok-run_lanes-clause-answered
returns-in-Ok-run_lanes-clause-answered g c =
    let jobs : List (List Job) = map (λ (v : Vec Job Global). v.items) c.args.jobs.now in
    let replies : List (List Reply) = map (λ (v : Vec Reply Global). v.items) c.in-Ok-run_lanes.replies.items in
    let workers : List (LaneWorker g.row.D.Denot g.row.P.Denot g.row.L.Denot g.row.T.Denot g.row.A.Denot) = c.workers_of-workers.result.items in
    let many = as_many c.args.shared.now workers c.args.lanes.items c.workers_of-workers.ensures in
    let given : length jobs ≡ length workers = omega (arith, many, length-map c.args.jobs.now (λ (v : Vec Job Global). v.items), c.requires.lanes, c.args.lanes.ok.0) in
    subst (λ (ls : List (Lane (Seated g.row.D.Denot g.row.P.Denot) g.row.T.Denot g.row.A.Denot)).
    AnswersLanes (by_lane c.args.shared.now IsSeatOf g.L.DirectoryCalls.fits (WasAt g.D.Disk.Tells g.D.Disk.files g.P.Piece.Tells g.D.Disk.fault_count g.D.Disk.fuse_count) g.L.DirectoryCalls.is_at
    sight_of g.L.DirectoryCalls.sight g.A.Arm.is_sure g.A.Arm.fault_count)
    c.args.lanes.items jobs ls replies) (sym c.lanes_of.ensures)
    (lanes_answer c.args.shared.now IsSeatOf g.L.DirectoryCalls.fits (WasAt g.D.Disk.Tells g.D.Disk.files g.P.Piece.Tells g.D.Disk.fault_count g.D.Disk.fuse_count)
    g.L.DirectoryCalls.is_at sight_of g.L.DirectoryCalls.sight g.A.Arm.is_sure g.A.Arm.fault_count
    workers c.in-Ok-run_lanes.workers.items c.args.lanes.items jobs replies c.workers_of-workers.ensures given c.in-Ok-run_lanes.ensures.answered)

pub returns-in-Err-clause-refused : goal.returns-in-Err-clause-refused
returns-in-Err-clause-refused g c =
    c.lanes_of-in-Err.ensures ∙ (ap (map (lane_of c.args.shared.now)) c.in-Err.ensures.refused
    ∙ lanes_are c.args.shared.now c.workers_of-workers.result.items c.args.lanes.items c.workers_of-workers.ensures)

pub run_lanes-requires-send-W : goal.run_lanes-requires-send-W
run_lanes-requires-send-W g c κs within =
    search (worker_send (param 0 g.row.D) (param 1 g.row.P) (param 2 g.row.L) (param 3 g.row.T) (param 4 g.row.A) g.D.Disk g.P.Piece, param_send, arg_send) depth 10
