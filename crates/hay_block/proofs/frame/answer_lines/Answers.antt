use Rattle.std.proofs.Common.{◌≡◌, Vec, Global, length, map, refl, ap, arith}
use Rattle.std.proofs.lemmas.List.{length-map}
use Rattle.hay_block.specs.declared.worker.Job.{Job}
use Rattle.hay_block.proofs.Framing.{answered_frame, ran_at_all, same_lanes, sits_at_all}
use Rattle.hay_block.proofs.Stepping.{back_here}
use Rattle.hay_shared_volume.specs.Seats.{IsSeatOf, WasAt, sight_of}
use Rattle.hay_shared_volume.specs.Making.{IsVolumeOf, VolumeStands, count_of}
use Rattle.hay_block.proofs.frame.answer_lines.Goals as goal

pub run_lines-requires-clause-seated : goal.run_lines-requires-clause-seated
run_lines-requires-clause-seated g c κs within = sits_at_all c.args.frame c.requires.frame c.requires.none

pub returns-in-Ok-clause-frame : goal.returns-in-Ok-clause-frame
returns-in-Ok-clause-frame g c =
    let given : length (map (λ (v : Vec Job Global). v.items) c.args.jobs.now) ≡ length c.args.frame.lanes.items =
    omega (arith, length-map c.args.jobs.now (λ (v : Vec Job Global). v.items), c.requires.lanes, c.args.frame.lanes.ok.0) in
    answered_frame IsSeatOf g.L.DirectoryCalls.fits (WasAt g.D.Disk.Tells g.D.Disk.files g.P.Piece.Tells g.D.Disk.fault_count g.D.Disk.fuse_count) g.L.DirectoryCalls.is_at sight_of
    g.L.DirectoryCalls.sight g.A.Arm.is_sure g.A.Arm.fault_count
    (VolumeStands g.D.Disk.Tells g.D.Disk.files g.P.Piece.Tells) (count_of g.D.Disk.fault_count) (count_of g.D.Disk.fuse_count) c.args.frame IsVolumeOf c.requires.frame
    c.requires.none c.in-Ok.lanes given c.in-Ok.ensures.answered

pub returns-in-Ok-clause-lanes : goal.returns-in-Ok-clause-lanes
returns-in-Ok-clause-lanes g c = let stay = c.in-Ok.ensures.answered.workers_stay in omega (arith, stay, c.in-Ok.lanes.ok.0, c.args.frame.lanes.ok.0)

pub returns-in-Ok-clause-answered : goal.returns-in-Ok-clause-answered
returns-in-Ok-clause-answered g c =
    let given : length (map (λ (v : Vec Job Global). v.items) c.args.jobs.now) ≡ length c.args.frame.lanes.items =
    omega (arith, length-map c.args.jobs.now (λ (v : Vec Job Global). v.items), c.requires.lanes, c.args.frame.lanes.ok.0) in
    ran_at_all IsSeatOf g.L.DirectoryCalls.fits (WasAt g.D.Disk.Tells g.D.Disk.files g.P.Piece.Tells g.D.Disk.fault_count g.D.Disk.fuse_count) g.L.DirectoryCalls.is_at sight_of
    g.L.DirectoryCalls.sight g.A.Arm.is_sure g.A.Arm.fault_count
    (VolumeStands g.D.Disk.Tells g.D.Disk.files g.P.Piece.Tells) (count_of g.D.Disk.fault_count) (count_of g.D.Disk.fuse_count) c.args.frame
    (record c.args.frame { lanes = c.in-Ok.lanes }) _ _ IsVolumeOf c.requires.frame c.requires.none
    given c.in-Ok.ensures.answered refl refl

pub returns-in-Err-clause-frame : goal.returns-in-Err-clause-frame
returns-in-Err-clause-frame g c = same_lanes c.args.frame c.requires.frame c.in-Err.lanes c.in-Err.ensures.refused

pub returns-in-Err-clause-lanes : goal.returns-in-Err-clause-lanes
returns-in-Err-clause-lanes g c = let same = ap length c.in-Err.ensures.refused in omega (arith, same, c.in-Err.lanes.ok.0, c.args.frame.lanes.ok.0)

pub returns-in-Err-clause-refused : goal.returns-in-Err-clause-refused
returns-in-Err-clause-refused g c = back_here c.args.frame c.in-Err.lanes c.args.frame.waiting c.in-Err.ensures.refused refl
