use Rattle.std.proofs.Common.{sym, ◌∙◌}
use Rattle.hay_disk.specs.Shelf.{HeldDisk, HeldArm}
use Rattle.hay_legal.specs.Known.{disk_count}
use Rattle.hay_legal.specs.Statuses.{Ending}
use Rattle.hay_cluster.specs.Outside.{outside_of}
use Rattle.hay_drill.specs.Script.{settings}
use Rattle.hay_run.specs.Causing.{ending_in}
use Rattle.hay_run.specs.Drills.{DrillsTo}
use Rattle.hay_run.proofs.Giving.{disks_in, arms_in, none_fell}
use Rattle.hay_run.proofs.Refusing.{by_status}
use Rattle.hay_run.proofs.Summed.{all_in, drill_statuses, output_by, store_in}
use Rattle.hay_run.proofs.program.drill_store.Goals as goal

pub returns-clause-drilled : goal.returns-clause-drilled
returns-clause-drilled g c = λ tells k taken held told ending is.
    let outside = outside_of (g.H.Shelf.fault_count c.args.shelf.now) (g.H.Shelf.disks c.args.shelf.now) (g.H.Shelf.arms c.args.shelf.now) in
    let given = outside_of (g.H.Shelf.fault_count c.run_drill.new.shelf) (g.H.Shelf.disks c.run_drill.new.shelf) (g.H.Shelf.arms c.run_drill.new.shelf) in
    by_status (λ (e : Ending). DrillsTo c.args.count c.args.first k e outside given held (g.K.Sink.written c.run_drill.new.sink)) (ending_in c.run_drill.result) ending
    (sym c.status_in.ensures ∙ is) (c.run_drill.ensures.drilled tells k taken held told)

pub returns-clause-status : goal.returns-clause-status
returns-clause-status g c = drill_statuses c.run_drill.result c.run_drill.ensures.stops c.status_in.result c.status_in.ensures

pub returns-clause-sink : goal.returns-clause-sink
returns-clause-sink g c = record {
  later = c.run_drill.ensures.sink_count;
  cause = λ three. c.run_drill.ensures.sink (output_by c.run_drill.result c.status_in.result c.status_in.ensures three);
}

pub returns-clause-disks_back : goal.returns-clause-disks_back
returns-clause-disks_back g c = disks_in (disk_count settings) (g.H.Shelf.disks c.args.shelf.now) (g.H.Shelf.disks c.run_drill.new.shelf)
    c.requires.disks_in c.run_drill.ensures.disks_back c.run_drill.ensures.other_slots

pub returns-clause-arms_back : goal.returns-clause-arms_back
returns-clause-arms_back g c = arms_in 8 (g.H.Shelf.arms c.args.shelf.now) (g.H.Shelf.arms c.run_drill.new.shelf)
    c.requires.arms_in c.run_drill.ensures.arms_back c.run_drill.ensures.other_lanes

pub returns-clause-faults : goal.returns-clause-faults
returns-clause-faults g c = none_fell (λ (d : HeldDisk). d.fault_count) (disk_count settings) (g.H.Shelf.disks c.args.shelf.now) (g.H.Shelf.disks c.run_drill.new.shelf)
    c.run_drill.ensures.faults c.run_drill.ensures.other_slots

pub returns-clause-arm_faults : goal.returns-clause-arm_faults
returns-clause-arm_faults g c = none_fell (λ (a : HeldArm). a.fault_count) 8 (g.H.Shelf.arms c.args.shelf.now) (g.H.Shelf.arms c.run_drill.new.shelf)
    c.run_drill.ensures.arm_faults c.run_drill.ensures.other_lanes

pub returns-clause-refused : goal.returns-clause-refused
returns-clause-refused g c = λ six. c.run_drill.ensures.refused (store_in c.run_drill.result c.status_in.result c.status_in.ensures six)

pub returns-clause-sound : goal.returns-clause-sound
returns-clause-sound g c = λ tells zero. all_in c.run_drill.result c.status_in.result c.status_in.ensures zero (c.run_drill.ensures.sound tells)

pub returns-clause-formatted : goal.returns-clause-formatted
returns-clause-formatted g c = λ tells zero. all_in c.run_drill.result c.status_in.result c.status_in.ensures zero (c.run_drill.ensures.formatted tells)

pub returns-clause-unfused : goal.returns-clause-unfused
returns-clause-unfused g c = c.run_drill.ensures.unfused
