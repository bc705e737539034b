use Rattle.std.proofs.Common.{◌≡◌, ◌+◌, ◌≤◌, false, None, List, map}
use Rattle.hay_legal.specs.Items.{Asked}
use Rattle.hay_legal.specs.Known.{NoneFalls}
use Rattle.hay_cluster.specs.Causes.{StaySure}
use Rattle.hay_cluster.specs.State.{Stands}
use Rattle.hay_cluster.specs.Store.{IsUp, disks_of}
use Rattle.hay_disk.specs.Streams.{Wrote}
use Rattle.hay_script.specs.declared.words.TheConstants.{MAX_SCRIPT}
use Rattle.hay_run.specs.Causing.{tally_of, Caused}
use Rattle.hay_run.specs.Items.{TookItems}
use Rattle.hay_lines.specs.Stream.{Held, rest_of, budget, Accounts}
use Rattle.hay_run.specs.Turns.{AnswersAll, Appends}
use Rattle.hay_run.proofs.serve.serve.Given as goal

abbrev pub invariant-turns : goal.invariant-turns
invariant-turns g l = record {
  unmet : l.script.ended ≡ false;
  few : l.number + budget MAX_SCRIPT l.script ≤ MAX_SCRIPT + 2;
  up : IsUp l.cluster;
  same : l.cluster.settings ≡ l.fn.cluster.settings;
  asked : List Asked;
  took : TookItems 1 None (g.S.Source.left l.fn.source) asked l.number (rest_of (g.S.Source.left l.source) l.script) false;
  answers : AnswersAll g.D.Disk.Tells (Stands g.D.Disk.files g.D.Piece.Piece.Tells g.D.Disk.fault_count g.D.Disk.fuse_count g.A.Arm.fault_count) asked l.fn.cluster
      (g.K.Sink.written l.fn.sink) l.cluster (g.K.Sink.written l.sink);
  said : List Asked;
  read : TookItems 1 None (g.S.Source.left l.fn.source) said l.number (rest_of (g.S.Source.left l.source) l.script) false;
  caused : Caused g.D.Disk.Tells Wrote l.fn.cluster.settings (tally_of g.D.Disk.files g.D.Disk.drawn g.D.Disk.fault_count g.D.Disk.fuse_count g.A.Arm.fault_count g.A.Arm.is_sure
      l.fn.cluster) (tally_of g.D.Disk.files g.D.Disk.drawn g.D.Disk.fault_count g.D.Disk.fuse_count g.A.Arm.fault_count g.A.Arm.is_sure l.cluster) said
      (g.K.Sink.written l.fn.sink) (g.K.Sink.written l.sink);
  first : Held;
  at_first : first.taken ≡ 0;
  accounts : Accounts (g.S.Source.left l.fn.source) first (g.S.Source.left l.source) l.script;
  source : g.S.Source.fault_count l.fn.source ≤ g.S.Source.fault_count l.source;
  sink : g.K.Sink.fault_count l.fn.sink ≤ g.K.Sink.fault_count l.sink;
  faults : NoneFalls (map g.D.Disk.fault_count (disks_of l.fn.cluster)) (map g.D.Disk.fault_count (disks_of l.cluster));
  arm_faults : NoneFalls (map g.A.Arm.fault_count l.fn.cluster.arms) (map g.A.Arm.fault_count l.cluster.arms);
  sure_arms : StaySure g.A.Arm.is_sure g.A.Arm.fault_count l.fn.cluster.arms l.cluster.arms;
  appends : Appends (g.K.Sink.written l.fn.sink) (g.K.Sink.written l.sink);
}

abbrev pub decreases-turns : goal.decreases-turns
decreases-turns g l = budget MAX_SCRIPT l.script
