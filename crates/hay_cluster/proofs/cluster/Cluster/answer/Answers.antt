use Rattle.std.proofs.Common.{ℕ, List, length, sym, subst, true, false, ◌≡◌, ◌∙◌}
use Rattle.hay_script.specs.declared.Command.{Command}
use Rattle.hay_cluster.proofs.Answering.{same_falls}
use Rattle.hay_cluster.proofs.Sure.{same_sure}
use Rattle.hay_cluster.specs.Leaving.{LeavesContents}
use Rattle.hay_cluster.specs.Needles.{MeetsNeedles, TellsDamage}
use Rattle.hay_cluster.specs.Passing.{IsSureArm, PassesBefore}
use Rattle.hay_cluster.specs.Reads.{counts_of}
use Rattle.hay_cluster.specs.Store.{contents_in}
use Rattle.hay_cluster.proofs.Leaving.{same_contents}
use Rattle.hay_cluster.specs.Seen.{Answers, AnswersPut, store_seen, Shows}
use Rattle.hay_cluster.proofs.Sighting.{drained_not_deleted, fused_not_deleted}
use Rattle.hay_cluster.specs.Sights.{LeavesSights, PutSights, ReadSights, WorkSights, told_by}
use Rattle.hay_reply.specs.declared.Reply.{Reply}
use Rattle.hay_reply.specs.declared.Reply.TheVariants.{Deleted, Drained, Fused, FusedDir, Undrained}
use Rattle.hay_legal.specs.Known.{replica_on}
use Rattle.hay_legal.specs.Suiting.{Suits, SuitsPut}
use Rattle.hay_cluster.proofs.cluster.Cluster.answer.Goals as goal

pub returns-in-Drain-clause-causes : goal.returns-in-Drain-clause-causes
returns-in-Drain-clause-causes g c = c.drain.ensures.causes

pub returns-in-Undrain-clause-causes : goal.returns-in-Undrain-clause-causes
returns-in-Undrain-clause-causes g c = c.undrain.ensures.causes

pub returns-in-Fuse-clause-causes : goal.returns-in-Fuse-clause-causes
returns-in-Fuse-clause-causes g c = c.fuse.ensures.causes

pub returns-in-FuseDir-clause-causes : goal.returns-in-FuseDir-clause-causes
returns-in-FuseDir-clause-causes g c = c.fuse_dir.ensures.causes

pub returns-in-Put-clause-arm_counts : goal.returns-in-Put-clause-arm_counts
returns-in-Put-clause-arm_counts g c = same_falls g.A.Arm.fault_count (c.args.self.now).arms (c.put.new.self).arms c.put.ensures.arms

pub returns-in-Del-clause-arm_counts : goal.returns-in-Del-clause-arm_counts
returns-in-Del-clause-arm_counts g c = same_falls g.A.Arm.fault_count (c.args.self.now).arms (c.delete.new.self).arms c.delete.ensures.arms

pub returns-in-Url-clause-arm_counts : goal.returns-in-Url-clause-arm_counts
returns-in-Url-clause-arm_counts g c = same_falls g.A.Arm.fault_count (c.args.self.now).arms (c.url.new.self).arms c.url.ensures.arms

pub returns-in-Drain-clause-arm_counts : goal.returns-in-Drain-clause-arm_counts
returns-in-Drain-clause-arm_counts g c = same_falls g.A.Arm.fault_count (c.args.self.now).arms (c.drain.new.self).arms c.drain.ensures.arms

pub returns-in-Undrain-clause-arm_counts : goal.returns-in-Undrain-clause-arm_counts
returns-in-Undrain-clause-arm_counts g c = same_falls g.A.Arm.fault_count (c.args.self.now).arms (c.undrain.new.self).arms c.undrain.ensures.arms

pub returns-in-Fuse-clause-arm_counts : goal.returns-in-Fuse-clause-arm_counts
returns-in-Fuse-clause-arm_counts g c = same_falls g.A.Arm.fault_count (c.args.self.now).arms (c.fuse.new.self).arms c.fuse.ensures.arms

pub returns-in-FuseDir-clause-arm_counts : goal.returns-in-FuseDir-clause-arm_counts
returns-in-FuseDir-clause-arm_counts g c = same_falls g.A.Arm.fault_count (c.args.self.now).arms (c.fuse_dir.new.self).arms c.fuse_dir.ensures.arms

pub returns-in-Flush-clause-causes : goal.returns-in-Flush-clause-causes
returns-in-Flush-clause-causes g c = c.maintain.ensures.causes

pub returns-in-Flush-clause-arm_counts : goal.returns-in-Flush-clause-arm_counts
returns-in-Flush-clause-arm_counts g c = same_falls g.A.Arm.fault_count (c.args.self.now).arms (c.maintain.new.self).arms c.maintain.ensures.arms

pub returns-in-Begin-clause-causes : goal.returns-in-Begin-clause-causes
returns-in-Begin-clause-causes g c = c.maintain-in-Begin.ensures.causes

pub returns-in-Begin-clause-arm_counts : goal.returns-in-Begin-clause-arm_counts
returns-in-Begin-clause-arm_counts g c = same_falls g.A.Arm.fault_count (c.args.self.now).arms (c.maintain-in-Begin.new.self).arms c.maintain-in-Begin.ensures.arms

pub returns-in-Step-clause-causes : goal.returns-in-Step-clause-causes
returns-in-Step-clause-causes g c = c.maintain-in-Step.ensures.causes

pub returns-in-Step-clause-arm_counts : goal.returns-in-Step-clause-arm_counts
returns-in-Step-clause-arm_counts g c = same_falls g.A.Arm.fault_count (c.args.self.now).arms (c.maintain-in-Step.new.self).arms c.maintain-in-Step.ensures.arms

pub returns-in-Finish-clause-causes : goal.returns-in-Finish-clause-causes
returns-in-Finish-clause-causes g c = c.maintain-in-Finish.ensures.causes

pub returns-in-Finish-clause-arm_counts : goal.returns-in-Finish-clause-arm_counts
returns-in-Finish-clause-arm_counts g c = same_falls g.A.Arm.fault_count (c.args.self.now).arms (c.maintain-in-Finish.new.self).arms c.maintain-in-Finish.ensures.arms

pub returns-in-Compact-clause-causes : goal.returns-in-Compact-clause-causes
returns-in-Compact-clause-causes g c = c.maintain-in-Compact.ensures.causes

pub returns-in-Compact-clause-arm_counts : goal.returns-in-Compact-clause-arm_counts
returns-in-Compact-clause-arm_counts g c = same_falls g.A.Arm.fault_count (c.args.self.now).arms (c.maintain-in-Compact.new.self).arms c.maintain-in-Compact.ensures.arms

pub returns-in-Put-clause-sure_arms : goal.returns-in-Put-clause-sure_arms
returns-in-Put-clause-sure_arms g c = same_sure g.A.Arm.is_sure g.A.Arm.fault_count (c.args.self.now).arms (c.put.new.self).arms c.put.ensures.arms

pub returns-in-Del-clause-sure_arms : goal.returns-in-Del-clause-sure_arms
returns-in-Del-clause-sure_arms g c = same_sure g.A.Arm.is_sure g.A.Arm.fault_count (c.args.self.now).arms (c.delete.new.self).arms c.delete.ensures.arms

pub returns-in-Url-clause-sure_arms : goal.returns-in-Url-clause-sure_arms
returns-in-Url-clause-sure_arms g c = same_sure g.A.Arm.is_sure g.A.Arm.fault_count (c.args.self.now).arms (c.url.new.self).arms c.url.ensures.arms

pub returns-in-Flush-clause-sure_arms : goal.returns-in-Flush-clause-sure_arms
returns-in-Flush-clause-sure_arms g c = same_sure g.A.Arm.is_sure g.A.Arm.fault_count (c.args.self.now).arms (c.maintain.new.self).arms c.maintain.ensures.arms

pub returns-in-Drain-clause-sure_arms : goal.returns-in-Drain-clause-sure_arms
returns-in-Drain-clause-sure_arms g c = same_sure g.A.Arm.is_sure g.A.Arm.fault_count (c.args.self.now).arms (c.drain.new.self).arms c.drain.ensures.arms

pub returns-in-Undrain-clause-sure_arms : goal.returns-in-Undrain-clause-sure_arms
returns-in-Undrain-clause-sure_arms g c = same_sure g.A.Arm.is_sure g.A.Arm.fault_count (c.args.self.now).arms (c.undrain.new.self).arms c.undrain.ensures.arms

pub returns-in-Fuse-clause-sure_arms : goal.returns-in-Fuse-clause-sure_arms
returns-in-Fuse-clause-sure_arms g c = same_sure g.A.Arm.is_sure g.A.Arm.fault_count (c.args.self.now).arms (c.fuse.new.self).arms c.fuse.ensures.arms

pub returns-in-FuseDir-clause-sure_arms : goal.returns-in-FuseDir-clause-sure_arms
returns-in-FuseDir-clause-sure_arms g c = same_sure g.A.Arm.is_sure g.A.Arm.fault_count (c.args.self.now).arms (c.fuse_dir.new.self).arms c.fuse_dir.ensures.arms

pub returns-in-Compact-clause-sure_arms : goal.returns-in-Compact-clause-sure_arms
returns-in-Compact-clause-sure_arms g c = same_sure g.A.Arm.is_sure g.A.Arm.fault_count (c.args.self.now).arms (c.maintain-in-Compact.new.self).arms c.maintain-in-Compact.ensures.arms

pub returns-in-Begin-clause-sure_arms : goal.returns-in-Begin-clause-sure_arms
returns-in-Begin-clause-sure_arms g c = same_sure g.A.Arm.is_sure g.A.Arm.fault_count (c.args.self.now).arms (c.maintain-in-Begin.new.self).arms c.maintain-in-Begin.ensures.arms

pub returns-in-Step-clause-sure_arms : goal.returns-in-Step-clause-sure_arms
returns-in-Step-clause-sure_arms g c = same_sure g.A.Arm.is_sure g.A.Arm.fault_count (c.args.self.now).arms (c.maintain-in-Step.new.self).arms c.maintain-in-Step.ensures.arms

pub returns-in-Finish-clause-sure_arms : goal.returns-in-Finish-clause-sure_arms
returns-in-Finish-clause-sure_arms g c = same_sure g.A.Arm.is_sure g.A.Arm.fault_count (c.args.self.now).arms (c.maintain-in-Finish.new.self).arms c.maintain-in-Finish.ensures.arms

pub returns-in-Put-clause-causes : goal.returns-in-Put-clause-causes
returns-in-Put-clause-causes g c = c.put.ensures.causes

pub returns-in-Del-clause-causes : goal.returns-in-Del-clause-causes
returns-in-Del-clause-causes g c = c.delete.ensures.causes

pub returns-in-Url-clause-causes : goal.returns-in-Url-clause-causes
returns-in-Url-clause-causes g c = c.url.ensures.causes

pub returns-in-Put-clause-suits : goal.returns-in-Put-clause-suits
returns-in-Put-clause-suits g c =
    subst (λ (asked : Command). Suits (c.args.self.now).settings c.args.tag.line asked c.put.result) (sym c.in-Put.is)
    (subst (λ (photo : List ℕ). SuitsPut (c.args.self.now).settings c.in-Put.pair (length photo) c.put.result) c.as_slice.ensures c.put.ensures.suits)

pub returns-in-Drain-clause-suits : goal.returns-in-Drain-clause-suits
returns-in-Drain-clause-suits g c = subst (λ (asked : Command). Suits (c.args.self.now).settings c.args.tag.line asked c.drain.result) (sym c.in-Drain.is) (c.drain.ensures.suits c.args.tag.line)

pub returns-in-Undrain-clause-suits : goal.returns-in-Undrain-clause-suits
returns-in-Undrain-clause-suits g c =
    subst (λ (asked : Command). Suits (c.args.self.now).settings c.args.tag.line asked c.undrain.result) (sym c.in-Undrain.is) (c.undrain.ensures.suits c.args.tag.line)

pub returns-in-Fuse-clause-suits : goal.returns-in-Fuse-clause-suits
returns-in-Fuse-clause-suits g c = subst (λ (asked : Command). Suits (c.args.self.now).settings c.args.tag.line asked c.fuse.result) (sym c.in-Fuse.is) (c.fuse.ensures.suits c.args.tag.line)

pub returns-in-FuseDir-clause-suits : goal.returns-in-FuseDir-clause-suits
returns-in-FuseDir-clause-suits g c =
    subst (λ (asked : Command). Suits (c.args.self.now).settings c.args.tag.line asked c.fuse_dir.result) (sym c.in-FuseDir.is) (c.fuse_dir.ensures.suits c.args.tag.line)

pub returns-in-Flush-clause-suits : goal.returns-in-Flush-clause-suits
returns-in-Flush-clause-suits g c = subst (λ (asked : Command). Suits (c.args.self.now).settings c.args.tag.line asked c.maintain.result) (sym c.in-Flush.is) (c.maintain.ensures.suits c.args.tag.line)

pub returns-in-Begin-clause-suits : goal.returns-in-Begin-clause-suits
returns-in-Begin-clause-suits g c =
    subst (λ (asked : Command). Suits (c.args.self.now).settings c.args.tag.line asked c.maintain-in-Begin.result) (sym c.in-Begin.is) (c.maintain-in-Begin.ensures.suits c.args.tag.line)

pub returns-in-Step-clause-suits : goal.returns-in-Step-clause-suits
returns-in-Step-clause-suits g c =
    subst (λ (asked : Command). Suits (c.args.self.now).settings c.args.tag.line asked c.maintain-in-Step.result) (sym c.in-Step.is) (c.maintain-in-Step.ensures.suits c.args.tag.line)

pub returns-in-Finish-clause-suits : goal.returns-in-Finish-clause-suits
returns-in-Finish-clause-suits g c =
    subst (λ (asked : Command). Suits (c.args.self.now).settings c.args.tag.line asked c.maintain-in-Finish.result) (sym c.in-Finish.is) (c.maintain-in-Finish.ensures.suits c.args.tag.line)

pub returns-in-Compact-clause-suits : goal.returns-in-Compact-clause-suits
returns-in-Compact-clause-suits g c =
    subst (λ (asked : Command). Suits (c.args.self.now).settings c.args.tag.line asked c.maintain-in-Compact.result) (sym c.in-Compact.is) (c.maintain-in-Compact.ensures.suits c.args.tag.line)

pub returns-in-Url-clause-contents : goal.returns-in-Url-clause-contents
returns-in-Url-clause-contents g c = λ tells.
    subst (λ (asked : Command). LeavesContents (c.args.self.now).settings asked c.url.result (store_seen c.args.self.now).volumes (store_seen c.url.new.self).volumes
    (contents_in g.D.Disk.files c.args.self.now) (contents_in g.D.Disk.files c.url.new.self)) (sym c.in-Url.is)
    (same_contents g.D.Disk.files (c.args.self.now).settings c.args.self.now c.url.new.self c.url.ensures.disks)

pub returns-in-Drain-clause-contents : goal.returns-in-Drain-clause-contents
returns-in-Drain-clause-contents g c = λ tells.
    subst (λ (asked : Command). LeavesContents (c.args.self.now).settings asked c.drain.result (store_seen c.args.self.now).volumes (store_seen c.drain.new.self).volumes
    (contents_in g.D.Disk.files c.args.self.now) (contents_in g.D.Disk.files c.drain.new.self)) (sym c.in-Drain.is)
    (same_contents g.D.Disk.files (c.args.self.now).settings c.args.self.now c.drain.new.self c.drain.ensures.disks)

pub returns-in-Undrain-clause-contents : goal.returns-in-Undrain-clause-contents
returns-in-Undrain-clause-contents g c = λ tells.
    subst (λ (asked : Command). LeavesContents (c.args.self.now).settings asked c.undrain.result (store_seen c.args.self.now).volumes (store_seen c.undrain.new.self).volumes
    (contents_in g.D.Disk.files c.args.self.now) (contents_in g.D.Disk.files c.undrain.new.self)) (sym c.in-Undrain.is)
    (same_contents g.D.Disk.files (c.args.self.now).settings c.args.self.now c.undrain.new.self c.undrain.ensures.disks)

pub returns-in-FuseDir-clause-contents : goal.returns-in-FuseDir-clause-contents
returns-in-FuseDir-clause-contents g c = λ tells.
    subst (λ (asked : Command). LeavesContents (c.args.self.now).settings asked c.fuse_dir.result (store_seen c.args.self.now).volumes (store_seen c.fuse_dir.new.self).volumes
    (contents_in g.D.Disk.files c.args.self.now) (contents_in g.D.Disk.files c.fuse_dir.new.self)) (sym c.in-FuseDir.is)
    (c.fuse_dir.ensures.contents tells)

pub returns-in-Put-clause-contents : goal.returns-in-Put-clause-contents
returns-in-Put-clause-contents g c = λ tells.
    subst (λ (asked : Command). LeavesContents (c.args.self.now).settings asked c.put.result (store_seen c.args.self.now).volumes (store_seen c.put.new.self).volumes
    (contents_in g.D.Disk.files c.args.self.now) (contents_in g.D.Disk.files c.put.new.self)) (sym c.in-Put.is)
    (c.put.ensures.contents tells)

pub returns-in-Read-clause-contents : goal.returns-in-Read-clause-contents
returns-in-Read-clause-contents g c = λ tells.
    subst (λ (asked : Command). LeavesContents (c.args.self.now).settings asked c.read.result (store_seen c.args.self.now).volumes (store_seen c.read.new.self).volumes
    (contents_in g.D.Disk.files c.args.self.now) (contents_in g.D.Disk.files c.read.new.self)) (sym c.in-Read.is)
    (c.read.ensures.contents tells)

pub returns-in-Get-clause-contents : goal.returns-in-Get-clause-contents
returns-in-Get-clause-contents g c = λ tells.
    subst (λ (asked : Command). LeavesContents (c.args.self.now).settings asked c.get.result (store_seen c.args.self.now).volumes (store_seen c.get.new.self).volumes
    (contents_in g.D.Disk.files c.args.self.now) (contents_in g.D.Disk.files c.get.new.self)) (sym c.in-Get.is)
    (c.get.ensures.contents tells)

pub returns-in-Del-clause-contents : goal.returns-in-Del-clause-contents
returns-in-Del-clause-contents g c = λ tells.
    subst (λ (asked : Command). LeavesContents (c.args.self.now).settings asked c.delete.result (store_seen c.args.self.now).volumes (store_seen c.delete.new.self).volumes
    (contents_in g.D.Disk.files c.args.self.now) (contents_in g.D.Disk.files c.delete.new.self)) (sym c.in-Del.is)
    (c.delete.ensures.contents tells)

pub returns-in-Fuse-clause-contents : goal.returns-in-Fuse-clause-contents
returns-in-Fuse-clause-contents g c = λ tells.
    subst (λ (asked : Command). LeavesContents (c.args.self.now).settings asked c.fuse.result (store_seen c.args.self.now).volumes (store_seen c.fuse.new.self).volumes
    (contents_in g.D.Disk.files c.args.self.now) (contents_in g.D.Disk.files c.fuse.new.self)) (sym c.in-Fuse.is)
    (c.fuse.ensures.contents tells)

pub returns-in-Flush-clause-contents : goal.returns-in-Flush-clause-contents
returns-in-Flush-clause-contents g c = λ tells.
    subst (λ (asked : Command). LeavesContents (c.args.self.now).settings asked c.maintain.result (store_seen c.args.self.now).volumes (store_seen c.maintain.new.self).volumes
    (contents_in g.D.Disk.files c.args.self.now) (contents_in g.D.Disk.files c.maintain.new.self)) (sym c.in-Flush.is)
    (c.maintain.ensures.contents tells)

pub returns-in-Begin-clause-contents : goal.returns-in-Begin-clause-contents
returns-in-Begin-clause-contents g c = λ tells.
    subst (λ (asked : Command). LeavesContents (c.args.self.now).settings asked c.maintain-in-Begin.result (store_seen c.args.self.now).volumes
    (store_seen c.maintain-in-Begin.new.self).volumes (contents_in g.D.Disk.files c.args.self.now) (contents_in g.D.Disk.files c.maintain-in-Begin.new.self)) (sym c.in-Begin.is)
    (c.maintain-in-Begin.ensures.contents tells)

pub returns-in-Step-clause-contents : goal.returns-in-Step-clause-contents
returns-in-Step-clause-contents g c = λ tells.
    subst (λ (asked : Command). LeavesContents (c.args.self.now).settings asked c.maintain-in-Step.result (store_seen c.args.self.now).volumes
    (store_seen c.maintain-in-Step.new.self).volumes (contents_in g.D.Disk.files c.args.self.now) (contents_in g.D.Disk.files c.maintain-in-Step.new.self)) (sym c.in-Step.is)
    (c.maintain-in-Step.ensures.contents tells)

pub returns-in-Finish-clause-contents : goal.returns-in-Finish-clause-contents
returns-in-Finish-clause-contents g c = λ tells.
    subst (λ (asked : Command). LeavesContents (c.args.self.now).settings asked c.maintain-in-Finish.result (store_seen c.args.self.now).volumes
    (store_seen c.maintain-in-Finish.new.self).volumes (contents_in g.D.Disk.files c.args.self.now) (contents_in g.D.Disk.files c.maintain-in-Finish.new.self)) (sym c.in-Finish.is)
    (c.maintain-in-Finish.ensures.contents tells)

pub returns-in-Compact-clause-contents : goal.returns-in-Compact-clause-contents
returns-in-Compact-clause-contents g c = λ tells.
    subst (λ (asked : Command). LeavesContents (c.args.self.now).settings asked c.maintain-in-Compact.result (store_seen c.args.self.now).volumes
    (store_seen c.maintain-in-Compact.new.self).volumes (contents_in g.D.Disk.files c.args.self.now) (contents_in g.D.Disk.files c.maintain-in-Compact.new.self)) (sym c.in-Compact.is)
    (c.maintain-in-Compact.ensures.contents tells)

pub returns-in-Put-clause-seen : goal.returns-in-Put-clause-seen
returns-in-Put-clause-seen g c =
    subst (λ (asked : Command). Answers (c.args.self.now).settings c.args.tag asked c.put.result (store_seen c.args.self.now) (store_seen c.put.new.self)) (sym c.in-Put.is)
    (subst (λ (photo : List ℕ). AnswersPut (c.args.self.now).settings c.args.tag c.in-Put.pair (length photo) c.put.result (store_seen c.args.self.now) (store_seen c.put.new.self))
    c.as_slice.ensures c.put.ensures.seen)

pub returns-in-Read-clause-seen : goal.returns-in-Read-clause-seen
returns-in-Read-clause-seen g c =
    subst (λ (asked : Command). Answers (c.args.self.now).settings c.args.tag asked c.read.result (store_seen c.args.self.now) (store_seen c.read.new.self)) (sym c.in-Read.is)
    (c.read.ensures.seen, c.read.ensures.shows)

pub returns-in-Get-clause-seen : goal.returns-in-Get-clause-seen
returns-in-Get-clause-seen g c =
    subst (λ (asked : Command). Answers (c.args.self.now).settings c.args.tag asked c.get.result (store_seen c.args.self.now) (store_seen c.get.new.self)) (sym c.in-Get.is)
    (c.get.ensures.seen, c.get.ensures.shows)

pub returns-in-Del-clause-seen : goal.returns-in-Del-clause-seen
returns-in-Del-clause-seen g c =
    subst (λ (asked : Command). Answers (c.args.self.now).settings c.args.tag asked c.delete.result (store_seen c.args.self.now) (store_seen c.delete.new.self)) (sym c.in-Del.is) c.delete.ensures.seen

pub returns-in-Url-clause-seen : goal.returns-in-Url-clause-seen
returns-in-Url-clause-seen g c =
    subst (λ (asked : Command). Answers (c.args.self.now).settings c.args.tag asked c.url.result (store_seen c.args.self.now) (store_seen c.url.new.self)) (sym c.in-Url.is) c.url.ensures.seen

pub returns-in-Flush-clause-seen : goal.returns-in-Flush-clause-seen
returns-in-Flush-clause-seen g c =
    subst (λ (asked : Command). Answers (c.args.self.now).settings c.args.tag asked c.maintain.result (store_seen c.args.self.now) (store_seen c.maintain.new.self))
    (sym c.in-Flush.is) c.maintain.ensures.seen

pub returns-in-Begin-clause-seen : goal.returns-in-Begin-clause-seen
returns-in-Begin-clause-seen g c =
    subst (λ (asked : Command). Answers (c.args.self.now).settings c.args.tag asked c.maintain-in-Begin.result (store_seen c.args.self.now)
    (store_seen c.maintain-in-Begin.new.self)) (sym c.in-Begin.is) c.maintain-in-Begin.ensures.seen

pub returns-in-Step-clause-seen : goal.returns-in-Step-clause-seen
returns-in-Step-clause-seen g c =
    subst (λ (asked : Command). Answers (c.args.self.now).settings c.args.tag asked c.maintain-in-Step.result (store_seen c.args.self.now) (store_seen c.maintain-in-Step.new.self))
    (sym c.in-Step.is) c.maintain-in-Step.ensures.seen

pub returns-in-Finish-clause-seen : goal.returns-in-Finish-clause-seen
returns-in-Finish-clause-seen g c =
    subst (λ (asked : Command). Answers (c.args.self.now).settings c.args.tag asked c.maintain-in-Finish.result (store_seen c.args.self.now)
    (store_seen c.maintain-in-Finish.new.self)) (sym c.in-Finish.is) c.maintain-in-Finish.ensures.seen

pub returns-in-Compact-clause-seen : goal.returns-in-Compact-clause-seen
returns-in-Compact-clause-seen g c =
    subst (λ (asked : Command). Answers (c.args.self.now).settings c.args.tag asked c.maintain-in-Compact.result (store_seen c.args.self.now)
    (store_seen c.maintain-in-Compact.new.self)) (sym c.in-Compact.is) c.maintain-in-Compact.ensures.seen

pub returns-in-Drain-clause-seen : goal.returns-in-Drain-clause-seen
returns-in-Drain-clause-seen g c =
    subst (λ (asked : Command). Answers (c.args.self.now).settings c.args.tag asked c.drain.result (store_seen c.args.self.now) (store_seen c.drain.new.self)) (sym c.in-Drain.is) c.drain.ensures.seen

pub returns-in-Undrain-clause-seen : goal.returns-in-Undrain-clause-seen
returns-in-Undrain-clause-seen g c =
    subst (λ (asked : Command). Answers (c.args.self.now).settings c.args.tag asked c.undrain.result (store_seen c.args.self.now) (store_seen c.undrain.new.self))
    (sym c.in-Undrain.is) c.undrain.ensures.seen

pub returns-in-Fuse-clause-seen : goal.returns-in-Fuse-clause-seen
returns-in-Fuse-clause-seen g c =
    subst (λ (asked : Command). Answers (c.args.self.now).settings c.args.tag asked c.fuse.result (store_seen c.args.self.now) (store_seen c.fuse.new.self)) (sym c.in-Fuse.is) c.fuse.ensures.seen

pub returns-in-FuseDir-clause-seen : goal.returns-in-FuseDir-clause-seen
returns-in-FuseDir-clause-seen g c =
    subst (λ (asked : Command). Answers (c.args.self.now).settings c.args.tag asked c.fuse_dir.result (store_seen c.args.self.now) (store_seen c.fuse_dir.new.self))
    (sym c.in-FuseDir.is) c.fuse_dir.ensures.seen

pub returns-in-Put-clause-sights : goal.returns-in-Put-clause-sights
returns-in-Put-clause-sights g c =
    subst (λ (asked : Command). LeavesSights (c.args.self.now).settings asked c.put.result (store_seen c.args.self.now) (store_seen c.put.new.self)) (sym c.in-Put.is) c.put.ensures.sights

pub returns-in-Put-clause-ended : goal.returns-in-Put-clause-ended
returns-in-Put-clause-ended g c =
    λ v p d is. absurd (subst (λ (r : Reply). PutSights (c.args.self.now).settings c.in-Put.pair (told_by r) (store_seen c.args.self.now) (store_seen c.put.new.self)) is c.put.ensures.sights)

pub returns-in-Read-clause-sights : goal.returns-in-Read-clause-sights
returns-in-Read-clause-sights g c =
    subst (λ (asked : Command). LeavesSights (c.args.self.now).settings asked c.read.result (store_seen c.args.self.now) (store_seen c.read.new.self)) (sym c.in-Read.is) c.read.ensures.sights

pub returns-in-Read-clause-ended : goal.returns-in-Read-clause-ended
returns-in-Read-clause-ended g c =
    λ v p d is. absurd (subst (λ (r : Reply). ReadSights (c.args.self.now).settings c.in-Read.pair (told_by r) (store_seen c.args.self.now) (store_seen c.read.new.self)) is c.read.ensures.sights)

pub returns-in-Get-clause-sights : goal.returns-in-Get-clause-sights
returns-in-Get-clause-sights g c =
    subst (λ (asked : Command). LeavesSights (c.args.self.now).settings asked c.get.result (store_seen c.args.self.now) (store_seen c.get.new.self)) (sym c.in-Get.is) c.get.ensures.sights

pub returns-in-Get-clause-ended : goal.returns-in-Get-clause-ended
returns-in-Get-clause-ended g c =
    λ v p d is. absurd (subst (λ (r : Reply). ReadSights (c.args.self.now).settings (c.in-Get.url).pair (told_by r) (store_seen c.args.self.now) (store_seen c.get.new.self)) is c.get.ensures.sights)

pub returns-in-Del-clause-sights : goal.returns-in-Del-clause-sights
returns-in-Del-clause-sights g c =
    subst (λ (asked : Command). LeavesSights (c.args.self.now).settings asked c.delete.result (store_seen c.args.self.now) (store_seen c.delete.new.self)) (sym c.in-Del.is) c.delete.ensures.sights

pub returns-in-Url-clause-sights : goal.returns-in-Url-clause-sights
returns-in-Url-clause-sights g c =
    subst (λ (asked : Command). LeavesSights (c.args.self.now).settings asked c.url.result (store_seen c.args.self.now) (store_seen c.url.new.self)) (sym c.in-Url.is) c.url.ensures.sights

pub returns-in-Url-clause-ended : goal.returns-in-Url-clause-ended
returns-in-Url-clause-ended g c = λ v p d is. absurd (subst (λ (r : Reply). Shows (store_seen c.args.self.now) c.in-Url.pair r) is c.url.ensures.seen.1)

pub returns-in-Flush-clause-sights : goal.returns-in-Flush-clause-sights
returns-in-Flush-clause-sights g c =
    subst (λ (asked : Command). LeavesSights (c.args.self.now).settings asked c.maintain.result (store_seen c.args.self.now) (store_seen c.maintain.new.self)) (sym c.in-Flush.is)
    c.maintain.ensures.sights

pub returns-in-Flush-clause-ended : goal.returns-in-Flush-clause-ended
returns-in-Flush-clause-ended g c =
    λ v p d is. absurd (subst (λ (r : Reply). WorkSights (c.args.self.now).settings (told_by r) (store_seen c.args.self.now) (store_seen c.maintain.new.self)) is c.maintain.ensures.sights)

pub returns-in-Begin-clause-sights : goal.returns-in-Begin-clause-sights
returns-in-Begin-clause-sights g c =
    subst (λ (asked : Command). LeavesSights (c.args.self.now).settings asked c.maintain-in-Begin.result (store_seen c.args.self.now) (store_seen c.maintain-in-Begin.new.self))
    (sym c.in-Begin.is) c.maintain-in-Begin.ensures.sights

pub returns-in-Begin-clause-ended : goal.returns-in-Begin-clause-ended
returns-in-Begin-clause-ended g c =
    λ v p d is. absurd (subst (λ (r : Reply). WorkSights (c.args.self.now).settings (told_by r) (store_seen c.args.self.now) (store_seen c.maintain-in-Begin.new.self)) is
    c.maintain-in-Begin.ensures.sights)

pub returns-in-Step-clause-sights : goal.returns-in-Step-clause-sights
returns-in-Step-clause-sights g c =
    subst (λ (asked : Command). LeavesSights (c.args.self.now).settings asked c.maintain-in-Step.result (store_seen c.args.self.now) (store_seen c.maintain-in-Step.new.self))
    (sym c.in-Step.is) c.maintain-in-Step.ensures.sights

pub returns-in-Step-clause-ended : goal.returns-in-Step-clause-ended
returns-in-Step-clause-ended g c =
    λ v p d is. absurd (subst (λ (r : Reply). WorkSights (c.args.self.now).settings (told_by r) (store_seen c.args.self.now) (store_seen c.maintain-in-Step.new.self)) is
    c.maintain-in-Step.ensures.sights)

pub returns-in-Finish-clause-sights : goal.returns-in-Finish-clause-sights
returns-in-Finish-clause-sights g c =
    subst (λ (asked : Command). LeavesSights (c.args.self.now).settings asked c.maintain-in-Finish.result (store_seen c.args.self.now) (store_seen c.maintain-in-Finish.new.self))
    (sym c.in-Finish.is) c.maintain-in-Finish.ensures.sights

pub returns-in-Finish-clause-ended : goal.returns-in-Finish-clause-ended
returns-in-Finish-clause-ended g c =
    λ v p d is. absurd (subst (λ (r : Reply). WorkSights (c.args.self.now).settings (told_by r) (store_seen c.args.self.now) (store_seen c.maintain-in-Finish.new.self)) is
    c.maintain-in-Finish.ensures.sights)

pub returns-in-Compact-clause-sights : goal.returns-in-Compact-clause-sights
returns-in-Compact-clause-sights g c =
    subst (λ (asked : Command). LeavesSights (c.args.self.now).settings asked c.maintain-in-Compact.result (store_seen c.args.self.now) (store_seen c.maintain-in-Compact.new.self))
    (sym c.in-Compact.is) c.maintain-in-Compact.ensures.sights

pub returns-in-Compact-clause-ended : goal.returns-in-Compact-clause-ended
returns-in-Compact-clause-ended g c =
    λ v p d is. absurd (subst (λ (r : Reply). WorkSights (c.args.self.now).settings (told_by r) (store_seen c.args.self.now) (store_seen c.maintain-in-Compact.new.self)) is
    c.maintain-in-Compact.ensures.sights)

pub returns-in-Drain-clause-sights : goal.returns-in-Drain-clause-sights
returns-in-Drain-clause-sights g c =
    subst (λ (asked : Command). LeavesSights (c.args.self.now).settings asked c.drain.result (store_seen c.args.self.now) (store_seen c.drain.new.self)) (sym c.in-Drain.is) c.drain.ensures.sights

pub returns-in-Drain-clause-ended : goal.returns-in-Drain-clause-ended
returns-in-Drain-clause-ended g c =
    λ v p d is. absurd (drained_not_deleted c.in-Drain.machine true (Drained c.in-Drain.machine) c.drain.result (store_seen c.args.self.now) (store_seen c.drain.new.self)
    (λ v p d is. cc) c.drain.ensures.seen v p d is)

pub returns-in-Undrain-clause-sights : goal.returns-in-Undrain-clause-sights
returns-in-Undrain-clause-sights g c =
    subst (λ (asked : Command). LeavesSights (c.args.self.now).settings asked c.undrain.result (store_seen c.args.self.now) (store_seen c.undrain.new.self)) (sym c.in-Undrain.is)
    c.undrain.ensures.sights

pub returns-in-Undrain-clause-ended : goal.returns-in-Undrain-clause-ended
returns-in-Undrain-clause-ended g c =
    λ v p d is. absurd (drained_not_deleted c.in-Undrain.machine false (Undrained c.in-Undrain.machine) c.undrain.result (store_seen c.args.self.now)
    (store_seen c.undrain.new.self) (λ v p d is. cc) c.undrain.ensures.seen v p d is)

pub returns-in-Fuse-clause-sights : goal.returns-in-Fuse-clause-sights
returns-in-Fuse-clause-sights g c =
    subst (λ (asked : Command). LeavesSights (c.args.self.now).settings asked c.fuse.result (store_seen c.args.self.now) (store_seen c.fuse.new.self)) (sym c.in-Fuse.is) c.fuse.ensures.sights

pub returns-in-Fuse-clause-ended : goal.returns-in-Fuse-clause-ended
returns-in-Fuse-clause-ended g c =
    λ v p d is. absurd (fused_not_deleted (replica_on (c.args.self.now).settings c.in-Fuse.volume c.in-Fuse.machine) (Fused c.in-Fuse.volume c.in-Fuse.machine c.in-Fuse.calls)
    c.fuse.result (λ v p d is. cc) (c.fuse.ensures.suits c.args.tag.line) v p d is)

pub returns-in-FuseDir-clause-sights : goal.returns-in-FuseDir-clause-sights
returns-in-FuseDir-clause-sights g c =
    subst (λ (asked : Command). LeavesSights (c.args.self.now).settings asked c.fuse_dir.result (store_seen c.args.self.now) (store_seen c.fuse_dir.new.self)) (sym c.in-FuseDir.is)
    c.fuse_dir.ensures.sights

pub returns-in-FuseDir-clause-ended : goal.returns-in-FuseDir-clause-ended
returns-in-FuseDir-clause-ended g c = λ v p d is. absurd (let same : FusedDir c.in-FuseDir.calls ≡ Deleted v p d = sym (c.fuse_dir.ensures.suits c.args.tag.line) ∙ is in cc)

pub returns-in-Put-clause-passes : goal.returns-in-Put-clause-passes
returns-in-Put-clause-passes g c =
    subst (λ (asked : Command). PassesBefore g.D.Disk.Tells (c.args.self.now).settings (IsSureArm g.A.Arm.is_sure (c.args.self.now).arms c.args.tag.lane)
    (contents_in g.D.Disk.files c.put.new.self) c.args.tag asked
    (counts_of g.D.Disk.fault_count g.A.Arm.fault_count c.args.self.now) (counts_of g.D.Disk.fault_count g.A.Arm.fault_count c.put.new.self) (store_seen c.put.new.self)
    c.put.result) (sym c.in-Put.is) tt

pub returns-in-Read-clause-passes : goal.returns-in-Read-clause-passes
returns-in-Read-clause-passes g c =
    subst (λ (asked : Command). PassesBefore g.D.Disk.Tells (c.args.self.now).settings (IsSureArm g.A.Arm.is_sure (c.args.self.now).arms c.args.tag.lane)
    (contents_in g.D.Disk.files c.read.new.self) c.args.tag asked
    (counts_of g.D.Disk.fault_count g.A.Arm.fault_count c.args.self.now) (counts_of g.D.Disk.fault_count g.A.Arm.fault_count c.read.new.self) (store_seen c.read.new.self)
    c.read.result) (sym c.in-Read.is) c.read.ensures.passes

pub returns-in-Get-clause-passes : goal.returns-in-Get-clause-passes
returns-in-Get-clause-passes g c =
    subst (λ (asked : Command). PassesBefore g.D.Disk.Tells (c.args.self.now).settings (IsSureArm g.A.Arm.is_sure (c.args.self.now).arms c.args.tag.lane)
    (contents_in g.D.Disk.files c.get.new.self) c.args.tag asked
    (counts_of g.D.Disk.fault_count g.A.Arm.fault_count c.args.self.now) (counts_of g.D.Disk.fault_count g.A.Arm.fault_count c.get.new.self) (store_seen c.get.new.self)
    c.get.result) (sym c.in-Get.is) c.get.ensures.passes

pub returns-in-Del-clause-passes : goal.returns-in-Del-clause-passes
returns-in-Del-clause-passes g c =
    subst (λ (asked : Command). PassesBefore g.D.Disk.Tells (c.args.self.now).settings (IsSureArm g.A.Arm.is_sure (c.args.self.now).arms c.args.tag.lane)
    (contents_in g.D.Disk.files c.delete.new.self) c.args.tag asked
    (counts_of g.D.Disk.fault_count g.A.Arm.fault_count c.args.self.now) (counts_of g.D.Disk.fault_count g.A.Arm.fault_count c.delete.new.self) (store_seen c.delete.new.self)
    c.delete.result) (sym c.in-Del.is) tt

pub returns-in-Url-clause-passes : goal.returns-in-Url-clause-passes
returns-in-Url-clause-passes g c =
    subst (λ (asked : Command). PassesBefore g.D.Disk.Tells (c.args.self.now).settings (IsSureArm g.A.Arm.is_sure (c.args.self.now).arms c.args.tag.lane)
    (contents_in g.D.Disk.files c.url.new.self) c.args.tag asked
    (counts_of g.D.Disk.fault_count g.A.Arm.fault_count c.args.self.now) (counts_of g.D.Disk.fault_count g.A.Arm.fault_count c.url.new.self) (store_seen c.url.new.self)
    c.url.result) (sym c.in-Url.is) tt

pub returns-in-Flush-clause-passes : goal.returns-in-Flush-clause-passes
returns-in-Flush-clause-passes g c =
    subst (λ (asked : Command). PassesBefore g.D.Disk.Tells (c.args.self.now).settings (IsSureArm g.A.Arm.is_sure (c.args.self.now).arms c.args.tag.lane)
    (contents_in g.D.Disk.files c.maintain.new.self) c.args.tag asked
    (counts_of g.D.Disk.fault_count g.A.Arm.fault_count c.args.self.now) (counts_of g.D.Disk.fault_count g.A.Arm.fault_count c.maintain.new.self) (store_seen c.maintain.new.self)
    c.maintain.result) (sym c.in-Flush.is) tt

pub returns-in-Drain-clause-passes : goal.returns-in-Drain-clause-passes
returns-in-Drain-clause-passes g c =
    subst (λ (asked : Command). PassesBefore g.D.Disk.Tells (c.args.self.now).settings (IsSureArm g.A.Arm.is_sure (c.args.self.now).arms c.args.tag.lane)
    (contents_in g.D.Disk.files c.drain.new.self) c.args.tag asked
    (counts_of g.D.Disk.fault_count g.A.Arm.fault_count c.args.self.now) (counts_of g.D.Disk.fault_count g.A.Arm.fault_count c.drain.new.self) (store_seen c.drain.new.self)
    c.drain.result) (sym c.in-Drain.is) tt

pub returns-in-Undrain-clause-passes : goal.returns-in-Undrain-clause-passes
returns-in-Undrain-clause-passes g c =
    subst (λ (asked : Command). PassesBefore g.D.Disk.Tells (c.args.self.now).settings (IsSureArm g.A.Arm.is_sure (c.args.self.now).arms c.args.tag.lane)
    (contents_in g.D.Disk.files c.undrain.new.self) c.args.tag asked
    (counts_of g.D.Disk.fault_count g.A.Arm.fault_count c.args.self.now) (counts_of g.D.Disk.fault_count g.A.Arm.fault_count c.undrain.new.self) (store_seen c.undrain.new.self)
    c.undrain.result) (sym c.in-Undrain.is) tt

pub returns-in-Fuse-clause-passes : goal.returns-in-Fuse-clause-passes
returns-in-Fuse-clause-passes g c =
    subst (λ (asked : Command). PassesBefore g.D.Disk.Tells (c.args.self.now).settings (IsSureArm g.A.Arm.is_sure (c.args.self.now).arms c.args.tag.lane)
    (contents_in g.D.Disk.files c.fuse.new.self) c.args.tag asked
    (counts_of g.D.Disk.fault_count g.A.Arm.fault_count c.args.self.now) (counts_of g.D.Disk.fault_count g.A.Arm.fault_count c.fuse.new.self) (store_seen c.fuse.new.self)
    c.fuse.result) (sym c.in-Fuse.is) tt

pub returns-in-FuseDir-clause-passes : goal.returns-in-FuseDir-clause-passes
returns-in-FuseDir-clause-passes g c =
    subst (λ (asked : Command). PassesBefore g.D.Disk.Tells (c.args.self.now).settings (IsSureArm g.A.Arm.is_sure (c.args.self.now).arms c.args.tag.lane)
    (contents_in g.D.Disk.files c.fuse_dir.new.self) c.args.tag asked
    (counts_of g.D.Disk.fault_count g.A.Arm.fault_count c.args.self.now) (counts_of g.D.Disk.fault_count g.A.Arm.fault_count c.fuse_dir.new.self) (store_seen c.fuse_dir.new.self)
    c.fuse_dir.result) (sym c.in-FuseDir.is) tt

pub returns-in-Compact-clause-passes : goal.returns-in-Compact-clause-passes
returns-in-Compact-clause-passes g c =
    subst (λ (asked : Command). PassesBefore g.D.Disk.Tells (c.args.self.now).settings (IsSureArm g.A.Arm.is_sure (c.args.self.now).arms c.args.tag.lane)
    (contents_in g.D.Disk.files c.maintain-in-Compact.new.self) c.args.tag asked
    (counts_of g.D.Disk.fault_count g.A.Arm.fault_count c.args.self.now) (counts_of g.D.Disk.fault_count g.A.Arm.fault_count c.maintain-in-Compact.new.self)
    (store_seen c.maintain-in-Compact.new.self) c.maintain-in-Compact.result) (sym c.in-Compact.is) tt

pub returns-in-Begin-clause-passes : goal.returns-in-Begin-clause-passes
returns-in-Begin-clause-passes g c =
    subst (λ (asked : Command). PassesBefore g.D.Disk.Tells (c.args.self.now).settings (IsSureArm g.A.Arm.is_sure (c.args.self.now).arms c.args.tag.lane)
    (contents_in g.D.Disk.files c.maintain-in-Begin.new.self) c.args.tag asked
    (counts_of g.D.Disk.fault_count g.A.Arm.fault_count c.args.self.now) (counts_of g.D.Disk.fault_count g.A.Arm.fault_count c.maintain-in-Begin.new.self)
    (store_seen c.maintain-in-Begin.new.self) c.maintain-in-Begin.result) (sym c.in-Begin.is) tt

pub returns-in-Step-clause-passes : goal.returns-in-Step-clause-passes
returns-in-Step-clause-passes g c =
    subst (λ (asked : Command). PassesBefore g.D.Disk.Tells (c.args.self.now).settings (IsSureArm g.A.Arm.is_sure (c.args.self.now).arms c.args.tag.lane)
    (contents_in g.D.Disk.files c.maintain-in-Step.new.self) c.args.tag asked
    (counts_of g.D.Disk.fault_count g.A.Arm.fault_count c.args.self.now) (counts_of g.D.Disk.fault_count g.A.Arm.fault_count c.maintain-in-Step.new.self)
    (store_seen c.maintain-in-Step.new.self) c.maintain-in-Step.result) (sym c.in-Step.is) tt

pub returns-in-Finish-clause-passes : goal.returns-in-Finish-clause-passes
returns-in-Finish-clause-passes g c =
    subst (λ (asked : Command). PassesBefore g.D.Disk.Tells (c.args.self.now).settings (IsSureArm g.A.Arm.is_sure (c.args.self.now).arms c.args.tag.lane)
    (contents_in g.D.Disk.files c.maintain-in-Finish.new.self) c.args.tag asked
    (counts_of g.D.Disk.fault_count g.A.Arm.fault_count c.args.self.now) (counts_of g.D.Disk.fault_count g.A.Arm.fault_count c.maintain-in-Finish.new.self)
    (store_seen c.maintain-in-Finish.new.self) c.maintain-in-Finish.result) (sym c.in-Finish.is) tt

pub returns-in-Put-clause-damaged : goal.returns-in-Put-clause-damaged
returns-in-Put-clause-damaged g c = λ tells.
    subst (λ (asked : Command). TellsDamage (c.args.self.now).settings (contents_in g.D.Disk.files c.args.self.now) (store_seen c.args.self.now) asked c.put.result) (sym c.in-Put.is) tt

pub returns-in-Read-clause-damaged : goal.returns-in-Read-clause-damaged
returns-in-Read-clause-damaged g c = λ tells.
    subst (λ (asked : Command). TellsDamage (c.args.self.now).settings (contents_in g.D.Disk.files c.args.self.now) (store_seen c.args.self.now) asked c.read.result) (sym c.in-Read.is) tt

pub returns-in-Get-clause-damaged : goal.returns-in-Get-clause-damaged
returns-in-Get-clause-damaged g c = λ tells.
    subst (λ (asked : Command). TellsDamage (c.args.self.now).settings (contents_in g.D.Disk.files c.args.self.now) (store_seen c.args.self.now) asked c.get.result) (sym c.in-Get.is) tt

pub returns-in-Del-clause-damaged : goal.returns-in-Del-clause-damaged
returns-in-Del-clause-damaged g c = λ tells.
    subst (λ (asked : Command). TellsDamage (c.args.self.now).settings (contents_in g.D.Disk.files c.args.self.now) (store_seen c.args.self.now) asked c.delete.result)
    (sym c.in-Del.is) (c.delete.ensures.damaged tells)

pub returns-in-Url-clause-damaged : goal.returns-in-Url-clause-damaged
returns-in-Url-clause-damaged g c = λ tells.
    subst (λ (asked : Command). TellsDamage (c.args.self.now).settings (contents_in g.D.Disk.files c.args.self.now) (store_seen c.args.self.now) asked c.url.result) (sym c.in-Url.is) tt

pub returns-in-Flush-clause-damaged : goal.returns-in-Flush-clause-damaged
returns-in-Flush-clause-damaged g c = λ tells.
    subst (λ (asked : Command). TellsDamage (c.args.self.now).settings (contents_in g.D.Disk.files c.args.self.now) (store_seen c.args.self.now) asked c.maintain.result) (sym c.in-Flush.is) tt

pub returns-in-Drain-clause-damaged : goal.returns-in-Drain-clause-damaged
returns-in-Drain-clause-damaged g c = λ tells.
    subst (λ (asked : Command). TellsDamage (c.args.self.now).settings (contents_in g.D.Disk.files c.args.self.now) (store_seen c.args.self.now) asked c.drain.result) (sym c.in-Drain.is) tt

pub returns-in-Undrain-clause-damaged : goal.returns-in-Undrain-clause-damaged
returns-in-Undrain-clause-damaged g c = λ tells.
    subst (λ (asked : Command). TellsDamage (c.args.self.now).settings (contents_in g.D.Disk.files c.args.self.now) (store_seen c.args.self.now) asked c.undrain.result) (sym c.in-Undrain.is) tt

pub returns-in-Fuse-clause-damaged : goal.returns-in-Fuse-clause-damaged
returns-in-Fuse-clause-damaged g c = λ tells.
    subst (λ (asked : Command). TellsDamage (c.args.self.now).settings (contents_in g.D.Disk.files c.args.self.now) (store_seen c.args.self.now) asked c.fuse.result) (sym c.in-Fuse.is) tt

pub returns-in-FuseDir-clause-damaged : goal.returns-in-FuseDir-clause-damaged
returns-in-FuseDir-clause-damaged g c = λ tells.
    subst (λ (asked : Command). TellsDamage (c.args.self.now).settings (contents_in g.D.Disk.files c.args.self.now) (store_seen c.args.self.now) asked c.fuse_dir.result) (sym c.in-FuseDir.is) tt

pub returns-in-Compact-clause-damaged : goal.returns-in-Compact-clause-damaged
returns-in-Compact-clause-damaged g c = λ tells.
    subst (λ (asked : Command). TellsDamage (c.args.self.now).settings (contents_in g.D.Disk.files c.args.self.now) (store_seen c.args.self.now) asked c.maintain-in-Compact.result)
    (sym c.in-Compact.is) (c.maintain-in-Compact.ensures.damaged tells)

pub returns-in-Begin-clause-damaged : goal.returns-in-Begin-clause-damaged
returns-in-Begin-clause-damaged g c = λ tells.
    subst (λ (asked : Command). TellsDamage (c.args.self.now).settings (contents_in g.D.Disk.files c.args.self.now) (store_seen c.args.self.now) asked c.maintain-in-Begin.result)
    (sym c.in-Begin.is) tt

pub returns-in-Step-clause-damaged : goal.returns-in-Step-clause-damaged
returns-in-Step-clause-damaged g c = λ tells.
    subst (λ (asked : Command). TellsDamage (c.args.self.now).settings (contents_in g.D.Disk.files c.args.self.now) (store_seen c.args.self.now) asked c.maintain-in-Step.result)
    (sym c.in-Step.is) (c.maintain-in-Step.ensures.damaged tells)

pub returns-in-Finish-clause-damaged : goal.returns-in-Finish-clause-damaged
returns-in-Finish-clause-damaged g c = λ tells.
    subst (λ (asked : Command). TellsDamage (c.args.self.now).settings (contents_in g.D.Disk.files c.args.self.now) (store_seen c.args.self.now) asked c.maintain-in-Finish.result)
    (sym c.in-Finish.is) (c.maintain-in-Finish.ensures.damaged tells)

pub returns-in-Put-clause-told : goal.returns-in-Put-clause-told
returns-in-Put-clause-told g c = λ tells.
    subst (λ (asked : Command). MeetsNeedles (c.args.self.now).settings (contents_in g.D.Disk.files c.args.self.now) (store_seen c.args.self.now) (store_seen c.put.new.self) asked
    c.put.result) (sym c.in-Put.is) tt

pub returns-in-Read-clause-told : goal.returns-in-Read-clause-told
returns-in-Read-clause-told g c = λ tells.
    subst (λ (asked : Command). MeetsNeedles (c.args.self.now).settings (contents_in g.D.Disk.files c.args.self.now) (store_seen c.args.self.now) (store_seen c.read.new.self) asked
    c.read.result) (sym c.in-Read.is) (c.read.ensures.told tells)

pub returns-in-Get-clause-told : goal.returns-in-Get-clause-told
returns-in-Get-clause-told g c = λ tells.
    subst (λ (asked : Command). MeetsNeedles (c.args.self.now).settings (contents_in g.D.Disk.files c.args.self.now) (store_seen c.args.self.now) (store_seen c.get.new.self) asked
    c.get.result) (sym c.in-Get.is) (c.get.ensures.told tells)

pub returns-in-Del-clause-told : goal.returns-in-Del-clause-told
returns-in-Del-clause-told g c = λ tells.
    subst (λ (asked : Command). MeetsNeedles (c.args.self.now).settings (contents_in g.D.Disk.files c.args.self.now) (store_seen c.args.self.now) (store_seen c.delete.new.self)
    asked c.delete.result) (sym c.in-Del.is) (c.delete.ensures.told tells)

pub returns-in-Url-clause-told : goal.returns-in-Url-clause-told
returns-in-Url-clause-told g c = λ tells.
    subst (λ (asked : Command). MeetsNeedles (c.args.self.now).settings (contents_in g.D.Disk.files c.args.self.now) (store_seen c.args.self.now) (store_seen c.url.new.self) asked
    c.url.result) (sym c.in-Url.is) tt

pub returns-in-Flush-clause-told : goal.returns-in-Flush-clause-told
returns-in-Flush-clause-told g c = λ tells.
    subst (λ (asked : Command). MeetsNeedles (c.args.self.now).settings (contents_in g.D.Disk.files c.args.self.now) (store_seen c.args.self.now) (store_seen c.maintain.new.self)
    asked c.maintain.result) (sym c.in-Flush.is) tt

pub returns-in-Drain-clause-told : goal.returns-in-Drain-clause-told
returns-in-Drain-clause-told g c = λ tells.
    subst (λ (asked : Command). MeetsNeedles (c.args.self.now).settings (contents_in g.D.Disk.files c.args.self.now) (store_seen c.args.self.now) (store_seen c.drain.new.self)
    asked c.drain.result) (sym c.in-Drain.is) tt

pub returns-in-Undrain-clause-told : goal.returns-in-Undrain-clause-told
returns-in-Undrain-clause-told g c = λ tells.
    subst (λ (asked : Command). MeetsNeedles (c.args.self.now).settings (contents_in g.D.Disk.files c.args.self.now) (store_seen c.args.self.now) (store_seen c.undrain.new.self)
    asked c.undrain.result) (sym c.in-Undrain.is) tt

pub returns-in-Fuse-clause-told : goal.returns-in-Fuse-clause-told
returns-in-Fuse-clause-told g c = λ tells.
    subst (λ (asked : Command). MeetsNeedles (c.args.self.now).settings (contents_in g.D.Disk.files c.args.self.now) (store_seen c.args.self.now) (store_seen c.fuse.new.self) asked
    c.fuse.result) (sym c.in-Fuse.is) tt

pub returns-in-FuseDir-clause-told : goal.returns-in-FuseDir-clause-told
returns-in-FuseDir-clause-told g c = λ tells.
    subst (λ (asked : Command). MeetsNeedles (c.args.self.now).settings (contents_in g.D.Disk.files c.args.self.now) (store_seen c.args.self.now) (store_seen c.fuse_dir.new.self)
    asked c.fuse_dir.result) (sym c.in-FuseDir.is) tt

pub returns-in-Compact-clause-told : goal.returns-in-Compact-clause-told
returns-in-Compact-clause-told g c = λ tells.
    subst (λ (asked : Command). MeetsNeedles (c.args.self.now).settings (contents_in g.D.Disk.files c.args.self.now) (store_seen c.args.self.now)
    (store_seen c.maintain-in-Compact.new.self) asked c.maintain-in-Compact.result) (sym c.in-Compact.is) (c.maintain-in-Compact.ensures.told tells)

pub returns-in-Begin-clause-told : goal.returns-in-Begin-clause-told
returns-in-Begin-clause-told g c = λ tells.
    subst (λ (asked : Command). MeetsNeedles (c.args.self.now).settings (contents_in g.D.Disk.files c.args.self.now) (store_seen c.args.self.now)
    (store_seen c.maintain-in-Begin.new.self) asked c.maintain-in-Begin.result) (sym c.in-Begin.is) tt

pub returns-in-Step-clause-told : goal.returns-in-Step-clause-told
returns-in-Step-clause-told g c = λ tells.
    subst (λ (asked : Command). MeetsNeedles (c.args.self.now).settings (contents_in g.D.Disk.files c.args.self.now) (store_seen c.args.self.now)
    (store_seen c.maintain-in-Step.new.self) asked c.maintain-in-Step.result) (sym c.in-Step.is) (c.maintain-in-Step.ensures.told tells)

pub returns-in-Finish-clause-told : goal.returns-in-Finish-clause-told
returns-in-Finish-clause-told g c = λ tells.
    subst (λ (asked : Command). MeetsNeedles (c.args.self.now).settings (contents_in g.D.Disk.files c.args.self.now) (store_seen c.args.self.now)
    (store_seen c.maintain-in-Finish.new.self) asked c.maintain-in-Finish.result) (sym c.in-Finish.is) (c.maintain-in-Finish.ensures.told tells)
