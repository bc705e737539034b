use Rattle.std.proofs.Common.{◌≡◌, ◌<◌, Err, refl, sym, ap, ◌∙◌}
use Rattle.hay_legal.specs.Known.{slot_of}
use Rattle.hay_logical.specs.declared.fault.LogicalFault.{LogicalFault}
use Rattle.hay_reader.specs.declared.causes.PassedReplica.{PassedReplica}
use Rattle.hay_cluster.specs.Reads.{IsSightCause, NeverIn, counts_of}
use Rattle.hay_cluster.proofs.Showing.{passes_none, passes_one, sight_passed}
use Rattle.hay_cluster.proofs.Sighting.{kept_looks, photos_as, photos_kept}
use Rattle.hay_cluster.proofs.ReadSights.{awaits_for}
use Rattle.hay_cluster.proofs.Placing.{fault_lacks, may_have_more, may_have_still, of_place_still}
use Rattle.hay_reader.proofs.Passing.{all_weaken}
use Rattle.hay_reply.specs.declared.Cause.{Cause}
use Rattle.hay_cluster.specs.Needles.{LacksFor}
use Rattle.hay_cluster.specs.Passing.{IsOfPlace}
use Rattle.hay_cluster.specs.Store.{contents_in}
use Rattle.hay_logical.specs.Sights.{LooksAtPair, SeesPair}
use Rattle.hay_cluster.specs.Seen.{store_seen}
use Rattle.hay_cluster.proofs.cluster.Cluster.see_or_pass.Goals as goal

pub returns-in-Ok-clause-passes : goal.returns-in-Ok-clause-passes
returns-in-Ok-clause-passes g c = λ lane start order next.
    let W = NeverIn g.D.Disk.Tells g.D.Disk.files g.D.Piece.Piece.Tells g.D.Disk.fault_count g.D.Disk.fuse_count g.A.Arm.fault_count g.A.Arm.is_sure c.args.self.now lane in
    let before = counts_of g.D.Disk.fault_count g.A.Arm.fault_count c.args.self.now in
    let after = counts_of g.D.Disk.fault_count g.A.Arm.fault_count c.see_in.new.self in
    passes_none W (c.args.self.now).settings lane c.args.volume start before after c.args.causes order

pub returns-in_ok-cause-in-Err-clause-passes : goal.returns-in_ok-cause-in-Err-clause-passes
returns-in_ok-cause-in-Err-clause-passes g c = λ lane start order next.
    let W = NeverIn g.D.Disk.Tells g.D.Disk.files g.D.Piece.Piece.Tells g.D.Disk.fault_count g.D.Disk.fuse_count g.A.Arm.fault_count g.A.Arm.is_sure c.args.self.now lane in
    let before = counts_of g.D.Disk.fault_count g.A.Arm.fault_count c.args.self.now in
    let after = counts_of g.D.Disk.fault_count g.A.Arm.fault_count c.see_in.new.self in
    let over : PassedReplica = record { replica = c.args.replica; cause = c.in_ok-cause-in-Err.cause } in
    let has =
    sight_passed W (slot_of (c.args.self.now).settings c.args.volume c.args.replica) _ _ before.disks after.disks c.in-Err.fault c.in_ok-cause-in-Err.cause
    c.in-Err.ensures.causes c.in_ok-cause-in-Err.ensures
    (λ m at whole e. c.see_in.ensures.undamaged whole m at (c.in-Err.is ∙ ap (λ (f : LogicalFault). Err f) e)) in
    rw c.push.ensures (passes_one W (c.args.self.now).settings lane c.args.volume start before after c.args.causes over order next has)

pub returns-in-Ok-clause-needle : goal.returns-in-Ok-clause-needle
returns-in-Ok-clause-needle g c = λ unseen. (refl, c.in-Ok.ensures.needle unseen)

pub returns-in-Ok-clause-looks : goal.returns-in-Ok-clause-looks
returns-in-Ok-clause-looks g c =
    photos_as c.args.volume (store_seen c.args.self.now) (store_seen c.see_in.new.self) (SeesPair c.args.pair c.args.replica) (LooksAtPair c.args.pair)
    (λ before after sees. sees.looks) c.in-Ok.ensures.sights

pub returns-in-Ok-clause-may_stand : goal.returns-in-Ok-clause-may_stand
returns-in-Ok-clause-may_stand g c =
    let old = store_seen c.args.self.now in
    let new = store_seen c.see_in.new.self in
    let sees = (c.in-Ok.ensures.sights).changes in
    may_have_still g.D.Disk.Tells (c.args.self.now).settings (contents_in g.D.Disk.files c.args.self.now) (contents_in g.D.Disk.files c.see_in.new.self) old new c.args.volume
    c.args.pair c.requires.volume
    (c.see_in.ensures.unchanged).volumes c.see_in.ensures.contents c.args.causes
    (all_weaken (λ over. (over.replica < ((c.args.self.now).settings).replicas) × (over.replica ≡ c.args.replica → ⊥))
    (λ over. (over.replica < ((c.args.self.now).settings).replicas) × (new.places c.args.volume c.args.pair over.replica ≡ old.places c.args.volume c.args.pair over.replica))
    (λ over h. (h.0, sees.others over.replica h.1)) c.args.causes c.requires.apart) c.requires.may_stand

pub returns-in_ok-cause-in-Err-clause-looks : goal.returns-in_ok-cause-in-Err-clause-looks
returns-in_ok-cause-in-Err-clause-looks g c =
    photos_kept c.args.volume (store_seen c.args.self.now) (store_seen c.see_in.new.self) (LooksAtPair c.args.pair) (kept_looks c.args.pair) c.in-Err.ensures.refused_sights.0

pub returns-in_err-cause-in-Err-clause-looks : goal.returns-in_err-cause-in-Err-clause-looks
returns-in_err-cause-in-Err-clause-looks g c =
    photos_kept c.args.volume (store_seen c.args.self.now) (store_seen c.see_in.new.self) (LooksAtPair c.args.pair) (kept_looks c.args.pair) c.in-Err.ensures.refused_sights.0

pub returns-in_ok-cause-in-Err-clause-may_stand : goal.returns-in_ok-cause-in-Err-clause-may_stand
returns-in_ok-cause-in-Err-clause-may_stand g c =
    let settings = (c.args.self.now).settings in
    let old = store_seen c.args.self.now in
    let new = store_seen c.see_in.new.self in
    let contents = contents_in g.D.Disk.files c.args.self.now in
    let contents' = contents_in g.D.Disk.files c.see_in.new.self in
    let over : PassedReplica = record { replica = c.args.replica; cause = c.in_ok-cause-in-Err.cause } in
    let kept = c.in-Err.ensures.refused_sights in
    let lacks : (cause : Cause) → IsSightCause c.in-Err.fault cause → g.D.Disk.Tells → LacksFor settings contents old c.args.volume c.args.pair c.args.replica cause =
    λ cause is tells. fault_lacks settings contents old c.args.volume c.args.pair c.args.replica c.in-Err.fault cause is
    (λ m place e. c.see_in.ensures.lacks tells m place (c.in-Err.is ∙ ap (λ (f : LogicalFault). Err f) e)) in
    let here : IsOfPlace g.D.Disk.Tells settings contents old c.args.volume c.args.pair c.args.replica c.in_ok-cause-in-Err.cause = (
      awaits_for c.in-Err.fault c.in_ok-cause-in-Err.cause (old.places c.args.volume c.args.pair c.args.replica) c.in_ok-cause-in-Err.ensures kept.1,
      lacks c.in_ok-cause-in-Err.cause c.in_ok-cause-in-Err.ensures,
    ) in
    rw c.push.ensures
    (may_have_more (IsOfPlace g.D.Disk.Tells settings contents' new c.args.volume c.args.pair) c.args.causes over
    (of_place_still g.D.Disk.Tells settings contents contents' old new c.args.volume c.args.pair c.requires.volume (c.see_in.ensures.unchanged).volumes c.see_in.ensures.contents
    c.args.replica c.in_ok-cause-in-Err.cause c.requires.replica (kept.0 c.args.volume c.args.pair c.args.replica) here)
    (may_have_still g.D.Disk.Tells settings contents contents' old new c.args.volume c.args.pair c.requires.volume (c.see_in.ensures.unchanged).volumes c.see_in.ensures.contents c.args.causes
    (all_weaken (λ over. (over.replica < settings.replicas) × (over.replica ≡ c.args.replica → ⊥))
    (λ over. (over.replica < settings.replicas) × (new.places c.args.volume c.args.pair over.replica ≡ old.places c.args.volume c.args.pair over.replica))
    (λ over h. (h.0, kept.0 c.args.volume c.args.pair over.replica)) c.args.causes c.requires.apart) c.requires.may_stand))
