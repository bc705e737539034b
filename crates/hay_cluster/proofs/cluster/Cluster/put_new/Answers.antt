use Rattle.std.proofs.Common.{◌≡◌, ℕ, List, inl, inr, None, Some, length, map, sym, ap, subst, ◌∙◌, refl}
use Rattle.std.specs.Prelude.{Ok, Err}
use Rattle.hay_directory.specs.declared.fault.DirFault.TheVariants as settling
use Rattle.hay_needle.specs.declared.settings.Settings.{Settings}
use Rattle.hay_legal.specs.Known.{refusal_of, taker_of}
use Rattle.hay_script.specs.declared.Command.TheVariants as command
use Rattle.hay_reply.specs.declared.Reply.{Reply}
use Rattle.hay_logical.specs.Fits.{At}
use Rattle.hay_logical.specs.Volumes.{Volume}
use Rattle.hay_cluster.specs.Causes.{IsCaused}
use Rattle.hay_cluster.specs.Puts.{TakesPhoto}
use Rattle.hay_cluster.specs.State.{Answered}
use Rattle.hay_cluster.specs.Store.{Open, contents_in, disks_of}
use Rattle.hay_cluster.proofs.Answering.{answered, cause_earlier, not_settled, refusal_same, taker_takes}
use Rattle.hay_cluster.proofs.Moves.{falls_trans}
use Rattle.hay_cluster.proofs.Puts.{put_legal}
use Rattle.hay_cluster.proofs.Suiting.{settle_suits}
use Rattle.std.proofs.lemmas.Result.{IfErr-at_err}
use Rattle.hay_cluster.specs.Leaving.{AddsRow, IsBeside, IsReplicaSlot, LeavesIn, LeavesReplicas}
use Rattle.hay_cluster.proofs.Leaving.{first_contents, leaves_contents, leaves_reads, replicas_after, same_first, unsettled_leaves}
use Rattle.hay_legal.specs.Stands.{Contents}
use Rattle.hay_legal.specs.Suiting.{SuitsPut}
use Rattle.hay_cluster.specs.Seen.{PutsAt, store_seen, places_of}
use Rattle.hay_cluster.proofs.Seeing.{put_seen, unsettled_seen}
use Rattle.hay_cluster.proofs.Sighting.{put_from, same_photos, unsettled_sights}
use Rattle.hay_cluster.specs.Sights.{PutSights, told_by}
use Rattle.hay_logical.specs.Seen.{VolumeSeen, volume_seen}
use Rattle.hay_cluster.proofs.cluster.Cluster.put_new.Goals as goal

ok_not_err : {T E : Type 0} (x : T) (y : E) → Ok x ≡ Err y → ⊥
ok_not_err x y is = absurd cc

pub returns-in-Ok-clause-legal : goal.returns-in-Ok-clause-legal
returns-in-Ok-clause-legal g c = λ tells k stands home taker.
    let came = c.in-Ok.ensures.settled tells k stands in
    let size = length c.args.bytes.now in
    let takes = taker_takes (c.args.self.now).settings k c.args.pair size c.args.volume taker in
    let still : refusal_of (c.settle.new.self).settings came.known size c.args.volume ≡ None =
    ap (λ (s : Settings). refusal_of s came.known size c.args.volume) c.settle.ensures.settings
    ∙ refusal_same (c.args.self.now).settings k came.known size c.args.volume (came.leaves).volumes (came.leaves).drained ∙ takes in
    let stored = c.put_at.ensures.stored tells came.known came.stands still in
    answered g.D.Disk.files g.D.Piece.Piece.Tells g.D.Disk.fault_count g.D.Disk.fuse_count g.A.Arm.fault_count c.put_at.new.self (c.settle.new.self).settings k stored.known
    c.args.tag _ c.put_at.result c.put_at.ensures.settings
    (put_legal (c.settle.new.self).settings k came.known stored.known c.args.tag c.args.pair c.args.bytes.now c.args.volume c.put_at.result
    (subst (λ (s : Settings). taker_of s k c.args.pair size ≡ Some c.args.volume) (sym c.settle.ensures.settings) taker)
    (λ _. c.settle.ensures.thawed tells k stands (λ frozen. absurd (ok_not_err c.in-Ok.field-0 settling.Frozen (sym c.in-Ok.is ∙ frozen)))) came.leaves stored.stores) stored.stands

pub returns-in-Ok-clause-causes : goal.returns-in-Ok-clause-causes
returns-in-Ok-clause-causes g c =
    subst (λ (s : Settings). IsCaused s (map g.D.Disk.fault_count (disks_of c.args.self.now)) (map g.D.Disk.fault_count (disks_of c.put_at.new.self)) c.put_at.result) c.settle.ensures.settings
    (cause_earlier (c.settle.new.self).settings (map g.D.Disk.fault_count (disks_of c.args.self.now)) (map g.D.Disk.fault_count (disks_of c.settle.new.self))
    (map g.D.Disk.fault_count (disks_of c.put_at.new.self)) c.put_at.result
    c.settle.ensures.counts c.put_at.ensures.causes)

pub returns-in-Ok-clause-counts : goal.returns-in-Ok-clause-counts
returns-in-Ok-clause-counts g c =
    falls_trans (map g.D.Disk.fault_count (disks_of c.args.self.now)) (map g.D.Disk.fault_count (disks_of c.settle.new.self))
    (map g.D.Disk.fault_count (disks_of c.put_at.new.self)) c.settle.ensures.counts c.put_at.ensures.counts

pub returns-in-Err-clause-legal : goal.returns-in-Err-clause-legal
returns-in-Err-clause-legal g c = λ tells k stands home taker.
    subst (λ (r : Reply). Answered g.D.Disk.files g.D.Piece.Piece.Tells g.D.Disk.fault_count g.D.Disk.fuse_count g.A.Arm.fault_count k c.args.tag
    (command.Put c.args.pair c.args.bytes.now) r c.settle.new.self) (sym c.settle_refusal.ensures.is)
    (not_settled g.D.Disk.files g.D.Piece.Piece.Tells g.D.Disk.fault_count g.D.Disk.fuse_count g.A.Arm.fault_count c.args.self.now c.settle.new.self (c.args.self.now).settings k
    c.args.tag c.args.pair c.args.bytes.now c.args.volume c.in-Err.fault c.settle.result c.in-Err.is refl c.settle.ensures.settings stands home taker
    (c.settle.ensures.no_memory tells k stands) (λ f. c.settle.ensures.pending tells k f stands) (c.settle.ensures.thawed tells k stands) (c.settle.ensures.frozen tells k stands)
    c.settle.ensures.causes)

pub returns-in-Ok-clause-suits : goal.returns-in-Ok-clause-suits
returns-in-Ok-clause-suits g c = subst (λ (s : Settings). SuitsPut s c.args.pair (length c.args.bytes.now) c.put_at.result) c.settle.ensures.settings c.put_at.ensures.suits

pub returns-in-Err-clause-suits : goal.returns-in-Err-clause-suits
returns-in-Err-clause-suits g c =
    subst (λ (r : Reply). SuitsPut (c.args.self.now).settings c.args.pair (length c.args.bytes.now) r) (sym c.settle_refusal.ensures.is)
    (settle_suits (c.args.self.now).settings c.args.pair (length c.args.bytes.now) c.in-Err.fault)

taken : {D P A : Type 0} (old mid : Open D P A) (v size : ℕ) → mid.volumes ≡ old.volumes → TakesPhoto old v size → TakesPhoto mid v size
taken {D} {P} {A} old mid v size same takes = λ volume at. takes volume (subst (λ (vs : List (Volume D P)). At vs v volume) same at)

pub returns-in-Ok-clause-contents : goal.returns-in-Ok-clause-contents
returns-in-Ok-clause-contents g c = λ tells.
    let settings = (c.args.self.now).settings in
    let replicas : LeavesReplicas settings c.put_at.result (store_seen c.args.self.now).volumes (store_seen c.put_at.new.self).volumes
    (contents_in g.D.Disk.files c.settle.new.self) (contents_in g.D.Disk.files c.put_at.new.self) =
    subst (λ (p : List VolumeSeen). LeavesReplicas settings c.put_at.result p (store_seen c.put_at.new.self).volumes (contents_in g.D.Disk.files c.settle.new.self)
    (contents_in g.D.Disk.files c.put_at.new.self)) (ap (λ (vs : List (Volume g.row.D.Denot g.row.D-Piece.Denot)). map volume_seen vs) c.settle.ensures.volumes)
    (subst (λ (s : Settings). LeavesReplicas s c.put_at.result (store_seen c.settle.new.self).volumes (store_seen c.put_at.new.self).volumes
    (contents_in g.D.Disk.files c.settle.new.self) (contents_in g.D.Disk.files c.put_at.new.self)) c.settle.ensures.settings (c.put_at.ensures.replicas tells)) in
    let beside = subst (λ (s : Settings). LeavesIn (IsBeside s c.args.volume) (disks_of c.settle.new.self) (disks_of c.put_at.new.self)) c.settle.ensures.settings c.put_at.ensures.beside in
    record {
      replicas =
          replicas_after settings (store_seen c.args.self.now).volumes (store_seen c.put_at.new.self).volumes (contents_in g.D.Disk.files c.args.self.now)
          (contents_in g.D.Disk.files c.settle.new.self) (contents_in g.D.Disk.files c.put_at.new.self) c.put_at.result
          (leaves_reads g.D.Disk.files IsReplicaSlot c.args.self.now c.settle.new.self c.settle.ensures.replicas) replicas;
      rows = inl (
        c.put_at.ensures.adds,
        subst (λ (now : Contents). AddsRow settings c.args.pair ((contents_in g.D.Disk.files c.args.self.now) 0) now)
            (sym (first_contents g.D.Disk.files settings c.args.volume c.settle.new.self c.put_at.new.self beside)) (c.settle.ensures.rows tells),
      );
    }

pub returns-in-Err-clause-contents : goal.returns-in-Err-clause-contents
returns-in-Err-clause-contents g c = λ tells.
    unsettled_leaves (c.args.self.now).settings (store_seen c.args.self.now).volumes (store_seen c.settle.new.self).volumes (contents_in g.D.Disk.files c.args.self.now)
    (contents_in g.D.Disk.files c.settle.new.self) c.args.pair c.in-Err.fault c.settle_refusal.result c.settle_refusal.ensures.is
    (leaves_contents g.D.Disk.files (c.args.self.now).settings IsReplicaSlot c.args.self.now c.settle.new.self c.settle.ensures.replicas) (c.settle.ensures.rows tells)
    (λ frozen. same_first g.D.Disk.files c.args.self.now c.settle.new.self (c.settle.ensures.refused_frozen (c.in-Err.is ∙ ap Err frozen)))

pub put_at-requires-clause-takes : goal.put_at-requires-clause-takes
put_at-requires-clause-takes g c = taken c.args.self.now c.settle.new.self c.args.volume (length c.args.bytes.now) c.settle.ensures.volumes c.requires.takes

pub returns-in-Ok-clause-seen : goal.returns-in-Ok-clause-seen
returns-in-Ok-clause-seen g c =
    let size = length c.args.bytes.now in
    let stored =
    subst (λ (s : Settings). PutsAt s c.args.tag size c.args.volume c.put_at.result (store_seen c.settle.new.self) (store_seen c.put_at.new.self)) c.settle.ensures.settings
    c.put_at.ensures.seen in
    put_seen (c.args.self.now).settings c.args.tag c.args.pair size c.args.volume c.put_at.result (store_seen c.args.self.now) (store_seen c.settle.new.self) (store_seen c.put_at.new.self)
    (inr (c.requires.seen, c.in-Ok.ensures.seen)) stored

pub returns-in-Err-clause-seen : goal.returns-in-Err-clause-seen
returns-in-Err-clause-seen g c =
    unsettled_seen (c.args.self.now).settings c.args.tag c.args.pair (length c.args.bytes.now) c.args.volume c.in-Err.fault c.settle_refusal.result (store_seen c.args.self.now)
    (store_seen c.settle.new.self)
    c.settle_refusal.ensures.is (c.requires.homeless, c.requires.seen) (IfErr-at_err _ c.in-Err.is c.settle.ensures.refused_seen)

pub returns-in-Ok-clause-sights : goal.returns-in-Ok-clause-sights
returns-in-Ok-clause-sights g c =
    let places = ap (λ (vs : List (Volume g.row.D.Denot g.row.D-Piece.Denot)). places_of vs) c.settle.ensures.volumes in
    put_from c.args.pair (store_seen c.args.self.now) (store_seen c.settle.new.self) (store_seen c.put_at.new.self) (c.args.self.now).settings (told_by c.put_at.result)
    (ap (λ (vs : List (Volume g.row.D.Denot g.row.D-Piece.Denot)). map volume_seen vs) c.settle.ensures.volumes) places
    (subst (λ (s : Settings). PutSights s c.args.pair (told_by c.put_at.result) (store_seen c.settle.new.self) (store_seen c.put_at.new.self)) c.settle.ensures.settings c.put_at.ensures.sights)

pub returns-in-Err-clause-sights : goal.returns-in-Err-clause-sights
returns-in-Err-clause-sights g c =
    let places = ap (λ (vs : List (Volume g.row.D.Denot g.row.D-Piece.Denot)). places_of vs) c.settle.ensures.volumes in
    unsettled_sights (c.args.self.now).settings c.args.pair (store_seen c.args.self.now) (store_seen c.settle.new.self)
    (same_photos (store_seen c.args.self.now) (store_seen c.settle.new.self) places) c.in-Err.fault c.settle_refusal.result c.settle_refusal.ensures.is
