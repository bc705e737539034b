use Rattle.std.proofs.Common.{length, map, refl, ap, ◌∙◌, inl}
use Rattle.std.proofs.lemmas.Result.{IfErr-at_err, IfOk-at_ok}
use Rattle.hay_url.specs.Url.{cookie_of}
use Rattle.hay_cluster.specs.Store.{Open, contents_in, disks_of}
use Rattle.hay_legal.specs.Known.{volume_at}
use Rattle.hay_legal.specs.Plain.{with_put}
use Rattle.hay_cluster.proofs.Puts.{put_caused, put_done, put_refused}
use Rattle.hay_reply.specs.declared.Reply.TheVariants.{Stored}
use Rattle.hay_cluster.proofs.Suiting.{put_refusal_suits}
use Rattle.hay_cluster.specs.Leaving.{IsBeside, IsReplicaBeside}
use Rattle.hay_cluster.proofs.Leaving.{leaves-fewer, leaves_contents, put_adds, put_leaves}
use Rattle.hay_cluster.specs.Seen.{store_seen}
use Rattle.hay_cluster.proofs.Seeing.{unstored_seen}
use Rattle.hay_cluster.proofs.Sighting.{unstored_sights}
use Rattle.hay_cluster.proofs.cluster.Cluster.put_at.Goals as goal

pub returns-in-Err-clause-stored : goal.returns-in-Err-clause-stored
returns-in-Err-clause-stored g c = λ tells k stands takes.
    let moved = c.put_in.ensures.moves tells k stands in
    let own = c.cookie_of-cookie.ensures ∙ ap (λ (st : Open g.row.D.Denot g.row.D-Piece.Denot g.row.A.Denot). cookie_of (st.settings).secret c.args.pair.key) c.self.view_is in
    put_refused g.D.Disk.files g.D.Piece.Piece.Tells g.D.Disk.fault_count g.D.Disk.fuse_count g.A.Arm.fault_count c.args.self.now c.put_in.new.self k c.args.tag c.args.pair
    c.args.bytes.now c.args.volume c.cookie_of-cookie.result c.in-Err.fault c.put_refusal.result moved.before moved.after
    own c.requires.volume stands takes moved.was (IfErr-at_err _ c.in-Err.is c.put_in.ensures.causes) (IfErr-at_err _ c.in-Err.is moved.does.1) moved.comes c.put_refusal.ensures.is

pub returns-in-Err-clause-causes : goal.returns-in-Err-clause-causes
returns-in-Err-clause-causes g c =
    put_caused (c.args.self.now).settings c.args.volume (map g.D.Disk.fault_count (disks_of c.args.self.now)) (map g.D.Disk.fault_count (disks_of c.put_in.new.self)) c.in-Err.fault
    c.put_refusal.result (IfErr-at_err _ c.in-Err.is c.put_in.ensures.causes) c.put_refusal.ensures.is

pub returns-in-Ok-clause-stored : goal.returns-in-Ok-clause-stored
returns-in-Ok-clause-stored g c = λ tells k stands takes.
    let moved = c.put_in.ensures.moves tells k stands in
    let done = IfOk-at_ok _ c.in-Ok.is moved.does.0 in
    let came = moved.comes (with_put (volume_at k c.args.volume) c.args.tag c.args.pair c.cookie_of-cookie.result c.args.bytes.now) done.stands in
    let own = c.cookie_of-cookie.ensures ∙ ap (λ (st : Open g.row.D.Denot g.row.D-Piece.Denot g.row.A.Denot). cookie_of (st.settings).secret c.args.pair.key) c.self.view_is in
    put_done g.D.Disk.files g.D.Piece.Piece.Tells g.D.Disk.fault_count g.D.Disk.fuse_count g.A.Arm.fault_count c.put_in.new.self (c.args.self.now).settings k c.args.tag c.args.pair
    c.args.bytes.now c.args.volume c.in-Ok.position c.rows.result c.cookie_of-cookie.result moved.after own done came
    (c.rows.ensures.known tells came.known came.stands)

pub returns-in-Ok-clause-suits : goal.returns-in-Ok-clause-suits
returns-in-Ok-clause-suits g c =
    let own = c.cookie_of-cookie.ensures ∙ ap (λ (st : Open g.row.D.Denot g.row.D-Piece.Denot g.row.A.Denot). cookie_of (st.settings).secret c.args.pair.key) c.self.view_is in
    inl (c.args.volume, c.in-Ok.position, c.rows.result, c.requires.volume, ap (λ cookie. Stored c.args.volume c.in-Ok.position c.rows.result cookie) own)

pub returns-in-Err-clause-suits : goal.returns-in-Err-clause-suits
returns-in-Err-clause-suits g c =
    put_refusal_suits (c.args.self.now).settings c.args.pair (length c.args.bytes.now) c.args.volume _ _ c.in-Err.fault c.put_refusal.result
    (IfErr-at_err _ c.in-Err.is (c.put_in.ensures.takes c.requires.takes)) (IfErr-at_err _ c.in-Err.is c.put_in.ensures.causes) c.put_refusal.ensures.is

pub returns-in-Ok-clause-replicas : goal.returns-in-Ok-clause-replicas
returns-in-Ok-clause-replicas g c = λ tells.
    inl (
      c.args.volume,
      inl (c.in-Ok.position, c.rows.result, c.cookie_of-cookie.result, refl),
      (leaves_contents g.D.Disk.files (c.args.self.now).settings (IsReplicaBeside (c.args.self.now).settings c.args.volume) c.args.self.now c.put_in.new.self
          (leaves-fewer (IsBeside (c.args.self.now).settings c.args.volume) (IsReplicaBeside (c.args.self.now).settings c.args.volume) (disks_of c.args.self.now)
          (disks_of c.put_in.new.self) (λ slot far. far.1) c.put_in.ensures.beside)),
    )

pub returns-in-Err-clause-replicas : goal.returns-in-Err-clause-replicas
returns-in-Err-clause-replicas g c = λ tells.
    put_leaves (c.args.self.now).settings (store_seen c.args.self.now).volumes (store_seen c.put_in.new.self).volumes (contents_in g.D.Disk.files c.args.self.now)
    (contents_in g.D.Disk.files c.put_in.new.self) c.args.volume c.in-Err.fault c.put_refusal.result c.put_refusal.ensures.is
    (leaves_contents g.D.Disk.files (c.args.self.now).settings (IsReplicaBeside (c.args.self.now).settings c.args.volume) c.args.self.now c.put_in.new.self
    (leaves-fewer (IsBeside (c.args.self.now).settings c.args.volume) (IsReplicaBeside (c.args.self.now).settings c.args.volume) (disks_of c.args.self.now)
    (disks_of c.put_in.new.self) (λ slot far. far.1) c.put_in.ensures.beside))
    (IfErr-at_err _ c.in-Err.is (c.put_in.ensures.kept tells))

pub returns-in-Ok-clause-adds : goal.returns-in-Ok-clause-adds
returns-in-Ok-clause-adds g c = inl (c.args.volume, c.in-Ok.position, c.rows.result, c.cookie_of-cookie.result, refl)

pub returns-in-Err-clause-adds : goal.returns-in-Err-clause-adds
returns-in-Err-clause-adds g c = put_adds c.args.volume c.in-Err.fault c.put_refusal.result c.put_refusal.ensures.is (IfErr-at_err _ c.in-Err.is (c.put_in.ensures.takes c.requires.takes))

pub returns-in-Ok-clause-seen : goal.returns-in-Ok-clause-seen
returns-in-Ok-clause-seen g c = inl (c.in-Ok.position, c.rows.result, c.cookie_of-cookie.result, refl, IfOk-at_ok _ c.in-Ok.is c.put_in.ensures.seen, c.rows.ensures.count)

pub returns-in-Err-clause-seen : goal.returns-in-Err-clause-seen
returns-in-Err-clause-seen g c =
    unstored_seen (c.args.self.now).settings c.args.tag c.args.pair (length c.args.bytes.now) c.args.volume c.in-Err.fault c.put_refusal.result (store_seen c.args.self.now)
    (store_seen c.put_in.new.self)
    c.put_refusal.ensures.is (IfErr-at_err _ c.in-Err.is (c.put_in.ensures.takes c.requires.takes)) (IfErr-at_err _ c.in-Err.is c.put_in.ensures.refused_seen)

pub returns-in-Err-clause-sights : goal.returns-in-Err-clause-sights
returns-in-Err-clause-sights g c =
    unstored_sights (c.args.self.now).settings c.args.pair (store_seen c.args.self.now) (store_seen c.put_in.new.self) c.in-Err.ensures.refused_sights c.args.volume c.in-Err.fault
    c.put_refusal.result c.put_refusal.ensures.is
    (IfErr-at_err _ c.in-Err.is (c.put_in.ensures.takes c.requires.takes))
