use Rattle.std.proofs.Common.{◌≡◌, None, Some, ap, sym, ◌∙◌, inl, inr, refl, map, subst}
use Rattle.std.specs.Prelude.{Err}
use Rattle.std.proofs.lemmas.Result.{IfErr-at_err, IfOk-at_ok}
use Rattle.hay_cluster.specs.Needles.{IsDamagedLookOn}
use Rattle.hay_cluster.proofs.Needling.{closed_told, closed_undamaged, delete_damage, undeleted_told}
use Rattle.hay_legal.specs.Known.{closed, home_of, volume_at}
use Rattle.hay_legal.specs.Plain.{with_del}
use Rattle.hay_cluster.proofs.Changing.{deleted, not_deleted}
use Rattle.hay_cluster.proofs.Suiting.{closed_suits_del, del_refusal_suits}
use Rattle.hay_cluster.specs.Store.{contents_in, disks_of}
use Rattle.hay_cluster.specs.Leaving.{AnySlot, IsBeside}
use Rattle.hay_cluster.proofs.Leaving.{delete_leaves, keeps-all, leaves_contents}
use Rattle.hay_cluster.specs.Seen.{store_seen}
use Rattle.hay_cluster.proofs.Seeing.{closed_seen, keeps_all, undeleted_seen}
use Rattle.hay_cluster.proofs.Sighting.{closed_not_deleted, closed_sights, keeps_photos, refused_not_deleted, undeleted_sights}
use Rattle.hay_cluster.specs.Causes.{EndsByFaults}
use Rattle.hay_cluster.proofs.cluster.Cluster.delete.Goals as goal

pub returns-in-Ok-clause-legal : goal.returns-in-Ok-clause-legal
returns-in-Ok-clause-legal g c = λ tells k stands.
    let home : home_of k c.args.pair ≡ Some c.in-Some.volume = sym (c.home.ensures.known tells k stands) ∙ c.in-Some.is in
    let thawed : closed (c.args.self.now).settings k c.in-Some.volume ≡ None = sym (c.closed_by.ensures.known tells k stands) ∙ c.in_default-closed_by.is in
    let moved = c.delete_in.ensures.moves tells k stands in
    let done = IfOk-at_ok _ c.in-Ok.is moved.does.0 in
    let came = moved.comes (with_del done.ended c.args.tag c.args.pair (volume_at k c.in-Some.volume)) done.stands in
    deleted g.D.Disk.files g.D.Piece.Piece.Tells g.D.Disk.fault_count g.D.Disk.fuse_count g.A.Arm.fault_count c.args.self.now c.delete_in.new.self k c.args.tag c.args.pair
    c.in-Some.volume c.in-Ok.position c.rows-in-Ok.result moved.before moved.after c.delete_in.ensures.settings stands home thawed moved.at moved.now done came
    (c.rows-in-Ok.ensures.known tells came.known came.stands)

pub returns-clause-legal : goal.returns-clause-legal
returns-clause-legal g c = λ tells k stands.
    let home : home_of k c.args.pair ≡ Some c.in-Some.volume = sym (c.home.ensures.known tells k stands) ∙ c.in-Some.is in
    let thawed : closed (c.args.self.now).settings k c.in-Some.volume ≡ None = sym (c.closed_by.ensures.known tells k stands) ∙ c.in_default-closed_by.is in
    let moved = c.delete_in.ensures.moves tells k stands in
    not_deleted g.D.Disk.files g.D.Piece.Piece.Tells g.D.Disk.fault_count g.D.Disk.fuse_count g.A.Arm.fault_count c.args.self.now c.delete_in.new.self k c.args.tag c.args.pair
    c.in-Some.volume c.rows-in-Err.result c.in-Err.fault c.delete_refusal.result moved.after c.delete_in.ensures.settings
    (c.in-Some.ensures).within stands home thawed (c.rows-in-Err.ensures.known tells)
    (IfErr-at_err _ c.in-Err.is c.delete_in.ensures.causes) (IfErr-at_err _ c.in-Err.is moved.does.1) moved.comes c.delete_refusal.ensures.is

pub returns-in_default-clause-suits : goal.returns-in_default-clause-suits
returns-in_default-clause-suits g c = inr (inr (inl (c.rows.result, refl)))

pub returns-in-Some-closed_by-clause-suits : goal.returns-in-Some-closed_by-clause-suits
returns-in-Some-closed_by-clause-suits g c =
    closed_suits_del (c.args.self.now).settings c.in-Some.volume c.in-Some-closed_by.machine c.read_only.result (c.in-Some-closed_by.ensures).on c.read_only.ensures.is

pub returns-in-Ok-clause-suits : goal.returns-in-Ok-clause-suits
returns-in-Ok-clause-suits g c = inl (c.in-Some.volume, c.in-Ok.position, c.rows-in-Ok.result, (c.in-Some.ensures).within, refl)

pub returns-clause-suits : goal.returns-clause-suits
returns-clause-suits g c =
    del_refusal_suits (c.args.self.now).settings c.in-Some.volume c.rows-in-Err.result _ _ c.in-Err.fault c.delete_refusal.result (c.in-Some.ensures).within
    (IfErr-at_err _ c.in-Err.is c.delete_in.ensures.causes) c.delete_refusal.ensures.is

pub returns-in_default-clause-contents : goal.returns-in_default-clause-contents
returns-in_default-clause-contents g c = λ tells. inr (keeps-all (c.args.self.now).settings AnySlot (contents_in g.D.Disk.files c.args.self.now))

pub returns-in-Some-closed_by-clause-contents : goal.returns-in-Some-closed_by-clause-contents
returns-in-Some-closed_by-clause-contents g c = λ tells. inr (keeps-all (c.args.self.now).settings AnySlot (contents_in g.D.Disk.files c.args.self.now))

pub returns-in-Ok-clause-contents : goal.returns-in-Ok-clause-contents
returns-in-Ok-clause-contents g c = λ tells.
    inl (
      c.in-Some.volume,
      inl (c.in-Ok.position, c.rows-in-Ok.result, refl),
      leaves_contents g.D.Disk.files (c.args.self.now).settings (IsBeside (c.args.self.now).settings c.in-Some.volume) c.args.self.now c.delete_in.new.self c.delete_in.ensures.beside,
    )

pub returns-clause-contents : goal.returns-clause-contents
returns-clause-contents g c = λ tells.
    delete_leaves (c.args.self.now).settings (store_seen c.args.self.now).volumes (store_seen c.delete_in.new.self).volumes (contents_in g.D.Disk.files c.args.self.now)
    (contents_in g.D.Disk.files c.delete_in.new.self) c.in-Some.volume c.rows-in-Err.result c.in-Err.fault c.delete_refusal.result c.delete_refusal.ensures.is
    (leaves_contents g.D.Disk.files (c.args.self.now).settings (IsBeside (c.args.self.now).settings c.in-Some.volume) c.args.self.now c.delete_in.new.self c.delete_in.ensures.beside)
    (IfErr-at_err _ c.in-Err.is (c.delete_in.ensures.kept tells))

pub returns-in_default-clause-seen : goal.returns-in_default-clause-seen
returns-in_default-clause-seen g c = (keeps_all (store_seen c.args.self.now), sym c.home.ensures.seen ∙ c.in_default.is, c.rows.ensures.count)

pub returns-in-Some-closed_by-clause-seen : goal.returns-in-Some-closed_by-clause-seen
returns-in-Some-closed_by-clause-seen g c =
    closed_seen (c.args.self.now).settings c.args.tag c.args.pair c.in-Some.volume c.in-Some-closed_by.machine c.read_only.result (store_seen c.args.self.now) c.read_only.ensures.is
    (sym c.home.ensures.seen ∙ c.in-Some.is) (c.in-Some-closed_by.ensures).closes

pub returns-in-Ok-clause-seen : goal.returns-in-Ok-clause-seen
returns-in-Ok-clause-seen g c =
    let moves = IfOk-at_ok _ c.in-Ok.is c.delete_in.ensures.seen in
    ((sym c.home.ensures.seen ∙ c.in-Some.is, (c.in_default-closed_by.ensures).opens), moves, c.rows-in-Ok.ensures.count ∙ (moves.directory).rows)

pub returns-clause-seen : goal.returns-clause-seen
returns-clause-seen g c =
    undeleted_seen (c.args.self.now).settings c.args.tag c.args.pair c.in-Some.volume c.rows-in-Err.result c.delete_refusal.result (store_seen c.args.self.now) (store_seen c.delete_in.new.self)
    (sym c.home.ensures.seen ∙ c.in-Some.is, (c.in_default-closed_by.ensures).opens) c.rows-in-Err.ensures.count c.in-Err.fault c.delete_refusal.ensures.is
    (IfErr-at_err _ c.in-Err.is c.delete_in.ensures.refused_seen)

pub returns-in_default-clause-sights : goal.returns-in_default-clause-sights
returns-in_default-clause-sights g c =
    keeps_photos (store_seen c.args.self.now)

pub returns-in-Some-closed_by-clause-sights : goal.returns-in-Some-closed_by-clause-sights
returns-in-Some-closed_by-clause-sights g c =
    closed_sights (c.args.self.now).settings c.args.pair c.in-Some.volume (store_seen c.args.self.now) (store_seen c.args.self.now) c.in-Some-closed_by.machine c.read_only.result
    c.read_only.ensures.is (keeps_photos (store_seen c.args.self.now))

pub returns-clause-sights : goal.returns-clause-sights
returns-clause-sights g c =
    let refused = IfErr-at_err _ c.in-Err.is c.delete_in.ensures.refused_sights in
    undeleted_sights (c.args.self.now).settings c.args.pair c.in-Some.volume (store_seen c.args.self.now) (store_seen c.delete_in.new.self) c.rows-in-Err.result
    c.delete_refusal.result (sym c.home.ensures.seen ∙ c.in-Some.is) refused.0 refused.1
    c.in-Err.fault c.delete_refusal.ensures.is refused.2

pub returns-in_default-clause-ended : goal.returns-in_default-clause-ended
returns-in_default-clause-ended g c = λ v p d is. absurd cc

pub returns-in-Some-closed_by-clause-ended : goal.returns-in-Some-closed_by-clause-ended
returns-in-Some-closed_by-clause-ended g c = λ v p d is. absurd (closed_not_deleted c.in-Some.volume c.in-Some-closed_by.machine c.read_only.result c.read_only.ensures.is v p d is)

pub returns-clause-ended : goal.returns-clause-ended
returns-clause-ended g c = λ v p d is. absurd (refused_not_deleted c.in-Some.volume c.rows-in-Err.result c.in-Err.fault c.delete_refusal.result c.delete_refusal.ensures.is v p d is)

pub returns-in-Ok-clause-ended : goal.returns-in-Ok-clause-ended
returns-in-Ok-clause-ended g c = λ v p d is.
    let same : c.in-Some.volume ≡ v = cc in
    subst (λ n. EndsByFaults (c.args.self.now).settings n (store_seen c.args.self.now) (store_seen c.delete_in.new.self) (map g.D.Disk.fault_count (disks_of c.args.self.now))
    (map g.D.Disk.fault_count (disks_of c.delete_in.new.self))) same c.in-Ok.ensures.ended

pub returns-in_default-clause-damaged : goal.returns-in_default-clause-damaged
returns-in_default-clause-damaged g c = λ tells v m place is. absurd cc

pub returns-in-Some-closed_by-clause-damaged : goal.returns-in-Some-closed_by-clause-damaged
returns-in-Some-closed_by-clause-damaged g c = λ tells v m place is. absurd (closed_undamaged c.in-Some.volume c.read_only.result v m place is c.in-Some-closed_by.machine c.read_only.ensures.is)

pub returns-in-Ok-clause-damaged : goal.returns-in-Ok-clause-damaged
returns-in-Ok-clause-damaged g c = λ tells v m place is. absurd cc

pub returns-clause-damaged : goal.returns-clause-damaged
returns-clause-damaged g c = λ tells v m place is.
    let told = delete_damage c.in-Some.volume c.delete_refusal.result v m place is c.rows-in-Err.result c.in-Err.fault c.delete_refusal.ensures.is in
    subst (λ u. IsDamagedLookOn (c.args.self.now).settings (contents_in g.D.Disk.files c.args.self.now) (store_seen c.args.self.now) u c.args.pair m place) told.1
    (c.delete_in.ensures.damaged tells m place (c.in-Err.is ∙ ap Err told.0))

pub returns-in_default-clause-told : goal.returns-in_default-clause-told
returns-in_default-clause-told g c = λ tells. tt

pub returns-in-Some-closed_by-clause-told : goal.returns-in-Some-closed_by-clause-told
returns-in-Some-closed_by-clause-told g c = λ tells.
    closed_told (c.args.self.now).settings (contents_in g.D.Disk.files c.args.self.now) (store_seen c.args.self.now) (store_seen c.args.self.now) c.args.pair c.in-Some.volume
    c.in-Some-closed_by.machine c.read_only.result c.read_only.ensures.is (keeps_photos (store_seen c.args.self.now))

pub returns-in-Ok-clause-told : goal.returns-in-Ok-clause-told
returns-in-Ok-clause-told g c = λ tells. c.in-Ok.ensures.told tells

pub returns-clause-told : goal.returns-clause-told
returns-clause-told g c = λ tells.
    undeleted_told (c.args.self.now).settings (contents_in g.D.Disk.files c.args.self.now) (store_seen c.args.self.now) (store_seen c.delete_in.new.self) c.args.pair
    c.in-Some.volume (sym c.home.ensures.seen ∙ c.in-Some.is) (c.in-Err.ensures.refused_told tells)
    c.rows-in-Err.result c.in-Err.fault c.delete_refusal.result c.delete_refusal.ensures.is
