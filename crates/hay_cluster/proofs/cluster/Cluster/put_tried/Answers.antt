use Rattle.std.proofs.Common.{ℕ, Option, length, map, sym, ap, subst, ◌∙◌, refl}
use Rattle.std.specs.List.{AllZip}
use Rattle.std.specs.Prelude.{find, is_none}
use Rattle.hay_legal.specs.Known.{refusal_of, tries_by}
use Rattle.hay_cluster.specs.declared.put.Tried.{Tried}
use Rattle.hay_cluster.specs.Puts.{IsTried}
use Rattle.hay_cluster.proofs.Answering.{answered, stays}
use Rattle.hay_cluster.specs.Store.{contents_in, disks_of}
use Rattle.hay_cluster.proofs.Moves.{none_falls}
use Rattle.hay_cluster.proofs.Puts.{all_refused}
use Rattle.hay_cluster.proofs.Suiting.{all_refuse, refusal_suits}
use Rattle.hay_cluster.proofs.Leaving.{nothing_put}
use Rattle.hay_cluster.specs.Seen.{RefusesPhoto, store_seen}
use Rattle.hay_cluster.proofs.Seeing.{turned_seen}
use Rattle.hay_cluster.proofs.Sighting.{keeps_photos, turned_sights}
use Rattle.hay_cluster.proofs.cluster.Cluster.put_tried.Goals as goal

pub returns-in-Taker-clause-legal : goal.returns-in-Taker-clause-legal
returns-in-Taker-clause-legal g c = λ tells k stands home tried.
    let size = length c.args.bytes.now in
    let found = subst (λ (t : Tried). IsTried (c.args.self.now).settings k c.args.pair size t) c.in-Taker.is tried in
    c.put_new.ensures.legal tells k stands home (ap (λ o. find (λ u. is_none (refusal_of (c.args.self.now).settings k size u)) (tries_by (c.args.self.now).settings c.args.pair o)) home ∙ found)

pub returns-in-Nobody-clause-legal : goal.returns-in-Nobody-clause-legal
returns-in-Nobody-clause-legal g c = λ tells k stands home tried.
    let size = length c.args.bytes.now in
    let all = subst (λ (t : Tried). IsTried (c.args.self.now).settings k c.args.pair size t) c.in-Nobody.is tried in
    answered g.D.Disk.files g.D.Piece.Piece.Tells g.D.Disk.fault_count g.D.Disk.fuse_count g.A.Arm.fault_count c.args.self.now (c.args.self.now).settings k k c.args.tag _ c.refuse.result refl
    (all_refused (c.args.self.now).settings k k c.args.tag c.args.pair c.args.bytes.now c.in-Nobody.refused c.refuse.result
    (ap (λ o. map (refusal_of (c.args.self.now).settings k size) (tries_by (c.args.self.now).settings c.args.pair o)) home ∙ all) c.refuse.ensures.is (stays k)) stands

pub returns-in-Nobody-clause-counts : goal.returns-in-Nobody-clause-counts
returns-in-Nobody-clause-counts g c = none_falls (map g.D.Disk.fault_count (disks_of c.args.self.now))

pub returns-in-Nobody-clause-suits : goal.returns-in-Nobody-clause-suits
returns-in-Nobody-clause-suits g c =
    let settings = (c.args.self.now).settings in
    refusal_suits settings c.args.pair (length c.args.bytes.now) c.in-Nobody.refused c.refuse.result
    (all_refuse settings c.args.pair (length c.args.bytes.now) c.in-Nobody.refused
    (c.requires.refused c.in-Nobody.refused c.in-Nobody.is)) c.refuse.ensures.is

pub returns-in-Nobody-clause-contents : goal.returns-in-Nobody-clause-contents
returns-in-Nobody-clause-contents g c =
    λ tells. nothing_put (c.args.self.now).settings c.args.pair _ (store_seen c.args.self.now).volumes (store_seen c.args.self.now).volumes (contents_in g.D.Disk.files c.args.self.now)

pub put_new-requires-clause-seen : goal.put_new-requires-clause-seen
put_new-requires-clause-seen g c = c.requires.seen c.in-Taker.volume c.in-Taker.is

pub returns-in-Nobody-clause-seen : goal.returns-in-Nobody-clause-seen
returns-in-Nobody-clause-seen g c =
    let settings = (c.args.self.now).settings in
    let seen = store_seen c.args.self.now in
    let size = length c.args.bytes.now in
    turned_seen settings c.args.tag c.args.pair size c.in-Nobody.refused c.refuse.result seen c.refuse.ensures.is
    (subst (λ (o : Option ℕ). AllZip (RefusesPhoto settings seen size) (tries_by settings c.args.pair o) c.in-Nobody.refused) (sym c.requires.homeless)
    (c.requires.refused_seen c.in-Nobody.refused c.in-Nobody.is))

pub returns-in-Nobody-clause-sights : goal.returns-in-Nobody-clause-sights
returns-in-Nobody-clause-sights g c =
    turned_sights (c.args.self.now).settings c.args.pair (store_seen c.args.self.now) (store_seen c.args.self.now) (keeps_photos (store_seen c.args.self.now)) _ c.refuse.result c.refuse.ensures.is
