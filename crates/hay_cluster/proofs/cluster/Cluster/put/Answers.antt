use Rattle.std.proofs.Common.{ℕ, Option, length, map, sym, ◌∙◌, refl, inl, ◌∷◌, [], ap, inr, subst, Ok}
use Rattle.std.specs.List.{AllZip}
use Rattle.hay_legal.specs.Known.{tries_by}
use Rattle.hay_cluster.specs.Store.{contents_in, disks_of}
use Rattle.hay_cluster.proofs.Answering.{answered, stays}
use Rattle.hay_cluster.proofs.Moves.{none_falls}
use Rattle.hay_cluster.proofs.Puts.{home_refused}
use Rattle.hay_cluster.proofs.Suiting.{one_refuses, refusal_suits}
use Rattle.hay_cluster.proofs.Leaving.{first_contents, nothing_put}
use Rattle.hay_cluster.specs.Seen.{IsTurnedAside, RefusesPhoto, store_seen}
use Rattle.hay_cluster.proofs.Seeing.{keeps_all, put_seen, turned_seen}
use Rattle.hay_cluster.proofs.Sighting.{keeps_photos, turned_sights}
use Rattle.hay_cluster.proofs.cluster.Cluster.put.Goals as goal

pub returns-in-Err-clause-legal : goal.returns-in-Err-clause-legal
returns-in-Err-clause-legal g c = λ tells k stands. record { known = k; legal = inl (stays k); stands = stands }

pub returns-in-Err-clause-counts : goal.returns-in-Err-clause-counts
returns-in-Err-clause-counts g c = none_falls (map g.D.Disk.fault_count (disks_of c.args.self.now))

pub returns-in-Some-refusal-clause-legal : goal.returns-in-Some-refusal-clause-legal
returns-in-Some-refusal-clause-legal g c = λ tells k stands.
    let home = sym (c.home.ensures.known tells k stands) ∙ c.in-Some.is in
    answered g.D.Disk.files g.D.Piece.Piece.Tells g.D.Disk.fault_count g.D.Disk.fuse_count g.A.Arm.fault_count c.args.self.now (c.args.self.now).settings k k c.args.tag _ c.refuse_one.result refl
    (home_refused (c.args.self.now).settings k k c.args.tag c.args.pair c.args.bytes.now c.in-Some.volume c.in-Some-refusal.refused c.refuse_one.result home
    (sym (c.refusal.ensures.known tells k stands) ∙ c.in-Some-refusal.is) c.refuse_one.ensures.is (stays k)) stands

pub returns-in-Some-refusal-clause-counts : goal.returns-in-Some-refusal-clause-counts
returns-in-Some-refusal-clause-counts g c = none_falls (map g.D.Disk.fault_count (disks_of c.args.self.now))

pub put_tried-requires-clause-refused : goal.put_tried-requires-clause-refused
put_tried-requires-clause-refused g c = λ refused is. c.find_taker.ensures.refused refused (c.in-Ok.is ∙ ap Ok is)

pub returns-in-Err-clause-suits : goal.returns-in-Err-clause-suits
returns-in-Err-clause-suits g c = inr (inr (inr (inr (inr (inr refl)))))

pub returns-in-Some-refusal-clause-suits : goal.returns-in-Some-refusal-clause-suits
returns-in-Some-refusal-clause-suits g c =
    let settings = (c.args.self.now).settings in
    refusal_suits settings c.args.pair (length c.args.bytes.now) (c.in-Some-refusal.refused ∷ []) c.refuse_one.result
    (one_refuses settings c.args.pair (length c.args.bytes.now) c.in-Some.volume c.in-Some-refusal.refused (c.in-Some.ensures).within (c.in-Some-refusal.ensures).refuses) c.refuse_one.ensures.is

pub put_tried-requires-clause-takes : goal.put_tried-requires-clause-takes
put_tried-requires-clause-takes g c = λ volume is. c.find_taker.ensures.takes volume (c.in-Ok.is ∙ ap Ok is)

pub returns-in-Err-clause-contents : goal.returns-in-Err-clause-contents
returns-in-Err-clause-contents g c =
    λ tells. nothing_put (c.args.self.now).settings c.args.pair _ (store_seen c.args.self.now).volumes (store_seen c.args.self.now).volumes (contents_in g.D.Disk.files c.args.self.now)

pub returns-in-Some-refusal-clause-contents : goal.returns-in-Some-refusal-clause-contents
returns-in-Some-refusal-clause-contents g c =
    λ tells. nothing_put (c.args.self.now).settings c.args.pair _ (store_seen c.args.self.now).volumes (store_seen c.args.self.now).volumes (contents_in g.D.Disk.files c.args.self.now)

pub returns-in-None-clause-contents : goal.returns-in-None-clause-contents
returns-in-None-clause-contents g c = λ tells. record {
  replicas = c.put_at.ensures.replicas tells;
  rows = inr (first_contents g.D.Disk.files (c.args.self.now).settings c.in-Some.volume c.args.self.now c.put_at.new.self c.put_at.ensures.beside);
}

pub put_tried-requires-clause-seen : goal.put_tried-requires-clause-seen
put_tried-requires-clause-seen g c = λ volume is. c.find_taker.ensures.seen volume (c.in-Ok.is ∙ ap Ok is)

pub put_tried-requires-clause-refused_seen : goal.put_tried-requires-clause-refused_seen
put_tried-requires-clause-refused_seen g c = λ refused is. c.find_taker.ensures.refused_seen refused (c.in-Ok.is ∙ ap Ok is)

pub returns-in-Err-clause-seen : goal.returns-in-Err-clause-seen
returns-in-Err-clause-seen g c = inl (keeps_all (store_seen c.args.self.now))

pub returns-in-Some-refusal-clause-seen : goal.returns-in-Some-refusal-clause-seen
returns-in-Some-refusal-clause-seen g c =
    let settings = (c.args.self.now).settings in
    let seen = store_seen c.args.self.now in
    let size = length c.args.bytes.now in
    let home = sym c.home.ensures.seen ∙ c.in-Some.is in
    let turned : IsTurnedAside settings seen c.args.pair size (c.in-Some-refusal.refused ∷ []) =
    subst (λ (o : Option ℕ). AllZip (RefusesPhoto settings seen size) (tries_by settings c.args.pair o) (c.in-Some-refusal.refused ∷ [])) (sym home) ((c.in-Some-refusal.ensures).refuses_seen, tt) in
    turned_seen settings c.args.tag c.args.pair size (c.in-Some-refusal.refused ∷ []) c.refuse_one.result seen c.refuse_one.ensures.is turned

pub returns-in-None-clause-seen : goal.returns-in-None-clause-seen
returns-in-None-clause-seen g c =
    let seen = store_seen c.args.self.now in
    put_seen (c.args.self.now).settings c.args.tag c.args.pair (length c.args.bytes.now) c.in-Some.volume c.put_at.result seen seen (store_seen c.put_at.new.self)
    (inl (sym c.home.ensures.seen ∙ c.in-Some.is, (c.in-None.ensures).takes_seen, keeps_all seen)) c.put_at.ensures.seen

pub returns-in-Err-clause-sights : goal.returns-in-Err-clause-sights
returns-in-Err-clause-sights g c =
    keeps_photos (store_seen c.args.self.now)

pub returns-in-Some-refusal-clause-sights : goal.returns-in-Some-refusal-clause-sights
returns-in-Some-refusal-clause-sights g c =
    turned_sights (c.args.self.now).settings c.args.pair (store_seen c.args.self.now) (store_seen c.args.self.now) (keeps_photos (store_seen c.args.self.now))
    (c.in-Some-refusal.refused ∷ []) c.refuse_one.result c.refuse_one.ensures.is
