use Rattle.std.proofs.Common.{◌≡◌, Some, refl, sym, subst, ◌∙◌, inl, inr}
use Rattle.hay_legal.specs.Known.{home_of}
use Rattle.hay_legal.specs.Plain.{LegalShow}
use Rattle.hay_legal.specs.Suiting.{ShowsOf}
use Rattle.hay_cluster.proofs.Answering.{answered}
use Rattle.hay_cluster.proofs.Sure.{same_sure}
use Rattle.hay_cluster.specs.Passing.{IsSureArm, TriesBefore}
use Rattle.hay_cluster.specs.Reads.{counts_of}
use Rattle.hay_cluster.specs.Sights.{told_by}
use Rattle.hay_cluster.proofs.Sighting.{keeps_photos}
use Rattle.hay_cluster.proofs.Seeing.{keeps_all}
use Rattle.hay_cluster.specs.Seen.{store_seen}
use Rattle.hay_cluster.specs.Store.{contents_in}
use Rattle.hay_cluster.proofs.cluster.Cluster.read.Goals as goal

pub returns-clause-legal : goal.returns-clause-legal
returns-clause-legal g c = λ tells k stands.
    let home : home_of k c.args.pair ≡ Some c.in-Some.volume = sym (c.home.ensures.known tells k stands) ∙ c.in-Some.is in
    let shown = c.show.ensures.shown tells k stands home in
    answered g.D.Disk.files g.D.Piece.Piece.Tells g.D.Disk.fault_count g.D.Disk.fuse_count g.A.Arm.fault_count c.show.new.self (c.args.self.now).settings k shown.known c.args.tag _
    c.show.result c.show.ensures.settings
    (subst (λ start. LegalShow (c.args.self.now).settings k c.args.tag start c.args.pair c.args.cookie c.show.result shown.known) c.start_of-start.ensures.is shown.legal) shown.stands

pub returns-in_default-clause-sure_arms : goal.returns-in_default-clause-sure_arms
returns-in_default-clause-sure_arms g c = same_sure g.A.Arm.is_sure g.A.Arm.fault_count (c.args.self.now).arms (c.args.self.now).arms refl

pub returns-in_default-clause-suits : goal.returns-in_default-clause-suits
returns-in_default-clause-suits g c = inl (c.rows.result, refl)

pub returns-clause-suits : goal.returns-clause-suits
returns-clause-suits g c =
    elim c.show.ensures.here [
      | inl shows ↦ inr (inl (
        c.in-Some.volume,
        (c.in-Some.ensures).within,
        subst (λ start. ShowsOf (c.args.self.now).settings start c.in-Some.volume c.show.result) c.start_of-start.ensures.is shows,
      ))
      | inr none ↦ inr (inr none)
    ]

pub returns-in_default-clause-shows : goal.returns-in_default-clause-shows
returns-in_default-clause-shows g c = (sym c.home.ensures.seen ∙ c.in_default.is, c.rows.ensures.count)

pub show-requires-clause-home : goal.show-requires-clause-home
show-requires-clause-home g c = sym c.home.ensures.seen ∙ c.in-Some.is

pub returns-in_default-clause-seen : goal.returns-in_default-clause-seen
returns-in_default-clause-seen g c =
    keeps_all (store_seen c.args.self.now)

pub returns-in_default-clause-sights : goal.returns-in_default-clause-sights
returns-in_default-clause-sights g c =
    keeps_photos (store_seen c.args.self.now)

pub returns-clause-passes : goal.returns-clause-passes
returns-clause-passes g c =
    subst (λ start. TriesBefore g.D.Disk.Tells (c.args.self.now).settings (IsSureArm g.A.Arm.is_sure (c.args.self.now).arms c.args.tag.lane)
    (contents_in g.D.Disk.files c.show.new.self) c.args.tag.lane start c.args.pair
    (counts_of g.D.Disk.fault_count g.A.Arm.fault_count c.args.self.now) (counts_of g.D.Disk.fault_count g.A.Arm.fault_count c.show.new.self) (store_seen c.show.new.self)
    (told_by c.show.result)) c.start_of-start.ensures.is
    c.show.ensures.passes
