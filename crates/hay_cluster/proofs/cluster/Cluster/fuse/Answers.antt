use Rattle.std.proofs.Common.{◌≡◌, ℕ, Option, Some, refl, sym, ap, subst, ◌∙◌}
use Rattle.hay_needle.specs.declared.settings.Settings.{Settings}
use Rattle.hay_reply.specs.declared.Reply.TheVariants as reply
use Rattle.hay_legal.specs.Known.{replica_on}
use Rattle.hay_legal.specs.Plain.{LegalFuse, OnReplica}
use Rattle.hay_cluster.specs.Store.{Open}
use Rattle.hay_cluster.proofs.Answering.{answered, sets_on}
use Rattle.hay_cluster.proofs.Suiting.{fuses_none, fuses_one}
use Rattle.hay_cluster.specs.Seen.{store_seen}
use Rattle.hay_cluster.proofs.Seeing.{keeps_all}
use Rattle.hay_cluster.proofs.Sighting.{keeps_photos}
use Rattle.hay_cluster.proofs.cluster.Cluster.fuse.Goals as goal

pub returns-clause-legal : goal.returns-clause-legal
returns-clause-legal g c = λ tells k tag stands.
    let same = ap (λ (st : Open g.row.D.Denot g.row.D-Piece.Denot g.row.A.Denot). st.settings) c.self.view_is in
    let there : replica_on (c.args.self.now).settings c.args.volume c.args.machine ≡ Some c.in-Some.replica =
    ap (λ (s : Settings). replica_on s c.args.volume c.args.machine) (sym same) ∙ sym c.replica_on.ensures.is ∙ c.in-Some.is in
    let fused = c.fuse_in.ensures.fused tells k stands in
    let came = fused.2 in
    answered g.D.Disk.files g.D.Piece.Piece.Tells g.D.Disk.fault_count g.D.Disk.fuse_count g.A.Arm.fault_count c.fuse_in.new.self (c.args.self.now).settings k came.known tag _
    (reply.Fused c.args.volume c.args.machine c.args.calls) c.fuse_in.ensures.settings
    (subst (λ (o : Option ℕ). OnReplica k o (λ j. LegalFuse (c.args.self.now).settings k c.args.volume c.args.machine j c.args.calls)
    (reply.Fused c.args.volume c.args.machine c.args.calls) came.known) (sym there)
    ((refl, refl), refl, (fused.0, fused.1, came.leaves))) came.stands

pub returns-clause-fuses : goal.returns-clause-fuses
returns-clause-fuses g c =
    let same = ap (λ (st : Open g.row.D.Denot g.row.D-Piece.Denot g.row.A.Denot). st.settings) c.self.view_is in
    let there : replica_on (c.args.self.now).settings c.args.volume c.args.machine ≡ Some c.in-Some.replica =
    ap (λ (s : Settings). replica_on s c.args.volume c.args.machine) (sym same) ∙ sym c.replica_on.ensures.is ∙ c.in-Some.is in
    sets_on (c.args.self.now).settings c.args.volume c.args.machine c.in-Some.replica _ _ there c.fuse_in.ensures.fuses

pub returns-in_default-clause-suits : goal.returns-in_default-clause-suits
returns-in_default-clause-suits g c = λ line.
    let same = ap (λ (st : Open g.row.D.Denot g.row.D-Piece.Denot g.row.A.Denot). st.settings) c.self.view_is in
    fuses_none (replica_on (c.args.self.now).settings c.args.volume c.args.machine) (reply.Fused c.args.volume c.args.machine c.args.calls)
    (ap (λ (s : Settings). replica_on s c.args.volume c.args.machine) (sym same) ∙ sym c.replica_on.ensures.is ∙ c.in_default.is)

pub returns-clause-suits : goal.returns-clause-suits
returns-clause-suits g c = λ line.
    let same = ap (λ (st : Open g.row.D.Denot g.row.D-Piece.Denot g.row.A.Denot). st.settings) c.self.view_is in
    fuses_one (replica_on (c.args.self.now).settings c.args.volume c.args.machine) c.in-Some.replica (reply.Fused c.args.volume c.args.machine c.args.calls)
    (ap (λ (s : Settings). replica_on s c.args.volume c.args.machine) (sym same) ∙ sym c.replica_on.ensures.is ∙ c.in-Some.is)

pub returns-in_default-clause-seen : goal.returns-in_default-clause-seen
returns-in_default-clause-seen g c = keeps_all (store_seen c.args.self.now)

pub returns-in_default-clause-sights : goal.returns-in_default-clause-sights
returns-in_default-clause-sights g c =
    keeps_photos (store_seen c.args.self.now)
