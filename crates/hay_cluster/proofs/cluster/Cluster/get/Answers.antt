use Rattle.std.proofs.Common.{◌≡◌, ◌<◌, ℕ, Option, Some, None, map, refl, sym, ap, subst, ◌∙◌, inl, inr}
use Rattle.std.proofs.lemmas.Option.{same_Some}
use Rattle.hay_needle.specs.declared.settings.Settings.{Settings}
use Rattle.hay_reply.specs.declared.Reply.TheVariants as reply
use Rattle.hay_legal.specs.Known.{home_of, replica_on}
use Rattle.hay_legal.specs.Plain.{LegalGetAt}
use Rattle.hay_legal.specs.Suiting.{ShowsOf, SuitsGet}
use Rattle.hay_cluster.specs.Store.{Open, contents_in, disks_of}
use Rattle.hay_cluster.proofs.Answering.{answered, stays}
use Rattle.hay_cluster.proofs.Moves.{none_falls}
use Rattle.hay_cluster.proofs.Showing.{get_command}
use Rattle.hay_cluster.proofs.Sure.{same_sure}
use Rattle.hay_cluster.specs.Passing.{IsSureArm, TriesBefore}
use Rattle.hay_cluster.specs.Reads.{counts_of}
use Rattle.hay_cluster.specs.Sights.{told_by}
use Rattle.hay_cluster.proofs.Suiting.{at_no_memory, at_none, at_replica}
use Rattle.hay_cluster.proofs.Sighting.{keeps_photos}
use Rattle.hay_cluster.proofs.Seeing.{keeps_all}
use Rattle.hay_cluster.specs.Seen.{store_seen}
use Rattle.hay_cluster.proofs.cluster.Cluster.get.Goals as goal

pub returns-in_default-clause-legal : goal.returns-in_default-clause-legal
returns-in_default-clause-legal g c = λ tells k stands.
    let same = ap (λ (st : Open g.row.D.Denot g.row.D-Piece.Denot g.row.A.Denot). st.settings) c.self.view_is in
    let there : replica_on (c.args.self.now).settings (c.args.url.now).volume (c.args.url.now).machine ≡ None =
    ap (λ (s : Settings). replica_on s (c.args.url.now).volume (c.args.url.now).machine) (sym same) ∙ sym c.replica_on.ensures.is ∙ c.in_default.is in
    answered g.D.Disk.files g.D.Piece.Piece.Tells g.D.Disk.fault_count g.D.Disk.fuse_count g.A.Arm.fault_count c.args.self.now (c.args.self.now).settings k k c.args.tag _ reply.Nowhere refl
    (subst (λ (o : Option ℕ). LegalGetAt (c.args.self.now).settings k c.args.tag c.args.url.now o reply.Nowhere k) (sym there) (stays k)) stands

pub returns-in_default-home-clause-legal : goal.returns-in_default-home-clause-legal
returns-in_default-home-clause-legal g c = λ tells k stands.
    let same = ap (λ (st : Open g.row.D.Denot g.row.D-Piece.Denot g.row.A.Denot). st.settings) c.self.view_is in
    let there : replica_on (c.args.self.now).settings (c.args.url.now).volume (c.args.url.now).machine ≡ Some c.in-Some.start =
    ap (λ (s : Settings). replica_on s (c.args.url.now).volume (c.args.url.now).machine) (sym same) ∙ sym c.replica_on.ensures.is ∙ c.in-Some.is in
    let home : home_of k (c.args.url.now).pair ≡ None = sym (c.home.ensures.known tells k stands) ∙ c.in_default-home.is in
    answered g.D.Disk.files g.D.Piece.Piece.Tells g.D.Disk.fault_count g.D.Disk.fuse_count g.A.Arm.fault_count c.args.self.now (c.args.self.now).settings k k c.args.tag _
    (reply.Unknown c.rows.result) refl
    (subst (λ (o : Option ℕ). LegalGetAt (c.args.self.now).settings k c.args.tag c.args.url.now o (reply.Unknown c.rows.result) k) (sym there)
    (((home, c.rows.ensures.known tells k stands), stays k), tt, λ w is other. stays k)) stands

pub returns-then-volume-url-clause-legal : goal.returns-then-volume-url-clause-legal
returns-then-volume-url-clause-legal g c = λ tells k stands.
    let same = ap (λ (st : Open g.row.D.Denot g.row.D-Piece.Denot g.row.A.Denot). st.settings) c.self.view_is in
    let there : replica_on (c.args.self.now).settings (c.args.url.now).volume (c.args.url.now).machine ≡ Some c.in-Some.start =
    ap (λ (s : Settings). replica_on s (c.args.url.now).volume (c.args.url.now).machine) (sym same) ∙ sym c.replica_on.ensures.is ∙ c.in-Some.is in
    let home : home_of k (c.args.url.now).pair ≡ Some c.in-Some-home.volume = sym (c.home.ensures.known tells k stands) ∙ c.in-Some-home.is in
    answered g.D.Disk.files g.D.Piece.Piece.Tells g.D.Disk.fault_count g.D.Disk.fuse_count g.A.Arm.fault_count c.args.self.now (c.args.self.now).settings k k c.args.tag _
    (reply.Moved c.in-Some-home.volume c.rows-then-volume-url.result) refl
    (subst (λ (o : Option ℕ). LegalGetAt (c.args.self.now).settings k c.args.tag c.args.url.now o (reply.Moved c.in-Some-home.volume c.rows-then-volume-url.result) k) (sym there)
    (home, c.if-volume-url.true, c.rows-then-volume-url.ensures.known tells k stands, stays k)) stands

pub show-requires-clause-start : goal.show-requires-clause-start
show-requires-clause-start g c =
    let same = ap (λ (st : Open g.row.D.Denot g.row.D-Piece.Denot g.row.A.Denot). st.settings) c.self.view_is in
    subst (λ (s : Settings). c.in-Some.start < s.replicas) same (c.in-Some.ensures).within.0

pub show-requires-clause-volume : goal.show-requires-clause-volume
show-requires-clause-volume g c = (c.in-Some-home.ensures).within

pub returns-clause-legal : goal.returns-clause-legal
returns-clause-legal g c = λ tells k stands.
    let same = ap (λ (st : Open g.row.D.Denot g.row.D-Piece.Denot g.row.A.Denot). st.settings) c.self.view_is in
    let there : replica_on (c.args.self.now).settings (c.args.url.now).volume (c.args.url.now).machine ≡ Some c.in-Some.start =
    ap (λ (s : Settings). replica_on s (c.args.url.now).volume (c.args.url.now).machine) (sym same) ∙ sym c.replica_on.ensures.is ∙ c.in-Some.is in
    let home : home_of k (c.args.url.now).pair ≡ Some c.in-Some-home.volume = sym (c.home.ensures.known tells k stands) ∙ c.in-Some-home.is in
    let shown = c.show.ensures.shown tells k stands home in
    answered g.D.Disk.files g.D.Piece.Piece.Tells g.D.Disk.fault_count g.D.Disk.fuse_count g.A.Arm.fault_count c.show.new.self (c.args.self.now).settings k shown.known c.args.tag _
    c.show.result c.show.ensures.settings
    (get_command (c.args.self.now).settings k shown.known c.args.tag c.args.url.now c.in-Some.start c.in-Some-home.volume c.show.result there home c.if-volume-url.false shown.legal
    c.show.ensures.here) shown.stands

pub returns-in_default-clause-counts : goal.returns-in_default-clause-counts
returns-in_default-clause-counts g c = none_falls (map g.D.Disk.fault_count (disks_of c.args.self.now))

pub returns-in_default-clause-arm_counts : goal.returns-in_default-clause-arm_counts
returns-in_default-clause-arm_counts g c = none_falls (map g.A.Arm.fault_count (c.args.self.now).arms)

pub returns-in_default-home-clause-counts : goal.returns-in_default-home-clause-counts
returns-in_default-home-clause-counts g c = none_falls (map g.D.Disk.fault_count (disks_of c.args.self.now))

pub returns-in_default-home-clause-arm_counts : goal.returns-in_default-home-clause-arm_counts
returns-in_default-home-clause-arm_counts g c = none_falls (map g.A.Arm.fault_count (c.args.self.now).arms)

pub returns-then-volume-url-clause-counts : goal.returns-then-volume-url-clause-counts
returns-then-volume-url-clause-counts g c = none_falls (map g.D.Disk.fault_count (disks_of c.args.self.now))

pub returns-then-volume-url-clause-arm_counts : goal.returns-then-volume-url-clause-arm_counts
returns-then-volume-url-clause-arm_counts g c = none_falls (map g.A.Arm.fault_count (c.args.self.now).arms)

pub returns-in_default-clause-sure_arms : goal.returns-in_default-clause-sure_arms
returns-in_default-clause-sure_arms g c = same_sure g.A.Arm.is_sure g.A.Arm.fault_count (c.args.self.now).arms (c.args.self.now).arms refl

pub returns-in_default-home-clause-sure_arms : goal.returns-in_default-home-clause-sure_arms
returns-in_default-home-clause-sure_arms g c = same_sure g.A.Arm.is_sure g.A.Arm.fault_count (c.args.self.now).arms (c.args.self.now).arms refl

pub returns-then-volume-url-clause-sure_arms : goal.returns-then-volume-url-clause-sure_arms
returns-then-volume-url-clause-sure_arms g c = same_sure g.A.Arm.is_sure g.A.Arm.fault_count (c.args.self.now).arms (c.args.self.now).arms refl

pub returns-in_default-clause-suits : goal.returns-in_default-clause-suits
returns-in_default-clause-suits g c =
    let same = ap (λ (st : Open g.row.D.Denot g.row.D-Piece.Denot g.row.A.Denot). st.settings) c.self.view_is in
    at_none (replica_on (c.args.self.now).settings (c.args.url.now).volume (c.args.url.now).machine) (SuitsGet (c.args.self.now).settings c.args.url.now)
    (ap (λ (s : Settings). replica_on s (c.args.url.now).volume (c.args.url.now).machine) (sym same) ∙ sym c.replica_on.ensures.is ∙ c.in_default.is)

pub returns-in_default-home-clause-suits : goal.returns-in_default-home-clause-suits
returns-in_default-home-clause-suits g c =
    let same = ap (λ (st : Open g.row.D.Denot g.row.D-Piece.Denot g.row.A.Denot). st.settings) c.self.view_is in
    let there : replica_on (c.args.self.now).settings (c.args.url.now).volume (c.args.url.now).machine ≡ Some c.in-Some.start =
    ap (λ (s : Settings). replica_on s (c.args.url.now).volume (c.args.url.now).machine) (sym same) ∙ sym c.replica_on.ensures.is ∙ c.in-Some.is in
    at_replica _ (SuitsGet (c.args.self.now).settings c.args.url.now) c.in-Some.start (reply.Unknown c.rows.result) there (inl (c.rows.result, refl))

pub returns-then-volume-url-clause-suits : goal.returns-then-volume-url-clause-suits
returns-then-volume-url-clause-suits g c =
    let same = ap (λ (st : Open g.row.D.Denot g.row.D-Piece.Denot g.row.A.Denot). st.settings) c.self.view_is in
    let there : replica_on (c.args.self.now).settings (c.args.url.now).volume (c.args.url.now).machine ≡ Some c.in-Some.start =
    ap (λ (s : Settings). replica_on s (c.args.url.now).volume (c.args.url.now).machine) (sym same) ∙ sym c.replica_on.ensures.is ∙ c.in-Some.is in
    at_replica _ (SuitsGet (c.args.self.now).settings c.args.url.now) c.in-Some.start (reply.Moved c.in-Some-home.volume c.rows-then-volume-url.result) there
    (inr (inl (c.in-Some-home.volume, c.rows-then-volume-url.result, (c.in-Some-home.ensures).within, c.if-volume-url.true, refl)))

pub returns-clause-suits : goal.returns-clause-suits
returns-clause-suits g c =
    let same = ap (λ (st : Open g.row.D.Denot g.row.D-Piece.Denot g.row.A.Denot). st.settings) c.self.view_is in
    let there : replica_on (c.args.self.now).settings (c.args.url.now).volume (c.args.url.now).machine ≡ Some c.in-Some.start =
    ap (λ (s : Settings). replica_on s (c.args.url.now).volume (c.args.url.now).machine) (sym same) ∙ sym c.replica_on.ensures.is ∙ c.in-Some.is in
    elim c.show.ensures.here [
      | inl shows ↦ at_replica _ (SuitsGet (c.args.self.now).settings c.args.url.now) c.in-Some.start c.show.result there
          (inr (inr (subst (λ v. ShowsOf (c.args.self.now).settings c.in-Some.start v c.show.result) c.if-volume-url.false shows)))
      | inr none ↦ at_no_memory _ (SuitsGet (c.args.self.now).settings c.args.url.now) c.in-Some.start c.show.result there none
    ]

pub returns-in_default-home-clause-shows : goal.returns-in_default-home-clause-shows
returns-in_default-home-clause-shows g c = (sym c.home.ensures.seen ∙ c.in_default-home.is, c.rows.ensures.count)

pub returns-then-volume-url-clause-shows : goal.returns-then-volume-url-clause-shows
returns-then-volume-url-clause-shows g c = (sym c.home.ensures.seen ∙ c.in-Some-home.is, c.rows-then-volume-url.ensures.count)

pub show-requires-clause-home : goal.show-requires-clause-home
show-requires-clause-home g c = sym c.home.ensures.seen ∙ c.in-Some-home.is

pub returns-in_default-clause-seen : goal.returns-in_default-clause-seen
returns-in_default-clause-seen g c =
    keeps_all (store_seen c.args.self.now)

pub returns-in_default-clause-sights : goal.returns-in_default-clause-sights
returns-in_default-clause-sights g c =
    keeps_photos (store_seen c.args.self.now)

pub returns-in_default-home-clause-seen : goal.returns-in_default-home-clause-seen
returns-in_default-home-clause-seen g c =
    keeps_all (store_seen c.args.self.now)

pub returns-in_default-home-clause-sights : goal.returns-in_default-home-clause-sights
returns-in_default-home-clause-sights g c =
    keeps_photos (store_seen c.args.self.now)

pub returns-then-volume-url-clause-seen : goal.returns-then-volume-url-clause-seen
returns-then-volume-url-clause-seen g c =
    keeps_all (store_seen c.args.self.now)

pub returns-then-volume-url-clause-sights : goal.returns-then-volume-url-clause-sights
returns-then-volume-url-clause-sights g c =
    keeps_photos (store_seen c.args.self.now)

pub returns-in_default-clause-passes : goal.returns-in_default-clause-passes
returns-in_default-clause-passes g c = λ start there. tt

pub returns-in_default-home-clause-passes : goal.returns-in_default-home-clause-passes
returns-in_default-home-clause-passes g c = λ start there. tt

pub returns-then-volume-url-clause-passes : goal.returns-then-volume-url-clause-passes
returns-then-volume-url-clause-passes g c = λ start there. tt

pub returns-clause-passes : goal.returns-clause-passes
returns-clause-passes g c = λ start there.
    let same = ap (λ (st : Open g.row.D.Denot g.row.D-Piece.Denot g.row.A.Denot). st.settings) c.self.view_is in
    let here : replica_on (c.args.self.now).settings (c.args.url.now).volume (c.args.url.now).machine ≡ Some c.in-Some.start =
    ap (λ (s : Settings). replica_on s (c.args.url.now).volume (c.args.url.now).machine) (sym same) ∙ sym c.replica_on.ensures.is ∙ c.in-Some.is in
    let first : c.in-Some.start ≡ start = same_Some c.in-Some.start start (sym here ∙ there) in
    subst (λ s. TriesBefore g.D.Disk.Tells (c.args.self.now).settings (IsSureArm g.A.Arm.is_sure (c.args.self.now).arms c.args.tag.lane)
    (contents_in g.D.Disk.files c.show.new.self) c.args.tag.lane s (c.args.url.now).pair
    (counts_of g.D.Disk.fault_count g.A.Arm.fault_count c.args.self.now) (counts_of g.D.Disk.fault_count g.A.Arm.fault_count c.show.new.self) (store_seen c.show.new.self)
    (told_by c.show.result)) first c.show.ensures.passes
