use Rattle.std.proofs.Common.{◌≡◌, Some, refl, sym, ap, ◌∙◌, inl, inr}
use Rattle.hay_needle.specs.declared.settings.Settings.{Settings}
use Rattle.hay_url.specs.Url.{cookie_of}
use Rattle.hay_reply.specs.declared.Reply.TheVariants as reply
use Rattle.hay_legal.specs.Known.{home_of, machine_of}
use Rattle.hay_cluster.specs.Store.{Open}
use Rattle.hay_cluster.proofs.Answering.{answered, stays}
use Rattle.hay_needle.specs.declared.needle.Cookie.{Cookie}
use Rattle.hay_cluster.specs.Seen.{store_seen}
use Rattle.hay_cluster.proofs.Seeing.{keeps_all}
use Rattle.hay_cluster.proofs.Sighting.{keeps_photos}
use Rattle.hay_cluster.proofs.cluster.Cluster.url.Goals as goal

pub returns-clause-legal : goal.returns-clause-legal
returns-clause-legal g c = λ tells k stands.
    let same = ap (λ (st : Open g.row.D.Denot g.row.D-Piece.Denot g.row.A.Denot). st.settings) c.self.view_is in
    let home : home_of k c.args.pair ≡ Some c.in-Some.volume = sym (c.home.ensures.known tells k stands) ∙ c.in-Some.is in
    answered g.D.Disk.files g.D.Piece.Piece.Tells g.D.Disk.fault_count g.D.Disk.fuse_count g.A.Arm.fault_count c.args.self.now (c.args.self.now).settings k k c.args.tag _
    (reply.Url c.rows-rows.result (record { machine = c.machine_of.result; volume = c.in-Some.volume; pair = c.args.pair; cookie = c.cookie_of.result })) refl
    (record {
      home = home;
      pair_is = refl;
      cookie = c.cookie_of.ensures ∙ ap (λ (s : Settings). cookie_of s.secret c.args.pair.key) same;
      machine =
          c.machine_of.ensures.is ∙ ap (λ (s : Settings). machine_of s c.in-Some.volume c.start_of-start.result) same
          ∙ ap (λ j. machine_of (c.args.self.now).settings c.in-Some.volume j) c.start_of-start.ensures.is;
      rows = c.rows-rows.ensures.known tells k stands;
      leaves = stays k;
    }) stands

pub returns-in_default-clause-suits : goal.returns-in_default-clause-suits
returns-in_default-clause-suits g c = inr (inl (c.rows-rows.result, refl))

pub returns-clause-suits : goal.returns-clause-suits
returns-clause-suits g c =
    let same = ap (λ (st : Open g.row.D.Denot g.row.D-Piece.Denot g.row.A.Denot). st.settings) c.self.view_is in
    let cookie = c.cookie_of.ensures ∙ ap (λ (s : Settings). cookie_of s.secret c.args.pair.key) same in
    let machine =
    c.machine_of.ensures.is ∙ ap (λ (s : Settings). machine_of s c.in-Some.volume c.start_of-start.result) same
    ∙ ap (λ j. machine_of (c.args.self.now).settings c.in-Some.volume j) c.start_of-start.ensures.is in
    inl (
      c.in-Some.volume,
      c.rows-rows.result,
      (c.in-Some.ensures).within,
      ap (λ (k : Cookie). reply.Url c.rows-rows.result (record { machine = c.machine_of.result; volume = c.in-Some.volume; pair = c.args.pair; cookie = k })) cookie
          ∙ ap (λ m. reply.Url c.rows-rows.result (record {
            machine = m;
            volume = c.in-Some.volume;
            pair = c.args.pair;
            cookie = cookie_of (c.args.self.now).settings.secret c.args.pair.key;
          })) machine,
    )

pub returns-in_default-clause-seen : goal.returns-in_default-clause-seen
returns-in_default-clause-seen g c = (keeps_all (store_seen c.args.self.now), (sym c.home.ensures.seen ∙ c.in_default.is, c.rows-rows.ensures.count))

pub returns-clause-seen : goal.returns-clause-seen
returns-clause-seen g c = (keeps_all (store_seen c.args.self.now), (sym c.home.ensures.seen ∙ c.in-Some.is, c.rows-rows.ensures.count))

pub returns-in_default-clause-sights : goal.returns-in_default-clause-sights
returns-in_default-clause-sights g c =
    keeps_photos (store_seen c.args.self.now)

pub returns-clause-sights : goal.returns-clause-sights
returns-clause-sights g c =
    keeps_photos (store_seen c.args.self.now)
