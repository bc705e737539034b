use Rattle.std.proofs.Common.{◌<◌, ◌≤◌, ap, inl, inr, refl, subst}
use Rattle.hay_needle.specs.declared.settings.Settings.{Settings}
use Rattle.hay_cluster.specs.Store.{Open}
use Rattle.hay_cluster.specs.Seen.{store_seen}
use Rattle.hay_cluster.proofs.Seeing.{keeps_all}
use Rattle.hay_cluster.proofs.Sighting.{keeps_photos}
use Rattle.hay_cluster.proofs.cluster.Cluster.drain.Goals as goal

pub returns-then-machine-self-clause-suits : goal.returns-then-machine-self-clause-suits
returns-then-machine-self-clause-suits g c = λ line.
    let same = ap (λ (st : Open g.row.D.Denot g.row.D-Piece.Denot g.row.A.Denot). st.settings) c.self.view_is in
    inr (subst (λ (s : Settings). s.machines ≤ c.args.machine) same c.if-machine-self.true, refl)

pub returns-clause-suits : goal.returns-clause-suits
returns-clause-suits g c = λ line.
    let same = ap (λ (st : Open g.row.D.Denot g.row.D-Piece.Denot g.row.A.Denot). st.settings) c.self.view_is in
    inl (subst (λ (s : Settings). c.args.machine < s.machines) same c.if-machine-self.false, refl)

pub returns-then-machine-self-clause-seen : goal.returns-then-machine-self-clause-seen
returns-then-machine-self-clause-seen g c = inr (refl, keeps_all (store_seen c.args.self.now))

pub returns-clause-seen : goal.returns-clause-seen
returns-clause-seen g c = inl (refl, c.set_drained.ensures.seen)

pub returns-then-machine-self-clause-sights : goal.returns-then-machine-self-clause-sights
returns-then-machine-self-clause-sights g c =
    keeps_photos (store_seen c.args.self.now)
