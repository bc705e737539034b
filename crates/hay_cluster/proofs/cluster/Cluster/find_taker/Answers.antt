use Rattle.std.proofs.Common.{Some, map, sym, ap, ◌∙◌, refl, arith, ◌≡◌, ◌+◌, List, subst}
use Rattle.hay_cluster.proofs.Puts.{first_taker, one_more}
use Rattle.hay_cluster.specs.Store.{Open}
use Rattle.hay_needle.specs.declared.settings.Settings.{Settings}
use Rattle.hay_legal.specs.Known.{try_at, all_tries}
use Rattle.hay_legal.specs.Suiting.{Refuses}
use Rattle.std.specs.List.{AllByRecursion, AllZip, range_with_len}
use Rattle.hay_reply.specs.declared.Refused.{Refused}
use Rattle.hay_reply.specs.Fits.{FitsRefused}
use Rattle.hay_cluster.proofs.Fitting.{all_snoc}
use Rattle.hay_cluster.proofs.Suiting.{one_more_refuses}
use Rattle.hay_cluster.specs.Seen.{IsTaker, RefusesPhoto, store_seen}
use Rattle.hay_cluster.proofs.Seeing.{is_taker}
use Rattle.hay_cluster.proofs.cluster.Cluster.find_taker.Goals as goal

pub returns-in-None-clause-known : goal.returns-in-None-clause-known
returns-in-None-clause-known g c = λ tells k stands.
    let same = ap (λ (st : Open g.row.D.Denot g.row.D-Piece.Denot g.row.A.Denot). st.settings) c.self.view_is in
    first_taker (c.args.self.now).settings k c.args.pair c.args.size c.loop-turn.turn c.tries-volume.result c.loop-turn.refused
    (let volumes = ap (λ (s : Settings). s.volumes) same in omega (arith, volumes, c.loop-turn-test.true))
    (c.tries-volume.ensures.is c.args.pair refl ∙ ap (λ (s : Settings). try_at s c.args.pair c.loop-turn.turn) same)
    (sym (c.refusal.ensures.known tells k stands) ∙ c.in-None.is) (c.loop-turn.invariant.known tells k stands)

pub loop-turn-preserved : goal.loop-turn-preserved
loop-turn-preserved g c = record {
  known = λ tells k stands.
      let same = ap (λ (st : Open g.row.D.Denot g.row.D-Piece.Denot g.row.A.Denot). st.settings) c.self.view_is in
      let more = one_more (c.args.self.now).settings k c.args.pair c.args.size c.loop-turn.turn c.tries-volume.result c.loop-turn.refused c.in-Some.refusal
      (c.tries-volume.ensures.is c.args.pair refl ∙ ap (λ (s : Settings). try_at s c.args.pair c.loop-turn.turn) same)
      (sym (c.refusal.ensures.known tells k stands) ∙ c.in-Some.is) (c.loop-turn.invariant.known tells k stands) in
      more ∙ ap (λ rs. map Some rs) (sym (c.in_ok-push-in-Some.ensures).ok);
  refuses =
      let same = ap (λ (st : Open g.row.D.Denot g.row.D-Piece.Denot g.row.A.Denot). st.settings) c.self.view_is in
      subst (λ (rs : List Refused). AllZip (Refuses (c.args.self.now).settings c.args.size) (map (try_at (c.args.self.now).settings c.args.pair) (range_with_len 0 (c.loop-turn.turn + 1))) rs)
      (sym (c.in_ok-push-in-Some.ensures).ok)
      (one_more_refuses (Refuses (c.args.self.now).settings c.args.size) (c.args.self.now).settings c.args.pair c.loop-turn.turn c.tries-volume.result c.loop-turn.refused c.in-Some.refusal
      (c.tries-volume.ensures.is c.args.pair refl ∙ ap (λ (s : Settings). try_at s c.args.pair c.loop-turn.turn) same) (c.in-Some.ensures).refuses c.loop-turn.invariant.refuses);
  fits =
      subst (λ (rs : List Refused). AllByRecursion FitsRefused rs) (sym (c.in_ok-push-in-Some.ensures).ok)
      (all_snoc FitsRefused c.loop-turn.refused c.in-Some.refusal c.loop-turn.invariant.fits (c.in-Some.ensures).fits);
  seen =
      let same = ap (λ (st : Open g.row.D.Denot g.row.D-Piece.Denot g.row.A.Denot). st.settings) c.self.view_is in
      let R = RefusesPhoto (c.args.self.now).settings (store_seen c.args.self.now) c.args.size in
      subst (λ (rs : List Refused). AllZip R (map (try_at (c.args.self.now).settings c.args.pair) (range_with_len 0 (c.loop-turn.turn + 1))) rs) (sym (c.in_ok-push-in-Some.ensures).ok)
      (one_more_refuses R (c.args.self.now).settings c.args.pair c.loop-turn.turn c.tries-volume.result c.loop-turn.refused c.in-Some.refusal
      (c.tries-volume.ensures.is c.args.pair refl ∙ ap (λ (s : Settings). try_at s c.args.pair c.loop-turn.turn) same) (c.in-Some.ensures).refuses_seen c.loop-turn.invariant.seen);
}

pub returns-clause-refused : goal.returns-clause-refused
returns-clause-refused g c = λ refused is.
    let same = ap (λ (st : Open g.row.D.Denot g.row.D-Piece.Denot g.row.A.Denot). st.settings) c.self.view_is in
    let all : c.loop-turn.turn ≡ (c.args.self.now).settings.volumes =
    let volumes = ap (λ (s : Settings). s.volumes) same in omega (arith, volumes, c.loop-turn-test.false, c.loop-turn.auto.turn-end) in
    let these : c.loop-turn.refused ≡ refused = cc in
    subst (λ (rs : List Refused). AllZip (Refuses (c.args.self.now).settings c.args.size) (all_tries (c.args.self.now).settings c.args.pair) rs) these
    (subst (λ n. AllZip (Refuses (c.args.self.now).settings c.args.size) (map (try_at (c.args.self.now).settings c.args.pair) (range_with_len 0 n)) c.loop-turn.refused) all
    c.loop-turn.invariant.refuses)

pub returns-clause-fits : goal.returns-clause-fits
returns-clause-fits g c = λ refused is.
    let these : c.loop-turn.refused ≡ refused = cc in
    subst (λ (rs : List Refused). AllByRecursion FitsRefused rs) these c.loop-turn.invariant.fits

pub returns-in-None-clause-seen : goal.returns-in-None-clause-seen
returns-in-None-clause-seen g c = λ volume is.
    let same = ap (λ (st : Open g.row.D.Denot g.row.D-Piece.Denot g.row.A.Denot). st.settings) c.self.view_is in
    let this : c.tries-volume.result ≡ volume = cc in
    subst (λ v. IsTaker (c.args.self.now).settings (store_seen c.args.self.now) c.args.pair c.args.size v) this
    (is_taker (c.args.self.now).settings (store_seen c.args.self.now) c.args.pair c.args.size c.loop-turn.turn c.tries-volume.result c.loop-turn.refused
    (let volumes = ap (λ (s : Settings). s.volumes) same in omega (arith, volumes, c.loop-turn-test.true))
    (c.tries-volume.ensures.is c.args.pair refl ∙ ap (λ (s : Settings). try_at s c.args.pair c.loop-turn.turn) same) c.loop-turn.invariant.seen (c.in-None.ensures).takes_seen)

pub returns-clause-refused_seen : goal.returns-clause-refused_seen
returns-clause-refused_seen g c = λ refused is.
    let same = ap (λ (st : Open g.row.D.Denot g.row.D-Piece.Denot g.row.A.Denot). st.settings) c.self.view_is in
    let all : c.loop-turn.turn ≡ (c.args.self.now).settings.volumes =
    let volumes = ap (λ (s : Settings). s.volumes) same in omega (arith, volumes, c.loop-turn-test.false, c.loop-turn.auto.turn-end) in
    let these : c.loop-turn.refused ≡ refused = cc in
    let R = RefusesPhoto (c.args.self.now).settings (store_seen c.args.self.now) c.args.size in
    subst (λ (rs : List Refused). AllZip R (all_tries (c.args.self.now).settings c.args.pair) rs) these
    (subst (λ n. AllZip R (map (try_at (c.args.self.now).settings c.args.pair) (range_with_len 0 n)) c.loop-turn.refused) all c.loop-turn.invariant.seen)
