-- What want of memory leaves of a good volume is good.
use Rattle.std.proofs.Common.{◌≡◌, ℕ, zero, suc, Bool, true, false, not, cond, List, [], ◌∷◌, length, map, Option, Some, None, refl, sym, ap, ◌∙◌, subst}
use Rattle.std.specs.List.{AllByRecursion}
use Rattle.std.proofs.lemmas.Bool.{cond_both, false≢true, true≢false, and_right}
use Rattle.hay_needle.specs.declared.needle.Pair.{Pair}
use Rattle.hay_needle.specs.Copies.{CopiesAt}
use Rattle.hay_core.specs.declared.entry.Logged.{Logged}
use Rattle.hay_core.specs.declared.machine.Side.{Side}
use Rattle.hay_core.specs.declared.machine.Work.{Work}
use Rattle.hay_core.specs.declared.machine.Work.TheVariants as work
use Rattle.hay_core.specs.declared.machine.Hold.{Hold}
use Rattle.hay_core.specs.declared.machine.Core.{Core}
use Rattle.hay_core.specs.declared.calls.DeviceCall.{DeviceCall}
use Rattle.hay_core.specs.Calls
use Rattle.hay_core.specs.Calls.{call_of, call_from}
use Rattle.hay_core.specs.Sides.{has_part, no_copy}
use Rattle.hay_core.specs.Transitions
use Rattle.hay_core.specs.Transitions.{change_in, change_of, at_side, ended_copy}
use Rattle.hay_core.specs.Goodness.{CoreGood, SideGood, SideFits, CopyGood, CopyFits, IsSure, HoldFlags, CalmHold, Calm, CalmAt, is_deleting, settles}
use Rattle.hay_core.specs.Refusals.{frozen, failed_of, dropped, cut, cut_side, CutsAt, given_up, given_up_side, may_give_up, RefusalsKeepGood}
use Rattle.hay_core.proofs.CopyNext.{copy_passed}
use Rattle.hay_core.proofs.SideLaws.{Grows, slice_all}
use Rattle.hay_core.proofs.CalmLaws.{changes}
use Rattle.hay_core.proofs.HarmLaws.{SideHurt, hurt_of, hurt_again, good_of, not_deleting}
use Rattle.hay_core.proofs.CallLaws.{AllGrow, all_map, all_both, held, no_change, freezes_good, grow_map, grow_same, seen_go_on, fits_failed, step_sure, finish_sure, calm_of}
use Rattle.hay_core.proofs.EventLaws.{all_at, weak}

-- A VOLUME THAT NOBODY HOLDS

pub record Free (c : Core) : Type 0 where
  pub flags : HoldFlags None c.up c.frozen c.pending
  pub sides : (p : Pair) → AllByRecursion (SideGood p c.up c.log c.pending None) c.sides
  pub fits : AllByRecursion (SideFits c.up None) c.sides
  pub calm : c.frozen ≡ false → AllByRecursion IsSure c.sides

free : (c : Core) → CoreGood c → c.hold ≡ None → Free c
free c g is =
    let F : Option Hold → Type 0 = λ o. HoldFlags o c.up c.frozen c.pending in
    let S : Option Hold → Type 0 = λ o. (p : Pair) → AllByRecursion (SideGood p c.up c.log (change_in o c.pending) o) c.sides in
    let T : Option Hold → Type 0 = λ o. AllByRecursion (SideFits c.up o) c.sides in
    let U : Option Hold → Type 0 = λ o. c.frozen ≡ false → CalmHold o c.sides in
    record { flags = subst F is g.flags; sides = subst S is g.sides; fits = subst T is g.fits; calm = subst U is g.calm }

-- the side with another count of what is copied, and no part in a holding
again_good : (p : Pair) (up : Bool) (log : List Logged) (l : Option Logged) (o q : Option Hold) (s : Side) (copy progress : Option ℕ) → CopyGood p s.fresh s.current copy
    → SideGood p up log l o s → SideGood p up log l q (record s { copy = copy; progress = progress })
again_good p up log l o q s copy progress copied g =
    good_of p up log l q (record s { copy = copy; progress = progress }) (hurt_again p up log l s copy progress (hurt_of p up log l o s g)) (λ f. copied)

no_copy_good : (p : Pair) (up : Bool) (log : List Logged) (l : Option Logged) (s : Side) → SideGood p up log l None s → SideGood p up log l None (no_copy s)
no_copy_good p up log l s g = again_good p up log l None None s None s.progress tt g

no_copy_fits : (up : Bool) (s : Side) → SideFits up None s → SideFits up None (no_copy s)
no_copy_fits up s f = record { is_open = f.is_open; rows = f.rows; most = f.most; copy = tt; held = tt }

-- A FREEZE

frozen_free : (c : Core) → CoreGood c → Free c → CoreGood (record c { sides = map no_copy c.sides; hold = None; frozen = true })
frozen_free c g v = record {
  flags = λ up f. absurd (true≢false f);
  readers_up = g.readers_up;
  sides = λ p. all_map (λ s. SideGood p c.up c.log c.pending None s) (λ s. SideGood p c.up c.log c.pending None s) no_copy (λ s good. no_copy_good p c.up c.log c.pending s good) c.sides (v.sides p);
  fits = all_map (λ s. SideFits c.up None s) (λ s. SideFits c.up None s) no_copy (λ s f. no_copy_fits c.up s f) c.sides v.fits;
  sure = λ down. all_map IsSure IsSure no_copy (λ s h. h) c.sides (g.sure down);
  calm = λ f. absurd (true≢false f);
  readers = seen_go_on c.log c.sides (map no_copy c.sides) c.readers (grow_map no_copy (λ s. record { base = refl; shows = λ x o h. h }) c.sides) g.readers;
  logged = tt;
}

pub frozen_keeps : (c : Core) → CoreGood c → CoreGood (frozen c)
frozen_keeps c g = by c.hold refl
  where
    by : (o : Option Hold) → c.hold ≡ o → CoreGood (record c { sides = map no_copy c.sides; hold = failed_of o; frozen = true })
    by None is = frozen_free c g (free c g is)
    by (Some h) is =
        let v = held c h g is in
        let l : Option Logged = change_in (Some h) c.pending in
        freezes_good c h c.sides g v (grow_same c.sides)
        (λ p. weak (λ s. SideGood p c.up c.log l (Some h) s) (SideHurt p c.up c.log l) (λ s good. hurt_of p c.up c.log l (Some h) s good) c.sides (v.sides p))
        (weak (λ s. SideFits c.up (Some h) s) (λ s. SideFits c.up (Transitions.failed_hold h) s) (λ s f. fits_failed c.up h (Some h) s f) c.sides v.fits)

-- A COPY DROPPED

grow_at : (f : Side → Side) → ((s : Side) → Grows s (f s)) → (j : ℕ) (sides : List Side) → AllGrow sides (at_side j f sides)
grow_at f h j [] = tt
grow_at f h zero (s ∷ sides) = (h s, grow_same sides)
grow_at f h (suc j) (s ∷ sides) = (record { base = refl; shows = λ x o h. h }, grow_at f h j sides)

pub dropped_keeps : (c : Core) → CoreGood c → c.hold ≡ None → (j : ℕ) → CoreGood (dropped j c)
dropped_keeps c g is j =
    let v = free c g is in
    let S : List Side = at_side j no_copy c.sides in
    let sides : (p : Pair) → AllByRecursion (SideGood p c.up c.log c.pending None) S =
    λ p. all_at (λ s. SideGood p c.up c.log c.pending None s) no_copy (λ s good. no_copy_good p c.up c.log c.pending s good) j c.sides (v.sides p) in
    let fits : AllByRecursion (SideFits c.up None) S = all_at (λ s. SideFits c.up None s) no_copy (λ s f. no_copy_fits c.up s f) j c.sides v.fits in
    let calm : c.frozen ≡ false → AllByRecursion IsSure S = λ f. all_at IsSure no_copy (λ s h. h) j c.sides (v.calm f) in
    let X : Option Hold → Type 0 = λ o. (p : Pair) → AllByRecursion (SideGood p c.up c.log (change_in o c.pending) o) S in
    let Y : Option Hold → Type 0 = λ o. AllByRecursion (SideFits c.up o) S in
    let Z : Option Hold → Type 0 = λ o. c.frozen ≡ false → CalmHold o S in
    record {
      flags = g.flags;
      readers_up = g.readers_up;
      sides = subst X (sym is) sides;
      fits = subst Y (sym is) fits;
      sure = λ down. all_at IsSure no_copy (λ s h. h) j c.sides (g.sure down);
      calm = subst Z (sym is) calm;
      readers = seen_go_on c.log c.sides S c.readers (grow_at no_copy (λ s. record { base = refl; shows = λ x o h. h }) j c.sides) g.readers;
      logged = g.logged;
    }

-- A HOLDING OF A COMPACTION THAT ENDS

nothing_under_way : (h : Hold) (pending : Option Logged) → changes h.work ≡ false → change_in (Some h) pending ≡ None
nothing_under_way h pending still = cond_both h.published None (change_of h.tag h.work) (λ (o : Option Logged). o ≡ None) (λ b. refl) (λ b. no_change h.tag h.work still)

-- each side becomes f of itself, which keeps all but the count of what is copied
ends : (c : Core) (h : Hold) (f : Side → Side) (P : Side → Type 0) → CoreGood c → c.hold ≡ Some h → changes h.work ≡ false → AllByRecursion IsSure c.sides → AllByRecursion P c.sides
    → ((p : Pair) (s : Side) → P s → SideGood p c.up c.log None (Some h) s → SideGood p c.up c.log None None (f s))
    → ((s : Side) → P s → SideFits c.up (Some h) s → SideFits c.up None (f s)) → ((s : Side) → IsSure s → IsSure (f s)) → ((s : Side) → Grows s (f s))
    → CoreGood (record c { sides = map f c.sides; hold = None })
ends c h f P g is still sure each good fits calm grows =
    let v = held c h g is in
    let S : List Side = map f c.sides in
    let before : (p : Pair) → AllByRecursion (SideGood p c.up c.log None (Some h)) c.sides =
    let X : Option Logged → Type 0 = λ l. (p : Pair) → AllByRecursion (SideGood p c.up c.log l (Some h)) c.sides in
    subst X (nothing_under_way h c.pending still) v.sides in
    let after : (p : Pair) → AllByRecursion (SideGood p c.up c.log c.pending None) S = λ p.
    let X : Option Logged → Type 0 = λ l. AllByRecursion (SideGood p c.up c.log l None) S in
    subst X (sym v.none) (all_map (λ s. P s × SideGood p c.up c.log None (Some h) s) (λ s. SideGood p c.up c.log None None s) f (λ s both. good p s both.0 both.1) c.sides
    (all_both P (λ s. SideGood p c.up c.log None (Some h) s) c.sides each (before p))) in
    record {
      flags = λ up thawed. v.none;
      readers_up = g.readers_up;
      sides = after;
      fits = all_map (λ s. P s × SideFits c.up (Some h) s) (λ s. SideFits c.up None s) f (λ s both. fits s both.0 both.1) c.sides (all_both P (λ s. SideFits c.up (Some h) s) c.sides each v.fits);
      sure = λ down. absurd (true≢false (sym v.up ∙ down));
      calm = λ thawed. all_map IsSure IsSure f calm c.sides sure;
      readers = seen_go_on c.log c.sides S c.readers (grow_map f grows c.sides) g.readers;
      logged = tt;
    }

copied_still : (p : Pair) (up : Bool) (log : List Logged) (h : Hold) (s : Side) → changes h.work ≡ false → SideGood p up log None (Some h) s → CopyGood p s.fresh s.current s.copy
copied_still p up log h s still g = g.copied (and_right (not h.failed) (is_deleting h.work p s) (not_deleting h.work p s still))

copy_cut : (p : Pair) (examined : ℕ) (s : Side) → CutsAt examined s → CopyGood p s.fresh s.current s.copy → CopyGood p s.fresh s.current (Some examined)
copy_cut p examined s at copied =
    let P : Option ℕ → Type 0 = λ o. CopyGood p s.fresh s.current o in
    let Q : ℕ → Type 0 = λ n. CopiesAt p s.fresh s.current n in
    subst Q (sym at.sum) (copy_passed p s.fresh s.current at.before at.passed at.none_live (subst P at.copy copied))

pub cut_keeps : (c : Core) (h : Hold) (side cells examined : ℕ) → CoreGood c → c.hold ≡ Some h → h.work ≡ work.Step side cells → h.failed ≡ false
    → AllByRecursion (λ s. has_part s ≡ true → CutsAt examined s) c.sides → CoreGood (cut examined c)
cut_keeps c h side cells examined g is step ok each =
    let v = held c h g is in
    let still : changes h.work ≡ false = ap changes step in
    let W : Work → Type 0 = λ w. Calm w c.sides in
    ends c h (cut_side examined) (λ s. has_part s ≡ true → CutsAt examined s) g is still (step_sure side cells c.sides (subst W step (calm_of c h v ok))) each
    (λ p s at good. again_good p c.up c.log None (Some h) None s (cond (has_part s) (Some examined) s.copy) None
    (cond_both (has_part s) (Some examined) s.copy (λ (o : Option ℕ). CopyGood p s.fresh s.current o)
    (λ part. copy_cut p examined s (at part) (copied_still p c.up c.log h s still good)) (λ none. copied_still p c.up c.log h s still good)) good)
    (λ s at f. record {
      is_open = f.is_open;
      rows = f.rows;
      most = f.most;
      held = tt;
      copy = cond_both (has_part s) (Some examined) s.copy (λ (o : Option ℕ). CopyFits (length s.current) o) (λ part. (at part).within) (λ none. f.copy);
    })
    (λ s sure. sure) (λ s. record { base = refl; shows = λ x o h. h })

start_settles : (side : ℕ) (s : Side) (c : DeviceCall) (t : Option ℕ) → call_from (work.Start side) t s ≡ Some c → settles c.effect ≡ false
start_settles side s c None e = absurd cc
start_settles side s c (Some t) e = slice_all (λ d. settles d.effect ≡ false) Calls.start_calls t c (refl, (refl, (refl, (refl, tt)))) e

start_sure : (side : ℕ) (sides : List Side) → Calm (work.Start side) sides → AllByRecursion IsSure sides
start_sure side [] h = tt
start_sure side (s ∷ sides) h = go (call_of (work.Start side) s) refl h (λ h. start_sure side sides h)
  where
    go : (o : Option DeviceCall) → call_of (work.Start side) s ≡ o → CalmAt o s sides (Calm (work.Start side) sides) → (Calm (work.Start side) sides → AllByRecursion IsSure sides)
        → IsSure s × AllByRecursion IsSure sides
    go None e h later = (h.0, later h.1)
    go (Some c) e h later = (h.0 (start_settles side s c s.progress e), h.1)

quiet_work : (w : Work) (sides : List Side) → may_give_up w sides ≡ true → Calm w sides → (changes w ≡ false) × AllByRecursion IsSure sides
quiet_work (work.Put pair photo) sides f calm = absurd (false≢true f)
quiet_work (work.Del q) sides f calm = absurd (false≢true f)
quiet_work (work.Flush side) sides f calm = absurd (false≢true f)
quiet_work (work.Start side) sides f calm = (refl, start_sure side sides calm)
quiet_work (work.Step side cells) sides f calm = (refl, step_sure side cells sides calm)
quiet_work (work.Finish side) sides f calm = (refl, finish_sure side sides f calm)

pub given_up_keeps : (c : Core) (h : Hold) → CoreGood c → c.hold ≡ Some h → h.failed ≡ false → may_give_up h.work c.sides ≡ true → CoreGood (given_up c)
given_up_keeps c h g is ok may =
    let v = held c h g is in
    let quiet = quiet_work h.work c.sides may (calm_of c h v ok) in
    ends c h given_up_side (λ s. Unit {0}) g is quiet.0 quiet.1 (every c.sides)
    (λ p s u good. again_good p c.up c.log None (Some h) None s (ended_copy s).copy None
    (cond_both (has_part s) (no_copy s) s (λ (t : Side). CopyGood p s.fresh s.current t.copy) (λ part. tt) (λ none. copied_still p c.up c.log h s quiet.0 good)) good)
    (λ s u f. record {
      is_open = f.is_open;
      rows = f.rows;
      most = f.most;
      held = tt;
      copy = cond_both (has_part s) (no_copy s) s (λ (t : Side). CopyFits (length s.current) t.copy) (λ part. tt) (λ none. f.copy);
    })
    (λ s sure. sure) (λ s. record { base = refl; shows = λ x o h. h })
  where
    every : (sides : List Side) → AllByRecursion (λ s. Unit {0}) sides
    every [] = tt
    every (s ∷ sides) = (tt, every sides)

pub refusals_keep_good : (c : Core) → CoreGood c → RefusalsKeepGood c
refusals_keep_good c g = record {
  freeze = frozen_keeps c g;
  drop_copy = λ is j. dropped_keeps c g is j;
  cut_step = λ h side cells examined is step ok each. cut_keeps c h side cells examined g is step ok each;
  give_up = λ h is ok may. given_up_keeps c h g is ok may;
}
