-- What a device call and a read, made or failed, keep of a volume.
use Rattle.std.proofs.Common.{◌≡◌, ℕ, zero, suc, ◌-◌, ◌≤◌, Bool, true, false, not, ◌&&◌, List, [], ◌∷◌, ◌++◌, length, take, drop, map, Option, Some, None, refl, sym, ap, ◌∙◌}
use Rattle.std.proofs.Common.{length-append, subst, arith}
use Rattle.std.specs.Prelude.{slice_get, nat_le, is_some}
use Rattle.std.specs.List.{AllByRecursion}
use Rattle.std.proofs.lemmas.List.{take-append-le, append-nil}
use Rattle.std.proofs.lemmas.Bool.{cond_both, cond-false, and_parts, not-true, false≢true, true≢false, and_right, leb-true, false_from_ne_true}
use Rattle.hay_needle.specs.declared.needle.Pair.{Pair}
use Rattle.hay_needle.specs.declared.needle.Needle.{Needle}
use Rattle.hay_needle.specs.declared.needle.Row.{Row}
use Rattle.hay_core.specs.declared.machine.Side.{Side}
use Rattle.hay_core.specs.declared.machine.Spot.{Spot}
use Rattle.hay_core.specs.declared.machine.Work.{Work}
use Rattle.hay_core.specs.declared.machine.Work.TheVariants as work
use Rattle.hay_core.specs.declared.entry.CoreTag.{CoreTag}
use Rattle.hay_core.specs.declared.entry.Logged.{Logged}
use Rattle.hay_core.specs.declared.calls.Effect.TheVariants.{Quiet, Copies}
use Rattle.hay_core.specs.declared.calls.Harm.{Harm}
use Rattle.hay_core.specs.declared.calls.Harm.TheVariants.{Freezes, Fails, Ends, GoesOn}
use Rattle.hay_core.specs.declared.calls.DeviceCall.{DeviceCall}
use Rattle.hay_core.specs.declared.calls.Copied.{Copied}
use Rattle.hay_core.specs.declared.machine.Hold.{Hold}
use Rattle.hay_needle.specs.Tables.{look}
use Rattle.hay_core.specs.Entries.{rows_after}
use Rattle.hay_core.specs.Calls
use Rattle.hay_core.specs.Sides
use Rattle.hay_core.specs.Sides.{settle, made, broken, files_of, with_progress, next_progress, after_ok, after_failed, after_harm, no_copy}
use Rattle.hay_core.specs.Calls.{call_of, call_from, call_at, copy_next}
use Rattle.hay_core.specs.Transitions
use Rattle.hay_core.specs.Transitions.{Stepped, allowed, change, change_in, change_of, at_first, put_first, first_call, first_of_two, device_ok, device_failed, read_failed, publish}
use Rattle.hay_core.specs.Transitions.{end_hold, begin, look_up, stop, open_call, after_event, after_events}
use Rattle.hay_core.specs.declared.machine.Reader.{Reader}
use Rattle.hay_core.specs.declared.machine.Core.{Core}
use Rattle.hay_core.proofs.HarmLaws.{SideHurt, hurt_of, good_of, hurt_again, side_hurt, not_deleting, harm_copy, on_copy, side_fits_failed, held_on, harm_sure, harm_settles, failed_grows}
use Rattle.hay_core.specs.Goodness.{CoreGood, HoldLogged, ReaderGood, RowGood, HoldFlags, CalmIn, CalmHold, Shows, CopyGood, SideGood, SideFits, is_deleting, settles, IsSure, Calm, CalmAt}
use Rattle.hay_core.proofs.DeviceLaws.{side_ok, side_fits_ok}
use Rattle.hay_core.proofs.CalmLaws.{harms, harm_fits, is_calm, changes, on_call, all_sure, calm_ok, calm_sure}
use Rattle.hay_core.proofs.SideLaws.{Grows, made_stays}

abbrev pub AllGrow : List Side → List Side → Type 0
AllGrow [] [] = Unit {0}
AllGrow (s ∷ sides) (t ∷ others) = Grows s t × AllGrow sides others
AllGrow [] (t ∷ others) = ⊥
AllGrow (s ∷ sides) [] = ⊥

grows_same : (s : Side) → Grows s s
grows_same s = record { base = refl; shows = λ x o h. h }

pub grow_same : (sides : List Side) → AllGrow sides sides
grow_same [] = tt
grow_same (s ∷ sides) = (grows_same s, grow_same sides)

pub grow_map : (f : Side → Side) → ((s : Side) → Grows s (f s)) → (sides : List Side) → AllGrow sides (map f sides)
grow_map f h [] = tt
grow_map f h (s ∷ sides) = (h s, grow_map f h sides)

grow_both : (a b c : List Side) → AllGrow a b → AllGrow b c → AllGrow a c
grow_both [] [] [] g h = tt
grow_both [] [] (z ∷ c) g h = h
grow_both [] (y ∷ b) c g h = absurd g
grow_both (x ∷ a) [] c g h = absurd g
grow_both (x ∷ a) (y ∷ b) [] g h = absurd h
grow_both (x ∷ a) (y ∷ b) (z ∷ c) g h = (record { base = h.0.base ∙ g.0.base; shows = λ t o s. h.0.shows t o (g.0.shows t o s) }, grow_both a b c g.1 h.1)

grow_at_first : (w : Work) (f : DeviceCall → Side → Side) → ((c : DeviceCall) (s : Side) → Grows s (f c s)) → (sides : List Side) → AllGrow sides (at_first w f sides)
grow_at_first w f h [] = tt
grow_at_first w f h (s ∷ sides) = go (call_of w s) (grow_at_first w f h sides)
  where
    go : (o : Option DeviceCall) → AllGrow sides (at_first w f sides) → AllGrow (s ∷ sides) (put_first o f s sides (at_first w f sides))
    go None later = (grows_same s, later)
    go (Some c) later = (h c s, grow_same sides)

rows_grow : (p : Pair) (log : List Logged) (sides others : List Side) (row : List Spot) → AllGrow sides others → RowGood p log sides row → RowGood p log others row
rows_grow p log [] [] [] g h = tt
rows_grow p log [] [] (x ∷ row) g h = h
rows_grow p log [] (t ∷ others) row g h = absurd g
rows_grow p log (s ∷ sides) [] row g h = absurd g
rows_grow p log (s ∷ sides) (t ∷ others) [] g h = h
rows_grow p log (s ∷ sides) (t ∷ others) (x ∷ row) g h =
    let P : List Row → Type 0 = λ base. Shows t x (look (rows_after log base) p) in
    (subst P (sym g.0.base) (g.0.shows x (look (rows_after log s.base) p) h.0), rows_grow p log sides others row g.1 h.1)

pub seen_grow : (log more : List Logged) (sides others : List Side) (readers : List Reader) → AllGrow sides others → AllByRecursion (ReaderGood log sides) readers
    → AllByRecursion (ReaderGood (log ++ more) others) readers
seen_grow log more sides others [] g h = tt
seen_grow log more sides others (r ∷ readers) g h =
    let same : take r.front (log ++ more) ≡ take r.front log = take-append-le r.front log more h.0.front in
    let P : List Logged → Type 0 = λ seen. RowGood r.pair seen others r.row in (
      record { front = omega (arith, h.0.front, length-append log more); row = subst P (sym same) (rows_grow r.pair (take r.front log) sides others r.row g h.0.row) },
      seen_grow log more sides others readers g h.1,
    )

pub seen_go_on : (log : List Logged) (sides others : List Side) (readers : List Reader) → AllGrow sides others → AllByRecursion (ReaderGood log sides) readers
    → AllByRecursion (ReaderGood log others) readers
seen_go_on log sides others readers g h =
    let P : List Logged → Type 0 = λ log. AllByRecursion (ReaderGood log others) readers in
    subst P (append-nil log) (seen_grow log [] sides others readers g h)

pub all_map : (P Q : Side → Type 0) (f : Side → Side) → ((s : Side) → P s → Q (f s)) → (sides : List Side) → AllByRecursion P sides → AllByRecursion Q (map f sides)
all_map P Q f h [] all = tt
all_map P Q f h (s ∷ sides) all = (h s all.0, all_map P Q f h sides all.1)

pub all_both : (P Q : Side → Type 0) (sides : List Side) → AllByRecursion P sides → AllByRecursion Q sides → AllByRecursion (λ s. P s × Q s) sides
all_both P Q [] a b = tt
all_both P Q (s ∷ sides) a b = ((a.0, b.0), all_both P Q sides a.1 b.1)

-- a volume that is held
pub record Held (c : Core) (h : Hold) : Type 0 where
  pub up : c.up ≡ true
  pub none : c.pending ≡ None
  pub frozen : c.frozen ≡ true → h.failed ≡ true
  pub alone : h.failed ≡ true → c.frozen ≡ false → change_in (Some h) c.pending ≡ None
  pub sides : (p : Pair) → AllByRecursion (SideGood p c.up c.log (change_in (Some h) c.pending) (Some h)) c.sides
  pub fits : AllByRecursion (SideFits c.up (Some h)) c.sides
  pub calm : c.frozen ≡ false → CalmIn h.failed h.work c.sides
  pub logged : h.published ≡ true → (front : List Logged) × (c.log ≡ front ++ Transitions.entry_list (change_of h.tag h.work))

pub held : (c : Core) (h : Hold) → CoreGood c → c.hold ≡ Some h → Held c h
held c h g e =
    let F : Option Hold → Type 0 = λ o. HoldFlags o c.up c.frozen c.pending in
    let S : Option Hold → Type 0 = λ o. (p : Pair) → AllByRecursion (SideGood p c.up c.log (change_in o c.pending) o) c.sides in
    let T : Option Hold → Type 0 = λ o. AllByRecursion (SideFits c.up o) c.sides in
    let U : Option Hold → Type 0 = λ o. c.frozen ≡ false → CalmHold o c.sides in
    let flags = subst F e g.flags in
    record {
      up = flags.0;
      none = flags.1;
      frozen = flags.2;
      alone = flags.3;
      sides = subst S e g.sides;
      fits = subst T e g.fits;
      calm = subst U e g.calm;
      logged = let V : Option Hold → Type 0 = λ o. HoldLogged o c.log in subst V e g.logged;
    }

pub allowed_good : (b : Bool) (next c : Core) → (b ≡ true → CoreGood next) → CoreGood c → CoreGood (allowed b next c).core
allowed_good true next c h g = h refl
allowed_good false next c h g = g

abbrev some_pair : Pair
some_pair = record { key = 0; alt = 0 }

not_published : (w : Work) (h : Hold) (up : Bool) (sides : List Side) (x : DeviceCall) → h.failed ≡ false → w ≡ h.work → first_call w sides ≡ Some x
    → AllByRecursion (SideFits up (Some h)) sides → h.published ≡ false
not_published w h up [] x ok is e fits = absurd cc
not_published w h up (s ∷ sides) x ok is e fits = go (call_of w s) refl e (λ e. not_published w h up sides x ok is e fits.1)
  where
    go : (o : Option DeviceCall) → call_of w s ≡ o → first_of_two o (first_call w sides) ≡ Some x → (first_call w sides ≡ Some x → h.published ≡ false) → h.published ≡ false
    go None n e later = later e
    go (Some c) n e later =
        false_from_ne_true h.published (λ t.
        let none : call_of h.work s ≡ None = (fits.0.held ok).all_made t in
        let P : Work → Type 0 = λ w. call_of w s ≡ None in
        let gone : call_of w s ≡ None = subst P (sym is) none in
        absurd cc)

pub under_way : (h : Hold) (pending : Option Logged) → h.published ≡ false → change_in (Some h) pending ≡ change_of h.tag h.work
under_way h pending out = cond-false h.published None (change_of h.tag h.work) out

pub device_ok_good : (c : Core) → CoreGood c → CoreGood (device_ok c.hold c).core
device_ok_good c g = by c.hold refl
  where
    made_by : (h : Hold) → c.hold ≡ Some h → (o : Option DeviceCall) → first_call h.work c.sides ≡ o → CoreGood (Transitions.device_ok_by h o c).core
    made_by h is None e = g
    made_by h is (Some x) e =
        allowed_good (not h.failed) (record c { sides = at_first h.work (after_ok h.work) c.sides; hold = Some h }) c
        (λ allowed.
        let v = held c h g is in
        let ok : h.failed ≡ false = not-true h.failed allowed in
        let thawed : c.frozen ≡ false = false_from_ne_true c.frozen (λ t. absurd (false≢true (sym ok ∙ v.frozen t))) in
        let l : Option Logged = change_of h.tag h.work in
        let out = under_way h c.pending (not_published h.work h c.up c.sides x ok refl e v.fits) in
        let C : Bool → Type 0 = λ b. CalmIn b h.work c.sides in
        let calm : Calm h.work c.sides = subst C ok (v.calm thawed) in
        let L : Pair → Option Logged → Type 0 = λ p l. AllByRecursion (SideGood p c.up c.log l (Some h)) c.sides in
        let M : Pair → Option Logged → Type 0 = λ p l. AllByRecursion (SideGood p c.up c.log l (Some h)) (at_first h.work (after_ok h.work) c.sides) in
        let goods : (p : Pair) → AllByRecursion (λ s. SideGood p c.up c.log l (Some h) s × SideFits c.up (Some h) s) c.sides =
        λ p. all_both (λ s. SideGood p c.up c.log l (Some h) s) (λ s. SideFits c.up (Some h) s) c.sides (subst (L p) out (v.sides p)) v.fits in
        let D : Bool → Type 0 = λ b. CalmIn b h.work (at_first h.work (after_ok h.work) c.sides) in
        record {
          flags = (v.up, v.none, v.frozen, v.alone);
          readers_up = g.readers_up;
          sides = λ p. subst (M p) (sym out)
              (on_call h.work (after_ok h.work) (λ s. SideGood p c.up c.log l (Some h) s × SideFits c.up (Some h) s) (λ s. SideGood p c.up c.log l (Some h) s) x c.sides e (goods p) calm
              (λ s both. both.0) (λ s at sure both. side_ok c.up v.up p c.log h s x ok at sure both.0 both.1));
          fits = on_call h.work (after_ok h.work) (λ s. SideGood some_pair c.up c.log l (Some h) s × SideFits c.up (Some h) s) (λ s. SideFits c.up (Some h) s) x c.sides e (goods some_pair) calm
              (λ s both. both.1) (λ s at sure both. side_fits_ok c.up some_pair c.log h s x ok at both.0 both.1);
          sure = λ down. absurd (true≢false (sym v.up ∙ down));
          calm = λ f. subst D (sym ok) (calm_ok h.work c.sides calm);
          readers = seen_go_on c.log c.sides (at_first h.work (after_ok h.work) c.sides) c.readers
              (grow_at_first h.work (after_ok h.work) (λ x s. let stays = made_stays x.effect s in record { base = stays.grows.base; shows = stays.grows.shows }) c.sides) g.readers;
          logged = v.logged;
        })
        g

    by : (o : Option Hold) → c.hold ≡ o → CoreGood (device_ok o c).core
    by None is = g
    by (Some h) is = made_by h is (first_call h.work c.sides) refl

first_harms : (w : Work) (x : DeviceCall) (sides : List Side) → first_call w sides ≡ Some x → harm_fits (changes w) x.harm x.effect ≡ true
first_harms w x [] e = absurd cc
first_harms w x (s ∷ sides) e = go (call_of w s) refl e (λ e. first_harms w x sides e)
  where
    go : (o : Option DeviceCall) → call_of w s ≡ o → first_of_two o (first_call w sides) ≡ Some x → (first_call w sides ≡ Some x → harm_fits (changes w) x.harm x.effect ≡ true)
        → harm_fits (changes w) x.harm x.effect ≡ true
    go None is e later = later e
    go (Some c) is e later =
        let same : c ≡ x = cc in
        let P : DeviceCall → Type 0 = λ c. harm_fits (changes w) c.harm c.effect ≡ true in
        subst P same (harms w s s.progress c is)

pub no_change : (tag : CoreTag) (w : Work) → changes w ≡ false → change_of tag w ≡ None
no_change tag (work.Put pair photo) f = absurd (true≢false f)
no_change tag (work.Del q) f = absurd (true≢false f)
no_change tag (work.Flush side) f = refl
no_change tag (work.Start side) f = refl
no_change tag (work.Step side cells) f = refl
no_change tag (work.Finish side) f = refl

pub fits_failed : (up : Bool) (h : Hold) (o : Option Hold) (s : Side) → SideFits up o s → SideFits up (Transitions.failed_hold h) s
fits_failed up h o s f = record { is_open = f.is_open; rows = f.rows; most = f.most; copy = f.copy; held = λ no. absurd (true≢false no) }

fits_no_copy : (up : Bool) (h : Hold) (s : Side) → SideFits up (Transitions.failed_hold h) s → SideFits up (Transitions.failed_hold h) (no_copy s)
fits_no_copy up h s f = record { is_open = f.is_open; rows = f.rows; most = f.most; copy = tt; held = λ no. absurd (true≢false no) }

-- what holds of a side of a volume that a failure freezes
frozen_good : (p : Pair) (up : Bool) (log : List Logged) (l : Option Logged) (h : Hold) (s : Side) → SideHurt p up log l s → SideGood p up log l (Transitions.failed_hold h) (no_copy s)
frozen_good p up log l h s g = good_of p up log l (Transitions.failed_hold h) (no_copy s) (hurt_again p up log l s None s.progress g) (λ f. tt)

pub freezes_good : (c : Core) (h : Hold) (sides : List Side) → CoreGood c → Held c h → AllGrow c.sides sides
    → ((p : Pair) → AllByRecursion (SideHurt p c.up c.log (change_in (Some h) c.pending)) sides) → AllByRecursion (SideFits c.up (Transitions.failed_hold h)) sides
    → CoreGood (record c { sides = map no_copy sides; hold = Transitions.failed_hold h; frozen = true })
freezes_good c h sides g v grow hurt fits = record {
  flags = (v.up, v.none, (λ t. refl), (λ t f. absurd (true≢false f)));
  readers_up = g.readers_up;
  sides = λ p. all_map (SideHurt p c.up c.log (change_in (Some h) c.pending)) (λ s. SideGood p c.up c.log (change_in (Some h) c.pending) (Transitions.failed_hold h) s) no_copy
      (λ s. frozen_good p c.up c.log (change_in (Some h) c.pending) h s) sides (hurt p);
  fits = all_map (λ s. SideFits c.up (Transitions.failed_hold h) s) (λ s. SideFits c.up (Transitions.failed_hold h) s) no_copy (fits_no_copy c.up h) sides fits;
  sure = λ down. absurd (true≢false (sym v.up ∙ down));
  calm = λ f. absurd (true≢false f);
  readers =
      seen_go_on c.log c.sides (map no_copy sides) c.readers (grow_both c.sides sides (map no_copy sides) grow (grow_map no_copy (λ s. record { base = refl; shows = λ x o h. h }) sides)) g.readers;
  logged = v.logged;
}

pub device_failed_good : (c : Core) → CoreGood c → CoreGood (device_failed c.hold c).core
device_failed_good c g = by c.hold refl
  where
    failed_by : (h : Hold) → c.hold ≡ Some h → (o : Option DeviceCall) → first_call h.work c.sides ≡ o → CoreGood (Transitions.device_failed_by h o c).core
    failed_by h is None e = g
    failed_by h is (Some x) e =
        let S : List Side = at_first h.work (after_failed h.work) c.sides in
        allowed_good (not h.failed) (Transitions.harmed h x.harm S c) c
        (λ allowed.
        let v = held c h g is in
        let ok : h.failed ≡ false = not-true h.failed allowed in
        let thawed : c.frozen ≡ false = false_from_ne_true c.frozen (λ t. absurd (false≢true (sym ok ∙ v.frozen t))) in
        let l : Option Logged = change_of h.tag h.work in
        let out = under_way h c.pending (not_published h.work h c.up c.sides x ok refl e v.fits) in
        let C : Bool → Type 0 = λ b. CalmIn b h.work c.sides in
        let calm : Calm h.work c.sides = subst C ok (v.calm thawed) in
        let L : Pair → Option Logged → Type 0 = λ p l. AllByRecursion (SideGood p c.up c.log l (Some h)) c.sides in
        let G : Pair → Side → Type 0 = λ p s. SideGood p c.up c.log l (Some h) s in
        let F : Side → Type 0 = λ s. SideFits c.up (Some h) s in
        let T : Side → Type 0 = λ s. SideFits c.up (Transitions.failed_hold h) s in
        let goods : (p : Pair) → AllByRecursion (G p) c.sides = λ p. subst (L p) out (v.sides p) in
        let fit = first_harms h.work x c.sides e in
        let grow : AllGrow c.sides S = grow_at_first h.work (after_failed h.work) (λ x s. failed_grows h.work x s) c.sides in
        let hurt : (p : Pair) → AllByRecursion (SideHurt p c.up c.log l) S = λ p.
        on_call h.work (after_failed h.work) (G p) (SideHurt p c.up c.log l) x c.sides e (goods p) calm (λ s good. hurt_of p c.up c.log l (Some h) s good)
        (λ s at sure good. side_hurt c.up v.up p c.log h s x at good) in
        let tired : AllByRecursion T S =
        on_call h.work (after_failed h.work) F T x c.sides e v.fits calm (λ s f. fits_failed c.up h (Some h) s f)
        (λ s at sure f. side_fits_failed c.up h (Transitions.failed_hold h) s x at f (λ no. absurd (true≢false no))) in
        let Z : Pair → Option Logged → Type 0 = λ p l. AllByRecursion (SideHurt p c.up c.log l) S in
        let ends : changes h.work ≡ false → (x.harm ≡ Freezes → ⊥) → CoreGood (record c { sides = S; hold = Transitions.failed_hold h }) = λ still alive.
        let N : Pair → Option Logged → Type 0 = λ p l. AllByRecursion (SideGood p c.up c.log l (Transitions.failed_hold h)) S in
        let sure = all_sure h.work x c.sides e (harm_settles (changes h.work) x.effect x.harm alive fit) calm in
        record {
          flags = (v.up, v.none, (λ t. refl), (λ t f. out ∙ no_change h.tag h.work still));
          readers_up = g.readers_up;
          sides = λ p. subst (N p) (sym out) (on_call h.work (after_failed h.work) (G p) (λ s. SideGood p c.up c.log l (Transitions.failed_hold h) s) x c.sides e (goods p) calm
              (λ s good. good_of p c.up c.log l (Transitions.failed_hold h) s (hurt_of p c.up c.log l (Some h) s good)
              (λ f. good.copied (and_right (not h.failed) (is_deleting h.work p s) (not_deleting h.work p s still))))
              (λ s at sure good. good_of p c.up c.log l (Transitions.failed_hold h) (after_failed h.work x s) (side_hurt c.up v.up p c.log h s x at good)
              (λ f. harm_copy p h.work x.effect s x.harm (good.copied (and_right (not h.failed) (is_deleting h.work p s) (not_deleting h.work p s still))))));
          fits = tired;
          sure = λ down. absurd (true≢false (sym v.up ∙ down));
          calm = λ f. on_call h.work (after_failed h.work) IsSure IsSure x c.sides e sure calm (λ s h. h) (λ s at before now. harm_sure (changes h.work) h.work x.effect s x.harm alive fit now);
          readers = seen_go_on c.log c.sides S c.readers grow g.readers;
          logged = v.logged;
        } in
        let go : (y : Harm) → x.harm ≡ y → harm_fits (changes h.work) y x.effect ≡ true → CoreGood (Transitions.harmed h y S c) =
        λ y. elim y as (λ y. x.harm ≡ y → harm_fits (changes h.work) y x.effect ≡ true → CoreGood (Transitions.harmed h y S c)) [
          | Freezes ↦ λ y fits. freezes_good c h S g v grow (λ p. subst (Z p) (sym out) (hurt p)) tired
          | Fails ↦ λ y fits. ends (not-true (changes h.work) (and_parts (not (changes h.work)) (is_calm x.effect) fits).0) (λ z. let no : Fails ≡ Freezes = cc in absurd cc)
          | Ends ↦ λ y fits. ends (not-true (changes h.work) (and_parts (not (changes h.work)) (is_calm x.effect) fits).0) (λ z. let no : Ends ≡ Freezes = cc in absurd cc)
          | GoesOn ↦ λ y fits.
              let alive : x.harm ≡ Freezes → ⊥ = λ z. let no : GoesOn ≡ Freezes = cc in absurd cc in
              let N : Pair → Option Logged → Type 0 = λ p l. AllByRecursion (SideGood p c.up c.log l (Some h)) S in
              let D : Bool → Type 0 = λ b. CalmIn b h.work S in
              let sure = all_sure h.work x c.sides e (harm_settles (changes h.work) x.effect x.harm alive fit) calm in
              let later = on_call h.work (after_failed h.work) IsSure IsSure x c.sides e sure calm (λ s h. h) (λ s at before now. harm_sure (changes h.work) h.work x.effect s x.harm alive fit now) in
              record {
                flags = (v.up, v.none, v.frozen, v.alone);
                readers_up = g.readers_up;
                sides = λ p. subst (N p) (sym out) (on_call h.work (after_failed h.work) (G p) (G p) x c.sides e (goods p) calm (λ s good. good)
                    (λ s at sure good. good_of p c.up c.log l (Some h) (after_failed h.work x s) (side_hurt c.up v.up p c.log h s x at good)
                    (λ f. let W : Harm → Type 0 = λ z. CopyGood p (after_harm h.work z x.effect s).fresh (after_harm h.work z x.effect s).current (after_harm h.work z x.effect s).copy in
                    subst W (sym y) (on_copy p h.work s x.effect (changes h.work) refl fits (λ f. good.copied (and_right (not h.failed) (is_deleting h.work p s) f))))));
                fits = on_call h.work (after_failed h.work) F F x c.sides e v.fits calm (λ s f. f)
                    (λ s at sure f. side_fits_failed c.up h (Some h) s x at f (held_on h s x y at ok f.held));
                sure = λ down. absurd (true≢false (sym v.up ∙ down));
                calm = λ f. subst D (sym ok) (calm_sure h.work S later);
                readers = seen_go_on c.log c.sides S c.readers grow g.readers;
                logged = v.logged;
              }
        ] in
        go x.harm refl fit)
        g

    by : (o : Option Hold) → c.hold ≡ o → CoreGood (device_failed o c).core
    by None is = g
    by (Some h) is = failed_by h is (first_call h.work c.sides) refl

-- a read that fails
step_settles : (side cells : ℕ) (s : Side) (c : DeviceCall) → call_of (work.Step side cells) s ≡ Some c → settles c.effect ≡ false
step_settles side cells s c e = at s.progress e
  where
    copies : (o : Option Copied) → Calls.copy_call o ≡ Some c → settles c.effect ≡ false
    copies None e = absurd cc
    copies (Some x) e = let same : c ≡ Calls.call Ends (Copies x) = cc in ap (λ (y : DeviceCall). settles y.effect) same

    stepping : (o : Option ℕ) (budget : ℕ) → Calls.step_call o budget s ≡ Some c → settles c.effect ≡ false
    stepping None budget e = absurd cc
    stepping (Some n) budget e = copies (copy_next budget (drop n s.current)) e

    at : (t : Option ℕ) → call_from (work.Step side cells) t s ≡ Some c → settles c.effect ≡ false
    at None e = absurd cc
    at (Some t) e = stepping s.copy (cells - t) e

pub step_sure : (side cells : ℕ) (sides : List Side) → Calm (work.Step side cells) sides → AllByRecursion IsSure sides
step_sure side cells [] h = tt
step_sure side cells (s ∷ sides) h = go (call_of (work.Step side cells) s) refl h (λ h. step_sure side cells sides h)
  where
    go : (o : Option DeviceCall) → call_of (work.Step side cells) s ≡ o → CalmAt o s sides (Calm (work.Step side cells) sides)
        → (Calm (work.Step side cells) sides → AllByRecursion IsSure sides) → IsSure s × AllByRecursion IsSure sides
    go None e h later = (h.0, later h.1)
    go (Some c) e h later = (h.0 (step_settles side cells s c e), h.1)

head_settles : (copied : List Needle) (t : ℕ) (c : DeviceCall) → slice_get (Calls.finish_calls copied) t ≡ Some c → nat_le t (length (Calls.closing_calls copied)) ≡ true → settles c.effect ≡ false
head_settles [] zero c e h = let same : c ≡ Calls.call Ends Quiet = cc in ap (λ (y : DeviceCall). settles y.effect) same
head_settles [] (suc zero) c e h = let same : c ≡ Calls.call Ends Quiet = cc in ap (λ (y : DeviceCall). settles y.effect) same
head_settles [] (suc (suc zero)) c e h = let same : c ≡ Calls.call Freezes Quiet = cc in ap (λ (y : DeviceCall). settles y.effect) same
head_settles [] (suc (suc (suc t))) c e h = let small : suc (suc (suc t)) ≤ 2 = leb-true (suc (suc (suc t))) 2 h in absurd (omega arith)
head_settles (x ∷ copied) zero c e h = let same : c ≡ Calls.call Ends Quiet = cc in ap (λ (y : DeviceCall). settles y.effect) same
head_settles (x ∷ copied) (suc zero) c e h = let same : c ≡ Calls.call Ends Quiet = cc in ap (λ (y : DeviceCall). settles y.effect) same
head_settles (x ∷ copied) (suc (suc zero)) c e h = let same : c ≡ Calls.call Ends Quiet = cc in ap (λ (y : DeviceCall). settles y.effect) same
head_settles (x ∷ copied) (suc (suc (suc zero))) c e h = let same : c ≡ Calls.call Freezes Quiet = cc in ap (λ (y : DeviceCall). settles y.effect) same
head_settles (x ∷ copied) (suc (suc (suc (suc t)))) c e h = let small : suc (suc (suc (suc t))) ≤ 3 = leb-true (suc (suc (suc (suc t)))) 3 h in absurd (omega arith)

finish_settles : (side : ℕ) (s : Side) (t : Option ℕ) (c : DeviceCall) → call_from (work.Finish side) t s ≡ Some c → Transitions.is_before_head t s ≡ true → settles c.effect ≡ false
finish_settles side s None c e h = absurd cc
finish_settles side s (Some t) c e h = finishing s.copy e (and_parts (is_some s.copy) (nat_le t (length (Calls.closing_calls s.fresh))) h).0
  where
    small : nat_le t (length (Calls.closing_calls s.fresh)) ≡ true
    small = (and_parts (is_some s.copy) (nat_le t (length (Calls.closing_calls s.fresh))) h).1

    closing : (o : Option Copied) → Calls.closing_call o t s ≡ Some c → settles c.effect ≡ false
    closing None e = head_settles s.fresh t c e small
    closing (Some x) e = let same : c ≡ Calls.call Ends (Copies x) = cc in ap (λ (y : DeviceCall). settles y.effect) same

    finishing : (o : Option ℕ) → Calls.finish_call o t s ≡ Some c → is_some o ≡ true → settles c.effect ≡ false
    finishing None e f = absurd (false≢true f)
    finishing (Some n) e f = closing (copy_next (length s.current) (drop n s.current)) e

pub finish_sure : (side : ℕ) (sides : List Side) → Transitions.first_passes (work.Finish side) Transitions.before_head sides ≡ true → Calm (work.Finish side) sides → AllByRecursion IsSure sides
finish_sure side [] f h = tt
finish_sure side (s ∷ sides) f h = go (call_of (work.Finish side) s) refl f h (λ f h. finish_sure side sides f h)
  where
    go : (o : Option DeviceCall) → call_of (work.Finish side) s ≡ o → Transitions.first_side_passes o (Transitions.before_head s)
        (Transitions.first_passes (work.Finish side) Transitions.before_head sides) ≡ true → CalmAt o s sides (Calm (work.Finish side) sides)
        → (Transitions.first_passes (work.Finish side) Transitions.before_head sides ≡ true → Calm (work.Finish side) sides → AllByRecursion IsSure sides) → IsSure s × AllByRecursion IsSure sides
    go None e f h later = (h.0, later f h.1)
    go (Some c) e f h later = (h.0 (finish_settles side s s.progress c e f), h.1)

ended_copy_hurt : (p : Pair) (up : Bool) (log : List Logged) (l : Option Logged) (h : Hold) (s : Side) → SideHurt p up log l s → CopyGood p s.fresh s.current s.copy
    → SideGood p up log l (Transitions.failed_hold h) (Transitions.ended_copy s)
ended_copy_hurt p up log l h s g copied =
    cond_both (Sides.has_part s) (no_copy s) s (λ (t : Side). SideGood p up log l (Transitions.failed_hold h) t)
    (λ b. frozen_good p up log l h s g) (λ b. good_of p up log l (Transitions.failed_hold h) s g (λ f. copied))

read_ends : (c : Core) (h : Hold) → CoreGood c → Held c h → changes h.work ≡ false → AllByRecursion IsSure c.sides
    → CoreGood (record c { sides = map Transitions.ended_copy c.sides; hold = Transitions.failed_hold h })
read_ends c h g v still sure = record {
  flags = (v.up, v.none, (λ t. refl), (λ t f. cond_both h.published None (change_of h.tag h.work) (λ (o : Option Logged). o ≡ None) (λ b. refl) (λ b. no_change h.tag h.work still)));
  readers_up = g.readers_up;
  sides = λ p. all_map (λ s. SideGood p c.up c.log (change_in (Some h) c.pending) (Some h) s) (λ s. SideGood p c.up c.log (change_in (Some h) c.pending) (Transitions.failed_hold h) s) Transitions.ended_copy
      (λ s good. ended_copy_hurt p c.up c.log (change_in (Some h) c.pending) h s (hurt_of p c.up c.log (change_in (Some h) c.pending) (Some h) s good)
      (good.copied (and_right (not h.failed) (is_deleting h.work p s) (not_deleting h.work p s still)))) c.sides (v.sides p);
  fits = all_map (λ s. SideFits c.up (Some h) s) (λ s. SideFits c.up (Transitions.failed_hold h) s) Transitions.ended_copy
      (λ s f. cond_both (Sides.has_part s) (no_copy s) s (λ (t : Side). SideFits c.up (Transitions.failed_hold h) t) (λ b. fits_no_copy c.up h s (fits_failed c.up h (Some h) s f))
      (λ b. fits_failed c.up h (Some h) s f)) c.sides v.fits;
  sure = λ down. absurd (true≢false (sym v.up ∙ down));
  calm = λ f. all_map IsSure IsSure Transitions.ended_copy (λ s h. cond_both (Sides.has_part s) (no_copy s) s (λ (t : Side). IsSure t) (λ b. h) (λ b. h)) c.sides sure;
  readers = seen_go_on c.log c.sides (map Transitions.ended_copy c.sides) c.readers
      (grow_map Transitions.ended_copy (λ s. cond_both (Sides.has_part s) (no_copy s) s (λ (t : Side). Grows s t) (λ b. record { base = refl; shows = λ x o h. h }) (λ b. grows_same s)) c.sides) g.readers;
  logged = v.logged;
}

read_good : (c : Core) (h : Hold) → CoreGood c → Held c h → Calm h.work c.sides → (w : Work) → h.work ≡ w → Transitions.may_read w c.sides ≡ true → CoreGood (Transitions.read_harmed h w c)
read_good c h g v calm (work.Put pair photo) is f =
    freezes_good c h c.sides g v (grow_same c.sides)
    (λ p. keep (λ s. SideGood p c.up c.log (change_in (Some h) c.pending) (Some h) s) (SideHurt p c.up c.log (change_in (Some h) c.pending))
    (λ s good. hurt_of p c.up c.log (change_in (Some h) c.pending) (Some h) s good) c.sides (v.sides p))
    (keep (λ s. SideFits c.up (Some h) s) (λ s. SideFits c.up (Transitions.failed_hold h) s) (λ s f. fits_failed c.up h (Some h) s f) c.sides v.fits)
  where
    keep : (P Q : Side → Type 0) → ((s : Side) → P s → Q s) → (sides : List Side) → AllByRecursion P sides → AllByRecursion Q sides
    keep P Q k [] all = tt
    keep P Q k (s ∷ sides) all = (k s all.0, keep P Q k sides all.1)
read_good c h g v calm (work.Del q) is f = absurd (false≢true f)
read_good c h g v calm (work.Flush side) is f = absurd (false≢true f)
read_good c h g v calm (work.Start side) is f = absurd (false≢true f)
read_good c h g v calm (work.Step side cells) is f =
    let P : Work → Type 0 = λ w. Calm w c.sides in
    read_ends c h g v (ap changes is) (step_sure side cells c.sides (subst P is calm))
read_good c h g v calm (work.Finish side) is f =
    let P : Work → Type 0 = λ w. Calm w c.sides in
    read_ends c h g v (ap changes is) (finish_sure side c.sides f (subst P is calm))

pub thawed_of : (c : Core) (h : Hold) → Held c h → h.failed ≡ false → c.frozen ≡ false
thawed_of c h v ok = false_from_ne_true c.frozen (λ t. absurd (false≢true (sym ok ∙ v.frozen t)))

pub calm_of : (c : Core) (h : Hold) → Held c h → h.failed ≡ false → Calm h.work c.sides
calm_of c h v ok = let C : Bool → Type 0 = λ b. CalmIn b h.work c.sides in subst C ok (v.calm (thawed_of c h v ok))

pub read_failed_good : (c : Core) → CoreGood c → CoreGood (read_failed c.hold c).core
read_failed_good c g = by c.hold refl
  where
    by : (o : Option Hold) → c.hold ≡ o → CoreGood (read_failed o c).core
    by None is = g
    by (Some h) is =
        allowed_good (not h.failed && (not h.published && Transitions.may_read h.work c.sides)) (Transitions.read_harmed h h.work c) c
        (λ allowed.
        let first = and_parts (not h.failed) (not h.published && Transitions.may_read h.work c.sides) allowed in
        let second = and_parts (not h.published) (Transitions.may_read h.work c.sides) first.1 in
        let v = held c h g is in
        read_good c h g v (calm_of c h v (not-true h.failed first.0)) h.work refl second.1)
        g
