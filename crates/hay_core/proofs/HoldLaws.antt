-- What the beginning of a holding keeps of a volume, a publish, and the end.
use Rattle.std.proofs.Common.{◌≡◌, ℕ, zero, suc, ◌+◌, ◌-◌, ◌≤◌, Bool, true, false, not, ◌&&◌, ◌||◌, cond, min, List, [], ◌∷◌, ◌++◌, length, drop, map, Option, Some, None, refl}
use Rattle.std.proofs.Common.{sym, ap, ◌∙◌, append_assoc, inl, inr, subst, arith}
use Rattle.std.specs.Prelude.{is_some}
use Rattle.std.specs.List.{AllByRecursion}
use Rattle.std.proofs.lemmas.List.{append-nil, map-append, drop-drop}
use Rattle.std.proofs.lemmas.Bool.{cond_both, cond-true, cond-false, and_parts, cases_Bool, not-true, false≢true, true≢false, and_left, and_right, le-leb, not_from_true, or_cases, cases_lt}
use Rattle.hay_needle.specs.declared.needle.Pair.{Pair}
use Rattle.hay_needle.specs.declared.needle.Outcome.{Outcome}
use Rattle.hay_needle.specs.declared.needle.Outcome.TheVariants as outcome
use Rattle.hay_needle.specs.declared.needle.Needle.{Needle}
use Rattle.hay_needle.specs.declared.needle.Row.{Row}
use Rattle.hay_core.specs.declared.machine.Side.{Side}
use Rattle.hay_core.specs.declared.machine.Spot.{Spot}
use Rattle.hay_core.specs.declared.machine.Doubt.{Doubt}
use Rattle.hay_core.specs.declared.machine.Work.{Work}
use Rattle.hay_core.specs.declared.machine.Work.TheVariants as work
use Rattle.hay_core.specs.declared.entry.CoreTag.{CoreTag}
use Rattle.hay_core.specs.declared.entry.Entry.TheVariants as entry
use Rattle.hay_core.specs.declared.entry.Logged.{Logged}
use Rattle.hay_core.specs.declared.calls.DeviceCall.{DeviceCall}
use Rattle.hay_core.specs.declared.calls.Copied.{Copied}
use Rattle.hay_core.specs.declared.machine.Hold.{Hold}
use Rattle.hay_core.specs.Spots.{spots_of, spot_in}
use Rattle.hay_needle.specs.Tables.{pair_eq, look, look_after, rows_of}
use Rattle.hay_core.specs.Entries.{logged_row, rows_after}
use Rattle.hay_core.specs.Calls
use Rattle.hay_core.specs.Sides
use Rattle.hay_core.specs.Sides.{settle, made, broken, files_of, with_progress, next_progress, after_ok, after_failed, after_harm, no_copy}
use Rattle.hay_core.specs.Calls.{call_of, call_from, call_at, copy_next}
use Rattle.hay_core.specs.Transitions
use Rattle.hay_core.specs.Transitions.{Stepped, allowed, change, change_in, change_of, at_first, put_first, first_call, first_of_two, device_ok, device_failed, read_failed, publish}
use Rattle.hay_core.specs.Transitions.{end_hold, begin, look_up, stop, open_call, after_event, after_events}
use Rattle.hay_core.specs.declared.machine.Core.{Core}
use Rattle.hay_core.proofs.HarmLaws.{SideHurt, hurt_of, good_of, hurt_again}
use Rattle.hay_core.specs.Goodness.{CoreGood, HoldFlags, CalmIn, CalmHold, Shows, with_change, settled_change, DoubtGood, CopyGood, CopyFits, SideGood, SideFits, is_deleting, is_behind, IsSure}
use Rattle.hay_needle.specs.Copies.{CopiesAt}
use Rattle.hay_core.proofs.SpotLaws.{spots_show, spot_append}
use Rattle.hay_core.proofs.CopyNext.{some_passed}
use Rattle.hay_needle.proofs.CopyLaws.{Follows}
use Rattle.hay_needle.proofs.TableLaws.{rows_append, pair_same}
use Rattle.hay_core.proofs.CalmLaws.{changes, calm_sure, calm_none, none_left}
use Rattle.hay_core.proofs.SideLaws.{Grows, with_settled}
use Rattle.hay_core.proofs.CallLaws.{AllGrow, grow_map, seen_grow, seen_go_on, all_map, all_both, held, allowed_good, under_way, no_change, calm_of}

-- a holding that begins
pub settled_none : (b : Bool) (rows : List Row) → with_change (settled_change b None) rows ≡ rows
settled_none true rows = refl
settled_none false rows = refl

no_photo : (o : Outcome) → Sides.is_photo o ≡ false → o ≡ outcome.Nothing
no_photo outcome.Nothing f = refl
no_photo (outcome.Photo x) f = absurd (true≢false f)

left_out : (p : Pair) (tag : CoreTag) (w : Work) (j : ℕ) (s : Side) (rows : List Row) → Transitions.takes_part w j s ≡ false → ((q : Pair) → q ≡ p → look (rows_of s.current) q ≡ look rows q)
    → look (rows_of s.current) p ≡ look (with_change (change_of tag w) rows) p
left_out p tag (work.Put pair photo) j s rows f h = absurd (true≢false f)
left_out p tag (work.Del q) j s rows f h =
    let m : Logged = record { tag = tag; entry = entry.Del q } in
    let gone : look (rows_of s.current) q ≡ outcome.Nothing = no_photo (look (rows_of s.current) q) f in
    elim (cases_Bool (pair_eq q p)) [
      | inl t ↦
          let R : Pair → Type 0 = λ x. look (rows_of s.current) x ≡ outcome.Nothing in
          subst R (pair_same q p t) gone ∙ sym (with_settled p rows m ∙ cond-true (pair_eq q p) outcome.Nothing (look rows p) t)
      | inr f ↦ h p refl ∙ sym (with_settled p rows m ∙ cond-false (pair_eq q p) outcome.Nothing (look rows p) f)
    ]
left_out p tag (work.Flush side) j s rows f h = h p refl
left_out p tag (work.Start side) j s rows f h = h p refl
left_out p tag (work.Step side cells) j s rows f h = h p refl
left_out p tag (work.Finish side) j s rows f h = h p refl

begun_hurt : (p : Pair) (up : Bool) (log : List Logged) (tag : CoreTag) (w : Work) (j : ℕ) (s : Side) → look (rows_of s.current) p ≡ look (rows_after log s.base) p
    → DoubtGood p (change_of tag w) s.fresh s.current s.doubt
    → SideGood p up log None None s → (part : Bool) → Transitions.takes_part w j s ≡ part → SideHurt p up log (change_of tag w) (Transitions.begun_side part s)
begun_hurt p up log tag w j s table doubted g true is = record { tabled = table; mapped = g.mapped; opened = g.opened; doubted = doubted }
begun_hurt p up log tag w j s table doubted g false is = record {
  tabled = left_out p tag w j s (rows_after log s.base) is (λ q same. let R : Pair → Type 0 = λ x. look (rows_of s.current) x ≡ look (rows_after log s.base) x in subst R (sym same) table);
  mapped = g.mapped;
  opened = g.opened;
  doubted = doubted;
}

begun_good : (p : Pair) (up : Bool) (log : List Logged) (tag : CoreTag) (w : Work) (h : Hold) (j : ℕ) (s : Side) → IsSure s → SideGood p up log None None s
    → (part : Bool) → Transitions.takes_part w j s ≡ part → SideGood p up log (change_of tag w) (Some h) (Transitions.begun_side part s)
begun_good p up log tag w h j s sure g part is =
    let table : look (rows_of s.current) p ≡ look (rows_after log s.base) p = g.tabled ∙ ap (λ (rows : List Row). look rows p) (settled_none s.settled (rows_after log s.base)) in
    let D : Doubt → Type 0 = λ d. DoubtGood p (change_of tag w) s.fresh s.current d in
    good_of p up log (change_of tag w) (Some h) (Transitions.begun_side part s) (begun_hurt p up log tag w j s table (subst D (sym sure) tt) g part is) (λ f. g.copied refl)

begun_fits : (up : Bool) (w : Work) (tag : CoreTag) (s : Side) → SideFits up None s → (part : Bool)
    → SideFits up (Some (record { tag = tag; work = w; failed = false; published = false })) (Transitions.begun_side part s)
begun_fits up w tag s f true = record {
  is_open = f.is_open;
  rows = f.rows;
  most = f.most;
  copy = f.copy;
  held = λ ok. record { settled = λ b. absurd (false≢true (sym (first w) ∙ b)); all_made = λ out. absurd (false≢true out) };
}
  where
    first : (w : Work) → is_behind w (Some 0) ≡ false
    first (work.Put pair photo) = refl
    first (work.Del q) = refl
    first (work.Flush side) = refl
    first (work.Start side) = refl
    first (work.Step side cells) = refl
    first (work.Finish side) = refl
begun_fits up w tag s f false = record { is_open = f.is_open; rows = f.rows; most = f.most; copy = f.copy; held = λ ok. record { settled = λ b. refl; all_made = λ out. absurd (false≢true out) } }

begun_goods : (p : Pair) (up : Bool) (log : List Logged) (tag : CoreTag) (w : Work) (h : Hold) (j : ℕ) (sides : List Side) → AllByRecursion IsSure sides
    → AllByRecursion (SideGood p up log None None) sides
    → AllByRecursion (SideGood p up log (change_of tag w) (Some h)) (Transitions.begun_sides w j sides)
begun_goods p up log tag w h j [] sure all = tt
begun_goods p up log tag w h j (s ∷ sides) sure all = (begun_good p up log tag w h j s sure.0 all.0 (Transitions.takes_part w j s) refl, begun_goods p up log tag w h (j + 1) sides sure.1 all.1)

begun_fit : (up : Bool) (w : Work) (tag : CoreTag) (j : ℕ) (sides : List Side) → AllByRecursion (SideFits up None) sides
    → AllByRecursion (SideFits up (Some (record { tag = tag; work = w; failed = false; published = false }))) (Transitions.begun_sides w j sides)
begun_fit up w tag j [] all = tt
begun_fit up w tag j (s ∷ sides) all = (begun_fits up w tag s all.0 (Transitions.takes_part w j s), begun_fit up w tag (j + 1) sides all.1)

begun_sure : (w : Work) (j : ℕ) (sides : List Side) → AllByRecursion IsSure sides → AllByRecursion IsSure (Transitions.begun_sides w j sides)
begun_sure w j [] all = tt
begun_sure w j (s ∷ sides) all = (all.0, begun_sure w (j + 1) sides all.1)

begun_grow : (w : Work) (j : ℕ) (sides : List Side) → AllGrow sides (Transitions.begun_sides w j sides)
begun_grow w j [] = tt
begun_grow w j (s ∷ sides) = (record { base = refl; shows = λ x o h. h }, begun_grow w (j + 1) sides)

none_of : {A : Type 0} (o : Option A) → not (is_some o) ≡ true → o ≡ None
none_of None f = refl
none_of (Some x) f = absurd (false≢true f)

pub begin_good : (tag : CoreTag) (w : Work) (c : Core) → CoreGood c → CoreGood (begin tag w c).core
begin_good tag w c g =
    let h : Hold = record { tag = tag; work = w; failed = false; published = false } in
    allowed_good (c.up && (not (is_some c.hold) && (not c.frozen && Transitions.can_begin w c.sides))) (record c { hold = Some h; sides = Transitions.begun_sides w 0 c.sides }) c
    (λ allowed.
    let a = and_parts c.up (not (is_some c.hold) && (not c.frozen && Transitions.can_begin w c.sides)) allowed in
    let b = and_parts (not (is_some c.hold)) (not c.frozen && Transitions.can_begin w c.sides) a.1 in
    let d = and_parts (not c.frozen) (Transitions.can_begin w c.sides) b.1 in
    let free : c.hold ≡ None = none_of c.hold b.0 in
    let thawed : c.frozen ≡ false = not-true c.frozen d.0 in
    let F : Option Hold → Type 0 = λ o. HoldFlags o c.up c.frozen c.pending in
    let none : c.pending ≡ None = (subst F free g.flags) a.0 thawed in
    let S : Pair → Option Hold → Type 0 = λ p o. AllByRecursion (SideGood p c.up c.log (change_in o c.pending) o) c.sides in
    let U : Pair → Option Logged → Type 0 = λ p l. AllByRecursion (SideGood p c.up c.log l None) c.sides in
    let T : Option Hold → Type 0 = λ o. AllByRecursion (SideFits c.up o) c.sides in
    let V : Option Hold → Type 0 = λ o. CalmHold o c.sides in
    let sure : AllByRecursion IsSure c.sides = subst V free (g.calm thawed) in
    record {
      flags = (a.0, none, (λ t. absurd (false≢true (sym thawed ∙ t))), (λ t f. absurd (false≢true t)));
      readers_up = g.readers_up;
      sides = λ p. begun_goods p c.up c.log tag w h 0 c.sides sure (subst (U p) none (subst (S p) free (g.sides p)));
      fits = begun_fit c.up w tag 0 c.sides (subst T free g.fits);
      sure = λ down. absurd (true≢false (sym a.0 ∙ down));
      calm = λ f. calm_sure w (Transitions.begun_sides w 0 c.sides) (begun_sure w 0 c.sides sure);
      readers = seen_go_on c.log c.sides (Transitions.begun_sides w 0 c.sides) c.readers (begun_grow w 0 c.sides) g.readers;
      logged = λ out. absurd (false≢true out);
    })
    g

-- a change that is published
copy_none : (o : Option Copied) → Calls.copy_call o ≡ None → o ≡ None
copy_none None e = refl
copy_none (Some x) e = absurd cc

behind_none : (w : Work) (s : Side) (t : Option ℕ) → changes w ≡ true → call_from w t s ≡ None → is_behind w t ≡ true
behind_none (work.Put pair photo) s None f e = refl
behind_none (work.Put pair photo) s (Some zero) f e = absurd cc
behind_none (work.Put pair photo) s (Some (suc zero)) f e = absurd cc
behind_none (work.Put pair photo) s (Some (suc (suc zero))) f e = absurd cc
behind_none (work.Put pair photo) s (Some (suc (suc (suc zero)))) f e = absurd cc
behind_none (work.Put pair photo) s (Some (suc (suc (suc (suc k))))) f e = le-leb 4 (suc (suc (suc (suc k)))) (omega arith)
behind_none (work.Del q) s None f e = refl
behind_none (work.Del q) s (Some zero) f e = absurd cc
behind_none (work.Del q) s (Some (suc zero)) f e = absurd cc
behind_none (work.Del q) s (Some (suc (suc k))) f e = le-leb 2 (suc (suc k)) (omega arith)
behind_none (work.Flush side) s t f e = absurd (false≢true f)
behind_none (work.Start side) s t f e = absurd (false≢true f)
behind_none (work.Step side cells) s t f e = absurd (false≢true f)
behind_none (work.Finish side) s t f e = absurd (false≢true f)

-- the next call does not look at the map
call_spots : (w : Work) (s : Side) (spots : List Rattle.hay_core.specs.declared.machine.Mapped.Mapped) (t : Option ℕ) → call_from w t (record s { spots = spots }) ≡ call_from w t s
call_spots w s spots None = refl
call_spots (work.Put pair photo) s spots (Some t) = refl
call_spots (work.Del q) s spots (Some t) = refl
call_spots (work.Flush side) s spots (Some t) = refl
call_spots (work.Start side) s spots (Some t) = refl
call_spots (work.Step side cells) s spots (Some t) = stepping s.copy
  where
    stepping : (o : Option ℕ) → Calls.step_call o (cells - t) (record s { spots = spots }) ≡ Calls.step_call o (cells - t) s
    stepping None = refl
    stepping (Some n) = refl
call_spots (work.Finish side) s spots (Some t) = finishing s.copy
  where
    closing : (o : Option Copied) → Calls.closing_call o t (record s { spots = spots }) ≡ Calls.closing_call o t s
    closing None = refl
    closing (Some x) = refl

    finishing : (o : Option ℕ) → Calls.finish_call o t (record s { spots = spots }) ≡ Calls.finish_call o t s
    finishing None = refl
    finishing (Some n) = closing (copy_next (length s.current) (drop n s.current))

-- the table after the log with the change is the table with the change
pub logged : (log : List Logged) (base : List Row) (l : Option Logged) → rows_after (log ++ Transitions.entry_list l) base ≡ with_change l (rows_after log base)
logged log base None = ap (λ (log : List Logged). rows_after log base) (append-nil log)
logged log base (Some m) =
    ap (λ (rows : List Row). base ++ rows) (map-append logged_row log (m ∷ [])) ∙ sym (append_assoc base (map logged_row log) (logged_row m ∷ []))

told_spots : (p : Pair) (log : List Logged) (tag : CoreTag) (w : Work) (s : Side) → s.is_open ≡ true
    → look (rows_of s.current) p ≡ look (rows_after (log ++ Transitions.entry_list (change_of tag w)) s.base) p
    → Shows s (spot_in s.spots p) (look (rows_after log s.base) p) → Shows s (spot_in (Transitions.publish_pair w s).spots p) (look (rows_after (log ++ Transitions.entry_list (change_of tag w)) s.base) p)
told_spots p log tag (work.Put pair photo) s is now h =
    let m : Logged = record { tag = tag; entry = entry.Put pair photo.cookie photo.bytes } in
    let new = log ++ m ∷ [] in
    let x : Spot = spot_in (spots_of (length s.past) 0 s.current) pair in
    let P : Spot → Type 0 = λ x. Shows s x (look (rows_after new s.base) p) in
    let Q : Outcome → Type 0 = λ o. Shows s (spot_in s.spots p) o in
    let R : Pair → Type 0 = λ q. Shows s (spot_in (spots_of (length s.past) 0 s.current) q) (look (rows_of s.current) p) in
    let S : Outcome → Type 0 = λ o. Shows s x o in
    let rows : look (rows_after new s.base) p ≡ cond (pair_eq pair p) (logged_row m).outcome (look (rows_after log s.base) p) =
    ap (λ (rows : List Row). look rows p) (logged log s.base (Some m)) ∙ with_settled p (rows_after log s.base) m in
    subst P (sym (spot_append s.spots (record { pair = pair; spot = x } ∷ []) p Rattle.hay_core.specs.declared.machine.Spot.TheVariants.Absent))
    (elim (cases_Bool (pair_eq pair p)) [
      | inl t ↦ subst P (sym (cond-true (pair_eq pair p) x (spot_in s.spots p) t)) (subst S now (subst R (sym (pair_same pair p t)) (spots_show s.past s.current p)))
      | inr f ↦ subst P (sym (cond-false (pair_eq pair p) x (spot_in s.spots p) f)) (subst Q (sym (rows ∙ cond-false (pair_eq pair p) (logged_row m).outcome (look (rows_after log s.base) p) f)) h)
    ])
told_spots p log tag (work.Del q) s is now h =
    let m : Logged = record { tag = tag; entry = entry.Del q } in
    let new = log ++ m ∷ [] in
    let P : Spot → Type 0 = λ x. Shows s x (look (rows_after new s.base) p) in
    let Q : Outcome → Type 0 = λ o. Shows s (spot_in s.spots p) o in
    let gone : Spot = Rattle.hay_core.specs.declared.machine.Spot.TheVariants.Gone in
    let rows : look (rows_after new s.base) p ≡ cond (pair_eq q p) outcome.Nothing (look (rows_after log s.base) p) =
    ap (λ (rows : List Row). look rows p) (logged log s.base (Some m)) ∙ with_settled p (rows_after log s.base) m in
    subst P (sym (spot_append s.spots (record { pair = q; spot = gone } ∷ []) p Rattle.hay_core.specs.declared.machine.Spot.TheVariants.Absent))
    (elim (cases_Bool (pair_eq q p)) [
      | inl t ↦ subst P (sym (cond-true (pair_eq q p) gone (spot_in s.spots p) t)) (rows ∙ cond-true (pair_eq q p) outcome.Nothing (look (rows_after log s.base) p) t)
      | inr f ↦ subst P (sym (cond-false (pair_eq q p) gone (spot_in s.spots p) f)) (subst Q (sym (rows ∙ cond-false (pair_eq q p) outcome.Nothing (look (rows_after log s.base) p) f)) h)
    ])
told_spots p log tag (work.Flush side) s is now h = let Q : List Logged → Type 0 = λ log. Shows s (spot_in s.spots p) (look (rows_after log s.base) p) in subst Q (sym (append-nil log)) h
told_spots p log tag (work.Start side) s is now h = let Q : List Logged → Type 0 = λ log. Shows s (spot_in s.spots p) (look (rows_after log s.base) p) in subst Q (sym (append-nil log)) h
told_spots p log tag (work.Step side cells) s is now h = let Q : List Logged → Type 0 = λ log. Shows s (spot_in s.spots p) (look (rows_after log s.base) p) in subst Q (sym (append-nil log)) h
told_spots p log tag (work.Finish side) s is now h =
    let Q : List Logged → Type 0 = λ log. Shows s (spot_in s.spots p) (look (rows_after log s.base) p) in
    let S : Outcome → Type 0 = λ o. Shows s (spot_in (spots_of (length s.past) 0 s.current) p) o in
    cond_both (Sides.has_part s) (Sides.map_now s) s (λ (t : Side). Shows s (spot_in t.spots p) (look (rows_after (log ++ []) s.base) p))
    (λ b. subst S now (spots_show s.past s.current p)) (λ b. subst Q (sym (append-nil log)) h)

-- what a publish leaves of a side: its map alone
published_as : (w : Work) (s : Side) → Transitions.publish_pair w s ≡ record s { spots = (Transitions.publish_pair w s).spots }
published_as (work.Put pair photo) s = refl
published_as (work.Del q) s = refl
published_as (work.Flush side) s = refl
published_as (work.Start side) s = refl
published_as (work.Step side cells) s = refl
published_as (work.Finish side) s = cond_both (Sides.has_part s) (Sides.map_now s) s (λ (t : Side). t ≡ record s { spots = t.spots }) (λ b. refl) (λ b. refl)

none_deleting : (w : Work) (p : Pair) (s : Side) → call_of w s ≡ None → is_deleting w p s ≡ false
none_deleting (work.Put pair photo) p s e = refl
none_deleting (work.Del q) p s e = and_right (pair_eq q p) (is_some (call_of (work.Del q) s)) (ap (λ (o : Option DeviceCall). is_some o) e)
none_deleting (work.Flush side) p s e = refl
none_deleting (work.Start side) p s e = refl
none_deleting (work.Step side cells) p s e = refl
none_deleting (work.Finish side) p s e = refl

published_good : (p : Pair) (up : Bool) → up ≡ true → (log : List Logged) (h k : Hold) → h.failed ≡ false → (s : Side) → call_of h.work s ≡ None → IsSure s → SideFits up (Some h) s
    → SideGood p up log (change_of h.tag h.work) (Some h) s
    → SideGood p up (log ++ Transitions.entry_list (change_of h.tag h.work)) None (Some k) (record s { spots = (Transitions.publish_pair h.work s).spots })
published_good p up is_up log h k ok s none sure fits g =
    let l = change_of h.tag h.work in
    let new = log ++ Transitions.entry_list l in
    let settled : with_change (settled_change s.settled l) (rows_after log s.base) ≡ with_change l (rows_after log s.base) =
    elim (cases_Bool (changes h.work)) [
      | inl t ↦ let b : s.settled ≡ true = (fits.held ok).settled (behind_none h.work s s.progress t none) in ap (λ (b : Bool). with_change (settled_change b l) (rows_after log s.base)) b
      | inr f ↦
          let P : Option Logged → Type 0 = λ l. with_change (settled_change s.settled l) (rows_after log s.base) ≡ with_change l (rows_after log s.base) in
          subst P (sym (no_change h.tag h.work f)) (settled_none s.settled (rows_after log s.base))
    ] in
    let now : look (rows_of s.current) p ≡ look (rows_after new s.base) p = g.tabled ∙ ap (λ (rows : List Row). look rows p) (settled ∙ sym (logged log s.base l)) in
    let open_now : s.is_open ≡ true = fits.is_open is_up in
    let old : Bool → Type 0 = λ b. Shows s (spot_in s.spots p) (look (rows_after (cond b log []) s.base) p) in
    let fresh : Bool → Type 0 = λ b. Shows s (spot_in (Transitions.publish_pair h.work s).spots p) (look (rows_after (cond b new []) s.base) p) in
    record {
      tabled = now ∙ ap (λ (rows : List Row). look rows p) (sym (settled_none s.settled (rows_after new s.base)));
      mapped = λ is. subst fresh (sym is_up) (told_spots p log h.tag h.work s is now (subst old is_up (g.mapped is)));
      opened = λ down. absurd (true≢false (sym is_up ∙ down));
      doubted = let D : Doubt → Type 0 = λ d. DoubtGood p None s.fresh s.current d in subst D (sym sure) tt;
      copied = λ f. g.copied (and_right (not h.failed) (is_deleting h.work p s) (none_deleting h.work p s none));
    }

published_fits : (up : Bool) (h k : Hold) → k.work ≡ h.work → h.failed ≡ false → (s : Side) → call_of h.work s ≡ None → SideFits up (Some h) s
    → SideFits up (Some k) (record s { spots = (Transitions.publish_pair h.work s).spots })
published_fits up h k same ok s none f =
    let t : Side = record s { spots = (Transitions.publish_pair h.work s).spots } in
    let P : Work → Type 0 = λ w. is_behind w s.progress ≡ true → s.settled ≡ true in
    let Q : Work → Type 0 = λ w. call_of w t ≡ None in
    record {
      is_open = f.is_open;
      rows = f.rows;
      most = f.most;
      copy = f.copy;
      held = λ failed. record { settled = subst P (sym same) (f.held ok).settled; all_made = λ out. subst Q (sym same) (call_spots h.work s (Transitions.publish_pair h.work s).spots s.progress ∙ none) };
    }

publish_grows : (w : Work) (s : Side) → Grows s (Transitions.publish_pair w s)
publish_grows w s = let P : Side → Type 0 = λ t. Grows s t in subst P (sym (published_as w s)) (record { base = refl; shows = λ x o h. h })

pub publish_good : (c : Core) → CoreGood c → CoreGood (publish c.hold c).core
publish_good c g = by c.hold refl
  where
    by : (o : Option Hold) → c.hold ≡ o → CoreGood (publish o c).core
    by None is = g
    by (Some h) is =
        let k : Hold = record h { published = true } in
        let l : Option Logged = change_of h.tag h.work in
        let S : List Side = map (Transitions.publish_pair h.work) c.sides in
        allowed_good (not h.failed && (not h.published && (Transitions.publishes h.work && not (is_some (first_call h.work c.sides)))))
        (record c { log = c.log ++ Transitions.entry_list l; sides = S; hold = Some k }) c
        (λ allowed.
        let a = and_parts (not h.failed) (not h.published && (Transitions.publishes h.work && not (is_some (first_call h.work c.sides)))) allowed in
        let b = and_parts (not h.published) (Transitions.publishes h.work && not (is_some (first_call h.work c.sides))) a.1 in
        let d = and_parts (Transitions.publishes h.work) (not (is_some (first_call h.work c.sides))) b.1 in
        let v = held c h g is in
        let ok = not-true h.failed a.0 in
        let out = under_way h c.pending (not-true h.published b.0) in
        let none = none_left h.work c.sides (none_of (first_call h.work c.sides) d.1) in
        let sure = calm_none h.work c.sides none (calm_of c h v ok) in
        let L : Pair → Option Logged → Type 0 = λ p l. AllByRecursion (SideGood p c.up c.log l (Some h)) c.sides in
        let N : Side → Type 0 = λ s. call_of h.work s ≡ None in
        let F : Side → Type 0 = λ s. SideFits c.up (Some h) s in
        let three : AllByRecursion (λ s. N s × (IsSure s × F s)) c.sides = all_both N (λ s. IsSure s × F s) c.sides none (all_both IsSure F c.sides sure v.fits) in
        let D : Bool → Type 0 = λ b. CalmIn b h.work S in
        record {
          flags = (v.up, v.none, v.frozen, λ t f. refl);
          readers_up = g.readers_up;
          sides = λ p.
              let G : Side → Type 0 = λ s. SideGood p c.up c.log l (Some h) s in
              let H : Side → Type 0 = λ s. SideGood p c.up (c.log ++ Transitions.entry_list l) None (Some k) s in
              all_map (λ s. (N s × (IsSure s × F s)) × G s) H (Transitions.publish_pair h.work)
              (λ s all. subst H (sym (published_as h.work s)) (published_good p c.up v.up c.log h k ok s all.0.0 all.0.1.0 all.0.1.1 all.1))
              c.sides (all_both (λ s. N s × (IsSure s × F s)) G c.sides three (subst (L p) out (v.sides p)));
          fits =
              let T : Side → Type 0 = λ s. SideFits c.up (Some k) s in
              all_map (λ s. N s × (IsSure s × F s)) T (Transitions.publish_pair h.work) (λ s all. subst T (sym (published_as h.work s)) (published_fits c.up h k refl ok s all.0 all.1.1)) c.sides three;
          sure = λ down. absurd (true≢false (sym v.up ∙ down));
          calm = λ f. subst D (sym ok) (calm_sure h.work S
              (all_map IsSure IsSure (Transitions.publish_pair h.work) (λ s h2. subst IsSure (sym (published_as h.work s)) h2) c.sides sure));
          readers = seen_grow c.log (Transitions.entry_list l) c.sides S c.readers (grow_map (Transitions.publish_pair h.work) (publish_grows h.work) c.sides) g.readers;
          logged = λ out. (c.log, refl);
        })
        g

-- the end of a holding
drop_all : (a : ℕ) (xs : List Needle) → length xs ≤ a → drop a xs ≡ []
drop_all zero [] h = refl
drop_all zero (x ∷ xs) h = absurd (omega arith)
drop_all (suc a) [] h = refl
drop_all (suc a) (x ∷ xs) h = drop_all a xs (omega arith)

drop_min : (a : ℕ) (xs : List Needle) → drop (min a (length xs)) xs ≡ drop a xs
drop_min a xs =
    elim (cases_lt a (length xs)) [
      | inl small ↦ let e : min a (length xs) ≡ a = omega arith in ap (λ k. drop k xs) e
      | inr large ↦ let e : min a (length xs) ≡ length xs = omega arith in ap (λ k. drop k xs) e ∙ drop_all (length xs) xs (omega arith) ∙ sym (drop_all a xs large)
    ]

step_end : (p : Pair) (fresh current : List Needle) (n budget : ℕ) → copy_next budget (drop n current) ≡ None → CopiesAt p fresh current n
    → CopiesAt p fresh current (min (n + budget) (length current))
step_end p fresh current n budget e h =
    let follows : Follows p (drop n current) (look (rows_of fresh) p) (look (rows_of current) p) = (sym (rows_append fresh (drop n current) p outcome.Nothing) ∙ h.table, h.gone) in
    let passed = some_passed budget (drop n current) p (look (rows_of fresh) p) (look (rows_of current) p) e follows in
    let same : drop (min (n + budget) (length current)) current ≡ drop budget (drop n current) = drop_min (n + budget) current ∙ sym (drop-drop budget n current) in
    record {
      table = rows_append fresh (drop (min (n + budget) (length current)) current) p outcome.Nothing
          ∙ ap (λ (cs : List Needle). look_after (rows_of cs) p (look (rows_of fresh) p)) same ∙ passed.0;
      gone = h.gone;
    }

ended_copied : (p : Pair) (w : Work) (s : Side) → call_of w s ≡ None → CopyGood p s.fresh s.current s.copy → CopyGood p s.fresh s.current (Sides.passed_at_end w s)
ended_copied p (work.Put pair photo) s e h = h
ended_copied p (work.Del q) s e h = h
ended_copied p (work.Flush side) s e h = h
ended_copied p (work.Start side) s e h = h
ended_copied p (work.Finish side) s e h = h
ended_copied p (work.Step side cells) s e h = at s.progress s.copy e h
  where
    at : (t o : Option ℕ) → Calls.call_from (work.Step side cells) t (record s { copy = o }) ≡ None → CopyGood p s.fresh s.current o
        → CopyGood p s.fresh s.current (Sides.passed_by t o cells (length s.current))
    at None o e h = h
    at (Some t) None e h = tt
    at (Some t) (Some n) e h = step_end p s.fresh s.current n (cells - t) (copy_none (copy_next (cells - t) (drop n s.current)) e) h

passed_fit : (t o : Option ℕ) (cells all : ℕ) → CopyFits all o → CopyFits all (Sides.passed_by t o cells all)
passed_fit None o cells all h = h
passed_fit (Some t) None cells all h = tt
passed_fit (Some t) (Some n) cells all h = omega arith

ended_fit : (w : Work) (s : Side) → CopyFits (length s.current) s.copy → CopyFits (length s.current) (Sides.passed_at_end w s)
ended_fit (work.Put pair photo) s h = h
ended_fit (work.Del q) s h = h
ended_fit (work.Flush side) s h = h
ended_fit (work.Start side) s h = h
ended_fit (work.Finish side) s h = h
ended_fit (work.Step side cells) s h = passed_fit s.progress s.copy cells (length s.current) h

unpublished : (h : Hold) (pending : Option Logged) → (h.published || not (Transitions.publishes h.work)) ≡ true → change_in (Some h) pending ≡ None
unpublished h pending f =
    elim (or_cases h.published (not (Transitions.publishes h.work)) f) [
      | inl t ↦ cond-true h.published None (change_of h.tag h.work) t
      | inr n ↦ cond_both h.published None (change_of h.tag h.work) (λ (o : Option Logged). o ≡ None) (λ b. refl) (λ b. no_change h.tag h.work (only h.work (not-true (Transitions.publishes h.work) n)))
    ]
  where
    only : (w : Work) → Transitions.publishes w ≡ false → changes w ≡ false
    only (work.Put pair photo) f = absurd (true≢false f)
    only (work.Del q) f = absurd (true≢false f)
    only (work.Flush side) f = refl
    only (work.Start side) f = refl
    only (work.Step side cells) f = refl
    only (work.Finish side) f = refl

-- a side at the end of a holding, failed or not
end_side : (w : Work) (b : Bool) (s : Side) → (P : Option ℕ → Type 0) → (b ≡ true → P s.copy) → (b ≡ false → P (Sides.passed_at_end w s)) → P (cond b s.copy (Sides.passed_at_end w s))
end_side w b s P x y = cond_both b s.copy (Sides.passed_at_end w s) P x y

pub end_hold_good : (c : Core) → CoreGood c → CoreGood (end_hold c.hold c).core
end_hold_good c g = by c.hold refl
  where
    by : (o : Option Hold) → c.hold ≡ o → CoreGood (end_hold o c).core
    by None is = g
    by (Some h) is =
        let test = h.failed || (not (is_some (first_call h.work c.sides)) && (h.published || not (Transitions.publishes h.work))) in
        let S : List Side = map (Sides.ended h.work h.failed) c.sides in
        let l : Option Logged = change_in (Some h) c.pending in
        allowed_good test (record c { sides = S; hold = None; pending = l }) c
        (λ allowed.
        let v = held c h g is in
        let rest : h.failed ≡ false → (not (is_some (first_call h.work c.sides)) ≡ true) × ((h.published || not (Transitions.publishes h.work)) ≡ true) = λ ok.
        and_parts (not (is_some (first_call h.work c.sides))) (h.published || not (Transitions.publishes h.work))
        (sym (ap (λ (b : Bool). b || (not (is_some (first_call h.work c.sides)) && (h.published || not (Transitions.publishes h.work)))) ok) ∙ allowed) in
        let none : h.failed ≡ false → AllByRecursion (λ s. call_of h.work s ≡ None) c.sides = λ ok. none_left h.work c.sides (none_of (first_call h.work c.sides) (rest ok).0) in
        let sure : c.frozen ≡ false → AllByRecursion IsSure c.sides = λ f.
        elim (cases_Bool h.failed) [
          | inl t ↦ let C : Bool → Type 0 = λ b. CalmIn b h.work c.sides in subst C t (v.calm f)
          | inr n ↦ calm_none h.work c.sides (none n) (calm_of c h v n)
        ] in
        let N : Side → Type 0 = λ s. h.failed ≡ false → call_of h.work s ≡ None in
        let none_all : AllByRecursion N c.sides = elim (cases_Bool h.failed) [
          | inl t ↦ always N (λ s ok. absurd (true≢false (sym t ∙ ok))) c.sides
          | inr n ↦ weaken (λ s. call_of h.work s ≡ None) N (λ s e ok. e) c.sides (none n)
        ] in
        record {
          flags = λ up f. elim (cases_Bool h.failed) [ inl t ↦ v.alone t f | inr n ↦ unpublished h c.pending (rest n).1 ];
          readers_up = g.readers_up;
          sides = λ p.
              let G : Side → Type 0 = λ s. SideGood p c.up c.log l (Some h) s in
              let H : Side → Type 0 = λ s. SideGood p c.up c.log l None s in
              all_map (λ s. N s × G s) H (Sides.ended h.work h.failed)
              (λ s both. good_of p c.up c.log l None (Sides.ended h.work h.failed s)
              (hurt_again p c.up c.log l s (cond h.failed s.copy (Sides.passed_at_end h.work s)) None (hurt_of p c.up c.log l (Some h) s both.1))
              (λ z. end_side h.work h.failed s (λ o. CopyGood p s.fresh s.current o)
              (λ t. both.1.copied (and_left (not h.failed) (is_deleting h.work p s) (not_from_true h.failed t)))
              (λ n. ended_copied p h.work s (both.0 n) (both.1.copied (and_right (not h.failed) (is_deleting h.work p s) (none_deleting h.work p s (both.0 n)))))))
              c.sides (all_both N G c.sides none_all (v.sides p));
          fits = all_map (λ s. SideFits c.up (Some h) s) (λ s. SideFits c.up None s) (Sides.ended h.work h.failed)
              (λ s f. record {
                is_open = f.is_open;
                rows = f.rows;
                most = f.most;
                held = tt;
                copy = end_side h.work h.failed s (λ o. CopyFits (length s.current) o) (λ t. f.copy) (λ n. ended_fit h.work s f.copy);
              }) c.sides v.fits;
          sure = λ down. absurd (true≢false (sym v.up ∙ down));
          calm = λ f. all_map IsSure IsSure (Sides.ended h.work h.failed) (λ s h2. h2) c.sides (sure f);
          readers = seen_go_on c.log c.sides S c.readers (grow_map (Sides.ended h.work h.failed) (λ s. record { base = refl; shows = λ x o h. h }) c.sides) g.readers;
          logged = tt;
        })
        g
      where
        always : (P : Side → Type 0) → ((s : Side) → P s) → (sides : List Side) → AllByRecursion P sides
        always P h [] = tt
        always P h (s ∷ sides) = (h s, always P h sides)

        weaken : (P Q : Side → Type 0) → ((s : Side) → P s → Q s) → (sides : List Side) → AllByRecursion P sides → AllByRecursion Q sides
        weaken P Q h [] all = tt
        weaken P Q h (s ∷ sides) all = (h s all.0, weaken P Q h sides all.1)
