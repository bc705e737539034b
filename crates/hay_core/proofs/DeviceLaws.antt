-- What a device call, made or failed, keeps of a side and of all sides.
use Rattle.std.proofs.Common.{◌≡◌, ℕ, zero, suc, ◌≤◌, Bool, true, false, not, ◌&&◌, cond, List, [], ◌∷◌, ◌++◌, length, drop, Option, Some, None, refl, sym, ap, ◌∙◌, length-append}
use Rattle.std.proofs.Common.{length-drop, inl, inr, subst, arith}
use Rattle.std.specs.Prelude.{slice_get, is_some}
use Rattle.std.proofs.lemmas.Bool.{cond_both, cond-true, cond-false, cases_Bool, false≢true, true≢false, and_left, and_right, le-leb}
use Rattle.hay_needle.specs.declared.needle.Pair.{Pair}
use Rattle.hay_needle.specs.declared.needle.Outcome.TheVariants as outcome
use Rattle.hay_needle.specs.declared.needle.Needle.{Needle}
use Rattle.hay_needle.specs.declared.needle.Row.{Row}
use Rattle.hay_core.specs.declared.machine.Side.{Side}
use Rattle.hay_core.specs.declared.machine.Doubt.{Doubt}
use Rattle.hay_core.specs.declared.machine.Doubt.TheVariants as doubt
use Rattle.hay_core.specs.declared.machine.Work.{Work}
use Rattle.hay_core.specs.declared.machine.Work.TheVariants as work
use Rattle.hay_core.specs.declared.entry.CoreTag.{CoreTag}
use Rattle.hay_core.specs.declared.entry.Entry.TheVariants as entry
use Rattle.hay_core.specs.declared.entry.Logged.{Logged}
use Rattle.hay_core.specs.declared.calls.Effect.{Effect}
use Rattle.hay_core.specs.declared.calls.Effect.TheVariants.{Quiet, Doubts, Settles, MarksRows, SettlesRows, Repeats, Makes, Copies}
use Rattle.hay_core.specs.declared.calls.Harm.TheVariants.{Freezes, GoesOn}
use Rattle.hay_core.specs.declared.calls.DeviceCall.{DeviceCall}
use Rattle.hay_core.specs.declared.machine.Hold.{Hold}
use Rattle.hay_needle.specs.Tables.{pair_eq, look, rows_of, lacks}
use Rattle.hay_core.specs.Spots.{spot_in}
use Rattle.hay_core.specs.Entries.{logged_row, rows_after}
use Rattle.hay_core.specs.Calls
use Rattle.hay_core.specs.Sides
use Rattle.hay_core.specs.Sides.{settle, made, broken, files_of, with_progress, next_progress, after_ok, after_failed, after_harm, no_copy}
use Rattle.hay_core.specs.Calls.{call_of, call_from, call_at, copy_next}
use Rattle.hay_core.specs.Transitions.{change_of}
use Rattle.hay_core.specs.Goodness.{Shows, with_change, settled_change, CopyGood, CopyFits, SideGood, SideFits, is_deleting, is_behind, settles, IsSure}
use Rattle.hay_needle.proofs.TableLaws.{pair_same, pair_refl, length-flag_last}
use Rattle.hay_core.proofs.CopyNext.{passed_fits}
use Rattle.hay_core.proofs.SideLaws.{Stays, made_stays, EffectGood, call_good, slice_all, made_table, made_doubt, made_copy, copy_flag_same, copy_repeat_same, with_settled}

-- the pair that is deleted, behind each of its calls
delete_same : (q : Pair) (s : Side) (t : Option ℕ) (c : DeviceCall) → call_from (work.Del q) t s ≡ Some c → (is_behind (work.Del q) t ≡ true → look (rows_of s.current) q ≡ outcome.Nothing)
    → is_some (call_from (work.Del q) (next_progress (work.Del q) c.effect t) (after_ok (work.Del q) c s)) ≡ false → CopyGood q (made c.effect s).fresh (made c.effect s).current (made c.effect s).copy
delete_same q s None c e h f = absurd cc
delete_same q s (Some zero) c e h f =
    let P : DeviceCall → Type 0 =
    λ c. is_some (call_from (work.Del q) (next_progress (work.Del q) c.effect (Some 0)) (after_ok (work.Del q) c s)) ≡ false
    → CopyGood q (made c.effect s).fresh (made c.effect s).current (made c.effect s).copy in
    let same : Calls.call Freezes (Doubts (doubt.Flag q)) ≡ c = cc in
    subst P same (λ f. absurd (true≢false f)) f
delete_same q s (Some (suc zero)) c e h f =
    let P : DeviceCall → Type 0 =
    λ c. is_some (call_from (work.Del q) (next_progress (work.Del q) c.effect (Some 1)) (after_ok (work.Del q) c s)) ≡ false
    → CopyGood q (made c.effect s).fresh (made c.effect s).current (made c.effect s).copy in
    let same : Calls.call Freezes (Settles (doubt.Flag q)) ≡ c = cc in
    let again : List DeviceCall = Calls.call GoesOn (Repeats q) ∷ [] in
    let b : Bool = is_some s.copy && not (lacks q s.fresh) in
    subst P same (λ f. elim (cases_Bool b) [
      | inl t ↦ absurd (true≢false (sym (ap (λ (cs : List DeviceCall). is_some (slice_get cs 0)) (cond-true b again [] t)) ∙ f))
      | inr none ↦ copy_flag_same q s.fresh s.current s.copy none
    ]) f
delete_same q s (Some (suc (suc zero))) c e h f =
    let P : DeviceCall → Type 0 = λ c. CopyGood q (made c.effect s).fresh (made c.effect s).current (made c.effect s).copy in
    let again : List DeviceCall = Calls.call GoesOn (Repeats q) ∷ [] in
    let b : Bool = is_some s.copy && not (lacks q s.fresh) in
    elim (cases_Bool b) [
      | inl t ↦
          let same : Calls.call GoesOn (Repeats q) ≡ c =
          let is : Some (Calls.call GoesOn (Repeats q)) ≡ Some c = sym (ap (λ (cs : List DeviceCall). slice_get cs 0) (cond-true b again [] t)) ∙ e in cc in
          subst P same (copy_repeat_same q s.fresh s.current s.copy (h refl))
      | inr none ↦ let is : None ≡ Some c = sym (ap (λ (cs : List DeviceCall). slice_get cs 0) (cond-false b again [] none)) ∙ e in absurd cc
    ]
delete_same q s (Some (suc (suc (suc k)))) c e h f =
    let again : List DeviceCall = Calls.call GoesOn (Repeats q) ∷ [] in
    let b : Bool = is_some s.copy && not (lacks q s.fresh) in
    elim (cases_Bool b) [
      | inl t ↦ let is : None ≡ Some c = sym (ap (λ (cs : List DeviceCall). slice_get cs (suc k)) (cond-true b again [] t)) ∙ e in absurd cc
      | inr none ↦ let is : None ≡ Some c = sym (ap (λ (cs : List DeviceCall). slice_get cs (suc k)) (cond-false b again [] none)) ∙ e in absurd cc
    ]

entry_is : (m n : Logged) → Some m ≡ Some n → m.entry ≡ n.entry
entry_is m n e = let same : m ≡ n = cc in ap (λ (x : Logged). x.entry) same

-- the copy behind a call that is made
copied_ok : (p : Pair) (tag : CoreTag) (w : Work) (s : Side) (c : DeviceCall) → call_of w s ≡ Some c → CopyFits (length s.current) s.copy
    → (is_deleting w p s ≡ false → CopyGood p s.fresh s.current s.copy)
    → (is_behind w s.progress ≡ true → s.settled ≡ true) → ((q : Pair) → w ≡ work.Del q → q ≡ p → s.settled ≡ true → look (rows_of s.current) q ≡ outcome.Nothing)
    → is_deleting w p (after_ok w c s) ≡ false → CopyGood p (made c.effect s).fresh (made c.effect s).current (made c.effect s).copy
copied_ok p tag (work.Put pair photo) s c e fits copied settled gone f =
    made_copy p (change_of tag (work.Put pair photo)) s c.effect (call_good p tag (work.Put pair photo) s s.progress c copied e) fits
    (λ q u is. let apart = entry_is (record { tag = tag; entry = entry.Put pair photo.cookie photo.bytes }) (record { tag = u; entry = entry.Del q }) is in absurd cc) (copied refl)
copied_ok p tag (work.Del r) s c e fits copied settled gone f =
    elim (cases_Bool (pair_eq r p)) [
      | inl t ↦
          let same : r ≡ p = pair_same r p t in
          let P : Pair → Type 0 = λ x. CopyGood x (made c.effect s).fresh (made c.effect s).current (made c.effect s).copy in
          let over : is_some (call_from (work.Del r) (next_progress (work.Del r) c.effect s.progress) (after_ok (work.Del r) c s)) ≡ false =
          sym (ap (λ (b : Bool). b && is_some (call_of (work.Del r) (after_ok (work.Del r) c s))) t) ∙ f in
          subst P same (delete_same r s s.progress c e (λ behind. gone r refl same (settled behind)) over)
      | inr ne ↦
          made_copy p (change_of tag (work.Del r)) s c.effect (call_good p tag (work.Del r) s s.progress c copied e) fits
          (λ q u is. let one = entry_is (record { tag = tag; entry = entry.Del r }) (record { tag = u; entry = entry.Del q }) is in let same : r
          ≡ q = cc in ap (λ (x : Pair). pair_eq x p) (sym same) ∙ ne)
          (copied (and_left (pair_eq r p) (is_some (call_of (work.Del r) s)) ne))
    ]
copied_ok p tag (work.Flush side) s c e fits copied settled gone f =
    made_copy p None s c.effect (call_good p tag (work.Flush side) s s.progress c copied e) fits (λ q u e. absurd cc) (copied refl)
copied_ok p tag (work.Start side) s c e fits copied settled gone f =
    made_copy p None s c.effect (call_good p tag (work.Start side) s s.progress c copied e) fits (λ q u e. absurd cc) (copied refl)
copied_ok p tag (work.Step side cells) s c e fits copied settled gone f =
    made_copy p None s c.effect (call_good p tag (work.Step side cells) s s.progress c copied e) fits (λ q u e. absurd cc) (copied refl)
copied_ok p tag (work.Finish side) s c e fits copied settled gone f =
    made_copy p None s c.effect (call_good p tag (work.Finish side) s s.progress c copied e) fits (λ q u e. absurd cc) (copied refl)

-- what a side shows stays under a call
pub stays_mapped : (s t : Side) (p : Pair) (log : List Logged) → Stays s t → (s.is_open ≡ true → Shows s (spot_in s.spots p) (look (rows_after log s.base) p))
    → t.is_open ≡ true → Shows t (spot_in t.spots p) (look (rows_after log t.base) p)
stays_mapped s t p log stays h is =
    let shown = stays.grows.shows (spot_in s.spots p) (look (rows_after log s.base) p) (h (sym stays.is_open ∙ is)) in
    let P : List Row → Type 0 = λ base. Shows t (spot_in s.spots p) (look (rows_after log base) p) in
    let Q : List Rattle.hay_core.specs.declared.machine.Mapped.Mapped → Type 0 = λ spots. Shows t (spot_in spots p) (look (rows_after log t.base) p) in
    subst Q (sym stays.spots) (subst P (sym stays.grows.base) shown)

-- where a delete is settled, nothing is left of its pair
pub deleted_gone : (p q : Pair) (rows : List Row) (current : List Needle) (tag : CoreTag) (w : Work) (b : Bool) → w ≡ work.Del q → q ≡ p → b ≡ true
    → look (rows_of current) p ≡ look (with_change (settled_change b (change_of tag w)) rows) p → look (rows_of current) q ≡ outcome.Nothing
deleted_gone p q rows current tag w b is same settled h =
    let m : Logged = record { tag = tag; entry = entry.Del q } in
    let P : Bool → Type 0 = λ b. look (rows_of current) p ≡ look (with_change (settled_change b (change_of tag w)) rows) p in
    let Q : Work → Type 0 = λ w. look (rows_of current) p ≡ look (with_change (settled_change true (change_of tag w)) rows) p in
    let R : Pair → Type 0 = λ x. look (rows_of current) x ≡ look (rows ++ logged_row m ∷ []) x in
    let at : look (rows_of current) q ≡ look (rows ++ logged_row m ∷ []) q = subst R (sym same) (subst Q is (subst P settled h)) in
    at ∙ with_settled q rows m ∙ cond-true (pair_eq q q) outcome.Nothing (look rows q) (pair_refl q)

-- one side behind a call that is made
pub side_ok : (up : Bool) → up ≡ true → (p : Pair) (log : List Logged) (h : Hold) (s : Side) (c : DeviceCall) → h.failed ≡ false → call_of h.work s ≡ Some c → (settles c.effect ≡ false → IsSure s)
    → SideGood p up log (change_of h.tag h.work) (Some h) s → SideFits up (Some h) s → SideGood p up log (change_of h.tag h.work) (Some h) (after_ok h.work c s)
side_ok up is_up p log h s c ok e sure g fits =
    let live : is_deleting h.work p s ≡ false → CopyGood p s.fresh s.current s.copy = λ f. g.copied (and_right (not h.failed) (is_deleting h.work p s) f) in
    let good = call_good p h.tag h.work s s.progress c live e in
    let stays = made_stays c.effect s in
    let base_is : (made c.effect s).base ≡ s.base = stays.grows.base in
    let P : List Row → Type 0 = λ base. look (rows_of (made c.effect s).current) p ≡ look (with_change (settled_change (made c.effect s).settled (change_of h.tag h.work)) (rows_after log base)) p in
    record {
      tabled = subst P (sym base_is) (made_table p (rows_after log s.base) (change_of h.tag h.work) s c.effect good g.tabled);
      mapped = stays_mapped s (made c.effect s) p (cond up log []) stays g.mapped;
      opened = λ down. absurd (true≢false (sym is_up ∙ down));
      doubted = made_doubt p (change_of h.tag h.work) s c.effect good sure g.doubted;
      copied = λ f.
          let over : is_deleting h.work p (after_ok h.work c s) ≡ false = sym (ap (λ (b : Bool). not b && is_deleting h.work p (after_ok h.work c s)) ok) ∙ f in
          copied_ok p h.tag h.work s c e fits.copy live (fits.held ok).settled (λ q is same settled.
          deleted_gone p q (rows_after log s.base) s.current h.tag h.work s.settled is same settled g.tabled) over;
    }

-- the counts and the progress of one side behind a call that is made
pub settle_bounds : (d : Doubt) (s : Side) → s.rows ≤ s.most → s.most ≤ length s.current → CopyFits (length s.current) s.copy
    → ((settle d s).rows ≤ (settle d s).most) × ((settle d s).most ≤ length (settle d s).current) × CopyFits (length (settle d s).current) (settle d s).copy
settle_bounds doubt.Sure s a b c = (a, b, c)
settle_bounds (doubt.Cell x) s a b c = (a, omega (arith, length-append s.current (x ∷ [])), fits_more s.copy c)
  where
    fits_more : (o : Option ℕ) → CopyFits (length s.current) o → CopyFits (length (s.current ++ x ∷ [])) o
    fits_more None h = tt
    fits_more (Some n) h = omega (arith, h, length-append s.current (x ∷ []))
settle_bounds (doubt.Flag q) s a b c =
    let P : ℕ → Type 0 = λ n. CopyFits n s.copy in
    (a, omega (arith, length-flag_last q s.current), subst P (sym (length-flag_last q s.current)) c)
settle_bounds doubt.Head s a b c = (omega arith, omega arith, tt)

made_bounds : (p : Pair) (l : Option Logged) (s : Side) (e : Effect) → EffectGood p l s e → s.rows ≤ s.most → s.most ≤ length s.current → CopyFits (length s.current) s.copy
    → ((made e s).rows ≤ (made e s).most) × ((made e s).most ≤ length (made e s).current) × CopyFits (length (made e s).current) (made e s).copy
made_bounds p l s Quiet good a b c = (a, b, c)
made_bounds p l s (Doubts d) good a b c = (a, b, c)
made_bounds p l s (Settles d) good a b c = settle_bounds d s a b c
made_bounds p l s MarksRows good a b c = (omega arith, omega arith, c)
made_bounds p l s SettlesRows good a b c = (omega arith, b, c)
made_bounds p l s (Repeats q) good a b c = (a, b, c)
made_bounds p l s Makes good a b c = (a, b, omega arith)
made_bounds p l s (Copies x) good a b c =
    let P : Option ℕ → Type 0 = λ o. CopyFits (length s.current) (Sides.examined_more o x.passed) in
    let Q : Option ℕ → Type 0 = λ o. CopyFits (length s.current) o in
    let examined : good.0 ≤ length s.current = subst Q good.1 c in
    let passed = passed_fits good.2.0 (drop good.0 s.current) x good.2.1 in
    (a, b, subst P (sym good.1) (omega (arith, examined, passed, length-drop good.0 s.current)))

-- a side that is behind its sync is settled
pub settled_ok : (w : Work) (s : Side) (t : Option ℕ) (c : DeviceCall) → call_from w t s ≡ Some c → (is_behind w t ≡ true → s.settled ≡ true)
    → is_behind w (next_progress w c.effect t) ≡ true → (made c.effect s).settled ≡ true
settled_ok w s None c e h f = absurd cc
settled_ok (work.Put pair photo) s (Some zero) c e h f =
    let same : Calls.call Freezes Quiet ≡ c = cc in
    let P : DeviceCall → Type 0 = λ c. is_behind (work.Put pair photo) (next_progress (work.Put pair photo) c.effect (Some 0)) ≡ true → (made c.effect s).settled ≡ true in
    subst P same (λ f. absurd (false≢true f)) f
settled_ok (work.Put pair photo) s (Some (suc zero)) c e h f =
    let same : Calls.call Freezes Quiet ≡ c = cc in
    let P : DeviceCall → Type 0 = λ c. is_behind (work.Put pair photo) (next_progress (work.Put pair photo) c.effect (Some 1)) ≡ true → (made c.effect s).settled ≡ true in
    subst P same (λ f. absurd (false≢true f)) f
settled_ok (work.Put pair photo) s (Some (suc (suc zero))) c e h f =
    let cell : Needle = Calls.live_needle pair photo in
    let same : Calls.call Freezes (Doubts (doubt.Cell cell)) ≡ c = cc in
    let P : DeviceCall → Type 0 = λ c. is_behind (work.Put pair photo) (next_progress (work.Put pair photo) c.effect (Some 2)) ≡ true → (made c.effect s).settled ≡ true in
    subst P same (λ f. absurd (false≢true f)) f
settled_ok (work.Put pair photo) s (Some (suc (suc (suc zero)))) c e h f =
    let cell : Needle = Calls.live_needle pair photo in
    let same : Calls.call Freezes (Settles (doubt.Cell cell)) ≡ c = cc in
    let P : DeviceCall → Type 0 = λ c. (made c.effect s).settled ≡ true in
    subst P same refl
settled_ok (work.Put pair photo) s (Some (suc (suc (suc (suc k))))) c e h f = absurd cc
settled_ok (work.Del q) s (Some zero) c e h f =
    let same : Calls.call Freezes (Doubts (doubt.Flag q)) ≡ c = cc in
    let P : DeviceCall → Type 0 = λ c. is_behind (work.Del q) (next_progress (work.Del q) c.effect (Some 0)) ≡ true → (made c.effect s).settled ≡ true in
    subst P same (λ f. absurd (false≢true f)) f
settled_ok (work.Del q) s (Some (suc zero)) c e h f =
    let same : Calls.call Freezes (Settles (doubt.Flag q)) ≡ c = cc in
    let P : DeviceCall → Type 0 = λ c. (made c.effect s).settled ≡ true in
    subst P same refl
settled_ok (work.Del q) s (Some (suc (suc k))) c e h f =
    let again : List DeviceCall = Calls.call GoesOn (Repeats q) ∷ [] in
    let b : Bool = is_some s.copy && not (lacks q s.fresh) in
    let P : DeviceCall → Type 0 = λ c. (made c.effect s).settled ≡ true in
    let Q : List DeviceCall → Type 0 = λ cs. slice_get cs k ≡ Some c → (made c.effect s).settled ≡ true in
    cond_both b again [] Q (λ t is. slice_all P again k c (h (le-leb 2 (suc (suc k)) (omega arith)), tt) is) (λ t is. absurd cc) e
settled_ok (work.Flush side) s (Some t) c e h f = absurd (false≢true f)
settled_ok (work.Start side) s (Some t) c e h f = absurd (false≢true f)
settled_ok (work.Step side cells) s (Some t) c e h f = absurd (false≢true f)
settled_ok (work.Finish side) s (Some t) c e h f = absurd (false≢true f)

pub side_fits_ok : (up : Bool) (p : Pair) (log : List Logged) (h : Hold) (s : Side) (c : DeviceCall) → h.failed ≡ false → call_of h.work s ≡ Some c
    → SideGood p up log (change_of h.tag h.work) (Some h) s → SideFits up (Some h) s → SideFits up (Some h) (after_ok h.work c s)
side_fits_ok up p log h s c ok e g fits =
    let live : is_deleting h.work p s ≡ false → CopyGood p s.fresh s.current s.copy = λ f. g.copied (and_right (not h.failed) (is_deleting h.work p s) f) in
    let good = call_good p h.tag h.work s s.progress c live e in
    let bounds = made_bounds p (change_of h.tag h.work) s c.effect good fits.rows fits.most fits.copy in
    let held = fits.held ok in
    record {
      is_open = λ is. (made_stays c.effect s).is_open ∙ fits.is_open is;
      rows = bounds.0;
      most = bounds.1;
      copy = bounds.2;
      held = λ _. record {
        settled = settled_ok h.work s s.progress c e held.settled;
        all_made = λ out. let none = held.all_made out in absurd cc;
      };
    }
