-- What each device call keeps of one side.
use Rattle.std.proofs.Common.{◌≡◌, ℕ, zero, suc, ◌-◌, Bool, true, false, not, ◌&&◌, cond, List, [], ◌∷◌, ◌++◌, length, drop, Option, Some, None, refl, sym, ◌∙◌, inl, inr, subst}
use Rattle.std.specs.Prelude.{slice_get, nat_lt, is_some}
use Rattle.std.specs.List.{AllByRecursion}
use Rattle.std.proofs.lemmas.Bool.{cond_both, cond-true, cond-false, cases_Bool, not-false}
use Rattle.hay_needle.specs.declared.needle.Pair.{Pair}
use Rattle.hay_needle.specs.declared.needle.Outcome.{Outcome}
use Rattle.hay_needle.specs.declared.needle.Outcome.TheVariants as outcome
use Rattle.hay_needle.specs.declared.needle.Needle.{Needle}
use Rattle.hay_needle.specs.declared.needle.Row.{Row}
use Rattle.hay_core.specs.declared.machine.Side.{Side}
use Rattle.hay_core.specs.declared.machine.Spot.{Spot}
use Rattle.hay_core.specs.declared.machine.Doubt.{Doubt}
use Rattle.hay_core.specs.declared.machine.Doubt.TheVariants as doubt
use Rattle.hay_core.specs.declared.machine.Work.{Work}
use Rattle.hay_core.specs.declared.machine.Work.TheVariants as work
use Rattle.hay_core.specs.declared.entry.CoreTag.{CoreTag}
use Rattle.hay_core.specs.declared.entry.Entry.TheVariants as entry
use Rattle.hay_core.specs.declared.entry.Logged.{Logged}
use Rattle.hay_core.specs.declared.calls.Effect.{Effect}
use Rattle.hay_core.specs.declared.calls.Effect.TheVariants.{Quiet, Doubts, Settles, MarksRows, SettlesRows, Repeats, Makes, Copies}
use Rattle.hay_core.specs.declared.calls.Harm.TheVariants.{Freezes, Fails, Ends, GoesOn}
use Rattle.hay_core.specs.declared.calls.DeviceCall.{DeviceCall}
use Rattle.hay_core.specs.declared.calls.Copied.{Copied}
use Rattle.hay_needle.specs.Tables.{pair_eq, look, rows_of, needle_row, flag_last, lacks}
use Rattle.hay_core.specs.Entries.{logged_row}
use Rattle.hay_core.specs.Calls
use Rattle.hay_core.specs.Sides
use Rattle.hay_core.specs.Sides.{settle, made, broken, files_of, with_progress, next_progress, after_ok, after_failed, no_copy}
use Rattle.hay_core.specs.Calls.{call_of, call_from, call_at, copy_next}
use Rattle.hay_core.specs.Transitions.{change_of}
use Rattle.hay_core.specs.Goodness.{Shows, ShowsIn, with_change, settled_change, DoubtGood, CopyGood, CopyFits, is_deleting, settles}
use Rattle.hay_needle.specs.Copies.{CopiesAt}
use Rattle.hay_needle.proofs.TableLaws.{look_append, rows_append, flag_other, flag_same, pair_same, extends_append, extends_flag}
use Rattle.hay_core.proofs.SpotLaws.{shows_more, shows_next}
use Rattle.hay_needle.proofs.CopyLaws.{copies_begin, copies_append, copies_flag_other, copies_repeat_other, copies_flag_same, copies_repeat_same}
use Rattle.hay_core.proofs.CopyNext.{copy_copied, copy_done}

-- a side that goes on: its table at the opening and its map stay, and each spot shows what it showed
pub record Grows (s t : Side) : Type 0 where
  pub base : t.base ≡ s.base
  pub shows : (x : Spot) (o : Outcome) → Shows s x o → Shows t x o

pub record Stays (s t : Side) : Type 0 where
  pub grows : Grows s t
  pub spots : t.spots ≡ s.spots
  pub is_open : t.is_open ≡ s.is_open

pub same_stays : (s t : Side) → t.base ≡ s.base → files_of t ≡ files_of s → t.spots ≡ s.spots → t.is_open ≡ s.is_open → Stays s t
same_stays s t b f m u = record { grows = record { base = b; shows = λ x o h. let P : List (List Needle) → Type 0 = λ files. ShowsIn files x o in subst P (sym f) h }; spots = m; is_open = u }

pub settle_stays : (d : Doubt) (s : Side) → Stays s (settle d s)
settle_stays doubt.Sure s = same_stays s (settle doubt.Sure s) refl refl refl refl
settle_stays (doubt.Cell c) s = record {
  grows = record {
    base = refl;
    shows = λ x o h.
        shows_more s.past s.current (s.current ++ c ∷ []) x o (extends_append s.current (c ∷ [])) h;
  };
  spots = refl;
  is_open = refl;
}
settle_stays (doubt.Flag q) s = record {
  grows = record { base = refl; shows = λ x o h. shows_more s.past s.current (flag_last q s.current) x o (extends_flag q s.current) h };
  spots = refl;
  is_open = refl;
}
settle_stays doubt.Head s = record { grows = record { base = refl; shows = λ x o h. shows_next (s.past ++ s.current ∷ []) s.fresh x o h }; spots = refl; is_open = refl }

pub made_stays : (e : Effect) (s : Side) → Stays s (made e s)
made_stays Quiet s = same_stays s s refl refl refl refl
made_stays (Doubts d) s = same_stays s (made (Doubts d) s) refl refl refl refl
made_stays (Settles d) s = settle_stays d s
made_stays MarksRows s = same_stays s (made MarksRows s) refl refl refl refl
made_stays SettlesRows s = same_stays s (made SettlesRows s) refl refl refl refl
made_stays (Repeats q) s = same_stays s (made (Repeats q) s) refl refl refl refl
made_stays Makes s = same_stays s (made Makes s) refl refl refl refl
made_stays (Copies x) s = same_stays s (made (Copies x) s) refl refl refl refl

pub broken_stays : (e : Effect) (s : Side) → Stays s (broken e s)
broken_stays Quiet s = same_stays s s refl refl refl refl
broken_stays (Doubts d) s = same_stays s (broken (Doubts d) s) refl refl refl refl
broken_stays (Settles d) s = same_stays s s refl refl refl refl
broken_stays MarksRows s = same_stays s (broken MarksRows s) refl refl refl refl
broken_stays SettlesRows s = same_stays s s refl refl refl refl
broken_stays (Repeats q) s = same_stays s (broken (Repeats q) s) refl refl refl refl
broken_stays Makes s = same_stays s s refl refl refl refl
broken_stays (Copies x) s = same_stays s s refl refl refl refl

-- the table of a side, with the change under way where it is settled
abbrev pub TableIs : Pair → List Row → List Needle → Bool → Option Logged → Type 0
TableIs p rows current settled l = look (rows_of current) p ≡ look (with_change (settled_change settled l) rows) p

-- at another pair the change does not count
other_pair : (p : Pair) (rows : List Row) (current : List Needle) (settled : Bool) (m : Logged) → pair_eq (logged_row m).pair p ≡ false
    → TableIs p rows current settled (Some m) → look (rows_of current) p ≡ look rows p
other_pair p rows current false m ne h = h
other_pair p rows current true m ne h = h ∙ look_append rows (logged_row m ∷ []) p outcome.Nothing ∙ cond-false (pair_eq (logged_row m).pair p) (logged_row m).outcome (look rows p) ne

-- what a settled change makes of the rows
pub with_settled : (p : Pair) (rows : List Row) (m : Logged) → look (rows ++ logged_row m ∷ []) p ≡ cond (pair_eq (logged_row m).pair p) (logged_row m).outcome (look rows p)
with_settled p rows m = look_append rows (logged_row m ∷ []) p outcome.Nothing

pub settle_table : (p : Pair) (rows : List Row) (l : Option Logged) (d : Doubt) (s : Side) → DoubtGood p l s.fresh s.current d → TableIs p rows s.current s.settled l
    → TableIs p rows (settle d s).current (settle d s).settled l
settle_table p rows l doubt.Sure s good h = h
settle_table p rows l (doubt.Cell c) s good h =
    let m : Logged = record { tag = good.0; entry = entry.Put c.pair c.photo.cookie c.photo.bytes } in
    let P : Option Logged → Type 0 = λ l. TableIs p rows s.current s.settled l in
    let Q : Option Logged → Type 0 = λ l. TableIs p rows (s.current ++ c ∷ []) true l in
    let before = subst P good.1 h in
    let now = rows_append s.current (c ∷ []) p outcome.Nothing in
    let goal : Q (Some m) =
    elim (cases_Bool (pair_eq c.pair p)) [
      | inl t ↦ now ∙ cond-true (pair_eq c.pair p) (needle_row c).outcome (look (rows_of s.current) p) t
          ∙ cond-false c.deleted outcome.Nothing (outcome.Photo c.photo) good.2
          ∙ sym (with_settled p rows m ∙ cond-true (pair_eq c.pair p) (logged_row m).outcome (look rows p) t)
      | inr f ↦ now ∙ cond-false (pair_eq c.pair p) (needle_row c).outcome (look (rows_of s.current) p) f
          ∙ other_pair p rows s.current s.settled m f before
          ∙ sym (with_settled p rows m ∙ cond-false (pair_eq c.pair p) (logged_row m).outcome (look rows p) f)
    ] in
    subst Q (sym good.1) goal
settle_table p rows l (doubt.Flag q) s good h =
    let m : Logged = record { tag = good.0; entry = entry.Del q } in
    let P : Option Logged → Type 0 = λ l. TableIs p rows s.current s.settled l in
    let Q : Option Logged → Type 0 = λ l. TableIs p rows (flag_last q s.current) true l in
    let before = subst P good.1 h in
    let goal : Q (Some m) =
    elim (cases_Bool (pair_eq q p)) [
      | inl t ↦
          let same : q ≡ p = pair_same q p t in
          let R : Pair → Type 0 = λ x. look (rows_of (flag_last q s.current)) x ≡ outcome.Nothing in
          subst R same (flag_same q s.current) ∙ sym (with_settled p rows m ∙ cond-true (pair_eq q p) (logged_row m).outcome (look rows p) t)
      | inr f ↦ flag_other q p s.current outcome.Nothing f
          ∙ other_pair p rows s.current s.settled m f before
          ∙ sym (with_settled p rows m ∙ cond-false (pair_eq q p) (logged_row m).outcome (look rows p) f)
    ] in
    subst Q (sym good.1) goal
settle_table p rows l doubt.Head s good h = good ∙ h

-- the copy, where one stands, behind a put and behind a flag of another pair
pub copy_append : (p : Pair) (fresh current : List Needle) (c : Needle) (copy : Option ℕ) → CopyFits (length current) copy → c.deleted ≡ false → CopyGood p fresh current copy
    → CopyGood p fresh (current ++ c ∷ []) copy
copy_append p fresh current c None fits live h = tt
copy_append p fresh current c (Some n) fits live h = copies_append p fresh current c n fits live h

pub copy_flag_other : (p q : Pair) (fresh current : List Needle) (copy : Option ℕ) → pair_eq q p ≡ false → CopyGood p fresh current copy → CopyGood p fresh (flag_last q current) copy
copy_flag_other p q fresh current None ne h = tt
copy_flag_other p q fresh current (Some n) ne h = copies_flag_other p q fresh current n ne h

pub copy_repeat_other : (p q : Pair) (fresh current : List Needle) (copy : Option ℕ) → pair_eq q p ≡ false → CopyGood p fresh current copy → CopyGood p (flag_last q fresh) current copy
copy_repeat_other p q fresh current None ne h = tt
copy_repeat_other p q fresh current (Some n) ne h = copies_repeat_other p q fresh current n ne h

-- the pair itself, once its flag is set and there is nothing to repeat, or the repeat is made
pub copy_flag_same : (q : Pair) (fresh current : List Needle) (copy : Option ℕ) → (is_some copy && not (lacks q fresh)) ≡ false → CopyGood q fresh (flag_last q current) copy
copy_flag_same q fresh current None none = tt
copy_flag_same q fresh current (Some n) none = copies_flag_same q fresh current n (not-false (lacks q fresh) none)

pub copy_repeat_same : (q : Pair) (fresh current : List Needle) (copy : Option ℕ) → look (rows_of current) q ≡ outcome.Nothing → CopyGood q (flag_last q fresh) current copy
copy_repeat_same q fresh current None h = tt
copy_repeat_same q fresh current (Some n) h = copies_repeat_same q fresh current n h

-- what makes an effect sound
abbrev pub EffectGood : Pair → Option Logged → Side → Effect → Type 0
EffectGood p l s Quiet = Unit {0}
EffectGood p l s (Doubts d) = DoubtGood p l s.fresh s.current d
EffectGood p l s (Settles d) = DoubtGood p l s.fresh s.current d
EffectGood p l s MarksRows = Unit {0}
EffectGood p l s SettlesRows = Unit {0}
EffectGood p l s (Repeats q) = (tag : CoreTag) × (l ≡ Some (record { tag = tag; entry = entry.Del q }))
EffectGood p l s Makes = Unit {0}
EffectGood p l s (Copies x) = (n : ℕ) × (s.copy ≡ Some n) × ((budget : ℕ) × (copy_next budget (drop n s.current) ≡ Some x))

abbrev pub CallGood : Pair → Option Logged → Side → DeviceCall → Type 0
CallGood p l s c = EffectGood p l s c.effect

pub slice_all : {X : Type 0} (P : X → Type 0) (xs : List X) (n : ℕ) (x : X) → AllByRecursion P xs → slice_get xs n ≡ Some x → P x
slice_all P [] n x h e = absurd cc
slice_all P (y ∷ xs) zero x h e = let same : y ≡ x = cc in subst P same h.0
slice_all P (y ∷ xs) (suc n) x h e = slice_all P xs n x h.1 e

pub closing_quiet : (p : Pair) (l : Option Logged) (s : Side) (copied : List Needle) (rest : List DeviceCall) → AllByRecursion (CallGood p l s) rest
    → AllByRecursion (CallGood p l s) (Calls.closing_calls copied ++ rest)
closing_quiet p l s [] rest h = (tt, (tt, h))
closing_quiet p l s (c ∷ cells) rest h = (tt, (tt, (tt, h)))

-- each call that the definition names is sound
pub call_good : (p : Pair) (tag : CoreTag) (w : Work) (s : Side) (t : Option ℕ) (c : DeviceCall) → (is_deleting w p s ≡ false → CopyGood p s.fresh s.current s.copy) → call_from w t s ≡ Some c
    → CallGood p (change_of tag w) s c
call_good p tag w s None c copied e = absurd cc
call_good p tag (work.Put pair photo) s (Some t) c copied e =
    let cell : Needle = Calls.live_needle pair photo in
    slice_all (CallGood p (change_of tag (work.Put pair photo)) s) (Calls.gated Freezes (Doubts (doubt.Cell cell)) (Settles (doubt.Cell cell))) t c
    (tt, (tt, ((tag, refl, refl), ((tag, refl, refl), tt)))) e
call_good p tag (work.Del pair) s (Some t) c copied e =
    let G : DeviceCall → Type 0 = CallGood p (change_of tag (work.Del pair)) s in
    slice_all G (Calls.delete_calls pair s) t c (
      (tag, refl),
      (
        (tag, refl),
        cond_both (is_some s.copy && not (lacks pair s.fresh)) (Calls.call GoesOn (Repeats pair) ∷ []) [] (λ (cs : List DeviceCall). AllByRecursion G cs)
            (λ b. ((tag, refl), tt)) (λ b. tt),
      ),
    ) e
call_good p tag (work.Flush side) s (Some t) c copied e =
    let G : DeviceCall → Type 0 = CallGood p None s in
    slice_all G (Calls.flush_calls s) t c (cond_both (nat_lt s.rows (length s.current)) (Calls.gated Fails MarksRows SettlesRows) [] (λ (cs : List DeviceCall). AllByRecursion G cs)
    (λ b. (tt, (tt, (tt, (tt, tt))))) (λ b. tt)) e
call_good p tag (work.Start side) s (Some t) c copied e = slice_all (CallGood p None s) Calls.start_calls t c (tt, (tt, (tt, (tt, tt)))) e
call_good p tag (work.Step side cells) s (Some t) c copied e = stepping s.copy refl e
  where
    copies : (n : ℕ) → s.copy ≡ Some n → (o : Option Copied) → copy_next (cells - t) (drop n s.current) ≡ o → Calls.copy_call o ≡ Some c → CallGood p None s c
    copies n is None next e = absurd cc
    copies n is (Some x) next e =
        let same : Calls.call Ends (Copies x) ≡ c = cc in
        let P : DeviceCall → Type 0 = CallGood p None s in
        subst P same (n, is, (cells - t, next))

    stepping : (o : Option ℕ) → s.copy ≡ o → Calls.step_call o (cells - t) s ≡ Some c → CallGood p None s c
    stepping None is e = absurd cc
    stepping (Some n) is e = copies n is (copy_next (cells - t) (drop n s.current)) refl e
call_good p tag (work.Finish side) s (Some t) c copied e = finishing s.copy refl (copied refl) e
  where
    closing : (n : ℕ) → s.copy ≡ Some n → CopiesAt p s.fresh s.current n → (o : Option Copied) → copy_next (length s.current) (drop n s.current) ≡ o
        → Calls.closing_call o t s ≡ Some c → CallGood p None s c
    closing n is good None next e =
        let same = copy_done p s.fresh s.current n next good in
        slice_all (CallGood p None s) (Calls.finish_calls s.fresh) t c (closing_quiet p None s s.fresh (Calls.gated Freezes (Doubts doubt.Head) (Settles doubt.Head)) (tt, (tt, (same, (same, tt))))) e
    closing n is good (Some x) next e =
        let same : Calls.call Ends (Copies x) ≡ c = cc in
        let P : DeviceCall → Type 0 = CallGood p None s in
        subst P same (n, is, (length s.current, next))

    finishing : (o : Option ℕ) → s.copy ≡ o → CopyGood p s.fresh s.current o → Calls.finish_call o t s ≡ Some c → CallGood p None s c
    finishing None is good e = slice_all (CallGood p None s) Calls.removals t c (tt, (tt, tt)) e
    finishing (Some n) is good e = closing n is good (copy_next (length s.current) (drop n s.current)) refl e

-- what an effect keeps
pub made_table : (p : Pair) (rows : List Row) (l : Option Logged) (s : Side) (e : Effect) → EffectGood p l s e → TableIs p rows s.current s.settled l
    → TableIs p rows (made e s).current (made e s).settled l
made_table p rows l s Quiet good h = h
made_table p rows l s (Doubts d) good h = h
made_table p rows l s (Settles d) good h = settle_table p rows l d s good h
made_table p rows l s MarksRows good h = h
made_table p rows l s SettlesRows good h = h
made_table p rows l s (Repeats q) good h = h
made_table p rows l s Makes good h = h
made_table p rows l s (Copies x) good h = h

pub sure_good : (p : Pair) (l : Option Logged) (fresh current : List Needle) (d : Doubt) → d ≡ doubt.Sure → DoubtGood p l fresh current d
sure_good p l fresh current d e = let P : Doubt → Type 0 = λ d. DoubtGood p l fresh current d in subst P (sym e) tt

pub settle_doubt : (p : Pair) (l : Option Logged) (d : Doubt) (s : Side) → DoubtGood p l s.fresh s.current s.doubt → DoubtGood p l (settle d s).fresh (settle d s).current (settle d s).doubt
settle_doubt p l doubt.Sure s h = tt
settle_doubt p l (doubt.Cell c) s h = tt
settle_doubt p l (doubt.Flag q) s h = tt
settle_doubt p l doubt.Head s h = tt

pub made_doubt : (p : Pair) (l : Option Logged) (s : Side) (e : Effect) → EffectGood p l s e → (settles e ≡ false → s.doubt ≡ doubt.Sure) → DoubtGood p l s.fresh s.current s.doubt
    → DoubtGood p l (made e s).fresh (made e s).current (made e s).doubt
made_doubt p l s Quiet good sure h = h
made_doubt p l s (Doubts d) good sure h = good
made_doubt p l s (Settles d) good sure h = settle_doubt p l d s h
made_doubt p l s MarksRows good sure h = h
made_doubt p l s SettlesRows good sure h = h
made_doubt p l s (Repeats q) good sure h = sure_good p l (flag_last q s.fresh) s.current s.doubt (sure refl)
made_doubt p l s Makes good sure h = sure_good p l [] s.current s.doubt (sure refl)
made_doubt p l s (Copies x) good sure h = sure_good p l (s.fresh ++ x.needle ∷ []) s.current s.doubt (sure refl)

-- the change is no delete of the pair
abbrev pub NotDeleted : Pair → Option Logged → Type 0
NotDeleted p l = (q : Pair) (tag : CoreTag) → l ≡ Some (record { tag = tag; entry = entry.Del q }) → pair_eq q p ≡ false

pub settle_copy : (p : Pair) (l : Option Logged) (d : Doubt) (s : Side) → DoubtGood p l s.fresh s.current d → CopyFits (length s.current) s.copy → NotDeleted p l → CopyGood p s.fresh s.current s.copy
    → CopyGood p (settle d s).fresh (settle d s).current (settle d s).copy
settle_copy p l doubt.Sure s good fits other h = h
settle_copy p l (doubt.Cell c) s good fits other h = copy_append p s.fresh s.current c s.copy fits good.2 h
settle_copy p l (doubt.Flag q) s good fits other h = copy_flag_other p q s.fresh s.current s.copy (other q good.0 good.1) h
settle_copy p l doubt.Head s good fits other h = tt

pub made_copy : (p : Pair) (l : Option Logged) (s : Side) (e : Effect) → EffectGood p l s e → CopyFits (length s.current) s.copy → NotDeleted p l → CopyGood p s.fresh s.current s.copy
    → CopyGood p (made e s).fresh (made e s).current (made e s).copy
made_copy p l s Quiet good fits other h = h
made_copy p l s (Doubts d) good fits other h = h
made_copy p l s (Settles d) good fits other h = settle_copy p l d s good fits other h
made_copy p l s MarksRows good fits other h = h
made_copy p l s SettlesRows good fits other h = h
made_copy p l s (Repeats q) good fits other h = copy_repeat_other p q s.fresh s.current s.copy (other q good.0 good.1) h
made_copy p l s Makes good fits other h = copies_begin p s.current
made_copy p l s (Copies x) good fits other h =
    let P : Option ℕ → Type 0 = λ o. CopyGood p s.fresh s.current o in
    let Q : Option ℕ → Type 0 = λ o. CopyGood p (s.fresh ++ x.needle ∷ []) s.current (Sides.examined_more o x.passed) in
    subst Q (sym good.1) (copy_copied p s.fresh s.current good.0 good.2.0 x good.2.1 (subst P good.1 h))
