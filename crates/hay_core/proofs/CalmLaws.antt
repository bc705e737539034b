-- Doubts: which calls set one, which make it sure, and what a failed call leaves.
use Rattle.std.proofs.Common.{◌≡◌, ℕ, zero, suc, ◌+◌, ◌-◌, Bool, true, false, not, ◌&&◌, cond, List, [], ◌∷◌, ◌++◌, length, drop, Option, Some, None, refl, sym, ap, ◌∙◌, inl, inr, subst, arith}
use Rattle.std.specs.Prelude.{slice_get, nat_lt, is_some}
use Rattle.std.specs.List.{AllByRecursion}
use Rattle.std.proofs.lemmas.Bool.{cond_both, cases_Bool, false≢true, true≢false}
use Rattle.hay_needle.specs.declared.needle.Needle.{Needle}
use Rattle.hay_core.specs.declared.machine.Side.{Side}
use Rattle.hay_core.specs.declared.machine.Doubt.{Doubt}
use Rattle.hay_core.specs.declared.machine.Doubt.TheVariants as doubt
use Rattle.hay_core.specs.declared.machine.Work.{Work}
use Rattle.hay_core.specs.declared.machine.Work.TheVariants as work
use Rattle.hay_core.specs.declared.calls.Effect.{Effect}
use Rattle.hay_core.specs.declared.calls.Effect.TheVariants.{Quiet, Doubts, Settles, MarksRows, SettlesRows, Repeats, Makes, Copies}
use Rattle.hay_core.specs.declared.calls.Harm.{Harm}
use Rattle.hay_core.specs.declared.calls.Harm.TheVariants.{Freezes, Fails, Ends, GoesOn}
use Rattle.hay_core.specs.declared.calls.DeviceCall.{DeviceCall}
use Rattle.hay_core.specs.declared.calls.Copied.{Copied}
use Rattle.hay_needle.specs.Tables.{lacks}
use Rattle.hay_core.specs.Calls
use Rattle.hay_core.specs.Sides
use Rattle.hay_core.specs.Sides.{settle, made, broken, files_of, with_progress, next_progress, after_ok, after_failed, after_harm, no_copy}
use Rattle.hay_core.specs.Calls.{call_of, call_from, call_at, copy_next}
use Rattle.hay_core.specs.Transitions.{at_first, put_first, first_call, first_of_two}
use Rattle.hay_core.specs.Goodness.{settles, IsSure, Calm, CalmAt}
use Rattle.hay_core.proofs.SideLaws.{slice_all}

abbrev is_doubts : Effect → Bool
is_doubts Quiet = false
is_doubts (Doubts d) = true
is_doubts (Settles d) = false
is_doubts MarksRows = false
is_doubts SettlesRows = false
is_doubts (Repeats q) = false
is_doubts Makes = false
is_doubts (Copies x) = false

abbrev settles_next : Option DeviceCall → Bool
settles_next None = false
settles_next (Some c) = settles c.effect

-- behind each call that sets a doubt stands one that makes it sure
abbrev Paired : List DeviceCall → Type 0
Paired [] = Unit {0}
Paired (c ∷ cs) = (is_doubts c.effect ≡ true → settles_next (slice_get cs 0) ≡ true) × Paired cs

paired_at : (cs : List DeviceCall) (n : ℕ) (c : DeviceCall) → Paired cs → slice_get cs n ≡ Some c → is_doubts c.effect ≡ true → settles_next (slice_get cs (n + 1)) ≡ true
paired_at [] n c h e d = absurd cc
paired_at (x ∷ cs) zero c h e d =
    let same : c ≡ x = cc in
    h.0 (sym (ap (λ (y : DeviceCall). is_doubts y.effect) same) ∙ d)
paired_at (x ∷ cs) (suc n) c h e d =
    let one : suc n + 1 ≡ suc (n + 1) = omega arith in
    ap (λ k. settles_next (slice_get (x ∷ cs) k)) one ∙ paired_at cs n c h.1 e d

no : {P : Type 0} → false ≡ true → P
no f = absurd (false≢true f)

closing_paired : (copied : List Needle) (rest : List DeviceCall) → Paired rest → Paired (Calls.closing_calls copied ++ rest)
closing_paired [] rest h = ((λ f. no f), ((λ f. no f), h))
closing_paired (c ∷ cells) rest h = ((λ f. no f), ((λ f. no f), ((λ f. no f), h)))

finish_next : (s u : Side) (t : ℕ) (c : DeviceCall) → u.fresh ≡ s.fresh → u.current ≡ s.current → (o : Option ℕ) → Calls.finish_call o t s ≡ Some c → is_doubts c.effect ≡ true
    → settles_next (Calls.finish_call o (t + 1) u) ≡ true
finish_next s u t c fresh current None e d =
    let quiet : is_doubts c.effect ≡ false = slice_all (λ (c : DeviceCall). is_doubts c.effect ≡ false) Calls.removals t c (refl, (refl, tt)) e in
    no (sym quiet ∙ d)
finish_next s u t c fresh current (Some n) e d =
    let P : List Needle → Type 0 = λ cells. settles_next (Calls.closing_call (copy_next (length cells) (drop n cells)) (t + 1) u) ≡ true in
    subst P (sym current) (closing (copy_next (length s.current) (drop n s.current)) e)
  where
    closing : (o : Option Copied) → Calls.closing_call o t s ≡ Some c → settles_next (Calls.closing_call o (t + 1) u) ≡ true
    closing None e =
        let Q : List Needle → Type 0 = λ cells. settles_next (slice_get (Calls.finish_calls cells) (t + 1)) ≡ true in
        let all = closing_paired s.fresh (Calls.gated Freezes (Doubts doubt.Head) (Settles doubt.Head)) ((λ f. no f), ((λ f. no f), ((λ f. refl), ((λ f. no f), tt)))) in
        subst Q (sym fresh) (paired_at (Calls.finish_calls s.fresh) t c all e d)
    closing (Some x) e =
        let same : c ≡ Calls.call Ends (Copies x) = cc in
        no (sym (ap (λ (y : DeviceCall). is_doubts y.effect) same) ∙ d)

finish_doubts : (side : ℕ) (s : Side) (t : ℕ) (c : DeviceCall) (e : Effect) → c.effect ≡ e → Calls.finish_call s.copy t s ≡ Some c → is_doubts e ≡ true
    → settles_next (Calls.finish_call (made e s).copy (Sides.progress_after (work.Finish side) e t) (with_progress (next_progress (work.Finish side) e s.progress) (made e s))) ≡ true
finish_doubts side s t c Quiet is e d = no d
finish_doubts side s t c (Doubts x) is e d =
    finish_next s (with_progress (next_progress (work.Finish side) (Doubts x) s.progress) (made (Doubts x) s)) t c refl refl s.copy e (ap (λ (y : Effect). is_doubts y) is)
finish_doubts side s t c (Settles x) is e d = no d
finish_doubts side s t c MarksRows is e d = no d
finish_doubts side s t c SettlesRows is e d = no d
finish_doubts side s t c (Repeats q) is e d = no d
finish_doubts side s t c Makes is e d = no d
finish_doubts side s t c (Copies x) is e d = no d

-- behind a call that sets a doubt, the one that makes it sure is next
doubts_same : (w : Work) (s : Side) (t : Option ℕ) (c : DeviceCall) → call_from w t s ≡ Some c → is_doubts c.effect ≡ true
    → settles_next (call_from w (next_progress w c.effect t) (after_ok w c s)) ≡ true
doubts_same w s None c e d = absurd cc
doubts_same (work.Put pair photo) s (Some t) c e d =
    let cell : Needle = Calls.live_needle pair photo in
    paired_at (Calls.gated Freezes (Doubts (doubt.Cell cell)) (Settles (doubt.Cell cell))) t c ((λ f. no f), ((λ f. no f), ((λ f. refl), ((λ f. no f), tt)))) e d
doubts_same (work.Del q) s (Some zero) c e d = refl
doubts_same (work.Del q) s (Some (suc t)) c e d =
    let again : List DeviceCall = Calls.call GoesOn (Repeats q) ∷ [] in
    let b : Bool = is_some s.copy && not (lacks q s.fresh) in
    let P : DeviceCall → Type 0 = λ c. is_doubts c.effect ≡ false in
    let all : AllByRecursion P (Calls.call Freezes (Settles (doubt.Flag q)) ∷ (cond b again [])) =
    (refl, cond_both b again [] (λ (cs : List DeviceCall). AllByRecursion P cs) (λ t. (refl, tt)) (λ t. tt)) in
    let quiet = slice_all P (Calls.call Freezes (Settles (doubt.Flag q)) ∷ (cond b again [])) t c all e in
    no (sym quiet ∙ d)
doubts_same (work.Flush side) s (Some t) c e d =
    let P : DeviceCall → Type 0 = λ c. is_doubts c.effect ≡ false in
    let quiet =
    slice_all P (Calls.flush_calls s) t c (cond_both (nat_lt s.rows (length s.current)) (Calls.gated Fails MarksRows SettlesRows) []
    (λ (cs : List DeviceCall). AllByRecursion P cs) (λ b. (refl, (refl, (refl, (refl, tt))))) (λ b. tt)) e in
    no (sym quiet ∙ d)
doubts_same (work.Start side) s (Some t) c e d =
    let P : DeviceCall → Type 0 = λ c. is_doubts c.effect ≡ false in
    no (sym (slice_all P Calls.start_calls t c (refl, (refl, (refl, (refl, tt)))) e) ∙ d)
doubts_same (work.Step side cells) s (Some t) c e d = stepping s.copy e
  where
    copies : (o : Option Copied) → Calls.copy_call o ≡ Some c → settles_next (call_from (work.Step side cells) (next_progress (work.Step side cells) c.effect (Some t))
        (after_ok (work.Step side cells) c s)) ≡ true
    copies None e = absurd cc
    copies (Some x) e =
        let same : c ≡ Calls.call Ends (Copies x) = cc in
        no (sym (ap (λ (y : DeviceCall). is_doubts y.effect) same) ∙ d)

    stepping : (o : Option ℕ) → Calls.step_call o (cells - t) s ≡ Some c → settles_next
        (call_from (work.Step side cells) (next_progress (work.Step side cells) c.effect (Some t)) (after_ok (work.Step side cells) c s)) ≡ true
    stepping None e = absurd cc
    stepping (Some n) e = copies (copy_next (cells - t) (drop n s.current)) e
doubts_same (work.Finish side) s (Some t) c e d = finish_doubts side s t c c.effect refl e d

settle_sure : (d : Doubt) (s : Side) → (settle d s).doubt ≡ doubt.Sure
settle_sure doubt.Sure s = refl
settle_sure (doubt.Cell c) s = refl
settle_sure (doubt.Flag q) s = refl
settle_sure doubt.Head s = refl

made_sure : (e : Effect) (s : Side) → is_doubts e ≡ false → (settles e ≡ false → IsSure s) → (made e s).doubt ≡ doubt.Sure
made_sure Quiet s d h = h refl
made_sure (Doubts x) s d h = absurd (true≢false d)
made_sure (Settles x) s d h = settle_sure x s
made_sure MarksRows s d h = h refl
made_sure SettlesRows s d h = h refl
made_sure (Repeats q) s d h = h refl
made_sure Makes s d h = h refl
made_sure (Copies x) s d h = h refl

after_sure : (w : Work) (s : Side) (c : DeviceCall) → call_of w s ≡ Some c → (settles c.effect ≡ false → IsSure s) → settles_next (call_of w (after_ok w c s)) ≡ false → IsSure (after_ok w c s)
after_sure w s c e h f =
    elim (cases_Bool (is_doubts c.effect)) [
      | inl t ↦ absurd (true≢false (sym (doubts_same w s s.progress c e t) ∙ f))
      | inr n ↦ made_sure c.effect s n h
    ]

calm_from : (w : Work) (s : Side) (sides : List Side) (o : Option DeviceCall) → (settles_next o ≡ false → IsSure s) → AllByRecursion IsSure sides → Calm w sides → CalmAt o s sides (Calm w sides)
calm_from w s sides None h all calm = (h refl, calm)
calm_from w s sides (Some c) h all calm = (h, all)

pub calm_sure : (w : Work) (sides : List Side) → AllByRecursion IsSure sides → Calm w sides
calm_sure w [] h = tt
calm_sure w (s ∷ sides) h = calm_from w s sides (call_of w s) (λ f. h.0) h.1 (calm_sure w sides h.1)

pub calm_ok : (w : Work) (sides : List Side) → Calm w sides → Calm w (at_first w (after_ok w) sides)
calm_ok w [] h = tt
calm_ok w (s ∷ sides) h = go (call_of w s) refl h (calm_ok w sides)
  where
    go : (o : Option DeviceCall) → call_of w s ≡ o → CalmAt o s sides (Calm w sides) → (Calm w sides → Calm w (at_first w (after_ok w) sides))
        → Calm w (put_first o (after_ok w) s sides (at_first w (after_ok w) sides))
    go None e h later =
        let P : Option DeviceCall → Type 0 = λ o. CalmAt o s (at_first w (after_ok w) sides) (Calm w (at_first w (after_ok w) sides)) in
        subst P (sym e) (h.0, later h.1)
    go (Some c) e h later = calm_from w (after_ok w c s) sides (call_of w (after_ok w c s)) (after_sure w s c e h.0) h.1 (calm_sure w sides h.1)

-- where no call is left, nothing is in doubt, and no side has a call left
pub none_left : (w : Work) (sides : List Side) → first_call w sides ≡ None → AllByRecursion (λ s. call_of w s ≡ None) sides
none_left w [] e = tt
none_left w (s ∷ sides) e = go (call_of w s) refl e (none_left w sides)
  where
    go : (o : Option DeviceCall) → call_of w s ≡ o → first_of_two o (first_call w sides) ≡ None → (first_call w sides ≡ None → AllByRecursion (λ s. call_of w s ≡ None) sides)
        → (call_of w s ≡ None) × AllByRecursion (λ s. call_of w s ≡ None) sides
    go None is e later = (is, later e)
    go (Some c) is e later = absurd cc

pub calm_none : (w : Work) (sides : List Side) → AllByRecursion (λ s. call_of w s ≡ None) sides → Calm w sides → AllByRecursion IsSure sides
calm_none w [] none h = tt
calm_none w (s ∷ sides) none h =
    let P : Option DeviceCall → Type 0 = λ o. CalmAt o s sides (Calm w sides) in
    let at : IsSure s × Calm w sides = subst P none.0 h in
    (at.0, calm_none w sides none.1 at.1)

-- what the call of the first side that has one left does to all sides
pub on_call : (w : Work) (f : DeviceCall → Side → Side) (P Q : Side → Type 0) (x : DeviceCall) (sides : List Side) → first_call w sides ≡ Some x → AllByRecursion P sides
    → Calm w sides → ((s : Side) → P s → Q s)
    → ((s : Side) → call_of w s ≡ Some x → (settles x.effect ≡ false → IsSure s) → P s → Q (f x s)) → AllByRecursion Q (at_first w f sides)
on_call w f P Q x [] e all calm keeps makes = tt
on_call w f P Q x (s ∷ sides) e all calm keeps makes = go (call_of w s) refl e calm (λ e c. on_call w f P Q x sides e all.1 c keeps makes)
  where
    keep_all : (sides : List Side) → AllByRecursion P sides → AllByRecursion Q sides
    keep_all [] h = tt
    keep_all (s ∷ sides) h = (keeps s h.0, keep_all sides h.1)

    go : (o : Option DeviceCall) → call_of w s ≡ o → first_of_two o (first_call w sides) ≡ Some x → CalmAt o s sides (Calm w sides)
        → (first_call w sides ≡ Some x → Calm w sides → AllByRecursion Q (at_first w f sides)) → AllByRecursion Q (put_first o f s sides (at_first w f sides))
    go None is e h later = (keeps s all.0, later e h.1)
    go (Some c) is e h later =
        let same : c ≡ x = cc in
        let P : DeviceCall → Type 0 = λ c. call_of w s ≡ Some c → (settles c.effect ≡ false → IsSure s) → Q (f c s) in
        (subst P (sym same) (λ is sure. makes s is sure all.0) is h.0, keep_all sides all.1)

-- where the next call makes no doubt sure, nothing is in doubt
pub all_sure : (w : Work) (x : DeviceCall) (sides : List Side) → first_call w sides ≡ Some x → settles x.effect ≡ false → Calm w sides → AllByRecursion IsSure sides
all_sure w x [] e f h = tt
all_sure w x (s ∷ sides) e f h = go (call_of w s) e h (λ e h. all_sure w x sides e f h)
  where
    go : (o : Option DeviceCall) → first_of_two o (first_call w sides) ≡ Some x → CalmAt o s sides (Calm w sides)
        → (first_call w sides ≡ Some x → Calm w sides → AllByRecursion IsSure sides) → IsSure s × AllByRecursion IsSure sides
    go None e h later = (h.0, later e h.1)
    go (Some c) e h later = let same : c ≡ x = cc in (h.0 (ap (λ (y : DeviceCall). settles y.effect) same ∙ f), h.1)

-- how a call may fail: what ends a holding alone makes no doubt and no change, and what goes on is a repeat or a removal
abbrev pub is_calm : Effect → Bool
is_calm Quiet = true
is_calm (Doubts d) = false
is_calm (Settles d) = false
is_calm MarksRows = true
is_calm SettlesRows = true
is_calm (Repeats q) = false
is_calm Makes = true
is_calm (Copies x) = true

abbrev pub is_again : Effect → Bool
is_again Quiet = false
is_again (Doubts d) = false
is_again (Settles d) = false
is_again MarksRows = false
is_again SettlesRows = false
is_again (Repeats q) = true
is_again Makes = false
is_again (Copies x) = false

abbrev pub is_quiet : Effect → Bool
is_quiet Quiet = true
is_quiet (Doubts d) = false
is_quiet (Settles d) = false
is_quiet MarksRows = false
is_quiet SettlesRows = false
is_quiet (Repeats q) = false
is_quiet Makes = false
is_quiet (Copies x) = false

abbrev pub changes : Work → Bool
changes (work.Put pair photo) = true
changes (work.Del pair) = true
changes (work.Flush side) = false
changes (work.Start side) = false
changes (work.Step side cells) = false
changes (work.Finish side) = false

abbrev pub harm_fits : Bool → Harm → Effect → Bool
harm_fits change Freezes e = true
harm_fits change Fails e = not change && is_calm e
harm_fits change Ends e = not change && is_calm e
harm_fits change GoesOn e = cond change (is_again e) (is_quiet e)

abbrev HarmFits : Bool → DeviceCall → Type 0
HarmFits change c = harm_fits change c.harm c.effect ≡ true

closing_fits : (copied : List Needle) (rest : List DeviceCall) → AllByRecursion (HarmFits false) rest → AllByRecursion (HarmFits false) (Calls.closing_calls copied ++ rest)
closing_fits [] rest h = (refl, (refl, h))
closing_fits (c ∷ cells) rest h = (refl, (refl, (refl, h)))

pub harms : (w : Work) (s : Side) (t : Option ℕ) (c : DeviceCall) → call_from w t s ≡ Some c → harm_fits (changes w) c.harm c.effect ≡ true
harms w s None c e = absurd cc
harms (work.Put pair photo) s (Some t) c e =
    let cell : Needle = Calls.live_needle pair photo in
    slice_all (HarmFits true) (Calls.gated Freezes (Doubts (doubt.Cell cell)) (Settles (doubt.Cell cell))) t c (refl, (refl, (refl, (refl, tt)))) e
harms (work.Del q) s (Some t) c e =
    slice_all (HarmFits true) (Calls.delete_calls q s) t c (
      refl,
      (
        refl,
        cond_both (is_some s.copy && not (lacks q s.fresh)) (Calls.call GoesOn (Repeats q) ∷ []) []
            (λ (cs : List DeviceCall). AllByRecursion (HarmFits true) cs) (λ t. (refl, tt)) (λ t. tt),
      ),
    ) e
harms (work.Flush side) s (Some t) c e =
    slice_all (HarmFits false) (Calls.flush_calls s) t c (cond_both (nat_lt s.rows (length s.current)) (Calls.gated Fails MarksRows SettlesRows) []
    (λ (cs : List DeviceCall). AllByRecursion (HarmFits false) cs) (λ b. (refl, (refl, (refl, (refl, tt))))) (λ b. tt)) e
harms (work.Start side) s (Some t) c e = slice_all (HarmFits false) Calls.start_calls t c (refl, (refl, (refl, (refl, tt)))) e
harms (work.Step side cells) s (Some t) c e = stepping s.copy e
  where
    copies : (o : Option Copied) → Calls.copy_call o ≡ Some c → HarmFits false c
    copies None e = absurd cc
    copies (Some x) e = let same : Calls.call Ends (Copies x) ≡ c = cc in subst (HarmFits false) same refl

    stepping : (o : Option ℕ) → Calls.step_call o (cells - t) s ≡ Some c → HarmFits false c
    stepping None e = absurd cc
    stepping (Some n) e = copies (copy_next (cells - t) (drop n s.current)) e
harms (work.Finish side) s (Some t) c e = finishing s.copy e
  where
    closing : (o : Option Copied) → Calls.closing_call o t s ≡ Some c → HarmFits false c
    closing None e =
        slice_all (HarmFits false) (Calls.finish_calls s.fresh) t c (closing_fits s.fresh (Calls.gated Freezes (Doubts doubt.Head) (Settles doubt.Head)) (refl, (refl, (refl, (refl, tt))))) e
    closing (Some x) e = let same : Calls.call Ends (Copies x) ≡ c = cc in subst (HarmFits false) same refl

    finishing : (o : Option ℕ) → Calls.finish_call o t s ≡ Some c → HarmFits false c
    finishing None e = slice_all (HarmFits false) Calls.removals t c (refl, (refl, tt)) e
    finishing (Some n) e = closing (copy_next (length s.current) (drop n s.current)) e
