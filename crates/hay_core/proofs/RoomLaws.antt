-- Counts that a device call makes larger stay numbers of 64 bits.
use Rattle.std.proofs.Common.{◌≡◌, ℕ, zero, suc, ◌+◌, ◌-◌, ◌<◌, ◌≤◌, List, [], ◌∷◌, length, drop, Option, Some, None, Bool, true, false, refl, sym, ap, ◌∙◌, subst, arith, length-drop, inl, inr}
use Rattle.std.specs.Prelude.{slice_get, option_map, is_some, not, ◌&&◌, nat_lt}
use Rattle.std.specs.List.{AllByRecursion}
use Rattle.std.proofs.lemmas.Bool.{cond-true, cond-false, cases_Bool, cond_both, true≢false}
use Rattle.hay_needle.specs.declared.needle.Needle.{Needle}
use Rattle.hay_needle.specs.Tables.{is_live, lacks}
use Rattle.hay_core.specs.declared.machine.Side.{Side}
use Rattle.hay_core.specs.declared.machine.Work.{Work}
use Rattle.hay_core.specs.declared.machine.Work.TheVariants as work
use Rattle.hay_core.specs.declared.calls.Copied.{Copied}
use Rattle.hay_core.specs.declared.calls.Effect.{Effect}
use Rattle.hay_core.specs.declared.calls.Effect.TheVariants.{Quiet, Doubts, Settles, MarksRows, SettlesRows, Repeats, Makes, Copies}
use Rattle.hay_core.specs.declared.calls.Harm.TheVariants.{Fails, Ends, GoesOn}
use Rattle.hay_core.specs.declared.calls.DeviceCall.{DeviceCall}
use Rattle.hay_core.specs.Calls
use Rattle.hay_core.specs.Calls.{call_of, call_from, copy_next, one_more}
use Rattle.hay_core.proofs.CopyNext.{passed_fits}
use Rattle.hay_core.proofs.SideLaws.{slice_all}

-- between one and all of the budget is passed
pub passed_within : (budget : ℕ) (cs : List Needle) (x : Copied) → copy_next budget cs ≡ Some x → (1 ≤ x.passed) × (x.passed ≤ budget)
passed_within zero cs x e = absurd cc
passed_within (suc budget) [] x e = absurd cc
passed_within (suc budget) (c ∷ cs) x e =
    let first : Copied = record { needle = c; passed = 1 } in
    let P : Copied → Type 0 = λ y. (1 ≤ y.passed) × (y.passed ≤ suc budget) in
    let behind : (o : Option Copied) → copy_next budget cs ≡ o → option_map one_more o ≡ Some x → P x =
    λ o. elim o as (λ o. copy_next budget cs ≡ o → option_map one_more o ≡ Some x → P x) [
      | None ↦ λ next is. absurd cc
      | Some y ↦ λ next is.
          let same : one_more y ≡ x = cc in
          let h = passed_within budget cs y next in
          subst P same (omega arith, omega (arith, h.1))
    ] in
    elim (cases_Bool (is_live c cs)) [
      | inl live ↦
          let is : Some first ≡ Some x = sym (cond-true (is_live c cs) (Some first) (option_map one_more (copy_next budget cs)) live) ∙ e in
          let same : first ≡ x = cc in
          subst P same (omega arith, omega arith)
      | inr dead ↦ behind (copy_next budget cs) refl (sym (cond-false (is_live c cs) (Some first) (option_map one_more (copy_next budget cs)) dead) ∙ e)
    ]

slice_within : {X : Type 0} (xs : List X) (n : ℕ) (x : X) → slice_get xs n ≡ Some x → n < length xs
slice_within [] n x e = absurd cc
slice_within (y ∷ xs) zero x e = omega arith
slice_within (y ∷ xs) (suc n) x e = let h = slice_within xs n x e in omega arith

-- a call that stands in a short list comes early
pub short : (xs : List DeviceCall) (n : ℕ) (c : DeviceCall) → length xs ≤ 8 → slice_get xs n ≡ Some c → n < 8
short xs n c h e = omega (arith, slice_within xs n c e)

quiet_closing : (copied : List Needle) → length (Calls.finish_calls copied) ≤ 8
quiet_closing [] = omega arith
quiet_closing (c ∷ cells) = omega arith

abbrev pub is_copies : Effect → Bool
is_copies Quiet = false
is_copies (Doubts d) = false
is_copies (Settles d) = false
is_copies MarksRows = false
is_copies SettlesRows = false
is_copies (Repeats q) = false
is_copies Makes = false
is_copies (Copies x) = true

pub not_copies : (e : Effect) → ((x : Copied) → e ≡ Copies x → ⊥) → is_copies e ≡ false
not_copies Quiet h = refl
not_copies (Doubts d) h = refl
not_copies (Settles d) h = refl
not_copies MarksRows h = refl
not_copies SettlesRows h = refl
not_copies (Repeats q) h = refl
not_copies Makes h = refl
not_copies (Copies x) h = absurd (h x refl)

-- the works of a compaction that copy
abbrev pub may_copy : Work → Bool
may_copy (work.Put pair photo) = false
may_copy (work.Del pair) = false
may_copy (work.Flush side) = false
may_copy (work.Start side) = false
may_copy (work.Step side cells) = true
may_copy (work.Finish side) = true

copied_is : (o : Option Copied) (c : DeviceCall) → Calls.copy_call o ≡ Some c → (x : Copied) × (o ≡ Some x) × (c.effect ≡ Copies x)
copied_is None c e = absurd cc
copied_is (Some x) c e = let same : Calls.call Ends (Copies x) ≡ c = cc in (x, refl, ap (λ (d : DeviceCall). d.effect) (sym same))

-- a call that is no copy comes early
pub early : (w : Work) (s : Side) (t : ℕ) (c : DeviceCall) → call_from w (Some t) s ≡ Some c → (may_copy w && is_copies c.effect) ≡ false → t < 8
early (work.Put pair photo) s t c e f = short (Calls.put_calls (Calls.live_needle pair photo)) t c (omega arith) e
early (work.Del q) s t c e f =
    short (Calls.delete_calls q s) t c (cond_both (is_some s.copy && not (lacks q s.fresh)) (Calls.call GoesOn (Repeats q) ∷ []) []
    (λ (cs : List DeviceCall). suc (suc (length cs)) ≤ 8) (λ t. omega arith) (λ t. omega arith)) e
early (work.Flush side) s t c e f =
    short (Calls.flush_calls s) t c (cond_both (nat_lt s.rows (length s.current)) (Calls.gated Fails MarksRows SettlesRows) [] (λ (cs : List DeviceCall). length cs ≤ 8)
    (λ t. omega arith) (λ t. omega arith)) e
early (work.Start side) s t c e f = short Calls.start_calls t c (omega arith) e
early (work.Step side cells) s t c e f = by s.copy e
  where
    by : (o : Option ℕ) → Calls.step_call o (cells - t) s ≡ Some c → t < 8
    by None e = absurd cc
    by (Some n) e =
        let at = copied_is (copy_next (cells - t) (drop n s.current)) c e in
        absurd (true≢false (sym (ap is_copies at.2) ∙ f))
early (work.Finish side) s t c e f = by s.copy e
  where
    closing : (o : Option Copied) → Calls.closing_call o t s ≡ Some c → t < 8
    closing None e = short (Calls.finish_calls s.fresh) t c (quiet_closing s.fresh) e
    closing (Some x) e = let at = copied_is (Some x) c e in absurd (true≢false (sym (ap is_copies at.2) ∙ f))

    by : (o : Option ℕ) → Calls.finish_call o t s ≡ Some c → t < 8
    by None e = short Calls.removals t c (omega arith) e
    by (Some n) e = closing (copy_next (length s.current) (drop n s.current)) e

-- a step examines no more than it may
pub step_fits : (side cells : ℕ) (s : Side) (t : ℕ) (c : DeviceCall) (x : Copied) → call_from (work.Step side cells) (Some t) s ≡ Some c → c.effect ≡ Copies x → t + x.passed ≤ cells
step_fits side cells s t c x e is = by s.copy e
  where
    by : (o : Option ℕ) → Calls.step_call o (cells - t) s ≡ Some c → t + x.passed ≤ cells
    by None e = absurd cc
    by (Some n) e =
        let at = copied_is (copy_next (cells - t) (drop n s.current)) c e in
        let same : at.0 ≡ x = let both : Copies at.0 ≡ Copies x = sym at.2 ∙ is in cc in
        let P : Copied → Type 0 = λ y. t + y.passed ≤ cells in
        let h = passed_within (cells - t) (drop n s.current) at.0 at.1 in
        subst P same (omega (arith, h.0, h.1))

all_closing : (copied : List Needle) → AllByRecursion (λ d. is_copies d.effect ≡ false) (Calls.finish_calls copied)
all_closing [] = (refl, (refl, (refl, (refl, (refl, (refl, tt))))))
all_closing (c ∷ cells) = (refl, (refl, (refl, (refl, (refl, (refl, (refl, tt)))))))

-- where a call copies, no more needles are examined than there are
pub examined_fits : (w : Work) (s : Side) (t : Option ℕ) (c : DeviceCall) (n : ℕ) (x : Copied) → call_from w t s ≡ Some c → s.copy ≡ Some n → c.effect ≡ Copies x → n + x.passed ≤ length s.current
examined_fits w s None c n x e copy is = absurd cc
examined_fits w s (Some t) c n x e copy is = by w e
  where
    within : (budget m : ℕ) (o : Option Copied) → copy_next budget (drop m s.current) ≡ o → m ≡ n → Calls.copy_call o ≡ Some c → n + x.passed ≤ length s.current
    within budget m o next same e =
        let at = copied_is o c e in
        let is_x : at.0 ≡ x = let both : Copies at.0 ≡ Copies x = sym at.2 ∙ is in cc in
        let fits = passed_fits budget (drop m s.current) at.0 (next ∙ at.1) in
        let some = passed_within budget (drop m s.current) at.0 (next ∙ at.1) in
        let P : Copied → Type 0 = λ y. n + y.passed ≤ length s.current in
        subst P is_x (omega (arith, fits, some.0, same, length-drop m s.current))

    apart : is_copies c.effect ≡ false → n + x.passed ≤ length s.current
    apart f = absurd (true≢false (sym (ap is_copies is) ∙ f))

    closing : (m : ℕ) → m ≡ n → (o : Option Copied) → copy_next (length s.current) (drop m s.current) ≡ o → Calls.closing_call o t s ≡ Some c → n + x.passed ≤ length s.current
    closing m same None next e = apart (slice_all (λ d. is_copies d.effect ≡ false) (Calls.finish_calls s.fresh) t c (all_closing s.fresh) e)
    closing m same (Some y) next e = within (length s.current) m (Some y) next same e

    stepping : (budget : ℕ) (o : Option ℕ) → s.copy ≡ o → Calls.step_call o budget s ≡ Some c → n + x.passed ≤ length s.current
    stepping budget None none e = absurd cc
    stepping budget (Some m) some e = within budget m (copy_next budget (drop m s.current)) refl (let both : Some m ≡ Some n = sym some ∙ copy in cc) e

    finishing : (o : Option ℕ) → s.copy ≡ o → Calls.finish_call o t s ≡ Some c → n + x.passed ≤ length s.current
    finishing None none e = absurd cc
    finishing (Some m) some e = closing m (let both : Some m ≡ Some n = sym some ∙ copy in cc) (copy_next (length s.current) (drop m s.current)) refl e

    by : (w : Work) → call_from w (Some t) s ≡ Some c → n + x.passed ≤ length s.current
    by (work.Put pair photo) e = apart (slice_all (λ d. is_copies d.effect ≡ false) (Calls.put_calls (Calls.live_needle pair photo)) t c (refl, (refl, (refl, (refl, tt)))) e)
    by (work.Del q) e =
        apart (slice_all (λ d. is_copies d.effect ≡ false) (Calls.delete_calls q s) t c (
          refl,
          (
            refl,
            cond_both (is_some s.copy && not (lacks q s.fresh)) (Calls.call GoesOn (Repeats q) ∷ []) []
                (λ (cs : List DeviceCall). AllByRecursion (λ d. is_copies d.effect ≡ false) cs) (λ t. (refl, tt)) (λ t. tt),
          ),
        ) e)
    by (work.Flush side) e =
        apart (slice_all (λ d. is_copies d.effect ≡ false) (Calls.flush_calls s) t c
        (cond_both (nat_lt s.rows (length s.current)) (Calls.gated Fails MarksRows SettlesRows) [] (λ (cs : List DeviceCall). AllByRecursion (λ d. is_copies d.effect ≡ false) cs)
        (λ t. (refl, (refl, (refl, (refl, tt))))) (λ t. tt)) e)
    by (work.Start side) e = apart (slice_all (λ d. is_copies d.effect ≡ false) Calls.start_calls t c (refl, (refl, (refl, (refl, tt)))) e)
    by (work.Step side cells) e = stepping (cells - t) s.copy refl e
    by (work.Finish side) e = finishing s.copy refl e
