-- The next needle that a compaction copies, and the needles that it passes.
use Rattle.std.proofs.Common.{◌≡◌, ℕ, zero, suc, ◌+◌, ◌≤◌, false, cond, List, [], ◌∷◌, ◌++◌, length, drop, Option, Some, None, refl, sym, ap, ◌∙◌, length-drop, inl, inr, subst, arith}
use Rattle.std.specs.Prelude.{option_map}
use Rattle.std.proofs.Math.Numerals.{add-one}
use Rattle.std.proofs.lemmas.List.{drop-drop}
use Rattle.std.proofs.lemmas.Bool.{cond-true, cond-false, cases_Bool}
use Rattle.hay_needle.specs.declared.needle.Pair.{Pair}
use Rattle.hay_needle.specs.declared.needle.Outcome.{Outcome}
use Rattle.hay_needle.specs.declared.needle.Outcome.TheVariants as outcome
use Rattle.hay_needle.specs.declared.needle.Needle.{Needle}
use Rattle.hay_needle.specs.Tables.{pair_eq, look_after, look, needle_row, rows_of, is_live}
use Rattle.hay_needle.specs.Copies.{CopiesAt}
use Rattle.hay_needle.proofs.TableLaws.{rows_append}
use Rattle.hay_needle.proofs.CopyLaws.{Follows, pass, copy_one, follows, copies_from}
use Rattle.hay_core.specs.declared.calls.Copied.{Copied}
use Rattle.hay_core.specs.Calls.{copy_next, one_more}

-- what the next copied needle leaves, behind it
abbrev pub CopiedGood : Copied → List Needle → Pair → Outcome → Outcome → Type 0
CopiedGood x cs p b t = Follows p (drop x.passed cs) (cond (pair_eq x.needle.pair p) (needle_row x.needle).outcome b) t × (x.passed ≤ length cs)

one_later : (c : Needle) (cs : List Needle) (y : Copied) (p : Pair) (b t : Outcome) → CopiedGood y cs p b t → CopiedGood (one_more y) (c ∷ cs) p b t
one_later c cs y p b t h =
    let same : drop y.passed cs ≡ drop (y.passed + 1) (c ∷ cs) = rw add-one refl in
    let P : List Needle → Type 0 = λ rest. Follows p rest (cond (pair_eq y.needle.pair p) (needle_row y.needle).outcome b) t in
    (subst P same h.0, omega (arith, h.1))

pub copied_next : (budget : ℕ) (cs : List Needle) (x : Copied) (p : Pair) (b t : Outcome) → copy_next budget cs ≡ Some x → Follows p cs b t → CopiedGood x cs p b t
copied_next zero cs x p b t e h = absurd cc
copied_next (suc budget) [] x p b t e h = absurd cc
copied_next (suc budget) (c ∷ cs) x p b t e h =
    let first : Copied = record { needle = c; passed = 1 } in
    let P : Copied → Type 0 = λ y. CopiedGood y (c ∷ cs) p b t in
    let behind : (o : Option Copied) → copy_next budget cs ≡ o → is_live c cs ≡ false → option_map one_more o ≡ Some x → CopiedGood x (c ∷ cs) p b t =
    λ o. elim o as (λ o. copy_next budget cs ≡ o → is_live c cs ≡ false → option_map one_more o ≡ Some x → CopiedGood x (c ∷ cs) p b t) [
      | None ↦ λ next dead is. absurd cc
      | Some y ↦ λ next dead is.
          let same : one_more y ≡ x = cc in
          subst P same (one_later c cs y p b t (copied_next budget cs y p b t next (pass p c cs b t dead h)))
    ] in
    elim (cases_Bool (is_live c cs)) [
      | inl live ↦
          let is : Some first ≡ Some x = sym (cond-true (is_live c cs) (Some first) (option_map one_more (copy_next budget cs)) live) ∙ e in
          let same : first ≡ x = cc in
          subst P same (copy_one p c cs b t live h, omega arith)
      | inr dead ↦ behind (copy_next budget cs) refl dead (sym (cond-false (is_live c cs) (Some first) (option_map one_more (copy_next budget cs)) dead) ∙ e)
    ]

pub all_passed : (budget : ℕ) (cs : List Needle) (p : Pair) (b t : Outcome) → length cs ≤ budget → copy_next budget cs ≡ None → Follows p cs b t → b ≡ t
all_passed budget [] p b t long e h = h.0
all_passed zero (c ∷ cs) p b t long e h = absurd (omega arith)
all_passed (suc budget) (c ∷ cs) p b t long e h =
    let first : Copied = record { needle = c; passed = 1 } in
    let behind : (o : Option Copied) → copy_next budget cs ≡ o → is_live c cs ≡ false → option_map one_more o ≡ None → b ≡ t =
    λ o. elim o as (λ o. copy_next budget cs ≡ o → is_live c cs ≡ false → option_map one_more o ≡ None → b ≡ t) [
      | None ↦ λ next dead is. all_passed budget cs p b t (omega arith) next (pass p c cs b t dead h)
      | Some y ↦ λ next dead is. absurd cc
    ] in
    elim (cases_Bool (is_live c cs)) [
      | inl live ↦
          let is : Some first ≡ None = sym (cond-true (is_live c cs) (Some first) (option_map one_more (copy_next budget cs)) live) ∙ e in
          absurd cc
      | inr dead ↦ behind (copy_next budget cs) refl dead (sym (cond-false (is_live c cs) (Some first) (option_map one_more (copy_next budget cs)) dead) ∙ e)
    ]

-- the needles of a step that ends are all passed, or one of them is copied first
pub some_passed : (budget : ℕ) (cs : List Needle) (p : Pair) (b t : Outcome) → copy_next budget cs ≡ None → Follows p cs b t → Follows p (drop budget cs) b t
some_passed zero cs p b t e h = h
some_passed (suc budget) [] p b t e h = h
some_passed (suc budget) (c ∷ cs) p b t e h =
    let first : Copied = record { needle = c; passed = 1 } in
    let behind : (o : Option Copied) → copy_next budget cs ≡ o → is_live c cs ≡ false → option_map one_more o ≡ None → Follows p (drop budget cs) b t =
    λ o. elim o as (λ o. copy_next budget cs ≡ o → is_live c cs ≡ false → option_map one_more o ≡ None → Follows p (drop budget cs) b t) [
      | None ↦ λ next dead is. some_passed budget cs p b t next (pass p c cs b t dead h)
      | Some y ↦ λ next dead is. absurd cc
    ] in
    elim (cases_Bool (is_live c cs)) [
      | inl live ↦
          let is : Some first ≡ None = sym (cond-true (is_live c cs) (Some first) (option_map one_more (copy_next budget cs)) live) ∙ e in
          absurd cc
      | inr dead ↦ behind (copy_next budget cs) refl dead (sym (cond-false (is_live c cs) (Some first) (option_map one_more (copy_next budget cs)) dead) ∙ e)
    ]

pub passed_fits : (budget : ℕ) (cs : List Needle) (x : Copied) → copy_next budget cs ≡ Some x → x.passed ≤ length cs
passed_fits zero cs x e = absurd cc
passed_fits (suc budget) [] x e = absurd cc
passed_fits (suc budget) (c ∷ cs) x e =
    let first : Copied = record { needle = c; passed = 1 } in
    let behind : (o : Option Copied) → copy_next budget cs ≡ o → option_map one_more o ≡ Some x → x.passed ≤ length (c ∷ cs) =
    λ o. elim o as (λ o. copy_next budget cs ≡ o → option_map one_more o ≡ Some x → x.passed ≤ length (c ∷ cs)) [
      | None ↦ λ next is. absurd cc
      | Some y ↦ λ next is.
          let same : one_more y ≡ x = cc in
          let P : Copied → Type 0 = λ z. z.passed ≤ length (c ∷ cs) in
          let small : y.passed ≤ length cs = passed_fits budget cs y next in
          subst P same (omega arith)
    ] in
    elim (cases_Bool (is_live c cs)) [
      | inl live ↦
          let is : Some first ≡ Some x = sym (cond-true (is_live c cs) (Some first) (option_map one_more (copy_next budget cs)) live) ∙ e in
          let same : first ≡ x = cc in
          let P : Copied → Type 0 = λ z. z.passed ≤ length (c ∷ cs) in
          subst P same (omega arith)
      | inr dead ↦ behind (copy_next budget cs) refl (sym (cond-false (is_live c cs) (Some first) (option_map one_more (copy_next budget cs)) dead) ∙ e)
    ]

-- the copy behind the next needle that is copied
pub copy_copied : (p : Pair) (fresh current : List Needle) (n budget : ℕ) (x : Copied) → copy_next budget (drop n current) ≡ Some x → CopiesAt p fresh current n
    → CopiesAt p (fresh ++ x.needle ∷ []) current (n + x.passed)
copy_copied p fresh current n budget x e h =
    let next = copied_next budget (drop n current) x p (look (rows_of fresh) p) (look (rows_of current) p) e (follows p fresh current n h) in
    let one = rows_append fresh (x.needle ∷ []) p outcome.Nothing in
    record {
      table =
          rows_append (fresh ++ x.needle ∷ []) (drop (n + x.passed) current) p outcome.Nothing
          ∙ ap (λ (o : Outcome). look_after (rows_of (drop (n + x.passed) current)) p o) one
          ∙ ap (λ (cs : List Needle). look_after (rows_of cs) p (cond (pair_eq x.needle.pair p) (needle_row x.needle).outcome (look (rows_of fresh) p))) (sym (drop-drop x.passed n current))
          ∙ next.0.0;
      gone = λ nothing. one ∙ next.0.1 nothing;
    }

-- where none of the next needles is copied, they may be passed
pub copy_passed : (p : Pair) (fresh current : List Needle) (n budget : ℕ) → copy_next budget (drop n current) ≡ None → CopiesAt p fresh current n → CopiesAt p fresh current (n + budget)
copy_passed p fresh current n budget e h =
    let F : List Needle → Type 0 = λ cs. Follows p cs (look (rows_of fresh) p) (look (rows_of current) p) in
    copies_from p fresh current (n + budget) (subst F (drop-drop budget n current) (some_passed budget (drop n current) p (look (rows_of fresh) p) (look (rows_of current) p) e
    (follows p fresh current n h)))

-- where nothing is left to copy, the next generation has the table
pub copy_done : (p : Pair) (fresh current : List Needle) (n : ℕ) → copy_next (length current) (drop n current) ≡ None → CopiesAt p fresh current n → look (rows_of fresh) p ≡ look (rows_of current) p
copy_done p fresh current n e h =
    all_passed (length current) (drop n current) p (look (rows_of fresh) p) (look (rows_of current) p) (omega (arith, length-drop n current)) e (follows p fresh current n h)
