-- A transcript has one judgement.
use Rattle.std.proofs.Common.{◌≡◌, ℕ, zero, suc, ◌≤◌, List, [], ◌∷◌, ◌++◌, length, take, sym, ap, subst, ◌∙◌, inl, inr, arith, Some}
use Rattle.std.proofs.Common.{append-nil as append_nil}
use Rattle.std.proofs.lemmas.Bool.{cases_lt}
use Rattle.std.specs.Prelude.{slice_get, ◌<◌}
use Rattle.std.specs.List.{AllByRecursion as Each}
use Rattle.hay_needle.specs.declared.settings.Settings.{Settings}
use Rattle.hay_reply.specs.Replies.{header_line}
use Rattle.hay_legal.specs.Items.{Asked, items_of}
use Rattle.hay_legal.specs.Statuses.{IsFront}
use Rattle.hay_audit_steps.specs.Reached.{texts}
use Rattle.hay_audit_steps.specs.Judged.{Explained, Fits, FitsWhole, IsGreatest, AreBeforeOpen, IsOpenItem, IsJudged, Judgement}
use Rattle.hay_audit_steps.specs.Judged.Judgement.{Lawful, Unlawful, Open}
use Rattle.hay_audit_steps.specs.Law.{OneJudgement}
use Rattle.hay_audit_steps.proofs.Judging.{before_within, take_all, take_twice, take_long, other_header}

-- THE FIRST OPEN ITEM

not_open : (items : List Asked) (transcript : List ℕ) (m n : ℕ) (asked : Asked) → Each (λ x. IsOpenItem transcript x → ⊥) (take n items) → m < n
    → slice_get items m ≡ Some asked → IsOpenItem transcript asked → ⊥
not_open items transcript m zero asked h less at is = omega (arith, less)
not_open [] transcript m (suc n) asked h less at is = absurd cc
not_open (x ∷ items) transcript zero (suc n) asked h less at is = h.0 (subst (λ (y : Asked). IsOpenItem transcript y) (let e : Some asked ≡ Some x = sym at in cc) is)
not_open (x ∷ items) transcript (suc m) (suc n) asked h less at is = not_open items transcript m n asked h.1 (omega (arith, less)) at is

not_less : (items : List Asked) (transcript : List ℕ) (m n : ℕ) → AreBeforeOpen items transcript m → AreBeforeOpen items transcript n → m < n → ⊥
not_less items transcript m n one other less = elim one.next [
  | inl all ↦ omega (arith, all, less, before_within items transcript n other)
  | inr next ↦ not_open items transcript m n next.0 other.judged less next.1 next.2
]

one_open : (items : List Asked) (transcript : List ℕ) (m n : ℕ) → AreBeforeOpen items transcript m → AreBeforeOpen items transcript n → m ≡ n
one_open items transcript m n one other = elim (cases_lt m n) [
  | inl less ↦ absurd (not_less items transcript m n one other less)
  | inr more ↦ elim (cases_lt n m) [ inl less ↦ absurd (not_less items transcript n m other one less) | inr same ↦ omega (arith, more, same) ]
]

-- ONE JUDGEMENT OF THE n ITEMS BEFORE IT

-- the n items that fit are the first n of themselves
front_of : (settings : Settings) (items : List Asked) (transcript : List ℕ) (n : ℕ) → n ≤ length items → Fits settings items transcript n → Fits settings (take n items) transcript n
front_of settings items transcript n within fits =
    let long : length (take n items) ≡ n = take_long items n within in
    (omega (arith, long), subst (λ (xs : List Asked). Explained settings xs (λ text. IsFront text transcript)) (sym (take_twice items n n (omega arith))) fits.1)

whole_fits : (settings : Settings) (items : List Asked) (transcript : List ℕ) (n : ℕ) → n ≡ length items → FitsWhole settings items transcript → Fits settings items transcript n
whole_fits settings items transcript n all e =
    let same : take n items ≡ items = ap (λ (i : ℕ). take i items) all ∙ take_all items in (
      omega (arith, all),
      subst (λ (xs : List Asked). Explained settings xs (λ text. IsFront text transcript)) (sym same)
          (record {
            faults = e.faults;
            fuses = e.fuses;
            arms = e.arms;
            disks = e.disks;
            lanes = e.lanes;
            turns = e.turns;
            t = e.t;
            asked = e.asked;
            legal = e.legal;
            fits = e.fits;
            told = ([], sym e.told ∙ sym (append_nil (header_line settings ++ texts e.turns)));
          }),
    )

-- n items that fit, of which all are unlawful only if the whole does not fit
never_unlawful : (settings : Settings) (items : List Asked) (transcript : List ℕ) (n m : ℕ) → n ≤ length items → Fits settings items transcript n
    → (n ≡ length items → FitsWhole settings items transcript) → IsJudged settings items transcript n (Unlawful m) → ⊥
never_unlawful settings items transcript n m within fits whole h = elim h.1 [
  | inl less ↦ (h.0).no_more n less (front_of settings items transcript n within fits)
  | inr behind ↦ elim behind [
    | inl all ↦ all.2 (whole all.1)
    | inr other ↦ other_header settings items transcript n other.1 fits
  ]
]

one_greatest : (settings : Settings) (items : List Asked) (transcript : List ℕ) (m l : ℕ) → IsGreatest settings items transcript m → IsGreatest settings items transcript l → m < l → ⊥
one_greatest settings items transcript m l h g less = elim g.fits [
  | inl fits ↦ h.no_more l less fits
  | inr none ↦ omega (arith, less, none.0)
]

same_judged : (settings : Settings) (items : List Asked) (transcript : List ℕ) (n : ℕ) (a b : Judgement) → n ≤ length items
    → IsJudged settings items transcript n a → IsJudged settings items transcript n b → a ≡ b
same_judged settings items transcript n (Lawful m) (Lawful l) within h g = ap (λ (i : ℕ). Lawful i) (h.0 ∙ sym g.0)
same_judged settings items transcript n (Open m) (Open l) within h g = ap (λ (i : ℕ). Open i) (h.0 ∙ sym g.0)
same_judged settings items transcript n (Lawful m) (Open l) within h g = absurd (omega (arith, h.1, g.1))
same_judged settings items transcript n (Open m) (Lawful l) within h g = absurd (omega (arith, h.1, g.1))
same_judged settings items transcript n (Lawful m) (Unlawful l) within h g =
    absurd (never_unlawful settings items transcript n l within (whole_fits settings items transcript n h.1 h.2) (λ all. h.2) g)
same_judged settings items transcript n (Unlawful m) (Lawful l) within h g =
    absurd (never_unlawful settings items transcript n m within (whole_fits settings items transcript n g.1 g.2) (λ all. g.2) h)
same_judged settings items transcript n (Open m) (Unlawful l) within h g =
    absurd (never_unlawful settings items transcript n l within h.2 (λ all. absurd (omega (arith, h.1, all))) g)
same_judged settings items transcript n (Unlawful m) (Open l) within h g =
    absurd (never_unlawful settings items transcript n m within g.2 (λ all. absurd (omega (arith, g.1, all))) h)
same_judged settings items transcript n (Unlawful m) (Unlawful l) within h g = elim (cases_lt m l) [
  | inl less ↦ absurd (one_greatest settings (take n items) transcript m l h.0 g.0 less)
  | inr more ↦ elim (cases_lt l m) [
    | inl less ↦ absurd (one_greatest settings (take n items) transcript l m g.0 h.0 less)
    | inr same ↦ ap (λ (i : ℕ). Unlawful i) (let e : m ≡ l = omega (arith, more, same) in e)
  ]
]

pub one_judgement : OneJudgement
one_judgement settings script transcript a b h g =
    let same : g.0 ≡ h.0 = one_open (items_of script) transcript g.0 h.0 g.1 h.1 in
    same_judged settings (items_of script) transcript h.0 a b (before_within (items_of script) transcript h.0 h.1) h.2
    (subst (λ (n : ℕ). IsJudged settings (items_of script) transcript n b) same g.2)
