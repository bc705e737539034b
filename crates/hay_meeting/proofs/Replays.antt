-- What the acts of one lock make, step by step, and the moments of sights.
use Rattle.std.proofs.Common.{◌≡◌, ℕ, zero, suc, ◌≤◌, List, [], ◌∷◌, ◌++◌, length, take, drop, refl, sym, ap, subst, ◌∙◌, arith, length-append, Option, Some, None}
use mathlib.Core.List.{IsPrefix}
use Rattle.std.proofs.Math.Seq.{take-append_seam}
use Rattle.std.proofs.lemmas.List.{take-append-drop}
use Rattle.hay_meeting.specs.Locks.{IsLaterAt, Lock, LockSight, add_shown, entries, latest_by, latest_of, left, moment_of, place_by, place_of, replayed}

-- BEGINNINGS

pub prefix_length : {A : Type 0} (xs ys : List A) → IsPrefix xs ys → length xs ≤ length ys
prefix_length xs ys p = omega (arith, ap length p.1, length-append xs p.0)

pub take_take : {A : Type 0} → (i j : ℕ) (xs : List A) → i ≤ j → take i (take j xs) ≡ take i xs
take_take zero j xs le = refl
take_take (suc i) zero xs le = absurd (omega (arith, le))
take_take (suc i) (suc j) [] le = refl
take_take (suc i) (suc j) (x ∷ xs) le = ap (λ z. x ∷ z) (take_take i j xs (omega (arith, le)))

pub take_prefix : {A : Type 0} → (n m : ℕ) (xs : List A) → n ≤ m → IsPrefix (take n xs) (take m xs)
take_prefix n m xs le = (drop n (take m xs), ap (λ z. z ++ drop n (take m xs)) (sym (take_take n m xs le)) ∙ take-append-drop n (take m xs))

-- a beginning is so many
pub prefix_take : {A : Type 0} → (xs ys : List A) → IsPrefix xs ys → take (length xs) ys ≡ xs
prefix_take xs ys p = subst (λ z. take (length xs) z ≡ xs) p.1 (take-append_seam xs p.0)

pub same_prefix : {A : Type 0} → (xs ys zs : List A) → IsPrefix xs zs → IsPrefix ys zs → length xs ≡ length ys → xs ≡ ys
same_prefix xs ys zs p q same = sym (prefix_take xs zs p) ∙ (ap (λ n. take n zs) same ∙ prefix_take ys zs q)

module _ {S E X T : Type 0} (lock : Lock S E X T) where
  -- WHAT STANDS

  pub left_append : (before : S) (xs ys : List E) → left lock before (xs ++ ys) ≡ left lock (left lock before xs) ys
  left_append before [] ys = refl
  left_append before (x ∷ xs) ys = left_append (lock.next x before) xs ys

  pub replayed_append : (before : S) (xs ys : List E) → replayed lock before (xs ++ ys) ≡ replayed lock before xs ++ replayed lock (left lock before xs) ys
  replayed_append before [] ys = refl
  replayed_append before (x ∷ xs) ys = ap (λ z. lock.step before x ∷ z) (replayed_append (lock.next x before) xs ys)

  pub length_replayed : (before : S) (acts : List E) → length (replayed lock before acts) ≡ length acts
  length_replayed before [] = refl
  length_replayed before (x ∷ xs) = ap suc (length_replayed (lock.next x before) xs)

  -- ENTRIES

  added : (shows : Option X) (xs ys : List X) → add_shown shows (xs ++ ys) ≡ add_shown shows xs ++ ys
  added None xs ys = refl
  added (Some x) xs ys = refl

  pub entries_append : (xs ys : List E) → entries lock (xs ++ ys) ≡ entries lock xs ++ entries lock ys
  entries_append [] ys = refl
  entries_append (x ∷ xs) ys = ap (add_shown (lock.shows x)) (entries_append xs ys) ∙ added (lock.shows x) (entries lock xs) (entries lock ys)

  -- the entries of a beginning begin the entries
  pub entries_prefix : (xs ys : List E) → IsPrefix xs ys → IsPrefix (entries lock xs) (entries lock ys)
  entries_prefix xs ys p = (entries lock p.0, sym (entries_append xs p.0) ∙ ap (entries lock) p.1)

  -- THE FIRST AND THE LATEST MOMENT at which so many were shown

  -- the entries of so many acts, the first of which shows this
  abbrev shown_of : List E → Option X → ℕ → List X
  shown_of acts s zero = []
  shown_of acts s (suc n) = add_shown s (entries lock (take n acts))

  shown_is : (act : E) (acts : List E) (n : ℕ) → entries lock (take n (act ∷ acts)) ≡ shown_of acts (lock.shows act) n
  shown_is act acts zero = refl
  shown_is act acts (suc n) = refl

  pub entries_place : (acts : List E) (p : ℕ) → p ≤ length (entries lock acts) → entries lock (take (place_of lock acts p) acts) ≡ take p (entries lock acts)
  entries_place [] zero le = refl
  entries_place [] (suc p) le = absurd (omega (arith, le))
  entries_place (act ∷ acts) zero le = shown_is act acts (place_by (place_of lock acts) (lock.shows act) 0) ∙ none (lock.shows act)
    where
      none : (s : Option X) → shown_of acts s (place_by (place_of lock acts) s 0) ≡ []
      none None = refl
      none (Some x) = refl
  entries_place (act ∷ acts) (suc p) le =
      shown_is act acts (place_by (place_of lock acts) (lock.shows act) (suc p)) ∙ elim (lock.shows act) as (λ (s : Option X). suc p ≤ length (add_shown s (entries lock acts))
      → shown_of acts s (place_by (place_of lock acts) s (suc p)) ≡ take (suc p) (add_shown s (entries lock acts))) [
        | None ↦ λ few. entries_place acts (suc p) few
        | Some x ↦ λ few. ap (λ z. x ∷ z) (entries_place acts p (omega (arith, few)))
      ] le

  pub place_zero : (acts : List E) → place_of lock acts 0 ≡ 0
  place_zero [] = refl
  place_zero (act ∷ acts) = here (lock.shows act)
    where
      here : (s : Option X) → place_by (place_of lock acts) s 0 ≡ 0
      here None = refl
      here (Some x) = refl

  -- as many entries as a beginning has need no more than the beginning
  pub place_within : (held rest : List E) (p : ℕ) → p ≤ length (entries lock held) → place_of lock (held ++ rest) p ≤ length held
  place_within [] rest zero le = omega (arith, place_zero rest)
  place_within [] rest (suc p) le = absurd (omega (arith, le))
  place_within (act ∷ held) rest zero le = omega (arith, place_zero (act ∷ held ++ rest))
  place_within (act ∷ held) rest (suc p) le =
      elim (lock.shows act) as (λ (s : Option X). suc p ≤ length (add_shown s (entries lock held)) → place_by (place_of lock (held ++ rest)) s (suc p) ≤ suc (length held)) [
        | None ↦ λ few. let r : place_of lock (held ++ rest) (suc p) ≤ length held = place_within held rest (suc p) few in omega (arith, r)
        | Some x ↦ λ few. let r : place_of lock (held ++ rest) p ≤ length held = place_within held rest p (omega (arith, few)) in omega (arith, r)
      ] le

  pub place_rises : (acts : List E) (p q : ℕ) → p ≤ q → place_of lock acts p ≤ place_of lock acts q
  place_rises [] p q le = omega arith
  place_rises (act ∷ acts) zero q le = omega (arith, place_zero (act ∷ acts))
  place_rises (act ∷ acts) (suc p) zero le = absurd (omega (arith, le))
  place_rises (act ∷ acts) (suc p) (suc q) le =
      elim (lock.shows act) as (λ (s : Option X). place_by (place_of lock acts) s (suc p) ≤ place_by (place_of lock acts) s (suc q)) [
        | None ↦ let r = place_rises acts (suc p) (suc q) le in omega (arith, r)
        | Some x ↦ let r = place_rises acts p q (omega (arith, le)) in omega (arith, r)
      ]

  pub entries_latest : (acts : List E) (p : ℕ) → p ≤ length (entries lock acts) → entries lock (take (latest_of lock acts p) acts) ≡ take p (entries lock acts)
  entries_latest [] zero le = refl
  entries_latest [] (suc p) le = absurd (omega (arith, le))
  entries_latest (act ∷ acts) p le = shown_is act acts (latest_by (latest_of lock acts) (lock.shows act) p) ∙
      elim (lock.shows act) as (λ (s : Option X). p ≤ length (add_shown s (entries lock acts))
      → shown_of acts s (latest_by (latest_of lock acts) s p) ≡ take p (add_shown s (entries lock acts))) [
        | None ↦ λ few. entries_latest acts p few
        | Some x ↦ λ few. elim p as (λ (p : ℕ). p ≤ suc (length (entries lock acts))
            → shown_of acts (Some x) (latest_by (latest_of lock acts) (Some x) p) ≡ take p (x ∷ entries lock acts)) [
              | zero ↦ λ few. refl
              | suc p ↦ λ few. ap (λ z. x ∷ z) (entries_latest acts p (omega (arith, few)))
            ] few
      ] le

  pub latest_rises : (acts : List E) (p q : ℕ) → p ≤ q → latest_of lock acts p ≤ latest_of lock acts q
  latest_rises [] p q le = omega arith
  latest_rises (act ∷ acts) zero q le =
      let none : latest_of lock acts 0 ≤ latest_of lock acts q = latest_rises acts 0 q le in
      elim (lock.shows act) as (λ (s : Option X). latest_by (latest_of lock acts) s 0 ≤ latest_by (latest_of lock acts) s q) [
        | None ↦ omega (arith, none)
        | Some x ↦ omega arith
      ]
  latest_rises (act ∷ acts) (suc p) zero le = absurd (omega (arith, le))
  latest_rises (act ∷ acts) (suc p) (suc q) le =
      elim (lock.shows act) as (λ (s : Option X). latest_by (latest_of lock acts) s (suc p) ≤ latest_by (latest_of lock acts) s (suc q)) [
        | None ↦ let r = latest_rises acts (suc p) (suc q) le in omega (arith, r)
        | Some x ↦ let r = latest_rises acts p q (omega (arith, le)) in omega (arith, r)
      ]

  pub place_first : (acts : List E) (p : ℕ) → place_of lock acts p ≤ latest_of lock acts p
  place_first [] p = omega arith
  place_first (act ∷ acts) zero = omega (arith, place_zero (act ∷ acts))
  place_first (act ∷ acts) (suc p) =
      elim (lock.shows act) as (λ (s : Option X). place_by (place_of lock acts) s (suc p) ≤ latest_by (latest_of lock acts) s (suc p)) [
        | None ↦ let r = place_first acts (suc p) in omega (arith, r)
        | Some x ↦ let r = place_first acts p in omega (arith, r)
      ]

  -- a beginning with no more entries is no later
  pub latest_past : (held rest : List E) (p : ℕ) → length (entries lock held) ≤ p → length held ≤ latest_of lock (held ++ rest) p
  latest_past [] rest p le = omega arith
  latest_past (act ∷ held) rest zero le =
      elim (lock.shows act) as (λ (s : Option X). length (add_shown s (entries lock held)) ≤ 0 → suc (length held) ≤ latest_by (latest_of lock (held ++ rest)) s 0) [
        | None ↦ λ few. let r : length held ≤ latest_of lock (held ++ rest) 0 = latest_past held rest 0 few in omega (arith, r)
        | Some x ↦ λ few. absurd (omega (arith, few))
      ] le
  latest_past (act ∷ held) rest (suc p) le =
      elim (lock.shows act) as (λ (s : Option X). length (add_shown s (entries lock held)) ≤ suc p → suc (length held) ≤ latest_by (latest_of lock (held ++ rest)) s (suc p)) [
        | None ↦ λ few. let r : length held ≤ latest_of lock (held ++ rest) (suc p) = latest_past held rest (suc p) few in omega (arith, r)
        | Some x ↦ λ few. let r : length held ≤ latest_of lock (held ++ rest) p = latest_past held rest p (omega (arith, few)) in omega (arith, r)
      ] le

  -- MOMENTS OF SIGHTS

  -- at the moment of a sight there stand just the entries that its view has shown
  pub shown_then : (h : List E) (s : LockSight E X) → IsPrefix s.shown (entries lock h) → entries lock (take (moment_of lock h s) h) ≡ s.shown
  shown_then h s shown =
      let p : ℕ = length s.shown in
      let q : ℕ = place_of lock h p in
      let r : ℕ = latest_of lock h p in
      let m : ℕ = moment_of lock h s in
      let few : p ≤ length (entries lock h) = prefix_length s.shown (entries lock h) shown in
      let all : length (take p (entries lock h)) ≡ p = ap length (prefix_take s.shown (entries lock h) shown) in
      let first = place_first h p in
      let low : q ≤ m = omega (arith, first) in
      let high : m ≤ r = omega arith in
      let from_there = prefix_length _ _ (entries_prefix (take q h) (take m h) (take_prefix q m h low)) in
      let to_there = prefix_length _ _ (entries_prefix (take m h) (take r h) (take_prefix m r h high)) in
      let at_q : length (entries lock (take q h)) ≡ p = ap length (entries_place h p few) ∙ all in
      let at_r : length (entries lock (take r h)) ≡ p = ap length (entries_latest h p few) ∙ all in
      let here : length (entries lock (take m h)) ≡ length s.shown = omega (arith, from_there, to_there, at_q, at_r) in
      same_prefix (entries lock (take m h)) s.shown (entries lock h) (entries_prefix (take m h) h (drop m h, take-append-drop m h)) shown here

  pub moment_rises : (h : List E) (a b : LockSight E X) → IsLaterAt a b → moment_of lock h a ≤ moment_of lock h b
  moment_rises h a b later =
      let more = prefix_length a.shown b.shown later.shown in
      let l = prefix_length a.seen b.seen later.seen in
      let r = place_rises h (length a.shown) (length b.shown) more in
      let t = latest_rises h (length a.shown) (length b.shown) more in omega (arith, l, r, t)

  -- it is no later than acts that the lane found behind it
  pub moment_within : (h : List E) (a : LockSight E X) (held : List E) → IsPrefix held h → IsPrefix a.seen held → IsPrefix a.shown (entries lock held)
      → moment_of lock h a ≤ length held
  moment_within h a held p seen shown =
      let l = prefix_length a.seen held seen in
      let r = prefix_length a.shown (entries lock held) shown in
      let w = subst (λ z. place_of lock z (length a.shown) ≤ length held) p.1 (place_within held p.0 (length a.shown) r) in omega (arith, l, w)

  -- and no earlier than acts that it has seen, if its view has shown all of them
  pub moment_past : (h : List E) (b : LockSight E X) (held : List E) → IsPrefix held h → IsPrefix held b.seen → IsPrefix (entries lock held) b.shown
      → length held ≤ moment_of lock h b
  moment_past h b held p seen shown =
      let l = prefix_length held b.seen seen in
      let r = prefix_length (entries lock held) b.shown shown in
      let w = subst (λ z. length held ≤ latest_of lock z (length b.shown)) p.1 (latest_past held p.0 (length b.shown) r) in omega (arith, l, w)
