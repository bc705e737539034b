-- The steps of a line on a lock are those of its doings, each at the number of acts that its holding found.
use Rattle.std.proofs.Common.{◌≡◌, ℕ, zero, suc, ◌+◌, ◌-◌, ◌≤◌, Bool, true, false, cond, List, [], ◌∷◌, ◌++◌, length, map, filter, take, drop, refl, sym, ap, subst, ◌∙◌, arith}
use Rattle.std.proofs.Common.{append_assoc, length-append, length-drop}
use Rattle.std.specs.Prelude.{◌==◌}
use Rattle.std.specs.List.{AllByRecursion as Each, enumerate_from}
use Rattle.std.proofs.lemmas.Bool.{eq-eqb}
use Rattle.std.proofs.lemmas.List.Elements.{filter-append}
use Rattle.std.proofs.Math.Seq.{drop-append_seam}
use Rattle.std.proofs.lemmas.List.{drop-append-le, length-map, length-take-le, take-append-drop}
use mathlib.Core.List.{IsPrefix}
use Rattle.hay_core.specs.declared.entry.CoreTag.{CoreTag}
use Rattle.hay_history.proofs.Lists.{each_weaker}
use Rattle.hay_turn.proofs.Prefixes.{prefix_trans}
use Rattle.hay_meeting.specs.Locks.{BearsAt, Doing, IsDoing, Lock, LockSight, Rises, Worked, is_of_line, left, of_line, past, replayed}
use Rattle.hay_meeting.proofs.Replays.{left_append, prefix_length, prefix_take}

-- lists that begin alike and are alike end alike
pub same_rest : {A : Type 0} (xs ys zs : List A) → xs ++ ys ≡ xs ++ zs → ys ≡ zs
same_rest xs ys zs same = sym (drop-append_seam xs ys) ∙ (ap (drop (length xs)) same ∙ drop-append_seam xs zs)

take_within : {A : Type 0} (n : ℕ) (xs ys : List A) → n ≤ length xs → take n (xs ++ ys) ≡ take n xs
take_within zero xs ys le = refl
take_within (suc n) [] ys le = absurd (omega (arith, le))
take_within (suc n) (x ∷ xs) ys le = ap (λ z. x ∷ z) (take_within n xs ys (omega (arith, le)))

module _ {S E X T : Type 0} (lock : Lock S E X T) (stamp : T → CoreTag) (stamped : (before : S) (act : E) → stamp (lock.step before act) ≡ lock.tag act) where
  -- the steps of a line among acts
  abbrev pub steps_by : ℕ → ℕ → S → List E → List (ℕ × T)
  steps_by line n before acts = filter (λ at. (stamp at.1).line == line) (enumerate_from n (replayed lock before acts))

  -- the test of a step is that of its act
  same_test : (line : ℕ) (before : S) (act : E) → ((stamp (lock.step before act)).line == line) ≡ is_of_line lock line act
  same_test line before act = ap (λ (t : CoreTag). t.line == line) (stamped before act)

  pub steps_none : (line n : ℕ) (before : S) (acts : List E) → of_line lock line acts ≡ [] → steps_by line n before acts ≡ []
  steps_none line n before [] none = refl
  steps_none line n before (act ∷ acts) none =
      let rest : List (ℕ × T) = steps_by line (n + 1) (lock.next act before) acts in
      ap (λ (b : Bool). cond b ((n, lock.step before act) ∷ rest) rest) (same_test line before act)
      ∙ elim (is_of_line lock line act) as (λ (b : Bool). cond b (act ∷ of_line lock line acts) (of_line lock line acts) ≡ []
      → cond b ((n, lock.step before act) ∷ rest) rest ≡ []) [
        | true ↦ λ e. absurd (cc e)
        | false ↦ λ e. steps_none line (n + 1) (lock.next act before) acts e
      ] none

  -- the first step of a line, and its further steps behind it
  pub steps_more : (line n : ℕ) (before : S) (pre rest : List E) (act : E) → of_line lock line pre ≡ [] → (lock.tag act).line ≡ line
      → steps_by line n before (pre ++ act ∷ rest)
      ≡ (n + length pre, lock.step (left lock before pre) act) ∷ steps_by line (n + length pre + 1) (left lock before (pre ++ act ∷ [])) rest
  steps_more line n before [] rest act none mine =
      let yes : ((stamp (lock.step before act)).line == line) ≡ true = eq-eqb (stamp (lock.step before act)).line line (ap (λ (t : CoreTag). t.line) (stamped before act) ∙ mine) in
      let zero_more : n ≡ n + 0 = omega arith in
      rw yes (ap (λ (k : ℕ). (k, lock.step before act) ∷ steps_by line (k + 1) (lock.next act before) rest) zero_more)
  steps_more line n before (x ∷ pre) rest act none mine =
      let acts : List E = pre ++ act ∷ rest in
      let goal : ℕ → List (ℕ × T) = λ k. (k, lock.step (left lock (lock.next x before) pre) act) ∷ steps_by line (k + 1) (left lock (lock.next x before) (pre ++ act ∷ [])) rest in
      let more : (n + 1) + length pre ≡ n + suc (length pre) = omega arith in
      ap (λ (b : Bool). cond b ((n, lock.step before x) ∷ steps_by line (n + 1) (lock.next x before) acts) (steps_by line (n + 1) (lock.next x before) acts)) (same_test line before x)
      ∙ elim (is_of_line lock line x) as (λ (b : Bool). cond b (x ∷ of_line lock line pre) (of_line lock line pre) ≡ []
      → cond b ((n, lock.step before x) ∷ steps_by line (n + 1) (lock.next x before) acts) (steps_by line (n + 1) (lock.next x before) acts) ≡ goal (n + suc (length pre))) [
        | true ↦ λ e. absurd (cc e)
        | false ↦ λ e. steps_more line (n + 1) (lock.next x before) pre rest act e mine ∙ ap goal more
      ] none

  -- WHERE DOINGS STAND

  -- all of them lie in h
  abbrev Within : List E → Doing E → Type 0
  Within h doing = IsPrefix (past doing) h

  abbrev OfLine : ℕ → Doing E → Type 0
  OfLine line doing = (lock.tag doing.act).line ≡ line

  -- acts with an act behind so many of them, in parts
  parted : (h before rest held : List E) (act : E) → h ≡ before ++ rest → IsPrefix before held → IsPrefix (held ++ act ∷ []) h
      → (more : List E) × (later : List E) × (held ≡ before ++ more) × (rest ≡ more ++ act ∷ later) × (h ≡ (held ++ act ∷ []) ++ later)
  parted h before rest held act whole from to =
      let more : List E = from.0 in
      let later : List E = to.0 in
      let all : before ++ rest ≡ before ++ (more ++ act ∷ later) =
      sym whole ∙ (sym to.1 ∙ (append_assoc held (act ∷ []) later ∙ (ap (λ z. z ++ act ∷ later) (sym from.1) ∙ append_assoc before more (act ∷ later)))) in
      (more, later, sym from.1, same_rest before rest (more ++ act ∷ later) all, sym to.1)

  -- so many doings are so many acts at least
  enough : (line : ℕ) (h before rest : List E) (doings : List (Doing E)) → h ≡ before ++ rest → Rises lock before doings → Each (Within h) doings → Each (OfLine line) doings
      → length doings ≤ length (of_line lock line rest)
  enough line h before rest [] whole rises within of = omega arith
  enough line h before rest (d ∷ ds) whole rises within of =
      let p = parted h before rest d.held d.act whole rises.0 within.0 in
      let tail = enough line h (past d) p.1 ds p.4 rises.1 within.1 of.1 in
      let yes : is_of_line lock line d.act ≡ true = eq-eqb (lock.tag d.act).line line of.0 in
      let split : of_line lock line rest ≡ of_line lock line p.0 ++ d.act ∷ of_line lock line p.1 =
      ap (of_line lock line) p.3 ∙ (filter-append (is_of_line lock line) p.0 (d.act ∷ p.1)
      ∙ ap (λ (b : Bool). of_line lock line p.0 ++ cond b (d.act ∷ of_line lock line p.1) (of_line lock line p.1)) yes) in
      omega (arith, tail, ap length split ∙ length-append (of_line lock line p.0) (d.act ∷ of_line lock line p.1))

  none_of : {A : Type 0} (xs : List A) → length xs ≡ 0 → xs ≡ []
  none_of [] e = refl
  none_of (x ∷ xs) e = absurd (omega (arith, e))

  -- the number of acts that a doing's holding found behind the cut, and the doing's step
  abbrev pub placed : S → ℕ → Doing E → ℕ × T
  placed base cut doing = (length doing.held - cut, lock.step (left lock base (drop cut doing.held)) doing.act)

  steps_from : (line cut : ℕ) (base : S) (h before rest : List E) (doings : List (Doing E)) → h ≡ before ++ rest → cut ≤ length before
      → Rises lock before doings → Each (Within h) doings → Each (OfLine line) doings → length (of_line lock line rest) ≡ length doings
      → steps_by line (length before - cut) (left lock base (drop cut before)) rest ≡ map (placed base cut) doings
  steps_from line cut base h before rest [] whole low rises within of many =
      steps_none line (length before - cut) (left lock base (drop cut before)) rest (none_of (of_line lock line rest) many)
  steps_from line cut base h before rest (d ∷ ds) whole low rises within of many =
      let p = parted h before rest d.held d.act whole rises.0 within.0 in
      let more : List E = p.0 in
      let later : List E = p.1 in
      let yes : is_of_line lock line d.act ≡ true = eq-eqb (lock.tag d.act).line line of.0 in
      let split : of_line lock line rest ≡ of_line lock line more ++ d.act ∷ of_line lock line later =
      ap (of_line lock line) p.3 ∙ (filter-append (is_of_line lock line) more (d.act ∷ later)
      ∙ ap (λ (b : Bool). of_line lock line more ++ cond b (d.act ∷ of_line lock line later) (of_line lock line later)) yes) in
      let tail = enough line h (past d) later ds p.4 rises.1 within.1 of.1 in
      let count : length (of_line lock line rest) ≡ length (of_line lock line more) + suc (length (of_line lock line later)) =
      ap length split ∙ length-append (of_line lock line more) (d.act ∷ of_line lock line later) in
      let none : of_line lock line more ≡ [] = none_of (of_line lock line more) (omega (arith, count, tail, many)) in
      let rest_many : length (of_line lock line later) ≡ length ds = omega (arith, count, tail, many) in
      let s : S = left lock base (drop cut before) in
      let n : ℕ = length before - cut in
      let held_is : drop cut d.held ≡ drop cut before ++ more = ap (drop cut) p.2 ∙ drop-append-le cut before more low in
      let long : length d.held ≡ length before + length more = ap length p.2 ∙ length-append before more in
      let at : n + length more ≡ length d.held - cut = omega (arith, long, low) in
      let state : left lock s more ≡ left lock base (drop cut d.held) = sym (left_append lock base (drop cut before) more) ∙ ap (left lock base) (sym held_is) in
      let past_long : length (past d) ≡ length d.held + 1 = length-append d.held (d.act ∷ []) in
      let past_low : cut ≤ length (past d) = omega (arith, past_long, long, low) in
      let next_at : n + length more + 1 ≡ length (past d) - cut = omega (arith, past_long, long, low) in
      let held_low : cut ≤ length d.held = omega (arith, long, low) in
      let past_is : drop cut (past d) ≡ drop cut d.held ++ d.act ∷ [] = drop-append-le cut d.held (d.act ∷ []) held_low in
      let next_state : left lock s (more ++ d.act ∷ []) ≡ left lock base (drop cut (past d)) =
      sym (left_append lock base (drop cut before) (more ++ d.act ∷ []))
      ∙ ap (left lock base) (sym (append_assoc (drop cut before) more (d.act ∷ [])) ∙ (ap (λ z. z ++ d.act ∷ []) (sym held_is) ∙ sym past_is)) in
      ap (λ z. steps_by line n s z) p.3
      ∙ (steps_more line n s more later d.act none of.0
      ∙ (ap (λ (m : ℕ). (m, lock.step (left lock s more) d.act) ∷ steps_by line (n + length more + 1) (left lock s (more ++ d.act ∷ [])) later) at
      ∙ (ap (λ (z : S). (length d.held - cut, lock.step z d.act) ∷ steps_by line (n + length more + 1) (left lock s (more ++ d.act ∷ [])) later) state
      ∙ (ap (λ (m : ℕ). placed base cut d ∷ steps_by line m (left lock s (more ++ d.act ∷ [])) later) next_at
      ∙ (ap (λ (z : S). placed base cut d ∷ steps_by line (length (past d) - cut) z later) next_state
      ∙ ap (λ z. placed base cut d ∷ z) (steps_from line cut base h (past d) later ds p.4 past_low rises.1 within.1 of.1 rest_many))))))

  -- THE STEPS OF A LINE

  rises_from : (xs ys : List E) (doings : List (Doing E)) → IsPrefix xs ys → Rises lock ys doings → Rises lock xs doings
  rises_from xs ys [] p rises = tt
  rises_from xs ys (d ∷ ds) p rises = (prefix_trans xs ys d.held p rises.0, rises.1)

  module _ {tag : CoreTag} {a b : LockSight E X} {doings : List (Doing E)} {cut : ℕ} {h : List E} (worked : Worked lock tag a b doings) (bears : BearsAt lock cut h tag.line a b) where
    pub cut_seen : IsPrefix (take cut h) a.seen
    cut_seen =
        let more = prefix_trans a.seen b.seen h (worked.later).seen bears.seen in
        let back : take (length a.seen) h ≡ a.seen = prefix_take a.seen h more in
        (drop cut a.seen, ap (λ z. z ++ drop cut a.seen) (taken_of more back) ∙ take-append-drop cut a.seen)
      where
        taken_of : IsPrefix a.seen h → take (length a.seen) h ≡ a.seen → take cut h ≡ take cut a.seen
        taken_of more back = subst (λ z. take cut z ≡ take cut a.seen) more.1 (take_within cut a.seen more.0 bears.low)

    within : Each (Within h) doings
    within = each_weaker (IsDoing lock a b) (Within h) (λ d is. prefix_trans (past d) b.seen h is.to bears.seen) doings worked.each

    of_the_line : Each (OfLine tag.line) doings
    of_the_line = each_weaker (λ d. lock.tag d.act ≡ tag) (OfLine tag.line) (λ d is. ap (λ (t : CoreTag). t.line) is) doings worked.tags

    -- its steps behind the cut, whatever stands there
    pub steps_are : (base : S) → steps_by tag.line 0 base (drop cut h) ≡ map (placed base cut) doings
    steps_are base =
        let long : length (take cut h) ≡ cut =
        length-take-le cut h (let l = prefix_length a.seen h (prefix_trans a.seen b.seen h (worked.later).seen bears.seen) in let lo = bears.low in omega (arith, l, lo)) in
        let none : drop cut (take cut h) ≡ [] = none_of (drop cut (take cut h)) (omega (arith, length-drop cut (take cut h), long)) in
        let zero_at : length (take cut h) - cut ≡ 0 = omega (arith, long) in
        let many : length (of_line lock tag.line (drop cut h)) ≡ length doings =
        ap length (bears.mine ∙ (ap (drop (length a.own)) worked.own ∙ drop-append_seam a.own (map (λ d. d.act) doings))) ∙ length-map doings (λ d. d.act) in
        ap (λ (n : ℕ). steps_by tag.line n base (drop cut h)) (sym zero_at)
        ∙ (ap (λ z. steps_by tag.line (length (take cut h) - cut) (left lock base z) (drop cut h)) (sym none)
        ∙ steps_from tag.line cut base h (take cut h) (drop cut h) doings (sym (take-append-drop cut h)) (omega (arith, long))
        (rises_from (take cut h) a.seen doings cut_seen worked.rises) within of_the_line many)
