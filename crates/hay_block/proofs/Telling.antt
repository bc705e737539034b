-- Notes that are made behind a block.
use Rattle.std.proofs.Common.{◌≡◌, ◌<◌, ◌+◌, ◌++◌, ℕ, zero, suc, List, [], ◌∷◌, length, drop, flat_map, refl, sym, ap, subst, ◌∙◌, arith, Some, slice_get, append_assoc}
use Rattle.std.specs.List.{range_with_len}
use Rattle.hay_legal.specs.declared.turn.LogNote.{LogNote}
use Rattle.hay_block.specs.Behind.{log_note_from}
use Rattle.hay_block.specs.Stores.{notes_from}

-- they are those of all volumes, by their fronts and lines
pub notes_are : (front : ℕ → ℕ) (lines : ℕ → List ℕ) (a n : ℕ) (fronts : List ℕ) (told : List (List ℕ)) → length fronts ≡ n → length told ≡ n
    → ((i : ℕ) → i < n → (slice_get fronts i ≡ Some (front (a + i))) × (slice_get told i ≡ Some (lines (a + i))))
    → notes_from a fronts told ≡ flat_map (λ v. log_note_from v (front v) (lines v)) (range_with_len a n)
notes_are front lines a zero [] told many many_told each = refl
notes_are front lines a zero (f ∷ fronts) told many many_told each = absurd (omega (arith, many))
notes_are front lines a (suc n) [] told many many_told each = absurd (omega (arith, many))
notes_are front lines a (suc n) (f ∷ fronts) [] many many_told each = absurd (omega (arith, many_told))
notes_are front lines a (suc n) (f ∷ fronts) (own ∷ told) many many_told each =
    let here = each 0 (omega arith) in
    let none : a + 0 ≡ a = omega arith in
    let f_is : f ≡ front a = cc (here.0 ∙ ap (λ k. Some (front k)) none) in
    let own_is : own ≡ lines a = cc (here.1 ∙ ap (λ k. Some (lines k)) none) in
    let less : length fronts ≡ n = omega (arith, many) in
    let less_told : length told ≡ n = omega (arith, many_told) in
    ap (λ z. log_note_from a z own ++ notes_from (a + 1) fronts told) f_is
    ∙ (ap (λ z. log_note_from a (front a) z ++ notes_from (a + 1) fronts told) own_is
    ∙ ap (λ z. log_note_from a (front a) (lines a) ++ z) (notes_are front lines (a + 1) n fronts told less less_told
    (λ i below.
    let e = each (suc i) (omega (arith, below)) in
    let k : a + suc i ≡ a + 1 + i = omega arith in
    (e.0 ∙ ap (λ m. Some (front m)) k, e.1 ∙ ap (λ m. Some (lines m)) k))))

-- one volume more
one_note_more : (a : ℕ) (fronts : List ℕ) (told : List (List ℕ)) (i f : ℕ) (own : List ℕ) → slice_get fronts i ≡ Some f → slice_get told i ≡ Some own
    → notes_from (a + i) (drop i fronts) (drop i told) ≡ log_note_from (a + i) f own ++ notes_from (a + suc i) (drop (suc i) fronts) (drop (suc i) told)
one_note_more a [] told i f own at at_own = absurd cc
one_note_more a (g ∷ fronts) [] i f own at at_own = absurd cc
one_note_more a (g ∷ fronts) (first ∷ told) zero f own at at_own =
    let f_is : g ≡ f = cc at in
    let own_is : first ≡ own = cc at_own in
    let k : a + 0 + 1 ≡ a + 1 = omega arith in
    ap (λ z. log_note_from (a + 0) z first ++ notes_from (a + 0 + 1) fronts told) f_is
    ∙ (ap (λ z. log_note_from (a + 0) f z ++ notes_from (a + 0 + 1) fronts told) own_is ∙ ap (λ m. log_note_from (a + 0) f own ++ notes_from m fronts told) k)
one_note_more a (g ∷ fronts) (first ∷ told) (suc i) f own at at_own =
    let k : a + suc i ≡ a + 1 + i = omega arith in
    let m : a + 1 + suc i ≡ a + suc (suc i) = omega arith in
    subst (λ b. notes_from b (drop i fronts) (drop i told) ≡ log_note_from b f own ++ notes_from (a + suc (suc i)) (drop (suc i) fronts) (drop (suc i) told)) (sym k)
    (subst (λ b. notes_from (a + 1 + i) (drop i fronts) (drop i told) ≡ log_note_from (a + 1 + i) f own ++ notes_from b (drop (suc i) fronts) (drop (suc i) told)) m
    (one_note_more (a + 1) fronts told i f own at at_own))

-- what a note tells, where there are lines
pub noted_one : (v from : ℕ) (own : List ℕ) → (own ≡ [] → ⊥) → log_note_from v from own ≡ record { volume = v; from = from; lines = own } ∷ []
noted_one v from [] some = absurd (some refl)
noted_one v from (line ∷ own) some = refl

-- where there are none, there is no note
pub nothing_noted : (v from : ℕ) (own : List ℕ) → length own ≡ 0 → log_note_from v from own ≡ []
nothing_noted v from [] none = refl
nothing_noted v from (line ∷ own) none = absurd (omega (arith, none))

-- notes that are made so far, and those that are left
pub one_note : (fronts : List ℕ) (told : List (List ℕ)) (i f : ℕ) (own : List ℕ) (notes more all : List LogNote) → slice_get fronts i ≡ Some f → slice_get told i ≡ Some own
    → more ≡ notes ++ log_note_from i f own → notes ++ notes_from i (drop i fronts) (drop i told) ≡ all → more ++ notes_from (i + 1) (drop (i + 1) fronts) (drop (i + 1) told) ≡ all
one_note fronts told i f own notes more all at at_own made whole =
    let here : 0 + i ≡ i = omega arith in
    let next : 0 + suc i ≡ i + 1 = omega arith in
    let more_by_one : suc i ≡ i + 1 = omega arith in
    let rest : List LogNote = notes_from (i + 1) (drop (i + 1) fronts) (drop (i + 1) told) in
    let step : notes_from i (drop i fronts) (drop i told) ≡ log_note_from i f own ++ rest =
    subst (λ n. notes_from i (drop i fronts) (drop i told) ≡ log_note_from i f own ++ notes_from (i + 1) (drop n fronts) (drop n told)) more_by_one
    (subst (λ n. notes_from i (drop i fronts) (drop i told) ≡ log_note_from i f own ++ notes_from n (drop (suc i) fronts) (drop (suc i) told)) next
    (subst (λ n. notes_from n (drop i fronts) (drop i told) ≡ log_note_from n f own ++ notes_from (0 + suc i) (drop (suc i) fronts) (drop (suc i) told)) here
    (one_note_more 0 fronts told i f own at at_own))) in
    ap (λ z. z ++ rest) made ∙ (append_assoc notes (log_note_from i f own) rest ∙ (ap (λ z. notes ++ z) (sym step) ∙ whole))
