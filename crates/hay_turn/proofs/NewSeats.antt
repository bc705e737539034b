-- Seats that have done nothing.
use Rattle.std.proofs.Common.{◌≡◌, ◌⊎◌, inr, ℕ, zero, suc, ◌+◌, ◌-◌, ◌<◌, false, List, [], ◌∷◌, ◌++◌, length, drop, take, replicate, refl, sym, ap, ◌∙◌, inl, ⊎_elim, arith}
use Rattle.std.proofs.Common.{Option, Some, None, slice_get}
use Rattle.atomic_table.specs.Table.{Me, Splits}
use Rattle.atomic_table.specs.Seated.{TableId}
use Rattle.std.proofs.lemmas.List.{length-replicate}
use Rattle.hay_turn.specs.declared.rule.SeatView.{SeatView}
use Rattle.hay_turn.specs.declared.rule.Slot.{Slot}
use Rattle.hay_turn.specs.declared.rule.Stage.{Stage}
use Rattle.hay_turn.specs.declared.rule.Stage.TheVariants.{Idle, Holding}
use Rattle.hay_turn.specs.Ruled.{fresh, later_seats, first_seat, Ruled}
use Rattle.hay_turn.specs.Seats.{SeatState, seat_state, new_seat, is_holding, AreNew, IsSeat}
use Rattle.hay_turn.proofs.Joining.{splits}

abbrev pub M : Type 0 → Type 0 → Type 0 → Type 0
M T B E = Me (Slot T E) (SeatView T B E)

module _ {T B E : Type 0} where
  abbrev pub lone : Option B → ℕ → ℕ → SeatView T B E
  lone b n i = record { origin = None; start = b; seats = n; first = i; owns = [] ∷ []; seen = []; told = []; made = []; stage = Idle; ticket = 0 }

  one_more : (x : Option T) (b : Option B) (n i m : ℕ) → n - i ≡ suc m → n - (i + 1) ≡ m
      → (later_seats (fresh {T = T} {B = B} {E = E} x b n i) ≡ fresh x b n (i + 1)) × (first_seat (fresh {T = T} {B = B} {E = E} x b n i) ≡ lone b n i)
  one_more x b n i m e f = let blank : List E = [] in (
    (λ k. record {
      origin = x;
      start = b;
      seats = n;
      first = i + 1;
      owns = (ap (λ (z : ℕ). drop 1 (replicate z blank)) e ∙ ap (λ (z : ℕ). replicate z blank) (sym f)) k;
      seen = [];
      told = [];
      made = [];
      stage = Idle;
      ticket = 0;
    }),
    (λ k. record { origin = None; start = b; seats = n; first = i; owns = ap (λ (z : ℕ). take 1 (replicate z blank)) e k; seen = []; told = []; made = []; stage = Idle; ticket = 0 }),
  )

  pub next_fresh : (x : Option T) (b : Option B) (n i : ℕ) → i < n - 1 → (later_seats (fresh {T = T} {B = B} {E = E} x b n i) ≡ fresh x b n (i + 1))
      × (first_seat (fresh {T = T} {B = B} {E = E} x b n i) ≡ lone b n i)
  next_fresh x b n i lt = one_more x b n i (n - (i + 1)) (omega arith) refl

  pub last_fresh : (x : Option T) (b : Option B) (n i : ℕ) → n ≡ i + 1 → (me : M T B E) → me ≡ (fresh x b n i, []) → (t : TableId) → (me.0.owns ≡ [] ∷ []) × (seat_state t me.0 ≡ new_seat t b n i)
  last_fresh x b n i e me is t =
      let blank : List E = [] in let one : n - i ≡ 1 = omega arith in let owns : me.0.owns ≡ [] ∷ [] = ap (λ (m : M T B E). m.0.owns) is ∙ ap (λ (z : ℕ). replicate z blank) one in (
        owns,
        ap (λ (m : M T B E). seat_state t m.0) is ∙ (λ k. seat_state t (record {
          origin = x;
          start = b;
          seats = n;
          first = i;
          owns = ap (λ (z : ℕ). replicate z blank) one k;
          seen = [];
          told = [];
          made = [];
          stage = Idle;
          ticket = 0;
        })),
      )

  pub a_seat : (me : M T B E) (y : B) → me.0.owns ≡ [] ∷ [] → me.0.start ≡ Some y → me.0.made ≡ [] → me.0.stage ≡ Idle → me.1 ≡ [] → IsSeat me
  a_seat me y o s n r e = record { own = ([], o); start = (y, s); told_all = n; rests = inl (r, e) }

  pub fresh_splits : (by : E → ℕ) (stands : B → List E → T → Type 0) (seats id : ℕ) (me : M T B E) (x : Option T) (b : Option B) (n i : ℕ) → me ≡ (fresh x b n i, []) → i < n - 1
      → Splits (Ruled by stands seats) id me.0 (later_seats me.0) (first_seat me.0)
  fresh_splits by stands seats id me x b n i is lt =
      let blank : List E = [] in splits by stands seats id me.0 (ap (λ (m : M T B E). m.0.stage) is) (omega (arith, ap (λ (m : M T B E). length m.0.owns) is, length-replicate (n - i) blank))

-- what stands in a longer list
last_or : {A : Type 0} → (xs : List A) (a b : A) (j : ℕ) → slice_get (xs ++ a ∷ []) j ≡ Some b → (slice_get xs j ≡ Some b) ⊎ ((a ≡ b) × (j ≡ length xs))
last_or [] a b zero e = inr (cc e, refl)
last_or [] a b (suc j) e = absurd cc
last_or (x ∷ xs) a b zero e = inl e
last_or (x ∷ xs) a b (suc j) e = ⊎_elim inl (λ t. inr (t.0, ap suc t.1)) (last_or xs a b j e)

module _ {B E : Type 0} where
  pub push_new : (t : TableId) (b : Option B) (n i : ℕ) (seats : List (SeatState B E)) (s : SeatState B E) → AreNew t b n seats → length seats ≡ i → s ≡ new_seat t b n i
      → AreNew t b n (seats ++ s ∷ [])
  push_new t b n i seats s old len is j z e = ⊎_elim (λ p. old j z p) (λ p. sym p.0 ∙ (is ∙ ap (λ (k : ℕ). new_seat t b n k) (sym (p.1 ∙ len)))) (last_or seats s z j e)

holding_is : (s : Stage) → s ≡ Holding → is_holding s ≡ false → ⊥
holding_is s e f = absurd (cc (ap is_holding e, f))

module _ {T B E : Type 0} where
  pub at_rest : (me : M T B E) → IsSeat me → is_holding me.0.stage ≡ false → (me.0.stage ≡ Idle) × (me.1 ≡ [])
  at_rest me s f = ⊎_elim (λ t. t) (λ t. absurd (holding_is me.0.stage t.0 f)) s.rests
