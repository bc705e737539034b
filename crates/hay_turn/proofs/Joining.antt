-- The rule at the start, and how seats are split and joined.
use Rattle.std.proofs.Common.{◌≡◌, ◌≢◌, ◌⊎◌, ℕ, zero, suc, ◌+◌, ◌-◌, ◌^◌, ◌<◌, List, [], ◌∷◌, ◌++◌, length, drop, take, get_or, set, refl, sym, ap, ◌∙◌, subst, inl, inr, ⊎_elim, arith}
use mathlib.Core.Logic.{dite}
use Rattle.std.proofs.lemmas.List.{append-nil, length-replicate, get_or-replicate, length-append, get_or_append_left, get_or-append-add}
use mathlib.Core.Option.{none, some, some-injective, some-ne-none}
use mathlib.Core.Option as maybe
use native.Mathlib.Decide.{dec_lt}
use lib.ListN.{get_elem?}
use Rattle.atomic_table.specs.Table.{State, Me, step, keeps, opening, Allows, Splits, Joins}
use Rattle.atomic_table.proofs.Lists.{at_set, set_else, at_longer}
use Rattle.hay_turn.specs.declared.rule.SeatView.{SeatView}
use Rattle.hay_turn.specs.declared.rule.Slot.{Slot}
use Rattle.hay_turn.specs.declared.rule.Slot.TheVariants.{Value}
use Rattle.hay_turn.specs.declared.rule.Stage.TheVariants.{Idle, Holding}
use Rattle.hay_turn.specs.Acts.{acts_of, AllBelow}
use Rattle.hay_turn.specs.Ruled.{waits, seat_count, ticket_count, maker_view, later_seats, first_seat, note_of, no_seat, with_told, merged, Apart, Fits, Ruled}
use Rattle.hay_turn.specs.Steps.{after_learn, LearnsStart, SeesHistory}
use Rattle.hay_turn.proofs.ActLists.{total_set, total_snoc}
use Rattle.hay_turn.proofs.Keeps.{holds, apart_sym, still_out, same_word, placed, set_there, own_first}

module _ {A : Type 0} where
  -- an item of a list with one more is an item of the list, or the last
  pub at_end : (l : List A) (a b : A) (j : ℕ) → get_elem? (l ++ a ∷ []) j ≡ some b → (get_elem? l j ≡ some b) ⊎ ((a ≡ b) × (j ≡ length l))
  at_end [] a b zero e = inr (some-injective a b e, refl)
  at_end [] a b (suc j) e = absurd (some-ne-none b (sym e))
  at_end (x ∷ xs) a b zero e = inl e
  at_end (x ∷ xs) a b (suc j) e = ⊎_elim inl (λ t. inr (t.0, ap suc t.1)) (at_end xs a b j e)

module _ {T B E : Type 0} where
  pub apart_empty : (v u : SeatView T B E) → length v.owns ≡ 0 → waits v.stage ≡ 0 → Apart v u
  apart_empty v u none_owned rests = record { numbers = λ n h k. absurd (omega arith); tickets = λ h. absurd (omega (arith, h, rests)) }

module _ {T B E : Type 0} (by : E → ℕ) (stands : B → List E → T → Type 0) (seats : ℕ) where
  abbrev K : Type 0
  K = SeatView T B E

  abbrev St : Type 0
  St = State (Slot T E) K

  abbrev R : St → Type 0
  R = Ruled by stands seats

  abbrev F : ℕ → ℕ → B → List E → List (maybe.Option (Slot T E)) → K → Type 0
  F = Fits by stands seats

  pub starts : (x : T) (b : B) → stands b [] x → seats < 2 ^ 64 → R (opening (0 ∷ 0 ∷ []) (Value x ∷ []) (maker_view x seats))
  starts x b st few = let blank : List E = [] in let n = length-replicate seats blank in record {
    drawn = 0;
    served = 0;
    start = b;
    history = [];
    words = refl;
    below = tt;
    each_view = elim [
      | zero ↦ (λ v e. subst (F 0 0 b [] (some (Value x) ∷ [])) (some-injective _ v e) (record {
        from = λ y q. subst (λ z. stands b [] z) (cc q) st;
        shares = λ y q. absurd (cc q);
        sized = λ _. (refl, omega (arith, n));
        own = λ k lt. sym (get_or-replicate seats k [] [] (omega (arith, n)));
        seen = ([], refl);
        told = ([], refl);
        alone = λ q. absurd (cc q);
        in_line = λ q. absurd (cc q);
        in_turn = λ q. absurd (cc q);
        holding = λ q. absurd (cc (ap holds q));
      }))
      | (suc i) ↦ (λ v e. absurd (some-ne-none v (sym e)))
    ];
    apart = elim [ zero ↦ elim [ zero ↦ (λ v w e f ne. absurd (ne refl)) | (suc j) ↦ (λ v w e f. absurd (some-ne-none w (sym f))) ] | (suc i) ↦ (λ j v w e. absurd (some-ne-none v (sym e))) ];
    count = refl;
    seats_are = omega (arith, n);
    few = few;
    slot = inl (x, refl, st);
    stood = (x, st);
  }

  pub learns : (slots id : ℕ) (me : Me (Slot T E) K) → me.0.stage ≡ Idle → Allows R slots id me 0 (λ n. n) (LearnsStart stands (step slots 0 0 0 none) me)
  learns slots id me rest s r _ at _ =
      let v : K = me.0 in let f = r.each_view id v at in let w : K = after_learn v r.start in let sum = total_set ticket_count s.views id v w at in let c = r.count in (
        w,
        keeps,
        tt,
        placed by stands seats s r id v w at _ s.homes r.drawn r.served r.history (same_word by stands seats s r 0 (omega arith) ∙ r.words) r.below
            (record { from = f.from; shares = λ b e. cc e; sized = f.sized; own = f.own; seen = f.seen; told = f.told; alone = f.alone; in_line = f.in_line; in_turn = f.in_turn; holding = f.holding })
            (λ j u ne e. r.each_view j u e)
            (λ j u ne e. let a = r.apart id j v u at e (λ z. ne (sym z)) in record { numbers = a.numbers; tickets = a.tickets })
            (omega arith)
            refl
            (⊎_elim inl (λ out. inr (still_out by stands seats s.homes s.views id v w at (λ e. absurd (cc (ap holds (sym rest ∙ e)))) out)) r.slot)
            r.stood,
        λ x e. (r.start, f.from x e, refl),
      )

  split_placed : (s : St) (r : R s) (id : ℕ) (v left right : K) → get_elem? s.views id ≡ some v → F r.drawn r.served r.start r.history s.homes left → F r.drawn r.served r.start r.history s.homes right
      → ((j : ℕ) (u : K) → j ≢ id → get_elem? s.views j ≡ some u → Apart left u × Apart right u) → Apart left right
      → ticket_count left + ticket_count right ≡ ticket_count v → length left.owns + length right.owns ≡ length v.owns → v.stage ≢ Holding
      → R record { words = s.words; homes = s.homes; views = set s.views id left ++ right ∷ [] }
  split_placed s r id v left right at fl fr others both q l rests = let views = set s.views id left in let here = set_there s.views id v left at in
      let with_right : (i : ℕ) (u : K) → get_elem? views i ≡ some u → Apart right u =
      λ i u e. ⊎_elim (λ t. subst (Apart right) t.1 (apart_sym by stands seats left right both)) (λ t. (others i u t.0 t.1).1) (at_set s.views id i left u e) in
      let old : (i j : ℕ) (x y : K) → get_elem? views i ≡ some x → get_elem? views j ≡ some y → i ≢ j → Apart x y = λ i j x y e f ne. ⊎_elim
      (λ t. ⊎_elim (λ p. absurd (ne (t.0 ∙ sym p.0))) (λ p. subst (λ (z : K). Apart z y) t.1 (others j y p.0 p.1).0) (at_set s.views id j left y f))
      (λ t. ⊎_elim (λ p. subst (λ (z : K). Apart x z) p.1 (apart_sym by stands seats left x (others i x t.0 t.1).0)) (λ p. r.apart i j x y t.1 p.1 ne) (at_set s.views id j left y f))
      (at_set s.views id i left x e) in record {
        drawn = r.drawn;
        served = r.served;
        start = r.start;
        history = r.history;
        words = r.words;
        below = r.below;
        each_view = λ i u e. ⊎_elim
            (λ p. ⊎_elim (λ t. subst (F r.drawn r.served r.start r.history s.homes) t.1 fl) (λ t. r.each_view i u t.1) (at_set s.views id i left u p))
            (λ p. subst (F r.drawn r.served r.start r.history s.homes) p.0 fr)
            (at_end views right u i e);
        apart = λ i j x y e f ne. ⊎_elim
            (λ p. ⊎_elim (λ t. old i j x y p t ne) (λ t. subst (λ (z : K). Apart x z) t.0 (apart_sym by stands seats right x (with_right i x p))) (at_end views right y j f))
            (λ p. ⊎_elim (λ t. subst (λ (z : K). Apart z y) p.0 (with_right j y t)) (λ t. absurd (ne (p.1 ∙ sym t.1))) (at_end views right y j f))
            (at_end views right x i e);
        count = let a = total_set ticket_count s.views id v left at in let b = total_snoc ticket_count views right in let c = r.count in omega arith;
        seats_are = let a = total_set seat_count s.views id v left at in let b = total_snoc seat_count views right in let c = r.seats_are in omega arith;
        few = r.few;
        slot = ⊎_elim inl (λ out. let o = still_out by stands seats s.homes s.views id v left at rests out in inr (o.0, (o.1.0, o.1.1, at_longer views (right ∷ []) o.1.0 o.1.1 o.1.2, o.1.3))) r.slot;
        stood = r.stood;
      }

  pub splits : (id : ℕ) (v : K) → v.stage ≡ Idle → 1 < length v.owns → Splits R id v (later_seats v) (first_seat v)
  splits id v rest more s r at = let f = r.each_view id v at in let z = f.sized (omega arith) in let fits = z.1 in let off : waits v.stage ≡ 0 = ap waits rest in
      let parts = cut v.owns more in
      split_placed s r id v (later_seats v) (first_seat v) at
      (record {
        from = f.from;
        shares = f.shares;
        sized = λ _. (z.0, omega (arith, parts.0));
        own = λ k lt. let e : (v.first + 1) + k ≡ v.first + suc k = omega arith in ap (λ (n : ℕ). acts_of by n r.history) e
            ∙ (f.own (suc k) (omega (arith, parts.0)) ∙ parts.2 k);
        seen = f.seen;
        told = f.told;
        alone = λ q. absurd (omega (arith, q, off));
        in_line = f.in_line;
        in_turn = f.in_turn;
        holding = f.holding;
      })
      (record {
        from = λ x e. absurd (cc e);
        shares = f.shares;
        sized = λ _. (z.0, omega (arith, parts.1));
        own = λ k lt. let e : k ≡ 0 = omega (arith, parts.1) in f.own k (omega arith) ∙ parts.3 k e;
        seen = f.seen;
        told = f.told;
        alone = λ q. absurd (cc q);
        in_line = λ q. absurd (cc q);
        in_turn = λ q. absurd (cc q);
        holding = λ q. absurd (cc (ap holds q));
      })
      (λ j u ne e. let a = r.apart id j v u at e (λ z. ne (sym z)) in (
        record { numbers = λ n h k. a.numbers n (omega arith) (omega (arith, parts.0)); tickets = λ q. absurd (omega (arith, q, off)) },
        record { numbers = λ n h k. a.numbers n h (omega (arith, parts.1)); tickets = λ q. absurd (cc q) },
      ))
      (record { numbers = λ n h k l m. absurd (omega (arith, parts.1)); tickets = λ q. absurd (omega (arith, q, off)) })
      (omega arith)
      (omega (arith, parts.0, parts.1))
      (λ e. absurd (cc (ap holds (sym rest ∙ e))))
    where
      cut : (os : List (List E)) → 1 < length os → (length (drop 1 os) + 1 ≡ length os) × (length (take 1 os) ≡ 1) × ((k : ℕ) → get_or os (suc k) [] ≡ get_or (drop 1 os) k [])
          × ((k : ℕ) → k ≡ 0 → get_or os k [] ≡ get_or (take 1 os) k [])
      cut [] lt = absurd (omega arith)
      cut (o ∷ os) lt = (omega arith, refl, (λ k. refl), λ k e. subst (λ (n : ℕ). get_or (o ∷ os) n [] ≡ get_or (o ∷ []) n []) (sym e) refl)

  pub notes : (id : ℕ) (v : K) → v.stage ≡ Idle → Splits R id v v (note_of v)
  notes id v rest s r at = let f = r.each_view id v at in
      split_placed s r id v v (note_of v) at f
      (record {
        from = λ x e. absurd (cc e);
        shares = λ b e. absurd (cc e);
        sized = λ q. absurd (omega arith);
        own = λ k q. absurd (omega arith);
        seen = f.seen;
        told = (r.history, refl);
        alone = λ q. absurd (cc q);
        in_line = λ q. absurd (cc q);
        in_turn = λ q. absurd (cc q);
        holding = λ q. absurd (cc (ap holds q));
      })
      (λ j u ne e. (r.apart id j v u at e (λ z. ne (sym z)), apart_empty (note_of v) u refl refl))
      (apart_sym by stands seats (note_of v) v (apart_empty (note_of v) v refl refl))
      (omega arith)
      (omega arith)
      (λ e. absurd (cc (ap holds (sym rest ∙ e))))

  fits_nobody : (drawn served : ℕ) (start : B) (h : List E) (homes : List (maybe.Option (Slot T E))) → F drawn served start h homes no_seat
  fits_nobody drawn served start h homes = record {
    from = λ x e. absurd (cc e);
    shares = λ b e. absurd (cc e);
    sized = λ q. absurd (omega arith);
    own = λ k q. absurd (omega arith);
    seen = (h, refl);
    told = (h, refl);
    alone = λ q. absurd (cc q);
    in_line = λ q. absurd (cc q);
    in_turn = λ q. absurd (cc q);
    holding = λ q. absurd (cc (ap holds q));
  }

  -- one seat becomes both, and the other nobody
  join_placed : (s : St) (r : R s) (id other : ℕ) (v w both : K) → get_elem? s.views id ≡ some v → other ≢ id → get_elem? s.views other ≡ some w → F r.drawn r.served r.start r.history s.homes both
      → ((j : ℕ) (u : K) → j ≢ id → j ≢ other → get_elem? s.views j ≡ some u → Apart both u)
      → ticket_count both ≡ ticket_count v + ticket_count w → length both.owns ≡ length v.owns + length w.owns → v.stage ≢ Holding → w.stage ≢ Holding
      → R record { words = s.words; homes = s.homes; views = set (set s.views id both) other no_seat }
  join_placed s r id other v w both at ne there fits others q l calm calm' = let one = set s.views id both in let two = set one other no_seat in
      let there' : get_elem? one other ≡ some w = set_else s.views id other both ne ∙ there in
      let Fit : K → Type 0 = F r.drawn r.served r.start r.history s.homes in
      let left : (i j : ℕ) (x y : K) → get_elem? one i ≡ some x → get_elem? one j ≡ some y → i ≢ other → j ≢ other → i ≢ j → Apart x y = λ i j x y e f ni nj nij. ⊎_elim
      (λ t. ⊎_elim (λ p. absurd (nij (t.0 ∙ sym p.0))) (λ p. subst (λ (z : K). Apart z y) t.1 (others j y p.0 nj p.1)) (at_set s.views id j both y f))
      (λ t. ⊎_elim (λ p. subst (λ (z : K). Apart x z) p.1 (apart_sym by stands seats both x (others i x t.0 ni t.1))) (λ p. r.apart i j x y t.1 p.1 nij) (at_set s.views id j both y f))
      (at_set s.views id i both x e) in record {
        drawn = r.drawn;
        served = r.served;
        start = r.start;
        history = r.history;
        words = r.words;
        below = r.below;
        each_view = λ i u e. ⊎_elim
            (λ t. subst Fit t.1 (fits_nobody r.drawn r.served r.start r.history s.homes))
            (λ t. ⊎_elim (λ p. subst Fit p.1 fits) (λ p. r.each_view i u p.1) (at_set s.views id i both u t.1))
            (at_set one other i no_seat u e);
        apart = λ i j x y e f nij. ⊎_elim
            (λ t. subst (λ (z : K). Apart z y) t.1 (apart_empty no_seat y refl refl))
            (λ t. ⊎_elim (λ p. subst (λ (z : K). Apart x z) p.1 (apart_sym by stands seats no_seat x (apart_empty no_seat x refl refl))) (λ p. left i j x y t.1 p.1 t.0 p.0 nij)
            (at_set one other j no_seat y f))
            (at_set one other i no_seat x e);
        count = let a = total_set ticket_count s.views id v both at in let b = total_set ticket_count one other w no_seat there' in let c = r.count in omega arith;
        seats_are = let a = total_set seat_count s.views id v both at in let b = total_set seat_count one other w no_seat there' in let c = r.seats_are in omega arith;
        few = r.few;
        slot = ⊎_elim inl (λ out. inr (still_out by stands seats s.homes one other w no_seat there' calm' (still_out by stands seats s.homes s.views id v both at calm out))) r.slot;
        stood = r.stood;
      }

  -- a seat takes a note
  pub informs : (id other : ℕ) (v w : K) → v.stage ≡ Idle → w.owns ≡ [] → w.stage ≡ Idle → Joins R id v other w (with_told v w) no_seat
  informs id other v w rest none_owned calm s r at ne there = let there' : get_elem? s.views other ≡ some w = sym (set_else s.views id other (with_told v w) ne) ∙ there in
      let f = r.each_view id v at in let g = r.each_view other w there' in let zero_owned : length w.owns ≡ 0 = ap length none_owned in let off : waits w.stage ≡ 0 = ap waits calm in
      join_placed s r id other v w (with_told v w) at ne there'
      (record { from = f.from; shares = f.shares; sized = f.sized; own = f.own; seen = f.seen; told = g.seen; alone = f.alone; in_line = f.in_line; in_turn = f.in_turn; holding = f.holding })
      (λ j u n m e. let a = r.apart id j v u at e (λ z. n (sym z)) in record { numbers = a.numbers; tickets = a.tickets })
      (omega (arith, off))
      (omega arith)
      (λ e. absurd (cc (ap holds (sym rest ∙ e))))
      (λ e. absurd (cc (ap holds (sym calm ∙ e))))

  -- a seat joins the next
  pub merges : (id other : ℕ) (v w : K) → v.stage ≡ Idle → w.stage ≡ Idle → 0 < length v.owns → 0 < length w.owns → w.first ≡ v.first + length v.owns → Joins R id v other w (merged v w) no_seat
  merges id other v w rest calm some_v some_w next s r at ne there = let there' : get_elem? s.views other ≡ some w = sym (set_else s.views id other (merged v w) ne) ∙ there in
      let f = r.each_view id v at in let g = r.each_view other w there' in let off : waits w.stage ≡ 0 = ap waits calm in let off' : waits v.stage ≡ 0 = ap waits rest in
      let len = length-append v.owns w.owns in let top = (g.sized some_w).1 in
      join_placed s r id other v w (merged v w) at ne there'
      (record {
        from = f.from;
        shares = f.shares;
        sized = λ _. ((f.sized some_v).0, omega (arith, len));
        own = λ k lt. dite (dec_lt k (length v.owns))
            (λ low. f.own k low ∙ sym (get_or_append_left v.owns w.owns [] k low))
            (λ high. let e : v.first + k ≡ w.first + (k - length v.owns) = omega arith in let e' : length v.owns + (k - length v.owns) ≡ k = omega arith in
            ap (λ (n : ℕ). acts_of by n r.history) e ∙ (g.own (k - length v.owns) (omega (arith, len))
            ∙ (sym (get_or-append-add v.owns w.owns (k - length v.owns) []) ∙ ap (λ (n : ℕ). get_or (v.owns ++ w.owns) n []) e')));
        seen = f.seen;
        told = g.seen;
        alone = λ q. absurd (omega (arith, q, off'));
        in_line = λ q. absurd (omega (arith, q, off'));
        in_turn = f.in_turn;
        holding = f.holding;
      })
      (λ j u n m e. let a = r.apart id j v u at e (λ z. n (sym z)) in let b = r.apart other j w u there' e (λ z. m (sym z)) in record {
        numbers = λ k lo hi lo' hi'. dite (dec_lt k (v.first + length v.owns)) (λ low. a.numbers k lo low lo' hi') (λ high. b.numbers k (omega arith) (omega (arith, len)) lo' hi');
        tickets = λ q. absurd (omega (arith, q, off'));
      })
      (omega (arith, off))
      len
      (λ e. absurd (cc (ap holds (sym rest ∙ e))))
      (λ e. absurd (cc (ap holds (sym calm ∙ e))))

  pub looks : (slots id : ℕ) (me : Me (Slot T E) K) → me.0.stage ≡ Idle → 0 < length me.0.owns → Allows R slots id me 1 (λ n. n) (SeesHistory by stands (step slots 1 0 0 none) me)
  looks slots id me rest some_own s r _ at _ =
      let v : K = me.0 in let f = r.each_view id v at in let w : K = record v { seen = r.history } in let sum = total_set ticket_count s.views id v w at in let c = r.count in (
        w,
        keeps,
        tt,
        placed by stands seats s r id v w at _ s.homes r.drawn r.served r.history (same_word by stands seats s r 1 (omega arith) ∙ r.words) r.below
            (record {
              from = f.from;
              shares = f.shares;
              sized = f.sized;
              own = f.own;
              seen = ([], append-nil r.history);
              told = f.told;
              alone = f.alone;
              in_line = f.in_line;
              in_turn = f.in_turn;
              holding = λ e. absurd (cc (ap holds (sym rest ∙ e)));
            })
            (λ j u ne e. r.each_view j u e)
            (λ j u ne e. let a = r.apart id j v u at e (λ z. ne (sym z)) in record { numbers = a.numbers; tickets = a.tickets })
            (omega arith)
            refl
            (⊎_elim inl (λ out. inr (still_out by stands seats s.homes s.views id v w at (λ e. absurd (cc (ap holds (sym rest ∙ e)))) out)) r.slot)
            r.stood,
        (
          r.history,
          refl,
          f.seen,
          f.told,
          own_first by stands seats s r id v at,
          subst (λ (n : ℕ). AllBelow by n r.history) (sym (f.sized some_own).0) r.below,
          λ b e. let x = r.stood in (x.0, subst (λ (z : B). stands z r.history x.0) (sym (f.shares b e)) x.1),
        ),
      )
