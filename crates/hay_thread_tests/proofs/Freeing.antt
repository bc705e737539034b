-- What is given back to the lock.
use Rattle.std.proofs.Common.{◌≡◌, ℕ, true, false, List, ◌++◌, refl, sym, ap, ◌∙◌, subst, Option, Some, None}
use Rattle.hay_turn.specs.Acts.{AllOf}
use Rattle.hay_turn.specs.Seats.{SeatState, MayFree, after_free}
use Rattle.hay_thread_tests.specs.declared.locked.Act.{Act}
use Rattle.hay_thread_tests.specs.LockedBoards.{made}

abbrev pub by : Act → ℕ
by a = a.tag.seat

mine : {A : Type 0} → (act : Act) (out : Option A) → AllOf by act.tag.seat (made act out)
mine act None = tt
mine act (Some done) = (refl, tt)

pub may_free : {A B T : Type 0} (stands : B → List Act → T → Type 0) (old : SeatState B Act) (x : T) (act : Act) (out : Option A) (told : List Act)
    → ((b : B) → old.start ≡ Some b → stands b (old.seen ++ made act out) x) → old.number ≡ act.tag.seat → told ≡ made act out → MayFree by stands old x told
may_free stands old x act out told start number is = record {
  stands_for = λ b e. subst (λ (l : List Act). stands b (old.seen ++ l) x) (sym is) (start b e);
  mine = subst (λ (l : List Act). AllOf by old.number l) (sym is) (subst (λ (n : ℕ). AllOf by n (made act out)) (sym number) (mine act out));
}

-- the seat behind a hold and a free
pub goes_on : {B : Type 0} (old held new : SeatState B Act) (more : List Act) → held ≡ record old { seen = held.seen; holds = true } → old.holds ≡ false → new ≡ after_free held more
    → new ≡ record old { seen = new.seen; own = old.own ++ more }
goes_on {B = B} old held new more hold free gave =
    let own = ap (λ (s : SeatState B Act). s.own) gave ∙ ap (λ (s : SeatState B Act). s.own ++ more) hold in
    let turn = ap (λ (s : SeatState B Act). s.turn) gave ∙ ap (λ (s : SeatState B Act). s.turn) hold in
    let number = ap (λ (s : SeatState B Act). s.number) gave ∙ ap (λ (s : SeatState B Act). s.number) hold in
    let seats = ap (λ (s : SeatState B Act). s.seats) gave ∙ ap (λ (s : SeatState B Act). s.seats) hold in
    let start = ap (λ (s : SeatState B Act). s.start) gave ∙ ap (λ (s : SeatState B Act). s.start) hold in
    let holds = ap (λ (s : SeatState B Act). s.holds) gave ∙ sym free in
    λ k. record { turn = turn k; number = number k; seats = seats k; start = start k; seen = new.seen; own = own k; holds = holds k }
