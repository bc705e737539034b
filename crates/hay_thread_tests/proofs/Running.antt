-- From what each lane was answered to the whole history.
use Rattle.std.proofs.Common.{◌≡◌, ℕ, zero, suc, ◌<◌, false, List, [], ◌∷◌, ◌++◌, map, length, replicate, get_or, All, Option, Some, None, Result, Ok, Err, slice_get, refl, sym}
use Rattle.std.proofs.Common.{ap, ◌∙◌, subst, arith, append_assoc, append-nil}
use Rattle.std.proofs.lemmas.List.{length-map}
use Rattle.std.proofs.lemmas.Option.{slice_get-get_or, slice_get_within, get_or_from_slice_get}
use Rattle.std.specs.Result.{MatchResult, IfOk, IfErr}
use Rattle.hay_front.specs.declared.front.Tag.{Tag}
use Rattle.hay_front.proofs.Prefixes.{prefix_get, prefix_trans}
use mathlib.Core.List.{IsPrefix}
use Rattle.hay_lanes.specs.Lanes.{AnswersAll, AnswersLanes}
use Rattle.hay_lanes.proofs.Results.{unmapped, mapped}
use Rattle.hay_turn.specs.Acts.{acts_of, AllBelow}
use Rattle.hay_turn.specs.Seats.{TurnId, AreNew, AreAll, new_seat}
use Rattle.hay_thread_tests.specs.declared.worker.Line.{Line}
use Rattle.hay_thread_tests.specs.declared.locked.Act.{Act}
use Rattle.hay_thread_tests.specs.declared.worker.Posted.{Posted}
use Rattle.hay_thread_tests.specs.LockedBoards.{made, BoardFront, IsOf}
use Rattle.hay_thread_tests.specs.Workers.{Shown, Seated, act_of, all_made, IsAt, GoesOn, ArePlaced, IsRunOf}

-- what stands below the length
there : {A : Type 0} → (xs : List A) (i : ℕ) → i < length xs → (x : A) × (slice_get xs i ≡ Some x)
there [] i lt = absurd (omega arith)
there (x ∷ xs) zero lt = (x, refl)
there (x ∷ xs) (suc i) lt = there xs i (omega arith)

copied : {A : Type 0} → (n : ℕ) (x : A) (i : ℕ) (y : A) → slice_get (replicate n x) i ≡ Some y → y ≡ x
copied zero x i y e = absurd cc
copied (suc n) x zero y e = cc e
copied (suc n) x (suc i) y e = copied n x i y e

-- new seats are all seats of their lock, and none holds it
pub all_new : (t : TurnId) (b : Option Shown) (n : ℕ) (sits : List Seated) → AreNew t b n sits → length sits ≡ n → 0 < n → AreAll t sits
all_new t b n sits fresh many some = (
  omega (arith, many),
  λ i s at. let new : s ≡ new_seat t b n i = fresh i s at in (
    ap (λ (z : Seated). z.turn) new,
    ap (λ (z : Seated). z.number) new,
    ap (λ (z : Seated). z.seats) new ∙ sym many,
    ap (λ (z : Seated). z.holds) new,
  ),
)

module _ {C : Type 0} (turn_of : C → TurnId) (seat_of : C → Seated) (view_of : C → Shown) where
  abbrev pub Answers : C → ℕ → Line → C → Option Posted → Type 0
  Answers worker lane line after out = GoesOn lane line out (turn_of worker, seat_of worker, view_of worker) (turn_of after, seat_of after, view_of after)

  -- over all lines of a lane
  goes : (lane : ℕ) (worker : C) (lines : List Line) (after : C) (outs : List (Option Posted)) → AnswersAll Answers lane worker lines after outs
      → seat_of after ≡ record (seat_of worker) { seen = (seat_of after).seen; own = (seat_of worker).own ++ all_made lane lines outs }
  goes lane worker [] after outs a = let e : seat_of after ≡ seat_of worker = ap seat_of a.0 in
      let own : (seat_of after).own ≡ (seat_of worker).own ++ [] = ap (λ (s : Seated). s.own) e ∙ sym (append-nil (seat_of worker).own) in
      λ k. record { turn = (e k).turn; number = (e k).number; seats = (e k).seats; start = (e k).start; seen = (seat_of after).seen; own = own k; holds = (e k).holds }
  goes lane worker (line ∷ lines) after outs a = let mid = a.0 in let rest = goes lane mid lines after a.2 a.5 in let one = a.4.seat in
      let turn = ap (λ (s : Seated). s.turn) rest ∙ ap (λ (s : Seated). s.turn) one in
      let number = ap (λ (s : Seated). s.number) rest ∙ ap (λ (s : Seated). s.number) one in
      let seats = ap (λ (s : Seated). s.seats) rest ∙ ap (λ (s : Seated). s.seats) one in
      let start = ap (λ (s : Seated). s.start) rest ∙ ap (λ (s : Seated). s.start) one in
      let holds = ap (λ (s : Seated). s.holds) rest ∙ ap (λ (s : Seated). s.holds) one in
      let first : List Act = made (act_of lane line) a.1 in
      let own : (seat_of after).own ≡ (seat_of worker).own ++ all_made lane (line ∷ lines) outs =
      ap (λ (s : Seated). s.own) rest ∙ (ap (λ (l : List Act). l ++ all_made lane lines a.2) (ap (λ (s : Seated). s.own) one)
      ∙ (append_assoc (seat_of worker).own first (all_made lane lines a.2) ∙ ap (λ (os : List (Option Posted)). (seat_of worker).own ++ all_made lane (line ∷ lines) os) (sym a.3))) in
      λ k. record { turn = turn k; number = number k; seats = seats k; start = start k; seen = (seat_of after).seen; own = own k; holds = holds k }

  grown : (lane : ℕ) (worker : C) (lines : List Line) (after : C) (outs : List (Option Posted)) → AnswersAll Answers lane worker lines after outs → IsPrefix (seat_of worker).seen (seat_of after).seen
  grown lane worker [] after outs a = ([], append-nil (seat_of worker).seen ∙ ap (λ (c : C). (seat_of c).seen) (sym a.0))
  grown lane worker (line ∷ lines) after outs a = prefix_trans (seat_of worker).seen (seat_of a.0).seen (seat_of after).seen a.4.seen (grown lane a.0 lines after a.2 a.5)

  one_place : (lane : ℕ) (line : Line) (worker mid : C) (out : Option Posted) (posted : Posted) → Answers worker lane line mid out → out ≡ Some posted
      → slice_get (seat_of mid).seen posted.place ≡ Some (act_of lane line)
  one_place lane line worker mid None posted a e = absurd (cc e)
  one_place lane line worker mid (Some p) posted a e = let same : p ≡ posted = cc e in subst (λ (q : Posted). slice_get (seat_of mid).seen q.place ≡ Some (act_of lane line)) same a.placed

  -- each act that was done stands at its place in what the lane has seen at the end
  places : (lane : ℕ) (worker : C) (lines : List Line) (after : C) (outs : List (Option Posted)) → AnswersAll Answers lane worker lines after outs → ArePlaced lane lines outs (seat_of after).seen
  places lane worker [] after outs a k line posted at_line at_out = absurd (cc at_line)
  places lane worker (l ∷ lines) after outs a zero line posted at_line at_out =
      let same : l ≡ line = cc at_line in let out : a.1 ≡ Some posted = cc (a.3, at_out) in
      prefix_get (seat_of a.0).seen (seat_of after).seen posted.place (act_of lane line) (grown lane a.0 lines after a.2 a.5)
      (one_place lane line worker a.0 a.1 posted (subst (λ (z : Line). Answers worker lane z a.0 a.1) same a.4) out)
  places lane worker (l ∷ lines) after outs a (suc k) line posted at_line at_out =
      places lane a.0 lines after a.2 a.5 k line posted at_line (ap (λ (os : List (Option Posted)). slice_get os (suc k)) (sym a.3) ∙ at_out)

  module _ (t : TurnId) (b : Shown) (n : ℕ) (workers after : List C) (sits : List Seated) (jobs : List (List Line)) (outs : List (List (Option Posted))) where
    -- the seat of a lane that has done all its lines
    pub record Done (lane : ℕ) (s : Seated) : Type 0 where
      pub turn : s.turn ≡ t
      pub number : s.number ≡ lane
      pub seats : s.seats ≡ n
      pub holds : s.holds ≡ false
      pub start : s.start ≡ Some b
      pub own : (lines : List Line) (done : List (Option Posted)) → slice_get jobs lane ≡ Some lines → slice_get outs lane ≡ Some done → s.own ≡ all_made lane lines done

    pub dones : map seat_of workers ≡ sits → AreNew t (Some b) n sits → length sits ≡ length jobs → AnswersLanes Answers workers jobs after outs
        → (lane : ℕ) (s : Seated) → slice_get (map seat_of after) lane ≡ Some s → Done lane s
    dones same fresh many answered lane s at =
        let x = unmapped seat_of after lane s at in
        let in_workers : lane < length workers = omega (arith, slice_get_within after lane x.0 x.1, answered.workers_stay) in
        let in_jobs : lane < length jobs = omega (arith, in_workers, ap length same, length-map workers seat_of, many) in
        let worker : C = get_or workers lane x.0 in
        let worker_at : slice_get workers lane ≡ Some worker = slice_get-get_or workers lane x.0 in_workers in
        let lines : List Line = get_or jobs lane [] in
        let lines_at : slice_get jobs lane ≡ Some lines = slice_get-get_or jobs lane [] in_jobs in
        let each = answered.each lane worker lines worker_at lines_at in
        let new : seat_of worker ≡ new_seat t (Some b) n lane = fresh lane (seat_of worker) (ap (λ (ss : List Seated). slice_get ss lane) (sym same) ∙ mapped seat_of workers lane worker worker_at) in
        let is_x : each.0 ≡ x.0 = cc (each.2, x.1) in
        let is : seat_of each.0 ≡ s = ap seat_of is_x ∙ x.2 in
        let all = goes lane worker lines each.0 each.1 each.4 in
        record {
          turn = ap (λ (z : Seated). z.turn) (sym is ∙ all) ∙ ap (λ (z : Seated). z.turn) new;
          number = ap (λ (z : Seated). z.number) (sym is ∙ all) ∙ ap (λ (z : Seated). z.number) new;
          seats = ap (λ (z : Seated). z.seats) (sym is ∙ all) ∙ ap (λ (z : Seated). z.seats) new;
          holds = ap (λ (z : Seated). z.holds) (sym is ∙ all) ∙ ap (λ (z : Seated). z.holds) new;
          start = ap (λ (z : Seated). z.start) (sym is ∙ all) ∙ ap (λ (z : Seated). z.start) new;
          own = λ ls os l o. let le : lines ≡ ls = cc (lines_at, l) in let oe : each.1 ≡ os = cc (each.3, o) in
              ap (λ (z : Seated). z.own) (sym is ∙ all) ∙ (ap (λ (z : Seated). z.own ++ all_made lane lines each.1) new
              ∙ (ap (λ (z : List Line). all_made lane z each.1) le ∙ ap (λ (z : List (Option Posted)). all_made lane ls z) oe));
        }

    pub are_all : map seat_of workers ≡ sits → AreNew t (Some b) n sits → length sits ≡ length jobs → length jobs ≡ n → 0 < n → AnswersLanes Answers workers jobs after outs
        → AreAll t (map seat_of after)
    are_all same fresh many sized some answered =
        let len : length (map seat_of after) ≡ n = length-map after seat_of ∙ (answered.workers_stay ∙ (sym (length-map workers seat_of) ∙ (ap length same ∙ (many ∙ sized)))) in
        (omega (arith, len), λ i s at. let d = dones same fresh many answered i s at in (d.turn, d.number, d.seats ∙ sym len, d.holds))

    -- what a lane was told of places holds of the whole history
    all_placed : (history : List Act) → map seat_of workers ≡ sits → length sits ≡ length jobs → AnswersLanes Answers workers jobs after outs
        → ((i : ℕ) (s : Seated) → slice_get (map seat_of after) i ≡ Some s → IsPrefix s.seen history)
        → (lane : ℕ) (lines : List Line) (done : List (Option Posted)) → slice_get jobs lane ≡ Some lines → slice_get outs lane ≡ Some done → ArePlaced lane lines done history
    all_placed history same many answered seen lane lines done l o =
        let in_workers : lane < length workers = omega (arith, slice_get_within jobs lane lines l, ap length same, length-map workers seat_of, many) in
        let at = there workers lane in_workers in
        let each = answered.each lane at.0 lines at.1 l in
        let is : each.1 ≡ done = cc (each.3, o) in
        let whole = seen lane (seat_of each.0) (mapped seat_of after lane each.0 each.2) in
        λ k line posted at_line at_out. prefix_get (seat_of each.0).seen history posted.place (act_of lane line) whole
        (places lane at.0 lines each.0 each.1 each.4 k line posted at_line (ap (λ (os : List (Option Posted)). slice_get os k) is ∙ at_out))

    pub told : (history : List Act) (log : List Tag) (front : BoardFront) (posts : ℕ) → map seat_of workers ≡ sits → AreNew t (Some b) n sits → length sits ≡ length jobs
        → 0 < length jobs → AnswersLanes Answers workers jobs after outs
        → ((i : ℕ) (s : Seated) → slice_get (map seat_of after) i ≡ Some s → acts_of (λ act. act.tag.seat) i history ≡ s.own)
        → AllBelow (λ act. act.tag.seat) (length (map seat_of after)) history
        → ((s : Seated) → slice_get (map seat_of after) 0 ≡ Some s → (start : Shown) → s.start ≡ Some start → IsOf start front posts history)
        → ((i : ℕ) (s : Seated) → slice_get (map seat_of after) i ≡ Some s → IsPrefix s.seen history)
        → log ≡ map (λ e. e.tag) front.log
        → IsRunOf jobs outs log
    told history log front posts same fresh many some answered own below stands seen logged =
        let len : length (map seat_of after) ≡ length jobs = length-map after seat_of ∙ (answered.workers_stay ∙ (sym (length-map workers seat_of) ∙ (ap length same ∙ many))) in
        let first = there (map seat_of after) 0 (omega (arith, len)) in
        let of = stands first.0 first.1 b (dones same fresh many answered 0 first.0 first.1).start in record {
          acts = history;
          lanes = answered.lanes_stay;
          each = λ lane lines done l o. let at = there (map seat_of after) lane (omega (arith, len, slice_get_within jobs lane lines l)) in
              own lane at.0 at.1 ∙ (dones same fresh many answered lane at.0 at.1).own lines done l o;
          placed = all_placed history same many answered seen;
          others = subst (λ (k : ℕ). AllBelow (λ act. act.tag.seat) k history) len below;
          log_is = logged ∙ ap (λ l. map (λ e. e.tag) l) of.log;
        }

  module _ (t : TurnId) (b : Shown) (n : ℕ) (workers : List C) (sits : List Seated) (jobs : List (List Line)) where
    -- whether the lanes were answered or not, all seats come back
    pub come_back : {W O E : Type 0} → (items : W → List C) (outs_of : O → List (List (Option Posted))) (ran : Result (W × O) (W × E)) (back : W) (told : Result O E)
        → MatchResult ran (λ r. (back ≡ r.0) × (told ≡ Ok r.1)) (λ r. (back ≡ r.0) × (told ≡ Err r.1))
        → IfOk ran (λ r. AnswersLanes Answers workers jobs (items r.0) (outs_of r.1)) → IfErr ran (λ r. items r.0 ≡ workers)
        → map seat_of workers ≡ sits → AreNew t (Some b) n sits → length sits ≡ length jobs → length jobs ≡ n → 0 < n → AreAll t (map seat_of (items back))
    come_back items outs_of (Ok r) back told here answered refused same fresh many sized some =
        subst (λ w. AreAll t (map seat_of (items w))) (sym here.0) (are_all t b n workers (items r.0) sits jobs (outs_of r.1) same fresh many sized some answered)
    come_back items outs_of (Err r) back told here answered refused same fresh many sized some =
        subst (AreAll t) (sym (ap (λ w. map seat_of (items w)) here.0 ∙ (ap (map seat_of) refused ∙ same))) (all_new t (Some b) n sits fresh (many ∙ sized) some)

  -- with answers told, the lanes were answered
  pub were_answered : {W O E : Type 0} → (workers : List C) (jobs : List (List Line)) (items : W → List C) (outs_of : O → List (List (Option Posted)))
      (ran : Result (W × O) (W × E)) (back : W) (told : Result O E) (outs : O)
      → MatchResult ran (λ r. (back ≡ r.0) × (told ≡ Ok r.1)) (λ r. (back ≡ r.0) × (told ≡ Err r.1))
      → IfOk ran (λ r. AnswersLanes Answers workers jobs (items r.0) (outs_of r.1)) → told ≡ Ok outs → AnswersLanes Answers workers jobs (items back) (outs_of outs)
  were_answered workers jobs items outs_of (Ok r) back told outs here answered is =
      let same : r.1 ≡ outs =
      cc (here.1, is) in subst (λ o. AnswersLanes Answers workers jobs (items back) (outs_of o)) same (subst (λ w. AnswersLanes Answers workers jobs (items w) (outs_of r.1)) (sym here.0) answered)
  were_answered workers jobs items outs_of (Err r) back told outs here answered is = absurd (cc (here.1, is))

  pub ready : (t : TurnId) (b shown : Shown) (n m : ℕ) (workers : List C) (sits : List Seated) (views : List Shown) → map seat_of workers ≡ sits → map view_of workers ≡ views
      → AreNew t (Some b) n sits
      → views ≡ replicate m shown → shown.front ≡ b.front → All (λ worker. turn_of worker ≡ t) workers → (lane : ℕ) (worker : C) → slice_get workers lane ≡ Some worker
      → IsAt lane (turn_of worker) (seat_of worker) (view_of worker)
  ready t b shown n m workers sits views same as_views fresh all_views front turns lane worker at =
      let new : seat_of worker ≡ new_seat t (Some b) n lane = fresh lane (seat_of worker) (ap (λ (ss : List Seated). slice_get ss lane) (sym same) ∙ mapped seat_of workers lane worker at) in
      let view : view_of worker ≡ shown = copied m shown lane (view_of worker) (ap (λ (vs : List Shown). slice_get vs lane) (sym all_views ∙ sym as_views) ∙ mapped view_of workers lane worker at) in
      let turn : turn_of worker ≡ t = subst (λ (c : C). turn_of c ≡ t) (get_or_from_slice_get workers lane worker worker at) (turns lane worker (slice_get_within workers lane worker at)) in record {
        turn_is = ap (λ (z : Seated). z.turn) new ∙ sym turn;
        number = ap (λ (z : Seated). z.number) new;
        free = ap (λ (z : Seated). z.holds) new;
        front = (b, ap (λ (z : Seated). z.start) new, ap (λ (z : Shown). z.front) view ∙ front);
      }
