-- Steps of a worker, and what it has served of its lanes.
use Rattle.std.proofs.Common.{◌≡◌, ◌≢◌, ℕ, zero, suc, ◌+◌, ◌*◌, ◌/◌, ◌<◌, ◌≤◌, ◌==◌, eq-eqb, ne_eqb, Bool, true, false, List, [], ◌∷◌, ◌++◌, length, replicate, map, take, get_or}
use Rattle.std.proofs.Common.{set, All, Vec, Global, Some, slice_get, vec_capacity, refl, ap, sym, subst, ◌∙◌, ⊎_elim, arith, append_assoc, if◌then◌else◌}
use Rattle.std.proofs.lemmas.List.{append-nil, length-append, length-set, length-take-le, length-map, length-replicate, map-append, take_all, take_more}
use Rattle.std.proofs.lemmas.List.Elements.{All-append}
use Rattle.std.proofs.lemmas.Option.{slice_get-get_or, slice_get_within, get_or_from_slice_get}
use native.Mathlib.Decide.{dec_lt, ℕ_discrete}
use Rattle.hay_queue.specs.declared.rule.Stream.{Stream}
use Rattle.hay_queue.specs.declared.serve.Bench.{Bench}
use Rattle.hay_queue.specs.Benches.{AreClients, HasRooms, MayAnswerAll, Serving, AnswersOne, AnswersCall}
use Rattle.hay_queue.specs.Desks.{TakesEnds, TakesJob}
use Rattle.hay_queue.specs.Serves.{Step, steps_of, StaysReady, AnswersSteps}
use Rattle.hay_queue.specs.Shares.{lane_at}
use Rattle.hay_queue.specs.Streams.{stream, empty}
use Rattle.hay_queue.proofs.Counts.{got_set}
use native.Mathlib.Nat.{mul-div_left}

module _ {A : Type 0} where
  pub all_rest : (P : A → Type 0) (x : A) (xs ys : List A) → ys ≡ x ∷ xs → All P ys → All P xs
  all_rest P x xs ys e all k d lt = subst (λ (l : List A). All P l) e all (suc k) d (omega arith)

  pub got_replicate : (n : ℕ) (a : A) (i : ℕ) (b : A) → slice_get (replicate n a) i ≡ Some b → a ≡ b
  got_replicate zero a i b e = absurd cc
  got_replicate (suc n) a zero b e = cc e
  got_replicate (suc n) a (suc i) b e = got_replicate n a i b e

  all_one : (P : A → Type 0) (a : A) → P a → All P (a ∷ [])
  all_one P a p zero d lt = p
  all_one P a p (suc k) d lt = absurd (omega arith)

  pub got_here : (xs : List A) (i : ℕ) (a : A) → i < length xs → slice_get (set xs i a) i ≡ Some a
  got_here [] i a lt = absurd (omega arith)
  got_here (x ∷ xs) zero a lt = refl
  got_here (x ∷ xs) (suc i) a lt = got_here xs i a (omega arith)

  -- an item goes from what is left to what is done
  pub moved : (done new rest left all : List A) (x y : A) → new ≡ done ++ y ∷ [] → y ≡ x → left ≡ x ∷ rest → done ++ left ≡ all → new ++ rest ≡ all
  moved done new rest left all x y e same is old =
      ap (λ (l : List A). l ++ rest) e ∙ (append_assoc done (y ∷ []) rest ∙ (ap (λ (z : A). done ++ z ∷ rest) same ∙ (ap (λ (l : List A). done ++ l) (sym is) ∙ old)))

  pub item_at : (xs : List A) (i : ℕ) → i < length xs → (x : A) × (slice_get xs i ≡ Some x)
  item_at [] i lt = absurd (omega arith)
  item_at (x ∷ xs) zero lt = (x, refl)
  item_at (x ∷ xs) (suc i) lt = item_at xs i (omega arith)

module _ {A B C : Type 0} (f : A → C) (h : B → C) where
  pub moved_as : (done new : List A) (rest left all : List B) (x : B) (y : A) → new ≡ done ++ y ∷ [] → left ≡ x ∷ rest → f y ≡ h x → map f done ++ map h left ≡ map h all
      → map f new ++ map h rest ≡ map h all
  moved_as done new rest left all x y e is same old =
      moved (map f done) (map f new) (map h rest) (map h left) (map h all) (h x) (f y) (ap (map f) e ∙ map-append f done (y ∷ [])) same (ap (map h) is) old

module _ {J O : Type 0} where
  -- a step more of the same lane, and of another
  one_more : (b : Bool) (s : Step J O) (xs ys zs : List (Step J O)) → zs ≡ xs ++ ys → (if b then s ∷ zs else zs) ≡ (if b then s ∷ xs else xs) ++ ys
  one_more true s xs ys zs e = ap (λ (l : List (Step J O)). s ∷ l) e
  one_more false s xs ys zs e = e

  steps_of-append : (lane : ℕ) (xs ys : List (Step J O)) → steps_of lane (xs ++ ys) ≡ steps_of lane xs ++ steps_of lane ys
  steps_of-append lane [] ys = refl
  steps_of-append lane (s ∷ xs) ys = one_more (s.lane == lane) s (steps_of lane xs) (steps_of lane ys) (steps_of lane (xs ++ ys)) (steps_of-append lane xs ys)

  step_of_lane : (lane : ℕ) (xs : List (Step J O)) (s : Step J O) → s.lane ≡ lane → steps_of lane (xs ++ s ∷ []) ≡ steps_of lane xs ++ s ∷ []
  step_of_lane lane xs s e = steps_of-append lane xs (s ∷ []) ∙ ap (λ (b : Bool). steps_of lane xs ++ (if b then s ∷ [] else [])) (eq-eqb s.lane lane e)

  step_of_other : (lane : ℕ) (xs : List (Step J O)) (s : Step J O) → s.lane ≢ lane → steps_of lane (xs ++ s ∷ []) ≡ steps_of lane xs
  step_of_other lane xs s n = steps_of-append lane xs (s ∷ []) ∙ (ap (λ (b : Bool). steps_of lane xs ++ (if b then s ∷ [] else [])) (ne_eqb s.lane lane n) ∙ append-nil (steps_of lane xs))

module _ {W J O : Type 0} (answers : W → ℕ → J → W → O → Type 0) where
  answers_more : (w : W) (steps : List (Step J O)) (x : W) (s : Step J O) (y : W) → AnswersSteps answers w steps x → answers x s.lane s.job y s.out → AnswersSteps answers w (steps ++ s ∷ []) y
  answers_more w [] x s y a more = (y, subst (λ (v : W). answers v s.lane s.job y s.out) a more, refl)
  answers_more w (t ∷ steps) x s y a more = (a.0, a.1, answers_more a.0 steps x s y a.2 more)

zero_lane : (seat a b : ℕ) → seat + a * 0 ≡ seat + b * 0
zero_lane seat a b = omega arith

-- two clients of a worker are two lanes
pub two_lanes : (seat seats a b : ℕ) → 0 < seats → lane_at seat seats a ≡ lane_at seat seats b → a ≡ b
two_lanes seat seats a b some e = let x : ℕ = a * seats in let y : ℕ = b * seats in let same : x ≡ y = omega arith in sym (mul-div_left a some) ∙ (ap (λ (n : ℕ). n / seats) same ∙ mul-div_left b some)

module _ {W J O : Type 0} (answers : W → ℕ → J → W → O → Type 0) (seat seats : ℕ) (jobs : List (Vec J Global)) (w : W) where
  abbrev S : List Stream → W → List (Vec O Global) → Type 0
  S = Serving seat seats answers jobs w

  pub serving_starts : (n : ℕ) (streams : List Stream) (outs : List (Vec O Global)) → streams ≡ replicate n empty → HasRooms seat seats jobs n outs → S streams w outs
  serving_starts n streams outs is rooms = let len = length-replicate n empty in let as_many : length streams ≡ length (replicate n empty) = ap length is in let m = rooms.many in record {
    steps = [];
    answered = refl;
    own = λ k d lt. absurd (omega arith);
    many = omega arith;
    room = λ client js os at here. (rooms.room client js os at here).1;
    each = λ client s js os there at here. let new : empty ≡ s = got_replicate n empty client s (ap (λ (l : List Stream). slice_get l client) (sym is) ∙ there) in (
      sym (rooms.room client js os at here).0,
      ap (λ (t : Stream). take (length t.names) js.items) new,
    );
  }

  pub serving_ends : (streams after : List Stream) (x : W) (outs : List (Vec O Global)) → TakesEnds streams after → S streams x outs → S after x outs
  serving_ends streams after x outs ends old = let m = old.many in let n = ends.clients in record {
    steps = old.steps;
    answered = old.answered;
    own = old.own;
    many = omega arith;
    room = old.room;
    each = λ client t js os there at here.
        let within : client < length streams = let lt = slice_get_within after client t there in omega arith in
        let s : Stream = get_or streams client empty in
        let was : slice_get streams client ≡ Some s = slice_get-get_or streams client empty within in
        let h = old.each client s js os was at here in
        (h.0, h.1 ∙ ap (λ (l : List ℕ). take (length l) js.items) (sym (ends.each client s t was there).0));
  }

  -- there is room for the answer to the next call
  pub serving_room : (between : List Stream) (x : W) (outs : List (Vec O Global)) (client place : ℕ) (names : List ℕ) (js : Vec J Global) (os : Vec O Global) → S between x outs
      → slice_get between client ≡ Some (stream names false) → place ≡ length names
      → slice_get jobs (lane_at seat seats client) ≡ Some js → slice_get outs client ≡ Some os → place < length js.items → length os.items < vec_capacity os
  serving_room between x outs client place names js os served there next at here lt =
      let lane : ℕ = lane_at seat seats client in
      let h = served.each client (stream names false) js os there at here in
      let steps : List (Step J O) = steps_of lane served.steps in
      let by_outs : length steps ≡ length os.items = sym (length-map steps (λ (s : Step J O). s.out)) ∙ ap length h.0 in
      let by_jobs : length steps ≡ length (take (length names) js.items) = sym (length-map steps (λ (s : Step J O). s.job)) ∙ ap length h.1 in
      let short = length-take-le (length names) js.items (omega arith) in
      let room = served.room client js os at here in
      omega arith

  -- one call more
  module _ (between : List Stream) (old new : Bench W J O) (client place name : ℕ) (names : List ℕ) (js : Vec J Global) (os : Vec O Global) (some : 0 < seats)
      (before : S between old.worker old.kit.outs.items) (there : slice_get between client ≡ Some (stream names false)) (next : place ≡ length names)
      (at : slice_get jobs (lane_at seat seats client) ≡ Some js) (here : slice_get old.kit.outs.items client ≡ Some os)
      (call : AnswersCall answers (lane_at seat seats client) client place js os old new) where
    abbrev later : List Stream
    later = set between client (stream (names ++ name ∷ []) false)

    longer : length (names ++ name ∷ []) ≡ length names + 1
    longer = length-append names (name ∷ [])

    module _ (job : J) (is : slice_get js.items place ≡ Some job) where
      abbrev step_here : (one : AnswersOne answers (lane_at seat seats client) client job os old new) → Step J O
      step_here one = record { lane = lane_at seat seats client; job = job; out = one.out }

      each_job : (one : AnswersOne answers (lane_at seat seats client) client job os old new) (k : ℕ) (s : Stream) (ks : Vec J Global) (qs : Vec O Global)
          → slice_get later k ≡ Some s → slice_get jobs (lane_at seat seats k) ≡ Some ks
          → slice_get new.kit.outs.items k ≡ Some qs → Dec (k ≡ client)
          → (map (λ (x : Step J O). x.out) (steps_of (lane_at seat seats k) (before.steps ++ step_here one ∷ [])) ≡ qs.items)
          × (map (λ (x : Step J O). x.job) (steps_of (lane_at seat seats k) (before.steps ++ step_here one ∷ [])) ≡ take (length s.names) ks.items)
      each_job one k s ks qs kt ka kh (yes same) =
          let step : Step J O = step_here one in
          let lane : ℕ = lane_at seat seats client in
          let lane_same : lane_at seat seats k ≡ lane = ap (lane_at seat seats) same in
          let more_steps : steps_of (lane_at seat seats k) (before.steps ++ step ∷ []) ≡ steps_of lane before.steps ++ step ∷ [] =
          ap (λ (l : ℕ). steps_of l (before.steps ++ step ∷ [])) lane_same ∙ step_of_lane lane before.steps step refl in
          let js_same : js ≡ ks = cc (sym at ∙ (ap (slice_get jobs) (sym lane_same) ∙ ka)) in
          let inside : client < length between = slice_get_within between client (stream names false) there in
          let s_same : stream (names ++ name ∷ []) false ≡ s = cc (sym (got_here between client (stream (names ++ name ∷ []) false) inside) ∙ (ap (slice_get later) (sym same) ∙ kt)) in
          let out_inside : client < length old.kit.outs.items = slice_get_within old.kit.outs.items client os here in
          let q_same : one.more ≡ qs =
          cc (sym (got_here old.kit.outs.items client one.more out_inside) ∙ (ap (λ (l : List (Vec O Global)). slice_get l client) (sym one.after)
          ∙ (ap (slice_get new.kit.outs.items) (sym same) ∙ kh))) in
          let was = before.each client (stream names false) js os there at here in
          let outs : map (λ (x : Step J O). x.out) (steps_of lane before.steps ++ step ∷ []) ≡ qs.items =
          map-append (λ (x : Step J O). x.out) (steps_of lane before.steps) (step ∷ []) ∙ (ap (λ (l : List O). l ++ one.out ∷ []) was.0
          ∙ (sym one.kept.0 ∙ ap (λ (v : Vec O Global). v.items) q_same)) in
          let place_in : length names < length js.items = let lt = slice_get_within js.items place job is in omega arith in
          let job_there : get_or js.items (length names) job ≡ job = ap (λ (n : ℕ). get_or js.items n job) (sym next) ∙ get_or_from_slice_get js.items place job job is in
          let taken : take (length names + 1) js.items ≡ take (length names) js.items ++ job ∷ [] =
          take_more js.items (length names) job place_in ∙ ap (λ (x : J). take (length names) js.items ++ x ∷ []) job_there in
          let jobs_now : map (λ (x : Step J O). x.job) (steps_of lane before.steps ++ step ∷ []) ≡ take (length s.names) ks.items =
          map-append (λ (x : Step J O). x.job) (steps_of lane before.steps) (step ∷ []) ∙ (ap (λ (l : List J). l ++ job ∷ []) was.1 ∙ (sym taken ∙ (ap (λ (n : ℕ). take n js.items) (sym longer)
          ∙ (ap (λ (t : Stream). take (length t.names) js.items) s_same ∙ ap (λ (v : Vec J Global). take (length s.names) v.items) js_same)))) in
          (ap (map (λ (x : Step J O). x.out)) more_steps ∙ outs, ap (map (λ (x : Step J O). x.job)) more_steps ∙ jobs_now)
      each_job one k s ks qs kt ka kh (no other) =
          let step : Step J O = step_here one in
          let apart : lane_at seat seats client ≢ lane_at seat seats k = λ e. other (sym (two_lanes seat seats client k some e)) in
          let same_steps = step_of_other (lane_at seat seats k) before.steps step apart in
          let s_was : slice_get between k ≡ Some s =
          ⊎_elim (λ (h : (k ≡ client) × (stream (names ++ name ∷ []) false ≡ s)). absurd (other h.0)) (λ (h : (k ≢ client) × (slice_get between k ≡ Some s)). h.1)
          (got_set between client (stream (names ++ name ∷ []) false) k s kt) in
          let q_was : slice_get old.kit.outs.items k ≡ Some qs =
          ⊎_elim (λ (h : (k ≡ client) × (one.more ≡ qs)). absurd (other h.0)) (λ (h : (k ≢ client) × (slice_get old.kit.outs.items k ≡ Some qs)). h.1)
          (got_set old.kit.outs.items client one.more k qs (ap (λ (l : List (Vec O Global)). slice_get l k) (sym one.after) ∙ kh)) in
          let was = before.each k s ks qs s_was ka q_was in
          (ap (map (λ (x : Step J O). x.out)) same_steps ∙ was.0, ap (map (λ (x : Step J O). x.job)) same_steps ∙ was.1)

      with_job : S later new.worker new.kit.outs.items
      with_job =
          let one = call.some job is in
          let lane : ℕ = lane_at seat seats client in
          let step : Step J O = step_here one in
          let lane_in : lane < length jobs = slice_get_within jobs lane js at in
          let m = before.many in
          let after_len : length new.kit.outs.items ≡ length old.kit.outs.items = ap length one.after ∙ length-set old.kit.outs.items client one.more in
          let later_len = length-set between client (stream (names ++ name ∷ []) false) in record {
            steps = before.steps ++ step ∷ [];
            answered = answers_more answers w before.steps old.worker step new.worker before.answered one.answered;
            own =
                All-append (λ (s : Step J O). (c : ℕ) × (s.lane ≡ lane_at seat seats c) × (s.lane < length jobs)) before.steps (step ∷ []) before.own
                (all_one (λ (s : Step J O). (c : ℕ) × (s.lane ≡ lane_at seat seats c) × (s.lane < length jobs)) step (client, refl, lane_in));
            many = omega arith;
            room = λ k ks qs ka kh. ⊎_elim
                (λ (h : (k ≡ client) × (one.more ≡ qs)). let le = before.room k ks os ka (ap (slice_get old.kit.outs.items) h.0 ∙ here) in let cap : vec_capacity qs
                ≡ vec_capacity os = ap (λ (v : Vec O Global). vec_capacity v) (sym h.1) ∙ one.kept.1 in omega arith)
                (λ (h : (k ≢ client) × (slice_get old.kit.outs.items k ≡ Some qs)). before.room k ks qs ka h.1)
                (got_set old.kit.outs.items client one.more k qs (ap (λ (l : List (Vec O Global)). slice_get l k) (sym one.after) ∙ kh));
            each = λ k s ks qs kt ka kh. each_job one k s ks qs kt ka kh (ℕ_discrete k client);
          }

    without_job : length js.items ≤ place → S later new.worker new.kit.outs.items
    without_job past =
        let same = call.none past in
        let m = before.many in
        let later_len = length-set between client (stream (names ++ name ∷ []) false) in
        let as_long : length new.kit.outs.items ≡ length old.kit.outs.items = ap length same.1 in
        let was_out : (k : ℕ) (qs : Vec O Global) → slice_get new.kit.outs.items k ≡ Some qs → slice_get old.kit.outs.items k ≡ Some qs =
        λ k qs kh. ap (λ (l : List (Vec O Global)). slice_get l k) (sym same.1) ∙ kh in record {
          steps = before.steps;
          answered = subst (λ (v : W). AnswersSteps answers w before.steps v) (sym same.0) before.answered;
          own = before.own;
          many = omega arith;
          room = λ k ks qs ka kh. before.room k ks qs ka (was_out k qs kh);
          each = λ k s ks qs kt ka kh. ⊎_elim
              (λ (h : (k ≡ client) × (stream (names ++ name ∷ []) false ≡ s)).
              let old_there : slice_get between k ≡ Some (stream names false) = ap (slice_get between) h.0 ∙ there in
              let was = before.each k (stream names false) ks qs old_there ka (was_out k qs kh) in
              let js_same : js ≡ ks = cc (sym at ∙ (ap (λ (c : ℕ). slice_get jobs (lane_at seat seats c)) (sym h.0) ∙ ka)) in
              let short : length ks.items ≤ length names = let e : length js.items ≡ length ks.items = ap (λ (v : Vec J Global). length v.items) js_same in omega arith in
              let whole : take (length names) ks.items ≡ take (length s.names) ks.items = take_all (length names) ks.items short ∙ (sym (take_all (length names + 1) ks.items (omega arith))
              ∙ (ap (λ (n : ℕ). take n ks.items) (sym longer) ∙ ap (λ (t : Stream). take (length t.names) ks.items) h.1)) in
              (was.0, was.1 ∙ whole))
              (λ (h : (k ≢ client) × (slice_get between k ≡ Some s)). before.each k s ks qs h.1 ka (was_out k qs kh))
              (got_set between client (stream (names ++ name ∷ []) false) k s kt);
        }

    pub serving_call : Dec (place < length js.items) → S later new.worker new.kit.outs.items
    serving_call (yes lt) = let job = item_at js.items place lt in with_job job.0 job.1
    serving_call (no past) = without_job (omega arith)

  pub serving_taken : (streams after : List Stream) (old new : Bench W J O) (client place name : ℕ) (js : Vec J Global) (os : Vec O Global) → 0 < seats
      → TakesJob streams after client place name → slice_get jobs (lane_at seat seats client) ≡ Some js
      → slice_get old.kit.outs.items client ≡ Some os → AnswersCall answers (lane_at seat seats client) client place js os old new → S streams old.worker old.kit.outs.items
      → S after new.worker new.kit.outs.items
  serving_taken streams after old new client place name js os some taken at here call served =
      subst (λ (ss : List Stream). S ss new.worker new.kit.outs.items) (sym taken.after)
      (serving_call taken.between old new client place name taken.names js os some (serving_ends streams taken.between old.worker old.kit.outs.items taken.ends served)
      taken.going_on taken.next at here call (dec_lt place (length js.items)))

-- a worker that has a client has a seat
pub some_seat : {J : Type 0} (seat seats n client : ℕ) (jobs : List J) → AreClients seat seats n jobs → client < n → Dec (seats ≡ 0) → 0 < seats
some_seat seat seats n client jobs all lt (no some) = omega arith
some_seat seat seats n client jobs all lt (yes none) =
    let lane_in : lane_at seat seats client < length jobs = (all client).0 lt in
    let same : lane_at seat seats client ≡ lane_at seat seats n = ap (λ (k : ℕ). seat + client * k) none ∙ (zero_lane seat client n ∙ sym (ap (λ (k : ℕ). seat + n * k) none)) in
    let again : n < n = (all n).1 (subst (λ (k : ℕ). k < length jobs) same lane_in) in absurd (omega arith)

module _ {W J O : Type 0} (may_answer : W → ℕ → J → Type 0) (answers : W → ℕ → J → W → O → Type 0) (seat seats : ℕ) (jobs : List (Vec J Global)) where
  -- a worker may be given after a call what it might be given before
  pub stays_ready : StaysReady may_answer answers → (old new : Bench W J O) (client place : ℕ) (js : Vec J Global) (os : Vec O Global)
      → AnswersCall answers (lane_at seat seats client) client place js os old new
      → Dec (place < length js.items) → MayAnswerAll seat seats may_answer jobs old.worker → MayAnswerAll seat seats may_answer jobs new.worker
  stays_ready stays old new client place js os call (yes lt) may k ks at i d in_list = let job = item_at js.items place lt in let one = call.some job.0 job.1 in
      stays old.worker new.worker (lane_at seat seats client) (lane_at seat seats k) job.0 (get_or ks.items i d) one.out one.answered (may k ks at i d in_list)
  stays_ready stays old new client place js os call (no past) may k ks at i d in_list =
      let same = call.none (omega arith) in subst (λ (v : W). may_answer v (lane_at seat seats k) (get_or ks.items i d)) (sym same.0) (may k ks at i d in_list)
