-- Each step keeps the rule.
use Rattle.std.proofs.Common.{◌≡◌, ◌≢◌, ℕ, zero, suc, ◌<◌, ◌≤◌, ◌==◌, eq-eqb, ne_eqb, Bool, true, false, true≢false, List, [], ◌∷◌, ◌++◌, length, set, Option, Some, None}
use Rattle.std.proofs.Common.{slice_get, refl, ap, sym, subst, ◌∙◌, ⊎_elim, ◌⊎◌, inl, inr, arith, append_assoc, if◌then◌else◌}
use Rattle.std.proofs.lemmas.List.{append-nil, length-append, length-set, get_or_past, get_or-set_same, get_or-set_other}
use Rattle.std.proofs.lemmas.Option.{slice_get-get_or, get_or_from_slice_get}
use mathlib.Core.Option.{some, some-injective, some-ne-none}
use mathlib.Core.List.{IsPrefix}
use native.Mathlib.Decide.{dec_lt, ℕ_discrete}
use lib.ListN.{get_elem?}
use Rattle.crossbeam_channel.specs.Fifo.{Pushes, Pops, Forks, Merges, Learns}
use Rattle.atomic_table.proofs.Lists.{at_set}
use Rattle.hay_queue.specs.declared.message.Message.{Message}
use Rattle.hay_queue.specs.declared.rule.Knows.{Knows}
use Rattle.hay_queue.specs.declared.rule.Stream.{Stream}
use Rattle.hay_queue.specs.Streams.{empty, stream_at, followed, Entry, entry_at, entries, with_entry, name_of, entries_of}
use Rattle.hay_queue.specs.Rule.{first_pass, nobody, one_client_more, new_client, accounted, IsSettled, Fits, Kept, sent, took}
use Rattle.hay_queue.proofs.Streams.{entries_of-append, entries-followed, next_entry, whole_stream, prefix_stream, stream_at-append}

-- an item of a list with one more is an item of the list, or the last
at_end : {A : Type 0} (l : List A) (a b : A) (j : ℕ) → get_elem? (l ++ a ∷ []) j ≡ some b → (get_elem? l j ≡ some b) ⊎ ((a ≡ b) × (j ≡ length l))
at_end [] a b zero e = inr (some-injective a b e, refl)
at_end [] a b (suc j) e = absurd (some-ne-none b (sym e))
at_end (x ∷ xs) a b zero e = inl e
at_end (x ∷ xs) a b (suc j) e = ⊎_elim inl (λ t. inr (t.0, ap suc t.1)) (at_end xs a b j e)

abbrev All : (ℕ → Knows → Type 0) → List Knows → Type 0
All F views = (pass : ℕ) (v : Knows) → get_elem? views pass ≡ some v → F pass v

all_set : (F : ℕ → Knows → Type 0) (views : List Knows) (pass : ℕ) (w : Knows) → F pass w → ((j : ℕ) (u : Knows) → j ≢ pass → get_elem? views j ≡ some u → F j u) → All F (set views pass w)
all_set F views pass w mine others j u e = ⊎_elim (λ (x : (j ≡ pass) × (w ≡ u)). subst (λ (y : ℕ × Knows). F y.0 y.1) (λ i. (sym x.0 i, x.1 i)) mine)
    (λ (x : (j ≢ pass) × (get_elem? views j ≡ some u)). others j u x.0 x.1) (at_set views pass j w u e)

-- a function with another value at one place
module _ {A : Type 0} where
  abbrev but : (ℕ → A) → ℕ → A → ℕ → A
  but f place a k = if k == place then a else f k

  here : (f : ℕ → A) (place k : ℕ) (a : A) → k ≡ place → but f place a k ≡ a
  here f place k a e = ap (λ (b : Bool). if b then a else f k) (eq-eqb k place e)

  elsewhere : (f : ℕ → A) (place k : ℕ) (a : A) → k ≢ place → but f place a k ≡ f k
  elsewhere f place k a n = ap (λ (b : Bool). if b then a else f k) (ne_eqb k place n)

shorter : (ss : List Stream) (i : ℕ) (s : Stream) (k : ℕ) → k < length ss → k < length (set ss i s)
shorter ss i s k lt = let n = length-set ss i s in omega arith

module _ {J : Type 0} (named : J → ℕ) where
  abbrev M : Type 0
  M = Message J

  abbrev said_of : M → Option ℕ
  said_of m = name_of named m.job

  abbrev entry : M → Entry
  entry m = entry_at m.place (said_of m)

  abbrev K : List M → List Knows → Type 0
  K = Kept named

  of_one : (client : ℕ) (m : M) (ms : List M) → m.from ≡ client → entries_of named client (m ∷ ms) ≡ entry m ∷ entries_of named client ms
  of_one client m ms e = ap (λ (b : Bool). with_entry b (entry m) (entries_of named client ms)) (eq-eqb m.from client e)

  of_other : (client : ℕ) (m : M) (ms : List M) → m.from ≢ client → entries_of named client (m ∷ ms) ≡ entries_of named client ms
  of_other client m ms n = ap (λ (b : Bool). with_entry b (entry m) (entries_of named client ms)) (ne_eqb m.from client n)

  pub begins : K [] (first_pass ∷ [])
  begins = record {
    worker = 0;
    seat = λ c. 0;
    said = λ c. empty;
    heard = [];
    none_else = λ c le. refl;
    in_order = λ c. refl;
    each_pass = all_set (Fits 0 (λ c. 0) (λ c. empty) []) (first_pass ∷ []) 0 first_pass (record { takes = λ t. (refl, refl); sends = λ t. absurd (true≢false (sym t)) })
        (λ j u other e. ⊎_elim (λ x. absurd (some-ne-none u (sym x))) (λ (x : (first_pass ≡ u) × (j ≡ 0)). absurd (other x.1)) (at_end [] first_pass u j e));
  }

  -- what a client has said, with one entry more
  sent_on : (heard : List Stream) (said : ℕ → Stream) (items : List M) (m : M) (client : ℕ) → (said client).ended ≡ false → m.from ≡ client → m.place ≡ length (said client).names
      → ((c : ℕ) → entries (stream_at heard c) ++ entries_of named c items ≡ entries (said c))
      → (c : ℕ) → Dec (c ≡ client) → entries (stream_at heard c) ++ entries_of named c (items ++ m ∷ []) ≡ entries (but said client (followed (said client) (said_of m)) c)
  sent_on heard said items m client going from next old c (yes is) =
      let here_now : but said client (followed (said client) (said_of m)) c ≡ followed (said client) (said_of m) = here said client c (followed (said client) (said_of m)) is in
      let mine : entries_of named c (m ∷ []) ≡ entry m ∷ [] = of_one c m [] (from ∙ sym is) in
      let step : entries_of named c (items ++ m ∷ []) ≡ entries_of named c items ++ entry m ∷ [] =
      entries_of-append named c items (m ∷ []) ∙ ap (λ (l : List Entry). entries_of named c items ++ l) mine in
      let whole : entries (stream_at heard c) ++ (entries_of named c items ++ entry m ∷ []) ≡ entries (said c) ++ entry m ∷ [] =
      sym (append_assoc (entries (stream_at heard c)) (entries_of named c items) (entry m ∷ [])) ∙ ap (λ (l : List Entry). l ++ entry m ∷ []) (old c) in
      let more : entries (followed (said client) (said_of m)) ≡ entries (said client) ++ entry m ∷ [] =
      entries-followed (said client) (said_of m) going ∙ ap (λ (p : ℕ). entries (said client) ++ entry_at p (said_of m) ∷ []) (sym next) in
      ap (λ (l : List Entry). entries (stream_at heard c) ++ l) step ∙ (whole ∙ (ap (λ (k : ℕ). entries (said k) ++ entry m ∷ []) is ∙ (sym more ∙ ap entries (sym here_now))))
  sent_on heard said items m client going from next old c (no other) =
      let none : entries_of named c (m ∷ []) ≡ [] = of_other c m [] (λ h. other (sym h ∙ from)) in
      let step : entries_of named c (items ++ m ∷ []) ≡ entries_of named c items =
      entries_of-append named c items (m ∷ []) ∙ (ap (λ (l : List Entry). entries_of named c items ++ l) none ∙ append-nil (entries_of named c items)) in
      ap (λ (l : List Entry). entries (stream_at heard c) ++ l) step ∙ (old c ∙ ap entries (sym (elsewhere said client c (followed (said client) (said_of m)) other)))

  pub sends : (n port : ℕ) (v : Knows) (m : M) → v.sends ≡ true → v.sent.ended ≡ false → m.from ≡ v.number → m.place ≡ length v.sent.names → Pushes K n port v m (sent named v m)
  sends n port v m may going from next items views room h there =
      let w : Knows = record v { sent = followed v.sent (said_of m) } in
      let fit = h.each_pass port v there in
      let mine = fit.sends may in
      let said : ℕ → Stream = but h.said v.number (followed (h.said v.number) (said_of m)) in
      let same : v.sent ≡ h.said v.number = mine.1 in (
        w,
        record {
          worker = h.worker;
          seat = h.seat;
          said = said;
          heard = h.heard;
          none_else = λ c le. elsewhere h.said v.number c (followed (h.said v.number) (said_of m)) (λ is. let lt = mine.2 in absurd (omega arith)) ∙ h.none_else c le;
          in_order =
              λ c. sent_on h.heard h.said items m v.number (ap (λ (s : Stream). s.ended) (sym same) ∙ going) from (next ∙ ap (λ (s : Stream). length s.names) same) h.in_order c
              (ℕ_discrete c v.number);
          each_pass = all_set (Fits h.worker h.seat said h.heard) views port w
              (record {
                takes = fit.takes;
                sends = λ _. (
                  mine.0,
                  ap (λ (s : Stream). followed s (said_of m)) same
                      ∙ sym (here h.said v.number v.number (followed (h.said v.number) (said_of m)) refl),
                  mine.2,
                );
              })
              (λ j u other e. let theirs = h.each_pass j u e in record {
                takes = theirs.takes;
                sends = λ p. let t = theirs.sends p in (
                  t.0,
                  t.1 ∙ sym (elsewhere h.said v.number u.number (followed (h.said v.number) (said_of m)) (λ is. other (t.0 ∙ (ap h.seat is ∙ sym mine.0)))),
                  t.2,
                );
              });
        },
        refl,
      )

  -- what was taken of a client, with one entry more
  taken_on : (heard : List Stream) (said : ℕ → Stream) (items : List M) (m : M) → m.from < length heard → (stream_at heard m.from).ended ≡ false
      → entry m ≡ entry_at (length (stream_at heard m.from).names) (said_of m)
      → ((c : ℕ) → entries (stream_at heard c) ++ entries_of named c (m ∷ items) ≡ entries (said c))
      → (c : ℕ) → Dec (c ≡ m.from) → entries (stream_at (set heard m.from (followed (stream_at heard m.from) (said_of m))) c) ++ entries_of named c items ≡ entries (said c)
  taken_on heard said items m within going next old c (yes is) =
      let s : Stream = stream_at heard m.from in
      let now : stream_at (set heard m.from (followed s (said_of m))) c ≡ followed s (said_of m) =
      ap (stream_at (set heard m.from (followed s (said_of m)))) is ∙ get_or-set_same heard m.from (followed s (said_of m)) empty within in
      let more : entries (followed s (said_of m)) ≡ entries s ++ entry m ∷ [] = entries-followed s (said_of m) going ∙ ap (λ (e : Entry). entries s ++ e ∷ []) (sym next) in
      let was : entries s ++ (entry m ∷ entries_of named c items) ≡ entries (said c) =
      ap (λ (l : List Entry). entries s ++ l) (sym (of_one c m items (sym is))) ∙ (ap (λ (k : ℕ). entries (stream_at heard k) ++ entries_of named c (m ∷ items)) (sym is) ∙ old c) in
      ap (λ (t : Stream). entries t ++ entries_of named c items) now ∙ (ap (λ (l : List Entry). l ++ entries_of named c items) more
      ∙ (append_assoc (entries s) (entry m ∷ []) (entries_of named c items) ∙ was))
  taken_on heard said items m within going next old c (no other) =
      let s : Stream = stream_at heard m.from in
      ap (λ (t : Stream). entries t ++ entries_of named c items) (get_or-set_other heard m.from c (followed s (said_of m)) empty other)
      ∙ (ap (λ (l : List Entry). entries (stream_at heard c) ++ l) (sym (of_other c m items (λ h. other (sym h)))) ∙ old c)

  -- the message at the front is of a client that there is
  from_client : (heard : List Stream) (said : ℕ → Stream) (items : List M) (m : M) → ((client : ℕ) → length heard ≤ client → said client ≡ empty)
      → ((c : ℕ) → entries (stream_at heard c) ++ entries_of named c (m ∷ items) ≡ entries (said c)) → Dec (m.from < length heard) → m.from < length heard
  from_client heard said items m no_more old (yes lt) = lt
  from_client heard said items m no_more old (no past) =
      let le : length heard ≤ m.from = omega arith in
      let nothing : entries (stream_at heard m.from) ≡ [] = ap entries (get_or_past heard m.from empty le) in
      let e : entry m ∷ entries_of named m.from items ≡ [] = sym (ap (λ (l : List Entry). l ++ entry m ∷ entries_of named m.from items) nothing)
      ∙ (ap (λ (l : List Entry). entries (stream_at heard m.from) ++ l) (sym (of_one m.from m items refl)) ∙ (old m.from ∙ ap entries (no_more m.from le))) in
      absurd cc

  numbered_next : (place next : ℕ) (said : Option ℕ) → ((p name : ℕ) → entry_at place said ≡ Some (p, name) → p ≡ next) → entry_at place said ≡ entry_at next said
  numbered_next place next (Some name) h = ap (λ (p : ℕ). Some (p, name)) (h place name refl)
  numbered_next place next None h = refl

  pub takes : (port : ℕ) (v : Knows) → v.takes ≡ true → Pops K port v (took named v)
  takes port v may m items views h there =
      let fit = h.each_pass port v there in
      let mine = fit.takes may in
      let s : Stream = stream_at h.heard m.from in
      let within : m.from < length h.heard = from_client h.heard h.said items m h.none_else h.in_order (dec_lt m.from (length h.heard)) in
      let front : entries s ++ entry m ∷ entries_of named m.from items ≡ entries (h.said m.from) = ap (λ (l : List Entry). entries s ++ l) (sym (of_one m.from m items refl)) ∙ h.in_order m.from in
      let follows = next_entry 0 s.names (h.said m.from).names s.ended (h.said m.from).ended (entry m) (entries_of named m.from items) front in
      let place : (p name : ℕ) → entry m ≡ Some (p, name) → p ≡ length s.names = λ p name is. let q = follows.1 p name is in omega arith in
      let heard : List Stream = set h.heard m.from (followed s (said_of m)) in
      let w : Knows = record v { heard = set v.heard m.from (followed s (said_of m)) } in
      let longer : (c : ℕ) → length heard ≤ c → length h.heard ≤ c = λ c le. let n = length-set h.heard m.from (followed s (said_of m)) in omega arith in (
        w,
        record {
          worker = h.worker;
          seat = h.seat;
          said = h.said;
          heard = heard;
          none_else = λ c le. h.none_else c (longer c le);
          in_order = λ c. taken_on h.heard h.said items m within follows.0 (numbered_next m.place (length s.names) (said_of m) place) h.in_order c (ℕ_discrete c m.from);
          each_pass = all_set (Fits h.worker h.seat h.said heard) views port w
              (record {
                takes = λ _. (mine.0, ap (λ (l : List Stream). set l m.from (followed s (said_of m))) mine.1);
                sends = λ p. let t = fit.sends p in (t.0, t.1, shorter h.heard m.from (followed s (said_of m)) v.number t.2);
              })
              (λ j u other e. let theirs = h.each_pass j u e in record {
                takes = λ p. absurd (other ((theirs.takes p).0 ∙ sym mine.0));
                sends = λ p. let t = theirs.sends p in (t.0, t.1, shorter h.heard m.from (followed s (said_of m)) u.number t.2);
              });
        },
        (
          record {
            before = s;
            stands = ap (λ (l : List Stream). slice_get l m.from) mine.1 ∙ slice_get-get_or h.heard m.from empty within;
            going_on = follows.0;
            next = λ name is. place m.place name (ap (entry_at m.place) is);
            after = refl;
          },
          refl,
        ),
      )

  pub forks : (port : ℕ) (v : Knows) → v.takes ≡ true → Forks K port v (one_client_more v) (new_client v)
  forks port v may items views h there =
      let fit = h.each_pass port v there in
      let mine = fit.takes may in
      let l : Knows = one_client_more v in
      let r : Knows = new_client v in
      let vs : List Knows = set views port l in
      let heard : List Stream = h.heard ++ empty ∷ [] in
      let n = length-append h.heard (empty ∷ []) in
      let seat : ℕ → ℕ = but h.seat (length h.heard) (length vs) in
      let later : (k : ℕ) → k < length h.heard → k < length heard = λ k lt. omega arith in
      let before : (k p : ℕ) → k < length h.heard → p ≡ h.seat k → p ≡ seat k = λ k p lt e. e ∙ sym (elsewhere h.seat (length h.heard) k (length vs) (λ is. absurd (omega arith))) in
      let as_long : length v.heard ≡ length h.heard = ap length mine.1 in
      let old : All (Fits h.worker seat h.said heard) vs = all_set (Fits h.worker seat h.said heard) views port l
      (record { takes = λ _. (mine.0, ap (λ (ss : List Stream). ss ++ empty ∷ []) mine.1); sends = λ p. let t = fit.sends p in (before v.number port t.2 t.0, t.1, later v.number t.2) })
      (λ j u other e. let theirs = h.each_pass j u e in record {
        takes = λ p. absurd (other ((theirs.takes p).0 ∙ sym mine.0));
        sends = λ p. let t = theirs.sends p in (before u.number j t.2 t.0, t.1, later u.number t.2);
      }) in
      let new : (j : ℕ) → j ≡ length vs → Fits h.worker seat h.said heard j r = λ j is. record {
        takes = λ t. absurd (true≢false (sym t));
        sends = λ _. (is ∙ sym (here h.seat (length h.heard) (length v.heard) (length vs) as_long), sym (h.none_else (length v.heard) (omega arith)), omega arith);
      } in record {
        worker = h.worker;
        seat = seat;
        said = h.said;
        heard = heard;
        none_else = λ c le. h.none_else c (omega arith);
        in_order = λ c. ap (λ (t : Stream). entries t ++ entries_of named c items) (stream_at-append h.heard c) ∙ h.in_order c;
        each_pass = λ j u e. ⊎_elim (λ x. old j u x) (λ (x : (r ≡ u) × (j ≡ length vs)). subst (Fits h.worker seat h.said heard j) x.0 (new j x.1)) (at_end vs r u j e);
      }

  pub merges : (port : ℕ) (v : Knows) (other : ℕ) (u : Knows) → v.takes ≡ true → u.sends ≡ true → Merges K port v other u (accounted v u) nobody
  merges port v other u may theirs_may items views h there two there' =
      let both : Knows = accounted v u in
      let mine = (h.each_pass port v there).takes may in
      let was : get_elem? views other ≡ some u = ⊎_elim (λ x. absurd (two x.0)) (λ x. x.1) (at_set views port other both u there') in
      let theirs = (h.each_pass other u was).sends theirs_may in
      let seat : ℕ → ℕ = but h.seat u.number port in
      let F : ℕ → Knows → Type 0 = Fits h.worker seat h.said h.heard in
      let Now : ℕ → Knows → Type 0 = λ j y. j ≢ other → F j y in
      let now : All Now (set views port both) = all_set Now views port both
      (λ _. record { takes = λ _. mine; sends = λ _. (sym (here h.seat u.number u.number port refl), theirs.1, theirs.2) })
      (λ j y _ e apart. let fit = h.each_pass j y e in record {
        takes = fit.takes;
        sends = λ p. let t = fit.sends p in (t.0 ∙ sym (elsewhere h.seat u.number y.number port (λ is. apart (t.0 ∙ (ap h.seat is ∙ sym theirs.0)))), t.1, t.2);
      }) in record {
        worker = h.worker;
        seat = seat;
        said = h.said;
        heard = h.heard;
        none_else = h.none_else;
        in_order = h.in_order;
        each_pass = all_set F (set views port both) other nobody (record { takes = λ t. absurd (true≢false (sym t)); sends = λ t. absurd (true≢false (sym t)) }) (λ j y apart e. now j y e apart);
      }

  -- what was taken of a client and what the queue holds of it is what it sent
  accounts : (items : List M) (views : List Knows) (worker client : ℕ) (v u : Knows) → K items views → get_elem? views worker ≡ some v → get_elem? views client ≡ some u
      → v.takes ≡ true → u.sends ≡ true
      → entries (stream_at v.heard u.number) ++ entries_of named u.number items ≡ entries u.sent
  accounts items views worker client v u h at_worker at_client may may' =
      let mine = (h.each_pass worker v at_worker).takes may in
      let theirs = (h.each_pass client u at_client).sends may' in
      ap (λ (ss : List Stream). entries (stream_at ss u.number) ++ entries_of named u.number items) mine.1 ∙ (h.in_order u.number ∙ ap entries (sym theirs.1))

  settled : (s t : Stream) (es : List Entry) → s.ended ≡ true → entries s ++ es ≡ entries t → (s ≡ t) × (es ≡ [])
  settled s t es ended e =
      let closed : entries s ≡ entries (record s { ended = true }) = ap (λ (b : Bool). entries (record s { ended = b })) ended in
      let h = whole_stream 0 s.names t.names t.ended es (ap (λ (l : List Entry). l ++ es) (sym closed) ∙ e) in
      ((λ i. record { names = h.0 i; ended = (ended ∙ sym h.1) i }), h.2)

  pub learns : (port : ℕ) (v : Knows) → v.takes ≡ true → v.sends ≡ true → Learns K port v (λ items. IsSettled v)
  learns port v may may' items views h there s at ended =
      let all = accounts items views port port v v h there there may may' in
      (settled s v.sent (entries_of named v.number items) ended (ap (λ (t : Stream). entries t ++ entries_of named v.number items) (sym (get_or_from_slice_get v.heard v.number s empty at)) ∙ all)).0

  -- where a client's end was taken, all that it sent was, and nothing of it is left
  pub ends_last : (items : List M) (views : List Knows) (worker client : ℕ) (v u : Knows) → K items views → get_elem? views worker ≡ some v → get_elem? views client ≡ some u
      → v.takes ≡ true → u.sends ≡ true
      → (stream_at v.heard u.number).ended ≡ true → (stream_at v.heard u.number ≡ u.sent) × (entries_of named u.number items ≡ [])
  ends_last items views worker client v u h at_worker at_client may may' ended =
      settled (stream_at v.heard u.number) u.sent (entries_of named u.number items) ended (accounts items views worker client v u h at_worker at_client may may')

  -- at every moment what was taken of a client is a beginning of what it sent
  pub taken_begins : (items : List M) (views : List Knows) (worker client : ℕ) (v u : Knows) → K items views → get_elem? views worker ≡ some v → get_elem? views client ≡ some u
      → v.takes ≡ true → u.sends ≡ true
      → IsPrefix (stream_at v.heard u.number).names u.sent.names
  taken_begins items views worker client v u h at_worker at_client may may' =
      let s : Stream = stream_at v.heard u.number in
      prefix_stream 0 s.names u.sent.names s.ended u.sent.ended (entries_of named u.number items) (accounts items views worker client v u h at_worker at_client may may')
