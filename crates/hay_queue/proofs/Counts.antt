-- Lists of streams: how many are not ended, and what takes change.
use Rattle.std.proofs.Common.{◌≡◌, ◌≢◌, ◌⊎◌, ℕ, zero, suc, ◌+◌, ◌<◌, Bool, true, false, List, [], ◌∷◌, ◌++◌, length, replicate, get_or, set, Some, None, slice_get, refl, ap, sym}
use Rattle.std.proofs.Common.{subst, ◌∙◌, inl, inr, ⊎_elim, arith}
use Rattle.std.proofs.lemmas.List.{replicate-append-replicate, length-set, length-append}
use Rattle.std.proofs.lemmas.Option.{slice_get-get_or}
use Rattle.hay_queue.specs.declared.rule.Stream.{Stream}
use Rattle.hay_queue.specs.Streams.{empty, stream, followed, TakesNext}
use Rattle.hay_queue.specs.Desks.{Sent, DeskId, sent_by, AreNew, AllEnded, if_unended, unended_streams, TakesEnds, TakesJob}

pub replicate_more : {A : Type 0} (n : ℕ) (a : A) → replicate n a ++ a ∷ [] ≡ replicate (n + 1) a
replicate_more n a = replicate-append-replicate n 1 a

module _ {A : Type 0} where
  -- an item of a list with one more is an item of the list, or the last
  pub got_or_last : (xs : List A) (a b : A) (i : ℕ) → slice_get (xs ++ a ∷ []) i ≡ Some b → (slice_get xs i ≡ Some b) ⊎ ((a ≡ b) × (i ≡ length xs))
  got_or_last [] a b zero e = inr (cc e, refl)
  got_or_last [] a b (suc i) e = absurd cc
  got_or_last (x ∷ xs) a b zero e = inl e
  got_or_last (x ∷ xs) a b (suc i) e = ⊎_elim inl (λ t. inr (t.0, ap suc t.1)) (got_or_last xs a b i e)

  -- what stands in a list with one item changed
  pub got_set : (xs : List A) (i : ℕ) (a : A) (j : ℕ) (b : A) → slice_get (set xs i a) j ≡ Some b → ((j ≡ i) × (a ≡ b)) ⊎ ((j ≢ i) × (slice_get xs j ≡ Some b))
  got_set [] i a j b e = absurd cc
  got_set (x ∷ xs) zero a zero b e = inl (refl, cc e)
  got_set (x ∷ xs) zero a (suc j) b e = inr ((λ h. omega arith), e)
  got_set (x ∷ xs) (suc i) a zero b e = inr ((λ h. omega arith), e)
  got_set (x ∷ xs) (suc i) a (suc j) b e = ⊎_elim (λ t. inl (ap suc t.0, t.1)) (λ t. let n = t.0 in inr ((λ h. n (omega arith)), t.1)) (got_set xs i a j b e)

module _ {J : Type 0} where
  pub one_new : (desk : DeskId J) (n : ℕ) (clients : List (Sent J)) (c : Sent J) → AreNew desk n clients → c ≡ sent_by desk n [] → AreNew desk (n + 1) (clients ++ c ∷ [])
  one_new desk n clients c old is = let len = length-append clients (c ∷ []) in let as_many = old.0 in (
    omega arith,
    λ i x e. ⊎_elim (λ t. old.1 i x t) (λ (t : (c ≡ x) × (i ≡ length clients)). sym t.0 ∙ (is ∙ ap (λ (k : ℕ). sent_by desk k []) (sym (t.1 ∙ as_many)))) (got_or_last clients c x i e),
  )

pub unended_replicate : (n : ℕ) → unended_streams (replicate n empty) ≡ n
unended_replicate zero = refl
unended_replicate (suc n) = let h = unended_replicate n in omega arith

ended_here : (b : Bool) → if_unended b ≡ 0 → b ≡ true
ended_here true e = refl
ended_here false e = absurd (omega arith)

pub none_unended : (ss : List Stream) → unended_streams ss ≡ 0 → AllEnded ss
none_unended [] e zero d lt = absurd (omega arith)
none_unended [] e (suc k) d lt = absurd (omega arith)
none_unended (s ∷ ss) e zero d lt = let here : if_unended s.ended ≡ 0 = omega arith in ended_here s.ended here
none_unended (s ∷ ss) e (suc k) d lt = let rest : unended_streams ss ≡ 0 = omega arith in none_unended ss rest k d (omega arith)

pub unended_set : (ss : List Stream) (i : ℕ) (s t : Stream) → slice_get ss i ≡ Some s → unended_streams (set ss i t) + if_unended s.ended ≡ unended_streams ss + if_unended t.ended
unended_set [] i s t e = absurd cc
unended_set (x ∷ xs) zero s t e = let same : x ≡ s = cc e in let h : if_unended x.ended ≡ if_unended s.ended = ap (λ (y : Stream). if_unended y.ended) same in omega arith
unended_set (x ∷ xs) (suc i) s t e = let h = unended_set xs i s t e in omega arith

pub no_takes : (ss : List Stream) → TakesEnds ss ss
no_takes ss = record { clients = refl; each = λ c s t e f. let same : s ≡ t = cc (e, f) in (ap (λ (x : Stream). x.names) (sym same), λ h. ap (λ (x : Stream). x.ended) (sym same) ∙ h) }

-- one end more
pub end_taken : (old between : List Stream) (client : ℕ) (s t : Stream) → TakesEnds old between → slice_get between client ≡ Some s → t.names ≡ s.names → t.ended ≡ true
    → TakesEnds old (set between client t)
end_taken old between client s t before at names ended = record {
  clients = length-set between client t ∙ before.clients;
  each = λ c x y e f. ⊎_elim
      (λ (h : (c ≡ client) × (t ≡ y)). let was : slice_get between c ≡ Some s = ap (slice_get between) h.0 ∙ at in let b = before.each c x s e was in
      (ap (λ (z : Stream). z.names) (sym h.1) ∙ (names ∙ b.0), λ _. ap (λ (z : Stream). z.ended) (sym h.1) ∙ ended))
      (λ (h : (c ≢ client) × (slice_get between c ≡ Some y)). before.each c x y e h.1)
      (got_set between client t c y f);
}

module _ (old new : List Stream) (client place : ℕ) where
  pub unended_job : (name : ℕ) → TakesNext old new client place (Some name) → unended_streams new ≡ unended_streams old
  unended_job name t =
      let h = unended_set old client t.before (followed t.before (Some name)) t.stands in let e : unended_streams new
      ≡ unended_streams (set old client (followed t.before (Some name))) = ap unended_streams t.after in omega arith

  pub unended_end : TakesNext old new client place None → unended_streams new + 1 ≡ unended_streams old
  unended_end t =
      let h = unended_set old client t.before (followed t.before None) t.stands in let e : unended_streams new
      ≡ unended_streams (set old client (followed t.before None)) = ap unended_streams t.after in
      let one : if_unended t.before.ended ≡ 1 = ap if_unended t.going_on in omega arith

  pub ends_more : (first : List Stream) → TakesEnds first old → TakesNext old new client place None → TakesEnds first new
  ends_more first before t = subst (TakesEnds first) (sym t.after) (end_taken first old client t.before (followed t.before None) before t.stands refl refl)

  pub then_job : (first : List Stream) (name : ℕ) → TakesEnds first old → TakesNext old new client place (Some name) → TakesJob first new client place name
  then_job first name before t =
      let open_stream : t.before ≡ stream t.before.names false = λ i. record { names = t.before.names; ended = t.going_on i } in record {
        between = old;
        names = t.before.names;
        ends = before;
        going_on = t.stands ∙ ap (λ (s : Stream). Some s) open_stream;
        next = t.next name refl;
        after = t.after ∙ ap (λ (s : Stream). set old client (followed s (Some name))) open_stream;
      }

-- the stream of a client that there is, where every end was taken
pub ended_stream : (ss : List Stream) (client : ℕ) → client < length ss → AllEnded ss → (s : Stream) × (slice_get ss client ≡ Some s) × (s.ended ≡ true)
ended_stream ss client lt all = (get_or ss client empty, slice_get-get_or ss client empty lt, all client empty lt)
