-- Streams, and the entries that a queue holds of them.
use Rattle.std.proofs.Common.{◌≡◌, ℕ, zero, suc, ◌+◌, ◌==◌, Bool, true, false, List, [], ◌∷◌, ◌++◌, length, Option, Some, None, refl, ap, sym, ◌∙◌, arith}
use Rattle.std.proofs.lemmas.List.{append-nil}
use mathlib.Core.List.{IsPrefix}
use Rattle.hay_queue.specs.declared.message.Message.{Message}
use Rattle.hay_queue.specs.declared.rule.Stream.{Stream}
use Rattle.hay_queue.specs.Streams.{stream, empty, stream_at, followed, Entry, entry_at, numbered, ending, entries, with_entry, name_of, entries_of}

with_entry-append : (b : Bool) (e : Entry) (xs ys zs : List Entry) → zs ≡ xs ++ ys → with_entry b e zs ≡ with_entry b e xs ++ ys
with_entry-append true e xs ys zs h = ap (λ (l : List Entry). e ∷ l) h
with_entry-append false e xs ys zs h = h

module _ {J : Type 0} (named : J → ℕ) where
  pub entries_of-append : (client : ℕ) (xs ys : List (Message J)) → entries_of named client (xs ++ ys) ≡ entries_of named client xs ++ entries_of named client ys
  entries_of-append client [] ys = refl
  entries_of-append client (m ∷ ms) ys =
      with_entry-append (m.from == client) (entry_at m.place (name_of named m.job)) (entries_of named client ms) (entries_of named client ys) (entries_of named client (ms ++ ys))
      (entries_of-append client ms ys)

numbered-append : (k : ℕ) (names : List ℕ) (name next : ℕ) → next ≡ k + length names → numbered k (names ++ name ∷ []) ≡ numbered k names ++ Some (next, name) ∷ []
numbered-append k [] name next is = let e : k ≡ next = omega arith in ap (λ (n : ℕ). Some (n, name) ∷ []) e
numbered-append k (x ∷ xs) name next is = ap (λ (l : List Entry). Some (k, x) ∷ l) (numbered-append (k + 1) xs name next (omega arith))

open_entries : (s : Stream) → s.ended ≡ false → entries s ≡ numbered 0 s.names
open_entries s e = ap (λ (b : Bool). numbered 0 s.names ++ ending b) e ∙ append-nil (numbered 0 s.names)

-- what follows in an open stream is the entry of the next place
pub entries-followed : (s : Stream) (said : Option ℕ) → s.ended ≡ false → entries (followed s said) ≡ entries s ++ entry_at (length s.names) said ∷ []
entries-followed s (Some name) e =
    open_entries (stream (s.names ++ name ∷ []) s.ended) e ∙ (numbered-append 0 s.names name (length s.names) (omega arith)
    ∙ sym (ap (λ (l : List Entry). l ++ Some (length s.names, name) ∷ []) (open_entries s e)))
entries-followed s None e = sym (ap (λ (l : List Entry). l ++ None ∷ []) (open_entries s e))

module _ (entry : ℕ × ℕ → ℕ) where
  abbrev of_job : Entry → ℕ
  of_job (Some p) = entry p
  of_job None = 0

same_place : (p k n z : ℕ) (y : Entry) → y ≡ Some (k, z) → y ≡ Some (p, n) → p ≡ k
same_place p k n z y first h = sym (ap (of_job (λ e. e.0)) (sym first ∙ h))

same_name : (k x z : ℕ) (y : Entry) → y ≡ Some (k, x) → y ≡ Some (k, z) → x ≡ z
same_name k x z y first h = ap (of_job (λ p. p.1)) (sym first ∙ h)

-- an entry behind a beginning of a stream: the beginning has no end, and a job's place is the next
pub next_entry : (k : ℕ) (xs zs : List ℕ) (a b : Bool) (y : Entry) (ys : List Entry) → (numbered k xs ++ ending a) ++ y ∷ ys ≡ numbered k zs ++ ending b
    → (a ≡ false) × ((place name : ℕ) → y ≡ Some (place, name) → place ≡ k + length xs)
next_entry k [] [] true true y ys e = absurd cc
next_entry k [] [] true false y ys e = absurd cc
next_entry k [] [] false true y ys e = (refl, λ p n h. absurd cc)
next_entry k [] [] false false y ys e = absurd cc
next_entry k [] (z ∷ zs) true b y ys e = absurd cc
next_entry k [] (z ∷ zs) false b y ys e = (refl, λ p n h. let first : y ≡ Some (k, z) = cc e in let same : p ≡ k = same_place p k n z y first h in omega arith)
next_entry k (x ∷ xs) [] a true y ys e = absurd cc
next_entry k (x ∷ xs) [] a false y ys e = absurd cc
next_entry k (x ∷ xs) (z ∷ zs) a b y ys e = let rest : (numbered (k + 1) xs ++ ending a) ++ y ∷ ys ≡ numbered (k + 1) zs ++ ending b = cc e in let h = next_entry (k + 1) xs zs a b y ys rest in
    (h.0, λ p n is. let q = h.1 p n is in omega arith)

-- a beginning with an end is the whole stream
pub whole_stream : (k : ℕ) (xs zs : List ℕ) (b : Bool) (ys : List Entry) → (numbered k xs ++ ending true) ++ ys ≡ numbered k zs ++ ending b → (xs ≡ zs) × (b ≡ true) × (ys ≡ [])
whole_stream k [] [] true ys e = (refl, refl, cc e)
whole_stream k [] [] false ys e = absurd cc
whole_stream k [] (z ∷ zs) b ys e = absurd cc
whole_stream k (x ∷ xs) [] true ys e = absurd cc
whole_stream k (x ∷ xs) [] false ys e = absurd cc
whole_stream k (x ∷ xs) (z ∷ zs) b ys e =
    let rest : (numbered (k + 1) xs ++ ending true) ++ ys ≡ numbered (k + 1) zs ++ ending b = cc e in let y : Entry = Some (k, x) in let first : y
    ≡ Some (k, z) = cc e in let same : x ≡ z = same_name k x z y refl first in let h = whole_stream (k + 1) xs zs b ys rest in
    ((λ i. same i ∷ h.0 i), h.1, h.2)

-- the names of a beginning begin the stream's
pub prefix_stream : (k : ℕ) (xs zs : List ℕ) (a b : Bool) (ys : List Entry) → (numbered k xs ++ ending a) ++ ys ≡ numbered k zs ++ ending b → IsPrefix xs zs
prefix_stream k [] zs a b ys e = (zs, refl)
prefix_stream k (x ∷ xs) [] a true ys e = absurd cc
prefix_stream k (x ∷ xs) [] a false ys e = absurd cc
prefix_stream k (x ∷ xs) (z ∷ zs) a b ys e =
    let rest : (numbered (k + 1) xs ++ ending a) ++ ys ≡ numbered (k + 1) zs ++ ending b = cc e in let y : Entry = Some (k, x) in let first : y ≡ Some (k, z) = cc e in let same : x
    ≡ z = same_name k x z y refl first in let h = prefix_stream (k + 1) xs zs a b ys rest in
    (h.0, λ i. same i ∷ h.1 i)

-- a client without jobs more in a list
pub stream_at-append : (ss : List Stream) (client : ℕ) → stream_at (ss ++ empty ∷ []) client ≡ stream_at ss client
stream_at-append [] zero = refl
stream_at-append [] (suc c) = refl
stream_at-append (s ∷ ss) zero = refl
stream_at-append (s ∷ ss) (suc c) = stream_at-append ss c
