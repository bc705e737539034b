-- Laws of summaries: what all of a list add is the sum of what its members add, in any order, and its numbers are bounded by theirs.
use Rattle.std.specs.List.{fold}
use Rattle.std.proofs.Common.{◌≡◌, ℕ, ◌+◌, ◌*◌, ◌≤◌, arith, suc, List, [], ◌∷◌, ◌++◌, length, refl, sym, ap, ◌∙◌}
use Rattle.std.proofs.Math.Nat.{suc-mul}
use Rattle.hay_reply.specs.declared.Reply.{Reply}
use Rattle.hay_reply.specs.declared.Reply.TheVariants as reply
use Rattle.hay_reply.specs.declared.Note.{Note}
use Rattle.hay_reply.specs.declared.Note.TheVariants as note
use Rattle.hay_drill.specs.declared.summary.Summary.{Summary}
use Rattle.hay_drill.specs.Summary.{nothing, plus, of_reply, of_note, sum_of, total}

-- two summaries with the same numbers
same : (a b : Summary) → a.stored ≡ b.stored → a.deleted ≡ b.deleted → a.photos ≡ b.photos → a.photo_bytes ≡ b.photo_bytes → a.gone ≡ b.gone
    → a.flushed ≡ b.flushed → a.compacted ≡ b.compacted → a.rows ≡ b.rows → a.other ≡ b.other → a ≡ b
same a b h1 h2 h3 h4 h5 h6 h7 h8 h9 =
    ap (λ (x : ℕ). let s : Summary = record a { stored = x } in s) h1
    ∙ ap (λ (x : ℕ). let s : Summary = record a { stored = b.stored; deleted = x } in s) h2
    ∙ ap (λ (x : ℕ). let s : Summary = record a { stored = b.stored; deleted = b.deleted; photos = x } in s) h3
    ∙ ap (λ (x : ℕ). let s : Summary = record a { stored = b.stored; deleted = b.deleted; photos = b.photos; photo_bytes = x } in s) h4
    ∙ ap (λ (x : ℕ). let s : Summary = record b { gone = x; flushed = a.flushed; compacted = a.compacted; rows = a.rows; other = a.other } in s) h5
    ∙ ap (λ (x : ℕ). let s : Summary = record b { flushed = x; compacted = a.compacted; rows = a.rows; other = a.other } in s) h6
    ∙ ap (λ (x : ℕ). let s : Summary = record b { compacted = x; rows = a.rows; other = a.other } in s) h7
    ∙ ap (λ (x : ℕ). let s : Summary = record b { rows = x; other = a.other } in s) h8
    ∙ ap (λ (x : ℕ). let s : Summary = record b { other = x } in s) h9

pub plus-nothing : (s : Summary) → plus s nothing ≡ s
plus-nothing s = same (plus s nothing) s (omega arith) (omega arith) (omega arith) (omega arith) (omega arith) (omega arith) (omega arith) (omega arith) (omega arith)

pub nothing-plus : (s : Summary) → plus nothing s ≡ s
nothing-plus s = same (plus nothing s) s (omega arith) (omega arith) (omega arith) (omega arith) (omega arith) (omega arith) (omega arith) (omega arith) (omega arith)

pub plus_assoc : (a b c : Summary) → plus (plus a b) c ≡ plus a (plus b c)
plus_assoc a b c =
    same (plus (plus a b) c) (plus a (plus b c)) (omega arith) (omega arith) (omega arith) (omega arith) (omega arith) (omega arith) (omega arith) (omega arith) (omega arith)

pub plus_comm : (a b : Summary) → plus a b ≡ plus b a
plus_comm a b = same (plus a b) (plus b a) (omega arith) (omega arith) (omega arith) (omega arith) (omega arith) (omega arith) (omega arith) (omega arith) (omega arith)

module _ {X : Type 0} (of : X → Summary) where
  pub sum_of-append : (xs ys : List X) → sum_of of (xs ++ ys) ≡ plus (sum_of of xs) (sum_of of ys)
  sum_of-append [] ys = sym (nothing-plus (sum_of of ys))
  sum_of-append (x ∷ xs) ys = ap (plus (of x)) (sum_of-append xs ys) ∙ sym (plus_assoc (of x) (sum_of of xs) (sum_of of ys))

  -- one member more
  pub sum_of-push : (xs : List X) (x : X) → sum_of of (xs ++ x ∷ []) ≡ plus (sum_of of xs) (of x)
  sum_of-push xs x = sum_of-append xs (x ∷ []) ∙ ap (plus (sum_of of xs)) (plus-nothing (of x))

  fold_from : (s : Summary) (xs : List X) → fold (λ t x. plus t (of x)) s xs ≡ plus s (sum_of of xs)
  fold_from s [] = sym (plus-nothing s)
  fold_from s (x ∷ xs) = fold_from (plus s (of x)) xs ∙ plus_assoc s (of x) (sum_of of xs)

  -- it is what is counted one member behind the other
  pub sum_of-fold : (xs : List X) → sum_of of xs ≡ fold (λ s x. plus s (of x)) nothing xs
  sum_of-fold xs = sym (fold_from nothing xs ∙ nothing-plus (sum_of of xs))

  pub total-sum_of-le : (most : ℕ) → ((x : X) → total (of x) ≤ most) → (xs : List X) → total (sum_of of xs) ≤ length xs * most
  total-sum_of-le most each [] = omega arith
  total-sum_of-le most each (x ∷ xs) =
      let rest = total-sum_of-le most each xs in
      let here = each x in
      let more : suc (length xs) * most ≡ length xs * most + most = suc-mul (length xs) most in
      omega (arith, rest, here, more)

pub total-plus : (a b : Summary) → total (plus a b) ≡ total a + total b
total-plus a b = omega arith

-- a reply adds no more than its photo's bytes and one
pub total-of_reply-le : (most : ℕ) (r : Reply) → ((v m p d : ℕ) (photo : List ℕ) → r ≡ reply.Photo v m p d photo → length photo ≤ most) → total (of_reply r) ≤ most + 1
total-of_reply-le most (reply.Photo v m p d photo) within = omega (arith, within v m p d photo refl)
total-of_reply-le most _ within = omega arith

pub total-of_note-le : (n : Note) → total (of_note n) ≤ 1
total-of_note-le (note.Kept v m line) = omega arith
total-of_note-le _ = omega arith
