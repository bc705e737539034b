-- Bytes that were taken, and how many.
use Rattle.std.proofs.Common.{◌≡◌, ℕ, ◌+◌, ◌<◌, ◌≤◌, List, [], ◌∷◌, ◌++◌, length, Option, Some, None, sym, ap, ◌∙◌, length-append, arith}
use Rattle.hay_disk.specs.Streams.{Took, IsSpent}
use Rattle.hay_lines.specs.Stream.{IsReadToEnd, TookAll, TookAtMost}
use Rattle.hay_lines.proofs.Taking.{took_more}
use Rattle.hay_frame.specs.Frames.{TookShort}

pub at_most : (most : ℕ) (before after : Option (List ℕ)) (bytes : List ℕ) → Took before bytes after → length bytes ≤ most
    → TookAtMost most before after
at_most most None after bytes took few = λ input is. cc
at_most most (Some all) after bytes took few = λ input is.
    let same : all ≡ input = cc in
    (took.0, took.1, omega (arith, ap length same, ap length took.2, length-append bytes took.0, few))

pub at_most_more : (some more most : ℕ) (before mid after : Option (List ℕ)) → TookAtMost some before mid → TookAtMost more mid after
    → some + more ≤ most → TookAtMost most before after
at_most_more some more most before mid after first then within = λ input is.
    let h = first input is in
    let k = then h.0 h.1 in
    (k.0, k.1, omega (arith, h.2, k.2, within))

pub spent_all : (before after : Option (List ℕ)) → IsSpent before → Took before [] after → TookAll before [] after
spent_all None after spent took = tt
spent_all (Some all) after spent took = (spent, took.1 ∙ ap Some (sym took.2 ∙ spent))

pub all_at_most : (most : ℕ) (before after : Option (List ℕ)) (bytes : List ℕ) → TookAll before bytes after → length bytes ≤ most
    → TookAtMost most before after
all_at_most most None after bytes took few = λ input is. cc
all_at_most most (Some all) after bytes took few = λ input is.
    let same : all ≡ input = cc in
    ([], took.1, omega (arith, ap length same, ap length took.0, few))

-- all was taken, behind what was taken before it
pub short_to_end : (most : ℕ) (before mid after : Option (List ℕ)) (bytes : List ℕ) → Took before bytes mid → TookShort most mid after
    → IsReadToEnd before after
short_to_end most None mid after bytes took short = tt
short_to_end most (Some all) None after bytes took short = cc
short_to_end most (Some all) (Some rest) after bytes took short = short.2.1

pub none_taken : (most : ℕ) (left : Option (List ℕ)) → TookAtMost most left left
none_taken most left = λ input is. (input, is, omega arith)

-- one byte more
pub one_more : (most : ℕ) (before mid after : Option (List ℕ)) (bytes : List ℕ) (byte : ℕ) → Took before bytes mid → Took mid (byte ∷ []) after
    → length bytes < most → TookAtMost most before after
one_more most before mid after bytes byte first then few =
    at_most most before after (bytes ++ byte ∷ []) (took_more before mid after bytes (byte ∷ []) first then)
    (omega (arith, length-append bytes (byte ∷ []), few))
