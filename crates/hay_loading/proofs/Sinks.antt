-- What a sink holds.
use Rattle.std.proofs.Common.{◌≡◌, inl, inr, ℕ, ◌≤◌, List, [], ◌++◌, length, take, Option, Some, None, sym, ap, subst, ◌∙◌, append_assoc, arith}
use Rattle.std.proofs.lemmas.List.{append-nil}
use Rattle.std.proofs.Math.Seq.{take-length}
use Rattle.hay_disk.specs.Counts.{Rose}
use Rattle.hay_disk.specs.Streams.{Wrote, WrotePart}
use Rattle.hay_loading.specs.Endings.{WroteThen}
use Rattle.hay_loading.specs.Lines.{Appends}

pub wrote_nothing : (before : Option (List ℕ)) → Wrote before [] before
wrote_nothing None = tt
wrote_nothing (Some old) = ap (λ (bytes : List ℕ). Some bytes) (sym (append-nil old))

pub wrote_more : (before mid after : Option (List ℕ)) (a b : List ℕ) → Wrote before a mid → Wrote mid b after → Wrote before (a ++ b) after
wrote_more None mid after a b h k = tt
wrote_more (Some old) None after a b h k = cc
wrote_more (Some old) (Some new) after a b h k =
    let same : new ≡ old ++ a = cc in
    k ∙ ap (λ (bytes : List ℕ). Some (bytes ++ b)) same ∙ ap (λ (bytes : List ℕ). Some bytes) (append_assoc old a b)

-- what was written whole was written in part
pub wrote_part : (before after : Option (List ℕ)) (text : List ℕ) → Wrote before text after → WrotePart before text after
wrote_part before after text wrote = (length text, let P : List ℕ → Type 0 = λ bytes. Wrote before bytes after in subst P (sym (take-length text)) wrote)

-- a part behind what was written whole
pub part_more : (before mid after : Option (List ℕ)) (a b : List ℕ) → Wrote before a mid → WrotePart mid b after → WroteThen before a b after
part_more before mid after a b whole part = (part.0, wrote_more before mid after a (take part.0 b) whole part.1)

pub appends_nothing : (written : Option (List ℕ)) → Appends written written
appends_nothing written held is = ([], is ∙ ap (λ (bytes : List ℕ). Some bytes) (sym (append-nil held)))

pub appends_more : (a b c : Option (List ℕ)) → Appends a b → Appends b c → Appends a c
appends_more a b c h k held is =
    let first = h held is in
    let second = k (held ++ first.0) first.1 in (first.0 ++ second.0, second.1 ∙ ap (λ (bytes : List ℕ). Some bytes) (append_assoc held first.0 second.0))

-- a count that rose from a later one rose from an earlier one
pub rose_since : (first mid last : ℕ) → first ≤ mid → Rose mid last → Rose first last
rose_since first mid last later (inl above) = inl (omega arith)
rose_since first mid last later (inr full) = inr full
