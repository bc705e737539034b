-- Lines of a script, read byte by byte.
use Rattle.std.proofs.Common.{◌≡◌, ◌≢◌, ℕ, ◌+◌, ◌<◌, List, [], ◌∷◌, ◌++◌, length, drop, refl, sym, ap, ◌∙◌, append_assoc}
use Rattle.std.specs.Prelude.{◌==◌, slice_index}
use Rattle.std.specs.List.{onto_first}
use Rattle.std.proofs.lemmas.Bool.{eq-eqb, ne_eqb, cond-true, cond-false}
use Rattle.std.proofs.lemmas.List.{drop_more}
use Rattle.hay_script.specs.Script.{lines_of, seen_byte}
use Rattle.hay_audit.specs.Lines.{onto_line}

here : (script : List ℕ) (i : ℕ) → i < length script → drop i script ≡ slice_index script i ∷ drop (i + 1) script
here script i h = drop_more script i 0 h

no_more : (xs : List ℕ) → xs ++ [] ≡ xs
no_more [] = refl
no_more (x ∷ xs) = ap (λ (ys : List ℕ). x ∷ ys) (no_more xs)

onto_more : (xs : List ℕ) (c : ℕ) (lines : List (List ℕ)) → onto_line xs (onto_first c lines) ≡ onto_line (xs ++ c ∷ []) lines
onto_more [] c [] = refl
onto_more [] c (line ∷ lines) = refl
onto_more (x ∷ xs) c [] = refl
onto_more (x ∷ xs) c (line ∷ lines) = ap (λ (ys : List ℕ). ys ∷ lines) (sym (append_assoc (x ∷ xs) (c ∷ []) line))

onto_none : (xs : List ℕ) (lines : List (List ℕ)) → onto_line xs ([] ∷ lines) ≡ xs ∷ lines
onto_none [] lines = refl
onto_none (x ∷ xs) lines = ap (λ (ys : List ℕ). ys ∷ lines) (no_more (x ∷ xs))

-- a byte that ends no line
pub line_more : (script line new : List ℕ) (i b : ℕ) → i < length script → slice_index script i ≢ 10 → b ≡ seen_byte (slice_index script i) (drop (i + 1) script) → new ≡ line ++ b ∷ []
    → onto_line line (lines_of (drop i script)) ≡ onto_line new (lines_of (drop (i + 1) script))
line_more script line new i b h other is made =
    let byte = slice_index script i in
    let rest = drop (i + 1) script in
    ap (λ (xs : List ℕ). onto_line line (lines_of xs)) (here script i h)
    ∙ ap (λ (ls : List (List ℕ)). onto_line line ls) (cond-false (slice_index script i == 10) ([] ∷ lines_of (drop (i + 1) script))
    (onto_first (seen_byte (slice_index script i) (drop (i + 1) script)) (lines_of (drop (i + 1) script))) (ne_eqb (slice_index script i) 10 other))
    ∙ onto_more line (seen_byte (slice_index script i) (drop (i + 1) script)) (lines_of (drop (i + 1) script))
    ∙ ap (λ (c : ℕ). onto_line (line ++ c ∷ []) (lines_of (drop (i + 1) script))) (sym is)
    ∙ ap (λ (xs : List ℕ). onto_line xs (lines_of (drop (i + 1) script))) (sym made)

-- the byte that ends it
pub line_end : (script line : List ℕ) (i : ℕ) → i < length script → slice_index script i ≡ 10
    → onto_line line (lines_of (drop i script)) ≡ line ∷ lines_of (drop (i + 1) script)
line_end script line i h feed =
    ap (λ (xs : List ℕ). onto_line line (lines_of xs)) (here script i h)
    ∙ ap (λ (ls : List (List ℕ)). onto_line line ls) (cond-true (slice_index script i == 10) ([] ∷ lines_of (drop (i + 1) script))
    (onto_first (seen_byte (slice_index script i) (drop (i + 1) script)) (lines_of (drop (i + 1) script))) (eq-eqb (slice_index script i) 10 feed))
    ∙ onto_none line (lines_of (drop (i + 1) script))
