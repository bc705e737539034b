-- Parts of lists of bytes.
use Rattle.std.proofs.Common.{◌≡◌, ◌≤◌, ◌+◌, ◌-◌, ℕ, List, ◌++◌, length, take, drop, sym, ◌∙◌, ap, arith, length-drop, take-append-drop}
use Rattle.std.proofs.lemmas.List.{take_at, drop-drop, length-take-le}

-- what is left of a list is what is copied of it next, and what is left then
pub next_part : (taken count : ℕ) (bytes held copied tail : List ℕ) → held ≡ bytes → copied ≡ take (taken + count - taken) (drop taken held) → taken + count ≤ length bytes
    → drop taken bytes ≡ take count (copied ++ tail) ++ drop (taken + count) bytes
next_part taken count bytes held copied tail same is inside =
    let rest = drop taken bytes in
    let plain : taken + count - taken ≡ count = omega arith in
    let part : copied ≡ take count rest = is ∙ ap (λ (n : ℕ). take n (drop taken held)) plain ∙ ap (λ (l : List ℕ). take count (drop taken l)) same in
    let long : length copied ≡ count = ap length part ∙ length-take-le count rest (simp length-drop (omega arith)) in
    sym (take-append-drop count rest)
    ∙ ap (λ (l : List ℕ). l ++ drop count rest) (sym part ∙ sym (take_at copied tail count long))
    ∙ ap (λ (l : List ℕ). take count (copied ++ tail) ++ l) (drop-drop count taken bytes)
