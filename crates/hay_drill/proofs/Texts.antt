-- What is written piece by piece is the whole text.
use Rattle.std.specs.List.{range_with_len}
use Rattle.std.proofs.Common.{◌≡◌, ◌+◌, ◌-◌, ◌<◌, ◌≤◌, arith, ℕ, suc, List, [], ◌∷◌, ◌++◌, sym, ap, ◌∙◌, append_assoc, append-nil, flat_map}

-- the texts for the numbers from j on, below n
abbrev pub texts_from : (ℕ → List ℕ) → ℕ → ℕ → List ℕ
texts_from text j n = flat_map text (range_with_len j (n - j))

range_next : (j n : ℕ) → j < n → range_with_len j (n - j) ≡ j ∷ range_with_len (j + 1) (n - (j + 1))
range_next j n h = ap (λ (m : ℕ). range_with_len j m) (let e : n - j ≡ suc (n - (j + 1)) = omega (arith, h) in e)

-- one number more
pub texts_on : (text : ℕ → List ℕ) (out new all : List ℕ) (j n : ℕ) → j < n → new ≡ out ++ text j → out ++ texts_from text j n ≡ all
    → new ++ texts_from text (j + 1) n ≡ all
texts_on text out new all j n h added whole =
    ap (λ (t : List ℕ). t ++ texts_from text (j + 1) n) added
    ∙ append_assoc out (text j) (texts_from text (j + 1) n)
    ∙ ap (λ (ns : List ℕ). out ++ flat_map text ns) (sym (range_next j n h))
    ∙ whole

-- no number is left
pub texts_end : (text : ℕ → List ℕ) (out all : List ℕ) (j n : ℕ) → n ≤ j → out ++ texts_from text j n ≡ all → out ≡ all
texts_end text out all j n h whole =
    sym (append-nil out) ∙ ap (λ (m : ℕ). out ++ flat_map text (range_with_len j m)) (let e : 0 ≡ n - j = omega (arith, h) in e) ∙ whole

pub join_four : (out a b c d o1 o2 o3 o4 : List ℕ) → o1 ≡ out ++ a → o2 ≡ o1 ++ b → o3 ≡ o2 ++ c → o4 ≡ o3 ++ d → o4 ≡ out ++ (a ++ b ++ c ++ d)
join_four out a b c d o1 o2 o3 o4 h1 h2 h3 h4 = rw (h4, h3, h2, h1) (simp append_assoc)

pub join_seven : (out a b c d e f g o1 o2 o3 o4 o5 o6 o7 : List ℕ)
    → o1 ≡ out ++ a → o2 ≡ o1 ++ b → o3 ≡ o2 ++ c → o4 ≡ o3 ++ d → o5 ≡ o4 ++ e → o6 ≡ o5 ++ f → o7 ≡ o6 ++ g
    → o7 ≡ out ++ (a ++ b ++ c ++ d ++ e ++ f ++ g)
join_seven out a b c d e f g o1 o2 o3 o4 o5 o6 o7 h1 h2 h3 h4 h5 h6 h7 = rw (h7, h6, h5, h4, h3, h2, h1) (simp append_assoc)

pub join_nine : (out a b c d e f g h i o1 o2 o3 o4 o5 o6 o7 o8 o9 : List ℕ)
    → o1 ≡ out ++ a → o2 ≡ o1 ++ b → o3 ≡ o2 ++ c → o4 ≡ o3 ++ d → o5 ≡ o4 ++ e → o6 ≡ o5 ++ f → o7 ≡ o6 ++ g → o8 ≡ o7 ++ h → o9 ≡ o8 ++ i
    → o9 ≡ out ++ (a ++ b ++ c ++ d ++ e ++ f ++ g ++ h ++ i)
join_nine out a b c d e f g h i o1 o2 o3 o4 o5 o6 o7 o8 o9 h1 h2 h3 h4 h5 h6 h7 h8 h9 = rw (h9, h8, h7, h6, h5, h4, h3, h2, h1) (simp append_assoc)

-- the words of one line
pub join_line : (a b c d e : List ℕ) → a ++ (b ++ (c ++ (d ++ e))) ≡ a ++ b ++ c ++ d ++ e
join_line a b c d e = simp append_assoc

pub join_place : (a b c d e f : List ℕ) → a ++ (b ++ (c ++ (d ++ (e ++ f)))) ≡ a ++ b ++ c ++ d ++ e ++ f
join_place a b c d e f = simp append_assoc
