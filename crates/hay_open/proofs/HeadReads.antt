-- What was read of a needle's head.
use Rattle.std.proofs.Common.{◌≡◌, ◌-◌, ℕ, min, List, ◌++◌, length, take, drop, sym, ap, subst, ◌∙◌, arith}
use Rattle.std.proofs.lemmas.List.{take-take}
use Rattle.hay_needle.specs.Needle.{Head, HeadBytes}
use Rattle.hay_volume.proofs.ReadLaws.{front_seen}

front_is : (at got : ℕ) (blank out file : List ℕ) → length blank ≡ 36 → got ≡ min (length blank) (length file - at) → out ≡ take got (drop at file) ++ drop got blank
    → take 36 (take got out) ≡ take 36 (drop at file)
front_is at got blank out file long count bytes =
    ap (λ (l : List ℕ). take 36 l) (front_seen at got blank out file long count bytes) ∙ take-take 36 36 (drop at file) (omega arith)

-- the head that was read stands in the file
pub head_stands : (at got : ℕ) (blank out file : List ℕ) (h : Head) → length blank ≡ 36 → got ≡ min (length blank) (length file - at) → out ≡ take got (drop at file) ++ drop got blank
    → HeadBytes (take 36 (take got out)) h → HeadBytes (take 36 (drop at file)) h
head_stands at got blank out file h long count bytes is = subst (λ (l : List ℕ). HeadBytes l h) (front_is at got blank out file long count bytes) is

-- and one that stands there was in the bytes
pub head_given : (at got : ℕ) (blank out file : List ℕ) (h : Head) → length blank ≡ 36 → got ≡ min (length blank) (length file - at) → out ≡ take got (drop at file) ++ drop got blank
    → HeadBytes (take 36 (drop at file)) h → HeadBytes (take 36 (take got out)) h
head_given at got blank out file h long count bytes is = subst (λ (l : List ℕ). HeadBytes l h) (sym (front_is at got blank out file long count bytes)) is
