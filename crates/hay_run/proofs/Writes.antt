-- One text written behind another.
use Rattle.std.proofs.Common.{◌≡◌, ℕ, zero, suc, ◌+◌, List, [], ◌∷◌, ◌++◌, length, take, drop, Option, Some, refl, sym, ap, subst, ◌∙◌, append_assoc, arith}
use Rattle.std.specs.Prelude.{Result, Ok, Err, OnErr, flat_map, slice_get}
use Rattle.hay_disk.specs.Streams.{Wrote, WrotePart}
use Rattle.hay_run.proofs.Turning.{wrote_more}

-- the front of a text whose first part is whole
take_over : (a b : List ℕ) (n m : ℕ) → m ≡ length a + n → take m (a ++ b) ≡ a ++ take n b
take_over [] b n m is = let same : m ≡ n = omega (arith, is) in ap (λ (k : ℕ). take k b) same
take_over (x ∷ a) b n zero is = absurd (omega (arith, is))
take_over (x ∷ a) b n (suc m) is = ap (λ (l : List ℕ). x ∷ l) (take_over a b n m (let less : m ≡ length a + n = omega (arith, is) in less))

take_within : (a b : List ℕ) (n : ℕ) → (m : ℕ) × (take m (a ++ b) ≡ take n a)
take_within a b zero = (0, refl)
take_within [] b (suc n) = (0, refl)
take_within (x ∷ a) b (suc n) = let rest = take_within a b n in (suc rest.0, ap (λ (l : List ℕ). x ∷ l) rest.1)

-- a front of a text is one of a longer text
pub part_longer : (before after : Option (List ℕ)) (a b : List ℕ) → WrotePart before a after → WrotePart before (a ++ b) after
part_longer before after a b (n, wrote) = let m = take_within a b n in (m.0, subst (λ (l : List ℕ). Wrote before l after) (sym m.1) wrote)

-- a text was written, and a front of another behind it
pub part_behind : (before mid after : Option (List ℕ)) (a b : List ℕ) → Wrote before a mid → WrotePart mid b after → WrotePart before (a ++ b) after
part_behind before mid after a b first (n, wrote) =
    (length a + n, subst (λ (l : List ℕ). Wrote before l after) (sym (take_over a b n (length a + n) refl)) (wrote_more before mid after a (take n b) first wrote))

texts_next : {X : Type 0} (text : X → List ℕ) (xs : List X) (i : ℕ) (x : X) → slice_get xs i ≡ Some x → flat_map text (take (suc i) xs) ≡ flat_map text (take i xs) ++ text x
texts_next text [] i x at = absurd cc
texts_next text (y ∷ xs) zero x at = let same : y ≡ x = cc at in ap (λ z. text z ++ []) same ∙ nothing_behind (text x)
  where
    nothing_behind : (l : List ℕ) → l ++ [] ≡ l
    nothing_behind [] = refl
    nothing_behind (b ∷ l) = ap (λ (k : List ℕ). b ∷ k) (nothing_behind l)
texts_next text (y ∷ xs) (suc i) x at = ap (λ (l : List ℕ). text y ++ l) (texts_next text xs i x at) ∙ sym (append_assoc (text y) (flat_map text (take i xs)) (text x))

texts_from : {X : Type 0} (text : X → List ℕ) (xs : List X) (i : ℕ) (x : X) → slice_get xs i ≡ Some x → flat_map text xs ≡ flat_map text (take i xs) ++ (text x ++ flat_map text (drop (suc i) xs))
texts_from text [] i x at = absurd cc
texts_from text (y ∷ xs) zero x at = let same : y ≡ x = cc at in ap (λ z. text z ++ flat_map text xs) same
texts_from text (y ∷ xs) (suc i) x at =
    ap (λ (l : List ℕ). text y ++ l) (texts_from text xs i x at) ∙ sym (append_assoc (text y) (flat_map text (take i xs)) (text x ++ flat_map text (drop (suc i) xs)))

-- one more of many texts was written
pub wrote_next : {X : Type 0} (text : X → List ℕ) (xs : List X) (i : ℕ) (x : X) (before mid after : Option (List ℕ)) → slice_get xs i ≡ Some x
    → Wrote before (flat_map text (take i xs)) mid → Wrote mid (text x) after → Wrote before (flat_map text (take (i + 1) xs)) after
wrote_next text xs i x before mid after at first wrote =
    let next : i + 1 ≡ suc i = omega arith in
    subst (λ (l : List ℕ). Wrote before l after) (sym (ap (λ (n : ℕ). flat_map text (take n xs)) next ∙ texts_next text xs i x at))
    (wrote_more before mid after (flat_map text (take i xs)) (text x) first wrote)

-- or only a front of it
pub part_next : {X : Type 0} (text : X → List ℕ) (xs : List X) (i : ℕ) (x : X) (before mid after : Option (List ℕ)) → slice_get xs i ≡ Some x
    → Wrote before (flat_map text (take i xs)) mid → WrotePart mid (text x) after → WrotePart before (flat_map text xs) after
part_next text xs i x before mid after at first part =
    subst (λ (l : List ℕ). WrotePart before l after) (sym (texts_from text xs i x at))
    (part_behind before mid after (flat_map text (take i xs)) (text x ++ flat_map text (drop (suc i) xs)) first
    (part_longer mid after (text x) (flat_map text (drop (suc i) xs)) part))

-- what holds whatever the error is
pub on_failure : {T E P : Type 0} (r : Result T E) → P → OnErr r P
on_failure (Ok x) holds = tt
on_failure (Err e) holds = holds
