-- Texts made of parts, and where a text leaves them.
use Rattle.std.proofs.Common.{◌≡◌, ℕ, ◌+◌, ◌-◌, ◌<◌, ◌≤◌, List, [], ◌∷◌, ◌++◌, length, take, refl, sym, ◌∙◌, ap, arith, append_assoc, length-append, subst, inl, inr}
use Rattle.std.proofs.lemmas.Bool.{cases_lt}
use Rattle.hay_url.specs.Parts.{Begins, Fault, After, PartFault, End}
use Rattle.std.proofs.lemmas.List.{length-take}
use Rattle.std.proofs.Math.Seq.{take-append-add}

-- no part begins another
abbrev pub IsCode : (List ℕ → Type 0) → Type 0
IsCode A = (a b x y : List ℕ) → A a → A b → a ++ x ≡ b ++ y → (a ≡ b) × (x ≡ y)

-- a text that leaves the part leaves the language
pub in_part : (A L : List ℕ → Type 0) (text : List ℕ) (at : ℕ) → PartFault A text at → (rest : List ℕ) → L rest → Fault (After A L) text at
in_part A L text at fault rest is_rest = record {
  none = λ after. fault.none after.part after.rest after.is_part after.all;
  within = fault.within;
  begins = (fault.begins.0 ++ rest, record { part = take at text ++ fault.begins.0; rest = rest; is_part = fault.begins.1; is_rest = is_rest; all = append_assoc (take at text) fault.begins.0 rest });
  longest = λ k within begins. fault.longest k within begins.1.part begins.1.rest begins.0 begins.1.is_part begins.1.all;
}

longest_behind : (A L : List ℕ → Type 0) → IsCode A → (part rest : List ℕ) (at j : ℕ) → A part → Fault L rest at → j ≤ length rest → Begins (After A L) (take (length part + j) (part ++ rest)) → j ≤ at
longest_behind A L code part rest at j is_part fault within begins =
    let after = begins.1 in
    let cut : take (length part + j) (part ++ rest) ++ begins.0 ≡ part ++ (take j rest ++ begins.0) = rw take-append-add (append_assoc part (take j rest) begins.0) in
    let same = code after.part part after.rest (take j rest ++ begins.0) after.is_part is_part (after.all ∙ cut) in
    fault.longest j within (begins.0, subst L same.1 after.is_rest)

longest_by : (A L : List ℕ → Type 0) → IsCode A → (part rest : List ℕ) (at k : ℕ) → A part → Fault L rest at → k ≤ length (part ++ rest)
    → Begins (After A L) (take k (part ++ rest)) → k ≤ length part + at
longest_by A L code part rest at k is_part fault within begins =
    elim (cases_lt (length part) k) [
      | inr short ↦ omega arith
      | inl long ↦
          let e : k ≡ length part + (k - length part) = omega arith in
          let long_enough : k - length part ≤ length rest = omega (arith, length-append part rest) in
          let bound = longest_behind A L code part rest at (k - length part) is_part fault long_enough (rw e at begins) in
          omega arith
    ]

none_behind : (A L : List ℕ → Type 0) → IsCode A → (part rest : List ℕ) → A part → (L rest → ⊥) → After A L (part ++ rest) → ⊥
none_behind A L code part rest is_part none after =
    let same = code after.part part after.rest rest after.is_part is_part after.all in
    none (subst L same.1 after.is_rest)

begins_behind : (A L : List ℕ → Type 0) (part rest : List ℕ) (at : ℕ) → A part → Begins L (take at rest) → Begins (After A L) (take (length part + at) (part ++ rest))
begins_behind A L part rest at is_part begins =
    let cut : take (length part + at) (part ++ rest) ++ begins.0 ≡ part ++ (take at rest ++ begins.0) = rw take-append-add (append_assoc part (take at rest) begins.0) in
    (begins.0, record { part = part; rest = take at rest ++ begins.0; is_part = is_part; is_rest = begins.1; all = sym cut })

-- a text that leaves what stands behind its part leaves the language there
pub behind_part : (A L : List ℕ → Type 0) → IsCode A → (part rest : List ℕ) (at : ℕ) → A part → Fault L rest at → Fault (After A L) (part ++ rest) (length part + at)
behind_part A L code part rest at is_part fault = record {
  none = none_behind A L code part rest is_part fault.none;
  within = omega (arith, length-append part rest, fault.within);
  begins = begins_behind A L part rest at is_part fault.begins;
  longest = λ k within begins. longest_by A L code part rest at k is_part fault within begins;
}

empty_front : (text more : List ℕ) → text ++ more ≡ [] → text ≡ []
empty_front [] more e = refl
empty_front (b ∷ text) more e = cc

pub past_end : (text : List ℕ) → 0 < length text → Fault End text 0
past_end text some = record {
  none = λ e. omega (arith, ap length e);
  within = omega arith;
  begins = ([], refl);
  longest = λ k within begins. omega (arith, ap length (empty_front (take k text) begins.0 begins.1), length-take k text);
}
