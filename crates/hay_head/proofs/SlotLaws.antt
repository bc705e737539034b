-- What was read of a superblock and of a row.
use Rattle.std.proofs.Common.{◌≡◌, inl, inr, ◌<◌, ◌≤◌, ◌+◌, ◌-◌, ◌^◌, ℕ, min, List, ◌++◌, length, take, drop, refl, sym, ◌∙◌, ap, arith, None, Some, length-drop, take-append-drop}
use Rattle.std.proofs.lemmas.Bool.{cases_lt}
use Rattle.std.proofs.lemmas.List.{take_at, take_all, take-append-le, take-take, length-take-le}
use Rattle.byteorder.specs.Numbers.{big_number-reads_back}
use Rattle.hay_needle.specs.declared.settings.Super.{Super}
use Rattle.hay_needle.specs.declared.superblock.SuperFault.{SuperFault}
use Rattle.hay_needle.specs.Fields.{number_at}
use Rattle.hay_needle.specs.Super.{super_tests, fault_place}
use Rattle.hay_needle.specs.Faults.{first_fault}
use Rattle.hay_needle.proofs.FieldLemmas.{IsBytes, field_8}
use Rattle.hay_disk.specs.Gate.{magic_bytes}
use Rattle.hay_head.specs.Rows.{IsSuperFaultAt}

-- the first bytes that a read gave
pub read_part : (n at got : ℕ) (blank out file : List ℕ) → n ≤ got → got ≡ min (length blank) (length file - at) → out ≡ take got (drop at file) ++ drop got blank → take n out ≡ take n (drop at file)
read_part n at got blank out file within count bytes =
    let read : length (take got (drop at file)) ≡ got = length-take-le got (drop at file) (omega (arith, length-drop at file)) in
    ap (λ (l : List ℕ). take n l) bytes ∙ take-append-le n (take got (drop at file)) (drop got blank) (omega arith) ∙ take-take n got (drop at file) (omega arith)

-- as many of a list as there are, of those that are asked for
take_min : (n m : ℕ) (xs : List ℕ) → n ≡ min m (length xs) → take n xs ≡ take m xs
take_min n m xs is =
    elim (cases_lt (length xs) m) [
      | inl short ↦ take_all n xs (omega arith) ∙ sym (take_all m xs (omega arith))
      | inr long ↦ ap (λ k. take k xs) (omega arith)
    ]

-- A NUMBER IN BYTES, AND THE MAGIC

pub is_number : (number at : ℕ) (bytes : List ℕ) → IsBytes bytes → at + 8 ≤ length bytes → number_at 8 at bytes ≡ number → take 8 (drop at bytes) ≡ magic_bytes number
is_number number at bytes fits long is =
    ap (λ (l : List ℕ). take 8 l) (field_8 at bytes long fits) ∙ take_at (magic_bytes (number_at 8 at bytes)) (drop (at + 8) bytes) 8 refl ∙ ap magic_bytes is

pub number_is : (number at : ℕ) (bytes : List ℕ) → number < 2 ^ 64 → take 8 (drop at bytes) ≡ magic_bytes number → number_at 8 at bytes ≡ number
unfolding number_at
number_is number at bytes fits is =
    let whole : drop at bytes ≡ magic_bytes number ++ drop 8 (drop at bytes) = sym (take-append-drop 8 (drop at bytes)) ∙ ap (λ (l : List ℕ). l ++ drop 8 (drop at bytes)) is in
    ap (λ (l : List ℕ). number_at 8 0 l) whole ∙ big_number-reads_back 8 number (drop 8 (drop at bytes)) fits

-- THE SUPERBLOCK

pub front_seen : (got : ℕ) (blank out file : List ℕ) → length blank ≡ 64 → got ≡ min (length blank) (length file - 0) → out ≡ take got (drop 0 file) ++ drop got blank → take got out ≡ take 64 file
front_seen got blank out file long count bytes = read_part got 0 got blank out file (omega arith) count bytes ∙ take_min got 64 file (omega arith)

pub same_front : (seen file : List ℕ) → seen ≡ take 64 file → take 64 seen ≡ take 64 file
same_front seen file is = ap (λ (l : List ℕ). take 64 l) is ∙ take-take 64 64 file (omega arith)

pub fault_here : (sup : Super) (seen file : List ℕ) (fault : SuperFault) (at : ℕ) → seen ≡ take 64 file → Some fault ≡ first_fault (super_tests seen sup) → at ≡ fault_place fault
    → IsSuperFaultAt sup file at
fault_here sup seen file fault at is first place = record {
  fault = fault;
  first = ap (λ (l : List ℕ). first_fault (super_tests l sup)) (sym is) ∙ sym first;
  place = sym place;
}

pub no_fault_here : (sup : Super) (seen file : List ℕ) (at : ℕ) → seen ≡ take 64 file → None ≡ first_fault (super_tests seen sup) → IsSuperFaultAt sup file at → ⊥
no_fault_here sup seen file at is none damage = let some : None ≡ Some damage.fault = none ∙ ap (λ (l : List ℕ). first_fault (super_tests l sup)) is ∙ damage.first in absurd cc
