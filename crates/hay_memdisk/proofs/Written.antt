-- A write changes its range alone.
use Rattle.std.proofs.Common.{◌≡◌, ◌⊎◌, inl, inr, ◌<◌, ◌≤◌, ◌+◌, ℕ, max, Bool, false, ◌&&◌, ◌||◌, List, [], ◌++◌, length, take, drop, get_or, sym, ◌∙◌, ap, arith, length-append}
use Rattle.std.proofs.Common.{length-take, length-drop, append_assoc, ltb, leb}
use Rattle.std.proofs.lemmas.List.{take_at, drop_at, length-take-le}
use Rattle.std.proofs.lemmas.Bool.{true≢false, ltb-false, le-ltb, le-leb, and_cases, and_left, and_right, or_left}
use Rattle.hay_disk.specs.Disk.{Changes, Removes, IsOutside, overwrite}
use Rattle.hay_memdisk.specs.declared.place.Place.{Place}
use Rattle.hay_memdisk.specs.declared.file.Seal.{Seal}
use Rattle.hay_memdisk.specs.Places.{no_place, is_sealed}
use Rattle.hay_memdisk.specs.Mem.{contents}

length-overwrite : (at : ℕ) (bytes old : List ℕ) → at ≤ length old → length (overwrite at bytes old) ≡ max (length old) (at + length bytes)
length-overwrite at bytes old low =
    simp (length-append, length-take, length-drop) (omega arith)

solid_still : (k from to from2 to2 : ℕ) (flag flag2 : Bool) → ((k < from) ⊎ (to ≤ k)) → flag2 ≡ flag → (ltb k from2 && flag) ≡ false → from ≤ from2 → to2 ≡ max from2 to → (ltb k to2 && flag2) ≡ false
solid_still k from to from2 to2 flag flag2 out same was low high =
    elim (and_cases (ltb k from2) flag was) [
      | inl above ↦ and_left (ltb k to2) flag2 (le-ltb k to2 (let past : from2 ≤ k = ltb-false k from2 above in elim out [ inl below ↦ omega arith | inr after ↦ omega arith ]))
      | inr solid ↦ and_right (ltb k to2) flag2 (same ∙ solid)
    ]

pub changes_written : (at : ℕ) (bytes old new : List ℕ) (places marked : List Place) (seals : List Seal) (solid_len longest after : ℕ) → at ≤ length old
    → new ≡ overwrite at bytes old → ((k : ℕ) → IsOutside at (length bytes) k → get_or marked k no_place ≡ get_or places k no_place) → after ≡ max longest (at + length bytes)
    → Changes at (length bytes) (contents old places seals solid_len longest) (contents new marked seals solid_len after)
changes_written at bytes old new places marked seals solid_len longest after low is same lasts =
    let long : length new ≡ max (length old) (at + length bytes) = ap length is ∙ length-overwrite at bytes old low in
    let tail = drop (at + length bytes) old in
    record {
      before = ap (λ (l : List ℕ). take at l) (is ∙ append_assoc (take at old) bytes tail) ∙ take_at (take at old) (bytes ++ tail) at (length-take-le at old low);
      after = ap (λ (l : List ℕ). drop (at + length bytes) l) is ∙ drop_at (take at old ++ bytes) tail (at + length bytes) (simp (length-append, length-take) (omega arith));
      grows = omega arith;
      no_further = omega arith;
      solid = λ k was out.
          solid_still k at (at + length bytes) (max longest (length old)) (max after (length new)) (leb solid_len k || (get_or places k no_place).loose)
          (leb solid_len k || (get_or marked k no_place).loose)
          out (ap (λ (p : Place). leb solid_len k || p.loose) (same k out)) was (omega arith) (omega arith);
      free = λ k was. was;
      shortest = omega arith;
      longest = omega arith;
    }

pub removes : (old new : List ℕ) (places : List Place) (seals none : List Seal) (solid_len longest after : ℕ) → solid_len ≤ length old → new ≡ [] → none ≡ []
    → after ≡ max longest (length old) → Removes (contents old places seals solid_len longest) (contents new places none 0 after)
removes old new places seals none solid_len longest after short is free lasts =
    let none : length new ≡ 0 = ap length is in
    record {
      now = is;
      solid = λ k was past.
          elim (and_cases (ltb k (max longest (length old))) (leb solid_len k || (get_or places k no_place).loose) was) [
            | inl above ↦ and_left (ltb k (max after (length new))) (leb 0 k || (get_or places k no_place).loose)
                (le-ltb k (max after (length new)) (let far : max longest (length old) ≤ k = ltb-false k (max longest (length old)) above in omega arith))
            | inr inner ↦ absurd (true≢false (sym (or_left (leb solid_len k) (get_or places k no_place).loose (le-leb solid_len k (omega arith))) ∙ inner))
          ];
      free = λ k was. ap (λ (l : List Seal). is_sealed l k) free;
      longest = omega arith;
    }
