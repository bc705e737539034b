-- The files of an old generation are taken away.
use Rattle.std.proofs.Common.{◌≡◌, ◌⊎◌, inl, inr, ℕ, ◌≤◌, ◌∙◌, [], refl, sym, ap, subst, arith}
use Rattle.std.specs.Prelude.{Result, Ok, Err, OnOk, IsErr}
use Rattle.std.proofs.lemmas.Bool.{cases_eq}
use Rattle.hay_disk.specs.Counts.{IsCounted, Rose}
use Rattle.hay_disk.specs.Disk.{Files, FileState, KeepsOthers, Removes}
use Rattle.hay_physical.specs.CompactionRuns.{IsRemoved, RemovedBoth}

-- what a removal makes of a file
pub is_removed : {T E : Type 0} (r : Result T E) (old new : FileState) (before after : ℕ) → OnOk r (Removes old new) → IsCounted before after (IsErr r) → IsRemoved new before after
is_removed (Ok value) old new before after done counted = inl done.now
is_removed (Err fault) old new before after done counted = inr (counted.cause refl)

-- and whether it answers Ok or not
pub gone_or_same : {T E : Type 0} (r : Result T E) (old new : FileState) → OnOk r (Removes old new) → (IsErr r → Removes old new ⊎ (new ≡ old)) → Removes old new ⊎ (new ≡ old)
gone_or_same (Ok value) old new done failed = inl done
gone_or_same (Err fault) old new done failed = failed refl

still_gone : (one other : ℕ) (mid new : Files) → Removes (mid other) (new other) ⊎ (new other ≡ mid other) → KeepsOthers other mid new → (mid one).now ≡ [] → (new one).now ≡ []
still_gone one other mid new gone others empty =
    elim (cases_eq one other) [
      | inl same ↦ elim gone [
        | inl away ↦ subst (λ k. (new k).now ≡ []) (sym same) away.now
        | inr stays ↦ ap (λ (x : FileState). x.now) (subst (λ k. new k ≡ mid k) (sym same) stays) ∙ empty
      ]
      | inr apart ↦ ap (λ (x : FileState). x.now) (others one apart) ∙ empty
    ]

-- the second removal leaves what the first one did
pub both_removed : (first second : ℕ) (mid new : Files) (before between after : ℕ) → IsRemoved (mid first) before between → IsRemoved (new second) between after
    → Removes (mid second) (new second) ⊎ (new second ≡ mid second) → KeepsOthers second mid new → RemovedBoth new first second before after
both_removed first second mid new before between after one two gone others = record {
  between = between;
  first_gone = elim one [ inl empty ↦ inl (still_gone first second mid new gone others empty) | inr rose ↦ inr rose ];
  second_gone = two;
}

rose_earlier : (earlier before after : ℕ) → earlier ≤ before → Rose before after → Rose earlier after
rose_earlier earlier before after le rose = elim rose [ inl higher ↦ inl (omega arith) | inr most ↦ inr most ]

-- seen from an earlier count
pub removed_since : (files : Files) (first second earlier before after : ℕ) → earlier ≤ before → RemovedBoth files first second before after → RemovedBoth files first second earlier after
removed_since files first second earlier before after le both = record {
  between = both.between;
  first_gone = elim both.first_gone [ inl empty ↦ inl empty | inr rose ↦ inr (rose_earlier earlier before both.between le rose) ];
  second_gone = both.second_gone;
}
