use Rattle.std.proofs.Common.{◌≡◌, ◌∷◌, [], ◌∙◌, ℕ, List, length, ap, refl}
use Rattle.std.specs.List.{AllZip}
use Rattle.std.specs.Map.{lookup}
use Rattle.hay_map.specs.MapRows.{MapRows, has_key}
use Rattle.hay_map.specs.Rows.{row_at}
use Rattle.hay_map.proofs.RowLaws.{SameOffsets, kept_same, keeps_same}
use Rattle.hay_map.proofs.view.MapView.copy.Goals as goal

abbrev Entry : Type 0
Entry = (ℕ × ℕ) × ℕ

same_entries : (xs ys : List Entry) → AllZip (λ x y. ((y.0.0 ≡ x.0.0) × (y.0.1 ≡ x.0.1)) × (y.1 ≡ x.1)) xs ys → ys ≡ xs
same_entries [] [] zip = refl
same_entries [] (y ∷ ys) zip = absurd zip
same_entries (x ∷ xs) [] zip = absurd zip
same_entries (((k, a), at) ∷ xs) (((l, b), to) ∷ ys) ((one, two), same) =
    let key : l ≡ k = one.0 in
    let alt : b ≡ a = one.1 in
    let place : to ≡ at = two in
    let rest : ys ≡ xs = same_entries xs ys same in
    cc

copied : {P : Type 0} (old new : MapRows P) → new.replicas ≡ old.replicas → new.blank ≡ old.blank → new.offsets ≡ old.offsets → SameOffsets old new
copied old new replicas blank offsets = record { replicas = replicas; blank = blank; offsets = λ pair. ap (λ (l : List Entry). lookup (has_key pair) l) offsets }

pub invariant_of-result : goal.invariant_of-result
invariant_of-result g c =
    let entries = same_entries _ _ (c.in_ok-clone.ensures.cases) in
    kept_same _ _ (copied _ _ refl c.dup.ensures entries) (ap length (c.in_ok-dup_each.ensures ∙ c.as_slice.ensures.value)) c.self.invariant

pub returns-clause-rows : goal.returns-clause-rows
returns-clause-rows g c = λ pair.
    let entries = same_entries _ _ (c.in_ok-clone.ensures.cases) in
    (keeps_same _ _ (copied _ _ refl c.dup.ensures entries) (c.in_ok-dup_each.ensures ∙ c.as_slice.ensures.value)).rows pair ∙ ap (λ (rows : MapRows _). row_at rows pair) c.self.view_is
