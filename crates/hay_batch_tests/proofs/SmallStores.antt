-- Batches of one key.
use Rattle.std.proofs.Common.{◌≡◌, zero, suc, [], ◌∷◌, All, arith}
use Rattle.std.proofs.lemmas.List.Elements.{All-cons, All-nil}
use Rattle.hay_batch.specs.declared.photo.NewPhoto.{NewPhoto}
use Rattle.hay_batch.specs.Batches.{AreDistinct}

pub key_one : (a : NewPhoto) → a.pair.key ≡ 0 → All (λ (photo : NewPhoto). photo.pair.key ≡ 0) (a ∷ [])
key_one a is = All-cons (λ (photo : NewPhoto). photo.pair.key ≡ 0) a [] is (All-nil (λ (photo : NewPhoto). photo.pair.key ≡ 0))

pub distinct_one : (a : NewPhoto) → AreDistinct (a ∷ [])
distinct_one a zero zero b d less at there = absurd (omega arith)
distinct_one a zero (suc j) b d less at there = absurd cc
distinct_one a (suc i) j b d less at there = absurd cc
