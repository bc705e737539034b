-- Small batches, and the place behind the superblock.
use Rattle.std.proofs.Common.{◌≡◌, ◌≤◌, ◌+◌, ℕ, List, [], ◌∷◌, length, false, arith}
use Rattle.std.proofs.lemmas.List.Elements.{All-cons, All-nil}
use Rattle.hay_needle.specs.Needle.{needle_magic}
use Rattle.hay_needle.specs.Sizes.{needle_total}
use Rattle.hay_disk.specs.Disk.{FileState, IsSolid}
use Rattle.hay_disk.specs.Gate.{IsGate}
use Rattle.hay_volume.specs.Cells.{IsVolume}
use Rattle.hay_volume.proofs.Volumes.{volume_gate}
use Rattle.hay_batch.specs.declared.photo.NewPhoto.{NewPhoto}
use Rattle.hay_batch.specs.Batches.{IsBatch, IsStorable, photo_total}

total_most : (n : ℕ) → needle_total n ≤ 56 + n
total_most n = omega arith

pub batch_of_one : (a : NewPhoto) → length a.bytes ≤ 4000 → IsBatch (a ∷ [])
batch_of_one a few =
    let most : photo_total a ≤ 56 + length a.bytes = total_most (length a.bytes) in
    record { some = omega arith; most = omega arith; storable = All-cons IsStorable a [] (omega arith) (All-nil IsStorable); total = omega arith }

pub batch_of_two : (a b : NewPhoto) → length a.bytes ≤ 4000 → length b.bytes ≤ 4000 → IsBatch (a ∷ b ∷ [])
batch_of_two a b few more =
    let first : photo_total a ≤ 56 + length a.bytes = total_most (length a.bytes) in
    let second : photo_total b ≤ 56 + length b.bytes = total_most (length b.bytes) in
    record {
      some = omega arith;
      most = omega arith;
      storable = All-cons IsStorable a (b ∷ []) (omega arith) (All-cons IsStorable b [] (omega arith) (All-nil IsStorable));
      total = omega arith;
    }

pub formatted_gate : (superblock : List ℕ) (file : FileState) → IsVolume superblock file.now [] 64 → IsSolid file → ((k : ℕ) → file.sealed k ≡ false) → IsGate needle_magic 64 file
formatted_gate superblock file is solid free = volume_gate superblock [] 64 file is solid (λ k from. free k)
