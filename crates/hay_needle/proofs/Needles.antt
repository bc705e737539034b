-- What the crates above may cite of needles and superblocks.
use Rattle.std.proofs.Common.{◌≡◌, ℕ, ◌+◌, ◌-◌, ◌≤◌, List, [], ◌∷◌, ◌++◌, length, take, refl, sym, ap, subst, ◌∙◌, append_assoc, append-nil, arith, eqb}
use Rattle.std.proofs.Math.Seq.{take-append-add}
use Rattle.std.proofs.lemmas.List.{take_at, length-append}
use Rattle.std.specs.Prelude.{slice_set, not}
use Rattle.hay_needle.specs.declared.needle.Needle.{Needle}
use Rattle.hay_needle.specs.Sizes.{needle_total}
use Rattle.hay_needle.specs.Needle.{Head, HeadBytes, head_of_needle, footer_bytes, NeedleBytes, BeginsWithNeedle, head_bytes, head_rest, deleted_needle, needle_magic}
use Rattle.hay_needle.specs.Fields.{number_at}
use Rattle.hay_needle.specs.Reading.{head_at}
use Rattle.hay_needle.proofs.NeedleLemmas.{same_needle}
use Rattle.hay_needle.proofs.Heads.{flag_is, head_only}
use Rattle.hay_needle.proofs.Spelling.{length-head_bytes}
pub use Rattle.hay_needle.proofs.Heads.{max_photo-le}
pub use Rattle.hay_needle.proofs.Spelling.{length-head, length-needle}
pub use Rattle.hay_needle.proofs.Supers.{length-super}

-- with another flags byte the bytes are the needle, deleted where that byte is not zero
pub reflagged : (bytes : List ℕ) (n : Needle) (flags : ℕ) → NeedleBytes bytes n → NeedleBytes (slice_set bytes 28 flags) (record n { deleted = not (eqb flags 0) })
unfolding head_bytes head_rest footer_bytes
reflagged bytes n flags b = record {
  flags = flags;
  spelled = ap (λ (x : List ℕ). slice_set x 28 flags) b.spelled;
  fits = record { key = b.fits.key; alt = b.fits.alt; cookie = b.fits.cookie; size = b.fits.size; deleted = flag_is flags };
}

-- so the byte 1 deletes it
pub flagged : (bytes : List ℕ) (n : Needle) → NeedleBytes bytes n → NeedleBytes (slice_set bytes 28 1) (deleted_needle n)
flagged bytes n b = reflagged bytes n 1 b

-- bytes begin with at most one needle
pub one_needle : (bytes : List ℕ) (m n : Needle) → BeginsWithNeedle bytes m → BeginsWithNeedle bytes n → m ≡ n
one_needle bytes m n a b = same_needle bytes m n a b

-- bytes are at most one head
pub one_head : (bytes : List ℕ) (g h : Head) → HeadBytes bytes g → HeadBytes bytes h → g ≡ h
one_head bytes g h a b =
    let read : (x : Head) → HeadBytes bytes x → head_at bytes ≡ x = λ x c. ap head_at (c.spelled ∙ sym (append-nil (head_bytes x c.flags))) ∙ (head_only [] x c.flags c.fits).0 in
    sym (read g a) ∙ read h b

-- a needle begins with its magic
pub magic_first : (bytes : List ℕ) (n : Needle) → BeginsWithNeedle bytes n → number_at 8 0 bytes ≡ needle_magic
unfolding head_bytes number_at
magic_first bytes n b = ap (λ (x : List ℕ). number_at 8 0 x) (b.parts ∙ ap (λ (x : List ℕ). x ++ b.rest) b.is.spelled)

length_zero : (xs : List ℕ) → length xs ≡ 0 → xs ≡ []
length_zero [] e = refl
length_zero (x ∷ xs) e = absurd (omega arith)

-- a needle begins with its head
pub head_first : (bytes : List ℕ) (n : Needle) → BeginsWithNeedle bytes n → HeadBytes (take 36 bytes) (head_of_needle n)
head_first bytes n b =
    let h : List ℕ = head_bytes (head_of_needle n) b.is.flags in
    let behind : List ℕ = (n.photo.bytes ++ footer_bytes n) ++ b.rest in
    let whole : bytes ≡ h ++ behind = b.parts ∙ ap (λ (x : List ℕ). x ++ b.rest) b.is.spelled ∙ append_assoc h (n.photo.bytes ++ footer_bytes n) b.rest in
    record {
      flags = b.is.flags;
      spelled = ap (λ (x : List ℕ). take 36 x) whole ∙ take_at h behind 36 (length-head_bytes (head_of_needle n) b.is.flags);
      fits = b.is.fits;
    }

-- the first bytes begin with the needle, if they are as many as it has
pub needle_in_front : (k : ℕ) (bytes : List ℕ) (n : Needle) → needle_total (length n.photo.bytes) ≤ k → BeginsWithNeedle bytes n → BeginsWithNeedle (take k bytes) n
needle_in_front k bytes n long b =
    let total : length b.needle ≡ needle_total (length n.photo.bytes) = length-needle b.needle n b.is in
    let more : k ≡ length b.needle + (k - length b.needle) = omega arith in
    record {
      needle = b.needle;
      rest = take (k - length b.needle) b.rest;
      parts = ap (λ (x : List ℕ). take k x) b.parts ∙ ap (λ (i : ℕ). take i (b.needle ++ b.rest)) more ∙ take-append-add b.needle b.rest (k - length b.needle);
      is = b.is;
    }

-- bytes that are no more than the needle with which they begin are the needle
pub needle_alone : (bytes : List ℕ) (n : Needle) → length bytes ≤ needle_total (length n.photo.bytes) → BeginsWithNeedle bytes n → NeedleBytes bytes n
needle_alone bytes n short b =
    let none : length b.rest ≡ 0 = omega (arith, ap length b.parts, length-append b.needle b.rest, length-needle b.needle n b.is) in
    let whole : bytes ≡ b.needle = b.parts ∙ ap (λ (x : List ℕ). b.needle ++ x) (length_zero b.rest none) ∙ append-nil b.needle in
    subst (λ x. NeedleBytes x n) (sym whole) b.is
