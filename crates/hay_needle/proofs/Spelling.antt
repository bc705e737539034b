-- What is written is the spelling of a needle.
use Rattle.std.proofs.Common.{ap, ◌≡◌, ℕ, ◌+◌, ◌-◌, ◌<◌, ◌≤◌, List, ◌++◌, length, take, refl, sym, ◌∙◌, append_assoc, arith}
use Rattle.std.specs.Prelude.{replicate, ◌^◌}
use Rattle.byteorder.specs.Endian.{big_bytes}
use Rattle.hay_needle.specs.declared.needle.Pair.{Pair}
use Rattle.hay_needle.specs.declared.needle.Cookie.{Cookie}
use Rattle.hay_needle.specs.declared.needle.Needle.{Needle}
use Rattle.hay_needle.specs.Needle.{Head, HeadBytes, NeedleBytes, live, head_of_needle, head_rest, head_bytes, footer_bytes, needle_rest, needle_magic, needle_sum, covered_bytes, AppendsBehindMagic}
use Rattle.std.proofs.lemmas.List.{replicate-append-replicate, take_all, length-append, length-replicate, length-take-le}
use Rattle.sha2.specs.Sha256.{sha256}
use Rattle.sha2.proofs.Facts256.{length-sha256}
use Rattle.hay_needle.specs.Sizes.{needle_padding, needle_total}

-- a list that is filled up with zeros
filled : (xs : List ℕ) (n len p : ℕ) → len ≡ length xs → n ≡ len + p + 8 → take n xs ++ replicate (n - len) 0 ≡ xs ++ (replicate p 0 ++ replicate 8 0)
filled xs n len p l e =
    let whole : take n xs ≡ xs = take_all n xs (omega arith) in
    let zeros : n - len ≡ p + 8 = omega arith in
    rw (whole, zeros, ← replicate-append-replicate {A = ℕ} p 8 0) refl

-- the parts of a needle behind its magic, in a row, and zeros up to a place
pub in_a_row : (out head photo magic sum x y : List ℕ) (n len p : ℕ) → x ≡ out ++ head ++ photo ++ (magic ++ sum)
    → y ≡ take n x ++ replicate (n - len) 0 → len ≡ length x → n ≡ len + p + 8
    → y ≡ out ++ ((head ++ (photo ++ (magic ++ (sum ++ replicate p 0)))) ++ replicate 8 0)
in_a_row out head photo magic sum x y n len p e f l k = f ∙ filled x n len p l k ∙ rw e (simp append_assoc)

-- what is in such a row is the needle
pub appended : (pair : Pair) (cookie : Cookie) (photo old new : List ℕ) → pair.key < 2 ^ 64 → pair.alt < 2 ^ 32 → cookie.0 < 2 ^ 64 → length photo ≤ 16777216
    → new ≡ old ++ (needle_rest (live pair cookie photo) 0 ++ replicate 8 0) → AppendsBehindMagic old new (live pair cookie photo)
unfolding head_bytes
appended pair cookie photo old new key alt cookie_fits size e =
    let n : Needle = live pair cookie photo in
    record {
      rest = needle_rest n 0;
      is = record {
        flags = 0;
        spelled = sym (append_assoc (big_bytes 8 needle_magic) (head_rest (head_of_needle n) 0) (photo ++ footer_bytes n));
        fits = record { key = key; alt = alt; cookie = cookie_fits; size = size; deleted = (λ t. absurd cc, λ ne. absurd (ne refl)) };
      };
      grown = e;
    }

-- LENGTHS

pub length-needle_sum : (n : Needle) → length (needle_sum n) ≡ 8
length-needle_sum n = let bytes : List ℕ = covered_bytes n.version n.pair n.photo in length-take-le 8 (sha256 bytes) (omega (arith, length-sha256 bytes))

length-footer : (n : Needle) → length (footer_bytes n) ≡ 12 + needle_padding (length n.photo.bytes)
unfolding footer_bytes
length-footer n =
    let zeros : List ℕ = replicate (needle_padding (length n.photo.bytes)) 0 in
    omega (arith, length-append (needle_sum n) zeros, length-needle_sum n, length-replicate {A = ℕ} (needle_padding (length n.photo.bytes)) 0)

pub length-head_bytes : (h : Head) (flags : ℕ) → length (head_bytes h flags) ≡ 36
unfolding head_bytes head_rest
length-head_bytes h flags = refl

pub length-needle : (bytes : List ℕ) (n : Needle) → NeedleBytes bytes n → length bytes ≡ needle_total (length n.photo.bytes)
length-needle bytes n b =
    let h : List ℕ = head_bytes (head_of_needle n) b.flags in
    omega (arith, ap length b.spelled, length-append h (n.photo.bytes ++ footer_bytes n), length-append n.photo.bytes (footer_bytes n), length-head_bytes (head_of_needle n) b.flags, length-footer n)

pub length-head : (bytes : List ℕ) (h : Head) → HeadBytes bytes h → length bytes ≡ 36
length-head bytes h b = ap length b.spelled ∙ length-head_bytes h b.flags
