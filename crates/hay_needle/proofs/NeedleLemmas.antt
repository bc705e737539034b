-- A needle, read and written.
use Rattle.std.proofs.Common.{◌≡◌, ℕ, ◌+◌, ◌≤◌, List, ◌++◌, length, take, drop, refl, sym, ap, subst, ◌∙◌, append_assoc, arith, true, None, Result, Ok, Err}
use Rattle.std.specs.Prelude.{replicate, slice_range, IfOk, IsOkAnd}
use Rattle.std.proofs.lemmas.Bool.{ltb-false, le-ltb, eq-eqb}
use Rattle.std.proofs.lemmas.List.{take-append-drop, length-take-le, length-drop, length-append, length-replicate, drop-drop, take_at, drop_at}
use Rattle.byteorder.specs.Endian.{big_bytes}
use Rattle.hay_needle.specs.declared.needle.CellHead.{CellHead}
use Rattle.hay_needle.specs.declared.needle.Needle.{Needle}
use Rattle.hay_needle.specs.declared.needle.NeedleView.{NeedleView}
use Rattle.hay_needle.specs.declared.read.NeedleFault.{NeedleFault}
use Rattle.hay_needle.specs.Sizes.{needle_padding, needle_total}
use Rattle.hay_needle.specs.Needle.{Head, Fits, HeadBytes, BeginsWithNeedle, footer_magic, head_of_needle, head_of_cell, needle_of_view, head_bytes, footer_bytes, covered_bytes, needle_sum}
use Rattle.hay_needle.specs.Reading.{head_at, needle_at, with_head}
use Rattle.hay_needle.specs.Faults.{first_fault, fault_of, head_tests, footer_tests, needle_tests}
use Rattle.hay_needle.specs.Fields.{number_at, all_zero, has_sum}
use Rattle.hay_needle.proofs.FieldLemmas.{IsBytes, IsBytes-drop, field_4, all_zero-is, all_zero-replicate}
use Rattle.hay_needle.proofs.FaultLemmas.{passed, both_passed, both_pass, has_not, no_difference, same_sum, sum_same}
use Rattle.hay_needle.proofs.Heads.{head_found, head_only}
use Rattle.hay_needle.proofs.Spelling.{length-head_bytes, length-needle, length-needle_sum}

footer_found : (n : Needle) (footer : List ℕ) → IsBytes footer → 12 + needle_padding (length n.photo.bytes) ≤ length footer → first_fault (footer_tests n footer) ≡ None
    → footer ≡ footer_bytes n ++ drop (12 + needle_padding (length n.photo.bytes)) footer
unfolding footer_tests footer_bytes
footer_found n footer fits long e =
    let p : ℕ = needle_padding (length n.photo.bytes) in
    let range : slice_range footer 12 (12 + p) ≡ take p (drop 12 footer) = ap (λ k. take k (drop 12 footer)) (omega arith) in
    let zeros_long : length (take p (drop 12 footer)) ≡ p = length-take-le p (drop 12 footer) (simp length-drop (omega arith)) in
    let a = passed _ _ _ e in
    let b = passed _ _ _ a.1 in
    let c = passed _ _ _ b.1 in
    let zero : all_zero (slice_range footer 12 (12 + p)) ≡ true = has_not _ b.0 in
    let sum : take 8 (drop 4 footer) ≡ needle_sum n = same_sum (covered_bytes n.version n.pair n.photo) (take 8 (drop 4 footer)) (has_not _ c.0) in
    let zeros : take p (drop 12 footer) ≡ replicate p 0 = all_zero-is (take p (drop 12 footer)) (ap all_zero (sym range) ∙ zero) ∙ ap (λ k. replicate k 0) zeros_long in
    let behind : drop 12 footer ≡ replicate p 0 ++ drop (12 + p) footer = sym (take-append-drop p (drop 12 footer)) ∙ rw (zeros, drop-drop) refl in
    let checked : drop 4 footer ≡ needle_sum n ++ drop 12 footer = sym (take-append-drop 8 (drop 4 footer)) ∙ rw (sum, drop-drop) refl in
    let magic : footer ≡ big_bytes 4 footer_magic ++ drop 4 footer = field_4 0 footer (omega arith) fits ∙ ap (λ k. big_bytes 4 k ++ drop 4 footer) (no_difference _ _ a.0) in
    magic ∙ ap (λ (x : List ℕ). big_bytes 4 footer_magic ++ x) (checked ∙ ap (λ (x : List ℕ). needle_sum n ++ x) behind ∙ sym (append_assoc (needle_sum n) (replicate p 0) (drop (12 + p) footer)))

magic_again : (rest : List ℕ) → number_at 4 0 (big_bytes 4 footer_magic ++ rest) ≡ footer_magic
unfolding number_at
magic_again rest = refl

footer_only : (n : Needle) (rest : List ℕ) → first_fault (footer_tests n (footer_bytes n ++ rest)) ≡ None
unfolding footer_tests footer_bytes
footer_only n rest =
    let p : ℕ = needle_padding (length n.photo.bytes) in
    let sum_long : length (needle_sum n) ≡ 8 = length-needle_sum n in
    let footer : List ℕ = footer_bytes n ++ rest in
    let split : footer ≡ big_bytes 4 footer_magic ++ (needle_sum n ++ (replicate p 0 ++ rest)) =
    ap (λ (x : List ℕ). big_bytes 4 footer_magic ++ x) (append_assoc (needle_sum n) (replicate p 0) rest) in
    let sum_is : take 8 (drop 4 footer) ≡ needle_sum n = ap (λ (x : List ℕ). take 8 (drop 4 x)) split ∙ take_at (needle_sum n) (replicate p 0 ++ rest) 8 sum_long in
    let behind : drop 12 footer ≡ replicate p 0 ++ rest = ap (λ (x : List ℕ). drop 12 x) split ∙ drop_at (needle_sum n) (replicate p 0 ++ rest) 8 sum_long in
    let zeros : slice_range footer 12 (12 + p) ≡ replicate p 0 = ap (λ k. take k (drop 12 footer)) (omega arith) ∙ ap (take p) behind ∙ take_at (replicate p 0) rest p (length-replicate p 0) in
    let padded : all_zero (slice_range footer 12 (12 + p)) ≡ true = ap all_zero zeros ∙ all_zero-replicate p in
    let summed : has_sum (covered_bytes n.version n.pair n.photo) (take 8 (drop 4 footer)) ≡ true = sum_same (covered_bytes n.version n.pair n.photo) (take 8 (drop 4 footer)) sum_is in
    let magic : number_at 4 0 footer ≡ footer_magic = ap (number_at 4 0) split ∙ magic_again (needle_sum n ++ (replicate p 0 ++ rest)) in
    rw (eq-eqb _ _ magic, padded, summed) refl

-- a needle by its parts
needle_is : (h : Head) (flags : ℕ) (photo after bytes : List ℕ) → Fits h flags → length photo ≡ h.size → bytes ≡ head_bytes h flags ++ (photo ++ (footer_bytes (with_head h photo) ++ after))
    → BeginsWithNeedle bytes (with_head h photo)
needle_is h flags photo after bytes fits size e =
    let n : Needle = with_head h photo in
    let same : head_of_needle n ≡ h = ap (λ k. let x : Head = record { version = h.version; pair = h.pair; cookie = h.cookie; deleted = h.deleted; size = k } in x) size in
    record {
      needle = head_bytes h flags ++ (photo ++ footer_bytes n);
      rest = after;
      parts = rw e (simp append_assoc);
      is = record { flags = flags; spelled = ap (λ x. head_bytes x flags ++ (photo ++ footer_bytes n)) (sym same); fits = subst (λ x. Fits x flags) (sym same) fits };
    }

-- what is read without a fault is a needle
needle_found : (bytes : List ℕ) → IsBytes bytes → first_fault (needle_tests bytes) ≡ None → BeginsWithNeedle bytes (needle_at bytes)
unfolding needle_tests needle_at head_at
needle_found bytes fits e =
    let parts = both_passed (head_tests bytes) _ e in
    let head = head_found bytes fits parts.0 in
    let short = passed _ _ _ parts.1 in
    let h : Head = head_at bytes in
    let long : needle_total h.size ≤ length bytes = ltb-false _ _ short.0 in
    let body : List ℕ = drop 36 bytes in
    let photo : List ℕ = take h.size body in
    let footer : List ℕ = drop h.size body in
    let photo_long : length photo ≡ h.size = length-take-le h.size body (simp length-drop (omega arith)) in
    let padding : needle_padding (length photo) ≡ needle_padding h.size = ap needle_padding photo_long in
    let footer_long : 12 + needle_padding (length photo) ≤ length footer = rw padding (simp (length-drop) (omega arith)) in
    let after : List ℕ = drop (12 + needle_padding (length photo)) footer in
    let f = footer_found (with_head h photo) footer (IsBytes-drop h.size body (IsBytes-drop 36 bytes fits)) footer_long short.1 in
    let whole : bytes ≡ head_bytes h head.0 ++ (photo ++ (footer_bytes (with_head h photo) ++ after)) =
    head.1 ∙ ap (λ (x : List ℕ). head_bytes h head.0 ++ x) (sym (take-append-drop h.size body) ∙ ap (λ (x : List ℕ). photo ++ x) f) in
    needle_is h head.0 photo after bytes head.2 photo_long whole

-- and a needle is read again
needle_only : (bytes : List ℕ) (n : Needle) → BeginsWithNeedle bytes n → (needle_at bytes ≡ n) × (first_fault (needle_tests bytes) ≡ None)
unfolding needle_tests needle_at
needle_only bytes n b =
    let h : Head = head_of_needle n in
    let behind : List ℕ = n.photo.bytes ++ (footer_bytes n ++ b.rest) in
    let whole : bytes ≡ head_bytes h b.is.flags ++ behind = b.parts ∙ rw (b.is.spelled) (simp append_assoc) in
    let again = head_only behind h b.is.flags b.is.fits in
    let read : head_at bytes ≡ h = ap head_at whole ∙ again.0 in
    let tested : first_fault (head_tests bytes) ≡ None = ap (λ x. first_fault (head_tests x)) whole ∙ again.1 in
    let body : drop 36 bytes ≡ behind = ap (drop 36) whole ∙ drop_at (head_bytes h b.is.flags) behind 36 (length-head_bytes h b.is.flags) in
    let photo_is : take h.size (drop 36 bytes) ≡ n.photo.bytes = ap (take h.size) body ∙ take_at n.photo.bytes (footer_bytes n ++ b.rest) h.size refl in
    let footer_is : drop h.size (drop 36 bytes) ≡ footer_bytes n ++ b.rest = ap (drop h.size) body ∙ drop_at n.photo.bytes (footer_bytes n ++ b.rest) h.size refl in
    let long : needle_total h.size ≤ length bytes = omega (arith, length-needle b.needle n b.is, ap length b.parts, length-append b.needle b.rest) in
    (rw (read, photo_is) refl, both_pass (head_tests bytes) _ tested (rw (read, le-ltb (length bytes) (needle_total h.size) long, photo_is, footer_is) (footer_only n b.rest)))

-- THE SAME OF WHAT A READER RETURNED

pub is_head_found : (bytes : List ℕ) (r : Result CellHead NeedleFault) → IsBytes bytes → IfOk r (λ h. head_of_cell h ≡ head_at bytes) → fault_of r ≡ first_fault (head_tests bytes)
    → IfOk r (λ h. HeadBytes (take 36 bytes) (head_of_cell h))
is_head_found bytes (Ok cell) fits fields fault =
    let f = head_found bytes fits (sym fault) in
    let found : HeadBytes (take 36 bytes) (head_at bytes) = record {
      flags = f.0;
      spelled = ap (take 36) f.1 ∙ take_at (head_bytes (head_at bytes) f.0) (drop 36 bytes) 36 (length-head_bytes (head_at bytes) f.0);
      fits = f.2;
    } in
    subst (λ h. HeadBytes (take 36 bytes) h) (sym fields) found
is_head_found bytes (Err e) fits fields fault = tt

-- an answer without a fault
is_ok_and : {X Y : Type 0} (view : X → Y) (r : Result X NeedleFault) (read y : Y) → IfOk r (λ x. view x ≡ read) → fault_of r ≡ None → read ≡ y → IsOkAnd r (λ x. view x ≡ y)
is_ok_and view (Ok x) read y fields fault is = fields ∙ is
is_ok_and view (Err e) read y fields fault is = absurd cc

pub is_head : (bytes : List ℕ) (r : Result CellHead NeedleFault) (h : Head) → IfOk r (λ cell. head_of_cell cell ≡ head_at bytes) → fault_of r ≡ first_fault (head_tests bytes)
    → HeadBytes (take 36 bytes) h → IsOkAnd r (λ cell. head_of_cell cell ≡ h)
is_head bytes r h fields fault b =
    let whole : bytes ≡ head_bytes h b.flags ++ drop 36 bytes = sym (take-append-drop 36 bytes) ∙ ap (λ (x : List ℕ). x ++ drop 36 bytes) b.spelled in
    let again = head_only (drop 36 bytes) h b.flags b.fits in
    is_ok_and head_of_cell r (head_at bytes) h fields (fault ∙ ap (λ x. first_fault (head_tests x)) whole ∙ again.1) (ap head_at whole ∙ again.0)

pub is_needle_found : (bytes : List ℕ) (r : Result NeedleView NeedleFault) → IsBytes bytes → IfOk r (λ v. needle_of_view v ≡ needle_at bytes) → fault_of r ≡ first_fault (needle_tests bytes)
    → IfOk r (λ v. BeginsWithNeedle bytes (needle_of_view v))
is_needle_found bytes (Ok v) fits fields fault = subst (λ n. BeginsWithNeedle bytes n) (sym fields) (needle_found bytes fits (sym fault))
is_needle_found bytes (Err e) fits fields fault = tt

pub is_needle : (bytes : List ℕ) (r : Result NeedleView NeedleFault) (n : Needle) → IfOk r (λ v. needle_of_view v ≡ needle_at bytes) → fault_of r ≡ first_fault (needle_tests bytes)
    → BeginsWithNeedle bytes n → IsOkAnd r (λ v. needle_of_view v ≡ n)
is_needle bytes r n fields fault b =
    let again = needle_only bytes n b in
    is_ok_and needle_of_view r (needle_at bytes) n fields (fault ∙ again.1) again.0

-- bytes begin with at most one needle
pub same_needle : (bytes : List ℕ) (m n : Needle) → BeginsWithNeedle bytes m → BeginsWithNeedle bytes n → m ≡ n
same_needle bytes m n a b = sym (needle_only bytes m a).0 ∙ (needle_only bytes n b).0
