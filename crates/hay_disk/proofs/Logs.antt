-- A gated append makes a log one record longer, or leaves it.
use Rattle.std.proofs.Common.{◌≡◌, ◌⊎◌, inl, inr, ◌≢◌, ◌<◌, ◌≤◌, ◌+◌, ◌^◌, ℕ, List, ◌++◌, length, take, drop, refl, sym, ◌∙◌, ap, subst, arith, length-take, length-drop}
use Rattle.std.proofs.Common.{length-append, append_assoc, take-append-drop}
use Rattle.std.proofs.lemmas.List.{take_at, drop_at, length-take-le}
use Rattle.std.proofs.lemmas.Nat.{from_be_bytes-to_be_bytes_8}
use Rattle.std.specs.Int.{from_be_bytes, w64}
use Rattle.hay_disk.specs.Disk.{FileState, IsImage, IsSolid, IsSolidIn, Changes, Keeps, Seals, overwrite}
use Rattle.hay_disk.specs.Gate.{magic_bytes, IsClosed, IsGate, IsLog, HasBytesAt, record_of, end_mark, EndsInMark, IsWholeOrClosed, LogGrows, LogStays}
use Rattle.hay_disk.proofs.Images.{solid_part}
use Rattle.hay_disk.proofs.Gates.{drop-overwrite}
use Rattle.hay_disk.proofs.Steps.{rests}

-- a log from its bytes and its end mark
log_from : (magic : ℕ) (front mark rest file : List ℕ) → file ≡ front ++ (mark ++ rest) → length mark ≡ 8 → mark ≢ magic_bytes magic → IsLog magic front file
log_from magic front mark rest file is eight other =
    let here : drop (length front) file ≡ mark ++ rest = ap (λ (l : List ℕ). drop (length front) l) is ∙ drop_at front (mark ++ rest) (length front) refl in
    let shut : take 8 (drop (length front) file) ≡ mark = ap (λ (l : List ℕ). take 8 l) here ∙ take_at mark rest 8 eight in
    record {
      begins = ap (λ (l : List ℕ). take (length front) l) is ∙ take_at front (mark ++ rest) (length front) refl;
      closed = record {
        room = omega (arith, eight, simp length-append at (ap length is));
        shut = λ magic_is. other (sym shut ∙ magic_is);
      };
    }

-- a whole record behind the front of a log
pub whole_log : (magic end : ℕ) (front rest file : List ℕ) → length front ≡ end → end_mark ≢ magic_bytes magic → take end file ≡ front
    → HasBytesAt end (record_of magic (rest ++ end_mark)) file → IsLog magic (front ++ record_of magic rest) file
whole_log magic end front rest file ends other begins stands =
    let bytes = record_of magic (rest ++ end_mark) in
    let tail = drop (length bytes) (drop end file) in
    let split : file ≡ front ++ (bytes ++ tail) =
    sym (take-append-drop end file)
    ∙ ap (λ (l : List ℕ). l ++ drop end file) begins
    ∙ ap (λ (l : List ℕ). front ++ l) (sym (take-append-drop (length bytes) (drop end file)) ∙ ap (λ (l : List ℕ). l ++ tail) stands) in
    let regroup : front ++ (bytes ++ tail) ≡ (front ++ record_of magic rest) ++ (end_mark ++ tail) = simp append_assoc in
    log_from magic (front ++ record_of magic rest) end_mark tail file (split ∙ regroup) refl other

-- after Ok the log is one record longer
pub log_appended : (magic end : ℕ) (front rest old new : List ℕ) → length front ≡ end → end_mark ≢ magic_bytes magic → IsLog magic front old
    → new ≡ overwrite end (record_of magic (rest ++ end_mark)) old → IsLog magic (front ++ record_of magic rest) new
log_appended magic end front rest old new ends other log is =
    let bytes = record_of magic (rest ++ end_mark) in
    let tail = drop (end + length bytes) old in
    let room : end ≤ length old = omega (arith, log.closed.room) in
    let begins_old : take end old ≡ front = subst (λ n. take n old ≡ front) ends log.begins in
    let begins : take end new ≡ front =
    ap (λ (l : List ℕ). take end l) (is ∙ append_assoc (take end old) bytes tail) ∙ take_at (take end old) (bytes ++ tail) end (length-take-le end old room) ∙ begins_old in
    let stands : HasBytesAt end bytes new =
    ap (λ (l : List ℕ). take (length bytes) (drop end l)) is ∙ ap (λ (l : List ℕ). take (length bytes) l) (drop-overwrite end bytes old room) ∙ take_at bytes tail (length bytes) refl in
    whole_log magic end front rest new ends other begins stands

-- whatever a stop leaves, the log is as it was or one record longer
pub log_left : (magic end n : ℕ) (front rest : List ℕ) (old new : FileState) (image : List ℕ) → length front ≡ end → end_mark ≢ magic_bytes magic → IsLog magic front old.now
    → IsSolidIn 0 end old → Changes end n old new → IsImage new image → IsWholeOrClosed magic end (rest ++ end_mark) image → IsLog magic front image ⊎ IsLog magic (front ++ record_of magic rest) image
log_left magic end n front rest old new image ends other log solid changes is left =
    let begins_old : take end old.now ≡ front = subst (λ k. take k old.now ≡ front) ends log.begins in
    let in_image : take end image ≡ take end new.now = solid_part 0 end new image (λ k from to. changes.solid k (solid k from to) (inl (omega arith))) is in
    let begins : take end image ≡ front = in_image ∙ changes.before ∙ begins_old in
    elim left [
      | inl closed ↦ inl (record {
        begins = subst (λ k. take k image ≡ front) (sym ends) begins;
        closed = subst (λ k. IsClosed magic k image) (sym ends) closed;
      })
      | inr stands ↦ inr (whole_log magic end front rest image ends other begins stands)
    ]

-- where the front and the mark are solid, a stop leaves the log
pub log_kept : (magic end : ℕ) (front : List ℕ) (file : FileState) (image : List ℕ) → length front ≡ end → IsLog magic front file.now → IsSolidIn 0 end file → IsSolidIn end 8 file
    → IsImage file image → IsLog magic front image
log_kept magic end front file image ends log solid mark is =
    let same_front : take end image ≡ take end file.now = solid_part 0 end file image solid is in
    let same_mark : take 8 (drop end image) ≡ take 8 (drop end file.now) = solid_part end 8 file image mark is in
    let here : IsClosed magic end file.now = subst (λ k. IsClosed magic k file.now) ends log.closed in
    let closed : IsClosed magic end image = record {
      room = omega (arith, here.room, simp (length-take, length-drop) at (ap length same_mark));
      shut = λ magic_is. here.shut (sym same_mark ∙ magic_is);
    } in
    record {
      begins = subst (λ k. take k image ≡ front) (sym ends) (same_front ∙ subst (λ k. take k file.now ≡ front) ends log.begins);
      closed = subst (λ k. IsClosed magic k image) (sym ends) closed;
    }

-- after Ok the next record may be appended
pub gate_next : (magic end n : ℕ) (body : List ℕ) (old new : FileState) → IsGate magic end old → end_mark ≢ magic_bytes magic → EndsInMark body
    → new.now ≡ overwrite end (record_of magic body) old.now → IsSolid new → Changes end n old new → IsGate magic (end + length body) new
gate_next magic end n body old new gate other (rest, ends) is solid changes =
    let front = take end old.now in
    let room : end ≤ length old.now = omega (arith, gate.closed.room) in
    let at_end : length front ≡ end = length-take-le end old.now room in
    let log : IsLog magic front old.now = record {
      begins = ap (λ (k : ℕ). take k old.now) at_end;
      closed = subst (λ k. IsClosed magic k old.now) (sym at_end) gate.closed;
    } in
    let is_rest : new.now ≡ overwrite end (record_of magic (rest ++ end_mark)) old.now = subst (λ (l : List ℕ). new.now ≡ overwrite end (record_of magic l) old.now) ends is in
    let longer = log_appended magic end front rest old.now new.now at_end other log is_rest in
    let here : length (front ++ record_of magic rest) ≡ end + length body =
    omega (arith, at_end, simp length-append at (ap length ends), length-append front (record_of magic rest), length-append (magic_bytes magic) rest) in
    record {
      closed = subst (λ k. IsClosed magic k new.now) here longer.closed;
      solid = λ k from to. solid.places k;
      free = λ k from. changes.free k (gate.free k (omega arith));
    }

-- a magic is not the end mark
pub not_mark : (magic : ℕ) → magic < 2 ^ 64 → 0 < magic → end_mark ≢ magic_bytes magic
not_mark magic fits some same =
    let zero_is : 0 ≡ magic = ap (from_be_bytes w64) same ∙ from_be_bytes-to_be_bytes_8 magic fits in
    absurd (omega arith)

-- the whole of it as the clauses of the append say it
pub log_grows : (magic end : ℕ) (body old new : List ℕ) → magic < 2 ^ 64 → 0 < magic → new ≡ overwrite end (record_of magic body) old → LogGrows magic end body old new
log_grows magic end body old new fits some is = record {
  longer = λ front bytes ends body_is log.
      log_appended magic end front bytes old new ends (not_mark magic fits some) log (subst (λ (l : List ℕ). new ≡ overwrite end (record_of magic l) old) body_is is);
}

pub log_stays : (magic end n : ℕ) (body : List ℕ) (old new : FileState) → magic < 2 ^ 64 → 0 < magic → Changes end n old new
    → ((image : List ℕ) → IsImage new image → IsWholeOrClosed magic end body image) → LogStays magic end body old new
log_stays magic end n body old new fits some changes whole = record {
  image = λ front bytes image ends body_is log solid is.
      log_left magic end n front bytes old new image ends (not_mark magic fits some) log solid changes is (subst (λ (l : List ℕ). IsWholeOrClosed magic end l image) body_is (whole image is));
}

-- the place behind the last record stays one where a record may be appended
pub gate_keeps : (magic end : ℕ) (a b : FileState) → IsGate magic end a → Keeps a b → IsGate magic end b
gate_keeps magic end a b gate is = record {
  closed = subst (λ (l : List ℕ). IsClosed magic end l) (sym is.now) gate.closed;
  solid = λ k from to. is.solid k (gate.solid k from to);
  free = λ k from. is.free k (gate.free k from);
}

-- also when a piece before it is given out
pub gate_seals : (magic end at n hole : ℕ) (a b : FileState) → at + n ≤ end → IsGate magic end a → Seals at n hole a b → IsGate magic end b
gate_seals magic end at n hole a b before gate is = record {
  closed = subst (λ (l : List ℕ). IsClosed magic end l) (sym is.now) gate.closed;
  solid = λ k from to. is.solid k (gate.solid k from to);
  free = λ k from. is.free k (gate.free k from) (inl (inr (omega arith)));
}

-- and when something before it is changed
pub gate_changes : (magic end at n : ℕ) (a b : FileState) → at + n ≤ end → IsGate magic end a → Changes at n a b → IsGate magic end b
gate_changes magic end at n a b before gate is =
    let same : drop end b.now ≡ drop end a.now = rests (at + n) end a.now b.now before is.after in
    record {
      closed = record {
        room = omega (arith, gate.closed.room, is.grows);
        shut = λ magic_is. gate.closed.shut (ap (λ (l : List ℕ). take 8 l) (sym same) ∙ magic_is);
      };
      solid = λ k from to. is.solid k (gate.solid k from to) (inr (omega arith));
      free = λ k from. is.free k (gate.free k from);
    }
