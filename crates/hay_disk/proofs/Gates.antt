-- What a stop leaves of a gated append, step by step.
use Rattle.std.proofs.Common.{◌≡◌, ◌⊎◌, inl, inr, ◌≢◌, ◌<◌, ◌≤◌, ◌+◌, ◌-◌, ◌^◌, ℕ, min, List, [], ◌∷◌, ◌++◌, length, take, drop, refl, sym, ◌∙◌, ap, subst, arith, length-take}
use Rattle.std.proofs.Common.{length-drop, length-append, append_assoc, take-append-drop}
use Rattle.std.proofs.lemmas.List.{drop-drop, drop-take, take_at, drop_at, length-take-le}
use Rattle.std.proofs.lemmas.Bool.{cases_eq}
use Rattle.hay_disk.specs.Disk.{FileState, IsImage, IsSolid, Changes, overwrite}
use Rattle.hay_disk.specs.Gate.{magic_bytes, IsClosed, IsGate, EndsInMark, record_of, IsWholeOrClosed}
use Rattle.hay_disk.proofs.Images.{solid_part, solid_rest}
use Rattle.hay_disk.proofs.Steps.{changes_changes, changes_wider, fronts}

-- the mark is eight bytes long
eight : (magic : ℕ) (mark : List ℕ) → mark ≡ magic_bytes magic → length mark ≡ 8
eight magic mark is = ap length is

mark_changes : (magic end : ℕ) (mark : List ℕ) (a b : FileState) → mark ≡ magic_bytes magic → Changes end (length mark) a b → Changes end 8 a b
mark_changes magic end mark a b is changes = subst (λ n. Changes end n a b) (eight magic mark is) changes

-- two lists are equal or not
pub same_or_not : (xs ys : List ℕ) → (xs ≡ ys) ⊎ (xs ≢ ys)
same_or_not [] [] = inl refl
same_or_not [] (y ∷ ys) = inr (λ e. cc)
same_or_not (x ∷ xs) [] = inr (λ e. cc)
same_or_not (x ∷ xs) (y ∷ ys) =
    elim (cases_eq x y) [
      | inl e ↦ elim (same_or_not xs ys) [
        | inl es ↦ inl (cc)
        | inr ne ↦ inr (λ whole. let es : xs ≡ ys = cc in ne es)
      ]
      | inr ne ↦ inr (λ whole. let e : x ≡ y = cc in ne e)
    ]

-- a body with its end mark has eight bytes at least
pub long_enough : (body : List ℕ) → EndsInMark body → 8 ≤ length body
long_enough body (rest, is) = omega (arith, simp length-append at (ap length is))

-- the mark at `end` is where it was before a change behind it
pub closed_behind : (magic end behind n : ℕ) (old new : FileState) (image : List ℕ) → behind ≡ end + 8 → IsGate magic end old → Changes behind n old new → IsImage new image → IsClosed magic end image
closed_behind magic end behind n old new image place gate change is =
    let changes : Changes (end + 8) n old new = subst (λ (at : ℕ). Changes at n old new) place change in
    let in_image : take 8 (drop end image) ≡ take 8 (drop end new.now) =
    solid_part end 8 new image (λ k from to. changes.solid k (gate.solid k from to) (inl (omega arith))) is in
    let as_before : take 8 (drop end new.now) ≡ take 8 (drop end old.now) =
    sym (drop-take end 8 new.now) ∙ ap (λ (l : List ℕ). drop end l) changes.before ∙ drop-take end 8 old.now in
    let same : take 8 (drop end image) ≡ take 8 (drop end old.now) = in_image ∙ as_before in
    record {
      room = omega (arith, gate.closed.room, simp (length-take, length-drop) at (ap length same));
      shut = λ magic_is. gate.closed.shut (sym same ∙ magic_is);
    }

-- what stands behind the place of an overwrite
pub drop-overwrite : (at : ℕ) (bytes old : List ℕ) → at ≤ length old → drop at (overwrite at bytes old) ≡ bytes ++ drop (at + length bytes) old
drop-overwrite at bytes old low =
    ap (λ (l : List ℕ). drop at l) (append_assoc (take at old) bytes (drop (at + length bytes) old))
    ∙ drop_at (take at old) (bytes ++ drop (at + length bytes) old) at (length-take-le at old low)

-- once the body is on the disk, a change of the mark alone leaves the whole record or no magic
pub whole_or_closed : (magic end behind : ℕ) (body mark : List ℕ) (old staged new : FileState) (image : List ℕ) → behind ≡ end + 8 → IsGate magic end old → EndsInMark body
    → staged.now ≡ overwrite behind body old.now → IsSolid staged → mark ≡ magic_bytes magic → Changes end (length mark) staged new → IsImage new image → IsWholeOrClosed magic end body image
whole_or_closed magic end behind body mark old staged new image place gate ends written solid is_magic_bytes marked is =
    let holds : staged.now ≡ overwrite (end + 8) body old.now = subst (λ (at : ℕ). staged.now ≡ overwrite at body old.now) place written in
    let changes = mark_changes magic end mark staged new is_magic_bytes marked in
    let tail = drop (end + 8 + length body) old.now in
    let rest : drop (end + 8) image ≡ body ++ tail =
    solid_rest (end + 8) new image (λ k from. changes.solid k (solid.places k) (inr from)) is
    ∙ changes.after
    ∙ ap (λ (l : List ℕ). drop (end + 8) l) holds
    ∙ drop-overwrite (end + 8) body old.now gate.closed.room in
    let long : end + 8 ≤ length image = omega (arith, long_enough body ends, simp (length-drop, length-append) at (ap length rest)) in
    let split : drop end image ≡ take 8 (drop end image) ++ (body ++ tail) =
    sym (take-append-drop 8 (drop end image)) ∙ ap (λ (l : List ℕ). take 8 (drop end image) ++ l) (drop-drop 8 end image ∙ rest) in
    elim (same_or_not (take 8 (drop end image)) (magic_bytes magic)) [
      | inl is_magic ↦ inr (
          ap (λ (l : List ℕ). take (length (record_of magic body)) l) (split ∙ ap (λ (l : List ℕ). l ++ (body ++ tail)) is_magic ∙ sym (append_assoc (magic_bytes magic) body tail))
          ∙ take_at (record_of magic body) tail (length (record_of magic body)) refl)
      | inr no_magic ↦ inl (record { room = long; shut = no_magic })
    ]

-- where the file's length is a number of 64 bits, the sum behind the mark is exact
pub behind_is : (magic end behind : ℕ) (file : FileState) → IsGate magic end file → length file.now < 2 ^ 64 → behind ≡ min (end + 8) (2 ^ 64 - 1) → behind ≡ end + 8
behind_is magic end behind file gate fits is = omega (arith, gate.closed.room)

-- all changes of an append lie in its record
pub body_changes : (end behind n : ℕ) (a b : FileState) → behind ≡ end + 8 → Changes behind n a b → Changes end (8 + n) a b
body_changes end behind n a b place is = changes_wider behind n end (8 + n) a b (omega arith) (omega arith) is

pub magic_changes : (magic end behind n : ℕ) (mark : List ℕ) (a b c : FileState) → behind ≡ end + 8 → mark ≡ magic_bytes magic → Changes behind n a b
    → Changes end (length mark) b c → Changes end (8 + n) a c
magic_changes magic end behind n mark a b c place is first second =
    changes_changes end (8 + n) a b c (body_changes end behind n a b place first) (changes_wider end 8 end (8 + n) b c (omega arith) (omega arith) (mark_changes magic end mark b c is second))

-- a magic before the body that was written behind its place
pub magic_stands : (magic end behind : ℕ) (body mark old staged new : List ℕ) → behind ≡ end + 8 → end + 8 ≤ length old → staged ≡ overwrite behind body old
    → mark ≡ magic_bytes magic → new ≡ overwrite end mark staged → new ≡ overwrite end (record_of magic body) old
magic_stands magic end behind body mark old staged new place room written is_magic marked =
    let bytes = magic_bytes magic in
    let holds : staged ≡ overwrite (end + 8) body old = subst (λ (at : ℕ). staged ≡ overwrite at body old) place written in
    let over : new ≡ overwrite end bytes staged = subst (λ (m : List ℕ). new ≡ overwrite end m staged) is_magic marked in
    let rest : drop (end + 8) staged ≡ body ++ drop (end + 8 + length body) old = ap (λ (l : List ℕ). drop (end + 8) l) holds ∙ drop-overwrite (end + 8) body old room in
    let tail = drop (end + 8 + length body) old in
    let front : take (end + 8) staged ≡ take (end + 8) old =
    ap (λ (l : List ℕ). take (end + 8) l) (holds ∙ append_assoc (take (end + 8) old) body tail) ∙ take_at (take (end + 8) old) (body ++ tail) (end + 8) (length-take-le (end + 8) old room) in
    let begins : take end staged ≡ take end old = fronts (end + 8) end old staged (omega arith) front in
    let ends : end + 8 + length body ≡ end + length (record_of magic body) = omega arith in
    over
    ∙ ap (λ (l : List ℕ). l ++ bytes ++ drop (end + 8) staged) begins
    ∙ ap (λ (l : List ℕ). take end old ++ bytes ++ l) rest
    ∙ sym (append_assoc (take end old ++ bytes) body tail)
    ∙ ap (λ (l : List ℕ). l ++ tail) (append_assoc (take end old) bytes body)
    ∙ ap (λ (n : ℕ). take end old ++ record_of magic body ++ drop n old) ends
