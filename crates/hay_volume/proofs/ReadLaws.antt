-- Bytes that are read in parts.
use Rattle.std.proofs.Common.{◌≡◌, ◌+◌, ◌-◌, ◌<◌, ◌≤◌, ◌^◌, ℕ, min, List, [], ◌++◌, length, take, drop, refl, sym, ◌∙◌, ap, arith, inl, inr, subst, Result, Err, length-take, length-drop}
use Rattle.std.proofs.Math.Seq.{take-add}
use Rattle.std.proofs.lemmas.Bool.{cases_lt}
use Rattle.std.proofs.lemmas.List.{take_at, take_all, drop_at, drop_all, drop-drop, length-take-le, take-append-le, take-take, length-append}
use Rattle.hay_needle.specs.declared.needle.CellHead.{CellHead}
use Rattle.hay_needle.specs.declared.needle.Needle.{Needle}
use Rattle.hay_needle.specs.Needle.{Head, HeadBytes, NeedleBytes, BeginsWithNeedle, head_of_cell, head_of_needle}
use Rattle.hay_needle.specs.Sizes.{needle_total}
use Rattle.hay_needle.proofs.Needles.{head_first, length-head, one_head, needle_in_front, needle_alone}
use Rattle.hay_disk.specs.Gate.{HasBytesAt}
use Rattle.hay_needle.specs.declared.needle.Cell.{Cell}
use Rattle.hay_volume.specs.Cells.{IsCellAt, cell_head}
use Rattle.hay_volume.specs.declared.fault.CellFault.{CellFault}
use Rattle.hay_volume.specs.declared.fault.CellFault.TheVariants.{Damaged}

-- as many of a list as there are, of those that are asked for
take_min : (n m : ℕ) (xs : List ℕ) → n ≡ min m (length xs) → take n xs ≡ take m xs
take_min n m xs is =
    elim (cases_lt (length xs) m) [
      | inl short ↦ take_all n xs (omega arith) ∙ sym (take_all m xs (omega arith))
      | inr long ↦ ap (λ k. take k xs) (omega arith)
    ]

-- a place that is cut off at the greatest number lies behind each file's end, as the true one
same_rest : (place there : ℕ) (file : List ℕ) → place ≡ min there 18446744073709551615 → length file < 2 ^ 64 → drop place file ≡ drop there file
same_rest place there file is fits =
    elim (cases_lt 18446744073709551615 there) [
      | inl beyond ↦ drop_all place file (omega arith) ∙ sym (drop_all there file (omega arith))
      | inr within ↦ ap (λ k. drop k file) (omega arith)
    ]

-- the first bytes, and a piece behind them
pub piece_behind : (at have n place : ℕ) (out piece tail file : List ℕ) → have ≤ length out → place ≡ min (at + have) 18446744073709551615 → length file < 2 ^ 64
    → n ≡ min (length (take (length out - have) (drop have out))) (length file - place)
    → piece ≡ take n (drop place file) ++ drop n (take (length out - have) (drop have out))
    → take have out ≡ take have (drop at file)
    → take (have + n) (take have out ++ (piece ++ tail)) ≡ take (length out) (drop at file)
piece_behind at have n place out piece tail file inside is fits count bytes front =
    let old : List ℕ = take (length out - have) (drop have out) in
    let room : length old ≡ length out - have = length-take-le (length out - have) (drop have out) (omega (arith, length-drop have out)) in
    let read : List ℕ = take n (drop place file) in
    let long : length read ≡ n = length-take-le n (drop place file) (omega (arith, length-drop place file)) in
    let first : length (take have out) ≡ have = length-take-le have out inside in
    let rest : drop place file ≡ drop have (drop at file) = same_rest place (at + have) file is fits ∙ ap (λ k. drop k file) (omega arith) ∙ sym (drop-drop have at file) in
    let all : n ≡ min (length out - have) (length (drop place file)) = omega (arith, length-drop place file) in
    let got : read ≡ take (length out - have) (drop have (drop at file)) = take_min n (length out - have) (drop place file) all ∙ ap (λ (l : List ℕ). take (length out - have) l) rest in
    let behind : take n (piece ++ tail) ≡ read =
    ap (λ (l : List ℕ). take n (l ++ tail)) bytes ∙ take-append-le n (read ++ drop n old) tail (omega (arith, length-append read (drop n old), long)) ∙ take_at read (drop n old) n long in
    let left : take (have + n) (take have out ++ (piece ++ tail)) ≡ take have out ++ take n (piece ++ tail) =
    take-add have n (take have out ++ (piece ++ tail)) ∙ ap (λ (l : List ℕ). l ++ take n (drop have (take have out ++ (piece ++ tail)))) (take_at (take have out) (piece ++ tail) have first)
    ∙ ap (λ (l : List ℕ). take have out ++ take n l) (drop_at (take have out) (piece ++ tail) have first) in
    let right : take (length out) (drop at file) ≡ take have (drop at file) ++ take (length out - have) (drop have (drop at file)) =
    ap (λ k. take k (drop at file)) (let e : length out ≡ have + (length out - have) = omega arith in e) ∙ take-add have (length out - have) (drop at file) in
    left ∙ rw (behind, got, front) refl ∙ sym right

-- the same in a vector that was made longer and is cut again
pub read_behind_all : (at was have n len held : ℕ) (items zeros resized slice out new file : List ℕ) → have ≡ was → was ≡ length items → was ≤ len → resized ≡ take len items ++ zeros
    → slice ≡ resized → length resized ≡ held → length out ≡ length slice → length resized ≡ len
    → new ≡ take (have + n) (take held (out ++ drop (length out) resized))
    → (take have slice ≡ take have (drop at file) → take (have + n) out ≡ take (length slice) (drop at file))
    → items ≡ take was (drop at file) → new ≡ take len (drop at file)
read_behind_all at was have n len held items zeros resized slice out new file is_was haves within longer same holds kept len_is is read front =
    let cut : take held (out ++ drop (length out) resized) ≡ out = take_at out (drop (length out) resized) held (omega (arith, ap length same)) in
    let whole : take len items ≡ items = take_all len items (omega arith) in
    let first : take was slice ≡ items =
    ap (λ (l : List ℕ). take was l) (same ∙ longer ∙ ap (λ (l : List ℕ). l ++ zeros) whole) ∙ take_at items zeros was (sym haves) in
    let ready : take have slice ≡ take have (drop at file) = rw is_was (first ∙ front) in
    is ∙ ap (λ (l : List ℕ). take (have + n) l) cut ∙ read ready ∙ ap (λ k. take k (drop at file)) (ap length same ∙ len_is)

-- NEEDLES THAT ARE READ

-- what the first read gave
pub front_seen : (at got : ℕ) (blank out file : List ℕ) → length blank ≡ 36 → got ≡ min (length blank) (length file - at) → out ≡ take got (drop at file) ++ drop got blank
    → take got out ≡ take 36 (drop at file)
front_seen at got blank out file long count bytes =
    let read : length (take got (drop at file)) ≡ got = length-take-le got (drop at file) (omega (arith, length-drop at file)) in
    ap (λ (l : List ℕ). take got l) bytes ∙ take_at (take got (drop at file)) (drop got blank) got read ∙ take_min got 36 (drop at file) (omega (arith, length-drop at file))

-- the head of a needle stands where the needle does
pub head_seen : (seen bytes : List ℕ) (n : Needle) → seen ≡ take 36 bytes → BeginsWithNeedle bytes n → HeadBytes (take 36 seen) (head_of_needle n)
head_seen seen bytes n is begins =
    subst (λ (l : List ℕ). HeadBytes l (head_of_needle n)) (sym (ap (λ (l : List ℕ). take 36 l) is ∙ take-take 36 36 bytes (omega arith))) (head_first bytes n begins)

-- a head that was read is all of the 36 bytes
pub whole_got : (got : ℕ) (out : List ℕ) (h : Head) → length out ≡ 36 → HeadBytes (take 36 (take got out)) h → take got out ≡ out
whole_got got out h long is =
    let all : 36 ≤ got = omega (arith, length-head (take 36 (take got out)) h is, length-take 36 (take got out), length-take got out) in
    take_all got out (omega arith)

pub head_whole : (got : ℕ) (out void bytes : List ℕ) (h : Head) → length out ≡ 36 → void ≡ [] → bytes ≡ void ++ out → HeadBytes (take 36 (take got out)) h → HeadBytes bytes h
head_whole got out void bytes h long none made is =
    let same : take 36 (take got out) ≡ out = ap (λ (l : List ℕ). take 36 l) (whole_got got out h long is) ∙ take_all 36 out (omega arith) in
    subst (λ (l : List ℕ). HeadBytes l h) (same ∙ sym (made ∙ ap (λ (l : List ℕ). l ++ out) none)) is

-- then they stand in the file
pub whole_seen : (at got : ℕ) (blank out void bytes file : List ℕ) (h : Head) → length blank ≡ 36 → got ≡ min (length blank) (length file - at) → out ≡ take got (drop at file) ++ drop got blank
    → length out ≡ 36 → void ≡ [] → bytes ≡ void ++ out → HeadBytes (take 36 (take got out)) h → bytes ≡ take 36 (drop at file)
whole_seen at got blank out void bytes file h long count read full none made is =
    made ∙ ap (λ (l : List ℕ). l ++ out) none ∙ sym (whole_got got out h full is) ∙ front_seen at got blank out file long count read

-- the bytes that were read of a place are what stands there
pub read_stands : (at total : ℕ) (bytes file : List ℕ) → bytes ≡ take total (drop at file) → HasBytesAt at bytes file
read_stands at total bytes file is =
    take_min (length bytes) total (drop at file) (omega (arith, ap length is, length-take total (drop at file))) ∙ sym is

-- a cell from its parts
pub read_head_is : (head : CellHead) (at : ℕ) (n : Needle) → head.at ≡ at → head_of_cell head ≡ head_of_needle n
    → head ≡ record { at = at; version = n.version; pair = n.pair; cookie = n.photo.cookie; size = length n.photo.bytes; deleted = n.deleted }
read_head_is head at n place same =
    let with : ℕ → Head → CellHead = λ k h. record { at = k; version = h.version; pair = h.pair; cookie = h.cookie; size = h.size; deleted = h.deleted } in
    ap (λ k. with k (head_of_cell head)) place ∙ ap (with at) same

-- a needle that begins where its head was read begins the bytes that were read on
pub in_bytes : (at was total : ℕ) (old out file : List ℕ) (head : Head) (n : Needle) → HeadBytes old head → total ≡ needle_total head.size → old ≡ take 36 (drop at file)
    → (old ≡ take was (drop at file) → out ≡ take total (drop at file)) → was ≡ length old → BeginsWithNeedle (drop at file) n → BeginsWithNeedle out n
in_bytes at was total old out file head n is totals front read long begins =
    let was_is : was ≡ 36 = long ∙ length-head old head is in
    let whole : out ≡ take total (drop at file) = read (front ∙ ap (λ k. take k (drop at file)) (sym was_is)) in
    let same : head ≡ head_of_needle n = one_head old head (head_of_needle n) is (subst (λ (l : List ℕ). HeadBytes l (head_of_needle n)) (sym front) (head_first (drop at file) n begins)) in
    let size : head.size ≡ length n.photo.bytes = ap (λ x. x.size) same in
    subst (λ (l : List ℕ). BeginsWithNeedle l n) (sym whole) (needle_in_front total (drop at file) n (omega (arith, ap needle_total size)) begins)

-- the bytes that were read on are the needle of this head, if they begin with one
pub is_needle_of : (was total : ℕ) (old out : List ℕ) (head : Head) (n : Needle) → HeadBytes old head → total ≡ needle_total head.size → take was out ≡ old → was ≡ length old → length out ≤ total
    → BeginsWithNeedle out n → NeedleBytes out n × (head ≡ head_of_needle n)
is_needle_of was total old out head n is totals keeps long short begins =
    let was_is : was ≡ 36 = long ∙ length-head old head is in
    let first : take 36 out ≡ old = ap (λ k. take k out) (sym was_is) ∙ keeps in
    let same : head ≡ head_of_needle n = one_head old head (head_of_needle n) is (subst (λ (l : List ℕ). HeadBytes l (head_of_needle n)) first (head_first out n begins)) in
    let size : head.size ≡ length n.photo.bytes = ap (λ x. x.size) same in
    (needle_alone out n (omega (arith, ap needle_total size)) begins, same)

-- the first 36 bytes are as many as there are
pub whole_front : (at was : ℕ) (old file : List ℕ) → was ≡ 36 → old ≡ take 36 (drop at file) → old ≡ take was (drop at file)
whole_front at was old file is front = front ∙ ap (λ k. take k (drop at file)) (sym is)

-- the cell of a head and a needle that were read
pub cell_of : (at : ℕ) (head : CellHead) (bytes : List ℕ) (n : Needle) → head.at ≡ at → NeedleBytes bytes n → head_of_cell head ≡ head_of_needle n
    → (cell : Cell) × IsCellAt at bytes cell × (head ≡ cell_head cell)
cell_of at head bytes n place is same =
    (record { at = at; version = n.version; pair = n.pair; cookie = n.photo.cookie; bytes = n.photo.bytes; deleted = n.deleted }, record { place = refl; is = is }, read_head_is head at n place same)

-- the head says its place, and the file is as it was
pub stands_here : (at : ℕ) (head : CellHead) (front bytes file later : List ℕ) → head.at ≡ at → later ≡ file → front ≡ take 36 (drop at file)
    → (front ≡ take 36 (drop head.at later) → HasBytesAt head.at bytes later) → HasBytesAt at bytes file
stands_here at head front bytes file later place same seen stands =
    let there : drop at file ≡ drop head.at later = rw (place, same) refl in
    ap (λ (l : List ℕ). take (length bytes) l) there ∙ stands (seen ∙ ap (λ (l : List ℕ). take 36 l) there)

pub none_here : (at : ℕ) (head : CellHead) (front file later : List ℕ) (n : Needle) → head.at ≡ at → later ≡ file → front ≡ take 36 (drop at file)
    → (front ≡ take 36 (drop head.at later) → (m : Needle) → BeginsWithNeedle (drop head.at later) m → ⊥) → BeginsWithNeedle (drop at file) n → ⊥
none_here at head front file later n place same seen none begins =
    let there : drop at file ≡ drop head.at later = rw (place, same) refl in
    none (seen ∙ ap (λ (l : List ℕ). take 36 l) there) n (subst (λ (l : List ℕ). BeginsWithNeedle l n) there begins)

-- a fault that was passed on
pub same_fault : {T : Type 0} (r : Result T CellFault) (passed fault : CellFault) (at here : ℕ) → r ≡ Err passed → passed ≡ fault → r ≡ Err (Damaged at) → here ≡ at → fault ≡ Damaged here
same_fault r passed fault at here is from damaged place = cc

-- bytes that begin with a needle of a photo of this size, and are no more, are a cell's
pub sized_cell : (at size total : ℕ) (bytes : List ℕ) (head : CellHead) (n : Needle) → total ≡ needle_total size → length bytes ≤ total → BeginsWithNeedle bytes n
    → head.at ≡ at → head_of_cell head ≡ head_of_needle n → head.size ≡ size → (cell : Cell) × IsCellAt at bytes cell × (head ≡ cell_head cell)
sized_cell at size total bytes head n totals short begins place same sized =
    let long : length n.photo.bytes ≡ size = sym (ap (λ (h : Head). h.size) same) ∙ sized in
    cell_of at head bytes n place (needle_alone bytes n (omega (arith, ap needle_total long)) begins) same

-- no bytes are the first none
pub nothing_yet : (k : ℕ) (bytes file : List ℕ) → k ≡ 0 → bytes ≡ [] → bytes ≡ take k file
nothing_yet k bytes file none empty = rw (none, empty) refl

-- and they begin with one where one stands
pub sized_begins : (at size total : ℕ) (bytes file : List ℕ) (n : Needle) → total ≡ needle_total size → bytes ≡ take total (drop at file) → length n.photo.bytes ≡ size
    → BeginsWithNeedle (drop at file) n → BeginsWithNeedle bytes n
sized_begins at size total bytes file n totals is sized begins =
    subst (λ (l : List ℕ). BeginsWithNeedle l n) (sym is) (needle_in_front total (drop at file) n (omega (arith, ap needle_total sized)) begins)
