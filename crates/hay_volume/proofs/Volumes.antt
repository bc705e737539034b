-- One more cell in a volume file.
use Rattle.std.proofs.Common.{false, ◌≡◌, ◌⊎◌, inl, inr, ⊎_elim, ◌≤◌, ◌+◌, ◌-◌, ℕ, List, [], ◌∷◌, ◌++◌, length, take, drop, sym, ◌∙◌, ap, subst, refl, arith, length-append}
use Rattle.std.proofs.Common.{append_assoc, take-append-drop, lit<}
use Rattle.std.proofs.lemmas.List.{drop_at, length-take-le, take_at}
use Rattle.hay_needle.specs.declared.needle.Cell.{Cell}
use Rattle.hay_needle.specs.declared.needle.Cookie.{Cookie}
use Rattle.hay_needle.specs.declared.needle.Pair.{Pair}
use Rattle.hay_needle.specs.declared.needle.Needle.{Needle}
use Rattle.hay_needle.specs.Needle.{live, needle_magic, AppendsBehindMagic, NeedleBytes, head_bytes}
use Rattle.hay_needle.specs.Sizes.{needle_total}
use Rattle.hay_needle.proofs.Needles.{length-needle}
use Rattle.hay_disk.specs.Disk.{FileState, IsImage, IsSolid, IsSolidIn, Changes, overwrite}
use Rattle.hay_disk.specs.Gate.{magic_bytes, record_of, end_mark, EndsInMark, IsClosed, IsLog, IsGate, LogGrows, LogStays}
use Rattle.hay_disk.proofs.Logs.{log_kept, log_grows, not_mark}
use Rattle.hay_volume.specs.Cells.{IsVolume, IsMarked, StandsCell, live_cell}
use Rattle.hay_volume.proofs.CellLaws.{one_more, volume_log, log_volume, length-superblock}

-- what is written behind the magic: it ends in the end mark, and is as long as the needle
pub ends_in_mark : (pair : Pair) (cookie : Cookie) (photo body : List ℕ) → AppendsBehindMagic [] body (live pair cookie photo) → EndsInMark body
ends_in_mark pair cookie photo body made = (made.rest, made.grown)

pub length-body : (pair : Pair) (cookie : Cookie) (photo body : List ℕ) → AppendsBehindMagic [] body (live pair cookie photo) → length body ≡ needle_total (length photo)
length-body pair cookie photo body made =
    omega (
      arith,
      ap length made.grown,
      length-append made.rest end_mark,
      length-append (magic_bytes needle_magic) made.rest,
      length-needle (record_of needle_magic made.rest) (live pair cookie photo) made.is,
    )

-- the log with the record is the volume file with the cell
with_cell : (superblock file image : List ℕ) (cells : List Cell) (end : ℕ) (pair : Pair) (cookie : Cookie) (photo body : List ℕ) (made : AppendsBehindMagic [] body (live pair cookie photo))
    (is : IsVolume superblock file cells end) → IsLog needle_magic ((superblock ++ is.has.needles) ++ record_of needle_magic made.rest) image
    → IsVolume superblock image (cells ++ live_cell end pair cookie photo ∷ []) (end + needle_total (length photo))
with_cell superblock file image cells end pair cookie photo body made is log =
    let needles = is.has.needles in
    let needle = record_of needle_magic made.rest in
    let long : length needle ≡ needle_total (length photo) = length-needle needle (live pair cookie photo) made.is in
    log_volume superblock (needles ++ needle) image (cells ++ live_cell end pair cookie photo ∷ []) (end + needle_total (length photo))
    (length-superblock superblock file cells end is)
    (omega (arith, length-append needles needle, is.has.ends, long))
    (one_more 64 end needles needle cells (live_cell end pair cookie photo) is.has.are (sym is.has.ends) (record { place = refl; is = made.is }))
    (subst (λ (l : List ℕ). IsLog needle_magic l image) (append_assoc superblock needles needle) log)

front_length : (superblock file : List ℕ) (cells : List Cell) (end : ℕ) (is : IsVolume superblock file cells end) → length (superblock ++ is.has.needles) ≡ end
front_length superblock file cells end is = omega (arith, length-append superblock is.has.needles, is.has.ends, length-superblock superblock file cells end is)

pub volume_grows : (superblock old new : List ℕ) (cells : List Cell) (end need : ℕ) (pair : Pair) (cookie : Cookie) (photo body : List ℕ) → need ≡ needle_total (length photo)
    → AppendsBehindMagic [] body (live pair cookie photo) → LogGrows needle_magic end body old new → IsVolume superblock old cells end
    → IsVolume superblock new (cells ++ live_cell end pair cookie photo ∷ []) (end + need)
volume_grows superblock old new cells end need pair cookie photo body needs made grows is =
    subst (λ n. IsVolume superblock new (cells ++ live_cell end pair cookie photo ∷ []) (end + n)) (sym needs)
    (with_cell superblock old new cells end pair cookie photo body made is
    (grows.longer (superblock ++ is.has.needles) made.rest (front_length superblock old cells end is) made.grown (volume_log superblock old cells end is)))

-- the needle stands behind what the file had, whatever that is
pub appended_stands : (old new : List ℕ) (end : ℕ) (pair : Pair) (cookie : Cookie) (photo body : List ℕ) → AppendsBehindMagic [] body (live pair cookie photo) → LogGrows needle_magic end body old new
    → IsClosed needle_magic end old → StandsCell end new (live_cell end pair cookie photo)
appended_stands old new end pair cookie photo body made grows closed =
    let front : List ℕ = take end old in
    let room = closed.room in
    let long : length front ≡ end = length-take-le end old (omega (arith, room)) in
    let needle : List ℕ = record_of needle_magic made.rest in
    let log : IsLog needle_magic (front ++ needle) new =
    grows.longer front made.rest long made.grown (record { begins = ap (λ n. take n old) long; closed = subst (λ n. IsClosed needle_magic n old) (sym long) closed }) in
    let tail : List ℕ = drop (length (front ++ needle)) new in
    let whole : new ≡ front ++ (needle ++ tail) =
    sym (take-append-drop (length (front ++ needle)) new) ∙ ap (λ (l : List ℕ). l ++ tail) log.begins ∙ append_assoc front needle tail in
    record {
      needle = needle;
      is = record { place = refl; is = made.is };
      stand = ap (λ (l : List ℕ). take (length needle) (drop end l)) whole
          ∙ ap (λ (l : List ℕ). take (length needle) l) (drop_at front (needle ++ tail) end long) ∙ take_at needle tail (length needle) refl;
    }

-- the log without it is the volume file as it was
without_cell : (superblock file image : List ℕ) (cells : List Cell) (end : ℕ) (is : IsVolume superblock file cells end) → IsLog needle_magic (superblock ++ is.has.needles) image
    → IsVolume superblock image cells end
without_cell superblock file image cells end is log =
    log_volume superblock is.has.needles image cells end (length-superblock superblock file cells end is) is.has.ends is.has.are log

pub volume_stays : (superblock : List ℕ) (old new : FileState) (image : List ℕ) (cells : List Cell) (end : ℕ) (pair : Pair) (cookie : Cookie) (photo body : List ℕ)
    → AppendsBehindMagic [] body (live pair cookie photo)
    → LogStays needle_magic end body old new → IsVolume superblock old.now cells end → IsSolidIn 0 end old → IsImage new image
    → IsVolume superblock image cells end ⊎ IsVolume superblock image (cells ++ live_cell end pair cookie photo ∷ []) (end + needle_total (length photo))
volume_stays superblock old new image cells end pair cookie photo body made stays is solid leaves =
    ⊎_elim
    (λ log. inl (without_cell superblock old.now image cells end is log))
    (λ log. inr (with_cell superblock old.now image cells end pair cookie photo body made is log))
    (stays.image (superblock ++ is.has.needles) made.rest image (front_length superblock old.now cells end is) made.grown (volume_log superblock old.now cells end is) solid leaves)

-- where nothing was changed, a stop leaves the cells
pub volume_kept : (superblock : List ℕ) (file : FileState) (image : List ℕ) (cells : List Cell) (end : ℕ) → IsGate needle_magic end file → IsVolume superblock file.now cells end
    → IsSolidIn 0 end file → IsImage file image
    → IsVolume superblock image cells end
volume_kept superblock file image cells end gate is solid leaves =
    without_cell superblock file.now image cells end is
    (log_kept needle_magic end (superblock ++ is.has.needles) file image (front_length superblock file.now cells end is) (volume_log superblock file.now cells end is) solid gate.solid leaves)

-- what was written behind nothing
pub from_nothing : (pair : Pair) (cookie : Cookie) (photo before after body : List ℕ) → before ≡ [] → body ≡ after → AppendsBehindMagic before after (live pair cookie photo)
    → AppendsBehindMagic [] body (live pair cookie photo)
from_nothing pair cookie photo before after body void same made = rw (same, ← void) made

-- a range of as many places, and an end that is as far
pub as_many : (at n m : ℕ) (old new : FileState) → n ≡ m → Changes at n old new → Changes at m old new
as_many at n m old new same changes = subst (λ k. Changes at k old new) same changes

pub as_far : (end next : ℕ) (file : FileState) → end ≡ next → IsGate needle_magic end file → IsGate needle_magic next file
as_far end next file same gate = subst (λ k. IsGate needle_magic k file) same gate

-- A FILE WITHOUT CELLS

pub formatted : (superblock bytes old new : List ℕ) → length superblock ≡ 64 → bytes ≡ superblock ++ end_mark → new ≡ overwrite 0 bytes old → IsVolume superblock new [] 64
formatted superblock bytes old new long is written =
    let tail = drop (0 + length bytes) old in
    let whole : new ≡ superblock ++ (end_mark ++ tail) = written ∙ ap (λ (l : List ℕ). l ++ tail) is ∙ append_assoc superblock end_mark tail in
    let behind : drop 64 new ≡ end_mark ++ tail = ap (λ (l : List ℕ). drop 64 l) whole ∙ drop_at superblock (end_mark ++ tail) 64 long in
    let mark : take 8 (drop 64 new) ≡ end_mark = ap (λ (l : List ℕ). take 8 l) behind in
    record {
      begins = ap (λ (l : List ℕ). take 64 l) whole ∙ take_at superblock (end_mark ++ tail) 64 long;
      has = record { needles = []; are = refl; stand = refl; ends = refl };
      closed = record {
        room = omega (arith, ap length whole, length-append superblock (end_mark ++ tail), long);
        shut = λ magic. not_mark needle_magic (lit< tt) (lit< tt) (sym mark ∙ magic);
      };
    }

-- once such a file is on the disk, and no piece stands behind its end, a cell may be appended
pub volume_gate : (superblock : List ℕ) (cells : List Cell) (end : ℕ) (file : FileState) → IsVolume superblock file.now cells end → IsSolid file
    → ((k : ℕ) → end ≤ k → file.sealed k ≡ false) → IsGate needle_magic end file
volume_gate superblock cells end file is solid free = record { closed = is.closed; solid = λ k from to. solid.places k; free = free }

-- A NEEDLE THAT IS WRITTEN WHOLE

-- a needle is its magic and what stands behind it
magic_and_rest : (needle : List ℕ) (n : Needle) → NeedleBytes needle n → needle ≡ record_of needle_magic (drop 8 needle)
unfolding head_bytes
magic_and_rest needle n is =
    sym (take-append-drop 8 needle) ∙ ap (λ (l : List ℕ). l ++ drop 8 needle) (ap (λ (l : List ℕ). take 8 l) is.spelled)

pub length-marked : (bytes : List ℕ) (n : Needle) → IsMarked bytes n → length bytes ≡ needle_total (length n.photo.bytes) + 8
length-marked bytes n marked = omega (arith, ap length marked.parts, length-append marked.needle end_mark, length-needle marked.needle n marked.is)

pub needle_grows : (superblock bytes old new : List ℕ) (cells : List Cell) (end : ℕ) (pair : Pair) (cookie : Cookie) (photo : List ℕ) → IsMarked bytes (live pair cookie photo)
    → new ≡ overwrite end bytes old → IsVolume superblock old cells end
    → IsVolume superblock new (cells ++ live_cell end pair cookie photo ∷ []) (end + (length bytes - 8))
needle_grows superblock bytes old new cells end pair cookie photo marked written is =
    let needle : List ℕ = marked.needle in
    let rest : List ℕ = drop 8 needle in
    let split : needle ≡ record_of needle_magic rest = magic_and_rest needle (live pair cookie photo) marked.is in
    let whole : bytes ≡ record_of needle_magic (rest ++ end_mark) =
    marked.parts ∙ ap (λ (l : List ℕ). l ++ end_mark) split ∙ append_assoc (magic_bytes needle_magic) rest end_mark in
    let grows = log_grows needle_magic end (rest ++ end_mark) old new (lit< tt) (lit< tt) (written ∙ ap (λ (l : List ℕ). overwrite end l old) whole) in
    let log = grows.longer (superblock ++ is.has.needles) rest (front_length superblock old cells end is) refl (volume_log superblock old cells end is) in
    let longer : IsLog needle_magic ((superblock ++ is.has.needles) ++ needle) new = subst (λ (l : List ℕ). IsLog needle_magic ((superblock ++ is.has.needles) ++ l) new) (sym split) log in
    log_volume superblock (is.has.needles ++ needle) new (cells ++ live_cell end pair cookie photo ∷ []) (end + (length bytes - 8))
    (length-superblock superblock old cells end is)
    (omega (arith, length-append is.has.needles needle, is.has.ends, ap length marked.parts, length-append needle end_mark))
    (one_more 64 end is.has.needles needle cells (live_cell end pair cookie photo) is.has.are (sym is.has.ends) (record { place = refl; is = marked.is }))
    (subst (λ (l : List ℕ). IsLog needle_magic l new) (append_assoc superblock is.has.needles needle) longer)
