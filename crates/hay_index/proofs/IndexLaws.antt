-- One more block in an index file.
use Rattle.std.proofs.Common.{◌≡◌, ◌⊎◌, inl, inr, ⊎_elim, ℕ, Bool, true, false, ◌+◌, ◌*◌, ◌<◌, ◌≤◌, List, [], ◌∷◌, ◌++◌, length, take, drop, refl, sym, ap, ◌∙◌, subst, arith}
use Rattle.std.proofs.Common.{append_assoc, append-nil, length-append, lit<}
use Rattle.std.specs.Prelude.{All, IsTrue, ◌↔◌}
use Rattle.std.specs.List.{flat_map}
use Rattle.std.proofs.lemmas.List.{take_at, drop_at, length-take-le}
use Rattle.std.proofs.lemmas.List.Elements.{All-append, All-cons, All-nil}
use Rattle.std.proofs.lemmas.Grind.{flat_map-append}
use Rattle.hay_disk.specs.Disk.{FileState, IsImage, IsSolid, IsSolidIn, Changes, overwrite}
use Rattle.hay_disk.specs.Gate.{magic_bytes, record_of, end_mark, EndsInMark, IsLog, IsClosed, IsGate, LogGrows, LogStays}
use Rattle.hay_disk.proofs.Logs.{log_kept, log_grows, not_mark}
use Rattle.hay_index.specs.declared.record.Record.{Record}
use Rattle.hay_index.specs.Records.{IsBlock, IsIndex, AreInRow, block_bytes, block_rest, index_magic}
use Rattle.hay_index.proofs.BlockLaws.{length-block}

-- an index file is a log, and the other way round

pub index_log : (superblock file : List ℕ) (records : List Record) (end : ℕ) (is : IsIndex superblock file records end) → IsLog index_magic (superblock ++ flat_map block_bytes is.has.blocks) file
index_log superblock file records end is = record {
  begins = ap (λ n. take n file) is.has.ends ∙ is.has.begins;
  closed = subst (λ n. IsClosed index_magic n file) (sym is.has.ends) is.closed;
}

pub log_index : (superblock file : List ℕ) (records : List Record) (blocks : List (List Record)) (end : ℕ) → length superblock ≡ 64 → All IsBlock blocks
    → flat_map (λ block. block) blocks ≡ records → AreInRow 64 records
    → length (superblock ++ flat_map block_bytes blocks) ≡ end → IsLog index_magic (superblock ++ flat_map block_bytes blocks) file → IsIndex superblock file records end
log_index superblock file records blocks end sized whole are row ends log = record {
  has = record { blocks = blocks; sized = sized; begins = ap (λ n. take n file) (sym ends) ∙ log.begins; ends = ends; whole = whole; are = are };
  row = row;
  closed = subst (λ n. IsClosed index_magic n file) ends log.closed;
}

-- one block more

pub blocks_more : (blocks : List (List Record)) (block : List Record) → flat_map block_bytes (blocks ++ block ∷ []) ≡ flat_map block_bytes blocks ++ block_bytes block
blocks_more blocks block = flat_map-append block_bytes blocks (block ∷ []) ∙ ap (λ (l : List ℕ). flat_map block_bytes blocks ++ l) (append-nil (block_bytes block))

pub records_more : (blocks : List (List Record)) (block : List Record) → flat_map (λ (b : List Record). b) (blocks ++ block ∷ []) ≡ flat_map (λ (b : List Record). b) blocks ++ block
records_more blocks block = flat_map-append (λ (b : List Record). b) blocks (block ∷ []) ∙ ap (λ (l : List Record). flat_map (λ (b : List Record). b) blocks ++ l) (append-nil block)

pub whole_more : (blocks : List (List Record)) (block : List Record) → All IsBlock blocks → IsBlock block → All IsBlock (blocks ++ block ∷ [])
whole_more blocks block all one = All-append IsBlock blocks (block ∷ []) all (All-cons IsBlock block [] one (All-nil IsBlock))

with_block : (superblock file image : List ℕ) (records block : List Record) (end : ℕ) (is : IsIndex superblock file records end) → IsBlock block → AreInRow 64 (records ++ block)
    → IsLog index_magic ((superblock ++ flat_map block_bytes is.has.blocks) ++ record_of index_magic (block_rest block)) image
    → IsIndex superblock image (records ++ block) (end + 16 + 32 * length block)
with_block superblock file image records block end is one row log =
    let blocks = is.has.blocks in
    let front : (superblock ++ flat_map block_bytes blocks) ++ block_bytes block ≡ superblock ++ flat_map block_bytes (blocks ++ block ∷ []) =
    append_assoc superblock (flat_map block_bytes blocks) (block_bytes block) ∙ ap (λ (l : List ℕ). superblock ++ l) (sym (blocks_more blocks block)) in
    log_index superblock image (records ++ block) (blocks ++ block ∷ []) (end + 16 + 32 * length block) is.has.sized (whole_more blocks block is.has.whole one)
    (records_more blocks block ∙ ap (λ (l : List Record). l ++ block) is.has.are) row
    (omega (arith, ap length front, length-append (superblock ++ flat_map block_bytes blocks) (block_bytes block), length-block block, is.has.ends))
    (subst (λ (l : List ℕ). IsLog index_magic l image) front log)

pub index_grows : (superblock old new body : List ℕ) (records block : List Record) (end next : ℕ) → body ≡ block_rest block ++ end_mark → next ≡ end + 16 + 32 * length block
    → IsBlock block → LogGrows index_magic end body old new
    → IsIndex superblock old records end → AreInRow 64 (records ++ block) → IsIndex superblock new (records ++ block) next
index_grows superblock old new body records block end next made further one grows is row =
    subst (λ n. IsIndex superblock new (records ++ block) n) (sym further)
    (with_block superblock old new records block end is one row
    (grows.longer (superblock ++ flat_map block_bytes is.has.blocks) (block_rest block) is.has.ends made (index_log superblock old records end is)))

without_block : (superblock file image : List ℕ) (records : List Record) (end : ℕ) (is : IsIndex superblock file records end)
    → IsLog index_magic (superblock ++ flat_map block_bytes is.has.blocks) image → IsIndex superblock image records end
without_block superblock file image records end is log =
    log_index superblock image records is.has.blocks end is.has.sized is.has.whole is.has.are is.row is.has.ends log

pub index_stays : (superblock : List ℕ) (old new : FileState) (image body : List ℕ) (records block : List Record) (end : ℕ) → body ≡ block_rest block ++ end_mark → IsBlock block
    → LogStays index_magic end body old new
    → IsIndex superblock old.now records end → AreInRow 64 (records ++ block) → IsSolidIn 0 end old → IsImage new image
    → IsIndex superblock image records end ⊎ IsIndex superblock image (records ++ block) (end + 16 + 32 * length block)
index_stays superblock old new image body records block end made one stays is row solid leaves =
    ⊎_elim
    (λ log. inl (without_block superblock old.now image records end is log))
    (λ log. inr (with_block superblock old.now image records block end is one row log))
    (stays.image (superblock ++ flat_map block_bytes is.has.blocks) (block_rest block) image is.has.ends made (index_log superblock old.now records end is) solid leaves)

-- where nothing was changed, a stop leaves the records
pub index_kept : (superblock : List ℕ) (file : FileState) (image : List ℕ) (records : List Record) (end : ℕ) → IsGate index_magic end file → IsIndex superblock file.now records end
    → IsSolidIn 0 end file → IsImage file image
    → IsIndex superblock image records end
index_kept superblock file image records end gate is solid leaves =
    without_block superblock file.now image records end is
    (log_kept index_magic end (superblock ++ flat_map block_bytes is.has.blocks) file image is.has.ends (index_log superblock file.now records end is) solid gate.solid leaves)

pub index_formatted : (superblock bytes old new : List ℕ) → length superblock ≡ 64 → bytes ≡ superblock ++ end_mark → new ≡ overwrite 0 bytes old → IsIndex superblock new [] 64
index_formatted superblock bytes old new long is written =
    let tail = drop (0 + length bytes) old in
    let whole : new ≡ superblock ++ (end_mark ++ tail) = written ∙ ap (λ (l : List ℕ). l ++ tail) is ∙ append_assoc superblock end_mark tail in
    let behind : drop 64 new ≡ end_mark ++ tail = ap (λ (l : List ℕ). drop 64 l) whole ∙ drop_at superblock (end_mark ++ tail) 64 long in
    let mark : take 8 (drop 64 new) ≡ end_mark = ap (λ (l : List ℕ). take 8 l) behind in
    record {
      has = record {
        blocks = [];
        sized = long;
        begins = ap (λ (l : List ℕ). take 64 l) whole ∙ take_at superblock (end_mark ++ tail) 64 long ∙ sym (append-nil superblock);
        ends = ap length (append-nil superblock) ∙ long;
        whole = All-nil IsBlock;
        are = refl;
      };
      row = tt;
      closed = record {
        room = omega (arith, ap length whole, length-append superblock (end_mark ++ tail), long);
        shut = λ magic. not_mark index_magic (lit< tt) (lit< tt) (sym mark ∙ magic);
      };
    }

-- what is written behind the magic
pub ends_in_mark : (block : List Record) (body : List ℕ) → body ≡ block_rest block ++ end_mark → EndsInMark body
ends_in_mark block body made = (block_rest block, made)

pub length-body : (block : List Record) (body : List ℕ) → body ≡ block_rest block ++ end_mark → length body ≡ 16 + 32 * length block
length-body block body made = omega (arith, ap length made, length-append (block_rest block) end_mark, length-block block)

-- a list that is not empty
pub some_there : (b : Bool) (block : List Record) → b ≡ false → (IsTrue b ↔ (block ≡ [])) → 0 < length block
some_there b [] is none = let holds : b ≡ true = none.1 refl in absurd cc
some_there b (r ∷ block) is none = omega arith

pub as_many : (at n m : ℕ) (old new : FileState) → n ≡ m → Changes at n old new → Changes at m old new
as_many at n m old new same changes = subst (λ k. Changes at k old new) same changes

pub as_far : (end next : ℕ) (file : FileState) → end ≡ next → IsGate index_magic end file → IsGate index_magic next file
as_far end next file same gate = subst (λ k. IsGate index_magic k file) same gate

-- once such a file is on the disk, and no piece stands behind its end, a block may be appended
pub index_gate : (superblock : List ℕ) (records : List Record) (end : ℕ) (file : FileState) → IsIndex superblock file.now records end → IsSolid file
    → ((k : ℕ) → end ≤ k → file.sealed k ≡ false) → IsGate index_magic end file
index_gate superblock records end file is solid free = record { closed = is.closed; solid = λ k from to. solid.places k; free = free }

-- a block that was written whole
pub length-whole : (block : List Record) (bytes : List ℕ) → bytes ≡ record_of index_magic (block_rest block ++ end_mark) → length bytes ≡ 24 + 32 * length block
length-whole block bytes made =
    omega (
      arith,
      ap length made,
      length-append (block_bytes block) end_mark,
      length-append (magic_bytes index_magic) (block_rest block ++ end_mark),
      length-append (block_rest block) end_mark,
      length-append (magic_bytes index_magic) (block_rest block),
      length-block block,
    )

pub whole_grows : (end : ℕ) (bytes old new : List ℕ) (block : List Record) → bytes ≡ record_of index_magic (block_rest block ++ end_mark) → new ≡ overwrite end bytes old
    → LogGrows index_magic end (block_rest block ++ end_mark) old new
whole_grows end bytes old new block made written = log_grows index_magic end (block_rest block ++ end_mark) old new (lit< tt) (lit< tt) (written ∙ ap (λ (l : List ℕ). overwrite end l old) made)

pub written_long : (end : ℕ) (bytes old new : List ℕ) → end ≤ length old → new ≡ overwrite end bytes old → end + length bytes ≤ length new
written_long end bytes old new inside written =
    omega (
      arith,
      ap length written,
      length-append (take end old ++ bytes) (drop (end + length bytes) old),
      length-append (take end old) bytes,
      length-take-le end old inside,
      length-append (take end old) (bytes ++ drop (end + length bytes) old),
      length-append bytes (drop (end + length bytes) old),
    )
