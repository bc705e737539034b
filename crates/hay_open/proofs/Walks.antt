-- Where the record of a number stands in an index file: a walk from block to block.
use Rattle.std.proofs.Common.{◌≡◌, ℕ, suc, ◌+◌, ◌-◌, ◌*◌, ◌<◌, ◌≤◌, ◌^◌, min, max, List, [], ◌∷◌, ◌++◌, length, take, drop, refl, sym, ap, ◌∙◌, subst, arith, length-append}
use Rattle.std.proofs.Common.{length-drop, length-take, take-append-drop}
use Rattle.std.specs.Prelude.{All}
use Rattle.std.specs.List.{flat_map}
use Rattle.std.proofs.lemmas.List.{drop-take, drop_at}
use Rattle.byteorder.specs.Endian.{big_number}
use Rattle.byteorder.specs.Numbers.{big_number-reads_back}
use Rattle.hay_needle.specs.Fields.{number_at}
use Rattle.hay_disk.specs.Gate.{HasBytesAt}
use Rattle.hay_head.proofs.RowLaws.{stands_first, stands_second}
use Rattle.hay_index.specs.declared.record.Record.{Record}
use Rattle.hay_index.specs.Records.{BeginsWithBlock, HasRecords, IsBlock, IsIndex, block_bytes}
use Rattle.hay_index.proofs.BlockLaws.{block_long, length-block}
use Rattle.hay_index.proofs.ReadLaws.{no_blocks, one_more_block}
use Rattle.hay_index.proofs.Readings.{front_is}
use Rattle.hay_open.specs.Damage.{IsRecordAt}

-- how many records a block has that was read
pub block_counted : (at got : ℕ) (blank out file : List ℕ) (block : List Record) → length blank ≡ 16 → got ≡ min (length blank) (length file - at) → out ≡ take got (drop at file) ++ drop got blank
    → length file < 2 ^ 64 → BeginsWithBlock (drop at file) block → number_at 8 8 out ≡ length block
unfolding number_at
block_counted at got blank out file block long count bytes fits begins =
    let room = block_long (drop at file) block begins in
    let sixteen : got ≡ 16 = omega (arith, room, length-drop at file) in
    let small : length block < 2 ^ 64 = omega (arith, room, length-drop at file) in
    ap (λ (l : List ℕ). big_number 8 (drop 8 l)) (bytes ∙ ap (λ k. take k (drop at file) ++ drop k blank) sixteen ∙ ap (λ (l : List ℕ). take 16 l ++ drop 16 blank) begins.parts)
    ∙ big_number-reads_back 8 (length block) (drop 16 blank) small

pub counted_once : (n m : ℕ) (block : List Record) (bytes : List ℕ) → m ≡ max n 1 → n ≡ length block → BeginsWithBlock bytes block → m ≡ length block
counted_once n m block bytes is count begins = let some = begins.is.some in omega arith

join : List (List Record) → List Record
join blocks = flat_map (λ (block : List Record). block) blocks

-- The walk has come to `start`: behind the records of the blocks before, this number is still to go.
pub record IsWalked (superblock file : List ℕ) (records : List Record) (start left number : ℕ) : Type 0 where
  pub before : List Record
  pub rest : List (List Record)
  pub lead : HasRecords superblock file before start
  pub parts : length records ≡ length before + length (flat_map (λ (block : List Record). block) rest)
  pub whole : All IsBlock rest
  pub behind : HasBytesAt start (flat_map block_bytes rest) file
  pub number_is : number ≡ length before + left

pub walk_begins : (superblock file : List ℕ) (records : List Record) (end number : ℕ) → IsIndex superblock file records end → IsWalked superblock file records 64 number number
walk_begins superblock file records end number is =
    let bytes = flat_map block_bytes is.has.blocks in
    let front : take 64 file ≡ superblock = front_is superblock file records end is in
    let room : 64 ≤ length file = omega (arith, ap length front, length-take 64 file, is.has.sized) in
    let ends : 64 + length bytes ≡ end = omega (arith, is.has.ends, length-append superblock bytes, is.has.sized) in
    record {
      before = [];
      rest = is.has.blocks;
      lead = subst (λ (l : List ℕ). HasRecords l file [] 64) front (no_blocks file [] refl room);
      parts = omega (arith, ap length (sym is.has.are));
      whole = is.has.whole;
      behind =
          sym (drop-take 64 (length bytes) file) ∙ ap (λ n. drop 64 (take n file)) ends ∙ ap (λ (l : List ℕ). drop 64 l) is.has.begins ∙ drop_at superblock bytes 64 is.has.sized;
      number_is = omega arith;
    }

-- the block that stands where the walk has come to, and the others behind it
pub record NextBlock (file : List ℕ) (start : ℕ) (rest : List (List Record)) : Type 0 where
  pub block : List Record
  pub more : List (List Record)
  pub count : length (flat_map (λ (b : List Record). b) rest) ≡ length block + length (flat_map (λ (b : List Record). b) more)
  pub begins : BeginsWithBlock (drop start file) block
  pub whole : All IsBlock more
  pub behind : HasBytesAt (start + (16 + 32 * length block)) (flat_map block_bytes more) file

next_block : (file : List ℕ) (start : ℕ) (rest : List (List Record)) → 0 < length (flat_map (λ (b : List Record). b) rest) → All IsBlock rest
    → HasBytesAt start (flat_map block_bytes rest) file → NextBlock file start rest
next_block file start [] some whole behind = absurd (omega arith)
next_block file start (block ∷ more) some whole behind =
    let first = block_bytes block in
    let others = flat_map block_bytes more in
    let there : HasBytesAt start first file = stands_first start first others file behind in
    record {
      block = block;
      more = more;
      count = length-append block (flat_map (λ (b : List Record). b) more);
      begins = record {
        rest = drop (length first) (drop start file);
        parts = sym (take-append-drop (length first) (drop start file)) ∙ ap (λ (l : List ℕ). l ++ drop (length first) (drop start file)) there;
        is = whole 0 block (omega arith);
      };
      whole = λ k d within. whole (suc k) d (omega arith);
      behind = subst (λ n. HasBytesAt (start + n) others file) (length-block block) (stands_second start first others file behind);
    }

pub walk_block : (superblock file : List ℕ) (records : List Record) (start left number : ℕ) → number < length records → (w : IsWalked superblock file records start left number)
    → NextBlock file start w.rest
walk_block superblock file records start left number within w =
    next_block file start w.rest (omega (arith, w.parts, w.number_is)) w.whole w.behind

-- one block further
pub walk_on : (superblock file : List ℕ) (records : List Record) (start left number count first further next : ℕ) (w : IsWalked superblock file records start left number)
    (b : NextBlock file start w.rest)
    → length file < 2 ^ 64 → count ≡ length b.block → count ≤ left → first ≡ min (start + 16) 18446744073709551615 → further ≡ left - count
    → next ≡ min (first + min (count * 32) 18446744073709551615) 18446744073709551615
    → IsWalked superblock file records next further number
walk_on superblock file records start left number count first further next w b fits counts least first_is further_is next_is =
    let room = block_long (drop start file) b.block b.begins in
    let place : next ≡ start + (16 + 32 * length b.block) = omega (arith, room, length-drop start file, counts, first_is, next_is) in
    record {
      before = w.before ++ b.block;
      rest = b.more;
      lead = one_more_block superblock file w.before b.block (w.before ++ b.block) start next w.lead b.begins refl place;
      parts = omega (arith, w.parts, b.count, length-append w.before b.block);
      whole = b.whole;
      behind = subst (λ n. HasBytesAt n (flat_map block_bytes b.more) file) (sym place) b.behind;
      number_is = omega (arith, w.number_is, length-append w.before b.block, counts, further_is);
    }

-- the record stands in this block
pub walk_ends : (superblock file : List ℕ) (records : List Record) (start left number count first at : ℕ) (w : IsWalked superblock file records start left number) (b : NextBlock file start w.rest)
    → length file < 2 ^ 64 → count ≡ length b.block → left < count → first ≡ min (start + 16) 18446744073709551615 → at ≡ min (first + min (left * 32) 18446744073709551615) 18446744073709551615
    → IsRecordAt superblock file number at
walk_ends superblock file records start left number count first at w b fits counts below first_is at_is =
    let room = block_long (drop start file) b.block b.begins in
    record {
      before = w.before;
      start = start;
      block = b.block;
      step = left;
      lead = w.lead;
      stands = b.begins;
      number_is = w.number_is;
      within = omega (arith, counts);
      place = omega (arith, room, length-drop start file, counts, first_is, at_is);
    }
