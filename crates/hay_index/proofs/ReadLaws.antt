-- Blocks that are read one after another.
use Rattle.std.proofs.Common.{◌≡◌, ◌≢◌, inl, inr, ℕ, suc, Bool, true, false, ◌+◌, ◌-◌, ◌*◌, ◌<◌, ◌≤◌, List, [], ◌∷◌, ◌++◌, length, get_or, take, drop, refl, sym, ap, ◌∙◌, subst}
use Rattle.std.proofs.Common.{arith, append_assoc, append-nil, length-append, length-drop, take-append-drop, drop-cons, lit<, eqb}
use Rattle.std.specs.Prelude.{Option, Some, None, IfSome, IfNone, Result, Err}
use Rattle.std.specs.Bool.{OnTrue, OnFalse}
use Rattle.std.specs.List.{flat_map}
use Rattle.std.proofs.lemmas.Bool.{eqb-true, eq-eqb}
use Rattle.std.proofs.lemmas.List.{take_at, take_all, length-take-le, take_more}
use Rattle.std.proofs.lemmas.List.Elements.{All-nil}
use Rattle.std.proofs.Math.Seq.{take-add}
use Rattle.byteorder.specs.Endian.{big_bytes, big_number}
use Rattle.byteorder.specs.Numbers.{big_number-reads_back}
use Rattle.hay_needle.specs.Fields.{number_at}
use Rattle.hay_needle.proofs.FieldLemmas.{IsBytes, field_8}
use Rattle.hay_disk.specs.Gate.{IsClosed, magic_bytes}
use Rattle.hay_index.specs.declared.record.Record.{Record}
use Rattle.hay_index.specs.declared.fault.IndexFault.{IndexFault}
use Rattle.hay_index.specs.declared.fault.IndexFault.TheVariants.{Damaged}
use Rattle.hay_index.specs.Records.{AreInRow, place_behind, HasRecords, HasStray, IsBlock, IsBrokenBehind, BeginsWithBlock, block_bytes, index_magic}
use Rattle.hay_index.proofs.BlockLaws.{length-block, block_long}
use Rattle.hay_index.proofs.IndexLaws.{blocks_more, records_more, whole_more}
use Rattle.hay_index.proofs.RowLaws.{row_more}

-- THE MAGIC

magic_there : (at : ℕ) (bytes : List ℕ) → IsBytes bytes → at + 8 ≤ length bytes → number_at 8 at bytes ≡ index_magic → take 8 (drop at bytes) ≡ magic_bytes index_magic
magic_there at bytes fits long is =
    ap (λ (l : List ℕ). take 8 l) (field_8 at bytes long fits ∙ ap (λ n. big_bytes 8 n ++ drop (at + 8) bytes) is)

number_there : (at : ℕ) (bytes : List ℕ) → take 8 (drop at bytes) ≡ magic_bytes index_magic → number_at 8 at bytes ≡ index_magic
unfolding number_at
number_there at bytes is =
    ap (λ (l : List ℕ). big_number 8 l) (sym (take-append-drop 8 (drop at bytes)) ∙ ap (λ (l : List ℕ). l ++ drop 8 (drop at bytes)) is)
    ∙ big_number-reads_back 8 index_magic (drop 8 (drop at bytes)) (lit< tt)

pub magic_read : (at number : ℕ) (bytes : List ℕ) (b : Bool) → eqb number index_magic ≡ b → IsBytes bytes → at + 8 ≤ length bytes → number ≡ number_at 8 at bytes
    → OnTrue b (take 8 (drop at bytes) ≡ magic_bytes index_magic)
magic_read at number bytes true test fits long is = magic_there at bytes fits long (sym is ∙ eqb-true number index_magic test)
magic_read at number bytes false test fits long is = tt

pub mark_read : (at number : ℕ) (bytes : List ℕ) (b : Bool) → eqb number index_magic ≡ b → at + 8 ≤ length bytes → number ≡ number_at 8 at bytes → OnFalse b (IsClosed index_magic at bytes)
mark_read at number bytes true test long is = tt
mark_read at number bytes false test long is = record {
  room = long;
  shut = λ magic. let same : eqb number index_magic ≡ true = eq-eqb number index_magic (is ∙ number_there at bytes magic) in absurd cc;
}

pub on_true : (b : Bool) (P : Type 0) → b ≡ true → OnTrue b P → P
on_true true P e holds = holds
on_true false P e holds = absurd cc

pub on_false : (b : Bool) (P : Type 0) → b ≡ false → OnFalse b P → P
on_false false P e holds = holds
on_false true P e holds = absurd cc

-- what was found
pub found : {V : Type 0} (o : Option V) (v : V) (P : V → Type 0) → o ≡ Some v → IfSome o P → P v
found o v P is holds = subst (λ x. IfSome x P) is holds

pub none_found : {V : Type 0} (o : Option V) (P : Type 0) → o ≡ None → IfNone o P → P
none_found o P is holds = subst (λ x. IfNone x P) is holds

-- a fault that was passed on
pub same_fault : {T : Type 0} (r : Result T IndexFault) (passed fault : IndexFault) (at : ℕ) → r ≡ Err passed → passed ≡ fault → r ≡ Err (Damaged at) → fault ≡ Damaged at
same_fault r passed fault at is from damaged = cc

-- THE RECORDS OF A BLOCK

split_at : (block : List Record) (i : ℕ) (d : Record) → i < length block → block ≡ take i block ++ get_or block i d ∷ drop (i + 1) block
split_at block i d within =
    let next : suc i ≡ i + 1 = omega arith in
    sym (take-append-drop i block) ∙ ap (λ (l : List Record). take i block ++ l) (drop-cons block i d within ∙ ap (λ n. get_or block i d ∷ drop n block) next)

pub stray_here : (records now block : List Record) (i first at k due : ℕ) (d : Record) → i < length block → now ≡ records ++ take i block → AreInRow 64 now → at ≡ first + 32 * i → k ≡ at
    → (get_or block i d).at ≢ due → due ≡ place_behind 64 now → HasStray records block first k
stray_here records now block i first at k due d within noted row place here other next = record {
  before = take i block;
  stray = get_or block i d;
  after = drop (i + 1) block;
  parts = split_at block i d within;
  row = subst (λ (l : List Record). AreInRow 64 l) noted row;
  other = λ same. other (same ∙ ap (λ (l : List Record). place_behind 64 l) (sym noted) ∙ sym next);
  stands = omega (arith, length-take-le i block (omega arith));
}

pub added_more : (records now next block : List Record) (i : ℕ) (d : Record) → i < length block → now ≡ records ++ take i block → next ≡ now ++ get_or block i d ∷ []
    → next ≡ records ++ take (i + 1) block
added_more records now next block i d within noted pushed =
    pushed ∙ ap (λ (l : List Record). l ++ get_or block i d ∷ []) noted ∙ append_assoc records (take i block) (get_or block i d ∷ [])
    ∙ ap (λ (l : List Record). records ++ l) (sym (take_more block i d within))

pub row_added : (now next : List Record) (r : Record) (due : ℕ) → AreInRow 64 now → next ≡ now ++ r ∷ [] → r.at ≡ due → due ≡ place_behind 64 now → AreInRow 64 next
row_added now next r due row pushed at is = subst (λ (l : List Record). AreInRow 64 l) (sym pushed) (row_more 64 now r row (at ∙ is))

pub all_added : (records now block : List Record) (i : ℕ) → length block ≤ i → now ≡ records ++ take i block → now ≡ records ++ block
all_added records now block i all noted = noted ∙ ap (λ (l : List Record). records ++ l) (take_all i block all)

-- THE BLOCKS

pub no_blocks : (bytes : List ℕ) (records : List Record) → records ≡ [] → 64 ≤ length bytes → HasRecords (take 64 bytes) bytes records 64
no_blocks bytes records none long = record {
  blocks = [];
  sized = length-take-le 64 bytes long;
  begins = sym (append-nil (take 64 bytes));
  ends = ap length (append-nil (take 64 bytes)) ∙ length-take-le 64 bytes long;
  whole = All-nil IsBlock;
  are = sym none;
}

-- the bytes from a place on
pub all_behind : (at : ℕ) (bytes : List ℕ) → take (length bytes - at) (drop at bytes) ≡ drop at bytes
all_behind at bytes = take_all (length bytes - at) (drop at bytes) (omega (arith, length-drop at bytes))

pub block_there : (at : ℕ) (bytes piece : List ℕ) (block : List Record) → piece ≡ take (length bytes - at) (drop at bytes) → BeginsWithBlock piece block → BeginsWithBlock (drop at bytes) block
block_there at bytes piece block is begins = subst (λ (l : List ℕ). BeginsWithBlock l block) (is ∙ all_behind at bytes) begins

pub one_more_block : (superblock file : List ℕ) (records block next : List Record) (end further : ℕ) → HasRecords superblock file records end
    → BeginsWithBlock (drop end file) block → next ≡ records ++ block → further ≡ end + (16 + 32 * length block)
    → HasRecords superblock file next further
one_more_block superblock file records block next end further has begins added is =
    let blocks = has.blocks in
    let front : superblock ++ flat_map block_bytes (blocks ++ block ∷ []) ≡ (superblock ++ flat_map block_bytes blocks) ++ block_bytes block =
    ap (λ (l : List ℕ). superblock ++ l) (blocks_more blocks block) ∙ sym (append_assoc superblock (flat_map block_bytes blocks) (block_bytes block)) in
    let there : take (length (block_bytes block)) (drop end file) ≡ block_bytes block =
    ap (λ (l : List ℕ). take (length (block_bytes block)) l) begins.parts ∙ take_at (block_bytes block) begins.rest (length (block_bytes block)) refl in
    let long : further ≡ end + length (block_bytes block) = omega (arith, length-block block) in
    record {
      blocks = blocks ++ block ∷ [];
      sized = has.sized;
      begins =
          ap (λ n. take n file) long ∙ take-add end (length (block_bytes block)) file ∙ ap (λ (l : List ℕ). l ++ take (length (block_bytes block)) (drop end file)) has.begins
          ∙ ap (λ (l : List ℕ). (superblock ++ flat_map block_bytes blocks) ++ l) there ∙ sym front;
      ends = omega (arith, ap length front, length-append (superblock ++ flat_map block_bytes blocks) (block_bytes block), has.ends, long);
      whole = whole_more blocks block has.whole begins.is;
      are = records_more blocks block ∙ ap (λ (l : List Record). l ++ block) has.are ∙ sym added;
    }

pub block_within : (end further : ℕ) (file : List ℕ) (block : List Record) → BeginsWithBlock (drop end file) block → further ≡ end + (16 + 32 * length block) → further ≤ length file
block_within end further file block begins is = omega (arith, block_long (drop end file) block begins, length-drop end file)

-- DAMAGE

pub short_here : (superblock file : List ℕ) (records : List Record) (end k : ℕ) → HasRecords superblock file records end → AreInRow 64 records → k ≡ end → length file < end + 8
    → IsBrokenBehind superblock file k
short_here superblock file records end k lead row is short = record { records = records; at = end; lead = lead; row = row; broken = inl (inl short, is) }

pub broken_here : (superblock file piece : List ℕ) (records : List Record) (end k : ℕ) → HasRecords superblock file records end → AreInRow 64 records → k ≡ end
    → take 8 (drop end file) ≡ magic_bytes index_magic
    → piece ≡ take (length file - end) (drop end file) → ((block : List Record) → BeginsWithBlock piece block → ⊥) → IsBrokenBehind superblock file k
broken_here superblock file piece records end k lead row is magic seen none = record {
  records = records;
  at = end;
  lead = lead;
  row = row;
  broken = inl (inr (magic, λ block begins. none block (subst (λ (l : List ℕ). BeginsWithBlock l block) (sym (seen ∙ all_behind end file)) begins)), is);
}

pub stray_there : (superblock file : List ℕ) (records block : List Record) (end k : ℕ) → HasRecords superblock file records end → AreInRow 64 records
    → BeginsWithBlock (drop end file) block → HasStray records block (end + 16) k
    → IsBrokenBehind superblock file k
stray_there superblock file records block end k lead row begins stray = record {
  records = records;
  at = end;
  lead = lead;
  row = row;
  broken = inr (record { block = block; stands = begins; stray = stray });
}
