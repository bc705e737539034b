-- Blocks as bytes.
use Rattle.std.proofs.Common.{◌≡◌, ℕ, ◌+◌, ◌-◌, ◌*◌, ◌<◌, ◌≤◌, ◌^◌, List, ◌++◌, length, take, drop, sym, ap, ◌∙◌, arith, append_assoc, length-append, length-drop, take-append-drop}
use Rattle.std.specs.Prelude.{All, Result, Ok, Err, Option, Some, None, IfOk, IfSome, IfNone}
use Rattle.std.specs.List.{flat_map}
use Rattle.std.proofs.lemmas.List.{take_all, take_at}
use Rattle.byteorder.specs.Endian.{big_bytes, big_number}
use Rattle.byteorder.specs.Numbers.{big_number-reads_back}
use Rattle.hay_needle.specs.Fields.{number_at}
use Rattle.hay_needle.proofs.FieldLemmas.{IsBytes, field_8}
use Rattle.hay_disk.specs.Gate.{magic_bytes}
use Rattle.hay_index.specs.declared.record.Record.{Record}
use Rattle.hay_index.specs.Records.{record_bytes, RecordFits, BeginsWithBlock, block_rest, block_bytes, index_magic}
use Rattle.hay_index.proofs.RecordLaws.{length-records}

pub length-block : (records : List Record) → length (block_bytes records) ≡ 16 + 32 * length records
length-block records = omega (arith, length-append (magic_bytes index_magic) (block_rest records), length-append (big_bytes 8 (length records)) (flat_map record_bytes records), length-records records)

-- the records behind a magic and their number are a block
pub block_found : (bytes piece : List ℕ) (count : ℕ) (records : List Record) → IsBytes bytes → 16 ≤ length bytes → take 8 bytes ≡ magic_bytes index_magic → count ≡ number_at 8 8 bytes → 0 < count
    → piece ≡ take (32 * count) (drop 16 bytes) → piece ≡ flat_map record_bytes records → length records ≡ count → All RecordFits records → BeginsWithBlock bytes records
block_found bytes piece count records fits long magic counted some seen are many fit =
    let number : drop 8 bytes ≡ big_bytes 8 (length records) ++ drop 16 bytes = field_8 8 bytes (omega arith) fits ∙ ap (λ n. big_bytes 8 n ++ drop 16 bytes) (sym counted ∙ sym many) in
    let behind : drop 16 bytes ≡ flat_map record_bytes records ++ drop (32 * count) (drop 16 bytes) =
    sym (take-append-drop (32 * count) (drop 16 bytes)) ∙ ap (λ (l : List ℕ). l ++ drop (32 * count) (drop 16 bytes)) (sym seen ∙ are) in
    record {
      rest = drop (32 * count) (drop 16 bytes);
      parts =
          sym (take-append-drop 8 bytes) ∙ ap (λ (l : List ℕ). l ++ drop 8 bytes) magic ∙ ap (λ (l : List ℕ). magic_bytes index_magic ++ l)
          (number ∙ ap (λ (l : List ℕ). big_bytes 8 (length records) ++ l) behind ∙ sym (append_assoc (big_bytes 8 (length records)) (flat_map record_bytes records)
          (drop (32 * count) (drop 16 bytes))))
          ∙ sym (append_assoc (magic_bytes index_magic) (block_rest records) (drop (32 * count) (drop 16 bytes)));
      is = record { some = omega arith; fit = fit };
    }

-- the bytes behind the front
pub body_piece : (n : ℕ) (bytes : List ℕ) → take n (take (length bytes - 16) (drop 16 bytes)) ≡ take n (drop 16 bytes)
body_piece n bytes = ap (λ (l : List ℕ). take n l) (take_all (length bytes - 16) (drop 16 bytes) (omega (arith, length-drop 16 bytes)))

-- what a block's bytes say
pub block_long : (bytes : List ℕ) (records : List Record) → BeginsWithBlock bytes records → 16 + 32 * length records ≤ length bytes
block_long bytes records begins = omega (arith, ap length begins.parts, length-append (block_bytes records) begins.rest, length-block records)

pub block_count : (bytes : List ℕ) (records : List Record) → BeginsWithBlock bytes records → length bytes < 2 ^ 64 → number_at 8 8 bytes ≡ length records
unfolding number_at
block_count bytes records begins fits =
    let small : length records < 2 ^ 64 = omega (arith, block_long bytes records begins) in
    ap (λ (l : List ℕ). big_number 8 (drop 8 l)) begins.parts ∙ big_number-reads_back 8 (length records) (flat_map record_bytes records ++ begins.rest) small

pub block_records : (bytes : List ℕ) (records : List Record) → BeginsWithBlock bytes records → take (32 * length records) (drop 16 bytes) ≡ flat_map record_bytes records
block_records bytes records begins =
    let behind : drop 16 bytes ≡ flat_map record_bytes records ++ begins.rest = ap (λ (l : List ℕ). drop 16 l) begins.parts in
    ap (λ (l : List ℕ). take (32 * length records) l) behind ∙ take_at (flat_map record_bytes records) begins.rest (32 * length records) (length-records records)

-- where the piece is no records there is no block
pub no_block : (bytes piece : List ℕ) (count : ℕ) → length bytes < 2 ^ 64 → count ≡ number_at 8 8 bytes → piece ≡ take (32 * count) (drop 16 bytes)
    → ((records : List Record) → piece ≡ flat_map record_bytes records → ⊥) → (records : List Record) → BeginsWithBlock bytes records → ⊥
no_block bytes piece count fits counted seen none records begins =
    let same : count ≡ length records = counted ∙ block_count bytes records begins fits in
    none records (seen ∙ ap (λ n. take (32 * n) (drop 16 bytes)) same ∙ block_records bytes records begins)

-- facts on what was found
pub if_some : {V E : Type 0} (r : Result (Option V) E) (P Q R S : V → Type 0) → IfOk r (λ o. IfSome o P) → IfOk r (λ o. IfSome o Q) → IfOk r (λ o. IfSome o R)
    → ((v : V) → P v → Q v → R v → S v) → IfOk r (λ o. IfSome o S)
if_some (Ok (Some v)) P Q R S p q r f = f v p q r
if_some (Ok None) P Q R S p q r f = tt
if_some (Err e) P Q R S p q r f = tt

pub if_none : {V E : Type 0} (r : Result (Option V) E) (P Q : Type 0) → IfOk r (λ o. IfNone o P) → (P → Q) → IfOk r (λ o. IfNone o Q)
if_none (Ok (Some v)) P Q p f = tt
if_none (Ok None) P Q p f = f p
if_none (Err e) P Q p f = tt
