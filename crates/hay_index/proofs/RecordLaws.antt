-- Records as bytes.
use Rattle.std.proofs.Common.{◌≡◌, ℕ, zero, suc, ◌+◌, ◌*◌, ◌<◌, List, [], ◌∷◌, ◌++◌, length, get_or, take, drop, ◌-◌, refl, sym, ap, ◌∙◌, subst, arith, append-nil, length-append}
use Rattle.std.specs.Prelude.{All}
use Rattle.std.specs.List.{flat_map}
use Rattle.std.proofs.lemmas.List.{take_more, flat_map_more, drop_all, take_at, drop_at, drop-drop}
use Rattle.std.proofs.lemmas.List.Elements.{All-append, All-cons, All-nil}
use Rattle.std.proofs.lemmas.Grind.{flat_map-append}
use Rattle.std.proofs.Math.Seq.{take-add}
use Rattle.byteorder.specs.Endian.{big_bytes}
use Rattle.hay_needle.specs.Fields.{number_at}
use Rattle.hay_needle.proofs.FieldLemmas.{IsBytes, field_4, field_8}
use Rattle.hay_index.specs.declared.record.Record.{Record}
use Rattle.hay_index.specs.Records.{record_bytes, RecordFits}

-- what the fields of 32 bytes say
abbrev pub record_at : List ℕ → Record
record_at bytes = record { pair = record { key = number_at 8 0 bytes; alt = number_at 4 8 bytes }; at = number_at 8 16 bytes; size = number_at 4 24 bytes }

-- bytes whose zero fields are zero are a record
pub record_found : (bytes : List ℕ) → IsBytes bytes → length bytes ≡ 32 → number_at 4 12 bytes ≡ 0 → number_at 4 28 bytes ≡ 0 → bytes ≡ record_bytes (record_at bytes)
unfolding record_bytes
record_found bytes fits long first last =
    let key : bytes ≡ big_bytes 8 (number_at 8 0 bytes) ++ drop 8 bytes = field_8 0 bytes (omega arith) fits in
    let alt : drop 8 bytes ≡ big_bytes 4 (number_at 4 8 bytes) ++ drop 12 bytes = field_4 8 bytes (omega arith) fits in
    let zero : drop 12 bytes ≡ big_bytes 4 0 ++ drop 16 bytes = field_4 12 bytes (omega arith) fits ∙ ap (λ n. big_bytes 4 n ++ drop 16 bytes) first in
    let at : drop 16 bytes ≡ big_bytes 8 (number_at 8 16 bytes) ++ drop 24 bytes = field_8 16 bytes (omega arith) fits in
    let size : drop 24 bytes ≡ big_bytes 4 (number_at 4 24 bytes) ++ drop 28 bytes = field_4 24 bytes (omega arith) fits in
    let end : drop 28 bytes ≡ big_bytes 4 0 =
    field_4 28 bytes (omega arith) fits ∙ ap (λ n. big_bytes 4 n ++ drop 32 bytes) last ∙ ap (λ (l : List ℕ). big_bytes 4 0 ++ l) (drop_all 32 bytes (omega arith)) ∙ append-nil (big_bytes 4 0) in
    key ∙ ap (λ (x : List ℕ). big_bytes 8 (number_at 8 0 bytes) ++ x) (alt
    ∙ ap (λ (x : List ℕ). big_bytes 4 (number_at 4 8 bytes) ++ x) (zero
    ∙ ap (λ (x : List ℕ). big_bytes 4 0 ++ x) (at
    ∙ ap (λ (x : List ℕ). big_bytes 8 (number_at 8 16 bytes) ++ x) (size
    ∙ ap (λ (x : List ℕ). big_bytes 4 (number_at 4 24 bytes) ++ x) end))))

-- the zero fields of a record
pub zero_12 : (r : Record) → number_at 4 12 (record_bytes r) ≡ 0
unfolding record_bytes number_at
zero_12 r = refl

pub zero_28 : (r : Record) → number_at 4 28 (record_bytes r) ≡ 0
unfolding record_bytes number_at
zero_28 r = refl

pub length-record : (r : Record) → length (record_bytes r) ≡ 32
unfolding record_bytes
length-record r = refl

pub length-records : (records : List Record) → length (flat_map record_bytes records) ≡ 32 * length records
length-records [] = refl
length-records (r ∷ records) = omega (arith, length-append (record_bytes r) (flat_map record_bytes records), length-record r, length-records records)

-- one record more
pub one_more : (records : List Record) (r : Record) → flat_map record_bytes (records ++ r ∷ []) ≡ flat_map record_bytes records ++ record_bytes r
one_more records r = flat_map-append record_bytes records (r ∷ []) ∙ ap (λ (l : List ℕ). flat_map record_bytes records ++ l) (append-nil (record_bytes r))

pub fit_one_more : (records : List Record) (r : Record) → All RecordFits records → RecordFits r → All RecordFits (records ++ r ∷ [])
fit_one_more records r all one = All-append RecordFits records (r ∷ []) all (All-cons RecordFits r [] one (All-nil RecordFits))

-- the bytes of the record of a number
pub record_there : (i : ℕ) (records : List Record) → i < length records → (r : Record) × (take 32 (drop (32 * i) (flat_map record_bytes records)) ≡ record_bytes r)
record_there i [] within = absurd (omega arith)
record_there zero (r ∷ records) within = (r, take_at (record_bytes r) (flat_map record_bytes records) 32 (length-record r))
record_there (suc i) (r ∷ records) within =
    let rest = record_there i records (omega arith) in
    let behind : drop (32 * suc i) (record_bytes r ++ flat_map record_bytes records) ≡ drop (32 * i) (flat_map record_bytes records) =
    ap (λ n. drop n (record_bytes r ++ flat_map record_bytes records)) (omega arith)
    ∙ sym (drop-drop (32 * i) 32 (record_bytes r ++ flat_map record_bytes records))
    ∙ ap (λ (l : List ℕ). drop (32 * i) l) (drop_at (record_bytes r) (flat_map record_bytes records) 32 (length-record r)) in
    (rest.0, ap (λ (l : List ℕ). take 32 l) behind ∙ rest.1)

-- where no record stands at a number, the bytes are no records
pub no_records : (i count : ℕ) (bytes piece : List ℕ) (records : List Record) → i < count → length bytes ≡ 32 * count → piece ≡ take (32 * i + 32 - 32 * i) (drop (32 * i) bytes)
    → ((r : Record) → piece ≡ record_bytes r → ⊥) → bytes ≡ flat_map record_bytes records → ⊥
no_records i count bytes piece records within long seen none are =
    let there = record_there i records (omega (arith, long, ap length are, length-records records)) in
    let n : 32 * i + 32 - 32 * i ≡ 32 = omega arith in
    none there.0 (seen ∙ ap (λ k. take k (drop (32 * i) bytes)) n ∙ ap (λ (l : List ℕ). take 32 (drop (32 * i) l)) are ∙ there.1)

-- the record of these numbers
pub same_record : (bytes : List ℕ) (key alt at size : ℕ) → key ≡ number_at 8 0 bytes → alt ≡ number_at 4 8 bytes → at ≡ number_at 8 16 bytes → size ≡ number_at 4 24 bytes
    → record_bytes (record_at bytes) ≡ record_bytes (record { pair = record { key = key; alt = alt }; at = at; size = size })
same_record bytes key alt at size k a p s = rw (k, a, p, s) refl

-- one record more in a row
pub encode_more : (records : List Record) (i : ℕ) (d : Record) (front body more piece : List ℕ) → i < length records → piece ≡ record_bytes (get_or records i d)
    → body ≡ front ++ flat_map record_bytes (take i records) → more ≡ body ++ piece → more ≡ front ++ flat_map record_bytes (take (i + 1) records)
encode_more records i d front body more piece within is before after =
    after ∙ ap (λ (l : List ℕ). l ++ piece) before ∙ ap (λ (l : List ℕ). (front ++ flat_map record_bytes (take i records)) ++ l) is
    ∙ flat_map_more record_bytes front (take i records) (get_or records i d)
    ∙ ap (λ (l : List Record). front ++ flat_map record_bytes l) (sym (take_more records i d within))

pub fit_more : (records : List Record) (i : ℕ) (d : Record) → i < length records → All RecordFits (take i records) → RecordFits (get_or records i d) → All RecordFits (take (i + 1) records)
fit_more records i d within before one =
    subst (λ (l : List Record). All RecordFits l) (sym (take_more records i d within)) (fit_one_more (take i records) (get_or records i d) before one)

-- one record more of those that bytes are
pub read_more : (i : ℕ) (bytes piece : List ℕ) (before after : List Record) (r : Record) → piece ≡ take (32 * i + 32 - 32 * i) (drop (32 * i) bytes) → piece ≡ record_bytes r
    → take (32 * i) bytes ≡ flat_map record_bytes before → after ≡ before ++ r ∷ [] → take (32 * (i + 1)) bytes ≡ flat_map record_bytes after
read_more i bytes piece before after r seen is front next =
    let n : 32 * i + 32 - 32 * i ≡ 32 = omega arith in
    let m : 32 * (i + 1) ≡ 32 * i + 32 = omega arith in
    ap (λ k. take k bytes) m ∙ take-add (32 * i) 32 bytes
    ∙ ap (λ (l : List ℕ). l ++ take 32 (drop (32 * i) bytes)) front
    ∙ ap (λ (l : List ℕ). flat_map record_bytes before ++ l) (ap (λ k. take k (drop (32 * i) bytes)) (sym n) ∙ sym seen ∙ is)
    ∙ sym (one_more before r) ∙ ap (λ (l : List Record). flat_map record_bytes l) (sym next)
