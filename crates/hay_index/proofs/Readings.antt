-- A file has one reading: the blocks from a place on, and either their end or a damage.
use Rattle.std.proofs.Common.{◌≡◌, ◌⊎◌, inl, inr, ℕ, suc, ◌+◌, ◌*◌, ◌<◌, ◌≤◌, ◌^◌, List, [], ◌∷◌, ◌++◌, length, take, drop, refl, sym, ap, ◌∙◌, subst, arith, append_assoc}
use Rattle.std.proofs.Common.{length-append, length-drop, take-append-drop}
use Rattle.std.specs.Prelude.{All, Result, Ok, Err, IfOk, OnOk}
use Rattle.std.specs.List.{flat_map}
use Rattle.std.proofs.lemmas.List.{take_at, drop_at, take-take, drop-take, drop-drop}
use Rattle.std.proofs.lemmas.Grind.{flat_map-append}
use Rattle.byteorder.specs.Numbers.{big_number-reads_back}
use Rattle.hay_needle.specs.Fields.{number_at}
use Rattle.hay_needle.specs.Sizes.{needle_total}
use Rattle.hay_disk.specs.Gate.{IsClosed, HasBytesAt}
use Rattle.hay_index.specs.declared.record.Record.{Record}
use Rattle.hay_index.specs.Records.{AreInRow, place_behind, HasRecords, IsBlock, IsBrokenAt, IsBrokenBehind, IsIndex, IsStrayAt, BeginsWithBlock, RecordFits, block_bytes, index_magic, record_bytes}
use Rattle.hay_index.proofs.RecordLaws.{record_at, length-record}
use Rattle.hay_index.proofs.BlockLaws.{block_long, block_count, block_records}

-- EACH RECORD HAS ITS BYTES

all_first : {X : Type 0} (P : X → Type 0) (x : X) (xs : List X) → All P (x ∷ xs) → P x
all_first P x xs all = all 0 x (omega arith)

all_rest : {X : Type 0} (P : X → Type 0) (x : X) (xs : List X) → All P (x ∷ xs) → All P xs
all_rest P x xs all = λ k d within. all (suc k) d (omega arith)

record_back : (r : Record) (rest : List ℕ) → RecordFits r → record_at (record_bytes r ++ rest) ≡ r
unfolding record_bytes number_at
record_back r rest fits =
    let key = big_number-reads_back 8 r.pair.key [] fits.key in
    let alt = big_number-reads_back 4 r.pair.alt [] fits.alt in
    let at = big_number-reads_back 8 r.at [] fits.at in
    let size = big_number-reads_back 4 r.size [] fits.size in
    rw (key, alt, at, size) refl

one_records : (records more : List Record) → length records ≡ length more → All RecordFits records → All RecordFits more → flat_map record_bytes records ≡ flat_map record_bytes more → records ≡ more
one_records [] [] long fit fits same = refl
one_records [] (s ∷ more) long fit fits same = absurd (omega (arith, long))
one_records (r ∷ records) [] long fit fits same = absurd (omega (arith, long))
one_records (r ∷ records) (s ∷ more) long fit fits same =
    let first : r ≡ s =
    sym (record_back r (flat_map record_bytes records) (all_first RecordFits r records fit)) ∙ ap record_at same ∙ record_back s (flat_map record_bytes more) (all_first RecordFits s more fits) in
    let rest : flat_map record_bytes records ≡ flat_map record_bytes more =
    sym (drop_at (record_bytes r) (flat_map record_bytes records) 32 (length-record r)) ∙ ap (λ (l : List ℕ). drop 32 l) same
    ∙ drop_at (record_bytes s) (flat_map record_bytes more) 32 (length-record s) in
    ap (λ x. x ∷ records) first ∙ ap (λ (l : List Record). s ∷ l) (one_records records more (omega (arith, long)) (all_rest RecordFits r records fit) (all_rest RecordFits s more fits) rest)

-- and so has each block
pub one_block : (bytes : List ℕ) (block other : List Record) → length bytes < 2 ^ 64 → BeginsWithBlock bytes block → BeginsWithBlock bytes other → block ≡ other
one_block bytes block other fits begins again =
    let long : length block ≡ length other = sym (block_count bytes block begins fits) ∙ block_count bytes other again fits in
    one_records block other long begins.is.fit again.is.fit
    (sym (block_records bytes block begins) ∙ ap (λ n. take (32 * n) (drop 16 bytes)) long ∙ block_records bytes other again)

-- BLOCKS FROM A PLACE ON

pub record LeadsFrom (at : ℕ) (file : List ℕ) (blocks : List (List Record)) (end : ℕ) : Type 0 where
  pub stand : HasBytesAt at (flat_map block_bytes blocks) file
  pub ends : at + length (flat_map block_bytes blocks) ≡ end
  pub whole : All IsBlock blocks

pub all_lead : (superblock file : List ℕ) (records : List Record) (end : ℕ) (has : HasRecords superblock file records end) → LeadsFrom 64 file has.blocks end
all_lead superblock file records end has =
    let bytes = flat_map block_bytes has.blocks in
    let ends : 64 + length bytes ≡ end = omega (arith, has.ends, length-append superblock bytes, has.sized) in
    let stand : take (length bytes) (drop 64 file) ≡ bytes =
    sym (drop-take 64 (length bytes) file) ∙ ap (λ n. drop 64 (take n file)) ends ∙ ap (λ (l : List ℕ). drop 64 l) has.begins ∙ drop_at superblock bytes 64 has.sized in
    record { stand = stand; ends = ends; whole = has.whole }

pub first_begins : (at end : ℕ) (file : List ℕ) (block : List Record) (blocks : List (List Record)) → LeadsFrom at file (block ∷ blocks) end → BeginsWithBlock (drop at file) block
first_begins at end file block blocks leads =
    let bytes = flat_map block_bytes (block ∷ blocks) in
    record {
      rest = flat_map block_bytes blocks ++ drop (length bytes) (drop at file);
      parts =
          sym (take-append-drop (length bytes) (drop at file)) ∙ ap (λ (l : List ℕ). l ++ drop (length bytes) (drop at file)) leads.stand
          ∙ append_assoc (block_bytes block) (flat_map block_bytes blocks) (drop (length bytes) (drop at file));
      is = all_first IsBlock block blocks leads.whole;
    }

pub others_lead : (at end : ℕ) (file : List ℕ) (block : List Record) (blocks : List (List Record)) → LeadsFrom at file (block ∷ blocks) end
    → LeadsFrom (at + length (block_bytes block)) file blocks end
others_lead at end file block blocks leads =
    let first = block_bytes block in
    let rest = flat_map block_bytes blocks in
    let there : drop (length first) (drop at file) ≡ drop (at + length first) file = drop-drop (length first) at file in
    record {
      stand =
          ap (λ (l : List ℕ). take (length rest) l) (sym there) ∙ sym (drop-take (length first) (length rest) (drop at file))
          ∙ ap (λ n. drop (length first) (take n (drop at file))) (sym (length-append first rest)) ∙ ap (λ (l : List ℕ). drop (length first) l) leads.stand ∙ drop_at first rest (length first) refl;
      ends = omega (arith, leads.ends, length-append first rest);
      whole = all_rest IsBlock block blocks leads.whole;
    }

open_at : (at : ℕ) (file : List ℕ) (block : List Record) → BeginsWithBlock (drop at file) block → IsClosed index_magic at file → ⊥
open_at at file block begins closed = closed.shut (ap (λ (l : List ℕ). take 8 l) begins.parts)

-- how blocks that lead to a place lie to those that lead to the end
record IsFront (file : List ℕ) (blocks more : List (List Record)) (end place : ℕ) : Type 0 where
  behind : ((place ≡ end) × (blocks ≡ more)) ⊎ ((block : List Record) × (rest : List (List Record)) × (blocks ≡ more ++ block ∷ rest) × BeginsWithBlock (drop place file) block)

front_more : (file : List ℕ) (first : List Record) (blocks more : List (List Record)) (end place : ℕ) → IsFront file blocks more end place → IsFront file (first ∷ blocks) (first ∷ more) end place
front_more file first blocks more end place front =
    elim front.behind [
      | inl same ↦ record { behind = inl (same.0, ap (λ (l : List (List Record)). first ∷ l) same.1) }
      | inr more_there ↦ record { behind = inr (more_there.0, more_there.1, ap (λ (l : List (List Record)). first ∷ l) more_there.2, more_there.3) }
    ]

is_front : (at end place : ℕ) (file : List ℕ) (blocks more : List (List Record)) → length file < 2 ^ 64 → LeadsFrom at file blocks end → IsClosed index_magic end file
    → LeadsFrom at file more place → IsFront file blocks more end place
is_front at end place file [] [] fits leads closed again = record { behind = inl (omega (arith, leads.ends, again.ends), refl) }
is_front at end place file [] (b ∷ more) fits leads closed again =
    let here : end ≡ at = omega (arith, leads.ends) in
    absurd (open_at at file b (first_begins at place file b more again) (subst (λ n. IsClosed index_magic n file) here closed))
is_front at end place file (b ∷ blocks) [] fits leads closed again =
    let here : at ≡ place = omega (arith, again.ends) in
    record { behind = inr (b, blocks, refl, subst (λ n. BeginsWithBlock (drop n file) b) here (first_begins at end file b blocks leads)) }
is_front at end place file (b ∷ blocks) (d ∷ more) fits leads closed again =
    let short : length (drop at file) < 2 ^ 64 = omega (arith, length-drop at file) in
    let same : d ≡ b = one_block (drop at file) d b short (first_begins at place file d more again) (first_begins at end file b blocks leads) in
    let behind : LeadsFrom (at + length (block_bytes b)) file more place =
    subst (λ (x : List Record). LeadsFrom (at + length (block_bytes x)) file more place) same (others_lead at place file d more again) in
    let front = is_front (at + length (block_bytes b)) end place file blocks more fits (others_lead at end file b blocks leads) closed behind in
    subst (λ (x : List Record). IsFront file (b ∷ blocks) (x ∷ more) end place) (sym same) (front_more file b blocks more end place front)

-- THE LAWS

-- the records up to an end mark are the only ones
pub one_reading : (superblock file : List ℕ) (records more : List Record) (end other : ℕ) → length file < 2 ^ 64 → IsIndex superblock file records end
    → IsIndex superblock file more other → (records ≡ more) × (end ≡ other)
one_reading superblock file records more end other fits is again =
    let front = is_front 64 end other file is.has.blocks again.has.blocks fits (all_lead superblock file records end is.has) is.closed (all_lead superblock file more other again.has) in
    elim front.behind [
      | inl same ↦ (sym is.has.are ∙ ap (λ (l : List (List Record)). flat_map (λ (b : List Record). b) l) same.1 ∙ again.has.are, sym same.0)
      | inr longer ↦ absurd (open_at other file longer.0 longer.3 again.closed)
    ]

-- a record in the row
row_at : (at : ℕ) (before after : List Record) (r : Record) → AreInRow at (before ++ r ∷ after) → r.at ≡ place_behind at before
row_at at [] after r row = row.0
row_at at (b ∷ before) after r row = row_at (at + needle_total b.size) before after r row.1

-- where the blocks end nothing is broken
closed_whole : (at place : ℕ) (file : List ℕ) (records : List Record) → IsClosed index_magic at file → (IsBrokenAt at file × (place ≡ at)) ⊎ IsStrayAt at file records place → ⊥
closed_whole at place file records closed (inl broken) =
    elim broken.0 [
      | inl short ↦ omega (arith, closed.room)
      | inr none ↦ closed.shut none.0
    ]
closed_whole at place file records closed (inr stray) = open_at at file stray.block stray.stands closed

-- nor where a block stands whose records are in the row
block_whole : (at place : ℕ) (file : List ℕ) (all records block tail : List Record) → length file < 2 ^ 64 → BeginsWithBlock (drop at file) block → all ≡ records ++ (block ++ tail) → AreInRow 64 all
    → (IsBrokenAt at file × (place ≡ at)) ⊎ IsStrayAt at file records place → ⊥
block_whole at place file all records block tail fits begins are row (inl broken) =
    elim broken.0 [
      | inl short ↦ omega (arith, block_long (drop at file) block begins, length-drop at file)
      | inr none ↦ none.1 block begins
    ]
block_whole at place file all records block tail fits begins are row (inr out) =
    let s = out.stray in
    let short : length (drop at file) < 2 ^ 64 = omega (arith, length-drop at file) in
    let same : block ≡ s.before ++ s.stray ∷ s.after = one_block (drop at file) block out.block short begins out.stands ∙ s.parts in
    let whole : all ≡ (records ++ s.before) ++ s.stray ∷ (s.after ++ tail) =
    are ∙ ap (λ (l : List Record). records ++ (l ++ tail)) same ∙ ap (λ (l : List Record). records ++ l) (append_assoc s.before (s.stray ∷ s.after) tail)
    ∙ sym (append_assoc records s.before (s.stray ∷ (s.after ++ tail))) in
    s.other (row_at 64 (records ++ s.before) (s.after ++ tail) s.stray (subst (λ (l : List Record). AreInRow 64 l) whole row))

-- and there is no damage among them
pub undamaged : (superblock file : List ℕ) (records : List Record) (end place : ℕ) → length file < 2 ^ 64 → IsIndex superblock file records end → IsBrokenBehind superblock file place → ⊥
undamaged superblock file records end place fits is damage =
    let front =
    is_front 64 end damage.at file is.has.blocks damage.lead.blocks fits (all_lead superblock file records end is.has) is.closed (all_lead superblock file damage.records damage.at damage.lead) in
    elim front.behind [
      | inl same ↦ closed_whole damage.at place file damage.records (subst (λ n. IsClosed index_magic n file) (sym same.0) is.closed) damage.broken
      | inr longer ↦
          let join : List (List Record) → List Record = λ blocks. flat_map (λ (b : List Record). b) blocks in
          let whole : records ≡ damage.records ++ (longer.0 ++ join longer.1) =
          sym is.has.are ∙ ap join longer.2 ∙ flat_map-append (λ (b : List Record). b) damage.lead.blocks (longer.0 ∷ longer.1)
          ∙ ap (λ (l : List Record). l ++ (longer.0 ++ join longer.1)) damage.lead.are in
          block_whole damage.at place file records damage.records longer.0 (join longer.1) fits longer.3 whole is.row damage.broken
    ]

-- an index file begins with its superblock
pub front_is : (superblock file : List ℕ) (records : List Record) (end : ℕ) → IsIndex superblock file records end → take 64 file ≡ superblock
front_is superblock file records end is =
    let far : 64 ≤ end = omega (arith, is.has.ends, length-append superblock (flat_map block_bytes is.has.blocks), is.has.sized) in
    sym (take-take 64 end file far) ∙ ap (λ (l : List ℕ). take 64 l) is.has.begins ∙ take_at superblock (flat_map block_bytes is.has.blocks) 64 is.has.sized

-- a fact on what was read
pub if_ok : {V E : Type 0} (r : Result V E) (P Q : V → Type 0) → IfOk r P → ((v : V) → P v → Q v) → IfOk r Q
if_ok (Ok v) P Q holds f = f v holds
if_ok (Err e) P Q holds f = tt

pub on_ok : {V E : Type 0} (r : Result V E) (P : V → Type 0) (Q : Type 0) → IfOk r P → ((v : V) → P v → Q) → OnOk r Q
on_ok (Ok v) P Q holds f = f v holds
on_ok (Err e) P Q holds f = tt
