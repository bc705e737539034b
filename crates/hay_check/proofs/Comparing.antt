-- Records beside the cells that they are to name.
use Rattle.std.proofs.Common.{◌≡◌, ◌≢◌, ◌⊎◌, inl, inr, ℕ, ◌+◌, ◌*◌, ◌<◌, ◌≤◌, Bool, true, false, List, [], ◌∷◌, ◌++◌, length, get_or, take, drop, map, Option, Some, None, sym, ap}
use Rattle.std.proofs.Common.{subst, ◌∙◌, arith, append_assoc, length-append, length-drop, take-append-drop}
use Rattle.std.specs.Prelude.{IsTrue, ◌↔◌, is_some, nat_lt, option_map}
use Rattle.std.specs.List.{slice_get}
use Rattle.std.proofs.lemmas.Bool.{cases_lt, lt-ltb, ltb-true}
use Rattle.std.proofs.lemmas.List.{length-map, length-take-le, take_all, take_at, drop-map}
use Rattle.std.proofs.lemmas.Option.{same_Some, slice_get-get_or, slice_get-map, slice_get_past}
use Rattle.hay_needle.specs.declared.needle.CellHead.{CellHead}
use Rattle.hay_index.specs.declared.record.Record.{Record}
use Rattle.hay_index.specs.Records.{BeginsWithBlock, HasRecords, IsBrokenAt}
use Rattle.hay_index.proofs.ReadLaws.{one_more_block}
use Rattle.hay_open.specs.Listing.{head_record}
use Rattle.hay_open.proofs.CellRows.{get_behind, split_at, take_here}
use Rattle.hay_check.specs.Listing.{HasMisfit, IsBrokenBehind, IsMisfitAt}

-- ONE RECORD

row_of : (heads : List CellHead) (i : ℕ) (head d : CellHead) → true ≡ nat_lt i (length heads) → head ≡ get_or heads i d → slice_get (map head_record heads) i ≡ Some (head_record head)
row_of heads i head d within is =
    slice_get-map head_record heads i ∙ ap (λ (o : Option CellHead). option_map head_record o) (slice_get-get_or heads i d (ltb-true i (length heads) (sym within)))
    ∙ ap (λ (h : CellHead). Some (head_record h)) (sym is)

-- the record is that of its cell
pub row_here : (heads : List CellHead) (i : ℕ) (r : Record) (head d : CellHead) (b : Bool) → true ≡ nat_lt i (length heads) → head ≡ get_or heads i d
    → (IsTrue b ↔ (r ≡ head_record head)) → b ≡ true → slice_get (map head_record heads) i ≡ Some r
row_here heads i r head d b within is same holds = row_of heads i head d within is ∙ ap (λ (x : Record). Some x) (sym (same.0 holds))

-- it is not
pub other_row : (heads : List CellHead) (i : ℕ) (r : Record) (head d : CellHead) (b : Bool) → true ≡ nat_lt i (length heads) → head ≡ get_or heads i d
    → (IsTrue b ↔ (r ≡ head_record head)) → b ≡ false → slice_get (map head_record heads) i ≢ Some r
other_row heads i r head d b within is same differs there =
    let equal : r ≡ head_record head = sym (same_Some (head_record head) r (sym (row_of heads i head d within is) ∙ there)) in
    let holds : b ≡ true = same.1 equal in
    absurd cc

-- there is no such cell
pub no_row : {V : Type 0} (o : Option V) (heads : List CellHead) (i : ℕ) (r : Record) → o ≡ None → is_some o ≡ nat_lt i (length heads) → slice_get (map head_record heads) i ≢ Some r
no_row o heads i r none test there =
    elim (cases_lt i (length heads)) [
      | inl within ↦ let here : nat_lt i (length heads) ≡ true = lt-ltb i (length heads) within in absurd cc
      | inr past ↦ let nothing : slice_get (map head_record heads) i ≡ None = slice_get_past (map head_record heads) i (omega (arith, past, length-map heads head_record)) in absurd cc
    ]

-- A BLOCK

pub misfit_here : (rows block : List Record) (i first at k : ℕ) (d : Record) → i < length block → at ≡ first + 32 * i → k ≡ at → take i block ≡ take i rows
    → slice_get rows i ≢ Some (get_or block i d) → HasMisfit rows block first k
misfit_here rows block i first at k d within place here same other = record {
  before = take i block;
  misfit = get_or block i d;
  after = drop (i + 1) block;
  parts = split_at i block (get_or block i d) (slice_get-get_or block i d within);
  rest = drop i rows;
  fit = sym (take-append-drop i rows) ∙ ap (λ (l : List Record). l ++ drop i rows) (sym same);
  other = λ is. other (ap (λ n. slice_get rows n) (omega arith) ∙ sym (get_behind i 0 rows) ∙ is);
  stands = omega (arith, length-take-le i block (omega arith));
}

pub fit_more : (rows block : List Record) (i : ℕ) (d : Record) → i < length block → take i block ≡ take i rows → slice_get rows i ≡ Some (get_or block i d) → take (i + 1) block ≡ take (i + 1) rows
fit_more rows block i d within same there =
    let r = get_or block i d in
    take_here i block r (slice_get-get_or block i d within) ∙ ap (λ (l : List Record). l ++ r ∷ []) same ∙ sym (take_here i rows r there)

pub fit_all : (rows block : List Record) (i : ℕ) → length block ≤ i → i ≤ length block → take i block ≡ take i rows → (rest : List Record) × (rows ≡ block ++ rest)
fit_all rows block i past within same =
    let whole : take i rows ≡ block = sym same ∙ take_all i block past in
    (drop i rows, sym (take-append-drop i rows) ∙ ap (λ (l : List Record). l ++ drop i rows) whole)

-- THE BLOCKS

-- the cells from a number on
pub rows_behind : (n count : ℕ) (heads piece : List CellHead) → piece ≡ take n (drop count heads) → length heads ≤ count + n → map head_record piece ≡ drop count (map head_record heads)
rows_behind n count heads piece is long =
    ap (λ (l : List CellHead). map head_record l) (is ∙ take_all n (drop count heads) (omega (arith, long, length-drop count heads))) ∙ sym (drop-map head_record count heads)

pub misfit_behind : (n count first k : ℕ) (heads piece : List CellHead) (block items : List Record) → piece ≡ take n (drop count heads) → length heads ≤ count + n → items ≡ block
    → HasMisfit (map head_record piece) items first k
    → HasMisfit (drop count (map head_record heads)) block first k
misfit_behind n count first k heads piece block items is long same misfit =
    subst (λ (rows : List Record). HasMisfit rows block first k) (rows_behind n count heads piece is long) (subst (λ (l : List Record). HasMisfit (map head_record piece) l first k) same misfit)

pub fit_behind : (n count : ℕ) (heads piece : List CellHead) (block items rest : List Record) → piece ≡ take n (drop count heads) → length heads ≤ count + n → items ≡ block
    → map head_record piece ≡ items ++ rest
    → drop count (map head_record heads) ≡ block ++ rest
fit_behind n count heads piece block items rest is long same are = sym (rows_behind n count heads piece is long) ∙ are ∙ ap (λ (l : List Record). l ++ rest) same

-- one block more
pub block_fits : (superblock file : List ℕ) (rows block rest : List Record) (count end further : ℕ) → count ≤ length rows → HasRecords superblock file (take count rows) end
    → BeginsWithBlock (drop end file) block → drop count rows ≡ block ++ rest
    → further ≡ end + (16 + 32 * length block) → HasRecords superblock file (take (count + length block) rows) further × (count + length block ≤ length rows)
block_fits superblock file rows block rest count end further within has begins are is =
    let front = take count rows in
    let whole : rows ≡ (front ++ block) ++ rest = sym (take-append-drop count rows) ∙ ap (λ (l : List Record). front ++ l) are ∙ sym (append_assoc front block rest) in
    let long : length (front ++ block) ≡ count + length block = length-append front block ∙ ap (λ n. n + length block) (length-take-le count rows within) in
    let next : take (count + length block) rows ≡ front ++ block = ap (λ (l : List Record). take (count + length block) l) whole ∙ take_at (front ++ block) rest (count + length block) long in (
      one_more_block superblock file front block (take (count + length block) rows) end further has begins next is,
      omega (arith, ap length whole, length-append (front ++ block) rest, long),
    )

pub broken_there : (superblock file : List ℕ) (rows : List Record) (count end k : ℕ) → HasRecords superblock file (take count rows) end
    → (IsBrokenAt end file × (k ≡ end)) ⊎ IsMisfitAt end file (drop count rows) k
    → IsBrokenBehind superblock file rows k
broken_there superblock file rows count end k lead broken = record {
  records = take count rows;
  rest = drop count rows;
  fit = sym (take-append-drop count rows);
  at = end;
  lead = lead;
  broken = broken;
}
