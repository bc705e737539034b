-- A disk that was listed, and its pieces given out.
use Rattle.std.proofs.Common.{◌≡◌, ℕ, ◌+◌, ◌<◌, ◌≤◌, ◌^◌, false, List, [], ◌∷◌, ◌++◌, length, map, take, drop, refl, sym, ap, subst, ◌∙◌, arith, take-append-drop}
use Rattle.std.proofs.lemmas.List.{length-take-le, drop_at}
use Rattle.hay_needle.specs.declared.needle.Cell.{Cell}
use Rattle.hay_needle.specs.declared.settings.Super.{Super}
use Rattle.hay_needle.specs.Super.{super_bytes}
use Rattle.hay_disk.specs.Disk.{Files, FileState, IsFree, IsSolid}
use Rattle.hay_disk.specs.Gate.{IsClosed, IsGate}
use Rattle.hay_head.specs.Head.{head_magic, row_place}
use Rattle.hay_head.proofs.HeadLaws.{head_gate}
use Rattle.hay_index.specs.declared.record.Record.{Record}
use Rattle.hay_index.specs.Records.{AreInRow, IsIndex, index_magic, place_behind}
use Rattle.hay_index.proofs.IndexLaws.{index_gate}
use Rattle.hay_needle.specs.Needle.{needle_magic}
use Rattle.hay_volume.specs.declared.volume.VolumeFile.{VolumeFile}
use Rattle.hay_volume.specs.Cells.{HasCells, IsVolume, cell_head}
use Rattle.hay_volume.proofs.Readings.{one_reading as one_volume}
use Rattle.hay_open.specs.declared.listing.Listing.{Listing}
use Rattle.hay_open.specs.declared.opened.Opened.{Opened}
use Rattle.hay_open.specs.Finds.{IsReady, OpenedAs}
use Rattle.hay_open.specs.Listing.{GivesPieces, HoldsRows, IsListing, ListsCells, RowFlagsFree}
use Rattle.hay_open.specs.Stored.{Stored, FlagsFree, HeadRests, IndexRests, IsStored, VolumeRests, cell_record, head_super, index_file, index_super, recorded, unrecorded, volume_file, volume_super}
use Rattle.hay_open.proofs.CellRows.{behind_join, has_end, has_row, map_drop, map_length, row_join}
use Rattle.hay_open.proofs.Listings.{stored_behind, stored_same}
use Rattle.hay_open.proofs.PieceLaws.{all_free}

-- THE ROWS OF A LISTING

rows_in_row : (sup : Super) (contents : ℕ → List ℕ) (listing : Listing) (is : IsListing sup contents listing) → AreInRow 64 listing.rows.items
rows_in_row sup contents listing is =
    let volume = contents (volume_file listing.head.generation) in
    subst (λ (l : List Record). AreInRow 64 l) (sym is.rows) (row_join 64 is.records (map cell_record is.orphans) is.is.index.row
    (has_row (place_behind 64 is.records) listing.end volume is.orphans is.behind.has))

pub rows_end : (sup : Super) (contents : ℕ → List ℕ) (listing : Listing) (is : IsListing sup contents listing) → place_behind 64 listing.rows.items ≡ listing.end
rows_end sup contents listing is =
    let volume = contents (volume_file listing.head.generation) in
    ap (λ (l : List Record). place_behind 64 l) is.rows ∙ behind_join 64 is.records (map cell_record is.orphans) ∙ has_end (place_behind 64 is.records) listing.end volume is.orphans is.behind.has

pub listing_holds : (sup : Super) (contents : ℕ → List ℕ) (listing : Listing) → IsListing sup contents listing → HoldsRows (contents listing.volume) listing
listing_holds sup contents listing is =
    let end = rows_end sup contents listing is in
    subst (λ n. HoldsRows (contents n) listing) (sym is.volume_number) (record {
      row = rows_in_row sup contents listing is;
      from = place_behind 64 is.records;
      orphans = is.orphans;
      has = subst (λ n. HasCells (place_behind 64 is.records) (contents (volume_file listing.head.generation)) is.orphans n) (sym end) is.behind.has;
      heads = is.heads;
      behind =
          ap (λ n. drop n listing.rows.items) is.recorded ∙ ap (λ (l : List Record). drop (length is.records) l) is.rows ∙ drop_at is.records (map cell_record is.orphans) (length is.records) refl;
    })

-- A WHOLE DISK

-- what is listed of it
pub record ListsStored (contents : ℕ → List ℕ) (listing : Listing) (s : Stored) : Type 0 where
  pub generation : s.generation ≡ listing.head.generation
  pub count : listing.recorded ≡ s.records
  pub end : s.end ≡ listing.end
  pub rows : listing.rows.items ≡ map cell_record s.cells
  pub heads : listing.orphans.items ≡ map cell_head (drop s.records s.cells)
  pub noted : listing.index.pending ≡ unrecorded s

pub lists_stored : (sup : Super) (contents : ℕ → List ℕ) (listing : Listing) (s : Stored) → ((n : ℕ) → length (contents n) < 2 ^ 64) → IsListing sup contents listing
    → IsStored sup contents s → ListsStored contents listing s
lists_stored sup contents listing s fits is stored =
    let generation = listing.head.generation in
    let volume = contents (volume_file generation) in
    let same = stored_same sup contents generation listing.index.end is.records s fits is.is stored in
    let behind = stored_behind sup contents generation is.records s stored same in
    let one = one_volume (place_behind 64 is.records) s.end listing.end volume (drop s.records s.cells) is.orphans behind.0 behind.1 is.behind.has is.behind.closed in
    let cells = map cell_record s.cells in
    let few : s.records ≤ length cells = omega (arith, map_length s.cells, stored.lags) in
    let rest : map cell_record is.orphans ≡ drop s.records cells = ap (λ (l : List Cell). map cell_record l) (sym one.0) ∙ sym (map_drop s.records s.cells) in
    record {
      generation = same.generation_is;
      count = is.recorded ∙ ap (λ (l : List Record). length l) (sym same.records_are) ∙ length-take-le s.records cells few;
      end = one.1;
      rows = is.rows ∙ ap (λ (l : List Record). l ++ map cell_record is.orphans) (sym same.records_are) ∙ ap (λ (l : List Record). take s.records cells ++ l) rest ∙ take-append-drop s.records cells;
      heads = is.heads ∙ ap (λ (l : List Cell). map cell_head l) (sym one.0);
      noted = is.noted ∙ rest;
    }

pub lists_cells : (sup : Super) (contents : ℕ → List ℕ) (listing : Listing) (s : Stored) → IsListing sup contents listing → IsStored sup contents s → ListsStored contents listing s
    → ListsCells (contents listing.volume) listing s.cells
lists_cells sup contents listing s is stored lists =
    let number : volume_file s.generation ≡ listing.volume = ap volume_file lists.generation ∙ sym is.volume_number in
    record {
      has = subst (λ n. HasCells 64 (contents n) s.cells listing.end) number (subst (λ e. HasCells 64 (contents (volume_file s.generation)) s.cells e) lists.end stored.volume.has);
      rows = lists.rows;
      heads = lists.heads ∙ ap (λ n. map cell_head (drop n s.cells)) (sym lists.count);
    }

-- THE FILES THEN

flags_of : (file : FileState) (cells : List Cell) → RowFlagsFree file (map cell_record cells) → FlagsFree file cells
flags_of file [] free = tt
flags_of file (cell ∷ cells) free = (free.0, flags_of file cells free.1)

apart_head : (generation volume : ℕ) → volume ≡ volume_file generation → 0 ≡ volume → ⊥
apart_head generation volume is same = omega arith

apart_index : (generation volume : ℕ) → volume ≡ volume_file generation → index_file generation ≡ volume → ⊥
apart_index generation volume is same = omega arith

pub ready_head : (sup : Super) (old new : Files) (listing : Listing) → IsListing sup (λ n. (old n).now) listing → IsSolid (old 0) → IsFree (old 0)
    → GivesPieces listing.volume listing.rows.items (place_behind 64 listing.rows.items) old new
    → HeadRests sup (new 0) listing.head.generation
ready_head sup old new listing is solid free gives =
    let g = listing.head.generation in
    subst (λ (f : FileState). HeadRests sup f g) (sym (gives.others 0 (apart_head g listing.volume is.volume_number)))
    (record { is = is.is.head; solid = solid; gate = head_gate (super_bytes (head_super sup)) g (g + 1) (old 0) refl is.is.head solid (λ k from. free k) })

pub ready_volume : (sup : Super) (old new : Files) (listing : Listing) → IsListing sup (λ n. (old n).now) listing → IsSolid (old listing.volume) → IsFree (old listing.volume)
    → GivesPieces listing.volume listing.rows.items (place_behind 64 listing.rows.items) old new → IsGate needle_magic listing.end (new listing.volume)
ready_volume sup old new listing is solid free gives =
    let closed = subst (λ n. IsClosedAt (old n).now) (sym is.volume_number) is.behind.closed in
    record {
      closed = subst (λ (l : List ℕ). IsClosedAt l) (sym gives.now) closed;
      solid = λ k from to. (gives.solid solid).places k;
      free = λ k from. gives.free (λ n far. free n) k (let e = rows_end sup (λ n. (old n).now) listing is in omega (arith, e));
    }
  where
    IsClosedAt : List ℕ → Type 0
    IsClosedAt l = IsClosed needle_magic listing.end l

pub ready_index : (sup : Super) (old new : Files) (listing : Listing) → IsListing sup (λ n. (old n).now) listing → IsSolid (old listing.index.file) → IsFree (old listing.index.file)
    → GivesPieces listing.volume listing.rows.items (place_behind 64 listing.rows.items) old new → IsGate index_magic listing.index.end (new listing.index.file)
ready_index sup old new listing is solid free gives =
    let g = listing.head.generation in
    let file = listing.index.file in
    let index : IsIndex (super_bytes (index_super sup g)) (old file).now is.records listing.index.end =
    subst (λ n. IsIndex (super_bytes (index_super sup g)) (old n).now is.records listing.index.end) (sym is.index_number) is.is.index in
    let apart : file ≡ listing.volume → ⊥ = λ same. apart_index g listing.volume is.volume_number (sym is.index_number ∙ same) in
    subst (λ (f : FileState). IsGate index_magic listing.index.end f) (sym (gives.others file apart))
    (index_gate (super_bytes (index_super sup g)) is.records listing.index.end (old file) index solid (λ k from. free k))

pub rests_volume : (sup : Super) (old new : Files) (listing : Listing) (s : Stored) → IsListing sup (λ n. (old n).now) listing → IsStored sup (λ n. (old n).now) s
    → ListsStored (λ n. (old n).now) listing s → IsSolid (old listing.volume) → IsFree (old listing.volume)
    → GivesPieces listing.volume listing.rows.items (place_behind 64 listing.rows.items) old new → VolumeRests sup (new (volume_file s.generation)) s
rests_volume sup old new listing s is stored lists solid free gives =
    let v = volume_file s.generation in
    let number : listing.volume ≡ v = is.volume_number ∙ ap volume_file (sym lists.generation) in
    let now : (new v).now ≡ (old v).now = subst (λ n. (new n).now ≡ (old n).now) number gives.now in
    let flags : RowFlagsFree (new listing.volume) listing.rows.items = gives.flags (all_free listing.rows.items (old listing.volume) free) in
    record {
      is = subst (λ (l : List ℕ). IsVolume (super_bytes (volume_super sup s.generation)) l s.cells s.end) (sym now) stored.volume;
      solid = subst (λ n. IsSolid (new n)) number (gives.solid solid);
      gate = subst (λ n. IsGate needle_magic s.end (new n)) number (subst (λ e. IsGate needle_magic e (new listing.volume)) (sym lists.end) (ready_volume sup old new listing is solid free gives));
      flags = flags_of (new v) s.cells (subst (λ (l : List Record). RowFlagsFree (new v) l) lists.rows (subst (λ n. RowFlagsFree (new n) listing.rows.items) number flags));
    }

pub rests_index : (sup : Super) (old new : Files) (listing : Listing) (s : Stored) → IsListing sup (λ n. (old n).now) listing → IsStored sup (λ n. (old n).now) s
    → ListsStored (λ n. (old n).now) listing s → ((n : ℕ) → length (old n).now < 2 ^ 64)
    → IsSolid (old listing.index.file) → IsFree (old listing.index.file) → GivesPieces listing.volume listing.rows.items (place_behind 64 listing.rows.items) old new
    → IndexRests sup (new (index_file s.generation)) s listing.index.end
rests_index sup old new listing s is stored lists fits solid free gives =
    let g = listing.head.generation in
    let same = stored_same sup (λ n. (old n).now) g listing.index.end is.records s fits is.is stored in
    let apart : listing.index.file ≡ listing.volume → ⊥ = λ e. apart_index g listing.volume is.volume_number (sym is.index_number ∙ e) in
    let number : listing.index.file ≡ index_file s.generation = is.index_number ∙ ap index_file (sym lists.generation) in
    let x = index_file s.generation in
    let stays : new listing.index.file ≡ old listing.index.file = gives.others listing.index.file apart in
    let index : IsIndex (super_bytes (index_super sup s.generation)) (old x).now (recorded s) listing.index.end =
    subst (λ (l : List Record). IsIndex (super_bytes (index_super sup s.generation)) (old x).now l listing.index.end) (sym same.records_are)
    (subst (λ n. IsIndex (super_bytes (index_super sup n)) (old (index_file n)).now is.records listing.index.end) (sym lists.generation) is.is.index) in
    let whole : new x ≡ old x = subst (λ n. new n ≡ old n) number stays in
    subst (λ (f : FileState). IndexRests sup f s listing.index.end) (sym whole)
    (record {
      is = index;
      solid = subst (λ n. IsSolid (old n)) number solid;
      gate = index_gate (super_bytes (index_super sup s.generation)) (recorded s) listing.index.end (old x)
          index (subst (λ n. IsSolid (old n)) number solid) (λ k from. subst (λ n. (old n).sealed k ≡ false) number (free k));
    })

-- READY FOR CHANGES

-- what was opened is ready for changes
pub opened_ready : {P : Type 0} (sup : Super) (files : Files) (opened : Opened P) (s : Stored) → OpenedAs sup files opened s → IsReady files opened
opened_ready sup files opened s is =
    let file : opened.volume.file ≡ volume_file s.generation = ap (λ (v : VolumeFile). v.file) is.volume in
    let end : opened.volume.end ≡ s.end = ap (λ (v : VolumeFile). v.end) is.volume in
    record {
      volume_number = file ∙ ap volume_file (sym is.generation);
      index_number = is.index_number ∙ ap index_file (sym is.generation);
      head = subst (λ n. IsGate head_magic (row_place (n + 1)) (files 0)) (sym is.generation) is.head.gate;
      volume = subst (λ n. IsGate needle_magic opened.volume.end (files n)) (sym file) (subst (λ e. IsGate needle_magic e (files (volume_file s.generation))) (sym end) is.cells.gate);
      index = subst (λ n. IsGate index_magic opened.index.end (files n)) (sym is.index_number) is.index.gate;
    }
