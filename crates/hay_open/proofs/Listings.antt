-- What was listed, and what a whole disk has.
use Rattle.std.proofs.Common.{◌≡◌, ℕ, ◌+◌, ◌<◌, ◌^◌, List, length, get_or, map, take, drop, Some, sym, ap, subst, ◌∙◌, arith, length-take}
use Rattle.std.specs.List.{slice_get}
use Rattle.std.proofs.lemmas.List.{get_or-take}
use Rattle.std.proofs.lemmas.Option.{slice_get-get_or, slice_get_within}
use Rattle.hay_needle.specs.declared.needle.Cell.{Cell}
use Rattle.hay_needle.specs.declared.needle.CellHead.{CellHead}
use Rattle.hay_needle.specs.declared.settings.Super.{Super}
use Rattle.hay_needle.specs.Needle.{needle_magic}
use Rattle.hay_needle.specs.Super.{super_bytes}
use Rattle.hay_disk.specs.Gate.{IsClosed}
use Rattle.hay_head.proofs.HeadLaws.{one_generation}
use Rattle.hay_index.specs.declared.record.Record.{Record}
use Rattle.hay_index.specs.Records.{IsIndex, place_behind}
use Rattle.hay_index.proofs.Readings.{one_reading as one_index}
use Rattle.hay_volume.specs.Cells.{HasCells, IsDamagedCell, StandsCell, cell_head}
use Rattle.hay_volume.proofs.Readings.{undamaged}
use Rattle.hay_open.specs.Damage.{FitsNeedle, HasOrphans, IsRecorded, LastFits, scan_start}
use Rattle.hay_open.specs.Listing.{head_record}
use Rattle.hay_open.specs.Stored.{Stored, IsStored, cell_record, head_super, index_file, index_super, recorded, volume_file}
use Rattle.hay_open.proofs.CellRows.{cell_fits, cell_numbered, cell_there, cells_behind, get_behind, head_there, row_there}

part_get : {A : Type 0} (n i : ℕ) (xs : List A) (x : A) → slice_get (take n xs) i ≡ Some x → slice_get xs i ≡ Some x
part_get n i xs x there =
    let within = slice_get_within (take n xs) i x there in
    let inside : i < length xs = omega (arith, within, length-take n xs) in
    let below : i < n = omega (arith, within, length-take n xs) in
    let e : Some (get_or (take n xs) i x) ≡ Some x = sym (slice_get-get_or (take n xs) i x within) ∙ there in
    slice_get-get_or xs i x inside ∙ ap (λ y. Some y) (sym (get_or-take n xs i x below)) ∙ e

-- A WHOLE DISK

pub stored_recorded : (sup : Super) (contents : ℕ → List ℕ) (s : Stored) → (is : IsStored sup contents s) → IsRecorded sup contents s.generation (recorded s) is.index_end
stored_recorded sup contents s is = record { head = is.head; begins = is.volume.begins; index = is.index }

-- what was read of it is what it has
pub record SameRecords (sup : Super) (contents : ℕ → List ℕ) (generation : ℕ) (records : List Record) (s : Stored) : Type 0 where
  pub generation_is : s.generation ≡ generation
  pub records_are : recorded s ≡ records

pub stored_same : (sup : Super) (contents : ℕ → List ℕ) (generation end : ℕ) (records : List Record) (s : Stored) → ((n : ℕ) → length (contents n) < 2 ^ 64)
    → IsRecorded sup contents generation records end → IsStored sup contents s → SameRecords sup contents generation records s
stored_same sup contents generation end records s fits is stored =
    let g : s.generation ≡ generation = one_generation (super_bytes (head_super sup)) (contents 0) s.generation generation stored.head is.head in
    let index : IsIndex (super_bytes (index_super sup generation)) (contents (index_file generation)) (recorded s) stored.index_end =
    subst (λ n. IsIndex (super_bytes (index_super sup n)) (contents (index_file n)) (recorded s) stored.index_end) g stored.index in
    record {
      generation_is = g;
      records_are = (one_index (super_bytes (index_super sup generation)) (contents (index_file generation)) (recorded s) records stored.index_end end
          (fits (index_file generation)) index is.index).0;
    }

-- its records fit their needles
pub stored_fits : (sup : Super) (contents : ℕ → List ℕ) (generation number : ℕ) (records : List Record) (r : Record) (s : Stored) → IsStored sup contents s
    → SameRecords sup contents generation records s → slice_get records number ≡ Some r
    → FitsNeedle r (contents (volume_file generation))
stored_fits sup contents generation number records r s stored same there =
    let volume = contents (volume_file s.generation) in
    let at = cell_there number s.cells r (part_get s.records number (map cell_record s.cells) r (ap (λ (l : List Record). slice_get l number) same.records_are ∙ there)) in
    subst (λ n. FitsNeedle r (contents (volume_file n))) same.generation_is (cell_fits volume r at.0 at.2 (cell_numbered 64 s.end number volume s.cells at.0 stored.volume.has at.1))

-- its cells behind the last recorded one
pub stored_behind : (sup : Super) (contents : ℕ → List ℕ) (generation : ℕ) (records : List Record) (s : Stored) → IsStored sup contents s → SameRecords sup contents generation records s
    → HasCells (place_behind 64 records) (contents (volume_file generation)) (drop s.records s.cells) s.end × IsClosed needle_magic s.end (contents (volume_file generation))
stored_behind sup contents generation records s stored same =
    let volume = contents (volume_file s.generation) in
    let behind = cells_behind 64 s.end s.records volume s.cells stored.volume.has in (
      subst (λ n. HasCells (place_behind 64 records) (contents (volume_file n)) (drop s.records s.cells) s.end) same.generation_is
          (subst (λ (l : List Record). HasCells (place_behind 64 l) volume (drop s.records s.cells) s.end) same.records_are behind),
      subst (λ n. IsClosed needle_magic s.end (contents (volume_file n))) same.generation_is stored.volume.closed,
    )

-- THE SCAN

-- where cells end at a mark the scan began behind the last needle
pub start_is : (start end : ℕ) (file : List ℕ) (records : List Record) (cells : List Cell) → length file < 2 ^ 64 → start ≡ scan_start records → HasCells start file cells end
    → IsClosed needle_magic end file → place_behind 64 records ≡ start
start_is start end file records cells fits is has closed = omega (arith, has.ends, closed.room)

pub scan_whole : (start end at : ℕ) (file : List ℕ) (records : List Record) (cells : List Cell) → length file < 2 ^ 64 → start ≡ scan_start records
    → HasCells (place_behind 64 records) file cells end → IsClosed needle_magic end file
    → IsDamagedCell start file at → ⊥
scan_whole start end at file records cells fits is has closed damage =
    let same : place_behind 64 records ≡ start = omega (arith, has.ends, closed.room) in
    undamaged start end at file cells damage.cells (subst (λ n. HasCells n file cells end) same has) closed damage.lead damage.broken

pub orphans_found : (start end : ℕ) (file : List ℕ) (records : List Record) (cells : List Cell) → length file < 2 ^ 64 → start ≡ scan_start records → LastFits records file
    → HasCells start file cells end → IsClosed needle_magic end file
    → HasOrphans file records cells end
orphans_found start end file records cells fits is last has closed =
    record { fits = last; has = subst (λ n. HasCells n file cells end) (sym (start_is start end file records cells fits is has closed)) has; closed = closed }

-- ORPHANS

pub record IsOrphan (file : List ℕ) (rows : List Record) (k : ℕ) (head : CellHead) : Type 0 where
  pub cell : Cell
  pub stands : StandsCell head.at file cell
  pub is : head ≡ cell_head cell
  pub row : slice_get rows k ≡ Some (head_record head)

pub orphan_there : (from end recorded j : ℕ) (file : List ℕ) (orphans : List Cell) (rows : List Record) (heads items : List CellHead) (d : CellHead)
    → HasCells from file orphans end → items ≡ map cell_head orphans
    → drop recorded rows ≡ map cell_record orphans → heads ≡ items → j < length heads → IsOrphan file rows (recorded + j) (get_or heads j d)
orphan_there from end recorded j file orphans rows heads items d has are behind same below =
    let head = get_or heads j d in
    let there : slice_get (map cell_head orphans) j ≡ Some head = ap (λ (l : List CellHead). slice_get l j) (sym (same ∙ are)) ∙ slice_get-get_or heads j d below in
    let at = head_there j orphans head there in
    let here : StandsCell at.0.at file at.0 = cell_numbered from end j file orphans at.0 has at.1 in
    record {
      cell = at.0;
      stands = subst (λ n. StandsCell n file at.0) (ap (λ (h : CellHead). h.at) (sym at.2)) here;
      is = at.2;
      row =
          sym (get_behind recorded j rows) ∙ ap (λ (l : List Record). slice_get l j) behind ∙ row_there j orphans at.0 at.1 ∙ ap (λ (h : CellHead). Some (head_record h)) (sym at.2);
    }

-- the cell of a whole file that an orphan is
pub record IsCellOf (volume : List ℕ) (whole : List Cell) (k : ℕ) (head : CellHead) : Type 0 where
  pub cell : Cell
  pub there : slice_get whole k ≡ Some cell
  pub is : head ≡ cell_head cell
  pub stands : StandsCell head.at volume cell

pub orphan_at : (from end j : ℕ) (file : List ℕ) (orphans : List Cell) (heads items : List CellHead) (d : CellHead) → HasCells from file orphans end → items ≡ map cell_head orphans
    → heads ≡ items → j < length heads
    → IsCellOf file orphans j (get_or heads j d)
orphan_at from end j file orphans heads items d has are same below =
    let head = get_or heads j d in
    let there : slice_get (map cell_head orphans) j ≡ Some head = ap (λ (l : List CellHead). slice_get l j) (sym (same ∙ are)) ∙ slice_get-get_or heads j d below in
    let at = head_there j orphans head there in
    record {
      cell = at.0;
      there = at.1;
      is = at.2;
      stands = subst (λ n. StandsCell n file at.0) (ap (λ (h : CellHead). h.at) (sym at.2)) (cell_numbered from end j file orphans at.0 has at.1);
    }

pub orphan_whole : (end recorded j : ℕ) (file : List ℕ) (whole : List Cell) (heads items : List CellHead) (d : CellHead) → HasCells 64 file whole end
    → items ≡ map cell_head (drop recorded whole) → heads ≡ items → j < length heads
    → IsCellOf file whole (recorded + j) (get_or heads j d)
orphan_whole end recorded j file whole heads items d has are same below =
    let head = get_or heads j d in
    let there : slice_get (map cell_head (drop recorded whole)) j ≡ Some head = ap (λ (l : List CellHead). slice_get l j) (sym (same ∙ are)) ∙ slice_get-get_or heads j d below in
    let at = head_there j (drop recorded whole) head there in
    let k : slice_get whole (recorded + j) ≡ Some at.0 = sym (get_behind recorded j whole) ∙ at.1 in
    record {
      cell = at.0;
      there = k;
      is = at.2;
      stands = subst (λ n. StandsCell n file at.0) (ap (λ (h : CellHead). h.at) (sym at.2)) (cell_numbered 64 end (recorded + j) file whole at.0 has k);
    }
