-- Files that stand for what a disk has, behind each change.
use Rattle.std.proofs.Common.{◌≡◌, ◌≢◌, ◌⊎◌, inl, inr, ℕ, ◌+◌, ◌*◌, ◌<◌, ◌≤◌, Bool, true, false, List, [], ◌∷◌, ◌++◌, length, take, drop, refl, sym, ◌∙◌, ap, subst, arith}
use Rattle.std.proofs.Common.{length-append, append-nil, take-append-drop}
use Rattle.std.specs.Prelude.{map, Result, Ok, Err, OnOk, OnErr, is_err}
use Rattle.std.proofs.lemmas.List.{length-map, map-append, take-append-le, drop-append-le, take_all, drop_all}
use Rattle.hay_needle.specs.declared.needle.Cell.{Cell}
use Rattle.hay_needle.specs.declared.needle.Cookie.{Cookie}
use Rattle.hay_needle.specs.declared.needle.Pair.{Pair}
use Rattle.hay_needle.specs.declared.settings.Super.{Super}
use Rattle.hay_needle.specs.Needle.{NeedleBytes, needle_magic, needle_of_cell}
use Rattle.hay_needle.specs.Sizes.{needle_total}
use Rattle.hay_needle.specs.Super.{super_bytes}
use Rattle.hay_disk.specs.Disk.{Files, FileState, IsImage, IsSolid, IsSolidIn, Changes, KeepsOthers, Seals}
use Rattle.hay_disk.specs.Gate.{IsGate}
use Rattle.hay_disk.proofs.Logs.{gate_seals}
use Rattle.hay_disk.proofs.Steps.{solid_seals}
use Rattle.hay_volume.specs.declared.volume.VolumeFile.{VolumeFile}
use Rattle.hay_volume.specs.Cells.{AreCellsAt, HasPlace, IsVolume, live_cell, with_flag}
use Rattle.hay_volume.proofs.FlagLaws.{placed}
use Rattle.hay_index.specs.declared.index.IndexFile.{IndexFile}
use Rattle.hay_index.specs.declared.record.Record.{Record}
use Rattle.hay_index.specs.Records.{AreInRow, IsIndex, index_magic}
use Rattle.hay_open.specs.Stored.{HeadRests, IndexRests, IsSealedCell, Stored, VolumeRests, cell_record, index_file, index_super, recorded, unrecorded, volume_file, volume_super}
use Rattle.hay_map.specs.Sealed.{SealedNeedle}
use Rattle.hay_physical.specs.declared.state.OpenFiles.{OpenFiles}
use Rattle.hay_physical.specs.Replicas.{FilesStand, HasLive, IndexStands, MayFlag, all_recorded, with_cell, without_cell}
use Rattle.hay_physical.proofs.CellRows.{cells_row, flag_free, flags_first, flags_flagged, flags_kept, flags_more, flags_sealed, last_stands, length-with_flag, live_place}
use Rattle.hay_physical.proofs.CellRows.{needle_there, records_flagged}

-- FILES OF DIFFERENT NUMBERS

pub index_not_volume : (g : ℕ) → index_file g ≢ volume_file g
index_not_volume g e = omega arith

pub volume_not_head : (g : ℕ) → 0 ≢ volume_file g
volume_not_head g e = omega arith

pub index_not_head : (g : ℕ) → 0 ≢ index_file g
index_not_head g e = omega arith

-- RECORDS OF MORE CELLS

pub same_records : (n : ℕ) (cells longer : List Cell) (more : List Record) → map cell_record longer ≡ map cell_record cells ++ more → n ≤ length cells
    → take n (map cell_record longer) ≡ take n (map cell_record cells)
same_records n cells longer more rows within =
    let inside : n ≤ length (map cell_record cells) = omega (arith, length-map cells cell_record) in
    ap (λ (l : List Record). take n l) rows ∙ take-append-le n (map cell_record cells) more inside

pub index_longer : (sup : Super) (file : FileState) (s : Stored) (longer : List Cell) (last end : ℕ) (more : List Record) (frozen : Bool) → map cell_record longer ≡ map cell_record s.cells ++ more
    → length s.cells ≤ length longer → s.records ≤ length s.cells → IndexStands sup file s end frozen → IndexStands sup file (record s { cells = longer; end = last }) end frozen
index_longer sup file s longer last end more false rows longs lags index = record {
  is = subst (λ (l : List Record). IsIndex (super_bytes (index_super sup s.generation)) file.now l end) (sym (same_records s.records s.cells longer more rows lags)) index.is;
  solid = index.solid;
  gate = index.gate;
}
index_longer sup file s longer last end more true rows longs lags index = λ image leaves.
    let h = index image leaves in
    record {
      records = h.records;
      end = h.end;
      fewer = h.fewer;
      lags = omega (arith, h.lags);
      is = subst (λ (l : List Record). IsIndex (super_bytes (index_super sup s.generation)) image l h.end) (sym (same_records h.records s.cells longer more rows h.lags)) h.is;
    }

-- ONE MORE CELL

-- what the append of a cell does
pub record Appended (old new : Files) (volume next : VolumeFile) (pair : Pair) (cookie : Cookie) (photo : List ℕ) : Type 0 where
  pub moved : next ≡ record volume { end = volume.end + needle_total (length photo) }
  pub added : (superblock : List ℕ) (cells : List Cell) → IsVolume superblock (old volume.file).now cells volume.end
      → IsVolume superblock (new volume.file).now (cells ++ live_cell volume.end pair cookie photo ∷ []) next.end
  pub solid : IsSolid (new volume.file)
  pub gate : IsGate needle_magic next.end (new volume.file)
  pub changes : Changes volume.end (needle_total (length photo) + 8) (old volume.file) (new volume.file)
  pub others : KeepsOthers volume.file old new

rows_more : (cells : List Cell) (cell : Cell) → map cell_record (cells ++ cell ∷ []) ≡ map cell_record cells ++ cell_record cell ∷ []
rows_more cells cell = map-append cell_record cells (cell ∷ [])

head_same : (sup : Super) (old new : Files) (file g : ℕ) → 0 ≢ file → KeepsOthers file old new → HeadRests sup (old 0) g → HeadRests sup (new 0) g
head_same sup old new file g apart others head = subst (λ (f : FileState). HeadRests sup f g) (sym (others 0 apart)) head

pub stand_added : (sup : Super) (old new : Files) (opened : OpenFiles) (next : VolumeFile) (index : IndexFile) (row : Record) (s : Stored) (pair : Pair) (cookie : Cookie) (photo : List ℕ)
    → FilesStand sup old opened s → row ≡ record { pair = pair; at = opened.volume.end; size = length photo }
    → index ≡ record opened.index { pending = opened.index.pending ++ row ∷ [] } → Appended old new opened.volume next pair cookie photo
    → FilesStand sup new (record opened { volume = next; index = index }) (with_cell s pair cookie photo)
stand_added sup old new opened next index row s pair cookie photo f row_is noted made =
    let volume : VolumeFile = record { file = volume_file s.generation; end = s.end; capacity = sup.settings.capacity } in
    let here : Appended old new volume next pair cookie photo = subst (λ (v : VolumeFile). Appended old new v next pair cookie photo) f.volume made in
    let a : Appended old new volume (record volume { end = s.end + needle_total (length photo) }) pair cookie photo =
    subst (λ (v : VolumeFile). Appended old new volume v pair cookie photo) here.moved here in
    let cell : Cell = live_cell s.end pair cookie photo in
    let end_is : opened.volume.end ≡ s.end = ap (λ (v : VolumeFile). v.end) f.volume in
    let row_there : row ≡ cell_record cell = row_is ∙ ap (λ (n : ℕ). let r : Record = record { pair = pair; at = n; size = length photo } in r) end_is in
    let longs : length s.cells ≤ length (s.cells ++ cell ∷ []) = omega (arith, length-append s.cells (cell ∷ [])) in
    let lags : s.records ≤ length (map cell_record s.cells) = omega (arith, f.lags, length-map s.cells cell_record) in
    let free : (k : ℕ) → (old (volume_file s.generation)).sealed k ≡ false → (new (volume_file s.generation)).sealed k ≡ false = a.changes.free in
    record {
      generation = f.generation;
      lags = omega (arith, f.lags, longs);
      volume = here.moved;
      index_number = ap (λ (i : IndexFile). i.file) noted ∙ f.index_number;
      noted = ap (λ (i : IndexFile). i.pending) noted ∙ ap (λ (l : List Record). l ++ row ∷ []) f.noted ∙ ap (λ (r : Record). unrecorded s ++ r ∷ []) row_there
          ∙ sym (drop-append-le s.records (map cell_record s.cells) (cell_record cell ∷ []) lags) ∙ ap (λ (l : List Record). drop s.records l) (sym (rows_more s.cells cell));
      head = head_same sup old new (volume_file s.generation) s.generation (volume_not_head s.generation) a.others f.head;
      cells = record {
        is = a.added (super_bytes (volume_super sup s.generation)) s.cells f.cells.is;
        solid = a.solid;
        gate = a.gate;
        flags = flags_more (new (volume_file s.generation)) s.cells cell (flags_kept (old (volume_file s.generation)) (new (volume_file s.generation)) s.cells free f.cells.flags)
            (free (s.end + 28) (f.cells.gate.free (s.end + 28) (omega arith)));
      };
      index = subst (λ (i : IndexFile). IndexStands sup (new (index_file s.generation)) (with_cell s pair cookie photo) i.end i.frozen) (sym noted)
          (subst (λ (file : FileState). IndexStands sup file (with_cell s pair cookie photo) opened.index.end opened.index.frozen)
          (sym (a.others (index_file s.generation) (index_not_volume s.generation)))
          (index_longer sup (old (index_file s.generation)) s (s.cells ++ cell ∷ []) (s.end + needle_total (length photo)) opened.index.end (cell_record cell ∷ [])
          opened.index.frozen (rows_more s.cells cell) longs f.lags f.index));
    }

-- THE PIECE OF THE LAST CELL

row_first : (at : ℕ) (bytes : List ℕ) (cells : List Cell) (cell : Cell) → AreCellsAt at bytes (cells ++ cell ∷ []) → (front : List ℕ) × AreCellsAt at front cells × (at + length front ≡ cell.at)
row_first at bytes [] cell are = ([], refl, omega (arith, are.3.place))
row_first at bytes (first ∷ cells) cell are =
    let rest = row_first (at + length are.0) are.1 cells cell are.4 in
    (are.0 ++ rest.0, (are.0, rest.0, refl, are.3, rest.1), omega (arith, rest.2, length-append are.0 rest.0))

has_last : (cells : List Cell) (cell : Cell) → HasPlace cell.at (cells ++ cell ∷ [])
has_last [] cell = inl refl
has_last (first ∷ cells) cell = inr (has_last cells cell)

pub stand_sealed : (sup : Super) (old new : Files) (opened : OpenFiles) (s : Stored) (pair : Pair) (cookie : Cookie) (photo : List ℕ) (at n : ℕ)
    → FilesStand sup old opened (with_cell s pair cookie photo) → at ≡ s.end
    → n ≡ needle_total (length photo) → Seals at n 28 (old opened.volume.file) (new opened.volume.file) → KeepsOthers opened.volume.file old new
    → FilesStand sup new opened (with_cell s pair cookie photo)
stand_sealed sup old new opened s pair cookie photo at n f there long seals_was others_was =
    let file : ℕ = volume_file s.generation in
    let file_is : opened.volume.file ≡ file = ap (λ (v : VolumeFile). v.file) f.volume in
    let others : KeepsOthers file old new = subst (λ k. KeepsOthers k old new) file_is others_was in
    let seals_there : Seals at n 28 (old file) (new file) = subst (λ k. Seals at n 28 (old k) (new k)) file_is seals_was in
    let seals_here : Seals s.end n 28 (old file) (new file) = subst (λ k. Seals k n 28 (old file) (new file)) there seals_there in
    let seals : Seals s.end (needle_total (length photo)) 28 (old file) (new file) = subst (λ k. Seals s.end k 28 (old file) (new file)) long seals_here in
    let cell : Cell = live_cell s.end pair cookie photo in
    let front = row_first 64 f.cells.is.has.needles s.cells cell f.cells.is.has.are in
    record {
      generation = f.generation;
      lags = f.lags;
      volume = f.volume;
      index_number = f.index_number;
      noted = f.noted;
      head = head_same sup old new file s.generation (volume_not_head s.generation) others f.head;
      cells = record {
        is = subst (λ (l : List ℕ). IsVolume (super_bytes (volume_super sup s.generation)) l (s.cells ++ cell ∷ []) (s.end + needle_total (length photo))) (sym seals.now) f.cells.is;
        solid = solid_seals s.end (needle_total (length photo)) 28 (old file) (new file) f.cells.solid seals;
        gate = gate_seals needle_magic (s.end + needle_total (length photo)) s.end (needle_total (length photo)) 28 (old file) (new file) (omega arith) f.cells.gate seals;
        flags = flags_more (new file) s.cells cell
            (flags_sealed 64 s.end (needle_total (length photo)) 28 front.0 s.cells (old file) (new file) front.1 (omega (arith, front.2)) seals
            (flags_first (old file) s.cells (cell ∷ []) f.cells.flags))
            (seals.free (s.end + 28) (flag_free (old file) s.end (s.cells ++ cell ∷ []) f.cells.flags (has_last s.cells cell)) (inr refl));
      };
      index =
          subst (λ (state : FileState). IndexStands sup state (with_cell s pair cookie photo) opened.index.end opened.index.frozen)
          (sym (others (index_file s.generation) (index_not_volume s.generation))) f.index;
    }

-- the piece has the needle
pub last_sealed : (Tells : Type 0) (sup : Super) (files : Files) (opened : OpenFiles) (s : Stored) (pair : Pair) (cookie : Cookie) (photo bytes : List ℕ) (at size n : ℕ) (needle : SealedNeedle)
    → FilesStand sup files opened (with_cell s pair cookie photo) → at ≡ s.end → size ≡ length photo → n ≡ needle_total (length photo) → needle ≡ record { at = at; size = size; bytes = bytes }
    → Tells → bytes ≡ take n (drop at (files opened.volume.file).now) → IsSealedCell Tells (live_cell s.end pair cookie photo) needle
last_sealed Tells sup files opened s pair cookie photo bytes at size n needle f there sized long is tells read =
    let file : ℕ = volume_file s.generation in
    let file_is : opened.volume.file ≡ file = ap (λ (v : VolumeFile). v.file) f.volume in
    let cell : Cell = live_cell s.end pair cookie photo in
    let stands = last_stands 64 (s.end + needle_total (length photo)) (files file).now s.cells cell f.cells.is.has in
    let same : bytes ≡ take (needle_total (length photo)) (drop s.end (files file).now) =
    read ∙ ap (λ k. take n (drop at (files k).now)) file_is ∙ ap (λ k. take n (drop k (files file).now)) there ∙ ap (λ k. take k (drop s.end (files file).now)) long in
    record {
      alive = refl;
      at = ap (λ (x : SealedNeedle). x.at) is ∙ there;
      sealed = record {
        tells = tells;
        size = ap (λ (x : SealedNeedle). x.size) is ∙ sized;
        version = cell.version;
        is = subst (λ (l : List ℕ). NeedleBytes l (needle_of_cell cell)) (sym (ap (λ (x : SealedNeedle). x.bytes) is ∙ same)) (needle_there (files file).now cell stands);
      };
    }

-- A CELL IS FLAGGED

pub record Flags (old new : Files) (file at : ℕ) : Type 0 where
  pub flagged : (superblock : List ℕ) (cells : List Cell) (end : ℕ) → IsVolume superblock (old file).now cells end → HasPlace at cells
      → IsVolume superblock (new file).now (with_flag at true cells) end
  pub solid : IsSolid (new file)
  pub gate : (end : ℕ) → at + 29 ≤ end → IsGate needle_magic end (old file) → IsGate needle_magic end (new file)
  pub changes : Changes (at + 28) 1 (old file) (new file)
  pub others : KeepsOthers file old new

pub flagged_rows : (at : ℕ) (cells : List Cell) → map cell_record (with_flag at true cells) ≡ map cell_record cells ++ []
flagged_rows at cells = records_flagged at true cells ∙ sym (append-nil (map cell_record cells))

pub stand_flagged : (sup : Super) (old new : Files) (opened : OpenFiles) (volume : VolumeFile) (s : Stored) (at : ℕ) → FilesStand sup old opened s → HasLive at s.cells
    → at + 29 ≤ opened.volume.end → volume ≡ opened.volume
    → Flags old new opened.volume.file at → FilesStand sup new (record opened { volume = volume }) (without_cell s at)
stand_flagged sup old new opened volume s at f live low_was stayed made =
    let file : ℕ = volume_file s.generation in
    let end_is : opened.volume.end ≡ s.end = ap (λ (v : VolumeFile). v.end) f.volume in
    let low : at + 29 ≤ s.end = omega (arith, low_was, end_is) in
    let a : Flags old new file at = subst (λ (v : VolumeFile). Flags old new v.file at) f.volume made in
    let many = length-with_flag at true s.cells in
    record {
      generation = f.generation;
      lags = omega (arith, f.lags, many);
      volume = stayed ∙ f.volume;
      index_number = f.index_number;
      noted = f.noted ∙ ap (λ (l : List Record). drop s.records l) (sym (records_flagged at true s.cells));
      head = head_same sup old new file s.generation (volume_not_head s.generation) a.others f.head;
      cells = record {
        is = a.flagged (super_bytes (volume_super sup s.generation)) s.cells s.end f.cells.is (live_place at s.cells live);
        solid = a.solid;
        gate = a.gate s.end low f.cells.gate;
        flags = flags_flagged (new file) at true s.cells (flags_kept (old file) (new file) s.cells a.changes.free f.cells.flags);
      };
      index = subst (λ (state : FileState). IndexStands sup state (without_cell s at) opened.index.end opened.index.frozen) (sym (a.others (index_file s.generation) (index_not_volume s.generation)))
          (index_longer sup (old (index_file s.generation)) s (with_flag at true s.cells) s.end opened.index.end [] opened.index.frozen (flagged_rows at s.cells) (omega (arith, many)) f.lags f.index);
    }

-- THE RECORDS ARE FLUSHED

all_records : (s : Stored) → recorded s ++ unrecorded s ≡ map cell_record s.cells
all_records s = take-append-drop s.records (map cell_record s.cells)

pub row_all : (sup : Super) (files : Files) (opened : OpenFiles) (s : Stored) → FilesStand sup files opened s → AreInRow 64 (recorded s ++ opened.index.pending)
row_all sup files opened s f =
    subst (λ (l : List Record). AreInRow 64 l) (sym (ap (λ (l : List Record). recorded s ++ l) f.noted ∙ all_records s)) (cells_row 64 f.cells.is.has.needles s.cells f.cells.is.has.are)

all_taken : (s : Stored) → recorded (all_recorded s) ≡ map cell_record s.cells
all_taken s = take_all (length s.cells) (map cell_record s.cells) (omega (arith, length-map s.cells cell_record))

none_left : (s : Stored) → unrecorded (all_recorded s) ≡ []
none_left s = drop_all (length s.cells) (map cell_record s.cells) (omega (arith, length-map s.cells cell_record))

pub record Flushes (old new : Files) (index next : IndexFile) : Type 0 where
  pub moved : next ≡ record index { end = next.end; pending = [] }
  pub added : (superblock : List ℕ) (records : List Record) → IsIndex superblock (old index.file).now records index.end → AreInRow 64 (records ++ index.pending)
      → IsIndex superblock (new index.file).now (records ++ index.pending) next.end
  pub solid : IsSolid (new index.file)
  pub gate : IsGate index_magic next.end (new index.file)
  pub others : KeepsOthers index.file old new

-- an index that is not stuck
pub index_rests : (sup : Super) (file : FileState) (s : Stored) (end : ℕ) (frozen : Bool) → frozen ≡ false → IndexStands sup file s end frozen → IndexRests sup file s end
index_rests sup file s end frozen live index = subst (λ (b : Bool). IndexStands sup file s end b) live index

pub stand_flushed : (sup : Super) (old new : Files) (opened : OpenFiles) (next : IndexFile) (s : Stored) → FilesStand sup old opened s → opened.index.frozen ≡ false → Flushes old new opened.index next
    → FilesStand sup new (record opened { index = next }) (all_recorded s)
stand_flushed sup old new opened next s f live a =
    let rests = index_rests sup (old (index_file s.generation)) s opened.index.end opened.index.frozen live f.index in
    let volume_apart : volume_file s.generation ≢ opened.index.file = λ e. index_not_volume s.generation (sym (e ∙ f.index_number)) in
    let head_apart : 0 ≢ opened.index.file = λ e. index_not_head s.generation (e ∙ f.index_number) in
    let was : IsIndex (super_bytes (index_super sup s.generation)) (old opened.index.file).now (recorded s) opened.index.end =
    subst (λ k. IsIndex (super_bytes (index_super sup s.generation)) (old k).now (recorded s) opened.index.end) (sym f.index_number) rests.is in
    let now = a.added (super_bytes (index_super sup s.generation)) (recorded s) was (row_all sup old opened s f) in
    let rows : recorded s ++ opened.index.pending ≡ recorded (all_recorded s) = ap (λ (l : List Record). recorded s ++ l) f.noted ∙ all_records s ∙ sym (all_taken s) in
    let is : IsIndex (super_bytes (index_super sup s.generation)) (new opened.index.file).now (recorded (all_recorded s)) next.end =
    subst (λ (l : List Record). IsIndex (super_bytes (index_super sup s.generation)) (new opened.index.file).now l next.end) rows now in
    let there : IndexRests sup (new opened.index.file) (all_recorded s) next.end = record { is = is; solid = a.solid; gate = a.gate } in
    let here : IndexRests sup (new (index_file s.generation)) (all_recorded s) next.end = subst (λ k. IndexRests sup (new k) (all_recorded s) next.end) f.index_number there in
    let going : next.frozen ≡ false = ap (λ (i : IndexFile). i.frozen) a.moved ∙ live in
    record {
      generation = f.generation;
      lags = omega arith;
      volume = f.volume;
      index_number = ap (λ (i : IndexFile). i.file) a.moved ∙ f.index_number;
      noted = ap (λ (i : IndexFile). i.pending) a.moved ∙ sym (none_left s);
      head = head_same sup old new opened.index.file s.generation head_apart a.others f.head;
      cells = subst (λ (file : FileState). VolumeRests sup file (all_recorded s)) (sym (a.others (volume_file s.generation) volume_apart))
          (record { is = f.cells.is; solid = f.cells.solid; gate = f.cells.gate; flags = f.cells.flags });
      index = subst (λ (b : Bool). IndexStands sup (new (index_file s.generation)) (all_recorded s) next.end b) (sym going) here;
    }

-- how many these were
pub count_flushed : (sup : Super) (files : Files) (opened : OpenFiles) (s : Stored) (n : ℕ) → FilesStand sup files opened s → n ≡ length opened.index.pending → n + s.records ≡ length s.cells
count_flushed sup files opened s n f is =
    omega (
      arith,
      is,
      f.lags,
      ap length f.noted,
      ap length (all_records s),
      length-append (recorded s) (unrecorded s),
      length-map s.cells cell_record,
      take_long s.records (map cell_record s.cells) (omega (arith, f.lags, length-map s.cells cell_record)),
    )
  where
    take_long : (n : ℕ) (l : List Record) → n ≤ length l → length (take n l) ≡ n
    take_long n l within = Rattle.std.proofs.lemmas.List.length-take-le n l within

-- a flush that failed
pub stand_stuck : (sup : Super) (old new : Files) (opened : OpenFiles) (next : IndexFile) (s : Stored) → FilesStand sup old opened s → opened.index.frozen ≡ false
    → next ≡ record opened.index { frozen = true }
    → KeepsOthers opened.index.file old new
    → ((superblock : List ℕ) (records : List Record) (image : List ℕ) → IsIndex superblock (old opened.index.file).now records opened.index.end → AreInRow 64 (records ++ opened.index.pending)
    → IsSolidIn 0 opened.index.end (old opened.index.file) → IsImage (new opened.index.file) image
    → IsIndex superblock image records opened.index.end ⊎ IsIndex superblock image (records ++ opened.index.pending) (opened.index.end + 16 + 32 * length opened.index.pending))
    → FilesStand sup new (record opened { index = next }) s
stand_stuck sup old new opened next s f live froze others left =
    let rests = index_rests sup (old (index_file s.generation)) s opened.index.end opened.index.frozen live f.index in
    let volume_apart : volume_file s.generation ≢ opened.index.file = λ e. index_not_volume s.generation (sym (e ∙ f.index_number)) in
    let head_apart : 0 ≢ opened.index.file = λ e. index_not_head s.generation (e ∙ f.index_number) in
    let bytes : List ℕ = super_bytes (index_super sup s.generation) in
    let was : IsIndex bytes (old opened.index.file).now (recorded s) opened.index.end = subst (λ k. IsIndex bytes (old k).now (recorded s) opened.index.end) (sym f.index_number) rests.is in
    let solid : IsSolid (old opened.index.file) = subst (λ k. IsSolid (old k)) (sym f.index_number) rests.solid in
    let rows : recorded s ++ opened.index.pending ≡ take (length s.cells) (map cell_record s.cells) = ap (λ (l : List Record). recorded s ++ l) f.noted ∙ all_records s ∙ sym (all_taken s) in
    let images : IndexStands sup (new (index_file s.generation)) s next.end true = λ image leaves.
    elim (left bytes (recorded s) image was (row_all sup old opened s f) (λ k from to. solid.places k) (subst (λ k. IsImage (new k) image) (sym f.index_number) leaves)) [
      | inl same ↦ record { records = s.records; end = opened.index.end; fewer = omega arith; lags = f.lags; is = same }
      | inr more ↦ record {
        records = length s.cells;
        end = opened.index.end + 16 + 32 * length opened.index.pending;
        fewer = f.lags;
        lags = omega arith;
        is = subst (λ (l : List Record). IsIndex bytes image l (opened.index.end + 16 + 32 * length opened.index.pending)) rows more;
      }
    ] in
    let stuck : next.frozen ≡ true = ap (λ (i : IndexFile). i.frozen) froze in
    record {
      generation = f.generation;
      lags = f.lags;
      volume = f.volume;
      index_number = ap (λ (i : IndexFile). i.file) froze ∙ f.index_number;
      noted = ap (λ (i : IndexFile). i.pending) froze ∙ f.noted;
      head = head_same sup old new opened.index.file s.generation head_apart others f.head;
      cells = subst (λ (file : FileState). VolumeRests sup file s) (sym (others (volume_file s.generation) volume_apart)) f.cells;
      index = subst (λ (b : Bool). IndexStands sup (new (index_file s.generation)) s next.end b) (sym stuck) images;
    }

-- a live cell's flags can be written
pub stand_flag : (sup : Super) (files : Files) (opened : OpenFiles) (s : Stored) (at : ℕ) → FilesStand sup files opened s → HasLive at s.cells → MayFlag (files opened.volume.file) opened.volume.end at
stand_flag sup files opened s at f live =
    let has = live_place at s.cells live in
    let range = placed 64 at f.cells.is.has.needles s.cells f.cells.is.has.are has in
    let here : MayFlag (files (volume_file s.generation)) s.end at = record {
      within = omega (arith, range.1, f.cells.is.has.ends);
      free = flag_free (files (volume_file s.generation)) at s.cells f.cells.flags has;
    } in
    subst (λ (v : VolumeFile). MayFlag (files v.file) v.end at) (sym f.volume) here

-- what follows where a call did not fail
pub unless_err : {T E : Type 0} (r : Result T E) (P : Type 0) → false ≡ is_err r → OnOk r P → P
unless_err (Ok value) P fine holds = holds
unless_err (Err fault) P fine holds = absurd (let e : false ≡ true = fine in cc)

-- what two clauses on a failure say together
pub on_err : {T E : Type 0} (r : Result T E) (P Q R : Type 0) → (P → Q → R) → OnErr r P → OnErr r Q → OnErr r R
on_err (Ok value) P Q R both p q = tt
on_err (Err fault) P Q R both p q = both p q

-- where nothing was pending, the index stays as it was
pub solid_flushed : (old new : FileState) (pending : List Record) → IsSolid old → (pending ≡ [] → new ≡ old) → (0 < length pending → IsSolid new) → IsSolid new
solid_flushed old new [] solid nothing flushed = subst IsSolid (sym (nothing refl)) solid
solid_flushed old new (row ∷ pending) solid nothing flushed = flushed (omega arith)

-- an index that can be flushed is solid
pub index_solid : (sup : Super) (files : Files) (opened : OpenFiles) (s : Stored) → FilesStand sup files opened s → opened.index.frozen ≡ false → IsSolid (files opened.index.file)
index_solid sup files opened s f live =
    let rests = index_rests sup (files (index_file s.generation)) s opened.index.end opened.index.frozen live f.index in
    subst (λ k. IsSolid (files k)) (sym f.index_number) rests.solid
