-- A cell is examined.
use Rattle.std.proofs.Common.{◌≡◌, ◌≢◌, ◌⊎◌, inl, inr, ◌≤◌, ◌<◌, ◌+◌, ◌-◌, ◌^◌, ℕ, Bool, true, false, not, ◌&&◌, cond, eqb, List, [], ◌∷◌, ◌++◌, length, take, drop, Option, Some}
use Rattle.std.proofs.Common.{None, Result, Err, refl, sym, ap, ◌∙◌, subst, arith}
use Rattle.std.specs.Prelude.{All, map, option_map, slice_range}
use Rattle.std.specs.Option.{option_or, option_eq}
use Rattle.std.proofs.lemmas.Bool.{cases_Bool, true≢false, and_from, and_parts, not-true, eq-eqb, eqb-true}
use Rattle.std.proofs.lemmas.List.{drop_at, length-append, map-append, take_at}
use Rattle.std.proofs.lemmas.List.Elements.{All-append, All-cons, All-nil, All-push, All-weaker}
use Rattle.hay_needle.specs.declared.needle.Cell.{Cell}
use Rattle.hay_needle.specs.declared.needle.Cookie.{Cookie}
use Rattle.hay_needle.specs.declared.needle.Row.{Row}
use Rattle.hay_needle.specs.declared.needle.Version.TheVariants.{Two}
use Rattle.hay_needle.specs.declared.needle.CellHead.{CellHead}
use Rattle.hay_needle.specs.declared.needle.Needle.{Needle}
use Rattle.hay_needle.specs.declared.needle.Pair.{Pair}
use Rattle.hay_needle.specs.declared.settings.Super.{Super}
use Rattle.hay_needle.specs.Copies.{CopiesAt}
use Rattle.hay_needle.specs.Needle.{footer_bytes, head_bytes, head_of_needle, live, needle_of_cell}
use Rattle.hay_needle.specs.Sizes.{max_photo, needle_total}
use Rattle.hay_needle.specs.Super.{super_bytes}
use Rattle.hay_needle.specs.Tables.{is_live, lacks, look, needle_row, pair_eq, rows_of}
use Rattle.hay_needle.proofs.CopyLaws.{copies_one}
use Rattle.hay_needle.proofs.Needles.{length-head, length-needle, max_photo-le}
use Rattle.hay_needle.specs.declared.total.TheConstants.{MAX_PHOTO}
use Rattle.hay_disk.specs.Disk.{Files, FileState, KeepsOthers}
use Rattle.hay_volume.specs.declared.fault.CellFault.{CellFault}
use Rattle.hay_volume.specs.declared.volume.VolumeFile.{VolumeFile}
use Rattle.hay_volume.specs.Cells.{HasCells, IsCellAt, IsMarked, IsVolume, cell_head, live_cell, needles_of}
use Rattle.hay_volume.proofs.Volumes.{length-marked}
use Rattle.hay_index.specs.declared.index.IndexFile.{IndexFile}
use Rattle.hay_index.specs.declared.record.Record.{Record}
use Rattle.hay_index.specs.Records.{IsIndex}
use Rattle.hay_open.specs.Stored.{cell_record, index_super, last_cell, volume_super}
use Rattle.hay_compact.specs.declared.standing.LastCell.{LastCell}
use Rattle.hay_compact.specs.Standing.{LastCells, last_in}
use Rattle.hay_compact.specs.Copying.{Copying, HasPeeked, HasRead, IsCopy, IsHeadOf, IsLatest, IsMaking, IsSafe, Making, MovesOn, RowWithin, Stage, cell_total, kept_cell}
use Rattle.hay_compact.specs.Copying.{live_among, renewed, renewed_needle}
use Rattle.hay_compact.proofs.LiveNeedles.{next_among}
use Rattle.hay_compact.proofs.CellLists.{lacks_more, lacks_parts, last_cell-append, latest_live, other_dead}
use Rattle.hay_compact.proofs.Copyings.{current_parts, end_next, needles_next, skips, within_next}

-- WHAT WAS READ

pub read_long : (at : ℕ) (bytes : List ℕ) (head : CellHead) → HasRead at bytes head → length bytes ≡ needle_total head.size
read_long at bytes head h =
    length-needle bytes (needle_of_cell h.cell) h.is.is.is ∙ ap (λ (x : CellHead). needle_total x.size) (sym h.is.head_is)

pub read_small : (at : ℕ) (bytes : List ℕ) (head : CellHead) → HasRead at bytes head → head.size ≤ MAX_PHOTO
read_small at bytes head h =
    let size : head.size ≡ length h.cell.bytes = ap (λ (x : CellHead). x.size) h.is.head_is in
    let fits = h.is.is.is.fits.size in
    omega (arith, max_photo-le h.cell.version)

-- the needle of a head that was peeked at
pub read_of : (end at : ℕ) (bytes : List ℕ) (head : CellHead) (cell : Cell) → HasPeeked end at head → IsCellAt at bytes cell → head ≡ cell_head cell → HasRead at bytes head
read_of end at bytes head cell peeked is heads =
    let size : needle_total head.size ≡ needle_total (length cell.bytes) = ap (λ (x : CellHead). needle_total x.size) heads in
    let inside = peeked.inside in
    record {
      cell = cell;
      is = record { is = is; head_is = heads };
      inside = omega (arith, length-needle bytes (needle_of_cell cell) is.is);
    }

-- its photo among its bytes
pub photo_there : (at : ℕ) (bytes photo : List ℕ) (head : CellHead) (cell : Cell) → IsCopy at bytes head cell → photo ≡ take head.size (drop 36 bytes) → photo ≡ cell.bytes
photo_there at bytes photo head cell copy is =
    let needle : Needle = needle_of_cell cell in
    let flags : ℕ = copy.is.is.flags in
    let first : List ℕ = head_bytes (head_of_needle needle) flags in
    let long : length first ≡ 36 = length-head first (head_of_needle needle) (record { flags = flags; spelled = refl; fits = copy.is.is.fits }) in
    is ∙ ap (λ (l : List ℕ). take head.size (drop 36 l)) copy.is.is.spelled
    ∙ ap (λ (l : List ℕ). take head.size l) (drop_at first (cell.bytes ++ footer_bytes needle) 36 long)
    ∙ take_at cell.bytes (footer_bytes needle) head.size (sym (ap (λ (x : CellHead). x.size) copy.head_is))

pub photo_seen : (size : ℕ) (seen bytes : List ℕ) → seen ≡ bytes → slice_range seen 36 (36 + size) ≡ take size (drop 36 bytes)
photo_seen size seen bytes same = ap (λ k. take k (drop 36 seen)) (let e : 36 + size - 36 ≡ size = omega arith in e) ∙ ap (λ (l : List ℕ). take size (drop 36 l)) same

-- its needle anew, and the end mark behind it
pub anew_long : (at : ℕ) (bytes photo anew : List ℕ) (head : CellHead) → HasRead at bytes head → photo ≡ take head.size (drop 36 bytes)
    → IsMarked anew (live head.pair head.cookie photo) → length anew ≡ needle_total head.size + 8
anew_long at bytes photo anew head h seen marked =
    let size : length photo ≡ head.size = ap length (photo_there at bytes photo head h.cell h.is seen) ∙ sym (ap (λ (x : CellHead). x.size) h.is.head_is) in
    length-marked anew (live head.pair head.cookie photo) marked ∙ ap (λ k. needle_total k + 8) size

-- nothing bounds the new file
pub anew_fits : (s : Stage) (anew : List ℕ) (head : CellHead) → HasRead s.next s.bytes head → IsSafe s.generation s.volume s.index s.next → length anew ≡ needle_total head.size + 8
    → s.volume.end + length anew ≤ s.volume.capacity
anew_fits s anew head h safe long =
    let behind = safe.behind in
    let unbounded = safe.unbounded in
    omega (arith, read_long s.next s.bytes head h, h.inside)

-- with this photo a live needle of version 2 is the cell anew
pub renewed_is : (at next : ℕ) (bytes photo : List ℕ) (head : CellHead) (cell : Cell) → IsCopy next bytes head cell → head.deleted ≡ false → photo ≡ cell.bytes
    → live_cell at head.pair head.cookie photo ≡ renewed at cell
renewed_is at next bytes photo head cell copy alive is =
    let with : Pair → Cookie → List ℕ → Bool → Cell = λ p k l b. record { at = at; version = Two; pair = p; cookie = k; bytes = l; deleted = b } in
    ap (λ (x : CellHead). with x.pair x.cookie photo false) copy.head_is
    ∙ ap (λ (l : List ℕ). with cell.pair cell.cookie l false) is
    ∙ ap (λ (b : Bool). with cell.pair cell.cookie cell.bytes b) (sym alive ∙ ap (λ (x : CellHead). x.deleted) copy.head_is)

-- the sum of the places
pub read_fits : (at next total : ℕ) (bytes : List ℕ) (head : CellHead) → HasRead at bytes head → next ≡ at → total ≡ needle_total head.size → next + total < 2 ^ 64
read_fits at next total bytes head h same is = omega (arith, read_long at bytes head h, h.inside)

-- one more cell in the new file, behind which the current one's next cell stands
pub stays_safe : (s : Stage) (volume : VolumeFile) (index : IndexFile) (row : Record) (head : CellHead) (total : ℕ) (anew : List ℕ) → HasRead s.next s.bytes head
    → length anew ≡ needle_total head.size + 8 → IsSafe s.generation s.volume s.index s.next
    → volume ≡ record s.volume { end = s.volume.end + (length anew - 8) }
    → index ≡ record s.index { pending = s.index.pending ++ row ∷ [] } → row.at ≡ s.volume.end → row.size ≡ head.size → total ≡ needle_total head.size
    → IsSafe s.generation volume index (s.next + total)
stays_safe s volume index row head total anew h long safe grown noted at size is =
    let Small : Record → Type 0 = λ (r : Record). r.size ≤ max_photo Two in
    let end : volume.end ≡ s.volume.end + (length anew - 8) = ap (λ (v : VolumeFile). v.end) grown in
    let from = safe.from in
    let behind = safe.behind in
    let small = read_small s.next s.bytes head h in
    record {
      named = ap (λ (v : VolumeFile). v.file) grown ∙ safe.named;
      unbounded = ap (λ (v : VolumeFile). v.capacity) grown ∙ safe.unbounded;
      from = omega arith;
      behind = omega arith;
      thawed = ap (λ (i : IndexFile). i.frozen) noted ∙ safe.thawed;
      small = subst (λ (i : IndexFile). All Small i.pending) (sym noted) (All-append Small s.index.pending (row ∷ []) safe.small (All-cons Small row [] (omega arith) (All-nil Small)));
      within =
          let total_is : needle_total row.size ≡ needle_total head.size = ap needle_total size in
          let old : All (RowWithin volume.end) s.index.pending =
          All-weaker (RowWithin s.volume.end) (RowWithin volume.end) (λ (r : Record) lies. (lies.0, omega (arith, lies.1, end))) s.index.pending safe.within in
          subst (λ (i : IndexFile). All (RowWithin volume.end) i.pending) (sym noted)
          (All-append (RowWithin volume.end) s.index.pending (row ∷ []) old (All-cons (RowWithin volume.end) row []
          (omega (arith, at, from), omega (arith, at, end, long, total_is)) (All-nil (RowWithin volume.end))));
    }

-- A CELL IS SKIPPED

head_deleted : (head : CellHead) (cell : Cell) → head ≡ cell_head cell → head.deleted ≡ cell.deleted
head_deleted head cell is = ap (λ (x : CellHead). x.deleted) is

is_dead : (deleted last : Bool) → (deleted ≡ true) ⊎ (last ≡ false) → (not deleted && last) ≡ false
is_dead true last why = refl
is_dead false true why = elim why [ inl gone ↦ absurd (true≢false (sym gone)) | inr none ↦ none ]
is_dead false false why = refl

pub copy_skips : (sup : Super) (files : Files) (old : VolumeFile) (s new : Stage) (current fresh : List Cell) (n at total : ℕ) (cell : Cell) (head : CellHead) (latest : Option ℕ)
    → Copying sup files old s current fresh n → drop n current ≡ cell ∷ drop (n + 1) current → IsHeadOf s.next head cell → IsLatest current cell.pair latest
    → (head.deleted ≡ true) ⊎ (latest ≢ Some s.next) → total ≡ needle_total head.size → new ≡ record s { next = s.next + total }
    → MovesOn sup files old new current fresh n cell at false
copy_skips sup files old s new current fresh n at total cell head latest h is copy last why size moves =
    let behind : List Cell = drop (n + 1) current in
    let parts = current_parts n current cell is in
    let at_parts : IsLatest (take n current ++ cell ∷ behind) cell.pair latest = subst (λ (l : List Cell). IsLatest l cell.pair latest) parts last in
    let dead : is_live (needle_of_cell cell) (needles_of behind) ≡ false =
    is_dead cell.deleted (lacks cell.pair (needles_of behind))
    (elim (cases_Bool cell.deleted) [
      | inl gone ↦ inl gone
      | inr alive ↦ inr (
          other_dead (take n current) behind cell latest at_parts
          (λ same. elim why [
            | inl gone ↦ true≢false (sym gone ∙ head_deleted head cell copy.head_is ∙ alive)
            | inr other ↦ other (same ∙ ap (λ k. Some k) copy.place)
          ])
          alive)
    ]) in
    let step : s.next + total ≡ s.next + cell_total cell = omega (arith, size, ap (λ (x : CellHead). needle_total x.size) copy.head_is) in
    subst (λ (x : Stage). MovesOn sup files old x current fresh n cell at false) (sym moves)
    (skips sup files old s current fresh n at (s.next + total) cell h is dead step)

-- A CELL IS COPIED

-- what is kept of a cell that is not deleted
abbrev pub copied_at : ℕ → LastCell
copied_at at = record { at = at; deleted = false }

-- what that makes of the new files
pub copy_makes : (sup : Super) (files later : Files) (s : Stage) (volume : VolumeFile) (index : IndexFile) (standing : LastCells) (fresh : List Cell) (next : ℕ) (cell : Cell)
    (head : CellHead) (row : Record) (photo : List ℕ)
    → Making sup files s fresh → IsCopy s.next s.bytes head cell → head.deleted ≡ false → photo ≡ take head.size (drop 36 s.bytes)
    → volume.file ≡ s.volume.file
    → ((superblock : List ℕ) (cells : List Cell) → IsVolume superblock (files s.volume.file).now cells s.volume.end
    → IsVolume superblock (later s.volume.file).now (cells ++ live_cell s.volume.end head.pair head.cookie photo ∷ []) volume.end)
    → ((k : ℕ) → (files s.volume.file).sealed k ≡ false → (later s.volume.file).sealed k ≡ false) → KeepsOthers s.volume.file files later
    → index ≡ record s.index { pending = s.index.pending ++ row ∷ [] } → row ≡ record { pair = head.pair; at = s.volume.end; size = head.size }
    → ((pair : Pair) → last_in standing pair ≡ cond (pair_eq head.pair pair) (Some (copied_at s.volume.end)) (last_in s.standing pair))
    → Making sup later (record s { volume = volume; index = index; standing = standing; next = next }) (fresh ++ renewed s.volume.end cell ∷ [])
copy_makes sup files later s volume index standing fresh next cell head row photo h copy alive seen file added free others noted row_is set = record {
  names_volume = file ∙ h.names_volume;
  names_index = ap (λ (i : IndexFile). i.file) noted ∙ h.names_index;
  volume_is = subst (λ k. IsVolume (super_bytes (volume_super sup s.generation)) (later k).now (fresh ++ copied ∷ []) volume.end) (sym file)
      (subst (λ (c : Cell). IsVolume (super_bytes (volume_super sup s.generation)) (later s.volume.file).now (fresh ++ c ∷ []) volume.end)
      (renewed_is s.volume.end s.next s.bytes photo head cell copy alive (photo_there s.next s.bytes photo head cell copy seen))
      (added (super_bytes (volume_super sup s.generation)) fresh h.volume_is));
  index_is = subst (λ (i : IndexFile). IsIndex (super_bytes (index_super sup s.generation)) (later i.file).now [] i.end) (sym noted)
      (subst (λ (f : FileState). IsIndex (super_bytes (index_super sup s.generation)) f.now [] s.index.end) (sym index_stays) h.index_is);
  volume_free = λ k. subst (λ j. (later j).sealed k ≡ false) (sym file) (free k (h.volume_free k));
  index_free = λ k. subst (λ (i : IndexFile). (later i.file).sealed k ≡ false) (sym noted) (ap (λ (f : FileState). f.sealed k) index_stays ∙ h.index_free k);
  noted =
      ap (λ (i : IndexFile). i.pending) noted ∙ ap (λ (l : List Record). l ++ row ∷ []) h.noted ∙ ap (λ (r : Record). map cell_record fresh ++ r ∷ []) record_is
      ∙ sym (map-append cell_record fresh (copied ∷ []));
  anew = All-push IsAnew fresh copied h.anew refl;
  places = λ pair. set pair ∙ placed pair;
  capacity_is = h.capacity_is;
}
  where
    copied : Cell
    copied = renewed s.volume.end cell

    IsAnew : Cell → Type 0
    IsAnew c = c.version ≡ Two

    index_stays : later s.index.file ≡ files s.index.file
    index_stays = others s.index.file (λ same. let a = h.names_volume in let b = h.names_index in absurd (omega arith))

    record_is : row ≡ cell_record copied
    record_is = row_is ∙ (let with : CellHead → Record = λ x. record { pair = x.pair; at = s.volume.end; size = x.size } in ap with copy.head_is)

    kept : copied.deleted ≡ false
    kept = sym (head_deleted head cell copy.head_is) ∙ alive

    pair_is : head.pair ≡ cell.pair
    pair_is = ap (λ (x : CellHead). x.pair) copy.head_is

    by_test : (b : Bool) (o : Option Cell) → cond b (Some (copied_at s.volume.end)) (option_map kept_cell o) ≡ option_map kept_cell (option_or (cond b (Some copied) None) o)
    by_test true o = ap (λ d. let last : LastCell = record { at = s.volume.end; deleted = d } in Some last) (sym kept)
    by_test false o = refl

    placed : (pair : Pair) → cond (pair_eq head.pair pair) (Some (copied_at s.volume.end)) (last_in s.standing pair) ≡ option_map kept_cell (last_cell (fresh ++ copied ∷ []) pair)
    placed pair =
        ap (λ (o : Option LastCell). cond (pair_eq head.pair pair) (Some (copied_at s.volume.end)) o) (h.places pair)
        ∙ by_test (pair_eq head.pair pair) (last_cell fresh pair)
        ∙ ap (λ (p : Pair). option_map kept_cell (option_or (cond (pair_eq p pair) (Some copied) None) (last_cell fresh pair))) pair_is
        ∙ ap (option_map kept_cell) (sym (last_cell-append fresh (copied ∷ []) pair))

-- the version counts for nothing in the table
rows_renewed : (fresh : List Needle) (needle : Needle) → rows_of (fresh ++ renewed_needle needle ∷ []) ≡ rows_of (fresh ++ needle ∷ [])
rows_renewed fresh needle = map-append needle_row fresh (renewed_needle needle ∷ []) ∙ sym (map-append needle_row fresh (needle ∷ []))

rows_renewed_before : (fresh behind : List Needle) (needle : Needle) → rows_of ((fresh ++ renewed_needle needle ∷ []) ++ behind) ≡ rows_of ((fresh ++ needle ∷ []) ++ behind)
rows_renewed_before fresh behind needle =
    map-append needle_row (fresh ++ renewed_needle needle ∷ []) behind ∙ ap (λ (l : List Row). l ++ rows_of behind) (rows_renewed fresh needle)
    ∙ sym (map-append needle_row (fresh ++ needle ∷ []) behind)

copies_renewed : (pair : Pair) (fresh current : List Needle) (n : ℕ) (needle : Needle) → CopiesAt pair (fresh ++ needle ∷ []) current n → CopiesAt pair (fresh ++ renewed_needle needle ∷ []) current n
copies_renewed pair fresh current n needle h = record {
  table = ap (λ (l : List Row). look l pair) (rows_renewed_before fresh (drop n current) needle) ∙ h.table;
  gone = λ none. ap (λ (l : List Row). look l pair) (rows_renewed fresh needle) ∙ h.gone none;
}

pub copy_copies : (sup : Super) (files later : Files) (old : VolumeFile) (s : Stage) (volume : VolumeFile) (index : IndexFile) (standing : LastCells) (current fresh : List Cell)
    (n total : ℕ) (cell : Cell) (head : CellHead) (latest : Option ℕ)
    → Copying sup files old s current fresh n → drop n current ≡ cell ∷ drop (n + 1) current → IsCopy s.next s.bytes head cell → IsLatest current cell.pair latest
    → head.deleted ≡ false → latest ≡ Some s.next → total ≡ needle_total head.size
    → volume.file ≡ s.volume.file → index.file ≡ s.index.file → KeepsOthers s.volume.file files later
    → Making sup later (record s { volume = volume; index = index; standing = standing; next = s.next + total }) (fresh ++ renewed s.volume.end cell ∷ [])
    → MovesOn sup later old (record s { volume = volume; index = index; standing = standing; next = s.next + total }) current fresh n cell s.volume.end true
copy_copies sup files later old s volume index standing current fresh n total cell head latest h is copy last alive here size file index_file others made = record {
  copying = record {
    names_volume = made.names_volume;
    names_index = made.names_index;
    volume_is = made.volume_is;
    index_is = made.index_is;
    volume_free = made.volume_free;
    index_free = made.index_free;
    noted = made.noted;
    anew = made.anew;
    places = made.places;
    capacity_is = made.capacity_is;
    volume_apart = λ same. h.volume_apart (same ∙ file);
    index_apart = λ same. h.index_apart (same ∙ index_file);
    superblock = h.superblock;
    current_is = subst (λ (f : FileState). IsVolume h.superblock f.now current old.end) (sym (others old.file h.volume_apart)) h.current_is;
    within = within_next n current cell h.within is;
    next_is = (let before = h.next_is in omega (arith, end_next n current cell is, size, ap (λ (x : CellHead). needle_total x.size) copy.head_is));
    known = λ pair none. lacks_more pair fresh copied (h.known pair none) (not_here pair none);
  };
  live = sym lives;
  table = λ pair table.
      subst (λ (l : List Needle). CopiesAt pair l (needles_of current) (n + 1)) (sym (map-append needle_of_cell fresh (copied ∷ [])))
      (copies_renewed pair (needles_of fresh) (needles_of current) (n + 1) (needle_of_cell cell)
      (copies_one pair (needles_of fresh) (needles_of current) n (needle_of_cell cell) (needles_of (drop (n + 1) current)) (needles_next n current cell is) lives table));
  exact = λ exact.
      map-append needle_of_cell fresh (copied ∷ []) ∙ ap (λ (l : List Needle). l ++ renewed_needle (needle_of_cell cell) ∷ []) exact
      ∙ sym (map-append renewed_needle (live_among n (needles_of current)) (needle_of_cell cell ∷ []))
      ∙ ap (map renewed_needle) (sym (next_among n (needles_of current) (needle_of_cell cell) (needles_of (drop (n + 1) current)) (needles_next n current cell is)
      ∙ ap (λ (b : Bool). live_among n (needles_of current) ++ cond b (needle_of_cell cell ∷ []) []) lives));
}
  where
    copied : Cell
    copied = renewed s.volume.end cell

    kept : cell.deleted ≡ false
    kept = sym (head_deleted head cell copy.head_is) ∙ alive

    parts : current ≡ take n current ++ cell ∷ drop (n + 1) current
    parts = current_parts n current cell is

    not_here : (pair : Pair) → lacks pair (needles_of current) ≡ true → pair_eq cell.pair pair ≡ false
    not_here pair none =
        let later = (lacks_parts pair (take n current) (cell ∷ drop (n + 1) current) (subst (λ (l : List Cell). lacks pair (needles_of l) ≡ true) parts none)).1 in
        not-true (pair_eq cell.pair pair) (and_parts (not (pair_eq cell.pair pair)) (lacks pair (needles_of (drop (n + 1) current))) later).0

    lives : is_live (needle_of_cell cell) (needles_of (drop (n + 1) current)) ≡ true
    lives = and_from (not cell.deleted) (lacks cell.pair (needles_of (drop (n + 1) current))) (ap not kept)
        (latest_live old.end (files old.file).now (take n current) (drop (n + 1) current) cell latest
        (subst (λ (l : List Cell). HasCells 64 (files old.file).now l old.end) parts h.current_is.has) (subst (λ (l : List Cell). IsLatest l cell.pair latest) parts last)
        (here ∙ ap (λ k. Some k) (sym copy.is.place)))

-- NOTHING WAS COPIED

off_last : (xs ys : List Record) (x y : Record) → xs ++ x ∷ [] ≡ ys ++ y ∷ [] → xs ≡ ys
off_last [] [] x y is = refl
off_last [] (b ∷ ys) x y is = absurd (omega (arith, ap length is, length-append ys (y ∷ [])))
off_last (a ∷ xs) [] x y is = absurd (omega (arith, ap length is, length-append xs (x ∷ [])))
off_last (a ∷ xs) (b ∷ ys) x y is =
    let first : a ≡ b = cc in
    let rest : xs ++ x ∷ [] ≡ ys ++ y ∷ [] = cc in
    ap (λ r. r ∷ xs) first ∙ ap (λ (l : List Record). b ∷ l) (off_last xs ys x y rest)

-- a record that was taken off again
pub unnoted : (a b m : IndexFile) (r q : Record) → m ≡ record b { pending = b.pending ++ r ∷ [] } → m ≡ record a { pending = a.pending ++ q ∷ [] } → b ≡ a
unnoted a b m r q is was =
    let both : record b { pending = b.pending ++ r ∷ [] } ≡ record a { pending = a.pending ++ q ∷ [] } = sym is ∙ was in
    let list : b.pending ≡ a.pending = off_last b.pending a.pending r q (ap (λ (i : IndexFile). i.pending) both) in
    let with : ℕ → ℕ → List Record → Bool → IndexFile = λ f e p z. record { file = f; end = e; pending = p; frozen = z } in
    ap (λ k. with k b.end b.pending b.frozen) (ap (λ (i : IndexFile). i.file) both)
    ∙ ap (λ k. with a.file k b.pending b.frozen) (ap (λ (i : IndexFile). i.end) both)
    ∙ ap (λ (l : List Record). with a.file a.end l b.frozen) list
    ∙ ap (λ z. with a.file a.end a.pending z) (ap (λ (i : IndexFile). i.frozen) both)

-- it stands where it stood
pub making_stands : (sup : Super) (files later : Files) (s new : Stage) (standing : LastCells) (fresh : List Cell) → Making sup files s fresh → later ≡ files
    → ((pair : Pair) → last_in standing pair ≡ last_in s.standing pair) → new ≡ record s { standing = standing } → Making sup later new fresh
making_stands sup files later s new standing fresh h same places is =
    subst (λ (f : Files). Making sup f new fresh) (sym same)
    (subst (λ (x : Stage). Making sup files x fresh) (sym is)
    (record {
      names_volume = h.names_volume;
      names_index = h.names_index;
      volume_is = h.volume_is;
      index_is = h.index_is;
      volume_free = h.volume_free;
      index_free = h.index_free;
      noted = h.noted;
      anew = h.anew;
      places = λ pair. places pair ∙ h.places pair;
      capacity_is = h.capacity_is;
    }))

-- it stands where it stood
pub copy_stands : (sup : Super) (files later : Files) (old : VolumeFile) (s new : Stage) (standing : LastCells) (current fresh : List Cell) (n : ℕ)
    → Copying sup files old s current fresh n → later ≡ files
    → ((pair : Pair) → last_in standing pair ≡ last_in s.standing pair) → new ≡ record s { standing = standing } → Copying sup later old new current fresh n
copy_stands sup files later old s new standing current fresh n h same places is =
    subst (λ (f : Files). Copying sup f old new current fresh n) (sym same)
    (subst (λ (x : Stage). Copying sup files old x current fresh n) (sym is)
    (record {
      names_volume = h.names_volume;
      names_index = h.names_index;
      volume_is = h.volume_is;
      index_is = h.index_is;
      volume_free = h.volume_free;
      index_free = h.index_free;
      noted = h.noted;
      anew = h.anew;
      places = λ pair. places pair ∙ h.places pair;
      capacity_is = h.capacity_is;
      volume_apart = h.volume_apart;
      index_apart = h.index_apart;
      superblock = h.superblock;
      current_is = h.current_is;
      within = h.within;
      next_is = h.next_is;
      known = h.known;
    }))

-- and where the needle was read
pub making_read : (files later : Files) (s new : Stage) → IsMaking files s → later ≡ files → new ≡ record s { bytes = new.bytes } → IsMaking later new
making_read files later s new under same is =
    let h = under.making in
    subst (λ (f : Files). IsMaking f new) (sym same)
    (subst (λ (x : Stage). IsMaking files x) (sym is)
    (record {
      sup = under.sup;
      fresh = under.fresh;
      making = record {
        names_volume = h.names_volume;
        names_index = h.names_index;
        volume_is = h.volume_is;
        index_is = h.index_is;
        volume_free = h.volume_free;
        index_free = h.index_free;
        noted = h.noted;
        anew = h.anew;
        places = h.places;
        capacity_is = h.capacity_is;
      };
    }))

pub copying_read : (sup : Super) (files later : Files) (old : VolumeFile) (s new : Stage) (current fresh : List Cell) (n : ℕ) → Copying sup files old s current fresh n → later ≡ files
    → new ≡ record s { bytes = new.bytes } → Copying sup later old new current fresh n
copying_read sup files later old s new current fresh n h same is =
    subst (λ (f : Files). Copying sup f old new current fresh n) (sym same)
    (subst (λ (x : Stage). Copying sup files old x current fresh n) (sym is)
    (record {
      names_volume = h.names_volume;
      names_index = h.names_index;
      volume_is = h.volume_is;
      index_is = h.index_is;
      volume_free = h.volume_free;
      index_free = h.index_free;
      noted = h.noted;
      anew = h.anew;
      places = h.places;
      capacity_is = h.capacity_is;
      volume_apart = h.volume_apart;
      index_apart = h.index_apart;
      superblock = h.superblock;
      current_is = h.current_is;
      within = h.within;
      next_is = h.next_is;
      known = h.known;
    }))

-- the error that was passed on
pub same_error : {T : Type 0} (r : Result T CellFault) (passed fault why : CellFault) → r ≡ Err passed → passed ≡ fault → r ≡ Err why → fault ≡ why
same_error r passed fault why was same is = let e : passed ≡ why = cc in sym same ∙ e

-- whether a place is the next one
pub not_next : (latest : Option ℕ) (next here : ℕ) → true ≡ not (option_eq eqb latest (Some next)) → next ≡ here → latest ≢ Some here
not_next latest next here differ same is =
    let one : option_eq eqb latest (Some next) ≡ true = ap (λ (o : Option ℕ). option_eq eqb o (Some next)) (is ∙ ap (λ k. Some k) (sym same)) ∙ eq-eqb next next refl in
    true≢false (differ ∙ ap not one)

pub is_next : (latest : Option ℕ) (next : ℕ) (test : Bool) → test ≡ not (option_eq eqb latest (Some next)) → test ≡ false → latest ≡ Some next
is_next None next test is holds = absurd (true≢false (sym is ∙ holds))
is_next (Some k) next test is holds =
    elim (cases_Bool (eqb k next)) [
      | inl same ↦ ap (λ j. Some j) (eqb-true k next same)
      | inr other ↦ absurd (true≢false (sym (is ∙ ap not other) ∙ holds))
    ]
