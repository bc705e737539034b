-- Steps of a compaction.
use Rattle.std.proofs.Common.{◌≡◌, ◌≢◌, ◌≤◌, ◌<◌, ◌+◌, ◌-◌, ◌^◌, min, ℕ, zero, suc, Bool, true, false, cond, leb, List, [], ◌∷◌, ◌++◌, length, take, drop, refl, sym, ap, ◌∙◌}
use Rattle.std.proofs.Common.{subst, arith, append-nil, take-append-drop}
use Rattle.std.specs.Prelude.{map, sum_by}
use Rattle.std.proofs.Math.Seq.{take-add}
use Rattle.std.proofs.lemmas.Bool.{leb-true, le-leb}
use Rattle.std.proofs.lemmas.List.{length-drop, drop-map, take_all, take_at}
use Rattle.std.proofs.lemmas.List.Sums.{sum_by-cons, sum_by-append}
use Rattle.hay_needle.specs.declared.needle.Cell.{Cell}
use Rattle.hay_needle.specs.declared.needle.CellHead.{CellHead}
use Rattle.hay_needle.specs.declared.needle.Needle.{Needle}
use Rattle.hay_needle.specs.declared.settings.Super.{Super}
use Rattle.hay_needle.specs.Needle.{BeginsWithNeedle, Head, HeadBytes, head_of_cell, head_of_needle, needle_of_cell}
use Rattle.hay_needle.specs.Sizes.{needle_total}
use Rattle.hay_needle.specs.Tables.{is_live}
use Rattle.hay_needle.proofs.CopyLaws.{copies_pass}
use Rattle.hay_disk.specs.Disk.{Files}
use Rattle.hay_volume.specs.declared.volume.VolumeFile.{VolumeFile}
use Rattle.hay_volume.specs.Cells.{HasCells, StandsCell, IsCellAt, cell_head, needles_of}
use Rattle.hay_volume.specs.Needles.{LacksNeedleWithin}
use Rattle.hay_volume.proofs.Readings.{cells_first, cell_begins, same_cell}
use Rattle.hay_disk.specs.Gate.{HasBytesAt}
use Rattle.hay_needle.proofs.Needles.{head_first, one_head}
use Rattle.hay_needle.specs.declared.total.TheConstants.{MAX_PHOTO}
use Rattle.hay_compact.specs.Copying.{Copying, HasPeeked, HeadStands, Making, MovesOn, Stage, cell_total, end_of, live_among, renewed_needle}
use Rattle.hay_compact.proofs.LiveNeedles.{next_among}
use Rattle.hay_compact.proofs.CellLists.{after_front, cells_end}

-- what was made of the new files
pub making_of : (sup : Super) (files : Files) (old : VolumeFile) (s : Stage) (current fresh : List Cell) (n : ℕ) → Copying sup files old s current fresh n → Making sup files s fresh
making_of sup files old s current fresh n h = record {
  names_volume = h.names_volume;
  names_index = h.names_index;
  volume_is = h.volume_is;
  index_is = h.index_is;
  volume_free = h.volume_free;
  index_free = h.index_free;
  noted = h.noted;
  anew = h.anew;
  places = h.places;
  capacity_is = h.capacity_is;
}

-- WHERE IT STANDS

none_left : (cells : List Cell) → sum_by cell_total cells ≤ 0 → cells ≡ []
none_left [] short = refl
none_left (cell ∷ cells) short = absurd (omega (arith, sum_by-cons cell_total cell cells))

sum_parts : (n : ℕ) (cells : List Cell) → sum_by cell_total cells ≡ sum_by cell_total (take n cells) + sum_by cell_total (drop n cells)
sum_parts n cells = ap (sum_by cell_total) (sym (take-append-drop n cells)) ∙ sum_by-append cell_total (take n cells) (drop n cells)

-- all is examined exactly where the next place is the end
pub all_examined : (sup : Super) (files : Files) (old : VolumeFile) (s : Stage) (current fresh : List Cell) (n : ℕ) → Copying sup files old s current fresh n → old.end ≤ s.next → n ≡ length current
all_examined sup files old s current fresh n h far =
    let whole = cells_end 64 old.end (files old.file).now current h.current_is.has in
    let next = h.next_is in
    let none : drop n current ≡ [] = none_left (drop n current) (omega (arith, sum_parts n current)) in
    let within = h.within in
    omega (arith, ap length none, length-drop n current)

pub end_examined : (sup : Super) (files : Files) (old : VolumeFile) (s : Stage) (current fresh : List Cell) (n : ℕ) → Copying sup files old s current fresh n → n ≡ length current → old.end ≤ s.next
end_examined sup files old s current fresh n h all =
    let whole = cells_end 64 old.end (files old.file).now current h.current_is.has in
    let next = h.next_is in
    let taken : sum_by cell_total (take n current) ≡ sum_by cell_total current = ap (sum_by cell_total) (take_all n current (omega arith)) in
    omega arith

pub ready_is : (sup : Super) (files : Files) (old : VolumeFile) (s : Stage) (current fresh : List Cell) (n end next : ℕ) → Copying sup files old s current fresh n → end ≡ old.end → next ≡ s.next
    → (leb end next ≡ true → n ≡ length current) × (n ≡ length current → leb end next ≡ true)
ready_is sup files old s current fresh n end next h ends nexts = (
  λ holds. let far = leb-true end next holds in all_examined sup files old s current fresh n h (omega arith),
  λ all. let far = end_examined sup files old s current fresh n h all in le-leb end next (omega arith),
)

-- THE NEXT CELL

pub current_parts : (n : ℕ) (cells : List Cell) (cell : Cell) → drop n cells ≡ cell ∷ drop (n + 1) cells → cells ≡ take n cells ++ cell ∷ drop (n + 1) cells
current_parts n cells cell is = sym (take-append-drop n cells) ∙ ap (λ (l : List Cell). take n cells ++ l) is

take_next : (n : ℕ) (cells : List Cell) (cell : Cell) → drop n cells ≡ cell ∷ drop (n + 1) cells → take (n + 1) cells ≡ take n cells ++ cell ∷ []
take_next n cells cell is = take-add n 1 cells ∙ ap (λ (l : List Cell). take n cells ++ take 1 l) is

pub end_next : (n : ℕ) (cells : List Cell) (cell : Cell) → drop n cells ≡ cell ∷ drop (n + 1) cells → end_of (take (n + 1) cells) ≡ end_of (take n cells) + cell_total cell
end_next n cells cell is =
    omega (arith, ap (sum_by cell_total) (take_next n cells cell is), sum_by-append cell_total (take n cells) (cell ∷ []), sum_by-cons cell_total cell [])

pub within_next : (n : ℕ) (cells : List Cell) (cell : Cell) → n ≤ length cells → drop n cells ≡ cell ∷ drop (n + 1) cells → n + 1 ≤ length cells
within_next n cells cell within is = omega (arith, ap length is, length-drop n cells)

pub next_stands : (sup : Super) (files : Files) (old : VolumeFile) (s : Stage) (current fresh : List Cell) (n : ℕ) (cell : Cell) → Copying sup files old s current fresh n
    → drop n current ≡ cell ∷ drop (n + 1) current
    → StandsCell s.next (files old.file).now cell × (s.next + cell_total cell ≤ old.end)
next_stands sup files old s current fresh n cell h is =
    let file : List ℕ = (files old.file).now in
    let has : HasCells 64 file (take n current ++ cell ∷ drop (n + 1) current) old.end = subst (λ (l : List Cell). HasCells 64 file l old.end) (current_parts n current cell is) h.current_is.has in
    let there = after_front 64 old.end file (take n current) (cell ∷ drop (n + 1) current) has in
    let first = cells_first (end_of (take n current)) old.end file cell (drop (n + 1) current) there in
    let rest = cells_end (end_of (take n current) + cell_total cell) old.end file (drop (n + 1) current) first.1 in
    let next = h.next_is in
    (subst (λ k. StandsCell k file cell) (sym h.next_is) first.0, omega arith)

pub needles_next : (n : ℕ) (cells : List Cell) (cell : Cell) → drop n cells ≡ cell ∷ drop (n + 1) cells → drop n (needles_of cells) ≡ needle_of_cell cell ∷ needles_of (drop (n + 1) cells)
needles_next n cells cell is = drop-map needle_of_cell n cells ∙ ap needles_of is

-- where not all is examined there is a next cell
pub some_next : (n : ℕ) (cells : List Cell) → n < length cells → (cell : Cell) × (drop n cells ≡ cell ∷ drop (n + 1) cells)
some_next n cells within = go n cells within
  where
    go : (k : ℕ) (l : List Cell) → k < length l → (cell : Cell) × (drop k l ≡ cell ∷ drop (k + 1) l)
    go k [] low = absurd (omega arith)
    go zero (x ∷ l) low = (x, refl)
    go (suc k) (x ∷ l) low =
        let rest = go k l (omega arith) in
        let place : suc k + 1 ≡ suc (k + 1) = omega arith in
        (rest.0, rest.1 ∙ ap (λ i. rest.0 ∷ drop i (x ∷ l)) (sym place))

-- A CELL IS SKIPPED

pub skips : (sup : Super) (files : Files) (old : VolumeFile) (s : Stage) (current fresh : List Cell) (n at next : ℕ) (cell : Cell) → Copying sup files old s current fresh n
    → drop n current ≡ cell ∷ drop (n + 1) current
    → is_live (needle_of_cell cell) (needles_of (drop (n + 1) current)) ≡ false → next ≡ s.next + cell_total cell
    → MovesOn sup files old (record s { next = next }) current fresh n cell at false
skips sup files old s current fresh n at next cell h is dead moves = record {
  copying = record {
    names_volume = h.names_volume;
    names_index = h.names_index;
    volume_is = h.volume_is;
    index_is = h.index_is;
    volume_free = h.volume_free;
    index_free = h.index_free;
    noted = h.noted;
    anew = h.anew;
    places = h.places;
    capacity_is = h.capacity_is;
    volume_apart = h.volume_apart;
    index_apart = h.index_apart;
    superblock = h.superblock;
    current_is = h.current_is;
    within = within_next n current cell h.within is;
    next_is = (let before = h.next_is in omega (arith, end_next n current cell is));
    known = h.known;
  };
  live = sym dead;
  table = λ pair table. copies_pass pair (needles_of fresh) (needles_of current) n (needle_of_cell cell) (needles_of (drop (n + 1) current)) (needles_next n current cell is) dead table;
  exact = λ exact.
      exact
      ∙ ap (map renewed_needle) (sym (next_among n (needles_of current) (needle_of_cell cell) (needles_of (drop (n + 1) current)) (needles_next n current cell is)
      ∙ ap (λ (b : Bool). live_among n (needles_of current) ++ cond b (needle_of_cell cell ∷ []) []) dead ∙ append-nil (live_among n (needles_of current))));
}

-- A PEEK

-- where not all is examined the next cell stands in the file
pub record HasNext (next : ℕ) (file : List ℕ) (end : ℕ) (current : List Cell) (n : ℕ) : Type 0 where
  pub cell : Cell
  pub is : drop n current ≡ cell ∷ drop (n + 1) current
  pub stands : StandsCell next file cell
  pub within : next + cell_total cell ≤ end
  pub fits : end + 8 ≤ length file

pub has_next : (sup : Super) (files : Files) (old : VolumeFile) (s : Stage) (current fresh : List Cell) (n next : ℕ) → Copying sup files old s current fresh n → next ≡ s.next
    → (n ≡ length current → ⊥) → HasNext next (files old.file).now old.end current n
has_next sup files old s current fresh n next h same more =
    let low : n < length current = (let le = h.within in let ne : n ≢ length current = more in omega arith) in
    let one = some_next n current low in
    let there = next_stands sup files old s current fresh n one.0 h one.1 in
    record {
      cell = one.0;
      is = one.1;
      stands = subst (λ k. StandsCell k (files old.file).now one.0) (sym same) there.0;
      within = omega (arith, there.1);
      fits = h.current_is.closed.room;
    }

-- its head is there
head_begins : (next : ℕ) (file : List ℕ) (cell : Cell) → StandsCell next file cell → HeadBytes (take 36 (drop next file)) (head_of_needle (needle_of_cell cell))
head_begins next file cell stands = head_first (drop next file) (needle_of_cell cell) (cell_begins next file cell stands)

-- no damage is there
pub no_damage : (next end n : ℕ) (file : List ℕ) (current : List Cell) → HasNext next file end current n → ((head : Head) → HeadBytes (take 36 (drop next file)) head → ⊥) → ⊥
no_damage next end n file current h none = none (head_of_needle (needle_of_cell h.cell)) (head_begins next file h.cell h.stands)

-- the head that was read
pub read_head : (next : ℕ) (file : List ℕ) (cell : Cell) (head : CellHead) → StandsCell next file cell → head.at ≡ next → HeadBytes (take 36 (drop next file)) (head_of_cell head)
    → head ≡ cell_head cell
read_head next file cell head stands at is =
    let with : ℕ → Head → CellHead = λ k h. record { at = k; version = h.version; pair = h.pair; cookie = h.cookie; size = h.size; deleted = h.deleted } in
    ap (λ k. with k (head_of_cell head)) (at ∙ sym stands.is.place)
    ∙ ap (with cell.at) (one_head (take 36 (drop next file)) (head_of_cell head) (head_of_needle (needle_of_cell cell)) is (head_begins next file cell stands))

-- the cell that was read
pub read_cell : (next : ℕ) (file out : List ℕ) (cell there : Cell) → IsCellAt next out cell → HasBytesAt next out file → StandsCell next file there → cell ≡ there
read_cell next file out cell there is stand stands = same_cell next file cell there (record { needle = out; is = is; stand = stand }) stands

-- there is room for it
pub has_room : (next end n room most : ℕ) (file : List ℕ) (current : List Cell) (head : CellHead) → (h : HasNext next file end current n) → head ≡ cell_head h.cell
    → length file < 2 ^ 64 → most ≡ min (end + 8) 18446744073709551615 → room ≡ most - next → room < needle_total head.size + 8 → ⊥
has_room next end n room most file current head h heads fits all left short =
    let size : head.size ≡ length h.cell.bytes = ap (λ (x : CellHead). x.size) heads in
    let total : needle_total head.size ≡ cell_total h.cell = ap needle_total size in
    let within = h.within in
    let room_is = h.fits in
    omega arith

pub peeked_of : (at end room most : ℕ) (head : CellHead) → head.size ≤ MAX_PHOTO → most ≡ min (end + 8) 18446744073709551615 → room ≡ most - at → needle_total head.size + 8 ≤ room
    → HasPeeked end at head
peeked_of at end room most head small all left enough = record { small = small; within = omega arith; inside = omega arith }

-- NEEDLES, WHATEVER ELSE THE FILE HAS

-- the cell of a needle that begins at `at`
abbrev pub needle_cell : ℕ → Needle → Cell
needle_cell at n = record { at = at; version = n.version; pair = n.pair; cookie = n.photo.cookie; bytes = n.photo.bytes; deleted = n.deleted }

pub needle_stands : (at : ℕ) (file : List ℕ) (n : Needle) → BeginsWithNeedle (drop at file) n → StandsCell at file (needle_cell at n)
needle_stands at file n begins = record {
  needle = begins.needle;
  is = record { place = refl; is = begins.is };
  stand = ap (λ (l : List ℕ). take (length begins.needle) l) begins.parts ∙ take_at begins.needle begins.rest (length begins.needle) refl;
}

-- where a head stands it is that of the needle
pub needle_head : (at : ℕ) (file : List ℕ) (head : CellHead) (n : Needle) → HeadStands at head file → BeginsWithNeedle (drop at file) n → head ≡ cell_head (needle_cell at n)
needle_head at file head n stands begins = read_head at file (needle_cell at n) head (needle_stands at file n begins) stands.place stands.is

pub no_needle : (at end : ℕ) (file : List ℕ) → ((head : Head) → HeadBytes (take 36 (drop at file)) head → ⊥) → LacksNeedleWithin end at file
no_needle at end file none n begins within = none (head_of_needle n) (head_first (drop at file) n begins)

-- a head whose needle goes behind the end
pub long_needle : (at end room more : ℕ) (file : List ℕ) (head : CellHead) → HeadStands at head file → end + 8 < 2 ^ 64 → more ≡ min (end + 8) 18446744073709551615
    → room ≡ more - at → room < needle_total head.size + 8
    → LacksNeedleWithin end at file
long_needle at end room more file head stands fits added left short n begins within =
    let size : needle_total head.size ≡ needle_total (length n.photo.bytes) = ap (λ (h : CellHead). needle_total h.size) (needle_head at file head n stands begins) in
    omega (arith, size, within, short, left, added, fits)
