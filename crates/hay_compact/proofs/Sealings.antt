-- Needles of the new file are sealed.
use Rattle.std.proofs.Common.{◌≡◌, ◌≢◌, ◌⊎◌, inl, inr, ◌≤◌, ◌<◌, ◌+◌, ℕ, Bool, true, false, not, ◌&&◌, cond, List, [], ◌∷◌, ◌++◌, length, get_or, take, drop, take-append-drop}
use Rattle.std.proofs.Common.{Option, Some, None, refl, sym, ap, ◌∙◌, subst, arith, append_assoc}
use Rattle.std.specs.Prelude.{sum_by, map}
use Rattle.std.proofs.lemmas.Bool.{cases_Bool, cond-true, cond-false, true≢false}
use Rattle.std.proofs.lemmas.List.{length-map, drop-map, drop-drop, drop_all, drop_more}
use Rattle.hay_needle.specs.declared.needle.Cell.{Cell}
use Rattle.hay_needle.specs.declared.needle.Needle.{Needle}
use Rattle.hay_needle.specs.declared.needle.Pair.{Pair}
use Rattle.hay_needle.specs.declared.settings.Super.{Super}
use Rattle.hay_needle.specs.Needle.{needle_of_cell, needle_magic, NeedleBytes}
use Rattle.hay_needle.specs.Sizes.{needle_total}
use Rattle.hay_needle.specs.Super.{super_bytes}
use Rattle.hay_needle.specs.Tables.{lacks, pair_eq}
use Rattle.hay_needle.proofs.Needles.{length-needle}
use Rattle.hay_needle.proofs.TableLaws.{pair_same, pair_refl}
use Rattle.hay_disk.specs.Disk.{FileState, Seals}
use Rattle.hay_disk.proofs.Steps.{solid_seals}
use Rattle.hay_disk.proofs.Logs.{gate_seals}
use Rattle.hay_volume.specs.Cells.{HasCells, IsVolume, StandsCell, needles_of}
use Rattle.hay_volume.proofs.Readings.{cells_first}
use Rattle.hay_index.specs.declared.record.Record.{Record}
use Rattle.hay_map.specs.declared.place.Place.{Place}
use Rattle.hay_map.specs.declared.place.Place.TheVariants as place
use Rattle.hay_map.specs.declared.view.OpenCell.{OpenCell}
use Rattle.hay_map.specs.Places.{gone_place}
use Rattle.hay_map.specs.Rows.{last_place}
use Rattle.hay_map.specs.Sealed.{SealedNeedle}
use Rattle.hay_open.specs.Finds.{ArePlacesWithin, PlaceWithin}
use Rattle.hay_open.specs.Stored.{FlagsFree, IsSealedCell, PlaceOf, Stored, VolumeRests, cell_record, last_cell, volume_super}
use Rattle.hay_compact.specs.Standing.{LastCells, place_in}
use Rattle.hay_compact.specs.Copying.{cell_total, photo_place}
use Rattle.hay_compact.specs.Finishing.{AreThePlaces, ArePlacesSoFar, CanSeal, IsDue, IsSeen, PlaceSoFar}
use Rattle.hay_compact.proofs.CellLists.{after_front, cells_end, last_stands, later_last, lacks_none, none_lacks, parts_last}
use Rattle.hay_compact.proofs.Copyings.{some_next}
use Rattle.hay_compact.proofs.Repeated.{photo_some}
use Rattle.hay_disk.specs.Counts.{Rose}

-- THE CELL THAT IS DUE

-- where it stands, and that those behind it stand behind it
pub record Due (file : List ℕ) (end : ℕ) (cell : Cell) (behind : List Cell) : Type 0 where
  pub stands : StandsCell cell.at file cell
  pub rest : HasCells (cell.at + cell_total cell) file behind end
  pub within : cell.at + cell_total cell ≤ end

pub due : (file : List ℕ) (end : ℕ) (front behind : List Cell) (cell : Cell) → HasCells 64 file (front ++ cell ∷ behind) end → Due file end cell behind
due file end front behind cell has =
    let there = after_front 64 end file front (cell ∷ behind) has in
    let first = cells_first (64 + sum_by cell_total front) end file cell behind there in
    let at : 64 + sum_by cell_total front ≡ cell.at = sym first.0.is.place in
    let ends = cells_end (64 + sum_by cell_total front + cell_total cell) end file behind first.1 in
    record {
      stands = subst (λ k. StandsCell k file cell) at first.0;
      rest = subst (λ k. HasCells (k + cell_total cell) file behind end) at first.1;
      within = omega arith;
    }

pub due_of : (sup : Super) (file : FileState) (s : Stored) (row : Record) (rest : List Cell) → VolumeRests sup file s → (d : IsDue s row rest) → Due file.now s.end d.cell d.behind
due_of sup file s row rest rests d = due file.now s.end d.front d.behind d.cell (subst (λ (l : List Cell). HasCells 64 file.now l s.end) d.cells rests.is.has)

-- the part that is sealed lies in the file
pub due_inside : (sup : Super) (file : FileState) (s : Stored) (row : Record) (rest : List Cell) (total : ℕ) → VolumeRests sup file s → IsDue s row rest
    → total ≡ needle_total row.size → row.at + total ≤ s.end
due_inside sup file s row rest total rests d is =
    let there = due_of sup file s row rest rests d in
    let at : row.at ≡ d.cell.at = ap (λ (r : Record). r.at) d.is in
    omega (arith, is, ap (λ (r : Record). needle_total r.size) d.is, there.within)

-- FLAGS

-- pieces before cells leave their flags
flags_behind : (at end place n hole : ℕ) (file : List ℕ) (cells : List Cell) (a b : FileState) → HasCells at file cells end → place + n ≤ at → Seals place n hole a b
    → FlagsFree a cells → FlagsFree b cells
flags_behind at end place n hole file [] a b has low seals free = tt
flags_behind at end place n hole file (cell ∷ cells) a b has low seals free =
    let first = cells_first at end file cell cells has in
    let here : cell.at ≡ at = first.0.is.place in
    (seals.free (cell.at + 28) free.0 (inl (inr (omega arith))), flags_behind (at + cell_total cell) end place n hole file cells a b first.1 (omega arith) seals free.1)

-- the hole of a cell's own piece is its flags
flags_sealed : (at end : ℕ) (file : List ℕ) (front behind : List Cell) (cell : Cell) (a b : FileState) → HasCells at file (front ++ cell ∷ behind) end
    → Seals cell.at (cell_total cell) 28 a b → FlagsFree a (front ++ cell ∷ behind) → FlagsFree b (front ++ cell ∷ behind)
flags_sealed at end file [] behind cell a b has seals free =
    let first = cells_first at end file cell behind has in
    let here : cell.at ≡ at = first.0.is.place in
    (seals.free (cell.at + 28) free.0 (inr refl), flags_behind (at + cell_total cell) end cell.at (cell_total cell) 28 file behind a b first.1 (omega arith) seals free.1)
flags_sealed at end file (x ∷ front) behind cell a b has seals free =
    let first = cells_first at end file x (front ++ cell ∷ behind) has in
    let here : x.at ≡ at = first.0.is.place in
    let there = cells_first (at + cell_total x + sum_by cell_total front) end file cell behind (after_front (at + cell_total x) end file front (cell ∷ behind) first.1) in
    let place : cell.at ≡ at + cell_total x + sum_by cell_total front = there.0.is.place in
    (seals.free (x.at + 28) free.0 (inl (inl (omega arith))), flags_sealed (at + cell_total x) end file front behind cell a b first.1 seals free.1)

-- THE FILE AFTER A SEAL

pub rests_sealed : (sup : Super) (a b : FileState) (s : Stored) (row : Record) (rest : List Cell) (total : ℕ) → VolumeRests sup a s → IsDue s row rest
    → total ≡ needle_total row.size → Seals row.at total 28 a b → VolumeRests sup b s
rests_sealed sup a b s row rest total rests d is seals =
    let at : row.at ≡ d.cell.at = ap (λ (r : Record). r.at) d.is in
    let long : total ≡ cell_total d.cell = is ∙ ap (λ (r : Record). needle_total r.size) d.is in
    let here : Seals d.cell.at (cell_total d.cell) 28 a b = subst (λ k. Seals k (cell_total d.cell) 28 a b) at (subst (λ n. Seals row.at n 28 a b) long seals) in
    let has : HasCells 64 a.now (d.front ++ d.cell ∷ d.behind) s.end = subst (λ (l : List Cell). HasCells 64 a.now l s.end) d.cells rests.is.has in
    record {
      is = subst (λ (l : List ℕ). IsVolume (super_bytes (volume_super sup s.generation)) l s.cells s.end) (sym seals.now) rests.is;
      solid = solid_seals row.at total 28 a b rests.solid seals;
      gate = gate_seals needle_magic s.end row.at total 28 a b (due_inside sup a s row rest total rests d is) rests.gate seals;
      flags = subst (λ (l : List Cell). FlagsFree b l) (sym d.cells)
          (flags_sealed 64 s.end a.now d.front d.behind d.cell a b has here (subst (λ (l : List Cell). FlagsFree a l) d.cells rests.flags));
    }

pub can_seal_still : (sup : Super) (a b : FileState) (standing : LastCells) (s : Stored) → CanSeal sup a standing s → VolumeRests sup b s → CanSeal sup b standing s
can_seal_still sup a b standing s can rests = record { rests = rests; places = can.places }

-- WHICH CELLS ARE SEALED

none_or : (o : Option Cell) → (o ≡ None) ⊎ ((c : Cell) × (o ≡ Some c))
none_or None = inl refl
none_or (Some c) = inr (c, refl)

-- a cell whose place is its pair's is the last one of the pair, and not deleted
pub due_last : (sup : Super) (file : FileState) (standing : LastCells) (s : Stored) (row : Record) (rest : List Cell) → CanSeal sup file standing s → (d : IsDue s row rest)
    → place_in standing row.pair ≡ Some row.at → (last_cell s.cells d.cell.pair ≡ Some d.cell) × (d.cell.deleted ≡ false)
due_last sup file standing s row rest can d is =
    let there = due_of sup file s row rest can.rests d in
    let pair : row.pair ≡ d.cell.pair = ap (λ (r : Record). r.pair) d.is in
    let at : row.at ≡ d.cell.at = ap (λ (r : Record). r.at) d.is in
    let found : photo_place (last_cell s.cells d.cell.pair) ≡ Some d.cell.at =
    sym (can.places d.cell.pair) ∙ ap (λ (p : Pair). place_in standing p) (sym pair) ∙ is ∙ ap (λ k. Some k) at in
    let last = photo_some (last_cell s.cells d.cell.pair) d.cell.at found in
    elim (cases_Bool (lacks d.cell.pair (needles_of d.behind))) [
      | inl none ↦
          let one : last_cell s.cells d.cell.pair ≡ Some d.cell =
          ap (λ (l : List Cell). last_cell l d.cell.pair) d.cells ∙ parts_last d.front d.behind d.cell d.cell.pair (pair_refl d.cell.pair) none in
          let same : last.0 ≡ d.cell = (let both : Some last.0 ≡ Some d.cell = sym last.1 ∙ one in cc) in
          (one, sym (ap (λ (c : Cell). c.deleted) same) ∙ last.3)
      | inr has ↦
          elim (none_or (last_cell d.behind d.cell.pair)) [
            | inl absent ↦ absurd (true≢false (sym (lacks_none d.behind d.cell.pair absent) ∙ has))
            | inr later ↦
                let whole : last_cell s.cells d.cell.pair ≡ Some later.0 =
                ap (λ (l : List Cell). last_cell l d.cell.pair) (d.cells ∙ sym (append_assoc d.front (d.cell ∷ []) d.behind))
                ∙ later_last (d.front ++ d.cell ∷ []) d.behind d.cell.pair later.0 later.1 in
                let same : later.0 ≡ last.0 = (let both : Some later.0 ≡ Some last.0 = sym whole ∙ last.1 in cc) in
                let at_later : later.0.at ≡ last.0.at = ap (λ (c : Cell). c.at) same in
                let at_last : last.0.at ≡ d.cell.at = last.2 in
                let far = last_stands (d.cell.at + cell_total d.cell) s.end file.now d.behind d.cell.pair later.0 there.rest later.1 in
                absurd (omega (arith, far.1.0))
          ]
    ]

-- where it is not, the last one is deleted or comes later
pub due_other : (sup : Super) (file : FileState) (standing : LastCells) (s : Stored) (row : Record) (rest : List Cell) (last : Cell) → CanSeal sup file standing s
    → (d : IsDue s row rest) → place_in standing row.pair ≢ Some row.at → last_cell s.cells d.cell.pair ≡ Some last
    → (last.deleted ≡ true) ⊎ (lacks d.cell.pair (needles_of d.behind) ≡ false)
due_other sup file standing s row rest last can d other is =
    let pair : row.pair ≡ d.cell.pair = ap (λ (r : Record). r.pair) d.is in
    let at : row.at ≡ d.cell.at = ap (λ (r : Record). r.at) d.is in
    elim (cases_Bool last.deleted) [
      | inl gone ↦ inl gone
      | inr alive ↦
          elim (cases_Bool (lacks d.cell.pair (needles_of d.behind))) [
            | inr has ↦ inr has
            | inl none ↦
                let one : last_cell s.cells d.cell.pair ≡ Some d.cell =
                ap (λ (l : List Cell). last_cell l d.cell.pair) d.cells ∙ parts_last d.front d.behind d.cell d.cell.pair (pair_refl d.cell.pair) none in
                let same : last ≡ d.cell = (let both : Some last ≡ Some d.cell = sym is ∙ one in cc) in
                let found : place_in standing row.pair ≡ Some row.at =
                ap (λ (p : Pair). place_in standing p) pair ∙ can.places d.cell.pair ∙ ap photo_place is ∙ cond-false last.deleted None (Some last.at) alive
                ∙ ap (λ (c : Cell). Some c.at) same ∙ ap (λ k. Some k) (sym at) in
                absurd (other found)
          ]
    ]

-- THE PLACES SO FAR

-- one cell less to look at
pub less_to_see : {P : Type 0} (Tells : Type 0) (cell : Cell) (behind : List Cell) (pair : Pair) (last : Option Cell) (seen : Place P)
    → ((l : Cell) → last ≡ Some l → pair_eq cell.pair pair ≡ true → (l.deleted ≡ true) ⊎ (lacks pair (needles_of behind) ≡ false))
    → PlaceSoFar Tells (cell ∷ behind) pair last seen → PlaceSoFar Tells behind pair last seen
less_to_see Tells cell behind pair (Some l) (place.Live needle) later is = is
less_to_see Tells cell behind pair (Some l) place.Gone later (inl gone) = inl gone
less_to_see Tells cell behind pair (Some l) place.Gone later (inr has) =
    elim (cases_Bool (pair_eq cell.pair pair)) [
      | inl here ↦ later l refl here
      | inr apart ↦ inr (sym (ap (λ (b : Bool). not b && lacks pair (needles_of behind)) apart) ∙ has)
    ]
less_to_see Tells cell behind pair (Some l) place.None later is = absurd is
less_to_see Tells cell behind pair None place.Gone later is = tt
less_to_see Tells cell behind pair None place.None later is = absurd is
less_to_see Tells cell behind pair None (place.Live needle) later is = absurd is
less_to_see Tells cell behind pair (Some l) (place.Unseen at size) later is = absurd is
less_to_see Tells cell behind pair None (place.Unseen at size) later is = absurd is

pub last_place-push : {P : Type 0} (places : List (OpenCell P)) (one : OpenCell P) (pair : Pair) (before : Place P)
    → last_place (places ++ one ∷ []) pair before ≡ cond (pair_eq one.pair pair) one.place (last_place places pair before)
last_place-push [] one pair before = refl
last_place-push (x ∷ places) one pair before = last_place-push places one pair (cond (pair_eq x.pair pair) x.place before)

-- nothing is sealed
pub places_pass : {P : Type 0} (Tells : Type 0) (sup : Super) (file : FileState) (standing : LastCells) (s : Stored) (row : Record) (rest : List Cell) (places : List (OpenCell P))
    → CanSeal sup file standing s → IsDue s row rest → place_in standing row.pair ≢ Some row.at
    → ArePlacesSoFar Tells s.cells rest places → ArePlacesSoFar Tells s.cells (drop 1 rest) places
places_pass Tells sup file standing s row rest places can d other so_far = λ pair.
    let last = last_cell s.cells pair in
    let seen = last_place places pair place.Gone in
    subst (λ (l : List Cell). PlaceSoFar Tells l pair last seen) (sym (ap (λ (l : List Cell). drop 1 l) d.now))
    (less_to_see Tells d.cell d.behind pair last seen
    (λ l is here.
    let same : d.cell.pair ≡ pair = pair_same d.cell.pair pair here in
    subst (λ (p : Pair). (l.deleted ≡ true) ⊎ (lacks p (needles_of d.behind) ≡ false)) same
    (due_other sup file standing s row rest l can d other (ap (λ (p : Pair). last_cell s.cells p) same ∙ is)))
    (subst (λ (l : List Cell). PlaceSoFar Tells l pair last seen) d.now (so_far pair)))

-- the needle that was sealed
sealed_cell : (Tells : Type 0) (file : FileState) (end : ℕ) (cell : Cell) (behind : List Cell) (needle : SealedNeedle) (total : ℕ) → Tells → Due file.now end cell behind
    → cell.deleted ≡ false → needle.at ≡ cell.at → needle.size ≡ length cell.bytes
    → total ≡ cell_total cell → needle.bytes ≡ take total (drop cell.at file.now) → IsSealedCell Tells cell needle
sealed_cell Tells file end cell behind needle total tells there alive at size long bytes =
    let live : Needle = record { version = cell.version; pair = cell.pair; photo = record { cookie = cell.cookie; bytes = cell.bytes }; deleted = false } in
    let same : needle_of_cell cell ≡ live =
    (let with : Bool → Needle = λ b. record { version = cell.version; pair = cell.pair; photo = record { cookie = cell.cookie; bytes = cell.bytes }; deleted = b } in ap with alive) in
    let all : needle.bytes ≡ there.stands.needle =
    bytes ∙ ap (λ n. take n (drop cell.at file.now)) (long ∙ sym (length-needle there.stands.needle (needle_of_cell cell) there.stands.is.is)) ∙ there.stands.stand in
    record {
      alive = alive;
      at = at;
      sealed = record {
        tells = tells;
        size = size;
        version = cell.version;
        is = subst (λ (n : Needle). NeedleBytes needle.bytes n) same
            (subst (λ (l : List ℕ). NeedleBytes l (needle_of_cell cell)) (sym all) there.stands.is.is);
      };
    }

pub places_sealed : {P : Type 0} (Tells : Type 0) (sup : Super) (file : FileState) (standing : LastCells) (s : Stored) (row : Record) (rest : List Cell)
    (places later : List (OpenCell P)) (needle : SealedNeedle) (total : ℕ) → Tells → CanSeal sup file standing s → IsDue s row rest → place_in standing row.pair ≡ Some row.at
    → total ≡ needle_total row.size → needle.at ≡ row.at → needle.size ≡ row.size → needle.bytes ≡ take total (drop row.at file.now)
    → later ≡ places ++ record { pair = row.pair; place = place.Live needle } ∷ []
    → ArePlacesSoFar Tells s.cells rest places → ArePlacesSoFar Tells s.cells (drop 1 rest) later
places_sealed {P = P} Tells sup file standing s row rest places later needle total tells can d is long at size bytes grown so_far = λ pair.
    let there = due_of sup file s row rest can.rests d in
    let found = due_last sup file standing s row rest can d is in
    let due_pair : row.pair ≡ d.cell.pair = ap (λ (r : Record). r.pair) d.is in
    let due_at : row.at ≡ d.cell.at = ap (λ (r : Record). r.at) d.is in
    let last = last_cell s.cells pair in
    let seen = last_place places pair place.Gone in
    let live : Place P = place.Live needle in
    let one : OpenCell P = record { pair = row.pair; place = live } in
    let now : last_place later pair place.Gone ≡ cond (pair_eq row.pair pair) (place.Live needle) seen =
    ap (λ (l : List (OpenCell P)). last_place l pair place.Gone) grown ∙ last_place-push places one pair place.Gone in
    subst (λ (l : List Cell). PlaceSoFar Tells l pair last (last_place later pair place.Gone)) (sym (ap (λ (l : List Cell). drop 1 l) d.now))
    (subst (λ (x : Place P). PlaceSoFar Tells d.behind pair last x) (sym now)
    (elim (cases_Bool (pair_eq row.pair pair)) [
      | inl here ↦
          let same : d.cell.pair ≡ pair = sym due_pair ∙ pair_same row.pair pair here in
          let is_last : last ≡ Some d.cell = ap (λ (p : Pair). last_cell s.cells p) (sym same) ∙ found.0 in
          subst (λ (x : Place P). PlaceSoFar Tells d.behind pair last x) (sym (cond-true (pair_eq row.pair pair) (place.Live needle) seen here))
          (subst (λ (o : Option Cell). PlaceSoFar Tells d.behind pair o live) (sym is_last)
          (sealed_cell Tells file s.end d.cell d.behind needle total tells there found.1 (at ∙ due_at) (size ∙ ap (λ (r : Record). r.size) d.is) (long ∙ ap (λ (r : Record). needle_total r.size) d.is)
          (bytes ∙ ap (λ k. take total (drop k file.now)) due_at)))
      | inr apart ↦
          subst (λ (x : Place P). PlaceSoFar Tells d.behind pair last x) (sym (cond-false (pair_eq row.pair pair) (place.Live needle) seen apart))
          (less_to_see Tells d.cell d.behind pair last seen
          (λ l found_last here. absurd (true≢false (sym here ∙ ap (λ (p : Pair). pair_eq p pair) (sym due_pair) ∙ apart)))
          (subst (λ (l : List Cell). PlaceSoFar Tells l pair last seen) d.now (so_far pair)))
    ]))

-- at first no place is known, and at last all are

pub no_places : {P : Type 0} (Tells : Type 0) (cells : List Cell) (places : List (OpenCell P)) → places ≡ [] → ArePlacesSoFar Tells cells cells places
no_places {P = P} Tells cells places none = λ pair.
    subst (λ (l : List (OpenCell P)). PlaceSoFar Tells cells pair (last_cell cells pair) (last_place l pair place.Gone)) (sym none) (at_first pair (last_cell cells pair) refl)
  where
    has_one : (pair : Pair) (cell : Cell) → last_cell cells pair ≡ Some cell → lacks pair (needles_of cells) ≡ false
    has_one pair cell is =
        elim (cases_Bool (lacks pair (needles_of cells))) [
          | inl none ↦ absurd (let e : None ≡ Some cell = sym (none_lacks cells pair none) ∙ is in cc)
          | inr has ↦ has
        ]

    at_first : (pair : Pair) (o : Option Cell) → last_cell cells pair ≡ o → PlaceSoFar {P = P} Tells cells pair o place.Gone
    at_first pair None is = tt
    at_first pair (Some cell) is = inr (has_one pair cell is)

pub all_places : {P : Type 0} (Tells : Type 0) (cells : List Cell) (places : List (OpenCell P)) → ArePlacesSoFar Tells cells [] places → AreThePlaces Tells cells places
all_places {P = P} Tells cells places so_far = λ pair. at_last pair (last_cell cells pair) (last_place places pair place.Gone) (so_far pair)
  where
    at_last : (pair : Pair) (o : Option Cell) (x : Place P) → PlaceSoFar Tells [] pair o x → PlaceOf Tells o x
    at_last pair (Some cell) (place.Live needle) is = is
    at_last pair (Some cell) place.Gone (inl gone) = gone
    at_last pair (Some cell) place.Gone (inr has) = absurd (true≢false has)
    at_last pair (Some cell) place.None is = absurd is
    at_last pair None place.Gone is = tt
    at_last pair None place.None is = absurd is
    at_last pair None (place.Live needle) is = absurd is
    at_last pair (Some cell) (place.Unseen at size) is = absurd is
    at_last pair None (place.Unseen at size) is = absurd is

-- and each was looked at
pub all_seen : {P : Type 0} (Tells : Type 0) (cells : List Cell) (places : List (OpenCell P)) → ArePlacesSoFar Tells cells [] places → (pair : Pair) → IsSeen (last_place places pair place.Gone)
all_seen {P = P} Tells cells places so_far = λ pair. at_last pair (last_cell cells pair) (last_place places pair place.Gone) (so_far pair)
  where
    at_last : (pair : Pair) (o : Option Cell) (x : Place P) → PlaceSoFar Tells [] pair o x → IsSeen x
    at_last pair o (place.Live needle) is = tt
    at_last pair o place.Gone is = tt
    at_last pair o place.None is = tt
    at_last pair (Some cell) (place.Unseen at size) is = absurd is
    at_last pair None (place.Unseen at size) is = absurd is

-- ONE RECORD AFTER ANOTHER

pub due_at : (s : Stored) (records : List Record) (index : ℕ) (none : Record) → records ≡ map cell_record s.cells → index < length records → IsDue s (get_or records index none) (drop index s.cells)
due_at s records index none same within =
    let low : index < length s.cells = omega (arith, ap length same, length-map s.cells cell_record) in
    let next = some_next index s.cells low in
    let rows : get_or records index none ∷ drop (index + 1) records ≡ cell_record next.0 ∷ map cell_record (drop (index + 1) s.cells) =
    sym (drop_more records index none within) ∙ ap (λ (l : List Record). drop index l) same ∙ drop-map cell_record index s.cells ∙ ap (λ (l : List Cell). map cell_record l) next.1 in
    record {
      front = take index s.cells;
      cell = next.0;
      behind = drop (index + 1) s.cells;
      cells = sym (take-append-drop index s.cells) ∙ ap (λ (l : List Cell). take index s.cells ++ l) next.1;
      now = next.1;
      is = (let head : get_or records index none ≡ cell_record next.0 = cc in head);
    }

pub seen_all : (s : Stored) (records : List Record) (index : ℕ) → records ≡ map cell_record s.cells → length records ≤ index → drop index s.cells ≡ []
seen_all s records index same far = drop_all index s.cells (omega (arith, ap length same, length-map s.cells cell_record))

pub one_less : (s : Stored) (index : ℕ) → drop 1 (drop index s.cells) ≡ drop (index + 1) s.cells
one_less s index = drop-drop 1 index s.cells

pub rose_later : (before between after : ℕ) → before ≤ between → Rose between after → Rose before after
rose_later before between after low (inl more) = inl (omega arith)
rose_later before between after low (inr most) = inr most

-- WHAT IS NOT LISTED

-- a pair is listed or not
listed_or : {P : Type 0} (places : List (OpenCell P)) (pair : Pair) → ((before : Place P) → last_place places pair before ≡ before)
    ⊎ ((x : Place P) × ((before : Place P) → last_place places pair before ≡ x))
listed_or [] pair = inl (λ before. refl)
listed_or (one ∷ places) pair =
    elim (listed_or places pair) [
      | inr listed ↦ inr (listed.0, λ before. listed.1 (cond (pair_eq one.pair pair) one.place before))
      | inl unlisted ↦ elim (cases_Bool (pair_eq one.pair pair)) [
        | inl here ↦ inr (one.place, λ before. unlisted (cond (pair_eq one.pair pair) one.place before) ∙ cond-true (pair_eq one.pair pair) one.place before here)
        | inr apart ↦ inl (λ before. unlisted (cond (pair_eq one.pair pair) one.place before) ∙ cond-false (pair_eq one.pair pair) one.place before apart)
      ]
    ]

-- The place of a pair may stand for itself where the pair has no photo: then any place that says so will do.
pub place_by_default : {P : Type 0} (Tells : Type 0) (last : Option Cell) (places : List (OpenCell P)) (pair : Pair) (before : Place P)
    → PlaceOf Tells last (last_place places pair place.Gone) → (photo_place last ≡ None → PlaceOf Tells last before) → PlaceOf Tells last (last_place places pair before)
place_by_default {P = P} Tells last places pair before is otherwise =
    elim (listed_or places pair) [
      | inr listed ↦ subst (λ (x : Place P). PlaceOf Tells last x) (listed.1 place.Gone ∙ sym (listed.1 before)) is
      | inl unlisted ↦ subst (λ (x : Place P). PlaceOf Tells last x) (sym (unlisted before)) (otherwise (none_if_gone last (subst (λ (x : Place P). PlaceOf Tells last x) (unlisted place.Gone) is)))
    ]
  where
    none_if_gone : (o : Option Cell) → PlaceOf {P = P} Tells o place.Gone → photo_place o ≡ None
    none_if_gone None is = refl
    none_if_gone (Some cell) is = cond-true cell.deleted None (Some cell.at) is

-- Where the rows had this place for the pair before, and the pair has no cell here that it had not there.
pub place_after_swap : {P : Type 0} (Tells : Type 0) (was last : Option Cell) (places : List (OpenCell P)) (pair : Pair) (before : Place P)
    → PlaceOf Tells last (last_place places pair place.Gone) → PlaceOf Tells was before → (was ≡ None → last ≡ None) → PlaceOf Tells last (last_place places pair (gone_place before))
place_after_swap {P = P} Tells was last places pair before is seen known =
    place_by_default Tells last places pair (gone_place before) is (λ none. stands last before none (λ void. known (no_cell was before seen void)))
  where
    no_cell : (o : Option Cell) (x : Place P) → PlaceOf Tells o x → x ≡ place.None → o ≡ None
    no_cell None x fits void = refl
    no_cell (Some cell) place.None fits void = absurd fits
    no_cell (Some cell) place.Gone fits void = absurd cc
    no_cell (Some cell) (place.Live needle) fits void = absurd cc
    no_cell (Some cell) (place.Unseen at size) fits void = absurd cc

    gone_stands : (o : Option Cell) → photo_place o ≡ None → PlaceOf {P = P} Tells o place.Gone
    gone_stands None none = tt
    gone_stands (Some cell) none =
        elim (cases_Bool cell.deleted) [
          | inl deleted ↦ deleted
          | inr alive ↦ absurd (let e : Some cell.at ≡ None = sym (cond-false cell.deleted None (Some cell.at) alive) ∙ none in cc)
        ]

    stands : (o : Option Cell) (x : Place P) → photo_place o ≡ None → (x ≡ place.None → o ≡ None) → PlaceOf Tells o (gone_place x)
    stands o place.None none void = subst (λ (c : Option Cell). PlaceOf {P = P} Tells c place.None) (sym (void refl)) tt
    stands o place.Gone none void = gone_stands o none
    stands o (place.Live needle) none void = gone_stands o none
    stands o (place.Unseen at size) none void = gone_stands o none

-- one place more within the file
pub within_push : {P : Type 0} (end : ℕ) (cells : List (OpenCell P)) (cell : OpenCell P) → ArePlacesWithin end cells → PlaceWithin end cell.place → ArePlacesWithin end (cells ++ cell ∷ [])
within_push end [] cell all one = (one, tt)
within_push end (first ∷ cells) cell all one = (all.0, within_push end cells cell all.1 one)
