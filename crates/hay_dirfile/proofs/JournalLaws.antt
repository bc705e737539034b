-- The rows of a journal.
use Rattle.std.proofs.Common.{◌≡◌, ◌⊎◌, inl, inr, ◌<◌, ◌≤◌, ◌+◌, ◌^◌, ℕ, zero, suc, min, List, [], ◌∷◌, ◌++◌, length, take, drop, refl, sym, ◌∙◌, ap, subst, arith, length-append}
use Rattle.std.proofs.Common.{append_assoc, append-nil, take-append-drop, length-take, length-drop, lit<}
use Rattle.std.specs.List.{All, flat_map}
use Rattle.std.specs.Int.{bytes_high_first}
use Rattle.std.specs.Prelude.{true, false, Result, Err}
use Rattle.std.proofs.lemmas.List.{take_at, drop_at, drop_all, take-take}
use Rattle.std.proofs.lemmas.List.Elements.{All-append}
use Rattle.byteorder.specs.Numbers.{big_number-reads_back}
use Rattle.hay_needle.specs.declared.settings.Super.{Super}
use Rattle.hay_needle.specs.declared.superblock.SuperFault.{SuperFault}
use Rattle.hay_needle.specs.Fields.{number_at}
use Rattle.hay_needle.specs.Super.{SuperFits, super_bytes}
use Rattle.hay_needle.proofs.Supers.{is_only}
use Rattle.hay_needle.proofs.FieldLemmas.{IsBytes, field_4, field_8, number_4, number_8}
use Rattle.hay_disk.specs.Disk.{Changes, FileState, IsImage, IsSolid, IsSolidIn, IsFree, overwrite}
use Rattle.hay_disk.specs.Gate.{magic_bytes, record_of, end_mark, HasBytesAt, IsClosed, IsGate, LogGrows, LogStays}
use Rattle.hay_disk.proofs.Logs.{not_mark}
use Rattle.hay_head.specs.Rows.{HasRows, IsCutAt, IsSuperFaultAt}
use Rattle.hay_head.proofs.RowLaws.{rows_grow, rows_stay, rows_lead, no_rows, rows_stand, stands_first, stands_second, row_magic}
use Rattle.hay_dirfile.specs.declared.row.DirRow.{DirRow}
use Rattle.hay_dirfile.specs.declared.fault.OpenFault.{OpenFault}
use Rattle.hay_dirfile.specs.declared.fault.RowsFault.{RowsFault}
use Rattle.hay_dirfile.specs.Faults.{open_fault}
use Rattle.hay_dirfile.specs.Journal.{journal_magic, journal_row, row_fields, journal_end, IsRowOf, LeadsTo, IsJournal, IsBrokenRow, IsBrokenAt, IsDamagedJournal}

pub row_is : (row : DirRow) → journal_row row ≡ record_of journal_magic (row_fields row)
unfolding journal_row
row_is row = refl

pub length-row : (row : DirRow) → length (journal_row row) ≡ 24
unfolding journal_row row_fields
length-row row = refl

pub length-body : (row : DirRow) (body : List ℕ) → body ≡ row_fields row ++ end_mark → length body ≡ 24
unfolding row_fields
length-body row body is = ap length is

-- a fact of none, of one, of the first and of the others

all_none : (P : DirRow → Type 0) → All P []
all_none P k d below = absurd (omega arith)

pub all_one : (P : DirRow → Type 0) (row : DirRow) → P row → All P (row ∷ [])
all_one P row holds zero d below = holds
all_one P row holds (suc k) d below = absurd (omega arith)

all_first : (P : DirRow → Type 0) (row : DirRow) (rows : List DirRow) → All P (row ∷ rows) → P row
all_first P row rows all = all 0 row (omega arith)

all_rest : (P : DirRow → Type 0) (row : DirRow) (rows : List DirRow) → All P (row ∷ rows) → All P rows
all_rest P row rows all k d below = all (suc k) d (omega arith)

-- A ROW'S BYTES

key_of : (row : DirRow) (bytes : List ℕ) → row.pair.key < 2 ^ 64 → bytes ≡ journal_row row → number_at 8 8 bytes ≡ row.pair.key
unfolding number_at journal_row row_fields
key_of row bytes fits is = ap (λ (l : List ℕ). number_at 8 8 l) is ∙ big_number-reads_back 8 row.pair.key [] fits

alt_of : (row : DirRow) (bytes : List ℕ) → row.pair.alt < 2 ^ 32 → bytes ≡ journal_row row → number_at 4 16 bytes ≡ row.pair.alt
unfolding number_at journal_row row_fields
alt_of row bytes fits is = ap (λ (l : List ℕ). number_at 4 16 l) is ∙ big_number-reads_back 4 row.pair.alt [] fits

pub volume_of : (row : DirRow) (bytes : List ℕ) → row.volume < 2 ^ 32 → bytes ≡ journal_row row → number_at 4 20 bytes ≡ row.volume
unfolding number_at journal_row row_fields
volume_of row bytes fits is = ap (λ (l : List ℕ). number_at 4 20 l) is ∙ big_number-reads_back 4 row.volume [] fits

-- a row's bytes are those of no other
same_row : (volumes : ℕ) (r s : DirRow) → volumes ≤ 2 ^ 32 → IsRowOf volumes r → IsRowOf volumes s → journal_row r ≡ journal_row s → r ≡ s
same_row volumes r s most first second same =
    let with : ℕ → ℕ → ℕ → DirRow = λ k a v. record { pair = record { key = k; alt = a }; volume = v } in
    let low = first.volume in
    let down = second.volume in
    let key : r.pair.key ≡ s.pair.key = sym (key_of r (journal_row r) first.key refl) ∙ key_of s (journal_row r) second.key same in
    let alt : r.pair.alt ≡ s.pair.alt = sym (alt_of r (journal_row r) first.alt refl) ∙ alt_of s (journal_row r) second.alt same in
    let volume : r.volume ≡ s.volume = sym (volume_of r (journal_row r) (omega arith) refl) ∙ volume_of s (journal_row r) (omega arith) same in
    ap (λ k. with k r.pair.alt r.volume) key ∙ ap (λ a. with s.pair.key a r.volume) alt ∙ ap (with s.pair.key s.pair.alt) volume

-- bytes with the magic are the row of their fields
pub row_spelled : (row : DirRow) (bytes : List ℕ) → IsBytes bytes → length bytes ≡ 24 → take 8 bytes ≡ magic_bytes journal_magic → number_at 8 8 bytes ≡ row.pair.key
    → number_at 4 16 bytes ≡ row.pair.alt → number_at 4 20 bytes ≡ row.volume
    → bytes ≡ journal_row row
unfolding row_fields
row_spelled row bytes fits long magic key alt volume =
    let last : drop 20 bytes ≡ bytes_high_first 4 row.volume =
    field_4 20 bytes (omega arith) fits ∙ ap (λ (l : List ℕ). bytes_high_first 4 (number_at 4 20 bytes) ++ l) (drop_all 24 bytes (omega arith))
    ∙ append-nil (bytes_high_first 4 (number_at 4 20 bytes)) ∙ ap (λ n. bytes_high_first 4 n) volume in
    let second : drop 16 bytes ≡ bytes_high_first 4 row.pair.alt ++ bytes_high_first 4 row.volume =
    field_4 16 bytes (omega arith) fits ∙ ap (λ n. bytes_high_first 4 n ++ drop 20 bytes) alt ∙ ap (λ (l : List ℕ). bytes_high_first 4 row.pair.alt ++ l) last in
    let fields : drop 8 bytes ≡ row_fields row =
    field_8 8 bytes (omega arith) fits ∙ ap (λ n. bytes_high_first 8 n ++ drop 16 bytes) key ∙ ap (λ (l : List ℕ). bytes_high_first 8 row.pair.key ++ l) second in
    sym (take-append-drop 8 bytes) ∙ ap (λ (l : List ℕ). l ++ drop 8 bytes) magic ∙ ap (λ (l : List ℕ). magic_bytes journal_magic ++ l) fields ∙ sym (row_is row)

pub row_read : (volumes key alt volume : ℕ) (bytes : List ℕ) → IsBytes bytes → length bytes ≡ 24 → take 8 bytes ≡ magic_bytes journal_magic → key ≡ number_at 8 8 bytes
    → alt ≡ number_at 4 16 bytes → volume ≡ number_at 4 20 bytes → volume < volumes
    → IsRowOf volumes (record { pair = record { key = key; alt = alt }; volume = volume }) × (bytes ≡ journal_row (record { pair = record { key = key; alt = alt }; volume = volume }))
row_read volumes key alt volume bytes fits long magic keys alts vols below = (
  record { key = omega (arith, number_8 8 bytes fits); alt = omega (arith, number_4 16 bytes fits); volume = below },
  row_spelled (record { pair = record { key = key; alt = alt }; volume = volume }) bytes fits long magic (sym keys) (sym alts) (sym vols),
)

-- a volume that there is not
pub no_volume : (volumes volume : ℕ) (bytes : List ℕ) (row : DirRow) → volumes < 2 ^ 32 → volume ≡ number_at 4 20 bytes → volumes ≤ volume → IsRowOf volumes row → bytes ≡ journal_row row → ⊥
no_volume volumes volume bytes row fits is beyond of same =
    let low = of.volume in
    let here = volume_of row bytes (omega arith) same in
    omega arith

-- A ROW IS READ

row_room : (at : ℕ) (row : DirRow) (file : List ℕ) → HasBytesAt at (journal_row row) file → at + 24 ≤ length file
row_room at row file stand = omega (arith, length-row row, ap length stand, length-take (length (journal_row row)) (drop at file), length-drop at file)

-- as many bytes that are no row
pub other_bytes : (volumes at : ℕ) (bytes file : List ℕ) → length bytes ≡ 24 → take 8 bytes ≡ magic_bytes journal_magic → HasBytesAt at bytes file
    → ((row : DirRow) → IsRowOf volumes row → bytes ≡ journal_row row → ⊥) → IsBrokenRow volumes at file
other_bytes volumes at bytes file long magic stand none =
    let here : take 8 (drop at file) ≡ magic_bytes journal_magic = sym (take-take 8 (length bytes) (drop at file) (omega arith)) ∙ ap (λ (l : List ℕ). take 8 l) stand ∙ magic in
    inr (here, λ row of this. none row of (sym stand ∙ ap (λ n. take n (drop at file)) (long ∙ sym (length-row row)) ∙ this))

-- fewer bytes than a row has
pub cut_row : (volumes at : ℕ) (file : List ℕ) → IsCutAt journal_magic 24 at file → IsBrokenRow volumes at file
cut_row volumes at file (inl short) = inl short
cut_row volumes at file (inr cut) =
    let short = cut.1 in
    inr (cut.0, λ row of stand. let room = row_room at row file stand in omega arith)

-- THE NEXT ROW IS APPENDED

more_journal : (superblock : List ℕ) (volumes : ℕ) (file : List ℕ) (rows : List DirRow) (row : DirRow) (next : ℕ) → All (IsRowOf volumes) rows → IsRowOf volumes row
    → next ≡ journal_end (rows ++ row ∷ [])
    → HasRows journal_row superblock file (rows ++ row ∷ []) next × IsClosed journal_magic next file → IsJournal superblock volumes file (rows ++ row ∷ [])
more_journal superblock volumes file rows row next all of nexts is = record {
  lead = record {
    all = All-append (IsRowOf volumes) rows (row ∷ []) all (all_one (IsRowOf volumes) row of);
    stand = subst (λ k. HasRows journal_row superblock file (rows ++ row ∷ []) k) nexts is.0;
  };
  closed = subst (λ k. IsClosed journal_magic k file) nexts is.1;
}

next_end : (rows : List DirRow) (row : DirRow) → journal_end rows + 24 ≡ journal_end (rows ++ row ∷ [])
next_end rows row = omega (arith, length-append rows (row ∷ []))

pub journal_grows : (superblock : List ℕ) (volumes : ℕ) (old new body : List ℕ) (rows : List DirRow) (row : DirRow) (end : ℕ) → IsRowOf volumes row
    → body ≡ row_fields row ++ end_mark → end ≡ journal_end rows → LogGrows journal_magic end body old new
    → IsJournal superblock volumes old rows → IsJournal superblock volumes new (rows ++ row ∷ [])
journal_grows superblock volumes old new body rows row end of body_is ends grows is =
    let here : LogGrows journal_magic (journal_end rows) body old new = subst (λ k. LogGrows journal_magic k body old new) ends grows in
    more_journal superblock volumes new rows row (journal_end rows + 24) is.lead.all of (next_end rows row)
    (rows_grow journal_magic journal_row superblock old new body (row_fields row) rows (journal_end rows) (journal_end rows + 24) row (row_is row) body_is
    (ap (λ n. journal_end rows + n) (length-row row)) here is.lead.stand is.closed)

pub journal_stays : (superblock : List ℕ) (volumes : ℕ) (body image : List ℕ) (old new : FileState) (rows : List DirRow) (row : DirRow) (end : ℕ) → IsRowOf volumes row
    → body ≡ row_fields row ++ end_mark → end ≡ journal_end rows → LogStays journal_magic end body old new
    → IsJournal superblock volumes old.now rows → IsSolidIn 0 end old → IsImage new image → IsJournal superblock volumes image rows ⊎ IsJournal superblock volumes image (rows ++ row ∷ [])
journal_stays superblock volumes body image old new rows row end of body_is ends stays is solid leaves =
    let here : LogStays journal_magic (journal_end rows) body old new = subst (λ k. LogStays journal_magic k body old new) ends stays in
    let front : IsSolidIn 0 (journal_end rows) old = subst (λ k. IsSolidIn 0 k old) ends solid in
    elim (rows_stay journal_magic journal_row superblock body (row_fields row) image old new rows (journal_end rows) (journal_end rows + 24) row (row_is row) body_is
    (ap (λ n. journal_end rows + n) (length-row row)) here is.lead.stand is.closed front leaves) [
      | inl same ↦ inl (record { lead = record { all = is.lead.all; stand = same.0 }; closed = same.1 })
      | inr more ↦ inr (more_journal superblock volumes image rows row (journal_end rows + 24) is.lead.all of (next_end rows row) more)
    ]

-- the place behind the new row is a number of 64 bits
pub next_place : (end place : ℕ) (body : List ℕ) (row : DirRow) (file : FileState) → body ≡ row_fields row ++ end_mark → IsGate journal_magic (end + length body) file
    → length file.now < 2 ^ 64 → place ≡ min (end + 24) 18446744073709551615
    → place ≡ end + 24
next_place end place body row file body_is gate fits is = omega (arith, gate.closed.room, length-body row body body_is)

pub next_gate : (end place : ℕ) (body : List ℕ) (row : DirRow) (file : FileState) → body ≡ row_fields row ++ end_mark → place ≡ end + 24
    → IsGate journal_magic (end + length body) file → IsGate journal_magic place file
next_gate end place body row file body_is is gate = subst (λ k. IsGate journal_magic k file) (ap (λ n. end + n) (length-body row body body_is) ∙ sym is) gate

-- A JOURNAL WITHOUT ROWS

pub formatted : (superblock : List ℕ) (volumes : ℕ) (bytes old new : List ℕ) → length superblock ≡ 64 → bytes ≡ superblock ++ end_mark → new ≡ overwrite 0 bytes old
    → IsJournal superblock volumes new []
formatted superblock volumes bytes old new long is written =
    let tail = drop (0 + length bytes) old in
    let whole : new ≡ superblock ++ (end_mark ++ tail) = written ∙ ap (λ (l : List ℕ). l ++ tail) is ∙ append_assoc superblock end_mark tail in
    let behind : drop 64 new ≡ end_mark ++ tail = ap (λ (l : List ℕ). drop 64 l) whole ∙ drop_at superblock (end_mark ++ tail) 64 long in
    let mark : take 8 (drop 64 new) ≡ end_mark = ap (λ (l : List ℕ). take 8 l) behind in
    let begins : take 64 new ≡ superblock = ap (λ (l : List ℕ). take 64 l) whole ∙ take_at superblock (end_mark ++ tail) 64 long in
    record {
      lead = record { all = all_none (IsRowOf volumes); stand = no_rows journal_row superblock new long begins };
      closed = record {
        room = omega (arith, ap length whole, length-append superblock (end_mark ++ tail), long);
        shut = λ magic. not_mark journal_magic (lit< tt) (lit< tt) (sym mark ∙ magic);
      };
    }

-- A FILE THAT WAS EMPTY

-- Whatever a stop leaves of it, formatted or in part, has no room for a row.
pub no_row_yet : (superblock : List ℕ) (volumes : ℕ) (old new : FileState) (image : List ℕ) (rows : List DirRow) → IsSolid old → old.now ≡ [] → Changes 0 72 old new
    → IsImage new image → IsJournal superblock volumes image rows → rows ≡ []
no_row_yet superblock volumes old new image [] solid void changes is journal = refl
no_row_yet superblock volumes old new image (row ∷ rows) solid void changes is journal =
    let none : old.longest ≤ 0 = omega (arith, solid.longest, ap length void) in
    absurd (omega (arith, none, changes.longest, is.no_longer, journal.closed.room))

-- once it is on the disk, and nothing of it is sealed, a row may be appended
pub journal_gate : (superblock : List ℕ) (volumes : ℕ) (rows : List DirRow) (end : ℕ) (file : FileState) → end ≡ journal_end rows → IsJournal superblock volumes file.now rows
    → IsSolid file → IsFree file → IsGate journal_magic end file
journal_gate superblock volumes rows end file ends is solid free = record {
  closed = subst (λ k. IsClosed journal_magic k file.now) (sym ends) is.closed;
  solid = λ k from to. solid.places k;
  free = λ k from. free k;
}

-- ROW AFTER ROW

pub lead_first : (superblock : List ℕ) (volumes : ℕ) (file : List ℕ) (rows : List DirRow) → rows ≡ [] → length superblock ≡ 64 → take 64 file ≡ superblock → LeadsTo superblock volumes file rows
lead_first superblock volumes file rows none long begins =
    subst (λ l. LeadsTo superblock volumes file l) (sym none) (record { all = all_none (IsRowOf volumes); stand = no_rows journal_row superblock file long begins })

pub lead_next : (superblock : List ℕ) (volumes : ℕ) (file : List ℕ) (rows more : List DirRow) (row : DirRow) (end : ℕ) → more ≡ rows ++ row ∷ [] → end ≡ journal_end rows
    → LeadsTo superblock volumes file rows → IsRowOf volumes row → HasBytesAt end (journal_row row) file
    → LeadsTo superblock volumes file more
lead_next superblock volumes file rows more row end mores ends lead of stand =
    let here : HasBytesAt (journal_end rows) (journal_row row) file = subst (λ k. HasBytesAt k (journal_row row) file) ends stand in
    subst (λ l. LeadsTo superblock volumes file l) (sym mores) (record {
      all = All-append (IsRowOf volumes) rows (row ∷ []) lead.all (all_one (IsRowOf volumes) row of);
      stand = rows_lead journal_row superblock file rows (journal_end rows) (journal_end (rows ++ row ∷ [])) row lead.stand here (ap (λ n. journal_end rows + n) (length-row row) ∙ next_end rows row);
    })

pub next_count : (rows more : List DirRow) (row : DirRow) (end next : ℕ) → more ≡ rows ++ row ∷ [] → end ≡ journal_end rows → next ≡ end + 24 → next ≡ journal_end more
next_count rows more row end next mores ends is = is ∙ ap (λ k. k + 24) ends ∙ next_end rows row ∙ ap journal_end (sym mores)

-- a row lies within its file
pub row_within : (end : ℕ) (row : DirRow) (file : List ℕ) → HasBytesAt end (journal_row row) file → length file < 2 ^ 64 → end + 24 < 2 ^ 64
row_within end row file stand fits = let room = row_room end row file stand in omega arith

pub journal_found : (superblock : List ℕ) (volumes : ℕ) (file : List ℕ) (rows : List DirRow) (end : ℕ) → end ≡ journal_end rows → LeadsTo superblock volumes file rows
    → IsClosed journal_magic end file → IsJournal superblock volumes file rows
journal_found superblock volumes file rows end ends lead closed = record { lead = lead; closed = subst (λ k. IsClosed journal_magic k file) ends closed }

-- where a row stands there is no end mark, and nothing is broken

row_open : (at : ℕ) (row : DirRow) (file : List ℕ) → HasBytesAt at (journal_row row) file → IsClosed journal_magic at file → ⊥
row_open at row file stand closed = closed.shut (row_magic journal_magic at (journal_row row) (row_fields row) file (row_is row) stand)

row_whole : (volumes at : ℕ) (row : DirRow) (file : List ℕ) → IsRowOf volumes row → HasBytesAt at (journal_row row) file → IsBrokenRow volumes at file → ⊥
row_whole volumes at row file of stand (inl short) = let room = row_room at row file stand in omega arith
row_whole volumes at row file of stand (inr begun) = begun.1 row of stand

mark_whole : (volumes at : ℕ) (file : List ℕ) → IsClosed journal_magic at file → IsBrokenRow volumes at file → ⊥
mark_whole volumes at file closed (inl short) = let room = closed.room in omega arith
mark_whole volumes at file closed (inr begun) = closed.shut begun.0

-- rows from a place on
abbrev rows_bytes : List DirRow → List ℕ
rows_bytes rows = flat_map journal_row rows

first_row : (at : ℕ) (row : DirRow) (rows : List DirRow) (file : List ℕ) → HasBytesAt at (rows_bytes (row ∷ rows)) file → HasBytesAt at (journal_row row) file
first_row at row rows file stand = stands_first at (journal_row row) (rows_bytes rows) file stand

other_rows : (at : ℕ) (row : DirRow) (rows : List DirRow) (file : List ℕ) → HasBytesAt at (rows_bytes (row ∷ rows)) file → HasBytesAt (at + 24) (rows_bytes rows) file
other_rows at row rows file stand = subst (λ k. HasBytesAt (at + k) (rows_bytes rows) file) (length-row row) (stands_second at (journal_row row) (rows_bytes rows) file stand)

behind_first : (at : ℕ) (row : DirRow) (rows : List DirRow) → at + length (rows_bytes (row ∷ rows)) ≡ (at + 24) + length (rows_bytes rows)
behind_first at row rows = omega (arith, length-append (journal_row row) (rows_bytes rows), length-row row)

at_once : (at : ℕ) → at + 0 ≡ at
at_once at = omega arith

one_reading : (volumes at : ℕ) (rows more : List DirRow) (file : List ℕ) → volumes ≤ 2 ^ 32 → All (IsRowOf volumes) rows → All (IsRowOf volumes) more
    → HasBytesAt at (rows_bytes rows) file → IsClosed journal_magic (at + length (rows_bytes rows)) file → HasBytesAt at (rows_bytes more) file
    → IsClosed journal_magic (at + length (rows_bytes more)) file → rows ≡ more
one_reading volumes at [] [] file most all also stand closed again shut = refl
one_reading volumes at [] (s ∷ more) file most all also stand closed again shut =
    absurd (row_open at s file (first_row at s more file again) (subst (λ k. IsClosed journal_magic k file) (at_once at) closed))
one_reading volumes at (r ∷ rows) [] file most all also stand closed again shut =
    absurd (row_open at r file (first_row at r rows file stand) (subst (λ k. IsClosed journal_magic k file) (at_once at) shut))
one_reading volumes at (r ∷ rows) (s ∷ more) file most all also stand closed again shut =
    let first = first_row at r rows file stand in
    let second = first_row at s more file again in
    let same : journal_row r ≡ journal_row s = sym first ∙ ap (λ n. take n (drop at file)) (length-row r ∙ sym (length-row s)) ∙ second in
    let row : r ≡ s = same_row volumes r s most (all_first (IsRowOf volumes) r rows all) (all_first (IsRowOf volumes) s more also) same in
    let rest : rows ≡ more = one_reading volumes (at + 24) rows more file most (all_rest (IsRowOf volumes) r rows all) (all_rest (IsRowOf volumes) s more also)
    (other_rows at r rows file stand) (subst (λ k. IsClosed journal_magic k file) (behind_first at r rows) closed)
    (other_rows at s more file again) (subst (λ k. IsClosed journal_magic k file) (behind_first at s more) shut) in
    ap (λ x. x ∷ rows) row ∙ ap (λ (l : List DirRow). s ∷ l) rest

no_broken_at : (volumes at : ℕ) (rows more : List DirRow) (file : List ℕ) → All (IsRowOf volumes) rows → HasBytesAt at (rows_bytes rows) file
    → IsClosed journal_magic (at + length (rows_bytes rows)) file
    → HasBytesAt at (rows_bytes more) file → IsBrokenRow volumes (at + length (rows_bytes more)) file → ⊥
no_broken_at volumes at [] [] file all stand closed again broken = mark_whole volumes (at + 0) file closed broken
no_broken_at volumes at [] (s ∷ more) file all stand closed again broken =
    row_open at s file (first_row at s more file again) (subst (λ k. IsClosed journal_magic k file) (at_once at) closed)
no_broken_at volumes at (r ∷ rows) [] file all stand closed again broken =
    row_whole volumes at r file (all_first (IsRowOf volumes) r rows all) (first_row at r rows file stand) (subst (λ k. IsBrokenRow volumes k file) (at_once at) broken)
no_broken_at volumes at (r ∷ rows) (s ∷ more) file all stand closed again broken =
    no_broken_at volumes (at + 24) rows more file (all_rest (IsRowOf volumes) r rows all)
    (other_rows at r rows file stand) (subst (λ k. IsClosed journal_magic k file) (behind_first at r rows) closed)
    (other_rows at s more file again) (subst (λ k. IsBrokenRow volumes k file) (behind_first at s more) broken)

-- of two places with rows up to them, at which the file is broken, the first is the second
same_place : (volumes at : ℕ) (rows more : List DirRow) (file : List ℕ) → All (IsRowOf volumes) rows → All (IsRowOf volumes) more → HasBytesAt at (rows_bytes rows) file
    → IsBrokenRow volumes (at + length (rows_bytes rows)) file
    → HasBytesAt at (rows_bytes more) file → IsBrokenRow volumes (at + length (rows_bytes more)) file → at + length (rows_bytes rows) ≡ at + length (rows_bytes more)
same_place volumes at [] [] file all also stand broken again worse = refl
same_place volumes at [] (s ∷ more) file all also stand broken again worse =
    absurd (row_whole volumes at s file (all_first (IsRowOf volumes) s more also) (first_row at s more file again) (subst (λ k. IsBrokenRow volumes k file) (at_once at) broken))
same_place volumes at (r ∷ rows) [] file all also stand broken again worse =
    absurd (row_whole volumes at r file (all_first (IsRowOf volumes) r rows all) (first_row at r rows file stand) (subst (λ k. IsBrokenRow volumes k file) (at_once at) worse))
same_place volumes at (r ∷ rows) (s ∷ more) file all also stand broken again worse =
    behind_first at r rows
    ∙ same_place volumes (at + 24) rows more file (all_rest (IsRowOf volumes) r rows all) (all_rest (IsRowOf volumes) s more also) (other_rows at r rows file stand)
    (subst (λ k. IsBrokenRow volumes k file) (behind_first at r rows) broken)
    (other_rows at s more file again) (subst (λ k. IsBrokenRow volumes k file) (behind_first at s more) worse)
    ∙ sym (behind_first at s more)

-- a journal has one list of rows, and no damage

rows_here : (superblock : List ℕ) (volumes : ℕ) (file : List ℕ) (rows : List DirRow) → LeadsTo superblock volumes file rows → HasBytesAt 64 (rows_bytes rows) file
rows_here superblock volumes file rows lead = rows_stand journal_row superblock file rows (journal_end rows) lead.stand

pub one_journal : (superblock : List ℕ) (volumes : ℕ) (file : List ℕ) (rows more : List DirRow) → volumes ≤ 2 ^ 32 → IsJournal superblock volumes file rows
    → IsJournal superblock volumes file more → rows ≡ more
one_journal superblock volumes file rows more most is also =
    one_reading volumes 64 rows more file most is.lead.all also.lead.all
    (rows_here superblock volumes file rows is.lead) (subst (λ k. IsClosed journal_magic k file) (sym is.lead.stand.ends) is.closed)
    (rows_here superblock volumes file more also.lead) (subst (λ k. IsClosed journal_magic k file) (sym also.lead.stand.ends) also.closed)

pub no_broken_row : (superblock : List ℕ) (volumes : ℕ) (file : List ℕ) (rows more : List DirRow) (at : ℕ) → at ≡ journal_end more → IsJournal superblock volumes file rows
    → LeadsTo superblock volumes file more → IsBrokenRow volumes at file → ⊥
no_broken_row superblock volumes file rows more at place is lead broken =
    no_broken_at volumes 64 rows more file is.lead.all (rows_here superblock volumes file rows is.lead) (subst (λ k. IsClosed journal_magic k file) (sym is.lead.stand.ends) is.closed)
    (rows_here superblock volumes file more lead) (subst (λ k. IsBrokenRow volumes k file) (place ∙ sym lead.stand.ends) broken)

pub undamaged : (superblock : List ℕ) (volumes : ℕ) (file : List ℕ) (rows : List DirRow) (at : ℕ) → IsJournal superblock volumes file rows → IsBrokenAt superblock volumes file at → ⊥
undamaged superblock volumes file rows at is damage = no_broken_row superblock volumes file rows damage.rows at damage.place is damage.lead damage.broken

-- the superblock has no fault
front_whole : (sup : Super) (file : List ℕ) (at : ℕ) → SuperFits sup → take 64 file ≡ super_bytes sup → IsSuperFaultAt sup file at → ⊥
front_whole sup file at fits begins damage =
    let refused : Result (Unit {0}) SuperFault = Err damage.fault in
    let accepted : false ≡ true = is_only (take 64 file) sup refused fits (sym damage.first) (take-take 64 64 file (omega arith) ∙ begins) in
    absurd cc

pub sound : (sup : Super) (file : List ℕ) (rows : List DirRow) (at : ℕ) → SuperFits sup → IsJournal (super_bytes sup) sup.settings.volumes file rows → IsDamagedJournal sup file at → ⊥
sound sup file rows at fits is (inl fault) =
    let stand = is.lead.stand in
    let front : 64 ≤ journal_end rows = omega arith in
    let begins : take 64 file ≡ super_bytes sup =
    sym (take-take 64 (journal_end rows) file front) ∙ ap (λ (l : List ℕ). take 64 l) stand.front ∙ take_at (super_bytes sup) (rows_bytes rows) 64 stand.long in
    front_whole sup file at fits begins fault
sound sup file rows at fits is (inr broken) = undamaged (super_bytes sup) sup.settings.volumes file rows at is broken

-- and a damaged one is damaged at one place
pub one_damage : (superblock : List ℕ) (volumes : ℕ) (file : List ℕ) (at other : ℕ) → IsBrokenAt superblock volumes file at → IsBrokenAt superblock volumes file other → at ≡ other
one_damage superblock volumes file at other first second =
    let here : at ≡ 64 + length (rows_bytes first.rows) = first.place ∙ sym first.lead.stand.ends in
    let there : other ≡ 64 + length (rows_bytes second.rows) = second.place ∙ sym second.lead.stand.ends in
    here
    ∙ same_place volumes 64 first.rows second.rows file first.lead.all second.lead.all
    (rows_here superblock volumes file first.rows first.lead) (subst (λ k. IsBrokenRow volumes k file) here first.broken)
    (rows_here superblock volumes file second.rows second.lead) (subst (λ k. IsBrokenRow volumes k file) there second.broken)
    ∙ sym there

-- the damage that a refused opening names
pub damage_of : (fault : RowsFault) (named : OpenFault) (faults file at : ℕ) → named ≡ open_fault faults fault → named ≡ OpenFault.Damaged file at → (file ≡ 0) × (fault ≡ RowsFault.Damaged at)
damage_of RowsFault.Failed named faults file at is damaged = absurd cc
damage_of (RowsFault.Damaged k) named faults file at is damaged =
    let here : file ≡ 0 = cc in
    let there : k ≡ at = cc in
    (here, ap (λ n. RowsFault.Damaged n) there)
damage_of RowsFault.NoMemory named faults file at is damaged = absurd cc
