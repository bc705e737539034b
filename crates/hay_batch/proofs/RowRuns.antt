-- A journal with the rows of a batch.
use Rattle.std.proofs.Common.{◌≡◌, ◌⊎◌, inl, inr, ◌<◌, ◌+◌, ◌-◌, ◌*◌, ◌^◌, min, ℕ, List, [], ◌∷◌, ◌++◌, length, get_or, take, drop, refl, sym, ◌∙◌, ap, subst, arith, append_assoc}
use Rattle.std.proofs.Common.{append-nil, length-append, length-drop}
use Rattle.std.specs.List.{All, flat_map}
use Rattle.std.proofs.lemmas.List.{drop_at, take_all, take_more}
use Rattle.std.proofs.lemmas.List.Elements.{All-append}
use Rattle.std.proofs.lemmas.Grind.{flat_map-append}
use Rattle.hay_disk.specs.Disk.{FileState, IsImage, IsSolidIn}
use Rattle.hay_disk.specs.Gate.{magic_bytes, record_of, end_mark, EndsInMark, IsClosed, IsGate, IsLog, LogGrows, LogStays}
use Rattle.hay_disk.proofs.Logs.{log_kept}
use Rattle.hay_head.specs.Rows.{HasRows}
use Rattle.hay_head.proofs.RowLaws.{rows_log}
use Rattle.hay_dirfile.specs.declared.row.DirRow.{DirRow}
use Rattle.hay_dirfile.specs.Journal.{journal_magic, journal_row, row_fields, journal_end, IsRowOf, IsJournal}
use Rattle.hay_dirfile.proofs.JournalLaws.{row_is, length-row}
use Rattle.hay_batch.specs.Batches.{RowFits}

-- the bytes of rows
abbrev pub rows_bytes : List DirRow → List ℕ
rows_bytes rows = flat_map journal_row rows

pub length-rows : (rows : List DirRow) → length (rows_bytes rows) ≡ 24 * length rows
length-rows [] = refl
length-rows (row ∷ rows) = omega (arith, length-append (journal_row row) (rows_bytes rows), length-row row, length-rows rows)

-- one row more
pub rows_more : (rows : List DirRow) (i : ℕ) (d : DirRow) (bytes more piece : List ℕ) → i < length rows → piece ≡ journal_row (get_or rows i d) → bytes ≡ rows_bytes (take i rows)
    → more ≡ bytes ++ piece
    → more ≡ rows_bytes (take (i + 1) rows)
rows_more rows i d bytes more piece within is before after =
    after ∙ ap (λ (l : List ℕ). l ++ piece) before ∙ ap (λ (l : List ℕ). rows_bytes (take i rows) ++ l) (is ∙ sym (append-nil (journal_row (get_or rows i d))))
    ∙ sym (flat_map-append journal_row (take i rows) (get_or rows i d ∷ []))
    ∙ ap rows_bytes (sym (take_more rows i d within))

-- THE BODY OF AN APPEND

-- what stands behind the first row's magic, and the end mark
pub record IsBody (body : List ℕ) (rows : List DirRow) : Type 0 where
  pub rest : List ℕ
  pub begins : rows_bytes rows ≡ record_of journal_magic rest
  pub parts : body ≡ rest ++ end_mark
  pub fit : All RowFits rows

-- the bytes behind the first magic
abbrev pub body_of : List ℕ → List ℕ
body_of bytes = take (length bytes - 8) (drop 8 bytes)

pub body_made : (bytes items : List ℕ) (rows : List DirRow) → 0 < length rows → All RowFits rows → bytes ≡ items → items ≡ rows_bytes rows ++ end_mark → IsBody (body_of bytes) rows
body_made bytes items [] some fit same whole = absurd (omega arith)
body_made bytes items (row ∷ rows) some fit same whole =
    let rest : List ℕ = row_fields row ++ rows_bytes rows in
    let begins : rows_bytes (row ∷ rows) ≡ record_of journal_magic rest =
    ap (λ (l : List ℕ). l ++ rows_bytes rows) (row_is row) ∙ append_assoc (magic_bytes journal_magic) (row_fields row) (rows_bytes rows) in
    let split : bytes ≡ magic_bytes journal_magic ++ (rest ++ end_mark) =
    same ∙ whole ∙ ap (λ (l : List ℕ). l ++ end_mark) begins ∙ append_assoc (magic_bytes journal_magic) rest end_mark in
    record {
      rest = rest;
      begins = begins;
      parts = take_all (length bytes - 8) (drop 8 bytes) (omega (arith, length-drop 8 bytes)) ∙ ap (λ (l : List ℕ). drop 8 l) split ∙ drop_at (magic_bytes journal_magic) (rest ++ end_mark) 8 refl;
      fit = fit;
    }

pub ends_in_mark : (body : List ℕ) (rows : List DirRow) → IsBody body rows → EndsInMark body
ends_in_mark body rows made = (made.rest, made.parts)

pub length-body : (body : List ℕ) (rows : List DirRow) → IsBody body rows → length body ≡ 24 * length rows
length-body body rows made =
    omega (arith, ap length made.parts, length-append made.rest end_mark, ap length made.begins, length-append (magic_bytes journal_magic) made.rest, length-rows rows)

-- THE JOURNAL

pub rows_end : (rows more : List DirRow) → journal_end (rows ++ more) ≡ journal_end rows + 24 * length more
rows_end rows more = omega (arith, length-append rows more)

-- rows of the volumes that there are
rows_of : (volumes : ℕ) (rows : List DirRow) → All RowFits rows → All (λ (row : DirRow). row.volume < volumes) rows → All (IsRowOf volumes) rows
rows_of volumes rows fit below = λ k d within.
    let fits = fit k d within in
    record { key = fits.key; alt = fits.alt; volume = below k d within }

front_length : (superblock file : List ℕ) (rows : List DirRow) (end : ℕ) → HasRows journal_row superblock file rows end → length (superblock ++ rows_bytes rows) ≡ end
front_length superblock file rows end has = omega (arith, length-append superblock (rows_bytes rows), has.long, has.ends)

-- the log of rows is a journal
log_journal : (superblock : List ℕ) (volumes : ℕ) (file : List ℕ) (rows : List DirRow) → length superblock ≡ 64 → All (IsRowOf volumes) rows
    → IsLog journal_magic (superblock ++ rows_bytes rows) file → IsJournal superblock volumes file rows
log_journal superblock volumes file rows long all log =
    let count : 64 + length (rows_bytes rows) ≡ journal_end rows = omega (arith, length-rows rows) in
    let whole : length (superblock ++ rows_bytes rows) ≡ journal_end rows = omega (arith, length-append superblock (rows_bytes rows)) in
    record {
      lead = record {
        all = all;
        stand = record { long = long; front = ap (λ k. take k file) (sym whole) ∙ log.begins; ends = count };
      };
      closed = subst (λ k. IsClosed journal_magic k file) whole log.closed;
    }

-- the log with the record is the journal with the rows
with_rows : (superblock : List ℕ) (volumes : ℕ) (file image body : List ℕ) (rows more : List DirRow) (made : IsBody body more) → IsJournal superblock volumes file rows
    → All (λ (row : DirRow). row.volume < volumes) more
    → IsLog journal_magic ((superblock ++ rows_bytes rows) ++ record_of journal_magic made.rest) image → IsJournal superblock volumes image (rows ++ more)
with_rows superblock volumes file image body rows more made is below log =
    let whole : (superblock ++ rows_bytes rows) ++ record_of journal_magic made.rest ≡ superblock ++ rows_bytes (rows ++ more) =
    ap (λ (l : List ℕ). (superblock ++ rows_bytes rows) ++ l) (sym made.begins) ∙ append_assoc superblock (rows_bytes rows) (rows_bytes more)
    ∙ ap (λ (l : List ℕ). superblock ++ l) (sym (flat_map-append journal_row rows more)) in
    log_journal superblock volumes image (rows ++ more) is.lead.stand.long (All-append (IsRowOf volumes) rows more is.lead.all (rows_of volumes more made.fit below))
    (subst (λ (l : List ℕ). IsLog journal_magic l image) whole log)

pub journal_grows : (superblock : List ℕ) (volumes : ℕ) (old new body : List ℕ) (rows more : List DirRow) (end : ℕ) → IsBody body more
    → All (λ (row : DirRow). row.volume < volumes) more → end ≡ journal_end rows → LogGrows journal_magic end body old new
    → IsJournal superblock volumes old rows → IsJournal superblock volumes new (rows ++ more)
journal_grows superblock volumes old new body rows more end made below ends grows is =
    let has = is.lead.stand in
    with_rows superblock volumes old new body rows more made is below
    (grows.longer (superblock ++ rows_bytes rows) made.rest (front_length superblock old rows (journal_end rows) has ∙ sym ends) made.parts
    (rows_log journal_magic journal_row superblock old rows (journal_end rows) has is.closed))

pub journal_stays : (superblock : List ℕ) (volumes : ℕ) (image body : List ℕ) (old new : FileState) (rows more : List DirRow) (end : ℕ) → IsBody body more
    → All (λ (row : DirRow). row.volume < volumes) more → end ≡ journal_end rows
    → LogStays journal_magic end body old new → IsJournal superblock volumes old.now rows → IsSolidIn 0 end old → IsImage new image
    → IsJournal superblock volumes image rows ⊎ IsJournal superblock volumes image (rows ++ more)
journal_stays superblock volumes image body old new rows more end made below ends stays is solid leaves =
    let has = is.lead.stand in
    elim (stays.image (superblock ++ rows_bytes rows) made.rest image (front_length superblock old.now rows (journal_end rows) has ∙ sym ends) made.parts
    (rows_log journal_magic journal_row superblock old.now rows (journal_end rows) has is.closed) solid leaves) [
      | inl log ↦ inl (log_journal superblock volumes image rows has.long is.lead.all log)
      | inr log ↦ inr (with_rows superblock volumes old.now image body rows more made is below log)
    ]

-- where nothing was changed, a stop leaves the rows
pub journal_kept : (superblock : List ℕ) (volumes : ℕ) (file : FileState) (image : List ℕ) (rows : List DirRow) (end : ℕ) → end ≡ journal_end rows → IsGate journal_magic end file
    → IsJournal superblock volumes file.now rows → IsSolidIn 0 end file → IsImage file image
    → IsJournal superblock volumes image rows
journal_kept superblock volumes file image rows end ends gate is solid leaves =
    let has = is.lead.stand in
    log_journal superblock volumes image rows has.long is.lead.all
    (log_kept journal_magic end (superblock ++ rows_bytes rows) file image (front_length superblock file.now rows (journal_end rows) has ∙ sym ends)
    (rows_log journal_magic journal_row superblock file.now rows (journal_end rows) has is.closed) solid gate.solid leaves)

-- the place behind the new rows is a number of 64 bits
pub next_place : (end place : ℕ) (body : List ℕ) (rows : List DirRow) (file : FileState) → IsBody body rows → IsGate journal_magic (end + length body) file
    → length file.now < 2 ^ 64 → place ≡ min (end + 24 * length rows) 18446744073709551615
    → place ≡ end + 24 * length rows
next_place end place body rows file made gate fits is = omega (arith, gate.closed.room, length-body body rows made)

pub next_gate : (end place : ℕ) (body : List ℕ) (rows : List DirRow) (file : FileState) → IsBody body rows → place ≡ end + 24 * length rows
    → IsGate journal_magic (end + length body) file → IsGate journal_magic place file
next_gate end place body rows file made is gate = subst (λ k. IsGate journal_magic k file) (ap (λ n. end + n) (length-body body rows made) ∙ sym is) gate
