-- What turns tell line by line, and what that adds.
use Rattle.std.specs.Prelude.{flat_map}
use Rattle.std.specs.List.{AllByRecursion, fold}
use Rattle.std.proofs.Common.{◌≡◌, inl, inr, ℕ, List, [], ◌∷◌, ◌++◌, map, refl, sym, ap, ◌∙◌, append_assoc, append-nil, codes}
use Rattle.std.proofs.lemmas.Grind.{flat_map-append}
use Rattle.hay_reply.specs.declared.LineVolume.{LineVolume}
use Rattle.hay_reply.specs.declared.Note.{Note}
use Rattle.hay_reply.specs.declared.Note.TheVariants as note
use Rattle.hay_reply.specs.declared.Reply.{Reply}
use Rattle.hay_reply.specs.Fits.{FitsNote, FitsReply}
use Rattle.hay_needle.specs.declared.settings.Settings.{Settings}
use Rattle.hay_reply.specs.Replies.{field, header_line, note_line}
use Rattle.hay_legal.specs.declared.turn.LaneItem.{LaneItem}
use Rattle.hay_legal.specs.declared.turn.LogNote.{LogNote}
use Rattle.hay_legal.specs.declared.turn.Turn.{Turn}
use Rattle.hay_legal.specs.declared.turn.Turn.TheVariants.{Plain, Lanes, Restart}
use Rattle.hay_legal.specs.Transcript.{answered_line, log_line, row_line, turn_text}
use Rattle.hay_audit_steps.proofs.Feeds.{Fine, on}
use Rattle.hay_drill.specs.declared.summary.Summary.{Summary}
use Rattle.hay_drill.specs.Summary.{nothing, of_note, of_reply, plus, sum_of}
use Rattle.hay_drill.proofs.Summing.{nothing-plus, plus-nothing, plus_assoc, sum_of-append}
use Rattle.hay_run.specs.declared.drill.Tally.{Tally}
use Rattle.hay_run.specs.Drills.{of_turn, replies_of, summary_of}
use Rattle.hay_run.specs.Turns.{FitsAnswers}
use Rattle.hay_run.specs.Told.{FitsTold, Told, counted, counted_all, no_tally, of_told, rows_by, rows_told, told_line}
use Rattle.hay_run.specs.Told.Told.{Replied, Noted}
use Rattle.hay_run.proofs.Drilling.{any_field, four_parts}

-- THE LINES OF A TURN

abbrev pub told_item : LaneItem → Told
told_item answered = Replied answered.line answered.reply

abbrev pub told_log : LogNote → Told
told_log log = Noted (note.Log log.volume log.from log.lines)

abbrev pub told_rows : ℕ → List LineVolume → List Told
told_rows from [] = []
told_rows from (row ∷ rows) = Noted (note.Rows from (row ∷ rows)) ∷ []

abbrev pub told_of : Turn → List Told
told_of (Plain line item reply after) = Replied line reply ∷ []
told_of (Lanes items logs rows after) = map told_item items ++ (map told_log logs ++ told_rows rows.from rows.rows)
told_of (Restart line pick reply notes after) = Replied line reply ∷ map (λ n. Noted n) notes

pub items_text : (items : List LaneItem) → flat_map answered_line items ≡ flat_map told_line (map told_item items)
items_text [] = refl
items_text (item ∷ items) = ap (λ (t : List ℕ). answered_line item ++ t) (items_text items)

logs_text : (logs : List LogNote) → flat_map log_line logs ≡ flat_map told_line (map told_log logs)
logs_text [] = refl
logs_text (log ∷ logs) = ap (λ (t : List ℕ). log_line log ++ t) (logs_text logs)

pub notes_text : (notes : List Note) → flat_map note_line notes ≡ flat_map told_line (map (λ n. Noted n) notes)
notes_text [] = refl
notes_text (n ∷ notes) = ap (λ (t : List ℕ). note_line n ++ t) (notes_text notes)

rows_text : (from : ℕ) (rows : List LineVolume) → row_line from rows ≡ flat_map told_line (told_rows from rows)
rows_text from [] = refl
rows_text from (row ∷ rows) = sym (append-nil (note_line (note.Rows from (row ∷ rows))))

told_turn : (turn : Turn) → turn_text turn ≡ flat_map told_line (told_of turn)
told_turn (Plain line item reply after) = sym (append-nil (told_line (Replied line reply)))
told_turn (Lanes items logs rows after) =
    append_assoc (flat_map answered_line items) (flat_map log_line logs) (row_line rows.from rows.rows)
    ∙ ap (λ (t : List ℕ). t ++ (flat_map log_line logs ++ row_line rows.from rows.rows)) (items_text items)
    ∙ ap (λ (t : List ℕ). flat_map told_line (map told_item items) ++ (t ++ row_line rows.from rows.rows)) (logs_text logs)
    ∙ ap (λ (t : List ℕ). flat_map told_line (map told_item items) ++ (flat_map told_line (map told_log logs) ++ t)) (rows_text rows.from rows.rows)
    ∙ ap (λ (t : List ℕ). flat_map told_line (map told_item items) ++ t) (sym (flat_map-append told_line (map told_log logs) (told_rows rows.from rows.rows)))
    ∙ sym (flat_map-append told_line (map told_item items) (map told_log logs ++ told_rows rows.from rows.rows))
told_turn (Restart line pick reply notes after) = ap (λ (t : List ℕ). told_line (Replied line reply) ++ t) (notes_text notes)

-- the text of turns is that of their lines
pub told_turns : (turns : List Turn) → flat_map turn_text turns ≡ flat_map told_line (flat_map told_of turns)
told_turns [] = refl
told_turns (turn ∷ turns) =
    ap (λ (t : List ℕ). t ++ flat_map turn_text turns) (told_turn turn)
    ∙ ap (λ (t : List ℕ). flat_map told_line (told_of turn) ++ t) (told_turns turns)
    ∙ sym (flat_map-append told_line (told_of turn) (flat_map told_of turns))

-- THEIR NUMBERS

fits_both : (a b : List Told) → AllByRecursion FitsTold a → AllByRecursion FitsTold b → AllByRecursion FitsTold (a ++ b)
fits_both [] b h k = k
fits_both (t ∷ a) b h k = (h.0, fits_both a b h.1 k)

fits_items : (items : List LaneItem) → AllByRecursion (λ answered. FitsReply answered.reply) items → AllByRecursion FitsTold (map told_item items)
fits_items [] h = tt
fits_items (item ∷ items) h = (h.0, fits_items items h.1)

fits_logs : (logs : List LogNote) → AllByRecursion FitsTold (map told_log logs)
fits_logs [] = tt
fits_logs (log ∷ logs) = (inr refl, fits_logs logs)

fits_rows : (from : ℕ) (rows : List LineVolume) → AllByRecursion FitsTold (told_rows from rows)
fits_rows from [] = tt
fits_rows from (row ∷ rows) = (inr refl, tt)

fits_notes : (notes : List Note) → AllByRecursion FitsNote notes → AllByRecursion FitsTold (map (λ n. Noted n) notes)
fits_notes [] h = tt
fits_notes (n ∷ notes) h = (inl h.0, fits_notes notes h.1)

fits_turn : (turn : Turn) → FitsAnswers turn → AllByRecursion FitsTold (told_of turn)
fits_turn (Plain line item reply after) h = (h, tt)
fits_turn (Lanes items logs rows after) h =
    fits_both (map told_item items) (map told_log logs ++ told_rows rows.from rows.rows) (fits_items items h)
    (fits_both (map told_log logs) (told_rows rows.from rows.rows) (fits_logs logs) (fits_rows rows.from rows.rows))
fits_turn (Restart line pick reply notes after) h = (h.0, fits_notes notes h.1)

pub fits_turns : (turns : List Turn) → AllByRecursion FitsAnswers turns → AllByRecursion FitsTold (flat_map told_of turns)
fits_turns [] h = tt
fits_turns (turn ∷ turns) h = fits_both (told_of turn) (flat_map told_of turns) (fits_turn turn h.0) (fits_turns turns h.1)

-- THEIR SUM

counted_sum : (t : Tally) (told : List Told) → (counted_all t told).summary ≡ plus t.summary (sum_of of_told told)
counted_sum t [] = sym (plus-nothing t.summary)
counted_sum t (one ∷ told) = counted_sum (counted t one) told ∙ plus_assoc t.summary (of_told one) (sum_of of_told told)

counted_rows : (t : Tally) (told : List Told) → (counted_all t told).rows ≡ fold rows_by t.rows told
counted_rows t [] = refl
counted_rows t (one ∷ told) = counted_rows (counted t one) told

items_sum : (items : List LaneItem) → sum_of of_told (map told_item items) ≡ sum_of (λ answered. of_reply answered.reply) items
items_sum [] = refl
items_sum (item ∷ items) = ap (plus (of_reply item.reply)) (items_sum items)

logs_sum : (logs : List LogNote) → sum_of of_told (map told_log logs) ≡ nothing
logs_sum [] = refl
logs_sum (log ∷ logs) = ap (plus nothing) (logs_sum logs)

rows_sum : (from : ℕ) (rows : List LineVolume) → sum_of of_told (told_rows from rows) ≡ nothing
rows_sum from [] = refl
rows_sum from (row ∷ rows) = refl

notes_sum : (notes : List Note) → sum_of of_told (map (λ n. Noted n) notes) ≡ sum_of of_note notes
notes_sum [] = refl
notes_sum (n ∷ notes) = ap (plus (of_note n)) (notes_sum notes)

turn_sum : (turn : Turn) → sum_of of_told (told_of turn) ≡ of_turn turn
turn_sum (Plain line item reply after) = plus-nothing (of_reply reply)
turn_sum (Lanes items logs rows after) =
    sum_of-append of_told (map told_item items) (map told_log logs ++ told_rows rows.from rows.rows)
    ∙ ap (plus (sum_of of_told (map told_item items)))
    (sum_of-append of_told (map told_log logs) (told_rows rows.from rows.rows)
    ∙ ap (λ (s : Summary). plus s (sum_of of_told (told_rows rows.from rows.rows))) (logs_sum logs)
    ∙ ap (plus nothing) (rows_sum rows.from rows.rows))
    ∙ plus-nothing (sum_of of_told (map told_item items))
    ∙ items_sum items
turn_sum (Restart line pick reply notes after) = ap (plus (of_reply reply)) (notes_sum notes)

turns_sum : (turns : List Turn) → sum_of of_told (flat_map told_of turns) ≡ sum_of of_turn turns
turns_sum [] = refl
turns_sum (turn ∷ turns) =
    sum_of-append of_told (told_of turn) (flat_map told_of turns)
    ∙ ap (λ (s : Summary). plus s (sum_of of_told (flat_map told_of turns))) (turn_sum turn)
    ∙ ap (plus (of_turn turn)) (turns_sum turns)

-- THE ROWS

rows_both : (rows : ℕ) (a b : List Told) → fold rows_by rows (a ++ b) ≡ fold rows_by (fold rows_by rows a) b
rows_both rows [] b = refl
rows_both rows (t ∷ a) b = rows_both (rows_by rows t) a b

replies_both : (rows : ℕ) (a b : List Reply) → fold rows_told rows (a ++ b) ≡ fold rows_told (fold rows_told rows a) b
replies_both rows [] b = refl
replies_both rows (r ∷ a) b = replies_both (rows_told rows r) a b

items_rows : (rows : ℕ) (items : List LaneItem) → fold rows_by rows (map told_item items) ≡ fold rows_told rows (map (λ answered. answered.reply) items)
items_rows rows [] = refl
items_rows rows (item ∷ items) = items_rows (rows_told rows item.reply) items

logs_rows : (rows : ℕ) (logs : List LogNote) → fold rows_by rows (map told_log logs) ≡ rows
logs_rows rows [] = refl
logs_rows rows (log ∷ logs) = logs_rows rows logs

rows_rows : (rows from : ℕ) (lines : List LineVolume) → fold rows_by rows (told_rows from lines) ≡ rows
rows_rows rows from [] = refl
rows_rows rows from (row ∷ lines) = refl

notes_rows : (rows : ℕ) (notes : List Note) → fold rows_by rows (map (λ n. Noted n) notes) ≡ rows
notes_rows rows [] = refl
notes_rows rows (n ∷ notes) = notes_rows rows notes

turn_rows : (rows : ℕ) (turn : Turn) → fold rows_by rows (told_of turn) ≡ fold rows_told rows (replies_of turn)
turn_rows rows (Plain line item reply after) = refl
turn_rows rows (Lanes items logs told after) =
    let behind : ℕ = fold rows_by rows (map told_item items) in
    rows_both rows (map told_item items) (map told_log logs ++ told_rows told.from told.rows)
    ∙ rows_both behind (map told_log logs) (told_rows told.from told.rows)
    ∙ ap (λ (n : ℕ). fold rows_by n (told_rows told.from told.rows)) (logs_rows behind logs)
    ∙ rows_rows behind told.from told.rows
    ∙ items_rows rows items
turn_rows rows (Restart line pick reply notes after) = notes_rows (rows_told rows reply) notes

turns_rows : (rows : ℕ) (turns : List Turn) → fold rows_by rows (flat_map told_of turns) ≡ fold rows_told rows (flat_map replies_of turns)
turns_rows rows [] = refl
turns_rows rows (turn ∷ turns) =
    rows_both rows (told_of turn) (flat_map told_of turns)
    ∙ ap (λ (n : ℕ). fold rows_by n (flat_map told_of turns)) (turn_rows rows turn)
    ∙ turns_rows (fold rows_told rows (replies_of turn)) turns
    ∙ sym (replies_both rows (replies_of turn) (flat_map replies_of turns))

-- what the lines of turns add is what the turns add
pub turns_counted : (turns : List Turn) → (counted_all no_tally (flat_map told_of turns)).summary ≡ sum_of of_turn turns
turns_counted turns = counted_sum no_tally (flat_map told_of turns) ∙ nothing-plus (sum_of of_told (flat_map told_of turns)) ∙ turns_sum turns

pub turns_told : (turns : List Turn) → (counted_all no_tally (flat_map told_of turns)).rows ≡ fold rows_told 0 (flat_map replies_of turns)
turns_told turns = counted_rows no_tally (flat_map told_of turns) ∙ turns_rows 0 turns

-- THE HEADER

abbrev pub header_text : Settings → List ℕ
header_text settings = codes "haystack" ++ field settings.machines ++ field settings.volumes ++ field settings.replicas ++ field settings.capacity

pub header_fine : (settings : Settings) → Fine (header_text settings)
header_fine settings =
    on (codes "haystack") (field settings.machines ++ field settings.volumes ++ field settings.replicas ++ field settings.capacity) refl
    (four_parts (field settings.machines) (field settings.volumes) (field settings.replicas) (field settings.capacity)
    (any_field settings.machines) (any_field settings.volumes) (any_field settings.replicas) (any_field settings.capacity))

pub header_ends : (settings : Settings) (behind : List ℕ) → header_line settings ++ behind ≡ header_text settings ++ 10 ∷ behind
header_ends settings behind = simp append_assoc

-- the summary of turns is what their lines add, with the rows that they tell
pub summed : (turns : List Turn) (t : Tally) → t ≡ counted_all no_tally (flat_map told_of turns)
    → (let s : Summary = record t.summary { rows = t.rows } in s ≡ summary_of turns)
summed turns t is =
    let sums : t.summary ≡ sum_of of_turn turns = ap (λ (x : Tally). x.summary) is ∙ turns_counted turns in
    let rows : t.rows ≡ fold rows_told 0 (flat_map replies_of turns) = ap (λ (x : Tally). x.rows) is ∙ turns_told turns in
    ap (λ (s : Summary). let x : Summary = record s { rows = t.rows } in x) sums
    ∙ ap (λ (n : ℕ). let x : Summary = record (sum_of of_turn turns) { rows = n } in x) rows
