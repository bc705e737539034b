-- The text of the notes behind a block.
use Rattle.std.proofs.Common.{◌≡◌, ℕ, List, [], ◌∷◌, ◌++◌, map, refl, ap, ◌∙◌, append-nil, flat_map}
use Rattle.std.proofs.lemmas.Grind.{flat_map-append}
use Rattle.std.proofs.lemmas.List.Folds.{flat_map-map}
use Rattle.hay_reply.specs.declared.LineVolume.{LineVolume}
use Rattle.hay_reply.specs.declared.Note.TheVariants.{Rows}
use Rattle.hay_reply.specs.Replies.{note_line}
use Rattle.hay_legal.specs.declared.turn.LogNote.{LogNote}
use Rattle.hay_legal.specs.declared.turn.RowNote.{RowNote}
use Rattle.hay_legal.specs.Transcript.{log_line, row_line}
use Rattle.hay_cluster_block.specs.Notes.{block_notes, note_of_log, notes_of_rows}

row_text : (from : ℕ) (rows : List LineVolume) → flat_map note_line (notes_of_rows from rows) ≡ row_line from rows
row_text from [] = refl
row_text from (row ∷ rows) = append-nil (note_line (Rows from (row ∷ rows)))

-- it is that of the notes on volumes, and of the one on rows where there are any
pub notes_text : (logs : List LogNote) (rows : RowNote) → flat_map note_line (block_notes logs rows) ≡ flat_map log_line logs ++ row_line rows.from rows.rows
notes_text logs rows =
    flat_map-append note_line (map note_of_log logs) (notes_of_rows rows.from rows.rows)
    ∙ (ap (λ z. z ++ flat_map note_line (notes_of_rows rows.from rows.rows)) (flat_map-map note_line note_of_log logs)
    ∙ ap (λ z. flat_map log_line logs ++ z) (row_text rows.from rows.rows))
