-- The text that a run writes.
use Rattle.std.specs.Prelude.{ℕ, List, [], ◌∷◌, ◌++◌, flat_map}
use Rattle.hay_needle.specs.declared.settings.Settings.{Settings}
use Rattle.hay_reply.specs.declared.Note.TheVariants as note
use Rattle.hay_reply.specs.Replies.{numbered_line, note_line, header_line}
use Rattle.hay_legal.specs.declared.turn.LaneItem.{LaneItem}
use Rattle.hay_legal.specs.declared.turn.LogNote.{LogNote}
use Rattle.hay_reply.specs.declared.LineVolume.{LineVolume}
use Rattle.hay_legal.specs.declared.turn.Turn.{Turn}
use Rattle.hay_legal.specs.declared.turn.Turn.TheVariants.{Plain, Lanes, Restart}

abbrev pub answered_line : LaneItem → List ℕ
answered_line answered = numbered_line answered.line answered.reply

abbrev pub log_line : LogNote → List ℕ
log_line log = note_line (note.Log log.volume log.from log.lines)

-- a block without new rows has no such line
abbrev pub row_line : ℕ → List LineVolume → List ℕ
row_line from [] = []
row_line from (row ∷ rows) = note_line (note.Rows from (row ∷ rows))

abbrev pub turn_text : Turn → List ℕ
turn_text (Plain number item reply after) = numbered_line number reply
turn_text (Lanes items logs rows after) = flat_map answered_line items ++ flat_map log_line logs ++ row_line rows.from rows.rows
turn_text (Restart number pick reply notes after) = numbered_line number reply ++ flat_map note_line notes

abbrev pub transcript_text : Settings → List Turn → List ℕ
transcript_text settings turns = header_line settings ++ flat_map turn_text turns
