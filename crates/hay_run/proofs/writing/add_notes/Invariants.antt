use Rattle.std.proofs.Common.{◌≡◌, ◌++◌, take}
use Rattle.std.specs.Prelude.{flat_map}
use Rattle.hay_reply.specs.Replies.{note_line}
use Rattle.hay_run.proofs.writing.add_notes.Given as goal

abbrev pub invariant-loop-note : goal.invariant-loop-note
invariant-loop-note l = l.text.items ≡ l.fn.text.items ++ flat_map note_line (take l.note-index l.fn.notes)
