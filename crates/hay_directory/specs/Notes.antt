-- What an opening tells of a row that was pending.
use Rattle.std.specs.Prelude.{ℕ, List, [], ◌∷◌, Option, None, Some, is_some}
use Rattle.hay_needle.specs.declared.needle.Pair.{Pair}
use Rattle.hay_reply.specs.declared.Note.{Note}
use Rattle.hay_legal.specs.Restarts.{row_note}
use Rattle.hay_directory.specs.declared.mode.Unsure.{Unsure}

-- It was kept where its pair has a home now.
abbrev pub notes_by : Option Unsure → (Pair → Option ℕ) → List Note
notes_by None homes = []
notes_by (Some unsure) homes = row_note (unsure.tag).line (is_some (homes (unsure.row).pair)) ∷ []
