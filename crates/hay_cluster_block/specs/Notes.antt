-- The notes behind a block.
use Rattle.std.specs.Prelude.{◌≡◌, ℕ, ◌<◌, List, [], ◌∷◌, ◌++◌, map, Contains, Option, Some, Vec}
use Rattle.std.specs.Global.{Global}
use Rattle.std.specs.List.{AllByRecursion as Each}
use Rattle.hay_needle.specs.declared.needle.Pair.{Pair}
use Rattle.hay_reply.specs.declared.LineVolume.{LineVolume}
use Rattle.hay_reply.specs.declared.Note.{Note}
use Rattle.hay_reply.specs.declared.Note.TheVariants.{Kept, Lost, KeptDir, LostDir, Log, Rows, OpenShelf, OpenFailed, OpenDamaged}
use Rattle.hay_legal.specs.declared.turn.LogNote.{LogNote}
use Rattle.hay_legal.specs.declared.turn.RowNote.{RowNote}
use Rattle.hay_block.specs.declared.store.BlockNotes.{BlockNotes}
use Rattle.hay_block.specs.declared.worker.Job.{Job}
use Rattle.hay_block.specs.Stores.{AreUpwards, line_of_tag}
use Rattle.hay_cluster_block.specs.Rows.{all_jobs, pair_of, rows_at}

-- the note on the new entries of a volume
abbrev pub note_of_log : LogNote → Note
note_of_log log = Log log.volume log.from log.lines

-- the note on new rows, where there are any
abbrev pub notes_of_rows : ℕ → List LineVolume → List Note
notes_of_rows from [] = []
notes_of_rows from (row ∷ rows) = Rows from (row ∷ rows) ∷ []

-- those on volumes stand first
abbrev pub block_notes : List LogNote → RowNote → List Note
block_notes logs rows = map note_of_log logs ++ notes_of_rows rows.from rows.rows

-- each of these rows is of one of so many volumes
abbrev pub AreWithin : ℕ → List LineVolume → Type 0
AreWithin volumes rows = Each (λ row. row.volume < volumes) rows

-- these are such notes of a store of so many volumes, each row of one of them
pub record AreBlockNotes (volumes : ℕ) (notes : List Note) : Type 0 where
  pub logs : List LogNote
  pub rows : RowNote
  pub upwards : AreUpwards volumes logs
  pub within : AreWithin volumes rows.rows
  pub are : notes ≡ block_notes logs rows

-- those of what was entered by these lines, where pairs have these homes behind them
abbrev pub entered_rows : (Pair → Option ℕ) → List (Vec Job Global) → BlockNotes → List LineVolume
entered_rows home jobs entered = rows_at home (all_jobs jobs) (map line_of_tag (entered.added).items)

abbrev pub entered_notes : (Pair → Option ℕ) → List (Vec Job Global) → BlockNotes → List Note
entered_notes home jobs entered = block_notes (entered.logs).items (record { from = entered.rows; rows = entered_rows home jobs entered })

-- ROWS, WHATEVER THE DISKS TELL

-- The row is of one of these lines, which put a pair, and this is the pair's home.
pub record IsRowOf (home : Pair → Option ℕ) (jobs : List Job) (row : LineVolume) : Type 0 where
  pub job : Job
  pub among : Contains jobs job
  pub line : job.line ≡ row.line
  pub pair : Pair
  pub put : pair_of job.item ≡ Some pair
  pub home_is : home pair ≡ Some row.volume

-- a note behind a block is on a volume, or on rows, each of which is such
abbrev pub TellsRowsOf : (Pair → Option ℕ) → List Job → Note → Type 0
TellsRowsOf home jobs (Log v from lines) = Unit {0}
TellsRowsOf home jobs (Rows from rows) = Each (IsRowOf home jobs) rows
TellsRowsOf home jobs (Kept v m line) = ⊥
TellsRowsOf home jobs (Lost v m line) = ⊥
TellsRowsOf home jobs (KeptDir line) = ⊥
TellsRowsOf home jobs (LostDir line) = ⊥
TellsRowsOf home jobs (OpenShelf count) = ⊥
TellsRowsOf home jobs (OpenFailed slot count) = ⊥
TellsRowsOf home jobs (OpenDamaged slot file at) = ⊥
