-- The rows that the notes behind a block tell, whatever the disks tell.
use Rattle.std.proofs.Common.{◌≡◌, ◌<◌, ℕ, List, [], ◌∷◌, Vec, Global, filter_map, map, Option, Some, None, Result, Ok, Err, refl, sym, subst, ◌∙◌}
use Rattle.std.specs.Prelude.{IfOk, IfSome, IsErr, OnErr}
use Rattle.std.specs.List.{AllByRecursion as Each, cons_option}
use Rattle.std.specs.Option.{option_and_then, option_or}
use Rattle.std.proofs.lemmas.Bool.{eq-eqb, ne_eqb}
use mathlib.Core.Logic.{dite}
use native.Mathlib.Decide.{ℕ_discrete}
use Rattle.hay_base.specs.declared.memory.NoMemory.{NoMemory}
use Rattle.hay_needle.specs.declared.needle.Pair.{Pair}
use Rattle.hay_reply.specs.declared.LineVolume.{LineVolume}
use Rattle.hay_reply.specs.declared.Note.{Note}
use Rattle.hay_legal.specs.declared.turn.LogNote.{LogNote}
use Rattle.hay_legal.specs.declared.turn.RowNote.{RowNote}
use Rattle.hay_history.proofs.Lists.{in_rest, is_first}
use Rattle.hay_directory.specs.State.{State, home_of}
use Rattle.hay_block.specs.declared.store.BlockNotes.{BlockNotes}
use Rattle.hay_block.specs.declared.worker.Job.{Job}
use Rattle.hay_block.specs.Stores.{line_of_tag}
use Rattle.hay_cluster_block.specs.Notes.{AreWithin, IsRowOf, TellsRowsOf, block_notes, entered_notes, notes_of_rows}
use Rattle.hay_cluster_block.specs.Rows.{KeptWithin, all_jobs, home_at, home_by, home_kept, pair_of, row_by, rows_at}

module _ (home : Pair → Option ℕ) where
  put_by : (asked : Option Pair) (v : ℕ) → option_and_then home asked ≡ Some v → (pair : Pair) × (asked ≡ Some pair) × (home pair ≡ Some v)
  put_by None v is = absurd cc
  put_by (Some pair) v is = (pair, refl, is)

  -- a row of a line behind the first one
  later : (job : Job) (jobs : List Job) (row : LineVolume) → IsRowOf home jobs row → IsRowOf home (job ∷ jobs) row
  later job jobs row is = record {
    job = is.job;
    among = in_rest job jobs is.job is.among;
    line = is.line;
    pair = is.pair;
    put = is.put;
    home_is = is.home_is;
  }

  -- a line of this number, with its own home or that of a later one
  by_first : (job : Job) (jobs : List Job) (row : LineVolume) (own others : Option ℕ) → job.line ≡ row.line → home_by home job.item ≡ own → (others ≡ Some row.volume → IsRowOf home jobs row)
      → option_or own others ≡ Some row.volume → IsRowOf home (job ∷ jobs) row
  by_first job jobs row None others same own_is by is = later job jobs row (by is)
  by_first job jobs row (Some v) others same own_is by is =
      let p = put_by (pair_of job.item) row.volume (own_is ∙ is) in
      record { job = job; among = is_first job jobs; line = same; pair = p.0; put = p.1; home_is = p.2 }

  -- a home that is found by a line is that of the pair that such a line put
  row_of : (jobs : List Job) (row : LineVolume) → home_at home jobs row.line ≡ Some row.volume → IsRowOf home jobs row
  row_of [] row is = absurd cc
  row_of (job ∷ jobs) row is = dite (ℕ_discrete job.line row.line)
      (λ same. by_first job jobs row (home_by home job.item) (home_at home jobs row.line) same refl (λ rest. row_of jobs row rest) (rw (eq-eqb job.line row.line same) at is))
      (λ differs. later job jobs row (row_of jobs row (rw (ne_eqb job.line row.line differs) at is)))

  one_row : (jobs : List Job) (line : ℕ) (found : Option ℕ) (rows : List LineVolume) → home_at home jobs line ≡ found → Each (IsRowOf home jobs) rows
      → Each (IsRowOf home jobs) (cons_option (row_by line found) rows)
  one_row jobs line None rows is others = others
  one_row jobs line (Some v) rows is others = (row_of jobs (record { line = line; volume = v }) is, others)

  rows_of : (jobs : List Job) (lines : List ℕ) → Each (IsRowOf home jobs) (rows_at home jobs lines)
  rows_of jobs [] = tt
  rows_of jobs (line ∷ lines) = one_row jobs line (home_at home jobs line) (rows_at home jobs lines) refl (rows_of jobs lines)

  on_rows : (jobs : List Job) (from : ℕ) (rows : List LineVolume) → Each (IsRowOf home jobs) rows → Each (TellsRowsOf home jobs) (notes_of_rows from rows)
  on_rows jobs from [] each = tt
  on_rows jobs from (row ∷ rows) each = (each, tt)

  on_notes : (jobs : List Job) (logs : List LogNote) (rows : RowNote) → Each (IsRowOf home jobs) rows.rows → Each (TellsRowsOf home jobs) (block_notes logs rows)
  on_notes jobs [] rows each = on_rows jobs rows.from rows.rows each
  on_notes jobs (log ∷ logs) rows each = (tt, on_notes jobs logs rows each)

  told_of : (jobs : List (Vec Job Global)) (entered : Result BlockNotes NoMemory) (told : Result (Vec Note Global) NoMemory)
      → IfOk entered (λ e. IfOk told (λ notes. notes.items ≡ entered_notes home jobs e)) → OnErr entered (IsErr told)
      → IfOk told (λ notes. Each (TellsRowsOf home (all_jobs jobs)) notes.items)
  told_of jobs (Ok e) (Ok notes) are wanted =
      let lines = map line_of_tag e.added.items in
      subst (Each (TellsRowsOf home (all_jobs jobs))) (sym are)
      (on_notes (all_jobs jobs) e.logs.items (record { from = e.rows; rows = rows_at home (all_jobs jobs) lines }) (rows_of (all_jobs jobs) lines))
  told_of jobs (Ok e) (Err error) are wanted = tt
  told_of jobs (Err error) (Ok notes) are wanted = absurd cc
  told_of jobs (Err error) (Err other) are wanted = tt

-- where the homes that are kept are of so many volumes, the rows are
kept_row : (volumes line : ℕ) (home : Option ℕ) (rows : List LineVolume) → IfSome home (λ volume. volume < volumes) → AreWithin volumes rows → AreWithin volumes (cons_option (row_by line home) rows)
kept_row volumes line None rows low within = within
kept_row volumes line (Some v) rows low within = (low, within)

pub kept_rows : (volumes : ℕ) (homes : List (ℕ × ℕ)) → KeptWithin volumes homes → (lines : List ℕ) → AreWithin volumes (filter_map (λ line. row_by line (home_kept homes line)) lines)
kept_rows volumes homes kept [] = tt
kept_rows volumes homes kept (line ∷ lines) =
    kept_row volumes line (home_kept homes line) (filter_map (λ (line : ℕ). row_by line (home_kept homes line)) lines) (kept line) (kept_rows volumes homes kept lines)

-- each row is of a line that put a pair, whose home behind the block is the row's volume
pub rows_told : {D : Type 0} (directory behind : State D) (jobs : List (Vec Job Global)) → behind ≡ directory → (entered : Result BlockNotes NoMemory) (told : Result (Vec Note Global) NoMemory)
    → IfOk entered (λ e. IfOk told (λ notes. notes.items ≡ entered_notes (home_of directory) jobs e)) → OnErr entered (IsErr told)
    → IfOk told (λ notes. Each (TellsRowsOf (home_of behind) (all_jobs jobs)) notes.items)
rows_told {D} directory behind jobs same entered told are wanted =
    subst (λ (z : State D). IfOk told (λ notes. Each (TellsRowsOf (home_of z) (all_jobs jobs)) notes.items)) (sym same)
    (told_of (home_of directory) jobs entered told are wanted)
