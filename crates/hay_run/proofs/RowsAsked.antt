-- The rows that the notes behind a block tell are of its lines.
use Rattle.std.proofs.Common.{◌≡◌, ℕ, suc, List, [], ◌∷◌, Vec, Global, map, Contains, Option, Some, inl, inr, refl, subst}
use Rattle.std.specs.Prelude.{slice_get}
use Rattle.std.specs.List.{AllByRecursion as Each}
use Rattle.std.proofs.lemmas.Bool.{eq-eqb, ne_eqb}
use Rattle.std.proofs.lemmas.List.Elements.{Contains-append_cases}
use mathlib.Core.Logic.{dite}
use native.Mathlib.Decide.{ℕ_discrete}
use Rattle.hay_needle.specs.declared.needle.Pair.{Pair}
use Rattle.hay_reply.specs.declared.LineVolume.{LineVolume}
use Rattle.hay_reply.specs.declared.Note.{Note}
use Rattle.hay_reply.specs.declared.Note.TheVariants.{Kept, Lost, KeptDir, LostDir, Log, Rows, OpenShelf, OpenFailed, OpenDamaged}
use Rattle.hay_legal.specs.Items.{InBlock}
use Rattle.hay_history.proofs.Lists.{first_or_rest, in_rest, is_first, none_in}
use Rattle.hay_block.specs.declared.worker.Job.{Job}
use Rattle.hay_cluster_block.specs.Notes.{IsRowOf, TellsRowsOf}
use Rattle.hay_cluster_block.specs.Rows.{all_jobs}
use Rattle.hay_run.specs.Blocks.{AreJobs, job_of, lane_lines}

-- a job of a lane's lines is of a line of the block
of_line : (lane : ℕ) (lines : List InBlock) (job : Job) → Contains (map job_of (lane_lines lane lines)) job → Contains (map job_of lines) job
of_line lane [] job among = absurd (none_in job among)
of_line lane (line ∷ lines) job among = dite (ℕ_discrete line.lane lane)
    (λ same. elim (first_or_rest (job_of line) (map job_of (lane_lines lane lines)) job (rw (eq-eqb line.lane lane same) at among)) [
      | inl e ↦ subst (Contains (map job_of (line ∷ lines))) e (is_first (job_of line) (map job_of lines))
      | inr rest ↦ in_rest (job_of line) (map job_of lines) job (of_line lane lines job rest)
    ])
    (λ differs. in_rest (job_of line) (map job_of lines) job (of_line lane lines job (rw (ne_eqb line.lane lane differs) at among)))

of_lanes : (lines : List InBlock) (jobs : List (Vec Job Global))
    → ((lane : ℕ) (own : List Job) → slice_get (map (λ (js : Vec Job Global). js.items) jobs) lane ≡ Some own → (n : ℕ) × (own ≡ map job_of (lane_lines n lines)))
    → (job : Job) → Contains (all_jobs jobs) job → Contains (map job_of lines) job
of_lanes lines [] each job among = absurd (none_in job among)
of_lanes lines (own ∷ jobs) each job among = elim (Contains-append_cases own.items (all_jobs jobs) job among) [
  | inl here ↦ let l = each 0 own.items refl in of_line l.0 lines job (subst (λ z. Contains z job) l.1 here)
  | inr later ↦ of_lanes lines jobs (λ lane js at. each (suc lane) js at) job later
]

-- ROWS

module _ (home : Pair → Option ℕ) (jobs more : List Job) (among : (job : Job) → Contains jobs job → Contains more job) where
  each_row : (rows : List LineVolume) → Each (IsRowOf home jobs) rows → Each (IsRowOf home more) rows
  each_row [] each = tt
  each_row (row ∷ rows) each =
      let is = each.0 in
      (record { job = is.job; among = among is.job is.among; line = is.line; pair = is.pair; put = is.put; home_is = is.home_is }, each_row rows each.1)

  one_note : (note : Note) → TellsRowsOf home jobs note → TellsRowsOf home more note
  one_note (Log v from lines) tells = tt
  one_note (Rows from rows) tells = each_row rows tells
  one_note (Kept v m line) tells = absurd tells
  one_note (Lost v m line) tells = absurd tells
  one_note (KeptDir line) tells = absurd tells
  one_note (LostDir line) tells = absurd tells
  one_note (OpenShelf count) tells = absurd tells
  one_note (OpenFailed slot count) tells = absurd tells
  one_note (OpenDamaged slot file at) tells = absurd tells

  each_note : (notes : List Note) → Each (TellsRowsOf home jobs) notes → Each (TellsRowsOf home more) notes
  each_note [] each = tt
  each_note (note ∷ notes) each = (one_note note each.0, each_note notes each.1)

-- what is told of rows by the jobs of the lanes is told by the lines of the block
pub rows_asked : (lanes : ℕ) (lines : List InBlock) (jobs : List (Vec Job Global)) → AreJobs lanes lines (map (λ (js : Vec Job Global). js.items) jobs) → (home : Pair → Option ℕ) (notes : List Note)
    → Each (TellsRowsOf home (all_jobs jobs)) notes → Each (TellsRowsOf home (map job_of lines)) notes
rows_asked lanes lines jobs are home notes told =
    each_note home (all_jobs jobs) (map job_of lines) (of_lanes lines jobs (λ lane own at. (lane, are.each lane own at))) notes told
