-- What a holding for a row tells.
use Rattle.std.proofs.Common.{◌≡◌, ℕ, Bool, true, false, List, [], ◌∷◌, ◌++◌, length, filter, Option, Some, refl, sym, ap, subst, ◌∙◌}
use Rattle.hay_needle.specs.declared.needle.Pair.{Pair}
use Rattle.hay_disk.specs.Counts.{Rose}
use Rattle.hay_disk.specs.Disk.{Files}
use Rattle.hay_legal.specs.declared.known.HomeRow.{HomeRow}
use Rattle.hay_legal.specs.Known.{home_in}
use Rattle.hay_meeting.specs.declared.act.DirAct.{DirAct}
use Rattle.hay_meeting.specs.Acts.{Start, row_lock}
use Rattle.hay_meeting.specs.Locks.{entries, left}
use Rattle.hay_holdings.specs.Rows.{FailedRow, rows_found}
use Rattle.hay_meeting.specs.Sights.{rows_stood}
use Rattle.hay_directory.specs.State.{State, home_of, is_frozen}
use Rattle.hay_directory_lock.specs.Begun.{BegunAt}
use Rattle.hay_directory_lock.specs.Standing.{HomeFront, KeptFor, StandsAt}

pub not_true : (b : Bool) → (b ≡ true → ⊥) → b ≡ false
not_true true not = absurd (not refl)
not_true false not = refl

-- every row counts
pub all_counted : (rows : List HomeRow) → filter (λ (r : HomeRow). true) rows ≡ rows
all_counted [] = refl
all_counted (row ∷ rows) = ap (λ (l : List HomeRow). row ∷ l) (all_counted rows)

module _ {D : Type 0} (Tells : Type 0) (files : D → Files) (faults fuses : D → ℕ) {begun : BegunAt D} where
  -- how many rows were published
  pub published : (acts : List DirAct) (d : State D) (f : HomeFront) (n : ℕ) → KeptFor Tells files faults fuses begun acts d f
      → n ≡ length (filter (λ (r : HomeRow). true) (f.shown).deeds) → n ≡ length (entries row_lock acts)
  published acts d f n k is = is ∙ ap length (all_counted (f.shown).deeds ∙ k.shown)

  module _ (start : Start) (at : StandsAt faults fuses begun.directory start.directory) where
    -- the home of a pair
    pub found_home : (acts : List DirAct) (d : State D) (f : HomeFront) (pair : Pair) (home : Option ℕ) → KeptFor Tells files faults fuses begun acts d f → home_of d pair ≡ home
        → home_in (rows_found start acts) pair ≡ home
    found_home acts d f pair home k is = sym (((k.of).known start.directory at.known).homes pair) ∙ is

    -- whether it is frozen
    pub found_frozen : (acts : List DirAct) (d : State D) (f : HomeFront) → KeptFor Tells files faults fuses begun acts d f → is_frozen d.mode ≡ true
        → ((rows_stood start acts).directory).frozen ≡ true
    found_frozen acts d f k is = sym ((k.of).known start.directory at.known).frozen ∙ is

    -- a call of the disk failed
    pub failed_in : (acts : List DirAct) (act : DirAct) (d d' : State D) (f f' : HomeFront) (n : ℕ) → KeptFor Tells files faults fuses begun acts d f
        → KeptFor Tells files faults fuses begun (acts ++ act ∷ []) d' f'
        → n ≡ faults d'.disk → Rose (faults d.disk) (faults d'.disk) → FailedRow start n acts (Some act)
    failed_in acts act d d' f f' n k k' is rose =
        let before : faults d.disk ≡ (left row_lock start.directory acts).faults = ((k.of).counted start.directory at.counted).faults_are in
        let after : faults d'.disk ≡ (left row_lock start.directory (acts ++ act ∷ [])).faults = ((k'.of).counted start.directory at.counted).faults_are in
        (subst (λ n. Rose n (left row_lock start.directory (acts ++ act ∷ [])).faults) before (subst (λ n. Rose (faults d.disk) n) after rose), is ∙ after)
