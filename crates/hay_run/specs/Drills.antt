-- What a drill does: it runs the script of a day's use on the disks of the shelf, just as a run does that reads this script, and tells what the
-- store answered by a summary. No other byte is written, and where the store was not opened, the line that tells why.
use Rattle.std.specs.Prelude.{◌≡◌, ◌⊎◌, ℕ, Bool, List, [], ◌∷◌, ◌++◌, Option, Some, flat_map, map}
use Rattle.std.specs.List.{AllByRecursion, fold}
use Rattle.hay_disk.specs.Shelf.{HeldDisk}
use Rattle.hay_reply.specs.declared.Note.{Note}
use Rattle.hay_reply.specs.declared.Reply.{Reply}
use Rattle.hay_reply.specs.Replies.{note_line}
use Rattle.hay_legal.specs.declared.known.Known.{Known}
use Rattle.hay_legal.specs.declared.turn.Turn.{Turn}
use Rattle.hay_legal.specs.declared.turn.Turn.TheVariants.{Plain, Lanes, Restart}
use Rattle.hay_legal.specs.Items.{items_of}
use Rattle.hay_legal.specs.Known.{FaultsRose}
use Rattle.hay_legal.specs.Legal.{Legal}
use Rattle.hay_legal.specs.Stands.{Outside, StandsOn}
use Rattle.hay_legal.specs.Statuses.{Ending, IsFront, NoneWants, asked_of}
use Rattle.hay_legal.specs.Statuses.Ending.{ReadAll, OutputFault, InputFault, NoMemory, NotOpened, TooLong}
use Rattle.hay_directory.specs.Rows.{OpensRows}
use Rattle.hay_logical.specs.Fits.{IsReplica}
use Rattle.hay_drill.specs.declared.summary.Summary.{Summary}
use Rattle.hay_drill.specs.Script.{drill_script, settings}
use Rattle.hay_drill.specs.Summary.{of_note, of_reply, plus, sum_of, summary_text}
use Rattle.hay_run.specs.Causing.{CausedRun}
use Rattle.hay_run.specs.Runs.{RanTo}
use Rattle.hay_run.specs.Told.{rows_told}
use Rattle.hay_run.specs.Turns.{FitsAnswers}

-- THE SUMMARY OF TURNS

-- What a turn adds: its replies, and behind a restart what is told of changes that had failed. The notes of a block add nothing.
abbrev pub of_turn : Turn → Summary
of_turn (Plain line item reply after) = of_reply reply
of_turn (Lanes items logs rows after) = sum_of (λ answered. of_reply answered.reply) items
of_turn (Restart line pick reply notes after) = plus (of_reply reply) (sum_of of_note notes)

-- the replies of a turn, in the order of the transcript
abbrev pub replies_of : Turn → List Reply
replies_of (Plain line item reply after) = reply ∷ []
replies_of (Lanes items logs rows after) = map (λ answered. answered.reply) items
replies_of (Restart line pick reply notes after) = reply ∷ []

-- What turns add together. The rows are those of the Directory, as the last restart told them.
abbrev pub summary_of : List Turn → Summary
summary_of turns = record (sum_of of_turn turns) { rows = fold rows_told 0 (flat_map replies_of turns) }

-- HOW A DRILL ENDS

module _ (count first : ℕ) (k : Known) (taken given : Outside) (text : List ℕ) where
  -- Legal turns answer the script, item by item, and the disks that were given back hold the state behind the last one. Their numbers are
  -- of their types, and no restart wanted memory. All that was written is their summary.
  pub record Summed : Type 0 where
    pub opened : Known
    pub opening : FaultsRose k opened
    pub turns : List Turn
    pub t : Known
    pub asked : asked_of turns ≡ items_of (drill_script count first)
    pub legal : Legal settings opened turns t
    pub fits : AllByRecursion FitsAnswers turns
    pub wanting : NoneWants turns
    pub stands : StandsOn (IsReplica settings) (OpensRows settings) settings t given
    pub sums : text ≡ summary_text count first (summary_of turns)

  -- The store was not opened, at first or at the restart. All that was written is the last line of the transcript, which tells why.
  pub record Refused : Type 0 where
    pub transcript : List ℕ
    pub left : Option (List ℕ)
    pub ran : RanTo settings k NotOpened (drill_script count first) left taken given [] (Some transcript)
    pub note : Note
    pub front : List ℕ
    pub last : transcript ≡ front ++ note_line note
    pub tells : text ≡ note_line note

  -- Memory was wanting, to the run or to what tells of it. Nothing was written, and the disks hold what a run of the script leaves, which
  -- is read without fault and no longer than a script may be. Its store was not refused.
  pub record Unsaid : Type 0 where
    pub none : text ≡ []
    pub transcript : List ℕ
    pub left : Option (List ℕ)
    pub ending : Ending
    pub ran : RanTo settings k ending (drill_script count first) left taken given [] (Some transcript)
    pub no_fault : ending ≡ InputFault → ⊥
    pub no_longer : ending ≡ TooLong → ⊥
    pub no_refusal : ending ≡ NotOpened → ⊥

-- Only a front of that was written.
pub record Broken (count first : ℕ) (k : Known) (taken given : Outside) (text : List ℕ) : Type 0 where
  pub whole : List ℕ
  pub told : Summed count first k taken given whole ⊎ Refused count first k taken given whole
  pub front : IsFront text whole

-- by its status: a drill reads nothing, and its script is no longer than one may be
abbrev pub Drills : Ending → ℕ → ℕ → Known → Outside → Outside → List ℕ → Type 0
Drills ReadAll count first k taken given text = Summed count first k taken given text
Drills NotOpened count first k taken given text = Refused count first k taken given text
Drills OutputFault count first k taken given text = Broken count first k taken given text
Drills NoMemory count first k taken given text = Unsaid count first k taken given text
Drills InputFault count first k taken given text = ⊥
Drills TooLong count first k taken given text = ⊥

-- A drill over disks that hold k, which ends so: what was written behind what the sink held, and what the disks that were given back hold.
pub record DrillsTo (count first : ℕ) (k : Known) (ending : Ending) (taken given : Outside) (held : List ℕ) (written : Option (List ℕ)) : Type 0 where
  pub text : List ℕ
  pub wrote : written ≡ Some (held ++ text)
  pub drills : Drills ending count first k taken given text

-- WHATEVER THE DISKS TELL

-- The store was not opened, at first or at the restart, for a cause that a run of the script tells by the last line of its transcript.
-- All that was written is this line.
pub record RefusedRun (Tells : Type 0) (count first : ℕ) (taken given : Outside) (sure : ℕ → Bool) (disks disks' : ℕ → HeldDisk) (before after : Option (List ℕ)) : Type 0 where
  pub transcript : List ℕ
  pub left : Option (List ℕ)
  pub caused : CausedRun Tells settings NotOpened (drill_script count first) left taken given sure disks disks' [] (Some transcript)
  pub note : Note
  pub front : List ℕ
  pub last : transcript ≡ front ++ note_line note
  pub told : (held : List ℕ) → before ≡ Some held → after ≡ Some (held ++ note_line note)
