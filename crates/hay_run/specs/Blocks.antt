-- Blocks of lines: what is asked of one, how its lines come to their lanes, and the text that answers it.
use Rattle.std.specs.Prelude.{◌≡◌, ◌≢◌, ℕ, ◌<◌, ◌≤◌, ◌==◌, Bool, true, false, List, [], ◌∷◌, ◌++◌, length, map, flat_map, filter, take, slice_get, slice_index, slice_index_or, slice_set, Option, Some}
use Rattle.std.specs.List.{AllByRecursion as Each}
use Rattle.hay_needle.specs.declared.needle.Pair.{Pair}
use Rattle.hay_needle.specs.declared.settings.Settings.{Settings}
use Rattle.hay_reply.specs.declared.Cause.{Cause}
use Rattle.hay_reply.specs.declared.Note.{Note}
use Rattle.hay_reply.specs.declared.Reply.{Reply}
use Rattle.hay_reply.specs.declared.Reply.TheVariants.{BadLine}
use Rattle.hay_reply.specs.Fits.{FitsNote, FitsReply}
use Rattle.hay_reply.specs.Replies.{note_line, numbered_line}
use Rattle.hay_legal.specs.declared.turn.Item.{Item}
use Rattle.hay_legal.specs.declared.turn.Item.TheVariants as item
use Rattle.hay_legal.specs.declared.turn.LaneItem.{LaneItem}
use Rattle.hay_legal.specs.Items.{InBlock, OpenBlock, line_asked}
use Rattle.hay_legal.specs.Known.{EachPair}
use Rattle.hay_legal.specs.Suiting.{SuitsItem}
use Rattle.hay_legal.specs.Transcript.{answered_line}
use Rattle.hay_lane.specs.Blames.{BlamesArm, causes_told}
use Rattle.hay_block.specs.declared.worker.Job.{Job}
use Rattle.hay_block.specs.Lines.{IsServed}
use Rattle.hay_cluster.specs.Causes.{Counts}
use Rattle.hay_cluster_block.specs.Notes.{AreBlockNotes, TellsRowsOf}
use Rattle.hay_run.specs.declared.deal.Place.{Place}
use Rattle.hay_script.specs.declared.words.TheConstants.{MAX_LANES}

-- The lines of a block of so many lanes: each may stand in its lane, and no two have one number.
pub record IsBlockOf (lanes : ℕ) (lines : List InBlock) : Type 0 where
  pub some : 0 < lanes
  pub few : lanes ≤ MAX_LANES
  pub low : Each (λ line. line.lane < lanes) lines
  pub served : Each (λ line. IsServed line.item) lines
  pub distinct : EachPair (λ a b. a.line ≢ b.line) lines

-- A block that is read: its lines have numbers below the one that comes next.
pub record IsBlockBelow (next : ℕ) (block : OpenBlock) : Type 0 where
  pub lines : IsBlockOf block.lanes block.lines
  pub before : Each (λ line. line.line < next) block.lines

-- whether a line is a command
abbrev pub is_command : Item → Bool
is_command (item.Command command) = true
is_command item.Bad = false

-- no line of a block is one
abbrev pub AreBad : List InBlock → Type 0
AreBad lines = Each (λ line. line.item ≡ item.Bad) lines

-- the line by which a bad one is answered
abbrev pub bad_text : InBlock → List ℕ
bad_text line = numbered_line line.line BadLine

-- LINES AND LANES

-- the lines of a lane, in their order
abbrev pub lane_lines : ℕ → List InBlock → List InBlock
lane_lines lane lines = filter (λ line. line.lane == lane) lines

abbrev pub job_of : InBlock → Job
job_of line = record { line = line.line; item = line.item }

-- the jobs of a lane, and all jobs with one more
abbrev pub lane_jobs : List (List Job) → ℕ → List Job
lane_jobs jobs lane = slice_index_or jobs lane []

abbrev pub with_job : List (List Job) → InBlock → List (List Job)
with_job jobs line = slice_set jobs line.lane (lane_jobs jobs line.lane ++ job_of line ∷ [])

-- the jobs are those of the lines, lane by lane
pub record AreJobs (lanes : ℕ) (lines : List InBlock) (jobs : List (List Job)) : Type 0 where
  pub many : length jobs ≡ lanes
  pub each : (lane : ℕ) (own : List Job) → slice_get jobs lane ≡ Some own → own ≡ map job_of (lane_lines lane lines)

-- where the line of this number in the block stands: in its lane, behind so many lines of that lane
abbrev pub place_of : List InBlock → ℕ → InBlock → Place
place_of lines i line = record { line = line.line; lane = line.lane; nth = length (lane_lines line.lane (take i lines)) }

-- so it is told of each line
pub record ArePlaces (lines : List InBlock) (places : List Place) : Type 0 where
  pub many : length places ≡ length lines
  pub each : (i : ℕ) (line : InBlock) → slice_get lines i ≡ Some line → slice_get places i ≡ Some (place_of lines i line)

-- The lines with their replies: to each lane's lines, in order, what the lane answered.
pub record AreAnswered (lines : List InBlock) (replies : List (List Reply)) (items : List LaneItem) : Type 0 where
  pub asked : map line_asked items ≡ lines
  pub low : Each (λ item. item.lane < length replies) items
  pub each : (lane : ℕ) (own : List Reply) → slice_get replies lane ≡ Some own → map (λ item. item.reply) (filter (λ item. item.lane == lane) items) ≡ own

-- THE TEXT OF A BLOCK

abbrev pub answered_text : List LaneItem → List Note → List ℕ
answered_text items notes = flat_map answered_line items ++ flat_map note_line notes

-- a reply with numbers of their types, which suits its command, and to a bad line that it is one
abbrev pub FitsLine : Settings → LaneItem → Type 0
FitsLine settings answered = FitsReply answered.reply × SuitsItem settings answered.line answered.item answered.reply × (answered.item ≡ item.Bad → answered.reply ≡ BadLine)

-- the causes that a lane's lines tell, in their order
abbrev pub lane_causes : ℕ → List LaneItem → List Cause
lane_causes lane items = flat_map (λ answered. causes_told answered.reply) (filter (λ answered. answered.lane == lane) items)

-- These lines were answered so, whatever the disks tell, where pairs have these homes behind them, and while the counts went from these to
-- those: each has its reply, which blames no arm but its lane's own, and none that is sure; and notes on volumes and on new rows stand
-- behind them, where each row is of a volume of the store, and of a line that put a pair of this home. `Sure` says of a lane that its arm is sure.
pub record IsBlockText (settings : Settings) (Sure : ℕ → Type 0) (before after : Counts) (home : Pair → Option ℕ) (lines : List InBlock) (text : List ℕ) : Type 0 where
  pub items : List LaneItem
  pub asked : map line_asked items ≡ lines
  pub fits : Each (FitsLine settings) items
  pub blames : (lane : ℕ) → BlamesArm (Sure lane) (slice_index before.arms lane) (slice_index after.arms lane) (lane_causes lane items)
  pub notes : List Note
  pub told : AreBlockNotes settings.volumes notes
  pub rows : Each (TellsRowsOf home (map job_of lines)) notes
  pub fit : Each FitsNote notes
  pub is : text ≡ answered_text items notes
