-- What is shown of a block: its lines, answered between the beginning and the end of its locks, are legal.
use Rattle.std.specs.Prelude.{◌≡◌, ◌≢◌, ℕ, ◌<◌, ◌≤◌, List, length}
use Rattle.std.specs.List.{AllByRecursion as Each}
use Rattle.hay_needle.specs.declared.settings.Settings.{Settings}
use Rattle.hay_script.specs.declared.words.TheConstants.{MAX_LANES}
use Rattle.hay_legal.specs.declared.known.Known.{Known}
use Rattle.hay_legal.specs.declared.turn.LaneItem.{LaneItem}
use Rattle.hay_legal.specs.Blocks.{LegalBlock}
use Rattle.hay_legal.specs.Known.{EachPair}
use Rattle.hay_history.specs.Commands.{MayStandInLane}
use Rattle.hay_meeting.specs.Acts.{Happened, Start}
use Rattle.hay_meeting.specs.Chains.{AreLanes, ArmsAre}
use Rattle.hay_meeting.specs.Sights.{Sight}
use Rattle.hay_block.specs.Behind.{CountsBehind, known_behind, log_notes_of, row_note_of}
use Rattle.hay_block.specs.Ends.{IsNew, IsSettled, LocksEnded, OpensAt}

-- The lines of a block that begins where the store stands at k. Each lane begins and ends with one of these sights; h are the acts of all.
pub record BlockRan (settings : Settings) (start : Start) (k : Known) (before after : List Sight) (items : List LaneItem) (h : Happened) (faults fuses arms : List ℕ) : Type 0 where
  pub opens : OpensAt settings start k
  pub some : 0 < length before
  pub few : length before ≤ MAX_LANES
  pub new : Each IsNew before
  pub arms_before : ArmsAre before k
  pub lines : AreLanes settings start k.drained (length before) before after items
  pub distinct : EachPair (λ a b. a.line ≢ b.line) items
  pub may : Each (λ item. MayStandInLane item.item) items
  pub same : length after ≡ length before
  pub ends : LocksEnded settings start after h
  pub counts : CountsBehind settings start (length before) h k faults fuses arms
  pub arms_behind : ArmsAre after (known_behind settings start h faults fuses arms)

-- It is a legal block, with notes that tell of all changes and rows. What stands behind it is such as the next lines need it.
abbrev pub BlocksAreLegal : Type 0
BlocksAreLegal =
    (settings : Settings) (start : Start) (k : Known) (before after : List Sight) (items : List LaneItem) (h : Happened) (faults fuses arms : List ℕ)
    → BlockRan settings start k before after items h faults fuses arms
    → LegalBlock settings k items (log_notes_of settings k h) (row_note_of k h) (known_behind settings start h faults fuses arms)
    × IsSettled settings (known_behind settings start h faults fuses arms)
