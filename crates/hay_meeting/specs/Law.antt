-- What the crate shows of lines of which each lane knows what it saw and did.
use Rattle.std.specs.Prelude.{◌≡◌, ℕ, List, [], ◌∷◌, length}
use Rattle.std.specs.List.{AllByRecursion as Each}
use Rattle.hay_needle.specs.declared.settings.Settings.{Settings}
use Rattle.hay_legal.specs.declared.known.Known.{Known}
use Rattle.hay_legal.specs.declared.turn.LaneItem.{LaneItem}
use Rattle.hay_legal.specs.Plain.{LegalPlain}
use Rattle.hay_legal.specs.Blocks.{LegalBlock, log_notes}
use Rattle.hay_history.specs.Histories.{row_note}
use Rattle.hay_history.specs.Commands.{MayStandInLane}
use Rattle.hay_meeting.specs.Acts.{Happened, Start}
use Rattle.hay_meeting.specs.Chains.{Lines, StoreAt}
use Rattle.hay_meeting.specs.Sights.{Cut, Sight, history_of}

-- so many acts have happened
abbrev pub cut_of : Happened → Cut
cut_of h = record { volumes = λ v. length (h.volumes v); rows = length h.directory }

-- Lines of blocks make a legal block, behind which the store is such as the next lines need it.
abbrev pub LanesMakeBlocks : Type 0
LanesMakeBlocks =
    (settings : Settings) (start : Start) (lanes : ℕ) (before after : List Sight) (items : List LaneItem) (h0 h : Happened) (k t : Known)
    → Lines settings start lanes before after items h0 h k t → Each (λ item. MayStandInLane item.item) items
    → LegalBlock settings k items (log_notes settings k t) (row_note k (history_of settings k (cut_of h0) h)) t × StoreAt settings start t h

-- One line of lane 0 is a legal plain turn, and leaves it so too.
abbrev pub ALineMakesAPlainTurn : Type 0
ALineMakesAPlainTurn =
    (settings : Settings) (start : Start) (lanes : ℕ) (before after : List Sight) (item : LaneItem) (h0 h : Happened) (k t : Known)
    → Lines settings start lanes before after (item ∷ []) h0 h k t → item.lane ≡ 0
    → LegalPlain settings k item.line item.item item.reply t × StoreAt settings start t h
