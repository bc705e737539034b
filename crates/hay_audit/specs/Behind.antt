-- What a judge knows behind the lines that it has read.
use Rattle.std.specs.Prelude.{◌≡◌, ◌≢◌, ◌⊎◌, ℕ, ◌+◌, ◌≤◌, List, ◌∷◌, ◌++◌, drop, flat_map, length, map, None}
use Rattle.std.specs.List.{AllByRecursion as Each}
use Rattle.hay_needle.specs.declared.settings.Settings.{Settings}
use Rattle.hay_script.specs.Script.{line_of, lines_of}
use Rattle.hay_reply.specs.declared.Note.{Note}
use Rattle.hay_reply.specs.declared.Reply.TheVariants.{Restarted}
use Rattle.hay_reply.specs.Fits.{FitsNote}
use Rattle.hay_reply.specs.Replies.{note_line}
use Rattle.hay_legal.specs.Items.{Asked, items_from, items_of}
use Rattle.hay_audit_steps.specs.BoxReopen.{restart_boxes}
use Rattle.hay_audit_steps.specs.Boxes.{Box, Has}
use Rattle.hay_audit_steps.specs.Judged.{Begins, IsAny, IsOpenItem, JudgementOf}
use Rattle.hay_audit_steps.specs.Reached.{Candidate as Kept, Reached, note_count}
use Rattle.hay_audit.specs.declared.judge.Candidate.{Candidate}
use Rattle.hay_audit.specs.declared.judge.Said.{Said}
use Rattle.hay_audit.specs.declared.judge.Walk.{Walk}
use Rattle.hay_audit.specs.declared.judge.Walk.TheVariants.{Ends, On}
use Rattle.hay_audit.specs.Candidates.{AreKept, SaidBy, all_standing, judged_as, placed}
use Rattle.hay_audit.specs.Outside.{IsWithinAsked}

-- The first items of the script, none of which is open, the lines that are left, and the candidates behind the items.
pub record IsBehind (settings : Settings) (script transcript : List ℕ) (c : Kept Box) (cs : List (Kept Box)) (number turns : ℕ) (left : List ℕ) : Type 0 where
  pub items : List Asked
  pub parts : items_of script ≡ items ++ items_from number None (lines_of left)
  pub count : turns ≡ length items
  pub shut : Each (λ asked. IsOpenItem transcript asked → ⊥) items
  pub within : Each IsWithinAsked items
  pub begins : Begins Has settings transcript c
  pub reached : Reached Has settings items c cs
  pub some : IsAny Has cs

-- behind one line more, with its number, which said this
pub record IsOneLine (settings : Settings) (script transcript : List ℕ) (c : Kept Box) (cs : List Candidate) (number turns : ℕ) (says : Said) (behind : List ℕ) : Type 0 where
  pub left : List ℕ
  pub text : List ℕ
  pub before : IsBehind settings script transcript c (all_standing transcript cs) number turns left
  pub lines : lines_of left ≡ text ∷ lines_of behind
  pub said : SaidBy (line_of None text) says

-- the judge goes on behind the line, or has a judgement
abbrev pub GoesOn : Settings → List ℕ → List ℕ → Kept Box → ℕ → ℕ → List ℕ → Walk → Type 0
GoesOn settings script transcript c number turns behind (On next more) =
    IsBehind settings script transcript c (all_standing transcript next) (number + 1) more behind × AreKept settings transcript next × (more ≤ turns + 1)
GoesOn settings script transcript c number turns behind (Ends judgement) = JudgementOf settings script transcript (judged_as judgement)

abbrev pub Walks : Settings → List ℕ → List Candidate → ℕ → ℕ → Said → Walk → Type 0
Walks settings transcript cs number turns said walk =
    (script : List ℕ) (c : Kept Box) (behind : List ℕ) → IsOneLine settings script transcript c cs number turns said behind
    → GoesOn settings script transcript c number turns behind walk

-- The text, which stands at a place, begins with as many notes as a restart tells, and the boxes behind them are added.
pub record IsTold (settings : Settings) (text : List ℕ) (box : Box) (rows at : ℕ) (old new : List Candidate) : Type 0 where
  pub notes : List Note
  pub behind : ℕ
  pub within : behind ≤ length text
  pub many : length notes ≡ note_count box.base
  pub fits : Each FitsNote notes
  pub parts : flat_map note_line notes ++ drop behind text ≡ text
  pub added : new ≡ old ++ map (placed (at + behind)) (restart_boxes settings box (Restarted rows) notes)

-- it does not, and none is
pub record IsUntold (text : List ℕ) (box : Box) (old new : List Candidate) : Type 0 where
  pub none : (notes : List Note) (rest : List ℕ) → length notes ≡ note_count box.base → Each FitsNote notes → flat_map note_line notes ++ rest ≢ text
  pub same : new ≡ old

abbrev pub Tells : Settings → List ℕ → Box → ℕ → ℕ → List Candidate → List Candidate → Type 0
Tells settings text box rows at old new = IsTold settings text box rows at old new ⊎ IsUntold text box old new
