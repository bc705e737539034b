-- What a judge comes to behind a line.
use Rattle.std.proofs.Common.{◌≡◌, ℕ, ◌+◌, ◌<◌, ◌≤◌, ◌^◌, length, List, [], ◌∷◌, ◌++◌, Option, Some, None, refl, subst, sym, ap, ◌∙◌, inl, inr, arith}
use Rattle.hay_needle.specs.declared.needle.Pair.{Pair}
use Rattle.hay_needle.specs.declared.settings.Settings.{Settings}
use Rattle.hay_needle.specs.declared.total.TheConstants.{MAX_PHOTO}
use Rattle.hay_script.specs.declared.Command.{Command}
use Rattle.hay_script.specs.declared.Command.TheVariants as command
use Rattle.hay_script.specs.declared.Line.{Line}
use Rattle.hay_script.specs.declared.Line.TheVariants as line
use Rattle.hay_script.specs.Script.{IsWithin, line_of, lines_of}
use Rattle.hay_legal.specs.declared.turn.Item.{Item}
use Rattle.hay_legal.specs.declared.turn.Item.TheVariants as item
use Rattle.hay_legal.specs.Items.{Asked, OpenBlock, empty_block, inside, items_from, outside, with_bad, with_command}
use Rattle.hay_legal.specs.Items.Asked.{Alone, Block}
use Rattle.hay_audit_steps.specs.Boxes.{Box, Has}
use Rattle.hay_audit_steps.specs.Judged.{IsOpenItem, JudgementOf}
use Rattle.hay_audit_steps.specs.Reached.{AllAdvance, Candidate as Kept}
use Rattle.hay_audit.specs.declared.judge.Candidate.{Candidate}
use Rattle.hay_audit.specs.declared.judge.Judgement.{Judgement}
use Rattle.hay_audit.specs.declared.judge.Judgement.TheVariants as judgement
use Rattle.hay_audit.specs.declared.judge.Said.{Said}
use Rattle.hay_audit.specs.declared.judge.Said.TheVariants.{Asks, Lanes, Nothing}
use Rattle.hay_audit.specs.declared.judge.Walk.{Walk}
use Rattle.hay_audit.specs.declared.judge.Walk.TheVariants.{Ends, On}
use Rattle.hay_audit.specs.Behind.{GoesOn, IsBehind, Walks}
use Rattle.hay_audit.specs.Candidates.{AreKept, SaidBy, all_standing, judged_as}
use Rattle.hay_audit.specs.Outside.{IsWithinItem}
use Rattle.hay_audit.proofs.Judging.{goes_on, is_open, is_unlawful, skipped}
use Rattle.hay_audit.proofs.Placing.{any_kept}

pub walks_nothing : (settings : Settings) (transcript : List ℕ) (cs : List Candidate) (number turns : ℕ) (said : Said) → said ≡ Nothing → AreKept settings transcript cs
    → Walks settings transcript cs number turns said (On cs turns)
walks_nothing settings transcript cs number turns said e kept = subst (λ (s : Said). Walks settings transcript cs number turns s (On cs turns)) (sym e) (λ script c behind line. (
  skipped settings script transcript c (all_standing transcript cs) number turns line.left line.text behind line.before line.lines (line.said number),
  kept,
  omega arith,
))

-- A BLOCK COMES

record IsBlockNext (items : List Asked) : Type 0 where
  lines : List _
  rest : List Asked
  parts : items ≡ Block lines ∷ rest

block_next : (number : ℕ) (block : OpenBlock) (texts : List (List ℕ)) → IsBlockNext (items_from number (Some block) texts)
block_next number block [] = record { lines = block.lines; rest = []; parts = refl }
block_next number block (text ∷ texts) = by_line (line_of (Some block.lanes) text) (λ held. block_next (number + 1) held texts)
  where
    by_line : (said : Line) → ((held : OpenBlock) → IsBlockNext (items_from (number + 1) (Some held) texts))
        → IsBlockNext ((inside number block said).0 ++ items_from (number + 1) (inside number block said).1 texts)
    by_line line.Skip later = later block
    by_line line.End later = record { lines = block.lines; rest = items_from (number + 1) None texts; parts = refl }
    by_line (line.InLane lane command) later = later (with_command number lane command block)
    by_line said later = later (with_bad number block)

pub walks_block : (settings : Settings) (transcript : List ℕ) (cs : List Candidate) (number turns : ℕ) (said : Said) → said ≡ Lanes
    → Walks settings transcript cs number turns said (Ends (judgement.Open turns))
walks_block settings transcript cs number turns said e = subst (λ (s : Said). Walks settings transcript cs number turns s (Ends (judgement.Open turns))) (sym e) (λ script c behind line.
    let block = line.said number in
    let next = block_next (number + 1) block.0 (lines_of behind) in
    is_open settings script transcript c (all_standing transcript cs) number turns line.left (Block next.lines) next.rest line.before
    (ap (λ (ls : List (List ℕ)). items_from number None ls) line.lines ∙ ap (λ (o : List Asked × Option OpenBlock). o.0 ++ items_from (number + 1) o.1 (lines_of behind)) block.1 ∙ next.parts) tt)

-- AN ITEM COMES

pub walks_open : (settings : Settings) (transcript : List ℕ) (cs : List Candidate) (number turns : ℕ) (said : Said) (asked : Item) → said ≡ Asks asked → IsOpenItem transcript (Alone number asked)
    → Walks settings transcript cs number turns said (Ends (judgement.Open turns))
walks_open settings transcript cs number turns said asked e opened = subst (λ (s : Said). Walks settings transcript cs number turns s (Ends (judgement.Open turns))) (sym e) (λ script c behind line.
    is_open settings script transcript c (all_standing transcript cs) number turns line.left (Alone number asked) (items_from (number + 1) None (lines_of behind)) line.before
    (ap (λ (ls : List (List ℕ)). items_from number None ls) line.lines ∙ ap (λ (o : List Asked × Option OpenBlock). o.0 ++ items_from (number + 1) o.1 (lines_of behind))
    ((line.said).0 number)) opened)

pub walks_nowhere : (settings : Settings) (transcript : List ℕ) (cs next : List Candidate) (number turns : ℕ) (said : Said) (asked : Item) → said ≡ Asks asked
    → (IsOpenItem transcript (Alone number asked) → ⊥) → next ≡ []
    → AllAdvance Has settings (Alone number asked) (all_standing transcript cs) (all_standing transcript next)
    → Walks settings transcript cs number turns said (Ends (judgement.Unlawful turns))
walks_nowhere settings transcript cs next number turns said asked e shut none went =
    subst (λ (s : Said). Walks settings transcript cs number turns s (Ends (judgement.Unlawful turns))) (sym e) (λ script c behind line.
    is_unlawful settings script transcript c (all_standing transcript cs) number turns line.left line.text behind asked line.before line.lines ((line.said).0 number) shut
    (subst (λ (ds : List Candidate). AllAdvance Has settings (Alone number asked) (all_standing transcript cs) (all_standing transcript ds)) none went))

pub walks_on : (settings : Settings) (transcript : List ℕ) (cs next : List Candidate) (number turns : ℕ) (said : Said) (asked : Item) → said ≡ Asks asked
    → (IsOpenItem transcript (Alone number asked) → ⊥) → (next ≡ [] → ⊥)
    → AllAdvance Has settings (Alone number asked) (all_standing transcript cs) (all_standing transcript next) → AreKept settings transcript next
    → Walks settings transcript cs number turns said (On next (turns + 1))
walks_on settings transcript cs next number turns said asked e shut some went kept =
    subst (λ (s : Said). Walks settings transcript cs number turns s (On next (turns + 1))) (sym e) (λ script c behind line. (
      goes_on settings script transcript c (all_standing transcript cs) (all_standing transcript next) number turns line.left line.text behind asked line.before line.lines
          ((line.said).0 number) shut (line.said).1 went (any_kept settings transcript next kept some),
      kept,
      omega arith,
    ))

-- WHAT A LINE SAID

pub said_small : (said : Said) (asked : Item) → said ≡ Asks asked → ((text : Line) × SaidBy text said) → IsWithinItem asked
said_small said asked e told =
    let asks : SaidBy told.0 (Asks asked) = subst (λ (s : Said). SaidBy told.0 s) e told.1 in asks.1

pub within_item : (command : Command) → IsWithin command → IsWithinItem (item.Command command)
within_item (command.Put pair photo) h = h
within_item command h = tt

-- its length has 32 bits
pub put_small : (asked : Item) (pair : Pair) (bytes : List ℕ) → asked ≡ item.Command (command.Put pair bytes) → IsWithinItem asked → length bytes < 2 ^ 32
put_small asked pair bytes e h = let small : length bytes ≤ MAX_PHOTO = subst (λ (i : Item). IsWithinItem i) e h in omega (arith, small)

pub lanes_by : (said : Line) (lanes : ℕ) → said ≡ line.Lanes lanes → SaidBy said Lanes
lanes_by said lanes e = λ number. (empty_block lanes, ap (λ (l : Line). outside number l) e)

pub ends_so : (settings : Settings) (script transcript : List ℕ) (c : Kept Box) (cs : List Candidate) (number turns : ℕ) (said : Said) (left text behind : List ℕ) (walk : Walk) (told : Judgement)
    → Walks settings transcript cs number turns said walk → walk ≡ Ends told
    → IsBehind settings script transcript c (all_standing transcript cs) number turns left → lines_of left ≡ text ∷ lines_of behind → SaidBy (line_of None text) said
    → JudgementOf settings script transcript (judged_as told)
ends_so settings script transcript c cs number turns said left text behind walk told walks e before lines by =
    subst (λ (w : Walk). GoesOn settings script transcript c number turns behind w) e
    (walks script c behind (record { left = left; text = text; before = before; lines = lines; said = by }))

pub goes_so : (settings : Settings) (script transcript : List ℕ) (c : Kept Box) (cs : List Candidate) (number turns : ℕ) (said : Said) (left text behind : List ℕ) (walk : Walk)
    (next : List Candidate) (more : ℕ)
    → Walks settings transcript cs number turns said walk → walk ≡ On next more
    → IsBehind settings script transcript c (all_standing transcript cs) number turns left → lines_of left ≡ text ∷ lines_of behind → SaidBy (line_of None text) said
    → IsBehind settings script transcript c (all_standing transcript next) (number + 1) more behind × AreKept settings transcript next × (more ≤ turns + 1)
goes_so settings script transcript c cs number turns said left text behind walk next more walks e before lines by =
    subst (λ (w : Walk). GoesOn settings script transcript c number turns behind w) e
    (walks script c behind (record { left = left; text = text; before = before; lines = lines; said = by }))
