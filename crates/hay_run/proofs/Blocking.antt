-- What a block that was read has.
use Rattle.std.proofs.Common.{◌≡◌, ◌≢◌, ℕ, zero, suc, ◌+◌, ◌<◌, ◌≤◌, ◌==◌, ◌&&◌, Bool, true, false, List, [], ◌∷◌, ◌++◌, length, Option, Some, None, refl, sym, ap, subst, ◌∙◌, arith, ltb-true, ne_eqb}
use Rattle.std.specs.Prelude.{nat_lt, nat_le, bytes_eq, codes, if◌then◌else◌, option_and_then}
use Rattle.std.specs.Char.{is_ascii_digit}
use Rattle.std.specs.List.{AllByRecursion as Each, list_all}
use Rattle.std.specs.Str.Parse.{digits_value}
use Rattle.hay_script.specs.declared.Command.{Command}
use Rattle.hay_script.specs.declared.Command.TheVariants as command
use Rattle.hay_script.specs.declared.Line.TheVariants as line
use Rattle.hay_script.specs.declared.words.TheConstants.{MAX_LANES}
use Rattle.hay_script.specs.Script.{IsWithin, below, by_place, command_of, command_of_one, from_one, inside_line, is_fair, is_skipped, lane_line, lanes_by, line_of}
use Rattle.hay_script.specs.Script.{may_stand_in_lane, outside_line, plain_by, words_of}
use Rattle.hay_legal.specs.declared.turn.Item.{Item}
use Rattle.hay_legal.specs.declared.turn.Item.TheVariants as item
use Rattle.hay_legal.specs.Items.{InBlock, OpenBlock, with_bad, with_command}
use Rattle.hay_legal.specs.Known.{EachPair}
use Rattle.hay_block.specs.Lines.{IsServed}
use Rattle.hay_run.specs.Blocks.{IsBlockBelow, IsBlockOf}
use Rattle.hay_run.proofs.Dealing.{each_pushed}

-- WHAT A LINE SAYS IN A BLOCK

if_some : {X : Type 0} (b : Bool) (x y : X) → (if b then Some x else None) ≡ Some y → (b ≡ true) × (x ≡ y)
if_some true x y e = (refl, cc)
if_some false x y e = absurd cc

and_last : (p q : Bool) → (p && q) ≡ true → q ≡ true
and_last true q e = e
and_last false q e = absurd cc

below_limit : (limit : ℕ) (text : List ℕ) (n : ℕ) → below limit text ≡ Some n → n < limit
below_limit limit text n is =
    let tests = if_some (nat_lt 0 (length text) && nat_le (length text) 20 && list_all is_ascii_digit text && nat_lt (digits_value 10 text) limit) (digits_value 10 text) n is in
    let last : nat_lt (digits_value 10 text) limit ≡ true =
    and_last (nat_lt 0 (length text) && nat_le (length text) 20 && list_all is_ascii_digit text) (nat_lt (digits_value 10 text) limit) tests.0 in
    subst (λ (k : ℕ). k < limit) tests.1 (ltb-true (digits_value 10 text) limit last)

-- a line of a lane: its lane is one of the block's, and its command may stand in one
lane_by : (lanes : ℕ) (word : List ℕ) (asked : Option Command) (lane : ℕ) (command : Command) → line.InLane lane command ≡ lane_line (below lanes word) asked
    → (lane < lanes) × (may_stand_in_lane command ≡ true)
lane_by lanes word asked lane command is = by (below lanes word) asked (below_limit lanes word) is
  where
    by : (found : Option ℕ) (asked : Option Command) → ((n : ℕ) → found ≡ Some n → n < lanes) → line.InLane lane command ≡ lane_line found asked → (lane < lanes) × (may_stand_in_lane command ≡ true)
    by None asked low e = absurd cc
    by (Some n) None low e = absurd cc
    by (Some n) (Some c) low e = stands (may_stand_in_lane c) refl e
      where
        stands : (b : Bool) → may_stand_in_lane c ≡ b → line.InLane lane command ≡ (if may_stand_in_lane c then line.InLane n c else line.Bad) → (lane < lanes) × (may_stand_in_lane command ≡ true)
        stands true stood e =
            let both : line.InLane lane command ≡ line.InLane n c = rw stood at e in
            let one : n ≡ lane = cc in
            let two : c ≡ command = cc in
            (subst (λ (k : ℕ). k < lanes) one (low n refl), ap may_stand_in_lane (sym two) ∙ stood)
        stands false other e = let both : line.InLane lane command ≡ line.Bad = rw other at e in absurd cc

inside_lane : (lanes : ℕ) (words : List (List ℕ)) (lane : ℕ) (command : Command) → line.InLane lane command ≡ inside_line lanes words → (lane < lanes) × (may_stand_in_lane command ≡ true)
inside_lane lanes [] lane command is = absurd cc
inside_lane lanes (word ∷ []) lane command is = by (bytes_eq word (codes "end")) is
  where
    by : (b : Bool) → line.InLane lane command ≡ (if b then line.End else line.Bad) → (lane < lanes) × (may_stand_in_lane command ≡ true)
    by true e = absurd cc
    by false e = absurd cc
inside_lane lanes (word ∷ other ∷ words) lane command is = lane_by lanes word (command_of (other ∷ words)) lane command is

pub in_lane : (lanes : ℕ) (text : List ℕ) (lane : ℕ) (command : Command) → line.InLane lane command ≡ line_of (Some lanes) text → (lane < lanes) × (may_stand_in_lane command ≡ true)
in_lane lanes text lane command is = by (is_skipped (words_of text)) (is_fair text) is
  where
    by : (skipped fair : Bool) → line.InLane lane command ≡ (if skipped then line.Skip else if fair then by_place (Some lanes) (words_of text) else line.Bad)
        → (lane < lanes) × (may_stand_in_lane command ≡ true)
    by true fair e = absurd cc
    by false true e = inside_lane lanes (words_of text) lane command e
    by false false e = absurd cc

-- how many lanes a line that opens a block has
lanes_from : (text : List ℕ) (lanes : ℕ) → from_one (MAX_LANES + 1) text ≡ Some lanes → (0 < lanes) × (lanes ≤ MAX_LANES)
lanes_from text lanes is = by (below (MAX_LANES + 1) text) (below_limit (MAX_LANES + 1) text) is
  where
    by : (found : Option ℕ) → ((n : ℕ) → found ≡ Some n → n < MAX_LANES + 1) → option_and_then (λ (n : ℕ). if n == 0 then None else Some n) found ≡ Some lanes → (0 < lanes) × (lanes ≤ MAX_LANES)
    by None low e = absurd cc
    by (Some zero) low e = absurd cc
    by (Some (suc n)) low e =
        let other : (suc n == 0) ≡ false = ne_eqb (suc n) 0 (λ e. omega (arith, e)) in
        let both : Some (suc n) ≡ Some lanes = rw other at e in
        let same : suc n ≡ lanes = cc in
        let small = low (suc n) refl in
        (omega (arith, same), omega (arith, same, small))

lanes_said : (found : Option ℕ) (lanes : ℕ) → line.Lanes lanes ≡ lanes_by found → found ≡ Some lanes
lanes_said None lanes e = absurd cc
lanes_said (Some n) lanes e = let same : n ≡ lanes = cc in ap Some same

not_plain : (asked : Option Command) (lanes : ℕ) → line.Lanes lanes ≡ plain_by asked → ⊥
not_plain None lanes e = cc
not_plain (Some command) lanes e = cc

outside_lanes : (words : List (List ℕ)) (lanes : ℕ) → line.Lanes lanes ≡ outside_line words → (0 < lanes) × (lanes ≤ MAX_LANES)
outside_lanes [] lanes e = absurd (not_plain (command_of []) lanes e)
outside_lanes (verb ∷ []) lanes e = absurd (not_plain (command_of (verb ∷ [])) lanes e)
outside_lanes (verb ∷ a ∷ []) lanes e = by (bytes_eq verb (codes "lanes")) e
  where
    by : (b : Bool) → line.Lanes lanes ≡ (if b then lanes_by (from_one (MAX_LANES + 1) a) else plain_by (command_of_one verb a)) → (0 < lanes) × (lanes ≤ MAX_LANES)
    by true e = lanes_from a lanes (lanes_said (from_one (MAX_LANES + 1) a) lanes e)
    by false e = absurd (not_plain (command_of_one verb a) lanes e)
outside_lanes (verb ∷ a ∷ b ∷ words) lanes e = absurd (not_plain (command_of (verb ∷ a ∷ b ∷ words)) lanes e)

pub block_lanes : (text : List ℕ) (lanes : ℕ) → line.Lanes lanes ≡ line_of None text → (0 < lanes) × (lanes ≤ MAX_LANES)
block_lanes text lanes is = by (is_skipped (words_of text)) (is_fair text) is
  where
    by : (skipped fair : Bool) → line.Lanes lanes ≡ (if skipped then line.Skip else if fair then by_place None (words_of text) else line.Bad) → (0 < lanes) × (lanes ≤ MAX_LANES)
    by true fair e = absurd cc
    by false true e = outside_lanes (words_of text) lanes e
    by false false e = absurd cc

pub served_by : (command : Command) → IsWithin command → may_stand_in_lane command ≡ true → IsServed (item.Command command)
served_by (command.Put pair bytes) within stands = (within, tt)
served_by (command.Read pair cookie) within stands = (within, tt)
served_by (command.Get url) within stands = (within, tt)
served_by (command.Del pair) within stands = (within, tt)
served_by (command.Url pair) within stands = (within, tt)
served_by (command.Flush v m) within stands = (within, tt)
served_by (command.Compact v m) within stands = (within, tt)
served_by (command.Begin v m) within stands = absurd cc
served_by (command.Step v m cells) within stands = absurd cc
served_by (command.Finish v m) within stands = absurd cc
served_by (command.Drain m) within stands = absurd cc
served_by (command.Undrain m) within stands = absurd cc
served_by (command.Fuse v m n) within stands = absurd cc
served_by (command.FuseDir n) within stands = absurd cc
served_by (command.Restart pick) within stands = absurd cc

-- A BLOCK WITH ONE LINE MORE

pub no_lines : (lanes next : ℕ) → 0 < lanes → lanes ≤ MAX_LANES → IsBlockBelow next (record { lanes = lanes; commands = 0; lines = [] })
no_lines lanes next some few = record { lines = record { some = some; few = few; low = tt; served = tt; distinct = tt }; before = tt }

each_weaker : {X : Type 0} (P Q : X → Type 0) → ((x : X) → P x → Q x) → (xs : List X) → Each P xs → Each Q xs
each_weaker P Q to [] each = tt
each_weaker P Q to (x ∷ xs) each = (to x each.0, each_weaker P Q to xs each.1)

pairs_behind : (xs : List InBlock) (y : InBlock) → EachPair (λ a b. a.line ≢ b.line) xs → Each (λ x. x.line < y.line) xs → EachPair (λ a b. a.line ≢ b.line) (xs ++ y ∷ [])
pairs_behind [] y pairs below = (tt, tt)
pairs_behind (x ∷ xs) y pairs below =
    let less = below.0 in
    (each_pushed (λ (b : InBlock). x.line ≢ b.line) xs y pairs.0 (λ same. omega (arith, less, same)), pairs_behind xs y pairs.1 below.1)

later : (next : ℕ) (lines : List InBlock) → Each (λ line. line.line < next) lines → Each (λ line. line.line < next + 1) lines
later next lines before = each_weaker (λ (l : InBlock). l.line < next) (λ (l : InBlock). l.line < next + 1) (λ l less. omega (arith, less)) lines before

-- nothing was added
pub block_same : (next : ℕ) (block : OpenBlock) → IsBlockBelow next block → IsBlockBelow (next + 1) block
block_same next block is = record { lines = is.lines; before = later next block.lines is.before }

lines_more : (next lane : ℕ) (asked : Item) (lanes : ℕ) (lines : List InBlock) → lane < lanes → IsServed asked → IsBlockOf lanes lines → Each (λ line. line.line < next) lines
    → IsBlockOf lanes (lines ++ record { line = next; lane = lane; item = asked } ∷ [])
lines_more next lane asked lanes lines low served is before = record {
  some = is.some;
  few = is.few;
  low = each_pushed (λ (l : InBlock). l.lane < lanes) lines (record { line = next; lane = lane; item = asked }) is.low low;
  served = each_pushed (λ (l : InBlock). IsServed l.item) lines (record { line = next; lane = lane; item = asked }) is.served served;
  distinct = pairs_behind lines (record { line = next; lane = lane; item = asked }) is.distinct before;
}

before_more : (next lane : ℕ) (asked : Item) (lines : List InBlock) → Each (λ line. line.line < next) lines
    → Each (λ line. line.line < next + 1) (lines ++ record { line = next; lane = lane; item = asked } ∷ [])
before_more next lane asked lines before =
    each_pushed (λ (l : InBlock). l.line < next + 1) lines (record { line = next; lane = lane; item = asked }) (later next lines before) (omega arith)

bad_more : (next : ℕ) (block : OpenBlock) → IsBlockBelow next block → IsBlockBelow (next + 1) (with_bad next block)
bad_more next block is = record {
  lines = lines_more next 0 item.Bad block.lanes block.lines (is.lines).some tt is.lines is.before;
  before = before_more next 0 item.Bad block.lines is.before;
}

-- as a block stands when the line was pushed
pub bad_pushed : (next : ℕ) (block : OpenBlock) (lines : List InBlock) → lines ≡ block.lines ++ record { line = next; lane = 0; item = item.Bad } ∷ [] → IsBlockBelow next block
    → IsBlockBelow (next + 1) (record { lanes = block.lanes; commands = block.commands; lines = lines })
bad_pushed next block lines is below =
    subst (λ (l : List InBlock). IsBlockBelow (next + 1) (record { lanes = block.lanes; commands = block.commands; lines = l })) (sym is) (bad_more next block below)

pub command_pushed : (next lane : ℕ) (command : Command) (block : OpenBlock) (lines : List InBlock) → lines ≡ block.lines ++ record { line = next; lane = lane; item = item.Command command } ∷ []
    → lane < block.lanes → IsServed (item.Command command) → IsBlockBelow next block → IsBlockBelow (next + 1) (record { lanes = block.lanes; commands = block.commands + 1; lines = lines })
command_pushed next lane command block lines is low served below =
    subst (λ (l : List InBlock). IsBlockBelow (next + 1) (record { lanes = block.lanes; commands = block.commands + 1; lines = l })) (sym is) (record {
      lines = lines_more next lane (item.Command command) block.lanes block.lines low served below.lines below.before;
      before = before_more next lane (item.Command command) block.lines below.before;
    })
