-- What one line after another asks for.
use Rattle.std.proofs.Common.{◌≡◌, ◌≢◌, ◌⊎◌, inl, inr, ℕ, suc, ◌+◌, ◌<◌, ◌≤◌, Bool, true, false, List, [], ◌∷◌, ◌++◌, length, Option, Some, None, refl, sym, ap, subst, ◌∙◌}
use Rattle.std.proofs.Common.{append_assoc, length-append, arith}
use Rattle.std.proofs.lemmas.Bool.{false≢true}
use Rattle.std.proofs.lemmas.List.{append-nil}
use Rattle.hay_script.specs.declared.Command.{Command}
use Rattle.hay_script.specs.declared.Line.{Line}
use Rattle.hay_script.specs.declared.Line.TheVariants as line
use Rattle.hay_legal.specs.declared.turn.Item.TheVariants as item
use Rattle.hay_script.specs.Script.{line_of, lines_of}
use Rattle.hay_legal.specs.Items.{Asked, OpenBlock, InBlock, empty_block, added, inside, outside, lanes_open, at_end, items_from, whole_items_from}
use Rattle.hay_legal.specs.Items.Asked.{Alone, Block}
use Rattle.hay_lines.specs.Stream.{IsReadToEnd, TookAtMost, Held, rest_of, Accounts, IsTooLong, TookAll}
use Rattle.hay_lines.specs.Lines.{TookFed, TookLine, TookFeds, TookToEnd, TookLines, TookSome}
use Rattle.hay_run.specs.Items.{block_behind, Asks, TookItems, TookOpen, AsksAll}
use Rattle.hay_lines.specs.Said.{SaysNext}
use Rattle.hay_disk.specs.Streams.{Took}
use Rattle.hay_script.specs.declared.words.TheConstants.{MAX_SCRIPT}
use Rattle.hay_lines.proofs.Feeding.{lines_of-some, fed_next}
use Rattle.hay_lines.proofs.Taking.{took_nothing, took_more, took_fed_more, took_last_more, took_end, feeds_append, feeds_end, accounts_more, long_before}

abbrev by_line : ℕ → Option OpenBlock → List ℕ → List Asked × Option OpenBlock
by_line number held text = added number held (line_of (lanes_open held) text)

number_next : (number : ℕ) (texts : List (List ℕ)) → number + 1 + length texts ≡ number + suc (length texts)
number_next number texts = omega arith

number_first : (number : ℕ) → number ≡ number + 0
number_first number = omega arith

pub whole_items_from-append : (texts more : List (List ℕ)) (number : ℕ) (held : Option OpenBlock)
    → whole_items_from number held (texts ++ more) ≡ whole_items_from number held texts ++ whole_items_from (number + length texts) (block_behind number held texts) more
whole_items_from-append [] more number held = ap (λ (n : ℕ). whole_items_from n held more) (number_first number)
whole_items_from-append (text ∷ texts) more number held =
    ap (λ (items : List Asked). (by_line number held text).0 ++ items)
    (whole_items_from-append texts more (number + 1) (by_line number held text).1
    ∙ ap (λ (n : ℕ). whole_items_from (number + 1) (by_line number held text).1 texts ++ whole_items_from n (block_behind (number + 1) (by_line number held text).1 texts) more)
    (number_next number texts))
    ∙ sym (append_assoc (by_line number held text).0 (whole_items_from (number + 1) (by_line number held text).1 texts)
    (whole_items_from (number + suc (length texts)) (block_behind (number + 1) (by_line number held text).1 texts) more))

pub block_behind-append : (texts more : List (List ℕ)) (number : ℕ) (held : Option OpenBlock)
    → block_behind number held (texts ++ more) ≡ block_behind (number + length texts) (block_behind number held texts) more
block_behind-append [] more number held = ap (λ (n : ℕ). block_behind n held more) (number_first number)
block_behind-append (text ∷ texts) more number held =
    block_behind-append texts more (number + 1) (by_line number held text).1
    ∙ ap (λ (n : ℕ). block_behind n (block_behind (number + 1) (by_line number held text).1 texts) more) (number_next number texts)

pub items_from-append : (texts more : List (List ℕ)) (number : ℕ) (held : Option OpenBlock)
    → items_from number held (texts ++ more) ≡ whole_items_from number held texts ++ items_from (number + length texts) (block_behind number held texts) more
items_from-append [] more number held = ap (λ (n : ℕ). items_from n held more) (number_first number)
items_from-append (text ∷ texts) more number held =
    ap (λ (items : List Asked). (by_line number held text).0 ++ items)
    (items_from-append texts more (number + 1) (by_line number held text).1
    ∙ ap (λ (n : ℕ). whole_items_from (number + 1) (by_line number held text).1 texts ++ items_from n (block_behind (number + 1) (by_line number held text).1 texts) more) (number_next number texts))
    ∙ sym (append_assoc (by_line number held text).0 (whole_items_from (number + 1) (by_line number held text).1 texts)
    (items_from (number + suc (length texts)) (block_behind (number + 1) (by_line number held text).1 texts) more))

pub items_from-behind : (texts : List (List ℕ)) (number : ℕ) (held : Option OpenBlock) → items_from number held texts ≡ whole_items_from number held texts ++ at_end (block_behind number held texts)
items_from-behind texts number held =
    ap (λ (lines : List (List ℕ)). items_from number held lines) (sym (append-nil texts)) ∙ items_from-append texts [] number held

-- one line behind others
pub asked_more : (texts : List (List ℕ)) (text : List ℕ) (number next : ℕ) (held behind : Option OpenBlock) (said : Line) (asked items : List Asked) (after : Option OpenBlock)
    → whole_items_from number held texts ≡ asked → block_behind number held texts ≡ behind → next ≡ number + length texts
    → said ≡ line_of (lanes_open behind) text → added next behind said ≡ (items, after)
    → (whole_items_from number held (texts ++ text ∷ []) ≡ asked ++ items) × (block_behind number held (texts ++ text ∷ []) ≡ after)
asked_more texts text number next held behind said asked items after whole is_behind next_is said_is adds =
    let by : by_line (number + length texts) (block_behind number held texts) text ≡ (items, after) =
    ap (λ (b : Option OpenBlock). by_line (number + length texts) b text) is_behind
    ∙ ap (λ (n : ℕ). by_line n behind text) (sym next_is)
    ∙ ap (λ (l : Line). added next behind l) (sym said_is) ∙ adds in (
      whole_items_from-append texts (text ∷ []) number held
          ∙ ap (λ (a : List Asked). a ++ ((by_line (number + length texts) (block_behind number held texts) text).0 ++ [])) whole
          ∙ ap (λ (p : List Asked × Option OpenBlock). asked ++ (p.0 ++ [])) by
          ∙ ap (λ (a : List Asked). asked ++ a) (append-nil items),
      block_behind-append texts (text ∷ []) number held ∙ ap (λ (p : List Asked × Option OpenBlock). p.1) by,
    )

pub lines_more : (texts : List (List ℕ)) (text : List ℕ) (before mid after : Option (List ℕ)) (ended : Bool) → TookFeds before texts mid → TookLine mid text after ended
    → TookLines before (texts ++ text ∷ []) after ended
lines_more texts text before mid after ended feeds (inl w) = inl (took_fed_more texts before mid after text feeds w.0, w.1)
lines_more texts text before mid after ended feeds (inr w) = inr (took_last_more texts before mid after text feeds w.0, w.1)

pub length-push : (texts : List (List ℕ)) (text : List ℕ) (number next : ℕ) → next ≡ number + length texts → next + 1 ≡ number + length (texts ++ text ∷ [])
length-push texts text number next e = omega (arith, e, length-append texts (text ∷ []))

-- SOME BYTES

pub some_more : (before mid after : Option (List ℕ)) → TookSome before mid → TookSome mid after → TookSome before after
some_more before mid after h k = (h.0 ++ k.0, took_more before mid after h.0 k.0 h.1 k.1)

pub some_feeds : (texts : List (List ℕ)) (before after : Option (List ℕ)) → TookFeds before texts after → TookSome before after
some_feeds [] before after h = ([], h)
some_feeds (text ∷ texts) before after h = some_more before h.0 after (h.1.bytes ++ 10 ∷ [], h.1.took) (some_feeds texts h.0 after h.2)

some_all : (before after : Option (List ℕ)) (bytes : List ℕ) → TookAll before bytes after → TookSome before after
some_all None after bytes h = (bytes, tt)
some_all (Some all) after bytes h = (bytes, ([], h.1, h.0 ∙ sym (append-nil bytes)))

pub some_line : (before after : Option (List ℕ)) (text : List ℕ) (ended : Bool) → TookLine before text after ended → TookSome before after
some_line before after text ended (inl w) = (w.0.bytes ++ 10 ∷ [], w.0.took)
some_line before after text ended (inr w) = some_all before after text w.0.all

some_end : (texts : List (List ℕ)) (before after : Option (List ℕ)) → TookToEnd before texts after → TookSome before after
some_end [] before after h = some_all before after [] h
some_end (text ∷ texts) before after (inl w) = some_all before after text w.0.all
some_end (text ∷ texts) before after (inr (mid, fed, rest)) = some_more before mid after (fed.bytes ++ 10 ∷ [], fed.took) (some_end texts mid after rest)

pub some_items : (number : ℕ) (held : Option OpenBlock) (before after : Option (List ℕ)) (asked : List Asked) (next : ℕ) (ended : Bool)
    → TookItems number held before asked next after ended → TookSome before after
some_items number held before after asked next ended took = by took.lines
  where
    by : TookLines before took.texts after ended → TookSome before after
    by (inl feeds) = some_feeds took.texts before after feeds.0
    by (inr all) = some_end took.texts before after all.0

-- A BLOCK THAT IS READ

-- the script ends behind its lines
pub block_ended : (texts : List (List ℕ)) (number next : ℕ) (held : OpenBlock) (block : OpenBlock) (before mid after : Option (List ℕ)) (ended : Bool)
    → TookFeds before texts mid → whole_items_from number (Some held) texts ≡ [] → block_behind number (Some held) texts ≡ Some block → next ≡ number + length texts
    → TookAll mid [] after × (ended ≡ true)
    → TookItems number (Some held) before (Block block.lines ∷ []) next after ended
block_ended texts number next held block before mid after ended feeds nothing behind next_is over = record {
  texts = texts;
  lines = inr (took_end texts before mid after feeds over.0, over.1);
  next_is = next_is;
  asks = inr (items_from-behind texts number (Some held) ∙ rw (nothing, behind) refl, over.1);
}

-- a line closes it
pub block_closed : (texts : List (List ℕ)) (number next : ℕ) (held : OpenBlock) (block block' : OpenBlock) (said : Line) (before mid after : Option (List ℕ)) (ended : Bool)
    → TookFeds before texts mid → whole_items_from number (Some held) texts ≡ [] → block_behind number (Some held) texts ≡ Some block → next ≡ number + length texts
    → SaysNext (Some block.lanes) (Some said) mid after ended → inside next block said ≡ (Block block'.lines ∷ [], None)
    → TookItems number (Some held) before (Block block'.lines ∷ []) (next + 1) after ended
block_closed texts number next held block block' said before mid after ended feeds nothing behind next_is says adds =
    let more = asked_more texts says.0 number next (Some held) (Some block) said [] (Block block'.lines ∷ []) None nothing behind next_is says.2 adds in
    record {
      texts = texts ++ says.0 ∷ [];
      lines = lines_more texts says.0 before mid after ended feeds says.1;
      next_is = length-push texts says.0 number next next_is;
      asks = inl (more.0, more.1);
    }

-- the script ends with a line that does not close it
pub block_over : (texts : List (List ℕ)) (number next : ℕ) (held : OpenBlock) (block block' : OpenBlock) (said : Line) (before mid after : Option (List ℕ)) (ended : Bool)
    → TookFeds before texts mid → whole_items_from number (Some held) texts ≡ [] → block_behind number (Some held) texts ≡ Some block → next ≡ number + length texts
    → SaysNext (Some block.lanes) (Some said) mid after ended → inside next block said ≡ ([], Some block') → ended ≡ true
    → TookItems number (Some held) before (Block block'.lines ∷ []) (next + 1) after ended
block_over texts number next held block block' said before mid after ended feeds nothing behind next_is says adds over =
    let more = asked_more texts says.0 number next (Some held) (Some block) said [] [] (Some block') nothing behind next_is says.2 adds in
    record {
      texts = texts ++ says.0 ∷ [];
      lines = lines_more texts says.0 before mid after ended feeds says.1;
      next_is = length-push texts says.0 number next next_is;
      asks = inr (items_from-behind (texts ++ says.0 ∷ []) number (Some held) ∙ rw (more.0, more.1) refl, over);
    }

-- a line that ended with a line feed
pub fed_line : (before after : Option (List ℕ)) (text : List ℕ) (ended : Bool) → TookLine before text after ended → ended ≡ false → TookFed before text after
fed_line before after text ended (inl w) unmet = w.0
fed_line before after text ended (inr w) unmet = absurd (false≢true (sym unmet ∙ w.1))

-- LINES OUTSIDE OF A BLOCK

pub outside-none : (number : ℕ) (said : Line) → (said ≡ line.Skip) ⊎ ((lanes : ℕ) × (said ≡ line.Lanes lanes)) → (outside number said).0 ≡ []
outside-none number said (inl e) = rw e refl
outside-none number said (inr (lanes, e)) = rw e refl

pub outside-bad : (number : ℕ) (said : Line) → (said ≡ line.Bad) ⊎ (said ≡ line.End) ⊎ ((lane : ℕ) × (command : Command) × (said ≡ line.InLane lane command))
    → (outside number said).0 ≡ Alone number item.Bad ∷ []
outside-bad number said (inl e) = rw e refl
outside-bad number said (inr (inl e)) = rw e refl
outside-bad number said (inr (inr e)) = rw e.2 refl

outside-alone : (number : ℕ) (said : Line) → ((lanes : ℕ) → said ≡ line.Lanes lanes → ⊥) → (outside number said).1 ≡ None
outside-alone number line.Skip h = refl
outside-alone number line.Bad h = refl
outside-alone number (line.Plain command) h = refl
outside-alone number (line.InLane lane command) h = refl
outside-alone number (line.Lanes lanes) h = absurd (h lanes refl)
outside-alone number line.End h = refl

-- a line alone
pub items_alone : (number : ℕ) (said : Line) (before after : Option (List ℕ)) (ended : Bool) → SaysNext None (Some said) before after ended → ((lanes : ℕ) → said ≡ line.Lanes lanes → ⊥)
    → TookItems number None before (outside number said).0 (number + 1) after ended
items_alone number said before after ended says no_block =
    let more = asked_more [] says.0 number number None None said [] (outside number said).0 (outside number said).1 refl refl (number_first number) says.2 refl in
    record {
      texts = says.0 ∷ [];
      lines = lines_more [] says.0 before before after ended (took_nothing before) says.1;
      next_is = omega arith;
      asks = inl (more.0, more.1 ∙ outside-alone number said no_block);
    }

-- nothing any more
pub items_none : (number : ℕ) (before after : Option (List ℕ)) (ended : Bool) → SaysNext None None before after ended → TookItems number None before [] number after ended
items_none number before after ended over = record {
  texts = [];
  lines = inr over;
  next_is = omega arith;
  asks = inl (refl, refl);
}

-- A BLOCK WITH THE LINE THAT OPENS IT

lines_first : (text : List ℕ) (texts : List (List ℕ)) (before mid after : Option (List ℕ)) (ended : Bool) → TookFed before text mid → TookLines mid texts after ended
    → TookLines before (text ∷ texts) after ended
lines_first text texts before mid after ended fed (inl w) = inl ((mid, fed, w.0), w.1)
lines_first text texts before mid after ended fed (inr w) = inr (inr (mid, fed, w.0), w.1)

asks_first : (number lanes : ℕ) (text : List ℕ) (texts : List (List ℕ)) (asked : List Asked) (ended : Bool) → line.Lanes lanes ≡ line_of None text
    → Asks (number + 1) (Some (empty_block lanes)) texts asked ended → Asks number None (text ∷ texts) asked ended
asks_first number lanes text texts asked ended says (inl w) = inl (rw (← says) w.0, rw (← says) w.1)
asks_first number lanes text texts asked ended says (inr w) = inr (rw (← says) w.0, w.1)

items_block : (number lanes next : ℕ) (asked : List Asked) (before mid after : Option (List ℕ)) (ended ended' : Bool)
    → SaysNext None (Some (line.Lanes lanes)) before mid ended → ended ≡ false → TookItems (number + 1) (Some (empty_block lanes)) mid asked next after ended'
    → TookItems number None before asked next after ended'
items_block number lanes next asked before mid after ended ended' says unmet took = record {
  texts = says.0 ∷ took.texts;
  lines = lines_first says.0 took.texts before mid after ended' (fed_line before mid says.0 ended says.1 unmet) took.lines;
  next_is = took.next_is ∙ number_next number took.texts;
  asks = asks_first number lanes says.0 took.texts asked ended' says.2 took.asks;
}

items_empty : (number lanes : ℕ) (before after : Option (List ℕ)) (ended : Bool)
    → SaysNext None (Some (line.Lanes lanes)) before after ended → ended ≡ true
    → TookItems number None before (Block [] ∷ []) (number + 1) after ended
items_empty number lanes before after ended says over = record {
  texts = says.0 ∷ [];
  lines = lines_more [] says.0 before before after ended (took_nothing before) says.1;
  next_is = omega arith;
  asks = inr (rw (← says.2) refl, over);
}

-- either way
pub items_either : (number lanes next : ℕ) (lines : List InBlock) (before mid after : Option (List ℕ)) (ended ended' : Bool)
    → SaysNext None (Some (line.Lanes lanes)) before mid ended
    → (ended ≡ false → TookItems (number + 1) (Some (empty_block lanes)) mid (Block lines ∷ []) next after ended')
    → (ended ≡ true → (lines ≡ []) × (next ≡ number + 1) × (after ≡ mid) × (ended' ≡ ended))
    → TookItems number None before (Block lines ∷ []) next after ended'
items_either number lanes next lines before mid after false ended' says read empty =
    items_block number lanes next (Block lines ∷ []) before mid after false ended' says refl (read refl)
items_either number lanes next lines before mid after true ended' says read empty =
    let e = empty refl in
    rw (e.0, e.1, e.2, e.3) (items_empty number lanes before mid true says refl)

-- a block that breaks off
pub open_block : (Rest : Option (List ℕ) → Option (List ℕ) → Type 0) (number lanes : ℕ) (before mid after : Option (List ℕ)) (ended : Bool)
    → SaysNext None (Some (line.Lanes lanes)) before mid ended → ended ≡ false → TookOpen Rest (number + 1) (Some (empty_block lanes)) mid after
    → TookOpen Rest number None before after
open_block Rest number lanes before mid after ended says unmet took = record {
  texts = says.0 ∷ took.texts;
  mid = took.mid;
  feeds = (mid, fed_line before mid says.0 ended says.1 unmet, took.feeds);
  nothing = rw (← says.2) took.nothing;
  rest = took.rest;
}

-- a line that breaks off
pub open_line : (Rest : Option (List ℕ) → Option (List ℕ) → Type 0) (number : ℕ) (before after : Option (List ℕ)) → Rest before after → TookOpen Rest number None before after
open_line Rest number before after rest = record {
  texts = [];
  mid = before;
  feeds = took_nothing before;
  nothing = refl;
  rest = rest;
}

-- ALL OF A SCRIPT

lines_feeds : (texts : List (List ℕ)) (all : List ℕ) (after : Option (List ℕ)) → TookFeds (Some all) texts after
    → (rest : List ℕ) × (after ≡ Some rest) × (lines_of all ≡ texts ++ lines_of rest)
lines_feeds [] all after h = (h.0, h.1, ap lines_of h.2)
lines_feeds (text ∷ texts) all after h =
    let first = fed_next all text h.0 h.1 in
    let P : Option (List ℕ) → Type 0 = λ mid. TookFeds mid texts after in
    let others = lines_feeds texts first.0 after (subst P first.1 h.2) in
    (others.0, others.1, first.2 ∙ ap (λ (lines : List (List ℕ)). text ∷ lines) others.2)

lines_end : (texts : List (List ℕ)) (all : List ℕ) (after : Option (List ℕ)) → TookToEnd (Some all) texts after → (after ≡ Some []) × (lines_of all ≡ texts)
lines_end [] all after h = (h.1, ap lines_of h.0)
lines_end (text ∷ texts) all after (inl w) =
    (w.0.all.1, ap lines_of w.0.all.0 ∙ lines_of-some text w.0.free w.0.some ∙ ap (λ (lines : List (List ℕ)). text ∷ lines) (sym w.1))
lines_end (text ∷ texts) all after (inr w) =
    let first = fed_next all text w.0 w.1 in
    let P : Option (List ℕ) → Type 0 = λ mid. TookToEnd mid texts after in
    let others = lines_end texts first.0 after (subst P first.1 w.2) in
    (others.0, first.2 ∙ ap (λ (lines : List (List ℕ)). text ∷ lines) others.1)

asked_all : (number : ℕ) (texts : List (List ℕ)) (asked : List Asked) (ended : Bool) → Asks number None texts asked ended → items_from number None texts ≡ asked
asked_all number texts asked ended (inl w) = items_from-behind texts number None ∙ rw (w.0, w.1) (append-nil asked)
asked_all number texts asked ended (inr w) = w.0

-- what is left asks for these items
abbrev EndsItems : ℕ → Option (List ℕ) → List Asked → Type 0
EndsItems number None asked = Unit {0}
EndsItems number (Some all) asked = items_from number None (lines_of all) ≡ asked

to_end : (before after : Option (List ℕ)) (texts : List (List ℕ)) (ended : Bool) → TookLines before texts after ended → ended ≡ true → TookToEnd before texts after
to_end before after texts ended (inl w) met = absurd (false≢true (sym w.1 ∙ met))
to_end before after texts ended (inr w) met = w.0

ends_turn : (number next : ℕ) (before after : Option (List ℕ)) (asked : List Asked) (ended : Bool) → TookItems number None before asked next after ended → ended ≡ true → EndsItems number before asked
ends_turn number next None after asked ended took met = tt
ends_turn number next (Some all) after asked ended took met =
    let lines = lines_end took.texts all after (to_end (Some all) after took.texts ended took.lines met) in
    ap (λ (l : List (List ℕ)). items_from number None l) lines.1 ∙ asked_all number took.texts asked ended took.asks

pub at_end_turn : (number next : ℕ) (before after : Option (List ℕ)) (asked : List Asked) (ended : Bool) → TookItems number None before asked next after ended → ended ≡ true → IsReadToEnd before after
at_end_turn number next None after asked ended took met = tt
at_end_turn number next (Some all) after asked ended took met =
    (lines_end took.texts all after (to_end (Some all) after took.texts ended took.lines met)).0

pub asks_all : (next : ℕ) (script after : Option (List ℕ)) (asked : List Asked) (ended : Bool) → TookItems 1 None script asked next after ended → ended ≡ true → AsksAll script asked
asks_all next None after asked ended took met = tt
asks_all next (Some script) after asked ended took met = sym (ends_turn 1 next (Some script) after asked ended took met)

-- ITEMS BEHIND ITEMS

pub took_first : (number : ℕ) (left : Option (List ℕ)) (held : Held) → held.bytes ≡ [] → TookItems number None left [] number (rest_of left held) false
took_first number left held none = record {
  texts = [];
  lines = inl (first left, refl);
  next_is = omega arith;
  asks = inl (refl, refl);
}
  where
    first : (left : Option (List ℕ)) → Took left [] (rest_of left held)
    first None = tt
    first (Some all) = (all, ap (λ (bytes : List ℕ). Some (bytes ++ all)) none, refl)

pub fed_lines : (before after : Option (List ℕ)) (texts : List (List ℕ)) → TookLines before texts after false → TookFeds before texts after
fed_lines before after texts (inl w) = w.0
fed_lines before after texts (inr w) = absurd (false≢true w.1)

lines_append : (texts more : List (List ℕ)) (before mid after : Option (List ℕ)) (ended : Bool) → TookFeds before texts mid → TookLines mid more after ended
    → TookLines before (texts ++ more) after ended
lines_append texts more before mid after ended feeds (inl w) = inl (feeds_append texts more before mid after feeds w.0, w.1)
lines_append texts more before mid after ended feeds (inr w) = inr (feeds_end texts more before mid after feeds w.0, w.1)

pub asks_whole : (number : ℕ) (texts : List (List ℕ)) (asked : List Asked) → Asks number None texts asked false → (whole_items_from number None texts ≡ asked) × (block_behind number None texts ≡ None)
asks_whole number texts asked (inl w) = w
asks_whole number texts asked (inr w) = absurd (false≢true w.1)

asks_append : (number mid : ℕ) (texts others : List (List ℕ)) (asked more : List Asked) (ended : Bool)
    → whole_items_from number None texts ≡ asked → block_behind number None texts ≡ None → mid ≡ number + length texts → Asks mid None others more ended
    → Asks number None (texts ++ others) (asked ++ more) ended
asks_append number mid texts others asked more ended whole behind at (inl w) = inl (
  whole_items_from-append texts others number None ∙ rw (whole, behind, sym at) (ap (λ (items : List Asked). asked ++ items) w.0),
  block_behind-append texts others number None ∙ rw (behind, sym at) w.1,
)
asks_append number mid texts others asked more ended whole behind at (inr w) = inr (
  items_from-append texts others number None ∙ rw (whole, behind, sym at) (ap (λ (items : List Asked). asked ++ items) w.0),
  w.1,
)

pub took_items_more : (number mid next : ℕ) (before between after : Option (List ℕ)) (asked more : List Asked) (ended : Bool)
    → TookItems number None before asked mid between false → TookItems mid None between more next after ended → TookItems number None before (asked ++ more) next after ended
took_items_more number mid next before between after asked more ended first second =
    let whole = asks_whole number first.texts asked first.asks in
    record {
      texts = first.texts ++ second.texts;
      lines = lines_append first.texts second.texts before between after ended (fed_lines before between first.texts first.lines) second.lines;
      next_is = omega (arith, first.next_is, second.next_is, length-append first.texts second.texts);
      asks = asks_append number mid first.texts second.texts asked more ended whole.0 whole.1 first.next_is second.asks;
    }

-- HOW LONG A SCRIPT IS

pub short_script : (limit : ℕ) (script : List ℕ) (mid new : Option (List ℕ)) (first held held' : Held)
    → Accounts (Some script) first mid held → Accounts mid held new held' → IsReadToEnd (rest_of mid held) (rest_of new held') → first.taken ≡ 0 → held'.taken ≤ limit → length script ≤ limit
short_script limit script None new first held held' h k over at_first small = cc
short_script limit script (Some rest) None first held held' h k over at_first small = cc
short_script limit script (Some rest) (Some last) first held held' h k over at_first small =
    let same : rest ≡ h.0 = cc in
    let same' : last ≡ k.0 = cc in
    let nothing : held'.bytes ++ last ≡ [] = cc in
    omega (arith, h.2, k.2, ap length same, ap length same', ap length nothing, length-append held'.bytes last, at_first, small)

pub long_script : (limit : ℕ) (script : List ℕ) (mid after : Option (List ℕ)) (first held : Held) → Accounts (Some script) first mid held → IsTooLong limit mid held after → first.taken ≡ 0
    → (rest : List ℕ) × (after ≡ Some rest) × (length script ≡ limit + 1 + length rest)
long_script limit script mid after first held h long at_first =
    let more = long_before limit (Some script) mid after first held h long in (more.0, more.1, omega (arith, more.2, at_first))

pub taken_nothing : (limit : ℕ) (left : Option (List ℕ)) → TookAtMost limit left left
taken_nothing limit left script told = (script, told, omega arith)

pub taken_most : (limit : ℕ) (left mid after : Option (List ℕ)) (first held held' : Held) → Accounts left first mid held → Accounts mid held after held' → first.taken ≡ 0
    → held'.taken ≤ limit → TookAtMost limit left after
taken_most limit left mid after first held held' h k at_first small script told =
    let all = accounts_more left mid after first held held' h k in
    let made : Accounts (Some script) first after held' = rw told at all in (made.0, made.1, omega (arith, made.2, at_first, small))

last_of_none : (a b : List ℕ) → a ++ b ≡ [] → b ≡ []
last_of_none [] b e = e
last_of_none (x ∷ a) b e = cc

pub read_to_end : (script mid new : Option (List ℕ)) (first held held' : Held) → Accounts script first mid held → IsReadToEnd (rest_of mid held) (rest_of new held') → IsReadToEnd script new
read_to_end None mid new first held held' h over = tt
read_to_end (Some script) None new first held held' h over = cc
read_to_end (Some script) (Some rest) None first held held' h over = cc
read_to_end (Some script) (Some rest) (Some last) first held held' h over =
    let nothing : held'.bytes ++ last ≡ [] = cc in ap (λ (bytes : List ℕ). Some bytes) (last_of_none held'.bytes last nothing)
