-- The bytes of lines that were taken.
use Rattle.std.proofs.Common.{◌≡◌, ℕ, ◌+◌, Bool, true, false, List, [], ◌∷◌, ◌++◌, length, Option, Some, None, refl, sym, ap, subst, ◌∙◌, append_assoc, arith}
use Rattle.std.proofs.lemmas.Grind.{common_steps}
use Rattle.std.proofs.lemmas.List.{append-nil}
use Rattle.hay_disk.specs.Streams.{Took}
use Rattle.hay_script.specs.Script.{lines_of}
use Rattle.hay_script.specs.declared.words.TheConstants.{MAX_SCRIPT}
use Rattle.hay_legal.specs.Items.{Asked, items_of, items_from, items_before, whole_items_from, has_feed, fed_part}
use Rattle.hay_legal.specs.Statuses.{IsFront}
use Rattle.hay_lines.specs.Stream.{Held, rest_of, TookOne}
use Rattle.hay_lines.specs.Lines.{NoFeed, TookFeds, TookPart, TookOver, TookSome}
use Rattle.hay_run.specs.Items.{block_behind, TookItems, TookOpen}
use Rattle.hay_lines.proofs.Taking.{feeds_append}
use Rattle.hay_lines.proofs.Feeding.{lines_of-fed}
use Rattle.hay_run.proofs.Asking.{items_from-append, whole_items_from-append, asks_whole, fed_lines, asks_all, at_end_turn}

-- lines that end with their feeds, and whatever follows them
pub record FedBytes (texts : List (List ℕ)) (all : List ℕ) (after : Option (List ℕ)) : Type 0 where
  pub bytes : List ℕ
  pub rest : List ℕ
  pub after_is : after ≡ Some rest
  pub all_is : all ≡ bytes ++ rest
  pub lines : (more : List ℕ) → lines_of (bytes ++ more) ≡ texts ++ lines_of more
  pub fed : (part : List ℕ) → NoFeed part → fed_part (bytes ++ part) ≡ bytes

no_feed : (part : List ℕ) → NoFeed part → has_feed part ≡ false
no_feed [] free = refl
no_feed (b ∷ part) free = let others = no_feed part free.1 in let first = free.0 in grind (arith, common_steps)

fed-none : (part : List ℕ) → NoFeed part → fed_part part ≡ []
fed-none [] free = refl
fed-none (b ∷ part) free = let none = no_feed (b ∷ part) free in rw none refl

has_feed-in : (bytes x : List ℕ) → has_feed (bytes ++ 10 ∷ x) ≡ true
has_feed-in [] x = refl
has_feed-in (b ∷ bytes) x = let others = has_feed-in bytes x in grind (arith, common_steps)

fed-feed : (bytes x : List ℕ) → fed_part (bytes ++ 10 ∷ x) ≡ bytes ++ 10 ∷ fed_part x
fed-feed [] x = refl
fed-feed (b ∷ bytes) x = let some = has_feed-in (b ∷ bytes) x in rw some (ap (λ (l : List ℕ). b ∷ l) (fed-feed bytes x))

pub fed_bytes : (texts : List (List ℕ)) (all : List ℕ) (after : Option (List ℕ)) → TookFeds (Some all) texts after → FedBytes texts all after
fed_bytes [] all after h = record {
  bytes = [];
  rest = h.0;
  after_is = h.1;
  all_is = h.2;
  lines = λ more. refl;
  fed = fed-none;
}
fed_bytes (text ∷ texts) all after h =
    let first = h.1 in
    let took = first.took in
    let P : Option (List ℕ) → Type 0 = λ mid. TookFeds mid texts after in
    let others = fed_bytes texts took.0 after (subst P took.1 h.2) in
    let step : (more : List ℕ) → ((first.bytes ++ 10 ∷ []) ++ others.bytes) ++ more ≡ first.bytes ++ 10 ∷ (others.bytes ++ more) =
    λ more. append_assoc (first.bytes ++ 10 ∷ []) others.bytes more ∙ append_assoc first.bytes (10 ∷ []) (others.bytes ++ more) in
    record {
      bytes = (first.bytes ++ 10 ∷ []) ++ others.bytes;
      rest = others.rest;
      after_is = others.after_is;
      all_is = took.2 ∙ ap (λ (l : List ℕ). (first.bytes ++ 10 ∷ []) ++ l) others.all_is ∙ sym (append_assoc (first.bytes ++ 10 ∷ []) others.bytes others.rest);
      lines = λ more. ap lines_of (step more) ∙ lines_of-fed first.bytes (others.bytes ++ more) first.free
          ∙ ap (λ (t : List ℕ). t ∷ lines_of (others.bytes ++ more)) (sym first.text_is)
          ∙ ap (λ (lines : List (List ℕ)). text ∷ lines) (others.lines more);
      fed = λ part free. ap fed_part (step part) ∙ fed-feed first.bytes (others.bytes ++ part)
          ∙ ap (λ (l : List ℕ). first.bytes ++ 10 ∷ l) (others.fed part free)
          ∙ sym (append_assoc first.bytes (10 ∷ []) others.bytes);
    }

-- where nothing is held, what is left is what the source has left
pub rest_none : (left : Option (List ℕ)) (held : Held) → held.bytes ≡ [] → rest_of left held ≡ left
rest_none None held none = refl
rest_none (Some all) held none = ap (λ (bytes : List ℕ). Some (bytes ++ all)) none

-- what a source has left where some of it is held
pub held_rest : (left : Option (List ℕ)) (held : Held) (rest : List ℕ) → rest_of left held ≡ Some rest → (all : List ℕ) × (left ≡ Some all) × (rest ≡ held.bytes ++ all)
held_rest None held rest e = cc
held_rest (Some all) held rest e = let same : held.bytes ++ all ≡ rest = cc in (all, refl, sym same)

-- WHERE THE SCRIPT BREAKS OFF

-- whole lines were taken, and a part of the next one
pub record BreaksOff (script : List ℕ) (asked : List Asked) (after : Option (List ℕ)) : Type 0 where
  pub read : List ℕ
  pub rest : List ℕ
  pub after_is : after ≡ Some rest
  pub script_is : script ≡ read ++ rest
  pub items : asked ≡ items_before read

whole_open : (asked : List Asked) (number : ℕ) (texts more : List (List ℕ)) → whole_items_from 1 None texts ≡ asked → block_behind 1 None texts ≡ None → number ≡ 1 + length texts
    → whole_items_from number None more ≡ [] → asked ≡ whole_items_from 1 None (texts ++ more)
whole_open asked number texts more whole behind at nothing =
    sym (whole_items_from-append texts more 1 None ∙ rw (whole, behind, sym at, nothing) (append-nil asked))

pub breaks_off : (script : List ℕ) (asked : List Asked) (number : ℕ) (mid after : Option (List ℕ))
    → TookItems 1 None (Some script) asked number mid false → TookOpen TookPart number None mid after → BreaksOff script asked after
breaks_off script asked number mid after took broke =
    let whole = asks_whole 1 took.texts asked took.asks in
    let feeds = feeds_append took.texts broke.texts (Some script) mid broke.mid (fed_lines (Some script) mid took.texts took.lines) broke.feeds in
    let all = fed_bytes (took.texts ++ broke.texts) script broke.mid feeds in
    let P : Option (List ℕ) → Type 0 = λ m. TookPart m after in
    let last = subst P all.after_is broke.rest in
    let part = last.0 in
    let rest = last.2 in
    record {
      read = all.bytes ++ part;
      rest = rest.0;
      after_is = rest.1;
      script_is = all.all_is ∙ ap (λ (l : List ℕ). all.bytes ++ l) rest.2 ∙ sym (append_assoc all.bytes part rest.0);
      items = whole_open asked number took.texts broke.texts whole.0 whole.1 took.next_is broke.nothing
          ∙ ap (λ (lines : List (List ℕ)). whole_items_from 1 None lines) (sym (append-nil (took.texts ++ broke.texts)) ∙ sym (all.lines []))
          ∙ ap (λ (l : List ℕ). whole_items_from 1 None (lines_of l)) (append-nil all.bytes ∙ sym (all.fed part last.1));
    }

-- A FRONT OF A SCRIPT

-- these bytes of a script were read, and what was answered are the first of their items, and of the script's
pub record ReadsFront (script : List ℕ) (asked : List Asked) (left : Option (List ℕ)) : Type 0 where
  pub read : List ℕ
  pub rest : List ℕ
  pub left_is : left ≡ Some rest
  pub script_is : script ≡ read ++ rest
  pub front : IsFront asked (items_of read)
  pub whole : IsFront asked (items_of script)

items_front : (texts : List (List ℕ)) (asked : List Asked) (bytes more : List ℕ) → whole_items_from 1 None texts ≡ asked → block_behind 1 None texts ≡ None
    → lines_of (bytes ++ more) ≡ texts ++ lines_of more → IsFront asked (items_of (bytes ++ more))
items_front texts asked bytes more whole behind lines = (
  items_from (1 + length texts) None (lines_of more),
  ap (λ (l : List (List ℕ)). items_from 1 None l) lines ∙ items_from-append texts (lines_of more) 1 None ∙ rw (whole, behind) refl,
)

pub front_some : (script : List ℕ) (asked : List Asked) (number : ℕ) (mid left : Option (List ℕ)) (held : Held)
    → TookItems 1 None (Some script) asked number mid false → TookSome mid (rest_of left held) → ReadsFront script asked left
front_some script asked number mid left held took some =
    let whole = asks_whole 1 took.texts asked took.asks in
    let all = fed_bytes took.texts script mid (fed_lines (Some script) mid took.texts took.lines) in
    let P : Option (List ℕ) → Type 0 = λ m. Took m some.0 (rest_of left held) in
    let piece = some.0 in
    let last = subst P all.after_is some.1 in
    let behind = held_rest left held last.0 last.1 in
    record {
      read = all.bytes ++ (piece ++ held.bytes);
      rest = behind.0;
      left_is = behind.1;
      script_is = all.all_is ∙ ap (λ (l : List ℕ). all.bytes ++ l) (last.2 ∙ ap (λ (l : List ℕ). piece ++ l) behind.2 ∙ sym (append_assoc piece held.bytes behind.0))
          ∙ sym (append_assoc all.bytes (piece ++ held.bytes) behind.0);
      front = items_front took.texts asked all.bytes (piece ++ held.bytes) whole.0 whole.1 (all.lines (piece ++ held.bytes));
      whole = subst (λ (bytes : List ℕ). IsFront asked (items_of bytes)) (sym all.all_is) (items_front took.texts asked all.bytes all.rest whole.0 whole.1 (all.lines all.rest));
    }

last_of_none : (a b : List ℕ) → [] ≡ a ++ b → b ≡ []
last_of_none [] b e = sym e
last_of_none (x ∷ a) b e = cc

front_fed : (script : List ℕ) (asked : List Asked) (texts : List (List ℕ)) (left : Option (List ℕ)) (held : Held)
    → TookFeds (Some script) texts (rest_of left held) → whole_items_from 1 None texts ≡ asked → block_behind 1 None texts ≡ None → ReadsFront script asked left
front_fed script asked texts left held feeds whole behind_is =
    let all = fed_bytes texts script (rest_of left held) feeds in
    let behind = held_rest left held all.rest all.after_is in
    record {
      read = all.bytes ++ held.bytes;
      rest = behind.0;
      left_is = behind.1;
      script_is = all.all_is ∙ ap (λ (l : List ℕ). all.bytes ++ l) behind.2 ∙ sym (append_assoc all.bytes held.bytes behind.0);
      front = items_front texts asked all.bytes held.bytes whole behind_is (all.lines held.bytes);
      whole = subst (λ (bytes : List ℕ). IsFront asked (items_of bytes)) (sym all.all_is) (items_front texts asked all.bytes all.rest whole behind_is (all.lines all.rest));
    }

pub front_read : (script : List ℕ) (asked : List Asked) (number : ℕ) (left : Option (List ℕ)) (held : Held) (ended : Bool)
    → TookItems 1 None (Some script) asked number (rest_of left held) ended → ReadsFront script asked left
front_read script asked number left held false took =
    let whole = asks_whole 1 took.texts asked took.asks in
    front_fed script asked took.texts left held (fed_lines (Some script) (rest_of left held) took.texts took.lines) whole.0 whole.1
front_read script asked number left held true took =
    let over = at_end_turn 1 number (Some script) (rest_of left held) asked true took refl in
    let behind = held_rest left held [] over in
    let all : asked ≡ items_of script = asks_all number (Some script) (rest_of left held) asked true took refl in
    let none : behind.0 ≡ [] = last_of_none held.bytes behind.0 behind.2 in
    record {
      read = script;
      rest = [];
      left_is = behind.1 ∙ ap (λ (l : List ℕ). Some l) none;
      script_is = sym (append-nil script);
      front = ([], sym all ∙ sym (append-nil asked));
      whole = ([], sym all ∙ sym (append-nil asked));
    }

-- WHERE A SCRIPT IS TOO LONG

-- whole lines were taken, a part of the next one, and one byte more
pub record GoesOver (script : List ℕ) (asked : List Asked) (after : Option (List ℕ)) : Type 0 where
  pub read : List ℕ
  pub byte : ℕ
  pub rest : List ℕ
  pub after_is : after ≡ Some rest
  pub script_is : script ≡ read ++ byte ∷ rest
  pub items : asked ≡ items_before read

one_byte : (piece : List ℕ) → length piece ≡ 1 → (byte : ℕ) × (piece ≡ byte ∷ [])
one_byte [] e = absurd (omega (arith, e))
one_byte (b ∷ []) e = (b, refl)
one_byte (b ∷ c ∷ piece) e = absurd (omega (arith, e))

pub over_part : (script : List ℕ) (asked : List Asked) (number : ℕ) (mid after : Option (List ℕ))
    → TookItems 1 None (Some script) asked number mid false → TookOpen TookOver number None mid after → GoesOver script asked after
over_part script asked number mid after took broke =
    let between = broke.rest.0 in
    let off = breaks_off script asked number mid between took (record { texts = broke.texts; mid = broke.mid; feeds = broke.feeds; nothing = broke.nothing; rest = broke.rest.1 }) in
    let P : Option (List ℕ) → Type 0 = λ m. TookOne m after in
    let one = subst P off.after_is broke.rest.2 in
    let byte = one_byte one.0 one.1 in
    let took_one = one.2 in
    record {
      read = off.read;
      byte = byte.0;
      rest = took_one.0;
      after_is = took_one.1;
      script_is = off.script_is ∙ ap (λ (l : List ℕ). off.read ++ l) (took_one.2 ∙ ap (λ (l : List ℕ). l ++ took_one.0) byte.1);
      items = off.items;
    }
