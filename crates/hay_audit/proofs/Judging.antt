-- What candidates tell of a script and a transcript.
use Rattle.std.proofs.Common.{◌≡◌, ◌≢◌, ℕ, ◌+◌, ◌<◌, List, [], ◌∷◌, ◌++◌, length, take, Option, Some, None, refl, sym, ap, subst, ◌∙◌, ◌⊎◌, inl, inr, arith, append_assoc}
use Rattle.std.proofs.Common.{append-nil as append_nil}
use Rattle.std.specs.Prelude.{map, slice_get}
use Rattle.std.specs.List.{AllByRecursion as Each}
use Rattle.hay_needle.specs.declared.settings.Settings.{Settings}
use Rattle.hay_script.specs.Script.{line_of, lines_of}
use Rattle.hay_reply.specs.declared.Reply.{Reply}
use Rattle.hay_reply.specs.declared.Reply.TheVariants as reply
use Rattle.hay_reply.specs.Fits.{FitsReply}
use Rattle.hay_reply.specs.Replies.{numbered_line}
use Rattle.hay_legal.specs.declared.turn.Item.{Item}
use Rattle.hay_legal.specs.declared.turn.Item.TheVariants as item
use Rattle.hay_legal.specs.Items.{Asked, items_from, items_of, outside}
use Rattle.hay_legal.specs.Items.Asked.{Alone}
use Rattle.hay_audit_steps.specs.BoxPlain.{IsBoxOf, box_plain}
use Rattle.hay_audit_steps.specs.Boxes.{Box, Has, IsBoxStep}
use Rattle.hay_audit_steps.specs.Judged.{AreBeforeOpen, Begins, HasOtherHeader, IsAny, IsOpenItem, IsUsed, JudgementOf}
use Rattle.hay_audit_steps.specs.Judged.Judgement.{Lawful, Open, Unlawful}
use Rattle.hay_audit_steps.specs.Reached.{AllAdvance, Candidate, IsAdvance, IsNoRestart, Reached, candidate}
use Rattle.hay_audit_steps.specs.CheckerSteps.{plain_row}
use Rattle.hay_audit_steps.proofs.Advancing.{lines_advance, unread_lines_end}
use Rattle.hay_audit_steps.proofs.BoxPlains.{boxes_stand_for_states, plain_lines_keep_boxes, plain_lines_step_boxes}
use Rattle.hay_audit_steps.proofs.Judging.{candidates_judge, other_headers_are_unlawful}
use Rattle.hay_audit_steps.proofs.Laying.{any_left, any_right, each_both}
use Rattle.hay_audit_steps.proofs.Loop.{advance_none, reached_more, reached_none}
use Rattle.hay_audit.specs.Behind.{IsBehind}
use Rattle.hay_audit.specs.Outside.{IsWithinAsked, IsWithinItem}
use Rattle.hay_audit.proofs.Opening.{open_exists, shut_before}

-- ONE CANDIDATE

-- want of memory is told of a line that is no command alone
abbrev pub IsTold : Item → Reply → Type 0
IsTold asked r = r ≡ reply.NoMem → asked ≡ item.Bad

wants_or : (r : Reply) → (r ≡ reply.NoMem) ⊎ (r ≢ reply.NoMem)
wants_or reply.NoMem = inl refl
wants_or r = inr (λ e. absurd cc)

bad_steps : (settings : Settings) (box : Box) (line : ℕ) (asked : Item) (r : Reply) → asked ≡ item.Bad → r ≡ reply.NoMem
    → IsBoxStep (plain_row settings line asked r) box (box_plain settings line asked r box) × Each (IsBoxOf settings) (box_plain settings line asked r box)
bad_steps settings box line asked r is wants =
    subst (λ (i : Item). IsBoxStep (plain_row settings line i r) box (box_plain settings line i r box) × Each (IsBoxOf settings) (box_plain settings line i r box)) (sym is)
    (subst (λ (x : Reply). IsBoxStep (plain_row settings line item.Bad x) box (box_plain settings line item.Bad x box) × Each (IsBoxOf settings) (box_plain settings line item.Bad x box)) (sym wants)
    (record { sound = tt; complete = λ k faults arms fuses t has f a row. absurd (let lie : reply.NoMem ≡ reply.BadLine = row.0 in cc) }, tt))

line_steps : (settings : Settings) (box : Box) (line : ℕ) (asked : Item) (r : Reply) → IsTold asked r → IsBoxOf settings box
    → IsBoxStep (plain_row settings line asked r) box (box_plain settings line asked r box) × Each (IsBoxOf settings) (box_plain settings line asked r box)
line_steps settings box line asked r told is = elim (wants_or r) [
  | inl wants ↦ bad_steps settings box line asked r (told wants) wants
  | inr other ↦ (plain_lines_step_boxes settings box line asked r other is, plain_lines_keep_boxes settings box line asked r other is)
]

-- the boxes behind a line advance a candidate, behind the text of its reply
pub line_advances : (settings : Settings) (line : ℕ) (asked : Item) (box : Box) (r : Reply) (text rest : List ℕ) (next : List Box) → IsNoRestart asked → FitsReply r
    → IsTold asked r → IsBoxOf settings box
    → next ≡ box_plain settings line asked r box → numbered_line line r ++ rest ≡ text
    → IsAdvance Has settings (Alone line asked) (candidate text box) (map (candidate rest) next)
line_advances settings line asked box r text rest next plain fits told of is e =
    subst (λ (t : List ℕ). IsAdvance Has settings (Alone line asked) (candidate t box) (map (candidate rest) next)) e
    (lines_advance Has settings box line asked r rest next plain fits
    (subst (λ (ds : List Box). IsBoxStep (plain_row settings line asked r) box ds) (sym is) (line_steps settings box line asked r told of).0))

pub lines_keep : (settings : Settings) (line : ℕ) (asked : Item) (box : Box) (r : Reply) (next : List Box) → IsTold asked r → IsBoxOf settings box
    → next ≡ box_plain settings line asked r box → Each (IsBoxOf settings) next
lines_keep settings line asked box r next told of is = subst (λ (ds : List Box). Each (IsBoxOf settings) ds) (sym is) (line_steps settings box line asked r told of).1

pub unread_ends : (settings : Settings) (line : ℕ) (asked : Item) (c : Candidate Box) → ((r : Reply) (rest : List ℕ) → FitsReply r → numbered_line line r ++ rest ≢ c.rest)
    → IsAdvance Has settings (Alone line asked) c []
unread_ends settings line asked c none = unread_lines_end Has settings c line asked none

-- ALL CANDIDATES

pub none_advance : (settings : Settings) (asked : Asked) → AllAdvance Has settings asked [] []
none_advance settings asked = advance_none Has settings asked

each_on : (P Q : Candidate Box → Type 0) (ds : List (Candidate Box)) → ((d : Candidate Box) → P d → Q d) → Each P ds → Each Q ds
each_on P Q [] step h = tt
each_on P Q (d ∷ ds) step h = (step d h.0, each_on P Q ds step h.1)

pub one_more_advances : (settings : Settings) (asked : Asked) (cs : List (Candidate Box)) (c : Candidate Box) (next more : List (Candidate Box))
    → AllAdvance Has settings asked cs next → IsAdvance Has settings asked c more → AllAdvance Has settings asked (cs ++ c ∷ []) (next ++ more)
one_more_advances settings asked cs c next more all one = record {
  sound = each_both _ next more
      (each_on _ _ next (λ d h t has. any_left _ cs (c ∷ []) (h t has)) all.sound)
      (each_on _ _ more (λ d h t has. any_right _ cs (c ∷ []) (inl (h t has))) one.sound);
  complete = each_both _ cs (c ∷ [])
      (each_on _ _ cs (λ d h b faults arms fuses turn t rest' has f a leads. any_left _ next more (h b faults arms fuses turn t rest' has f a leads)) all.complete)
      ((λ b faults arms fuses turn t rest' has f a leads. any_right _ next more (one.complete b faults arms fuses turn t rest' has f a leads)), tt);
}

-- THE ITEMS SO FAR

pub begin : (settings : Settings) (script transcript : List ℕ) (c : Candidate Box) → Begins Has settings transcript c → IsBoxOf settings c.state
    → IsBehind settings script transcript c (c ∷ []) 1 0 script
begin settings script transcript c begins of = record {
  items = [];
  parts = refl;
  count = refl;
  shut = tt;
  within = tt;
  begins = begins;
  reached = reached_none Has settings c;
  some = inl (boxes_stand_for_states settings c.state of);
}

line_items : (number : ℕ) (left text behind : List ℕ) → lines_of left ≡ text ∷ lines_of behind
    → items_from number None (lines_of left) ≡ (outside number (line_of None text)).0 ++ items_from (number + 1) (outside number (line_of None text)).1 (lines_of behind)
line_items number left text behind e = ap (λ (ls : List (List ℕ)). items_from number None ls) e

-- a line that asks for nothing
pub skipped : (settings : Settings) (script transcript : List ℕ) (c : Candidate Box) (cs : List (Candidate Box)) (number turns : ℕ) (left text behind : List ℕ)
    → IsBehind settings script transcript c cs number turns left → lines_of left ≡ text ∷ lines_of behind → outside number (line_of None text) ≡ ([], None)
    → IsBehind settings script transcript c cs (number + 1) turns behind
skipped settings script transcript c cs number turns left text behind h lines nothing = record {
  items = h.items;
  parts =
      h.parts ∙ ap (λ (xs : List Asked). h.items ++ xs) (line_items number left text behind lines ∙ ap (λ (o : List Asked × Option _). o.0 ++ items_from (number + 1) o.1 (lines_of behind)) nothing);
  count = h.count;
  shut = h.shut;
  within = h.within;
  begins = h.begins;
  reached = h.reached;
  some = h.some;
}

-- a line that asks for an item
abbrev pub Asks : ℕ → List ℕ → Item → Type 0
Asks number text asked = outside number (line_of None text) ≡ (Alone number asked ∷ [], None)

pub with_item : (settings : Settings) (script transcript : List ℕ) (c : Candidate Box) (cs : List (Candidate Box)) (number turns : ℕ) (left text behind : List ℕ) (asked : Item)
    → (h : IsBehind settings script transcript c cs number turns left) → lines_of left ≡ text ∷ lines_of behind → Asks number text asked
    → items_of script ≡ (h.items ++ Alone number asked ∷ []) ++ items_from (number + 1) None (lines_of behind)
with_item settings script transcript c cs number turns left text behind asked h lines asks =
    h.parts
    ∙ ap (λ (xs : List Asked). h.items ++ xs) (line_items number left text behind lines ∙ ap (λ (o : List Asked × Option _). o.0 ++ items_from (number + 1) o.1 (lines_of behind)) asks)
    ∙ sym (append_assoc h.items (Alone number asked ∷ []) (items_from (number + 1) None (lines_of behind)))

length_more : (xs : List Asked) (x : Asked) → length (xs ++ x ∷ []) ≡ length xs + 1
length_more [] x = omega arith
length_more (y ∷ xs) x = omega (arith, length_more xs x)

each_one_more : (P : Asked → Type 0) (xs : List Asked) (x : Asked) → Each P xs → P x → Each P (xs ++ x ∷ [])
each_one_more P [] x h g = (g, tt)
each_one_more P (y ∷ xs) x h g = (h.0, each_one_more P xs x h.1 g)

pub goes_on : (settings : Settings) (script transcript : List ℕ) (c : Candidate Box) (cs next : List (Candidate Box)) (number turns : ℕ) (left text behind : List ℕ) (asked : Item)
    → IsBehind settings script transcript c cs number turns left → lines_of left ≡ text ∷ lines_of behind → Asks number text asked
    → (IsOpenItem transcript (Alone number asked) → ⊥) → IsWithinItem asked → AllAdvance Has settings (Alone number asked) cs next → IsAny Has next
    → IsBehind settings script transcript c next (number + 1) (turns + 1) behind
goes_on settings script transcript c cs next number turns left text behind asked h lines asks shut within advance some = record {
  items = h.items ++ Alone number asked ∷ [];
  parts = with_item settings script transcript c cs number turns left text behind asked h lines asks;
  count = omega (arith, h.count, length_more h.items (Alone number asked));
  shut = each_one_more (λ x. IsOpenItem transcript x → ⊥) h.items (Alone number asked) h.shut shut;
  within = each_one_more IsWithinAsked h.items (Alone number asked) h.within within;
  begins = h.begins;
  reached = reached_more Has settings h.items (Alone number asked) c cs next h.reached advance;
  some = some;
}

-- WHAT IS TOLD

take_front : (xs ys : List Asked) → take (length xs) (xs ++ ys) ≡ xs
take_front [] ys = refl
take_front (x ∷ xs) ys = ap (λ (zs : List Asked). x ∷ zs) (take_front xs ys)

pub front_of : (script : List ℕ) (items rest : List Asked) (n : ℕ) → items_of script ≡ items ++ rest → n ≡ length items → take n (items_of script) ≡ items
front_of script items rest n parts count = ap (λ (xs : List Asked). take n xs) parts ∙ ap (λ (m : ℕ). take m (items ++ rest)) count ∙ take_front items rest

all_items : (script : List ℕ) (items : List Asked) (number : ℕ) → items_of script ≡ items ++ items_from number None (lines_of []) → items_of script ≡ items
all_items script items number parts = parts ∙ append_nil items

-- behind all lines no item is open
all_shut : (settings : Settings) (script transcript : List ℕ) (c : Candidate Box) (cs : List (Candidate Box)) (number turns : ℕ) → (h : IsBehind settings script transcript c cs number turns [])
    → AreBeforeOpen (items_of script) transcript turns × (turns ≡ length (items_of script)) × Reached Has settings (items_of script) c cs
all_shut settings script transcript c cs number turns h =
    let all = all_items script h.items number h.parts in
    let many : turns ≡ length (items_of script) = h.count ∙ ap (λ (xs : List Asked). length xs) (sym all) in (
      record {
        judged = subst (λ (xs : List Asked). Each (λ x. IsOpenItem transcript x → ⊥) xs) (sym (front_of script h.items (items_from number None (lines_of [])) turns h.parts h.count)) h.shut;
        next = inl many;
      },
      many,
      subst (λ (xs : List Asked). Reached Has settings xs c cs) (sym all) h.reached,
    )

pub is_lawful : (settings : Settings) (script transcript : List ℕ) (c : Candidate Box) (cs : List (Candidate Box)) (number turns : ℕ)
    → IsBehind settings script transcript c cs number turns [] → IsUsed Has cs → JudgementOf settings script transcript (Lawful turns)
is_lawful settings script transcript c cs number turns h used =
    let all = all_shut settings script transcript c cs number turns h in
    candidates_judge Has settings script transcript c turns (Lawful turns) h.begins all.0 (refl, all.1, cs, all.2, used)

pub is_unlawful_behind : (settings : Settings) (script transcript : List ℕ) (c : Candidate Box) (cs : List (Candidate Box)) (number turns : ℕ)
    → IsBehind settings script transcript c cs number turns [] → (IsUsed Has cs → ⊥) → JudgementOf settings script transcript (Unlawful turns)
is_unlawful_behind settings script transcript c cs number turns h unused =
    let all = all_shut settings script transcript c cs number turns h in
    candidates_judge Has settings script transcript c turns (Unlawful turns) h.begins all.0 (inr (refl, all.1, cs, all.2, h.some, unused))

-- no candidate comes behind an item that is not open
pub is_unlawful : (settings : Settings) (script transcript : List ℕ) (c : Candidate Box) (cs : List (Candidate Box)) (number turns : ℕ) (left text behind : List ℕ) (asked : Item)
    → IsBehind settings script transcript c cs number turns left → lines_of left ≡ text ∷ lines_of behind → Asks number text asked
    → (IsOpenItem transcript (Alone number asked) → ⊥) → AllAdvance Has settings (Alone number asked) cs []
    → JudgementOf settings script transcript (Unlawful turns)
is_unlawful settings script transcript c cs number turns left text behind asked h lines asks shut advance =
    let parts = with_item settings script transcript c cs number turns left text behind asked h lines asks in
    let more = reached_more Has settings h.items (Alone number asked) c cs [] h.reached advance in
    let count : turns + 1 ≡ length (h.items ++ Alone number asked ∷ []) = omega (arith, h.count, length_more h.items (Alone number asked)) in
    let before = open_exists transcript (items_of script) in
    let less = shut_before transcript (items_of script) (h.items ++ Alone number asked ∷ []) (items_from (number + 1) None (lines_of behind)) before.0 parts
    (each_one_more (λ x. IsOpenItem transcript x → ⊥) h.items (Alone number asked) h.shut shut) before.1 in
    candidates_judge Has settings script transcript c before.0 (Unlawful turns) h.begins before.1 (inl (
      omega (arith, less, count),
      cs,
      subst (λ (xs : List Asked). Reached Has settings xs c cs) (sym (front_of script h.items (items_from number None (lines_of left)) turns h.parts h.count)) h.reached,
      h.some,
      [],
      subst (λ (xs : List Asked). Reached Has settings xs c []) (sym (front_of script (h.items ++ Alone number asked ∷ []) (items_from (number + 1) None (lines_of behind))
          (turns + 1) parts count)) more,
      (λ lie. lie),
    ))

next_at : (items : List Asked) (asked : Asked) (rest : List Asked) → slice_get (items ++ asked ∷ rest) (length items) ≡ Some asked
next_at [] asked rest = refl
next_at (x ∷ items) asked rest = next_at items asked rest

long_more : (xs ys : List Asked) (y : Asked) → length xs < length (xs ++ y ∷ ys)
long_more [] ys y = omega arith
long_more (x ∷ xs) ys y = omega (arith, long_more xs ys y)

-- the next item is open
pub is_open : (settings : Settings) (script transcript : List ℕ) (c : Candidate Box) (cs : List (Candidate Box)) (number turns : ℕ) (left : List ℕ) (asked : Asked) (rest : List Asked)
    → IsBehind settings script transcript c cs number turns left → items_from number None (lines_of left) ≡ asked ∷ rest → IsOpenItem transcript asked
    → JudgementOf settings script transcript (Open turns)
is_open settings script transcript c cs number turns left asked rest h next opened =
    let parts : items_of script ≡ h.items ++ asked ∷ rest = h.parts ∙ ap (λ (xs : List Asked). h.items ++ xs) next in
    let front : take turns (items_of script) ≡ h.items = front_of script h.items (asked ∷ rest) turns parts h.count in
    candidates_judge Has settings script transcript c turns (Open turns) h.begins
    (record {
      judged = subst (λ (xs : List Asked). Each (λ x. IsOpenItem transcript x → ⊥) xs) (sym front) h.shut;
      next = inr (asked, ap (λ (n : ℕ). slice_get (items_of script) n) h.count ∙ ap (λ (xs : List Asked). slice_get xs (length h.items)) parts ∙ next_at h.items asked rest, opened);
    }) (
      refl,
      subst (λ (xs : List Asked). turns < length xs) (sym parts) (omega (arith, h.count, long_more h.items rest asked)),
      cs,
      subst (λ (xs : List Asked). Reached Has settings xs c cs) (sym front) h.reached,
      h.some,
    )

pub other_header_is_unlawful : (settings : Settings) (script transcript : List ℕ) → HasOtherHeader settings transcript → JudgementOf settings script transcript (Unlawful 0)
other_header_is_unlawful settings script transcript other =
    let before = open_exists transcript (items_of script) in other_headers_are_unlawful settings script transcript before.0 before.1 other
