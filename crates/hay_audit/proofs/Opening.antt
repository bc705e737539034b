-- Which items are open, and where lines begin.
use Rattle.std.proofs.Common.{◌≡◌, ◌≢◌, ℕ, zero, suc, ◌+◌, ◌<◌, ◌≤◌, Bool, true, false, List, [], ◌∷◌, ◌++◌, length, take, drop, Option, Some, None, refl, sym, ap, subst, ◌∙◌}
use Rattle.std.proofs.Common.{◌⊎◌, inl, inr, arith, codes, decimal, append_assoc}
use Rattle.std.specs.Prelude.{not, ◌==◌, ◌^◌, Contains, flat_map, slice_get, slice_index_or}
use Rattle.std.specs.List.{AllByRecursion as Each, list_all, onto_first}
use Rattle.std.proofs.lemmas.Bool.{and_parts, cases_Bool, cases_lt}
use Rattle.std.proofs.lemmas.Bool.Decides.{Decides-eqb}
use Rattle.std.proofs.lemmas.List.Splits.{slice_split-cons_yes, slice_split-cons_no}
use Rattle.hay_reply.specs.declared.Note.{Note}
use Rattle.hay_reply.specs.declared.Reply.{Reply}
use Rattle.hay_reply.specs.declared.Reply.TheVariants as reply
use Rattle.hay_reply.specs.Reading.{is_mark}
use Rattle.hay_reply.specs.Replies.{note_line, note_text, numbered_line, reply_text}
use Rattle.hay_legal.specs.declared.turn.Item.{Item}
use Rattle.hay_legal.specs.declared.turn.Item.TheVariants as item
use Rattle.hay_legal.specs.Items.{Asked}
use Rattle.hay_legal.specs.Items.Asked.{Alone, Block}
use Rattle.hay_audit_steps.specs.Judged.{AreBeforeOpen, IsOpenItem, lines_in}
use Rattle.hay_audit_steps.proofs.Feeds.{Fine, large, line_text, on}
use Rattle.hay_audit.specs.Candidates.{IsLineStart}
use Rattle.hay_audit.specs.Wants.{wanting_text}

-- THE FIRST OPEN ITEM

same_list : (xs ys : List ℕ) → (xs ≡ ys) ⊎ (xs ≢ ys)
same_list [] [] = inl refl
same_list [] (y ∷ ys) = inr (λ e. absurd cc)
same_list (x ∷ xs) [] = inr (λ e. absurd cc)
same_list (x ∷ xs) (y ∷ ys) = elim (cases_Bool (x == y)) [
  | inl same ↦ elim (same_list xs ys) [
    | inl rest ↦ inl (let first : x ≡ y = (Decides-eqb x y).0 same in cc)
    | inr other ↦ inr (λ e. other (let rest : xs ≡ ys = cc in rest))
  ]
  | inr other ↦ inr (λ e. let first : x ≡ y = cc in let yes_so : (x == y) ≡ true = (Decides-eqb x y).1 first in let lie : false ≡ true = sym other ∙ yes_so in absurd cc)
]

pub there : {X : Type 0} (f : X) (more : List X) (x : X) → Contains more x → Contains (f ∷ more) x
there f more x h = (suc h.0, omega (arith, h.1), h.2)

pub first_or : {X : Type 0} (f : X) (more : List X) (x : X) → Contains (f ∷ more) x → (f ≡ x) ⊎ Contains more x
first_or f more x (zero, less, e) = inl e
first_or f more x (suc k, less, e) = inr (k, omega (arith, less), e)

is_there : (lines : List (List ℕ)) (text : List ℕ) → Contains lines text ⊎ (Contains lines text → ⊥)
is_there [] text = inr (λ h. omega (arith, h.1))
is_there (line ∷ lines) text = elim (same_list line text) [
  | inl same ↦ inl (zero, omega arith, same)
  | inr other ↦ elim (is_there lines text) [ inl more ↦ inl (there line lines text more) | inr none ↦ inr (λ h. elim (first_or line lines text h) [ inl same ↦ other same | inr more ↦ none more ]) ]
]

open_or : (transcript : List ℕ) (asked : Asked) → IsOpenItem transcript asked ⊎ (IsOpenItem transcript asked → ⊥)
open_or transcript (Alone line (item.Command command)) = is_there (lines_in transcript) (wanting_text line)
open_or transcript (Alone line item.Bad) = inr (λ h. h)
open_or transcript (Block lines) = inl tt

pub open_exists : (transcript : List ℕ) (items : List Asked) → (n : ℕ) × AreBeforeOpen items transcript n
open_exists transcript [] = (0, record { judged = tt; next = inl refl })
open_exists transcript (asked ∷ items) = elim (open_or transcript asked) [
  | inl is ↦ (0, record { judged = tt; next = inr (asked, refl, is) })
  | inr shut ↦
      let rest = open_exists transcript items in (
        suc rest.0,
        record {
          judged = (shut, (rest.1).judged);
          next = elim (rest.1).next [ inl all ↦ inl (ap suc all) | inr next ↦ inr (next.0, next.1, next.2) ];
        },
      )
]

shut_there : (transcript : List ℕ) (xs ys : List Asked) (n : ℕ) (asked : Asked) → Each (λ x. IsOpenItem transcript x → ⊥) xs → n < length xs → slice_get (xs ++ ys) n ≡ Some asked
    → IsOpenItem transcript asked → ⊥
shut_there transcript [] ys n asked h less at is = omega (arith, less)
shut_there transcript (x ∷ xs) ys zero asked h less at is = h.0 (subst (λ (y : Asked). IsOpenItem transcript y) (let e : Some asked ≡ Some x = sym at in cc) is)
shut_there transcript (x ∷ xs) ys (suc n) asked h less at is = shut_there transcript xs ys n asked h.1 (omega (arith, less)) at is

long_on : (xs ys : List Asked) → length (xs ++ ys) ≡ length xs + length ys
long_on [] ys = omega arith
long_on (x ∷ xs) ys = omega (arith, long_on xs ys)

-- where the first items are not open, as many come before the first open one
pub shut_before : (transcript : List ℕ) (items xs ys : List Asked) (n : ℕ) → items ≡ xs ++ ys → Each (λ x. IsOpenItem transcript x → ⊥) xs → AreBeforeOpen items transcript n → length xs ≤ n
shut_before transcript items xs ys n parts shut before = elim (cases_lt n (length xs)) [
  | inl less ↦ elim before.next [
    | inl all ↦ omega (arith, less, all, ap (λ (zs : List Asked). length zs) parts, long_on xs ys)
    | inr next ↦ absurd (shut_there transcript xs ys n next.0 shut less (sym (ap (λ (zs : List Asked). slice_get zs n) parts) ∙ next.1) next.2)
  ]
  | inr more ↦ more
]

-- LINES

no_feed : (b : ℕ) → not (is_mark 10 b) ≡ true → (b == 10) ≡ false
no_feed b e = by_test (b == 10) e
  where
    by_test : (t : Bool) → not t ≡ true → t ≡ false
    by_test true g = absurd cc
    by_test false g = refl

fine_line : (text rest : List ℕ) → Fine text → lines_in (text ++ 10 ∷ rest) ≡ text ∷ lines_in rest
fine_line [] rest h = slice_split-cons_yes (λ c. c == 10) 10 rest refl
fine_line (b ∷ text) rest h =
    let parts = and_parts (not (is_mark 10 b)) (list_all (λ c. not (is_mark 10 c)) text) h in
    slice_split-cons_no (λ c. c == 10) b (text ++ 10 ∷ rest) (no_feed b parts.0) ∙ ap (λ (lines : List (List ℕ)). onto_first b lines) (fine_line text rest parts.1)

record IsLater (text : List ℕ) (lines : List (List ℕ)) : Type 0 where
  first : List ℕ
  more : List (List ℕ)
  parts : lines ≡ first ∷ more
  has : Contains more text

behind_feed : (front back text : List ℕ) → Contains (lines_in back) text → IsLater text (lines_in (front ++ 10 ∷ back))
behind_feed [] back text h = record { first = []; more = lines_in back; parts = slice_split-cons_yes (λ c. c == 10) 10 back refl; has = h }
behind_feed (b ∷ front) back text h =
    let rest = behind_feed front back text h in
    elim (cases_Bool (b == 10)) [
      | inl feed ↦ record {
        first = [];
        more = rest.first ∷ rest.more;
        parts = slice_split-cons_yes (λ c. c == 10) b (front ++ 10 ∷ back) feed ∙ ap (λ (lines : List (List ℕ)). [] ∷ lines) rest.parts;
        has = there rest.first rest.more text rest.has;
      }
      | inr other ↦ record {
        first = b ∷ rest.first;
        more = rest.more;
        parts = slice_split-cons_no (λ c. c == 10) b (front ++ 10 ∷ back) other ∙ ap (λ (lines : List (List ℕ)). onto_first b lines) rest.parts;
        has = rest.has;
      }
    ]

wanting_fine : (line : ℕ) → line < 2 ^ 64 → Fine (wanting_text line)
wanting_fine line h = on (decimal line) (32 ∷ reply_text reply.NoMem) (large line h) refl

-- a reply of this kind, at the front of what is left behind whole lines, makes its command open
pub no_mem_is_open : (transcript back rest : List ℕ) (line at : ℕ) (r : Reply) → line < 2 ^ 64 → IsLineStart transcript at → back ≡ drop at transcript
    → numbered_line line r ++ rest ≡ back → r ≡ reply.NoMem → Contains (lines_in transcript) (wanting_text line)
no_mem_is_open transcript back rest line at r small start is e wants =
    let text : back ≡ wanting_text line ++ 10 ∷ rest =
    sym e ∙ ap (λ (x : Reply). numbered_line line x ++ rest) wants ∙ line_text line reply.NoMem rest ∙ append_assoc (decimal line) (codes " ") (reply_text reply.NoMem ++ 10 ∷ rest)
    ∙ sym (append_assoc (decimal line) (32 ∷ reply_text reply.NoMem) (10 ∷ rest)) in
    let here : Contains (lines_in back) (wanting_text line) =
    subst (λ (lines : List (List ℕ)). Contains lines (wanting_text line)) (sym (ap (λ (xs : List ℕ). lines_in xs) text
    ∙ fine_line (wanting_text line) rest (wanting_fine line small))) (zero, omega arith, refl) in
    let later = behind_feed start.0 back (wanting_text line) here in
    subst (λ (lines : List (List ℕ)). Contains lines (wanting_text line)) (sym (ap (λ (xs : List ℕ). lines_in xs) (start.1 ∙ ap (λ (xs : List ℕ). start.0 ++ 10 ∷ xs) (sym is)) ∙ later.parts))
    (there later.first later.more (wanting_text line) later.has)

-- a line begins behind a reply, and behind notes
feeds_on : (transcript front text rest : List ℕ) → transcript ≡ front ++ 10 ∷ (text ++ 10 ∷ rest) → (ahead : List ℕ) × (transcript ≡ ahead ++ 10 ∷ rest)
feeds_on transcript front text rest e = (front ++ 10 ∷ text, e ∙ sym (append_assoc front (10 ∷ text) (10 ∷ rest)))

pub reply_starts : (transcript back : List ℕ) (line at behind : ℕ) (r : Reply) → IsLineStart transcript at → back ≡ drop at transcript → numbered_line line r ++ drop behind back ≡ back
    → (ahead : List ℕ) × (transcript ≡ ahead ++ 10 ∷ drop behind back)
reply_starts transcript back line at behind r start is e =
    feeds_on transcript start.0 ((decimal line ++ codes " ") ++ reply_text r) (drop behind back)
    (start.1 ∙ ap (λ (xs : List ℕ). start.0 ++ 10 ∷ xs) (sym is ∙ sym e ∙ line_text line r (drop behind back) ∙ sym (append_assoc (decimal line ++ codes " ") (reply_text r) (10 ∷ drop behind back))))
