-- The reply of a line, at the front of a text.
use Rattle.std.proofs.Common.{◌≡◌, ◌≢◌, ℕ, suc, ◌+◌, ◌-◌, ◌<◌, true, false, List, [], ◌∷◌, ◌++◌, length, take, drop, Option, Some, None, refl, sym, ap, subst, ◌∙◌, ◌⊎◌, inl, inr}
use Rattle.std.proofs.Common.{arith, codes, decimal, append_assoc}
use Rattle.std.specs.Prelude.{not, ◌==◌, option_map}
use Rattle.std.specs.List.{list_all}
use Rattle.std.proofs.lemmas.Bool.{cases_Bool, cond-true, cond-false, eqb-true, and_from}
use Rattle.std.proofs.lemmas.List.{length-drop, take_all}
use Rattle.hay_reply.specs.declared.Reply.{Reply}
use Rattle.hay_reply.specs.Fits.{FitsReply, IsLarge}
use Rattle.hay_reply.specs.Reading.{is_mark}
use Rattle.hay_reply.specs.Replies.{numbered_line, reply_text}
use Rattle.hay_audit.specs.Feeds.{feed_at}
use Rattle.hay_audit_steps.proofs.Feeds.{Fine, cut_once, fine_reply, large, line_text, on, same_front}

-- WHERE A LINE ENDS

pub record IsLine (text : List ℕ) (n : ℕ) : Type 0 where
  pub within : n < length text
  pub parts : text ≡ take n text ++ 10 ∷ drop (n + 1) text
  pub fine : Fine (take n text)

some_same : (a b : ℕ) → Some a ≡ Some b → a ≡ b
some_same a b e = cc

pub line_is : (text : List ℕ) (n : ℕ) → feed_at text ≡ Some n → IsLine text n
line_is [] n e = absurd cc
line_is (b ∷ text) n e = by_first (cases_Bool (b == 10)) (λ m g. line_is text m g)
  where
    here : b ≡ 10 → (m : ℕ) → 0 ≡ m → IsLine (b ∷ text) m
    here is m zero_is = subst (λ (i : ℕ). IsLine (b ∷ text) i) zero_is (record { within = omega arith; parts = ap (λ (x : ℕ). x ∷ text) is; fine = refl })

    later : (b == 10) ≡ false → (m : ℕ) → IsLine text m → IsLine (b ∷ text) (suc m)
    later other m rest = record {
      within = omega (arith, rest.within);
      parts = ap (λ (xs : List ℕ). b ∷ xs) rest.parts ∙ ap (λ (k : ℕ). b ∷ (take m text ++ 10 ∷ drop k (b ∷ text))) (let e' : suc (m + 1) ≡ suc m + 1 = omega arith in e');
      fine = and_from (not (is_mark 10 b)) (list_all (λ c. not (is_mark 10 c)) (take m text)) (ap not other) rest.fine;
    }

    by_rest : (b == 10) ≡ false → ((m : ℕ) → feed_at text ≡ Some m → IsLine text m) → (o : Option ℕ) → feed_at text ≡ o → option_map suc o ≡ Some n → IsLine (b ∷ text) n
    by_rest other rest None g h = absurd cc
    by_rest other rest (Some m) g h = subst (λ (i : ℕ). IsLine (b ∷ text) i) (some_same (suc m) n h) (later other m (rest m g))

    by_first : ((b == 10) ≡ true) ⊎ ((b == 10) ≡ false) → ((m : ℕ) → feed_at text ≡ Some m → IsLine text m) → IsLine (b ∷ text) n
    by_first (inl feed) rest = here (eqb-true b 10 feed) n (some_same 0 n (sym (cond-true (b == 10) (Some 0) (option_map suc (feed_at text)) feed) ∙ e))
    by_first (inr other) rest = by_rest other rest (feed_at text) refl (sym (cond-false (b == 10) (Some 0) (option_map suc (feed_at text)) other) ∙ e)

pub no_line : (text : List ℕ) → feed_at text ≡ None → (front rest : List ℕ) → front ++ 10 ∷ rest ≢ text
no_line [] e [] rest is = absurd cc
no_line [] e (x ∷ front) rest is = absurd cc
no_line (b ∷ text) e front rest is = by_first front (cases_Bool (b == 10)) is (λ f r g h. no_line text g f r h)
  where
    none_below : (o : Option ℕ) → option_map suc o ≡ None → o ≡ None
    none_below None g = refl
    none_below (Some m) g = absurd cc

    by_first : (front : List ℕ) → ((b == 10) ≡ true) ⊎ ((b == 10) ≡ false) → front ++ 10 ∷ rest ≡ b ∷ text → ((f r : List ℕ) → feed_at text ≡ None → f ++ 10 ∷ r ≡ text → ⊥) → ⊥
    by_first front (inl feed) g more = absurd (let lie : Some 0 ≡ None = sym (cond-true (b == 10) (Some 0) (option_map suc (feed_at text)) feed) ∙ e in cc)
    by_first [] (inr other) g more =
        absurd (let first : 10 ≡ b = cc in let lie : (10 == 10) ≡ false = ap (λ (x : ℕ). x == 10) first ∙ other in cc)
    by_first (x ∷ front) (inr other) g more =
        let tail : front ++ 10 ∷ rest ≡ text = cc in
        more front rest (none_below (feed_at text) (sym (cond-false (b == 10) (Some 0) (option_map suc (feed_at text)) other) ∙ e)) tail

-- THE REPLY

-- the line's number stands first, and then the reply
pub answer_is : (line : ℕ) (r : Reply) (text : List ℕ) (n s : ℕ) → IsLine text n → take n text ≡ (decimal line ++ codes " ") ++ drop s (take n text) → reply_text r ≡ drop s (take n text)
    → numbered_line line r ++ drop (n + 1) text ≡ text
answer_is line r text n s is first reply =
    line_text line r (drop (n + 1) text)
    ∙ ap (λ (xs : List ℕ). (decimal line ++ codes " ") ++ (xs ++ 10 ∷ drop (n + 1) text)) reply
    ∙ sym (append_assoc (decimal line ++ codes " ") (drop s (take n text)) (10 ∷ drop (n + 1) text))
    ∙ ap (λ (xs : List ℕ). xs ++ 10 ∷ drop (n + 1) text) (sym first)
    ∙ sym is.parts

-- where a reply stands at the front, the first line is its number and its text
pub front_is : (line : ℕ) (r : Reply) (text rest : List ℕ) (n : ℕ) → IsLarge line → FitsReply r → IsLine text n → numbered_line line r ++ rest ≡ text
    → take n text ≡ (decimal line ++ codes " ") ++ reply_text r
front_is line r text rest n small fits is e =
    let fine : Fine ((decimal line ++ codes " ") ++ reply_text r) = on (decimal line ++ codes " ") (reply_text r) (on (decimal line) (codes " ") (large line small) refl) (fine_reply r fits) in
    let whole : ((decimal line ++ codes " ") ++ reply_text r) ++ 10 ∷ rest ≡ take n text ++ 10 ∷ drop (n + 1) text =
    append_assoc (decimal line ++ codes " ") (reply_text r) (10 ∷ rest) ∙ sym (line_text line r rest) ∙ e ∙ is.parts in
    sym (cut_once ((decimal line ++ codes " ") ++ reply_text r) (take n text) rest (drop (n + 1) text) fine is.fine whole).0

pub no_answer : (line : ℕ) (text : List ℕ) → feed_at text ≡ None → (r : Reply) (rest : List ℕ) → numbered_line line r ++ rest ≢ text
no_answer line text none r rest e =
    no_line text none ((decimal line ++ codes " ") ++ reply_text r) rest (append_assoc (decimal line ++ codes " ") (reply_text r) (10 ∷ rest) ∙ sym (line_text line r rest) ∙ e)

pub other_number : (line : ℕ) (text : List ℕ) (n : ℕ) → IsLarge line → IsLine text n → ((rest : List ℕ) → take n text ≢ (decimal line ++ codes " ") ++ rest)
    → (r : Reply) (rest : List ℕ) → FitsReply r → numbered_line line r ++ rest ≢ text
other_number line text n small is other r rest fits e = other (reply_text r) (front_is line r text rest n small fits is e)

pub no_reply : (line : ℕ) (text : List ℕ) (n s : ℕ) → IsLarge line → IsLine text n → take n text ≡ (decimal line ++ codes " ") ++ drop s (take n text)
    → ((r : Reply) → FitsReply r → reply_text r ≢ drop s (take n text)) → (r : Reply) (rest : List ℕ) → FitsReply r → numbered_line line r ++ rest ≢ text
no_reply line text n s small is first none r rest fits e =
    none r fits (same_front (decimal line ++ codes " ") (reply_text r) (drop s (take n text)) (sym (front_is line r text rest n small fits is e) ∙ first))

-- what a slice up to the end has
pub all_behind : (xs : List ℕ) (s : ℕ) → take (length xs - s) (drop s xs) ≡ drop s xs
all_behind xs s = take_all (length xs - s) (drop s xs) (omega (arith, length-drop s xs))
